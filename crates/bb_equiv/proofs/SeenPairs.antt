-- A pair of two flat netlists as the plain pair of the outputs that are compared, each of which counts where the care output is 1; where
-- no care output is asked for, it is that pair itself, and each counts everywhere.
use Rattle.std.proofs.Common.{◌≡◌, ◌↔◌, ◌<◌, ◌∙◌, ℕ, Bool, true, List, [], map, ◌++◌, length, get_or, None, Option, Some, refl, sym, ap, subst, arith}
use Rattle.std.specs.Prelude.{slice_get}
use Rattle.std.proofs.lemmas.List.{length-map}
use Rattle.std.proofs.lemmas.List.Edits.{remove-append_left}
use Rattle.std.proofs.lemmas.List.FromFn.{length-range_with_len}
use Rattle.std.proofs.lemmas.Option.{slice_get_within}
use Rattle.bb_lemmas.proofs.Picked.{one_place}
use Rattle.bb_lemmas.proofs.Places.{got-map, got_left}
use Rattle.bb_net.specs.Equivalence.{IsOutput, IsRight}
use Rattle.bb_net.specs.CutPoints.{CutOutput, TopOutput, NextState, cut_inputs, cut_outputs, state_texts}
use Rattle.bb_net.specs.Flats.{FlatNet, IsFlat}
use Rattle.bb_net.specs.Netlists.{Netlist}
use Rattle.bb_net.specs.Pairs.{NetPair, IsPair}
use Rattle.bb_net.specs.Values.{bit_of, flat, value_of}
use Rattle.bb_care.specs.Constrained.{constrained, with_copies}
use Rattle.bb_match.specs.Pairing.{IsPairOf, IsPlainPairOf, without, without_output}
use Rattle.bb_match.specs.Refusals.{compared}
use Rattle.bb_match.specs.Laws.{ComparedAreTheOthers}
use Rattle.bb_equiv.specs.DesignEquivalence.{IsCompared}
use Rattle.bb_equiv.proofs.LessOutputs.{get_without, got_without, without-map, old_off, old_place, place_of}
use Rattle.bb_equiv.specs.Inside.LowerLaws.{LowerLaws}

-- the cut outputs that are compared
abbrev pub compared_outputs : Option (List ℕ) → FlatNet → List CutOutput
compared_outputs care f = map TopOutput (compared care f.outs) ++ map NextState (state_texts f)

-- they are those of a netlist without the care output
pub less_outputs : ComparedAreTheOthers → (f : FlatNet) → IsFlat f → (care : List ℕ) (k : ℕ) → slice_get f.outs k ≡ Some care → cut_outputs (without_output k f) ≡ compared_outputs (Some care) f
less_outputs others f flat_f care k occurs = ap (λ l. map TopOutput l ++ map NextState (state_texts f)) (sym (others care f k flat_f occurs))

-- a flat netlist is another with these outputs alone
pub record IsPartOf (care : Option (List ℕ)) (f h : FlatNet) : Type 0 where
  pub inputs : cut_inputs h ≡ cut_inputs f
  pub boxes : h.boxes ≡ f.boxes
  pub outputs : cut_outputs h ≡ compared_outputs care f
  pub value : (xs : List Bool) → flat h.net xs [] ≡ flat f.net xs []
  -- the place of each of its outputs in the other
  pub old : ℕ → ℕ
  pub texts : (j : ℕ) → slice_get (cut_outputs h) j ≡ slice_get (cut_outputs f) (old j)
  pub outs : (j : ℕ) → get_or h.net.outs j 0 ≡ get_or f.net.outs (old j) 0
  pub counts : (j : ℕ) (o : CutOutput) → slice_get (cut_outputs h) j ≡ Some o → IsCompared care o
  pub covers : (i : ℕ) (o : CutOutput) → slice_get (cut_outputs f) i ≡ Some o → IsCompared care o → (j : ℕ) × (old j ≡ i)

-- this is the bit of the care output, where one is asked for
abbrev pub IsRequestedBy : Option (List ℕ) → FlatNet → (List Bool → Bool) → Type 0
IsRequestedBy None f requested = (xs : List Bool) → requested xs ≡ true
IsRequestedBy (Some care) f requested = (k : ℕ) × (slice_get (cut_outputs f) k ≡ Some (TopOutput care)) × ((xs : List Bool) → requested xs ≡ bit_of (flat f.net xs []) (get_or f.net.outs k 0))

pub record IsSeenAs (care : Option (List ℕ)) (shared : Bool) (f g : FlatNet) (p q : NetPair) : Type 0 where
  pub kept : IsPair q
  pub less : FlatNet
  pub less_flat : IsFlat less
  pub part : IsPartOf care f less
  pub paired : IsPlainPairOf shared less g q
  pub inputs : p.imp.inputs ≡ q.imp.inputs
  pub outputs : length p.imp.outs ≡ length q.imp.outs
  pub boxes : p.imp.boxes ≡ q.imp.boxes
  -- an output is right in the pair where it is right in the plain pair or is not asked for
  pub requested : List Bool → Bool
  pub requested_by : IsRequestedBy care f requested
  pub right : (x : List Bool) (box : ℕ → ℕ → List Bool → Bool) (j : ℕ) → IsOutput p.imp j
      → IsRight p.spec p.imp x (value_of p.imp x box) j ↔ (requested x ≡ true → IsRight q.spec q.imp x (value_of q.imp x box) j)

abbrev Seen : Option (List ℕ) → Bool → FlatNet → FlatNet → NetPair → Type 0
Seen care shared f g p = (q : NetPair) × IsSeenAs care shared f g p q

whole : (f : FlatNet) → IsPartOf None f f
whole f = record {
  inputs = refl;
  boxes = refl;
  outputs = refl;
  value = λ xs. refl;
  old = λ j. j;
  texts = λ j. refl;
  outs = λ j. refl;
  counts = λ j o at. tt;
  covers = λ i o at counts. (i, refl);
}

plain_seen : (shared : Bool) (f g : FlatNet) (p : NetPair) → IsFlat f → IsPair p → IsPlainPairOf shared f g p → Seen None shared f g p
plain_seen shared f g p flat_f kept paired = (
  p,
  record {
    kept = kept;
    less = f;
    less_flat = flat_f;
    part = whole f;
    paired = paired;
    inputs = refl;
    outputs = refl;
    boxes = refl;
    requested = λ xs. true;
    requested_by = λ xs. refl;
    right = λ x box j there. ((λ right on. right), (λ right. right refl));
  },
)

-- without the care output

module _ (laws : LowerLaws) (f : FlatNet) (flat_f : IsFlat f) (care : List ℕ) (k : ℕ) (occurs : slice_get f.outs k ≡ Some care) where
  abbrev h : FlatNet
  h = without_output k f

  pub within : k < length f.outs
  within = slice_get_within f.outs k care occurs

  care_at : slice_get (cut_outputs f) k ≡ Some (TopOutput care)
  care_at = got_left (map TopOutput f.outs) (map NextState (state_texts f)) k (TopOutput care) (got-map TopOutput f.outs k care occurs)

  listed : cut_outputs h ≡ without k (cut_outputs f)
  listed = ap (λ l. l ++ map NextState (state_texts f)) (without-map TopOutput k f.outs)
      ∙ sym (remove-append_left (map TopOutput f.outs) (map NextState (state_texts f)) k (omega (arith, within, length-map f.outs TopOutput)))

  texts : (j : ℕ) → slice_get (cut_outputs h) j ≡ slice_get (cut_outputs f) (old_place k j)
  texts j = ap (λ l. slice_get l j) listed ∙ got_without k (cut_outputs f) j

  part : IsPartOf (Some care) f h
  part = record {
    inputs = refl;
    boxes = refl;
    outputs = less_outputs laws.others f flat_f care k occurs;
    value = λ xs. refl;
    old = old_place k;
    texts = texts;
    outs = λ j. get_without k f.net.outs j 0;
    counts = λ j o at e. old_off k j (one_place (cut_outputs f) (old_place k j) k (TopOutput care) (laws.apart f flat_f).outputs (sym (texts j) ∙ at ∙ ap Some e) care_at);
    covers = λ i o at off. place_of k i (λ e. off (some_one o (TopOutput care) (sym at ∙ ap (slice_get (cut_outputs f)) e ∙ care_at)));
  }
    where
      some_one : (a b : CutOutput) → Some a ≡ Some b → a ≡ b
      some_one a b e = cc e

  module _ (shared : Bool) (g : FlatNet) (flat_g : IsFlat g) (rest : NetPair) (paired : IsPlainPairOf shared h g rest) where
    flat_h : IsFlat h
    flat_h = laws.flat f k flat_f within

    rest_kept : IsPair rest
    rest_kept = laws.kept None shared h g rest flat_h flat_g paired

    abbrev c : ℕ
    c = get_or f.net.outs k 0

    there : c < length rest.spec.cells
    there = subst (λ (net : Netlist). c < length net.cells) (sym paired.spec_stays) (flat_f.net.outs_there k 0 (omega (arith, within, flat_f.named.outputs)))

    outs_same : length (constrained c rest).imp.outs ≡ length rest.imp.outs
    outs_same = length-range_with_len (length (with_copies rest.spec rest.imp).cells) (length rest.imp.outs)

    pub constrained_seen : IsSeenAs (Some care) shared f g (constrained c rest) rest
    constrained_seen = record {
      kept = rest_kept;
      less = h;
      less_flat = flat_h;
      part = part;
      paired = paired;
      inputs = refl;
      outputs = outs_same;
      boxes = refl;
      requested = λ xs. bit_of (flat rest.spec xs []) c;
      requested_by = (k, care_at, λ xs. ap (λ (net : Netlist). bit_of (flat net xs []) c) paired.spec_stays);
      right = λ x box j out. laws.right rest c rest_kept there x box j (omega (arith, out, outs_same));
    }

pub seen : LowerLaws → (care : Option (List ℕ)) (shared : Bool) (f g : FlatNet) (p : NetPair) → IsFlat f → IsFlat g → IsPair p → IsPairOf care shared f g p → Seen care shared f g p
seen laws None shared f g p flat_f flat_g kept paired = plain_seen shared f g p flat_f kept paired
seen laws (Some care) shared f g p flat_f flat_g kept paired =
    (paired.rest, subst (λ p. IsSeenAs (Some care) shared f g p paired.rest) (sym paired.is) (constrained_seen laws f flat_f care paired.place paired.occurs shared g flat_g paired.rest paired.paired))
