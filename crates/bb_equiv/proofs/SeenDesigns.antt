-- A pair that implements two designs, seen as the plain pair of the outputs that are compared: its bits are those of the designs.
use Rattle.std.proofs.Common.{◌≡◌, ◌↔◌, ℕ, ◌∷◌, ◌∙◌, ◌<◌, Bool, true, false, List, [], map, length, get_or, Contains, None, Option, Some, refl, sym, ap, ap₂, subst, arith}
use Rattle.std.specs.Prelude.{slice_get}
use Rattle.std.specs.List.{AllZip, enumerate_from}
use Rattle.std.proofs.lemmas.List.{get_or-map, length-map}
use Rattle.std.proofs.lemmas.List.FromFn.{length-enumerate_from}
use Rattle.std.proofs.lemmas.Option.{get_or_from_slice_get, slice_get_within}
use Rattle.bb_bits.specs.Contents.{Contents}
use Rattle.bb_bits.specs.Tables.{TableBits}
use Rattle.bb_lemmas.proofs.Picked.{one_place, picked_at}
use Rattle.bb_net.specs.Equivalence.{out_bit, wanted_bit}
use Rattle.bb_net.specs.CutPoints.{CutOutput, TopOutput, cut_inputs, cut_outputs}
use Rattle.bb_net.specs.Flats.{FlatNet}
use Rattle.bb_net.specs.Netlists.{Netlist, Pins}
use Rattle.bb_net.specs.Pairs.{NetPair, BoxTexts, NamesPins}
use Rattle.bb_net.specs.Rearrangements.{new_place}
use Rattle.bb_net.specs.Values.{bit_of, flat, flat_with, free_bit, tabled_bit}
use Rattle.bb_implements.specs.Laws.ContentTables.{AreTablesOf}
use Rattle.bb_design.specs.Hierarchy.{Design, boxes}
use Rattle.bb_design.specs.Inside.Allowed.{IsAllowed}
use Rattle.bb_design.specs.Worlds.{World, Vector, HasVector, IsWorld, FitDesign, outputs_in}
use Rattle.bb_match.specs.Pairing.{Picks}
use Rattle.bb_match.specs.Refusals.{Box}
use Rattle.bb_equiv.specs.DesignEquivalence.{IsRequired, IsPairFor}
use Rattle.bb_equiv.specs.Inside.LowerLaws.{LowerLaws}
use Rattle.bb_equiv.proofs.SeenPairs.{IsRequestedBy, IsSeenAs, seen}
use Rattle.bb_equiv.proofs.WorldOutputs.{IsFilled, bit_out, ins_count, output_at, output_there, outs_count}

picked_bits : {A : Type 0} (x : A → Bool) (all : List A) (ps : List ℕ) (us : List A) → Picks all ps us → map (bit_of (map x all)) ps ≡ map x us
picked_bits x all [] [] e = refl
picked_bits x all [] (u ∷ us) e = cc e
picked_bits x all (p ∷ ps) [] e = cc e
picked_bits x all (p ∷ ps) (u ∷ us) e =
    let head : slice_get all p ≡ Some u = cc e in
    let tail : Picks all ps us = cc e in
    let fits = slice_get_within all p u head in
    ap₂ ◌∷◌ (get_or-map x all p u false fits ∙ ap x (get_or_from_slice_get all p u u head)) (picked_bits x all ps us tail)

-- a pair that implements two sound designs, seen as the plain pair of what is compared
pub record IsSeen (care : Option (List ℕ)) (shared : Bool) (spec imp : Design) (p : NetPair) : Type 0 where
  pub laws : LowerLaws
  pub spec_allowed : IsAllowed spec
  pub imp_allowed : IsAllowed imp
  pub pair : IsPairFor care shared spec imp p
  pub rest : NetPair
  pub view : IsSeenAs care shared pair.spec_net pair.imp_net p rest

abbrev pub pair_seen : {care : Option (List ℕ)} {shared : Bool} (laws : LowerLaws) (spec imp : Design) (p : NetPair) → IsAllowed spec → IsAllowed imp → IsPairFor care shared spec imp p → IsSeen care shared spec imp p
pair_seen {care} {shared} laws spec imp p spec_allowed imp_allowed pair =
    let s = seen laws care shared pair.spec_net pair.imp_net p pair.spec_flat pair.imp_flat pair.kept pair.paired in
    record { laws = laws; spec_allowed = spec_allowed; imp_allowed = imp_allowed; pair = pair; rest = s.0; view = s.1 }

module _ {care : Option (List ℕ)} {shared : Bool} {spec imp : Design} {p : NetPair} (s : IsSeen care shared spec imp p) where
  abbrev f : FlatNet
  f = s.pair.spec_net

  -- its outputs that are compared
  abbrev h : FlatNet
  h = s.view.less

  abbrev g : FlatNet
  g = s.pair.imp_net

  abbrev q : NetPair
  q = s.rest

  -- the specification has no boxes

  no_texts : f.boxes ≡ []
  no_texts = sym s.view.part.boxes ∙ s.view.paired.fit Box

  no_pins : length f.net.boxes ≡ 0
  no_pins = pins_count f.boxes f.net.boxes s.pair.spec_flat.named.boxes no_texts
    where
      pins_count : (ts : List BoxTexts) (qs : List Pins) → AllZip NamesPins ts qs → ts ≡ [] → length qs ≡ 0
      pins_count [] [] all e = refl
      pins_count [] (q ∷ qs) all e = absurd all
      pins_count (t ∷ ts) qs all e = cc e

  no_boxes : length (boxes spec) ≡ 0
  no_boxes = sym (ap length s.pair.spec_implements.listed.boxes ∙ length-map (enumerate_from 0 (boxes spec)) _ ∙ length-enumerate_from 0 (boxes spec)) ∙ sym s.pair.spec_implements.ordered.box_count ∙ no_pins

  spec_tables : (contents : Contents) → AreTablesOf f contents []
  spec_tables contents = record {
    fit = record {
      count = sym no_pins;
      inputs = λ b fits. absurd (omega (arith, fits, no_pins));
      outputs = λ b fits. absurd (omega (arith, fits, no_pins));
      whole = λ b fits. absurd (omega (arith, fits, no_pins));
    };
    rows = λ b fits. absurd (omega (arith, fits, no_pins));
  }

  pub spec_filled : (contents : Contents) → IsFilled spec f contents []
  spec_filled contents = record {
    allowed = s.spec_allowed;
    occurs = s.pair.spec_implements;
    flat_net = s.pair.spec_flat;
    fit = λ k scope lt. absurd (omega (arith, lt, no_boxes));
    are = spec_tables contents;
  }

  pub imp_filled : (contents : Contents) (tables : List TableBits) → FitDesign imp contents → AreTablesOf g contents tables → IsFilled imp g contents tables
  imp_filled contents tables fit are = record { allowed = s.imp_allowed; occurs = s.pair.imp_implements; flat_net = s.pair.imp_flat; fit = fit; are = are }

  without_boxes : (xs : List Bool) → flat f.net xs [] ≡ flat_with f.net xs []
  without_boxes xs = s.laws.by_boxes f.net s.pair.spec_implements.netlist xs (free_bit f.net.boxes []) (tabled_bit []) (λ b q fits pin. absurd (omega (arith, fits, no_pins)))

  pub in_count : length (cut_inputs f) ≡ p.imp.inputs
  in_count = ap length (sym s.view.part.inputs) ∙ ins_count h s.view.less_flat ∙ ap (λ (net : Netlist). net.inputs) (sym s.view.paired.spec_stays) ∙ s.view.kept.beside.inputs ∙ sym s.view.inputs

  pub out_count : length (cut_outputs h) ≡ length p.imp.outs
  out_count = outs_count h s.view.less_flat ∙ ap (λ (net : Netlist). length net.outs) (sym s.view.paired.spec_stays) ∙ s.view.kept.beside.outputs ∙ sym s.view.outputs

  -- an output that is compared has its place among those of the specification
  pub in_spec : (j : ℕ) (o : CutOutput) → slice_get (cut_outputs h) j ≡ Some o → slice_get (cut_outputs f) (s.view.part.old j) ≡ Some o
  in_spec j o at = sym (s.view.part.texts j) ∙ at

  -- and that of its name in the implementation
  pub other_place : (j : ℕ) (o : CutOutput) → slice_get (cut_outputs h) j ≡ Some o → (i : ℕ) × (slice_get s.view.paired.picks j ≡ Some i) × (slice_get (cut_outputs g) i ≡ Some o)
  other_place j o at = picked_at (cut_outputs g) s.view.paired.picks (cut_outputs h) j o s.view.paired.outputs at

  module _ (x : Vector) where
    abbrev xs : List Bool
    xs = map x (cut_inputs f)

    -- the bits of the plain pair are those of the designs

    pub wanted_is : (j : ℕ) → wanted_bit q.spec xs j ≡ bit_out f [] x (s.view.part.old j)
    unfolding bit_out
    wanted_is j = ap (λ (net : Netlist). bit_of (flat net xs []) (get_or net.outs j 0)) s.view.paired.spec_stays ∙ ap₂ bit_of (s.view.part.value xs ∙ without_boxes xs) (s.view.part.outs j)

    pub out_is : (tables : List TableBits) (j i : ℕ) → slice_get s.view.paired.picks j ≡ Some i → i < length (cut_outputs g) → out_bit q.imp (flat_with q.imp xs tables) j ≡ bit_out g tables x i
    unfolding bit_out
    out_is tables j i at fits =
        let re = s.view.paired.rearranged in
        let numbers = s.view.paired.numbers in
        let picks = s.view.paired.picks in
        let k = get_or g.net.outs i 0 in
        let place : get_or q.imp.outs j 0 ≡ new_place numbers k = ap (λ l. get_or l j 0) re.outs ∙ get_or-map (λ m. new_place numbers (get_or g.net.outs m 0)) picks j i 0 (slice_get_within picks j i at)
        ∙ ap (λ m. new_place numbers (get_or g.net.outs m 0)) (get_or_from_slice_get picks j i i at) in
        let there : k < length g.net.cells = s.pair.imp_flat.net.outs_there i 0 (omega (arith, fits, outs_count g s.pair.imp_flat)) in
        let inputs : Picks (cut_inputs f) numbers (cut_inputs g) = subst (λ l. Picks l numbers (cut_inputs g)) s.view.part.inputs s.view.paired.inputs in
        ap (bit_of (flat_with q.imp xs tables)) place ∙ s.laws.rearranged numbers picks g.net q.imp s.pair.imp_flat.net s.view.kept.imp re xs (tabled_bit tables) k there
        ∙ ap (λ ys. bit_of (flat_with g.net ys tables) k) (picked_bits x (cut_inputs f) numbers (cut_inputs g) inputs)

    -- agreement is asked in a world where the plain pair is asked to be right

    requested_by : (care : Option (List ℕ)) (requested : List Bool → Bool) → IsRequestedBy care f requested → (contents : Contents) (w : World) → IsWorld spec contents w → HasVector spec x w → IsRequired care (outputs_in spec w) ↔ (requested xs ≡ true)
    unfolding bit_out
    requested_by None requested by contents w is_w has_w = ((λ on. by xs), (λ on. tt))
    requested_by (Some care) requested (k, at, by) contents w is_w has_w = (
      (λ on.
          let place = output_at s.laws (spec_filled contents) x w is_w has_w (TopOutput care) true on in
          let same : place.0 ≡ k = one_place (cut_outputs f) place.0 k (TopOutput care) (s.laws.apart f s.pair.spec_flat).outputs place.1 at in
          is ∙ ap (bit_out f [] x) (sym same) ∙ place.3),
      (λ on. subst (λ bit. Contains (outputs_in spec w) (TopOutput care, bit)) (sym is ∙ on) (output_there s.laws (spec_filled contents) x w is_w has_w k (TopOutput care) at)),
    )
      where
        is : requested xs ≡ bit_out f [] x k
        is = by xs ∙ ap (λ bits. bit_of bits (get_or f.net.outs k 0)) (without_boxes xs)

    pub requested_is : (contents : Contents) (w : World) → IsWorld spec contents w → HasVector spec x w → IsRequired care (outputs_in spec w) ↔ (s.view.requested xs ≡ true)
    requested_is contents w is_w has_w = requested_by care s.view.requested s.view.requested_by contents w is_w has_w
