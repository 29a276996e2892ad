-- Pairs of the same designs are alike: their netlists are, and so they are rearranged in one way. Where outputs count only where a care
-- output is 1, this is one output in both specifications, and so the care cells have one formula.
use Rattle.std.proofs.Common.{◌≡◌, ℕ, ◌<◌, Bool, false, List, Option, None, Some, ◌++◌, length, map, get_or, sym, ap, ap₂, subst, ◌∙◌, arith}
use Rattle.std.specs.Prelude.{slice_get, slice_index}
use Rattle.std.proofs.lemmas.List.{get_or-map}
use Rattle.std.proofs.lemmas.Option.{slice_get_within}
use Rattle.bb_net.specs.Kinds.{AreKinds}
use Rattle.bb_net.specs.Laws.KindLaws.{KindsAreOne}
use Rattle.bb_net.specs.Netlists.{IsNetlist}
use Rattle.bb_net.specs.Pairs.{NetPair, IsPair, box_key}
use Rattle.bb_net.specs.Rearrangements.{IsRearranged}
use Rattle.bb_iso.specs.Laws.Isomorphism.{AreIsomorphic, AreIsomorphicPairs}
use Rattle.bb_iso.specs.Laws.Formulas.{Const, formula_at}
use Rattle.bb_iso.specs.Laws.{RearrangedStayIsomorphic}
use Rattle.bb_care.specs.Constrained.{constrained}
use Rattle.bb_care.specs.Laws.{ConstrainedPairsStayIsomorphic}
use Rattle.bb_implements.specs.Laws.IsomorphicNets.{ImplementingNetsAreIsomorphic}
use Rattle.bb_net.specs.Flats.{FlatNet, IsFlat}
use Rattle.bb_implements.specs.Laws.NamingLaws.{AreNamedTheSame, ImplementingNetsAreNamedTheSame}
use Rattle.bb_net.specs.CutPoints.{TopInput, State, TopOutput, NextState, cut_inputs, cut_outputs}
use Rattle.bb_equiv.specs.Laws.IsomorphicPairs.{PairsForDesignsAreIsomorphic}
use Rattle.bb_match.specs.Pairing.{IsConstrainedPairOf, IsPairOf, IsPlainPairOf, Picks, input_text, output_name, without, without_output}
use Rattle.bb_match.specs.Laws.{FlatNetsHaveCutsApart, PairsAreKept, WithoutOutputsAreFlat}
use Rattle.bb_lemmas.proofs.Picked.{one_place, same_places}
use Rattle.bb_equiv.proofs.LessOutputs.{without-map}

-- what is known of pairs, and of netlists that implement one design
pub record IsomorphismLaws : Type 0 where
  pub kinds : KindsAreOne
  pub rearranged : RearrangedStayIsomorphic
  pub apart : FlatNetsHaveCutsApart
  pub kept : PairsAreKept
  pub less : WithoutOutputsAreFlat
  pub constrained : ConstrainedPairsStayIsomorphic
  pub named : ImplementingNetsAreNamedTheSame
  pub alike : ImplementingNetsAreIsomorphic

inputs_isomorphic : (f g : FlatNet) → AreNamedTheSame f g → cut_inputs f ≡ cut_inputs g
inputs_isomorphic f g alike = ap₂ (λ ins regs. map TopInput ins ++ map State (map (λ r. r.text) regs)) alike.ins alike.regs

outputs_isomorphic : (f g : FlatNet) → AreNamedTheSame f g → cut_outputs f ≡ cut_outputs g
outputs_isomorphic f g alike = ap₂ (λ outs regs. map TopOutput outs ++ map NextState (map (λ r. r.text) regs)) alike.outs alike.regs

-- four flat netlists, of which the first and the third, and the second and the fourth, are alike and named alike
record AreTwice (f g u v : FlatNet) : Type 0 where
  flat_f : IsFlat f
  flat_g : IsFlat g
  flat_u : IsFlat u
  flat_v : IsFlat v
  spec_named : AreNamedTheSame f u
  imp_named : AreNamedTheSame g v
  spec_isomorphic : AreIsomorphic f.net u.net
  imp_isomorphic : AreIsomorphic g.net v.net

module _ (laws : IsomorphismLaws) (shared : Bool) where
  -- without a care output

  module _ (f g u v : FlatNet) (twice : AreTwice f g u v) (p q : NetPair) (a : IsPlainPairOf shared f g p) (b : IsPlainPairOf shared u v q) where
    spec_inputs : cut_inputs f ≡ cut_inputs u
    spec_inputs = inputs_isomorphic f u twice.spec_named

    spec_outputs : cut_outputs f ≡ cut_outputs u
    spec_outputs = outputs_isomorphic f u twice.spec_named

    -- the inputs of one text have one number
    numbers : b.numbers ≡ a.numbers
    numbers = same_places (cut_inputs u) b.numbers a.numbers (cut_inputs v) (laws.apart u twice.flat_u).inputs b.inputs
        (subst (λ all. Picks all a.numbers (cut_inputs v)) spec_inputs (subst (Picks (cut_inputs f) a.numbers) (inputs_isomorphic g v twice.imp_named) a.inputs))

    picks : b.picks ≡ a.picks
    picks = same_places (cut_outputs v) b.picks a.picks (cut_outputs u) (laws.apart v twice.flat_v).outputs b.outputs
        (subst (λ all. Picks all a.picks (cut_outputs u)) (outputs_isomorphic g v twice.imp_named) (subst (Picks (cut_outputs g) a.picks) spec_outputs a.outputs))

    rearranged : IsRearranged a.numbers a.picks v.net q.imp
    rearranged = subst (λ l. IsRearranged a.numbers l v.net q.imp) picks (subst (λ l. IsRearranged l b.picks v.net q.imp) numbers b.rearranged)

    plain_isomorphic : IsNetlist p.imp → IsNetlist q.imp → AreIsomorphicPairs p q
    plain_isomorphic kept also = record {
      spec = subst (λ net. AreIsomorphic net q.spec) (sym a.spec_stays) (subst (AreIsomorphic f.net) (sym b.spec_stays) twice.spec_isomorphic);
      imp = laws.rearranged a.numbers a.picks g.net p.imp v.net q.imp twice.flat_g.net kept twice.flat_v.net also a.rearranged rearranged twice.imp_isomorphic;
      ins = a.ins ∙ ap (map input_text) spec_inputs ∙ sym b.ins;
      outs = a.outs ∙ ap (map output_name) spec_outputs ∙ sym b.outs;
      boxes = a.boxes ∙ twice.imp_named.boxes ∙ sym b.boxes;
      kinds = laws.kinds (map (box_key shared) v.boxes) p.kinds q.kinds (subst (λ texts. AreKinds (map (box_key shared) texts) p.kinds) twice.imp_named.boxes a.kinds) b.kinds;
    }

  -- netlists without an output

  twice_without : (k : ℕ) (f g u v : FlatNet) → k < length f.outs → AreTwice f g u v → AreTwice (without_output k f) g (without_output k u) v
  twice_without k f g u v lt twice = record {
    flat_f = laws.less f k twice.flat_f lt;
    flat_g = twice.flat_g;
    flat_u = laws.less u k twice.flat_u (subst (λ outs. k < length outs) twice.spec_named.outs lt);
    flat_v = twice.flat_v;
    spec_named = record { inputs = twice.spec_named.inputs; ins = twice.spec_named.ins; regs = twice.spec_named.regs; outs = ap (without k) twice.spec_named.outs; boxes = twice.spec_named.boxes };
    imp_named = twice.imp_named;
    spec_isomorphic = record {
      inputs = twice.spec_isomorphic.inputs;
      cells = twice.spec_isomorphic.cells;
      boxes = twice.spec_isomorphic.boxes;
      outs = without-map (formula_at f.net.cells) k f.net.outs ∙ ap (without k) twice.spec_isomorphic.outs ∙ sym (without-map (formula_at u.net.cells) k u.net.outs);
    };
    imp_isomorphic = twice.imp_isomorphic;
  }

  -- with a care output

  module _ (care : List ℕ) (f g u v : FlatNet) (twice : AreTwice f g u v) (p q : NetPair) (a : IsConstrainedPairOf care shared f g p) (b : IsConstrainedPairOf care shared u v q) where
    -- it has one number in both specifications
    same_place : a.place ≡ b.place
    same_place = one_place u.outs a.place b.place care twice.flat_u.apart.outs (subst (λ outs. slice_get outs a.place ≡ Some care) twice.spec_named.outs a.occurs) b.occurs

    place_there : a.place < length f.outs
    place_there = slice_get_within f.outs a.place care a.occurs

    less : AreTwice (without_output a.place f) g (without_output a.place u) v
    less = twice_without a.place f g u v place_there twice

    other : IsPlainPairOf shared (without_output a.place u) v b.rest
    other = subst (λ k. IsPlainPairOf shared (without_output k u) v b.rest) (sym same_place) b.paired

    kept : IsPair a.rest
    kept = laws.kept None shared (without_output a.place f) g a.rest less.flat_f less.flat_g a.paired

    also : IsPair b.rest
    also = laws.kept None shared (without_output a.place u) v b.rest less.flat_u less.flat_v other

    rest_isomorphic : AreIsomorphicPairs a.rest b.rest
    rest_isomorphic = plain_isomorphic (without_output a.place f) g (without_output a.place u) v less a.rest b.rest a.paired other kept.imp also.imp

    -- the care cells
    abbrev first : ℕ
    first = slice_index f.net.outs a.place

    abbrev second : ℕ
    second = slice_index u.net.outs b.place

    first_out : a.place < length f.net.outs
    first_out = omega (arith, place_there, twice.flat_f.named.outputs)

    second_out : b.place < length u.net.outs
    second_out = omega (arith, slice_get_within u.outs b.place care b.occurs, twice.flat_u.named.outputs)

    one_formula : formula_at f.net.cells first ≡ formula_at u.net.cells second
    one_formula =
        sym (get_or-map (formula_at f.net.cells) f.net.outs a.place 0 (Const false) first_out)
        ∙ ap₂ (λ fs k. get_or fs k (Const false)) twice.spec_isomorphic.outs same_place
        ∙ get_or-map (formula_at u.net.cells) u.net.outs b.place 0 (Const false) second_out

    constrained_isomorphic : AreIsomorphicPairs p q
    constrained_isomorphic =
        subst (λ x. AreIsomorphicPairs x q) (sym a.is) (subst (AreIsomorphicPairs (constrained first a.rest)) (sym b.is)
        (laws.constrained a.rest b.rest first second kept also rest_isomorphic
        (subst (λ net. first < length net.cells) (sym a.paired.spec_stays) (twice.flat_f.net.outs_there a.place 0 first_out))
        (subst (λ net. second < length net.cells) (sym b.paired.spec_stays) (twice.flat_u.net.outs_there b.place 0 second_out))
        (ap (λ net. formula_at net.cells first) a.paired.spec_stays ∙ one_formula ∙ sym (ap (λ net. formula_at net.cells second) b.paired.spec_stays))))

pub pairs_for_designs_are_isomorphic : IsomorphismLaws → PairsForDesignsAreIsomorphic
pairs_for_designs_are_isomorphic laws care shared spec imp p q allowed also a b = by care a.paired b.paired
  where
    twice : AreTwice a.spec_net a.imp_net b.spec_net b.imp_net
    twice = record {
      flat_f = a.spec_flat;
      flat_g = a.imp_flat;
      flat_u = b.spec_flat;
      flat_v = b.imp_flat;
      spec_named = laws.named spec a.spec_net b.spec_net allowed a.spec_implements b.spec_implements;
      imp_named = laws.named imp a.imp_net b.imp_net also a.imp_implements b.imp_implements;
      spec_isomorphic = laws.alike spec a.spec_net b.spec_net allowed a.spec_implements b.spec_implements;
      imp_isomorphic = laws.alike imp a.imp_net b.imp_net also a.imp_implements b.imp_implements;
    }

    by : (requested : Option (List ℕ)) → IsPairOf requested shared a.spec_net a.imp_net p → IsPairOf requested shared b.spec_net b.imp_net q → AreIsomorphicPairs p q
    by None one other = plain_isomorphic laws shared a.spec_net a.imp_net b.spec_net b.imp_net twice p q one other a.kept.imp b.kept.imp
    by (Some text) one other = constrained_isomorphic laws shared text a.spec_net a.imp_net b.spec_net b.imp_net twice p q one other
