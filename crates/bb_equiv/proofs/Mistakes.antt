-- What is wrong in a pair at a vector, whatever the outputs of the boxes are, is a mistake of the two designs there.
use Rattle.std.proofs.Common.{◌≡◌, ◌≢◌, ◌<◌, ◌*◌, ◌^◌, ◌∙◌, ℕ, Bool, true, false, true≢false, not, List, [], map, length, get_or, Contains, None, Option, Some, refl, sym, ap, subst, arith}
use Rattle.std.specs.Prelude.{slice_get}
use Rattle.std.proofs.lemmas.List.{get_or-map, length-map, length-replicate}
use Rattle.std.proofs.lemmas.List.Elements.{All-contains}
use Rattle.std.proofs.lemmas.Option.{slice_get-get_or, slice_get_within}
use Rattle.bb_bits.specs.Contents.{Contents}
use Rattle.bb_bits.specs.Tables.{TableBits, HasAllBits, zero_table}
use Rattle.bb_net.specs.Equivalence.{IsVector, IsOutput, IsWrong, SomeWrong}
use Rattle.bb_net.specs.Conditions.{IsAlwaysWrong, AlwaysSomeWrongAt}
use Rattle.bb_net.specs.CutPoints.{CutOutput, TopOutput, cut_inputs, cut_outputs}
use Rattle.bb_net.specs.Flats.{FlatNet}
use Rattle.bb_net.specs.Kinds.{per_box}
use Rattle.bb_net.specs.Netlists.{Pins, box_at}
use Rattle.bb_net.specs.Pairs.{NetPair}
use Rattle.bb_net.specs.Values.{flat_with, table_at, tabled_bit, value_of, FitBoxes}
use Rattle.bb_implements.specs.Laws.ContentTables.{AreTablesOf}
use Rattle.bb_implements.specs.Implements.{Implements}
use Rattle.bb_design.specs.Inside.Allowed.{IsAllowed}
use Rattle.bb_design.specs.Hierarchy.{Design}
use Rattle.bb_design.specs.Refusals.{BoxTexts}
use Rattle.bb_design.specs.Worlds.{World, Vector, HasVector, IsWorld, FitDesign, outputs_in}
use Rattle.bb_equiv.specs.Laws.Mistakes.{outputs_of, FailingVectorsAreMistakes, WrongOutputsAreMistakes, WrongVectorsAreMistakes}
use Rattle.bb_equiv.specs.Mistakes.{inputs_of, DifferAt, DifferAtReported, DifferWith, HasWorld, IsMistakeAt}
use Rattle.bb_equiv.proofs.SeenDesigns.{IsSeen, requested_is, imp_filled, in_count, in_spec, other_place, out_count, out_is, pair_seen, spec_filled, wanted_is}
use Rattle.bb_equiv.proofs.FreeOutputs.{free_outputs}
use Rattle.bb_equiv.specs.Inside.LowerLaws.{LowerLaws}
use Rattle.bb_equiv.proofs.NamedPairs.{inputs_are, outputs_are}
use Rattle.bb_equiv.proofs.NamedVectors.{vector_of, vector_is}
use Rattle.bb_equiv.proofs.SharedContents.{SharedLaws, tables_of_kinds}
use Rattle.bb_equiv.proofs.WorldOutputs.{bit_out, output_there, some_world}

-- some contents fit: those of tables without a 1

abbrev pub zero_of : Pins → TableBits
zero_of q = zero_table (length q.ins) (length q.outs)

pub zeros_fit : (boxes : List Pins) → FitBoxes (map zero_of boxes) boxes
zeros_fit boxes = record {
  count = length-map boxes zero_of;
  inputs = λ b there. ap (λ (t : TableBits). t.inputs) (at b there);
  outputs = λ b there. ap (λ (t : TableBits). t.outputs) (at b there);
  whole = λ b there. subst HasAllBits (sym (at b there)) (length-replicate (length (box_at boxes b).outs * 2 ^ length (box_at boxes b).ins) false);
}
  where
    at : (b : ℕ) → b < length boxes → table_at (map zero_of boxes) b ≡ zero_of (box_at boxes b)
    at b there = get_or-map zero_of boxes b _ _ there

some_fit : LowerLaws → (d : Design) (f : FlatNet) → IsAllowed d → Implements d f → (contents : Contents) × FitDesign d contents
some_fit laws d f allowed occurs =
    let c = laws.contents d f (allowed.sound BoxTexts) occurs (map zero_of f.net.boxes) (zeros_fit f.net.boxes) in
    (c.0, c.1)

pub other_bit : (a b : Bool) → a ≢ b → a ≡ not b
other_bit true true off = absurd (off refl)
other_bit true false off = refl
other_bit false true off = refl
other_bit false false off = absurd (off refl)

module _ {care : Option (List ℕ)} {shared : Bool} {spec imp : Design} {p : NetPair} (s : IsSeen care shared spec imp p) where
  abbrev f : FlatNet
  f = s.pair.spec_net

  abbrev h : FlatNet
  h = s.view.less

  abbrev g : FlatNet
  g = s.pair.imp_net

  abbrev q : NetPair
  q = s.rest

  -- what is wrong in the pair is asked for, and is wrong in the plain pair
  wrong_below : (bits : List Bool) (box : ℕ → ℕ → List Bool → Bool) (j : ℕ) → IsOutput p.imp j → IsWrong p.spec p.imp bits (value_of p.imp bits box) j
      → (s.view.requested bits ≡ true) × IsWrong q.spec q.imp bits (value_of q.imp bits box) j
  wrong_below bits box j there wrong = (by (s.view.requested bits) refl, λ right. wrong ((s.view.right bits box j there).1 (λ on. right)))
    where
      by : (b : Bool) → s.view.requested bits ≡ b → s.view.requested bits ≡ true
      by true e = e
      by false e = absurd (wrong ((s.view.right bits box j there).1 (λ on. absurd (true≢false (sym on ∙ e)))))

  -- an output has its place among the cut outputs
  pub place_of : (j : ℕ) → IsOutput p.imp j → slice_get (cut_outputs h) j ≡ Some (get_or (cut_outputs h) j (TopOutput []))
  place_of j there = slice_get-get_or (cut_outputs h) j (TopOutput []) (omega (arith, there, out_count s))

  module _ (x : Vector) where
    abbrev xs : List Bool
    xs = map x (cut_inputs f)

    -- by tables of the contents: worlds differ at the place of an output that is wrong
    worlds_differ : (contents : Contents) (tables : List TableBits) → FitDesign imp contents → AreTablesOf g contents tables → (w v : World) → IsWorld spec contents w → HasVector spec x w → IsWorld imp contents v → HasVector imp x v
        → (j : ℕ) (o : CutOutput) → slice_get (cut_outputs h) j ≡ Some o → IsWrong q.spec q.imp xs (flat_with q.imp xs tables) j → DifferAt care spec imp w v o
    worlds_differ contents tables fit are w v is_w has_w is_v has_v j o at wrong =
        let i = other_place s j o at in
        let own = bit_out f [] x (s.view.part.old j) in
        let its = bit_out g tables x i.0 in
        let off : its ≢ own = λ e. wrong (out_is s x tables j i.0 i.1 (slice_get_within (cut_outputs g) i.0 o i.2) ∙ e ∙ sym (wanted_is s x j)) in
        record {
          is_compared = s.view.part.counts j o at;
          bit = own;
          spec_has = output_there s.laws (spec_filled s contents) x w is_w has_w (s.view.part.old j) o (in_spec s j o at);
          imp_has = subst (λ b. Contains (outputs_in imp v) (o, b)) (other_bit its own off) (output_there s.laws (imp_filled s contents tables fit are) x v is_v has_v i.0 o i.2);
        }

    both_worlds : (contents : Contents) → FitDesign imp contents → HasWorld spec contents x × HasWorld imp contents x
    both_worlds contents fit =
        let t = s.laws.tables imp g s.pair.imp_implements contents fit in
        (some_world s.laws (spec_filled s contents) x, some_world s.laws (imp_filled s contents t.0 fit t.1) x)

    -- with these tables an output is wrong in the pair that is reported, or that need not be reported
    abbrev IsWrongWith : Option CutOutput → List TableBits → Type 0
    IsWrongWith reported tables = (j : ℕ) × (o : CutOutput) × IsOutput p.imp j × (slice_get (cut_outputs h) j ≡ Some o) × IsWrong p.spec p.imp xs (flat_with p.imp xs tables) j
        × ((w v : World) → DifferAt care spec imp w v o → DifferAtReported care spec imp w v reported)

    differ_with : (reported : Option CutOutput) (contents : Contents) (tables : List TableBits) → FitDesign imp contents → AreTablesOf g contents tables → IsWrongWith reported tables → DifferWith care spec imp contents x reported
    differ_with reported contents tables fit are (j, o, there, at, is, report) =
        let below = wrong_below xs (tabled_bit tables) j there is in
        record {
          worlds = both_worlds contents fit;
          required = λ w is_w has_w. (requested_is s x contents w is_w has_w).1 below.0;
          differ = λ w v is_w has_w is_v has_v. report w v (worlds_differ contents tables fit are w v is_w has_w is_v has_v j o at below.1);
        }

    mistake : (reported : Option CutOutput) → ((tables : List TableBits) → IsWrongWith reported tables) → IsMistakeAt care spec imp x reported
    mistake reported wrong = record {
      fit = some_fit s.laws imp g s.imp_allowed s.pair.imp_implements;
      each = λ contents fit. let t = s.laws.tables imp g s.pair.imp_implements contents fit in differ_with reported contents t.0 fit t.1 (wrong t.0);
    }

    -- some output is wrong with the tables of contents
    pub failing_mistake : (contents : Contents) (tables : List TableBits) → FitDesign imp contents → AreTablesOf g contents tables → SomeWrong p.spec p.imp xs (flat_with p.imp xs tables) → DifferWith care spec imp contents x None
    failing_mistake contents tables fit are (j, there, is) =
        let o = get_or (cut_outputs h) j (TopOutput []) in
        differ_with None contents tables fit are (j, o, there, place_of j there, is, λ w v differ. (o, differ))

    -- the outputs of boxes that hold tables are some outputs

    pub output_mistake : (j : ℕ) (o : CutOutput) → IsOutput p.imp j → slice_get (cut_outputs h) j ≡ Some o → IsAlwaysWrong p.spec p.imp xs j → IsMistakeAt care spec imp x (Some o)
    output_mistake j o there at wrong = mistake (Some o) (λ tables.
        let z = free_outputs s.laws.by_boxes p.imp s.pair.kept.imp xs (tabled_bit tables) in
        (j, o, there, at, subst (λ bits. IsWrong p.spec p.imp xs bits j) (sym z.2) (wrong z.0 z.1), λ w v differ. differ))

    pub vector_mistake : AlwaysSomeWrongAt p.spec p.imp xs → IsMistakeAt care spec imp x None
    vector_mistake wrong = mistake None (λ tables.
        let z = free_outputs s.laws.by_boxes p.imp s.pair.kept.imp xs (tabled_bit tables) in
        let some = subst (SomeWrong p.spec p.imp xs) (sym z.2) (wrong z.0 z.1) in
        let o = get_or (cut_outputs h) some.0 (TopOutput []) in
        (some.0, o, some.1, place_of some.0 some.1, some.2, λ w v differ. (o, differ)))

  -- the vector with these bits
  module _ (bits : List Bool) (vector : IsVector p.imp bits) where
    counted : length bits ≡ length (cut_inputs f)
    counted = vector ∙ sym (in_count s)

    pub vector_with : Vector
    vector_with = vector_of f s.pair.spec_flat bits counted

    pub has_bits : map vector_with (cut_inputs f) ≡ bits
    unfolding vector_with
    has_bits = vector_is f s.pair.spec_flat bits counted

    pub has_inputs : map vector_with (inputs_of spec) ≡ bits
    has_inputs = ap (map vector_with) (inputs_are spec f s.pair.spec_implements) ∙ has_bits

pub wrong_outputs_are_mistakes : LowerLaws → WrongOutputsAreMistakes
wrong_outputs_are_mistakes laws care shared spec imp p spec_allowed imp_allowed pair bits j vector there wrong =
    let s = pair_seen laws spec imp p spec_allowed imp_allowed pair in
    let x = vector_with s bits vector in
    let o = get_or (cut_outputs s.view.less) j (TopOutput []) in
    let at = place_of s j there in
    let named : outputs_of care spec ≡ cut_outputs s.view.less = outputs_are care spec pair.spec_net pair.spec_implements ∙ sym s.view.part.outputs in
    (x, o, has_inputs s bits vector, ap (λ os. slice_get os j) named ∙ at, output_mistake s x j o there at (subst (λ xs. IsAlwaysWrong p.spec p.imp xs j) (sym (has_bits s bits vector)) wrong))

pub wrong_vectors_are_mistakes : LowerLaws → WrongVectorsAreMistakes
wrong_vectors_are_mistakes laws care shared spec imp p spec_allowed imp_allowed pair bits vector wrong =
    let s = pair_seen laws spec imp p spec_allowed imp_allowed pair in
    let x = vector_with s bits vector in
    (x, has_inputs s bits vector, vector_mistake s x (subst (AlwaysSomeWrongAt p.spec p.imp) (sym (has_bits s bits vector)) wrong))

pub failing_vectors_are_mistakes : SharedLaws → FailingVectorsAreMistakes
failing_vectors_are_mistakes rules care shared spec imp p spec_allowed imp_allowed pair vectors whole fail contents fill =
    let s = pair_seen rules.laws spec imp p spec_allowed imp_allowed pair in
    let (tables, fit, are) = tables_of_kinds rules spec imp p spec_allowed imp_allowed pair contents fill in
    let (bits, among, wrong) = fail tables fit in
    let vector = All-contains (IsVector p.imp) vectors bits whole among in
    let x = vector_with s bits vector in (
      x,
      subst (Contains vectors) (sym (has_inputs s bits vector)) among,
      failing_mistake s x contents (per_box p.kinds tables) fill.fit are (subst (λ xs. SomeWrong p.spec p.imp xs (flat_with p.imp xs (per_box p.kinds tables))) (sym (has_bits s bits vector)) wrong),
    )
