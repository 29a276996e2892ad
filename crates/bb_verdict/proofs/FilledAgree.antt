-- The filled design agrees with the specification where the tables agree, and with the implementation whose boxes have contents of the tables. In each of its worlds it has the bits that the netlist of the
-- implementation has with the tables; so has the implementation in a world with contents of these tables, and it agrees. The specification has
-- no box, and so the same bits whatever boxes contain.
use Rattle.std.proofs.Common.{◌≡◌, ◌↔◌, ◌∷◌, ◌∙◌, ℕ, Bool, List, [], map, length, zip, Contains, None, Option, refl, sym, ap, ap₂, subst, arith}
use Rattle.std.specs.List.{enumerate_from}
use Rattle.std.proofs.lemmas.List.{length-map}
use Rattle.std.proofs.lemmas.List.FromFn.{length-enumerate_from}
use Rattle.bb_bits.specs.Contents.{Contents}
use Rattle.bb_bits.specs.Tables.{TableBits}
use Rattle.bb_net.specs.Equivalence.{TablesMakeEquivalent}
use Rattle.bb_net.specs.CutPoints.{CutOutput}
use Rattle.bb_net.specs.Flats.{FlatNet}
use Rattle.bb_net.specs.Pairs.{NetPair}
use Rattle.bb_net.specs.Values.{FitBoxes, bit_of, flat_with}
use Rattle.bb_design.specs.Hierarchy.{Design, boxes}
use Rattle.bb_design.specs.Inside.Allowed.{IsAllowed}
use Rattle.bb_design.specs.Refusals.{BoxTexts}
use Rattle.bb_design.specs.Worlds.{World, Vector, HasVector, IsWorld, FitDesign, outputs_in}
use Rattle.bb_implements.specs.Laws.ContentTables.{AreTablesOf, TablesGiveOutputs, TablesHaveContents}
use Rattle.bb_implements.specs.Laws.ListLaws.{ImplementingNetsGiveOutputs}
use Rattle.bb_implements.specs.Implements.{Implements}
use Rattle.bb_equiv.specs.DesignEquivalence.{AreEquivalentEverywhere, ContentsMakeEquivalent, HaveSameBits, IsRequired, IsPairFor}
use Rattle.bb_equiv.specs.Laws.DesignEquivalence.{TablesMakeEquivalentAsContents}
use Rattle.bb_readback.specs.Laws.Designs.{outputs_by}
use Rattle.bb_verdict.proofs.FilledNames.{outputs_named, vector_bits_are}

-- pairs are their parts beside each other
parts_beside : {A B : Type 0} (os : List (A × B)) → zip (map (λ (o : A × B). o.0) os) (map (λ (o : A × B). o.1) os) ≡ os
parts_beside [] = refl
parts_beside (o ∷ os) = ap (λ l. o ∷ l) (parts_beside os)

-- in a world the outputs of a design are those that a netlist gives which implements it, with the tables of the contents
pub outputs_are : TablesGiveOutputs → (d : Design) (f : FlatNet) → IsAllowed d → Implements d f → (contents : Contents) (tables : List TableBits) → FitDesign d contents → AreTablesOf f contents tables
    → (x : Vector) (w : World) → IsWorld d contents w → HasVector d x w → outputs_in d w ≡ outputs_by f tables x
outputs_are outs d f allowed occurs contents tables fit are x w is has = sym (parts_beside (outputs_in d w))
    ∙ ap₂ zip (outputs_named d f occurs w) (outs d f allowed occurs contents tables fit are x w is has ∙ ap (λ xs. map (bit_of (flat_with f.net xs tables)) f.net.outs) (vector_bits_are d f occurs x))

-- whatever boxes contain fits a design without boxes, and has no table

module _ (d : Design) (none : boxes d ≡ []) where
  pub fits_none : (contents : Contents) → FitDesign d contents
  fits_none contents k scope lt = absurd (omega (arith, lt, ap length none))

  module _ (f : FlatNet) (occurs : Implements d f) where
    pub no_boxes : length f.net.boxes ≡ 0
    no_boxes = occurs.ordered.box_count ∙ ap length occurs.listed.boxes ∙ length-map (enumerate_from 0 (boxes d)) _ ∙ length-enumerate_from 0 (boxes d) ∙ ap length none

    pub no_tables : (contents : Contents) → AreTablesOf f contents []
    no_tables contents = record {
      fit = record {
        count = sym no_boxes;
        inputs = λ b fits. absurd (omega (arith, fits, no_boxes));
        outputs = λ b fits. absurd (omega (arith, fits, no_boxes));
        whole = λ b fits. absurd (omega (arith, fits, no_boxes));
      };
      rows = λ b fits. absurd (omega (arith, fits, no_boxes));
    }

-- a pair that implements two designs, of which the specification has no box, and tables that agree
module _ (outs : TablesGiveOutputs) (worlds : ImplementingNetsGiveOutputs) (as_contents : TablesMakeEquivalentAsContents) (have : TablesHaveContents)
    (care : Option (List ℕ)) (shared : Bool) (s i : Design) (p : NetPair) (s_allowed : IsAllowed s) (i_allowed : IsAllowed i) (pair : IsPairFor care shared s i p) (none : boxes s ≡ [])
    (tables : List TableBits) (fit : FitBoxes tables pair.imp_net.net.boxes) (agree : TablesMakeEquivalent p.spec p.imp tables) where
  abbrev f : FlatNet
  f = pair.imp_net

  -- the tables are those of contents
  filled : (contents : Contents) × FitDesign i contents × AreTablesOf f contents tables
  filled = have i f (i_allowed.sound BoxTexts) pair.imp_implements tables fit

  contents_agree : ContentsMakeEquivalent care s i filled.0
  contents_agree = (as_contents care shared s i p s_allowed i_allowed pair filled.0 tables filled.1 filled.2).0 agree

  spec_outputs : (contents : Contents) (x : Vector) (w : World) → IsWorld s contents w → HasVector s x w → outputs_in s w ≡ outputs_by pair.spec_net [] x
  spec_outputs contents = outputs_are outs s pair.spec_net s_allowed pair.spec_implements contents [] (fits_none s none contents) (no_tables s none pair.spec_net pair.spec_implements contents)

  -- so with these tables the netlist of the implementation has the bits of the specification
  net_agrees : (contents : Contents) (x : Vector) (w : World) → IsWorld s contents w → HasVector s x w → IsRequired care (outputs_in s w) → HaveSameBits care (outputs_in s w) (outputs_by f tables x)
  net_agrees contents x w is has requested =
      let u = (worlds i f i_allowed pair.imp_implements filled.0 x filled.1).0 in
      let t = (worlds s pair.spec_net s_allowed pair.spec_implements filled.0 x (fits_none s none filled.0)).0 in
      let spec_same : outputs_in s w ≡ outputs_in s t.0 = spec_outputs contents x w is has ∙ sym (spec_outputs filled.0 x t.0 t.1 t.2) in
      let imp_same : outputs_in i u.0 ≡ outputs_by f tables x = outputs_are outs i f i_allowed pair.imp_implements filled.0 tables filled.1 filled.2 x u.0 u.1 u.2 in
      let both = contents_agree x t.0 u.0 t.1 t.2 u.1 u.2 (subst (IsRequired care) spec_same requested) in
      subst (λ os. HaveSameBits care os (outputs_by f tables x)) (sym spec_same) (subst (HaveSameBits care (outputs_in s t.0)) imp_same both)

  -- and so has a design whose worlds have the bits of the netlist
  pub filled_agrees : (d : Design) → ((contents : Contents) (x : Vector) (v : World) → IsWorld d contents v → HasVector d x v → (o : CutOutput) (b : Bool) → Contains (outputs_in d v) (o, b) ↔ Contains (outputs_by f tables x) (o, b))
      → (contents : Contents) → ContentsMakeEquivalent care s d contents
  filled_agrees d bits contents x w v is_w has_w is_v has_v requested o b compared =
      let left = net_agrees contents x w is_w has_w requested o b compared in
      let right = bits contents x v is_v has_v o b in
      ((λ has. right.1 (left.0 has)), (λ has. left.1 (right.0 has)))

  -- with contents of these tables the implementation has them too
  pub filled_same : (d : Design) → ((contents : Contents) (x : Vector) (v : World) → IsWorld d contents v → HasVector d x v → (o : CutOutput) (b : Bool) → Contains (outputs_in d v) (o, b) ↔ Contains (outputs_by f tables x) (o, b))
      → (contents : Contents) → FitDesign i contents → AreTablesOf f contents tables → AreEquivalentEverywhere None d i contents
  filled_same d bits contents fits are x w v is_w has_w is_v has_v o b compared =
      let imp_same : outputs_in i v ≡ outputs_by f tables x = outputs_are outs i f i_allowed pair.imp_implements contents tables fits are x v is_v has_v in
      subst (λ os. Contains (outputs_in d w) (o, b) ↔ Contains os (o, b)) (sym imp_same) (bits contents x w is_w has_w o b)
