-- Tables agree in a pair that implements two designs exactly where the contents agree whose tables they are.
use Rattle.std.proofs.Common.{◌≡◌, ℕ, ◌∙◌, Bool, List, [], map, length, get_or, Contains, None, Option, Some, sym, ap, subst, arith}
use Rattle.std.specs.Prelude.{slice_get}
use Rattle.std.proofs.lemmas.List.{length-map}
use Rattle.std.proofs.lemmas.List.Elements.{All-contains}
use Rattle.std.proofs.lemmas.Option.{get_or_from_slice_get, slice_get-get_or, slice_get_within}
use Rattle.bb_bits.specs.Contents.{Contents}
use Rattle.bb_bits.specs.Tables.{TableBits}
use Rattle.bb_lemmas.proofs.Picked.{one_place}
use Rattle.bb_net.specs.Equivalence.{IsOutput, IsRight, TablesMakeEquivalent}
use Rattle.bb_net.specs.CutPoints.{TopOutput, cut_inputs, cut_outputs}
use Rattle.bb_net.specs.Flats.{FlatNet}
use Rattle.bb_net.specs.Pairs.{NetPair}
use Rattle.bb_net.specs.Values.{flat_with, tabled_bit}
use Rattle.bb_implements.specs.Laws.ContentTables.{AreTablesOf}
use Rattle.bb_design.specs.Hierarchy.{Design}
use Rattle.bb_design.specs.Worlds.{World, Vector, HasVector, IsWorld, FitDesign, outputs_in}
use Rattle.bb_equiv.specs.DesignEquivalence.{HaveSameBits, ContentsMakeEquivalent}
use Rattle.bb_equiv.specs.Inside.LowerLaws.{LowerLaws}
use Rattle.bb_equiv.specs.Laws.DesignEquivalence.{TablesMakeEquivalentAsContents, DesignsAreEquivalentToThemselves}
use Rattle.bb_equiv.proofs.NamedVectors.{vector_of, vector_is}
use Rattle.bb_equiv.proofs.WorldOutputs.{IsFilled, bit_out, output_at, output_there, some_world}
use Rattle.bb_equiv.proofs.SeenDesigns.{IsSeen, requested_is, imp_filled, in_count, in_spec, other_place, out_count, out_is, pair_seen, spec_filled, wanted_is}

module _ {care : Option (List ℕ)} {shared : Bool} {spec imp : Design} {p : NetPair} (s : IsSeen care shared spec imp p) where
  abbrev f : FlatNet
  f = s.pair.spec_net

  abbrev h : FlatNet
  h = s.view.less

  abbrev g : FlatNet
  g = s.pair.imp_net

  abbrev q : NetPair
  q = s.rest

  module _ (contents : Contents) (tables : List TableBits) (fit : FitDesign imp contents) (are : AreTablesOf g contents tables) where
    module _ (x : Vector) (w v : World) (is_w : IsWorld spec contents w) (has_w : HasVector spec x w) (is_v : IsWorld imp contents v) (has_v : HasVector imp x v) where
      abbrev RightAt : ℕ → Type 0
      RightAt j = IsRight q.spec q.imp (map x (cut_inputs f)) (flat_with q.imp (map x (cut_inputs f)) tables) j

      abbrev here : IsFilled imp g contents tables
      here = imp_filled s contents tables fit are

      agree_here : ((j : ℕ) → IsOutput p.imp j → RightAt j) → HaveSameBits care (outputs_in spec w) (outputs_in imp v)
      agree_here right o b compared = (to_imp, to_spec)
        where
          -- at its places in both an output has one bit
          one_bit : (j i : ℕ) → slice_get (cut_outputs h) j ≡ Some o → slice_get (cut_outputs g) i ≡ Some o → bit_out f [] x (s.view.part.old j) ≡ bit_out g tables x i
          one_bit j i at_j at_i =
              let other = other_place s j o at_j in
              let same : other.0 ≡ i = one_place (cut_outputs g) other.0 i o (s.laws.apart g s.pair.imp_flat).outputs other.2 at_i in
              let there : IsOutput p.imp j = omega (arith, slice_get_within (cut_outputs h) j o at_j, out_count s) in
              sym (wanted_is s x j) ∙ sym (right j there) ∙ out_is s x tables j other.0 other.1 (slice_get_within (cut_outputs g) other.0 o other.2) ∙ ap (bit_out g tables x) same

          there_in_imp : (j i : ℕ) → slice_get (cut_outputs h) j ≡ Some o → slice_get (cut_outputs g) i ≡ Some o → bit_out f [] x (s.view.part.old j) ≡ b → Contains (outputs_in imp v) (o, b)
          there_in_imp j i at_j at_i is = subst (λ bit. Contains (outputs_in imp v) (o, bit)) (sym (one_bit j i at_j at_i) ∙ is) (output_there s.laws here x v is_v has_v i o at_i)

          there_in_spec : (j i : ℕ) → slice_get (cut_outputs h) j ≡ Some o → slice_get (cut_outputs g) i ≡ Some o → bit_out g tables x i ≡ b → Contains (outputs_in spec w) (o, b)
          there_in_spec j i at_j at_i is =
              subst (λ bit. Contains (outputs_in spec w) (o, bit)) (one_bit j i at_j at_i ∙ is) (output_there s.laws (spec_filled s contents) x w is_w has_w (s.view.part.old j) o (in_spec s j o at_j))

          to_imp : Contains (outputs_in spec w) (o, b) → Contains (outputs_in imp v) (o, b)
          to_imp in_w =
              let t = output_at s.laws (spec_filled s contents) x w is_w has_w o b in_w in
              let j = s.view.part.covers t.0 o t.1 compared in
              let at : slice_get (cut_outputs h) j.0 ≡ Some o = s.view.part.texts j.0 ∙ ap (slice_get (cut_outputs f)) j.1 ∙ t.1 in
              let i = other_place s j.0 o at in
              there_in_imp j.0 i.0 at i.2 (ap (bit_out f [] x) j.1 ∙ t.3)

          -- an output of the implementation is one that is compared
          named_in_spec : (i : ℕ) → slice_get (cut_outputs g) i ≡ Some o → (j : ℕ) × (slice_get (cut_outputs h) j ≡ Some o)
          named_in_spec i at =
              let among = s.laws.among None h g s.view.paired.fit in
              let own = All-contains (Contains (cut_outputs h)) (cut_outputs g) o among (i, slice_get_within (cut_outputs g) i o at, get_or_from_slice_get (cut_outputs g) i o o at) in
              (own.0, slice_get-get_or (cut_outputs h) own.0 o own.1 ∙ ap Some own.2)

          to_spec : Contains (outputs_in imp v) (o, b) → Contains (outputs_in spec w) (o, b)
          to_spec in_v =
              let t = output_at s.laws here x v is_v has_v o b in_v in
              let j = named_in_spec t.0 t.1 in
              there_in_spec j.0 t.0 j.1 t.1 t.3

      right_here : HaveSameBits care (outputs_in spec w) (outputs_in imp v) → (j : ℕ) → IsOutput p.imp j → RightAt j
      right_here same j there =
          let o = get_or (cut_outputs h) j (TopOutput []) in
          let at : slice_get (cut_outputs h) j ≡ Some o = slice_get-get_or (cut_outputs h) j (TopOutput []) (omega (arith, there, out_count s)) in
          let i = other_place s j o at in
          let old = s.view.part.old j in
          let in_w = output_there s.laws (spec_filled s contents) x w is_w has_w old o (in_spec s j o at) in
          -- the implementation has the specification's bit too, at the same place
          let also = output_at s.laws here x v is_v has_v o (bit_out f [] x old) ((same o (bit_out f [] x old) (s.view.part.counts j o at)).0 in_w) in
          let at_once : also.0 ≡ i.0 = one_place (cut_outputs g) also.0 i.0 o (s.laws.apart g s.pair.imp_flat).outputs also.1 i.2 in
          out_is s x tables j i.0 i.1 (slice_get_within (cut_outputs g) i.0 o i.2) ∙ ap (bit_out g tables x) (sym at_once) ∙ also.3 ∙ sym (wanted_is s x j)

    pub tables_to_contents : TablesMakeEquivalent p.spec p.imp tables → ContentsMakeEquivalent care spec imp contents
    tables_to_contents agree x w v is_w has_w is_v has_v requested =
        let on = (requested_is s x contents w is_w has_w).0 requested in
        let right = agree (map x (cut_inputs f)) (length-map (cut_inputs f) x ∙ in_count s) in
        agree_here x w v is_w has_w is_v has_v (λ j there. (s.view.right (map x (cut_inputs f)) (tabled_bit tables) j there).0 (right j there) on)

    pub contents_to_tables : ContentsMakeEquivalent care spec imp contents → TablesMakeEquivalent p.spec p.imp tables
    contents_to_tables agree xs long =
        let counted : length xs ≡ length (cut_inputs f) = long ∙ sym (in_count s) in
        let x = vector_of f s.pair.spec_flat xs counted in
        let w = some_world s.laws (spec_filled s contents) x in
        let v = some_world s.laws (imp_filled s contents tables fit are) x in
        let right : (j : ℕ) → IsOutput p.imp j → IsRight p.spec p.imp (map x (cut_inputs f)) (flat_with p.imp (map x (cut_inputs f)) tables) j = λ j there.
        (s.view.right (map x (cut_inputs f)) (tabled_bit tables) j there).1
        (λ on. right_here x w.0 v.0 w.1 w.2 v.1 v.2 (agree x w.0 v.0 w.1 w.2 v.1 v.2 ((requested_is s x contents w.0 w.1 w.2).1 on)) j there) in
        subst (λ ys. (j : ℕ) → IsOutput p.imp j → IsRight p.spec p.imp ys (flat_with p.imp ys tables) j) (vector_is f s.pair.spec_flat xs counted) right

pub tables_make_equivalent_as_contents : LowerLaws → TablesMakeEquivalentAsContents
tables_make_equivalent_as_contents laws care shared spec imp p spec_allowed imp_allowed pair contents tables fit are =
    let s = pair_seen laws spec imp p spec_allowed imp_allowed pair in
    (tables_to_contents s contents tables fit are, contents_to_tables s contents tables fit are)

-- both worlds have the bits of the netlist at an output's place
pub agree_with_themselves : LowerLaws → DesignsAreEquivalentToThemselves
agree_with_themselves laws care d f allowed occurs flat_net contents fit x w v is_w has_w is_v has_v requested o b compared = (other w v is_w has_w is_v has_v, other v w is_v has_v is_w has_w)
  where
    other : (w v : World) → IsWorld d contents w → HasVector d x w → IsWorld d contents v → HasVector d x v → Contains (outputs_in d w) (o, b) → Contains (outputs_in d v) (o, b)
    other w v is_w has_w is_v has_v in_w =
        let t = laws.tables d f occurs contents fit in
        let filled : IsFilled d f contents t.0 = record { allowed = allowed; occurs = occurs; flat_net = flat_net; fit = fit; are = t.1 } in
        let here = output_at laws filled x w is_w has_w o b in_w in
        subst (λ bit. Contains (outputs_in d v) (o, bit)) here.3 (output_there laws filled x v is_v has_v here.0 o here.1)
