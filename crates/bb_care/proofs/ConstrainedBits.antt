-- The bits of a pair whose outputs count only where a care cell is 1.
use Rattle.std.proofs.Common.{◌≡◌, ◌↔◌, ℕ, ◌+◌, ◌<◌, ◌≤◌, Bool, true, false, ◌&&◌, List, [], length, map, refl, sym, ap, ap₂, ◌∙◌, subst, arith}
use Rattle.std.specs.Prelude.{slice_index}
use Rattle.std.proofs.Math.Bool.{and-true, and-false}
use Rattle.bb_subst.specs.Embeddings.{renumbered, OccursAt, OccursIn}
use Rattle.bb_subst.specs.Laws.EmbeddingLaws.{OccurrencesKeepBits}
use Rattle.bb_net.specs.declared.cell.Cell.{Cell}
use Rattle.bb_net.specs.declared.cell.Cell.TheVariants.{Const, Input, Not, And, Or, Xor, Mux, BoxOut}
use Rattle.bb_net.specs.Equivalence.{IsRight, out_bit, wanted_bit}
use Rattle.bb_net.specs.Netlists.{Netlist, cell_at, box_at, IsNetlist, IsOrdered}
use Rattle.bb_net.specs.Values.{bit_of, flat, free_bit, gate, value_of, IsValue}
use Rattle.bb_care.specs.Constrained.{constrained, copy_place, guarded, with_copies}
use Rattle.bb_care.specs.Laws.{ConstrainedPairsAreRight}
use Rattle.bb_care.proofs.ConstrainedPairs.{spec_is_netlist, imp_is_netlist}
use Rattle.bb_care.proofs.ConstrainedCells.{inputs_fit, no_pin, not_moved, guarded_length, guarded_old, guarded_and, guarded_out, copied_length, copied_old, copy_cell, copy_there}

occurs_is : (cells : List Cell) (at : ℕ → ℕ) (place : ℕ) (c : Cell) → cell_at cells place ≡ renumbered at c → OccursAt cells at c place
occurs_is cells at place (Const b) is = is
occurs_is cells at place (Input i) is = is
occurs_is cells at place (Not a) is = is
occurs_is cells at place (And a b) is = is
occurs_is cells at place (Or a b) is = is
occurs_is cells at place (Xor a b) is = is
occurs_is cells at place (Mux c t e) is = is
occurs_is cells at place (BoxOut b p) is = tt

-- bits at which both sides agree wherever a third bit is 1
agree_where : (a b c : Bool) → (a && c ≡ b && c) ↔ (c ≡ true → a ≡ b)
agree_where a b true = (λ same h. sym (and-true a) ∙ same ∙ and-true b, λ same. and-true a ∙ same refl ∙ sym (and-true b))
agree_where a b false = (λ same h. cc h, λ same. and-false a ∙ sym (and-false b))

module _ (keeps : OccurrencesKeepBits) (exist : (net : Netlist) (x : List Bool) (box : ℕ → ℕ → List Bool → Bool) → IsOrdered net → IsValue net x box (value_of net x box)) where
  -- in a netlist with more cells after, those that were there have the bits that they had
  prefix_bits : (net new : Netlist) → IsNetlist net → IsNetlist new → new.inputs ≡ net.inputs → new.boxes ≡ net.boxes → length net.cells ≤ length new.cells
      → ((k : ℕ) → k < length net.cells → cell_at new.cells k ≡ cell_at net.cells k)
      → (x : List Bool) (box : ℕ → ℕ → List Bool → Bool) (k : ℕ) → k < length net.cells → bit_of (value_of new x box) k ≡ bit_of (value_of net x box) k
  prefix_bits net new kept also inputs boxes long same x box k lt = keeps net new (λ k. k) kept also occurs x box box given k lt
    where
      v : ℕ → Bool
      v = bit_of (value_of new x box)

      occurs : OccursIn net new (λ k. k)
      occurs = record {
        inputs = inputs;
        there = λ k h. omega (arith, h, long);
        cells = λ k h. occurs_is new.cells (λ k. k) k (cell_at net.cells k) (same k h ∙ not_moved (cell_at net.cells k));
      }

      given : (k b p : ℕ) → k < length net.cells → cell_at net.cells k ≡ BoxOut b p → v k ≡ box b p (map v (box_at net.boxes b).ins)
      given k b p h is =
          (exist new x box also.ordered).each k (omega (arith, h, long)) ∙ ap (gate new.boxes x box v) (same k h ∙ is) ∙ ap (λ pins. box b p (map v (box_at pins b).ins)) boxes

  -- an output of a guarded netlist
  and_bit : (care : ℕ) (outs : List ℕ) (net : Netlist) → IsNetlist (guarded care outs net) → (x : List Bool) (box : ℕ → ℕ → List Bool → Bool) (j : ℕ) → j < length outs
      → bit_of (value_of (guarded care outs net) x box) (slice_index (guarded care outs net).outs j)
      ≡ bit_of (value_of (guarded care outs net) x box) (slice_index outs j) && bit_of (value_of (guarded care outs net) x box) care
  and_bit care outs net kept x box j lt =
      ap (bit_of (value_of (guarded care outs net) x box)) (guarded_out care outs net j lt)
      ∙ (exist (guarded care outs net) x box kept.ordered).each (length net.cells + j) (omega (arith, lt, guarded_length care outs net))
      ∙ ap (gate net.boxes x box (bit_of (value_of (guarded care outs net) x box))) (guarded_and care outs net j lt)

  -- the copies have the bits of the specification's cells
  copy_bits : (spec imp : Netlist) (care : ℕ) (outs : List ℕ) → IsNetlist spec → spec.boxes ≡ [] → IsNetlist imp → spec.inputs ≡ imp.inputs → IsNetlist (guarded care outs (with_copies spec imp))
      → (x : List Bool) (box : ℕ → ℕ → List Bool → Bool) (k : ℕ) → k < length spec.cells
      → bit_of (value_of (guarded care outs (with_copies spec imp)) x box) (copy_place spec imp k) ≡ bit_of (flat spec x []) k
  copy_bits spec imp care outs kept none also inputs whole x box k lt =
      keeps spec (guarded care outs (with_copies spec imp)) (copy_place spec imp) kept whole occurs x (free_bit spec.boxes []) box (λ k b p h is. no_pin spec kept none k b p h is) k lt
    where
      occurs : OccursIn spec (guarded care outs (with_copies spec imp)) (copy_place spec imp)
      occurs = record {
        inputs = sym inputs;
        there = λ k h. omega (arith, copy_there spec imp (inputs_fit spec imp also inputs) k h, guarded_length care outs (with_copies spec imp));
        cells = λ k h. occurs_is (guarded care outs (with_copies spec imp)).cells (copy_place spec imp) (copy_place spec imp k) (cell_at spec.cells k)
            (guarded_old care outs (with_copies spec imp) (copy_place spec imp k) (copy_there spec imp (inputs_fit spec imp also inputs) k h) ∙ copy_cell spec imp kept also inputs k h);
      }

  pub constrained_pairs_are_right : ConstrainedPairsAreRight
  constrained_pairs_are_right q care kept lt x box j out =
      subst (λ a. (a ≡ wanted_bit (constrained care q).spec x j) ↔ (bit_of (flat q.spec x []) care ≡ true → IsRight q.spec q.imp x (value_of q.imp x box) j)) (sym imp_bit)
      (subst (λ b. ((out_bit q.imp (value_of q.imp x box) j && bit_of (flat q.spec x []) care) ≡ b) ↔ (bit_of (flat q.spec x []) care ≡ true → IsRight q.spec q.imp x (value_of q.imp x box) j)) (sym spec_bit)
      (agree_where (out_bit q.imp (value_of q.imp x box) j) (wanted_bit q.spec x j) (bit_of (flat q.spec x []) care)))
    where
      one : IsNetlist (constrained care q).spec
      one = spec_is_netlist q care kept lt

      other : IsNetlist (constrained care q).imp
      other = imp_is_netlist q care kept lt

      copy : ℕ
      copy = copy_place q.spec q.imp care

      wide : Netlist
      wide = with_copies q.spec q.imp

      out_in : slice_index q.imp.outs j < length q.imp.cells
      out_in = kept.imp.outs_there j 0 out

      wanted_in : slice_index q.spec.outs j < length q.spec.cells
      wanted_in = kept.spec.outs_there j 0 (omega (arith, out, kept.beside.outputs))

      imp_prefix : (k : ℕ) → k < length q.imp.cells → bit_of (value_of (guarded copy q.imp.outs wide) x box) k ≡ bit_of (value_of q.imp x box) k
      imp_prefix k h =
          prefix_bits q.imp (guarded copy q.imp.outs wide) kept.imp other refl refl (omega (arith, guarded_length copy q.imp.outs wide, copied_length q.spec q.imp))
          (λ k h. guarded_old copy q.imp.outs wide k (omega (arith, h, copied_length q.spec q.imp)) ∙ copied_old q.spec q.imp k h) x box k h

      spec_prefix : (k : ℕ) → k < length q.spec.cells → bit_of (flat (guarded care q.spec.outs q.spec) x []) k ≡ bit_of (flat q.spec x []) k
      spec_prefix k h =
          prefix_bits q.spec (guarded care q.spec.outs q.spec) kept.spec one refl refl (omega (arith, guarded_length care q.spec.outs q.spec)) (guarded_old care q.spec.outs q.spec) x (free_bit q.spec.boxes []) k h

      imp_bit : out_bit (constrained care q).imp (value_of (constrained care q).imp x box) j ≡ out_bit q.imp (value_of q.imp x box) j && bit_of (flat q.spec x []) care
      imp_bit =
          and_bit copy q.imp.outs wide other x box j out
          ∙ ap₂ ◌&&◌ (imp_prefix (slice_index q.imp.outs j) out_in) (copy_bits q.spec q.imp copy q.imp.outs kept.spec kept.beside.no_box kept.imp kept.beside.inputs other x box care lt)

      spec_bit : wanted_bit (constrained care q).spec x j ≡ wanted_bit q.spec x j && bit_of (flat q.spec x []) care
      spec_bit =
          and_bit care q.spec.outs q.spec one x (free_bit q.spec.boxes []) j (omega (arith, out, kept.beside.outputs))
          ∙ ap₂ ◌&&◌ (spec_prefix (slice_index q.spec.outs j) wanted_in) (spec_prefix care lt)
