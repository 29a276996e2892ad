-- the netlist of violations beside one that is always 0
use Rattle.std.proofs.Common.{◌≡◌, ◌≢◌, ◌≤◌, ◌<◌, ℕ, suc, ◌+◌, ◌*◌, Bool, true, false, List, [], ◌∷◌, ◌++◌, Option, Some, None, length, map, length-append, length-drop, refl, sym, ap, ◌∙◌, subst, arith}
use Rattle.std.specs.Prelude.{IfSome}
use Rattle.std.specs.List.{flat_map, range_with_len}
use Rattle.std.proofs.lemmas.List.{length-map}
use Rattle.bb_lemmas.proofs.Ranges.{length-range, length-run}
use Rattle.bb_net.specs.declared.cell.Cell.{Cell}
use Rattle.bb_net.specs.declared.flat.Reg.{Reg}
use Rattle.bb_net.specs.Equivalence.{out_bit}
use Rattle.bb_net.specs.Flats.{FlatNet, IsFlat}
use Rattle.bb_net.specs.Netlists.{Netlist, IsNetlist, IsOrdered, first_cells}
use Rattle.bb_net.specs.Values.{flat, free_bit, value_of, IsValue}
use Rattle.bb_subst.specs.Embeddings.{renumbered}
use Rattle.bb_miter.specs.Inside.Equivalence.{AreComparable, AreEquivalent, DiffersAt}
use Rattle.bb_unroll.specs.Unrolled.{edge_cells, gates, never, next_cell, ports, present_place, state_cells, unrolled, unrolled_inputs, violation, with_violation}
use Rattle.bb_unroll.specs.Events.{CanBeUnrolled, IsBrokenAt, IsKept, ViolationsAreSeen, is_violated}

pub violation_inputs : (f : FlatNet) (k : ℕ) (care : Option ℕ) → (violation f k care).inputs ≡ unrolled_inputs f
violation_inputs f k None = refl
violation_inputs f k (Some c) = refl

violation_boxes : (f : FlatNet) (k : ℕ) (care : Option ℕ) → (violation f k care).boxes ≡ []
violation_boxes f k None = refl
violation_boxes f k (Some c) = refl

pub violation_output : (f : FlatNet) (k : ℕ) (care : Option ℕ) → length (violation f k care).outs ≡ 1
violation_output f k None = refl
violation_output f k (Some c) = refl

pub comparable : (f : FlatNet) (k : ℕ) (care : Option ℕ) → unrolled_inputs f ≤ 2048 → AreComparable (never (unrolled_inputs f)) (violation f k care)
comparable f k care few = record {
  inputs = sym (violation_inputs f k care);
  few = omega (arith, few, violation_inputs f k care);
  outputs = sym (violation_output f k care);
  spec_boxes = refl;
  imp_boxes = violation_boxes f k care;
}

-- the other netlist is made with the inputs of this one
pub never_is : (f : FlatNet) (k : ℕ) (care : Option ℕ) (net : Netlist) (n : ℕ) (zero : Netlist) → net ≡ violation f k care → n ≡ net.inputs → zero ≡ never n → zero ≡ never (unrolled_inputs f)
never_is f k care net n zero is inputs made = made ∙ ap never (inputs ∙ (ap (λ (net : Netlist). net.inputs) is ∙ violation_inputs f k care))

-- how many cells there are

length-first_cells : (n : ℕ) → length (first_cells n) ≡ n + 2
length-first_cells n = omega (arith, length-run Cell.Input 0 n)

length-edges : (f : FlatNet) (is : List ℕ) → length (flat_map (edge_cells f) is) ≡ 2 * length is
length-edges f [] = refl
length-edges f (i ∷ is) = omega (arith, length-edges f is)

length-states : (f : FlatNet) (j : ℕ) (regs : List Reg) → length (state_cells f j regs) ≡ length regs
length-states f j [] = refl
length-states f j (r ∷ rest) = omega (arith, length-states f (suc j) rest)

length-five : {A : Type 0} (a b c d e : List A) → length (a ++ (b ++ (c ++ (d ++ e)))) ≡ length a + (length b + (length c + (length d + length e)))
length-five a b c d e = omega (arith, length-append a (b ++ (c ++ (d ++ e))), length-append b (c ++ (d ++ e)), length-append c (d ++ e), length-append d e)

length-gates : (f : FlatNet) → length (gates f) ≤ length f.net.cells
length-gates f = omega (arith, length-drop (f.net.inputs + 2) f.net.cells)

length-unrolled : (f : FlatNet) → length (unrolled f).cells ≡ unrolled_inputs f + 2 + (length (gates f) + (2 * ports f + (length f.regs + length (gates f))))
length-unrolled f =
    length-five (first_cells (unrolled_inputs f)) (map (renumbered (present_place f)) (gates f)) (flat_map (edge_cells f) (range_with_len 0 (ports f))) (state_cells f 0 f.regs) (map (next_cell f) (gates f))
    ∙ omega (arith, length-first_cells (unrolled_inputs f), length-map (gates f) (renumbered (present_place f)), length-edges f (range_with_len 0 (ports f)), length-range 0 (ports f), length-states f 0 f.regs, length-map (gates f) (next_cell f))

length-with_violation : (f : FlatNet) (k : ℕ) (net : Netlist) → length (with_violation f k net).cells ≡ length net.cells + 2
length-with_violation f k net = length-append net.cells _

length-violation : (f : FlatNet) (k : ℕ) (care : Option ℕ) → length (violation f k care).cells ≤ length (unrolled f).cells + 3
length-violation f k None = omega (arith, length-with_violation f k (unrolled f))
length-violation f k (Some c) =
    let more : length (violation f k (Some c)).cells ≡ length (with_violation f k (unrolled f)).cells + 1 = length-append (with_violation f k (unrolled f)).cells _ in
    omega (arith, more, length-with_violation f k (unrolled f))

pub violation_cells : (f : FlatNet) (k : ℕ) (care : Option ℕ) → IsFlat f → unrolled_inputs f ≤ 2048 → length (violation f k care).cells ≤ 8000000
violation_cells f k care flat few = omega (arith, length-violation f k care, length-unrolled f, length-gates f, flat.small.cells, flat.named.inputs, few)

pub never_cells : (n : ℕ) → n ≤ 2048 → length (never n).cells ≤ 8000000
never_cells n few = omega (arith, few, length-first_cells n)

-- the output that is always 0 is the constant
module _ (exists : (net : Netlist) (x : List Bool) (box : ℕ → ℕ → List Bool → Bool) → IsOrdered net → IsValue net x box (value_of net x box)) where
  never_one : (n : ℕ) → IsNetlist (never n) → (x : List Bool) → out_bit (never n) (flat (never n) x []) 0 ≡ false
  never_one n kept x = (exists (never n) x (free_bit [] []) kept.ordered).each 0 (omega (arith, length-first_cells n))

  module _ (seen : ViolationsAreSeen) (f : FlatNet) (k : ℕ) (care : Option ℕ) (can : CanBeUnrolled f) (there : k < length f.net.cells) (care_there : IfSome care (λ c. c < length f.net.cells))
      (never_kept : IsNetlist (never (unrolled_inputs f))) (kept : IsNetlist (violation f k care)) where
    cares : (c : ℕ) → care ≡ Some c → c < length f.net.cells
    cares c e = subst (λ (o : Option ℕ). IfSome o (λ c. c < length f.net.cells)) e care_there

    seen_at : (x : List Bool) → out_bit (violation f k care) (flat (violation f k care) x []) 0 ≡ is_violated f k care x
    seen_at x = seen f k care can kept there cares x

    pub equivalent_keeps : AreEquivalent (never (unrolled_inputs f)) (violation f k care) → IsKept f k care
    equivalent_keeps same x wide =
        sym (seen_at x) ∙ (same x (wide ∙ sym (violation_inputs f k care)) 0 (omega (arith, violation_output f k care)) ∙ never_one (unrolled_inputs f) never_kept x)

    is_true : (b : Bool) → b ≢ false → b ≡ true
    is_true true other = refl
    is_true false other = absurd (other refl)

    pub difference_breaks : (x : List Bool) → DiffersAt (never (unrolled_inputs f)) (violation f k care) x → IsBrokenAt f k care x
    difference_breaks x (wide, (j, is_output, wrong)) =
        let zero : j ≡ 0 = omega (arith, is_output, violation_output f k care) in
        let wrong_there = subst (λ i. out_bit (violation f k care) (flat (violation f k care) x []) i ≢ out_bit (never (unrolled_inputs f)) (flat (never (unrolled_inputs f)) x []) i) zero wrong in
        (wide ∙ violation_inputs f k care, is_true (is_violated f k care x) (λ e. wrong_there (seen_at x ∙ (e ∙ sym (never_one (unrolled_inputs f) never_kept x)))))
