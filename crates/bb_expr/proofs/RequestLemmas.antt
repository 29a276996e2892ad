-- What a walk over an expression needs for its operands, where the expression has it.
use Rattle.std.proofs.Common.{◌≡◌, ℕ, ◌+◌, ◌≤◌, Bool, true, List, [], ◌∷◌, map, ap, subst, arith}
use Rattle.std.specs.Prelude.{◌*◌, ◌^◌, sum_by, All, if◌then◌else◌}
use Rattle.std.specs.List.{AllByRecursion}
use Rattle.std.proofs.lemmas.List.Elements.{All-from_recursion}
use Rattle.std.proofs.lemmas.List.Sums.{sum-map}
use Rattle.bb_ast.specs.declared.expr.Op.{Op}
use Rattle.bb_ast.specs.Syntax.{Expression, Not, Chain, Cond, Concat, Repeat, operands, arms, listed_parts}
use Rattle.bb_names.specs.Widths.{own_width, greatest}
use Rattle.bb_names.specs.Inside.Checked.{ModuleFacts}
use Rattle.bb_expr.specs.Cells.{cell_count}
use Rattle.bb_word.specs.Folds.{is_odd}
use Rattle.bb_expr.specs.Inside.Fit.{AreFit, ranges_in}
use Rattle.bb_expr.specs.Inside.Growing.{most_steps}
use Rattle.bb_expr.specs.Inside.Shares.{own_cells, operand_cells, arm_cells}
use Rattle.bb_expr.proofs.OperandLemmas.{fit-here, fit-not, chain-width, cond-width, concat-width, repeat-width}
use Rattle.bb_expr.proofs.ChoiceLemmas.{copies-cover}
use Rattle.bb_expr.proofs.ShareLemmas.{chain-cells, cond-cells, concat-cells, repeat-cells}

-- an expression that can be lowered at a width after so many steps
pub record IsRequired (m : ModuleFacts) (e : Expression) (w n : ℕ) : Type 0 where
  pub fit : AreFit m e
  pub own : own_width (ranges_in m) e ≤ w
  pub room : n + most_steps w (cell_count (ranges_in m) e w) ≤ 2 ^ 31
  pub few : cell_count (ranges_in m) e w ≤ 2000000

no-more : (n k : ℕ) → n ≤ n + k
no-more n k = omega arith

greatest-each : {X : Type 0} (f : X → ℕ) (w : ℕ) (xs : List X) → greatest (map f xs) ≤ w → AllByRecursion (λ x. f x ≤ w) xs
greatest-each f w [] h = tt
greatest-each f w (x ∷ xs) h = (omega (arith, h), greatest-each f w xs (omega (arith, h)))

module _ (m : ModuleFacts) where
  pub requested-not : (k : ℕ) (e : Expression) (w n : ℕ) → IsRequired m (Not k e) w n → IsRequired m e w n
  requested-not k e w n h = record {
    fit = fit-not m k e h.fit;
    own = h.own;
    room = omega (arith, h.room, no-more (cell_count (ranges_in m) e w) (if is_odd k then w else 0));
    few = omega (arith, h.few, no-more (cell_count (ranges_in m) e w) (if is_odd k then w else 0));
  }

  pub requested-odd : (k : ℕ) (e : Expression) (w n : ℕ) → is_odd k ≡ true → IsRequired m (Not k e) w n → n + (w + 4 * (cell_count (ranges_in m) e w + w)) ≤ 2 ^ 31
  requested-odd k e w n odd h = omega (arith, h.room, ap (λ (b : Bool). cell_count (ranges_in m) e w + (if b then w else 0)) odd)

  pub requested-first : (e : Expression) (xs : List (Op × Expression)) (w n : ℕ) → IsRequired m (Chain e (operands xs)) w n → own_width (ranges_in m) e ≤ w
  requested-first e xs w n h = omega (arith, h.own, chain-width (ranges_in m) e xs)

  pub requested-operands : (e : Expression) (xs : List (Op × Expression)) (w n : ℕ) → IsRequired m (Chain e (operands xs)) w n → All (λ x. own_width (ranges_in m) x.1 ≤ w) xs
  requested-operands e xs w n h = All-from_recursion (λ x. own_width (ranges_in m) x.1 ≤ w) xs (greatest-each (λ x. own_width (ranges_in m) x.1) w xs (omega (arith, h.own, chain-width (ranges_in m) e xs)))

  pub requested-chain : (e : Expression) (xs : List (Op × Expression)) (w n : ℕ) → IsRequired m (Chain e (operands xs)) w n → (n + most_steps w (cell_count (ranges_in m) e w + sum_by (operand_cells (ranges_in m) w) xs) ≤ 2 ^ 31)
      × (cell_count (ranges_in m) e w + sum_by (operand_cells (ranges_in m) w) xs ≤ 2000000)
  requested-chain e xs w n h = (subst (λ k. n + most_steps w k ≤ 2 ^ 31) (chain-cells (ranges_in m) e xs w) h.room, omega (arith, h.few, chain-cells (ranges_in m) e xs w))

  pub requested-arms : (xs : List (Expression × Expression)) (last : Expression) (w n : ℕ) → IsRequired m (Cond (arms xs) last) w n → All (λ x. own_width (ranges_in m) x.1 ≤ w) xs
  requested-arms xs last w n h = All-from_recursion (λ x. own_width (ranges_in m) x.1 ≤ w) xs (greatest-each (λ x. own_width (ranges_in m) x.1) w xs (omega (arith, h.own, cond-width (ranges_in m) xs last)))

  pub requested-last : (xs : List (Expression × Expression)) (last : Expression) (w n : ℕ) → IsRequired m (Cond (arms xs) last) w n → own_width (ranges_in m) last ≤ w
  requested-last xs last w n h = omega (arith, h.own, cond-width (ranges_in m) xs last)

  pub requested-cond : (xs : List (Expression × Expression)) (last : Expression) (w n : ℕ) → IsRequired m (Cond (arms xs) last) w n → (n + most_steps w (sum_by (arm_cells (ranges_in m) w) xs + cell_count (ranges_in m) last w) ≤ 2 ^ 31)
      × (sum_by (arm_cells (ranges_in m) w) xs + cell_count (ranges_in m) last w ≤ 2000000)
  requested-cond xs last w n h = (subst (λ k. n + most_steps w k ≤ 2 ^ 31) (cond-cells (ranges_in m) xs last w) h.room, omega (arith, h.few, cond-cells (ranges_in m) xs last w))

  -- parts are no wider side by side than their context, and make the cells of the whole
  pub requested-concat : (xs : List Expression) (w n : ℕ) → IsRequired m (Concat (listed_parts xs)) w n → (sum_by (own_width (ranges_in m)) xs ≤ w) × (n + (w + 4 * sum_by (own_cells (ranges_in m)) xs) ≤ 2 ^ 31) × (sum_by (own_cells (ranges_in m)) xs ≤ 2000000)
  requested-concat xs w n h = (omega (arith, h.own, concat-width (ranges_in m) xs, sum-map (own_width (ranges_in m)) xs), omega (arith, h.room, concat-cells (ranges_in m) xs w), omega (arith, h.few, concat-cells (ranges_in m) xs w))

  pub requested-repeat : (k : ℕ) (xs : List Expression) (w n : ℕ) → IsRequired m (Repeat k (listed_parts xs)) w n
      → (sum_by (own_width (ranges_in m)) xs ≤ w) × (n + (w + 4 * sum_by (own_cells (ranges_in m)) xs) ≤ 2 ^ 31) × (1 ≤ k) × (k * sum_by (own_width (ranges_in m)) xs ≤ w) × (sum_by (own_cells (ranges_in m)) xs ≤ 2000000)
  requested-repeat k xs w n h =
      let some : 1 ≤ k = (fit-here m (Repeat k (listed_parts xs)) h.fit).right in
      let whole : k * sum_by (own_width (ranges_in m)) xs ≤ w = omega (arith, h.own, repeat-width (ranges_in m) k xs, ap (λ s. k * s) (sum-map (own_width (ranges_in m)) xs)) in
      (omega (arith, whole, copies-cover k (sum_by (own_width (ranges_in m)) xs) some), omega (arith, h.room, repeat-cells (ranges_in m) k xs w), some, whole, omega (arith, h.few, repeat-cells (ranges_in m) k xs w))
