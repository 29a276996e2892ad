-- Chains, conditionals and parts, one operand, arm or part more.
use Rattle.std.proofs.Common.{◌≡◌, ℕ, ◌+◌, ◌-◌, ◌<◌, ◌≤◌, true, false, List, [], ◌∷◌, ◌++◌, length, map, take, drop, get_or, refl, sym, ap, ap₂, ◌∙◌, subst, arith, length-append, append-nil}
use Rattle.std.specs.Prelude.{◌*◌, fold, sum_by, if◌then◌else◌}
use Rattle.std.specs.List.{flat_map}
use Rattle.std.proofs.lemmas.List.{at_drop_all}
use Rattle.std.proofs.lemmas.List.Concat.{flat_map-append}
use Rattle.std.proofs.lemmas.List.Sums.{sum_by-cons}
use Rattle.bb_ast.specs.declared.expr.Op.{Op}
use Rattle.bb_ast.specs.Syntax.{Expression, Chain, Cond, Concat, Repeat, Not, operands, arms, listed_parts}
use Rattle.bb_ast.specs.Folds.{of_operands, of_parts}
use Rattle.bb_names.specs.declared.net.NetInfo.{NetInfo}
use Rattle.bb_names.specs.Widths.{Ranges, own_width}
use Rattle.bb_expr.specs.declared.step.BitStep.{BitStep}
use Rattle.bb_expr.specs.Lists.{copies, extended}
use Rattle.bb_expr.specs.Terms.{Const}
use Rattle.bb_expr.specs.Cells.{MadeTerms, made, makes, chained, operated, arm_made, part_bits, part_cells, cell_count}
use Rattle.bb_word.specs.Folds.{is_odd}
use Rattle.bb_expr.specs.Inside.Growing.{Adds, beside, chained_on, arms_on, widened, complemented}
use Rattle.bb_expr.specs.Inside.Shares.{own_cells}
use Rattle.bb_expr.proofs.MadeValue.{made_seen}
use Rattle.bb_expr.proofs.CellCounts.{length-made, cells-counted}
use Rattle.bb_expr.proofs.RowLemmas.{adds-beside}
use Rattle.bb_expr.proofs.Loops.{rest-here}

-- a chain as far as it has come
pub record IsChained (nets : List NetInfo) (ranges : Ranges) (w : ℕ) (rest : List (Op × Expression)) (whole : MadeTerms) (old now : List BitStep) (bits : List ℕ) : Type 0 where
  pub so_far : MadeTerms
  pub adds : Adds nets so_far old now bits
  pub all : chained_on ranges w so_far rest ≡ whole

chain-folded : (ranges : Ranges) (w : ℕ) (m : MadeTerms) (xs : List (Op × Expression))
    → fold (λ a x. let b = x.1.at w in chained a b (operated x.0 a.bits b.bits)) m (of_operands (made_seen ranges) (makes ranges) (operands xs)) ≡ chained_on ranges w m xs
chain-folded ranges w m [] = refl
chain-folded ranges w m (x ∷ xs) = chain-folded ranges w (chained m (made ranges x.1 w) (operated x.0 m.bits (made ranges x.1 w).bits)) xs

pub chain-made : (ranges : Ranges) (w : ℕ) (e : Expression) (xs : List (Op × Expression)) → made ranges (Chain e (operands xs)) w ≡ chained_on ranges w (made ranges e w) xs
chain-made ranges w e xs = chain-folded ranges w (made ranges e w) xs

pub cond-made : (ranges : Ranges) (w : ℕ) (xs : List (Expression × Expression)) (last : Expression) → made ranges (Cond (arms xs) last) w ≡ arms_on ranges w (made ranges last w) xs
cond-made ranges w [] last = refl
cond-made ranges w (x ∷ xs) last = ap (arm_made (made ranges x.0 (own_width ranges x.0)) (made ranges x.1 w)) (cond-made ranges w xs last)

-- parts, with zeros on their left
parts-bits : (ranges : Ranges) (xs : List Expression) → part_bits (of_parts (made_seen ranges) (makes ranges) (listed_parts xs)) ≡ (beside ranges xs).bits
parts-bits ranges [] = refl
parts-bits ranges (x ∷ xs) = ap (λ r. (made ranges x (own_width ranges x)).bits ++ r) (parts-bits ranges xs)

parts-cells : (ranges : Ranges) (xs : List Expression) → part_cells (of_parts (made_seen ranges) (makes ranges) (listed_parts xs)) ≡ (beside ranges xs).cells
parts-cells ranges [] = refl
parts-cells ranges (x ∷ xs) = ap (λ r. (made ranges x (own_width ranges x)).cells ++ r) (parts-cells ranges xs)

pub none-left : (n turn : ℕ) → n ≤ turn → n - turn ≡ 0
none-left n turn past = omega (arith, past)

-- what is left before the element that a loop from the last on comes to next
pub before : {X Y : Type 0} (g : Y → ℕ) (f : X → Y) (xs : List X) (turn : ℕ) → sum_by g (map f (take (length xs - (turn + 1)) xs)) ≡ sum_by g (map f (take (length xs - 1 - turn) xs))
before g f xs turn = ap (λ k. sum_by g (map f (take k xs))) (same (length xs) turn)
  where
    same : (n turn : ℕ) → n - (turn + 1) ≡ n - 1 - turn
    same n turn = omega arith

module _ (nets : List NetInfo) (ranges : Ranges) where
  pub concat-made : (xs : List Expression) (w : ℕ) (old new : List BitStep) (bits : List ℕ) → Adds nets (widened w (beside ranges xs)) old new bits → Adds nets (made ranges (Concat (listed_parts xs)) w) old new bits
  concat-made xs w old new bits h =
      subst (λ b. Adds nets (record { bits = b; cells = part_cells (of_parts (made_seen ranges) (makes ranges) (listed_parts xs)) }) old new bits) (ap (extended (Const false) w) (sym (parts-bits ranges xs)))
      (subst (λ c. Adds nets (record { bits = (widened w (beside ranges xs)).bits; cells = c }) old new bits) (sym (parts-cells ranges xs)) h)

  pub repeat-made : (k : ℕ) (xs : List Expression) (w : ℕ) (old new : List BitStep) (bits : List ℕ)
      → Adds nets (widened w (record { bits = copies k (beside ranges xs).bits; cells = (beside ranges xs).cells })) old new bits → Adds nets (made ranges (Repeat k (listed_parts xs)) w) old new bits
  repeat-made k xs w old new bits h =
      subst (λ b. Adds nets (record { bits = b; cells = part_cells (of_parts (made_seen ranges) (makes ranges) (listed_parts xs)) }) old new bits) (ap (λ b. extended (Const false) w (copies k b)) (sym (parts-bits ranges xs)))
      (subst (λ c. Adds nets (record { bits = extended (Const false) w (copies k (beside ranges xs).bits); cells = c }) old new bits) (sym (parts-cells ranges xs)) h)

  -- one part more
  pub part-more : (xs : List Expression) (x : Expression) (old mid new : List BitStep) (a b : List ℕ) → Adds nets (beside ranges xs) old mid a → Adds nets (made ranges x (own_width ranges x)) mid new b
      → Adds nets (beside ranges (xs ++ x ∷ [])) old new (a ++ b)
  part-more xs x old mid new a b before here =
      let bits = λ (e : Expression). (made ranges e (own_width ranges e)).bits in
      let cells = λ (e : Expression). (made ranges e (own_width ranges e)).cells in
      subst (λ u. Adds nets (record { bits = u; cells = (beside ranges (xs ++ x ∷ [])).cells }) old new (a ++ b)) (sym (flat_map-append bits xs (x ∷ []) ∙ ap (λ r. flat_map bits xs ++ r) (append-nil (bits x))))
      (subst (λ v. Adds nets (record { bits = flat_map bits xs ++ bits x; cells = v }) old new (a ++ b)) (sym (flat_map-append cells xs (x ∷ []) ∙ ap (λ r. flat_map cells xs ++ r) (append-nil (cells x))))
      (adds-beside nets (beside ranges xs) (made ranges x (own_width ranges x)) old mid new a b before here))

  -- how many bits and cells parts have
  pub beside-bits : (xs : List Expression) → length (beside ranges xs).bits ≡ sum_by (own_width ranges) xs
  beside-bits [] = refl
  beside-bits (x ∷ xs) =
      length-append (made ranges x (own_width ranges x)).bits (beside ranges xs).bits
      ∙ ap₂ (λ a b. a + b) (length-made ranges x (own_width ranges x) (omega arith)) (beside-bits xs) ∙ sym (sum_by-cons (own_width ranges) x xs)

  pub beside-cells : (xs : List Expression) → length (beside ranges xs).cells ≡ sum_by (own_cells ranges) xs
  beside-cells [] = refl
  beside-cells (x ∷ xs) =
      length-append (made ranges x (own_width ranges x)).cells (beside ranges xs).cells
      ∙ ap₂ (λ a b. a + b) (cells-counted ranges x (own_width ranges x) (omega arith)) (beside-cells xs) ∙ sym (sum_by-cons (own_cells ranges) x xs)

  -- one operand more
  pub chain-more : {X : Type 0} (f : X → Op × Expression) (w : ℕ) (xs : List X) (i : ℕ) (x : X) (whole : MadeTerms) (old now mid new : List BitStep) (bits right out : List ℕ) → i < length xs → x ≡ get_or xs i x
      → IsChained nets ranges w (map f (drop i xs)) whole old now bits → Adds nets (made ranges (f x).1 w) now mid right
      → ((m n : MadeTerms) → Adds nets m old now bits → Adds nets n now mid right → Adds nets (chained m n (operated (f x).0 m.bits n.bits)) old new out)
      → IsChained nets ranges w (map f (drop (i + 1) xs)) whole old new out
  chain-more f w xs i x whole old now mid new bits right out within at h here step = record {
    so_far = chained h.so_far (made ranges (f x).1 w) (operated (f x).0 h.so_far.bits (made ranges (f x).1 w).bits);
    adds = step h.so_far (made ranges (f x).1 w) h.adds here;
    all = sym (rest-here (chained_on ranges w h.so_far) f xs i x within at) ∙ h.all;
  }

  pub chain-ended : {X : Type 0} (f : X → Op × Expression) (w : ℕ) (xs : List X) (i : ℕ) (whole : MadeTerms) (old now : List BitStep) (bits : List ℕ) → length xs ≤ i
      → IsChained nets ranges w (map f (drop i xs)) whole old now bits → Adds nets whole old now bits
  chain-ended f w xs i whole old now bits past h =
      subst (λ m. Adds nets m old now bits) (sym (at_drop_all (λ ys. chained_on ranges w h.so_far (map f ys)) xs i past) ∙ h.all) h.adds

  -- as many bits and cells as the expression has at the width
  pub bits-long : (e : Expression) (w : ℕ) (old new : List BitStep) (bits : List ℕ) → own_width ranges e ≤ w → Adds nets (made ranges e w) old new bits → length bits ≡ w
  bits-long e w old new bits own h = h.long ∙ length-made ranges e w own

  pub steps-few : (e : Expression) (w : ℕ) (old new : List BitStep) (bits : List ℕ) → own_width ranges e ≤ w → Adds nets (made ranges e w) old new bits → length new ≤ length old + (w + 3 * cell_count ranges e w)
  steps-few e w old new bits own h = omega (arith, h.few, bits-long e w old new bits own h, cells-counted ranges e w own)

  pub parts-few : (xs : List Expression) (old new : List BitStep) (bits : List ℕ) → Adds nets (beside ranges xs) old new bits
      → (length bits ≡ sum_by (own_width ranges) xs) × (length new ≤ length old + (sum_by (own_width ranges) xs + 3 * sum_by (own_cells ranges) xs))
  parts-few xs old new bits h = (h.long ∙ beside-bits xs, omega (arith, h.few, h.long, beside-bits xs, beside-cells xs))

  -- a run of signs
  pub not-odd : (k : ℕ) (e : Expression) (w : ℕ) (old new : List BitStep) (bits : List ℕ) → is_odd k ≡ true → Adds nets (complemented (made ranges e w)) old new bits → Adds nets (made ranges (Not k e) w) old new bits
  not-odd k e w old new bits odd h = subst (λ b. Adds nets (if b then complemented (made ranges e w) else made ranges e w) old new bits) (sym odd) h

  pub not-even : (k : ℕ) (e : Expression) (w : ℕ) (old new : List BitStep) (bits : List ℕ) → is_odd k ≡ false → Adds nets (made ranges e w) old new bits → Adds nets (made ranges (Not k e) w) old new bits
  not-even k e w old new bits even h = subst (λ b. Adds nets (if b then complemented (made ranges e w) else made ranges e w) old new bits) (sym even) h

  -- one arm more, before the others
  pub arm-more : {X : Type 0} (f : X → Expression × Expression) (w : ℕ) (last : MadeTerms) (xs : List X) (turn : ℕ) (x : X) (old new : List BitStep) (bits : List ℕ) → turn < length xs → x ≡ get_or xs (length xs - 1 - turn) x
      → Adds nets (arm_made (made ranges (f x).0 (own_width ranges (f x).0)) (made ranges (f x).1 w) (arms_on ranges w last (map f (drop (length xs - turn) xs)))) old new bits
      → Adds nets (arms_on ranges w last (map f (drop (length xs - (turn + 1)) xs))) old new bits
  arm-more f w last xs turn x old new bits within at h =
      let i = length xs - 1 - turn in
      subst (λ p. Adds nets p old new bits)
      (ap (λ k. arm_made (made ranges (f x).0 (own_width ranges (f x).0)) (made ranges (f x).1 w) (arms_on ranges w last (map f (drop k xs)))) (next (length xs) turn within)
      ∙ sym (rest-here (arms_on ranges w last) f xs i x (omega (arith, within)) at) ∙ ap (λ k. arms_on ranges w last (map f (drop k xs))) (same (length xs) turn)) h
    where
      next : (n turn : ℕ) → turn < n → n - turn ≡ (n - 1 - turn) + 1
      next n turn within = omega (arith, within)

      same : (n turn : ℕ) → n - 1 - turn ≡ n - (turn + 1)
      same n turn = omega arith
