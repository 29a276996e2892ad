-- What the next operator of a level needs, and that the level after it can be lowered then.
use Rattle.std.proofs.Common.{◌≡◌, ℕ, zero, suc, ◌+◌, ◌*◌, ◌<◌, ◌≤◌, List, [], ◌∷◌, map, drop, get_or, length, refl, sym, ap, ap₂, ◌∙◌, subst, arith}
use Rattle.std.specs.Prelude.{◌^◌, All}
use Rattle.std.specs.List.{AllByRecursion}
use Rattle.std.proofs.lemmas.List.Elements.{All-tail, recursion_from_All}
use Rattle.bb_ast.specs.declared.operators.WordOp.{WordOp}
use Rattle.bb_ast.specs.declared.operators.FoldOp.{FoldOp}
use Rattle.bb_ast.specs.declared.operators.FoldOp.TheVariants as folds
use Rattle.bb_ast.specs.Syntax.{Expression, Fold, Words, word_operands}
use Rattle.bb_names.specs.Widths.{own_width, operator_width, first_at, second_at}
use Rattle.bb_names.specs.Inside.Checked.{ModuleFacts}
use Rattle.bb_word.specs.Folds.{fold_cells}
use Rattle.bb_word.specs.Meanings.{word_width}
use Rattle.bb_word.specs.Words.{word_cells, HaveOneWidth, AreWidths}
use Rattle.bb_names.specs.declared.net.NetInfo.{NetInfo}
use Rattle.bb_names.specs.Widths.{Ranges}
use Rattle.bb_expr.specs.declared.step.BitStep.{BitStep}
use Rattle.bb_expr.specs.Cells.{MadeTerms, made, word_made, cell_count}
use Rattle.bb_expr.specs.Inside.Fit.{AreFit, ranges_in}
use Rattle.bb_expr.specs.Inside.Growing.{Adds, most_steps, word_joined, widened}
use Rattle.bb_expr.specs.Inside.Levels.{width_on, taken, words_cells, words_on, AreReady}
use Rattle.bb_expr.proofs.ValueLemmas.{second-fits, result-fits, one-width}
use Rattle.bb_expr.proofs.FitLemmas.{operator-some}
use Rattle.bb_expr.proofs.OperandLemmas.{fit-here, fit-left, fit-words, fit-folded}
use Rattle.std.proofs.lemmas.List.{at_drop_all}
use Rattle.std.specs.Prelude.{min}
use Rattle.bb_lemmas.proofs.Turns.{all_here}
use Rattle.bb_expr.proofs.RequestLemmas.{IsRequired}
use Rattle.bb_expr.proofs.Loops.{rest-here}
use Rattle.bb_expr.proofs.LevelLemmas.{first-some, second-some, first-most, second-most, operator-most, word-some, cells-hold, level-tail, left-fits, taken-most, words-cells, level-width}

-- the next operator with its right operand: how wide both are taken, what there is room for, and what is left then
pub record CanStep (m : ModuleFacts) (x : WordOp × Expression) (xs : List (WordOp × Expression)) (w l n b right result context second : ℕ) : Type 0 where
  pub fit : AreFit m x.1
  pub fits : own_width (ranges_in m) x.1 ≤ second
  pub right_most : second ≤ 65536
  pub right_some : 1 ≤ second
  pub left_most : b ≤ 65536
  pub left_some : 1 ≤ b
  pub widths : HaveOneWidth x.0 b second
  pub narrow : word_width x.0 b ≤ context
  pub top : context ≤ 65536
  pub few : cell_count (ranges_in m) x.1 second + word_cells x.0 b second ≤ 2000000
  pub room : n + most_steps second (cell_count (ranges_in m) x.1 second) ≤ 2 ^ 31
  pub next : (n' b' : ℕ) → n' + word_width x.0 b ≤ n + (second + 3 * cell_count (ranges_in m) x.1 second) + 2 + word_cells x.0 b second + context → b' ≡ context → AreReady m xs w result n' b'
  pub all : (p : MadeTerms) → words_on (ranges_in m) p l (x ∷ xs) w ≡ words_on (ranges_in m) (word_made x.0 b second p (made (ranges_in m) x.1 second) context) result xs w

module _ (m : ModuleFacts) where
  pub each-most : (xs : List (WordOp × Expression)) → AllByRecursion (λ x. AreFit m x.1) xs → AllByRecursion (λ x. own_width (ranges_in m) x.1 ≤ 65536) xs
  each-most [] h = tt
  each-most (x ∷ xs) h = ((fit-here m x.1 h.0).bounded, each-most xs h.1)

  ready-step-at : (x : WordOp × Expression) (xs : List (WordOp × Expression)) (w l n b : ℕ) → AreReady m (x ∷ xs) w l n b
      → let r = own_width (ranges_in m) x.1 in let t = taken (ranges_in m) (operator_width x.0 l r) xs w in CanStep m x xs w l n b r (operator_width x.0 l r) t (second_at x.0 l r t)
  ready-step-at x xs w l n b h =
      let ranges = ranges_in m in
      let r = own_width ranges x.1 in
      let o = operator_width x.0 l r in
      let t = taken ranges o xs w in
      let p = first_at x.0 l r t in
      let q = second_at x.0 l r t in
      let each = recursion_from_All (λ x. AreFit m x.1) (x ∷ xs) h.fit in
      let fit = fit-here m x.1 each.0 in
      let some : 1 ≤ o = operator-some x.0 l r h.some fit.some in
      let most : o ≤ 65536 = operator-most x.0 l r 65536 h.bounded fit.bounded (omega arith) in
      let fits : o ≤ t = left-fits ranges o xs w h.reach in
      let top : t ≤ 65536 = taken-most ranges 65536 o xs w (each-most xs each.1) (omega arith) most h.top in
      let left : 1 ≤ p = first-some x.0 l r t h.some fit.some (omega (arith, some, fits)) in
      let right : 1 ≤ q = second-some x.0 l r t h.some fit.some (omega (arith, some, fits)) in
      let left_most : p ≤ 65536 = first-most x.0 l r t 65536 h.bounded fit.bounded top in
      let right_most : q ≤ 65536 = second-most x.0 l r t 65536 h.bounded fit.bounded top in
      let hold : p + q ≤ 2 * word_cells x.0 p q = cells-hold x.0 p q left right (one-width x.0 l r t) in
      let narrow : word_width x.0 p ≤ t = result-fits x.0 l r t fits in
      let bit : 1 ≤ word_width x.0 p = word-some x.0 p left in
      subst (λ k. CanStep m x xs w l n k r o t q) (sym h.bits)
      (ready-numbers x xs w l n p r o t q each.0 (second-fits x.0 l r t fits) right_most right left_most left (one-width x.0 l r t) narrow top
      (omega (arith, h.few)) (omega (arith, h.room, h.bits, hold))
      (λ n' b' grown is. record {
        fit = All-tail (λ x. AreFit m x.1) x xs h.fit;
        level = level-tail x xs h.level;
        some = some;
        bounded = most;
        reach = h.reach;
        top = h.top;
        bits = is;
        few = omega (arith, h.few);
        room = omega (arith, h.room, h.bits, hold, left, right, bit, grown, is);
      }) (λ p. refl))
    where
      ready-numbers : (x : WordOp × Expression) (xs : List (WordOp × Expression)) (w l n b right result context second : ℕ) → AreFit m x.1 → own_width (ranges_in m) x.1 ≤ second → second ≤ 65536 → 1 ≤ second → b ≤ 65536 → 1 ≤ b
          → HaveOneWidth x.0 b second → word_width x.0 b ≤ context → context ≤ 65536 → cell_count (ranges_in m) x.1 second + word_cells x.0 b second ≤ 2000000 → n + most_steps second (cell_count (ranges_in m) x.1 second) ≤ 2 ^ 31
          → ((n' b' : ℕ) → n' + word_width x.0 b ≤ n + (second + 3 * cell_count (ranges_in m) x.1 second) + 2 + word_cells x.0 b second + context → b' ≡ context → AreReady m xs w result n' b')
          → ((p : MadeTerms) → words_on (ranges_in m) p l (x ∷ xs) w ≡ words_on (ranges_in m) (word_made x.0 b second p (made (ranges_in m) x.1 second) context) result xs w)
          → CanStep m x xs w l n b right result context second
      ready-numbers x xs w l n b right result context second a1 a2 a3 a4 a5 a6 a7 a8 a9 a10 a11 a12 a13 =
          record { fit = a1; fits = a2; right_most = a3; right_some = a4; left_most = a5; left_some = a6; widths = a7; narrow = a8; top = a9; few = a10; room = a11; next = a12; all = a13 }

  -- the same with names for the widths
  pub ready-step : (x : WordOp × Expression) (xs : List (WordOp × Expression)) (w l n b right result context second : ℕ) → AreReady m (x ∷ xs) w l n b → right ≡ own_width (ranges_in m) x.1 → result ≡ operator_width x.0 l right
      → context ≡ taken (ranges_in m) result xs w → second ≡ second_at x.0 l right context → CanStep m x xs w l n b right result context second
  ready-step x xs w l n b right result context second h is_right is_result is_context is_second =
      let ranges = ranges_in m in
      let r = own_width ranges x.1 in
      let o = operator_width x.0 l r in
      let t = taken ranges o xs w in
      let as_result : result ≡ o = is_result ∙ ap (operator_width x.0 l) is_right in
      let as_context : context ≡ t = is_context ∙ ap (λ k. taken ranges k xs w) as_result in
      let as_second : second ≡ second_at x.0 l r t = is_second ∙ ap₂ (second_at x.0 l) is_right as_context in
      subst (λ k. CanStep m x xs w l n b k result context second) (sym is_right)
      (subst (λ k. CanStep m x xs w l n b r k context second) (sym as_result)
      (subst (λ k. CanStep m x xs w l n b r o k second) (sym as_context)
      (subst (λ k. CanStep m x xs w l n b r o t k) (sym as_second) (ready-step-at x xs w l n b h))))

  -- what the left part of a level needs
  left-held : (xs : List (WordOp × Expression)) (l w : ℕ) → AllByRecursion (λ x. AreFit m x.1) xs → 1 ≤ l → width_on (ranges_in m) l xs ≤ w → taken (ranges_in m) l xs w ≤ w + 2 * words_cells (ranges_in m) l xs w
  left-held [] l w fit some reach = omega arith
  left-held (x ∷ xs) l w fit some reach =
      let ranges = ranges_in m in
      let r = own_width ranges x.1 in
      let o = operator_width x.0 l r in
      let t = taken ranges o xs w in
      let here = fit-here m x.1 fit.0 in
      let wide : 1 ≤ t = omega (arith, operator-some x.0 l r some here.some, left-fits ranges o xs w reach) in
      omega (
        arith,
        cells-hold x.0 (first_at x.0 l r t) (second_at x.0 l r t) (first-some x.0 l r t some here.some wide) (second-some x.0 l r t some here.some wide) (one-width x.0 l r t),
      )

  module _ (e : Expression) (xs : List (WordOp × Expression)) (w n : ℕ) (requested : IsRequired m (Words e (word_operands xs)) w n) (top : w ≤ 65536) where
    reach : width_on (ranges_in m) (own_width (ranges_in m) e) xs ≤ w
    reach = omega (arith, requested.own, level-width (ranges_in m) e xs)

    pub requested-left : (t : ℕ) → t ≡ taken (ranges_in m) (own_width (ranges_in m) e) xs w
        → (own_width (ranges_in m) e ≤ t) × (t ≤ 65536) × (n + most_steps t (cell_count (ranges_in m) e t) ≤ 2 ^ 31) × (cell_count (ranges_in m) e t ≤ 2000000)
    requested-left t is =
        let ranges = ranges_in m in
        let l = own_width ranges e in
        let here = fit-here m e (fit-left m e xs requested.fit) in
        let each = recursion_from_All (λ x. AreFit m x.1) xs (fit-words m e xs requested.fit) in
        let cells = words-cells ranges e xs w ∙ ap (λ k. cell_count ranges e k + words_cells ranges l xs w) (sym is) in (
          omega (arith, left-fits ranges l xs w reach, is),
          omega (arith, taken-most ranges 65536 l xs w (each-most xs each) (omega arith) here.bounded top, is),
          omega (arith, requested.room, cells, left-held xs l w each here.some reach, is),
          omega (arith, requested.few, cells),
        )

    pub requested-ready : (own t n' b : ℕ) → own ≡ own_width (ranges_in m) e → t ≡ taken (ranges_in m) own xs w → n' ≤ n + (t + 3 * cell_count (ranges_in m) e t) → b ≡ t → AreReady m xs w own n' b
    requested-ready own t n' b is_own is_t grown is_b =
        let ranges = ranges_in m in
        let l = own_width ranges e in
        let here = fit-here m e (fit-left m e xs requested.fit) in
        let cells = words-cells ranges e xs w ∙ ap (λ k. cell_count ranges e k + words_cells ranges l xs w) (sym (is_t ∙ ap (λ k. taken ranges k xs w) is_own)) in
        subst (λ k. AreReady m xs w k n' b) (sym is_own)
        record {
          fit = fit-words m e xs requested.fit;
          level = (fit-here m (Words e (word_operands xs)) requested.fit).right;
          some = here.some;
          bounded = here.bounded;
          reach = reach;
          top = top;
          bits = is_b ∙ is_t ∙ ap (λ k. taken ranges k xs w) is_own;
          few = omega (arith, requested.few, cells);
          room = omega (arith, requested.room, cells, grown, is_b);
        }

  fold-holds : (op : FoldOp) (w : ℕ) → (w ≤ fold_cells op w + 1) × (fold_cells op w ≤ w + 1)
  fold-holds folds.None w = (omega arith, omega arith)
  fold-holds folds.All w = (omega arith, omega arith)
  fold-holds folds.NotAll w = (omega arith, omega arith)
  fold-holds folds.Any w = (omega arith, omega arith)
  fold-holds folds.NotAny w = (omega arith, omega arith)
  fold-holds folds.Odd w = (omega arith, omega arith)
  fold-holds folds.NotOdd w = (omega arith, omega arith)

  -- what the operand of a reduction needs
  pub requested-folded : (op : FoldOp) (e : Expression) (w n own : ℕ) → IsRequired m (Fold op e) w n → own ≡ own_width (ranges_in m) e
      → (1 ≤ own) × (own ≤ 65536) × (n + most_steps own (cell_count (ranges_in m) e own) ≤ 2 ^ 31) × (cell_count (ranges_in m) e own ≤ 2000000) × (fold_cells op own ≤ own + 1)
  requested-folded op e w n own requested is =
      let ranges = ranges_in m in
      let here = fit-here m e (fit-folded m op e requested.fit) in
      let cells = ap (λ k. cell_count ranges e k + fold_cells op k) is in (
        omega (arith, here.some, is),
        omega (arith, here.bounded, is),
        omega (arith, requested.room, requested.own, cells, (fold-holds op own).0, here.some, is),
        omega (arith, requested.few, cells),
        (fold-holds op own).1,
      )

  -- the widths at the operator that a loop is at
  pub here-most : {X : Type 0} (f : X → WordOp × Expression) (rest : List X) (i : ℕ) (x : X) (w l right result context : ℕ) → All (λ x. AreFit m x.1) (map f rest) → i < length rest → x ≡ get_or rest i x
      → l ≤ 65536 → w ≤ 65536 → right ≡ own_width (ranges_in m) (f x).1 → result ≡ operator_width (f x).0 l right → context ≡ taken (ranges_in m) result (map f (drop (i + 1) rest)) w
      → (right ≤ 65536) × (result ≤ 65536) × (context ≤ 65536)
  here-most f rest i x w l right result context fit within at left top is_right is_result is_context =
      let here = fit-here m (f x).1 (all_here (λ x. AreFit m x.1) f rest i x within at fit) in
      let one : right ≤ 65536 = omega (arith, is_right, here.bounded) in
      let two : result ≤ 65536 = omega (arith, is_result, operator-most (f x).0 l right 65536 left one (omega arith)) in
      let each = each-most (map f (drop (i + 1) rest)) (all-dropped f rest (i + 1) (recursion_from_All (λ x. AreFit m x.1) (map f rest) fit)) in
      (one, two, omega (arith, is_context, taken-most (ranges_in m) 65536 result (map f (drop (i + 1) rest)) w each (omega arith) two top))
    where
      all-dropped : {X : Type 0} (f : X → WordOp × Expression) (xs : List X) (i : ℕ) → AllByRecursion (λ x. AreFit m x.1) (map f xs) → AllByRecursion (λ x. AreFit m x.1) (map f (drop i xs))
      all-dropped f xs zero h = h
      all-dropped f [] (suc i) h = h
      all-dropped f (x ∷ xs) (suc i) h = all-dropped f xs i h.1

  -- and those of the left part of a level
  pub level-most : (e : Expression) (xs : List (WordOp × Expression)) (w l t : ℕ) → AreFit m (Words e (word_operands xs)) → w ≤ 65536 → l ≡ own_width (ranges_in m) e → t ≡ taken (ranges_in m) l xs w → (l ≤ 65536) × (t ≤ 65536)
  level-most e xs w l t fit top is_own is_t =
      let here = fit-here m e (fit-left m e xs fit) in
      let each = recursion_from_All (λ x. AreFit m x.1) xs (fit-words m e xs fit) in
      let own : l ≤ 65536 = omega (arith, is_own, here.bounded) in
      (own, omega (arith, is_t, taken-most (ranges_in m) 65536 l xs w (each-most xs each) (omega arith) own top))

-- the cells of the operator that a loop is at, and of those after it
pub cells-here : {X : Type 0} (ranges : Ranges) (f : X → WordOp × Expression) (rest : List X) (i : ℕ) (x : X) (w l right result context first second : ℕ) → i < length rest → x ≡ get_or rest i x
    → right ≡ own_width ranges (f x).1 → result ≡ operator_width (f x).0 l right → context ≡ taken ranges result (map f (drop (i + 1) rest)) w → first ≡ first_at (f x).0 l right context → second ≡ second_at (f x).0 l right context
    → words_cells ranges l (map f (drop i rest)) w ≡ (cell_count ranges (f x).1 second + word_cells (f x).0 first second) + words_cells ranges result (map f (drop (i + 1) rest)) w
cells-here ranges f rest i x w l right result context first second within at is_right is_result is_context is_first is_second =
    let xs = map f (drop (i + 1) rest) in
    let r = own_width ranges (f x).1 in
    let o = operator_width (f x).0 l r in
    let as_result : result ≡ o = is_result ∙ ap (operator_width (f x).0 l) is_right in
    let as_context : context ≡ taken ranges o xs w = is_context ∙ ap (λ k. taken ranges k xs w) as_result in
    rest-here (λ ys. words_cells ranges l ys w) f rest i x within at
    ∙ ap₂ (λ p q. (cell_count ranges (f x).1 q + word_cells (f x).0 p q) + words_cells ranges o xs w)
    (sym (is_first ∙ ap₂ (first_at (f x).0 l) is_right as_context)) (sym (is_second ∙ ap₂ (second_at (f x).0 l) is_right as_context))
    ∙ ap (λ k. (cell_count ranges (f x).1 second + word_cells (f x).0 first second) + words_cells ranges k xs w) (sym as_result)

-- a sum that stops at a greatest number, with what is left
pub level-share : (m a b total inner one now rest whole : ℕ) → inner ≡ min m a → one ≡ min (inner + b) m → now ≡ min (total + one) m → min m (total + ((a + b) + rest)) ≡ whole → min m (now + rest) ≡ whole
level-share m a b total inner one now rest whole x y z all = omega (arith, x, y, z, all)

pub are-widths : (op : WordOp) (b s l r : ℕ) → HaveOneWidth op b s → 1 ≤ b → 1 ≤ s → l ≡ b → r ≡ s → AreWidths op l r
are-widths op b s l r one left right is_left is_right =
    subst (λ k. AreWidths op k r) (sym is_left) (subst (AreWidths op b) (sym is_right) (record { some_left = left; some_right = right; one = one }))

-- a level as far as it has come
pub record IsWorded (nets : List NetInfo) (ranges : Ranges) (w l : ℕ) (rest : List (WordOp × Expression)) (whole : MadeTerms) (old now : List BitStep) (bits : List ℕ) : Type 0 where
  pub so_far : MadeTerms
  pub adds : Adds nets so_far old now bits
  pub all : words_on ranges so_far l rest w ≡ whole

-- one operator more
pub words-more : (nets : List NetInfo) (ranges : Ranges) (x : WordOp × Expression) (xs : List (WordOp × Expression)) (w l b result context second : ℕ) (whole : MadeTerms) (old now mid new : List BitStep) (bits right out : List ℕ)
    → ((p : MadeTerms) → words_on ranges p l (x ∷ xs) w ≡ words_on ranges (word_made x.0 b second p (made ranges x.1 second) context) result xs w)
    → IsWorded nets ranges w l (x ∷ xs) whole old now bits → Adds nets (made ranges x.1 second) now mid right
    → ((m n : MadeTerms) → Adds nets m old now bits → Adds nets n now mid right → Adds nets (widened context (word_joined x.0 m n)) old new out)
    → IsWorded nets ranges w result xs whole old new out
words-more nets ranges x xs w l b result context second whole old now mid new bits right out all h here step = record {
  so_far = word_made x.0 b second h.so_far (made ranges x.1 second) context;
  adds = step h.so_far (made ranges x.1 second) h.adds here;
  all = sym (all h.so_far) ∙ h.all;
}

pub words-ended : {X : Type 0} (nets : List NetInfo) (ranges : Ranges) (f : X → WordOp × Expression) (w l : ℕ) (xs : List X) (i : ℕ) (whole : MadeTerms) (old now : List BitStep) (bits : List ℕ) → length xs ≤ i
    → IsWorded nets ranges w l (map f (drop i xs)) whole old now bits → Adds nets whole old now bits
words-ended nets ranges f w l xs i whole old now bits past h =
    subst (λ m. Adds nets m old now bits) (sym (at_drop_all (λ ys. words_on ranges h.so_far l (map f ys) w) xs i past) ∙ h.all) h.adds
