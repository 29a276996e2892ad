-- Widths as far as 64 bits say them.
use Rattle.std.proofs.Common.{◌≡◌, ℕ, zero, suc, ◌+◌, ◌*◌, ◌<◌, ◌≤◌, ◌-◌, ◌^◌, List, [], ◌∷◌, ◌++◌, length, take, map, get_or, sym, ap, ap₂, ◌∙◌, arith, inl, inr}
use Rattle.std.proofs.lemmas.Grind.{common_steps}
use Rattle.std.proofs.lemmas.List.{map-append}
use Rattle.std.proofs.lemmas.List.Sums.{fold-append}
use Rattle.std.specs.Prelude.{◌⊎◌, max, min, sum}
use Rattle.bb_names.specs.Inside.Firsts.{saturated, words_width}
use Rattle.bb_names.specs.Widths.{greatest, operator_width}
use Rattle.bb_ast.specs.declared.operators.WordOp.{WordOp}
use Rattle.bb_ast.specs.declared.operators.WordOp.TheVariants as ops
use Rattle.bb_names.proofs.Noting.{seen-more}

most-max : (c a b : ℕ) → min (max a b) c ≡ max (min a c) (min b c)
most-max c a b = omega arith

most-add : (c a b : ℕ) → min (min a c + min b c) c ≡ min (a + b) c
most-add c a b = omega arith

either : (a c : ℕ) → ((min a c ≡ a) × (a ≤ c)) ⊎ ((min a c ≡ c) × (c ≤ a))
either zero c = inl (omega arith, omega arith)
either (suc a) zero = inr (omega arith, omega arith)
either (suc a) (suc c) = more (either a c)
  where
    more : ((min a c ≡ a) × (a ≤ c)) ⊎ ((min a c ≡ c) × (c ≤ a)) → ((min (suc a) (suc c) ≡ suc a) × (suc a ≤ suc c)) ⊎ ((min (suc a) (suc c) ≡ suc c) × (suc c ≤ suc a))
    more (inl e) = inl (omega (arith, e.1), omega (arith, e.1))
    more (inr e) = inr (omega (arith, e.1), omega (arith, e.1))

times : (x a c k : ℕ) → ((x ≡ a) × (a ≤ c)) ⊎ ((x ≡ c) × (c ≤ a)) → min (x * suc k) c ≡ min (suc k * a) c
times x a c k (inl e) = ap (λ z. min (z * suc k) c) e.0 ∙ ap (λ z. min z c) turned
  where
    turned : a * suc k ≡ suc k * a
    turned = grind arith
times x a c k (inr e) = omega (arith, left, right)
  where
    left : c ≤ x * suc k
    left = grind (arith, e.0)

    right : c ≤ suc k * a
    right = grind (arith, e.1)

most-times : (c a k : ℕ) → min (min a c * k) c ≡ min (k * a) c
most-times c a zero = grind arith
most-times c a (suc k) = times (min a c) a c k (either a c)

greatest-push : (xs : List ℕ) (x : ℕ) → greatest (xs ++ x ∷ []) ≡ max (greatest xs) x
greatest-push [] x = omega arith
greatest-push (y ∷ ys) x = ap (max y) (greatest-push ys x) ∙ omega arith

sum-push : (xs : List ℕ) (x : ℕ) → sum (xs ++ x ∷ []) ≡ sum xs + x
sum-push xs x = grind (arith, common_steps)

pub saturated-max : (a b r x y : ℕ) → a ≡ saturated x → b ≡ saturated y → r ≡ max a b → r ≡ saturated (max x y)
saturated-max a b r x y f g h = h ∙ ap₂ max f g ∙ sym (most-max (2 ^ 64 - 1) x y)

pub saturated-add : (a b r x y : ℕ) → a ≡ saturated x → b ≡ saturated y → r ≡ saturated (a + b) → r ≡ saturated (x + y)
saturated-add a b r x y f g h = h ∙ ap₂ (λ p q. saturated (p + q)) f g ∙ most-add (2 ^ 64 - 1) x y

pub saturated-times : (a r x k : ℕ) → a ≡ saturated x → r ≡ saturated (a * k) → r ≡ saturated (k * x)
saturated-times a r x k f h = h ∙ ap (λ p. saturated (p * k)) f ∙ most-times (2 ^ 64 - 1) x k

saturated-one : (r : ℕ) → r ≡ 1 → r ≡ saturated 1
saturated-one r h = omega (arith, h)

-- an operator on words whose operands are as wide as 64 bits say
pub saturated-operator : (op : WordOp) (a b r x y : ℕ) → a ≡ saturated x → b ≡ saturated y → r ≡ operator_width op a b → r ≡ saturated (operator_width op x y)
saturated-operator ops.Plus a b r x y f g h = saturated-max a b r x y f g h
saturated-operator ops.Minus a b r x y f g h = saturated-max a b r x y f g h
saturated-operator ops.Left a b r x y f g h = h ∙ f
saturated-operator ops.Right a b r x y f g h = h ∙ f
saturated-operator ops.Equal a b r x y f g h = saturated-one r h
saturated-operator ops.NotEqual a b r x y f g h = saturated-one r h
saturated-operator ops.Less a b r x y f g h = saturated-one r h
saturated-operator ops.LessEqual a b r x y f g h = saturated-one r h
saturated-operator ops.Greater a b r x y f g h = saturated-one r h
saturated-operator ops.GreaterEqual a b r x y f g h = saturated-one r h
saturated-operator ops.Both a b r x y f g h = saturated-one r h
saturated-operator ops.Either a b r x y f g h = saturated-one r h

pub greatest-turn : {X Y : Type 0} (w : Y → ℕ) (v : X → Y) (xs : List X) (i : ℕ) (x : X) (a b r : ℕ) → i < length xs → x ≡ get_or xs i x
    → a ≡ saturated (greatest (map w (map v (take i xs)))) → b ≡ saturated (w (v x)) → r ≡ max a b → r ≡ saturated (greatest (map w (map v (take (i + 1) xs))))
greatest-turn w v xs i x a b r within at f g h =
    saturated-max a b r (greatest (map w (map v (take i xs)))) (w (v x)) f g h
    ∙ ap saturated (sym (ap (λ z. greatest (map w z)) (seen-more v xs i x within at) ∙ ap greatest (map-append w (map v (take i xs)) (v x ∷ [])) ∙ greatest-push (map w (map v (take i xs))) (w (v x))))

pub sum-turn : {X Y : Type 0} (w : Y → ℕ) (v : X → Y) (xs : List X) (i : ℕ) (x : X) (a b r : ℕ) → i < length xs → x ≡ get_or xs i x
    → a ≡ saturated (sum (map w (map v (take i xs)))) → b ≡ saturated (w (v x)) → r ≡ saturated (a + b) → r ≡ saturated (sum (map w (map v (take (i + 1) xs))))
sum-turn w v xs i x a b r within at f g h =
    saturated-add a b r (sum (map w (map v (take i xs)))) (w (v x)) f g h
    ∙ ap saturated (sym (ap (λ z. sum (map w z)) (seen-more v xs i x within at) ∙ ap sum (map-append w (map v (take i xs)) (v x ∷ [])) ∙ sum-push (map w (map v (take i xs))) (w (v x))))

pub words-turn : {X Y : Type 0} (w : Y → WordOp × ℕ) (v : X → Y) (xs : List X) (i : ℕ) (x : X) (left a b r : ℕ) → i < length xs → x ≡ get_or xs i x
    → a ≡ saturated (words_width left (map w (map v (take i xs)))) → b ≡ saturated (w (v x)).1 → r ≡ operator_width (w (v x)).0 a b → r ≡ saturated (words_width left (map w (map v (take (i + 1) xs))))
words-turn w v xs i x left a b r within at f g h =
    saturated-operator (w (v x)).0 a b r (words_width left (map w (map v (take i xs)))) (w (v x)).1 f g h
    ∙ ap saturated (sym (ap (λ z. words_width left (map w z)) (seen-more v xs i x within at) ∙ ap (words_width left) (map-append w (map v (take i xs)) (v x ∷ [])) ∙ fold-append (λ l z. operator_width z.0 l z.1) left (map w (map v (take i xs))) (w (v x) ∷ [])))

pub saturated-small : (r x : ℕ) → r ≡ x → r ≤ 2 ^ 32 → r ≡ saturated x
saturated-small r x same small = omega (arith, same, small)
