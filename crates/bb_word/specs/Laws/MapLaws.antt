-- Maps of gates go through circuits. The laws hold for gates of every kind, also for those of no type of the code: so
-- they are proved here, and the function of the crate has them as contract for formulas and bits.
use Rattle.std.proofs.Common.{◌≡◌, ◌∙◌, ◌+◌, ℕ, zero, List, [], ◌∷◌, ◌++◌, map, length, reverse, take, drop, replicate, refl, sym, ap}
use Rattle.std.specs.Prelude.{min}
use Rattle.std.proofs.Math.Path.{ap₂}
use Rattle.std.proofs.lemmas.List.{length-map, map-append, take-map, drop-map}
use Rattle.bb_lemmas.proofs.Maps.{replicate-map, reverse-map}
use Rattle.bb_ast.specs.declared.operators.WordOp.{WordOp}
use Rattle.bb_ast.specs.declared.operators.WordOp.TheVariants as ops
use Rattle.bb_ast.specs.declared.operators.FoldOp.{FoldOp}
use Rattle.bb_ast.specs.declared.operators.FoldOp.TheVariants as folds
use Rattle.bb_word.specs.Words.{word_circuit}
use Rattle.bb_word.specs.Folds.{fold_circuit}
use Rattle.bb_word.specs.Gates.{Gates, Made, IsMap, mapped}
use Rattle.bb_word.specs.Circuits.{complements, sum, difference, equal_bits, accumulated, joined_all, folded, inverted, equal, less, choices, up, down, shifted, truths}

pub made_same : {A : Type 0} (a b : Made A) → a.bits ≡ b.bits → a.cells ≡ b.cells → a ≡ b
made_same {A} a b p q = ap₂ {C = Made A} (λ x y. record { bits = x; cells = y }) p q

pub plain-up : {A B : Type 0} (f : A → B) (o : A) (n : ℕ) (xs : List A) → map f (up o n xs) ≡ up (f o) n (map f xs)
plain-up f o n xs = sym (take-map f (length xs) (replicate n o ++ xs)) ∙ ap₂ take (sym (length-map xs f)) (map-append f (replicate n o) xs ∙ ap (λ l. l ++ map f xs) (replicate-map f n o))

pub plain-down : {A B : Type 0} (f : A → B) (o : A) (n : ℕ) (xs : List A) → map f (down o n xs) ≡ down (f o) n (map f xs)
plain-down f o n xs = map-append f (drop n xs) (replicate (min n (length xs)) o) ∙ ap₂ (λ a b. a ++ b) (sym (drop-map f n xs)) (replicate-map f (min n (length xs)) o ∙ ap (λ k. replicate (min n k) (f o)) (sym (length-map xs f)))

module _ {A B : Type 0} (g : Gates A) (h : Gates B) (f : A → B) (m : IsMap g h f) where
  pub map-complements : (xs : List A) → map f (complements g xs) ≡ complements h (map f xs)
  map-complements [] = refl
  map-complements (x ∷ xs) = ap₂ (λ a l. a ∷ l) (m.inverse x) (map-complements xs)

  pub map-sum : (c : A) (xs ys : List A) → mapped f (sum g c xs ys) ≡ sum h (f c) (map f xs) (map f ys)
  map-sum c [] ys = refl
  map-sum c (x ∷ xs) [] = refl
  map-sum c (x ∷ xs) (y ∷ ys) =
      let p = g.differ x y in
      let a = m.differ x y in
      let b = m.differ p c in
      let d = m.both x y in
      let e = m.both p c in
      let k = m.either (g.both x y) (g.both p c) in
      let rest = map-sum (g.either (g.both x y) (g.both p c)) xs ys in
      let rb = ap (λ z. z.bits) rest in
      let rc = ap (λ z. z.cells) rest in
      made_same _ _ (simp (rb, k, d, e, b, a)) (simp (rc, k, d, e, b, a))

  pub map-difference : (xs ys : List A) → mapped f (difference g xs ys) ≡ difference h (map f xs) (map f ys)
  map-difference xs ys =
      let n = map-complements ys in
      let rest = map-sum g.one xs (complements g ys) in
      let rb = ap (λ z. z.bits) rest in
      let rc = ap (λ z. z.cells) rest in
      let o = m.one in
      made_same _ _ (simp (rb, n, o)) (map-append f (complements g ys) (sum g g.one xs (complements g ys)).cells ∙ simp (rc, n, o))

  pub map-accumulated : (op : A → A → A) (po : B → B → B) → ((a b : A) → f (op a b) ≡ po (f a) (f b)) → (so_far : A) (xs : List A) → mapped f (accumulated op so_far xs) ≡ accumulated po (f so_far) (map f xs)
  map-accumulated op po each so_far [] = refl
  map-accumulated op po each so_far (x ∷ xs) =
      let e = each so_far x in
      let rest = map-accumulated op po each (op so_far x) xs in
      let rb = ap (λ z. z.bits) rest in
      let rc = ap (λ z. z.cells) rest in
      made_same _ _ (simp (rb, e)) (simp (rc, e))

  pub map-joined_all : (op : A → A → A) (po : B → B → B) → ((a b : A) → f (op a b) ≡ po (f a) (f b)) → (o : A) (xs : List A) → mapped f (joined_all op o xs) ≡ joined_all po (f o) (map f xs)
  map-joined_all op po each o [] = refl
  map-joined_all op po each o (x ∷ xs) = map-accumulated op po each x xs

  pub map-folded : (op : A → A → A) (po : B → B → B) → ((a b : A) → f (op a b) ≡ po (f a) (f b)) → (o : A) (p : B) → f o ≡ p → (xs : List A) → mapped f (folded op o xs) ≡ folded po p (map f xs)
  map-folded op po each o p none xs = map-joined_all op po each o (reverse xs) ∙ ap₂ (joined_all po) none (reverse-map f xs)

  pub map-inverted : (a : Made A) (b : Made B) → mapped f a ≡ b → mapped f (inverted g a) ≡ inverted h b
  map-inverted a b same =
      let sb = ap (λ z. z.bits) same in
      let sc = ap (λ z. z.cells) same in
      let n = map-complements a.bits in
      made_same _ _ (simp (n, sb)) (map-append f a.cells (complements g a.bits) ∙ simp (n, sb, sc))

  pub map-equal_bits : (xs ys : List A) → mapped f (equal_bits g xs ys) ≡ equal_bits h (map f xs) (map f ys)
  map-equal_bits [] ys = refl
  map-equal_bits (x ∷ xs) [] = refl
  map-equal_bits (x ∷ xs) (y ∷ ys) =
      let d = m.differ x y in
      let i = m.inverse (g.differ x y) in
      let rest = map-equal_bits xs ys in
      let rb = ap (λ z. z.bits) rest in
      let rc = ap (λ z. z.cells) rest in
      made_same _ _ (simp (rb, i, d)) (simp (rc, i, d))

  pub map-equal : (xs ys : List A) → mapped f (equal g xs ys) ≡ equal h (map f xs) (map f ys)
  map-equal xs ys =
      let first = map-equal_bits xs ys in
      let fb = ap (λ z. z.bits) first in
      let fc = ap (λ z. z.cells) first in
      let rest = map-folded g.both h.both m.both g.one h.one m.one (equal_bits g xs ys).bits in
      let rb = ap (λ z. z.bits) rest ∙ ap (λ z. (folded h.both h.one z).bits) fb in
      let rc = ap (λ z. z.cells) rest ∙ ap (λ z. (folded h.both h.one z).cells) fb in
      made_same _ _ rb (map-append f (equal_bits g xs ys).cells (folded g.both g.one (equal_bits g xs ys).bits).cells ∙ ap₂ (λ a b. a ++ b) fc rc)

  pub map-less : (so_far : A) (xs ys : List A) → mapped f (less g so_far xs ys) ≡ less h (f so_far) (map f xs) (map f ys)
  map-less so_far [] ys = refl
  map-less so_far (x ∷ xs) [] = refl
  map-less so_far (x ∷ xs) (y ∷ ys) =
      let d = m.differ x y in
      let c = m.choice (g.differ x y) y so_far in
      let rest = map-less (g.choice (g.differ x y) y so_far) xs ys in
      let rb = ap (λ z. z.bits) rest in
      let rc = ap (λ z. z.cells) rest in
      made_same _ _ (simp (rb, c, d)) (simp (rc, c, d))

  pub map-choices : (c : A) (ts es : List A) → map f (choices g c ts es) ≡ choices h (f c) (map f ts) (map f es)
  map-choices c [] es = refl
  map-choices c (t ∷ ts) [] = refl
  map-choices c (t ∷ ts) (e ∷ es) = ap₂ (λ a l. a ∷ l) (m.choice c t e) (map-choices c ts es)

  pub map-shifted : (move : ℕ → List A → List A) (evom : ℕ → List B → List B) → ((n : ℕ) (xs : List A) → map f (move n xs) ≡ evom n (map f xs)) → (n : ℕ) (amount xs : List A) → mapped f (shifted g move n amount xs) ≡ shifted h evom n (map f amount) (map f xs)
  map-shifted move evom each n [] xs = refl
  map-shifted move evom each n (s ∷ amount) xs =
      let stage = map-choices s (move n xs) xs ∙ ap (λ l. choices h (f s) l (map f xs)) (each n xs) in
      let rest = map-shifted move evom each (n + n) amount (choices g s (move n xs) xs) in
      let rb = ap (λ z. z.bits) rest ∙ ap (λ z. (shifted h evom (n + n) (map f amount) z).bits) stage in
      let rc = ap (λ z. z.cells) rest ∙ ap (λ z. (shifted h evom (n + n) (map f amount) z).cells) stage in
      made_same _ _ rb (map-append f (choices g s (move n xs) xs) (shifted g move (n + n) amount (choices g s (move n xs) xs)).cells ∙ ap₂ (λ a b. a ++ b) stage rc)

  pub map-truths : (op : A → A → A) (po : B → B → B) → ((a b : A) → f (op a b) ≡ po (f a) (f b)) → (xs ys : List A) → mapped f (truths g op xs ys) ≡ truths h po (map f xs) (map f ys)
  map-truths op po each xs ys =
      let l = folded g.either g.zero xs in
      let r = folded g.either g.zero ys in
      let left = map-folded g.either h.either m.either g.zero h.zero m.zero xs in
      let right = map-folded g.either h.either m.either g.zero h.zero m.zero ys in
      let bits = map-append f l.bits r.bits ∙ ap₂ (λ a b. a ++ b) (ap (λ z. z.bits) left) (ap (λ z. z.bits) right) in
      let cells = map-append f l.cells r.cells ∙ ap₂ (λ a b. a ++ b) (ap (λ z. z.cells) left) (ap (λ z. z.cells) right) in
      let last = map-joined_all op po each g.zero (l.bits ++ r.bits) ∙ ap₂ (joined_all po) m.zero bits in
      made_same _ _ (ap (λ z. z.bits) last) (map-append f (l.cells ++ r.cells) (joined_all op g.zero (l.bits ++ r.bits)).cells ∙ ap₂ (λ a b. a ++ b) cells (ap (λ z. z.cells) last))

  pub fold_map : (op : FoldOp) (xs : List A) → mapped f (fold_circuit g op xs) ≡ fold_circuit h op (map f xs)
  fold_map folds.None xs = map-inverted (folded g.either g.zero xs) _ (map-folded g.either h.either m.either g.zero h.zero m.zero xs)
  fold_map folds.All xs = map-folded g.both h.both m.both g.one h.one m.one xs
  fold_map folds.NotAll xs = map-inverted (folded g.both g.one xs) _ (map-folded g.both h.both m.both g.one h.one m.one xs)
  fold_map folds.Any xs = map-folded g.either h.either m.either g.zero h.zero m.zero xs
  fold_map folds.NotAny xs = map-inverted (folded g.either g.zero xs) _ (map-folded g.either h.either m.either g.zero h.zero m.zero xs)
  fold_map folds.Odd xs = map-folded g.differ h.differ m.differ g.zero h.zero m.zero xs
  fold_map folds.NotOdd xs = map-inverted (folded g.differ g.zero xs) _ (map-folded g.differ h.differ m.differ g.zero h.zero m.zero xs)

  from_zero : (xs ys : List A) → mapped f (less g g.zero xs ys) ≡ less h h.zero (map f xs) (map f ys)
  from_zero xs ys = map-less g.zero xs ys ∙ ap (λ o. less h o (map f xs) (map f ys)) m.zero

  pub word_map : (op : WordOp) (xs ys : List A) → mapped f (word_circuit g op xs ys) ≡ word_circuit h op (map f xs) (map f ys)
  word_map ops.Plus xs ys = map-sum g.zero xs ys ∙ ap (λ o. sum h o (map f xs) (map f ys)) m.zero
  word_map ops.Minus xs ys = map-difference xs ys
  word_map ops.Equal xs ys = map-equal xs ys
  word_map ops.NotEqual xs ys = map-inverted (equal g xs ys) _ (map-equal xs ys)
  word_map ops.Less xs ys = from_zero xs ys
  word_map ops.LessEqual xs ys = map-inverted (less g g.zero ys xs) _ (from_zero ys xs)
  word_map ops.Greater xs ys = from_zero ys xs
  word_map ops.GreaterEqual xs ys = map-inverted (less g g.zero xs ys) _ (from_zero xs ys)
  word_map ops.Left xs ys = map-shifted (up g.zero) (up h.zero) (λ n zs. plain-up f g.zero n zs ∙ ap (λ o. up o n (map f zs)) m.zero) 1 ys xs
  word_map ops.Right xs ys = map-shifted (down g.zero) (down h.zero) (λ n zs. plain-down f g.zero n zs ∙ ap (λ o. down o n (map f zs)) m.zero) 1 ys xs
  word_map ops.Both xs ys = map-truths g.both h.both m.both xs ys
  word_map ops.Either xs ys = map-truths g.either h.either m.either xs ys
