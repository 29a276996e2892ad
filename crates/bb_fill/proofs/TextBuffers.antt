-- What is put on a buffer one after another is put on it together.
use Rattle.std.proofs.Common.{◌≡◌, ◌∙◌, ℕ, get_or, take, ◌+◌, ◌-◌, ◌^◌, ◌<◌, ◌≤◌, ◌⊎◌, inl, inr, List, [], ◌∷◌, ◌++◌, append_assoc, append-nil, length, refl, subst, sym, ap, arith, length-append}
use Rattle.std.specs.List.{flat_map, range_with_len}
use Rattle.std.proofs.lemmas.List.{flat_map_more, take_more}
use Rattle.bb_lemmas.proofs.Ranges.{range_last, range_last_from_zero}
use Rattle.bb_lemmas.proofs.Orders.{less_or_not}
use Rattle.bb_fill.specs.Inside.TextBuffers.{Writing, Adds}

pub adds_nothing : {a : Writing} → Adds a a []
adds_nothing {a} = record {
  room = refl;
  counted = λ h. omega arith;
  full = λ h. omega (arith, h);
  kept = λ small fits. sym (append-nil a.text);
}

pub both : {a b c : Writing} {xs ys : List ℕ} → Adds a b xs → Adds b c ys → Adds a c (xs ++ ys)
both {a} {b} {c} {xs} {ys} one two =
    let long = length-append xs ys in
    record {
      room = two.room ∙ one.room;
      counted = λ h. omega (arith, long, h, one.counted (omega (arith, long, h)), two.counted (omega (arith, long, h, one.counted (omega (arith, long, h)))));
      full = by (less_or_not (a.count + length xs) (2 ^ 64)) (less_or_not (b.count + length ys) (2 ^ 64));
      kept = λ small fits.
          let first = one.kept small (omega (arith, long, fits)) in
          let count = one.counted (omega (arith, long, fits, small)) in
          two.kept (omega (arith, small, one.room)) (omega (arith, long, fits, count, one.room)) ∙ ap (λ t. t ++ ys) first ∙ append_assoc a.text xs ys;
    }
  where
    by : (a.count + length xs < 2 ^ 64) ⊎ (2 ^ 64 ≤ a.count + length xs) → (b.count + length ys < 2 ^ 64) ⊎ (2 ^ 64 ≤ b.count + length ys) → 2 ^ 64 ≤ a.count + length (xs ++ ys) → 2 ^ 64 - 1 ≤ c.count
    by p (inr h) whole = two.full h
    by (inl g) (inl h) whole = absurd (omega (arith, g, h, whole, one.counted g, length-append xs ys))
    by (inr g) (inl h) whole = omega (arith, one.full g, two.counted h)

pub same : {a b : Writing} {xs ys : List ℕ} → xs ≡ ys → Adds a b xs → Adds a b ys
same {a} {b} is adds = subst (Adds a b) is adds

-- what stands for each element of a list, one after another

pub one_more : {X : Type 0} {a b c : Writing} (f : X → List ℕ) (xs : List X) (i : ℕ) (x : X) → i < length xs → x ≡ get_or xs i x → Adds a b (flat_map f (take i xs)) → Adds b c (f x)
    → Adds a c (flat_map f (take (i + 1) xs))
one_more f xs i x within at before next =
    same (flat_map_more f [] (take i xs) x ∙ ap (flat_map f) (sym (take_more xs i x within ∙ ap (λ y. take i xs ++ y ∷ []) (sym at)))) (both before next)

pub all_of : {X : Type 0} {a b : Writing} (f : X → List ℕ) (xs : List X) (i : ℕ) → take i xs ≡ xs → Adds a b (flat_map f (take i xs)) → Adds a b (flat_map f xs)
all_of f xs i all adds = same (ap (flat_map f) all) adds

-- what stands for each number of a range

pub one_number_more : {a b c : Writing} (f : ℕ → List ℕ) (k : ℕ) → Adds a b (flat_map f (range_with_len 0 k)) → Adds b c (f k) → Adds a c (flat_map f (range_with_len 0 (k + 1)))
one_number_more f k before next = same (flat_map_more f [] (range_with_len 0 k) k ∙ ap (flat_map f) (sym (range_last_from_zero k))) (both before next)
