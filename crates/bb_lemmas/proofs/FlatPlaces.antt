-- What is where in the lists that elements give, one after another.
use Rattle.std.proofs.Common.{◌≡◌, ◌∙◌, ◌+◌, ◌≤◌, ◌++◌, ◌∷◌, ℕ, suc, List, [], length, take, drop, flat_map, Some, sym, ap, subst, arith, append-nil, length-append}
use Rattle.std.specs.Prelude.{slice_get}
use Rattle.std.proofs.lemmas.Grind.{flat_map-append}
use Rattle.bb_bits.specs.Inside.Places.{AreAt, numbers_from}
use Rattle.bb_lemmas.proofs.AtPlaces.{at_inside}
use Rattle.bb_lemmas.proofs.Places.{split, take_at}

module _ {A B : Type 0} (f : A → List B) (xs : List A) (n : ℕ) (x : A) (at : slice_get xs n ≡ Some x) where
  -- what one gives follows what those before it give
  pub flat_around : flat_map f xs ≡ flat_map f (take n xs) ++ (f x ++ flat_map f (drop (suc n) xs))
  flat_around = ap (flat_map f) (split xs n x at) ∙ flat_map-append f (take n xs) (x ∷ drop (suc n) xs)

  pub flat_longer : length (flat_map f (take (n + 1) xs)) ≡ length (flat_map f (take n xs)) + length (f x)
  flat_longer =
      ap (λ l. length (flat_map f l)) (take_at xs n x at) ∙ ap length (flat_map-append f (take n xs) (x ∷ [])) ∙ length-append (flat_map f (take n xs)) (flat_map f (x ∷ []))
      ∙ ap (λ l. length (flat_map f (take n xs)) + length l) (append-nil (f x))

  pub flat_fits : length (flat_map f (take n xs)) + length (f x) ≤ length (flat_map f xs)
  flat_fits = omega (arith, ap length flat_around, length-append (flat_map f (take n xs)) (f x ++ flat_map f (drop (suc n) xs)), length-append (f x) (flat_map f (drop (suc n) xs)))

  -- places in what one gives are places in what all give
  pub at_flat : (first : ℕ) → first ≡ length (flat_map f (take n xs)) → (ks : List ℕ) (ys : List B) → AreAt (f x) ks ys → AreAt (flat_map f xs) (numbers_from first ks) ys
  at_flat first is ks ys here =
      subst (λ l. AreAt l (numbers_from first ks) ys) (sym flat_around)
      (subst (λ k. AreAt (flat_map f (take n xs) ++ (f x ++ flat_map f (drop (suc n) xs))) (numbers_from k ks) ys) (sym is)
      (at_inside (flat_map f (take n xs)) (f x) (flat_map f (drop (suc n) xs)) ks ys here))
