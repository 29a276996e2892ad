-- What is at the places of texts in a list, and how many texts two lists have of which each has those of the other.
use Rattle.std.proofs.Common.{◌≡◌, ◌≢◌, ℕ, zero, suc, ◌+◌, ◌<◌, ◌≤◌, List, [], ◌∷◌, ◌++◌, map, length, get_or, All, AllPairs, Contains, Some, refl, sym, ap, ap₂, ◌∙◌, arith}
use Rattle.std.specs.Prelude.{slice_get, remove}
use Rattle.std.proofs.lemmas.List.{get_or_default, length-map, map-append}
use Rattle.std.proofs.lemmas.List.Edits.{length-remove}
use Rattle.std.proofs.lemmas.List.Elements.{All-head, All-tail}
use Rattle.std.proofs.lemmas.Grind.{in_remove}
use Rattle.std.proofs.lemmas.Option.{slice_get_within}
use Rattle.bb_match.specs.Inside.Places.{ArePlaces, text_place}
use Rattle.bb_match.specs.Refusals.{AreAmong}
use Rattle.bb_match.specs.Pairing.{Picks}
use Rattle.bb_match.proofs.PlaceLemmas.{place_right}

-- where each text is in a list that has what another list has, from a place on
pub placed : {A : Type 0} (f : List ℕ → A) (xs : List A) (base : ℕ) (others : List (List ℕ)) (entries : List (List ℕ × ℕ)) (texts : List (List ℕ)) → ArePlaces others entries
    → ((k : ℕ) (n : List ℕ) → slice_get others k ≡ Some n → slice_get xs (base + k) ≡ Some (f n)) → AreAmong texts others → Picks xs (map (λ n. base + text_place entries n) texts) (map f texts)
placed f xs base others entries [] places moves among = refl
placed f xs base others entries (n ∷ ns) places moves among =
    ap₂ (λ x l. x ∷ l) (moves (text_place entries n) n (place_right others entries n places (All-head (Contains others) n ns among))) (placed f xs base others entries ns places moves (All-tail (Contains others) n ns among))

pub at_prefix : {A : Type 0} (f : List ℕ → A) (others : List (List ℕ)) (more : List A) (k : ℕ) (n : List ℕ) → slice_get others k ≡ Some n → slice_get (map f others ++ more) (0 + k) ≡ Some (f n)
at_prefix f others more k n e = let on : 0 + k ≡ k = omega arith in ap (slice_get (map f others ++ more)) on ∙ walk others k e
  where
    walk : (xs : List (List ℕ)) (k : ℕ) → slice_get xs k ≡ Some n → slice_get (map f xs ++ more) k ≡ Some (f n)
    walk [] zero e = cc e
    walk [] (suc k) e = cc e
    walk (x ∷ xs) zero e = ap Some (ap f (some_one x n e))
      where
        some_one : (a b : List ℕ) → Some a ≡ Some b → a ≡ b
        some_one a b h = cc h
    walk (x ∷ xs) (suc k) e = walk xs k e

pub at_back : {A : Type 0} (f : List ℕ → A) (prefix : List A) (others : List (List ℕ)) (k : ℕ) (n : List ℕ) → slice_get others k ≡ Some n → slice_get (prefix ++ map f others) (length prefix + k) ≡ Some (f n)
at_back f [] others k n e = let on : 0 + k ≡ k = omega arith in ap (slice_get (map f others)) on ∙ within others k e
  where
    within : (xs : List (List ℕ)) (k : ℕ) → slice_get xs k ≡ Some n → slice_get (map f xs) k ≡ Some (f n)
    within [] zero e = cc e
    within [] (suc k) e = cc e
    within (x ∷ xs) zero e = ap Some (ap f (some_one x n e))
      where
        some_one : (a b : List ℕ) → Some a ≡ Some b → a ≡ b
        some_one a b h = cc h
    within (x ∷ xs) (suc k) e = within xs k e
at_back f (x ∷ xs) others k n e = let on : length (x ∷ xs) + k ≡ suc (length xs + k) = omega arith in ap (slice_get (x ∷ xs ++ map f others)) on ∙ at_back f xs others k n e

pub picks_both : {A : Type 0} (xs : List A) (ps qs : List ℕ) (us bs : List A) → Picks xs ps us → Picks xs qs bs → Picks xs (ps ++ qs) (us ++ bs)
picks_both xs ps qs us bs p q = map-append (slice_get xs) ps qs ∙ ap₂ (λ l m. l ++ m) p q ∙ sym (map-append Some us bs)

pub picks_length : {A : Type 0} (xs : List A) (ps : List ℕ) (us : List A) → Picks xs ps us → length ps ≡ length us
picks_length xs ps us p = sym (length-map ps (slice_get xs)) ∙ ap length p ∙ length-map us Some

pub picks_within : {A : Type 0} (xs : List A) (ps : List ℕ) (us : List A) → Picks xs ps us → All (λ k. k < length xs) ps
picks_within xs [] us p = λ k d lt. absurd (omega (arith, lt))
picks_within xs (k ∷ ks) [] p = cc p
picks_within xs (k ∷ ks) (a ∷ us) p = here (picks_within xs ks us (tail p))
  where
    head : slice_get xs k ∷ map (slice_get xs) ks ≡ Some a ∷ map Some us → slice_get xs k ≡ Some a
    head e = cc e

    tail : slice_get xs k ∷ map (slice_get xs) ks ≡ Some a ∷ map Some us → map (slice_get xs) ks ≡ map Some us
    tail e = cc e

    here : All (λ k. k < length xs) ks → All (λ k. k < length xs) (k ∷ ks)
    here rest zero d lt = slice_get_within xs k a (head p)
    here rest (suc j) d lt = rest j d (omega (arith, lt))

-- counting texts

pub length-le_from_among : (ts us : List (List ℕ)) → AllPairs ◌≢◌ ts → AreAmong ts us → length ts ≤ length us
length-le_from_among [] us d h = omega arith
length-le_from_among (t ∷ ts) us d h =
    let here = All-head (Contains us) t ts h in
    let rest : length ts ≤ length (remove us here.0) =
    length-le_from_among ts (remove us here.0) (λ i j e lt le. d (suc i) (suc j) e (omega arith) (omega arith)) (λ k s lt.
    let x = get_or ts k s in
    let there = All-tail (Contains us) t ts h k s lt in
    let other : there.0 ≢ here.0 = λ same. d 0 (suc k) t (omega arith) (omega (arith, lt))
    (sym here.2 ∙ (get_or_default us here.0 t x here.1 ∙ (ap (λ k. get_or us k x) (sym same) ∙ (there.2 ∙ get_or_default ts k s t lt)))) in
    (in_remove us here.0 there.0 x here.1 there.1 (sym there.2) other).1) in
    omega (arith, length-remove us here.0 here.1)

pub one_length : (ts us : List (List ℕ)) → AllPairs ◌≢◌ ts → AllPairs ◌≢◌ us → AreAmong ts us → AreAmong us ts → length ts ≡ length us
one_length ts us d e h k = omega (arith, length-le_from_among ts us d h, length-le_from_among us ts e k)
