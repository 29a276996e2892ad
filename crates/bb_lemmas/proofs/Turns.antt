-- Loops over lists that are seen as other lists: one more element.
use Rattle.std.proofs.Common.{◌++◌, ◌+◌, ◌<◌, ◌∙◌, ◌∷◌, ◌≡◌, ◌≤◌, Contains, List, [], ap, append-nil, append_assoc, arith, get_or, length, map, refl, subst, suc, sym, take, zero, ℕ}
use Rattle.std.specs.List.{AllZip, enumerate_from, flat_map}
use Rattle.std.specs.Prelude.{All}
use Rattle.std.proofs.lemmas.Grind.{flat_map-append}
use Rattle.std.proofs.lemmas.List.{length-map, length-take, map-append, take_all, take_more}
use Rattle.std.proofs.lemmas.List.Elements.{All-contains, Contains-get_or}
use Rattle.std.proofs.lemmas.Option.{get_or_from_slice_get, slice_get_read}
use Rattle.bb_lemmas.proofs.Members.{all_from, contains-map, into_flat}
use Rattle.bb_lemmas.proofs.Places.{got-map, there_at}
use Rattle.bb_lemmas.proofs.Zips.{zip_append}

module _ {A : Type 0} (xs : List A) (k : ℕ) (x : A) (lt : k < length xs) (at : x ≡ get_or xs k x) where
  pub item_there : Contains xs x
  item_there = (k, lt, sym at)

  pub prefix_more : take (k + 1) xs ≡ take k xs ++ x ∷ []
  prefix_more = take_more xs k x lt ∙ ap (λ y. take k xs ++ y ∷ []) (sym at)

  pub zip_more : {B C : Type 0} (f : A → B) (R : B → C → Type 0) (before now : List C) (y : C) → AllZip R (map f (take k xs)) before → now ≡ before ++ y ∷ [] → R (f x) y → AllZip R (map f (take (k + 1) xs)) now
  zip_more f R before now y was is one =
      subst (λ l. AllZip R (map f l) now) (sym prefix_more)
      (subst (λ l. AllZip R l now) (sym (map-append f (take k xs) (x ∷ [])))
      (subst (AllZip R (map f (take k xs) ++ f x ∷ [])) (sym is) (zip_append R (map f (take k xs)) before (f x ∷ []) (y ∷ []) was (one, tt))))

-- the element itself
pub all_here : {A B : Type 0} (P : B → Type 0) (v : A → B) (xs : List A) (i : ℕ) (x : A) → i < length xs → x ≡ get_or xs i x → All P (map v xs) → P (v x)
all_here P v xs i x lt is all =
    subst P (get_or_from_slice_get (map v xs) i (v x) (v x) (got-map v xs i x (slice_get_read xs (length xs) i x refl lt is))) (all i (v x) (omega (arith, lt, length-map xs v)))

pub taken-more : {A B : Type 0} (v : A → B) (xs : List A) (i : ℕ) (x : A) → i < length xs → x ≡ get_or xs i x → map v (take (i + 1) xs) ≡ map v (take i xs) ++ v x ∷ []
taken-more v [] i x lt is = absurd (omega (arith, lt))
taken-more v (y ∷ ys) zero x lt is = ap (λ z. v z ∷ []) (sym is)
taken-more v (y ∷ ys) (suc i) x lt is = next i ∙ ap (λ l. v y ∷ l) (taken-more v ys i x (omega (arith, lt)) is)
  where
    next : (k : ℕ) → map v (take (suc k + 1) (y ∷ ys)) ≡ v y ∷ map v (take (k + 1) ys)
    next k = ap (λ n. map v (take n (y ∷ ys))) (later k)
      where
        later : (j : ℕ) → suc j + 1 ≡ suc (j + 1)
        later j = omega arith

pub flat-more : {A B C : Type 0} (f : B → List C) (v : A → B) (xs : List A) (i : ℕ) (x : A) → i < length xs → x ≡ get_or xs i x
    → flat_map f (map v (take (i + 1) xs)) ≡ flat_map f (map v (take i xs)) ++ f (v x)
flat-more f v xs i x lt is =
    ap (flat_map f) (taken-more v xs i x lt is) ∙ flat_map-append f (map v (take i xs)) (v x ∷ []) ∙ ap (λ l. flat_map f (map v (take i xs)) ++ l) (append-nil (f (v x)))

pub zip_both : {A B : Type 0} (R : A → B → Type 0) (xs : List A) (ys : List B) (us : List A) (vs : List B) → AllZip R xs ys → AllZip R us vs → AllZip R (xs ++ us) (ys ++ vs)
zip_both R [] [] us vs p q = q
zip_both R [] (y ∷ ys) us vs p q = absurd p
zip_both R (x ∷ xs) [] us vs p q = absurd p
zip_both R (x ∷ xs) (y ∷ ys) us vs p q = (p.0, zip_both R xs ys us vs p.1 q)

module _ {A B C D : Type 0} (R : C → D → Type 0) (v : A → B) (xs : List A) (i : ℕ) (x : A) (lt : i < length xs) (is : x ≡ get_or xs i x) where
  pub zip_turn : (g : B → D) (before : List D) (old now : List C) (p : C) → AllZip R old (before ++ map g (map v (take i xs))) → R p (g (v x)) → now ≡ old ++ p ∷ [] → AllZip R now (before ++ map g (map v (take (i + 1) xs)))
  zip_turn g before old now p earlier here more =
      subst (λ l. AllZip R l (before ++ map g (map v (take (i + 1) xs)))) (sym more)
      (subst (AllZip R (old ++ p ∷ [])) (append_assoc before (map g (map v (take i xs))) (g (v x) ∷ []) ∙ ap (λ l. before ++ l) (sym (ap (map g) (taken-more v xs i x lt is) ∙ map-append g (map v (take i xs)) (v x ∷ []))))
      (zip_both R old (before ++ map g (map v (take i xs))) (p ∷ []) (g (v x) ∷ []) earlier (here, tt)))

  pub zip_flat : (g : B → List D) (before : List D) (old now : List C) → AllZip R old (before ++ flat_map g (map v (take i xs))) → ((b : List D) → AllZip R old b → AllZip R now (b ++ g (v x)))
      → AllZip R now (before ++ flat_map g (map v (take (i + 1) xs)))
  zip_flat g before old now earlier adds =
      subst (AllZip R now) (append_assoc before (flat_map g (map v (take i xs))) (g (v x)) ∙ ap (λ l. before ++ l) (sym (flat-more g v xs i x lt is))) (adds (before ++ flat_map g (map v (take i xs))) earlier)

pub zip_begin : {C D : Type 0} (R : C → D → Type 0) (before : List D) (old : List C) → AllZip R old before → AllZip R old (before ++ [])
zip_begin R before old all = subst (AllZip R old) (sym (append-nil before)) all

pub zip_end : {A C D : Type 0} (R : C → D → Type 0) (g : List A → List D) (xs : List A) (i : ℕ) (before : List D) (now : List C) → length xs ≤ i → AllZip R now (before ++ g (take i xs)) → AllZip R now (before ++ g xs)
zip_end R g xs i before now past all = subst (λ l. AllZip R now (before ++ g l)) (take_all i xs past) all

pub zip_next : {A C D : Type 0} (R : C → D → Type 0) (v : A → D) (xs : List A) (i : ℕ) (x : A) → i < length xs → x ≡ get_or xs i x → (before : List D) (old now : List C) (p : C)
    → AllZip R old (before ++ map v (take i xs)) → R p (v x) → now ≡ old ++ p ∷ [] → AllZip R now (before ++ map v (take (i + 1) xs))
zip_next R v xs i x lt is before old now p earlier here more =
    subst (λ l. AllZip R l (before ++ map v (take (i + 1) xs))) (sym more)
    (subst (AllZip R (old ++ p ∷ [])) (append_assoc before (map v (take i xs)) (v x ∷ []) ∙ ap (λ l. before ++ l) (sym (taken-more v xs i x lt is)))
    (zip_both R old (before ++ map v (take i xs)) (p ∷ []) (v x ∷ []) earlier (here, tt)))

-- what holds of all holds of what one gives
pub all_flat : {A B : Type 0} (P : B → Type 0) (g : A → List B) (xs : List A) (x : A) → Contains xs x → All P (flat_map g xs) → All P (g x)
all_flat P g xs x has all = all_from P (g x) (λ y here. All-contains P (flat_map g xs) y all (into_flat g xs x y has here))

pub numbered-push : {A : Type 0} (s : ℕ) (xs : List A) (x : A) → enumerate_from s (xs ++ x ∷ []) ≡ enumerate_from s xs ++ (s + length xs, x) ∷ []
numbered-push s [] x = ap (λ k. (k, x) ∷ []) (omega arith)
numbered-push s (y ∷ ys) x = ap (λ l. (s, y) ∷ l) (numbered-push (s + 1) ys x ∙ ap (λ k. enumerate_from (s + 1) ys ++ (k, x) ∷ []) (omega arith))

pub numbered-more : {A B : Type 0} (v : A → B) (xs : List A) (i : ℕ) (x : A) → i < length xs → x ≡ get_or xs i x → enumerate_from 0 (map v (take (i + 1) xs)) ≡ enumerate_from 0 (map v (take i xs)) ++ (i, v x) ∷ []
numbered-more v xs i x lt is =
    ap (enumerate_from 0) (taken-more v xs i x lt is) ∙ numbered-push 0 (map v (take i xs)) (v x)
    ∙ ap (λ k. enumerate_from 0 (map v (take i xs)) ++ (k, v x) ∷ []) (omega (arith, length-map (take i xs) v, length-take i xs, lt))

pub zip_numbered : {A B C D : Type 0} (R : C → D → Type 0) (v : A → B) (xs : List A) (i : ℕ) (x : A) → i < length xs → x ≡ get_or xs i x → (g : ℕ × B → List D) (before : List D) (old now : List C)
    → AllZip R old (before ++ flat_map g (enumerate_from 0 (map v (take i xs)))) → ((b : List D) → AllZip R old b → AllZip R now (b ++ g (i, v x))) → AllZip R now (before ++ flat_map g (enumerate_from 0 (map v (take (i + 1) xs))))
zip_numbered R v xs i x lt is g before old now earlier adds =
    let seen = flat_map g (enumerate_from 0 (map v (take i xs))) in
    subst (AllZip R now) (append_assoc before seen (g (i, v x)) ∙ ap (λ l. before ++ l) (sym (ap (flat_map g) (numbered-more v xs i x lt is) ∙ flat_map-append g (enumerate_from 0 (map v (take i xs))) ((i, v x) ∷ []) ∙ ap (λ l. seen ++ l) (append-nil (g (i, v x))))))
    (adds (before ++ seen) earlier)

-- parts after others
pub zip_added : {C D : Type 0} (R : C → D → Type 0) (old more now : List C) (before zs : List D) → AllZip R old before → AllZip R more zs → now ≡ old ++ more → AllZip R now (before ++ zs)
zip_added R old more now before zs p q is = subst (λ l. AllZip R l (before ++ zs)) (sym is) (zip_both R old before more zs p q)

pub seen_there : {A B : Type 0} (v : A → B) (xs : List A) (i : ℕ) (x : A) → i < length xs → x ≡ get_or xs i x → Contains (map v xs) (v x)
seen_there v xs i x lt is = there_at (map v xs) i (v x) (got-map v xs i x (slice_get_read xs (length xs) i x refl lt is))

pub all_each : {A B : Type 0} (P : B → Type 0) (g : A → List B) (xs : List A) → All P (flat_map g xs) → All (λ x. All P (g x)) xs
all_each P g xs all i d lt = all_flat P g xs (get_or xs i d) (Contains-get_or xs i d lt) all

pub all_mapped : {A B : Type 0} (P : B → Type 0) (g : A → B) (xs : List A) → All P (map g xs) → All (λ x. P (g x)) xs
all_mapped P g xs all = all_from (λ x. P (g x)) xs (λ x has. All-contains P (map g xs) (g x) all (contains-map g xs x has))

pub written_back : {A : Type 0} (len : ℕ) (new rest : List A) → len ≡ length new → take len (new ++ rest) ≡ new
written_back zero [] [] is = refl
written_back zero [] (x ∷ rest) is = refl
written_back (suc len) [] rest is = absurd (omega (arith, is))
written_back zero (x ∷ new) rest is = absurd (omega (arith, is))
written_back (suc len) (x ∷ new) rest is = ap (λ l. x ∷ l) (written_back len new rest (omega (arith, is)))
