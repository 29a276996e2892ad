-- What is shown of the first boxes of a list, and of one more.
use Rattle.std.proofs.Common.{◌≡◌, ◌≢◌, ℕ, ◌+◌, ◌<◌, ◌≤◌, zero, suc, List, [], ◌∷◌, ◌++◌, length, take, map, get_or, zip, sym, ap, subst, ◌∙◌, inl, inr, arith}
use Rattle.std.specs.Prelude.{All, Contains, sum_by}
use Rattle.std.specs.List.{range_with_len}
use Rattle.std.proofs.lemmas.Bool.{cases_order}
use Rattle.std.proofs.lemmas.Grind.{get_or_default_zero}
use Rattle.std.proofs.lemmas.List.{ext_get_or, get_or-map, get_or-take, length-map, length-take, take_more}
use Rattle.std.proofs.lemmas.List.FromFn.{get_or-range_with_len, length-range_with_len}
use Rattle.std.proofs.lemmas.List.Sums.{sum_by-append}
use Rattle.bb_bits.specs.Earlier.{each_from}
use Rattle.bb_net.specs.Kinds.{AreNumberedInOrder, first_places, representatives}
use Rattle.bb_net.proofs.KindLists.{gives}
use Rattle.bb_net.proofs.KindNumbers.{prefix_in_order, kind_has_first, nothing_added, shown_counts, shown_occurs}
use Rattle.bb_net.proofs.ShownLists.{shown_again, shown_new}

-- a box is of a kind that precedes it, or of the next one, and is shown then
pub record ShownNext {A : Type 0} (kinds : List ℕ) (xs : List A) (b : ℕ) (d : A) : Type 0 where
  pub new : get_or kinds b 0 ≡ length (representatives (take b kinds) (take b xs)) → representatives (take (b + 1) kinds) (take (b + 1) xs) ≡ representatives (take b kinds) (take b xs) ++ get_or xs b d ∷ []
  pub again : get_or kinds b 0 ≢ length (representatives (take b kinds) (take b xs)) → representatives (take (b + 1) kinds) (take (b + 1) xs) ≡ representatives (take b kinds) (take b xs)

pub shown_next : {A : Type 0} (kinds : List ℕ) (xs : List A) (b : ℕ) (d : A) → AreNumberedInOrder kinds → length xs ≡ length kinds → b < length kinds → ShownNext kinds xs b d
shown_next kinds xs b d ordered len h =
    let k = get_or kinds b 0 in
    let prefix = take b kinds in
    let shows = representatives prefix (take b xs) in
    let same : length (take b xs) ≡ length prefix = omega (arith, length-take b kinds, length-take b xs, len) in
    let count = shown_counts prefix (take b xs) (prefix_in_order kinds b (omega (arith, h)) ordered) same in
    let kinds_more : take (b + 1) kinds ≡ prefix ++ k ∷ [] = take_more kinds b 0 h in
    let xs_more : take (b + 1) xs ≡ take b xs ++ get_or xs b d ∷ [] = take_more xs b d (omega (arith, h, len)) in
    let both : representatives (take (b + 1) kinds) (take (b + 1) xs) ≡ representatives (prefix ++ k ∷ []) (take b xs ++ get_or xs b d ∷ []) = ap (λ ks. representatives ks (take (b + 1) xs)) kinds_more ∙ ap (representatives (prefix ++ k ∷ [])) xs_more in
    record {
      new = λ e. both ∙ shown_new prefix (take b xs) k (get_or xs b d) same (λ has. let p = (count k).1 has in omega (arith, p, e));
      again = λ other. both ∙ shown_again prefix (take b xs) k (get_or xs b d) same (elim (cases_order k (length shows)) [
        | inl e ↦ absurd (other e)
        | inr apart ↦ elim apart [
          | inl low ↦ (count k).0 low
          | inr high ↦ let p = (count (length shows)).1 (ordered b (length shows) h high) in absurd (omega (arith, p))
        ]
      ]);
    }

-- the first numbers
numbers_taken : (n b : ℕ) → b ≤ n → take b (range_with_len 0 n) ≡ range_with_len 0 b
numbers_taken n b h =
    let count : length (take b (range_with_len 0 n)) ≡ b = omega (arith, length-take b (range_with_len 0 n), length-range_with_len 0 n, h) in
    ext_get_or 0 (take b (range_with_len 0 n)) (range_with_len 0 b) (count ∙ sym (length-range_with_len 0 b)) (λ k low.
    let below : k < b = omega (arith, low, count) in
    get_or-take b (range_with_len 0 n) k 0 below ∙ get_or-range_with_len 0 n k 0 (omega (arith, below, h)) ∙ sym (get_or-range_with_len 0 b k 0 below))

-- the first places of a list of kinds
pub firsts_taken : (kinds : List ℕ) (b : ℕ) → b ≤ length kinds → representatives (take b kinds) (take b (range_with_len 0 (length kinds))) ≡ first_places (take b kinds)
firsts_taken kinds b h =
    let count : length (take b kinds) ≡ b = omega (arith, length-take b kinds, h) in
    ap (representatives (take b kinds)) (numbers_taken (length kinds) b h ∙ ap (range_with_len 0) (sym count))

-- at the number of a kind is the place of its first box, and what belongs to that
record HasFirst {A : Type 0} (kinds : List ℕ) (xs : List A) (d : A) (k : ℕ) : Type 0 where
  pub first : ℕ
  pub there : first < length kinds
  pub place : get_or (first_places kinds) k 0 ≡ first
  pub shows : get_or (representatives kinds xs) k d ≡ get_or xs first d

has_first : {A : Type 0} (kinds : List ℕ) (xs : List A) (d : A) → AreNumberedInOrder kinds → length xs ≡ length kinds → (k : ℕ) → Contains kinds k → HasFirst kinds xs d k
has_first kinds xs d ordered len k has =
    let r = kind_has_first kinds k ordered has in
    let places = range_with_len 0 (length kinds) in
    record {
      first = r.0;
      there = r.1;
      place = ap (λ q. get_or (first_places kinds) q 0) (sym r.3) ∙ shown_occurs kinds places 0 ordered (length-range_with_len 0 (length kinds)) r.0 r.1 r.2
          ∙ get_or-range_with_len 0 (length kinds) r.0 0 r.1 ∙ nothing_added r.0;
      shows = ap (λ q. get_or (representatives kinds xs) q d) (sym r.3) ∙ shown_occurs kinds xs d ordered len r.0 r.1 r.2;
    }

same_count : {A B : Type 0} (kinds : List ℕ) (xs : List A) (ys : List B) → AreNumberedInOrder kinds → length xs ≡ length kinds → length ys ≡ length kinds → length (representatives kinds xs) ≡ length (representatives kinds ys)
same_count kinds xs ys ordered one two =
    let p = shown_counts kinds xs ordered one in
    let q = shown_counts kinds ys ordered two in
    elim (cases_order (length (representatives kinds xs)) (length (representatives kinds ys))) [
      | inl e ↦ e
      | inr other ↦ elim other [
        | inl low ↦ let r = (p (length (representatives kinds xs))).1 ((q (length (representatives kinds xs))).0 low) in absurd (omega (arith, r))
        | inr high ↦ let r = (q (length (representatives kinds ys))).1 ((p (length (representatives kinds ys))).0 high) in absurd (omega (arith, r))
      ]
    ]

-- what is shown belongs to the boxes at the first places
pub shown_firsts : {A : Type 0} (kinds : List ℕ) (xs : List A) (d : A) → AreNumberedInOrder kinds → length xs ≡ length kinds → representatives kinds xs ≡ map (λ b. get_or xs b d) (first_places kinds)
shown_firsts kinds xs d ordered len =
    let places = range_with_len 0 (length kinds) in
    let count : length (representatives kinds xs) ≡ length (first_places kinds) = same_count kinds xs places ordered len (length-range_with_len 0 (length kinds)) in
    ext_get_or d (representatives kinds xs) (map (λ b. get_or xs b d) (first_places kinds)) (count ∙ sym (length-map (first_places kinds) _)) (λ k h.
    let r = has_first kinds xs d ordered len k ((shown_counts kinds xs ordered len k).0 h) in
    r.shows ∙ ap (λ b. get_or xs b d) (sym r.place) ∙ sym (get_or-map (λ b. get_or xs b d) (first_places kinds) k 0 d (omega (arith, h, count))))

-- and these are places of the list
pub firsts_there : (kinds : List ℕ) → AreNumberedInOrder kinds → All (λ b. b < length kinds) (first_places kinds)
firsts_there kinds ordered = λ k d h.
    let places = range_with_len 0 (length kinds) in
    let len = length-range_with_len 0 (length kinds) in
    let r = has_first kinds places 0 ordered len k ((shown_counts kinds places ordered len k).0 h) in
    subst (λ b. b < length kinds) (sym r.place ∙ sym (get_or_default_zero (first_places kinds) k d h)) r.there

-- what is shown of the first boxes sums up to no more than what is shown of all
prefix_sum_from : {A : Type 0} (f : A → ℕ) (before : List (ℕ × A)) (ks : List ℕ) (xs : List A) (b : ℕ) → sum_by f (each_from gives before (zip (take b ks) (take b xs))) ≤ sum_by f (each_from gives before (zip ks xs))
prefix_sum_from f before ks xs zero = omega arith
prefix_sum_from f before [] xs (suc b) = omega arith
prefix_sum_from f before (k ∷ ks) [] (suc b) = omega arith
prefix_sum_from f before (k ∷ ks) (x ∷ xs) (suc b) =
    let here = gives before (k, x) in
    omega (arith, prefix_sum_from f (before ++ (k, x) ∷ []) ks xs b, sum_by-append f here (each_from gives (before ++ (k, x) ∷ []) (zip (take b ks) (take b xs))), sum_by-append f here (each_from gives (before ++ (k, x) ∷ []) (zip ks xs)))

pub prefix_sum : {A : Type 0} (f : A → ℕ) (ks : List ℕ) (xs : List A) (b : ℕ) → sum_by f (representatives (take b ks) (take b xs)) ≤ sum_by f (representatives ks xs)
prefix_sum f ks xs b = prefix_sum_from f [] ks xs b
