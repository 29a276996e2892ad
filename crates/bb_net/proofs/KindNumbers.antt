-- A list of keys has one list of kinds; kinds that all differ; what is shown of each kind.
use Rattle.std.proofs.Common.{◌≡◌, ◌≢◌, ℕ, ◌+◌, ◌<◌, ◌≤◌, ◌⊎◌, ◌↔◌, zero, suc, List, [], ◌∷◌, ◌++◌, length, take, drop, get_or, refl, sym, ap, ap₂, subst, ◌∙◌, inl, inr, arith, length-append}
use Rattle.std.specs.Prelude.{AllPairs, Contains}
use Rattle.std.specs.List.{range_with_len}
use Rattle.std.proofs.lemmas.Bool.{cases_eq, cases_lt, cases_order}
use Rattle.std.proofs.lemmas.Grind.{get_or_default_zero}
use Rattle.std.proofs.lemmas.List.{append_assoc, append-nil, ext_get_or, get_or_append_left, get_or_at, get_or-take, length-take, length_push}
use Rattle.std.proofs.lemmas.List.FromFn.{get_or-range_with_len, length-range_with_len}
use Rattle.std.proofs.lemmas.List.Quantifiers.{all_pairs_push}
use Rattle.bb_net.specs.Kinds.{AreNumberedInOrder, AreKinds, IsFirstOfKind, representatives}
use Rattle.bb_net.proofs.KindLists.{Rises, IsFirstAt, fresh_first, fresh_at, fresh_counts, fresh_apart, shown_fresh, rises_in_order, rises_apart, order_rising}

pub nothing_added : (n : ℕ) → 0 + n ≡ n
nothing_added n = omega arith

-- what is among the first
pub taken : (xs : List ℕ) (b q : ℕ) → b ≤ length xs → Contains (take b xs) q → (a : ℕ) × (a < b) × (get_or xs a 0 ≡ q)
taken xs b q fits has =
    let a = has.0 in
    let low : a < b = omega (arith, has.1, length-take b xs) in
    (a, low, sym (get_or_default_zero xs a q (omega (arith, low, fits))) ∙ sym (get_or-take b xs a q low) ∙ has.2)

pub into_taken : (xs : List ℕ) (a b q : ℕ) → a < b → b ≤ length xs → get_or xs a 0 ≡ q → Contains (take b xs) q
into_taken xs a b q low fits e = (a, omega (arith, low, fits, length-take b xs), get_or-take b xs a q low ∙ get_or_default_zero xs a q (omega (arith, low, fits)) ∙ e)

texts_eq : (xs ys : List ℕ) → (xs ≡ ys) ⊎ (xs ≢ ys)
texts_eq [] [] = inl refl
texts_eq [] (y ∷ ys) = inr (λ e. omega (arith, ap length e))
texts_eq (x ∷ xs) [] = inr (λ e. omega (arith, ap length e))
texts_eq (x ∷ xs) (y ∷ ys) = elim (cases_eq x y) [
  | inl same ↦ elim (texts_eq xs ys) [
    | inl rest ↦ inl (ap₂ (λ z zs. z ∷ zs) same rest)
    | inr other ↦ inr (λ e. other (ap (drop 1) e))
  ]
  | inr other ↦ inr (λ e. other (ap (λ zs. get_or zs 0 0) e))
]

none_more : (s key : List ℕ) (seen : List (List ℕ)) → s ≢ key → ((p : ℕ) (d : List ℕ) → p < length seen → get_or seen p d ≢ key) → (p : ℕ) (d : List ℕ) → p < length (s ∷ seen) → get_or (s ∷ seen) p d ≢ key
none_more s key seen other none zero d h = other
none_more s key seen other none (suc p) d h = none p d (omega (arith, h))

find_key : (seen : List (List ℕ)) (key : List ℕ) → ((p : ℕ) × (p < length seen) × (get_or seen p [] ≡ key)) ⊎ ((p : ℕ) (d : List ℕ) → p < length seen → get_or seen p d ≢ key)
find_key [] key = inr (λ p d h. absurd (omega (arith, h)))
find_key (s ∷ seen) key = elim (texts_eq s key) [
  | inl same ↦ inl (0, omega arith, same)
  | inr other ↦ elim (find_key seen key) [
    | inl found ↦ inl (suc found.0, omega (arith, found.1), found.2)
    | inr none ↦ inr (none_more s key seen other none)
  ]
]

-- the numbers of keys are their places among all that differ, of which some were seen
record Numbering (seen keys : List (List ℕ)) (kinds : List ℕ) (all : List (List ℕ)) : Type 0 where
  pub count : length kinds ≡ length keys
  pub rises : Rises (length seen) kinds
  pub more : List (List ℕ)
  pub grows : all ≡ seen ++ more
  pub apart : AllPairs ◌≢◌ all
  pub at : (b : ℕ) → b < length keys → (get_or kinds b 0 < length all) × (get_or all (get_or kinds b 0) [] ≡ get_or keys b [])

first_or : (P : ℕ → Type 0) (n : ℕ) → P zero → ((b : ℕ) → b < n → P (suc b)) → (b : ℕ) → b < suc n → P b
first_or P n here rest zero h = here
first_or P n here rest (suc b) h = rest b (omega (arith, h))

numbering_old : (seen keys : List (List ℕ)) (key : List ℕ) (kinds : List ℕ) (all : List (List ℕ)) (p : ℕ) → p < length seen → get_or seen p [] ≡ key → Numbering seen keys kinds all → Numbering seen (key ∷ keys) (p ∷ kinds) all
numbering_old seen keys key kinds all p low is n = record {
  count = ap suc n.count;
  rises = inl (low, n.rises);
  more = n.more;
  grows = n.grows;
  apart = n.apart;
  at = first_or (λ b. (get_or (p ∷ kinds) b 0 < length all) × (get_or all (get_or (p ∷ kinds) b 0) [] ≡ get_or (key ∷ keys) b [])) (length keys)
      (omega (arith, low, ap length n.grows, length-append seen n.more), ap (λ zs. get_or zs p []) n.grows ∙ get_or_append_left seen n.more [] p low ∙ is)
      n.at;
}

numbering_new : (seen keys : List (List ℕ)) (key : List ℕ) (kinds : List ℕ) (all : List (List ℕ)) → Numbering (seen ++ key ∷ []) keys kinds all → Numbering seen (key ∷ keys) (length seen ∷ kinds) all
numbering_new seen keys key kinds all n =
    let e : length (seen ++ key ∷ []) ≡ suc (length seen) = omega (arith, length_push seen key) in
    record {
      count = ap suc n.count;
      rises = inr (refl, subst (λ q. Rises q kinds) e n.rises);
      more = key ∷ n.more;
      grows = n.grows ∙ append_assoc seen (key ∷ []) n.more;
      apart = n.apart;
      at = first_or (λ b. (get_or (length seen ∷ kinds) b 0 < length all) × (get_or all (get_or (length seen ∷ kinds) b 0) [] ≡ get_or (key ∷ keys) b [])) (length keys)
          (omega (arith, ap length n.grows, length-append (seen ++ key ∷ []) n.more, e), ap (λ zs. get_or zs (length seen) []) (n.grows ∙ append_assoc seen (key ∷ []) n.more) ∙ get_or_at seen key n.more [] (length seen) refl)
          n.at;
    }

number_keys : (seen keys : List (List ℕ)) → AllPairs ◌≢◌ seen → (kinds : List ℕ) × (all : List (List ℕ)) × Numbering seen keys kinds all
number_keys seen [] apart = ([], seen, record { count = refl; rises = tt; more = []; grows = sym (append-nil seen); apart = apart; at = λ b h. absurd (omega (arith, h)) })
number_keys seen (key ∷ keys) apart = elim (find_key seen key) [
  | inl found ↦ let r = number_keys seen keys apart in (found.0 ∷ r.0, r.1, numbering_old seen keys key r.0 r.1 found.0 found.1 found.2 r.2)
  | inr none ↦ let r = number_keys (seen ++ key ∷ []) keys (all_pairs_push ◌≢◌ seen key apart (λ k d h. none k d h)) in (length seen ∷ r.0, r.1, numbering_new seen keys key r.0 r.1 r.2)
]

same_place : (all : List (List ℕ)) → AllPairs ◌≢◌ all → (i j : ℕ) → i < length all → j < length all → get_or all i [] ≡ get_or all j [] → i ≡ j
same_place all apart i j hi hj same = elim (cases_order i j) [
  | inl e ↦ e
  | inr other ↦ elim other [ inl low ↦ absurd (apart i j [] low hj same) | inr high ↦ absurd (apart j i [] high hi (sym same)) ]
]

-- keys have kinds
pub kinds_exist : (keys : List (List ℕ)) → (kinds : List ℕ) × AreKinds keys kinds
kinds_exist keys =
    let r = number_keys [] keys (λ i j d low h. absurd (omega (arith, h))) in
    let n = r.2 in (
      r.0,
      record {
        count = n.count;
        same = λ a b ha hb. (
          λ e. sym (n.at a ha).1 ∙ ap (λ q. get_or r.1 q []) e ∙ (n.at b hb).1,
          λ e. same_place r.1 n.apart (get_or r.0 a 0) (get_or r.0 b 0) (n.at a ha).0 (n.at b hb).0 ((n.at a ha).1 ∙ e ∙ sym (n.at b hb).1),
        );
        ordered = order_rising r.0 n.rises;
      },
    )

-- where the kinds before are the same, a smaller kind precedes
clash : (keys : List (List ℕ)) (kinds others : List ℕ) → AreKinds keys kinds → AreKinds keys others → (b : ℕ) → b < length keys → ((a : ℕ) → a < b → get_or kinds a 0 ≡ get_or others a 0) → get_or kinds b 0 < get_or others b 0 → ⊥
clash keys kinds others one two b h before low =
    let there : b < length others = omega (arith, h, two.count) in
    let found = taken others b (get_or kinds b 0) (omega (arith, there)) (two.ordered b (get_or kinds b 0) there low) in
    let a = found.0 in
    let ha : a < length keys = omega (arith, found.1, h) in
    let keys_same = (one.same a b ha h).0 (before a found.1 ∙ found.2) in
    let same = (two.same a b ha h).1 keys_same in
    omega (arith, low, found.2, same)

same_kinds : (keys : List (List ℕ)) (kinds others : List ℕ) → AreKinds keys kinds → AreKinds keys others → (n b : ℕ) → b < n → b < length keys → get_or kinds b 0 ≡ get_or others b 0
same_kinds keys kinds others one two zero b low h = absurd (omega (arith, low))
same_kinds keys kinds others one two (suc n) b low h =
    let before : (a : ℕ) → a < b → get_or kinds a 0 ≡ get_or others a 0 = λ a less. same_kinds keys kinds others one two n a (omega (arith, low, less)) (omega (arith, h, less)) in
    elim (cases_order (get_or kinds b 0) (get_or others b 0)) [
      | inl e ↦ e
      | inr other ↦ elim other [ inl less ↦ absurd (clash keys kinds others one two b h before less) | inr more ↦ absurd (clash keys others kinds two one b h (λ a less. sym (before a less)) more) ]
    ]

-- and no others
pub kinds_are_one : (keys : List (List ℕ)) (kinds others : List ℕ) → AreKinds keys kinds → AreKinds keys others → kinds ≡ others
kinds_are_one keys kinds others one two =
    ext_get_or 0 kinds others (one.count ∙ sym two.count) (λ b h. same_kinds keys kinds others one two (length kinds) b h (omega (arith, h, one.count)))

pub kinds_of_apart : (keys : List (List ℕ)) (kinds : List ℕ) → AreKinds keys kinds → AllPairs ◌≢◌ keys → AllPairs ◌≢◌ kinds
kinds_of_apart keys kinds are apart = λ i j d low h e.
    let hj : j < length keys = omega (arith, h, are.count) in
    let hi : i < length keys = omega (arith, low, hj) in
    apart i j [] low hj ((are.same i j hi hj).0 (sym (get_or_default_zero kinds i d (omega (arith, low, h))) ∙ e ∙ get_or_default_zero kinds j d h))

-- kinds that all differ are the places
pub kinds_apart : (kinds : List ℕ) → AreNumberedInOrder kinds → AllPairs ◌≢◌ kinds → kinds ≡ range_with_len 0 (length kinds)
kinds_apart kinds ordered apart =
    let at = rises_apart 0 kinds (rises_in_order kinds ordered) apart (λ b h. omega arith) in
    ext_get_or 0 kinds (range_with_len 0 (length kinds)) (sym (length-range_with_len 0 (length kinds))) (λ b h. at b h ∙ sym (get_or-range_with_len 0 (length kinds) b 0 h))

pub places_in_order : (n : ℕ) → AreNumberedInOrder (range_with_len 0 n)
places_in_order n = λ b k h low.
    let len = length-range_with_len 0 n in
    let hb : b < n = omega (arith, h, len) in
    let here = get_or-range_with_len 0 n b 0 hb in
    let less : k < b = omega (arith, low, here) in
    into_taken (range_with_len 0 n) k b k less (omega (arith, h)) (get_or-range_with_len 0 n k 0 (omega (arith, less, hb)) ∙ nothing_added k)

pub one_apart : (kinds : List ℕ) → length kinds ≤ 1 → AllPairs ◌≢◌ kinds
one_apart kinds few = λ i j d low h. absurd (omega (arith, few, low, h))

module _ {A : Type 0} where
  pub shown_places : (n : ℕ) (xs : List A) → length xs ≡ n → representatives (range_with_len 0 n) xs ≡ xs
  shown_places n xs len =
      let rises = rises_in_order (range_with_len 0 n) (places_in_order n) in
      let whole = length-range_with_len 0 n in
      shown_fresh (range_with_len 0 n) rises xs
      ∙ fresh_apart 0 (range_with_len 0 n) rises xs (len ∙ sym whole) (λ b h. get_or-range_with_len 0 n b 0 (omega (arith, h, whole)))

first_of_kind : (kinds : List ℕ) (k b : ℕ) → IsFirstAt kinds k b → IsFirstOfKind kinds b
first_of_kind kinds k b at = λ has.
    let found = taken kinds b (get_or kinds b 0) (omega (arith, at.there)) has in
    let p = at.first found.0 (omega (arith, found.1, at.there)) (found.2 ∙ at.is) in
    omega (arith, p, found.1)

first_at_place : (kinds : List ℕ) (b : ℕ) → b < length kinds → IsFirstOfKind kinds b → IsFirstAt kinds (get_or kinds b 0) b
first_at_place kinds b h first = record {
  there = h;
  is = refl;
  first = λ a ha e. elim (cases_lt a b) [
    | inl low ↦ absurd (first (into_taken kinds a b (get_or kinds b 0) low (omega (arith, h)) e))
    | inr high ↦ high
  ];
}

module _ {A : Type 0} where
  -- a kind has a number below the number of those that are shown
  pub shown_counts : (kinds : List ℕ) (xs : List A) → AreNumberedInOrder kinds → length xs ≡ length kinds → (k : ℕ) → (k < length (representatives kinds xs)) ↔ Contains kinds k
  shown_counts kinds xs ordered len k =
      let rises = rises_in_order kinds ordered in
      let is = shown_fresh kinds rises xs in (
        λ h. let r = fresh_first 0 kinds rises xs k (omega (arith, h, ap length is)) in (r.0, r.1.there, get_or_default_zero kinds r.0 k r.1.there ∙ r.1.is ∙ nothing_added k),
        λ has. let p = fresh_counts 0 kinds rises xs len has.0 k has.1 (sym (get_or_default_zero kinds has.0 k has.1) ∙ has.2 ∙ sym (nothing_added k)) in omega (arith, p, ap length is),
      )

  -- and what is shown at that number is what belongs to the first box of the kind
  pub shown_occurs : (kinds : List ℕ) (xs : List A) (d : A) → AreNumberedInOrder kinds → length xs ≡ length kinds → (b : ℕ) → b < length kinds → IsFirstOfKind kinds b → get_or (representatives kinds xs) (get_or kinds b 0) d ≡ get_or xs b d
  shown_occurs kinds xs d ordered len b h first =
      let rises = rises_in_order kinds ordered in
      ap (λ ys. get_or ys (get_or kinds b 0) d) (shown_fresh kinds rises xs) ∙ fresh_at 0 kinds rises xs d len (get_or kinds b 0) b (subst (λ k. IsFirstAt kinds k b) (sym (nothing_added (get_or kinds b 0))) (first_at_place kinds b h first))

-- each kind has a first box
pub kind_has_first : (kinds : List ℕ) (k : ℕ) → AreNumberedInOrder kinds → Contains kinds k → (b : ℕ) × (b < length kinds) × IsFirstOfKind kinds b × (get_or kinds b 0 ≡ k)
kind_has_first kinds k ordered has =
    let rises = rises_in_order kinds ordered in
    let p = fresh_counts 0 kinds rises kinds refl has.0 k has.1 (sym (get_or_default_zero kinds has.0 k has.1) ∙ has.2 ∙ sym (nothing_added k)) in
    let r = fresh_first 0 kinds rises kinds k p in
    let is = r.1.is ∙ nothing_added k in
    (r.0, r.1.there, first_of_kind kinds k r.0 (subst (λ q. IsFirstAt kinds q r.0) (nothing_added k) r.1), is)

-- the first kinds are in order
pub prefix_in_order : (kinds : List ℕ) (n : ℕ) → n ≤ length kinds → AreNumberedInOrder kinds → AreNumberedInOrder (take n kinds)
prefix_in_order kinds n fits ordered = λ b k h low.
    let hb : b < n = omega (arith, h, length-take n kinds) in
    let here = get_or-take n kinds b 0 hb in
    let found = taken kinds b k (omega (arith, hb, fits)) (ordered b k (omega (arith, hb, fits)) (omega (arith, low, here))) in
    into_taken (take n kinds) found.0 b k found.1 (omega (arith, h)) (get_or-take n kinds found.0 0 (omega (arith, found.1, hb)) ∙ found.2)

-- a new kind has the number of the kinds before it
pub kind_is_count : (kinds : List ℕ) (b : ℕ) → AreNumberedInOrder kinds → b < length kinds → IsFirstOfKind kinds b → get_or kinds b 0 ≡ length (representatives (take b kinds) (take b kinds))
kind_is_count kinds b ordered h first =
    let prefix = take b kinds in
    let count = shown_counts prefix prefix (prefix_in_order kinds b (omega (arith, h)) ordered) refl in
    elim (cases_order (get_or kinds b 0) (length (representatives prefix prefix))) [
      | inl e ↦ e
      | inr other ↦ elim other [
        | inl low ↦ absurd (first ((count (get_or kinds b 0)).0 low))
        | inr high ↦ let p = (count (length (representatives prefix prefix))).1 (ordered b (length (representatives prefix prefix)) h high) in absurd (omega (arith, p))
      ]
    ]

-- the kinds of keys that all differ are their places
pub places_are_kinds : (keys : List (List ℕ)) → AllPairs ◌≢◌ keys → AreKinds keys (range_with_len 0 (length keys))
places_are_kinds keys apart =
    let some = kinds_exist keys in
    let places = kinds_apart some.0 some.1.ordered (kinds_of_apart keys some.0 some.1 apart) in
    subst (AreKinds keys) (places ∙ ap (range_with_len 0) some.1.count) some.1
