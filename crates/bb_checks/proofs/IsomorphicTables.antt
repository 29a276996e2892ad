-- Lists of tables among others: where each table of a list is in another, the beads of the one are beads of the other.
use Rattle.std.proofs.Common.{◌≡◌, ℕ, zero, suc, ◌+◌, ◌<◌, ◌≤◌, ◌||◌, Bool, List, [], ◌∷◌, ◌++◌, map, ◌∙◌, refl, sym, ap, ap₂, subst, inl, inr, arith}
use Rattle.std.specs.Prelude.{Contains}
use Rattle.std.specs.List.{flat_map, list_any, range_with_len}
use Rattle.std.proofs.lemmas.List.{map-append}
use Rattle.std.proofs.lemmas.List.Concat.{flat_map_single}
use Rattle.std.proofs.lemmas.List.Elements.{All-weaker, Contains-append_cases, Contains-append_left, Contains-append_right}
use Rattle.std.proofs.lemmas.Simd.{map-map}
use Rattle.bb_bits.specs.Truth.{Truth, IsBeadOfAny}
use Rattle.bb_bits.specs.TruthSets.{HasMoreThan}
use Rattle.bb_sym.specs.Plain.{Function, table, tables, one_of}
use Rattle.bb_options.specs.declared.options.Options.{Options}
use Rattle.bb_checks.specs.Inside.IsomorphismLaws.{FunctionsFixTables}
use Rattle.bb_checks.specs.Rungs.{AreTooMany}

pub table_same : FunctionsFixTables → (n m : ℕ) → n ≡ m → (f g : Function) → ((x : List Bool) → f x ≡ g x) → table n f ≡ table m g
table_same fix n m e f g same = fix n f g (λ x l. same x) ∙ ap (λ (k : ℕ). table k g) e

-- each table of the first list is in the second
abbrev pub AreAmong : List Truth → List Truth → Type 0
AreAmong ts us = (t : Truth) → Contains ts t → Contains us t

-- so the beads of the second are as many at least
pub more_among : (n : ℕ) (ts us : List Truth) → AreAmong ts us → HasMoreThan (IsBeadOfAny ts) n → HasMoreThan (IsBeadOfAny us) n
more_among n ts us among many = (many.0, many.1, All-weaker (IsBeadOfAny ts) (IsBeadOfAny us) (λ b h. (h.0, among h.0 h.1, h.2)) many.0 many.2, many.3)

pub too_many_among : (o : Options) (ts us : List Truth) → AreAmong ts us → AreTooMany o ts → AreTooMany o us
too_many_among o ts us among many = more_among o.nodes ts us among many

pub among_same : (ts us : List Truth) → ts ≡ us → AreAmong ts us
among_same ts us e t has = subst (λ l. Contains l t) e has

pub among_append : (ts us vs ws : List Truth) → AreAmong ts us → AreAmong vs ws → AreAmong (ts ++ vs) (us ++ ws)
among_append ts us vs ws first rest t has = elim (Contains-append_cases ts vs t has) [
  | inl here ↦ Contains-append_left us ws t (first t here)
  | inr after ↦ Contains-append_right us ws t (rest t after)
]

-- each number of a range has one of another range with the same tables
abbrev pub HaveAll : {X : Type 0} → (ℕ → X) → (ℕ → X) → ℕ → ℕ → Type 0
HaveAll f g n m = (k : ℕ) → k < n → (i : ℕ) × (i < m) × (f k ≡ g i)

-- the entry of a number in what a range gives
occurs : (g : ℕ → List Truth) (a m i : ℕ) (t : Truth) → i < m → Contains (g (a + i)) t → Contains (flat_map g (range_with_len a m)) t
occurs g a zero i t l has = absurd (omega (arith, l))
occurs g a (suc m) zero t l has = Contains-append_left (g a) (flat_map g (range_with_len (a + 1) m)) t (subst (λ n. Contains (g n) t) (let e : a + 0 ≡ a = omega arith in e) has)
occurs g a (suc m) (suc i) t l has =
    Contains-append_right (g a) (flat_map g (range_with_len (a + 1) m)) t
    (occurs g (a + 1) m i t (omega (arith, l)) (subst (λ n. Contains (g n) t) (let e : a + suc i ≡ (a + 1) + i = omega arith in e) has))

pub among_each : (f g : ℕ → List Truth) (n m : ℕ) → HaveAll f g n m → AreAmong (flat_map f (range_with_len 0 n)) (flat_map g (range_with_len 0 m))
among_each f g n m all t has = from 0 n (omega arith) has
  where
    from : (a k : ℕ) → a + k ≤ n → Contains (flat_map f (range_with_len a k)) t → Contains (flat_map g (range_with_len 0 m)) t
    from a zero l has = absurd (omega (arith, has.1))
    from a (suc k) l has = elim (Contains-append_cases (f a) (flat_map f (range_with_len (a + 1) k)) t has) [
      | inl here ↦
          let found = all a (omega (arith, l)) in
          occurs g 0 m found.0 t found.1 (subst (λ i. Contains (g i) t) (let e : found.0 ≡ 0 + found.0 = omega arith in e) (subst (λ ts. Contains ts t) found.2 here))
      | inr after ↦ from (a + 1) k (omega (arith, l)) after
    ]

pub among_all : (f g : ℕ → Truth) (n m : ℕ) → HaveAll f g n m → AreAmong (map f (range_with_len 0 n)) (map g (range_with_len 0 m))
among_all f g n m all t has =
    subst (λ ts. Contains ts t) (flat_map_single g (range_with_len 0 m))
    (among_each (λ k. f k ∷ []) (λ k. g k ∷ []) n m (λ k l. let found = all k l in (found.0, found.1, ap (λ u. u ∷ []) found.2)) t
    (subst (λ ts. Contains ts t) (sym (flat_map_single f (range_with_len 0 n))) has))

-- the tables of functions that a range gives
pub among_tables : FunctionsFixTables → (n : ℕ) (f g : ℕ → Function) (c d : ℕ) → ((k : ℕ) → k < c → (i : ℕ) × (i < d) × ((x : List Bool) → f k x ≡ g i x))
    → AreAmong (tables n (map f (range_with_len 0 c))) (tables n (map g (range_with_len 0 d)))
among_tables agree n f g c d all t has =
    subst (λ ts. Contains ts t) (sym (map-map (table n) g (range_with_len 0 d)))
    (among_all (λ k. table n (f k)) (λ i. table n (g i)) c d (λ k l. let found = all k l in (found.0, found.1, agree n (f k) (g found.0) (λ x e. found.2 x))) t
    (subst (λ ts. Contains ts t) (map-map (table n) f (range_with_len 0 c)) has))

pub among_two_tables : (n : ℕ) (fs gs hs ks : List Function) → AreAmong (tables n fs) (tables n gs) → AreAmong (tables n hs) (tables n ks) → AreAmong (tables n (fs ++ hs)) (tables n (gs ++ ks))
among_two_tables n fs gs hs ks first rest t has =
    subst (λ ts. Contains ts t) (sym (map-append (table n) gs ks))
    (among_append (tables n fs) (tables n gs) (tables n hs) (tables n ks) first rest t (subst (λ ts. Contains ts t) (map-append (table n) fs hs) has))

any_same : (u v : ℕ → Bool) (a n : ℕ) → ((j : ℕ) → j < a + n → u j ≡ v j) → list_any u (range_with_len a n) ≡ list_any v (range_with_len a n)
any_same u v a zero same = refl
any_same u v a (suc n) same = ap₂ (λ b c. b || c) (same a (omega arith)) (any_same u v (a + 1) n (λ j l. same j (omega (arith, l))))

pub one_of_same : (f g : ℕ → Function) (n : ℕ) (x : List Bool) → ((j : ℕ) → j < n → f j x ≡ g j x) → one_of f n x ≡ one_of g n x
one_of_same f g n x same = any_same (λ j. f j x) (λ j. g j x) 0 n (λ j l. same j (omega (arith, l)))
