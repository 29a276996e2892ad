-- outputs one after another, each with several tables
use Rattle.std.proofs.Common.{◌≡◌, ◌<◌, ℕ, zero, suc, ◌+◌, ◌-◌, List, [], ◌∷◌, ◌++◌, sym, ap, ap₂, ◌∙◌, subst, arith, append_assoc, append-nil}
use Rattle.std.specs.List.{flat_map, range_with_len}
use Rattle.bb_bits.specs.Truth.{Truth}
use Rattle.bb_uniq.specs.Inside.Nodes.{NodeStore}
use Rattle.bb_uniq.specs.Inside.Meaning.{Adds, IsTooMany}
use Rattle.bb_sym.specs.Inside.Made.{Makes, AreTooMany}
use Rattle.bb_sym.proofs.MadeLemmas.{Makes-then, Makes-one, too_many_within, too_many_then, too_many_one, within_append_left}

-- the lists of the first numbers and of those after
flat_parts : (f : ℕ → List Truth) (a n m : ℕ) → flat_map f (range_with_len a (n + m)) ≡ flat_map f (range_with_len a n) ++ flat_map f (range_with_len (a + n) m)
flat_parts f a zero m = ap₂ (λ i k. flat_map f (range_with_len i k)) (let e : a ≡ a + 0 = omega arith in e) (let e : 0 + m ≡ m = omega arith in e)
flat_parts f a (suc n) m =
    ap (λ k. flat_map f (range_with_len a k)) (let e : suc n + m ≡ suc (n + m) = omega arith in e)
    ∙ (ap (λ ts. f a ++ ts) (flat_parts f (a + 1) n m)
    ∙ (sym (append_assoc (f a) (flat_map f (range_with_len (a + 1) n)) (flat_map f (range_with_len (a + 1 + n) m)))
    ∙ ap (λ k. f a ++ flat_map f (range_with_len (a + 1) n) ++ flat_map f (range_with_len k m)) (let e : a + 1 + n ≡ a + suc n = omega arith in e)))

flat_more : (f : ℕ → List Truth) (i : ℕ) → flat_map f (range_with_len 0 (i + 1)) ≡ flat_map f (range_with_len 0 i) ++ f i
flat_more f i = flat_parts f 0 i 1 ∙ ap (λ ts. flat_map f (range_with_len 0 i) ++ ts) (append-nil (f (0 + i)) ∙ ap f (let e : 0 + i ≡ i = omega arith in e))

flat_whole : (f : ℕ → List Truth) (i n : ℕ) → i < n → flat_map f (range_with_len 0 n) ≡ (flat_map f (range_with_len 0 i) ++ f i) ++ flat_map f (range_with_len (i + 1) (n - (i + 1)))
flat_whole f i n l =
    ap (λ k. flat_map f (range_with_len 0 k)) (let e : n ≡ (i + 1) + (n - (i + 1)) = omega (arith, l) in e)
    ∙ (flat_parts f 0 (i + 1) (n - (i + 1)) ∙ ap₂ (λ ts k. ts ++ flat_map f (range_with_len k (n - (i + 1)))) (flat_more f i) (let e : 0 + (i + 1) ≡ i + 1 = omega arith in e))

pub flat_makes : (first old new : NodeStore) (f : ℕ → List Truth) (i : ℕ) → Makes first old (flat_map f (range_with_len 0 i)) → Makes old new (f i) → Makes first new (flat_map f (range_with_len 0 (i + 1)))
flat_makes first old new f i h made = subst (Makes first new) (sym (flat_more f i)) (Makes-then first old new (flat_map f (range_with_len 0 i)) (f i) h made)

pub flat_refused : (first old : NodeStore) (f : ℕ → List Truth) (i n : ℕ) → i < n → Makes first old (flat_map f (range_with_len 0 i)) → AreTooMany old (f i) → AreTooMany first (flat_map f (range_with_len 0 n))
flat_refused first old f i n l h many =
    let ts = flat_map f (range_with_len 0 i) ++ f i in
    subst (AreTooMany first) (sym (flat_whole f i n l))
    (too_many_within first ts (ts ++ flat_map f (range_with_len (i + 1) (n - (i + 1)))) (within_append_left ts (flat_map f (range_with_len (i + 1) (n - (i + 1)))))
    (too_many_then first old (flat_map f (range_with_len 0 i)) (f i) h many))

-- one table and then others
pub first_refused : (old : NodeStore) (t : Truth) (ts : List Truth) → IsTooMany old t → AreTooMany old (t ∷ ts)
first_refused old t ts many = too_many_within old (t ∷ []) (t ∷ ts) (within_append_left (t ∷ []) ts) (too_many_one old t many)

pub rest_refused : (old mid : NodeStore) (t : Truth) (ts : List Truth) (r : ℕ) → Adds old mid t r → AreTooMany mid ts → AreTooMany old (t ∷ ts)
rest_refused old mid t ts r added many = too_many_then old mid (t ∷ []) ts (Makes-one old mid t r added) many

pub first_makes : (old mid new : NodeStore) (t : Truth) (ts : List Truth) (r : ℕ) → Adds old mid t r → Makes mid new ts → Makes old new (t ∷ ts)
first_makes old mid new t ts r added made = Makes-then old mid new (t ∷ []) ts (Makes-one old mid t r added) made
