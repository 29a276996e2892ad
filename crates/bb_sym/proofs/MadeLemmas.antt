-- sequences of calls: the beads that they leave, and where they are too many
use Rattle.std.proofs.Common.{Bool, true, false, cond, ◌==◌, ◌≡◌, ◌<◌, ◌⊎◌, ℕ, zero, suc, ◌+◌, List, [], ◌∷◌, ◌++◌, map, length, refl, sym, ap, ◌∙◌, subst, inl, inr, arith}
use Rattle.std.specs.Prelude.{Contains}
use Rattle.std.specs.List.{range_with_len}
use Rattle.std.proofs.lemmas.List.Elements.{All-weaker, Contains-append_cases, Contains-append_left, Contains-append_right}
use Rattle.std.proofs.lemmas.Bool.{cases_lt}
use Rattle.std.proofs.lemmas.List.{length_push, get_or_append_left, get_or_push}
use Rattle.std.proofs.lemmas.List.FromFn.{length-map-range_with_len, get_or-map-range_with_len, map-range_with_len_more}
use Rattle.bb_bits.specs.Truth.{Truth, IsBeadOf, IsBeadOfAny, constant}
use Rattle.bb_bits.specs.TruthSets.{HasMoreThan}
use Rattle.bb_uniq.specs.declared.store.Ref.{Ref}
use Rattle.bb_uniq.specs.Laws.{StoreLaws, GrowthLaws}
use Rattle.bb_uniq.specs.Inside.Nodes.{NodeStore, IsStore, IsRef}
use Rattle.bb_uniq.specs.Inside.Meaning.{IsHeldWith, Keeps, Adds, IsTooMany}
use Rattle.bb_sym.specs.Inside.Made.{IsHeldWithAny, Makes, AreTooMany, Represents, RepresentAll, AreRefs, ref_at}

-- every bead of the first list is one of the second
abbrev pub AreWithin : List Truth → List Truth → Type 0
AreWithin ts us = (b : Truth) → IsBeadOfAny ts b → IsBeadOfAny us b

pub within_append_left : (ts us : List Truth) → AreWithin ts (ts ++ us)
within_append_left ts us b h = (h.0, Contains-append_left ts us h.0 h.1, h.2)

pub within_append_right : (ts us : List Truth) → AreWithin us (ts ++ us)
within_append_right ts us b h = (h.0, Contains-append_right ts us h.0 h.1, h.2)

pub any_cases : (ts us : List Truth) (b : Truth) → IsBeadOfAny (ts ++ us) b → IsBeadOfAny ts b ⊎ IsBeadOfAny us b
any_cases ts us b h = elim (Contains-append_cases ts us h.0 h.1) [ inl c ↦ inl (h.0, c, h.2) | inr c ↦ inr (h.0, c, h.2) ]

pub within_append : (ts us vs : List Truth) → AreWithin ts vs → AreWithin us vs → AreWithin (ts ++ us) vs
within_append ts us vs f g b h = elim (any_cases ts us b h) [ inl x ↦ f b x | inr x ↦ g b x ]

pub within_none : (vs : List Truth) → AreWithin [] vs
within_none vs b h = absurd (omega (arith, h.1.1))

only : (t u : Truth) → Contains (t ∷ []) u → t ≡ u
only t u (zero, l, e) = e
only t u (suc k, l, e) = absurd (omega (arith, l))

pub within_one : (t : Truth) (vs : List Truth) → Contains vs t → AreWithin (t ∷ []) vs
within_one t vs c b h = (t, c, subst (IsBeadOf b) (sym (only t h.0 h.1)) h.2)

one : (t b : Truth) → IsBeadOf b t → IsBeadOfAny (t ∷ []) b
one t b h = (t, (0, omega arith, refl), h)

from_one : (t b : Truth) → IsBeadOfAny (t ∷ []) b → IsBeadOf b t
from_one t b h = subst (IsBeadOf b) (sym (only t h.0 h.1)) h.2

-- the entry of a number among those of a range
pub listed : {X : Type 0} (f : ℕ → X) (a n i j : ℕ) → i < n → a + i ≡ j → Contains (map f (range_with_len a n)) (f j)
listed f a n i j l e = (i, (let whole = length-map-range_with_len f a n in omega (arith, whole, l)), get_or-map-range_with_len f a n i j (f j) l e)

pub keeps_self : (s : NodeStore) → Keeps s s
keeps_self s = record { vars = refl; limit = refl; refs = λ r ref. ref; views = λ r ref. refl; tables = λ r ref. refl }

pub keeps_then : (a b c : NodeStore) → Keeps a b → Keeps b c → Keeps a c
keeps_then a b c h k = record {
  vars = k.vars ∙ h.vars;
  limit = k.limit ∙ h.limit;
  refs = λ r ref. k.refs r (h.refs r ref);
  views = λ r ref. k.views r (h.refs r ref) ∙ h.views r ref;
  tables = λ r ref. k.tables r (h.refs r ref) ∙ h.tables r ref;
}

pub Makes-none : (s : NodeStore) → Makes s s []
Makes-none s = record { kept = keeps_self s; beads = λ b. (λ h. inl h, λ h. elim h [ inl x ↦ x | inr x ↦ absurd (omega (arith, x.1.1)) ]) }

pub Makes-one : (old new : NodeStore) (t : Truth) (r : ℕ) → Adds old new t r → Makes old new (t ∷ [])
Makes-one old new t r added = record {
  kept = added.kept;
  beads = λ b. (
    λ h. elim ((added.beads b).0 h) [ inl x ↦ inl x | inr x ↦ inr (one t b x) ],
    λ h. (added.beads b).1 (elim h [ inl x ↦ inl x | inr x ↦ inr (from_one t b x) ]),
  );
}

pub Makes-then : (a b c : NodeStore) (ts us : List Truth) → Makes a b ts → Makes b c us → Makes a c (ts ++ us)
Makes-then a b c ts us h k = record {
  kept = keeps_then a b c h.kept k.kept;
  beads = λ x. (
    λ held. elim ((k.beads x).0 held) [
      | inl before ↦ elim ((h.beads x).0 before) [ inl first ↦ inl first | inr made ↦ inr (within_append_left ts us x made) ]
      | inr made ↦ inr (within_append_right ts us x made)
    ],
    λ held. elim held [
      | inl first ↦ (k.beads x).1 (inl ((h.beads x).1 (inl first)))
      | inr made ↦ elim (any_cases ts us x made) [ inl m ↦ (k.beads x).1 (inl ((h.beads x).1 (inr m))) | inr m ↦ (k.beads x).1 (inr m) ]
    ],
  );
}

pub Makes-next : (a b c : NodeStore) (ts : List Truth) (t : Truth) (r : ℕ) → Makes a b ts → Adds b c t r → Makes a c (ts ++ t ∷ [])
Makes-next a b c ts t r h added = Makes-then a b c ts (t ∷ []) h (Makes-one b c t r added)

-- lists with the same beads
pub Makes-same : (a b : NodeStore) (ts us : List Truth) → AreWithin ts us → AreWithin us ts → Makes a b ts → Makes a b us
Makes-same a b ts us there back h = record {
  kept = h.kept;
  beads = λ x. (
    λ held. elim ((h.beads x).0 held) [ inl before ↦ inl before | inr made ↦ inr (there x made) ],
    λ held. (h.beads x).1 (elim held [ inl before ↦ inl before | inr made ↦ inr (back x made) ]),
  );
}

more_than : (P Q : Truth → Type 0) (k n : ℕ) → k ≡ n → ((b : Truth) → P b → Q b) → HasMoreThan P k → HasMoreThan Q n
more_than P Q k n e f h = (h.0, h.1, All-weaker P Q f h.0 h.2, omega (arith, h.3, e))

pub too_many_within : (s : NodeStore) (ts us : List Truth) → AreWithin ts us → AreTooMany s ts → AreTooMany s us
too_many_within s ts us f = more_than (IsHeldWithAny s ts) (IsHeldWithAny s us) s.limit s.limit refl (λ b h. elim h [ inl x ↦ inl x | inr x ↦ inr (f b x) ])

pub too_many_one : (s : NodeStore) (t : Truth) → IsTooMany s t → AreTooMany s (t ∷ [])
too_many_one s t = more_than (IsHeldWith s t) (IsHeldWithAny s (t ∷ [])) s.limit s.limit refl (λ b h. elim h [ inl x ↦ inl x | inr x ↦ inr (one t b x) ])

pub too_many_then : (a b : NodeStore) (ts us : List Truth) → Makes a b ts → AreTooMany b us → AreTooMany a (ts ++ us)
too_many_then a b ts us h =
    more_than (IsHeldWithAny b us) (IsHeldWithAny a (ts ++ us)) b.limit a.limit h.kept.limit (λ x held. elim held [
      | inl before ↦ elim ((h.beads x).0 before) [ inl first ↦ inl first | inr made ↦ inr (within_append_left ts us x made) ]
      | inr made ↦ inr (within_append_right ts us x made)
    ])

-- what was made and a further table are too many, and so is each list with both
pub refused : (a b : NodeStore) (ts us : List Truth) (t : Truth) → Makes a b ts → IsTooMany b t → AreWithin ts us → Contains us t → AreTooMany a us
refused a b ts us t h many there last =
    too_many_within a (ts ++ t ∷ []) us (within_append ts (t ∷ []) us there (within_one t us last)) (too_many_then a b ts (t ∷ []) h (too_many_one b t many))

-- the first entries of a range, and the next one
pub Makes-more : (a b c : NodeStore) (f : ℕ → Truth) (i r : ℕ) → Makes a b (map f (range_with_len 0 i)) → Adds b c (f i) r → Makes a c (map f (range_with_len 0 (i + 1)))
Makes-more a b c f i r h added = subst (Makes a c) (sym (map-range_with_len_more f 0 i i (omega arith))) (Makes-next a b c (map f (range_with_len 0 i)) (f i) r h added)

pub within_range : (f : ℕ → Truth) (i n : ℕ) → i < n + 1 → AreWithin (map f (range_with_len 0 i)) (map f (range_with_len 0 n))
within_range f zero n l = within_none (map f (range_with_len 0 n))
within_range f (suc i) n l =
    subst (λ ts. AreWithin ts (map f (range_with_len 0 n))) (sym (ap (λ k. map f (range_with_len 0 k)) (let e : suc i ≡ i + 1 = omega arith in e) ∙ map-range_with_len_more f 0 i i (omega arith)))
    (within_append (map f (range_with_len 0 i)) (f i ∷ []) (map f (range_with_len 0 n)) (within_range f i n (omega (arith, l))) (within_one (f i) (map f (range_with_len 0 n)) (listed f 0 n i i (omega (arith, l)) (omega arith))))

pub refused_more : (a b : NodeStore) (f : ℕ → Truth) (i n : ℕ) → Makes a b (map f (range_with_len 0 i)) → i < n → IsTooMany b (f i) → AreTooMany a (map f (range_with_len 0 n))
refused_more a b f i n h l many =
    refused a b (map f (range_with_len 0 i)) (map f (range_with_len 0 n)) (f i) h many (within_range f i n (omega (arith, l))) (listed f 0 n i i l (omega arith))

-- a Ref that represents a table still does
pub Represents-kept : (a b : NodeStore) (t : Truth) (r : Ref) → Keeps a b → Represents a t r → Represents b t r
Represents-kept a b t r kept h = record { ref = kept.refs r.0 h.ref; table = kept.tables r.0 h.ref ∙ h.table }

pub RepresentAll-kept : (a b : NodeStore) (t : ℕ → Truth) (refs : List Ref) → Keeps a b → RepresentAll a t refs → RepresentAll b t refs
RepresentAll-kept a b t refs kept h place l = Represents-kept a b (t place) (ref_at refs place) kept (h place l)

-- one more Ref after others
pub RepresentAll-push : (old new : NodeStore) (t : ℕ → Truth) (refs : List Ref) (r : Ref) (n : ℕ) → length refs ≡ n → Keeps old new → RepresentAll old t refs → Represents new (t n) r → RepresentAll new t (refs ++ r ∷ [])
RepresentAll-push old new t refs r n e kept h last place l =
    let long = length_push refs r in
    elim (cases_lt place (length refs)) [
      | inl before ↦ subst (Represents new (t place)) (sym (get_or_append_left refs (r ∷ []) (record { 0 = 0 }) place before)) (Represents-kept old new (t place) (ref_at refs place) kept (h place before))
      | inr after ↦
          let here : place ≡ length refs = omega (arith, long, l, after) in
          let at : place ≡ n = here ∙ e in
          subst (Represents new (t place)) (sym (get_or_push refs r (record { 0 = 0 }) place (sym here))) (subst (λ k. Represents new (t k) r) (sym at) last)
    ]

pub Represents-added : (old new : NodeStore) (t : Truth) (r : Ref) → Adds old new t r.0 → Represents new t r
Represents-added old new t r added = record { ref = added.ref; table = added.table }

leaf_bit : (bit : Bool) (r : ℕ) → r ≡ cond bit 1 0 → (r < 2) × ((r == 1) ≡ bit)
leaf_bit true r e = (omega (arith, e), ap (λ k. k == 1) e)
leaf_bit false r e = (omega (arith, e), ap (λ k. k == 1) e)

-- a leaf adds no bead
pub Adds-leaf : StoreLaws → GrowthLaws → (s : NodeStore) → IsStore s → (bit : Bool) (r : ℕ) → r ≡ cond bit 1 0 → Adds s s (constant s.vars bit) r
Adds-leaf stores growth s sound bit r e =
    let leaf = leaf_bit bit r e in
    growth.adds_nothing s sound (constant s.vars bit) r (omega (arith, leaf.0)) (stores.leaf_table s r leaf.0 ∙ ap (constant s.vars) leaf.1)

-- Refs of a store are of each that keeps it, and so is a further one
pub AreRefs-kept : (a b : NodeStore) (refs : List Ref) → Keeps a b → AreRefs a refs → AreRefs b refs
AreRefs-kept a b refs kept h place l = kept.refs (ref_at refs place).0 (h place l)

pub AreRefs-push : (old new : NodeStore) (refs : List Ref) (r : Ref) → Keeps old new → IsRef new r.0 → AreRefs old refs → AreRefs new (refs ++ r ∷ [])
AreRefs-push old new refs r kept last h place l =
    let long = length_push refs r in
    elim (cases_lt place (length refs)) [
      | inl before ↦ subst (λ (q : Ref). IsRef new q.0) (sym (get_or_append_left refs (r ∷ []) (record { 0 = 0 }) place before)) (kept.refs (ref_at refs place).0 (h place before))
      | inr after ↦
          let here : place ≡ length refs = omega (arith, long, l, after) in
          subst (λ (q : Ref). IsRef new q.0) (sym (get_or_push refs r (record { 0 = 0 }) place (sym here))) last
    ]

-- Refs that represent tables are of the store
pub RepresentAll-refs : (s : NodeStore) (t : ℕ → Truth) (refs : List Ref) → RepresentAll s t refs → AreRefs s refs
RepresentAll-refs s t refs h place l = (h place l).ref
