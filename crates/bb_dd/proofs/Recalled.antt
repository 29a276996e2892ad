-- the entries of the cache stay right
use Rattle.std.proofs.Common.{◌≡◌, ◌<◌, ◌⊎◌, ℕ, zero, suc, Bool, true, false, List, [], ◌∷◌, length, get_or, Option, Some, None, Result, Ok, Err, sym, ap, ◌∙◌, subst, inl, inr, arith}
use Rattle.std.specs.Prelude.{Contains, IfSome, IfNone, OnOk, OnErr}
use Rattle.std.specs.Cmp.{IsEquivalence}
use Rattle.std.proofs.lemmas.Bool.{cases_Bool, cond-true, cond-false}
use Rattle.std.specs.Map.{lookup}
use Rattle.lru.specs.LruCache.{LruCache, lru_cache, promoted, put_entries}
use Rattle.lru.proofs.CallerLemmas.{Contains-promoted, Contains-put_entries, Contains-lookup, lookup-put_entries}
use Rattle.bb_bits.specs.Truth.{quantified}
use Rattle.bb_uniq.specs.declared.store.Ref.{Ref}
use Rattle.bb_uniq.specs.Inside.Nodes.{NodeStore, IsRef}
use Rattle.bb_uniq.specs.Inside.Meaning.{Keeps, truth_of}
use Rattle.bb_dd.specs.declared.key.Key.{Key}
use Rattle.bb_dd.specs.declared.key.Key.TheVariants.{Apply, Quantify}
use Rattle.bb_dd.specs.Inside.Operations.{value_of}
use Rattle.bb_dd.specs.Inside.Results.{IsRight, AreRight, HasOperands, table_of_key, quantifier}
use Rattle.bb_dd.proofs.Halving.{result_kept}

key_kept : (old new : NodeStore) → Keeps old new → (key : Key) → HasOperands old key → HasOperands new key × (table_of_key new key ≡ table_of_key old key)
key_kept old new kept (Apply op f g h) refs =
    ((kept.refs f.0 refs.0, kept.refs g.0 refs.1, kept.refs h.0 refs.2), result_kept old new kept (value_of op) f.0 g.0 h.0 refs.0 refs.1 refs.2)
key_kept old new kept (Quantify all f v) refs = ((kept.refs f.0 refs.0, omega (arith, refs.1, kept.vars)), ap (quantified (quantifier all) v) (kept.tables f.0 refs.0))

-- where more nodes are, an entry stays right
pub IsRight-kept : (old new : NodeStore) → Keeps old new → (e : Key × Ref) → IsRight old e → IsRight new e
IsRight-kept old new kept e right =
    let k = key_kept old new kept e.0 right.operands in
    record { operands = k.0; ref = kept.refs e.1.0 right.ref; table = kept.tables e.1.0 right.ref ∙ (right.table ∙ sym k.1) }

pub AreRight-kept : (old new : NodeStore) → Keeps old new → (entries : List (Key × Ref)) → AreRight old entries → AreRight new entries
AreRight-kept old new kept entries right e c = IsRight-kept old new kept e (right e c)

-- after a look-up the entries are right
pub AreRight-promoted : (s : NodeStore) (test : Key → Bool) (entries : List (Key × Ref)) → AreRight s entries → AreRight s (promoted test entries)
AreRight-promoted s test entries right e c = right e (Contains-promoted test entries e c)

-- what a look-up finds is right
pub IsRight-found : (s : NodeStore) (eq : Key → Key → Bool) → ((a b : Key) → eq a b ≡ true → a ≡ b) → (entries : List (Key × Ref)) (key : Key) (r : Ref) → AreRight s entries → lookup (eq key) entries ≡ Some r → IsRight s (key, r)
IsRight-found s eq same entries key r right found =
    let at = Contains-lookup (eq key) entries r found in
    let k : key ≡ at.0 = same key at.0 at.2 in
    subst (λ (i : Key). IsRight s (i, r)) (sym k) (right (at.0, r) at.1)

-- after a result is put, the entries are right
pub AreRight-put : (s : NodeStore) (eq : Key → Key → Bool) → ((a b : Key) → eq a b ≡ true → a ≡ b) → (cache : LruCache Key Ref) (key : Key) (r : Ref) → AreRight s cache.entries → IsRight s (key, r) →
    AreRight s (put_entries eq cache key r)
AreRight-put s eq same cache key r right fresh e c =
    elim (Contains-put_entries eq cache key r e c) [
      | inl before ↦ right e before
      | inr put ↦
          let k : e.0 ≡ key = elim put.1 [ inl i ↦ i | inr other ↦ sym (same key e.0 other.2) ] in
          subst (λ (i : Ref). IsRight s (e.0, i)) (sym put.0) (subst (λ (i : Key). IsRight s (i, r)) (sym k) fresh)
    ]

-- what a comparison that decides equality keeps
pub equivalence : (eq : Key → Key → Bool) → ((a b : Key) → eq a b ≡ true → a ≡ b) → ((a : Key) → eq a a ≡ true) → IsEquivalence eq
equivalence eq same equal = record {
  refl = equal;
  symm = λ x y. sides x y (cases_Bool (eq x y)) (cases_Bool (eq y x));
  congr = λ x y z h. ap (λ i. eq i z) (same x y h);
}
  where
    turned : (x y : Key) → eq x y ≡ true → eq y x ≡ true
    turned x y h = subst (λ (i : Key). eq i x ≡ true) (same x y h) (equal x)

    sides : (x y : Key) → ((eq x y ≡ true) ⊎ (eq x y ≡ false)) → ((eq y x ≡ true) ⊎ (eq y x ≡ false)) → eq x y ≡ eq y x
    sides x y (inl h) k = h ∙ sym (turned x y h)
    sides x y (inr h) (inl k) = absurd (let f : true ≡ false = sym (turned y x k) ∙ h in cc)
    sides x y (inr h) (inr k) = h ∙ sym k

-- what a look-up says of the entries
pub found_entry : (eq : Key → Key → Bool) → ((a b : Key) → eq a b ≡ true → a ≡ b) → (entries : List (Key × Ref)) (key : Key) (o : Option Ref) → o ≡ lookup (eq key) entries → IfSome o (λ r. Contains entries (key, r))
found_entry eq same entries key None e = tt
found_entry eq same entries key (Some r) e =
    let at = Contains-lookup (eq key) entries r (sym e) in
    let k : key ≡ at.0 = same key at.0 at.2 in
    subst (λ (i : Key). Contains entries (i, r)) (sym k) at.1

absent_entry_at : (eq : Key → Key → Bool) → ((a : Key) → eq a a ≡ true) → (entries : List (Key × Ref)) (key : Key) (r : Ref) (k : ℕ) → lookup (eq key) entries ≡ None → k < length entries → get_or entries k (key, r) ≡ (key, r) → ⊥
absent_entry_at eq equal [] key r k none l e = omega (arith, l)
absent_entry_at eq equal (x ∷ entries) key r zero none l e =
    let k : x.0 ≡ key = ap (λ (p : Key × Ref). p.0) e in
    let t : eq key x.0 ≡ true = ap (eq key) k ∙ equal key in
    let f : Some x.1 ≡ None = sym (cond-true (eq key x.0) (Some x.1) (lookup (eq key) entries) t) ∙ none in
    cc
absent_entry_at eq equal (x ∷ entries) key r (suc k) none l e =
    elim (cases_Bool (eq key x.0)) [
      | inl t ↦ let f : Some x.1 ≡ None = sym (cond-true (eq key x.0) (Some x.1) (lookup (eq key) entries) t) ∙ none in cc
      | inr t ↦ absent_entry_at eq equal entries key r k (sym (cond-false (eq key x.0) (Some x.1) (lookup (eq key) entries) t) ∙ none) (omega (arith, l)) e
    ]

pub absent_entry : (eq : Key → Key → Bool) → ((a : Key) → eq a a ≡ true) → (entries : List (Key × Ref)) (key : Key) (o : Option Ref) → o ≡ lookup (eq key) entries → IfNone o ((r : Ref) → Contains entries (key, r) → ⊥)
absent_entry eq equal entries key None e = λ r c. absent_entry_at eq equal entries key r c.0 (sym e) c.1 c.2
absent_entry eq equal entries key (Some r) e = tt

-- what is found is right
pub right_entry : (s : NodeStore) (eq : Key → Key → Bool) → ((a b : Key) → eq a b ≡ true → a ≡ b) → (entries : List (Key × Ref)) (key : Key) (o : Option Ref) → AreRight s entries → o ≡ lookup (eq key) entries →
    IfSome o (λ r. IsRef s r.0 × (truth_of s r.0 ≡ table_of_key s key))
right_entry s eq same entries key None right e = tt
right_entry s eq same entries key (Some r) right e = let x = IsRight-found s eq same entries key r right (sym e) in (x.ref, x.table)

-- the entries after a result was put, or was not
pub AreRight-after : {T E : Type 0} (s : NodeStore) (eq : Key → Key → Bool) → ((a b : Key) → eq a b ≡ true → a ≡ b) → (old new : LruCache Key Ref) (key : Key) (r : Ref) (o : Result T E) →
    OnOk o (new ≡ lru_cache (put_entries eq old key r) old.cap) → OnErr o (new ≡ old) → AreRight s old.entries → IsRight s (key, r) → AreRight s new.entries
AreRight-after s eq same old new key r (Ok x) put kept right fresh = subst (λ (k : LruCache Key Ref). AreRight s k.entries) (sym put) (AreRight-put s eq same old key r right fresh)
AreRight-after s eq same old new key r (Err x) put kept right fresh = subst (λ (k : LruCache Key Ref). AreRight s k.entries) (sym kept) right

-- what was put is found at once
pub found_after : {T E : Type 0} (eq : Key → Key → Bool) → ((a b : Key) → eq a b ≡ true → a ≡ b) → ((a : Key) → eq a a ≡ true) → (old new : LruCache Key Ref) (key : Key) (r : Ref) (o : Result T E) →
    OnOk o (new ≡ lru_cache (put_entries eq old key r) old.cap) → OnOk o (lookup (eq key) new.entries ≡ Some r)
found_after eq same equal old new key r (Ok x) put =
    ap (λ (k : LruCache Key Ref). lookup (eq key) k.entries) put ∙ lookup-put_entries eq old key r (equivalence eq same equal)
found_after eq same equal old new key r (Err x) put = tt
