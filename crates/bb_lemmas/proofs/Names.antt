-- Names are compared byte by byte, so a test of names is their equality.
use Rattle.std.proofs.Common.{if◌then◌else◌, ◌++◌, ◌||◌, ◌∙◌, ◌∷◌, ◌≡◌, Bool, List, [], ap, false, refl, subst, sym, true, ℕ, ◌≢◌, ◌+◌, zero, suc, cond, Some, AllPairs, arith}
use Rattle.std.specs.List.{list_any}
use Rattle.std.proofs.lemmas.List.Folds.{list_any-append}
use Rattle.std.proofs.lemmas.Slice.Eq.{bytes_eq-Decides}
use Rattle.bb_bits.specs.Names.{same_name, placed}
use Rattle.bb_lemmas.proofs.Maps.{both, or-false}
use Rattle.indexmap.specs.IndexSet.{insert_key}
use Rattle.std.specs.Prelude.{slice_get}
use Rattle.std.specs.Map.{lookup}
use Rattle.bb_lemmas.proofs.Apart.{pairs_tail}
use Rattle.bb_lemmas.proofs.Places.{got}

pub same_equal : (a b : List ℕ) → same_name a b ≡ true → a ≡ b
same_equal a b = (bytes_eq-Decides a b).0

pub same_self : (a : List ℕ) → same_name a a ≡ true
same_self a = (bytes_eq-Decides a a).1 refl

pub same_turned : (a b : List ℕ) → same_name a b ≡ same_name b a
same_turned a b = both (same_name a b) (same_name b a) (λ h. subst (λ x. same_name x a ≡ true) (same_equal a b h) (same_self a)) (λ h. subst (λ x. same_name x b ≡ true) (same_equal b a h) (same_self b))

-- what is among the keys after an insertion
pub any-inserted : (n : List ℕ) (keys : List (List ℕ)) (k : List ℕ) → list_any (same_name n) (insert_key same_name keys k) ≡ (list_any (same_name n) keys || same_name n k)
any-inserted n keys k = by (list_any (same_name k) keys) refl (same_name n k) refl
  where
    or-true : (b : Bool) → b ≡ true → b ≡ (b || true)
    or-true true e = refl
    or-true false e = e

    by : (a : Bool) → list_any (same_name k) keys ≡ a → (b : Bool) → same_name n k ≡ b → list_any (same_name n) (if a then keys else keys ++ k ∷ []) ≡ (list_any (same_name n) keys || b)
    by true e true f = or-true (list_any (same_name n) keys) (ap (λ x. list_any (same_name x) keys) (same_equal n k f) ∙ e)
    by true e false f = sym (or-false (list_any (same_name n) keys))
    by false e b f = list_any-append (same_name n) keys (k ∷ []) ∙ ap (λ x. list_any (same_name n) keys || x) (or-false (same_name n k) ∙ f)

-- the name that is found at a place is there
pub place-holds : (names : List (List ℕ)) (s : ℕ) (n : List ℕ) (k : ℕ) → lookup (same_name n) (placed s names) ≡ Some k → (d : ℕ) × (k ≡ s + d) × (slice_get names d ≡ Some n)
place-holds [] s n k e = cc
place-holds (m ∷ ms) s n k e = by (same_name n m) refl e (place-holds ms (s + 1) n k)
  where
    by : (b : Bool) → same_name n m ≡ b → cond b (Some s) (lookup (same_name n) (placed (s + 1) ms)) ≡ Some k
        → (lookup (same_name n) (placed (s + 1) ms) ≡ Some k → (d : ℕ) × (k ≡ (s + 1) + d) × (slice_get ms d ≡ Some n)) → (d : ℕ) × (k ≡ s + d) × (slice_get (m ∷ ms) d ≡ Some n)
    by true same h rest = let is : s ≡ k = grind (arith, h) in (0, omega (arith, is), ap Some (sym (same_equal n m same)))
    by false other h rest = let r = rest h in (suc r.0, omega (arith, r.1), r.2)

-- where names differ, a name is found at its place
pub holds-place : (names : List (List ℕ)) (s : ℕ) (n : List ℕ) (d : ℕ) → AllPairs ◌≢◌ names → slice_get names d ≡ Some n → lookup (same_name n) (placed s names) ≡ Some (s + d)
holds-place [] s n d apart e = cc
holds-place (m ∷ ms) s n zero apart e =
    let is : m ≡ n = grind (arith, e) in
    ap (λ b. cond b (Some s) (lookup (same_name n) (placed (s + 1) ms))) (ap (same_name n) is ∙ same_self n) ∙ ap Some (plus-zero s)
  where
    plus-zero : (s : ℕ) → s ≡ s + 0
    plus-zero s = omega arith
holds-place (m ∷ ms) s n (suc d) apart e = by (same_name n m) refl (holds-place ms (s + 1) n d (pairs_tail ◌≢◌ m ms apart) e)
  where
    plus-suc : (s d : ℕ) → (s + 1) + d ≡ s + suc d
    plus-suc s d = omega arith

    by : (b : Bool) → same_name n m ≡ b → lookup (same_name n) (placed (s + 1) ms) ≡ Some ((s + 1) + d) → cond b (Some s) (lookup (same_name n) (placed (s + 1) ms)) ≡ Some (s + suc d)
    by true same rest = let at = got ms d n m e in absurd (apart 0 (suc d) m (omega arith) (omega (arith, at.0)) (sym (same_equal n m same) ∙ sym at.1))
    by false other rest = rest ∙ ap Some (plus-suc s d)
