-- assignments, and models as lists of bits
use Rattle.std.proofs.Common.{◌≡◌, ◌≤◌, ◌<◌, ℕ, zero, suc, Bool, false, not, List, [], ◌∷◌, ◌++◌, length, map, get_or, All, refl, sym, ap, ◌∙◌, subst, arith, cond}
use Rattle.std.specs.List.{range_with_len}
use Rattle.std.proofs.lemmas.List.{length-map}
use Rattle.std.proofs.lemmas.List.Elements.{All-append, All-head, All-tail, All-nil, All-cons, All-contains}
use Rattle.std.proofs.lemmas.List.FromFn.{get_or-map-range_with_len, length-range_with_len}
use Rattle.bb_cnf.specs.declared.clauses.Lit.{Lit}
use Rattle.bb_cnf.specs.Clauses.{HasVariablesWithin}
use Rattle.bb_cnf.specs.Truth.{literal_bit, Satisfies, assignment_of, IsTrueClause}
use Rattle.bb_cnf.specs.Laws.{ModelLaws}

-- assignments that agree from 1 to n
abbrev Agree : ℕ → (ℕ → Bool) → (ℕ → Bool) → Type 0
Agree n v w = (x : ℕ) → 1 ≤ x → x ≤ n → v x ≡ w x

bit_of-agree : (v w : ℕ → Bool) (n : ℕ) → Agree n v w → (l : Lit) → (1 ≤ l.var) × (l.var ≤ n) → literal_bit v l ≡ literal_bit w l
bit_of-agree v w n agree l within = let e = agree l.var within.0 within.1 in ap (λ b. cond l.neg (not b) b) e

satisfies_agree : (v w : ℕ → Bool) (n : ℕ) → Agree n v w → (clauses : List (List Lit)) → HasVariablesWithin n clauses → Satisfies v clauses → Satisfies w clauses
satisfies_agree v w n agree clauses within solves k d l =
    let t = solves k d l in
    let inside = subst (λ (m : Lit). (1 ≤ m.var) × (m.var ≤ n)) t.3 (within k d l t.0 t.1 t.2) in
    (t.0, t.1, t.2, t.3, sym (bit_of-agree v w n agree t.1 inside) ∙ t.4)

both : {A : Type 0} (P : A → Type 0) (xs ys : List A) → All P (xs ++ ys) → All P xs × All P ys
both P [] ys all = (All-nil P, all)
both P (x ∷ xs) ys all = let rest = both P xs ys (All-tail P x (xs ++ ys) all) in (All-cons P x xs (All-head P x (xs ++ ys) all) rest.0, rest.1)

get_or-prefix : (bits more : List Bool) (k : ℕ) → k < length bits → get_or (bits ++ more) k false ≡ get_or bits k false
get_or-prefix [] more k l = absurd (omega (arith, l))
get_or-prefix (b ∷ bits) more zero l = refl
get_or-prefix (b ∷ bits) more (suc k) l = get_or-prefix bits more k (omega (arith, l))

longer_agrees : (bits more : List Bool) → Agree (length bits) (assignment_of (bits ++ more)) (assignment_of bits)
longer_agrees bits more zero least most = absurd (omega (arith, least))
longer_agrees bits more (suc k) least most = get_or-prefix bits more k (omega (arith, most))

-- the bits of an assignment from 1 to n
bits_of : (ℕ → Bool) → ℕ → List Bool
bits_of v n = map (λ k. v (suc k)) (range_with_len 0 n)

bits_agree : (v : ℕ → Bool) (n : ℕ) → Agree n v (assignment_of (bits_of v n))
unfolding bits_of
bits_agree v n zero least most = absurd (omega (arith, least))
bits_agree v n (suc k) least most = sym (get_or-map-range_with_len (λ i. v (suc i)) 0 n k k false (omega (arith, most)) (omega arith))

length-bits_of : (v : ℕ → Bool) (n : ℕ) → length (bits_of v n) ≡ n
unfolding bits_of
length-bits_of v n = length-map (range_with_len 0 n) (λ k. v (suc k)) ∙ length-range_with_len 0 n

pub model_laws : ModelLaws
model_laws = record {
  both_lists = λ v first second. (λ all. both (IsTrueClause v) first second all, λ p. All-append (IsTrueClause v) first second p.0 p.1);
  fewer_clauses = λ v clauses more all solves k d l. All-contains (IsTrueClause v) more (get_or clauses k d) solves (all k d l);
  longer_list = λ bits more clauses within. (
    λ solves. satisfies_agree (assignment_of (bits ++ more)) (assignment_of bits) (length bits) (longer_agrees bits more) clauses within solves,
    λ solves. satisfies_agree (assignment_of bits) (assignment_of (bits ++ more)) (length bits) (λ x least most. sym (longer_agrees bits more x least most)) clauses within solves,
  );
  has_list = λ v formula within solves. (
    bits_of v formula.vars,
    (length-bits_of v formula.vars, satisfies_agree v (assignment_of (bits_of v formula.vars)) formula.vars (bits_agree v formula.vars) formula.clauses within solves),
  );
}
