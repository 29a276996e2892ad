-- the tables of the Refs of one store
use Rattle.std.proofs.Common.{◌≡◌, ◌≢◌, ◌≤◌, ◌<◌, ◌⊎◌, ℕ, zero, suc, ◌+◌, ◌==◌, true, false, List, [], ◌∷◌, length, Option, Some, None, refl, sym, ap, ap₂, ◌∙◌, inl, inr, arith, eqb, zero-add, suc-add}
use Rattle.std.specs.Prelude.{MatchOption, slice_get}
use Rattle.std.proofs.lemmas.Bool.{cases_eq, eq-eqb, ne_eqb, cond_both, cond-true, cond-false}
use Rattle.std.proofs.lemmas.Option.{slice_get_within}
use Rattle.bb_bits.specs.Truth.{Truth, Bit, Halves, IsTruthTable, lifted}
use Rattle.bb_uniq.specs.declared.store.Node.{Node}
use Rattle.bb_uniq.specs.Inside.Nodes.{NodeStore, node_at, IsRef, IsBelow, IsStore}
use Rattle.bb_uniq.specs.Inside.Meaning.{halves_by, table_of}

pub option_cases : {X : Type 0} (o : Option X) → (o ≡ None) ⊎ ((x : X) × (o ≡ Some x))
option_cases None = inl refl
option_cases (Some x) = inr (x, refl)

pub match_weaker : {X : Type 0} (o : Option X) (P : Type 0) (Q R : X → Type 0) → ((x : X) → o ≡ Some x → Q x → R x) → MatchOption o P Q → MatchOption o P R
match_weaker None P Q R f h = h
match_weaker (Some x) P Q R f h = f x refl h

pub match_none : {X : Type 0} (o : Option X) (P : Type 0) (Q : X → Type 0) → o ≡ None → MatchOption o P Q → P
match_none o P Q e h = rw e at h

pub match_some : {X : Type 0} (o : Option X) (P : Type 0) (Q : X → Type 0) (x : X) → o ≡ Some x → MatchOption o P Q → Q x
match_some o P Q x e h = rw e at h

pub match_from_none : {X : Type 0} (o : Option X) (P : Type 0) (Q : X → Type 0) → o ≡ None → P → MatchOption o P Q
match_from_none o P Q e h = rw e h

pub match_from_some : {X : Type 0} (o : Option X) (P : Type 0) (Q : X → Type 0) (x : X) → o ≡ Some x → Q x → MatchOption o P Q
match_from_some o P Q x e h = rw e h

-- it depends on the last m variables alone
abbrev pub IsWithin : NodeStore → ℕ → ℕ → Type 0
IsWithin s m r = MatchOption (node_at s.nodes r) (r < 2) (λ node. s.vars ≤ node.var + m)

abbrev pub table : NodeStore → ℕ → ℕ → Truth
table s m r = table_of s.nodes s.vars m r

pub table-zero : (s : NodeStore) (r : ℕ) → table s zero r ≡ Bit (r == 1)
unfolding table_of
table-zero s r = refl

pub table-suc : (s : NodeStore) (m r : ℕ) → table s (suc m) r ≡ halves_by s.vars m r (table s m) (node_at s.nodes r)
unfolding table_of
table-suc s m r = refl

-- with no node of that variable, the table of the Ref twice
pub table-none : (s : NodeStore) (m r : ℕ) → node_at s.nodes r ≡ None → table s (suc m) r ≡ Halves (table s m r) (table s m r)
table-none s m r e = table-suc s m r ∙ ap (halves_by s.vars m r (table s m)) e

pub table-here : (s : NodeStore) (m r : ℕ) (node : Node) → node_at s.nodes r ≡ Some node → node.var + suc m ≡ s.vars → table s (suc m) r ≡ Halves (table s m node.lo) (table s m node.hi)
table-here s m r node e same =
    table-suc s m r ∙ (ap (halves_by s.vars m r (table s m)) e ∙ cond-true (eqb (node.var + suc m) s.vars) (Halves (table s m node.lo) (table s m node.hi)) (Halves (table s m r) (table s m r)) (eq-eqb (node.var + suc m) s.vars same))

pub table-other : (s : NodeStore) (m r : ℕ) (node : Node) → node_at s.nodes r ≡ Some node → (node.var + suc m ≡ s.vars → ⊥) → table s (suc m) r ≡ Halves (table s m r) (table s m r)
table-other s m r node e other =
    table-suc s m r ∙ (ap (halves_by s.vars m r (table s m)) e ∙ cond-false (eqb (node.var + suc m) s.vars) (Halves (table s m node.lo) (table s m node.hi)) (Halves (table s m r) (table s m r)) (ne_eqb (node.var + suc m) s.vars other))

pub ref_node : (nodes : List Node) (r : ℕ) → r < length nodes + 2 → node_at nodes r ≡ None → r < 2
ref_node nodes zero h e = omega arith
ref_node nodes (suc zero) h e = omega arith
ref_node nodes (suc (suc k)) h e =
    elim (option_cases (slice_get nodes k)) [
      | inl none ↦ absurd (past nodes k (omega (arith, h)) none)
      | inr some ↦ absurd (let f : Some some.0 ≡ None = sym some.1 ∙ e in cc)
    ]
  where
    past : (xs : List Node) (i : ℕ) → i < length xs → slice_get xs i ≡ None → ⊥
    past [] i l e = omega (arith, l)
    past (x ∷ xs) zero l e = cc
    past (x ∷ xs) (suc i) l e = past xs i (omega (arith, l)) e

pub node_ref : (nodes : List Node) (r : ℕ) (node : Node) → node_at nodes r ≡ Some node → r < length nodes + 2
node_ref nodes zero node e = omega arith
node_ref nodes (suc zero) node e = omega arith
node_ref nodes (suc (suc k)) node e = let l = slice_get_within nodes k node e in omega (arith, l)

pub within_from_ref : (s : NodeStore) (r : ℕ) → IsRef s r → IsWithin s s.vars r
within_from_ref s r h =
    elim (option_cases (node_at s.nodes r)) [
      | inl none ↦ match_from_none (node_at s.nodes r) (r < 2) (λ node. s.vars ≤ node.var + s.vars) none (ref_node s.nodes r h none)
      | inr some ↦ match_from_some (node_at s.nodes r) (r < 2) (λ node. s.vars ≤ node.var + s.vars) some.0 some.1 (omega arith)
    ]

pub ref_from_within : (s : NodeStore) (m r : ℕ) → IsWithin s m r → IsRef s r
ref_from_within s m r h =
    elim (option_cases (node_at s.nodes r)) [
      | inl none ↦ let l = match_none (node_at s.nodes r) (r < 2) (λ node. s.vars ≤ node.var + m) none h in omega (arith, l)
      | inr some ↦ node_ref s.nodes r some.0 some.1
    ]

pub within_from_below : (s : NodeStore) (m v r : ℕ) → v + suc m ≡ s.vars → IsBelow s v r → IsWithin s m r
within_from_below s m v r e h = match_weaker (node_at s.nodes r) (r < 2) (λ node. v < node.var) (λ node. s.vars ≤ node.var + m) (λ node _ l. omega (arith, l, e)) h

pub below_from_within : (s : NodeStore) (m v r : ℕ) → v + suc m ≡ s.vars → IsWithin s m r → IsBelow s v r
below_from_within s m v r e h = match_weaker (node_at s.nodes r) (r < 2) (λ node. s.vars ≤ node.var + m) (λ node. v < node.var) (λ node _ l. omega (arith, l, e)) h

pub within_more : (s : NodeStore) (k m r : ℕ) → IsWithin s m r → IsWithin s (k + m) r
within_more s k m r h = match_weaker (node_at s.nodes r) (r < 2) (λ node. s.vars ≤ node.var + m) (λ node. s.vars ≤ node.var + (k + m)) (λ node _ l. omega (arith, l)) h

-- at the variable of which m follow is the node, or nothing depends on it
pub data Shape (s : NodeStore) (m r : ℕ) : Type 0 where
  Here : (node : Node) → node_at s.nodes r ≡ Some node → node.var + suc m ≡ s.vars → table s (suc m) r ≡ Halves (table s m node.lo) (table s m node.hi) →
      IsWithin s m node.lo → IsWithin s m node.hi → node.lo ≢ node.hi → Shape s m r
  Later : IsWithin s m r → table s (suc m) r ≡ Halves (table s m r) (table s m r) → Shape s m r

pub shape_of : (s : NodeStore) → IsStore s → (m r : ℕ) → IsWithin s (suc m) r → Shape s m r
shape_of s h m r w =
    elim (option_cases (node_at s.nodes r)) [
      | inl none ↦ Later (match_from_none (node_at s.nodes r) (r < 2) (λ node. s.vars ≤ node.var + m) none (match_none (node_at s.nodes r) (r < 2) (λ node. s.vars ≤ node.var + suc m) none w)) (table-none s m r none)
      | inr some ↦
          let node = some.0 in
          let bound : s.vars ≤ node.var + suc m = match_some (node_at s.nodes r) (r < 2) (λ node. s.vars ≤ node.var + suc m) node some.1 w in
          elim (cases_eq (node.var + suc m) s.vars) [
            | inl same ↦
                let children = h.below r node some.1 in
                Here node some.1 same (table-here s m r node some.1 same)
                (within_from_below s m node.var node.lo same children.0) (within_from_below s m node.var node.hi same children.1) (h.reduced r node some.1)
            | inr other ↦
                Later (match_from_some (node_at s.nodes r) (r < 2) (λ node. s.vars ≤ node.var + m) node some.1 (omega (arith, bound, other))) (table-other s m r node some.1 other)
          ]
    ]

pub table-later : (s : NodeStore) (m r : ℕ) → IsWithin s m r → table s (suc m) r ≡ Halves (table s m r) (table s m r)
table-later s m r w =
    elim (option_cases (node_at s.nodes r)) [
      | inl none ↦ table-none s m r none
      | inr some ↦
          let bound : s.vars ≤ some.0.var + m = match_some (node_at s.nodes r) (r < 2) (λ node. s.vars ≤ node.var + m) some.0 some.1 w in
          table-other s m r some.0 some.1 (λ e. omega (arith, bound, e))
    ]

pub IsTruthTable-table : (s : NodeStore) (m r : ℕ) → IsTruthTable m (table s m r)
IsTruthTable-table s zero r = rw (table-zero s r) tt
IsTruthTable-table s (suc m) r = rw (table-suc s m r) (both (IsTruthTable-table s m) (node_at s.nodes r))
  where
    both : ((q : ℕ) → IsTruthTable m (table s m q)) → (o : Option Node) → IsTruthTable (suc m) (halves_by s.vars m r (table s m) o)
    both h None = (h r, h r)
    both h (Some node) = cond_both (eqb (node.var + suc m) s.vars) (Halves (table s m node.lo) (table s m node.hi)) (Halves (table s m r) (table s m r)) (IsTruthTable (suc m))
        (λ _. (h node.lo, h node.hi)) (λ _. (h r, h r))

leaf_from_within : (s : NodeStore) → IsStore s → (r : ℕ) → IsWithin s zero r → r < 2
leaf_from_within s h r w =
    elim (option_cases (node_at s.nodes r)) [
      | inl none ↦ match_none (node_at s.nodes r) (r < 2) (λ node. s.vars ≤ node.var + 0) none w
      | inr some ↦
          let bound : s.vars ≤ some.0.var + 0 = match_some (node_at s.nodes r) (r < 2) (λ node. s.vars ≤ node.var + 0) some.0 some.1 w in
          let inside = h.vars r some.0 some.1 in
          absurd (omega (arith, bound, inside))
    ]

leaf_same : (r q : ℕ) → r < 2 → q < 2 → Bit (r == 1) ≡ Bit (q == 1) → r ≡ q
leaf_same zero zero h k e = refl
leaf_same zero (suc zero) h k e = absurd (let f : false ≡ true = cc in cc)
leaf_same (suc zero) zero h k e = absurd (let f : true ≡ false = cc in cc)
leaf_same (suc zero) (suc zero) h k e = refl
leaf_same (suc (suc r)) q h k e = absurd (omega (arith, h))
leaf_same zero (suc (suc q)) h k e = absurd (omega (arith, k))
leaf_same (suc zero) (suc (suc q)) h k e = absurd (omega (arith, k))

same_fields : (a b : Node) → a.var ≡ b.var → a.lo ≡ b.lo → a.hi ≡ b.hi → a ≡ b
same_fields a b v l h = rw (v, l, h) refl

-- Refs with one table are one Ref
pub canonical : (s : NodeStore) → IsStore s → (m r q : ℕ) → IsWithin s m r → IsWithin s m q → table s m r ≡ table s m q → r ≡ q
canonical s h zero r q w x e = leaf_same r q (leaf_from_within s h r w) (leaf_from_within s h q x) (sym (table-zero s r) ∙ (e ∙ table-zero s q))
canonical s h (suc m) r q w x e = by_shape (canonical s h m) (shape_of s h m r w) (shape_of s h m q x)
  where
    by_shape : ((a b : ℕ) → IsWithin s m a → IsWithin s m b → table s m a ≡ table s m b → a ≡ b) → Shape s m r → Shape s m q → r ≡ q
    by_shape again (Here a at_a var_a table_a lo_a hi_a differs_a) (Here b at_b var_b table_b lo_b hi_b differs_b) =
        let halves : Halves (table s m a.lo) (table s m a.hi) ≡ Halves (table s m b.lo) (table s m b.hi) = sym table_a ∙ (e ∙ table_b) in
        let lo_same : table s m a.lo ≡ table s m b.lo = cc in
        let hi_same : table s m a.hi ≡ table s m b.hi = cc in
        let same = same_fields a b (omega (arith, var_a, var_b)) (again a.lo b.lo lo_a lo_b lo_same) (again a.hi b.hi hi_a hi_b hi_same) in
        h.unique r q b (at_a ∙ ap Some same) at_b
    by_shape again (Here a at_a var_a table_a lo_a hi_a differs_a) (Later below table_b) =
        let halves : Halves (table s m a.lo) (table s m a.hi) ≡ Halves (table s m q) (table s m q) = sym table_a ∙ (e ∙ table_b) in
        let same : table s m a.lo ≡ table s m a.hi = cc in
        absurd (differs_a (again a.lo a.hi lo_a hi_a same))
    by_shape again (Later below table_a) (Here b at_b var_b table_b lo_b hi_b differs_b) =
        let halves : Halves (table s m r) (table s m r) ≡ Halves (table s m b.lo) (table s m b.hi) = sym table_a ∙ (e ∙ table_b) in
        let same : table s m b.lo ≡ table s m b.hi = cc in
        absurd (differs_b (again b.lo b.hi lo_b hi_b same))
    by_shape again (Later below table_a) (Later below_b table_b) =
        let halves : Halves (table s m r) (table s m r) ≡ Halves (table s m q) (table s m q) = sym table_a ∙ (e ∙ table_b) in
        let same : table s m r ≡ table s m q = cc in
        again r q below below_b same

-- variables before those that it depends on
pub table-lifted : (s : NodeStore) (k m r : ℕ) → IsWithin s m r → table s (k + m) r ≡ lifted k (table s m r)
table-lifted s zero m r w = rw zero-add
table-lifted s (suc k) m r w =
    let e = table-lifted s k m r w in
    let later = table-later s (k + m) r (within_more s k m r w) in
    rw suc-add (later ∙ ap₂ Halves e e)

-- and the other way: a table in which nothing depends on the first k variables
pub settled : (s : NodeStore) → IsStore s → (k m r : ℕ) (t : Truth) → IsWithin s (k + m) r → table s (k + m) r ≡ lifted k t → IsWithin s m r × (table s m r ≡ t)
settled s h zero m r t w e = (rw zero-add at w, rw zero-add at e)
settled s h (suc k) m r t w e =
    let w' : IsWithin s (suc (k + m)) r = rw suc-add at w in
    let e' : table s (suc (k + m)) r ≡ Halves (lifted k t) (lifted k t) = rw suc-add at e in
    by_shape e' (settled s h k m r t) (shape_of s h (k + m) r w')
  where
    by_shape : table s (suc (k + m)) r ≡ Halves (lifted k t) (lifted k t) → (IsWithin s (k + m) r → table s (k + m) r ≡ lifted k t → IsWithin s m r × (table s m r ≡ t)) → Shape s (k + m) r → IsWithin s m r × (table s m r ≡ t)
    by_shape e' again (Here node at var tab lo hi differs) =
        let halves : Halves (table s (k + m) node.lo) (table s (k + m) node.hi) ≡ Halves (lifted k t) (lifted k t) = sym tab ∙ e' in
        let same : table s (k + m) node.lo ≡ table s (k + m) node.hi = cc in
        absurd (differs (canonical s h (k + m) node.lo node.hi lo hi same))
    by_shape e' again (Later below tab) =
        let halves : Halves (table s (k + m) r) (table s (k + m) r) ≡ Halves (lifted k t) (lifted k t) = sym tab ∙ e' in
        let same : table s (k + m) r ≡ lifted k t = cc in
        again below same
