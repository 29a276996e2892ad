-- Where each earlier clause is true, so is what a chain makes of them. The empty clause is never true.
use Rattle.std.proofs.Common.{◌≡◌, zero, suc, IfSome, ◌-◌, ℕ, Bool, true, false, not, ◌&&◌, ◌||◌, if◌then◌else◌, Option, Some, None, IsSomeAnd, option_and_then, List, [], ◌∷◌, ◌++◌, length, map, slice_get, All, Any, refl, sym, ◌∙◌, ap, arith}
use Rattle.std.specs.List.{list_any}
use Rattle.std.proofs.lemmas.List.Elements.{All-head, All-tail, All-push, All-map, All-weaker}
use Rattle.std.proofs.lemmas.List.Folds.{list_any-from_Any, Any-from_list_any}
use Rattle.bb_cnf.proofs.Literals.{same_literal-is, same_literal-itself}
use Rattle.bb_cnf.specs.declared.clauses.Lit.{Lit}
use Rattle.bb_cnf.specs.declared.refutation.Step.{Step}
use Rattle.bb_cnf.specs.Clauses.{Literals, literals_of, positive, negated, same_literal}
use Rattle.bb_cnf.specs.Chains.{resolvent, resolution, chain, made_by, derived, IsEmpty, EndsEmpty, IsRefutation}
use Rattle.bb_cnf.specs.Truth.{literal_bit, IsTrueClause, Satisfies, IsTrueUnder, HaveNoModel}
use Rattle.bb_cnf.specs.Laws.{SoundnessLaws}

-- a literal of c is true, and it is not m: it is in the resolvent
pub from_current : (v : ℕ → Bool) (c d : Literals) (m n : Lit) (w : IsTrueUnder v c) → same_literal m w.literal ≡ false → IsTrueUnder v (resolvent c d m n)
from_current v c d m n w other = record { literal = w.literal; member = grind (arith, w.member, other); holds = w.holds }

pub from_named : (v : ℕ → Bool) (c d : Literals) (m n : Lit) (w : IsTrueUnder v d) → same_literal n w.literal ≡ false → IsTrueUnder v (resolvent c d m n)
from_named v c d m n w other = record { literal = w.literal; member = grind (arith, w.member, other); holds = w.holds }

-- literals that are the same have one bit
pub bit_of-same : (v : ℕ → Bool) (a b : Lit) → same_literal a b ≡ true → literal_bit v a ≡ literal_bit v b
bit_of-same v a b same = ap (literal_bit v) (same_literal-is a b same)

pub resolvent_true : (v : ℕ → Bool) (c d : Literals) (m n : Lit) → (literal_bit v m ≡ true → literal_bit v n ≡ false)
    → IsTrueUnder v c → IsTrueUnder v d → IsTrueUnder v (resolvent c d m n)
resolvent_true v c d m n opposite w u =
    elim (same_literal m w.literal) as (λ b. same_literal m w.literal ≡ b → IsTrueUnder v (resolvent c d m n)) [
      | false ↦ λ other. from_current v c d m n w other
      | true ↦ λ same. elim (same_literal n u.literal) as (λ b. same_literal n u.literal ≡ b → IsTrueUnder v (resolvent c d m n)) [
        | false ↦ λ other. from_named v c d m n u other
        | true ↦ λ alike.
            let taken : literal_bit v m ≡ true = bit_of-same v m w.literal same ∙ w.holds in
            let left : literal_bit v n ≡ true = bit_of-same v n u.literal alike ∙ u.holds in
            let clash : false ≡ true = sym (opposite taken) ∙ left in
            cc
      ] refl
    ] refl

pub opposite_positive : (v : ℕ → Bool) (x : ℕ) → literal_bit v (positive x) ≡ true → literal_bit v (negated x) ≡ false
opposite_positive v x h = ap not h

pub opposite_negated : (v : ℕ → Bool) (x : ℕ) → literal_bit v (negated x) ≡ true → literal_bit v (positive x) ≡ false
opposite_negated v x h = grind arith

pub choice_true : (P : Literals → Type 0) (b : Bool) (e : Literals) (o : Option Literals) → P e → IfSome o P → IfSome (if b then Some e else o) P
choice_true P true e o p q = p
choice_true P false e o p q = q

pub resolution_true : (v : ℕ → Bool) (c d : Literals) (x : ℕ) → IsTrueUnder v c → IsTrueUnder v d → IfSome (resolution c d x) (IsTrueUnder v)
resolution_true v c d x w u =
    choice_true (IsTrueUnder v) (c (positive x) && d (negated x)) _ _ (resolvent_true v c d (positive x) (negated x) (opposite_positive v x) w u)
    (choice_true (IsTrueUnder v) (c (negated x) && d (positive x)) _ None (resolvent_true v c d (negated x) (positive x) (opposite_negated v x) w u) tt)

pub IfSome-and_then : {A B : Type 0} (P : A → Type 0) (Q : B → Type 0) (f : A → Option B) (o : Option A)
    → IfSome o P → ((a : A) → P a → IfSome (f a) Q) → IfSome (option_and_then f o) Q
IfSome-and_then P Q f None p step = tt
IfSome-and_then P Q f (Some a) p step = step a p

pub IfSome-slice_get : {A : Type 0} (P : A → Type 0) (xs : List A) (n : ℕ) → All P xs → IfSome (slice_get xs n) P
IfSome-slice_get P [] n all = tt
IfSome-slice_get P (x ∷ xs) zero all = All-head P x xs all
IfSome-slice_get P (x ∷ xs) (suc n) all = IfSome-slice_get P xs n (All-tail P x xs all)

pub chain_true : (v : ℕ → Bool) (earlier : List Literals) → All (IsTrueUnder v) earlier → (rest : List (ℕ × ℕ)) (c : Literals) → IsTrueUnder v c
    → IfSome (chain earlier c rest) (IsTrueUnder v)
chain_true v earlier all [] c w = w
chain_true v earlier all (pair ∷ rest) c w =
    IfSome-and_then (IsTrueUnder v) (IsTrueUnder v) _ (slice_get earlier pair.0) (IfSome-slice_get (IsTrueUnder v) earlier pair.0 all) (λ d u.
    IfSome-and_then (IsTrueUnder v) (IsTrueUnder v) _ (resolution c d pair.1) (resolution_true v c d pair.1 w u) (λ e t. chain_true v earlier all rest e t))

pub derived_true : (v : ℕ → Bool) (steps : List Step) (earlier : List Literals) → All (IsTrueUnder v) earlier
    → IfSome (derived earlier steps) (All (IsTrueUnder v))
derived_true v [] earlier all = all
derived_true v (step ∷ steps) earlier all =
    IfSome-and_then (IsTrueUnder v) (All (IsTrueUnder v)) _ (made_by earlier step)
    (IfSome-and_then (IsTrueUnder v) (IsTrueUnder v) _ (slice_get earlier step.first) (IfSome-slice_get (IsTrueUnder v) earlier step.first all)
    (λ c w. chain_true v earlier all step.rest.items c w))
    (λ c w. derived_true v steps (earlier ++ c ∷ []) (All-push (IsTrueUnder v) earlier c all w))

pub given_true : (v : ℕ → Bool) (c : List Lit) → list_any (literal_bit v) c ≡ true → IsTrueUnder v (literals_of c)
given_true v [] any = absurd (let clash : false ≡ true = any in cc)
given_true v (l ∷ c) any =
    elim (literal_bit v l) as (λ b. literal_bit v l ≡ b → (b || list_any (literal_bit v) c) ≡ true → IsTrueUnder v (literals_of (l ∷ c))) [
      | true ↦ λ here _. record { literal = l; member = ap (λ b. b || list_any (λ m. same_literal m l) c) (same_literal-itself l); holds = here }
      | false ↦ λ _ rest. let w = given_true v c rest in
          record { literal = w.literal; member = grind (arith, w.member); holds = w.holds }
    ] refl any

pub all_given_true : (v : ℕ → Bool) (clauses : List (List Lit)) → Satisfies v clauses → All (IsTrueUnder v) (map literals_of clauses)
all_given_true v clauses all =
    All-map (IsTrueUnder v) literals_of clauses
    (All-weaker (Any (λ l. literal_bit v l ≡ true)) (λ c. IsTrueUnder v (literals_of c)) (λ c any. given_true v c (list_any-from_Any (literal_bit v) c any)) clauses all)

pub not_both : {A : Type 0} (P Q : A → Type 0) (o : Option A) → IsSomeAnd o P → IfSome o Q → ((a : A) → P a → Q a → ⊥) → ⊥
not_both P Q None p q clash = p
not_both P Q (Some a) p q clash = clash a p q

pub not_empty : (v : ℕ → Bool) (c : Literals) → IsEmpty c → IsTrueUnder v c → ⊥
not_empty v c empty w = let clash : false ≡ true = sym (empty w.literal) ∙ w.member in cc

pub refutations_are_sound : (clauses : List (List Lit)) (steps : List Step) → IsRefutation clauses steps → HaveNoModel clauses
refutations_are_sound clauses steps refutation v solves =
    not_both EndsEmpty (All (IsTrueUnder v)) (derived (map literals_of clauses) steps) refutation.1
    (derived_true v steps (map literals_of clauses) (all_given_true v clauses solves))
    (λ all ends true_all. not_both IsEmpty (IsTrueUnder v) (slice_get all (length all - 1)) ends
    (IfSome-slice_get (IsTrueUnder v) all (length all - 1) true_all) (not_empty v))

true_given : (v : ℕ → Bool) (lits : List Lit) (l : Lit) → literals_of lits l ≡ true → literal_bit v l ≡ true → IsTrueClause v lits
true_given v lits l member holds =
    let found = Any-from_list_any (λ m. same_literal m l) lits member in
    (found.0, found.1, found.2, found.3, bit_of-same v found.1 l found.4 ∙ holds)

pub soundness_laws : SoundnessLaws
soundness_laws = record {
  clause = λ v lits. (λ w. true_given v lits w.literal w.member w.holds, λ any. given_true v lits (list_any-from_Any (literal_bit v) lits any));
  resolvent = resolution_true;
  chain = chain_true;
  derived = derived_true;
  refutation = refutations_are_sound;
}
