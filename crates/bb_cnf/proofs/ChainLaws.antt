-- chains and lists of steps, in parts and with more clauses after the earlier ones
use Rattle.std.proofs.Common.{◌≡◌, ℕ, Option, Some, None, option_and_then, List, [], ◌∷◌, ◌++◌, slice_get, refl, ap, ◌∙◌}
use Rattle.bb_lemmas.proofs.Places.{got_left}
use Rattle.bb_cnf.specs.declared.refutation.Step.{Step}
use Rattle.bb_cnf.specs.Clauses.{Literals}
use Rattle.bb_cnf.specs.Chains.{resolution, chain, made_by, derived}
use Rattle.bb_cnf.specs.Laws.{ChainLaws}

-- one after another, and a third
and_then_nested : {A B C : Type 0} (f : A → Option B) (g : B → Option C) (o : Option A) → option_and_then (λ a. option_and_then g (f a)) o ≡ option_and_then g (option_and_then f o)
and_then_nested f g None = refl
and_then_nested f g (Some a) = refl

and_then_same : {A B : Type 0} (f g : A → Option B) (o : Option A) → ((a : A) → f a ≡ g a) → option_and_then f o ≡ option_and_then g o
and_then_same f g None e = refl
and_then_same f g (Some a) e = e a

-- what is given where something is, from what it is given for
and_then_some : {A B : Type 0} (f : A → Option B) (o : Option A) (b : B) → option_and_then f o ≡ Some b → (a : A) × (o ≡ Some a) × (f a ≡ Some b)
and_then_some f None b e = absurd (let g : None ≡ Some b = e in cc)
and_then_some f (Some a) b e = (a, refl, e)

chain_in_parts : (earlier : List Literals) (c : Literals) (first second : List (ℕ × ℕ)) → chain earlier c (first ++ second) ≡ option_and_then (λ d. chain earlier d second) (chain earlier c first)
chain_in_parts earlier c [] second = refl
chain_in_parts earlier c (pair ∷ first) second =
    and_then_same (λ d. option_and_then (λ e. chain earlier e (first ++ second)) (resolution c d pair.1))
    (λ d. option_and_then (λ e. chain earlier e second) (option_and_then (λ e. chain earlier e first) (resolution c d pair.1))) (slice_get earlier pair.0)
    (λ d. and_then_same (λ e. chain earlier e (first ++ second)) (λ e. option_and_then (λ i. chain earlier i second) (chain earlier e first)) (resolution c d pair.1) (λ e. chain_in_parts earlier e first second)
    ∙ and_then_nested (λ e. chain earlier e first) (λ e. chain earlier e second) (resolution c d pair.1))
    ∙ and_then_nested (λ d. option_and_then (λ e. chain earlier e first) (resolution c d pair.1)) (λ e. chain earlier e second) (slice_get earlier pair.0)

chain_with_more : (earlier more : List Literals) (c d : Literals) (rest : List (ℕ × ℕ)) → chain earlier c rest ≡ Some d → chain (earlier ++ more) c rest ≡ Some d
chain_with_more earlier more c d [] e = e
chain_with_more earlier more c d (pair ∷ rest) e =
    let named = and_then_some (λ n. option_and_then (λ r. chain earlier r rest) (resolution c n pair.1)) (slice_get earlier pair.0) d e in
    let step = and_then_some (λ r. chain earlier r rest) (resolution c named.0 pair.1) d named.2 in
    ap (option_and_then (λ n. option_and_then (λ r. chain (earlier ++ more) r rest) (resolution c n pair.1))) (got_left earlier more pair.0 named.0 named.1)
    ∙ (ap (option_and_then (λ r. chain (earlier ++ more) r rest)) step.1 ∙ chain_with_more earlier more step.0 d rest step.2)

step_with_more : (earlier more : List Literals) (step : Step) (c : Literals) → made_by earlier step ≡ Some c → made_by (earlier ++ more) step ≡ Some c
step_with_more earlier more step c e =
    let first = and_then_some (λ d. chain earlier d step.rest.items) (slice_get earlier step.first) c e in
    ap (option_and_then (λ d. chain (earlier ++ more) d step.rest.items)) (got_left earlier more step.first first.0 first.1) ∙ chain_with_more earlier more first.0 c step.rest.items first.2

pub steps_in_parts : (earlier : List Literals) (first second : List Step) → derived earlier (first ++ second) ≡ option_and_then (λ all. derived all second) (derived earlier first)
steps_in_parts earlier [] second = refl
steps_in_parts earlier (step ∷ first) second =
    and_then_same (λ c. derived (earlier ++ c ∷ []) (first ++ second)) (λ c. option_and_then (λ all. derived all second) (derived (earlier ++ c ∷ []) first)) (made_by earlier step) (λ c. steps_in_parts (earlier ++ c ∷ []) first second)
    ∙ and_then_nested (λ c. derived (earlier ++ c ∷ []) first) (λ all. derived all second) (made_by earlier step)

pub chain_laws : ChainLaws
chain_laws = record {
  chain_in_parts = chain_in_parts;
  chain_with_more = chain_with_more;
  step_with_more = step_with_more;
  steps_in_parts = steps_in_parts;
}
