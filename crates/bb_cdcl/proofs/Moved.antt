-- Steps where more given clauses come.
use Rattle.std.proofs.Common.{◌≡◌, ◌<◌, ◌≤◌, ℕ, zero, suc, ◌+◌, ◌-◌, if◌then◌else◌, Option, Some, None, option_and_then, List, [], ◌∷◌, ◌++◌, length, map, slice_get, refl, sym, ◌∙◌, ap, inl, inr, arith, length-append, append_assoc}
use Rattle.std.proofs.lemmas.List.{append-nil}
use Rattle.bb_lemmas.proofs.Places.{in_prefix}
use Rattle.bb_lemmas.proofs.Tests.{lt_to_test, not_lt_to_test}
use Rattle.bb_lemmas.proofs.Orders.{less_or_not}
use Rattle.bb_cnf.specs.declared.refutation.Step.{Step}
use Rattle.bb_cnf.specs.Clauses.{Literals}
use Rattle.bb_cnf.specs.Chains.{resolution, chain, made_by, derived}
use Rattle.bb_cnf.specs.Lines.{step_numbers}
use Rattle.bb_cdcl.specs.Laws.Numbers.{moved_number, moved_pair, moved_numbers, StepsMove}
use Rattle.bb_cdcl.specs.Inside.Dates.{made_with, derived_with}

pub moved_below : (g k n : ℕ) → n < g → moved_number g k n ≡ n
moved_below g k n below = ap (λ b. if b then n else n + k) (lt_to_test n g below)

pub moved_past : (g k n : ℕ) → g ≤ n → moved_number g k n ≡ n + k
moved_past g k n past = ap (λ b. if b then n else n + k) (not_lt_to_test n g past)

get_after : {A : Type 0} (xs ys : List A) (n j : ℕ) → n ≡ length xs + j → slice_get (xs ++ ys) n ≡ slice_get ys j
get_after [] ys n j e = ap (slice_get ys) (omega (arith, e))
get_after (x ∷ xs) ys zero j e = absurd (omega (arith, e))
get_after (x ∷ xs) ys (suc n) j e = get_after xs ys n j (omega (arith, e))

-- a clause is found by its moved number
pub moved_get : {A : Type 0} (given more learned : List A) (n : ℕ) (c : A) → slice_get (given ++ learned) n ≡ Some c
    → slice_get ((given ++ more) ++ learned) (moved_number (length given) (length more) n) ≡ Some c
moved_get given more learned n c e =
    let both = length-append given more in
    let all = (given ++ more) ++ learned in
    elim (less_or_not n (length given)) as (λ _. slice_get ((given ++ more) ++ learned) (moved_number (length given) (length more) n) ≡ Some c) [
      | inl below ↦
          ap (slice_get all) (moved_below (length given) (length more) n below) ∙ in_prefix (given ++ more) learned n (omega (arith, below, both))
          ∙ in_prefix given more n below ∙ sym (in_prefix given learned n below) ∙ e
      | inr past ↦
          ap (slice_get all) (moved_past (length given) (length more) n past) ∙ get_after (given ++ more) learned (n + length more) (n - length given) (omega (arith, past, both))
          ∙ sym (get_after given learned n (n - length given) (omega (arith, past))) ∙ e
    ]

pub came_by : {A B : Type 0} (f : A → Option B) (o : Option A) (b : B) → option_and_then f o ≡ Some b → (a : A) × (o ≡ Some a) × (f a ≡ Some b)
came_by f None b e = absurd (let g : None ≡ Some b = e in cc)
came_by f (Some a) b e = (a, refl, e)

chain_moved : (given more learned : List Literals) (c d : Literals) (rest : List (ℕ × ℕ)) → chain (given ++ learned) c rest ≡ Some d
    → chain ((given ++ more) ++ learned) c (map (moved_pair (length given) (length more)) rest) ≡ Some d
chain_moved given more learned c d [] e = e
chain_moved given more learned c d (pair ∷ rest) e =
    let all = (given ++ more) ++ learned in
    let moved = map (moved_pair (length given) (length more)) rest in
    let named = came_by (λ n. option_and_then (λ r. chain (given ++ learned) r rest) (resolution c n pair.1)) (slice_get (given ++ learned) pair.0) d e in
    let step = came_by (λ r. chain (given ++ learned) r rest) (resolution c named.0 pair.1) d named.2 in
    ap (option_and_then (λ n. option_and_then (λ r. chain all r moved) (resolution c n pair.1))) (moved_get given more learned pair.0 named.0 named.1)
    ∙ (ap (option_and_then (λ r. chain all r moved)) step.1 ∙ chain_moved given more learned step.0 d rest step.2)

made_moved : (given more learned : List Literals) (numbers : ℕ × List (ℕ × ℕ)) (c : Literals) → made_with (given ++ learned) numbers ≡ Some c
    → made_with ((given ++ more) ++ learned) (moved_numbers (length given) (length more) numbers) ≡ Some c
made_moved given more learned numbers c e =
    let all = (given ++ more) ++ learned in
    let first = came_by (λ d. chain (given ++ learned) d numbers.1) (slice_get (given ++ learned) numbers.0) c e in
    ap (option_and_then (λ d. chain all d (map (moved_pair (length given) (length more)) numbers.1))) (moved_get given more learned numbers.0 first.0 first.1)
    ∙ chain_moved given more learned first.0 c numbers.1 first.2

derived_moved : (given more learned all : List Literals) (steps : List (ℕ × List (ℕ × ℕ))) → derived_with (given ++ learned) steps ≡ Some all
    → (made : List Literals) × (all ≡ given ++ made) × (derived_with ((given ++ more) ++ learned) (map (moved_numbers (length given) (length more)) steps) ≡ Some ((given ++ more) ++ made))
derived_moved given more learned all [] e = (learned, (let s : Some (given ++ learned) ≡ Some all = e in cc), refl)
derived_moved given more learned all (step ∷ steps) e =
    let first = came_by (λ c. derived_with ((given ++ learned) ++ c ∷ []) steps) (made_with (given ++ learned) step) all e in
    let moved = map (moved_numbers (length given) (length more)) steps in
    let rest = derived_moved given more (learned ++ first.0 ∷ []) all steps (ap (λ es. derived_with es steps) (sym (append_assoc given learned (first.0 ∷ []))) ∙ first.2) in (
      rest.0,
      rest.1,
      ap (option_and_then (λ d. derived_with (((given ++ more) ++ learned) ++ d ∷ []) moved)) (made_moved given more learned step first.0 first.1)
          ∙ ap (λ es. derived_with es moved) (append_assoc (given ++ more) learned (first.0 ∷ [])) ∙ rest.2,
    )

prefix_off : {A : Type 0} (xs ys zs : List A) → xs ++ ys ≡ xs ++ zs → ys ≡ zs
prefix_off [] ys zs e = e
prefix_off (x ∷ xs) ys zs e = prefix_off xs ys zs (let s : x ∷ (xs ++ ys) ≡ x ∷ (xs ++ zs) = e in cc)

pub numbers_move : (given more learned : List Literals) (steps : List (ℕ × List (ℕ × ℕ))) → derived_with given steps ≡ Some (given ++ learned)
    → derived_with (given ++ more) (map (moved_numbers (length given) (length more)) steps) ≡ Some ((given ++ more) ++ learned)
numbers_move given more learned steps e =
    let m = derived_moved given more [] (given ++ learned) steps (ap (λ es. derived_with es steps) (append-nil given) ∙ e) in
    let same : m.0 ≡ learned = sym (prefix_off given learned m.0 m.1) in
    ap (λ es. derived_with es (map (moved_numbers (length given) (length more)) steps)) (sym (append-nil (given ++ more))) ∙ m.2 ∙ ap (λ made. Some ((given ++ more) ++ made)) same

and_then_same : {A B : Type 0} (f g : A → Option B) (o : Option A) → ((a : A) → f a ≡ g a) → option_and_then f o ≡ option_and_then g o
and_then_same f g None e = refl
and_then_same f g (Some a) e = e a

-- steps derive what their numbers do
pub derived_by : (earlier : List Literals) (steps : List Step) → derived earlier steps ≡ derived_with earlier (map step_numbers steps)
derived_by earlier [] = refl
derived_by earlier (step ∷ steps) =
    and_then_same (λ c. derived (earlier ++ c ∷ []) steps) (λ c. derived_with (earlier ++ c ∷ []) (map step_numbers steps)) (made_by earlier step) (λ c. derived_by (earlier ++ c ∷ []) steps)

pub steps_move : StepsMove
steps_move given more learned steps moved same e =
    derived_by (given ++ more) moved ∙ ap (derived_with (given ++ more)) same ∙ numbers_move given more learned (map step_numbers steps) (sym (derived_by given steps) ∙ e)
