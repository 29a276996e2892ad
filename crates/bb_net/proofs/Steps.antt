-- A list that is filled from the front, where each entry is a function of its place and of the entries before it.
use Rattle.std.proofs.Common.{◌≡◌, ◌≢◌, ℕ, ◌+◌, ◌<◌, zero, suc, List, length, get_or, set, sym, ◌∙◌, subst, inl, inr, arith, get_or-set_same, get_or-set_other}
use Rattle.std.proofs.lemmas.Bool.{cases_eq}

-- below n an entry depends on the entries before it alone
abbrev pub IsLocal : {X : Type 0} → (ℕ → (ℕ → X) → X) → ℕ → Type 0
IsLocal {X} step n = (k : ℕ) (v w : ℕ → X) → k < n → ((j : ℕ) → j < k → v j ≡ w j) → step k v ≡ step k w

-- the entries below n are what the step gives
abbrev pub IsFilled : {X : Type 0} → (ℕ → (ℕ → X) → X) → (ℕ → X) → ℕ → Type 0
IsFilled step v n = (k : ℕ) → k < n → v k ≡ step k v

-- one entry more is filled
pub IsFilled-more : {X : Type 0} (d : X) (step : ℕ → (ℕ → X) → X) (xs : List X) (i n : ℕ) (x : X) → IsLocal step n → i < n → i < length xs → x ≡ step i (λ k. get_or xs k d) → IsFilled step (λ k. get_or xs k d) i → IsFilled step (λ k. get_or (set xs i x) k d) (i + 1)
IsFilled-more {X} d step xs i n x local small lt is filled =
    let old : ℕ → X = λ k. get_or xs k d in
    let new : ℕ → X = λ k. get_or (set xs i x) k d in
    let other : (k : ℕ) → k ≢ i → new k ≡ old k = λ k ne. get_or-set_other xs i k x d ne in
    let at : new i ≡ x = get_or-set_same xs i x d lt in
    λ k h. elim (cases_eq k i) [
      | inl e ↦ subst (λ j. new j ≡ step j new) (sym e) (at ∙ is ∙ local i old new small (λ j g. sym (other j (omega arith))))
      | inr ne ↦ other k ne ∙ filled k (omega arith) ∙ local k old new (omega arith) (λ j g. sym (other j (omega arith)))
    ]

-- there is one way to fill
pub IsFilled-unique : {X : Type 0} (step : ℕ → (ℕ → X) → X) (v w : ℕ → X) (n : ℕ) → IsLocal step n → IsFilled step v n → IsFilled step w n → (bound k : ℕ) → k < bound → k < n → v k ≡ w k
IsFilled-unique step v w n local first second zero k small h = absurd (omega arith)
IsFilled-unique step v w n local first second (suc bound) k small h =
    first k h ∙ local k v w h (λ j g. IsFilled-unique step v w n local first second bound j (omega arith) (omega arith)) ∙ sym (second k h)
