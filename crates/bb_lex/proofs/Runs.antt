-- The longest run of a class of bytes at the beginning, and what is left after it.
use Rattle.std.proofs.Common.{◌≡◌, ℕ, ◌-◌, ◌≤◌, Bool, List, [], ◌∷◌, ◌++◌, length, take, drop, refl, ap, ◌∙◌, arith, ⊎_elim, length-append}
use Rattle.std.proofs.lemmas.List.{take_at, drop_at}
use Rattle.bb_lex.specs.Bytes.{Each, BeginsNot, past}
use Rattle.bb_lex.specs.Inside.Runs.{run_of}
use Rattle.bb_lex.proofs.Choices.{cases_of, cond_true, cond_false}

-- the run and what is left are the whole
pub run-past : (p : ℕ → Bool) (t : List ℕ) → run_of p t ++ past p t ≡ t
run-past p [] = refl
run-past p (b ∷ t) =
    ⊎_elim
    (λ yes. rw (cond_true (p b) (b ∷ run_of p t) [] yes, cond_true (p b) (past p t) (b ∷ t) yes) (ap (λ l. b ∷ l) (run-past p t)))
    (λ no. rw (cond_false (p b) (b ∷ run_of p t) [] no, cond_false (p b) (past p t) (b ∷ t) no) refl)
    (cases_of (p b))

-- what is left is no longer than the whole
pub length-past : (p : ℕ → Bool) (t : List ℕ) → length (past p t) ≤ length t
length-past p t = omega (arith, ap length (run-past p t), length-append (run_of p t) (past p t))

-- each byte of the run is of the class
pub each_of_run : (p : ℕ → Bool) (t : List ℕ) → Each p (run_of p t)
each_of_run p [] = tt
each_of_run p (b ∷ t) =
    ⊎_elim
    (λ yes. rw (cond_true (p b) (b ∷ run_of p t) [] yes) (yes, each_of_run p t))
    (λ no. rw (cond_false (p b) (b ∷ run_of p t) [] no) tt)
    (cases_of (p b))

-- the run ends where the class does
pub past_stops : (p : ℕ → Bool) (t : List ℕ) → BeginsNot p (past p t)
past_stops p [] = tt
past_stops p (b ∷ t) =
    ⊎_elim
    (λ yes. rw (cond_true (p b) (past p t) (b ∷ t) yes) (past_stops p t))
    (λ no. rw (cond_false (p b) (past p t) (b ∷ t) no) no)
    (cases_of (p b))

-- bytes of the class at the beginning are passed
pub past-each : (p : ℕ → Bool) (body after : List ℕ) → Each p body → past p (body ++ after) ≡ past p after
past-each p [] after each = refl
past-each p (b ∷ body) after each = cond_true (p b) (past p (body ++ after)) (b ∷ body ++ after) each.0 ∙ past-each p body after each.1

pub run-each : (p : ℕ → Bool) (body after : List ℕ) → Each p body → run_of p (body ++ after) ≡ body ++ run_of p after
run-each p [] after each = refl
run-each p (b ∷ body) after each = cond_true (p b) (b ∷ run_of p (body ++ after)) [] each.0 ∙ ap (λ l. b ∷ l) (run-each p body after each.1)

-- where the class does not come, nothing is passed
pub past-none : (p : ℕ → Bool) (t : List ℕ) → BeginsNot p t → past p t ≡ t
past-none p [] not = refl
past-none p (b ∷ t) not = cond_false (p b) (past p t) (b ∷ t) not

pub run-none : (p : ℕ → Bool) (t : List ℕ) → BeginsNot p t → run_of p t ≡ []
run-none p [] not = refl
run-none p (b ∷ t) not = cond_false (p b) (b ∷ run_of p t) [] not

-- a front and its rest by their lengths
pub take-prefix : (t prefix rest : List ℕ) → prefix ++ rest ≡ t → take (length t - length rest) t ≡ prefix
take-prefix t prefix rest e =
    let n : length t - length rest ≡ length prefix = omega (arith, ap length e, length-append prefix rest) in
    rw (n, ← e) (take_at prefix rest (length prefix) refl)

pub drop-prefix : (t prefix rest : List ℕ) → prefix ++ rest ≡ t → drop (length t - length rest) t ≡ rest
drop-prefix t prefix rest e =
    let n : length t - length rest ≡ length prefix = omega (arith, ap length e, length-append prefix rest) in
    rw (n, ← e) (drop_at prefix rest (length prefix) refl)

pub take-past : (p : ℕ → Bool) (t : List ℕ) → take (length t - length (past p t)) t ≡ run_of p t
take-past p t = take-prefix t (run_of p t) (past p t) (run-past p t)

pub drop-past : (p : ℕ → Bool) (t : List ℕ) → drop (length t - length (past p t)) t ≡ past p t
drop-past p t = drop-prefix t (run_of p t) (past p t) (run-past p t)

pub ruleset run_parts = (length-past, take-past, drop-past)
