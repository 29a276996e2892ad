-- A text is what precedes the first byte of a class, and what is left from there on.
use Rattle.std.proofs.Common.{◌≡◌, ℕ, ◌-◌, ◌<◌, ◌≤◌, Bool, false, List, [], ◌∷◌, ◌++◌, length, take, drop, refl, sym, ap, ◌∙◌, ⊎_elim, arith, length-append}
use Rattle.std.proofs.lemmas.Bool.{cases_Bool, cond-true, cond-false}
use Rattle.std.proofs.lemmas.List.{take_at, drop_at}
use Rattle.bb_rup.specs.Inside.Ahead.{from_first, before_first}

pub before-from : (p : ℕ → Bool) (text : List ℕ) → before_first p text ++ from_first p text ≡ text
before-from p [] = refl
before-from p (b ∷ text) =
    ⊎_elim
    (λ holds. rw (cond-true (p b) [] (b ∷ before_first p text) holds, cond-true (p b) (b ∷ text) (from_first p text) holds) refl)
    (λ fails. rw (cond-false (p b) [] (b ∷ before_first p text) fails, cond-false (p b) (b ∷ text) (from_first p text) fails) (ap (λ l. b ∷ l) (before-from p text)))
    (cases_Bool (p b))

pub length-from : (p : ℕ → Bool) (text : List ℕ) → length (from_first p text) ≤ length text
length-from p text = omega (arith, ap length (before-from p text), length-append (before_first p text) (from_first p text))

pub take-before : (p : ℕ → Bool) (text : List ℕ) → take (length text - length (from_first p text)) text ≡ before_first p text
take-before p text =
    let n : length text - length (from_first p text) ≡ length (before_first p text) =
    omega (arith, ap length (before-from p text), length-append (before_first p text) (from_first p text)) in
    ap (λ k. take k text) n ∙ ap (take (length (before_first p text))) (sym (before-from p text)) ∙ take_at (before_first p text) (from_first p text) (length (before_first p text)) refl

pub drop-before : (p : ℕ → Bool) (text : List ℕ) → drop (length text - length (from_first p text)) text ≡ from_first p text
drop-before p text =
    let n : length text - length (from_first p text) ≡ length (before_first p text) =
    omega (arith, ap length (before-from p text), length-append (before_first p text) (from_first p text)) in
    ap (λ k. drop k text) n ∙ ap (drop (length (before_first p text))) (sym (before-from p text)) ∙ drop_at (before_first p text) (from_first p text) (length (before_first p text)) refl

-- where a byte of the class is not first, something precedes it
pub from-less : (p : ℕ → Bool) (b : ℕ) (text : List ℕ) → p b ≡ false → length (from_first p (b ∷ text)) < length (b ∷ text)
from-less p b text fails = omega (arith, length-from p text, ap length (cond-false (p b) (b ∷ text) (from_first p text) fails))
