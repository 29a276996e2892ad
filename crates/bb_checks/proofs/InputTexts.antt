-- The line of a vector gives back its bits: after the same names each bit has one byte.
use Rattle.std.proofs.Common.{◌≡◌, ◌+◌, ℕ, Bool, List, [], ◌∷◌, ◌++◌, length, refl, sym, ap, ◌∙◌, arith}
use Rattle.std.specs.Prelude.{zip, codes}
use Rattle.std.specs.List.{flat_map}
use Rattle.std.proofs.lemmas.List.{append_cancel_left, append_cancel_right, length-append}
use Rattle.bb_checks.specs.Reports.{printed_input}
use Rattle.bb_checks.specs.Laws.ShownVectors.{InputLinesFixVectors}
use Rattle.bb_checks.specs.TableLines.{printed_bit}
use Rattle.bb_checks.proofs.TableTexts.{one_byte, same_bit, same_prefixes}

-- what precedes the bit of an input
abbrev named : List ℕ → List ℕ
named name = codes " " ++ name ++ codes "="

long : (name : List ℕ) (a b : Bool) → length (printed_input (name, a)) ≡ length (printed_input (name, b))
long name a b = length-append (named name) (printed_bit a) ∙ ap (λ n. length (named name) + n) (one_byte a ∙ sym (one_byte b)) ∙ sym (length-append (named name) (printed_bit b))

same_inputs : (names : List (List ℕ)) (bits others : List Bool) → length bits ≡ length names → length others ≡ length names
    → flat_map printed_input (zip names bits) ≡ flat_map printed_input (zip names others) → bits ≡ others
same_inputs [] [] [] one other same = refl
same_inputs [] (a ∷ bits) others one other same = absurd (omega (arith, one))
same_inputs [] [] (b ∷ others) one other same = absurd (omega (arith, other))
same_inputs (n ∷ names) [] others one other same = absurd (omega (arith, one))
same_inputs (n ∷ names) (a ∷ bits) [] one other same = absurd (omega (arith, other))
same_inputs (n ∷ names) (a ∷ bits) (b ∷ others) one other same =
    let parts = same_prefixes (printed_input (n, a)) (flat_map printed_input (zip names bits)) (printed_input (n, b)) (flat_map printed_input (zip names others)) (long n a b) same in
    ap (λ c. c ∷ bits) (same_bit a b (append_cancel_left (named n) (printed_bit a) (printed_bit b) parts.0))
    ∙ ap (λ l. b ∷ l) (same_inputs names bits others (omega (arith, one)) (omega (arith, other)) parts.1)

pub input_lines_fix_vectors : InputLinesFixVectors
input_lines_fix_vectors names bits others one other same =
    let a = flat_map printed_input (zip names bits) in
    let b = flat_map printed_input (zip names others) in
    same_inputs names bits others one other (append_cancel_left (codes "input") a b (append_cancel_right (codes "input" ++ a) (codes "input" ++ b) (codes "\n") same))
