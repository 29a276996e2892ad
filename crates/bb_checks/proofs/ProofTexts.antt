-- The text of a proof gives back its vectors: each has a line of its own, of one byte a bit, and the lines of clauses and of steps begin
-- otherwise.
use Rattle.std.proofs.Common.{◌≡◌, ◌∷◌, ◌++◌, ◌∙◌, ℕ, Bool, true, false, List, [], map, refl, sym, ap, arith, append_assoc}
use Rattle.std.specs.Prelude.{codes, vec_items}
use Rattle.std.specs.List.{flat_map}
use Rattle.std.proofs.lemmas.List.{append_cancel_left}
use Rattle.bb_cnf.specs.declared.clauses.Lit.{Lit}
use Rattle.bb_cnf.specs.declared.refutation.Step.{Step}
use Rattle.bb_cnf.specs.Lines.{proof_lines}
use Rattle.bb_checks.specs.Laws.ShownVectors.{ProofTextsFixVectors}
use Rattle.bb_checks.specs.Reports.{vector_line}
use Rattle.bb_checks.specs.TableLines.{printed_bit}

head_of : (a b : ℕ) (xs ys : List ℕ) → a ∷ xs ≡ b ∷ ys → a ≡ b
head_of a b xs ys e = cc e

tail_of : (a b : ℕ) (xs ys : List ℕ) → a ∷ xs ≡ b ∷ ys → xs ≡ ys
tail_of a b xs ys e = cc e

apart : (a b : ℕ) (xs ys : List ℕ) → (a ≡ b → ⊥) → a ∷ xs ≡ b ∷ ys → ⊥
apart a b xs ys other e = other (head_of a b xs ys e)

-- what is left of a line from its bits on
abbrev rest_of : List Bool → List ℕ → List ℕ
rest_of bits after = (flat_map printed_bit bits ++ codes "\n") ++ after

same_bits : (x y : List Bool) (r s : List ℕ) → rest_of x r ≡ rest_of y s → (x ≡ y) × (r ≡ s)
same_bits [] [] r s e = (refl, tail_of 10 10 r s e)
same_bits [] (true ∷ y) r s e = absurd (apart 10 49 r (rest_of y s) (λ h. omega (arith, h)) e)
same_bits [] (false ∷ y) r s e = absurd (apart 10 48 r (rest_of y s) (λ h. omega (arith, h)) e)
same_bits (true ∷ x) [] r s e = absurd (apart 49 10 (rest_of x r) s (λ h. omega (arith, h)) e)
same_bits (false ∷ x) [] r s e = absurd (apart 48 10 (rest_of x r) s (λ h. omega (arith, h)) e)
same_bits (true ∷ x) (false ∷ y) r s e = absurd (apart 49 48 (rest_of x r) (rest_of y s) (λ h. omega (arith, h)) e)
same_bits (false ∷ x) (true ∷ y) r s e = absurd (apart 48 49 (rest_of x r) (rest_of y s) (λ h. omega (arith, h)) e)
same_bits (true ∷ x) (true ∷ y) r s e =
    let more = same_bits x y r s (tail_of 49 49 (rest_of x r) (rest_of y s) e) in (ap (λ z. true ∷ z) more.0, more.1)
same_bits (false ∷ x) (false ∷ y) r s e =
    let more = same_bits x y r s (tail_of 48 48 (rest_of x r) (rest_of y s) e) in (ap (λ z. false ∷ z) more.0, more.1)

same_line : (x y : List Bool) (r s : List ℕ) → vector_line x ++ r ≡ vector_line y ++ s → (x ≡ y) × (r ≡ s)
same_line [] [] r s e = (refl, append_cancel_left (codes "vector\n") r s e)
same_line [] (b ∷ y) r s e = absurd (apart 10 32 r (rest_of (b ∷ y) s) (λ h. omega (arith, h)) (append_cancel_left (codes "vector") (10 ∷ r) (32 ∷ rest_of (b ∷ y) s) e))
same_line (a ∷ x) [] r s e = absurd (apart 32 10 (rest_of (a ∷ x) r) s (λ h. omega (arith, h)) (append_cancel_left (codes "vector") (32 ∷ rest_of (a ∷ x) r) (10 ∷ s) e))
same_line (a ∷ x) (b ∷ y) r s e = same_bits (a ∷ x) (b ∷ y) r s (append_cancel_left (codes "vector ") (rest_of (a ∷ x) r) (rest_of (b ∷ y) s) e)

-- a text that does not begin as the line of a vector
abbrev IsOther : List ℕ → Type 0
IsOther text = (rest : List ℕ) → text ≡ 118 ∷ rest → ⊥

begins : (x : List Bool) (after : List ℕ) → (rest : List ℕ) × (vector_line x ++ after ≡ 118 ∷ rest)
begins [] after = (_, refl)
begins (b ∷ x) after = (_, refl)

same_vectors : (xs ys : List (List Bool)) (a b : List ℕ) → IsOther a → IsOther b → flat_map vector_line xs ++ a ≡ flat_map vector_line ys ++ b → xs ≡ ys
same_vectors [] [] a b p q e = refl
same_vectors [] (y ∷ ys) a b p q e =
    let first = begins y (flat_map vector_line ys ++ b) in
    absurd (p first.0 (e ∙ append_assoc (vector_line y) (flat_map vector_line ys) b ∙ first.1))
same_vectors (x ∷ xs) [] a b p q e =
    let first = begins x (flat_map vector_line xs ++ a) in
    absurd (q first.0 (sym e ∙ append_assoc (vector_line x) (flat_map vector_line xs) a ∙ first.1))
same_vectors (x ∷ xs) (y ∷ ys) a b p q e =
    let (one, more) = same_line x y (flat_map vector_line xs ++ a) (flat_map vector_line ys ++ b)
    (sym (append_assoc (vector_line x) (flat_map vector_line xs) a) ∙ e ∙ append_assoc (vector_line y) (flat_map vector_line ys) b) in
    ap (λ z. z ∷ xs) one ∙ ap (λ zs. y ∷ zs) (same_vectors xs ys a b p q more)

proof_is_other : (clauses : List (List Lit)) (steps : List Step) → IsOther (proof_lines clauses steps)
proof_is_other [] [] rest e = cc e
proof_is_other [] (step ∷ steps) rest e = apart 115 118 _ rest (λ h. omega (arith, h)) e
proof_is_other (c ∷ clauses) steps rest e = apart 99 118 _ rest (λ h. omega (arith, h)) e

pub proof_texts_fix_vectors : ProofTextsFixVectors
proof_texts_fix_vectors proof other = same_vectors (map vec_items proof.vectors.items) (map vec_items other.vectors.items)
    (proof_lines proof.cnf.clauses proof.refutation.steps.items) (proof_lines other.cnf.clauses other.refutation.steps.items)
    (proof_is_other proof.cnf.clauses proof.refutation.steps.items) (proof_is_other other.cnf.clauses other.refutation.steps.items)
