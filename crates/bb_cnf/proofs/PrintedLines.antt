-- Lines that are added one by one.
use Rattle.std.proofs.Common.{◌≡◌, ◌<◌, ℕ, ◌+◌, List, [], ◌∷◌, ◌++◌, length, take, slice_index_or, sym, ◌∙◌, ap, arith, append_assoc}
use Rattle.std.proofs.lemmas.List.{take_more, map-append, append-nil, length-take-le, length-map}
use Rattle.smallvec.specs.SmallVec.{SmallVec}
use Rattle.bb_cnf.specs.declared.clauses.Lit.{Lit}
use Rattle.bb_cnf.specs.declared.refutation.Step.{Step}
use Rattle.bb_cnf.specs.Clauses.{lists_of}
use Rattle.bb_cnf.specs.Lines.{clause_line, step_line, clause_lines, step_lines}

pub clause_lines-push : (n : ℕ) (xs : List (List Lit)) (x : List Lit) → clause_lines n (xs ++ x ∷ []) ≡ clause_lines n xs ++ clause_line (n + length xs) x
clause_lines-push n [] x = append-nil (clause_line n x) ∙ ap (λ k. clause_line k x) (omega arith)
clause_lines-push n (y ∷ xs) x =
    let place : (n + 1) + length xs ≡ n + length (y ∷ xs) = grind arith in
    ap (λ t. clause_line n y ++ t) (clause_lines-push (n + 1) xs x ∙ ap (λ k. clause_lines (n + 1) xs ++ clause_line k x) place)
    ∙ sym (append_assoc (clause_line n y) (clause_lines (n + 1) xs) (clause_line (n + length (y ∷ xs)) x))

pub step_lines-push : (n : ℕ) (xs : List Step) (x : Step) → step_lines n (xs ++ x ∷ []) ≡ step_lines n xs ++ step_line (n + length xs) x
step_lines-push n [] x = append-nil (step_line n x) ∙ ap (λ k. step_line k x) (omega arith)
step_lines-push n (y ∷ xs) x =
    let place : (n + 1) + length xs ≡ n + length (y ∷ xs) = grind arith in
    ap (λ t. step_line n y ++ t) (step_lines-push (n + 1) xs x ∙ ap (λ k. step_lines (n + 1) xs ++ step_line k x) place)
    ∙ sym (append_assoc (step_line n y) (step_lines (n + 1) xs) (step_line (n + length (y ∷ xs)) x))

-- the lines of one more clause
pub clause_lines-more : (clauses : List (SmallVec Lit)) (i : ℕ) (d : SmallVec Lit) → i < length clauses
    → clause_lines 0 (lists_of (take (i + 1) clauses)) ≡ clause_lines 0 (lists_of (take i clauses)) ++ clause_line i (slice_index_or clauses i d).items
clause_lines-more clauses i d within =
    let counted : length (lists_of (take i clauses)) ≡ i =
    length-map (take i clauses) (λ clause. clause.items) ∙ length-take-le i clauses (omega (arith, within)) in
    ap (λ xs. clause_lines 0 (lists_of xs)) (take_more clauses i d within)
    ∙ ap (clause_lines 0) (map-append (λ clause. clause.items) (take i clauses) (slice_index_or clauses i d ∷ []))
    ∙ clause_lines-push 0 (lists_of (take i clauses)) (slice_index_or clauses i d).items
    ∙ ap (λ k. clause_lines 0 (lists_of (take i clauses)) ++ clause_line k (slice_index_or clauses i d).items) (omega (arith, counted))

-- the line of one more step
pub step_lines-more : (n : ℕ) (steps : List Step) (i : ℕ) (d : Step) → i < length steps
    → step_lines n (take (i + 1) steps) ≡ step_lines n (take i steps) ++ step_line (n + i) (slice_index_or steps i d)
step_lines-more n steps i d within =
    let counted : length (take i steps) ≡ i = length-take-le i steps (omega (arith, within)) in
    ap (step_lines n) (take_more steps i d within)
    ∙ step_lines-push n (take i steps) (slice_index_or steps i d)
    ∙ ap (λ k. step_lines n (take i steps) ++ step_line (n + k) (slice_index_or steps i d)) counted

pub added : (start before now lines line more : List ℕ) → before ≡ start ++ lines → now ≡ before ++ line → more ≡ lines ++ line → now ≡ start ++ more
added start before now lines line more was is grown =
    is ∙ ap (λ t. t ++ line) was ∙ append_assoc start lines line ∙ ap (λ t. start ++ t) (sym grown)
