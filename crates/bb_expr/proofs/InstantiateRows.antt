-- Rows of operators that read earlier steps of their own row too: they are cells, one for one.
use Rattle.std.proofs.Common.{◌≡◌, ℕ, ◌+◌, ◌<◌, true, List, [], ◌∷◌, ◌++◌, length, map, Some, None, refl, sym, ap, ap₂, ◌∙◌, subst, inl, inr, arith, length-append, append_assoc, append-nil, false, Bool}
use Rattle.std.specs.Prelude.{All, if◌then◌else◌}
use Rattle.std.specs.List.{AllByRecursion, filter_map, range_with_len}
use Rattle.std.proofs.lemmas.List.{get_or_append_left, get_or-append-add}
use Rattle.std.proofs.lemmas.List.Elements.{All-from_recursion}
use Rattle.bb_names.specs.declared.net.NetInfo.{NetInfo}
use Rattle.bb_expr.specs.declared.step.BitStep.{BitStep}
use Rattle.bb_expr.specs.declared.step.BitStep.TheVariants as steps
use Rattle.bb_expr.specs.Lowered.{step_term, term_at, ReadsEarlier, is_operator, operators}
use Rattle.bb_expr.specs.Inside.Growing.{step_at, AreOrdered}
use Rattle.bb_expr.specs.Inside.Instantiation.{constant_steps}
use Rattle.bb_expr.proofs.StepLemmas.{either-side, term-more, ordered-rows, row-term}
use Rattle.bb_expr.proofs.RowLemmas.{row_cell, operators-rows}

abbrev pub AreOperators : List BitStep → Type 0
AreOperators rows = AllByRecursion (λ s. is_operator s ≡ true) rows

module _ (nets : List NetInfo) where
  pub ordered-prefix : (old rows : List BitStep) → AreOrdered nets (old ++ rows) → AreOrdered nets old
  ordered-prefix old rows ordered k lt = subst (ReadsEarlier nets k) (get_or_append_left old rows (steps.Const false) k lt) (ordered k (omega (arith, lt, length-append old rows)))

  -- a row that reads what precedes each of its steps
  pub ordered-run : (old rows : List BitStep) → AreOrdered nets old → ((i : ℕ) → i < length rows → ReadsEarlier nets (length old + i) (step_at rows i)) → AreOrdered nets (old ++ rows)
  ordered-run old rows ordered reads k lt = elim (either-side k (length old)) [
    | inl below ↦ subst (ReadsEarlier nets k) (sym (get_or_append_left old rows (steps.Const false) k below)) (ordered k below)
    | inr above ↦ subst (λ j. ReadsEarlier nets j (step_at (old ++ rows) j)) (sym above.1)
        (subst (ReadsEarlier nets (length old + above.0)) (sym (get_or-append-add old rows above.0 (steps.Const false))) (reads above.0 (omega (arith, lt, above.1, length-append old rows))))
  ]

  -- the first of a row reads what precedes the row
  first-reads : (old rows : List BitStep) (s : BitStep) → AreOrdered nets (old ++ s ∷ rows) → All (ReadsEarlier nets (length old)) (s ∷ [])
  first-reads old rows s ordered =
      let n = length old in
      let at : step_at (old ++ s ∷ rows) (n + 0) ≡ s = get_or-append-add old (s ∷ rows) 0 (steps.Const false) in
      let here : n + 0 ≡ n = omega arith in
      let is : step_at (old ++ s ∷ rows) n ≡ s = ap (step_at (old ++ s ∷ rows)) (sym here) ∙ at in
      All-from_recursion (ReadsEarlier nets n) (s ∷ []) (subst (ReadsEarlier nets n) is (ordered n (omega (arith, length-append old (s ∷ rows)))), tt)

  one-cell : (old : List BitStep) (s : BitStep) → is_operator s ≡ true → filter_map (row_cell nets old) (s ∷ []) ≡ step_term nets s (term_at nets old) ∷ []
  one-cell old s is = ap (λ b. filter_map (λ t. t) ((if b then Some (step_term nets s (term_at nets old)) else None) ∷ [])) is

  pub operators-run : (old rows : List BitStep) → AreOrdered nets (old ++ rows) → AreOperators rows
      → operators nets (old ++ rows) ≡ operators nets old ++ map (term_at nets (old ++ rows)) (range_with_len (length old) (length rows))
  operators-run old [] ordered are = ap (operators nets) (append-nil old) ∙ sym (append-nil (operators nets old))
  operators-run old (s ∷ rows) ordered are =
      let next = old ++ s ∷ [] in
      let split : old ++ s ∷ rows ≡ next ++ rows = sym (append_assoc old (s ∷ []) rows) in
      let ordered' : AreOrdered nets (next ++ rows) = subst (AreOrdered nets) split ordered in
      let prefix = ordered-prefix old (s ∷ rows) ordered in
      let reads = first-reads old rows s ordered in
      let here : length old + 0 ≡ length old = omega arith in
      let there : length next ≡ length old + 1 = length-append old (s ∷ []) in
      let first : step_term nets s (term_at nets old) ≡ term_at nets (next ++ rows) (length old) =
      sym (ap (term_at nets next) (sym here) ∙ row-term nets old (s ∷ []) prefix reads 0 (omega arith)) ∙ sym (term-more nets next rows (ordered-prefix next rows ordered') (length old) (omega (arith, there))) in
      let one : operators nets next ≡ operators nets old ++ term_at nets (next ++ rows) (length old) ∷ [] =
      operators-rows nets old (s ∷ []) prefix reads ∙ ap (λ l. operators nets old ++ l) (one-cell old s are.0 ∙ ap (λ t. t ∷ []) first) in
      ap (operators nets) split
      ∙ operators-run next rows ordered' are.1
      ∙ ap₂ (λ l k. l ++ map (term_at nets (next ++ rows)) (range_with_len k (length rows))) one there
      ∙ append_assoc (operators nets old) (term_at nets (next ++ rows) (length old) ∷ []) (map (term_at nets (next ++ rows)) (range_with_len (length old + 1) (length rows)))
      ∙ ap (λ all. operators nets old ++ map (term_at nets all) (range_with_len (length old) (length (s ∷ rows)))) (sym split)

  -- a constant more is no cell
  constant-reads : (n : ℕ) (bit needed : Bool) → AllByRecursion (ReadsEarlier nets n) (constant_steps bit needed)
  constant-reads n bit true = (tt, tt)
  constant-reads n bit false = tt

  constant-cells : (old : List BitStep) (bit needed : Bool) → filter_map (row_cell nets old) (constant_steps bit needed) ≡ []
  constant-cells old bit true = refl
  constant-cells old bit false = refl

  pub constant-kept : (old : List BitStep) (bit needed : Bool) → AreOrdered nets old → AreOrdered nets (old ++ constant_steps bit needed) × (operators nets (old ++ constant_steps bit needed) ≡ operators nets old)
  constant-kept old bit needed ordered =
      let reads = All-from_recursion (ReadsEarlier nets (length old)) (constant_steps bit needed) (constant-reads (length old) bit needed) in
      (ordered-rows nets old (constant_steps bit needed) ordered reads, operators-rows nets old (constant_steps bit needed) ordered reads ∙ ap (λ l. operators nets old ++ l) (constant-cells old bit needed) ∙ append-nil (operators nets old))
