-- What each kind of row makes: constants and bits of nets, zeros on the left, complements, operators between bits, whether some
-- bit is 1, and a choice.
use Rattle.std.proofs.Common.{◌≡◌, ℕ, zero, suc, ◌+◌, ◌-◌, ◌*◌, ◌<◌, ◌≤◌, true, false, List, [], ◌∷◌, ◌++◌, length, map, Some, None, refl, sym, ap, ap₂, ◌∙◌, subst, arith, length-append, append-nil}
use Rattle.std.specs.Prelude.{All, replicate, if◌then◌else◌}
use Rattle.std.specs.List.{AllByRecursion, filter_map, cons_option, range_with_len}
use Rattle.std.proofs.lemmas.List.{length-map, length-replicate, map-append}
use Rattle.std.proofs.lemmas.List.Elements.{All-from_recursion, recursion_from_All, All-append, All-weaker, All-from_get_or}
use Rattle.std.proofs.lemmas.List.FromFn.{length-range_with_len, get_or-range_with_len}
use Rattle.bb_names.specs.declared.net.NetInfo.{NetInfo}
use Rattle.bb_expr.specs.declared.step.BitStep.{BitStep}
use Rattle.bb_expr.specs.declared.step.BitStep.TheVariants as steps
use Rattle.bb_expr.specs.Lists.{extended}
use Rattle.bb_expr.specs.Terms.{Term, Const, Not}
use Rattle.bb_expr.specs.Cells.{MadeTerms, without_cells, complement_terms}
use Rattle.bb_expr.specs.Lowered.{step_term, term_at, ReadsEarlier, is_operator}
use Rattle.bb_expr.specs.Inside.Growing.{Adds, AddsRow}
use Rattle.bb_expr.proofs.StepLemmas.{reads-later}
use Rattle.bb_expr.proofs.RowLemmas.{row_cell, terms-of-rows, terms-kept, adds-nothing, adds-rows}

range-below : (a n : ℕ) → All (λ k. k < a + n) (range_with_len a n)
range-below a n = All-from_get_or (λ k. k < a + n) (range_with_len a n) 0 (λ i lt. omega (arith, get_or-range_with_len a n i 0 (omega (arith, lt, length-range_with_len a n)), lt, length-range_with_len a n))

-- steps that are no operators, and read nothing
abbrev pub AreLeaves : List NetInfo → List BitStep → Type 0
AreLeaves nets rows = AllByRecursion (λ s. (is_operator s ≡ false) × ReadsEarlier nets 0 s) rows

abbrev pub leaf_term : List NetInfo → BitStep → Term
leaf_term nets s = step_term nets s (λ k. Const false)

module _ (nets : List NetInfo) where
  leaf-same : (s : BitStep) (v : ℕ → Term) → is_operator s ≡ false → step_term nets s v ≡ leaf_term nets s
  leaf-same (steps.Const b) v h = refl
  leaf-same (steps.Net k i) v h = refl
  leaf-same (steps.Not a) v h = cc
  leaf-same (steps.And a b) v h = cc
  leaf-same (steps.Or a b) v h = cc
  leaf-same (steps.Xor a b) v h = cc
  leaf-same (steps.Mux c t e) v h = cc

  leaves-read : (n : ℕ) (rows : List BitStep) → AreLeaves nets rows → AllByRecursion (ReadsEarlier nets n) rows
  leaves-read n [] h = tt
  leaves-read n (s ∷ rows) h = (reads-later nets 0 n s (omega arith) h.0.1, leaves-read n rows h.1)

  leaves-terms : (v : ℕ → Term) (rows : List BitStep) → AreLeaves nets rows → map (λ s. step_term nets s v) rows ≡ map (leaf_term nets) rows
  leaves-terms v [] h = refl
  leaves-terms v (s ∷ rows) h = ap₂ (λ a r. a ∷ r) (leaf-same s v h.0.0) (leaves-terms v rows h.1)

  leaves-cells : (all rows : List BitStep) → AreLeaves nets rows → filter_map (row_cell nets all) rows ≡ []
  leaves-cells all [] h = refl
  leaves-cells all (s ∷ rows) h =
      ap (λ b. cons_option (if b then Some (step_term nets s (term_at nets all)) else None) (filter_map (row_cell nets all) rows)) h.0.0 ∙ leaves-cells all rows h.1

  pub operator-cells : (all rows : List BitStep) → AllByRecursion (λ s. is_operator s ≡ true) rows → filter_map (row_cell nets all) rows ≡ map (λ s. step_term nets s (term_at nets all)) rows
  operator-cells all [] h = refl
  operator-cells all (s ∷ rows) h =
      ap (λ b. cons_option (if b then Some (step_term nets s (term_at nets all)) else None) (filter_map (row_cell nets all) rows)) h.0
      ∙ ap (λ r. step_term nets s (term_at nets all) ∷ r) (operator-cells all rows h.1)

  -- constants and bits of nets
  pub adds-leaves : (rows old new : List BitStep) (out : List ℕ) → AddsRow rows old new out → AreLeaves nets rows → Adds nets (without_cells (map (leaf_term nets) rows)) old new out
  adds-leaves rows old new out row leaves =
      subst (Adds nets (without_cells (map (leaf_term nets) rows)) old new) (sym row.numbered)
      (adds-rows nets (without_cells []) old old new rows [] (range_with_len (length old) (length rows)) (map (leaf_term nets) rows) [] (adds-nothing nets old) row.grows
      (All-from_recursion (ReadsEarlier nets (length old)) rows (leaves-read (length old) rows leaves))
      (range-below (length old) (length rows))
      (length-range_with_len (length old) (length rows) ∙ sym (length-map rows (leaf_term nets))) (omega (arith, length-range_with_len (length old) (length rows)))
      (λ ordered same. (
        terms-of-rows nets old rows ordered (All-from_recursion (ReadsEarlier nets (length old)) rows (leaves-read (length old) rows leaves)) ∙ leaves-terms (term_at nets old) rows leaves,
        leaves-cells old rows leaves,
      )))

  zeros-leaves : (n : ℕ) → AreLeaves nets (replicate n (steps.Const false))
  zeros-leaves zero = tt
  zeros-leaves (suc n) = ((refl, tt), zeros-leaves n)

  zeros-terms : (v : ℕ → Term) (n : ℕ) → map (λ s. step_term nets s v) (replicate n (steps.Const false)) ≡ replicate n (Const false)
  zeros-terms v zero = refl
  zeros-terms v (suc n) = ap (λ r. Const false ∷ r) (zeros-terms v n)

  -- zeros on the left
  pub adds-extended : (m : MadeTerms) (old mid new : List BitStep) (bits out : List ℕ) (w : ℕ) → Adds nets m old mid bits → new ≡ mid ++ replicate (w - length bits) (steps.Const false)
      → out ≡ range_with_len (length mid) (w - length bits) ++ bits → Adds nets (record { bits = extended (Const false) w m.bits; cells = m.cells }) old new out
  adds-extended m old mid new bits out w x grows is =
      let n = w - length bits in
      let rows = replicate n (steps.Const false) in
      let range = range_with_len (length mid) n in
      let count : length rows ≡ n = length-replicate n (steps.Const false) in
      let reads = All-from_recursion (ReadsEarlier nets (length mid)) rows (leaves-read (length mid) rows (zeros-leaves n)) in
      let zeros : extended (Const false) w m.bits ≡ replicate n (Const false) ++ m.bits = ap (λ k. replicate (w - k) (Const false) ++ m.bits) (sym x.long) in
      subst (λ cells. Adds nets (record { bits = extended (Const false) w m.bits; cells = cells }) old new out) (append-nil m.cells)
      (subst (λ b. Adds nets (record { bits = b; cells = m.cells ++ [] }) old new out) (sym zeros)
      (subst (Adds nets (record { bits = replicate n (Const false) ++ m.bits; cells = m.cells ++ [] }) old new) (sym is)
      (adds-rows nets m old mid new rows bits (range ++ bits) (replicate n (Const false) ++ m.bits) [] x grows reads
      (All-append (λ k. k < length mid + length rows) range bits
      (All-weaker (λ k. k < length mid + n) (λ k. k < length mid + length rows) (λ k lt. omega (arith, lt, count)) range (range-below (length mid) n))
      (All-weaker (λ k. k < length mid) (λ k. k < length mid + length rows) (λ k lt. omega (arith, lt)) bits x.within))
      (omega (arith, length-append range bits, length-range_with_len (length mid) n, length-append (replicate n (Const false)) m.bits, length-replicate n (Const false), x.long))
      (omega (arith, length-append range bits, length-range_with_len (length mid) n, count))
      (λ ordered same. (
        map-append (term_at nets (mid ++ rows)) range bits
            ∙ ap₂ (λ a b. a ++ b)
            (ap (λ k. map (term_at nets (mid ++ rows)) (range_with_len (length mid) k)) (sym count) ∙ terms-of-rows nets mid rows ordered reads ∙ zeros-terms (term_at nets mid) n)
            (terms-kept nets mid rows ordered bits x.within ∙ same),
        leaves-cells mid rows (zeros-leaves n),
      )))))

  -- a row of operators that read all of the bits
  pub adds-operators : (m : MadeTerms) (old mid new rows : List BitStep) (bits out : List ℕ) (cells : List Term) → Adds nets m old mid bits → AddsRow rows mid new out
      → AllByRecursion (ReadsEarlier nets (length mid)) rows → AllByRecursion (λ s. is_operator s ≡ true) rows
      → length rows ≡ length cells → length bits ≤ 3 * length rows
      → (map (term_at nets mid) bits ≡ m.bits → map (λ s. step_term nets s (term_at nets mid)) rows ≡ cells)
      → Adds nets (record { bits = cells; cells = m.cells ++ cells }) old new out
  adds-operators m old mid new rows bits out cells x row reads are count fits terms =
      let range = range_with_len (length mid) (length rows) in
      let reading = All-from_recursion (ReadsEarlier nets (length mid)) rows reads in
      subst (Adds nets (record { bits = cells; cells = m.cells ++ cells }) old new) (sym row.numbered)
      (adds-rows nets m old mid new rows bits range cells cells x row.grows reading (range-below (length mid) (length rows))
      (length-range_with_len (length mid) (length rows) ∙ count) (omega (arith, length-range_with_len (length mid) (length rows), count, fits))
      (λ ordered same. (terms-of-rows nets mid rows ordered reading ∙ terms same, operator-cells mid rows are ∙ terms same)))

  nots-read : (n : ℕ) (bits : List ℕ) → AllByRecursion (λ k. k < n) bits → AllByRecursion (ReadsEarlier nets n) (map steps.Not bits)
  nots-read n [] h = tt
  nots-read n (b ∷ bits) h = (h.0, nots-read n bits h.1)

  nots-are : (bits : List ℕ) → AllByRecursion (λ s. is_operator s ≡ true) (map steps.Not bits)
  nots-are [] = tt
  nots-are (b ∷ bits) = (refl, nots-are bits)

  nots-terms : (v : ℕ → Term) (bits : List ℕ) → map (λ s. step_term nets s v) (map steps.Not bits) ≡ map Not (map v bits)
  nots-terms v [] = refl
  nots-terms v (b ∷ bits) = ap (λ r. Not (v b) ∷ r) (nots-terms v bits)

  -- a complement of each bit
  pub adds-inverted : (m : MadeTerms) (old mid new : List BitStep) (bits out : List ℕ) → Adds nets m old mid bits → AddsRow (map steps.Not bits) mid new out
      → Adds nets (record { bits = complement_terms m.bits; cells = m.cells ++ complement_terms m.bits }) old new out
  adds-inverted m old mid new bits out x row =
      adds-operators m old mid new (map steps.Not bits) bits out (complement_terms m.bits) x row (nots-read (length mid) bits (recursion_from_All (λ k. k < length mid) bits x.within)) (nots-are bits)
      (length-map bits steps.Not ∙ x.long ∙ sym (length-map m.bits Not)) (omega (arith, length-map bits steps.Not))
      (λ same. nots-terms (term_at nets mid) bits ∙ ap (map Not) same)
