-- A pasted netlist adds the bits and the cells of its circuit, where the inputs are made of given terms.
use Rattle.std.proofs.Common.{◌≡◌, ℕ, zero, suc, ◌+◌, ◌*◌, ◌<◌, ◌≤◌, Bool, true, false, List, [], ◌∷◌, ◌++◌, map, length, drop, reverse, refl, sym, ap, ap₂, ◌∙◌, subst, arith, length-append, append_assoc}
use Rattle.std.specs.Prelude.{All, slice_index_or, nat_eq}
use Rattle.std.specs.List.{AllByRecursion, range_with_len}
use Rattle.std.specs.List.Sorted.{IsPermutation}
use Rattle.std.proofs.lemmas.Bool.{eq-eqb, or_left, or_right}
use Rattle.std.proofs.lemmas.List.{get_or_append_left, get_or-append-add, get_or-map, length-map, length-drop}
use Rattle.std.proofs.lemmas.List.Elements.{All-get_or, All-from_recursion}
use Rattle.std.proofs.lemmas.List.Folds.{list_any_at}
use Rattle.std.proofs.lemmas.List.Sorted.{IsPermutation-append_left}
use Rattle.bb_lemmas.proofs.Maps.{reverse-map}
use Rattle.bb_names.specs.declared.net.NetInfo.{NetInfo}
use Rattle.bb_net.specs.declared.cell.Cell.{Cell}
use Rattle.bb_net.specs.declared.cell.Cell.TheVariants as cells
use Rattle.bb_net.specs.Netlists.{Netlist, cell_at}
use Rattle.bb_word.specs.Laws.Formulas.{Formula, cell_formula, formula_at}
use Rattle.bb_word.specs.Gates.{Made as Circuit, mapped}
use Rattle.bb_word.specs.Inside.Nets.{IsCircuit}
use Rattle.bb_expr.specs.declared.step.BitStep.{BitStep}
use Rattle.bb_expr.specs.declared.step.BitStep.TheVariants as steps
use Rattle.bb_expr.specs.Terms.{Term, Const}
use Rattle.bb_expr.specs.Cells.{MadeTerms}
use Rattle.bb_expr.specs.Lowered.{step_term, term_at, ReadsEarlier, operators}
use Rattle.bb_expr.specs.Inside.Growing.{step_at, AreOrdered, AreSteps, Adds}
use Rattle.bb_expr.specs.Inside.Instantiation.{is_read, read_by, is_out, after_inputs, is_needed, constant_steps, with_zero, with_constants, moved, instantiated, IsInstantiated, formula_term, is_gate}
use Rattle.bb_expr.proofs.StepLemmas.{term-more, term-step}
use Rattle.bb_expr.proofs.InstantiateGates.{AreGates}
use Rattle.bb_expr.proofs.InstantiateTerms.{gate-operator, instantiated-term, instantiated-reads, read-before}
use Rattle.bb_expr.proofs.InstantiateRows.{AreOperators, ordered-run, operators-run, constant-kept}
use Rattle.bb_expr.proofs.InstantiatedPlaces.{Zero, One, In, After, site, moved-input, moved-after, prefix_there, zero-formula, one-formula, input-formula, after-there, after-length, after-formula, after-reads, out-there}

gates-operators : (part : ℕ → Formula) (to : ℕ → ℕ) (all : List Cell) → AreGates (map (cell_formula part) all) → AreOperators (map (instantiated to) all)
gates-operators part to [] h = tt
gates-operators part to (c ∷ all) h = (sym (gate-operator part to c) ∙ h.0, gates-operators part to all h.1)

gate-at : (part : ℕ → Formula) (all : List Cell) (i : ℕ) → i < length all → AreGates (map (cell_formula part) all) → is_gate (cell_formula part (cell_at all i)) ≡ true
gate-at part [] i lt h = absurd (omega (arith, lt))
gate-at part (c ∷ all) zero lt h = h.0
gate-at part (c ∷ all) (suc i) lt h = gate-at part all i (omega (arith, lt)) h.1

map-run : (v : ℕ → Term) (g : Cell → Term) (a : ℕ) (all : List Cell) → ((i : ℕ) → i < length all → v (a + i) ≡ g (cell_at all i)) → map v (range_with_len a (length all)) ≡ map g all
map-run v g a [] same = refl
map-run v g a (c ∷ all) same =
    ap₂ (λ x r. x ∷ r) (subst (λ k. v k ≡ g c) (let e : a + 0 ≡ a = omega arith in e) (same 0 (omega arith)))
    (map-run v g (a + 1) all (λ i lt. subst (λ k. v k ≡ g (cell_at all i)) (let e : a + suc i ≡ (a + 1) + i = omega arith in e) (same (suc i) (omega (arith, lt)))))

map-twice : {X Y Z : Type 0} (f : Y → Z) (g : X → Y) (xs : List X) → map f (map g xs) ≡ map (λ x. f (g x)) xs
map-twice f g [] = refl
map-twice f g (x ∷ xs) = ap (λ r. f (g x) ∷ r) (map-twice f g xs)

map-outs : (v w : ℕ → Term) (to : ℕ → ℕ) (outs : List ℕ) → ((j : ℕ) → is_out j outs ≡ true → v (to j) ≡ w j) → map v (map to outs) ≡ map w outs
map-outs v w to [] same = refl
map-outs v w to (j ∷ outs) same =
    ap₂ (λ x r. x ∷ r) (same j (or_left (nat_eq j j) (is_out j outs) (eq-eqb j j refl)))
    (map-outs v w to outs (λ k h. same k (or_right (nat_eq j k) (is_out k outs) h)))

all-outs : (P : ℕ → Type 0) (to : ℕ → ℕ) (outs : List ℕ) → ((j : ℕ) → is_out j outs ≡ true → P (to j)) → AllByRecursion P (map to outs)
all-outs P to [] each = tt
all-outs P to (j ∷ outs) each = (each j (or_left (nat_eq j j) (is_out j outs) (eq-eqb j j refl)), all-outs P to outs (λ k h. each k (or_right (nat_eq j k) (is_out k outs) h)))

constant-at : (old : List BitStep) (bit needed : Bool) → needed ≡ true → (length old < length (old ++ constant_steps bit needed)) × (step_at (old ++ constant_steps bit needed) (length old) ≡ steps.Const bit)
constant-at old bit true is = (
  omega (arith, length-append old (steps.Const bit ∷ [])),
  ap (step_at (old ++ steps.Const bit ∷ [])) (let e : length old ≡ length old + 0 = omega arith in e) ∙ get_or-append-add old (steps.Const bit ∷ []) 0 (steps.Const false),
)
constant-at old bit false is = cc

-- a constant counts only where something reads it
abbrev pub IsNeeded : Netlist → ℕ → Type 0
IsNeeded net j = (j ≡ 0 → is_needed net 0 ≡ true) × (j ≡ 1 → is_needed net 1 ≡ true)

module _ (nets : List NetInfo) (net : Netlist) (inputs places : List ℕ) (mid new : List BitStep) (is : IsInstantiated net inputs mid new places) (none : net.boxes ≡ []) (count : net.inputs ≡ length inputs) where
  abbrev to : ℕ → ℕ
  to = moved is.at inputs

  abbrev part : ℕ → Formula
  part = formula_at net.cells

  abbrev base : List BitStep
  base = with_constants net mid

  abbrev rows : List BitStep
  rows = map (instantiated to) (after_inputs net)

  abbrev all : List BitStep
  all = base ++ rows

  same-after : (i : ℕ) → (2 + net.inputs) + i ≡ (2 + length inputs) + i
  same-after i = omega (arith, count)

  to-after : (i : ℕ) → to ((2 + net.inputs) + i) ≡ length base + i
  to-after i = ap to (same-after i) ∙ moved-after is.at inputs i ∙ ap (λ n. n + i) is.first

  -- what a cell or an output reads is needed
  read-needed : (i j : ℕ) → i < length (after_inputs net) → is_read j (cell_at (after_inputs net) i) ≡ true → IsNeeded net j
  read-needed i j lt h =
      let read : read_by j (after_inputs net) ≡ true = list_any_at (is_read j) (after_inputs net) i (cells.Const false) lt h in
      let needed : is_needed net j ≡ true = or_left (read_by j (after_inputs net)) (is_out j net.outs) read in
      (λ e. subst (λ k. is_needed net k ≡ true) e needed, λ e. subst (λ k. is_needed net k ≡ true) e needed)

  out-needed : (j : ℕ) → is_out j net.outs ≡ true → IsNeeded net j
  out-needed j h =
      let needed : is_needed net j ≡ true = or_right (read_by j (after_inputs net)) (is_out j net.outs) h in
      (λ e. subst (λ k. is_needed net k ≡ true) e needed, λ e. subst (λ k. is_needed net k ≡ true) e needed)

  zero-there : length mid ≤ length (with_zero net mid)
  zero-there = omega (arith, length-append mid (constant_steps false (is_needed net 0)))

  one-there : length (with_zero net mid) ≤ length base
  one-there = omega (arith, length-append (with_zero net mid) (constant_steps true (is_needed net 1)))

  -- a place moves to one that precedes what reads it
  moved-below : All (λ k. k < length mid) inputs → (i j : ℕ) → j < (2 + net.inputs) + i → IsNeeded net j → to j < length base + i
  moved-below within i j lt needed = elim (site net.inputs j) [
    | Zero e ↦ subst (λ k. to k < length base + i) (sym e)
        (omega (arith, is.zero (needed.0 e), (constant-at mid false (is_needed net 0) (needed.0 e)).0, one-there))
    | One e ↦ subst (λ k. to k < length base + i) (sym e)
        (omega (arith, is.one (needed.1 e), (constant-at (with_zero net mid) true (is_needed net 1) (needed.1 e)).0))
    | In k below e ↦ subst (λ k. to k < length base + i) (sym e)
        (omega (arith, moved-input is.at inputs k (omega (arith, below, count)), All-get_or (λ k. k < length mid) inputs k 0 (omega (arith, below, count)) within, zero-there, one-there))
    | After h e ↦ subst (λ k. to k < length base + i) (sym e) (omega (arith, to-after h, lt, e))
  ]

  step-reads : All (λ k. k < length mid) inputs → (i : ℕ) → i < length rows → ReadsEarlier nets (length base + i) (step_at rows i)
  step-reads within i lt =
      let lt' : i < length (after_inputs net) = omega (arith, lt, length-map (after_inputs net) (instantiated to)) in
      let c = cell_at (after_inputs net) i in
      subst (ReadsEarlier nets (length base + i)) (sym (get_or-map (instantiated to) (after_inputs net) i (cells.Const false) (steps.Const false) lt'))
      (instantiated-reads nets (length base + i) to c (λ k h. moved-below within i k (read-before net.inputs ((2 + net.inputs) + i) k c (after-reads net is.kept none i lt') h) (read-needed i k lt' h)))

  base-ordered : AreOrdered nets mid → AreOrdered nets base × (operators nets base ≡ operators nets mid)
  base-ordered ordered =
      let a = constant-kept nets mid false (is_needed net 0) ordered in
      let b = constant-kept nets (with_zero net mid) true (is_needed net 1) a.0 in
      (b.0, b.1 ∙ a.1)

  all-ordered : All (λ k. k < length mid) inputs → AreOrdered nets mid → AreOrdered nets all
  all-ordered within ordered = ordered-run nets base rows (base-ordered ordered).0 (step-reads within)

  -- all of the steps after those of the operands
  all-more : all ≡ mid ++ (constant_steps false (is_needed net 0) ++ (constant_steps true (is_needed net 1) ++ rows))
  all-more = append_assoc (with_zero net mid) (constant_steps true (is_needed net 1)) rows ∙ append_assoc mid (constant_steps false (is_needed net 0)) (constant_steps true (is_needed net 1) ++ rows)

  module _ (terms : List Term) (within : All (λ k. k < length mid) inputs) (ordered : AreOrdered nets mid) (same : map (term_at nets mid) inputs ≡ terms) (gates : AreGates (map (cell_formula part) (after_inputs net))) where
    abbrev v : ℕ → Term
    v = term_at nets all

    v-step : (k : ℕ) → k < length all → v k ≡ step_term nets (step_at all k) v
    v-step k lt = term-step nets all (all-ordered within ordered) k lt

    v-base : (k : ℕ) → k < length base → v k ≡ step_term nets (step_at base k) v
    v-base k lt = v-step k (omega (arith, lt, length-append base rows)) ∙ ap (λ s. step_term nets s v) (get_or_append_left base rows (steps.Const false) k lt)

    v-zero : is_needed net 0 ≡ true → v (to 0) ≡ Const false
    v-zero needed =
        let at = constant-at mid false (is_needed net 0) needed in
        ap v (is.zero needed) ∙ v-base (length mid) (omega (arith, at.0, one-there))
        ∙ ap (λ s. step_term nets s v) (get_or_append_left (with_zero net mid) (constant_steps true (is_needed net 1)) (steps.Const false) (length mid) at.0 ∙ at.1)

    v-one : is_needed net 1 ≡ true → v (to 1) ≡ Const true
    v-one needed =
        let at = constant-at (with_zero net mid) true (is_needed net 1) needed in
        ap v (is.one needed) ∙ v-base (length (with_zero net mid)) at.0 ∙ ap (λ s. step_term nets s v) at.1

    v-input : (k : ℕ) → k < length inputs → v (to (2 + k)) ≡ slice_index_or terms k (Const false)
    v-input k lt =
        let place = slice_index_or inputs k 0 in
        let below : place < length mid = All-get_or (λ k. k < length mid) inputs k 0 lt within in
        ap v (moved-input is.at inputs k lt)
        ∙ ap (λ l. term_at nets l place) all-more
        ∙ term-more nets mid (constant_steps false (is_needed net 0) ++ (constant_steps true (is_needed net 1) ++ rows)) ordered place below
        ∙ sym (get_or-map (term_at nets mid) inputs k 0 (Const false) lt)
        ∙ ap (λ l. slice_index_or l k (Const false)) same

    -- what a moved place is made of
    moved-within : (bound j : ℕ) → j < bound → j < length net.cells → IsNeeded net j → v (to j) ≡ formula_term terms (part j)
    moved-within zero j lt there needed = absurd (omega (arith, lt))
    moved-within (suc bound) j lt there needed = elim (site net.inputs j) [
      | Zero e ↦ subst (λ k. v (to k) ≡ formula_term terms (part k)) (sym e) (v-zero (needed.0 e) ∙ sym (ap (formula_term terms) (zero-formula net is.kept)))
      | One e ↦ subst (λ k. v (to k) ≡ formula_term terms (part k)) (sym e) (v-one (needed.1 e) ∙ sym (ap (formula_term terms) (one-formula net is.kept)))
      | In k below e ↦ subst (λ k. v (to k) ≡ formula_term terms (part k)) (sym e)
          (v-input k (omega (arith, below, count)) ∙ sym (ap (formula_term terms) (input-formula net is.kept k below)))
      | After i e ↦
          let lt' : i < length (after_inputs net) = after-length net is.kept j i e there in
          let c = cell_at (after_inputs net) i in
          let at : step_at all (length base + i) ≡ instantiated to c =
          get_or-append-add base rows i (steps.Const false) ∙ get_or-map (instantiated to) (after_inputs net) i (cells.Const false) (steps.Const false) lt' in
          subst (λ k. v (to k) ≡ formula_term terms (part k)) (sym e)
          (ap v (to-after i)
          ∙ v-step (length base + i) (omega (arith, lt', length-append base rows, length-map (after_inputs net) (instantiated to)))
          ∙ ap (λ s. step_term nets s v) at
          ∙ instantiated-term nets terms v part to c (gate-at part (after_inputs net) i lt' gates)
          (λ k h.
          let below = read-before net.inputs ((2 + net.inputs) + i) k c (after-reads net is.kept none i lt') h in
          moved-within bound k (omega (arith, below, e, lt)) (omega (arith, below, e, there)) (read-needed i k lt' h))
          ∙ sym (ap (formula_term terms) (after-formula net is.kept i lt')))
    ]

    pub moved-term : (j : ℕ) → j < length net.cells → IsNeeded net j → v (to j) ≡ formula_term terms (part j)
    moved-term j there needed = moved-within (suc j) j (omega arith) there needed

    pub moved-outs : map v (map to net.outs) ≡ map (formula_term terms) (map part net.outs)
    moved-outs =
        map-outs v (λ j. formula_term terms (part j)) to net.outs (λ j h. moved-term j (out-there (λ k. k < length net.cells) net.outs is.kept.outs_there j h) (out-needed j h))
        ∙ sym (map-twice (formula_term terms) part net.outs)

    run-at : (i : ℕ) → i < length (after_inputs net) → v (length base + i) ≡ formula_term terms (cell_formula part (cell_at (after_inputs net) i))
    run-at i lt =
        let fresh : (2 + net.inputs) + i ≡ 0 → ⊥ = λ e. omega (arith, e) in
        let fresh' : (2 + net.inputs) + i ≡ 1 → ⊥ = λ e. omega (arith, e) in
        ap v (sym (to-after i))
        ∙ moved-term ((2 + net.inputs) + i) (after-there net is.kept i lt) (λ e. absurd (fresh e), λ e. absurd (fresh' e))
        ∙ ap (formula_term terms) (after-formula net is.kept i lt)

    pub all-operators : operators nets all ≡ operators nets mid ++ map (formula_term terms) (map (cell_formula part) (after_inputs net))
    all-operators =
        operators-run nets base rows (all-ordered within ordered) (gates-operators part to (after_inputs net) gates)
        ∙ ap₂ (λ a b. a ++ b) (base-ordered ordered).1
        (ap (λ n. map v (range_with_len (length base) n)) (length-map (after_inputs net) (instantiated to))
        ∙ map-run v (λ c. formula_term terms (cell_formula part c)) (length base) (after_inputs net) run-at
        ∙ sym (map-twice (formula_term terms) (cell_formula part) (after_inputs net)))

-- how many constants the netlist needs
abbrev pub constant_count : Netlist → ℕ
constant_count net = length (constant_steps false (is_needed net 0)) + length (constant_steps true (is_needed net 1))

-- the operator's bits and cells after those of its operands
pub adds-instantiated : (nets : List NetInfo) (net : Netlist) (circuit : Circuit Formula) (target : Circuit Term) (x : MadeTerms) (old mid new : List BitStep) (inputs places : List ℕ)
    → Adds nets x old mid inputs → IsInstantiated net inputs mid new places → IsCircuit net (length inputs) circuit → AreGates circuit.cells → mapped (formula_term x.bits) circuit ≡ target
    → length inputs + constant_count net ≤ length net.outs + 2 * length circuit.cells
    → Adds nets (record { bits = reverse target.bits; cells = x.cells ++ target.cells }) old new places
adds-instantiated nets net circuit target x old mid new inputs places adds is circ gates image fits =
    let part = formula_at net.cells in
    let to = moved is.at inputs in
    let base = with_constants net mid in
    let rows = map (instantiated to) (after_inputs net) in
    let all = base ++ rows in
    let zeros = constant_steps false (is_needed net 0) in
    let ones = constant_steps true (is_needed net 1) in
    let made-cells : map (cell_formula part) (after_inputs net) ≡ circuit.cells = ap (λ n. map (cell_formula part) (drop (n + 2) net.cells)) circ.inputs ∙ circ.cells in
    let gates' : AreGates (map (cell_formula part) (after_inputs net)) = subst AreGates (sym made-cells) gates in
    let cells' : map (formula_term x.bits) (map (cell_formula part) (after_inputs net)) ≡ target.cells = ap (map (formula_term x.bits)) made-cells ∙ ap (λ z. z.cells) image in
    let bits' : map (formula_term x.bits) (map part net.outs) ≡ reverse target.bits =
    ap (map (formula_term x.bits)) circ.outs ∙ reverse-map (formula_term x.bits) circuit.bits ∙ ap (λ z. reverse z.bits) image in
    let grown : all ≡ mid ++ (zeros ++ (ones ++ rows)) = all-more nets net inputs places mid new is circ.boxes circ.inputs in
    let row-count : length rows ≡ length circuit.cells = length-map (after_inputs net) (instantiated to) ∙ sym (length-map (after_inputs net) (cell_formula part)) ∙ ap length made-cells in
    let target-count : length target.cells ≡ length circuit.cells = ap (λ z. length z.cells) (sym image) ∙ length-map circuit.cells (formula_term x.bits) in
    let out-count : length places ≡ length net.outs = ap length is.outs ∙ length-map net.outs to in
    record {
      more = adds.more ++ (zeros ++ (ones ++ rows));
      grows = is.steps ∙ grown ∙ ap (λ l. l ++ (zeros ++ (ones ++ rows))) adds.grows ∙ append_assoc old adds.more (zeros ++ (ones ++ rows));
      within = subst (λ l. All (λ k. k < length new) l) (sym is.outs)
          (subst (λ n. All (λ k. k < n) (map to net.outs)) (sym (ap length is.steps))
          (All-from_recursion (λ k. k < length all) (map to net.outs) (all-outs (λ k. k < length all) to net.outs
          (λ j h. omega (
            arith,
            moved-below nets net inputs places mid new is circ.boxes circ.inputs adds.within (length (after_inputs net)) j
                (omega (arith, out-there (λ k. k < length net.cells) net.outs is.kept.outs_there j h, prefix_there net is.kept, length-drop (net.inputs + 2) net.cells))
                (out-needed nets net inputs places mid new is circ.boxes circ.inputs j h),
            length-append base rows,
            length-map (after_inputs net) (instantiated to),
          )))));
      long = out-count ∙ sym (length-map net.outs part) ∙ sym (length-map (map part net.outs) (formula_term x.bits)) ∙ ap length bits';
      few = omega (arith, adds.few, fits, ap length (is.steps ∙ grown), length-append mid (zeros ++ (ones ++ rows)), length-append zeros (ones ++ rows), length-append ones rows, row-count, target-count, out-count, length-append x.cells target.cells);
      makes = λ before h.
          let p = adds.makes before h in
          let operators' = all-operators nets net inputs places mid new is circ.boxes circ.inputs x.bits adds.within p.0.earlier p.1 gates' in
          let outs' = moved-outs nets net inputs places mid new is circ.boxes circ.inputs x.bits adds.within p.0.earlier p.1 gates' in
          let cells-made : operators nets all ≡ operators nets mid ++ target.cells = operators' ∙ ap (λ l. operators nets mid ++ l) cells' in
          let made : AreSteps nets all (before ++ (x.cells ++ target.cells)) = record {
            earlier = all-ordered nets net inputs places mid new is circ.boxes circ.inputs adds.within p.0.earlier;
            made = subst (λ l. IsPermutation l (operators nets all)) (append_assoc before x.cells target.cells)
                (subst (IsPermutation ((before ++ x.cells) ++ target.cells)) (sym cells-made) (IsPermutation-append_left target.cells (before ++ x.cells) (operators nets mid) p.0.made));
          } in (
            subst (λ l. AreSteps nets l (before ++ (x.cells ++ target.cells))) (sym is.steps) made,
            ap₂ (λ l k. map (term_at nets l) k) is.steps is.outs ∙ outs' ∙ bits',
          );
    }
