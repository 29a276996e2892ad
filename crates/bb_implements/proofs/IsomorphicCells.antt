-- The operators in two lists of cells of one design have the same formulas, each as often: those of expressions are, one for one, the
-- cells of the expression, however it is lowered.
use Rattle.std.proofs.Common.{◌≡◌, ℕ, ◌+◌, ◌-◌, ◌<◌, ◌≤◌, Bool, true, false, if◌then◌else◌, List, [], ◌∷◌, ◌++◌, map, filter, flat_map, length, get_or, Contains, refl, sym, ap, ap₂, ◌∙◌, subst, arith}
use Rattle.std.specs.List.{enumerate_from, range_with_len}
use Rattle.std.specs.List.Sorted.{IsPermutation}
use Rattle.std.proofs.lemmas.List.{map-append}
use Rattle.std.proofs.lemmas.List.Elements.{filter-append}
use Rattle.std.proofs.lemmas.List.Sorted.{IsPermutation-refl, IsPermutation-sym, IsPermutation-trans, IsPermutation-append, IsPermutation-map}
use Rattle.bb_iso.specs.Laws.Formulas.{Formula}
use Rattle.bb_iso.specs.Laws.LooseFormulas.{AreLooseFormulas}
use Rattle.bb_ast.specs.declared.module.Gate.{Gate}
use Rattle.bb_ast.specs.declared.module.Gate.TheVariants as gates
use Rattle.bb_ast.specs.Syntax.{Expression, Plain}
use Rattle.bb_names.specs.Nets.{nets_of}
use Rattle.bb_expr.specs.declared.step.BitStep.{BitStep}
use Rattle.bb_expr.specs.declared.step.BitStep.TheVariants as steps
use Rattle.bb_expr.specs.Lowered.{operators, term_at}
use Rattle.bb_expr.specs.Terms.{Term}
use Rattle.bb_net.specs.Loose.{LooseList}
use Rattle.bb_net.specs.declared.loose.LooseCell.TheVariants as cell
use Rattle.bb_design.specs.Hierarchy.{Design, Scope, boxes}
use Rattle.bb_design.specs.NetBits.{Bit, output_bits}
use Rattle.bb_design.specs.Contexts.{made_in}
use Rattle.bb_design.specs.Constructs.{Construct, Assignment, GateInstance, Register, SupplyNet, InputConnection, OutputConnection, BoxContents, parts}
use Rattle.bb_design.specs.GateFunctions.{inverts}
use Rattle.bb_implements.specs.Places.{CellName, Step, Joined, Inverted, BoxPin, Numbering, lowered_in, Lowering, IsLowering, terminal_place, joined_place, step_cells, join_cell, joining_places, inverting_place, gate_places, places_at, box_places, operator_places, IsListOf}
use Rattle.bb_implements.proofs.IsomorphicPlaces.{there, here, step_here}
use Rattle.bb_implements.proofs.CellCounts.{is_kept, operator_entries, operators_from}
use Rattle.bb_lemmas.proofs.Numbered.{numbered_at}
use Rattle.bb_lemmas.proofs.Ranges.{from_range}
use Rattle.bb_implements.proofs.ListedEntries.{Entry}
use Rattle.bb_implements.proofs.ListedPlaces.{lowered_at}
use Rattle.bb_design.specs.Laws.Wired.{IsWired}
use Rattle.bb_implements.proofs.TermFormulas.{term_formula, formulas_in, step_formula}
use Rattle.bb_lemmas.proofs.Members.{contains_here, contains_there}

-- the formulas at the places of those that are no copies
abbrev pub kept_formulas : (CellName → Formula) → List Entry → List Formula
kept_formulas v xs = map (λ (x : Entry). v x.0) (filter (λ x. is_kept x.1) xs)

-- piece by piece

kept-append : (v : CellName → Formula) (xs ys : List Entry) → kept_formulas v (xs ++ ys) ≡ kept_formulas v xs ++ kept_formulas v ys
kept-append v xs ys = ap (map (λ (x : Entry). v x.0)) (filter-append (λ x. is_kept x.1) xs ys) ∙ map-append (λ (x : Entry). v x.0) (filter (λ x. is_kept x.1) xs) (filter (λ x. is_kept x.1) ys)

module _ (v w : CellName → Formula) where
  -- the one entries have the formulas of the others
  abbrev Isomorphism : List Entry → List Entry → Type 0
  Isomorphism xs ys = IsPermutation (kept_formulas v xs) (kept_formulas w ys)

  same_isomorphic : (xs ys : List Entry) → kept_formulas v xs ≡ kept_formulas w ys → Isomorphism xs ys
  same_isomorphic xs ys e = subst (IsPermutation (kept_formulas v xs)) e (IsPermutation-refl (kept_formulas v xs))

  both_isomorphic : (xs ys us zs : List Entry) → Isomorphism xs us → Isomorphism ys zs → Isomorphism (xs ++ ys) (us ++ zs)
  both_isomorphic xs ys us zs p q =
      subst (λ l. IsPermutation l (kept_formulas w (us ++ zs))) (sym (kept-append v xs ys))
      (subst (IsPermutation (kept_formulas v xs ++ kept_formulas v ys)) (sym (kept-append w us zs))
      (IsPermutation-append (kept_formulas v xs) (kept_formulas w us) (kept_formulas v ys) (kept_formulas w zs) p q))

  each_isomorphic : {A : Type 0} (f g : A → List Entry) (xs : List A) → ((x : A) → Contains xs x → Isomorphism (f x) (g x)) → Isomorphism (flat_map f xs) (flat_map g xs)
  each_isomorphic f g [] each = IsPermutation-refl []
  each_isomorphic f g (x ∷ xs) each = both_isomorphic (f x) (flat_map f xs) (g x) (flat_map g xs) (each x (contains_here x xs)) (each_isomorphic f g xs (λ y has. each y (contains_there x xs y has)))

  mapped_same : {A : Type 0} (f g : A → Entry) → ((x : A) → v (f x).0 ≡ w (g x).0) → ((x : A) → is_kept (f x).1 ≡ is_kept (g x).1) → (xs : List A) → kept_formulas v (map f xs) ≡ kept_formulas w (map g xs)
  mapped_same f g same kept [] = refl
  mapped_same f g same kept (x ∷ xs) =
      subst (λ b. kept_formulas v (map f (x ∷ xs)) ≡ map (λ (y : Entry). w y.0) (if b then g x ∷ filter (λ y. is_kept y.1) (map g xs) else filter (λ y. is_kept y.1) (map g xs))) (kept x) (by (is_kept (f x).1) (mapped_same f g same kept xs))
    where
      by : (b : Bool) → kept_formulas v (map f xs) ≡ kept_formulas w (map g xs)
          → map (λ (y : Entry). v y.0) (if b then f x ∷ filter (λ y. is_kept y.1) (map f xs) else filter (λ y. is_kept y.1) (map f xs)) ≡ map (λ (y : Entry). w y.0) (if b then g x ∷ filter (λ y. is_kept y.1) (map g xs) else filter (λ y. is_kept y.1) (map g xs))
      by true rest = ap₂ ◌∷◌ (same x) rest
      by false rest = rest

-- the operators among the steps of an expression

module _ (number : Numbering) (v : CellName → Formula) (at : List ℕ → ℕ → Formula) (term : ℕ → Term) (k x : ℕ) where
  kept_steps : (a : ℕ) (all : List BitStep) → ((j : ℕ) → a ≤ j → j < a + length all → v (Step k x j) ≡ term_formula at (term j)) → kept_formulas v (operator_entries number k x a all) ≡ map (term_formula at) (operators_from term a all)
  kept_steps a [] each = refl
  kept_steps a (b ∷ all) each = by b (each a (omega arith) (omega arith)) (kept_steps (a + 1) all (λ j low high. each j (omega (arith, low)) (omega (arith, high))))
    where
      by : (b : BitStep) → v (Step k x a) ≡ term_formula at (term a) → kept_formulas v (operator_entries number k x (a + 1) all) ≡ map (term_formula at) (operators_from term (a + 1) all)
          → kept_formulas v (operator_entries number k x a (b ∷ all)) ≡ map (term_formula at) (operators_from term a (b ∷ all))
      by (steps.Const t) here rest = rest
      by (steps.Net n i) here rest = rest
      by (steps.Not p) here rest = ap₂ ◌∷◌ here rest
      by (steps.And p q) here rest = ap₂ ◌∷◌ here rest
      by (steps.Or p q) here rest = ap₂ ◌∷◌ here rest
      by (steps.Xor p q) here rest = ap₂ ◌∷◌ here rest
      by (steps.Mux p q r) here rest = ap₂ ◌∷◌ here rest

module _ (d : Design) (one other : Lowering) (l m : LooseList) (list : IsListOf d one l) (more : IsListOf d other m) (lowered : IsLowering d one) (also : IsLowering d other) (wired : IsWired d)
    (numbers : List ℕ) (at : ℕ → Formula) (meets : AreLooseFormulas m numbers at) where
  abbrev v : CellName → Formula
  v = here d one other m more lowered also wired numbers at meets

  abbrev u : CellName → Formula
  u = there d one other m more lowered also wired numbers at meets

  module _ (k : ℕ) (s : Scope) (c : Construct) (has : Contains (enumerate_from 0 (parts d)) (k, (s, c))) where
    -- the steps of an expression
    steps_isomorphic : (x : ℕ) (e : Expression) (w : ℕ) → Contains (enumerate_from 0 (lowered_in (s, c))) (x, (e, w)) → Isomorphism v u (step_cells one list.number k x) (step_cells other more.number k x)
    steps_isomorphic x e w at_x =
        let low = lowered_at d one lowered k s c has x e w at_x in
        let low_other = lowered_at d other also k s c has x e w at_x in
        let f = term_formula (formulas_in u s) in
        let nets = nets_of s.source in
        let left : kept_formulas v (step_cells one list.number k x) ≡ map f (operators nets (one k x).all) =
        kept_steps list.number v (formulas_in u s) (term_at nets (one k x).all) k x 0 (one k x).all (λ j p q. step_here d one other m more lowered also wired numbers at meets k s c has x j) in
        let right : kept_formulas u (step_cells other more.number k x) ≡ map f (operators nets (other k x).all) =
        kept_steps more.number u (formulas_in u s) (term_at nets (other k x).all) k x 0 (other k x).all
        (λ j p q. step_formula d other m more also numbers at meets k s c has x e w at_x j (omega (arith, q))) in
        let cells = (made_in s e w).cells in
        subst (λ l. IsPermutation l (kept_formulas u (step_cells other more.number k x))) (sym left) (subst (IsPermutation (map f (operators nets (one k x).all))) (sym right)
        (IsPermutation-trans (map f (operators nets (one k x).all)) (map f cells) (map f (operators nets (other k x).all))
        (IsPermutation-sym (map f cells) (map f (operators nets (one k x).all)) (IsPermutation-map f cells (operators nets (one k x).all) low.cells))
        (IsPermutation-map f cells (operators nets (other k x).all) low_other.cells)))

    all_steps : Isomorphism v u (flat_map (step_cells one list.number k) (range_with_len 0 (length (lowered_in (s, c))))) (flat_map (step_cells other more.number k) (range_with_len 0 (length (lowered_in (s, c)))))
    all_steps = each_isomorphic v u (step_cells one list.number k) (step_cells other more.number k) (range_with_len 0 (length (lowered_in (s, c)))) (λ x among.
        let r = from_range 0 (length (lowered_in (s, c))) x among in
        let e = get_or (lowered_in (s, c)) x (Plain 0, 0) in
        steps_isomorphic x e.0 e.1 (numbered_at (lowered_in (s, c)) x (Plain 0, 0) (omega (arith, r.1))))

  join_kept : (g : Gate) (a b p q : ℕ) → is_kept (join_cell g a b) ≡ is_kept (join_cell g p q)
  join_kept gates.And a b p q = refl
  join_kept gates.Nand a b p q = refl
  join_kept gates.Or a b p q = refl
  join_kept gates.Nor a b p q = refl
  join_kept gates.Xor a b p q = refl
  join_kept gates.Xnor a b p q = refl
  join_kept gates.Buf a b p q = refl
  join_kept gates.Not a b p q = refl

  -- the operators of a gate
  gates_isomorphic : (k : ℕ) (c : Construct) → Isomorphism v u (gate_places one list.number k c) (gate_places other more.number k c)
  gates_isomorphic k (GateInstance gate outs ins) =
      let joins = joining_places one list.number k gate (length ins) in
      let joins_other = joining_places other more.number k gate (length ins) in
      let same : kept_formulas v joins ≡ kept_formulas u joins_other =
      mapped_same v u
      (λ (x : ℕ). (Joined k (x + 1), join_cell gate (list.number (joined_place one k x)) (list.number (terminal_place one k (x + 1)))))
      (λ (x : ℕ). (Joined k (x + 1), join_cell gate (more.number (joined_place other k x)) (more.number (terminal_place other k (x + 1)))))
      (λ x. refl) (λ x. join_kept gate _ _ _ _) (range_with_len 0 (length ins - 1)) in
      both_isomorphic v u joins (inverting_place one list.number k gate (length ins)) joins_other (inverting_place other more.number k gate (length ins)) (same_isomorphic v u joins joins_other same) (by (inverts gate))
    where
      by : (b : Bool) → Isomorphism v u (if b then (Inverted k, cell.Not (list.number (joined_place one k (length ins - 1)))) ∷ [] else []) (if b then (Inverted k, cell.Not (more.number (joined_place other k (length ins - 1)))) ∷ [] else [])
      by true = IsPermutation-refl (u (Inverted k) ∷ [])
      by false = IsPermutation-refl []
  gates_isomorphic k (Assignment left right) = IsPermutation-refl []
  gates_isomorphic k (Register r) = IsPermutation-refl []
  gates_isomorphic k (SupplyNet high n) = IsPermutation-refl []
  gates_isomorphic k (InputConnection i pin e) = IsPermutation-refl []
  gates_isomorphic k (OutputConnection i pin e) = IsPermutation-refl []
  gates_isomorphic k BoxContents = IsPermutation-refl []

  part_isomorphic : (k : ℕ) (s : Scope) (c : Construct) → Contains (enumerate_from 0 (parts d)) (k, (s, c)) → Isomorphism v u (places_at one list.number (k, (s, c))) (places_at other more.number (k, (s, c)))
  part_isomorphic k s c has =
      let places = range_with_len 0 (length (lowered_in (s, c))) in
      both_isomorphic v u (flat_map (step_cells one list.number k) places) (gate_places one list.number k c) (flat_map (step_cells other more.number k) places) (gate_places other more.number k c) (all_steps k s c has) (gates_isomorphic k c)

  pins_isomorphic : (b : ℕ × Scope) → Isomorphism v u (box_places b) (box_places b)
  pins_isomorphic (b, s) = same_isomorphic v u (box_places (b, s)) (box_places (b, s)) (mapped_same v u (λ (y : ℕ × Bit). (BoxPin b y.0, cell.BoxOut b y.0)) (λ (y : ℕ × Bit). (BoxPin b y.0, cell.BoxOut b y.0)) (λ y. refl) (λ y. refl) (enumerate_from 0 (output_bits s)))

  pub operators_isomorphic : IsPermutation (kept_formulas v (operator_places d one list.number)) (kept_formulas u (operator_places d other more.number))
  operators_isomorphic = both_isomorphic v u (flat_map box_places (enumerate_from 0 (boxes d))) (flat_map (places_at one list.number) (enumerate_from 0 (parts d))) (flat_map box_places (enumerate_from 0 (boxes d))) (flat_map (places_at other more.number) (enumerate_from 0 (parts d)))
      (each_isomorphic v u box_places box_places (enumerate_from 0 (boxes d)) (λ b has. pins_isomorphic b))
      (each_isomorphic v u (places_at one list.number) (places_at other more.number) (enumerate_from 0 (parts d)) (λ p has. part_isomorphic p.0 p.1.0 p.1.1 has))
