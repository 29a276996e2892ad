-- A design of a well-formed text without faults that is neither too deep nor too large has a list of cells.
use Rattle.std.proofs.Common.{◌≡◌, ◌⊎◌, ℕ, ◌≤◌, false, List, [], ◌∷◌, ◌++◌, map, length, get_or, Contains, Some, refl, sym, ap, ◌∙◌, subst, inl, inr, arith}
use Rattle.std.specs.Prelude.{slice_get, All, IsPermutation}
use Rattle.std.specs.List.{enumerate_from, range_with_len}
use Rattle.std.proofs.lemmas.List.{length-map, get_or-map}
use Rattle.std.proofs.lemmas.List.Sorted.{IsPermutation-refl}
use Rattle.bb_ast.specs.Syntax.{Expression}
use Rattle.bb_names.specs.Declarations.{range_of}
use Rattle.bb_names.specs.Nets.{nets_of}
use Rattle.bb_expr.specs.Laws.FitLaws.{OccurrencesAreFitIn, LoweringsExist}
use Rattle.bb_expr.specs.Lowered.{IsLowered}
use Rattle.bb_net.specs.declared.loose.LooseCell.{LooseCell}
use Rattle.bb_net.specs.declared.loose.LooseCell.TheVariants as cell
use Rattle.bb_net.specs.Loose.{LooseList, loose_at}
use Rattle.bb_design.specs.Inside.Allowed.{IsBounded}
use Rattle.bb_design.specs.Constructs.{Construct, Assignment, GateInstance, Register, SupplyNet, InputConnection, OutputConnection, BoxContents, parts}
use Rattle.bb_design.specs.Contexts.{width_of, context_width}
use Rattle.bb_design.specs.Laws.DesignLaws.{DesignLaws}
use Rattle.bb_design.specs.Hierarchy.{Design, Scope, boxes}
use Rattle.bb_design.specs.NetBits.{top_outputs}
use Rattle.bb_design.specs.Registers.{cut_bits}
use Rattle.bb_implements.specs.Places.{CellName, NetBit, Lowering, Steps, lowered_in, IsLoweringOf, IsLowering, placed_cells, data_places, pins_of, IsListOf}
use Rattle.bb_implements.specs.Laws.ListLaws.{ListsExist}
use Rattle.bb_lemmas.proofs.Chosen.{choose}
use Rattle.bb_lemmas.proofs.Members.{all_from, from_map, contains_cases, none_in_nil}
use Rattle.bb_lemmas.proofs.Numbered.{placed-at}
use Rattle.bb_lemmas.proofs.Places.{there_at}
use Rattle.bb_implements.proofs.InRow.{AreInRow, number_at}
use Rattle.bb_implements.proofs.SomeNumbers.{number, places_row, steps_occur}
use Rattle.bb_implements.proofs.OccurringExpressions.{lowered-occurs}

-- an expression of a construct is taken at its own width or a greater one
wide : (s : Scope) (c : Construct) (x : Expression × ℕ) → Contains (lowered_in (s, c)) x → width_of s x.0 ≤ x.1
wide s c x has = by c has
  where
    only : (e : Expression) (w : ℕ) → width_of s e ≤ w → Contains ((e, w) ∷ []) x → width_of s x.0 ≤ x.1
    only e w fits at = one (contains_cases {A = Expression × ℕ} (e, w) [] x at)
      where
        one : ◌≡◌ {A = Expression × ℕ} (e, w) x ⊎ Contains [] x → width_of s x.0 ≤ x.1
        one (inl same) = subst (λ (y : Expression × ℕ). width_of s y.0 ≤ y.1) same fits
        one (inr never) = absurd (none_in_nil x never)

    by : (c : Construct) → Contains (lowered_in (s, c)) x → width_of s x.0 ≤ x.1
    by (Assignment left right) at = only right (context_width s left right) (omega arith) at
    by (GateInstance gate outs ins) at = let e = from_map (λ e. (e, width_of s e)) ins x at in subst (λ (y : Expression × ℕ). width_of s y.0 ≤ y.1) e.2 (omega arith)
    by (Register r) at = only r.right (context_width s r.left r.right) (omega arith) at
    by (SupplyNet high n) at = absurd (none_in_nil x at)
    by (InputConnection i pin e) at = only e (width_of s e) (omega arith) at
    by (OutputConnection i pin e) at = absurd (none_in_nil x at)
    by BoxContents at = absurd (none_in_nil x at)

abbrev none : Steps
none = record { all = []; bits = [] }

abbrev IsLoweredAs : Scope → Expression × ℕ → Steps → Type 0
IsLoweredAs s x y = IsLowered (nets_of s.source) (range_of s.source) x.0 x.1 y.all y.bits

module _ (of_designs : DesignLaws) (fit : OccurrencesAreFitIn) (exist : LoweringsExist) (d : Design) (bounded : IsBounded d) where
  part-lowered : (s : Scope) (c : Construct) → Contains (parts d) (s, c) → (ys : List Steps) × ((n : ℕ) (x : Expression × ℕ) (d : Steps) → slice_get (lowered_in (s, c)) n ≡ Some x → IsLoweredAs s x (get_or ys n d))
  part-lowered s c has = choose (λ n x y. IsLoweredAs s x y) (lowered_in (s, c)) (λ n x e.
      let at = there_at (lowered_in (s, c)) n x e in
      let is = of_designs.part_of d s c has in
      let occurs = lowered-occurs s d.text c is.1 x at in
      let steps = exist s.source x.0 x.1 (fit d.text s.source x.0 bounded.formed bounded.faultless (of_designs.of_text d s bounded.top is.0) occurs) (wide s c x at) in
      (record { all = steps.0; bits = steps.1 }, steps.2))

  all-lowered : (yss : List (List Steps)) × ((k : ℕ) (p : Scope × Construct) (e : List Steps) → slice_get (parts d) k ≡ Some p → (n : ℕ) (x : Expression × ℕ) (z : Steps) → slice_get (lowered_in p) n ≡ Some x → IsLoweredAs p.0 x (get_or (get_or yss k e) n z))
  all-lowered = choose (λ k p ys. (n : ℕ) (x : Expression × ℕ) (z : Steps) → slice_get (lowered_in p) n ≡ Some x → IsLoweredAs p.0 x (get_or ys n z)) (parts d) (λ k p e. part-lowered p.0 p.1 (there_at (parts d) k p e))

  abbrev lowering : Lowering
  lowering k n = get_or (get_or all-lowered.0 k []) n none

  lowers : IsLowering d lowering
  lowers = all_from (IsLoweringOf lowering) (enumerate_from 0 (parts d)) (λ part has.
      let p = placed-at 0 (parts d) part has in
      let k : p.0 ≡ part.0 = omega (arith, p.1) in
      all_from (λ x. IsLoweredAs part.1.0 x.1 (lowering part.0 x.0)) (enumerate_from 0 (lowered_in part.1)) (λ x at.
      let q = placed-at 0 (lowered_in part.1) x at in
      let n : q.0 ≡ x.0 = omega (arith, q.1) in
      subst (λ j. IsLoweredAs part.1.0 x.1 (lowering part.0 j)) n (subst (λ j. IsLoweredAs part.1.0 x.1 (lowering j q.0)) k (all-lowered.1 p.0 part.1 [] p.2 q.0 x.1 none q.2))))

-- where places are in a row, each cell is at its place
occur : (of : CellName → ℕ) (all : List (CellName × LooseCell)) (l : LooseList) → AreInRow (λ (z : CellName × LooseCell). of z.0) 0 all → l.cells ≡ map (λ (z : CellName × LooseCell). z.1) all → All (λ (z : CellName × LooseCell). loose_at l (of z.0) ≡ z.1) all
occur of all l row cells k d lt =
    ap (loose_at l) (number_at (λ (z : CellName × LooseCell). of z.0) all row k d lt) ∙ ap (λ c. get_or c k (cell.Const false)) cells ∙ get_or-map (λ (z : CellName × LooseCell). z.1) all k d (cell.Const false) lt

list_of : DesignLaws → (d : Design) → IsBounded d → (lowering : Lowering) → (l : LooseList) × IsListOf d lowering l
list_of of_designs d bounded lowering =
    let numbers = number d lowering in
    let all : List (CellName × LooseCell) = placed_cells d lowering numbers in
    let cells : List LooseCell = map (λ z. z.1) all in
    let rows = places_row d lowering of_designs.distinguished (of_designs.distinct d bounded.faultless bounded.top) in
    let l : LooseList = record { inputs = length (cut_bits d); cells = cells; boxes = map (pins_of numbers) (enumerate_from 0 (boxes d)); outs = map (λ b. numbers (NetBit b)) (top_outputs d) ++ map numbers (data_places d lowering) } in
    let long : length all ≡ length cells = sym (length-map all (λ z. z.1)) in
    let range : List ℕ = range_with_len 0 (length cells) in
    let same : map (λ (z : CellName × LooseCell). numbers z.0) all ≡ range = rows.1.row ∙ ap (range_with_len 0) long in (
      l,
      record {
        number = numbers;
        inputs = refl;
        prefix = rows.0.row;
        numbers = subst (λ xs. IsPermutation xs range) (sym same) (IsPermutation-refl range);
        cells = occur numbers all l rows.1 refl;
        boxes = refl;
        outs = refl;
        steps = steps_occur d lowering;
      },
    )

pub lists_exist : DesignLaws → OccurrencesAreFitIn → LoweringsExist → ListsExist
lists_exist of_designs fit exist d bounded = (lowering of_designs fit exist d bounded, lowers of_designs fit exist d bounded, list_of of_designs d bounded (lowering of_designs fit exist d bounded))
