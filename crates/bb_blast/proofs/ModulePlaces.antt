-- The module at a place of a checked text, and expressions that are in it.
use Rattle.std.proofs.Common.{◌≡◌, ℕ, ◌≤◌, List, [], length, Option, Some, None, refl, sym, ap, ◌∙◌, subst, arith}
use Rattle.std.specs.Prelude.{IsSomeAnd, max, slice_get}
use Rattle.std.specs.Option.{option_and_then, option_map_or}
use Rattle.std.proofs.lemmas.Option.{slice_get_within, get_or_from_slice_get}
use Rattle.bb_ast.specs.Syntax.{Expression, PlainModule}
use Rattle.bb_names.specs.Inside.Checked.{ModuleFacts, syntax, HasNets, IsChecked}
use Rattle.bb_names.specs.Declarations.{range_of}
use Rattle.bb_names.specs.Faults.{widest}
use Rattle.bb_names.specs.Nets.{nets_of}
use Rattle.bb_names.specs.Widths.{Ranges, own_width}
use Rattle.bb_expr.specs.declared.step.Lowered.{Lowered}
use Rattle.bb_expr.specs.Cells.{made, cell_count}
use Rattle.bb_expr.specs.Inside.Fit.{AreFit}
use Rattle.bb_expr.specs.Laws.FitLaws.{OccurrencesAreFit}
use Rattle.bb_expr.specs.Laws.{CellsAreCounted}
use Rattle.bb_expr.specs.Lowered.{IsLowered}
use Rattle.bb_expr.specs.Inside.Occurrences.{OccursAt, nets_at, ranges_at}
use Rattle.bb_design.specs.Hierarchy.{Scope}
use Rattle.bb_design.specs.NetBits.{Bit, scope_bits}
use Rattle.bb_design.specs.Contexts.{width_of, context_width}
use Rattle.bb_blast.specs.Inside.ModuleTemplates.{AreBitsIn, IsMadeIn}
use Rattle.bb_bits.specs.Inside.Places.{AreAt}
use Rattle.bb_blast.specs.Inside.BitBlasting.{module_in, scope_of}
use Rattle.bb_blast.proofs.LeftBits.{fit_here}

pub some_and : {A : Type 0} (P : A → Type 0) (o : Option A) → IsSomeAnd o P → (x : A) × (o ≡ Some x) × P x
some_and P None h = absurd h
some_and P (Some x) h = (x, refl, h)

pub at_some : {A : Type 0} (P : A → Type 0) (o : Option A) (x : A) → o ≡ Some x → IsSomeAnd o P → P x
at_some P o x is h = subst (λ q. IsSomeAnd q P) is h

module _ (checked : List ModuleFacts) (k : ℕ) (f : ModuleFacts) (there : slice_get checked k ≡ Some f) where
  pub module-is : module_in checked k ≡ syntax f
  module-is = ap (λ o. option_map_or syntax o (record { name = []; line = 0; heads = []; items = [] })) there

  pub has_nets : IsChecked checked → HasNets f
  has_nets ok = subst HasNets (get_or_from_slice_get checked k f f there) (ok.each k f (slice_get_within checked k f there))

  pub ranges-are : ranges_at checked k ≡ range_of (module_in checked k)
  ranges-are = ap (λ o. λ (n : List ℕ). option_and_then (λ (m : ModuleFacts). range_of (syntax m) n) o) there ∙ ap range_of (sym module-is)

  pub nets-are : IsChecked checked → nets_at checked k ≡ nets_of (module_in checked k)
  nets-are ok = ap (λ o. option_map_or (λ (m : ModuleFacts). m.nets) o []) there ∙ (has_nets ok).nets ∙ ap nets_of (sym module-is)

  -- what is there is no wider than a net may be
  pub occurring_bounded : OccurrencesAreFit → IsChecked checked → (e : Expression) → OccursAt checked k e → own_width (ranges_at checked k) e ≤ widest
  occurring_bounded law ok e occurs =
      let fit = at_some (λ m. AreFit m e) (slice_get checked k) f there (law checked k e ok occurs) in
      subst (λ (r : Ranges). own_width r e ≤ widest) (sym (ranges-are ∙ ap range_of module-is)) (fit_here f e fit).bounded

  pub cells_few : CellsAreCounted → (e : Expression) (least w most : ℕ) → w ≡ max least (own_width (ranges_at checked k) e) → length (made (range_of (module_in checked k)) e (max least (width_of (scope_of (module_in checked k)) e))).cells ≤ most
      → cell_count (ranges_at checked k) e w ≤ most
  cells_few law e least w most is few =
      let wide : w ≡ max least (own_width (range_of (module_in checked k)) e) = is ∙ ap (λ (r : Ranges). max least (own_width r e)) ranges-are in
      let counted = law (range_of (module_in checked k)) e (max least (own_width (range_of (module_in checked k)) e)) (omega arith) in
      subst (λ (r : Ranges). cell_count r e w ≤ most) (sym ranges-are) (subst (λ n. cell_count (range_of (module_in checked k)) e n ≤ most) (sym wide) (subst (λ n. n ≤ most) counted few))

  pub steps_are : IsChecked checked → (e : Expression) (least w : ℕ) (l : Lowered) → w ≡ max least (own_width (ranges_at checked k) e) → IsLowered (nets_at checked k) (ranges_at checked k) e w l.steps.items l.bits.items
      → IsMadeIn (module_in checked k) l e (λ s. max least (width_of s e))
  steps_are ok e least w l is lowered =
      let wide : w ≡ max least (own_width (range_of (module_in checked k)) e) = is ∙ ap (λ (r : Ranges). max least (own_width r e)) ranges-are in
      subst (λ n. IsLowered (nets_of (module_in checked k)) (range_of (module_in checked k)) e n l.steps.items l.bits.items) wide
      (subst (λ nets. IsLowered nets (range_of (module_in checked k)) e w l.steps.items l.bits.items) (nets-are ok)
      (subst (λ (r : Ranges). IsLowered (nets_at checked k) r e w l.steps.items l.bits.items) ranges-are lowered))

  pub beside_context : (l : Lowered) (left right : Expression) (least : ℕ) → least ≡ own_width (range_of (module_in checked k)) left → IsMadeIn (module_in checked k) l right (λ s. max least (width_of s right))
      → IsMadeIn (module_in checked k) l right (λ s. context_width s left right)
  beside_context l left right least is made = subst (λ n. IsLowered (nets_of (module_in checked k)) (range_of (module_in checked k)) right (max n (width_of (scope_of (module_in checked k)) right)) l.steps.items l.bits.items) is made

  pub bits_meant : (numbers : List ℕ) (bits : Scope → List Bit) → AreBitsIn (syntax f) numbers bits → AreBitsIn (module_in checked k) numbers bits
  bits_meant numbers bits are path = subst (λ (m : PlainModule). AreAt (scope_bits (record { path = path; source = m })) numbers (bits (record { path = path; source = m }))) (sym module-is) (are path)
