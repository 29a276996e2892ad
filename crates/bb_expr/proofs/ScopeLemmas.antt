-- The module at a place of a checked list, as the code and as the definitions see it.
use Rattle.std.proofs.Common.{◌≡◌, ℕ, zero, suc, ◌<◌, List, [], ◌∷◌, map, length, get_or, Option, Some, sym, ap, ◌∙◌, subst, arith}
use Rattle.std.specs.Prelude.{IsSomeAnd, slice_get}
use Rattle.std.specs.Option.{option_and_then, option_map_or}
use Rattle.std.proofs.lemmas.List.{length-map}
use Rattle.bb_lemmas.proofs.Places.{got-map}
use Rattle.bb_ast.specs.Syntax.{Expression}
use Rattle.bb_names.specs.declared.checked.CheckedModule.{CheckedModule}
use Rattle.bb_names.specs.Declarations.{range_of}
use Rattle.bb_names.specs.Inside.Checked.{ModuleFacts, module_facts, syntax, IsChecked}
use Rattle.bb_expr.specs.Inside.Occurrences.{OccursAt, nets_at, ranges_at}
use Rattle.bb_expr.specs.Inside.Fit.{AreFit, ranges_in}
use Rattle.bb_expr.specs.Laws.FitLaws.{OccurrencesAreFit}

some-within : {X : Type 0} (P : X → Type 0) (xs : List X) (k : ℕ) → IsSomeAnd (slice_get xs k) P → k < length xs
some-within P [] k h = absurd h
some-within P (x ∷ xs) zero h = omega arith
some-within P (x ∷ xs) (suc k) h = omega (arith, some-within P xs k h)

got : {X : Type 0} (xs : List X) (k : ℕ) (x : X) → k < length xs → x ≡ get_or xs k x → slice_get xs k ≡ Some x
got [] k x lt at = absurd (omega (arith, lt))
got (y ∷ xs) zero x lt at = ap Some (sym at)
got (y ∷ xs) (suc k) x lt at = got xs k x (omega (arith, lt)) at

some-of : {X : Type 0} (P : X → Type 0) (o : Option X) (x : X) → o ≡ Some x → IsSomeAnd o P → P x
some-of P o x is h = subst (λ q. IsSomeAnd q P) is h

module _ (checked : List ModuleFacts) (modules : List CheckedModule) (same : map module_facts modules ≡ checked) (k : ℕ) where
  -- what is at a place is in a module
  pub occurs-within : (e : Expression) → OccursAt checked k e → k < length modules
  occurs-within e occurs = omega (arith, some-within _ checked k occurs, ap length same, length-map modules module_facts)

  module _ (item : CheckedModule) (at : item ≡ get_or modules k item) (lt : k < length modules) where
    pub module-is : slice_get checked k ≡ Some (module_facts item)
    module-is = ap (λ l. slice_get l k) (sym same) ∙ got-map module_facts modules k item (got modules k item lt at)

    pub module-fit : OccurrencesAreFit → IsChecked checked → (e : Expression) → OccursAt checked k e → AreFit (module_facts item) e
    module-fit law ok e occurs = some-of (λ m. AreFit m e) (slice_get checked k) (module_facts item) module-is (law checked k e ok occurs)

    pub ranges-are : ranges_at checked k ≡ ranges_in (module_facts item)
    ranges-are = ap (λ o. λ (n : List ℕ). option_and_then (λ (m : ModuleFacts). range_of (syntax m) n) o) module-is

    pub nets-are : nets_at checked k ≡ (module_facts item).nets
    nets-are = ap (λ o. option_map_or (λ (m : ModuleFacts). m.nets) o []) module-is
