-- The module at a place of a checked source, as the code sees it.
use Rattle.std.proofs.Common.{◌≡◌, ℕ, ◌<◌, List, map, length, get_or, Contains, Some, refl, sym, ap, ◌∙◌, arith}
use Rattle.std.specs.Prelude.{slice_get}
use Rattle.std.proofs.lemmas.List.{length-map}
use Rattle.std.proofs.lemmas.List.Elements.{All-contains}
use Rattle.std.proofs.lemmas.Option.{slice_get_read}
use Rattle.bb_ast.specs.Syntax.{PlainModule}
use Rattle.bb_names.specs.declared.checked.CheckedModule.{CheckedModule}
use Rattle.bb_names.specs.Inside.Checked.{ModuleFacts, module_facts, syntax, HasNets, IsChecked}
use Rattle.bb_lemmas.proofs.Places.{there_at, got-map}

module _ (checked : List ModuleFacts) (modules : List CheckedModule) (same : map module_facts modules ≡ checked) (k : ℕ) (item : CheckedModule) (at : item ≡ get_or modules k item) (lt : k < length checked) where
  pub facts_at : slice_get checked k ≡ Some (module_facts item)
  facts_at =
      let long : length modules ≡ length checked = sym (length-map modules module_facts) ∙ ap length same in
      ap (λ l. slice_get l k) (sym same) ∙ got-map module_facts modules k item (slice_get_read modules (length modules) k item refl (omega (arith, lt, long)) at)

  pub module_at_place : slice_get (map syntax checked) k ≡ Some (syntax (module_facts item))
  module_at_place = got-map syntax checked k (module_facts item) facts_at

  pub module_occurs : Contains (map syntax checked) (syntax (module_facts item))
  module_occurs = there_at (map syntax checked) k (syntax (module_facts item)) module_at_place

  pub nets_at_place : IsChecked checked → HasNets (module_facts item)
  nets_at_place ok = All-contains HasNets checked (module_facts item) ok.each (there_at checked k (module_facts item) facts_at)

  pub module_is : (m : PlainModule) → slice_get (map syntax checked) k ≡ Some m → syntax (module_facts item) ≡ m
  module_is m here = let one : Some (syntax (module_facts item)) ≡ Some m = sym module_at_place ∙ here in grind (arith, one)
