-- The items of a module one by one: the instances that are in one, and the expressions.
use Rattle.std.proofs.Common.{◌≡◌, ℕ, ◌+◌, List, length, take, Contains, Some, sym, ap, subst, arith}
use Rattle.std.specs.Prelude.{All, IsSomeAnd, slice_get}
use Rattle.std.specs.List.{flat_map, slice_index_or}
use Rattle.std.proofs.lemmas.List.Folds.{length-flat_map-take}
use Rattle.std.proofs.lemmas.Option.{slice_get_within, get_or_from_slice_get}
use Rattle.bb_ast.specs.Syntax.{PlainItem, PlainModule}
use Rattle.bb_names.specs.Inside.Checked.{ModuleFacts, syntax}
use Rattle.bb_expr.specs.Inside.Occurrences.{expressions_in, item_expressions, OccursIn, OccursAt}
use Rattle.bb_design.specs.Hierarchy.{instances_in}
use Rattle.bb_blast.specs.Inside.BitBlasting.{IsCallAt, AreCallsAt, module_in}
use Rattle.bb_lemmas.proofs.Members.{all_from, into_flat, contains_here}
use Rattle.bb_blast.proofs.ModulePlaces.{module-is}
use Rattle.bb_lemmas.proofs.Places.{got_flat}

pub calls_in_item : (checked : List ModuleFacts) (k : ℕ) (targets : List ℕ) (items : List PlainItem) (i : ℕ) (item : PlainItem) (first : ℕ) → slice_get items i ≡ Some item → AreCallsAt checked k targets 0 (flat_map (λ item. instances_in item.body) items)
    → first ≡ length (flat_map (λ item. instances_in item.body) (take i items)) → AreCallsAt checked k targets first (instances_in item.body)
calls_in_item checked k targets items i item first there are is =
    let inst = λ (item : PlainItem). instances_in item.body in
    let here = get_or_from_slice_get items i item item there in
    record {
      room = omega (arith, is, are.room, length-flat_map-take inst items i item (slice_get_within items i item there), ap (λ (x : PlainItem). length (instances_in x.body)) here);
      each = λ j called e. subst (λ n. IsCallAt checked k n (slice_index_or targets n 0) called) (number (length (flat_map inst (take i items))) j is)
          (are.each (length (flat_map inst (take i items)) + j) called (got_flat inst items i item j called there e));
    }
  where
    number : (n j : ℕ) → first ≡ n → 0 + (n + j) ≡ first + j
    number n j e = omega (arith, e)

-- the expressions of an item of a module are in the module
pub item_occurs : (checked : List ModuleFacts) (k : ℕ) (f : ModuleFacts) → slice_get checked k ≡ Some f → (item : PlainItem) → Contains (module_in checked k).items item → All (OccursAt checked k) (item_expressions item.body)
item_occurs checked k f there item has = all_from (OccursAt checked k) (item_expressions item.body) (λ e in_item.
    let here = into_flat expressions_in (item_expressions item.body) e e in_item (contains_here e _) in
    let occurs : OccursIn (syntax f) e = into_flat (λ (x : PlainItem). flat_map expressions_in (item_expressions x.body)) (syntax f).items item e (subst (λ (m : PlainModule). Contains m.items item) (module-is checked k f there) has) here in
    subst (λ o. IsSomeAnd o (λ m. OccursIn (syntax m) e)) (sym there) occurs)
