-- Bits of nets and constants as steps.
use Rattle.std.proofs.Common.{◌≡◌, ℕ, zero, suc, ◌+◌, ◌<◌, ◌≤◌, Bool, true, ◌&&◌, List, [], ◌∷◌, length, map, Option, Some, None, refl, sym, ap, ◌∙◌, subst, arith, inl, inr}
use Rattle.std.specs.Prelude.{◌⊎◌, IfSome, slice_get, nat_le}
use Rattle.std.specs.List.{range_with_len}
use Rattle.std.specs.Map.{lookup}
use Rattle.std.specs.Option.{option_map_or}
use Rattle.bb_lemmas.proofs.Places.{some_same}
use Rattle.bb_lemmas.proofs.Tests.{le_from_test}
use Rattle.bb_lemmas.proofs.Bits.{or_cases, and_left, and_right}
use Rattle.bb_bits.specs.Names.{same_name}
use Rattle.bb_ast.specs.declared.module.Range.{Range}
use Rattle.bb_names.specs.declared.net.NetInfo.{NetInfo}
use Rattle.bb_names.specs.Ranges.{distance, range_width, place_of, is_index, has_bits}
use Rattle.bb_names.specs.Inside.Checked.{ModuleFacts}
use Rattle.bb_expr.specs.declared.step.BitStep.{BitStep}
use Rattle.bb_expr.specs.declared.step.BitStep.TheVariants as steps
use Rattle.bb_expr.specs.Terms.{Const, Net}
use Rattle.bb_expr.specs.Cells.{without_cells, net_terms}
use Rattle.bb_expr.specs.Lowered.{name_at}
use Rattle.bb_expr.specs.Inside.Fit.{HasNet, ranges_in}
use Rattle.bb_expr.specs.Inside.Growing.{Adds, AddsRow}
use Rattle.bb_expr.proofs.AddLemmas.{AreLeaves, leaf_term, adds-leaves}

-- an index of a range lies between its ends
between : (r : Range) (i : ℕ) → is_index r i ≡ true → ((r.left ≤ i) × (i ≤ r.right)) ⊎ ((r.right ≤ i) × (i ≤ r.left))
between r i h = elim (or_cases (nat_le r.left i && nat_le i r.right) _ h) [
  | inl up ↦ inl (le_from_test _ _ (and_left (nat_le r.left i) _ up), le_from_test _ _ (and_right (nat_le r.left i) _ up))
  | inr down ↦ inr (le_from_test _ _ (and_left (nat_le r.right i) _ down), le_from_test _ _ (and_right (nat_le r.right i) _ down))
]

-- the bits from an index to another are among those of the net
pub part-fits : (r : Option Range) (i j : ℕ) → has_bits r i j ≡ true → place_of r i + (distance i j + 1) ≤ range_width r
part-fits None i j h = cc
part-fits (Some r) i j h =
    let both = and_left (is_index r i && is_index r j) _ h in
    let order : distance r.left i ≤ distance r.left j = le_from_test _ _ (and_right (is_index r i && is_index r j) _ h) in
    elim (between r i (and_left (is_index r i) _ both)) [
      | inl a ↦ elim (between r j (and_right (is_index r i) _ both)) [
        | inl b ↦ omega (arith, a.0, a.1, b.0, b.1, order)
        | inr b ↦ omega (arith, a.0, a.1, b.0, b.1, order)
      ]
      | inr a ↦ elim (between r j (and_right (is_index r i) _ both)) [
        | inl b ↦ omega (arith, a.0, a.1, b.0, b.1, order)
        | inr b ↦ omega (arith, a.0, a.1, b.0, b.1, order)
      ]
    ]

got-within : {X : Type 0} (xs : List X) (k : ℕ) (x : X) → slice_get xs k ≡ Some x → k < length xs
got-within [] k x h = cc
got-within (y ∷ xs) zero x h = omega arith
got-within (y ∷ xs) (suc k) x h = omega (arith, got-within xs k x h)

module _ (nets : List NetInfo) where
  net-leaves : (k : ℕ) (net : NetInfo) → slice_get nets k ≡ Some net → (from count : ℕ) → from + count ≤ range_width net.range → AreLeaves nets (map (steps.Net k) (range_with_len from count))
  net-leaves k net there from zero fits = tt
  net-leaves k net there from (suc count) fits = (
    (refl, (got-within nets k net there, subst (λ o. IfSome o (λ (x : NetInfo). from < range_width x.range)) (sym there) (below from count (range_width net.range) fits))),
    net-leaves k net there (from + 1) count (omega (arith, fits)),
  )
    where
      below : (from count n : ℕ) → from + suc count ≤ n → from < n
      below from count n fits = omega (arith, fits)

  net-terms : (k : ℕ) (places : List ℕ) → map (leaf_term nets) (map (steps.Net k) places) ≡ map (Net (name_at nets k)) places
  net-terms k [] = refl
  net-terms k (i ∷ places) = ap (λ r. Net (name_at nets k) i ∷ r) (net-terms k places)

  constants-leaves : (bits : List Bool) → AreLeaves nets (map steps.Const bits)
  constants-leaves [] = tt
  constants-leaves (b ∷ bits) = ((refl, tt), constants-leaves bits)

  constants-terms : (bits : List Bool) → map (leaf_term nets) (map steps.Const bits) ≡ map Const bits
  constants-terms [] = refl
  constants-terms (b ∷ bits) = ap (λ r. Const b ∷ r) (constants-terms bits)

  pub adds-constants : (bits : List Bool) (old new : List BitStep) (places : List ℕ) → AddsRow (map steps.Const bits) old new places → Adds nets (without_cells (map Const bits)) old new places
  adds-constants bits old new places row =
      subst (λ terms. Adds nets (without_cells terms) old new places) (constants-terms bits) (adds-leaves nets (map steps.Const bits) old new places row (constants-leaves bits))

-- bits of the net at a place
pub adds-net-at : (nets : List NetInfo) (n : List ℕ) (net : NetInfo) (k from count : ℕ) (old new : List BitStep) (places : List ℕ) → slice_get nets k ≡ Some net → net.name ≡ n → from + count ≤ range_width net.range
    → AddsRow (map (steps.Net k) (range_with_len from count)) old new places → Adds nets (without_cells (net_terms n from count)) old new places
adds-net-at nets n net k from count old new places there name fits row =
    let named : name_at nets k ≡ n = ap (λ o. option_map_or (λ (net : NetInfo). net.name) o []) there ∙ name in
    subst (λ terms. Adds nets (without_cells terms) old new places)
    (net-terms nets k (range_with_len from count) ∙ ap (λ name. map (Net name) (range_with_len from count)) named)
    (adds-leaves nets (map (steps.Net k) (range_with_len from count)) old new places row (net-leaves nets k net there from count fits))

-- bits of a net of a module
pub adds-net : (m : ModuleFacts) (n : List ℕ) (k from count : ℕ) (old new : List BitStep) (places : List ℕ) → HasNet m n → lookup (same_name n) m.index ≡ Some k → from + count ≤ range_width (ranges_in m n)
    → AddsRow (map (steps.Net k) (range_with_len from count)) old new places → Adds m.nets (without_cells (net_terms n from count)) old new places
adds-net m n k from count old new places has kept fits row =
    let same : has.place ≡ k = some_same has.place k (sym has.kept ∙ kept) in
    adds-net-at m.nets n has.net k from count old new places (ap (slice_get m.nets) (sym same) ∙ has.there) has.name (subst (λ w. from + count ≤ w) (ap range_width (sym has.range)) fits) row
