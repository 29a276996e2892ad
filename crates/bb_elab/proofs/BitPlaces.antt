-- The scope of a bit by the numbers of the first bits of scopes.
use Rattle.std.proofs.Common.{◌≡◌, ◌⊎◌, ℕ, ◌+◌, ◌-◌, ◌<◌, ◌≤◌, List, length, take, Some, sym, ap, ◌∙◌, subst, inl, inr, arith}
use Rattle.std.specs.Prelude.{slice_get}
use Rattle.std.specs.List.{flat_map}
use Rattle.std.proofs.lemmas.List.{take_all}
use Rattle.std.proofs.lemmas.List.Concat.{length-flat_map}
use Rattle.std.proofs.lemmas.List.Sums.{sum_by_more}
use Rattle.std.proofs.lemmas.Option.{slice_get_within, get_or_from_slice_get, same_Some}
use Rattle.bb_blast.specs.declared.placed.Placed.{Placed}
use Rattle.bb_design.specs.Hierarchy.{Design, Scope, scopes}
use Rattle.bb_design.specs.NetBits.{Bit, net_order, scope_bits}
use Rattle.bb_elab.specs.Inside.PlacedPaths.{IsLastBelow}
use Rattle.bb_blast.specs.Inside.Placements.{IsScopeAt, ArePlaced}
use Rattle.bb_lemmas.proofs.Orders.{less_or_past}
use Rattle.bb_lemmas.proofs.Places.{got_flat, some_at}

flat-next : {A B : Type 0} (f : A → List B) (xs : List A) (k : ℕ) (x : A) → slice_get xs k ≡ Some x → length (flat_map f (take (k + 1) xs)) ≡ length (flat_map f (take k xs)) + length (f x)
flat-next f xs k x there =
    length-flat_map f (take (k + 1) xs) ∙ sum_by_more (λ y. length (f y)) xs k x (slice_get_within xs k x there)
    ∙ omega (arith, length-flat_map f (take k xs), ap (λ y. length (f y)) (get_or_from_slice_get xs k x x there))

module _ (d : Design) (all : List Placed) (are : ArePlaced d all) where
  first_is : (k : ℕ) (s : Scope) (p : Placed) → IsScopeAt d k s → slice_get all k ≡ Some p → p.first ≡ length (flat_map scope_bits (take k (scopes d)))
  first_is k s p at there = (are.each k s p at there).first

  pub top_first : (number : ℕ) → (p : Placed) × (slice_get all 0 ≡ Some p) × (p.first ≤ number)
  top_first number =
      let s = some_at (scopes d) 0 (omega arith) in
      let p = some_at all 0 (omega (arith, are.count, slice_get_within (scopes d) 0 s.0 s.1)) in
      (p.0, p.1, omega (arith, first_is 0 s.0 p.0 s.1 p.1))

  pub bit_there : (number k : ℕ) → IsLastBelow all number k → (s : Scope) → IsScopeAt d k s → (p : Placed) → slice_get all k ≡ Some p → (b : Bit) → slice_get (net_order d) number ≡ Some b → (p.first ≤ number) × (slice_get (scope_bits s) (number - p.first) ≡ Some b)
  bit_there number k last s at p there b is =
      let low : p.first ≤ number = subst (λ (x : Placed). x.first ≤ number) (same_Some last.here.0 p (sym last.here.1 ∙ there)) last.here.2 in
      let first = first_is k s p at there in
      let y = some_at (scope_bits s) (number - p.first) (omega (arith, low, high (less_or_past (k + 1) (length all)), first)) in
      (low, y.1 ∙ sym (got_flat scope_bits (scopes d) k s (number - p.first) y.0 at y.1) ∙ ap (slice_get (net_order d)) (omega (arith, first, low)) ∙ is)
    where
      high : (k + 1 < length all) ⊎ (length all ≤ k + 1) → number < length (flat_map scope_bits (take k (scopes d))) + length (scope_bits s)
      high (inl lt) =
          let q = some_at all (k + 1) lt in
          let t = some_at (scopes d) (k + 1) (omega (arith, lt, are.count)) in
          omega (arith, last.next q.0 q.1, first_is (k + 1) t.0 q.0 t.1 q.1, flat-next scope_bits (scopes d) k s at)
      high (inr past) = omega (arith, slice_get_within (net_order d) number b is, ap (λ l. length (flat_map scope_bits l)) (take_all (k + 1) (scopes d) (omega (arith, past, are.count))), flat-next scope_bits (scopes d) k s at)
