use Rattle.std.proofs.Common.{◌≡◌, ◌⊎◌, ◌+◌, ◌<◌, ◌≤◌, ℕ, List, length, Some, ap, ◌∙◌, inl, inr, arith}
use Rattle.std.specs.Prelude.{slice_get}
use Rattle.std.specs.List.{slice_index_or}
use Rattle.std.proofs.lemmas.List.{take_all}
use Rattle.std.proofs.lemmas.List.Sums.{sum_by_more}
use Rattle.std.proofs.lemmas.Option.{get_or_from_slice_get}
use Rattle.bb_names.specs.declared.net.NetInfo.{NetInfo}
use Rattle.bb_names.specs.Ranges.{range_width}
use Rattle.bb_blast.specs.Inside.ModuleTemplates.{net_start}
use Rattle.bb_blast.specs.Inside.BitBlasting.{bit_count}
use Rattle.bb_lemmas.proofs.Orders.{less_or_past}
use Rattle.bb_elab.proofs.bit_places.net_of_bit.Goals as goal

module _ (nets : List NetInfo) (starts : List ℕ) (each : (k : ℕ) → k < length nets → slice_get starts k ≡ Some (net_start nets k)) (k : ℕ) (lt : k < length nets) (net : NetInfo) (there : slice_get nets k ≡ Some net) where
  start : (j : ℕ) → j < length nets → slice_index_or starts j 0 ≡ net_start nets j
  start j less = get_or_from_slice_get starts j (net_start nets j) 0 (each j less)

  next : net_start nets (k + 1) ≡ net_start nets k + range_width net.range
  next = sum_by_more (λ (x : NetInfo). range_width x.range) nets k net lt ∙ ap (λ (x : NetInfo). net_start nets k + range_width x.range) (get_or_from_slice_get nets k net net there)

  high : (number : ℕ) → (k + 1 < length nets → number < slice_index_or starts (k + 1) 0) → number < bit_count nets → (k + 1 < length nets) ⊎ (length nets ≤ k + 1) → number < net_start nets k + range_width net.range
  high number below whole (inl less) = omega (arith, below less, start (k + 1) less, next)
  high number below whole (inr past) = omega (arith, whole, next, ap bit_count (take_all (k + 1) nets past))

pub returns-clause-bit : goal.returns-clause-bit
returns-clause-bit c = λ net there.
    let nets = c.args.nets.now in
    let k = c.last_start.result in
    let lt = c.last_start.ensures.there in (
      omega (arith, c.last_start.ensures.here, start nets c.args.starts.now c.requires.starts k lt net there k lt),
      high nets c.args.starts.now c.requires.starts k lt net there c.args.number c.last_start.ensures.next c.requires.there (less_or_past (k + 1) (length nets)),
    )
