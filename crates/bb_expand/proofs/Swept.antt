-- What a search over outputs says.
use Rattle.std.proofs.Common.{◌≡◌, ◌⊎◌, ℕ, ◌+◌, ◌<◌, inl, inr, subst, arith}
use Rattle.std.specs.Prelude.{slice_index}
use Rattle.bb_lemmas.proofs.Orders.{same_or_less}
use Rattle.bb_net.specs.Netlists.{Netlist}
use Rattle.bb_strash.specs.Inside.Miters.{IsMiter, HasOutputsOf}
use Rattle.bb_expand.specs.declared.search_result.SearchResult.{SearchResult}
use Rattle.bb_expand.specs.declared.search_result.SearchResult.TheVariants as answers
use Rattle.bb_expand.specs.Inside.Cones.{IfNone, IfSomeOne, IsNeverOne}
use Rattle.bb_expand.specs.Inside.Searches.{IfAt, IfNowhere}
use Rattle.bb_expand.proofs.WindowLemmas.{miter_differs, miter_equivalent, outputs_none, outputs_one}

pub lifted_at : (spec imp net : Netlist) → IsMiter spec imp net → (search_result : SearchResult) → IfSomeOne net search_result → IfAt spec imp search_result
lifted_at spec imp net miter (answers.At x) is = miter_differs spec imp net miter x.items is
lifted_at spec imp net miter answers.Nowhere is = tt
lifted_at spec imp net miter answers.GivenUp is = tt

pub lifted_nowhere : (spec imp net : Netlist) → IsMiter spec imp net → (search_result : SearchResult) → IfNone net search_result → IfNowhere spec imp search_result
lifted_nowhere spec imp net miter (answers.At x) is = tt
lifted_nowhere spec imp net miter answers.Nowhere is = miter_equivalent spec imp net miter is
lifted_nowhere spec imp net miter answers.GivenUp is = tt

pub swept_one : (old new : Netlist) → HasOutputsOf old new → (search_result : SearchResult) → IfSomeOne new search_result → IfSomeOne old search_result
swept_one old new so (answers.At x) is = outputs_one old new so x.items is
swept_one old new so answers.Nowhere is = tt
swept_one old new so answers.GivenUp is = tt

pub swept_none : (old new : Netlist) → HasOutputsOf old new → (search_result : SearchResult) → IfNone new search_result → IfNone old search_result
swept_none old new so (answers.At x) is = tt
swept_none old new so answers.Nowhere is = outputs_none old new so is
swept_none old new so answers.GivenUp is = tt

-- one output more is never 1
pub none_more : (net : Netlist) (k : ℕ) → ((i : ℕ) → i < k → IsNeverOne net (slice_index net.outs i)) → IsNeverOne net (slice_index net.outs k) → (i : ℕ) → i < k + 1 → IsNeverOne net (slice_index net.outs i)
none_more net k before here i h = by (same_or_less i k (omega (arith, h)))
  where
    by : (k ≡ i) ⊎ (i < k) → IsNeverOne net (slice_index net.outs i)
    by (inl is) = subst (λ j. IsNeverOne net (slice_index net.outs j)) is here
    by (inr lt) = before i lt
