use Rattle.std.proofs.Common.{◌≡◌, ◌<◌, ◌+◌, ◌++◌, ◌∷◌, [], length, take, sym, ap, ◌∙◌, arith}
use Rattle.std.specs.List.{range_with_len}
use Rattle.std.proofs.lemmas.List.FromFn.{get_or-range_with_len, length-range_with_len}
use Rattle.bb_net.specs.Kinds.{representatives}
use Rattle.bb_net.proofs.FirstBoxes.{firsts_taken, shown_next}
use Rattle.bb_net.proofs.KindNumbers.{nothing_added}
use Rattle.bb_net.proofs.sharing.first_of_kinds.Goals as goal
use Rattle.bb_net.proofs.sharing.first_of_kinds.Goals.{then-kind-len+in_ok-push, else-kind-len}

pub loop-b-preserved : goal.loop-b-preserved
loop-b-preserved c =
    let kinds = c.args.kinds.now in
    let b = c.loop-b.b in
    let h : b < length kinds = c.loop-b-test.true in
    let next = shown_next kinds (range_with_len 0 (length kinds)) b 0 c.requires.ordered (length-range_with_len 0 (length kinds)) h in
    let here = firsts_taken kinds b (omega (arith, h)) in
    let more = firsts_taken kinds (b + 1) (omega (arith, h)) in
    let count : length c.loop-b.firsts.items ≡ c.len.result = omega (arith, c.loop-b.firsts.ok, c.len.ensures) in
    let shows = c.loop-b.invariant ∙ sym here in
    let number = get_or-range_with_len 0 (length kinds) b 0 h ∙ nothing_added b in
    elim c.if-kind-len.branch [
      | then-kind-len+in_ok-push w ↦
          ap (λ v. v.items) w.firsts-is ∙ w.in_ok-push.ensures.items ∙ ap (λ xs. xs ++ b ∷ []) shows ∙ ap (λ n. representatives (take b kinds) (take b (range_with_len 0 (length kinds))) ++ n ∷ []) (sym number)
          ∙ sym (next.new (w.if-kind-len.true ∙ sym count ∙ ap length shows)) ∙ more
      | else-kind-len w ↦ ap (λ v. v.items) w.firsts-is ∙ shows ∙ sym (next.again (λ e. w.if-kind-len.false (e ∙ sym (ap length shows) ∙ count))) ∙ more
    ]
