use Rattle.std.proofs.Common.{◌≡◌, ◌<◌, All, length, sym, ap, subst, ◌∙◌, arith}
use Rattle.std.specs.Prelude.{map, slice_index}
use Rattle.std.specs.List.{range_with_len}
use Rattle.std.proofs.lemmas.List.FromFn.{length-range_with_len}
use Rattle.std.proofs.lemmas.Result.{IfOk-weaker}
use Rattle.bb_match.specs.Pairing.{without}
use Rattle.bb_match.proofs.CareLemmas.{all_without}
use Rattle.bb_match.proofs.PickedOutputs.{numbers_below, others_picked}
use Rattle.bb_match.proofs.care.net_without.Goals as goal

pub remove-requires : goal.remove-requires
remove-requires c =
    let outs = c.args.net.outs in
    let picks : c.in_ok-picks.picks.items ≡ range_with_len 0 (length outs) = c.in_ok-picks.ensures.numbers ∙ ap (λ l. range_with_len 0 (length l)) c.outs.ensures.outs in
    omega (arith, c.requires.there, ap length picks, length-range_with_len 0 (length outs))

pub with_outs-requires : goal.with_outs-requires
with_outs-requires c =
    let outs = c.args.net.outs in
    let picks : c.in_ok-picks.picks.items ≡ range_with_len 0 (length outs) = c.in_ok-picks.ensures.numbers ∙ ap (λ l. range_with_len 0 (length l)) c.outs.ensures.outs in
    record { there = subst (All (λ j. j < length outs)) (sym (c.deref.ensures.value ∙ c.remove.ensures.items ∙ ap (without c.args.place) picks)) (all_without (λ j. j < length outs) c.args.place (range_with_len 0 (length outs)) (numbers_below (length outs))) }

pub returns : goal.returns
returns c =
    let old = c.args.net in
    let picks : c.in_ok-picks.picks.items ≡ range_with_len 0 (length old.outs) = c.in_ok-picks.ensures.numbers ∙ ap (λ l. range_with_len 0 (length l)) c.outs.ensures.outs in
    let picked = c.deref.ensures.value ∙ c.remove.ensures.items ∙ ap (without c.args.place) picks in
    let outs = ap (map (slice_index old.outs)) picked ∙ others_picked c.args.place old.outs in
    record { net = IfOk-weaker c.with_outs.result _ _ (λ new is. is ∙ ap (λ outs. record old { outs = outs }) outs) c.with_outs.ensures.net }
