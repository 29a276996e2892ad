use Rattle.std.proofs.Common.{◌+◌, ◌<◌, [], length, map, take, sym, subst, arith}
use Rattle.std.specs.List.{AllZip}
use Rattle.bb_uniq.specs.declared.store.Ref.{Ref}
use Rattle.bb_uniq.specs.Inside.Meaning.{truth_of}
use Rattle.bb_mux.specs.Inside.Functions.{Computes}
use Rattle.bb_mux.proofs.GateBits.{adds_none, then_more}
use Rattle.bb_mux.proofs.Roots.{few_at_end, one_computed, one_walked, table_there}
use Rattle.bb_mux.proofs.netlist.places_of.Goals as goal

pub loop-r-init : goal.loop-r-init
loop-r-init c = record {
  extends = (0, adds_none c.args.net.now 0 c.keeps_its_order.ensures c.requires.walked.walked.boxes);
  walked = c.requires.walked;
  computed = subst (AllZip (λ (r : Ref). Computes c.args.d.now.store c.args.net.now r.0) []) (sym c.in_ok-outs.ensures.items) tt;
}

pub loop-r-preserved : goal.loop-r-preserved
loop-r-preserved c =
    let s = c.args.d.now.store in
    let old = c.loop-r.net in
    let new = c.place_of.new.net in
    let roots = c.args.roots.now in
    let k = c.loop-r.r-index in
    let outs = c.loop-r.outs.items in
    let d : Ref = record { 0 = 0 } in
    let walks = c.in_ok-place.ensures.walks in
    let so = c.loop-r.invariant in
    let inside : k < length roots = omega (arith, c.loop-r-test.true) in
    record {
      extends = (so.extends.0 + walks.most, then_more c.args.net.now old new so.extends.0 walks.most so.extends.1 walks.extends);
      walked = one_walked s (map (λ (r : Ref). truth_of s r.0) roots) _ old new c.loop-r.places c.place_of.new.places (table_there s roots k d inside) so.walked walks;
      computed = subst (AllZip (λ (r : Ref). Computes s new r.0) (take (k + 1) roots)) (sym c.in_ok-push.ensures.items)
          (one_computed s c.bits.ensures.stay old new walks.most k c.in_ok-place.place d roots outs inside walks.extends so.computed c.in_ok-place.ensures.place);
    }

pub returns-clause-few : goal.returns-clause-few
returns-clause-few c = few_at_end c.args.d.now.store _ c.loop-r.net c.loop-r.places c.loop-r.invariant.walked
