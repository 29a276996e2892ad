use Rattle.std.proofs.Common.{rules, IsErrOf, subst, sym, ap, ◌∙◌, ◌≡◌, ◌+◌, flat_map, length, arith}
use Rattle.std.specs.List.{range_with_len}
use Rattle.bb_net.specs.Netlists.{Netlist}
use Rattle.bb_sym.specs.declared.fault.RungFault.TheVariants.{Nodes}
use Rattle.bb_sym.specs.Functions.{mismatch, mismatches}
use Rattle.bb_sym.specs.Inside.Made.{Makes, AreTooMany, RepresentAll}
use Rattle.bb_sym.proofs.MadeLemmas.{RepresentAll-push}
use Rattle.bb_sym.proofs.MismatchTables.{HaveKnown-kept}
use Rattle.bb_sym.proofs.OutputLoop.{flat_makes, flat_refused}
use Rattle.bb_sym.proofs.mismatches.known_wrong_outputs.Goals as goal

pub known_wrong_output-requires-clause-made : goal.known_wrong_output-requires-clause-made
known_wrong_output-requires-clause-made c =
    HaveKnown-kept c.args.d.now.store c.loop-j.d.store c.args.pair.now.spec c.args.pair.now.imp c.args.made.now.spec.items c.args.made.now.imp.items c.loop-j.invariant.2.kept c.requires.made

pub returns-in_err-r-clause-nodes : goal.returns-in_err-r-clause-nodes
returns-in_err-r-clause-nodes c =
    let imp = c.args.pair.now.imp in
    let count : length c.outs-count.result.now ≡ length imp.outs = ap length (c.outs-count.ensures.outs ∙ ap (λ (net : Netlist). net.outs) c.imp.ensures.imp) in
    let reported : IsErrOf c.from_residual-in_err-r.result Nodes → AreTooMany c.loop-j.d.store (mismatches c.args.pair.now.spec imp c.loop-j.j) = search rules in
    λ full. flat_refused c.args.d.now.store c.loop-j.d.store (mismatches c.args.pair.now.spec imp) c.loop-j.j (length imp.outs) (omega (arith, c.loop-j-test.true, count)) c.loop-j.invariant.2 (reported full)

pub loop-j-preserved : goal.loop-j-preserved
loop-j-preserved c =
    let new = c.known_wrong_output.new.d.store in
    let spec = c.args.pair.now.spec in
    let imp = c.args.pair.now.imp in (
      (let count : length c.push.new.self.items ≡ c.loop-j.j + 1 = search rules in count),
      subst (RepresentAll new (mismatch spec imp)) (sym c.in_ok-push.ensures.items)
          (RepresentAll-push c.loop-j.d.store new (mismatch spec imp) c.loop-j.refs.items c.in_ok-r.r c.loop-j.j c.loop-j.invariant.0 c.in_ok-r.ensures.makes.kept c.loop-j.invariant.1 c.in_ok-r.ensures.result),
      flat_makes c.args.d.now.store c.loop-j.d.store new (mismatches spec imp) c.loop-j.j c.loop-j.invariant.2 c.in_ok-r.ensures.makes,
    )

pub returns-clause-makes : goal.returns-clause-makes
returns-clause-makes c =
    let count : c.loop-j.j ≡ length c.args.pair.now.imp.outs = search rules in
    subst (λ i. Makes c.args.d.now.store c.loop-j.d.store (flat_map (mismatches c.args.pair.now.spec c.args.pair.now.imp) (range_with_len 0 i))) count c.loop-j.invariant.2
