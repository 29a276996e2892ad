use Rattle.std.proofs.Common.{rules, IsErrOf}
use Rattle.bb_uniq.specs.Inside.Meaning.{truth_of, IsTooMany}
use Rattle.bb_sym.specs.declared.fault.RungFault.TheVariants.{Nodes}
use Rattle.bb_sym.specs.Functions.{both, either}
use Rattle.bb_sym.proofs.SumLemmas.{sum_refused_first, sum_refused_second, sum_refused_last, sum_makes, sum_occurs}
use Rattle.bb_sym.proofs.sums.sum_of_products.Goals as goal

pub returns-in_err-first-clause-nodes : goal.returns-in_err-first-clause-nodes
returns-in_err-first-clause-nodes c =
    let s = c.args.d.now.store in
    let reported : IsErrOf c.from_residual.result Nodes → IsTooMany s (both (truth_of s c.args.a.0) (truth_of s c.args.b.0)) = search rules in
    λ full. sum_refused_first s c.args.a.0 c.args.b.0 c.args.c.0 c.args.e.0 c.requires.a c.requires.b c.requires.c c.requires.e (reported full)

pub returns-in_err-second-clause-nodes : goal.returns-in_err-second-clause-nodes
returns-in_err-second-clause-nodes c =
    let s = c.args.d.now.store in
    let m = c.and.new.self.store in
    let reported : IsErrOf c.from_residual-in_err-second.result Nodes → IsTooMany m (both (truth_of m c.args.c.0) (truth_of m c.args.e.0)) = search rules in
    λ full. sum_refused_second s c.args.a.0 c.args.b.0 c.args.c.0 c.args.e.0 c.requires.a c.requires.b c.requires.c c.requires.e m c.in_ok-first.first.0 c.in_ok-first.ensures.ok (reported full)

pub returns-in_err-r-clause-nodes : goal.returns-in_err-r-clause-nodes
returns-in_err-r-clause-nodes c =
    let s = c.args.d.now.store in
    let m = c.and.new.self.store in
    let n = c.and-2.new.self.store in
    let reported : IsErrOf c.from_residual-in_err-r.result Nodes → IsTooMany n (either (truth_of n c.in_ok-first.first.0) (truth_of n c.in_ok-second.second.0)) = search rules in
    λ full. sum_refused_last s c.args.a.0 c.args.b.0 c.args.c.0 c.args.e.0 c.requires.a c.requires.b c.requires.c c.requires.e m c.in_ok-first.first.0 c.in_ok-first.ensures.ok n c.in_ok-second.second.0 c.in_ok-second.ensures.ok (reported full)

pub returns-clause-result : goal.returns-clause-result
returns-clause-result c =
    sum_occurs c.args.d.now.store c.args.a.0 c.args.b.0 c.args.c.0 c.args.e.0 c.requires.a c.requires.b c.requires.c c.requires.e c.and.new.self.store c.in_ok-first.first.0 c.in_ok-first.ensures.ok
    c.and-2.new.self.store c.in_ok-second.second.0 c.in_ok-second.ensures.ok c.or.new.self.store c.in_ok-r.r c.in_ok-r.ensures.ok

pub returns-clause-makes : goal.returns-clause-makes
returns-clause-makes c =
    sum_makes c.args.d.now.store c.args.a.0 c.args.b.0 c.args.c.0 c.args.e.0 c.requires.a c.requires.b c.requires.c c.requires.e c.and.new.self.store c.in_ok-first.first.0 c.in_ok-first.ensures.ok
    c.and-2.new.self.store c.in_ok-second.second.0 c.in_ok-second.ensures.ok c.or.new.self.store c.in_ok-r.r.0 c.in_ok-r.ensures.ok
