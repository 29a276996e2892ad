use Rattle.std.proofs.Common.{rules, IsErrOf}
use Rattle.bb_uniq.specs.Inside.Meaning.{truth_of, IsTooMany}
use Rattle.bb_sym.specs.declared.fault.RungFault.TheVariants.{Nodes}
use Rattle.bb_sym.specs.Functions.{both, either, sum_tables}
use Rattle.bb_sym.specs.Inside.Made.{AreTooMany}
use Rattle.bb_sym.proofs.SumLemmas.{choice_refused_first, choice_refused_second, choice_refused_last, choice_makes, choice_occurs}
use Rattle.bb_sym.proofs.sums.choice.Goals as goal

pub returns-in_err-chosen-clause-nodes : goal.returns-in_err-chosen-clause-nodes
returns-in_err-chosen-clause-nodes c =
    let s = c.args.d.now.store in
    let reported : IsErrOf c.from_residual.result Nodes → AreTooMany s (sum_tables (truth_of s c.args.c.0) (truth_of s c.args.t.0) (truth_of s c.args.not_c.0) (truth_of s c.args.e.0)) = search rules in
    λ full. choice_refused_first s c.args.c.0 c.args.not_c.0 c.args.t.0 c.args.e.0 c.requires.t c.requires.e (reported full)

pub returns-in_err-same-clause-nodes : goal.returns-in_err-same-clause-nodes
returns-in_err-same-clause-nodes c =
    let m = c.sum_of_products.new.d.store in
    let reported : IsErrOf c.from_residual-in_err-same.result Nodes → IsTooMany m (both (truth_of m c.args.t.0) (truth_of m c.args.e.0)) = search rules in
    λ full. choice_refused_second c.args.d.now.store c.args.c.0 c.args.not_c.0 c.args.t.0 c.args.e.0 c.requires.t c.requires.e m c.in_ok-chosen.chosen c.in_ok-chosen.ensures.makes c.in_ok-chosen.ensures.result (reported full)

pub returns-in_err-r-clause-nodes : goal.returns-in_err-r-clause-nodes
returns-in_err-r-clause-nodes c =
    let n = c.and.new.self.store in
    let reported : IsErrOf c.from_residual-in_err-r.result Nodes → IsTooMany n (either (truth_of n c.in_ok-chosen.chosen.0) (truth_of n c.in_ok-same.same.0)) = search rules in
    λ full. choice_refused_last c.args.d.now.store c.args.c.0 c.args.not_c.0 c.args.t.0 c.args.e.0 c.requires.t c.requires.e c.sum_of_products.new.d.store c.in_ok-chosen.chosen c.in_ok-chosen.ensures.makes c.in_ok-chosen.ensures.result
    n c.in_ok-same.same.0 c.in_ok-same.ensures.ok (reported full)

pub returns-clause-result : goal.returns-clause-result
returns-clause-result c =
    choice_occurs c.args.d.now.store c.args.c.0 c.args.not_c.0 c.args.t.0 c.args.e.0 c.requires.t c.requires.e c.sum_of_products.new.d.store c.in_ok-chosen.chosen c.in_ok-chosen.ensures.makes c.in_ok-chosen.ensures.result
    c.and.new.self.store c.in_ok-same.same.0 c.in_ok-same.ensures.ok c.or.new.self.store c.in_ok-r.r c.in_ok-r.ensures.ok

pub returns-clause-makes : goal.returns-clause-makes
returns-clause-makes c =
    choice_makes c.args.d.now.store c.args.c.0 c.args.not_c.0 c.args.t.0 c.args.e.0 c.requires.t c.requires.e c.sum_of_products.new.d.store c.in_ok-chosen.chosen c.in_ok-chosen.ensures.makes c.in_ok-chosen.ensures.result
    c.and.new.self.store c.in_ok-same.same.0 c.in_ok-same.ensures.ok c.or.new.self.store c.in_ok-r.r.0 c.in_ok-r.ensures.ok
