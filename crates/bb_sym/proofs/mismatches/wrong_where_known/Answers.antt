use Rattle.std.proofs.Common.{rules, IsErrOf}
use Rattle.bb_bits.specs.Truth.{complement_of_table}
use Rattle.bb_uniq.specs.Inside.Meaning.{truth_of, IsTooMany}
use Rattle.bb_sym.specs.declared.fault.RungFault.TheVariants.{Nodes}
use Rattle.bb_sym.specs.Functions.{sum_tables}
use Rattle.bb_sym.specs.Inside.Made.{AreTooMany, of_refs}
use Rattle.bb_sym.specs.Inside.Rails.{rails_of}
use Rattle.bb_sym.proofs.OutputLoop.{first_refused}
use Rattle.bb_sym.proofs.MismatchTables.{known_sum_refused, known_sum_makes, known_sum_occurs}
use Rattle.bb_sym.proofs.mismatches.wrong_where_known.Goals as goal

pub returns-in_err-unwanted-clause-nodes : goal.returns-in_err-unwanted-clause-nodes
returns-in_err-unwanted-clause-nodes c =
    let s = c.args.d.now.store in
    let known = rails_of s c.args.known in
    let bit = truth_of s c.args.wanted.0 in
    let reported : IsErrOf c.from_residual.result Nodes → IsTooMany s (complement_of_table bit) = search rules in
    λ full. first_refused s (complement_of_table bit) (sum_tables known.one (complement_of_table bit) known.zero bit) (reported full)

pub returns-in_err-r-clause-nodes : goal.returns-in_err-r-clause-nodes
returns-in_err-r-clause-nodes c =
    let m = c.not.new.self.store in
    let k = c.args.known in
    let reported : IsErrOf c.from_residual-in_err-r.result Nodes → AreTooMany m (of_refs m sum_tables k.one c.in_ok-unwanted.unwanted k.zero c.args.wanted) = search rules in
    λ full. known_sum_refused _ m k c.args.wanted c.in_ok-unwanted.unwanted c.requires.known c.requires.wanted c.in_ok-unwanted.ensures.ok (reported full)

pub returns-clause-result : goal.returns-clause-result
returns-clause-result c =
    known_sum_occurs _ _ c.args.known c.args.wanted c.in_ok-unwanted.unwanted c.requires.known c.requires.wanted c.in_ok-unwanted.ensures.ok _ c.in_ok-r.r c.in_ok-r.ensures.result

pub returns-clause-makes : goal.returns-clause-makes
returns-clause-makes c =
    known_sum_makes _ _ c.args.known c.args.wanted c.in_ok-unwanted.unwanted c.requires.known c.requires.wanted c.in_ok-unwanted.ensures.ok _ c.in_ok-r.ensures.makes
