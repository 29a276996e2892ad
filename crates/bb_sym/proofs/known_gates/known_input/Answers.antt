use Rattle.std.proofs.Common.{rules, IsErrOf, ap, [], ◌∷◌}
use Rattle.bb_bits.specs.Truth.{variable, complement_of_table}
use Rattle.bb_uniq.specs.Inside.Meaning.{truth_of, IsTooMany}
use Rattle.bb_sym.specs.declared.fault.RungFault.TheVariants.{Nodes}
use Rattle.bb_sym.proofs.OutputLoop.{first_refused}
use Rattle.bb_sym.proofs.PairLemmas.{two_refused, two_made, two_first, two_second}
use Rattle.bb_sym.proofs.known_gates.known_input.Goals as goal

pub returns-in_err-one-clause-nodes : goal.returns-in_err-one-clause-nodes
returns-in_err-one-clause-nodes c =
    let s = c.args.d.now.store in
    let t = variable s.vars c.args.i in
    let reported : IsErrOf c.from_residual.result Nodes → IsTooMany s t = search rules in
    λ full. first_refused s t (complement_of_table t ∷ []) (reported full)

pub returns-in_err-zero-clause-nodes : goal.returns-in_err-zero-clause-nodes
returns-in_err-zero-clause-nodes c =
    let m = c.var.new.self.store in
    let reported : IsErrOf c.from_residual-in_err-zero.result Nodes → IsTooMany m (complement_of_table (truth_of m c.in_ok-one.one.0)) = search rules in
    λ full. two_refused _ m _ _ _ c.in_ok-one.one c.in_ok-one.ensures.ok (ap complement_of_table c.in_ok-one.ensures.ok.table) (reported full)

pub returns-clause-rails : goal.returns-clause-rails
returns-clause-rails c =
    let made = c.in_ok-one.ensures.ok in
    record {
      one = two_first _ _ _ _ _ c.in_ok-one.one made (ap complement_of_table made.table) _ c.in_ok-zero.zero c.in_ok-zero.ensures.ok;
      zero = two_second _ _ _ _ _ c.in_ok-one.one made (ap complement_of_table made.table) _ c.in_ok-zero.zero c.in_ok-zero.ensures.ok;
    }

pub returns-clause-makes : goal.returns-clause-makes
returns-clause-makes c =
    two_made _ _ _ _ _ c.in_ok-one.one c.in_ok-one.ensures.ok (ap complement_of_table c.in_ok-one.ensures.ok.table) _ c.in_ok-zero.zero c.in_ok-zero.ensures.ok
