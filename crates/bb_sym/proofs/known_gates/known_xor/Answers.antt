use Rattle.std.proofs.Common.{rules, IsErrOf, ◌++◌, List}
use Rattle.bb_bits.specs.Truth.{Truth}
use Rattle.bb_sym.specs.declared.fault.RungFault.TheVariants.{Nodes}
use Rattle.bb_sym.specs.Functions.{sum_table, sum_tables}
use Rattle.bb_sym.specs.Inside.Made.{AreTooMany}
use Rattle.bb_sym.specs.Inside.Rails.{Rails, rails_of}
use Rattle.bb_sym.proofs.MadeLemmas.{Represents-kept, too_many_within, within_append_left}
use Rattle.bb_sym.proofs.PairLemmas.{lists_refused, lists_made, occurs_same}
use Rattle.bb_sym.proofs.RailLemmas.{two_kept}
use Rattle.bb_sym.proofs.known_gates.known_xor.Goals as goal

abbrev first : Rails → Rails → List Truth
first a b = sum_tables a.one b.zero a.zero b.one

abbrev of_second : {X : Type 0} → (Truth → Truth → Truth → Truth → X) → Rails → Rails → X
of_second f a b = f a.one b.one a.zero b.zero

pub returns-in_err-one-clause-nodes : goal.returns-in_err-one-clause-nodes
returns-in_err-one-clause-nodes c =
    let s = c.args.d.now.store in
    let ts = first (rails_of s c.args.a) (rails_of s c.args.b) in
    let us = of_second sum_tables (rails_of s c.args.a) (rails_of s c.args.b) in
    let reported : IsErrOf c.from_residual.result Nodes → AreTooMany s ts = search rules in
    λ full. too_many_within s ts (ts ++ us) (within_append_left ts us) (reported full)

pub returns-in_err-zero-clause-nodes : goal.returns-in_err-zero-clause-nodes
returns-in_err-zero-clause-nodes c =
    let m = c.sum_of_products.new.d.store in
    let made = c.in_ok-one.ensures.makes in
    let reported : IsErrOf c.from_residual-in_err-zero.result Nodes → AreTooMany m (of_second sum_tables (rails_of m c.args.a) (rails_of m c.args.b)) = search rules in
    λ full. lists_refused _ m _ _ _ made (two_kept (of_second sum_tables) _ m c.args.a c.args.b made.kept c.requires.a c.requires.b) (reported full)

pub returns-clause-rails : goal.returns-clause-rails
returns-clause-rails c =
    let kept = c.in_ok-one.ensures.makes.kept in
    record {
      one = Represents-kept _ _ _ c.in_ok-one.one c.in_ok-zero.ensures.makes.kept c.in_ok-one.ensures.result;
      zero = occurs_same _ _ _ c.in_ok-zero.zero (two_kept (of_second sum_table) _ _ c.args.a c.args.b kept c.requires.a c.requires.b) c.in_ok-zero.ensures.result;
    }

pub returns-clause-makes : goal.returns-clause-makes
returns-clause-makes c =
    let made = c.in_ok-one.ensures.makes in
    lists_made _ _ _ _ _ made (two_kept (of_second sum_tables) _ _ c.args.a c.args.b made.kept c.requires.a c.requires.b) _ c.in_ok-zero.ensures.makes
