use Rattle.std.proofs.Common.{rules, IsErrOf, ◌++◌, List}
use Rattle.bb_bits.specs.Truth.{Truth}
use Rattle.bb_sym.specs.declared.fault.RungFault.TheVariants.{Nodes}
use Rattle.bb_sym.specs.Functions.{choice_table, choice_tables}
use Rattle.bb_sym.specs.Inside.Made.{AreTooMany}
use Rattle.bb_sym.specs.Inside.Rails.{Rails, rails_of}
use Rattle.bb_sym.proofs.MadeLemmas.{Represents-kept, too_many_within, within_append_left}
use Rattle.bb_sym.proofs.PairLemmas.{lists_refused, lists_made, occurs_same}
use Rattle.bb_sym.proofs.RailLemmas.{three_kept}
use Rattle.bb_sym.proofs.known_gates.known_mux.Goals as goal

abbrev first : Rails → Rails → Rails → List Truth
first c t e = choice_tables c.one c.zero t.one e.one

abbrev of_second : {X : Type 0} → (Truth → Truth → Truth → Truth → X) → Rails → Rails → Rails → X
of_second f c t e = f c.one c.zero t.zero e.zero

pub returns-in_err-one-clause-nodes : goal.returns-in_err-one-clause-nodes
returns-in_err-one-clause-nodes c =
    let s = c.args.d.now.store in
    let ts = first (rails_of s c.args.c) (rails_of s c.args.t) (rails_of s c.args.e) in
    let us = of_second choice_tables (rails_of s c.args.c) (rails_of s c.args.t) (rails_of s c.args.e) in
    let reported : IsErrOf c.from_residual.result Nodes → AreTooMany s ts = search rules in
    λ full. too_many_within s ts (ts ++ us) (within_append_left ts us) (reported full)

pub returns-in_err-zero-clause-nodes : goal.returns-in_err-zero-clause-nodes
returns-in_err-zero-clause-nodes c =
    let m = c.choice.new.d.store in
    let made = c.in_ok-one.ensures.makes in
    let reported : IsErrOf c.from_residual-in_err-zero.result Nodes → AreTooMany m (of_second choice_tables (rails_of m c.args.c) (rails_of m c.args.t) (rails_of m c.args.e)) = search rules in
    λ full. lists_refused _ m _ _ _ made (three_kept (of_second choice_tables) _ m c.args.c c.args.t c.args.e made.kept c.requires.c c.requires.t c.requires.e) (reported full)

pub returns-clause-rails : goal.returns-clause-rails
returns-clause-rails c =
    let kept = c.in_ok-one.ensures.makes.kept in
    record {
      one = Represents-kept _ _ _ c.in_ok-one.one c.in_ok-zero.ensures.makes.kept c.in_ok-one.ensures.result;
      zero = occurs_same _ _ _ c.in_ok-zero.zero (three_kept (of_second choice_table) _ _ c.args.c c.args.t c.args.e kept c.requires.c c.requires.t c.requires.e) c.in_ok-zero.ensures.result;
    }

pub returns-clause-makes : goal.returns-clause-makes
returns-clause-makes c =
    let made = c.in_ok-one.ensures.makes in
    lists_made _ _ _ _ _ made (three_kept (of_second choice_tables) _ _ c.args.c c.args.t c.args.e made.kept c.requires.c c.requires.t c.requires.e) _ c.in_ok-zero.ensures.makes
