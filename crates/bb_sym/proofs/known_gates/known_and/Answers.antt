use Rattle.std.proofs.Common.{rules, IsErrOf, [], ◌∷◌}
use Rattle.bb_bits.specs.Truth.{Truth}
use Rattle.bb_uniq.specs.Inside.Meaning.{IsTooMany}
use Rattle.bb_sym.specs.declared.fault.RungFault.TheVariants.{Nodes}
use Rattle.bb_sym.specs.Functions.{both, either}
use Rattle.bb_sym.specs.Inside.Rails.{Rails, rails_of}
use Rattle.bb_sym.proofs.OutputLoop.{first_refused}
use Rattle.bb_sym.proofs.PairLemmas.{two_refused, two_made, two_first, two_second}
use Rattle.bb_sym.proofs.RailLemmas.{two_kept}
use Rattle.bb_sym.proofs.known_gates.known_and.Goals as goal

abbrev first : Rails → Rails → Truth
first a b = both a.one b.one

abbrev second : Rails → Rails → Truth
second a b = either a.zero b.zero

pub returns-in_err-one-clause-nodes : goal.returns-in_err-one-clause-nodes
returns-in_err-one-clause-nodes c =
    let s = c.args.d.now.store in
    let a = rails_of s c.args.a in
    let b = rails_of s c.args.b in
    let reported : IsErrOf c.from_residual.result Nodes → IsTooMany s (first a b) = search rules in
    λ full. first_refused s (first a b) (second a b ∷ []) (reported full)

pub returns-in_err-zero-clause-nodes : goal.returns-in_err-zero-clause-nodes
returns-in_err-zero-clause-nodes c =
    let m = c.and.new.self.store in
    let reported : IsErrOf c.from_residual-in_err-zero.result Nodes → IsTooMany m (second (rails_of m c.args.a) (rails_of m c.args.b)) = search rules in
    λ full. two_refused _ m _ _ _ c.in_ok-one.one c.in_ok-one.ensures.ok (two_kept second _ m c.args.a c.args.b c.in_ok-one.ensures.ok.kept c.requires.a c.requires.b) (reported full)

pub returns-clause-rails : goal.returns-clause-rails
returns-clause-rails c =
    let made = c.in_ok-one.ensures.ok in
    let same = two_kept second _ _ c.args.a c.args.b made.kept c.requires.a c.requires.b in
    record {
      one = two_first _ _ _ _ _ c.in_ok-one.one made same _ c.in_ok-zero.zero c.in_ok-zero.ensures.ok;
      zero = two_second _ _ _ _ _ c.in_ok-one.one made same _ c.in_ok-zero.zero c.in_ok-zero.ensures.ok;
    }

pub returns-clause-makes : goal.returns-clause-makes
returns-clause-makes c =
    let made = c.in_ok-one.ensures.ok in
    two_made _ _ _ _ _ c.in_ok-one.one made (two_kept second _ _ c.args.a c.args.b made.kept c.requires.a c.requires.b) _ c.in_ok-zero.zero c.in_ok-zero.ensures.ok
