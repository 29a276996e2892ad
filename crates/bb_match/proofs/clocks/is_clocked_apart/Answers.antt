use Rattle.std.proofs.Common.{sym, ◌∙◌}
use Rattle.bb_match.proofs.ClockLemmas.{reported_there, isomorphic_other, isomorphic_past}
use Rattle.bb_match.proofs.clocks.is_clocked_apart.Goals as goal

pub returns-then-eq : goal.returns-then-eq
returns-then-eq c = record {
  apart = reported_there c.args.spec.now c.args.imp.now c.args.r.now c.in-Some.q.now c.args.places.now.entries c.regs.result.now c.text_place.result c.have_same_clock.result c.regs.ensures.kept.apart.regs c.regs.ensures.regs c.in-Some.ensures.lookup.1 c.in-Some.ensures.lookup.3.0
      (sym c.eq.ensures ∙ c.if-eq.true) c.have_same_clock.ensures.alike;
}

pub returns-else-eq : goal.returns-else-eq
returns-else-eq c = record {
  apart = rw c.if-eq.false
      (isomorphic_other c.args.spec.now c.args.imp.now c.args.r.now c.in-Some.q.now c.args.places.now.entries c.regs.result.now c.text_place.result c.requires.places c.regs.ensures.regs c.text_place.ensures.place c.in-Some.ensures.lookup.1 (sym c.eq.ensures ∙ c.if-eq.false));
}

pub returns-in-None : goal.returns-in-None
returns-in-None c = record {
  apart = isomorphic_past c.args.spec.now c.args.imp.now c.args.r.now c.args.places.now.entries c.regs.result.now c.text_place.result c.requires.places c.regs.ensures.regs c.text_place.ensures.place c.in-None.ensures.lookup.3;
}
