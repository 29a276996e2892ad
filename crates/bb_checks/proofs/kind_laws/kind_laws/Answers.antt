use Rattle.bb_checks.proofs.kind_laws.kind_laws.Goals as goal

pub returns : goal.returns
returns c = record {
  pins = c.kinds_are_shown.ensures.firsts;
  texts = c.kinds_are_shown-2.ensures.firsts;
  there = c.kinds_are_shown.ensures.there;
  places = c.kinds_may_differ.ensures.places;
  all = c.kinds_are_shown.ensures.places;
  own = c.kinds_may_differ.ensures.spread;
  fit = c.tables_are_spread.ensures.fit;
  none = c.shared_tables_make_equivalent.ensures.none;
}
