use Rattle.bb_sym.proofs.SomeFindings.{known_or_none, always_or_none, all_or_none}
use Rattle.bb_sym.proofs.laws.findings_exist.Goals as goal

pub returns : goal.returns
returns c = λ spec imp kept.
    let below = c.number_is_below.ensures in
    let cases = c.vectors_hold_or_not.ensures in
    record {
      known = known_or_none below spec imp kept (cases.known spec imp);
      always = always_or_none below spec imp kept (cases.one spec imp);
      all = all_or_none below spec imp kept (cases.some spec imp);
    }
