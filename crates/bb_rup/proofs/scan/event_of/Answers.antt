use Rattle.std.proofs.Common.{◌<◌, ◌≤◌, length, arith, ap, sym, ◌∙◌, subst}
use Rattle.bb_rup.specs.Propagation.{complement}
use Rattle.bb_rup.specs.Inside.Trails.{mark_place, marked}
use Rattle.bb_rup.proofs.Reached.{open_unit, complement_in_range}
use Rattle.bb_rup.proofs.scan.event_of.Goals as goal
use Rattle.bb_rup.proofs.scan.event_of.Goals.{else-not-is_false-via-then-not-is_false+else-place-marks, else-not-is_false-via-else-not-is_false}

pub returns-else-not-is_false-clause-quiet : goal.returns-else-not-is_false-clause-quiet
returns-else-not-is_false-clause-quiet c room clause occurs =
    elim c.else-not-is_false.branch [
      | else-not-is_false-via-then-not-is_false+else-place-marks w ↦
          let below : mark_place (complement c.in-Unit.lit) < length c.args.marks.now =
          complement_in_range (length c.args.marks.now) c.args.clauses.now c.args.number c.at.result.now c.in-Unit.lit room c.at.ensures c.in-Unit.ensures.own in
          let past = subst (λ l. length c.args.marks.now ≤ mark_place l) c.negation-new.ensures (subst (λ n. length c.args.marks.now ≤ n) w.place.ensures w.if-place-marks.false) in
          absurd (omega (arith, below, past))
      | else-not-is_false-via-else-not-is_false w ↦
          open_unit c.args.clauses.now (marked c.args.marks.now) c.args.number c.at.result.now clause c.in-Unit.lit c.at.ensures c.in-Unit.ensures
          (ap (marked c.args.marks.now) (sym c.negation-new.ensures) ∙ sym c.is_false.ensures ∙ w.if-not-is_false.false) occurs
    ]
