use Rattle.std.proofs.Common.{length, refl, sym, ap, ◌∙◌, arith}
use Rattle.std.proofs.lemmas.Option.{slice_get_read, same_Some}
use Rattle.bb_blast.specs.declared.placed.Placed.{Placed}
use Rattle.bb_elab.proofs.bit_places.last_below.Goals as goal

pub loop-low-preserved-then-placed-middle : goal.loop-low-preserved-then-placed-middle
loop-low-preserved-then-placed-middle c =
    let all = c.args.placed.now in
    let p = c.index-placed-middle.result in
    record {
      order = omega (arith, c.loop-low-test.true);
      end = c.loop-low.invariant.end;
      here = (p, slice_get_read all (length all) _ p refl (omega (arith, c.loop-low.invariant.end, c.loop-low-test.true)) c.index-placed-middle.is, omega (arith, c.if-placed-middle.true, ap (λ (x : Placed). x.first) c.index-placed-middle.is));
      next = c.loop-low.invariant.next;
    }

pub loop-low-preserved : goal.loop-low-preserved
loop-low-preserved c =
    let all = c.args.placed.now in
    let p = c.index-placed-middle.result in
    record {
      order = omega (arith, c.loop-low-test.true);
      end = omega (arith, c.loop-low.invariant.end, c.loop-low-test.true);
      here = c.loop-low.invariant.here;
      next = λ q there.
          let same = same_Some p q (sym (slice_get_read all (length all) _ p refl (omega (arith, c.loop-low.invariant.end, c.loop-low-test.true)) c.index-placed-middle.is) ∙ there) in
          omega (arith, c.if-placed-middle.false, ap (λ (x : Placed). x.first) c.index-placed-middle.is, ap (λ (x : Placed). x.first) same);
    }
