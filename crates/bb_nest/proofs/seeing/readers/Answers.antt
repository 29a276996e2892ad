use Rattle.std.proofs.Common.{List, ℕ, take, ◌+◌, subst, sym}
use Rattle.bb_sym.specs.Inside.Made.{ref_at}
use Rattle.bb_nest.specs.Inside.Readers.{AreReaders}
use Rattle.bb_nest.proofs.Reading.{readers_more, reads_below}
use Rattle.bb_nest.proofs.seeing.readers.Goals as goal

pub loop-r-preserved : goal.loop-r-preserved
loop-r-preserved c =
    let ins = c.args.ins.now in
    let refs = c.args.refs.now in
    let i = c.loop-r.r-index in
    let low = reads_below ins (ref_at refs i) c.reader.result (c.requires.seen i (record { 0 = 0 }) c.loop-r-test.true) c.reader.ensures.none in
    subst (λ (readers : List ℕ). AreReaders ins (take (i + 1) refs) readers) (sym {A = List ℕ} c.in_ok-push.ensures.items) (readers_more ins refs c.loop-r.readers.items i c.reader.result c.loop-r-test.true c.loop-r.invariant (c.reader.ensures.found low))
