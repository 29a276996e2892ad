use Rattle.std.proofs.Common.{◌+◌, [], List, Bool, refl, take, drop, sym, ap, ◌∙◌}
use Rattle.bb_elab.proofs.ReadBits.{place_read, read_place, read_part, read_within}
use Rattle.bb_elab.proofs.reading.read_bits.Goals as goal

pub returns-clause-only : goal.returns-clause-only
returns-clause-only c = λ d lowering bounded lowered list are first k b at on.
    let part = read_part [] c.in_ok-marks.marks.items c.in_ok-reads.reads.items c.args.count c.args.first c.args.count k refl refl (c.in_ok-reads.ensures.part ∙ ap (λ (l : List Bool). take c.args.count (drop c.args.first l)) c.deref.ensures.value)
    (read_within c.in_ok-reads.reads.items c.args.count k c.in_ok-reads.ensures.long on) in
    place_read c.laws_of_designs.ensures c.laws_of_cells.ensures d lowering c.args.list.now bounded lowered list c.args.stored.now are c.args.first first k b at (c.in_ok-marks.ensures.only (c.args.first + k) (sym part ∙ on))

pub returns-clause-read : goal.returns-clause-read
returns-clause-read c = λ loose inside d lowering bounded once lowered list is timed k b at lt read.
    read_part [] c.in_ok-marks.marks.items c.in_ok-reads.reads.items c.args.count c.args.first c.args.count k refl refl (c.in_ok-reads.ensures.part ∙ ap (λ (l : List Bool). take c.args.count (drop c.args.first l)) c.deref.ensures.value) lt
    ∙ c.in_ok-marks.ensures.read loose inside (c.args.first + k) (read_place c.laws_of_cells.ensures d lowering c.args.list.now bounded once lowered list c.args.stored.now c.args.first is timed k b at read)
