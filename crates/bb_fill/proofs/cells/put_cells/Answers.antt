use Rattle.std.proofs.Common.{◌≡◌, ◌∙◌, ◌<◌, ℕ, List, arith, replicate, ap, length}
use Rattle.std.specs.List.{flat_map, range_with_len}
use Rattle.bb_net.specs.Kinds.{per_box}
use Rattle.bb_net.specs.Netlists.{cell_at}
use Rattle.bb_fill.specs.Lines.{line_text}
use Rattle.bb_fill.specs.Filled.{cell_lines}
use Rattle.bb_fill.proofs.Choices.{choices_more, choices_within, flat_twice}
use Rattle.bb_fill.proofs.TextBuffers.{one_number_more, same}
use Rattle.bb_fill.proofs.cells.put_cells.Goals as goal

pub put_cell-requires-clause-room : goal.put_cell-requires-clause-room
put_cell-requires-clause-room c =
    let within : c.loop-number.number < length c.args.flat.now.net.cells = omega (arith, c.loop-number-test.true, c.cell_count-number-end.ensures.count) in
    omega (arith, c.loop-number.invariant.1, choices_within c.args.flat.now c.loop-number.number within, c.requires.room)

pub overflow_add-first : goal.overflow_add-first
overflow_add-first c =
    let within : c.loop-number.number < length c.args.flat.now.net.cells = omega (arith, c.loop-number-test.true, c.cell_count-number-end.ensures.count) in
    omega (arith, c.loop-number.invariant.1, choices_within c.args.flat.now c.loop-number.number within, c.requires.room, c.choice_count-first.ensures.count)

pub loop-number-preserved : goal.loop-number-preserved
loop-number-preserved c =
    let f = c.args.flat.now in
    let within : c.loop-number.number < length f.net.cells = omega (arith, c.loop-number-test.true, c.cell_count-number-end.ensures.count) in (
      one_number_more (λ k. flat_map (line_text (replicate c.args.stem 95)) (cell_lines f (per_box c.args.kinds.now c.args.tables.now) k (cell_at f.net.cells k))) c.loop-number.number c.loop-number.invariant.0 c.put_cell.ensures.adds,
      omega (arith, c.loop-number.invariant.1, c.choice_count-first.ensures.count, choices_more f c.loop-number.number within),
    )

pub returns : goal.returns
returns c =
    let f = c.args.flat.now in
    let stem : List ℕ = replicate c.args.stem 95 in
    let tables = per_box c.args.kinds.now c.args.tables.now in
    let last : c.loop-number.number ≡ length f.net.cells = omega (arith, c.loop-number-test.false, c.cell_count-number-end.ensures.count) in
    record {
      adds = same
          (ap (λ n. flat_map (λ k. flat_map (line_text stem) (cell_lines f tables k (cell_at f.net.cells k))) (range_with_len 0 n)) last
          ∙ flat_twice (line_text stem) (λ k. cell_lines f tables k (cell_at f.net.cells k)) (range_with_len 0 (length f.net.cells)))
          c.loop-number.invariant.0;
    }
