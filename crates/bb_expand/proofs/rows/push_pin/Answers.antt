use Rattle.std.proofs.Common.{◌+◌, ◌*◌, ◌++◌, length, ap, ◌∙◌, arith}
use Rattle.bb_bits.specs.Numbers.{bits_of}
use Rattle.bb_cnf.specs.Clauses.{lists_of}
use Rattle.bb_expand.specs.Expansions.{row_clauses}
use Rattle.bb_expand.proofs.Grows.{grown}
use Rattle.bb_expand.proofs.Spelled.{few_inputs, spelled_bits}
use Rattle.bb_expand.proofs.rows.push_pin.Goals as goal

pub overflow_cast-row-end : goal.overflow_cast-row-end
overflow_cast-row-end c =
    let few = few_inputs (length c.args.pins.now.outs) (length c.args.pins.now.ins) 24 (omega (arith, c.requires.pin)) (omega (arith, c.requires.small)) in
    omega (arith, few, ap length c.ins-ins.ensures.ins)

pub overflow_shl-row-end : goal.overflow_shl-row-end
overflow_shl-row-end c =
    let few = few_inputs (length c.args.pins.now.outs) (length c.args.pins.now.ins) 24 (omega (arith, c.requires.pin)) (omega (arith, c.requires.small)) in
    omega (arith, few, ap length c.ins-ins.ensures.ins)

pub spell-requires : goal.spell-requires
spell-requires c =
    let few = few_inputs (length c.args.pins.now.outs) (length c.args.pins.now.ins) 24 (omega (arith, c.requires.pin)) (omega (arith, c.requires.small)) in
    record { few = omega (arith, few, ap length c.ins-ins.ensures.ins, c.deref_mut.ensures.len, c.loop-row.invariant.0) }

pub loop-row-preserved : goal.loop-row-preserved
loop-row-preserved c =
    let bits = spelled_bits c.loop-row.bits c.deref_mut.result.now c.spell.new.bits (length c.ins-ins.result.now) c.loop-row.row c.loop-row.invariant.0 c.deref_mut.ensures.len c.spell.auto.bits c.spell.ensures in (
      c.loop-row.invariant.0,
      grown (λ row. row_clauses (λ place. c.args.base + place + 1) c.ins-ins.result.now c.args.y (bits_of (length c.ins-ins.result.now) row) (c.args.start + row * length c.outs.result.now + c.args.pin + 1))
          c.loop-row.row (lists_of c.args.clauses.now.items) (lists_of c.loop-row.clauses.items) (lists_of c.push_row.new.clauses.items) c.loop-row.invariant.1
          (c.in_ok-push_row.ensures ∙ ap (λ b. lists_of c.loop-row.clauses.items ++ row_clauses (λ place. c.args.base + place + 1) c.ins-ins.result.now c.args.y b (c.args.start + c.loop-row.row * length c.outs.result.now + c.args.pin + 1)) (c.deref.ensures.value ∙ bits)),
    )
