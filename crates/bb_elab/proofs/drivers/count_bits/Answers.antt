use Rattle.std.proofs.Common.{◌+◌, ℕ, get_or, take, arith}
use Rattle.std.proofs.lemmas.List.{length-map, get_or-map, get_or_default, take_all}
use Rattle.bb_bits.specs.Inside.Places.{numbers_from}
use Rattle.bb_elab.proofs.Tallies.{tally_more, tally_whole, map_more}
use Rattle.bb_elab.proofs.drivers.count_bits.Goals as goal

pub count-requires : goal.count-requires
count-requires c =
    let f = λ (x : ℕ). c.args.first + x in
    let at = c.requires.there c.loop-bit.bit-index 0 (omega (arith, c.loop-bit-test.true, length-map c.args.bits.now f)) in
    record { there = omega (arith, at, get_or-map f c.args.bits.now c.loop-bit.bit-index 0 0 c.loop-bit-test.true, c.loop-bit.auto.counts) }

pub loop-bit-preserved : goal.loop-bit-preserved
loop-bit-preserved c =
    let bit = get_or c.args.bits.now c.loop-bit.bit-index 0 in
    tally_more c.args.counts.now c.loop-bit.counts c.count.new.counts (numbers_from c.args.first (take c.loop-bit.bit-index c.args.bits.now)) _ _ c.loop-bit.invariant c.count.ensures.tally
    (map_more c.args.bits.now c.loop-bit.bit-index bit c.loop-bit-test.true (get_or_default c.args.bits.now c.loop-bit.bit-index 0 bit c.loop-bit-test.true) (λ x. c.args.first + x))

pub returns : goal.returns
returns c = record {
  tally = tally_whole (numbers_from c.args.first) c.args.bits.now c.loop-bit.bit-index c.args.counts.now c.loop-bit.counts (take_all c.loop-bit.bit-index c.args.bits.now (omega (arith, c.loop-bit-test.false))) c.loop-bit.invariant;
}
