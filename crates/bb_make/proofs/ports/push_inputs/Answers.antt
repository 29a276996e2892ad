use Rattle.std.proofs.Common.{◌∙◌, ◌-◌, ◌++◌, append_assoc, ap, arith, codes, sym}
use Rattle.std.specs.List.{flat_map}
use Rattle.bb_make.specs.Adders.{bit_numbers}
use Rattle.bb_make.proofs.Joined.{inputs_by_place, no_place_left, one_place_less, two_bits}
use Rattle.bb_make.proofs.ports.push_inputs.Goals as goal

pub loop-i-preserved : goal.loop-i-preserved
loop-i-preserved c =
    ap (λ t. t ++ flat_map two_bits (bit_numbers (c.loop-i.i - 1))) c.in_ok-push_bits.ensures.text
    ∙ one_place_less two_bits c.loop-i.text.items (c.args.text.now.items ++ flat_map two_bits (bit_numbers c.args.n)) c.loop-i.i c.loop-i-test.true c.loop-i.invariant

pub returns : goal.returns
returns c = record {
  text =
      c.in_ok-extend_from_slice.ensures.items
      ∙ ap (λ t. t ++ codes "ci") (no_place_left two_bits c.loop-i.text.items (c.args.text.now.items ++ flat_map two_bits (bit_numbers c.args.n)) c.loop-i.i (omega (arith, c.loop-i-test.false)) c.loop-i.invariant)
      ∙ append_assoc c.args.text.now.items (flat_map two_bits (bit_numbers c.args.n)) (codes "ci")
      ∙ ap (λ t. c.args.text.now.items ++ t) (sym (inputs_by_place c.args.n));
}
