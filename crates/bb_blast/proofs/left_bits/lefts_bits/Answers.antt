use Rattle.std.proofs.Common.{[]}
use Rattle.bb_names.specs.Inside.Checked.{module_facts, syntax}
use Rattle.bb_blast.proofs.LeftBits.{bits_none}
use Rattle.bb_blast.proofs.left_bits.lefts_bits.Goals as goal

pub returns : goal.returns
returns c = record { bits = c.in_ok-add_lefts.ensures (λ s. []) (bits_none (syntax (module_facts c.args.scope.now)) c.new-numbers.result.items c.new-numbers.ensures.items) }
