-- What the operations do with bits.
use Rattle.std.specs.Prelude.{Bool, not, ◌&&◌, ◌||◌, if◌then◌else◌}
use Rattle.bb_bits.specs.Bits.{xor}
use Rattle.bb_dd.specs.declared.key.Operation.{Operation}
use Rattle.bb_dd.specs.declared.key.Operation.TheVariants.{Not, And, Or, Xor, Ite}

abbrev pub value_of : Operation → Bool → Bool → Bool → Bool
value_of Not = λ a b c. not a
value_of And = λ a b c. a && b
value_of Or = λ a b c. a || b
value_of Xor = λ a b c. xor a b
value_of Ite = λ a b c. if a then b else c
