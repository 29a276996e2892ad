-- One number for a key of the cache, which is what is hashed: the kind of the key, and its operands below it.
use Rattle.std.specs.Prelude.{ℕ, ◌+◌, ◌*◌, if◌then◌else◌}
use Rattle.bb_dd.specs.declared.key.Operation.{Operation}
use Rattle.bb_dd.specs.declared.key.Operation.TheVariants.{Not, And, Or, Xor, Ite}
use Rattle.bb_dd.specs.declared.key.Key.{Key}
use Rattle.bb_dd.specs.declared.key.Key.TheVariants.{Apply, Quantify}

abbrev pub kind_of : Operation → ℕ
kind_of Not = 0
kind_of And = 1
kind_of Or = 2
kind_of Xor = 3
kind_of Ite = 4

-- four fields of 32 bits, the first one most significant
abbrev pub four_fields : ℕ → ℕ → ℕ → ℕ → ℕ
four_fields a b c d = ((a * 4294967296 + b) * 4294967296 + c) * 4294967296 + d

abbrev pub number_of_key : Key → ℕ
number_of_key (Apply op f g h) = four_fields (kind_of op) f.0 g.0 h.0
number_of_key (Quantify all f v) = four_fields (if all then 5 else 6) 0 f.0 v
