use Rattle.std.proofs.Common.{◌≡◌, length}
use Rattle.std.specs.List.{list_all}
use Rattle.std.specs.Char.{is_ascii_digit}
use Rattle.std.specs.Str.Parse.{digits_value, digits_value_after}
use Rattle.bb_rup.proofs.Digits.{Fits}
use Rattle.bb_rup.proofs.numerals.number.Given as goal

abbrev pub invariant-loop-b : goal.invariant-loop-b
invariant-loop-b l =
    (digits_value_after 10 l.value l.rest ≡ digits_value 10 l.digits)
    × (list_all is_ascii_digit l.rest ≡ list_all is_ascii_digit l.digits)
    × Fits l.value l.rest l.digits

abbrev pub decreases-loop-b : goal.decreases-loop-b
decreases-loop-b l = length l.rest
