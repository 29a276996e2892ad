-- The line that refuses two texts: which side is refused, or that the pair is, then what is wrong.
use Rattle.std.specs.Prelude.{ℕ, List, [], codes}
use Rattle.bb_match.specs.declared.fault.MatchFault.{MatchFault}
use Rattle.bb_match.specs.declared.fault.MatchFault.TheVariants as pair
use Rattle.bb_frontend.specs.declared.refusal.Refusal.{Refusal}
use Rattle.bb_frontend.specs.declared.refusal.Refusal.TheVariants.{Spec, Imp, Pair, NoMemory}
use Rattle.bb_frontend.specs.Refusals.{refusal}
use Rattle.bb_frontend.specs.SideWords.{fault_words, with_name}

abbrev pub pair_words : MatchFault → List ℕ
pair_words (pair.SpecBox n) = with_name (codes "specbox") n
pair_words (pair.NoCare n) = with_name (codes "care") n
pair_words (pair.PortDiffers n) = with_name (codes "port") n
pair_words (pair.RegDiffers n) = with_name (codes "register") n
pair_words (pair.ClockNotInput n) = with_name (codes "clockinput") n
pair_words (pair.ClockDiffers n) = with_name (codes "clock") n
pair_words pair.TooManyPins = codes "pins"
pair_words pair.NoMemory = []

-- for lack of memory there is no line
abbrev pub refusal_line : Refusal → List ℕ
refusal_line (Spec fault) = refusal (codes "spec") (fault_words fault)
refusal_line (Imp fault) = refusal (codes "impl") (fault_words fault)
refusal_line (Pair fault) = refusal (codes "pair") (pair_words fault)
refusal_line NoMemory = []
