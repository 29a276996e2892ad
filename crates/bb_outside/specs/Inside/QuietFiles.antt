-- Files in memory that never fail: a list of names with their bytes, and the count of reads.
use Rattle.std.specs.Prelude.{ℕ, List, Option, None, Some}
use Rattle.bb_outside.specs.Counts.{Reads}
use Rattle.bb_outside.specs.Inside.MemFiles.{text_under}

-- files by name, and how many reads there were
pub record ReadFiles : Type 0 where
  pub files : List (List ℕ × List ℕ)
  pub reads : ℕ

-- what a caller over any files sees of what is held: the first file of a name counts, and without one the empty text is held
abbrev pub holds_of : ReadFiles → List ℕ → Option (List ℕ)
holds_of m name = Some (text_under m.files name)

-- and of the reads: none failed; which names were read is not kept
abbrev pub reads_of : ReadFiles → Reads
reads_of m = record { count = m.reads; faults = 0; reported = None }
