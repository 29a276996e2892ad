-- Files in memory: a list of names with their bytes, and the numbers of the reads that fail. The first read
-- has number 0, so the number of a read is the number of reads before it.
use Rattle.std.specs.Prelude.{None, ◌≡◌, ◌≢◌, ℕ, Bool, if◌then◌else◌, ◌==◌, List, [], ◌∷◌, map, nat_eq, Vec, String, string_bytes}
use Rattle.std.specs.declared.alloc.Global.{Global}
use Rattle.std.specs.List.{list_any}
use lib.Pointwise.{pointwise}
use Rattle.bb_outside.specs.Counts.{Reads, next_count}

-- files by name, the reads that fail, and the counts of reads and of failed reads
pub record HeldFiles : Type 0 where
  pub files : List (List ℕ × List ℕ)
  pub failing : List ℕ
  pub reads : ℕ
  pub faults : ℕ

-- what a caller over any files sees of the reads; which names were read is not kept
abbrev pub reads_of : HeldFiles → Reads
reads_of m = record { count = m.reads; faults = m.faults; reported = None }

-- names and texts as bytes
abbrev pub entries : List (String Global × Vec ℕ Global) → List (List ℕ × List ℕ)
entries files = map (λ file. (string_bytes file.0, file.1.items)) files

-- the bytes of the first file of this name, and none where there is no such file
abbrev pub text_under : List (List ℕ × List ℕ) → List ℕ → List ℕ
text_under [] name = []
text_under (file ∷ files) name = if pointwise nat_eq file.0 name then file.1 else text_under files name

-- the law of it: a file counts where it has the name, and is passed over where it has another
abbrev pub FirstOfTheNameCounts : Type 0
FirstOfTheNameCounts = (files : List (List ℕ × List ℕ)) (known name text : List ℕ)
    → (known ≡ name → text_under ((known, text) ∷ files) name ≡ text)
    × (known ≢ name → text_under ((known, text) ∷ files) name ≡ text_under files name)

-- the next read is one of those that fail
abbrev pub is_failing : HeldFiles → Bool
is_failing m = list_any (λ n. n == m.reads) m.failing

-- a read counts itself, and the failure where it is one of those that fail
abbrev pub after_read : HeldFiles → HeldFiles
after_read m = record m { reads = next_count m.reads; faults = if is_failing m then next_count m.faults else m.faults }
