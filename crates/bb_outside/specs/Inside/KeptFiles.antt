-- Files that keep a list of their reads, over any others.
use Rattle.std.specs.Prelude.{ℕ, List, Some, is_none, option_map, map, string_bytes}
use Rattle.std.specs.List.{count_by}
use Rattle.bb_outside.specs.Counts.{FileRead, Reads}
use Rattle.bb_outside.specs.declared.kept_files.KeptRead.{KeptRead}

-- the other files, and the reads in their order
pub record Kept (F : Type 0) : Type 0 where
  pub files : F
  pub reported : List FileRead

-- reads with names and texts as bytes
abbrev pub entries : List KeptRead → List FileRead
entries reads = map (λ read. record { name = string_bytes read.name; limit = read.limit; gave = option_map (λ bytes. bytes.value.items) read.gave }) reads

-- how many of the reads failed
abbrev pub failures : List FileRead → ℕ
failures reads = count_by (λ read. is_none read.gave) reads

-- what a caller over any files sees of the reads: the count of the other files, how many of the list failed, and the
-- list. A failure of the other files for which the list finds no room is reported as lack of memory, and is no failure
-- here
abbrev pub reads_of : ℕ → List FileRead → Reads
reads_of count reported = record { count = count; faults = failures reported; reported = Some reported }
