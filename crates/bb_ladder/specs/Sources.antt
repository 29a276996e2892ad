-- Where the bytes of two files come from, of which a call reads the first before the second. Files in memory have known
-- contents. Of the files of the system nothing is known beforehand; but a list of the reads has the bytes that each
-- gave.
use Rattle.std.specs.Prelude.{◌≡◌, ℕ, List, [], ◌∷◌, ◌++◌, Option, Some}
use Rattle.bb_outside.specs.Counts.{FileRead, Reads, Rose}
use Rattle.bb_frontend.specs.declared.limit.TheConstants.{READ_LIMIT}

-- what the files hold under their names, or what the reads of the call gave
pub data TextSource : Type 0 where
  Held : TextSource
  Given : TextSource

-- a read of the file of this name, up to the limit, that gave these bytes
abbrev pub read_of : List ℕ → List ℕ → FileRead
read_of name bytes = record { name = name; limit = READ_LIMIT; gave = Some bytes }

-- the reads are listed, and from before to after they are these
abbrev pub WereRead : Reads → Reads → List FileRead → Type 0
WereRead before after reads = (earlier : List FileRead) × (before.reported ≡ Some earlier)
    × (after.reported ≡ Some (earlier ++ reads))

-- the bytes of the first file; where they are given, the first read of the call gave them
abbrev pub IsFirstFile : TextSource → (List ℕ → Option (List ℕ)) → Reads → Reads → List ℕ → List ℕ → Type 0
IsFirstFile Held holds before after first a = holds first ≡ Some a
IsFirstFile Given holds before after first a = (later : List FileRead) × WereRead before after (read_of first a ∷ later)

-- the bytes of both; where they are given, the call read the two files, in this order, and nothing else
abbrev pub AreBytes : TextSource → (List ℕ → Option (List ℕ)) → Reads → Reads → List ℕ → List ℕ → List ℕ → List ℕ → Type 0
AreBytes Held holds before after first second a b = (holds first ≡ Some a) × (holds second ≡ Some b)
AreBytes Given holds before after first second a b = WereRead before after (read_of first a ∷ read_of second b ∷ [])

-- a read of these bytes may have failed: a failure was counted, or the count is at its last value; bytes that a read
-- gave were read
abbrev pub MayHaveFailed : TextSource → Reads → Reads → Type 0
MayHaveFailed Held before after = Rose before.faults after.faults
MayHaveFailed Given before after = ⊥
