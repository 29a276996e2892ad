-- Counts that are kept in a 64-bit number. A count goes up by one at a time and stays at its last value, 2^64 - 1. So a
-- count that is there at the end of a call may have been raised in it.
use Rattle.std.specs.Prelude.{◌≡◌, ◌⊎◌, ◌↔◌, ℕ, ◌+◌, ◌-◌, ◌^◌, ◌<◌, ◌≤◌, min, List, [], ◌∷◌, ◌++◌, Option, Some, None, option_map, IfSome, Result, Ok, Err, Vec}
use Rattle.std.specs.declared.alloc.Global.{Global}
use Rattle.std.specs.declared.rc.Rc.{Rc}
use Rattle.bb_outside.specs.declared.files.FileFault.{FileFault}
use Rattle.bb_outside.specs.declared.files.FileFault.TheVariants.{Failed, NoMemory}

-- the count after one more
abbrev pub next_count : ℕ → ℕ
next_count n = min (n + 1) (2 ^ 64 - 1)

-- from before to now the count rose, or it is at its last value
abbrev pub Rose : ℕ → ℕ → Type 0
Rose before now = next_count before ≤ now

-- from before to now the count went up by one where this is so, and stayed where it is not
abbrev pub CountsWhere : Type 0 → ℕ → ℕ → Type 0
CountsWhere failed before now = (failed → now ≡ next_count before) × ((failed → ⊥) → now ≡ before)

-- the law of `Rose`: between two moments a count rose exactly where it is greater, or is at its last value
abbrev pub RoseIsGrowth : Type 0
RoseIsGrowth = (before now : ℕ) → before ≤ now → now < 2 ^ 64 → Rose before now ↔ ((before < now) ⊎ (now ≡ 2 ^ 64 - 1))

-- a read: the name of its file, its limit in bytes, and the bytes that it gave, or None where it failed
pub record FileRead : Type 0 where
  pub name : List ℕ
  pub limit : ℕ
  pub gave : Option (List ℕ)

-- what a read gave; None for lack of memory, since a list of the reads may not have found room either
abbrev pub outcome_of : Result (Rc (Vec ℕ Global) Global) FileFault → Option (Option (List ℕ))
outcome_of (Ok bytes) = Some (Some bytes.value.items)
outcome_of (Err Failed) = Some None
outcome_of (Err NoMemory) = None

-- what is known of the reads so far: how many there were and how many of them failed, and, where they are listed, the
-- reads in their order
pub record Reads : Type 0 where
  pub count : ℕ
  pub faults : ℕ
  pub reported : Option (List FileRead)

-- from before to after there was one read of the file of this name, of at most so many bytes, which gave bytes or
-- failed. A failure was counted exactly where it failed; after lack of memory the list is left open
pub record IsRead (before after : Reads) (name : List ℕ) (limit : ℕ) (outcome : Option (Option (List ℕ))) : Type 0 where
  pub counted : after.count ≡ next_count before.count
  pub reported : IfSome outcome (λ gave. after.reported ≡ option_map (λ reported. reported ++ record { name = name; limit = limit; gave = gave } ∷ []) before.reported)
  pub later : before.faults ≤ after.faults
  pub failed : CountsWhere (outcome ≡ Some None) before.faults after.faults
