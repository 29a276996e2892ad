-- Files that never fail and say what they hold.
use Rattle.std.proofs.Common.{◌≡◌, ◌⊎◌, ℕ, List, refl, arith, inl, inr}
use Rattle.bb_outside.specs.Counts.{Reads, Rose}
use Rattle.bb_outside.specs.Inside.QuietFiles.{ReadFiles, holds_of}
use Rattle.bb_outside.specs.Inside.MemFiles.{text_under}
use Rattle.bb_ladder.specs.CallRefusals.{AreReadsKnown}
use Rattle.bb_ladder.specs.Sources.{Given, Held, MayHaveFailed, TextSource}

-- a count that stays 0 did not rise
pub never_rose : Rose 0 0 → ⊥
never_rose rose = omega (arith, rose)

pub never_failed : (from : TextSource) (before after : Reads) → before.faults ≡ 0 → after.faults ≡ 0 → MayHaveFailed from before after → ⊥
never_failed Held before after zero still rose = omega (arith, zero, still, rose)
never_failed Given before after zero still failed = failed

-- it is known what is held of any file
pub all_held : (words : List (List ℕ)) (files : ReadFiles) (before after : Reads)
    → AreReadsKnown (record { words = words; holds = holds_of files; before = before; after = after }) Held
all_held words files before after = record {
  comparison = λ q requests. (text_under files.files q.spec, refl, λ short. (text_under files.files q.imp, (refl, refl)));
  refutation = λ f requests. (text_under files.files f.cnf, refl, λ short. (text_under files.files f.adds, (refl, refl)));
}

-- of two facts or another, the first or the other
pub left_first : {A B C : Type 0} → (A × B) ⊎ C → A ⊎ C
left_first (inl both) = inl both.0
left_first (inr other) = inr other
