use Rattle.std.proofs.Common.{◌≡◌, drop}
use Rattle.bb_outside.specs.Inside.MemFiles.{text_under, entries}
use Rattle.bb_outside.proofs.held.text.Given as goal

-- no file that was looked at has the name
abbrev pub invariant-loop-known : goal.invariant-loop-known
invariant-loop-known l = text_under (entries l.files) l.name ≡ text_under (entries (drop l.known-index l.files)) l.name
