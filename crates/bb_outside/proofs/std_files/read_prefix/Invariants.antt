use Rattle.std.proofs.Common.{◌≤◌, ◌-◌, vec_len}
use Rattle.std.specs.Io.KnownBytes.{Consumes}
use Rattle.bb_outside.proofs.std_files.read_prefix.Given as goal

abbrev pub invariant-loop-buffer : goal.invariant-loop-buffer
invariant-loop-buffer g l = record {
  within : vec_len l.bytes ≤ l.limit;
  prefix : Consumes (g.F.Read.remaining l.initial.file) (g.F.Read.remaining l.file) l.bytes.items;
}

abbrev pub decreases-loop-buffer : goal.decreases-loop-buffer
decreases-loop-buffer g l = l.limit - vec_len l.bytes
