use Rattle.std.proofs.Common.{◌≡◌, List, [], take, map}
use Rattle.std.specs.List.{flat_map}
use Rattle.bb_ast.specs.Syntax.{PlainModule}
use Rattle.bb_ast.specs.Inside.Views.{module_view, head_view}
use Rattle.bb_names.specs.Declarations.{declared_by_head}
use Rattle.bb_names.specs.Inside.Firsts.{noted, head_sites}
use Rattle.bb_bits.specs.Earlier.{each_after}
use Rattle.bb_names.specs.Inside.Summaries.{Describes}
use Rattle.bb_names.proofs.faults.names.look_at_heads.Given as goal

abbrev pub invariant-loop-place : goal.invariant-loop-place
invariant-loop-place l = record {
  noted : (text : List PlainModule) → Describes l.initial.earlier.entries [] → l.found ≡ noted text (module_view l.fn.of) l.initial.found (each_after head_sites (map head_view (take l.place l.of.heads.items)));
  declared : Describes l.initial.earlier.entries [] → Describes l.earlier.entries (flat_map declared_by_head (map head_view (take l.place l.of.heads.items)));
}
