use Rattle.std.proofs.Common.{◌≡◌, ◌++◌, List, take, map}
use Rattle.std.specs.Prelude.{option_map}
use Rattle.bb_ast.specs.Syntax.{PlainModule}
use Rattle.bb_ast.specs.Inside.Views.{module_view, call_view}
use Rattle.bb_names.specs.Declarations.{Declaration, instance_declaration}
use Rattle.bb_names.specs.Inside.Firsts.{noted, call_sites}
use Rattle.bb_bits.specs.Earlier.{each_after}
use Rattle.bb_names.specs.Inside.Summaries.{Describes}
use Rattle.bb_names.proofs.faults.instances.look_at_calls.Given as goal

abbrev pub invariant-loop-call : goal.invariant-loop-call
invariant-loop-call l = record {
  noted : (text : List PlainModule) (before : List Declaration) → Describes l.initial.earlier.entries before → l.found ≡ noted text (module_view l.fn.of) l.initial.found (each_after (λ b x. call_sites (option_map (λ t. module_view t.now) l.to) (before ++ map (λ y. instance_declaration y.0) b) x) (map call_view (take l.call-index l.calls)));
  declared : (before : List Declaration) → Describes l.initial.earlier.entries before → Describes l.earlier.entries (before ++ map (λ x. instance_declaration x.0) (map call_view (take l.call-index l.calls)));
}
