use Rattle.std.proofs.Common.{◌≡◌, sym}
use Rattle.bb_options.specs.declared.rung.Rung.TheVariants.{Ternary, Symbolic, Local, Output, Input, Expand}
use Rattle.bb_options.specs.Rungs.{rung_name}
use Rattle.bb_args.proofs.RungNames.{no_rung}
use Rattle.bb_args.proofs.value.rung_named.Goals as goal

pub returns-in_default : goal.returns-in_default
returns-in_default c = record {
  rung = sym (no_rung c.args.text.now (λ r. elim r as (λ r. c.args.text.now ≡ rung_name r → ⊥) [
    | Ternary ↦ c.in_default.not-ternary
    | Symbolic ↦ c.in_default.not-symbolic
    | Local ↦ c.in_default.not-local
    | Output ↦ c.in_default.not-output
    | Input ↦ c.in_default.not-input
    | Expand ↦ c.in_default.not-expand
  ]));
}
