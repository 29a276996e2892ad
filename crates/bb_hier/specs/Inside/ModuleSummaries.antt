-- By this file `module_summaries` promises to crates above; no clause of `elaborate` rests on it.
-- Module summaries: what all scopes of a module have in common.
use Rattle.std.specs.Prelude.{◌≡◌, ◌-◌, ◌^◌, map, min, sum_by}
use Rattle.bb_ast.specs.Syntax.{PlainModule}
use Rattle.bb_names.specs.Nets.{nets_of, is_empty}
use Rattle.bb_names.specs.Ranges.{range_width}
use Rattle.bb_hier.specs.declared.summary.ModuleSummary.{ModuleSummary}
use Rattle.bb_design.specs.Hierarchy.{instances_of}

-- a number of bits, or the greatest number of 64 bits if it is larger
pub record IsModuleSummary (m : PlainModule) (s : ModuleSummary) : Type 0 where
  pub names : s.names.items ≡ map (λ i. i.name) (instances_of m)
  pub bits : s.bits ≡ min (sum_by (λ net. range_width net.range) (nets_of m)) (2 ^ 64 - 1)
  pub empty : s.empty ≡ is_empty m
