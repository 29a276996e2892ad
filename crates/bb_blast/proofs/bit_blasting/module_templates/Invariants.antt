use Rattle.std.proofs.Common.{◌≡◌, ◌<◌, ℕ, Some, true, map, length}
use Rattle.std.specs.Prelude.{slice_get}
use Rattle.bb_names.specs.Inside.Checked.{syntax}
use Rattle.bb_blast.specs.declared.template.ModuleTemplate.{ModuleTemplate}
use Rattle.bb_blast.specs.Inside.ModuleTemplates.{IsModuleTemplate}
use Rattle.bb_blast.specs.Inside.BitBlasting.{module_in}
use Rattle.bb_blast.proofs.bit_blasting.module_templates.Given as goal

abbrev pub invariant-loop-k : goal.invariant-loop-k
invariant-loop-k l = record { long : length l.templates.items ≡ l.k; made : (m : ℕ) → m < l.k → slice_get l.used.items m ≡ Some true → (o : ModuleTemplate) × (slice_get l.templates.items m ≡ Some o) × IsModuleTemplate (map syntax l.checked) (module_in l.checked m) o }
