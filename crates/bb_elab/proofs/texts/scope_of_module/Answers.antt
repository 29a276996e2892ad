use Rattle.std.proofs.Common.{◌≡◌, Some, length, refl, ap, sym, ◌∙◌, arith}
use Rattle.std.specs.Prelude.{slice_get}
use Rattle.std.proofs.lemmas.List.{length-map}
use Rattle.std.proofs.lemmas.Option.{slice_get_read}
use Rattle.bb_names.specs.Inside.Checked.{module_facts}
use Rattle.bb_lemmas.proofs.Places.{got-map}
use Rattle.bb_elab.proofs.texts.scope_of_module.Goals as goal

pub returns : goal.returns
returns c =
    let modules = c.modules.result.now in
    let long : length modules ≡ length c.args.checked.now = sym (length-map modules module_facts) ∙ ap length c.modules.ensures.modules in
    let found = slice_get_read modules (length modules) c.args.module c.index-modules-module.result refl (omega (arith, long, c.requires.there)) c.index-modules-module.is in
    let there : slice_get c.args.checked.now c.args.module ≡ Some (module_facts c.index-modules-module.result) =
    ap (λ l. slice_get l c.args.module) (sym c.modules.ensures.modules) ∙ got-map module_facts modules c.args.module c.index-modules-module.result found in
    record { there = there; checked = c.modules.ensures.checked }
