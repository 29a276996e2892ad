use Rattle.std.proofs.Common.{◌≡◌, ◌++◌, Some, map, ap, ◌∙◌}
use Rattle.std.specs.Prelude.{slice_get}
use Rattle.std.proofs.lemmas.Result.{IfOk-weaker}
use Rattle.bb_names.specs.Inside.Checked.{syntax}
use Rattle.bb_design.specs.Hierarchy.{Design}
use Rattle.bb_design.specs.NetBits.{Bit, net_order}
use Rattle.bb_blast.specs.Inside.Placements.{ArePlaced, AreTemplated}
use Rattle.bb_design.specs.Texts.{pin_text}
use Rattle.bb_elab.proofs.texts.pin_name.Goals as goal

pub returns : goal.returns
returns c = record {
  name = IfOk-weaker c.of.result (λ n. n ≡ c.deref.result.now) (λ n. (d : Design) → d.text ≡ map syntax c.args.checked.now → ArePlaced d c.args.placed.now → AreTemplated d c.args.placed.now c.args.templates.now → (b : Bit) → slice_get (net_order d) c.args.number ≡ Some b → n ≡ pin_text d b)
      (λ n is e text are templated b bit. is ∙ c.deref.ensures.value ∙ c.in_ok-add_pin.ensures.pin e text are templated b bit ∙ ap (λ l. l ++ pin_text e b) c.new-text.ensures.items) c.of.ensures.ok;
}
