use Rattle.std.proofs.Common.{◌≡◌, [], ◌∷◌, Some, sym, ap, ◌∙◌, subst}
use Rattle.std.specs.List.{AllZip}
use Rattle.bb_ast.specs.declared.module.Dir.TheVariants as dirs
use Rattle.bb_ast.specs.Inside.Views.{expression, optional_view}
use Rattle.bb_names.specs.Inside.Checked.{module_facts}
use Rattle.bb_names.specs.Declarations.{port_direction}
use Rattle.bb_names.specs.Sites.{pin_named}
use Rattle.bb_blast.specs.declared.template.Part.TheVariants as part
use Rattle.bb_design.specs.Constructs.{connection}
use Rattle.bb_design.specs.NetBits.{bits_named, written_bits}
use Rattle.bb_blast.specs.Inside.BitBlasting.{module_in, IsPartAt}
use Rattle.bb_blast.proofs.Connections.{input_part, output_part}
use Rattle.bb_blast.proofs.ModulePlaces.{bits_meant}
use Rattle.bb_blast.proofs.connecting.connected.Goals as goal

pub returns-in_ok-value-in-Input : goal.returns-in_ok-value-in-Input
returns-in_ok-value-in-Input c =
    let checked = c.args.context.checked.now in
    let m = module_in checked c.args.inner.target in
    let e = expression c.in-Some.expr in
    let port = c.args.port.now in
    let value = c.in_ok-value-in-Input.value in
    let direction : port_direction m port ≡ Some dirs.Input = ap (λ m. port_direction m port) c.scope_at-scope.ensures.meant ∙ sym c.port_direction.ensures.direction ∙ c.in-Some-port_direction.is ∙ ap Some c.in-Input.is in
    let bits = bits_meant checked c.args.inner.target (module_facts c.scope_at-scope.result.now) c.scope_at-scope.ensures.there c.in_ok-pin.pin.items (λ s. bits_named s port) c.in_ok-pin.ensures.bits in
    record {
      part = λ called is. subst (λ o. AllZip (IsPartAt checked c.args.context.module) (part.Input c.args.inner.instance c.in_ok-pin.pin value ∷ []) (connection called.name (pin_named m port) (optional_view o))) (sym c.in-Some.is)
          (input_part checked c.args.context.module c.args.inner.instance c.args.inner.target called is port e c.in_ok-pin.pin bits value direction c.in_ok-value-in-Input.ensures.kept);
    }

pub returns-in_ok-left-in-Output : goal.returns-in_ok-left-in-Output
returns-in_ok-left-in-Output c =
    let checked = c.args.context.checked.now in
    let m = module_in checked c.args.inner.target in
    let e = expression c.in-Some.expr in
    let port = c.args.port.now in
    let left = c.in_ok-left-in-Output.left in
    let direction : port_direction m port ≡ Some dirs.Output = ap (λ m. port_direction m port) c.scope_at-scope.ensures.meant ∙ sym c.port_direction.ensures.direction ∙ c.in-Some-port_direction.is ∙ ap Some c.in-Output.is in
    let bits = bits_meant checked c.args.inner.target (module_facts c.scope_at-scope.result.now) c.scope_at-scope.ensures.there c.in_ok-pin.pin.items (λ s. bits_named s port) c.in_ok-pin.ensures.bits in
    let written = bits_meant checked c.args.context.module (module_facts c.scope_at-scope-in-Output.result.now) c.scope_at-scope-in-Output.ensures.there left.items (λ s. written_bits s e) c.in_ok-left-in-Output.ensures.bits in
    record {
      part = λ called is. subst (λ o. AllZip (IsPartAt checked c.args.context.module) (part.Output c.args.inner.instance c.in_ok-pin.pin left ∷ []) (connection called.name (pin_named m port) (optional_view o))) (sym c.in-Some.is)
          (output_part checked c.args.context.module c.args.inner.instance c.args.inner.target called is port e c.in_ok-pin.pin bits left direction written);
    }
