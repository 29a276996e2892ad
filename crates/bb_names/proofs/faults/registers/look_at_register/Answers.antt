use Rattle.std.proofs.Common.{◌++◌, ◌∷◌}
use Rattle.bb_ast.specs.Inside.Views.{expression, module_view}
use Rattle.bb_names.specs.Sites.{Clock, Read, Stored, sites_in}
use Rattle.bb_names.proofs.Noting.{noted-then}
use Rattle.bb_names.proofs.faults.registers.look_at_register.Goals as goal

pub returns : goal.returns
returns c = record {
  noted = λ text.
      let m = module_view c.args.of.now in
      let f = c.args.found.now in
      let clock = expression c.args.register.now.clock in
      let left = expression c.args.register.now.left in
      let right = expression c.args.register.now.right in
      noted-then text m f c.look.new.found c.look-2.new.found ((Clock clock ∷ sites_in Read clock) ++ sites_in Stored left) (sites_in Read right)
      (noted-then text m f c.look_at_clock.new.found c.look.new.found (Clock clock ∷ sites_in Read clock) (sites_in Stored left) (c.in_ok-look_at_clock.ensures.noted text) (c.in_ok-look.ensures.noted text)) (c.in_ok-look-2.ensures.noted text);
}
