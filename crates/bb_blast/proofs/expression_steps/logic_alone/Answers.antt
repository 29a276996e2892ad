use Rattle.std.proofs.Common.{◌≡◌, ℕ, arith, subst}
use Rattle.std.specs.Prelude.{max}
use Rattle.std.specs.Vec.{vec_len}
use Rattle.std.proofs.lemmas.Result.{IfOk-weaker}
use Rattle.bb_ast.specs.Syntax.{Expression, PlainModule}
use Rattle.bb_ast.specs.Inside.Views.{expression}
use Rattle.bb_names.specs.Declarations.{range_of}
use Rattle.bb_names.specs.Nets.{nets_of}
use Rattle.bb_expr.specs.declared.step.Lowered.{Lowered}
use Rattle.bb_expr.specs.Lowered.{IsLowered}
use Rattle.bb_design.specs.Contexts.{width_of}
use Rattle.bb_blast.specs.declared.logic.Logic.{Logic}
use Rattle.bb_blast.specs.Inside.Logic.{IsLogicOf}
use Rattle.bb_blast.specs.Inside.ModuleTemplates.{IsMadeIn, IsWholeIn}
use Rattle.bb_blast.specs.Inside.BitBlasting.{module_in, scope_of}
use Rattle.bb_blast.proofs.expression_steps.logic_alone.Goals as goal

whole : (m : PlainModule) (e : Expression) (l : Lowered) (n : ℕ) (g : Logic) → IsMadeIn m l e (λ s. max 0 (width_of s e)) → n ≡ vec_len l.bits → IsLogicOf n l g → IsWholeIn m g e
whole m e l n g made count logic =
    let zero : max 0 (width_of (scope_of m) e) ≡ width_of (scope_of m) e = omega arith in (
      l,
      subst (λ w. IsLowered (nets_of m) (range_of m) e w l.steps.items l.bits.items) zero made,
      subst (λ k. IsLogicOf k l g) (omega (arith, count, l.bits.ok, made.width, zero)) logic,
    )

pub returns : goal.returns
returns c = record {
  kept = IfOk-weaker _ _ _
      (λ g logic. whole (module_in c.args.context.checked.now c.args.context.module) (expression c.args.expr.now) c.in_ok-steps.steps c.len.result g c.in_ok-steps.ensures.made c.len.ensures logic)
      c.logic_of.ensures.logic;
}
