use Rattle.std.proofs.Common.{◌≡◌, ◌≤◌, ℕ, List, length, sym, ap, subst, arith, Vec, Global}
use Rattle.std.specs.Prelude.{max, slice_get, Some}
use Rattle.std.specs.Vec.{vec_len}
use Rattle.bb_ast.specs.Syntax.{Expression, Net}
use Rattle.bb_ast.specs.Inside.Views.{expression}
use Rattle.bb_names.specs.Inside.Checked.{ModuleFacts, module_facts, syntax}
use Rattle.bb_names.specs.Declarations.{range_of}
use Rattle.bb_names.specs.Ranges.{range_width}
use Rattle.bb_expr.specs.Inside.Fit.{AreFit}
use Rattle.bb_design.specs.Contexts.{width_of, made_in}
use Rattle.bb_design.specs.NetBits.{bits_named, Bit}
use Rattle.bb_blast.specs.Inside.Logic.{IsLogicOf}
use Rattle.bb_blast.specs.Inside.ModuleTemplates.{AreBitsIn}
use Rattle.bb_blast.specs.Inside.BitBlasting.{module_in, scope_of, IsMakeable}
use Rattle.bb_design.specs.Constructs.{Assignment}
use Rattle.bb_blast.proofs.LeftBits.{bits_long, fit_here}
use Rattle.bb_blast.proofs.ModulePlaces.{at_some, module-is, beside_context, bits_meant}
use Rattle.bb_lemmas.proofs.Ranges.{length-run}
use Rattle.bb_blast.proofs.assigning.declared_assignment.Goals as goal

module _ (checked : List ModuleFacts) (k : ℕ) (f : ModuleFacts) (there : slice_get checked k ≡ Some f) (n : List ℕ) (right : Expression) (makeable : IsMakeable checked k (Assignment (Net n) right)) (numbers : Vec ℕ Global)
    (are : AreBitsIn (syntax f) numbers.items (λ s. bits_named s n)) (count : ℕ) (is : count ≡ vec_len numbers) where
  many : count ≡ range_width (range_of (module_in checked k) n)
  many =
      let long = bits_long (syntax f) numbers.items (λ s. bits_named s n) are in
      let named = length-run {A = Bit} (λ k. record { path = (scope_of (syntax f)).path; net = n; place = k }) 0 (range_width (range_of (syntax f) n)) in
      omega (arith, is, numbers.ok, long, named, ap (λ m. range_width (range_of m n)) (module-is checked k f there))

  few : count ≤ 65536
  few = omega (arith, many, ap (λ m. range_width (range_of m n)) (module-is checked k f there), (fit_here f (Net n) (at_some (λ m. AreFit m (Net n)) (slice_get checked k) f there makeable.fits.0)).bounded)

  few_cells : length (made_in (scope_of (module_in checked k)) right (max count (width_of (scope_of (module_in checked k)) right))).cells ≤ 2000000
  few_cells = subst (λ w. length (made_in (scope_of (module_in checked k)) right (max w (width_of (scope_of (module_in checked k)) right))).cells ≤ 2000000) (sym many) makeable.few

pub overflow_cast-count : goal.overflow_cast-count
overflow_cast-count c =
    let small = few c.args.context.checked.now c.args.context.module (module_facts c.scope_at-scope.result.now) c.scope_at-scope.ensures.there c.args.name.now (expression c.args.right.now) c.requires.makeable c.in_ok-left.left c.in_ok-left.ensures.bits c.len-count.result c.len-count.ensures in
    omega (arith, small)

pub steps_beside-requires-clause-least : goal.steps_beside-requires-clause-least
steps_beside-requires-clause-least c = few c.args.context.checked.now c.args.context.module (module_facts c.scope_at-scope.result.now) c.scope_at-scope.ensures.there c.args.name.now (expression c.args.right.now) c.requires.makeable c.in_ok-left.left c.in_ok-left.ensures.bits c.len-count.result c.len-count.ensures

pub steps_beside-requires-clause-few : goal.steps_beside-requires-clause-few
steps_beside-requires-clause-few c = few_cells c.args.context.checked.now c.args.context.module (module_facts c.scope_at-scope.result.now) c.scope_at-scope.ensures.there c.args.name.now (expression c.args.right.now) c.requires.makeable c.in_ok-left.left c.in_ok-left.ensures.bits c.len-count.result c.len-count.ensures

pub returns : goal.returns
returns c =
    let checked = c.args.context.checked.now in
    let f = module_facts c.scope_at-scope.result.now in
    let there = c.scope_at-scope.ensures.there in
    record {
      part = (
        bits_meant checked c.args.context.module f there c.in_ok-left.left.items (λ s. bits_named s c.args.name.now) c.in_ok-left.ensures.bits,
        (
          c.in_ok-steps.steps,
          beside_context checked c.args.context.module f there c.in_ok-steps.steps (Net c.args.name.now) (expression c.args.right.now) c.len-count.result
              (many checked c.args.context.module f there c.args.name.now (expression c.args.right.now) c.requires.makeable c.in_ok-left.left c.in_ok-left.ensures.bits c.len-count.result c.len-count.ensures) c.in_ok-steps.ensures.made,
          subst (λ n. IsLogicOf n c.in_ok-steps.steps c.in_ok-right.right) (omega (arith, c.len-count.ensures, c.in_ok-left.left.ok)) c.in_ok-right.ensures.logic,
        ),
      );
    }
