use Rattle.std.proofs.Common.{◌≡◌, ◌++◌, ◌+◌, [], map, take, sym, ap, ◌∙◌, subst, rules, arith, append_assoc, append-nil, Some}
use Rattle.std.specs.Prelude.{All}
use Rattle.std.specs.List.{flat_map}
use Rattle.std.specs.Result.{OnOk}
use Rattle.std.proofs.lemmas.List.{take_all}
use Rattle.std.proofs.lemmas.Result.{on_ok_weaker}
use Rattle.bb_ast.specs.declared.expr.Expr.{the_lemmas}
use Rattle.bb_ast.specs.Syntax.{Expression, Concat, listed_parts}
use Rattle.bb_ast.specs.Inside.Views.{expression}
use Rattle.bb_names.specs.Inside.Checked.{module_facts, syntax}
use Rattle.bb_names.specs.Declarations.{range_of}
use Rattle.bb_names.specs.Ranges.{place_of, distance}
use Rattle.bb_expr.specs.Inside.Fit.{AreFit}
use Rattle.bb_design.specs.NetBits.{bits_from, written_bits}
use Rattle.bb_blast.specs.Inside.ModuleTemplates.{AreBitsIn}
use Rattle.bb_blast.proofs.LeftBits.{expression-net, expression-bit, expression-part, expression-concat, written-concat, fit_parts, bits_same}
use Rattle.bb_lemmas.proofs.Turns.{all_here, flat-more}
use Rattle.bb_blast.proofs.left_bits.+left.Goals as goal

pub add_left-add_lefts-requires : goal.add_left-add_lefts-requires
add_left-add_lefts-requires t c =
    let m = module_facts c.args.scope.now in (
      search (rules, the_lemmas),
      (
        c.requires.nets,
        (
          c.requires.starts,
          subst (λ xs. All (AreFit m) (map expression xs)) (sym c.deref.ensures.value)
              (fit_parts m (map expression c.in-Concat.all.items) (subst (AreFit m) (expression-concat c.args.expr.now c.in-Concat.all c.in-Concat.is) c.requires.fit)),
        ),
      ),
    )

pub add_lefts-add_left-requires : goal.add_lefts-add_left-requires
add_lefts-add_left-requires t c = (
  search (rules, the_lemmas),
  (c.requires.nets, (c.requires.starts, all_here (AreFit (module_facts c.args.scope.now)) expression c.args.all.now c.loop-part.part-index c.part-item.result c.loop-part-test.true c.part-item.is c.requires.fit)),
)

pub add_left-returns-in-Net : goal.add_left-returns-in-Net
add_left-returns-in-Net t c = λ before are. subst (λ (e : Expression). OnOk c.add_net.result (AreBitsIn (syntax (module_facts c.args.scope.now)) c.add_net.new.numbers.items (λ s. before s ++ written_bits s e)))
    (sym (expression-net c.args.expr.now c.in-Net.name c.in-Net.is)) (c.add_net.ensures.bits before are)

pub add_left-returns-in-Bit : goal.add_left-returns-in-Bit
add_left-returns-in-Bit t c =
    let m = syntax (module_facts c.args.scope.now) in
    let range = range_of m c.in-Bit.name in
    let one : distance c.in-Bit.index c.in-Bit.index + 1 ≡ 1 = omega arith in
    λ before are. subst (λ (e : Expression). OnOk c.add_selected.result (AreBitsIn m c.add_selected.new.numbers.items (λ s. before s ++ written_bits s e)))
    (sym (expression-bit c.args.expr.now c.in-Bit.name c.in-Bit.index c.in-Bit.is))
    (on_ok_weaker c.add_selected.result (λ (h : AreBitsIn m c.add_selected.new.numbers.items (λ s. before s ++ bits_from s.path c.in-Bit.name (place_of range c.in-Bit.index) (distance c.in-Bit.index c.in-Bit.index + 1))).
    λ path. h path ∙ ap (λ n. map Some (before (record { path = path; source = m }) ++ bits_from path c.in-Bit.name (place_of range c.in-Bit.index) n)) one)
    (c.add_selected.ensures.bits before are))

pub add_left-returns-in-Part : goal.add_left-returns-in-Part
add_left-returns-in-Part t c =
    let m = syntax (module_facts c.args.scope.now) in
    λ before are. subst (λ (e : Expression). OnOk c.add_selected-in-Part.result (AreBitsIn m c.add_selected-in-Part.new.numbers.items (λ s. before s ++ written_bits s e)))
    (sym (expression-part c.args.expr.now c.in-Part.name c.in-Part.left c.in-Part.right c.in-Part.is))
    (on_ok_weaker c.add_selected-in-Part.result (λ (h : AreBitsIn m c.add_selected-in-Part.new.numbers.items (λ s. before s ++ bits_from s.path c.in-Part.name (place_of (range_of m c.in-Part.name) c.in-Part.left) (distance c.in-Part.left c.in-Part.right + 1))). λ path. h path)
    (c.add_selected-in-Part.ensures.bits before are))

pub add_left-returns-in-Concat : goal.add_left-returns-in-Concat
add_left-returns-in-Concat t c =
    let m = syntax (module_facts c.args.scope.now) in
    let all = map expression c.in-Concat.all.items in
    λ before are. subst (λ (e : Expression). OnOk c.add_lefts.result (AreBitsIn m c.add_lefts.new.numbers.items (λ s. before s ++ written_bits s e)))
    (sym (expression-concat c.args.expr.now c.in-Concat.all c.in-Concat.is))
    (on_ok_weaker c.add_lefts.result
    (bits_same m c.add_lefts.new.numbers.items (λ s. before s ++ flat_map (written_bits s) (map expression c.deref.result.now)) (λ s. before s ++ written_bits s (Concat (listed_parts all)))
    (λ s. ap (λ l. before s ++ flat_map (written_bits s) (map expression l)) c.deref.ensures.value ∙ ap (λ l. before s ++ l) (sym (written-concat s all))))
    (c.add_lefts.ensures before are))

pub add_lefts-loop-part-preserved : goal.add_lefts-loop-part-preserved
add_lefts-loop-part-preserved t c =
    let m = syntax (module_facts c.args.scope.now) in
    let i = c.loop-part.part-index in
    λ before are. bits_same m c.add_left.new.numbers.items
    (λ s. (before s ++ flat_map (written_bits s) (map expression (take i c.args.all.now))) ++ written_bits s (expression c.part-item.result)) (λ s. before s ++ flat_map (written_bits s) (map expression (take (i + 1) c.args.all.now)))
    (λ s. append_assoc (before s) (flat_map (written_bits s) (map expression (take i c.args.all.now))) (written_bits s (expression c.part-item.result))
    ∙ ap (λ l. before s ++ l) (sym (flat-more (written_bits s) expression c.args.all.now i c.part-item.result c.loop-part-test.true c.part-item.is)))
    (c.in_ok-add_left.ensures (λ s. before s ++ flat_map (written_bits s) (map expression (take i c.args.all.now))) (c.loop-part.invariant before are))

pub add_lefts-loop-part-init : goal.add_lefts-loop-part-init
add_lefts-loop-part-init t c =
    let m = syntax (module_facts c.args.scope.now) in
    λ before are. bits_same m c.args.numbers.now.items before (λ s. before s ++ []) (λ s. sym (append-nil (before s))) are

pub add_lefts-returns : goal.add_lefts-returns
add_lefts-returns t c =
    let m = syntax (module_facts c.args.scope.now) in
    λ before are. bits_same m c.loop-part.numbers.items
    (λ s. before s ++ flat_map (written_bits s) (map expression (take c.loop-part.part-index c.args.all.now))) (λ s. before s ++ flat_map (written_bits s) (map expression c.args.all.now))
    (λ s. ap (λ l. before s ++ flat_map (written_bits s) (map expression l)) (take_all c.loop-part.part-index c.args.all.now c.loop-part-test.false)) (c.loop-part.invariant before are)
