use Rattle.std.proofs.Common.{All, Contains, List, ℕ, subst, sym}
use Rattle.std.proofs.lemmas.List.Elements.{All-append}
use Rattle.bb_nest.proofs.Loops.{all_left, all_right, untrue}
use Rattle.bb_nest.proofs.cells.hold_pins.Goals as goal

pub returns-then-hold_cells : goal.returns-then-hold_cells
returns-then-hold_cells c =
    let has = Contains c.args.ins.now in
    let pins = c.args.pins.now in (
      λ e. All-append has pins.ins pins.outs (subst (λ (cells : List ℕ). All has cells) c.ins.ensures.ins (c.hold_cells.ensures.0 c.if-hold_cells.true))
          (subst (λ (cells : List ℕ). All has cells) c.outs.ensures.outs (c.hold_cells-then-hold_cells.ensures.0 e)),
      λ all. c.hold_cells-then-hold_cells.ensures.1 (subst (λ (cells : List ℕ). All has cells) (sym c.outs.ensures.outs) (all_right has pins.ins pins.outs all)),
    )

pub returns-else-hold_cells : goal.returns-else-hold_cells
returns-else-hold_cells c =
    let has = Contains c.args.ins.now in
    let pins = c.args.pins.now in (
      λ e. absurd (untrue c.hold_cells.result c.if-hold_cells.false e),
      λ all. c.hold_cells.ensures.1 (subst (λ (cells : List ℕ). All has cells) (sym c.ins.ensures.ins) (all_left has pins.ins pins.outs all)),
    )
