use Rattle.std.proofs.Common.{rules, IsErrOf, ◌&&◌, ◌++◌, ℕ, List, length, map, sym, ◌∙◌, subst, subst₂}
use Rattle.bb_bits.specs.Truth.{Truth, variable, complement_of_table, joined_tables}
use Rattle.bb_net.specs.Netlists.{Netlist}
use Rattle.bb_uniq.specs.Inside.Meaning.{truth_of, IsTooMany}
use Rattle.bb_sym.specs.declared.fault.RungFault.TheVariants.{Nodes}
use Rattle.bb_sym.specs.Plain.{Reading, is_wrong_at, one_of, first_of, output_numbers, table, tables}
use Rattle.bb_sym.specs.Inside.Made.{Makes, AreTooMany, Represents, RepresentAll, HaveCells}
use Rattle.bb_input.specs.InputFunctions.{boxes_first, missed_functions}
use Rattle.bb_input.proofs.RefutingParts.{refused_wrong, refused_missed, refused_not, refused_and, still_wrong, refuting_made, refuting_occurs}
use Rattle.bb_input.proofs.refuting.refuting.Goals as goal

-- where outputs are wrong, the points being read so
abbrev wrong_as : Reading → ℕ → Netlist → Netlist → List Truth
wrong_as r n spec imp = tables n (map (is_wrong_at r spec imp) (output_numbers imp)) ++ tables n (map (first_of (is_wrong_at r spec imp)) (output_numbers imp))

pub returns-in_err-wrong-clause-nodes : goal.returns-in_err-wrong-clause-nodes
returns-in_err-wrong-clause-nodes c =
    let s = c.args.d.now.store in
    let order = boxes_first c.args.pair.now.imp in
    let cells = subst₂ (λ (a b : Netlist). HaveCells s order a b c.args.made.now.spec.items c.args.made.now.imp.items) (sym c.spec-spec.ensures.spec) (sym c.imp-imp.ensures.imp) c.requires.cells in
    let more = c.in_err-wrong.ensures.nodes order cells in
    let reported : IsErrOf c.from_residual.result Nodes → AreTooMany s (wrong_as order s.vars c.spec-spec.result.now c.imp-imp.result.now) = search (rules, more) in
    λ full. refused_wrong c.functions.ensures c.making.ensures c.args.pair.now.spec c.args.pair.now.imp c.args.d.now.store c.requires.vars
    (subst₂ (λ (a b : Netlist). AreTooMany s (wrong_as order s.vars a b)) c.spec-spec.ensures.spec c.imp-imp.ensures.imp (reported full))

pub some_missed-requires-clause-vars : goal.some_missed-requires-clause-vars
some_missed-requires-clause-vars c =
    let order = boxes_first c.args.pair.now.imp in
    let b = c.some_wrong.new.d.store in
    let cells = subst₂ (λ (p q : Netlist). HaveCells c.args.d.now.store order p q c.args.made.now.spec.items c.args.made.now.imp.items) (sym c.spec-spec.ensures.spec) (sym c.imp-imp.ensures.imp) c.requires.cells in
    let wrong = subst₂ (λ (p q : Netlist). Makes c.args.d.now.store b (wrong_as order c.args.d.now.store.vars p q)) c.spec-spec.ensures.spec c.imp-imp.ensures.imp (c.in_ok-wrong.ensures.makes order cells) in
    c.requires.vars ∙ sym wrong.kept.vars

pub some_missed-requires-clause-variables : goal.some_missed-requires-clause-variables
some_missed-requires-clause-variables c =
    let order = boxes_first c.args.pair.now.imp in
    let b = c.some_wrong.new.d.store in
    let cells = subst₂ (λ (p q : Netlist). HaveCells c.args.d.now.store order p q c.args.made.now.spec.items c.args.made.now.imp.items) (sym c.spec-spec.ensures.spec) (sym c.imp-imp.ensures.imp) c.requires.cells in
    let wrong = subst₂ (λ (p q : Netlist). Makes c.args.d.now.store b (wrong_as order c.args.d.now.store.vars p q)) c.spec-spec.ensures.spec c.imp-imp.ensures.imp (c.in_ok-wrong.ensures.makes order cells) in
    let s = c.args.d.now.store in
    subst (λ n. RepresentAll b (variable n) c.args.made.now.variables.items) (sym wrong.kept.vars) (c.making.ensures.all_still s b (variable s.vars) c.args.made.now.variables.items wrong.kept c.requires.variables)

pub some_missed-requires-clause-count : goal.some_missed-requires-clause-count
some_missed-requires-clause-count c =
    let order = boxes_first c.args.pair.now.imp in
    let b = c.some_wrong.new.d.store in
    let cells = subst₂ (λ (p q : Netlist). HaveCells c.args.d.now.store order p q c.args.made.now.spec.items c.args.made.now.imp.items) (sym c.spec-spec.ensures.spec) (sym c.imp-imp.ensures.imp) c.requires.cells in
    let wrong = subst₂ (λ (p q : Netlist). Makes c.args.d.now.store b (wrong_as order c.args.d.now.store.vars p q)) c.spec-spec.ensures.spec c.imp-imp.ensures.imp (c.in_ok-wrong.ensures.makes order cells) in
    c.requires.count ∙ sym wrong.kept.vars

pub some_missed-requires-clause-cells : goal.some_missed-requires-clause-cells
some_missed-requires-clause-cells c =
    let order = boxes_first c.args.pair.now.imp in
    let b = c.some_wrong.new.d.store in
    let cells = subst₂ (λ (p q : Netlist). HaveCells c.args.d.now.store order p q c.args.made.now.spec.items c.args.made.now.imp.items) (sym c.spec-spec.ensures.spec) (sym c.imp-imp.ensures.imp) c.requires.cells in
    let wrong = subst₂ (λ (p q : Netlist). Makes c.args.d.now.store b (wrong_as order c.args.d.now.store.vars p q)) c.spec-spec.ensures.spec c.imp-imp.ensures.imp (c.in_ok-wrong.ensures.makes order cells) in
    c.making.ensures.cells_still c.args.d.now.store b order c.args.pair.now.spec c.args.pair.now.imp c.args.made.now.spec.items c.args.made.now.imp.items wrong.kept c.requires.cells

pub returns-in_err-missed-clause-nodes : goal.returns-in_err-missed-clause-nodes
returns-in_err-missed-clause-nodes c =
    let order = boxes_first c.args.pair.now.imp in
    let b = c.some_wrong.new.d.store in
    let cells = subst₂ (λ (p q : Netlist). HaveCells c.args.d.now.store order p q c.args.made.now.spec.items c.args.made.now.imp.items) (sym c.spec-spec.ensures.spec) (sym c.imp-imp.ensures.imp) c.requires.cells in
    let wrong = subst₂ (λ (p q : Netlist). Makes c.args.d.now.store b (wrong_as order c.args.d.now.store.vars p q)) c.spec-spec.ensures.spec c.imp-imp.ensures.imp (c.in_ok-wrong.ensures.makes order cells) in
    let reported : IsErrOf c.from_residual-in_err-missed.result Nodes → AreTooMany b (missed_functions c.args.pair.now.imp) = search rules in
    λ full. refused_missed c.functions.ensures c.making.ensures c.args.pair.now.spec c.args.pair.now.imp c.args.d.now.store c.requires.vars b wrong (reported full)

pub returns-in_err-led-clause-nodes : goal.returns-in_err-led-clause-nodes
returns-in_err-led-clause-nodes c =
    let order = boxes_first c.args.pair.now.imp in
    let b = c.some_wrong.new.d.store in
    let cells = subst₂ (λ (p q : Netlist). HaveCells c.args.d.now.store order p q c.args.made.now.spec.items c.args.made.now.imp.items) (sym c.spec-spec.ensures.spec) (sym c.imp-imp.ensures.imp) c.requires.cells in
    let wrong = subst₂ (λ (p q : Netlist). Makes c.args.d.now.store b (wrong_as order c.args.d.now.store.vars p q)) c.spec-spec.ensures.spec c.imp-imp.ensures.imp (c.in_ok-wrong.ensures.makes order cells) in
    let last = c.some_missed.new.d.store in
    let wrong_occur = subst₂ (λ (p q : Netlist). Represents b (table c.args.d.now.store.vars (one_of (is_wrong_at order p q) (length q.outs))) c.in_ok-wrong.wrong) c.spec-spec.ensures.spec c.imp-imp.ensures.imp (c.in_ok-wrong.ensures.result order cells) in
    let reported : IsErrOf c.from_residual-in_err-led.result Nodes → IsTooMany last (complement_of_table (truth_of last c.in_ok-missed.missed.0)) = search rules in
    λ full. refused_not c.functions.ensures c.making.ensures c.args.pair.now.spec c.args.pair.now.imp c.args.d.now.store c.requires.vars b wrong last c.in_ok-missed.ensures.makes c.in_ok-missed.missed c.in_ok-missed.ensures.result (reported full)

pub and-requires-clause-f : goal.and-requires-clause-f
and-requires-clause-f c =
    let order = boxes_first c.args.pair.now.imp in
    let b = c.some_wrong.new.d.store in
    let cells = subst₂ (λ (p q : Netlist). HaveCells c.args.d.now.store order p q c.args.made.now.spec.items c.args.made.now.imp.items) (sym c.spec-spec.ensures.spec) (sym c.imp-imp.ensures.imp) c.requires.cells in
    let wrong = subst₂ (λ (p q : Netlist). Makes c.args.d.now.store b (wrong_as order c.args.d.now.store.vars p q)) c.spec-spec.ensures.spec c.imp-imp.ensures.imp (c.in_ok-wrong.ensures.makes order cells) in
    let last = c.some_missed.new.d.store in
    let wrong_occur = subst₂ (λ (p q : Netlist). Represents b (table c.args.d.now.store.vars (one_of (is_wrong_at order p q) (length q.outs))) c.in_ok-wrong.wrong) c.spec-spec.ensures.spec c.imp-imp.ensures.imp (c.in_ok-wrong.ensures.result order cells) in
    (still_wrong c.functions.ensures c.making.ensures c.args.pair.now.spec c.args.pair.now.imp c.args.d.now.store c.requires.vars b wrong last c.in_ok-missed.ensures.makes c.in_ok-missed.missed c.in_ok-missed.ensures.result c.not.new.self.store c.in_ok-led.led c.in_ok-led.ensures.ok c.in_ok-wrong.wrong wrong_occur).ref

pub returns-in_err-both-clause-nodes : goal.returns-in_err-both-clause-nodes
returns-in_err-both-clause-nodes c =
    let order = boxes_first c.args.pair.now.imp in
    let b = c.some_wrong.new.d.store in
    let cells = subst₂ (λ (p q : Netlist). HaveCells c.args.d.now.store order p q c.args.made.now.spec.items c.args.made.now.imp.items) (sym c.spec-spec.ensures.spec) (sym c.imp-imp.ensures.imp) c.requires.cells in
    let wrong = subst₂ (λ (p q : Netlist). Makes c.args.d.now.store b (wrong_as order c.args.d.now.store.vars p q)) c.spec-spec.ensures.spec c.imp-imp.ensures.imp (c.in_ok-wrong.ensures.makes order cells) in
    let last = c.some_missed.new.d.store in
    let wrong_occur = subst₂ (λ (p q : Netlist). Represents b (table c.args.d.now.store.vars (one_of (is_wrong_at order p q) (length q.outs))) c.in_ok-wrong.wrong) c.spec-spec.ensures.spec c.imp-imp.ensures.imp (c.in_ok-wrong.ensures.result order cells) in
    let mid = c.not.new.self.store in
    let reported : IsErrOf c.from_residual-in_err-both.result Nodes → IsTooMany mid (joined_tables ◌&&◌ (truth_of mid c.in_ok-wrong.wrong.0) (truth_of mid c.in_ok-led.led.0)) = search rules in
    λ full. refused_and c.functions.ensures c.making.ensures c.args.pair.now.spec c.args.pair.now.imp c.args.d.now.store c.requires.vars b wrong last c.in_ok-missed.ensures.makes c.in_ok-missed.missed c.in_ok-missed.ensures.result c.not.new.self.store c.in_ok-led.led c.in_ok-led.ensures.ok c.in_ok-wrong.wrong wrong_occur (reported full)

pub returns-clause-result : goal.returns-clause-result
returns-clause-result c =
    let order = boxes_first c.args.pair.now.imp in
    let b = c.some_wrong.new.d.store in
    let cells = subst₂ (λ (p q : Netlist). HaveCells c.args.d.now.store order p q c.args.made.now.spec.items c.args.made.now.imp.items) (sym c.spec-spec.ensures.spec) (sym c.imp-imp.ensures.imp) c.requires.cells in
    let wrong = subst₂ (λ (p q : Netlist). Makes c.args.d.now.store b (wrong_as order c.args.d.now.store.vars p q)) c.spec-spec.ensures.spec c.imp-imp.ensures.imp (c.in_ok-wrong.ensures.makes order cells) in
    let last = c.some_missed.new.d.store in
    let wrong_occur = subst₂ (λ (p q : Netlist). Represents b (table c.args.d.now.store.vars (one_of (is_wrong_at order p q) (length q.outs))) c.in_ok-wrong.wrong) c.spec-spec.ensures.spec c.imp-imp.ensures.imp (c.in_ok-wrong.ensures.result order cells) in
    refuting_occurs c.functions.ensures c.making.ensures c.args.pair.now.spec c.args.pair.now.imp c.args.d.now.store c.requires.vars b wrong last c.in_ok-missed.ensures.makes c.in_ok-missed.missed c.in_ok-missed.ensures.result c.not.new.self.store c.in_ok-led.led c.in_ok-led.ensures.ok c.in_ok-wrong.wrong wrong_occur c.and.new.self.store c.in_ok-both.both c.in_ok-both.ensures.ok

pub returns-clause-makes : goal.returns-clause-makes
returns-clause-makes c =
    let order = boxes_first c.args.pair.now.imp in
    let b = c.some_wrong.new.d.store in
    let cells = subst₂ (λ (p q : Netlist). HaveCells c.args.d.now.store order p q c.args.made.now.spec.items c.args.made.now.imp.items) (sym c.spec-spec.ensures.spec) (sym c.imp-imp.ensures.imp) c.requires.cells in
    let wrong = subst₂ (λ (p q : Netlist). Makes c.args.d.now.store b (wrong_as order c.args.d.now.store.vars p q)) c.spec-spec.ensures.spec c.imp-imp.ensures.imp (c.in_ok-wrong.ensures.makes order cells) in
    let last = c.some_missed.new.d.store in
    let wrong_occur = subst₂ (λ (p q : Netlist). Represents b (table c.args.d.now.store.vars (one_of (is_wrong_at order p q) (length q.outs))) c.in_ok-wrong.wrong) c.spec-spec.ensures.spec c.imp-imp.ensures.imp (c.in_ok-wrong.ensures.result order cells) in
    refuting_made c.functions.ensures c.making.ensures c.args.pair.now.spec c.args.pair.now.imp c.args.d.now.store c.requires.vars b wrong last c.in_ok-missed.ensures.makes c.in_ok-missed.missed c.in_ok-missed.ensures.result c.not.new.self.store c.in_ok-led.led c.in_ok-led.ensures.ok c.in_ok-wrong.wrong wrong_occur c.and.new.self.store c.in_ok-both.both c.in_ok-both.ensures.ok
