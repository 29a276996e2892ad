use Rattle.std.proofs.Common.{◌≡◌, ◌≤◌, ◌<◌, ◌+◌, ◌-◌, Bool, List, All, length, take, drop, ap, sym, subst, ◌∙◌, arith, length-take, length-drop}
use Rattle.bb_bits.specs.Tables.{row_of}
use Rattle.bb_uniq.specs.Inside.Meaning.{truth_of}
use Rattle.bb_nest.specs.Inside.StageRows.{IsStageRow, prefix_of}
use Rattle.bb_nest.proofs.FilledRows.{count_copied, count_prefix, prefix_copied, row_found, row_none, same_bits, written_after}
use Rattle.bb_nest.proofs.rows.fill_row.Goals as goal
use Rattle.bb_nest.proofs.rows.fill_row.Goals.{then-not-least, else-not-least}

pub returns-clause-row : goal.returns-clause-row
returns-clause-row c = λ ins long number.
    let n = c.args.d.now.store.vars in
    let t = truth_of c.args.d.now.store c.args.f.0 in
    let readers = c.args.readers.now in
    let start = length readers in
    let k = c.inputs.result in
    let m = c.args.table.now.outputs in
    let old = c.args.point.now in
    let bits = c.spell.new.bits in
    let given = c.copy_seen.new.point in
    let outs = row_of c.write_row.new.table c.args.row in
    let inputs : k ≡ c.args.table.now.inputs = c.inputs.ensures.inputs in
    let fit : start + k ≤ length old = omega (arith, inputs, c.requires.pins, c.requires.point) in
    let wide : length bits ≡ k = c.spell.ensures.len ∙ omega (arith, length-take ((start + k) - start) (drop start old), length-drop start old, fit) in
    let same : bits ≡ ins = same_bits c.number_spelled_once.ensures bits ins (wide ∙ (inputs ∙ sym long)) (c.spell.ensures.number ∙ sym number) in
    let below : All (λ p. p < k) readers = subst (λ j. All (λ p. p < j) readers) (sym inputs) c.requires.readers in
    let first : take (start + k) given ≡ prefix_of readers bits = ap (take (start + k)) c.copy_seen.ensures.copied ∙ prefix_copied readers old bits k wide fit below in
    let whole : length given ≡ n = ap length c.copy_seen.ensures.copied ∙ (count_copied readers old bits k wide fit below ∙ c.requires.point) in
    let count = count_prefix readers old bits k wide fit below in
    let room : (start + k) + m ≤ n = omega (arith, inputs, c.requires.pins) in
    subst (λ (x : List Bool). IsStageRow n t m (prefix_of readers x) outs) same (elim c.if-not-least.branch [
      | then-not-least w ↦
          let zeros = w.clear.new.bits in
          let cleared = written_after (start + k) n c.least.new.point zeros (ap length (c.least.ensures.kept w.if-not-least.true) ∙ whole) (omega (arith, room)) w.clear.ensures in
          let after : take (length c.if-not-least.point - (start + k)) (drop (start + k) c.if-not-least.point) ≡ zeros = ap (λ (p : List Bool). take (length p - (start + k)) (drop (start + k) p)) w.point-is ∙ cleared.0 in
          row_none n m (start + k) t (prefix_of readers bits) given c.least.new.point count whole first room (c.least.ensures.none w.if-not-least.true) zeros outs
          cleared.1 (c.write_row.ensures.row ∙ ap (take m) after)
      | else-not-least w ↦
          row_found n m (start + k) t (prefix_of readers bits) given c.least.new.point count whole first room (c.least.ensures.found w.if-not-least.false) outs
          (c.write_row.ensures.row ∙ ap (λ (p : List Bool). take m (take (length p - (start + k)) (drop (start + k) p))) w.point-is)
    ])
