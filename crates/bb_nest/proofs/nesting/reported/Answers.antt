use Rattle.std.proofs.Common.{◌≡◌, ◌<◌, ◌∙◌, ℕ, All, List, length, ap, sym, subst, subst₂}
use Rattle.bb_bits.specs.Tables.{TableBits, IsTable}
use Rattle.bb_bits.specs.Truth.{Truth, truth_at}
use Rattle.bb_net.specs.Conditions.{SomeChoicesSuit}
use Rattle.bb_net.specs.Netlists.{Netlist, Pins}
use Rattle.bb_net.specs.Values.{table_at}
use Rattle.bb_sym.specs.Inside.Made.{ref_at}
use Rattle.bb_uniq.specs.declared.store.Ref.{Ref}
use Rattle.bb_uniq.specs.Inside.Meaning.{truth_of}
use Rattle.bb_nest.specs.Inside.Readers.{AllSeeRefs}
use Rattle.bb_nest.specs.Inside.StageRows.{IsStageTable}
use Rattle.bb_nest.proofs.Reported.{reported_tables}
use Rattle.bb_nest.proofs.nesting.reported.Goals as goal

pub all_tables-requires-clause-seen : goal.all_tables-requires-clause-seen
all_tables-requires-clause-seen c =
    let own_boxes = c.boxes-boxes.ensures.boxes ∙ ap (λ (net : Netlist). net.boxes) c.imp.ensures.imp in
    subst₂ AllSeeRefs (sym own_boxes) (sym c.deref-2.ensures.value) (c.is_finishable.ensures.seen c.if-not-is_finishable.false)

pub returns : goal.returns
returns c =
    let spec = c.args.pair.now.spec in
    let imp = c.args.pair.now.imp in
    let made = c.requires.made in
    let s = c.args.made.now.diagrams.store in
    let stages = c.args.made.now.stages.items in
    let refs = c.args.made.now.pins.items in
    let tables = c.in_ok-tables.tables.items in
    let own_boxes : c.boxes-boxes.result.now ≡ imp.boxes = c.boxes-boxes.ensures.boxes ∙ ap (λ (net : Netlist). net.boxes) c.imp.ensures.imp in
    let finishable = c.is_finishable.ensures.finishable.0 c.if-not-is_finishable.false in
    let p = c.args.point.now in
    let choices : SomeChoicesSuit spec imp = (c.last_reports.ensures spec imp p (c.requires.point ∙ made.vars)).0 (ap (λ (t : Truth). truth_at t p) (sym made.last.table) ∙ (sym c.at.ensures ∙ c.if-at.false)) in
    let count : length tables ≡ length imp.boxes = c.in_ok-tables.ensures.count ∙ ap length own_boxes in
    let kept = c.imp.ensures.kept.imp in
    let all : (b : ℕ) → b < length imp.boxes → IsStageTable s.vars (truth_of s (ref_at stages b).0) refs imp.boxes b (table_at tables b) =
    subst₂ (λ (fs rs : List Ref). (b : ℕ) → b < length imp.boxes → IsStageTable s.vars (truth_of s (ref_at fs b).0) rs imp.boxes b (table_at tables b)) c.deref.ensures.value c.deref-2.ensures.value
    (subst (λ (boxes : List Pins). (b : ℕ) → b < length boxes → IsStageTable s.vars (truth_of s (ref_at c.deref.result.now b).0) c.deref-2.result.now boxes b (table_at tables b)) own_boxes c.in_ok-tables.ensures.tables) in
    let whole : All IsTable tables = subst (λ (ts : List TableBits). All IsTable ts) c.deref-3.ensures.value c.tables_have_all_bits.ensures in
    record {
      answer = (
        finishable,
        reported_tables c.laws_of_tables.ensures c.functions.ensures c.points.ensures c.stages_say.ensures spec imp kept s made.vars stages refs made.stages made.pin_refs made.pins c.is_canonical.ensures.refs tables count all whole choices,
      );
    }
