use Rattle.std.proofs.Common.{◌≡◌, ◌<◌, ◌+◌, ◌∙◌, ◌^◌, ◌∷◌, [], ℕ, All, List, length, ap, sym, subst, subst₂, arith, length-append, length-take}
use Rattle.std.proofs.lemmas.List.{get_or_default}
use Rattle.bb_bits.specs.Tables.{TableBits}
use Rattle.bb_net.specs.Netlists.{Pins, box_at}
use Rattle.bb_net.specs.Values.{table_at}
use Rattle.bb_sym.specs.Inside.Made.{ref_at}
use Rattle.bb_uniq.specs.declared.store.Ref.{Ref}
use Rattle.bb_uniq.specs.Inside.Meaning.{truth_of}
use Rattle.bb_nest.specs.Inside.Readers.{HasReader, AreReaders}
use Rattle.bb_nest.specs.Inside.StageRows.{IsStageTable, HasStageRows}
use Rattle.bb_nest.proofs.Loops.{each_push}
use Rattle.bb_nest.proofs.Reading.{count_next, own_slice, before_slice}
use Rattle.bb_nest.proofs.StageRows.{no_pins, pins_fit}
use Rattle.bb_nest.proofs.tables.all_tables.Goals as goal

pub readers-requires : goal.readers-requires
readers-requires c =
    let boxes = c.args.boxes.now in
    let refs = c.args.refs.now in
    let b = c.loop-b.b in
    let same : c.index-boxes-b.result ≡ box_at boxes b = c.index-boxes-b.is ∙ get_or_default boxes b c.index-boxes-b.result no_pins c.loop-b-test.true in
    let ins = ap length (c.ins-ins.ensures.ins ∙ ap (λ (pins : Pins). pins.ins) same) in
    record {
      seen = subst₂ (λ (own others : List Ref). All (HasReader own) others) (sym (own_slice boxes refs b c.loop-b.start (length c.ins-ins.result.now) c.loop-b.invariant.0 ins))
          (sym (before_slice boxes refs b c.loop-b.start (length c.ins-ins.result.now) c.loop-b.invariant.0 ins)) (c.requires.seen b c.loop-b-test.true);
    }

pub stage_table-requires-clause-pins : goal.stage_table-requires-clause-pins
stage_table-requires-clause-pins c =
    let boxes = c.args.boxes.now in
    let b = c.loop-b.b in
    let same : c.index-boxes-b.result ≡ box_at boxes b = c.index-boxes-b.is ∙ get_or_default boxes b c.index-boxes-b.result no_pins c.loop-b-test.true in
    let ins = ap length (c.ins-ins.ensures.ins ∙ ap (λ (pins : Pins). pins.ins) same) in
    let outs = ap length (c.outs-outs.ensures.outs ∙ ap (λ (pins : Pins). pins.outs) same) in
    let fit = pins_fit boxes b c.loop-b-test.true in
    let count = ap length c.deref.ensures.value ∙ c.in_ok-seen.ensures.readers.count in
    omega (arith, count, length-take c.loop-b.start c.args.refs.now, c.loop-b.invariant.0, ins, outs, fit, c.requires.vars)

pub loop-b-preserved : goal.loop-b-preserved
loop-b-preserved c =
    let boxes = c.args.boxes.now in
    let refs = c.args.refs.now in
    let b = c.loop-b.b in
    let store = c.args.d.now.store in
    let table = c.in_ok-table.table in
    let truth = λ (k : ℕ). truth_of store (ref_at c.args.stages.now k).0 in
    let same : c.index-boxes-b.result ≡ box_at boxes b = c.index-boxes-b.is ∙ get_or_default boxes b c.index-boxes-b.result no_pins c.loop-b-test.true in
    let ins = ap length (c.ins-ins.ensures.ins ∙ ap (λ (pins : Pins). pins.ins) same) in
    let outs = ap length (c.outs-outs.ensures.outs ∙ ap (λ (pins : Pins). pins.outs) same) in
    let next = count_next boxes b c.loop-b-test.true in
    let made = c.in_ok-table.ensures in
    let here : IsStageTable store.vars (truth b) refs boxes b table = record {
      inputs = made.inputs ∙ ins;
      outputs = made.outputs ∙ outs;
      readers = c.in_ok-seen.seen.items;
      read = subst₂ (λ (own others : List Ref). AreReaders own others c.in_ok-seen.seen.items) (own_slice boxes refs b c.loop-b.start (length c.ins-ins.result.now) c.loop-b.invariant.0 ins)
          (before_slice boxes refs b c.loop-b.start (length c.ins-ins.result.now) c.loop-b.invariant.0 ins) c.in_ok-seen.ensures.readers;
      rows = λ some. subst₂ (λ (readers : List ℕ) k. HasStageRows store.vars (truth b) readers table (2 ^ k)) c.deref.ensures.value (sym made.inputs) (made.rows (omega (arith, some, made.outputs)));
    } in (
      omega (arith, c.loop-b.invariant.0, ins, outs, next),
      ap length c.in_ok-push.ensures.items ∙ omega (arith, length-append c.loop-b.tables.items (table ∷ []), c.loop-b.invariant.1),
      c.stage_table.ensures.len ∙ c.loop-b.invariant.2,
      subst (λ (all : List TableBits). (k : ℕ) → k < b + 1 → IsStageTable store.vars (truth k) refs boxes k (table_at all k)) (sym c.in_ok-push.ensures.items)
          (each_push (λ k t. IsStageTable store.vars (truth k) refs boxes k t) c.loop-b.tables.items table (record { inputs = 0; outputs = 0; rows = [] }) b c.loop-b.invariant.1 c.loop-b.invariant.3 here),
    )
