use Rattle.std.proofs.Common.{◌≡◌, ◌∙◌, ◌^◌, false, ap, subst, subst₂, inl, inr}
use Rattle.bb_lemmas.proofs.Members.{either}
use Rattle.bb_net.specs.Completions.{HaveSmallTables, table_bits}
use Rattle.bb_net.specs.Netlists.{Netlist}
use Rattle.bb_nest.specs.Inside.Readers.{AllSeeRefs, SomeMissesRef}
use Rattle.bb_nest.proofs.Loops.{few_bits}
use Rattle.bb_nest.proofs.Refs.{nested_by_refs, not_nested}
use Rattle.bb_nest.proofs.nesting.is_finishable.Goals as goal

pub returns-clause-finishable : goal.returns-clause-finishable
returns-clause-finishable c =
    let imp = c.args.pair.now.imp in
    let kinds = c.args.pair.now.kinds in
    let made = c.requires.made in
    let s = c.args.made.now.diagrams.store in
    let refs = c.args.made.now.pins.items in
    let own_boxes : c.boxes.result.now ≡ imp.boxes = c.boxes.ensures.boxes ∙ ap (λ (net : Netlist). net.boxes) c.imp-imp.ensures.imp in
    let small : HaveSmallTables imp.boxes = subst (λ (net : Netlist). HaveSmallTables net.boxes) c.imp-imp.ensures.imp (few_bits c.table_bits.result (table_bits c.imp-imp.result.now.boxes) (2 ^ 24) c.table_bits.ensures.some c.table_bits.ensures.small c.if-is_none.ensures) in
    let unseen = λ (e : c.see_earlier.result ≡ false). subst₂ SomeMissesRef own_boxes c.deref.ensures.value (c.see_earlier.ensures.no e) in (
      λ e. record {
        nested = nested_by_refs c.functions.ensures imp s refs made.pin_refs made.pins c.is_canonical.ensures.refs kinds (c.all_differ.ensures.0 c.if-not-all_differ.false)
            (subst₂ AllSeeRefs own_boxes c.deref.ensures.value (c.see_earlier.ensures.yes e));
        small = small;
      },
      λ f. elim (either c.see_earlier.result) [
        | inl e ↦ e
        | inr e ↦ let none = unseen e in absurd (not_nested c.functions.ensures imp s refs made.pin_refs made.pins c.is_canonical.ensures.refs kinds none.0 none.1 none.2 none.3 none.4 f.nested)
      ],
    )

pub returns-clause-seen : goal.returns-clause-seen
returns-clause-seen c = λ e.
    let own_boxes = c.boxes.ensures.boxes ∙ ap (λ (net : Netlist). net.boxes) c.imp-imp.ensures.imp in
    subst₂ AllSeeRefs own_boxes c.deref.ensures.value (c.see_earlier.ensures.yes e)
