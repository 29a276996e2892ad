use Rattle.std.proofs.Common.{[], ◌≡◌, ap, ◌∙◌, length, subst, sym}
use Rattle.std.specs.Prelude.{All}
use Rattle.std.specs.List.{filter_map}
use Rattle.std.proofs.lemmas.Result.{IfOk-weaker}
use Rattle.bb_design.specs.Hierarchy.{Design}
use Rattle.bb_design.specs.Inside.Allowed.{IsBounded}
use Rattle.bb_design.specs.NetBits.{net_order}
use Rattle.bb_blast.specs.Inside.Placements.{ArePlaced, AreTemplated, AreStored}
use Rattle.bb_elab.specs.Inside.StoredNumbers.{MayBeNoted}
use Rattle.bb_elab.proofs.RegisterNumbers.{notes_there, stored_reported}
use Rattle.bb_elab.proofs.StoredNotes.{no_notes_are}
use Rattle.bb_elab.proofs.Tallies.{written_back}
use Rattle.bb_elab.proofs.registers.stored_bits.Goals as goal

pub note_scopes-requires-clause-there : goal.note_scopes-requires-clause-there
note_scopes-requires-clause-there c =
    let d = c.requires.design in
    subst (λ n. All (MayBeNoted c.args.templates.now n) c.args.placed.now) (sym (ap length c.deref_mut.ensures.value ∙ c.in_ok-notes.ensures.long ∙ d.4)) (notes_there c.laws_of_designs.ensures d.0 c.args.placed.now c.args.templates.now d.1 d.2)

pub returns : goal.returns
returns c = record {
  stored = IfOk-weaker _ _ (λ all. (d : Design) → ArePlaced d c.args.placed.now → AreTemplated d c.args.placed.now c.args.templates.now → IsBounded d → c.args.bits ≡ length (net_order d) → AreStored d all.items)
      (λ all is d placed templated bounded bits.
      let notes = c.note_scopes.new.notes in
      let items = c.in_ok-notes.notes.items in
      let long : length notes ≡ length items = c.note_scopes.auto.notes ∙ ap length c.deref_mut.ensures.value in
      let whole : length items ≡ length (net_order d) = c.in_ok-notes.ensures.long ∙ bits in
      let back : c.deref.result.now ≡ notes = c.deref.ensures.value ∙ written_back c.in_ok-notes.notes.len items notes long (sym (sym (ap length c.deref_mut.ensures.value) ∙ c.deref_mut.ensures.len)) in
      subst (AreStored d) (sym (is ∙ ap (filter_map (λ note. note)) back))
      (stored_reported c.laws_of_designs.ensures d c.args.placed.now c.args.templates.now placed templated (c.laws_of_designs.ensures.distinct d bounded.faultless bounded.top) notes (long ∙ whole)
      (c.note_scopes.ensures.noted [] (no_notes_are c.deref_mut.result.now c.args.bits (c.deref_mut.ensures.value ∙ c.in_ok-notes.ensures.none)))))
      c.noted.ensures.noted;
}
