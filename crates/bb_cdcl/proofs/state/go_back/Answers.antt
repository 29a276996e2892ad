use Rattle.std.proofs.Common.{◌≡◌, ◌≤◌, Some, [], ◌∷◌, ◌++◌, slice_get, sym, subst, ap, ◌∙◌, length, arith, refl}
use Rattle.bb_cdcl.specs.Inside.Trails.{opposite, IsNew, AreNew}
use Rattle.bb_cdcl.proofs.Extended.{new_prefix, new_is_free, still_new, entry_in_range}
use Rattle.bb_cdcl.proofs.Measured.{backjump_less}
use Rattle.bb_cdcl.proofs.state.go_back.Goals as goal

pub extend-requires-clause-ready : goal.extend-requires-clause-ready
extend-requires-clause-ready c =
    let ready = c.requires.ready in
    record {
      new = subst AreNew (sym c.pop_to.ensures.entries) (new_prefix _ _ ready.new);
      values = c.pop_to.ensures.values;
      room = c.pop_to.ensures.room;
      empty = ready.empty;
      listed = ready.listed;
    }

pub extend-requires-clause-in_range : goal.extend-requires-clause-in_range
extend-requires-clause-in_range c =
    let occurs = subst (λ es. slice_get es c.args.backjump.place ≡ Some c.entry_at-entry.result) c.deref.ensures.value c.entry_at-entry.ensures in
    rw (c.negation-lit.ensures, c.pop_to.ensures.same) (entry_in_range _ _ _ _ c.requires.ready.values occurs)

pub extend-requires-clause-free : goal.extend-requires-clause-free
extend-requires-clause-free c =
    let ready = c.requires.ready in
    let backjump = c.requires.backjump.1 in
    let occurs = subst (λ es. slice_get es c.args.backjump.place ≡ Some c.entry_at-entry.result) c.deref.ensures.value c.entry_at-entry.ensures in
    let new = still_new _ _ _ _ backjump.covered.before (ready.new _ _ occurs) in
    rw c.negation-lit.ensures (new_is_free _ _ (opposite c.entry_at-entry.result.lit) c.pop_to.ensures.values (subst (λ es. IsNew es (opposite c.entry_at-entry.result.lit)) (sym c.pop_to.ensures.entries) new))

pub returns-clause-advances : goal.returns-clause-advances
returns-clause-advances c =
    let backjump = c.requires.backjump.1 in
    let within : length c.args.s.now.trail.entries.items ≤ length c.args.s.now.trail.values.items = (let room = c.requires.ready.room in omega (arith, room)) in
    let same = c.in_ok-extend.ensures.same ∙ c.pop_to.ensures.same in
    record {
      ready = c.in_ok-extend.ensures.ready;
      less = backjump_less _ _ _ _ c.args.backjump.back backjump.decision (record { lit = c.negation-lit.result; reason = Some c.args.reason }) c.args.reason same
          (c.in_ok-extend.ensures.entries ∙ ap (λ es. es ++ record { lit = c.negation-lit.result; reason = Some c.args.reason } ∷ []) c.pop_to.ensures.entries)
          within backjump.at_back backjump.decided refl;
      same = same;
    }
