-- What a learned clause leaves true.
use Rattle.std.proofs.Common.{◌≡◌, ◌<◌, ℕ, ◌+◌, ◌-◌, false, Option, Some, None, IfSome, IfNone, IsSomeAnd, option_map, List, [], ◌∷◌, ◌++◌, length, map, take, slice_get, refl, sym, ◌∙◌, ap, subst, arith, length-append}
use Rattle.std.proofs.lemmas.List.{append_assoc, append-nil, length-map}
use Rattle.std.proofs.lemmas.Option.{slice_get-map}
use Rattle.smallvec.specs.SmallVec.{SmallVec}
use Rattle.bb_cnf.specs.declared.clauses.Lit.{Lit}
use Rattle.bb_cnf.specs.declared.refutation.Step.{Step}
use Rattle.bb_cnf.specs.Clauses.{Literals, literals_of, lists_of}
use Rattle.bb_cnf.specs.Chains.{made_by, IsEmpty}
use Rattle.bb_cnf.specs.Laws.{ChainLaws}
use Rattle.bb_cdcl.specs.declared.analysis.Backjump.{Backjump}
use Rattle.bb_cdcl.specs.declared.state.State.{State}
use Rattle.bb_cdcl.specs.declared.trail.Entry.{Entry}
use Rattle.bb_cdcl.specs.declared.trail.Trail.{Trail}
use Rattle.bb_cnf.specs.Inside.PartialResolvent.{held, AreListed}
use Rattle.bb_cdcl.specs.Inside.Trails.{opposite, AreNew, HaveReasons, IsReason, AreValues, HasRoom}
use Rattle.bb_cdcl.specs.Inside.Analysis.{IsBackjump}
use Rattle.bb_cdcl.specs.Inside.Dates.{AreDerived}
use Rattle.bb_cdcl.specs.Inside.States.{all_clauses, IsDerived, Refutes, IsReady, Grows, Leads, Learns, Advances, left_of}
use Rattle.bb_cdcl.specs.Inside.Measure.{left}
use Rattle.bb_cdcl.proofs.Dates.{derived_today}
use Rattle.bb_cdcl.proofs.Extended.{get_last, more_reasons, reasons_push, reasons_prefix, lists_of-push}

-- all clauses, with one more
lists_more : (given : List (List Lit)) (old new : State) (clause : SmallVec Lit) → new.learned.items ≡ old.learned.items ++ clause ∷ [] → all_clauses given new ≡ all_clauses given old ++ clause.items ∷ []
lists_more given old new clause more =
    ap (λ learned. given ++ lists_of learned) more ∙ ap (λ learned. given ++ learned) (lists_of-push old.learned.items clause)
    ∙ sym (append_assoc given (lists_of old.learned.items) (clause.items ∷ []))

-- a clause more, and the step that makes it
added : ChainLaws → (given : List (List Lit)) (old new : State) (clause : SmallVec Lit) (step : Step) → IsDerived given old → new.learned.items ≡ old.learned.items ++ clause ∷ []
    → new.steps.items ≡ old.steps.items ++ record { given = length given; step = step } ∷ [] → made_by (map literals_of (all_clauses given old)) step ≡ Some (literals_of clause.items)
    → new.trail ≡ old.trail → IsDerived given new
added laws given old new clause step before more steps made trail =
    let all = lists_more given old new clause more in
    record {
      derives = subst (λ dated. AreDerived given dated (all_clauses given new)) (sym steps)
          (subst (AreDerived given (old.steps.items ++ record { given = length given; step = step } ∷ [])) (sym all)
          (derived_today given (all_clauses given old) old.steps.items step clause.items before.derives made));
      reasons = subst (λ (t : Trail). HaveReasons (all_clauses given new) t.entries.items) (sym trail)
          (subst (λ clauses. HaveReasons clauses old.trail.entries.items) (sym all) (more_reasons (all_clauses given old) clause.items old.trail.entries.items before.reasons));
    }

pub grows_not : (given : List (List Lit)) (s : State) → IsDerived given s → Grows given s s
grows_not given s before = record { derived = before; more = []; clauses = sym (append-nil (all_clauses given s)); trail = refl; resolvent = refl }

pub grows_by : ChainLaws → (given : List (List Lit)) (old new : State) (clause : SmallVec Lit) (step : Step) → IsDerived given old → new.learned.items ≡ old.learned.items ++ clause ∷ []
    → new.steps.items ≡ old.steps.items ++ record { given = length given; step = step } ∷ [] → made_by (map literals_of (all_clauses given old)) step ≡ Some (literals_of clause.items)
    → new.trail ≡ old.trail → new.resolvent ≡ old.resolvent → Grows given old new
grows_by laws given old new clause step before more steps made trail resolvent = record {
  derived = added laws given old new clause step before more steps made trail;
  more = clause.items ∷ [];
  clauses = lists_more given old new clause more;
  trail = trail;
  resolvent = resolvent;
}

pub grows_on : (given : List (List Lit)) (old mid new : State) → Grows given old mid → Grows given mid new → Grows given old new
grows_on given old mid new first then = record {
  derived = then.derived;
  more = first.more ++ then.more;
  clauses = then.clauses ∙ ap (λ all. all ++ then.more) first.clauses ∙ append_assoc (all_clauses given old) first.more then.more;
  trail = then.trail ∙ first.trail;
  resolvent = then.resolvent ∙ first.resolvent;
}

last_of : {A : Type 0} (xs : List A) (x : A) → slice_get (xs ++ x ∷ []) (length (xs ++ x ∷ []) - 1) ≡ Some x
last_of xs x =
    let longer : length (xs ++ x ∷ []) ≡ length xs + 1 = length-append xs (x ∷ []) in
    let place : length (xs ++ x ∷ []) - 1 ≡ length xs = omega (arith, longer) in
    ap (slice_get (xs ++ x ∷ [])) place ∙ get_last xs x

-- the last clause is empty
refuted : (given : List (List Lit)) (s : State) (clause : List Lit) → IsDerived given s → 0 < length s.steps.items → slice_get (all_clauses given s) (length (all_clauses given s) - 1) ≡ Some clause
    → IsEmpty (literals_of clause) → Refutes given s
refuted given s clause before some last empty =
    let all = all_clauses given s in
    record {
      derived = before;
      some = some;
      empty = subst (λ o. IsSomeAnd o IsEmpty)
          (sym (ap (λ n. slice_get (map literals_of all) (n - 1)) (length-map all literals_of) ∙ slice_get-map literals_of all (length all - 1) ∙ ap (option_map literals_of) last)) empty;
    }

if_none : (backjump : Option Backjump) (A B : Type 0) → (A → B) → IfNone backjump A → IfNone backjump B
if_none None A B f a = f a
if_none (Some j) A B f a = tt

-- the clause that the step leads to is the last
pub learned_last : ChainLaws → (given : List (List Lit)) (old mid new : State) (backjump : Option Backjump) (step : Step) (clause : SmallVec Lit) → Leads given old mid backjump step
    → literals_of clause.items ≡ held mid.resolvent → new.learned.items ≡ mid.learned.items ++ clause ∷ [] → new.steps.items ≡ mid.steps.items ++ record { given = length given; step = step } ∷ [] → new.trail ≡ mid.trail
    → ((l : Lit) → held new.resolvent l ≡ false) → AreListed new.resolvent → Learns given old new backjump
learned_last laws given old mid new backjump step clause leads is more steps trail empty listed =
    let derived = added laws given mid new clause step leads.derived more steps (leads.made ∙ ap (λ (k : Literals). Some k) (sym is)) trail in
    let last = ap (λ all. slice_get all (length all - 1)) (lists_more given mid new clause more) ∙ last_of (all_clauses given mid) clause.items in
    let longer : length new.steps.items ≡ length mid.steps.items + 1 = ap length steps ∙ length-append mid.steps.items (record { given = length given; step = step } ∷ []) in
    record {
      derived = derived;
      trail = trail ∙ leads.trail;
      clause = clause.items;
      last = last;
      some = subst (λ k. IfSome backjump (λ j. IsBackjump old.trail.entries.items k j.place j.back)) (sym is) leads.some;
      none = if_none backjump (IsEmpty (held mid.resolvent)) (Refutes given new)
          (λ nothing. refuted given new clause.items derived (omega (arith, longer)) last (subst IsEmpty (sym is) nothing)) leads.none;
      empty = empty;
      listed = listed;
    }

pub learned_ready : (given : List (List Lit)) (old new : State) (backjump : Option Backjump) → IsReady old → Learns given old new backjump → IsReady new
learned_ready given old new backjump ready learns = record {
  new = subst (λ (t : Trail). AreNew t.entries.items) (sym learns.trail) ready.new;
  values = subst (λ (t : Trail). AreValues t.entries.items t.values.items) (sym learns.trail) ready.values;
  room = subst (λ (t : Trail). HasRoom t.entries.items t.values.items) (sym learns.trail) ready.room;
  empty = learns.empty;
  listed = learns.listed;
}

pub derived_kept : (given : List (List Lit)) (old new : State) (entries : List Entry) → IsDerived given old → new.learned.items ≡ old.learned.items → new.steps.items ≡ old.steps.items
    → new.trail.entries.items ≡ entries → HaveReasons (all_clauses given old) entries → IsDerived given new
derived_kept given old new entries before learned steps is reasons = record {
  derives = subst (λ more. AreDerived given new.steps.items (given ++ lists_of more)) (sym learned) (subst (λ dated. AreDerived given dated (all_clauses given old)) (sym steps) before.derives);
  reasons = subst (λ more. HaveReasons (given ++ lists_of more) new.trail.entries.items) (sym learned) (subst (HaveReasons (all_clauses given old)) (sym is) reasons);
}

-- an entry more, with its reason
pub derived_longer : (given : List (List Lit)) (old new : State) (e : Entry) → IsDerived given old → new.learned.items ≡ old.learned.items → new.steps.items ≡ old.steps.items
    → new.trail.entries.items ≡ old.trail.entries.items ++ e ∷ [] → IfSome e.reason (IsReason (all_clauses given old) old.trail.entries.items e.lit) → IsDerived given new
derived_longer given old new e before learned steps is reason =
    derived_kept given old new (old.trail.entries.items ++ e ∷ []) before learned steps is (reasons_push (all_clauses given old) old.trail.entries.items e before.reasons reason)

-- the front of the trail
pub derived_shorter : (given : List (List Lit)) (old new : State) (p : ℕ) → IsDerived given old → new.learned.items ≡ old.learned.items → new.steps.items ≡ old.steps.items
    → new.trail.entries.items ≡ take p old.trail.entries.items → IsDerived given new
derived_shorter given old new p before learned steps is =
    derived_kept given old new (take p old.trail.entries.items) before learned steps is (reasons_prefix (all_clauses given old) old.trail.entries.items p before.reasons)

-- the front of the trail, and what the clause of a jump implies there
pub derived_jumped : (given : List (List Lit)) (old new : State) (place back n : ℕ) (clause : List Lit) → IsDerived given old → new.learned.items ≡ old.learned.items
    → new.steps.items ≡ old.steps.items → slice_get (all_clauses given old) n ≡ Some clause → (backjump : IsBackjump old.trail.entries.items (literals_of clause) place back)
    → new.trail.entries.items ≡ take back old.trail.entries.items ++ record { lit = opposite backjump.covered.entry.lit; reason = Some n } ∷ [] → IsDerived given new
derived_jumped given old new place back n clause before learned steps occurs backjump is =
    derived_kept given old new (take back old.trail.entries.items ++ record { lit = opposite backjump.covered.entry.lit; reason = Some n } ∷ []) before learned steps is
    (reasons_push (all_clauses given old) (take back old.trail.entries.items) (record { lit = opposite backjump.covered.entry.lit; reason = Some n })
    (reasons_prefix (all_clauses given old) old.trail.entries.items back before.reasons)
    (record { clause = clause; occurs = occurs; own = backjump.covered.member; others = backjump.covered.others }))

pub advances_learned : (given : List (List Lit)) (old mid new : State) (backjump : Option Backjump) → Learns given old mid backjump → Advances mid new → Advances old new
advances_learned given old mid new backjump learns advances = record {
  ready = advances.ready;
  less = subst (λ (t : Trail). left_of new < left (length t.values.items) t.entries.items) learns.trail advances.less;
  same = advances.same ∙ ap (λ (t : Trail). length t.values.items) learns.trail;
}
