use Rattle.std.proofs.Common.{◌≡◌, All, Bool, Err, Global, List, ℕ, Vec, ap, length, map, subst, subst₂, sym, vec_items}
use Rattle.bb_lemmas.proofs.Turns.{all_mapped}
use Rattle.bb_net.specs.Equivalence.{IsVector}
use Rattle.bb_net.specs.Netlists.{Netlist}
use Rattle.bb_expand.specs.Expanded.{IsExpanded}
use Rattle.bb_expand.specs.GivenUp.{NeedsMoreClauses}
use Rattle.bb_miter.specs.Inside.Equivalence.{AreComparable}
use Rattle.bb_invariant.specs.Inside.Answers.{SomeDiffer}
use Rattle.bb_invariant.proofs.Boxless.{comparable_beside, differ, equivalent, no_tables}
use Rattle.bb_invariant.proofs.solving.by_expansion.Goals as goal

pub differing_vector-requires-clause-comparable : goal.differing_vector-requires-clause-comparable
differing_vector-requires-clause-comparable c = subst₂ AreComparable (sym c.spec-spec.ensures.spec) (sym c.imp-imp.ensures.imp) (comparable_beside c.args.pair.now c.imp-imp.ensures.kept c.requires.no_box)

pub differing_vector-requires-clause-inputs : goal.differing_vector-requires-clause-inputs
differing_vector-requires-clause-inputs c =
    let pair = c.args.pair.now in
    let error = subst (IsExpanded pair.spec pair.imp pair.kinds c.args.clauses) c.in-Ok-Error.field-0-is c.in-Ok-Error.ensures.ok in
    subst₂ (λ (net : Netlist) (vectors : List (Vec Bool Global)). All (λ x. length x.items ≡ net.inputs) vectors) (sym c.imp-imp.ensures.imp) (sym c.deref.ensures.value)
    (all_mapped (IsVector pair.imp) vec_items c.in-Ok-Error.vectors.items error.whole)

pub differing_vector-requires-clause-some : goal.differing_vector-requires-clause-some
differing_vector-requires-clause-some c =
    let pair = c.args.pair.now in
    let error = subst (IsExpanded pair.spec pair.imp pair.kinds c.args.clauses) c.in-Ok-Error.field-0-is c.in-Ok-Error.ensures.ok in
    let kept = c.imp-imp.ensures.kept in
    let vectors = map vec_items c.in-Ok-Error.vectors.items in
    let some = differ c.value_goes_by_boxes.ensures pair.spec pair.imp pair.kinds kept.imp c.requires.no_box c.requires.no_kind c.refutations_show_vectors.ensures kept.beside.kinds
    c.args.clauses vectors c.in-Ok-Error.field-0-1 c.in-Ok-Error.field-0-2.steps.items error in
    subst (λ (xs : List (Vec Bool Global)). SomeDiffer c.spec-spec.result.now c.imp-imp.result.now (map vec_items xs)) (sym c.deref.ensures.value)
    (subst₂ (λ (spec imp : Netlist). SomeDiffer spec imp vectors) (sym c.spec-spec.ensures.spec) (sym c.imp-imp.ensures.imp) some)

pub returns-in-Ok-Repair : goal.returns-in-Ok-Repair
returns-in-Ok-Repair c =
    let pair = c.args.pair.now in
    let complete = subst (IsExpanded pair.spec pair.imp pair.kinds c.args.clauses) c.in-Ok-Repair.field-0-is c.in-Ok-Repair.ensures.ok in
    record { answer = equivalent c.value_goes_by_boxes.ensures pair.spec pair.imp pair.kinds c.imp-imp.ensures.kept.imp c.requires.no_box c.requires.no_kind _ complete }

pub returns-in-Err-Clauses : goal.returns-in-Err-Clauses
returns-in-Err-Clauses c =
    let pair = c.args.pair.now in
    let needs = (c.in-Err-Clauses.ensures.clauses (ap Err c.in-Err-Clauses.field-0-is)).1 in
    record { answer = subst (λ (kinds : List ℕ). NeedsMoreClauses pair.spec pair.imp kinds c.args.clauses) c.requires.no_kind needs }

pub unreachable-requires : goal.unreachable-requires
unreachable-requires c = no_tables c.args.pair.now.imp c.args.pair.now.kinds c.requires.no_box c.requires.no_kind (c.in-Err-Wide.ensures.wide (ap Err c.in-Err-Wide.field-0-is))
