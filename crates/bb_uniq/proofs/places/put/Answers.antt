use Rattle.std.proofs.Common.{◌≡◌, ◌+◌, ◌*◌, ◌/◌, ◌%◌, ◌^◌, ◌∷◌, ◌++◌, [], ap, ap₂, sym, subst, ◌∙◌, length, ℕ, List, get_or, arith}
use Rattle.std.specs.Prelude.{slice_set}
use Rattle.bb_uniq.specs.Inside.Probes.{place_after, mark_of, ArePlaces}
use Rattle.bb_uniq.proofs.ProbeLemmas.{ArePlaces-put, ends_at_free}
use Rattle.bb_uniq.proofs.places.put.Goals as goal

pub returns-then-places-place-eq0-clause-places : goal.returns-then-places-place-eq0-clause-places
returns-then-places-place-eq0-clause-places c =
    let places = c.args.places.now in
    let nodes = c.args.nodes.now in
    let node = c.args.node in
    let steps = c.loop-steps.steps in
    let mark : ℕ = c.tag.result * 67108864 + length nodes + 1 in
    let same = c.loop-steps.invariant.0 in
    let at : c.place-place.result ≡ place_after (length places) node steps = c.place-place.ensures.place ∙ ap₂ (λ h n. (h / 2 ^ 32 + steps) % n) c.hash-hash.ensures (ap length same) in
    let marked : mark ≡ mark_of node (length nodes) = ap (λ t. t * 67108864 + length nodes + 1) (c.tag.ensures.tag ∙ ap (λ h. h / 2 ^ 58) c.hash-hash.ensures) ∙ omega arith in
    let free = ap₂ (λ (xs : List ℕ) q. get_or xs q 0) (sym same) (sym at) ∙ c.if-places-place-eq0.true in
    let put = ArePlaces-put places nodes node steps c.requires.places c.loop-steps-test.true c.requires.room c.loop-steps.invariant.1 free in
    subst (λ xs. ArePlaces (slice_set xs c.place-place.result mark) (nodes ++ node ∷ [])) (sym same)
    (subst (λ q. ArePlaces (slice_set places q mark) (nodes ++ node ∷ [])) (sym at) (subst (λ m. ArePlaces (slice_set places (place_after (length places) node steps) m) (nodes ++ node ∷ [])) (sym marked) put))

pub unreachable-requires : goal.unreachable-requires
unreachable-requires c =
    ends_at_free c.args.places.now c.args.nodes.now c.args.node c.requires.places (λ i l. c.loop-steps.invariant.1 i (omega (arith, l, c.loop-steps-test.false)))
