-- Pairs with a care output: two netlists have one, where they fit, as they have one without that output where none is asked for.
use Rattle.std.proofs.Common.{◌≡◌, ℕ, ◌+◌, ◌<◌, ◌≤◌, Bool, List, ◌++◌, map, drop, length, Contains, Option, Some, None, refl, sym, ap, ap₂, subst, ◌∙◌, arith, length-append}
use Rattle.std.specs.Prelude.{slice_get, slice_index}
use Rattle.std.proofs.lemmas.List.{length-drop, length-map}
use Rattle.std.proofs.lemmas.Option.{slice_get-get_or, slice_get_within}
use Rattle.bb_care.specs.Constrained.{constrained, specification_copies, copy_place, guarded, with_copies}
use Rattle.bb_care.specs.Laws.{ConstrainedPairsArePairs, HasRoom}
use Rattle.bb_subst.specs.Embeddings.{renumbered}
use Rattle.bb_lemmas.proofs.Picked.{one_place}
use Rattle.bb_net.specs.declared.cell.Cell.TheVariants.{And}
use Rattle.bb_net.specs.Netlists.{Netlist}
use Rattle.bb_net.specs.Kinds.{AreKinds}
use Rattle.bb_net.specs.Laws.KindLaws.{KindsAreOne}
use Rattle.bb_net.specs.Pairs.{NetPair, IsPair}
use Rattle.bb_net.specs.Rearrangements.{RearrangedNetsExist}
use Rattle.bb_net.specs.Flats.{FlatNet, IsFlat}
use Rattle.bb_match.specs.Refusals.{Care}
use Rattle.bb_match.specs.Laws.{FittingHaveKeptPair, PairsAreKept, PairsAreOne, PairsFit}
use Rattle.bb_match.specs.Pairing.{IsConstrainedPairOf, IsPairOf, IsPlainPairOf, without_output}
use Rattle.bb_match.proofs.CareLemmas.{care_is_taken_out, without_outputs_are_flat}
use Rattle.bb_match.proofs.KindLemmas.{Fitting}
use Rattle.bb_match.proofs.PairExists.{plain_kept_pair}
use Rattle.bb_match.proofs.PairLaws.{plain_pairs_are_one}
use Rattle.bb_match.proofs.PairLemmas.{mk_pair, new_outs}

-- the pair of two flat netlists has room for copies of the specification's cells
pub has_room : (shared : Bool) (spec imp : FlatNet) (p : NetPair) → IsFlat spec → IsFlat imp → IsPlainPairOf shared spec imp p → HasRoom p
has_room shared spec imp p a b is = record { spec = omega (arith, cells, outs, a.small.cells, a.small.outs); imp = omega (arith, cells, outs, is.rearranged.cell_count, a.small.cells, a.small.outs, b.small.cells) }
  where
    cells : length p.spec.cells ≡ length spec.net.cells
    cells = ap (λ n. length n.cells) is.spec_stays

    outs : length p.imp.outs ≡ length spec.net.outs
    outs = new_outs spec imp is.numbers is.picks p.imp a is.rearranged is.outputs

-- so many cells it has at most
pub plain_small : (shared : Bool) (spec imp : FlatNet) (p : NetPair) → IsFlat spec → IsFlat imp → IsPlainPairOf shared spec imp p → (length p.spec.cells ≤ 2000000) × (length p.imp.cells ≤ 2000000)
plain_small shared spec imp p a b is =
    let cells : length p.spec.cells ≡ length spec.net.cells = ap (λ n. length n.cells) is.spec_stays in
    (omega (arith, cells, a.small.cells), omega (arith, is.rearranged.cell_count, b.small.cells))

-- the care cell is a cell
pub care_there : (spec : FlatNet) (place : ℕ) (care : List ℕ) → IsFlat spec → slice_get spec.outs place ≡ Some care → slice_index spec.net.outs place < length spec.net.cells
care_there spec place care flat occurs = flat.net.outs_there place 0 (omega (arith, slice_get_within spec.outs place care occurs, flat.named.outputs))

pub fitting_have_kept_pair : RearrangedNetsExist → Fitting → ((keys : List (List ℕ)) → (kinds : List ℕ) × AreKinds keys kinds) → ConstrainedPairsArePairs → FittingHaveKeptPair
fitting_have_kept_pair exist fitting some constrained_pairs None shared spec imp a b fit = plain_kept_pair exist fitting some shared spec imp a b fit
fitting_have_kept_pair exist fitting some constrained_pairs (Some care) shared spec imp a b fit =
    let has : Contains spec.outs care = fit Care in
    let occurs : slice_get spec.outs has.0 ≡ Some care = slice_get-get_or spec.outs has.0 care has.1 ∙ ap Some has.2 in
    let rest = without_output has.0 spec in
    let flat : IsFlat rest = without_outputs_are_flat spec has.0 a has.1 in
    let kept = plain_kept_pair exist fitting some shared rest imp flat b ((care_is_taken_out care spec imp has.0 a occurs).fit.0 fit) in
    let cell = slice_index spec.net.outs has.0 in
    let there : cell < length kept.0.spec.cells = subst (λ n. cell < length n.cells) (sym kept.2.spec_stays) (care_there spec has.0 care a occurs) in
    (constrained cell kept.0, constrained_pairs kept.0 cell kept.1 (has_room shared rest imp kept.0 flat b kept.2) there, record { place = has.0; occurs = occurs; rest = kept.0; paired = kept.2; is = refl })

constrained_pairs_are_one : KindsAreOne → (care : List ℕ) (shared : Bool) (spec imp : FlatNet) (p q : NetPair) → IsFlat spec → IsFlat imp → IsConstrainedPairOf care shared spec imp p → IsConstrainedPairOf care shared spec imp q → p ≡ q
constrained_pairs_are_one one care shared spec imp p q a b x y =
    let place : y.place ≡ x.place = one_place spec.outs y.place x.place care a.apart.outs y.occurs x.occurs in
    let paired : IsPlainPairOf shared (without_output x.place spec) imp y.rest = subst (λ k. IsPlainPairOf shared (without_output k spec) imp y.rest) place y.paired in
    let flat = without_outputs_are_flat spec x.place a (slice_get_within spec.outs x.place care x.occurs) in
    x.is ∙ ap₂ (λ k r. constrained (slice_index spec.net.outs k) r) (sym place) (plain_pairs_are_one one shared (without_output x.place spec) imp x.rest y.rest flat b x.paired paired) ∙ sym y.is

pub pairs_are_one : KindsAreOne → PairsAreOne
pairs_are_one one None shared spec imp p q a b x y = plain_pairs_are_one one shared spec imp p q a b x y
pairs_are_one one (Some care) shared spec imp p q a b x y = constrained_pairs_are_one one care shared spec imp p q a b x y

pub pairs_fit : PairsFit
pairs_fit None shared spec imp p flat is = is.fit
pairs_fit (Some care) shared spec imp p flat is = (care_is_taken_out care spec imp is.place flat is.occurs).fit.1 is.paired.fit

-- how many cells a pair has with a care output

constrained_small : (care : ℕ) (p : NetPair) → length p.spec.cells ≤ 2000000 → length p.imp.cells ≤ 2000000 → length p.spec.outs ≤ 2000000 → length p.imp.outs ≤ 2000000 → (length (constrained care p).spec.cells ≤ 4000000) × (length (constrained care p).imp.cells ≤ 6000000)
constrained_small care p a b c d =
    let ands : length (map (λ out. And out care) p.spec.outs) ≡ length p.spec.outs = length-map p.spec.outs (λ out. And out care) in
    let other = copy_place p.spec p.imp care in
    let others : length (map (λ out. And out other) p.imp.outs) ≡ length p.imp.outs = length-map p.imp.outs (λ out. And out other) in
    let kept = drop (p.spec.inputs + 2) p.spec.cells in
    let count : length (specification_copies p.spec p.imp) ≡ length kept = length-map kept (renumbered (copy_place p.spec p.imp)) in (
      omega (arith, a, c, ands, length-append p.spec.cells (map (λ out. And out care) p.spec.outs)),
      omega (
        arith,
        a,
        b,
        d,
        others,
        count,
        length-drop (p.spec.inputs + 2) p.spec.cells,
        length-append p.imp.cells (specification_copies p.spec p.imp),
        length-append (p.imp.cells ++ specification_copies p.spec p.imp) (map (λ out. And out other) p.imp.outs),
      ),
    )

pub pair_small : (care : Option (List ℕ)) (shared : Bool) (spec imp : FlatNet) (p : NetPair) → IsFlat spec → IsFlat imp → IsPairOf care shared spec imp p → (length p.spec.cells ≤ 4000000) × (length p.imp.cells ≤ 6000000)
pair_small None shared spec imp p a b is = let few = plain_small shared spec imp p a b is in (omega (arith, few.0), omega (arith, few.1))
pair_small (Some care) shared spec imp p a b is =
    let rest = without_output is.place spec in
    let flat : IsFlat rest = without_outputs_are_flat spec is.place a (slice_get_within spec.outs is.place care is.occurs) in
    let few = plain_small shared rest imp is.rest flat b is.paired in
    let outs : length is.rest.spec.outs ≡ length rest.net.outs = ap (λ n. length n.outs) is.paired.spec_stays in
    let others = new_outs rest imp is.paired.numbers is.paired.picks is.rest.imp flat is.paired.rearranged is.paired.outputs in
    subst (λ q. (length q.spec.cells ≤ 4000000) × (length q.imp.cells ≤ 6000000)) (sym is.is)
    (constrained_small (slice_index spec.net.outs is.place) is.rest few.0 few.1 (omega (arith, outs, flat.small.outs)) (omega (arith, others, flat.small.outs)))

-- the netlists that are made for it
pub made_constrained : (care : ℕ) (outs : List ℕ) (p q : NetPair) (s net : Netlist) → p ≡ q → outs ≡ p.spec.outs → s ≡ guarded care outs p.spec → net ≡ guarded (copy_place p.spec p.imp care) p.imp.outs (with_copies p.spec p.imp)
    → mk_pair s net p.ins p.outs p.boxes p.kinds ≡ constrained care q
made_constrained care outs p q s net view same a b = ap₂ (λ x y. mk_pair x y p.ins p.outs p.boxes p.kinds) (a ∙ ap (λ l. guarded care l p.spec) same) b ∙ ap (constrained care) view

pub pairs_are_kept : PairsAreOne → FittingHaveKeptPair → PairsAreKept
pairs_are_kept one kept care shared spec imp p a b is =
    let made = kept care shared spec imp a b (pairs_fit care shared spec imp p a is) in
    subst IsPair (one care shared spec imp made.0 p a b made.2 is) made.1
