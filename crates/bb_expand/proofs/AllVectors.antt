-- All vectors: each is one of the list, and each of the list is one.
use Rattle.std.proofs.Common.{◌≡◌, ◌<◌, ◌^◌, List, [], length, All, ap, subst, ◌∙◌, arith}
use Rattle.std.proofs.lemmas.List.FromFn.{length-map-range_with_len, get_or-map-range_with_len}
use Rattle.bb_bits.specs.Numbers.{number_of, bits_of}
use Rattle.bb_bits.specs.Tables.{TableBits}
use Rattle.bb_net.specs.Equivalence.{AllRight, TablesMakeEquivalent}
use Rattle.bb_net.specs.Netlists.{Netlist}
use Rattle.bb_net.specs.Values.{flat_with}
use Rattle.bb_expand.specs.Expansions.{all_vectors}
use Rattle.bb_expand.specs.Laws.{VectorsRise, VectorsAreAll}
use Rattle.bb_expand.specs.Inside.LawsBelow.{Numbering}
use Rattle.bb_expand.proofs.Pieces.{each_holds, all_hold}

pub agree_from_all : Numbering → (spec imp : Netlist) (tables : List TableBits) → All (λ x. AllRight spec imp x (flat_with imp x tables)) (all_vectors imp.inputs) → TablesMakeEquivalent spec imp tables
agree_from_all numbering spec imp tables all x is =
    let below : number_of x < 2 ^ imp.inputs = subst (λ n. number_of x < 2 ^ n) is (numbering.below x) in
    let same : bits_of imp.inputs (number_of x) ≡ x = subst (λ n. bits_of n (number_of x) ≡ x) is (numbering.once x) in
    subst (λ y. AllRight spec imp y (flat_with imp y tables)) same (each_holds (λ y. AllRight spec imp y (flat_with imp y tables)) (bits_of imp.inputs) (2 ^ imp.inputs) all (number_of x) below)

pub all_from_agree : Numbering → (spec imp : Netlist) (tables : List TableBits) → TablesMakeEquivalent spec imp tables → All (λ x. AllRight spec imp x (flat_with imp x tables)) (all_vectors imp.inputs)
all_from_agree numbering spec imp tables agree = all_hold (λ y. AllRight spec imp y (flat_with imp y tables)) (bits_of imp.inputs) (2 ^ imp.inputs) (λ k h. agree (bits_of imp.inputs k) (numbering.width imp.inputs k))

pub vectors_rise : Numbering → VectorsRise
vectors_rise numbering n k h = ap number_of (get_or-map-range_with_len (bits_of n) 0 (2 ^ n) k k [] h (omega arith)) ∙ numbering.spelled n k h

pub vectors_are_all : Numbering → VectorsAreAll
vectors_are_all numbering x =
    let place = get_or-map-range_with_len (bits_of (length x)) 0 (2 ^ length x) (number_of x) (number_of x) x (numbering.below x) (omega arith) in
    let whole = length-map-range_with_len (bits_of (length x)) 0 (2 ^ length x) in
    (number_of x, omega (arith, whole, numbering.below x), place ∙ numbering.once x)
