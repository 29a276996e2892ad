use Rattle.std.proofs.Common.{◌≡◌, Some, map, length, inr, sym, ◌∙◌, ap, subst, arith}
use Rattle.std.specs.Prelude.{slice_get}
use Rattle.bb_names.specs.Inside.Checked.{syntax}
use Rattle.bb_elab.specs.Inside.DrivenNumbers.{IsFirstAt, AreCounts, AreReads}
use Rattle.bb_design.specs.Hierarchy.{Design}
use Rattle.bb_design.specs.Inside.Allowed.{IsBounded}
use Rattle.bb_design.specs.NetBits.{Bit, net_order}
use Rattle.bb_blast.specs.Inside.Placements.{ArePlaced, AreTemplated}
use Rattle.bb_design.specs.Refusals.{IsUndriven, AreDriven}
use Rattle.bb_design.specs.Texts.{bit_text}
use Rattle.bb_elab.proofs.LevelizedLists.{for_reads, reads_seen, as_many, few, number_there, for_name, undriven, all_are}
use Rattle.bb_elab.proofs.levelizing.drive_all.Goals as goal

pub bits_read-requires : goal.bits_read-requires
bits_read-requires c = record { design = for_reads (map syntax c.args.checked.now) c.args.elaborated.now c.args.list.now c.deref.result.now c.deref.ensures.value c.as_slice-counts.result.now c.as_slice-counts.ensures.value c.requires.design }

pub first_undriven-requires : goal.first_undriven-requires
first_undriven-requires c =
    let counts = c.as_slice-counts.ensures.value in
    let reads = reads_seen (map syntax c.args.checked.now) c.args.elaborated.now c.args.list.now c.deref.result.now c.deref.ensures.value c.as_slice-counts.result.now counts c.in_ok-read.read.items c.in_ok-read.ensures.reads in
    record { same = ap length c.deref-2.ensures.value ∙ as_many (map syntax c.args.checked.now) c.args.elaborated.now c.args.list.now c.in_ok-read.read.items reads c.requires.design ∙ sym (ap length counts) }

pub overflow_cast-number : goal.overflow_cast-number
overflow_cast-number c =
    let counts = c.as_slice-counts.ensures.value in
    let reads = reads_seen (map syntax c.args.checked.now) c.args.elaborated.now c.args.list.now c.deref.result.now c.deref.ensures.value c.as_slice-counts.result.now counts c.in_ok-read.read.items c.in_ok-read.ensures.reads in
    let found = subst (λ all. (d : Design) → IsBounded d → AreCounts d c.args.elaborated.now.counts.items → AreReads d all → IsFirstAt d (IsUndriven d) c.in-Some.number) c.deref-2.ensures.value
    (subst (λ all. (d : Design) → IsBounded d → AreCounts d all → AreReads d c.deref-2.result.now → IsFirstAt d (IsUndriven d) c.in-Some.number) counts c.in-Some.ensures.some) in
    let low = few (map syntax c.args.checked.now) c.args.elaborated.now c.args.list.now c.in_ok-read.read.items reads c.in-Some.number found c.requires.design in
    omega (arith, low)

pub bit_name-requires : goal.bit_name-requires
bit_name-requires c =
    let counts = c.as_slice-counts.ensures.value in
    let reads = reads_seen (map syntax c.args.checked.now) c.args.elaborated.now c.args.list.now c.deref.result.now c.deref.ensures.value c.as_slice-counts.result.now counts c.in_ok-read.read.items c.in_ok-read.ensures.reads in
    let found = subst (λ all. (d : Design) → IsBounded d → AreCounts d c.args.elaborated.now.counts.items → AreReads d all → IsFirstAt d (IsUndriven d) c.in-Some.number) c.deref-2.ensures.value
    (subst (λ all. (d : Design) → IsBounded d → AreCounts d all → AreReads d c.deref-2.result.now → IsFirstAt d (IsUndriven d) c.in-Some.number) counts c.in-Some.ensures.some) in
    let there = number_there (map syntax c.args.checked.now) c.args.elaborated.now c.args.list.now c.in_ok-read.read.items reads c.in-Some.number found c.requires.design in
    record { design = for_name (map syntax c.args.checked.now) c.args.elaborated.now c.deref-in-Some.result.now c.deref-in-Some-2.result.now c.deref-in-Some.ensures.value c.deref-in-Some-2.ensures.value c.requires.design.0 c.requires.design.1 c.in-Some.number there }

pub returns-in-Some-clause-fault : goal.returns-in-Some-clause-fault
returns-in-Some-clause-fault c =
    let counts = c.as_slice-counts.ensures.value in
    let reads = reads_seen (map syntax c.args.checked.now) c.args.elaborated.now c.args.list.now c.deref.result.now c.deref.ensures.value c.as_slice-counts.result.now counts c.in_ok-read.read.items c.in_ok-read.ensures.reads in
    let found = subst (λ all. (d : Design) → IsBounded d → AreCounts d c.args.elaborated.now.counts.items → AreReads d all → IsFirstAt d (IsUndriven d) c.in-Some.number) c.deref-2.ensures.value
    (subst (λ all. (d : Design) → IsBounded d → AreCounts d all → AreReads d c.deref-2.result.now → IsFirstAt d (IsUndriven d) c.in-Some.number) counts c.in-Some.ensures.some) in
    let named = subst (λ o. (d : Design) → d.text ≡ map syntax c.args.checked.now → ArePlaced d c.args.elaborated.now.placed.items → AreTemplated d c.args.elaborated.now.placed.items o → (b : Bit) → slice_get (net_order d) c.in-Some.number ≡ Some b → c.in_ok-bit_name-in-Some.field-0 ≡ bit_text d b) c.deref-in-Some-2.ensures.value
    (subst (λ p. (d : Design) → d.text ≡ map syntax c.args.checked.now → ArePlaced d p → AreTemplated d p c.deref-in-Some-2.result.now → (b : Bit) → slice_get (net_order d) c.in-Some.number ≡ Some b → c.in_ok-bit_name-in-Some.field-0 ≡ bit_text d b) c.deref-in-Some.ensures.value c.in_ok-bit_name-in-Some.ensures.name) in
    inr (undriven (map syntax c.args.checked.now) c.args.elaborated.now c.args.list.now c.in_ok-read.read.items reads c.in-Some.number found c.in_ok-bit_name-in-Some.field-0 named)

pub returns-clause-driven : goal.returns-clause-driven
returns-clause-driven c =
    let counts = c.as_slice-counts.ensures.value in
    let reads = reads_seen (map syntax c.args.checked.now) c.args.elaborated.now c.args.list.now c.deref.result.now c.deref.ensures.value c.as_slice-counts.result.now counts c.in_ok-read.read.items c.in_ok-read.ensures.reads in
    let none = subst (λ all. (d : Design) → IsBounded d → AreCounts d c.args.elaborated.now.counts.items → AreReads d all → AreDriven d) c.deref-2.ensures.value
    (subst (λ all. (d : Design) → IsBounded d → AreCounts d all → AreReads d c.deref-2.result.now → AreDriven d) counts c.in-None.ensures.none) in
    all_are (map syntax c.args.checked.now) c.args.elaborated.now c.args.list.now c.in_ok-read.read.items reads none
