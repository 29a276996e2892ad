use Rattle.std.proofs.Common.{◌≡◌, ◌<◌, Some, inr, map, length, subst, arith}
use Rattle.std.specs.Prelude.{slice_get, IfNone}
use Rattle.std.proofs.lemmas.List.{length-map}
use Rattle.bb_names.specs.Inside.Checked.{syntax}
use Rattle.bb_elab.specs.Inside.DrivenNumbers.{IsFirstAt, AreCounts}
use Rattle.bb_design.specs.Hierarchy.{Design}
use Rattle.bb_design.specs.NetBits.{Bit, net_order}
use Rattle.bb_design.specs.Texts.{bit_text}
use Rattle.bb_blast.specs.Inside.Placements.{ArePlaced, AreTemplated, AreStored}
use Rattle.bb_design.specs.Inside.Allowed.{IsBounded}
use Rattle.bb_design.specs.Refusals.{IsSmallDesign, IsDrivenTwice, AreDrivenOnce}
use Rattle.bb_elab.proofs.Growth.{for_templates, for_counts, for_bits, for_registers, few, for_name, twice, elaborated}
use Rattle.bb_elab.proofs.elaboration.grow.Goals as goal

pub module_templates-requires-clause-design : goal.module_templates-requires-clause-design
module_templates-requires-clause-design c =
    let text = map syntax c.args.checked.now in
    let lt : c.args.top < length text = omega (arith, c.requires.top, length-map c.args.checked.now syntax) in
    for_templates c.laws_of_designs.ensures text c.args.top lt c.requires.finite c.in_ok-placed.placed.items c.in_ok-placed.ensures.placed c.deref.result.now c.deref.ensures.value

pub driver_counts-requires : goal.driver_counts-requires
driver_counts-requires c =
    let text = map syntax c.args.checked.now in
    let lt : c.args.top < length text = omega (arith, c.requires.top, length-map c.args.checked.now syntax) in
    let made = subst (λ p. (d : Design) → d.text ≡ text → ArePlaced d p → IsSmallDesign d → AreTemplated d p c.in_ok-templates.templates.items) c.deref.ensures.value c.in_ok-templates.ensures.templated in
    record { design = for_counts c.laws_of_designs.ensures text c.args.top lt c.requires.finite c.in_ok-placed.placed.items c.in_ok-placed.ensures.placed c.in_ok-templates.templates.items made c.deref-2.result.now c.deref-3.result.now c.deref-2.ensures.value c.deref-3.ensures.value }

pub overflow_cast-number : goal.overflow_cast-number
overflow_cast-number c =
    let text = map syntax c.args.checked.now in
    let lt : c.args.top < length text = omega (arith, c.requires.top, length-map c.args.checked.now syntax) in
    let placed = c.in_ok-placed.placed.items in
    let templates = c.in_ok-templates.templates.items in
    let made = subst (λ p. (d : Design) → d.text ≡ text → ArePlaced d p → IsSmallDesign d → AreTemplated d p templates) c.deref.ensures.value c.in_ok-templates.ensures.templated in
    let counts = c.in_ok-counts.counts.items in
    let counted = subst (λ o. (d : Design) → ArePlaced d placed → AreTemplated d placed o → IsBounded d → AreCounts d counts) c.deref-3.ensures.value
    (subst (λ p. (d : Design) → ArePlaced d p → AreTemplated d p c.deref-3.result.now → IsBounded d → AreCounts d counts) c.deref-2.ensures.value c.in_ok-counts.ensures.counts) in
    let found = subst (λ all. (d : Design) → AreCounts d all → IsFirstAt d (IsDrivenTwice d) c.in-Some.number) c.deref-4.ensures.value c.in-Some.ensures.some in
    let low = few c.laws_of_designs.ensures text c.args.top lt c.requires.finite placed c.in_ok-placed.ensures.placed templates made counts counted c.in-Some.number found in
    omega (arith, low)

pub bit_name-requires : goal.bit_name-requires
bit_name-requires c =
    let text = map syntax c.args.checked.now in
    let lt : c.args.top < length text = omega (arith, c.requires.top, length-map c.args.checked.now syntax) in
    let placed = c.in_ok-placed.placed.items in
    let templates = c.in_ok-templates.templates.items in
    let made = subst (λ p. (d : Design) → d.text ≡ text → ArePlaced d p → IsSmallDesign d → AreTemplated d p templates) c.deref.ensures.value c.in_ok-templates.ensures.templated in
    let counts = c.in_ok-counts.counts.items in
    let counted = subst (λ o. (d : Design) → ArePlaced d placed → AreTemplated d placed o → IsBounded d → AreCounts d counts) c.deref-3.ensures.value
    (subst (λ p. (d : Design) → ArePlaced d p → AreTemplated d p c.deref-3.result.now → IsBounded d → AreCounts d counts) c.deref-2.ensures.value c.in_ok-counts.ensures.counts) in
    let found = subst (λ all. (d : Design) → AreCounts d all → IsFirstAt d (IsDrivenTwice d) c.in-Some.number) c.deref-4.ensures.value c.in-Some.ensures.some in
    record { design = for_name c.laws_of_designs.ensures text c.args.top lt c.requires.finite placed c.in_ok-placed.ensures.placed templates made counts counted c.in-Some.number found c.deref-in-Some.result.now c.deref-in-Some-2.result.now c.deref-in-Some.ensures.value c.deref-in-Some-2.ensures.value }

pub returns-in-Some-clause-fault : goal.returns-in-Some-clause-fault
returns-in-Some-clause-fault c =
    let text = map syntax c.args.checked.now in
    let lt : c.args.top < length text = omega (arith, c.requires.top, length-map c.args.checked.now syntax) in
    let placed = c.in_ok-placed.placed.items in
    let templates = c.in_ok-templates.templates.items in
    let made = subst (λ p. (d : Design) → d.text ≡ text → ArePlaced d p → IsSmallDesign d → AreTemplated d p templates) c.deref.ensures.value c.in_ok-templates.ensures.templated in
    let counts = c.in_ok-counts.counts.items in
    let counted = subst (λ o. (d : Design) → ArePlaced d placed → AreTemplated d placed o → IsBounded d → AreCounts d counts) c.deref-3.ensures.value
    (subst (λ p. (d : Design) → ArePlaced d p → AreTemplated d p c.deref-3.result.now → IsBounded d → AreCounts d counts) c.deref-2.ensures.value c.in_ok-counts.ensures.counts) in
    let found = subst (λ all. (d : Design) → AreCounts d all → IsFirstAt d (IsDrivenTwice d) c.in-Some.number) c.deref-4.ensures.value c.in-Some.ensures.some in
    let named = subst (λ o. (d : Design) → d.text ≡ text → ArePlaced d placed → AreTemplated d placed o → (b : Bit) → slice_get (net_order d) c.in-Some.number ≡ Some b → c.in_ok-bit_name.field-0 ≡ bit_text d b) c.deref-in-Some-2.ensures.value
    (subst (λ p. (d : Design) → d.text ≡ text → ArePlaced d p → AreTemplated d p c.deref-in-Some-2.result.now → (b : Bit) → slice_get (net_order d) c.in-Some.number ≡ Some b → c.in_ok-bit_name.field-0 ≡ bit_text d b) c.deref-in-Some.ensures.value c.in_ok-bit_name.ensures.name) in
    inr (twice c.laws_of_designs.ensures text c.args.top lt c.requires.finite placed c.in_ok-placed.ensures.placed templates made counts counted c.in-Some.number found c.in_ok-bit_name.field-0 named)

pub bit_count-requires : goal.bit_count-requires
bit_count-requires c =
    let text = map syntax c.args.checked.now in
    let lt : c.args.top < length text = omega (arith, c.requires.top, length-map c.args.checked.now syntax) in
    let placed = c.in_ok-placed.placed.items in
    let templates = c.in_ok-templates.templates.items in
    let made = subst (λ p. (d : Design) → d.text ≡ text → ArePlaced d p → IsSmallDesign d → AreTemplated d p templates) c.deref.ensures.value c.in_ok-templates.ensures.templated in
    record { design = for_bits c.laws_of_designs.ensures text c.args.top lt c.requires.finite placed c.in_ok-placed.ensures.placed templates made c.deref-7.result.now c.deref-8.result.now c.deref-7.ensures.value c.deref-8.ensures.value }

pub stored_bits-requires : goal.stored_bits-requires
stored_bits-requires c =
    let text = map syntax c.args.checked.now in
    let lt : c.args.top < length text = omega (arith, c.requires.top, length-map c.args.checked.now syntax) in
    let placed = c.in_ok-placed.placed.items in
    let templates = c.in_ok-templates.templates.items in
    let made = subst (λ p. (d : Design) → d.text ≡ text → ArePlaced d p → IsSmallDesign d → AreTemplated d p templates) c.deref.ensures.value c.in_ok-templates.ensures.templated in
    let long = subst (λ o. (d : Design) → ArePlaced d placed → AreTemplated d placed o → c.bit_count.result ≡ length (net_order d)) c.deref-8.ensures.value
    (subst (λ p. (d : Design) → ArePlaced d p → AreTemplated d p c.deref-8.result.now → c.bit_count.result ≡ length (net_order d)) c.deref-7.ensures.value c.bit_count.ensures.bits) in
    record { design = for_registers c.laws_of_designs.ensures text c.args.top lt c.requires.finite placed c.in_ok-placed.ensures.placed templates made c.deref-5.result.now c.deref-6.result.now c.deref-5.ensures.value c.deref-6.ensures.value c.bit_count.result long }

pub returns-clause-elaborated : goal.returns-clause-elaborated
returns-clause-elaborated c =
    let text = map syntax c.args.checked.now in
    let lt : c.args.top < length text = omega (arith, c.requires.top, length-map c.args.checked.now syntax) in
    let placed = c.in_ok-placed.placed.items in
    let templates = c.in_ok-templates.templates.items in
    let made = subst (λ p. (d : Design) → d.text ≡ text → ArePlaced d p → IsSmallDesign d → AreTemplated d p templates) c.deref.ensures.value c.in_ok-templates.ensures.templated in
    let counts = c.in_ok-counts.counts.items in
    let counted = subst (λ o. (d : Design) → ArePlaced d placed → AreTemplated d placed o → IsBounded d → AreCounts d counts) c.deref-3.ensures.value
    (subst (λ p. (d : Design) → ArePlaced d p → AreTemplated d p c.deref-3.result.now → IsBounded d → AreCounts d counts) c.deref-2.ensures.value c.in_ok-counts.ensures.counts) in
    let long = subst (λ o. (d : Design) → ArePlaced d placed → AreTemplated d placed o → c.bit_count.result ≡ length (net_order d)) c.deref-8.ensures.value
    (subst (λ p. (d : Design) → ArePlaced d p → AreTemplated d p c.deref-8.result.now → c.bit_count.result ≡ length (net_order d)) c.deref-7.ensures.value c.bit_count.ensures.bits) in
    let registers = subst (λ o. (d : Design) → ArePlaced d placed → AreTemplated d placed o → IsBounded d → c.bit_count.result ≡ length (net_order d) → AreStored d c.in_ok-stored.stored.items) c.deref-6.ensures.value
    (subst (λ p. (d : Design) → ArePlaced d p → AreTemplated d p c.deref-6.result.now → IsBounded d → c.bit_count.result ≡ length (net_order d) → AreStored d c.in_ok-stored.stored.items) c.deref-5.ensures.value c.in_ok-stored.ensures.stored) in
    let once = subst (λ all. (d : Design) → IsBounded d → AreCounts d all → AreDrivenOnce d) c.deref-4.ensures.value (subst (λ o. IfNone o ((d : Design) → IsBounded d → AreCounts d c.deref-4.result.now → AreDrivenOnce d)) c.in_default.is c.first_driven_twice.ensures.none) in
    elaborated c.laws_of_designs.ensures text c.args.top lt c.requires.finite placed c.in_ok-placed.ensures.placed templates made counts counted c.in_ok-stored.stored.items once c.bit_count.result long registers
