-- What a flat netlist that implements a sound design says of it: its texts, its registers with their clocks, its boxes, and how many
-- pins there are.
use Rattle.std.proofs.Common.{◌≡◌, ◌⊎◌, ℕ, ◌+◌, List, [], ◌∷◌, map, length, Contains, Option, Some, None, refl, sym, ap, ap₂, true≢false, ◌∙◌, subst, arith}
use Rattle.std.specs.Prelude.{IsSome, sum_by, slice_get}
use Rattle.std.specs.List.{AllZip}
use Rattle.std.specs.Option.{option_and_then}
use Rattle.std.proofs.lemmas.List.{length-map}
use Rattle.std.proofs.lemmas.List.Sorted.{Contains-permutation, IsPermutation-sym, sum_by-IsPermutation}
use Rattle.std.proofs.lemmas.List.Sums.{sum_by-cons}
use Rattle.bb_bits.specs.Closures.{IsFirst, Leads}
use Rattle.bb_net.specs.CutPoints as cut
use Rattle.bb_net.specs.CutPoints.{clock_text}
use Rattle.bb_net.specs.Flats.{FlatNet}
use Rattle.bb_net.specs.Netlists.{Pins}
use Rattle.bb_net.specs.Pairs.{BoxTexts, NamesPins, pin_count}
use Rattle.bb_net.specs.declared.flat.Reg.{Reg}
use Rattle.bb_design.specs.Inside.Allowed.{IsAllowed}
use Rattle.bb_design.specs.Hierarchy.{Design, Scope, boxes}
use Rattle.bb_design.specs.NetBits.{Bit, input_bits, output_bits, top_inputs}
use Rattle.bb_design.specs.Reading.{copied_bits}
use Rattle.bb_design.specs.Refusals.{TwoDrivers, register_texts}
use Rattle.bb_design.specs.Registers.{RegisterBit, registers, cut_bits}
use Rattle.bb_design.specs.Texts.{bit_text, pin_text}
use Rattle.bb_implements.specs.Laws.BoxOrders.{MayBeTakenNext, IsBoxOrder, ImplementingNetsHaveBoxOrders}
use Rattle.bb_implements.specs.Laws.NamingLaws.{FollowedInputsAreOne, ImplementingNetsAreNamed}
use Rattle.bb_implements.specs.Implements.{Implements, IsRegister, IsClockInput, box_texts}
use Rattle.bb_match.specs.Refusals as net
use Rattle.bb_equiv.specs.DesignFit.{DependsOnNone, HasClock, HasNoInputClock, IsClockedBy, design_input_and_pin_count}
use Rattle.bb_lemmas.proofs.Firsts.{first_one, first_there}
use Rattle.bb_lemmas.proofs.Members.{contains_here, none_in_nil}
use Rattle.bb_lemmas.proofs.Places.{got-map, there_at, head_same}
use Rattle.bb_equiv.proofs.FirstAcross.{first_as}

one_clock : (b c : Bit) → b ∷ [] ≡ c ∷ [] → b ≡ c
one_clock b c e = head_same b c [] [] e

-- pins of boxes are as many as their texts
abbrev named_pins : BoxTexts → ℕ
named_pins t = length t.ins + length t.outs

abbrev net_pins : Pins → ℕ
net_pins pins = length pins.ins + length pins.outs

abbrev scope_pins : Scope → ℕ
scope_pins s = length (input_bits s) + length (output_bits s)

texts_count : (ts : List BoxTexts) (ps : List Pins) → AllZip NamesPins ts ps → sum_by net_pins ps ≡ sum_by named_pins ts
texts_count [] [] zipped = refl
texts_count [] (p ∷ ps) zipped = absurd zipped
texts_count (t ∷ ts) [] zipped = absurd zipped
texts_count (t ∷ ts) (p ∷ ps) zipped =
    let rest = texts_count ts ps zipped.1 in
    omega (arith, sum_by-cons net_pins p ps, sum_by-cons named_pins t ts, rest, zipped.0.ins, zipped.0.outs)

module _ (have_orders : ImplementingNetsHaveBoxOrders) (have_texts : ImplementingNetsAreNamed) (one_input : FollowedInputsAreOne) where
  module _ (d : Design) (f : FlatNet) (allowed : IsAllowed d) (occurs : Implements d f) where
    -- the order of its boxes

    abbrev order : List Scope
    order = (have_orders d f allowed occurs).0

    in_order : IsBoxOrder d order
    in_order = (have_orders d f allowed occurs).1

    box_list : f.boxes ≡ map (box_texts d) order
    box_list = (have_orders d f allowed occurs).2

    -- texts of registers

    texts_from : (rs : List RegisterBit) (gs : List Reg) → AllZip (IsRegister d) rs gs → map (λ (g : Reg). g.text) gs ≡ map (λ (r : RegisterBit). bit_text d r.bit) rs
    texts_from [] [] zipped = refl
    texts_from [] (g ∷ gs) zipped = absurd zipped
    texts_from (r ∷ rs) [] zipped = absurd zipped
    texts_from (r ∷ rs) (g ∷ gs) zipped = let head = zipped.0.text in let rest = texts_from rs gs zipped.1 in λ k. head k ∷ rest k

    pub reg_texts : cut.state_texts f ≡ register_texts d
    reg_texts = texts_from (registers d) f.regs occurs.regs

    -- clocks

    -- the input that is the clock of a register that has one
    pub clocked_from : (r : RegisterBit) (g : Reg) → IsRegister d r g → IsSome g.clock → (c : Bit) × IsClockedBy d r c × (clock_text f g ≡ Some (bit_text d c))
    clocked_from r g is some = by g.clock refl some is.clock.2
      where
        by : (o : Option ℕ) → g.clock ≡ o → IsSome o → IsClockInput d is.clock.0 o → (c : Bit) × IsClockedBy d r c × (clock_text f g ≡ Some (bit_text d c))
        by None same none clock = absurd (true≢false (sym none))
        by (Some k) same there (c, at, follows) = (
          c,
          record { clock = is.clock.0; is = is.clock.1; top = there_at (top_inputs d) k c at; comes = follows },
          ap (option_and_then (slice_get f.ins)) same ∙ ap (λ ins. slice_get ins k) occurs.ins ∙ got-map (bit_text d) (top_inputs d) k c at,
        )

    pub has_clock : (r : RegisterBit) (g : Reg) → IsRegister d r g → IsSome g.clock → HasClock d r
    has_clock r g is some = let c = clocked_from r g is some in (c.0, c.1)

    pub some_clock : (r : RegisterBit) (g : Reg) → IsRegister d r g → HasClock d r → IsSome g.clock
    some_clock r g is (c, by_it) = by g.clock is.clock.2
      where
        by : (o : Option ℕ) → IsClockInput d is.clock.0 o → IsSome o
        by None clock =
            let same : by_it.clock ≡ is.clock.0 = one_clock by_it.clock is.clock.0 (sym by_it.is ∙ is.clock.1) in
            absurd (clock c by_it.top (subst (λ b. (b ≡ c) ⊎ Leads (copied_bits d) b c) same by_it.comes))
        by (Some k) clock = refl

    pub no_clock : (r : RegisterBit) (g : Reg) → IsRegister d r g → HasNoInputClock d r → g.clock ≡ None
    no_clock r g is none = by g.clock refl
      where
        by : (o : Option ℕ) → g.clock ≡ o → g.clock ≡ None
        by None same = same
        by (Some k) same = absurd (none (has_clock r g is (subst IsSome (sym same) refl)))

    pub clockless : (r : RegisterBit) (g : Reg) → IsRegister d r g → g.clock ≡ None → HasNoInputClock d r
    clockless r g is none has = true≢false (sym (subst IsSome none (some_clock r g is has)))

    -- a register bit has one clock
    pub clock_one : (r : RegisterBit) (b c : Bit) → IsClockedBy d r b → IsClockedBy d r c → b ≡ c
    clock_one r b c first second =
        let same : first.clock ≡ second.clock = one_clock first.clock second.clock (sym first.is ∙ second.is) in
        one_input d (allowed.sound TwoDrivers) second.clock b c first.top second.top (subst (λ x. (x ≡ b) ⊎ Leads (copied_bits d) x b) same first.comes) second.comes

    -- boxes

    first_order : (s : Scope) (rest : List Scope) → order ≡ s ∷ rest → IsFirst (DependsOnNone d) (boxes d) s
    first_order s rest occur =
        first_as (MayBeTakenNext d []) (DependsOnNone d) (λ x may t has on. none_in_nil t (may.ready t has on))
        (λ x none. record { new = none_in_nil x; ready = λ t has on. absurd (none t has on) }) (boxes d) s (in_order.next [] s rest occur)

    pub boxless : f.boxes ≡ [] → boxes d ≡ []
    boxless none = by (boxes d) refl
      where
        empty : (l : List Scope) → map (box_texts d) l ≡ [] → l ≡ []
        empty [] e = refl
        empty (s ∷ l) e = cc e

        by : (all : List Scope) → boxes d ≡ all → boxes d ≡ []
        by [] same = same
        by (s ∷ all) same =
            let there = Contains-permutation (boxes d) order s (IsPermutation-sym order (boxes d) in_order.all) (subst (λ l. Contains l s) (sym same) (contains_here s all)) in
            absurd (none_in_nil s (subst (λ l. Contains l s) (empty order (sym box_list ∙ none)) there))

    pub no_boxes : boxes d ≡ [] → f.boxes ≡ []
    no_boxes none = box_list ∙ by order refl
      where
        by : (all : List Scope) → order ≡ all → map (box_texts d) all ≡ []
        by [] same = refl
        by (s ∷ rest) same = absurd (none_in_nil s (subst (λ l. Contains l s) none (first_there (DependsOnNone d) (boxes d) s (first_order s rest same))))

    pub first_box : (box : BoxTexts) (rest : List BoxTexts) → f.boxes ≡ box ∷ rest → (s : Scope) × IsFirst (DependsOnNone d) (boxes d) s × (box ≡ box_texts d s)
    first_box box rest occur = by order refl (sym box_list ∙ occur)
      where
        by : (all : List Scope) → order ≡ all → map (box_texts d) all ≡ box ∷ rest → (s : Scope) × IsFirst (DependsOnNone d) (boxes d) s × (box ≡ box_texts d s)
        by [] same texts = cc texts
        by (s ∷ more) same texts = (s, first_order s more same, sym (head_same (box_texts d s) box (map (box_texts d) more) rest texts))

    pub box_first : (s : Scope) → IsFirst (DependsOnNone d) (boxes d) s → (rest : List BoxTexts) × (f.boxes ≡ box_texts d s ∷ rest)
    box_first s first = by order refl
      where
        by : (all : List Scope) → order ≡ all → (rest : List BoxTexts) × (f.boxes ≡ box_texts d s ∷ rest)
        by [] same =
            let there = Contains-permutation (boxes d) order s (IsPermutation-sym order (boxes d) in_order.all) (first_there (DependsOnNone d) (boxes d) s first) in
            absurd (none_in_nil s (subst (λ l. Contains l s) same there))
        by (t ∷ more) same =
            let one : t ≡ s = first_one (DependsOnNone d) (boxes d) t s (first_order t more same) first in
            (map (box_texts d) more, box_list ∙ ap (map (box_texts d)) same ∙ ap (λ u. box_texts d u ∷ map (box_texts d) more) one)

    -- how many inputs and pins there are

    order_pins : (l : List Scope) → sum_by named_pins (map (box_texts d) l) ≡ sum_by scope_pins l
    order_pins [] = refl
    order_pins (s ∷ l) =
        let rest = order_pins l in
        omega (arith, sum_by-cons named_pins (box_texts d s) (map (box_texts d) l), sum_by-cons scope_pins s l, rest, length-map (input_bits s) (pin_text d), length-map (output_bits s) (pin_text d))

    pub pins_count : net.input_and_pin_count f ≡ design_input_and_pin_count d
    pins_count =
        let inputs : f.net.inputs ≡ length (cut_bits d) = occurs.ordered.inputs ∙ occurs.listed.inputs in
        let texts : pin_count f.net.boxes ≡ sum_by named_pins f.boxes = texts_count f.boxes f.net.boxes (have_texts d f allowed occurs).boxes in
        let order_sum : sum_by named_pins f.boxes ≡ sum_by scope_pins order = ap (sum_by named_pins) box_list ∙ order_pins order in
        let all : sum_by scope_pins (boxes d) ≡ sum_by scope_pins order = sum_by-IsPermutation scope_pins order (boxes d) in_order.all in
        ap₂ ◌+◌ inputs (texts ∙ order_sum ∙ sym all)
