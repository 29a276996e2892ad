-- Flat netlists fit, and are refused, as the designs do for which they are, cause by cause.
use Rattle.std.proofs.Common.{◌≡◌, ◌≢◌, ◌⊎◌, ◌↔◌, ℕ, ◌<◌, List, Contains, Option, Some, sym, ap, ◌∙◌, subst, inl, inr, arith}
use Rattle.std.specs.Prelude.{◌≤◌, All, IfSome, IsSome}
use Rattle.std.specs.List.{AllZip}
use Rattle.std.proofs.lemmas.List.Elements.{All-contains}
use Rattle.bb_net.specs.CutPoints as cut
use Rattle.bb_net.specs.CutPoints.{clock_text}
use Rattle.bb_net.specs.Flats.{FlatNet, HaveClocks}
use Rattle.bb_net.specs.Pairs.{BoxTexts}
use Rattle.bb_net.specs.declared.flat.Reg.{Reg}
use Rattle.bb_design.specs.Inside.Allowed.{IsAllowed}
use Rattle.bb_design.specs.Hierarchy.{Design}
use Rattle.bb_design.specs.NetBits.{Bit}
use Rattle.bb_design.specs.Refusals.{register_texts}
use Rattle.bb_design.specs.Registers.{RegisterBit, registers}
use Rattle.bb_design.specs.Texts.{bit_text}
use Rattle.bb_implements.specs.Laws.BoxOrders.{ImplementingNetsHaveBoxOrders}
use Rattle.bb_implements.specs.Laws.NamingLaws.{FollowedInputsAreOne, ImplementingNetsAreNamed}
use Rattle.bb_implements.specs.Implements.{Implements, IsRegister, box_texts}
use Rattle.bb_match.specs.declared.fault.MatchFault.{MatchFault}
use Rattle.bb_match.specs.Refusals as net
use Rattle.bb_match.specs.Refusals.{PairCause, Box, Care, SpecInput, SpecOutput, ImpInput, ImpOutput, SpecRegister, ImpRegister, SpecClock, ImpClock, Clocks, Pins, AreAmong, IsFirstMissing, IsMissing, compared, pair_cause_rank}
use Rattle.bb_equiv.specs.DesignFit.{HasClock, HasNoInputClock, IsClockedBy, IsClockedDifferently, IsFirstRegister, IsReportedOfDesigns, IsAbsentInDesigns, DesignsFit, IsRefusalFor, design_input_and_pin_count}
use Rattle.bb_equiv.specs.Laws.DesignRefusals.{AreNetsFor, NetsAreTakenAsDesigns}
use Rattle.bb_lemmas.proofs.Members.{all_from}
use Rattle.bb_lemmas.proofs.Places.{some_same}
use Rattle.bb_equiv.proofs.DesignFacts.{reg_texts, clocked_from, has_clock, some_clock, no_clock, clockless, clock_one, boxless, no_boxes, first_box, box_first, pins_count}
use Rattle.bb_equiv.proofs.FirstAcross.{beside_left, beside_right, beside_with, first_beside, first_beside_back}

-- what is related stays so when equals implement it
across : {A : Type 0} (R : A → A → Type 0) (a b c e : A) → a ≡ b → c ≡ e → R a c → R b e
across R a b c e p q h = subst (λ x. R x e) p (subst (R a) q h)

abbrev Missing : List (List ℕ) → List ℕ → List (List ℕ) → Type 0
Missing texts n others = IsFirstMissing texts others n

module _ (have_orders : ImplementingNetsHaveBoxOrders) (have_texts : ImplementingNetsAreNamed) (one_input : FollowedInputsAreOne) where
  -- registers of one netlist

  module _ (d : Design) (f : FlatNet) (good : IsAllowed d) (s : Implements d f) where
    clocks_to : HaveClocks f → All (HasClock d) (registers d)
    clocks_to all = all_from (HasClock d) (registers d) (λ r has.
        let g = beside_left (IsRegister d) (registers d) f.regs s.regs r has in
        has_clock have_orders have_texts one_input d f good s r g.0 g.2 (All-contains (λ (r : Reg). IsSome r.clock) f.regs g.0 all g.1))

    clocks_back : All (HasClock d) (registers d) → HaveClocks f
    clocks_back all = all_from (λ (r : Reg). IsSome r.clock) f.regs (λ g has.
        let r = beside_right (IsRegister d) (registers d) f.regs s.regs g has in
        some_clock have_orders have_texts one_input d f good s r.0 g r.2 (All-contains (HasClock d) (registers d) r.0 all r.1))

    clockless_to : (n : List ℕ) → net.IsFirstWithoutClock f n → IsFirstRegister d (HasNoInputClock d) n
    clockless_to n (g, first, is) =
        let r = first_beside_back (IsRegister d) (HasNoInputClock d) net.HasNoClock (λ x y at none. no_clock have_orders have_texts one_input d f good s x y at none)
        (λ x y at none. clockless have_orders have_texts one_input d f good s x y at none) (registers d) f.regs s.regs g first in
        (r.0, r.2, is ∙ r.1.text)

    clockless_back : (n : List ℕ) → IsFirstRegister d (HasNoInputClock d) n → net.IsFirstWithoutClock f n
    clockless_back n (r, first, is) =
        let g = first_beside (IsRegister d) (HasNoInputClock d) net.HasNoClock (λ x y at none. no_clock have_orders have_texts one_input d f good s x y at none)
        (λ x y at none. clockless have_orders have_texts one_input d f good s x y at none) (registers d) f.regs s.regs r first in
        (g.0, g.2, is ∙ sym g.1.text)

    -- the text of the clock of a register
    clock_reported : (r : RegisterBit) (g : Reg) → IsRegister d r g → (c : Bit) → IsClockedBy d r c → clock_text f g ≡ Some (bit_text d c)
    clock_reported r g is c by_it =
        let there = clocked_from have_orders have_texts one_input d f good s r g is (some_clock have_orders have_texts one_input d f good s r g is (c, by_it)) in
        there.2 ∙ ap (λ b. Some (bit_text d b)) (clock_one have_orders have_texts one_input d f good s r there.0 c there.1 by_it)

  module _ (care : Option (List ℕ)) (spec imp : Design) (f g : FlatNet) (good : IsAllowed spec) (also : IsAllowed imp) (nets : AreNetsFor spec imp f g) where
    s : Implements spec f
    s = nets.spec_implements

    t : Implements imp g
    t = nets.imp_implements

    spec_regs : cut.state_texts f ≡ register_texts spec
    spec_regs = reg_texts have_orders have_texts one_input spec f good s

    imp_regs : cut.state_texts g ≡ register_texts imp
    imp_regs = reg_texts have_orders have_texts one_input imp g also t

    isomorphic_to : net.HaveSameClocks f g → IsAbsentInDesigns care spec imp Clocks
    isomorphic_to all r q has there same =
        let a = beside_left (IsRegister spec) (registers spec) f.regs s.regs r has in
        let b = beside_left (IsRegister imp) (registers imp) g.regs t.regs q there in
        let both = All-contains (net.HasSameClock f g) f.regs a.0 all a.1 b.0 b.1 (b.2.text ∙ same ∙ sym a.2.text) in
        record {
          edges = sym b.2.falling ∙ both.0 ∙ a.2.falling;
          clocks = λ x y first second. some_same (bit_text imp y) (bit_text spec x) (sym (clock_reported imp g also t q b.0 b.2 y second) ∙ both.1 ∙ clock_reported spec f good s r a.0 a.2 x first);
        }

    isomorphic_back : All (HasClock spec) (registers spec) → All (HasClock imp) (registers imp) → IsAbsentInDesigns care spec imp Clocks → net.HaveSameClocks f g
    isomorphic_back spec_have imp_have all = all_from (net.HasSameClock f g) f.regs (λ a has b there same.
        let r = beside_right (IsRegister spec) (registers spec) f.regs s.regs a has in
        let q = beside_right (IsRegister imp) (registers imp) g.regs t.regs b there in
        let both = all r.0 q.0 r.1 q.1 (sym q.2.text ∙ same ∙ r.2.text) in
        let x = All-contains (HasClock spec) (registers spec) r.0 spec_have r.1 in
        let y = All-contains (HasClock imp) (registers imp) q.0 imp_have q.1 in (
          q.2.falling ∙ both.edges ∙ sym r.2.falling,
          clock_reported imp g also t q.0 b q.2 y.0 y.1 ∙ ap Some (both.clocks x.0 y.0 x.1 y.1) ∙ sym (clock_reported spec f good s r.0 a r.2 x.0 x.1),
        ))

    abbrev Clocked : RegisterBit → Reg → Type 0
    Clocked x y = IsRegister spec x y × HasClock spec x

    apart_net : (x : RegisterBit) (y : Reg) → Clocked x y → IsClockedDifferently spec imp x → net.IsClockedApart f g y
    apart_net x y at (q, has, same, differ) =
        let b = beside_left (IsRegister imp) (registers imp) g.regs t.regs q has in
        (b.0, b.1, b.2.text ∙ same ∙ sym at.0.text, by b.0 b.2 differ)
      where
        by : (b : Reg) → IsRegister imp q b → (q.item.falling ≢ x.item.falling) ⊎ ((c e : Bit) × IsClockedBy spec x c × IsClockedBy imp q e × (bit_text imp e ≢ bit_text spec c)) → (b.falling ≢ y.falling) ⊎ (clock_text g b ≢ clock_text f y)
        by b is (inl ne) = inl (λ e. ne (sym is.falling ∙ e ∙ at.0.falling))
        by b is (inr (c, e, first, second, ne)) = inr (λ one. ne (some_same (bit_text imp e) (bit_text spec c) (sym (clock_reported imp g also t q b is e second) ∙ one ∙ clock_reported spec f good s x y at.0 c first)))

    apart_design : All (HasClock imp) (registers imp) → (x : RegisterBit) (y : Reg) → Clocked x y → net.IsClockedApart f g y → IsClockedDifferently spec imp x
    apart_design imp_have x y at (b, has, same, differ) =
        let q = beside_right (IsRegister imp) (registers imp) g.regs t.regs b has in
        (q.0, q.1, sym q.2.text ∙ same ∙ at.0.text, by q.0 q.2 (All-contains (HasClock imp) (registers imp) q.0 imp_have q.1) differ)
      where
        by : (q : RegisterBit) → IsRegister imp q b → HasClock imp q → (b.falling ≢ y.falling) ⊎ (clock_text g b ≢ clock_text f y)
            → (q.item.falling ≢ x.item.falling) ⊎ ((c e : Bit) × IsClockedBy spec x c × IsClockedBy imp q e × (bit_text imp e ≢ bit_text spec c))
        by q is clock (inl ne) = inl (λ e. ne (is.falling ∙ e ∙ sym at.0.falling))
        by q is clock (inr ne) =
            let c = at.1 in
            inr (c.0, clock.0, c.1, clock.1, λ one. ne (clock_reported imp g also t q b is clock.0 clock.1 ∙ ap Some one ∙ sym (clock_reported spec f good s x y at.0 c.0 c.1)))

    clocked : All (HasClock spec) (registers spec) → AllZip Clocked (registers spec) f.regs
    clocked have = beside_with (IsRegister spec) (HasClock spec) (registers spec) f.regs s.regs (λ x has. All-contains (HasClock spec) (registers spec) x have has)

    apart_to : All (HasClock spec) (registers spec) → All (HasClock imp) (registers imp) → (n : List ℕ) → net.IsFirstClockedApart f g n → IsFirstRegister spec (IsClockedDifferently spec imp) n
    apart_to spec_have imp_have n (y, first, is) =
        let r = first_beside_back Clocked (IsClockedDifferently spec imp) (net.IsClockedApart f g) apart_net (apart_design imp_have) (registers spec) f.regs (clocked spec_have) y first in
        (r.0, r.2, is ∙ r.1.0.text)

    apart_back : All (HasClock spec) (registers spec) → All (HasClock imp) (registers imp) → (n : List ℕ) → IsFirstRegister spec (IsClockedDifferently spec imp) n → net.IsFirstClockedApart f g n
    apart_back spec_have imp_have n (x, first, is) =
        let y = first_beside Clocked (IsClockedDifferently spec imp) (net.IsClockedApart f g) apart_net (apart_design imp_have) (registers spec) f.regs (clocked spec_have) x first in
        (y.0, y.2, is ∙ sym y.1.0.text)

    imp_pins : net.input_and_pin_count g ≡ design_input_and_pin_count imp
    imp_pins = pins_count have_orders have_texts one_input imp g also t

    absent_to : (cause : PairCause) → net.IsAbsent care f g cause → IsAbsentInDesigns care spec imp cause
    absent_to Box none = boxless have_orders have_texts one_input spec f good s none
    absent_to Care there = subst (λ outs. IfSome care (Contains outs)) s.outs there
    absent_to SpecInput among = across AreAmong _ _ _ _ s.ins t.ins among
    absent_to SpecOutput among = across AreAmong _ _ _ _ (ap (compared care) s.outs) t.outs among
    absent_to ImpInput among = across AreAmong _ _ _ _ t.ins s.ins among
    absent_to ImpOutput among = across AreAmong _ _ _ _ t.outs (ap (compared care) s.outs) among
    absent_to SpecRegister among = across AreAmong _ _ _ _ spec_regs imp_regs among
    absent_to ImpRegister among = across AreAmong _ _ _ _ imp_regs spec_regs among
    absent_to SpecClock all = clocks_to spec f good s all
    absent_to ImpClock all = clocks_to imp g also t all
    absent_to Clocks all = isomorphic_to all
    absent_to Pins few = subst (λ n. n ≤ net.most_pins) imp_pins few

    abbrev Earlier : PairCause → Type 0
    Earlier cause = (other : PairCause) → pair_cause_rank other < pair_cause_rank cause → IsAbsentInDesigns care spec imp other

    absent_back : (cause : PairCause) → Earlier cause → IsAbsentInDesigns care spec imp cause → net.IsAbsent care f g cause
    absent_back Box earlier none = no_boxes have_orders have_texts one_input spec f good s none
    absent_back Care earlier there = subst (λ outs. IfSome care (Contains outs)) (sym s.outs) there
    absent_back SpecInput earlier among = across AreAmong _ _ _ _ (sym s.ins) (sym t.ins) among
    absent_back SpecOutput earlier among = across AreAmong _ _ _ _ (ap (compared care) (sym s.outs)) (sym t.outs) among
    absent_back ImpInput earlier among = across AreAmong _ _ _ _ (sym t.ins) (sym s.ins) among
    absent_back ImpOutput earlier among = across AreAmong _ _ _ _ (sym t.outs) (ap (compared care) (sym s.outs)) among
    absent_back SpecRegister earlier among = across AreAmong _ _ _ _ (sym spec_regs) (sym imp_regs) among
    absent_back ImpRegister earlier among = across AreAmong _ _ _ _ (sym imp_regs) (sym spec_regs) among
    absent_back SpecClock earlier all = clocks_back spec f good s all
    absent_back ImpClock earlier all = clocks_back imp g also t all
    absent_back Clocks earlier all = isomorphic_back (earlier SpecClock (omega arith)) (earlier ImpClock (omega arith)) all
    absent_back Pins earlier few = subst (λ n. n ≤ net.most_pins) (sym imp_pins) few

    reported_to : (cause : PairCause) (n : List ℕ) → Earlier cause → net.IsReported care f g cause n → IsReportedOfDesigns care spec imp cause n
    reported_to Box n earlier (box, rest, occur, is) = let r = first_box have_orders have_texts one_input spec f good s box rest occur in (r.0, r.1, is ∙ ap (λ (b : BoxTexts). b.path) r.2)
    reported_to Care n earlier (requested, missing) = (requested, subst (λ outs. IsMissing outs n) s.outs missing)
    reported_to SpecInput n earlier reported = across (λ a b. Missing a n b) _ _ _ _ s.ins t.ins reported
    reported_to SpecOutput n earlier reported = across (λ a b. Missing a n b) _ _ _ _ (ap (compared care) s.outs) t.outs reported
    reported_to ImpInput n earlier reported = across (λ a b. Missing a n b) _ _ _ _ t.ins s.ins reported
    reported_to ImpOutput n earlier reported = across (λ a b. Missing a n b) _ _ _ _ t.outs (ap (compared care) s.outs) reported
    reported_to SpecRegister n earlier reported = across (λ a b. Missing a n b) _ _ _ _ spec_regs imp_regs reported
    reported_to ImpRegister n earlier reported = across (λ a b. Missing a n b) _ _ _ _ imp_regs spec_regs reported
    reported_to SpecClock n earlier reported = clockless_to spec f good s n reported
    reported_to ImpClock n earlier reported = clockless_to imp g also t n reported
    reported_to Clocks n earlier reported = apart_to (earlier SpecClock (omega arith)) (earlier ImpClock (omega arith)) n reported
    reported_to Pins n earlier reported = subst (λ n. net.most_pins < n) imp_pins reported

    reported_back : (cause : PairCause) (n : List ℕ) → Earlier cause → IsReportedOfDesigns care spec imp cause n → net.IsReported care f g cause n
    reported_back Box n earlier (scope, first, is) = let r = box_first have_orders have_texts one_input spec f good s scope first in (box_texts spec scope, r.0, r.1, is)
    reported_back Care n earlier (requested, missing) = (requested, subst (λ outs. IsMissing outs n) (sym s.outs) missing)
    reported_back SpecInput n earlier reported = across (λ a b. Missing a n b) _ _ _ _ (sym s.ins) (sym t.ins) reported
    reported_back SpecOutput n earlier reported = across (λ a b. Missing a n b) _ _ _ _ (ap (compared care) (sym s.outs)) (sym t.outs) reported
    reported_back ImpInput n earlier reported = across (λ a b. Missing a n b) _ _ _ _ (sym t.ins) (sym s.ins) reported
    reported_back ImpOutput n earlier reported = across (λ a b. Missing a n b) _ _ _ _ (sym t.outs) (ap (compared care) (sym s.outs)) reported
    reported_back SpecRegister n earlier reported = across (λ a b. Missing a n b) _ _ _ _ (sym spec_regs) (sym imp_regs) reported
    reported_back ImpRegister n earlier reported = across (λ a b. Missing a n b) _ _ _ _ (sym imp_regs) (sym spec_regs) reported
    reported_back SpecClock n earlier reported = clockless_back spec f good s n reported
    reported_back ImpClock n earlier reported = clockless_back imp g also t n reported
    reported_back Clocks n earlier reported = apart_back (earlier SpecClock (omega arith)) (earlier ImpClock (omega arith)) n reported
    reported_back Pins n earlier reported = subst (λ n. net.most_pins < n) (sym imp_pins) reported

    fit : net.Fit care f g ↔ DesignsFit care spec imp
    fit = (λ fits cause. absent_to cause (fits cause), λ fits cause. absent_back cause (λ other low. fits other) (fits cause))

    refused : (fault : MatchFault) → net.IsFirstPairRefusal care f g fault ↔ IsRefusalFor care spec imp fault
    refused fault = (
      λ r.
          let earlier : Earlier r.cause = λ other low. absent_to other (r.earlier other low) in
          record { cause = r.cause; name = r.name; is = r.is; reported = reported_to r.cause r.name earlier r.reported; earlier = earlier },
      λ r. record {
        cause = r.cause;
        name = r.name;
        is = r.is;
        reported = reported_back r.cause r.name r.earlier r.reported;
        earlier = λ other low. absent_back other (λ more lower. r.earlier more (omega (arith, low, lower))) (r.earlier other low);
      },
    )

  pub nets_are_taken_as_designs : NetsAreTakenAsDesigns
  nets_are_taken_as_designs care spec imp f g good also nets = record { fit = fit care spec imp f g good also nets; refused = refused care spec imp f g good also nets }
