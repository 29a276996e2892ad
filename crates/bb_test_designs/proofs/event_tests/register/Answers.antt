use Rattle.std.proofs.Common.{◌≡◌, ◌≢◌, ℕ, zero, suc, ◌<◌, ◌≤◌, List, [], ◌∷◌, ◌++◌, AllPairs, Some, refl, sym, ap, ◌∙◌, subst, arith}
use Rattle.std.specs.Prelude.{IfSome, slice_index}
use Rattle.std.proofs.lemmas.List.Elements.{All-cons, All-nil}
use Rattle.bb_bits.specs.Names.{IsPrintable}
use Rattle.bb_net.specs.declared.cell.Cell.TheVariants.{Mux}
use Rattle.bb_net.specs.declared.flat.Reg.{Reg}
use Rattle.bb_net.specs.Flats.{IsFlat}
use Rattle.bb_net.specs.Netlists.{Netlist, IsNetlist, first_cells, with_cell, with_out}
use Rattle.bb_net.specs.Pairs.{BoxTexts}
use Rattle.bb_test_designs.proofs.event_tests.register.Goals as goal

-- what the test builds
abbrev built : ℕ → Netlist
built next = with_out (with_out (with_cell (record { inputs = 4; cells = first_cells 4; boxes = []; outs = [] }) (Mux 3 4 5)) 5) next

abbrev ports : List (List ℕ)
ports = (99 ∷ []) ∷ (101 ∷ []) ∷ (100 ∷ []) ∷ []

abbrev state : List (List ℕ)
state = (113 ∷ []) ∷ []

ports_apart : AllPairs ◌≢◌ ports
ports_apart zero zero d less within = absurd (omega (arith, less))
ports_apart zero (suc zero) d less within = λ e. omega (arith, ap (λ (l : List ℕ). slice_index l 0) e)
ports_apart zero (suc (suc zero)) d less within = λ e. omega (arith, ap (λ (l : List ℕ). slice_index l 0) e)
ports_apart (suc zero) (suc (suc zero)) d less within = λ e. omega (arith, ap (λ (l : List ℕ). slice_index l 0) e)
ports_apart (suc i) zero d less within = absurd (omega (arith, less))
ports_apart (suc i) (suc zero) d less within = absurd (omega (arith, less))
ports_apart (suc (suc i)) (suc (suc zero)) d less within = absurd (omega (arith, less))
ports_apart i (suc (suc (suc j))) d less within = absurd (omega (arith, within))

one_apart : {A : Type 0} (x : A) → AllPairs ◌≢◌ (x ∷ [])
one_apart x i j d less within = absurd (omega (arith, less, within))

printable : (b : ℕ) → 33 ≤ b → b ≤ 126 → IsPrintable (b ∷ [])
printable b low high = (omega arith, ((low, high), tt))

flat : (next : ℕ) → IsNetlist (built next) → (r : Reg) → r.text ≡ 113 ∷ [] → r.clock ≡ Some 0 → IsFlat (record { net = built next; ins = ports; regs = r ∷ []; outs = state; boxes = [] })
flat next kept r text clock = record {
  net = kept;
  named = record { inputs = refl; outputs = refl; boxes = tt };
  apart = record { ins = ports_apart; regs = one_apart r.text; outs = one_apart (113 ∷ []); boxes = λ i j d less within. absurd (omega (arith, within)) };
  printable = record {
    ins = All-cons IsPrintable (99 ∷ []) ((101 ∷ []) ∷ (100 ∷ []) ∷ []) (printable 99 (omega arith) (omega arith))
        (All-cons IsPrintable (101 ∷ []) ((100 ∷ []) ∷ []) (printable 101 (omega arith) (omega arith)) (All-cons IsPrintable (100 ∷ []) [] (printable 100 (omega arith) (omega arith)) (All-nil IsPrintable)));
    regs = All-cons (λ (r : Reg). IsPrintable r.text) r [] (subst IsPrintable (sym text) (printable 113 (omega arith) (omega arith))) (All-nil (λ (r : Reg). IsPrintable r.text));
    outs = All-cons IsPrintable (113 ∷ []) [] (printable 113 (omega arith) (omega arith)) (All-nil IsPrintable);
    boxes = All-nil (λ (b : BoxTexts). IsPrintable b.path);
    modules = All-nil (λ (b : BoxTexts). IsPrintable b.module);
  };
  modules = λ a b in_a in_b same. absurd (omega (arith, in_a.1));
  small = record { cells = omega arith; outs = omega arith; boxes = omega arith };
  clocks = All-cons (λ (r : Reg). IfSome r.clock (λ k. k < 3)) r [] (subst (λ o. IfSome o (λ k. k < 3)) (sym clock) (omega arith)) (All-nil (λ (r : Reg). IfSome r.clock (λ k. k < 3)));
}

flat_so : (net : Netlist) (ins outs : List (List ℕ)) (regs : List Reg) (boxes : List BoxTexts) (next : ℕ) (r : Reg) → IsNetlist net → net ≡ built next → ins ≡ ports → regs ≡ r ∷ [] → outs ≡ state → boxes ≡ [] → r.text ≡ 113 ∷ [] → r.clock ≡ Some 0
    → IsFlat (record { net = net; ins = ins; regs = regs; outs = outs; boxes = boxes })
flat_so net ins outs regs boxes next r kept is a b c e text clock =
    subst (λ (n : Netlist). IsFlat (record { net = n; ins = ins; regs = regs; outs = outs; boxes = boxes })) (sym is)
    (subst (λ (l : List (List ℕ)). IsFlat (record { net = built next; ins = l; regs = regs; outs = outs; boxes = boxes })) (sym a)
    (subst (λ (l : List Reg). IsFlat (record { net = built next; ins = ports; regs = l; outs = outs; boxes = boxes })) (sym b)
    (subst (λ (l : List (List ℕ)). IsFlat (record { net = built next; ins = ports; regs = r ∷ []; outs = l; boxes = boxes })) (sym c)
    (subst (λ (l : List BoxTexts). IsFlat (record { net = built next; ins = ports; regs = r ∷ []; outs = state; boxes = l })) (sym e)
    (flat next (subst IsNetlist is kept) r text clock)))))

pub of-requires-2 : goal.of-requires-2
of-requires-2 c =
    let is : c.add_out-2.new.self ≡ built c.in_ok-next.next =
    c.in_ok-add_out-2.ensures.ok ∙ ap (λ (net : Netlist). with_out net c.in_ok-next.next) (c.in_ok-add_out.ensures.ok ∙ ap (λ (net : Netlist). with_out net 5) (c.in_ok-next.ensures.ok ∙ ap (λ (net : Netlist). with_cell net (Mux 3 4 5)) c.in_ok-net.ensures.ok)) in
    let r : Reg = record { text = c.in_ok-of.field-0; falling = c.args.falling; clock = Some 0 } in
    let regs = c.in_ok-push.ensures.items ∙ ap (λ (l : List Reg). l ++ r ∷ []) c.new-regs.ensures.items in
    record { flat = flat_so c.add_out-2.new.self _ _ _ _ c.in_ok-next.next r c.keeps_its_order.ensures is c.in_ok-ins.ensures.names regs c.in_ok-outs.ensures.names c.new.ensures.items c.in_ok-of.ensures.ok refl }
