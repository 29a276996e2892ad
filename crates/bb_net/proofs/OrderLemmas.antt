-- Laws of cells put in order: values are kept, and there is no closed walk.
use Rattle.std.proofs.Common.{◌≡◌, ℕ, ◌<◌, ◌≤◌, ◌⊎◌, zero, suc, Bool, not, List, [], ◌∷◌, length, map, get_or, refl, sym, ap, subst, ◌∙◌, inl, inr, arith}
use Rattle.std.specs.Prelude.{All, Contains, slice_index}
use Rattle.std.proofs.lemmas.List.{get_or-map, length-map}
use Rattle.std.proofs.lemmas.List.Elements.{All-contains}
use Rattle.bb_net.specs.declared.cell.Cell.{Cell}
use Rattle.bb_net.specs.declared.cell.Cell.TheVariants as cell
use Rattle.bb_net.specs.declared.loose.LooseCell.{LooseCell}
use Rattle.bb_net.specs.declared.loose.LooseCell.TheVariants.{Const, Input, Not, And, Or, Xor, Mux, BoxOut, Copy}
use Rattle.bb_net.specs.Netlists.{Netlist, Pins, cell_at, box_at, reads_of, IsNetlist}
use Rattle.bb_net.specs.Values.{bit_of, gate, value_of}
use Rattle.bb_net.specs.Loose.{LooseList, loose_at, operand_places, IsLoose, Reaches, IsOnClosedWalk, loose_gate, IsLooseValue}
use Rattle.bb_net.specs.Orders.{IsNoCopy, IsCopySource, IsMoved, IsOrderOf, renumbered, OrderKeepsValues, OrderHasNoWalk}
use Rattle.bb_net.proofs.BuildLemmas.{reads_before}
use Rattle.bb_net.proofs.ValueLaws.{value_exists_lem}

pub copy_or_kept : (c : LooseCell) → ((p : ℕ) × (c ≡ Copy p)) ⊎ IsNoCopy c
copy_or_kept (Copy p) = inl (p, refl)
copy_or_kept (Const b) = inr tt
copy_or_kept (Input i) = inr tt
copy_or_kept (Not a) = inr tt
copy_or_kept (And a b) = inr tt
copy_or_kept (Or a b) = inr tt
copy_or_kept (Xor a b) = inr tt
copy_or_kept (Mux a b c) = inr tt
copy_or_kept (BoxOut b p) = inr tt

-- the pins of the boxes are moved
abbrev PinsMoved : (ℕ → ℕ) → List ℕ → List Pins → List Pins → Type 0
PinsMoved to numbers old new = (b : ℕ) → b < length numbers → (box_at new b).ins ≡ map to (box_at old (slice_index numbers b)).ins

order_pins : (l : LooseList) (net : Netlist) (numbers : List ℕ) (o : IsOrderOf l net numbers) → PinsMoved o.to numbers l.boxes net.boxes
order_pins l net numbers o b h = ap (λ (pins : Pins). pins.ins) (o.boxes b (omega (arith, h, o.number_count))).1

-- a moved cell reads the moved places
reads_moved : (to : ℕ → ℕ) (numbers : List ℕ) (old new : List Pins) (c : LooseCell) (d : Cell) → PinsMoved to numbers old new → IsMoved to numbers c d → reads_of new d ≡ map to (operand_places old c)
reads_moved to numbers old new (Const b) d pins m = ap (reads_of new) m
reads_moved to numbers old new (Input i) d pins m = ap (reads_of new) m
reads_moved to numbers old new (Not a) d pins m = ap (reads_of new) m
reads_moved to numbers old new (And a b) d pins m = ap (reads_of new) m
reads_moved to numbers old new (Or a b) d pins m = ap (reads_of new) m
reads_moved to numbers old new (Xor a b) d pins m = ap (reads_of new) m
reads_moved to numbers old new (Mux i t e) d pins m = ap (reads_of new) m
reads_moved to numbers old new (BoxOut n p) d pins m = ap (reads_of new) m.3 ∙ pins m.0 m.1 ∙ ap (λ k. map to (box_at old k).ins) m.2
reads_moved to numbers old new (Copy p) d pins m = absurd m

all_moved : (P : ℕ → Type 0) (to : ℕ → ℕ) (xs : List ℕ) → All P (map to xs) → (a : ℕ) → Contains xs a → P (to a)
all_moved P to xs all a has =
    let at = all has.0 0 (omega (arith, has.1, length-map xs to)) in
    subst P (get_or-map to xs has.0 a 0 has.1 ∙ ap to has.2) at

-- what a kept cell reads precedes it in the netlist
kept_below : (l : LooseList) (net : Netlist) (numbers : List ℕ) (o : IsOrderOf l net numbers) → IsNetlist net → (k : ℕ) → k < length l.cells → IsNoCopy (loose_at l k) → (a : ℕ) → Contains (operand_places l.boxes (loose_at l k)) a → o.to a < o.to k
kept_below l net numbers o kept k h keep a has =
    let there = o.there k h in
    let before = reads_before net.inputs net.boxes (o.to k) (cell_at net.cells (o.to k)) (kept.ordered (o.to k) there) in
    let reads = reads_moved o.to numbers l.boxes net.boxes (loose_at l k) (cell_at net.cells (o.to k)) (order_pins l net numbers o) (o.moved k h keep) in
    all_moved (λ place. place < o.to k) o.to (operand_places l.boxes (loose_at l k)) (subst (All (λ place. place < o.to k)) reads before) a has

map_moved : (v w : ℕ → Bool) (to : ℕ → ℕ) (xs : List ℕ) → ((a : ℕ) → Contains xs a → v a ≡ w (to a)) → map v xs ≡ map w (map to xs)
map_moved v w to [] same = refl
map_moved v w to (x ∷ xs) same =
    let first = same x (0, omega arith, refl) in
    let rest = map_moved v w to xs (λ a has. same a (suc has.0, omega (arith, has.1), has.2)) in
    cc

-- a moved cell's bit is that of the cell, where its operands' bits are
gate_moved : (to : ℕ → ℕ) (numbers : List ℕ) (old new : List Pins) (x : List Bool) (box : ℕ → ℕ → List Bool → Bool) (v w : ℕ → Bool) (c : LooseCell) (d : Cell) → PinsMoved to numbers old new → IsMoved to numbers c d
    → ((a : ℕ) → Contains (operand_places old c) a → v a ≡ w (to a)) → loose_gate old x box v c ≡ gate new x (renumbered numbers box) w d
gate_moved to numbers old new x box v w (Const b) d pins m same = ap (gate new x (renumbered numbers box) w) (sym m)
gate_moved to numbers old new x box v w (Input i) d pins m same = ap (gate new x (renumbered numbers box) w) (sym m)
gate_moved to numbers old new x box v w (Not a) d pins m same = ap not (same a (0, omega arith, refl)) ∙ ap (gate new x (renumbered numbers box) w) (sym m)
gate_moved to numbers old new x box v w (And a b) d pins m same =
    let p = same a (0, omega arith, refl) in let q = same b (1, omega arith, refl) in
    let g : loose_gate old x box v (And a b) ≡ gate new x (renumbered numbers box) w (cell.And (to a) (to b)) = cc in g ∙ ap (gate new x (renumbered numbers box) w) (sym m)
gate_moved to numbers old new x box v w (Or a b) d pins m same =
    let p = same a (0, omega arith, refl) in let q = same b (1, omega arith, refl) in
    let g : loose_gate old x box v (Or a b) ≡ gate new x (renumbered numbers box) w (cell.Or (to a) (to b)) = cc in g ∙ ap (gate new x (renumbered numbers box) w) (sym m)
gate_moved to numbers old new x box v w (Xor a b) d pins m same =
    let p = same a (0, omega arith, refl) in let q = same b (1, omega arith, refl) in
    let g : loose_gate old x box v (Xor a b) ≡ gate new x (renumbered numbers box) w (cell.Xor (to a) (to b)) = cc in g ∙ ap (gate new x (renumbered numbers box) w) (sym m)
gate_moved to numbers old new x box v w (Mux i t e) d pins m same =
    let p = same i (0, omega arith, refl) in let q = same t (1, omega arith, refl) in let r = same e (2, omega arith, refl) in
    let g : loose_gate old x box v (Mux i t e) ≡ gate new x (renumbered numbers box) w (cell.Mux (to i) (to t) (to e)) = cc in g ∙ ap (gate new x (renumbered numbers box) w) (sym m)
gate_moved to numbers old new x box v w (BoxOut n p) d pins m same =
    let b = m.0 in
    let ins : map v (box_at old n).ins ≡ map w (box_at new b).ins = map_moved v w to (box_at old n).ins same ∙ ap (map w) (ap (λ k. map to (box_at old k).ins) (sym m.2) ∙ sym (pins b m.1)) in
    ap (box n p) ins ∙ ap (λ k. box k p (map w (box_at new b).ins)) (sym m.2) ∙ ap (gate new x (renumbered numbers box) w) (sym m.3)
gate_moved to numbers old new x box v w (Copy p) d pins m same = absurd m

-- the end of a chain of copies
record Ends (l : LooseList) (to : ℕ → ℕ) (k source : ℕ) : Type 0 where
  pub there : source < length l.cells
  pub kept : IsNoCopy (loose_at l source)
  pub same : to k ≡ to source

source_ends : (l : LooseList) (net : Netlist) (numbers : List ℕ) (o : IsOrderOf l net numbers) (n k source : ℕ) → k < length l.cells → IsCopySource n l k source → Ends l o.to k source
source_ends l net numbers o zero k source h s = record {
  there = subst (λ j. j < length l.cells) s.0 h;
  kept = subst (λ j. IsNoCopy (loose_at l j)) s.0 s.1;
  same = ap o.to s.0;
}
source_ends l net numbers o (suc n) k source h s =
    let rest = source_ends l net numbers o n s.0 source s.1 s.3 in
    record { there = rest.there; kept = rest.kept; same = o.copies k s.0 h s.2 ∙ rest.same }

source_bit : (l : LooseList) (x : List Bool) (box : ℕ → ℕ → List Bool → Bool) (bits : List Bool) → IsLooseValue l x box bits → (n k source : ℕ) → k < length l.cells → IsCopySource n l k source → bit_of bits k ≡ bit_of bits source
source_bit l x box bits value zero k source h s = ap (bit_of bits) s.0
source_bit l x box bits value (suc n) k source h s =
    value.each k h ∙ ap (loose_gate l.boxes x box (bit_of bits)) s.2 ∙ source_bit l x box bits value n s.0 source s.1 s.3

-- bits that meet the equations are the netlist's bits
bits_are_values : (l : LooseList) (net : Netlist) (numbers : List ℕ) → IsLoose l → IsNetlist net → (o : IsOrderOf l net numbers) → (x : List Bool) (box : ℕ → ℕ → List Bool → Bool) (bits : List Bool) → IsLooseValue l x box bits
    → (bound k : ℕ) → k < length l.cells → o.to k < bound → bit_of bits k ≡ bit_of (value_of net x (renumbered numbers box)) (o.to k)
bits_are_values l net numbers loose kept o x box bits value zero k h small = absurd (omega arith)
bits_are_values l net numbers loose kept o x box bits value (suc bound) k h small =
    let v = value_of net x (renumbered numbers box) in
    let chain = o.sources k h in
    let s = chain.1 in
    let end = source_ends l net numbers o chain.0 k s h chain.2 in
    let operand : (a : ℕ) → Contains (operand_places l.boxes (loose_at l s)) a → bit_of bits a ≡ bit_of v (o.to a) = λ a has.
    let below = kept_below l net numbers o kept s end.there end.kept a has in
    bits_are_values l net numbers loose kept o x box bits value bound a (All-contains (λ j. j < length l.cells) _ a (loose.there s end.there) has) (omega (arith, below, end.same, small)) in
    source_bit l x box bits value chain.0 k s h chain.2
    ∙ value.each s end.there
    ∙ gate_moved o.to numbers l.boxes net.boxes x box (bit_of bits) (bit_of v) (loose_at l s) (cell_at net.cells (o.to s)) (order_pins l net numbers o) (o.moved s end.there end.kept) operand
    ∙ sym ((value_exists_lem net x (renumbered numbers box) kept.ordered).each (o.to s) (o.there s end.there))
    ∙ ap (bit_of v) (sym end.same)

-- the netlist's bits meet the equations
values_are_bits : (l : LooseList) (net : Netlist) (numbers : List ℕ) → IsLoose l → IsNetlist net → (o : IsOrderOf l net numbers) → (x : List Bool) (box : ℕ → ℕ → List Bool → Bool) (bits : List Bool)
    → ((k : ℕ) → k < length l.cells → bit_of bits k ≡ bit_of (value_of net x (renumbered numbers box)) (o.to k))
    → (k : ℕ) → k < length l.cells → bit_of bits k ≡ loose_gate l.boxes x box (bit_of bits) (loose_at l k)
values_are_bits l net numbers loose kept o x box bits same k h =
    let v = value_of net x (renumbered numbers box) in
    let operand : (a : ℕ) → Contains (operand_places l.boxes (loose_at l k)) a → bit_of bits a ≡ bit_of v (o.to a) = λ a has. same a (All-contains (λ j. j < length l.cells) _ a (loose.there k h) has) in
    elim (copy_or_kept (loose_at l k)) [
      | inl copy ↦
          let p = copy.0 in
          let below : p < length l.cells = All-contains (λ j. j < length l.cells) _ p (loose.there k h) (subst (λ c. Contains (operand_places l.boxes c) p) (sym copy.1) (0, omega arith, refl)) in
          same k h ∙ ap (bit_of v) (o.copies k p h copy.1) ∙ sym (same p below) ∙ ap (loose_gate l.boxes x box (bit_of bits)) (sym copy.1)
      | inr keep ↦
          same k h
          ∙ (value_exists_lem net x (renumbered numbers box) kept.ordered).each (o.to k) (o.there k h)
          ∙ sym (gate_moved o.to numbers l.boxes net.boxes x box (bit_of bits) (bit_of v) (loose_at l k) (cell_at net.cells (o.to k)) (order_pins l net numbers o) (o.moved k h keep) operand)
    ]

pub order_keeps_values_lem : OrderKeepsValues
order_keeps_values_lem = λ l net numbers loose kept o x box bits len. (
  λ value k h. bits_are_values l net numbers loose kept o x box bits value (suc (o.to k)) k h (omega arith),
  λ same. record { whole = len; each = values_are_bits l net numbers loose kept o x box bits same },
)

one_operand : (p m : ℕ) → Contains (p ∷ []) m → p ≡ m
one_operand p m has = at has.0 has.1 has.2
  where
    at : (k : ℕ) → k < 1 → get_or (p ∷ []) k m ≡ m → p ≡ m
    at zero h e = e
    at (suc k) h e = absurd (omega arith)

-- a step of dependence does not lead to a later place of the netlist
step_down : (l : LooseList) (net : Netlist) (numbers : List ℕ) (o : IsOrderOf l net numbers) → IsNetlist net → (k m : ℕ) → k < length l.cells → Contains (operand_places l.boxes (loose_at l k)) m → o.to m ≤ o.to k
step_down l net numbers o kept k m h has = elim (copy_or_kept (loose_at l k)) [
  | inl copy ↦
      let is = one_operand copy.0 m (subst (λ c. Contains (operand_places l.boxes c) m) copy.1 has) in
      omega (arith, o.copies k copy.0 h copy.1, ap o.to is)
  | inr keep ↦ omega (arith, kept_below l net numbers o kept k h keep m has)
]

reaches_down : (l : LooseList) (net : Netlist) (numbers : List ℕ) (o : IsOrderOf l net numbers) → IsLoose l → IsNetlist net → (n k m : ℕ) → k < length l.cells → Reaches n l k m → o.to m ≤ o.to k
reaches_down l net numbers o loose kept zero k m h e = omega (arith, ap o.to e)
reaches_down l net numbers o loose kept (suc n) k m h walk =
    let there = All-contains (λ j. j < length l.cells) _ walk.0 (loose.there k h) walk.1 in
    omega (arith, step_down l net numbers o kept k walk.0 h walk.1, reaches_down l net numbers o loose kept n walk.0 m there walk.2)

Reaches-step : (n : ℕ) (l : LooseList) (from to next : ℕ) → Reaches n l from to → Contains (operand_places l.boxes (loose_at l to)) next → Reaches (suc n) l from next
Reaches-step zero l from to next e has = (next, subst (λ k. Contains (operand_places l.boxes (loose_at l k)) next) (sym e) has, refl)
Reaches-step (suc n) l from to next h has = (h.0, h.1, Reaches-step n l h.0 to next h.2 has)

no_walk : (l : LooseList) (net : Netlist) (numbers : List ℕ) (o : IsOrderOf l net numbers) → IsLoose l → IsNetlist net → (n k source : ℕ) → IsCopySource n l k source → IsOnClosedWalk l k → ⊥
no_walk l net numbers o loose kept zero k source s walk =
    let step = walk.2 in
    let there = All-contains (λ j. j < length l.cells) _ step.0 (loose.there k walk.0) step.1 in
    let below = kept_below l net numbers o kept k walk.0 s.1 step.0 step.1 in
    absurd (omega (arith, below, reaches_down l net numbers o loose kept walk.1 step.0 k there step.2))
no_walk l net numbers o loose kept (suc n) k source s walk =
    let step = walk.2 in
    let p = s.0 in
    let is = one_operand p step.0 (subst (λ c. Contains (operand_places l.boxes c) step.0) s.2 step.1) in
    let back : Reaches walk.1 l p k = subst (λ j. Reaches walk.1 l j k) (sym is) step.2 in
    let again : Contains (operand_places l.boxes (loose_at l k)) p = subst (λ c. Contains (operand_places l.boxes c) p) (sym s.2) (0, omega arith, refl) in
    no_walk l net numbers o loose kept n p source s.3 (s.1, walk.1, Reaches-step walk.1 l p k p back again)

pub order_has_no_walk_lem : OrderHasNoWalk
order_has_no_walk_lem = λ l net numbers loose kept o k walk.
    let chain = o.sources k walk.0 in
    no_walk l net numbers o loose kept chain.0 k chain.1 chain.2 walk
