-- Netlists that are extended, and the bits of the gates that come.
use Rattle.std.proofs.Common.{◌≡◌, ℕ, zero, suc, ◌+◌, ◌<◌, ◌≤◌, Bool, true, false, not, ◌&&◌, ◌||◌, List, [], ◌∷◌, ◌++◌, length, take, refl, sym, ap, ap₂, ◌∙◌, subst, arith}
use Rattle.std.specs.Prelude.{if◌then◌else◌}
use Rattle.std.specs.List.{range_with_len}
use Rattle.std.proofs.lemmas.List.{get_or_push, length-append, append_assoc, append-nil, get_or-take, length-map}
use Rattle.std.proofs.lemmas.List.FromFn.{get_or-map-range_with_len}
use Rattle.bb_lemmas.proofs.Ranges.{length-range}
use Rattle.bb_net.specs.declared.cell.Cell.{Cell}
use Rattle.bb_net.specs.declared.cell.Cell.TheVariants.{Const, Input, Not, And, Or, Xor, Mux, BoxOut}
use Rattle.bb_net.specs.Netlists.{Netlist, IsNetlist, Pins, cell_at, first_cells, ReadsBefore, with_cell, with_pin}
use Rattle.bb_net.specs.Values.{bit_of, xor}
use Rattle.bb_strash.specs.Inside.Extensions.{bit, gate_bit, Extends, Gives}
use Rattle.bb_strash.specs.Laws.{BitsAreGates, BitsStay}
use Rattle.bb_strash.proofs.BitLaws.{longer}

-- nothing is added
pub same_net : (net : Netlist) (most : ℕ) → IsNetlist net → net.boxes ≡ [] → Extends net net most
same_net net most kept none = record {
  before = kept;
  after = kept;
  none = none;
  inputs = refl;
  boxes = none;
  outs = refl;
  more = [];
  cells = sym (append-nil net.cells);
  few = omega arith;
}

-- more may be added than is
pub at_most : (old new : Netlist) (few many : ℕ) → few ≤ many → Extends old new few → Extends old new many
at_most old new few many le e = record {
  before = e.before;
  after = e.after;
  none = e.none;
  inputs = e.inputs;
  boxes = e.boxes;
  outs = e.outs;
  more = e.more;
  cells = e.cells;
  few = omega (arith, e.few, le);
}

-- one after another
pub then_more : (a b c : Netlist) (n m : ℕ) → Extends a b n → Extends b c m → Extends a c (n + m)
then_more a b c n m one two = record {
  before = one.before;
  after = two.after;
  none = one.none;
  inputs = two.inputs ∙ one.inputs;
  boxes = two.boxes;
  outs = two.outs ∙ one.outs;
  more = one.more ++ two.more;
  cells = two.cells ∙ ap (λ l. l ++ two.more) one.cells ∙ append_assoc a.cells one.more two.more;
  few = omega (arith, one.few, two.few, length-append one.more two.more);
}

pub grown : (old new : Netlist) (most : ℕ) → Extends old new most → length new.cells ≤ length old.cells + most
grown old new most e = omega (arith, e.few, ap length e.cells ∙ length-append old.cells e.more)

same_pins : (boxes : List Pins) (place : ℕ) (c : Cell) → ((b p : ℕ) → c ≡ BoxOut b p → ⊥) → with_pin boxes place c ≡ boxes
same_pins boxes place (Const b) none = refl
same_pins boxes place (Input i) none = refl
same_pins boxes place (Not a) none = refl
same_pins boxes place (And a b) none = refl
same_pins boxes place (Or a b) none = refl
same_pins boxes place (Xor a b) none = refl
same_pins boxes place (Mux c t e) none = refl
same_pins boxes place (BoxOut b p) none = absurd (none b p refl)

-- one cell is added
pub pushed : (old new : Netlist) (c : Cell) → IsNetlist old → IsNetlist new → old.boxes ≡ [] → ((b p : ℕ) → c ≡ BoxOut b p → ⊥) → new ≡ with_cell old c → Extends old new 1
pushed old new c kept after none plain is = record {
  before = kept;
  after = after;
  none = none;
  inputs = ap (λ (n : Netlist). n.inputs) is;
  boxes = ap (λ (n : Netlist). n.boxes) is ∙ same_pins old.boxes (length old.cells) c plain ∙ none;
  outs = ap (λ (n : Netlist). n.outs) is;
  more = c ∷ [];
  cells = ap (λ (n : Netlist). n.cells) is;
  few = omega arith;
}

pub pushed_at : (old new : Netlist) (c : Cell) (place : ℕ) → new ≡ with_cell old c → place ≡ length old.cells → (place < length new.cells) × (cell_at new.cells place ≡ c)
pushed_at old new c place is at =
    let cells = ap (λ (n : Netlist). n.cells) is in (
      omega (arith, at, ap length cells ∙ length-append old.cells (c ∷ [])),
      ap (λ l. cell_at l place) cells ∙ get_or_push old.cells c (Const false) place (sym at),
    )

-- what a cell reads is there
pub reads_there : (inputs more n m : ℕ) (boxes : List Pins) (c : Cell) → boxes ≡ [] → n ≡ m → inputs ≡ more → ReadsBefore more [] m c → ReadsBefore inputs boxes n c
reads_there inputs more n m boxes c none same is reads =
    subst (λ (b : List Pins). ReadsBefore inputs b n c) (sym none) (subst (λ k. ReadsBefore inputs [] k c) (sym same) (subst (λ k. ReadsBefore k [] m c) (sym is) reads))

-- the cells with which a netlist begins
first_is : (net : Netlist) → IsNetlist net → (k : ℕ) → k < net.inputs + 2 → cell_at net.cells k ≡ cell_at (first_cells net.inputs) k
first_is net kept k h = sym (get_or-take (net.inputs + 2) net.cells k (Const false) h) ∙ ap (λ l. cell_at l k) kept.prefix

pub begins : (net : Netlist) → IsNetlist net → net.inputs + 2 ≤ length net.cells
begins net kept =
    let long : length (first_cells net.inputs) ≡ net.inputs + 2 = omega (arith, length-map (range_with_len 0 net.inputs) Input, length-range 0 net.inputs) in
    let taken = ap length kept.prefix in
    omega (arith, taken, long, taken_long (net.inputs + 2) net.cells)
  where
    taken_long : (n : ℕ) (l : List Cell) → length (take n l) ≤ length l
    taken_long zero l = omega arith
    taken_long (suc n) [] = omega arith
    taken_long (suc n) (c ∷ l) = omega (arith, taken_long n l)

module _ (gates : BitsAreGates) (net : Netlist) (kept : IsNetlist net) (none : net.boxes ≡ []) where
  pub zero_bit : (x : List Bool) → bit net x 0 ≡ false
  zero_bit x = gates net kept none x 0 (omega (arith, begins net kept)) ∙ ap (gate_bit x (bit net x)) (first_is net kept 0 (omega arith))

  pub one_bit : (x : List Bool) → bit net x 1 ≡ true
  one_bit x = gates net kept none x 1 (omega (arith, begins net kept)) ∙ ap (gate_bit x (bit net x)) (first_is net kept 1 (omega arith))

  pub input_bit : (x : List Bool) (i : ℕ) → i < net.inputs → bit net x (i + 2) ≡ bit_of x i
  input_bit x i h =
      gates net kept none x (i + 2) (omega (arith, h, begins net kept))
      ∙ ap (gate_bit x (bit net x)) (first_is net kept (i + 2) (omega (arith, h)) ∙ input_at net.inputs i h)
    where
      input_at : (n i : ℕ) → i < n → cell_at (first_cells n) (i + 2) ≡ Input i
      input_at n i h =
          let two : i + 2 ≡ suc (suc i) = omega arith in
          ap (cell_at (first_cells n)) two ∙ get_or-map-range_with_len Input 0 n i i (Const false) h (omega arith)

  pub constants_there : (0 < length net.cells) × (1 < length net.cells)
  constants_there = (omega (arith, begins net kept), omega (arith, begins net kept))

  -- an inverter
  pub inverter_bit : (x : List Bool) (a b : ℕ) → a < length net.cells → cell_at net.cells a ≡ Not b → bit net x a ≡ not (bit net x b)
  inverter_bit x a b h is = gates net kept none x a h ∙ ap (gate_bit x (bit net x)) is

  pub inverter_reads : (a b : ℕ) → a < length net.cells → cell_at net.cells a ≡ Not b → b < length net.cells
  inverter_reads a b h is = omega (arith, h, subst (ReadsBefore net.inputs net.boxes a) is (kept.ordered a h))

-- a gate that is at a place gives its function of the bits as they were
gate_was : (x : List Bool) (value old : ℕ → Bool) (n m : ℕ) (c : Cell) → ReadsBefore n [] m c → ((k : ℕ) → k < m → value k ≡ old k) → gate_bit x value c ≡ gate_bit x old c
gate_was x value old n m (Const b) reads same = refl
gate_was x value old n m (Input i) reads same = refl
gate_was x value old n m (Not a) reads same = ap not (same a reads)
gate_was x value old n m (And a b) reads same = ap₂ ◌&&◌ (same a reads.0) (same b reads.1)
gate_was x value old n m (Or a b) reads same = ap₂ ◌||◌ (same a reads.0) (same b reads.1)
gate_was x value old n m (Xor a b) reads same = ap₂ xor (same a reads.0) (same b reads.1)
gate_was x value old n m (Mux c t e) reads same =
    ap₂ (λ (y z : Bool). if value c then y else z) (same t reads.1) (same e reads.2) ∙ ap (λ (y : Bool). if y then old t else old e) (same c reads.0)
gate_was x value old n m (BoxOut b p) reads same = refl

module _ (gates : BitsAreGates) (stay : BitsStay) where
  pub occurs_gives : (old new : Netlist) (most n place : ℕ) (c : Cell) → Extends old new most → ReadsBefore n [] (length old.cells) c → (place < length new.cells) × (cell_at new.cells place ≡ c)
      → Gives new place (λ x. gate_bit x (bit old x) c)
  occurs_gives old new most n place c e reads occurs = record {
    there = occurs.0;
    same = λ x.
        gates new e.after e.boxes x place occurs.0 ∙ ap (gate_bit x (bit new x)) occurs.1
        ∙ gate_was x (bit new x) (bit old x) n (length old.cells) c reads (λ k h. stay old new most e x k h);
  }

  -- what a place gives it goes on to give
  pub still_gives : (old new : Netlist) (most place : ℕ) (wanted : List Bool → Bool) → Extends old new most → Gives old place wanted → Gives new place wanted
  still_gives old new most place wanted e g = record { there = longer old new most e place g.there; same = λ x. stay old new most e x place g.there ∙ g.same x }

-- the same said in other words
pub gives_same : (net : Netlist) (place : ℕ) (one other : List Bool → Bool) → ((x : List Bool) → one x ≡ other x) → Gives net place one → Gives net place other
gives_same net place one other same g = record { there = g.there; same = λ x. g.same x ∙ same x }

-- operands may be exchanged
pub and_other : (a b : Bool) → (a && b) ≡ (b && a)
and_other true true = refl
and_other true false = refl
and_other false true = refl
and_other false false = refl

pub xor_other : (a b : Bool) → xor a b ≡ xor b a
xor_other true true = refl
xor_other true false = refl
xor_other false true = refl
xor_other false false = refl

pub not_not : (a : Bool) → not (not a) ≡ a
not_not true = refl
not_not false = refl

pub de_morgan : (a b : Bool) → not (not a && not b) ≡ (a || b)
de_morgan true b = refl
de_morgan false true = refl
de_morgan false false = refl

pub and_self : (a : Bool) → a ≡ (a && a)
and_self true = refl
and_self false = refl

pub and_one : (a : Bool) → a ≡ (a && true)
and_one true = refl
and_one false = refl

pub and_zero : (a : Bool) → false ≡ (a && false)
and_zero true = refl
and_zero false = refl

pub and_not : (a : Bool) → false ≡ (a && not a)
and_not true = refl
and_not false = refl

pub not_and : (a : Bool) → false ≡ (not a && a)
not_and true = refl
not_and false = refl

pub xor_self : (a : Bool) → false ≡ xor a a
xor_self true = refl
xor_self false = refl

pub xor_zero : (a : Bool) → a ≡ xor a false
xor_zero true = refl
xor_zero false = refl

pub zero_xor : (a : Bool) → a ≡ xor false a
zero_xor true = refl
zero_xor false = refl

-- signs go outside
pub signs_out : (s t a b : Bool) → xor (xor s t) (xor a b) ≡ xor (xor s a) (xor t b)
signs_out true true true true = refl
signs_out true true true false = refl
signs_out true true false true = refl
signs_out true true false false = refl
signs_out true false true true = refl
signs_out true false true false = refl
signs_out true false false true = refl
signs_out true false false false = refl
signs_out false true true true = refl
signs_out false true true false = refl
signs_out false true false true = refl
signs_out false true false false = refl
signs_out false false true true = refl
signs_out false false true false = refl
signs_out false false false true = refl
signs_out false false false false = refl

-- a choice with a branch that is 1
pub or_is_choice : (a t e : Bool) → t ≡ true → (a || e) ≡ (if a then t else e)
or_is_choice true t e h = sym h
or_is_choice false t e h = refl

pub implies_is_choice : (a t e : Bool) → e ≡ true → (not a || t) ≡ (if a then t else e)
implies_is_choice true t e h = refl
implies_is_choice false t e h = sym h
