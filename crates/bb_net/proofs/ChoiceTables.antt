-- Choices of box outputs and tables: tables are choices for every box, and choices for one box are a table.
use Rattle.std.proofs.Common.{◌≡◌, ℕ, ◌+◌, ◌^◌, ◌<◌, ◌≤◌, zero, suc, Bool, false, List, [], ◌∷◌, ◌++◌, length, map, take, get_or, refl, sym, ap, ap₂, subst, ◌∙◌, inl, inr, arith, length-append}
use Rattle.std.specs.Prelude.{sum}
use Rattle.std.specs.List.{range_with_len}
use Rattle.std.proofs.lemmas.Bool.{cases_lt}
use Rattle.std.proofs.lemmas.List.{append-nil, append_assoc, get_or_at, get_or_append_left, map-append, take-map, take_more, get_or-map, length-map, length_push}
use Rattle.std.proofs.lemmas.List.Concat.{length-flat_map, get_or-flat_map}
use Rattle.std.proofs.lemmas.List.Sums.{sum-map}
use Rattle.std.proofs.lemmas.List.Elements.{All-get_or, All-from_get_or}
use Rattle.std.proofs.lemmas.List.FromFn.{length-map-range_with_len, get_or-map-range_with_len}
use Rattle.bb_bits.specs.Numbers.{number_of, bits_of}
use Rattle.bb_bits.specs.Contents.{HasShape, row_at, output_bit}
use Rattle.bb_bits.specs.Tables.{TableBits, HasAllBits, table_bit, rows_of}
use Rattle.bb_bits.specs.Laws.RowLaws.{RowsHaveShape, BitsAreChosen, RowsHaveTable}
use Rattle.bb_net.specs.declared.cell.Cell.{Cell}
use Rattle.bb_net.specs.declared.cell.Cell.TheVariants.{Const, Input, Not, And, Or, Xor, Mux, BoxOut}
use Rattle.bb_net.specs.Netlists.{Netlist, Pins, cell_at, box_at, IsNetlist}
use Rattle.bb_net.specs.Values.{bit_of, gate, flat, flat_with, value_of, free_bit, tabled_bit, table_at, output_pins, FitBoxes, ValueGoesByBoxes}
use Rattle.bb_net.specs.Equivalence.{AllRight, TablesMakeEquivalent}
use Rattle.bb_net.specs.Conditions.{PinBits, all_outs, all_ins, ChoicesSuit, InputsHaveOutputs, SomeChoicesSuit, NoChoicesSuit, NoTablesMakeEquivalent, SomeTablesMakeEquivalent}
use Rattle.bb_net.proofs.TableLemmas.{box_of_pin}
use Rattle.bb_net.proofs.ValueLaws.{value_exists_lem, value_is_unique_lem}

-- what the laws of bb_bits say of tables and numbers
pub record Laws : Type 0 where
  pub shape : RowsHaveShape
  pub chosen : BitsAreChosen
  pub table : RowsHaveTable
  pub below : (bits : List Bool) → number_of bits < 2 ^ length bits
  pub width : (n number : ℕ) → length (bits_of n number) ≡ n
  pub spelled : (bits : List Bool) → bits_of (length bits) (number_of bits) ≡ bits

gate_box : (boxes : List Pins) (x : List Bool) (f g : ℕ → ℕ → List Bool → Bool) (v : ℕ → Bool) (c : Cell) → ((b p : ℕ) → c ≡ BoxOut b p → f b p (map v (box_at boxes b).ins) ≡ g b p (map v (box_at boxes b).ins)) → gate boxes x f v c ≡ gate boxes x g v c
gate_box boxes x f g v (Const b) same = refl
gate_box boxes x f g v (Input i) same = refl
gate_box boxes x f g v (Not a) same = refl
gate_box boxes x f g v (And a b) same = refl
gate_box boxes x f g v (Or a b) same = refl
gate_box boxes x f g v (Xor a b) same = refl
gate_box boxes x f g v (Mux a b c) same = refl
gate_box boxes x f g v (BoxOut b p) same = same b p refl

-- boxes that give the same at the bits of their input pins give the same value
pub value_swap : ValueGoesByBoxes
value_swap net kept x f g same =
    let value = value_exists_lem net x f kept.ordered in
    value_is_unique_lem net x g (value_of net x f) kept.ordered (record {
      whole = value.whole;
      each = λ place there. value.each place there ∙ gate_box net.boxes x f g (bit_of (value_of net x f)) (cell_at net.cells place)
          (λ b p is. let pin = (kept.listed place b p there is).0 in same b p (box_of_pin net.boxes b p pin) pin);
    })

abbrev chosen_at : List PinBits → ℕ → PinBits
chosen_at chosen b = get_or chosen b (record { ins = []; outs = [] })

-- the chosen outputs of the first boxes are the rows of their tables at the chosen inputs
record Follows (boxes : List Pins) (tables : List TableBits) (chosen : List PinBits) : Type 0 where
  pub rows : (b : ℕ) → b < length chosen → (chosen_at chosen b).outs ≡ row_at (rows_of (table_at tables b)) (chosen_at chosen b).ins
  pub ins : (b : ℕ) → b < length chosen → length (chosen_at chosen b).ins ≡ length (box_at boxes b).ins
  pub outs : map (λ (bits : PinBits). length bits.outs) chosen ≡ take (length chosen) (map (λ (pins : Pins). length pins.outs) boxes)

-- the outputs of the first boxes fill the bits of their output pins
widths_before : (boxes : List Pins) (chosen : List PinBits) → map (λ (bits : PinBits). length bits.outs) chosen ≡ map (λ (pins : Pins). length pins.outs) boxes → (b : ℕ) → length (all_outs (take b chosen)) ≡ output_pins (take b boxes)
widths_before boxes chosen same b =
    length-flat_map (λ (bits : PinBits). bits.outs) (take b chosen)
    ∙ sym (sum-map (λ (bits : PinBits). length bits.outs) (take b chosen))
    ∙ ap sum (sym (take-map (λ (bits : PinBits). length bits.outs) b chosen) ∙ ap (take b) same ∙ take-map (λ (pins : Pins). length pins.outs) b boxes)
    ∙ sum-map (λ (pins : Pins). length pins.outs) (take b boxes)

-- the free bit at an output pin is the chosen one
chosen_bit : (boxes : List Pins) (chosen : List PinBits) → map (λ (bits : PinBits). length bits.outs) chosen ≡ map (λ (pins : Pins). length pins.outs) boxes
    → (b p : ℕ) → b < length boxes → p < length (box_at boxes b).outs → bit_of (all_outs chosen) (output_pins (take b boxes) + p) ≡ bit_of (chosen_at chosen b).outs p
chosen_bit boxes chosen same b p there pin =
    let len : length chosen ≡ length boxes = sym (length-map chosen _) ∙ ap length same ∙ length-map boxes _ in
    let here : b < length chosen = omega arith in
    let width : length (chosen_at chosen b).outs ≡ length (box_at boxes b).outs =
    sym (get_or-map (λ (bits : PinBits). length bits.outs) chosen b _ 0 here) ∙ ap (λ ns. get_or ns b 0) same ∙ get_or-map (λ (pins : Pins). length pins.outs) boxes b _ 0 there in
    ap (λ n. bit_of (all_outs chosen) (n + p)) (sym (widths_before boxes chosen same b))
    ∙ get_or-flat_map (λ (bits : PinBits). bits.outs) chosen b p (record { ins = []; outs = [] }) false here (omega (arith, width))

-- choices by tables that agree suit
followed_suit : (laws : Laws) (spec imp : Netlist) → IsNetlist imp → (tables : List TableBits) → FitBoxes tables imp.boxes → TablesMakeEquivalent spec imp tables
    → (chosen : List PinBits) → length chosen ≡ length imp.boxes → Follows imp.boxes tables chosen → ChoicesSuit spec imp chosen
followed_suit laws spec imp kept tables fit agree chosen len follows = λ x vector leads.
    let boxes = imp.boxes in
    let bits = flat imp x (all_outs chosen) in
    let same : map (λ (bits : PinBits). length bits.outs) chosen ≡ map (λ (pins : Pins). length pins.outs) boxes =
    follows.outs ∙ ap (λ n. take n (map (λ (pins : Pins). length pins.outs) boxes)) len ∙ take_whole (map (λ (pins : Pins). length pins.outs) boxes) (length boxes) (length-map boxes _) in
    let swap = value_swap imp kept x (free_bit boxes (all_outs chosen)) (tabled_bit tables) (λ b p there pin.
    let here : b < length chosen = omega arith in
    let c = chosen_at chosen b in
    let t = table_at tables b in
    let ins : map (bit_of bits) (box_at boxes b).ins ≡ c.ins =
    sym (get_or-map (λ (pins : Pins). map (bit_of bits) pins.ins) boxes b _ [] there) ∙ ap (λ ls. get_or ls b []) leads ∙ get_or-map (λ (bits : PinBits). bits.ins) chosen b _ [] here in
    let wide : length c.ins ≡ t.inputs = follows.ins b here ∙ sym (fit.inputs b there) in
    let low : p < t.outputs = omega (arith, pin, fit.outputs b there) in
    chosen_bit boxes chosen same b p there pin
    ∙ ap (λ row. bit_of row p) (follows.rows b here)
    ∙ laws.chosen t c.ins p wide low
    ∙ ap (λ is. table_bit t (number_of is) p) (sym ins)) in
    subst (AllRight spec imp x) (sym swap) (agree x vector)
  where
    take_whole : (xs : List ℕ) (n : ℕ) → length xs ≡ n → take n xs ≡ xs
    take_whole [] zero e = refl
    take_whole [] (suc n) e = refl
    take_whole (x ∷ xs) zero e = absurd (omega (arith, e))
    take_whole (x ∷ xs) (suc n) e = ap (λ ys. x ∷ ys) (take_whole xs n (omega (arith, e)))

push_cases : (P : ℕ → PinBits → Type 0) (chosen : List PinBits) (c : PinBits) → ((b : ℕ) → b < length chosen → P b (chosen_at chosen b)) → P (length chosen) c → (b : ℕ) → b < length (chosen ++ c ∷ []) → P b (chosen_at (chosen ++ c ∷ []) b)
push_cases P chosen c old new b h = elim (cases_lt b (length chosen)) [
  | inl below ↦ subst (P b) (sym (get_or_append_left chosen (c ∷ []) _ b below)) (old b below)
  | inr past ↦
      let e : length chosen ≡ b = omega (arith, length_push chosen c) in
      subst (P b) (sym (get_or_at chosen c [] _ b e)) (subst (λ k. P k c) e new)
]

Follows-more : (laws : Laws) (boxes : List Pins) (tables : List TableBits) (chosen : List PinBits) (ins : List Bool) → length chosen < length boxes → length ins ≡ length (box_at boxes (length chosen)).ins
    → length (row_at (rows_of (table_at tables (length chosen))) ins) ≡ length (box_at boxes (length chosen)).outs → Follows boxes tables chosen
    → Follows boxes tables (chosen ++ record { ins = ins; outs = row_at (rows_of (table_at tables (length chosen))) ins } ∷ [])
Follows-more laws boxes tables chosen ins there len width follows =
    let c : PinBits = record { ins = ins; outs = row_at (rows_of (table_at tables (length chosen))) ins } in
    let widths = map (λ (pins : Pins). length pins.outs) boxes in
    record {
      rows = push_cases (λ b d. d.outs ≡ row_at (rows_of (table_at tables b)) d.ins) chosen c follows.rows refl;
      ins = push_cases (λ b d. length d.ins ≡ length (box_at boxes b).ins) chosen c follows.ins len;
      outs =
          map-append (λ (bits : PinBits). length bits.outs) chosen (c ∷ [])
          ∙ ap₂ (λ ns n. ns ++ n ∷ []) follows.outs (width ∙ sym (get_or-map (λ (pins : Pins). length pins.outs) boxes (length chosen) _ 0 there))
          ∙ sym (take_more widths (length chosen) 0 (omega (arith, length-map boxes (λ (pins : Pins). length pins.outs))))
          ∙ ap (λ n. take n widths) (sym (length_push chosen c));
    }

-- the rows of tables are choices
wins_by_tables : (laws : Laws) (spec imp : Netlist) → IsNetlist imp → (tables : List TableBits) → FitBoxes tables imp.boxes → TablesMakeEquivalent spec imp tables
    → (rest done : List Pins) (chosen : List PinBits) → imp.boxes ≡ done ++ rest → length chosen ≡ length done → Follows imp.boxes tables chosen → InputsHaveOutputs (ChoicesSuit spec imp) rest chosen
wins_by_tables laws spec imp kept tables fit agree [] done chosen split len follows =
    followed_suit laws spec imp kept tables fit agree chosen (len ∙ ap length (sym (split ∙ append-nil done))) follows
wins_by_tables laws spec imp kept tables fit agree (box ∷ rest) done chosen split len follows = λ ins wide.
    let b = length chosen in
    let t = table_at tables b in
    let here : box_at imp.boxes b ≡ box = ap₂ box_at split len ∙ get_or_at done box rest _ (length done) refl in
    let there : b < length imp.boxes = omega (arith, ap length split, length-append done (box ∷ rest), len) in
    let inputs : length ins ≡ length (box_at imp.boxes b).ins = wide ∙ ap (λ (pins : Pins). length pins.ins) (sym here) in
    let shape = laws.shape t (fit.whole b there) in
    let low : number_of ins < length (rows_of t) = omega (arith, laws.below ins, ap (λ n. 2 ^ n) (inputs ∙ sym (fit.inputs b there)), shape.count) in
    let row = All-get_or (λ row. length row ≡ t.outputs) (rows_of t) (number_of ins) [] low shape.widths in
    let outputs : length (row_at (rows_of t) ins) ≡ length (box_at imp.boxes b).outs = row ∙ fit.outputs b there in (
      row_at (rows_of t) ins,
      outputs ∙ ap (λ (pins : Pins). length pins.outs) here,
      wins_by_tables laws spec imp kept tables fit agree rest (done ++ box ∷ []) (chosen ++ record { ins = ins; outs = row_at (rows_of t) ins } ∷ [])
          (split ∙ sym (append_assoc done (box ∷ []) rest))
          (omega (arith, length_push chosen (record { ins = ins; outs = row_at (rows_of t) ins }), length_push done box, len))
          (Follows-more laws imp.boxes tables chosen ins there inputs outputs follows),
    )

Follows-none : (boxes : List Pins) (tables : List TableBits) → Follows boxes tables []
Follows-none boxes tables = record { rows = λ b h. absurd (omega (arith, h)); ins = λ b h. absurd (omega (arith, h)); outs = refl }

pub no_choices_no_tables : (laws : Laws) (spec imp : Netlist) → IsNetlist imp → NoChoicesSuit spec imp → NoTablesMakeEquivalent spec imp
no_choices_no_tables laws spec imp kept none = λ tables fit agree.
    none (wins_by_tables laws spec imp kept tables fit agree imp.boxes [] [] refl refl (Follows-none imp.boxes tables))

FitBoxes-one : (t : TableBits) (box : Pins) → t.inputs ≡ length box.ins → t.outputs ≡ length box.outs → HasAllBits t → FitBoxes (t ∷ []) (box ∷ [])
FitBoxes-one t box e f whole = record {
  count = refl;
  inputs = first (λ b. (table_at (t ∷ []) b).inputs ≡ length (box_at (box ∷ []) b).ins) e;
  outputs = first (λ b. (table_at (t ∷ []) b).outputs ≡ length (box_at (box ∷ []) b).outs) f;
  whole = first (λ b. HasAllBits (table_at (t ∷ []) b)) whole;
}
  where
    first : (P : ℕ → Type 0) → P zero → (b : ℕ) → b < 1 → P b
    first P here zero h = here
    first P here (suc b) h = absurd (omega arith)

-- the outputs that are chosen for each list of inputs, by its number
record Answers (spec imp : Netlist) (box : Pins) (row : ℕ → List Bool) : Type 0 where
  pub widths : (n : ℕ) → length (row n) ≡ length box.outs
  pub suit : (n : ℕ) → ChoicesSuit spec imp (record { ins = bits_of (length box.ins) n; outs = row n } ∷ [])

table_of_answers : (laws : Laws) (spec imp : Netlist) → IsNetlist imp → (box : Pins) → imp.boxes ≡ box ∷ [] → (row : ℕ → List Bool) → Answers spec imp box row → SomeTablesMakeEquivalent spec imp
table_of_answers laws spec imp kept box one row answers =
    let k = length box.ins in
    let m = length box.outs in
    let rows = map row (range_with_len 0 (2 ^ k)) in
    let count = length-map-range_with_len row 0 (2 ^ k) in
    let at : (n : ℕ) → n < 2 ^ k → get_or rows n [] ≡ row n = λ n h. get_or-map-range_with_len row 0 (2 ^ k) n n [] h (omega arith) in
    let shape : HasShape k m rows = record {
      count = count;
      widths = All-from_get_or (λ r. length r ≡ m) rows [] (λ n h. let h' : n < 2 ^ k = omega (arith, count, h) in subst (λ r. length r ≡ m) (sym (at n h')) (answers.widths n));
    } in
    let found = laws.table k m rows shape in
    let t = found.0 in
    let fit : FitBoxes (t ∷ []) imp.boxes = subst (λ boxes. FitBoxes (t ∷ []) boxes) (sym one) (FitBoxes-one t box found.1 found.2 found.3) in (
      t ∷ [],
      fit,
      λ x vector.
          let bits = flat_with imp x (t ∷ []) in
          let ins = map (bit_of bits) box.ins in
          let n = number_of ins in
          let wide : length ins ≡ k = length-map box.ins _ in
          let low : n < 2 ^ k = omega (arith, laws.below ins, ap (λ j. 2 ^ j) wide) in
          let spelled : bits_of k n ≡ ins = ap (λ j. bits_of j n) (sym wide) ∙ laws.spelled ins in
          let chosen : List PinBits = record { ins = bits_of k n; outs = row n } ∷ [] in
          let swap = value_swap imp kept x (tabled_bit (t ∷ [])) (free_bit imp.boxes (all_outs chosen)) (λ b p there pin.
          let zero_b : b ≡ 0 = omega (arith, ap length one) in
          let here : box_at imp.boxes b ≡ box = ap₂ box_at one zero_b in
          let low_p : p < t.outputs = omega (arith, found.2, ap (λ (pins : Pins). length pins.outs) here) in
          let before : output_pins (take b imp.boxes) ≡ 0 = ap (λ j. output_pins (take j imp.boxes)) zero_b in
          ap₂ (λ j (pins : Pins). table_bit (table_at (t ∷ []) j) (number_of (map (bit_of bits) pins.ins)) p) zero_b here
          ∙ sym (laws.chosen t ins p (wide ∙ sym found.1) low_p)
          ∙ ap (λ rs. output_bit rs ins p) found.4
          ∙ ap (λ r. bit_of r p) (at n low)
          ∙ ap (λ r. bit_of r p) (sym (append-nil (row n)))
          ∙ ap (bit_of (row n ++ [])) (let e : p ≡ output_pins (take b imp.boxes) + p = omega (arith, before) in e)) in
          let leads : all_ins imp.boxes (flat imp x (all_outs chosen)) ≡ bits_of k n ∷ [] =
          ap₂ all_ins one (sym swap) ∙ ap (λ i. i ∷ []) (sym spelled) in
          subst (AllRight spec imp x) (sym swap) (answers.suit n x vector leads),
    )

tables_of_choices : (laws : Laws) (spec imp : Netlist) → IsNetlist imp → (boxes : List Pins) → imp.boxes ≡ boxes → length boxes ≤ 1 → InputsHaveOutputs (ChoicesSuit spec imp) boxes [] → SomeTablesMakeEquivalent spec imp
tables_of_choices laws spec imp kept [] none few suit =
    let fit : FitBoxes [] imp.boxes = subst (λ boxes. FitBoxes [] boxes) (sym none) (record { count = refl; inputs = λ b h. absurd (omega (arith, h)); outputs = λ b h. absurd (omega (arith, h)); whole = λ b h. absurd (omega (arith, h)) }) in (
      [],
      fit,
      λ x vector.
          let swap = value_swap imp kept x (tabled_bit []) (free_bit imp.boxes []) (λ b p there pin. absurd (omega (arith, ap length none))) in
          let leads : all_ins imp.boxes (flat imp x []) ≡ [] = ap (λ boxes. all_ins boxes (flat imp x [])) none in
          subst (AllRight spec imp x) (sym swap) (suit x vector leads),
    )
tables_of_choices laws spec imp kept (box ∷ []) one few won =
    let k = length box.ins in
    let row : ℕ → List Bool = λ n. (won (bits_of k n) (laws.width k n)).0 in
    table_of_answers laws spec imp kept box one row (record {
      widths = λ n. (won (bits_of k n) (laws.width k n)).1;
      suit = λ n. (won (bits_of k n) (laws.width k n)).2;
    })
tables_of_choices laws spec imp kept (box ∷ next ∷ boxes) e few won = absurd (omega (arith, few))

pub choices_are_tables_lem : (laws : Laws) (spec imp : Netlist) → IsNetlist imp → length imp.boxes ≤ 1 → SomeChoicesSuit spec imp → SomeTablesMakeEquivalent spec imp
choices_are_tables_lem laws spec imp kept few won = tables_of_choices laws spec imp kept imp.boxes refl few won
