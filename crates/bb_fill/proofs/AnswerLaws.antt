-- A netlist has an answer, and only one.
use Rattle.std.proofs.Common.{◌≡◌, ◌≢◌, ◌∙◌, ◌⊎◌, inl, inr, ℕ, ◌+◌, ◌<◌, ◌≤◌, List, length, Contains, refl, sym, ap, arith}
use Rattle.std.specs.List.{range_with_len}
use Rattle.std.proofs.lemmas.List.Elements.{All-contains}
use Rattle.bb_bits.specs.Closures.{IsFirst}
use Rattle.bb_bits.specs.Tables.{TableBits}
use Rattle.bb_lemmas.proofs.Deciding.{Decides, Decision, decide_both, decide_contains, decide_either, decide_list, decide_number, first_or_none}
use Rattle.bb_lemmas.proofs.Firsts.{first_one, first_there}
use Rattle.bb_lemmas.proofs.Members.{all_from}
use Rattle.bb_lemmas.proofs.Orders.{less_or_not}
use Rattle.bb_lemmas.proofs.Ranges.{from_range, range_there}
use Rattle.bb_net.specs.declared.cell.Cell.{Cell}
use Rattle.bb_net.specs.declared.cell.Cell.TheVariants.{Const, Input, Not, And, Or, Xor, Mux, BoxOut}
use Rattle.bb_net.specs.Flats.{FlatNet}
use Rattle.bb_net.specs.CutPoints.{state_texts}
use Rattle.bb_fill.specs.Clashes.{AreInputsApart, AreNamesApart, InputClashes, IsClash, IsInputClash, IsItsRegister, IsOutputClash, OutputClashes, output_cell, output_numbers, register_text, state_cell}
use Rattle.bb_fill.specs.Sizes.{IsSmallText, IsTooLargeText, filled_cell_count, most_bytes, most_filled_cells, most_nets, net_count}
use Rattle.bb_fill.specs.Filled.{filled_text, output_text}
use Rattle.bb_fill.specs.Answers.{Answer, Clash, Clashes, IsFilled, IsLarge, IsFillAnswer, Text, TooLarge}
use Rattle.bb_fill.specs.Laws.{AnswersAreOne, AnswersExist}
use Rattle.bb_fill.proofs.ClashLemmas.{input_or_not, output_or_not}

module _ (f : FlatNet) where
  apart_no_input : (name : List ℕ) → IsFirst (IsInputClash f) f.ins name → AreInputsApart f → ⊥
  apart_no_input name first apart =
      input_or_not f name first.holds (All-contains (λ text. (Contains (state_texts f) text → ⊥) × (Contains f.outs text → ⊥)) f.ins name apart (first_there (IsInputClash f) f.ins name first))

  apart_no_clash : (name : List ℕ) → IsClash f name → AreNamesApart f → ⊥
  apart_no_clash name (InputClashes first) apart = apart_no_input name first apart.inputs
  apart_no_clash name (OutputClashes o inputs first is) apart =
      output_or_not f o first.holds (All-contains (IsItsRegister f) (output_numbers f) o apart.outputs (first_there (IsOutputClash f) (output_numbers f) o first))

  one_clash : (one other : List ℕ) → IsClash f one → IsClash f other → one ≡ other
  one_clash one other (InputClashes a) (InputClashes b) = first_one (IsInputClash f) f.ins one other a b
  one_clash one other (InputClashes a) (OutputClashes o inputs b is) = absurd (apart_no_input one a inputs)
  one_clash one other (OutputClashes o inputs a is) (InputClashes b) = absurd (apart_no_input other b inputs)
  one_clash one other (OutputClashes o inputs a is) (OutputClashes p more b at) = is ∙ ap (output_text f) (first_one (IsOutputClash f) (output_numbers f) o p a b) ∙ sym at

  small_not_large : (tables : List TableBits) → IsTooLargeText f tables → IsSmallText f tables → ⊥
  small_not_large tables (inl h) small = omega (arith, h, small.bytes)
  small_not_large tables (inr (inl h)) small = omega (arith, h, small.nets)
  small_not_large tables (inr (inr h)) small = omega (arith, h, small.cells)

  pub one_answer : (tables : List TableBits) (one other : Answer) → IsFillAnswer f tables one → IsFillAnswer f tables other → one ≡ other
  one_answer tables one other (Clashes a x e) (Clashes b y h) = e ∙ ap Clash (one_clash a b x y) ∙ sym h
  one_answer tables one other (Clashes a x e) (IsLarge apart large h) = absurd (apart_no_clash a x apart)
  one_answer tables one other (Clashes a x e) (IsFilled apart small h) = absurd (apart_no_clash a x apart)
  one_answer tables one other (IsLarge apart large e) (Clashes b y h) = absurd (apart_no_clash b y apart)
  one_answer tables one other (IsLarge apart large e) (IsLarge more again h) = e ∙ sym h
  one_answer tables one other (IsLarge apart large e) (IsFilled more small h) = absurd (small_not_large tables large small)
  one_answer tables one other (IsFilled apart small e) (Clashes b y h) = absurd (apart_no_clash b y apart)
  one_answer tables one other (IsFilled apart small e) (IsLarge more large h) = absurd (small_not_large tables large small)
  one_answer tables one other (IsFilled apart small e) (IsFilled more again h) = e ∙ sym h

  decide_name : Decides (List ℕ)
  decide_name = decide_list decide_number

  decide_input : (text : List ℕ) → Decision (IsInputClash f text)
  decide_input text = decide_either (decide_contains decide_name (state_texts f) text) (decide_contains decide_name f.outs text)

  decide_state : (cell : Cell) (n : ℕ) → Decision (cell ≡ Input n)
  decide_state (Input i) n = from (decide_number i n)
    where
      from : Decision (i ≡ n) → Decision (Input i ≡ Input n)
      from (inl h) = inl (ap Input h)
      from (inr h) = inr (λ e. h (grind (arith, e)))
  decide_state (Const b) n = inr (λ e. grind (arith, e))
  decide_state (Not a) n = inr (λ e. grind (arith, e))
  decide_state (And a b) n = inr (λ e. grind (arith, e))
  decide_state (Or a b) n = inr (λ e. grind (arith, e))
  decide_state (Xor a b) n = inr (λ e. grind (arith, e))
  decide_state (Mux a b d) n = inr (λ e. grind (arith, e))
  decide_state (BoxOut a b) n = inr (λ e. grind (arith, e))

  -- the output has the text of this register, and is not it
  abbrev ClashesWith : ℕ → ℕ → Type 0
  ClashesWith o r = (output_text f o ≡ register_text f r) × (output_cell f o ≢ state_cell f r)

  opposite : {P : Type 0} → Decision P → Decision (P → ⊥)
  opposite (inl p) = inr (λ n. n p)
  opposite (inr n) = inl n

  decide_with : (o r : ℕ) → Decision (ClashesWith o r)
  decide_with o r = decide_both (decide_name (output_text f o) (register_text f r)) (opposite (decide_state (output_cell f o) (length f.ins + r)))

  its_register : (o : ℕ) → ((r : ℕ) → Contains (range_with_len 0 (length f.regs)) r → ClashesWith o r → ⊥) → IsItsRegister f o
  its_register o none = λ r lt is. from r lt is (decide_state (output_cell f o) (length f.ins + r))
    where
      from : (r : ℕ) → r < length f.regs → output_text f o ≡ register_text f r → Decision (output_cell f o ≡ state_cell f r) → output_cell f o ≡ state_cell f r
      from r lt is (inl same) = same
      from r lt is (inr other) = absurd (none r (range_there 0 (length f.regs) r (omega arith) (omega (arith, lt))) (is, other))

  decide_output : (o : ℕ) → Decision (IsOutputClash f o)
  decide_output o = from (first_or_none (ClashesWith o) (decide_with o) (range_with_len 0 (length f.regs)))
    where
      from : ((r : ℕ) → Contains (range_with_len 0 (length f.regs)) r → ClashesWith o r → ⊥) ⊎ ((r : ℕ) × IsFirst (ClashesWith o) (range_with_len 0 (length f.regs)) r) → Decision (IsOutputClash f o)
      from (inl none) = inr (λ clash. output_or_not f o clash (its_register o none))
      from (inr found) =
          let within = from_range 0 (length f.regs) found.0 (first_there (ClashesWith o) (range_with_len 0 (length f.regs)) found.0 found.1) in
          inl (found.0, omega (arith, within.1), found.1.holds.0, found.1.holds.1)

  not_clash : (o : ℕ) → (IsOutputClash f o → ⊥) → IsItsRegister f o
  not_clash o n = its_register o (λ r has with. n (r, omega (arith, (from_range 0 (length f.regs) r has).1), with.0, with.1))

  -- a name clashes, or none does
  names : ((name : List ℕ) × IsClash f name) ⊎ AreNamesApart f
  names = from (first_or_none (IsInputClash f) decide_input f.ins) (first_or_none (IsOutputClash f) decide_output (output_numbers f))
    where
      neither : (text : List ℕ) → (IsInputClash f text → ⊥) → (Contains (state_texts f) text → ⊥) × (Contains f.outs text → ⊥)
      neither text n = (λ h. n (inl h), λ h. n (inr h))

      inputs_apart : ((text : List ℕ) → Contains f.ins text → IsInputClash f text → ⊥) → AreInputsApart f
      inputs_apart none = all_from (λ text. (Contains (state_texts f) text → ⊥) × (Contains f.outs text → ⊥)) f.ins (λ text has. neither text (none text has))

      from : ((text : List ℕ) → Contains f.ins text → IsInputClash f text → ⊥) ⊎ ((text : List ℕ) × IsFirst (IsInputClash f) f.ins text)
          → ((o : ℕ) → Contains (output_numbers f) o → IsOutputClash f o → ⊥) ⊎ ((o : ℕ) × IsFirst (IsOutputClash f) (output_numbers f) o) → ((name : List ℕ) × IsClash f name) ⊎ AreNamesApart f
      from (inr found) outputs = inl (found.0, InputClashes found.1)
      from (inl none) (inr found) = inl (output_text f found.0, OutputClashes found.0 (inputs_apart none) found.1 refl)
      from (inl none) (inl no_output) = inr (record { inputs = inputs_apart none; outputs = all_from (IsItsRegister f) (output_numbers f) (λ o has. not_clash o (no_output o has)) })

  sizes : (tables : List TableBits) → IsTooLargeText f tables ⊎ IsSmallText f tables
  sizes tables = from (less_or_not most_bytes (length (filled_text f tables))) (less_or_not most_nets (net_count f tables)) (less_or_not most_filled_cells (filled_cell_count f tables))
    where
      from : (most_bytes < length (filled_text f tables)) ⊎ (length (filled_text f tables) ≤ most_bytes) → (most_nets < net_count f tables) ⊎ (net_count f tables ≤ most_nets) → (most_filled_cells < filled_cell_count f tables) ⊎ (filled_cell_count f tables ≤ most_filled_cells)
          → IsTooLargeText f tables ⊎ IsSmallText f tables
      from (inl h) b d = inl (inl h)
      from (inr a) (inl h) d = inl (inr (inl h))
      from (inr a) (inr b) (inl h) = inl (inr (inr h))
      from (inr a) (inr b) (inr d) = inr (record { bytes = a; nets = b; cells = d })

  pub some_answer : (tables : List TableBits) → (answer : Answer) × IsFillAnswer f tables answer
  some_answer tables = from names (sizes tables)
    where
      from : ((name : List ℕ) × IsClash f name) ⊎ AreNamesApart f → IsTooLargeText f tables ⊎ IsSmallText f tables → (answer : Answer) × IsFillAnswer f tables answer
      from (inl clash) size = (Clash clash.0, Clashes clash.0 clash.1 refl)
      from (inr apart) (inl large) = (TooLarge, IsLarge apart large refl)
      from (inr apart) (inr small) = (Text (filled_text f tables), IsFilled apart small refl)

pub answers_exist : AnswersExist
answers_exist f tables = some_answer f tables

pub answers_are_one : AnswersAreOne
answers_are_one f tables one other a b = one_answer f tables one other a b
