-- Where the lines are met, the words have the bits of the netlist.
use Rattle.std.proofs.Common.{◌≡◌, ◌∙◌, ◌⊎◌, inl, inr, ℕ, ◌<◌, ◌≤◌, Bool, true, false, if◌then◌else◌, List, [], ◌∷◌, length, map, refl, sym, ap, arith}
use Rattle.std.specs.Prelude.{slice_index}
use Rattle.std.specs.List.{range_with_len, slice_index_or}
use Rattle.std.proofs.lemmas.List.{get_or-append-add, get_or_default, get_or_past, length-map}
use Rattle.std.proofs.lemmas.List.Elements.{All-contains, All-head}
use Rattle.std.proofs.lemmas.List.FromFn.{get_or-map-range_with_len, length-map-range_with_len}
use Rattle.bb_bits.specs.Earlier.{has_name}
use Rattle.bb_bits.specs.Names.{same_name}
use Rattle.bb_bits.specs.Tables.{TableBits}
use Rattle.bb_lemmas.proofs.Members.{any_there}
use Rattle.bb_lemmas.proofs.Names.{same_equal}
use Rattle.bb_lemmas.proofs.Orders.{less_or_not}
use Rattle.bb_lemmas.proofs.Ranges.{range_there}
use Rattle.bb_net.specs.declared.cell.Cell.TheVariants.{Const}
use Rattle.bb_net.specs.CutPoints.{state_texts}
use Rattle.bb_net.specs.Flats.{FlatNet}
use Rattle.bb_net.specs.Netlists.{IsOrdered, Netlist, cell_at}
use Rattle.bb_net.specs.Values.{IsValue, bit_of, flat_with, gate, tabled_bit, value_of}
use Rattle.bb_fill.specs.Words.{NetWord, Bit, Named, cell_word, word_at}
use Rattle.bb_fill.specs.Lines.{Gate, Buf}
use Rattle.bb_fill.specs.Filled.{filled_lines, output_text}
use Rattle.bb_fill.specs.Clashes.{AreNamesApart, IsItsRegister, output_numbers, register_text}
use Rattle.bb_fill.specs.Laws.{AreMet, GivesBitsOf, IsMet, IsReady, LinesHaveBits, TreesChoose}
use Rattle.bb_fill.proofs.LineParts.{part_of_cell, part_of_output}
use Rattle.bb_fill.proofs.MetCells.{tables_fit, word_bit, word_from_lines}

-- a netlist has one value
abbrev pub ValuesAreOne : Type 0
ValuesAreOne = (net : Netlist) (x : List Bool) (box : ℕ → ℕ → List Bool → Bool) (bits : List Bool) → IsOrdered net → IsValue net x box bits → bits ≡ value_of net x box

-- after the last cell is the number 0
pub word_past : (f : FlatNet) (k : ℕ) → length f.net.cells ≤ k → word_at f k ≡ Bit false
word_past f k past = ap (cell_word f k) (get_or_past f.net.cells k (Const false) past)

-- where a register has the text of an output, the output is that register, and is called by its text
pub register_word : (f : FlatNet) (o : ℕ) → AreNamesApart f → o < length f.outs → has_name (output_text f o) (state_texts f) ≡ true → word_at f (slice_index f.net.outs o) ≡ Named (output_text f o)
register_word f o apart within named =
    let found = any_there (same_name (output_text f o)) (state_texts f) named in
    let r = found.1.0 in
    let text : slice_index_or (state_texts f) r [] ≡ found.0 = get_or_default (state_texts f) r [] found.0 found.1.1 ∙ found.1.2 in
    let same : output_text f o ≡ register_text f r = same_equal (output_text f o) found.0 found.2 ∙ sym text in
    let number : r < length f.regs = omega (arith, found.1.1, length-map f.regs (λ q. q.text)) in
    let its : IsItsRegister f o = All-contains (IsItsRegister f) (output_numbers f) o apart.outputs (range_there 0 (length f.outs) o (omega arith) (omega (arith, within))) in
    ap (cell_word f (slice_index f.net.outs o)) (its r number same) ∙ ap Named (get_or-append-add f.ins (state_texts f) r [] ∙ sym same)

module _ (f : FlatNet) (tables : List TableBits) (ready : IsReady f tables) (x : List Bool) (bit : NetWord → Bool) (gives : GivesBitsOf f x bit) (met : AreMet bit (filled_lines f tables)) where
  -- the bits of the words, cell by cell
  abbrev bits : List Bool
  bits = map (word_bit f bit) (range_with_len 0 (length f.net.cells))

  bits-at : (k : ℕ) → bit_of bits k ≡ word_bit f bit k
  bits-at k = by (less_or_not k (length f.net.cells))
    where
      by : (k < length f.net.cells) ⊎ (length f.net.cells ≤ k) → bit_of bits k ≡ word_bit f bit k
      by (inl within) = get_or-map-range_with_len (word_bit f bit) 0 (length f.net.cells) k k false within (omega arith)
      by (inr past) =
          get_or_past bits k false (omega (arith, past, length-map-range_with_len (word_bit f bit) 0 (length f.net.cells)))
          ∙ sym (ap bit (word_past f k past) ∙ gives.numbers false)

  -- they are its value
  bits_are_value : TreesChoose → IsValue f.net x (tabled_bit tables) bits
  bits_are_value choose = record {
    whole = length-map-range_with_len (word_bit f bit) 0 (length f.net.cells);
    each = λ place there.
        let c = cell_at f.net.cells place in
        bits-at place
        ∙ word_from_lines f tables x bit choose gives.numbers (tables_fit tables f.net.boxes ready.fit) gives.inputs place c (ready.flat.net.ordered place there) (part_of_cell (IsMet bit) f tables met place there)
        ∙ ap (λ v. gate f.net.boxes x (tabled_bit tables) v c) (λ i k. sym (bits-at k) i);
  }

  word_has_bit : TreesChoose → ValuesAreOne → (k : ℕ) → word_bit f bit k ≡ bit_of (flat_with f.net x tables) k
  word_has_bit choose one k = sym (bits-at k) ∙ ap (λ l. bit_of l k) (one f.net x (tabled_bit tables) bits ready.flat.net.ordered (bits_are_value choose))

  -- an output is a register, or a copy
  output_bit : (o : ℕ) → o < length f.outs → bit (Named (output_text f o)) ≡ word_bit f bit (slice_index f.net.outs o)
  output_bit o within = by (has_name (output_text f o) (state_texts f)) refl (part_of_output (IsMet bit) f tables met o within)
    where
      by : (b : Bool) → has_name (output_text f o) (state_texts f) ≡ b → AreMet bit (if b then [] else Gate Buf (Named (output_text f o)) (word_at f (slice_index f.net.outs o) ∷ []) ∷ [])
          → bit (Named (output_text f o)) ≡ word_bit f bit (slice_index f.net.outs o)
      by true named line = sym (ap bit (register_word f o ready.names within named))
      by false named line = All-head (IsMet bit) (Gate Buf (Named (output_text f o)) (word_at f (slice_index f.net.outs o) ∷ [])) [] line

pub lines_have_bits : TreesChoose → ValuesAreOne → LinesHaveBits
lines_have_bits choose one f tables ready x bit vector gives met =
    let has = word_has_bit f tables ready x bit gives met choose one in
    record {
      cells = λ k within. has k;
      outputs = λ o within. output_bit f tables ready x bit gives met o within ∙ has (slice_index f.net.outs o);
    }
