-- The parts of a filled text: declarations, the lines of the cells, those of the outputs, and those of the registers.
use Rattle.std.proofs.Common.{ℕ, ◌<◌, List, [], ◌∷◌, ◌++◌, length, map, arith}
use Rattle.std.specs.Prelude.{All}
use Rattle.std.specs.List.{flat_map, range_with_len}
use Rattle.std.proofs.lemmas.List.Elements.{All-append, All-contains, All-push}
use Rattle.bb_bits.specs.Tables.{TableBits}
use Rattle.bb_lemmas.proofs.Members.{all_from, from_flat}
use Rattle.bb_lemmas.proofs.Ranges.{from_range, range_there}
use Rattle.bb_lemmas.proofs.Turns.{all_flat}
use Rattle.bb_net.specs.CutPoints.{state_texts}
use Rattle.bb_net.specs.Flats.{FlatNet}
use Rattle.bb_net.specs.Netlists.{cell_at}
use Rattle.bb_fill.specs.Lines.{Line, Module, Input, Output, Reg, End}
use Rattle.bb_fill.specs.Filled.{cell_lines, filled_lines, lines_of_cells, output_lines, register_lines}
use Rattle.bb_fill.proofs.Lists.{all_left, all_right}

abbrev pub declarations : FlatNet → List Line
declarations f = Module (f.ins ++ f.outs) ∷ map Input f.ins ++ map Output f.outs ++ map Reg (state_texts f)

abbrev pub lines_of_outputs : FlatNet → List Line
lines_of_outputs f = flat_map (output_lines f) (range_with_len 0 (length f.outs))

-- what holds of each number's list holds of all

pub all_of_number : {A : Type 0} (P : A → Type 0) (g : ℕ → List A) (n k : ℕ) → k < n → All P (flat_map g (range_with_len 0 n)) → All P (g k)
all_of_number P g n k within all = all_flat P g (range_with_len 0 n) k (range_there 0 n k (omega arith) (omega (arith, within))) all

pub all_of_numbers : {A : Type 0} (P : A → Type 0) (g : ℕ → List A) (n : ℕ) → ((k : ℕ) → k < n → All P (g k)) → All P (flat_map g (range_with_len 0 n))
all_of_numbers P g n each = all_from P (flat_map g (range_with_len 0 n)) (λ y has.
    let at = from_flat g (range_with_len 0 n) y has in
    let within = from_range 0 n at.0 at.1 in
    All-contains P (g at.0) y (each at.0 (omega (arith, within.1))) at.2)

module _ (P : Line → Type 0) (f : FlatNet) (tables : List TableBits) where
  pub part_of_cell : All P (filled_lines f tables) → (k : ℕ) → k < length f.net.cells → All P (cell_lines f tables k (cell_at f.net.cells k))
  part_of_cell all k within =
      let after = all_left P (declarations f ++ lines_of_cells f tables ++ lines_of_outputs f ++ register_lines f 0 f.regs) (End ∷ []) all in
      let outputs = all_left P (declarations f ++ lines_of_cells f tables ++ lines_of_outputs f) (register_lines f 0 f.regs) after in
      let cells = all_right P (declarations f) (lines_of_cells f tables) (all_left P (declarations f ++ lines_of_cells f tables) (lines_of_outputs f) outputs) in
      all_of_number P (λ j. cell_lines f tables j (cell_at f.net.cells j)) (length f.net.cells) k within cells

  pub part_of_output : All P (filled_lines f tables) → (o : ℕ) → o < length f.outs → All P (output_lines f o)
  part_of_output all o within =
      let after = all_left P (declarations f ++ lines_of_cells f tables ++ lines_of_outputs f ++ register_lines f 0 f.regs) (End ∷ []) all in
      let outputs = all_left P (declarations f ++ lines_of_cells f tables ++ lines_of_outputs f) (register_lines f 0 f.regs) after in
      all_of_number P (output_lines f) (length f.outs) o within (all_right P (declarations f ++ lines_of_cells f tables) (lines_of_outputs f) outputs)

  pub all_parts : All P (declarations f) → ((k : ℕ) → k < length f.net.cells → All P (cell_lines f tables k (cell_at f.net.cells k))) → ((o : ℕ) → o < length f.outs → All P (output_lines f o))
      → All P (register_lines f 0 f.regs) → P End → All P (filled_lines f tables)
  all_parts prefix cells outputs registers last =
      let some = All-append P (declarations f) (lines_of_cells f tables) prefix (all_of_numbers P (λ j. cell_lines f tables j (cell_at f.net.cells j)) (length f.net.cells) cells) in
      let more = All-append P (declarations f ++ lines_of_cells f tables) (lines_of_outputs f) some (all_of_numbers P (output_lines f) (length f.outs) outputs) in
      let all = All-append P (declarations f ++ lines_of_cells f tables ++ lines_of_outputs f) (register_lines f 0 f.regs) more registers in
      All-push P (declarations f ++ lines_of_cells f tables ++ lines_of_outputs f ++ register_lines f 0 f.regs) End all last
