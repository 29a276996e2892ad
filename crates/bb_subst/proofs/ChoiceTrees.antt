-- A tree gives the bit of its column that the bits at the pins choose.
use Rattle.std.proofs.Common.{◌≡◌, ℕ, suc, ◌+◌, ◌^◌, ◌<◌, Bool, true, false, if◌then◌else◌, List, [], ◌∷◌, ◌++◌, length, map, sym, ap, ap₂, ◌∙◌, arith, length-append}
use Rattle.std.specs.List.{slice_index_or}
use Rattle.std.proofs.lemmas.List.{length-map, get_or_append_left, get_or-append-add}
use Rattle.bb_bits.specs.Numbers.{number_of}
use Rattle.bb_net.specs.declared.cell.Cell.{Cell}
use Rattle.bb_net.specs.declared.cell.Cell.TheVariants.{Const, Mux}
use Rattle.bb_net.specs.Netlists.{Netlist, cell_at, IsNetlist}
use Rattle.bb_net.specs.Values.{bit_of, gate, value_of}
use Rattle.bb_subst.specs.Trees.{IsTree}
use Rattle.bb_subst.specs.Laws.EmbeddingLaws.{TreesChoose}
use Rattle.bb_subst.proofs.Embeddings.{ValuesExist}

-- the number that bits spell is below the number of lists of so many bits
abbrev pub NumbersAreBelow : Type 0
NumbersAreBelow = (bits : List Bool) → number_of bits < 2 ^ length bits

columns_long : (cells : List Cell) (pins : List ℕ) (column : List Bool) (place : ℕ) → IsTree cells pins column place → length column ≡ 2 ^ length pins
columns_long cells [] column place tree = ap length tree.2
columns_long cells (pin ∷ pins) column place tree =
    let a = columns_long cells pins tree.1 tree.3 tree.8 in
    let b = columns_long cells pins tree.2 tree.4 tree.9 in
    let long : length column ≡ length tree.1 + length tree.2 = ap length tree.5 ∙ length-append tree.1 tree.2 in
    let twice : 2 ^ suc (length pins) ≡ 2 ^ length pins + 2 ^ length pins = omega arith in
    long ∙ ap₂ ◌+◌ a b ∙ sym twice

module _ (net : Netlist) (kept : IsNetlist net) (x : List Bool) (box : ℕ → ℕ → List Bool → Bool) (exist : ValuesExist) (below : NumbersAreBelow) where
  abbrev v : ℕ → Bool
  v = bit_of (value_of net x box)

  cell_bit : (place : ℕ) (c : Cell) → place < length net.cells → cell_at net.cells place ≡ c → v place ≡ gate net.boxes x box v c
  cell_bit place c lt is = (exist net x box kept.ordered).each place lt ∙ ap (gate net.boxes x box v) is

  chosen : (b : Bool) (lower upper : List Bool) (n k : ℕ) → length lower ≡ n → k < n → slice_index_or (lower ++ upper) (if b then n + k else k) false ≡ (if b then slice_index_or upper k false else slice_index_or lower k false)
  chosen true lower upper n k long lt = ap (λ m. slice_index_or (lower ++ upper) (m + k) false) (sym long) ∙ get_or-append-add lower upper k false
  chosen false lower upper n k long lt = get_or_append_left lower upper false k (omega (arith, long, lt))

  pub chooses : (pins : List ℕ) (column : List Bool) (place : ℕ) → IsTree net.cells pins column place → v place ≡ slice_index_or column (number_of (map v pins)) false
  chooses [] column place tree = cell_bit place (Const tree.1) tree.0 tree.3 ∙ sym (ap (λ l. slice_index_or l 0 false) tree.2)
  chooses (pin ∷ pins) column place tree =
      let lower = tree.1 in
      let upper = tree.2 in
      let down = chooses pins lower tree.3 tree.8 in
      let up = chooses pins upper tree.4 tree.9 in
      let n = number_of (map v pins) in
      let long : length lower ≡ 2 ^ length (map v pins) = columns_long net.cells pins lower tree.3 tree.8 ∙ ap (λ m. 2 ^ m) (sym (length-map pins v)) in
      cell_bit place (Mux pin tree.4 tree.3) tree.0 tree.7 ∙ ap₂ (λ (y z : Bool). if v pin then y else z) up down
      ∙ sym (chosen (v pin) lower upper (2 ^ length (map v pins)) n long (below (map v pins)))
      ∙ sym (ap (λ l. slice_index_or l (number_of (map v (pin ∷ pins))) false) tree.5)

pub trees_choose : ValuesExist → NumbersAreBelow → TreesChoose
trees_choose exist below net kept x box pins column place tree = chooses net kept x box exist below pins column place tree
