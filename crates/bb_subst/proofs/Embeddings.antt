-- In a netlist in which another is, each cell has at its place the bit that it had.
use Rattle.std.proofs.Common.{◌≡◌, ℕ, ◌<◌, Bool, false, ◌&&◌, ◌||◌, not, if◌then◌else◌, List, [], ◌∷◌, length, map, refl, sym, ap, ap₂, ◌∙◌, arith}
use Rattle.std.specs.Prelude.{All}
use Rattle.std.specs.List.{range_with_len}
use Rattle.std.proofs.lemmas.List.Elements.{All-head, All-tail}
use Rattle.std.proofs.lemmas.List.FromFn.{length-map-range_with_len, get_or-map-range_with_len}
use Rattle.bb_net.specs.declared.cell.Cell.{Cell}
use Rattle.bb_net.specs.declared.cell.Cell.TheVariants.{Const, Input, Not, And, Or, Xor, Mux, BoxOut}
use Rattle.bb_net.specs.Netlists.{Netlist, cell_at, box_at, ReadsBefore, IsOrdered}
use Rattle.bb_net.specs.Values.{bit_of, gate, value_of, xor, IsValue}
use Rattle.bb_subst.specs.Embeddings.{OccursAt}
use Rattle.bb_subst.specs.Laws.EmbeddingLaws.{OccurrencesKeepBits}

abbrev pub ValuesExist : Type 0
ValuesExist = (net : Netlist) (x : List Bool) (box : ℕ → ℕ → List Bool → Bool) → IsOrdered net → IsValue net x box (value_of net x box)

abbrev pub ValuesAreOne : Type 0
ValuesAreOne = (net : Netlist) (x : List Bool) (box : ℕ → ℕ → List Bool → Bool) (bits : List Bool) → IsOrdered net → IsValue net x box bits → bits ≡ value_of net x box

map_below : (f g : ℕ → Bool) (m : ℕ) → ((k : ℕ) → k < m → f k ≡ g k) → (xs : List ℕ) → All (λ k. k < m) xs → map f xs ≡ map g xs
map_below f g m same [] all = refl
map_below f g m same (x ∷ xs) all = ap₂ ◌∷◌ (same x (All-head (λ k. k < m) x xs all)) (map_below f g m same xs (All-tail (λ k. k < m) x xs all))

module _ (old new : Netlist) (at : ℕ → ℕ) (x : List Bool) (one other : ℕ → ℕ → List Bool → Bool) (v : ℕ → Bool) (bits : ℕ → Bool) (place k : ℕ)
    (earlier : (k : ℕ) → k < place → v (at k) ≡ bits k) (here : (d : Cell) → cell_at new.cells k ≡ d → v k ≡ gate new.boxes x other v d) where
  -- a cell has the bit that it had where its operands have
  cell_keeps : (c : Cell) → ReadsBefore old.inputs old.boxes place c → OccursAt new.cells at c k
      → ((b p : ℕ) → c ≡ BoxOut b p → v k ≡ one b p (map (λ pin. v (at pin)) (box_at old.boxes b).ins)) → v k ≡ gate old.boxes x one bits c
  cell_keeps (Const b) reads occurs given = here (Const b) occurs
  cell_keeps (Input i) reads occurs given = here (Input i) occurs
  cell_keeps (Not a) reads occurs given = here (Not (at a)) occurs ∙ ap not (earlier a reads)
  cell_keeps (And a b) reads occurs given = here (And (at a) (at b)) occurs ∙ ap₂ ◌&&◌ (earlier a reads.0) (earlier b reads.1)
  cell_keeps (Or a b) reads occurs given = here (Or (at a) (at b)) occurs ∙ ap₂ ◌||◌ (earlier a reads.0) (earlier b reads.1)
  cell_keeps (Xor a b) reads occurs given = here (Xor (at a) (at b)) occurs ∙ ap₂ xor (earlier a reads.0) (earlier b reads.1)
  cell_keeps (Mux c t e) reads occurs given =
      here (Mux (at c) (at t) (at e)) occurs ∙ ap₂ (λ (y z : Bool). if v (at c) then y else z) (earlier t reads.1) (earlier e reads.2)
      ∙ ap (λ (y : Bool). if y then bits t else bits e) (earlier c reads.0)
  cell_keeps (BoxOut b p) reads occurs given = given b p refl ∙ ap (one b p) (map_below (λ pin. v (at pin)) bits place earlier (box_at old.boxes b).ins reads)

module _ (exist : ValuesExist) (once : ValuesAreOne) where
  pub occurrences_keep_bits : OccurrencesKeepBits
  occurrences_keep_bits old new at kept_old kept_new s x one other given k lt = sym (own k lt) ∙ ap (λ l. bit_of l k) whole
    where
      v : ℕ → Bool
      v = bit_of (value_of new x other)

      f : ℕ → Bool
      f k = v (at k)

      bits : List Bool
      bits = map f (range_with_len 0 (length old.cells))

      own : (k : ℕ) → k < length old.cells → bit_of bits k ≡ f k
      own k h = get_or-map-range_with_len f 0 (length old.cells) k k false h (omega arith)

      here : (k : ℕ) → k < length old.cells → f k ≡ gate old.boxes x one (bit_of bits) (cell_at old.cells k)
      here k h =
          cell_keeps old new at x one other v (bit_of bits) k (at k) (λ j low. sym (own j (omega (arith, low, h))))
          (λ d e. (exist new x other kept_new.ordered).each (at k) (s.there k h) ∙ ap (gate new.boxes x other v) e)
          (cell_at old.cells k) (kept_old.ordered k h) (s.cells k h) (λ b p e. given k b p h e)

      is : IsValue old x one bits
      is = record { whole = length-map-range_with_len f 0 (length old.cells); each = λ k h. own k h ∙ here k h }

      whole : bits ≡ value_of old x one
      whole = once old x one bits kept_old.ordered is
