-- the tables of the cells of an implementation whose boxes are unknown
use Rattle.std.proofs.Common.{◌≡◌, ◌<◌, ℕ, Bool, false, not, ◌&&◌, ◌||◌, List, [], ◌∷◌, length, Contains, Option, refl, sym, ap, ap₂, subst, arith, ◌∙◌}
use Rattle.bb_bits.specs.Truth.{Truth, complement_of_table, joined_tables}
use Rattle.bb_net.specs.declared.cell.Cell.{Cell}
use Rattle.bb_net.specs.declared.cell.Cell.TheVariants.{Const, Input, Not, And, Or, Xor, Mux, BoxOut}
use Rattle.bb_net.specs.Netlists.{Netlist, Pins, IsNetlist, IsOrdered, ReadsBefore, cell_at}
use Rattle.bb_net.specs.Values.{bit_of}
use Rattle.bb_net.specs.Ternary.{tern, tern_of, gate3, IsTern, not3, and3, or3, xor3, mux3}
use Rattle.bb_sym.specs.Functions.{is_one, is_zero, known_one, known_zero, both, either, sum_table, choice_table, high, low, known_tables}
use Rattle.bb_sym.specs.Laws.{KnownTableLaws}
use Rattle.bb_sym.specs.Plain.{Function, table}
use Rattle.bb_sym.specs.Inside.Rails.{Rails, rails, and_rails, and_tables, or_rails, or_tables, xor_rails, xor_tables, mux_rails, mux_tables, cell_rails, tables_made, known_rails}
use Rattle.bb_sym.proofs.FunctionTables.{table_same, combined-table, constant-table, variable-table}
use Rattle.bb_sym.proofs.PairLemmas.{same_three}
use Rattle.bb_sym.proofs.KnownBits.{one_not, zero_not, one_and, zero_and, one_or, zero_or, one_xor, zero_xor, one_mux, zero_mux}

-- a netlist has a three-valued value
abbrev pub TernExists : Type 0
TernExists = (net : Netlist) (x : List Bool) → IsOrdered net → IsTern net x (tern net x)

both-table : (n : ℕ) (f g : Function) → both (table n f) (table n g) ≡ table n (λ x. f x && g x)
both-table n f g = combined-table n (λ a b c. a && b) f g f

either-table : (n : ℕ) (f g : Function) → either (table n f) (table n g) ≡ table n (λ x. f x || g x)
either-table n f g = combined-table n (λ a b c. a || b) f g f

pub sum-table : (n : ℕ) (a b c e : Function) → sum_table (table n a) (table n b) (table n c) (table n e) ≡ table n (λ x. (a x && b x) || (c x && e x))
sum-table n a b c e = ap₂ (joined_tables ◌||◌) (both-table n a b) (both-table n c e) ∙ either-table n (λ x. a x && b x) (λ x. c x && e x)

choice-table : (n : ℕ) (c d t e : Function) → choice_table (table n c) (table n d) (table n t) (table n e) ≡ table n (λ x. ((c x && t x) || (d x && e x)) || (t x && e x))
choice-table n c d t e = ap₂ (joined_tables ◌||◌) (sum-table n c t d e) (both-table n t e) ∙ either-table n (λ x. (c x && t x) || (d x && e x)) (λ x. t x && e x)

-- the two tables of a cell, by those of the places that it reads
module _ (n : ℕ) (value : ℕ → List Bool → Option Bool) where
  abbrev one_of : ℕ → Truth
  one_of k = table n (λ x. is_one (value k x))

  abbrev zero_of : ℕ → Truth
  zero_of k = table n (λ x. is_zero (value k x))

  abbrev of_place : ℕ → Rails
  of_place k = rails (one_of k) (zero_of k)

  pub one-table : (place : ℕ) (cell : Cell) → ReadsBefore n [] place cell → (cell_rails n of_place cell).one ≡ table n (λ x. is_one (gate3 x (λ k. value k x) cell))
  one-table place (Const b) reads = constant-table n b
  one-table place (Input i) reads = variable-table n i reads
  one-table place (BoxOut b p) reads = constant-table n false
  one-table place (Not a) reads = table_same n (λ x. is_zero (value a x)) (λ x. is_one (not3 (value a x))) (λ x l. sym (one_not (value a x)))
  one-table place (And a b) reads =
      both-table n (λ x. is_one (value a x)) (λ x. is_one (value b x)) ∙ table_same n (λ x. is_one (value a x) && is_one (value b x)) (λ x. is_one (and3 (value a x) (value b x))) (λ x l. sym (one_and (value a x) (value b x)))
  one-table place (Or a b) reads =
      either-table n (λ x. is_one (value a x)) (λ x. is_one (value b x)) ∙ table_same n (λ x. is_one (value a x) || is_one (value b x)) (λ x. is_one (or3 (value a x) (value b x))) (λ x l. sym (one_or (value a x) (value b x)))
  one-table place (Xor a b) reads =
      sum-table n (λ x. is_one (value a x)) (λ x. is_zero (value b x)) (λ x. is_zero (value a x)) (λ x. is_one (value b x))
      ∙ table_same n (λ x. (is_one (value a x) && is_zero (value b x)) || (is_zero (value a x) && is_one (value b x))) (λ x. is_one (xor3 (value a x) (value b x))) (λ x l. sym (one_xor (value a x) (value b x)))
  one-table place (Mux c t e) reads =
      choice-table n (λ x. is_one (value c x)) (λ x. is_zero (value c x)) (λ x. is_one (value t x)) (λ x. is_one (value e x))
      ∙ table_same n (λ x. ((is_one (value c x) && is_one (value t x)) || (is_zero (value c x) && is_one (value e x))) || (is_one (value t x) && is_one (value e x))) (λ x. is_one (mux3 (value c x) (value t x) (value e x))) (λ x l. sym (one_mux (value c x) (value t x) (value e x)))

  pub zero-table : (place : ℕ) (cell : Cell) → ReadsBefore n [] place cell → (cell_rails n of_place cell).zero ≡ table n (λ x. is_zero (gate3 x (λ k. value k x) cell))
  zero-table place (Const b) reads = constant-table n (not b)
  zero-table place (Input i) reads = ap complement_of_table (variable-table n i reads) ∙ combined-table n (λ a b c. not a) (λ x. bit_of x i) (λ x. bit_of x i) (λ x. bit_of x i)
  zero-table place (BoxOut b p) reads = constant-table n false
  zero-table place (Not a) reads = table_same n (λ x. is_one (value a x)) (λ x. is_zero (not3 (value a x))) (λ x l. sym (zero_not (value a x)))
  zero-table place (And a b) reads =
      either-table n (λ x. is_zero (value a x)) (λ x. is_zero (value b x)) ∙ table_same n (λ x. is_zero (value a x) || is_zero (value b x)) (λ x. is_zero (and3 (value a x) (value b x))) (λ x l. sym (zero_and (value a x) (value b x)))
  zero-table place (Or a b) reads =
      both-table n (λ x. is_zero (value a x)) (λ x. is_zero (value b x)) ∙ table_same n (λ x. is_zero (value a x) && is_zero (value b x)) (λ x. is_zero (or3 (value a x) (value b x))) (λ x l. sym (zero_or (value a x) (value b x)))
  zero-table place (Xor a b) reads =
      sum-table n (λ x. is_one (value a x)) (λ x. is_one (value b x)) (λ x. is_zero (value a x)) (λ x. is_zero (value b x))
      ∙ table_same n (λ x. (is_one (value a x) && is_one (value b x)) || (is_zero (value a x) && is_zero (value b x))) (λ x. is_zero (xor3 (value a x) (value b x))) (λ x l. sym (zero_xor (value a x) (value b x)))
  zero-table place (Mux c t e) reads =
      choice-table n (λ x. is_one (value c x)) (λ x. is_zero (value c x)) (λ x. is_zero (value t x)) (λ x. is_zero (value e x))
      ∙ table_same n (λ x. ((is_one (value c x) && is_zero (value t x)) || (is_zero (value c x) && is_zero (value e x))) || (is_zero (value t x) && is_zero (value e x))) (λ x. is_zero (mux3 (value c x) (value t x) (value e x))) (λ x l. sym (zero_mux (value c x) (value t x) (value e x)))

-- the bits of a cell are those of its gate
pub known-bits : TernExists → (net : Netlist) → IsNetlist net → (place : ℕ) → place < length net.cells → (x : List Bool) → tern_of (tern net x) place ≡ gate3 x (tern_of (tern net x)) (cell_at net.cells place)
known-bits exists net kept place l x = (exists net x kept.ordered).each place l

-- what a box reads does not matter
pub reads_without : (inputs place : ℕ) (boxes : List Pins) (cell : Cell) → ReadsBefore inputs boxes place cell → ReadsBefore inputs [] place cell
reads_without inputs place boxes (Const b) reads = tt
reads_without inputs place boxes (Input i) reads = reads
reads_without inputs place boxes (Not a) reads = reads
reads_without inputs place boxes (And a b) reads = reads
reads_without inputs place boxes (Or a b) reads = reads
reads_without inputs place boxes (Xor a b) reads = reads
reads_without inputs place boxes (Mux c t e) reads = reads
reads_without inputs place boxes (BoxOut b p) reads = λ k d l. absurd (omega (arith, l))

-- the tables of a cell are those that its operands' give
module _ (exists : TernExists) (net : Netlist) (kept : IsNetlist net) (place : ℕ) (there : place < length net.cells) where
  abbrev cell : Cell
  cell = cell_at net.cells place

  reads : ReadsBefore net.inputs [] place cell
  reads = reads_without net.inputs place net.boxes cell (kept.ordered place there)

  one_is : (cell_rails net.inputs (known_rails net) cell).one ≡ high net place
  one_is =
      one-table net.inputs (λ k x. tern_of (tern net x) k) place cell reads
      ∙ table_same net.inputs (λ x. is_one (gate3 x (λ k. tern_of (tern net x) k) cell)) (known_one net place) (λ x l. ap is_one (sym (known-bits exists net kept place there x)))

  zero_is : (cell_rails net.inputs (known_rails net) cell).zero ≡ low net place
  zero_is =
      zero-table net.inputs (λ k x. tern_of (tern net x) k) place cell reads
      ∙ table_same net.inputs (λ x. is_zero (gate3 x (λ k. tern_of (tern net x) k) cell)) (known_zero net place) (λ x l. ap is_zero (sym (known-bits exists net kept place there x)))

  pub rails_are : cell_rails net.inputs (known_rails net) cell ≡ known_rails net place
  rails_are = ap₂ rails one_is zero_is

-- both are among those that are made for a cell
one_listed : (n : ℕ) (at : ℕ → Rails) (cell : Cell) → Contains (tables_made n at cell) (cell_rails n at cell).one
one_listed n at (Const b) = (0, omega (arith), refl)
one_listed n at (Input i) = (0, omega (arith), refl)
one_listed n at (BoxOut b p) = (0, omega (arith), refl)
one_listed n at (Not a) = (0, omega (arith), refl)
one_listed n at (And a b) = (0, omega (arith), refl)
one_listed n at (Or a b) = (1, omega (arith), refl)
one_listed n at (Xor a b) = (2, omega (arith), refl)
one_listed n at (Mux c t e) = (4, omega (arith), refl)

zero_listed : (n : ℕ) (at : ℕ → Rails) (cell : Cell) → Contains (tables_made n at cell) (cell_rails n at cell).zero
zero_listed n at (Const b) = (1, omega (arith), refl)
zero_listed n at (Input i) = (1, omega (arith), refl)
zero_listed n at (BoxOut b p) = (0, omega (arith), refl)
zero_listed n at (Not a) = (1, omega (arith), refl)
zero_listed n at (And a b) = (1, omega (arith), refl)
zero_listed n at (Or a b) = (0, omega (arith), refl)
zero_listed n at (Xor a b) = (5, omega (arith), refl)
zero_listed n at (Mux c t e) = (9, omega (arith), refl)

pub known_table_laws : TernExists → KnownTableLaws
known_table_laws exists = record {
  high_listed = λ imp kept place there. subst (λ (t : Rails). Contains (known_tables imp place) t.one) (rails_are exists imp kept place there) (one_listed imp.inputs (known_rails imp) (cell_at imp.cells place));
  low_listed = λ imp kept place there. subst (λ (t : Rails). Contains (known_tables imp place) t.zero) (rails_are exists imp kept place there) (zero_listed imp.inputs (known_rails imp) (cell_at imp.cells place));
}

-- only the places that a cell reads count
module _ (n inputs place : ℕ) (boxes : List Pins) (at other : ℕ → Rails) (same : (k : ℕ) → k < place → at k ≡ other k) where
  pub cell_rails-same : (cell : Cell) → ReadsBefore inputs boxes place cell → cell_rails n at cell ≡ cell_rails n other cell
  cell_rails-same (Const b) reads = refl
  cell_rails-same (Input i) reads = refl
  cell_rails-same (BoxOut b p) reads = refl
  cell_rails-same (Not a) reads = ap (λ (t : Rails). rails t.zero t.one) (same a reads)
  cell_rails-same (And a b) reads = ap₂ and_rails (same a reads.0) (same b reads.1)
  cell_rails-same (Or a b) reads = ap₂ or_rails (same a reads.0) (same b reads.1)
  cell_rails-same (Xor a b) reads = ap₂ xor_rails (same a reads.0) (same b reads.1)
  cell_rails-same (Mux c t e) reads = same_three mux_rails (same c reads.0) (same t reads.1) (same e reads.2)

  pub tables_made-same : (cell : Cell) → ReadsBefore inputs boxes place cell → tables_made n at cell ≡ tables_made n other cell
  tables_made-same (Const b) reads = refl
  tables_made-same (Input i) reads = refl
  tables_made-same (BoxOut b p) reads = refl
  tables_made-same (Not a) reads = ap (λ (t : Rails). t.zero ∷ t.one ∷ []) (same a reads)
  tables_made-same (And a b) reads = ap₂ and_tables (same a reads.0) (same b reads.1)
  tables_made-same (Or a b) reads = ap₂ or_tables (same a reads.0) (same b reads.1)
  tables_made-same (Xor a b) reads = ap₂ xor_tables (same a reads.0) (same b reads.1)
  tables_made-same (Mux c t e) reads = same_three mux_tables (same c reads.0) (same t reads.1) (same e reads.2)
