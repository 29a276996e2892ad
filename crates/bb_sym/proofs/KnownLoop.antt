-- one more cell of an implementation whose boxes are unknown
use Rattle.std.proofs.Common.{◌≡◌, ◌<◌, ℕ, ◌+◌, List, ◌++◌, ◌∷◌, [], length, flat_map, sym, ap, ◌∙◌, subst, arith}
use Rattle.std.specs.List.{range_with_len}
use Rattle.bb_net.specs.declared.cell.Cell.{Cell}
use Rattle.bb_net.specs.Netlists.{Netlist, IsNetlist, ReadsBefore, cell_at}
use Rattle.bb_uniq.specs.Inside.Nodes.{NodeStore}
use Rattle.bb_sym.specs.declared.known_gates.DualRail.{DualRail}
use Rattle.bb_sym.specs.Functions.{known_tables}
use Rattle.bb_sym.specs.Plain.{cell_numbers}
use Rattle.bb_sym.specs.Inside.Made.{Makes, AreTooMany}
use Rattle.bb_sym.specs.Inside.Rails.{HaveRails, HaveAllRails, pair_at, rails_at, cell_rails, tables_made, known_rails}
use Rattle.bb_sym.proofs.OutputLoop.{flat_makes, flat_refused}
use Rattle.bb_sym.proofs.KnownTables.{TernExists, reads_without, rails_are, cell_rails-same, tables_made-same}
use Rattle.bb_sym.proofs.RailLemmas.{HaveRails-tables, HaveAllRails-push}

-- so many cells are made since the first store
pub record KnownMade (first now : NodeStore) (net : Netlist) (made : List DualRail) (i : ℕ) : Type 0 where
  pub kept : IsNetlist net
  pub fit : net.inputs ≡ first.vars
  pub there : i < length net.cells
  pub count : length made ≡ i
  pub occur : HaveAllRails now (known_rails net) made
  pub makes : Makes first now (flat_map (known_tables net) (range_with_len 0 i))

module _ (first now : NodeStore) (net : Netlist) (made : List DualRail) (i : ℕ) (m : KnownMade first now net made i) where
  abbrev cell : Cell
  cell = cell_at net.cells i

  pub vars_is : now.vars ≡ net.inputs
  vars_is = m.makes.kept.vars ∙ sym m.fit

  same : (k : ℕ) → k < i → rails_at now made k ≡ known_rails net k
  same k l = HaveRails-tables now (known_rails net k) (pair_at made k) (m.occur k (omega (arith, l, m.count)))

  reads : ReadsBefore net.inputs net.boxes i cell
  reads = m.kept.ordered i m.there

  pub next_reads : ReadsBefore now.vars [] i cell
  next_reads = subst (λ n. ReadsBefore n [] i cell) (sym vars_is) (reads_without net.inputs i net.boxes cell reads)

  next_rails : TernExists → cell_rails now.vars (rails_at now made) cell ≡ known_rails net i
  next_rails exists =
      ap (λ n. cell_rails n (rails_at now made) cell) vars_is
      ∙ (cell_rails-same net.inputs net.inputs i net.boxes (rails_at now made) (known_rails net) same cell reads
      ∙ rails_are exists net m.kept i m.there)

  next_tables : tables_made now.vars (rails_at now made) cell ≡ known_tables net i
  next_tables =
      ap (λ n. tables_made n (rails_at now made) cell) vars_is
      ∙ tables_made-same net.inputs net.inputs i net.boxes (rails_at now made) (known_rails net) same cell reads

  pub known_refused : AreTooMany now (tables_made now.vars (rails_at now made) cell) → AreTooMany first (flat_map (known_tables net) (cell_numbers net))
  known_refused many = flat_refused first now (known_tables net) i (length net.cells) m.there m.makes (subst (AreTooMany now) next_tables many)

  module _ (new : NodeStore) (makes : Makes now new (tables_made now.vars (rails_at now made) cell)) where
    pub known_made : Makes first new (flat_map (known_tables net) (range_with_len 0 (i + 1)))
    known_made = flat_makes first now new (known_tables net) i m.makes (subst (Makes now new) next_tables makes)

    pub known_next : TernExists → (r : DualRail) → HaveRails new (cell_rails now.vars (rails_at now made) cell) r → HaveAllRails new (known_rails net) (made ++ r ∷ [])
    known_next exists r h = HaveAllRails-push now new (known_rails net) made r i m.count makes.kept m.occur (subst (λ t. HaveRails new t r) (next_rails exists) h)

-- the parts as the loop reads them
pub known_parts : (first now : NodeStore) (net : Netlist) (i : ℕ) (cells : List Cell) (made read : List DualRail) → IsNetlist net → net.inputs ≡ first.vars → cells ≡ net.cells → i < length cells → read ≡ made →
    (length made ≡ i) × HaveAllRails now (known_rails net) made × Makes first now (flat_map (known_tables net) (range_with_len 0 i)) → KnownMade first now net read i
known_parts first now net i cells made read kept fit same there is invariant = record {
  kept = kept;
  fit = fit;
  there = omega (arith, there, ap length same);
  count = ap length is ∙ invariant.0;
  occur = subst (HaveAllRails now (known_rails net)) (sym is) invariant.1;
  makes = invariant.2;
}
