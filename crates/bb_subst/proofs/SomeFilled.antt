-- Tables that fit the boxes of a netlist have one that is filled with them: cell by cell, one more may be.
use Rattle.std.proofs.Common.{◌≡◌, ℕ, zero, suc, ◌+◌, ◌-◌, ◌^◌, ◌<◌, ◌≤◌, ◌⊎◌, inl, inr, false, Bool, List, [], ◌∷◌, ◌++◌, length, map, All, refl, sym, ap, ap₂, ◌∙◌, subst, arith, length-append}
use Rattle.std.specs.Prelude.{slice_index}
use Rattle.std.specs.List.{range_with_len}
use Rattle.std.proofs.lemmas.List.{get_or_push, length-map}
use Rattle.std.proofs.lemmas.List.Elements.{All-get_or, All-weaker}
use Rattle.bb_bits.specs.Tables.{TableBits, table_bit, column}
use Rattle.bb_lemmas.proofs.Ranges.{length-run}
use Rattle.bb_net.specs.declared.cell.Cell.{Cell}
use Rattle.bb_net.specs.declared.cell.Cell.TheVariants.{Const, Input, Not, And, Or, Xor, Mux, BoxOut}
use Rattle.bb_net.specs.Netlists.{Netlist, Pins, IsNetlist, ReadsBefore, box_at, cell_at, first_cells}
use Rattle.bb_net.specs.Values.{FitBoxes, table_at}
use Rattle.bb_subst.specs.Embeddings.{OccursAt}
use Rattle.bb_subst.specs.Filled.{IsFilled}
use Rattle.bb_subst.specs.Inside.Filling.{GrowsBy, HasConstants, IsFilledUpTo, cost}
use Rattle.bb_subst.specs.Laws.FilledLaws.{FilledExist}
use Rattle.bb_subst.specs.Trees.{IsTree, IsInTree}
use Rattle.bb_subst.proofs.CellCosts.{costs_are_few}
use Rattle.bb_subst.proofs.FilledNets.{box_there}
use Rattle.bb_subst.proofs.FilledTrees.{all_mapped, grow_less, tree_there}
use Rattle.bb_subst.proofs.FillingSteps.{begun_is, cost_some, filled_is, filled_next, first_long}
use Rattle.bb_subst.proofs.GateCells.{IsGateAt, IsPlain, one_more, plain_first, plain_is_netlist, plain_more}
use Rattle.bb_subst.proofs.SomeTrees.{HasTree, some_tree}

-- the new cells with what stands for a cell after them
record HasCell (boxes : List Pins) (tables : List TableBits) (new : Netlist) (at : ℕ → ℕ) (c : Cell) : Type 0 where
  more : Netlist
  place : ℕ
  plain : IsPlain more
  grows : GrowsBy new more (cost boxes c)
  there : place < length more.cells
  occurs : OccursAt more.cells at c place
  tree : (b p : ℕ) → c ≡ BoxOut b p → IsTree more.cells (map at (box_at boxes b).ins) (column (table_at tables b) p) place
  only : (q : ℕ) → length new.cells ≤ q → q < length more.cells → (q ≡ place) ⊎ ((b p : ℕ) × (c ≡ BoxOut b p) × IsInTree more.cells (map at (box_at boxes b).ins) place q)

module _ (boxes : List Pins) (tables : List TableBits) (fit : FitBoxes tables boxes) (new : Netlist) (plain : IsPlain new) (at : ℕ → ℕ) where
  -- a gate stands for a gate
  some_gate : (c d : Cell) → IsGateAt new.inputs (length new.cells) d → ((b p : ℕ) → c ≡ BoxOut b p → ⊥) → OccursAt (new.cells ++ d ∷ []) at c (length new.cells) → HasCell boxes tables new at c
  some_gate c d gate no_box occurs = record {
    more = one_more new d;
    place = length new.cells;
    plain = plain_more new d plain gate;
    grows = record { inputs = refl; boxes = refl; outs = refl; more = d ∷ []; cells = refl; few = cost_some boxes c };
    there = omega (arith, length-append new.cells (d ∷ []));
    occurs = occurs;
    tree = λ b p is. absurd (no_box b p is);
    only = λ q past lt. inl (omega (arith, past, lt, length-append new.cells (d ∷ [])));
  }

  last : (d : Cell) → cell_at (new.cells ++ d ∷ []) (length new.cells) ≡ d
  last d = get_or_push new.cells d (Const false) (length new.cells) refl

  -- a tree stands for an output pin
  some_pin : HasConstants new.cells → (b p : ℕ) → b < length boxes → All (λ k. at k < length new.cells) (box_at boxes b).ins → HasCell boxes tables new at (BoxOut b p)
  some_pin constants b p there reads =
      record {
        more = grown.new;
        place = grown.root;
        plain = grown.plain;
        grows = grow_less new grown.new (2 ^ length pins - 1) (2 ^ length (box_at boxes b).ins) (omega (arith, ap (λ (n : ℕ). 2 ^ n) many)) grown.grows;
        there = tree_there grown.new.cells pins (column (table_at tables b) p) grown.root grown.tree;
        occurs = tt;
        tree = λ c q is. subst (λ (n : ℕ). IsTree grown.new.cells (map at (box_at boxes n).ins) (column (table_at tables n) q) grown.root) (grind (arith, is))
            (subst (λ (n : ℕ). IsTree grown.new.cells pins (column (table_at tables b) n) grown.root) (grind (arith, is)) grown.tree);
        only = λ q past lt. inr (b, p, refl, grown.only q past lt);
      }
    where
      pins : List ℕ
      pins = map at (box_at boxes b).ins

      many : length pins ≡ length (box_at boxes b).ins
      many = length-map (box_at boxes b).ins at

      long : length (column (table_at tables b) p) ≡ 2 ^ length pins
      long = length-run {A = Bool} (λ row. table_bit (table_at tables b) row p) 0 (2 ^ (table_at tables b).inputs) ∙ ap (λ (n : ℕ). 2 ^ n) (fit.inputs b there ∙ sym many)

      grown : HasTree new pins (column (table_at tables b) p)
      grown = some_tree pins (column (table_at tables b) p) new plain constants (all_mapped at (λ k. k < length new.cells) (box_at boxes b).ins reads) long

  -- something stands for each cell, where what it reads is
  some_cell : HasConstants new.cells → (k : ℕ) → ((j : ℕ) → j < k → at j < length new.cells) → (c : Cell) → ReadsBefore new.inputs boxes k c → ((b p : ℕ) → c ≡ BoxOut b p → b < length boxes) → HasCell boxes tables new at c
  some_cell constants k there (Const b) reads box = some_gate (Const b) (Const b) tt (λ c p is. grind (arith, is)) (last (Const b))
  some_cell constants k there (Input i) reads box = some_gate (Input i) (Input i) reads (λ c p is. grind (arith, is)) (last (Input i))
  some_cell constants k there (Not a) reads box = some_gate (Not a) (Not (at a)) (there a reads) (λ c p is. grind (arith, is)) (last (Not (at a)))
  some_cell constants k there (And a b) reads box = some_gate (And a b) (And (at a) (at b)) (there a reads.0, there b reads.1) (λ c p is. grind (arith, is)) (last (And (at a) (at b)))
  some_cell constants k there (Or a b) reads box = some_gate (Or a b) (Or (at a) (at b)) (there a reads.0, there b reads.1) (λ c p is. grind (arith, is)) (last (Or (at a) (at b)))
  some_cell constants k there (Xor a b) reads box = some_gate (Xor a b) (Xor (at a) (at b)) (there a reads.0, there b reads.1) (λ c p is. grind (arith, is)) (last (Xor (at a) (at b)))
  some_cell constants k there (Mux c t e) reads box =
      some_gate (Mux c t e) (Mux (at c) (at t) (at e)) (there c reads.0, there t reads.1, there e reads.2) (λ b p is. grind (arith, is)) (last (Mux (at c) (at t) (at e)))
  some_cell constants k there (BoxOut b p) reads box = some_pin constants b p (box b p refl) (All-weaker (λ j. j < k) (λ j. at j < length new.cells) there (box_at boxes b).ins reads)

-- so many cells are, and are plain
record Occur (old : Netlist) (tables : List TableBits) (count : ℕ) : Type 0 where
  mid : Netlist
  places : List ℕ
  plain : IsPlain mid
  so : IsFilledUpTo old tables count mid places

module _ (old : Netlist) (kept : IsNetlist old) (tables : List TableBits) (fit : FitBoxes tables old.boxes) where
  one_cell : (k : ℕ) → k < length old.cells → Occur old tables k → Occur old tables (k + 1)
  one_cell k lt occur =
      record {
        mid = cell.more;
        places = occur.places ++ cell.place ∷ [];
        plain = cell.plain;
        so = filled_next old kept tables k occur.mid cell.more occur.places cell.place lt occur.so cell.grows cell.there cell.occurs cell.tree cell.only;
      }
    where
      at : ℕ → ℕ
      at = slice_index occur.places

      there : (j : ℕ) → j < k → at j < length occur.mid.cells
      there j low = All-get_or (λ j. j < length occur.mid.cells) occur.places j 0 (omega (arith, low, occur.so.long)) occur.so.there

      reads : ReadsBefore occur.mid.inputs old.boxes k (cell_at old.cells k)
      reads = subst (λ (n : ℕ). ReadsBefore n old.boxes k (cell_at old.cells k)) (sym occur.so.inputs) (kept.ordered k lt)

      cell : HasCell old.boxes tables occur.mid at (cell_at old.cells k)
      cell = some_cell old.boxes tables fit occur.mid occur.plain at occur.so.constants k there (cell_at old.cells k) reads (λ b p is. box_there old.boxes b p (kept.listed k b p lt is).0)

  other_cells : (m k : ℕ) → k + m ≡ length old.cells → Occur old tables k → Occur old tables (length old.cells)
  other_cells zero k e occur = subst (Occur old tables) (omega (arith, e)) occur
  other_cells (suc m) k e occur = other_cells m (k + 1) (omega (arith, e)) (one_cell k (omega (arith, e)) occur)

  abbrev first : Netlist
  first = record { inputs = old.inputs; cells = first_cells old.inputs; boxes = []; outs = [] }

  all_cells : Occur old tables (length old.cells)
  all_cells = other_cells (length old.cells - (old.inputs + 2)) (old.inputs + 2) (omega (arith, first_long old kept)) (record {
    mid = first;
    places = range_with_len 0 (old.inputs + 2);
    plain = plain_first old.inputs;
    so = begun_is old kept tables old.inputs old.inputs first (range_with_len 0 (old.inputs + 2)) refl refl refl refl;
  })

pub filled_exist : FilledExist
filled_exist old tables kept fit room = (new, at, plain_is_netlist mid.inputs mid.cells (map at old.outs) (record { prefix = occur.plain.prefix; gates = occur.plain.gates }) outs (omega (arith, filled.few, room)), filled)
  where
    occur : Occur old tables (length old.cells)
    occur = all_cells old kept tables fit

    mid : Netlist
    mid = occur.mid

    at : ℕ → ℕ
    at = slice_index occur.places

    new : Netlist
    new = record { inputs = mid.inputs; cells = mid.cells; boxes = []; outs = map at old.outs }

    filled : IsFilled old tables new at
    filled = filled_is costs_are_few old kept tables mid new occur.places occur.so
        (sym (ap₂ (λ (b : List Pins) (o : List ℕ). record { inputs = mid.inputs; cells = mid.cells; boxes = b; outs = o ++ map at old.outs }) occur.so.boxes occur.so.outs))

    outs : All (λ place. place < length mid.cells) (map at old.outs)
    outs = all_mapped at (λ k. k < length mid.cells) old.outs
        (All-weaker (λ k. k < length old.cells) (λ k. at k < length mid.cells) (λ k lt. All-get_or (λ j. j < length mid.cells) occur.places k 0 (omega (arith, lt, occur.so.long)) occur.so.there) old.outs kept.outs_there)
