-- Cells put after others, with the places of a list that implement them: gates.
use Rattle.std.proofs.Common.{◌≡◌, ℕ, zero, suc, ◌+◌, ◌-◌, Bool, true, false, if◌then◌else◌, List, [], ◌∷◌, ◌++◌, map, length, refl, sym, ap, ◌∙◌, subst, arith, length-append, append_assoc, append-nil}
use Rattle.std.specs.List.{fold, range_with_len}
use Rattle.std.proofs.lemmas.List.{length-map, map-append}
use Rattle.bb_ast.specs.declared.module.Gate.{Gate}
use Rattle.bb_net.specs.declared.loose.LooseCell.{LooseCell}
use Rattle.bb_net.specs.declared.loose.LooseCell.TheVariants as cell
use Rattle.bb_design.specs.GateFunctions.{inverts}
use Rattle.bb_blast.specs.Inside.Counting.{capped, after}
use Rattle.bb_blast.specs.Inside.Listing.{Joining, joined_to, joined, inverted}
use Rattle.bb_implements.specs.Places.{CellName, Joined, Inverted, Numbering, Lowering, joined_place, terminal_place, gate_place, join_cell, joining_places, inverting_place}
use Rattle.bb_lemmas.proofs.Ranges.{length-range}
use Rattle.bb_blast.proofs.PlacesInRow.{Entry, AreInRow, both_rows, no_row, one_row, cells_in}

module _ (lowering : Lowering) (number : Numbering) (k : ℕ) (gate : Gate) (start : ℕ) where
  abbrev terminal : ℕ → ℕ
  terminal x = number (terminal_place lowering k x)

  abbrev join : ℕ → Entry
  join x = (Joined k (x + 1), join_cell gate (number (joined_place lowering k x)) (number (terminal_place lowering k (x + 1))))

  pub record JoinsFit (j afterwards : Joining) (all : List Entry) (last : ℕ) : Type 0 where
    pub cells : afterwards.cells ≡ j.cells ++ cells_in all
    pub place : afterwards.place ≡ number (joined_place lowering k last)
    pub row : AreInRow number (start + length j.cells) all

  -- the inputs after one are joined to those before
  joins_fit : (m x : ℕ) (j : Joining) → j.place ≡ number (joined_place lowering k x) → ((i : ℕ) → number (Joined k (suc (x + i))) ≡ capped (start + length j.cells + i))
      → JoinsFit j (fold (joined_to start gate) j (map terminal (range_with_len (x + 1) m))) (map join (range_with_len x m)) (x + m)
  joins_fit zero x j before occurs = record { cells = sym (append-nil j.cells); place = before ∙ ap (λ n. number (joined_place lowering k n)) (omega arith); row = no_row number (start + length j.cells) }
  joins_fit (suc m) x j before occurs =
      build (joins_fit m (x + 1) (joined_to start gate j (terminal (x + 1))) placed
      (λ i. ap (λ n. number (Joined k (suc n))) (omega arith) ∙ occurs (i + 1) ∙ ap capped (omega (arith, long))))
    where
      one : x + 1 ≡ suc x
      one = omega arith

      long : length (j.cells ++ join_cell gate j.place (terminal (x + 1)) ∷ []) ≡ length j.cells + 1
      long = length-append j.cells (join_cell gate j.place (terminal (x + 1)) ∷ [])

      at : number (Joined k (suc x)) ≡ after start (length j.cells)
      at = ap (λ n. number (Joined k (suc n))) (omega arith) ∙ occurs 0 ∙ ap capped (omega arith)

      placed : after start (length j.cells) ≡ number (joined_place lowering k (x + 1))
      placed = sym (ap (λ n. number (joined_place lowering k n)) one ∙ at)

      here : join_cell gate j.place (terminal (x + 1)) ≡ (join x).1
      here = ap (λ p. join_cell gate p (terminal (x + 1))) before

      build : JoinsFit (joined_to start gate j (terminal (x + 1))) (fold (joined_to start gate) (joined_to start gate j (terminal (x + 1))) (map terminal (range_with_len (x + 1 + 1) m))) (map join (range_with_len (x + 1) m)) (x + 1 + m)
          → JoinsFit j (fold (joined_to start gate) (joined_to start gate j (terminal (x + 1))) (map terminal (range_with_len (x + 1 + 1) m))) (join x ∷ map join (range_with_len (x + 1) m)) (x + suc m)
      build rest = record {
        cells = rest.cells ∙ append_assoc j.cells (join_cell gate j.place (terminal (x + 1)) ∷ []) (cells_in (map join (range_with_len (x + 1) m)))
            ∙ ap (λ c. j.cells ++ c ∷ cells_in (map join (range_with_len (x + 1) m))) here;
        place = rest.place ∙ ap (λ n. number (joined_place lowering k n)) (omega arith);
        row = both_rows number (start + length j.cells) (join x ∷ []) (map join (range_with_len (x + 1) m)) (one_row number (start + length j.cells) (join x) (ap (λ n. number (Joined k n)) one ∙ at))
            (subst (λ n. AreInRow number n (map join (range_with_len (x + 1) m))) (omega (arith, long)) rest.row);
      }

  -- a gate with so many inputs, joined
  all_joined : (count : ℕ) (cells : List LooseCell) (places : List ℕ) → places ≡ map terminal (range_with_len 0 (suc count)) → ((i : ℕ) → number (Joined k (suc i)) ≡ capped (start + length cells + i))
      → JoinsFit (record { cells = cells; place = 0 }) (joined start gate cells places) (joining_places lowering number k gate (suc count)) count
  all_joined count cells places is occurs =
      let fit = joins_fit count 0 (record { cells = cells; place = terminal 0 }) refl (λ i. ap (λ n. number (Joined k (suc n))) (omega arith) ∙ occurs i) in
      let less : count ≡ suc count - 1 = omega arith in
      subst (λ p. JoinsFit (record { cells = cells; place = 0 }) (joined start gate cells p) (joining_places lowering number k gate (suc count)) count) (sym is)
      (subst (λ n. JoinsFit (record { cells = cells; place = 0 }) (joined start gate cells (map terminal (range_with_len 0 (suc count)))) (map join (range_with_len 0 n)) count) less
      (record { cells = fit.cells; place = fit.place ∙ ap (λ n. number (joined_place lowering k n)) (omega arith); row = fit.row }))

  pub record GateFits (before : List LooseCell) (afterwards : Joining) (all : List Entry) (last : CellName) : Type 0 where
    pub cells : afterwards.cells ≡ before ++ cells_in all
    pub place : afterwards.place ≡ number last
    pub row : AreInRow number (start + length before) all

  abbrev joins_of : ℕ → List Entry
  joins_of count = joining_places lowering number k gate (suc count)

  abbrev inverse_of : ℕ → Entry
  inverse_of count = (Inverted k, cell.Not (number (joined_place lowering k (suc count - 1))))

  -- and inverted where it inverts
  all_inverted : (count : ℕ) (before : List LooseCell) (j : Joining) → JoinsFit (record { cells = before; place = 0 }) j (joining_places lowering number k gate (suc count)) count
      → number (Inverted k) ≡ capped (start + length before + count)
      → GateFits before (inverted start gate j) (joining_places lowering number k gate (suc count) ++ inverting_place lowering number k gate (suc count)) (gate_place lowering gate k (suc count))
  all_inverted count before j fit occurs = by (inverts gate)
    where
      less : suc count - 1 ≡ count
      less = omega arith

      long : length (joining_places lowering number k gate (suc count)) ≡ count
      long = length-map {B = Entry} (range_with_len 0 (suc count - 1)) (λ x. (Joined k (x + 1), join_cell gate (number (joined_place lowering k x)) (number (terminal_place lowering k (x + 1))))) ∙ length-range 0 (suc count - 1) ∙ less

      made : length j.cells ≡ length before + count
      made = ap length fit.cells ∙ length-append before (cells_in (joins_of count)) ∙ ap (λ n. length before + n) (length-map {B = LooseCell} (joins_of count) (λ (e : Entry). e.1) ∙ long)

      last : j.place ≡ number (joined_place lowering k (suc count - 1))
      last = fit.place ∙ ap (λ n. number (joined_place lowering k n)) (sym less)

      by : (b : Bool) → GateFits before (if b then record { cells = j.cells ++ cell.Not j.place ∷ []; place = after start (length j.cells) } else j)
          ((joins_of count) ++ (if b then (inverse_of count) ∷ [] else [])) (if b then Inverted k else joined_place lowering k (suc count - 1))
      by true = record {
        cells = ap (λ c. c ++ cell.Not j.place ∷ []) fit.cells ∙ append_assoc before (cells_in (joins_of count)) (cell.Not j.place ∷ [])
            ∙ ap (λ p. before ++ (cells_in (joins_of count) ++ cell.Not p ∷ [])) last ∙ ap (λ c. before ++ c) (sym (map-append (λ (e : Entry). e.1) (joins_of count) ((inverse_of count) ∷ [])));
        place = ap capped (omega (arith, made)) ∙ sym occurs;
        row = both_rows number (start + length before) (joins_of count) ((inverse_of count) ∷ []) fit.row (one_row number (start + length before + length (joins_of count)) (inverse_of count) (occurs ∙ ap capped (omega (arith, long))));
      }
      by false = record {
        cells = fit.cells ∙ ap (λ l. before ++ cells_in l) (sym (append-nil (joins_of count)));
        place = last;
        row = subst (AreInRow number (start + length before)) (sym (append-nil (joins_of count))) fit.row;
      }

  -- the whole gate, after the cells of its inputs
  pub gate_fits : (count : ℕ) (before : List LooseCell) (places : List ℕ) → places ≡ map terminal (range_with_len 0 (suc count)) → ((i : ℕ) → number (Joined k (suc i)) ≡ capped (start + length before + i))
      → number (Inverted k) ≡ capped (start + length before + count)
      → GateFits before (inverted start gate (joined start gate before places)) (joining_places lowering number k gate (suc count) ++ inverting_place lowering number k gate (suc count)) (gate_place lowering gate k (suc count))
  gate_fits count before places is occurs last = all_inverted count before (joined start gate before places) (all_joined count before places is occurs) last
