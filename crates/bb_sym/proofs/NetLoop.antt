-- one more cell of a netlist
use Rattle.std.proofs.Common.{◌≡◌, ◌<◌, ℕ, ◌+◌, List, ◌++◌, ◌∷◌, [], length, map, sym, ap, ◌∙◌, subst, arith}
use Rattle.std.specs.List.{range_with_len}
use Rattle.std.proofs.lemmas.Simd.{map-map}
use Rattle.bb_bits.specs.Truth.{Truth}
use Rattle.bb_net.specs.Netlists.{Netlist, IsNetlist, cell_at}
use Rattle.bb_uniq.specs.declared.store.Ref.{Ref}
use Rattle.bb_uniq.specs.Inside.Nodes.{NodeStore}
use Rattle.bb_uniq.specs.Inside.Meaning.{truth_of, Adds, IsTooMany}
use Rattle.bb_sym.specs.Plain.{Reading, AreVariables, IsReadSo, cell_bit, table, tables, cell_numbers}
use Rattle.bb_sym.specs.Inside.Made.{Makes, AreTooMany, RepresentAll, cell_table, ref_at}
use Rattle.bb_sym.proofs.MadeLemmas.{Makes-more, refused_more, RepresentAll-push, Represents-added}
use Rattle.bb_sym.proofs.CellTables.{ValueExists, cell_table-is}

-- the table of the next cell
abbrev pub next_table : NodeStore → ℕ → List ℕ → List Ref → Netlist → ℕ → Truth
next_table now first starts made net i = cell_table now.vars first starts (λ place. truth_of now (ref_at made place).0) (cell_at net.cells i)

-- so many cells of a net are made since the store was `s`
abbrev pub CellsMade : NodeStore → NodeStore → Netlist → List Ref → ℕ → Reading → Type 0
CellsMade s now net made i r = RepresentAll now (λ place. table s.vars (cell_bit r net place)) made × Makes s now (map (λ place. table s.vars (cell_bit r net place)) (range_with_len 0 i))

all_of : (n : ℕ) (net : Netlist) (r : Reading) → map (λ place. table n (cell_bit r net place)) (cell_numbers net) ≡ tables n (map (cell_bit r net) (cell_numbers net))
all_of n net r = sym (map-map (table n) (cell_bit r net) (cell_numbers net))

module _ (exists : ValueExists) (s now : NodeStore) (net : Netlist) (kept : IsNetlist net) (first : ℕ) (starts : List ℕ) (vars : AreVariables s.vars first starts net) (made : List Ref) (i : ℕ) (there : i < length net.cells) (count : length made ≡ i)
    (r : Reading) (reads : IsReadSo s.vars first starts net r) (so_far : CellsMade s now net made i r) where
  next_is : next_table now first starts made net i ≡ table s.vars (cell_bit r net i)
  next_is =
      ap (λ n. cell_table n first starts (λ place. truth_of now (ref_at made place).0) (cell_at net.cells i)) so_far.1.kept.vars
      ∙ cell_table-is exists net kept s.vars first starts vars r reads i there (λ place. truth_of now (ref_at made place).0) (λ k l. (so_far.0 k (omega (arith, l, count))).table)

  pub next_refused : IsTooMany now (next_table now first starts made net i) → AreTooMany s (tables s.vars (map (cell_bit r net) (cell_numbers net)))
  next_refused many =
      subst (AreTooMany s) (all_of s.vars net r) (refused_more s now (λ place. table s.vars (cell_bit r net place)) i (length net.cells) so_far.1 there (subst (IsTooMany now) next_is many))

  pub next_made : (new : NodeStore) (q : Ref) → Adds now new (next_table now first starts made net i) q.0 → CellsMade s new net (made ++ q ∷ []) (i + 1) r
  next_made new q added =
      let also = subst (λ t. Adds now new t q.0) next_is added in (
        RepresentAll-push now new (λ place. table s.vars (cell_bit r net place)) made q i count also.kept so_far.0 (Represents-added now new (table s.vars (cell_bit r net i)) q also),
        Makes-more s now new (λ place. table s.vars (cell_bit r net place)) i q.0 so_far.1 also,
      )

pub whole_makes : (s now : NodeStore) (net : Netlist) (made : List Ref) (i : ℕ) (r : Reading) → i ≡ length net.cells → CellsMade s now net made i r → Makes s now (tables s.vars (map (cell_bit r net) (cell_numbers net)))
whole_makes s now net made i r e h = subst (Makes s now) (ap (λ k. map (λ place. table s.vars (cell_bit r net place)) (range_with_len 0 k)) e ∙ all_of s.vars net r) h.1
