-- the tables of wrong outputs
use Rattle.std.proofs.Common.{◌≡◌, ◌<◌, ℕ, List, length, get_or, slice_index, sym, ap, ap₂, ◌∙◌, arith}
use Rattle.std.proofs.lemmas.List.{get_or_default}
use Rattle.bb_bits.specs.Bits.{xor}
use Rattle.bb_bits.specs.Truth.{Truth, joined_tables}
use Rattle.bb_net.specs.Netlists.{Netlist, IsNetlist}
use Rattle.bb_net.specs.Pairs.{NetPair, IsPair}
use Rattle.bb_uniq.specs.declared.store.Ref.{Ref}
use Rattle.bb_uniq.specs.Inside.Nodes.{NodeStore}
use Rattle.bb_uniq.specs.Inside.Meaning.{truth_of, Keeps}
use Rattle.bb_sym.specs.Plain.{Reading, table, cell_bit, without_pins, is_wrong_at}
use Rattle.bb_sym.specs.Inside.Made.{RepresentAll, HaveCells}
use Rattle.bb_sym.proofs.FunctionTables.{combined-table}
use Rattle.bb_sym.proofs.MadeLemmas.{RepresentAll-kept}

-- a Ref that is read at a place
pub read_table : (s : NodeStore) (t : ℕ → Truth) (refs : List Ref) (place : ℕ) (x : Ref) → RepresentAll s t refs → place < length refs → x ≡ get_or refs place x → truth_of s x.0 ≡ t place
read_table s t refs place x occur l e =
    ap (λ (r : Ref). truth_of s r.0) (e ∙ get_or_default refs place x (record { 0 = 0 }) l) ∙ (occur place l).table

pub out_there : (net : Netlist) → IsNetlist net → (j : ℕ) → j < length net.outs → slice_index net.outs j < length net.cells
out_there net kept j l = kept.outs_there j 0 l

pub wrong_table : (s : NodeStore) (r : Reading) (p : NetPair) → IsPair p → (of_spec of_imp : List Ref) → HaveCells s r p.spec p.imp of_spec of_imp → (j : ℕ) → j < length p.imp.outs → (spec_outs imp_outs : List ℕ) → spec_outs ≡ p.spec.outs → imp_outs ≡ p.imp.outs →
    (x y : Ref) → x ≡ get_or of_spec (slice_index spec_outs j) x → y ≡ get_or of_imp (slice_index imp_outs j) y → joined_tables xor (truth_of s x.0) (truth_of s y.0) ≡ table s.vars (is_wrong_at r p.spec p.imp j)
wrong_table s r p pair of_spec of_imp have j l spec_outs imp_outs e h x y read also =
    let spec_at = out_there p.spec pair.spec j (omega (arith, l, pair.beside.outputs)) in
    let imp_at = out_there p.imp pair.imp j l in
    let wanted : truth_of s x.0 ≡ table s.vars (cell_bit (without_pins r) p.spec (slice_index p.spec.outs j)) =
    read_table s (λ place. table s.vars (cell_bit (without_pins r) p.spec place)) of_spec (slice_index p.spec.outs j) x have.spec_cells (omega (arith, spec_at, have.spec_whole)) (read ∙ ap (λ (k : List ℕ). get_or of_spec (slice_index k j) x) e) in
    let given : truth_of s y.0 ≡ table s.vars (cell_bit r p.imp (slice_index p.imp.outs j)) =
    read_table s (λ place. table s.vars (cell_bit r p.imp place)) of_imp (slice_index p.imp.outs j) y have.imp_cells (omega (arith, imp_at, have.imp_whole)) (also ∙ ap (λ (k : List ℕ). get_or of_imp (slice_index k j) y) h) in
    ap₂ (joined_tables xor) wanted given ∙ combined-table s.vars (λ a b c. xor a b) (cell_bit (without_pins r) p.spec (slice_index p.spec.outs j)) (cell_bit r p.imp (slice_index p.imp.outs j)) (cell_bit (without_pins r) p.spec (slice_index p.spec.outs j))

-- the Refs of the cells stay
pub HaveCells-kept : (a b : NodeStore) (r : Reading) (spec imp : Netlist) (of_spec of_imp : List Ref) → Keeps a b → HaveCells a r spec imp of_spec of_imp → HaveCells b r spec imp of_spec of_imp
HaveCells-kept a b r spec imp of_spec of_imp kept have = record {
  spec_whole = have.spec_whole;
  imp_whole = have.imp_whole;
  spec_cells = λ place l.
      let h = RepresentAll-kept a b (λ place. table a.vars (cell_bit (without_pins r) spec place)) of_spec kept have.spec_cells place l in
      record { ref = h.ref; table = h.table ∙ ap (λ n. table n (cell_bit (without_pins r) spec place)) (sym kept.vars) };
  imp_cells = λ place l.
      let h = RepresentAll-kept a b (λ place. table a.vars (cell_bit r imp place)) of_imp kept have.imp_cells place l in
      record { ref = h.ref; table = h.table ∙ ap (λ n. table n (cell_bit r imp place)) (sym kept.vars) };
}
