-- the tables of an output that is known and wrong
use Rattle.std.proofs.Common.{◌≡◌, ◌<◌, ℕ, List, [], length, get_or, slice_index, ap, ap₂, ◌∙◌, subst, arith}
use Rattle.std.proofs.lemmas.List.{get_or_default}
use Rattle.bb_bits.specs.Truth.{Truth, complement_of_table}
use Rattle.bb_net.specs.Netlists.{Netlist}
use Rattle.bb_net.specs.Pairs.{NetPair, IsPair}
use Rattle.bb_uniq.specs.declared.store.Ref.{Ref}
use Rattle.bb_uniq.specs.Inside.Nodes.{NodeStore, IsRef}
use Rattle.bb_uniq.specs.Inside.Meaning.{truth_of, Keeps, Adds}
use Rattle.bb_sym.specs.declared.known_gates.DualRail.{DualRail}
use Rattle.bb_sym.specs.Functions.{spec_bit, wanted, mismatch, mismatches, sum_table, sum_tables}
use Rattle.bb_sym.specs.Plain.{table}
use Rattle.bb_sym.specs.Inside.Made.{Makes, AreTooMany, Represents, of_refs}
use Rattle.bb_sym.specs.Inside.Rails.{Rails, rails_of, AreRails, HaveKnown, known_rails, known_wrong_table, known_wrong_tables, pair_at}
use Rattle.bb_sym.proofs.MadeLemmas.{RepresentAll-kept}
use Rattle.bb_sym.proofs.OutputLoop.{rest_refused, first_makes}
use Rattle.bb_sym.proofs.PairLemmas.{same_four, occurs_same}
use Rattle.bb_sym.proofs.RailLemmas.{HaveRails-kept, HaveRails-tables}
use Rattle.bb_sym.proofs.WrongTables.{read_table, out_there}

module _ (s : NodeStore) (p : NetPair) (pair : IsPair p) (of_spec : List Ref) (of_imp : List DualRail) (have : HaveKnown s p.spec p.imp of_spec of_imp) (j : ℕ) (l : j < length p.imp.outs) (spec_outs imp_outs : List ℕ) (e : spec_outs ≡ p.spec.outs) (h : imp_outs ≡ p.imp.outs) where
  pub wanted_is : (x : Ref) → x ≡ get_or of_spec (slice_index spec_outs j) x → truth_of s x.0 ≡ wanted p.spec p.imp j
  wanted_is x read =
      let at = out_there p.spec pair.spec j (omega (arith, l, pair.beside.outputs)) in
      read_table s (λ place. table p.imp.inputs (spec_bit p.spec place)) of_spec (slice_index p.spec.outs j) x have.spec_cells (omega (arith, at, have.spec_whole)) (read ∙ ap (λ (k : List ℕ). get_or of_spec (slice_index k j) x) e)

  pub known_is : (x : DualRail) → x ≡ get_or of_imp (slice_index imp_outs j) x → rails_of s x ≡ known_rails p.imp (slice_index p.imp.outs j)
  known_is x read =
      let given = slice_index p.imp.outs j in
      let there : given < length of_imp = let at = out_there p.imp pair.imp j l in omega (arith, at, have.imp_whole) in
      let here : x ≡ pair_at of_imp given = read ∙ ap (λ (k : List ℕ). get_or of_imp (slice_index k j) x) h ∙ get_or_default of_imp given x (pair_at [] 0) there in
      ap (rails_of s) here ∙ HaveRails-tables s (known_rails p.imp given) (pair_at of_imp given) (have.imp_cells given there)

-- with these tables of its parts, the mismatch of an output
pub mismatch_is : (spec imp : Netlist) (j : ℕ) {known : Rails} {bit : Truth} → known ≡ known_rails imp (slice_index imp.outs j) → bit ≡ wanted spec imp j → known_wrong_table known bit ≡ mismatch spec imp j
mismatch_is spec imp j k w = ap₂ known_wrong_table k w

pub mismatches_are : (spec imp : Netlist) (j : ℕ) {known : Rails} {bit : Truth} → known ≡ known_rails imp (slice_index imp.outs j) → bit ≡ wanted spec imp j → known_wrong_tables known bit ≡ mismatches spec imp j
mismatches_are spec imp j k w = ap₂ known_wrong_tables k w

-- the Refs of the cells stay
pub HaveKnown-kept : (a b : NodeStore) (spec imp : Netlist) (of_spec : List Ref) (of_imp : List DualRail) → Keeps a b → HaveKnown a spec imp of_spec of_imp → HaveKnown b spec imp of_spec of_imp
HaveKnown-kept a b spec imp of_spec of_imp kept have = record {
  spec_whole = have.spec_whole;
  imp_whole = have.imp_whole;
  spec_cells = RepresentAll-kept a b (λ place. table imp.inputs (spec_bit spec place)) of_spec kept have.spec_cells;
  imp_cells = λ place l. HaveRails-kept a b (known_rails imp place) (pair_at of_imp place) kept (have.imp_cells place l);
}

-- where a bit is known and is not the wanted one, after the wanted one was complemented
module _ (s m : NodeStore) (known : DualRail) (wanted unwanted : Ref) (refs : AreRails s known) (w : IsRef s wanted.0) (added : Adds s m (complement_of_table (truth_of s wanted.0)) unwanted.0) where
  abbrev here : Rails
  here = rails_of s known

  abbrev bit : Truth
  bit = truth_of s wanted.0

  sums_are : {X : Type 0} (f : Truth → Truth → Truth → Truth → X) → of_refs m f known.one unwanted known.zero wanted ≡ f here.one (complement_of_table bit) here.zero bit
  sums_are f = same_four f (added.kept.tables known.one.0 refs.0) added.table (added.kept.tables known.zero.0 refs.1) (added.kept.tables wanted.0 w)

  pub known_sum_refused : AreTooMany m (of_refs m sum_tables known.one unwanted known.zero wanted) → AreTooMany s (known_wrong_tables here bit)
  known_sum_refused many = rest_refused s m (complement_of_table bit) (sum_tables here.one (complement_of_table bit) here.zero bit) unwanted.0 added (subst (AreTooMany m) (sums_are sum_tables) many)

  pub known_sum_makes : (n : NodeStore) → Makes m n (of_refs m sum_tables known.one unwanted known.zero wanted) → Makes s n (known_wrong_tables here bit)
  known_sum_makes n made = first_makes s m n (complement_of_table bit) (sum_tables here.one (complement_of_table bit) here.zero bit) unwanted.0 added (subst (Makes m n) (sums_are sum_tables) made)

  pub known_sum_occurs : (n : NodeStore) (r : Ref) → Represents n (of_refs m sum_table known.one unwanted known.zero wanted) r → Represents n (known_wrong_table here bit) r
  known_sum_occurs n r h = occurs_same n _ _ r (sums_are sum_table) h
