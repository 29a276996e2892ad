-- What pairs that are alike share: their bits, values where boxes are unknown, clauses and the need of more of them, and the functions
-- of each check.
use Rattle.std.proofs.Common.{ℕ, ◌≡◌, ◌≤◌, ◌^◌, List, refl, sym, subst}
use Rattle.bb_bits.specs.Tables.{TableBits}
use Rattle.std.proofs.lemmas.List.Sorted.{IsPermutation-refl}
use Rattle.bb_net.specs.Completions.{HaveSmallTables, table_bits}
use Rattle.bb_net.specs.Equivalence.{TablesMakeEquivalent}
use Rattle.bb_net.specs.Kinds.{AreSharedCompletion, FitKinds, representatives, per_box}
use Rattle.bb_net.specs.Netlists.{Netlist}
use Rattle.bb_net.specs.Pairs.{NetPair, IsPair}
use Rattle.bb_sym.specs.Functions.{symbolic_functions, local_functions, output_functions}
use Rattle.bb_input.specs.InputFunctions.{input_functions}
use Rattle.bb_expand.specs.ClauseCounts.{clause_total, clauses_per_vector}
use Rattle.bb_expand.specs.GivenUp.{NeedsMoreClauses}
use Rattle.bb_nest.specs.Answers.{AreFinishable}
use Rattle.bb_nest.specs.Nested.{AreNested}
use Rattle.bb_iso.specs.Laws.Isomorphism.{AreIsomorphic, AreIsomorphicPairs}
use Rattle.bb_iso.specs.Laws.Formulas.{cell_formulas}
use Rattle.bb_checks.specs.Inside.IsomorphismLaws.{PairLaws}
use Rattle.bb_checks.proofs.IsomorphicBits.{known_outputs, share_bits}
use Rattle.bb_checks.proofs.IsomorphicBoxes.{AreAsMany, table_bits_isomorphic}
use Rattle.bb_checks.proofs.IsomorphicConditions.{AreKnownIsomorphic, vector}
use Rattle.bb_checks.proofs.IsomorphicCounts.{clause_totals_isomorphic, per_vector_isomorphic}
use Rattle.bb_checks.proofs.IsomorphicFunctions.{ShareAll, local_among, output_among}
use Rattle.bb_checks.proofs.IsomorphicGivenUp.{needs_isomorphic}
use Rattle.bb_checks.proofs.IsomorphicInputs.{input_among}
use Rattle.bb_checks.proofs.IsomorphicKnown.{symbolic_among}
use Rattle.bb_checks.proofs.IsomorphicPins.{SharePins, nested_isomorphic, share_pins}
use Rattle.bb_checks.proofs.IsomorphicTables.{AreAmong}
use Rattle.bb_checks.proofs.IsomorphicWitnesses.{agree_isomorphic, many_fit}
use Rattle.bb_checks.proofs.ShownBoxes.{many_shown}

-- what goes from one pair to another
pub record Share (p q : NetPair) : Type 0 where
  pub nets : ShareAll p.spec p.imp q.spec q.imp
  pub known : AreKnownIsomorphic p.imp q.imp
  pub pins : SharePins p.imp q.imp
  pub clauses : clause_total p.imp ≡ clause_total q.imp
  -- the first boxes of kinds have as many pins
  pub firsts : AreAsMany (representatives p.kinds p.imp.boxes) (representatives q.kinds q.imp.boxes)
  pub kinds : p.kinds ≡ q.kinds
  pub needs : (budget : ℕ) → NeedsMoreClauses p.spec p.imp p.kinds budget → NeedsMoreClauses q.spec q.imp q.kinds budget
  pub symbolic : AreAmong (symbolic_functions p.spec p.imp) (symbolic_functions q.spec q.imp)
  pub local : AreAmong (local_functions p.spec p.imp) (local_functions q.spec q.imp)
  pub output : AreAmong (output_functions p.spec p.imp) (output_functions q.spec q.imp)
  pub input : AreAmong (input_functions p.spec p.imp) (input_functions q.spec q.imp)

module _ (p q : NetPair) (share : Share p q) where
  pub bits_isomorphic : table_bits (representatives p.kinds p.imp.boxes) ≡ table_bits (representatives q.kinds q.imp.boxes)
  bits_isomorphic = table_bits_isomorphic (representatives p.kinds p.imp.boxes) (representatives q.kinds q.imp.boxes) share.firsts

  pub small_isomorphic : HaveSmallTables (representatives p.kinds p.imp.boxes) → HaveSmallTables (representatives q.kinds q.imp.boxes)
  small_isomorphic small = subst (λ n. n ≤ 2 ^ 24) bits_isomorphic small

  pub shared_completion_isomorphic : (tables : List TableBits) → AreSharedCompletion p.spec p.imp p.kinds tables → AreSharedCompletion q.spec q.imp q.kinds tables
  shared_completion_isomorphic tables h = record {
    fit = many_fit (representatives p.kinds p.imp.boxes) (representatives q.kinds q.imp.boxes) share.firsts tables h.fit;
    agree = subst (λ ks. TablesMakeEquivalent q.spec q.imp (per_box ks tables)) share.kinds
        (λ x long. agree_isomorphic p.spec p.imp q.spec q.imp share.nets (per_box p.kinds tables) x (h.agree x (vector p.spec p.imp q.spec q.imp share.nets x long)));
  }

  pub finishable_isomorphic : AreFinishable p.imp p.kinds → AreFinishable q.imp q.kinds
  finishable_isomorphic h = record {
    nested = subst (AreNested q.imp) share.kinds (nested_isomorphic p.imp q.imp share.nets.imp.inputs share.nets.imp.boxes share.pins p.kinds h.nested);
    small = subst (λ n. n ≤ 2 ^ 24) (table_bits_isomorphic p.imp.boxes q.imp.boxes share.nets.imp.boxes) h.small;
  }

module _ (laws : PairLaws) (p q : NetPair) (one : IsPair p) (other : IsPair q) (alike : AreIsomorphicPairs p q) where
  nets : ShareAll p.spec p.imp q.spec q.imp
  nets = record {
    spec = share_bits p.spec q.spec one.spec other.spec alike.spec laws.bits;
    imp = share_bits p.imp q.imp one.imp other.imp alike.imp laws.bits;
    outputs = one.beside.outputs;
  }

  outputs_known : AreKnownIsomorphic p.imp q.imp
  outputs_known = known_outputs p.imp q.imp one.imp other.imp alike.imp laws.known

  per_vector : clauses_per_vector p.imp ≡ clauses_per_vector q.imp
  per_vector = per_vector_isomorphic laws.bits.formulas p.imp q.imp one.imp other.imp alike.imp nets.imp.boxes nets.imp.outputs

  totals : clause_total p.imp ≡ clause_total q.imp
  totals = clause_totals_isomorphic p.imp q.imp nets.imp.inputs per_vector

  firsts : AreAsMany (representatives p.kinds p.imp.boxes) (representatives q.kinds q.imp.boxes)
  firsts = subst (λ ks. AreAsMany (representatives p.kinds p.imp.boxes) (representatives ks q.imp.boxes)) alike.kinds
      (many_shown laws.kinds p.kinds p.imp.boxes q.imp.boxes one.beside.kinds (subst (λ ks. FitKinds ks q.imp.boxes) (sym alike.kinds) other.beside.kinds) nets.imp.boxes)

  pub share : Share p q
  share = record {
    nets = nets;
    known = outputs_known;
    pins = share_pins p.imp q.imp one.imp other.imp alike.imp laws.bits.bits;
    clauses = totals;
    firsts = firsts;
    kinds = alike.kinds;
    needs = needs_isomorphic laws.given laws.kinds laws.fix p q nets firsts alike.kinds one other alike.imp totals per_vector;
    symbolic = symbolic_among (record { formulas = laws.bits.formulas; cells = laws.bits.cells; known = laws.known; fix = laws.fix }) p.spec p.imp q.spec q.imp nets one.imp other.imp alike.imp outputs_known;
    local = local_among laws.fix p.spec p.imp q.spec q.imp nets;
    output = output_among laws.fix p.spec p.imp q.spec q.imp nets;
    input = input_among laws.fix p.spec p.imp q.spec q.imp nets;
  }

pub share_back : PairLaws → (p q : NetPair) → IsPair p → IsPair q → AreIsomorphicPairs p q → Share q p
share_back laws p q one other alike = share laws q p other one (record {
  spec = laws.bits.back p.spec q.spec alike.spec;
  imp = laws.bits.back p.imp q.imp alike.imp;
  ins = sym alike.ins;
  outs = sym alike.outs;
  boxes = sym alike.boxes;
  kinds = sym alike.kinds;
})

-- a pair is alike to itself
net_itself : (net : Netlist) → AreIsomorphic net net
net_itself net = record { inputs = refl; cells = IsPermutation-refl (cell_formulas net); boxes = refl; outs = refl }

pub isomorphic_itself : (p : NetPair) → AreIsomorphicPairs p p
isomorphic_itself p = record { spec = net_itself p.spec; imp = net_itself p.imp; ins = refl; outs = refl; boxes = refl; kinds = refl }
