-- a netlist without boxes, for which there is no table to choose
use Rattle.std.proofs.Common.{◌≡◌, ◌<◌, ◌^◌, ℕ, Bool, List, [], length, refl, sym, ap, subst, subst₂, arith}
use Rattle.bb_bits.specs.Tables.{TableBits}
use Rattle.bb_cnf.specs.Clauses.{Formula}
use Rattle.bb_cnf.specs.declared.refutation.Step.{Step}
use Rattle.bb_net.specs.Equivalence.{AllRight, SomeWrong}
use Rattle.bb_net.specs.Kinds.{AreSharedCompletion, FitKinds, per_box, representatives}
use Rattle.bb_net.specs.Completions.{table_bits}
use Rattle.bb_net.specs.Netlists.{Netlist, Pins, IsNetlist}
use Rattle.bb_net.specs.Pairs.{NetPair, IsPair}
use Rattle.bb_net.specs.Values.{flat, flat_with, free_bit, tabled_bit, FitBoxes, ValueGoesByBoxes}
use Rattle.bb_expand.specs.Expanded.{IsError}
use Rattle.bb_expand.specs.Laws.{RefutationsShowVectors}
use Rattle.bb_miter.specs.Inside.Equivalence.{AreComparable, AreEquivalent}
use Rattle.bb_invariant.specs.Inside.Answers.{SomeDiffer}

module _ (goes : ValueGoesByBoxes) (spec imp : Netlist) (kinds : List ℕ) (kept : IsNetlist imp) (no_box : imp.boxes ≡ []) (no_kind : kinds ≡ []) where
  none_there : (b : ℕ) → b < length imp.boxes → ⊥
  none_there b l = let e = ap length no_box in omega (arith, l, e)

  -- its value is the same with any tables
  untabled : (x : List Bool) (tables : List TableBits) → flat_with imp x tables ≡ flat imp x []
  untabled x tables = goes imp kept x (tabled_bit tables) (free_bit imp.boxes []) (λ b p l lp. absurd (none_there b l))

  pub equivalent : (tables : List TableBits) → AreSharedCompletion spec imp kinds tables → AreEquivalent spec imp
  equivalent tables complete x vector = subst (AllRight spec imp x) (untabled x (per_box kinds tables)) (complete.agree x vector)

  fit : FitBoxes [] (representatives kinds imp.boxes)
  fit = subst₂ (λ (ks : List ℕ) (boxes : List Pins). FitBoxes [] (representatives ks boxes)) (sym no_kind) (sym no_box) (record {
    count = refl;
    inputs = λ b l. absurd (omega (arith, l));
    outputs = λ b l. absurd (omega (arith, l));
    whole = λ b l. absurd (omega (arith, l));
  })

  -- after a refutation some output differs at one of its vectors
  pub differ : RefutationsShowVectors → FitKinds kinds imp.boxes → (budget : ℕ) (vectors : List (List Bool)) (cnf : Formula) (steps : List Step) → IsError spec imp kinds budget vectors cnf steps → SomeDiffer spec imp vectors
  differ shows fits budget vectors cnf steps error =
      let found = shows spec imp kinds budget vectors cnf steps kept fits error [] fit in
      (found.0, found.1, subst (SomeWrong spec imp found.0) (untabled found.0 (per_box kinds [])) found.2)

-- and no bits of tables
pub no_tables : (imp : Netlist) (kinds : List ℕ) → imp.boxes ≡ [] → kinds ≡ [] → 2 ^ 24 < table_bits (representatives kinds imp.boxes) → ⊥
no_tables imp kinds no_box no_kind many =
    let none : table_bits (representatives kinds imp.boxes) ≡ 0 = subst₂ (λ (ks : List ℕ) (boxes : List Pins). table_bits (representatives ks boxes) ≡ 0) (sym no_kind) (sym no_box) refl in
    omega (arith, many, none)

pub comparable_beside : (pair : NetPair) → IsPair pair → pair.imp.boxes ≡ [] → AreComparable pair.spec pair.imp
comparable_beside pair kept no_box = record {
  inputs = kept.beside.inputs;
  few = omega (arith, kept.small.pins);
  outputs = kept.beside.outputs;
  spec_boxes = kept.beside.no_box;
  imp_boxes = no_box;
}
