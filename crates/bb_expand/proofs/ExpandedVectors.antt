-- Vectors are few where the clauses over all of them are.
use Rattle.std.proofs.Common.{◌≡◌, ℕ, ◌*◌, ◌%◌, ◌^◌, ◌≤◌, ap, ◌∙◌, arith}
use Rattle.std.proofs.lemmas.Nat.{one_shl}
use Rattle.bb_net.specs.Netlists.{Netlist}
use Rattle.bb_net.specs.Pairs.{NetPair, IsPair}
use Rattle.bb_expand.specs.ClauseCounts.{clause_total}
use Rattle.bb_expand.proofs.Sizes.{few_vectors}

-- few clauses have few inputs
pub few_inputs_left : (pair : NetPair) (net : Netlist) (m : ℕ) → IsPair pair → net ≡ pair.imp → clause_total pair.imp ≤ 8000000 → m ≡ net.inputs → (m ≡ pair.imp.inputs) × (m ≤ 22)
few_inputs_left pair net m kept same few is =
    let few_of = few_vectors pair.imp 8000000 22 kept.imp few (omega arith) in
    let all : m ≡ pair.imp.inputs = is ∙ ap (λ (n : Netlist). n.inputs) same in
    (all, omega (arith, few_of, all))

-- so one that is shifted by them is the number of all vectors
pub count_is : (pair : NetPair) (net : Netlist) (m : ℕ) → IsPair pair → net ≡ pair.imp → clause_total pair.imp ≤ 8000000 → m ≡ net.inputs → 1 * 2 ^ m % 2 ^ 32 ≡ 2 ^ pair.imp.inputs
count_is pair net m kept same few is =
    let left = few_inputs_left pair net m kept same few is in
    one_shl m 32 (omega (arith, left.1)) ∙ ap (λ k. 2 ^ k) left.0
