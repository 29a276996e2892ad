-- Reductions, cell by cell.
use Rattle.std.proofs.Common.{◌≡◌, ◌∙◌, ◌-◌, ◌<◌, ℕ, List, [], ◌∷◌, map, length, get_or, reverse, refl, ap, arith}
use Rattle.std.specs.Prelude.{All}
use Rattle.std.proofs.lemmas.List.{length-reverse, get_or-reverse}
use Rattle.bb_lemmas.proofs.Maps.{reverse-map}
use Rattle.bb_net.specs.declared.cell.Cell.TheVariants as cell
use Rattle.bb_net.specs.Netlists.{Netlist}
use Rattle.bb_word.specs.declared.joint.Joint.{Joint}
use Rattle.bb_word.specs.Gates.{Made, after}
use Rattle.bb_word.specs.Circuits.{folded, inverted, joined_all}
use Rattle.bb_word.specs.Laws.Formulas.{Formula, formulas}
use Rattle.bb_word.specs.Inside.Adding.{with_cells, nothing, Adds, joint_gate, joint_none}
use Rattle.bb_word.proofs.AddingLemmas.{Adds-chain}
use Rattle.bb_word.proofs.SumSteps.{both_complements, IsComplemented-start, IsComplemented-step, IsComplemented-end}

pub All-reversed : (n : ℕ) (xs ys : List ℕ) → ys ≡ reverse xs → All (λ x. x < n) xs → All (λ x. x < n) ys
All-reversed n xs ys turned all k d h =
    let inside : k < length xs = omega (arith, h, ap length turned, length-reverse xs) in
    let at = all (length xs - 1 - k) d (omega arith) in
    omega (arith, at, get_or-reverse xs k d inside, ap (λ l. get_or l k d) turned)

-- the list that is joined is the reverse
pub IsFolded : (joint : Joint) (bits turned : List ℕ) (old now : Netlist) (place : ℕ) → turned ≡ reverse bits
    → Adds old now (place ∷ []) (λ part. joined_all (joint_gate formulas joint) (joint_none formulas joint) (map part turned)) nothing
    → Adds old now (place ∷ []) (λ part. folded (joint_gate formulas joint) (joint_none formulas joint) (map part bits)) nothing
IsFolded joint bits turned old now place is adds = record {
  more = adds.more;
  grown = adds.grown;
  there = adds.there;
  made = λ part meets. adds.made part meets ∙ ap (joined_all (joint_gate formulas joint) (joint_none formulas joint)) (ap (map part) is ∙ reverse-map part bits);
}

-- and then a complement
pub IsInverted : (old mid new : Netlist) (place last : ℕ) (circuit : (ℕ → Formula) → Made Formula) → Adds old mid (place ∷ []) circuit nothing → new ≡ with_cells mid (cell.Not place ∷ []) → last ≡ length mid.cells → Adds old new (last ∷ []) (λ part. inverted formulas (circuit part)) nothing
IsInverted old mid new place last circuit first grown at =
    let turn = IsComplemented-step (place ∷ []) mid mid new [] 0 place last (omega arith) refl grown at (IsComplemented-start (place ∷ []) mid) in
    let second = IsComplemented-end (place ∷ []) mid new (last ∷ []) 1 (omega arith) turn in
    Adds-chain old mid new (place ∷ []) (last ∷ []) circuit (λ part. both_complements (map part (place ∷ []))) (λ part. inverted formulas (circuit part)) first second
    (λ part meets bits. ap (λ l. after (circuit part).cells (both_complements l)) bits)

pub first_there : (n place : ℕ) → All (λ p. p < n) (place ∷ []) → place < n
first_there n place all = all 0 0 (omega arith)
