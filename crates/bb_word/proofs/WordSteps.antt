-- Operators on two words, one circuit after the other.
use Rattle.std.proofs.Common.{◌≡◌, ◌∙◌, ℕ, List, [], ◌∷◌, ◌++◌, map, sym, ap, subst, append_assoc}
use Rattle.bb_net.specs.Netlists.{Netlist}
use Rattle.bb_word.specs.declared.joint.Joint.{Joint}
use Rattle.bb_word.specs.declared.joint.Joint.TheVariants as joints
use Rattle.bb_word.specs.Gates.{Made, after}
use Rattle.bb_word.specs.Circuits.{sum, folded, joined_all, truths}
use Rattle.bb_word.specs.Laws.Formulas.{Formula, formulas}
use Rattle.bb_word.specs.Inside.Adding.{nothing, Adds, HasConstants, joint_gate, joint_none}
use Rattle.bb_word.specs.Laws.MapLaws.{made_same}
use Rattle.bb_word.proofs.AddingLemmas.{Adds-chain}
use Rattle.bb_word.proofs.StepLemmas.{part_zero, Adds-constants}

pub one_place : (old new : Netlist) (places : List ℕ) (place : ℕ) (circuit : (ℕ → Formula) → Made Formula) → Adds old new (place ∷ []) circuit nothing → places ≡ place ∷ [] → Adds old new places circuit nothing
one_place old new places place circuit adds is = subst (λ l. Adds old new l circuit nothing) (sym is) adds

-- the carry at place 0 is the constant
pub IsPlainSum : (old new : Netlist) (left right places : List ℕ) → HasConstants old.cells → Adds old new places (λ part. sum formulas (part 0) (map part left) (map part right)) nothing → Adds old new places (λ part. sum formulas formulas.zero (map part left) (map part right)) nothing
IsPlainSum old new left right places has adds = record {
  more = adds.more;
  grown = adds.grown;
  there = adds.there;
  made = λ part meets. adds.made part meets ∙ ap (λ o. sum formulas o (map part left) (map part right)) (part_zero new.cells part (Adds-constants old new places (λ p. sum formulas (p 0) (map p left) (map p right)) nothing has adds) meets);
}

pub IsTruth : (joint : Joint) (old mid last new : Netlist) (left right both : List ℕ) (a b place : ℕ) → both ≡ a ∷ b ∷ []
    → Adds old mid (a ∷ []) (λ part. folded (joint_gate formulas joints.Either) (joint_none formulas joints.Either) (map part left)) nothing
    → Adds mid last (b ∷ []) (λ part. folded (joint_gate formulas joints.Either) (joint_none formulas joints.Either) (map part right)) nothing
    → Adds last new (place ∷ []) (λ part. joined_all (joint_gate formulas joint) (joint_none formulas joint) (map part both)) nothing
    → Adds old new (place ∷ []) (λ part. truths formulas (joint_gate formulas joint) (map part left) (map part right)) nothing
IsTruth joint old mid last new left right both a b place pair first second third =
    let op = joint_gate formulas joint in
    let one : (ℕ → Formula) → Made Formula = λ part. folded formulas.either formulas.zero (map part left) in
    let two : (ℕ → Formula) → Made Formula = λ part. folded formulas.either formulas.zero (map part right) in
    let end : (ℕ → Formula) → Made Formula = λ part. joined_all op (joint_none formulas joint) (map part both) in
    let rest : (ℕ → Formula) → Made Formula = λ part. after (two part).cells (joined_all op formulas.zero (part a ∷ (two part).bits)) in
    let back = Adds-chain mid last new (b ∷ []) (place ∷ []) two end rest second third (λ part meets bits. ap (λ l. after (two part).cells (joined_all op (joint_none formulas joint) l)) (ap (map part) pair ∙ ap (λ l. part a ∷ l) bits)) in
    Adds-chain old mid new (a ∷ []) (place ∷ []) one rest (λ part. truths formulas op (map part left) (map part right)) first back
    (λ part meets bits.
    let whole = ap (λ l. joined_all op formulas.zero (l ++ (two part).bits)) bits in
    made_same _ _ (ap (λ z. z.bits) whole)
    (sym (append_assoc (one part).cells (two part).cells (joined_all op formulas.zero (part a ∷ (two part).bits)).cells) ∙ ap (λ z. ((one part).cells ++ (two part).cells) ++ z.cells) whole))
