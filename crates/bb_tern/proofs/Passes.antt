-- words of cells, one after another
use Rattle.std.proofs.Common.{◌≡◌, ◌<◌, ◌+◌, ℕ, Bool, true, false, ◌||◌, List, length, set, Option, sym, ap, ◌∙◌, subst, inl, inr, arith, get_or-set_same, get_or-set_other, []}
use Rattle.std.specs.Prelude.{MatchBool}
use Rattle.std.proofs.lemmas.Bool.{cases_eq}
use Rattle.bb_net.specs.declared.cell.Cell.{Cell}
use Rattle.bb_net.specs.Netlists.{ReadsBefore, cell_at}
use Rattle.bb_tern.specs.declared.lanes.Known.{Known}
use Rattle.bb_tern.specs.Inside.Lanes.{lane, word_at, known_at, Holds, GivesWord, GivesKnown, AreWords, AreKnowns, wrong_at, ReportsWrong}

pub words_more : (cells : List Cell) (ins out : List ℕ) (place word : ℕ) → place < length cells → place < length out → ReadsBefore (length ins) [] place (cell_at cells place) →
    GivesWord ins out (cell_at cells place) word → AreWords cells ins out place → AreWords cells ins (set out place word) (place + 1)
words_more cells ins out place word inside room reads gives filled = λ k x bit l pattern bits i below.
    let before = filled k x bit l pattern bits in
    elim (cases_eq i place) [
      | inl same ↦
          subst (λ p. lane (word_at (set out place word) p) k ≡ bit p) (sym same)
          (ap (λ w. lane w k) (get_or-set_same out place word 0 room) ∙ (gives place k x bit reads l pattern before ∙ sym (bits place inside)))
      | inr other ↦ ap (λ w. lane w k) (get_or-set_other out place i word 0 other) ∙ before i (omega (arith, below, other))
    ]

pub knowns_more : (cells : List Cell) (ins : List ℕ) (out : List Known) (place : ℕ) (known : Known) → place < length cells → place < length out → ReadsBefore (length ins) [] place (cell_at cells place) →
    GivesKnown ins out (cell_at cells place) known → AreKnowns cells ins out place → AreKnowns cells ins (set out place known) (place + 1)
knowns_more cells ins out place known inside room reads gives filled = λ k x value l pattern values i below.
    let before = filled k x value l pattern values in
    elim (cases_eq i place) [
      | inl same ↦
          subst (λ p. Holds (known_at (set out place known) p) k (value p)) (sym same)
          (subst (λ y. Holds y k (value place)) (sym (get_or-set_same out place known _ room))
          (subst (λ v. Holds known k v) (sym (values place inside)) (gives place k x value reads l pattern before)))
      | inr other ↦ subst (λ y. Holds y k (value i)) (sym (get_or-set_other out place i known _ other)) (before i (omega (arith, below, other)))
    ]

-- one output more
pub reports_more : (bit : ℕ → Bool) (value : ℕ → Option Bool) (spec_outs imp_outs : List ℕ) (count lanes word more k : ℕ) → lane word k ≡ wrong_at bit value spec_outs imp_outs count → lane more k ≡ (lane lanes k || lane word k) →
    ReportsWrong bit value spec_outs imp_outs count lanes k → ReportsWrong bit value spec_outs imp_outs (count + 1) more k
reports_more bit value spec_outs imp_outs count lanes word more k is joined reported =
    subst (λ r. MatchBool r (Some-wrong (count + 1)) (None-wrong (count + 1))) (sym joined) (by_lanes (lane lanes k) (lane word k) is reported)
  where
    Some-wrong : ℕ → Type 0
    Some-wrong n = (j : ℕ) × (j < n) × (wrong_at bit value spec_outs imp_outs j ≡ true)

    None-wrong : ℕ → Type 0
    None-wrong n = (j : ℕ) → j < n → wrong_at bit value spec_outs imp_outs j ≡ false

    by_lanes : (a b : Bool) → b ≡ wrong_at bit value spec_outs imp_outs count → MatchBool a (Some-wrong count) (None-wrong count) → MatchBool (a || b) (Some-wrong (count + 1)) (None-wrong (count + 1))
    by_lanes true b e h = (h.0, omega (arith, h.1), h.2)
    by_lanes false true e h = (count, omega arith, sym e)
    by_lanes false false e h = λ j l. elim (cases_eq j count) [ inl same ↦ subst (λ i. wrong_at bit value spec_outs imp_outs i ≡ false) (sym same) (sym e) | inr other ↦ h j (omega (arith, l, other)) ]
