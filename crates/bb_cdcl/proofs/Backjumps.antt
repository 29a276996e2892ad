-- The way back by the places of the clause's literals.
use Rattle.std.proofs.Common.{◌≡◌, ◌<◌, ◌≤◌, ℕ, ◌+◌, true, ◌||◌, Some, List, length, take, slice_get, get_or, sym, ◌∙◌, ap, subst, inl, inr}
use Rattle.std.proofs.lemmas.List.Folds.{list_any_more}
use Rattle.bb_lemmas.proofs.Bits.{or_cases, or_right, or_left}
use Rattle.bb_cnf.specs.declared.clauses.Lit.{Lit}
use Rattle.bb_cnf.specs.Clauses.{Literals, literals_of, same_literal}
use Rattle.bb_cdcl.specs.declared.trail.Entry.{Entry}
use Rattle.bb_cdcl.specs.Inside.Trails.{opposite, falsified}
use Rattle.bb_cdcl.specs.Inside.Analysis.{OthersAreFalsified, IsCovered}
use Rattle.bb_cdcl.proofs.Literals.{same_literal-is}
use Rattle.bb_cdcl.proofs.Analyzed.{falsified_more, covered_has}
use Rattle.bb_cdcl.proofs.Minimized.{falsified_within}

-- an entry makes its literal's negation false
pub falsified_at : (entries : List Entry) (i : ℕ) (e : Entry) (m : Lit) → slice_get entries i ≡ Some e → same_literal (opposite e.lit) m ≡ true → falsified (take (i + 1) entries) m ≡ true
falsified_at entries i e m occurs same = falsified_more entries i e m occurs ∙ or_right (falsified (take i entries) m) _ same

-- and more entries do
further : (entries : List Entry) (kept m : Lit) (at most : ℕ) → at ≤ most → (same_literal kept m || falsified (take at entries) m) ≡ true → (same_literal kept m || falsified (take most entries) m) ≡ true
further entries kept m at most before is = elim (or_cases (same_literal kept m) (falsified (take at entries) m) is) as (λ _. (same_literal kept m || falsified (take most entries) m) ≡ true) [
  | inl own ↦ or_left (same_literal kept m) _ own
  | inr prefix ↦ or_right (same_literal kept m) _ (falsified_within entries at most m before prefix)
]

-- one literal more is false
pub prefix_more : (entries : List Entry) (kept : Lit) (c : Literals) (lits : List Lit) (i at next most : ℕ) (d : Lit) → i < length lits → at ≤ most → next ≤ most
    → ((m : Lit) → literals_of (take i lits) m ≡ true → c m ≡ true → (same_literal kept m || falsified (take at entries) m) ≡ true)
    → (c (get_or lits i d) ≡ true → (same_literal kept (get_or lits i d) || falsified (take next entries) (get_or lits i d)) ≡ true)
    → (m : Lit) → literals_of (take (i + 1) lits) m ≡ true → c m ≡ true → (same_literal kept m || falsified (take most entries) m) ≡ true
prefix_more entries kept c lits i at next most d within root high before new m listed has =
    let l = get_or lits i d in
    elim (or_cases (literals_of (take i lits) m) (same_literal l m) (sym (list_any_more (λ k. same_literal k m) lits i d within) ∙ listed)) as (λ _. (same_literal kept m || falsified (take most entries) m) ≡ true) [
      | inl old ↦ further entries kept m at most root (before m old has)
      | inr last ↦
          let is : l ≡ m = same_literal-is l m last in
          further entries kept m next most high (subst (λ k. (same_literal kept k || falsified (take next entries) k) ≡ true) is (new (ap c is ∙ has)))
    ]

-- so many entries make the others false
pub covered_prefix : (entries : List Entry) (c : Literals) (place prefix : ℕ) (e : Entry) → slice_get entries place ≡ Some e → IsCovered entries c place place → prefix ≤ place
    → OthersAreFalsified (take prefix entries) (opposite e.lit) c → IsCovered entries c place prefix
covered_prefix entries c place prefix e occurs covered before others = record {
  entry = e;
  at_place = occurs;
  member = covered_has entries c place e occurs covered;
  before = before;
  others = others;
}

-- and more entries do
pub covered_further : (entries : List Entry) (c : Literals) (place at most : ℕ) → at ≤ most → most ≤ place → IsCovered entries c place at → IsCovered entries c place most
covered_further entries c place at most root high covered = record {
  entry = covered.entry;
  at_place = covered.at_place;
  member = covered.member;
  before = high;
  others = λ m is. further entries (opposite covered.entry.lit) m at most root (covered.others m is);
}
