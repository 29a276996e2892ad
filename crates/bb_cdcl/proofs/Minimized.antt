-- Resolution with the reason of a literal that precedes the one that is kept.
use Rattle.std.proofs.Common.{◌≡◌, ◌<◌, ◌≤◌, ℕ, ◌+◌, Bool, true, false, not, ◌&&◌, ◌||◌, Some, List, take, slice_get, refl, sym, ◌∙◌, ap, arith, inl, inr}
use Rattle.std.proofs.lemmas.List.{take-take}
use Rattle.bb_lemmas.proofs.Bits.{and_both, or_cases, or_right, or_left, both_true, both_false}
use Rattle.bb_cnf.specs.declared.clauses.Lit.{Lit}
use Rattle.bb_cnf.specs.Clauses.{Literals, literals_of, same_literal, positive, negated}
use Rattle.bb_cnf.specs.Chains.{resolvent, resolution}
use Rattle.bb_cdcl.specs.declared.trail.Entry.{Entry}
use Rattle.bb_cdcl.specs.Inside.Trails.{opposite, falsified, IsNew, AreNew, IsReason}
use Rattle.bb_cdcl.specs.Inside.Analysis.{IsCovered}
use Rattle.bb_cdcl.proofs.Literals.{no_clash, opposite_twice, same_literal-is, same_literal-itself}
use Rattle.bb_cdcl.proofs.Extended.{any_prefix}
use Rattle.bb_cdcl.proofs.Analyzed.{falsified_more}
use Rattle.bb_cdcl.proofs.Resolved.{which, lit_of, own_resolvent, not_opposite, reason_has}

-- more entries make no fewer literals false
pub falsified_within : (entries : List Entry) (at place : ℕ) (m : Lit) → at ≤ place → falsified (take at entries) m ≡ true → falsified (take place entries) m ≡ true
falsified_within entries at place m before is = elim (falsified (take place entries) m) as (λ b. falsified (take place entries) m ≡ b → b ≡ true) [
  | true ↦ λ yes. refl
  | false ↦ λ no.
      no_clash (sym (ap (λ es. falsified es m) (sym (take-take at place entries before)) ∙ any_prefix (λ e. same_literal (opposite e.lit) m) (take place entries) at no) ∙ is)
] refl

-- the reason does not have the literal's negation
reason_lacks : (clauses : List (List Lit)) (prefix : List Entry) (l : Lit) (r : ℕ) (clause : List Lit) → IsNew prefix l → IsReason clauses prefix l r → slice_get clauses r ≡ Some clause
    → literals_of clause (opposite l) ≡ false
reason_lacks clauses prefix l r clause new reason occurs =
    let same : reason.clause ≡ clause = (let s : Some reason.clause ≡ Some clause = sym reason.occurs ∙ occurs in cc) in
    let apart : same_literal l (opposite l) ≡ false = ap (λ k. same_literal k (opposite l)) (sym (opposite_twice l)) ∙ not_opposite l.var (not l.neg) in
    elim (literals_of clause (opposite l)) as (λ b. literals_of clause (opposite l) ≡ b → b ≡ false) [
      | true ↦ λ yes.
          no_clash (sym (both_false (same_literal l (opposite l)) (falsified prefix (opposite l)) apart new.1) ∙ reason.others (opposite l) (ap (λ k. literals_of k (opposite l)) same ∙ yes))
      | false ↦ λ no. refl
    ] refl

-- what the resolution makes, where the reason does not have the literal's negation
pub made_of : (x : ℕ) (s : Bool) (c d e : Literals) → c (opposite (lit_of x s)) ≡ true → d (lit_of x s) ≡ true → d (opposite (lit_of x s)) ≡ false → resolution c d x ≡ Some e
    → resolvent c d (opposite (lit_of x s)) (lit_of x s) ≡ e
made_of x false c d e mine yours lacks is = elim (which (c (positive x) && d (negated x)) _ _ _ e is) as (λ _. resolvent c d (negated x) (positive x) ≡ e) [
  | inl first ↦ no_clash (sym lacks ∙ (and_both (c (positive x)) (d (negated x)) first.0).1)
  | inr second ↦ second.1
]
made_of x true c d e mine yours lacks is = elim (which (c (positive x) && d (negated x)) _ _ _ e is) as (λ _. resolvent c d (positive x) (negated x) ≡ e) [
  | inl first ↦ first.1
  | inr second ↦ no_clash (sym second.0 ∙ both_true (c (positive x)) (d (negated x)) mine yours)
]

-- a literal that is assigned later is another one
other_literal : (entries : List Entry) (place at : ℕ) (d e : Entry) → AreNew entries → slice_get entries at ≡ Some d → slice_get entries place ≡ Some e → at < place
    → same_literal (opposite d.lit) (opposite e.lit) ≡ false
other_literal entries place at d e new occurs later before =
    let u = opposite e.lit in
    let own : falsified (take (at + 1) entries) (opposite d.lit) ≡ true =
    falsified_more entries at d (opposite d.lit) occurs ∙ or_right (falsified (take at entries) (opposite d.lit)) _ (same_literal-itself (opposite d.lit)) in
    elim (same_literal (opposite d.lit) u) as (λ b. same_literal (opposite d.lit) u ≡ b → b ≡ false) [
      | true ↦ λ yes.
          no_clash (sym (new place e later).1 ∙ ap (falsified (take place entries)) (sym (same_literal-is (opposite d.lit) u yes)) ∙ falsified_within entries (at + 1) place (opposite d.lit) (omega (arith, before)) own)
      | false ↦ λ no. refl
    ] refl

-- the literal at `place` stays, and the others are false before it
pub covered_resolved : (clauses : List (List Lit)) (entries : List Entry) (place at : ℕ) (d : Entry) (r : ℕ) (clause : List Lit) (c e : Literals)
    → AreNew entries → slice_get entries at ≡ Some d → IsReason clauses (take at entries) d.lit r → slice_get clauses r ≡ Some clause → at < place
    → c (opposite d.lit) ≡ true → resolution c (literals_of clause) d.lit.var ≡ Some e → IsCovered entries c place place → IsCovered entries e place place
covered_resolved clauses entries place at d r clause c e new occurs reason is before own resolved covered =
    let l = d.lit in
    let u = opposite covered.entry.lit in
    let same : reason.clause ≡ clause = (let s : Some reason.clause ≡ Some clause = sym reason.occurs ∙ is in cc) in
    let made : resolvent c (literals_of clause) (opposite l) l ≡ e =
    made_of l.var l.neg c (literals_of clause) e own (reason_has clauses (take at entries) l r clause reason is) (reason_lacks clauses (take at entries) l r clause (new at d occurs) reason is) resolved in
    record {
      entry = covered.entry;
      at_place = covered.at_place;
      member = ap (λ k. k u) (sym made)
          ∙ or_left (c u && not (same_literal (opposite l) u)) _ (both_true (c u) (not (same_literal (opposite l) u)) covered.member (ap not (other_literal entries place at d covered.entry new occurs covered.at_place before)));
      before = covered.before;
      others = λ m member.
          own_resolvent (λ n. same_literal u n || falsified (take place entries) n) c (literals_of clause) l
          (λ n has. or_left (same_literal u n || falsified (take place entries) n) (same_literal (opposite l) n) (covered.others n has))
          (λ n has. elim (or_cases (same_literal l n) (falsified (take at entries) n) (reason.others n (ap (λ k. literals_of k n) same ∙ has))) as (λ _. (same_literal l n || (same_literal u n || falsified (take place entries) n)) ≡ true) [
            | inl mine ↦ or_left (same_literal l n) _ mine
            | inr lower ↦ or_right (same_literal l n) _ (or_right (same_literal u n) _ (falsified_within entries at place n (omega (arith, before)) lower))
          ])
          m (ap (λ k. k m) made ∙ member);
    }
