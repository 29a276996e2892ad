-- Resolution with unit clauses, and the steps that have it.
use Rattle.std.proofs.Common.{◌≡◌, ℕ, Bool, true, false, not, ◌&&◌, ◌||◌, ◌==◌, Option, Some, None, option_and_then, List, [], ◌∷◌, ◌++◌, map, take, slice_get, refl, sym, ◌∙◌, ap}
use Rattle.std.proofs.lemmas.List.{map-append}
use Rattle.bb_lemmas.proofs.Bits.{or_left, both_true, both_false}
use Rattle.bb_lemmas.proofs.Maps.{or-false}
use Rattle.bb_cnf.specs.declared.clauses.Lit.{Lit}
use Rattle.bb_cnf.specs.declared.refutation.Step.{Step}
use Rattle.bb_cnf.specs.declared.partial_resolvent.PartialResolvent.{PartialResolvent}
use Rattle.bb_cnf.specs.Clauses.{Literals, literals_of, same_literal}
use Rattle.bb_cnf.specs.Chains.{resolvent, resolution, chain, made_by}
use Rattle.bb_cnf.specs.Laws.{ChainLaws}
use Rattle.bb_cnf.specs.Inside.PartialResolvent.{held, AreListed}
use Rattle.bb_cdcl.specs.declared.trail.Entry.{Entry}
use Rattle.bb_cdcl.specs.Inside.Trails.{opposite, falsified}
use Rattle.bb_cdcl.specs.Inside.Analysis.{IsCovered, IsBackjump, IsResolved}
use Rattle.bb_cdcl.proofs.Literals.{opposite_twice, same_literal-itself, other_variable}
use Rattle.bb_cdcl.proofs.Resolved.{own_resolvent, not_opposite, resolves}
use Rattle.bb_cdcl.proofs.Minimized.{made_of}

unit_has : (l : Lit) → literals_of (l ∷ []) l ≡ true
unit_has l = or_left (same_literal l l) false (same_literal-itself l)

unit_lacks : (l : Lit) → literals_of (l ∷ []) (opposite l) ≡ false
unit_lacks l = both_false (same_literal l (opposite l)) false (ap (λ k. same_literal k (opposite l)) (sym (opposite_twice l)) ∙ not_opposite l.var (not l.neg)) refl

-- where the negation of its literal is held, a unit clause can be resolved with
pub unit_resolves : (l : Lit) (clause : List Lit) (c e : Literals) (done : Bool) → clause ≡ l ∷ [] → c (opposite l) ≡ true → (done ≡ true → resolution c (literals_of clause) l.var ≡ Some e)
    → (done ≡ false → resolution c (literals_of clause) l.var ≡ None) → resolution c (literals_of clause) l.var ≡ Some e
unit_resolves l clause c e done is own some none = resolves l c (literals_of clause) e done own (ap (λ k. literals_of k l) is ∙ unit_has l) some none

-- it takes the negation away and leaves the others
pub unit_covered : (entries : List Entry) (place back : ℕ) (e : Entry) (l : Lit) (clause : List Lit) (c d : Literals) → slice_get entries place ≡ Some e → (e.lit.var == l.var) ≡ false
    → clause ≡ l ∷ [] → c (opposite l) ≡ true → resolution c (literals_of clause) l.var ≡ Some d → IsCovered entries c place back → IsCovered entries d place back
unit_covered entries place back e l clause c d occurs apart is own resolved covered =
    let u = opposite covered.entry.lit in
    let same : covered.entry ≡ e = (let s : Some covered.entry ≡ Some e = sym covered.at_place ∙ occurs in cc) in
    let made : resolvent c (literals_of (l ∷ [])) (opposite l) l ≡ d =
    made_of l.var l.neg c (literals_of (l ∷ [])) d own (unit_has l) (unit_lacks l) (ap (λ k. resolution c (literals_of k) l.var) (sym is) ∙ resolved) in
    let other : same_literal (opposite l) u ≡ false = other_variable (opposite l) u (ap (λ (k : Entry). k.lit.var == l.var) same ∙ apart) in
    record {
      entry = covered.entry;
      at_place = covered.at_place;
      member = ap (λ k. k u) (sym made) ∙ or_left (c u && not (same_literal (opposite l) u)) _ (both_true (c u) (not (same_literal (opposite l) u)) covered.member (ap not other));
      before = covered.before;
      others = λ m member.
          own_resolvent (λ n. same_literal u n || falsified (take back entries) n) c (literals_of (l ∷ [])) l
          (λ n has. or_left (same_literal u n || falsified (take back entries) n) (same_literal (opposite l) n) (covered.others n has))
          (λ n has. or_left (same_literal l n) _ (sym (or-false (same_literal l n)) ∙ has))
          m (ap (λ k. k m) made ∙ member);
    }

-- so the trail may be taken back as before, where the variable of the literal at `place` is kept
pub backjump_kept : (entries : List Entry) (place back kept : ℕ) (e : Entry) (c d : Literals) → slice_get entries place ≡ Some e → e.lit.var ≡ kept
    → ((es : List Entry) (p b : ℕ) (k : Entry) → slice_get es p ≡ Some k → k.lit.var ≡ kept → IsCovered es c p b → IsCovered es d p b) → IsBackjump entries c place back → IsBackjump entries d place back
backjump_kept entries place back kept e c d occurs is covers backjump = record {
  covered = covers entries place back e occurs is backjump.covered;
  decision = backjump.decision;
  at_back = backjump.at_back;
  decided = backjump.decided;
}

goes_on : (all : List Literals) (old new : List (ℕ × ℕ)) (c d : Literals) (o : Option Literals) → ((first : Literals) → chain all first old ≡ Some c → chain all first new ≡ Some d)
    → option_and_then (λ first. chain all first old) o ≡ Some c → option_and_then (λ first. chain all first new) o ≡ Some d
goes_on all old new c d None goes made = absurd (let clash : None ≡ Some c = made in cc)
goes_on all old new c d (Some first) goes made = goes first made

-- a step whose chain goes on
pub made_longer : (all : List (List Lit)) (old new : Step) (before after : PartialResolvent) → new.first ≡ old.first → AreListed before
    → ((first : Literals) → IsResolved all first old.rest.items before → IsResolved all first new.rest.items after)
    → made_by (map literals_of all) old ≡ Some (held before) → made_by (map literals_of all) new ≡ Some (held after)
made_longer all old new before after first listed goes made =
    ap (λ n. option_and_then (λ c. chain (map literals_of all) c new.rest.items) (slice_get (map literals_of all) n)) first
    ∙ goes_on (map literals_of all) old.rest.items new.rest.items (held before) (held after) (slice_get (map literals_of all) old.first)
    (λ c chained. (goes c (record { made = chained; listed = listed })).made) made

-- a step stays where more clauses follow the earlier ones
pub made_with_more : ChainLaws → (all longer more : List (List Lit)) (step : Step) (c : Literals) → longer ≡ all ++ more → made_by (map literals_of all) step ≡ Some c
    → made_by (map literals_of longer) step ≡ Some c
made_with_more laws all longer more step c is made =
    ap (λ clauses. made_by (map literals_of clauses) step) is
    ∙ ap (λ clauses. made_by clauses step) (map-append literals_of all more)
    ∙ laws.step_with_more (map literals_of all) (map literals_of more) step c made
