-- The way down the trail.
use Rattle.std.proofs.Common.{◌≡◌, ℕ, ◌+◌, Bool, true, false, ◌||◌, Some, None, List, [], ◌∷◌, ◌++◌, take, slice_get, refl, sym, ◌∙◌, ap, arith, inl, inr}
use Rattle.std.proofs.lemmas.List.{take_more}
use Rattle.std.proofs.lemmas.Option.{get_or_from_slice_get, slice_get_within}
use Rattle.bb_lemmas.proofs.Bits.{or_cases, or_right, or_left}
use Rattle.bb_cnf.specs.declared.clauses.Lit.{Lit}
use Rattle.bb_cnf.specs.Clauses.{Literals, same_literal}
use Rattle.bb_cdcl.specs.declared.trail.Entry.{Entry}
use Rattle.bb_cdcl.specs.Inside.Trails.{opposite, falsified}
use Rattle.bb_cdcl.specs.Inside.Analysis.{AreFalsified, IsCovered, IsBackjump}
use Rattle.bb_cdcl.proofs.Literals.{no_clash, falsified-push, same_literal-is}

-- the front with one more entry
pub take_entry : (entries : List Entry) (i : ℕ) (e : Entry) → slice_get entries i ≡ Some e → take (i + 1) entries ≡ take i entries ++ e ∷ []
take_entry entries i e occurs =
    take_more entries i e (slice_get_within entries i e occurs) ∙ ap (λ x. take i entries ++ x ∷ []) (get_or_from_slice_get entries i e e occurs)

pub falsified_more : (entries : List Entry) (i : ℕ) (e : Entry) (m : Lit) → slice_get entries i ≡ Some e → falsified (take (i + 1) entries) m ≡ (falsified (take i entries) m || same_literal (opposite e.lit) m)
falsified_more entries i e m occurs = ap (λ es. falsified es m) (take_entry entries i e occurs) ∙ falsified-push (take i entries) e m

swapped : (a b : Bool) → (a || b) ≡ true → (b || a) ≡ true
swapped true b e = or_right b true refl
swapped false b e = or_left b false e

pub covered_start : (entries : List Entry) (c : Literals) (place : ℕ) (e : Entry) → slice_get entries place ≡ Some e → AreFalsified (take (place + 1) entries) c → c (opposite e.lit) ≡ true
    → IsCovered entries c place place
covered_start entries c place e occurs all member = record {
  entry = e;
  at_place = occurs;
  member = member;
  before = omega arith;
  others = λ m is. swapped (falsified (take place entries) m) (same_literal (opposite e.lit) m) (sym (falsified_more entries place e m occurs) ∙ all m is);
}

pub covered_down : (entries : List Entry) (c : Literals) (place at : ℕ) (e : Entry) → slice_get entries at ≡ Some e → c (opposite e.lit) ≡ false → IsCovered entries c place (at + 1)
    → IsCovered entries c place at
covered_down entries c place at e occurs missing covered = record {
  entry = covered.entry;
  at_place = covered.at_place;
  member = covered.member;
  before = let b = covered.before in omega (arith, b);
  others = λ m is.
      let u = opposite covered.entry.lit in
      elim (or_cases (same_literal u m) (falsified (take (at + 1) entries) m) (covered.others m is)) as (λ _. (same_literal u m || falsified (take at entries) m) ≡ true) [
        | inl own ↦ or_left (same_literal u m) _ own
        | inr prefix ↦ elim (or_cases (falsified (take at entries) m) (same_literal (opposite e.lit) m) (sym (falsified_more entries at e m occurs) ∙ prefix)) as (λ _. (same_literal u m || falsified (take at entries) m) ≡ true) [
          | inl lower ↦ or_right (same_literal u m) _ lower
          | inr last ↦ no_clash (sym missing ∙ ap c (same_literal-is (opposite e.lit) m last) ∙ is)
        ]
      ];
}

pub backjump_here : (entries : List Entry) (c : Literals) (place back : ℕ) (d : Entry) → IsCovered entries c place back → slice_get entries back ≡ Some d → d.reason ≡ None → IsBackjump entries c place back
backjump_here entries c place back d covered occurs decided = record {
  covered = covered;
  decision = d;
  at_back = occurs;
  decided = decided;
}

-- a literal that the clause does not have is passed
pub passed : (entries : List Entry) (c : Literals) (place : ℕ) (e : Entry) → slice_get entries place ≡ Some e → c (opposite e.lit) ≡ false → AreFalsified (take (place + 1) entries) c
    → AreFalsified (take place entries) c
passed entries c place e occurs missing all m is =
    elim (or_cases (falsified (take place entries) m) (same_literal (opposite e.lit) m) (sym (falsified_more entries place e m occurs) ∙ all m is)) as (λ _. falsified (take place entries) m ≡ true) [
      | inl lower ↦ lower
      | inr last ↦ no_clash (sym missing ∙ ap c (same_literal-is (opposite e.lit) m last) ∙ is)
    ]

pub covered_has : (entries : List Entry) (c : Literals) (place : ℕ) (e : Entry) → slice_get entries place ≡ Some e → IsCovered entries c place place → c (opposite e.lit) ≡ true
covered_has entries c place e occurs covered =
    let same : covered.entry ≡ e = (let s : Some covered.entry ≡ Some e = sym covered.at_place ∙ occurs in cc) in
    ap (λ (d : Entry). c (opposite d.lit)) (sym same) ∙ covered.member
