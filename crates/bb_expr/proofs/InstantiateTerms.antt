-- A pasted cell is made of what its formula stands for, where the inputs are made of given terms.
use Rattle.std.proofs.Common.{◌≡◌, ℕ, zero, suc, ◌+◌, ◌<◌, true, false, ◌||◌, List, [], ◌∷◌, ◌++◌, map, length, get_or, refl, sym, ap, ap₂, ◌∙◌, subst, inl, inr, arith, length-append, append_assoc}
use Rattle.std.specs.Prelude.{nat_eq}
use Rattle.std.proofs.lemmas.List.{get_or-append-add}
use Rattle.std.proofs.lemmas.Bool.{eq-eqb, eqb-true, or_left, or_right}
use Rattle.bb_lemmas.proofs.Bits.{or_cases}
use Rattle.bb_names.specs.declared.net.NetInfo.{NetInfo}
use Rattle.bb_net.specs.Netlists.{ReadsBefore}
use Rattle.bb_net.specs.declared.cell.Cell.{Cell}
use Rattle.bb_net.specs.declared.cell.Cell.TheVariants as cells
use Rattle.bb_word.specs.Laws.Formulas.{Formula, formulas, cell_formula}
use Rattle.bb_word.specs.Gates.{IsMap}
use Rattle.bb_word.specs.Inside.Nets.{inputs_from}
use Rattle.bb_expr.specs.Terms.{Term, Const, Not, And, Or, Xor, terms}
use Rattle.bb_expr.specs.Lowered.{step_term, ReadsEarlier, is_operator}
use Rattle.bb_expr.specs.Inside.Instantiation.{is_read, instantiated, formula_term, is_gate}

pub formulas-map : (inputs : List Term) → IsMap formulas terms (formula_term inputs)
formulas-map inputs = record {
  zero = refl;
  one = refl;
  inverse = λ a. refl;
  both = λ a b. refl;
  either = λ a b. refl;
  differ = λ a b. refl;
  choice = λ c t e. refl;
}

pub same-place : (a : ℕ) → nat_eq a a ≡ true
same-place a = eq-eqb a a refl

pub gate-operator : (part : ℕ → Formula) (to : ℕ → ℕ) (c : Cell) → is_gate (cell_formula part c) ≡ is_operator (instantiated to c)
gate-operator part to (cells.Const b) = refl
gate-operator part to (cells.Input i) = refl
gate-operator part to (cells.Not a) = refl
gate-operator part to (cells.And a b) = refl
gate-operator part to (cells.Or a b) = refl
gate-operator part to (cells.Xor a b) = refl
gate-operator part to (cells.Mux c t e) = refl
gate-operator part to (cells.BoxOut b p) = refl

-- it depends on what it reads alone
pub instantiated-term : (nets : List NetInfo) (inputs : List Term) (v : ℕ → Term) (part : ℕ → Formula) (to : ℕ → ℕ) (c : Cell) → is_gate (cell_formula part c) ≡ true
    → ((k : ℕ) → is_read k c ≡ true → v (to k) ≡ formula_term inputs (part k)) → step_term nets (instantiated to c) v ≡ formula_term inputs (cell_formula part c)
instantiated-term nets inputs v part to (cells.Const b) gate same = refl
instantiated-term nets inputs v part to (cells.Input i) gate same = cc
instantiated-term nets inputs v part to (cells.Not a) gate same = ap Not (same a (same-place a))
instantiated-term nets inputs v part to (cells.And a b) gate same = ap₂ And (same a (or_left (nat_eq a a) (nat_eq b a) (same-place a))) (same b (or_right (nat_eq a b) (nat_eq b b) (same-place b)))
instantiated-term nets inputs v part to (cells.Or a b) gate same = ap₂ Or (same a (or_left (nat_eq a a) (nat_eq b a) (same-place a))) (same b (or_right (nat_eq a b) (nat_eq b b) (same-place b)))
instantiated-term nets inputs v part to (cells.Xor a b) gate same = ap₂ Xor (same a (or_left (nat_eq a a) (nat_eq b a) (same-place a))) (same b (or_right (nat_eq a b) (nat_eq b b) (same-place b)))
instantiated-term nets inputs v part to (cells.Mux c t e) gate same =
    let p = same c (or_left (nat_eq c c) (nat_eq t c || nat_eq e c) (same-place c)) in
    let q = same t (or_right (nat_eq c t) (nat_eq t t || nat_eq e t) (or_left (nat_eq t t) (nat_eq e t) (same-place t))) in
    let r = same e (or_right (nat_eq c e) (nat_eq t e || nat_eq e e) (or_right (nat_eq t e) (nat_eq e e) (same-place e))) in
    cc
instantiated-term nets inputs v part to (cells.BoxOut b p) gate same = cc

-- the same for the places that it reads
pub instantiated-reads : (nets : List NetInfo) (place : ℕ) (to : ℕ → ℕ) (c : Cell) → ((k : ℕ) → is_read k c ≡ true → to k < place) → ReadsEarlier nets place (instantiated to c)
instantiated-reads nets place to (cells.Const b) below = tt
instantiated-reads nets place to (cells.Input i) below = tt
instantiated-reads nets place to (cells.Not a) below = below a (same-place a)
instantiated-reads nets place to (cells.And a b) below = (below a (or_left (nat_eq a a) (nat_eq b a) (same-place a)), below b (or_right (nat_eq a b) (nat_eq b b) (same-place b)))
instantiated-reads nets place to (cells.Or a b) below = (below a (or_left (nat_eq a a) (nat_eq b a) (same-place a)), below b (or_right (nat_eq a b) (nat_eq b b) (same-place b)))
instantiated-reads nets place to (cells.Xor a b) below = (below a (or_left (nat_eq a a) (nat_eq b a) (same-place a)), below b (or_right (nat_eq a b) (nat_eq b b) (same-place b)))
instantiated-reads nets place to (cells.Mux c t e) below = (
  below c (or_left (nat_eq c c) (nat_eq t c || nat_eq e c) (same-place c)),
  below t (or_right (nat_eq c t) (nat_eq t t || nat_eq e t) (or_left (nat_eq t t) (nat_eq e t) (same-place t))),
  below e (or_right (nat_eq c e) (nat_eq t e || nat_eq e e) (or_right (nat_eq t e) (nat_eq e e) (same-place e))),
)
instantiated-reads nets place to (cells.BoxOut b p) below = tt

one-of : (a b k place : ℕ) → a < place → b < place → (nat_eq a k || nat_eq b k) ≡ true → k < place
one-of a b k place p q h = elim (or_cases (nat_eq a k) (nat_eq b k) h) [
  | inl is ↦ subst (λ j. j < place) (eqb-true a k is) p
  | inr is ↦ subst (λ j. j < place) (eqb-true b k is) q
]

-- what a cell reads precedes it
pub read-before : (inputs place k : ℕ) (c : Cell) → ReadsBefore inputs [] place c → is_read k c ≡ true → k < place
read-before inputs place k (cells.Const b) h is = cc
read-before inputs place k (cells.Input i) h is = cc
read-before inputs place k (cells.Not a) h is = subst (λ j. j < place) (eqb-true a k is) h
read-before inputs place k (cells.And a b) h is = one-of a b k place h.0 h.1 is
read-before inputs place k (cells.Or a b) h is = one-of a b k place h.0 h.1 is
read-before inputs place k (cells.Xor a b) h is = one-of a b k place h.0 h.1 is
read-before inputs place k (cells.Mux c t e) h is = elim (or_cases (nat_eq c k) (nat_eq t k || nat_eq e k) is) [
  | inl first ↦ subst (λ j. j < place) (eqb-true c k first) h.0
  | inr other ↦ one-of t e k place h.1 h.2 other
]
read-before inputs place k (cells.BoxOut b p) h is = cc

-- so many inputs from one on stand for the terms from there on
pub input-terms : (prefix a after : List Term) (k count : ℕ) → k ≡ length prefix → count ≡ length a → map (formula_term (prefix ++ (a ++ after))) (inputs_from k count) ≡ a
input-terms prefix [] after k zero at long = refl
input-terms prefix [] after k (suc count) at long = absurd (omega (arith, long))
input-terms prefix (b ∷ a) after k zero at long = absurd (omega (arith, long))
input-terms prefix (b ∷ a) after k (suc count) at long =
    let here : get_or (prefix ++ ((b ∷ a) ++ after)) k (Const false) ≡ b = ap (λ i. get_or (prefix ++ ((b ∷ a) ++ after)) i (Const false)) (let e : k ≡ length prefix + 0 = omega (arith, at) in e) ∙ get_or-append-add prefix ((b ∷ a) ++ after) 0 (Const false) in
    let moved = ap (λ l. map (formula_term l) (inputs_from (k + 1) count)) (sym (append_assoc prefix (b ∷ []) (a ++ after))) in
    ap₂ (λ c l. c ∷ l) here (moved ∙ input-terms (prefix ++ b ∷ []) a after (k + 1) count (omega (arith, at, length-append prefix (b ∷ []))) (omega (arith, long)))
