-- Laws of the conditions that need no more than a search, and those of values in three values.
use Rattle.std.proofs.Common.{◌≡◌, ◌≢◌, ℕ, ◌<◌, ◌⊎◌, zero, suc, Bool, Option, Some, None, List, [], ◌∷◌, ◌++◌, length, map, get_or, refl, sym, ap, subst, ◌∙◌, inl, inr, arith}
use Rattle.std.specs.Prelude.{All, Contains, IfSome, slice_index}
use Rattle.std.proofs.lemmas.List.Elements.{All-contains}
use Rattle.std.proofs.lemmas.Bool.{cases_eq}
use Rattle.bb_bits.specs.Tables.{TableBits}
use Rattle.bb_net.specs.Netlists.{Netlist, Pins}
use Rattle.bb_net.specs.Values.{flat, flat_with, output_pins, free_bit}
use Rattle.bb_net.specs.Ternary.{tern, tern_of}
use Rattle.bb_net.specs.Equivalence.{wanted_bit, out_bit, IsVector, AreBoxOutputs, IsOutput, IsRight, IsWrong, AllRight, SomeWrong, TablesMakeEquivalent}
use Rattle.bb_net.specs.Conditions.{IsKnownWrong, MayBeRight, KnownWrongAmong, MayBeRightAmong, IsFirstHit, KnownWrongSomewhere, MayBeRightEverywhere, IsAlwaysWrong, OneAlwaysWrong, EachSometimesRight, AlwaysSomeWrongAt, SomeAlwaysWrong, AllRightTogether, PinBits, all_outs, all_ins, ChoicesSuit, InputsHaveOutputs, SomeChoicesSuit, NoChoicesSuit, NoTablesMakeEquivalent, SomeTablesMakeEquivalent}
use Rattle.bb_net.proofs.Finite.{bits_cases, bit_lists_cases, below_or_one, lists_or_one, tables_or_none}
use Rattle.bb_net.proofs.TernLemmas.{tern-known}

pub known_among : (spec imp : Netlist) (patterns : List (List Bool)) → All (IsVector imp) patterns → KnownWrongAmong spec imp patterns → KnownWrongSomewhere spec imp
known_among spec imp patterns vectors hit = (hit.0, All-contains (IsVector imp) patterns hit.0 vectors hit.1, hit.2, hit.3, hit.4)

pub known_stays : (spec imp : Netlist) → KnownWrongSomewhere spec imp → OneAlwaysWrong spec imp
known_stays spec imp hit =
    let d = hit.4 in
    (hit.0, hit.1, hit.2, hit.3, λ z len same. d.2 (sym same ∙ tern-known imp hit.0 (free_bit imp.boxes z) (slice_index imp.outs hit.2) d.0 d.1))

pub one_is_some : (spec imp : Netlist) → OneAlwaysWrong spec imp → SomeAlwaysWrong spec imp
one_is_some spec imp hit = (hit.0, hit.1, λ z len. (hit.2, hit.3, hit.4 z len))

wrong_or_right : (value : Option Bool) (wanted : Bool) → ((bit : Bool) × (value ≡ Some bit) × (wanted ≢ bit)) ⊎ IfSome value (λ bit. wanted ≡ bit)
wrong_or_right None wanted = inr tt
wrong_or_right (Some bit) wanted = elim (bits_cases wanted bit) [ inl same ↦ inr same | inr other ↦ inl (bit, refl, other) ]

pub known_cases : (spec imp : Netlist) (x : List Bool) (j : ℕ) → IsKnownWrong spec imp x j ⊎ MayBeRight spec imp x j
known_cases spec imp x j = wrong_or_right (tern_of (tern imp x) (slice_index imp.outs j)) (wanted_bit spec x j)

turned : {A B : Type 0} → A ⊎ B → B ⊎ A
turned (inl a) = inr a
turned (inr b) = inl b

-- the outputs may all be right, or one is known and wrong
outputs_known : (spec imp : Netlist) (x : List Bool) → ((j : ℕ) → IsOutput imp j → MayBeRight spec imp x j) ⊎ ((j : ℕ) × IsOutput imp j × IsKnownWrong spec imp x j)
outputs_known spec imp x = below_or_one (MayBeRight spec imp x) (IsKnownWrong spec imp x) (length imp.outs) (λ j h. turned (known_cases spec imp x j))

pub known_or_not : (spec imp : Netlist) → KnownWrongSomewhere spec imp ⊎ MayBeRightEverywhere spec imp
known_or_not spec imp =
    elim (lists_or_one
    (λ x. (j : ℕ) → IsOutput imp j → MayBeRight spec imp x j)
    (λ x. (j : ℕ) × IsOutput imp j × IsKnownWrong spec imp x j)
    imp.inputs (λ x len. outputs_known spec imp x)) [
      | inl all ↦ inr all
      | inr one ↦ inl (one.0, one.1, one.2.0, one.2.1, one.2.2)
    ]

-- the least number below a bound with Q, where each has P or Q
least_one : (P Q : ℕ → Type 0) → ((k : ℕ) → P k ⊎ Q k) → (n : ℕ) → ((k : ℕ) → k < n → P k) ⊎ ((k : ℕ) × (k < n) × Q k × ((i : ℕ) → i < k → P i))
least_one P Q each zero = inl (λ k h. absurd (omega arith))
least_one P Q each (suc n) = elim (least_one P Q each n) [
  | inl all ↦ elim (each n) [
    | inl here ↦ inl (λ k h. elim (cases_eq k n) [ inl e ↦ subst P (sym e) here | inr ne ↦ all k (omega arith) ])
    | inr here ↦ inr (n, omega arith, here, all)
  ]
  | inr one ↦ inr (one.0, omega (arith, one.1), one.2, one.3)
]

contains_first : {X : Type 0} (P : X → Type 0) (x : X) (xs : List X) → P x → ((y : X) → Contains xs y → P y) → (y : X) → Contains (x ∷ xs) y → P y
contains_first P x xs first rest y has = by_place P x xs first rest y has.0 has.1 has.2
  where
    by_place : {X : Type 0} (P : X → Type 0) (x : X) (xs : List X) → P x → ((y : X) → Contains xs y → P y) → (y : X) (k : ℕ) → k < suc (length xs) → get_or (x ∷ xs) k y ≡ y → P y
    by_place P x xs first rest y zero h e = subst P e first
    by_place P x xs first rest y (suc k) h e = rest y (k, omega arith, e)

pub first_hit_or_none : (spec imp : Netlist) (patterns : List (List Bool)) → ((x : List Bool) × (j : ℕ) × IsFirstHit spec imp patterns x j) ⊎ MayBeRightAmong spec imp patterns
first_hit_or_none spec imp [] = inr (λ x has. absurd (omega (arith, has.1)))
first_hit_or_none spec imp (x ∷ patterns) = elim (least_one (MayBeRight spec imp x) (IsKnownWrong spec imp x) (λ j. turned (known_cases spec imp x j)) (length imp.outs)) [
  | inr hit ↦ inl (x, hit.0, record { before = []; after = patterns; occurs = refl; earlier = λ y has. absurd (omega (arith, has.1)); there = hit.1; wrong = hit.2; first = hit.3 })
  | inl here ↦ elim (first_hit_or_none spec imp patterns) [
    | inl hit ↦
        let h = hit.2 in
        inl (
          hit.0,
          hit.1,
          record {
            before = x ∷ h.before;
            after = h.after;
            occurs = ap (λ xs. x ∷ xs) h.occurs;
            earlier = contains_first (λ y. (j : ℕ) → IsOutput imp j → MayBeRight spec imp y j) x h.before here h.earlier;
            there = h.there;
            wrong = h.wrong;
            first = h.first;
          },
        )
    | inr none ↦ inr (contains_first (λ y. (j : ℕ) → IsOutput imp j → MayBeRight spec imp y j) x patterns here none)
  ]
]

right_cases : (spec imp : Netlist) (x bits : List Bool) (j : ℕ) → IsRight spec imp x bits j ⊎ IsWrong spec imp x bits j
right_cases spec imp x bits j = bits_cases (out_bit imp bits j) (wanted_bit spec x j)

all_right_cases : (spec imp : Netlist) (x bits : List Bool) → AllRight spec imp x bits ⊎ SomeWrong spec imp x bits
all_right_cases spec imp x bits = below_or_one (IsRight spec imp x bits) (IsWrong spec imp x bits) (length imp.outs) (λ j h. right_cases spec imp x bits j)

-- an output is right for some outputs of the boxes, or always wrong
output_cases : (spec imp : Netlist) (x : List Bool) (j : ℕ) → ((z : List Bool) × AreBoxOutputs imp z × IsRight spec imp x (flat imp x z) j) ⊎ IsAlwaysWrong spec imp x j
output_cases spec imp x j = turned (lists_or_one (λ z. IsWrong spec imp x (flat imp x z) j) (λ z. IsRight spec imp x (flat imp x z) j) (output_pins imp.boxes) (λ z len. turned (right_cases spec imp x (flat imp x z) j)))

pub one_or_not : (spec imp : Netlist) → OneAlwaysWrong spec imp ⊎ EachSometimesRight spec imp
one_or_not spec imp =
    elim (lists_or_one
    (λ x. (j : ℕ) → IsOutput imp j → (z : List Bool) × AreBoxOutputs imp z × IsRight spec imp x (flat imp x z) j)
    (λ x. (j : ℕ) × IsOutput imp j × IsAlwaysWrong spec imp x j)
    imp.inputs (λ x len. below_or_one _ (IsAlwaysWrong spec imp x) (length imp.outs) (λ j h. output_cases spec imp x j))) [
      | inl all ↦ inr all
      | inr one ↦ inl (one.0, one.1, one.2.0, one.2.1, one.2.2)
    ]

pub always_or_not : (spec imp : Netlist) (x : List Bool) (j : ℕ) → IsAlwaysWrong spec imp x j ⊎ ((z : List Bool) × AreBoxOutputs imp z × IsRight spec imp x (flat imp x z) j)
always_or_not spec imp x j = turned (output_cases spec imp x j)

-- some output is always wrong, or all are right together for some outputs of the boxes
pub all_or_not : (spec imp : Netlist) (x : List Bool) → AlwaysSomeWrongAt spec imp x ⊎ ((z : List Bool) × AreBoxOutputs imp z × AllRight spec imp x (flat imp x z))
all_or_not spec imp x =
    lists_or_one (λ z. SomeWrong spec imp x (flat imp x z)) (λ z. AllRight spec imp x (flat imp x z)) (output_pins imp.boxes) (λ z zs. turned (all_right_cases spec imp x (flat imp x z)))

pub some_or_not : (spec imp : Netlist) → SomeAlwaysWrong spec imp ⊎ AllRightTogether spec imp
some_or_not spec imp = turned (lists_or_one
    (λ x. (z : List Bool) × AreBoxOutputs imp z × AllRight spec imp x (flat imp x z))
    (AlwaysSomeWrongAt spec imp)
    imp.inputs (λ x len. turned (all_or_not spec imp x)))

-- the choices are won, or cannot be
wins_or_not : (suit : List PinBits → Type 0) → ((chosen : List PinBits) → suit chosen ⊎ (suit chosen → ⊥)) → (boxes : List Pins) (chosen : List PinBits) → InputsHaveOutputs suit boxes chosen ⊎ (InputsHaveOutputs suit boxes chosen → ⊥)
wins_or_not suit each [] chosen = each chosen
wins_or_not suit each (box ∷ boxes) chosen =
    let next : List Bool → List Bool → List PinBits = λ ins outs. chosen ++ record { ins = ins; outs = outs } ∷ [] in
    let answers = lists_or_one
    (λ ins. (outs : List Bool) × (length outs ≡ length box.outs) × InputsHaveOutputs suit boxes (next ins outs))
    (λ ins. (outs : List Bool) → length outs ≡ length box.outs → InputsHaveOutputs suit boxes (next ins outs) → ⊥)
    (length box.ins)
    (λ ins len. turned (lists_or_one (λ outs. InputsHaveOutputs suit boxes (next ins outs) → ⊥) (λ outs. InputsHaveOutputs suit boxes (next ins outs)) (length box.outs)
    (λ outs m. turned (wins_or_not suit each boxes (next ins outs))))) in
    elim answers [
      | inl won ↦ inl won
      | inr lost ↦ inr (λ won. let answer = won lost.0 lost.1 in lost.2 answer.0 answer.1 answer.2)
    ]

pub suit_or_not : (spec imp : Netlist) (chosen : List PinBits) → ChoicesSuit spec imp chosen ⊎ (ChoicesSuit spec imp chosen → ⊥)
suit_or_not spec imp chosen =
    let z = all_outs chosen in
    let leads : List Bool → Type 0 = λ x. all_ins imp.boxes (flat imp x z) ≡ map (λ (bits : PinBits). bits.ins) chosen in
    let vectors = lists_or_one
    (λ x. leads x → AllRight spec imp x (flat imp x z))
    (λ x. leads x × SomeWrong spec imp x (flat imp x z))
    imp.inputs
    (λ x len. elim (bit_lists_cases (all_ins imp.boxes (flat imp x z)) (map (λ (bits : PinBits). bits.ins) chosen)) [
      | inl same ↦ elim (all_right_cases spec imp x (flat imp x z)) [ inl right ↦ inl (λ h. right) | inr wrong ↦ inr (same, wrong) ]
      | inr other ↦ inl (λ h. absurd (other h))
    ]) in
    elim vectors [
      | inl suits ↦ inl suits
      | inr fails ↦ inr (λ suits. let w = fails.2.1 in w.2 (suits fails.0 fails.1 fails.2.0 w.0 w.1))
    ]

pub choices_or_not : (spec imp : Netlist) → NoChoicesSuit spec imp ⊎ SomeChoicesSuit spec imp
choices_or_not spec imp = turned (wins_or_not (ChoicesSuit spec imp) (suit_or_not spec imp) imp.boxes [])

pub agree_or_not : (spec imp : Netlist) (tables : List TableBits) → TablesMakeEquivalent spec imp tables ⊎ (TablesMakeEquivalent spec imp tables → ⊥)
agree_or_not spec imp tables = elim (lists_or_one (λ x. AllRight spec imp x (flat_with imp x tables)) (λ x. SomeWrong spec imp x (flat_with imp x tables)) imp.inputs (λ x len. all_right_cases spec imp x (flat_with imp x tables))) [
  | inl agree ↦ inl agree
  | inr fails ↦ inr (λ agree. let w = fails.2 in w.2 (agree fails.0 fails.1 w.0 w.1))
]

pub tables_or_not : (spec imp : Netlist) → NoTablesMakeEquivalent spec imp ⊎ SomeTablesMakeEquivalent spec imp
tables_or_not spec imp = tables_or_none imp.boxes (TablesMakeEquivalent spec imp) (agree_or_not spec imp)
