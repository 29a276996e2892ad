-- With at most one box there is nothing to see, and nested rows are least outputs.
use Rattle.std.proofs.Common.{◌≡◌, ◌⊎◌, ◌<◌, ◌≤◌, ◌↔◌, ℕ, Bool, List, [], ◌∷◌, length, drop, refl, sym, ap, ◌∙◌, subst, inl, inr, arith}
use Rattle.bb_bits.specs.Numbers.{number_of}
use Rattle.bb_bits.specs.Tables.{TableBits, row_of}
use Rattle.bb_net.specs.Completions.{AreCompletion}
use Rattle.bb_net.specs.Conditions.{PinBits, ChoicesSuit, InputsHaveOutputs, SomeChoicesSuit, NoChoicesSuit, NoTablesMakeEquivalent}
use Rattle.bb_net.specs.Netlists.{Netlist, Pins, IsNetlist, box_at}
use Rattle.bb_net.specs.Values.{output_pins, table_at}
use Rattle.bb_input.specs.Inside.Answers as choices
use Rattle.bb_input.specs.Inside.Answers.{IsFinishable, AreLeastOutputs, AreLeastTables}
use Rattle.bb_input.specs.declared.InputAnswer.{InputAnswer}
use Rattle.bb_input.specs.declared.InputAnswer.TheVariants.{Error, Clear, Repair}
use Rattle.bb_nest.specs.Answers.{AreFinishable, IsInputAnswer}
use Rattle.bb_nest.specs.Laws.{SinglesAreNested, SinglesAnswerTheSame}
use Rattle.bb_nest.specs.Nested.{AreNested}
use Rattle.bb_nest.specs.Rows.{SeesEarlier, Suffice, IsRow, IsLeast, AreZeros, IsNestedRow, AreNestedTables}

pub singles_nested : SinglesAreNested
singles_nested net kinds count few = record { apart = λ i j d less there. absurd (omega (arith, less, there, count, few)); seen = λ a b less there. absurd (omega (arith, less, there, few)) }

-- choices for one box
module _ (spec imp : Netlist) (box : Pins) (one : imp.boxes ≡ box ∷ []) where
  only : (b : ℕ) → b < length imp.boxes → b ≡ 0
  only b l = let e = ap length one in omega (arith, l, e)

  outs_are : output_pins imp.boxes ≡ length (box_at imp.boxes 0).outs
  outs_are = ap output_pins one ∙ ((let h : output_pins (box ∷ []) ≡ length box.outs = omega arith in h) ∙ sym (ap (λ (boxes : List Pins). length (box_at boxes 0).outs) one))

  abbrev Suits : List Bool → List Bool → Type 0
  Suits ins outs = ChoicesSuit spec imp (record { ins = ins; outs = outs } ∷ [])

  to_suit : (ins outs : List Bool) → Suffice spec imp 0 [] ins outs → Suits ins outs
  to_suit ins outs suffice = subst (λ (boxes : List Pins). InputsHaveOutputs (ChoicesSuit spec imp) (drop 1 boxes) (record { ins = ins; outs = outs } ∷ [])) one suffice

  from_suit : (ins outs : List Bool) → Suits ins outs → Suffice spec imp 0 [] ins outs
  from_suit ins outs suit = subst (λ (boxes : List Pins). InputsHaveOutputs (ChoicesSuit spec imp) (drop 1 boxes) (record { ins = ins; outs = outs } ∷ [])) (sym one) suit

  to_row : (ins outs : List Bool) → AreLeastOutputs spec imp ins outs → IsNestedRow spec imp 0 ins outs
  to_row ins outs a = record {
    earlier = [];
    seen = tt;
    row = IsLeast (a.whole ∙ outs_are) (from_suit ins outs a.suit) (λ others long suffice. a.least others (long ∙ sym outs_are) (to_suit ins others suffice));
  }

  from_row : SomeChoicesSuit spec imp → (ins outs : List Bool) → length ins ≡ length (box_at imp.boxes 0).ins → IsNestedRow spec imp 0 ins outs → AreLeastOutputs spec imp ins outs
  from_row choices ins outs wide row = by row.earlier row.seen row.row
    where
      by : (earlier : List PinBits) → SeesEarlier imp 0 ins earlier → IsRow spec imp 0 earlier ins outs → AreLeastOutputs spec imp ins outs
      by [] seen (IsLeast long suffice least) = record {
        whole = long ∙ sym outs_are;
        suit = to_suit ins outs suffice;
        least = λ others long suit. least others (long ∙ outs_are) (from_suit ins others suit);
      }
      by [] seen (AreZeros none zeros) =
          let found = subst (λ (boxes : List Pins). InputsHaveOutputs (ChoicesSuit spec imp) boxes []) one choices ins (wide ∙ ap (λ (boxes : List Pins). length (box_at boxes 0).ins) one) in
          absurd (none found.0 (found.1 ∙ sym (ap (λ (boxes : List Pins). length (box_at boxes 0).outs) one)) (from_suit ins found.0 found.2))
      by (x ∷ earlier) seen row = absurd seen

  at_zero : (P : ℕ → Type 0) → P 0 → (b : ℕ) → b < length imp.boxes → P b
  at_zero P h b l = subst P (sym (only b l)) h

  there : 0 < length imp.boxes
  there = let e = ap length one in omega (arith, e)

  pub to_tables : (tables : List TableBits) → AreLeastTables spec imp tables → AreNestedTables spec imp tables
  to_tables tables a = record {
    completion = a.completion;
    rows = at_zero (λ b. (ins : List Bool) → length ins ≡ length (box_at imp.boxes b).ins → IsNestedRow spec imp b ins (row_of (table_at tables b) (number_of ins)))
        (λ ins long. to_row ins (row_of (table_at tables 0) (number_of ins)) (a.rows 0 there ins long));
  }

  pub from_tables : SomeChoicesSuit spec imp → (tables : List TableBits) → AreNestedTables spec imp tables → AreLeastTables spec imp tables
  from_tables choices tables a = record {
    completion = a.completion;
    rows = at_zero (λ b. (ins : List Bool) → length ins ≡ length (box_at imp.boxes b).ins → AreLeastOutputs spec imp ins (row_of (table_at tables b) (number_of ins)))
        (λ ins long. from_row choices ins (row_of (table_at tables 0) (number_of ins)) long (a.rows 0 there ins long));
  }

module _ (spec imp : Netlist) (choices : (tables : List TableBits) → AreCompletion spec imp tables → SomeChoicesSuit spec imp) where
  none_there : imp.boxes ≡ [] → (b : ℕ) → b < length imp.boxes → ⊥
  none_there none b l = let e = ap length none in omega (arith, l, e)

  tables_alike : (boxes : List Pins) → imp.boxes ≡ boxes → length boxes ≤ 1 → (tables : List TableBits) → AreLeastTables spec imp tables ↔ AreNestedTables spec imp tables
  tables_alike [] none few tables = (
    λ a. record { completion = a.completion; rows = λ b l. absurd (none_there none b l) },
    λ a. record { completion = a.completion; rows = λ b l. absurd (none_there none b l) },
  )
  tables_alike (box ∷ []) one few tables = (to_tables spec imp box one tables, λ a. from_tables spec imp box one (choices tables a.completion) tables a)
  tables_alike (box ∷ next ∷ boxes) is few tables = absurd (omega (arith, few))

pub answers_alike : ((spec imp : Netlist) → NoChoicesSuit spec imp ⊎ SomeChoicesSuit spec imp) → ((spec imp : Netlist) → IsNetlist imp → NoChoicesSuit spec imp → NoTablesMakeEquivalent spec imp) → SinglesAnswerTheSame
answers_alike decided excludes spec imp kinds kept count few = by
  where
    nested : AreNested imp kinds
    nested = singles_nested imp kinds count few

    chosen : (tables : List TableBits) → AreCompletion spec imp tables → SomeChoicesSuit spec imp
    chosen tables all = elim (decided spec imp) [
      | inl none ↦ absurd (excludes spec imp kept none tables all.fit all.agree)
      | inr some ↦ some
    ]

    finishable : IsFinishable imp ↔ AreFinishable imp kinds
    finishable = (λ f. record { nested = nested; small = f.small }, λ f. record { one_box = few; small = f.small })

    by : (answer : InputAnswer) → choices.IsAnswer spec imp answer ↔ IsInputAnswer spec imp kinds answer
    by Error = (λ h. h, λ h. h)
    by Clear = (λ h. (h.0, λ f. h.1 (finishable.1 f)), λ h. (h.0, λ f. h.1 (finishable.0 f)))
    by (Repair tables) =
        let alike = tables_alike spec imp chosen imp.boxes refl few tables.items in
        (λ h. (finishable.0 h.0, alike.0 h.1), λ h. (finishable.1 h.0, alike.1 h.1))
