-- Each pair has an answer: an error, or choices, and with nested boxes whose tables may be written down these tables.
use Rattle.std.proofs.Common.{◌⊎◌, ◌<◌, ◌^◌, ℕ, List, length, inl, inr, arith}
use Rattle.std.proofs.lemmas.Bool.{cases_lt}
use Rattle.bb_lemmas.proofs.Deciding.{Decision}
use Rattle.bb_lemmas.proofs.Vectors.{vec_of}
use Rattle.bb_net.specs.Completions.{table_bits}
use Rattle.bb_net.specs.Conditions.{SomeChoicesSuit, NoChoicesSuit}
use Rattle.bb_net.specs.Netlists.{Netlist, IsNetlist}
use Rattle.bb_input.specs.declared.InputAnswer.{InputAnswer}
use Rattle.bb_input.specs.declared.InputAnswer.TheVariants.{Error, Clear, Repair}
use Rattle.bb_nest.specs.Answers.{AreFinishable, IsInputAnswer}
use Rattle.bb_nest.specs.Inside.LawsBelow.{LawsBelow}
use Rattle.bb_nest.specs.Laws.{AnswersExist}
use Rattle.bb_nest.proofs.Decisions.{decide_nested}
use Rattle.bb_nest.proofs.Filling.{nested_tables}

module _ (laws : LawsBelow) (spec imp : Netlist) (kinds : List ℕ) (kept : IsNetlist imp) (choices : SomeChoicesSuit spec imp) where
  finishable_or_not : Decision (AreFinishable imp kinds)
  finishable_or_not = elim (cases_lt (2 ^ 24) (table_bits imp.boxes)) [
    | inl large ↦ inr (λ f. (let small = f.small in omega (arith, large, small)))
    | inr small ↦ elim (decide_nested laws.below imp kinds) [
      | inl nested ↦ inl (record { nested = nested; small = small })
      | inr not ↦ inr (λ f. not f.nested)
    ]
  ]

  chosen_answer : (a : InputAnswer) × IsInputAnswer spec imp kinds a
  chosen_answer = elim finishable_or_not [
    | inr not ↦ (Clear, (choices, not))
    | inl finishable ↦
        let t = nested_tables laws spec imp kept kinds finishable.nested choices in
        let few : length t.0 < 2 ^ 63 = let count = t.1.completion.fit.count in let fit = kept.boxes_fit in omega (arith, count, fit) in
        (Repair (vec_of t.0 few), (finishable, t.1))
  ]

pub answers_exist : LawsBelow → ((spec imp : Netlist) → NoChoicesSuit spec imp ⊎ SomeChoicesSuit spec imp) → AnswersExist
answers_exist laws choices spec imp kinds kept = elim (choices spec imp) [
  | inl none ↦ (Error, none)
  | inr some ↦ chosen_answer laws spec imp kinds kept some
]
