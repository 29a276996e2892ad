-- a pair has one answer: an error excludes tables, and each row of a table is the only least one
use Rattle.std.proofs.Common.{◌≡◌, ◌<◌, ◌≤◌, ℕ, ◌^◌, Bool, List, [], ◌∷◌, length, map, refl, sym, ap, ap₂, ◌∙◌, subst, arith}
use Rattle.std.specs.List.{range_with_len}
use Rattle.std.proofs.lemmas.List.FromFn.{fill_by_all, length-map-range_with_len, get_or-map-range_with_len}
use Rattle.bb_bits.specs.Numbers.{number_of, bits_of}
use Rattle.bb_bits.specs.Laws.RowLaws.{RowsFixTable}
use Rattle.bb_bits.specs.Tables.{TableBits, row_of, rows_of}
use Rattle.bb_net.specs.Conditions.{NoChoicesSuit, NoTablesMakeEquivalent}
use Rattle.bb_net.specs.Netlists.{Netlist, IsNetlist, box_at}
use Rattle.bb_net.specs.Values.{FitBoxes, table_at}
use Rattle.bb_input.specs.declared.InputAnswer.{InputAnswer}
use Rattle.bb_input.specs.declared.InputAnswer.TheVariants.{Error, Clear, Repair}
use Rattle.bb_input.specs.Inside.Answers.{IsAnswer, AreLeastOutputs, AreLeastTables}
use Rattle.bb_input.specs.Laws.{IsSameAnswer}

-- lists of one length that spell one number are the same
module _ (once : (bits : List Bool) → bits_of (length bits) (number_of bits) ≡ bits) (spec imp : Netlist) where
  same_bits : (x y : List Bool) → length x ≡ length y → number_of x ≡ number_of y → x ≡ y
  same_bits x y l n = sym (once x) ∙ (ap₂ bits_of l n ∙ once y)

  least_is_one : (ins x y : List Bool) → AreLeastOutputs spec imp ins x → AreLeastOutputs spec imp ins y → x ≡ y
  least_is_one ins x y a b = same_bits x y (a.whole ∙ sym b.whole) (omega (arith, a.least y b.whole b.suit, b.least x a.whole a.suit))

  -- tables with the same least rows
  module _ (spelled : (n number : ℕ) → length (bits_of n number) ≡ n) (number : (n number : ℕ) → number < 2 ^ n → number_of (bits_of n number) ≡ number) (fix : RowsFixTable) where
    same_table : (ts us : List TableBits) → AreLeastTables spec imp ts → AreLeastTables spec imp us → (b : ℕ) → b < length imp.boxes → table_at ts b ≡ table_at us b
    same_table ts us a c b l = fix t u (af.whole b l) (cf.whole b l) inputs (af.outputs b l ∙ sym (cf.outputs b l)) all_rows
      where
        af : FitBoxes ts imp.boxes
        af = a.completion.fit

        cf : FitBoxes us imp.boxes
        cf = c.completion.fit

        t : TableBits
        t = table_at ts b

        u : TableBits
        u = table_at us b

        inputs : t.inputs ≡ u.inputs
        inputs = af.inputs b l ∙ sym (cf.inputs b l)

        row : (k : ℕ) → k < 2 ^ t.inputs → row_of t k ≡ row_of u k
        row k lk =
            let ins = bits_of t.inputs k in
            let long : length ins ≡ length (box_at imp.boxes b).ins = spelled t.inputs k ∙ af.inputs b l in
            let same = least_is_one ins (row_of t (number_of ins)) (row_of u (number_of ins)) (a.rows b l ins long) (c.rows b l ins long) in
            subst (λ j. row_of t j ≡ row_of u j) (number t.inputs k lk) same

        all_rows : rows_of t ≡ rows_of u
        all_rows =
            let n = 2 ^ t.inputs in
            fill_by_all (row_of u) (rows_of t) n [] (length-map-range_with_len (row_of t) 0 n)
            (λ k lk. get_or-map-range_with_len (row_of t) 0 n k k [] lk (omega arith) ∙ row k lk)
            ∙ ap (λ i. map (row_of u) (range_with_len 0 (2 ^ i))) inputs

    -- with at most one box all tables are those of one place
    same_tables : (ts us : List TableBits) → length imp.boxes ≤ 1 → AreLeastTables spec imp ts → AreLeastTables spec imp us → ts ≡ us
    same_tables [] [] one a c = refl
    same_tables [] (u ∷ us) one a c = let e = a.completion.fit.count in let f = c.completion.fit.count in absurd (omega (arith, e, f))
    same_tables (t ∷ ts) [] one a c = let e = a.completion.fit.count in let f = c.completion.fit.count in absurd (omega (arith, e, f))
    same_tables (t ∷ []) (u ∷ []) one a c = let e = a.completion.fit.count in ap (λ x. x ∷ []) (same_table (t ∷ []) (u ∷ []) a c 0 (omega (arith, e)))
    same_tables (t ∷ x ∷ ts) (u ∷ us) one a c = let e = a.completion.fit.count in absurd (omega (arith, e, one))
    same_tables (t ∷ []) (u ∷ x ∷ us) one a c = let f = c.completion.fit.count in absurd (omega (arith, f, one))

    -- answers
    module _ (kept : IsNetlist imp) (excludes : NoChoicesSuit spec imp → NoTablesMakeEquivalent spec imp) where
      no_tables : NoChoicesSuit spec imp → (ts : List TableBits) → AreLeastTables spec imp ts → ⊥
      no_tables none ts a = excludes none ts a.completion.fit a.completion.agree

      pub one_answer : (a b : InputAnswer) → IsAnswer spec imp a → IsAnswer spec imp b → IsSameAnswer a b
      one_answer Error Error a b = refl
      one_answer Error Clear a b = absurd (a b.0)
      one_answer Error (Repair us) a b = absurd (no_tables a us.items b.1)
      one_answer Clear Error a b = absurd (b a.0)
      one_answer Clear Clear a b = refl
      one_answer Clear (Repair us) a b = absurd (a.1 b.0)
      one_answer (Repair ts) Error a b = absurd (no_tables b ts.items a.1)
      one_answer (Repair ts) Clear a b = absurd (b.1 a.0)
      one_answer (Repair ts) (Repair us) a b = (us, refl, same_tables ts.items us.items a.0.one_box a.1 b.1)
