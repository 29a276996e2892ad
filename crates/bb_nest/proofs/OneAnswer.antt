-- A pair has one answer: an error excludes tables, what a box sees is one list of bits, and each row after it is the only one.
use Rattle.std.proofs.Common.{◌≡◌, ◌<◌, ℕ, ◌^◌, Bool, List, [], ◌∷◌, length, map, take, refl, sym, ap, ap₂, ◌∙◌, subst, inl, inr, arith}
use Rattle.std.specs.List.{AllZip, range_with_len}
use Rattle.std.proofs.lemmas.List.{ext_get_or}
use Rattle.std.proofs.lemmas.List.FromFn.{fill_by_all, length-map-range_with_len, get_or-map-range_with_len}
use Rattle.bb_bits.specs.Numbers.{number_of, bits_of}
use Rattle.bb_bits.specs.Laws.RowLaws.{RowsFixTable}
use Rattle.bb_bits.specs.Tables.{TableBits, row_of, rows_of}
use Rattle.bb_lemmas.proofs.Orders.{less_or_same}
use Rattle.bb_net.specs.Conditions.{PinBits, NoChoicesSuit, NoTablesMakeEquivalent}
use Rattle.bb_net.specs.Netlists.{Netlist, Pins, box_at}
use Rattle.bb_net.specs.Values.{bit_of, FitBoxes, table_at}
use Rattle.bb_input.specs.declared.InputAnswer.{InputAnswer}
use Rattle.bb_input.specs.declared.InputAnswer.TheVariants.{Error, Clear, Repair}
use Rattle.bb_input.specs.Laws.{IsSameAnswer}
use Rattle.bb_nest.specs.Answers.{IsInputAnswer}
use Rattle.bb_nest.specs.Rows.{IsSeenFirst, SeesBit, SeesBits, IsRow, IsLeast, AreZeros, IsNestedRow, AreNestedTables}
use Rattle.bb_nest.proofs.FilledRows.{same_bits}

-- lists beside one list, where a relation gives one thing to each element
zip_once : {A B : Type 0} (R : A → B → Type 0) → ((x : A) (y z : B) → R x y → R x z → y ≡ z) → (xs : List A) (ys zs : List B) → AllZip R xs ys → AllZip R xs zs → ys ≡ zs
zip_once R once [] [] [] a c = refl
zip_once R once [] [] (z ∷ zs) a c = absurd c
zip_once R once [] (y ∷ ys) zs a c = absurd a
zip_once R once (x ∷ xs) [] zs a c = absurd a
zip_once R once (x ∷ xs) (y ∷ ys) [] a c = absurd c
zip_once {A = A} {B = B} R once (x ∷ xs) (y ∷ ys) (z ∷ zs) a c = ap₂ (λ (v : B) (vs : List B). v ∷ vs) (once x y z a.0 c.0) (zip_once R once xs ys zs a.1 c.1)

module _ (net : Netlist) (box : Pins) where
  first_once : (cell p q : ℕ) → IsSeenFirst net box cell p → IsSeenFirst net box cell q → p ≡ q
  first_once cell p q a c = elim (less_or_same p q) [
    | inl less ↦ absurd (c.first p less a.same)
    | inr more ↦ elim more [
      | inl greater ↦ absurd (a.first q greater c.same)
      | inr same ↦ same
    ]
  ]

  bit_once : (ins : List Bool) (cell : ℕ) (y z : Bool) → SeesBit net box ins cell y → SeesBit net box ins cell z → y ≡ z
  bit_once ins cell y z a c = a.2 ∙ (ap (bit_of ins) (first_once cell a.0 c.0 a.1 c.1) ∙ sym c.2)

  bits_once : (ins : List Bool) (other : Pins) (y z : PinBits) → SeesBits net box ins other y → SeesBits net box ins other z → y ≡ z
  bits_once ins other y z a c =
      ap₂ (λ v w. record { ins = v; outs = w }) (zip_once (SeesBit net box ins) (bit_once ins) other.ins y.ins z.ins a.ins c.ins) (zip_once (SeesBit net box ins) (bit_once ins) other.outs y.outs z.outs a.outs c.outs)

-- rows after the same bits
module _ (once : (bits : List Bool) → bits_of (length bits) (number_of bits) ≡ bits) (spec imp : Netlist) where
  row_once : (b : ℕ) (earlier : List PinBits) (ins x y : List Bool) → IsRow spec imp b earlier ins x → IsRow spec imp b earlier ins y → x ≡ y
  row_once b earlier ins x y (IsLeast long suffice least) (IsLeast long2 suffice2 least2) =
      same_bits once x y (long ∙ sym long2) (let h = least y long2 suffice2 in let k = least2 x long suffice in omega (arith, h, k))
  row_once b earlier ins x y (IsLeast long suffice least) (AreZeros none zeros) = absurd (none x long suffice)
  row_once b earlier ins x y (AreZeros none zeros) (IsLeast long suffice least) = absurd (none y long suffice)
  row_once b earlier ins x y (AreZeros none zeros) (AreZeros none2 zeros2) = zeros ∙ sym zeros2

  nested_once : (b : ℕ) (ins x y : List Bool) → IsNestedRow spec imp b ins x → IsNestedRow spec imp b ins y → x ≡ y
  nested_once b ins x y a c =
      let same = zip_once (SeesBits imp (box_at imp.boxes b) ins) (bits_once imp (box_at imp.boxes b) ins) (take b imp.boxes) a.earlier c.earlier a.seen c.seen in
      row_once b c.earlier ins x y (subst (λ (earlier : List PinBits). IsRow spec imp b earlier ins x) same a.row) c.row

  -- tables with the same rows
  module _ (spelled : (n number : ℕ) → length (bits_of n number) ≡ n) (number : (n number : ℕ) → number < 2 ^ n → number_of (bits_of n number) ≡ number) (fix : RowsFixTable) (ts us : List TableBits) (a : AreNestedTables spec imp ts) (c : AreNestedTables spec imp us) where
    module _ (b : ℕ) (l : b < length imp.boxes) where
      abbrev af : FitBoxes ts imp.boxes
      af = a.completion.fit

      abbrev cf : FitBoxes us imp.boxes
      cf = c.completion.fit

      abbrev t : TableBits
      t = table_at ts b

      abbrev u : TableBits
      u = table_at us b

      inputs : t.inputs ≡ u.inputs
      inputs = af.inputs b l ∙ sym (cf.inputs b l)

      row : (k : ℕ) → k < 2 ^ t.inputs → row_of t k ≡ row_of u k
      row k lk =
          let ins = bits_of t.inputs k in
          let long : length ins ≡ length (box_at imp.boxes b).ins = spelled t.inputs k ∙ af.inputs b l in
          let same = nested_once b ins (row_of t (number_of ins)) (row_of u (number_of ins)) (a.rows b l ins long) (c.rows b l ins long) in
          subst (λ j. row_of t j ≡ row_of u j) (number t.inputs k lk) same

      all_rows : rows_of t ≡ rows_of u
      all_rows =
          let n = 2 ^ t.inputs in
          fill_by_all (row_of u) (rows_of t) n [] (length-map-range_with_len (row_of t) 0 n)
          (λ k lk. get_or-map-range_with_len (row_of t) 0 n k k [] lk (omega arith) ∙ row k lk)
          ∙ ap (λ i. map (row_of u) (range_with_len 0 (2 ^ i))) inputs

      same_table : t ≡ u
      same_table = fix t u (af.whole b l) (cf.whole b l) inputs (af.outputs b l ∙ sym (cf.outputs b l)) all_rows

    same_tables : ts ≡ us
    same_tables = ext_get_or (record { inputs = 0; outputs = 0; rows = [] }) ts us (a.completion.fit.count ∙ sym c.completion.fit.count)
        (λ b l. same_table b (let e = a.completion.fit.count in omega (arith, l, e)))

  -- answers
  module _ (spelled : (n number : ℕ) → length (bits_of n number) ≡ n) (number : (n number : ℕ) → number < 2 ^ n → number_of (bits_of n number) ≡ number) (fix : RowsFixTable) (kinds : List ℕ) (excludes : NoChoicesSuit spec imp → NoTablesMakeEquivalent spec imp) where
    no_tables : NoChoicesSuit spec imp → (ts : List TableBits) → AreNestedTables spec imp ts → ⊥
    no_tables none ts a = excludes none ts a.completion.fit a.completion.agree

    pub one_answer : (a b : InputAnswer) → IsInputAnswer spec imp kinds a → IsInputAnswer spec imp kinds b → IsSameAnswer a b
    one_answer Error Error a b = refl
    one_answer Error Clear a b = absurd (a b.0)
    one_answer Error (Repair us) a b = absurd (no_tables a us.items b.1)
    one_answer Clear Error a b = absurd (b a.0)
    one_answer Clear Clear a b = refl
    one_answer Clear (Repair us) a b = absurd (a.1 b.0)
    one_answer (Repair ts) Error a b = absurd (no_tables b ts.items a.1)
    one_answer (Repair ts) Clear a b = absurd (b.1 a.0)
    one_answer (Repair ts) (Repair us) a b = (us, refl, same_tables spelled number fix ts.items us.items a.1 b.1)
