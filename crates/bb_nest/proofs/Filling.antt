-- Nested boxes have tables with nested rows.
use Rattle.std.proofs.Common.{◌≡◌, ◌⊎◌, ◌<◌, ℕ, zero, suc, ◌+◌, ◌^◌, Bool, false, List, [], ◌∷◌, ◌++◌, length, take, drop, get_or, replicate, All, refl, sym, ap, ◌∙◌, subst, subst₂, inl, inr, arith}
use Rattle.std.proofs.lemmas.List.{get_or_default, get_or-take, length-take}
use Rattle.std.proofs.lemmas.List.Elements.{All-append, All-nil}
use Rattle.bb_bits.specs.Contents.{HasShape}
use Rattle.bb_bits.specs.Numbers.{number_of, bits_of}
use Rattle.bb_bits.specs.Tables.{TableBits, HasAllBits, row_of, rows_of}
use Rattle.bb_lemmas.proofs.LeastBits.{least_or_none}
use Rattle.bb_net.specs.Conditions.{PinBits, SomeChoicesSuit}
use Rattle.bb_net.specs.Netlists.{Netlist, Pins, IsNetlist, box_at}
use Rattle.bb_net.specs.Values.{table_at, FitBoxes}
use Rattle.bb_input.specs.InputFunctions.{point_pins, pin_places}
use Rattle.bb_nest.specs.Nested.{Sees, pin_cells, AreNested}
use Rattle.bb_nest.specs.Rows.{Suffice, IsRow, IsLeast, AreZeros, IsNestedRow, AreNestedTables}
use Rattle.bb_nest.specs.Inside.LawsBelow.{LawsBelow}
use Rattle.bb_nest.specs.Laws.{NestedChoicesAreTables}
use Rattle.bb_nest.proofs.Equivalent.{AreNestedRows, row_count, agrees}
use Rattle.bb_nest.proofs.Decisions.{first_of_sees, decide_wins}
use Rattle.bb_nest.proofs.SeenPins.{seen_boxes, seen_cells}

-- where there is something for each number, there is a list of such things
pub list_of : {A : Type 0} (none : A) (P : ℕ → A → Type 0) (n : ℕ) → ((k : ℕ) → k < n → (x : A) × P k x) → (xs : List A) × (length xs ≡ n) × ((k : ℕ) → k < n → P k (get_or xs k none))
list_of none P zero each = ([], refl, λ k l. absurd (omega (arith, l)))
list_of {A = A} none P (suc n) each =
    let here = each 0 (omega arith) in
    let rest = list_of none (λ k. P (suc k)) n (λ k l. each (suc k) (omega (arith, l))) in
    (here.0 ∷ rest.0, ap suc rest.1, by here.0 rest.0 here.1 rest.2)
  where
    by : (x : A) (xs : List A) → P 0 x → ((k : ℕ) → k < n → P (suc k) (get_or xs k none)) → (k : ℕ) → k < suc n → P k (get_or (x ∷ xs) k none)
    by x xs first later zero l = first
    by x xs first later (suc k) l = later k (omega (arith, l))

-- what holds of the cells at the pins of each box holds of the cells at all pins
pub all_places : (P : ℕ → Type 0) (boxes : List Pins) → ((a : ℕ) → a < length boxes → All P (pin_cells (box_at boxes a))) → All P (pin_places boxes)
all_places P [] each = All-nil P
all_places P (box ∷ boxes) each = All-append P (pin_cells box) (pin_places boxes) (each 0 (omega arith)) (all_places P boxes (λ a l. each (suc a) (omega (arith, l))))

-- a nested box sees all pins of the boxes before it
pub sees_places : (net : Netlist) (kinds : List ℕ) → AreNested net kinds → (b : ℕ) → b < length net.boxes → All (Sees net (box_at net.boxes b)) (pin_places (take b net.boxes))
sees_places net kinds nested b l = all_places (Sees net (box_at net.boxes b)) (take b net.boxes) (λ a there.
    let low : a < b = omega (arith, there, length-take b net.boxes) in
    subst (λ (pins : Pins). All (Sees net (box_at net.boxes b)) (pin_cells pins)) (sym (get_or-take b net.boxes a (record { ins = []; outs = [] }) low)) (nested.seen a b low l))

-- after some bits there is a row
module _ (laws : LawsBelow) (spec imp : Netlist) (b : ℕ) (earlier : List PinBits) (ins : List Bool) where
  abbrev With : List Bool → Type 0
  With = Suffice spec imp b earlier ins

  abbrev m : ℕ
  m = length (box_at imp.boxes b).outs

  decide_with : (outs : List Bool) → With outs ⊎ (With outs → ⊥)
  decide_with outs = decide_wins laws.below spec imp (laws.suit spec imp) (drop (b + 1) imp.boxes) (earlier ++ record { ins = ins; outs = outs } ∷ [])

  pub row_after : (outs : List Bool) × IsRow spec imp b earlier ins outs
  row_after = elim (least_or_none laws.below With (λ outs. With outs → ⊥) (λ outs yes not. not yes) m (λ outs len. decide_with outs)) [
    | inl found ↦ (found.0, IsLeast found.1.long found.1.holds found.1.least)
    | inr none ↦ (replicate m false, AreZeros none refl)
  ]

module _ (laws : LawsBelow) (spec imp : Netlist) (kept : IsNetlist imp) (kinds : List ℕ) (nested : AreNested imp kinds) where
  some_row : (b : ℕ) → b < length imp.boxes → (ins : List Bool) → (outs : List Bool) × IsNestedRow spec imp b ins outs
  some_row b l ins =
      let before = take b imp.boxes in
      let box = box_at imp.boxes b in
      let sees = sees_places imp kinds nested b l in
      let seen = seen_cells imp box ins (first_of_sees laws.below imp box) (pin_places before) sees in
      let row = row_after laws spec imp b (point_pins before seen.0) ins in
      (row.0, record { earlier = point_pins before seen.0; seen = seen_boxes imp box ins before seen.0 seen.1; row = row.1 })

  -- a table of box b
  pub record IsTableOf (b : ℕ) (t : TableBits) : Type 0 where
    pub inputs : t.inputs ≡ length (box_at imp.boxes b).ins
    pub outputs : t.outputs ≡ length (box_at imp.boxes b).outs
    pub whole : HasAllBits t
    pub rows : (ins : List Bool) → length ins ≡ length (box_at imp.boxes b).ins → IsNestedRow spec imp b ins (row_of t (number_of ins))

  some_table : (b : ℕ) → b < length imp.boxes → (t : TableBits) × IsTableOf b t
  some_table b l = (t.0, record { inputs = t.1; outputs = t.2; whole = t.3; rows = rows })
    where
      k : ℕ
      k = length (box_at imp.boxes b).ins

      all : (outs : List (List Bool)) × (length outs ≡ 2 ^ k) × ((r : ℕ) → r < 2 ^ k → IsNestedRow spec imp b (bits_of k r) (get_or outs r []))
      all = list_of [] (λ r outs. IsNestedRow spec imp b (bits_of k r) outs) (2 ^ k) (λ r low. some_row b l (bits_of k r))

      shape : HasShape k (length (box_at imp.boxes b).outs) all.0
      shape = record {
        count = all.1;
        widths = λ r d low. (
            let row = all.2 r (omega (arith, low, all.1)) in
            ap length (get_or_default all.0 r d [] low) ∙ row_count spec imp b row.earlier (bits_of k r) (get_or all.0 r []) row.row
            );
      }

      t : (t : TableBits) × (t.inputs ≡ k) × (t.outputs ≡ length (box_at imp.boxes b).outs) × HasAllBits t × (rows_of t ≡ all.0)
      t = laws.tables k (length (box_at imp.boxes b).outs) all.0 shape

      rows : (ins : List Bool) → length ins ≡ k → IsNestedRow spec imp b ins (row_of t.0 (number_of ins))
      rows ins long =
          let power : 2 ^ length ins ≡ 2 ^ k = ap (λ n. 2 ^ n) long in
          let small : number_of ins < 2 ^ k = omega (arith, laws.below ins, power) in
          let is : get_or all.0 (number_of ins) [] ≡ row_of t.0 (number_of ins) = ap (λ (outs : List (List Bool)). get_or outs (number_of ins) []) (sym t.4) ∙ laws.chosen t.0 ins (long ∙ sym t.1) in
          let bits : bits_of k (number_of ins) ≡ ins = ap (λ n. bits_of n (number_of ins)) (sym long) ∙ laws.spelled ins in
          subst₂ (IsNestedRow spec imp b) bits is (all.2 (number_of ins) small)

  some_tables : (tables : List TableBits) × (length tables ≡ length imp.boxes) × ((b : ℕ) → b < length imp.boxes → IsTableOf b (table_at tables b))
  some_tables = list_of (record { inputs = 0; outputs = 0; rows = [] }) IsTableOf (length imp.boxes) some_table

  pub nested_tables : SomeChoicesSuit spec imp → (tables : List TableBits) × AreNestedTables spec imp tables
  nested_tables choices =
      let all = some_tables in
      let fit : FitBoxes all.0 imp.boxes = record { count = all.1; inputs = λ b l. (all.2 b l).inputs; outputs = λ b l. (all.2 b l).outputs; whole = λ b l. (all.2 b l).whole } in
      let rows : AreNestedRows spec imp all.0 = λ b l. (all.2 b l).rows in
      (all.0, record { completion = record { fit = fit; agree = agrees laws.exists laws.swap spec imp kept all.0 fit rows choices }; rows = rows })

pub tables_of_choices : LawsBelow → NestedChoicesAreTables
tables_of_choices laws spec imp kinds kept nested choices =
    let found = nested_tables laws spec imp kept kinds nested choices in
    (found.0, found.1.completion.fit, found.1.completion.agree)
