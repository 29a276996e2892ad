-- the beads of the specification's cells among those of a check
use Rattle.std.proofs.Common.{◌≡◌, ◌<◌, ℕ, ◌+◌, ◌-◌, false, List, [], ◌∷◌, ◌++◌, length, map, take, drop, get_or, All, refl, sym, ap, ap₂, ◌∙◌, subst, arith}
use Rattle.std.specs.Prelude.{Contains}
use Rattle.std.specs.List.{flat_map}
use Rattle.std.proofs.lemmas.List.{get_or-map, length-map, map-append}
use Rattle.std.proofs.lemmas.List.Elements.{All-weaker}
use Rattle.bb_bits.specs.Truth.{Truth, Bit, lifted, IsBeadOfAny}
use Rattle.bb_bits.specs.TruthSets.{AreDistinct, HasMoreThan}
use Rattle.bb_bits.specs.Laws.TruthLaws.{TableLaws, BeadLaws}
use Rattle.bb_net.specs.Netlists.{Netlist}
use Rattle.bb_sym.specs.Functions.{spec_bit, specification_functions, known_tables, mismatches, inputs_first, inputs_and_pins, plain_functions, wrong_for_all_pins, is_wrong, first_some_wrong, some_wrong, for_all_pins, symbolic_functions, local_functions, output_functions}
use Rattle.bb_sym.specs.Laws.{CellsHoldSpecification, HoldsSpecification, ReadsInputs}
use Rattle.bb_sym.specs.Plain.{Function, Reading, table, tables, variables, cell_numbers, output_numbers, cell_bit, without_pins, plain_functions_at}
use Rattle.bb_sym.proofs.Deepened.{deepened, deepened_same, beads_deepened, table-after, table-before}
use Rattle.bb_sym.proofs.FunctionTables.{table_same}
use Rattle.bb_sym.proofs.MadeLemmas.{AreWithin, within_append_left, within_append_right}

-- where each member of a set has one of another for it, and no two have the same, the other has no fewer
module _ (P Q : Truth → Type 0) (g : Truth → Truth) (one : (t u : Truth) → g t ≡ g u → t ≡ u) (into : (t : Truth) → P t → Q (g t)) where
  apart : (ts : List Truth) → AreDistinct ts → AreDistinct (map g ts)
  apart ts h i j d less within =
      let long = length-map ts g in
      let here : i < length ts = omega (arith, less, within, long) in
      let there : j < length ts = omega (arith, within, long) in
      λ same. h i j (Bit false) less there (one (get_or ts i (Bit false)) (get_or ts j (Bit false)) (sym (get_or-map g ts i (Bit false) d here) ∙ (same ∙ get_or-map g ts j (Bit false) d there)))

  members : (ts : List Truth) → All P ts → All Q (map g ts)
  members ts h k d within =
      let there : k < length ts = omega (arith, within, length-map ts g) in
      subst Q (sym (get_or-map g ts k (Bit false) d there)) (into (get_or ts k (Bit false)) (h k (Bit false) there))

  as_many : (k : ℕ) → HasMoreThan P k → HasMoreThan Q k
  as_many k h = (map g h.0, apart h.0 h.1, members h.0 h.2, (let long = length-map h.0 g in let more = h.3 in omega (arith, long, more)))

more_within : (ts us : List Truth) (k : ℕ) → AreWithin ts us → HasMoreThan (IsBeadOfAny ts) k → HasMoreThan (IsBeadOfAny us) k
more_within ts us k f h = (h.0, h.1, All-weaker (IsBeadOfAny ts) (IsBeadOfAny us) f h.0 h.2, h.3)

-- the tables of a list of functions, one after another
module _ (n vars : ℕ) (g : Truth → Truth) (f h : ℕ → Function) (each : (place : ℕ) → table vars (h place) ≡ g (table n (f place))) where
  tables_are : (ks : List ℕ) → tables vars (map h ks) ≡ map g (tables n (map f ks))
  tables_are [] = refl
  tables_are (k ∷ ks) = ap₂ (λ (t : Truth) (ts : List Truth). t ∷ ts) (each k) (tables_are ks)

listed_image : (g : Truth → Truth) (ts : List Truth) (t : Truth) → Contains ts t → Contains (map g ts) (g t)
listed_image g ts t c = (c.0, (let long = length-map ts g in let within = c.1 in omega (arith, long, within)), get_or-map g ts c.0 t (g t) c.1 ∙ ap g c.2)

module _ (laws : TableLaws) (beads : BeadLaws) (spec imp : Netlist) (vars before : ℕ) (r : Reading) (reads : ReadsInputs vars before imp.inputs r) where
  abbrev after : ℕ
  after = vars - (before + imp.inputs)

  abbrev image : Truth → Truth
  image t = lifted before (deepened after t)

  abbrev own_tables : List Truth
  own_tables = tables vars (map (cell_bit (without_pins r) spec) (cell_numbers spec))

  cell_is : (place : ℕ) → table vars (cell_bit (without_pins r) spec place) ≡ image (table imp.inputs (spec_bit spec place))
  cell_is place =
      let f = spec_bit spec place in
      let within = reads.within in
      table_same vars (cell_bit (without_pins r) spec place) (λ p. f (take imp.inputs (drop before p))) (λ p long. ap f (reads.read p long))
      ∙ (table-after before (imp.inputs + after) vars (λ p. f (take imp.inputs p)) (omega (arith, within))
      ∙ ap (lifted before) (table-before imp.inputs after (imp.inputs + after) f refl))

  -- a bead over the inputs has its bead over all variables
  bead_there : (b : Truth) → IsBeadOfAny (specification_functions spec imp) b → IsBeadOfAny own_tables (deepened after b)
  bead_there b h = (
    image h.0,
    subst (λ (ts : List Truth). Contains ts (image h.0)) (sym (tables_are imp.inputs vars image (spec_bit spec) (cell_bit (without_pins r) spec) cell_is (cell_numbers spec))) (listed_image image (specification_functions spec imp) h.0 h.1),
    (beads.lifted before (deepened after b) (deepened after h.0)).1 (beads_deepened laws after b h.0 h.2),
  )

  own_within : AreWithin own_tables (plain_functions_at vars r spec imp)
  own_within b h =
      let imp_tables = tables vars (map (cell_bit r imp) (cell_numbers imp)) in
      within_append_right (variables vars) (tables vars (map (cell_bit (without_pins r) spec) (cell_numbers spec) ++ map (cell_bit r imp) (cell_numbers imp))) b
      (subst (λ (ts : List Truth). IsBeadOfAny ts b) (sym (map-append (table vars) (map (cell_bit (without_pins r) spec) (cell_numbers spec)) (map (cell_bit r imp) (cell_numbers imp)))) (within_append_left own_tables imp_tables b h))

  pub cells_count : (k : ℕ) → HasMoreThan (IsBeadOfAny (specification_functions spec imp)) k → HasMoreThan (IsBeadOfAny (plain_functions_at vars r spec imp)) k
  cells_count k h =
      more_within own_tables (plain_functions_at vars r spec imp) k own_within (as_many (IsBeadOfAny (specification_functions spec imp)) (IsBeadOfAny own_tables) (deepened after) (deepened_same laws after) bead_there k h)

pub cells_hold : TableLaws → BeadLaws → CellsHoldSpecification
cells_hold laws beads spec imp k vars before r reads = cells_count laws beads spec imp vars before r reads k

-- the inputs alone
pub symbolic_holds : HoldsSpecification symbolic_functions
symbolic_holds spec imp k =
    let own = specification_functions spec imp in
    let rest = flat_map (known_tables imp) (cell_numbers imp) ++ flat_map (mismatches spec imp) (output_numbers imp) in
    more_within own (symbolic_functions spec imp) k (λ b h. within_append_right (variables imp.inputs) (own ++ rest) b (within_append_left own rest b h))

-- the inputs and then the output pins
plain_holds : TableLaws → BeadLaws → HoldsSpecification plain_functions
plain_holds laws beads spec imp k = cells_count laws beads spec imp (inputs_and_pins imp) 0 (inputs_first imp) (record { within = omega arith; read = λ p long. refl }) k

pub local_holds : TableLaws → BeadLaws → HoldsSpecification local_functions
local_holds laws beads spec imp k h =
    let plain = plain_functions spec imp in
    more_within plain (local_functions spec imp) k (within_append_left plain (flat_map (wrong_for_all_pins spec imp) (output_numbers imp))) (plain_holds laws beads spec imp k h)

pub output_holds : TableLaws → BeadLaws → HoldsSpecification output_functions
output_holds laws beads spec imp k h =
    let n = inputs_and_pins imp in
    let plain = plain_functions spec imp in
    let rest = tables n (map (is_wrong spec imp) (output_numbers imp)) ++ (tables n (map (first_some_wrong spec imp) (output_numbers imp)) ++ for_all_pins imp (table n (some_wrong spec imp (length imp.outs)))) in
    more_within plain (output_functions spec imp) k (within_append_left plain rest) (plain_holds laws beads spec imp k h)
