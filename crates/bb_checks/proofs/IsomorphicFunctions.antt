-- The functions of the checks of one pair are among those of another that is alike: the bits of cells and where outputs are wrong,
-- however points are read.
use Rattle.std.proofs.Common.{◌≡◌, ℕ, ◌+◌, ◌<◌, ◌&&◌, Bool, List, [], ◌∷◌, ◌++◌, length, map, take, drop, ap, ap₂, ◌∙◌, subst, arith}
use Rattle.std.specs.Prelude.{slice_index}
use Rattle.std.specs.List.{flat_map}
use Rattle.bb_bits.specs.Bits.{xor}
use Rattle.bb_bits.specs.Truth.{Truth}
use Rattle.bb_net.specs.Netlists.{Netlist}
use Rattle.bb_net.specs.Values.{bit_of, flat, output_pins}
use Rattle.bb_sym.specs.Functions.{inputs_and_pins, inputs_first, is_wrong, plain_functions, for_all_pins, wrong_for_all_pins, local_functions, some_wrong, first_some_wrong, output_functions}
use Rattle.bb_sym.specs.Plain.{Function, Reading, table, tables, variables, cell_numbers, output_numbers, one_of, first_of, without_pins, cell_bit, is_wrong_at, plain_functions_at, block_functions}
use Rattle.bb_checks.specs.Inside.IsomorphismLaws.{FunctionsFixTables}
use Rattle.bb_checks.proofs.IsomorphicBits.{ShareBits}
use Rattle.bb_checks.proofs.IsomorphicBoxes.{output_pins_isomorphic}
use Rattle.bb_checks.proofs.IsomorphicTables.{AreAmong, among_same, among_append, among_each, among_tables, among_two_tables, one_of_same, table_same}

-- points are read alike
pub record AreReadIsomorphic (r s : Reading) : Type 0 where
  pub inputs : (x : List Bool) → r.inputs x ≡ s.inputs x
  pub pins : (x : List Bool) → r.pins x ≡ s.pins x

-- the nets of two pairs share their bits, the specification a those of c and the implementation b those of d; and a has as many
-- outputs as b
pub record ShareAll (a b c d : Netlist) : Type 0 where
  pub spec : ShareBits a c
  pub imp : ShareBits b d
  pub outputs : length a.outs ≡ length b.outs

module _ (r s : Reading) (read : AreReadIsomorphic r s) where
  pub cell_bit_isomorphic : (a b : Netlist) (k m : ℕ) → ((x z : List Bool) → bit_of (flat a x z) k ≡ bit_of (flat b x z) m) → (x : List Bool) → cell_bit r a k x ≡ cell_bit s b m x
  cell_bit_isomorphic a b k m same x = ap₂ (λ inputs pins. bit_of (flat a inputs pins) k) (read.inputs x) (read.pins x) ∙ same (s.inputs x) (s.pins x)

  pub plain_bit_isomorphic : (a b : Netlist) (k m : ℕ) → ((x z : List Bool) → bit_of (flat a x z) k ≡ bit_of (flat b x z) m) → (x : List Bool)
      → cell_bit (without_pins r) a k x ≡ cell_bit (without_pins s) b m x
  plain_bit_isomorphic a b k m same x = ap (λ inputs. bit_of (flat a inputs []) k) (read.inputs x) ∙ same (s.inputs x) []

  module _ (spec imp other_spec other_imp : Netlist) (share : ShareAll spec imp other_spec other_imp) where
    pub wrong_isomorphic : (j : ℕ) → j < length imp.outs → (x : List Bool) → is_wrong_at r spec imp j x ≡ is_wrong_at s other_spec other_imp j x
    wrong_isomorphic j l x =
        let there : j < length spec.outs = omega (arith, l, share.outputs) in
        ap₂ xor
        (plain_bit_isomorphic spec other_spec (slice_index spec.outs j) (slice_index other_spec.outs j) (λ y z. share.spec.out_bits y z j there) x)
        (cell_bit_isomorphic imp other_imp (slice_index imp.outs j) (slice_index other_imp.outs j) (λ y z. share.imp.out_bits y z j l) x)

    pub plain_among : FunctionsFixTables → (n m : ℕ) → n ≡ m → AreAmong (plain_functions_at n r spec imp) (plain_functions_at m s other_spec other_imp)
    plain_among fix n m e =
        subst (λ k. AreAmong (plain_functions_at n r spec imp) (plain_functions_at k s other_spec other_imp)) e
        (among_append (variables n) (variables n)
        (tables n (map (cell_bit (without_pins r) spec) (cell_numbers spec) ++ map (cell_bit r imp) (cell_numbers imp)))
        (tables n (map (cell_bit (without_pins s) other_spec) (cell_numbers other_spec) ++ map (cell_bit s other_imp) (cell_numbers other_imp)))
        (λ t has. has)
        (among_two_tables n
        (map (cell_bit (without_pins r) spec) (cell_numbers spec)) (map (cell_bit (without_pins s) other_spec) (cell_numbers other_spec))
        (map (cell_bit r imp) (cell_numbers imp)) (map (cell_bit s other_imp) (cell_numbers other_imp))
        (among_tables fix n (cell_bit (without_pins r) spec) (cell_bit (without_pins s) other_spec) (length spec.cells) (length other_spec.cells)
        (λ k l. let found = share.spec.cells k l in (found.0, found.1, plain_bit_isomorphic spec other_spec k found.0 found.2)))
        (among_tables fix n (cell_bit r imp) (cell_bit s other_imp) (length imp.cells) (length other_imp.cells)
        (λ k l. let found = share.imp.cells k l in (found.0, found.1, cell_bit_isomorphic imp other_imp k found.0 found.2)))))

    -- each output's function, and their folds
    pub wrong_tables_among : FunctionsFixTables → (n : ℕ) → AreAmong (tables n (map (is_wrong_at r spec imp) (output_numbers imp))) (tables n (map (is_wrong_at s other_spec other_imp) (output_numbers other_imp)))
    wrong_tables_among fix n = among_tables fix n (is_wrong_at r spec imp) (is_wrong_at s other_spec other_imp) (length imp.outs) (length other_imp.outs)
        (λ j l. (j, omega (arith, l, share.imp.outputs), wrong_isomorphic j l))

    pub first_tables_among : FunctionsFixTables → (n : ℕ)
        → AreAmong (tables n (map (first_of (is_wrong_at r spec imp)) (output_numbers imp))) (tables n (map (first_of (is_wrong_at s other_spec other_imp)) (output_numbers other_imp)))
    first_tables_among fix n = among_tables fix n (first_of (is_wrong_at r spec imp)) (first_of (is_wrong_at s other_spec other_imp)) (length imp.outs) (length other_imp.outs)
        (λ j l. (j, omega (arith, l, share.imp.outputs), λ x. one_of_same (is_wrong_at r spec imp) (is_wrong_at s other_spec other_imp) (j + 1) x (λ i h. wrong_isomorphic i (omega (arith, h, l)) x)))

    pub some_wrong_isomorphic : (x : List Bool) → one_of (is_wrong_at r spec imp) (length imp.outs) x ≡ one_of (is_wrong_at s other_spec other_imp) (length other_imp.outs) x
    some_wrong_isomorphic x =
        one_of_same (is_wrong_at r spec imp) (is_wrong_at s other_spec other_imp) (length imp.outs) x (λ j l. wrong_isomorphic j l x)
        ∙ ap (λ n. one_of (is_wrong_at s other_spec other_imp) n x) share.imp.outputs

-- with the inputs first
module _ (fix : FunctionsFixTables) (spec imp other_spec other_imp : Netlist) (share : ShareAll spec imp other_spec other_imp) where
  count_isomorphic : inputs_and_pins imp ≡ inputs_and_pins other_imp
  count_isomorphic = ap₂ (λ (n m : ℕ). n + m) share.imp.inputs (output_pins_isomorphic imp.boxes other_imp.boxes share.imp.boxes)

  first_isomorphic : AreReadIsomorphic (inputs_first imp) (inputs_first other_imp)
  first_isomorphic = record { inputs = λ x. ap (λ (n : ℕ). take n x) share.imp.inputs; pins = λ x. ap (λ (n : ℕ). drop n x) share.imp.inputs }

  pins_quantified_isomorphic : (t u : Truth) → t ≡ u → for_all_pins imp t ≡ for_all_pins other_imp u
  pins_quantified_isomorphic t u e =
      ap₂ (λ (n m : ℕ). block_functions ◌&&◌ n m t) share.imp.inputs (output_pins_isomorphic imp.boxes other_imp.boxes share.imp.boxes)
      ∙ ap (λ (w : Truth). block_functions ◌&&◌ other_imp.inputs (output_pins other_imp.boxes) w) e

  table_isomorphic : (f g : Function) → ((x : List Bool) → f x ≡ g x) → table (inputs_and_pins imp) f ≡ table (inputs_and_pins other_imp) g
  table_isomorphic f g same = table_same fix (inputs_and_pins imp) (inputs_and_pins other_imp) count_isomorphic f g same

  plain_isomorphic : AreAmong (plain_functions spec imp) (plain_functions other_spec other_imp)
  plain_isomorphic = plain_among (inputs_first imp) (inputs_first other_imp) first_isomorphic spec imp other_spec other_imp share fix (inputs_and_pins imp) (inputs_and_pins other_imp) count_isomorphic

  wrong_table_isomorphic : (j : ℕ) → j < length imp.outs → table (inputs_and_pins imp) (is_wrong spec imp j) ≡ table (inputs_and_pins other_imp) (is_wrong other_spec other_imp j)
  wrong_table_isomorphic j l = table_isomorphic (is_wrong spec imp j) (is_wrong other_spec other_imp j) (wrong_isomorphic (inputs_first imp) (inputs_first other_imp) first_isomorphic spec imp other_spec other_imp share j l)

  pub local_among : AreAmong (local_functions spec imp) (local_functions other_spec other_imp)
  local_among =
      among_append (plain_functions spec imp) (plain_functions other_spec other_imp)
      (flat_map (wrong_for_all_pins spec imp) (output_numbers imp)) (flat_map (wrong_for_all_pins other_spec other_imp) (output_numbers other_imp))
      plain_isomorphic
      (among_each (wrong_for_all_pins spec imp) (wrong_for_all_pins other_spec other_imp) (length imp.outs) (length other_imp.outs)
      (λ j l. (j, omega (arith, l, share.imp.outputs), ap₂ (λ (t : Truth) (ts : List Truth). t ∷ ts) (wrong_table_isomorphic j l) (pins_quantified_isomorphic _ _ (wrong_table_isomorphic j l)))))

  -- tables of as many variables
  same_count : (fs : List Function) → tables (inputs_and_pins imp) fs ≡ tables (inputs_and_pins other_imp) fs
  same_count fs = ap (λ (n : ℕ). tables n fs) count_isomorphic

  pub output_among : AreAmong (output_functions spec imp) (output_functions other_spec other_imp)
  output_among =
      let n = inputs_and_pins imp in
      let m = inputs_and_pins other_imp in
      let wrong = wrong_tables_among (inputs_first imp) (inputs_first other_imp) first_isomorphic spec imp other_spec other_imp share fix n in
      let first = first_tables_among (inputs_first imp) (inputs_first other_imp) first_isomorphic spec imp other_spec other_imp share fix n in
      let some = some_wrong_isomorphic (inputs_first imp) (inputs_first other_imp) first_isomorphic spec imp other_spec other_imp share in
      among_append (plain_functions spec imp) (plain_functions other_spec other_imp) _ _ plain_isomorphic
      (among_append (tables n (map (is_wrong spec imp) (output_numbers imp))) (tables m (map (is_wrong other_spec other_imp) (output_numbers other_imp))) _ _
      (subst (AreAmong _) (same_count (map (is_wrong other_spec other_imp) (output_numbers other_imp))) wrong)
      (among_append (tables n (map (first_some_wrong spec imp) (output_numbers imp))) (tables m (map (first_some_wrong other_spec other_imp) (output_numbers other_imp))) _ _
      (subst (AreAmong _) (same_count (map (first_some_wrong other_spec other_imp) (output_numbers other_imp))) first)
      (among_same (for_all_pins imp (table n (some_wrong spec imp (length imp.outs)))) (for_all_pins other_imp (table m (some_wrong other_spec other_imp (length other_imp.outs))))
      (pins_quantified_isomorphic _ _ (table_isomorphic (some_wrong spec imp (length imp.outs)) (some_wrong other_spec other_imp (length other_imp.outs)) some)))))
