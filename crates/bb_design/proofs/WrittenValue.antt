-- What may be assigned has the bits that are written there.
use Rattle.std.proofs.Common.{◌≡◌, ℕ, ◌+◌, ◌≤◌, ◌-◌, Bool, true, false, List, [], ◌∷◌, ◌++◌, map, length, replicate, refl, sym, ap, ap₂, ◌∙◌, arith, length-append, le_of_eq, true≢false}
use Rattle.std.proofs.lemmas.Grind.{common_steps}
use Rattle.std.proofs.lemmas.List.{length-map, map-append}
use Rattle.std.specs.Prelude.{sum}
use Rattle.std.specs.List.{flat_map, list_all, range_with_len}
use Rattle.bb_lemmas.proofs.Bits.{and_both}
use Rattle.bb_ast.specs.Assignable.{assigning, is_assignable}
use Rattle.bb_ast.specs.Folds.{of_parts}
use Rattle.bb_ast.specs.Syntax.{Expression, Net, Bit, Part, Sized, Plain, Not, Fold, Chain, Words, Cond, Concat, Repeat, Parts, no_part, part}
use Rattle.bb_names.specs.Declarations.{range_of}
use Rattle.bb_names.specs.Ranges.{distance, range_width, place_of}
use Rattle.bb_names.specs.Widths.{own_width, widths, Operand, alone}
use Rattle.bb_expr.specs.Laws.{ValuesHaveWidth}
use Rattle.bb_expr.specs.Lists.{extended}
use Rattle.bb_expr.specs.Values.{Bits, values, value, net_bits}
use Rattle.bb_design.specs.Hierarchy.{Scope}
use Rattle.bb_design.specs.NetBits.{assigned, bits_from, written_bits}
use Rattle.bb_design.specs.Contexts.{width_of, value_in}
use Rattle.bb_design.specs.Worlds.{World, bit_in, bits_in}
use Rattle.bb_design.specs.Laws.{WrittenBitsAreValue}
use Rattle.bb_lemmas.proofs.Ranges.{length-range}

-- nothing is filled up where the width is that of the bits
extended_none : {A : Type 0} (null : A) (w : ℕ) (bits : List A) → length bits ≡ w → extended null w bits ≡ bits
extended_none null w bits e = let none : w - length bits ≡ 0 = omega (arith, e) in ap (λ n. replicate n null ++ bits) none

pub bits-long : (s : Scope) (n : List ℕ) (place count : ℕ) → length (bits_from s.path n place count) ≡ count
bits-long s n place count = length-map (range_with_len place count) _ ∙ length-range place count

abbrev seen : Scope → Expression → (ℕ → List Bool) → Operand (List Bool)
seen s e a = record { width = own_width (range_of s.source) e; at = a }

-- so many bits of a net
net_written : (w : World) (s : Scope) (n : List ℕ) (place count : ℕ) → bits_in w (bits_from s.path n place count) ≡ extended false count (net_bits (w s.path) n place count)
net_written w s n place count =
    let long : length (net_bits (w s.path) n place count) ≡ count = length-map (range_with_len place count) _ ∙ length-range place count in
    each (range_with_len place count) ∙ sym (extended_none false count (net_bits (w s.path) n place count) long)
  where
    each : (places : List ℕ) → bits_in w (map (λ k. record { path = s.path; net = n; place = k }) places) ≡ map (w s.path n) places
    each [] = refl
    each (k ∷ ks) = ap (λ l. w s.path n k ∷ l) (each ks)

sum_first : (x : ℕ) (xs : List ℕ) → sum (x ∷ xs) ≡ x + sum xs
sum_first x xs = grind (arith, common_steps)

-- the parts are as long as their own widths together
parts_long : ValuesHaveWidth → (env : Bits) (s : Scope) (p : Parts) → length (flat_map (alone {A = List Bool}) (of_parts (seen s) (values (range_of s.source) env) p)) ≡ sum (of_parts (λ e a. a) (widths (range_of s.source)) p)
parts_long law env s no_part = refl
parts_long law env s (part e rest) =
    let here : length (value (range_of s.source) env e (own_width (range_of s.source) e)) ≡ own_width (range_of s.source) e = law (range_of s.source) env e _ (omega arith) in
    let there = parts_long law env s rest in
    length-append _ _ ∙ ap₂ ◌+◌ here there ∙ sym (sum_first _ (of_parts (λ x a. a) (widths (range_of s.source)) rest))

mutual
  written : ValuesHaveWidth → (w : World) (s : Scope) (e : Expression) → is_assignable e ≡ true → bits_in w (written_bits s e) ≡ value_in (w s.path) s e (width_of s e)
  written law w s (Net n) may = net_written w s n 0 (range_width (range_of s.source n))
  written law w s (Bit n i) may = net_written w s n (place_of (range_of s.source n) i) 1
  written law w s (Part n i j) may = net_written w s n (place_of (range_of s.source n) i) (distance i j + 1)
  written law w s (Sized bits) may = absurd (true≢false (sym may))
  written law w s (Plain n) may = absurd (true≢false (sym may))
  written law w s (Not k e) may = absurd (true≢false (sym may))
  written law w s (Fold op e) may = absurd (true≢false (sym may))
  written law w s (Chain e rest) may = absurd (true≢false (sym may))
  written law w s (Words e rest) may = absurd (true≢false (sym may))
  written law w s (Cond all last) may = absurd (true≢false (sym may))
  written law w s (Repeat k all) may = absurd (true≢false (sym may))
  written law w s (Concat all) may = parts_written law w s all may ∙ sym (extended_none false _ _ (parts_long law (w s.path) s all))

  parts_written : ValuesHaveWidth → (w : World) (s : Scope) (p : Parts) → list_all (λ e. e) (of_parts (λ e a. a) assigning p) ≡ true
      → bits_in w (flat_map (λ bits. bits) (of_parts (λ e a. a) (assigned s) p)) ≡ flat_map (alone {A = List Bool}) (of_parts (seen s) (values (range_of s.source) (w s.path)) p)
  parts_written law w s no_part may = refl
  parts_written law w s (part e rest) may =
      let split = and_both (is_assignable e) _ may in
      map-append (bit_in w) (written_bits s e) _ ∙ ap₂ ◌++◌ (written law w s e split.0) (parts_written law w s rest split.1)

pub written_bits_are_value : ValuesHaveWidth → WrittenBitsAreValue
written_bits_are_value law w s e may = written law w s e may

-- what is written has at most the bits of the expression, whatever it is
mutual
  pub written_short : (s : Scope) (e : Expression) → length (written_bits s e) ≤ width_of s e
  written_short s (Net n) = le_of_eq (bits-long s n 0 (range_width (range_of s.source n)))
  written_short s (Bit n i) = le_of_eq (bits-long s n (place_of (range_of s.source n) i) 1)
  written_short s (Part n i j) = le_of_eq (bits-long s n (place_of (range_of s.source n) i) (distance i j + 1))
  written_short s (Sized bits) = omega arith
  written_short s (Plain n) = omega arith
  written_short s (Not k e) = omega arith
  written_short s (Fold op e) = omega arith
  written_short s (Chain e rest) = omega arith
  written_short s (Words e rest) = omega arith
  written_short s (Cond all last) = omega arith
  written_short s (Repeat k all) = omega arith
  written_short s (Concat all) = parts_short s all

  parts_short : (s : Scope) (p : Parts) → length (flat_map (λ bits. bits) (of_parts (λ e a. a) (assigned s) p)) ≤ sum (of_parts (λ e a. a) (widths (range_of s.source)) p)
  parts_short s no_part = omega arith
  parts_short s (part e rest) =
      let here = written_short s e in
      let there = parts_short s rest in
      let long = length-append (written_bits s e) (flat_map (λ bits. bits) (of_parts (λ e a. a) (assigned s) rest)) in
      let whole = sum_first (width_of s e) (of_parts (λ x a. a) (widths (range_of s.source)) rest) in
      omega (arith, here, there, long, whole)
