-- How long the made texts are.
use Rattle.std.proofs.Common.{◌≡◌, ◌≤◌, ◌<◌, ℕ, zero, suc, ◌+◌, ◌*◌, ◌==◌, Bool, true, false, if◌then◌else◌, List, [], ◌∷◌, ◌++◌, length, Option, None, Some, codes, decimal, ap, arith}
use Rattle.std.proofs.lemmas.Grind.{common_steps}
use Rattle.std.specs.List.{flat_map, range_with_len}
use Rattle.std.proofs.lemmas.List.{length-append}
use Rattle.std.proofs.lemmas.Fmt.{length-decimal-le}
use Rattle.bb_make.specs.Adders.{adder, carry, cell, stage_connections, end_line, full_adder, header, hole, inputs, made_spec, numbered, adder_outputs, bit_numbers, stage_line}
use Rattle.bb_make.specs.Commas.{comma_separated}
use Rattle.bb_make.proofs.Joined.{inputs_by_place, one_sum, outputs_by_place, ports_joined, two_bits}

-- a number of a place is short
short_number : (i : ℕ) → i ≤ 256 → length (decimal i) ≤ 3
short_number i small = length-decimal-le 3 i (omega arith) (omega (arith, small)) (omega (arith, small))

numbered-length : (name : List ℕ) (i : ℕ) → i ≤ 256 → length (numbered name i) ≤ length name + 3
numbered-length name i small = omega (arith, length-append name (decimal i), short_number i small)

carry-length : (n i : ℕ) → i ≤ 256 → length (carry n i) ≤ 4
carry-length n i small = by (i == 0) (i == n)
  where
    by : (a b : Bool) → length (if a then codes "ci" else if b then codes "co" else numbered (codes "c") i) ≤ 4
    by true b = omega arith
    by false true = omega arith
    by false false = numbered-length (codes "c") i small

by_range : (f : ℕ → List ℕ) (c a m : ℕ) → ((i : ℕ) → i < a + m → length (f i) ≤ c) → length (flat_map f (range_with_len a m)) ≤ m * c
by_range f c a zero short = omega arith
by_range f c a (suc m) short =
    omega (arith, length-append (f a) (flat_map f (range_with_len (a + 1) m)), short a (omega arith), by_range f c (a + 1) m (λ i within. short i (omega (arith, within))))

by_places : (f : ℕ → List ℕ) (c n : ℕ) → ((i : ℕ) → i < n → length (f i) ≤ c) → length (flat_map f (bit_numbers n)) ≤ n * c
by_places f c zero short = omega arith
by_places f c (suc n) short =
    omega (arith, length-append (f n) (flat_map f (bit_numbers n)), short n (omega arith), by_places f c n (λ i within. short i (omega (arith, within))))

five : (a b c d e : List ℕ) → length (comma_separated (a ∷ b ∷ c ∷ d ∷ e ∷ [])) ≡ length a + length b + length c + length d + length e + 4
five a b c d e = grind (arith, common_steps)

cell-length : (gap : Option ℕ) (i : ℕ) → length (cell gap i) ≤ 4
cell-length None i = omega arith
cell-length (Some k) i = by (i == k)
  where
    by : (b : Bool) → length (if b then codes "hole" else codes "fa") ≤ 4
    by true = omega arith
    by false = omega arith

line-length : (gap : Option ℕ) (n i : ℕ) → i < n → n ≤ 256 → length (stage_line (cell gap i) n i) ≤ 64
line-length gap n i within small =
    let fits : i ≤ 256 = omega (arith, within, small) in
    let names = five (numbered (codes "a") i) (numbered (codes "b") i) (carry n i) (numbered (codes "s") i) (carry n (i + 1)) in
    let parts = shape (cell gap i) (codes " u") (decimal i) (codes "(") (comma_separated (stage_connections n i)) (codes ");\n") in
    omega (
      arith,
      names,
      parts,
      cell-length gap i,
      short_number i fits,
      numbered-length (codes "a") i fits,
      numbered-length (codes "b") i fits,
      numbered-length (codes "s") i fits,
      carry-length n i fits,
      carry-length n (i + 1) (omega (arith, within, small)),
    )
  where
    shape : (a b c d e f : List ℕ) → length (a ++ b ++ c ++ d ++ e ++ f) ≡ length a + length b + length c + length d + length e + length f
    shape a b c d e f = grind (arith, common_steps)

two-length : (i : ℕ) → i ≤ 256 → length (two_bits i) ≤ 10
two-length i small = omega (arith, shape (numbered (codes "a") i) (codes ",") (numbered (codes "b") i), numbered-length (codes "a") i small, numbered-length (codes "b") i small)
  where
    shape : (a b c : List ℕ) → length (a ++ b ++ c ++ b) ≡ length a + length b + length c + length b
    shape a b c = grind (arith, common_steps)

sum-length : (i : ℕ) → i ≤ 256 → length (one_sum i) ≤ 5
sum-length i small = omega (arith, length-append (numbered (codes "s") i) (codes ","), numbered-length (codes "s") i small)

inputs-length : (n : ℕ) → n ≤ 256 → length (comma_separated (inputs n)) ≤ 2562
inputs-length n small =
    let each = by_places two_bits 10 n (λ i within. two-length i (omega (arith, within, small))) in
    omega (arith, small, ap length (inputs_by_place n), length-append (flat_map two_bits (bit_numbers n)) (codes "ci"), each)

outputs-length : (n : ℕ) → n ≤ 256 → length (comma_separated (adder_outputs n)) ≤ 1282
outputs-length n small =
    let each = by_places one_sum 5 n (λ i within. sum-length i (omega (arith, within, small))) in
    omega (arith, small, ap length (outputs_by_place n), length-append (flat_map one_sum (bit_numbers n)) (codes "co"), each)

ports-length : (n : ℕ) → n ≤ 256 → length (comma_separated (inputs n ++ adder_outputs n)) ≤ 3845
ports-length n small =
    omega (arith, ap length (ports_joined n), shape (comma_separated (inputs n)) (codes ",") (comma_separated (adder_outputs n)), inputs-length n small, outputs-length n small)
  where
    shape : (a b c : List ℕ) → length (a ++ b ++ c) ≡ length a + length b + length c
    shape a b c = grind (arith, common_steps)

header-length : (n : ℕ) → n ≤ 256 → length (header (codes "add") (inputs n) (adder_outputs n)) ≤ 8000
header-length n small =
    let line = codes "module " ++ codes "add" ++ codes "(" ++ comma_separated (inputs n ++ adder_outputs n) ++ codes ");\n" in
    omega (
      arith,
      ports-length n small,
      inputs-length n small,
      outputs-length n small,
      five_parts (codes "module ") (codes "add") (codes "(") (comma_separated (inputs n ++ adder_outputs n)) (codes ");\n"),
      seven_parts line (codes "input ") (comma_separated (inputs n)) (codes ";\n") (codes "output ") (comma_separated (adder_outputs n)) (codes ";\n"),
    )
  where
    five_parts : (a b c d e : List ℕ) → length (a ++ b ++ c ++ d ++ e) ≡ length a + length b + length c + length d + length e
    five_parts a b c d e = grind (arith, common_steps)

    seven_parts : (a b c d e f g : List ℕ) → length (a ++ b ++ c ++ d ++ e ++ f ++ g) ≡ length a + length b + length c + length d + length e + length f + length g
    seven_parts a b c d e f g =
        let prefix = a ++ b ++ c ++ d in
        omega (arith, length-append (prefix ++ e ++ f) g, length-append (prefix ++ e) f, length-append prefix e, length-append (a ++ b ++ c) d, length-append (a ++ b) c, length-append a b)

pub adder-length : (gap : Option ℕ) (n : ℕ) → n ≤ 256 → length (adder gap n) ≤ 30000
adder-length gap n small =
    let lines = by_range (λ i. stage_line (cell gap i) n i) 64 0 n (λ i within. line-length gap n i (omega (arith, within)) small) in
    omega (
      arith,
      small,
      header-length n small,
      lines,
      shape (header (codes "add") (inputs n) (adder_outputs n)) (flat_map (λ i. stage_line (cell gap i) n i) (range_with_len 0 n)) end_line full_adder,
    )
  where
    shape : (a b c d : List ℕ) → length (a ++ b ++ c ++ d) ≡ length a + length b + length c + length d
    shape a b c d = grind (arith, common_steps)

pub spec-length : (n : ℕ) → n ≤ 256 → length (made_spec n) < 65536
spec-length n small = omega (arith, adder-length None n small)

pub imp-length : (n k : ℕ) → n ≤ 256 → length (adder (Some k) n ++ hole) < 65536
imp-length n k small = omega (arith, adder-length (Some k) n small, length-append (adder (Some k) n) hole)
