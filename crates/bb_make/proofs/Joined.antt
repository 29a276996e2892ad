-- Names joined by commas, name after name.
use Rattle.std.proofs.Common.{◌≡◌, ◌∙◌, ℕ, zero, suc, ◌<◌, ◌+◌, ◌-◌, ◌*◌, List, [], ◌∷◌, ◌++◌, append_assoc, append-nil, length, map, codes, refl, ap, sym, arith}
use Rattle.std.proofs.lemmas.Grind.{common_steps}
use Rattle.std.specs.List.{flat_map, range_with_len}
use Rattle.std.proofs.lemmas.List.{flat_map_more, length-append, map-id}
use Rattle.std.proofs.lemmas.List.Concat.{flat_map-append}
use Rattle.std.proofs.lemmas.List.FromFn.{map-range_with_len_more}
use Rattle.bb_make.specs.Adders.{header, inputs, numbered, adder_outputs, bit_numbers}
use Rattle.bb_make.specs.Commas.{after_comma, comma_separated}

abbrev pub with_comma : List ℕ → List ℕ
with_comma name = name ++ codes ","

-- the two bits of a place, with a comma after each
abbrev pub two_bits : ℕ → List ℕ
two_bits i = numbered (codes "a") i ++ codes "," ++ numbered (codes "b") i ++ codes ","

abbrev pub one_sum : ℕ → List ℕ
one_sum i = numbered (codes "s") i ++ codes ","

-- commas before the names that follow are commas after those that come first
moved : (names : List (List ℕ)) (last : List ℕ) → flat_map after_comma (names ++ last ∷ []) ≡ codes "," ++ flat_map with_comma names ++ last
moved [] last = append-nil (after_comma last)
moved (name ∷ names) last =
    ap (λ t. after_comma name ++ t) (moved names last)
    ∙ grind (arith, common_steps)

pub comma_separated-last : (names : List (List ℕ)) (last : List ℕ) → comma_separated (names ++ last ∷ []) ≡ flat_map with_comma names ++ last
comma_separated-last [] last = append-nil last
comma_separated-last (name ∷ names) last = ap (λ t. name ++ t) (moved names last) ∙ grind (arith, common_steps)

pub comma_separated-append : (names : List (List ℕ)) (last name : List ℕ) (more : List (List ℕ)) → comma_separated ((names ++ last ∷ []) ++ name ∷ more) ≡ comma_separated (names ++ last ∷ []) ++ codes "," ++ comma_separated (name ∷ more)
comma_separated-append [] last name more = grind (arith, common_steps)
comma_separated-append (first ∷ names) last name more =
    ap (λ t. first ++ t) (flat_map-append after_comma (names ++ last ∷ []) (name ∷ more)) ∙ grind (arith, common_steps)

bits_by_place : (ks : List ℕ) → flat_map with_comma (flat_map (λ i. numbered (codes "a") i ∷ numbered (codes "b") i ∷ []) ks) ≡ flat_map two_bits ks
bits_by_place [] = refl
bits_by_place (k ∷ ks) = let rest = bits_by_place ks in grind (arith, common_steps, rest)

sums_by_place : (ks : List ℕ) → flat_map with_comma (map (numbered (codes "s")) ks) ≡ flat_map one_sum ks
sums_by_place [] = refl
sums_by_place (k ∷ ks) = ap (λ t. one_sum k ++ t) (sums_by_place ks)

pub inputs_by_place : (n : ℕ) → comma_separated (inputs n) ≡ flat_map two_bits (bit_numbers n) ++ codes "ci"
inputs_by_place n = comma_separated-last (flat_map (λ i. numbered (codes "a") i ∷ numbered (codes "b") i ∷ []) (bit_numbers n)) (codes "ci") ∙ ap (λ t. t ++ codes "ci") (bits_by_place (bit_numbers n))

pub outputs_by_place : (n : ℕ) → comma_separated (adder_outputs n) ≡ flat_map one_sum (bit_numbers n) ++ codes "co"
outputs_by_place n = comma_separated-last (map (numbered (codes "s")) (bit_numbers n)) (codes "co") ∙ ap (λ t. t ++ codes "co") (sums_by_place (bit_numbers n))

-- the first of the names, where one is certain to be the last
first_of : (names : List (List ℕ)) (last : List ℕ) → (name : List ℕ) × (more : List (List ℕ)) × (names ++ last ∷ [] ≡ name ∷ more)
first_of [] last = (last, [], refl)
first_of (name ∷ names) last = (name, names ++ last ∷ [], refl)

pub ports_joined : (n : ℕ) → comma_separated (inputs n ++ adder_outputs n) ≡ comma_separated (inputs n) ++ codes "," ++ comma_separated (adder_outputs n)
ports_joined n =
    let first = first_of (map (numbered (codes "s")) (bit_numbers n)) (codes "co") in
    ap (λ outs. comma_separated (inputs n ++ outs)) first.2
    ∙ comma_separated-append (flat_map (λ i. numbered (codes "a") i ∷ numbered (codes "b") i ∷ []) (bit_numbers n)) (codes "ci") first.0 first.1
    ∙ ap (λ outs. comma_separated (inputs n) ++ codes "," ++ comma_separated outs) (sym first.2)

-- the header, piece by piece
pub header_by_pieces : (n : ℕ) (old : List ℕ)
    → old ++ codes "module add(" ++ comma_separated (inputs n) ++ codes "," ++ comma_separated (adder_outputs n) ++ codes ");\ninput " ++ comma_separated (inputs n) ++ codes ";\noutput " ++ comma_separated (adder_outputs n) ++ codes ";\n"
    ≡ old ++ header (codes "add") (inputs n) (adder_outputs n)
header_by_pieces n old =
    shape old (codes "module add(") (comma_separated (inputs n)) (codes ",") (comma_separated (adder_outputs n)) (codes ");\n") (codes "input ") (codes ";\n") (codes "output ")
    ∙ ap (λ ports. old ++ (codes "module add(" ++ ports ++ codes ");\n" ++ codes "input " ++ comma_separated (inputs n) ++ codes ";\n" ++ codes "output " ++ comma_separated (adder_outputs n) ++ codes ";\n"))
    (sym (ports_joined n))
  where
    prefix : (old m ins comma outs e i : List ℕ) → old ++ m ++ ins ++ comma ++ outs ++ (e ++ i) ≡ old ++ (m ++ (ins ++ comma ++ outs) ++ e ++ i)
    prefix old m ins comma outs e i = grind (arith, common_steps)

    back : (old a ins f o outs : List ℕ) → (old ++ a) ++ ins ++ (f ++ o) ++ outs ++ f ≡ old ++ (a ++ ins ++ f ++ o ++ outs ++ f)
    back old a ins f o outs = grind (arith, common_steps)

    shape : (old m ins comma outs e i f o : List ℕ)
        → old ++ m ++ ins ++ comma ++ outs ++ (e ++ i) ++ ins ++ (f ++ o) ++ outs ++ f ≡ old ++ (m ++ (ins ++ comma ++ outs) ++ e ++ i ++ ins ++ f ++ o ++ outs ++ f)
    shape old m ins comma outs e i f o = ap (λ t. t ++ ins ++ (f ++ o) ++ outs ++ f) (prefix old m ins comma outs e i) ∙ back old (m ++ (ins ++ comma ++ outs) ++ e ++ i) ins f o outs

pub inputs_counted : (n : ℕ) → length (inputs n) ≡ 2 * n + 1
inputs_counted n = omega (arith, length-append (flat_map (λ i. numbered (codes "a") i ∷ numbered (codes "b") i ∷ []) (bit_numbers n)) (codes "ci" ∷ []), two_each n)
  where
    two_each : (n : ℕ) → length (flat_map (λ i. numbered (codes "a") i ∷ numbered (codes "b") i ∷ []) (bit_numbers n)) ≡ 2 * n
    two_each zero = refl
    two_each (suc n) = omega (arith, two_each n)

-- one place less
pub one_place_less : (f : ℕ → List ℕ) (text whole : List ℕ) (j : ℕ) → 0 < j → text ++ flat_map f (bit_numbers j) ≡ whole → (text ++ f (j - 1)) ++ flat_map f (bit_numbers (j - 1)) ≡ whole
one_place_less f text whole zero some h = absurd (omega (arith, some))
one_place_less f text whole (suc k) some h =
    let e : suc k - 1 ≡ k = omega arith in
    rw e (append_assoc text (f k) (flat_map f (bit_numbers k)) ∙ h)

-- no place is left
pub no_place_left : (f : ℕ → List ℕ) (text whole : List ℕ) (j : ℕ) → j ≡ 0 → text ++ flat_map f (bit_numbers j) ≡ whole → text ≡ whole
no_place_left f text whole j none h = sym (append-nil text) ∙ ap (λ i. text ++ flat_map f (bit_numbers i)) (sym none) ∙ h

-- one stage more
pub one_stage_more : (f : ℕ → List ℕ) (old text : List ℕ) (k : ℕ) → text ≡ old ++ flat_map f (range_with_len 0 k) → text ++ f k ≡ old ++ flat_map f (range_with_len 0 (k + 1))
one_stage_more f old text k h =
    ap (λ t. t ++ f k) h ∙ flat_map_more f old (range_with_len 0 k) k
    ∙ ap (λ ks. old ++ flat_map f ks) (sym (range_more k))
  where
    range_more : (k : ℕ) → range_with_len 0 (k + 1) ≡ range_with_len 0 k ++ k ∷ []
    range_more k = sym (map-id (range_with_len 0 (k + 1))) ∙ map-range_with_len_more (λ n. n) 0 k k (omega arith) ∙ ap (λ l. l ++ k ∷ []) (map-id (range_with_len 0 k))
