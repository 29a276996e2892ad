-- A netlist that begins with its inputs and goes on with a circuit is that circuit, and its value is the circuit's on bits.
use Rattle.std.proofs.Common.{◌≡◌, ◌∙◌, ◌+◌, ◌<◌, ◌≤◌, ℕ, zero, suc, Bool, false, List, [], ◌∷◌, ◌++◌, map, length, get_or, drop, reverse, refl, sym, ap, subst, arith, append_assoc}
use Rattle.std.specs.Prelude.{All}
use Rattle.std.specs.List.{range_with_len}
use Rattle.std.proofs.Math.Path.{ap₂}
use Rattle.std.proofs.lemmas.List.{length-append, get_or_append_left, get_or-append-add}
use Rattle.std.proofs.lemmas.List.Elements.{All-head, All-tail}
use Rattle.std.proofs.lemmas.List.FromFn.{length-map-range_with_len, get_or-map-range_with_len}
use Rattle.std.proofs.Math.Seq.{drop-append_seam}
use Rattle.bb_lemmas.proofs.Maps.{reverse-map}
use Rattle.bb_net.specs.declared.cell.Cell.{Cell}
use Rattle.bb_net.specs.declared.cell.Cell.TheVariants as cell
use Rattle.bb_net.specs.Netlists.{Netlist, cell_at, first_cells, IsNetlist}
use Rattle.bb_net.specs.Values.{bit_of, flat}
use Rattle.bb_word.specs.Gates.{Made, mapped}
use Rattle.bb_word.specs.Laws.Formulas.{Formula, Input, cell_formula, formula_at, formula_bit}
use Rattle.bb_word.specs.Inside.Adding.{Meets, nothing, Adds, HasConstants}
use Rattle.bb_word.specs.Inside.Nets.{inputs_from, IsCircuit}
use Rattle.bb_word.proofs.AddingLemmas.{Adds-bits, Adds-cells}
use Rattle.bb_word.proofs.FormulaLemmas.{flat_formula, OneValue}
use Rattle.bb_word.specs.Laws.FormulaLaws.{formula_at-meets}

abbrev pub started : ℕ → Netlist
started n = record { inputs = n; cells = first_cells n; boxes = []; outs = [] }

pub length-first : (n : ℕ) → length (first_cells n) ≡ n + 2
length-first n = omega (arith, length-map-range_with_len cell.Input 0 n)

pub constants_first : (n : ℕ) → HasConstants (first_cells n)
constants_first n = record { zero = refl; one = refl; there = omega (arith, length-first n) }

-- the places of inputs stand for them
pub inputs_part : (n : ℕ) (more : List Cell) (part : ℕ → Formula) → Meets (first_cells n ++ more) part → (k count : ℕ) → k + count ≤ n → map part (range_with_len (2 + k) count) ≡ inputs_from k count
inputs_part n more part meets k zero fits = refl
inputs_part n more part meets k (suc count) fits =
    let here : k < n = omega arith in
    let place = suc (suc k) in
    let inside : place < length (first_cells n ++ more) = omega (arith, length-append (first_cells n) more, length-first n) in
    let prefix : cell_at (first_cells n ++ more) place ≡ cell.Input k =
    get_or_append_left (first_cells n) more (cell.Const false) place (omega (arith, length-first n)) ∙ get_or-map-range_with_len cell.Input 0 n k k (cell.Const false) here (omega arith) in
    let at : part (2 + k) ≡ Input k = ap part (let e : 2 + k ≡ place = omega arith in e) ∙ meets place inside ∙ ap (cell_formula part) prefix in
    let rest = ap (λ j. map part (range_with_len j count)) (let e : 2 + k + 1 ≡ 2 + (k + 1) = omega arith in e) ∙ inputs_part n more part meets (k + 1) count (omega arith) in
    ap₂ (λ x l. x ∷ l) at rest

-- the netlist with these outputs is the circuit
pub IsCircuit-of : (n : ℕ) (mid new : Netlist) (places outs : List ℕ) (circuit : (ℕ → Formula) → Made Formula) (target : Made Formula)
    → Adds (started n) mid places circuit nothing → new ≡ record mid { outs = outs } → outs ≡ reverse places → IsNetlist new
    → ((more : List Cell) (part : ℕ → Formula) → Meets (first_cells n ++ more) part → circuit part ≡ target)
    → IsCircuit new n target
IsCircuit-of n mid new places outs circuit target adds is turned kept same =
    let part = formula_at new.cells in
    let cells : new.cells ≡ first_cells n ++ adds.more = ap (λ (m : Netlist). m.cells) (is ∙ ap (λ (m : Netlist). record m { outs = outs }) adds.grown) in
    let meets : Meets (first_cells n ++ adds.more) part = subst (λ l. Meets l part) cells (formula_at-meets new kept.ordered) in
    let meets' : Meets mid.cells part = subst (λ l. Meets l part) (ap (λ (m : Netlist). m.cells) is) (formula_at-meets new kept.ordered) in
    let e = same adds.more part meets in
    record {
      inputs = ap (λ (m : Netlist). m.inputs) (is ∙ ap (λ (m : Netlist). record m { outs = outs }) adds.grown);
      boxes = ap (λ (m : Netlist). m.boxes) (is ∙ ap (λ (m : Netlist). record m { outs = outs }) adds.grown);
      cells = ap (map (cell_formula part)) (ap₂ drop (sym (length-first n)) cells ∙ drop-append_seam (first_cells n) adds.more) ∙ Adds-cells (started n) mid places circuit adds part meets' ∙ ap (λ z. z.cells) e;
      outs = ap (map part) (ap (λ (m : Netlist). m.outs) is ∙ turned) ∙ reverse-map part places ∙ ap reverse (Adds-bits (started n) mid places circuit adds part meets' ∙ ap (λ z. z.bits) e);
    }

pub circuit_length : (n : ℕ) (mid new : Netlist) (places outs : List ℕ) (circuit : (ℕ → Formula) → Made Formula) → Adds (started n) mid places circuit nothing → new ≡ record mid { outs = outs } → (count : ℕ) → length mid.cells ≡ length (started n).cells + count → length new.cells ≡ n + 2 + count
circuit_length n mid new places outs circuit adds is count long = ap (λ (m : Netlist). length m.cells) is ∙ omega (arith, long, length-first n)

map_values : (one : OneValue) (net : Netlist) (x z : List Bool) → IsNetlist net → net.boxes ≡ [] → (places : List ℕ) → All (λ p. p < length net.cells) places → map (bit_of (flat net x z)) places ≡ map (formula_bit x) (map (formula_at net.cells) places)
map_values one net x z kept none [] all = refl
map_values one net x z kept none (p ∷ places) all = ap₂ (λ b l. b ∷ l) (flat_formula one net x z kept none p (All-head (λ p. p < length net.cells) p places all)) (map_values one net x z kept none places (All-tail (λ p. p < length net.cells) p places all))

-- the value at the outputs is what the circuit gives on bits
pub outs_value : OneValue → (net : Netlist) (n : ℕ) (circuit : Made Formula) (x : List Bool) → IsNetlist net → IsCircuit net n circuit → map (bit_of (flat net x [])) net.outs ≡ reverse (mapped (formula_bit x) circuit).bits
outs_value one net n circuit x kept is = map_values one net x [] kept is.boxes net.outs kept.outs_there ∙ ap (map (formula_bit x)) is.outs ∙ reverse-map (formula_bit x) circuit.bits

-- the bits of the inputs
bits_from : (x : List Bool) (k count : ℕ) → map (formula_bit x) (inputs_from k count) ≡ map (λ i. get_or x i false) (range_with_len k count)
bits_from x k zero = refl
bits_from x k (suc count) = ap (λ l. get_or x k false ∷ l) (bits_from x (k + 1) count)

bits_within : (prefix a after : List Bool) (k : ℕ) → k ≡ length prefix → map (λ i. get_or (prefix ++ (a ++ after)) i false) (range_with_len k (length a)) ≡ a
bits_within prefix [] after k at = refl
bits_within prefix (b ∷ a) after k at =
    let here : get_or (prefix ++ ((b ∷ a) ++ after)) k false ≡ b = ap (λ i. get_or (prefix ++ ((b ∷ a) ++ after)) i false) (let e : k ≡ length prefix + 0 = omega (arith, at) in e) ∙ get_or-append-add prefix ((b ∷ a) ++ after) 0 false in
    let moved = ap (λ l. map (λ i. get_or l i false) (range_with_len (k + 1) (length a))) (sym (append_assoc prefix (b ∷ []) (a ++ after))) in
    ap₂ (λ c l. c ∷ l) here (moved ∙ bits_within (prefix ++ b ∷ []) a after (k + 1) (omega (arith, at, length-append prefix (b ∷ []))))

pub input_bits : (prefix a after : List Bool) (k count : ℕ) → k ≡ length prefix → count ≡ length a → map (formula_bit (prefix ++ (a ++ after))) (reverse (inputs_from k count)) ≡ reverse a
input_bits prefix a after k count at long =
    reverse-map (formula_bit (prefix ++ (a ++ after))) (inputs_from k count) ∙ ap reverse (bits_from (prefix ++ (a ++ after)) k count ∙ ap (λ n. map (λ i. get_or (prefix ++ (a ++ after)) i false) (range_with_len k n)) long ∙ bits_within prefix a after k at)

pub range_more : (a n j : ℕ) → a + n ≡ j → range_with_len a (n + 1) ≡ range_with_len a n ++ j ∷ []
range_more a zero j is = ap (λ k. k ∷ []) (let e : a ≡ j = omega (arith, is) in e)
range_more a (suc n) j is = ap (range_with_len a) (let e : suc n + 1 ≡ suc (n + 1) = omega arith in e) ∙ ap (λ l. a ∷ l) (range_more (a + 1) n j (omega (arith, is)))
