-- The netlists of operators on two words.
use Rattle.std.proofs.Common.{◌≡◌, ◌∙◌, ◌+◌, ◌<◌, ℕ, Bool, false, List, [], ◌∷◌, ◌++◌, map, length, take, get_or, replicate, reverse, refl, sym, ap, subst, arith, append_assoc}
use Rattle.std.specs.List.{range_with_len}
use Rattle.std.proofs.Math.Path.{ap₂}
use Rattle.std.proofs.lemmas.List.{append-nil, length-map, length-replicate, take_more}
use Rattle.bb_bits.specs.Numbers.{number_of}
use Rattle.bb_lemmas.proofs.Maps.{reverse-map}
use Rattle.bb_net.specs.Netlists.{Netlist, IsNetlist}
use Rattle.bb_net.specs.Values.{bit_of, flat}
use Rattle.bb_ast.specs.declared.operators.WordOp.{WordOp}
use Rattle.bb_word.specs.Gates.{bits, Made}
use Rattle.bb_word.specs.Words.{word_circuit, word_cells, AreWidths, HaveOneWidth}
use Rattle.bb_word.specs.Meanings.{word_number, word_width}
use Rattle.bb_word.specs.Laws.Formulas.{Formula, formulas, formula_bit}
use Rattle.bb_word.specs.Inside.Adding.{nothing, Adds, with_outs}
use Rattle.bb_word.specs.Inside.Nets.{inputs_from, IsCircuit}
use Rattle.bb_word.specs.Laws.MapLaws.{word_map}
use Rattle.bb_word.proofs.NumberLemmas.{Doubles}
use Rattle.bb_word.proofs.WordLemmas.{word_is, word_long}
use Rattle.bb_word.proofs.FormulaLemmas.{OneValue, bits_map}
use Rattle.bb_word.proofs.NetLemmas.{started, length-first, inputs_part, IsCircuit-of, outs_value, input_bits}

pub word_net : (op : WordOp) (left right : ℕ) (net mid new : Netlist) (first second places turned : List ℕ) → net ≡ started (left + right)
    → first ≡ reverse (range_with_len 2 left) → second ≡ reverse (range_with_len (2 + left) right)
    → Adds net mid places (λ part. word_circuit formulas op (map part first) (map part second)) nothing → turned ≡ reverse places → new ≡ with_outs mid turned → IsNetlist new
    → IsCircuit new (left + right) (word_circuit formulas op (reverse (inputs_from 0 left)) (reverse (inputs_from left right)))
word_net op left right net mid new first second places turned start is_first is_second adds back out kept =
    let n = left + right in
    let circuit : (ℕ → Formula) → Made Formula = λ part. word_circuit formulas op (map part first) (map part second) in
    let none : mid.outs ≡ [] = ap (λ (m : Netlist). m.outs) adds.grown ∙ ap (λ (m : Netlist). m.outs) start in
    let only : new ≡ record mid { outs = turned } = out ∙ ap (λ l. record mid { outs = l ++ turned }) none in
    IsCircuit-of n mid new places turned circuit (word_circuit formulas op (reverse (inputs_from 0 left)) (reverse (inputs_from left right)))
    (subst (λ m. Adds m mid places circuit nothing) start adds) only back kept
    (λ more part meets.
    let a = ap (map part) is_first ∙ reverse-map part (range_with_len 2 left) ∙ ap reverse (inputs_part n more part meets 0 left (omega arith)) in
    let b = ap (map part) is_second ∙ reverse-map part (range_with_len (2 + left) right) ∙ ap reverse (inputs_part n more part meets left right (omega arith)) in
    ap₂ (word_circuit formulas op) a b)

module _ (one : OneValue) (doubles : Doubles) (op : WordOp) (left right : ℕ) (new : Netlist) (widths : AreWidths op left right) (kept : IsNetlist new) (is : IsCircuit new (left + right) (word_circuit formulas op (reverse (inputs_from 0 left)) (reverse (inputs_from left right)))) where
  -- the outputs have the bits of the circuit
  outs_are : (a b : List Bool) → length a ≡ left → length b ≡ right → map (bit_of (flat new (a ++ b) [])) new.outs ≡ reverse (word_circuit bits op (reverse a) (reverse b)).bits
  outs_are a b long_a long_b =
      let x = a ++ b in
      let ins = reverse (inputs_from 0 left) in
      let jns = reverse (inputs_from left right) in
      let first : map (formula_bit x) ins ≡ reverse a = input_bits [] a b 0 left refl (sym long_a) in
      let second : map (formula_bit x) jns ≡ reverse b = subst (λ y. map (formula_bit y) jns ≡ reverse b) (ap (λ l. a ++ l) (append-nil b)) (input_bits a b [] left right (sym long_a) (sym long_b)) in
      let made = word_map formulas bits (formula_bit x) (bits_map x) op ins jns ∙ ap₂ (word_circuit bits op) first second in
      outs_value one new (left + right) (word_circuit formulas op ins jns) x kept is ∙ ap (λ z. reverse z.bits) made

  widths_of : (a b : List Bool) → length a ≡ left → length b ≡ right → HaveOneWidth op (length a) (length b)
  widths_of a b long_a long_b = subst (λ n. HaveOneWidth op n (length b)) (sym long_a) (subst (λ n. HaveOneWidth op left n) (sym long_b) widths.one)

  pub word_net_value : (a b : List Bool) → length a ≡ left → length b ≡ right → number_of (map (bit_of (flat new (a ++ b) [])) new.outs) ≡ word_number op a b
  word_net_value a b long_a long_b = ap number_of (outs_are a b long_a long_b) ∙ word_is doubles op a b (widths_of a b long_a long_b)

  pub word_net_width : length new.outs ≡ word_width op left
  word_net_width =
      let a = replicate left false in
      let b = replicate right false in
      let long_a = length-replicate left false in
      let long_b = length-replicate right false in
      sym (length-map new.outs (bit_of (flat new (a ++ b) []))) ∙ ap length (outs_are a b long_a long_b) ∙ word_long doubles op a b (widths_of a b long_a long_b) ∙ ap (word_width op) long_a

pub word_net_length : (op : WordOp) (left right : ℕ) (net mid new : Netlist) (first second turned : List ℕ) → net ≡ started (left + right) → length first ≡ left → length second ≡ right → length mid.cells ≡ length net.cells + word_cells op (length first) (length second) → new ≡ with_outs mid turned → length new.cells ≡ left + right + 2 + word_cells op left right
word_net_length op left right net mid new first second turned start long_first long_second grown out =
    let same = ap₂ (word_cells op) long_first long_second in
    let begin = ap (λ (m : Netlist). length m.cells) start in
    ap (λ (m : Netlist). length m.cells) out ∙ omega (arith, grown, same, begin, length-first (left + right))

pub with_outs-more : (net : Netlist) (places : List ℕ) (i place : ℕ) (now : Netlist) → i < length places → place ≡ get_or places i 0 → now ≡ with_outs net (take i places) → record now { outs = now.outs ++ place ∷ [] } ≡ with_outs net (take (i + 1) places)
with_outs-more net places i place now below at is =
    ap (λ (m : Netlist). record m { outs = m.outs ++ place ∷ [] }) is
    ∙ ap {B = Netlist} (λ l. record net { outs = l }) (append_assoc net.outs (take i places) (place ∷ []) ∙ ap (λ l. net.outs ++ l) (ap (λ p. take i places ++ p ∷ []) at ∙ sym (take_more places i 0 below)))
