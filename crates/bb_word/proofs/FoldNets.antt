-- The netlists of reductions.
use Rattle.std.proofs.Common.{◌≡◌, ◌∙◌, ◌+◌, ◌<◌, ◌≤◌, ℕ, Bool, List, [], ◌∷◌, ◌++◌, map, length, reverse, refl, sym, ap, subst, arith}
use Rattle.std.specs.Prelude.{All}
use Rattle.std.specs.List.{range_with_len}
use Rattle.std.proofs.lemmas.List.{append-nil, length-reverse}
use Rattle.std.proofs.lemmas.List.FromFn.{length-range_with_len, get_or-range_with_len}
use Rattle.bb_lemmas.proofs.Maps.{reverse-map}
use Rattle.bb_net.specs.Netlists.{Netlist, IsNetlist, with_out}
use Rattle.bb_net.specs.Values.{bit_of, flat}
use Rattle.bb_ast.specs.declared.operators.FoldOp.{FoldOp}
use Rattle.bb_word.specs.Gates.{bits, Made}
use Rattle.bb_word.specs.Folds.{fold_circuit, fold_cells, fold_bit}
use Rattle.bb_word.specs.Laws.Formulas.{Formula, formulas, formula_bit}
use Rattle.bb_word.specs.Inside.Adding.{nothing, Adds}
use Rattle.bb_word.specs.Inside.Nets.{inputs_from, IsCircuit}
use Rattle.bb_word.specs.Laws.MapLaws.{fold_map}
use Rattle.bb_word.proofs.FoldLemmas.{fold_is}
use Rattle.bb_word.proofs.FoldSteps.{All-reversed}
use Rattle.bb_word.proofs.FormulaLemmas.{OneValue, bits_map}
use Rattle.bb_word.proofs.NetLemmas.{started, length-first, inputs_part, IsCircuit-of, outs_value, input_bits}

-- the places of an operand, the least significant bit first
pub operand_long : (first n : ℕ) (word : List ℕ) → word ≡ reverse (range_with_len first n) → length word ≡ n
operand_long first n word is = ap length is ∙ length-reverse (range_with_len first n) ∙ length-range_with_len first n

range_below : (first n m : ℕ) → first + n ≤ m → All (λ p. p < m) (range_with_len first n)
range_below first n m fits k d h =
    let inside : k < n = omega (arith, h, length-range_with_len first n) in
    omega (arith, get_or-range_with_len first n k d inside)

pub operand_there : (first n m : ℕ) (word : List ℕ) → word ≡ reverse (range_with_len first n) → first + n ≤ m → All (λ p. p < m) word
operand_there first n m word is fits = All-reversed m (range_with_len first n) word is (range_below first n m fits)

outs_only : (net mid new : Netlist) (n place : ℕ) (circuit : (ℕ → Formula) → Made Formula) → net ≡ started n → Adds net mid (place ∷ []) circuit nothing → new ≡ with_out mid place → new ≡ record mid { outs = place ∷ [] }
outs_only net mid new n place circuit start adds is =
    let none : mid.outs ≡ [] = ap (λ (m : Netlist). m.outs) adds.grown ∙ ap (λ (m : Netlist). m.outs) start in
    is ∙ ap (λ l. record mid { outs = l ++ place ∷ [] }) none

pub fold_net : (op : FoldOp) (n : ℕ) (net mid new : Netlist) (word : List ℕ) (place : ℕ) → net ≡ started n → word ≡ reverse (range_with_len 2 n) → Adds net mid (place ∷ []) (λ part. fold_circuit formulas op (map part word)) nothing → new ≡ with_out mid place → IsNetlist new → IsCircuit new n (fold_circuit formulas op (reverse (inputs_from 0 n)))
fold_net op n net mid new word place start is adds out kept =
    let circuit : (ℕ → Formula) → Made Formula = λ part. fold_circuit formulas op (map part word) in
    IsCircuit-of n mid new (place ∷ []) (place ∷ []) circuit (fold_circuit formulas op (reverse (inputs_from 0 n)))
    (subst (λ m. Adds m mid (place ∷ []) circuit nothing) start adds)
    (outs_only net mid new n place circuit start adds out) refl kept
    (λ more part meets. ap (fold_circuit formulas op) (ap (map part) is ∙ reverse-map part (range_with_len 2 n) ∙ ap reverse (inputs_part n more part meets 0 n (omega arith))))

pub fold_net_length : (op : FoldOp) (n : ℕ) (net mid new : Netlist) (word : List ℕ) (place : ℕ) → net ≡ started n → word ≡ reverse (range_with_len 2 n) → length mid.cells ≡ length net.cells + fold_cells op (length word) → new ≡ with_out mid place → length new.cells ≡ n + 2 + fold_cells op n
fold_net_length op n net mid new word place start is grown out =
    let same = ap (fold_cells op) (operand_long 2 n word is) in
    let first = ap (λ (m : Netlist). length m.cells) start in
    ap (λ (m : Netlist). length m.cells) out ∙ omega (arith, grown, same, first, length-first n)

pub fold_net_value : OneValue → (op : FoldOp) (n : ℕ) (new : Netlist) → 1 ≤ n → IsNetlist new → IsCircuit new n (fold_circuit formulas op (reverse (inputs_from 0 n))) → (a : List Bool) → length a ≡ n → map (bit_of (flat new a [])) new.outs ≡ fold_bit op a ∷ []
fold_net_value one op n new some kept is a long =
    let ins = reverse (inputs_from 0 n) in
    let input : map (formula_bit a) ins ≡ reverse a = subst (λ x. map (formula_bit x) ins ≡ reverse a) (append-nil a) (input_bits [] a [] 0 n refl (sym long)) in
    let made = fold_map formulas bits (formula_bit a) (bits_map a) op ins ∙ ap (fold_circuit bits op) input in
    outs_value one new n (fold_circuit formulas op ins) a kept is ∙ ap (λ z. reverse z.bits) made ∙ ap reverse (fold_is op a)
