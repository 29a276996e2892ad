-- The netlist of an operator on words, pasted, is the operator's circuit on what its operands are made of.
use Rattle.std.proofs.Common.{◌≡◌, ℕ, ◌+◌, ◌≤◌, Bool, false, true, List, [], ◌∷◌, ◌++◌, map, length, drop, reverse, refl, sym, ap, ap₂, ◌∙◌, subst, arith, length-append, append-nil}
use Rattle.std.proofs.lemmas.List.{length-map, length-drop, length-replicate}
use Rattle.std.specs.Prelude.{replicate}
use Rattle.bb_lemmas.proofs.Maps.{reverse-map}
use Rattle.bb_ast.specs.declared.operators.WordOp.{WordOp}
use Rattle.bb_ast.specs.declared.operators.FoldOp.{FoldOp}
use Rattle.bb_names.specs.declared.net.NetInfo.{NetInfo}
use Rattle.bb_net.specs.Netlists.{Netlist}
use Rattle.bb_net.specs.Values.{bit_of, flat}
use Rattle.bb_word.specs.Laws.Formulas.{Formula, formulas, cell_formula, formula_at}
use Rattle.bb_word.specs.Gates.{Made as Circuit, mapped}
use Rattle.bb_word.specs.Meanings.{word_width}
use Rattle.bb_word.specs.Inside.Nets.{IsCircuit, inputs_from}
use Rattle.bb_word.specs.Words.{word_circuit, word_cells, AreWidths}
use Rattle.bb_word.specs.Folds.{fold_circuit, fold_cells, fold_bit}
use Rattle.bb_word.specs.Laws.MapLaws.{word_map, fold_map}
use Rattle.bb_expr.specs.declared.step.BitStep.{BitStep}
use Rattle.bb_expr.specs.Terms.{Term, terms}
use Rattle.bb_expr.specs.Cells.{MadeTerms}
use Rattle.bb_expr.specs.Inside.Growing.{Adds, word_joined, fold_joined}
use Rattle.bb_expr.specs.Inside.Instantiation.{after_inputs, is_needed, with_zero, with_constants, constant_steps, moved, instantiated, IsInstantiated, formula_term}
use Rattle.bb_expr.proofs.RowLemmas.{adds-beside}
use Rattle.bb_expr.proofs.InstantiateGates.{word-gates, fold-gates}
use Rattle.bb_expr.proofs.InstantiateTerms.{formulas-map, input-terms}
use Rattle.bb_expr.proofs.InstantiatedPlaces.{constant-few}
use Rattle.bb_expr.proofs.InstantiateAdds.{adds-instantiated}
use Rattle.bb_expr.proofs.InstantiateCounts.{constants-fit, word-fits, fold-fits}

circuit-count : (net : Netlist) (width k : ℕ) (circuit : Circuit Formula) → IsCircuit net width circuit → length net.cells ≡ width + 2 + k → length circuit.cells ≡ k
circuit-count net width k circuit circ count =
    omega (arith, ap length circ.cells, length-map (drop (width + 2) net.cells) (cell_formula (formula_at net.cells)), length-drop (width + 2) net.cells, count)

turned : (prefix a after : List Term) (k count : ℕ) → k ≡ length prefix → count ≡ length a → map (formula_term (prefix ++ (a ++ after))) (reverse (inputs_from k count)) ≡ reverse a
turned prefix a after k count at long = reverse-map (formula_term (prefix ++ (a ++ after))) (inputs_from k count) ∙ ap reverse (input-terms prefix a after k count at long)

pub adds-word : (op : WordOp) (nets : List NetInfo) (m n : MadeTerms) (old mid now new : List BitStep) (left right inputs places : List ℕ) (net : Netlist) → inputs ≡ left ++ right → AreWidths op (length left) (length right)
    → IsCircuit net (length left + length right) (word_circuit formulas op (reverse (inputs_from 0 (length left))) (reverse (inputs_from (length left) (length right))))
    → length net.outs ≡ word_width op (length left) → length net.cells ≡ length left + length right + 2 + word_cells op (length left) (length right)
    → IsInstantiated net inputs now new places → Adds nets m old mid left → Adds nets n mid now right → Adds nets (word_joined op m n) old new places
adds-word op nets m n old mid now new left right inputs places net is widths circ outs count instantiated x y =
    let l = length left in
    let r = length right in
    let xs = reverse (inputs_from 0 l) in
    let ys = reverse (inputs_from l r) in
    let circuit = word_circuit formulas op xs ys in
    let ts = m.bits ++ n.bits in
    let f = formula_term ts in
    let both = adds-beside nets m n old mid now left right x y in
    let long : l + r ≡ length (left ++ right) = sym (length-append left right) in
    let first : map f xs ≡ reverse m.bits = turned [] m.bits n.bits 0 l refl x.long in
    let second : map f ys ≡ reverse n.bits =
    ap (λ b. map (formula_term (m.bits ++ b)) ys) (sym (append-nil n.bits)) ∙ turned m.bits n.bits [] l r x.long y.long in
    let image : mapped f circuit ≡ word_circuit terms op (reverse m.bits) (reverse n.bits) = word_map formulas terms f (formulas-map ts) op xs ys ∙ ap₂ (word_circuit terms op) first second in
    let circ' : IsCircuit net (length (left ++ right)) circuit = subst (λ k. IsCircuit net k circuit) long circ in
    let pasted' : IsInstantiated net (left ++ right) now new places = subst (λ k. IsInstantiated net k now new places) is instantiated in
    let fits = constants-fit net (l + r) circuit instantiated.kept circ (l + r) (word_width op l) (word_cells op l r) (word-fits op l r widths) in
    adds-instantiated nets net circuit (word_circuit terms op (reverse m.bits) (reverse n.bits)) (record { bits = ts; cells = m.cells ++ n.cells }) old now new (left ++ right) places both pasted' circ' (word-gates op xs ys) image
    (omega (arith, fits, long, outs, circuit-count net (l + r) (word_cells op l r) circuit circ count))

pub adds-fold : (op : FoldOp) (nets : List NetInfo) (m : MadeTerms) (old now new : List BitStep) (bits places : List ℕ) (net : Netlist) → 1 ≤ length bits
    → IsCircuit net (length bits) (fold_circuit formulas op (reverse (inputs_from 0 (length bits))))
    → length net.outs ≡ 1 → length net.cells ≡ length bits + 2 + fold_cells op (length bits)
    → IsInstantiated net bits now new places → Adds nets m old now bits → Adds nets (fold_joined op m) old new places
adds-fold op nets m old now new bits places net some circ outs count instantiated x =
    let w = length bits in
    let xs = reverse (inputs_from 0 w) in
    let circuit = fold_circuit formulas op xs in
    let f = formula_term m.bits in
    let first : map f xs ≡ reverse m.bits =
    ap (λ b. map (formula_term b) xs) (sym (append-nil m.bits)) ∙ turned [] m.bits [] 0 w refl x.long in
    let image : mapped f circuit ≡ fold_circuit terms op (reverse m.bits) = fold_map formulas terms f (formulas-map m.bits) op xs ∙ ap (fold_circuit terms op) first in
    let fits = constants-fit net w circuit instantiated.kept circ w 1 (fold_cells op w) (fold-fits op w some) in
    adds-instantiated nets net circuit (fold_circuit terms op (reverse m.bits)) m old now new bits places x instantiated circ (fold-gates op xs) image
    (omega (arith, fits, outs, circuit-count net w (fold_cells op w) circuit circ count))

-- a reduction has one output
pub one-out : (op : FoldOp) (bits : List ℕ) (net : Netlist) → ((a : List Bool) → length a ≡ length bits → map (bit_of (flat net a [])) net.outs ≡ fold_bit op a ∷ []) → length net.outs ≡ 1
one-out op bits net value =
    let a = replicate (length bits) false in
    sym (length-map net.outs (bit_of (flat net a []))) ∙ ap length (value a (length-replicate (length bits) false))

pub places-count : (net : Netlist) (inputs places : List ℕ) (old new : List BitStep) → IsInstantiated net inputs old new places → length places ≡ length net.outs
places-count net inputs places old new p = ap length p.outs ∙ length-map net.outs (moved p.at inputs)

-- how far the steps grow
pub instantiated-length : (net : Netlist) (inputs places : List ℕ) (old new : List BitStep) (width made : ℕ) → net.inputs ≡ width → length net.cells ≡ width + 2 + made → IsInstantiated net inputs old new places → length new ≤ length old + 2 + made
instantiated-length net inputs places old new width made same count p =
    let rows = map (instantiated (moved p.at inputs)) (after_inputs net) in
    omega (
      arith,
      ap length p.steps,
      length-append (with_constants net old) rows,
      length-append (with_zero net old) (constant_steps true (is_needed net 1)),
      length-append old (constant_steps false (is_needed net 0)),
      constant-few false (is_needed net 0),
      constant-few true (is_needed net 1),
      length-map (after_inputs net) (instantiated (moved p.at inputs)),
      length-drop (net.inputs + 2) net.cells,
      same,
      count,
    )
