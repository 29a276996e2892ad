-- How many constants a circuit reads: of a circuit with one cell at most one, and of one with no cell none.
use Rattle.std.proofs.Common.{◌≡◌, ℕ, zero, suc, ◌+◌, ◌*◌, ◌≤◌, Bool, true, false, ◌||◌, List, [], ◌∷◌, map, length, drop, reverse, refl, ap, ◌∙◌, arith}
use Rattle.std.specs.Prelude.{nat_eq}
use Rattle.std.specs.List.{list_any}
use Rattle.std.proofs.lemmas.Bool.{or_parts, or_from}
use Rattle.bb_lemmas.proofs.Bits.{never_both}
use Rattle.bb_ast.specs.declared.operators.WordOp.{WordOp}
use Rattle.bb_ast.specs.declared.operators.WordOp.TheVariants as ops
use Rattle.bb_ast.specs.declared.operators.FoldOp.{FoldOp}
use Rattle.bb_ast.specs.declared.operators.FoldOp.TheVariants as folds
use Rattle.bb_net.specs.declared.cell.Cell.{Cell}
use Rattle.bb_net.specs.declared.cell.Cell.TheVariants as cells
use Rattle.bb_net.specs.Netlists.{Netlist, IsNetlist}
use Rattle.bb_word.specs.Laws.Formulas.{Formula, Const, formulas, cell_formula, formula_at}
use Rattle.bb_word.specs.Gates.{Made as Circuit}
use Rattle.bb_word.specs.Meanings.{word_width}
use Rattle.bb_word.specs.Inside.Nets.{IsCircuit, inputs_from}
use Rattle.bb_word.specs.Words.{word_circuit, word_cells, AreWidths}
use Rattle.bb_word.specs.Folds.{fold_circuit, fold_cells}
use Rattle.bb_expr.specs.Inside.Instantiation.{is_read, read_by, is_out, after_inputs, is_needed, constant_steps, is_constant, reads_constant}
use Rattle.bb_expr.proofs.InstantiatedPlaces.{apart, constant-few, zero-formula, one-formula}
use Rattle.bb_expr.proofs.InstantiateAdds.{constant_count}

-- some cell of the circuit reads the constant, or it is a bit of the result
abbrev pub uses : Bool → Circuit Formula → Bool
uses bit circuit = list_any (reads_constant bit) circuit.cells || list_any (is_constant bit) (reverse circuit.bits)

constant-itself : (bit : Bool) → is_constant bit (Const bit) ≡ true
constant-itself true = refl
constant-itself false = refl

module _ (part : ℕ → Formula) (bit : Bool) (place : ℕ) (is : part place ≡ Const bit) where
  other : (a : ℕ) → is_constant bit (part a) ≡ false → nat_eq a place ≡ false
  other a h = apart a place (λ e. never_both (is_constant bit (part a)) (ap (λ k. is_constant bit (part k)) e ∙ ap (is_constant bit) is ∙ constant-itself bit) h)

  two : (a b : ℕ) → (is_constant bit (part a) || is_constant bit (part b)) ≡ false → (nat_eq a place || nat_eq b place) ≡ false
  two a b h =
      let p = or_parts (is_constant bit (part a)) (is_constant bit (part b)) h in
      or_from (nat_eq a place) (nat_eq b place) (other a p.0) (other b p.1)

  unread : (c : Cell) → reads_constant bit (cell_formula part c) ≡ false → is_read place c ≡ false
  unread (cells.Const b) h = refl
  unread (cells.Input i) h = refl
  unread (cells.Not a) h = other a h
  unread (cells.And a b) h = two a b h
  unread (cells.Or a b) h = two a b h
  unread (cells.Xor a b) h = two a b h
  unread (cells.Mux c t e) h =
      let p = or_parts (is_constant bit (part c)) (is_constant bit (part t) || is_constant bit (part e)) h in
      or_from (nat_eq c place) (nat_eq t place || nat_eq e place) (other c p.0) (two t e p.1)
  unread (cells.BoxOut b p) h = refl

  unread-all : (all : List Cell) → list_any (reads_constant bit) (map (cell_formula part) all) ≡ false → read_by place all ≡ false
  unread-all [] h = refl
  unread-all (c ∷ all) h =
      let p = or_parts (reads_constant bit (cell_formula part c)) (list_any (reads_constant bit) (map (cell_formula part) all)) h in
      or_from (is_read place c) (read_by place all) (unread c p.0) (unread-all all p.1)

  no-out : (outs : List ℕ) → list_any (is_constant bit) (map part outs) ≡ false → is_out place outs ≡ false
  no-out [] h = refl
  no-out (out ∷ outs) h =
      let p = or_parts (is_constant bit (part out)) (list_any (is_constant bit) (map part outs)) h in
      or_from (nat_eq out place) (is_out place outs) (other out p.0) (no-out outs p.1)

-- what the circuit does not use its netlist does not need
not-needed : (net : Netlist) (width : ℕ) (circuit : Circuit Formula) → IsCircuit net width circuit → (bit : Bool) (place : ℕ) → formula_at net.cells place ≡ Const bit → uses bit circuit ≡ false → is_needed net place ≡ false
not-needed net width circuit circ bit place is h =
    let part = formula_at net.cells in
    let p = or_parts (list_any (reads_constant bit) circuit.cells) (list_any (is_constant bit) (reverse circuit.bits)) h in
    let made : map (cell_formula part) (after_inputs net) ≡ circuit.cells = ap (λ n. map (cell_formula part) (drop (n + 2) net.cells)) circ.inputs ∙ circ.cells in
    or_from (read_by place (after_inputs net)) (is_out place net.outs)
    (unread-all part bit place is (after_inputs net) (ap (list_any (reads_constant bit)) made ∙ p.0))
    (no-out part bit place is net.outs (ap (list_any (is_constant bit)) circ.outs ∙ p.1))

-- so many inputs, outputs and cells leave room for the constants that the circuit uses
pub data Fits (circuit : Circuit Formula) (inputs outs made : ℕ) : Type 0 where
  Two : inputs + 2 ≤ outs + 2 * made → Fits circuit inputs outs made
  One : uses true circuit ≡ false → inputs + 1 ≤ outs + 2 * made → Fits circuit inputs outs made
  Neither : uses false circuit ≡ false → uses true circuit ≡ false → inputs ≤ outs + 2 * made → Fits circuit inputs outs made

no-steps : (bit needed : Bool) → needed ≡ false → length (constant_steps bit needed) ≡ 0
no-steps bit true h = cc
no-steps bit false h = refl

pub constants-fit : (net : Netlist) (width : ℕ) (circuit : Circuit Formula) → IsNetlist net → IsCircuit net width circuit → (inputs outs made : ℕ) → Fits circuit inputs outs made → inputs + constant_count net ≤ outs + 2 * made
constants-fit net width circuit kept circ inputs outs made (Two h) = omega (arith, h, constant-few false (is_needed net 0), constant-few true (is_needed net 1))
constants-fit net width circuit kept circ inputs outs made (One one h) =
    omega (arith, h, constant-few false (is_needed net 0), no-steps true (is_needed net 1) (not-needed net width circuit circ true 1 (one-formula net kept) one))
constants-fit net width circuit kept circ inputs outs made (Neither none one h) =
    omega (arith, h, no-steps false (is_needed net 0) (not-needed net width circuit circ false 0 (zero-formula net kept) none), no-steps true (is_needed net 1) (not-needed net width circuit circ true 1 (one-formula net kept) one))

shift-fits : (l r made : ℕ) → made ≡ r * l → 2 ≤ l → 1 ≤ r → (l + r) + 2 ≤ l + 2 * made
shift-fits zero r made is long some = absurd (omega (arith, long))
shift-fits (suc zero) r made is long some = absurd (omega (arith, long))
shift-fits (suc (suc l)) r made is long some =
    let more : r * suc (suc l) ≡ 2 * r + r * l = grind arith in
    omega (arith, is, more, some)

pub word-fits : (op : WordOp) (l r : ℕ) → AreWidths op l r → Fits (word_circuit formulas op (reverse (inputs_from 0 l)) (reverse (inputs_from l r))) (l + r) (word_width op l) (word_cells op l r)
word-fits ops.Plus l r w = Two (omega (arith, w.some_left, w.one))
word-fits ops.Minus l r w = Two (omega (arith, w.some_left, w.one))
word-fits ops.Equal l r w = Two (omega (arith, w.some_left, w.one))
word-fits ops.NotEqual l r w = Two (omega (arith, w.some_left, w.one))
word-fits ops.Less l r w = Two (omega (arith, w.some_left, w.one))
word-fits ops.LessEqual l r w = Two (omega (arith, w.some_left, w.one))
word-fits ops.Greater l r w = Two (omega (arith, w.some_left, w.one))
word-fits ops.GreaterEqual l r w = Two (omega (arith, w.some_left, w.one))
word-fits ops.Left zero r w = absurd (omega (arith, w.some_left))
word-fits ops.Left (suc zero) zero w = absurd (omega (arith, w.some_right))
word-fits ops.Left (suc zero) (suc zero) w = One refl (omega arith)
word-fits ops.Left (suc zero) (suc (suc r)) w = Two (omega arith)
word-fits ops.Left (suc (suc l)) r w = Two (shift-fits (suc (suc l)) r (r * suc (suc l)) refl (omega arith) w.some_right)
word-fits ops.Right zero r w = absurd (omega (arith, w.some_left))
word-fits ops.Right (suc zero) zero w = absurd (omega (arith, w.some_right))
word-fits ops.Right (suc zero) (suc zero) w = One refl (omega arith)
word-fits ops.Right (suc zero) (suc (suc r)) w = Two (omega arith)
word-fits ops.Right (suc (suc l)) r w = Two (shift-fits (suc (suc l)) r (r * suc (suc l)) refl (omega arith) w.some_right)
word-fits ops.Both zero r w = absurd (omega (arith, w.some_left))
word-fits ops.Both (suc zero) zero w = absurd (omega (arith, w.some_right))
word-fits ops.Both (suc zero) (suc zero) w = One refl (omega arith)
word-fits ops.Both (suc zero) (suc (suc r)) w = Two (omega arith)
word-fits ops.Both (suc (suc l)) r w = Two (omega (arith, w.some_right))
word-fits ops.Either zero r w = absurd (omega (arith, w.some_left))
word-fits ops.Either (suc zero) zero w = absurd (omega (arith, w.some_right))
word-fits ops.Either (suc zero) (suc zero) w = One refl (omega arith)
word-fits ops.Either (suc zero) (suc (suc r)) w = Two (omega arith)
word-fits ops.Either (suc (suc l)) r w = Two (omega (arith, w.some_right))

pub fold-fits : (op : FoldOp) (w : ℕ) → 1 ≤ w → Fits (fold_circuit formulas op (reverse (inputs_from 0 w))) w 1 (fold_cells op w)
fold-fits folds.None w some = Two (omega (arith, some))
fold-fits folds.NotAll w some = Two (omega (arith, some))
fold-fits folds.NotAny w some = Two (omega (arith, some))
fold-fits folds.NotOdd w some = Two (omega (arith, some))
fold-fits folds.All zero some = absurd (omega (arith, some))
fold-fits folds.All (suc zero) some = Neither refl refl (omega arith)
fold-fits folds.All (suc (suc zero)) some = One refl (omega arith)
fold-fits folds.All (suc (suc (suc w))) some = Two (omega arith)
fold-fits folds.Any zero some = absurd (omega (arith, some))
fold-fits folds.Any (suc zero) some = Neither refl refl (omega arith)
fold-fits folds.Any (suc (suc zero)) some = One refl (omega arith)
fold-fits folds.Any (suc (suc (suc w))) some = Two (omega arith)
fold-fits folds.Odd zero some = absurd (omega (arith, some))
fold-fits folds.Odd (suc zero) some = Neither refl refl (omega arith)
fold-fits folds.Odd (suc (suc zero)) some = One refl (omega arith)
fold-fits folds.Odd (suc (suc (suc w))) some = Two (omega arith)
