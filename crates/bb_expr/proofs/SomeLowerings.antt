-- Each expression that is fit in a module can be lowered: operand by operand, after the steps of those before it.
use Rattle.std.proofs.Common.{◌≡◌, ℕ, ◌+◌, ◌≤◌, List, [], ◌∷◌, ◌++◌, length, map, refl, sym, subst, inl, inr, arith}
use Rattle.std.specs.Prelude.{fold, Contains}
use Rattle.std.specs.List.{AllByRecursion, flat_map}
use Rattle.std.proofs.lemmas.List.Elements.{recursion_from_All}
use Rattle.bb_lemmas.proofs.Members.{either}
use Rattle.bb_ast.specs.Syntax.{Expression, Net, Bit, Part, Sized, Plain, Not, Fold, Chain, Words, Cond, Concat, Repeat, Operands, no_operand, operand, WordOperands, no_word, word, Arms, no_arm, arm, Parts, no_part, part, PlainModule}
use Rattle.bb_ast.specs.Folds.{of_operands, of_words, of_arms, of_parts}
use Rattle.bb_bits.specs.Numbers.{bits_of}
use Rattle.bb_names.specs.declared.net.NetInfo.{NetInfo}
use Rattle.bb_names.specs.Ranges.{range_width, distance, place_of}
use Rattle.bb_ast.specs.declared.operators.WordOp.{WordOp}
use Rattle.bb_ast.specs.declared.operators.WordOp.TheVariants as words
use Rattle.bb_names.specs.Widths.{Ranges, greatest, widths, own_width, operator_width, first_at, second_at, word_step}
use Rattle.bb_word.specs.Words.{HaveOneWidth}
use Rattle.bb_names.specs.Declarations.{range_of}
use Rattle.bb_names.specs.Nets.{net_names, net_of, nets_of}
use Rattle.bb_expr.specs.declared.step.BitStep.{BitStep}
use Rattle.bb_expr.specs.Inside.Occurrences.{gathering, expressions_in}
use Rattle.bb_expr.specs.Inside.Fit.{IsFitIn}
use Rattle.bb_expr.specs.Laws.FitLaws.{LoweringsExist}
use Rattle.bb_expr.specs.Terms.{Const}
use Rattle.bb_expr.specs.Cells.{MadeTerms, without_cells, net_terms, made, makes, chained, operated, arms_made, part_bits, part_cells, word_made}
use Rattle.bb_word.specs.Folds.{is_odd}
use Rattle.bb_expr.specs.Inside.Growing.{Adds, widened, word_joined, fold_joined}
use Rattle.bb_expr.proofs.CellCounts.{length-made, length-operated, IsLong, word-makes}
use Rattle.bb_expr.proofs.KnownNames.{net-at}
use Rattle.bb_expr.proofs.ListLemmas.{all-prefix, all-back}
use Rattle.bb_expr.proofs.LoweredLemmas.{is-lowered}
use Rattle.bb_expr.proofs.MadeValue.{made_seen}
use Rattle.bb_expr.proofs.NetBitLemmas.{part-fits}
use Rattle.bb_expr.proofs.RowLemmas.{adds-beside, adds-nothing}
use Rattle.bb_expr.proofs.SomeRows.{Lowers, constants, net-bits, widen, complement, operate, any, choose, copy}
use Rattle.bb_expr.proofs.SomeWords.{word-lowers, fold-lowers}
use Rattle.bb_expr.proofs.ValueLemmas.{first-fits, second-fits, one-width}
use Rattle.bb_expr.proofs.WalkLemmas.{not-odd, not-even}

module _ (m : PlainModule) where
  abbrev nets : List NetInfo
  nets = nets_of m

  abbrev ranges : Ranges
  ranges = range_of m

  -- the bits of parts side by side, and their cells
  abbrev beside : Parts → MadeTerms
  beside all = record { bits = part_bits (of_parts (made_seen ranges) (makes ranges) all); cells = part_cells (of_parts (made_seen ranges) (makes ranges) all) }

  abbrev arms_at : Arms → Expression → ℕ → MadeTerms
  arms_at all last w = arms_made (of_arms (made_seen ranges) (makes ranges) all) (made_seen ranges last (made ranges last)) w

  abbrev folded : ℕ → MadeTerms → Operands → MadeTerms
  folded w p rest = fold (λ a x. let b = x.1.at w in chained a b (operated x.0 a.bits b.bits)) p (of_operands (made_seen ranges) (makes ranges) rest)

  net-part : (n : List ℕ) (w from count : ℕ) (old : List BitStep) → Contains (net_names m) n → from + count ≤ range_width (ranges n) → Lowers nets (widened w (without_cells (net_terms n from count))) old
  net-part n w from count old there fits =
      let at = net-at m n there in
      widen nets w (without_cells (net_terms n from count)) old (net-bits nets n (net_of m n) at.0 from count old at.2 refl fits)

  not-made : (k : ℕ) (e : Expression) (w : ℕ) (old : List BitStep) → Lowers nets (made ranges e w) old → Lowers nets (made ranges (Not k e) w) old
  not-made k e w old h = elim (either (is_odd k)) [
    | inl odd ↦ let c = complement nets (made ranges e w) old h in (c.0, c.1, not-odd nets ranges k e w old c.0 c.1 odd c.2)
    | inr even ↦ (h.0, h.1, not-even nets ranges k e w old h.0 h.1 even h.2)
  ]

  arms-long : (all : Arms) (last : Expression) (w : ℕ) → greatest (map (λ x. x.1) (of_arms (λ x a. a) (widths ranges) all)) ≤ w → own_width ranges last ≤ w → length (arms_at all last w).bits ≡ w
  arms-long all last w fits own = length-made ranges (Cond all last) w (omega (arith, fits, own))

  -- an operand that can be lowered at each width that is at least its own
  record CanLower (l : ℕ) (f : ℕ → MadeTerms) : Type 0 where
    pub some : 1 ≤ l
    pub long : IsLong l f
    pub lowers : (w : ℕ) (old : List BitStep) → l ≤ w → Lowers nets (f w) old

  word-lower : (op : WordOp) (l r : ℕ) (f h : ℕ → MadeTerms) → CanLower l f → CanLower r h
      → CanLower (operator_width op l r) (word_step word_made (record { width = l; at = f }) (op, record { width = r; at = h })).at
  word-lower op l r f h first second = record {
    some = some_width op l r first.some second.some;
    long = word-makes op l r f h first.long second.long;
    lowers = λ w old fits.
        let left : ℕ = first_at op l r w in
        let right : ℕ = second_at op l r w in
        let a : l ≤ left = first-fits op l r w fits in
        let b : r ≤ right = second-fits op l r w fits in
        let x = first.lowers left old a in
        let y = second.lowers right x.0 b in
        let long_a = first.long left a in
        let long_b = second.long right b in
        widen nets w (word_joined op (f left) (h right)) old (word-lowers nets op (f left) (h right) old x.0 y.0 x.1 y.1 x.2 y.2 (record {
          some_left = omega (arith, long_a, a, first.some);
          some_right = omega (arith, long_b, b, second.some);
          one = subst (λ i. HaveOneWidth op i (length (h right).bits)) (sym long_a) (subst (λ i. HaveOneWidth op left i) (sym long_b) (one-width op l r w));
        }));
  }
    where
      some_width : (op : WordOp) (l r : ℕ) → 1 ≤ l → 1 ≤ r → 1 ≤ operator_width op l r
      some_width words.Plus l r a b = omega (arith, a)
      some_width words.Minus l r a b = omega (arith, a)
      some_width words.Equal l r a b = omega arith
      some_width words.NotEqual l r a b = omega arith
      some_width words.Less l r a b = omega arith
      some_width words.LessEqual l r a b = omega arith
      some_width words.Greater l r a b = omega arith
      some_width words.GreaterEqual l r a b = omega arith
      some_width words.Left l r a b = a
      some_width words.Right l r a b = a
      some_width words.Both l r a b = omega arith
      some_width words.Either l r a b = omega arith

  mutual
    lowers : (e : Expression) (w : ℕ) (old : List BitStep) → AllByRecursion (IsFitIn m) (expressions_in e) → own_width ranges e ≤ w → Lowers nets (made ranges e w) old
    lowers (Net n) w old fit own = net-part n w 0 (range_width (ranges n)) old fit.0.right (omega arith)
    lowers (Bit n i) w old fit own = net-part n w (place_of (ranges n) i) 1 old fit.0.right.0 (omega (arith, part-fits (ranges n) i i fit.0.right.1))
    lowers (Part n i j) w old fit own = net-part n w (place_of (ranges n) i) (distance i j + 1) old fit.0.right.0 (part-fits (ranges n) i j fit.0.right.1)
    lowers (Sized bits) w old fit own = widen nets w (without_cells (map Const bits)) old (constants nets bits old)
    lowers (Plain n) w old fit own = widen nets w (without_cells (map Const (bits_of 32 n))) old (constants nets (bits_of 32 n) old)
    lowers (Not k e) w old fit own = not-made k e w old (lowers e w old fit.1 own)
    lowers (Chain e rest) w old fit own =
        let first : own_width ranges e ≤ w = omega (arith, own) in
        let h = lowers e w old (all-prefix (IsFitIn m) (expressions_in e) _ fit.1) first in
        operands-lower rest w (made ranges e w) old h.0 h.1 h.2 (length-made ranges e w first) (all-back (IsFitIn m) (expressions_in e) _ fit.1) (omega (arith, own))
    lowers (Fold op e) w old fit own =
        let n : ℕ = own_width ranges e in
        let a = made ranges e n in
        widen nets w (fold_joined op a) old (fold-lowers nets op a old (lowers e n old fit.1 (omega arith)) (omega (arith, length-made ranges e n (omega arith), fit.1.0.some)))
    lowers (Words e rest) w old fit own =
        let first = all-prefix (IsFitIn m) (expressions_in e) _ fit.1 in
        let can : CanLower (own_width ranges e) (made ranges e) = record { some = first.0.some; long = λ v h. length-made ranges e v h; lowers = λ v before h. lowers e v before first h } in
        (words-lower rest (own_width ranges e) (made ranges e) can (all-back (IsFitIn m) (expressions_in e) _ fit.1)).lowers w old own
    lowers (Cond all last) w old fit own =
        arms-lower all last w old (all-prefix (IsFitIn m) (flat_map (λ x. x.0 ++ x.1) (of_arms (λ x all. x ∷ all) gathering all)) (expressions_in last) fit.1)
        (omega (arith, fit.0.some, own)) (omega (arith, own)) (omega (arith, own))
        (lowers last w old (all-back (IsFitIn m) (flat_map (λ x. x.0 ++ x.1) (of_arms (λ x all. x ∷ all) gathering all)) (expressions_in last) fit.1) (omega (arith, own)))
    lowers (Concat all) w old fit own = widen nets w (beside all) old (parts-lower all old fit.1)
    lowers (Repeat k all) w old fit own =
        let h = copy nets k fit.0.right (beside all) old (parts-lower all old fit.1) in
        widen nets w _ old h

    operands-lower : (rest : Operands) (w : ℕ) (p : MadeTerms) (old now : List BitStep) (bits : List ℕ) → Adds nets p old now bits → length p.bits ≡ w
        → AllByRecursion (IsFitIn m) (flat_map (λ x. x.1) (of_operands (λ x all. x ∷ all) gathering rest)) → greatest (map (λ x. x.1) (of_operands (λ x a. a) (widths ranges) rest)) ≤ w → Lowers nets (folded w p rest) old
    operands-lower no_operand w p old now bits adds long fit own = (now, bits, adds)
    operands-lower (operand op e rest) w p old now bits adds long fit own =
        let width : own_width ranges e ≤ w = omega (arith, own) in
        let h = lowers e w now (all-prefix (IsFitIn m) (expressions_in e) _ fit) width in
        let here : length (made ranges e w).bits ≡ w = length-made ranges e w width in
        let g = operate nets op p (made ranges e w) old now h.0 bits h.1 adds h.2 (omega (arith, adds.long, long, here, h.2.long)) in
        operands-lower rest w (chained p (made ranges e w) (operated op p.bits (made ranges e w).bits)) old g.0 g.1 g.2 (length-operated op w p.bits (made ranges e w).bits long here)
        (all-back (IsFitIn m) (expressions_in e) _ fit) (omega (arith, own))

    words-lower : (rest : WordOperands) (l : ℕ) (f : ℕ → MadeTerms) → CanLower l f → AllByRecursion (IsFitIn m) (flat_map (λ x. x.1) (of_words (λ x all. x ∷ all) gathering rest))
        → CanLower (fold (λ n x. operator_width x.0 n x.1) l (of_words (λ x a. a) (widths ranges) rest)) (fold (word_step word_made) (record { width = l; at = f }) (of_words (made_seen ranges) (makes ranges) rest)).at
    words-lower no_word l f can fit = can
    words-lower (word op e rest) l f can fit =
        let r = own_width ranges e in
        let first = all-prefix (IsFitIn m) (expressions_in e) _ fit in
        let right : CanLower r (made ranges e) = record { some = first.0.some; long = λ v h. length-made ranges e v h; lowers = λ v before h. lowers e v before first h } in
        words-lower rest (operator_width op l r) (word_step word_made (record { width = l; at = f }) (op, made_seen ranges e (made ranges e))).at
        (word-lower op l r f (made ranges e) can right) (all-back (IsFitIn m) (expressions_in e) _ fit)

    arms-lower : (all : Arms) (last : Expression) (w : ℕ) (old : List BitStep) → AllByRecursion (IsFitIn m) (flat_map (λ x. x.0 ++ x.1) (of_arms (λ x all. x ∷ all) gathering all))
        → 1 ≤ w → greatest (map (λ x. x.1) (of_arms (λ x a. a) (widths ranges) all)) ≤ w → own_width ranges last ≤ w → Lowers nets (made ranges last w) old → Lowers nets (arms_at all last w) old
    arms-lower no_arm last w old fit some own final end = end
    arms-lower (arm c v rest) last w old fit some own final end =
        let both = all-prefix (IsFitIn m) (expressions_in c ++ expressions_in v) _ fit in
        let tested = all-prefix (IsFitIn m) (expressions_in c) (expressions_in v) both in
        let width : own_width ranges v ≤ w = omega (arith, own) in
        let less : greatest (map (λ x. x.1) (of_arms (λ x a. a) (widths ranges) rest)) ≤ w = omega (arith, own) in
        let others = arms-lower rest last w old (all-back (IsFitIn m) (expressions_in c ++ expressions_in v) _ fit) some less final end in
        let n : ℕ = own_width ranges c in
        let test = lowers c n others.0 tested (omega arith) in
        let a = any nets (made ranges c n) others.0 test (omega (arith, test.2.long, length-made ranges c n (omega arith), tested.0.some)) in
        let chosen = lowers v w a.0 (all-back (IsFitIn m) (expressions_in c) (expressions_in v) both) width in
        let long : length chosen.1 ≡ w = omega (arith, chosen.2.long, length-made ranges v w width) in
        choose nets (arms_at rest last w) (made ranges c n) (made ranges v w) old others.0 a.0 chosen.0 others.1 chosen.1 a.1 others.2 a.2 chosen.2
        (omega (arith, long, others.2.long, arms-long rest last w less final)) (omega (arith, some, long))

    parts-lower : (all : Parts) (old : List BitStep) → AllByRecursion (IsFitIn m) (flat_map (λ e. e) (of_parts (λ x all. x ∷ all) gathering all)) → Lowers nets (beside all) old
    parts-lower no_part old fit = (old, [], adds-nothing nets old)
    parts-lower (part e rest) old fit =
        let n : ℕ = own_width ranges e in
        let h = lowers e n old (all-prefix (IsFitIn m) (expressions_in e) _ fit) (omega arith) in
        let g = parts-lower rest h.0 (all-back (IsFitIn m) (expressions_in e) _ fit) in
        (g.0, h.1 ++ g.1, adds-beside nets (made ranges e n) (beside rest) old h.0 g.0 h.1 g.1 h.2 g.2)

pub lowerings_exist : LoweringsExist
lowerings_exist m e w fit own =
    let h = lowers m e w [] (recursion_from_All (IsFitIn m) (expressions_in e) fit) own in
    (h.0, h.1, is-lowered (nets_of m) (range_of m) e w h.0 h.1 own h.2)
