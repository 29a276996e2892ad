-- A wider context adds zeros on the left where nothing above complements, adds or shifts.
use Rattle.std.proofs.Common.{◌≡◌, ℕ, zero, suc, ◌+◌, ◌-◌, ◌*◌, ◌≤◌, Bool, true, false, List, [], ◌∷◌, ◌++◌, length, map, refl, ap, ap₂, ◌∙◌, arith}
use Rattle.std.specs.Prelude.{max, replicate, fold, ◌&&◌, if◌then◌else◌}
use Rattle.std.specs.List.{flat_map, list_any, list_all}
use Rattle.bb_lemmas.proofs.Bits.{and_left, and_right}
use Rattle.bb_ast.specs.declared.expr.Op.{Op}
use Rattle.bb_ast.specs.declared.expr.Op.TheVariants as ops
use Rattle.bb_ast.specs.Syntax.{Expression, Net, Bit, Part, Sized, Plain, Not, Fold, Chain, Words, Cond, Concat, Repeat, Operands, no_operand, operand, WordOperands, no_word, word, Arms, no_arm, arm}
use Rattle.bb_ast.specs.Folds.{of_operands, of_words, of_arms, of_parts}
use Rattle.bb_bits.specs.Numbers.{bits_of}
use Rattle.bb_names.specs.Ranges.{distance, range_width, place_of}
use Rattle.bb_ast.specs.declared.operators.WordOp.{WordOp}
use Rattle.bb_ast.specs.declared.operators.WordOp.TheVariants as words
use Rattle.bb_word.specs.Folds.{fold_bit}
use Rattle.bb_word.specs.Meanings.{word_bits}
use Rattle.bb_names.specs.Widths.{Ranges, Operand, greatest, own_width, widths, alone, word_step}
use Rattle.bb_expr.specs.Lists.{extended, copies, bitwise}
use Rattle.bb_expr.specs.Values.{Bits, value, values, net_bits, op_bit, chosen_arm, word_value}
use Rattle.bb_expr.specs.Laws.Steady.{keeps_zero, gives_one_bit, steadying, is_steady}
use Rattle.bb_expr.specs.Laws.{WiderAddsZeros}
use Rattle.bb_expr.proofs.ValueLemmas.{length-net_bits, length-bits_of, length-copies, parts-length, seen, words-width}

pub replicate-append : (k n : ℕ) (xs : List Bool) → replicate (k + n) false ++ xs ≡ replicate k false ++ (replicate n false ++ xs)
replicate-append zero n xs = ap (λ m. replicate m false ++ xs) (omega arith)
replicate-append (suc k) n xs = ap (λ m. replicate m false ++ xs) (suc-first k n) ∙ ap (λ r. false ∷ r) (replicate-append k n xs)
  where
    suc-first : (k n : ℕ) → suc k + n ≡ suc (k + n)
    suc-first k n = omega arith

pub wider-extended : (k w n : ℕ) (bits : List Bool) → length bits ≡ n → n ≤ w → extended false (k + w) bits ≡ replicate k false ++ extended false w bits
wider-extended k w n bits long fits = ap (λ m. replicate m false ++ bits) (sums k w (length bits) (omega (arith, long, fits))) ∙ replicate-append k (w - length bits) bits
  where
    sums : (k w n : ℕ) → n ≤ w → (k + w) - n ≡ k + (w - n)
    sums k w n fits = omega (arith, fits)

pub wider-bitwise : (op : Op) → keeps_zero op ≡ true → (k : ℕ) (xs ys : List Bool)
    → bitwise (op_bit op) (replicate k false ++ xs) (replicate k false ++ ys) ≡ replicate k false ++ bitwise (op_bit op) xs ys
wider-bitwise op keeps zero xs ys = refl
wider-bitwise op keeps (suc k) xs ys = ap₂ (λ a r. a ∷ r) (zero-bit op keeps) (wider-bitwise op keeps k xs ys)
  where
    zero-bit : (op : Op) → keeps_zero op ≡ true → op_bit op false false ≡ false
    zero-bit ops.And keeps = refl
    zero-bit ops.Or keeps = refl
    zero-bit ops.Xor keeps = refl
    zero-bit ops.Xnor keeps = grind (arith, keeps)

if-wider : (b : Bool) (k : ℕ) (x y u v : List Bool) → x ≡ replicate k false ++ u → y ≡ replicate k false ++ v → (if b then x else y) ≡ replicate k false ++ (if b then u else v)
if-wider true k x y u v first second = first
if-wider false k x y u v first second = second

-- an operand whose value only grows by zeros
abbrev pub IsSteady : Operand (List Bool) → Type 0
IsSteady x = (w k : ℕ) → x.width ≤ w → x.at (k + w) ≡ replicate k false ++ x.at w

one-wider : (op : WordOp) (a b : List Bool) → length (word_bits op a b) ≡ 1 → (w k : ℕ) → 1 ≤ w → extended false (k + w) (word_bits op a b) ≡ replicate k false ++ extended false w (word_bits op a b)
one-wider op a b one w k fits = wider-extended k w 1 (word_bits op a b) one fits

-- an operator that gives one bit gives the same bit in each context
word-steady : (op : WordOp) (left right : Operand (List Bool)) → gives_one_bit op ≡ true → IsSteady (word_step word_value left (op, right))
word-steady words.Plus left right one w k fits = grind (arith, one)
word-steady words.Minus left right one w k fits = grind (arith, one)
word-steady words.Left left right one w k fits = grind (arith, one)
word-steady words.Right left right one w k fits = grind (arith, one)
word-steady words.Equal left right one w k fits = one-wider words.Equal (left.at (max left.width right.width)) (right.at (max left.width right.width)) refl w k fits
word-steady words.NotEqual left right one w k fits = one-wider words.NotEqual (left.at (max left.width right.width)) (right.at (max left.width right.width)) refl w k fits
word-steady words.Less left right one w k fits = one-wider words.Less (left.at (max left.width right.width)) (right.at (max left.width right.width)) refl w k fits
word-steady words.LessEqual left right one w k fits = one-wider words.LessEqual (left.at (max left.width right.width)) (right.at (max left.width right.width)) refl w k fits
word-steady words.Greater left right one w k fits = one-wider words.Greater (left.at (max left.width right.width)) (right.at (max left.width right.width)) refl w k fits
word-steady words.GreaterEqual left right one w k fits = one-wider words.GreaterEqual (left.at (max left.width right.width)) (right.at (max left.width right.width)) refl w k fits
word-steady words.Both left right one w k fits = one-wider words.Both (left.at left.width) (right.at right.width) refl w k fits
word-steady words.Either left right one w k fits = one-wider words.Either (left.at left.width) (right.at right.width) refl w k fits

mutual
  pub wider : (ranges : Ranges) (env : Bits) (e : Expression) (w k : ℕ) → own_width ranges e ≤ w → is_steady e ≡ true → value ranges env e (k + w) ≡ replicate k false ++ value ranges env e w
  wider ranges env (Net n) w k fits steady = wider-extended k w _ (net_bits env n 0 (range_width (ranges n))) (length-net_bits env n 0 (range_width (ranges n))) fits
  wider ranges env (Bit n i) w k fits steady = wider-extended k w _ (net_bits env n (place_of (ranges n) i) 1) (length-net_bits env n (place_of (ranges n) i) 1) fits
  wider ranges env (Part n i j) w k fits steady =
      wider-extended k w _ (net_bits env n (place_of (ranges n) i) (distance i j + 1)) (length-net_bits env n (place_of (ranges n) i) (distance i j + 1)) fits
  wider ranges env (Sized bits) w k fits steady = wider-extended k w _ bits refl fits
  wider ranges env (Plain n) w k fits steady = wider-extended k w _ (bits_of 32 n) (length-bits_of 32 n) fits
  wider ranges env (Not m e) w k fits steady = grind (arith, steady)
  wider ranges env (Chain e rest) w k fits steady =
      wider-chain ranges env rest w k _ _ (wider ranges env e w k (omega (arith, fits)) (and_left (is_steady e) _ steady)) (omega (arith, fits)) (and_right (is_steady e) _ steady)
  wider ranges env (Fold op e) w k fits steady = wider-extended k w 1 (fold_bit op (value ranges env e (own_width ranges e)) ∷ []) refl fits
  wider ranges env (Words e rest) w k fits steady =
      wider-words ranges env rest (seen ranges e (value ranges env e)) (is_steady e) (λ here v j h. wider ranges env e v j h here) steady w k
      (omega (arith, words-width ranges word_value (values ranges env) rest (seen ranges e (value ranges env e)), fits))
  wider ranges env (Cond all last) w k fits steady =
      wider-arms ranges env all w k last (omega (arith, fits)) (and_left _ (is_steady last) steady) (wider ranges env last w k (omega (arith, fits)) (and_right _ (is_steady last) steady))
  wider ranges env (Concat all) w k fits steady = wider-extended k w _ (flat_map alone (of_parts (seen ranges) (values ranges env) all)) (parts-length ranges env all) fits
  wider ranges env (Repeat m all) w k fits steady =
      wider-extended k w _ (copies m (flat_map alone (of_parts (seen ranges) (values ranges env) all))) (length-copies m _ ∙ ap (λ n. m * n) (parts-length ranges env all)) fits

  wider-chain : (ranges : Ranges) (env : Bits) (rest : Operands) (w k : ℕ) (wide bits : List Bool) → wide ≡ replicate k false ++ bits
      → greatest (map (λ x. x.1) (of_operands (λ x a. a) (widths ranges) rest)) ≤ w
      → list_all (λ x. keeps_zero x.0 && x.1) (of_operands (λ x a. a) steadying rest) ≡ true
      → fold (λ b x. bitwise (op_bit x.0) b (x.1.at (k + w))) wide (of_operands (seen ranges) (values ranges env) rest)
      ≡ replicate k false ++ fold (λ b x. bitwise (op_bit x.0) b (x.1.at w)) bits (of_operands (seen ranges) (values ranges env) rest)
  wider-chain ranges env no_operand w k wide bits same fits steady = same
  wider-chain ranges env (operand op e rest) w k wide bits same fits steady =
      let here : (keeps_zero op && is_steady e) ≡ true = and_left _ _ steady in
      wider-chain ranges env rest w k _ _
      (ap₂ (bitwise (op_bit op)) same (wider ranges env e w k (omega (arith, fits)) (and_right (keeps_zero op) _ here)) ∙ wider-bitwise op (and_left (keeps_zero op) _ here) k bits (value ranges env e w))
      (omega (arith, fits)) (and_right (keeps_zero op && is_steady e) _ steady)

  wider-words : (ranges : Ranges) (env : Bits) (rest : WordOperands) (left : Operand (List Bool)) (s : Bool) → (s ≡ true → IsSteady left)
      → fold (λ l x. gives_one_bit x.0) s (of_words (λ x a. a) steadying rest) ≡ true → IsSteady (fold (word_step word_value) left (of_words (seen ranges) (values ranges env) rest))
  wider-words ranges env no_word left s here steady = here steady
  wider-words ranges env (word op e rest) left s here steady =
      wider-words ranges env rest (word_step word_value left (op, seen ranges e (value ranges env e))) (gives_one_bit op) (word-steady op left (seen ranges e (value ranges env e))) steady

  wider-arms : (ranges : Ranges) (env : Bits) (all : Arms) (w k : ℕ) (last : Expression)
      → greatest (map (λ x. x.1) (of_arms (λ x a. a) (widths ranges) all)) ≤ w
      → list_all (λ x. x.1) (of_arms (λ x a. a) steadying all) ≡ true
      → value ranges env last (k + w) ≡ replicate k false ++ value ranges env last w
      → chosen_arm (of_arms (seen ranges) (values ranges env) all) (seen ranges last (value ranges env last)) (k + w)
      ≡ replicate k false ++ chosen_arm (of_arms (seen ranges) (values ranges env) all) (seen ranges last (value ranges env last)) w
  wider-arms ranges env no_arm w k last fits steady same = same
  wider-arms ranges env (arm c e rest) w k last fits steady same =
      if-wider (list_any (λ b. b) (value ranges env c (own_width ranges c))) k _ _ _ _
      (wider ranges env e w k (omega (arith, fits)) (and_left (is_steady e) _ steady))
      (wider-arms ranges env rest w k last (omega (arith, fits)) (and_right (is_steady e) _ steady) same)

pub wider_adds_zeros : WiderAddsZeros
wider_adds_zeros ranges env e w k fits steady = wider ranges env e w k fits steady
