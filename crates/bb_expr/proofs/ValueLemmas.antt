-- A value has as many bits as its context has.
use Rattle.std.proofs.Common.{◌≡◌, ℕ, zero, suc, ◌+◌, ◌*◌, ◌≤◌, Bool, true, false, List, [], ◌∷◌, length, map, refl, ap, ◌∙◌, arith, length-append}
use Rattle.std.proofs.lemmas.Grind.{common_steps}
use Rattle.std.proofs.lemmas.List.{length-map, length-replicate}
use Rattle.std.specs.Prelude.{sum, fold, if◌then◌else◌}
use Rattle.std.specs.List.{flat_map, list_any}
use Rattle.bb_lemmas.proofs.Ranges.{length-range}
use Rattle.bb_ast.specs.Syntax.{Expression, Net, Bit, Part, Sized, Plain, Not, Fold, Chain, Words, Cond, Concat, Repeat, Operands, no_operand, operand, WordOperands, no_word, word, Arms, no_arm, arm, Parts, no_part, part}
use Rattle.bb_ast.specs.Folds.{fold_by, of_operands, of_words, of_arms, of_parts}
use Rattle.bb_bits.specs.Numbers.{bits_of}
use Rattle.bb_names.specs.Ranges.{distance, range_width, place_of}
use Rattle.bb_ast.specs.Folds.{Cases}
use Rattle.bb_ast.specs.declared.operators.WordOp.{WordOp}
use Rattle.bb_ast.specs.declared.operators.WordOp.TheVariants as ops
use Rattle.bb_names.specs.Widths.{Ranges, greatest, own_width, widths, Operand, alone, operator_width, first_at, second_at, word_step}
use Rattle.bb_word.specs.Folds.{fold_bit}
use Rattle.bb_word.specs.Meanings.{word_bits, word_number, word_width}
use Rattle.bb_word.specs.Words.{HaveOneWidth}
use Rattle.bb_expr.specs.Lists.{extended, copies, bitwise}
use Rattle.bb_expr.specs.Values.{Bits, value, values, net_bits, op_bit, chosen_arm, complemented, word_value}
use Rattle.bb_expr.specs.Laws.{ValuesHaveWidth}

pub length-extended : {A : Type 0} (null : A) (w : ℕ) (bits : List A) (n : ℕ) → length bits ≡ n → n ≤ w → length (extended null w bits) ≡ w
length-extended null w bits n long fits = rw (length-append, length-replicate) (omega (arith, long, fits))

pub length-bitwise : {A : Type 0} (op : A → A → A) (w : ℕ) (xs ys : List A) → length xs ≡ w → length ys ≡ w → length (bitwise op xs ys) ≡ w
length-bitwise op w [] ys a b = a
length-bitwise op w (x ∷ xs) [] a b = grind (arith, a, b)
length-bitwise op zero (x ∷ xs) (y ∷ ys) a b = grind (arith, a, b)
length-bitwise op (suc w) (x ∷ xs) (y ∷ ys) a b = grind (arith, length-bitwise op w xs ys (grind (arith, a)) (grind (arith, b)))

pub length-copies : {A : Type 0} (k : ℕ) (xs : List A) → length (copies k xs) ≡ k * length xs
length-copies zero xs = grind arith
length-copies (suc k) xs = rw (length-append, length-copies k xs) (grind arith)

pub length-bits_of : (n x : ℕ) → length (bits_of n x) ≡ n
length-bits_of zero x = refl
length-bits_of (suc n) x = ap suc (length-bits_of n _)

pub length-net_bits : (env : Bits) (n : List ℕ) (place count : ℕ) → length (net_bits env n place count) ≡ count
length-net_bits env n place count = rw (length-map, length-range) refl

-- what an operand of a value is seen as
abbrev pub seen : Ranges → Expression → (ℕ → List Bool) → Operand (List Bool)
seen ranges e a = record { width = own_width ranges e; at = a }

-- each operand has the width at w
abbrev pub Wide : Ranges → Bits → ℕ → Expression → Type 0
Wide ranges env w e = length (value ranges env e w) ≡ w

-- either of two lists of a length
if-length : {A : Type 0} (w : ℕ) (b : Bool) (xs ys : List A) → length xs ≡ w → length ys ≡ w → length (if b then xs else ys) ≡ w
if-length w true xs ys x y = x
if-length w false xs ys x y = y

pub sum-step : (a b x : ℕ) (xs : List ℕ) → a ≡ x → b ≡ sum xs → a + b ≡ sum (x ∷ xs)
sum-step a b x xs first rest = grind (arith, common_steps, first, rest)

-- an operator takes operands at their own widths or at greater ones, and gives no more bits than its context has
pub first-fits : (op : WordOp) (l r w : ℕ) → operator_width op l r ≤ w → l ≤ first_at op l r w
first-fits ops.Plus l r w fits = omega (arith, fits)
first-fits ops.Minus l r w fits = omega (arith, fits)
first-fits ops.Equal l r w fits = omega arith
first-fits ops.NotEqual l r w fits = omega arith
first-fits ops.Less l r w fits = omega arith
first-fits ops.LessEqual l r w fits = omega arith
first-fits ops.Greater l r w fits = omega arith
first-fits ops.GreaterEqual l r w fits = omega arith
first-fits ops.Left l r w fits = fits
first-fits ops.Right l r w fits = fits
first-fits ops.Both l r w fits = omega arith
first-fits ops.Either l r w fits = omega arith

pub second-fits : (op : WordOp) (l r w : ℕ) → operator_width op l r ≤ w → r ≤ second_at op l r w
second-fits ops.Plus l r w fits = omega (arith, fits)
second-fits ops.Minus l r w fits = omega (arith, fits)
second-fits ops.Equal l r w fits = omega arith
second-fits ops.NotEqual l r w fits = omega arith
second-fits ops.Less l r w fits = omega arith
second-fits ops.LessEqual l r w fits = omega arith
second-fits ops.Greater l r w fits = omega arith
second-fits ops.GreaterEqual l r w fits = omega arith
second-fits ops.Left l r w fits = omega arith
second-fits ops.Right l r w fits = omega arith
second-fits ops.Both l r w fits = omega arith
second-fits ops.Either l r w fits = omega arith

pub result-fits : (op : WordOp) (l r w : ℕ) → operator_width op l r ≤ w → word_width op (first_at op l r w) ≤ w
result-fits ops.Plus l r w fits = omega arith
result-fits ops.Minus l r w fits = omega arith
result-fits ops.Equal l r w fits = fits
result-fits ops.NotEqual l r w fits = fits
result-fits ops.Less l r w fits = fits
result-fits ops.LessEqual l r w fits = fits
result-fits ops.Greater l r w fits = fits
result-fits ops.GreaterEqual l r w fits = fits
result-fits ops.Left l r w fits = omega arith
result-fits ops.Right l r w fits = omega arith
result-fits ops.Both l r w fits = fits
result-fits ops.Either l r w fits = fits

pub one-width : (op : WordOp) (l r w : ℕ) → HaveOneWidth op (first_at op l r w) (second_at op l r w)
one-width ops.Plus l r w = refl
one-width ops.Minus l r w = refl
one-width ops.Equal l r w = refl
one-width ops.NotEqual l r w = refl
one-width ops.Less l r w = refl
one-width ops.LessEqual l r w = refl
one-width ops.Greater l r w = refl
one-width ops.GreaterEqual l r w = refl
one-width ops.Left l r w = tt
one-width ops.Right l r w = tt
one-width ops.Both l r w = tt
one-width ops.Either l r w = tt

-- what a level of operators on words has as width
pub words-width : {A : Type 0} (ranges : Ranges) (gives : WordOp → ℕ → ℕ → A → A → ℕ → A) (cases : Cases (Operand A) (ℕ → A)) (rest : WordOperands) (left : Operand A)
    → (fold (word_step gives) left (of_words (λ e a. record { width = own_width ranges e; at = a }) cases rest)).width ≡ fold (λ l x. operator_width x.0 l x.1) left.width (of_words (λ x a. a) (widths ranges) rest)
words-width ranges gives cases no_word left = refl
words-width ranges gives cases (word op e rest) left = words-width ranges gives cases rest (word_step gives left (op, record { width = own_width ranges e; at = fold_by (λ e a. record { width = own_width ranges e; at = a }) cases e }))

-- an operand whose value has as many bits as its context
abbrev pub IsWide : Operand (List Bool) → Type 0
IsWide x = (w : ℕ) → x.width ≤ w → length (x.at w) ≡ w

pub word-wide : (op : WordOp) (left right : Operand (List Bool)) → IsWide left → IsWide right → IsWide (word_step word_value left (op, right))
word-wide op left right first second w fits =
    let m = first_at op left.width right.width w in
    let a = left.at m in
    let b = right.at (second_at op left.width right.width w) in
    length-extended false w (word_bits op a b) (word_width op m)
    (length-bits_of (word_width op (length a)) (word_number op a b) ∙ ap (word_width op) (first m (first-fits op left.width right.width w fits))) (result-fits op left.width right.width w fits)

mutual
  pub value-length : (ranges : Ranges) (env : Bits) (e : Expression) (w : ℕ) → own_width ranges e ≤ w → Wide ranges env w e
  value-length ranges env (Net n) w fits = length-extended false w (net_bits env n 0 (range_width (ranges n))) _ (length-net_bits env n 0 (range_width (ranges n))) fits
  value-length ranges env (Bit n i) w fits = length-extended false w (net_bits env n (place_of (ranges n) i) 1) _ (length-net_bits env n (place_of (ranges n) i) 1) fits
  value-length ranges env (Part n i j) w fits =
      length-extended false w (net_bits env n (place_of (ranges n) i) (distance i j + 1)) _ (length-net_bits env n (place_of (ranges n) i) (distance i j + 1)) fits
  value-length ranges env (Sized bits) w fits = length-extended false w bits _ refl fits
  value-length ranges env (Plain n) w fits = length-extended false w (bits_of 32 n) _ (length-bits_of 32 n) fits
  value-length ranges env (Not k e) w fits = length-map (value ranges env e w) (complemented k) ∙ value-length ranges env e w fits
  value-length ranges env (Chain e rest) w fits = chain-length ranges env rest w (value ranges env e w) (value-length ranges env e w (omega (arith, fits))) (omega (arith, fits))
  value-length ranges env (Fold op e) w fits = length-extended false w (fold_bit op (value ranges env e (own_width ranges e)) ∷ []) 1 refl fits
  value-length ranges env (Words e rest) w fits =
      words-length ranges env rest (seen ranges e (value ranges env e)) (λ v h. value-length ranges env e v h) w
      (omega (arith, words-width ranges word_value (values ranges env) rest (seen ranges e (value ranges env e)), fits))
  value-length ranges env (Cond all last) w fits = arms-length ranges env all w last (omega (arith, fits)) (value-length ranges env last w (omega (arith, fits)))
  value-length ranges env (Concat all) w fits = length-extended false w (flat_map alone (of_parts (seen ranges) (values ranges env) all)) _ (parts-length ranges env all) fits
  value-length ranges env (Repeat k all) w fits =
      length-extended false w (copies k (flat_map alone (of_parts (seen ranges) (values ranges env) all))) _ (length-copies k _ ∙ ap (λ n. k * n) (parts-length ranges env all)) fits

  chain-length : (ranges : Ranges) (env : Bits) (rest : Operands) (w : ℕ) (bits : List Bool) → length bits ≡ w
      → greatest (map (λ x. x.1) (of_operands (λ x a. a) (widths ranges) rest)) ≤ w
      → length (fold (λ b x. bitwise (op_bit x.0) b (x.1.at w)) bits (of_operands (seen ranges) (values ranges env) rest)) ≡ w
  chain-length ranges env no_operand w bits wide fits = wide
  chain-length ranges env (operand op e rest) w bits wide fits =
      chain-length ranges env rest w (bitwise (op_bit op) bits (value ranges env e w)) (length-bitwise (op_bit op) w bits _ wide (value-length ranges env e w (omega (arith, fits)))) (omega (arith, fits))

  pub words-length : (ranges : Ranges) (env : Bits) (rest : WordOperands) (left : Operand (List Bool)) → IsWide left → IsWide (fold (word_step word_value) left (of_words (seen ranges) (values ranges env) rest))
  words-length ranges env no_word left wide = wide
  words-length ranges env (word op e rest) left wide =
      words-length ranges env rest (word_step word_value left (op, seen ranges e (value ranges env e)))
      (word-wide op left (seen ranges e (value ranges env e)) wide (λ v h. value-length ranges env e v h))

  pub arms-length : (ranges : Ranges) (env : Bits) (all : Arms) (w : ℕ) (last : Expression)
      → greatest (map (λ x. x.1) (of_arms (λ x a. a) (widths ranges) all)) ≤ w → Wide ranges env w last
      → length (chosen_arm (of_arms (seen ranges) (values ranges env) all) (seen ranges last (value ranges env last)) w) ≡ w
  arms-length ranges env no_arm w last fits wide = wide
  arms-length ranges env (arm c e rest) w last fits wide =
      if-length w (list_any (λ b. b) (value ranges env c (own_width ranges c))) (value ranges env e w) (chosen_arm (of_arms (seen ranges) (values ranges env) rest) (seen ranges last (value ranges env last)) w) (value-length ranges env e w (omega (arith, fits))) (arms-length ranges env rest w last (omega (arith, fits)) wide)

  pub parts-length : (ranges : Ranges) (env : Bits) (all : Parts)
      → length (flat_map alone (of_parts (seen ranges) (values ranges env) all)) ≡ sum (of_parts (λ x a. a) (widths ranges) all)
  parts-length ranges env no_part = refl
  parts-length ranges env (part e rest) =
      length-append (value ranges env e (own_width ranges e)) (flat_map alone (of_parts (seen ranges) (values ranges env) rest))
      ∙ sum-step _ _ _ (of_parts (λ x a. a) (widths ranges) rest) (value-length ranges env e (own_width ranges e) (omega arith)) (parts-length ranges env rest)

pub values_have_width : ValuesHaveWidth
values_have_width ranges env e w fits = value-length ranges env e w fits
