-- The operators on words spell the numbers that they mean.
use Rattle.std.proofs.Common.{◌≡◌, ◌∙◌, ◌+◌, ◌*◌, ◌-◌, ◌%◌, ◌/◌, ◌^◌, Bool, true, false, not, ◌&&◌, ◌||◌, List, [], ◌∷◌, ◌++◌, length, reverse, refl, sym, ap, arith}
use Rattle.std.specs.Prelude.{nat_eq, nat_lt}
use Rattle.std.specs.List.{list_any}
use Rattle.std.proofs.Math.Path.{ap₂}
use Rattle.std.proofs.lemmas.List.{length-reverse, reverse-reverse}
use Rattle.bb_bits.specs.Numbers.{number_of}
use Rattle.bb_ast.specs.declared.operators.WordOp.{WordOp}
use Rattle.bb_ast.specs.declared.operators.WordOp.TheVariants as ops
use Rattle.bb_word.specs.Gates.{bits, Made}
use Rattle.bb_word.specs.Circuits.{sum, difference, equal, inverted, less, shifted, up, down, truths, folded, joined_all, complements}
use Rattle.bb_word.specs.Words.{HaveOneWidth}
use Rattle.bb_word.specs.Meanings.{truth, word_number, word_width}
use Rattle.bb_word.specs.Laws.Numbers.{word_result}
use Rattle.bb_word.proofs.NumberLemmas.{number_up, number_of-reverse, Doubles}
use Rattle.bb_word.proofs.SumLemmas.{sum_mod, difference_mod, length-sum, length-difference}
use Rattle.bb_word.proofs.OrderLemmas.{less_number, equal_number}
use Rattle.bb_word.proofs.FoldLemmas.{all_any}
use Rattle.bb_word.proofs.ShiftLemmas.{shifted_up, shifted_down}

number_one : (b : Bool) → number_of (b ∷ []) ≡ truth b
number_one true = omega arith
number_one false = refl

-- one bit, from the bits of what a circuit makes
one_bit : (made : List Bool) (b : Bool) → made ≡ b ∷ [] → number_of (reverse made) ≡ truth b
one_bit made b is = ap (λ l. number_of (reverse l)) is ∙ number_one b

one_not : (made : Made Bool) (b : Bool) → made.bits ≡ b ∷ [] → number_of (reverse (inverted bits made).bits) ≡ truth (not b)
one_not made b is = one_bit (inverted bits made).bits (not b) (ap (complements bits) is)

length_one : (made : List Bool) (b : Bool) → made ≡ b ∷ [] → length (reverse made) ≡ 1
length_one made b is = length-reverse made ∙ ap length is

some_bit : (a : List Bool) → (folded ◌||◌ false (reverse a)).bits ≡ list_any (λ x. x) a ∷ []
some_bit a = ap (λ l. (joined_all ◌||◌ false l).bits) (reverse-reverse a) ∙ all_any a

truths_bit : (op : Bool → Bool → Bool) (a b : List Bool) → (truths bits op (reverse a) (reverse b)).bits ≡ op (list_any (λ x. x) a) (list_any (λ x. x) b) ∷ []
truths_bit op a b = ap (λ l. (joined_all op false l).bits) (ap₂ (λ p q. p ++ q) (some_bit a) (some_bit b))

module _ (doubles : Doubles) where
  number_up-reverse : (a : List Bool) → number_up (reverse a) ≡ number_of a
  number_up-reverse a = sym (number_of-reverse doubles (reverse a)) ∙ ap number_of (reverse-reverse a)

  less_bit : (a b : List Bool) → length a ≡ length b → (less bits false (reverse a) (reverse b)).bits ≡ nat_lt (number_of a) (number_of b) ∷ []
  less_bit a b same =
      let long : length (reverse a) ≡ length (reverse b) = omega (arith, length-reverse a, length-reverse b, same) in
      let right : number_up (reverse b) + 0 ≡ number_of b = omega (arith, number_up-reverse b) in
      less_number false (reverse a) (reverse b) long ∙ ap (λ t. t ∷ []) (ap₂ nat_lt (number_up-reverse a) right)

  equal_bit : (a b : List Bool) → length a ≡ length b → (equal bits (reverse a) (reverse b)).bits ≡ nat_eq (number_of a) (number_of b) ∷ []
  equal_bit a b same =
      let long : length (reverse a) ≡ length (reverse b) = omega (arith, length-reverse a, length-reverse b, same) in
      equal_number (reverse a) (reverse b) long ∙ ap (λ t. t ∷ []) (ap₂ nat_eq (number_up-reverse a) (number_up-reverse b))

  sum_word : (a b : List Bool) → length a ≡ length b → number_of (word_result ops.Plus a b) ≡ word_number ops.Plus a b
  sum_word a b same =
      let long : length (reverse a) ≡ length (reverse b) = omega (arith, length-reverse a, length-reverse b, same) in
      let numbers : number_up (reverse a) + number_up (reverse b) + 0 ≡ number_of a + number_of b = omega (arith, number_up-reverse a, number_up-reverse b) in
      number_of-reverse doubles (sum bits false (reverse a) (reverse b)).bits ∙ sum_mod false (reverse a) (reverse b) long ∙ ap₂ (λ k n. k % 2 ^ n) numbers (length-reverse a)

  difference_word : (a b : List Bool) → length a ≡ length b → number_of (word_result ops.Minus a b) ≡ word_number ops.Minus a b
  difference_word a b same =
      let long : length (reverse a) ≡ length (reverse b) = omega (arith, length-reverse a, length-reverse b, same) in
      let numbers = ap₂ (λ x n. x + 2 ^ n - number_up (reverse b)) (number_up-reverse a) (length-reverse a) ∙ ap (λ y. number_of a + 2 ^ length a - y) (number_up-reverse b) in
      number_of-reverse doubles (difference bits (reverse a) (reverse b)).bits ∙ difference_mod (reverse a) (reverse b) long ∙ ap₂ (λ k n. k % 2 ^ n) numbers (length-reverse a)

  left_word : (a b : List Bool) → number_of (word_result ops.Left a b) ≡ word_number ops.Left a b
  left_word a b =
      let amount : 1 * number_up (reverse b) ≡ number_of b = omega (arith, number_up-reverse b) in
      number_of-reverse doubles (shifted bits (up false) 1 (reverse b) (reverse a)).bits ∙ (shifted_up 1 (reverse b) (reverse a)).0 ∙ ap₂ (λ x n. (x * 2 ^ (1 * number_up (reverse b))) % 2 ^ n) (number_up-reverse a) (length-reverse a) ∙ ap (λ k. (number_of a * 2 ^ k) % 2 ^ length a) amount

  right_word : (a b : List Bool) → number_of (word_result ops.Right a b) ≡ word_number ops.Right a b
  right_word a b =
      let amount : 1 * number_up (reverse b) ≡ number_of b = omega (arith, number_up-reverse b) in
      number_of-reverse doubles (shifted bits (down false) 1 (reverse b) (reverse a)).bits ∙ (shifted_down 1 (reverse b) (reverse a)).0 ∙ ap₂ (λ x k. x / 2 ^ k) (number_up-reverse a) amount

  pub word_is : (op : WordOp) (a b : List Bool) → HaveOneWidth op (length a) (length b) → number_of (word_result op a b) ≡ word_number op a b
  word_is ops.Plus a b w = sum_word a b w
  word_is ops.Minus a b w = difference_word a b w
  word_is ops.Equal a b w = one_bit (equal bits (reverse a) (reverse b)).bits _ (equal_bit a b w)
  word_is ops.NotEqual a b w = one_not (equal bits (reverse a) (reverse b)) _ (equal_bit a b w)
  word_is ops.Less a b w = one_bit (less bits false (reverse a) (reverse b)).bits _ (less_bit a b w)
  word_is ops.LessEqual a b w = one_not (less bits false (reverse b) (reverse a)) _ (less_bit b a (sym w))
  word_is ops.Greater a b w = one_bit (less bits false (reverse b) (reverse a)).bits _ (less_bit b a (sym w))
  word_is ops.GreaterEqual a b w = one_not (less bits false (reverse a) (reverse b)) _ (less_bit a b w)
  word_is ops.Left a b w = left_word a b
  word_is ops.Right a b w = right_word a b
  word_is ops.Both a b w = one_bit (truths bits ◌&&◌ (reverse a) (reverse b)).bits _ (truths_bit ◌&&◌ a b)
  word_is ops.Either a b w = one_bit (truths bits ◌||◌ (reverse a) (reverse b)).bits _ (truths_bit ◌||◌ a b)

  pub word_long : (op : WordOp) (a b : List Bool) → HaveOneWidth op (length a) (length b) → length (word_result op a b) ≡ word_width op (length a)
  word_long ops.Plus a b w = length-reverse (sum bits false (reverse a) (reverse b)).bits ∙ length-sum false (reverse a) (reverse b) (length-reverse a ∙ w ∙ sym (length-reverse b)) ∙ length-reverse a
  word_long ops.Minus a b w = length-reverse (difference bits (reverse a) (reverse b)).bits ∙ length-difference (reverse a) (reverse b) (length-reverse a ∙ w ∙ sym (length-reverse b)) ∙ length-reverse a
  word_long ops.Equal a b w = length_one (equal bits (reverse a) (reverse b)).bits _ (equal_bit a b w)
  word_long ops.NotEqual a b w = length_one (inverted bits (equal bits (reverse a) (reverse b))).bits _ (ap (complements bits) (equal_bit a b w))
  word_long ops.Less a b w = length_one (less bits false (reverse a) (reverse b)).bits _ (less_bit a b w)
  word_long ops.LessEqual a b w = length_one (inverted bits (less bits false (reverse b) (reverse a))).bits _ (ap (complements bits) (less_bit b a (sym w)))
  word_long ops.Greater a b w = length_one (less bits false (reverse b) (reverse a)).bits _ (less_bit b a (sym w))
  word_long ops.GreaterEqual a b w = length_one (inverted bits (less bits false (reverse a) (reverse b))).bits _ (ap (complements bits) (less_bit a b w))
  word_long ops.Left a b w = length-reverse (shifted bits (up false) 1 (reverse b) (reverse a)).bits ∙ (shifted_up 1 (reverse b) (reverse a)).1 ∙ length-reverse a
  word_long ops.Right a b w = length-reverse (shifted bits (down false) 1 (reverse b) (reverse a)).bits ∙ (shifted_down 1 (reverse b) (reverse a)).1 ∙ length-reverse a
  word_long ops.Both a b w = length_one (truths bits ◌&&◌ (reverse a) (reverse b)).bits _ (truths_bit ◌&&◌ a b)
  word_long ops.Either a b w = length_one (truths bits ◌||◌ (reverse a) (reverse b)).bits _ (truths_bit ◌||◌ a b)
