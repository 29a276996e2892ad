-- An expression that is well formed, and at whose sites nothing is at fault, is fit, with all that is in it.
use Rattle.std.proofs.Common.{◌≡◌, ℕ, zero, suc, ◌+◌, ◌*◌, ◌≤◌, Bool, true, false, List, [], ◌∷◌, ◌++◌, Option, Some, None, refl, arith}
use Rattle.std.specs.Prelude.{Contains, codes, ◌==◌, if◌then◌else◌, sum, fold}
use Rattle.std.specs.List.{AllByRecursion, flat_map}
use Rattle.std.proofs.lemmas.Bool.Decides.{nat_tests}
use Rattle.std.proofs.lemmas.List.Sums.{sum_by-cons}
use Rattle.bb_lemmas.proofs.Members.{left_nil, right_nil}
use Rattle.bb_lemmas.proofs.Tests.{not_lt_from_test}
use Rattle.bb_lemmas.proofs.Bits.{neither_right, not_false}
use Rattle.bb_ast.specs.declared.module.Range.{Range}
use Rattle.bb_ast.specs.Syntax.{Expression, Net, Bit, Part, Sized, Plain, Not, Fold, Chain, Words, Cond, Concat, Repeat, Operands, no_operand, operand, WordOperands, no_word, word, Arms, no_arm, arm, Parts, no_part, part, PlainModule}
use Rattle.bb_ast.specs.Levels.{level_of, AreOfLevel}
use Rattle.bb_ast.specs.declared.operators.WordOp.{WordOp}
use Rattle.bb_ast.specs.declared.operators.WordOp.TheVariants as words
use Rattle.bb_ast.specs.Folds.{of_operands, of_words, of_arms, of_parts}
use Rattle.bb_ast.specs.Inside.Formed.{IsFormedExpression, AreFormedOperands, AreFormedWords, AreFormedArms, AreFormedParts}
use Rattle.bb_names.specs.Ranges.{range_width, has_bits}
use Rattle.bb_names.specs.Widths.{widths, own_width, operator_width}
use Rattle.bb_names.specs.Declarations.{is_instance, range_of}
use Rattle.bb_names.specs.Sites.{Use, Read, Driven, Stored, Site, Number, Whole, Used, with_inside, part_sites, inside, is_plain, sites_in}
use Rattle.bb_names.specs.Faults.{reported_if, wrong_role, widest, is_no_copy}
use Rattle.bb_names.specs.Nets.{net_names}
use Rattle.bb_expr.specs.Inside.Occurrences.{gathering, expressions_in}
use Rattle.bb_expr.specs.Inside.Fit.{IsRightIn, IsFitIn}
use Rattle.bb_expr.proofs.KnownNames.{known-there}
use Rattle.bb_expr.proofs.ListLemmas.{all-prefix, all-back, all-join}
use Rattle.bb_expr.proofs.SiteLemmas.{IsClean, AreClean}

reported-not : (b : Bool) (n : List ℕ) → reported_if b n ≡ [] → b ≡ false
reported-not true n h = cc
reported-not false n h = refl

some-copy : (k : ℕ) → (k == 0) ≡ false → 1 ≤ k
some-copy k h = grind (arith, nat_tests, h)

pub range-some : (r : Option Range) → 1 ≤ range_width r
range-some None = omega arith
range-some (Some r) = omega arith

product-some : (k n : ℕ) → 1 ≤ k → 1 ≤ n → 1 ≤ k * n
product-some (suc k) n a b = grind (arith, b)
product-some zero n a b = absurd (omega (arith, a))

pub sum-cons : (x : ℕ) (xs : List ℕ) → sum (x ∷ xs) ≡ x + sum xs
sum-cons x xs = sum_by-cons (λ (n : ℕ). n) x xs

sum-some : (x : ℕ) (xs : List ℕ) → 1 ≤ x → 1 ≤ sum (x ∷ xs)
sum-some x xs some = omega (arith, some, sum-cons x xs)

-- an operator on words has a bit where its operands have
pub operator-some : (op : WordOp) (l r : ℕ) → 1 ≤ l → 1 ≤ r → 1 ≤ operator_width op l r
operator-some words.Plus l r a b = omega (arith, a)
operator-some words.Minus l r a b = omega (arith, a)
operator-some words.Equal l r a b = omega arith
operator-some words.NotEqual l r a b = omega arith
operator-some words.Less l r a b = omega arith
operator-some words.LessEqual l r a b = omega arith
operator-some words.Greater l r a b = omega arith
operator-some words.GreaterEqual l r a b = omega arith
operator-some words.Left l r a b = a
operator-some words.Right l r a b = a
operator-some words.Both l r a b = omega arith
operator-some words.Either l r a b = omega arith

-- well-formed operators on words are of one level
formed-level : (level : ℕ) (rest : WordOperands) → AreFormedWords level rest → AreOfLevel level rest
formed-level level no_word formed = tt
formed-level level (word op e rest) formed = (formed.0, formed-level level rest formed.2)

-- the sites of arms
abbrev arm_sites : Use → Arms → List Site
arm_sites how rest = flat_map (λ x. with_inside x.0 ++ with_inside x.1) (of_arms (λ x sites. (x, sites)) (inside how) rest)

module _ (text : List PlainModule) (m : PlainModule) where
  plain-use : (how : Use) (n : List ℕ) (bits : Option (ℕ × ℕ)) → wrong_role text m (Used how n bits) ≡ [] → is_instance m n ≡ false
  plain-use Read n bits h = reported-not _ n h
  plain-use Driven n bits h = neither_right _ (is_instance m n) (reported-not _ n h)
  plain-use Stored n bits h = neither_right _ (is_instance m n) (reported-not _ n h)

  net-used : (how : Use) (n : List ℕ) (bits : Option (ℕ × ℕ)) → IsClean text m (Used how n bits) → Contains (net_names m) n
  net-used how n bits clean = known-there m n (not_false _ (reported-not _ n clean.unknown)) (plain-use how n bits clean.role)

  bits-used : (how : Use) (n : List ℕ) (i j : ℕ) → IsClean text m (Used how n (Some (i, j))) → has_bits (range_of m n) i j ≡ true
  bits-used how n i j clean = not_false _ (reported-not _ n clean.select)

  copies-used : (k : ℕ) (all : Parts) → IsClean text m (Whole (Repeat k all)) → 1 ≤ k
  copies-used k all clean = some-copy k (reported-not _ _ (left_nil (reported_if (k == 0) (codes "repeat")) _ clean.width))

  fit : (e : Expression) → IsRightIn m e → 1 ≤ own_width (range_of m) e → IsClean text m (Whole e) → IsFitIn m e
  fit e right some clean = record {
    right = right;
    some = some;
    bounded = not_lt_from_test widest (own_width (range_of m) e) (reported-not _ (codes "wide") (right_nil (reported_if (is_no_copy e) (codes "repeat")) _ clean.width));
  }

  part-clean : (b : Bool) (sites : List Site) → AreClean text m (if b then Number ∷ sites else sites) → AreClean text m sites
  part-clean true sites h = h.1
  part-clean false sites h = h

  mutual
    pub fits : (how : Use) (e : Expression) → IsFormedExpression e → AreClean text m (sites_in how e) → AllByRecursion (IsFitIn m) (expressions_in e)
    fits how (Net n) formed clean = (fit (Net n) (net-used how n None clean.1.0) (range-some (range_of m n)) clean.0, tt)
    fits how (Bit n i) formed clean = (fit (Bit n i) (net-used how n (Some (i, i)) clean.1.0, bits-used how n i i clean.1.0) (omega arith) clean.0, tt)
    fits how (Part n i j) formed clean = (fit (Part n i j) (net-used how n (Some (i, j)) clean.1.0, bits-used how n i j clean.1.0) (omega arith) clean.0, tt)
    fits how (Sized bits) formed clean = (fit (Sized bits) tt formed.0 clean.0, tt)
    fits how (Plain n) formed clean = (fit (Plain n) tt (omega arith) clean.0, tt)
    fits how (Not k e) formed clean =
        let inner = fits how e formed.1 clean.1 in
        (fit (Not k e) tt inner.0.some clean.0, inner)
    fits how (Chain e no_operand) formed clean = absurd formed
    fits how (Chain e (operand op x rest)) formed clean =
        let first = fits how e formed.0 (all-prefix (IsClean text m) (sites_in how e) _ clean.1) in
        let others = all-back (IsClean text m) (sites_in how e) _ clean.1 in
        let second = fits how x formed.1 (all-prefix (IsClean text m) (sites_in how x) _ others) in
        let last = operands-fit how rest formed.2 (all-back (IsClean text m) (sites_in how x) _ others) in (
          fit (Chain e (operand op x rest)) tt (omega (arith, first.0.some)) clean.0,
          all-join (IsFitIn m) (expressions_in e) _ first (all-join (IsFitIn m) (expressions_in x) _ second last),
        )
    fits how (Fold op e) formed clean =
        let inner = fits how e formed clean.1 in
        (fit (Fold op e) tt (omega arith) clean.0, inner)
    fits how (Words e no_word) formed clean = absurd formed
    fits how (Words e (word op x rest)) formed clean =
        let first = fits how e formed.0 (all-prefix (IsClean text m) (sites_in how e) _ clean.1) in
        let others = all-back (IsClean text m) (sites_in how e) _ clean.1 in
        let second = fits how x formed.1 (all-prefix (IsClean text m) (sites_in how x) _ others) in
        let last = words-fit how (level_of op) rest formed.2 (all-back (IsClean text m) (sites_in how x) _ others) in (
          fit (Words e (word op x rest)) (formed-level (level_of op) rest formed.2)
              (last.1 (operator_width op (own_width (range_of m) e) (own_width (range_of m) x)) (operator-some op (own_width (range_of m) e) (own_width (range_of m) x) first.0.some second.0.some)) clean.0,
          all-join (IsFitIn m) (expressions_in e) _ first (all-join (IsFitIn m) (expressions_in x) _ second last.0),
        )
    fits how (Cond no_arm last) formed clean = absurd formed
    fits how (Cond (arm c v rest) last) formed clean =
        let arms = all-prefix (IsClean text m) ((sites_in how c ++ sites_in how v) ++ arm_sites how rest) (sites_in how last) clean.1 in
        let first = all-prefix (IsClean text m) (sites_in how c ++ sites_in how v) (arm_sites how rest) arms in
        let condition = fits how c formed.0 (all-prefix (IsClean text m) (sites_in how c) (sites_in how v) first) in
        let chosen = fits how v formed.1 (all-back (IsClean text m) (sites_in how c) (sites_in how v) first) in
        let others = arms-fit how rest formed.2 (all-back (IsClean text m) (sites_in how c ++ sites_in how v) _ arms) in
        let final = fits how last formed.3 (all-back (IsClean text m) ((sites_in how c ++ sites_in how v) ++ arm_sites how rest) (sites_in how last) clean.1) in (
          fit (Cond (arm c v rest) last) tt (omega (arith, final.0.some)) clean.0,
          all-join (IsFitIn m) ((expressions_in c ++ expressions_in v) ++ flat_map (λ x. x.0 ++ x.1) (of_arms (λ x all. x ∷ all) gathering rest)) (expressions_in last)
              (all-join (IsFitIn m) (expressions_in c ++ expressions_in v) _ (all-join (IsFitIn m) (expressions_in c) (expressions_in v) condition chosen) others) final,
        )
    fits how (Concat no_part) formed clean = absurd formed
    fits how (Concat (part e rest)) formed clean =
        let first = fits how e formed.0 (part-clean (is_plain e) (sites_in how e) (all-prefix (IsClean text m) (if is_plain e then Number ∷ sites_in how e else sites_in how e) _ clean.1)) in
        let others = parts-fit how rest formed.1 (all-back (IsClean text m) (if is_plain e then Number ∷ sites_in how e else sites_in how e) _ clean.1) in
        (fit (Concat (part e rest)) tt (sum-some (own_width (range_of m) e) (of_parts (λ x a. a) (widths (range_of m)) rest) first.0.some) clean.0, all-join (IsFitIn m) (expressions_in e) _ first others)
    fits how (Repeat k no_part) formed clean = absurd formed
    fits how (Repeat k (part e rest)) formed clean =
        let first = fits how e formed.1 (part-clean (is_plain e) (sites_in how e) (all-prefix (IsClean text m) (if is_plain e then Number ∷ sites_in how e else sites_in how e) _ clean.1)) in
        let others = parts-fit how rest formed.2 (all-back (IsClean text m) (if is_plain e then Number ∷ sites_in how e else sites_in how e) _ clean.1) in
        let some : 1 ≤ k = copies-used k (part e rest) clean.0 in (
          fit (Repeat k (part e rest)) some (product-some k (sum (own_width (range_of m) e ∷ of_parts (λ x a. a) (widths (range_of m)) rest)) some (sum-some (own_width (range_of m) e) (of_parts (λ x a. a) (widths (range_of m)) rest) first.0.some)) clean.0,
          all-join (IsFitIn m) (expressions_in e) _ first others,
        )

    operands-fit : (how : Use) (rest : Operands) → AreFormedOperands rest → AreClean text m (flat_map (λ x. with_inside x.1) (of_operands (λ x sites. (x, sites)) (inside how) rest))
        → AllByRecursion (IsFitIn m) (flat_map (λ x. x.1) (of_operands (λ x all. x ∷ all) gathering rest))
    operands-fit how no_operand formed clean = tt
    operands-fit how (operand op e rest) formed clean =
        all-join (IsFitIn m) (expressions_in e) _ (fits how e formed.0 (all-prefix (IsClean text m) (sites_in how e) _ clean))
        (operands-fit how rest formed.1 (all-back (IsClean text m) (sites_in how e) _ clean))

    words-fit : (how : Use) (level : ℕ) (rest : WordOperands) → AreFormedWords level rest → AreClean text m (flat_map (λ x. with_inside x.1) (of_words (λ x sites. (x, sites)) (inside how) rest))
        → AllByRecursion (IsFitIn m) (flat_map (λ x. x.1) (of_words (λ x all. x ∷ all) gathering rest))
        × ((l : ℕ) → 1 ≤ l → 1 ≤ fold (λ left x. operator_width x.0 left x.1) l (of_words (λ x a. a) (widths (range_of m)) rest))
    words-fit how level no_word formed clean = (tt, λ l some. some)
    words-fit how level (word op e rest) formed clean =
        let first = fits how e formed.1 (all-prefix (IsClean text m) (sites_in how e) _ clean) in
        let others = words-fit how level rest formed.2 (all-back (IsClean text m) (sites_in how e) _ clean) in (
          all-join (IsFitIn m) (expressions_in e) _ first others.0,
          λ l some. others.1 (operator_width op l (own_width (range_of m) e)) (operator-some op l (own_width (range_of m) e) some first.0.some),
        )

    arms-fit : (how : Use) (rest : Arms) → AreFormedArms rest → AreClean text m (flat_map (λ x. with_inside x.0 ++ with_inside x.1) (of_arms (λ x sites. (x, sites)) (inside how) rest))
        → AllByRecursion (IsFitIn m) (flat_map (λ x. x.0 ++ x.1) (of_arms (λ x all. x ∷ all) gathering rest))
    arms-fit how no_arm formed clean = tt
    arms-fit how (arm c v rest) formed clean =
        let first = all-prefix (IsClean text m) (sites_in how c ++ sites_in how v) (arm_sites how rest) clean in
        all-join (IsFitIn m) (expressions_in c ++ expressions_in v) _
        (all-join (IsFitIn m) (expressions_in c) (expressions_in v) (fits how c formed.0 (all-prefix (IsClean text m) (sites_in how c) (sites_in how v) first))
        (fits how v formed.1 (all-back (IsClean text m) (sites_in how c) (sites_in how v) first)))
        (arms-fit how rest formed.2 (all-back (IsClean text m) (sites_in how c ++ sites_in how v) _ clean))

    parts-fit : (how : Use) (rest : Parts) → AreFormedParts rest → AreClean text m (flat_map part_sites (of_parts (λ x sites. (x, sites)) (inside how) rest))
        → AllByRecursion (IsFitIn m) (flat_map (λ e. e) (of_parts (λ x all. x ∷ all) gathering rest))
    parts-fit how no_part formed clean = tt
    parts-fit how (part e rest) formed clean =
        all-join (IsFitIn m) (expressions_in e) _
        (fits how e formed.0 (part-clean (is_plain e) (sites_in how e) (all-prefix (IsClean text m) (if is_plain e then Number ∷ sites_in how e else sites_in how e) _ clean)))
        (parts-fit how rest formed.1 (all-back (IsClean text m) (if is_plain e then Number ∷ sites_in how e else sites_in how e) _ clean))
