-- Every operator of which a bit of an expression is made is one of its cells.
use Rattle.std.proofs.Common.{◌≡◌, ◌⊎◌, ℕ, zero, suc, ◌+◌, Bool, true, false, if◌then◌else◌, List, [], ◌∷◌, ◌++◌, map, fold, reverse, replicate, drop, Contains, subst, inl, inr}
use Rattle.std.specs.List.{range_with_len}
use Rattle.std.proofs.lemmas.List.Elements.{Contains-append_left, Contains-append_right, Contains-append_cases}
use Rattle.bb_ast.specs.declared.expr.Op.{Op}
use Rattle.bb_ast.specs.declared.expr.Op.TheVariants as ops
use Rattle.bb_ast.specs.declared.operators.WordOp.{WordOp}
use Rattle.bb_ast.specs.declared.operators.FoldOp.{FoldOp}
use Rattle.bb_ast.specs.Syntax.{Expression, Net as NetOf, Bit, Part, Sized, Plain, Not as NotOf, Fold, Chain, Words, Cond, Concat, Repeat, Operands, no_operand, operand, WordOperands, no_word, word, Arms, no_arm, arm, Parts, no_part, part}
use Rattle.bb_ast.specs.Folds.{of_operands, of_words, of_arms, of_parts}
use Rattle.bb_bits.specs.Numbers.{bits_of}
use Rattle.bb_names.specs.Ranges.{distance, range_width, place_of}
use Rattle.bb_names.specs.Widths.{Ranges, own_width, Operand, first_at, second_at, word_step, words_at}
use Rattle.bb_expr.specs.Lists.{extended, copies, bitwise}
use Rattle.bb_expr.specs.Terms.{Term, Const, Net, Not, And, Or, Xor, Mux, terms}
use Rattle.bb_expr.specs.Cells.{MadeTerms, made, makes, net_terms, complement_terms, operated, chained, word_made, fold_made, any_from, any_bit, selected, arm_made, arms_made, part_bits, part_cells}
use Rattle.bb_word.specs.Folds.{is_odd, fold_circuit}
use Rattle.bb_word.specs.Words.{word_circuit}
use Rattle.bb_lemmas.proofs.Each.{each_reverse}
use Rattle.bb_word.specs.Laws.KeptLaws.{IsKept, kept_word, kept_fold}
use Rattle.bb_lemmas.proofs.Members.{contains_here, contains_there, contains_cases, none_in_nil}

-- each operator in a term is one of these cells
abbrev pub OpsIn : List Term → Term → Type 0
OpsIn cells (Const b) = Unit {0}
OpsIn cells (Net n i) = Unit {0}
OpsIn cells (Not a) = Contains cells (Not a) × OpsIn cells a
OpsIn cells (And a b) = Contains cells (And a b) × OpsIn cells a × OpsIn cells b
OpsIn cells (Or a b) = Contains cells (Or a b) × OpsIn cells a × OpsIn cells b
OpsIn cells (Xor a b) = Contains cells (Xor a b) × OpsIn cells a × OpsIn cells b
OpsIn cells (Mux c t e) = Contains cells (Mux c t e) × OpsIn cells c × OpsIn cells t × OpsIn cells e

abbrev pub Each : List Term → (Term → Type 0) → Type 0
Each bits P = (t : Term) → Contains bits t → P t

-- among more cells
pub ops_more : (cells more : List Term) → ((x : Term) → Contains cells x → Contains more x) → (t : Term) → OpsIn cells t → OpsIn more t
ops_more cells more sub (Const b) h = tt
ops_more cells more sub (Net n i) h = tt
ops_more cells more sub (Not a) h = (sub (Not a) h.0, ops_more cells more sub a h.1)
ops_more cells more sub (And a b) h = (sub (And a b) h.0, ops_more cells more sub a h.1, ops_more cells more sub b h.2)
ops_more cells more sub (Or a b) h = (sub (Or a b) h.0, ops_more cells more sub a h.1, ops_more cells more sub b h.2)
ops_more cells more sub (Xor a b) h = (sub (Xor a b) h.0, ops_more cells more sub a h.1, ops_more cells more sub b h.2)
ops_more cells more sub (Mux c t e) h = (sub (Mux c t e) h.0, ops_more cells more sub c h.1, ops_more cells more sub t h.2, ops_more cells more sub e h.3)

pub ops_left : (cells more : List Term) (t : Term) → OpsIn cells t → OpsIn (cells ++ more) t
ops_left cells more = ops_more cells (cells ++ more) (λ x has. Contains-append_left cells more x has)

pub ops_right : (cells more : List Term) (t : Term) → OpsIn more t → OpsIn (cells ++ more) t
ops_right cells more = ops_more more (cells ++ more) (λ x has. Contains-append_right cells more x has)

pub each_nil : (P : Term → Type 0) → Each [] P
each_nil P t has = absurd (none_in_nil t has)

pub each_cons : (P : Term → Type 0) (x : Term) (xs : List Term) → P x → Each xs P → Each (x ∷ xs) P
each_cons P x xs here rest t has = by (contains_cases x xs t has)
  where
    by : (x ≡ t) ⊎ Contains xs t → P t
    by (inl e) = subst P e here
    by (inr more) = rest t more

pub each_append : (P : Term → Type 0) (xs ys : List Term) → Each xs P → Each ys P → Each (xs ++ ys) P
each_append P xs ys first second t has = by (Contains-append_cases xs ys t has)
  where
    by : Contains xs t ⊎ Contains ys t → P t
    by (inl h) = first t h
    by (inr h) = second t h

pub each_replicate : (P : Term → Type 0) (n : ℕ) (x : Term) → P x → Each (replicate n x) P
each_replicate P zero x here = each_nil P
each_replicate P (suc n) x here = each_cons P x (replicate n x) here (each_replicate P n x here)

each_extended : (cells : List Term) (w : ℕ) (bits : List Term) → Each bits (OpsIn cells) → Each (extended (Const false) w bits) (OpsIn cells)
each_extended cells w bits all = each_append (OpsIn cells) _ bits (each_replicate (OpsIn cells) _ (Const false) tt) all

each_net : (cells : List Term) (n : List ℕ) (ks : List ℕ) → Each (map (Net n) ks) (OpsIn cells)
each_net cells n [] = each_nil (OpsIn cells)
each_net cells n (k ∷ ks) = each_cons (OpsIn cells) (Net n k) (map (Net n) ks) tt (each_net cells n ks)

each_const : (cells : List Term) (bits : List Bool) → Each (map Const bits) (OpsIn cells)
each_const cells [] = each_nil (OpsIn cells)
each_const cells (b ∷ bits) = each_cons (OpsIn cells) (Const b) (map Const bits) tt (each_const cells bits)

pub each_copies : (P : Term → Type 0) (k : ℕ) (bits : List Term) → Each bits P → Each (copies k bits) P
each_copies P zero bits all = each_nil P
each_copies P (suc k) bits all = each_append P bits (copies k bits) all (each_copies P k bits all)

pub each_drop : (P : Term → Type 0) (n : ℕ) (bits : List Term) → Each bits P → Each (drop n bits) P
each_drop P zero bits all = all
each_drop P (suc n) [] all = all
each_drop P (suc n) (b ∷ bits) all = each_drop P n bits (λ t has. all t (contains_there b bits t has))

abbrev pub Sub : List Term → List Term → Type 0
Sub xs ys = (t : Term) → Contains xs t → Contains ys t

-- complements of bits, which are cells
each_inverted : (cells : List Term) (bits : List Term) → Each bits (OpsIn cells) → Sub (complement_terms bits) cells → Each (complement_terms bits) (OpsIn cells)
each_inverted cells [] all sub = each_nil (OpsIn cells)
each_inverted cells (b ∷ bits) all sub = each_cons (OpsIn cells) (Not b) (complement_terms bits) (sub (Not b) (contains_here (Not b) (complement_terms bits)), all b (contains_here b bits))
    (each_inverted cells bits (λ t has. all t (contains_there b bits t has)) (λ t has. sub t (contains_there (Not b) (complement_terms bits) t has)))

-- operators on two lists of bits, which are cells
each_bitwise : (gate : Term → Term → Term) (cells : List Term) → ((a b : Term) → Contains cells (gate a b) → OpsIn cells a → OpsIn cells b → OpsIn cells (gate a b))
    → (xs ys : List Term) → Each xs (OpsIn cells) → Each ys (OpsIn cells) → Sub (bitwise gate xs ys) cells → Each (bitwise gate xs ys) (OpsIn cells)
each_bitwise gate cells op [] ys a b sub = each_nil (OpsIn cells)
each_bitwise gate cells op (x ∷ xs) [] a b sub = each_nil (OpsIn cells)
each_bitwise gate cells op (x ∷ xs) (y ∷ ys) a b sub = each_cons (OpsIn cells) (gate x y) (bitwise gate xs ys)
    (op x y (sub (gate x y) (contains_here (gate x y) (bitwise gate xs ys))) (a x (contains_here x xs)) (b y (contains_here y ys)))
    (each_bitwise gate cells op xs ys (λ t has. a t (contains_there x xs t has)) (λ t has. b t (contains_there y ys t has)) (λ t has. sub t (contains_there (gate x y) (bitwise gate xs ys) t has)))

each_operated : (op : Op) (cells : List Term) (xs ys : List Term) → Each xs (OpsIn cells) → Each ys (OpsIn cells) → Sub (operated op xs ys).cells cells → Each (operated op xs ys).bits (OpsIn cells)
each_operated ops.And cells xs ys a b sub = each_bitwise And cells (λ x y has p q. (has, p, q)) xs ys a b sub
each_operated ops.Or cells xs ys a b sub = each_bitwise Or cells (λ x y has p q. (has, p, q)) xs ys a b sub
each_operated ops.Xor cells xs ys a b sub = each_bitwise Xor cells (λ x y has p q. (has, p, q)) xs ys a b sub
each_operated ops.Xnor cells xs ys a b sub = each_inverted cells (bitwise Xor xs ys)
    (each_bitwise Xor cells (λ x y has p q. (has, p, q)) xs ys a b (λ t has. sub t (Contains-append_left (bitwise Xor xs ys) (complement_terms (bitwise Xor xs ys)) t has)))
    (λ t has. sub t (Contains-append_right (bitwise Xor xs ys) (complement_terms (bitwise Xor xs ys)) t has))

any_from_ops : (cells : List Term) (a : Term) (bits : List Term) → OpsIn cells a → Each bits (OpsIn cells) → Sub (any_from a bits).1 cells → OpsIn cells (any_from a bits).0
any_from_ops cells a [] first all sub = first
any_from_ops cells a (b ∷ bits) first all sub = any_from_ops cells (Or a b) bits (sub (Or a b) (contains_here (Or a b) (any_from (Or a b) bits).1), first, all b (contains_here b bits))
    (λ t has. all t (contains_there b bits t has)) (λ t has. sub t (contains_there (Or a b) (any_from (Or a b) bits).1 t has))

any_bit_ops : (cells : List Term) (bits : List Term) → Each bits (OpsIn cells) → Sub (any_bit bits).1 cells → OpsIn cells (any_bit bits).0
any_bit_ops cells [] all sub = tt
any_bit_ops cells (b ∷ bits) all sub = any_from_ops cells b bits (all b (contains_here b bits)) (λ t has. all t (contains_there b bits t has)) sub

each_selected : (cells : List Term) (c : Term) (ts es : List Term) → OpsIn cells c → Each ts (OpsIn cells) → Each es (OpsIn cells) → Sub (selected c ts es) cells → Each (selected c ts es) (OpsIn cells)
each_selected cells c [] es first a b sub = each_nil (OpsIn cells)
each_selected cells c (t ∷ ts) [] first a b sub = each_nil (OpsIn cells)
each_selected cells c (t ∷ ts) (e ∷ es) first a b sub = each_cons (OpsIn cells) (Mux c t e) (selected c ts es)
    (sub (Mux c t e) (contains_here (Mux c t e) (selected c ts es)), first, a t (contains_here t ts), b e (contains_here e es))
    (each_selected cells c ts es first (λ x has. a x (contains_there t ts x has)) (λ x has. b x (contains_there e es x has)) (λ x has. sub x (contains_there (Mux c t e) (selected c ts es) x has)))

-- the bits of what is made have their operators among its cells
abbrev pub IsClosed : MadeTerms → Type 0
IsClosed m = Each m.bits (OpsIn m.cells)

closed_inverted : (o : Bool) (x : MadeTerms) → IsClosed x → IsClosed (if o then record { bits = complement_terms x.bits; cells = x.cells ++ complement_terms x.bits } else x)
closed_inverted true x all = each_inverted (x.cells ++ complement_terms x.bits) x.bits (λ t has. ops_left x.cells (complement_terms x.bits) t (all t has)) (λ t has. Contains-append_right x.cells (complement_terms x.bits) t has)
closed_inverted false x all = all

closed_chained : (op : Op) (a b : MadeTerms) → IsClosed a → IsClosed b → IsClosed (chained a b (operated op a.bits b.bits))
closed_chained op a b first second = each_operated op (a.cells ++ b.cells ++ more) a.bits b.bits
    (λ t has. ops_left (a.cells ++ b.cells) more t (ops_left a.cells b.cells t (first t has)))
    (λ t has. ops_left (a.cells ++ b.cells) more t (ops_right a.cells b.cells t (second t has)))
    (λ t has. Contains-append_right (a.cells ++ b.cells) more t has)
  where
    more : List Term
    more = (operated op a.bits b.bits).cells

-- gates of such terms, where they are among the cells
ops_kept : (cells : List Term) → IsKept terms (OpsIn cells) cells
ops_kept cells = record {
  zero = tt;
  one = tt;
  inverse = λ a has p. (has, p);
  both = λ a b has p q. (has, p, q);
  either = λ a b has p q. (has, p, q);
  differ = λ a b has p q. (has, p, q);
  choice = λ c t e has p q r. (has, p, q, r);
}

closed_word : (op : WordOp) (m n : ℕ) (a b : MadeTerms) (w : ℕ) → IsClosed a → IsClosed b → IsClosed (word_made op m n a b w)
closed_word op m n a b w first second =
    let circuit = word_circuit terms op (reverse a.bits) (reverse b.bits) in
    let before = a.cells ++ b.cells in
    let all = before ++ circuit.cells in
    let left = each_reverse (OpsIn all) a.bits (λ t has. ops_left before circuit.cells t (ops_left a.cells b.cells t (first t has))) in
    let right = each_reverse (OpsIn all) b.bits (λ t has. ops_left before circuit.cells t (ops_right a.cells b.cells t (second t has))) in
    let kept = kept_word terms (OpsIn all) all (ops_kept all) op (reverse a.bits) (reverse b.bits) left right (λ t has. Contains-append_right before circuit.cells t has) in
    each_extended all w (reverse circuit.bits) (each_reverse (OpsIn all) circuit.bits kept.bits)

closed_fold : (op : FoldOp) (a : MadeTerms) (w : ℕ) → IsClosed a → IsClosed (fold_made op a w)
closed_fold op a w first =
    let circuit = fold_circuit terms op (reverse a.bits) in
    let all = a.cells ++ circuit.cells in
    let operand = each_reverse (OpsIn all) a.bits (λ t has. ops_left a.cells circuit.cells t (first t has)) in
    let kept = kept_fold terms (OpsIn all) all (ops_kept all) op (reverse a.bits) operand (λ t has. Contains-append_right a.cells circuit.cells t has) in
    each_extended all w (reverse circuit.bits) (each_reverse (OpsIn all) circuit.bits kept.bits)

closed_arm : (c t e : MadeTerms) → IsClosed c → IsClosed t → IsClosed e → IsClosed (arm_made c t e)
closed_arm c t e first second third =
    let any = any_bit c.bits in
    let last = selected any.0 t.bits e.bits in
    let one = c.cells ++ any.1 in
    let two = one ++ t.cells in
    let three = two ++ e.cells in
    let up : (x : Term) → OpsIn one x → OpsIn (three ++ last) x = λ x h. ops_left three last x (ops_left two e.cells x (ops_left one t.cells x h)) in
    each_selected (three ++ last) any.0 t.bits e.bits
    (up any.0 (any_bit_ops one c.bits (λ x has. ops_left c.cells any.1 x (first x has)) (λ x has. Contains-append_right c.cells any.1 x has)))
    (λ x has. ops_left three last x (ops_left two e.cells x (ops_right one t.cells x (second x has))))
    (λ x has. ops_left three last x (ops_right two e.cells x (third x has)))
    (λ x has. Contains-append_right three last x has)

abbrev made_seen : Ranges → Expression → (ℕ → MadeTerms) → Operand MadeTerms
made_seen ranges e a = record { width = own_width ranges e; at = a }

mutual
  pub closed : (ranges : Ranges) (e : Expression) (w : ℕ) → IsClosed (made ranges e w)
  closed ranges (NetOf n) w = each_extended [] w _ (each_net [] n (range_with_len 0 (range_width (ranges n))))
  closed ranges (Bit n i) w = each_extended [] w (net_terms n (place_of (ranges n) i) 1) (each_net [] n (range_with_len (place_of (ranges n) i) 1))
  closed ranges (Part n i j) w = each_extended [] w _ (each_net [] n (range_with_len (place_of (ranges n) i) (distance i j + 1)))
  closed ranges (Sized bits) w = each_extended [] w _ (each_const [] bits)
  closed ranges (Plain n) w = each_extended [] w (map Const (bits_of 32 n)) (each_const [] (bits_of 32 n))
  closed ranges (NotOf k e) w = closed_inverted (is_odd k) (made ranges e w) (closed ranges e w)
  closed ranges (Fold op e) w = closed_fold op (made ranges e (own_width ranges e)) w (closed ranges e (own_width ranges e))
  closed ranges (Chain e rest) w = closed_chain ranges rest w (made ranges e w) (closed ranges e w)
  closed ranges (Words e rest) w = closed_words ranges rest (made_seen ranges e (made ranges e)) (λ v. closed ranges e v) w
  closed ranges (Cond all last) w = closed_arms ranges all w last (closed ranges last w)
  closed ranges (Concat all) w = each_extended (part_cells (of_parts (made_seen ranges) (makes ranges) all)) w _ (closed_parts ranges all)
  closed ranges (Repeat k all) w = each_extended (part_cells (of_parts (made_seen ranges) (makes ranges) all)) w _ (each_copies (OpsIn (part_cells (of_parts (made_seen ranges) (makes ranges) all))) k _ (closed_parts ranges all))

  closed_chain : (ranges : Ranges) (rest : Operands) (w : ℕ) (m : MadeTerms) → IsClosed m
      → IsClosed (fold (λ a x. let b = x.1.at w in chained a b (operated x.0 a.bits b.bits)) m (of_operands (made_seen ranges) (makes ranges) rest))
  closed_chain ranges no_operand w m all = all
  closed_chain ranges (operand op e rest) w m all = closed_chain ranges rest w (chained m (made ranges e w) (operated op m.bits (made ranges e w).bits)) (closed_chained op m (made ranges e w) all (closed ranges e w))

  closed_words : (ranges : Ranges) (rest : WordOperands) (left : Operand MadeTerms) → ((w : ℕ) → IsClosed (left.at w)) → (w : ℕ)
      → IsClosed (words_at word_made left (of_words (made_seen ranges) (makes ranges) rest) w)
  closed_words ranges no_word left all w = all w
  closed_words ranges (word op e rest) left all w =
      closed_words ranges rest (word_step word_made left (op, made_seen ranges e (made ranges e)))
      (λ v.
      let l = first_at op left.width (own_width ranges e) v in
      let r = second_at op left.width (own_width ranges e) v in
      closed_word op l r (left.at l) (made ranges e r) v (all l) (closed ranges e r))
      w

  closed_arms : (ranges : Ranges) (all : Arms) (w : ℕ) (last : Expression) → IsClosed (made ranges last w)
      → IsClosed (arms_made (of_arms (made_seen ranges) (makes ranges) all) (made_seen ranges last (made ranges last)) w)
  closed_arms ranges no_arm w last same = same
  closed_arms ranges (arm c e rest) w last same = closed_arm (made ranges c (own_width ranges c)) (made ranges e w) _ (closed ranges c (own_width ranges c)) (closed ranges e w) (closed_arms ranges rest w last same)

  closed_parts : (ranges : Ranges) (all : Parts) → Each (part_bits (of_parts (made_seen ranges) (makes ranges) all)) (OpsIn (part_cells (of_parts (made_seen ranges) (makes ranges) all)))
  closed_parts ranges no_part = each_nil (OpsIn [])
  closed_parts ranges (part e rest) =
      let here = made ranges e (own_width ranges e) in
      let cells = part_cells (of_parts (made_seen ranges) (makes ranges) rest) in
      each_append (OpsIn (here.cells ++ cells)) here.bits _ (λ t has. ops_left here.cells cells t (closed ranges e (own_width ranges e) t has)) (λ t has. ops_right here.cells cells t (closed_parts ranges rest t has))
