-- The bits that the cells of an expression make have its value.
use Rattle.std.proofs.Common.{◌≡◌, ℕ, zero, suc, ◌+◌, ◌≤◌, Bool, true, false, List, [], ◌∷◌, ◌++◌, length, map, refl, sym, ap, ap₂, ◌∙◌, subst, arith}
use Rattle.std.proofs.lemmas.List.{length-map}
use Rattle.std.specs.Prelude.{fold, reverse, not, ◌||◌, if◌then◌else◌}
use Rattle.std.specs.List.{flat_map, list_any, range_with_len}
use Rattle.bb_lemmas.proofs.Bits.{or_assoc}
use Rattle.bb_lemmas.proofs.Maps.{reverse-map, replicate-map, or-false}
use Rattle.bb_ast.specs.declared.expr.Op.{Op}
use Rattle.bb_ast.specs.declared.expr.Op.TheVariants as ops
use Rattle.bb_ast.specs.Syntax.{Expression, Net, Bit, Part, Sized, Plain, Not, Fold, Chain, Words, Cond, Concat, Repeat, Operands, no_operand, operand, WordOperands, no_word, word, Arms, no_arm, arm, Parts, no_part, part}
use Rattle.bb_ast.specs.Folds.{of_operands, of_words, of_arms, of_parts}
use Rattle.bb_bits.specs.Numbers.{bits_of}
use Rattle.bb_names.specs.Ranges.{distance, range_width, place_of}
use Rattle.bb_ast.specs.declared.operators.WordOp.{WordOp}
use Rattle.bb_ast.specs.declared.operators.FoldOp.{FoldOp}
use Rattle.bb_names.specs.Widths.{Ranges, greatest, own_width, widths, Operand, alone, operator_width, first_at, second_at, word_step}
use Rattle.bb_word.specs.Gates.{bits as bit_gates, IsMap, Made as Circuit}
use Rattle.bb_word.specs.Folds.{fold_bit, fold_circuit}
use Rattle.bb_word.specs.Meanings.{word_bits}
use Rattle.bb_word.specs.Words.{HaveOneWidth, word_circuit}
use Rattle.bb_word.specs.Laws.MapLaws.{word_map, fold_map}
use Rattle.bb_word.specs.Laws.Numbers.{WordsHaveBits, FoldsGiveBits}
use Rattle.bb_expr.specs.Lists.{extended, copies, bitwise}
use Rattle.bb_expr.specs.Values.{Bits, value, values, op_bit, chosen_arm, complemented, word_value}
use Rattle.bb_expr.specs.Terms.{Term, Const, Net as NetTerm, And, Or, Xor, term_bit, terms}
use Rattle.bb_expr.specs.Cells.{MadeTerms, made, makes, net_terms, complement_terms, operated, chained, any_from, any_bit, selected, arms_made, circuit_made, word_made, fold_made}
use Rattle.bb_word.specs.Folds.{is_odd}
use Rattle.bb_expr.specs.Laws.{MadeHasValue}
use Rattle.bb_expr.proofs.ValueLemmas.{value-length, arms-length, seen, IsWide, word-wide, first-fits, second-fits, one-width}

pub map-append : {A B : Type 0} (f : A → B) (xs ys : List A) → map f (xs ++ ys) ≡ map f xs ++ map f ys
map-append f [] ys = refl
map-append f (x ∷ xs) ys = ap (λ r. f x ∷ r) (map-append f xs ys)

pub map-extended : (env : Bits) (w : ℕ) (bits : List Term) → map (term_bit env) (extended (Const false) w bits) ≡ extended false w (map (term_bit env) bits)
map-extended env w bits = rw (map-append, replicate-map, length-map) refl

pub map-net_terms : (env : Bits) (n : List ℕ) (places : List ℕ) → map (term_bit env) (map (NetTerm n) places) ≡ map (env n) places
map-net_terms env n [] = refl
map-net_terms env n (i ∷ is) = ap (λ r. env n i ∷ r) (map-net_terms env n is)

pub map-constants : (env : Bits) (bits : List Bool) → map (term_bit env) (map Const bits) ≡ bits
map-constants env [] = refl
map-constants env (b ∷ bits) = ap (λ r. b ∷ r) (map-constants env bits)

pub map-copies : (env : Bits) (k : ℕ) (bits : List Term) → map (term_bit env) (copies k bits) ≡ copies k (map (term_bit env) bits)
map-copies env zero bits = refl
map-copies env (suc k) bits = map-append (term_bit env) bits (copies k bits) ∙ ap (λ r. map (term_bit env) bits ++ r) (map-copies env k bits)

pub map-bitwise : (env : Bits) (gate : Term → Term → Term) (op : Bool → Bool → Bool) → ((a b : Term) → term_bit env (gate a b) ≡ op (term_bit env a) (term_bit env b))
    → (xs ys : List Term) → map (term_bit env) (bitwise gate xs ys) ≡ bitwise op (map (term_bit env) xs) (map (term_bit env) ys)
map-bitwise env gate op same [] ys = refl
map-bitwise env gate op same (x ∷ xs) [] = refl
map-bitwise env gate op same (x ∷ xs) (y ∷ ys) = ap₂ (λ a r. a ∷ r) (same x y) (map-bitwise env gate op same xs ys)

xnor-inverted : (env : Bits) (xs ys : List Term) → map (term_bit env) (complement_terms (bitwise Xor xs ys)) ≡ bitwise (op_bit ops.Xnor) (map (term_bit env) xs) (map (term_bit env) ys)
xnor-inverted env [] ys = refl
xnor-inverted env (x ∷ xs) [] = refl
xnor-inverted env (x ∷ xs) (y ∷ ys) = ap₂ (λ a r. a ∷ r) (xnor-bit (term_bit env x) (term_bit env y)) (xnor-inverted env xs ys)
  where
    xnor-bit : (a b : Bool) → not (if a then not b else b) ≡ (if a then b else not b)
    xnor-bit true true = refl
    xnor-bit true false = refl
    xnor-bit false b = refl

pub map-operated : (env : Bits) (op : Op) (xs ys : List Term) → map (term_bit env) (operated op xs ys).bits ≡ bitwise (op_bit op) (map (term_bit env) xs) (map (term_bit env) ys)
map-operated env ops.And xs ys = map-bitwise env And (op_bit ops.And) (λ a b. refl) xs ys
map-operated env ops.Or xs ys = map-bitwise env Or (op_bit ops.Or) (λ a b. refl) xs ys
map-operated env ops.Xor xs ys = map-bitwise env Xor (op_bit ops.Xor) (λ a b. refl) xs ys
map-operated env ops.Xnor xs ys = xnor-inverted env xs ys

not-if : (o b : Bool) → not (if o then not b else b) ≡ (if not o then not b else b)
not-if true true = refl
not-if true false = refl
not-if false b = refl

-- complementing so many times is complementing once or not at all
pub complemented-odd : (k : ℕ) (b : Bool) → complemented k b ≡ (if is_odd k then not b else b)
complemented-odd zero b = refl
complemented-odd (suc k) b = ap not (complemented-odd k b) ∙ not-if (is_odd k) b

map-complements : (env : Bits) (f : Bool → Bool) → ((b : Bool) → f b ≡ not b) → (bits : List Term) → map (term_bit env) (complement_terms bits) ≡ map f (map (term_bit env) bits)
map-complements env f same [] = refl
map-complements env f same (b ∷ bits) = ap₂ (λ c r. c ∷ r) (sym (same (term_bit env b))) (map-complements env f same bits)

map-same : (f : Bool → Bool) → ((b : Bool) → f b ≡ b) → (bits : List Bool) → bits ≡ map f bits
map-same f same [] = refl
map-same f same (b ∷ bits) = ap₂ (λ c r. c ∷ r) (sym (same b)) (map-same f same bits)

inverted-by : (env : Bits) (o : Bool) (f : Bool → Bool) → ((b : Bool) → f b ≡ (if o then not b else b)) → (x : MadeTerms)
    → map (term_bit env) (if o then record { bits = complement_terms x.bits; cells = x.cells ++ complement_terms x.bits } else x).bits ≡ map f (map (term_bit env) x.bits)
inverted-by env true f same x = map-complements env f same x.bits
inverted-by env false f same x = map-same f same (map (term_bit env) x.bits)

any-from : (env : Bits) (a : Term) (bits : List Term) → term_bit env (any_from a bits).0 ≡ (term_bit env a || list_any (λ b. b) (map (term_bit env) bits))
any-from env a [] = sym (or-false (term_bit env a))
any-from env a (b ∷ bits) = any-from env (Or a b) bits ∙ or_assoc (term_bit env a) (term_bit env b) _

pub any-bit : (env : Bits) (bits : List Term) → term_bit env (any_bit bits).0 ≡ list_any (λ b. b) (map (term_bit env) bits)
any-bit env [] = refl
any-bit env (b ∷ bits) = any-from env b bits

if-same : {A : Type 0} (b : Bool) (x : A) → x ≡ (if b then x else x)
if-same true x = refl
if-same false x = refl

if-cons : (b x y : Bool) (xs ys : List Bool) → ((if b then x else y) ∷ (if b then xs else ys)) ≡ (if b then x ∷ xs else y ∷ ys)
if-cons true x y xs ys = refl
if-cons false x y xs ys = refl

pub map-selected : (env : Bits) (c : Term) (ts es : List Term) → length ts ≡ length es
    → map (term_bit env) (selected c ts es) ≡ (if term_bit env c then map (term_bit env) ts else map (term_bit env) es)
map-selected env c [] [] long = if-same (term_bit env c) []
map-selected env c [] (e ∷ es) long = grind (arith, long)
map-selected env c (t ∷ ts) [] long = grind (arith, long)
map-selected env c (t ∷ ts) (e ∷ es) long =
    ap (λ r. (if term_bit env c then term_bit env t else term_bit env e) ∷ r) (map-selected env c ts es (grind (arith, long)))
    ∙ if-cons (term_bit env c) (term_bit env t) (term_bit env e) (map (term_bit env) ts) (map (term_bit env) es)

-- the bits of terms keep the gates
pub terms_map : (env : Bits) → IsMap terms bit_gates (term_bit env)
terms_map env = record {
  zero = refl;
  one = refl;
  inverse = λ a. refl;
  both = λ a b. refl;
  either = λ a b. refl;
  differ = λ a b. refl;
  choice = λ c t e. refl;
}

-- what operators on words mean on bits, as bb_word promises it
pub record WordsMean : Type 0 where
  pub words : WordsHaveBits
  pub folds : FoldsGiveBits

circuit-bits : (env : Bits) (cells : List Term) (circuit : Circuit Term) (w : ℕ) (bits : List Bool) → reverse (map (term_bit env) circuit.bits) ≡ bits → map (term_bit env) (circuit_made cells circuit w).bits ≡ extended false w bits
circuit-bits env cells circuit w bits is = map-extended env w (reverse circuit.bits) ∙ ap (extended false w) (reverse-map (term_bit env) circuit.bits ∙ is)

word-means : WordsMean → (env : Bits) (op : WordOp) (m n : ℕ) (a b : MadeTerms) (w : ℕ) (x y : List Bool) → map (term_bit env) a.bits ≡ x → map (term_bit env) b.bits ≡ y → HaveOneWidth op (length x) (length y)
    → map (term_bit env) (word_made op m n a b w).bits ≡ word_value op m n x y w
word-means law env op m n a b w x y first second one =
    let bit = term_bit env in
    let read = λ (xs : List Term) (ys : List Bool) (e : map bit xs ≡ ys). reverse-map bit xs ∙ ap reverse e in
    circuit-bits env (a.cells ++ b.cells) (word_circuit terms op (reverse a.bits) (reverse b.bits)) w (word_bits op x y)
    (ap (λ c. reverse c.bits) (word_map terms bit_gates bit (terms_map env) op (reverse a.bits) (reverse b.bits))
    ∙ ap₂ (λ p q. reverse (word_circuit bit_gates op p q).bits) (read a.bits x first) (read b.bits y second) ∙ law.words op x y one)

fold-means : WordsMean → (env : Bits) (op : FoldOp) (a : MadeTerms) (w : ℕ) (x : List Bool) → map (term_bit env) a.bits ≡ x → map (term_bit env) (fold_made op a w).bits ≡ extended false w (fold_bit op x ∷ [])
fold-means law env op a w x first =
    let bit = term_bit env in
    circuit-bits env a.cells (fold_circuit terms op (reverse a.bits)) w (fold_bit op x ∷ [])
    (ap (λ c. reverse c.bits) (fold_map terms bit_gates bit (terms_map env) op (reverse a.bits))
    ∙ ap (λ p. reverse (fold_circuit bit_gates op p).bits) (reverse-map bit a.bits ∙ ap reverse first) ∙ ap reverse (law.folds op x))

-- what is made and the value agree, for an operand of some own width
pub record AreOne (env : Bits) (l : ℕ) (f : ℕ → MadeTerms) (g : ℕ → List Bool) : Type 0 where
  pub wide : IsWide (record { width = l; at = g })
  pub means : (w : ℕ) → l ≤ w → map (term_bit env) (f w).bits ≡ g w

word-one : WordsMean → (env : Bits) (op : WordOp) (l r : ℕ) (f h : ℕ → MadeTerms) (g k : ℕ → List Bool) → AreOne env l f g → AreOne env r h k
    → AreOne env (operator_width op l r) (word_step word_made (record { width = l; at = f }) (op, record { width = r; at = h })).at (word_step word_value (record { width = l; at = g }) (op, record { width = r; at = k })).at
word-one law env op l r f h g k first second = record {
  wide = word-wide op (record { width = l; at = g }) (record { width = r; at = k }) first.wide second.wide;
  means = λ w fits.
      let m = first_at op l r w in
      let n = second_at op l r w in
      let left = first-fits op l r w fits in
      let right = second-fits op l r w fits in
      word-means law env op m n (f m) (h n) w (g m) (k n) (first.means m left) (second.means n right)
      (subst (λ i. HaveOneWidth op i (length (k n))) (sym (first.wide m left)) (subst (λ i. HaveOneWidth op m i) (sym (second.wide n right)) (one-width op l r w)));
}

-- what an operand of the cells is seen as
abbrev pub made_seen : Ranges → Expression → (ℕ → MadeTerms) → Operand MadeTerms
made_seen ranges e a = record { width = own_width ranges e; at = a }

-- the bits that are made have the value, at each width that suffices
abbrev pub Means : Ranges → Bits → Expression → Type 0
Means ranges env e = (w : ℕ) → own_width ranges e ≤ w → map (term_bit env) (made ranges e w).bits ≡ value ranges env e w

-- as many bits are made
pub made-long : (ranges : Ranges) (env : Bits) (e : Expression) → Means ranges env e → (w : ℕ) → own_width ranges e ≤ w → length (made ranges e w).bits ≡ w
made-long ranges env e means w fits = sym (length-map (made ranges e w).bits (term_bit env)) ∙ ap length (means w fits) ∙ value-length ranges env e w fits

-- as long as the value
pub long-by : (env : Bits) (w : ℕ) (xs : List Term) (ys : List Bool) → map (term_bit env) xs ≡ ys → length ys ≡ w → length xs ≡ w
long-by env w xs ys same long = sym (length-map xs (term_bit env)) ∙ ap length same ∙ long

if-of : {A : Type 0} {b c : Bool} {x y u v : A} → b ≡ c → x ≡ u → y ≡ v → (if b then x else y) ≡ (if c then u else v)
if-of same first second = rw (same, first, second) refl

module _ (law : WordsMean) where
  mutual
    pub made-value : (ranges : Ranges) (env : Bits) (e : Expression) → Means ranges env e
    made-value ranges env (Net n) w fits = map-extended env w _ ∙ ap (extended false w) (map-net_terms env n (range_with_len 0 (range_width (ranges n))))
    made-value ranges env (Bit n i) w fits = map-extended env w (net_terms n (place_of (ranges n) i) 1) ∙ ap (extended false w) (map-net_terms env n (range_with_len (place_of (ranges n) i) 1))
    made-value ranges env (Part n i j) w fits = map-extended env w _ ∙ ap (extended false w) (map-net_terms env n (range_with_len (place_of (ranges n) i) (distance i j + 1)))
    made-value ranges env (Sized bits) w fits = map-extended env w _ ∙ ap (extended false w) (map-constants env bits)
    made-value ranges env (Plain n) w fits = map-extended env w (map Const (bits_of 32 n)) ∙ ap (extended false w) (map-constants env (bits_of 32 n))
    made-value ranges env (Not k e) w fits = inverted-by env (is_odd k) (complemented k) (complemented-odd k) (made ranges e w) ∙ ap (map (complemented k)) (made-value ranges env e w fits)
    made-value ranges env (Chain e rest) w fits = chain-value ranges env rest w (made ranges e w) (value ranges env e w) (made-value ranges env e w (omega (arith, fits))) (omega (arith, fits))
    made-value ranges env (Fold op e) w fits = fold-means law env op (made ranges e (own_width ranges e)) w (value ranges env e (own_width ranges e)) (made-value ranges env e (own_width ranges e) (omega arith))
    made-value ranges env (Words e rest) w fits =
        (words-value ranges env rest (own_width ranges e) (made ranges e) (value ranges env e) (record { wide = λ v h. value-length ranges env e v h; means = λ v h. made-value ranges env e v h })).means w fits
    made-value ranges env (Cond all last) w fits = arms-value ranges env all w last (omega (arith, fits)) (omega (arith, fits)) (made-value ranges env last w (omega (arith, fits)))
    made-value ranges env (Concat all) w fits = map-extended env w _ ∙ ap (extended false w) (parts-value ranges env all)
    made-value ranges env (Repeat k all) w fits = map-extended env w _ ∙ ap (extended false w) (map-copies env k _ ∙ ap (copies k) (parts-value ranges env all))

    chain-value : (ranges : Ranges) (env : Bits) (rest : Operands) (w : ℕ) (m : MadeTerms) (bits : List Bool) → map (term_bit env) m.bits ≡ bits
        → greatest (map (λ x. x.1) (of_operands (λ x a. a) (widths ranges) rest)) ≤ w
        → map (term_bit env) (fold (λ a x. let b = x.1.at w in chained a b (operated x.0 a.bits b.bits)) m (of_operands (made_seen ranges) (makes ranges) rest)).bits
        ≡ fold (λ b x. bitwise (op_bit x.0) b (x.1.at w)) bits (of_operands (seen ranges) (values ranges env) rest)
    chain-value ranges env no_operand w m bits same fits = same
    chain-value ranges env (operand op e rest) w m bits same fits =
        chain-value ranges env rest w (chained m (made ranges e w) (operated op m.bits (made ranges e w).bits)) (bitwise (op_bit op) bits (value ranges env e w))
        (map-operated env op m.bits (made ranges e w).bits ∙ ap₂ (bitwise (op_bit op)) same (made-value ranges env e w (omega (arith, fits)))) (omega (arith, fits))

    words-value : (ranges : Ranges) (env : Bits) (rest : WordOperands) (l : ℕ) (f : ℕ → MadeTerms) (g : ℕ → List Bool) → AreOne env l f g
        → AreOne env (fold (λ n x. operator_width x.0 n x.1) l (of_words (λ x a. a) (widths ranges) rest))
        (fold (word_step word_made) (record { width = l; at = f }) (of_words (made_seen ranges) (makes ranges) rest)).at
        (fold (word_step word_value) (record { width = l; at = g }) (of_words (seen ranges) (values ranges env) rest)).at
    words-value ranges env no_word l f g same = same
    words-value ranges env (word op e rest) l f g same =
        let r = own_width ranges e in
        words-value ranges env rest (operator_width op l r) (word_step word_made (record { width = l; at = f }) (op, made_seen ranges e (made ranges e))).at
        (word_step word_value (record { width = l; at = g }) (op, seen ranges e (value ranges env e))).at
        (word-one law env op l r f (made ranges e) g (value ranges env e) same (record { wide = λ v h. value-length ranges env e v h; means = λ v h. made-value ranges env e v h }))

    pub arms-value : (ranges : Ranges) (env : Bits) (all : Arms) (w : ℕ) (last : Expression)
        → greatest (map (λ x. x.1) (of_arms (λ x a. a) (widths ranges) all)) ≤ w → own_width ranges last ≤ w
        → map (term_bit env) (made ranges last w).bits ≡ value ranges env last w
        → map (term_bit env) (arms_made (of_arms (made_seen ranges) (makes ranges) all) (made_seen ranges last (made ranges last)) w).bits
        ≡ chosen_arm (of_arms (seen ranges) (values ranges env) all) (seen ranges last (value ranges env last)) w
    arms-value ranges env no_arm w last fits own same = same
    arms-value ranges env (arm c e rest) w last fits own same =
        let below : map (term_bit env) (arms_made (of_arms (made_seen ranges) (makes ranges) rest) (made_seen ranges last (made ranges last)) w).bits
        ≡ chosen_arm (of_arms (seen ranges) (values ranges env) rest) (seen ranges last (value ranges env last)) w
        = arms-value ranges env rest w last (omega (arith, fits)) own same in
        let branch : map (term_bit env) (made ranges e w).bits ≡ value ranges env e w = made-value ranges env e w (omega (arith, fits)) in
        let condition : map (term_bit env) (made ranges c (own_width ranges c)).bits ≡ value ranges env c (own_width ranges c) = made-value ranges env c (own_width ranges c) (omega arith) in
        map-selected env (any_bit (made ranges c (own_width ranges c)).bits).0 (made ranges e w).bits _
        (long-by env w _ _ branch (value-length ranges env e w (omega (arith, fits)))
        ∙ sym (long-by env w _ _ below (arms-length ranges env rest w last (omega (arith, fits)) (value-length ranges env last w own))))
        ∙ if-of (any-bit env (made ranges c (own_width ranges c)).bits ∙ ap (list_any (λ b. b)) condition) branch below

    parts-value : (ranges : Ranges) (env : Bits) (all : Parts)
        → map (term_bit env) (flat_map (λ x. (alone {A = MadeTerms} x).bits) (of_parts (made_seen ranges) (makes ranges) all)) ≡ flat_map alone (of_parts (seen ranges) (values ranges env) all)
    parts-value ranges env no_part = refl
    parts-value ranges env (part e rest) =
        map-append (term_bit env) (made ranges e (own_width ranges e)).bits (flat_map (λ x. (alone {A = MadeTerms} x).bits) (of_parts (made_seen ranges) (makes ranges) rest))
        ∙ ap₂ (λ a r. a ++ r) (made-value ranges env e (own_width ranges e) (omega arith)) (parts-value ranges env rest)

  pub made_has_value : MadeHasValue
  made_has_value ranges env e w fits = made-value ranges env e w fits
