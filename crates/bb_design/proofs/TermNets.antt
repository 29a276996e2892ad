-- Where each net that an expression names has its bits in a scope, whatever the expression writes or is made of has them there.
use Rattle.std.proofs.Common.{◌≡◌, ◌⊎◌, ℕ, ◌+◌, ◌-◌, ◌<◌, Bool, true, false, if◌then◌else◌, List, [], ◌∷◌, ◌++◌, map, flat_map, fold, length, reverse, replicate, Contains, Some, None, subst, inl, inr, arith}
use Rattle.std.specs.List.{range_with_len}
use Rattle.std.proofs.lemmas.List.Elements.{Contains-append_left, Contains-append_right, Contains-append_cases}
use Rattle.bb_ast.specs.declared.expr.Op.{Op}
use Rattle.bb_ast.specs.declared.expr.Op.TheVariants as ops
use Rattle.bb_ast.specs.declared.operators.WordOp.{WordOp}
use Rattle.bb_ast.specs.declared.operators.FoldOp.{FoldOp}
use Rattle.bb_ast.specs.declared.module.Gate.{Gate}
use Rattle.bb_ast.specs.declared.module.Gate.TheVariants as gates
use Rattle.bb_ast.specs.Syntax.{Expression, Net as NetOf, Bit as BitOf, Part, Sized, Plain, Not as NotOf, Fold, Chain, Words, Cond, Concat, Repeat, Operands, no_operand, operand, WordOperands, no_word, word, Arms, no_arm, arm, Parts, no_part, part}
use Rattle.bb_ast.specs.Folds.{fold_by, of_operands, of_words, of_arms, of_parts}
use Rattle.bb_bits.specs.Numbers.{bits_of}
use Rattle.bb_names.specs.Declarations.{range_of}
use Rattle.bb_names.specs.Ranges.{distance, range_width, place_of}
use Rattle.bb_names.specs.Sites.{Use, Site, Number, Whole, Used, with_inside, part_sites, inside, is_plain, sites_in}
use Rattle.bb_names.specs.Widths.{Ranges, own_width, Operand, first_at, second_at, word_step, words_at}
use Rattle.bb_expr.specs.Lists.{extended, copies, bitwise}
use Rattle.bb_expr.specs.Terms.{Term, Const, Net, Not, And, Or, Xor, Mux, terms}
use Rattle.bb_expr.specs.Cells.{MadeTerms, made, makes, net_terms, complement_terms, operated, chained, word_made, fold_made, any_from, any_bit, selected, arm_made, arms_made, part_bits, part_cells}
use Rattle.bb_design.specs.Hierarchy.{Scope}
use Rattle.bb_design.specs.NetBits.{Bit, bits_from, scope_bits, assigned, written_bits}
use Rattle.bb_design.specs.GateFunctions.{on_terms, joins, joined, inverts, gate_gives, joined_after, joining_cells, gate_cells}
use Rattle.bb_design.specs.Reading.{operand_terms, bit_itself}
use Rattle.bb_word.specs.Folds.{is_odd, fold_circuit}
use Rattle.bb_word.specs.Words.{word_circuit}
use Rattle.bb_lemmas.proofs.Each.{each_reverse}
use Rattle.bb_word.specs.Laws.KeptLaws.{IsKept, kept_word, kept_fold}
use Rattle.bb_lemmas.proofs.Members.{from_map, contains_here, contains_there, contains_cases, none_in_nil}
use Rattle.bb_lemmas.proofs.Ranges.{from_range}
use Rattle.bb_design.proofs.Operators.{Each, each_nil, each_cons, each_append, each_replicate, each_copies}

by_parts : {A B C : Type 0} → A ⊎ B → (A → C) → (B → C) → C
by_parts (inl a) f g = f a
by_parts (inr b) f g = g b

module _ (s : Scope) where
  -- the scope has this bit of a net
  abbrev pub HasBit : List ℕ → ℕ → Type 0
  HasBit n k = Contains (scope_bits s) (record { path = s.path; net = n; place = k })

  -- it has each bit of which a term is made
  abbrev pub Names : Term → Type 0
  Names (Const b) = Unit {0}
  Names (Net n i) = HasBit n i
  Names (Not a) = Names a
  Names (And a b) = Names a × Names b
  Names (Or a b) = Names a × Names b
  Names (Xor a b) = Names a × Names b
  Names (Mux c t e) = Names c × Names t × Names e

  pub record AreNamed (m : MadeTerms) : Type 0 where
    pub bits : Each m.bits Names
    pub cells : Each m.cells Names

  -- it has the bits that are used at a site
  abbrev pub HasUsed : Site → Type 0
  HasUsed (Used how n None) = (k : ℕ) → k < range_width (range_of s.source n) → HasBit n k
  HasUsed (Used how n (Some bits)) = (k : ℕ) → k < distance bits.0 bits.1 + 1 → HasBit n (place_of (range_of s.source n) bits.0 + k)
  HasUsed site = Unit {0}

  abbrev pub HaveUsed : List Site → Type 0
  HaveUsed sites = (z : Site) → Contains sites z → HasUsed z

  prefix : (xs ys : List Site) → HaveUsed (xs ++ ys) → HaveUsed xs
  prefix xs ys all z has = all z (Contains-append_left xs ys z has)

  back : (xs ys : List Site) → HaveUsed (xs ++ ys) → HaveUsed ys
  back xs ys all z has = all z (Contains-append_right xs ys z has)

  after : (x : Site) (xs : List Site) → HaveUsed (x ∷ xs) → HaveUsed xs
  after x xs all z has = all z (contains_there x xs z has)

  only : (x y : Site) → HaveUsed (x ∷ y ∷ []) → HasUsed y
  only x y all = all y (contains_there x (y ∷ []) y (contains_here y []))

  part_after : (b : Bool) (xs : List Site) → HaveUsed (if b then Number ∷ xs else xs) → HaveUsed xs
  part_after true xs all = after Number xs all
  part_after false xs all = all

  from_zero : (n : List ℕ) (count : ℕ) → ((k : ℕ) → k < count → HasBit n k) → (k : ℕ) → k < count → HasBit n (0 + k)
  from_zero n count all k lt = let same : k ≡ 0 + k = omega arith in subst (HasBit n) same (all k lt)

  -- bits of a net
  place_has : (n : List ℕ) (place count k : ℕ) → ((i : ℕ) → i < count → HasBit n (place + i)) → Contains (range_with_len place count) k → HasBit n k
  place_has n place count k all has =
      let r = from_range place count k has in
      let same : place + (k - place) ≡ k = omega (arith, r.0) in
      subst (HasBit n) same (all (k - place) (omega (arith, r.0, r.1)))

  terms_has : (n : List ℕ) (place count : ℕ) → ((i : ℕ) → i < count → HasBit n (place + i)) → Each (net_terms n place count) Names
  terms_has n place count all t has =
      let k = from_map (Net n) (range_with_len place count) t has in
      subst Names k.2 (place_has n place count k.0 all k.1)

  bits_has : (n : List ℕ) (place count : ℕ) → ((i : ℕ) → i < count → HasBit n (place + i)) → (b : Bit) → Contains (bits_from s.path n place count) b → Contains (scope_bits s) b
  bits_has n place count all b has =
      let k = from_map (λ i. record { path = s.path; net = n; place = i }) (range_with_len place count) b has in
      subst (Contains (scope_bits s)) k.2 (place_has n place count k.0 all k.1)

  -- operators
  constants_named : (bits : List Bool) → Each (map Const bits) Names
  constants_named bits t has = let b = from_map Const bits t has in subst Names b.2 tt

  extended_named : (w : ℕ) (bits : List Term) → Each bits Names → Each (extended (Const false) w bits) Names
  extended_named w bits all = each_append Names (replicate (w - length bits) (Const false)) bits (each_replicate Names (w - length bits) (Const false) tt) all

  inverted_named : (bits : List Term) → Each bits Names → Each (complement_terms bits) Names
  inverted_named bits all t has = let b = from_map Not bits t has in subst Names b.2 (all b.0 b.1)

  bitwise_named : (gate : Term → Term → Term) → ((a b : Term) → Names a → Names b → Names (gate a b)) → (xs ys : List Term) → Each xs Names → Each ys Names → Each (bitwise gate xs ys) Names
  bitwise_named gate op [] ys a b = each_nil Names
  bitwise_named gate op (x ∷ xs) [] a b = each_nil Names
  bitwise_named gate op (x ∷ xs) (y ∷ ys) a b = each_cons Names (gate x y) (bitwise gate xs ys) (op x y (a x (contains_here x xs)) (b y (contains_here y ys)))
      (bitwise_named gate op xs ys (λ t has. a t (contains_there x xs t has)) (λ t has. b t (contains_there y ys t has)))

  operated_named : (op : Op) (xs ys : List Term) → Each xs Names → Each ys Names → AreNamed (operated op xs ys)
  operated_named ops.And xs ys a b = let all = bitwise_named And (λ x y p q. (p, q)) xs ys a b in record { bits = all; cells = all }
  operated_named ops.Or xs ys a b = let all = bitwise_named Or (λ x y p q. (p, q)) xs ys a b in record { bits = all; cells = all }
  operated_named ops.Xor xs ys a b = let all = bitwise_named Xor (λ x y p q. (p, q)) xs ys a b in record { bits = all; cells = all }
  operated_named ops.Xnor xs ys a b =
      let all = bitwise_named Xor (λ x y p q. (p, q)) xs ys a b in
      let not = inverted_named (bitwise Xor xs ys) all in
      record { bits = not; cells = each_append Names (bitwise Xor xs ys) (complement_terms (bitwise Xor xs ys)) all not }

  any_from_named : (a : Term) (bits : List Term) → Names a → Each bits Names → Names (any_from a bits).0 × Each (any_from a bits).1 Names
  any_from_named a [] first all = (first, each_nil Names)
  any_from_named a (b ∷ bits) first all =
      let here : Names (Or a b) = (first, all b (contains_here b bits)) in
      let rest = any_from_named (Or a b) bits here (λ t has. all t (contains_there b bits t has)) in
      (rest.0, each_cons Names (Or a b) (any_from (Or a b) bits).1 here rest.1)

  any_bit_named : (bits : List Term) → Each bits Names → Names (any_bit bits).0 × Each (any_bit bits).1 Names
  any_bit_named [] all = (tt, each_nil Names)
  any_bit_named (b ∷ bits) all = any_from_named b bits (all b (contains_here b bits)) (λ t has. all t (contains_there b bits t has))

  selected_named : (c : Term) (ts es : List Term) → Names c → Each ts Names → Each es Names → Each (selected c ts es) Names
  selected_named c [] es first a b = each_nil Names
  selected_named c (t ∷ ts) [] first a b = each_nil Names
  selected_named c (t ∷ ts) (e ∷ es) first a b = each_cons Names (Mux c t e) (selected c ts es) (first, a t (contains_here t ts), b e (contains_here e es))
      (selected_named c ts es first (λ x has. a x (contains_there t ts x has)) (λ x has. b x (contains_there e es x has)))

  -- what is made
  not_named : (o : Bool) (x : MadeTerms) → AreNamed x → AreNamed (if o then record { bits = complement_terms x.bits; cells = x.cells ++ complement_terms x.bits } else x)
  not_named true x h = let not = inverted_named x.bits h.bits in record { bits = not; cells = each_append Names x.cells (complement_terms x.bits) h.cells not }
  not_named false x h = h

  chained_named : (op : Op) (a b : MadeTerms) → AreNamed a → AreNamed b → AreNamed (chained a b (operated op a.bits b.bits))
  chained_named op a b first second =
      let both = operated_named op a.bits b.bits first.bits second.bits in
      record { bits = both.bits; cells = each_append Names (a.cells ++ b.cells) (operated op a.bits b.bits).cells (each_append Names a.cells b.cells first.cells second.cells) both.cells }

  -- gates of such terms
  names_kept : (cells : List Term) → IsKept terms Names cells
  names_kept cells = record {
    zero = tt;
    one = tt;
    inverse = λ a has p. p;
    both = λ a b has p q. (p, q);
    either = λ a b has p q. (p, q);
    differ = λ a b has p q. (p, q);
    choice = λ c t e has p q r. (p, q, r);
  }

  word_named : (op : WordOp) (m n : ℕ) (a b : MadeTerms) (w : ℕ) → AreNamed a → AreNamed b → AreNamed (word_made op m n a b w)
  word_named op m n a b w first second =
      let circuit = word_circuit terms op (reverse a.bits) (reverse b.bits) in
      let kept = kept_word terms Names circuit.cells (names_kept circuit.cells) op (reverse a.bits) (reverse b.bits) (each_reverse Names a.bits first.bits) (each_reverse Names b.bits second.bits) (λ t has. has) in
      record {
        bits = extended_named w (reverse circuit.bits) (each_reverse Names circuit.bits kept.bits);
        cells = each_append Names (a.cells ++ b.cells) circuit.cells (each_append Names a.cells b.cells first.cells second.cells) kept.cells;
      }

  fold_named : (op : FoldOp) (a : MadeTerms) (w : ℕ) → AreNamed a → AreNamed (fold_made op a w)
  fold_named op a w first =
      let circuit = fold_circuit terms op (reverse a.bits) in
      let kept = kept_fold terms Names circuit.cells (names_kept circuit.cells) op (reverse a.bits) (each_reverse Names a.bits first.bits) (λ t has. has) in
      record {
        bits = extended_named w (reverse circuit.bits) (each_reverse Names circuit.bits kept.bits);
        cells = each_append Names a.cells circuit.cells first.cells kept.cells;
      }

  arm_named : (c t e : MadeTerms) → AreNamed c → AreNamed t → AreNamed e → AreNamed (arm_made c t e)
  arm_named c t e first second third =
      let any = any_bit_named c.bits first.bits in
      let last = selected_named (any_bit c.bits).0 t.bits e.bits any.0 second.bits third.bits in
      let one = each_append Names c.cells (any_bit c.bits).1 first.cells any.1 in
      let two = each_append Names (c.cells ++ (any_bit c.bits).1) t.cells one second.cells in
      let three = each_append Names ((c.cells ++ (any_bit c.bits).1) ++ t.cells) e.cells two third.cells in
      record { bits = last; cells = each_append Names (((c.cells ++ (any_bit c.bits).1) ++ t.cells) ++ e.cells) (selected (any_bit c.bits).0 t.bits e.bits) three last }

  abbrev ranges : Ranges
  ranges = range_of s.source

  abbrev seen : Expression → (ℕ → MadeTerms) → Operand MadeTerms
  seen e a = record { width = own_width ranges e; at = a }

  abbrev sites_of : Use → Expression → List Site → Expression × List Site
  sites_of how e sites = (e, sites)

  -- the sites after the first
  abbrev inner_sites : Use → Expression → List Site
  inner_sites how e = fold_by (sites_of how) (inside how) e

  abbrev operand_sites : Use → Operands → List Site
  operand_sites how rest = flat_map (λ x. with_inside x.1) (of_operands (sites_of how) (inside how) rest)

  abbrev word_sites : Use → WordOperands → List Site
  word_sites how rest = flat_map (λ x. with_inside x.1) (of_words (sites_of how) (inside how) rest)

  abbrev arm_sites : Use → Arms → List Site
  arm_sites how arms = flat_map (λ x. with_inside x.0 ++ with_inside x.1) (of_arms (sites_of how) (inside how) arms)

  abbrev parts_sites : Use → Parts → List Site
  parts_sites how parts = flat_map part_sites (of_parts (sites_of how) (inside how) parts)

  abbrev first_sites : Use → Expression → List Site
  first_sites how e = if is_plain e then Number ∷ sites_in how e else sites_in how e

  mutual
    pub named : (how : Use) (e : Expression) (w : ℕ) → HaveUsed (sites_in how e) → AreNamed (made ranges e w)
    named how (NetOf n) w all = record { bits = extended_named w (net_terms n 0 (range_width (ranges n))) (terms_has n 0 (range_width (ranges n)) (from_zero n (range_width (ranges n)) (only (Whole (NetOf n)) (Used how n None) all))); cells = each_nil Names }
    named how (BitOf n i) w all = record { bits = extended_named w (net_terms n (place_of (ranges n) i) 1) (terms_has n (place_of (ranges n) i) 1 (λ k lt. only (Whole (BitOf n i)) (Used how n (Some (i, i))) all k (omega (arith, lt)))); cells = each_nil Names }
    named how (Part n i j) w all = record { bits = extended_named w (net_terms n (place_of (ranges n) i) (distance i j + 1)) (terms_has n (place_of (ranges n) i) (distance i j + 1) (only (Whole (Part n i j)) (Used how n (Some (i, j))) all)); cells = each_nil Names }
    named how (Sized bits) w all = record { bits = extended_named w (map Const bits) (constants_named bits); cells = each_nil Names }
    named how (Plain n) w all = record { bits = extended_named w (map Const (bits_of 32 n)) (constants_named (bits_of 32 n)); cells = each_nil Names }
    named how (NotOf k e) w all = not_named (is_odd k) (made ranges e w) (named how e w (after (Whole (NotOf k e)) (sites_in how e) all))
    named how (Fold op e) w all = fold_named op (made ranges e (own_width ranges e)) w (named how e (own_width ranges e) (after (Whole (Fold op e)) (sites_in how e) all))
    named how (Chain e rest) w all =
        let inner = after (Whole (Chain e rest)) (inner_sites how (Chain e rest)) all in
        named_chain how rest w (made ranges e w) (named how e w (prefix (sites_in how e) (operand_sites how rest) inner)) (back (sites_in how e) (operand_sites how rest) inner)
    named how (Words e rest) w all =
        let inner = after (Whole (Words e rest)) (inner_sites how (Words e rest)) all in
        named_words how rest (seen e (made ranges e)) (λ v. named how e v (prefix (sites_in how e) (word_sites how rest) inner)) (back (sites_in how e) (word_sites how rest) inner) w
    named how (Cond arms last) w all =
        let inner = after (Whole (Cond arms last)) (inner_sites how (Cond arms last)) all in
        named_arms how arms w last (named how last w (back (arm_sites how arms) (sites_in how last) inner))
        (prefix (arm_sites how arms) (sites_in how last) inner)
    named how (Concat parts) w all =
        let inner = named_parts how parts (after (Whole (Concat parts)) (inner_sites how (Concat parts)) all) in
        record { bits = extended_named w (part_bits (of_parts seen (makes ranges) parts)) inner.0; cells = inner.1 }
    named how (Repeat k parts) w all =
        let inner = named_parts how parts (after (Whole (Repeat k parts)) (inner_sites how (Repeat k parts)) all) in
        record { bits = extended_named w (copies k (part_bits (of_parts seen (makes ranges) parts))) (each_copies Names k (part_bits (of_parts seen (makes ranges) parts)) inner.0); cells = inner.1 }

    named_chain : (how : Use) (rest : Operands) (w : ℕ) (m : MadeTerms) → AreNamed m → HaveUsed (operand_sites how rest)
        → AreNamed (fold (λ a x. let b = x.1.at w in chained a b (operated x.0 a.bits b.bits)) m (of_operands seen (makes ranges) rest))
    named_chain how no_operand w m h all = h
    named_chain how (operand op e rest) w m h all = named_chain how rest w (chained m (made ranges e w) (operated op m.bits (made ranges e w).bits))
        (chained_named op m (made ranges e w) h (named how e w (prefix (sites_in how e) (operand_sites how rest) all))) (back (sites_in how e) (operand_sites how rest) all)

    named_words : (how : Use) (rest : WordOperands) (left : Operand MadeTerms) → ((w : ℕ) → AreNamed (left.at w)) → HaveUsed (word_sites how rest) → (w : ℕ)
        → AreNamed (words_at word_made left (of_words seen (makes ranges) rest) w)
    named_words how no_word left h all w = h w
    named_words how (word op e rest) left h all w =
        named_words how rest (word_step word_made left (op, seen e (made ranges e)))
        (λ v.
        let l = first_at op left.width (own_width ranges e) v in
        let r = second_at op left.width (own_width ranges e) v in
        word_named op l r (left.at l) (made ranges e r) v (h l) (named how e r (prefix (sites_in how e) (word_sites how rest) all)))
        (back (sites_in how e) (word_sites how rest) all)
        w

    named_arms : (how : Use) (arms : Arms) (w : ℕ) (last : Expression) → AreNamed (made ranges last w) → HaveUsed (arm_sites how arms)
        → AreNamed (arms_made (of_arms seen (makes ranges) arms) (seen last (made ranges last)) w)
    named_arms how no_arm w last h all = h
    named_arms how (arm c e rest) w last h all =
        let here = prefix (sites_in how c ++ sites_in how e) (arm_sites how rest) all in
        arm_named (made ranges c (own_width ranges c)) (made ranges e w) (arms_made (of_arms seen (makes ranges) rest) (seen last (made ranges last)) w) (named how c (own_width ranges c) (prefix (sites_in how c) (sites_in how e) here)) (named how e w (back (sites_in how c) (sites_in how e) here))
        (named_arms how rest w last h (back (sites_in how c ++ sites_in how e) (arm_sites how rest) all))

    named_parts : (how : Use) (parts : Parts) → HaveUsed (parts_sites how parts)
        → Each (part_bits (of_parts seen (makes ranges) parts)) Names × Each (part_cells (of_parts seen (makes ranges) parts)) Names
    named_parts how no_part all = (each_nil Names, each_nil Names)
    named_parts how (part e rest) all =
        let first = first_sites how e in
        let here = named how e (own_width ranges e) (part_after (is_plain e) (sites_in how e) (prefix first (parts_sites how rest) all)) in
        let others = named_parts how rest (back first (parts_sites how rest) all) in
        (each_append Names (made ranges e (own_width ranges e)).bits (part_bits (of_parts seen (makes ranges) rest)) here.bits others.0, each_append Names (made ranges e (own_width ranges e)).cells (part_cells (of_parts seen (makes ranges) rest)) here.cells others.1)

  mutual
    pub written_there : (how : Use) (e : Expression) → HaveUsed (sites_in how e) → (b : Bit) → Contains (written_bits s e) b → Contains (scope_bits s) b
    written_there how (NetOf n) all b has = bits_has n 0 (range_width (ranges n)) (from_zero n (range_width (ranges n)) (only (Whole (NetOf n)) (Used how n None) all)) b has
    written_there how (BitOf n i) all b has = bits_has n (place_of (ranges n) i) 1 (λ k lt. only (Whole (BitOf n i)) (Used how n (Some (i, i))) all k (omega (arith, lt))) b has
    written_there how (Part n i j) all b has = bits_has n (place_of (ranges n) i) (distance i j + 1) (only (Whole (Part n i j)) (Used how n (Some (i, j))) all) b has
    written_there how (Sized bits) all b has = absurd (none_in_nil b has)
    written_there how (Plain n) all b has = absurd (none_in_nil b has)
    written_there how (NotOf k e) all b has = absurd (none_in_nil b has)
    written_there how (Fold op e) all b has = absurd (none_in_nil b has)
    written_there how (Chain e rest) all b has = absurd (none_in_nil b has)
    written_there how (Words e rest) all b has = absurd (none_in_nil b has)
    written_there how (Cond arms last) all b has = absurd (none_in_nil b has)
    written_there how (Repeat k parts) all b has = absurd (none_in_nil b has)
    written_there how (Concat parts) all b has = written_parts how parts (after (Whole (Concat parts)) (inner_sites how (Concat parts)) all) b has

    written_parts : (how : Use) (parts : Parts) → HaveUsed (parts_sites how parts) → (b : Bit)
        → Contains (flat_map (λ bits. bits) (of_parts (λ e a. a) (assigned s) parts)) b → Contains (scope_bits s) b
    written_parts how no_part all b has = absurd (none_in_nil b has)
    written_parts how (part e rest) all b has = by_parts (Contains-append_cases (written_bits s e) (flat_map (λ bits. bits) (of_parts (λ e a. a) (assigned s) rest)) b has)
        (written_there how e (part_after (is_plain e) (sites_in how e) (prefix (first_sites how e) (parts_sites how rest) all)) b)
        (written_parts how rest (back (first_sites how e) (parts_sites how rest) all) b)

  -- a term that is a bit of a net, and the operands of a cell
  pub itself_there : (t : Term) → Names t → (b : Bit) → Contains (bit_itself s.path t) b → Contains (scope_bits s) b
  itself_there (Const x) h b has = absurd (none_in_nil b has)
  itself_there (Net n i) h b has = by_parts (contains_cases (record { path = s.path; net = n; place = i }) [] b has) (λ e. subst (Contains (scope_bits s)) e h) (λ more. absurd (none_in_nil b more))
  itself_there (Not a) h b has = absurd (none_in_nil b has)
  itself_there (And x y) h b has = absurd (none_in_nil b has)
  itself_there (Or x y) h b has = absurd (none_in_nil b has)
  itself_there (Xor x y) h b has = absurd (none_in_nil b has)
  itself_there (Mux x y z) h b has = absurd (none_in_nil b has)

  two_named : (x y : Term) → Names x → Names y → Each (x ∷ y ∷ []) Names
  two_named x y p q = each_cons Names x (y ∷ []) p (each_cons Names y [] q (each_nil Names))

  pub operands_named : (t : Term) → Names t → Each (operand_terms t) Names
  operands_named (Const x) h = each_nil Names
  operands_named (Net n i) h = each_nil Names
  operands_named (Not a) h = each_cons Names a [] h (each_nil Names)
  operands_named (And x y) h = two_named x y h.0 h.1
  operands_named (Or x y) h = two_named x y h.0 h.1
  operands_named (Xor x y) h = two_named x y h.0 h.1
  operands_named (Mux x y z) h = each_cons Names x (y ∷ z ∷ []) h.0 (two_named y z h.1 h.2)

  -- gates
  join_named : (gate : Gate) (x y : Term) → Names x → Names y → Names (joins on_terms gate x y)
  join_named gates.And x y p q = (p, q)
  join_named gates.Nand x y p q = (p, q)
  join_named gates.Or x y p q = (p, q)
  join_named gates.Nor x y p q = (p, q)
  join_named gates.Xor x y p q = (p, q)
  join_named gates.Xnor x y p q = (p, q)
  join_named gates.Buf x y p q = p
  join_named gates.Not x y p q = p

  folded_named : (gate : Gate) (x : Term) (rest : List Term) → Names x → Each rest Names → Names (fold (joins on_terms gate) x rest) × Each (joined_after (joins on_terms gate) x rest) Names
  folded_named gate x [] p all = (p, each_nil Names)
  folded_named gate x (y ∷ rest) p all =
      let here = join_named gate x y p (all y (contains_here y rest)) in
      let more = folded_named gate (joins on_terms gate x y) rest here (λ t has. all t (contains_there y rest t has)) in
      (more.0, each_cons Names (joins on_terms gate x y) (joined_after (joins on_terms gate) (joins on_terms gate x y) rest) here more.1)

  joined_named : (gate : Gate) (ins : List Term) → Each ins Names → Names (joined on_terms gate ins) × Each (joining_cells gate ins) Names
  joined_named gate [] all = (tt, each_nil Names)
  joined_named gate (x ∷ rest) all = folded_named gate x rest (all x (contains_here x rest)) (λ t has. all t (contains_there x rest t has))

  pub gate_named : (gate : Gate) (ins : List Term) → Each ins Names → Names (gate_gives on_terms gate ins) × Each (gate_cells gate ins) Names
  gate_named gate ins all =
      let here = joined_named gate ins all in
      (gives (inverts gate) here.0, each_append Names (joining_cells gate ins) (if inverts gate then gate_gives on_terms gate ins ∷ [] else []) here.1 (last (inverts gate) (gives (inverts gate) here.0)))
    where
      gives : (b : Bool) → Names (joined on_terms gate ins) → Names (if b then Not (joined on_terms gate ins) else joined on_terms gate ins)
      gives true h = h
      gives false h = h

      last : (b : Bool) → Names (gate_gives on_terms gate ins) → Each (if b then gate_gives on_terms gate ins ∷ [] else []) Names
      last true h = each_cons Names (gate_gives on_terms gate ins) [] h (each_nil Names)
      last false h = each_nil Names
