-- The cells that a circuit makes are gates, each of bits that are known before it: those of the operands, a constant where the circuit
-- reads one, and earlier cells. The laws hold for gates of every kind, so they are proved here.
use Rattle.std.proofs.Common.{◌≡◌, ◌⊎◌, ◌≤◌, ◌+◌, ℕ, List, [], ◌∷◌, ◌++◌, length, reverse, drop, replicate, Contains, refl, inl, inr, arith}
use Rattle.std.specs.Prelude.{min}
use Rattle.std.proofs.lemmas.List.{length-reverse}
use Rattle.std.proofs.lemmas.List.Elements.{Contains-append_left, Contains-append_right, Contains-append_cases}
use Rattle.bb_lemmas.proofs.Members.{contains_here, contains_there, none_in_nil}
use Rattle.bb_ast.specs.declared.operators.WordOp.{WordOp}
use Rattle.bb_ast.specs.declared.operators.WordOp.TheVariants as ops
use Rattle.bb_ast.specs.declared.operators.FoldOp.{FoldOp}
use Rattle.bb_ast.specs.declared.operators.FoldOp.TheVariants as folds
use Rattle.bb_word.specs.Words.{word_circuit}
use Rattle.bb_word.specs.Folds.{fold_circuit}
use Rattle.bb_word.specs.Gates.{Gates, Made}
use Rattle.bb_word.specs.Circuits.{complements, sum, difference, equal_bits, accumulated, joined_all, folded, inverted, equal, less, choices, up, down, shifted, truths}
use Rattle.bb_lemmas.proofs.Each.{Each, each_nil, each_cons, each_append, each_head, each_tail, each_replicate, each_take, each_drop, each_reverse}
use Rattle.bb_word.specs.Laws.CountLaws.{count-equal_bits, count-folded}

module _ {A : Type 0} where
  -- these are known, and those are too
  abbrev pub With : (A → Type 0) → List A → A → Type 0
  With P cells t = P t ⊎ Contains cells t

  -- a gate whose operands are known
  pub data IsGate (g : Gates A) (P : A → Type 0) (c : A) : Type 0 where
    inverse : (a : A) → P a → c ≡ g.inverse a → IsGate g P c
    both : (a b : A) → P a → P b → c ≡ g.both a b → IsGate g P c
    either : (a b : A) → P a → P b → c ≡ g.either a b → IsGate g P c
    differ : (a b : A) → P a → P b → c ≡ g.differ a b → IsGate g P c
    choice : (s t e : A) → P s → P t → P e → c ≡ g.choice s t e → IsGate g P c

  -- gates, each of what is known before it
  abbrev pub AreGates : Gates A → (A → Type 0) → List A → Type 0
  AreGates g P [] = Unit {0}
  AreGates g P (c ∷ cells) = IsGate g P c × AreGates g (With P (c ∷ [])) cells

  -- the cells are gates, and the bits are among these and what is known
  pub record IsBuilt (g : Gates A) (P : A → Type 0) (made : Made A) : Type 0 where
    pub cells : AreGates g P made.cells
    pub bits : Each made.bits (With P made.cells)

  -- the list has a bit, or else the other holds
  abbrev pub SomeOr : List A → Type 0 → Type 0
  SomeOr xs other = (1 ≤ length xs) ⊎ other

  -- two lists of one length have bits, or else the other holds
  abbrev pub SomeEqual : List A → List A → Type 0 → Type 0
  SomeEqual xs ys other = ((1 ≤ length xs) × (length xs ≡ length ys)) ⊎ other

module _ {A : Type 0} (g : Gates A) where
  gate_more : (P Q : A → Type 0) → ((t : A) → P t → Q t) → (c : A) → IsGate g P c → IsGate g Q c
  gate_more P Q more c (inverse a p is) = inverse a (more a p) is
  gate_more P Q more c (both a b p q is) = both a b (more a p) (more b q) is
  gate_more P Q more c (either a b p q is) = either a b (more a p) (more b q) is
  gate_more P Q more c (differ a b p q is) = differ a b (more a p) (more b q) is
  gate_more P Q more c (choice s t e p q r is) = choice s t e (more s p) (more t q) (more e r) is

  with_more : (P Q : A → Type 0) → ((t : A) → P t → Q t) → (cells : List A) (t : A) → With P cells t → With Q cells t
  with_more P Q more cells t (inl h) = inl (more t h)
  with_more P Q more cells t (inr h) = inr h

  pub gates_more : (P Q : A → Type 0) → ((t : A) → P t → Q t) → (cells : List A) → AreGates g P cells → AreGates g Q cells
  gates_more P Q more [] h = tt
  gates_more P Q more (c ∷ cells) h = (gate_more P Q more c h.0, gates_more (With P (c ∷ [])) (With Q (c ∷ [])) (with_more P Q more (c ∷ [])) cells h.1)

  -- what is known with one list after another
  with_both : (P : A → Type 0) (xs ys : List A) (t : A) → With (With P xs) ys t → With P (xs ++ ys) t
  with_both P xs ys t (inl (inl h)) = inl h
  with_both P xs ys t (inl (inr h)) = inr (Contains-append_left xs ys t h)
  with_both P xs ys t (inr h) = inr (Contains-append_right xs ys t h)

  with_split : (P : A → Type 0) (xs ys : List A) (t : A) → With P (xs ++ ys) t → With (With P xs) ys t
  with_split P xs ys t (inl h) = inl (inl h)
  with_split P xs ys t (inr h) = elim (Contains-append_cases xs ys t h) [
    | inl first ↦ inl (inr first)
    | inr second ↦ inr second
  ]

  pub gates_append : (P : A → Type 0) (xs ys : List A) → AreGates g P xs → AreGates g (With P xs) ys → AreGates g P (xs ++ ys)
  gates_append P [] ys h k = gates_more (With P []) P (λ t. by t) ys k
    where
      by : (t : A) → With P [] t → P t
      by t (inl p) = p
      by t (inr none) = absurd (none_in_nil t none)
  gates_append P (x ∷ xs) ys h k = (h.0, gates_append (With P (x ∷ [])) xs ys h.1 (gates_more (With P (x ∷ xs)) (With (With P (x ∷ [])) xs) (λ t. with_split P (x ∷ []) xs t) ys k))

  each_known : (P Q : A → Type 0) → ((t : A) → P t → Q t) → (xs : List A) → Each xs P → Each xs Q
  each_known P Q more xs h t has = more t (h t has)

  -- a circuit after cells that are made before
  pub built_after : (P : A → Type 0) (cells : List A) (made : Made A) → AreGates g P cells → IsBuilt g (With P cells) made → IsBuilt g P (record { bits = made.bits; cells = cells ++ made.cells })
  built_after P cells made h k = record {
    cells = gates_append P cells made.cells h k.cells;
    bits = each_known (With (With P cells) made.cells) (With P (cells ++ made.cells)) (with_both P cells made.cells) made.bits k.bits;
  }

  pub built_complements : (P : A → Type 0) (xs : List A) → Each xs P → AreGates g P (complements g xs) × Each (complements g xs) (With P (complements g xs))
  built_complements P [] p = (tt, each_nil (With P []))
  built_complements P (x ∷ xs) p =
      let c = g.inverse x in
      let Q = With P (c ∷ []) in
      let rest = built_complements Q xs (each_known P Q (λ t h. inl h) xs (each_tail P x xs p)) in (
        (inverse x (each_head P x xs p) refl, rest.0),
        each_cons (With P (c ∷ complements g xs)) c (complements g xs) (inr (contains_here c (complements g xs)))
            (each_known (With Q (complements g xs)) (With P (c ∷ complements g xs)) (with_both P (c ∷ []) (complements g xs)) (complements g xs) rest.1),
      )

  built_sum : (P : A → Type 0) (c : A) (xs ys : List A) → P c → Each xs P → Each ys P → IsBuilt g P (sum g c xs ys)
  built_sum P c [] ys first p q = record { cells = tt; bits = each_nil (With P []) }
  built_sum P c (a ∷ xs) [] first p q = record { cells = tt; bits = each_nil (With P []) }
  built_sum P c (a ∷ xs) (b ∷ ys) first p q =
      let d = g.differ a b in
      let s = g.differ d c in
      let x = g.both a b in
      let y = g.both d c in
      let next = g.either x y in
      let prefix = d ∷ s ∷ x ∷ y ∷ next ∷ [] in
      let Q = With P prefix in
      let pa = each_head P a xs p in
      let pb = each_head P b ys q in
      let here : AreGates g P prefix = (
        differ a b pa pb refl,
        (
          differ d c (inr (contains_here d [])) (inl first) refl,
          (
            both a b (inl (inl pa)) (inl (inl pb)) refl,
            (both d c (inl (inl (inr (contains_here d [])))) (inl (inl (inl first))) refl, (either x y (inl (inr (contains_here x []))) (inr (contains_here y [])) refl, tt)),
          ),
        ),
      ) in
      let last : Q next = inr (contains_there d (s ∷ x ∷ y ∷ next ∷ []) next (contains_there s (x ∷ y ∷ next ∷ []) next (contains_there x (y ∷ next ∷ []) next (contains_there y (next ∷ []) next (contains_here next []))))) in
      let rest = built_sum Q next xs ys last (each_known P Q (λ t h. inl h) xs (each_tail P a xs p)) (each_known P Q (λ t h. inl h) ys (each_tail P b ys q)) in
      let all = built_after P prefix (sum g next xs ys) here rest in
      record { cells = all.cells; bits = each_cons (With P (prefix ++ (sum g next xs ys).cells)) s (sum g next xs ys).bits (inr (contains_there d (s ∷ x ∷ y ∷ next ∷ (sum g next xs ys).cells) s (contains_here s (x ∷ y ∷ next ∷ (sum g next xs ys).cells)))) all.bits }

  built_difference : (P : A → Type 0) (xs ys : List A) → P g.one → Each xs P → Each ys P → IsBuilt g P (difference g xs ys)
  built_difference P xs ys one p q =
      let other = complements g ys in
      let first = built_complements P ys q in
      let Q = With P other in
      built_after P other (sum g g.one xs other) first.0 (built_sum Q g.one xs other (inl one) (each_known P Q (λ t h. inl h) xs p) first.1)

  built_equality : (P : A → Type 0) (xs ys : List A) → Each xs P → Each ys P → IsBuilt g P (equal_bits g xs ys)
  built_equality P [] ys p q = record { cells = tt; bits = each_nil (With P []) }
  built_equality P (a ∷ xs) [] p q = record { cells = tt; bits = each_nil (With P []) }
  built_equality P (a ∷ xs) (b ∷ ys) p q =
      let d = g.differ a b in
      let same = g.inverse d in
      let prefix = d ∷ same ∷ [] in
      let Q = With P prefix in
      let here : AreGates g P prefix = (differ a b (each_head P a xs p) (each_head P b ys q) refl, (inverse d (inr (contains_here d [])) refl, tt)) in
      let rest = built_equality Q xs ys (each_known P Q (λ t h. inl h) xs (each_tail P a xs p)) (each_known P Q (λ t h. inl h) ys (each_tail P b ys q)) in
      let all = built_after P prefix (equal_bits g xs ys) here rest in
      record { cells = all.cells; bits = each_cons (With P (prefix ++ (equal_bits g xs ys).cells)) same (equal_bits g xs ys).bits (inr (contains_there d (same ∷ (equal_bits g xs ys).cells) same (contains_here same (equal_bits g xs ys).cells))) all.bits }

  -- a gate of two operands
  abbrev Joins : (A → A → A) → Type 1
  Joins op = (P : A → Type 0) (a b : A) → P a → P b → IsGate g P (op a b)

  joins_both : Joins g.both
  joins_both P a b p q = both a b p q refl

  joins_either : Joins g.either
  joins_either P a b p q = either a b p q refl

  joins_differ : Joins g.differ
  joins_differ P a b p q = differ a b p q refl

  built_joined : (op : A → A → A) → Joins op → (P : A → Type 0) (x : A) (xs : List A) → P x → Each xs P → IsBuilt g P (accumulated op x xs)
  built_joined op is P x [] first p = record { cells = tt; bits = each_cons (With P []) x [] (inl first) (each_nil (With P [])) }
  built_joined op is P x (y ∷ ys) first p =
      let c = op x y in
      let Q = With P (c ∷ []) in
      built_after P (c ∷ []) (accumulated op c ys) (is P x y first (each_head P y ys p), tt) (built_joined op is Q c ys (inr (contains_here c [])) (each_known P Q (λ t h. inl h) ys (each_tail P y ys p)))

  built_joined_all : (op : A → A → A) → Joins op → (P : A → Type 0) (none : A) (xs : List A) → SomeOr xs (P none) → Each xs P → IsBuilt g P (joined_all op none xs)
  built_joined_all op is P none [] (inl some) p = absurd (omega (arith, some))
  built_joined_all op is P none [] (inr null) p = record { cells = tt; bits = each_cons (With P []) none [] (inl null) (each_nil (With P [])) }
  built_joined_all op is P none (x ∷ xs) given p = built_joined op is P x xs (each_head P x xs p) (each_tail P x xs p)

  some_reversed : (xs : List A) (B : Type 0) → SomeOr xs B → SomeOr (reverse xs) B
  some_reversed xs B (inl some) = inl (omega (arith, some, length-reverse xs))
  some_reversed xs B (inr other) = inr other

  built_folded : (op : A → A → A) → Joins op → (P : A → Type 0) (none : A) (xs : List A) → SomeOr xs (P none) → Each xs P → IsBuilt g P (folded op none xs)
  built_folded op is P none xs given p = built_joined_all op is P none (reverse xs) (some_reversed xs (P none) given) (each_reverse P xs p)

  built_inverted : (P : A → Type 0) (made : Made A) → IsBuilt g P made → IsBuilt g P (inverted g made)
  built_inverted P made first =
      let rest = built_complements (With P made.cells) made.bits first.bits in
      built_after P made.cells (record { bits = complements g made.bits; cells = complements g made.bits }) first.cells (record { cells = rest.0; bits = rest.1 })

  built_equal : (P : A → Type 0) (xs ys : List A) → SomeEqual xs ys (P g.one) → Each xs P → Each ys P → IsBuilt g P (equal g xs ys)
  built_equal P xs ys given p q =
      let each = equal_bits g xs ys in
      let first = built_equality P xs ys p q in
      built_after P each.cells (folded g.both g.one each.bits) first.cells (built_folded g.both joins_both (With P each.cells) g.one each.bits (by given) first.bits)
    where
      by : SomeEqual xs ys (P g.one) → SomeOr (equal_bits g xs ys).bits (With P (equal_bits g xs ys).cells g.one)
      by (inl some) = inl (omega (arith, some.0, (count-equal_bits g xs ys some.1).1))
      by (inr one) = inr (inl one)

  built_less : (P : A → Type 0) (so_far : A) (xs ys : List A) → P so_far → Each xs P → Each ys P → IsBuilt g P (less g so_far xs ys)
  built_less P so_far [] ys first p q = record { cells = tt; bits = each_cons (With P []) so_far [] (inl first) (each_nil (With P [])) }
  built_less P so_far (a ∷ xs) [] first p q = record { cells = tt; bits = each_cons (With P []) so_far [] (inl first) (each_nil (With P [])) }
  built_less P so_far (a ∷ xs) (b ∷ ys) first p q =
      let d = g.differ a b in
      let next = g.choice d b so_far in
      let prefix = d ∷ next ∷ [] in
      let Q = With P prefix in
      let pb = each_head P b ys q in
      let here : AreGates g P prefix = (differ a b (each_head P a xs p) pb refl, (choice d b so_far (inr (contains_here d [])) (inl pb) (inl first) refl, tt)) in
      built_after P prefix (less g next xs ys) here (built_less Q next xs ys (inr (contains_there d (next ∷ []) next (contains_here next []))) (each_known P Q (λ t h. inl h) xs (each_tail P a xs p)) (each_known P Q (λ t h. inl h) ys (each_tail P b ys q)))

  built_choices : (P : A → Type 0) (c : A) (ts es : List A) → P c → Each ts P → Each es P → AreGates g P (choices g c ts es)
  built_choices P c [] es first p q = tt
  built_choices P c (t ∷ ts) [] first p q = tt
  built_choices P c (t ∷ ts) (e ∷ es) first p q =
      let Q = With P (g.choice c t e ∷ []) in
      (choice c t e first (each_head P t ts p) (each_head P e es q) refl, built_choices Q c ts es (inl first) (each_known P Q (λ t h. inl h) ts (each_tail P t ts p)) (each_known P Q (λ t h. inl h) es (each_tail P e es q)))

  -- what a move gives of bits that are known
  abbrev Moves : (ℕ → List A → List A) → Type 1
  Moves move = (P : A → Type 0) → P g.zero → (n : ℕ) (xs : List A) → Each xs P → Each (move n xs) P

  built_shifted : (move : ℕ → List A → List A) → Moves move → (P : A → Type 0) → P g.zero → (n : ℕ) (amount xs : List A) → Each amount P → Each xs P → IsBuilt g P (shifted g move n amount xs)
  built_shifted move moves P null n [] xs p q = record { cells = tt; bits = each_known P (With P []) (λ t h. inl h) xs q }
  built_shifted move moves P null n (s ∷ amount) xs p q =
      let stage = choices g s (move n xs) xs in
      let Q = With P stage in
      built_after P stage (shifted g move (n + n) amount stage) (built_choices P s (move n xs) xs (each_head P s amount p) (moves P null n xs q) q)
      (built_shifted move moves Q (inl null) (n + n) amount stage (each_known P Q (λ t h. inl h) amount (each_tail P s amount p)) (λ t has. inr has))

  moves_up : Moves (up g.zero)
  moves_up P null n xs p = each_take P (length xs) (replicate n g.zero ++ xs) (each_append P (replicate n g.zero) xs (each_replicate P n g.zero null) p)

  moves_down : Moves (down g.zero)
  moves_down P null n xs p = each_append P (drop n xs) (replicate (min n (length xs)) g.zero) (each_drop P n xs p) (each_replicate P (min n (length xs)) g.zero null)

  built_truths : (op : A → A → A) → Joins op → (P : A → Type 0) (xs ys : List A) → SomeOr xs (P g.zero) → SomeOr ys (P g.zero) → Each xs P → Each ys P → IsBuilt g P (truths g op xs ys)
  built_truths op is P xs ys some other p q =
      let left = folded g.either g.zero xs in
      let right = folded g.either g.zero ys in
      let Q = With P left.cells in
      let R = With P (left.cells ++ right.cells) in
      let first = built_folded g.either joins_either P g.zero xs some p in
      let second = built_after P left.cells right first.cells (built_folded g.either joins_either Q g.zero ys (by other) (each_known P Q (λ t h. inl h) ys q)) in
      let left_bits = each_known Q R (λ t. prefix t) left.bits first.bits in
      built_after P (left.cells ++ right.cells) (joined_all op g.zero (left.bits ++ right.bits)) second.cells
      (built_joined_all op is R g.zero (left.bits ++ right.bits) (inl (one left.bits right.bits (left_one xs))) (each_append R left.bits right.bits left_bits second.bits))
    where
      by : SomeOr ys (P g.zero) → SomeOr ys (With P (folded g.either g.zero xs).cells g.zero)
      by (inl h) = inl h
      by (inr h) = inr (inl h)

      prefix : (t : A) → With P (folded g.either g.zero xs).cells t → With P ((folded g.either g.zero xs).cells ++ (folded g.either g.zero ys).cells) t
      prefix t (inl h) = inl h
      prefix t (inr h) = inr (Contains-append_left (folded g.either g.zero xs).cells (folded g.either g.zero ys).cells t h)

      left_one : (zs : List A) → 1 ≤ length (folded g.either g.zero zs).bits
      left_one zs = omega (arith, (count-folded g g.either g.zero zs).1)

      one : (us vs : List A) → 1 ≤ length us → 1 ≤ length (us ++ vs)
      one (u ∷ us) vs h = omega arith
      one [] vs h = absurd (omega (arith, h))

  -- what an operator on two words reads besides its operands
  abbrev pub Reads : (A → Type 0) → WordOp → List A → List A → Type 0
  Reads P ops.Plus xs ys = P g.zero
  Reads P ops.Minus xs ys = P g.one
  Reads P ops.Equal xs ys = SomeEqual xs ys (P g.one)
  Reads P ops.NotEqual xs ys = SomeEqual xs ys (P g.one)
  Reads P ops.Less xs ys = P g.zero
  Reads P ops.LessEqual xs ys = P g.zero
  Reads P ops.Greater xs ys = P g.zero
  Reads P ops.GreaterEqual xs ys = P g.zero
  Reads P ops.Left xs ys = P g.zero
  Reads P ops.Right xs ys = P g.zero
  Reads P ops.Both xs ys = SomeOr xs (P g.zero) × SomeOr ys (P g.zero)
  Reads P ops.Either xs ys = SomeOr xs (P g.zero) × SomeOr ys (P g.zero)

  pub word_built : (P : A → Type 0) (op : WordOp) (xs ys : List A) → Reads P op xs ys → Each xs P → Each ys P → IsBuilt g P (word_circuit g op xs ys)
  word_built P ops.Plus xs ys r p q = built_sum P g.zero xs ys r p q
  word_built P ops.Minus xs ys r p q = built_difference P xs ys r p q
  word_built P ops.Equal xs ys r p q = built_equal P xs ys r p q
  word_built P ops.NotEqual xs ys r p q = built_inverted P (equal g xs ys) (built_equal P xs ys r p q)
  word_built P ops.Less xs ys r p q = built_less P g.zero xs ys r p q
  word_built P ops.LessEqual xs ys r p q = built_inverted P (less g g.zero ys xs) (built_less P g.zero ys xs r q p)
  word_built P ops.Greater xs ys r p q = built_less P g.zero ys xs r q p
  word_built P ops.GreaterEqual xs ys r p q = built_inverted P (less g g.zero xs ys) (built_less P g.zero xs ys r p q)
  word_built P ops.Left xs ys r p q = built_shifted (up g.zero) moves_up P r 1 ys xs q p
  word_built P ops.Right xs ys r p q = built_shifted (down g.zero) moves_down P r 1 ys xs q p
  word_built P ops.Both xs ys r p q = built_truths g.both joins_both P xs ys r.0 r.1 p q
  word_built P ops.Either xs ys r p q = built_truths g.either joins_either P xs ys r.0 r.1 p q

  -- a reduction of no bits gives a constant
  pub record HasNone (P : A → Type 0) (xs : List A) : Type 0 where
    pub zero : SomeOr xs (P g.zero)
    pub one : SomeOr xs (P g.one)

  pub fold_built : (P : A → Type 0) (op : FoldOp) (xs : List A) → HasNone P xs → Each xs P → IsBuilt g P (fold_circuit g op xs)
  fold_built P folds.None xs r p = built_inverted P (folded g.either g.zero xs) (built_folded g.either joins_either P g.zero xs r.zero p)
  fold_built P folds.All xs r p = built_folded g.both joins_both P g.one xs r.one p
  fold_built P folds.NotAll xs r p = built_inverted P (folded g.both g.one xs) (built_folded g.both joins_both P g.one xs r.one p)
  fold_built P folds.Any xs r p = built_folded g.either joins_either P g.zero xs r.zero p
  fold_built P folds.NotAny xs r p = built_inverted P (folded g.either g.zero xs) (built_folded g.either joins_either P g.zero xs r.zero p)
  fold_built P folds.Odd xs r p = built_folded g.differ joins_differ P g.zero xs r.zero p
  fold_built P folds.NotOdd xs r p = built_inverted P (folded g.differ g.zero xs) (built_folded g.differ joins_differ P g.zero xs r.zero p)
