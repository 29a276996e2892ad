-- Steps exist that make the cells of an operator on words, or of a reduction, after those of its operands: one for each cell, since
-- each is a gate of what is known before it.
use Rattle.std.proofs.Common.{◌≡◌, ℕ, zero, suc, ◌+◌, ◌*◌, ◌<◌, ◌≤◌, Bool, true, false, List, [], ◌∷◌, ◌++◌, length, map, reverse, get_or, Some, None, refl, sym, ap, ap₂, ◌∙◌, subst, inl, inr, arith, length-append, append_assoc, append-nil}
use Rattle.std.specs.Prelude.{All, Contains, if◌then◌else◌}
use Rattle.std.specs.List.{cons_option}
use Rattle.std.proofs.lemmas.List.{length-map, length-reverse}
use Rattle.std.proofs.lemmas.List.Elements.{Contains-append_left, Contains-append_right, All-nil, All-cons, All-weaker}
use Rattle.bb_lemmas.proofs.Members.{contains_here, contains_there, contains_cases, none_in_nil}
use Rattle.bb_ast.specs.declared.operators.WordOp.{WordOp}
use Rattle.bb_ast.specs.declared.operators.WordOp.TheVariants as ops
use Rattle.bb_ast.specs.declared.operators.FoldOp.{FoldOp}
use Rattle.bb_ast.specs.declared.operators.FoldOp.TheVariants as folds
use Rattle.bb_names.specs.declared.net.NetInfo.{NetInfo}
use Rattle.bb_word.specs.Words.{word_circuit, word_cells, AreWidths}
use Rattle.bb_word.specs.Folds.{fold_circuit, fold_cells}
use Rattle.bb_word.specs.Meanings.{word_width}
use Rattle.bb_lemmas.proofs.Each.{Each, each_head, each_tail, each_reverse}
use Rattle.bb_word.specs.Laws.GateLaws.{With, IsGate, inverse, both, either, differ, choice, AreGates, Reads as ReadsKnown, word_built, fold_built}
use Rattle.bb_word.specs.Laws.CountLaws.{word_count, fold_count, word_long, fold_long}
use Rattle.bb_expr.specs.declared.step.BitStep.{BitStep}
use Rattle.bb_expr.specs.declared.step.BitStep.TheVariants as steps
use Rattle.bb_expr.specs.Terms.{Term, Const, terms}
use Rattle.bb_expr.specs.Cells.{MadeTerms, without_cells}
use Rattle.bb_expr.specs.Lowered.{step_term, term_at, ReadsEarlier, is_operator}
use Rattle.bb_expr.specs.Inside.Growing.{Adds, word_joined, fold_joined}
use Rattle.bb_expr.proofs.RowLemmas.{terms-of-rows, terms-kept, adds-rows, adds-beside}
use Rattle.bb_expr.proofs.SomeRows.{Lowers, constants}

-- the place of what is known
picked : (f : ℕ → Term) (places : List ℕ) (known : List Term) → map f places ≡ known → (t : Term) (i : ℕ) → i < length known → get_or known i t ≡ t → f (get_or places i 0) ≡ t
picked f [] known same t i lt at = absurd (omega (arith, lt, ap length same))
picked f (p ∷ places) [] same t i lt at = absurd (omega (arith, lt))
picked f (p ∷ places) (k ∷ known) same t zero lt at = (let e : f p ≡ k = cc in e) ∙ at
picked f (p ∷ places) (k ∷ known) same t (suc i) lt at = picked f places known (cc) t i (omega (arith, lt)) at

within : (n : ℕ) (places : List ℕ) (i : ℕ) → All (λ k. k < n) places → i < length places → get_or places i 0 < n
within n places i all lt = all i 0 lt

module _ (nets : List NetInfo) where
  -- one more step, which is an operator on known bits
  one-more : (K : MadeTerms) (old now : List BitStep) (places : List ℕ) (c : Term) (s : BitStep) → Adds nets K old now places → ReadsEarlier nets (length now) s → is_operator s ≡ true
      → (map (term_at nets now) places ≡ K.bits → step_term nets s (term_at nets now) ≡ c)
      → Adds nets (record { bits = c ∷ K.bits; cells = K.cells ++ c ∷ [] }) old (now ++ s ∷ []) (length now ∷ places)
  one-more K old now places c s x reads op means =
      let rows = s ∷ [] in
      let reading = All-cons (ReadsEarlier nets (length now)) s [] reads (All-nil (ReadsEarlier nets (length now))) in
      adds-rows nets K old now (now ++ rows) rows places (length now ∷ places) (c ∷ K.bits) (c ∷ []) x refl reading
      (All-cons (λ k. k < length now + 1) (length now) places (omega arith) (All-weaker (λ k. k < length now) (λ k. k < length now + 1) (λ k lt. omega (arith, lt)) places x.within))
      (ap suc x.long) (omega arith)
      (λ ordered same. (
        ap₂ (λ t ts. t ∷ ts) (first (terms-of-rows nets now rows ordered reading) ∙ means same) (terms-kept nets now rows ordered places x.within ∙ same),
        ap (λ o. cons_option o []) (ap₂ (λ b t. if b then Some t else None) op (means same)),
      ))
    where
      first : {a b : Term} → a ∷ [] ≡ b ∷ [] → a ≡ b
      first e = cc

  gate-more : (K : MadeTerms) (old now : List BitStep) (places : List ℕ) (c : Term) → Adds nets K old now places → IsGate terms (Contains K.bits) c
      → (s : BitStep) × Adds nets (record { bits = c ∷ K.bits; cells = K.cells ++ c ∷ [] }) old (now ++ s ∷ []) (length now ∷ places)
  gate-more K old now places c x h = by h
    where
      place : (t : Term) → Contains K.bits t → ℕ
      place t has = get_or places has.0 0

      there : (t : Term) (has : Contains K.bits t) → place t has < length now
      there t has = within (length now) places has.0 x.within (omega (arith, has.1, x.long))

      term : (t : Term) (has : Contains K.bits t) → map (term_at nets now) places ≡ K.bits → term_at nets now (place t has) ≡ t
      term t has same = picked (term_at nets now) places K.bits same t has.0 has.1 has.2

      by : IsGate terms (Contains K.bits) c → (s : BitStep) × Adds nets (record { bits = c ∷ K.bits; cells = K.cells ++ c ∷ [] }) old (now ++ s ∷ []) (length now ∷ places)
      by (inverse a p is) = (steps.Not (place a p), one-more K old now places c (steps.Not (place a p)) x (there a p) refl (λ same. ap terms.inverse (term a p same) ∙ sym is))
      by (both a b p q is) =
          (steps.And (place a p) (place b q), one-more K old now places c (steps.And (place a p) (place b q)) x (there a p, there b q) refl (λ same. ap₂ terms.both (term a p same) (term b q same) ∙ sym is))
      by (either a b p q is) =
          (steps.Or (place a p) (place b q), one-more K old now places c (steps.Or (place a p) (place b q)) x (there a p, there b q) refl (λ same. ap₂ terms.either (term a p same) (term b q same) ∙ sym is))
      by (differ a b p q is) =
          (steps.Xor (place a p) (place b q), one-more K old now places c (steps.Xor (place a p) (place b q)) x (there a p, there b q) refl (λ same. ap₂ terms.differ (term a p same) (term b q same) ∙ sym is))
      by (choice s t e p q r is) = (
        steps.Mux (place s p) (place t q) (place e r),
        one-more K old now places c (steps.Mux (place s p) (place t q) (place e r)) x (there s p, there t q, there e r) refl
            (λ same. ap (λ z. terms.choice z (term_at nets now (place t q)) (term_at nets now (place e r))) (term s p same) ∙ ap₂ (terms.choice s) (term t q same) (term e r same) ∙ sym is),
      )

  -- steps for all of some cells, and a place for each of them
  record AreMade (K : MadeTerms) (cells : List Term) (P : Term → Type 0) (old now : List BitStep) : Type 0 where
    pub new : List BitStep
    pub places : List ℕ
    pub known : List Term
    pub adds : Adds nets (record { bits = known; cells = K.cells ++ cells }) old new places
    pub long : length new ≡ length now + length cells
    pub has : (t : Term) → With P cells t → Contains known t

  gates-more : (cells : List Term) (K : MadeTerms) (P : Term → Type 0) (old now : List BitStep) (places : List ℕ) → Adds nets K old now places → ((t : Term) → P t → Contains K.bits t) → AreGates terms P cells → AreMade K cells P old now
  gates-more [] K P old now places x knows h = record {
    new = now;
    places = places;
    known = K.bits;
    adds = subst (λ cs. Adds nets (record { bits = K.bits; cells = cs }) old now places) (sym (append-nil K.cells)) x;
    long = omega arith;
    has = λ t w. by t w;
  }
    where
      by : (t : Term) → With P [] t → Contains K.bits t
      by t (inl p) = knows t p
      by t (inr none) = absurd (none_in_nil t none)
  gates-more (c ∷ cells) K P old now places x knows h =
      let here = gate-more K old now places c x (gate_known P (Contains K.bits) knows c h.0) in
      let rest = gates-more cells (record { bits = c ∷ K.bits; cells = K.cells ++ c ∷ [] }) (With P (c ∷ [])) old (now ++ here.0 ∷ []) (length now ∷ places) here.1 more h.1 in
      record {
        new = rest.new;
        places = rest.places;
        known = rest.known;
        adds = subst (λ cs. Adds nets (record { bits = rest.known; cells = cs }) old rest.new rest.places) (append_assoc K.cells (c ∷ []) cells) rest.adds;
        long = omega (arith, rest.long, length-append now (here.0 ∷ []));
        has = λ t w. rest.has t (split t w);
      }
    where
      more : (t : Term) → With P (c ∷ []) t → Contains (c ∷ K.bits) t
      more t (inl p) = contains_there c K.bits t (knows t p)
      more t (inr e) = elim (contains_cases c [] t e) [
        | inl same ↦ subst (Contains (c ∷ K.bits)) same (contains_here c K.bits)
        | inr none ↦ absurd (none_in_nil t none)
      ]

      split : (t : Term) → With P (c ∷ cells) t → With (With P (c ∷ [])) cells t
      split t (inl p) = inl (inl p)
      split t (inr e) = elim (contains_cases c cells t e) [
        | inl same ↦ inl (inr (subst (Contains (c ∷ [])) same (contains_here c [])))
        | inr later ↦ inr later
      ]

      gate_known : (P Q : Term → Type 0) → ((t : Term) → P t → Q t) → (c : Term) → IsGate terms P c → IsGate terms Q c
      gate_known P Q k c (inverse a p is) = inverse a (k a p) is
      gate_known P Q k c (both a b p q is) = both a b (k a p) (k b q) is
      gate_known P Q k c (either a b p q is) = either a b (k a p) (k b q) is
      gate_known P Q k c (differ a b p q is) = differ a b (k a p) (k b q) is
      gate_known P Q k c (choice s t e p q r is) = choice s t e (k s p) (k t q) (k e r) is

  -- the places of some of the known bits
  abbrev picks : (known : List Term) (places : List ℕ) (bits : List Term) → Each bits (Contains known) → List ℕ
  picks known places [] has = []
  picks known places (b ∷ bits) has = get_or places (each_head (Contains known) b bits has).0 0 ∷ picks known places bits (each_tail (Contains known) b bits has)

  picks-long : (known : List Term) (places : List ℕ) (bits : List Term) (has : Each bits (Contains known)) → length (picks known places bits has) ≡ length bits
  picks-long known places [] has = refl
  picks-long known places (b ∷ bits) has = ap suc (picks-long known places bits (each_tail (Contains known) b bits has))

  picks-within : (n : ℕ) (known : List Term) (places : List ℕ) (bits : List Term) (has : Each bits (Contains known)) → length places ≡ length known → All (λ k. k < n) places → All (λ k. k < n) (picks known places bits has)
  picks-within n known places [] has long all = All-nil (λ k. k < n)
  picks-within n known places (b ∷ bits) has long all =
      let here = each_head (Contains known) b bits has in
      All-cons (λ k. k < n) (get_or places here.0 0) (picks known places bits (each_tail (Contains known) b bits has)) (within n places here.0 all (omega (arith, here.1, long)))
      (picks-within n known places bits (each_tail (Contains known) b bits has) long all)

  picks-terms : (f : ℕ → Term) (known : List Term) (places : List ℕ) (bits : List Term) (has : Each bits (Contains known)) → map f places ≡ known → map f (picks known places bits has) ≡ bits
  picks-terms f known places [] has same = refl
  picks-terms f known places (b ∷ bits) has same =
      let here = each_head (Contains known) b bits has in
      ap₂ (λ t ts. t ∷ ts) (picked f places known same b here.0 here.1 here.2) (picks-terms f known places bits (each_tail (Contains known) b bits has) same)

  select : (known bits cells : List Term) (old now : List BitStep) (places : List ℕ) → Adds nets (record { bits = known; cells = cells }) old now places → Each bits (Contains known)
      → length now ≤ length old + (length bits + 3 * length cells) → Lowers nets (record { bits = bits; cells = cells }) old
  select known bits cells old now places x has few = (
    now,
    picks known places bits has,
    record {
      more = x.more;
      grows = x.grows;
      within = picks-within (length now) known places bits has x.long x.within;
      long = picks-long known places bits has;
      few = omega (arith, few, picks-long known places bits has);
      makes = λ before h. let p = x.makes before h in (p.0, picks-terms (term_at nets now) known places bits has p.1);
    },
  )

  -- a circuit over known bits and these constants
  circuit-lowers : (K : MadeTerms) (consts : List Bool) (old now : List BitStep) (places : List ℕ) (cells bits : List Term) → Adds nets K old now places
      → AreGates terms (Contains (K.bits ++ map Const consts)) cells → Each bits (With (Contains (K.bits ++ map Const consts)) cells)
      → length K.bits + length consts + length cells ≤ length bits + 3 * length cells → Lowers nets (record { bits = bits; cells = K.cells ++ cells }) old
  circuit-lowers K consts old now places cells bits x gates has few =
      let c = constants nets consts now in
      let L : MadeTerms = record { bits = K.bits ++ map Const consts; cells = K.cells } in
      let y : Adds nets L old c.0 (places ++ c.1) = subst (λ cs. Adds nets (record { bits = K.bits ++ map Const consts; cells = cs }) old c.0 (places ++ c.1)) (append-nil K.cells) (adds-beside nets K (without_cells (map Const consts)) old now c.0 places c.1 x c.2) in
      let made = gates-more cells L (Contains L.bits) old c.0 (places ++ c.1) y (λ t h. h) gates in
      select made.known bits (K.cells ++ cells) old made.new made.places made.adds (λ t h. made.has t (has t h))
      (omega (arith, made.long, y.few, y.long, length-append K.bits (map Const consts), length-map consts Const, length-append K.cells cells, few))

-- the constants that an operator reads
abbrev constants_of : WordOp → List Bool
constants_of ops.Plus = false ∷ []
constants_of ops.Minus = true ∷ []
constants_of ops.Equal = []
constants_of ops.NotEqual = []
constants_of ops.Less = false ∷ []
constants_of ops.LessEqual = false ∷ []
constants_of ops.Greater = false ∷ []
constants_of ops.GreaterEqual = false ∷ []
constants_of ops.Left = false ∷ []
constants_of ops.Right = false ∷ []
constants_of ops.Both = []
constants_of ops.Either = []

shift-few : (l r : ℕ) → 1 ≤ l → 1 ≤ r → l + r + 1 + r * l ≤ l + 3 * (r * l)
shift-few (suc l) (suc r) some other = grind arith
shift-few zero r some other = absurd (omega (arith, some))
shift-few (suc l) zero some other = absurd (omega (arith, other))

-- operands, constants and cells are few beside the bits and three times the cells
word-few : (op : WordOp) (l r : ℕ) → AreWidths op l r → l + r + length (constants_of op) + word_cells op l r ≤ word_width op l + 3 * word_cells op l r
word-few ops.Plus l r w = omega (arith, w.one, w.some_left)
word-few ops.Minus l r w = omega (arith, w.one, w.some_left)
word-few ops.Equal l r w = omega (arith, w.one, w.some_left)
word-few ops.NotEqual l r w = omega (arith, w.one, w.some_left)
word-few ops.Less l r w = omega (arith, w.one, w.some_left)
word-few ops.LessEqual l r w = omega (arith, w.one, w.some_left)
word-few ops.Greater l r w = omega (arith, w.one, w.some_left)
word-few ops.GreaterEqual l r w = omega (arith, w.one, w.some_left)
word-few ops.Left l r w = shift-few l r w.some_left w.some_right
word-few ops.Right l r w = shift-few l r w.some_left w.some_right
word-few ops.Both l r w = omega (arith, w.some_left, w.some_right)
word-few ops.Either l r w = omega (arith, w.some_left, w.some_right)

word-reads : (op : WordOp) (known xs ys : List Term) → AreWidths op (length xs) (length ys) → ReadsKnown terms (Contains (known ++ map Const (constants_of op))) op xs ys
word-reads ops.Plus known xs ys w = Contains-append_right known (Const false ∷ []) (Const false) (contains_here (Const false) [])
word-reads ops.Minus known xs ys w = Contains-append_right known (Const true ∷ []) (Const true) (contains_here (Const true) [])
word-reads ops.Equal known xs ys w = inl (w.some_left, w.one)
word-reads ops.NotEqual known xs ys w = inl (w.some_left, w.one)
word-reads ops.Less known xs ys w = Contains-append_right known (Const false ∷ []) (Const false) (contains_here (Const false) [])
word-reads ops.LessEqual known xs ys w = Contains-append_right known (Const false ∷ []) (Const false) (contains_here (Const false) [])
word-reads ops.Greater known xs ys w = Contains-append_right known (Const false ∷ []) (Const false) (contains_here (Const false) [])
word-reads ops.GreaterEqual known xs ys w = Contains-append_right known (Const false ∷ []) (Const false) (contains_here (Const false) [])
word-reads ops.Left known xs ys w = Contains-append_right known (Const false ∷ []) (Const false) (contains_here (Const false) [])
word-reads ops.Right known xs ys w = Contains-append_right known (Const false ∷ []) (Const false) (contains_here (Const false) [])
word-reads ops.Both known xs ys w = (inl w.some_left, inl w.some_right)
word-reads ops.Either known xs ys w = (inl w.some_left, inl w.some_right)

fold-few : (op : FoldOp) (l : ℕ) → 1 ≤ l → l + 0 + fold_cells op l ≤ 1 + 3 * fold_cells op l
fold-few folds.None l some = omega (arith, some)
fold-few folds.All l some = omega (arith, some)
fold-few folds.NotAll l some = omega (arith, some)
fold-few folds.Any l some = omega (arith, some)
fold-few folds.NotAny l some = omega (arith, some)
fold-few folds.Odd l some = omega (arith, some)
fold-few folds.NotOdd l some = omega (arith, some)

module _ (nets : List NetInfo) where
  -- what is in a list that is turned around
  turned : (xs ys zs : List Term) → ((t : Term) → Contains xs t → Contains ys t) → Each (reverse xs) (Contains (ys ++ zs))
  turned xs ys zs among = each_reverse (Contains (ys ++ zs)) xs (λ t has. Contains-append_left ys zs t (among t has))

  pub word-lowers : (op : WordOp) (m n : MadeTerms) (old mid now : List BitStep) (a b : List ℕ) → Adds nets m old mid a → Adds nets n mid now b → AreWidths op (length m.bits) (length n.bits) → Lowers nets (word_joined op m n) old
  word-lowers op m n old mid now a b x y w =
      let K : MadeTerms = record { bits = m.bits ++ n.bits; cells = m.cells ++ n.cells } in
      let consts = constants_of op in
      let known = Contains (K.bits ++ map Const consts) in
      let xs = reverse m.bits in
      let ys = reverse n.bits in
      let c = word_circuit terms op xs ys in
      let wide : AreWidths op (length xs) (length ys) = subst (λ i. AreWidths op i (length ys)) (sym (length-reverse m.bits)) (subst (λ i. AreWidths op (length m.bits) i) (sym (length-reverse n.bits)) w) in
      let built = word_built terms known op xs ys (word-reads op K.bits xs ys wide)
      (turned m.bits K.bits (map Const consts) (λ t has. Contains-append_left m.bits n.bits t has)) (turned n.bits K.bits (map Const consts) (λ t has. Contains-append_right m.bits n.bits t has)) in
      let bits : length (reverse c.bits) ≡ word_width op (length m.bits) = length-reverse c.bits ∙ word_long terms op xs ys wide.one ∙ ap (word_width op) (length-reverse m.bits) in
      let cells : length c.cells ≡ word_cells op (length m.bits) (length n.bits) = word_count terms op xs ys wide.one ∙ ap₂ (word_cells op) (length-reverse m.bits) (length-reverse n.bits) in
      circuit-lowers nets K consts old now (a ++ b) c.cells (reverse c.bits) (adds-beside nets m n old mid now a b x y) built.cells (each_reverse (With known c.cells) c.bits built.bits)
      (omega (arith, bits, cells, length-append m.bits n.bits, word-few op (length m.bits) (length n.bits) w))

  pub fold-lowers : (op : FoldOp) (m : MadeTerms) (old : List BitStep) → Lowers nets m old → 1 ≤ length m.bits → Lowers nets (fold_joined op m) old
  fold-lowers op m old h some =
      let known = Contains (m.bits ++ []) in
      let xs = reverse m.bits in
      let c = fold_circuit terms op xs in
      let long : 1 ≤ length xs = omega (arith, some, length-reverse m.bits) in
      let built = fold_built terms known op xs (record { zero = inl long; one = inl long }) (turned m.bits m.bits [] (λ t has. has)) in
      let bits : length (reverse c.bits) ≡ 1 = length-reverse c.bits ∙ fold_long terms op xs in
      let cells : length c.cells ≡ fold_cells op (length m.bits) = fold_count terms op xs ∙ ap (fold_cells op) (length-reverse m.bits) in
      circuit-lowers nets m [] old h.0 h.1 c.cells (reverse c.bits) h.2 built.cells (each_reverse (With known c.cells) c.bits built.bits) (omega (arith, bits, cells, fold-few op (length m.bits) some))
