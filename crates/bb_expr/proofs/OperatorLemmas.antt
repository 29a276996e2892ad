-- The operators of chains as steps and as cells, and a chain of or as far as it has come.
use Rattle.std.proofs.Common.{◌≡◌, ◌≢◌, ℕ, ◌+◌, ◌*◌, ◌<◌, ◌≤◌, List, [], ◌∷◌, ◌++◌, length, drop, get_or, refl, sym, ap, ◌∙◌, subst, arith, append_assoc, append-nil}
use Rattle.std.proofs.lemmas.List.{at_drop_more, at_drop_all, get_or_default}
use Rattle.bb_ast.specs.declared.expr.Op.{Op}
use Rattle.bb_ast.specs.declared.expr.Op.TheVariants as ops
use Rattle.bb_names.specs.declared.net.NetInfo.{NetInfo}
use Rattle.bb_expr.specs.declared.step.BitStep.{BitStep}
use Rattle.bb_expr.specs.declared.step.BitStep.TheVariants as steps
use Rattle.bb_expr.specs.Lists.{bitwise}
use Rattle.bb_expr.specs.Terms.{Term, Or, Xor}
use Rattle.bb_expr.specs.Cells.{MadeTerms, op_cells, complement_terms, operated, chained, any_from, any_bit}
use Rattle.bb_expr.specs.Inside.Growing.{Adds, AddsRow, paired, gate_step, gate_term, gated, complemented, reduced}
use Rattle.bb_expr.proofs.GateLemmas.{IsGate, adds-gates}
use Rattle.bb_expr.proofs.ChoiceLemmas.{adds-or}

module _ (nets : List NetInfo) where
  op-gate : (op : Op) → IsGate nets (gate_step op) (gate_term op)
  op-gate ops.And = record { reads = λ n x y a b. (a, b); is = λ x y. refl; means = λ v x y. refl }
  op-gate ops.Or = record { reads = λ n x y a b. (a, b); is = λ x y. refl; means = λ v x y. refl }
  op-gate ops.Xor = record { reads = λ n x y a b. (a, b); is = λ x y. refl; means = λ v x y. refl }
  op-gate ops.Xnor = record { reads = λ n x y a b. (a, b); is = λ x y. refl; means = λ v x y. refl }

  pub adds-gated : (op : Op) (m n : MadeTerms) (old mid before new : List BitStep) (a b out : List ℕ) → Adds nets m old mid a → Adds nets n mid before b → length a ≡ length b
      → AddsRow (paired (gate_step op) a b) before new out → Adds nets (gated op m n) old new out
  adds-gated op m n old mid before new a b out x y long row = adds-gates nets (gate_step op) (gate_term op) (op-gate op) m n old mid before new a b out x y long row

  -- an exclusive or with an inversion, and the others without
  pub inverted-xor : (m n : MadeTerms) (old new : List BitStep) (out : List ℕ) → Adds nets (complemented (gated ops.Xnor m n)) old new out → Adds nets (chained m n (operated ops.Xnor m.bits n.bits)) old new out
  inverted-xor m n old new out h =
      subst (λ cells. Adds nets (record { bits = complement_terms (bitwise Xor m.bits n.bits); cells = cells }) old new out)
      (append_assoc (m.cells ++ n.cells) (bitwise Xor m.bits n.bits) (complement_terms (bitwise Xor m.bits n.bits))) h

  -- a chain of or, with the bits that are left
  pub record IsOnTheWay (m : MadeTerms) (old now : List BitStep) (places : List ℕ) : Type 0 where
    pub term : Term
    pub left : List Term
    pub cells : List Term
    pub adds : Adds nets (record { bits = term ∷ left; cells = cells }) old now places
    pub bit : (any_from term left).0 ≡ (any_bit m.bits).0
    pub all : cells ++ (any_from term left).1 ≡ m.cells ++ (any_bit m.bits).1

  begun : (bits cells : List Term) (old now : List BitStep) (places : List ℕ) → 1 ≤ length places → Adds nets (record { bits = bits; cells = cells }) old now places → IsOnTheWay (record { bits = bits; cells = cells }) old now places
  begun [] cells old now places some h = absurd (omega (arith, some, h.long))
  begun (t ∷ ts) cells old now places some h = record { term = t; left = ts; cells = cells; adds = h; bit = refl; all = refl }

  pub way-begun : (m : MadeTerms) (old now : List BitStep) (places : List ℕ) → 1 ≤ length places → Adds nets m old now places → IsOnTheWay m old now places
  way-begun m old now places some h = begun m.bits m.cells old now places some h

  further : (m : MadeTerms) (old now new : List BitStep) (a b : ℕ) (ks : List ℕ) (term : Term) (left cells : List Term) → Adds nets (record { bits = term ∷ left; cells = cells }) old now (a ∷ b ∷ ks)
      → (any_from term left).0 ≡ (any_bit m.bits).0 → cells ++ (any_from term left).1 ≡ m.cells ++ (any_bit m.bits).1 → new ≡ now ++ steps.Or a b ∷ [] → IsOnTheWay m old new (length now ∷ ks)
  further m old now new a b ks term [] cells h bit all grows = absurd (omega (arith, h.long))
  further m old now new a b ks term (y ∷ left) cells h bit all grows = record {
    term = Or term y;
    left = left;
    cells = cells ++ Or term y ∷ [];
    adds = adds-or nets old now new a b ks term y left cells h grows;
    bit = bit;
    all = append_assoc cells (Or term y ∷ []) (any_from (Or term y) left).1 ∙ all;
  }

  pub way-further : (m : MadeTerms) (old now new : List BitStep) (bits : List ℕ) (i a b place : ℕ) → i < length bits → b ≡ get_or bits i b → IsOnTheWay m old now (a ∷ drop i bits) → new ≡ now ++ steps.Or a b ∷ [] → place ≡ length now
      → IsOnTheWay m old new (place ∷ drop (i + 1) bits)
  way-further m old now new bits i a b place within at h grows is =
      let here : IsOnTheWay m old now (a ∷ b ∷ drop (i + 1) bits) = subst (IsOnTheWay m old now) (ap (λ l. a ∷ l) (at_drop_more (λ l. l) bits i b within ∙ ap (λ k. k ∷ drop (i + 1) bits) (sym at))) h in
      subst (λ k. IsOnTheWay m old new (k ∷ drop (i + 1) bits)) (sym is) (further m old now new a b (drop (i + 1) bits) here.term here.left here.cells here.adds here.bit here.all grows)

  ended : (m : MadeTerms) (old now : List BitStep) (a : ℕ) (term : Term) (left cells : List Term) → Adds nets (record { bits = term ∷ left; cells = cells }) old now (a ∷ [])
      → (any_from term left).0 ≡ (any_bit m.bits).0 → cells ++ (any_from term left).1 ≡ m.cells ++ (any_bit m.bits).1 → Adds nets (reduced m) old now (a ∷ [])
  ended m old now a term [] cells h bit all =
      subst (λ bs. Adds nets (record { bits = bs; cells = m.cells ++ (any_bit m.bits).1 }) old now (a ∷ [])) (ap (λ t. t ∷ []) bit)
      (subst (λ cs. Adds nets (record { bits = term ∷ []; cells = cs }) old now (a ∷ [])) (sym (append-nil cells) ∙ all) h)
  ended m old now a term (y ∷ left) cells h bit all = absurd (omega (arith, h.long))

  pub way-ended : (m : MadeTerms) (old now : List BitStep) (bits : List ℕ) (i a : ℕ) → length bits ≤ i → IsOnTheWay m old now (a ∷ drop i bits) → Adds nets (reduced m) old now (a ∷ [])
  way-ended m old now bits i a past h =
      let here : IsOnTheWay m old now (a ∷ []) = subst (IsOnTheWay m old now) (ap (λ l. a ∷ l) (at_drop_all (λ l. l) bits i past)) h in
      ended m old now a here.term here.left here.cells here.adds here.bit here.all

  -- the other operators have no inversion
  pub plain-operated : (op : Op) (m n : MadeTerms) (old new : List BitStep) (out : List ℕ) → op ≢ ops.Xnor → Adds nets (gated op m n) old new out → Adds nets (chained m n (operated op m.bits n.bits)) old new out
  plain-operated ops.And m n old new out other h = h
  plain-operated ops.Or m n old new out other h = h
  plain-operated ops.Xor m n old new out other h = h
  plain-operated ops.Xnor m n old new out other h = absurd (other refl)

  pub xnor-operated : (op : Op) (m n : MadeTerms) (old new : List BitStep) (out : List ℕ) → op ≡ ops.Xnor → Adds nets (complemented (gated op m n)) old new out → Adds nets (chained m n (operated op m.bits n.bits)) old new out
  xnor-operated op m n old new out is h =
      subst (λ o. Adds nets (chained m n (operated o m.bits n.bits)) old new out) (sym is) (inverted-xor m n old new out (subst (λ o. Adds nets (complemented (gated o m n)) old new out) is h))

  pub way-first : (m : MadeTerms) (old now : List BitStep) (bits : List ℕ) → 1 ≤ length bits → Adds nets m old now bits → IsOnTheWay m old now (get_or bits 0 0 ∷ drop 1 bits)
  way-first m old now bits some h = subst (IsOnTheWay m old now) (at_drop_more (λ l. l) bits 0 0 (omega (arith, some))) (way-begun m old now bits some h)

pub op-some : (op : Op) (w : ℕ) → w ≤ op_cells op * w
op-some ops.And w = omega arith
op-some ops.Or w = omega arith
op-some ops.Xor w = omega arith
op-some ops.Xnor w = omega arith

pub xnor-twice : (op : Op) (w : ℕ) → op ≡ ops.Xnor → w + w ≡ op_cells op * w
xnor-twice ops.And w is = cc
xnor-twice ops.Or w is = cc
xnor-twice ops.Xor w is = cc
xnor-twice ops.Xnor w is = omega arith

pub read-at : (xs : List ℕ) (i : ℕ) → i < length xs → get_or xs i 0 ≡ get_or xs i (get_or xs i 0)
read-at xs i lt = get_or_default xs i 0 (get_or xs i 0) lt

pub op-once : (op : Op) (w : ℕ) → op ≢ ops.Xnor → w ≡ op_cells op * w
op-once ops.And w other = omega arith
op-once ops.Or w other = omega arith
op-once ops.Xor w other = omega arith
op-once ops.Xnor w other = absurd (other refl)
