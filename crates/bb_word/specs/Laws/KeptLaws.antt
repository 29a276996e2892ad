-- What is so of each bit of the operands, and goes through gates that are among some cells, is so of all that a circuit makes where
-- its cells are among them.
use Rattle.std.proofs.Common.{List, [], ◌∷◌, Contains, sym, subst, inl, inr}
use Rattle.bb_lemmas.proofs.Members.{contains_cases, none_in_nil}
use Rattle.bb_ast.specs.declared.operators.WordOp.{WordOp}
use Rattle.bb_ast.specs.declared.operators.WordOp.TheVariants as ops
use Rattle.bb_ast.specs.declared.operators.FoldOp.{FoldOp}
use Rattle.bb_word.specs.Words.{word_circuit}
use Rattle.bb_word.specs.Folds.{fold_circuit}
use Rattle.bb_word.specs.Gates.{Gates, Made}
use Rattle.bb_lemmas.proofs.Each.{Each, AreIn, each_nil, each_cons, each_head, each_tail}
use Rattle.bb_word.specs.Laws.GateLaws.{With, IsGate, inverse, both, either, differ, choice, AreGates, IsBuilt, Reads, word_built, fold_built}

module _ {A : Type 0} where
  -- a property of the results of gates that are among the cells, where their operands have it
  pub record IsKept (g : Gates A) (P : A → Type 0) (cells : List A) : Type 0 where
    pub zero : P g.zero
    pub one : P g.one
    pub inverse : (a : A) → Contains cells (g.inverse a) → P a → P (g.inverse a)
    pub both : (a b : A) → Contains cells (g.both a b) → P a → P b → P (g.both a b)
    pub either : (a b : A) → Contains cells (g.either a b) → P a → P b → P (g.either a b)
    pub differ : (a b : A) → Contains cells (g.differ a b) → P a → P b → P (g.differ a b)
    pub choice : (c t e : A) → Contains cells (g.choice c t e) → P c → P t → P e → P (g.choice c t e)

  -- each bit and each cell of what is made
  pub record AreKept (P : A → Type 0) (made : Made A) : Type 0 where
    pub bits : Each made.bits P
    pub cells : Each made.cells P

module _ {A : Type 0} (g : Gates A) (P : A → Type 0) (all : List A) (k : IsKept g P all) where
  kept_gate : (Q : A → Type 0) → ((t : A) → Q t → P t) → (c : A) → Contains all c → IsGate g Q c → P c
  kept_gate Q known c there (inverse a p is) = subst P (sym is) (k.inverse a (subst (Contains all) is there) (known a p))
  kept_gate Q known c there (both a b p q is) = subst P (sym is) (k.both a b (subst (Contains all) is there) (known a p) (known b q))
  kept_gate Q known c there (either a b p q is) = subst P (sym is) (k.either a b (subst (Contains all) is there) (known a p) (known b q))
  kept_gate Q known c there (differ a b p q is) = subst P (sym is) (k.differ a b (subst (Contains all) is there) (known a p) (known b q))
  kept_gate Q known c there (choice s t e p q r is) = subst P (sym is) (k.choice s t e (subst (Contains all) is there) (known s p) (known t q) (known e r))

  kept_gates : (Q : A → Type 0) → ((t : A) → Q t → P t) → (cells : List A) → AreIn cells all → AreGates g Q cells → Each cells P
  kept_gates Q known [] among gates = each_nil P
  kept_gates Q known (c ∷ cells) among gates =
      let here = kept_gate Q known c (each_head (Contains all) c cells among) gates.0 in
      each_cons P c cells here (kept_gates (With Q (c ∷ [])) (more here) cells (each_tail (Contains all) c cells among) gates.1)
    where
      more : P c → (t : A) → With Q (c ∷ []) t → P t
      more here t (inl h) = known t h
      more here t (inr h) = elim (contains_cases c [] t h) [
        | inl e ↦ subst P e here
        | inr none ↦ absurd (none_in_nil t none)
      ]

  kept_made : (made : Made A) → AreIn made.cells all → IsBuilt g P made → AreKept P made
  kept_made made among built =
      let cells = kept_gates P (λ t h. h) made.cells among built.cells in
      record { bits = λ t has. by cells t (built.bits t has); cells = cells }
    where
      by : Each made.cells P → (t : A) → With P made.cells t → P t
      by cells t (inl h) = h
      by cells t (inr h) = cells t h

  reads : (op : WordOp) (xs ys : List A) → Reads g P op xs ys
  reads ops.Plus xs ys = k.zero
  reads ops.Minus xs ys = k.one
  reads ops.Equal xs ys = inr k.one
  reads ops.NotEqual xs ys = inr k.one
  reads ops.Less xs ys = k.zero
  reads ops.LessEqual xs ys = k.zero
  reads ops.Greater xs ys = k.zero
  reads ops.GreaterEqual xs ys = k.zero
  reads ops.Left xs ys = k.zero
  reads ops.Right xs ys = k.zero
  reads ops.Both xs ys = (inr k.zero, inr k.zero)
  reads ops.Either xs ys = (inr k.zero, inr k.zero)

  pub kept_word : (op : WordOp) (xs ys : List A) → Each xs P → Each ys P → AreIn (word_circuit g op xs ys).cells all → AreKept P (word_circuit g op xs ys)
  kept_word op xs ys p q among = kept_made (word_circuit g op xs ys) among (word_built g P op xs ys (reads op xs ys) p q)

  pub kept_fold : (op : FoldOp) (xs : List A) → Each xs P → AreIn (fold_circuit g op xs).cells all → AreKept P (fold_circuit g op xs)
  kept_fold op xs p among = kept_made (fold_circuit g op xs) among (fold_built g P op xs (record { zero = inr k.zero; one = inr k.one }) p)
