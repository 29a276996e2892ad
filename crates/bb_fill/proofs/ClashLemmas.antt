-- When an output clashes with a register.
use Rattle.std.proofs.Common.{◌≡◌, ◌≢◌, ◌∙◌, ◌⊎◌, inl, inr, ℕ, ◌<◌, Bool, true, false, not, List, [], length, Contains, sym, subst, arith}
use Rattle.std.specs.Prelude.{MatchBool}
use Rattle.std.proofs.lemmas.List.{length-map}
use Rattle.bb_lemmas.proofs.Orders.{less_or_same}
use Rattle.bb_net.specs.Flats.{FlatNet, HasDistinctNames}
use Rattle.bb_net.specs.CutPoints.{state_texts}
use Rattle.bb_fill.specs.Clashes.{IsInputClash, IsOutputClash, IsItsRegister, output_cell, register_text, state_cell}
use Rattle.bb_fill.specs.Filled.{output_text}

-- registers of one text are one
pub one_register : (f : FlatNet) (a b : ℕ) → HasDistinctNames f → a < length f.regs → b < length f.regs → register_text f a ≡ register_text f b → a ≡ b
one_register f a b apart lt lu is = by (less_or_same a b)
  where
    by : (a < b) ⊎ ((b < a) ⊎ (a ≡ b)) → a ≡ b
    by (inl h) = absurd (apart.regs a b [] h (omega (arith, lu, length-map f.regs (λ q. q.text))) is)
    by (inr (inl h)) = absurd (apart.regs b a [] h (omega (arith, lt, length-map f.regs (λ q. q.text))) (sym is))
    by (inr (inr h)) = h

pub output_clash : (f : FlatNet) (o r : ℕ) (b : Bool) → HasDistinctNames f → r < length f.regs → output_text f o ≡ register_text f r
    → MatchBool b (output_cell f o ≡ state_cell f r) (output_cell f o ≢ state_cell f r) → MatchBool (not b) (IsOutputClash f o) (IsItsRegister f o)
output_clash f o r true apart lt is same = λ k lk at. let one : r ≡ k = one_register f r k apart lt lk (sym is ∙ at) in subst (λ j. output_cell f o ≡ state_cell f j) one same
output_clash f o r false apart lt is other = (r, lt, is, other)

-- both cannot be

pub input_or_not : (f : FlatNet) (text : List ℕ) → IsInputClash f text → (Contains (state_texts f) text → ⊥) × (Contains f.outs text → ⊥) → ⊥
input_or_not f text (inl h) n = n.0 h
input_or_not f text (inr h) n = n.1 h

pub output_or_not : (f : FlatNet) (o : ℕ) → IsOutputClash f o → IsItsRegister f o → ⊥
output_or_not f o clash its = clash.3 (its clash.0 clash.1 clash.2)
