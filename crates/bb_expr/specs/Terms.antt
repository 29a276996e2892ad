-- What a bit of an expression is made of: constants, bits of nets, and operators on such bits. An operator is a cell.
use Rattle.std.specs.Prelude.{ℕ, Bool, false, true, not, ◌&&◌, ◌||◌, if◌then◌else◌, List}
use Rattle.bb_expr.specs.Values.{Bits}
use Rattle.bb_word.specs.Gates.{Gates}

pub data Term : Type 0 where
  Const : Bool → Term
  Net : List ℕ → ℕ → Term
  Not : Term → Term
  And : Term → Term → Term
  Or : Term → Term → Term
  Xor : Term → Term → Term
  Mux : Term → Term → Term → Term

-- its bit, given those of the nets
abbrev pub term_bit : Bits → Term → Bool
term_bit env (Const b) = b
term_bit env (Net n i) = env n i
term_bit env (Not a) = not (term_bit env a)
term_bit env (And a b) = term_bit env a && term_bit env b
term_bit env (Or a b) = term_bit env a || term_bit env b
term_bit env (Xor a b) = if term_bit env a then not (term_bit env b) else term_bit env b
term_bit env (Mux c t e) = if term_bit env c then term_bit env t else term_bit env e

-- each gate is one more operator
abbrev pub terms : Gates Term
terms = record {
  zero = Const false;
  one = Const true;
  inverse = Not;
  both = And;
  either = Or;
  differ = Xor;
  choice = Mux;
}
