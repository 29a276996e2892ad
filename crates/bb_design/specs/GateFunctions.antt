-- What a gate makes of its inputs (IEEE 1364-2005, 7.2 and 7.3): and, or and xor take them together from the left, so
-- that of one input it is that input, and xor is the parity; nand, nor, xnor and not invert. buf and not have one
-- input, and all their outputs are the same.
use Rattle.std.specs.Prelude.{Bool, true, false, not, ◌&&◌, ◌||◌, if◌then◌else◌, List, [], ◌∷◌, ◌++◌, fold}
use Rattle.bb_ast.specs.declared.module.Gate.{Gate}
use Rattle.bb_ast.specs.declared.module.Gate.TheVariants as gates
use Rattle.bb_bits.specs.Bits.{xor}
use Rattle.bb_expr.specs.Terms.{Term}
use Rattle.bb_expr.specs.Terms as term

-- the operations on what represents a bit; nothing is what no inputs give, and every gate has an input
pub record Operations (A : Type 0) : Type 0 where
  pub nothing : A
  pub inverse : A → A
  pub both : A → A → A
  pub either : A → A → A
  pub differ : A → A → A

-- on bits
abbrev pub on_bits : Operations Bool
on_bits = record { nothing = false; inverse = not; both = ◌&&◌; either = ◌||◌; differ = xor }

-- on what bits are made of: a cell each
abbrev pub on_terms : Operations Term
on_terms = record { nothing = term.Const false; inverse = term.Not; both = term.And; either = term.Or; differ = term.Xor }

-- what joins the inputs; buf and not have none to join
abbrev pub joins : {A : Type 0} → Operations A → Gate → A → A → A
joins o gates.And = o.both
joins o gates.Nand = o.both
joins o gates.Or = o.either
joins o gates.Nor = o.either
joins o gates.Xor = o.differ
joins o gates.Xnor = o.differ
joins o gates.Buf = λ a b. a
joins o gates.Not = λ a b. a

abbrev pub inverts : Gate → Bool
inverts gates.And = false
inverts gates.Nand = true
inverts gates.Or = false
inverts gates.Nor = true
inverts gates.Xor = false
inverts gates.Xnor = true
inverts gates.Buf = false
inverts gates.Not = true

abbrev pub joined : {A : Type 0} → Operations A → Gate → List A → A
joined o gate [] = o.nothing
joined o gate (a ∷ rest) = fold (joins o gate) a rest

-- what the gate gives
abbrev pub gate_gives : {A : Type 0} → Operations A → Gate → List A → A
gate_gives o gate ins = if inverts gate then o.inverse (joined o gate ins) else joined o gate ins

-- what each further input is joined to
abbrev pub joined_after : {A : Type 0} → (A → A → A) → A → List A → List A
joined_after op a [] = []
joined_after op a (b ∷ rest) = op a b ∷ joined_after op (op a b) rest

abbrev pub joining_cells : Gate → List Term → List Term
joining_cells gate [] = []
joining_cells gate (a ∷ rest) = joined_after (joins on_terms gate) a rest

-- the cells of a gate: one for each input but the first, and one more where it inverts
abbrev pub gate_cells : Gate → List Term → List Term
gate_cells gate ins = joining_cells gate ins ++ (if inverts gate then gate_gives on_terms gate ins ∷ [] else [])
