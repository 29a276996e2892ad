-- How large a source is. In an expression each net, number, run of ~, operator, condition and pair of braces counts
-- one; in a module each declared name, gate, instance, terminal and connection, with the expressions beside them. Names
-- of gates, ranges and the words of items count nothing.
use Rattle.std.specs.Prelude.{ℕ, ◌+◌, List, Option, Some, None, length, sum_by}
use Rattle.bb_ast.specs.Syntax.{Expression, Net, Bit, Part, Sized, Plain, Not, Fold, Chain, Words, Cond, Concat, Repeat, Operands, no_operand, operand, WordOperands, no_word, word, Arms, no_arm, arm, Parts, no_part, part}
use Rattle.bb_ast.specs.Syntax.{PlainConns, Order, Named, PlainBody, Ports, Nets, Regs, Supply, Assign, Gates, Calls, Always, PlainModule}

abbrev mutual
  pub expression_size : Expression → ℕ
  expression_size (Net name) = 1
  expression_size (Bit name i) = 1
  expression_size (Part name i j) = 1
  expression_size (Sized bits) = 1
  expression_size (Plain n) = 1
  expression_size (Not k e) = 1 + expression_size e
  expression_size (Fold op e) = 1 + expression_size e
  expression_size (Chain e rest) = expression_size e + operands_size rest
  expression_size (Words e rest) = expression_size e + words_size rest
  expression_size (Cond all last) = arms_size all + expression_size last
  expression_size (Concat all) = 1 + parts_size all
  expression_size (Repeat k all) = 1 + parts_size all

  pub operands_size : Operands → ℕ
  operands_size no_operand = 0
  operands_size (operand op e rest) = 1 + expression_size e + operands_size rest

  pub words_size : WordOperands → ℕ
  words_size no_word = 0
  words_size (word op e rest) = 1 + expression_size e + words_size rest

  pub arms_size : Arms → ℕ
  arms_size no_arm = 0
  arms_size (arm c v rest) = 1 + expression_size c + expression_size v + arms_size rest

  pub parts_size : Parts → ℕ
  parts_size no_part = 0
  parts_size (part e rest) = expression_size e + parts_size rest

-- an expression, where there is one
abbrev pub optional_size : Option Expression → ℕ
optional_size None = 0
optional_size (Some e) = expression_size e

-- a name or a connection, with its expression
abbrev pub pair_size : List ℕ × Option Expression → ℕ
pair_size x = 1 + optional_size x.1

-- the connections of an instance
abbrev pub conns_size : PlainConns → ℕ
conns_size (Order places) = sum_by (λ place. 1 + optional_size place) places
conns_size (Named all) = sum_by pair_size all

-- a gate with its terminals
abbrev pub gate_size : Option (List ℕ) × List Expression → ℕ
gate_size x = 1 + sum_by (λ e. 1 + expression_size e) x.1

-- an instance with its connections
abbrev pub call_size : List ℕ × PlainConns → ℕ
call_size x = 1 + conns_size x.1

abbrev pub item_size : PlainBody → ℕ
item_size (Ports port names) = length names
item_size (Nets range nets) = sum_by pair_size nets
item_size (Regs range names) = length names
item_size (Supply high range names) = length names
item_size (Assign all) = sum_by (λ x. expression_size x.0 + expression_size x.1) all
item_size (Gates gate all) = sum_by gate_size all
item_size (Calls name all) = sum_by call_size all
item_size (Always r) = expression_size r.clock + expression_size r.left + expression_size r.right

-- the names of a module's header, and its items
abbrev pub module_size : PlainModule → ℕ
module_size m = length m.heads + sum_by (λ item. item_size item.body) m.items

-- all modules of a source, each with two more for itself
abbrev pub source_size : List PlainModule → ℕ
source_size modules = sum_by (λ m. 2 + module_size m) modules
