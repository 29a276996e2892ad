-- What the types of the code say, as plain syntax.
use Rattle.std.specs.Prelude.{ℕ, List, Option, map, option_map}
use Rattle.bb_ast.specs.declared.expr.Expr.{Expr}
use Rattle.bb_ast.specs.declared.expr.Expr.TheOpen.{Expr-F}
use Rattle.bb_ast.specs.declared.expr.Expr.TheOpen as of
use Rattle.bb_ast.specs.declared.expr.Expr.TheFolds.{fold-Expr}
use Rattle.bb_ast.specs.declared.module.Always.{Always}
use Rattle.bb_ast.specs.declared.module.Body.{Body}
use Rattle.bb_ast.specs.declared.module.Body.TheVariants as bodies
use Rattle.bb_ast.specs.declared.module.Call.{Call}
use Rattle.bb_ast.specs.declared.module.Conns.{Conns}
use Rattle.bb_ast.specs.declared.module.Conns.TheVariants as conns
use Rattle.bb_ast.specs.declared.module.GateCall.{GateCall}
use Rattle.bb_ast.specs.declared.module.Head.{Head}
use Rattle.bb_ast.specs.declared.module.Item.{Item}
use Rattle.bb_ast.specs.declared.module.Module.{Module}
use Rattle.bb_ast.specs.declared.module.Source.{Source}
use Rattle.bb_ast.specs.Syntax.{PlainConns, Order, Named, PlainAlways, PlainBody, Ports, Nets, Regs, Supply, Assign, Gates, Calls, Always as AlwaysBody, PlainItem, PlainHead, PlainModule}
use Rattle.bb_ast.specs.Syntax.{Expression, Net, Bit, Part, Sized, Plain, Not, Fold, Chain, Words, Cond, Concat, Repeat, operands, word_operands, arms, listed_parts}

-- one layer, with what is below it seen already
abbrev pub layer : Expr-F Expression → Expression
layer (of.Net n) = Net n
layer (of.Bit n i) = Bit n i
layer (of.Part n i j) = Part n i j
layer (of.Sized bits) = Sized bits.items
layer (of.Plain n) = Plain n
layer (of.Not k e) = Not k e.value
layer (of.Fold op e) = Fold op e.value
layer (of.Chain e rest) = Chain e.value (operands rest.items)
layer (of.Words e rest) = Words e.value (word_operands rest.items)
layer (of.Cond all last) = Cond (arms all.items) last.value
layer (of.Concat all) = Concat (listed_parts all.items)
layer (of.Repeat k all) = Repeat k (listed_parts all.items)

abbrev pub expression : Expr → Expression
expression = fold-Expr Expression layer

-- an operator with its right operand
abbrev pub operand_view : {O : Type 0} → O × Expr → O × Expression
operand_view x = (x.0, expression x.1)

-- a condition with its value
abbrev pub arm_view : Expr × Expr → Expression × Expression
arm_view x = (expression x.0, expression x.1)

abbrev pub optional_view : Option Expr → Option Expression
optional_view = option_map expression

-- a name with what is assigned or connected to it
abbrev pub named_view : List ℕ × Option Expr → List ℕ × Option Expression
named_view x = (x.0, optional_view x.1)

abbrev pub gate_view : GateCall → Option (List ℕ) × List Expression
gate_view g = (g.name, map expression g.terms.items)

abbrev pub conns_view : Conns → PlainConns
conns_view (conns.Order places) = Order (map optional_view places.items)
conns_view (conns.Named all) = Named (map named_view all.items)

abbrev pub call_view : Call → List ℕ × PlainConns
call_view c = (c.name, conns_view c.conns)

abbrev pub always_view : Always → PlainAlways
always_view a = record { falling = a.falling; clock = expression a.clock; left = expression a.left; right = expression a.right }

abbrev pub body_view : Body → PlainBody
body_view (bodies.Ports port names) = Ports port names.items
body_view (bodies.Nets range nets) = Nets range (map named_view nets.items)
body_view (bodies.Regs range names) = Regs range names.items
body_view (bodies.Supply high range names) = Supply high range names.items
body_view (bodies.Assign all) = Assign (map arm_view all.items)
body_view (bodies.Gates gate all) = Gates gate (map gate_view all.items)
body_view (bodies.Calls name all) = Calls name (map call_view all.items)
body_view (bodies.Always a) = AlwaysBody (always_view a)

abbrev pub item_view : Item → PlainItem
item_view i = record { line = i.line; body = body_view i.body }

abbrev pub head_view : Head → PlainHead
head_view h = record { name = h.name; decl = h.decl }

abbrev pub module_view : Module → PlainModule
module_view m = record { name = m.name; line = m.line; heads = map head_view m.heads.items; items = map item_view m.items.items }

-- the modules of a text, in text order
abbrev pub source_view : Source → List PlainModule
source_view s = map module_view s.modules.items
