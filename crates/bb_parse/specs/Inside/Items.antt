-- Reading items of a module from the left, on lists.
use Rattle.std.specs.Prelude.{ℕ, Bool, true, false, ◌||◌, List, [], ◌∷◌, Option, Some, None, if◌then◌else◌}
use Rattle.bb_ast.specs.declared.module.Gate.{Gate}
use Rattle.bb_ast.specs.declared.module.Gate.TheVariants as gates
use Rattle.bb_ast.specs.Syntax.{Expression, Net, Bit, PlainBody, PlainConns, Nets, Assign, Gates, Calls, Always, Order, Named}
use Rattle.bb_lex.specs.declared.keyword.Keyword.{Keyword}
use Rattle.bb_lex.specs.declared.keyword.Keyword.TheVariants as words
use Rattle.bb_lex.specs.declared.mark.Mark.{Mark}
use Rattle.bb_lex.specs.declared.mark.Mark.TheVariants.{LeftRound, RightRound, LeftSquare, RightSquare, Comma, Semicolon, Dot, Equals, At, LessEqual}
use Rattle.bb_lex.specs.declared.token.Kind.{Kind}
use Rattle.bb_lex.specs.declared.token.Kind.TheVariants as kinds
use Rattle.bb_parse.specs.Symbols.{Symbol, Identifier, Reserved, SizedNumber, PlainNumber, Sign}
use Rattle.bb_parse.specs.Inside.Symbols.{is_next, after, next_kind}
use Rattle.bb_parse.specs.Inside.Steps.{Read, ◌>>=◌, read_mark, read_name, read_plain, with_prefix, read_list}
use Rattle.bb_parse.specs.Inside.Expressions.{read_expr, read_lval}
use Rattle.bb_parse.specs.Inside.Declarations.{taken, read_optional_range, read_ports, read_regs, read_supply}

unfoldable pub read_net : ℕ → List Symbol → Read (List ℕ × Option Expression)
read_net depth ts = read_name ts >>= (λ n. if is_next Equals n.1 then read_expr depth (after n.1) >>= (λ e. Some ((n.0, Some e.0), e.1)) else Some ((n.0, None), n.1))

-- after wire
unfoldable pub read_nets : ℕ → List Symbol → Read PlainBody
read_nets depth ts = read_optional_range ts >>= (λ r. read_list (read_net depth) r.1 >>= (λ ns. read_mark Semicolon ns.1 >>= (λ u. Some (Nets r.0 ns.0, u.1))))

-- a left side, the mark and a right side
unfoldable pub read_sides : Mark → ℕ → List Symbol → Read (Expression × Expression)
read_sides mark depth ts = read_lval depth ts >>= (λ l. read_mark mark l.1 >>= (λ u. read_expr depth u.1 >>= (λ r. Some ((l.0, r.0), r.1))))

abbrev pub read_assignment : ℕ → List Symbol → Read (Expression × Expression)
read_assignment = read_sides Equals

-- after assign
unfoldable pub read_assign : ℕ → List Symbol → Read PlainBody
read_assign depth ts = read_list (read_assignment depth) ts >>= (λ xs. read_mark Semicolon xs.1 >>= (λ u. Some (Assign xs.0, u.1)))

abbrev pub read_optional_name : List Symbol → Read (Option (List ℕ))
read_optional_name [] = Some (None, [])
read_optional_name (Identifier n ∷ ts) = Some (Some n, ts)
read_optional_name (Reserved w ∷ ts) = Some (None, Reserved w ∷ ts)
read_optional_name (SizedNumber b ∷ ts) = Some (None, SizedNumber b ∷ ts)
read_optional_name (PlainNumber n ∷ ts) = Some (None, PlainNumber n ∷ ts)
read_optional_name (Sign m ∷ ts) = Some (None, Sign m ∷ ts)

-- two expressions, with a comma between
unfoldable pub read_two_terms : ℕ → List Symbol → Read (List Expression)
read_two_terms depth ts = read_expr depth ts >>= (λ x. read_mark Comma x.1 >>= (λ u. read_expr depth u.1 >>= (λ y. Some (x.0 ∷ y.0 ∷ [], y.1))))

-- two expressions or more
unfoldable pub read_terms : ℕ → List Symbol → Read (List Expression)
read_terms depth ts = read_expr depth ts >>= (λ x. read_mark Comma x.1 >>= (λ u. with_prefix (x.0 ∷ []) (read_list (read_expr depth) u.1)))

unfoldable pub read_gate : ℕ → List Symbol → Read (Option (List ℕ) × List Expression)
read_gate depth ts = read_optional_name ts >>= (λ n. read_mark LeftRound n.1 >>= (λ a. read_terms depth a.1 >>= (λ es. read_mark RightRound es.1 >>= (λ u. Some ((n.0, es.0), u.1)))))

-- after the word of a gate
unfoldable pub read_gates : Gate → ℕ → List Symbol → Read PlainBody
read_gates gate depth ts = read_list (read_gate depth) ts >>= (λ xs. read_mark Semicolon xs.1 >>= (λ u. Some (Gates gate xs.0, u.1)))

-- an expression, or nothing before a comma or )
unfoldable pub read_place : ℕ → List Symbol → Read (Option Expression)
read_place depth ts = if is_next Comma ts || is_next RightRound ts then Some (None, ts) else read_expr depth ts >>= (λ e. Some (Some e.0, e.1))

unfoldable pub read_named : ℕ → List Symbol → Read (List ℕ × Option Expression)
read_named depth ts = read_mark Dot ts >>= (λ d. read_name d.1 >>= (λ n. read_mark LeftRound n.1 >>= (λ a. read_place depth a.1 >>= (λ e. read_mark RightRound e.1 >>= (λ u.
    Some ((n.0, e.0), u.1))))))

unfoldable pub read_conns : ℕ → List Symbol → Read PlainConns
read_conns depth ts =
    if is_next RightRound ts then Some (Order [], ts)
    else (if is_next Dot ts then read_list (read_named depth) ts >>= (λ xs. Some (Named xs.0, xs.1)) else read_list (read_place depth) ts >>= (λ xs. Some (Order xs.0, xs.1)))

unfoldable pub read_call : ℕ → List Symbol → Read (List ℕ × PlainConns)
read_call depth ts = read_name ts >>= (λ n. read_mark LeftRound n.1 >>= (λ a. read_conns depth a.1 >>= (λ c. read_mark RightRound c.1 >>= (λ u. Some ((n.0, c.0), u.1)))))

unfoldable pub read_calls : ℕ → List Symbol → Read PlainBody
read_calls depth ts = read_name ts >>= (λ n. read_list (read_call depth) n.1 >>= (λ xs. read_mark Semicolon xs.1 >>= (λ u. Some (Calls n.0 xs.0, u.1))))

-- whether the edge falls
abbrev pub edge_of : Option Kind → Option Bool
edge_of (Some (kinds.Word words.Posedge)) = Some false
edge_of (Some (kinds.Word words.Negedge)) = Some true
edge_of _ = None

unfoldable pub read_clock : List Symbol → Read Expression
read_clock ts = read_name ts >>= (λ n. if is_next LeftSquare n.1 then read_plain (after n.1) >>= (λ i. read_mark RightSquare i.1 >>= (λ u. Some (Bit n.0 i.0, u.1))) else Some (Net n.0, n.1))

-- after always, up to )
unfoldable pub read_event : List Symbol → Read (Bool × Expression)
read_event ts = read_mark At ts >>= (λ a. read_mark LeftRound a.1 >>= (λ b. taken (edge_of (next_kind b.1)) b.1 >>= (λ e. read_clock e.1 >>= (λ c. read_mark RightRound c.1 >>= (λ u. Some ((e.0, c.0), u.1))))))

-- after the clock of a register
unfoldable pub read_clocked : ℕ → List Symbol → Read (Expression × Expression)
read_clocked depth ts = read_sides LessEqual depth ts >>= (λ s. read_mark Semicolon s.1 >>= (λ u. Some (s.0, u.1)))

-- after always
unfoldable pub read_always : ℕ → List Symbol → Read PlainBody
read_always depth ts = read_event ts >>= (λ e. read_clocked depth e.1 >>= (λ s.
    Some (Always (record { falling = e.0.0; clock = e.0.1; left = s.0.0; right = s.0.1 }), s.1)))

abbrev pub gate_of : Keyword → Option Gate
gate_of words.And = Some gates.And
gate_of words.Nand = Some gates.Nand
gate_of words.Or = Some gates.Or
gate_of words.Nor = Some gates.Nor
gate_of words.Xor = Some gates.Xor
gate_of words.Xnor = Some gates.Xnor
gate_of words.Buf = Some gates.Buf
gate_of words.Not = Some gates.Not
gate_of _ = None

abbrev pub gates_at : Option Gate → ℕ → List Symbol → Read PlainBody
gates_at None depth ts = None
gates_at (Some gate) depth ts = read_gates gate depth ts

-- an item that begins with a reserved word
abbrev pub worded : Keyword → ℕ → List Symbol → Read PlainBody
worded words.Input depth ts = read_ports ts
worded words.Output depth ts = read_ports ts
worded words.Wire depth ts = read_nets depth (after ts)
worded words.Reg depth ts = read_regs (after ts)
worded words.Supply0 depth ts = read_supply false (after ts)
worded words.Supply1 depth ts = read_supply true (after ts)
worded words.Assign depth ts = read_assign depth (after ts)
worded words.Always depth ts = read_always depth (after ts)
worded word depth ts = gates_at (gate_of word) depth (after ts)

abbrev pub body_at : Option Kind → ℕ → List Symbol → Read PlainBody
body_at (Some kinds.Name) depth ts = read_calls depth ts
body_at (Some (kinds.Word word)) depth ts = worded word depth ts
body_at _ depth ts = None

unfoldable pub read_body : ℕ → List Symbol → Read PlainBody
read_body depth ts = body_at (next_kind ts) depth ts
