-- What is an item is read as it.
use Rattle.std.proofs.Common.{◌≡◌, ℕ, zero, suc, ◌<◌, ◌≤◌, List, [], ◌∷◌, Option, Some, None, Bool, true, false, refl, ap, sym, ◌∙◌, arith, length, ◌||◌}
use Rattle.bb_ast.specs.declared.module.Gate.{Gate}
use Rattle.bb_ast.specs.declared.module.Gate.TheVariants as gates
use Rattle.bb_ast.specs.declared.module.Dir.{Dir}
use Rattle.bb_ast.specs.declared.module.Dir.TheVariants as dirs
use Rattle.bb_ast.specs.declared.module.Port.{Port}
use Rattle.bb_ast.specs.declared.module.Range.{Range}
use Rattle.bb_ast.specs.Syntax.{Expression, Net, Bit, PlainConns, Order, Named, PlainBody, PlainAlways, Ports, Nets, Regs, Supply, Assign, Gates, Calls, Always}
use Rattle.bb_lex.specs.declared.keyword.Keyword.{Keyword}
use Rattle.bb_lex.specs.declared.keyword.Keyword.TheVariants as words
use Rattle.bb_lex.specs.declared.mark.Mark.TheVariants.{LeftRound, RightRound, Comma, Semicolon, Dot, Equals, At, LessEqual}
use Rattle.bb_lex.specs.declared.token.Kind.TheVariants as kinds
use Rattle.bb_parse.specs.Symbols.{Symbol, Identifier, Reserved, Sign}
use Rattle.bb_parse.specs.Lists.{IsName, IsOptional, IsMore, IsList}
use Rattle.bb_parse.specs.Expressions.{IsExpr}
use Rattle.bb_parse.specs.Declarations.{IsRange, IsPort, direction_word}
use Rattle.bb_parse.specs.Items.{IsNet, IsAssignment, supply_word, gate_word, AreTerminals, IsGate, IsPlace, IsNamed, AreConns, IsCall, edge_word, IsClockExpression, IsItem}
use Rattle.bb_parse.specs.Inside.Symbols.{is_next, after}
use Rattle.bb_parse.specs.Inside.Steps.{read_name, read_more, read_list}
use Rattle.bb_parse.specs.Inside.Expressions.{read_expr}
use Rattle.bb_parse.specs.Inside.Declarations.{read_optional_range, read_port, read_ports, read_regs, read_supply}
use Rattle.bb_parse.specs.Inside.Items.{read_net, read_nets, read_sides, read_assignment, read_assign, read_terms, read_gate, read_gates, read_place, read_named, read_conns, read_call, read_calls, edge_of, read_clock, read_event, read_clocked, read_always, worded, read_body}
use Rattle.bb_parse.proofs.Marks.{rank_next, no_equals}
use Rattle.bb_parse.proofs.ListLaws.{Complete, list_complete}
use Rattle.bb_parse.proofs.ExpressionReads.{expr_complete, lval_complete, expr_begins}
use Rattle.bb_parse.proofs.DeclarationLaws.{optional_range_complete, port_complete}

name_complete : Complete 11 IsName read_name
name_complete ts n rest p h = (rw p refl, omega (arith, ap length p))

names_complete : (ts : List Symbol) (names : List (List ℕ)) (rest : List Symbol) → IsList IsName ts names (Sign Semicolon ∷ rest) → read_list read_name ts ≡ Some (names, Sign Semicolon ∷ rest)
names_complete ts names rest p = (list_complete IsName read_name name_complete ts names (Sign Semicolon ∷ rest) p (omega arith)).0

-- a list of names begins with one
names_begin : (ts : List Symbol) (names : List (List ℕ)) (rest : List Symbol) → IsList IsName ts names rest → (n : List ℕ) × (a : List Symbol) × (ts ≡ Identifier n ∷ a)
names_begin ts [] rest p = elim p [ ]
names_begin ts (n ∷ names) rest p = (n, p.0, p.1)

ports_complete : (ts : List Symbol) (port : Port) (names : List (List ℕ)) (a rest : List Symbol) → IsPort ts port a → IsList IsName a names (Sign Semicolon ∷ rest)
    → read_ports ts ≡ Some (Ports port names, rest)
unfolding read_ports
ports_complete ts port names a rest p l =
    let begins = names_begin a names (Sign Semicolon ∷ rest) l in
    let p' : IsPort ts port (Identifier begins.0 ∷ begins.1) = rw begins.2 at p in
    let one = port_complete ts port begins.0 begins.1 p' in
    let read : read_port ts ≡ Some (port, a) = one.0 ∙ ap (λ z. Some (port, z)) (sym begins.2) in
    rw (read, names_complete a names rest l) refl

ranged : (ts : List Symbol) (range : Option Range) (n : List ℕ) (a z : List Symbol) → IsOptional IsRange ts range a → a ≡ Identifier n ∷ z → read_optional_range ts ≡ Some (range, a)
ranged ts range n a z p e =
    let p' : IsOptional IsRange ts range (Identifier n ∷ z) = rw e at p in
    (optional_range_complete ts range n z p').0 ∙ ap (λ y. Some (range, y)) (sym e)

net_complete : (depth : ℕ) → Complete 11 (IsNet depth) (read_net depth)
unfolding read_net
net_complete depth ts (n, None) rest p h = (rw (p.1, p.2, no_equals rest h) refl, omega (arith, ap length p.1, ap length p.2))
net_complete depth ts (n, Some e) rest p h =
    let one = expr_complete depth p.2.0 e rest p.2.2 h in
    (rw (p.1, p.2.1, one.0) refl, omega (arith, ap length p.1, ap length p.2.1, one.1))

nets_begin : (depth : ℕ) (ts : List Symbol) (nets : List (List ℕ × Option Expression)) (rest : List Symbol) → IsList (IsNet depth) ts nets rest → (n : List ℕ) × (a : List Symbol) × (ts ≡ Identifier n ∷ a)
nets_begin depth ts [] rest p = elim p [ ]
nets_begin depth ts (x ∷ nets) rest p = (x.0, p.1.0, p.1.1)

assignment_complete : (depth : ℕ) → Complete 11 (IsAssignment depth) (read_assignment depth)
unfolding read_sides
assignment_complete depth ts x rest p h =
    let left = lval_complete depth ts x.0 (Sign Equals ∷ p.0) p.1 (omega arith) in
    let right = expr_complete depth p.0 x.1 rest p.2 h in
    (rw (left.0, right.0) refl, omega (arith, left.1, right.1))

terms_complete : (depth : ℕ) (ts : List Symbol) (xs : List Expression) (rest : List Symbol) → AreTerminals depth ts xs (Sign RightRound ∷ rest)
    → (read_terms depth ts ≡ Some (xs, Sign RightRound ∷ rest)) × (length rest < length ts)
unfolding read_terms
terms_complete depth ts [] rest p = elim p [ ]
terms_complete depth ts (x ∷ xs) rest p =
    let one = expr_complete depth ts x (Sign Comma ∷ p.0) p.1 (omega arith) in
    let others = list_complete (IsExpr depth) (read_expr depth) (expr_complete depth) p.0 xs (Sign RightRound ∷ rest) p.2 (omega arith) in
    (rw (one.0, others.0) refl, omega (arith, one.1, others.1))

gate_complete : (depth : ℕ) → Complete 11 (IsGate depth) (read_gate depth)
unfolding read_gate
gate_complete depth ts (None, es) rest p h =
    let all = terms_complete depth p.0 es rest p.2 in
    (rw (p.1, all.0) refl, omega (arith, ap length p.1, all.1))
gate_complete depth ts (Some n, es) rest p h =
    let all = terms_complete depth p.0 es rest p.2 in
    (rw (p.1, all.0) refl, omega (arith, ap length p.1, all.1))

-- a comma or ) comes next
EndsPlace : List Symbol → Type 0
EndsPlace ts = (is_next Comma ts || is_next RightRound ts) ≡ true

place_complete : (depth : ℕ) (ts : List Symbol) (x : Option Expression) (rest : List Symbol) → IsPlace depth ts x rest → EndsPlace rest → 11 < rank_next rest
    → (read_place depth ts ≡ Some (x, rest)) × (length rest ≤ length ts)
unfolding read_place EndsPlace
place_complete depth ts None rest p h k = (rw (p, h) refl, omega (arith, ap length p))
place_complete depth ts (Some e) rest p h k =
    let one = expr_complete depth ts e rest p k in
    let begins = expr_begins depth ts (e, rest) one.0 in
    (rw (begins.0, begins.1, one.0) refl, omega (arith, one.1))

places_stop : (depth : ℕ) (ts : List Symbol) (xs : List (Option Expression)) (rest : List Symbol) → IsMore (IsPlace depth) ts xs (Sign RightRound ∷ rest) → EndsPlace ts × (11 < rank_next ts)
unfolding EndsPlace
places_stop depth ts [] rest p = (rw p refl, rw p (omega arith))
places_stop depth ts (x ∷ xs) rest p = (rw p.2 refl, rw p.2 (omega arith))

more_places : (depth : ℕ) (ts : List Symbol) (xs : List (Option Expression)) (rest : List Symbol) (n : ℕ) → IsMore (IsPlace depth) ts xs (Sign RightRound ∷ rest) → length ts ≤ n
    → (read_more (read_place depth) n ts ≡ Some (xs, Sign RightRound ∷ rest)) × (length rest < length ts)
more_places depth ts [] rest zero p le = absurd (omega (arith, ap length p))
more_places depth ts [] rest (suc n) p le = (rw p refl, omega (arith, ap length p))
more_places depth ts (x ∷ xs) rest zero p le = absurd (omega (arith, ap length p.2))
more_places depth ts (x ∷ xs) rest (suc n) p le =
    let stop = places_stop depth p.1 xs rest p.4 in
    let one = place_complete depth p.0 x p.1 p.3 stop.0 stop.1 in
    let le' : length p.1 ≤ n = omega (arith, ap length p.2, one.1) in
    let others = more_places depth p.1 xs rest n p.4 le' in
    (rw (p.2, one.0, others.0) refl, omega (arith, ap length p.2, one.1, others.1))

places_complete : (depth : ℕ) (ts : List Symbol) (x : Option Expression) (xs : List (Option Expression)) (rest : List Symbol) → IsList (IsPlace depth) ts (x ∷ xs) (Sign RightRound ∷ rest)
    → (read_list (read_place depth) ts ≡ Some (x ∷ xs, Sign RightRound ∷ rest)) × (length rest < length ts)
places_complete depth ts x xs rest p =
    let stop = places_stop depth p.0 xs rest p.2 in
    let one = place_complete depth ts x p.0 p.1 stop.0 stop.1 in
    let others = more_places depth p.0 xs rest (length p.0) p.2 (omega arith) in
    (rw (one.0, others.0) refl, omega (arith, one.1, others.1))

named_complete : (depth : ℕ) → Complete 11 (IsNamed depth) (read_named depth)
unfolding read_named EndsPlace
named_complete depth ts x rest p h =
    let one = place_complete depth p.0 x.1 (Sign RightRound ∷ rest) p.2 refl (omega arith) in
    (rw (p.1, one.0) refl, omega (arith, ap length p.1, one.1))

conns_complete : (depth : ℕ) (ts : List Symbol) (x : PlainConns) (rest : List Symbol) → AreConns depth ts x (Sign RightRound ∷ rest)
    → (read_conns depth ts ≡ Some (x, Sign RightRound ∷ rest)) × (length rest < length ts)
unfolding read_conns
conns_complete depth ts (Order []) rest p = (rw p refl, omega (arith, ap length p))
conns_complete depth ts (Order (None ∷ [])) rest p = elim p [ ]
conns_complete depth ts (Order (None ∷ x ∷ xs)) rest p =
    let all = places_complete depth ts None (x ∷ xs) rest p in
    let begins : ts ≡ Sign Comma ∷ p.2.0 = p.1 ∙ p.2.2 in
    let round : is_next RightRound ts ≡ false = ap (is_next RightRound) begins in
    let dot : is_next Dot ts ≡ false = ap (is_next Dot) begins in
    (rw (round, dot, all.0) refl, all.1)
conns_complete depth ts (Order (Some e ∷ xs)) rest p =
    let all = places_complete depth ts (Some e) xs rest p in
    let stop = places_stop depth p.0 xs rest p.2 in
    let one = expr_complete depth ts e p.0 p.1 stop.1 in
    let begins = expr_begins depth ts (e, p.0) one.0 in
    (rw (begins.1, begins.2, all.0) refl, all.1)
conns_complete depth ts (Named []) rest p = elim p [ ]
conns_complete depth ts (Named (x ∷ xs)) rest p =
    let all = list_complete (IsNamed depth) (read_named depth) (named_complete depth) ts (x ∷ xs) (Sign RightRound ∷ rest) p (omega arith) in
    let round : is_next RightRound ts ≡ false = ap (is_next RightRound) p.1.1 in
    let dot : is_next Dot ts ≡ true = ap (is_next Dot) p.1.1 in
    (rw (round, dot, all.0) refl, omega (arith, all.1))

call_complete : (depth : ℕ) → Complete 11 (IsCall depth) (read_call depth)
unfolding read_call
call_complete depth ts x rest p h =
    let all = conns_complete depth p.0 x.1 rest p.2 in
    (rw (p.1, all.0) refl, omega (arith, ap length p.1, all.1))

clock_complete : (ts : List Symbol) (e : Expression) (rest : List Symbol) → IsClockExpression ts e (Sign RightRound ∷ rest) → read_clock ts ≡ Some (e, Sign RightRound ∷ rest)
unfolding read_clock
clock_complete ts (Net name) rest p = rw p refl
clock_complete ts (Bit name i) rest p = rw p refl
clock_complete ts e rest p = elim p [ ]

edge_is : (falling : Bool) → edge_of (Some (kinds.Word (edge_word falling))) ≡ Some falling
edge_is false = refl
edge_is true = refl

always_complete : (depth : ℕ) (ts : List Symbol) (r : PlainAlways) (rest : List Symbol) → IsItem depth (Reserved words.Always ∷ ts) (Always r) rest → read_always depth ts ≡ Some (Always r, rest)
unfolding read_always read_event read_clocked read_sides
always_complete depth ts r rest p =
    let begins : ts ≡ Sign At ∷ Sign LeftRound ∷ Reserved (edge_word r.falling) ∷ p.0 = ap after p.3 in
    let left = lval_complete depth p.1 r.left (Sign LessEqual ∷ p.2) p.5 (omega arith) in
    let right = expr_complete depth p.2 r.right (Sign Semicolon ∷ rest) p.6 (omega arith) in
    rw (begins, edge_is r.falling, clock_complete p.0 r.clock p.1 p.4, left.0, right.0) refl

direction_worded : (dir : Dir) (depth : ℕ) (ts : List Symbol) → worded (direction_word dir) depth ts ≡ read_ports ts
direction_worded dirs.Input depth ts = refl
direction_worded dirs.Output depth ts = refl

supply_worded : (high : Bool) (depth : ℕ) (ts : List Symbol) → worded (supply_word high) depth ts ≡ read_supply high (after ts)
supply_worded false depth ts = refl
supply_worded true depth ts = refl

gate_worded : (gate : Gate) (depth : ℕ) (ts : List Symbol) → worded (gate_word gate) depth ts ≡ read_gates gate depth (after ts)
gate_worded gates.And depth ts = refl
gate_worded gates.Nand depth ts = refl
gate_worded gates.Or depth ts = refl
gate_worded gates.Nor depth ts = refl
gate_worded gates.Xor depth ts = refl
gate_worded gates.Xnor depth ts = refl
gate_worded gates.Buf depth ts = refl
gate_worded gates.Not depth ts = refl

read_worded : (depth : ℕ) (w : Keyword) (ts a : List Symbol) → ts ≡ Reserved w ∷ a → read_body depth ts ≡ worded w depth ts
unfolding read_body
read_worded depth w ts a e = rw e refl

calls_read : (depth : ℕ) (ts : List Symbol) (name : List ℕ) (a : List Symbol) → ts ≡ Identifier name ∷ a → read_body depth ts ≡ read_calls depth (Identifier name ∷ a)
unfolding read_body
calls_read depth ts name a e = rw e refl

pub item_complete : (depth : ℕ) (ts : List Symbol) (body : PlainBody) (rest : List Symbol) → IsItem depth ts body rest → read_body depth ts ≡ Some (body, rest)
unfolding read_nets read_regs read_supply read_assign read_gates read_calls
item_complete depth ts (Ports port names) rest p =
    read_worded depth (direction_word port.dir) ts p.1.0 p.1.2 ∙ direction_worded port.dir depth ts ∙ ports_complete ts port names p.0 rest p.1 p.2
item_complete depth ts (Nets range nets) rest p =
    let begins = nets_begin depth p.1 nets (Sign Semicolon ∷ rest) p.4 in
    let all = list_complete (IsNet depth) (read_net depth) (net_complete depth) p.1 nets (Sign Semicolon ∷ rest) p.4 (omega arith) in
    read_worded depth words.Wire ts p.0 p.2 ∙ ap (λ z. read_nets depth (after z)) p.2 ∙ rw (ranged p.0 range begins.0 p.1 begins.1 p.3 begins.2, all.0) refl
item_complete depth ts (Regs range names) rest p =
    let begins = names_begin p.1 names (Sign Semicolon ∷ rest) p.4 in
    read_worded depth words.Reg ts p.0 p.2 ∙ ap (λ z. read_regs (after z)) p.2 ∙ rw (ranged p.0 range begins.0 p.1 begins.1 p.3 begins.2, names_complete p.1 names rest p.4) refl
item_complete depth ts (Supply high range names) rest p =
    let begins = names_begin p.1 names (Sign Semicolon ∷ rest) p.4 in
    read_worded depth (supply_word high) ts p.0 p.2 ∙ supply_worded high depth ts ∙ ap (λ z. read_supply high (after z)) p.2
    ∙ rw (ranged p.0 range begins.0 p.1 begins.1 p.3 begins.2, names_complete p.1 names rest p.4) refl
item_complete depth ts (Assign all) rest p =
    let each = list_complete (IsAssignment depth) (read_assignment depth) (assignment_complete depth) p.0 all (Sign Semicolon ∷ rest) p.2 (omega arith) in
    read_worded depth words.Assign ts p.0 p.1 ∙ ap (λ z. read_assign depth (after z)) p.1 ∙ rw each.0 refl
item_complete depth ts (Gates gate all) rest p =
    let each = list_complete (IsGate depth) (read_gate depth) (gate_complete depth) p.0 all (Sign Semicolon ∷ rest) p.2 (omega arith) in
    read_worded depth (gate_word gate) ts p.0 p.1 ∙ gate_worded gate depth ts ∙ ap (λ z. read_gates gate depth (after z)) p.1 ∙ rw each.0 refl
item_complete depth ts (Calls name all) rest p =
    let each = list_complete (IsCall depth) (read_call depth) (call_complete depth) p.0 all (Sign Semicolon ∷ rest) p.2 (omega arith) in
    calls_read depth ts name p.0 p.1 ∙ rw each.0 refl
item_complete depth ts (Always r) rest p =
    let q : IsItem depth (Reserved words.Always ∷ after ts) (Always r) rest = (p.0, p.1, p.2, ap (λ z. Reserved words.Always ∷ after z) p.3, p.4, p.5, p.6) in
    read_worded depth words.Always ts (after ts) (p.3 ∙ ap (λ z. Reserved words.Always ∷ after z) (sym p.3)) ∙ always_complete depth (after ts) r rest q
