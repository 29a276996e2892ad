-- What is read as an item is one.
use Rattle.std.proofs.Common.{◌≡◌, ◌⊎◌, inl, inr, ℕ, suc, List, [], ◌∷◌, Option, Some, None, Bool, true, false, refl, ap, sym, ◌∙◌, subst, length, IfSome, ◌||◌}
use Rattle.bb_ast.specs.declared.module.Gate.{Gate}
use Rattle.bb_ast.specs.declared.module.Gate.TheVariants as gates
use Rattle.bb_ast.specs.Syntax.{Expression, Order, Named}
use Rattle.bb_lex.specs.declared.keyword.Keyword.{Keyword}
use Rattle.bb_lex.specs.declared.keyword.Keyword.TheVariants as words
use Rattle.bb_lex.specs.declared.mark.Mark.{Mark}
use Rattle.bb_lex.specs.declared.mark.Mark.TheVariants.{LeftRound, RightRound, LeftSquare, RightSquare, Comma, Semicolon, Dot, Equals, At, LessEqual}
use Rattle.bb_parse.specs.Symbols.{Symbol, Identifier, Reserved, SizedNumber, PlainNumber, Sign}
use Rattle.bb_parse.specs.Lists.{IsName, IsOptional, IsMore, IsList}
use Rattle.bb_parse.specs.Expressions.{IsExpr, IsLval}
use Rattle.bb_parse.specs.Declarations.{IsRange, IsPort}
use Rattle.bb_parse.specs.Items.{IsNet, IsAssignment, supply_word, gate_word, AreTerminals, IsGate, IsPlace, IsNamed, AreConns, IsCall, edge_word, IsClockExpression, IsItem}
use Rattle.bb_parse.specs.Inside.Symbols.{is_next, after, next_kind}
use Rattle.bb_parse.specs.Inside.Steps.{◌>>=◌, with_prefix, read_mark, read_name, read_plain, read_more, read_list}
use Rattle.bb_parse.specs.Inside.Expressions.{read_expr, read_lval}
use Rattle.bb_parse.specs.Inside.Declarations.{taken, read_optional_range, read_port, read_ports, read_regs, read_supply}
use Rattle.bb_parse.specs.Inside.Items.{read_net, read_nets, read_sides, read_assignment, read_assign, read_optional_name, read_terms, read_gate, read_gates, read_place, read_named, read_conns, read_call, read_calls, edge_of, read_clock, read_event, read_clocked, read_always, worded, read_body}
use Rattle.bb_parse.proofs.Marks.{next_is}
use Rattle.bb_parse.proofs.Parts.{and_then, and_so, either_way, after_prefix, mark_sound, name_sound, plain_sound}
use Rattle.bb_parse.proofs.ListLaws.{Sound, list_sound, more_sound}
use Rattle.bb_parse.proofs.ExpressionLaws.{expr_sound, lval_sound}
use Rattle.bb_parse.proofs.DeclarationLaws.{optional_range_sound, port_sound}

ports_sound : (ts : List Symbol) → IfSome (read_ports ts) (λ x. (depth : ℕ) → IsItem depth ts x.0 x.1)
unfolding read_ports
ports_sound ts =
    and_then (read_port ts) _ (λ p. IsPort ts p.0 p.1) _ (port_sound ts) (λ p q.
    and_then (read_list read_name p.1) _ (λ ns. IsList IsName p.1 ns.0 ns.1) _ (list_sound IsName read_name name_sound p.1) (λ ns r.
    and_then (read_mark Semicolon ns.1) _ (λ u. ns.1 ≡ Sign Semicolon ∷ u.1) _ (mark_sound Semicolon ns.1) (λ u s.
    λ depth. (p.1, q, subst (λ z. IsList IsName p.1 ns.0 z) s r))))

regs_sound : (depth : ℕ) (all ts : List Symbol) → all ≡ Reserved words.Reg ∷ ts → IfSome (read_regs ts) (λ x. IsItem depth all x.0 x.1)
unfolding read_regs
regs_sound depth all ts begins =
    and_then (read_optional_range ts) _ (λ p. IsOptional IsRange ts p.0 p.1) _ (optional_range_sound ts) (λ p q.
    and_then (read_list read_name p.1) _ (λ ns. IsList IsName p.1 ns.0 ns.1) _ (list_sound IsName read_name name_sound p.1) (λ ns r.
    and_then (read_mark Semicolon ns.1) _ (λ u. ns.1 ≡ Sign Semicolon ∷ u.1) _ (mark_sound Semicolon ns.1) (λ u s.
    (ts, p.1, begins, q, subst (λ z. IsList IsName p.1 ns.0 z) s r))))

supply_sound : (depth : ℕ) (high : Bool) (all ts : List Symbol) → all ≡ Reserved (supply_word high) ∷ ts → IfSome (read_supply high ts) (λ x. IsItem depth all x.0 x.1)
unfolding read_supply
supply_sound depth high all ts begins =
    and_then (read_optional_range ts) _ (λ p. IsOptional IsRange ts p.0 p.1) _ (optional_range_sound ts) (λ p q.
    and_then (read_list read_name p.1) _ (λ ns. IsList IsName p.1 ns.0 ns.1) _ (list_sound IsName read_name name_sound p.1) (λ ns r.
    and_then (read_mark Semicolon ns.1) _ (λ u. ns.1 ≡ Sign Semicolon ∷ u.1) _ (mark_sound Semicolon ns.1) (λ u s.
    (ts, p.1, begins, q, subst (λ z. IsList IsName p.1 ns.0 z) s r))))

net_sound : (depth : ℕ) → Sound (IsNet depth) (read_net depth)
unfolding read_net
net_sound depth ts =
    and_then (read_name ts) _ (λ n. ts ≡ Identifier n.0 ∷ n.1) _ (name_sound ts) (λ n p.
    either_way (is_next Equals n.1) _ _ _
    (λ h. and_then (read_expr depth (after n.1)) _ (λ e. IsExpr depth (after n.1) e.0 e.1) _ (expr_sound depth (after n.1)) (λ e q.
    (n.1, p, (after n.1, next_is Equals n.1 h, q))))
    (λ h. (n.1, p, refl)))

nets_sound : (depth : ℕ) (all ts : List Symbol) → all ≡ Reserved words.Wire ∷ ts → IfSome (read_nets depth ts) (λ x. IsItem depth all x.0 x.1)
unfolding read_nets
nets_sound depth all ts begins =
    and_then (read_optional_range ts) _ (λ p. IsOptional IsRange ts p.0 p.1) _ (optional_range_sound ts) (λ p q.
    and_then (read_list (read_net depth) p.1) _ (λ ns. IsList (IsNet depth) p.1 ns.0 ns.1) _ (list_sound (IsNet depth) (read_net depth) (net_sound depth) p.1) (λ ns r.
    and_then (read_mark Semicolon ns.1) _ (λ u. ns.1 ≡ Sign Semicolon ∷ u.1) _ (mark_sound Semicolon ns.1) (λ u s.
    (ts, p.1, begins, q, subst (λ z. IsList (IsNet depth) p.1 ns.0 z) s r))))

sides_sound : (mark : Mark) (depth : ℕ) (ts : List Symbol) → IfSome (read_sides mark depth ts) (λ x. (a : List Symbol) × IsLval depth ts x.0.0 (Sign mark ∷ a) × IsExpr depth a x.0.1 x.1)
unfolding read_sides
sides_sound mark depth ts =
    and_then (read_lval depth ts) _ (λ l. IsLval depth ts l.0 l.1) _ (lval_sound depth ts) (λ l p.
    and_then (read_mark mark l.1) _ (λ u. l.1 ≡ Sign mark ∷ u.1) _ (mark_sound mark l.1) (λ u q.
    and_then (read_expr depth u.1) _ (λ r. IsExpr depth u.1 r.0 r.1) _ (expr_sound depth u.1) (λ r s.
    (u.1, subst (λ z. IsLval depth ts l.0 z) q p, s))))

assignment_sound : (depth : ℕ) → Sound (IsAssignment depth) (read_assignment depth)
assignment_sound depth ts = sides_sound Equals depth ts

assign_sound : (depth : ℕ) (all ts : List Symbol) → all ≡ Reserved words.Assign ∷ ts → IfSome (read_assign depth ts) (λ x. IsItem depth all x.0 x.1)
unfolding read_assign
assign_sound depth all ts begins =
    and_then (read_list (read_assignment depth) ts) _ (λ xs. IsList (IsAssignment depth) ts xs.0 xs.1) _ (list_sound (IsAssignment depth) (read_assignment depth) (assignment_sound depth) ts) (λ xs p.
    and_then (read_mark Semicolon xs.1) _ (λ u. xs.1 ≡ Sign Semicolon ∷ u.1) _ (mark_sound Semicolon xs.1) (λ u q.
    (ts, begins, subst (λ z. IsList (IsAssignment depth) ts xs.0 z) q p)))

optional_name_sound : Sound (IsOptional IsName) read_optional_name
optional_name_sound [] = refl
optional_name_sound (Identifier n ∷ ts) = refl
optional_name_sound (Reserved w ∷ ts) = refl
optional_name_sound (SizedNumber b ∷ ts) = refl
optional_name_sound (PlainNumber n ∷ ts) = refl
optional_name_sound (Sign m ∷ ts) = refl

terms_sound : (depth : ℕ) → Sound (AreTerminals depth) (read_terms depth)
unfolding read_terms
terms_sound depth ts =
    let P : List Expression × List Symbol → Type 0 = λ xs. AreTerminals depth ts xs.0 xs.1 in
    and_then (read_expr depth ts) _ (λ x. IsExpr depth ts x.0 x.1) P (expr_sound depth ts) (λ x p.
    and_then (read_mark Comma x.1) _ (λ u. x.1 ≡ Sign Comma ∷ u.1) P (mark_sound Comma x.1) (λ u q.
    after_prefix x.0 (read_list (read_expr depth) u.1) P
    (and_so (read_list (read_expr depth) u.1) (λ xs. IsList (IsExpr depth) u.1 xs.0 xs.1) (λ xs. AreTerminals depth ts (x.0 ∷ xs.0) xs.1)
    (list_sound (IsExpr depth) (read_expr depth) (expr_sound depth) u.1) (λ xs r. (u.1, subst (λ z. IsExpr depth ts x.0 z) q p, r)))))

gate_sound : (depth : ℕ) → Sound (IsGate depth) (read_gate depth)
unfolding read_gate
gate_sound depth ts =
    and_then (read_optional_name ts) _ (λ n. IsOptional IsName ts n.0 n.1) _ (optional_name_sound ts) (λ n p.
    and_then (read_mark LeftRound n.1) _ (λ a. n.1 ≡ Sign LeftRound ∷ a.1) _ (mark_sound LeftRound n.1) (λ a q.
    and_then (read_terms depth a.1) _ (λ es. AreTerminals depth a.1 es.0 es.1) _ (terms_sound depth a.1) (λ es r.
    and_then (read_mark RightRound es.1) _ (λ u. es.1 ≡ Sign RightRound ∷ u.1) _ (mark_sound RightRound es.1) (λ u s.
    (a.1, subst (λ z. IsOptional IsName ts n.0 z) q p, subst (λ z. AreTerminals depth a.1 es.0 z) s r)))))

gates_sound : (gate : Gate) (depth : ℕ) (all ts : List Symbol) → all ≡ Reserved (gate_word gate) ∷ ts → IfSome (read_gates gate depth ts) (λ x. IsItem depth all x.0 x.1)
unfolding read_gates
gates_sound gate depth all ts begins =
    and_then (read_list (read_gate depth) ts) _ (λ xs. IsList (IsGate depth) ts xs.0 xs.1) _ (list_sound (IsGate depth) (read_gate depth) (gate_sound depth) ts) (λ xs p.
    and_then (read_mark Semicolon xs.1) _ (λ u. xs.1 ≡ Sign Semicolon ∷ u.1) _ (mark_sound Semicolon xs.1) (λ u q.
    (ts, begins, subst (λ z. IsList (IsGate depth) ts xs.0 z) q p)))

place_sound : (depth : ℕ) → Sound (IsPlace depth) (read_place depth)
unfolding read_place
place_sound depth ts =
    either_way (is_next Comma ts || is_next RightRound ts) _ _ _
    (λ h. refl)
    (λ h. and_then (read_expr depth ts) _ (λ e. IsExpr depth ts e.0 e.1) _ (expr_sound depth ts) (λ e p. p))

named_sound : (depth : ℕ) → Sound (IsNamed depth) (read_named depth)
unfolding read_named
named_sound depth ts =
    and_then (read_mark Dot ts) _ (λ d. ts ≡ Sign Dot ∷ d.1) _ (mark_sound Dot ts) (λ d p.
    and_then (read_name d.1) _ (λ n. d.1 ≡ Identifier n.0 ∷ n.1) _ (name_sound d.1) (λ n q.
    and_then (read_mark LeftRound n.1) _ (λ a. n.1 ≡ Sign LeftRound ∷ a.1) _ (mark_sound LeftRound n.1) (λ a r.
    and_then (read_place depth a.1) _ (λ e. IsPlace depth a.1 e.0 e.1) _ (place_sound depth a.1) (λ e s.
    and_then (read_mark RightRound e.1) _ (λ u. e.1 ≡ Sign RightRound ∷ u.1) _ (mark_sound RightRound e.1) (λ u t.
    (a.1, p ∙ ap (λ z. Sign Dot ∷ z) (q ∙ ap (λ z. Identifier n.0 ∷ z) r), subst (λ z. IsPlace depth a.1 e.0 z) t s))))))

-- places before something other than ): the first is not the only one, or not open
first_place : (depth : ℕ) (ts : List Symbol) (x : Expression × List Symbol) → IsExpr depth ts x.0 x.1
    → IfSome (with_prefix (Some x.0 ∷ []) (read_more (read_place depth) (length x.1) x.1)) (λ y. AreConns depth ts (Order y.0) y.1)
first_place depth ts x p =
    let P : List (Option Expression) × List Symbol → Type 0 = λ y. AreConns depth ts (Order y.0) y.1 in
    after_prefix (Some x.0) (read_more (read_place depth) (length x.1) x.1) P
    (and_so (read_more (read_place depth) (length x.1) x.1) (λ xs. IsMore (IsPlace depth) x.1 xs.0 xs.1) (λ xs. AreConns depth ts (Order (Some x.0 ∷ xs.0)) xs.1)
    (more_sound (IsPlace depth) (read_place depth) (place_sound depth) (length x.1) x.1) (λ xs q. (x.1, p, q)))

open_first : (depth n : ℕ) (a : List Symbol)
    → IfSome (with_prefix (None ∷ []) (read_more (read_place depth) (suc n) (Sign Comma ∷ a))) (λ y. AreConns depth (Sign Comma ∷ a) (Order y.0) y.1)
open_first depth n a =
    let P : List (Option Expression) × List Symbol → Type 0 = λ y. AreConns depth (Sign Comma ∷ a) (Order y.0) y.1 in
    let Q : List (Option Expression) × List Symbol → Type 0 = λ y. P (None ∷ y.0, y.1) in
    after_prefix None (read_more (read_place depth) (suc n) (Sign Comma ∷ a)) P
    (and_then (read_place depth a) _ (λ x. IsPlace depth a x.0 x.1) Q (place_sound depth a) (λ x p.
    after_prefix x.0 (read_more (read_place depth) n x.1) Q
    (and_so (read_more (read_place depth) n x.1) (λ xs. IsMore (IsPlace depth) x.1 xs.0 xs.1) (λ xs. AreConns depth (Sign Comma ∷ a) (Order (None ∷ x.0 ∷ xs.0)) xs.1)
    (more_sound (IsPlace depth) (read_place depth) (place_sound depth) n x.1) (λ xs q. (Sign Comma ∷ a, refl, (a, x.1, refl, p, q))))))

places_at : (depth : ℕ) (ts : List Symbol) → is_next RightRound ts ≡ false → is_next Comma ts ≡ false
    → IfSome (read_list (read_place depth) ts) (λ y. AreConns depth ts (Order y.0) y.1)
unfolding read_place
places_at depth ts h k =
    let P : List (Option Expression) × List Symbol → Type 0 = λ y. AreConns depth ts (Order y.0) y.1 in
    rw (k, h) (and_then (read_expr depth ts >>= (λ e. Some (Some e.0, e.1))) (λ x. with_prefix (x.0 ∷ []) (read_more (read_place depth) (length x.1) x.1))
    (λ x. (e : Expression) × (x.0 ≡ Some e) × IsExpr depth ts e x.1) P
    (and_then (read_expr depth ts) _ (λ e. IsExpr depth ts e.0 e.1) _ (expr_sound depth ts) (λ e p. (e.0, refl, p)))
    (λ x p. subst (λ z. IfSome (with_prefix (z ∷ []) (read_more (read_place depth) (length x.1) x.1)) P) (sym p.1) (first_place depth ts (p.0, x.1) p.2)))

comma_places : (depth : ℕ) (a : List Symbol) → IfSome (read_list (read_place depth) (Sign Comma ∷ a)) (λ y. AreConns depth (Sign Comma ∷ a) (Order y.0) y.1)
unfolding read_place
comma_places depth a = open_first depth (length a) a

comma_first : (depth : ℕ) (ts : List Symbol) → ts ≡ Sign Comma ∷ after ts → IfSome (read_list (read_place depth) ts) (λ y. AreConns depth ts (Order y.0) y.1)
comma_first depth ts e = subst (λ (z : List Symbol). IfSome (read_list (read_place depth) z) (λ y. AreConns depth z (Order y.0) y.1)) (sym e) (comma_places depth (after ts))

true_or_false : (b : Bool) → (b ≡ true) ⊎ (b ≡ false)
true_or_false true = inl refl
true_or_false false = inr refl

places_sound : (depth : ℕ) (ts : List Symbol) → is_next RightRound ts ≡ false → IfSome (read_list (read_place depth) ts) (λ y. AreConns depth ts (Order y.0) y.1)
places_sound depth ts h = elim (true_or_false (is_next Comma ts)) [ inl k ↦ comma_first depth ts (next_is Comma ts k) | inr k ↦ places_at depth ts h k ]

named_all : (depth : ℕ) (ts : List Symbol) → IfSome (read_list (read_named depth) ts >>= (λ xs. Some (Named xs.0, xs.1))) (λ x. AreConns depth ts x.0 x.1)
named_all depth ts =
    and_then (read_list (read_named depth) ts) _ (λ xs. IsList (IsNamed depth) ts xs.0 xs.1) _ (list_sound (IsNamed depth) (read_named depth) (named_sound depth) ts) (λ xs p. p)

conns_sound : (depth : ℕ) → Sound (AreConns depth) (read_conns depth)
unfolding read_conns
conns_sound depth ts =
    either_way (is_next RightRound ts) _ _ _
    (λ h. refl)
    (λ h. either_way (is_next Dot ts) _ _ _
    (λ k. named_all depth ts)
    (λ k. and_then (read_list (read_place depth) ts) _ (λ y. AreConns depth ts (Order y.0) y.1) _ (places_sound depth ts h) (λ y p. p)))

call_sound : (depth : ℕ) → Sound (IsCall depth) (read_call depth)
unfolding read_call
call_sound depth ts =
    and_then (read_name ts) _ (λ n. ts ≡ Identifier n.0 ∷ n.1) _ (name_sound ts) (λ n p.
    and_then (read_mark LeftRound n.1) _ (λ a. n.1 ≡ Sign LeftRound ∷ a.1) _ (mark_sound LeftRound n.1) (λ a q.
    and_then (read_conns depth a.1) _ (λ c. AreConns depth a.1 c.0 c.1) _ (conns_sound depth a.1) (λ c r.
    and_then (read_mark RightRound c.1) _ (λ u. c.1 ≡ Sign RightRound ∷ u.1) _ (mark_sound RightRound c.1) (λ u s.
    (a.1, p ∙ ap (λ z. Identifier n.0 ∷ z) q, subst (λ z. AreConns depth a.1 c.0 z) s r)))))

calls_sound : (depth : ℕ) (ts : List Symbol) → IfSome (read_calls depth ts) (λ x. IsItem depth ts x.0 x.1)
unfolding read_calls
calls_sound depth ts =
    and_then (read_name ts) _ (λ n. ts ≡ Identifier n.0 ∷ n.1) _ (name_sound ts) (λ n p.
    and_then (read_list (read_call depth) n.1) _ (λ xs. IsList (IsCall depth) n.1 xs.0 xs.1) _ (list_sound (IsCall depth) (read_call depth) (call_sound depth) n.1) (λ xs q.
    and_then (read_mark Semicolon xs.1) _ (λ u. xs.1 ≡ Sign Semicolon ∷ u.1) _ (mark_sound Semicolon xs.1) (λ u r.
    (n.1, p, subst (λ z. IsList (IsCall depth) n.1 xs.0 z) r q))))

clock_sound : Sound IsClockExpression read_clock
unfolding read_clock
clock_sound ts =
    and_then (read_name ts) _ (λ n. ts ≡ Identifier n.0 ∷ n.1) _ (name_sound ts) (λ n p.
    either_way (is_next LeftSquare n.1) _ _ _
    (λ h. and_then (read_plain (after n.1)) _ (λ i. after n.1 ≡ PlainNumber i.0 ∷ i.1) _ (plain_sound (after n.1)) (λ i q.
    and_then (read_mark RightSquare i.1) _ (λ u. i.1 ≡ Sign RightSquare ∷ u.1) _ (mark_sound RightSquare i.1) (λ u r.
    p ∙ ap (λ z. Identifier n.0 ∷ z) (next_is LeftSquare n.1 h ∙ ap (λ z. Sign LeftSquare ∷ z) (q ∙ ap (λ z. PlainNumber i.0 ∷ z) r)))))
    (λ h. p))

edge_sound : (ts : List Symbol) → IfSome (taken (edge_of (next_kind ts)) ts) (λ x. ts ≡ Reserved (edge_word x.0) ∷ x.1)
edge_sound [] = tt
edge_sound (Identifier n ∷ ts) = tt
edge_sound (Reserved words.Posedge ∷ ts) = refl
edge_sound (Reserved words.Negedge ∷ ts) = refl
edge_sound (Reserved w ∷ ts) = tt
edge_sound (SizedNumber b ∷ ts) = tt
edge_sound (PlainNumber n ∷ ts) = tt
edge_sound (Sign m ∷ ts) = tt

event_sound : (ts : List Symbol) → IfSome (read_event ts) (λ x. (a : List Symbol) × (ts ≡ Sign At ∷ Sign LeftRound ∷ Reserved (edge_word x.0.0) ∷ a) × IsClockExpression a x.0.1 (Sign RightRound ∷ x.1))
unfolding read_event
event_sound ts =
    and_then (read_mark At ts) _ (λ a. ts ≡ Sign At ∷ a.1) _ (mark_sound At ts) (λ a p.
    and_then (read_mark LeftRound a.1) _ (λ b. a.1 ≡ Sign LeftRound ∷ b.1) _ (mark_sound LeftRound a.1) (λ b q.
    and_then (taken (edge_of (next_kind b.1)) b.1) _ (λ e. b.1 ≡ Reserved (edge_word e.0) ∷ e.1) _ (edge_sound b.1) (λ e r.
    and_then (read_clock e.1) _ (λ c. IsClockExpression e.1 c.0 c.1) _ (clock_sound e.1) (λ c s.
    and_then (read_mark RightRound c.1) _ (λ u. c.1 ≡ Sign RightRound ∷ u.1) _ (mark_sound RightRound c.1) (λ u t.
    (e.1, p ∙ ap (λ z. Sign At ∷ z) (q ∙ ap (λ z. Sign LeftRound ∷ z) r), subst (λ z. IsClockExpression e.1 c.0 z) t s))))))

clocked_sound : (depth : ℕ) (ts : List Symbol) → IfSome (read_clocked depth ts) (λ x. (a : List Symbol) × IsLval depth ts x.0.0 (Sign LessEqual ∷ a) × IsExpr depth a x.0.1 (Sign Semicolon ∷ x.1))
unfolding read_clocked
clocked_sound depth ts =
    and_then (read_sides LessEqual depth ts) _ (λ x. (a : List Symbol) × IsLval depth ts x.0.0 (Sign LessEqual ∷ a) × IsExpr depth a x.0.1 x.1) _ (sides_sound LessEqual depth ts) (λ x q.
    and_then (read_mark Semicolon x.1) _ (λ u. x.1 ≡ Sign Semicolon ∷ u.1) _ (mark_sound Semicolon x.1) (λ u t.
    (q.0, q.1, subst (λ z. IsExpr depth q.0 x.0.1 z) t q.2)))

always_sound : (depth : ℕ) (all ts : List Symbol) → all ≡ Reserved words.Always ∷ ts → IfSome (read_always depth ts) (λ x. IsItem depth all x.0 x.1)
unfolding read_always
always_sound depth all ts begins =
    and_then (read_event ts) _ (λ e. (a : List Symbol) × (ts ≡ Sign At ∷ Sign LeftRound ∷ Reserved (edge_word e.0.0) ∷ a) × IsClockExpression a e.0.1 (Sign RightRound ∷ e.1)) _ (event_sound ts) (λ e p.
    and_then (read_clocked depth e.1) _ (λ x. (a : List Symbol) × IsLval depth e.1 x.0.0 (Sign LessEqual ∷ a) × IsExpr depth a x.0.1 (Sign Semicolon ∷ x.1)) _ (clocked_sound depth e.1) (λ x q.
    (p.0, e.1, q.0, begins ∙ ap (λ z. Reserved words.Always ∷ z) p.1, p.2, q.1, q.2)))

worded_sound : (w : Keyword) (depth : ℕ) (ts : List Symbol) → IfSome (worded w depth (Reserved w ∷ ts)) (λ x. IsItem depth (Reserved w ∷ ts) x.0 x.1)
worded_sound words.Input depth ts = and_so (read_ports (Reserved words.Input ∷ ts)) (λ x. (d : ℕ) → IsItem d (Reserved words.Input ∷ ts) x.0 x.1) _ (ports_sound (Reserved words.Input ∷ ts)) (λ x p. p depth)
worded_sound words.Output depth ts = and_so (read_ports (Reserved words.Output ∷ ts)) (λ x. (d : ℕ) → IsItem d (Reserved words.Output ∷ ts) x.0 x.1) _ (ports_sound (Reserved words.Output ∷ ts)) (λ x p. p depth)
worded_sound words.Wire depth ts = nets_sound depth (Reserved words.Wire ∷ ts) ts refl
worded_sound words.Reg depth ts = regs_sound depth (Reserved words.Reg ∷ ts) ts refl
worded_sound words.Supply0 depth ts = supply_sound depth false (Reserved words.Supply0 ∷ ts) ts refl
worded_sound words.Supply1 depth ts = supply_sound depth true (Reserved words.Supply1 ∷ ts) ts refl
worded_sound words.Assign depth ts = assign_sound depth (Reserved words.Assign ∷ ts) ts refl
worded_sound words.Always depth ts = always_sound depth (Reserved words.Always ∷ ts) ts refl
worded_sound words.And depth ts = gates_sound gates.And depth (Reserved words.And ∷ ts) ts refl
worded_sound words.Nand depth ts = gates_sound gates.Nand depth (Reserved words.Nand ∷ ts) ts refl
worded_sound words.Or depth ts = gates_sound gates.Or depth (Reserved words.Or ∷ ts) ts refl
worded_sound words.Nor depth ts = gates_sound gates.Nor depth (Reserved words.Nor ∷ ts) ts refl
worded_sound words.Xor depth ts = gates_sound gates.Xor depth (Reserved words.Xor ∷ ts) ts refl
worded_sound words.Xnor depth ts = gates_sound gates.Xnor depth (Reserved words.Xnor ∷ ts) ts refl
worded_sound words.Buf depth ts = gates_sound gates.Buf depth (Reserved words.Buf ∷ ts) ts refl
worded_sound words.Not depth ts = gates_sound gates.Not depth (Reserved words.Not ∷ ts) ts refl
worded_sound w depth ts = tt

pub item_sound : (depth : ℕ) (ts : List Symbol) → IfSome (read_body depth ts) (λ x. IsItem depth ts x.0 x.1)
unfolding read_body
item_sound depth [] = tt
item_sound depth (Identifier n ∷ ts) = calls_sound depth (Identifier n ∷ ts)
item_sound depth (Reserved w ∷ ts) = worded_sound w depth ts
item_sound depth (SizedNumber b ∷ ts) = tt
item_sound depth (PlainNumber n ∷ ts) = tt
item_sound depth (Sign m ∷ ts) = tt
