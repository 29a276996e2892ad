-- Reading declarations and headers from the left, on lists.
use Rattle.std.specs.Prelude.{ℕ, zero, suc, Bool, List, [], ◌∷◌, Option, Some, None, length, is_some, if◌then◌else◌}
use Rattle.bb_ast.specs.declared.module.Dir.{Dir}
use Rattle.bb_ast.specs.declared.module.Dir.TheVariants as dirs
use Rattle.bb_ast.specs.declared.module.Port.{Port}
use Rattle.bb_ast.specs.declared.module.PortKind.{PortKind}
use Rattle.bb_ast.specs.declared.module.PortKind.TheVariants as port_kinds
use Rattle.bb_ast.specs.declared.module.Range.{Range}
use Rattle.bb_ast.specs.Syntax.{PlainBody, Ports, Regs, Supply, PlainHead}
use Rattle.bb_lex.specs.declared.keyword.Keyword.TheVariants as words
use Rattle.bb_lex.specs.declared.mark.Mark.TheVariants.{LeftRound, RightRound, LeftSquare, RightSquare, Comma, Semicolon, Colon}
use Rattle.bb_lex.specs.declared.token.Kind.{Kind}
use Rattle.bb_lex.specs.declared.token.Kind.TheVariants as kinds
use Rattle.bb_parse.specs.Symbols.{Symbol}
use Rattle.bb_parse.specs.Inside.Symbols.{is_next, after, next_kind}
use Rattle.bb_parse.specs.Inside.Steps.{Read, ◌>>=◌, read_mark, read_name, read_plain, with_prefix, read_list}

-- what the next symbol is, taken
abbrev pub taken : {A : Type 0} → Option A → List Symbol → Read A
taken None ts = None
taken (Some x) ts = Some (x, after ts)

-- the same, or nothing
abbrev pub optional_taken : {A : Type 0} → Option A → List Symbol → Read (Option A)
optional_taken None ts = Some (None, ts)
optional_taken (Some x) ts = Some (Some x, after ts)

abbrev pub direction_of : Option Kind → Option Dir
direction_of (Some (kinds.Word words.Input)) = Some dirs.Input
direction_of (Some (kinds.Word words.Output)) = Some dirs.Output
direction_of _ = None

abbrev pub port_kind_of : Option Kind → Option PortKind
port_kind_of (Some (kinds.Word words.Wire)) = Some port_kinds.Wire
port_kind_of (Some (kinds.Word words.Reg)) = Some port_kinds.Reg
port_kind_of _ = None

unfoldable pub read_range : List Symbol → Read Range
read_range ts = read_mark LeftSquare ts >>= (λ a. read_plain a.1 >>= (λ l. read_mark Colon l.1 >>= (λ c. read_plain c.1 >>= (λ r. read_mark RightSquare r.1 >>= (λ z.
    Some (record { left = l.0; right = r.0 }, z.1))))))

unfoldable pub read_optional_range : List Symbol → Read (Option Range)
read_optional_range ts = if is_next LeftSquare ts then read_range ts >>= (λ r. Some (Some r.0, r.1)) else Some (None, ts)

unfoldable pub read_port : List Symbol → Read Port
read_port ts = taken (direction_of (next_kind ts)) ts >>= (λ d. optional_taken (port_kind_of (next_kind d.1)) d.1 >>= (λ k. read_optional_range k.1 >>= (λ r.
    Some (record { dir = d.0; kind = k.0; range = r.0 }, r.1))))

unfoldable pub read_ports : List Symbol → Read PlainBody
read_ports ts = read_port ts >>= (λ p. read_list read_name p.1 >>= (λ ns. read_mark Semicolon ns.1 >>= (λ u. Some (Ports p.0 ns.0, u.1))))

-- after reg
unfoldable pub read_regs : List Symbol → Read PlainBody
read_regs ts = read_optional_range ts >>= (λ r. read_list read_name r.1 >>= (λ ns. read_mark Semicolon ns.1 >>= (λ u. Some (Regs r.0 ns.0, u.1))))

-- after supply0 or supply1
unfoldable pub read_supply : Bool → List Symbol → Read PlainBody
read_supply high ts = read_optional_range ts >>= (λ r. read_list read_name r.1 >>= (λ ns. read_mark Semicolon ns.1 >>= (λ u. Some (Supply high r.0 ns.0, u.1))))

unfoldable pub read_head : List Symbol → Read PlainHead
read_head ts = read_name ts >>= (λ n. Some (record { name = n.0; decl = None }, n.1))

-- a declaration, or else the one before
unfoldable pub read_next_port : Port → List Symbol → Read Port
read_next_port port ts = if is_some (direction_of (next_kind ts)) then read_port ts else Some (port, ts)

-- a name with its declaration
unfoldable pub read_ansi : Port → List Symbol → Read (Port × List ℕ)
read_ansi port ts = read_next_port port ts >>= (λ p. read_name p.1 >>= (λ n. Some ((p.0, n.0), n.1)))

abbrev pub declared : Port × List ℕ → PlainHead
declared x = record { name = x.1; decl = Some x.0 }

-- at most n commas, each with a name and its declaration
abbrev pub read_ansi_more : Port → ℕ → List Symbol → Read (List PlainHead)
read_ansi_more port zero ts = Some ([], ts)
read_ansi_more port (suc n) ts = if is_next Comma ts then read_ansi port (after ts) >>= (λ x. with_prefix (declared x.0 ∷ []) (read_ansi_more x.0.0 n x.1)) else Some ([], ts)

unfoldable pub read_ansi_heads : List Symbol → Read (List PlainHead)
read_ansi_heads ts = read_port ts >>= (λ p. read_name p.1 >>= (λ n. with_prefix (declared (p.0, n.0) ∷ []) (read_ansi_more p.0 (length n.1) n.1)))

-- after (
unfoldable pub read_heads : List Symbol → Read (List PlainHead)
read_heads ts =
    if is_next RightRound ts then Some ([], after ts)
    else (if is_some (direction_of (next_kind ts)) then read_ansi_heads ts else read_list read_head ts) >>= (λ hs. read_mark RightRound hs.1 >>= (λ u. Some (hs.0, u.1)))

-- after module
unfoldable pub read_header : List Symbol → Read (List ℕ × List PlainHead)
read_header ts = read_name ts >>= (λ n. (if is_next LeftRound n.1 then read_heads (after n.1) else Some ([], n.1)) >>= (λ hs. read_mark Semicolon hs.1 >>= (λ u. Some ((n.0, hs.0), u.1))))

abbrev pub header_at : Option Kind → List Symbol → Read (List ℕ × List PlainHead)
header_at (Some (kinds.Word words.Module)) ts = read_header (after ts)
header_at _ ts = None
