-- Declarations and headers: what is read is of the grammar, and what is of the grammar is read.
use Rattle.std.proofs.Common.{◌≡◌, ◌⊎◌, inl, inr, ℕ, zero, suc, ◌<◌, ◌≤◌, List, [], ◌∷◌, Option, Some, None, true, false, refl, ap, ◌∙◌, subst, arith, length, IfSome, is_some, if◌then◌else◌}
use Rattle.bb_ast.specs.declared.module.Dir.{Dir}
use Rattle.bb_ast.specs.declared.module.Dir.TheVariants as dirs
use Rattle.bb_ast.specs.declared.module.Port.{Port}
use Rattle.bb_ast.specs.declared.module.PortKind.{PortKind}
use Rattle.bb_ast.specs.declared.module.PortKind.TheVariants as port_kinds
use Rattle.bb_ast.specs.declared.module.Range.{Range}
use Rattle.bb_ast.specs.Syntax.{PlainHead}
use Rattle.bb_lex.specs.declared.keyword.Keyword.TheVariants as words
use Rattle.bb_lex.specs.declared.mark.Mark.TheVariants.{LeftRound, RightRound, LeftSquare, RightSquare, Comma, Semicolon, Colon}
use Rattle.bb_lex.specs.declared.token.Kind.TheVariants as kinds
use Rattle.bb_parse.specs.Symbols.{Symbol, Identifier, Reserved, SizedNumber, PlainNumber, Sign}
use Rattle.bb_parse.specs.Lists.{IsName, IsOptional, IsList}
use Rattle.bb_parse.specs.Declarations.{IsRange, direction_word, port_kind_word, IsPortKind, IsPort, IsPlainHead, IsNextPort, IsMoreDeclared, AreDeclared, AreHeads, absent, empty, named, declared, IsHeader}
use Rattle.bb_parse.specs.Inside.Symbols.{is_next, after, next_kind}
use Rattle.bb_parse.specs.Inside.Steps.{read_mark, read_name, read_plain, read_list}
use Rattle.bb_parse.specs.Inside.Declarations.{taken, optional_taken, direction_of, port_kind_of, read_range, read_optional_range, read_port, read_head, read_next_port, read_ansi, read_ansi_more, read_ansi_heads, read_heads, read_header, header_at}
use Rattle.bb_parse.proofs.Marks.{next_is, rank_next, no_comma}
use Rattle.bb_parse.proofs.Parts.{and_then, and_so, either_way, after_prefix, mark_sound, name_sound, plain_sound}
use Rattle.bb_parse.proofs.ListLaws.{Sound, Complete, list_sound, list_complete}

-- what is read is of the grammar

pub range_sound : Sound IsRange read_range
unfolding read_range
range_sound ts =
    and_then (read_mark LeftSquare ts) _ (λ a. ts ≡ Sign LeftSquare ∷ a.1) _ (mark_sound LeftSquare ts) (λ a p.
    and_then (read_plain a.1) _ (λ l. a.1 ≡ PlainNumber l.0 ∷ l.1) _ (plain_sound a.1) (λ l q.
    and_then (read_mark Colon l.1) _ (λ c. l.1 ≡ Sign Colon ∷ c.1) _ (mark_sound Colon l.1) (λ c r.
    and_then (read_plain c.1) _ (λ m. c.1 ≡ PlainNumber m.0 ∷ m.1) _ (plain_sound c.1) (λ m s.
    and_then (read_mark RightSquare m.1) _ (λ z. m.1 ≡ Sign RightSquare ∷ z.1) _ (mark_sound RightSquare m.1) (λ z t.
    p ∙ ap (λ x. Sign LeftSquare ∷ x) (q ∙ ap (λ x. PlainNumber l.0 ∷ x) (r ∙ ap (λ x. Sign Colon ∷ x) (s ∙ ap (λ x. PlainNumber m.0 ∷ x) t))))))))

pub optional_range_sound : Sound (IsOptional IsRange) read_optional_range
unfolding read_optional_range
optional_range_sound ts =
    either_way (is_next LeftSquare ts) _ _ _
    (λ h. and_then (read_range ts) _ (λ r. IsRange ts r.0 r.1) _ (range_sound ts) (λ r p. p))
    (λ h. refl)

direction_sound : (ts : List Symbol) → IfSome (taken (direction_of (next_kind ts)) ts) (λ x. ts ≡ Reserved (direction_word x.0) ∷ x.1)
direction_sound [] = tt
direction_sound (Identifier n ∷ ts) = tt
direction_sound (Reserved words.Input ∷ ts) = refl
direction_sound (Reserved words.Output ∷ ts) = refl
direction_sound (Reserved w ∷ ts) = tt
direction_sound (SizedNumber b ∷ ts) = tt
direction_sound (PlainNumber n ∷ ts) = tt
direction_sound (Sign m ∷ ts) = tt

port_kind_sound : (ts : List Symbol) → IfSome (optional_taken (port_kind_of (next_kind ts)) ts) (λ x. IsOptional IsPortKind ts x.0 x.1)
port_kind_sound [] = refl
port_kind_sound (Identifier n ∷ ts) = refl
port_kind_sound (Reserved words.Wire ∷ ts) = refl
port_kind_sound (Reserved words.Reg ∷ ts) = refl
port_kind_sound (Reserved w ∷ ts) = refl
port_kind_sound (SizedNumber b ∷ ts) = refl
port_kind_sound (PlainNumber n ∷ ts) = refl
port_kind_sound (Sign m ∷ ts) = refl

pub port_sound : Sound IsPort read_port
unfolding read_port
port_sound ts =
    and_then (taken (direction_of (next_kind ts)) ts) _ (λ d. ts ≡ Reserved (direction_word d.0) ∷ d.1) _ (direction_sound ts) (λ d p.
    and_then (optional_taken (port_kind_of (next_kind d.1)) d.1) _ (λ k. IsOptional IsPortKind d.1 k.0 k.1) _ (port_kind_sound d.1) (λ k q.
    and_then (read_optional_range k.1) _ (λ r. IsOptional IsRange k.1 r.0 r.1) _ (optional_range_sound k.1) (λ r s.
    (d.1, k.1, p, q, s))))

head_sound : Sound IsPlainHead read_head
unfolding read_head
head_sound ts = and_then (read_name ts) _ (λ n. ts ≡ Identifier n.0 ∷ n.1) _ (name_sound ts) (λ n p. (p, refl))

next_port_sound : (before : Port) → Sound (IsNextPort before) (read_next_port before)
unfolding read_next_port
next_port_sound before ts =
    either_way (is_some (direction_of (next_kind ts))) _ _ _
    (λ h. and_so (read_port ts) (λ x. IsPort ts x.0 x.1) _ (port_sound ts) (λ x p. inl p))
    (λ h. inr (refl, refl))

ansi_sound : (before : Port) (ts : List Symbol) → IfSome (read_ansi before ts) (λ x. IsNextPort before ts x.0.0 (Identifier x.0.1 ∷ x.1))
unfolding read_ansi
ansi_sound before ts =
    and_then (read_next_port before ts) _ (λ p. IsNextPort before ts p.0 p.1) _ (next_port_sound before ts) (λ p q.
    and_then (read_name p.1) _ (λ n. p.1 ≡ Identifier n.0 ∷ n.1) _ (name_sound p.1) (λ n r.
    subst (λ z. IsNextPort before ts p.0 z) r q))

more_declared_sound : (before : Port) (n : ℕ) → Sound (IsMoreDeclared before) (read_ansi_more before n)
more_declared_sound before zero ts = refl
more_declared_sound before (suc n) ts =
    let P : List PlainHead × List Symbol → Type 0 = λ hs. IsMoreDeclared before ts hs.0 hs.1 in
    either_way (is_next Comma ts) _ _ P
    (λ h. and_then (read_ansi before (after ts)) _ (λ x. IsNextPort before (after ts) x.0.0 (Identifier x.0.1 ∷ x.1)) P (ansi_sound before (after ts)) (λ x p.
    let head : PlainHead = record { name = x.0.1; decl = Some x.0.0 } in
    after_prefix head (read_ansi_more x.0.0 n x.1) P
    (and_so (read_ansi_more x.0.0 n x.1) (λ hs. IsMoreDeclared x.0.0 x.1 hs.0 hs.1) (λ hs. IsMoreDeclared before ts (head ∷ hs.0) hs.1) (more_declared_sound x.0.0 n x.1) (λ hs q.
    (x.0.0, after ts, x.1, next_is Comma ts h, p, refl, q)))))
    (λ h. refl)

ansi_heads_sound : Sound AreDeclared read_ansi_heads
unfolding read_ansi_heads
ansi_heads_sound ts =
    let P : List PlainHead × List Symbol → Type 0 = λ hs. AreDeclared ts hs.0 hs.1 in
    and_then (read_port ts) _ (λ p. IsPort ts p.0 p.1) P (port_sound ts) (λ p q.
    and_then (read_name p.1) _ (λ n. p.1 ≡ Identifier n.0 ∷ n.1) P (name_sound p.1) (λ n r.
    let head : PlainHead = record { name = n.0; decl = Some p.0 } in
    after_prefix head (read_ansi_more p.0 (length n.1) n.1) P
    (and_so (read_ansi_more p.0 (length n.1) n.1) (λ hs. IsMoreDeclared p.0 n.1 hs.0 hs.1) (λ hs. AreDeclared ts (head ∷ hs.0) hs.1) (more_declared_sound p.0 (length n.1) n.1) (λ hs s.
    (p.0, n.1, subst (λ z. IsPort ts p.0 z) r q, refl, s)))))

heads_sound : (all ts : List Symbol) → all ≡ Sign LeftRound ∷ ts → IfSome (read_heads ts) (λ x. AreHeads all x.0 x.1)
unfolding read_heads
heads_sound all ts begins =
    either_way (is_next RightRound ts) _ _ _
    (λ h. empty (begins ∙ ap (λ z. Sign LeftRound ∷ z) (next_is RightRound ts h)) refl)
    (λ h. and_then (if is_some (direction_of (next_kind ts)) then read_ansi_heads ts else read_list read_head ts) _ (λ hs. AreDeclared ts hs.0 hs.1 ⊎ IsList IsPlainHead ts hs.0 hs.1) _
    (either_way (is_some (direction_of (next_kind ts))) (read_ansi_heads ts) (read_list read_head ts) _
    (λ d. and_so (read_ansi_heads ts) (λ hs. AreDeclared ts hs.0 hs.1) _ (ansi_heads_sound ts) (λ hs p. inl p))
    (λ d. and_so (read_list read_head ts) (λ hs. IsList IsPlainHead ts hs.0 hs.1) _ (list_sound IsPlainHead read_head head_sound ts) (λ hs p. inr p)))
    (λ hs p. and_then (read_mark RightRound hs.1) _ (λ u. hs.1 ≡ Sign RightRound ∷ u.1) _ (mark_sound RightRound hs.1) (λ u q.
    elim p [ inl d ↦ declared ts begins (subst (λ z. AreDeclared ts hs.0 z) q d) | inr d ↦ named ts begins (subst (λ z. IsList IsPlainHead ts hs.0 z) q d) ])))

read_header_sound : (all ts : List Symbol) → all ≡ Reserved words.Module ∷ ts → IfSome (read_header ts) (λ x. IsHeader all x.0 x.1)
unfolding read_header
read_header_sound all ts begins =
    and_then (read_name ts) _ (λ n. ts ≡ Identifier n.0 ∷ n.1) _ (name_sound ts) (λ n p.
    and_then (if is_next LeftRound n.1 then read_heads (after n.1) else Some ([], n.1)) _ (λ hs. AreHeads n.1 hs.0 hs.1) _
    (either_way (is_next LeftRound n.1) (read_heads (after n.1)) (Some ([], n.1)) (λ hs. AreHeads n.1 hs.0 hs.1)
    (λ h. heads_sound n.1 (after n.1) (next_is LeftRound n.1 h))
    (λ h. absent refl refl))
    (λ hs q. and_then (read_mark Semicolon hs.1) _ (λ u. hs.1 ≡ Sign Semicolon ∷ u.1) _ (mark_sound Semicolon hs.1) (λ u r.
    (n.1, begins ∙ ap (λ z. Reserved words.Module ∷ z) p, subst (λ z. AreHeads n.1 hs.0 z) r q))))

pub header_sound : (ts : List Symbol) → IfSome (header_at (next_kind ts) ts) (λ x. IsHeader ts x.0 x.1)
header_sound [] = tt
header_sound (Identifier n ∷ ts) = tt
header_sound (Reserved words.Module ∷ ts) = read_header_sound (Reserved words.Module ∷ ts) ts refl
header_sound (Reserved w ∷ ts) = tt
header_sound (SizedNumber b ∷ ts) = tt
header_sound (PlainNumber n ∷ ts) = tt
header_sound (Sign m ∷ ts) = tt

-- what is of the grammar is read

pub name_complete : Complete 0 IsName read_name
name_complete ts n rest p h = (rw p refl, omega (arith, ap length p))

-- a range, or nothing, before a name
pub optional_range_complete : (ts : List Symbol) (range : Option Range) (n : List ℕ) (rest : List Symbol) → IsOptional IsRange ts range (Identifier n ∷ rest)
    → (read_optional_range ts ≡ Some (range, Identifier n ∷ rest)) × (port_kind_of (next_kind ts) ≡ None) × (length rest < length ts)
unfolding read_optional_range read_range
optional_range_complete ts None n rest p = (rw p refl, rw p refl, omega (arith, ap length p))
optional_range_complete ts (Some r) n rest p = (rw p refl, rw p refl, omega (arith, ap length p))

port_kind_is : (kind : PortKind) → port_kind_of (Some (kinds.Word (port_kind_word kind))) ≡ Some kind
port_kind_is port_kinds.Wire = refl
port_kind_is port_kinds.Reg = refl

direction_is : (dir : Dir) → direction_of (Some (kinds.Word (direction_word dir))) ≡ Some dir
direction_is dirs.Input = refl
direction_is dirs.Output = refl

kind_complete : (ts : List Symbol) (kind : Option PortKind) (a : List Symbol) → IsOptional IsPortKind ts kind a → port_kind_of (next_kind a) ≡ None
    → (optional_taken (port_kind_of (next_kind ts)) ts ≡ Some (kind, a)) × (length a ≤ length ts)
kind_complete ts None a p h = (rw (p, h) refl, omega (arith, ap length p))
kind_complete ts (Some kind) a p h = (rw (p, port_kind_is kind) refl, omega (arith, ap length p))

-- a declaration before a name
pub port_complete : (ts : List Symbol) (port : Port) (n : List ℕ) (rest : List Symbol) → IsPort ts port (Identifier n ∷ rest)
    → (read_port ts ≡ Some (port, Identifier n ∷ rest)) × (direction_of (next_kind ts) ≡ Some port.dir) × (length rest < length ts)
unfolding read_port
port_complete ts port n rest p =
    let r = optional_range_complete p.1 port.range n rest p.4 in
    let k = kind_complete p.0 port.kind p.1 p.3 r.1 in
    (rw (p.2, direction_is port.dir, k.0, r.0) refl, rw p.2 (direction_is port.dir), omega (arith, ap length p.2, k.1, r.2))

head_complete : Complete 11 IsPlainHead read_head
unfolding read_head
head_complete ts head rest p h = (rw (p.0, ← p.1) refl, omega (arith, ap length p.0))

next_port_complete : (before : Port) (ts : List Symbol) (port : Port) (n : List ℕ) (rest : List Symbol) → IsNextPort before ts port (Identifier n ∷ rest)
    → (read_next_port before ts ≡ Some (port, Identifier n ∷ rest)) × (length rest < length ts)
unfolding read_next_port
next_port_complete before ts port n rest (inl p) =
    let one = port_complete ts port n rest p in
    (rw (one.1) one.0, one.2)
next_port_complete before ts port n rest (inr p) = (rw (p.1, p.0) refl, omega (arith, ap length p.1))

more_declared_complete : (before : Port) (ts : List Symbol) (heads : List PlainHead) (rest : List Symbol) (n : ℕ) → IsMoreDeclared before ts heads rest → 12 < rank_next rest → length ts ≤ n
    → (read_ansi_more before n ts ≡ Some (heads, rest)) × (length rest ≤ length ts)
unfolding read_ansi
more_declared_complete before ts [] rest zero p h le = (ap (λ z. Some ([], z)) p, omega (arith, ap length p))
more_declared_complete before ts [] rest (suc n) p h le = (rw (p, no_comma rest h) refl, omega (arith, ap length p))
more_declared_complete before ts (head ∷ heads) rest zero p h le = absurd (omega (arith, ap length p.3))
more_declared_complete before ts (head ∷ heads) rest (suc n) p h le =
    let one = next_port_complete before p.1 p.0 head.name p.2 p.4 in
    let le' : length p.2 ≤ n = omega (arith, ap length p.3, one.1) in
    let others = more_declared_complete p.0 p.2 heads rest n p.6 h le' in
    (rw (p.3, one.0, others.0, ← p.5) refl, omega (arith, ap length p.3, one.1, others.1))

ansi_heads_complete : (ts : List Symbol) (heads : List PlainHead) (rest : List Symbol) → AreDeclared ts heads rest → 12 < rank_next rest
    → (read_ansi_heads ts ≡ Some (heads, rest)) × (is_some (direction_of (next_kind ts)) ≡ true) × (is_next RightRound ts ≡ false)
unfolding read_ansi_heads
ansi_heads_complete ts [] rest p h = elim p [ ]
ansi_heads_complete ts (head ∷ heads) rest p h =
    let one = port_complete ts p.0 head.name p.1 p.2 in
    let others = more_declared_complete p.0 p.1 heads rest (length p.1) p.4 h (omega arith) in
    (rw (one.0, others.0, ← p.3) refl, rw one.1 refl, rw p.2.2 refl)

plain_heads_begin : (ts : List Symbol) (heads : List PlainHead) (rest : List Symbol) → IsList IsPlainHead ts heads rest
    → (is_some (direction_of (next_kind ts)) ≡ false) × (is_next RightRound ts ≡ false)
plain_heads_begin ts [] rest p = elim p [ ]
plain_heads_begin ts (head ∷ heads) rest p = (rw p.1.0 refl, rw p.1.0 refl)

heads_complete : (ts : List Symbol) (heads : List PlainHead) (rest : List Symbol) → AreHeads ts heads (Sign Semicolon ∷ rest)
    → (if is_next LeftRound ts then read_heads (after ts) else Some ([], ts)) ≡ Some (heads, Sign Semicolon ∷ rest)
unfolding read_heads
heads_complete ts heads rest (absent p q) = rw (p, q) refl
heads_complete ts heads rest (empty p q) = rw (p, q) refl
heads_complete ts heads rest (named a p l) =
    let all = list_complete IsPlainHead read_head head_complete a heads (Sign RightRound ∷ Sign Semicolon ∷ rest) l (omega arith) in
    let begins = plain_heads_begin a heads (Sign RightRound ∷ Sign Semicolon ∷ rest) l in
    rw (p, begins.1, begins.0, all.0) refl
heads_complete ts heads rest (declared a p l) =
    let all = ansi_heads_complete a heads (Sign RightRound ∷ Sign Semicolon ∷ rest) l (omega arith) in
    rw (p, all.2, all.1, all.0) refl

pub header_complete : (ts : List Symbol) (x : List ℕ × List PlainHead) (rest : List Symbol) → IsHeader ts x rest → header_at (next_kind ts) ts ≡ Some (x, rest)
unfolding read_header
header_complete ts x rest p = rw (p.1, heads_complete p.0 x.1 rest p.2) refl
