-- What a read bit depends on is read.
use Rattle.std.proofs.Common.{◌≡◌, ◌⊎◌, Bool, true, false, if◌then◌else◌, List, [], ◌∷◌, ◌++◌, map, flat_map, fold, zip, Contains, sym, ap, subst, inl, inr}
use Rattle.std.specs.List.{enumerate_from}
use Rattle.std.proofs.lemmas.List.Elements.{Contains-append_left, Contains-append_right, Contains-append_cases}
use Rattle.bb_ast.specs.declared.module.Gate.{Gate}
use Rattle.bb_ast.specs.declared.module.Gate.TheVariants as gates
use Rattle.bb_ast.specs.Syntax.{Expression}
use Rattle.bb_names.specs.Declarations.{range_of}
use Rattle.bb_expr.specs.Terms.{Term, Const, Net, Not, And, Or, Xor, Mux}
use Rattle.bb_bits.specs.Closures.{Leads, One}
use Rattle.bb_design.specs.Hierarchy.{Path, Design, Scope, path_to}
use Rattle.bb_design.specs.NetBits.{Bit, input_bits, output_bits, bits_named, pin_bits, top_inputs, written_bits}
use Rattle.bb_design.specs.Contexts.{width_of, context_width, made_in}
use Rattle.bb_design.specs.Constructs.{Construct, Assignment, GateInstance, Register, SupplyNet, InputConnection, OutputConnection, BoxContents, parts}
use Rattle.bb_design.specs.GateFunctions.{on_terms, joins, joined, inverts, gate_gives, joined_after, joining_cells, gate_cells}
use Rattle.bb_design.specs.Drivers.{DrivingSource, Free, MadeOf, Box, Drive, driven, driven_by, terminal_terms, drives_at, drives}
use Rattle.bb_design.specs.Reading.{cells_at, operand_terms, bit_itself, read_beside, read_at, read_directly, copied, copied_bits, IsReadBit}
use Rattle.bb_design.specs.Dependence.{bits_below, needed}
use Rattle.bb_design.specs.Laws.{ReadNeedsRead}
use Rattle.bb_lemmas.proofs.Members.{from_flat, from_map, contains-map, contains_here, contains_there, contains_cases, none_in_nil, into_flat}
use Rattle.bb_design.proofs.Operators.{OpsIn, Each, Sub, ops_left, ops_right, each_nil, each_append, each_drop, closed}
use Rattle.bb_lemmas.proofs.Walks.{more_after}

-- a bit below a term is the term, or an operand of one of its cells
unfoldable pub IsOperand : Path → List Term → Bit → Type 0
IsOperand path cells c = (cell : Term) × Contains cells cell × Contains (flat_map (bit_itself path) (operand_terms cell)) c

unfoldable pub Below : Path → List Term → Term → Bit → Type 0
Below path cells t c = Contains (bit_itself path t) c ⊎ IsOperand path cells c

operand_of : (path : Path) (cells : List Term) (cell a : Term) (c : Bit) → Contains cells cell → Contains (operand_terms cell) a → Below path cells a c → Below path cells cell c
unfolding Below IsOperand
operand_of path cells cell a c has one (inl here) = inr (cell, has, into_flat (bit_itself path) (operand_terms cell) a c one here)
operand_of path cells cell a c has one (inr there) = inr there

pub below : (path : Path) (cells : List Term) (t : Term) (c : Bit) → OpsIn cells t → Contains (bits_below path t) c → Below path cells t c
unfolding Below IsOperand
below path cells (Const b) c h has = inl has
below path cells (Net n i) c h has = inl has
below path cells (Not a) c h has = operand_of path cells (Not a) a c h.0 (contains_here a []) (below path cells a c h.1 has)
below path cells (And a b) c h has = by (Contains-append_cases (bits_below path a) (bits_below path b) c has) (below path cells a c h.1) (below path cells b c h.2)
  where
    by : Contains (bits_below path a) c ⊎ Contains (bits_below path b) c → (Contains (bits_below path a) c → Below path cells a c) → (Contains (bits_below path b) c → Below path cells b c) → Below path cells (And a b) c
    by (inl x) p q = operand_of path cells (And a b) a c h.0 (contains_here a (b ∷ [])) (p x)
    by (inr x) p q = operand_of path cells (And a b) b c h.0 (contains_there a (b ∷ []) b (contains_here b [])) (q x)
below path cells (Or a b) c h has = by (Contains-append_cases (bits_below path a) (bits_below path b) c has) (below path cells a c h.1) (below path cells b c h.2)
  where
    by : Contains (bits_below path a) c ⊎ Contains (bits_below path b) c → (Contains (bits_below path a) c → Below path cells a c) → (Contains (bits_below path b) c → Below path cells b c) → Below path cells (Or a b) c
    by (inl x) p q = operand_of path cells (Or a b) a c h.0 (contains_here a (b ∷ [])) (p x)
    by (inr x) p q = operand_of path cells (Or a b) b c h.0 (contains_there a (b ∷ []) b (contains_here b [])) (q x)
below path cells (Xor a b) c h has = by (Contains-append_cases (bits_below path a) (bits_below path b) c has) (below path cells a c h.1) (below path cells b c h.2)
  where
    by : Contains (bits_below path a) c ⊎ Contains (bits_below path b) c → (Contains (bits_below path a) c → Below path cells a c) → (Contains (bits_below path b) c → Below path cells b c) → Below path cells (Xor a b) c
    by (inl x) p q = operand_of path cells (Xor a b) a c h.0 (contains_here a (b ∷ [])) (p x)
    by (inr x) p q = operand_of path cells (Xor a b) b c h.0 (contains_there a (b ∷ []) b (contains_here b [])) (q x)
below path cells (Mux i t e) c h has = first (Contains-append_cases (bits_below path i ++ bits_below path t) (bits_below path e) c has) (below path cells i c h.1) (below path cells t c h.2) (below path cells e c h.3)
  where
    second : Contains (bits_below path i) c ⊎ Contains (bits_below path t) c → (Contains (bits_below path i) c → Below path cells i c) → (Contains (bits_below path t) c → Below path cells t c) → Below path cells (Mux i t e) c
    second (inl x) p q = operand_of path cells (Mux i t e) i c h.0 (contains_here i (t ∷ e ∷ [])) (p x)
    second (inr x) p q = operand_of path cells (Mux i t e) t c h.0 (contains_there i (t ∷ e ∷ []) t (contains_here t (e ∷ []))) (q x)

    first : Contains (bits_below path i ++ bits_below path t) c ⊎ Contains (bits_below path e) c → (Contains (bits_below path i) c → Below path cells i c) → (Contains (bits_below path t) c → Below path cells t c) → (Contains (bits_below path e) c → Below path cells e c) → Below path cells (Mux i t e) c
    first (inl x) p q r = second (Contains-append_cases (bits_below path i) (bits_below path t) c x) p q
    first (inr x) p q r = operand_of path cells (Mux i t e) e c h.0 (contains_there i (t ∷ e ∷ []) e (contains_there t (e ∷ []) e (contains_here e []))) (r x)

-- gates
join_ops : (gate : Gate) (cells : List Term) (a b : Term) → Contains cells (joins on_terms gate a b) → OpsIn cells a → OpsIn cells b → OpsIn cells (joins on_terms gate a b)
join_ops gates.And cells a b has p q = (has, p, q)
join_ops gates.Nand cells a b has p q = (has, p, q)
join_ops gates.Or cells a b has p q = (has, p, q)
join_ops gates.Nor cells a b has p q = (has, p, q)
join_ops gates.Xor cells a b has p q = (has, p, q)
join_ops gates.Xnor cells a b has p q = (has, p, q)
join_ops gates.Buf cells a b has p q = p
join_ops gates.Not cells a b has p q = p

fold_ops : (gate : Gate) (cells : List Term) (a : Term) (rest : List Term) → OpsIn cells a → Each rest (OpsIn cells) → Sub (joined_after (joins on_terms gate) a rest) cells → OpsIn cells (fold (joins on_terms gate) a rest)
fold_ops gate cells a [] first all sub = first
fold_ops gate cells a (b ∷ rest) first all sub = fold_ops gate cells (joins on_terms gate a b) rest
    (join_ops gate cells a b (sub (joins on_terms gate a b) (contains_here _ _)) first (all b (contains_here b rest)))
    (λ t has. all t (contains_there b rest t has)) (λ t has. sub t (contains_there _ _ t has))

joined_ops : (gate : Gate) (cells ins : List Term) → Each ins (OpsIn cells) → Sub (joining_cells gate ins) cells → OpsIn cells (joined on_terms gate ins)
joined_ops gate cells [] all sub = tt
joined_ops gate cells (a ∷ rest) all sub = fold_ops gate cells a rest (all a (contains_here a rest)) (λ t has. all t (contains_there a rest t has)) sub

gate_ops : (gate : Gate) (cells ins : List Term) → Each ins (OpsIn cells) → Sub (gate_cells gate ins) cells → OpsIn cells (gate_gives on_terms gate ins)
gate_ops gate cells ins all sub = by (inverts gate) (λ t has. sub t (Contains-append_right (joining_cells gate ins) _ t has))
  where
    inside : OpsIn cells (joined on_terms gate ins)
    inside = joined_ops gate cells ins all (λ t has. sub t (Contains-append_left (joining_cells gate ins) _ t has))

    by : (o : Bool) → Sub (if o then (if o then Not (joined on_terms gate ins) else joined on_terms gate ins) ∷ [] else []) cells → OpsIn cells (if o then Not (joined on_terms gate ins) else joined on_terms gate ins)
    by true last = (last (Not (joined on_terms gate ins)) (contains_here _ []), inside)
    by false last = inside

terminal_ops : (s : Scope) (ins : List Expression) → Each (terminal_terms s ins) (OpsIn (flat_map (λ e. (made_in s e (width_of s e)).cells) ins))
terminal_ops s [] = each_nil (OpsIn [])
terminal_ops s (e ∷ rest) = each_append (OpsIn ((made_in s e (width_of s e)).cells ++ flat_map (λ x. (made_in s x (width_of s x)).cells) rest)) (made_in s e (width_of s e)).bits (terminal_terms s rest)
    (λ t has. ops_left (made_in s e (width_of s e)).cells (flat_map (λ x. (made_in s x (width_of s x)).cells) rest) t (closed (range_of s.source) e (width_of s e) t has))
    (λ t has. ops_right (made_in s e (width_of s e)).cells (flat_map (λ x. (made_in s x (width_of s x)).cells) rest) t (terminal_ops s rest t has))

zip_right : {A B : Type 0} (xs : List A) (ys : List B) (z : A × B) → Contains (zip xs ys) z → Contains ys z.1
zip_right [] ys z has = absurd (none_in_nil z has)
zip_right (x ∷ xs) [] z has = absurd (none_in_nil z has)
zip_right (x ∷ xs) (y ∷ ys) z has = by (contains_cases (x, y) (zip xs ys) z has) (zip_right xs ys z)
  where
    by : ((x, y) ≡ z) ⊎ Contains (zip xs ys) z → (Contains (zip xs ys) z → Contains ys z.1) → Contains (y ∷ ys) z.1
    by (inl e) rest = subst (λ w. Contains (y ∷ ys) w.1) e (contains_here y ys)
    by (inr more) rest = contains_there y ys z.1 (rest more)

-- what a drive needs is what it copies, or is read in its construct
Needs : Scope × Construct → Drive → Bit → Type 0
Needs part x c = Contains (needed x.source) c → Contains (copied x.source) c ⊎ Contains (read_at part) c

made_needs : (part : Scope × Construct) (t : Term) (b c : Bit) → OpsIn (cells_at part) t → Needs part (driven (MadeOf part.0.path t) b) c
unfolding Needs Below IsOperand
made_needs part t b c ops has = by (below part.0.path (cells_at part) t c ops has)
  where
    by : Contains (bit_itself part.0.path t) c ⊎ ((cell : Term) × Contains (cells_at part) cell × Contains (flat_map (bit_itself part.0.path) (operand_terms cell)) c) → Contains (bit_itself part.0.path t) c ⊎ Contains (read_at part) c
    by (inl here) = inl here
    by (inr r) = inr (Contains-append_left _ (read_beside part) c (into_flat (λ cell. flat_map (bit_itself part.0.path) (operand_terms cell)) (cells_at part) r.0 c r.1 r.2))

-- where bits are driven by terms, each of which has its operators among the cells
terms_need : (part : Scope × Construct) (bits : List Bit) (terms : List Term) → Each terms (OpsIn (cells_at part)) → (x : Drive) → Contains (driven_by part.0.path bits terms) x → (c : Bit) → Needs part x c
unfolding Needs
terms_need part bits terms all x has c =
    let z = from_map (λ y. driven (MadeOf part.0.path y.1) y.0) (zip bits terms) x has in
    subst (λ w. Needs part w c) z.2 (made_needs part z.0.1 z.0.0 c (all z.0.1 (zip_right bits terms z.0 z.1)))

same_needs : (part : Scope × Construct) (source : DrivingSource) (bits : List Bit) → ((b c : Bit) → Needs part (driven source b) c) → (x : Drive) → Contains (map (driven source) bits) x → (c : Bit) → Needs part x c
unfolding Needs
same_needs part source bits all x has c = let z = from_map (driven source) bits x has in subst (λ w. Needs part w c) z.2 (all z.0 c)

free_needs : (part : Scope × Construct) (b c : Bit) → Needs part (driven Free b) c
unfolding Needs
free_needs part b c has = absurd (none_in_nil c has)

part_needs : (part : Scope × Construct) (x : Drive) → Contains (drives_at part) x → (c : Bit) → Needs part x c
unfolding Needs
part_needs (s, Assignment left right) x has c = terms_need (s, Assignment left right) (written_bits s left) _ (each_drop (OpsIn (made_in s right (context_width s left right)).cells) _ _ (closed (range_of s.source) right (context_width s left right))) x has c
part_needs (s, GateInstance gate outs ins) x has c =
    let cells = flat_map (λ e. (made_in s e (width_of s e)).cells) ins in
    let terms = terminal_terms s ins in
    same_needs (s, GateInstance gate outs ins) (MadeOf s.path (gate_gives on_terms gate terms)) (flat_map (written_bits s) outs)
    (λ b e. made_needs (s, GateInstance gate outs ins) (gate_gives on_terms gate terms) b e
    (gate_ops gate (cells ++ gate_cells gate terms) terms (λ t h. ops_left cells (gate_cells gate terms) t (terminal_ops s ins t h)) (λ t h. Contains-append_right cells (gate_cells gate terms) t h))) x has c
part_needs (s, Register r) x has c = same_needs (s, Register r) Free (written_bits s r.left) (free_needs (s, Register r)) x has c
part_needs (s, SupplyNet high n) x has c = same_needs (s, SupplyNet high n) (MadeOf s.path (Const high)) (bits_named s n) (λ b e h. absurd (none_in_nil e h)) x has c
part_needs (s, InputConnection i pin e) x has c =
    let z = from_map (λ y. driven (MadeOf s.path y.1) y.0) (zip (pin_bits (path_to s.path i) pin) (made_in s e (width_of s e)).bits) x has in
    subst (λ w. Needs (s, InputConnection i pin e) w c) z.2 (made_needs (s, InputConnection i pin e) z.0.1 z.0.0 c (closed (range_of s.source) e (width_of s e) z.0.1 (zip_right (pin_bits (path_to s.path i) pin) (made_in s e (width_of s e)).bits z.0 z.1)))
part_needs (s, OutputConnection i pin e) x has c =
    let z = from_map (λ y. driven (MadeOf (path_to s.path i) y.1) y.0) (zip (written_bits s e) (map (λ (b : Bit). Net b.net b.place) (pin_bits (path_to s.path i) pin))) x has in
    let t = from_map (λ (b : Bit). Net b.net b.place) (pin_bits (path_to s.path i) pin) z.0.1 (zip_right (written_bits s e) _ z.0 z.1) in
    subst (λ w. Needs (s, OutputConnection i pin e) w c) z.2 (subst (λ w. Needs (s, OutputConnection i pin e) (driven (MadeOf (path_to s.path i) w) z.0.0) c) t.2 (λ h. inl h))
part_needs (s, BoxContents) x has c =
    let z = from_map (λ y. driven (Box s y.0) y.1) (enumerate_from 0 (output_bits s)) x has in
    subst (λ w. Needs (s, BoxContents) w c) z.2 (λ h. inr (Contains-append_right [] (input_bits s) c h))

drive_needs : (d : Design) (x : Drive) → Contains (drives d) x → (c : Bit) → Contains (needed x.source) c → Contains (copied x.source) c ⊎ Contains (read_directly d) c
unfolding Needs
drive_needs d x has c h = by (Contains-append_cases (map (driven Free) (top_inputs d)) (flat_map drives_at (parts d)) x has)
  where
    top : Contains (map (driven Free) (top_inputs d)) x → Contains (copied x.source) c ⊎ Contains (read_directly d) c
    top here = let z = from_map (driven Free) (top_inputs d) x here in absurd (none_in_nil c (subst (λ (w : Drive). Contains (needed w.source) c) (sym z.2) h))

    inner : (part : Scope × Construct) → Contains (parts d) part → Contains (copied x.source) c ⊎ Contains (read_at part) c → Contains (copied x.source) c ⊎ Contains (read_directly d) c
    inner part there (inl y) = inl y
    inner part there (inr y) = inr (Contains-append_right _ (flat_map read_at (parts d)) c (into_flat read_at (parts d) part c there y))

    by : Contains (map (driven Free) (top_inputs d)) x ⊎ Contains (flat_map drives_at (parts d)) x → Contains (copied x.source) c ⊎ Contains (read_directly d) c
    by (inl here) = top here
    by (inr there) = let p = from_flat drives_at (parts d) x there in inner p.0 p.1 (part_needs p.0 x p.2 c h)

pub read_needs_read : ReadNeedsRead
read_needs_read d b c read has =
    let x = from_flat (λ y. map (λ e. (y.bit, e)) (needed y.source)) (drives d) (b, c) has in
    let y = from_map {B = Bit × Bit} (λ e. (x.0.bit, e)) (needed x.0.source) (b, c) x.2 in
    let there : Contains (needed x.0.source) c = subst (Contains (needed x.0.source)) (ap (λ z. z.1) y.2) y.1 in
    let bit : x.0.bit ≡ b = ap (λ z. z.0) y.2 in
    by x.0 x.1 bit (drive_needs d x.0 x.1 c there)
  where
    copy : Contains (copied_bits d) (b, c) → Contains (read_directly d) b ⊎ ((e : Bit) × Contains (read_directly d) e × Leads (copied_bits d) e b) → IsReadBit d c
    copy step (inl direct) = inr (b, direct, One step)
    copy step (inr far) = inr (far.0, far.1, more_after (copied_bits d) far.2 step)

    by : (x : Drive) → Contains (drives d) x → x.bit ≡ b → Contains (copied x.source) c ⊎ Contains (read_directly d) c → IsReadBit d c
    by x in_drives bit (inl here) = copy (subst (λ z. Contains (copied_bits d) (z, c)) bit (into_flat (λ y. map (λ e. (y.bit, e)) (copied y.source)) (drives d) x (x.bit, c) in_drives (contains-map {B = Bit × Bit} (λ e. (x.bit, e)) (copied x.source) c here))) read
    by x in_drives bit (inr direct) = inl direct
