-- The next state of a register is given by bits that are read, so worlds of one vector have the same cut outputs.
use Rattle.std.proofs.Common.{◌≡◌, ◌⊎◌, ℕ, ◌≤◌, Bool, false, List, [], ◌∷◌, ◌++◌, map, flat_map, find, length, get_or, Contains, refl, sym, ap, ap₂, ◌∙◌, subst, inl, inr, arith}
use Rattle.std.specs.List.{enumerate_from}
use Rattle.std.proofs.lemmas.List.{map-append}
use Rattle.std.proofs.lemmas.List.Elements.{Contains-append_left, Contains-append_right}
use Rattle.bb_ast.specs.Syntax.{PlainAlways}
use Rattle.bb_names.specs.Declarations.{range_of}
use Rattle.bb_expr.specs.Cells.{MadeTerms}
use Rattle.bb_expr.specs.Laws.{MadeHasValue}
use Rattle.bb_expr.specs.Terms.{Term, term_bit}
use Rattle.bb_design.specs.Hierarchy.{Design, Scope}
use Rattle.bb_design.specs.NetBits.{Bit, same_bit, net_order, top_outputs, written_bits}
use Rattle.bb_design.specs.Contexts.{width_of, context_width, value_in, made_in}
use Rattle.bb_bits.specs.Bits.{low_bits}
use Rattle.bb_design.specs.Constructs.{Construct, Assignment, GateInstance, Register, SupplyNet, InputConnection, OutputConnection, BoxContents, parts}
use Rattle.bb_design.specs.Dependence.{bits_below}
use Rattle.bb_design.specs.Reading.{operand_terms, bit_itself, read_beside, read_at, IsReadBit}
use Rattle.bb_design.specs.Registers.{RegisterBit, stored_at, stored, registers, data_terms}
use Rattle.bb_design.specs.Texts.{bit_text}
use Rattle.bb_design.specs.Worlds.{World, bit_in, next_bit, outputs_in}
use Rattle.bb_net.specs.CutPoints.{CutOutput, TopOutput, NextState}
use Rattle.bb_lemmas.proofs.LowBits.{low-map}
use Rattle.bb_lemmas.proofs.Members.{from_flat, from_map, from_drop, into_flat, contains_here, contains_there, none_in_nil, from_find, from_filter_map}
use Rattle.bb_design.proofs.Operators.{closed}
use Rattle.bb_design.proofs.ReadingLaw.{IsOperand, Below, below}
use Rattle.bb_design.proofs.WorldLaws.{same_terms}

-- a register bit is stored by its item in its scope
pub stored_by : (part : Scope × Construct) (r : RegisterBit) → Contains (stored_at part) r → part ≡ (r.scope, Register r.item)
stored_by (s, Register a) r has =
    let make : ℕ × Bit → RegisterBit = λ y. record { scope = s; item = a; place = y.0; bit = y.1 } in
    let z = from_map make (enumerate_from 0 (written_bits s a.left)) r has in
    ap (λ (q : RegisterBit). (q.scope, Register q.item)) z.2
stored_by (s, Assignment left right) r has = absurd (none_in_nil r has)
stored_by (s, GateInstance gate outs ins) r has = absurd (none_in_nil r has)
stored_by (s, SupplyNet high n) r has = absurd (none_in_nil r has)
stored_by (s, InputConnection i pin e) r has = absurd (none_in_nil r has)
stored_by (s, OutputConnection i pin e) r has = absurd (none_in_nil r has)
stored_by (s, BoxContents) r has = absurd (none_in_nil r has)

pub register_part : (d : Design) (r : RegisterBit) → Contains (registers d) r → Contains (parts d) (r.scope, Register r.item)
register_part d r has =
    let b = from_filter_map (λ b. find (λ q. same_bit b q.bit) (stored d)) (net_order d) r has in
    let at = from_find (λ q. same_bit b.0 q.bit) (stored d) r b.2 in
    let part = from_flat stored_at (parts d) r at.0 in
    subst (Contains (parts d)) (stored_by part.0 r part.2) part.1

-- the data of a register are what the low bits of its right side are made of
pub data_bits : MadeHasValue → (w : World) (s : Scope) (a : PlainAlways) → low_bits (length (written_bits s a.left)) (value_in (w s.path) s a.right (context_width s a.left a.right)) ≡ map (term_bit (w s.path)) (data_terms s a)
data_bits cells w s a =
    let n = length (written_bits s a.left) in
    let wide = context_width s a.left a.right in
    let fits : width_of s a.right ≤ wide = omega arith in
    ap (low_bits n) (sym (cells (range_of s.source) (w s.path) a.right wide fits)) ∙ sym (low-map (term_bit (w s.path)) n (made_in s a.right wide).bits)

-- what the right side of a register is made of
abbrev right_side : Scope → PlainAlways → MadeTerms
right_side s a = made_in s a.right (context_width s a.left a.right)

-- and what they are made of is read
data_read : (d : Design) (s : Scope) (a : PlainAlways) → Contains (parts d) (s, Register a) → (t : Term) → Contains (data_terms s a) t → (c : Bit) → Contains (bits_below s.path t) c → IsReadBit d c
unfolding Below IsOperand
data_read d s a has t at c low = by (below s.path (right_side s a).cells t c (closed (range_of s.source) a.right (context_width s a.left a.right) t (from_drop _ (right_side s a).bits t at)) low)
  where
    operands : List Bit
    operands = flat_map (λ cell. flat_map (bit_itself s.path) (operand_terms cell)) (right_side s a).cells

    direct : Contains (read_at (s, Register a)) c → IsReadBit d c
    direct h = inl (Contains-append_right (top_outputs d) (flat_map read_at (parts d)) c (into_flat read_at (parts d) (s, Register a) c has h))

    by : Contains (bit_itself s.path t) c ⊎ ((cell : Term) × Contains (right_side s a).cells cell × Contains (flat_map (bit_itself s.path) (operand_terms cell)) c) → IsReadBit d c
    by (inl h) = direct (Contains-append_right operands (read_beside (s, Register a)) c (Contains-append_right (written_bits s a.clock) (flat_map (bit_itself s.path) (data_terms s a)) c (into_flat (bit_itself s.path) (data_terms s a) t c at h)))
    by (inr h) = direct (Contains-append_left operands (read_beside (s, Register a)) c (into_flat (λ cell. flat_map (bit_itself s.path) (operand_terms cell)) (right_side s a).cells h.0 c h.1 h.2))

module _ (cells : MadeHasValue) (d : Design) (w u : World) (agree : (b : Bit) → IsReadBit d b → bit_in w b ≡ bit_in u b) where
  terms_same : (s : Scope) (ts : List Term) → ((t : Term) → Contains ts t → (c : Bit) → Contains (bits_below s.path t) c → IsReadBit d c) → map (term_bit (w s.path)) ts ≡ map (term_bit (u s.path)) ts
  terms_same s [] read = refl
  terms_same s (t ∷ ts) read = ap₂ ◌∷◌ (same_terms s.path w u t (λ c low. agree c (read t (contains_here t ts) c low))) (terms_same s ts (λ y has. read y (contains_there t ts y has)))

  next_same : (r : RegisterBit) → Contains (registers d) r → next_bit w r ≡ next_bit u r
  next_same r has = ap (λ l. get_or l r.place false) (data_bits cells w r.scope r.item ∙ terms_same r.scope (data_terms r.scope r.item) (data_read d r.scope r.item (register_part d r has)) ∙ sym (data_bits cells u r.scope r.item))

  tops_same : (all : List Bit) → ((b : Bit) → Contains all b → Contains (top_outputs d) b) → map (bit_in w) all ≡ map (bit_in u) all
  tops_same [] sub = refl
  tops_same (b ∷ all) sub = ap₂ ◌∷◌ (agree b (inl (Contains-append_left (top_outputs d) (flat_map read_at (parts d)) b (sub b (contains_here b all))))) (tops_same all (λ c has. sub c (contains_there b all c has)))

  nexts_same : (all : List RegisterBit) → ((r : RegisterBit) → Contains all r → Contains (registers d) r) → map (next_bit w) all ≡ map (next_bit u) all
  nexts_same [] sub = refl
  nexts_same (r ∷ all) sub = ap₂ ◌∷◌ (next_same r (sub r (contains_here r all))) (nexts_same all (λ c has. sub c (contains_there r all c has)))

  -- worlds that agree wherever a bit is read have the same bits at all cut outputs
  pub outputs_same : map (bit_in w) (top_outputs d) ++ map (next_bit w) (registers d) ≡ map (bit_in u) (top_outputs d) ++ map (next_bit u) (registers d)
  outputs_same = ap₂ ◌++◌ (tops_same (top_outputs d) (λ b has. has)) (nexts_same (registers d) (λ r has. has))

-- the bits of the cut outputs
pub output_bits_in : (d : Design) (w : World) → map (λ o. o.1) (outputs_in d w) ≡ map (bit_in w) (top_outputs d) ++ map (next_bit w) (registers d)
output_bits_in d w =
    let first : List (CutOutput × Bool) = map (λ b. (TopOutput (bit_text d b), bit_in w b)) (top_outputs d) in
    let second : List (CutOutput × Bool) = map (λ r. (NextState (bit_text d r.bit), next_bit w r)) (registers d) in
    map-append (λ (o : CutOutput × Bool). o.1) first second ∙ ap₂ ◌++◌ (tops (top_outputs d)) (nexts (registers d))
  where
    tops : (all : List Bit) → map (λ (o : CutOutput × Bool). o.1) (map {B = CutOutput × Bool} (λ b. (TopOutput (bit_text d b), bit_in w b)) all) ≡ map (bit_in w) all
    tops [] = refl
    tops (b ∷ all) = ap (λ l. bit_in w b ∷ l) (tops all)

    nexts : (all : List RegisterBit) → map (λ (o : CutOutput × Bool). o.1) (map {B = CutOutput × Bool} (λ r. (NextState (bit_text d r.bit), next_bit w r)) all) ≡ map (next_bit w) all
    nexts [] = refl
    nexts (r ∷ all) = ap (λ l. next_bit w r ∷ l) (nexts all)
