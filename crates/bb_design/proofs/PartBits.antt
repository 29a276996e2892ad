-- The bits that a construct drives or reads are bits of the design, where the nets that it uses have their bits in its scope.
use Rattle.std.proofs.Common.{◌≡◌, ◌⊎◌, ℕ, List, [], ◌++◌, map, flat_map, zip, length, Contains, subst, ◌∙◌, ◌+◌, sym, inl, inr, refl, arith}
use Rattle.std.specs.List.{enumerate_from, range_with_len}
use Rattle.std.proofs.lemmas.List.Elements.{Contains-append_cases}
use Rattle.bb_lemmas.proofs.Numbered.{from_numbered}
use Rattle.bb_ast.specs.Syntax.{Expression}
use Rattle.bb_names.specs.Declarations.{range_of}
use Rattle.bb_names.specs.Nets.{net_names}
use Rattle.bb_names.specs.Ranges.{range_width}
use Rattle.bb_names.specs.Sites.{Use, Pin, sites_in}
use Rattle.bb_expr.specs.Terms.{Term}
use Rattle.bb_expr.specs.Terms as term
use Rattle.bb_design.specs.Hierarchy.{Scope, path_to}
use Rattle.bb_design.specs.NetBits.{Bit, scope_bits, bits_named, pin_bits, output_bits, written_bits}
use Rattle.bb_design.specs.Contexts.{width_of, context_width, made_in}
use Rattle.bb_bits.specs.Bits.{low_bits}
use Rattle.bb_design.specs.Constructs.{Construct, Assignment, GateInstance, Register, SupplyNet, InputConnection, OutputConnection, BoxContents}
use Rattle.bb_design.specs.Drivers.{Free, MadeOf, Box, Drive, driven, driven_by, terminal_terms, drives_at}
use Rattle.bb_design.specs.GateFunctions.{on_terms, gate_gives, gate_cells}
use Rattle.bb_design.specs.Reading.{cells_at, operand_terms, bit_itself, read_beside, read_at, copied}
use Rattle.bb_design.specs.Registers.{data_terms}
use Rattle.bb_lemmas.proofs.Members.{from_flat, from_map, contains_cases, none_in_nil}
use Rattle.bb_design.proofs.KnownNets.{bits_there, filtered_there}
use Rattle.bb_design.proofs.Operators.{Each, each_append, each_drop}
use Rattle.bb_design.proofs.TermNets.{Names, AreNamed, HaveUsed, named, written_there, itself_there, operands_named, gate_named}
use Rattle.bb_lemmas.proofs.Zips.{zip_parts}

-- the nets that an expression uses have their bits in the scope
abbrev pub IsUsedWell : Scope → Expression → Type 0
IsUsedWell s e = (how : Use) × HaveUsed s (sites_in how e)

module _ (G : Bit → Type 0) where
  -- the nets of a construct have their bits
  abbrev pub HasNets : Scope → Construct → Type 0
  HasNets s (Assignment left right) = IsUsedWell s left × IsUsedWell s right
  HasNets s (GateInstance gate outs ins) = ((e : Expression) → Contains outs e → IsUsedWell s e) × ((e : Expression) → Contains ins e → IsUsedWell s e)
  HasNets s (Register r) = IsUsedWell s r.clock × IsUsedWell s r.left × IsUsedWell s r.right
  HasNets s (SupplyNet high n) = Contains (net_names s.source) n
  HasNets s (InputConnection i pin e) = IsUsedWell s e × ((b : Bit) → Contains (pin_bits (path_to s.path i) pin) b → G b)
  HasNets s (OutputConnection i pin e) = IsUsedWell s e × ((b : Bit) → Contains (pin_bits (path_to s.path i) pin) b → G b)
  HasNets s BoxContents = Unit {0}

  -- the bit is there, and that of which it is a copy
  abbrev pub IsThere : Drive → Type 0
  IsThere x = G x.bit × ((c : Bit) → Contains (copied x.source) c → G c)

  pub record PartThere (part : Scope × Construct) : Type 0 where
    pub driven : (x : Drive) → Contains (drives_at part) x → IsThere x
    pub read : (b : Bit) → Contains (read_at part) b → G b

  module _ (s : Scope) (up : (b : Bit) → Contains (scope_bits s) b → G b) where
    made_well : (e : Expression) (w : ℕ) → IsUsedWell s e → AreNamed s (made_in s e w)
    made_well e w used = named s used.0 e w used.1

    written_up : (e : Expression) → IsUsedWell s e → (b : Bit) → Contains (written_bits s e) b → G b
    written_up e used b has = up b (written_there s used.0 e used.1 b has)

    by_terms : (bits : List Bit) (terms : List Term) → ((b : Bit) → Contains bits b → G b) → Each terms (Names s) → (x : Drive) → Contains (driven_by s.path bits terms) x → IsThere x
    by_terms bits terms there all x has =
        let z = from_map (λ y. driven (MadeOf s.path y.1) y.0) (zip bits terms) x has in
        let p = zip_parts bits terms z.0 z.1 in
        subst IsThere z.2 (there z.0.0 p.0, λ c at. up c (itself_there s z.0.1 (all z.0.1 p.1) c at))

    by_cells : (cells : List Term) → Each cells (Names s) → (b : Bit) → Contains (flat_map (λ cell. flat_map (bit_itself s.path) (operand_terms cell)) cells) b → G b
    by_cells cells all b has =
        let cell = from_flat (λ cell. flat_map (bit_itself s.path) (operand_terms cell)) cells b has in
        let t = from_flat (bit_itself s.path) (operand_terms cell.0) b cell.2 in
        up b (itself_there s t.0 (operands_named s cell.0 (all cell.0 cell.1) t.0 t.1) b t.2)

    by_both : (c : Construct) → ((b : Bit) → Contains (flat_map (λ cell. flat_map (bit_itself s.path) (operand_terms cell)) (cells_at (s, c))) b → G b) → ((b : Bit) → Contains (read_beside (s, c)) b → G b)
        → (b : Bit) → Contains (read_at (s, c)) b → G b
    by_both c cells beside b has = by (Contains-append_cases (flat_map (λ cell. flat_map (bit_itself s.path) (operand_terms cell)) (cells_at (s, c))) (read_beside (s, c)) b has)
      where
        by : Contains (flat_map (λ cell. flat_map (bit_itself s.path) (operand_terms cell)) (cells_at (s, c))) b ⊎ Contains (read_beside (s, c)) b → G b
        by (inl h) = cells b h
        by (inr h) = beside b h

    nothing_beside : (b : Bit) → Contains [] b → G b
    nothing_beside b has = absurd (none_in_nil b has)

    terminals_named : (ins : List Expression) → ((e : Expression) → Contains ins e → IsUsedWell s e) → Each (terminal_terms s ins) (Names s)
    terminals_named ins used t has = let e = from_flat (λ e. (made_in s e (width_of s e)).bits) ins t has in (made_well e.0 (width_of s e.0) (used e.0 e.1)).bits t e.2

    terminal_cells : (ins : List Expression) → ((e : Expression) → Contains ins e → IsUsedWell s e) → Each (flat_map (λ e. (made_in s e (width_of s e)).cells) ins) (Names s)
    terminal_cells ins used t has = let e = from_flat (λ e. (made_in s e (width_of s e)).cells) ins t has in (made_well e.0 (width_of s e.0) (used e.0 e.1)).cells t e.2

    same_there : (b u c : Bit) → (u ≡ c) ⊎ Contains [] c → b ≡ u → G b → G c
    same_there b u c (inl e) f g = subst G (f ∙ e) g
    same_there b u c (inr none) f g = absurd (none_in_nil c none)

    pin_copied : (i : List ℕ) (pin : Pin) → ((b : Bit) → Contains (pin_bits (path_to s.path i) pin) b → G b) → (t : Term) → Contains (map (λ b. term.Net b.net b.place) (pin_bits (path_to s.path i) pin)) t
        → (c : Bit) → Contains (bit_itself (path_to s.path i) t) c → G c
    pin_copied i pin there t has c at =
        let k = from_map (λ b. term.Net b.net b.place) (pin_bits (path_to s.path i) pin) t has in
        let j = from_map (λ p. record { path = path_to s.path i; net = pin.name; place = p }) (range_with_len 0 pin.width) k.0 k.1 in
        same_there k.0 (record { path = path_to s.path i; net = k.0.net; place = k.0.place }) c (contains_cases (record { path = path_to s.path i; net = k.0.net; place = k.0.place }) [] c (subst (λ u. Contains (bit_itself (path_to s.path i) u) c) (sym k.2) at))
        (subst (λ (u : Bit). u ≡ record { path = path_to s.path i; net = u.net; place = u.place }) j.2 refl) (there k.0 k.1)

    pub part_there : (c : Construct) → HasNets s c → PartThere (s, c)
    part_there (Assignment left right) nets =
        let m = made_well right (context_width s left right) nets.1 in
        record {
          driven = by_terms (written_bits s left) (low_bits (length (written_bits s left)) (made_in s right (context_width s left right)).bits) (written_up left nets.0)
              (each_drop (Names s) _ (made_in s right (context_width s left right)).bits m.bits);
          read = by_both (Assignment left right) (by_cells (made_in s right (context_width s left right)).cells m.cells) nothing_beside;
        }
    part_there (GateInstance gate outs ins) nets =
        let terms = terminal_terms s ins in
        let all = gate_named s gate terms (terminals_named ins nets.1) in
        record {
          driven = λ x has.
              let z = from_map (driven (MadeOf s.path (gate_gives on_terms gate terms))) (flat_map (written_bits s) outs) x has in
              let e = from_flat (written_bits s) outs z.0 z.1 in
              subst IsThere z.2 (written_up e.0 (nets.0 e.0 e.1) z.0 e.2, λ c at. up c (itself_there s (gate_gives on_terms gate terms) all.0 c at));
          read = by_both (GateInstance gate outs ins) (by_cells (flat_map (λ e. (made_in s e (width_of s e)).cells) ins ++ gate_cells gate terms)
              (each_append (Names s) (flat_map (λ e. (made_in s e (width_of s e)).cells) ins) (gate_cells gate terms) (terminal_cells ins nets.1) all.1)) nothing_beside;
        }
    part_there (Register r) nets =
        let m = made_well r.right (context_width s r.left r.right) nets.2 in
        record {
          driven = λ x has. let z = from_map (driven Free) (written_bits s r.left) x has in subst IsThere z.2 (written_up r.left nets.1 z.0 z.1, λ c at. absurd (none_in_nil c at));
          read = by_both (Register r) (by_cells (made_in s r.right (context_width s r.left r.right)).cells m.cells) (beside (each_drop (Names s) _ (made_in s r.right (context_width s r.left r.right)).bits m.bits));
        }
      where
        beside : Each (data_terms s r) (Names s) → (b : Bit) → Contains (written_bits s r.clock ++ flat_map (bit_itself s.path) (data_terms s r)) b → G b
        beside all b has = by (Contains-append_cases (written_bits s r.clock) (flat_map (bit_itself s.path) (data_terms s r)) b has)
          where
            by : Contains (written_bits s r.clock) b ⊎ Contains (flat_map (bit_itself s.path) (data_terms s r)) b → G b
            by (inl h) = written_up r.clock nets.0 b h
            by (inr h) = let t = from_flat (bit_itself s.path) (data_terms s r) b h in up b (itself_there s t.0 (all t.0 t.1) b t.2)
    part_there (SupplyNet high n) nets = record {
      driven = λ x has.
          let z = from_map (driven (MadeOf s.path (term.Const high))) (bits_named s n) x has in
          subst IsThere z.2 (up z.0 (bits_there s n 0 (range_width (range_of s.source n)) nets (omega arith) z.0 z.1), λ c at. absurd (none_in_nil c at));
      read = by_both (SupplyNet high n) nothing_beside nothing_beside;
    }
    part_there (InputConnection i pin e) nets =
        let m = made_well e (width_of s e) nets.0 in
        record {
          driven = by_terms (pin_bits (path_to s.path i) pin) (made_in s e (width_of s e)).bits nets.1 m.bits;
          read = by_both (InputConnection i pin e) (by_cells (made_in s e (width_of s e)).cells m.cells) nothing_beside;
        }
    part_there (OutputConnection i pin e) nets = record {
      driven = λ x has.
          let pins = pin_bits (path_to s.path i) pin in
          let z = from_map (λ y. driven (MadeOf (path_to s.path i) y.1) y.0) (zip (written_bits s e) (map (λ b. term.Net b.net b.place) pins)) x has in
          let p = zip_parts (written_bits s e) (map (λ b. term.Net b.net b.place) pins) z.0 z.1 in
          subst IsThere z.2 (written_up e nets.0 z.0.0 p.0, λ c at. pin_copied i pin nets.1 z.0.1 p.1 c at);
      read = by_both (OutputConnection i pin e) nothing_beside nothing_beside;
    }
    part_there BoxContents nets = record {
      driven = λ x has.
          let z = from_map (λ y. driven (Box s y.0) y.1) (enumerate_from 0 (output_bits s)) x has in
          subst IsThere z.2 (up z.0.1 (filtered_there s _ z.0.1 (from_numbered 0 (output_bits s) z.0 z.1)), λ c at. absurd (none_in_nil c at));
      read = by_both BoxContents nothing_beside (λ b has. up b (filtered_there s _ b has));
    }
