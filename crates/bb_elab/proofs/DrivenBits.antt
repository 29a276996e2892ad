-- The driven bits of a design, construct by construct.
use Rattle.std.proofs.Common.{if◌then◌else◌, ◌≡◌, ◌+◌, ◌-◌, ◌≤◌, ◌++◌, ◌⊎◌, inl, inr, ℕ, Bool, true, false, List, [], ◌∷◌, map, length, Contains, refl, sym, ap, ap₂, ◌∙◌, subst, arith}
use Rattle.std.specs.List.{enumerate_from, flat_map}
use Rattle.std.proofs.lemmas.Grind.{flat_map-append}
use Rattle.std.proofs.lemmas.List.{map-append, length-map, length-drop}
use Rattle.std.proofs.lemmas.List.Elements.{All-contains}
use Rattle.bb_ast.specs.Syntax.{Expression}
use Rattle.bb_names.specs.Declarations.{range_of}
use Rattle.bb_names.specs.Sites.{Pin}
use Rattle.bb_expr.specs.Laws.{ValuesHaveWidth, MadeHasValue}
use Rattle.bb_expr.specs.Terms.{Term, term_bit}
use Rattle.bb_design.specs.Hierarchy.{Design, Path, Scope, path_to, scopes, is_box}
use Rattle.bb_design.specs.NetBits.{Bit, bits_named, pin_bits, output_bits, top_inputs, written_bits}
use Rattle.bb_design.specs.Contexts.{width_of, context_width, made_in}
use Rattle.bb_bits.specs.Bits.{low_bits}
use Rattle.bb_design.specs.Constructs.{Construct, Assignment, GateInstance, Register, SupplyNet, InputConnection, OutputConnection, BoxContents, body_constructs, constructs_at, parts}
use Rattle.bb_design.specs.Drivers.{DrivingSource, Free, MadeOf, Box, Drive, driven, driven_by, terminal_terms, drives_at, driven_bits}
use Rattle.bb_design.specs.Laws.DrivenWorlds.{IsLegal}
use Rattle.bb_design.specs.GateFunctions.{on_terms, gate_gives}
use Rattle.bb_design.specs.Inside.Allowed.{IsBounded}
use Rattle.bb_lemmas.proofs.Members.{contains_here, contains_there, contains_cases, none_in_nil}
use Rattle.bb_lemmas.proofs.Ranges.{length-range}
use Rattle.bb_expr.specs.Terms as term
use Rattle.bb_design.specs.Laws.DesignLaws.{DesignLaws}

-- the bits that a construct drives

abbrev pub bits_driven : Scope → Construct → List Bit
bits_driven s (Assignment left right) = written_bits s left
bits_driven s (GateInstance gate outs ins) = flat_map (written_bits s) outs
bits_driven s (Register r) = written_bits s r.left
bits_driven s (SupplyNet high n) = bits_named s n
bits_driven s (InputConnection i pin e) = pin_bits (path_to s.path i) pin
bits_driven s (OutputConnection i pin e) = written_bits s e
bits_driven s BoxContents = output_bits s

of_driven : (source : DrivingSource) (bits : List Bit) → map (λ (x : Drive). x.bit) (map (driven source) bits) ≡ bits
of_driven source [] = refl
of_driven source (b ∷ bits) = ap (λ l. b ∷ l) (of_driven source bits)

of_numbered : (s : Scope) (a : ℕ) (bits : List Bit) → map (λ (x : Drive). x.bit) (map (λ x. driven (Box s x.0) x.1) (enumerate_from a bits)) ≡ bits
of_numbered s a [] = refl
of_numbered s a (b ∷ bits) = ap (λ l. b ∷ l) (of_numbered s (a + 1) bits)

of_terms : (path : Path) (bits : List Bit) (terms : List Term) → length bits ≤ length terms → map (λ (x : Drive). x.bit) (driven_by path bits terms) ≡ bits
of_terms path [] [] le = refl
of_terms path [] (t ∷ terms) le = refl
of_terms path (b ∷ bits) [] le = absurd (omega (arith, le))
of_terms path (b ∷ bits) (t ∷ terms) le = ap (λ l. b ∷ l) (of_terms path bits terms (omega (arith, le)))

pins_long : (path : Path) (pin : Pin) → length (pin_bits path pin) ≡ pin.width
pins_long path pin = length-map _ _ ∙ length-range 0 pin.width

-- a connection is as wide as its port
abbrev IsFitting : Scope → Construct → Type 0
IsFitting s (Assignment left right) = Unit {0}
IsFitting s (GateInstance gate outs ins) = Unit {0}
IsFitting s (Register r) = Unit {0}
IsFitting s (SupplyNet high n) = Unit {0}
IsFitting s (InputConnection i pin e) = width_of s e ≡ pin.width
IsFitting s (OutputConnection i pin e) = width_of s e ≡ pin.width
IsFitting s BoxContents = Unit {0}

legal_fits : (s : Scope) (c : Construct) → IsLegal (λ k. []) s c → IsFitting s c
legal_fits s (Assignment left right) legal = tt
legal_fits s (GateInstance gate outs ins) legal = tt
legal_fits s (Register r) legal = tt
legal_fits s (SupplyNet high n) legal = tt
legal_fits s (InputConnection i pin e) legal = legal
legal_fits s (OutputConnection i pin e) legal = legal.width
legal_fits s BoxContents legal = tt

module _ (of_designs : DesignLaws) (values : ValuesHaveWidth) (cells : MadeHasValue) where
  made_long : (s : Scope) (e : Expression) (n : ℕ) → width_of s e ≤ n → length (made_in s e n).bits ≡ n
  made_long s e n fits =
      let env : List ℕ → ℕ → Bool = λ m k. false in
      sym (length-map (made_in s e n).bits (term_bit env)) ∙ ap length (cells (range_of s.source) env e n fits) ∙ values (range_of s.source) env e n fits

  drives_are : (s : Scope) (c : Construct) → IsFitting s c → map (λ (x : Drive). x.bit) (drives_at (s, c)) ≡ bits_driven s c
  drives_are s (Assignment left right) legal =
      let n = length (written_bits s left) in
      let wide = context_width s left right in
      let made = (made_in s right wide).bits in
      let fits : width_of s right ≤ wide = omega arith in
      let long = made_long s right wide fits in
      let short = of_designs.written_few s left in
      of_terms s.path (written_bits s left) (low_bits n made) (omega (arith, length-drop (length made - n) made, long, short))
  drives_are s (GateInstance gate outs ins) legal = of_driven (MadeOf s.path (gate_gives on_terms gate (terminal_terms s ins))) (flat_map (written_bits s) outs)
  drives_are s (Register r) legal = of_driven Free (written_bits s r.left)
  drives_are s (SupplyNet high n) legal = of_driven (MadeOf s.path (term.Const high)) (bits_named s n)
  drives_are s (InputConnection i pin e) legal = of_terms s.path (pin_bits (path_to s.path i) pin) (made_in s e (width_of s e)).bits (omega (arith, pins_long (path_to s.path i) pin, legal, made_long s e (width_of s e) (omega arith)))
  drives_are s (OutputConnection i pin e) legal =
      let pins = pin_bits (path_to s.path i) pin in
      let short = of_designs.written_few s e in
      of_terms (path_to s.path i) (written_bits s e) (map (λ b. term.Net b.net b.place) pins) (omega (arith, short, legal, pins_long (path_to s.path i) pin, length-map pins (λ b. term.Net b.net b.place)))
  drives_are s BoxContents legal = of_numbered s 0 (output_bits s)

-- the whole design
-- the bits that a scope drives
abbrev pub drivers_in : Design → Scope → List Bit
drivers_in d s = flat_map (bits_driven s) (constructs_at d.text s)

module _ (of_designs : DesignLaws) (values : ValuesHaveWidth) (cells : MadeHasValue) (d : Design) (bounded : IsBounded d) where
  fitting : (s : Scope) → Contains (scopes d) s → (c : Construct) → Contains (constructs_at d.text s) c → IsFitting s c
  fitting s here c has = by (is_box s) refl
    where
      only : (BoxContents ≡ c) ⊎ Contains [] c → IsFitting s c
      only (inl same) = subst (IsFitting s) same tt
      only (inr none) = absurd (none_in_nil c none)

      by : (b : Bool) → is_box s ≡ b → IsFitting s c
      by true box = only (contains_cases BoxContents [] c (subst (λ b. Contains (if b then BoxContents ∷ [] else flat_map (λ item. body_constructs d.text item.body) s.source.items) c) box has))
      by false box = legal_fits s c (All-contains (IsLegal (λ k. []) s) (constructs_at d.text s) c (of_designs.constructs_legal d.text (λ k. []) s bounded.faultless (of_designs.of_text d s bounded.top here) box) has)

  scope_drives : (s : Scope) (cs : List Construct) → ((c : Construct) → Contains cs c → IsFitting s c) → map (λ (x : Drive). x.bit) (flat_map drives_at (map (λ c. (s, c)) cs)) ≡ flat_map (bits_driven s) cs
  scope_drives s [] fits = refl
  scope_drives s (c ∷ cs) fits = map-append (λ (x : Drive). x.bit) (drives_at (s, c)) (flat_map drives_at (map (λ c. (s, c)) cs))
      ∙ ap₂ ◌++◌ (drives_are of_designs values cells s c (fits c (contains_here c cs))) (scope_drives s cs (λ z has. fits z (contains_there c cs z has)))

  all_drives : (ss : List Scope) → ((s : Scope) → Contains ss s → Contains (scopes d) s) → map (λ (x : Drive). x.bit) (flat_map drives_at (flat_map (λ s. map (λ c. (s, c)) (constructs_at d.text s)) ss)) ≡ flat_map (drivers_in d) ss
  all_drives [] there = refl
  all_drives (s ∷ ss) there =
      let here = map (λ c. (s, c)) (constructs_at d.text s) in
      let later = flat_map (λ s. map (λ c. (s, c)) (constructs_at d.text s)) ss in
      ap (map (λ (x : Drive). x.bit)) (flat_map-append drives_at here later) ∙ map-append (λ (x : Drive). x.bit) (flat_map drives_at here) (flat_map drives_at later)
      ∙ ap₂ ◌++◌ (scope_drives s (constructs_at d.text s) (fitting s (there s (contains_here s ss)))) (all_drives ss (λ z has. there z (contains_there s ss z has)))

  pub driven_are : driven_bits d ≡ top_inputs d ++ flat_map (drivers_in d) (scopes d)
  driven_are = map-append (λ (x : Drive). x.bit) (map (driven Free) (top_inputs d)) (flat_map drives_at (parts d)) ∙ ap₂ ◌++◌ (of_driven Free (top_inputs d)) (all_drives (scopes d) (λ s has. has))
