-- The declarations of a filled module: inputs and outputs without a kind, then registers without a direction, all of one bit.
use Rattle.std.proofs.Common.{◌≡◌, ◌⊎◌, inl, inr, ℕ, None, List, ◌++◌, map, Contains, subst, sym}
use Rattle.std.proofs.lemmas.List.Elements.{Contains-append_cases, Contains-append_left, Contains-append_right}
use Rattle.bb_ast.specs.declared.module.Dir.{Dir}
use Rattle.bb_ast.specs.declared.module.Dir.TheVariants as directions
use Rattle.bb_ast.specs.declared.module.Port.{Port}
use Rattle.bb_ast.specs.Syntax.{PlainModule}
use Rattle.bb_names.specs.declared.net.NetKind.TheVariants.{Reg}
use Rattle.bb_names.specs.Declarations.{Declaration, declarations, net_declaration, port_declaration}
use Rattle.bb_net.specs.CutPoints.{state_texts}
use Rattle.bb_net.specs.Flats.{FlatNet}
use Rattle.bb_readback.specs.Laws.Modules.{plain_head}
use Rattle.bb_lemmas.proofs.Members.{contains-map, from_map}

-- a port of one bit
abbrev pub port_of : Dir → Port
port_of direction = record { dir = direction; kind = None; range = None }

abbrev pub said_of_input : List ℕ → Declaration
said_of_input = port_declaration (port_of directions.Input)

abbrev pub said_of_output : List ℕ → Declaration
said_of_output = port_declaration (port_of directions.Output)

abbrev pub said_of_register : List ℕ → Declaration
said_of_register = net_declaration Reg None

abbrev pub inputs_said : FlatNet → List Declaration
inputs_said f = map said_of_input f.ins

abbrev pub outputs_said : FlatNet → List Declaration
outputs_said f = map said_of_output f.outs

abbrev pub registers_said : FlatNet → List Declaration
registers_said f = map said_of_register (state_texts f)

abbrev pub all_said : FlatNet → List Declaration
all_said f = inputs_said f ++ outputs_said f ++ registers_said f

-- a module that declares these, and whose header has the inputs and the outputs
pub record Declares (m : PlainModule) (f : FlatNet) : Type 0 where
  pub heads : m.heads ≡ map plain_head (f.ins ++ f.outs)
  pub all : declarations m ≡ all_said f

-- something holds of the declaration of each input, output and register
pub record HoldsOf (f : FlatNet) (P : Declaration → Type 0) : Type 0 where
  pub input : (n : List ℕ) → Contains f.ins n → P (said_of_input n)
  pub output : (n : List ℕ) → Contains f.outs n → P (said_of_output n)
  pub register : (n : List ℕ) → Contains (state_texts f) n → P (said_of_register n)

module _ (m : PlainModule) (f : FlatNet) (declares : Declares m f) where
  -- so it holds of each declaration
  pub each_said : (P : Declaration → Type 0) → HoldsOf f P → (d : Declaration) → Contains (declarations m) d → P d
  each_said P holds d has = by (Contains-append_cases (inputs_said f ++ outputs_said f) (registers_said f) d (subst (λ l. Contains l d) declares.all has))
    where
      port : Contains (inputs_said f) d ⊎ Contains (outputs_said f) d → P d
      port (inl there) = let n = from_map said_of_input f.ins d there in subst P n.2 (holds.input n.0 n.1)
      port (inr there) = let n = from_map said_of_output f.outs d there in subst P n.2 (holds.output n.0 n.1)

      by : Contains (inputs_said f ++ outputs_said f) d ⊎ Contains (registers_said f) d → P d
      by (inl there) = port (Contains-append_cases (inputs_said f) (outputs_said f) d there)
      by (inr there) = let n = from_map said_of_register (state_texts f) d there in subst P n.2 (holds.register n.0 n.1)

  port_said : (d : Declaration) → Contains (inputs_said f ++ outputs_said f) d → Contains (declarations m) d
  port_said d has = subst (λ l. Contains l d) (sym declares.all) (Contains-append_left (inputs_said f ++ outputs_said f) (registers_said f) d has)

  pub input_said : (n : List ℕ) → Contains f.ins n → Contains (declarations m) (said_of_input n)
  input_said n has =
      let d = said_of_input n in
      port_said d (Contains-append_left (inputs_said f) (outputs_said f) d (contains-map said_of_input f.ins n has))

  pub output_said : (n : List ℕ) → Contains f.outs n → Contains (declarations m) (said_of_output n)
  output_said n has =
      let d = said_of_output n in
      port_said d (Contains-append_right (inputs_said f) (outputs_said f) d (contains-map said_of_output f.outs n has))

  pub register_said : (n : List ℕ) → Contains (state_texts f) n → Contains (declarations m) (said_of_register n)
  register_said n has =
      let d = said_of_register n in
      let there = contains-map said_of_register (state_texts f) n has in
      subst (λ l. Contains l d) (sym declares.all) (Contains-append_right (inputs_said f ++ outputs_said f) (registers_said f) d there)
