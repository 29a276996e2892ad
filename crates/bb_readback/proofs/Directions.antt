-- The directions of a filled module's ports: an input is one, so is an output, and no other name is a port.
use Rattle.std.proofs.Common.{◌≡◌, ◌∙◌, ℕ, true, false, true≢false, ◌&&◌, Some, None, List, ◌++◌, Contains, refl, sym, ap, subst}
use Rattle.std.specs.Option.{option_and_then}
use Rattle.std.proofs.lemmas.List.Elements.{Contains-append_left, Contains-append_right}
use Rattle.bb_lemmas.proofs.Bits.{and_both}
use Rattle.bb_bits.specs.Names.{same_name}
use Rattle.bb_ast.specs.declared.module.Dir.{Dir}
use Rattle.bb_ast.specs.declared.module.Dir.TheVariants as directions
use Rattle.bb_ast.specs.Syntax.{PlainHead, PlainModule}
use Rattle.bb_names.specs.Declarations.{Declaration, declarations, direction_of, port_direction}
use Rattle.bb_net.specs.Flats.{FlatNet}
use Rattle.bb_readback.specs.Laws.Modules.{plain_head}
use Rattle.bb_lemmas.proofs.Members.{contains-map, find_there, from_map}
use Rattle.bb_lemmas.proofs.Names.{same_equal, same_self}
use Rattle.bb_readback.proofs.Clashes.{AreOthers, no_output}
use Rattle.bb_readback.proofs.Lists.{find_gives}
use Rattle.bb_readback.proofs.Meant.{Declares, HoldsOf, each_said, input_said, output_said, said_of_input, said_of_output}
use Rattle.bb_readback.proofs.MeantNames.{direction_is, found_direction, has_direction, same_is}

module _ (m : PlainModule) (f : FlatNet) (declares : Declares m f) (others : AreOthers f) (n : List ℕ) where
  -- a name that is declared with a direction, where each declaration of it that has one has this one
  directed : (direction : Dir) (d : Declaration) → Contains (declarations m) d → has_direction m f declares n d ≡ true
      → HoldsOf f (λ e. has_direction m f declares n e ≡ true → e.dir ≡ Some direction) → direction_of m n ≡ Some direction
  directed direction d has passes holds =
      let first = find_there (has_direction m f declares n) (declarations m) d has passes in
      direction_is m f declares n ∙ ap found_direction first.1
      ∙ each_said m f declares (λ e. has_direction m f declares n e ≡ true → e.dir ≡ Some direction) holds first.0 first.3 first.2

  input_directed : Contains f.ins n → direction_of m n ≡ Some directions.Input
  input_directed input = directed directions.Input (said_of_input n) (input_said m f declares n input) (ap (λ b. b && true) (same_self n)) (record {
    input = λ k has passes. refl;
    output = λ k has passes. absurd (no_output f others n input (same_is f.outs k n true passes has));
    register = λ k has passes. absurd (true≢false (sym (and_both (same_name k n) false passes).1));
  })

  output_directed : Contains f.outs n → direction_of m n ≡ Some directions.Output
  output_directed output = directed directions.Output (said_of_output n) (output_said m f declares n output) (ap (λ b. b && true) (same_self n)) (record {
    input = λ k has passes. absurd (no_output f others n (same_is f.ins k n true passes has) output);
    output = λ k has passes. refl;
    register = λ k has passes. absurd (true≢false (sym (and_both (same_name k n) false passes).1));
  })

  in_header : Contains (f.ins ++ f.outs) n → port_direction m n ≡ direction_of m n
  in_header port =
      let head = subst (λ l. Contains l (plain_head n)) (sym declares.heads) (contains-map plain_head (f.ins ++ f.outs) n port) in
      let first = find_there (λ (h : PlainHead). same_name h.name n) m.heads (plain_head n) head (same_self n) in
      ap (option_and_then (λ (h : PlainHead). direction_of m n)) first.1

  pub input_port : Contains f.ins n → port_direction m n ≡ Some directions.Input
  input_port input = in_header (Contains-append_left f.ins f.outs n input) ∙ input_directed input

  pub output_port : Contains f.outs n → port_direction m n ≡ Some directions.Output
  output_port output = in_header (Contains-append_right f.ins f.outs n output) ∙ output_directed output

  pub no_port : (Contains (f.ins ++ f.outs) n → ⊥) → port_direction m n ≡ None
  no_port other =
      find_gives (λ h. same_name h.name n) (λ o. option_and_then (λ (h : PlainHead). direction_of m n) o ≡ None) m.heads refl
      (λ head has passes.
      let name = from_map plain_head (f.ins ++ f.outs) head (subst (λ l. Contains l head) declares.heads has) in
      absurd (other (subst (Contains (f.ins ++ f.outs)) (ap (λ (h : PlainHead). h.name) name.2 ∙ same_equal head.name n passes) name.1)))
