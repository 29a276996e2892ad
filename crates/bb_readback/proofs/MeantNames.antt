-- What the declarations of a filled module say of a name: whether it is declared, a port, an input or a register, and that it has no range.
use Rattle.std.proofs.Common.{◌≡◌, ◌∙◌, ◌⊎◌, inl, inr, ℕ, Bool, true, false, true≢false, ◌&&◌, if◌then◌else◌, Option, Some, None, is_some, is_none, option_to_list, unwrap_or, List, ◌++◌, map, find, Contains, refl, sym, ap, subst}
use Rattle.std.specs.List.{list_any}
use Rattle.std.specs.Option.{option_and_then, option_map_or}
use Rattle.std.proofs.lemmas.List.Elements.{Contains-append_cases}
use Rattle.bb_lemmas.proofs.Bits.{and_both}
use Rattle.bb_bits.specs.Names.{same_name}
use Rattle.bb_ast.specs.declared.module.Dir.{Dir}
use Rattle.bb_ast.specs.Syntax.{PlainHead, PlainModule}
use Rattle.bb_names.specs.declared.net.NetKind.{NetKind}
use Rattle.bb_names.specs.declared.net.NetKind.TheVariants.{Wire}
use Rattle.bb_names.specs.Declarations.{Declaration, declarations, direction_of, is_declared, is_instance, is_port, kind_of, range_of}
use Rattle.bb_names.specs.Faults.{is_input, is_input_port, is_reg, is_supply}
use Rattle.bb_net.specs.CutPoints.{state_texts}
use Rattle.bb_net.specs.Flats.{FlatNet}
use Rattle.bb_readback.specs.Laws.Modules.{plain_head}
use Rattle.bb_lemmas.proofs.Members.{contains-map, find_there}
use Rattle.bb_lemmas.proofs.Names.{same_equal, same_self}
use Rattle.bb_readback.proofs.Lists.{any_here, find_gives}
use Rattle.bb_readback.proofs.Meant.{Declares, each_said, input_said, output_said, register_said, said_of_input, said_of_output, said_of_register}

-- the kind and the direction of a declaration that is found, or of none
abbrev found_kind : Option Declaration → NetKind
found_kind o = unwrap_or (option_and_then (λ d. d.kind) o) Wire

abbrev pub found_direction : Option Declaration → Option Dir
found_direction o = option_and_then (λ d. d.dir) o

-- the name is another one
pub same_is : (names : List (List ℕ)) (k n : List ℕ) (b : Bool) → (same_name k n && b) ≡ true → Contains names k → Contains names n
same_is names k n b passes has = subst (Contains names) (same_equal k n (and_both (same_name k n) b passes).0) has

module _ (m : PlainModule) (f : FlatNet) (declares : Declares m f) where
  -- no name is that of an instance, and none has a range

  pub no_instance : (n : List ℕ) → is_instance m n ≡ false
  no_instance n =
      find_gives (λ d. same_name d.name n) (λ o. option_map_or (λ (d : Declaration). d.instance) o false ≡ false) (declarations m) refl
      (λ d has passes. each_said m f declares (λ e. e.instance ≡ false)
      (record { input = λ k h. refl; output = λ k h. refl; register = λ k h. refl }) d has)

  pub no_range : (n : List ℕ) → range_of m n ≡ None
  no_range n =
      find_gives (λ d. same_name d.name n) (λ o. option_and_then (λ (d : Declaration). d.range) o ≡ None) (declarations m) refl
      (λ d has passes. each_said m f declares (λ e. e.range ≡ None)
      (record { input = λ k h. refl; output = λ k h. refl; register = λ k h. refl }) d has)

  -- the first declaration of a name that has a kind, and the first that has a direction

  abbrev has_kind : List ℕ → Declaration → Bool
  has_kind n d = same_name d.name n && is_some d.kind

  abbrev pub has_direction : List ℕ → Declaration → Bool
  has_direction n d = same_name d.name n && is_some d.dir

  kind_is : (n : List ℕ) → kind_of m n ≡ found_kind (find (has_kind n) (declarations m))
  kind_is n = ap (λ b. if b then Wire else found_kind (find (has_kind n) (declarations m))) (no_instance n)

  pub direction_is : (n : List ℕ) → direction_of m n ≡ found_direction (find (has_direction n) (declarations m))
  direction_is n = ap (λ b. if b then None else found_direction (find (has_direction n) (declarations m))) (no_instance n)

  -- no net is a supply
  pub no_supply : (n : List ℕ) → is_supply (kind_of m n) ≡ false
  no_supply n =
      ap is_supply (kind_is n)
      ∙ find_gives (has_kind n) (λ o. is_supply (found_kind o) ≡ false) (declarations m) refl
      (λ d has passes. each_said m f declares (λ e. is_supply (unwrap_or e.kind Wire) ≡ false)
      (record { input = λ k h. refl; output = λ k h. refl; register = λ k h. refl }) d has)

  -- a register is a reg, and no other name is

  pub register_is_reg : (n : List ℕ) → Contains (state_texts f) n → is_reg (kind_of m n) ≡ true
  register_is_reg n has =
      let first = find_there (has_kind n) (declarations m) (said_of_register n) (register_said m f declares n has) (ap (λ b. b && true) (same_self n)) in
      ap is_reg (kind_is n) ∙ ap (λ o. is_reg (found_kind o)) first.1
      ∙ each_said m f declares (λ e. is_some e.kind ≡ true → is_reg (unwrap_or e.kind Wire) ≡ true)
      (record { input = λ k h some. absurd (true≢false (sym some)); output = λ k h some. absurd (true≢false (sym some)); register = λ k h some. refl })
      first.0 first.3 (and_both (same_name first.0.name n) (is_some first.0.kind) first.2).1

  pub other_is_no_reg : (n : List ℕ) → (Contains (state_texts f) n → ⊥) → is_reg (kind_of m n) ≡ false
  other_is_no_reg n other =
      ap is_reg (kind_is n)
      ∙ find_gives (has_kind n) (λ o. is_reg (found_kind o) ≡ false) (declarations m) refl
      (λ d has passes. each_said m f declares (λ e. has_kind n e ≡ true → is_reg (unwrap_or e.kind Wire) ≡ false)
      (record { input = λ k h p. refl; output = λ k h p. refl; register = λ k h p. absurd (other (same_is (state_texts f) k n true p h)) }) d has passes)

  -- an input and an output have a direction

  directed : (n : List ℕ) (d : Declaration) → Contains (declarations m) d → has_direction n d ≡ true → is_none (direction_of m n) ≡ false
  directed n d has passes =
      let first = find_there (has_direction n) (declarations m) d has passes in
      ap is_none (direction_is n) ∙ ap (λ o. is_none (found_direction o)) first.1
      ∙ by first.0.dir (and_both (same_name first.0.name n) (is_some first.0.dir) first.2).1
    where
      by : (o : Option Dir) → is_some o ≡ true → is_none o ≡ false
      by None some = absurd (true≢false (sym some))
      by (Some x) some = refl

  pub port_has_direction : (n : List ℕ) → Contains (f.ins ++ f.outs) n → is_none (direction_of m n) ≡ false
  port_has_direction n has = by (Contains-append_cases f.ins f.outs n has)
    where
      by : Contains f.ins n ⊎ Contains f.outs n → is_none (direction_of m n) ≡ false
      by (inl input) = directed n (said_of_input n) (input_said m f declares n input) (ap (λ b. b && true) (same_self n))
      by (inr output) = directed n (said_of_output n) (output_said m f declares n output) (ap (λ b. b && true) (same_self n))

  -- what is no input is no input port

  other_direction : (n : List ℕ) → (Contains f.ins n → ⊥) → list_any is_input (option_to_list (direction_of m n)) ≡ false
  other_direction n other =
      ap (λ o. list_any is_input (option_to_list o)) (direction_is n)
      ∙ find_gives (has_direction n) (λ o. list_any is_input (option_to_list (found_direction o)) ≡ false) (declarations m) refl
      (λ d has passes. each_said m f declares (λ e. has_direction n e ≡ true → list_any is_input (option_to_list e.dir) ≡ false)
      (record { input = λ k h p. absurd (other (same_is f.ins k n true p h)); output = λ k h p. refl; register = λ k h p. refl }) d has passes)

  pub other_is_no_input : (n : List ℕ) → (Contains f.ins n → ⊥) → is_input_port m n ≡ false
  other_is_no_input n other =
      find_gives (λ head. same_name head.name n) (λ o. list_any is_input (option_to_list (option_and_then (λ (head : PlainHead). direction_of m n) o)) ≡ false) m.heads refl
      (λ head has passes. other_direction n other)

  -- an input and an output are in the header
  pub port_is_port : (n : List ℕ) → Contains (f.ins ++ f.outs) n → is_port m n ≡ true
  port_is_port n has =
      let there = contains-map plain_head (f.ins ++ f.outs) n has in
      ap (list_any (λ head. same_name head.name n)) declares.heads
      ∙ any_here (λ (head : PlainHead). same_name head.name n) (map plain_head (f.ins ++ f.outs)) (plain_head n) there (same_self n)

  -- inputs, registers and outputs are declared

  declared_by_one : (n : List ℕ) (d : Declaration) → Contains (declarations m) d → same_name d.name n ≡ true → is_declared m n ≡ true
  declared_by_one n d has same = any_here (λ e. same_name e.name n) (declarations m) d has same

  pub text_declared : (n : List ℕ) → Contains (f.ins ++ state_texts f ++ f.outs) n → is_declared m n ≡ true
  text_declared n has = by (Contains-append_cases (f.ins ++ state_texts f) f.outs n has)
    where
      prefix : Contains f.ins n ⊎ Contains (state_texts f) n → is_declared m n ≡ true
      prefix (inl input) = declared_by_one n (said_of_input n) (input_said m f declares n input) (same_self n)
      prefix (inr register) = declared_by_one n (said_of_register n) (register_said m f declares n register) (same_self n)

      by : Contains (f.ins ++ state_texts f) n ⊎ Contains f.outs n → is_declared m n ≡ true
      by (inl there) = prefix (Contains-append_cases f.ins (state_texts f) n there)
      by (inr output) = declared_by_one n (said_of_output n) (output_said m f declares n output) (same_self n)
