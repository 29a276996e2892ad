-- No declaration clashes with another: the names differ, or an output is the register of the same name, and then neither has a range.
use Rattle.std.proofs.Common.{◌≡◌, ◌≢◌, ◌⊎◌, inl, inr, ℕ, Bool, true, false, ◌&&◌, List, ◌++◌, map, AllPairs, Contains, ◌∙◌, refl, sym, subst, subst₂}
use Rattle.std.proofs.lemmas.List.Elements.{All-contains, Contains-append_cases}
use Rattle.bb_lemmas.proofs.Bits.{and_false}
use Rattle.bb_bits.specs.Names.{same_name}
use Rattle.bb_ast.specs.Syntax.{PlainModule}
use Rattle.bb_names.specs.Declarations.{Declaration, is_port}
use Rattle.bb_names.specs.Faults.{clashes}
use Rattle.bb_net.specs.CutPoints.{state_texts}
use Rattle.bb_net.specs.Flats.{HasDistinctNames, FlatNet}
use Rattle.bb_fill.specs.Clashes.{AreInputsApart}
use Rattle.bb_lemmas.proofs.Members.{either, from_map}
use Rattle.bb_lemmas.proofs.Names.{same_equal}
use Rattle.bb_readback.proofs.Lists.{pairs_both, pairs_map}
use Rattle.bb_readback.proofs.Meant.{all_said, inputs_said, outputs_said, registers_said, said_of_input, said_of_output, said_of_register}

-- no text is twice in one list, and an input is no output and no register
pub record AreOthers (f : FlatNet) : Type 0 where
  pub apart : HasDistinctNames f
  pub inputs : AreInputsApart f

module _ (f : FlatNet) (others : AreOthers f) where
  pub no_output : (n : List ℕ) → Contains f.ins n → Contains f.outs n → ⊥
  no_output n has = (All-contains (λ t. (Contains (state_texts f) t → ⊥) × (Contains f.outs t → ⊥)) f.ins n others.inputs has).1

  pub no_register : (n : List ℕ) → Contains f.ins n → Contains (state_texts f) n → ⊥
  no_register n has = (All-contains (λ t. (Contains (state_texts f) t → ⊥) × (Contains f.outs t → ⊥)) f.ins n others.inputs has).0

pub names_differ : (a b : List ℕ) → a ≢ b → same_name a b ≡ false
names_differ a b differ = by (either (same_name a b))
  where
    by : (same_name a b ≡ true) ⊎ (same_name a b ≡ false) → same_name a b ≡ false
    by (inl same) = absurd (differ (same_equal a b same))
    by (inr other) = other

last_fails : (a b : Bool) → (a && (b && true && true && false)) ≡ false
last_fails false b = refl
last_fails true false = refl
last_fails true true = refl

module _ (m : PlainModule) where
  abbrev pub NoClash : Declaration → Declaration → Type 0
  NoClash d e = clashes m d e ≡ false

  other_names : (d e : Declaration) → d.name ≢ e.name → NoClash d e
  other_names d e differ = and_false (same_name d.name e.name) _ (names_differ d.name e.name differ)

  -- the direction and the kind of an output
  output_then_register : (a b : List ℕ) → NoClash (said_of_output a) (said_of_register b)
  output_then_register a b = last_fails (same_name a b) (is_port m a)

  module _ (f : FlatNet) (others : AreOthers f) where
    input_then_output : (a b : List ℕ) → Contains f.ins a → Contains f.outs b → NoClash (said_of_input a) (said_of_output b)
    input_then_output a b input output =
        other_names (said_of_input a) (said_of_output b) (λ same. no_output f others b (subst (Contains f.ins) same input) output)

    input_then_register : (a b : List ℕ) → Contains f.ins a → Contains (state_texts f) b → NoClash (said_of_input a) (said_of_register b)
    input_then_register a b input register =
        other_names (said_of_input a) (said_of_register b) (λ same. no_register f others b (subst (Contains f.ins) same input) register)

    port_then_port : (d e : Declaration) → Contains (inputs_said f) d → Contains (outputs_said f) e → NoClash d e
    port_then_port d e here there =
        let a = from_map said_of_input f.ins d here in
        let b = from_map said_of_output f.outs e there in
        subst₂ NoClash a.2 b.2 (input_then_output a.0 b.0 a.1 b.1)

    port_then_register : (d e : Declaration) → Contains (inputs_said f) d ⊎ Contains (outputs_said f) d → Contains (registers_said f) e
        → NoClash d e
    port_then_register d e (inl here) there =
        let a = from_map said_of_input f.ins d here in
        let b = from_map said_of_register (state_texts f) e there in
        subst₂ NoClash a.2 b.2 (input_then_register a.0 b.0 a.1 b.1)
    port_then_register d e (inr here) there =
        let a = from_map said_of_output f.outs d here in
        let b = from_map said_of_register (state_texts f) e there in
        subst₂ NoClash a.2 b.2 (output_then_register a.0 b.0)

    -- declarations of one sort
    one_sort : (say : List ℕ → Declaration) → ((n : List ℕ) → (say n).name ≡ n) → (texts : List (List ℕ)) → AllPairs ◌≢◌ texts
        → AllPairs NoClash (map say texts)
    one_sort say named texts apart =
        pairs_map ◌≢◌ NoClash say (λ a b differ. other_names (say a) (say b) (λ same. differ (sym (named a) ∙ same ∙ named b))) texts apart

    pub none_clash : AllPairs NoClash (all_said f)
    none_clash =
        pairs_both NoClash (inputs_said f ++ outputs_said f) (registers_said f)
        (pairs_both NoClash (inputs_said f) (outputs_said f)
        (one_sort said_of_input (λ n. refl) f.ins others.apart.ins) (one_sort said_of_output (λ n. refl) f.outs others.apart.outs) port_then_port)
        (one_sort said_of_register (λ n. refl) (state_texts f) others.apart.regs)
        (λ d e here there. port_then_register d e (Contains-append_cases (inputs_said f) (outputs_said f) d here) there)
