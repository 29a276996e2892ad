-- The texts of inputs, registers and outputs: which of them differ, and bits that are looked up by texts.
use Rattle.std.proofs.Common.{◌≡◌, ◌≢◌, ◌∙◌, ◌⊎◌, inl, inr, ℕ, zero, suc, ◌<◌, Bool, true, false, true≢false, if◌then◌else◌, List, [], ◌∷◌, ◌++◌, length, get_or, refl, sym, ap, subst, arith}
use Rattle.std.specs.Prelude.{AllPairs, Contains}
use Rattle.std.proofs.lemmas.List.Elements.{All-contains, Contains-append_cases, Contains-get_or}
use Rattle.bb_bits.specs.Earlier.{has_name}
use Rattle.bb_bits.specs.Names.{same_name}
use Rattle.bb_lemmas.proofs.Apart.{pairs_tail}
use Rattle.bb_lemmas.proofs.Members.{contains_here, contains_there, either, none_of}
use Rattle.bb_lemmas.proofs.Names.{same_equal, same_self}
use Rattle.bb_net.specs.CutPoints.{state_texts}
use Rattle.bb_net.specs.Flats.{FlatNet, IsFlat}
use Rattle.bb_fill.specs.Clashes.{AreNamesApart}
use Rattle.bb_fill.proofs.Lists.{apart_both, first_apart}

module _ (f : FlatNet) (names : AreNamesApart f) where
  -- an input is no register and no output
  pub input_apart : (text : List ℕ) → Contains f.ins text → (Contains (state_texts f) text → ⊥) × (Contains f.outs text → ⊥)
  input_apart text has = All-contains (λ t. (Contains (state_texts f) t → ⊥) × (Contains f.outs t → ⊥)) f.ins text names.inputs has

  pub ports_apart : IsFlat f → AllPairs ◌≢◌ (f.ins ++ state_texts f)
  ports_apart flat = apart_both f.ins (state_texts f) flat.apart.ins flat.apart.regs (λ z input register. (input_apart z input).0 register)

  -- an output that is no register is no input either
  pub plain_apart : (text : List ℕ) → Contains f.outs text → has_name text (state_texts f) ≡ false → Contains (f.ins ++ state_texts f) text → ⊥
  plain_apart text out plain has = by (Contains-append_cases f.ins (state_texts f) text has)
    where
      by : Contains f.ins text ⊎ Contains (state_texts f) text → ⊥
      by (inl input) = (input_apart text input).1 out
      by (inr register) = true≢false (sym (same_self text) ∙ none_of (same_name text) (state_texts f) plain text register)

-- the bit of the first text that is a name, or else another bit
abbrev pub bit_called : List (List ℕ) → (ℕ → Bool) → Bool → List ℕ → Bool
bit_called [] bits other name = other
bit_called (text ∷ texts) bits other name = if same_name text name then bits 0 else bit_called texts (λ k. bits (suc k)) other name

pub called-at : (texts : List (List ℕ)) (bits : ℕ → Bool) (other : Bool) (i : ℕ) → AllPairs ◌≢◌ texts → i < length texts → bit_called texts bits other (get_or texts i []) ≡ bits i
called-at [] bits other i apart within = absurd (omega (arith, within))
called-at (text ∷ texts) bits other zero apart within = ap (λ b. if b then bits 0 else bit_called texts (λ k. bits (suc k)) other text) (same_self text)
called-at (text ∷ texts) bits other (suc i) apart within = by (either (same_name text name)) (called-at texts (λ k. bits (suc k)) other i (pairs_tail ◌≢◌ text texts apart) (omega (arith, within)))
  where
    name : List ℕ
    name = get_or texts i []

    by : (same_name text name ≡ true) ⊎ (same_name text name ≡ false) → bit_called texts (λ k. bits (suc k)) other name ≡ bits (suc i) → bit_called (text ∷ texts) bits other name ≡ bits (suc i)
    by (inl same) rest = absurd (first_apart text texts apart name (Contains-get_or texts i [] (omega (arith, within))) (same_equal text name same))
    by (inr differs) rest = ap (λ b. if b then bits 0 else bit_called texts (λ k. bits (suc k)) other name) differs ∙ rest

pub called-other : (texts : List (List ℕ)) (bits : ℕ → Bool) (other : Bool) (name : List ℕ) → (Contains texts name → ⊥) → bit_called texts bits other name ≡ other
called-other [] bits other name none = refl
called-other (text ∷ texts) bits other name none = by (either (same_name text name)) (called-other texts (λ k. bits (suc k)) other name (λ has. none (contains_there text texts name has)))
  where
    by : (same_name text name ≡ true) ⊎ (same_name text name ≡ false) → bit_called texts (λ k. bits (suc k)) other name ≡ other → bit_called (text ∷ texts) bits other name ≡ other
    by (inl same) rest = absurd (none (subst (Contains (text ∷ texts)) (same_equal text name same) (contains_here text texts)))
    by (inr differs) rest = ap (λ b. if b then bits 0 else bit_called texts (λ k. bits (suc k)) other name) differs ∙ rest
