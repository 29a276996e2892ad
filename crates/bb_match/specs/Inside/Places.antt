-- What an index of texts says: at which place of a list a text is.
use Rattle.std.specs.Prelude.{◌≡◌, ℕ, List, All, Some, IsSome, slice_get}
use Rattle.std.specs.Option.{unwrap_or}
use Rattle.std.specs.Map.{lookup}
use Rattle.bb_bits.specs.Names.{same_name}
use Rattle.bb_net.specs.Flats.{FlatNet}
use Rattle.bb_net.specs.CutPoints.{state_texts}

-- each place is one at which the text is, and each text of the list has one
pub record ArePlaces (texts : List (List ℕ)) (entries : List (List ℕ × ℕ)) : Type 0 where
  pub right : (text : List ℕ) (place : ℕ) → lookup (same_name text) entries ≡ Some place → slice_get texts place ≡ Some text
  pub whole : All (λ text. IsSome (lookup (same_name text) entries)) texts

-- the place of a text, and 0 where it has none
abbrev pub text_place : List (List ℕ × ℕ) → List ℕ → ℕ
text_place entries text = unwrap_or (lookup (same_name text) entries) 0

-- the texts of the registers of a flat netlist, and the places of its texts
pub record IsIndexOf (f : FlatNet) (reg_texts : List (List ℕ)) (in_places reg_places out_places : List (List ℕ × ℕ)) : Type 0 where
  pub texts : reg_texts ≡ state_texts f
  pub ins : ArePlaces f.ins in_places
  pub regs : ArePlaces (state_texts f) reg_places
  pub outs : ArePlaces f.outs out_places
