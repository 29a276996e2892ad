-- the tables of one output, and those of its pins quantified
use Rattle.std.proofs.Common.{◌≡◌, ℕ, ◌+◌, ◌&&◌, ◌∷◌, sym, ap, ap₂, ◌∙◌, subst}
use Rattle.bb_bits.specs.Truth.{Truth, quantified_block}
use Rattle.bb_net.specs.Netlists.{Netlist}
use Rattle.bb_net.specs.Values.{output_pins}
use Rattle.bb_uniq.specs.declared.store.Ref.{Ref}
use Rattle.bb_uniq.specs.Inside.Nodes.{NodeStore}
use Rattle.bb_uniq.specs.Inside.Meaning.{truth_of, Adds, IsTooMany}
use Rattle.bb_sym.specs.Functions.{is_wrong, always_wrong, wrong_for_all_pins}
use Rattle.bb_sym.specs.Plain.{block_functions, table}
use Rattle.bb_sym.specs.Inside.Made.{Makes, AreTooMany, Represents}
use Rattle.bb_sym.proofs.OutputLoop.{first_refused, rest_refused, first_makes}

module _ (spec imp : Netlist) (inputs pins j : ℕ) (i : inputs ≡ imp.inputs) (k : pins ≡ output_pins imp.boxes) (old : NodeStore) (v : inputs + pins ≡ old.vars) where
  abbrev wrong : Truth
  wrong = table old.vars (is_wrong spec imp j)

  list_is : wrong ∷ block_functions ◌&&◌ inputs pins wrong ≡ wrong_for_all_pins spec imp j
  list_is = ap (λ n. table n (is_wrong spec imp j) ∷ block_functions ◌&&◌ inputs pins (table n (is_wrong spec imp j))) (sym v)
      ∙ ap₂ (λ a b. table (a + b) (is_wrong spec imp j) ∷ block_functions ◌&&◌ a b (table (a + b) (is_wrong spec imp j))) i k

  last_is : quantified_block ◌&&◌ inputs pins wrong ≡ always_wrong spec imp j
  last_is = ap (λ n. quantified_block ◌&&◌ inputs pins (table n (is_wrong spec imp j))) (sym v) ∙ ap₂ (λ a b. quantified_block ◌&&◌ a b (table (a + b) (is_wrong spec imp j))) i k

  pub wrong_refused : IsTooMany old wrong → AreTooMany old (wrong_for_all_pins spec imp j)
  wrong_refused many = subst (AreTooMany old) list_is (first_refused old wrong (block_functions ◌&&◌ inputs pins wrong) many)

  pub pins_refused : (mid : NodeStore) (f : Ref) → Adds old mid wrong f.0 → AreTooMany mid (block_functions ◌&&◌ inputs pins (truth_of mid f.0)) → AreTooMany old (wrong_for_all_pins spec imp j)
  pins_refused mid f added many = subst (AreTooMany old) list_is (rest_refused old mid wrong (block_functions ◌&&◌ inputs pins wrong) f.0 added (subst (λ t. AreTooMany mid (block_functions ◌&&◌ inputs pins t)) added.table many))

  pub wrong_makes : (mid new : NodeStore) (f : Ref) → Adds old mid wrong f.0 → Makes mid new (block_functions ◌&&◌ inputs pins (truth_of mid f.0)) → Makes old new (wrong_for_all_pins spec imp j)
  wrong_makes mid new f added made = subst (Makes old new) list_is (first_makes old mid new wrong (block_functions ◌&&◌ inputs pins wrong) f.0 added (subst (λ t. Makes mid new (block_functions ◌&&◌ inputs pins t)) added.table made))

  pub wrong_occurs : (mid new : NodeStore) (f r : Ref) → Adds old mid wrong f.0 → Represents new (quantified_block ◌&&◌ inputs pins (truth_of mid f.0)) r → Represents new (always_wrong spec imp j) r
  wrong_occurs mid new f r added h = record { ref = h.ref; table = h.table ∙ (ap (quantified_block ◌&&◌ inputs pins) added.table ∙ last_is) }
