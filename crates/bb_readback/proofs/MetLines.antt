-- In a world of the filled text its lines are met: each net has the bit of its one bit, and what drives it gives this bit.
use Rattle.std.proofs.Common.{◌≡◌, ◌∷◌, [], ℕ, Bool, List, append-nil, map, flat_map, All, refl, sym, ap, subst, ◌∙◌}
use Rattle.std.proofs.lemmas.List.Elements.{All-contains, All-head, All-map}
use Rattle.bb_bits.specs.Contents.{Contents}
use Rattle.bb_bits.specs.Tables.{TableBits}
use Rattle.bb_ast.specs.Syntax.{PlainModule}
use Rattle.bb_names.specs.Faults.{IsSound}
use Rattle.bb_expr.specs.Terms.{term_bit}
use Rattle.bb_net.specs.Flats.{FlatNet}
use Rattle.bb_fill.specs.Words.{NetWord, Bit, Named, CellNet, ChoiceNet, stem_of}
use Rattle.bb_fill.specs.Lines.{Line, Primitive, Not, And, Or, Xor, Buf, Module, Input, Output, Reg, Gate, Assign, Always, End}
use Rattle.bb_fill.specs.Filled.{filled_lines}
use Rattle.bb_fill.specs.Laws.{AreMet, IsMet, IsReady, gate_bit}
use Rattle.bb_readback.specs.Laws.Modules.{filled_module, gate_of}
use Rattle.bb_design.specs.Constructs.{Construct, constructs_at, parts}
use Rattle.bb_design.specs.Drivers.{drives}
use Rattle.bb_design.specs.GateFunctions.{gate_gives, on_terms}
use Rattle.bb_design.specs.Hierarchy.{Design, Scope, root}
use Rattle.bb_design.specs.Laws.DesignLaws.{DesignLaws}
use Rattle.bb_design.specs.Laws.DrivenWorlds.{IsDrivenWorld, IsGiven, IsLegal}
use Rattle.bb_design.specs.Laws.{ScopesAreEnds}
use Rattle.bb_design.specs.Worlds.{IsWorld, World, bit_in}
use Rattle.bb_lemmas.proofs.Members.{all_from, contains_here}
use Rattle.bb_readback.specs.Laws.Designs.{filled_design}
use Rattle.bb_readback.proofs.Complete.{is_shallow}
use Rattle.bb_readback.proofs.DrivenBits.{drive_there}
use Rattle.bb_readback.proofs.Formed.{IsFormed, are_formed}
use Rattle.bb_readback.proofs.Forms.{IsNet, Takes}
use Rattle.bb_readback.proofs.Meanings.{bit_of_word, drives_of, term_of}
use Rattle.bb_readback.proofs.Nets.{one_scope}

module _ (stem : List ℕ) (w : World) where
  -- the bit of a word
  abbrev pub word_bit : NetWord → Bool
  word_bit word = term_bit (w []) (term_of stem word)

  net_has : (word : NetWord) → IsNet word → word_bit word ≡ bit_in w (bit_of_word stem word)
  net_has (Bit b) net = absurd net
  net_has (Named name) net = refl
  net_has (CellNet k) net = refl
  net_has (ChoiceNet k) net = refl

  -- a gate of words

  abbrev GateGives : Primitive → List NetWord → Type 0
  GateGives primitive ins = term_bit (w []) (gate_gives on_terms (gate_of primitive) (map (term_of stem) ins)) ≡ gate_bit primitive (map word_bit ins)

  gate_given : (primitive : Primitive) (ins : List NetWord) → Takes primitive ins → GateGives primitive ins
  gate_given Not ins (v, e) = subst (GateGives Not) (sym e) refl
  gate_given Buf ins (v, e) = subst (GateGives Buf) (sym e) refl
  gate_given And ins (u, v, e) = subst (GateGives And) (sym e) refl
  gate_given Or ins (u, v, e) = subst (GateGives Or) (sym e) refl
  gate_given Xor ins (u, v, e) = subst (GateGives Xor) (sym e) refl

  pub line_met : (contents : Contents) (line : Line) → IsFormed line → All (IsGiven contents w) (drives_of stem line) → IsMet word_bit line
  line_met contents (Gate primitive out ins) formed given =
      net_has out formed.0 ∙ All-head (IsGiven contents w) _ [] given ∙ gate_given primitive ins formed.1
  line_met contents (Assign left condition high low) formed given = net_has left formed ∙ All-head (IsGiven contents w) _ [] given
  line_met contents (Always falling clock name data_word) formed given = tt
  line_met contents (Module ports) formed given = tt
  line_met contents (Input name) formed given = tt
  line_met contents (Output name) formed given = tt
  line_met contents (Reg name) formed given = tt
  line_met contents End formed given = tt

module _ (f : FlatNet) (tables : List TableBits) where
  abbrev text : List PlainModule
  text = filled_module f tables ∷ []

  abbrev of_design : Design
  of_design = filled_design f tables

  -- there is one scope, and its constructs are legal

  parts_placed : parts of_design ≡ map (λ (c : Construct). (root of_design, c)) (constructs_at text (root of_design))
  parts_placed =
      let placed = λ (s : Scope). map (λ (c : Construct). (s, c)) (constructs_at text s) in
      ap (flat_map placed) (one_scope f tables) ∙ append-nil (placed (root of_design))

  module _ (laws : DesignLaws) (sound : IsSound text) where
    ends : ScopesAreEnds of_design
    ends = laws.scopes_reached of_design (contains_here (filled_module f tables) []) (laws.names_apart text sound)

    legal : (contents : Contents) → All (λ (x : Scope × Construct). IsLegal contents x.0 x.1) (parts of_design)
    legal contents =
        subst (All (λ (x : Scope × Construct). IsLegal contents x.0 x.1)) (sym parts_placed)
        (All-map (λ (x : Scope × Construct). IsLegal contents x.0 x.1) (λ c. (root of_design, c)) (constructs_at text (root of_design))
        (laws.constructs_legal text contents (root of_design) sound (contains_here (filled_module f tables) []) refl))

    pub world_driven : (contents : Contents) (w : World) → IsWorld of_design contents w → IsDrivenWorld of_design contents w
    world_driven contents w world = (laws.driven_worlds of_design contents w ends (is_shallow f tables) (legal contents)).0 world

  pub lines_met : IsReady f tables → (contents : Contents) (w : World) → IsDrivenWorld of_design contents w
      → AreMet (word_bit (stem_of f) w) (filled_lines f tables)
  lines_met ready contents w given =
      let stem = stem_of f in
      let lines = filled_lines f tables in
      all_from (IsMet (word_bit stem w)) lines (λ line has.
      line_met stem w contents line (All-contains IsFormed lines line (are_formed f tables ready) has)
      (all_from (IsGiven contents w) (drives_of stem line) (λ x drives_x.
      All-contains (IsGiven contents w) (drives of_design) x given (drive_there f tables ready line has x drives_x))))
