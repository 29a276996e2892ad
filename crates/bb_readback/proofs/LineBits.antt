-- The bits that a line drives and those on which they depend are the bits of its words.
use Rattle.std.proofs.Common.{◌≡◌, ◌∙◌, ℕ, List, [], ◌∷◌, ◌++◌, append-nil, append_assoc, map, flat_map, Contains, refl, sym, ap₂, subst}
use Rattle.bb_expr.specs.Terms.{Term}
use Rattle.bb_expr.specs.Terms as terms
use Rattle.bb_fill.specs.Words.{NetWord, Bit, Named, CellNet, ChoiceNet}
use Rattle.bb_fill.specs.Lines.{Line, Primitive, Not, And, Or, Xor, Buf, Module, Input, Output, Reg, Gate, Assign, Always, End}
use Rattle.bb_fill.specs.Laws.{line_reads}
use Rattle.bb_readback.specs.Laws.Modules.{gate_of}
use Rattle.bb_design.specs.Hierarchy.{Path}
use Rattle.bb_design.specs.NetBits.{Bit as NetBit}
use Rattle.bb_design.specs.Dependence.{bits_below, needed}
use Rattle.bb_design.specs.Drivers.{Drive, DrivingSource, Free, MadeOf, Box}
use Rattle.bb_design.specs.GateFunctions.{gate_gives, on_terms}
use Rattle.bb_design.specs.Reading.{bit_itself, copied}
use Rattle.bb_lemmas.proofs.Members.{from_flat, none_in_nil}
use Rattle.bb_readback.proofs.Formed.{IsFormed}
use Rattle.bb_readback.proofs.Forms.{IsNet, Takes}
use Rattle.bb_readback.proofs.Meanings.{bit_of_word, drives_of, term_of}
use Rattle.bb_readback.proofs.Sifted.{only_one_of}

-- a bit is that of a word which is a net
abbrev pub IsBitOf : List ℕ → NetWord → NetBit → Type 0
IsBitOf stem word b = IsNet word × (bit_of_word stem word ≡ b)

module _ (stem : List ℕ) where
  -- the bits of words, of which a number has none
  abbrev pub bits_of : List NetWord → List NetBit
  bits_of words = flat_map (λ word. bit_itself [] (term_of stem word)) words

  bit_of_one : (word : NetWord) (b : NetBit) → Contains (bit_itself [] (term_of stem word)) b → IsBitOf stem word b
  bit_of_one (Bit x) b has = absurd (none_in_nil b has)
  bit_of_one (Named name) b has = (tt, only_one_of (bit_of_word stem (Named name)) b has)
  bit_of_one (CellNet k) b has = (tt, only_one_of (bit_of_word stem (CellNet k)) b has)
  bit_of_one (ChoiceNet k) b has = (tt, only_one_of (bit_of_word stem (ChoiceNet k)) b has)

  pub bit_of_some : (words : List NetWord) (b : NetBit) → Contains (bits_of words) b → (word : NetWord) × Contains words word × IsBitOf stem word b
  bit_of_some words b has =
      let word = from_flat (λ word. bit_itself [] (term_of stem word)) words b has in
      (word.0, word.1, bit_of_one word.0 b word.2)

  -- below a word there is its bit alone
  below_one : (word : NetWord) → bits_below [] (term_of stem word) ≡ bits_of (word ∷ [])
  below_one (Bit x) = refl
  below_one (Named name) = refl
  below_one (CellNet k) = refl
  below_one (ChoiceNet k) = refl

  below_two : (v w : NetWord) → bits_below [] (term_of stem v) ++ bits_below [] (term_of stem w) ≡ bits_of (v ∷ w ∷ [])
  below_two v w = ap₂ ◌++◌ (below_one v ∙ append-nil (bit_itself [] (term_of stem v))) (below_one w)

  abbrev gate_term : Primitive → List NetWord → Term
  gate_term primitive ins = gate_gives on_terms (gate_of primitive) (map (term_of stem) ins)

  abbrev Needs : Primitive → List NetWord → Type 0
  Needs primitive ins = bits_below [] (gate_term primitive ins) ≡ bits_of ins

  gate_needs : (primitive : Primitive) (ins : List NetWord) → Takes primitive ins → Needs primitive ins
  gate_needs Not ins takes = subst (Needs Not) (sym takes.1) (below_one takes.0)
  gate_needs Buf ins takes = subst (Needs Buf) (sym takes.1) (below_one takes.0)
  gate_needs And ins takes = subst (Needs And) (sym takes.2) (below_two takes.0 takes.1)
  gate_needs Or ins takes = subst (Needs Or) (sym takes.2) (below_two takes.0 takes.1)
  gate_needs Xor ins takes = subst (Needs Xor) (sym takes.2) (below_two takes.0 takes.1)

  choice_needs : (c h l : NetWord) → bits_below [] (term_of stem c) ++ bits_below [] (term_of stem h) ++ bits_below [] (term_of stem l) ≡ bits_of (c ∷ h ∷ l ∷ [])
  choice_needs c h l =
      append_assoc (bits_below [] (term_of stem c)) (bits_below [] (term_of stem h)) (bits_below [] (term_of stem l))
      ∙ ap₂ ◌++◌ (below_one c ∙ append-nil (bit_itself [] (term_of stem c))) (below_two h l)

  -- what a line drives depends on nothing, or on what the line reads
  pub line_needs : (line : Line) → IsFormed line → (x : Drive) → Contains (drives_of stem line) x → (b : NetBit)
      → Contains (needed x.source) b → Contains (bits_of (line_reads line)) b
  line_needs (Gate primitive out ins) formed x has b need =
      subst (λ l. Contains l b) (gate_needs primitive ins formed.1) (subst (λ (y : Drive). Contains (needed y.source) b) (sym (only_one_of _ x has)) need)
  line_needs (Assign left condition high low) formed x has b need =
      subst (λ l. Contains l b) (choice_needs condition high low) (subst (λ (y : Drive). Contains (needed y.source) b) (sym (only_one_of _ x has)) need)
  line_needs (Always falling clock name data_word) formed x has b need =
      absurd (none_in_nil b (subst (λ (y : Drive). Contains (needed y.source) b) (sym (only_one_of _ x has)) need))
  line_needs (Module ports) formed x has b need = absurd (none_in_nil x has)
  line_needs (Input name) formed x has b need = absurd (none_in_nil x has)
  line_needs (Output name) formed x has b need = absurd (none_in_nil x has)
  line_needs (Reg name) formed x has b need = absurd (none_in_nil x has)
  line_needs End formed x has b need = absurd (none_in_nil x has)

-- what is copied is needed

itself_below : (path : Path) (t : Term) (b : NetBit) → Contains (bit_itself path t) b → Contains (bits_below path t) b
itself_below path (terms.Net n k) b has = has
itself_below path (terms.Const x) b has = absurd (none_in_nil b has)
itself_below path (terms.Not t) b has = absurd (none_in_nil b has)
itself_below path (terms.And t u) b has = absurd (none_in_nil b has)
itself_below path (terms.Or t u) b has = absurd (none_in_nil b has)
itself_below path (terms.Xor t u) b has = absurd (none_in_nil b has)
itself_below path (terms.Mux c h l) b has = absurd (none_in_nil b has)

pub copied_needed : (source : DrivingSource) (b : NetBit) → Contains (copied source) b → Contains (needed source) b
copied_needed Free b has = has
copied_needed (MadeOf path t) b has = itself_below path t b has
copied_needed (Box s pin) b has = absurd (none_in_nil b has)
