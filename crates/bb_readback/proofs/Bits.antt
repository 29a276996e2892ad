-- Different nets of the filled text have different bits, so no bit is driven twice.
use Rattle.std.proofs.Common.{◌≡◌, ◌≢◌, ◌∙◌, ◌⊎◌, inl, inr, ℕ, Some, List, [], ◌∷◌, ◌++◌, map, flat_map, AllPairs, Contains, refl, sym, ap, ap₂, subst, arith}
use Rattle.std.proofs.lemmas.List.{map-append}
use Rattle.std.proofs.lemmas.List.Elements.{All-contains, Contains-append_cases, Contains-append_left}
use Rattle.bb_bits.specs.Tables.{TableBits}
use Rattle.bb_net.specs.CutPoints.{state_texts}
use Rattle.bb_net.specs.Flats.{FlatNet, HaveClocks}
use Rattle.bb_fill.specs.Words.{NetWord, Bit, Named, CellNet, ChoiceNet, stem_of}
use Rattle.bb_fill.specs.Lines.{Line, Module, Input, Output, Reg, Gate, Assign, Always, End}
use Rattle.bb_fill.specs.Filled.{filled_lines}
use Rattle.bb_fill.specs.Laws.{IsReady, IsWordOf, NetsAreDrivenOnce, WordsAreApart, WordsAreOfNetlist, all_nets, driven, identifier, line_words}
use Rattle.bb_fill.specs.Sizes.{IsSmallText}
use Rattle.bb_design.specs.NetBits.{Bit as NetBit}
use Rattle.bb_design.specs.Drivers.{Drive, Free, driven_bits}
use Rattle.bb_design.specs.Drivers as drivers
use Rattle.bb_design.specs.Refusals.{AreDrivenOnce}
use Rattle.bb_lemmas.proofs.Maps.{map-twice}
use Rattle.bb_lemmas.proofs.Members.{all_from, contains_cases, contains_here, from_flat, from_map, into_flat, none_in_nil}
use Rattle.bb_readback.specs.Laws.Designs.{filled_design}
use Rattle.bb_readback.proofs.Formed.{IsFormed, are_formed}
use Rattle.bb_readback.proofs.Forms.{IsNet}
use Rattle.bb_readback.proofs.Meanings.{bit_named, bit_of_word, drives_of, name_of}
use Rattle.bb_readback.proofs.Parts.{drives_are}
use Rattle.bb_readback.proofs.Sifted.{flat_same, map_flat, pairs_reported}

-- a net is called by its name
pub net_named : (stem : List ℕ) (word : NetWord) → IsNet word → identifier stem word ≡ Some (name_of stem word)
net_named stem (Bit b) net = absurd net
net_named stem (Named name) net = refl
net_named stem (CellNet k) net = refl
net_named stem (ChoiceNet k) net = refl

-- what a line drives is a net, and a word of the line
pub driven_net : (line : Line) (word : NetWord) → IsFormed line → Contains (driven line) word → IsNet word × Contains (line_words line) word
driven_net (Gate primitive out ins) word formed has = by (contains_cases out [] word has)
  where
    by : (out ≡ word) ⊎ Contains [] word → IsNet word × Contains (out ∷ ins) word
    by (inl same) = (subst IsNet same formed.0, subst (Contains (out ∷ ins)) same (contains_here out ins))
    by (inr more) = absurd (none_in_nil word more)
driven_net (Assign left condition high low) word formed has = by (contains_cases left [] word has)
  where
    by : (left ≡ word) ⊎ Contains [] word → IsNet word × Contains (left ∷ condition ∷ high ∷ low ∷ []) word
    by (inl same) = (subst IsNet same formed, subst (Contains (left ∷ condition ∷ high ∷ low ∷ [])) same (contains_here left (condition ∷ high ∷ low ∷ [])))
    by (inr more) = absurd (none_in_nil word more)
driven_net (Always falling clock name data_word) word formed has = by (contains_cases (Named name) [] word has)
  where
    by : (Named name ≡ word) ⊎ Contains [] word → IsNet word × Contains (Named clock ∷ Named name ∷ data_word ∷ []) word
    by (inl same) = (subst IsNet same tt, subst (Contains (Named clock ∷ Named name ∷ data_word ∷ [])) same (1, omega arith, refl))
    by (inr more) = absurd (none_in_nil word more)
driven_net (Module ports) word formed has = absurd (none_in_nil word has)
driven_net (Input name) word formed has = absurd (none_in_nil word has)
driven_net (Output name) word formed has = absurd (none_in_nil word has)
driven_net (Reg name) word formed has = absurd (none_in_nil word has)
driven_net End word formed has = absurd (none_in_nil word has)

-- the bits that a line drives are those of the nets that it drives
pub line_bits : (stem : List ℕ) (line : Line) → map (λ (x : Drive). x.bit) (drives_of stem line) ≡ map (bit_of_word stem) (driven line)
line_bits stem (Module ports) = refl
line_bits stem (Input name) = refl
line_bits stem (Output name) = refl
line_bits stem (Reg name) = refl
line_bits stem (Gate primitive out ins) = refl
line_bits stem (Assign left condition high low) = refl
line_bits stem (Always falling clock name data_word) = refl
line_bits stem End = refl

module _ (f : FlatNet) (tables : List TableBits) (ready : IsReady f tables) where
  abbrev stem : List ℕ
  stem = stem_of f

  abbrev lines : List Line
  lines = filled_lines f tables

  abbrev bits : List Drive → List NetBit
  bits drives = map (λ (x : Drive). x.bit) drives

  pub driven_bits_are : driven_bits (filled_design f tables) ≡ map (bit_of_word (stem_of f)) (all_nets f tables)
  driven_bits_are =
      let free = λ (n : List ℕ). drivers.driven Free (bit_named n) in
      let inputs = map-twice free (λ (x : Drive). x.bit) f.ins ∙ sym (map-twice Named (bit_of_word stem) f.ins) in
      let same = all_from (λ line. bits (drives_of stem line) ≡ map (bit_of_word stem) (driven line)) lines (λ line has. line_bits stem line) in
      let others = map_flat (drives_of stem) (λ (x : Drive). x.bit) lines
      ∙ flat_same (λ line. bits (drives_of stem line)) (λ line. map (bit_of_word stem) (driven line)) lines same
      ∙ sym (map_flat driven (bit_of_word stem) lines)
      in
      ap bits (drives_are f tables ready)
      ∙ map-append (λ (x : Drive). x.bit) (map free f.ins) (flat_map (drives_of stem) lines)
      ∙ ap₂ ◌++◌ inputs others
      ∙ sym (map-append (bit_of_word stem) (map Named f.ins) (flat_map driven lines))

  -- words of the netlist that are nets are distinguished by their bits
  pub words_reported : WordsAreApart → (one other : NetWord) → IsNet one → IsNet other → IsWordOf f one → IsWordOf f other
      → bit_of_word (stem_of f) one ≡ bit_of_word (stem_of f) other → one ≡ other
  words_reported apart one other net net_other is is_other same =
      let names = ap (λ (b : NetBit). b.net) same in
      apart f one other (name_of stem one) is is_other (net_named stem one net) (net_named stem other net_other ∙ ap Some (sym names))

  module _ (clocks : HaveClocks f) (small : IsSmallText f tables) (of_netlist : WordsAreOfNetlist) where
    -- the nets are words of the netlist
    pub net_is : (word : NetWord) → Contains (all_nets f tables) word → IsNet word × IsWordOf f word
    net_is word has = by (Contains-append_cases (map Named f.ins) (flat_map driven lines) word has)
      where
        by : Contains (map Named f.ins) word ⊎ Contains (flat_map driven lines) word → IsNet word × IsWordOf f word
        by (inl input) =
            let n = from_map Named f.ins word input in
            let text = Contains-append_left (f.ins ++ state_texts f) f.outs n.0 (Contains-append_left f.ins (state_texts f) n.0 n.1) in
            (subst IsNet n.2 tt, subst (IsWordOf f) n.2 text)
        by (inr there) =
            let line = from_flat driven lines word there in
            let net = driven_net line.0 word (All-contains IsFormed lines line.0 (are_formed f tables ready) line.1) line.2 in
            (net.0, All-contains (IsWordOf f) (flat_map line_words lines) word (of_netlist f tables ready clocks small) (into_flat line_words lines line.0 word line.1 net.1))

    module _ (apart : WordsAreApart) where
      pub nets_reported : (one other : NetWord) → Contains (all_nets f tables) one → Contains (all_nets f tables) other
          → bit_of_word (stem_of f) one ≡ bit_of_word (stem_of f) other → one ≡ other
      nets_reported one other has has_other same =
          let a = net_is one has in
          let b = net_is other has_other in
          words_reported apart one other a.0 b.0 a.1 b.1 same

      pub are_driven_once : NetsAreDrivenOnce → AreDrivenOnce (filled_design f tables)
      are_driven_once nets =
          subst (AllPairs ◌≢◌) (sym driven_bits_are) (pairs_reported (bit_of_word stem) (all_nets f tables) nets_reported (nets f tables ready).0)
