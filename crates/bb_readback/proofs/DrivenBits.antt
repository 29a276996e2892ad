-- What drives the bits of the filled text: each net of a line is driven, and what depends on others is driven by a line.
use Rattle.std.proofs.Common.{◌⊎◌, inl, inr, ℕ, List, map, flat_map, Contains, sym, subst}
use Rattle.std.proofs.lemmas.List.Elements.{All-contains, Contains-append_cases, Contains-append_right}
use Rattle.bb_bits.specs.Tables.{TableBits}
use Rattle.bb_net.specs.Flats.{FlatNet, HaveClocks}
use Rattle.bb_fill.specs.Words.{NetWord, stem_of}
use Rattle.bb_fill.specs.Lines.{Line}
use Rattle.bb_fill.specs.Filled.{filled_lines}
use Rattle.bb_fill.specs.Laws.{IsNumber, IsReady, WordsAreNets, all_nets, line_words}
use Rattle.bb_design.specs.Dependence.{needed}
use Rattle.bb_design.specs.Drivers.{Drive, Free, driven_bits, drives}
use Rattle.bb_design.specs.Drivers as drivers
use Rattle.bb_design.specs.NetBits.{Bit as NetBit}
use Rattle.bb_lemmas.proofs.Members.{contains-map, from_flat, from_map, into_flat, none_in_nil}
use Rattle.bb_readback.specs.Laws.Designs.{filled_design}
use Rattle.bb_readback.proofs.Bits.{driven_bits_are}
use Rattle.bb_readback.proofs.Forms.{IsNet}
use Rattle.bb_readback.proofs.LineBits.{IsBitOf}
use Rattle.bb_readback.proofs.Meanings.{bit_named, bit_of_word, drives_of}
use Rattle.bb_readback.proofs.Parts.{drives_are}

module _ (f : FlatNet) (tables : List TableBits) (ready : IsReady f tables) where
  abbrev lines : List Line
  lines = filled_lines f tables

  abbrev stem : List ℕ
  stem = stem_of f

  abbrev input_drive : List ℕ → Drive
  input_drive n = drivers.driven Free (bit_named n)

  -- the bit of a net that is in some line
  pub word_driven : HaveClocks f → WordsAreNets → (word : NetWord) → Contains (flat_map line_words lines) word → (b : NetBit) → IsBitOf stem word b
      → Contains (driven_bits (filled_design f tables)) b
  word_driven clocks word_nets word has b is =
      by (All-contains (λ w. IsNumber w ⊎ Contains (all_nets f tables) w) (flat_map line_words lines) word (word_nets f tables ready clocks) has)
    where
      by : IsNumber word ⊎ Contains (all_nets f tables) word → Contains (driven_bits (filled_design f tables)) b
      by (inl number) = absurd (subst IsNet number.1 is.0)
      by (inr net) =
          let bits = map (bit_of_word stem) (all_nets f tables) in
          let there = subst (Contains bits) is.1 (contains-map (bit_of_word stem) (all_nets f tables) word net) in
          subst (λ l. Contains l b) (sym (driven_bits_are f tables ready)) there

  -- what drives by other bits is a line
  pub line_of_drive : (x : Drive) → Contains (drives (filled_design f tables)) x → (c : NetBit) → Contains (needed x.source) c
      → (line : Line) × Contains lines line × Contains (drives_of stem line) x
  line_of_drive x has c need =
      let among = subst (λ l. Contains l x) (drives_are f tables ready) has in
      by (Contains-append_cases (map input_drive f.ins) (flat_map (drives_of stem) lines) x among)
    where
      by : Contains (map input_drive f.ins) x ⊎ Contains (flat_map (drives_of stem) lines) x
          → (line : Line) × Contains lines line × Contains (drives_of stem line) x
      by (inl input) =
          let n = from_map input_drive f.ins x input in
          absurd (none_in_nil c (subst (λ (y : Drive). Contains (needed y.source) c) (sym n.2) need))
      by (inr there) = from_flat (drives_of stem) lines x there

  -- and what a line drives is driven so
  pub drive_there : (line : Line) → Contains lines line → (x : Drive) → Contains (drives_of stem line) x → Contains (drives (filled_design f tables)) x
  drive_there line has x drives_x =
      subst (λ l. Contains l x) (sym (drives_are f tables ready))
      (Contains-append_right (map input_drive f.ins) (flat_map (drives_of stem) lines) x (into_flat (drives_of stem) lines line x has drives_x))
