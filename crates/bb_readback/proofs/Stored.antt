-- The registers of the filled text are those of its lines for registers, of which there is one for each, and take the bits of their words.
use Rattle.std.proofs.Common.{◌≡◌, ◌≢◌, ◌∙◌, ◌⊎◌, inl, inr, ℕ, Bool, false, List, [], ◌∷◌, map, find, flat_map, get_or, AllPairs, Contains, sym, ap, subst}
use Rattle.bb_bits.specs.Tables.{TableBits}
use Rattle.bb_expr.specs.Terms.{term_bit}
use Rattle.bb_net.specs.Flats.{FlatNet}
use Rattle.bb_fill.specs.Words.{NetWord, Named, stem_of}
use Rattle.bb_fill.specs.Lines.{Line, Module, Input, Output, Reg, Gate, Assign, Always, End}
use Rattle.bb_fill.specs.Filled.{filled_lines}
use Rattle.bb_fill.specs.Laws.{IsReady, NetsAreDrivenOnce, driven}
use Rattle.bb_design.specs.Hierarchy.{Design, Scope, root}
use Rattle.bb_design.specs.Laws.DriveLaws.{NextStatesGoByTerms}
use Rattle.bb_design.specs.NetBits.{net_order, same_bit}
use Rattle.bb_design.specs.Registers.{RegisterBit, registers, stored}
use Rattle.bb_design.specs.Worlds.{World, next_bit}
use Rattle.bb_lemmas.proofs.Apart.{apart_append, apart_right}
use Rattle.bb_lemmas.proofs.Members.{contains_cases, contains_here, from_filter_map, from_find, from_flat, into_flat, none_in_nil}
use Rattle.bb_readback.specs.Laws.Designs.{filled_design}
use Rattle.bb_readback.proofs.Meanings.{always_of, bit_named}
use Rattle.bb_readback.proofs.MetLines.{word_bit}
use Rattle.bb_readback.proofs.ReadBits.{data_are}
use Rattle.bb_readback.proofs.Registers.{stored_are, stored_of}
use Rattle.bb_readback.proofs.Sifted.{only_one_of}

-- a register is that of a line
pub record IsStoredBy (f : FlatNet) (tables : List TableBits) (r : RegisterBit) : Type 0 where
  pub falling : Bool
  pub clock : List ℕ
  pub name : List ℕ
  pub data_word : NetWord
  pub line : Contains (filled_lines f tables) (Always falling clock name data_word)
  pub is : record { scope = root (filled_design f tables); item = always_of (stem_of f) falling clock name data_word; place = 0; bit = bit_named name } ≡ r

-- of lists that lie one after another without a repeat, two that share an element are one
one_by_element : {A B : Type 0} (gives : A → List B) (xs : List A) → AllPairs ◌≢◌ (flat_map gives xs) → (x y : A) (z : B) → Contains xs x → Contains xs y
    → Contains (gives x) z → Contains (gives y) z → x ≡ y
one_by_element gives [] apart x y z here there a b = absurd (none_in_nil x here)
one_by_element gives (w ∷ ws) apart x y z here there a b =
    by (contains_cases w ws x here) (contains_cases w ws y there) (one_by_element gives ws (apart_right (gives w) (flat_map gives ws) apart) x y z)
  where
    clash : (u v : _) → w ≡ u → Contains ws v → Contains (gives u) z → Contains (gives v) z → ⊥
    clash u v same more c d = apart_append (gives w) (flat_map gives ws) z apart (subst (λ t. Contains (gives t) z) (sym same) c) (into_flat gives ws v z more d)

    by : (w ≡ x) ⊎ Contains ws x → (w ≡ y) ⊎ Contains ws y
        → (Contains ws x → Contains ws y → Contains (gives x) z → Contains (gives y) z → x ≡ y) → x ≡ y
    by (inl first) (inl second) rest = sym first ∙ second
    by (inl first) (inr more) rest = absurd (clash x y first more a b)
    by (inr more) (inl second) rest = absurd (clash y x second more b a)
    by (inr one) (inr other) rest = rest one other a b

module _ (f : FlatNet) (tables : List TableBits) (ready : IsReady f tables) where
  abbrev of_design : Design
  of_design = filled_design f tables

  abbrev scope : Scope
  scope = root of_design

  abbrev lines : List Line
  lines = filled_lines f tables

  abbrev stem : List ℕ
  stem = stem_of f

  line_stores : (line : Line) → Contains lines line → (r : RegisterBit) → Contains (stored_of f tables ready line) r → IsStoredBy f tables r
  line_stores (Always falling clock name data_word) has r at =
      record { falling = falling; clock = clock; name = name; data_word = data_word; line = has; is = only_one_of _ r at }
  line_stores (Gate primitive out ins) has r at = absurd (none_in_nil r at)
  line_stores (Assign left condition high low) has r at = absurd (none_in_nil r at)
  line_stores (Module ports) has r at = absurd (none_in_nil r at)
  line_stores (Input name) has r at = absurd (none_in_nil r at)
  line_stores (Output name) has r at = absurd (none_in_nil r at)
  line_stores (Reg name) has r at = absurd (none_in_nil r at)
  line_stores End has r at = absurd (none_in_nil r at)

  pub register_stored : (r : RegisterBit) → Contains (registers of_design) r → IsStoredBy f tables r
  register_stored r has =
      let b = from_filter_map (λ b. find (λ q. same_bit b q.bit) (stored of_design)) (net_order of_design) r has in
      let found = from_find (λ q. same_bit b.0 q.bit) (stored of_design) r b.2 in
      let line = from_flat (stored_of f tables ready) lines r (subst (λ l. Contains l r) (stored_are f tables ready) found.0) in
      line_stores line.0 line.1 r line.2

  -- there is one line for each register
  one_line : NetsAreDrivenOnce → (one other : Line) (word : NetWord) → Contains lines one → Contains lines other → Contains (driven one) word
      → Contains (driven other) word → one ≡ other
  one_line nets one other word = one_by_element driven lines (apart_right (map Named f.ins) (flat_map driven lines) (nets f tables ready).0) one other word

  same_data : NetsAreDrivenOnce → (name : List ℕ) (falling same : Bool) (clock other_clock : List ℕ) (one other : NetWord)
      → Contains lines (Always falling clock name one) → Contains lines (Always same other_clock name other) → one ≡ other
  same_data nets name falling same clock other_clock one other here there =
      let drives = contains_here (Named name) [] in
      ap taken (one_line nets (Always falling clock name one) (Always same other_clock name other) (Named name) here there drives drives)
    where
      taken : Line → NetWord
      taken (Always falling clock name data_word) = data_word
      taken line = Named []

  -- it takes the bit of the word
  takes : NextStatesGoByTerms → (w : World) (r : RegisterBit) (by : IsStoredBy f tables r) → next_bit w r ≡ word_bit stem w by.data_word
  takes law w r by =
      let item = always_of stem by.falling by.clock by.name by.data_word in
      sym (ap (next_bit w) by.is)
      ∙ ap (λ bits. get_or bits 0 false) (law w scope item ∙ ap (map (term_bit (w []))) (data_are f tables ready by.falling by.clock by.name by.data_word))

  -- a line of its name has the word that it takes
  pub next_is : NextStatesGoByTerms → NetsAreDrivenOnce → (w : World) (r : RegisterBit) → Contains (registers of_design) r
      → (falling : Bool) (clock : List ℕ) (word : NetWord) → Contains lines (Always falling clock r.bit.net word) → next_bit w r ≡ word_bit stem w word
  next_is law nets w r has falling clock word line =
      let by = register_stored r has in
      let named = ap (λ (q : RegisterBit). q.bit.net) by.is in
      let here = subst (λ n. Contains lines (Always by.falling by.clock n by.data_word)) named by.line in
      takes law w r by ∙ ap (word_bit stem w) (same_data nets r.bit.net by.falling falling by.clock clock by.data_word word here line)
