-- Each line of a filled text is written with pieces that fit, whatever follows it.
use Rattle.std.proofs.Common.{◌≡◌, ℕ, ◌<◌, Bool, true, false, Some, None, List, [], ◌∷◌, ◌++◌, length, map, refl, ap, sym, ◌∙◌, subst, append_assoc}
use Rattle.std.specs.Prelude.{◌==◌, codes, decimal}
use Rattle.std.specs.List.{AllByRecursion}
use Rattle.std.proofs.lemmas.Grind.{flat_map-append}
use Rattle.bb_bits.specs.Names.{IsPrintable}
use Rattle.bb_lex.specs.declared.keyword.Keyword.{Keyword}
use Rattle.bb_lex.specs.declared.keyword.Keyword.TheVariants as words
use Rattle.bb_lex.specs.declared.mark.Mark.TheVariants.{RightRound, Comma, Colon, Equals, Query, LessEqual}
use Rattle.bb_lex.specs.Bytes.{is_identifier_byte, is_word_byte, Each, BeginsNot}
use Rattle.bb_lex.specs.Pieces.{IsIdentifier}
use Rattle.bb_lex.specs.Words.{reserved, keyword_of}
use Rattle.bb_parse.specs.Items.{edge_word, gate_word}
use Rattle.bb_fill.specs.Words.{NetWord, Bit, Named, CellNet, ChoiceNet}
use Rattle.bb_fill.specs.Lines.{Line, Module, Input, Output, Reg, Gate, Assign, Always, End, Primitive, primitive_text}
use Rattle.bb_fill.specs.Lines as lines
use Rattle.bb_readback.specs.Laws.Modules.{gate_of}
use Rattle.bb_readback.specs.Inside.Written.{Written, SimpleName, ReservedWord, OneMark, Blank, spelled, spelling, Fits, AreFit}
use Rattle.bb_readback.specs.Inside.WrittenLines.{written_word, written_more, written_list, written_line, edge_text, spaced, ended, declared, header_prefix, gate_prefix, assign_prefix, always_prefix, bracketed}
use Rattle.bb_readback.proofs.Classes.{ends_identifier, is_formed}
use Rattle.bb_readback.proofs.Stems.{IsStem, decimal_bytes}

-- a word whose name can be printed
abbrev pub IsGoodWord : NetWord → Type 0
IsGoodWord (Bit b) = Unit {0}
IsGoodWord (Named name) = IsPrintable name
IsGoodWord (CellNet number) = Unit {0}
IsGoodWord (ChoiceNet number) = Unit {0}

abbrev pub AreGoodWords : List NetWord → Type 0
AreGoodWords words = AllByRecursion IsGoodWord words

-- what is assigned is a net
abbrev pub IsNet : NetWord → Type 0
IsNet (Bit b) = ⊥
IsNet word = IsGoodWord word

-- a line whose names can be printed, where a gate has an input
abbrev pub IsGoodLine : Line → Type 0
IsGoodLine (Module ports) = AreGoodWords (map Named ports)
IsGoodLine (Input name) = IsPrintable name
IsGoodLine (Output name) = IsPrintable name
IsGoodLine (Reg name) = IsPrintable name
IsGoodLine (Gate primitive out ins) = IsGoodWord out × AreGoodWords ins × (0 < length ins)
IsGoodLine (Assign left condition high low) = IsNet left × IsGoodWord condition × IsGoodWord high × IsGoodWord low
IsGoodLine (Always falling clock name data_word) = IsPrintable clock × IsPrintable name × IsGoodWord data_word
IsGoodLine End = Unit {0}

pub good_net : (word : NetWord) → IsNet word → IsGoodWord word
good_net (Bit b) is = elim is [ ]
good_net (Named name) is = is
good_net (CellNet number) is = is
good_net (ChoiceNet number) is = is

-- pieces one after another
pub fits-append : (vs ws : List Written) (after : List ℕ) → AreFit vs (spelling ws ++ after) → AreFit ws after
    → AreFit (vs ++ ws) after
fits-append [] ws after left right = right
fits-append (v ∷ vs) ws after left right =
    let same : spelling vs ++ (spelling ws ++ after) ≡ spelling (vs ++ ws) ++ after =
    sym (append_assoc (spelling vs) (spelling ws) after) ∙ ap (λ l. l ++ after) (sym (flat_map-append spelled vs ws)) in
    (subst (Fits v) same left.0, fits-append vs ws after left.1 right)

module _ (stem : List ℕ) (is : IsStem stem) where
  net_fits : (rest after : List ℕ) → Each is_identifier_byte rest → BeginsNot is_word_byte after
      → AreFit (SimpleName (stem ++ rest) ∷ []) after
  net_fits rest after bytes ends = ((is.name rest bytes, is.free rest, ends_identifier after ends), tt)

  word_fits : (word : NetWord) (after : List ℕ) → IsGoodWord word → BeginsNot is_word_byte after
      → AreFit (written_word stem word) after
  word_fits (Bit b) after good ends = (ends, tt)
  word_fits (Named name) after good ends = ((good, refl), (tt, tt))
  word_fits (CellNet number) after good ends = net_fits (decimal number) after (decimal_bytes number) ends
  word_fits (ChoiceNet number) after good ends =
      subst (λ (name : List ℕ). AreFit (SimpleName name ∷ []) after) (sym (append_assoc stem (codes "t") (decimal number)))
      (net_fits (codes "t" ++ decimal number) after (refl, decimal_bytes number) ends)

  -- what follows a list of words follows its first words too, or a comma does
  more_begins : (words : List NetWord) (after : List ℕ) → BeginsNot is_word_byte after
      → BeginsNot is_word_byte (spelling (written_more stem words) ++ after)
  more_begins [] after ends = ends
  more_begins (word ∷ words) after ends = refl

  more_fits : (words : List NetWord) (after : List ℕ) → AreGoodWords words → BeginsNot is_word_byte after
      → AreFit (written_more stem words) after
  more_fits [] after good ends = tt
  more_fits (word ∷ words) after good ends =
      fits-append (OneMark Comma ∷ written_word stem word) (written_more stem words) after
      (tt, word_fits word (spelling (written_more stem words) ++ after) good.0 (more_begins words after ends))
      (more_fits words after good.1 ends)

  list_fits : (words : List NetWord) (after : List ℕ) → AreGoodWords words → BeginsNot is_word_byte after
      → AreFit (written_list stem words) after
  list_fits [] after good ends = tt
  list_fits (word ∷ words) after good ends =
      fits-append (written_word stem word) (written_more stem words) after
      (word_fits word (spelling (written_more stem words) ++ after) good.0 (more_begins words after ends)) (more_fits words after good.1 ends)

  -- no list of words begins with *
  net_begins : (name : List ℕ) (ws : List Written) (after : List ℕ) → ((rest : List ℕ) → BeginsNot (λ b. b == 42) (name ++ rest))
      → BeginsNot (λ b. b == 42) (spelling (SimpleName name ∷ ws) ++ after)
  net_begins name ws after first =
      subst (BeginsNot (λ b. b == 42)) (sym (append_assoc name (spelling ws) after)) (first (spelling ws ++ after))

  list_begins : (words : List NetWord) (after : List ℕ) → BeginsNot (λ b. b == 42) after
      → BeginsNot (λ b. b == 42) (spelling (written_list stem words) ++ after)
  list_begins [] after ends = ends
  list_begins (Bit true ∷ words) after ends = refl
  list_begins (Bit false ∷ words) after ends = refl
  list_begins (Named name ∷ words) after ends = refl
  list_begins (CellNet number ∷ words) after ends =
      net_begins (stem ++ decimal number) (written_more stem words) after
      (λ rest. subst (BeginsNot (λ b. b == 42)) (sym (append_assoc stem (decimal number) rest)) (is.first (decimal number ++ rest)))
  list_begins (ChoiceNet number ∷ words) after ends =
      net_begins (stem ++ codes "t" ++ decimal number) (written_more stem words) after (λ rest.
      subst (BeginsNot (λ b. b == 42)) (sym (append_assoc (stem ++ codes "t") (decimal number) rest ∙ append_assoc stem (codes "t") (decimal number ++ rest)))
      (is.first (codes "t" ++ (decimal number ++ rest))))

-- reserved words, and the name of the module
abbrev IsReserved : List ℕ → Keyword → Type 0
IsReserved bytes keyword = IsIdentifier bytes × (keyword_of bytes ≡ Some keyword)

primitive_formed : (primitive : Primitive) → IsReserved (primitive_text primitive) (gate_word (gate_of primitive))
unfolding keyword_of reserved
primitive_formed lines.Not = (is_formed (codes "not") refl, refl)
primitive_formed lines.And = (is_formed (codes "and") refl, refl)
primitive_formed lines.Or = (is_formed (codes "or") refl, refl)
primitive_formed lines.Xor = (is_formed (codes "xor") refl, refl)
primitive_formed lines.Buf = (is_formed (codes "buf") refl, refl)

edge_formed : (falling : Bool) → IsReserved (edge_text falling) (edge_word falling)
unfolding keyword_of reserved
edge_formed true = (is_formed (codes "negedge") refl, refl)
edge_formed false = (is_formed (codes "posedge") refl, refl)

edge_begins : (falling : Bool) (more : List ℕ) → BeginsNot (λ b. b == 42) ((edge_text falling ++ 32 ∷ []) ++ more)
edge_begins true more = refl
edge_begins false more = refl

module_word : IsReserved (codes "module") words.Module
unfolding keyword_of reserved
module_word = (is_formed (codes "module") refl, refl)

input_word : IsReserved (codes "input") words.Input
unfolding keyword_of reserved
input_word = (is_formed (codes "input") refl, refl)

output_word : IsReserved (codes "output") words.Output
unfolding keyword_of reserved
output_word = (is_formed (codes "output") refl, refl)

reg_word : IsReserved (codes "reg") words.Reg
unfolding keyword_of reserved
reg_word = (is_formed (codes "reg") refl, refl)

assign_word : IsReserved (codes "assign") words.Assign
unfolding keyword_of reserved
assign_word = (is_formed (codes "assign") refl, refl)

always_word : IsReserved (codes "always") words.Always
unfolding keyword_of reserved
always_word = (is_formed (codes "always") refl, refl)

endmodule_word : IsReserved (codes "endmodule") words.Endmodule
unfolding keyword_of reserved
endmodule_word = (is_formed (codes "endmodule") refl, refl)

filled_name : IsIdentifier (codes "filled") × (keyword_of (codes "filled") ≡ None)
unfolding keyword_of reserved
filled_name = (is_formed (codes "filled") refl, refl)

declared_fits : (bytes : List ℕ) (keyword : Keyword) (name after : List ℕ) → IsReserved bytes keyword → IsPrintable name
    → AreFit (declared bytes keyword name) after
declared_fits bytes keyword name after known good =
    fits-append ((ReservedWord bytes keyword ∷ Blank ∷ []) ++ written_word [] (Named name)) ended after
    (fits-append (ReservedWord bytes keyword ∷ Blank ∷ []) (written_word [] (Named name)) (spelling ended ++ after)
    ((known.0, known.1, refl), (tt, tt)) ((good, refl), (tt, tt)))
    (tt, (tt, tt))

module _ (stem : List ℕ) (is : IsStem stem) where
  -- a list of words in brackets, after pieces that fit before it
  bracketed_fits : (prefix : List Written) (words : List NetWord) (after : List ℕ)
      → ((more : List ℕ) → BeginsNot (λ b. b == 42) more → AreFit prefix more) → AreGoodWords words
      → AreFit (bracketed prefix stem words) after
  bracketed_fits prefix words after before good =
      let close : List Written = OneMark RightRound ∷ ended in
      fits-append (prefix ++ written_list stem words) close after
      (fits-append prefix (written_list stem words) (spelling close ++ after)
      (before (spelling (written_list stem words) ++ (spelling close ++ after)) (list_begins stem is words (spelling close ++ after) refl))
      (list_fits stem is words (spelling close ++ after) good refl))
      (tt, (tt, (tt, tt)))

  -- a word after pieces and before others
  word_between : (prefix : List Written) (word : NetWord) (back : List Written) (after : List ℕ)
      → ((more : List ℕ) → AreFit prefix more) → IsGoodWord word
      → BeginsNot is_word_byte (spelling back ++ after) → AreFit back after → AreFit (prefix ++ written_word stem word ++ back) after
  word_between prefix word back after before good ends afterwards =
      fits-append (prefix ++ written_word stem word) back after
      (fits-append prefix (written_word stem word) (spelling back ++ after)
      (before (spelling (written_word stem word) ++ (spelling back ++ after))) (word_fits stem is word (spelling back ++ after) good ends))
      afterwards

  pub line_fits : (line : Line) (after : List ℕ) → IsGoodLine line → AreFit (written_line stem line) after
  line_fits (Module ports) after good =
      bracketed_fits header_prefix (map Named ports) after
      (λ more begins. ((module_word.0, module_word.1, refl), (tt, ((filled_name.0, filled_name.1, refl), (begins, tt))))) good
  line_fits (Input name) after good = declared_fits (codes "input") words.Input name after input_word good
  line_fits (Output name) after good = declared_fits (codes "output") words.Output name after output_word good
  line_fits (Reg name) after good = declared_fits (codes "reg") words.Reg name after reg_word good
  line_fits (Gate primitive out ins) after good =
      let known = primitive_formed primitive in
      bracketed_fits (gate_prefix primitive) (out ∷ ins) after
      (λ more begins. ((known.0, known.1, refl), (begins, tt))) (good.0, good.1)
  line_fits (Assign left condition high low) after good =
      let a : List Written = assign_prefix in
      let b : List Written = a ++ written_word stem left ++ spaced (OneMark Equals) in
      let c : List Written = b ++ written_word stem condition ++ spaced (OneMark Query) in
      let d : List Written = c ++ written_word stem high ++ spaced (OneMark Colon) in
      let a_fits : (more : List ℕ) → AreFit a more = λ more. ((assign_word.0, assign_word.1, refl), (tt, tt)) in
      let b_fits : (more : List ℕ) → AreFit b more =
      λ more. word_between a left (spaced (OneMark Equals)) more a_fits (good_net left good.0) refl (tt, (refl, (tt, tt))) in
      let c_fits : (more : List ℕ) → AreFit c more =
      λ more. word_between b condition (spaced (OneMark Query)) more b_fits good.1 refl (tt, (tt, (tt, tt))) in
      let d_fits : (more : List ℕ) → AreFit d more =
      λ more. word_between c high (spaced (OneMark Colon)) more c_fits good.2 refl (tt, (tt, (tt, tt))) in
      word_between d low ended after d_fits good.3 refl (tt, (tt, tt))
  line_fits (Always falling clock name data_word) after good =
      let known = edge_formed falling in
      let a : List Written = always_prefix falling in
      let b : List Written = a ++ written_word stem (Named clock) ++ (OneMark RightRound ∷ Blank ∷ []) in
      let c : List Written = b ++ written_word stem (Named name) ++ spaced (OneMark LessEqual) in
      let a_fits : (more : List ℕ) → AreFit a more =
      λ more. ((always_word.0, always_word.1, refl), (tt, (tt, (edge_begins falling more, ((known.0, known.1, refl), (tt, tt)))))) in
      let b_fits : (more : List ℕ) → AreFit b more =
      λ more. word_between a (Named clock) (OneMark RightRound ∷ Blank ∷ []) more a_fits good.0 refl (tt, (tt, tt)) in
      let c_fits : (more : List ℕ) → AreFit c more =
      λ more. word_between b (Named name) (spaced (OneMark LessEqual)) more b_fits good.1 refl (tt, (tt, (tt, tt))) in
      word_between c data_word ended after c_fits good.2 refl (tt, (tt, tt))
  line_fits End after good = ((endmodule_word.0, endmodule_word.1, refl), (tt, tt))
