-- The pieces of a line spell it, and have one line feed.
use Rattle.std.proofs.Common.{◌≡◌, ℕ, ◌+◌, Bool, true, false, List, [], ◌∷◌, ◌++◌, map, refl, ap, ap₂, ◌∙◌, arith, append-nil}
use Rattle.std.specs.Prelude.{codes, decimal, if◌then◌else◌}
use Rattle.std.specs.List.{flat_map}
use Rattle.std.proofs.lemmas.Grind.{flat_map-append}
use Rattle.bb_lex.specs.declared.keyword.Keyword.{Keyword}
use Rattle.bb_lex.specs.declared.keyword.Keyword.TheVariants as words
use Rattle.bb_lex.specs.declared.mark.Mark.TheVariants.{RightRound, Comma, Colon, Equals, Query, LessEqual}
use Rattle.bb_fill.specs.Words.{NetWord, Bit, Named, CellNet, ChoiceNet, printed, word_text}
use Rattle.bb_fill.specs.Lines.{Line, Module, Input, Output, Reg, Gate, Assign, Always, End, with_commas, primitive_text, line_text}
use Rattle.bb_readback.specs.Inside.Written.{Written, ReservedWord, OneMark, Blank, spelled, spelling}
use Rattle.bb_readback.specs.Inside.WrittenLines.{written_word, written_more, written_list, written_line, edge_text, spaced, ended, declared, header_prefix, gate_prefix, assign_prefix, always_prefix, bracketed}
use Rattle.bb_readback.proofs.Feeds.{feeds, feeds-append}

-- pieces one after another spell what they spell one after another
both : (vs ws : List Written) (x y : List ℕ) → spelling vs ≡ x → spelling ws ≡ y → spelling (vs ++ ws) ≡ x ++ y
both vs ws x y left right = flat_map-append spelled vs ws ∙ ap₂ ◌++◌ left right

word_spelled : (stem : List ℕ) (word : NetWord) → spelling (written_word stem word) ≡ word_text stem word
word_spelled stem (Bit true) = refl
word_spelled stem (Bit false) = refl
word_spelled stem (Named name) = refl
word_spelled stem (CellNet number) = append-nil (stem ++ decimal number)
word_spelled stem (ChoiceNet number) = append-nil (stem ++ codes "t" ++ decimal number)

more_spelled : (stem : List ℕ) (words : List NetWord)
    → spelling (written_more stem words) ≡ flat_map (λ other. codes "," ++ other) (map (word_text stem) words)
more_spelled stem [] = refl
more_spelled stem (word ∷ words) =
    both (OneMark Comma ∷ written_word stem word) (written_more stem words) (codes "," ++ word_text stem word)
    (flat_map (λ other. codes "," ++ other) (map (word_text stem) words))
    (ap (λ l. 44 ∷ l) (word_spelled stem word)) (more_spelled stem words)

list_spelled : (stem : List ℕ) (words : List NetWord) → spelling (written_list stem words) ≡ with_commas (map (word_text stem) words)
list_spelled stem [] = refl
list_spelled stem (word ∷ words) =
    both (written_word stem word) (written_more stem words) (word_text stem word)
    (flat_map (λ other. codes "," ++ other) (map (word_text stem) words)) (word_spelled stem word) (more_spelled stem words)

ports_spelled : (stem : List ℕ) (ports : List (List ℕ)) → map (word_text stem) (map Named ports) ≡ map printed ports
ports_spelled stem [] = refl
ports_spelled stem (name ∷ names) = ap (λ l. printed name ∷ l) (ports_spelled stem names)

bracketed-spelled : (prefix : List Written) (x : List ℕ) (stem : List ℕ) (words : List NetWord) (texts : List (List ℕ)) → spelling prefix ≡ x
    → map (word_text stem) words ≡ texts
    → spelling (bracketed prefix stem words) ≡ x ++ with_commas texts ++ codes ");\n"
bracketed-spelled prefix x stem words texts before are =
    both (prefix ++ written_list stem words) (OneMark RightRound ∷ ended) (x ++ with_commas texts) (codes ");\n")
    (both prefix (written_list stem words) x (with_commas texts) before (list_spelled stem words ∙ ap with_commas are)) refl

after_word : (prefix : List Written) (x : List ℕ) (stem : List ℕ) (word : NetWord) (back : List Written) (y : List ℕ)
    → spelling prefix ≡ x → spelling back ≡ y
    → spelling (prefix ++ written_word stem word ++ back) ≡ x ++ word_text stem word ++ y
after_word prefix x stem word back y before after =
    both (prefix ++ written_word stem word) back (x ++ word_text stem word) y
    (both prefix (written_word stem word) x (word_text stem word) before (word_spelled stem word)) after

declared_spelled : (bytes : List ℕ) (keyword : Keyword) (name : List ℕ)
    → spelling (declared bytes keyword name) ≡ (bytes ++ codes " ") ++ printed name ++ codes ";\n"
declared_spelled bytes keyword name =
    after_word (ReservedWord bytes keyword ∷ Blank ∷ []) (bytes ++ codes " ") [] (Named name) ended (codes ";\n") refl refl

edge_spelled : (falling : Bool)
    → codes "always @(" ++ (edge_text falling ++ codes " ") ≡ codes "always @(" ++ (if falling then codes "negedge " else codes "posedge ")
edge_spelled true = refl
edge_spelled false = refl

pub line_spelled : (stem : List ℕ) (line : Line) → spelling (written_line stem line) ≡ line_text stem line
line_spelled stem (Module ports) =
    bracketed-spelled header_prefix (codes "module filled(") stem (map Named ports) (map printed ports) refl (ports_spelled stem ports)
line_spelled stem (Input name) = declared_spelled (codes "input") words.Input name
line_spelled stem (Output name) = declared_spelled (codes "output") words.Output name
line_spelled stem (Reg name) = declared_spelled (codes "reg") words.Reg name
line_spelled stem (Gate primitive out ins) =
    bracketed-spelled (gate_prefix primitive) (primitive_text primitive ++ codes "(") stem (out ∷ ins)
    (map (word_text stem) (out ∷ ins)) refl refl
line_spelled stem (Assign left condition high low) =
    let a : List Written = assign_prefix in
    let b : List Written = a ++ written_word stem left ++ spaced (OneMark Equals) in
    let c : List Written = b ++ written_word stem condition ++ spaced (OneMark Query) in
    let d : List Written = c ++ written_word stem high ++ spaced (OneMark Colon) in
    let x : List ℕ = codes "assign " ++ word_text stem left ++ codes " = " in
    let y : List ℕ = x ++ word_text stem condition ++ codes " ? " in
    let z : List ℕ = y ++ word_text stem high ++ codes " : " in
    after_word d z stem low ended (codes ";\n")
    (after_word c y stem high (spaced (OneMark Colon)) (codes " : ")
    (after_word b x stem condition (spaced (OneMark Query)) (codes " ? ")
    (after_word a (codes "assign ") stem left (spaced (OneMark Equals)) (codes " = ") refl refl) refl) refl) refl
line_spelled stem (Always falling clock name data_word) =
    let a : List Written = always_prefix falling in
    let b : List Written = a ++ written_word stem (Named clock) ++ (OneMark RightRound ∷ Blank ∷ []) in
    let c : List Written = b ++ written_word stem (Named name) ++ spaced (OneMark LessEqual) in
    let x : List ℕ = codes "always @(" ++ (if falling then codes "negedge " else codes "posedge ") in
    let y : List ℕ = x ++ printed clock ++ codes ") " in
    let z : List ℕ = y ++ printed name ++ codes " <= " in
    after_word c z stem data_word ended (codes ";\n")
    (after_word b y stem (Named name) (spaced (OneMark LessEqual)) (codes " <= ")
    (after_word a x stem (Named clock) (OneMark RightRound ∷ Blank ∷ []) (codes ") ") (edge_spelled falling) refl) refl) refl
line_spelled stem End = refl

-- each line has one line feed, at its end
word_feeds : (stem : List ℕ) (word : NetWord) → feeds (written_word stem word) ≡ 0
word_feeds stem (Bit b) = refl
word_feeds stem (Named name) = refl
word_feeds stem (CellNet number) = refl
word_feeds stem (ChoiceNet number) = refl

more_feeds : (stem : List ℕ) (words : List NetWord) → feeds (written_more stem words) ≡ 0
more_feeds stem [] = refl
more_feeds stem (word ∷ words) =
    feeds-append (OneMark Comma ∷ written_word stem word) (written_more stem words) ∙ rw (word_feeds stem word, more_feeds stem words) refl

list_feeds : (stem : List ℕ) (words : List NetWord) → feeds (written_list stem words) ≡ 0
list_feeds stem [] = refl
list_feeds stem (word ∷ words) =
    feeds-append (written_word stem word) (written_more stem words) ∙ rw (word_feeds stem word, more_feeds stem words) refl

three_feeds : (a b c : List Written) → feeds b ≡ 0 → feeds (a ++ b ++ c) ≡ feeds a + feeds c
three_feeds a b c none = omega (arith, feeds-append (a ++ b) c, feeds-append a b, none)

pub line_feeds : (stem : List ℕ) (line : Line) → feeds (written_line stem line) ≡ 1
line_feeds stem (Module ports) =
    three_feeds header_prefix (written_list stem (map Named ports)) (OneMark RightRound ∷ ended) (list_feeds stem (map Named ports))
line_feeds stem (Input name) = refl
line_feeds stem (Output name) = refl
line_feeds stem (Reg name) = refl
line_feeds stem (Gate primitive out ins) =
    three_feeds (gate_prefix primitive) (written_list stem (out ∷ ins)) (OneMark RightRound ∷ ended) (list_feeds stem (out ∷ ins))
line_feeds stem (Assign left condition high low) =
    let a : List Written = assign_prefix in
    let b : List Written = a ++ written_word stem left ++ spaced (OneMark Equals) in
    let c : List Written = b ++ written_word stem condition ++ spaced (OneMark Query) in
    let d : List Written = c ++ written_word stem high ++ spaced (OneMark Colon) in
    let one = three_feeds a (written_word stem left) (spaced (OneMark Equals)) (word_feeds stem left) in
    let two = three_feeds b (written_word stem condition) (spaced (OneMark Query)) (word_feeds stem condition) in
    let three = three_feeds c (written_word stem high) (spaced (OneMark Colon)) (word_feeds stem high) in
    let four = three_feeds d (written_word stem low) ended (word_feeds stem low) in
    omega (arith, one, two, three, four)
line_feeds stem (Always falling clock name data_word) =
    let a : List Written = always_prefix falling in
    let b : List Written = a ++ written_word stem (Named clock) ++ (OneMark RightRound ∷ Blank ∷ []) in
    let c : List Written = b ++ written_word stem (Named name) ++ spaced (OneMark LessEqual) in
    three_feeds c (written_word stem data_word) ended (word_feeds stem data_word)
line_feeds stem End = refl
