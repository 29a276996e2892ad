-- Lines in an order: each reads numbers, nets that are given, and what lines before it drive.
use Rattle.std.proofs.Common.{◌≡◌, ◌⊎◌, inl, inr, ℕ, zero, suc, ◌+◌, ◌<◌, Bool, List, [], ◌∷◌, ◌++◌, append-nil, append_assoc, map, sym, subst, arith}
use Rattle.std.specs.Prelude.{All, Contains}
use Rattle.std.specs.List.{flat_map, range_with_len}
use Rattle.std.proofs.lemmas.List.Elements.{All-cons, All-head, All-nil, All-tail, All-weaker, Contains-append_cases, Contains-append_left, Contains-append_right}
use Rattle.bb_lemmas.proofs.Members.{all_from}
use Rattle.bb_fill.specs.Words.{NetWord, Bit, Named}
use Rattle.bb_fill.specs.Lines.{Line, Module, Input, Output, Reg, Gate, Assign, Always, End}
use Rattle.bb_fill.specs.Laws.{IsNumber, driven, line_reads, line_words}

-- a number, or one of some nets
abbrev pub IsKnown : List NetWord → NetWord → Type 0
IsKnown nets word = IsNumber word ⊎ Contains nets word

-- what a declaration names
abbrev pub declared : Line → List NetWord
declared (Module ports) = map Named ports
declared (Input name) = Named name ∷ []
declared (Output name) = Named name ∷ []
declared (Reg name) = Named name ∷ []
declared line = []

-- something holds of all that a line declares, and it reads what is known
abbrev pub Claims : (NetWord → Type 0) → List NetWord → Line → Type 0
Claims P nets line = All P (declared line) × All (IsKnown nets) (line_reads line)

-- so do all lines, each of which makes known what it drives
abbrev pub Occur : (NetWord → Type 0) → List NetWord → List Line → Type 0
Occur P nets [] = Unit {0}
Occur P nets (line ∷ lines) = Claims P nets line × Occur P (nets ++ driven line) lines

pub known_left : (nets more : List NetWord) (word : NetWord) → IsKnown nets word → IsKnown (nets ++ more) word
known_left nets more word (inl number) = inl number
known_left nets more word (inr net) = inr (Contains-append_left nets more word net)

pub all_known_left : (nets more words : List NetWord) → All (IsKnown nets) words → All (IsKnown (nets ++ more)) words
all_known_left nets more words all = All-weaker (IsKnown nets) (IsKnown (nets ++ more)) (known_left nets more) words all

-- lines that read nothing of one another
pub occur_from : (P : NetWord → Type 0) (lines : List Line) (nets : List NetWord) → All (Claims P nets) lines → Occur P nets lines
occur_from P [] nets all = tt
occur_from P (line ∷ lines) nets all = (
  All-head (Claims P nets) line lines all,
  occur_from P lines (nets ++ driven line)
      (All-weaker (Claims P nets) (Claims P (nets ++ driven line)) (λ other reports. (reports.0, all_known_left nets (driven line) (line_reads other) reports.1)) lines (All-tail (Claims P nets) line lines all)),
)

pub occur_append : (P : NetWord → Type 0) (lines afterwards : List Line) (nets : List NetWord) → Occur P nets lines → Occur P (nets ++ flat_map driven lines) afterwards → Occur P nets (lines ++ afterwards)
occur_append P [] afterwards nets first then = subst (λ l. Occur P l afterwards) (append-nil nets) then
occur_append P (line ∷ lines) afterwards nets first then =
    (first.0, occur_append P lines afterwards (nets ++ driven line) first.1 (subst (λ l. Occur P l afterwards) (sym (append_assoc nets (driven line) (flat_map driven lines))) then))

-- the lines of some numbers, before each of which some nets are known
pub occur_numbers : (P : NetWord → Type 0) (g : ℕ → List Line) (known : ℕ → List NetWord) (a n : ℕ) → ((k : ℕ) → k < a + n → Occur P (known k) (g k)) → ((k : ℕ) → known (k + 1) ≡ known k ++ flat_map driven (g k))
    → Occur P (known a) (flat_map g (range_with_len a n))
occur_numbers P g known a zero each next = tt
occur_numbers P g known a (suc n) each next =
    occur_append P (g a) (flat_map g (range_with_len (a + 1) n)) (known a) (each a (omega arith))
    (subst (λ l. Occur P l (flat_map g (range_with_len (a + 1) n))) (next a) (occur_numbers P g known (a + 1) n (λ k lt. each k (omega (arith, lt))) next))

-- what one of them reads
pub occur_at : (P : NetWord → Type 0) (before after : List Line) (line : Line) (nets : List NetWord) → Occur P nets (before ++ line ∷ after) → All (IsKnown (nets ++ flat_map driven before)) (line_reads line)
occur_at P [] after line nets occur = all_known_left nets [] (line_reads line) occur.0.1
occur_at P (other ∷ before) after line nets occur =
    subst (λ l. All (IsKnown l) (line_reads line)) (append_assoc nets (driven other) (flat_map driven before)) (occur_at P before after line (nets ++ driven other) occur.1)

-- the words of a line are those that it declares, drives and reads
module _ (P : NetWord → Type 0) where
  words_from : (line : Line) → All P (declared line) → All P (driven line) → All P (line_reads line) → All P (line_words line)
  words_from (Module ports) names drives reads = names
  words_from (Input name) names drives reads = names
  words_from (Output name) names drives reads = names
  words_from (Reg name) names drives reads = names
  words_from (Gate primitive out ins) names drives reads = All-cons P out ins (All-head P out [] drives) reads
  words_from (Assign left condition high low) names drives reads = All-cons P left (condition ∷ high ∷ low ∷ []) (All-head P left [] drives) reads
  words_from (Always falling clock name data_word) names drives reads =
      All-cons P (Named clock) (Named name ∷ data_word ∷ []) (All-head P (Named clock) (data_word ∷ []) reads)
      (All-cons P (Named name) (data_word ∷ []) (All-head P (Named name) [] drives) (All-tail P (Named clock) (data_word ∷ []) reads))
  words_from End names drives reads = All-nil P

  known_is : (nets : List NetWord) → ((b : Bool) → P (Bit b)) → ((z : NetWord) → Contains nets z → P z) → (word : NetWord) → IsKnown nets word → P word
  known_is nets numbers given word (inl number) = subst P (sym number.1) (numbers number.0)
  known_is nets numbers given word (inr net) = given word net

  pub occur_words : (lines : List Line) (nets : List NetWord) → ((b : Bool) → P (Bit b)) → ((z : NetWord) → Contains nets z → P z) → ((z : NetWord) → Contains (flat_map driven lines) z → P z) → Occur P nets lines
      → All (λ line. All P (line_words line)) lines
  occur_words [] nets numbers given drives occur = All-nil (λ line. All P (line_words line))
  occur_words (line ∷ lines) nets numbers given drives occur =
      let here = all_from P (driven line) (λ z has. drives z (Contains-append_left (driven line) (flat_map driven lines) z has)) in
      let reads = All-weaker (IsKnown nets) P (known_is nets numbers given) (line_reads line) occur.0.1 in
      All-cons (λ other. All P (line_words other)) line lines (words_from line occur.0.0 here reads)
      (occur_words lines (nets ++ driven line) numbers (λ z has. by z (Contains-append_cases nets (driven line) z has)) (λ z has. drives z (Contains-append_right (driven line) (flat_map driven lines) z has)) occur.1)
    where
      by : (z : NetWord) → Contains nets z ⊎ Contains (driven line) z → P z
      by z (inl before) = given z before
      by z (inr own) = drives z (Contains-append_left (driven line) (flat_map driven lines) z own)
