-- What a line reads is a number, an input, a register, or driven by a line before it.
use Rattle.std.proofs.Common.{◌≡◌, ◌∙◌, inr, ℕ, ◌+◌, ◌<◌, Bool, true, false, true≢false, if◌then◌else◌, List, [], ◌∷◌, ◌++◌, append-nil, append_assoc, length, sym, ap, ap₂, subst}
use Rattle.std.specs.Prelude.{All, Contains, IfSome, IsSome, None, Option, Some, slice_get, slice_index}
use Rattle.std.specs.List.{flat_map}
use Rattle.std.specs.Option.{option_and_then, unwrap_or}
use Rattle.std.proofs.lemmas.Grind.{flat_map-append}
use Rattle.std.proofs.lemmas.List.Elements.{All-append, All-cons, All-contains, All-head, All-nil, All-push, All-tail, Contains-append_left}
use Rattle.bb_bits.specs.Earlier.{has_name}
use Rattle.bb_bits.specs.Tables.{TableBits}
use Rattle.bb_lemmas.proofs.Members.{all_from, contains-map}
use Rattle.bb_lemmas.proofs.Places.{some_at, there_at}
use Rattle.bb_net.specs.declared.flat.Reg.{Reg as Register}
use Rattle.bb_net.specs.CutPoints.{clock_text, state_texts}
use Rattle.bb_net.specs.Flats.{FlatNet, HaveClocks}
use Rattle.bb_fill.specs.Words.{NetWord, Named, texts_of, word_at}
use Rattle.bb_fill.specs.Lines.{Line, Gate, Buf, End}
use Rattle.bb_fill.specs.Filled.{filled_lines, lines_of_cells, next_word, output_lines, output_text, register_line, register_lines}
use Rattle.bb_fill.specs.Laws.{IsReady, LinesReadWhatIsDriven, driven}
use Rattle.bb_fill.proofs.CellOccurs.{cells_occur, nets_before, port_words, word_known}
use Rattle.bb_fill.proofs.DeclaredNames.{declarations_say}
use Rattle.bb_fill.proofs.Driven.{cell_nets, cells-driven, declarations-driven}
use Rattle.bb_fill.proofs.LineParts.{all_of_numbers, declarations, lines_of_outputs}
use Rattle.bb_fill.proofs.Lists.{all_two}
use Rattle.bb_fill.proofs.MetCells.{tables_fit}
use Rattle.bb_fill.proofs.Occurs.{IsKnown, Claims, Occur, occur_append, occur_at, occur_from}

-- a register that has a clock has the text of an input as its clock
pub clock_there : (f : FlatNet) (register : Register) → IsSome register.clock → IfSome register.clock (λ k. k < length f.ins) → (clock : List ℕ) × (clock_text f register ≡ Some clock) × Contains f.ins clock
clock_there f register some within = by register.clock some within
  where
    by : (o : Option ℕ) → IsSome o → IfSome o (λ k. k < length f.ins) → (clock : List ℕ) × (option_and_then (slice_get f.ins) o ≡ Some clock) × Contains f.ins clock
    by None some within = absurd (true≢false (sym some))
    by (Some k) some within = let found = some_at f.ins k within in (found.0, found.1, there_at f.ins k found.0 found.1)

module _ (f : FlatNet) (tables : List TableBits) (ready : IsReady f tables) (P : NetWord → Type 0) where
  -- what is known after all cells
  abbrev nets : List NetWord
  nets = nets_before f (length f.net.cells)

  output_reports : (o : ℕ) → All (Claims P nets) (output_lines f o)
  output_reports o = by (has_name (output_text f o) (state_texts f))
    where
      line : Line
      line = Gate Buf (Named (output_text f o)) (word_at f (slice_index f.net.outs o) ∷ [])

      by : (b : Bool) → All (Claims P nets) (if b then [] else Gate Buf (Named (output_text f o)) (word_at f (slice_index f.net.outs o) ∷ []) ∷ [])
      by true = All-nil (Claims P nets)
      by false =
          let known = word_known f tables ready (slice_index f.net.outs o) in
          All-cons (Claims P nets) line [] (All-nil P, All-cons (IsKnown nets) (word_at f (slice_index f.net.outs o)) [] known (All-nil (IsKnown nets))) (All-nil (Claims P nets))

  abbrev IsClocked : Register → Type 0
  IsClocked register = IsKnown nets (Named (unwrap_or (clock_text f register) []))

  registers_say : (r : ℕ) (registers : List Register) → All IsClocked registers → All (Claims P nets) (register_lines f r registers)
  registers_say r [] all = All-nil (Claims P nets)
  registers_say r (register ∷ registers) all =
      let known = word_known f tables ready (slice_index f.net.outs (length f.outs + r)) in
      All-cons (Claims P nets) (register_line f r register) (register_lines f (r + 1) registers)
      (All-nil P, all_two (IsKnown nets) (Named (unwrap_or (clock_text f register) [])) (next_word f r) (All-head IsClocked register registers all) known)
      (registers_say (r + 1) registers (All-tail IsClocked register registers all))

  -- a clock is an input
  clock_known : (register : Register) → IsSome register.clock → IfSome register.clock (λ k. k < length f.ins) → IsClocked register
  clock_known register some within =
      let found = clock_there f register some within in
      let there = contains-map Named (f.ins ++ state_texts f) found.0 (Contains-append_left f.ins (state_texts f) found.0 found.2) in
      subst (λ o. IsKnown nets (Named (unwrap_or o []))) (sym found.1) (inr (Contains-append_left (port_words f) (cell_nets f) (Named found.0) there))

  back_reports : HaveClocks f → All (Claims P nets) (lines_of_outputs f ++ (register_lines f 0 f.regs ++ End ∷ []))
  back_reports clocks =
      let clocked = all_from IsClocked f.regs (λ q has.
      clock_known q (All-contains (λ (p : Register). IsSome p.clock) f.regs q clocks has)
      (All-contains (λ (p : Register). IfSome p.clock (λ k. k < length f.ins)) f.regs q ready.flat.clocks has))
      in
      All-append (Claims P nets) (lines_of_outputs f) (register_lines f 0 f.regs ++ End ∷ []) (all_of_numbers (Claims P nets) (output_lines f) (length f.outs) (λ o within. output_reports o))
      (All-push (Claims P nets) (register_lines f 0 f.regs) End (registers_say 0 f.regs clocked) (All-nil P, All-nil (IsKnown nets)))

  pub lines_occur : HaveClocks f → ((text : List ℕ) → Contains (texts_of f) text → P (Named text)) → Occur P (port_words f) (filled_lines f tables)
  lines_occur clocks texts =
      let cells = lines_of_cells f tables in
      let outputs = lines_of_outputs f in
      let registers = register_lines f 0 f.regs in
      let fits = tables_fit tables f.net.boxes ready.fit in
      let none = declarations-driven f tables fits in
      let prefix = occur_from P (declarations f) (port_words f) (declarations_say P (port_words f) f texts) in
      let still = ap (λ l. port_words f ++ l) none ∙ append-nil (port_words f) in
      let begun = occur_append P (declarations f) cells (port_words f) prefix (subst (λ l. Occur P l cells) (sym still) (cells_occur f tables ready P)) in
      let seen : flat_map driven (declarations f ++ cells) ≡ cell_nets f = flat_map-append driven (declarations f) cells ∙ ap₂ ◌++◌ none (cells-driven f tables fits) in
      let back = outputs ++ (registers ++ End ∷ []) in
      let whole = occur_append P (declarations f ++ cells) back (port_words f) begun (subst (λ l. Occur P (port_words f ++ l) back) (sym seen) (occur_from P back nets (back_reports clocks))) in
      subst (Occur P (port_words f)) (sym (append_assoc (declarations f ++ cells ++ outputs) registers (End ∷ []) ∙ append_assoc (declarations f ++ cells) outputs (registers ++ End ∷ []))) whole

pub lines_read_what_is_driven : LinesReadWhatIsDriven
lines_read_what_is_driven f tables ready clocks before after line is =
    occur_at (λ w. Unit {0}) before after line (port_words f) (subst (Occur (λ w. Unit {0}) (port_words f)) is (lines_occur f tables ready (λ w. Unit {0}) clocks (λ text has. tt)))
