-- Declarations name inputs, outputs and registers, and read nothing.
use Rattle.std.proofs.Common.{◌≡◌, List, [], ◌∷◌, ◌++◌, ℕ, map, refl}
use Rattle.std.specs.Prelude.{All, Contains}
use Rattle.std.proofs.lemmas.List.{map-append}
use Rattle.std.proofs.lemmas.List.Elements.{All-append, All-cons, All-map, All-nil, All-same, Contains-append_left, Contains-append_right}
use Rattle.bb_lemmas.proofs.Members.{all_from}
use Rattle.bb_net.specs.CutPoints.{state_texts}
use Rattle.bb_net.specs.Flats.{FlatNet}
use Rattle.bb_fill.specs.Words.{NetWord, Named, texts_of}
use Rattle.bb_fill.specs.Lines.{Line, Module, Input, Output, Reg}
use Rattle.bb_fill.specs.Laws.{line_reads}
use Rattle.bb_fill.proofs.LineParts.{declarations}
use Rattle.bb_fill.proofs.Occurs.{IsKnown, Claims, declared}

module _ (P : NetWord → Type 0) (nets : List NetWord) where
  -- declarations of one name each
  each_reports : (g : List ℕ → Line) → ((name : List ℕ) → declared (g name) ≡ Named name ∷ []) → ((name : List ℕ) → line_reads (g name) ≡ [])
      → (names : List (List ℕ)) → ((name : List ℕ) → Contains names name → P (Named name)) → All (Claims P nets) (map g names)
  each_reports g names none texts holds =
      All-map (Claims P nets) g texts (all_from (λ name. Claims P nets (g name)) texts (λ name has. (
        All-same P (declared (g name)) (Named name ∷ []) (names name) (All-cons P (Named name) [] (holds name has) (All-nil P)),
        All-same (IsKnown nets) (line_reads (g name)) [] (none name) (All-nil (IsKnown nets)),
      )))

  pub declarations_say : (f : FlatNet) → ((text : List ℕ) → Contains (texts_of f) text → P (Named text)) → All (Claims P nets) (declarations f)
  declarations_say f holds =
      let ports = All-append P (map Named f.ins) (map Named f.outs) (All-map P Named f.ins (all_from (λ n. P (Named n)) f.ins input)) (All-map P Named f.outs (all_from (λ n. P (Named n)) f.outs output)) in
      All-cons (Claims P nets) (Module (f.ins ++ f.outs)) (map Input f.ins ++ map Output f.outs ++ map Reg (state_texts f))
      (All-same P (map Named (f.ins ++ f.outs)) (map Named f.ins ++ map Named f.outs) (map-append Named f.ins f.outs) ports, All-nil (IsKnown nets))
      (All-append (Claims P nets) (map Input f.ins ++ map Output f.outs) (map Reg (state_texts f))
      (All-append (Claims P nets) (map Input f.ins) (map Output f.outs) (each_reports Input (λ n. refl) (λ n. refl) f.ins input) (each_reports Output (λ n. refl) (λ n. refl) f.outs output))
      (each_reports Reg (λ n. refl) (λ n. refl) (state_texts f) register))
    where
      input : (text : List ℕ) → Contains f.ins text → P (Named text)
      input text has = holds text (Contains-append_left (f.ins ++ state_texts f) f.outs text (Contains-append_left f.ins (state_texts f) text has))

      register : (text : List ℕ) → Contains (state_texts f) text → P (Named text)
      register text has = holds text (Contains-append_left (f.ins ++ state_texts f) f.outs text (Contains-append_right f.ins (state_texts f) text has))

      output : (text : List ℕ) → Contains f.outs text → P (Named text)
      output text has = holds text (Contains-append_right (f.ins ++ state_texts f) f.outs text has)
