-- The text of lines is that of their parts, one after another.
use Rattle.std.proofs.Common.{◌≡◌, ◌∙◌, ℕ, ◌+◌, ◌<◌, List, [], ◌∷◌, ◌++◌, codes, length, map, take, get_or, sym, ap, ap₂, arith}
use Rattle.std.specs.List.{flat_map, range_with_len}
use Rattle.std.proofs.lemmas.Grind.{flat_map-append}
use Rattle.std.proofs.lemmas.List.{flat_map_more, length-take-le, take_more}
use Rattle.std.proofs.lemmas.List.Folds.{flat_map-map}
use Rattle.bb_net.specs.declared.flat.Reg.{Reg as Register}
use Rattle.bb_bits.specs.Tables.{TableBits}
use Rattle.bb_net.specs.Flats.{FlatNet}
use Rattle.bb_net.specs.CutPoints.{state_texts}
use Rattle.bb_fill.specs.Words.{printed}
use Rattle.bb_fill.specs.Lines.{Line, Module, Input, Output, Reg, End, line_text}
use Rattle.bb_fill.specs.Filled.{filled_lines, lines_of_cells, output_lines, register_line, register_lines}
use Rattle.bb_fill.specs.Inside.TextBuffers.{Writing, Adds}
use Rattle.bb_fill.proofs.TextBuffers.{both, same}

pub three_parts : {A : Type 0} (f : Line → List A) (a b c : List Line) → flat_map f (a ++ b ++ c) ≡ flat_map f a ++ flat_map f b ++ flat_map f c
three_parts f a b c = flat_map-append f (a ++ b) c ∙ ap (λ t. t ++ flat_map f c) (flat_map-append f a b)

pub five_parts : {A : Type 0} (f : Line → List A) (a b c d e : List Line) → flat_map f (a ++ b ++ c ++ d ++ e) ≡ flat_map f a ++ flat_map f b ++ flat_map f c ++ flat_map f d ++ flat_map f e
five_parts f a b c d e =
    flat_map-append f (a ++ b ++ c ++ d) e
    ∙ ap (λ t. t ++ flat_map f e) (flat_map-append f (a ++ b ++ c) d ∙ ap (λ t. t ++ flat_map f d) (three_parts f a b c))

-- the declarations
pub declared_text : (stem : List ℕ) (ins outs : List (List ℕ)) (regs : List Register)
    → flat_map (λ name. codes "input " ++ printed name ++ codes ";\n") ins ++ flat_map (λ name. codes "output " ++ printed name ++ codes ";\n") outs ++ flat_map (λ (r : Register). codes "reg " ++ printed r.text ++ codes ";\n") regs
    ≡ flat_map (line_text stem) (map Input ins ++ map Output outs ++ map Reg (map (λ r. r.text) regs))
declared_text stem ins outs regs =
    sym (three_parts (line_text stem) (map Input ins) (map Output outs) (map Reg (map (λ r. r.text) regs))
    ∙ ap₂ ◌++◌ (ap₂ ◌++◌ (flat_map-map (line_text stem) Input ins) (flat_map-map (line_text stem) Output outs))
    (flat_map-map (line_text stem) Reg (map (λ r. r.text) regs) ∙ flat_map-map (λ name. line_text stem (Reg name)) (λ (r : Register). r.text) regs))

-- the whole text
pub sections_text : (stem : List ℕ) (f : FlatNet) (tables : List TableBits)
    → line_text stem (Module (f.ins ++ f.outs)) ++ flat_map (line_text stem) (map Input f.ins ++ map Output f.outs ++ map Reg (state_texts f)) ++ flat_map (line_text stem) (lines_of_cells f tables)
    ++ flat_map (line_text stem) (flat_map (output_lines f) (range_with_len 0 (length f.outs))) ++ flat_map (line_text stem) (register_lines f 0 f.regs) ++ codes "endmodule\n"
    ≡ flat_map (line_text stem) (filled_lines f tables)
sections_text stem f tables =
    sym (five_parts (line_text stem) (Module (f.ins ++ f.outs) ∷ map Input f.ins ++ map Output f.outs ++ map Reg (state_texts f)) (lines_of_cells f tables) (flat_map (output_lines f) (range_with_len 0 (length f.outs))) (register_lines f 0 f.regs) (End ∷ []))

-- the registers

registers-push : (f : FlatNet) (k : ℕ) (xs : List Register) (x : Register) → register_lines f k (xs ++ x ∷ []) ≡ register_lines f k xs ++ register_line f (k + length xs) x ∷ []
registers-push f k [] x = let at : k ≡ k + 0 = omega arith in ap (λ j. register_line f j x ∷ []) at
registers-push f k (y ∷ xs) x =
    let at : k + 1 + length xs ≡ k + length (y ∷ xs) = omega arith in
    ap (λ l. register_line f k y ∷ l) (registers-push f (k + 1) xs x ∙ ap (λ j. register_lines f (k + 1) xs ++ register_line f j x ∷ []) at)

pub register_more : {a b c : Writing} (f : FlatNet) (stem : List ℕ) (xs : List Register) (i : ℕ) (x : Register) → i < length xs → x ≡ get_or xs i x
    → Adds a b (flat_map (line_text stem) (register_lines f 0 (take i xs))) → Adds b c (line_text stem (register_line f i x)) → Adds a c (flat_map (line_text stem) (register_lines f 0 (take (i + 1) xs)))
register_more f stem xs i x within at before next =
    let more : take (i + 1) xs ≡ take i xs ++ x ∷ [] = take_more xs i x within ∙ ap (λ y. take i xs ++ y ∷ []) (sym at) in
    let long : 0 + length (take i xs) ≡ i = omega (arith, length-take-le i xs (omega (arith, within))) in
    same (flat_map_more (line_text stem) [] (register_lines f 0 (take i xs)) (register_line f i x)
    ∙ sym (ap (λ l. flat_map (line_text stem) (register_lines f 0 l)) more ∙ ap (flat_map (line_text stem)) (registers-push f 0 (take i xs) x ∙ ap (λ j. register_lines f 0 (take i xs) ++ register_line f j x ∷ []) long)))
    (both before next)
