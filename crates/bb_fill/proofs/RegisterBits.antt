-- Each register has a line, which takes the bit of its next state.
use Rattle.std.proofs.Common.{◌≡◌, ◌∙◌, ℕ, zero, suc, ◌+◌, ◌<◌, List, [], ◌∷◌, ◌++◌, length, ap, subst, arith}
use Rattle.std.specs.Prelude.{Contains, IfSome, IsSome, Some, slice_get, slice_index}
use Rattle.std.specs.Option.{unwrap_or}
use Rattle.std.proofs.lemmas.List.Elements.{All-contains, Contains-append_left, Contains-append_right}
use Rattle.bb_bits.specs.Tables.{TableBits}
use Rattle.bb_lemmas.proofs.Members.{contains_here, contains_there}
use Rattle.bb_lemmas.proofs.Places.{got, there_at}
use Rattle.bb_net.specs.declared.flat.Reg.{Reg as Register}
use Rattle.bb_net.specs.Flats.{FlatNet}
use Rattle.bb_fill.specs.Lines.{Line, Always, End}
use Rattle.bb_fill.specs.Filled.{filled_lines, lines_of_cells, next_word, register_line, register_lines}
use Rattle.bb_fill.specs.Laws.{LinesHaveBits, RegistersTakeBits}
use Rattle.bb_fill.proofs.LineParts.{declarations, lines_of_outputs}
use Rattle.bb_fill.proofs.LinesOccur.{clock_there}

line_there : (f : FlatNet) (first : ℕ) (registers : List Register) (r : ℕ) (register : Register) → slice_get registers r ≡ Some register → Contains (register_lines f first registers) (register_line f (first + r) register)
line_there f first [] r register at = cc at
line_there f first (q ∷ registers) zero register at =
    let same : q ≡ register = cc at in
    let here : first ≡ first + 0 = omega arith in
    subst (Contains (register_line f first q ∷ register_lines f (first + 1) registers)) (ap (register_line f first) same ∙ ap (λ k. register_line f k register) here)
    (contains_here (register_line f first q) (register_lines f (first + 1) registers))
line_there f first (q ∷ registers) (suc r) register at =
    let next : first + 1 + r ≡ first + suc r = omega arith in
    subst (λ k. Contains (register_lines f first (q ∷ registers)) (register_line f k register)) next
    (contains_there (register_line f first q) (register_lines f (first + 1) registers) (register_line f (first + 1 + r) register) (line_there f (first + 1) registers r register at))

-- the lines of registers are among all
among_all : (f : FlatNet) (tables : List TableBits) (line : Line) → Contains (register_lines f 0 f.regs) line → Contains (filled_lines f tables) line
among_all f tables line has =
    let prefix = declarations f ++ lines_of_cells f tables ++ lines_of_outputs f in
    Contains-append_left (prefix ++ register_lines f 0 f.regs) (End ∷ []) line (Contains-append_right prefix (register_lines f 0 f.regs) line has)

pub registers_take_bits : LinesHaveBits → RegistersTakeBits
registers_take_bits have f tables ready clocks x bit vector gives met r register at =
    let there = there_at f.regs r register at in
    let found = clock_there f register (All-contains (λ (p : Register). IsSome p.clock) f.regs register clocks there) (All-contains (λ (p : Register). IfSome p.clock (λ k. k < length f.ins)) f.regs register ready.flat.clocks there) in
    let first : 0 + r ≡ r = omega arith in
    let occurs = subst (λ k. Contains (register_lines f 0 f.regs) (register_line f k register)) first (line_there f 0 f.regs r register at) in
    let place = slice_index f.net.outs (length f.outs + r) in
    let within : length f.outs + r < length f.net.outs = omega (arith, (got f.regs r register register at).0, ready.flat.named.outputs) in
    record {
      clock = found.0;
      data_word = next_word f r;
      line = subst (λ o. Contains (filled_lines f tables) (Always register.falling (unwrap_or o []) register.text (next_word f r))) found.1 (among_all f tables (register_line f r register) occurs);
      clocked = found.1;
      takes = (have f tables ready x bit vector gives met).cells place (ready.flat.net.outs_there (length f.outs + r) 0 within);
    }
