-- The form of each line: what is driven is a net, and a gate has as many inputs as it takes.
use Rattle.std.proofs.Common.{ℕ, List, ◌∷◌, [], ◌++◌, map, All, sym, subst}
use Rattle.std.proofs.lemmas.List.Elements.{All-append, All-cons, All-map, All-nil, All-weaker}
use Rattle.bb_bits.specs.Tables.{TableBits}
use Rattle.bb_net.specs.CutPoints.{state_texts}
use Rattle.bb_net.specs.Flats.{FlatNet}
use Rattle.bb_fill.specs.Lines.{Line, Module, Input, Output, Reg, Gate, Assign, Always, End}
use Rattle.bb_fill.specs.Filled.{filled_lines}
use Rattle.bb_fill.specs.Laws.{IsReady}
use Rattle.bb_lemmas.proofs.Members.{all_from}
use Rattle.bb_readback.proofs.Forms.{IsDriving, IsNet, IsStoring, Takes, are_driving, are_storing, declared_lines, driving_lines, lines_are, storing_lines}

abbrev pub IsFormed : Line → Type 0
IsFormed (Gate primitive out ins) = IsNet out × Takes primitive ins
IsFormed (Assign left condition high low) = IsNet left
IsFormed line = Unit {0}

driving_formed : (line : Line) → IsDriving line → IsFormed line
driving_formed (Gate primitive out ins) driving = driving
driving_formed (Assign left condition high low) driving = driving
driving_formed (Module ports) driving = absurd driving
driving_formed (Input name) driving = absurd driving
driving_formed (Output name) driving = absurd driving
driving_formed (Reg name) driving = absurd driving
driving_formed (Always falling clock name data_word) driving = absurd driving
driving_formed End driving = absurd driving

storing_formed : (f : FlatNet) (line : Line) → IsStoring (state_texts f) line → IsFormed line
storing_formed f (Always falling clock name data_word) storing = tt
storing_formed f (Gate primitive out ins) storing = absurd storing
storing_formed f (Assign left condition high low) storing = absurd storing
storing_formed f (Module ports) storing = absurd storing
storing_formed f (Input name) storing = absurd storing
storing_formed f (Output name) storing = absurd storing
storing_formed f (Reg name) storing = absurd storing
storing_formed f End storing = absurd storing

-- the header and the declarations

said_all : (P : Line → Type 0) (say : List ℕ → Line) → ((n : List ℕ) → P (say n)) → (names : List (List ℕ)) → All P (map say names)
said_all P say each names = All-map P say names (all_from (λ n. P (say n)) names (λ n has. each n))

pub declared_all : (P : Line → Type 0) (f : FlatNet) → P (Module (f.ins ++ f.outs)) → ((n : List ℕ) → P (Input n)) → ((n : List ℕ) → P (Output n))
    → ((n : List ℕ) → P (Reg n)) → All P (declared_lines f)
declared_all P f header input output register =
    let ports = All-append P (map Input f.ins) (map Output f.outs) (said_all P Input input f.ins) (said_all P Output output f.outs) in
    let prefix = All-cons P (Module (f.ins ++ f.outs)) (map Input f.ins ++ map Output f.outs) header ports in
    All-append P (Module (f.ins ++ f.outs) ∷ map Input f.ins ++ map Output f.outs) (map Reg (state_texts f)) prefix (said_all P Reg register (state_texts f))

pub are_formed : (f : FlatNet) (tables : List TableBits) → IsReady f tables → All IsFormed (filled_lines f tables)
are_formed f tables ready =
    let driving = All-weaker IsDriving IsFormed driving_formed (driving_lines f tables) (are_driving f tables ready) in
    let storing = All-weaker (IsStoring (state_texts f)) IsFormed (storing_formed f) (storing_lines f) (are_storing f) in
    let prefix = All-append IsFormed (declared_lines f) (driving_lines f tables) (declared_all IsFormed f tt (λ n. tt) (λ n. tt) (λ n. tt)) driving in
    let back = All-append IsFormed (storing_lines f) (End ∷ []) storing (All-cons IsFormed End [] tt (All-nil IsFormed)) in
    subst (All IsFormed) (sym (lines_are f tables)) (All-append IsFormed (declared_lines f ++ driving_lines f tables) (storing_lines f ++ End ∷ []) prefix back)
