-- The lines of registers in the filled text: each register has one, and no other line stores.
use Rattle.std.proofs.Common.{◌≡◌, ◌⊎◌, inl, inr, ℕ, ◌+◌, Bool, List, [], ◌∷◌, ◌++◌, Contains, sym, subst}
use Rattle.std.proofs.lemmas.List.Elements.{All-contains, Contains-append_cases, Contains-append_left, Contains-append_right}
use Rattle.bb_bits.specs.Tables.{TableBits}
use Rattle.bb_net.specs.declared.flat.Reg.{Reg as Register}
use Rattle.bb_net.specs.Flats.{FlatNet}
use Rattle.bb_fill.specs.Words.{NetWord}
use Rattle.bb_fill.specs.Lines.{Line, Always, End}
use Rattle.bb_fill.specs.Filled.{filled_lines, register_line, register_lines}
use Rattle.bb_fill.specs.Laws.{IsReady}
use Rattle.bb_lemmas.proofs.Members.{contains_cases, contains_here, contains_there, none_in_nil}
use Rattle.bb_readback.proofs.Formed.{declared_all}
use Rattle.bb_readback.proofs.Forms.{IsDriving, are_driving, declared_lines, driving_lines, lines_are, storing_lines}

-- a line is that of a register
abbrev pub IsOfRegister : FlatNet → Line → Type 0
IsOfRegister f line = (j : ℕ) × (register : Register) × Contains f.regs register × (line ≡ register_line f j register)

from_registers : (f : FlatNet) (k : ℕ) (all : List Register) (line : Line) → Contains (register_lines f k all) line
    → (j : ℕ) × (register : Register) × Contains all register × (line ≡ register_line f j register)
from_registers f k [] line has = absurd (none_in_nil line has)
from_registers f k (r ∷ rs) line has = by (contains_cases (register_line f k r) (register_lines f (k + 1) rs) line has) (from_registers f (k + 1) rs line)
  where
    by : (register_line f k r ≡ line) ⊎ Contains (register_lines f (k + 1) rs) line
        → (Contains (register_lines f (k + 1) rs) line → (j : ℕ) × (register : Register) × Contains rs register × (line ≡ register_line f j register))
        → (j : ℕ) × (register : Register) × Contains (r ∷ rs) register × (line ≡ register_line f j register)
    by (inl same) rest = (k, r, contains_here r rs, sym same)
    by (inr more) rest = let q = rest more in (q.0, q.1, contains_there r rs q.1 q.2, q.3)

into_registers : (f : FlatNet) (k : ℕ) (all : List Register) (register : Register) → Contains all register
    → (j : ℕ) × Contains (register_lines f k all) (register_line f j register)
into_registers f k [] register has = absurd (none_in_nil register has)
into_registers f k (r ∷ rs) register has = by (contains_cases r rs register has) (into_registers f (k + 1) rs register)
  where
    by : (r ≡ register) ⊎ Contains rs register → (Contains rs register → (j : ℕ) × Contains (register_lines f (k + 1) rs) (register_line f j register))
        → (j : ℕ) × Contains (register_lines f k (r ∷ rs)) (register_line f j register)
    by (inl same) rest =
        (k, subst (λ q. Contains (register_lines f k (r ∷ rs)) (register_line f k q)) same (contains_here (register_line f k r) (register_lines f (k + 1) rs)))
    by (inr more) rest =
        let q = rest more in (q.0, contains_there (register_line f k r) (register_lines f (k + 1) rs) (register_line f q.0 register) q.1)

abbrev StoresNone : Line → Type 0
StoresNone (Always falling clock name data_word) = ⊥
StoresNone line = Unit {0}

module _ (f : FlatNet) (tables : List TableBits) where
  abbrev lines : List Line
  lines = filled_lines f tables

  -- the line of a register
  pub register_there : (register : Register) → Contains f.regs register → (j : ℕ) × Contains lines (register_line f j register)
  register_there register has =
      let at = into_registers f 0 f.regs register has in
      let line = register_line f at.0 register in
      let back = Contains-append_left (storing_lines f) (End ∷ []) line at.1 in
      (at.0, subst (λ l. Contains l line) (sym (lines_are f tables)) (Contains-append_right (declared_lines f ++ driving_lines f tables) (storing_lines f ++ End ∷ []) line back))

  -- a line that stores is that of a register
  pub storing_line : IsReady f tables → (falling : Bool) (clock name : List ℕ) (data_word : NetWord) → Contains lines (Always falling clock name data_word)
      → IsOfRegister f (Always falling clock name data_word)
  storing_line ready falling clock name data_word has =
      by (Contains-append_cases (declared_lines f ++ driving_lines f tables) (storing_lines f ++ End ∷ []) line (subst (λ l. Contains l line) (lines_are f tables) has))
    where
      line : Line
      line = Always falling clock name data_word

      prefix : Contains (declared_lines f) line ⊎ Contains (driving_lines f tables) line → IsOfRegister f line
      prefix (inl there) = absurd (All-contains StoresNone (declared_lines f) line (declared_all StoresNone f tt (λ n. tt) (λ n. tt) (λ n. tt)) there)
      prefix (inr there) = absurd (All-contains IsDriving (driving_lines f tables) line (are_driving f tables ready) there)

      last : (End ≡ line) ⊎ Contains [] line → IsOfRegister f line
      last (inl same) = absurd (subst StoresNone same tt)
      last (inr more) = absurd (none_in_nil line more)

      back : Contains (storing_lines f) line ⊎ Contains (End ∷ []) line → IsOfRegister f line
      back (inl there) = from_registers f 0 f.regs line there
      back (inr there) = last (contains_cases End [] line there)

      by : Contains (declared_lines f ++ driving_lines f tables) line ⊎ Contains (storing_lines f ++ End ∷ []) line → IsOfRegister f line
      by (inl there) = prefix (Contains-append_cases (declared_lines f) (driving_lines f tables) line there)
      by (inr there) = back (Contains-append_cases (storing_lines f) (End ∷ []) line there)
