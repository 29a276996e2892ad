-- The items of a filled module are those of its lines. What they declare is its inputs, its outputs and its registers.
use Rattle.std.proofs.Common.{◌≡◌, ◌∙◌, ◌⊎◌, inl, inr, ℕ, ◌+◌, List, [], ◌∷◌, ◌++◌, append-nil, map, flat_map, Contains, refl, ap, ap₂, subst, arith}
use Rattle.std.proofs.lemmas.Grind.{flat_map-append}
use Rattle.std.proofs.lemmas.List.Elements.{All-weaker, Contains-append_cases}
use Rattle.std.proofs.lemmas.List.Folds.{flat_map-map}
use Rattle.bb_bits.specs.Tables.{TableBits}
use Rattle.bb_ast.specs.Syntax.{PlainBody, PlainItem}
use Rattle.bb_names.specs.Declarations.{Declaration, declared_by, declared_by_head}
use Rattle.bb_net.specs.CutPoints.{state_texts}
use Rattle.bb_net.specs.Flats.{FlatNet}
use Rattle.bb_fill.specs.Words.{stem_of}
use Rattle.bb_fill.specs.Lines.{Line, Module, Input, Output, Reg, Gate, Assign, Always, End}
use Rattle.bb_fill.specs.Filled.{filled_lines}
use Rattle.bb_fill.specs.Laws.{IsReady}
use Rattle.bb_readback.specs.Laws.Modules.{bodies_of, filled_module, items_of, plain_head}
use Rattle.bb_lemmas.proofs.Members.{contains_here, contains_there, from_map}
use Rattle.bb_readback.proofs.Forms.{IsDriving, IsStoring, are_driving, are_storing, declared_lines, driving_lines, lines_are, storing_lines}
use Rattle.bb_readback.proofs.Lists.{flat_none}
use Rattle.bb_readback.proofs.Meant.{Declares, all_said, said_of_input, said_of_output, said_of_register}

abbrev pub item_at : ℕ → PlainBody → PlainItem
item_at line body = record { line = line; body = body }

-- what bodies give, item by item and line by line
pub flat_items : {A : Type 0} (g : PlainBody → List A) (stem : List ℕ) (k : ℕ) (lines : List Line)
    → flat_map (λ item. g item.body) (items_of stem k lines) ≡ flat_map (λ line. flat_map g (bodies_of stem line)) lines
flat_items g stem k [] = refl
flat_items g stem k (line ∷ lines) =
    flat_map-append (λ (item : PlainItem). g item.body) (map (item_at k) (bodies_of stem line)) (items_of stem (k + 1) lines)
    ∙ ap₂ ◌++◌ (flat_map-map (λ (item : PlainItem). g item.body) (item_at k) (bodies_of stem line)) (flat_items g stem (k + 1) lines)

-- an item comes from a line
abbrev pub ComesFrom : List ℕ → List Line → PlainItem → Type 0
ComesFrom stem lines item = (line : Line) × Contains lines line × Contains (bodies_of stem line) item.body

pub from_items : (stem : List ℕ) (k : ℕ) (lines : List Line) (item : PlainItem) → Contains (items_of stem k lines) item
    → ComesFrom stem lines item
from_items stem k [] item has = absurd (omega (arith, has.1))
from_items stem k (line ∷ lines) item has =
    by (Contains-append_cases (map (item_at k) (bodies_of stem line)) (items_of stem (k + 1) lines) item has) (from_items stem (k + 1) lines item)
  where
    by : Contains (map (item_at k) (bodies_of stem line)) item ⊎ Contains (items_of stem (k + 1) lines) item
        → (Contains (items_of stem (k + 1) lines) item → ComesFrom stem lines item) → ComesFrom stem (line ∷ lines) item
    by (inl here) rest =
        let body = from_map (item_at k) (bodies_of stem line) item here in
        (line, contains_here line lines, subst (λ (i : PlainItem). Contains (bodies_of stem line) i.body) body.2 body.1)
    by (inr more) rest = let other = rest more in (other.0, contains_there line lines other.0 other.1, other.2)

-- what a line declares
abbrev line_reports : List ℕ → Line → List Declaration
line_reports stem line = flat_map declared_by (bodies_of stem line)

pub each_single : {A B C : Type 0} (g : B → List C) (h : A → B) (v : A → C) → ((x : A) → g (h x) ≡ v x ∷ []) → (xs : List A)
    → flat_map g (map h xs) ≡ map v xs
each_single g h v single [] = refl
each_single g h v single (x ∷ xs) = ap₂ ◌++◌ (single x) (each_single g h v single xs)

driving_reports_none : (stem : List ℕ) (line : Line) → IsDriving line → line_reports stem line ≡ []
driving_reports_none stem (Gate primitive out ins) driving = refl
driving_reports_none stem (Assign left condition high low) driving = refl
driving_reports_none stem (Module ports) driving = absurd driving
driving_reports_none stem (Input name) driving = absurd driving
driving_reports_none stem (Output name) driving = absurd driving
driving_reports_none stem (Reg name) driving = absurd driving
driving_reports_none stem (Always falling clock name data_word) driving = absurd driving
driving_reports_none stem End driving = absurd driving

storing_reports_none : (stem : List ℕ) (texts : List (List ℕ)) (line : Line) → IsStoring texts line → line_reports stem line ≡ []
storing_reports_none stem texts (Always falling clock name data_word) storing = refl
storing_reports_none stem texts (Gate primitive out ins) storing = absurd storing
storing_reports_none stem texts (Assign left condition high low) storing = absurd storing
storing_reports_none stem texts (Module ports) storing = absurd storing
storing_reports_none stem texts (Input name) storing = absurd storing
storing_reports_none stem texts (Output name) storing = absurd storing
storing_reports_none stem texts (Reg name) storing = absurd storing
storing_reports_none stem texts End storing = absurd storing

declared_lines_say : (stem : List ℕ) (f : FlatNet) → flat_map (line_reports stem) (declared_lines f) ≡ all_said f
declared_lines_say stem f =
    let inputs = each_single (line_reports stem) Input said_of_input (λ n. refl) f.ins in
    let outputs = each_single (line_reports stem) Output said_of_output (λ n. refl) f.outs in
    let registers = each_single (line_reports stem) Reg said_of_register (λ n. refl) (state_texts f) in
    flat_map-append (line_reports stem) (map Input f.ins ++ map Output f.outs) (map Reg (state_texts f))
    ∙ ap₂ ◌++◌ (flat_map-append (line_reports stem) (map Input f.ins) (map Output f.outs) ∙ ap₂ ◌++◌ inputs outputs) registers

heads_say_none : (names : List (List ℕ)) → flat_map declared_by_head (map plain_head names) ≡ []
heads_say_none [] = refl
heads_say_none (n ∷ ns) = heads_say_none ns

module _ (f : FlatNet) (tables : List TableBits) (ready : IsReady f tables) where
  abbrev reports : Line → List Declaration
  reports = line_reports (stem_of f)

  driving_none : flat_map reports (driving_lines f tables) ≡ []
  driving_none =
      flat_none reports (driving_lines f tables)
      (All-weaker IsDriving (λ line. reports line ≡ []) (driving_reports_none (stem_of f)) (driving_lines f tables) (are_driving f tables ready))

  storing_none : flat_map reports (storing_lines f) ≡ []
  storing_none =
      flat_none reports (storing_lines f)
      (All-weaker (IsStoring (state_texts f)) (λ line. reports line ≡ []) (storing_reports_none (stem_of f) (state_texts f)) (storing_lines f) (are_storing f))

  lines_say : flat_map reports (filled_lines f tables) ≡ all_said f
  lines_say =
      let prefix = flat_map-append reports (declared_lines f) (driving_lines f tables) ∙ ap₂ ◌++◌ (declared_lines_say (stem_of f) f) driving_none in
      let back = flat_map-append reports (storing_lines f) (End ∷ []) ∙ ap (λ l. l ++ []) storing_none in
      ap (flat_map reports) (lines_are f tables)
      ∙ flat_map-append reports (declared_lines f ++ driving_lines f tables) (storing_lines f ++ End ∷ [])
      ∙ ap₂ ◌++◌ prefix back
      ∙ append-nil (all_said f ++ []) ∙ append-nil (all_said f)

  pub module_declares : Declares (filled_module f tables) f
  module_declares = record {
    heads = refl;
    all = ap (λ l. l ++ flat_map (λ (item : PlainItem). declared_by item.body) (items_of (stem_of f) 1 (filled_lines f tables))) (heads_say_none (f.ins ++ f.outs))
        ∙ flat_items declared_by (stem_of f) 1 (filled_lines f tables) ∙ lines_say;
  }
