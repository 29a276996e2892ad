-- The filled module breaks no rule: of its header and of each of its items no fault is reported.
use Rattle.std.proofs.Common.{◌≡◌, ◌∙◌, List, [], ◌∷◌, ◌++◌, append_assoc, flat_map, AllPairs, Contains, sym, ap, ap₂, subst}
use Rattle.std.proofs.lemmas.Grind.{flat_map-append}
use Rattle.std.proofs.lemmas.List.Elements.{All-contains, Contains-append_right}
use Rattle.bb_bits.specs.Tables.{TableBits}
use Rattle.bb_ast.specs.Syntax.{PlainItem, PlainModule}
use Rattle.bb_names.specs.Declarations.{Declaration, declarations, declared_by, declared_by_head}
use Rattle.bb_names.specs.Faults.{module_faults, statement_faults}
use Rattle.bb_names.specs.Sites.{header_sites, item_sites}
use Rattle.bb_net.specs.Flats.{FlatNet, HaveClocks}
use Rattle.bb_fill.specs.Words.{stem_of}
use Rattle.bb_fill.specs.Filled.{filled_lines}
use Rattle.bb_fill.specs.Laws.{IsReady, NetsAreDrivenOnce, WordsAreApart, WordsAreNets, WordsAreOfNetlist}
use Rattle.bb_fill.specs.Sizes.{IsSmallText}
use Rattle.bb_readback.specs.Laws.Modules.{bodies_of, filled_module}
use Rattle.bb_readback.specs.Laws.{FilledModulesAreSound}
use Rattle.bb_lemmas.proofs.Members.{contains_here}
use Rattle.bb_readback.proofs.Clashes.{AreOthers, NoClash, none_clash}
use Rattle.bb_readback.proofs.Items.{from_items, module_declares}
use Rattle.bb_readback.proofs.Lines.{IsClear, IsFaultless, line_faultless}
use Rattle.bb_readback.proofs.Lists.{each_none, pairs_before}
use Rattle.bb_readback.proofs.PlainLines.{line_plain}
use Rattle.bb_readback.proofs.Ports.{header_silent}
use Rattle.bb_readback.proofs.Meant.{Declares}
use Rattle.bb_readback.proofs.Silent.{statement_silent}

abbrev reports : PlainItem → List Declaration
reports item = declared_by item.body

-- what is declared before an item
abbrev declared_before : PlainModule → List PlainItem → List Declaration
declared_before m prefix = flat_map declared_by_head m.heads ++ flat_map (λ item. declared_by item.body) prefix

-- what an item declares clashes with nothing that is declared before it
item_clear : (m : PlainModule) (f : FlatNet) → Declares m f → AreOthers f
    → (prefix : List PlainItem) (item : PlainItem) (back : List PlainItem) → m.items ≡ prefix ++ item ∷ back
    → IsClear m (declared_before m prefix) item.body
item_clear m f declares others prefix item back e d one =
    let heads = flat_map declared_by_head m.heads in
    let after = flat_map reports back in
    let parts : flat_map reports m.items ≡ flat_map reports prefix ++ d ∷ after =
    ap (flat_map reports) e ∙ flat_map-append reports prefix (item ∷ back) ∙ ap (λ l. flat_map reports prefix ++ (l ++ after)) one
    in
    let split : declarations m ≡ declared_before m prefix ++ d ∷ after = ap (λ l. heads ++ l) parts ∙ sym (append_assoc heads (flat_map reports prefix) (d ∷ after)) in
    let there = Contains-append_right (declared_before m prefix) (d ∷ after) d (contains_here d after) in (
      subst (λ l. Contains l d) (sym split) there,
      pairs_before (NoClash m) (declared_before m prefix) d after (subst (AllPairs (NoClash m)) (sym declares.all ∙ split) (none_clash m f others)),
    )

module _ (f : FlatNet) (tables : List TableBits) (ready : IsReady f tables) (clocks : HaveClocks f) (small : IsSmallText f tables)
    (nets : NetsAreDrivenOnce) (word_nets : WordsAreNets) (of_netlist : WordsAreOfNetlist) (apart : WordsAreApart) (text : List PlainModule) where
  abbrev here : PlainModule
  here = filled_module f tables

  declares : Declares here f
  declares = module_declares f tables ready

  others : AreOthers f
  others = record { apart = ready.flat.apart; inputs = ready.names.inputs }

  item_faultless : (item : PlainItem) → Contains here.items item → IsFaultless text here item.body
  item_faultless item has =
      let line = from_items (stem_of f) 1 (filled_lines f tables) item has in
      let plain = line_plain f tables ready clocks small nets word_nets of_netlist apart line.0 line.1 in
      All-contains (IsFaultless text here) (bodies_of (stem_of f) line.0) item.body (line_faultless text here f declares others (stem_of f) line.0 plain) line.2

  item_none : (prefix : List PlainItem) (item : PlainItem) (back : List PlainItem) → here.items ≡ prefix ++ item ∷ back
      → statement_faults text here item.line (item_sites text (declared_before here prefix) item.body) ≡ []
  item_none prefix item back e =
      let has = subst (λ l. Contains l item) (sym e) (Contains-append_right prefix (item ∷ back) item (contains_here item back)) in
      statement_silent text here item.line (item_sites text (declared_before here prefix) item.body)
      (item_faultless item has (declared_before here prefix) (item_clear here f declares others prefix item back e))

  module_sound : module_faults text [] here ≡ []
  module_sound = ap₂ ◌++◌ (statement_silent text here 1 (header_sites [] here) (header_silent text here f declares others)) (each_none _ [] here.items item_none)

pub filled_modules_are_sound : NetsAreDrivenOnce → WordsAreNets → WordsAreOfNetlist → WordsAreApart → FilledModulesAreSound
filled_modules_are_sound nets word_nets of_netlist apart f tables ready clocks small =
    ap (λ l. l ++ []) (module_sound f tables ready clocks small nets word_nets of_netlist apart (filled_module f tables ∷ []))
