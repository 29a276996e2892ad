-- Each net of the filled module is called as a word of its lines, so it has no more nets than are driven or inputs.
use Rattle.std.proofs.Common.{◌≡◌, ◌≢◌, ◌∙◌, ◌⊎◌, inl, inr, ℕ, ◌≤◌, not, true≢false, Some, is_some, List, [], ◌∷◌, ◌++◌, append-nil, map, filter, flat_map, codes, decimal, length, unwrap_or, AllPairs, Contains, refl, sym, ap, subst, arith}
use Rattle.std.proofs.lemmas.List.{length-map, map-id}
use Rattle.std.proofs.lemmas.List.Elements.{All-contains, Contains-append_cases, Contains-append_left, Contains-append_right}
use Rattle.bb_bits.specs.Earlier.{once}
use Rattle.bb_bits.specs.Names.{same_name}
use Rattle.bb_bits.specs.Tables.{TableBits}
use Rattle.bb_lemmas.proofs.Apart.{at_most_as_many}
use Rattle.bb_ast.specs.Names.{names_in}
use Rattle.bb_ast.specs.Syntax.{PlainHead, PlainItem, PlainModule}
use Rattle.bb_names.specs.declared.net.NetInfo.{NetInfo}
use Rattle.bb_names.specs.Declarations.{Declaration, declarations, implicit_names, implicit_places, is_declared}
use Rattle.bb_names.specs.Nets.{net_names, net_of}
use Rattle.bb_expr.specs.Laws.FitLaws.{NetNamesDiffer}
use Rattle.bb_net.specs.CutPoints.{state_texts}
use Rattle.bb_net.specs.Flats.{FlatNet, HaveClocks}
use Rattle.bb_fill.specs.Words.{NetWord, Bit, Named, CellNet, ChoiceNet, stem_of}
use Rattle.bb_fill.specs.Lines.{Line, Module, Input, Output, Reg, Gate, Assign, Always, End}
use Rattle.bb_fill.specs.Filled.{filled_lines}
use Rattle.bb_fill.specs.Laws.{IsNumber, IsReady, NetsAreDrivenOnce, WordsAreNets, all_nets, identifier, line_words}
use Rattle.bb_fill.specs.Sizes.{net_count}
use Rattle.bb_readback.specs.Laws.Modules.{bodies_of, expression_of, filled_module}
use Rattle.bb_design.specs.NetBits.{Bit as NetBit, net_order}
use Rattle.bb_lemmas.proofs.Maps.{map-twice}
use Rattle.bb_lemmas.proofs.Members.{contains-map, contains_cases, contains_here, contains_there, from_flat, from_map, into_flat, kept_from, none_in_nil}
use Rattle.bb_readback.specs.Laws.Designs.{filled_design}
use Rattle.bb_readback.proofs.Forms.{declared_lines, driving_lines, lines_are, storing_lines}
use Rattle.bb_readback.proofs.Implicit.{IsPlaced}
use Rattle.bb_readback.proofs.Items.{flat_items, module_declares}
use Rattle.bb_readback.proofs.Lists.{pairs_map}
use Rattle.bb_readback.proofs.Meanings.{bit_named, bit_of_word}
use Rattle.bb_readback.proofs.Nets.{net_order_is}
use Rattle.bb_readback.proofs.Ports.{head_names}
use Rattle.bb_readback.proofs.Meant.{each_said}
use Rattle.bb_readback.proofs.Sifted.{only_one_of}

once_from : (names : List (List ℕ)) (n : List ℕ) → Contains (once names) n → Contains names n
once_from [] n has = has
once_from (k ∷ ks) n has = by (contains_cases k (filter (λ m. not (same_name k m)) (once ks)) n has) (once_from ks n)
  where
    by : (k ≡ n) ⊎ Contains (filter (λ m. not (same_name k m)) (once ks)) n → (Contains (once ks) n → Contains ks n) → Contains (k ∷ ks) n
    by (inl same) rest = subst (Contains (k ∷ ks)) same (contains_here k ks)
    by (inr more) rest = contains_there k ks n (rest (kept_from (λ m. not (same_name k m)) (once ks) n more).0)

-- one of these words is called so
abbrev pub IsCalled : List ℕ → List NetWord → List ℕ → Type 0
IsCalled stem words n = (word : NetWord) × Contains words word × (identifier stem word ≡ Some n)

-- a name in a word's expression is the word's
name_in : (stem : List ℕ) (word : NetWord) (n : List ℕ) → Contains (names_in (expression_of stem word)) n → identifier stem word ≡ Some n
name_in stem (Bit b) n has = absurd (none_in_nil n has)
name_in stem (Named name) n has = ap Some (only_one_of name n has)
name_in stem (CellNet k) n has = ap Some (only_one_of (stem ++ decimal k) n has)
name_in stem (ChoiceNet k) n has = ap Some (only_one_of (stem ++ codes "t" ++ decimal k) n has)

from_last : {A : Type 0} (xs : List A) (x : A) → Contains (xs ++ []) x → Contains xs x
from_last xs x has = subst (λ l. Contains l x) (append-nil xs) has

-- what may be an implicit wire is called as a word of its line
placed_called : (stem : List ℕ) (line : Line) (n : List ℕ) → IsPlaced stem line n → IsCalled stem (line_words line) n
placed_called stem (Gate primitive out ins) n placed =
    let words = out ∷ ins in
    let all = flat_map names_in (map (expression_of stem) words) in
    let terminal = from_flat names_in (map (expression_of stem) words) n (from_last all n (from_last (all ++ []) n placed)) in
    let word = from_map (expression_of stem) words terminal.0 terminal.1 in
    (word.0, word.1, name_in stem word.0 n (subst (λ e. Contains (names_in e) n) (sym word.2) terminal.2))
placed_called stem (Assign left condition high low) n placed =
    let all = names_in (expression_of stem left) in
    (left, contains_here left (condition ∷ high ∷ low ∷ []), name_in stem left n (from_last all n (from_last (all ++ []) n placed)))
placed_called stem (Module ports) n placed = absurd (none_in_nil n placed)
placed_called stem (Input name) n placed = absurd (none_in_nil n placed)
placed_called stem (Output name) n placed = absurd (none_in_nil n placed)
placed_called stem (Reg name) n placed = absurd (none_in_nil n placed)
placed_called stem (Always falling clock name data_word) n placed = absurd (none_in_nil n placed)
placed_called stem End n placed = absurd (none_in_nil n placed)

module _ (f : FlatNet) (tables : List TableBits) (ready : IsReady f tables) where
  abbrev here : PlainModule
  here = filled_module f tables

  abbrev lines : List Line
  lines = filled_lines f tables

  -- a word of the lines is called so
  abbrev IsCalledHere : List ℕ → Type 0
  IsCalledHere n = IsCalled (stem_of f) (flat_map line_words lines) n

  of_line : (line : Line) (n : List ℕ) → Contains lines line → IsCalled (stem_of f) (line_words line) n → IsCalledHere n
  of_line line n has (word, at, e) = (word, into_flat line_words lines line word has at, e)

  declared_line : (line : Line) → Contains (declared_lines f) line → Contains lines line
  declared_line line has =
      subst (λ l. Contains l line) (sym (lines_are f tables))
      (Contains-append_left (declared_lines f ++ driving_lines f tables) (storing_lines f ++ End ∷ []) line (Contains-append_left (declared_lines f) (driving_lines f tables) line has))

  port_called : (n : List ℕ) → Contains (f.ins ++ f.outs) n → IsCalledHere n
  port_called n has =
      let header = Module (f.ins ++ f.outs) in
      let rest = map Input f.ins ++ map Output f.outs ++ map Reg (state_texts f) in
      of_line header n (declared_line header (contains_here header rest)) (Named n, contains-map Named (f.ins ++ f.outs) n has, refl)

  register_called : (n : List ℕ) → Contains (state_texts f) n → IsCalledHere n
  register_called n has =
      let prefix = Module (f.ins ++ f.outs) ∷ map Input f.ins ++ map Output f.outs in
      let there = Contains-append_right prefix (map Reg (state_texts f)) (Reg n) (contains-map Reg (state_texts f) n has) in
      of_line (Reg n) n (declared_line (Reg n) there) (Named n, contains_here (Named n) [], refl)

  declared_called : (d : Declaration) → Contains (declarations here) d → IsCalledHere d.name
  declared_called = each_said here f (module_declares f tables ready) (λ d. IsCalledHere d.name) (record {
    input = λ n has. port_called n (Contains-append_left f.ins f.outs n has);
    output = λ n has. port_called n (Contains-append_right f.ins f.outs n has);
    register = register_called;
  })

  implicit_called : (n : List ℕ) → Contains (implicit_names here) n → IsCalledHere n
  implicit_called n has =
      let placed = (kept_from (λ k. not (is_declared here k)) (flat_map (λ (item : PlainItem). implicit_places item.body) here.items) n has).0 in
      let places = λ (line : Line). flat_map implicit_places (bodies_of (stem_of f) line) in
      let line = from_flat places lines n (subst (λ l. Contains l n) (flat_items implicit_places (stem_of f) 1 lines) placed) in
      of_line line.0 n line.1 (placed_called (stem_of f) line.0 n line.2)

  abbrev heads : List (List ℕ)
  heads = map (λ (head : PlainHead). head.name) here.heads

  abbrev nets : List Declaration
  nets = filter (λ (d : Declaration). not d.instance) (declarations here)

  abbrev declared : List (List ℕ)
  declared = map (λ (d : Declaration). d.name) nets

  net_called : (n : List ℕ) → Contains (net_names here) n → IsCalledHere n
  net_called n has = by (Contains-append_cases (heads ++ declared) (implicit_names here) n (once_from (heads ++ declared ++ implicit_names here) n has))
    where
      prefix : Contains heads n ⊎ Contains declared n → IsCalledHere n
      prefix (inl head) = port_called n (subst (λ l. Contains l n) (head_names (f.ins ++ f.outs)) head)
      prefix (inr there) =
          let d = from_map (λ (d : Declaration). d.name) nets n there in
          subst IsCalledHere d.2 (declared_called d.0 (kept_from (λ (e : Declaration). not e.instance) (declarations here) d.0 d.1).0)

      by : Contains (heads ++ declared) n ⊎ Contains (implicit_names here) n → IsCalledHere n
      by (inl there) = prefix (Contains-append_cases heads declared n there)
      by (inr implicit) = implicit_called n implicit

  -- no two nets have one name

  pub names_apart : NetNamesDiffer → AllPairs ◌≢◌ (net_names here)
  names_apart differ =
      subst (AllPairs ◌≢◌) (map-twice (net_of here) (λ (net : NetInfo). net.name) (net_names here) ∙ map-id (net_names here)) (differ here)

  nets_apart : NetNamesDiffer → AllPairs ◌≢◌ (net_order (filled_design f tables))
  nets_apart differ =
      subst (AllPairs ◌≢◌) (sym (net_order_is f tables ready))
      (pairs_map ◌≢◌ ◌≢◌ bit_named (λ n k other same. other (ap (λ (b : NetBit). b.net) same)) (net_names here) (names_apart differ))

  module _ (clocks : HaveClocks f) (word_nets : WordsAreNets) where
    -- so its bit is that of a net
    bit_there : (b : NetBit) → Contains (net_order (filled_design f tables)) b → Contains (map (bit_of_word (stem_of f)) (all_nets f tables)) b
    bit_there b has =
        let n = from_map bit_named (net_names here) b (subst (λ l. Contains l b) (net_order_is f tables ready) has) in
        let called = net_called n.0 n.1 in
        let same : bit_of_word (stem_of f) called.0 ≡ b = ap (λ o. bit_named (unwrap_or o [])) called.2 ∙ n.2 in
        let net = All-contains (λ w. IsNumber w ⊎ Contains (all_nets f tables) w) (flat_map line_words lines) called.0 (word_nets f tables ready clocks) called.1 in
        subst (Contains (map (bit_of_word (stem_of f)) (all_nets f tables))) same (contains-map (bit_of_word (stem_of f)) (all_nets f tables) called.0 (by called.0 n.0 called.2 net))
      where
        by : (word : NetWord) (n : List ℕ) → identifier (stem_of f) word ≡ Some n → IsNumber word ⊎ Contains (all_nets f tables) word
            → Contains (all_nets f tables) word
        by word n e (inl number) = absurd (true≢false (sym (ap is_some (sym (ap (identifier (stem_of f)) number.1) ∙ e))))
        by word n e (inr there) = there

    pub nets_are_few : NetNamesDiffer → NetsAreDrivenOnce → length (net_order (filled_design f tables)) ≤ net_count f tables
    nets_are_few differ nets =
        let all = at_most_as_many (net_order (filled_design f tables)) (map (bit_of_word (stem_of f)) (all_nets f tables)) (nets_apart differ) bit_there in
        omega (arith, all, length-map (all_nets f tables) (bit_of_word (stem_of f)), (nets f tables ready).1)
