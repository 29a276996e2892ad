-- Names that may be implicit wires: what a gate or a choice drives is where its name is known, declared or not.
use Rattle.std.proofs.Common.{◌≡◌, ◌∙◌, ◌⊎◌, inl, inr, ℕ, Bool, true, false, not, ◌||◌, Some, true≢false, is_some, List, [], ◌∷◌, ◌++◌, map, flat_map, codes, decimal, Contains, refl, sym, ap, subst}
use Rattle.std.proofs.lemmas.List.Elements.{Contains-append_left}
use Rattle.bb_bits.specs.Earlier.{has_name}
use Rattle.bb_bits.specs.Names.{same_name}
use Rattle.bb_ast.specs.Names.{names_in}
use Rattle.bb_ast.specs.Syntax.{PlainItem, PlainModule}
use Rattle.bb_names.specs.Declarations.{implicit_names, implicit_places, is_declared, is_known}
use Rattle.bb_fill.specs.Words.{NetWord, Bit, Named, CellNet, ChoiceNet}
use Rattle.bb_fill.specs.Lines.{Line, Module, Input, Output, Reg, Gate, Assign, Always, End}
use Rattle.bb_fill.specs.Laws.{driven, identifier}
use Rattle.bb_readback.specs.Laws.Modules.{bodies_of, expression_of}
use Rattle.bb_lemmas.proofs.Members.{contains_cases, contains_here, either, keeps, none_in_nil}
use Rattle.bb_lemmas.proofs.Names.{same_self}
use Rattle.bb_lemmas.proofs.Places.{some_same}
use Rattle.bb_readback.proofs.Lists.{any_here}

-- a name that may be an implicit wire is known
pub implicit_known : (m : PlainModule) (n : List ℕ) → Contains (flat_map (λ item. implicit_places item.body) m.items) n
    → is_known m n ≡ true
implicit_known m n has = by (either (is_declared m n))
  where
    by : (is_declared m n ≡ true) ⊎ (is_declared m n ≡ false) → is_known m n ≡ true
    by (inl declared) = ap (λ b. b || has_name n (implicit_names m)) declared
    by (inr other) =
        let wire = keeps (λ k. not (is_declared m k)) (flat_map (λ (item : PlainItem). implicit_places item.body) m.items) n has (ap not other) in
        let named = any_here (same_name n) (implicit_names m) n wire (same_self n) in
        subst (λ b. (is_declared m n || b) ≡ true) (sym named) (by_true (is_declared m n))
      where
        by_true : (b : Bool) → (b || true) ≡ true
        by_true true = refl
        by_true false = refl

-- a word that has a name is in its expression by this name
name_there : (stem : List ℕ) (word : NetWord) (n : List ℕ) → identifier stem word ≡ Some n → Contains (names_in (expression_of stem word)) n
name_there stem (Bit b) n e = absurd (true≢false (sym (ap is_some e)))
name_there stem (Named name) n e = subst (Contains (name ∷ [])) (some_same name n e) (contains_here name [])
name_there stem (CellNet k) n e = let name = stem ++ decimal k in subst (Contains (name ∷ [])) (some_same name n e) (contains_here name [])
name_there stem (ChoiceNet k) n e = let name = stem ++ codes "t" ++ decimal k in subst (Contains (name ∷ [])) (some_same name n e) (contains_here name [])

-- what a gate or a choice drives is where its name may be an implicit wire
abbrev pub IsPlaced : List ℕ → Line → List ℕ → Type 0
IsPlaced stem line n = Contains (flat_map implicit_places (bodies_of stem line)) n

abbrev pub IsNoName : NetWord → Type 0
IsNoName word = (name : List ℕ) → word ≡ Named name → ⊥

pub driven_placed : (stem : List ℕ) (line : Line) (word : NetWord) (n : List ℕ) → Contains (driven line) word → IsNoName word
    → identifier stem word ≡ Some n → IsPlaced stem line n
driven_placed stem (Gate primitive out ins) word n has plain e = by (contains_cases out [] word has)
  where
    by : (out ≡ word) ⊎ Contains [] word → IsPlaced stem (Gate primitive out ins) n
    by (inr more) = absurd (none_in_nil word more)
    by (inl same) =
        let here = name_there stem out n (ap (identifier stem) same ∙ e) in
        let terminals = Contains-append_left (names_in (expression_of stem out)) (flat_map names_in (map (expression_of stem) ins)) n here in
        let all = flat_map names_in (map (expression_of stem) (out ∷ ins)) in
        Contains-append_left (all ++ []) [] n (Contains-append_left all [] n terminals)
driven_placed stem (Assign left condition high low) word n has plain e = by (contains_cases left [] word has)
  where
    by : (left ≡ word) ⊎ Contains [] word → IsPlaced stem (Assign left condition high low) n
    by (inr more) = absurd (none_in_nil word more)
    by (inl same) =
        let here = name_there stem left n (ap (identifier stem) same ∙ e) in
        let all = names_in (expression_of stem left) in
        Contains-append_left (all ++ []) [] n (Contains-append_left all [] n here)
driven_placed stem (Always falling clock name data_word) word n has plain e = by (contains_cases (Named name) [] word has)
  where
    by : (Named name ≡ word) ⊎ Contains [] word → IsPlaced stem (Always falling clock name data_word) n
    by (inr more) = absurd (none_in_nil word more)
    by (inl same) = absurd (plain name (sym same))
driven_placed stem (Module ports) word n has plain e = absurd (none_in_nil word has)
driven_placed stem (Input name) word n has plain e = absurd (none_in_nil word has)
driven_placed stem (Output name) word n has plain e = absurd (none_in_nil word has)
driven_placed stem (Reg name) word n has plain e = absurd (none_in_nil word has)
driven_placed stem End word n has plain e = absurd (none_in_nil word has)
