use Rattle.std.proofs.Common.{◌≡◌, ◌∙◌, ◌++◌, [], ℕ, List, ap}
use Rattle.std.proofs.lemmas.Result.{IfOk-weaker}
use Rattle.bb_blast.specs.declared.placed.Placed.{Placed}
use Rattle.bb_design.specs.Hierarchy.{Path, Design, Scope}
use Rattle.bb_elab.specs.Inside.PlacedPaths.{IsPathAt}
use Rattle.bb_blast.specs.Inside.Placements.{IsScopeAt, ArePlaced}
use Rattle.bb_design.specs.Texts.{path_text}
use Rattle.bb_elab.proofs.PlacedPaths.{are_rooted, path_there}
use Rattle.bb_elab.proofs.texts.path_name.Goals as goal

pub add_path-requires-clause-rooted : goal.add_path-requires-clause-rooted
add_path-requires-clause-rooted c = are_rooted c.requires.design.0 c.args.placed.now c.requires.design.1

-- the text of the path after nothing
named : (all : List Placed) (scope : ℕ) (n text items none : List ℕ) → n ≡ text → text ≡ items → none ≡ [] → ((path : Path) → IsPathAt all scope path → items ≡ none ++ path_text path)
    → (d : Design) → ArePlaced d all → (s : Scope) → IsScopeAt d scope s → n ≡ path_text s.path
named all scope n text items none is made empty path d are s at = is ∙ made ∙ path s.path (path_there d all are scope s at) ∙ ap (λ l. l ++ path_text s.path) empty

pub returns : goal.returns
returns c = record {
  name = IfOk-weaker c.of.result (λ n. n ≡ c.deref.result.now)
      (λ n. (d : Design) → ArePlaced d c.args.placed.now → (s : Scope) → IsScopeAt d c.args.scope s → n ≡ path_text s.path)
      (λ n is. named c.args.placed.now c.args.scope n c.deref.result.now _ c.new-text.result.items is c.deref.ensures.value c.new-text.ensures.items c.in_ok-add_path.ensures.path) c.of.ensures.ok;
}
