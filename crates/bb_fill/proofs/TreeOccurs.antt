-- The lines of a tree read its pins, its values and choices of the level before.
use Rattle.std.proofs.Common.{◌≡◌, ◌∙◌, inr, ℕ, suc, ◌+◌, ◌*◌, ◌/◌, ◌^◌, List, [], ◌∷◌, ◌++◌, append_assoc, length, sym, ap, subst, arith}
use Rattle.std.specs.Prelude.{All, Contains}
use Rattle.std.specs.List.{flat_map}
use Rattle.std.proofs.lemmas.Grind.{flat_map-append}
use Rattle.std.proofs.lemmas.List.Elements.{All-cons, All-head, All-nil, All-tail, Contains-append_right}
use Rattle.bb_lemmas.proofs.Members.{all_from}
use Rattle.bb_fill.specs.Words.{NetWord, ChoiceNet}
use Rattle.bb_fill.specs.Lines.{Assign}
use Rattle.bb_fill.specs.Trees.{choice_nets, halved, tree_lines, tree_values}
use Rattle.bb_fill.specs.Laws.{driven}
use Rattle.bb_fill.proofs.Driven.{halved-driven}
use Rattle.bb_fill.proofs.Lists.{all_three}
use Rattle.bb_fill.proofs.SizeLemmas.{nets-length}
use Rattle.bb_fill.proofs.Occurs.{IsKnown, Claims, Occur, all_known_left, occur_append, occur_from}

module _ (P : NetWord → Type 0) where
  level_reports : (nets : List NetWord) (pin : NetWord) (k : ℕ) (values : List NetWord) → IsKnown nets pin → All (IsKnown nets) values → All (Claims P nets) (halved pin k values)
  level_reports nets pin k [] at all = All-nil (Claims P nets)
  level_reports nets pin k (v ∷ []) at all = All-nil (Claims P nets)
  level_reports nets pin k (low ∷ high ∷ values) at all =
      let rest = All-tail (IsKnown nets) low (high ∷ values) all in
      All-cons (Claims P nets) (Assign (ChoiceNet k) pin high low) (halved pin (k + 1) values)
      (All-nil P, all_three (IsKnown nets) pin high low at (All-head (IsKnown nets) high values rest) (All-head (IsKnown nets) low (high ∷ values) all))
      (level_reports nets pin (k + 1) values at (All-tail (IsKnown nets) high values rest))

  -- and with its lines the values that are left are known
  pub tree_occurs : (pins : List NetWord) (k : ℕ) (values nets : List NetWord) → length values ≡ 2 ^ length pins → All (IsKnown nets) pins → All (IsKnown nets) values
      → Occur P nets (tree_lines pins k values) × All (IsKnown (nets ++ flat_map driven (tree_lines pins k values))) (tree_values pins k values)
  tree_occurs [] k values nets long at all = (tt, all_known_left nets [] values all)
  tree_occurs (pin ∷ pins) k values nets long at all =
      let n = length values / 2 in
      let twice : 2 ^ suc (length pins) ≡ 2 * 2 ^ length pins = omega arith in
      let half : n ≡ 2 ^ length pins = omega (arith, long, twice) in
      let even : length values ≡ 2 * n = omega (arith, long, twice, half) in
      let level = halved pin k values in
      let after = tree_lines pins (k + n) (choice_nets k n) in
      let more = nets ++ flat_map driven level in
      let choices : All (IsKnown more) (choice_nets k n) =
      all_from (IsKnown more) (choice_nets k n) (λ z has. inr (Contains-append_right nets (flat_map driven level) z (subst (λ l. Contains l z) (sym (halved-driven pin k n values even)) has)))
      in
      let rest = tree_occurs pins (k + n) (choice_nets k n) more (nets-length k n ∙ half) (all_known_left nets (flat_map driven level) pins (All-tail (IsKnown nets) pin pins at)) choices in
      let both = append_assoc nets (flat_map driven level) (flat_map driven after) ∙ ap (λ l. nets ++ l) (sym (flat_map-append driven level after)) in (
        occur_append P level after nets (occur_from P level nets (level_reports nets pin k values (All-head (IsKnown nets) pin pins at) all)) rest.0,
        subst (λ l. All (IsKnown l) (tree_values pins (k + n) (choice_nets k n))) both rest.1,
      )
