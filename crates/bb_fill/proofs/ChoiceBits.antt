-- The bits of the choices of a tree, in the order of their numbers: with these its lines are met.
use Rattle.std.proofs.Common.{◌≡◌, ◌∙◌, ℕ, zero, suc, ◌+◌, ◌*◌, ◌/◌, ◌^◌, ◌<◌, Bool, false, List, [], ◌∷◌, ◌++◌, length, length-append, map, sym, ap, subst, arith}
use Rattle.std.specs.List.{range_with_len}
use Rattle.std.proofs.lemmas.List.{get_or-append-add, get_or_append_left, length-map}
use Rattle.std.proofs.lemmas.List.Elements.{All-append, All-cons, All-nil}
use Rattle.std.proofs.lemmas.List.FromFn.{fill_by_all}
use Rattle.bb_lemmas.proofs.Maps.{map-twice}
use Rattle.bb_net.specs.Values.{bit_of}
use Rattle.bb_fill.specs.Words.{NetWord, ChoiceNet}
use Rattle.bb_fill.specs.Lines.{Assign}
use Rattle.bb_fill.specs.Trees.{choice_nets, halved, tree_lines}
use Rattle.bb_fill.specs.Laws.{AreMet, IsMet}
use Rattle.bb_fill.proofs.SizeLemmas.{nets-length}
use Rattle.bb_fill.proofs.TreeLaws.{picked}

-- level after level, for the bits of the pins and of the values
abbrev pub choice_bits : List Bool → List Bool → List Bool
choice_bits [] values = []
choice_bits (pin ∷ pins) values = picked pin values ++ choice_bits pins (picked pin values)

picked-length : (b : Bool) (n : ℕ) (values : List Bool) → length values ≡ 2 * n → length (picked b values) ≡ n
picked-length b n [] long = omega (arith, long)
picked-length b n (v ∷ []) long = absurd (omega (arith, long))
picked-length b zero (low ∷ high ∷ values) long = absurd (omega (arith, long))
picked-length b (suc n) (low ∷ high ∷ values) long = let rest = picked-length b n values (omega (arith, long)) in omega (arith, rest)

pub choice_bits-length : (pins values : List Bool) → length values ≡ 2 ^ length pins → length (choice_bits pins values) + 1 ≡ 2 ^ length pins
choice_bits-length [] values long = omega arith
choice_bits-length (pin ∷ pins) values long =
    let twice : 2 ^ suc (length pins) ≡ 2 * 2 ^ length pins = omega arith in
    let first = picked-length pin (2 ^ length pins) values (long ∙ twice) in
    let rest = choice_bits-length pins (picked pin values) first in
    omega (arith, twice, first, rest, length-append (picked pin values) (choice_bits pins (picked pin values)))

module _ (bit : NetWord → Bool) where
  -- the nets of so many choices have these bits
  abbrev HaveChoices : ℕ → List Bool → Type 0
  HaveChoices k bits = (j : ℕ) → j < length bits → bit (ChoiceNet (k + j)) ≡ bit_of bits j

  level_met : (pin : NetWord) (k n : ℕ) (values : List NetWord) → length values ≡ 2 * n → HaveChoices k (picked (bit pin) (map bit values)) → AreMet bit (halved pin k values)
  level_met pin k n [] long have = All-nil (IsMet bit)
  level_met pin k n (v ∷ []) long have = absurd (omega (arith, long))
  level_met pin k zero (low ∷ high ∷ values) long have = absurd (omega (arith, long))
  level_met pin k (suc n) (low ∷ high ∷ values) long have =
      let here : k ≡ k + 0 = omega arith in
      All-cons (IsMet bit) (Assign (ChoiceNet k) pin high low) (halved pin (k + 1) values) (ap (λ m. bit (ChoiceNet m)) here ∙ have 0 (omega arith))
      (level_met pin (k + 1) n values (omega (arith, long)) (λ j lt. let next : k + 1 + j ≡ k + suc j = omega arith in ap (λ m. bit (ChoiceNet m)) next ∙ have (suc j) (omega (arith, lt))))

  level_bits : (k n : ℕ) (bits : List Bool) → length bits ≡ n → HaveChoices k bits → map bit (choice_nets k n) ≡ bits
  level_bits k n bits long have =
      map-twice (λ i. ChoiceNet (k + i)) bit (range_with_len 0 n)
      ∙ sym (fill_by_all (λ i. bit (ChoiceNet (k + i))) bits n false long (λ i lt. sym (have i (omega (arith, lt, long)))))

  pub tree_met : (pins : List NetWord) (k : ℕ) (values : List NetWord) → length values ≡ 2 ^ length pins → HaveChoices k (choice_bits (map bit pins) (map bit values)) → AreMet bit (tree_lines pins k values)
  tree_met [] k values long have = All-nil (IsMet bit)
  tree_met (pin ∷ pins) k values long have =
      let n = length values / 2 in
      let twice : 2 ^ suc (length pins) ≡ 2 * 2 ^ length pins = omega arith in
      let half : n ≡ 2 ^ length pins = omega (arith, long, twice) in
      let even : length values ≡ 2 * n = omega (arith, long, twice, half) in
      let level = picked (bit pin) (map bit values) in
      let after = choice_bits (map bit pins) level in
      let whole = length-append level after in
      let many : length level ≡ n = picked-length (bit pin) n (map bit values) (length-map values bit ∙ even) in
      let here : HaveChoices k level = λ j lt. have j (omega (arith, lt, whole)) ∙ get_or_append_left level after false j lt in
      let rest : HaveChoices (k + n) after = λ j lt.
      let at : k + n + j ≡ k + (length level + j) = omega (arith, many) in
      ap (λ m. bit (ChoiceNet m)) at ∙ have (length level + j) (omega (arith, lt, whole)) ∙ get_or-append-add level after j false
      in
      let same = sym (level_bits k n level many here) in
      All-append (IsMet bit) (halved pin k values) (tree_lines pins (k + n) (choice_nets k n)) (level_met pin k n values even here)
      (tree_met pins (k + n) (choice_nets k n) (nets-length k n ∙ half) (subst (λ l. HaveChoices (k + n) (choice_bits (map bit pins) l)) same rest))
