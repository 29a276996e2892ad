-- The value of a tree has the bit of the row that the bits at the pins choose.
use Rattle.std.proofs.Common.{◌≡◌, ◌∙◌, ℕ, zero, suc, ◌+◌, ◌*◌, ◌/◌, ◌^◌, ◌<◌, Bool, true, false, if◌then◌else◌, List, [], ◌∷◌, ◌++◌, length, map, reverse, refl, sym, ap, ap₂, subst, arith}
use Rattle.std.specs.List.{range_with_len, slice_index_or}
use Rattle.std.proofs.lemmas.List.{length-map, length-reverse, map-append, reverse-append, reverse-reverse}
use Rattle.std.proofs.lemmas.List.Elements.{All-head, All-tail}
use Rattle.std.proofs.lemmas.List.FromFn.{get_or-map-range_with_len, length-range_with_len}
use Rattle.bb_bits.specs.Numbers.{number_of}
use Rattle.bb_bits.specs.Tables.{table_bit, column}
use Rattle.bb_fill.specs.Words.{NetWord, Bit, ChoiceNet}
use Rattle.bb_fill.specs.Lines.{Assign}
use Rattle.bb_fill.specs.Trees.{choice_nets, halved, tree_lines, tree_values}
use Rattle.bb_fill.specs.Laws.{AreMet, IsMet, TreesChoose}
use Rattle.bb_fill.proofs.Lists.{all_left, all_right}
use Rattle.bb_fill.proofs.SizeLemmas.{column-length}

-- one more bit after others doubles their number and adds the bit
abbrev pub NumbersDouble : Type 0
NumbersDouble = (bits : List Bool) (b : Bool) → number_of (bits ++ b ∷ []) ≡ 2 * number_of bits + (if b then 1 else 0)

abbrev pub NumbersAreBelow : Type 0
NumbersAreBelow = (bits : List Bool) → number_of bits < 2 ^ length bits

-- of each two neighbouring bits the second or the first
abbrev pub picked : Bool → List Bool → List Bool
picked b (low ∷ high ∷ bits) = (if b then high else low) ∷ picked b bits
picked b (bit ∷ []) = []
picked b [] = []

picked-at : (b : Bool) (n : ℕ) (bits : List Bool) (m : ℕ) → length bits ≡ 2 * n → slice_index_or (picked b bits) m false ≡ slice_index_or bits (2 * m + (if b then 1 else 0)) false
picked-at b n [] m long = refl
picked-at b n (x ∷ []) m long = absurd (omega (arith, long))
picked-at b zero (low ∷ high ∷ bits) m long = absurd (omega (arith, long))
picked-at true (suc n) (low ∷ high ∷ bits) zero long = refl
picked-at false (suc n) (low ∷ high ∷ bits) zero long = refl
picked-at b (suc n) (low ∷ high ∷ bits) (suc m) long =
    let next : 2 * suc m + (if b then 1 else 0) ≡ suc (suc (2 * m + (if b then 1 else 0))) = omega arith in
    picked-at b n bits m (omega (arith, long)) ∙ sym (ap (λ k. slice_index_or (low ∷ high ∷ bits) k false) next)

pub nets_from : (k a n : ℕ) → map (λ i. ChoiceNet (k + i)) (range_with_len (a + 1) n) ≡ map (λ i. ChoiceNet (k + 1 + i)) (range_with_len a n)
nets_from k a zero = refl
nets_from k a (suc n) =
    let at : k + (a + 1) ≡ k + 1 + a = omega arith in
    ap₂ (λ j l. ChoiceNet j ∷ l) at (nets_from k (a + 1) n)

module _ (bit : NetWord → Bool) where
  -- where a level is met, its nets have the bits that its pin picks
  level_picks : (pin : NetWord) (k n : ℕ) (values : List NetWord) → length values ≡ 2 * n → AreMet bit (halved pin k values) → map bit (choice_nets k n) ≡ picked (bit pin) (map bit values)
  level_picks pin k zero [] long met = refl
  level_picks pin k (suc n) [] long met = absurd (omega (arith, long))
  level_picks pin k n (v ∷ []) long met = absurd (omega (arith, long))
  level_picks pin k zero (low ∷ high ∷ values) long met = absurd (omega (arith, long))
  level_picks pin k (suc n) (low ∷ high ∷ values) long met =
      let first : k + 0 ≡ k = omega arith in
      let rest = halved pin (k + 1) values in
      ap₂ ◌∷◌ (ap (λ j. bit (ChoiceNet j)) first ∙ All-head (IsMet bit) (Assign (ChoiceNet k) pin high low) rest met)
      (ap (map bit) (nets_from k 0 n) ∙ level_picks pin (k + 1) n values (omega (arith, long)) (All-tail (IsMet bit) (Assign (ChoiceNet k) pin high low) rest met))

  one_value : (values : List NetWord) → length values ≡ 1 → (value : NetWord) × (values ≡ value ∷ []) × (bit value ≡ slice_index_or (map bit values) 0 false)
  one_value (v ∷ []) long = (v, refl, refl)
  one_value [] long = absurd (omega (arith, long))
  one_value (v ∷ w ∷ values) long = absurd (omega (arith, long))

  number_after_digits : NumbersDouble → (pin : NetWord) (pins : List NetWord) → number_of (map bit (reverse (pin ∷ pins))) ≡ 2 * number_of (map bit (reverse pins)) + (if bit pin then 1 else 0)
  number_after_digits double pin pins =
      ap (λ l. number_of (map bit l)) (reverse-append (pin ∷ []) pins) ∙ ap number_of (map-append bit (reverse pins) (pin ∷ [])) ∙ double (map bit (reverse pins)) (bit pin)

  chooses : NumbersDouble → (pins : List NetWord) (k : ℕ) (values : List NetWord) → length values ≡ 2 ^ length pins → AreMet bit (tree_lines pins k values)
      → (value : NetWord) × (tree_values pins k values ≡ value ∷ []) × (bit value ≡ slice_index_or (map bit values) (number_of (map bit (reverse pins))) false)
  chooses double [] k values long met = one_value values long
  chooses double (pin ∷ pins) k values long met =
      let n = length values / 2 in
      let twice : 2 ^ suc (length pins) ≡ 2 * 2 ^ length pins = omega arith in
      let half : n ≡ 2 ^ length pins = omega (arith, long, twice) in
      let even : length values ≡ 2 * n = omega (arith, long, twice, half) in
      let level = halved pin k values in
      let after = tree_lines pins (k + n) (choice_nets k n) in
      let nets : length (choice_nets k n) ≡ 2 ^ length pins = length-map (range_with_len 0 n) (λ i. ChoiceNet (k + i)) ∙ length-range_with_len 0 n ∙ half in
      let rest = chooses double pins (k + n) (choice_nets k n) nets (all_right (IsMet bit) level after met) in
      let m = number_of (map bit (reverse pins)) in
      let bits : length (map bit values) ≡ 2 * n = length-map values bit ∙ even in (
        rest.0,
        rest.1,
        rest.2 ∙ ap (λ l. slice_index_or l m false) (level_picks pin k n values even (all_left (IsMet bit) level after met))
            ∙ picked-at (bit pin) n (map bit values) m bits
            ∙ sym (ap (λ j. slice_index_or (map bit values) j false) (number_after_digits double pin pins)),
      )

  pub bits_are : ((b : Bool) → bit (Bit b) ≡ b) → (bits : List Bool) → map bit (map Bit bits) ≡ bits
  bits_are same [] = refl
  bits_are same (b ∷ bits) = ap₂ ◌∷◌ (same b) (bits_are same bits)

pub trees_choose : NumbersDouble → NumbersAreBelow → TreesChoose
trees_choose double below bit same t p number pins fit met =
    let long : length (map Bit (column t p)) ≡ 2 ^ length (reverse pins) = column-length t p ∙ ap (λ n. 2 ^ n) (sym (length-reverse pins ∙ fit)) in
    let found = chooses bit double (reverse pins) number (map Bit (column t p)) long met in
    let row = number_of (map bit pins) in
    let within : row < 2 ^ t.inputs = subst (λ n. row < 2 ^ n) (length-map pins bit ∙ fit) (below (map bit pins)) in (
      found.0,
      found.1,
      found.2 ∙ ap₂ (λ l q. slice_index_or l (number_of (map bit q)) false) (bits_are bit same (column t p)) (reverse-reverse pins)
          ∙ get_or-map-range_with_len (λ r. table_bit t r p) 0 (2 ^ t.inputs) row row false within (omega arith),
    )
