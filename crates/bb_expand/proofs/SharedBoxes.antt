-- Boxes and the first boxes of their kinds.
use Rattle.std.proofs.Common.{◌≡◌, ◌≢◌, ℕ, ◌+◌, ◌*◌, ◌^◌, ◌<◌, ◌≤◌, List, ◌∷◌, ◌++◌, length, take, inl, inr, map, get_or, All, [], sym, ap, ◌∙◌, subst, arith}
use Rattle.std.specs.Prelude.{AllPairs, Contains, slice_index}
use Rattle.std.specs.List.{range_with_len}
use Rattle.std.proofs.lemmas.Bool.{cases_eq}
use Rattle.std.proofs.lemmas.List.{get_or-map, get_or_append_left, get_or_default, length-map}
use Rattle.std.proofs.lemmas.List.Elements.{All-contains, All-get_or}
use Rattle.std.proofs.lemmas.List.FromFn.{length-map-range_with_len, get_or-map-range_with_len}
use Rattle.bb_lemmas.proofs.Apart.{at_most_as_many}
use Rattle.bb_net.specs.Completions.{table_bits}
use Rattle.bb_net.specs.Kinds.{FitKinds, representatives}
use Rattle.bb_net.specs.Netlists.{Pins, box_at}
use Rattle.bb_expand.specs.Inside.LawsBelow.{Sharing}
use Rattle.bb_expand.proofs.BoxesThere.{box_there}
use Rattle.bb_expand.proofs.Pushed.{last_of}
use Rattle.bb_expand.proofs.RowLemmas.{bits_fit, bits_more, box_read}

module _ (sharing : Sharing) (kinds : List ℕ) (boxes : List Pins) (fits : FitKinds kinds boxes) where
  -- the kind of a box is shown, with as many pins
  pub kind_shown : (b : ℕ) → b < length boxes → slice_index kinds b < length (representatives kinds boxes)
  kind_shown b there = (sharing.count kinds boxes (slice_index kinds b) fits.ordered (sym fits.count)).1 (b, omega (arith, there, fits.count), get_or_default kinds b (slice_index kinds b) 0 (omega (arith, there, fits.count)))

  pub pin_shown : (b p : ℕ) → p < length (box_at boxes b).outs → p < length (box_at (representatives kinds boxes) (slice_index kinds b)).outs
  pin_shown b p has = omega (arith, has, sharing.outputs kinds boxes b fits (box_there boxes b p has))

  pub row_shown : (b row : ℕ) → b < length boxes → row < 2 ^ length (box_at boxes b).ins → row < 2 ^ length (box_at (representatives kinds boxes) (slice_index kinds b)).ins
  row_shown b row there below = subst (λ n. row < 2 ^ n) (sym (sharing.inputs kinds boxes b fits there)) below

  -- no more boxes are shown than there are
  pub few_shown : length (representatives kinds boxes) ≤ length boxes
  few_shown =
      let n = length (representatives kinds boxes) in
      let numbers : List ℕ = map (λ k. k) (range_with_len 0 n) in
      let long : length numbers ≡ n = length-map-range_with_len (λ k. k) 0 n in
      let is : (k d : ℕ) → k < length numbers → get_or numbers k d ≡ k = λ k d h. get_or-map-range_with_len (λ (k : ℕ). k) 0 n k k d (omega (arith, h, long)) (omega arith) in
      let apart : AllPairs ◌≢◌ numbers = λ i j d less within same. absurd (omega (arith, less, sym (is i d (omega (arith, less, within))) ∙ (same ∙ is j d within))) in
      let among : All (Contains kinds) numbers = λ k d h. subst (Contains kinds) (sym (is k d h)) ((sharing.count kinds boxes k fits.ordered (sym fits.count)).0 (omega (arith, h, long))) in
      omega (arith, long, at_most_as_many numbers kinds apart (λ x has. All-contains (Contains kinds) numbers x among has), fits.count)

-- the box at a place of a list of boxes by their numbers, and the bits of the tables before it
module _ (boxes : List Pins) (numbers : List ℕ) (inside : All (λ n. n < length boxes) numbers) (k : ℕ) (there : k < length numbers) (pins : Pins) (read : pins ≡ get_or boxes (slice_index numbers k) pins) where
  abbrev listed : List Pins
  listed = map (box_at boxes) numbers

  abbrev none : Pins
  none = record { ins = []; outs = [] }

  pub place_listed : k < length listed
  place_listed = omega (arith, there, length-map numbers (box_at boxes))

  pub box_listed : pins ≡ box_at listed k
  box_listed = box_read boxes (slice_index numbers k) pins (All-get_or (λ n. n < length boxes) numbers k 0 there inside) read ∙ sym (get_or-map (box_at boxes) numbers k 0 none there)

  same_bits : length (box_at listed k).outs * 2 ^ length (box_at listed k).ins ≡ length pins.outs * 2 ^ length pins.ins
  same_bits = sym (ap (λ (q : Pins). length q.outs * 2 ^ length q.ins) box_listed)

  pub bits_listed : table_bits (take (k + 1) listed) ≡ table_bits (take k listed) + length pins.outs * 2 ^ length pins.ins
  bits_listed = bits_more listed k none place_listed ∙ ap (λ n. table_bits (take k listed) + n) same_bits

  pub bits_inside : table_bits (take k listed) + length pins.outs * 2 ^ length pins.ins ≤ table_bits listed
  bits_inside = omega (arith, bits_fit listed k none place_listed, same_bits)

-- where the bits of one table more begin
pub starts_more : (listed : List Pins) (starts new : List ℕ) (k start : ℕ) → length starts ≡ k → new ≡ starts ++ start ∷ [] → start ≡ table_bits (take k listed)
    → ((b : ℕ) → b < k → get_or starts b 0 ≡ table_bits (take b listed)) → (b : ℕ) → b < k + 1 → get_or new b 0 ≡ table_bits (take b listed)
starts_more listed starts new k start long is at before b less = ap (λ l. get_or l b 0) is ∙ elim (cases_eq b k) [
  | inl e ↦ ap (λ n. get_or (starts ++ start ∷ []) n 0) (e ∙ sym long) ∙ (last_of starts start 0 ∙ (at ∙ ap (λ n. table_bits (take n listed)) (sym e)))
  | inr ne ↦ get_or_append_left starts (start ∷ []) 0 b (omega (arith, less, ne, long)) ∙ before b (omega (arith, less, ne))
]
