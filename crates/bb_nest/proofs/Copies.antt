-- Bits written in place: those of readers, and those of a number.
use Rattle.std.proofs.Common.{◌≡◌, ◌<◌, ◌≤◌, ℕ, zero, suc, ◌+◌, ◌-◌, ◌*◌, ◌^◌, ◌/◌, ◌%◌, Bool, true, false, List, [], ◌∷◌, ◌++◌, length, map, take, drop, get_or, slice_index, nat_eq, if◌then◌else◌, refl, sym, ap, ap₂, ◌∙◌, arith, append_assoc, length-take, length-drop, get_or-drop, pow-suc}
use Rattle.std.specs.Prelude.{slice_set}
use Rattle.std.proofs.lemmas.List.{drop_more, drop-set, get_or-append_right, length-map, map_more, set_at}
use Rattle.bb_bits.specs.Numbers.{number_of}
use Rattle.bb_net.specs.Values.{bit_of}

-- one more bit of a reader
module _ (readers : List ℕ) (old : List Bool) (fit : length readers ≤ length old) where
  abbrev read : ℕ → Bool
  read p = bit_of old (length readers + p)

  pub copy_more : (now : List Bool) (q : ℕ) → q < length readers → now ≡ map read (take q readers) ++ drop q old →
      slice_set now q (get_or now (length readers + slice_index readers q) false) ≡ map read (take (q + 1) readers) ++ drop (q + 1) old
  copy_more now q l so_far =
      let prefix = map read (take q readers) in
      let p = slice_index readers q in
      let count : length prefix ≡ q = length-map (take q readers) read ∙ (let h : length (take q readers) ≡ q = omega (arith, length-take q readers, l) in h) in
      let bit : get_or now (length readers + p) false ≡ read p =
      ap (λ (v : List Bool). get_or v (length readers + p) false) so_far
      ∙ (get_or-append_right prefix (drop q old) q (length readers + p) false count (omega (arith, l))
      ∙ (get_or-drop q old ((length readers + p) - q) false ∙ ap (bit_of old) (let h : q + ((length readers + p) - q) ≡ length readers + p = omega (arith, l) in h))) in
      ap₂ (λ (v : List Bool) b. slice_set v q b) (so_far ∙ ap (λ (v : List Bool). prefix ++ v) (drop_more old q false (omega (arith, l, fit)))) bit
      ∙ (set_at prefix (get_or old q false) (drop (q + 1) old) (read p) q count
      ∙ (sym (append_assoc prefix (read p ∷ []) (drop (q + 1) old)) ∙ ap (λ (v : List Bool). v ++ drop (q + 1) old) (sym (map_more read readers q 0 l))))

-- one more bit of a number
halved : (left : ℕ) → left ≡ 2 * (left / 2) + left % 2
halved left = omega arith

last_bit : (left h p k : ℕ) (b : Bool) → b ≡ nat_eq (left % 2) 1 → left ≡ 2 * h + left % 2 → left % 2 < 2 → h * (2 * p) + (if b then p + k else k) ≡ left * p + k
last_bit left h p k true e f g = let one : left % 2 ≡ 1 = grind (arith, e) in let is : left ≡ 2 * h + 1 = omega (arith, f, one) in ap (λ j. h * (2 * p) + j) refl ∙ (let step : h * (2 * p) + (p + k) ≡ (2 * h + 1) * p + k = grind arith in step ∙ ap (λ j. j * p + k) (sym is))
last_bit left h p k false e f g = let none : left % 2 ≡ 0 = grind (arith, e, g) in let is : left ≡ 2 * h = omega (arith, f, none) in (let step : h * (2 * p) + k ≡ (2 * h) * p + k = grind arith in step ∙ ap (λ j. j * p + k) (sym is))

pub spell_more : (bits : List Bool) (i n left number : ℕ) → 0 < i → i ≤ n → length bits ≡ n → left * 2 ^ (n - i) + number_of (drop i bits) ≡ number →
    left / 2 * 2 ^ (n - (i - 1)) + number_of (drop (i - 1) (slice_set bits (i - 1) (nat_eq (left % 2) 1))) ≡ number
spell_more bits i n left number some within long so_far =
    let j = i - 1 in
    let b = nat_eq (left % 2) 1 in
    let rest = drop i bits in
    let wide : length rest ≡ n - i = omega (arith, length-drop i bits, long) in
    let after : drop j (slice_set bits j b) ≡ b ∷ rest = drop-set bits j b (omega (arith, some, within, long)) ∙ ap (λ k. b ∷ drop k bits) (let h : j + 1 ≡ i = omega (arith, some) in h) in
    let power : 2 ^ (n - j) ≡ 2 * 2 ^ (n - i) = ap (λ k. 2 ^ k) (let h : n - j ≡ suc (n - i) = omega (arith, some, within) in h) ∙ (pow-suc 2 (n - i) ∙ (let h : 2 ^ (n - i) * 2 ≡ 2 * 2 ^ (n - i) = omega arith in h)) in
    let spelled : number_of (b ∷ rest) ≡ (if b then 2 ^ (n - i) + number_of rest else number_of rest) = ap (λ k. if b then 2 ^ k + number_of rest else number_of rest) wide in
    ap₂ (λ x y. left / 2 * x + y) power (ap number_of after ∙ spelled) ∙ (last_bit left (left / 2) (2 ^ (n - i)) (number_of rest) b refl (halved left) (omega arith) ∙ so_far)

pub spelled_whole : (left p k number : ℕ) → left * p + k ≡ number → number < p → k ≡ number
spelled_whole zero p k number e l = grind (arith, e)
spelled_whole (suc left) p k number e l = absurd (let more : p ≤ suc left * p = grind arith in omega (arith, e, l, more))
