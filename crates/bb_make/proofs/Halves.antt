-- The stage in the middle, the stages before it and those after it.
use Rattle.std.proofs.Common.{◌≡◌, ◌≢◌, ◌∙◌, ◌≤◌, ◌<◌, ◌==◌, ℕ, zero, suc, ◌+◌, ◌-◌, ◌/◌, Bool, true, false, if◌then◌else◌, List, ◌∷◌, ◌++◌, append_assoc, Some, codes, refl, ap, sym, arith}
use Rattle.std.proofs.lemmas.Grind.{common_steps}
use Rattle.std.specs.List.{flat_map, range_with_len}
use Rattle.std.proofs.lemmas.List.Concat.{flat_map-append}
use Rattle.bb_make.specs.Adders.{adder, cell, end_line, full_adder, header, hole, inputs, made_spec, adder_outputs, stage_line}
use Rattle.bb_make.specs.Laws.{AreOneWordApart, MadePairsAreOneWordApart}

range-plus : (a m k : ℕ) → range_with_len a (m + k) ≡ range_with_len a m ++ range_with_len (a + m) k
range-plus a zero k =
    let none : 0 + k ≡ k = omega arith in
    let e : a + 0 ≡ a = omega arith in
    ap (range_with_len a) none ∙ ap (λ b. range_with_len b k) (sym e)
range-plus a (suc m) k =
    let one : suc m + k ≡ suc (m + k) = omega arith in
    let e : a + 1 + m ≡ a + suc m = omega arith in
    ap (range_with_len a) one ∙ ap (λ l. a ∷ l) (range-plus (a + 1) m k ∙ ap (λ b. range_with_len (a + 1) m ++ range_with_len b k) e)

-- lines that are the same at each of these places
same_lines : (f g : ℕ → List ℕ) (a m : ℕ) → ((i : ℕ) → a ≤ i → i < a + m → f i ≡ g i) → flat_map f (range_with_len a m) ≡ flat_map g (range_with_len a m)
same_lines f g a zero same = refl
same_lines f g a (suc m) same =
    ap (λ t. t ++ flat_map f (range_with_len (a + 1) m)) (same a (omega arith) (omega arith))
    ∙ ap (λ t. g a ++ t) (same_lines f g (a + 1) m (λ i low high. same i (omega (arith, low)) (omega (arith, high))))

-- the lines before a stage, its own and those after it
parted : (f : ℕ → List ℕ) (k m : ℕ) → flat_map f (range_with_len 0 (k + suc m)) ≡ flat_map f (range_with_len 0 k) ++ f k ++ flat_map f (range_with_len (k + 1) m)
parted f k m =
    let e : 0 + k ≡ k = omega arith in
    ap (flat_map f) (range-plus 0 k (suc m) ∙ ap (λ b. range_with_len 0 k ++ range_with_len b (suc m)) e)
    ∙ flat_map-append f (range_with_len 0 k) (k ∷ range_with_len (k + 1) m)
    ∙ sym (append_assoc (flat_map f (range_with_len 0 k)) (f k) (flat_map f (range_with_len (k + 1) m)))

other_cell : (k i : ℕ) → i ≢ k → cell (Some k) i ≡ codes "fa"
other_cell k i differ = by (i == k) refl
  where
    by : (b : Bool) → (i == k) ≡ b → (if b then codes "hole" else codes "fa") ≡ codes "fa"
    by false e = refl
    by true e = absurd (differ (grind (arith, e)))

own_cell : (k : ℕ) → cell (Some k) k ≡ codes "hole"
own_cell k = let e : (k == k) ≡ true = grind arith in rw e refl

module _ (n k m : ℕ) (long : n ≡ k + suc m) where
  abbrev top : List ℕ
  top = header (codes "add") (inputs n) (adder_outputs n)

  abbrev full : ℕ → List ℕ
  full i = stage_line (codes "fa") n i

  abbrev gapped : ℕ → List ℕ
  gapped i = stage_line (cell (Some k) i) n i

  abbrev first : List ℕ
  first = flat_map full (range_with_len 0 k)

  abbrev last : List ℕ
  last = flat_map full (range_with_len (k + 1) m)

  spec_lines : flat_map full (range_with_len 0 n) ≡ first ++ full k ++ last
  spec_lines = ap (λ j. flat_map full (range_with_len 0 j)) long ∙ parted full k m

  imp_lines : flat_map gapped (range_with_len 0 n) ≡ first ++ stage_line (codes "hole") n k ++ last
  imp_lines =
      ap (λ j. flat_map gapped (range_with_len 0 j)) long ∙ parted gapped k m
      ∙ ap (λ t. t ++ gapped k ++ flat_map gapped (range_with_len (k + 1) m))
      (same_lines gapped full 0 k (λ i low high. ap (λ c. stage_line c n i) (other_cell k i (λ e. absurd (omega (arith, e, high))))))
      ∙ ap (λ t. first ++ gapped k ++ t)
      (same_lines gapped full (k + 1) m (λ i low high. ap (λ c. stage_line c n i) (other_cell k i (λ e. absurd (omega (arith, e, low))))))
      ∙ ap (λ c. first ++ stage_line c n k ++ last) (own_cell k)

  abbrev before : List ℕ
  before = top ++ first

  abbrev after : List ℕ
  after = last ++ end_line ++ full_adder

  around : (line : List ℕ) → top ++ (first ++ line ++ last) ++ end_line ++ full_adder ≡ before ++ line ++ after
  around line = shape top first line last end_line full_adder
    where
      shape : (a b c d e f : List ℕ) → a ++ (b ++ c ++ d) ++ e ++ f ≡ (a ++ b) ++ c ++ (d ++ e ++ f)
      shape a b c d e f = grind (arith, common_steps)

  spec_text : made_spec n ≡ before ++ full k ++ after
  spec_text = ap (λ t. top ++ t ++ end_line ++ full_adder) spec_lines ∙ around (full k)

  imp_text : adder (Some k) n ≡ before ++ stage_line (codes "hole") n k ++ after
  imp_text = ap (λ t. top ++ t ++ end_line ++ full_adder) imp_lines ∙ around (stage_line (codes "hole") n k)

  apart : k ≡ n / 2 → AreOneWordApart n
  apart half = record {
    before = before;
    after = after;
    spec = spec_text ∙ ap (λ j. before ++ full j ++ after) half;
    imp =
        ap (λ j. adder (Some j) n ++ hole) (sym half) ∙ ap (λ t. t ++ hole) imp_text
        ∙ ap (λ j. before ++ stage_line (codes "hole") n j ++ after ++ hole) half;
  }

pub one_word_apart : MadePairsAreOneWordApart
one_word_apart n some = apart n (n / 2) (n - n / 2 - 1) (omega (arith, some)) refl
