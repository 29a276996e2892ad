-- Moves of a word.
use Rattle.std.proofs.Common.{◌≡◌, ◌∙◌, ◌+◌, ◌-◌, ◌*◌, ◌<◌, ◌≤◌, ℕ, List, ◌++◌, length, take, drop, replicate, sym, ap, inl, inr, arith}
use Rattle.std.specs.Prelude.{min, All}
use Rattle.std.proofs.Math.Path.{ap₂}
use Rattle.std.proofs.Math.Nat.{mul-le-mul_left}
use Rattle.std.specs.Prelude.{◌^◌}
use Rattle.std.proofs.Math.Seq.{take-append-add}
use Rattle.std.proofs.lemmas.Bool.{cases_lt}
use Rattle.std.proofs.lemmas.List.{length-replicate, take-append-le, take-replicate, drop_all}
use Rattle.std.proofs.lemmas.List.Elements.{All-append, All-drop, All-replicate, All-take}
use Rattle.bb_word.specs.declared.shifts.Direction.{Direction}
use Rattle.bb_word.specs.declared.shifts.Direction.TheVariants as ways
use Rattle.bb_word.specs.Circuits.{up, down}
use Rattle.bb_word.specs.Inside.Moving.{move}
use Rattle.bb_word.specs.Laws.CountLaws.{length-up, length-down}

pub length-move : {A : Type 0} (d : Direction) (o : A) (n : ℕ) (xs : List A) → length (move d o n xs) ≡ length xs
length-move ways.Up o n xs = length-up o n xs
length-move ways.Down o n xs = length-down o n xs

-- a move past the width gives zeros
pub move-far : {A : Type 0} (d : Direction) (o : A) (n m : ℕ) (xs : List A) → m ≡ min n (length xs) → move d o n xs ≡ move d o m xs
move-far ways.Up o n m xs is = elim (cases_lt n (length xs)) [
  | inl within ↦ ap (λ k. up o k xs) (let e : n ≡ m = omega (arith, is) in e)
  | inr past ↦
      let at : m ≡ length xs = omega (arith, is) in
      let left = take-append-le (length xs) (replicate n o) xs (omega (arith, length-replicate n o)) ∙ take-replicate (length xs) n o past in
      let right = take-append-le (length xs) (replicate (length xs) o) xs (omega (arith, length-replicate (length xs) o)) ∙ take-replicate (length xs) (length xs) o (omega arith) in
      left ∙ sym right ∙ ap (λ k. up o k xs) (sym at)
]
move-far ways.Down o n m xs is = elim (cases_lt n (length xs)) [
  | inl within ↦ ap (λ k. down o k xs) (let e : n ≡ m = omega (arith, is) in e)
  | inr past ↦
      let e : min n (length xs) ≡ min m (length xs) = omega (arith, is) in
      ap₂ (λ a k. a ++ replicate k o) (drop_all n xs past ∙ sym (drop_all m xs (omega (arith, is)))) e
]

-- within the width it is zeros beside what stays
pub up-near : {A : Type 0} (o : A) (n : ℕ) (xs : List A) → n ≤ length xs → up o n xs ≡ replicate n o ++ take (length xs - n) xs
up-near o n xs near =
    let e : length xs ≡ length (replicate n o) + (length xs - n) = omega (arith, length-replicate n o) in
    ap (λ k. take k (replicate n o ++ xs)) e ∙ take-append-add (replicate n o) xs (length xs - n)

pub down-near : {A : Type 0} (o : A) (n : ℕ) (xs : List A) → n ≤ length xs → down o n xs ≡ drop n xs ++ replicate n o
down-near o n xs near = ap (λ k. drop n xs ++ replicate k o) (let e : min n (length xs) ≡ n = omega arith in e)

pub up-items : (n : ℕ) (xs ys : List ℕ) → n ≤ length xs → ys ≡ replicate n 0 ++ take (length xs - n) xs → ys ≡ up 0 n xs
up-items n xs ys near is = is ∙ sym (up-near 0 n xs near)

pub down-items : (n : ℕ) (xs ys : List ℕ) → n ≤ length xs → ys ≡ drop n xs ++ replicate n 0 → ys ≡ down 0 n xs
down-items n xs ys near is = is ∙ sym (down-near 0 n xs near)

pub ruleset near = (up-near, down-near)

-- there is room for one more stage
pub room_step : (i n w o : ℕ) → i < n → o + n * w < 2 ^ 32 → o + i * w + w < 2 ^ 32
room_step i n w o below room =
    let more : i + 1 ≤ n = omega arith in
    omega (arith, mul-le-mul_left w more)

pub All-move : (d : Direction) (n m : ℕ) (xs : List ℕ) → 0 < m → All (λ x. x < m) xs → All (λ x. x < m) (move d 0 n xs)
All-move ways.Up n m xs some all = All-take (λ x. x < m) (length xs) (replicate n 0 ++ xs) (All-append (λ x. x < m) (replicate n 0) xs (All-replicate (λ x. x < m) n 0 some) all)
All-move ways.Down n m xs some all = All-append (λ x. x < m) (drop n xs) (replicate (min n (length xs)) 0) (All-drop (λ x. x < m) n xs all) (All-replicate (λ x. x < m) (min n (length xs)) 0 some)
