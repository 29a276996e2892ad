-- A row that grows by a step, and the number of its steps.
use Rattle.std.proofs.Common.{◌≡◌, ℕ, zero, suc, ◌+◌, ◌-◌, ◌<◌, ◌≤◌, Bool, false, List, [], ◌∷◌, ◌++◌, length, map, take, get_or, refl, sym, ap, ap₂, ◌∙◌, subst, arith, length-append, append_assoc, append-nil}
use Rattle.std.specs.Prelude.{replicate, nat_le, if◌then◌else◌, ◌^◌}
use Rattle.std.specs.List.{range_with_len}
use Rattle.std.proofs.lemmas.List.{length-map, length-take-le, length-replicate, map_more, take_all, replicate_more, map_push}
use Rattle.std.proofs.lemmas.List.FromFn.{length-range_with_len}
use Rattle.bb_lemmas.proofs.Ranges.{range_last}
use Rattle.bb_bits.specs.Numbers.{bits_of}
use Rattle.bb_names.specs.declared.net.NetInfo.{NetInfo}
use Rattle.bb_expr.specs.declared.step.BitStep.{BitStep}
use Rattle.bb_expr.specs.declared.step.BitStep.TheVariants as steps
use Rattle.bb_expr.specs.Cells.{MadeTerms}
use Rattle.bb_expr.specs.Lists.{copies}
use Rattle.bb_expr.specs.Inside.Growing.{Adds, AddsRow, paired, widened}
use Rattle.bb_expr.proofs.AddLemmas.{adds-extended}
use Rattle.bb_expr.proofs.GateLemmas.{length-paired}

pub row-start : (old : List BitStep) → AddsRow [] old old []
row-start old = record { grows = sym (append-nil old); numbered = refl }

pub row-more : (rows old mid new : List BitStep) (places later : List ℕ) (step : BitStep) (place : ℕ) → AddsRow rows old mid places → new ≡ mid ++ step ∷ [] → place ≡ length mid → later ≡ places ++ place ∷ []
    → AddsRow (rows ++ step ∷ []) old new later
row-more rows old mid new places later step place row grows at more = record {
  grows = grows ∙ ap (λ l. l ++ step ∷ []) row.grows ∙ append_assoc old rows (step ∷ []);
  numbered = more ∙ ap₂ (λ a k. a ++ k ∷ []) row.numbered (at ∙ ap length row.grows ∙ length-append old rows) ∙ sym (range_last (length old) (length rows)) ∙ ap (range_with_len (length old)) (sym (length-append rows (step ∷ [])));
}

pub row-length : (rows old new : List BitStep) (places : List ℕ) → AddsRow rows old new places → length new ≡ length old + length rows
row-length rows old new places row = ap length row.grows ∙ length-append old rows

pub row-count : (rows old new : List BitStep) (places : List ℕ) → AddsRow rows old new places → length places ≡ length rows
row-count rows old new places row = ap length row.numbered ∙ length-range_with_len (length old) (length rows)

pub mapped-length : {X : Type 0} (f : X → BitStep) (xs : List X) (i : ℕ) (old new : List BitStep) (places : List ℕ) → i ≤ length xs → AddsRow (map f (take i xs)) old new places → length new ≡ length old + i
mapped-length f xs i old new places within row = row-length (map f (take i xs)) old new places row ∙ ap (λ n. length old + n) (length-map (take i xs) f ∙ length-take-le i xs within)

pub mapped-more : {X : Type 0} (f : X → BitStep) (xs : List X) (i : ℕ) (x : X) (old new : List BitStep) (places : List ℕ) → i < length xs → x ≡ get_or xs i x → AddsRow (map f (take i xs) ++ f x ∷ []) old new places
    → AddsRow (map f (take (i + 1) xs)) old new places
mapped-more f xs i x old new places within at row =
    subst (λ rows. AddsRow rows old new places) (sym (map_more f xs i x within ∙ ap (λ y. map f (take i xs) ++ f y ∷ []) (sym at))) row

pub mapped-all : {X : Type 0} (f : X → BitStep) (xs : List X) (i : ℕ) (old new : List BitStep) (places : List ℕ) → length xs ≤ i → AddsRow (map f (take i xs)) old new places → AddsRow (map f xs) old new places
mapped-all f xs i old new places past row = subst (λ ys. AddsRow (map f ys) old new places) (take_all i xs past) row

pub ranged-length : (f : ℕ → BitStep) (from n : ℕ) (old new : List BitStep) (places : List ℕ) → AddsRow (map f (range_with_len from n)) old new places → length new ≡ length old + n
ranged-length f from n old new places row = row-length (map f (range_with_len from n)) old new places row ∙ ap (λ k. length old + k) (length-map (range_with_len from n) f ∙ length-range_with_len from n)

pub ranged-more : (f : ℕ → BitStep) (from n : ℕ) (old new : List BitStep) (places : List ℕ) → AddsRow (map f (range_with_len from n) ++ f (from + n) ∷ []) old new places → AddsRow (map f (range_with_len from (n + 1))) old new places
ranged-more f from n old new places row = subst (λ rows. AddsRow rows old new places) (sym (ap (map f) (range_last from n) ∙ map_push f (range_with_len from n) (from + n))) row

pub repeated-length : (s : BitStep) (n : ℕ) (old new : List BitStep) (places : List ℕ) → AddsRow (replicate n s) old new places → length new ≡ length old + n
repeated-length s n old new places row = row-length (replicate n s) old new places row ∙ ap (λ k. length old + k) (length-replicate n s)

pub repeated-count : (s : BitStep) (n : ℕ) (old new : List BitStep) (places : List ℕ) → AddsRow (replicate n s) old new places → length places ≡ n
repeated-count s n old new places row = row-count (replicate n s) old new places row ∙ length-replicate n s

pub repeated-more : (s : BitStep) (n : ℕ) (old new : List BitStep) (places : List ℕ) → AddsRow (replicate n s ++ s ∷ []) old new places → AddsRow (replicate (n + 1) s) old new places
repeated-more s n old new places row = subst (λ rows. AddsRow rows old new places) (replicate_more n s) row

pub copies-more : (k : ℕ) (xs : List ℕ) → copies k xs ++ xs ≡ copies (k + 1) xs
copies-more zero xs = sym (append-nil xs)
copies-more (suc k) xs = append_assoc xs (copies k xs) xs ∙ ap (λ r. xs ++ r) (copies-more k xs) ∙ ap (λ n. copies n xs) (next k)
  where
    next : (k : ℕ) → suc (k + 1) ≡ suc k + 1
    next k = omega arith

-- the zeros before some bits
pub extended-made : (nets : List NetInfo) (m : MadeTerms) (old mid new : List BitStep) (bits places out : List ℕ) (w turn : ℕ) → Adds nets m old mid bits → AddsRow (replicate turn (steps.Const false)) mid new places
    → turn ≡ w - length bits → out ≡ places ++ bits → Adds nets (widened w m) old new out
extended-made nets m old mid new bits places out w turn x row count is =
    adds-extended nets m old mid new bits out w x (row.grows ∙ ap (λ n. mid ++ replicate n (steps.Const false)) count)
    (is ∙ ap (λ l. l ++ bits) (row.numbered ∙ ap (range_with_len (length mid)) (length-replicate turn (steps.Const false) ∙ count)))

-- one more bit of a number
pub number-more : (bits : List Bool) (turn rest left n : ℕ) (all : List Bool) → turn < n → bits ++ bits_of (n - turn) rest ≡ all → left ≡ (if nat_le (2 ^ (n - 1 - turn)) rest then rest - 2 ^ (n - 1 - turn) else rest)
    → (bits ++ nat_le (2 ^ (n - 1 - turn)) rest ∷ []) ++ bits_of (n - (turn + 1)) left ≡ all
number-more bits turn rest left n all within so_far is =
    append_assoc bits (nat_le (2 ^ (n - 1 - turn)) rest ∷ []) (bits_of (n - (turn + 1)) left)
    ∙ ap (λ r. bits ++ nat_le (2 ^ (n - 1 - turn)) rest ∷ r) (ap₂ bits_of (next n turn) is) ∙ ap (λ k. bits ++ bits_of k rest) (here n turn within) ∙ so_far
  where
    next : (n turn : ℕ) → n - (turn + 1) ≡ n - 1 - turn
    next n turn = omega arith

    here : (n turn : ℕ) → turn < n → suc (n - 1 - turn) ≡ n - turn
    here n turn within = omega (arith, within)

pub number-all : (bits : List Bool) (turn rest n : ℕ) (all : List Bool) → n ≤ turn → bits ++ bits_of (n - turn) rest ≡ all → bits ≡ all
number-all bits turn rest n all past so_far = sym (append-nil bits) ∙ ap (λ k. bits ++ bits_of k rest) (none n turn past) ∙ so_far
  where
    none : (n turn : ℕ) → n ≤ turn → 0 ≡ n - turn
    none n turn past = omega (arith, past)

-- one more pair
paired-more : (op : ℕ → ℕ → BitStep) (xs ys : List ℕ) (i x y : ℕ) → i < length xs → i < length ys → x ≡ get_or xs i x → y ≡ get_or ys i y → paired op (take (i + 1) xs) (take (i + 1) ys) ≡ paired op (take i xs) (take i ys) ++ op x y ∷ []
paired-more op [] ys i x y lx ly ax ay = absurd (omega (arith, lx))
paired-more op (u ∷ xs) [] i x y lx ly ax ay = absurd (omega (arith, ly))
paired-more op (u ∷ xs) (v ∷ ys) zero x y lx ly ax ay = ap₂ (λ a b. op a b ∷ []) (sym ax) (sym ay)
paired-more op (u ∷ xs) (v ∷ ys) (suc i) x y lx ly ax ay =
    ap₂ (paired op) (ap (λ n. take n (u ∷ xs)) (next i)) (ap (λ n. take n (v ∷ ys)) (next i))
    ∙ ap (λ r. op u v ∷ r) (paired-more op xs ys i x y (omega (arith, lx)) (omega (arith, ly)) ax ay)
  where
    next : (i : ℕ) → suc i + 1 ≡ suc (i + 1)
    next i = omega arith

pub pairs-more : (op : ℕ → ℕ → BitStep) (xs ys : List ℕ) (i x y : ℕ) (old new : List BitStep) (places : List ℕ) → i < length xs → i < length ys → x ≡ get_or xs i x → y ≡ get_or ys i y
    → AddsRow (paired op (take i xs) (take i ys) ++ op x y ∷ []) old new places → AddsRow (paired op (take (i + 1) xs) (take (i + 1) ys)) old new places
pairs-more op xs ys i x y old new places lx ly ax ay row = subst (λ rows. AddsRow rows old new places) (sym (paired-more op xs ys i x y lx ly ax ay)) row

pub pairs-length : (op : ℕ → ℕ → BitStep) (xs ys : List ℕ) (i : ℕ) (old new : List BitStep) (places : List ℕ) → i ≤ length xs → i ≤ length ys → AddsRow (paired op (take i xs) (take i ys)) old new places → length new ≡ length old + i
pairs-length op xs ys i old new places lx ly row =
    row-length (paired op (take i xs) (take i ys)) old new places row ∙ ap (λ n. length old + n) (length-paired op i (take i xs) (take i ys) (length-take-le i xs lx) (length-take-le i ys ly))

pub pairs-all : (op : ℕ → ℕ → BitStep) (xs ys : List ℕ) (i : ℕ) (old new : List BitStep) (places : List ℕ) → length xs ≤ i → length ys ≤ i → AddsRow (paired op (take i xs) (take i ys)) old new places → AddsRow (paired op xs ys) old new places
pairs-all op xs ys i old new places px py row = subst (λ rows. AddsRow rows old new places) (ap₂ (paired op) (take_all i xs px) (take_all i ys py)) row

pub ranged-count : (f : ℕ → BitStep) (from n : ℕ) (old new : List BitStep) (places : List ℕ) → AddsRow (map f (range_with_len from n)) old new places → length places ≡ n
ranged-count f from n old new places row = row-count (map f (range_with_len from n)) old new places row ∙ length-map (range_with_len from n) f ∙ length-range_with_len from n

pub all-mapped-length : {X : Type 0} (f : X → BitStep) (xs : List X) (old new : List BitStep) (places : List ℕ) → AddsRow (map f xs) old new places → (length new ≡ length old + length xs) × (length places ≡ length xs)
all-mapped-length f xs old new places row =
    (row-length (map f xs) old new places row ∙ ap (λ n. length old + n) (length-map xs f), row-count (map f xs) old new places row ∙ length-map xs f)
