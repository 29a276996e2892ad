-- The circuits of the word operators, over any gates. Operands and results go from the least significant bit upwards. The cells
-- are listed in the order in which they are made.
use Rattle.std.specs.Prelude.{ℕ, ◌+◌, min, List, [], ◌∷◌, ◌++◌, map, length, reverse, take, drop, replicate}
use Rattle.bb_word.specs.Gates.{Gates, Made, after, above}

-- one complement per bit
abbrev pub complements : {A : Type 0} → Gates A → List A → List A
complements g xs = map g.inverse xs

-- the sum with a carry that comes in: per bit p = a xor b, s = p xor c, x = a and b, y = p and c, and the next carry is x or y
abbrev pub sum : {A : Type 0} → Gates A → A → List A → List A → Made A
sum g c [] ys = record { bits = []; cells = [] }
sum g c (a ∷ xs) [] = record { bits = []; cells = [] }
sum g c (a ∷ xs) (b ∷ ys) =
    let p = g.differ a b in
    let s = g.differ p c in
    let x = g.both a b in
    let y = g.both p c in
    let next = g.either x y in
    above s (p ∷ s ∷ x ∷ y ∷ next ∷ []) (sum g next xs ys)

-- the difference: the complements of the right operand, and a sum with a carry of 1
abbrev pub difference : {A : Type 0} → Gates A → List A → List A → Made A
difference g xs ys = after (complements g ys) (sum g g.one xs (complements g ys))

-- where the bits are equal: per bit a xor b, and its complement
abbrev pub equal_bits : {A : Type 0} → Gates A → List A → List A → Made A
equal_bits g [] ys = record { bits = []; cells = [] }
equal_bits g (a ∷ xs) [] = record { bits = []; cells = [] }
equal_bits g (a ∷ xs) (b ∷ ys) = above (g.inverse (g.differ a b)) (g.differ a b ∷ g.inverse (g.differ a b) ∷ []) (equal_bits g xs ys)

-- a gate between the result so far and each further bit
abbrev pub accumulated : {A : Type 0} → (A → A → A) → A → List A → Made A
accumulated op so_far [] = record { bits = so_far ∷ []; cells = [] }
accumulated op so_far (x ∷ xs) = after (op so_far x ∷ []) (accumulated op (op so_far x) xs)

-- the same over all bits of a list in its order; of no bits it gives this one
abbrev pub joined_all : {A : Type 0} → (A → A → A) → A → List A → Made A
joined_all op none [] = record { bits = none ∷ []; cells = [] }
joined_all op none (x ∷ xs) = accumulated op x xs

-- a gate over all bits, from the most significant one on
abbrev pub folded : {A : Type 0} → (A → A → A) → A → List A → Made A
folded op none xs = joined_all op none (reverse xs)

-- and then a complement
abbrev pub inverted : {A : Type 0} → Gates A → Made A → Made A
inverted g made = record { bits = complements g made.bits; cells = made.cells ++ complements g made.bits }

-- whether the words are equal
abbrev pub equal : {A : Type 0} → Gates A → List A → List A → Made A
equal g xs ys = after (equal_bits g xs ys).cells (folded g.both g.one (equal_bits g xs ys).bits)

-- whether the left word is less, where so_far is the result for the bits below: where two bits differ, the right one
-- decides
abbrev pub less : {A : Type 0} → Gates A → A → List A → List A → Made A
less g so_far [] ys = record { bits = so_far ∷ []; cells = [] }
less g so_far (a ∷ xs) [] = record { bits = so_far ∷ []; cells = [] }
less g so_far (a ∷ xs) (b ∷ ys) =
    let d = g.differ a b in
    let next = g.choice d b so_far in
    after (d ∷ next ∷ []) (less g next xs ys)

-- each bit of the first list where c is 1, else that of the second
abbrev pub choices : {A : Type 0} → Gates A → A → List A → List A → List A
choices g c [] es = []
choices g c (t ∷ ts) [] = []
choices g c (t ∷ ts) (e ∷ es) = g.choice c t e ∷ choices g c ts es

-- each bit moved n places up, or down, with zeros coming in; what leaves the width is lost
abbrev pub up : {A : Type 0} → A → ℕ → List A → List A
up zero n xs = take (length xs) (replicate n zero ++ xs)

abbrev pub down : {A : Type 0} → A → ℕ → List A → List A
down zero n xs = drop n xs ++ replicate (min n (length xs)) zero

-- a shift by stages: the first bit of the amount moves by n places, and each further one by twice as many
abbrev pub shifted : {A : Type 0} → Gates A → (ℕ → List A → List A) → ℕ → List A → List A → Made A
shifted g move n [] xs = record { bits = xs; cells = [] }
shifted g move n (s ∷ amount) xs =
    let stage = choices g s (move n xs) xs in
    after stage (shifted g move (n + n) amount stage)

-- a gate of "some bit of the left word is 1" and the same of the right word
abbrev pub truths : {A : Type 0} → Gates A → (A → A → A) → List A → List A → Made A
truths g op xs ys =
    let left = folded g.either g.zero xs in
    let right = folded g.either g.zero ys in
    after (left.cells ++ right.cells) (joined_all op g.zero (left.bits ++ right.bits))
