-- Places of a list of cells have different numbers.
use Rattle.std.proofs.Common.{◌≡◌, ◌⊎◌, ℕ, zero, suc, ◌+◌, ◌<◌, ◌==◌, false, List, [], ◌∷◌, map, length, Contains, sym, ap, ◌∙◌, inl, inr, arith}
use Rattle.std.specs.List.{AllByRecursion, IsDistinct, range_with_len}
use Rattle.std.proofs.lemmas.List.Sorted.{IsPermutation-sym}
use Rattle.std.proofs.lemmas.Map.Keys.{IsDistinct-IsPermutation}
use Rattle.bb_net.specs.declared.loose.LooseCell.{LooseCell}
use Rattle.bb_net.specs.Loose.{LooseList}
use Rattle.bb_design.specs.Hierarchy.{Design}
use Rattle.bb_implements.specs.Places.{CellName, Lowering, placed_cells, IsListOf}
use Rattle.bb_lemmas.proofs.Members.{each_of, contains-map, contains_cases, none_in_nil}
use Rattle.bb_implements.proofs.ListedPlaces.{IsListed}

not_same : (a b : ℕ) → a < b → (a == b) ≡ false
not_same a b lt = grind (arith, lt)

pub flips : (a b : ℕ) → (a == b) ≡ (b == a)
flips a b = grind arith

above : (a b n : ℕ) → a < b → AllByRecursion (λ y. (a == y) ≡ false) (range_with_len b n)
above a b zero lt = tt
above a b (suc n) lt = (not_same a b lt, above a (b + 1) n (omega (arith, lt)))

pub range_distinct : (a n : ℕ) → IsDistinct ◌==◌ (range_with_len a n)
unfolding IsDistinct
range_distinct a zero = tt
range_distinct a (suc n) = (above a (a + 1) n (omega arith), range_distinct (a + 1) n)

-- where numbers differ, elements of one number are one
one_element : {A : Type 0} (number : A → ℕ) (xs : List A) → IsDistinct ◌==◌ (map number xs) → (x y : A) → Contains xs x → Contains xs y → number x ≡ number y → x ≡ y
unfolding IsDistinct
one_element number [] apart x y p q same = absurd (none_in_nil x p)
one_element number (z ∷ zs) apart x y p q same = by (contains_cases z zs x p) (contains_cases z zs y q) (λ a b. one_element number zs apart.1 x y a b same)
  where
    clash : (u : _) → Contains zs u → number z ≡ number u → ⊥
    clash u has e = let off : (number z == number u) ≡ false = each_of (λ k. (number z == k) ≡ false) (map number zs) apart.0 (number u) (contains-map number zs u has) in grind (arith, off, e)

    by : (z ≡ x) ⊎ Contains zs x → (z ≡ y) ⊎ Contains zs y → (Contains zs x → Contains zs y → x ≡ y) → x ≡ y
    by (inl a) (inl b) rest = sym a ∙ b
    by (inl a) (inr b) rest = absurd (clash y b (ap number a ∙ same))
    by (inr a) (inl b) rest = absurd (clash x a (ap number b ∙ sym same))
    by (inr a) (inr b) rest = rest a b

module _ (d : Design) (lowering : Lowering) (l : LooseList) (list : IsListOf d lowering l) where
  abbrev number_of : CellName × LooseCell → ℕ
  number_of x = list.number x.0

  -- no two places have one number
  pub numbers_apart : IsDistinct ◌==◌ (map number_of (placed_cells d lowering list.number))
  numbers_apart =
      let all = map number_of (placed_cells d lowering list.number) in
      let range = range_with_len 0 (length l.cells) in
      IsDistinct-IsPermutation ◌==◌ flips range all (IsPermutation-sym all range list.numbers) (range_distinct 0 (length l.cells))

  pub one_place_listed : (p q : CellName) (u v : LooseCell) → IsListed d lowering l list p u → IsListed d lowering l list q v → list.number p ≡ list.number q → p ≡ q
  one_place_listed p q u v a b same = ap (λ (x : CellName × LooseCell). x.0) (one_element number_of (placed_cells d lowering list.number) numbers_apart (p, u) (q, v) a b same)
