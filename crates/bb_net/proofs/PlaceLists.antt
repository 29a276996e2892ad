-- Lists of places: how many distinct ones there are below a bound, and walks of dependence.
use Rattle.std.proofs.Common.{◌≡◌, ◌≢◌, ℕ, ◌+◌, ◌-◌, ◌<◌, ◌≤◌, ◌⊎◌, zero, suc, List, [], ◌∷◌, length, map, get_or, refl, sym, ap, subst, ◌∙◌, inl, inr, arith, eqb}
use Rattle.std.specs.Prelude.{All, AllPairs, Contains}
use Rattle.std.specs.List.{range_with_len}
use Rattle.std.proofs.lemmas.Bool.{cases_eq, cases_lt, eqb-true, eq-eqb}
use Rattle.std.proofs.lemmas.Bool.Decides.{Decides-eqb}
use Rattle.std.proofs.lemmas.List.Folds.{list_any_at}
use Rattle.std.proofs.lemmas.List.FromFn.{length-map-range_with_len, get_or-map-range_with_len}
use Rattle.std.proofs.lemmas.Map.Steps.{length-le_from_distinct_below, le-length_from_below}
use Rattle.std.proofs.lemmas.Map.Made.{IsDistinct-from_AllPairs}
use Rattle.std.proofs.lemmas.Map.Views.{Contains-from_any}
use Rattle.std.proofs.lemmas.List.{get_or_past}
use Rattle.bb_net.specs.declared.loose.LooseCell.{LooseCell}
use Rattle.bb_net.specs.declared.loose.LooseCell.TheVariants.{BoxOut}
use Rattle.bb_net.specs.Netlists.{Pins}
use Rattle.bb_net.specs.Loose.{LooseList, loose_at, operand_places, IsLoose, Reaches, IsOnClosedWalk}
use Rattle.bb_net.proofs.Finite.{below_or_one}

-- distinct numbers below a bound are no more than the bound
pub length-le_from_apart : (xs : List ℕ) (n : ℕ) → AllPairs ◌≢◌ xs → ((q : ℕ) → Contains xs q → q < n) → length xs ≤ n
length-le_from_apart xs n apart below =
    length-le_from_distinct_below xs n (IsDistinct-from_AllPairs Decides-eqb xs apart) (λ q has. below q (Contains-from_any (λ a b e. eqb-true a b e) q xs has))

-- a list with each number below a bound is no shorter than the bound
pub le-length_from_all : (xs : List ℕ) (n : ℕ) → ((q : ℕ) → q < n → Contains xs q) → n ≤ length xs
le-length_from_all xs n all = le-length_from_below xs n (λ q h.
    let has = all q h in
    list_any_at (eqb q) xs has.0 q has.1 (eq-eqb q (get_or xs has.0 q) (sym has.2)))

pub Contains-one : (p k : ℕ) → Contains (p ∷ []) k → p ≡ k
Contains-one p k has = at has.0 has.1 has.2
  where
    at : (i : ℕ) → i < 1 → get_or (p ∷ []) i k ≡ k → p ≡ k
    at zero h e = e
    at (suc i) h e = absurd (omega arith)

pub Contains-none : {P : Type 0} (k : ℕ) → Contains [] k → P
Contains-none k has = let never : has.0 < 0 = has.1 in absurd (omega (arith, never))

-- one step more at the end of a walk
pub Reaches-push : (n : ℕ) (l : LooseList) (from to next : ℕ) → Reaches n l from to → Contains (operand_places l.boxes (loose_at l to)) next → Reaches (suc n) l from next
Reaches-push zero l from to next e has = (next, subst (λ k. Contains (operand_places l.boxes (loose_at l k)) next) (sym e) has, refl)
Reaches-push (suc n) l from to next h has = (h.0, h.1, Reaches-push n l h.0 to next h.2 has)

-- the next place with a property, which an operand of each place with it has too
abbrev Steps : LooseList → (ℕ → Type 0) → Type 0
Steps l P = (k : ℕ) → P k → (a : ℕ) × Contains (operand_places l.boxes (loose_at l k)) a × P a

-- the places of a walk among those with the property
path : (l : LooseList) (P : ℕ → Type 0) → Steps l P → (start : ℕ) → P start → ℕ → (k : ℕ) × P k
path l P step start has zero = (start, has)
path l P step start has (suc i) =
    let here = path l P step start has i in
    let next = step here.0 here.1 in
    (next.0, next.2)

abbrev at : (l : LooseList) (P : ℕ → Type 0) → Steps l P → (start : ℕ) → P start → ℕ → ℕ
at l P step start has i = (path l P step start has i).0

at_step : (l : LooseList) (P : ℕ → Type 0) (step : Steps l P) (start : ℕ) (has : P start) (i : ℕ) → Contains (operand_places l.boxes (loose_at l (at l P step start has i))) (at l P step start has (suc i))
unfolding path
at_step l P step start has i = (step (path l P step start has i).0 (path l P step start has i).1).1

at_leads : (l : LooseList) (P : ℕ → Type 0) (step : Steps l P) (start : ℕ) (has : P start) (n i j : ℕ) → n + i ≡ j → Reaches n l (at l P step start has i) (at l P step start has j)
at_leads l P step start has zero i j e = let same : i ≡ j = omega (arith, e) in ap (at l P step start has) same
at_leads l P step start has (suc n) i j e = (at l P step start has (suc i), at_step l P step start has i, at_leads l P step start has n (suc i) j (omega (arith, e)))

-- where each place of a set reads one of the set, there is a closed walk
pub walk_from_steps : (l : LooseList) (P : ℕ → Type 0) → ((k : ℕ) → P k → k < length l.cells) → Steps l P → (start : ℕ) → P start → (k : ℕ) × IsOnClosedWalk l k
walk_from_steps l P below step start has =
    let n : ℕ = length l.cells in
    let w : ℕ → ℕ = at l P step start has in
    let under : (i : ℕ) → w i < n = λ i. below (w i) (path l P step start has i).1 in
    let search = below_or_one (λ j. (i : ℕ) → i < j → w i ≢ w j) (λ j. (i : ℕ) × (i < j) × (w i ≡ w j)) (n + 1)
    (λ j h. below_or_one (λ i. w i ≢ w j) (λ i. w i ≡ w j) j (λ i g. other (w i) (w j))) in
    elim search [
      | inl all ↦
          let xs : List ℕ = map w (range_with_len 0 (n + 1)) in
          let len : length xs ≡ n + 1 = length-map-range_with_len w 0 (n + 1) in
          let get : (i d : ℕ) → i < n + 1 → get_or xs i d ≡ w i = λ i d h. get_or-map-range_with_len w 0 (n + 1) i i d h (omega arith) in
          let apart : AllPairs ◌≢◌ xs = λ i j d h g e. all j (omega (arith, g, len)) i h (sym (get i d (omega (arith, h, g, len))) ∙ e ∙ get j d (omega (arith, g, len))) in
          let few = length-le_from_apart xs n apart (λ q m. subst (λ k. k < n) (sym (get m.0 q (omega (arith, m.1, len))) ∙ m.2) (under m.0)) in
          absurd (omega (arith, few, len))
      | inr one ↦
          let i = one.2.0 in
          let j = one.0 in
          let less : i < j = one.2.1 in
          let d : ℕ = j - suc i in
          let walk : Reaches (suc d) l (w i) (w j) = at_leads l P step start has (suc d) i j (omega arith) in
          (w i, (under i, d, subst (λ k. Reaches (suc d) l (w i) k) (sym one.2.2) walk))
    ]
  where
    other : (a b : ℕ) → (a ≢ b) ⊎ (a ≡ b)
    other a b = elim (cases_eq a b) [ inl e ↦ inr e | inr ne ↦ inl ne ]

-- the operands of a cell of a list are in the list
pub reads_there : (l : LooseList) (place n : ℕ) (c : LooseCell) → IsLoose l → place < length l.cells → length l.cells ≡ n → c ≡ loose_at l place → All (λ k. k < n) (operand_places l.boxes c)
reads_there l place n c loose h e is = subst (λ m. All (λ k. k < m) (operand_places l.boxes c)) e (subst (λ d. All (λ k. k < length l.cells) (operand_places l.boxes d)) (sym is) (loose.there place h))

-- a box of which the list has an output pin is in the list
pub box_number : (l : LooseList) (place b p : ℕ) → IsLoose l → place < length l.cells → loose_at l place ≡ BoxOut b p → b < length l.boxes
box_number l place b p loose h is = elim (cases_lt b (length l.boxes)) [
  | inl below ↦ below
  | inr past ↦
      let never : p < 0 = subst (λ (q : Pins). p < length q.outs) (get_or_past l.boxes b _ past) (loose.listed place b p h is).0 in
      absurd (omega (arith, never))
]
