-- Copies that are followed from a place end at the one place that is no copy, after fewer steps than there are cells.
use Rattle.std.proofs.Common.{◌≡◌, ◌≢◌, ◌⊎◌, ℕ, zero, suc, ◌+◌, ◌<◌, ◌≤◌, Bool, true, false, List, [], ◌∷◌, map, length, take, get_or, set, Contains, Option, Some, None, refl, sym, ap, ◌∙◌, subst, inl, inr, arith}
use Rattle.std.specs.Prelude.{replicate, slice_index_or, IfSome, IfNone}
use Rattle.std.specs.List.{range_with_len}
use Rattle.std.proofs.lemmas.List.FromFn.{get_or-map-range_with_len}
use Rattle.std.proofs.lemmas.List.{get_or_past, get_or-set_same, get_or-set_other, length-set}
use Rattle.std.proofs.lemmas.Option.{same_Some}
use Rattle.bb_net.specs.declared.loose.LooseCell.{LooseCell}
use Rattle.bb_net.specs.declared.loose.LooseCell.TheVariants.{Const, Input, Copy}
use Rattle.bb_net.specs.Loose.{LooseList, loose_at, IsLoose}
use Rattle.bb_net.specs.Orders.{IsNoCopy, IsCopySource}
use Rattle.bb_bits.specs.Closures.{Leads, One, More}
use Rattle.bb_elab.specs.Inside.CopyEnds.{EndsAt, AreEnds}
use Rattle.bb_implements.specs.Inside.ReadPlaces.{copy_steps, FollowsAt}
use Rattle.bb_elab.proofs.CopyMarks.{copies_one}
use Rattle.bb_lemmas.proofs.Marks.{unmarked, unmarked_less, unmarked_at}
use Rattle.bb_lemmas.proofs.Orders.{less_or_same, less_or_past}
use Rattle.bb_implements.specs.Laws.CellLaws.{CellLaws}

module _ (of_cells : CellLaws) (l : LooseList) where
  kept_no_copy : (k p : ℕ) → IsNoCopy (loose_at l k) → loose_at l k ≡ Copy p → ⊥
  kept_no_copy k p kept is = subst IsNoCopy is kept

  pub source_unique : (n m k a b : ℕ) → IsCopySource n l k a → IsCopySource m l k b → (n ≡ m) × (a ≡ b)
  source_unique zero zero k a b x y = (refl, sym x.0 ∙ y.0)
  source_unique zero (suc m) k a b x y = absurd (kept_no_copy k y.0 x.1 y.2)
  source_unique (suc n) zero k a b x y = absurd (kept_no_copy k x.0 y.1 x.2)
  source_unique (suc n) (suc m) k a b x y =
      let same = copies_one y.0 x.0 (sym y.2 ∙ x.2) in
      let r = source_unique n m x.0 a b x.3 (subst (λ p. IsCopySource m l p b) same y.3) in
      (ap suc r.0, r.1)

  starts_there : (j k : ℕ) → Leads (copy_steps l.cells) j k → j < length l.cells
  starts_there j k (One has) = ((of_cells.copies l.cells j k (Const false)).0 has).0
  starts_there j k (More {y = y} has rest) = ((of_cells.copies l.cells j y (Const false)).0 has).0

  leads_source : (j k : ℕ) → Leads (copy_steps l.cells) j k → k < length l.cells → IsNoCopy (loose_at l k) → (n : ℕ) × IsCopySource n l j k
  leads_source j k (One has) there kept = (1, (k, there, ((of_cells.copies l.cells j k (Const false)).0 has).1, (refl, kept)))
  leads_source j k (More {y = y} has rest) there kept =
      let r = leads_source y k rest there kept in
      (suc r.0, (y, starts_there y k rest, ((of_cells.copies l.cells j y (Const false)).0 has).1, r.1))

  pub follow_source : (j k : ℕ) → FollowsAt l.cells j k → k < length l.cells → IsNoCopy (loose_at l k) → (n : ℕ) × IsCopySource n l j k
  follow_source j k (inl same) there kept = (0, (same, subst (λ i. IsNoCopy (loose_at l i)) (sym same) kept))
  follow_source j k (inr leads) there kept = leads_source j k leads there kept

  abbrev AreAfter : ℕ → ℕ → List Bool → Type 0
  AreAfter n source marks = (j : ℕ) → slice_index_or marks j false ≡ true → (m : ℕ) × IsCopySource m l j source × (n < m)

  here_unmarked : (n k source : ℕ) (marks : List Bool) → IsCopySource n l k source → AreAfter n source marks → slice_index_or marks k false ≡ false
  here_unmarked n k source marks is before = by (slice_index_or marks k false) refl
    where
      by : (b : Bool) → slice_index_or marks k false ≡ b → slice_index_or marks k false ≡ false
      by true on = let m = before k on in let u = source_unique n m.0 k source source is m.1 in absurd (omega (arith, m.2, u.0))
      by false off = off

  one_after : (n k source : ℕ) (marks : List Bool) → k < length marks → IsCopySource (suc n) l k source → AreAfter (suc n) source marks → AreAfter n source (set marks k true)
  one_after n k source marks lt is before j on = at (less_or_same j k)
    where
      other : j ≢ k → (m : ℕ) × IsCopySource m l j source × (n < m)
      other differ = let r = before j (sym (get_or-set_other marks k j true false differ) ∙ on) in (r.0, r.1, omega (arith, r.2))

      at : (j < k) ⊎ ((k < j) ⊎ (j ≡ k)) → (m : ℕ) × IsCopySource m l j source × (n < m)
      at (inl h) = other (λ e. omega (arith, h, e))
      at (inr (inl h)) = other (λ e. omega (arith, h, e))
      at (inr (inr h)) = (suc n, subst (λ i. IsCopySource (suc n) l i source) (sym h) is, omega arith)

  few_left : (n k source : ℕ) (marks : List Bool) → length marks ≡ length l.cells → IsCopySource n l k source → k < length l.cells → AreAfter n source marks → n < unmarked marks
  few_left zero k source marks long is there before = omega (arith, unmarked_less marks k (omega (arith, there, long)) (here_unmarked 0 k source marks is before))
  few_left (suc n) k source marks long is there before =
      let lt : k < length marks = omega (arith, there, long) in
      omega (
        arith,
        unmarked_less marks k lt (here_unmarked (suc n) k source marks is before),
        few_left n is.0 source (set marks k true) (length-set marks k true ∙ long) is.3 is.1 (one_after n k source marks lt is before),
      )

  none_marked : (n : ℕ) → unmarked (replicate n false) ≡ n
  unfolding unmarked
  none_marked zero = refl
  none_marked (suc n) = omega (arith, none_marked n)

  long_replicate : (n : ℕ) → length (replicate n false) ≡ n
  long_replicate zero = refl
  long_replicate (suc n) = ap suc (long_replicate n)

  pub few_copies : (n k source : ℕ) → IsCopySource n l k source → k < length l.cells → n < length l.cells
  few_copies n k source is there =
      let few = few_left n k source (replicate (length l.cells) false) (long_replicate (length l.cells)) is there (λ j on. absurd (unmarked_at (length l.cells) j on)) in
      omega (arith, few, none_marked (length l.cells))

-- Copies are followed from a place of the list to another, in so many steps: they end where they end from there, with as many
-- fewer copies between.
abbrev pub Comes : LooseList → ℕ → ℕ → ℕ → Type 0
Comes l place at step = place < length l.cells → (n source : ℕ) → IsCopySource n l place source → (at < length l.cells) × (m : ℕ) × IsCopySource m l at source × (m + step ≡ n)

module _ (of_cells : CellLaws) (l : LooseList) (place : ℕ) where
  pub comes_first : Comes l place place 0
  comes_first there n source is = (there, n, is, plus)
    where
      plus : n + 0 ≡ n
      plus = omega arith

  pub comes_next : (at of step : ℕ) → Comes l place at step → loose_at l at ≡ Copy of → Comes l place of (step + 1)
  comes_next at of step comes copy there n source is = by (comes there n source is)
    where
      by : (at < length l.cells) × (m : ℕ) × IsCopySource m l at source × (m + step ≡ n) → (of < length l.cells) × (m : ℕ) × IsCopySource m l of source × (m + (step + 1) ≡ n)
      by (low, zero, s, long) = absurd (kept_no_copy of_cells l at of s.1 copy)
      by (low, suc m, s, long) =
          let same = copies_one s.0 of (sym s.2 ∙ copy) in
          (subst (λ p. p < length l.cells) same s.1, m, subst (λ p. IsCopySource m l p source) same s.3, omega (arith, long))

  -- the walk ends at what is no copy, at what is noted, or before as many steps as there are cells
  pub ends_kept : (at step : ℕ) → Comes l place at step → ((p : ℕ) → loose_at l at ≡ Copy p → ⊥) → EndsAt l place at
  ends_kept at step comes none there n source is = by (comes there n source is)
    where
      by : (at < length l.cells) × (m : ℕ) × IsCopySource m l at source × (m + step ≡ n) → at ≡ source
      by (low, zero, s, long) = s.0
      by (low, suc m, s, long) = absurd (none s.0 s.2)

  pub ends_noted : (at step end : ℕ) → Comes l place at step → EndsAt l at end → EndsAt l place end
  ends_noted at step end comes ends there n source is = let c = comes there n source is in ends c.0 c.1 source c.2

  pub ends_soon : (at step : ℕ) → Comes l place at step → length l.cells ≤ step → EndsAt l place at
  ends_soon at step comes past there n source is =
      let c = comes there n source is in
      let short = few_copies of_cells l n place source is there in
      absurd (omega (arith, short, c.3, past))

-- where a copy ends, there ends what it is a copy of
pub ends_copied : (l : LooseList) (at of end : ℕ) → at < length l.cells → loose_at l at ≡ Copy of → EndsAt l at end → EndsAt l of end
ends_copied l at of end low copy ends there n source is = ends low (suc n) source (of, there, copy, is)

-- one more end is noted
pub ends_more : (l : LooseList) (ends : List (Option ℕ)) (k end : ℕ) → k < length ends → AreEnds l ends → EndsAt l k end → AreEnds l (set ends k (Some end))
ends_more l ends k end lt are is place e noted = by (less_or_same place k)
  where
    other : place ≢ k → EndsAt l place e
    other differ = are place e (sym (get_or-set_other ends k place (Some end) None differ) ∙ noted)

    by : (place < k) ⊎ ((k < place) ⊎ (place ≡ k)) → EndsAt l place e
    by (inl h) = other (λ same. omega (arith, h, same))
    by (inr (inl h)) = other (λ same. omega (arith, h, same))
    by (inr (inr h)) =
        let same : Some e ≡ Some end = sym noted ∙ ap (λ i. get_or (set ends k (Some end)) i None) h ∙ get_or-set_same ends k (Some end) None lt in
        subst (EndsAt l place) (sym (same_Some e end same)) (subst (λ i. EndsAt l i end) (sym h) is)

taken_at : (cells : List LooseCell) (n k : ℕ) (d : LooseCell) → k < n → get_or (take n cells) k d ≡ get_or cells k d
taken_at [] zero k d lt = refl
taken_at [] (suc n) k d lt = refl
taken_at (c ∷ cells) zero k d lt = absurd (omega (arith, lt))
taken_at (c ∷ cells) (suc n) zero d lt = refl
taken_at (c ∷ cells) (suc n) (suc k) d lt = taken_at cells n k d (omega (arith, lt))

module _ (of_cells : CellLaws) (l : LooseList) (loose : IsLoose l) where
  -- inputs follow the two constants
  pub input_cell : (k : ℕ) → k < l.inputs → loose_at l (k + 2) ≡ Input k
  input_cell k lt =
      let two : k + 2 ≡ suc (suc k) = omega arith in
      sym (taken_at l.cells (l.inputs + 2) (k + 2) (Const false) (omega (arith, lt))) ∙ ap (λ cells. get_or cells (k + 2) (Const false)) loose.prefix
      ∙ ap (λ i. get_or (Const false ∷ Const true ∷ map Input (range_with_len 0 l.inputs)) i (Const false)) two ∙ get_or-map-range_with_len Input 0 l.inputs k k (Const false) lt (omega arith)

  pub input_there : (k : ℕ) → k < l.inputs → k + 2 < length l.cells
  input_there k lt = by (less_or_past (k + 2) (length l.cells))
    where
      by : (k + 2 < length l.cells) ⊎ (length l.cells ≤ k + 2) → k + 2 < length l.cells
      by (inl h) = h
      by (inr past) = let no : Const false ≡ Input k = sym (get_or_past l.cells (k + 2) (Const false) past) ∙ input_cell k lt in cc

  input_kept : (k : ℕ) → k < l.inputs → IsNoCopy (loose_at l (k + 2))
  input_kept k lt = subst IsNoCopy (sym (input_cell k lt)) tt

  -- copies lead to where they end
  source_follows : (n place source : ℕ) → place < length l.cells → IsCopySource n l place source → FollowsAt l.cells place source
  source_follows zero place source there is = inl is.0
  source_follows (suc n) place source there is = inr (by (source_follows n is.0 source is.1 is.3))
    where
      copy : Contains (copy_steps l.cells) (place, is.0)
      copy = ((of_cells.copies l.cells place is.0 (Const false)).1 (there, is.2))

      by : FollowsAt l.cells is.0 source → Leads (copy_steps l.cells) place source
      by (inl same) = One (subst (λ p. Contains {X = ℕ × ℕ} (copy_steps l.cells) (place, p)) same copy)
      by (inr leads) = More copy leads

  module _ (limit : ℕ) (few : limit ≤ l.inputs) (place n source : ℕ) (there : place < length l.cells) (is : IsCopySource n l place source) where
    -- an input to which copies lead is where they end
    input_is : (k : ℕ) → k < limit → FollowsAt l.cells place (k + 2) → source ≡ k + 2
    input_is k lt follows =
        let lt2 : k < l.inputs = omega (arith, lt, few) in
        let s = follow_source of_cells l place (k + 2) follows (input_there k lt2) (input_kept k lt2) in (source_unique of_cells l n s.0 place source (k + 2) is s.1).1

    -- the input at which they end
    pub input_found : (o : Option ℕ) → IfSome o (λ k. (k < limit) × (k + 2 ≡ source)) → IfSome o (λ k. (k < limit) × FollowsAt l.cells place (k + 2))
    input_found None found = tt
    input_found (Some k) found = (found.0, subst (FollowsAt l.cells place) (sym found.1) (source_follows n place source there is))

    pub input_missed : (o : Option ℕ) → IfNone o ((k : ℕ) → k < limit → k + 2 ≡ source → ⊥) → IfNone o ((k : ℕ) → k < limit → FollowsAt l.cells place (k + 2) → ⊥)
    input_missed None missed = λ k lt follows. missed k lt (sym (input_is k lt follows))
    input_missed (Some k) missed = tt
