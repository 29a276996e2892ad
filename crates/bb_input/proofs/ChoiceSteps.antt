-- the boxes quantified, one more before the last ones
use Rattle.std.proofs.Common.{◌≡◌, ◌<◌, ◌≤◌, ℕ, zero, suc, ◌+◌, ◌&&◌, ◌||◌, List, [], ◌∷◌, ◌++◌, length, take, drop, refl, sym, ap, ap₂, ◌∙◌, subst, inl, inr, arith, drop_of_length-le}
use Rattle.std.specs.Prelude.{slice_set}
use Rattle.std.proofs.lemmas.Bool.{cases_eq}
use Rattle.std.proofs.lemmas.List.{get_or-set_same, get_or-set_other}
use Rattle.bb_bits.specs.Truth.{Truth, IsBeadOfAny, quantified_block}
use Rattle.bb_net.specs.Netlists.{Pins, box_at}
use Rattle.bb_net.specs.Pairs.{pin_count}
use Rattle.bb_uniq.specs.declared.store.Ref.{Ref}
use Rattle.bb_uniq.specs.Inside.Nodes.{NodeStore}
use Rattle.bb_uniq.specs.Inside.Meaning.{truth_of, Keeps}
use Rattle.bb_sym.specs.Laws.{MakingLaws}
use Rattle.bb_sym.specs.Inside.Made.{Makes, AreTooMany, Represents, ref_at}
use Rattle.bb_sym.specs.Plain.{block_functions}
use Rattle.bb_input.specs.InputFunctions.{outs_quantified, box_quantified, boxes_quantified, box_functions, boxes_functions}
use Rattle.bb_input.proofs.OrderLemmas.{count_more}

-- a box: the two blocks after one another
module _ (laws : MakingLaws) (start first : ℕ) (box : Pins) (from : start ≡ first + length box.ins) (old mid : NodeStore) (t : Truth) (r : Ref)
    (made : Makes old mid (block_functions ◌&&◌ start (length box.outs) t)) (occur : Represents mid (quantified_block ◌&&◌ start (length box.outs) t) r) where
  middle : truth_of mid r.0 ≡ outs_quantified first box t
  middle = occur.table ∙ ap (λ k. quantified_block ◌&&◌ k (length box.outs) t) from

  outs_made : Makes old mid (block_functions ◌&&◌ (first + length box.ins) (length box.outs) t)
  outs_made = subst (λ k. Makes old mid (block_functions ◌&&◌ k (length box.outs) t)) from made

  pub box_refused_later : AreTooMany mid (block_functions ◌||◌ first (length box.ins) (truth_of mid r.0)) → AreTooMany old (box_functions first box t)
  box_refused_later many =
      laws.refused_then old mid (block_functions ◌&&◌ (first + length box.ins) (length box.outs) t) (block_functions ◌||◌ first (length box.ins) (outs_quantified first box t)) outs_made
      (subst (λ u. AreTooMany mid (block_functions ◌||◌ first (length box.ins) u)) middle many)

  pub box_made : (new : NodeStore) → Makes mid new (block_functions ◌||◌ first (length box.ins) (truth_of mid r.0)) → Makes old new (box_functions first box t)
  box_made new also =
      laws.then old mid new (block_functions ◌&&◌ (first + length box.ins) (length box.outs) t) (block_functions ◌||◌ first (length box.ins) (outs_quantified first box t)) outs_made
      (subst (λ u. Makes mid new (block_functions ◌||◌ first (length box.ins) u)) middle also)

  pub box_occurs : (new : NodeStore) (q : Ref) → Represents new (quantified_block ◌||◌ first (length box.ins) (truth_of mid r.0)) q → Represents new (box_quantified first box t) q
  box_occurs new q h = record { ref = h.ref; table = h.table ∙ ap (quantified_block ◌||◌ first (length box.ins)) middle }

pub box_refused_first : MakingLaws → (start first : ℕ) (box : Pins) → start ≡ first + length box.ins → (old : NodeStore) (t : Truth) → AreTooMany old (block_functions ◌&&◌ start (length box.outs) t) → AreTooMany old (box_functions first box t)
box_refused_first laws start first box from old t many =
    let fs = block_functions ◌&&◌ (first + length box.ins) (length box.outs) t in
    let gs = block_functions ◌||◌ first (length box.ins) (outs_quantified first box t) in
    laws.refused_more old fs (fs ++ gs) (λ b h. (laws.both fs gs b).1 (inl h)) (subst (λ k. AreTooMany old (block_functions ◌&&◌ k (length box.outs) t)) from many)

-- the boxes from a number on
abbrev pub from_box : List Pins → Truth → ℕ → Truth
from_box boxes t i = boxes_quantified (pin_count (take i boxes)) (drop i boxes) t

abbrev pub functions_from : List Pins → Truth → ℕ → List Truth
functions_from boxes t i = boxes_functions (pin_count (take i boxes)) (drop i boxes) t

pub from_none : (boxes : List Pins) (t : Truth) (i : ℕ) → i ≡ length boxes → from_box boxes t i ≡ t
from_none boxes t i e = ap (λ (k : List Pins). boxes_quantified (pin_count (take i boxes)) k t) (drop_of_length-le boxes (omega (arith, e)))

pub functions_none : (boxes : List Pins) (t : Truth) (i : ℕ) → i ≡ length boxes → functions_from boxes t i ≡ []
functions_none boxes t i e = ap (λ (k : List Pins). boxes_functions (pin_count (take i boxes)) k t) (drop_of_length-le boxes (omega (arith, e)))

drop_box : (boxes : List Pins) (i : ℕ) → i < length boxes → drop i boxes ≡ box_at boxes i ∷ drop (i + 1) boxes
drop_box boxes i l = drop_next boxes i l ∙ ap (λ k. box_at boxes i ∷ drop k boxes) (let e : suc i ≡ i + 1 = omega arith in e)
  where
    drop_next : (boxes : List Pins) (i : ℕ) → i < length boxes → drop i boxes ≡ box_at boxes i ∷ drop (suc i) boxes
    drop_next [] i l = absurd (omega (arith, l))
    drop_next (box ∷ boxes) zero l = refl
    drop_next (box ∷ boxes) (suc i) l = drop_next boxes i (omega (arith, l))

module _ (boxes : List Pins) (t : Truth) (i : ℕ) (l : i < length boxes) where
  pub from_earlier : from_box boxes t i ≡ box_quantified (pin_count (take i boxes)) (box_at boxes i) (from_box boxes t (i + 1))
  from_earlier =
      ap (λ (k : List Pins). boxes_quantified (pin_count (take i boxes)) k t) (drop_box boxes i l)
      ∙ ap (λ k. box_quantified (pin_count (take i boxes)) (box_at boxes i) (boxes_quantified k (drop (i + 1) boxes) t)) (sym (count_more boxes i l))

  pub functions_earlier : functions_from boxes t i ≡ functions_from boxes t (i + 1) ++ box_functions (pin_count (take i boxes)) (box_at boxes i) (from_box boxes t (i + 1))
  functions_earlier =
      ap (λ (k : List Pins). boxes_functions (pin_count (take i boxes)) k t) (drop_box boxes i l)
      ∙ ap (λ k. boxes_functions k (drop (i + 1) boxes) t ++ box_functions (pin_count (take i boxes)) (box_at boxes i) (boxes_quantified k (drop (i + 1) boxes) t)) (sym (count_more boxes i l))

-- what is made from a number on is part of what is made from an earlier one on
pub later_within : MakingLaws → (boxes : List Pins) (t : Truth) (i : ℕ) → i ≤ length boxes → (b : Truth) → IsBeadOfAny (functions_from boxes t i) b → IsBeadOfAny (functions_from boxes t 0) b
later_within laws boxes t zero l b h = h
later_within laws boxes t (suc i) l b h =
    later_within laws boxes t i (omega (arith, l)) b
    (subst (λ ts. IsBeadOfAny ts b) (sym (functions_earlier boxes t i (omega (arith, l))))
    ((laws.both (functions_from boxes t (i + 1)) (box_functions (pin_count (take i boxes)) (box_at boxes i) (from_box boxes t (i + 1))) b).1
    (inl (subst (λ k. IsBeadOfAny (functions_from boxes t k) b) (let e : suc i ≡ i + 1 = omega arith in e) h))))

-- one more box
module _ (laws : MakingLaws) (start old : NodeStore) (boxes : List Pins) (t : Truth) (i : ℕ) (l : i < length boxes) (r : Ref) (occur : Represents old (from_box boxes t (i + 1)) r) (made : Makes start old (functions_from boxes t (i + 1)))
    (first : ℕ) (f : first ≡ pin_count (take i boxes)) where
  own_is : box_functions first (box_at boxes i) (truth_of old r.0) ≡ box_functions (pin_count (take i boxes)) (box_at boxes i) (from_box boxes t (i + 1))
  own_is = ap₂ (λ k v. box_functions k (box_at boxes i) v) f occur.table

  pub boxes_made : (new : NodeStore) → Makes old new (box_functions first (box_at boxes i) (truth_of old r.0)) → Makes start new (functions_from boxes t i)
  boxes_made new also =
      subst (Makes start new) (sym (functions_earlier boxes t i l))
      (laws.then start old new (functions_from boxes t (i + 1)) (box_functions (pin_count (take i boxes)) (box_at boxes i) (from_box boxes t (i + 1))) made (subst (Makes old new) own_is also))

  pub boxes_occur : (new : NodeStore) (q : Ref) → Represents new (box_quantified first (box_at boxes i) (truth_of old r.0)) q → Represents new (from_box boxes t i) q
  boxes_occur new q h = record { ref = h.ref; table = h.table ∙ (ap₂ (λ k u. box_quantified k (box_at boxes i) u) f occur.table ∙ sym (from_earlier boxes t i l)) }

  pub boxes_refused : AreTooMany old (box_functions first (box_at boxes i) (truth_of old r.0)) → AreTooMany start (functions_from boxes t 0)
  boxes_refused many =
      laws.refused_more start (functions_from boxes t i) (functions_from boxes t 0) (later_within laws boxes t i (omega (arith, l)))
      (subst (AreTooMany start) (sym (functions_earlier boxes t i l))
      (laws.refused_then start old (functions_from boxes t (i + 1)) (box_functions (pin_count (take i boxes)) (box_at boxes i) (from_box boxes t (i + 1))) made (subst (AreTooMany old) own_is many)))

-- what the boxes from a number on were quantified in
abbrev pub AreNoted : NodeStore → List Pins → Truth → ℕ → List Ref → Type 0
AreNoted s boxes t i noted = (b : ℕ) → i ≤ b → b < length boxes → Represents s (from_box boxes t (b + 1)) (ref_at noted b)

-- one more, where a box was quantified since
pub noted_more : MakingLaws → (old new : NodeStore) → Keeps old new → (boxes : List Pins) (t : Truth) (k : ℕ) → k < length boxes → (noted : List Ref) → length noted ≡ length boxes → (r : Ref)
    → Represents old (from_box boxes t (k + 1)) r → AreNoted old boxes t (k + 1) noted → AreNoted new boxes t k (slice_set noted k r)
noted_more laws old new kept boxes t k l noted whole r occur before b from there =
    elim (cases_eq b k) [
      | inl e ↦
          let here : ref_at (slice_set noted k r) b ≡ r = ap (ref_at (slice_set noted k r)) e ∙ get_or-set_same noted k r (record { 0 = 0 }) (omega (arith, l, whole)) in
          subst (Represents new (from_box boxes t (b + 1))) (sym here)
          (subst (λ i. Represents new (from_box boxes t (i + 1)) r) (sym e) (laws.occurs_still old new (from_box boxes t (k + 1)) r kept occur))
      | inr other ↦
          subst (Represents new (from_box boxes t (b + 1))) (sym (get_or-set_other noted k b r (record { 0 = 0 }) other))
          (laws.occurs_still old new (from_box boxes t (b + 1)) (ref_at noted b) kept (before b (later b from other) there))
    ]
  where
    later : (b : ℕ) → k ≤ b → (b ≡ k → ⊥) → k + 1 ≤ b
    later b from other = omega (arith, from, other)
