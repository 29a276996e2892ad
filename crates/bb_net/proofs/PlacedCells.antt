-- Lists of places of cells, and what holds of the cells that have places when one more has.
use Rattle.std.proofs.Common.{◌≡◌, ◌≢◌, ℕ, ◌+◌, ◌<◌, ◌≤◌, ◌⊎◌, zero, suc, cond, List, [], ◌∷◌, ◌++◌, length, take, get_or, set, Option, Some, None, is_none, refl, sym, ap, subst, ◌∙◌, inl, inr, arith, get_or-set_same, get_or-set_other}
use Rattle.std.specs.Prelude.{Contains, slice_index, unwrap_or}
use Rattle.std.proofs.lemmas.Bool.{cases_eq, cases_lt}
use Rattle.std.proofs.lemmas.Option.{none-some, same_Some}
use Rattle.std.proofs.lemmas.List.{length-set, length_push, get_or_past, get_or_push, get_or_append_left, get_or_default, take-append-le, take_at}
use Rattle.std.proofs.lemmas.List.Elements.{Contains-push_cases, Contains-append_left}
use Rattle.std.proofs.lemmas.List.Quantifiers.{all_pairs_push}
use Rattle.std.proofs.lemmas.List.Sums.{sum_by-set}
use Rattle.bb_net.specs.declared.loose.LooseCell.TheVariants.{Copy, BoxOut}
use Rattle.bb_net.specs.Netlists.{box_at}
use Rattle.bb_net.specs.Loose.{LooseList, loose_at, operand_places, Reaches}
use Rattle.bb_net.specs.Orders.{IsCopySource, IsReadyBox}
use Rattle.bb_net.specs.Inside.Placings.{IsAt, IsPlaced, IsOpen, given_place, open_count, EndsWithin, InputsEnd, IsBegun}

option_cases : (o : Option ℕ) → ((p : ℕ) × (o ≡ Some p)) ⊎ (o ≡ None)
option_cases (Some p) = inl (p, refl)
option_cases None = inr refl

pub placed_or_open : (to : List (Option ℕ)) (k : ℕ) → IsPlaced to k ⊎ IsOpen to k
placed_or_open to k = option_cases (get_or to k None)

pub at_unique : (to : List (Option ℕ)) (k p q : ℕ) → IsAt to k p → IsAt to k q → p ≡ q
at_unique to k p q a b = same_Some p q (sym a ∙ b)

pub at_open : {P : Type 0} (to : List (Option ℕ)) (k p : ℕ) → IsAt to k p → IsOpen to k → P
at_open to k p a o = absurd (none-some p (sym o ∙ a))

pub place_of-at : (to : List (Option ℕ)) (k p : ℕ) → IsAt to k p → given_place to k ≡ p
place_of-at to k p a = ap (λ o. unwrap_or o 0) a

pub at_within : (to : List (Option ℕ)) (k p : ℕ) → IsAt to k p → k < length to
at_within to k p a = elim (cases_lt k (length to)) [ inl below ↦ below | inr past ↦ at_open to k p a (get_or_past to k None past) ]

pub at_old : (to : List (Option ℕ)) (k q m p : ℕ) → IsOpen to k → IsAt to m p → IsAt (set to k (Some q)) m p
at_old to k q m p free a = elim (cases_eq m k) [
  | inl e ↦ at_open to m p a (subst (IsOpen to) (sym e) free)
  | inr ne ↦ get_or-set_other to k m (Some q) None ne ∙ a
]

pub at_new : (to : List (Option ℕ)) (k q : ℕ) → k < length to → IsAt (set to k (Some q)) k q
at_new to k q lt = get_or-set_same to k (Some q) None lt

-- the first cells are where they are, and one more
pub first_more : (to : List (Option ℕ)) (k : ℕ) → k < length to → ((j : ℕ) → j < k → IsAt to j j) → IsOpen to k → (j : ℕ) → j < k + 1 → IsAt (set to k (Some k)) j j
first_more to k lt before free j h = elim (cases_eq j k) [
  | inl e ↦ subst (λ i. IsAt (set to k (Some k)) i i) (sym e) (at_new to k k lt)
  | inr ne ↦ at_old to k k j j free (before j (omega arith))
]

pub at_cases : (to : List (Option ℕ)) (k q m p : ℕ) → k < length to → IsAt (set to k (Some q)) m p → ((m ≡ k) × (p ≡ q)) ⊎ IsAt to m p
at_cases to k q m p lt a = elim (cases_eq m k) [
  | inl e ↦ inl (e, sym (at_unique (set to k (Some q)) k q p (at_new to k q lt) (subst (λ j. IsAt (set to k (Some q)) j p) e a)))
  | inr ne ↦ inr (sym (get_or-set_other to k m (Some q) None ne) ∙ a)
]

pub placed_old : (to : List (Option ℕ)) (k q m : ℕ) → IsOpen to k → IsPlaced to m → IsPlaced (set to k (Some q)) m
placed_old to k q m free p = (p.0, at_old to k q m p.0 free p.1)

pub open_old : (to : List (Option ℕ)) (k q m : ℕ) → k < length to → IsOpen (set to k (Some q)) m → IsOpen to m
open_old to k q m lt o = elim (cases_eq m k) [
  | inl e ↦ at_open (set to k (Some q)) k q (at_new to k q lt) (subst (IsOpen (set to k (Some q))) e o)
  | inr ne ↦ sym (get_or-set_other to k m (Some q) None ne) ∙ o
]

pub place_of-old : (to : List (Option ℕ)) (k q m : ℕ) → IsOpen to k → IsPlaced to m → given_place to m ≡ given_place (set to k (Some q)) m
place_of-old to k q m free p = place_of-at to m p.0 p.1 ∙ sym (place_of-at (set to k (Some q)) m p.0 (at_old to k q m p.0 free p.1))

pub open_count-set : (to : List (Option ℕ)) (k q : ℕ) → k < length to → IsOpen to k → open_count (set to k (Some q)) + 1 ≡ open_count to
open_count-set to k q lt free =
    let count = sum_by-set (λ o. cond (is_none o) 1 0) to k (Some q) None lt in
    let one : ◌≡◌ {A = ℕ} (cond (is_none (get_or to k None)) 1 0) 1 = ap (λ o. cond (is_none o) 1 0) free in
    omega (arith, count, one)

EndsWithin-more : (l : LooseList) (n k : ℕ) → EndsWithin n l k → EndsWithin (suc n) l k
EndsWithin-more l zero k h = absurd h
EndsWithin-more l (suc n) k h = λ a has. EndsWithin-more l n a (h a has)

pub IsBegun-more : (l : LooseList) (to : List (Option ℕ)) (numbers : List ℕ) (k q : ℕ) → IsBegun l to numbers → k < length to → IsOpen to k
    → ((a : ℕ) → Contains (operand_places l.boxes (loose_at l k)) a → IsPlaced to a) → ((p : ℕ) → loose_at l k ≡ Copy p → IsAt to p q)
    → (n source : ℕ) × IsCopySource n l k source → ((b p : ℕ) → loose_at l k ≡ BoxOut b p → Contains numbers b) → IsBegun l (set to k (Some q)) numbers
IsBegun-more l to numbers k q old lt free reads copy source output =
    let new : List (Option ℕ) = set to k (Some q) in
    record {
      whole = length-set to k (Some q) ∙ old.whole;
      prefix = λ m h. at_old to k q m m free (old.prefix m h);
      reads = λ m place a at has. elim (at_cases to k q m place lt at) [
        | inl e ↦ placed_old to k q a free (reads a (subst (λ j. Contains (operand_places l.boxes (loose_at l j)) a) e.0 has))
        | inr o ↦ placed_old to k q a free (old.reads m place a o has)
      ];
      copies = λ m p place at is. elim (at_cases to k q m place lt at) [
        | inl e ↦ subst (λ j. IsAt new p j) (sym e.1) (at_old to k q p q free (copy p (ap (loose_at l) (sym e.0) ∙ is)))
        | inr o ↦ at_old to k q p place free (old.copies m p place o is)
      ];
      sources = λ m place at. elim (at_cases to k q m place lt at) [
        | inl e ↦ (source.0, source.1, subst (λ j. IsCopySource source.0 l j source.1) (sym e.0) source.2)
        | inr o ↦ old.sources m place o
      ];
      depth = suc old.depth;
      ends = λ m place at. elim (at_cases to k q m place lt at) [
        | inl e ↦ λ a has. (let p = reads a (subst (λ j. Contains (operand_places l.boxes (loose_at l j)) a) e.0 has) in old.ends a p.0 p.1)
        | inr o ↦ EndsWithin-more l old.depth m (old.ends m place o)
      ];
      outputs = λ m place b p at is. elim (at_cases to k q m place lt at) [
        | inl e ↦ output b p (ap (loose_at l) (sym e.0) ∙ is)
        | inr o ↦ old.outputs m place b p o is
      ];
      there = old.there;
      apart = old.apart;
      pins = λ b pin has in'. placed_old to k q pin free (old.pins b pin has in');
      ready = old.ready;
      first = old.first;
    }

-- where a walk from a cell with a place leads, there are places
reaches_placed : (l : LooseList) (to : List (Option ℕ)) (numbers : List ℕ) → IsBegun l to numbers → (n k m : ℕ) → IsPlaced to k → Reaches n l k m → IsPlaced to m
reaches_placed l to numbers old zero k m p e = subst (IsPlaced to) e p
reaches_placed l to numbers old (suc n) k m p walk = reaches_placed l to numbers old n walk.0 m (old.reads k p.0 walk.0 p.1 walk.1) walk.2

ready_box : (l : LooseList) (to : List (Option ℕ)) (numbers : List ℕ) → IsBegun l to numbers → (b : ℕ) → ((pin : ℕ) → Contains (box_at l.boxes b).ins pin → IsPlaced to pin) → IsReadyBox l numbers b
ready_box l to numbers old b pins d needs =
    let p = reaches_placed l to numbers old needs.2 needs.0 needs.1 (pins needs.0 needs.4) needs.5 in
    old.outputs needs.1 p.0 d needs.3 p.1 needs.7

-- an index of a list with one more element at the end
pub index_cases : (n i : ℕ) → i < n + 1 → (i < n) ⊎ (n ≡ i)
index_cases n i h = elim (cases_lt i n) [ inl below ↦ inl below | inr past ↦ inr (omega arith) ]

pub IsBegun-box : (l : LooseList) (to : List (Option ℕ)) (numbers : List ℕ) (b : ℕ) → IsBegun l to numbers → b < length l.boxes → (Contains numbers b → ⊥)
    → ((pin : ℕ) → Contains (box_at l.boxes b).ins pin → IsPlaced to pin)
    → ((c : ℕ) → c < length l.boxes → (Contains numbers c → ⊥) → IsReadyBox l numbers c → InputsEnd l c → b ≤ c) → IsBegun l to (numbers ++ b ∷ [])
IsBegun-box l to numbers b old lt new pins least =
    let n : ℕ = length numbers in
    let len : length (numbers ++ b ∷ []) ≡ n + 1 = length_push numbers b in
    let low : (i : ℕ) → i < n → take i (numbers ++ b ∷ []) ≡ take i numbers = λ i h. take-append-le i numbers (b ∷ []) (omega arith) in
    let same : (i : ℕ) → i < n → slice_index (numbers ++ b ∷ []) i ≡ slice_index numbers i = λ i h. get_or_append_left numbers (b ∷ []) 0 i h in
    let high : (i : ℕ) → n ≡ i → take i (numbers ++ b ∷ []) ≡ numbers = λ i e. take_at numbers (b ∷ []) i e in
    let last : (i : ℕ) → n ≡ i → slice_index (numbers ++ b ∷ []) i ≡ b = λ i e. get_or_push numbers b 0 i e in
    record {
      whole = old.whole;
      prefix = old.prefix;
      reads = old.reads;
      copies = old.copies;
      sources = old.sources;
      depth = old.depth;
      ends = old.ends;
      outputs = λ k place c p at is. Contains-append_left numbers (b ∷ []) c (old.outputs k place c p at is);
      there = λ c has. elim (Contains-push_cases numbers b c has) [ inl before ↦ old.there c before | inr e ↦ subst (λ j. j < length l.boxes) e lt ];
      apart = all_pairs_push ◌≢◌ numbers b old.apart (λ k d h e. new (k, h, get_or_default numbers k b d h ∙ e));
      pins = λ c pin has in'. elim (Contains-push_cases numbers b c has) [
        | inl before ↦ old.pins c pin before in'
        | inr e ↦ pins pin (subst (λ j. Contains (box_at l.boxes j).ins pin) (sym e) in')
      ];
      ready = λ i h. elim (index_cases n i (omega (arith, h, len))) [
        | inl below ↦ subst (λ xs. IsReadyBox l xs (slice_index (numbers ++ b ∷ []) i)) (sym (low i below)) (subst (IsReadyBox l (take i numbers)) (sym (same i below)) (old.ready i below))
        | inr e ↦ subst (λ xs. IsReadyBox l xs (slice_index (numbers ++ b ∷ []) i)) (sym (high i e)) (subst (IsReadyBox l numbers) (sym (last i e)) (ready_box l to numbers old b pins))
      ];
      first = λ i c h lc not ready end. elim (index_cases n i (omega (arith, h, len))) [
        | inl below ↦
            let r = old.first i c below lc (λ has. not (subst (λ xs. Contains xs c) (sym (low i below)) has)) (subst (λ xs. IsReadyBox l xs c) (low i below) ready) end in
            subst (λ j. j ≤ c) (sym (same i below)) r
        | inr e ↦
            let r = least c lc (λ has. not (subst (λ xs. Contains xs c) (sym (high i e)) has)) (subst (λ xs. IsReadyBox l xs c) (high i e) ready) end in
            subst (λ j. j ≤ c) (sym (last i e)) r
      ];
    }
