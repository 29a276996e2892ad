-- A search along dependence finds each place to which a walk leads.
use Rattle.std.proofs.Common.{◌≡◌, ℕ, ◌+◌, ◌<◌, ◌≤◌, zero, suc, Bool, true, false, not, cond, List, [], ◌∷◌, ◌++◌, length, take, get_or, set, replicate, refl, sym, ap, subst, ◌∙◌, inl, inr, arith, get_or-set_same, get_or-set_other}
use Rattle.std.specs.Prelude.{All, Contains, slice_index}
use Rattle.std.specs.Bool.{Decides}
use Rattle.std.proofs.lemmas.Bool.{cases_eq, cases_lt, both_ways}
use Rattle.std.proofs.lemmas.List.{length-set, length-replicate, get_or-replicate, get_or_past, length_push, take_more}
use Rattle.std.proofs.lemmas.List.Elements.{All-contains, Contains-push, Contains-append_left, Contains-append_right, Contains-push_cases}
use Rattle.std.proofs.lemmas.List.Sums.{sum_by-set}
use Rattle.bb_net.specs.Netlists.{Pins, box_at}
use Rattle.bb_net.specs.Values.{bit_of}
use Rattle.bb_net.specs.Loose.{LooseList, loose_at, operand_places, IsLoose, Reaches, PlaceDependsOn, IsOnClosedWalk}
use Rattle.bb_net.specs.Inside.Walks.{IsMarked, IsSearched, AreDone, CellsRise}
use Rattle.bb_net.proofs.PlaceLists.{Contains-one, Contains-none, Reaches-push}

itself : (p k : ℕ) → p ≡ k → Contains (p ∷ []) k
itself p k e = (0, omega arith, e)

IsMarked-new : (p : ℕ) (seen : List Bool) (stack : List ℕ) → p < length seen → bit_of seen p ≡ false → IsMarked (p ∷ []) seen stack (set seen p true) (stack ++ p ∷ [])
IsMarked-new p seen stack lt is =
    let here : bit_of (set seen p true) p ≡ true = get_or-set_same seen p true false lt in
    let count = sum_by-set (λ x. cond (not x) 1 0) seen p true false lt in
    let one : ◌≡◌ {A = ℕ} (cond (not (bit_of seen p)) 1 0) 1 = ap (λ x. cond (not x) 1 0) is in
    record {
      whole = length-set seen p true;
      stays = λ k h. elim (cases_eq k p) [
        | inl e ↦ subst (λ j. bit_of (set seen p true) j ≡ true) (sym e) here
        | inr ne ↦ get_or-set_other seen p k true false ne ∙ h
      ];
      marked = λ k has. subst (λ j. bit_of (set seen p true) j ≡ true) (Contains-one p k has) here;
      only = λ k h. elim (cases_eq k p) [
        | inl e ↦ inr (itself p k (sym e), subst (Contains (stack ++ p ∷ [])) (sym e) (Contains-push stack p))
        | inr ne ↦ inl (sym (get_or-set_other seen p k true false ne) ∙ h)
      ];
      kept = λ k h. Contains-append_left stack (p ∷ []) k h;
      pushed = λ k h. elim (Contains-push_cases stack p k h) [ inl old ↦ inl old | inr e ↦ inr (itself p k e) ];
      work = omega (arith, count, one, length_push stack p);
    }

pub IsMarked-pushed : (p : ℕ) (seen : List Bool) (stack pushed : List ℕ) → p < length seen → bit_of seen p ≡ false → pushed ≡ stack ++ p ∷ [] → IsMarked (p ∷ []) seen stack (set seen p true) pushed
IsMarked-pushed p seen stack pushed lt is e = subst (IsMarked (p ∷ []) seen stack (set seen p true)) (sym e) (IsMarked-new p seen stack lt is)

-- places that were all seen before
pub IsMarked-seen : (places : List ℕ) (seen : List Bool) (stack : List ℕ) → ((k : ℕ) → Contains places k → bit_of seen k ≡ true) → IsMarked places seen stack seen stack
IsMarked-seen places seen stack here = record {
  whole = refl {A = ℕ};
  stays = λ k h. h;
  marked = here;
  only = λ k h. inl h;
  kept = λ k has. has;
  pushed = λ k has. inl has;
  work = refl {A = ℕ};
}

-- places marked one after another
IsMarked-more : (ps : List ℕ) (p : ℕ) (s0 : List Bool) (t0 : List ℕ) (s1 : List Bool) (t1 : List ℕ) (s2 : List Bool) (t2 : List ℕ) → IsMarked ps s0 t0 s1 t1 → IsMarked (p ∷ []) s1 t1 s2 t2 → IsMarked (ps ++ p ∷ []) s0 t0 s2 t2
IsMarked-more ps p s0 t0 s1 t1 s2 t2 a b = record {
  whole = b.whole ∙ a.whole;
  stays = λ k h. b.stays k (a.stays k h);
  marked = λ k has. elim (Contains-push_cases ps p k has) [ inl old ↦ b.stays k (a.marked k old) | inr e ↦ b.marked k (itself p k e) ];
  only = λ k h. elim (b.only k h) [
    | inl mid ↦ elim (a.only k mid) [ inl old ↦ inl old | inr q ↦ inr (Contains-append_left ps (p ∷ []) k q.0, b.kept k q.1) ]
    | inr q ↦ inr (Contains-append_right ps (p ∷ []) k q.0, q.1)
  ];
  kept = λ k h. b.kept k (a.kept k h);
  pushed = λ k h. elim (b.pushed k h) [
    | inl mid ↦ elim (a.pushed k mid) [ inl old ↦ inl old | inr q ↦ inr (Contains-append_left ps (p ∷ []) k q) ]
    | inr q ↦ inr (Contains-append_right ps (p ∷ []) k q)
  ];
  work = b.work ∙ a.work;
}

pub IsMarked-take : (ps : List ℕ) (i : ℕ) (s0 : List Bool) (t0 : List ℕ) (s1 : List Bool) (t1 : List ℕ) (s2 : List Bool) (t2 : List ℕ) → i < length ps → IsMarked (take i ps) s0 t0 s1 t1 → IsMarked (get_or ps i 0 ∷ []) s1 t1 s2 t2 → IsMarked (take (i + 1) ps) s0 t0 s2 t2
IsMarked-take ps i s0 t0 s1 t1 s2 t2 lt a b = subst (λ xs. IsMarked xs s0 t0 s2 t2) (sym (take_more ps i 0 lt)) (IsMarked-more (take i ps) (get_or ps i 0) s0 t0 s1 t1 s2 t2 a b)

none_seen : {P : Type 0} (n k : ℕ) → bit_of (replicate n false) k ≡ true → P
none_seen n k h = elim (cases_lt k n) [
  | inl below ↦ absurd (both_ways true (sym h ∙ get_or-replicate n k false false below) refl)
  | inr past ↦ absurd (both_ways true (sym h ∙ get_or_past (replicate n false) k false (omega (arith, past, length-replicate n false))) refl)
]

-- the boxes whose pins are marked: none at first, and then one more
pub AreDone-none : (l : LooseList) (seen done : List Bool) → done ≡ replicate (length l.boxes) false → AreDone l seen done
AreDone-none l seen done e = record {
  whole = ap length e ∙ length-replicate (length l.boxes) false;
  pins = λ b a h has. none_seen (length l.boxes) b (subst (λ bits. bit_of bits b ≡ true) e h);
}

pub AreDone-more : (l : LooseList) (old new done : List Bool) (b : ℕ) (before after : List ℕ) → AreDone l old done → IsMarked (box_at l.boxes b).ins old before new after → AreDone l new (set done b true)
AreDone-more l old new done b before after is m = record {
  whole = length-set done b true ∙ is.whole;
  pins = λ c a h has. elim (cases_eq c b) [
    | inl e ↦ m.marked a (subst (λ d. Contains (box_at l.boxes d).ins a) e has)
    | inr ne ↦ m.stays a (is.pins c a (sym (get_or-set_other done b c true false ne) ∙ h) has)
  ];
}

-- the input pins of a box are places
pub pins_among : (l : LooseList) (b n : ℕ) (pins : Pins) (ins : List ℕ) → IsLoose l → n ≡ length l.cells → pins ≡ box_at l.boxes b → ins ≡ pins.ins → All (λ k. k < n) ins
pins_among l b n pins ins loose e f g =
    subst (λ m. All (λ k. k < m) ins) (sym e) (subst (All (λ k. k < length l.cells)) (sym (g ∙ ap (λ (q : Pins). q.ins) f)) (loose.pins_there b))

IsSearched-start : (l : LooseList) (start : ℕ) (seen : List Bool) (stack : List ℕ) → IsLoose l → start < length l.cells → IsMarked (operand_places l.boxes (loose_at l start)) (replicate (length l.cells) false) [] seen stack → IsSearched l start seen stack
IsSearched-start l start seen stack loose lt m =
    let n : ℕ = length l.cells in
    record {
      whole = m.whole ∙ length-replicate n false;
      there = λ k has. elim (m.pushed k has) [ inl never ↦ Contains-none k never | inr read ↦ All-contains (λ j. j < n) _ k (loose.there start lt) read ];
      on_stack = λ k has. elim (m.pushed k has) [ inl never ↦ Contains-none k never | inr read ↦ m.marked k read ];
      reached = λ k h. elim (m.only k h) [ inl never ↦ none_seen n k never | inr q ↦ (0, (k, q.0, refl)) ];
      begun = m.marked;
      closed = λ k h. elim (m.only k h) [ inl never ↦ none_seen n k never | inr q ↦ inl q.1 ];
    }

IsSearched-more : (l : LooseList) (start p : ℕ) (s : List Bool) (t : List ℕ) (seen : List Bool) (stack : List ℕ) → IsLoose l → IsSearched l start s (t ++ p ∷ []) → IsMarked (operand_places l.boxes (loose_at l p)) s t seen stack → IsSearched l start seen stack
IsSearched-more l start p s t seen stack loose old m =
    let n : ℕ = length l.cells in
    let top : Contains (t ++ p ∷ []) p = Contains-push t p in
    let under : p < n = old.there p top in
    let walk = old.reached p (old.on_stack p top) in
    record {
      whole = m.whole ∙ old.whole;
      there = λ k has. elim (m.pushed k has) [ inl rest ↦ old.there k (Contains-append_left t (p ∷ []) k rest) | inr read ↦ All-contains (λ j. j < n) _ k (loose.there p under) read ];
      on_stack = λ k has. elim (m.pushed k has) [ inl rest ↦ m.stays k (old.on_stack k (Contains-append_left t (p ∷ []) k rest)) | inr read ↦ m.marked k read ];
      reached = λ k h. elim (m.only k h) [ inl before ↦ old.reached k before | inr q ↦ (suc walk.0, Reaches-push (suc walk.0) l start p k walk.1 q.0) ];
      begun = λ a has. m.stays a (old.begun a has);
      closed = λ k h. elim (m.only k h) [
        | inl before ↦ elim (old.closed k before) [
          | inl on ↦ elim (Contains-push_cases t p k on) [
            | inl rest ↦ inl (m.kept k rest)
            | inr e ↦ inr (λ a has. m.marked a (subst (λ j. Contains (operand_places l.boxes (loose_at l j)) a) (sym e) has))
          ]
          | inr done ↦ inr (λ a has. m.stays a (done a has))
        ]
        | inr q ↦ inl q.1
      ];
    }

seen_on : (l : LooseList) (start : ℕ) (seen : List Bool) → IsSearched l start seen [] → (n m k : ℕ) → bit_of seen m ≡ true → Reaches n l m k → bit_of seen k ≡ true
seen_on l start seen s zero m k is e = subst (λ j. bit_of seen j ≡ true) e is
seen_on l start seen s (suc n) m k is walk = elim (s.closed m is) [
  | inl never ↦ Contains-none m never
  | inr done ↦ seen_on l start seen s n walk.0 k (done walk.0 walk.1) walk.2
]

pub IsSearched-decides : (l : LooseList) (start : ℕ) (seen : List Bool) → IsSearched l start seen [] → (k : ℕ) → Decides (bit_of seen k) (PlaceDependsOn l start k)
IsSearched-decides l start seen s k = (s.reached k, λ walk. seen_on l start seen s walk.0 walk.1.0 k (s.begun walk.1.0 walk.1.1) walk.1.2)

pub on_walk : (l : LooseList) (start : ℕ) (b : Bool) → start < length l.cells → Decides b (PlaceDependsOn l start start) → Decides b (IsOnClosedWalk l start)
on_walk l start b lt d = (λ is. let walk = d.0 is in (lt, walk.0, walk.1), λ walk. d.1 (walk.1, walk.2))

pub not_decided : (b : Bool) (P : Type 0) → Decides b P → b ≡ false → P → ⊥
not_decided b P d is p = both_ways b is (d.1 p)

pub IsSearched-begun : (l : LooseList) (start : ℕ) (none : List Bool) (empty : List ℕ) (seen : List Bool) (stack : List ℕ) → IsLoose l → start < length l.cells → none ≡ replicate (length l.cells) false → empty ≡ []
    → IsMarked (operand_places l.boxes (loose_at l start)) none empty seen stack → IsSearched l start seen stack
IsSearched-begun l start none empty seen stack loose lt e f m =
    IsSearched-start l start seen stack loose lt (subst (λ xs. IsMarked (operand_places l.boxes (loose_at l start)) xs [] seen stack) e (subst (λ xs. IsMarked (operand_places l.boxes (loose_at l start)) none xs seen stack) f m))

pub IsSearched-popped : (l : LooseList) (start p : ℕ) (s : List Bool) (all t : List ℕ) (seen : List Bool) (stack : List ℕ) → IsLoose l → IsSearched l start s all → all ≡ t ++ p ∷ [] → IsMarked (operand_places l.boxes (loose_at l p)) s t seen stack → IsSearched l start seen stack
IsSearched-popped l start p s all t seen stack loose old e m = IsSearched-more l start p s t seen stack loose (subst (IsSearched l start s) e old) m

pub IsSearched-top : (l : LooseList) (start p : ℕ) (s : List Bool) (all t : List ℕ) → IsSearched l start s all → all ≡ t ++ p ∷ [] → p < length l.cells
IsSearched-top l start p s all t old e = old.there p (subst (λ xs. Contains xs p) (sym e) (Contains-push t p))

-- a number above the ranks of the first places and of the next one
pub above_more : (ranks places : List ℕ) (i old new : ℕ) → i < length places → ((a : ℕ) → Contains (take i places) a → slice_index ranks a < old) → old ≤ new → slice_index ranks (get_or places i 0) < new
    → (a : ℕ) → Contains (take (i + 1) places) a → slice_index ranks a < new
above_more ranks places i old new lt before le here a has = elim (Contains-push_cases (take i places) (get_or places i 0) a (subst (λ xs. Contains xs a) (take_more places i 0 lt) has)) [
  | inl h ↦ let under = before a h in omega (arith, under, le)
  | inr e ↦ subst (λ j. slice_index ranks j < new) e here
]

-- ranks that rise do not rise along a walk
ranks_down : (l : LooseList) (ranks : List ℕ) → IsLoose l → CellsRise l ranks → (n k m : ℕ) → k < length l.cells → Reaches n l k m → slice_index ranks m ≤ slice_index ranks k
ranks_down l ranks loose rise zero k m h e = let same = ap (slice_index ranks) e in omega (arith, same)
ranks_down l ranks loose rise (suc n) k m h walk =
    let there = All-contains (λ j. j < length l.cells) _ walk.0 (loose.there k h) walk.1 in
    omega (arith, rise k walk.0 h walk.1, ranks_down l ranks loose rise n walk.0 m there walk.2)

-- where all operands of a cell have lesser ranks, no closed walk leads through it
pub falls_off : (l : LooseList) (ranks : List ℕ) (k bound : ℕ) → IsLoose l → CellsRise l ranks → bound ≤ slice_index ranks k → ((a : ℕ) → Contains (operand_places l.boxes (loose_at l k)) a → slice_index ranks a < bound) → IsOnClosedWalk l k → ⊥
falls_off l ranks k bound loose rise low falls walk =
    let a = walk.2.0 in
    let there = All-contains (λ j. j < length l.cells) _ a (loose.there k walk.0) walk.2.1 in
    absurd (omega (arith, low, falls a walk.2.1, ranks_down l ranks loose rise walk.1 a k there walk.2.2))
