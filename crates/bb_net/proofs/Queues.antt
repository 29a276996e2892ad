-- Who waits for a place, when a cell gets one, a waiter is looked at, and a box gets its number.
use Rattle.std.proofs.Common.{◌≡◌, ◌≢◌, ℕ, ◌<◌, ◌⊎◌, zero, suc, List, [], ◌∷◌, ◌++◌, length, get_or, set, Option, Some, None, sym, ap, subst, ◌∙◌, inl, inr, arith, get_or-set_same, get_or-set_other}
use Rattle.std.specs.Prelude.{All, Contains, slice_index}
use Rattle.std.proofs.lemmas.Bool.{cases_eq}
use Rattle.std.proofs.lemmas.List.{length-set}
use Rattle.std.proofs.lemmas.List.Elements.{All-weaker, All-nil, All-tail, All-push, Contains-push, Contains-push_cases, Contains-append_left}
use Rattle.bb_net.specs.declared.ordering.placing.Waiter.{Waiter}
use Rattle.bb_net.specs.declared.ordering.placing.Waiter.TheVariants as waiter
use Rattle.bb_net.specs.Netlists.{box_at}
use Rattle.bb_net.specs.Loose.{LooseList, loose_at, operand_places}
use Rattle.bb_net.specs.Inside.Placings.{IsPlaced, IsOpen, IsOutput, waiters_at, IsWaiter, IsAwaited, CellWaits, BoxWaits, IsWaiting}
use Rattle.bb_net.proofs.PlacedCells.{placed_old, open_old}

pub Contains-cons_cases : {X : Type 0} (x : X) (xs : List X) (y : X) → Contains (x ∷ xs) y → (x ≡ y) ⊎ Contains xs y
Contains-cons_cases {X} x xs y has = at has.0 has.1 has.2
  where
    at : (i : ℕ) → i < suc (length xs) → get_or (x ∷ xs) i y ≡ y → (x ≡ y) ⊎ Contains xs y
    at zero h e = inl e
    at (suc i) h e = inr (i, omega arith, e)

pub Waiter-none : {P : Type 0} (w : Waiter) → Contains [] w → P
Waiter-none w has = let never : has.0 < 0 = has.1 in absurd (omega (arith, never))

Waiter-more : (l : LooseList) (to : List (Option ℕ)) (k q : ℕ) → IsOpen to k → (w : Waiter) → IsWaiter l to w → IsWaiter l (set to k (Some q)) w
Waiter-more l to k q free (waiter.Cell m) h = h
Waiter-more l to k q free (waiter.Box b pin) h = (h.0, h.1, λ p less. placed_old to k q (slice_index (box_at l.boxes b).ins p) free (h.2 p less))

awaited_more : (to : List (Option ℕ)) (fresh : List ℕ) (k q a : ℕ) → IsAwaited to fresh a → IsAwaited (set to k (Some q)) (fresh ++ k ∷ []) a
awaited_more to fresh k q a h = elim (cases_eq a k) [
  | inl e ↦ inr (subst (Contains (fresh ++ k ∷ [])) (sym e) (Contains-push fresh k))
  | inr ne ↦ elim h [ inl o ↦ inl (get_or-set_other to k a (Some q) None ne ∙ o) | inr f ↦ inr (Contains-append_left fresh (k ∷ []) a f) ]
]

-- a cell gets its place
pub IsWaiting-place : (l : LooseList) (to : List (Option ℕ)) (numbers : List ℕ) (waiting : List (List Waiter)) (fresh ready : List ℕ) (woken : List Waiter) (k q : ℕ) → k < length l.cells → k < length to → IsOpen to k
    → IsWaiting l to numbers waiting fresh ready woken → IsWaiting l (set to k (Some q)) numbers waiting (fresh ++ k ∷ []) ready woken
IsWaiting-place l to numbers waiting fresh ready woken k q lt within free old =
    let new : List (Option ℕ) = set to k (Some q) in
    record {
      width = old.width;
      fresh_there = λ a has. elim (Contains-push_cases fresh k a has) [ inl before ↦ old.fresh_there a before | inr e ↦ subst (λ j. j < length l.cells) e lt ];
      waiters = λ a. All-weaker (IsWaiter l to) (IsWaiter l new) (Waiter-more l to k q free) (waiters_at waiting a) (old.waiters a);
      woken_there = All-weaker (IsWaiter l to) (IsWaiter l new) (Waiter-more l to k q free) woken old.woken_there;
      cells = λ m h o. elim (old.cells m h (open_old to k q m within o)) [
        | inl now ↦ inl now
        | inr waits ↦ inr (waits.0, waits.1, awaited_more to fresh k q waits.0 waits.2, waits.3)
      ];
      boxes = λ b h new'. elim (old.boxes b h new') [
        | inl now ↦ inl now
        | inr waits ↦ inr (waits.0, waits.1, waits.2, awaited_more to fresh k q waits.0 waits.3, waits.4)
      ];
      ready_pins = λ b pin has in'. placed_old to k q pin free (old.ready_pins b pin has in');
      ready_there = old.ready_there;
    }

-- who is woken is looked at: waiters are only added, boxes only become ready, and the one who was looked at waits again, is
-- ready, or needs nothing more
IsWaiting-next : (l : LooseList) (to : List (Option ℕ)) (numbers : List ℕ) (waiting : List (List Waiter)) (fresh ready : List ℕ) (w : Waiter) (woken : List Waiter) (after : List (List Waiter)) (now : List ℕ)
    → IsWaiting l to numbers waiting fresh ready (w ∷ woken)
    → length after ≡ length l.cells → ((a : ℕ) → All (IsWaiter l to) (waiters_at after a)) → ((a : ℕ) (v : Waiter) → Contains (waiters_at waiting a) v → Contains (waiters_at after a) v)
    → ((b : ℕ) → Contains ready b → Contains now b) → ((b pin : ℕ) → Contains now b → Contains (box_at l.boxes b).ins pin → IsPlaced to pin) → ((b : ℕ) → Contains now b → b < length l.boxes)
    → ((k : ℕ) → w ≡ waiter.Cell k → IsOpen to k → IsOutput (loose_at l k) ⊎ CellWaits l to after fresh k)
    → ((b pin : ℕ) → w ≡ waiter.Box b pin → (Contains numbers b → ⊥) → Contains now b ⊎ BoxWaits l to after fresh b)
    → IsWaiting l to numbers after fresh now woken
IsWaiting-next l to numbers waiting fresh ready w woken after now old width there grows more pins boxes cell box = record {
  width = width;
  fresh_there = old.fresh_there;
  waiters = there;
  woken_there = All-tail (IsWaiter l to) w woken old.woken_there;
  cells = λ k h o. elim (old.cells k h o) [
    | inl here ↦ elim here [
      | inl output ↦ inl (inl output)
      | inr has ↦ elim (Contains-cons_cases w woken (waiter.Cell k) has) [
        | inl e ↦ elim (cell k e o) [ inl output ↦ inl (inl output) | inr waits ↦ inr waits ]
        | inr rest ↦ inl (inr rest)
      ]
    ]
    | inr waits ↦ inr (waits.0, waits.1, waits.2, grows waits.0 (waiter.Cell k) waits.3)
  ];
  boxes = λ b h new. elim (old.boxes b h new) [
    | inl here ↦ elim here [
      | inl is ↦ inl (inl (more b is))
      | inr has ↦ elim (Contains-cons_cases w woken (waiter.Box b has.0) has.1) [
        | inl e ↦ elim (box b has.0 e new) [ inl is ↦ inl (inl is) | inr waits ↦ inr waits ]
        | inr rest ↦ inl (inr (has.0, rest))
      ]
    ]
    | inr waits ↦ inr (waits.0, waits.1, waits.2, waits.3, grows waits.0 (waiter.Box b waits.1) waits.4)
  ];
  ready_pins = pins;
  ready_there = boxes;
}

-- one who needs nothing more
pub IsWaiting-skip : (l : LooseList) (to : List (Option ℕ)) (numbers : List ℕ) (waiting : List (List Waiter)) (fresh ready : List ℕ) (k : ℕ) (woken : List Waiter)
    → IsWaiting l to numbers waiting fresh ready (waiter.Cell k ∷ woken) → (IsOpen to k → IsOutput (loose_at l k)) → IsWaiting l to numbers waiting fresh ready woken
IsWaiting-skip l to numbers waiting fresh ready k woken old done =
    IsWaiting-next l to numbers waiting fresh ready (waiter.Cell k) woken waiting ready old old.width old.waiters (λ a v h. h) (λ b h. h) old.ready_pins old.ready_there
    (λ m e o. let same : k ≡ m = cc e in inl (subst (λ j. IsOutput (loose_at l j)) same (done (subst (IsOpen to) (sym same) o))))
    (λ b pin e new. cc e)

-- one more waiter
waiters_there : (l : LooseList) (to : List (Option ℕ)) (waiting : List (List Waiter)) (a : ℕ) (w : Waiter) → a < length waiting → ((m : ℕ) → All (IsWaiter l to) (waiters_at waiting m)) → IsWaiter l to w → (m : ℕ) → All (IsWaiter l to) (waiters_at (set waiting a (waiters_at waiting a ++ w ∷ [])) m)
waiters_there l to waiting a w lt old is m = elim (cases_eq m a) [
  | inl e ↦ subst (λ xs. All (IsWaiter l to) xs) (sym (get_or-set_same waiting a (waiters_at waiting a ++ w ∷ []) [] lt) ∙ ap (waiters_at (set waiting a (waiters_at waiting a ++ w ∷ []))) (sym e)) (All-push (IsWaiter l to) (waiters_at waiting a) w (old a) is)
  | inr ne ↦ subst (λ xs. All (IsWaiter l to) xs) (sym (get_or-set_other waiting a m (waiters_at waiting a ++ w ∷ []) [] ne)) (old m)
]

waiters_grow : (waiting : List (List Waiter)) (a : ℕ) (w : Waiter) → a < length waiting → (m : ℕ) (v : Waiter) → Contains (waiters_at waiting m) v → Contains (waiters_at (set waiting a (waiters_at waiting a ++ w ∷ [])) m) v
waiters_grow waiting a w lt m v has = elim (cases_eq m a) [
  | inl e ↦
      let mine : Contains (waiters_at waiting a) v = subst (λ j. Contains (waiters_at waiting j) v) e has in
      subst (λ xs. Contains xs v) (sym (get_or-set_same waiting a (waiters_at waiting a ++ w ∷ []) [] lt) ∙ ap (waiters_at (set waiting a (waiters_at waiting a ++ w ∷ []))) (sym e)) (Contains-append_left (waiters_at waiting a) (w ∷ []) v mine)
  | inr ne ↦ subst (λ xs. Contains xs v) (sym (get_or-set_other waiting a m (waiters_at waiting a ++ w ∷ []) [] ne)) has
]

waits_now : (waiting : List (List Waiter)) (a : ℕ) (w : Waiter) → a < length waiting → Contains (waiters_at (set waiting a (waiters_at waiting a ++ w ∷ [])) a) w
waits_now waiting a w lt = subst (λ xs. Contains xs w) (sym (get_or-set_same waiting a (waiters_at waiting a ++ w ∷ []) [] lt)) (Contains-push (waiters_at waiting a) w)

-- a cell waits for an operand
pub IsWaiting-cell : (l : LooseList) (to : List (Option ℕ)) (numbers : List ℕ) (waiting : List (List Waiter)) (fresh ready : List ℕ) (k a : ℕ) (woken : List Waiter)
    → IsWaiting l to numbers waiting fresh ready (waiter.Cell k ∷ woken) → k < length l.cells → a < length waiting → IsOpen to a → Contains (operand_places l.boxes (loose_at l k)) a
    → IsWaiting l to numbers (set waiting a (waiters_at waiting a ++ waiter.Cell k ∷ [])) fresh ready woken
IsWaiting-cell l to numbers waiting fresh ready k a woken old lt within free reads =
    let w : Waiter = waiter.Cell k in
    IsWaiting-next l to numbers waiting fresh ready w woken (set waiting a (waiters_at waiting a ++ w ∷ [])) ready old (length-set waiting a (waiters_at waiting a ++ w ∷ []) ∙ old.width)
    (waiters_there l to waiting a w within old.waiters lt) (waiters_grow waiting a w within) (λ b h. h) old.ready_pins old.ready_there
    (λ m e o. let same : k ≡ m = cc e in
    inr (subst (λ j. CellWaits l to (set waiting a (waiters_at waiting a ++ w ∷ [])) fresh j) same (a, reads, inl free, waits_now waiting a w within)))
    (λ b pin e new. cc e)

-- a box waits for an input pin
pub IsWaiting-box : (l : LooseList) (to : List (Option ℕ)) (numbers : List ℕ) (waiting : List (List Waiter)) (fresh ready : List ℕ) (b from pin a : ℕ) (woken : List Waiter)
    → IsWaiting l to numbers waiting fresh ready (waiter.Box b from ∷ woken) → IsWaiter l to (waiter.Box b pin) → a < length waiting → IsOpen to a → Contains (box_at l.boxes b).ins a
    → IsWaiting l to numbers (set waiting a (waiters_at waiting a ++ waiter.Box b pin ∷ [])) fresh ready woken
IsWaiting-box l to numbers waiting fresh ready b from pin a woken old is within free reads =
    let w : Waiter = waiter.Box b pin in
    IsWaiting-next l to numbers waiting fresh ready (waiter.Box b from) woken (set waiting a (waiters_at waiting a ++ w ∷ [])) ready old (length-set waiting a (waiters_at waiting a ++ w ∷ []) ∙ old.width)
    (waiters_there l to waiting a w within old.waiters is) (waiters_grow waiting a w within) (λ c h. h) old.ready_pins old.ready_there
    (λ m e o. cc e)
    (λ c p e new. let same : b ≡ c = cc e in
    inr (subst (BoxWaits l to (set waiting a (waiters_at waiting a ++ w ∷ [])) fresh) same (a, pin, reads, inl free, waits_now waiting a w within)))

-- a box is ready
pub IsWaiting-ready : (l : LooseList) (to : List (Option ℕ)) (numbers : List ℕ) (waiting : List (List Waiter)) (fresh ready : List ℕ) (b from : ℕ) (now : List ℕ) (woken : List Waiter)
    → IsWaiting l to numbers waiting fresh ready (waiter.Box b from ∷ woken) → b < length l.boxes → ((pin : ℕ) → Contains (box_at l.boxes b).ins pin → IsPlaced to pin)
    → Contains now b → ((c : ℕ) → Contains ready c → Contains now c) → ((c : ℕ) → Contains now c → (b ≡ c) ⊎ Contains ready c) → IsWaiting l to numbers waiting fresh now woken
IsWaiting-ready l to numbers waiting fresh ready b from now woken old lt pins has more cases =
    IsWaiting-next l to numbers waiting fresh ready (waiter.Box b from) woken waiting now old old.width old.waiters (λ a v h. h) more
    (λ c pin is in'. elim (cases c is) [ inl e ↦ pins pin (subst (λ j. Contains (box_at l.boxes j).ins pin) (sym e) in') | inr before ↦ old.ready_pins c pin before in' ])
    (λ c is. elim (cases c is) [ inl e ↦ subst (λ j. j < length l.boxes) e lt | inr before ↦ old.ready_there c before ])
    (λ m e o. cc e)
    (λ c p e new. let same : b ≡ c = cc e in inl (subst (Contains now) same has))

-- the waiters of a cell are woken
awaited_rest : (to : List (Option ℕ)) (fresh : List ℕ) (a m : ℕ) → m ≢ a → IsAwaited to (fresh ++ a ∷ []) m → IsAwaited to fresh m
awaited_rest to fresh a m ne h = elim h [
  | inl o ↦ inl o
  | inr f ↦ elim (Contains-push_cases fresh a m f) [ inl before ↦ inr before | inr e ↦ absurd (ne (sym e)) ]
]

pub IsWaiting-wake : (l : LooseList) (to : List (Option ℕ)) (numbers : List ℕ) (waiting : List (List Waiter)) (fresh ready : List ℕ) (a : ℕ)
    → a < length waiting → IsWaiting l to numbers waiting (fresh ++ a ∷ []) ready [] → IsWaiting l to numbers (set waiting a []) fresh ready (waiters_at waiting a)
IsWaiting-wake l to numbers waiting fresh ready a lt old =
    let after : List (List Waiter) = set waiting a [] in
    let other : (m : ℕ) → m ≢ a → waiters_at after m ≡ waiters_at waiting m = λ m ne. get_or-set_other waiting a m [] [] ne in
    record {
      width = length-set waiting a [] ∙ old.width;
      fresh_there = λ m has. old.fresh_there m (Contains-append_left fresh (a ∷ []) m has);
      waiters = λ m. elim (cases_eq m a) [
        | inl e ↦ subst (λ xs. All (IsWaiter l to) xs) (sym (get_or-set_same waiting a [] [] lt) ∙ ap (waiters_at after) (sym e)) (All-nil (IsWaiter l to))
        | inr ne ↦ subst (λ xs. All (IsWaiter l to) xs) (sym (other m ne)) (old.waiters m)
      ];
      woken_there = old.waiters a;
      cells = λ k h o. elim (old.cells k h o) [
        | inl here ↦ elim here [ inl output ↦ inl (inl output) | inr has ↦ Waiter-none (waiter.Cell k) has ]
        | inr waits ↦ elim (cases_eq waits.0 a) [
          | inl e ↦ inl (inr (subst (λ j. Contains (waiters_at waiting j) (waiter.Cell k)) e waits.3))
          | inr ne ↦ inr (waits.0, waits.1, awaited_rest to fresh a waits.0 ne waits.2, subst (λ xs. Contains xs (waiter.Cell k)) (sym (other waits.0 ne)) waits.3)
        ]
      ];
      boxes = λ b h new. elim (old.boxes b h new) [
        | inl here ↦ elim here [ inl is ↦ inl (inl is) | inr has ↦ Waiter-none (waiter.Box b has.0) has.1 ]
        | inr waits ↦ elim (cases_eq waits.0 a) [
          | inl e ↦ inl (inr (waits.1, subst (λ j. Contains (waiters_at waiting j) (waiter.Box b waits.1)) e waits.4))
          | inr ne ↦ inr (waits.0, waits.1, waits.2, awaited_rest to fresh a waits.0 ne waits.3, subst (λ xs. Contains xs (waiter.Box b waits.1)) (sym (other waits.0 ne)) waits.4)
        ]
      ];
      ready_pins = old.ready_pins;
      ready_there = old.ready_there;
    }

-- a box gets its number
pub IsWaiting-number : (l : LooseList) (to : List (Option ℕ)) (numbers : List ℕ) (waiting : List (List Waiter)) (fresh ready : List ℕ) (woken : List Waiter) (b : ℕ)
    → IsWaiting l to numbers waiting fresh ready woken → IsWaiting l to (numbers ++ b ∷ []) waiting fresh ready woken
IsWaiting-number l to numbers waiting fresh ready woken b old = record {
  width = old.width;
  fresh_there = old.fresh_there;
  waiters = old.waiters;
  woken_there = old.woken_there;
  cells = old.cells;
  boxes = λ c h new. old.boxes c h (λ has. new (Contains-append_left numbers (b ∷ []) c has));
  ready_pins = old.ready_pins;
  ready_there = old.ready_there;
}

-- boxes with numbers leave those that are ready
pub IsWaiting-drop : (l : LooseList) (to : List (Option ℕ)) (numbers : List ℕ) (waiting : List (List Waiter)) (fresh ready now : List ℕ) (woken : List Waiter)
    → ((c : ℕ) → Contains now c → Contains ready c) → ((c : ℕ) → Contains ready c → (Contains numbers c → ⊥) → Contains now c)
    → IsWaiting l to numbers waiting fresh ready woken → IsWaiting l to numbers waiting fresh now woken
IsWaiting-drop l to numbers waiting fresh ready now woken less kept old = record {
  width = old.width;
  fresh_there = old.fresh_there;
  waiters = old.waiters;
  woken_there = old.woken_there;
  cells = old.cells;
  boxes = λ c h new. elim (old.boxes c h new) [
    | inl here ↦ elim here [ inl is ↦ inl (inl (kept c is new)) | inr has ↦ inl (inr has) ]
    | inr waits ↦ inr waits
  ];
  ready_pins = λ c pin has in'. old.ready_pins c pin (less c has) in';
  ready_there = λ c has. old.ready_there c (less c has);
}
