-- What a look at one who was woken leaves.
use Rattle.std.proofs.Common.{◌≡◌, ℕ, ◌<◌, suc, Bool, true, false, List, [], ◌∷◌, ◌++◌, length, get_or, set, Option, Some, None, Result, Ok, Err, refl, sym, ap, subst, ◌∙◌, inl, inr, arith}
use Rattle.std.specs.Prelude.{All, Contains, slice_index, is_some, OnOk, IsPermutation}
use Rattle.std.specs.declared.cmp.Reverse.{Reverse}
use Rattle.std.proofs.lemmas.Bool.{both_ways}
use Rattle.std.proofs.lemmas.List.{get_or_read, get_or_default}
use Rattle.std.proofs.lemmas.List.Elements.{All-head, All-nil, Contains-get_or, Contains-push}
use Rattle.std.proofs.lemmas.List.Sorted.{Contains-permutation, IsPermutation-map, IsPermutation-sym}
use Rattle.bb_net.specs.declared.cell.Cell.{Cell}
use Rattle.bb_net.specs.declared.loose.LooseCell.{LooseCell}
use Rattle.bb_net.specs.declared.loose.LooseCell.TheVariants.{Const, Input, Not, And, Or, Xor, Mux, BoxOut, Copy}
use Rattle.bb_net.specs.declared.ordering.placing.Waiter.{Waiter}
use Rattle.bb_net.specs.declared.ordering.placing.Waiter.TheVariants as waiter
use Rattle.bb_net.specs.declared.ordering.placing.Moved.{Moved}
use Rattle.bb_net.specs.declared.ordering.placing.Moved.TheVariants as what
use Rattle.bb_net.specs.Netlists.{Netlist, Pins, box_at, with_cell, MayBeAppended}
use Rattle.bb_net.specs.Loose.{LooseList, loose_at, operand_places}
use Rattle.bb_net.specs.Inside.Placings.{IsPlaced, IsOpen, IsOutput, IsWaiter, waiters_at, IsWaiting, boxes_of, IsLeastFirst, IsPlacingBy, IsResolved}
use Rattle.bb_net.proofs.PlacedCells.{at_open, at_new}
use Rattle.bb_net.proofs.BuiltCells.{follows}
use Rattle.bb_net.proofs.Queues.{Contains-cons_cases, IsWaiting-skip, IsWaiting-cell, IsWaiting-box, IsWaiting-ready, IsWaiting-wake}
use Rattle.bb_net.proofs.PlacingSteps.{IsPlacing-put, IsPlacing-copy}

pub on_ok1 : {A E : Type 0} (r : Result A E) (P R : Type 0) → OnOk r P → (P → R) → OnOk r R
on_ok1 (Ok x) P R p f = f p
on_ok1 (Err e) P R p f = tt

pub on_ok2 : {A E : Type 0} (r : Result A E) (P Q R : Type 0) → OnOk r P → OnOk r Q → (P → Q → R) → OnOk r R
on_ok2 (Ok x) P Q R p q f = f p q
on_ok2 (Err e) P Q R p q f = tt

pub on_ok3 : {A E : Type 0} (r : Result A E) (P Q S R : Type 0) → OnOk r P → OnOk r Q → OnOk r S → (P → Q → S → R) → OnOk r R
on_ok3 (Ok x) P Q S R p q s f = f p q s
on_ok3 (Err e) P Q S R p q s f = tt

none_from : (o : Option ℕ) → is_some o ≡ false → o ≡ None
none_from (Some x) e = absurd (both_ways true e refl)
none_from None e = refl

some_from : (o : Option ℕ) → is_some o ≡ true → (p : ℕ) × (o ≡ Some p)
some_from (Some x) e = (x, refl)
some_from None e = absurd (both_ways false refl e)

-- what a read of a place says
pub open_read : (to : List (Option ℕ)) (k : ℕ) (o : Option ℕ) → k < length to → o ≡ get_or to k o → is_some o ≡ false → IsOpen to k
open_read to k o lt is none = none_from (get_or to k None) (ap is_some (sym (get_or_read to k o lt is None)) ∙ none)

pub placed_read : (to : List (Option ℕ)) (k : ℕ) (o : Option ℕ) → k < length to → o ≡ get_or to k o → is_some o ≡ true → IsPlaced to k
placed_read to k o lt is some = some_from (get_or to k None) (ap is_some (sym (get_or_read to k o lt is None)) ∙ some)

pub placed_some : (to : List (Option ℕ)) (k : ℕ) → is_some (get_or to k None) ≡ true → IsPlaced to k
placed_some to k some = some_from (get_or to k None) some

-- operands are in the list, whatever the boxes are
pub reads_any : (n : ℕ) (boxes : List Pins) (c : LooseCell) → All (λ a. a < n) (operand_places boxes c) → All (λ a. a < n) (operand_places [] c)
reads_any n boxes (Const b) h = h
reads_any n boxes (Input i) h = h
reads_any n boxes (Not a) h = h
reads_any n boxes (And a b) h = h
reads_any n boxes (Or a b) h = h
reads_any n boxes (Xor a b) h = h
reads_any n boxes (Mux a b c) h = h
reads_any n boxes (BoxOut b p) h = All-nil (λ a. a < n)
reads_any n boxes (Copy p) h = h

pub reads_whole : (boxes : List Pins) (c : LooseCell) → (IsOutput c → ⊥) → (a : ℕ) → Contains (operand_places boxes c) a → Contains (operand_places [] c) a
reads_whole boxes (Const b) out a h = h
reads_whole boxes (Input i) out a h = h
reads_whole boxes (Not a) out m h = h
reads_whole boxes (And a b) out m h = h
reads_whole boxes (Or a b) out m h = h
reads_whole boxes (Xor a b) out m h = h
reads_whole boxes (Mux a b c) out m h = h
reads_whole boxes (BoxOut b p) out a h = absurd (out (b, p, refl))
reads_whole boxes (Copy p) out a h = h

pub operand_whole : (boxes : List Pins) (c : LooseCell) (a : ℕ) → Contains (operand_places [] c) a → Contains (operand_places boxes c) a
operand_whole boxes (Const b) a h = h
operand_whole boxes (Input i) a h = h
operand_whole boxes (Not a) m h = h
operand_whole boxes (And a b) m h = h
operand_whole boxes (Or a b) m h = h
operand_whole boxes (Xor a b) m h = h
operand_whole boxes (Mux a b c) m h = h
operand_whole boxes (BoxOut b p) a h = let never : h.0 < 0 = h.1 in absurd (omega (arith, never))
operand_whole boxes (Copy p) a h = h

pub resolved_at : (l : LooseList) (to to' : List (Option ℕ)) (k : ℕ) (c : LooseCell) (m m' : Moved) → to' ≡ to → c ≡ loose_at l k → m' ≡ m → IsResolved to' c m' → IsResolved to (loose_at l k) m
resolved_at l to to' k c m m' e f g h = subst (IsResolved to (loose_at l k)) g (subst (λ d. IsResolved to d m') f (subst (λ xs. IsResolved xs c m') e h))

-- only who waits changes
pub IsPlacing-queue : (l : LooseList) (net : Netlist) (to : List (Option ℕ)) (numbers : List ℕ) (numbered : List Bool) (waiting : List (List Waiter)) (fresh : List ℕ) (ready : List (Reverse ℕ)) (woken : List Waiter) (late : List ℕ)
    (after : List (List Waiter)) (rest : List ℕ) (now : List (Reverse ℕ)) (left : List Waiter)
    → IsPlacingBy l net to numbers numbered waiting fresh ready woken late → IsWaiting l to numbers after rest (boxes_of now) left → IsLeastFirst now → IsPlacingBy l net to numbers numbered after rest now left late
IsPlacing-queue l net to numbers numbered waiting fresh ready woken late after rest now left old queue heap = record {
  list = old.list;
  begun = old.begun;
  built = old.built;
  queue = queue;
  late_pins = old.late_pins;
  flags = old.flags;
  reported = old.reported;
  heap = heap;
}

pub IsPlacing-skip : (l : LooseList) (net : Netlist) (to : List (Option ℕ)) (numbers : List ℕ) (numbered : List Bool) (waiting : List (List Waiter)) (fresh : List ℕ) (ready : List (Reverse ℕ)) (k : ℕ) (woken : List Waiter) (late : List ℕ)
    → IsPlacingBy l net to numbers numbered waiting fresh ready (waiter.Cell k ∷ woken) late → (IsOpen to k → IsOutput (loose_at l k)) → IsPlacingBy l net to numbers numbered waiting fresh ready woken late
IsPlacing-skip l net to numbers numbered waiting fresh ready k woken late old done =
    IsPlacing-queue l net to numbers numbered waiting fresh ready (waiter.Cell k ∷ woken) late waiting fresh ready woken old (IsWaiting-skip l to numbers waiting fresh (boxes_of ready) k woken old.queue done) old.heap

pub woken_cell : (l : LooseList) (net : Netlist) (to : List (Option ℕ)) (numbers : List ℕ) (numbered : List Bool) (waiting : List (List Waiter)) (fresh : List ℕ) (ready : List (Reverse ℕ)) (k : ℕ) (woken : List Waiter) (late : List ℕ)
    → IsPlacingBy l net to numbers numbered waiting fresh ready (waiter.Cell k ∷ woken) late → k < length l.cells
woken_cell l net to numbers numbered waiting fresh ready k woken late old = All-head (IsWaiter l to) (waiter.Cell k) woken old.queue.woken_there

pub IsPlacing-new : (l : LooseList) (net : Netlist) (to : List (Option ℕ)) (numbers : List ℕ) (numbered : List Bool) (waiting : List (List Waiter)) (fresh : List ℕ) (ready : List (Reverse ℕ)) (k : ℕ) (woken : List Waiter) (d : Cell)
    → IsPlacingBy l net to numbers numbered waiting fresh ready (waiter.Cell k ∷ woken) [] → IsOpen to k → IsResolved to (loose_at l k) (what.New d)
    → IsPlacingBy l (with_cell net d) (set to k (Some (length net.cells))) numbers numbered waiting (fresh ++ k ∷ []) ready woken []
IsPlacing-new l net to numbers numbered waiting fresh ready k woken d old free is =
    let q : ℕ = length net.cells in
    let lt = woken_cell l net to numbers numbered waiting fresh ready k woken [] old in
    let put = IsPlacing-put l net to numbers numbered waiting fresh ready (waiter.Cell k ∷ woken) [] [] k d old lt free is.0
    (λ a has. is.2 a (reads_whole l.boxes (loose_at l k) is.1 a has)) (is.3 numbers) (λ b p e. absurd (is.1 (b, p, e))) (λ m none. inr none) in
    IsPlacing-skip l (with_cell net d) (set to k (Some q)) numbers numbered waiting (fresh ++ k ∷ []) ready k woken [] put (λ o. at_open (set to k (Some q)) k q (at_new to k q (omega (arith, lt, old.begun.whole))) o)

pub IsPlacing-same : (l : LooseList) (net : Netlist) (to : List (Option ℕ)) (numbers : List ℕ) (numbered : List Bool) (waiting : List (List Waiter)) (fresh : List ℕ) (ready : List (Reverse ℕ)) (k : ℕ) (woken : List Waiter) (q : ℕ)
    → IsPlacingBy l net to numbers numbered waiting fresh ready (waiter.Cell k ∷ woken) [] → IsOpen to k → IsResolved to (loose_at l k) (what.Same q)
    → IsPlacingBy l net (set to k (Some q)) numbers numbered waiting (fresh ++ k ∷ []) ready woken []
IsPlacing-same l net to numbers numbered waiting fresh ready k woken q old free is =
    let lt = woken_cell l net to numbers numbered waiting fresh ready k woken [] old in
    let put = IsPlacing-copy l net to numbers numbered waiting fresh ready (waiter.Cell k ∷ woken) k is.0 q old lt free is.1 is.2 in
    IsPlacing-skip l net (set to k (Some q)) numbers numbered waiting (fresh ++ k ∷ []) ready k woken [] put (λ o. at_open (set to k (Some q)) k q (at_new to k q (omega (arith, lt, old.begun.whole))) o)

pub IsPlacing-cell_waits : (l : LooseList) (net : Netlist) (to : List (Option ℕ)) (numbers : List ℕ) (numbered : List Bool) (waiting : List (List Waiter)) (fresh : List ℕ) (ready : List (Reverse ℕ)) (k : ℕ) (woken : List Waiter) (a : ℕ)
    → IsPlacingBy l net to numbers numbered waiting fresh ready (waiter.Cell k ∷ woken) [] → a < length waiting → IsOpen to a → Contains (operand_places [] (loose_at l k)) a
    → IsPlacingBy l net to numbers numbered (set waiting a (waiters_at waiting a ++ waiter.Cell k ∷ [])) fresh ready woken []
IsPlacing-cell_waits l net to numbers numbered waiting fresh ready k woken a old within free reads =
    let lt = woken_cell l net to numbers numbered waiting fresh ready k woken [] old in
    IsPlacing-queue l net to numbers numbered waiting fresh ready (waiter.Cell k ∷ woken) [] (set waiting a (waiters_at waiting a ++ waiter.Cell k ∷ [])) fresh ready woken old
    (IsWaiting-cell l to numbers waiting fresh (boxes_of ready) k a woken old.queue lt within free (operand_whole l.boxes (loose_at l k) a reads)) old.heap

-- the pins of a box before a pin are among its input pins
pub pins_before : (to : List (Option ℕ)) (ins : List ℕ) → ((p : ℕ) → p < length ins → IsPlaced to (slice_index ins p)) → (pin : ℕ) → Contains ins pin → IsPlaced to pin
pins_before to ins all pin has = subst (IsPlaced to) (get_or_default ins has.0 0 pin has.1 ∙ has.2) (all has.0 has.1)

pub IsPlacing-box_waits : (l : LooseList) (net : Netlist) (to : List (Option ℕ)) (numbers : List ℕ) (numbered : List Bool) (waiting : List (List Waiter)) (fresh : List ℕ) (ready : List (Reverse ℕ)) (b from : ℕ) (woken : List Waiter) (pin : ℕ)
    → IsPlacingBy l net to numbers numbered waiting fresh ready (waiter.Box b from ∷ woken) [] → pin < length (box_at l.boxes b).ins → ((p : ℕ) → p < pin → IsPlaced to (slice_index (box_at l.boxes b).ins p))
    → slice_index (box_at l.boxes b).ins pin < length waiting → IsOpen to (slice_index (box_at l.boxes b).ins pin)
    → IsPlacingBy l net to numbers numbered (set waiting (slice_index (box_at l.boxes b).ins pin) (waiters_at waiting (slice_index (box_at l.boxes b).ins pin) ++ waiter.Box b pin ∷ [])) fresh ready woken []
IsPlacing-box_waits l net to numbers numbered waiting fresh ready b from woken pin old lt before within free =
    let head = All-head (IsWaiter l to) (waiter.Box b from) woken old.queue.woken_there in
    let ins : List ℕ = (box_at l.boxes b).ins in
    let a : ℕ = slice_index ins pin in
    IsPlacing-queue l net to numbers numbered waiting fresh ready (waiter.Box b from ∷ woken) [] (set waiting a (waiters_at waiting a ++ waiter.Box b pin ∷ [])) fresh ready woken old
    (IsWaiting-box l to numbers waiting fresh (boxes_of ready) b from pin a woken old.queue (head.0, omega (arith, lt), before) within free (Contains-get_or ins pin 0 lt)) old.heap

pub IsPlacing-box_ready : (l : LooseList) (net : Netlist) (to : List (Option ℕ)) (numbers : List ℕ) (numbered : List Bool) (waiting : List (List Waiter)) (fresh : List ℕ) (ready now : List (Reverse ℕ)) (b from : ℕ) (woken : List Waiter) (r : Reverse ℕ)
    → r.0 ≡ b → IsPermutation (r ∷ ready) now → IsLeastFirst now
    → IsPlacingBy l net to numbers numbered waiting fresh ready (waiter.Box b from ∷ woken) [] → ((p : ℕ) → p < length (box_at l.boxes b).ins → IsPlaced to (slice_index (box_at l.boxes b).ins p))
    → IsPlacingBy l net to numbers numbered waiting fresh now woken []
IsPlacing-box_ready l net to numbers numbered waiting fresh ready now b from woken r e moves heap old all =
    let head = All-head (IsWaiter l to) (waiter.Box b from) woken old.queue.woken_there in
    let perm : IsPermutation (r.0 ∷ boxes_of ready) (boxes_of now) = IsPermutation-map (λ (x : Reverse ℕ). x.0) (r ∷ ready) now moves in
    IsPlacing-queue l net to numbers numbered waiting fresh ready (waiter.Box b from ∷ woken) [] waiting fresh now woken old
    (IsWaiting-ready l to numbers waiting fresh (boxes_of ready) b from (boxes_of now) woken old.queue head.0 (pins_before to (box_at l.boxes b).ins all)
    (Contains-permutation (r.0 ∷ boxes_of ready) (boxes_of now) b perm (0, omega arith, e))
    (λ c has. Contains-permutation (r.0 ∷ boxes_of ready) (boxes_of now) c perm (suc has.0, omega (arith, has.1), has.2))
    (λ c has. elim (Contains-cons_cases r.0 (boxes_of ready) c (Contains-permutation (boxes_of now) (r.0 ∷ boxes_of ready) c (IsPermutation-sym (r.0 ∷ boxes_of ready) (boxes_of now) perm) has)) [
      | inl same ↦ inl (sym e ∙ same)
      | inr before ↦ inr before
    ])) heap

-- what a moved cell reads is there
pub follows_at : (l : LooseList) (net : Netlist) (to : List (Option ℕ)) (numbers : List ℕ) (numbered : List Bool) (waiting : List (List Waiter)) (fresh : List ℕ) (ready : List (Reverse ℕ)) (k : ℕ) (woken : List Waiter) (d : Cell)
    → IsPlacingBy l net to numbers numbered waiting fresh ready (waiter.Cell k ∷ woken) [] → IsResolved to (loose_at l k) (what.New d) → MayBeAppended net d
follows_at l net to numbers numbered waiting fresh ready k woken d old is =
    let lt = woken_cell l net to numbers numbered waiting fresh ready k woken [] old in
    follows l net to numbers (loose_at l k) d old.built is.1 (λ i e. old.list.inputs_there k i lt e) is.2 (is.3 numbers)

pub woken_box : (l : LooseList) (net : Netlist) (to : List (Option ℕ)) (numbers : List ℕ) (numbered : List Bool) (waiting : List (List Waiter)) (fresh : List ℕ) (ready : List (Reverse ℕ)) (b from : ℕ) (woken : List Waiter) (late : List ℕ)
    → IsPlacingBy l net to numbers numbered waiting fresh ready (waiter.Box b from ∷ woken) late → IsWaiter l to (waiter.Box b from)
woken_box l net to numbers numbered waiting fresh ready b from woken late old = All-head (IsWaiter l to) (waiter.Box b from) woken old.queue.woken_there

-- the waiters of a cell that has its place are woken
pub fresh_there : (l : LooseList) (net : Netlist) (to : List (Option ℕ)) (numbers : List ℕ) (numbered : List Bool) (waiting : List (List Waiter)) (all fresh : List ℕ) (ready : List (Reverse ℕ)) (woken : List Waiter) (late : List ℕ) (a : ℕ)
    → IsPlacingBy l net to numbers numbered waiting all ready woken late → all ≡ fresh ++ a ∷ [] → a < length waiting
fresh_there l net to numbers numbered waiting all fresh ready woken late a old e =
    let there = old.queue.fresh_there a (subst (λ xs. Contains xs a) (sym e) (Contains-push fresh a)) in
    omega (arith, there, old.queue.width)

pub IsPlacing-wake : (l : LooseList) (net : Netlist) (to : List (Option ℕ)) (numbers : List ℕ) (numbered : List Bool) (waiting : List (List Waiter)) (all fresh : List ℕ) (ready : List (Reverse ℕ)) (a : ℕ)
    → IsPlacingBy l net to numbers numbered waiting all ready [] [] → all ≡ fresh ++ a ∷ [] → IsPlacingBy l net to numbers numbered (set waiting a []) fresh ready (waiters_at waiting a) []
IsPlacing-wake l net to numbers numbered waiting all fresh ready a old e =
    let within = fresh_there l net to numbers numbered waiting all fresh ready [] [] a old e in
    IsPlacing-queue l net to numbers numbered waiting all ready [] [] (set waiting a []) fresh ready (waiters_at waiting a) old
    (IsWaiting-wake l to numbers waiting fresh (boxes_of ready) a within (subst (λ xs. IsWaiting l to numbers waiting xs (boxes_of ready) []) e old.queue)) old.heap
