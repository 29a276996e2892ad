-- A box gets its number, and its output pins their places.
use Rattle.std.proofs.Common.{◌≡◌, ℕ, ◌+◌, ◌<◌, ◌≤◌, ◌⊎◌, suc, Bool, true, false, cond, List, [], ◌∷◌, ◌++◌, length, map, drop, get_or, set, Option, Some, None, eqb, refl, sym, ap, subst, ◌∙◌, inl, inr, arith, get_or-set_same, get_or-set_other}
use Rattle.std.specs.Prelude.{All, Contains, slice_index, IfSome, IfNone, IsPermutation}
use Rattle.std.specs.Ordering.{nat_cmp, is_lt}
use Rattle.std.specs.BinaryHeap.{IsUpperBound, PopsGreatest}
use Rattle.std.specs.declared.cmp.Ordering.TheVariants.{Less, Equal, Greater}
use Rattle.std.specs.declared.cmp.Reverse.{Reverse}
use Rattle.std.proofs.lemmas.Bool.{cases_lt, both_ways, lt-ltb}
use Rattle.std.proofs.lemmas.List.{get_or-map, length-map, get_or_default, get_or_push, length_push, drop_more}
use Rattle.std.proofs.lemmas.List.Elements.{All-map, All-weaker, All-from_recursion, Contains-get_or}
use Rattle.std.proofs.lemmas.List.Sorted.{Contains-permutation, IsPermutation-map, IsPermutation-sym}
use Rattle.bb_net.specs.declared.cell.Cell.TheVariants as cell
use Rattle.bb_net.specs.declared.loose.LooseCell.TheVariants.{BoxOut}
use Rattle.bb_net.specs.declared.ordering.placing.Waiter.{Waiter}
use Rattle.bb_net.specs.Netlists.{Netlist, Pins, box_at, with_cell, with_box}
use Rattle.bb_net.specs.Values.{bit_of}
use Rattle.bb_net.specs.Loose.{LooseList, loose_at, operand_places, IsLoose}
use Rattle.bb_net.specs.Orders.{IsNoCopy, IsMoved}
use Rattle.bb_net.specs.Inside.Placings.{IsPlaced, given_place, IsBuilt, boxes_of, IsLeastFirst, IsPlacingBy, IsComing}
use Rattle.bb_net.proofs.PlaceLists.{length-le_from_apart}
use Rattle.bb_net.proofs.PlacedCells.{placed_or_open, place_of-at}
use Rattle.bb_net.proofs.Queues.{Contains-cons_cases, IsWaiting-drop}
use Rattle.bb_net.proofs.PlacingSteps.{IsPlacing-put, IsPlacing-number}
use Rattle.bb_net.proofs.LookedAt.{IsPlacing-queue}

-- ---- the heap of the boxes that are ready

pub top_box : (items : List (Reverse ℕ)) (r : Reverse ℕ) → 0 < length items → r ≡ get_or items 0 r → Contains (boxes_of items) r.0
top_box items r some is = (0, omega (arith, some, length-map items (λ (x : Reverse ℕ). x.0)), get_or-map (λ (x : Reverse ℕ). x.0) items 0 r r.0 some ∙ ap (λ (x : Reverse ℕ). x.0) (sym is))

not_less : (a b : ℕ) → is_lt (nat_cmp a b) ≡ false → b ≤ a
not_less a b h = elim (cases_lt a b) [
  | inl less ↦
      let t : is_lt (nat_cmp a b) ≡ true = ap (λ t. is_lt (cond t Less (cond (eqb a b) Equal Greater))) (lt-ltb a b less) in
      absurd (both_ways (is_lt (nat_cmp a b)) h t)
  | inr past ↦ past
]

pub least_box : (items : List (Reverse ℕ)) (r : Reverse ℕ) → IsUpperBound (λ (x : Reverse ℕ) (y : Reverse ℕ). nat_cmp y.0 x.0) r items → All (λ c. r.0 ≤ c) (boxes_of items)
least_box items r h =
    All-map (λ c. r.0 ≤ c) (λ (x : Reverse ℕ). x.0) items
    (All-weaker (λ (y : Reverse ℕ). is_lt (nat_cmp y.0 r.0) ≡ false) (λ (y : Reverse ℕ). r.0 ≤ y.0) (λ y e. not_less y.0 r.0 e) items (All-from_recursion (λ (y : Reverse ℕ). is_lt (nat_cmp y.0 r.0) ≡ false) items h))

-- what is left when the top was taken
pub record IsPopped (old new : List (Reverse ℕ)) (b : ℕ) : Type 0 where
  pub order : IsLeastFirst new
  pub kept : (c : ℕ) → Contains (boxes_of new) c → Contains (boxes_of old) c
  pub dropped : (c : ℕ) → Contains (boxes_of old) c → (b ≡ c) ⊎ Contains (boxes_of new) c

pub popped : (old new : List (Reverse ℕ)) (o : Option (Reverse ℕ)) (r : Reverse ℕ) (len : ℕ) → length old ≡ len → 0 < length old → r ≡ get_or old 0 r → IsLeastFirst old
    → IfSome o (λ x. x ≡ get_or old 0 x) → IfSome o (λ x. IsPermutation old (x ∷ new)) → IfSome o (λ x. PopsGreatest (λ (x : Reverse ℕ) (y : Reverse ℕ). nat_cmp y.0 x.0) old x new) → IfNone o (len ≡ 0)
    → IsPopped old new r.0
popped old new None r len whole some is heap top moves greatest none = absurd (omega (arith, none, some, whole))
popped old new (Some x) r len whole some is heap top moves greatest none =
    let same : r.0 ≡ x.0 = ap (λ (y : Reverse ℕ). y.0) (is ∙ get_or_default old 0 r x some ∙ sym top) in
    let perm : IsPermutation (boxes_of old) (x.0 ∷ boxes_of new) = IsPermutation-map (λ (y : Reverse ℕ). y.0) old (x ∷ new) moves in
    record {
      order = (greatest heap).0;
      kept = λ c has. Contains-permutation (x.0 ∷ boxes_of new) (boxes_of old) c (IsPermutation-sym (boxes_of old) (x.0 ∷ boxes_of new) perm) (suc has.0, omega (arith, has.1), has.2);
      dropped = λ c has. elim (Contains-cons_cases x.0 (boxes_of new) c (Contains-permutation (boxes_of old) (x.0 ∷ boxes_of new) c perm has)) [ inl e ↦ inl (same ∙ e) | inr rest ↦ inr rest ];
    }

-- ---- output pins

-- an output pin of a box is the cell that says so
pub pin_cell : (l : LooseList) (b p : ℕ) → IsLoose l → p < length (box_at l.boxes b).outs → (slice_index (box_at l.boxes b).outs p < length l.cells) × (loose_at l (slice_index (box_at l.boxes b).outs p) ≡ BoxOut b p)
pin_cell l b p loose h = loose.driven b p (slice_index (box_at l.boxes b).outs p) (h, refl)

same_pin : (l : LooseList) (b p q : ℕ) → IsLoose l → p < length (box_at l.boxes b).outs → q < length (box_at l.boxes b).outs → slice_index (box_at l.boxes b).outs p ≡ slice_index (box_at l.boxes b).outs q → p ≡ q
same_pin l b p q loose h g e =
    let one = (pin_cell l b p loose h).1 in
    let other = (pin_cell l b q loose g).1 in
    let is : BoxOut b p ≡ BoxOut b q = sym one ∙ ap (loose_at l) e ∙ other in
    cc is

-- a box has no more output pins than the list has cells
pub pins_few : (l : LooseList) (b : ℕ) → IsLoose l → length (box_at l.boxes b).outs ≤ length l.cells
pins_few l b loose =
    let outs : List ℕ = (box_at l.boxes b).outs in
    length-le_from_apart outs (length l.cells)
    (λ i j d h g e. let same = same_pin l b i j loose (omega arith) g (get_or_default outs i 0 d (omega arith) ∙ e ∙ get_or_default outs j d 0 g) in omega (arith, same, h))
    (λ q has. subst (λ j. j < length l.cells) (get_or_default outs has.0 0 q has.1 ∙ has.2) (pin_cell l b has.0 loose has.1).0)

pub contains_number : (numbers : List ℕ) (number b : ℕ) → number < length numbers → slice_index numbers number ≡ b → Contains numbers b
contains_number numbers number b lt is = (number, lt, get_or_default numbers number b 0 lt ∙ is)

pub IsPlacing-output : (l : LooseList) (net : Netlist) (to : List (Option ℕ)) (numbers : List ℕ) (numbered : List Bool) (waiting : List (List Waiter)) (fresh : List ℕ) (ready : List (Reverse ℕ)) (b number p : ℕ)
    → IsPlacingBy l net to numbers numbered waiting fresh ready [] (drop p (box_at l.boxes b).outs) → IsComing l net to numbers b number p → p < length (box_at l.boxes b).outs
    → IsPlacingBy l (with_cell net (cell.BoxOut number p)) (set to (slice_index (box_at l.boxes b).outs p) (Some (length net.cells))) numbers numbered waiting (fresh ++ slice_index (box_at l.boxes b).outs p ∷ []) ready [] (drop (p + 1) (box_at l.boxes b).outs)
IsPlacing-output l net to numbers numbered waiting fresh ready b number p old coming h =
    let outs : List ℕ = (box_at l.boxes b).outs in
    let k : ℕ = slice_index outs p in
    let pin = pin_cell l b p old.list h in
    let has = contains_number numbers number b coming.there coming.is in
    IsPlacing-put l net to numbers numbered waiting fresh ready [] (drop p outs) (drop (p + 1) outs) k (cell.BoxOut number p) old pin.0 (coming.free p (omega arith) h)
    (subst IsNoCopy (sym pin.1) tt)
    (λ a reads. old.begun.pins b a has (subst (λ c. Contains (operand_places l.boxes c) a) pin.1 reads))
    (subst (λ c. IsMoved (given_place to) numbers c (cell.BoxOut number p)) (sym pin.1) (number, coming.there, coming.is, refl))
    (λ c q e. let is : BoxOut b p ≡ BoxOut c q = sym pin.1 ∙ e in let same : b ≡ c = cc is in subst (Contains numbers) same has)
    (λ m in'. Contains-cons_cases k (drop (p + 1) outs) m (subst (λ xs. Contains xs m) (drop_more outs p 0 h) in'))

pub IsComing-next : (l : LooseList) (net : Netlist) (to : List (Option ℕ)) (numbers : List ℕ) (b number p : ℕ) → IsLoose l → IsBuilt l net to numbers → IsComing l net to numbers b number p → p < length (box_at l.boxes b).outs
    → IsComing l (with_cell net (cell.BoxOut number p)) (set to (slice_index (box_at l.boxes b).outs p) (Some (length net.cells))) numbers b number (p + 1)
IsComing-next l net to numbers b number p loose built coming h =
    let outs : List ℕ = (box_at l.boxes b).outs in
    let new : Pins = record (box_at net.boxes number) { outs = (box_at net.boxes number).outs ++ length net.cells ∷ [] } in
    let within : number < length net.boxes = omega (arith, coming.there, built.box_count) in
    record {
      there = coming.there;
      is = coming.is;
      next = ap (λ (q : Pins). length q.outs) (get_or-set_same net.boxes number new _ within) ∙ length_push (box_at net.boxes number).outs (length net.cells) ∙ ap (λ n. n + 1) coming.next;
      free = λ q le less. get_or-set_other to (slice_index outs p) (slice_index outs q) (Some (length net.cells)) None
          (λ e. let same = same_pin l b q p loose less h e in absurd (omega (arith, same, le))) ∙ coming.free q (omega arith) less;
    }

-- ---- the number

-- there is room for one more box
pub box_room : (l : LooseList) (net : Netlist) (to : List (Option ℕ)) (numbers : List ℕ) (numbered : List Bool) (waiting : List (List Waiter)) (ready : List (Reverse ℕ)) (b : ℕ)
    → IsPlacingBy l net to numbers numbered waiting [] ready [] [] → bit_of numbered b ≡ false → Contains (boxes_of ready) b → All (λ c. b ≤ c) (boxes_of ready) → length numbers + 1 ≤ length l.boxes
box_room l net to numbers numbered waiting ready b s free known least =
    let after = IsPlacing-number l net to numbers numbered waiting ready b s free known least in
    let few = length-le_from_apart (numbers ++ b ∷ []) (length l.boxes) after.begun.apart after.begun.there in
    omega (arith, few, length_push numbers b)

-- the places of the input pins of a box that is ready are there
pub ins_there : (l : LooseList) (net : Netlist) (to : List (Option ℕ)) (numbers : List ℕ) (ins : List ℕ) → IsBuilt l net to numbers → ((pin : ℕ) → Contains ins pin → IsPlaced to pin) → All (λ place. place < length net.cells) (map (given_place to) ins)
ins_there l net to numbers ins built placed =
    All-map (λ place. place < length net.cells) (given_place to) ins
    (λ k d h. let p = placed (get_or ins k d) (Contains-get_or ins k d h) in subst (λ j. j < length net.cells) (sym (place_of-at to (get_or ins k d) p.0 p.1)) (built.there (get_or ins k d) p.0 p.1))

pub IsComing-first : (l : LooseList) (net : Netlist) (to : List (Option ℕ)) (numbers : List ℕ) (numbered : List Bool) (waiting : List (List Waiter)) (ready : List (Reverse ℕ)) (b number : ℕ) (ins : List ℕ)
    → IsPlacingBy l net to numbers numbered waiting [] ready [] [] → bit_of numbered b ≡ false → Contains (boxes_of ready) b → number ≡ length net.boxes → IsComing l (with_box net ins) to (numbers ++ b ∷ []) b number 0
IsComing-first l net to numbers numbered waiting ready b number ins s free known is =
    let lt : b < length l.boxes = s.queue.ready_there b known in
    let same : length numbers ≡ number = sym s.built.box_count ∙ sym is in
    record {
      there = omega (arith, length_push numbers b, same);
      is = get_or_push numbers b 0 number same;
      next = ap (λ (q : Pins). length q.outs) (get_or_push net.boxes (record { ins = ins; outs = [] }) _ number (sym is));
      free = λ p le h. elim (placed_or_open to (slice_index (box_at l.boxes b).outs p)) [
        | inl placed ↦
            let pin = pin_cell l b p s.list h in
            let has = s.begun.outputs (slice_index (box_at l.boxes b).outs p) placed.0 b p placed.1 pin.1 in
            absurd (both_ways (bit_of numbered b) free ((s.reported b lt).1 has))
        | inr o ↦ o
      ];
    }

-- boxes with numbers leave the heap
pub IsPlacing-drop : (l : LooseList) (net : Netlist) (to : List (Option ℕ)) (numbers : List ℕ) (numbered flags : List Bool) (waiting : List (List Waiter)) (fresh : List ℕ) (ready now : List (Reverse ℕ))
    → IsPlacingBy l net to numbers numbered waiting fresh ready [] [] → flags ≡ numbered → IsLeastFirst now → ((c : ℕ) → Contains (boxes_of now) c → Contains (boxes_of ready) c)
    → ((c : ℕ) → Contains (boxes_of ready) c → Contains (boxes_of now) c ⊎ (bit_of flags c ≡ true)) → IsPlacingBy l net to numbers numbered waiting fresh now [] []
IsPlacing-drop l net to numbers numbered flags waiting fresh ready now old e heap kept dropped =
    IsPlacing-queue l net to numbers numbered waiting fresh ready [] [] waiting fresh now [] old
    (IsWaiting-drop l to numbers waiting fresh (boxes_of ready) (boxes_of now) [] kept
    (λ c has new. elim (dropped c has) [
      | inl rest ↦ rest
      | inr reported ↦ absurd (new ((old.reported c (old.queue.ready_there c has)).0 (subst (λ xs. bit_of xs c ≡ true) e reported)))
    ]) old.queue) heap

-- all boxes with numbers are below the number of boxes
pub numbers_few : (l : LooseList) (net : Netlist) (to : List (Option ℕ)) (numbers : List ℕ) (numbered : List Bool) (waiting : List (List Waiter)) (fresh : List ℕ) (ready : List (Reverse ℕ))
    → IsPlacingBy l net to numbers numbered waiting fresh ready [] [] → length numbers ≤ length l.boxes
numbers_few l net to numbers numbered waiting fresh ready s = length-le_from_apart numbers (length l.boxes) s.begun.apart s.begun.there

pub ready_below : (l : LooseList) (net : Netlist) (to : List (Option ℕ)) (numbers : List ℕ) (numbered : List Bool) (waiting : List (List Waiter)) (fresh : List ℕ) (ready : List (Reverse ℕ)) (n : ℕ)
    → IsPlacingBy l net to numbers numbered waiting fresh ready [] [] → n ≡ length numbered → All (λ b. b < n) (boxes_of ready)
ready_below l net to numbers numbered waiting fresh ready n s e = λ k d h. (let there = s.queue.ready_there (get_or (boxes_of ready) k d) (Contains-get_or (boxes_of ready) k d h) in omega (arith, there, s.flags, e))
