-- A list of cells in order: how it begins, why it is stuck, and how it ends.
use Rattle.std.proofs.Common.{◌≡◌, ◌≢◌, ℕ, ◌+◌, ◌<◌, ◌≤◌, ◌⊎◌, zero, suc, Bool, true, false, List, [], ◌∷◌, ◌++◌, length, map, get_or, replicate, Option, refl, sym, ap, subst, ◌∙◌, inl, inr, arith}
use Rattle.std.specs.Prelude.{All, AllPairs, Contains, slice_index}
use Rattle.std.specs.List.{range_with_len}
use Rattle.std.proofs.lemmas.Bool.{cases_lt, cases_Bool, both_ways}
use Rattle.std.proofs.lemmas.List.{length-take, length-replicate, length-map, get_or-replicate, get_or-take, get_or-map, get_or_past, ext_get_or}
use Rattle.std.proofs.lemmas.List.FromFn.{length-map-range_with_len, get_or-map-range_with_len}
use Rattle.std.proofs.lemmas.List.Elements.{All-nil, All-contains, All-append, Contains-get_or, Contains-append_left, Contains-append_right}
use Rattle.bb_net.specs.declared.cell.Cell.{Cell}
use Rattle.bb_net.specs.declared.cell.Cell.TheVariants as cell
use Rattle.bb_net.specs.declared.loose.LooseCell.{LooseCell}
use Rattle.bb_net.specs.declared.loose.LooseCell.TheVariants.{Const, Input, Not, And, Or, Xor, Mux, BoxOut, Copy}
use Rattle.bb_net.specs.declared.ordering.placing.Waiter.{Waiter}
use Rattle.bb_net.specs.declared.ordering.placing.Waiter.TheVariants as waiter
use Rattle.bb_net.specs.Netlists.{Netlist, Pins, cell_at, box_at, first_cells, IsPinAt, IsNetlist}
use Rattle.bb_net.specs.Values.{bit_of}
use Rattle.bb_net.specs.Loose.{LooseList, loose_at, operand_places, IsLoose, IsOnClosedWalk}
use Rattle.bb_net.specs.Orders.{IsNoCopy, IsMoved, IsOrderOf}
use Rattle.bb_net.specs.Inside.Placings.{IsAt, IsPlaced, IsOpen, IsWaiter, waiters_at, given_place, open_count, EndsWithin, IsBegun, IsBuilt, IsLeastFirst, IsPlacingBy, AreAll}
use Rattle.bb_net.proofs.NetLemmas.{length-first_cells}
use Rattle.bb_net.proofs.PlaceLists.{Contains-none, Reaches-push, walk_from_steps, box_number, le-length_from_all, length-le_from_apart}
use Rattle.bb_net.proofs.PlacedCells.{placed_or_open, at_unique, at_open, at_within, place_of-at}
use Rattle.bb_net.proofs.Queues.{Waiter-none}

-- ---- why a list is stuck

ends_no_walk : (l : LooseList) → IsLoose l → (n k : ℕ) → EndsWithin n l k → IsOnClosedWalk l k → ⊥
ends_no_walk l loose zero k end walk = end
ends_no_walk l loose (suc n) k end walk =
    let a = walk.2.0 in
    let below = All-contains (λ j. j < length l.cells) _ a (loose.there k walk.0) walk.2.1 in
    ends_no_walk l loose n a (end a walk.2.1) (below, walk.1, Reaches-push walk.1 l a k a walk.2.2 walk.2.1)

-- a cell with a place is on no closed walk
pub open_on_walk : (l : LooseList) (to : List (Option ℕ)) (numbers : List ℕ) → IsLoose l → IsBegun l to numbers → (k : ℕ) → IsOnClosedWalk l k → IsOpen to k
open_on_walk l to numbers loose begun k walk = elim (placed_or_open to k) [
  | inl p ↦ absurd (ends_no_walk l loose begun.depth k (begun.ends k p.0 p.1) walk)
  | inr o ↦ o
]

-- where no cell has waiters to wake and no box is ready, each open cell reads an open one
stuck_step : (l : LooseList) (net : Netlist) (to : List (Option ℕ)) (numbers : List ℕ) (numbered : List Bool) (waiting : List (List Waiter)) → IsPlacingBy l net to numbers numbered waiting [] [] [] []
    → (k : ℕ) → (k < length l.cells) × IsOpen to k → (a : ℕ) × Contains (operand_places l.boxes (loose_at l k)) a × ((a < length l.cells) × IsOpen to a)
stuck_step l net to numbers numbered waiting s k h = elim (s.queue.cells k h.0 h.1) [
  | inl here ↦ elim here [
    | inl output ↦
        let b = output.0 in
        let new : Contains numbers b → ⊥ = λ has. elim (s.late_pins k b output.1 h.0 output.2 has) [ inl p ↦ at_open to k p.0 p.1 h.1 | inr none ↦ Contains-none k none ] in
        elim (s.queue.boxes b (box_number l k b output.1 s.list h.0 output.2) new) [
          | inl known ↦ elim known [ inl none ↦ Contains-none b none | inr none ↦ Waiter-none (waiter.Box b none.0) none.1 ]
          | inr waits ↦ elim waits.3 [
            | inl o ↦ (waits.0, subst (λ c. Contains (operand_places l.boxes c) waits.0) (sym output.2) waits.2, (All-contains (λ j. j < length l.cells) _ waits.0 (s.list.pins_there b) waits.2, o))
            | inr none ↦ Contains-none waits.0 none
          ]
        ]
    | inr none ↦ Waiter-none (waiter.Cell k) none
  ]
  | inr waits ↦ elim waits.2 [
    | inl o ↦ (waits.0, waits.1, (All-contains (λ j. j < length l.cells) _ waits.0 (s.list.there k h.0) waits.1, o))
    | inr none ↦ Contains-none waits.0 none
  ]
]

pub stuck_walk : (l : LooseList) (net : Netlist) (to : List (Option ℕ)) (numbers : List ℕ) (numbered : List Bool) (waiting : List (List Waiter)) → IsPlacingBy l net to numbers numbered waiting [] [] [] []
    → (k : ℕ) → k < length l.cells → IsOpen to k → (m : ℕ) × IsOnClosedWalk l m
stuck_walk l net to numbers numbered waiting s k h o =
    walk_from_steps l (λ j. (j < length l.cells) × IsOpen to j) (λ j g. g.0) (stuck_step l net to numbers numbered waiting s) k (h, o)

-- ---- how it ends

-- where each cell has its place, each box has its number
all_numbered : (l : LooseList) (net : Netlist) (to : List (Option ℕ)) (numbers : List ℕ) (numbered : List Bool) (waiting : List (List Waiter)) → IsPlacingBy l net to numbers numbered waiting [] [] [] []
    → ((k : ℕ) → k < length l.cells → IsPlaced to k) → (b : ℕ) → b < length l.boxes → Contains numbers b
all_numbered l net to numbers numbered waiting s all b h = elim (cases_Bool (bit_of numbered b)) [
  | inl reported ↦ (s.reported b h).0 reported
  | inr not ↦
      let new : Contains numbers b → ⊥ = λ has. both_ways (bit_of numbered b) not ((s.reported b h).1 has) in
      elim (s.queue.boxes b h new) [
        | inl known ↦ elim known [ inl none ↦ Contains-none b none | inr none ↦ Waiter-none (waiter.Box b none.0) none.1 ]
        | inr waits ↦ elim waits.3 [
          | inl o ↦
              let p = all waits.0 (All-contains (λ j. j < length l.cells) _ waits.0 (s.list.pins_there b) waits.2) in
              at_open to waits.0 p.0 p.1 o
          | inr none ↦ Contains-none waits.0 none
        ]
      ]
]

-- a moved output pin is one of the box with its number
pin_moved : (f : ℕ → ℕ) (numbers : List ℕ) (c : LooseCell) (b p : ℕ) → IsMoved f numbers c (cell.BoxOut b p) → c ≡ BoxOut (slice_index numbers b) p
pin_moved f numbers (Const v) b p m = cc m
pin_moved f numbers (Input v) b p m = cc m
pin_moved f numbers (Not v) b p m = cc m
pin_moved f numbers (And v w) b p m = cc m
pin_moved f numbers (Or v w) b p m = cc m
pin_moved f numbers (Xor v w) b p m = cc m
pin_moved f numbers (Mux u v w) b p m = cc m
pin_moved f numbers (BoxOut d q) b p m =
    let one : b ≡ m.0 = cc (m.3) in
    let other : p ≡ q = cc (m.3) in
    let is : slice_index numbers b ≡ d = ap (slice_index numbers) one ∙ m.2 in
    cc (is, other)
pin_moved f numbers (Copy v) b p m = absurd m

le_from_below : (a b : ℕ) → ((p : ℕ) → p < a → p < b) → a ≤ b
le_from_below zero b h = omega arith
le_from_below (suc a) b h = let g = h a (omega arith) in omega (arith, g)

no_two : (numbers : List ℕ) (i j : ℕ) → AllPairs ◌≢◌ numbers → i < length numbers → j < length numbers → slice_index numbers i ≡ slice_index numbers j → i ≡ j
no_two numbers i j apart h g e = elim (cases_lt i j) [
  | inl less ↦ absurd (apart i j 0 less g e)
  | inr past ↦ elim (cases_lt j i) [ inl less ↦ absurd (apart j i 0 less h (sym e)) | inr other ↦ omega arith ]
]

-- the output pins of a box, moved
outs_moved : (l : LooseList) (net : Netlist) (to : List (Option ℕ)) (numbers : List ℕ) → IsLoose l → length to ≡ length l.cells → IsBuilt l net to numbers → IsNetlist net → AllPairs ◌≢◌ numbers → ((k : ℕ) → k < length l.cells → IsPlaced to k)
    → (b : ℕ) → b < length numbers → (box_at net.boxes b).outs ≡ map (given_place to) (box_at l.boxes (slice_index numbers b)).outs
outs_moved l net to numbers loose whole built kept apart all b h =
    let d : ℕ = slice_index numbers b in
    let old : List ℕ = (box_at l.boxes d).outs in
    let new : List ℕ = (box_at net.boxes b).outs in
    let pin : (p : ℕ) → p < length old → IsPinAt net.boxes b p (given_place to (slice_index old p)) = λ p g. (
    let k : ℕ = slice_index old p in
    let is = loose.driven d p k (g, refl) in
    let at = all k is.0 in
    let m : IsMoved (given_place to) numbers (BoxOut d p) (cell_at net.cells at.0) = subst (λ c. IsMoved (given_place to) numbers c (cell_at net.cells at.0)) is.1 (built.moved k at.0 at.1 (subst IsNoCopy (sym is.1) tt)) in
    let same : m.0 ≡ b = no_two numbers m.0 b apart m.1 h m.2 in
    let cell_is : cell_at net.cells at.0 ≡ cell.BoxOut b p = m.3 ∙ ap (λ j. cell.BoxOut j p) same in
    subst (IsPinAt net.boxes b p) (sym (place_of-at to k at.0 at.1)) (kept.listed at.0 b p (built.there k at.0 at.1) cell_is)) in
    let back : (p : ℕ) → p < length new → p < length old = λ p g. (
    let is = kept.driven b p (slice_index new p) (g, refl) in
    let source = built.all (slice_index new p) is.0 in
    let m = subst (IsMoved (given_place to) numbers (loose_at l source.0)) is.1 (built.moved source.0 (slice_index new p) source.1 source.2) in
    (loose.listed source.0 d p (subst (λ j. source.0 < j) whole (at_within to source.0 (slice_index new p) source.1)) (pin_moved (given_place to) numbers (loose_at l source.0) b p m)).0) in
    let len : length new ≡ length (map (given_place to) old) = omega (arith, le_from_below (length old) (length new) (λ p g. (pin p g).0), le_from_below (length new) (length old) back, length-map old (given_place to)) in
    ext_get_or 0 new (map (given_place to) old) len (λ p g. let low = back p g in (pin p low).1 ∙ sym (get_or-map (given_place to) old p 0 0 low))

pins_are : (q : Pins) (ins outs : List ℕ) → q.ins ≡ ins → q.outs ≡ outs → q ≡ record { ins = ins; outs = outs }
pins_are q ins outs e f = rw (sym e, sym f) refl

-- where each cell has its place and each box its number, the cells are in order
pub IsOrderOf-whole : (l : LooseList) (net : Netlist) (to : List (Option ℕ)) (numbers : List ℕ) → IsLoose l → IsBegun l to numbers → IsBuilt l net to numbers → IsNetlist net
    → ((k : ℕ) → k < length l.cells → IsPlaced to k) → ((b : ℕ) → b < length l.boxes → Contains numbers b) → IsOrderOf l (record net { outs = net.outs ++ map (given_place to) l.outs }) numbers
IsOrderOf-whole l net to numbers loose begun built kept all numbered =
    let n : ℕ = length l.cells in
    let place : (k : ℕ) (h : k < n) → given_place to k ≡ (all k h).0 = λ k h. place_of-at to k (all k h).0 (all k h).1 in
    let count : length numbers ≡ length l.boxes = omega (arith, length-le_from_apart numbers (length l.boxes) begun.apart begun.there, le-length_from_all numbers (length l.boxes) numbered) in
    let there : (b : ℕ) → b < length l.boxes → slice_index numbers b < length l.boxes = λ b h. begun.there (slice_index numbers b) (Contains-get_or numbers b 0 (omega (arith, h, count))) in
    record {
      to = given_place to;
      inputs = built.inputs;
      prefix = λ k h. place_of-at to k k (begun.prefix k h);
      there = λ k h. subst (λ j. j < length net.cells) (sym (place k h)) (built.there k (all k h).0 (all k h).1);
      moved = λ k h keep. subst (λ j. IsMoved (given_place to) numbers (loose_at l k) (cell_at net.cells j)) (sym (place k h)) (built.moved k (all k h).0 (all k h).1 keep);
      apart = λ k m h g keep keep' e. built.apart k m (all k h).0 (all k h).1 (subst (IsAt to m) (sym (place m g) ∙ sym e ∙ place k h) (all m g).1) keep keep';
      all = λ at h. (let source = built.all at h in (source.0, subst (λ j. source.0 < j) begun.whole (at_within to source.0 at source.1), source.2, place_of-at to source.0 at source.1));
      copies = λ k p h is. place k h ∙ sym (place_of-at to p (all k h).0 (begun.copies k p (all k h).0 (all k h).1 is));
      sources = λ k h. begun.sources k (all k h).0 (all k h).1;
      outs = ap (λ xs. xs ++ map (given_place to) l.outs) built.outs;
      box_count = built.box_count ∙ count;
      number_count = count;
      numbers_apart = begun.apart;
      boxes = λ b h. (there b h, pins_are (box_at net.boxes b) _ _ (built.ins b (omega (arith, h, count))) (outs_moved l net to numbers loose begun.whole built kept begun.apart all b (omega (arith, h, count))));
      ready = λ b h. begun.ready b (omega (arith, h, count));
      first = λ b c h g new is. begun.first b c (omega (arith, h, count)) g new is
          (begun.depth, λ pin has. let p = all pin (All-contains (λ j. j < n) _ pin (loose.pins_there c) has) in begun.ends pin p.0 p.1);
    }

pub IsOrderOf-from : (l : LooseList) (net : Netlist) (to : List (Option ℕ)) (numbers : List ℕ) (numbered : List Bool) (waiting : List (List Waiter)) → IsPlacingBy l net to numbers numbered waiting [] [] [] [] → IsNetlist net
    → ((k : ℕ) → k < length l.cells → IsPlaced to k) → IsOrderOf l (record net { outs = net.outs ++ map (given_place to) l.outs }) numbers
IsOrderOf-from l net to numbers numbered waiting s kept all = IsOrderOf-whole l net to numbers s.list s.begun s.built kept all (all_numbered l net to numbers numbered waiting s all)

-- ---- how it begins

pub prefix_fits : (l : LooseList) → IsLoose l → l.inputs + 2 ≤ length l.cells
prefix_fits l loose =
    let len = ap length loose.prefix in
    omega (arith, len, length-take (l.inputs + 2) l.cells, length-map-range_with_len Input 0 l.inputs)

-- a cell that begins the list, and the one that begins the netlist
abbrev IsFirst : LooseCell → Cell → Type 0
IsFirst c d = ((b : Bool) × (c ≡ Const b) × (d ≡ cell.Const b)) ⊎ ((i : ℕ) × (c ≡ Input i) × (d ≡ cell.Input i))

first_pair : (n k : ℕ) → k < n + 2 → IsFirst (get_or (Const false ∷ Const true ∷ map Input (range_with_len 0 n)) k (Const false)) (cell_at (first_cells n) k)
first_pair n zero h = inl (false, refl, refl)
first_pair n (suc zero) h = inl (true, refl, refl)
first_pair n (suc (suc i)) h = inr (i, get_or-map-range_with_len Input 0 n i i (Const false) (omega arith) (omega arith), get_or-map-range_with_len cell.Input 0 n i i (cell.Const false) (omega arith) (omega arith))

first_at : (l : LooseList) → IsLoose l → (k : ℕ) → k < l.inputs + 2 → IsFirst (loose_at l k) (cell_at (first_cells l.inputs) k)
first_at l loose k h =
    let is : loose_at l k ≡ get_or (Const false ∷ Const true ∷ map Input (range_with_len 0 l.inputs)) k (Const false) = sym (get_or-take (l.inputs + 2) l.cells k (Const false) h) ∙ ap (λ xs. get_or xs k (Const false)) loose.prefix in
    subst (λ c. IsFirst c (cell_at (first_cells l.inputs) k)) (sym is) (first_pair l.inputs k h)

first_kept : (c : LooseCell) (d : Cell) → IsFirst c d → IsNoCopy c
first_kept c d f = elim f [ inl q ↦ subst IsNoCopy (sym q.1) tt | inr q ↦ subst IsNoCopy (sym q.1) tt ]

first_moved : (g : ℕ → ℕ) (numbers : List ℕ) (c : LooseCell) (d : Cell) → IsFirst c d → IsMoved g numbers c d
first_moved g numbers c d f = elim f [ inl q ↦ subst (λ e. IsMoved g numbers e d) (sym q.1) q.2 | inr q ↦ subst (λ e. IsMoved g numbers e d) (sym q.1) q.2 ]

first_reads : {P : Type 0} (boxes : List Pins) (c : LooseCell) (d : Cell) (a : ℕ) → IsFirst c d → Contains (operand_places boxes c) a → P
first_reads boxes c d a f has = elim f [
  | inl q ↦ Contains-none a (subst (λ e. Contains (operand_places boxes e) a) q.1 has)
  | inr q ↦ Contains-none a (subst (λ e. Contains (operand_places boxes e) a) q.1 has)
]

first_no_copy : {P : Type 0} (c : LooseCell) (d : Cell) (p : ℕ) → IsFirst c d → c ≡ Copy p → P
first_no_copy c d p f e = elim f [ inl q ↦ cc (q.1, e) | inr q ↦ cc (q.1, e) ]

first_no_output : {P : Type 0} (c : LooseCell) (d : Cell) (b p : ℕ) → IsFirst c d → c ≡ BoxOut b p → P
first_no_output c d b p f e = elim f [ inl q ↦ cc (q.1, e) | inr q ↦ cc (q.1, e) ]

-- only the first cells have places
at_first : (n : ℕ) (to : List (Option ℕ)) → ((k : ℕ) → k < n → IsAt to k k) → ((k : ℕ) → n ≤ k → IsOpen to k) → (k place : ℕ) → IsAt to k place → (k < n) × (place ≡ k)
at_first n to first free k place at = elim (cases_lt k n) [
  | inl below ↦ (below, at_unique to k place k at (first k below))
  | inr past ↦ at_open to k place at (free k past)
]

pub IsBegun-first : (l : LooseList) (to : List (Option ℕ)) → IsLoose l → length to ≡ length l.cells → ((k : ℕ) → k < l.inputs + 2 → IsAt to k k) → ((k : ℕ) → l.inputs + 2 ≤ k → IsOpen to k) → IsBegun l to []
IsBegun-first l to loose whole first free =
    let f : (k place : ℕ) → IsAt to k place → IsFirst (loose_at l k) (cell_at (first_cells l.inputs) k) = λ k place at. first_at l loose k (at_first (l.inputs + 2) to first free k place at).0 in
    record {
      whole = whole;
      prefix = first;
      reads = λ k place a at has. first_reads l.boxes (loose_at l k) _ a (f k place at) has;
      copies = λ k p place at is. first_no_copy (loose_at l k) _ p (f k place at) is;
      sources = λ k place at. (0, k, (refl, first_kept (loose_at l k) _ (f k place at)));
      depth = 1;
      ends = λ k place at. λ a has. first_reads l.boxes (loose_at l k) _ a (f k place at) has;
      outputs = λ k place b p at is. first_no_output (loose_at l k) _ b p (f k place at) is;
      there = λ b has. Contains-none b has;
      apart = λ i j d h g. absurd (omega (arith, g));
      pins = λ b pin has. Contains-none b has;
      ready = λ b h. absurd (omega (arith, h));
      first = λ b c h. absurd (omega (arith, h));
    }

pub IsBuilt-first : (l : LooseList) (to : List (Option ℕ)) → IsLoose l → ((k : ℕ) → k < l.inputs + 2 → IsAt to k k) → ((k : ℕ) → l.inputs + 2 ≤ k → IsOpen to k) → l.inputs + 2 + open_count to ≡ length l.cells
    → IsBuilt l (record { inputs = l.inputs; cells = first_cells l.inputs; boxes = []; outs = [] }) to []
IsBuilt-first l to loose first free count =
    let n : ℕ = l.inputs + 2 in
    let len : length (first_cells l.inputs) ≡ n = length-first_cells l.inputs in
    record {
      inputs = refl;
      outs = refl;
      room = omega (arith, len, count);
      there = λ k place at. (let a = at_first n to first free k place at in omega (arith, a.0, a.1, len));
      moved = λ k place at keep. (let a = at_first n to first free k place at in subst (λ j. IsMoved (given_place to) [] (loose_at l k) (cell_at (first_cells l.inputs) j)) (sym a.1) (first_moved (given_place to) [] (loose_at l k) _ (first_at l loose k a.0)));
      apart = λ k m place at other keep keep'. sym (at_first n to first free k place at).1 ∙ (at_first n to first free m place other).1;
      all = λ place h. (let low : place < n = omega (arith, h, len) in (place, first place low, first_kept (loose_at l place) _ (first_at l loose place low)));
      box_count = refl;
      ins = λ b h. absurd (omega (arith, h));
    }

none_waits : (n a : ℕ) → waiters_at (replicate n []) a ≡ []
none_waits n a = elim (cases_lt a n) [ inl below ↦ get_or-replicate n a [] [] below | inr past ↦ get_or_past (replicate n []) a [] (omega (arith, past, length-replicate {A = List Waiter} n [])) ]

none_reported : {P : Type 0} (n b : ℕ) → bit_of (replicate n false) b ≡ true → P
none_reported n b h = elim (cases_lt b n) [
  | inl below ↦ absurd (both_ways true (sym h ∙ get_or-replicate n b false false below) refl)
  | inr past ↦ absurd (both_ways true (sym h ∙ get_or_past (replicate n false) b false (omega (arith, past, length-replicate n false))) refl)
]

pub IsPlacing-first : (l : LooseList) (to : List (Option ℕ)) (woken : List Waiter) → IsLoose l → length to ≡ length l.cells → ((k : ℕ) → k < l.inputs + 2 → IsAt to k k) → ((k : ℕ) → l.inputs + 2 ≤ k → IsOpen to k) → l.inputs + 2 + open_count to ≡ length l.cells
    → IsLeastFirst [] → AreAll l woken
    → IsPlacingBy l (record { inputs = l.inputs; cells = first_cells l.inputs; boxes = []; outs = [] }) to [] (replicate (length l.boxes) false) (replicate (length l.cells) []) [] [] woken []
IsPlacing-first l to woken loose whole first free count heap all = record {
  list = loose;
  begun = IsBegun-first l to loose whole first free;
  built = IsBuilt-first l to loose first free count;
  queue = record {
    width = length-replicate (length l.cells) [];
    fresh_there = λ a has. Contains-none a has;
    waiters = λ a. subst (λ xs. All (IsWaiter l to) xs) (sym (none_waits (length l.cells) a)) (All-nil (IsWaiter l to));
    woken_there = all.there to;
    cells = λ k h o. inl (inr (all.cells k h));
    boxes = λ b h new. inl (inr (0, all.boxes b h));
    ready_pins = λ b pin has. Contains-none b has;
    ready_there = λ b has. Contains-none b has;
  };
  late_pins = λ k b p h is has. Contains-none b has;
  flags = length-replicate (length l.boxes) false;
  reported = λ b h. (λ t. none_reported (length l.boxes) b t, λ has. Contains-none b has);
  heap = heap;
}

in_range : {X : Type 0} (f : ℕ → X) (n k : ℕ) → k < n → Contains (map f (range_with_len 0 n)) (f k)
in_range f n k h = (k, omega (arith, h, length-map-range_with_len f 0 n), get_or-map-range_with_len f 0 n k k (f k) h (omega arith))

pub AreAll-from : (l : LooseList) → AreAll l (map waiter.Cell (range_with_len 0 (length l.cells)) ++ map (λ b. waiter.Box b 0) (range_with_len 0 (length l.boxes)))
AreAll-from l =
    let n : ℕ = length l.cells in
    let m : ℕ = length l.boxes in
    let cells : List Waiter = map waiter.Cell (range_with_len 0 n) in
    let boxes : List Waiter = map (λ b. waiter.Box b 0) (range_with_len 0 m) in
    record {
      cells = λ k h. Contains-append_left cells boxes (waiter.Cell k) (in_range waiter.Cell n k h);
      boxes = λ b h. Contains-append_right cells boxes (waiter.Box b 0) (in_range (λ b. waiter.Box b 0) m b h);
      there = λ to. All-append (IsWaiter l to) cells boxes
          (λ k d h. let lt : k < n = omega (arith, h, length-map-range_with_len waiter.Cell 0 n) in subst (IsWaiter l to) (sym (get_or-map-range_with_len waiter.Cell 0 n k k d lt (omega arith))) lt)
          (λ k d h. let lt : k < m = omega (arith, h, length-map-range_with_len (λ b. waiter.Box b 0) 0 m) in
          subst (IsWaiter l to) (sym (get_or-map-range_with_len (λ b. waiter.Box b 0) 0 m k k d lt (omega arith))) (lt, omega arith, λ p less. absurd (omega (arith, less))));
    }
