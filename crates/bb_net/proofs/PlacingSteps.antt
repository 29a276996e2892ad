-- A list partly in order stays one when a cell gets its place and when a box gets its number.
use Rattle.std.proofs.Common.{◌≡◌, ℕ, ◌<◌, ◌≤◌, ◌⊎◌, zero, suc, Bool, true, false, List, [], ◌∷◌, ◌++◌, length, map, set, Option, Some, refl, sym, subst, ◌∙◌, inl, inr, arith, get_or-set_same, get_or-set_other}
use Rattle.std.specs.Prelude.{All, Contains}
use Rattle.std.specs.declared.cmp.Reverse.{Reverse}
use Rattle.std.proofs.lemmas.Bool.{cases_eq, both_ways}
use Rattle.std.proofs.lemmas.List.{length-set, get_or_default}
use Rattle.std.proofs.lemmas.List.Elements.{All-contains, Contains-push, Contains-push_cases, Contains-append_left}
use Rattle.bb_net.specs.declared.cell.Cell.{Cell}
use Rattle.bb_net.specs.declared.loose.LooseCell.TheVariants.{Copy, BoxOut}
use Rattle.bb_net.specs.declared.ordering.placing.Waiter.{Waiter}
use Rattle.bb_net.specs.declared.ordering.placing.Waiter.TheVariants as waiter
use Rattle.bb_net.specs.Netlists.{Netlist, box_at, with_cell, with_box}
use Rattle.bb_net.specs.Values.{bit_of}
use Rattle.bb_net.specs.Loose.{LooseList, loose_at, operand_places, Reaches}
use Rattle.bb_net.specs.Orders.{IsNoCopy, IsMoved, IsReadyBox}
use Rattle.bb_net.specs.Inside.Placings.{IsAt, IsPlaced, IsOpen, given_place, EndsWithin, InputsEnd, boxes_of, IsPlacingBy}
use Rattle.bb_net.proofs.PlaceLists.{Contains-none, Contains-one, Reaches-push}
use Rattle.bb_net.proofs.PlacedCells.{placed_or_open, at_open, at_new, placed_old, IsBegun-more, IsBegun-box}
use Rattle.bb_net.proofs.BuiltCells.{IsBuilt-more, IsBuilt-copy, IsBuilt-box}
use Rattle.bb_net.proofs.Queues.{IsWaiting-place, IsWaiting-number, Waiter-none}

pub late_less : (to : List (Option ℕ)) (k q : ℕ) (late rest : List ℕ) → k < length to → IsOpen to k → ((m : ℕ) → Contains late m → (k ≡ m) ⊎ Contains rest m) → (m : ℕ) → IsPlaced to m ⊎ Contains late m → IsPlaced (set to k (Some q)) m ⊎ Contains rest m
late_less to k q late rest lt free less m h = elim h [
  | inl p ↦ inl (placed_old to k q m free p)
  | inr is ↦ elim (less m is) [ inl e ↦ inl (q, subst (λ j. IsAt (set to k (Some q)) j q) e (at_new to k q lt)) | inr r ↦ inr r ]
]

-- a cell is put into the netlist
pub IsPlacing-put : (l : LooseList) (net : Netlist) (to : List (Option ℕ)) (numbers : List ℕ) (numbered : List Bool) (waiting : List (List Waiter)) (fresh : List ℕ) (ready : List (Reverse ℕ)) (woken : List Waiter) (late rest : List ℕ) (k : ℕ) (c : Cell)
    → IsPlacingBy l net to numbers numbered waiting fresh ready woken late → k < length l.cells → IsOpen to k → IsNoCopy (loose_at l k)
    → ((a : ℕ) → Contains (operand_places l.boxes (loose_at l k)) a → IsPlaced to a) → IsMoved (given_place to) numbers (loose_at l k) c → ((b p : ℕ) → loose_at l k ≡ BoxOut b p → Contains numbers b)
    → ((m : ℕ) → Contains late m → (k ≡ m) ⊎ Contains rest m)
    → IsPlacingBy l (with_cell net c) (set to k (Some (length net.cells))) numbers numbered waiting (fresh ++ k ∷ []) ready woken rest
IsPlacing-put l net to numbers numbered waiting fresh ready woken late rest k c old lt free keep reads moved output less =
    let q : ℕ = length net.cells in
    let within : k < length to = omega (arith, lt, old.begun.whole) in
    record {
      list = old.list;
      begun = IsBegun-more l to numbers k q old.begun within free reads (λ p e. no_copy p e) (0, k, (refl, keep)) output;
      built = IsBuilt-more l net to numbers k c old.begun old.built within free keep reads moved;
      queue = IsWaiting-place l to numbers waiting fresh (boxes_of ready) woken k q lt within free old.queue;
      late_pins = λ m b p h is has. late_less to k q late rest within free less m (old.late_pins m b p h is has);
      flags = old.flags;
      reported = old.reported;
      heap = old.heap;
    }
  where
    no_copy : {P : Type 0} (p : ℕ) → loose_at l k ≡ Copy p → P
    no_copy p e = let never : ⊥ = subst IsNoCopy e keep in absurd never

-- a copy is where its source is
pub IsPlacing-copy : (l : LooseList) (net : Netlist) (to : List (Option ℕ)) (numbers : List ℕ) (numbered : List Bool) (waiting : List (List Waiter)) (fresh : List ℕ) (ready : List (Reverse ℕ)) (woken : List Waiter) (k p q : ℕ)
    → IsPlacingBy l net to numbers numbered waiting fresh ready woken [] → k < length l.cells → IsOpen to k → loose_at l k ≡ Copy p → IsAt to p q
    → IsPlacingBy l net (set to k (Some q)) numbers numbered waiting (fresh ++ k ∷ []) ready woken []
IsPlacing-copy l net to numbers numbered waiting fresh ready woken k p q old lt free is at =
    let within : k < length to = omega (arith, lt, old.begun.whole) in
    let reads : (a : ℕ) → Contains (operand_places l.boxes (loose_at l k)) a → IsPlaced to a = λ a has. old_read a (subst (λ c. Contains (operand_places l.boxes c) a) is has) in
    let source = old.begun.sources p q at in
    let there : p < length l.cells = All-contains (λ j. j < length l.cells) _ p (old.list.there k lt) (subst (λ c. Contains (operand_places l.boxes c) p) (sym is) (0, omega arith, refl)) in
    record {
      list = old.list;
      begun = IsBegun-more l to numbers k q old.begun within free reads (λ r e. same r e) (suc source.0, source.1, (p, there, is, source.2)) (λ b r e. cc (is, e));
      built = IsBuilt-copy l net to numbers k p q old.begun old.built within free is at;
      queue = IsWaiting-place l to numbers waiting fresh (boxes_of ready) woken k q lt within free old.queue;
      late_pins = λ m b r h is' has. late_less to k q [] [] within free (λ j in'. inr in') m (old.late_pins m b r h is' has);
      flags = old.flags;
      reported = old.reported;
      heap = old.heap;
    }
  where
    old_read : (a : ℕ) → Contains (p ∷ []) a → IsPlaced to a
    old_read a has = (q, subst (λ j. IsAt to j q) (Contains-one p a has) at)

    same : (r : ℕ) → loose_at l k ≡ Copy r → IsAt to r q
    same r e = let j : p ≡ r = cc (is, e) in subst (λ i. IsAt to i q) j at

-- while no cell has waiters to wake, a cell from which every walk ends has its place where the boxes have numbers on which
-- its value depends
ended_placed : (l : LooseList) (net : Netlist) (to : List (Option ℕ)) (numbers : List ℕ) (numbered : List Bool) (waiting : List (List Waiter)) (ready : List (Reverse ℕ)) (c : ℕ)
    → IsPlacingBy l net to numbers numbered waiting [] ready [] [] → IsReadyBox l numbers c
    → (n k m pin : ℕ) → EndsWithin n l k → Contains (box_at l.boxes c).ins pin → Reaches m l pin k → k < length l.cells → IsPlaced to k
ended_placed l net to numbers numbered waiting ready c s is zero k m pin end has walk lt = absurd end
ended_placed l net to numbers numbered waiting ready c s is (suc n) k m pin end has walk lt = elim (placed_or_open to k) [
  | inl p ↦ p
  | inr free ↦ elim (s.queue.cells k lt free) [
    | inl here ↦ elim here [
      | inl output ↦ elim (s.late_pins k output.0 output.1 lt output.2 (is output.0 (pin, k, m, output.1, has, walk, lt, output.2))) [ inl p ↦ p | inr none ↦ Contains-none k none ]
      | inr none ↦ Waiter-none (waiter.Cell k) none
    ]
    | inr waits ↦ elim waits.2 [
      | inl o ↦
          let a = waits.0 in
          let below = All-contains (λ j. j < length l.cells) _ a (s.list.there k lt) waits.1 in
          let p = ended_placed l net to numbers numbered waiting ready c s is n a (suc m) pin (end a waits.1) has (Reaches-push m l pin k a walk waits.1) below in
          at_open to a p.0 p.1 o
      | inr none ↦ Contains-none waits.0 none
    ]
  ]
]

-- then a box without number that is ready is among those that are known to be
ready_known : (l : LooseList) (net : Netlist) (to : List (Option ℕ)) (numbers : List ℕ) (numbered : List Bool) (waiting : List (List Waiter)) (ready : List (Reverse ℕ)) (c : ℕ)
    → IsPlacingBy l net to numbers numbered waiting [] ready [] [] → c < length l.boxes → (Contains numbers c → ⊥) → IsReadyBox l numbers c → InputsEnd l c → Contains (boxes_of ready) c
ready_known l net to numbers numbered waiting ready c s lt new is end = elim (s.queue.boxes c lt new) [
  | inl here ↦ elim here [ inl known ↦ known | inr none ↦ Waiter-none (waiter.Box c none.0) none.1 ]
  | inr waits ↦ elim waits.3 [
    | inl o ↦
        let a = waits.0 in
        let below = All-contains (λ j. j < length l.cells) _ a (s.list.pins_there c) waits.2 in
        let p = ended_placed l net to numbers numbered waiting ready c s is end.0 a 0 a (end.1 a waits.2) waits.2 refl below in
        at_open to a p.0 p.1 o
    | inr none ↦ Contains-none waits.0 none
  ]
]

-- the least of the boxes that are known to be ready gets its number
pub IsPlacing-number : (l : LooseList) (net : Netlist) (to : List (Option ℕ)) (numbers : List ℕ) (numbered : List Bool) (waiting : List (List Waiter)) (ready : List (Reverse ℕ)) (b : ℕ)
    → IsPlacingBy l net to numbers numbered waiting [] ready [] [] → bit_of numbered b ≡ false → Contains (boxes_of ready) b → All (λ c. b ≤ c) (boxes_of ready)
    → IsPlacingBy l (with_box net (map (given_place to) (box_at l.boxes b).ins)) to (numbers ++ b ∷ []) (set numbered b true) waiting [] ready [] (box_at l.boxes b).outs
IsPlacing-number l net to numbers numbered waiting ready b s free known least =
    let lt : b < length l.boxes = s.queue.ready_there b known in
    let new : Contains numbers b → ⊥ = λ has. both_ways (bit_of numbered b) free ((s.reported b lt).1 has) in
    record {
      list = s.list;
      begun = IsBegun-box l to numbers b s.begun lt new (λ pin has. s.queue.ready_pins b pin known has)
          (λ c h other is end. All-contains (λ j. b ≤ j) (boxes_of ready) c least (ready_known l net to numbers numbered waiting ready c s h other is end));
      built = IsBuilt-box l net to numbers b s.built;
      queue = IsWaiting-number l to numbers waiting [] (boxes_of ready) [] b s.queue;
      late_pins = λ m c p h is has. elim (Contains-push_cases numbers b c has) [
        | inl before ↦ elim (s.late_pins m c p h is before) [ inl placed ↦ inl placed | inr none ↦ Contains-none m none ]
        | inr e ↦ inr (subst (λ j. Contains (box_at l.boxes j).outs m) (sym e) (pin_of m c p h is))
      ];
      flags = length-set numbered b true ∙ s.flags;
      reported = λ c h. (
        λ t. elim (cases_eq c b) [
          | inl e ↦ subst (Contains (numbers ++ b ∷ [])) (sym e) (Contains-push numbers b)
          | inr ne ↦ Contains-append_left numbers (b ∷ []) c ((s.reported c h).0 (sym (get_or-set_other numbered b c true false ne) ∙ t))
        ],
        λ has. elim (cases_eq c b) [
          | inl e ↦ subst (λ j. bit_of (set numbered b true) j ≡ true) (sym e) (get_or-set_same numbered b true false (omega (arith, lt, s.flags)))
          | inr ne ↦ elim (Contains-push_cases numbers b c has) [
            | inl before ↦ get_or-set_other numbered b c true false ne ∙ (s.reported c h).1 before
            | inr e ↦ absurd (ne (sym e))
          ]
        ],
      );
      heap = s.heap;
    }
  where
    pin_of : (m c p : ℕ) → m < length l.cells → loose_at l m ≡ BoxOut c p → Contains (box_at l.boxes c).outs m
    pin_of m c p h is = let pin = s.list.listed m c p h is in (p, pin.0, get_or_default (box_at l.boxes c).outs p m 0 pin.0 ∙ pin.1)
