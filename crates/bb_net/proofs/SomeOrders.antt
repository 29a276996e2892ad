-- A list of cells without a closed walk has an order: while some cell has no place, one may get its place, or a box its number,
-- or each cell without place reads another one.
use Rattle.std.proofs.Common.{◌≡◌, ◌≢◌, ℕ, ◌+◌, ◌-◌, ◌<◌, ◌≤◌, ◌⊎◌, zero, suc, List, [], ◌∷◌, ◌++◌, length, map, get_or, set, replicate, Option, Some, None, is_none, cond, refl, sym, subst, ◌∙◌, inl, inr, arith, get_or-set_other}
use Rattle.std.specs.Prelude.{All, Contains, slice_index}
use Rattle.std.proofs.lemmas.Bool.{cases_eq, cases_lt}
use Rattle.std.proofs.lemmas.List.{length-set, length-replicate, length_push, get_or-replicate, get_or_past}
use Rattle.std.proofs.lemmas.List.Folds.{sum_by-replicate}
use Rattle.std.proofs.lemmas.List.Elements.{All-append, All-contains, Contains-get_or, All-map}
use Rattle.bb_net.specs.declared.loose.LooseCell.{LooseCell}
use Rattle.bb_net.specs.declared.loose.LooseCell.TheVariants.{Const, Input, Not, And, Or, Xor, Mux, BoxOut, Copy}
use Rattle.bb_net.specs.Netlists.{Netlist, box_at, first_cells, IsNetlist}
use Rattle.bb_net.specs.Loose.{LooseList, loose_at, operand_places, IsLoose, Reaches, IsOnClosedWalk}
use Rattle.bb_net.specs.Orders.{IsReadyBox, IsOrderOf, OrderExists}
use Rattle.bb_net.specs.Inside.Placings.{IsAt, IsPlaced, IsOpen, IsOutput, given_place, open_count, EndsWithin, InputsEnd}
use Rattle.bb_net.proofs.Finite.{below_or_one}
use Rattle.bb_net.proofs.NetLemmas.{IsNetlist-first}
use Rattle.bb_net.proofs.PlaceLists.{Contains-none, Reaches-push, walk_from_steps, box_number, length-le_from_apart}
use Rattle.bb_net.proofs.PlacedCells.{placed_or_open, at_open, first_more, open_count-set, place_of-at}
use Rattle.bb_net.proofs.LookedAt.{pins_before}
use Rattle.bb_net.proofs.OrderLemmas.{copy_or_kept}
use Rattle.bb_net.proofs.OrderedLists.{IsBegun-first, IsBuilt-first, IsOrderOf-whole, prefix_fits}
use Rattle.bb_net.proofs.SomeParts.{IsPart, put_cell, put_copy, put_box}

-- ---- what waits

all_or_one : (to : List (Option ℕ)) (xs : List ℕ) → ((a : ℕ) → Contains xs a → IsPlaced to a) ⊎ ((a : ℕ) × Contains xs a × IsOpen to a)
all_or_one to xs = elim (below_or_one (λ i. IsPlaced to (slice_index xs i)) (λ i. IsOpen to (slice_index xs i)) (length xs) (λ i h. placed_or_open to (slice_index xs i))) [
  | inl all ↦ inl (pins_before to xs all)
  | inr one ↦ inr (slice_index xs one.0, Contains-get_or xs one.0 0 one.1, one.2)
]

output_or_not : (c : LooseCell) → IsOutput c ⊎ (IsOutput c → ⊥)
output_or_not (Const b) = inr (λ o. cc (o.2))
output_or_not (Input i) = inr (λ o. cc (o.2))
output_or_not (Not a) = inr (λ o. cc (o.2))
output_or_not (And a b) = inr (λ o. cc (o.2))
output_or_not (Or a b) = inr (λ o. cc (o.2))
output_or_not (Xor a b) = inr (λ o. cc (o.2))
output_or_not (Mux a b c) = inr (λ o. cc (o.2))
output_or_not (BoxOut b p) = inl (b, p, refl)
output_or_not (Copy p) = inr (λ o. cc (o.2))

-- a cell that may get its place, and one that waits if it has none
abbrev MayPlace : LooseList → List (Option ℕ) → ℕ → Type 0
MayPlace l to k = IsOpen to k × (IsOutput (loose_at l k) → ⊥) × ((a : ℕ) → Contains (operand_places l.boxes (loose_at l k)) a → IsPlaced to a)

abbrev Waits : LooseList → List (Option ℕ) → ℕ → Type 0
Waits l to k = IsOpen to k → IsOutput (loose_at l k) ⊎ ((a : ℕ) × Contains (operand_places l.boxes (loose_at l k)) a × IsOpen to a)

cell_waits : (l : LooseList) (to : List (Option ℕ)) (k : ℕ) → Waits l to k ⊎ MayPlace l to k
cell_waits l to k = elim (placed_or_open to k) [
  | inl p ↦ inl (λ o. at_open to k p.0 p.1 o)
  | inr o ↦ elim (output_or_not (loose_at l k)) [
    | inl is ↦ inl (λ o. inl is)
    | inr out ↦ elim (all_or_one to (operand_places l.boxes (loose_at l k))) [ inl all ↦ inr (o, out, all) | inr one ↦ inl (λ o. inr one) ]
  ]
]

-- a box that may get its number, and one that has it or waits
abbrev MayNumber : LooseList → List (Option ℕ) → List ℕ → ℕ → Type 0
MayNumber l to numbers b = (Contains numbers b → ⊥) × ((pin : ℕ) → Contains (box_at l.boxes b).ins pin → IsPlaced to pin)

abbrev BoxOccurs : LooseList → List (Option ℕ) → List ℕ → ℕ → Type 0
BoxOccurs l to numbers b = Contains numbers b ⊎ ((pin : ℕ) × Contains (box_at l.boxes b).ins pin × IsOpen to pin)

numbered_or_not : (numbers : List ℕ) (b : ℕ) → Contains numbers b ⊎ (Contains numbers b → ⊥)
numbered_or_not numbers b = elim (below_or_one (λ i. get_or numbers i b ≢ b) (λ i. get_or numbers i b ≡ b) (length numbers) (λ i h. elim (cases_eq (get_or numbers i b) b) [ inl e ↦ inr e | inr ne ↦ inl ne ])) [
  | inl none ↦ inr (λ has. none has.0 has.1 has.2)
  | inr one ↦ inl one
]

box_occurs : (l : LooseList) (to : List (Option ℕ)) (numbers : List ℕ) (b : ℕ) → BoxOccurs l to numbers b ⊎ MayNumber l to numbers b
box_occurs l to numbers b = elim (numbered_or_not numbers b) [
  | inl has ↦ inl (inl has)
  | inr new ↦ elim (all_or_one to (box_at l.boxes b).ins) [ inl all ↦ inr (new, all) | inr one ↦ inl (inr one) ]
]

-- P holds of each number below n, or there is the first of which it does not hold
first_below : (P Q : ℕ → Type 0) (n : ℕ) → ((k : ℕ) → P k ⊎ Q k) → ((k : ℕ) → k < n → P k) ⊎ ((k : ℕ) × (k < n) × Q k × ((j : ℕ) → j < k → P j))
first_below P Q zero each = inl (λ k h. absurd (omega (arith, h)))
first_below P Q (suc n) each = elim (first_below P Q n each) [
  | inl all ↦ elim (each n) [
    | inl here ↦ inl (λ k h. elim (cases_eq k n) [ inl e ↦ subst P (sym e) here | inr ne ↦ all k (omega (arith, h, ne)) ])
    | inr here ↦ inr (n, omega arith, here, all)
  ]
  | inr one ↦ inr (one.0, omega (arith, one.1), one.2, one.3)
]

-- ---- one step

-- where no cell may get its place, a cell from which every walk ends has its place if the boxes have numbers on which it
-- depends
ended_placed : (l : LooseList) (net : Netlist) (to : List (Option ℕ)) (numbers : List ℕ) (c : ℕ) → IsLoose l → IsPart l net to numbers [] → ((k : ℕ) → k < length l.cells → Waits l to k) → IsReadyBox l numbers c
    → (n k m pin : ℕ) → EndsWithin n l k → Contains (box_at l.boxes c).ins pin → Reaches m l pin k → k < length l.cells → IsPlaced to k
ended_placed l net to numbers c loose part waits is zero k m pin end has walk lt = absurd end
ended_placed l net to numbers c loose part waits is (suc n) k m pin end has walk lt = elim (placed_or_open to k) [
  | inl p ↦ p
  | inr free ↦ elim (waits k lt free) [
    | inl output ↦ elim (part.pins k output.0 output.1 lt output.2 (is output.0 (pin, k, m, output.1, has, walk, lt, output.2))) [ inl p ↦ p | inr none ↦ Contains-none k none ]
    | inr one ↦
        let a = one.0 in
        let p = ended_placed l net to numbers c loose part waits is n a (suc m) pin (end a one.1) has (Reaches-push m l pin k a walk one.1) (All-contains (λ j. j < length l.cells) _ a (loose.there k lt) one.1) in
        at_open to a p.0 p.1 one.2
  ]
]

-- the first box that may get its number is the first that is ready
first_ready : (l : LooseList) (net : Netlist) (to : List (Option ℕ)) (numbers : List ℕ) (b : ℕ) → IsLoose l → IsPart l net to numbers [] → ((k : ℕ) → k < length l.cells → Waits l to k)
    → ((c : ℕ) → c < b → BoxOccurs l to numbers c) → (c : ℕ) → c < length l.boxes → (Contains numbers c → ⊥) → IsReadyBox l numbers c → InputsEnd l c → b ≤ c
first_ready l net to numbers b loose part waits before c lt new is end = elim (cases_lt c b) [
  | inl less ↦ elim (before c less) [
    | inl has ↦ absurd (new has)
    | inr one ↦
        let a = one.0 in
        let p = ended_placed l net to numbers c loose part waits is end.0 a 0 a (end.1 a one.1) one.1 refl (All-contains (λ j. j < length l.cells) _ a (loose.pins_there c) one.1) in
        at_open to a p.0 p.1 one.2
  ]
  | inr past ↦ past
]

-- what is left to place
abbrev left : LooseList → List (Option ℕ) → List ℕ → ℕ
left l to numbers = open_count to + (length l.boxes - length numbers)

abbrev HasOrder : LooseList → Type 0
HasOrder l = (net : Netlist) × (numbers : List ℕ) × IsNetlist net × IsOrderOf l net numbers

with_outs : (net : Netlist) (outs : List ℕ) → IsNetlist net → All (λ place. place < length net.cells) outs → IsNetlist (record net { outs = outs })
with_outs net outs kept there = record {
  prefix = kept.prefix;
  ordered = kept.ordered;
  listed = kept.listed;
  driven = kept.driven;
  boxes_ordered = kept.boxes_ordered;
  pins_there = kept.pins_there;
  outs_there = there;
  cells_fit = kept.cells_fit;
  boxes_fit = kept.boxes_fit;
}

finished : (l : LooseList) (net : Netlist) (to : List (Option ℕ)) (numbers : List ℕ) → IsLoose l → IsPart l net to numbers [] → ((k : ℕ) → k < length l.cells → IsPlaced to k) → ((b : ℕ) → b < length l.boxes → BoxOccurs l to numbers b) → HasOrder l
finished l net to numbers loose part all occurs =
    let numbered : (b : ℕ) → b < length l.boxes → Contains numbers b = λ b h. elim (occurs b h) [
      | inl has ↦ has
      | inr one ↦ let p = all one.0 (All-contains (λ j. j < length l.cells) _ one.0 (loose.pins_there b) one.1) in at_open to one.0 p.0 p.1 one.2
    ] in
    let outs : List ℕ = net.outs ++ map (given_place to) l.outs in
    let moved : All (λ place. place < length net.cells) (map (given_place to) l.outs) = All-map (λ place. place < length net.cells) (given_place to) l.outs (λ k d h.
    let p = all (get_or l.outs k d) (loose.outs_there k d h) in subst (λ j. j < length net.cells) (sym (place_of-at to (get_or l.outs k d) p.0 p.1)) (part.built.there (get_or l.outs k d) p.0 p.1)) in (
      record net { outs = outs },
      numbers,
      with_outs net outs part.kept (All-append (λ place. place < length net.cells) net.outs (map (given_place to) l.outs) part.kept.outs_there moved),
      IsOrderOf-whole l net to numbers loose part.begun part.built part.kept all numbered,
    )

-- a cell without place reads one, where no cell may get its place and no box its number
stuck_step : (l : LooseList) (net : Netlist) (to : List (Option ℕ)) (numbers : List ℕ) → IsLoose l → IsPart l net to numbers [] → ((k : ℕ) → k < length l.cells → Waits l to k) → ((b : ℕ) → b < length l.boxes → BoxOccurs l to numbers b)
    → (k : ℕ) → (k < length l.cells) × IsOpen to k → (a : ℕ) × Contains (operand_places l.boxes (loose_at l k)) a × ((a < length l.cells) × IsOpen to a)
stuck_step l net to numbers loose part waits occurs k h = elim (waits k h.0 h.1) [
  | inl output ↦
      let b = output.0 in
      elim (occurs b (box_number l k b output.1 loose h.0 output.2)) [
        | inl has ↦ elim (part.pins k b output.1 h.0 output.2 has) [ inl p ↦ at_open to k p.0 p.1 h.1 | inr none ↦ Contains-none k none ]
        | inr one ↦ (one.0, subst (λ c. Contains (operand_places l.boxes c) one.0) (sym output.2) one.1, (All-contains (λ j. j < length l.cells) _ one.0 (loose.pins_there b) one.1, one.2))
      ]
  | inr one ↦ (one.0, one.1, (All-contains (λ j. j < length l.cells) _ one.0 (loose.there k h.0) one.1, one.2))
]

-- a part with less left to place, or an order
abbrev Goes : LooseList → List (Option ℕ) → List ℕ → Type 0
Goes l to numbers = HasOrder l ⊎ ((net : Netlist) × (after : List (Option ℕ)) × (more : List ℕ) × IsPart l net after more [] × (left l after more < left l to numbers))

place_next : (l : LooseList) (net : Netlist) (to : List (Option ℕ)) (numbers : List ℕ) (k : ℕ) → IsLoose l → IsPart l net to numbers [] → k < length l.cells → MayPlace l to k → Goes l to numbers
place_next l net to numbers k loose part lt may = elim (copy_or_kept (loose_at l k)) [
  | inl copy ↦ let r = put_copy l net to numbers k copy.0 loose part lt may.0 copy.1 may.2 in inr (r.0, r.1, numbers, r.2, omega (arith, r.3))
  | inr keep ↦ let r = put_cell l net to numbers k loose part lt may.0 keep may.1 may.2 in inr (r.0, r.1, numbers, r.2, omega (arith, r.3))
]

number_next : (l : LooseList) (net : Netlist) (to : List (Option ℕ)) (numbers : List ℕ) (b : ℕ) → IsLoose l → IsPart l net to numbers [] → ((k : ℕ) → k < length l.cells → Waits l to k) → b < length l.boxes → MayNumber l to numbers b
    → ((c : ℕ) → c < b → BoxOccurs l to numbers c) → Goes l to numbers
number_next l net to numbers b loose part waits lt may before =
    let r = put_box l net to numbers b loose part lt may.0 may.1 (first_ready l net to numbers b loose part waits before) in
    let few = length-le_from_apart (numbers ++ b ∷ []) (length l.boxes) r.2.begun.apart r.2.begun.there in
    inr (r.0, r.1, numbers ++ b ∷ [], r.2, omega (arith, r.3, few, length_push numbers b))

goes : (l : LooseList) (net : Netlist) (to : List (Option ℕ)) (numbers : List ℕ) → IsLoose l → ((k : ℕ) → IsOnClosedWalk l k → ⊥) → IsPart l net to numbers [] → Goes l to numbers
goes l net to numbers loose free part = elim (below_or_one (Waits l to) (MayPlace l to) (length l.cells) (λ k h. cell_waits l to k)) [
  | inr one ↦ place_next l net to numbers one.0 loose part one.1 one.2
  | inl waits ↦ elim (first_below (BoxOccurs l to numbers) (MayNumber l to numbers) (length l.boxes) (box_occurs l to numbers)) [
    | inr one ↦ number_next l net to numbers one.0 loose part waits one.1 one.2 one.3
    | inl occurs ↦ elim (below_or_one (IsPlaced to) (IsOpen to) (length l.cells) (λ k h. placed_or_open to k)) [
      | inl all ↦ inl (finished l net to numbers loose part all occurs)
      | inr one ↦
          let walk = walk_from_steps l (λ j. (j < length l.cells) × IsOpen to j) (λ j g. g.0) (stuck_step l net to numbers loose part waits occurs) one.0 (one.1, one.2) in
          absurd (free walk.0 walk.1)
    ]
  ]
]

-- ---- from the first cells to the last

ends : (l : LooseList) → IsLoose l → ((k : ℕ) → IsOnClosedWalk l k → ⊥) → (fuel : ℕ) (net : Netlist) (to : List (Option ℕ)) (numbers : List ℕ) → IsPart l net to numbers [] → left l to numbers < fuel → HasOrder l
ends l loose free zero net to numbers part less = absurd (omega (arith, less))
ends l loose free (suc fuel) net to numbers part less = elim (goes l net to numbers loose free part) [
  | inl has ↦ has
  | inr r ↦ ends l loose free fuel r.0 r.1 r.2 r.3 (omega (arith, less, r.4))
]

-- the first cells are where they are
record AreFirst (n first : ℕ) (to : List (Option ℕ)) : Type 0 where
  whole : length to ≡ n
  placed : (k : ℕ) → k < first → IsAt to k k
  free : (k : ℕ) → first ≤ k → IsOpen to k
  count : first + open_count to ≡ n

none_placed : (n : ℕ) → open_count (replicate n None) ≡ n
none_placed n = let count = sum_by-replicate (λ (o : Option ℕ). cond (is_none o) 1 0) n None in omega (arith, count)

first_places : (n first : ℕ) → first ≤ n → (to : List (Option ℕ)) × AreFirst n first to
first_places n zero le = (
  replicate n None,
  record {
    whole = length-replicate n None;
    placed = λ k h. absurd (omega (arith, h));
    free = λ k h. elim (cases_lt k n) [ inl below ↦ get_or-replicate n k None None below | inr past ↦ get_or_past (replicate n None) k None (omega (arith, past, length-replicate {A = Option ℕ} n None)) ];
    count = omega (arith, none_placed n);
  },
)
first_places n (suc first) le =
    let old = first_places n first (omega arith) in
    let to = old.0 in
    let is = old.1 in
    let lt : first < length to = omega (arith, le, is.whole) in
    let here = is.free first (omega arith) in (
      set to first (Some first),
      record {
        whole = length-set to first (Some first) ∙ is.whole;
        placed = λ k h. first_more to first lt is.placed here k (omega (arith, h));
        free = λ k h. get_or-set_other to first k (Some first) None (λ e. omega (arith, h, e)) ∙ is.free k (omega (arith, h));
        count = omega (arith, is.count, open_count-set to first first lt here);
      },
    )

pub order_exists_lem : OrderExists
order_exists_lem = λ l loose free.
    let fits = prefix_fits l loose in
    let first = first_places (length l.cells) (l.inputs + 2) fits in
    let to = first.0 in
    let is = first.1 in
    let part : IsPart l (record { inputs = l.inputs; cells = first_cells l.inputs; boxes = []; outs = [] }) to [] [] = record {
      begun = IsBegun-first l to loose is.whole is.placed is.free;
      built = IsBuilt-first l to loose is.placed is.free is.count;
      kept = IsNetlist-first l.inputs (omega (arith, fits, loose.cells_fit));
      pins = λ k b p h e has. Contains-none b has;
    } in
    ends l loose free (suc (left l to [])) _ to [] part (omega arith)
