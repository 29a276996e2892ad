-- A part of a list of cells is in order: one more cell, or one more box with its output pins.
use Rattle.std.proofs.Common.{◌≡◌, ℕ, ◌+◌, ◌<◌, ◌≤◌, ◌⊎◌, zero, suc, List, [], ◌∷◌, ◌++◌, length, map, drop, set, Option, Some, refl, sym, ap, subst, ◌∙◌, inl, inr, arith}
use Rattle.std.specs.Prelude.{Contains, slice_index}
use Rattle.std.proofs.lemmas.List.{get_or_push, length_push, drop_more, drop_all, get_or_default}
use Rattle.std.proofs.lemmas.List.Elements.{All-contains, Contains-push_cases}
use Rattle.bb_net.specs.declared.cell.Cell.{Cell}
use Rattle.bb_net.specs.declared.cell.Cell.TheVariants as cell
use Rattle.bb_net.specs.declared.loose.LooseCell.{LooseCell}
use Rattle.bb_net.specs.declared.loose.LooseCell.TheVariants.{Const, Input, Not, And, Or, Xor, Mux, BoxOut, Copy}
use Rattle.bb_net.specs.Netlists.{Netlist, Pins, box_at, IsNetlist, MayBeAppended, with_cell, with_box}
use Rattle.bb_net.specs.Loose.{LooseList, loose_at, operand_places, IsLoose}
use Rattle.bb_net.specs.Orders.{IsNoCopy, IsMoved, IsReadyBox}
use Rattle.bb_net.specs.Inside.Placings.{IsAt, IsPlaced, IsOpen, IsOutput, given_place, open_count, InputsEnd, IsBegun, IsBuilt, IsComing}
use Rattle.bb_net.proofs.PlaceLists.{Contains-none, length-le_from_apart}
use Rattle.bb_net.proofs.PlacedCells.{placed_or_open, open_count-set, IsBegun-more, IsBegun-box}
use Rattle.bb_net.proofs.BuiltCells.{IsBuilt-more, IsBuilt-copy, IsBuilt-box, follows, room_for}
use Rattle.bb_net.proofs.BuildLemmas.{IsNetlist-push, IsNetlist-box}
use Rattle.bb_net.proofs.LookedAt.{operand_whole}
use Rattle.bb_net.proofs.PlacingSteps.{late_less}
use Rattle.bb_net.proofs.Queues.{Contains-cons_cases}
use Rattle.bb_net.proofs.BoxSteps.{pin_cell, contains_number, IsComing-next, ins_there}

-- some cells have their places and some boxes their numbers; output pins that come late are those of a box that has its
-- number just now
pub record IsPart (l : LooseList) (net : Netlist) (to : List (Option ℕ)) (numbers late : List ℕ) : Type 0 where
  pub begun : IsBegun l to numbers
  pub built : IsBuilt l net to numbers
  pub kept : IsNetlist net
  pub pins : (k b p : ℕ) → k < length l.cells → loose_at l k ≡ BoxOut b p → Contains numbers b → IsPlaced to k ⊎ Contains late k

-- a cell of the list is put into the netlist
IsPart-put : (l : LooseList) (net : Netlist) (to : List (Option ℕ)) (numbers late rest : List ℕ) (k : ℕ) (c : Cell) → IsLoose l → IsPart l net to numbers late → k < length l.cells → IsOpen to k → IsNoCopy (loose_at l k)
    → ((a : ℕ) → Contains (operand_places l.boxes (loose_at l k)) a → IsPlaced to a) → IsMoved (given_place to) numbers (loose_at l k) c → MayBeAppended net c → ((b p : ℕ) → loose_at l k ≡ BoxOut b p → Contains numbers b)
    → ((m : ℕ) → Contains late m → (k ≡ m) ⊎ Contains rest m) → IsPart l (with_cell net c) (set to k (Some (length net.cells))) numbers rest
IsPart-put l net to numbers late rest k c loose old lt free keep reads moved may output less =
    let q : ℕ = length net.cells in
    let within : k < length to = omega (arith, lt, old.begun.whole) in
    record {
      begun = IsBegun-more l to numbers k q old.begun within free reads (λ p e. no_copy p e) (0, k, (refl, keep)) output;
      built = IsBuilt-more l net to numbers k c old.begun old.built within free keep reads moved;
      kept = IsNetlist-push net c old.kept (room_for l net to numbers k loose old.built within free) may;
      pins = λ m b p h is has. late_less to k q late rest within free less m (old.pins m b p h is has);
    }
  where
    no_copy : {P : Type 0} (p : ℕ) → loose_at l k ≡ Copy p → P
    no_copy p e = let never : ⊥ = subst IsNoCopy e keep in absurd never

-- a cell but a copy and an output pin has its cell in the netlist
moved_cell : (f : ℕ → ℕ) (numbers : List ℕ) (c : LooseCell) → IsNoCopy c → (IsOutput c → ⊥) → (d : Cell) × IsMoved f numbers c d
moved_cell f numbers (Const b) keep not_out = (cell.Const b, refl)
moved_cell f numbers (Input i) keep not_out = (cell.Input i, refl)
moved_cell f numbers (Not a) keep not_out = (cell.Not (f a), refl)
moved_cell f numbers (And a b) keep not_out = (cell.And (f a) (f b), refl)
moved_cell f numbers (Or a b) keep not_out = (cell.Or (f a) (f b), refl)
moved_cell f numbers (Xor a b) keep not_out = (cell.Xor (f a) (f b), refl)
moved_cell f numbers (Mux a b c) keep not_out = (cell.Mux (f a) (f b) (f c), refl)
moved_cell f numbers (BoxOut b p) keep not_out = absurd (not_out (b, p, refl))
moved_cell f numbers (Copy p) keep not_out = absurd keep

-- a part with fewer cells that have no place
abbrev pub Grows : LooseList → List (Option ℕ) → List ℕ → List ℕ → Type 0
Grows l to numbers late = (net : Netlist) × (after : List (Option ℕ)) × IsPart l net after numbers late × (open_count after + 1 ≡ open_count to)

pub put_cell : (l : LooseList) (net : Netlist) (to : List (Option ℕ)) (numbers : List ℕ) (k : ℕ) → IsLoose l → IsPart l net to numbers [] → k < length l.cells → IsOpen to k → IsNoCopy (loose_at l k) → (IsOutput (loose_at l k) → ⊥)
    → ((a : ℕ) → Contains (operand_places l.boxes (loose_at l k)) a → IsPlaced to a) → Grows l to numbers []
put_cell l net to numbers k loose old lt free keep not_out reads =
    let within : k < length to = omega (arith, lt, old.begun.whole) in
    let m = moved_cell (given_place to) numbers (loose_at l k) keep not_out in
    let may = follows l net to numbers (loose_at l k) m.0 old.built not_out (λ i e. loose.inputs_there k i lt e) (λ a has. reads a (operand_whole l.boxes (loose_at l k) a has)) m.1 in (
      with_cell net m.0,
      set to k (Some (length net.cells)),
      IsPart-put l net to numbers [] [] k m.0 loose old lt free keep reads m.1 may (λ b p e. absurd (not_out (b, p, e))) (λ j in'. inr in'),
      open_count-set to k (length net.cells) within free,
    )

pub put_copy : (l : LooseList) (net : Netlist) (to : List (Option ℕ)) (numbers : List ℕ) (k p : ℕ) → IsLoose l → IsPart l net to numbers [] → k < length l.cells → IsOpen to k → loose_at l k ≡ Copy p
    → ((a : ℕ) → Contains (operand_places l.boxes (loose_at l k)) a → IsPlaced to a) → Grows l to numbers []
put_copy l net to numbers k p loose old lt free is reads =
    let within : k < length to = omega (arith, lt, old.begun.whole) in
    let has : Contains (operand_places l.boxes (loose_at l k)) p = subst (λ c. Contains (operand_places l.boxes c) p) (sym is) (0, omega arith, refl) in
    let at = reads p has in
    let q : ℕ = at.0 in
    let source = old.begun.sources p q at.1 in
    let there : p < length l.cells = All-contains (λ j. j < length l.cells) _ p (loose.there k lt) has in (
      net,
      set to k (Some q),
      record {
        begun = IsBegun-more l to numbers k q old.begun within free reads (λ r e. let same : p ≡ r = cc (is, e) in subst (λ i. IsAt to i q) same at.1) (suc source.0, source.1, (p, there, is, source.2)) (λ b r e. cc (is, e));
        built = IsBuilt-copy l net to numbers k p q old.begun old.built within free is at.1;
        kept = old.kept;
        pins = λ m b r h e has'. late_less to k q [] [] within free (λ j in'. inr in') m (old.pins m b r h e has');
      },
      open_count-set to k q within free,
    )

-- the next output pin of the box that has its number just now
IsPart-output : (l : LooseList) (net : Netlist) (to : List (Option ℕ)) (numbers : List ℕ) (b number p : ℕ) → IsLoose l → IsPart l net to numbers (drop p (box_at l.boxes b).outs) → IsComing l net to numbers b number p
    → p < length (box_at l.boxes b).outs → IsPart l (with_cell net (cell.BoxOut number p)) (set to (slice_index (box_at l.boxes b).outs p) (Some (length net.cells))) numbers (drop (p + 1) (box_at l.boxes b).outs)
IsPart-output l net to numbers b number p loose old coming h =
    let outs : List ℕ = (box_at l.boxes b).outs in
    let k : ℕ = slice_index outs p in
    let pin = pin_cell l b p loose h in
    let has = contains_number numbers number b coming.there coming.is in
    IsPart-put l net to numbers (drop p outs) (drop (p + 1) outs) k (cell.BoxOut number p) loose old pin.0 (coming.free p (omega arith) h)
    (subst IsNoCopy (sym pin.1) tt)
    (λ a reads. old.begun.pins b a has (subst (λ c. Contains (operand_places l.boxes c) a) pin.1 reads))
    (subst (λ c. IsMoved (given_place to) numbers c (cell.BoxOut number p)) (sym pin.1) (number, coming.there, coming.is, refl))
    (omega (arith, coming.there, old.built.box_count), sym coming.next)
    (λ c q e. let is : BoxOut b p ≡ BoxOut c q = sym pin.1 ∙ e in let same : b ≡ c = cc is in subst (Contains numbers) same has)
    (λ m in'. Contains-cons_cases k (drop (p + 1) outs) m (subst (λ xs. Contains xs m) (drop_more outs p 0 h) in'))

-- all output pins that are to come
put_outputs : (l : LooseList) (numbers : List ℕ) (b number : ℕ) → IsLoose l → (n p : ℕ) (net : Netlist) (to : List (Option ℕ)) → n + p ≡ length (box_at l.boxes b).outs → IsPart l net to numbers (drop p (box_at l.boxes b).outs) → IsComing l net to numbers b number p
    → (after : Netlist) × (places : List (Option ℕ)) × IsPart l after places numbers [] × (open_count places ≤ open_count to)
put_outputs l numbers b number loose zero p net to e part coming = (net, to, subst (IsPart l net to numbers) (drop_all p (box_at l.boxes b).outs (omega (arith, e))) part, omega arith)
put_outputs l numbers b number loose (suc n) p net to e part coming =
    let outs : List ℕ = (box_at l.boxes b).outs in
    let h : p < length outs = omega (arith, e) in
    let k : ℕ = slice_index outs p in
    let rest = put_outputs l numbers b number loose n (p + 1) (with_cell net (cell.BoxOut number p)) (set to k (Some (length net.cells))) (omega (arith, e))
    (IsPart-output l net to numbers b number p loose part coming h) (IsComing-next l net to numbers b number p loose part.built coming h) in
    let fewer = open_count-set to k (length net.cells) (omega (arith, (pin_cell l b p loose h).0, part.begun.whole)) (coming.free p (omega arith) h) in
    (rest.0, rest.1, rest.2, omega (arith, rest.3, fewer))

-- a box gets its number, and its output pins their places
pub put_box : (l : LooseList) (net : Netlist) (to : List (Option ℕ)) (numbers : List ℕ) (b : ℕ) → IsLoose l → IsPart l net to numbers [] → b < length l.boxes → (Contains numbers b → ⊥)
    → ((pin : ℕ) → Contains (box_at l.boxes b).ins pin → IsPlaced to pin) → ((c : ℕ) → c < length l.boxes → (Contains numbers c → ⊥) → IsReadyBox l numbers c → InputsEnd l c → b ≤ c)
    → (after : Netlist) × (places : List (Option ℕ)) × IsPart l after places (numbers ++ b ∷ []) [] × (open_count places ≤ open_count to)
put_box l net to numbers b loose old lt new pins least =
    let outs : List ℕ = (box_at l.boxes b).outs in
    let ins : List ℕ = map (given_place to) (box_at l.boxes b).ins in
    let begun = IsBegun-box l to numbers b old.begun lt new pins least in
    let few = length-le_from_apart (numbers ++ b ∷ []) (length l.boxes) begun.apart begun.there in
    let number : ℕ = length numbers in
    let count : number ≡ length net.boxes = sym old.built.box_count in
    let part : IsPart l (with_box net ins) to (numbers ++ b ∷ []) (drop 0 outs) = record {
      begun = begun;
      built = IsBuilt-box l net to numbers b old.built;
      kept = IsNetlist-box net ins old.kept (omega (arith, few, length_push numbers b, count, loose.boxes_fit)) (ins_there l net to numbers (box_at l.boxes b).ins old.built pins);
      pins = λ m c p h is has. elim (Contains-push_cases numbers b c has) [
        | inl before ↦ elim (old.pins m c p h is before) [ inl placed ↦ inl placed | inr none ↦ Contains-none m none ]
        | inr e ↦ inr (subst (λ j. Contains (box_at l.boxes j).outs m) (sym e) (let pin = loose.listed m c p h is in (p, pin.0, get_or_default (box_at l.boxes c).outs p m 0 pin.0 ∙ pin.1)))
      ];
    } in
    let coming : IsComing l (with_box net ins) to (numbers ++ b ∷ []) b number 0 = record {
      there = omega (arith, length_push numbers b);
      is = get_or_push numbers b 0 number refl;
      next = ap (λ (q : Pins). length q.outs) (get_or_push net.boxes (record { ins = ins; outs = [] }) _ number (sym count));
      free = λ p le h. elim (placed_or_open to (slice_index outs p)) [
        | inl placed ↦ absurd (new (old.begun.outputs (slice_index outs p) placed.0 b p placed.1 (pin_cell l b p loose h).1))
        | inr o ↦ o
      ];
    } in
    put_outputs l (numbers ++ b ∷ []) b number loose (length outs) 0 (with_box net ins) to (omega arith) part coming
