-- The netlist of the cells that have places stays one when a cell, a copy or a box is added.
use Rattle.std.proofs.Common.{◌≡◌, ℕ, ◌+◌, ◌<◌, ◌^◌, suc, List, [], ◌∷◌, ◌++◌, length, map, set, Option, Some, refl, sym, ap, subst, ◌∙◌, inl, inr, arith, get_or-set_same, get_or-set_other}
use Rattle.std.specs.Prelude.{Contains, slice_index}
use Rattle.std.proofs.lemmas.Bool.{cases_eq, cases_lt}
use Rattle.std.proofs.lemmas.List.{length-set, length_push, get_or_push, get_or_append_left, set_past}
use Rattle.std.proofs.lemmas.List.Elements.{Contains-get_or}
use Rattle.bb_net.specs.declared.cell.Cell.{Cell}
use Rattle.bb_net.specs.declared.cell.Cell.TheVariants as cell
use Rattle.bb_net.specs.declared.loose.LooseCell.{LooseCell}
use Rattle.bb_net.specs.declared.loose.LooseCell.TheVariants.{Const, Input, Not, And, Or, Xor, Mux, BoxOut, Copy}
use Rattle.bb_net.specs.Netlists.{Netlist, Pins, cell_at, box_at, MayBeAppended, with_pin, with_cell, with_box}
use Rattle.bb_net.specs.Loose.{LooseList, loose_at, operand_places, IsLoose}
use Rattle.bb_net.specs.Orders.{IsNoCopy, IsMoved}
use Rattle.bb_net.specs.Inside.Placings.{IsAt, IsPlaced, IsOpen, IsOutput, given_place, IsBegun, IsBuilt}
use Rattle.bb_net.proofs.PlacedCells.{place_of-at, at_old, at_new, at_cases, place_of-old, open_count-set, index_cases}

first_of : (a : ℕ) (xs : List ℕ) → Contains (a ∷ xs) a
first_of a xs = (0, omega arith, refl)

second_of : (a b : ℕ) (xs : List ℕ) → Contains (a ∷ b ∷ xs) b
second_of a b xs = (1, omega arith, refl)

third_of : (a b c : ℕ) → Contains (a ∷ b ∷ c ∷ []) c
third_of a b c = (2, omega arith, refl)

-- a cell is moved by what its operands' places are
IsMoved-same : (f g : ℕ → ℕ) (numbers : List ℕ) (boxes : List Pins) (c : LooseCell) (d : Cell) → ((a : ℕ) → Contains (operand_places boxes c) a → f a ≡ g a) → IsMoved f numbers c d → IsMoved g numbers c d
IsMoved-same f g numbers boxes (Const b) d same m = m
IsMoved-same f g numbers boxes (Input i) d same m = m
IsMoved-same f g numbers boxes (Not a) d same m = m ∙ ap cell.Not (same a (first_of a []))
IsMoved-same f g numbers boxes (And a b) d same m = m ∙ (let p = same a (first_of a (b ∷ [])) in let q = same b (second_of a b []) in cc)
IsMoved-same f g numbers boxes (Or a b) d same m = m ∙ (let p = same a (first_of a (b ∷ [])) in let q = same b (second_of a b []) in cc)
IsMoved-same f g numbers boxes (Xor a b) d same m = m ∙ (let p = same a (first_of a (b ∷ [])) in let q = same b (second_of a b []) in cc)
IsMoved-same f g numbers boxes (Mux a b c) d same m = m ∙ (let p = same a (first_of a (b ∷ c ∷ [])) in let q = same b (second_of a b (c ∷ [])) in let r = same c (third_of a b c) in cc)
IsMoved-same f g numbers boxes (BoxOut b p) d same m = m
IsMoved-same f g numbers boxes (Copy p) d same m = m

IsMoved-numbers : (f : ℕ → ℕ) (numbers : List ℕ) (n : ℕ) (c : LooseCell) (d : Cell) → IsMoved f numbers c d → IsMoved f (numbers ++ n ∷ []) c d
IsMoved-numbers f numbers n (Const b) d m = m
IsMoved-numbers f numbers n (Input i) d m = m
IsMoved-numbers f numbers n (Not a) d m = m
IsMoved-numbers f numbers n (And a b) d m = m
IsMoved-numbers f numbers n (Or a b) d m = m
IsMoved-numbers f numbers n (Xor a b) d m = m
IsMoved-numbers f numbers n (Mux a b c) d m = m
IsMoved-numbers f numbers n (BoxOut b p) d m = (m.0, omega (arith, m.1, length_push numbers n), get_or_append_left numbers (n ∷ []) 0 m.0 m.1 ∙ m.2, m.3)
IsMoved-numbers f numbers n (Copy p) d m = m

length-with_pin : (boxes : List Pins) (n : ℕ) (c : Cell) → length (with_pin boxes n c) ≡ length boxes
length-with_pin boxes n (cell.Const v) = refl
length-with_pin boxes n (cell.Input v) = refl
length-with_pin boxes n (cell.Not v) = refl
length-with_pin boxes n (cell.And v w) = refl
length-with_pin boxes n (cell.Or v w) = refl
length-with_pin boxes n (cell.Xor v w) = refl
length-with_pin boxes n (cell.Mux v w u) = refl
length-with_pin boxes n (cell.BoxOut v w) = length-set boxes v _

-- a new output pin leaves the input pins of the boxes
ins-set : (boxes : List Pins) (v : ℕ) (outs : List ℕ) (k : ℕ) → (box_at (set boxes v (record (box_at boxes v) { outs = outs })) k).ins ≡ (box_at boxes k).ins
ins-set boxes v outs k = elim (cases_lt v (length boxes)) [
  | inl there ↦ elim (cases_eq k v) [
    | inl e ↦ ap (λ j. (box_at (set boxes v (record (box_at boxes v) { outs = outs })) j).ins) e ∙ ap (λ (q : Pins). q.ins) (get_or-set_same boxes v (record (box_at boxes v) { outs = outs }) _ there) ∙ ap (λ j. (box_at boxes j).ins) (sym e)
    | inr ne ↦ ap (λ (q : Pins). q.ins) (get_or-set_other boxes v k (record (box_at boxes v) { outs = outs }) _ ne)
  ]
  | inr past ↦ ap (λ (bs : List Pins). (box_at bs k).ins) (set_past boxes v (record (box_at boxes v) { outs = outs }) past)
]

ins-with_pin : (boxes : List Pins) (n : ℕ) (c : Cell) (k : ℕ) → (box_at (with_pin boxes n c) k).ins ≡ (box_at boxes k).ins
ins-with_pin boxes n (cell.Const v) k = refl
ins-with_pin boxes n (cell.Input v) k = refl
ins-with_pin boxes n (cell.Not v) k = refl
ins-with_pin boxes n (cell.And v w) k = refl
ins-with_pin boxes n (cell.Or v w) k = refl
ins-with_pin boxes n (cell.Xor v w) k = refl
ins-with_pin boxes n (cell.Mux v w u) k = refl
ins-with_pin boxes n (cell.BoxOut v w) k = ins-set boxes v _ k

map_same : (f g : ℕ → ℕ) (xs : List ℕ) → ((a : ℕ) → Contains xs a → f a ≡ g a) → map f xs ≡ map g xs
map_same f g [] same = refl
map_same f g (x ∷ xs) same =
    let first = same x (first_of x xs) in
    let rest = map_same f g xs (λ a has. same a (suc has.0, omega (arith, has.1), has.2)) in
    cc

-- the input pins of the boxes with numbers stay where they are
ins_stay : (l : LooseList) (to : List (Option ℕ)) (numbers : List ℕ) (k q : ℕ) → IsBegun l to numbers → IsOpen to k → (b : ℕ) → b < length numbers
    → map (given_place to) (box_at l.boxes (slice_index numbers b)).ins ≡ map (given_place (set to k (Some q))) (box_at l.boxes (slice_index numbers b)).ins
ins_stay l to numbers k q begun free b h = map_same (given_place to) (given_place (set to k (Some q))) (box_at l.boxes (slice_index numbers b)).ins (λ a has. place_of-old to k q a free (begun.pins (slice_index numbers b) a (Contains-get_or numbers b 0 h) has))

old_moved : (l : LooseList) (to : List (Option ℕ)) (numbers : List ℕ) (k q m place : ℕ) (d : Cell) → IsBegun l to numbers → IsOpen to k → IsAt to m place → IsMoved (given_place to) numbers (loose_at l m) d → IsMoved (given_place (set to k (Some q))) numbers (loose_at l m) d
old_moved l to numbers k q m place d begun free at moved =
    IsMoved-same (given_place to) (given_place (set to k (Some q))) numbers l.boxes (loose_at l m) d (λ a has. place_of-old to k q a free (begun.reads m place a at has)) moved

pub IsBuilt-more : (l : LooseList) (net : Netlist) (to : List (Option ℕ)) (numbers : List ℕ) (k : ℕ) (c : Cell) → IsBegun l to numbers → IsBuilt l net to numbers → k < length to → IsOpen to k → IsNoCopy (loose_at l k)
    → ((a : ℕ) → Contains (operand_places l.boxes (loose_at l k)) a → IsPlaced to a) → IsMoved (given_place to) numbers (loose_at l k) c → IsBuilt l (with_cell net c) (set to k (Some (length net.cells))) numbers
IsBuilt-more l net to numbers k c begun old lt free keep reads is =
    let q : ℕ = length net.cells in
    let new : List (Option ℕ) = set to k (Some q) in
    let len : length (net.cells ++ c ∷ []) ≡ q + 1 = length_push net.cells c in
    record {
      inputs = old.inputs;
      outs = old.outs;
      room = omega (arith, old.room, len, open_count-set to k q lt free);
      there = λ m place at. elim (at_cases to k q m place lt at) [ inl e ↦ omega (arith, e.1, len) | inr o ↦ omega (arith, old.there m place o, len) ];
      moved = λ m place at kept. elim (at_cases to k q m place lt at) [
        | inl e ↦
            let here : cell_at (net.cells ++ c ∷ []) place ≡ c = get_or_push net.cells c _ place (sym e.1) in
            let mine : IsMoved (given_place new) numbers (loose_at l k) c = IsMoved-same (given_place to) (given_place new) numbers l.boxes (loose_at l k) c (λ a has. place_of-old to k q a free (reads a has)) is in
            subst (IsMoved (given_place new) numbers (loose_at l m)) (sym here) (subst (λ j. IsMoved (given_place new) numbers (loose_at l j) c) (sym e.0) mine)
        | inr o ↦
            let here : cell_at (net.cells ++ c ∷ []) place ≡ cell_at net.cells place = get_or_append_left net.cells (c ∷ []) _ place (old.there m place o) in
            subst (IsMoved (given_place new) numbers (loose_at l m)) (sym here) (old_moved l to numbers k q m place (cell_at net.cells place) begun free o (old.moved m place o kept))
      ];
      apart = λ m j place at other kept kept'. elim (at_cases to k q m place lt at) [
        | inl e ↦ elim (at_cases to k q j place lt other) [ inl f ↦ e.0 ∙ sym f.0 | inr o ↦ absurd (omega (arith, e.1, old.there j place o)) ]
        | inr o ↦ elim (at_cases to k q j place lt other) [ inl f ↦ absurd (omega (arith, f.1, old.there m place o)) | inr p ↦ old.apart m j place o p kept kept' ]
      ];
      all = λ place h. elim (index_cases q place (omega (arith, h, len))) [
        | inl below ↦ let a = old.all place below in (a.0, at_old to k q a.0 place free a.1, a.2)
        | inr e ↦ (k, subst (IsAt new k) e (at_new to k q lt), keep)
      ];
      box_count = length-with_pin net.boxes q c ∙ old.box_count;
      ins = λ b h. ins-with_pin net.boxes q c b ∙ old.ins b h ∙ ins_stay l to numbers k q begun free b h;
    }

no_copy : {P : Type 0} (c : LooseCell) (p : ℕ) → c ≡ Copy p → IsNoCopy c → P
no_copy c p e kept = let never : ⊥ = subst IsNoCopy e kept in absurd never

pub IsBuilt-copy : (l : LooseList) (net : Netlist) (to : List (Option ℕ)) (numbers : List ℕ) (k p q : ℕ) → IsBegun l to numbers → IsBuilt l net to numbers → k < length to → IsOpen to k → loose_at l k ≡ Copy p → IsAt to p q → IsBuilt l net (set to k (Some q)) numbers
IsBuilt-copy l net to numbers k p q begun old lt free copy occurs =
    let new : List (Option ℕ) = set to k (Some q) in
    record {
      inputs = old.inputs;
      outs = old.outs;
      room = omega (arith, old.room, open_count-set to k q lt free);
      there = λ m place at. elim (at_cases to k q m place lt at) [ inl e ↦ subst (λ j. j < length net.cells) (sym e.1) (old.there p q occurs) | inr o ↦ old.there m place o ];
      moved = λ m place at kept. elim (at_cases to k q m place lt at) [
        | inl e ↦ no_copy (loose_at l m) p (ap (loose_at l) e.0 ∙ copy) kept
        | inr o ↦ old_moved l to numbers k q m place (cell_at net.cells place) begun free o (old.moved m place o kept)
      ];
      apart = λ m j place at other kept kept'. elim (at_cases to k q m place lt at) [
        | inl e ↦ no_copy (loose_at l m) p (ap (loose_at l) e.0 ∙ copy) kept
        | inr o ↦ elim (at_cases to k q j place lt other) [ inl f ↦ no_copy (loose_at l j) p (ap (loose_at l) f.0 ∙ copy) kept' | inr r ↦ old.apart m j place o r kept kept' ]
      ];
      all = λ place h. (let a = old.all place h in (a.0, at_old to k q a.0 place free a.1, a.2));
      box_count = old.box_count;
      ins = λ b h. old.ins b h ∙ ins_stay l to numbers k q begun free b h;
    }

pub IsBuilt-box : (l : LooseList) (net : Netlist) (to : List (Option ℕ)) (numbers : List ℕ) (b : ℕ) → IsBuilt l net to numbers → IsBuilt l (with_box net (map (given_place to) (box_at l.boxes b).ins)) to (numbers ++ b ∷ [])
IsBuilt-box l net to numbers b old =
    let n : ℕ = length numbers in
    let q : Pins = record { ins = map (given_place to) (box_at l.boxes b).ins; outs = [] } in
    let len : length (numbers ++ b ∷ []) ≡ n + 1 = length_push numbers b in
    record {
      inputs = old.inputs;
      outs = old.outs;
      room = old.room;
      there = old.there;
      moved = λ m place at kept. IsMoved-numbers (given_place to) numbers b (loose_at l m) (cell_at net.cells place) (old.moved m place at kept);
      apart = old.apart;
      all = old.all;
      box_count = omega (arith, len, length_push net.boxes q, old.box_count);
      ins = λ i h. elim (index_cases n i (omega (arith, h, len))) [
        | inl below ↦
            ap (λ (r : Pins). r.ins) (get_or_append_left net.boxes (q ∷ []) _ i (omega (arith, below, old.box_count))) ∙ old.ins i below
            ∙ ap (λ j. map (given_place to) (box_at l.boxes j).ins) (sym (get_or_append_left numbers (b ∷ []) 0 i below))
        | inr e ↦
            ap (λ (r : Pins). r.ins) (get_or_push net.boxes q _ i (old.box_count ∙ e))
            ∙ ap (λ j. map (given_place to) (box_at l.boxes j).ins) (sym (get_or_push numbers b 0 i e))
      ];
    }

-- the moved cell may follow
pub follows : (l : LooseList) (net : Netlist) (to : List (Option ℕ)) (numbers : List ℕ) (c : LooseCell) (d : Cell) → IsBuilt l net to numbers → (IsOutput c → ⊥) → ((i : ℕ) → c ≡ Input i → i < l.inputs)
    → ((a : ℕ) → Contains (operand_places [] c) a → IsPlaced to a) → IsMoved (given_place to) numbers c d → MayBeAppended net d
follows l net to numbers c d built out ins reads m = by_case c out ins reads m
  where
    under : (a : ℕ) → IsPlaced to a → given_place to a < length net.cells
    under a p = subst (λ j. j < length net.cells) (sym (place_of-at to a p.0 p.1)) (built.there a p.0 p.1)

    by_case : (c : LooseCell) → (IsOutput c → ⊥) → ((i : ℕ) → c ≡ Input i → i < l.inputs) → ((a : ℕ) → Contains (operand_places [] c) a → IsPlaced to a) → IsMoved (given_place to) numbers c d → MayBeAppended net d
    by_case (Const b) out ins reads m = subst (MayBeAppended net) (sym m) tt
    by_case (Input i) out ins reads m = subst (MayBeAppended net) (sym m) (subst (λ n. i < n) (sym built.inputs) (ins i refl))
    by_case (Not a) out ins reads m = subst (MayBeAppended net) (sym m) (under a (reads a (first_of a [])))
    by_case (And a b) out ins reads m = subst (MayBeAppended net) (sym m) (under a (reads a (first_of a (b ∷ []))), under b (reads b (second_of a b [])))
    by_case (Or a b) out ins reads m = subst (MayBeAppended net) (sym m) (under a (reads a (first_of a (b ∷ []))), under b (reads b (second_of a b [])))
    by_case (Xor a b) out ins reads m = subst (MayBeAppended net) (sym m) (under a (reads a (first_of a (b ∷ []))), under b (reads b (second_of a b [])))
    by_case (Mux a b c) out ins reads m = subst (MayBeAppended net) (sym m) (under a (reads a (first_of a (b ∷ c ∷ []))), under b (reads b (second_of a b (c ∷ []))), under c (reads c (third_of a b c)))
    by_case (BoxOut b p) out ins reads m = absurd (out (b, p, refl))
    by_case (Copy p) out ins reads m = absurd m

-- there is room for the place of an free cell
pub room_for : (l : LooseList) (net : Netlist) (to : List (Option ℕ)) (numbers : List ℕ) (k : ℕ) → IsLoose l → IsBuilt l net to numbers → k < length to → IsOpen to k → length net.cells + 1 < 2 ^ 32
room_for l net to numbers k loose built lt free = omega (arith, loose.cells_fit, built.room, open_count-set to k 0 lt free)
