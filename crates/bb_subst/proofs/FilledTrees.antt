-- A tree stays one when cells are put after, and two trees and a choice are one.
use Rattle.std.proofs.Common.{slice_index, ◌≡◌, ℕ, zero, suc, ◌+◌, ◌^◌, ◌/◌, ◌<◌, ◌≤◌, Bool, true, false, if◌then◌else◌, List, [], ◌∷◌, ◌++◌, length, map, All, get_or, refl, sym, ap, ◌∙◌, ◌⊎◌, inl, inr, subst, arith, length-append, append_assoc}
use Rattle.std.specs.List.{slice_index_or}
use Rattle.std.specs.Prelude.{Result, Ok, Err, OnOk, IfOk}
use Rattle.std.proofs.lemmas.List.Elements.{All-nil, All-cons, All-head, All-tail}
use Rattle.std.proofs.lemmas.List.{get_or_append_left, get_or_push, get_or_read_under}
use Rattle.bb_lemmas.proofs.Orders.{less_or_not}
use Rattle.bb_net.specs.declared.cell.Cell.{Cell}
use Rattle.bb_net.specs.declared.cell.Cell.TheVariants.{Const, Mux, BoxOut}
use Rattle.bb_bits.specs.Tables.{TableBits, column}
use Rattle.bb_net.specs.Netlists.{Netlist, cell_at, Pins, box_at, with_cell}
use Rattle.bb_net.specs.Kinds.{per_box}
use Rattle.bb_net.specs.Values.{FitBoxes, table_at}
use Rattle.bb_subst.specs.Inside.Filling.{GrowsBy, HasConstants, cost}
use Rattle.bb_subst.specs.Trees.{IsTree, IsInTree}

pub tree_stays : (cells more : List Cell) (pins : List ℕ) (column : List Bool) (place : ℕ) → IsTree cells pins column place → IsTree (cells ++ more) pins column place
tree_stays cells more [] column place tree = (omega (arith, tree.0, length-append cells more), tree.1, tree.2, get_or_append_left cells more (Const false) place tree.0 ∙ tree.3)
tree_stays cells more (pin ∷ pins) column place tree = (
  omega (arith, tree.0, length-append cells more),
  tree.1,
  tree.2,
  tree.3,
  tree.4,
  tree.5,
  tree.6,
  get_or_append_left cells more (Const false) place tree.0 ∙ tree.7,
  tree_stays cells more pins tree.1 tree.3 tree.8,
  tree_stays cells more pins tree.2 tree.4 tree.9,
)

pub constants_stay : (cells more : List Cell) → HasConstants cells → HasConstants (cells ++ more)
constants_stay cells more has = record {
  long = omega (arith, has.long, length-append cells more);
  zero = get_or_append_left cells more (Const false) 0 (omega (arith, has.long)) ∙ has.zero;
  one = get_or_append_left cells more (Const false) 1 (omega (arith, has.long)) ∙ has.one;
}

-- the tree over no pin is a constant
pub constant_tree : (cells : List Cell) (column : List Bool) (bit : Bool) (d : Bool) → HasConstants cells → length column ≡ 1 → bit ≡ get_or column 0 d → IsTree cells [] column (if bit then 1 else 0)
constant_tree cells [] bit d has one is = absurd (omega (arith, one))
constant_tree cells (b ∷ c ∷ column) bit d has one is = absurd (omega (arith, one))
constant_tree cells (b ∷ []) true d has one is = (omega (arith, has.long), b, refl, has.one ∙ ap Const is)
constant_tree cells (b ∷ []) false d has one is = (omega (arith, has.long), b, refl, has.zero ∙ ap Const is)

-- two trees, and a choice between them after all cells
pub choice_tree : (cells : List Cell) (pin : ℕ) (pins : List ℕ) (column lower upper : List Bool) (low high : ℕ) → column ≡ lower ++ upper → length lower ≡ length upper
    → IsTree cells pins lower low → IsTree cells pins upper high → IsTree (cells ++ Mux pin high low ∷ []) (pin ∷ pins) column (length cells)
choice_tree cells pin pins column lower upper low high whole same down up = (
  omega (arith, length-append cells (Mux pin high low ∷ [])),
  lower,
  upper,
  low,
  high,
  whole,
  same,
  get_or_push cells (Mux pin high low) (Const false) (length cells) refl,
  tree_stays cells (Mux pin high low ∷ []) pins lower low down,
  tree_stays cells (Mux pin high low ∷ []) pins upper high up,
)

either_stays : {A B C D : Type 0} → (A → C) → (B → D) → A ⊎ B → C ⊎ D
either_stays f g (inl x) = inl (f x)
either_stays f g (inr y) = inr (g y)

-- places of a tree stay in it
pub in_tree_stays : (cells more : List Cell) (pins : List ℕ) (column : List Bool) (root place : ℕ) → IsTree cells pins column root → IsInTree cells pins root place → IsInTree (cells ++ more) pins root place
in_tree_stays cells more [] column root place tree within = within
in_tree_stays cells more (pin ∷ pins) column root place tree (inl is) = inl is
in_tree_stays cells more (pin ∷ pins) column root place tree (inr (low, high, cell, within)) =
    let same : Mux pin tree.4 tree.3 ≡ Mux pin high low = sym tree.7 ∙ cell in
    let lows : tree.3 ≡ low = grind (arith, same) in
    let highs : tree.4 ≡ high = grind (arith, same) in
    inr (
      low,
      high,
      get_or_append_left cells more (Const false) root tree.0 ∙ cell,
      either_stays
          (in_tree_stays cells more pins tree.1 low place (subst (IsTree cells pins tree.1) lows tree.8))
          (in_tree_stays cells more pins tree.2 high place (subst (IsTree cells pins tree.2) highs tree.9)) within,
    )

-- what two trees and a choice between them add: the cells of the first, those of the second, and the choice
pub choice_only : (cells : List Cell) (pin : ℕ) (pins : List ℕ) (lower upper : List Bool) (low high n m : ℕ) → IsTree cells pins lower low → IsTree cells pins upper high
    → ((place : ℕ) → n ≤ place → place < m → IsInTree cells pins low place) → ((place : ℕ) → m ≤ place → place < length cells → IsInTree cells pins high place)
    → (place : ℕ) → n ≤ place → place < length (cells ++ Mux pin high low ∷ []) → IsInTree (cells ++ Mux pin high low ∷ []) (pin ∷ pins) (length cells) place
choice_only cells pin pins lower upper low high n m down up first second place past lt = by (less_or_not place m) (less_or_not place (length cells))
  where
    cell : cell_at (cells ++ Mux pin high low ∷ []) (length cells) ≡ Mux pin high low
    cell = get_or_push cells (Mux pin high low) (Const false) (length cells) refl

    by : (place < m) ⊎ (m ≤ place) → (place < length cells) ⊎ (length cells ≤ place) → IsInTree (cells ++ Mux pin high low ∷ []) (pin ∷ pins) (length cells) place
    by (inl below) there = inr (low, high, cell, inl (in_tree_stays cells (Mux pin high low ∷ []) pins lower low place down (first place past below)))
    by (inr above) (inl there) = inr (low, high, cell, inr (in_tree_stays cells (Mux pin high low ∷ []) pins upper high place up (second place above there)))
    by (inr above) (inr last) = inl (omega (arith, last, lt, length-append cells (Mux pin high low ∷ [])))

pub tree_there : (cells : List Cell) (pins : List ℕ) (column : List Bool) (place : ℕ) → IsTree cells pins column place → place < length cells
tree_there cells [] column place tree = tree.0
tree_there cells (pin ∷ pins) column place tree = tree.0

pub grow_on : (a b c : Netlist) (n m : ℕ) → GrowsBy a b n → GrowsBy b c m → GrowsBy a c (n + m)
grow_on a b c n m x y = record {
  inputs = y.inputs ∙ x.inputs;
  boxes = y.boxes ∙ x.boxes;
  outs = y.outs ∙ x.outs;
  more = x.more ++ y.more;
  cells = y.cells ∙ ap (λ l. l ++ y.more) x.cells ∙ append_assoc a.cells x.more y.more;
  few = omega (arith, x.few, y.few, length-append x.more y.more);
}

pub grow_less : (a b : Netlist) (n m : ℕ) → n ≤ m → GrowsBy a b n → GrowsBy a b m
grow_less a b n m le x = record { inputs = x.inputs; boxes = x.boxes; outs = x.outs; more = x.more; cells = x.cells; few = omega (arith, x.few, le) }

-- cells that are there, and what is among them, stay
pub grow_tree : (a b : Netlist) (n : ℕ) (pins : List ℕ) (column : List Bool) (place : ℕ) → GrowsBy a b n → IsTree a.cells pins column place → IsTree b.cells pins column place
grow_tree a b n pins column place x tree = subst (λ l. IsTree l pins column place) (sym x.cells) (tree_stays a.cells x.more pins column place tree)

pub grow_constants : (a b : Netlist) (n : ℕ) → GrowsBy a b n → HasConstants a.cells → HasConstants b.cells
grow_constants a b n x has = subst HasConstants (sym x.cells) (constants_stay a.cells x.more has)

pub grow_long : (a b : Netlist) (n : ℕ) → GrowsBy a b n → (length a.cells ≤ length b.cells) × (length b.cells ≤ length a.cells + n)
grow_long a b n x = (omega (arith, ap length x.cells, length-append a.cells x.more), omega (arith, ap length x.cells, length-append a.cells x.more, x.few))

-- one more cell that is no output pin
pub grow_by_one : (a b : Netlist) (pin high low : ℕ) → b ≡ with_cell a (Mux pin high low) → GrowsBy a b 1
grow_by_one a b pin high low is = record {
  inputs = ap (λ (n : Netlist). n.inputs) is;
  boxes = ap (λ (n : Netlist). n.boxes) is;
  outs = ap (λ (n : Netlist). n.outs) is;
  more = Mux pin high low ∷ [];
  cells = ap (λ (n : Netlist). n.cells) is;
  few = omega arith;
}

pub two_positive : (r : ℕ) → 1 ≤ 2 ^ r
two_positive zero = omega arith
two_positive (suc r) = let rest = two_positive r in omega (arith, rest)

pub room_for_both : (r m : ℕ) → r + 1 ≡ m → 2 ^ m ≡ 2 ^ r + 2 ^ r
room_for_both r m next =
    let one : m ≡ suc r = omega (arith, next) in
    let twice : 2 ^ suc r ≡ 2 ^ r + 2 ^ r = omega arith in
    ap (λ k. 2 ^ k) one ∙ twice

-- half of a column
pub half_is : (n m r : ℕ) → n ≡ 2 ^ m → r + 1 ≡ m → n / 2 ≡ 2 ^ r
half_is n m r long next =
    let whole : n ≡ 2 ^ r + 2 ^ r = long ∙ room_for_both r m next in
    omega (arith, whole)

-- what a push gives
pub pushed_tree : {E : Type 0} (r : Result ℕ E) (a b : Netlist) (pin : ℕ) (rest pins : List ℕ) (column lower upper : List Bool) (low high : ℕ) → OnOk r (b ≡ with_cell a (Mux pin high low)) → IfOk r (λ place. place ≡ length a.cells)
    → pins ≡ pin ∷ rest → column ≡ lower ++ upper → length lower ≡ length upper → IsTree a.cells rest lower low → IsTree a.cells rest upper high → IfOk r (IsTree b.cells pins column)
pushed_tree (Ok p) a b pin rest pins column lower upper low high is at named whole same down up =
    subst (λ (l : List Cell). IsTree l pins column p) (sym (ap (λ (n : Netlist). n.cells) is))
    (subst (λ (l : List ℕ). IsTree (a.cells ++ Mux pin high low ∷ []) l column p) (sym named)
    (subst (IsTree (a.cells ++ Mux pin high low ∷ []) (pin ∷ rest) column) (sym at) (choice_tree a.cells pin rest column lower upper low high whole same down up)))
pushed_tree (Err e) a b pin rest pins column lower upper low high is at named whole same down up = tt

pub all_mapped : {A B : Type 0} (f : A → B) (P : B → Type 0) (xs : List A) → All (λ x. P (f x)) xs → All P (map f xs)
all_mapped f P [] all = All-nil P
all_mapped f P (x ∷ xs) all = All-cons P (f x) (map f xs) (All-head (λ x. P (f x)) x xs all) (all_mapped f P xs (All-tail (λ x. P (f x)) x xs all))

pub pushed_only : {E : Type 0} (r : Result ℕ E) (a b : Netlist) (pin : ℕ) (rest pins : List ℕ) (lower upper : List Bool) (low high n m : ℕ) → OnOk r (b ≡ with_cell a (Mux pin high low)) → IfOk r (λ place. place ≡ length a.cells)
    → pins ≡ pin ∷ rest → IsTree a.cells rest lower low → IsTree a.cells rest upper high
    → ((place : ℕ) → n ≤ place → place < m → IsInTree a.cells rest low place) → ((place : ℕ) → m ≤ place → place < length a.cells → IsInTree a.cells rest high place)
    → IfOk r (λ root. (place : ℕ) → n ≤ place → place < length b.cells → IsInTree b.cells pins root place)
pushed_only (Ok root) a b pin rest pins lower upper low high n m is at named down up first second = λ place past lt.
    let cells : b.cells ≡ a.cells ++ Mux pin high low ∷ [] = ap (λ (n : Netlist). n.cells) is in
    subst (λ (l : List Cell). IsInTree l pins root place) (sym cells)
    (subst (λ (l : List ℕ). IsInTree (a.cells ++ Mux pin high low ∷ []) l root place) (sym named)
    (subst (λ (k : ℕ). IsInTree (a.cells ++ Mux pin high low ∷ []) (pin ∷ rest) k place) (sym at)
    (choice_only a.cells pin rest lower upper low high n m down up first second place past (subst (λ (l : List Cell). place < length l) cells lt))))
pushed_only (Err e) a b pin rest pins lower upper low high n m is at named down up first second = tt

-- the table that is read at the kind of a box is that of the box
pub table_is : (kinds : List ℕ) (tables : List TableBits) (b : ℕ) → slice_index kinds b < length tables → table_at (per_box kinds tables) b ≡ table_at tables (slice_index kinds b)
    → (t : TableBits) → t ≡ slice_index_or tables (slice_index kinds b) t → t ≡ table_at (per_box kinds tables) b
table_is kinds tables b there at t read = get_or_read_under tables (slice_index kinds b) (length tables) t (record { inputs = 0; outputs = 0; rows = [] }) read there refl ∙ sym at

-- an output pin of a box with its table
module _ (boxes : List Pins) (tables : List TableBits) (fit : FitBoxes tables boxes) (cell : Cell) (b p : ℕ) (is : cell ≡ BoxOut b p) (there : (b < length boxes) × (p < length (box_at boxes b).outs))
    (t : TableBits) (t_is : t ≡ table_at tables b) (q : Pins) (q_read : q ≡ slice_index_or boxes b q) (ins : List ℕ) (ins_are : ins ≡ q.ins) where
  pub ins_is : ins ≡ (box_at boxes b).ins
  ins_is = ins_are ∙ ap (λ (q : Pins). q.ins) (get_or_read_under boxes b (length boxes) q (record { ins = []; outs = [] }) q_read there.0 refl)

  pub inputs_is : t.inputs ≡ length ins
  inputs_is = ap (λ (t : TableBits). t.inputs) t_is ∙ fit.inputs b there.0 ∙ sym (ap length ins_is)

  pub pin_is : p < t.outputs
  pin_is = omega (arith, there.1, ap (λ (t : TableBits). t.outputs) t_is, fit.outputs b there.0)

  pub cost_is : cost boxes cell ≡ 2 ^ length ins
  cost_is = ap (cost boxes) is ∙ ap (λ (l : List ℕ). 2 ^ length l) (sym ins_is)

  pub tree_is : (cells : List Cell) (places : ℕ → ℕ) (place : ℕ) → IsTree cells (map places ins) (column t p) place
      → (a r : ℕ) → cell ≡ BoxOut a r → IsTree cells (map places (box_at boxes a).ins) (column (table_at tables a) r) place
  tree_is cells places place tree a r other =
      let same : BoxOut b p ≡ BoxOut a r = sym is ∙ other in
      let box : b ≡ a = grind (arith, same) in
      let pin : p ≡ r = grind (arith, same) in
      let here : IsTree cells (map places (box_at boxes b).ins) (column (table_at tables b) p) place =
      subst (λ (l : List ℕ). IsTree cells (map places l) (column (table_at tables b) p) place) ins_is (subst (λ (t : TableBits). IsTree cells (map places ins) (column t p) place) t_is tree) in
      subst (λ (n : ℕ). IsTree cells (map places (box_at boxes n).ins) (column (table_at tables n) r) place) box (subst (λ (n : ℕ). IsTree cells (map places (box_at boxes b).ins) (column (table_at tables b) n) place) pin here)
