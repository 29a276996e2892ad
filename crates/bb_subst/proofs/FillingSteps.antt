-- A netlist is filled cell by cell: what is stays, and one more is.
use Rattle.std.proofs.Common.{◌≡◌, ℕ, zero, suc, ◌+◌, ◌^◌, ◌<◌, ◌≤◌, ◌⊎◌, inl, inr, false, List, [], ◌∷◌, ◌++◌, length, map, take, All, refl, sym, ap, ap₂, ◌∙◌, subst, arith, length-append, append-nil}
use Rattle.std.specs.Prelude.{slice_index, sum_by}
use Rattle.std.specs.List.{range_with_len}
use Rattle.std.proofs.lemmas.List.{get_or_append_left, get_or_push, get_or-take, take_more, take_all, length-take, length-map}
use Rattle.std.proofs.lemmas.List.Elements.{All-nil, All-cons, All-head, All-tail, All-weaker, All-get_or}
use Rattle.std.proofs.lemmas.List.FromFn.{get_or-range_with_len, get_or-map-range_with_len}
use Rattle.std.proofs.lemmas.List.Sums.{sum_by_push, sum_by_more, sum_by-cons, sum_by-take-le}
use Rattle.bb_bits.specs.Tables.{TableBits, column}
use Rattle.bb_lemmas.proofs.Orders.{less_or_not, less_or_same}
use Rattle.bb_lemmas.proofs.Ranges.{length-range}
use Rattle.bb_net.specs.declared.cell.Cell.{Cell}
use Rattle.bb_net.specs.declared.cell.Cell.TheVariants.{Const, Input, Not, And, Or, Xor, Mux, BoxOut}
use Rattle.bb_net.specs.Netlists.{Netlist, Pins, cell_at, box_at, first_cells, ReadsBefore, IsNetlist}
use Rattle.bb_net.specs.Values.{table_at}
use Rattle.bb_subst.specs.Embeddings.{OccursAt}
use Rattle.bb_subst.specs.Filled.{IsFilled, IsPlaceOf}
use Rattle.bb_subst.specs.Inside.Filling.{GrowsBy, IsFilledUpTo, cost}
use Rattle.bb_subst.specs.Trees.{IsTree, IsInTree}
use Rattle.bb_subst.specs.Inside.Filling.{CostsAreFew}
use Rattle.bb_subst.proofs.FilledTrees.{grow_constants, grow_long, in_tree_stays, tree_stays, two_positive}

module _ (boxes : List Pins) (inputs : ℕ) (cells more : List Cell) (at to : ℕ → ℕ) (k : ℕ) (same : (j : ℕ) → j < k → at j ≡ to j) where
  -- a cell that is goes on to be, where its operands keep their places
  occurs_on : (c : Cell) (place : ℕ) → ReadsBefore inputs boxes k c → place < length cells → OccursAt cells at c place → OccursAt (cells ++ more) to c place
  occurs_on c place reads lt = by c reads
    where
      kept : cell_at (cells ++ more) place ≡ cell_at cells place
      kept = get_or_append_left cells more (Const false) place lt

      by : (c : Cell) → ReadsBefore inputs boxes k c → OccursAt cells at c place → OccursAt (cells ++ more) to c place
      by (Const b) reads occurs = kept ∙ occurs
      by (Input i) reads occurs = kept ∙ occurs
      by (Not a) reads occurs = kept ∙ occurs ∙ ap Not (same a reads)
      by (And a b) reads occurs = kept ∙ occurs ∙ ap₂ And (same a reads.0) (same b reads.1)
      by (Or a b) reads occurs = kept ∙ occurs ∙ ap₂ Or (same a reads.0) (same b reads.1)
      by (Xor a b) reads occurs = kept ∙ occurs ∙ ap₂ Xor (same a reads.0) (same b reads.1)
      by (Mux c t e) reads occurs = kept ∙ occurs ∙ ap (λ x. Mux x (at t) (at e)) (same c reads.0) ∙ ap₂ (Mux (to c)) (same t reads.1) (same e reads.2)
      by (BoxOut b p) reads occurs = tt

  pins_on : (xs : List ℕ) → All (λ j. j < k) xs → map at xs ≡ map to xs
  pins_on [] all = refl
  pins_on (x ∷ xs) all = ap₂ ◌∷◌ (same x (All-head (λ j. j < k) x xs all)) (pins_on xs (All-tail (λ j. j < k) x xs all))

all_pushed : {A : Type 0} (P : A → Type 0) (xs : List A) (x : A) → All P xs → P x → All P (xs ++ x ∷ [])
all_pushed P [] x all here = All-cons P x [] here (All-nil P)
all_pushed P (y ∷ ys) x all here = All-cons P y (ys ++ x ∷ []) (All-head P y ys all) (all_pushed P ys x (All-tail P y ys all) here)

-- what a box output reads
reads_pins : (inputs : ℕ) (boxes : List Pins) (k b p : ℕ) (c : Cell) → c ≡ BoxOut b p → ReadsBefore inputs boxes k c → All (λ pin. pin < k) (box_at boxes b).ins
reads_pins inputs boxes k b p c is reads = subst (ReadsBefore inputs boxes k) is reads

pub filled_next : (old : Netlist) → IsNetlist old → (tables : List TableBits) (k : ℕ) (new more : Netlist) (places : List ℕ) (place : ℕ) → k < length old.cells → IsFilledUpTo old tables k new places
    → GrowsBy new more (cost old.boxes (cell_at old.cells k)) → place < length more.cells → OccursAt more.cells (slice_index places) (cell_at old.cells k) place
    → ((b p : ℕ) → cell_at old.cells k ≡ BoxOut b p → IsTree more.cells (map (slice_index places) (box_at old.boxes b).ins) (column (table_at tables b) p) place)
    → ((q : ℕ) → length new.cells ≤ q → q < length more.cells → (q ≡ place) ⊎ ((b p : ℕ) × (cell_at old.cells k ≡ BoxOut b p) × IsInTree more.cells (map (slice_index places) (box_at old.boxes b).ins) place q))
    → IsFilledUpTo old tables (k + 1) more (places ++ place ∷ [])
filled_next old kept tables k new more places place lt so grown there occurs tree only =
    record {
      inputs = grown.inputs ∙ so.inputs;
      boxes = grown.boxes ∙ so.boxes;
      outs = grown.outs ∙ so.outs;
      constants = grow_constants new more (cost old.boxes (cell_at old.cells k)) grown so.constants;
      long = length-append places (place ∷ []) ∙ ap (λ n. n + 1) so.long;
      there = all_pushed (λ j. j < length more.cells) places place (All-weaker (λ j. j < length new.cells) (λ j. j < length more.cells) (λ j low. omega (arith, low, long.0)) places so.there) there;
      cells = λ j h. by_cell j (less_or_same j k) h;
      trees = λ j b p h is. by_tree j b p (less_or_same j k) h is;
      only = λ q h. by_place q (less_or_not q (length new.cells)) h;
      few = subst (λ l. length more.cells ≤ sum_by (cost old.boxes) l) (sym (take_more old.cells k (Const false) lt))
          (omega (arith, long.1, so.few, sum_by_push (cost old.boxes) (take k old.cells) (cell_at old.cells k)));
    }
  where
    long : (length new.cells ≤ length more.cells) × (length more.cells ≤ length new.cells + cost old.boxes (cell_at old.cells k))
    long = grow_long new more (cost old.boxes (cell_at old.cells k)) grown

    same : (j : ℕ) → j < k → slice_index places j ≡ slice_index (places ++ place ∷ []) j
    same j low = sym (get_or_append_left places (place ∷ []) 0 j (omega (arith, low, so.long)))

    last : slice_index (places ++ place ∷ []) k ≡ place
    last = get_or_push places place 0 k so.long

    at_there : (j : ℕ) → j < k → slice_index places j < length new.cells
    at_there j low = All-get_or (λ j. j < length new.cells) places j 0 (omega (arith, low, so.long)) so.there

    reads_on : (j : ℕ) (c : Cell) → j < k → ReadsBefore old.inputs old.boxes j c → ReadsBefore old.inputs old.boxes k c
    reads_on j (Const b) low reads = tt
    reads_on j (Input i) low reads = reads
    reads_on j (Not a) low reads = omega (arith, low, reads)
    reads_on j (And a b) low reads = (omega (arith, low, reads.0), omega (arith, low, reads.1))
    reads_on j (Or a b) low reads = (omega (arith, low, reads.0), omega (arith, low, reads.1))
    reads_on j (Xor a b) low reads = (omega (arith, low, reads.0), omega (arith, low, reads.1))
    reads_on j (Mux c t e) low reads = (omega (arith, low, reads.0), omega (arith, low, reads.1), omega (arith, low, reads.2))
    reads_on j (BoxOut b p) low reads = All-weaker (λ pin. pin < j) (λ pin. pin < k) (λ pin h. omega (arith, low, h)) (box_at old.boxes b).ins reads

    here : (c : Cell) (p : ℕ) → ReadsBefore old.inputs old.boxes k c → p < length more.cells → OccursAt more.cells (slice_index places) c p → OccursAt more.cells (slice_index (places ++ place ∷ [])) c p
    here c p reads h occurs =
        subst (λ l. OccursAt l (slice_index (places ++ place ∷ [])) c p) (append-nil more.cells) (occurs_on old.boxes old.inputs more.cells [] (slice_index places) (slice_index (places ++ place ∷ [])) k same c p reads h occurs)

    by_cell : (j : ℕ) → (j < k) ⊎ ((k < j) ⊎ (j ≡ k)) → j < k + 1 → OccursAt more.cells (slice_index (places ++ place ∷ [])) (cell_at old.cells j) (slice_index (places ++ place ∷ []) j)
    by_cell j (inl low) h =
        subst (λ p. OccursAt more.cells (slice_index (places ++ place ∷ [])) (cell_at old.cells j) p) (same j low)
        (subst (λ l. OccursAt l (slice_index (places ++ place ∷ [])) (cell_at old.cells j) (slice_index places j)) (sym grown.cells)
        (occurs_on old.boxes old.inputs new.cells grown.more (slice_index places) (slice_index (places ++ place ∷ [])) k same (cell_at old.cells j) (slice_index places j)
        (reads_on j (cell_at old.cells j) low (kept.ordered j (omega (arith, low, lt)))) (at_there j low) (so.cells j low)))
    by_cell j (inr (inl past)) h = absurd (omega (arith, past, h))
    by_cell j (inr (inr is)) h =
        subst (λ n. OccursAt more.cells (slice_index (places ++ place ∷ [])) (cell_at old.cells n) (slice_index (places ++ place ∷ []) n)) (sym is)
        (subst (λ p. OccursAt more.cells (slice_index (places ++ place ∷ [])) (cell_at old.cells k) p) (sym last) (here (cell_at old.cells k) place (kept.ordered k lt) there occurs))

    by_tree : (j b p : ℕ) → (j < k) ⊎ ((k < j) ⊎ (j ≡ k)) → j < k + 1 → cell_at old.cells j ≡ BoxOut b p
        → IsTree more.cells (map (slice_index (places ++ place ∷ [])) (box_at old.boxes b).ins) (column (table_at tables b) p) (slice_index (places ++ place ∷ []) j)
    by_tree j b p (inl low) h is =
        let reads = reads_on j (cell_at old.cells j) low (kept.ordered j (omega (arith, low, lt))) in
        let pins = pins_on old.boxes old.inputs new.cells [] (slice_index places) (slice_index (places ++ place ∷ [])) k same (box_at old.boxes b).ins (reads_pins old.inputs old.boxes k b p (cell_at old.cells j) is reads) in
        subst (λ n. IsTree more.cells (map (slice_index (places ++ place ∷ [])) (box_at old.boxes b).ins) (column (table_at tables b) p) n) (same j low)
        (subst (λ l. IsTree more.cells l (column (table_at tables b) p) (slice_index places j)) pins
        (subst (λ l. IsTree l (map (slice_index places) (box_at old.boxes b).ins) (column (table_at tables b) p) (slice_index places j)) (sym grown.cells)
        (tree_stays new.cells grown.more (map (slice_index places) (box_at old.boxes b).ins) (column (table_at tables b) p) (slice_index places j) (so.trees j b p low is))))
    by_tree j b p (inr (inl past)) h is = absurd (omega (arith, past, h))
    by_tree j b p (inr (inr e)) h is =
        let own : cell_at old.cells k ≡ BoxOut b p = ap (cell_at old.cells) (sym e) ∙ is in
        let pins = pins_on old.boxes old.inputs new.cells [] (slice_index places) (slice_index (places ++ place ∷ [])) k same (box_at old.boxes b).ins (reads_pins old.inputs old.boxes k b p (cell_at old.cells k) own (kept.ordered k lt)) in
        subst (λ n. IsTree more.cells (map (slice_index (places ++ place ∷ [])) (box_at old.boxes b).ins) (column (table_at tables b) p) (slice_index (places ++ place ∷ []) n)) (sym e)
        (subst (λ n. IsTree more.cells (map (slice_index (places ++ place ∷ [])) (box_at old.boxes b).ins) (column (table_at tables b) p) n) (sym last)
        (subst (λ l. IsTree more.cells l (column (table_at tables b) p) place) pins (tree b p own)))

    pins_same : (b : ℕ) → All (λ pin. pin < k) (box_at old.boxes b).ins → map (slice_index places) (box_at old.boxes b).ins ≡ map (slice_index (places ++ place ∷ [])) (box_at old.boxes b).ins
    pins_same b reads = pins_on old.boxes old.inputs new.cells [] (slice_index places) (slice_index (places ++ place ∷ [])) k same (box_at old.boxes b).ins reads

    old_place : (q : ℕ) → IsPlaceOf old new (slice_index places) k q → IsPlaceOf old more (slice_index (places ++ place ∷ [])) (k + 1) q
    old_place q (inl (j, h, is)) = inl (j, omega (arith, h), is ∙ same j h)
    old_place q (inr (j, b, p, h, e, within)) =
        let root = slice_index places j in
        let reads = reads_pins old.inputs old.boxes k b p (cell_at old.cells j) e (reads_on j (cell_at old.cells j) h (kept.ordered j (omega (arith, h, lt)))) in
        let stays : IsInTree more.cells (map (slice_index places) (box_at old.boxes b).ins) root q =
        subst (λ l. IsInTree l (map (slice_index places) (box_at old.boxes b).ins) root q) (sym grown.cells)
        (in_tree_stays new.cells grown.more (map (slice_index places) (box_at old.boxes b).ins) (column (table_at tables b) p) root q (so.trees j b p h e) within) in
        inr (
          j,
          b,
          p,
          omega (arith, h),
          e,
          subst (λ n. IsInTree more.cells (map (slice_index (places ++ place ∷ [])) (box_at old.boxes b).ins) n q) (same j h)
              (subst (λ l. IsInTree more.cells l root q) (pins_same b reads) stays),
        )

    new_place : (q : ℕ) → (q ≡ place) ⊎ ((b p : ℕ) × (cell_at old.cells k ≡ BoxOut b p) × IsInTree more.cells (map (slice_index places) (box_at old.boxes b).ins) place q)
        → IsPlaceOf old more (slice_index (places ++ place ∷ [])) (k + 1) q
    new_place q (inl is) = inl (k, omega arith, is ∙ sym last)
    new_place q (inr (b, p, e, within)) =
        inr (
          k,
          b,
          p,
          omega arith,
          e,
          subst (λ n. IsInTree more.cells (map (slice_index (places ++ place ∷ [])) (box_at old.boxes b).ins) n q) (sym last)
              (subst (λ l. IsInTree more.cells l place q) (pins_same b (reads_pins old.inputs old.boxes k b p (cell_at old.cells k) e (kept.ordered k lt))) within),
        )

    by_place : (q : ℕ) → (q < length new.cells) ⊎ (length new.cells ≤ q) → q < length more.cells → IsPlaceOf old more (slice_index (places ++ place ∷ [])) (k + 1) q
    by_place q (inl below) h = old_place q (so.only q below)
    by_place q (inr past) h = new_place q (only q past h)

-- what is asked where a cell is added, of equal numbers and lists
pub reads_here : (i j n m : ℕ) (boxes others : List Pins) (c d : Cell) → i ≡ j → boxes ≡ others → n ≡ m → c ≡ d → ReadsBefore j others m d → ReadsBefore i boxes n c
reads_here i j n m boxes others c d e f g h reads =
    subst (λ x. ReadsBefore x boxes n c) (sym e) (subst (λ x. ReadsBefore j x n c) (sym f) (subst (λ x. ReadsBefore j others x c) (sym g) (subst (ReadsBefore j others m) (sym h) reads)))

pub room_here : (old : Netlist) (k n : ℕ) → k < length old.cells → n ≤ sum_by (cost old.boxes) (take k old.cells) → sum_by (cost old.boxes) old.cells < 2 ^ 32 → n + cost old.boxes (cell_at old.cells k) < 2 ^ 32
room_here old k n lt few room =
    let more = sum_by_more (cost old.boxes) old.cells k (Const false) lt in
    let le = sum_by-take-le (cost old.boxes) old.cells (k + 1) in
    omega (arith, few, more, le, room)

pub first_long : (net : Netlist) → IsNetlist net → net.inputs + 2 ≤ length net.cells
first_long net kept =
    let long : length (first_cells net.inputs) ≡ net.inputs + 2 = omega (arith, length-map (range_with_len 0 net.inputs) Input, length-range 0 net.inputs) in
    omega (arith, ap length kept.prefix, long, length-take (net.inputs + 2) net.cells)

-- the constants and the inputs precede both
first_occurs : (n k : ℕ) (cells : List Cell) (at : ℕ → ℕ) → k < n + 2 → cell_at cells k ≡ cell_at (first_cells n) k → OccursAt cells at (cell_at (first_cells n) k) k
first_occurs n zero cells at lt same = same
first_occurs n (suc zero) cells at lt same = same
first_occurs n (suc (suc j)) cells at lt same =
    let is : cell_at (first_cells n) (suc (suc j)) ≡ Input j = get_or-map-range_with_len Input 0 n j j (Const false) (omega (arith, lt)) (omega arith) in
    subst (λ c. OccursAt cells at c (suc (suc j))) (sym is) (same ∙ is)

first_plain : (n k b p : ℕ) → k < n + 2 → cell_at (first_cells n) k ≡ BoxOut b p → ⊥
first_plain n zero b p lt is = absurd (grind (arith, is))
first_plain n (suc zero) b p lt is = absurd (grind (arith, is))
first_plain n (suc (suc j)) b p lt is =
    let own : Input j ≡ BoxOut b p = sym (get_or-map-range_with_len Input 0 n j j (Const false) (omega (arith, lt)) (omega arith)) ∙ is in
    grind (arith, own)

pub cost_some : (boxes : List Pins) (c : Cell) → 1 ≤ cost boxes c
cost_some boxes (Const b) = omega arith
cost_some boxes (Input i) = omega arith
cost_some boxes (Not a) = omega arith
cost_some boxes (And a b) = omega arith
cost_some boxes (Or a b) = omega arith
cost_some boxes (Xor a b) = omega arith
cost_some boxes (Mux c t e) = omega arith
cost_some boxes (BoxOut b p) = two_positive (length (box_at boxes b).ins)

costs_some : (boxes : List Pins) (cells : List Cell) → length cells ≤ sum_by (cost boxes) cells
costs_some boxes [] = omega arith
costs_some boxes (c ∷ cells) = omega (arith, costs_some boxes cells, cost_some boxes c, sum_by-cons (cost boxes) c cells)

below_range : (a n m : ℕ) → a + n ≤ m → All (λ k. k < m) (range_with_len a n)
below_range a zero m le = All-nil (λ k. k < m)
below_range a (suc n) m le = All-cons (λ k. k < m) a (range_with_len (a + 1) n) (omega (arith, le)) (below_range (a + 1) n m (omega (arith, le)))

begun_on : (old : Netlist) → IsNetlist old → (tables : List TableBits) → IsFilledUpTo old tables (old.inputs + 2) (record { inputs = old.inputs; cells = first_cells old.inputs; boxes = []; outs = [] }) (range_with_len 0 (old.inputs + 2))
begun_on old kept tables =
    record {
      inputs = refl;
      boxes = refl;
      outs = refl;
      constants = record { long = omega (arith, long); zero = refl; one = refl };
      long = length-range 0 n;
      there = below_range 0 n (length (first_cells old.inputs)) (omega (arith, long));
      cells = λ k lt. subst (λ c. OccursAt (first_cells old.inputs) at c (at k)) (sym (own k lt)) (subst (OccursAt (first_cells old.inputs) at (cell_at (first_cells old.inputs) k)) (sym (stays k lt)) (first_occurs old.inputs k (first_cells old.inputs) at lt refl));
      trees = λ k b p lt is. absurd (first_plain old.inputs k b p lt (sym (own k lt) ∙ is));
      only = λ place lt. inl (place, omega (arith, lt, long), sym (stays place (omega (arith, lt, long))));
      few = omega (arith, long, costs_some old.boxes (take n old.cells), ap length kept.prefix);
    }
  where
    n : ℕ
    n = old.inputs + 2

    at : ℕ → ℕ
    at = slice_index (range_with_len 0 (old.inputs + 2))

    long : length (first_cells old.inputs) ≡ old.inputs + 2
    long = omega (arith, length-map (range_with_len 0 old.inputs) Input, length-range 0 old.inputs)

    own : (k : ℕ) → k < old.inputs + 2 → cell_at old.cells k ≡ cell_at (first_cells old.inputs) k
    own k lt = sym (get_or-take (old.inputs + 2) old.cells k (Const false) lt) ∙ ap (λ l. cell_at l k) kept.prefix

    stays : (k : ℕ) → k < old.inputs + 2 → slice_index (range_with_len 0 (old.inputs + 2)) k ≡ k
    stays k lt = get_or-range_with_len 0 (old.inputs + 2) k 0 lt ∙ omega arith

pub begun_is : (old : Netlist) → IsNetlist old → (tables : List TableBits) (n m : ℕ) (new : Netlist) (places : List ℕ) → n ≡ old.inputs → m ≡ old.inputs
    → new ≡ record { inputs = n; cells = first_cells n; boxes = []; outs = [] } → places ≡ range_with_len 0 (m + 2) → IsFilledUpTo old tables (old.inputs + 2) new places
begun_is old kept tables n m new places same other is at =
    subst (λ (net : Netlist). IsFilledUpTo old tables (old.inputs + 2) net places) (sym (is ∙ ap (λ n. record { inputs = n; cells = first_cells n; boxes = []; outs = [] }) same))
    (subst (IsFilledUpTo old tables (old.inputs + 2) (record { inputs = old.inputs; cells = first_cells old.inputs; boxes = []; outs = [] })) (sym (at ∙ ap (λ n. range_with_len 0 (n + 2)) other)) (begun_on old kept tables))

place_of : (old mid new : Netlist) (at : ℕ → ℕ) (count place : ℕ) → new.cells ≡ mid.cells → IsPlaceOf old mid at count place → IsPlaceOf old new at count place
place_of old mid new at count place cells (inl x) = inl x
place_of old mid new at count place cells (inr (k, b, p, h, e, within)) = inr (k, b, p, h, e, subst (λ l. IsInTree l (map at (box_at old.boxes b).ins) (at k) place) (sym cells) within)

-- all cells are, and the outputs are at their places
pub filled_is : CostsAreFew → (old : Netlist) → IsNetlist old → (tables : List TableBits) (mid new : Netlist) (places : List ℕ) → IsFilledUpTo old tables (length old.cells) mid places
    → new ≡ record mid { outs = mid.outs ++ map (slice_index places) old.outs } → IsFilled old tables new (slice_index places)
filled_is costs old kept tables mid new places so is =
    let cells : new.cells ≡ mid.cells = ap (λ (n : Netlist). n.cells) is in
    record {
      occurs = record {
        inputs = ap (λ (n : Netlist). n.inputs) is ∙ so.inputs;
        there = λ k lt. subst (λ l. slice_index places k < length l) (sym cells) (All-get_or (λ j. j < length mid.cells) places k 0 (omega (arith, lt, so.long)) so.there);
        cells = λ k lt. subst (λ l. OccursAt l (slice_index places) (cell_at old.cells k) (slice_index places k)) (sym cells) (so.cells k lt);
      };
      trees = λ k b p lt e. subst (λ l. IsTree l (map (slice_index places) (box_at old.boxes b).ins) (column (table_at tables b) p) (slice_index places k)) (sym cells) (so.trees k b p lt e);
      only = λ place lt. place_of old mid new (slice_index places) (length old.cells) place cells (so.only place (subst (λ l. place < length l) cells lt));
      boxes = ap (λ (n : Netlist). n.boxes) is ∙ so.boxes;
      outs = ap (λ (n : Netlist). n.outs) is ∙ ap (λ l. l ++ map (slice_index places) old.outs) so.outs;
      few = omega (arith, ap length cells, so.few, ap (sum_by (cost old.boxes)) (take_all (length old.cells) old.cells (omega arith)), costs old kept);
    }
