-- Where the cells of guarded netlists and of netlists with copies are.
use Rattle.std.proofs.Common.{◌≡◌, ℕ, zero, suc, ◌+◌, ◌-◌, ◌<◌, ◌≤◌, ◌⊎◌, false, if◌then◌else◌, List, [], length, map, drop, refl, sym, ap, ◌∙◌, subst, arith, inl, inr, length-append}
use Rattle.std.specs.Prelude.{slice_index}
use Rattle.std.proofs.lemmas.Bool.{cases_lt, lt-ltb, le-ltb}
use Rattle.std.proofs.lemmas.List.{get_or_append_left, get_or-append-add, get_or-map, get_or-drop, get_or-take, length-drop, length-map, length-take}
use Rattle.std.proofs.lemmas.List.FromFn.{get_or-range_with_len, get_or-map-range_with_len, length-map-range_with_len}
use Rattle.bb_subst.specs.Embeddings.{renumbered}
use Rattle.bb_net.specs.declared.cell.Cell.{Cell}
use Rattle.bb_net.specs.declared.cell.Cell.TheVariants.{Const, Input, Not, And, Or, Xor, Mux, BoxOut}
use Rattle.bb_net.specs.Netlists.{Netlist, cell_at, first_cells, ReadsBefore, IsNetlist, IsPinAt}
use Rattle.bb_care.specs.Constrained.{specification_copies, copy_place, guarded, with_copies}

-- guarded netlists

pub guarded_length : (care : ℕ) (outs : List ℕ) (net : Netlist) → length (guarded care outs net).cells ≡ length net.cells + length outs
guarded_length care outs net = length-append net.cells (map (λ out. And out care) outs) ∙ ap (λ n. length net.cells + n) (length-map outs (λ out. And out care))

pub guarded_old : (care : ℕ) (outs : List ℕ) (net : Netlist) (k : ℕ) → k < length net.cells → cell_at (guarded care outs net).cells k ≡ cell_at net.cells k
guarded_old care outs net k lt = get_or_append_left net.cells (map (λ out. And out care) outs) (Const false) k lt

pub guarded_and : (care : ℕ) (outs : List ℕ) (net : Netlist) (j : ℕ) → j < length outs → cell_at (guarded care outs net).cells (length net.cells + j) ≡ And (slice_index outs j) care
guarded_and care outs net j lt =
    get_or-append-add net.cells (map (λ out. And out care) outs) j (Const false) ∙ get_or-map (λ out. And out care) outs j 0 (Const false) lt

pub guarded_out : (care : ℕ) (outs : List ℕ) (net : Netlist) (j : ℕ) → j < length outs → slice_index (guarded care outs net).outs j ≡ length net.cells + j
guarded_out care outs net j lt = get_or-range_with_len (length net.cells) (length outs) j 0 lt

-- the constants and the inputs

pub prefix_long : (net : Netlist) → IsNetlist net → net.inputs + 2 ≤ length net.cells
prefix_long net kept =
    let long : length (first_cells net.inputs) ≡ net.inputs + 2 = omega (arith, length-map-range_with_len Input 0 net.inputs) in
    omega (arith, ap length kept.prefix, long, length-take (net.inputs + 2) net.cells)

-- they are the same in netlists with as many inputs
pub prefix_same : (net other : Netlist) → IsNetlist net → IsNetlist other → net.inputs ≡ other.inputs → (k : ℕ) → k < net.inputs + 2 → cell_at net.cells k ≡ cell_at other.cells k
prefix_same net other kept also inputs k lt =
    sym (get_or-take (net.inputs + 2) net.cells k (Const false) lt) ∙ ap (λ l. cell_at l k) kept.prefix ∙ ap (λ n. cell_at (first_cells n) k) inputs
    ∙ sym (ap (λ l. cell_at l k) also.prefix) ∙ get_or-take (other.inputs + 2) other.cells k (Const false) (omega (arith, lt, inputs))

-- those of the one are cells of the other
pub inputs_fit : (spec imp : Netlist) → IsNetlist imp → spec.inputs ≡ imp.inputs → spec.inputs + 2 ≤ length imp.cells
inputs_fit spec imp also inputs = omega (arith, inputs, prefix_long imp also)

-- without boxes there is no output pin of one
pub no_pin : {P : Type 0} (net : Netlist) → IsNetlist net → net.boxes ≡ [] → (k b p : ℕ) → k < length net.cells → cell_at net.cells k ≡ BoxOut b p → P
no_pin net kept none k b p lt is =
    let listed : IsPinAt [] b p k = subst (λ boxes. IsPinAt boxes b p k) none (kept.listed k b p lt is) in
    absurd (omega (arith, listed.0))

-- moved cells

pub not_moved : (c : Cell) → c ≡ renumbered (λ k. k) c
not_moved (Const b) = refl
not_moved (Input i) = refl
not_moved (Not a) = refl
not_moved (And a b) = refl
not_moved (Or a b) = refl
not_moved (Xor a b) = refl
not_moved (Mux c t e) = refl
not_moved (BoxOut b p) = refl

-- a moved gate is no output pin of a box
pub moved_plain : (to : ℕ → ℕ) (c : Cell) → ((b p : ℕ) → c ≡ BoxOut b p → ⊥) → (b p : ℕ) → renumbered to c ≡ BoxOut b p → ⊥
moved_plain to (Const v) plain b p e = grind (arith, e)
moved_plain to (Input i) plain b p e = grind (arith, e)
moved_plain to (Not x) plain b p e = grind (arith, e)
moved_plain to (And x y) plain b p e = grind (arith, e)
moved_plain to (Or x y) plain b p e = grind (arith, e)
moved_plain to (Xor x y) plain b p e = grind (arith, e)
moved_plain to (Mux x y z) plain b p e = grind (arith, e)
moved_plain to (BoxOut c q) plain b p e = plain b p e

-- the places of copies

pub copy_prefix : (spec imp : Netlist) (k : ℕ) → k < spec.inputs + 2 → copy_place spec imp k ≡ k
copy_prefix spec imp k lt = ap (λ low. if low then k else length imp.cells + (k - (spec.inputs + 2))) (lt-ltb k (spec.inputs + 2) lt)

pub copy_after : (spec imp : Netlist) (k : ℕ) → spec.inputs + 2 ≤ k → copy_place spec imp k ≡ length imp.cells + (k - (spec.inputs + 2))
copy_after spec imp k le = ap (λ low. if low then k else length imp.cells + (k - (spec.inputs + 2))) (le-ltb k (spec.inputs + 2) le)

-- earlier cells have earlier copies
pub copy_before : (spec imp : Netlist) → spec.inputs + 2 ≤ length imp.cells → (a k : ℕ) → a < k → copy_place spec imp a < copy_place spec imp k
copy_before spec imp long a k lt = by (cases_lt a (spec.inputs + 2)) (cases_lt k (spec.inputs + 2))
  where
    by : (a < spec.inputs + 2) ⊎ (spec.inputs + 2 ≤ a) → (k < spec.inputs + 2) ⊎ (spec.inputs + 2 ≤ k) → copy_place spec imp a < copy_place spec imp k
    by (inl low) (inl less) = omega (arith, lt, copy_prefix spec imp a low, copy_prefix spec imp k less)
    by (inl low) (inr more) = omega (arith, lt, long, low, copy_prefix spec imp a low, copy_after spec imp k more)
    by (inr past) (inl less) = absurd (omega (arith, lt, past, less))
    by (inr past) (inr more) = omega (arith, lt, past, copy_after spec imp a past, copy_after spec imp k more)

-- netlists with copies

pub copied_length : (spec imp : Netlist) → length (with_copies spec imp).cells ≡ length imp.cells + (length spec.cells - (spec.inputs + 2))
copied_length spec imp =
    length-append imp.cells (specification_copies spec imp) ∙ ap (λ n. length imp.cells + n) (length-map (drop (spec.inputs + 2) spec.cells) (renumbered (copy_place spec imp)) ∙ length-drop (spec.inputs + 2) spec.cells)

pub copied_old : (spec imp : Netlist) (k : ℕ) → k < length imp.cells → cell_at (with_copies spec imp).cells k ≡ cell_at imp.cells k
copied_old spec imp k lt = get_or_append_left imp.cells (specification_copies spec imp) (Const false) k lt

pub copy_there : (spec imp : Netlist) → spec.inputs + 2 ≤ length imp.cells → (k : ℕ) → k < length spec.cells → copy_place spec imp k < length (with_copies spec imp).cells
copy_there spec imp long k lt = elim (cases_lt k (spec.inputs + 2)) [
  | inl low ↦ omega (arith, low, long, copied_length spec imp, copy_prefix spec imp k low)
  | inr past ↦ omega (arith, lt, past, copied_length spec imp, copy_after spec imp k past)
]

-- the constants and the inputs read nothing
prefix_moved : (at : ℕ → ℕ) (n k : ℕ) → k < n + 2 → renumbered at (cell_at (first_cells n) k) ≡ cell_at (first_cells n) k
prefix_moved at n zero lt = refl
prefix_moved at n (suc zero) lt = refl
prefix_moved at n (suc (suc j)) lt =
    let is : cell_at (first_cells n) (suc (suc j)) ≡ Input j = get_or-map-range_with_len Input 0 n j j (Const false) (omega (arith, lt)) (omega arith) in
    ap (renumbered at) is ∙ sym is

-- at the place of a copy is the cell, which reads the places of copies
pub copy_cell : (spec imp : Netlist) → IsNetlist spec → IsNetlist imp → spec.inputs ≡ imp.inputs → (k : ℕ) → k < length spec.cells
    → cell_at (with_copies spec imp).cells (copy_place spec imp k) ≡ renumbered (copy_place spec imp) (cell_at spec.cells k)
copy_cell spec imp kept also inputs k lt = by (cases_lt k (spec.inputs + 2))
  where
    at : ℕ → ℕ
    at = copy_place spec imp

    long : spec.inputs + 2 ≤ length imp.cells
    long = omega (arith, inputs, prefix_long imp also)

    own : k < spec.inputs + 2 → cell_at spec.cells k ≡ cell_at (first_cells spec.inputs) k
    own low = sym (get_or-take (spec.inputs + 2) spec.cells k (Const false) low) ∙ ap (λ l. cell_at l k) kept.prefix

    by : (k < spec.inputs + 2) ⊎ (spec.inputs + 2 ≤ k) → cell_at (with_copies spec imp).cells (at k) ≡ renumbered at (cell_at spec.cells k)
    by (inl low) =
        ap (cell_at (with_copies spec imp).cells) (copy_prefix spec imp k low) ∙ copied_old spec imp k (omega (arith, low, long)) ∙ sym (prefix_same spec imp kept also inputs k low)
        ∙ own low ∙ sym (prefix_moved at spec.inputs k low) ∙ ap (renumbered at) (sym (own low))
    by (inr past) =
        ap (cell_at (with_copies spec imp).cells) (copy_after spec imp k past) ∙ get_or-append-add imp.cells (specification_copies spec imp) (k - (spec.inputs + 2)) (Const false)
        ∙ get_or-map (renumbered at) (drop (spec.inputs + 2) spec.cells) (k - (spec.inputs + 2)) (Const false) (Const false) (omega (arith, lt, past, length-drop (spec.inputs + 2) spec.cells))
        ∙ ap (renumbered at) (get_or-drop (spec.inputs + 2) spec.cells (k - (spec.inputs + 2)) (Const false) ∙ ap (cell_at spec.cells) (omega (arith, past)))

-- what a copy reads precedes it
pub copy_reads : (spec imp : Netlist) → spec.inputs ≡ imp.inputs → spec.inputs + 2 ≤ length imp.cells → (k : ℕ) (c : Cell) → ((b p : ℕ) → c ≡ BoxOut b p → ⊥)
    → ReadsBefore spec.inputs spec.boxes k c → ReadsBefore imp.inputs imp.boxes (copy_place spec imp k) (renumbered (copy_place spec imp) c)
copy_reads spec imp inputs long k (Const b) none reads = tt
copy_reads spec imp inputs long k (Input i) none reads = omega (arith, inputs, reads)
copy_reads spec imp inputs long k (Not a) none reads = copy_before spec imp long a k reads
copy_reads spec imp inputs long k (And a b) none reads = (copy_before spec imp long a k reads.0, copy_before spec imp long b k reads.1)
copy_reads spec imp inputs long k (Or a b) none reads = (copy_before spec imp long a k reads.0, copy_before spec imp long b k reads.1)
copy_reads spec imp inputs long k (Xor a b) none reads = (copy_before spec imp long a k reads.0, copy_before spec imp long b k reads.1)
copy_reads spec imp inputs long k (Mux c t e) none reads = (copy_before spec imp long c k reads.0, copy_before spec imp long t k reads.1, copy_before spec imp long e k reads.2)
copy_reads spec imp inputs long k (BoxOut b p) none reads = absurd (none b p refl)
