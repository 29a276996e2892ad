-- Lemmas on the invariant of a netlist.
use Rattle.std.proofs.Common.{◌≡◌, ℕ, ◌+◌, ◌<◌, ◌^◌, ◌⊎◌, zero, suc, Bool, true, false, List, [], ◌∷◌, ◌++◌, length, map, refl, sym, ap, inl, inr, arith}
use Rattle.std.specs.List.{range_with_len}
use Rattle.std.proofs.lemmas.Bool.{cases_lt}
use Rattle.std.proofs.lemmas.List.{take_all, get_or_past}
use Rattle.std.proofs.lemmas.List.FromFn.{length-map-range_with_len, get_or-map-range_with_len, map-range_with_len_more}
use Rattle.bb_net.specs.declared.cell.Cell.{Cell}
use Rattle.bb_net.specs.declared.cell.Cell.TheVariants.{Const, Input, Not, And, Or, Xor, Mux, BoxOut}
use Rattle.bb_net.specs.Netlists.{Netlist, Pins, cell_at, first_cells, ReadsBefore, IsPinAt, IsNetlist}

pub first_cells-more : (n : ℕ) → first_cells n ++ Input n ∷ [] ≡ first_cells (n + 1)
first_cells-more n = ap (λ xs. Const false ∷ Const true ∷ xs) (sym (map-range_with_len_more Input 0 n n (omega arith)))

pub length-first_cells : (n : ℕ) → length (first_cells n) ≡ n + 2
length-first_cells n = let e = length-map-range_with_len Input 0 n in omega (arith, e)

-- a constant or an input
abbrev pub IsSource : ℕ → Cell → Type 0
IsSource n c = ((b : Bool) × (c ≡ Const b)) ⊎ ((i : ℕ) × (i < n) × (c ≡ Input i))

pub first_is : (n place : ℕ) → IsSource n (cell_at (first_cells n) place)
first_is n zero = inl (false, refl)
first_is n (suc zero) = inl (true, refl)
first_is n (suc (suc k)) = elim (cases_lt k n) [
  | inl below ↦ inr (k, below, get_or-map-range_with_len Input 0 n k k (Const false) below (omega arith))
  | inr past ↦ inl (false, get_or_past (map Input (range_with_len 0 n)) k (Const false) (omega (arith, length-map-range_with_len Input 0 n)))
]

pub source_reads : (n place : ℕ) (boxes : List Pins) (c : Cell) → IsSource n c → ReadsBefore n boxes place c
source_reads n place boxes (Const b) h = tt
source_reads n place boxes (Input i) h = elim h [ inl p ↦ cc (p.1) | inr p ↦ let s : p.0 ≡ i = cc (p.2) in omega (arith, p.1, s) ]
source_reads n place boxes (Not a) h = elim h [ inl p ↦ cc (p.1) | inr p ↦ cc (p.2) ]
source_reads n place boxes (And a b) h = elim h [ inl p ↦ cc (p.1) | inr p ↦ cc (p.2) ]
source_reads n place boxes (Or a b) h = elim h [ inl p ↦ cc (p.1) | inr p ↦ cc (p.2) ]
source_reads n place boxes (Xor a b) h = elim h [ inl p ↦ cc (p.1) | inr p ↦ cc (p.2) ]
source_reads n place boxes (Mux a b d) h = elim h [ inl p ↦ cc (p.1) | inr p ↦ cc (p.2) ]
source_reads n place boxes (BoxOut a b) h = elim h [ inl p ↦ cc (p.1) | inr p ↦ cc (p.2) ]

pub source_no_box : {P : Type 0} (n b p : ℕ) (c : Cell) → IsSource n c → c ≡ BoxOut b p → P
source_no_box n b p c h e = elim h [ inl q ↦ cc (q.1, e) | inr q ↦ cc (q.2, e) ]

-- the constants and inputs alone are a netlist
pub IsNetlist-first : (n : ℕ) → n + 2 < 2 ^ 32 → IsNetlist (record { inputs = n; cells = first_cells n; boxes = []; outs = [] })
IsNetlist-first n small = record {
  prefix = take_all (n + 2) (first_cells n) (omega (arith, length-first_cells n));
  ordered = λ place _. source_reads n place [] (cell_at (first_cells n) place) (first_is n place);
  listed = λ place b p h e. source_no_box n b p _ (first_is n place) e;
  driven = λ b p place h. absurd (omega (arith, h.0));
  boxes_ordered = λ b c p pin place le has dep is. absurd (omega (arith, has.1));
  pins_there = λ b k d h. omega (arith, h);
  outs_there = λ k d h. omega (arith, h);
  cells_fit = omega (arith, length-first_cells n);
  boxes_fit = omega arith;
}

pub ruleset cells_begin = (first_cells-more, IsNetlist-first)

-- no two pins are one cell
pub IsNetlist-apart : (net : Netlist) → IsNetlist net → (b p c q place : ℕ) → IsPinAt net.boxes b p place → IsPinAt net.boxes c q place → (b ≡ c) × (p ≡ q)
IsNetlist-apart net kept b p c q place first second =
    let one = (kept.driven b p place first).1 in
    let other = (kept.driven c q place second).1 in
    (cc (one, other), cc (one, other))
