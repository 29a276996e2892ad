-- A netlist has one three-valued value, and what is known there holds for whatever the boxes give.
use Rattle.std.proofs.Common.{◌≡◌, ℕ, ◌<◌, zero, suc, Bool, true, false, not, ◌&&◌, ◌||◌, List, [], ◌∷◌, length, map, get_or, Option, Some, None, refl, sym, ◌∙◌, ap, subst, inl, inr, arith}
use Rattle.std.specs.Prelude.{if◌then◌else◌}
use Rattle.std.proofs.lemmas.Bool.{cases_lt}
use Rattle.std.proofs.lemmas.List.{get_or_past, length-map, ext_get_or}
use Rattle.std.proofs.lemmas.List.FromFn.{length-map-range_with_len, get_or-map-range_with_len, fill_by_all}
use Rattle.bb_net.specs.declared.cell.Cell.{Cell}
use Rattle.bb_net.specs.declared.cell.Cell.TheVariants.{Const, Input, Not, And, Or, Xor, Mux, BoxOut}
use Rattle.bb_net.specs.Netlists.{Netlist, Pins, cell_at, IsPinAt, ReadsBefore, IsOrdered, IsNetlist}
use Rattle.bb_net.specs.Values.{bit_of, xor, gate, bit_within, bit_at, value_of, free_bit, flat}
use Rattle.bb_net.proofs.Steps.{IsLocal, IsFilled-unique}
use Rattle.bb_net.specs.Ternary.{not3, and3, or3, xor3, same3, mux3, tern_of, gate3, tern_within, tern_at, tern, IsTern}

pub gate3_same : (inputs : ℕ) (boxes : List Pins) (x : List Bool) (v w : ℕ → Option Bool) (place : ℕ) (c : Cell) → ReadsBefore inputs boxes place c → ((k : ℕ) → k < place → v k ≡ w k) → gate3 x v c ≡ gate3 x w c
gate3_same inputs boxes x v w place (Const b) h same = refl
gate3_same inputs boxes x v w place (Input i) h same = refl
gate3_same inputs boxes x v w place (Not a) h same = ap not3 (same a h)
gate3_same inputs boxes x v w place (And a b) h same = let p = same a h.0 in let q = same b h.1 in cc
gate3_same inputs boxes x v w place (Or a b) h same = let p = same a h.0 in let q = same b h.1 in cc
gate3_same inputs boxes x v w place (Xor a b) h same = let p = same a h.0 in let q = same b h.1 in cc
gate3_same inputs boxes x v w place (Mux a b c) h same = let p = same a h.0 in let q = same b h.1 in let r = same c h.2 in cc
gate3_same inputs boxes x v w place (BoxOut b p) h same = refl

-- the value of the cell at a place
abbrev pub tern_step : List Bool → List Cell → ℕ → (ℕ → Option Bool) → Option Bool
tern_step x cells k v = gate3 x v (cell_at cells k)

pub tern_step-local : (inputs : ℕ) (boxes : List Pins) (x : List Bool) (cells : List Cell) → ((k : ℕ) → k < length cells → ReadsBefore inputs boxes k (cell_at cells k)) → IsLocal (tern_step x cells) (length cells)
tern_step-local inputs boxes x cells reads k v w h same = gate3_same inputs boxes x v w k (cell_at cells k) (reads k h) same

tern_within-enough : (net : Netlist) (x : List Bool) → IsOrdered net → (n m place : ℕ) → place < n → place < m → place < length net.cells → tern_within net.cells x n place ≡ tern_within net.cells x m place
unfolding tern_within
tern_within-enough net x ordered zero m place p q there = absurd (omega arith)
tern_within-enough net x ordered (suc n) zero place p q there = absurd (omega arith)
tern_within-enough net x ordered (suc n) (suc m) place p q there =
    gate3_same net.inputs net.boxes x (tern_within net.cells x n) (tern_within net.cells x m) place (cell_at net.cells place) (ordered place there)
    (λ k below. tern_within-enough net x ordered n m k (omega arith) (omega arith) (omega arith))

tern_at-gate : (net : Netlist) (x : List Bool) → IsOrdered net → (place : ℕ) → place < length net.cells → tern_at net.cells x place ≡ gate3 x (tern_at net.cells x) (cell_at net.cells place)
unfolding tern_within
tern_at-gate net x ordered place there =
    gate3_same net.inputs net.boxes x (tern_within net.cells x place) (tern_at net.cells x) place (cell_at net.cells place) (ordered place there)
    (λ k below. tern_within-enough net x ordered place (suc k) k below (omega arith) (omega arith))

pub IsTern-unique : (net : Netlist) (x : List Bool) (values : List (Option Bool)) → IsOrdered net → IsTern net x values → values ≡ tern net x
IsTern-unique net x values ordered is =
    let f : ℕ → Option Bool = tern_at net.cells x in
    let local = tern_step-local net.inputs net.boxes x net.cells ordered in
    fill_by_all f values (length net.cells) None is.whole
    (λ k there. IsFilled-unique (tern_step x net.cells) (tern_of values) f (length net.cells) local is.each (tern_at-gate net x ordered) (suc k) k (omega arith) there)

pub tern_of-tern : (net : Netlist) (x : List Bool) (k : ℕ) → k < length net.cells → tern_of (tern net x) k ≡ tern_at net.cells x k
tern_of-tern net x k there = get_or-map-range_with_len (tern_at net.cells x) 0 (length net.cells) k k None there (omega arith)

pub IsTern-tern : (net : Netlist) (x : List Bool) → IsOrdered net → IsTern net x (tern net x)
IsTern-tern net x ordered =
    record {
      whole = length-map-range_with_len (tern_at net.cells x) 0 (length net.cells);
      each = λ place there.
          tern_of-tern net x place there ∙ tern_at-gate net x ordered place there
          ∙ gate3_same net.inputs net.boxes x (tern_at net.cells x) (tern_of (tern net x)) place (cell_at net.cells place) (ordered place there) (λ k below. sym (tern_of-tern net x k (omega arith)));
    }

-- what a gate shows as known is its bit
and3_known : (a b : Option Bool) (p q r : Bool) → ((v : Bool) → a ≡ Some v → p ≡ v) → ((v : Bool) → b ≡ Some v → q ≡ v) → and3 a b ≡ Some r → (p && q) ≡ r
and3_known (Some false) b p q r f g e = let h = f false refl in cc
and3_known (Some true) b p q r f g e = let h = f true refl in let k = g r e in cc
and3_known None (Some false) true q r f g e = let h = g false refl in cc
and3_known None (Some false) false q r f g e = cc
and3_known None (Some true) p q r f g e = cc
and3_known None None p q r f g e = cc

or3_known : (a b : Option Bool) (p q r : Bool) → ((v : Bool) → a ≡ Some v → p ≡ v) → ((v : Bool) → b ≡ Some v → q ≡ v) → or3 a b ≡ Some r → (p || q) ≡ r
or3_known (Some true) b p q r f g e = let h = f true refl in cc
or3_known (Some false) b p q r f g e = let h = f false refl in let k = g r e in cc
or3_known None (Some true) true q r f g e = cc
or3_known None (Some true) false q r f g e = let h = g true refl in cc
or3_known None (Some false) p q r f g e = cc
or3_known None None p q r f g e = cc

xor3_known : (a b : Option Bool) (p q r : Bool) → ((v : Bool) → a ≡ Some v → p ≡ v) → ((v : Bool) → b ≡ Some v → q ≡ v) → xor3 a b ≡ Some r → xor p q ≡ r
xor3_known None b p q r f g e = cc
xor3_known (Some a) None p q r f g e = cc
xor3_known (Some a) (Some b) p q r f g e = let h = f a refl in let k = g b refl in cc

same3_known : (a b : Option Bool) (p q r : Bool) → ((v : Bool) → a ≡ Some v → p ≡ v) → ((v : Bool) → b ≡ Some v → q ≡ v) → same3 a b ≡ Some r → (p ≡ r) × (q ≡ r)
same3_known None b p q r f g e = cc
same3_known (Some a) None p q r f g e = cc
same3_known (Some true) (Some true) p q r f g e = let h = f true refl in let k = g true refl in (cc, cc)
same3_known (Some true) (Some false) p q r f g e = cc
same3_known (Some false) (Some true) p q r f g e = cc
same3_known (Some false) (Some false) p q r f g e = let h = f false refl in let k = g false refl in (cc, cc)

mux3_known : (c a b : Option Bool) (s p q r : Bool) → ((v : Bool) → c ≡ Some v → s ≡ v) → ((v : Bool) → a ≡ Some v → p ≡ v) → ((v : Bool) → b ≡ Some v → q ≡ v) → mux3 c a b ≡ Some r → (if s then p else q) ≡ r
mux3_known (Some true) a b s p q r d f g e = let h = d true refl in let k = f r e in cc
mux3_known (Some false) a b s p q r d f g e = let h = d false refl in let k = g r e in cc
mux3_known None a b true p q r d f g e = (same3_known a b p q r f g e).0
mux3_known None a b false p q r d f g e = (same3_known a b p q r f g e).1

not3_known : (a : Option Bool) (p r : Bool) → ((v : Bool) → a ≡ Some v → p ≡ v) → not3 a ≡ Some r → not p ≡ r
not3_known None p r f e = cc
not3_known (Some a) p r f e = let h = f a refl in cc

gate3_known : (boxes : List Pins) (x : List Bool) (box : ℕ → ℕ → List Bool → Bool) (v : ℕ → Option Bool) (w : ℕ → Bool) (c : Cell) (r : Bool) → ((k : ℕ) (b : Bool) → v k ≡ Some b → w k ≡ b) → gate3 x v c ≡ Some r → gate boxes x box w c ≡ r
gate3_known boxes x box v w (Const b) r known e = cc
gate3_known boxes x box v w (Input i) r known e = cc
gate3_known boxes x box v w (Not a) r known e = not3_known (v a) (w a) r (known a) e
gate3_known boxes x box v w (And a b) r known e = and3_known (v a) (v b) (w a) (w b) r (known a) (known b) e
gate3_known boxes x box v w (Or a b) r known e = or3_known (v a) (v b) (w a) (w b) r (known a) (known b) e
gate3_known boxes x box v w (Xor a b) r known e = xor3_known (v a) (v b) (w a) (w b) r (known a) (known b) e
gate3_known boxes x box v w (Mux c a b) r known e = mux3_known (v c) (v a) (v b) (w c) (w a) (w b) r (known c) (known a) (known b) e
gate3_known boxes x box v w (BoxOut b p) r known e = cc

tern_within-known : (cells : List Cell) (boxes : List Pins) (x : List Bool) (box : ℕ → ℕ → List Bool → Bool) (n place : ℕ) (b : Bool) → tern_within cells x n place ≡ Some b → bit_within cells boxes x box n place ≡ b
unfolding tern_within bit_within
tern_within-known cells boxes x box zero place b e = cc
tern_within-known cells boxes x box (suc n) place b e =
    gate3_known boxes x box (tern_within cells x n) (bit_within cells boxes x box n) (cell_at cells place) b (tern_within-known cells boxes x box n) e

-- a known value is the value under every choice of the box outputs
pub tern-known : (net : Netlist) (x : List Bool) (box : ℕ → ℕ → List Bool → Bool) (place : ℕ) (b : Bool) → tern_of (tern net x) place ≡ Some b → bit_of (value_of net x box) place ≡ b
tern-known net x box place b e = elim (cases_lt place (length net.cells)) [
  | inl there ↦
      get_or-map-range_with_len (bit_at net.cells net.boxes x box) 0 (length net.cells) place place false there (omega arith)
      ∙ tern_within-known net.cells net.boxes x box (suc place) place b (sym (tern_of-tern net x place there) ∙ e)
  | inr past ↦
      let none = get_or_past (tern net x) place None (omega (arith, length-map-range_with_len (tern_at net.cells x) 0 (length net.cells))) in
      cc (none, e)
]

and3_some : (a b : Bool) → and3 (Some a) (Some b) ≡ Some (a && b)
and3_some true b = refl
and3_some false b = refl

or3_some : (a b : Bool) → or3 (Some a) (Some b) ≡ Some (a || b)
or3_some true b = refl
or3_some false b = refl

mux3_some : (c a b : Bool) → mux3 (Some c) (Some a) (Some b) ≡ Some (if c then a else b)
mux3_some true a b = refl
mux3_some false a b = refl

get_or-map-some : (xs : List Bool) (k : ℕ) → k < length xs → get_or (map Some xs) k None ≡ Some (get_or xs k false)
get_or-map-some [] k h = absurd (omega (arith, h))
get_or-map-some (x ∷ xs) zero h = refl
get_or-map-some (x ∷ xs) (suc k) h = get_or-map-some xs k (omega arith)

gate3_some : (boxes : List Pins) (x : List Bool) (box : ℕ → ℕ → List Bool → Bool) (v : ℕ → Option Bool) (w : ℕ → Bool) (inputs place : ℕ) (c : Cell) → ReadsBefore inputs boxes place c → ((b p : ℕ) → c ≡ BoxOut b p → ⊥) → ((k : ℕ) → k < place → v k ≡ Some (w k)) → gate3 x v c ≡ Some (gate boxes x box w c)
gate3_some boxes x box v w inputs place (Const b) h none known = refl
gate3_some boxes x box v w inputs place (Input i) h none known = refl
gate3_some boxes x box v w inputs place (Not a) h none known = ap not3 (known a h)
gate3_some boxes x box v w inputs place (And a b) h none known = let p = known a h.0 in let q = known b h.1 in rw (p, q) (and3_some (w a) (w b))
gate3_some boxes x box v w inputs place (Or a b) h none known = let p = known a h.0 in let q = known b h.1 in rw (p, q) (or3_some (w a) (w b))
gate3_some boxes x box v w inputs place (Xor a b) h none known = let p = known a h.0 in let q = known b h.1 in rw (p, q) refl
gate3_some boxes x box v w inputs place (Mux c a b) h none known = let p = known c h.0 in let q = known a h.1 in let r = known b h.2 in rw (p, q, r) (mux3_some (w c) (w a) (w b))
gate3_some boxes x box v w inputs place (BoxOut b p) h none known = absurd (none b p refl)

tern_within-some : (net : Netlist) (x : List Bool) (box : ℕ → ℕ → List Bool → Bool) → IsOrdered net → ((place b p : ℕ) → place < length net.cells → cell_at net.cells place ≡ BoxOut b p → ⊥) → (n place : ℕ) → place < n → place < length net.cells → tern_within net.cells x n place ≡ Some (bit_within net.cells net.boxes x box n place)
unfolding tern_within bit_within
tern_within-some net x box ordered none zero place p there = absurd (omega arith)
tern_within-some net x box ordered none (suc n) place p there =
    gate3_some net.boxes x box (tern_within net.cells x n) (bit_within net.cells net.boxes x box n) net.inputs place (cell_at net.cells place) (ordered place there) (λ b q e. none place b q there e)
    (λ k below. tern_within-some net x box ordered none n k (omega arith) (omega arith))

-- without a box output every value is known
pub tern-some : (net : Netlist) (x : List Bool) (box : ℕ → ℕ → List Bool → Bool) → IsOrdered net → ((place b p : ℕ) → place < length net.cells → cell_at net.cells place ≡ BoxOut b p → ⊥) → tern net x ≡ map Some (value_of net x box)
tern-some net x box ordered none =
    let n : ℕ = length net.cells in
    let len : length (map Some (value_of net x box)) ≡ n = length-map (value_of net x box) Some ∙ length-map-range_with_len (bit_at net.cells net.boxes x box) 0 n in
    ext_get_or None (tern net x) (map Some (value_of net x box)) (length-map-range_with_len (tern_at net.cells x) 0 n ∙ sym len)
    (λ k h.
    let there : k < n = omega (arith, h, length-map-range_with_len (tern_at net.cells x) 0 n) in
    tern_of-tern net x k there ∙ tern_within-some net x box ordered none (suc k) k (omega arith) there
    ∙ sym (get_or-map-some (value_of net x box) k (omega (arith, length-map-range_with_len (bit_at net.cells net.boxes x box) 0 n))
    ∙ ap Some (get_or-map-range_with_len (bit_at net.cells net.boxes x box) 0 n k k false there (omega arith))))

pub tern-without_boxes : (net : Netlist) (x z : List Bool) → IsNetlist net → net.boxes ≡ [] → tern net x ≡ map Some (flat net x z)
tern-without_boxes net x z kept empty =
    tern-some net x (free_bit net.boxes z) kept.ordered (λ place b p there e.
    let pin = subst (λ boxes. IsPinAt boxes b p place) empty (kept.listed place b p there e) in
    absurd (omega (arith, pin.0)))
