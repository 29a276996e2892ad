-- How many cells a filled netlist may need: the output pins of boxes are once each among the cells.
use Rattle.std.proofs.Common.{◌≡◌, ◌≢◌, ℕ, zero, suc, ◌+◌, ◌*◌, ◌^◌, ◌<◌, ◌≤◌, List, [], ◌∷◌, ◌++◌, length, map, take, drop, get_or, false, refl, sym, ap, ap₂, ◌∙◌, subst, arith}
use Rattle.std.specs.Prelude.{Contains, remove, sum_by, filter_map, Option, None, Some}
use Rattle.std.specs.List.{cons_option, range_with_len}
use Rattle.std.proofs.lemmas.Grind.{in_remove}
use Rattle.std.proofs.lemmas.List.{get_or_default}
use Rattle.std.proofs.lemmas.List.Elements.{Contains-append_left, Contains-append_right}
use Rattle.std.proofs.lemmas.List.FromFn.{get_or-map-range_with_len, length-map-range_with_len}
use Rattle.std.proofs.lemmas.List.Sums.{sum_by-cons, sum_by-append, sum_by-take-drop, sum_by-drop_more}
use Rattle.bb_bits.specs.Closures.{IsDistinct}
use Rattle.bb_lemmas.proofs.Members.{from_filter_map}
use Rattle.bb_net.specs.declared.cell.Cell.{Cell}
use Rattle.bb_net.specs.declared.cell.Cell.TheVariants.{Const, Input, Not, And, Or, Xor, Mux, BoxOut}
use Rattle.bb_net.specs.Completions.{table_bits}
use Rattle.bb_net.specs.Netlists.{Pins, cell_at, box_at}
use Rattle.bb_subst.specs.Inside.Filling.{cost}
use Rattle.bb_subst.specs.Inside.Filling.{CostsAreFew}

sum-remove : {A : Type 0} (w : A → ℕ) (us : List A) (i : ℕ) (d : A) → i < length us → sum_by w us ≡ w (get_or us i d) + sum_by w (remove us i)
sum-remove w us i d lt =
    let a = sum_by-take-drop w us i in
    let b = sum_by-drop_more w us i d lt in
    let one : i + 1 ≡ suc i = omega arith in
    let c = sum_by-append w (take i us) (drop (suc i) us) in
    sym a ∙ omega (arith, b, c, ap (λ n. sum_by w (drop n us)) one)

-- what differs and all is in a second list weighs no more than that
weigh_less : {A : Type 0} (w : A → ℕ) (ts us : List A) → IsDistinct ts → ((t : A) → Contains ts t → Contains us t) → sum_by w ts ≤ sum_by w us
weigh_less w [] us distinct h = omega arith
weigh_less w (t ∷ ts) us distinct h =
    let here = h t (0, omega arith, refl) in
    let rest : sum_by w ts ≤ sum_by w (remove us here.0) =
    weigh_less w ts (remove us here.0) distinct.1 (λ s in_ts.
    let there = h s (suc in_ts.0, omega (arith, in_ts.1), in_ts.2) in
    let other : there.0 ≢ here.0 = λ same. distinct.0 (subst (Contains ts) (sym there.2 ∙ ap (λ k. get_or us k s) same ∙ get_or_default us here.0 s t here.1 ∙ here.2) in_ts) in
    (in_remove us here.0 there.0 s here.1 there.1 (sym there.2) other).1) in
    let whole = sum-remove w us here.0 t here.1 in
    let first : w (get_or us here.0 t) ≡ w t = ap w here.2 in
    omega (arith, sum_by-cons w t ts, rest, whole, first)

-- an output pin with how many rows its table has
abbrev Pin : Type 0
Pin = ℕ × ℕ × ℕ

abbrev rows : Pin → ℕ
rows x = x.2

-- the output pins of boxes, of which the first has a number
abbrev pins_from : ℕ → List Pins → List Pin
pins_from b [] = []
pins_from b (q ∷ boxes) = map (λ p. (b, p, 2 ^ length q.ins)) (range_with_len 0 (length q.outs)) ++ pins_from (suc b) boxes

row_sum : (b n a k : ℕ) → sum_by rows (map (λ p. (b, p, n)) (range_with_len a k)) ≡ k * n
row_sum b n a zero = omega arith
row_sum b n a (suc k) = sum_by-cons rows (b, a, n) (map (λ p. (b, p, n)) (range_with_len (a + 1) k)) ∙ ap (λ m. n + m) (row_sum b n (a + 1) k) ∙ omega arith

pins_sum : (b : ℕ) (boxes : List Pins) → sum_by rows (pins_from b boxes) ≡ table_bits boxes
pins_sum b [] = refl
pins_sum b (q ∷ boxes) =
    sum_by-append rows (map (λ p. (b, p, 2 ^ length q.ins)) (range_with_len 0 (length q.outs))) (pins_from (suc b) boxes)
    ∙ ap₂ ◌+◌ (row_sum b (2 ^ length q.ins) 0 (length q.outs)) (pins_sum (suc b) boxes) ∙ sym (sum_by-cons (λ (pins : Pins). length pins.outs * 2 ^ length pins.ins) q boxes)

pin_there : (a : ℕ) (boxes : List Pins) (b p : ℕ) → p < length (box_at boxes b).outs → Contains (pins_from a boxes) (a + b, p, 2 ^ length (box_at boxes b).ins)
pin_there a [] b p lt = absurd (omega (arith, lt))
pin_there a (q ∷ boxes) zero p lt =
    let f : ℕ → Pin = λ p. (a, p, 2 ^ length q.ins) in
    let none : a ≡ a + 0 = omega arith in
    Contains-append_left (map f (range_with_len 0 (length q.outs))) (pins_from (suc a) boxes) (a + 0, p, 2 ^ length q.ins) (
      p,
      omega (arith, lt, length-map-range_with_len f 0 (length q.outs)),
      get_or-map-range_with_len f 0 (length q.outs) p p (a + 0, p, 2 ^ length q.ins) lt (omega arith) ∙ ap (λ (n : ℕ). (n, p, 2 ^ length q.ins)) none,
    )
pin_there a (q ∷ boxes) (suc b) p lt =
    let one : suc a + b ≡ a + suc b = omega arith in
    Contains-append_right (map (λ p. (a, p, 2 ^ length q.ins)) (range_with_len 0 (length q.outs))) (pins_from (suc a) boxes) (a + suc b, p, 2 ^ length (box_at boxes b).ins)
    (subst (λ n. Contains (pins_from (suc a) boxes) (n, p, 2 ^ length (box_at boxes b).ins)) one (pin_there (suc a) boxes b p lt))

-- a cell as an output pin
module _ (boxes : List Pins) where
  abbrev as_pin : Cell → Option Pin
  as_pin (Const b) = None
  as_pin (Input i) = None
  as_pin (Not a) = None
  as_pin (And a b) = None
  as_pin (Or a b) = None
  as_pin (Xor a b) = None
  as_pin (Mux c t e) = None
  as_pin (BoxOut b p) = Some (b, p, 2 ^ length (box_at boxes b).ins)

  pinned : (c : Cell) (b p n : ℕ) → as_pin c ≡ Some (b, p, n) → c ≡ BoxOut b p
  pinned (Const a) b p n e = absurd (grind (arith, e))
  pinned (Input i) b p n e = absurd (grind (arith, e))
  pinned (Not a) b p n e = absurd (grind (arith, e))
  pinned (And a c) b p n e = absurd (grind (arith, e))
  pinned (Or a c) b p n e = absurd (grind (arith, e))
  pinned (Xor a c) b p n e = absurd (grind (arith, e))
  pinned (Mux c t f) b p n e = absurd (grind (arith, e))
  pinned (BoxOut a q) b p n e = ap₂ BoxOut (grind (arith, e)) (grind (arith, e))

  -- cells weigh what their pins do, and one each
  cells_weigh : (cells : List Cell) → sum_by (cost boxes) cells ≤ length cells + sum_by rows (filter_map as_pin cells)
  cells_weigh [] = omega arith
  cells_weigh (c ∷ cells) = by c (cells_weigh cells) (sum_by-cons (cost boxes) c cells)
    where
      by : (c : Cell) → sum_by (cost boxes) cells ≤ length cells + sum_by rows (filter_map as_pin cells) → sum_by (cost boxes) (c ∷ cells) ≡ cost boxes c + sum_by (cost boxes) cells
          → sum_by (cost boxes) (c ∷ cells) ≤ suc (length cells) + sum_by rows (filter_map as_pin (c ∷ cells))
      by (Const b) le e = omega (arith, le, e)
      by (Input i) le e = omega (arith, le, e)
      by (Not a) le e = omega (arith, le, e)
      by (And a b) le e = omega (arith, le, e)
      by (Or a b) le e = omega (arith, le, e)
      by (Xor a b) le e = omega (arith, le, e)
      by (Mux c t f) le e = omega (arith, le, e)
      by (BoxOut b p) le e =
          let own : Pin = (b, p, 2 ^ length (box_at boxes b).ins) in
          omega (arith, le, e, sum_by-cons rows own (filter_map as_pin cells))

  -- where a pin is at one place, it is once among the pins of cells
  once : (cells : List Cell) → ((k m b p : ℕ) → k < length cells → m < length cells → cell_at cells k ≡ BoxOut b p → cell_at cells m ≡ BoxOut b p → k ≡ m) → IsDistinct (filter_map as_pin cells)
  once [] one = tt
  once (c ∷ cells) one = by (as_pin c) refl (once cells (λ k m b p lk lm e f. let same = one (suc k) (suc m) b p (omega (arith, lk)) (omega (arith, lm)) e f in omega (arith, same)))
    where
      by : (o : Option Pin) → as_pin c ≡ o → IsDistinct (filter_map as_pin cells) → IsDistinct (cons_option o (filter_map as_pin cells))
      by None e rest = rest
      by (Some x) e rest = (
        λ again.
            let found = from_filter_map as_pin cells x again in
            let here : c ≡ BoxOut x.0 x.1 = pinned c x.0 x.1 x.2 e in
            let there : found.0 ≡ BoxOut x.0 x.1 = pinned found.0 x.0 x.1 x.2 found.2 in
            let place = found.1 in
            let same = one 0 (suc place.0) x.0 x.1 (omega arith) (omega (arith, place.1)) here (get_or_default cells place.0 (Const false) found.0 place.1 ∙ place.2 ∙ there) in
            omega (arith, same),
        rest,
      )

pub costs_are_few : CostsAreFew
costs_are_few net kept =
    let pins = filter_map (as_pin net.boxes) net.cells in
    let apart : IsDistinct pins = once net.boxes net.cells (λ k m b p lk lm e f. sym (kept.listed k b p lk e).1 ∙ (kept.listed m b p lm f).1) in
    let there : (x : Pin) → Contains pins x → Contains (pins_from 0 net.boxes) x = λ x has.
    let found = from_filter_map (as_pin net.boxes) net.cells x has in
    let is : found.0 ≡ BoxOut x.0 x.1 = pinned net.boxes found.0 x.0 x.1 x.2 found.2 in
    let place = found.1 in
    let listed = kept.listed place.0 x.0 x.1 place.1 (get_or_default net.cells place.0 (Const false) found.0 place.1 ∙ place.2 ∙ is) in
    let n : x.2 ≡ 2 ^ length (box_at net.boxes x.0).ins = grind (arith, sym found.2 ∙ ap (as_pin net.boxes) is) in
    let first : 0 + x.0 ≡ x.0 = omega arith in
    subst (λ (y : ℕ). Contains (pins_from 0 net.boxes) (x.0, x.1, y)) (sym n)
    (subst (λ (b : ℕ). Contains (pins_from 0 net.boxes) (b, x.1, 2 ^ length (box_at net.boxes x.0).ins)) first (pin_there 0 net.boxes x.0 x.1 listed.0)) in
    omega (arith, cells_weigh net.boxes net.cells, weigh_less rows pins (pins_from 0 net.boxes) apart there, pins_sum 0 net.boxes)
