-- In a world that a list of cells gives, the place of a register's data has its next state.
use Rattle.std.proofs.Common.{◌≡◌, ℕ, suc, ◌+◌, ◌≤◌, Bool, true, false, if◌then◌else◌, List, [], ◌∷◌, map, flat_map, find, zip, drop, length, get_or, Contains, Option, Some, refl, sym, ap, ◌∙◌, subst, arith}
use Rattle.std.specs.List.{AllZip, enumerate_from}
use Rattle.std.specs.Option.{option_map_or}
use Rattle.bb_ast.specs.Syntax.{PlainAlways}
use Rattle.bb_bits.specs.Contents.{Contents}
use Rattle.bb_names.specs.Declarations.{range_of}
use Rattle.bb_expr.specs.Laws.{ValuesHaveWidth, MadeHasValue}
use Rattle.bb_net.specs.Loose.{LooseList, IsLooseValue}
use Rattle.bb_design.specs.Hierarchy.{Design, Scope}
use Rattle.bb_design.specs.NetBits.{Bit, same_bit, net_order, written_bits}
use Rattle.bb_design.specs.Contexts.{width_of, context_width, value_in}
use Rattle.bb_bits.specs.Bits.{low_bits}
use Rattle.bb_design.specs.Constructs.{Construct, Assignment, GateInstance, Register, SupplyNet, InputConnection, OutputConnection, BoxContents, parts}
use Rattle.bb_implements.specs.Laws.ListLaws.{vector_bits, given_by_contents}
use Rattle.bb_implements.specs.Places.{CellName, Constant, Lowering, IsLowering, step_places, data_at, place_in, IsListOf}
use Rattle.bb_design.specs.Registers.{RegisterBit, stored_at, stored, registers}
use Rattle.bb_design.specs.Worlds.{World, Vector, next_bit}
use Rattle.bb_lemmas.proofs.LowBits.{low-length}
use Rattle.bb_design.specs.Laws.Wired.{IsWired}
use Rattle.bb_implements.proofs.ListValues.{at}
use Rattle.bb_implements.proofs.ListWorlds.{w, low_same}
use Rattle.bb_lemmas.proofs.Members.{contains_here, contains_there, from_find, from_filter_map}
use Rattle.bb_lemmas.proofs.Zips.{zip_append}
use Rattle.bb_design.specs.Laws.DesignLaws.{DesignLaws}

module _ (of_designs : DesignLaws) (values : ValuesHaveWidth) (cells : MadeHasValue) (d : Design) (lowering : Lowering) (l : LooseList) (list : IsListOf d lowering l) (lowered : IsLowering d lowering) (wired : IsWired d)
    (contents : Contents) (x : Vector) (bits : List Bool) (value : IsLooseValue l (vector_bits d x) (given_by_contents d contents) bits) where
  abbrev v : CellName → Bool
  v = at d lowering l list lowered wired contents x bits value

  abbrev world : World
  world = w of_designs d lowering l list lowered wired contents x bits value

  -- the place has the next state of the register bit
  Reports : RegisterBit → Bit × CellName → Type 0
  Reports r y = (r.bit ≡ y.0) × (v y.1 ≡ next_bit world r)

  abbrev stored_bit : Scope → PlainAlways → ℕ × Bit → RegisterBit
  stored_bit s a y = record { scope = s; item = a; place = y.0; bit = y.1 }

  abbrev states : Scope → PlainAlways → List Bool
  states s a = low_bits (length (written_bits s a.left)) (value_in (world s.path) s a.right (context_width s a.left a.right))

  entries : (s : Scope) (a : PlainAlways) (n : ℕ) (left : List Bit) (places : List CellName) (all : List Bool) → map v places ≡ all → length left ≡ length all → ((j : ℕ) → get_or (states s a) (n + j) false ≡ get_or all j false)
      → AllZip Reports (map (stored_bit s a) (enumerate_from n left)) (zip left places)
  unfolding Reports
  entries s a n [] places all same long each = tt
  entries s a n (b ∷ left) [] all same long each = let none : 0 ≡ length all = ap length same in absurd (omega (arith, none, long))
  entries s a n (b ∷ left) (p ∷ places) [] same long each = absurd (omega (arith, long))
  entries s a n (b ∷ left) (p ∷ places) (y ∷ all) same long each =
      let first : v p ≡ y = ap (λ l. get_or l 0 false) same in
      let number : n + 0 ≡ n = omega arith in (
        (refl, first ∙ sym (each 0) ∙ ap (λ k. get_or (states s a) k false) number),
        entries s a (n + 1) left places all (ap (drop 1) same) (omega (arith, long)) (λ j. let further : n + 1 + j ≡ n + suc j = omega arith in ap (λ k. get_or (states s a) k false) further ∙ each (suc j)),
      )

  part_entries : (k : ℕ) (s : Scope) (c : Construct) → Contains (enumerate_from 0 (parts d)) (k, (s, c)) → AllZip Reports (stored_at (s, c)) (data_at lowering (k, (s, c)))
  part_entries k s (Register a) has =
      let n = length (written_bits s a.left) in
      let wide = context_width s a.left a.right in
      let fits : width_of s a.right ≤ wide = omega arith in
      let same : map v (low_bits n (step_places lowering k 0)) ≡ states s a = low_same of_designs d lowering l list lowered wired contents x bits value k s (Register a) has n 0 a.right wide (contains_here (0, (a.right, wide)) []) ∙ sym (of_designs.next_states world s a) in
      let long : length (states s a) ≡ n = low-length n (value_in (world s.path) s a.right wide) (omega (arith, values (range_of s.source) (world s.path) a.right wide fits, of_designs.written_few s a.left)) in
      entries s a 0 (written_bits s a.left) (low_bits n (step_places lowering k 0)) (states s a) same (sym long) (λ j. ap (λ k. get_or (states s a) k false) (omega arith))
  part_entries k s (Assignment left right) has = tt
  part_entries k s (GateInstance gate outs ins) has = tt
  part_entries k s (SupplyNet high n) has = tt
  part_entries k s (InputConnection i pin e) has = tt
  part_entries k s (OutputConnection i pin e) has = tt
  part_entries k s BoxContents has = tt

  all_entries : (a : ℕ) (all : List (Scope × Construct)) → ((z : ℕ × (Scope × Construct)) → Contains (enumerate_from a all) z → Contains (enumerate_from 0 (parts d)) z) → AllZip Reports (flat_map stored_at all) (flat_map (data_at lowering) (enumerate_from a all))
  all_entries a [] sub = tt
  all_entries a (p ∷ all) sub = zip_append Reports (stored_at p) (data_at lowering (a, p)) (flat_map stored_at all) (flat_map (data_at lowering) (enumerate_from (a + 1) all))
      (part_entries a p.0 p.1 (sub (a, p) (contains_here (a, p) (enumerate_from (a + 1) all)))) (all_entries (a + 1) all (λ z has. sub z (contains_there (a, p) (enumerate_from (a + 1) all) z has)))

  abbrev Found : Bit → RegisterBit → Option (Bit × CellName) → Type 0
  Found b r o = (y : Bit × CellName) × (o ≡ Some y) × Reports r y

  found_beside : (b : Bit) (rs : List RegisterBit) (ys : List (Bit × CellName)) → AllZip Reports rs ys → (r : RegisterBit) → find (λ q. same_bit b q.bit) rs ≡ Some r → Found b r (find (λ y. same_bit b y.0) ys)
  unfolding Reports
  found_beside b [] ys all r e = grind (arith, e)
  found_beside b (q ∷ rs) [] all r e = absurd all
  found_beside b (q ∷ rs) (y ∷ ys) all r e = by (same_bit b q.bit) refl e (found_beside b rs ys all.1 r)
    where
      at_place : same_bit b q.bit ≡ same_bit b y.0
      at_place = ap (same_bit b) all.0.0

      by : (t : Bool) → same_bit b q.bit ≡ t → (if t then Some q else find (λ q. same_bit b q.bit) rs) ≡ Some r → (find (λ q. same_bit b q.bit) rs ≡ Some r → Found b r (find (λ y. same_bit b y.0) ys)) → Found b r (if same_bit b y.0 then Some y else find (λ y. same_bit b y.0) ys)
      by true on h rest =
          let same : q ≡ r = grind (arith, h) in
          subst (λ t. Found b r (if t then Some y else find (λ y. same_bit b y.0) ys)) (sym on ∙ at_place) (y, refl, subst (λ u. Reports u y) same all.0)
      by false off h rest = subst (λ t. Found b r (if t then Some y else find (λ y. same_bit b y.0) ys)) (sym off ∙ at_place) (rest h)

  abbrev all_data : List (Bit × CellName)
  all_data = flat_map (data_at lowering) (enumerate_from 0 (parts d))

  -- the place of a register's data has its next state
  pub data_value : (r : RegisterBit) → Contains (registers d) r → v (place_in all_data r.bit) ≡ next_bit world r
  unfolding Reports
  data_value r has =
      let b = from_filter_map (λ b. find (λ q. same_bit b q.bit) (stored d)) (net_order d) r has in
      let bit : b.0 ≡ r.bit = (of_designs.distinguished b.0 r.bit).0 (from_find (λ q. same_bit b.0 q.bit) (stored d) r b.2).1 in
      let here : find (λ q. same_bit r.bit q.bit) (stored d) ≡ Some r = subst (λ c. find (λ q. same_bit c q.bit) (stored d) ≡ Some r) bit b.2 in
      let y = found_beside r.bit (stored d) all_data (all_entries 0 (parts d) (λ z h. h)) r here in
      ap (λ o. v (option_map_or (λ (u : Bit × CellName). u.1) o (Constant false))) y.1 ∙ y.2.1
