-- Each box of a sound design is higher than those on which it depends: bits have levels, and a box is above those of its
-- inputs.
use Rattle.std.proofs.Common.{◌≡◌, ◌⊎◌, ℕ, suc, ◌+◌, ◌<◌, ◌≤◌, max, List, [], ◌∷◌, map, Contains, refl, ap, inl, inr, arith}
use Rattle.std.specs.List.{enumerate_from}
use Rattle.std.proofs.lemmas.List.Elements.{All-contains}
use Rattle.bb_bits.specs.Closures.{Leads, One, More}
use Rattle.bb_design.specs.Inside.Allowed.{IsAllowed}
use Rattle.bb_design.specs.Constructs.{BoxContents}
use Rattle.bb_design.specs.Dependence.{dependences, needed}
use Rattle.bb_design.specs.Laws.DesignLaws.{DesignLaws}
use Rattle.bb_design.specs.Drivers.{Box, Drive, driven, drives}
use Rattle.bb_design.specs.Hierarchy.{Design, Scope, boxes}
use Rattle.bb_design.specs.NetBits.{Bit, input_bits, output_bits}
use Rattle.bb_design.specs.Refusals.{Cycle}
use Rattle.bb_implements.specs.BoxOrders.{DependsOnBox}
use Rattle.bb_implements.specs.Laws.BoxOrders.{BoxesHaveHeights}
use Rattle.bb_lemmas.proofs.Members.{contains-map, contains_cases, into_flat, none_in_nil}
use Rattle.bb_lemmas.proofs.Numbered.{numbered_there}
use Rattle.bb_implements.proofs.GivenDrives.{box_part, part_driven}

module _ (level : Bit → ℕ) where
  -- above the levels of these bits
  abbrev above : List Bit → ℕ
  above [] = 0
  above (b ∷ bits) = max (level b + 1) (above bits)

  each_below : (bits : List Bit) (b : Bit) → Contains bits b → level b < above bits
  each_below [] b has = absurd (none_in_nil b has)
  each_below (x ∷ bits) b has = by (contains_cases x bits b has) (each_below bits b)
    where
      by : (x ≡ b) ⊎ Contains bits b → (Contains bits b → level b < above bits) → level b < max (level x + 1) (above bits)
      by (inl same) rest = let e = ap level same in omega (arith, e)
      by (inr there) rest = let lt = rest there in omega (arith, lt)

  least_above : (bits : List Bit) (n : ℕ) → ((b : Bit) → Contains bits b → level b < n) → above bits ≤ n
  least_above [] n each = omega arith
  least_above (x ∷ bits) n each =
      let head = each x (0, omega arith, refl) in
      let rest = least_above bits n (λ b has. each b (suc has.0, omega (arith, has.1), has.2)) in
      omega (arith, head, rest)

module _ (of_designs : DesignLaws) (d : Design) (allowed : IsAllowed d) where
  abbrev level : Bit → ℕ
  level = (allowed.sound Cycle).0

  falls : (x y : Bit) → Contains (dependences d) (x, y) → level y < level x
  falls x y has = All-contains (λ (z : Bit × Bit). level z.1 < level z.0) (dependences d) (x, y) (allowed.sound Cycle).1 has

  leads_fall : (x y : Bit) → Leads (dependences d) x y → level y < level x
  leads_fall x y (One has) = falls x y has
  leads_fall x y (More {y = z} has rest) = let first = falls x z has in let more = leads_fall z y rest in omega (arith, first, more)

  -- an output bit of a box depends on each input bit of it
  box_depends : (t : Scope) → Contains (boxes d) t → (y x : Bit) → Contains (output_bits t) y → Contains (input_bits t) x → Contains (dependences d) (y, x)
  box_depends t has y x out in_bit =
      let p = numbered_there 0 (output_bits t) y out in
      let drive = part_driven of_designs d (t, BoxContents) (box_part of_designs d t has) (driven (Box t p.0) y) (contains-map (λ (z : ℕ × Bit). driven (Box t z.0) z.1) (enumerate_from 0 (output_bits t)) (p.0, y) p.1) in
      into_flat (λ (z : Drive). map (λ c. (z.bit, c)) (needed z.source)) (drives d) (driven (Box t p.0) y) (y, x) drive (contains-map {B = Bit × Bit} (λ c. (y, c)) (input_bits t) x in_bit)

  abbrev height : Scope → ℕ
  height s = above level (input_bits s)

  lower : (s t : Scope) → Contains (boxes d) t → DependsOnBox d s t → height t < height s
  lower s t has on =
      let of_s = each_below level (input_bits s) on.input on.of_one in
      let of_t = least_above level (input_bits t) (level on.output) (λ x at. falls on.output x (box_depends t has on.output x on.of_other at)) in
      by on.depends of_s of_t
    where
      by : (on.input ≡ on.output) ⊎ Leads (dependences d) on.input on.output → level on.input < height s → height t ≤ level on.output → height t < height s
      by (inl same) of_s of_t = let e = ap level same in omega (arith, e, of_s, of_t)
      by (inr leads) of_s of_t = let lt = leads_fall on.input on.output leads in omega (arith, lt, of_s, of_t)

module _ (of_designs : DesignLaws) where
  pub boxes_have_heights : BoxesHaveHeights
  boxes_have_heights d allowed = (height of_designs d allowed, lower of_designs d allowed)
