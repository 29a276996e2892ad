-- what the lanes of a pass say
use Rattle.std.proofs.Common.{◌≡◌, ◌≢◌, ◌<◌, ◌≤◌, ◌^◌, ◌==◌, ℕ, zero, suc, Bool, true, false, List, [], length, slice_index, Option, Some, None, refl, sym, ap, ◌∙◌, subst, true≢false, w64, arith}
use Rattle.std.specs.Prelude.{IfSome, MatchBool}
use Rattle.std.specs.Int.Count.{count_trailing_zeros}
use Rattle.std.proofs.lemmas.Nat.Bits.{bit_at-trailing_zeros}
use Rattle.bb_net.specs.declared.cell.Cell.{Cell}
use Rattle.bb_net.specs.declared.cell.Cell.TheVariants as cells
use Rattle.bb_net.specs.Netlists.{Netlist, Pins, cell_at}
use Rattle.bb_net.specs.Values.{bit_of, gate, free_bit, value_of, IsValue, flat}
use Rattle.bb_net.specs.Ternary.{tern_of, tern}
use Rattle.bb_net.specs.Conditions.{MayBeRight}
use Rattle.bb_net.specs.Equivalence.{IsOutput}
use Rattle.bb_tern.specs.declared.lanes.Known.{Known}
use Rattle.bb_tern.specs.Inside.Lanes.{lane, AreBitsOf, is_known_wrong, wrong_at, ReportsAll, FindsFirst, pattern_at, AreFilled, IsHitAt}
use Rattle.bb_tern.proofs.LaneLemmas.{lane_zero}

-- without bits for the boxes a box output is 0
plain_gate : (boxes : List Pins) (x : List Bool) (value : ℕ → Bool) (cell : Cell) → gate boxes x (free_bit boxes []) value cell ≡ gate [] x (λ b p ins. false) value cell
plain_gate boxes x value (cells.Const b) = refl
plain_gate boxes x value (cells.Input i) = refl
plain_gate boxes x value (cells.Not a) = refl
plain_gate boxes x value (cells.And a b) = refl
plain_gate boxes x value (cells.Or a b) = refl
plain_gate boxes x value (cells.Xor a b) = refl
plain_gate boxes x value (cells.Mux c t e) = refl
plain_gate boxes x value (cells.BoxOut b p) = refl

pub bits_of_cells : (net : Netlist) (x : List Bool) → IsValue net x (free_bit net.boxes []) (value_of net x (free_bit net.boxes [])) → AreBitsOf net.cells x (bit_of (flat net x []))
bits_of_cells net x value place inside = value.each place inside ∙ plain_gate net.boxes x (bit_of (flat net x [])) (cell_at net.cells place)

right : (wanted : Bool) (value : Option Bool) → is_known_wrong wanted value ≡ false → IfSome value (λ bit. wanted ≡ bit)
right wanted None e = tt
right true (Some true) e = refl
right false (Some false) e = refl
right true (Some false) e = absurd (true≢false e)
right false (Some true) e = absurd (true≢false e)

wrong : (wanted : Bool) (value : Option Bool) → is_known_wrong wanted value ≡ true → (bit : Bool) × (value ≡ Some bit) × (wanted ≢ bit)
wrong wanted None e = absurd (true≢false (sym e))
wrong true (Some true) e = absurd (true≢false (sym e))
wrong false (Some false) e = absurd (true≢false (sym e))
wrong true (Some false) e = (false, refl, λ h. true≢false h)
wrong false (Some true) e = (true, refl, λ h. true≢false (sym h))

-- the lanes below the first one are none, and it is one
below_first : (word i : ℕ) → word < 2 ^ 64 → i < count_trailing_zeros 64 word → i < 64 → lane word i ≡ false
below_first zero i small l inside = lane_zero i
below_first (suc n) i small l inside = ap (λ d. d == 1) ((bit_at-trailing_zeros w64 (suc n) (omega arith) small).2 i l)

at_first : (word : ℕ) → word < 2 ^ 64 → count_trailing_zeros 64 word < 64 → lane word (count_trailing_zeros 64 word) ≡ true
unfolding count_trailing_zeros
at_first zero small l = let none : count_trailing_zeros 64 0 ≡ 64 = refl in absurd (omega (arith, l, none))
at_first (suc n) small l = ap (λ d. d == 1) ((bit_at-trailing_zeros w64 (suc n) (omega arith) small).1)

module _ (spec imp : Netlist) (rows : List (List Bool)) (wanted : List ℕ) (known : List Known) (filled : AreFilled spec imp rows wanted known) where
  abbrev pub bits : ℕ → ℕ → Bool
  bits k = bit_of (flat spec (pattern_at rows k) [])

  abbrev pub values : ℕ → ℕ → Option Bool
  values k = tern_of (tern imp (pattern_at rows k))

  -- where no output is wrong in the lanes below the first one, no pattern below it is a hit
  pub none_below : (word : ℕ) → word < 2 ^ 64 → length rows ≤ 64 → ReportsAll spec.outs imp.outs wanted known word → (k : ℕ) → k ≤ count_trailing_zeros 64 word → (i : ℕ) → i < k → i < length rows → (o : ℕ) → IsOutput imp o → MayBeRight spec imp (pattern_at rows i) o
  none_below word small few reports k l i below inside o output =
      let at = filled i inside in
      let dark = below_first word i small (omega (arith, below, l)) (omega (arith, inside, few)) in
      let reported = subst (λ r. MatchBool r ((j : ℕ) × (j < length imp.outs) × (wrong_at (bits i) (values i) spec.outs imp.outs j ≡ true)) ((j : ℕ) → j < length imp.outs → wrong_at (bits i) (values i) spec.outs imp.outs j ≡ false)) dark
      (reports i (bits i) (values i) (omega (arith, inside, few)) at.0 at.1) in
      right (bits i (slice_index spec.outs o)) (values i (slice_index imp.outs o)) (reported o output)

  -- the lane of the first one has a wrong output
  wrong_there : (word : ℕ) → word < 2 ^ 64 → length rows ≤ 64 → ReportsAll spec.outs imp.outs wanted known word → count_trailing_zeros 64 word < length rows →
      (j : ℕ) × (j < length imp.outs) × (wrong_at (bits (count_trailing_zeros 64 word)) (values (count_trailing_zeros 64 word)) spec.outs imp.outs j ≡ true)
  wrong_there word small few reports inside =
      let k = count_trailing_zeros 64 word in
      let at = filled k inside in
      let lit = at_first word small (omega (arith, inside, few)) in
      subst (λ r. MatchBool r ((j : ℕ) × (j < length imp.outs) × (wrong_at (bits k) (values k) spec.outs imp.outs j ≡ true)) ((j : ℕ) → j < length imp.outs → wrong_at (bits k) (values k) spec.outs imp.outs j ≡ false)) lit
      (reports k (bits k) (values k) (omega (arith, inside, few)) at.0 at.1)

  -- so one is found there
  pub one_is_found : (word : ℕ) → word < 2 ^ 64 → length rows ≤ 64 → ReportsAll spec.outs imp.outs wanted known word → count_trailing_zeros 64 word < length rows →
      FindsFirst spec.outs imp.outs wanted known (count_trailing_zeros 64 word) None → ⊥
  one_is_found word small few reports inside none =
      let k = count_trailing_zeros 64 word in
      let at = filled k inside in
      let there = wrong_there word small few reports inside in
      true≢false (sym there.2 ∙ none (bits k) (values k) at.0 at.1 there.0 there.1)

  -- and it is the hit
  pub hit_there : (word : ℕ) → word < 2 ^ 64 → length rows ≤ 64 → ReportsAll spec.outs imp.outs wanted known word → count_trailing_zeros 64 word < length rows → (j : ℕ) →
      FindsFirst spec.outs imp.outs wanted known (count_trailing_zeros 64 word) (Some j) → IsHitAt spec imp rows (count_trailing_zeros 64 word) j
  hit_there word small few reports inside j found =
      let k = count_trailing_zeros 64 word in
      let at = filled k inside in
      let first = found (bits k) (values k) at.0 at.1 in
      record {
        inside = inside;
        earlier = λ i below. none_below word small few reports k (omega arith) i below (omega (arith, below, inside));
        there = first.0;
        wrong = wrong (bits k (slice_index spec.outs j)) (values k (slice_index imp.outs j)) first.1;
        first = λ o below. right (bits k (slice_index spec.outs o)) (values k (slice_index imp.outs o)) (first.2 o below);
      }
