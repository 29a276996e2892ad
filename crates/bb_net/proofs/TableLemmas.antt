-- Lemmas on boxes that hold tables.
use Rattle.std.proofs.Common.{◌≡◌, ℕ, ◌+◌, ◌*◌, ◌<◌, ◌≤◌, ◌^◌, Bool, List, [], ◌∷◌, ◌++◌, length, map, get_or, take, sym, ◌∙◌, ap, subst, arith}
use Rattle.std.proofs.lemmas.Bool.{cases_lt}
use Rattle.std.proofs.lemmas.List.{length-map, length-take, map_more, get_or_past}
use Rattle.std.proofs.Common.{inl, inr}
use Rattle.bb_bits.specs.Numbers.{number_of}
use Rattle.bb_bits.specs.Tables.{TableBits}
use Rattle.std.specs.Prelude.{if◌then◌else◌}
use Rattle.std.proofs.lemmas.Nat.{pow_below, pow_pos, mul-le}
use Rattle.bb_net.specs.Netlists.{Netlist, Pins, cell_at, box_at, IsNetlist}
use Rattle.bb_net.specs.Values.{bit_of, gate, tabled_bit, flat_with}
use Rattle.bb_net.proofs.ValueLaws.{value_is_unique_lem}

-- one bit more is read
pub row-more : (v : ℕ → Bool) (places : List ℕ) (i d : ℕ) → i < length places → ((bits : List Bool) (b : Bool) → number_of (bits ++ b ∷ []) ≡ 2 * number_of bits + (if b then 1 else 0))
    → number_of (map v (take (i + 1) places)) ≡ 2 * number_of (map v (take i places)) + (if v (get_or places i d) then 1 else 0)
row-more v places i d h doubles = ap number_of (map_more v places i d h) ∙ doubles (map v (take i places)) (v (get_or places i d))

-- the number of the first bits has no more bits than they are
pub row-small : (v : ℕ → Bool) (places : List ℕ) (i : ℕ) → i < length places → length places ≤ 24 → ((bits : List Bool) → number_of bits < 2 ^ length bits) → number_of (map v (take i places)) < 2 ^ 24
row-small v places i h few below =
    let len = length-take i places in
    let all = length-map (take i places) v in
    let p = pow_below (length (map v (take i places))) 24 (omega (arith, len, all)) in
    omega (arith, below (map v (take i places)), p)

pub row-below : (v : ℕ → Bool) (places : List ℕ) (n : ℕ) → n ≡ length places → ((bits : List Bool) → number_of bits < 2 ^ length bits) → number_of (map v places) < 2 ^ n
row-below v places n e below = subst (λ k. number_of (map v places) < 2 ^ k) (length-map places v ∙ sym e) (below (map v places))

-- a box with an output pin is among the boxes
pub box_of_pin : (boxes : List Pins) (b p : ℕ) → p < length (box_at boxes b).outs → b < length boxes
box_of_pin boxes b p h = elim (cases_lt b (length boxes)) [
  | inl below ↦ below
  | inr past ↦
      let none : p < 0 = subst (λ (q : Pins). p < length q.outs) (get_or_past boxes b _ past) h in
      absurd (omega (arith, none))
]

pub flat_with_is : (net : Netlist) (x : List Bool) (tables : List TableBits) (out : List Bool) → IsNetlist net → length out ≡ length net.cells
    → ((place : ℕ) → place < length net.cells → bit_of out place ≡ gate net.boxes x (tabled_bit tables) (bit_of out) (cell_at net.cells place))
    → out ≡ flat_with net x tables
flat_with_is net x tables out kept len each =
    value_is_unique_lem net x (tabled_bit tables) out kept.ordered (record { whole = len; each = each })

-- a box with an output pin and more than 24 input pins, or with more output pins than the bound, has too large a table
pub many_bits : (m k : ℕ) → 0 < m → 24 < k → 2 ^ 24 < m * 2 ^ k
many_bits m k some many =
    let p : 2 ^ 24 < 2 ^ k = pow_below 24 k many in
    let q : 1 * 2 ^ k ≤ m * 2 ^ k = mul-le 1 (2 ^ k) m (2 ^ k) some (omega arith) in
    omega (arith, p, q)

pub many_outs : (m k : ℕ) → 2 ^ 24 < m → 2 ^ 24 < m * 2 ^ k
many_outs m k many =
    let q : m * 1 ≤ m * 2 ^ k = mul-le m 1 m (2 ^ k) (omega arith) (pow_pos k) in
    omega (arith, many, q)
