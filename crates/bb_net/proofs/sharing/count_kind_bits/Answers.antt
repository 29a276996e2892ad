use Rattle.std.proofs.Common.{ℕ, List, ◌≡◌, ◌<◌, ◌≤◌, ◌+◌, ◌*◌, ◌^◌, ◌++◌, ◌∷◌, [], length, take, get_or, sym, ap, subst, ◌∙◌, arith}
use Rattle.std.specs.Prelude.{IfNone}
use Rattle.std.proofs.lemmas.List.{get_or_read, length_push}
use Rattle.std.proofs.lemmas.List.Sums.{sum_by_push}
use Rattle.bb_net.specs.Completions.{table_bits}
use Rattle.bb_net.specs.Kinds.{FitKinds, representatives}
use Rattle.bb_net.specs.Netlists.{Pins, box_at}
use Rattle.bb_net.proofs.FirstBoxes.{prefix_sum, shown_next}
use Rattle.bb_net.proofs.sharing.count_kind_bits.Goals as goal
use Rattle.bb_net.proofs.sharing.count_kind_bits.Goals.{then-kind-count+in_ok-bits+else-bits-gt-MOST_BITS, else-kind-count}

abbrev bits_of_box : Pins → ℕ
bits_of_box pins = length pins.outs * 2 ^ length pins.ins

-- the bits of the tables of the first boxes, with those of a box of the next kind
record NextBits (kinds : List ℕ) (boxes : List Pins) (b : ℕ) : Type 0 where
  pub bits : table_bits (representatives (take (b + 1) kinds) (take (b + 1) boxes)) ≡ table_bits (representatives (take b kinds) (take b boxes)) + bits_of_box (box_at boxes b)
  pub count : length (representatives (take (b + 1) kinds) (take (b + 1) boxes)) ≡ length (representatives (take b kinds) (take b boxes)) + 1
  pub few : table_bits (representatives (take (b + 1) kinds) (take (b + 1) boxes)) ≤ table_bits (representatives kinds boxes)

next_bits : (kinds : List ℕ) (boxes : List Pins) → FitKinds kinds boxes → (b : ℕ) → b < length kinds → get_or kinds b 0 ≡ length (representatives (take b kinds) (take b boxes)) → NextBits kinds boxes b
next_bits kinds boxes fit b h new =
    let prefix = representatives (take b kinds) (take b boxes) in
    let more : representatives (take (b + 1) kinds) (take (b + 1) boxes) ≡ prefix ++ box_at boxes b ∷ [] = (shown_next kinds boxes b (record { ins = []; outs = [] }) fit.ordered (sym fit.count) h).new new in
    record {
      bits = ap table_bits more ∙ sum_by_push bits_of_box prefix (box_at boxes b);
      count = ap length more ∙ length_push prefix (box_at boxes b);
      few = prefix_sum bits_of_box kinds boxes (b + 1);
    }

pub overflow_add-count : goal.overflow_add-count
overflow_add-count c = omega (arith, c.type_inv.kinds c.loop-b.b, c.if-kind-count.true)

-- the box that was read has the bits of its place
read_bits : (boxes : List Pins) (b : ℕ) (pins : Pins) → b < length boxes → pins ≡ get_or boxes b pins → bits_of_box pins ≡ bits_of_box (box_at boxes b)
read_bits boxes b pins h is = ap bits_of_box (get_or_read boxes b pins h is (record { ins = []; outs = [] }))

pub returns-in_err-bits-clause-none : goal.returns-in_err-bits-clause-none
returns-in_err-bits-clause-none c =
    let h : c.loop-b.b < length c.args.kinds.now = c.loop-b-test.true in
    let next = next_bits c.args.kinds.now c.args.boxes.now c.requires.fit c.loop-b.b h (c.if-kind-count.true ∙ c.loop-b.invariant.2) in
    let read = read_bits c.args.boxes.now c.loop-b.b c.index-boxes-b.result (omega (arith, h, c.requires.fit.count)) c.index-boxes-b.is in
    let many : 2 ^ 24 < table_bits (representatives c.args.kinds.now c.args.boxes.now) = omega (arith, c.in_err-bits.ensures.none, read, next.bits, next.few) in
    subst (λ r. IfNone r (2 ^ 24 < table_bits (representatives c.args.kinds.now c.args.boxes.now))) (sym c.from_residual.ensures) many

pub returns-then-bits-gt-MOST_BITS-clause-none : goal.returns-then-bits-gt-MOST_BITS-clause-none
returns-then-bits-gt-MOST_BITS-clause-none c =
    let h : c.loop-b.b < length c.args.kinds.now = c.loop-b-test.true in
    let next = next_bits c.args.kinds.now c.args.boxes.now c.requires.fit c.loop-b.b h (c.if-kind-count.true ∙ c.loop-b.invariant.2) in
    let read = read_bits c.args.boxes.now c.loop-b.b c.index-boxes-b.result (omega (arith, h, c.requires.fit.count)) c.index-boxes-b.is in
    omega (arith, c.if-bits-gt-MOST_BITS.true, c.in_ok-bits.ensures.some, read, next.bits, next.few, c.loop-b.invariant.0)

pub loop-b-preserved : goal.loop-b-preserved
loop-b-preserved c =
    let h : c.loop-b.b < length c.args.kinds.now = c.loop-b-test.true in
    let below : c.loop-b.b < length c.args.boxes.now = omega (arith, h, c.requires.fit.count) in
    let shows = shown_next c.args.kinds.now c.args.boxes.now c.loop-b.b (record { ins = []; outs = [] }) c.requires.fit.ordered (sym c.requires.fit.count) h in
    elim c.if-kind-count.branch [
      | then-kind-count+in_ok-bits+else-bits-gt-MOST_BITS w ↦
          let next = next_bits c.args.kinds.now c.args.boxes.now c.requires.fit c.loop-b.b h (w.if-kind-count.true ∙ c.loop-b.invariant.2) in
          let read = read_bits c.args.boxes.now c.loop-b.b w.index-boxes-b.result below w.index-boxes-b.is in (
            omega (arith, w.bits-is, w.in_ok-bits.ensures.some, read, next.bits, c.loop-b.invariant.0),
            omega (arith, w.bits-is, w.if-bits-gt-MOST_BITS.false),
            omega (arith, w.count-is, next.count, c.loop-b.invariant.2),
          )
      | else-kind-count w ↦
          let same = shows.again (λ e. w.if-kind-count.false (e ∙ sym c.loop-b.invariant.2)) in (
            w.bits-is ∙ c.loop-b.invariant.0 ∙ ap table_bits (sym same),
            omega (arith, w.bits-is, c.loop-b.invariant.1),
            w.count-is ∙ c.loop-b.invariant.2 ∙ ap length (sym same),
          )
    ]
