-- The inputs after an event of an unrolling are those with the states after the event of the design.
use Rattle.std.proofs.Common.{◌≡◌, ◌⊎◌, ℕ, zero, suc, ◌+◌, ◌-◌, ◌<◌, ◌∷◌, ◌++◌, ◌∙◌, Bool, true, false, if◌then◌else◌, List, [], map, length, get_or, Contains, Option, None, Some, refl, sym, ap, ap₂, subst, inl, inr, arith, true≢false}
use Rattle.std.specs.Prelude.{slice_get, IsSome}
use Rattle.std.specs.List.{AllZip, range_with_len}
use Rattle.std.proofs.lemmas.Bool.{cases_lt}
use Rattle.std.proofs.lemmas.List.{length-map, same_lists, map-append}
use Rattle.std.proofs.lemmas.List.FromFn.{get_or-map-range_with_len, length-map-range_with_len}
use Rattle.std.proofs.lemmas.List.Elements.{All-contains, Contains-append_right}
use Rattle.std.proofs.lemmas.Option.{get_or_from_slice_get}
use Rattle.std.proofs.lemmas.Simd.{map-map}
use Rattle.bb_bits.specs.Contents.{Contents}
use Rattle.bb_lemmas.proofs.Members.{contains-map}
use Rattle.bb_lemmas.proofs.Places.{there_at, got-map}
use Rattle.bb_net.specs.CutPoints.{CutInput, NextState, State, TopInput, TopOutput, cut_inputs, cut_outputs, state_texts}
use Rattle.bb_net.specs.declared.flat.Reg.{Reg}
use Rattle.bb_net.specs.Flats.{FlatNet, HaveClocks}
use Rattle.bb_net.specs.Values.{bit_of, flat}
use Rattle.bb_design.specs.Hierarchy.{Design}
use Rattle.bb_design.specs.Laws.DesignLaws.{DesignLaws}
use Rattle.bb_design.specs.NetBits.{Bit, top_inputs, top_outputs}
use Rattle.bb_design.specs.Registers.{RegisterBit, registers}
use Rattle.bb_design.specs.Texts.{bit_text}
use Rattle.bb_design.specs.Worlds.{World, Vector, bit_in, next_bit, outputs_in}
use Rattle.bb_implements.specs.Implements.{IsClockInput, IsRegister}
use Rattle.bb_unroll.specs.Events.{edge_at, inputs_after, is_edge, states_after, stores}
use Rattle.bb_unroll.specs.Unrolled.{clock_of, next_input, ports}
use Rattle.bb_equiv.specs.Comparable.{IsClockedByInput}
use Rattle.bb_equiv.specs.Inside.LowerLaws.{LowerLaws}
use Rattle.bb_equiv.specs.Laws.Invariants.{AreBitsOf}
use Rattle.bb_equiv.specs.Runs.{Event, IsEvent, States, Stores, seen_at}
use Rattle.bb_equiv.proofs.Comparable.{goes_by, settled}
use Rattle.bb_equiv.proofs.Runs.{one_clock, some_one}
use Rattle.bb_equiv.proofs.UnrolledBits.{IsBoxless, ValueLaws, all_fit, bit_has, filled, same_flat}

-- the other side of an item at a place
zip_at : {A B : Type 0} (P : A → B → Type 0) (xs : List A) (ys : List B) → AllZip P xs ys → (j : ℕ) (y : B) → slice_get ys j ≡ Some y
    → (x : A) × Contains xs x × P x y
zip_at P [] [] all j y at = cc at
zip_at P [] (b ∷ bs) all j y at = absurd all
zip_at P (a ∷ items) [] all j y at = absurd all
zip_at P (a ∷ items) (b ∷ bs) all zero y at =
    let same : b ≡ y = cc at in (a, there_at (a ∷ items) 0 a refl, subst (P a) same all.0)
zip_at P (a ∷ items) (b ∷ bs) all (suc j) y at =
    let (x, there, is) = zip_at P items bs all.1 j y at in (x, Contains-append_right (a ∷ []) items x there, is)

-- an input has the edge at which a register stores
edge_is : (e : Option Bool) (falling : Bool) → is_edge e falling ≡ true → e ≡ Some falling
edge_is None falling on = absurd (true≢false (sym on))
edge_is (Some true) true on = refl
edge_is (Some true) false on = absurd (true≢false (sym on))
edge_is (Some false) true on = absurd (true≢false (sym on))
edge_is (Some false) false on = refl

is_the_edge : (e : Option Bool) (falling : Bool) → e ≡ Some falling → is_edge e falling ≡ true
is_the_edge None falling on = cc on
is_the_edge (Some true) true on = refl
is_the_edge (Some true) false on = absurd (true≢false (some_one true false on))
is_the_edge (Some false) true on = absurd (true≢false (sym (some_one false true on)))
is_the_edge (Some false) false on = refl

-- what stands at a place of two lists, one after the other
pub left_at : {A : Type 0} (xs ys : List A) (k : ℕ) (x : A) → slice_get xs k ≡ Some x → slice_get (xs ++ ys) k ≡ Some x
left_at [] ys k x at = cc at
left_at (a ∷ xs) ys zero x at = at
left_at (a ∷ xs) ys (suc k) x at = left_at xs ys k x at

pub right_at : {A : Type 0} (xs ys : List A) (k : ℕ) (x : A) → slice_get ys k ≡ Some x → slice_get (xs ++ ys) (length xs + k) ≡ Some x
right_at [] ys k x at = subst (λ n. slice_get ys n ≡ Some x) {x = k} {y = 0 + k} (omega arith) at
right_at (a ∷ xs) ys k x at = subst (λ n. slice_get (a ∷ (xs ++ ys)) n ≡ Some x) {x = suc (length xs + k)} {y = length (a ∷ xs) + k} (omega arith) (right_at xs ys k x at)

pub top_at : (f : FlatNet) (j : ℕ) (n : List ℕ) → slice_get f.outs j ≡ Some n → slice_get (cut_outputs f) j ≡ Some (TopOutput n)
top_at f j n at = left_at (map TopOutput f.outs) (map NextState (state_texts f)) j (TopOutput n) (got-map TopOutput f.outs j n at)

next_at : (f : FlatNet) (j : ℕ) (r : Reg) → slice_get f.regs j ≡ Some r → slice_get (cut_outputs f) (length f.outs + j) ≡ Some (NextState r.text)
next_at f j r at =
    subst (λ n. slice_get (cut_outputs f) (n + j) ≡ Some (NextState r.text)) (length-map f.outs TopOutput)
    (right_at (map TopOutput f.outs) (map NextState (state_texts f)) j (NextState r.text) (got-map NextState (state_texts f) j r.text (got-map (λ (r : Reg). r.text) f.regs j r at)))

-- states, register by register
states_are : (f : FlatNet) (x : List Bool) (after : List ℕ → Bool) (j : ℕ) (regs : List Reg)
    → ((i : ℕ) (r : Reg) → slice_get regs i ≡ Some r
    → (if stores f x r then bit_of (flat f.net x []) (get_or f.net.outs (length f.outs + (j + i)) 0) else bit_of x (ports f + (j + i))) ≡ after r.text)
    → states_after f x j regs ≡ map (λ (r : Reg). after r.text) regs
states_are f x after j [] each = refl
states_are f x after j (r ∷ rest) each =
    ap₂ ◌∷◌ (subst (λ k. (if stores f x r then bit_of (flat f.net x []) (get_or f.net.outs (length f.outs + k) 0) else bit_of x (ports f + k)) ≡ after r.text) {x = j + 0} {y = j} (omega arith) (each 0 r refl))
    (states_are f x after (suc j) rest (λ i q at.
    subst (λ k. (if stores f x q then bit_of (flat f.net x []) (get_or f.net.outs (length f.outs + k) 0) else bit_of x (ports f + k)) ≡ after q.text) {x = j + suc i} {y = suc j + i} (omega arith) (each (suc i) q at)))

-- the item at a place
pub got : {A : Type 0} (xs : List A) (k : ℕ) → k < length xs → (x : A) × (slice_get xs k ≡ Some x)
got [] k lt = absurd (omega (arith, lt))
got (a ∷ xs) zero lt = (a, refl)
got (a ∷ xs) (suc k) lt = got xs k (omega (arith, lt))

pub input_at : (f : FlatNet) (i : ℕ) (n : List ℕ) → slice_get f.ins i ≡ Some n → slice_get (cut_inputs f) i ≡ Some (TopInput n)
input_at f i n at = left_at (map TopInput f.ins) (map State (state_texts f)) i (TopInput n) (got-map TopInput f.ins i n at)

pub state_at : (f : FlatNet) (j : ℕ) (r : Reg) → slice_get f.regs j ≡ Some r → slice_get (cut_inputs f) (length f.ins + j) ≡ Some (State r.text)
state_at f j r at =
    subst (λ n. slice_get (cut_inputs f) (n + j) ≡ Some (State r.text)) (length-map f.ins TopInput)
    (right_at (map TopInput f.ins) (map State (state_texts f)) j (State r.text) (got-map State (state_texts f) j r.text (got-map (λ (r : Reg). r.text) f.regs j r at)))

-- the bit of a vector at an input
bit_of_vector : (f : FlatNet) (v : Vector) (i : ℕ) (e : CutInput) → slice_get (cut_inputs f) i ≡ Some e → bit_of (map v (cut_inputs f)) i ≡ v e
bit_of_vector f v i e at = get_or_from_slice_get (map v (cut_inputs f)) i (v e) false (got-map v (cut_inputs f) i e at)

-- an input is one of the top or a state
side : (f : FlatNet) (i : ℕ) → (i < length f.ins) ⊎ ((j : ℕ) × (i ≡ length f.ins + j))
side f i = elim (cases_lt i (length f.ins)) [
  | inl h ↦ inl h
  | inr h ↦ inr (i - length f.ins, omega (arith, h))
]

module _ (laws : LowerLaws) (of : DesignLaws) (values : ValueLaws) {d : Design} {f : FlatNet} (is : IsBoxless d f) (clocked : HaveClocks f)
    (contents : Contents) (x : List Bool) (states : States) (event next : Event) (bits : AreBitsOf f x states event next) where
  abbrev seen : Vector
  seen = seen_at states event

  input_bit : (i : ℕ) → i < f.net.inputs → bit_of x i ≡ bit_of (map seen (cut_inputs f)) i
  input_bit i lt = elim (side f i) [
    | inl top ↦
        let (n, at) = got f.ins i top in
        sym (bits.inputs i n at) ∙ sym (bit_of_vector f seen i (TopInput n) (input_at f i n at))
    | inr (j, same) ↦
        let (r, at) = got f.regs j (omega (arith, lt, same, is.flat_net.named.inputs)) in
        ap (bit_of x) same ∙ sym (bits.present j r at) ∙ sym (bit_of_vector f seen (length f.ins + j) (State r.text) (state_at f j r at)) ∙ ap (bit_of (map seen (cut_inputs f))) (sym same)
  ]

  pub present_bits : flat f.net x [] ≡ flat f.net (map seen (cut_inputs f)) []
  present_bits = same_flat values f.net is.flat_net.net.ordered x (map seen (cut_inputs f)) input_bit

  -- the register at a place, and the input that is its clock
  module _ (j : ℕ) (r : Reg) (at : slice_get f.regs j ≡ Some r) (q : RegisterBit) (in_q : Contains (registers d) q) (reg : IsRegister d q r) where
    abbrev Clocked : Type 0
    Clocked = (c : Bit) × Contains (top_inputs d) c × IsClockedByInput d q c × (stores f x r ≡ is_edge (event.edges (bit_text d c)) q.item.falling)

    clock_from : (o : Option ℕ) → r.clock ≡ o → IsSome o → IsClockInput d reg.clock.0 o → Clocked
    clock_from None same none clock = absurd (true≢false (sym none))
    clock_from (Some k) same some (c, place, copy) =
        let in_c = there_at (top_inputs d) k c place in
        let text : slice_get f.ins k ≡ Some (bit_text d c) = ap (λ ins. slice_get ins k) is.implements.ins ∙ got-map (bit_text d) (top_inputs d) k c place in (
          c,
          in_c,
          goes_by of d is.allowed q c (record { clock = reg.clock.0; is = reg.clock.1; top = in_c; comes = copy }),
          ap (λ o. is_edge (edge_at f x (clock_of o)) r.falling) same ∙ ap₂ is_edge (sym (bits.edges k (bit_text d c) text)) reg.falling,
        )

    clock : Clocked
    clock = clock_from r.clock refl (All-contains (λ (r : Reg). IsSome r.clock) f.regs r clocked (there_at f.regs j r at)) reg.clock.2

    stores_on : stores f x r ≡ true → Stores d event q
    stores_on on = (clock.0, clock.1, clock.2, edge_is (event.edges (bit_text d clock.0)) q.item.falling (sym clock.3 ∙ on))

    stores_off : stores f x r ≡ false → Stores d event q → ⊥
    stores_off off (c, in_c, goes, edge) =
        let same = one_clock d contents (all_fit laws is contents) (settled laws (filled laws is contents)) q clock.0 c clock.1 in_c clock.2 goes in
        true≢false (sym (is_the_edge (event.edges (bit_text d clock.0)) q.item.falling (ap event.edges (sym same) ∙ edge)) ∙ sym clock.3 ∙ off)

    module _ (w : World) (after : States) (comes : IsEvent d contents states event w after) where
      there : Contains (outputs_in d w) (NextState (bit_text d q.bit), next_bit w q)
      there = Contains-append_right (map (λ b. (TopOutput (bit_text d b), bit_in w b)) (top_outputs d)) (map (λ r. (NextState (bit_text d r.bit), next_bit w r)) (registers d)) (NextState (bit_text d q.bit), next_bit w q)
          (contains-map (λ r. (NextState (bit_text d r.bit), next_bit w r)) (registers d) q in_q)

      stored : bit_of (flat f.net x []) (get_or f.net.outs (length f.outs + j) 0) ≡ next_bit w q
      stored =
          ap (λ l. bit_of l (get_or f.net.outs (length f.outs + j) 0)) present_bits
          ∙ bit_has laws is contents seen w comes.world comes.vector (length f.outs + j) (NextState r.text) (next_at f j r at) (next_bit w q)
          (subst (λ n. Contains (outputs_in d w) (NextState n, next_bit w q)) (sym reg.text) there)

      abbrev choice : Bool → Bool
      choice b = if b then bit_of (flat f.net x []) (get_or f.net.outs (length f.outs + j) 0) else bit_of x (ports f + j)

      chosen : (b : Bool) → stores f x r ≡ b → choice b ≡ after r.text
      chosen true on = stored ∙ sym (comes.stores q in_q (stores_on on)) ∙ ap after (sym reg.text)
      chosen false off = sym (bits.present j r at) ∙ ap states reg.text ∙ sym (comes.keeps q in_q (stores_off off)) ∙ ap after (sym reg.text)

      pub state_is : choice (stores f x r) ≡ after r.text
      state_is = chosen (stores f x r) refl

  module _ (w : World) (after : States) (comes : IsEvent d contents states event w after) where
    each_state : (j : ℕ) (r : Reg) → slice_get f.regs j ≡ Some r
        → (if stores f x r then bit_of (flat f.net x []) (get_or f.net.outs (length f.outs + j) 0) else bit_of x (ports f + j)) ≡ after r.text
    each_state j r at =
        let (q, in_q, reg) = zip_at (IsRegister d) (registers d) f.regs is.implements.regs j r at in
        state_is j r at q in_q reg w after comes

    tops : map (λ i. bit_of x (next_input f i)) (range_with_len 0 (ports f)) ≡ map next.inputs f.ins
    tops = same_lists (map (λ i. bit_of x (next_input f i)) (range_with_len 0 (ports f))) (map next.inputs f.ins)
        (length-map-range_with_len (λ i. bit_of x (next_input f i)) 0 (ports f) ∙ sym (length-map f.ins next.inputs)) (λ k v fits.
        let lt : k < length f.ins = omega (arith, fits, length-map-range_with_len (λ i. bit_of x (next_input f i)) 0 (ports f)) in
        let (n, at) = got f.ins k lt in
        get_or-map-range_with_len (λ i. bit_of x (next_input f i)) 0 (ports f) k k v lt (omega arith) ∙ sym (bits.inputs_after k n at)
        ∙ sym (get_or_from_slice_get (map next.inputs f.ins) k (next.inputs n) v (got-map next.inputs f.ins k n at)))

    first_state : (i : ℕ) (r : Reg) → slice_get f.regs i ≡ Some r
        → (if stores f x r then bit_of (flat f.net x []) (get_or f.net.outs (length f.outs + (0 + i)) 0) else bit_of x (ports f + (0 + i))) ≡ after r.text
    first_state i r at =
        subst (λ k. (if stores f x r then bit_of (flat f.net x []) (get_or f.net.outs (length f.outs + k) 0) else bit_of x (ports f + k)) ≡ after r.text)
        {x = i} {y = 0 + i} (omega arith) (each_state i r at)

    pub next_bits : inputs_after f x ≡ map (seen_at after next) (cut_inputs f)
    next_bits =
        ap₂ ◌++◌ (tops ∙ sym (map-map (seen_at after next) TopInput f.ins))
        (states_are f x after 0 f.regs first_state ∙ sym (map-map (λ n. seen_at after next (State n)) (λ (r : Reg). r.text) f.regs) ∙ sym (map-map (seen_at after next) State (state_texts f)))
        ∙ sym (map-append (seen_at after next) (map TopInput f.ins) (map State (state_texts f)))
