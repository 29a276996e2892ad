-- What the unrolling of a netlist keeps is an invariant of the design that it implements, and what breaks it there breaks it here.
use Rattle.std.proofs.Common.{◌≡◌, ℕ, ◌+◌, ◌*◌, ◌<◌, ◌∷◌, ◌++◌, ◌∙◌, Bool, true, false, not, ◌&&◌, if◌then◌else◌, List, [], map, length, take, drop, Contains, Option, None, Some, refl, sym, ap, ap₂, subst, inl, inr, arith, true≢false, length-append}
use Rattle.std.specs.Prelude.{slice_get, IsSome}
use Rattle.std.specs.List.{AllZip}
use Rattle.std.proofs.lemmas.List.{get_or-drop, get_or-take, get_or_default, length-drop, length-map, length-take-le, same_lists}
use Rattle.std.proofs.lemmas.List.Elements.{All-contains, Contains-append_right}
use Rattle.std.proofs.lemmas.Option.{get_or_from_slice_get, slice_get_within}
use Rattle.bb_bits.specs.Contents.{Contents}
use Rattle.bb_lemmas.proofs.Members.{contains_cases, contains_here, none_in_nil}
use Rattle.bb_lemmas.proofs.Places.{there_at, got-map}
use Rattle.bb_net.specs.CutPoints.{CutInput, State, TopInput, TopOutput, cut_inputs, state_texts}
use Rattle.bb_net.specs.declared.flat.Reg.{Reg}
use Rattle.bb_net.specs.Flats.{FlatNet, HaveClocks}
use Rattle.bb_net.specs.Values.{bit_of, flat}
use Rattle.bb_design.specs.Hierarchy.{Design}
use Rattle.bb_design.specs.Laws.DesignLaws.{DesignLaws}
use Rattle.bb_design.specs.NetBits.{Bit, top_inputs}
use Rattle.bb_design.specs.Registers.{RegisterBit, registers}
use Rattle.bb_design.specs.Worlds.{World, Vector, HasVector, IsWorld, outputs_in}
use Rattle.bb_implements.specs.Implements.{IsClockInput, IsRegister}
use Rattle.bb_unroll.specs.Events.{IsBrokenAt, IsKept, IsOutputCell, edge_at, inputs_after, is_edge, is_one_at}
use Rattle.bb_unroll.specs.Unrolled.{fall_input, next_input, rise_input}
use Rattle.bb_equiv.specs.Comparable.{IsClockedByInput}
use Rattle.bb_equiv.specs.DesignEquivalence.{IsRequired}
use Rattle.bb_equiv.specs.Inside.LowerLaws.{LowerLaws}
use Rattle.bb_equiv.specs.Invariants.{IsBrokenBy, IsInvariant}
use Rattle.bb_equiv.specs.Laws.Invariants.{AreBitsOf, AreListedIn, BrokenAreBroken, ImplementsInvariant, IsCareCell, KeptAreInvariants}
use Rattle.bb_equiv.specs.Mistakes.{inputs_of}
use Rattle.bb_equiv.specs.Runs.{Event, IsEvent, States, seen_at}
use Rattle.bb_equiv.proofs.Comparable.{goes_by, settled}
use Rattle.bb_equiv.proofs.NamedVectors.{place, place-at, registers_are, vector_is, vector_of}
use Rattle.bb_equiv.proofs.Runs.{after_event, event_comes}
use Rattle.bb_equiv.proofs.UnrolledBits.{IsBoxless, ValueLaws, all_fit, bit_has, filled, has_bit}
use Rattle.bb_equiv.proofs.UnrolledEvents.{got, input_at, left_at, next_bits, present_bits, right_at, state_at, top_at}
use Rattle.bb_equiv.proofs.WorldOutputs.{ins_count, some_world}

-- an edge is found again by whether it rises and whether it falls
edge_again : (e : Option Bool) → (if is_edge e false then Some false else (if is_edge e true then Some true else None)) ≡ e
edge_again None = refl
edge_again (Some true) = refl
edge_again (Some false) = refl

-- what is no violation
kept_bit : (c k l : Bool) → c ≡ true → k ≡ true → (c && (k && not l)) ≡ false → l ≡ true
kept_bit true true true on one same = refl
kept_bit true true false on one same = absurd (true≢false same)
kept_bit true false l on one same = absurd (true≢false (sym one))
kept_bit false k l on one same = absurd (true≢false (sym on))

-- and what is one
care_bit : (c k l : Bool) → (c && (k && not l)) ≡ true → c ≡ true
care_bit true k l on = refl
care_bit false k l on = absurd (true≢false (sym on))

one_bit : (c k l : Bool) → (c && (k && not l)) ≡ true → k ≡ true
one_bit true true l on = refl
one_bit true false l on = absurd (true≢false (sym on))
one_bit false k l on = absurd (true≢false (sym on))

zero_bit : (c k l : Bool) → (c && (k && not l)) ≡ true → l ≡ false
zero_bit true true true on = absurd (true≢false (sym on))
zero_bit true true false on = refl
zero_bit true false l on = absurd (true≢false (sym on))
zero_bit false k l on = absurd (true≢false (sym on))

module _ (laws : LowerLaws) (of : DesignLaws) (values : ValueLaws) {care : Option (List ℕ)} {name : List ℕ} {d : Design} {f : FlatNet} {k : ℕ} {c : Option ℕ}
    (meant : ImplementsInvariant care name d f k c) where
  pub boxless : IsBoxless d f
  boxless = record { allowed = meant.allowed; implements = meant.implements; flat_net = meant.can.is_flat; none = meant.can.no_box }

  clocked : HaveClocks f
  clocked = meant.can.clocked

  -- an output of the top as it is at its cell
  module _ (contents : Contents) (v : Vector) (w : World) (world : IsWorld d contents w) (has : HasVector d v w) (n : List ℕ) (m : ℕ) (cell : IsOutputCell f n m) where
    cell_has : (b : Bool) → Contains (outputs_in d w) (TopOutput n, b) → bit_of (flat f.net (map v (cut_inputs f)) []) m ≡ b
    cell_has b on = ap (bit_of (flat f.net (map v (cut_inputs f)) [])) cell.2 ∙ bit_has laws boxless contents v w world has cell.0 (TopOutput n) (top_at f cell.0 n cell.1) b on

    has_cell : (b : Bool) → bit_of (flat f.net (map v (cut_inputs f)) []) m ≡ b → Contains (outputs_in d w) (TopOutput n, b)
    has_cell b same = has_bit laws boxless contents v w world has cell.0 (TopOutput n) (top_at f cell.0 n cell.1) b (ap (bit_of (flat f.net (map v (cut_inputs f)) [])) (sym cell.2) ∙ same)

  module _ (contents : Contents) (v : Vector) (w : World) (world : IsWorld d contents w) (has : HasVector d v w) where
    required_at : (care : Option (List ℕ)) (c : Option ℕ) → IsCareCell f care c → IsRequired care (outputs_in d w) → is_one_at c (flat f.net (map v (cut_inputs f)) []) ≡ true
    required_at None None cell on = refl
    required_at None (Some m) cell on = absurd cell
    required_at (Some n) None cell on = absurd cell
    required_at (Some n) (Some m) cell on = cell_has contents v w world has n m cell true on

    required_from : (care : Option (List ℕ)) (c : Option ℕ) → IsCareCell f care c → is_one_at c (flat f.net (map v (cut_inputs f)) []) ≡ true → IsRequired care (outputs_in d w)
    required_from None None cell on = tt
    required_from None (Some m) cell on = absurd cell
    required_from (Some n) None cell on = absurd cell
    required_from (Some n) (Some m) cell on = has_cell contents v w world has n m cell true on

  -- the bits of an event
  module _ (states : States) (event next : Event) where
    abbrev rises : List Bool
    rises = map (λ n. is_edge (event.edges n) false) f.ins

    abbrev falls : List Bool
    falls = map (λ n. is_edge (event.edges n) true) f.ins

    abbrev present : List Bool
    present = map (seen_at states event) (cut_inputs f)

    abbrev bits : List Bool
    bits = present ++ (map next.inputs f.ins ++ (rises ++ falls))

    present_long : length present ≡ f.net.inputs
    present_long = length-map (cut_inputs f) (seen_at states event) ∙ ins_count f boxless.flat_net

    pub bits_long : length bits ≡ f.net.inputs + 3 * length f.ins
    bits_long =
        let a = length-append present (map next.inputs f.ins ++ (rises ++ falls)) in
        let b = length-append (map next.inputs f.ins) (rises ++ falls) in
        let e = length-append rises falls in
        omega (arith, a, b, e, present_long, length-map f.ins next.inputs, length-map f.ins (λ n. is_edge (event.edges n) false), length-map f.ins (λ n. is_edge (event.edges n) true))

    bit_from : (i : ℕ) (b : Bool) → slice_get bits i ≡ Some b → bit_of bits i ≡ b
    bit_from i b at = get_or_from_slice_get bits i b false at

    after_present : (i : ℕ) (b : Bool) → slice_get (map next.inputs f.ins ++ (rises ++ falls)) i ≡ Some b → bit_of bits (f.net.inputs + i) ≡ b
    after_present i b at = ap (λ n. bit_of bits (n + i)) (sym present_long) ∙ bit_from (length present + i) b (right_at present (map next.inputs f.ins ++ (rises ++ falls)) i b at)

    next_bit_is : (i : ℕ) (n : List ℕ) → slice_get f.ins i ≡ Some n → bit_of bits (next_input f i) ≡ next.inputs n
    next_bit_is i n at = after_present i (next.inputs n) (left_at (map next.inputs f.ins) (rises ++ falls) i (next.inputs n) (got-map next.inputs f.ins i n at))

    rise_bit_is : (i : ℕ) (n : List ℕ) → slice_get f.ins i ≡ Some n → bit_of bits (rise_input f i) ≡ is_edge (event.edges n) false
    rise_bit_is i n at =
        after_present (length f.ins + i) (is_edge (event.edges n) false)
        (subst (λ m. slice_get (map next.inputs f.ins ++ (rises ++ falls)) (m + i) ≡ Some (is_edge (event.edges n) false)) (length-map f.ins next.inputs)
        (right_at (map next.inputs f.ins) (rises ++ falls) i (is_edge (event.edges n) false)
        (left_at rises falls i (is_edge (event.edges n) false) (got-map (λ n. is_edge (event.edges n) false) f.ins i n at))))

    fall_bit_is : (i : ℕ) (n : List ℕ) → slice_get f.ins i ≡ Some n → bit_of bits (fall_input f i) ≡ is_edge (event.edges n) true
    fall_bit_is i n at =
        after_present (2 * length f.ins + i) (is_edge (event.edges n) true)
        (subst (λ m. slice_get (map next.inputs f.ins ++ (rises ++ falls)) m ≡ Some (is_edge (event.edges n) true))
        {x = length (map next.inputs f.ins) + (length rises + i)} {y = 2 * length f.ins + i} (omega (arith, length-map f.ins next.inputs, length-map f.ins (λ n. is_edge (event.edges n) false)))
        (right_at (map next.inputs f.ins) (rises ++ falls) (length rises + i) (is_edge (event.edges n) true)
        (right_at rises falls i (is_edge (event.edges n) true) (got-map (λ n. is_edge (event.edges n) true) f.ins i n at))))

    present_bit_is : (i : ℕ) (b : Bool) → slice_get present i ≡ Some b → bit_of bits i ≡ b
    present_bit_is i b at = bit_from i b (left_at present (map next.inputs f.ins ++ (rises ++ falls)) i b at)

    pub are_bits : AreBitsOf f bits states event next
    are_bits = record {
      inputs = λ i n at. sym (present_bit_is i (event.inputs n) (got-map (seen_at states event) (cut_inputs f) i (TopInput n) (input_at f i n at)));
      present = λ j r at. sym (present_bit_is (length f.ins + j) (states r.text) (got-map (seen_at states event) (cut_inputs f) (length f.ins + j) (State r.text) (state_at f j r at)));
      edges = λ i n at.
          sym (edge_again (event.edges n))
          ∙ ap₂ (λ a b. if a then Some false else (if b then Some true else None)) (sym (rise_bit_is i n at)) (sym (fall_bit_is i n at));
      inputs_after = λ i n at. sym (next_bit_is i n at);
    }

  pub is_invariant : IsKept f k c → IsInvariant care d name
  is_invariant kept contents states after event w comes required before next v world has =
      let x = bits states event next in
      let are = are_bits states event next in
      let seen = seen_at states event in
      let same = present_bits laws of values boxless clocked contents x states event next are in
      let later = next_bits laws of values boxless clocked contents x states event next are w after comes in
      let on : is_one_at c (flat f.net x []) ≡ true = ap (is_one_at c) same ∙ required_at contents seen w comes.world comes.vector care c meant.care_cell required in
      let one : bit_of (flat f.net x []) k ≡ true = ap (λ l. bit_of l k) same ∙ cell_has contents seen w comes.world comes.vector name k meant.cell true before in
      let still : bit_of (flat f.net (inputs_after f x) []) k ≡ true =
      kept_bit (is_one_at c (flat f.net x [])) (bit_of (flat f.net x []) k) (bit_of (flat f.net (inputs_after f x) []) k) on one (kept x (bits_long states event next)) in
      has_cell contents (seen_at after next) v world has name k meant.cell true (ap (λ l. bit_of (flat f.net l []) k) (sym later) ∙ still)

  -- an event with these bits
  module _ (x : List Bool) (broken : IsBrokenAt f k c x) where
    pub long : length x ≡ f.net.inputs + 3 * length f.ins
    long = broken.0

    pub xs_long : length (take f.net.inputs x) ≡ length (cut_inputs f)
    xs_long = length-take-le f.net.inputs x (omega (arith, long)) ∙ sym (ins_count f boxless.flat_net)

    abbrev v0 : Vector
    v0 = vector_of f boxless.flat_net (take f.net.inputs x) xs_long

    abbrev the_states : States
    the_states n = v0 (State n)

    abbrev the_event : Event
    the_event = record { inputs = λ n. v0 (TopInput n); edges = λ n. edge_at f x (place f.ins n) }

    abbrev the_next : Event
    the_next = record { inputs = λ n. bit_of x (next_input f (place f.ins n)); edges = λ n. None }

    input_is : (i : ℕ) (n : List ℕ) → slice_get f.ins i ≡ Some n → v0 (TopInput n) ≡ bit_of x i
    unfolding vector_of
    input_is i n at =
        ap (bit_of (take f.net.inputs x)) (place-at f.ins i n boxless.flat_net.apart.ins at)
        ∙ get_or-take f.net.inputs x i false (omega (arith, slice_get_within f.ins i n at, boxless.flat_net.named.inputs))

    state_is : (j : ℕ) (r : Reg) → slice_get f.regs j ≡ Some r → v0 (State r.text) ≡ bit_of x (length f.ins + j)
    unfolding vector_of
    state_is j r at =
        ap (λ m. bit_of (take f.net.inputs x) (length f.ins + m)) (place-at (state_texts f) j r.text boxless.flat_net.apart.regs (got-map (λ (r : Reg). r.text) f.regs j r at))
        ∙ get_or-take f.net.inputs x (length f.ins + j) false (omega (arith, slice_get_within f.regs j r at, boxless.flat_net.named.inputs))

    pub the_bits : AreBitsOf f x the_states the_event the_next
    the_bits = record {
      inputs = input_is;
      present = state_is;
      edges = λ i n at. ap (edge_at f x) (place-at f.ins i n boxless.flat_net.apart.ins at);
      inputs_after = λ i n at. ap (λ i. bit_of x (next_input f i)) (place-at f.ins i n boxless.flat_net.apart.ins at);
    }

    map_same : {A : Type 0} (g h : A → Bool) (items : List A) → ((a : A) → g a ≡ h a) → map g items ≡ map h items
    map_same g h [] same = refl
    map_same g h (a ∷ items) same = ap₂ ◌∷◌ (same a) (map_same g h items same)

    same_seen : (e : CutInput) → v0 e ≡ seen_at the_states the_event e
    same_seen (TopInput n) = refl
    same_seen (State n) = refl

    cuts : cut_inputs f ≡ inputs_of d
    cuts = ap₂ ◌++◌ (ap (map TopInput) meant.implements.ins) (ap (map State) (registers_are d f meant.implements))

    after_is : take (length f.ins) (drop f.net.inputs x) ≡ map the_next.inputs f.ins
    after_is =
        let dropped = length-drop f.net.inputs x in
        let taken = length-take-le (length f.ins) (drop f.net.inputs x) (omega (arith, dropped, long)) in
        same_lists (take (length f.ins) (drop f.net.inputs x)) (map the_next.inputs f.ins) (taken ∙ sym (length-map f.ins the_next.inputs)) (λ i v fits.
        let lt : i < length f.ins = omega (arith, fits, taken) in
        let (n, at) = got f.ins i lt in
        get_or-take (length f.ins) (drop f.net.inputs x) i v lt ∙ get_or-drop f.net.inputs x i v ∙ get_or_default x (f.net.inputs + i) v false (omega (arith, lt, long))
        ∙ ap (λ j. bit_of x (next_input f j)) (sym (place-at f.ins i n boxless.flat_net.apart.ins at))
        ∙ sym (get_or_from_slice_get (map the_next.inputs f.ins) i (the_next.inputs n) v (got-map the_next.inputs f.ins i n at)))

    pub are_listed : AreListedIn d f x the_states the_event the_next
    are_listed = record {
      ins = meant.implements.ins;
      present = sym (vector_is f boxless.flat_net (take f.net.inputs x) xs_long) ∙ map_same v0 (seen_at the_states the_event) (cut_inputs f) same_seen
          ∙ ap (map (seen_at the_states the_event)) cuts;
      edges = the_bits.edges;
      inputs_after = after_is ∙ ap (map the_next.inputs) meant.implements.ins;
    }

    module _ (contents : Contents) where
      -- the input that is the clock of a register bit
      zip_from : (rs : List RegisterBit) (regs : List Reg) → AllZip (IsRegister d) rs regs → (q : RegisterBit) → Contains rs q → (r : Reg) × Contains regs r × IsRegister d q r
      zip_from [] regs all q in_q = absurd (none_in_nil q in_q)
      zip_from (a ∷ rs) [] all q in_q = absurd all
      zip_from (a ∷ rs) (b ∷ regs) all q in_q = elim (contains_cases a rs q in_q) [
        | inl same ↦ (b, contains_here b regs, subst (λ s. IsRegister d s b) same all.0)
        | inr rest ↦ let (r, there, is) = zip_from rs regs all.1 q rest in (r, Contains-append_right (b ∷ []) regs r there, is)
      ]

      clock_from : (q : RegisterBit) (r : Reg) (reg : IsRegister d q r) (o : Option ℕ) → IsSome o → IsClockInput d reg.clock.0 o → (b : Bit) × Contains (top_inputs d) b × IsClockedByInput d q b
      clock_from q r reg None none clock = absurd (true≢false (sym none))
      clock_from q r reg (Some i) some (b, at, copy) =
          let in_b = there_at (top_inputs d) i b at in
          (b, in_b, goes_by of d meant.allowed q b (record { clock = reg.clock.0; is = reg.clock.1; top = in_b; comes = copy }))

      clock_of_bit : (q : RegisterBit) → Contains (registers d) q → (b : Bit) × Contains (top_inputs d) b × IsClockedByInput d q b
      clock_of_bit q in_q =
          let (r, in_r, reg) = zip_from (registers d) f.regs meant.implements.regs q in_q in
          clock_from q r reg r.clock (All-contains (λ (r : Reg). IsSome r.clock) f.regs r clocked in_r) reg.clock.2

      first_world : (w : World) × IsWorld d contents w × HasVector d v0 w
      first_world = some_world laws (filled laws boxless contents) v0

      abbrev w0 : World
      w0 = first_world.0

      has_seen : HasVector d (seen_at the_states the_event) w0
      has_seen = record { inputs = first_world.2.inputs; states = first_world.2.states }

      abbrev after0 : States
      after0 = after_event d contents meant.allowed (all_fit laws boxless contents) (settled laws (filled laws boxless contents)) clock_of_bit the_states the_event w0

      comes0 : IsEvent d contents the_states the_event w0 after0
      comes0 = event_comes d contents meant.allowed (all_fit laws boxless contents) (settled laws (filled laws boxless contents)) clock_of_bit the_states the_event w0 first_world.1 has_seen

      pub broken_by : IsBrokenBy care d name contents the_states the_event the_next
      broken_by =
          let same = present_bits laws of values boxless clocked contents x the_states the_event the_next the_bits in
          let later = next_bits laws of values boxless clocked contents x the_states the_event the_next the_bits w0 after0 comes0 in
          let on = broken.1 in
          let o = is_one_at c (flat f.net x []) in
          let a = bit_of (flat f.net x []) k in
          let b = bit_of (flat f.net (inputs_after f x) []) k in
          let seen = seen_at the_states the_event in
          record {
            w = w0;
            after = after0;
            comes = comes0;
            required = required_from contents seen w0 first_world.1 has_seen care c meant.care_cell (ap (is_one_at c) (sym same) ∙ care_bit o a b on);
            before = has_cell contents seen w0 first_world.1 has_seen name k meant.cell true (ap (λ l. bit_of l k) (sym same) ∙ one_bit o a b on);
            next_world = some_world laws (filled laws boxless contents) (seen_at after0 the_next);
            later = λ v world has. has_cell contents (seen_at after0 the_next) v world has name k meant.cell false (ap (λ l. bit_of (flat f.net l []) k) (sym later) ∙ zero_bit o a b on);
          }

pub kept_are_invariants : LowerLaws → DesignLaws → ValueLaws → KeptAreInvariants
kept_are_invariants laws of values care name d f k c meant kept = is_invariant laws of values meant kept

pub broken_are_broken : LowerLaws → DesignLaws → ValueLaws → BrokenAreBroken
broken_are_broken laws of values care name d f k c x meant broken = (
  the_states laws of values meant x broken,
  the_event laws of values meant x broken,
  the_next laws of values meant x broken,
  are_listed laws of values meant x broken,
  broken_by laws of values meant x broken,
)
