-- A sound design has a netlist that implements it: its list of cells has no closed walk, so it has an order, and each register has a
-- clock.
use Rattle.std.proofs.Common.{◌≡◌, ◌≢◌, ◌⊎◌, ℕ, ◌<◌, Bool, true, false, true≢false, if◌then◌else◌, List, [], ◌∷◌, map, flat_map, length, Contains, Option, Some, None, refl, sym, ap, ◌∙◌, subst, inl, inr, arith}
use Rattle.std.specs.Prelude.{All, slice_get}
use Rattle.std.specs.List.{AllZip}
use Rattle.std.proofs.lemmas.List.Elements.{All-contains}
use Rattle.bb_ast.specs.Inside.Formed.{IsFormed, IsFormedBody, IsNetOrBit}
use Rattle.bb_ast.specs.Names.{names_in}
use Rattle.bb_ast.specs.Syntax.{Expression, Net, Bit as BitOf, Part, Sized, Plain, Not, Fold, Chain, Words, Cond, Concat, Repeat, Always, PlainAlways, PlainItem}
use Rattle.bb_bits.specs.Closures.{Leads, One, More, IsFirst}
use Rattle.bb_names.specs.Declarations.{range_of}
use Rattle.bb_names.specs.Ranges.{range_width}
use Rattle.bb_net.specs.declared.flat.Reg.{Reg}
use Rattle.bb_net.specs.Flats.{FlatNet}
use Rattle.bb_net.specs.Loose.{LooseList, IsOnClosedWalk}
use Rattle.bb_net.specs.Orders.{OrderExists}
use Rattle.bb_design.specs.Inside.Allowed.{IsAllowed, IsBounded}
use Rattle.bb_design.specs.Laws.BitLaws.{BitsAreDistinguished}
use Rattle.bb_design.specs.Constructs.{Register, BoxContents, body_constructs, constructs_at, parts}
use Rattle.bb_design.specs.Contexts.{width_of}
use Rattle.bb_design.specs.Dependence.{dependences}
use Rattle.bb_design.specs.Laws.DesignLaws.{DesignLaws}
use Rattle.bb_design.specs.Laws.DrivenWorlds.{IsLegal}
use Rattle.bb_design.specs.Hierarchy.{Design, Scope, is_box}
use Rattle.bb_design.specs.NetBits.{Bit, same_bit, bits_from, top_inputs, top_outputs, written_bits}
use Rattle.bb_design.specs.Reading.{copied_bits}
use Rattle.bb_design.specs.Refusals.{IsAcyclic, TwoDrivers, Cycle}
use Rattle.bb_design.specs.Registers.{RegisterBit, registers}
use Rattle.bb_design.specs.Texts.{bit_text}
use Rattle.bb_implements.specs.Laws.ListLaws.{ListsAreLoose, ListsExist, ImplementingNetsExist}
use Rattle.bb_implements.specs.Places.{Lowering, IsLowering, IsListOf}
use Rattle.bb_implements.specs.Implements.{IsCopyOf, IsClockInput, IsRegister, Implements, box_number, box_texts}
use Rattle.bb_lemmas.proofs.Deciding.{Decision, Decides, decide_either, decide_leads, first_or_none}
use Rattle.bb_lemmas.proofs.Members.{each_of, from_flat, contains_here, contains_there, contains_cases, none_in_nil}
use Rattle.bb_lemmas.proofs.Places.{get_after}
use Rattle.bb_implements.proofs.LoopPlaces.{closed_walk_passes}
use Rattle.bb_implements.proofs.WalkLoops.{list_walks_are_loops}

-- what leads down never leads back
lower : {A : Type 0} (steps : List (A × A)) (level : A → ℕ) → All (λ x. level x.1 < level x.0) steps → (x y : A) → Leads steps x y → level y < level x
lower steps level all x y (One has) = All-contains (λ x. level x.1 < level x.0) steps (x, y) all has
lower steps level all x y (More {y = z} has rest) =
    let first = All-contains (λ x. level x.1 < level x.0) steps (x, z) all has in
    let more = lower steps level all z y rest in
    omega (arith, first, more)

-- where there is one for each element, there is a list of them
choose_zip : {A B : Type 0} (R : A → B → Type 0) (xs : List A) → ((x : A) → Contains xs x → (y : B) × R x y) → (ys : List B) × AllZip R xs ys
choose_zip R [] each = ([], tt)
choose_zip R (x ∷ xs) each =
    let here = each x (contains_here x xs) in
    let rest = choose_zip R xs (λ y has. each y (contains_there x xs y has)) in
    (here.0 ∷ rest.0, (here.1, rest.1))

decide_bit : BitsAreDistinguished → Decides Bit
decide_bit reported b c = by (same_bit b c) refl
  where
    by : (t : Bool) → same_bit b c ≡ t → Decision (b ≡ c)
    by true is = inl ((reported b c).0 is)
    by false is = inr (λ same. true≢false (sym ((reported b c).1 same) ∙ is))

-- the input from which a clock comes, if there is one
clocked : BitsAreDistinguished → (d : Design) (b : Bit) → (o : Option ℕ) × IsClockInput d b o
clocked reported d b = by (first_or_none (IsCopyOf d b) (λ c. decide_either (decide_bit reported b c) (decide_leads (decide_bit reported) (copied_bits d) b c)) (top_inputs d))
  where
    by : ((c : Bit) → Contains (top_inputs d) c → IsCopyOf d b c → ⊥) ⊎ ((c : Bit) × IsFirst (IsCopyOf d b) (top_inputs d) c) → (o : Option ℕ) × IsClockInput d b o
    by (inl none) = (None, none)
    by (inr one) =
        let is = one.1 in
        (Some (length is.before), (one.0, ap (λ xs. slice_get xs (length is.before)) is.occurs ∙ get_after is.before one.0 is.after, is.holds))

-- a clock is one bit
clock_bit : (s : Scope) (e : Expression) → IsNetOrBit e → (names_in e ≢ [] → width_of s e ≡ 1) → (b : Bit) × (written_bits s e ≡ b ∷ [])
clock_bit s (Net n) is one =
    let wide : range_width (range_of s.source n) ≡ 1 = one (λ e. cc e) in
    (record { path = s.path; net = n; place = 0 }, ap (bits_from s.path n 0) wide)
clock_bit s (BitOf n i) is one = (_, refl)
clock_bit s (Part n i j) is one = absurd is
clock_bit s (Sized bits) is one = absurd is
clock_bit s (Plain n) is one = absurd is
clock_bit s (Not k e) is one = absurd is
clock_bit s (Fold op e) is one = absurd is
clock_bit s (Chain e rest) is one = absurd is
clock_bit s (Words e rest) is one = absurd is
clock_bit s (Cond all last) is one = absurd is
clock_bit s (Concat all) is one = absurd is
clock_bit s (Repeat k all) is one = absurd is

module _ (of_designs : DesignLaws) (d : Design) (allowed : IsAllowed d) where
  bounded : IsBounded d
  bounded = allowed.bounded

  -- what is in a scope that has a register
  module _ (s : Scope) (a : PlainAlways) (has : Contains (parts d) (s, Register a)) where
    no_box : is_box s ≡ false
    no_box = by (is_box s) refl
      where
        by : (b : Bool) → is_box s ≡ b → is_box s ≡ false
        by false is = is
        by true is = never (contains_cases BoxContents [] (Register a) (subst (λ b. Contains (if b then BoxContents ∷ [] else flat_map (λ (item : PlainItem). body_constructs d.text item.body) s.source.items) (Register a)) is (of_designs.part_of d s (Register a) has).1))
          where
            never : (BoxContents ≡ Register a) ⊎ Contains [] (Register a) → is_box s ≡ false
            never (inl same) = cc same
            never (inr none) = absurd (none_in_nil (Register a) none)

    in_text : Contains d.text s.source
    in_text = of_designs.of_text d s bounded.top (of_designs.part_of d s (Register a) has).0

    formed : IsNetOrBit a.clock
    formed =
        let in_items = subst (λ b. Contains (if b then BoxContents ∷ [] else flat_map (λ (item : PlainItem). body_constructs d.text item.body) s.source.items) (Register a)) no_box (of_designs.part_of d s (Register a) has).1 in
        let item = from_flat (λ (item : PlainItem). body_constructs d.text item.body) s.source.items (Register a) in_items in
        let module_formed : IsFormed s.source = each_of IsFormed d.text bounded.formed s.source in_text in
        let body_formed = each_of (λ (item : PlainItem). IsFormedBody item.body) s.source.items module_formed.2 item.0 item.1 in
        let always : IsFormedBody (Always a) = subst IsFormedBody (of_designs.always_item d.text item.0.body a item.2) body_formed in
        always.3

    one_bit : names_in a.clock ≢ [] → width_of s a.clock ≡ 1
    one_bit =
        let legal = of_designs.constructs_legal d.text (λ path. []) s bounded.faultless in_text no_box in
        All-contains (IsLegal (λ path. []) s) (constructs_at d.text s) (Register a) legal (of_designs.part_of d s (Register a) has).1

  register : (r : RegisterBit) → Contains (registers d) r → (reg : Reg) × IsRegister d r reg
  register r has =
      let part = of_designs.register_part d r has in
      let b = clock_bit r.scope r.item.clock (formed r.scope r.item part) (one_bit r.scope r.item part) in
      let clock = clocked of_designs.distinguished d b.0 in
      (record { text = bit_text d r.bit; falling = r.item.falling; clock = clock.0 }, record { text = refl; falling = refl; clock = (b.0, b.1, clock.1) })

  -- the list of cells has no closed walk
  no_walk : (lowering : Lowering) (l : LooseList) → IsLowering d lowering → IsListOf d lowering l → (k : ℕ) → IsOnClosedWalk l k → ⊥
  no_walk lowering l lowered list k walk =
      let passed = closed_walk_passes of_designs d lowering l list lowered (of_designs.wired d bounded) k walk in
      let loop = (list_walks_are_loops of_designs d lowering l bounded (allowed.sound TwoDrivers) lowered list passed.0 passed.1).0 passed.2 in
      let acyclic : IsAcyclic d = allowed.sound Cycle in
      let down = lower (dependences d) acyclic.0 acyclic.1 passed.0 passed.0 loop in
      omega (arith, down)

  occurring : ListsExist → ListsAreLoose → OrderExists → (f : FlatNet) × Implements d f
  occurring exist loose order =
      let list = exist d bounded in
      let lowering = list.0 in
      let l = list.2.0 in
      let ordered = order l (loose d lowering l bounded list.1 list.2.1) (no_walk lowering l list.1 list.2.1) in
      let regs = choose_zip (IsRegister d) (registers d) register in (
        record {
          net = ordered.0;
          ins = map (bit_text d) (top_inputs d);
          regs = regs.0;
          outs = map (bit_text d) (top_outputs d);
          boxes = map (λ b. box_texts d (box_number d b)) ordered.1;
        },
        record {
          netlist = ordered.2;
          lowering = lowering;
          lowered = list.1;
          cells = l;
          listed = list.2.1;
          numbers = ordered.1;
          ordered = ordered.3;
          ins = refl;
          regs = regs.1;
          outs = refl;
          boxes = refl;
        },
      )

pub implementing_nets_exist : DesignLaws → ListsExist → ListsAreLoose → OrderExists → ImplementingNetsExist
implementing_nets_exist of_designs exist loose order d allowed = occurring of_designs d allowed exist loose order
