-- What gives a bit is listed or a step of an expression: the places that drive the bits of nets, those of the data of registers, and
-- what the operators of gates join. For this the pins of connections have to be bits of the design, and gates have to have inputs of
-- one bit. A step that is no operator is where a constant or a bit of a net is listed.
use Rattle.std.proofs.Common.{sym, ◌≡◌, ◌⊎◌, ℕ, zero, suc, ◌-◌, ◌<◌, ◌≤◌, Bool, true, false, if◌then◌else◌, List, [], ◌++◌, map, flat_map, find, length, get_or, zip, All, Contains, Option, Some, None, refl, ap, ◌∙◌, subst, inl, inr, arith}
use Rattle.std.specs.List.{enumerate_from, range_with_len}
use Rattle.std.specs.Option.{option_map_or}
use Rattle.std.proofs.lemmas.List.{length-map, get_or-map, get_or_default}
use Rattle.std.proofs.lemmas.List.Elements.{All-contains, Contains-append_cases, Contains-get_or}
use Rattle.bb_ast.specs.declared.module.Gate.{Gate}
use Rattle.bb_ast.specs.Syntax.{Expression, Plain}
use Rattle.bb_names.specs.Nets.{net_of, nets_of}
use Rattle.bb_names.specs.Ranges.{range_width}
use Rattle.bb_expr.specs.declared.step.BitStep.{BitStep}
use Rattle.bb_expr.specs.declared.step.BitStep.TheVariants as steps
use Rattle.bb_expr.specs.Lowered.{ReadsEarlier, name_at}
use Rattle.bb_net.specs.declared.loose.LooseCell.{LooseCell}
use Rattle.bb_net.specs.Loose.{LooseList}
use Rattle.bb_design.specs.Hierarchy.{Design, Scope, path_to, boxes, scopes}
use Rattle.bb_design.specs.NetBits.{Bit, same_bit, net_order, output_bits, pin_bits, bits_named, written_bits, bits_of_net, scope_bits}
use Rattle.bb_design.specs.Contexts.{width_of, context_width}
use Rattle.bb_bits.specs.Bits.{low_bits}
use Rattle.bb_design.specs.Constructs.{Construct, Assignment, GateInstance, Register, SupplyNet, InputConnection, OutputConnection, BoxContents, constructs_at, parts}
use Rattle.bb_design.specs.GateFunctions.{inverts}
use Rattle.bb_design.specs.Registers.{cut_bits}
use Rattle.bb_implements.specs.Places.{CellName, Constant, Input, NetBit, Step, Joined, Inverted, BoxPin, lowered_in, Lowering, IsLowering, step_places, terminal_place, joined_place, gate_place, given_at, given_by_box, driving_places, data_at, place_in, IsListOf}
use Rattle.bb_lemmas.proofs.Members.{from_flat, from_map, from_drop, contains_here, none_in_nil, from_find, contains-map, into_flat}
use Rattle.bb_lemmas.proofs.Numbered.{enumerated_from, numbered_at, from_numbered}
use Rattle.bb_implements.proofs.ListedPlaces.{IsListed, Occurs, lowered_at, reads_there, listed_below, constant_listed, input_listed, net_listed, pin_listed, step_occurs, joined_listed, inverted_listed}
use Rattle.bb_lemmas.proofs.Zips.{zip_parts}
use Rattle.std.specs.Prelude.{IfSome, slice_get}
use Rattle.std.proofs.lemmas.Option.{slice_get-get_or}
use Rattle.bb_names.specs.declared.net.NetInfo.{NetInfo}
use Rattle.bb_lemmas.proofs.Ranges.{range_there}
use Rattle.bb_design.specs.Laws.Wired.{IsWired}

-- a step reads bits of nets of the scope
pub net_bit_of_step : (d : Design) (s : Scope) (n i : ℕ) → Contains (scopes d) s → ReadsEarlier (nets_of s.source) 0 (steps.Net n i) → Contains (net_order d) (record { path = s.path; net = name_at (nets_of s.source) n; place = i })
net_bit_of_step d s n i has reads =
    let nets = nets_of s.source in
    let net = get_or nets n (net_of s.source []) in
    let got : slice_get nets n ≡ Some net = slice_get-get_or nets n (net_of s.source []) reads.0 in
    let fits : i < range_width net.range = subst (λ o. IfSome o (λ (x : NetInfo). i < range_width x.range)) got reads.1 in
    let name : name_at nets n ≡ net.name = ap (λ o. option_map_or (λ (x : NetInfo). x.name) o []) got in
    subst (λ m. Contains (net_order d) (record { path = s.path; net = m; place = i })) (sym name) (into_flat scope_bits (scopes d) s _ has (into_flat (bits_of_net s.path) nets net _ (Contains-get_or nets n (net_of s.source []) reads.0)
    (contains-map (λ k. record { path = s.path; net = net.name; place = k }) (range_with_len 0 (range_width net.range)) i (range_there 0 (range_width net.range) i (omega arith) (omega (arith, fits))))))

pub scope_there : (d : Design) (k : ℕ) (s : Scope) (c : Construct) → Contains (enumerate_from 0 (parts d)) (k, (s, c)) → Contains (scopes d) s
scope_there d k s c has =
    let z = from_flat (λ s. map (λ c. (s, c)) (constructs_at d.text s)) (scopes d) (s, c) (from_numbered 0 (parts d) (k, (s, c)) has) in
    let y = from_map {B = Scope × Construct} (λ c. (z.0, c)) (constructs_at d.text z.0) (s, c) z.2 in
    subst (Contains (scopes d)) (ap (λ (p : Scope × Construct). p.0) y.2) z.1

-- terminals are taken at their own width
abbrev with_widths : Scope → List Expression → List (Expression × ℕ)
with_widths s ins = map (λ e. (e, width_of s e)) ins

-- a terminal of a gate is lowered
pub terminal_there : (s : Scope) (ins : List Expression) (x : ℕ) → x < length ins → All (λ e. width_of s e ≡ 1) ins
    → (e : Expression) × Contains (enumerate_from 0 (with_widths s ins)) (x, (e, 1)) × (get_or ins x e ≡ e)
terminal_there s ins x fits one =
    let e = get_or ins x (Plain 0) in
    let pairs : List (Expression × ℕ) = with_widths s ins in
    let long : length pairs ≡ length ins = length-map {B = Expression × ℕ} ins (λ e. (e, width_of s e)) in
    let width : width_of s e ≡ 1 = one x (Plain 0) fits in
    let at : get_or pairs x (Plain 0, 0) ≡ (e, 1) = get_or-map {Y = Expression × ℕ} (λ e. (e, width_of s e)) ins x (Plain 0) (Plain 0, 0) fits ∙ ap (λ w. (e, w)) width in
    (e, subst (λ (y : Expression × ℕ). Contains (enumerate_from 0 pairs) (x, y)) at (numbered_at pairs x (Plain 0, 0) (omega (arith, fits, long))), get_or_default ins x e (Plain 0) fits)

module _ (d : Design) (lowering : Lowering) (l : LooseList) (list : IsListOf d lowering l) (lowered : IsLowering d lowering) where
  -- a step is where a constant or a bit of a net does, or at a place of its own
  pub step_source : {T : Type 0} (k : ℕ) (s : Scope) (c : Construct) → Contains (enumerate_from 0 (parts d)) (k, (s, c)) → (x : ℕ) → x < length (lowered_in (s, c)) → (j : ℕ) → j < length (lowering k x).all
      → ((b : Bool) → list.number (Step k x j) ≡ list.number (Constant b) → T) → ((b : Bit) → Contains (net_order d) b → list.number (Step k x j) ≡ list.number (NetBit b) → T)
      → ((u : LooseCell) → IsListed d lowering l list (Step k x j) u → T) → T
  step_source {T = T} k s c has x fits j there constant net own =
      by (get_or (lowering k x).all j (steps.Const false)) (reads_there d lowering lowered k s c has x fits j there) (step_occurs d lowering l list k s c has x fits j there)
    where
      by : (step : BitStep) → ReadsEarlier (nets_of s.source) j step → Occurs d lowering l list k s x j step → T
      by (steps.Const b) reads occurs = constant b occurs.0
      by (steps.Net n i) reads occurs = net _ (net_bit_of_step d s n i (scope_there d k s c has) reads) occurs.0
      by (steps.Not a) reads occurs = own _ occurs.1
      by (steps.And a b) reads occurs = own _ occurs.1
      by (steps.Or a b) reads occurs = own _ occurs.1
      by (steps.Xor a b) reads occurs = own _ occurs.1
      by (steps.Mux i t e) reads occurs = own _ occurs.1

-- what holds of all that is listed and of all steps holds of each place that gives a bit
module _ (d : Design) (lowering : Lowering) (l : LooseList) (list : IsListOf d lowering l) (lowered : IsLowering d lowering) (wired : IsWired d) (P : CellName → Type 0)
    (of_listed : (p : CellName) (u : LooseCell) → IsListed d lowering l list p u → P p)
    (of_step : (k : ℕ) (s : Scope) (c : Construct) → Contains (enumerate_from 0 (parts d)) (k, (s, c)) → (x : ℕ) → x < length (lowered_in (s, c)) → (j : ℕ) → j < length (lowering k x).all → P (Step k x j)) where
  module _ (k : ℕ) (s : Scope) (c : Construct) (has : Contains (enumerate_from 0 (parts d)) (k, (s, c))) where
    step_holds : (x : ℕ) (e : Expression) (w : ℕ) → Contains (enumerate_from 0 (lowered_in (s, c))) (x, (e, w)) → (j : ℕ) → Contains (lowering k x).bits j → P (Step k x j)
    step_holds x e w at j bit =
        let low = lowered_at d lowering lowered k s c has x e w at in
        let n = enumerated_from 0 (lowered_in (s, c)) x (e, w) at in
        of_step k s c has x (omega (arith, n.1, n.2)) j (All-contains (λ j. j < length (lowering k x).all) (lowering k x).bits j low.places bit)

    steps_holds : (x : ℕ) (e : Expression) (w : ℕ) → Contains (enumerate_from 0 (lowered_in (s, c))) (x, (e, w)) → (p : CellName) → Contains (step_places lowering k x) p → P p
    steps_holds x e w at p there = let j = from_map (Step k x) (lowering k x).bits p there in subst P j.2 (step_holds x e w at j.0 j.1)

  module _ (k : ℕ) (s : Scope) (gate : Gate) (outs ins : List Expression) (has : Contains (enumerate_from 0 (parts d)) (k, (s, GateInstance gate outs ins))) where
    abbrev shape : (1 ≤ length ins) × All (λ e. width_of s e ≡ 1) ins
    shape = wired.gates s gate outs ins (from_numbered 0 (parts d) (k, (s, GateInstance gate outs ins)) has)

    pub terminal_holds : (x : ℕ) → x < length ins → P (terminal_place lowering k x)
    terminal_holds x fits =
        let e = terminal_there s ins x fits shape.1 in
        let low = lowered_at d lowering lowered k s (GateInstance gate outs ins) has x e.0 1 e.1 in
        step_holds k s (GateInstance gate outs ins) has x e.0 1 e.1 (get_or (lowering k x).bits 0 0) (Contains-get_or (lowering k x).bits 0 0 (omega (arith, low.width)))

    pub joined_holds : (x : ℕ) → x < length ins → P (joined_place lowering k x)
    joined_holds zero fits = terminal_holds 0 fits
    joined_holds (suc x) fits = of_listed (Joined k (suc x)) _ (joined_listed d lowering l list k s gate outs ins has x (omega (arith, fits)))

    pub gate_holds : P (gate_place lowering gate k (length ins))
    gate_holds = by (inverts gate) refl
      where
        by : (b : Bool) → inverts gate ≡ b → P (if b then Inverted k else joined_place lowering k (length ins - 1))
        by true e = of_listed (Inverted k) _ (inverted_listed d lowering l list k s gate outs ins has e)
        by false e = joined_holds (length ins - 1) (omega (arith, shape.0))

  -- each second of two lists side by side
  second_holds : (bits : List Bit) (all : List CellName) → ((p : CellName) → Contains all p → P p) → (y : Bit × CellName) → Contains (zip bits all) y → P y.1
  second_holds bits all each y has = each y.1 (zip_parts bits all y has).1

  low_holds : (n : ℕ) (all : List CellName) → ((p : CellName) → Contains all p → P p) → (p : CellName) → Contains (low_bits n all) p → P p
  low_holds n all each p has = each p (from_drop (length all - n) all p has)

  given_at_holds : (k : ℕ) (s : Scope) (c : Construct) → Contains (enumerate_from 0 (parts d)) (k, (s, c)) → (y : Bit × CellName) → Contains (given_at lowering (k, (s, c))) y → P y.1
  given_at_holds k s (Assignment left right) has y at = second_holds (written_bits s left) _ (low_holds (length (written_bits s left)) (step_places lowering k 0)
      (steps_holds k s (Assignment left right) has 0 right (context_width s left right) (contains_here (0, (right, context_width s left right)) []))) y at
  given_at_holds k s (GateInstance gate outs ins) has y at =
      let z = from_map {B = Bit × CellName} (λ b. (b, gate_place lowering gate k (length ins))) (flat_map (written_bits s) outs) y at in
      subst (λ (u : Bit × CellName). P u.1) z.2 (gate_holds k s gate outs ins has)
  given_at_holds k s (Register r) has y at = absurd (none_in_nil y at)
  given_at_holds k s (SupplyNet high n) has y at = let z = from_map {B = Bit × CellName} (λ b. (b, Constant high)) (bits_named s n) y at in subst (λ (u : Bit × CellName). P u.1) z.2 (of_listed (Constant high) _ (constant_listed d lowering l list high))
  given_at_holds k s (InputConnection i pin e) has y at = second_holds (pin_bits (path_to s.path i) pin) (step_places lowering k 0)
      (steps_holds k s (InputConnection i pin e) has 0 e (width_of s e) (contains_here (0, (e, width_of s e)) [])) y at
  given_at_holds k s (OutputConnection i pin e) has y at = second_holds (written_bits s e) (map NetBit (pin_bits (path_to s.path i) pin))
      (λ p there. let b = from_map NetBit (pin_bits (path_to s.path i) pin) p there in subst P b.2 (of_listed (NetBit b.0) _ (net_listed d lowering l list b.0 (wired.pins s i pin e (from_numbered 0 (parts d) (k, (s, OutputConnection i pin e)) has) b.0 b.1)))) y at
  given_at_holds k s BoxContents has y at = absurd (none_in_nil y at)

  abbrev inputs : List (Bit × CellName)
  inputs = map (λ x. (x.1, Input x.0)) (enumerate_from 0 (cut_bits d))

  abbrev pins : List (Bit × CellName)
  pins = flat_map given_by_box (enumerate_from 0 (boxes d))

  abbrev driven : List (Bit × CellName)
  driven = flat_map (given_at lowering) (enumerate_from 0 (parts d))

  pub given_holds : (y : Bit × CellName) → Contains (driving_places d lowering) y → P y.1
  given_holds y has = by (Contains-append_cases (inputs ++ pins) driven y has)
    where
      input : Contains inputs y → P y.1
      input h =
          let z = from_map {B = Bit × CellName} (λ x. (x.1, Input x.0)) (enumerate_from 0 (cut_bits d)) y h in
          let n = enumerated_from 0 (cut_bits d) z.0.0 z.0.1 z.1 in
          subst (λ (u : Bit × CellName). P u.1) z.2 (of_listed (Input z.0.0) _ (input_listed d lowering l list z.0.0 (omega (arith, n.1, n.2))))

      pin : Contains pins y → P y.1
      pin h =
          let b = from_flat given_by_box (enumerate_from 0 (boxes d)) y h in
          let z = from_map {B = Bit × CellName} (λ (x : ℕ × Bit). (x.1, BoxPin b.0.0 x.0)) (enumerate_from 0 (output_bits b.0.1)) y b.2 in
          subst (λ (u : Bit × CellName). P u.1) z.2 (of_listed (BoxPin b.0.0 z.0.0) _ (pin_listed d lowering l list b.0.0 b.0.1 b.1 z.0.0 z.0.1 z.1))

      first : Contains inputs y ⊎ Contains pins y → P y.1
      first (inl h) = input h
      first (inr h) = pin h

      by : Contains (inputs ++ pins) y ⊎ Contains driven y → P y.1
      by (inl h) = first (Contains-append_cases inputs pins y h)
      by (inr h) = let p = from_flat (given_at lowering) (enumerate_from 0 (parts d)) y h in given_at_holds p.0.0 p.0.1.0 p.0.1.1 p.1 y p.2

  data_at_holds : (k : ℕ) (s : Scope) (c : Construct) → Contains (enumerate_from 0 (parts d)) (k, (s, c)) → (y : Bit × CellName) → Contains (data_at lowering (k, (s, c))) y → P y.1
  data_at_holds k s (Register r) has y at = second_holds (written_bits s r.left) _ (low_holds (length (written_bits s r.left)) (step_places lowering k 0)
      (steps_holds k s (Register r) has 0 r.right (context_width s r.left r.right) (contains_here (0, (r.right, context_width s r.left r.right)) []))) y at
  data_at_holds k s (Assignment left right) has y at = absurd (none_in_nil y at)
  data_at_holds k s (GateInstance gate outs ins) has y at = absurd (none_in_nil y at)
  data_at_holds k s (SupplyNet high n) has y at = absurd (none_in_nil y at)
  data_at_holds k s (InputConnection i pin e) has y at = absurd (none_in_nil y at)
  data_at_holds k s (OutputConnection i pin e) has y at = absurd (none_in_nil y at)
  data_at_holds k s BoxContents has y at = absurd (none_in_nil y at)

  pub data_holds : (y : Bit × CellName) → Contains (flat_map (data_at lowering) (enumerate_from 0 (parts d))) y → P y.1
  data_holds y has = let p = from_flat (data_at lowering) (enumerate_from 0 (parts d)) y has in data_at_holds p.0.0 p.0.1.0 p.0.1.1 p.1 y p.2

  -- the place of a bit in such a list
  pub found_holds : (all : List (Bit × CellName)) → ((y : Bit × CellName) → Contains all y → P y.1) → (b : Bit) → P (place_in all b)
  found_holds all each b = by (find (λ (x : Bit × CellName). same_bit b x.0) all) refl
    where
      by : (o : Option (Bit × CellName)) → find (λ (x : Bit × CellName). same_bit b x.0) all ≡ o → P (option_map_or (λ x. x.1) o (Constant false))
      by None e = of_listed (Constant false) _ (constant_listed d lowering l list false)
      by (Some y) e = each y (from_find (λ (x : Bit × CellName). same_bit b x.0) all y e).0

module _ (d : Design) (lowering : Lowering) (l : LooseList) (list : IsListOf d lowering l) (lowered : IsLowering d lowering) (wired : IsWired d) where
  -- the place is one of the list
  abbrev pub IsIn : CellName → Type 0
  IsIn p = list.number p < length l.cells

  pub net_in : (b : Bit) → Contains (net_order d) b → IsIn (NetBit b)
  net_in b has = listed_below d lowering l list (NetBit b) _ (net_listed d lowering l list b has)

  pub step_in : (k : ℕ) (s : Scope) (c : Construct) → Contains (enumerate_from 0 (parts d)) (k, (s, c)) → (x : ℕ) → x < length (lowered_in (s, c)) → (j : ℕ) → j < length (lowering k x).all → IsIn (Step k x j)
  step_in k s c has x fits j there = step_source d lowering l list lowered k s c has x fits j there
      (λ b same. subst (λ n. n < length l.cells) (sym same) (listed_below d lowering l list (Constant b) _ (constant_listed d lowering l list b)))
      (λ b known same. subst (λ n. n < length l.cells) (sym same) (net_in b known))
      (λ u listed. listed_below d lowering l list (Step k x j) u listed)

  listed_in : (p : CellName) (u : LooseCell) → IsListed d lowering l list p u → IsIn p
  listed_in p u has = listed_below d lowering l list p u has

  -- so are those that give bits
  module _ (k : ℕ) (s : Scope) (gate : Gate) (outs ins : List Expression) (has : Contains (enumerate_from 0 (parts d)) (k, (s, GateInstance gate outs ins))) where
    pub terminal_in : (x : ℕ) → x < length ins → IsIn (terminal_place lowering k x)
    terminal_in = terminal_holds d lowering l list lowered wired IsIn listed_in step_in k s gate outs ins has

    pub joined_in : (x : ℕ) → x < length ins → IsIn (joined_place lowering k x)
    joined_in = joined_holds d lowering l list lowered wired IsIn listed_in step_in k s gate outs ins has

  pub given_in : (b : Bit) → IsIn (place_in (driving_places d lowering) b)
  given_in = found_holds d lowering l list lowered wired IsIn listed_in step_in (driving_places d lowering) (given_holds d lowering l list lowered wired IsIn listed_in step_in)

  pub data_in : (b : Bit) → IsIn (place_in (flat_map (data_at lowering) (enumerate_from 0 (parts d))) b)
  data_in = found_holds d lowering l list lowered wired IsIn listed_in step_in (flat_map (data_at lowering) (enumerate_from 0 (parts d))) (data_holds d lowering l list lowered wired IsIn listed_in step_in)
