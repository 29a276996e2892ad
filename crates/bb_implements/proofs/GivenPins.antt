-- The places that give bits are where something is listed, and those that give the pins of boxes do so however expressions are lowered.
use Rattle.std.proofs.Common.{◌≡◌, ◌⊎◌, ℕ, zero, suc, ◌-◌, ◌<◌, Bool, true, false, if◌then◌else◌, List, [], ◌∷◌, ◌++◌, map, flat_map, find, zip, length, Contains, Option, Some, None, refl, sym, ap, ◌∙◌, subst, inl, inr, true≢false}
use Rattle.std.specs.List.{enumerate_from}
use Rattle.std.specs.Option.{option_map_or}
use Rattle.bb_ast.specs.declared.module.Gate.{Gate}
use Rattle.bb_net.specs.declared.loose.LooseCell.{LooseCell}
use Rattle.bb_net.specs.Loose.{LooseList}
use Rattle.bb_design.specs.Hierarchy.{Design, Scope, path_to, boxes}
use Rattle.bb_design.specs.NetBits.{Bit, same_bit, bits_named, pin_bits, written_bits}
use Rattle.bb_design.specs.Constructs.{Construct, Assignment, GateInstance, Register, SupplyNet, InputConnection, OutputConnection, BoxContents, parts}
use Rattle.bb_design.specs.GateFunctions.{inverts}
use Rattle.bb_implements.specs.Places.{CellName, Constant, Input, NetBit, Step, Joined, Inverted, BoxPin, lowered_in, Lowering, IsLowering, step_places, joined_place, gate_place, given_at, given_by_box, driving_places, place_in, IsListOf}
use Rattle.bb_design.specs.Registers.{cut_bits}
use Rattle.bb_lemmas.proofs.Members.{from_flat, from_map, from_drop, none_in_nil, from_find}
use Rattle.bb_implements.proofs.ListedPlaces.{IsListed, constant_listed, net_listed}
use Rattle.bb_implements.proofs.ListedSources.{step_source, given_holds, found_holds}
use Rattle.bb_design.specs.Laws.Wired.{IsWired}
use Rattle.bb_lemmas.proofs.Zips.{zip_parts}

-- whether a place is that of a pin of a box
abbrev pub is_pin : CellName → Bool
is_pin (NetBit b) = false
is_pin (Constant b) = false
is_pin (Input i) = false
is_pin (Step k x j) = false
is_pin (Joined k x) = false
is_pin (Inverted k) = false
is_pin (BoxPin b p) = true

pub no_pin : (q : CellName) (b p : ℕ) → is_pin q ≡ false → q ≡ BoxPin b p → ⊥
no_pin q b p off e = true≢false (sym (ap is_pin e) ∙ off)

abbrev place_of : Option (Bit × CellName) → CellName
place_of o = option_map_or (λ (x : Bit × CellName). x.1) o (Constant false)

find_prefix : {A : Type 0} (test : A → Bool) (xs ys : List A) (y : A) → find test xs ≡ Some y → find test (xs ++ ys) ≡ Some y
find_prefix test [] ys y e = cc e
find_prefix test (x ∷ xs) ys y e = by (test x) refl (find_prefix test xs ys y)
  where
    by : (b : Bool) → test x ≡ b → (find test xs ≡ Some y → find test (xs ++ ys) ≡ Some y) → (if b then Some x else find test (xs ++ ys)) ≡ Some y
    by true on rest = sym (ap (λ b. if b then Some x else find test xs) on) ∙ e
    by false off rest = rest (sym (ap (λ b. if b then Some x else find test xs) off) ∙ e)

find_back : {A : Type 0} (test : A → Bool) (xs ys : List A) → find test xs ≡ None → find test (xs ++ ys) ≡ find test ys
find_back test [] ys e = refl
find_back test (x ∷ xs) ys e = by (test x) refl (find_back test xs ys)
  where
    by : (b : Bool) → test x ≡ b → (find test xs ≡ None → find test (xs ++ ys) ≡ find test ys) → (if b then Some x else find test (xs ++ ys)) ≡ find test ys
    by true on rest = absurd (cc (sym (ap (λ b. if b then Some x else find test xs) on) ∙ e))
    by false off rest = rest (sym (ap (λ b. if b then Some x else find test xs) off) ∙ e)

module _ (d : Design) (lowering : Lowering) (l : LooseList) (list : IsListOf d lowering l) (lowered : IsLowering d lowering) (wired : IsWired d) where
  -- a place that is listed has the number of this one: it is this one, or no pin of a box
  abbrev pub IsOccurring : CellName → Type 0
  IsOccurring p = (q : CellName) × (u : LooseCell) × IsListed d lowering l list q u × (list.number p ≡ list.number q) × ((q ≡ p) ⊎ (is_pin q ≡ false))

  listed_occurring : (p : CellName) (u : LooseCell) → IsListed d lowering l list p u → IsOccurring p
  listed_occurring p u has = (p, u, has, refl, inl refl)

  step_occurring : (k : ℕ) (s : Scope) (c : Construct) → Contains (enumerate_from 0 (parts d)) (k, (s, c)) → (x : ℕ) → x < length (lowered_in (s, c)) → (j : ℕ) → j < length (lowering k x).all → IsOccurring (Step k x j)
  step_occurring k s c has x fits j there = step_source d lowering l list lowered k s c has x fits j there
      (λ b same. (Constant b, _, constant_listed d lowering l list b, same, inr refl))
      (λ b known same. (NetBit b, _, net_listed d lowering l list b known, same, inr refl))
      (λ u listed. listed_occurring (Step k x j) u listed)

  -- the place that gives a bit
  pub found_occurring : (b : Bit) → IsOccurring (place_in (driving_places d lowering) b)
  found_occurring = found_holds d lowering l list lowered wired IsOccurring listed_occurring step_occurring (driving_places d lowering) (given_holds d lowering l list lowered wired IsOccurring listed_occurring step_occurring)

-- what constructs drive is given by no pin of a box
module _ (d : Design) (lowering : Lowering) where
  abbrev IsPlain : CellName → Type 0
  IsPlain p = is_pin p ≡ false

  prefix_plain : (k x : ℕ) → IsPlain (joined_place lowering k x)
  prefix_plain k zero = refl
  prefix_plain k (suc x) = refl

  gate_plain : (k : ℕ) (gate : Gate) (count : ℕ) → IsPlain (gate_place lowering gate k count)
  gate_plain k gate count = by (inverts gate)
    where
      by : (b : Bool) → IsPlain (if b then Inverted k else joined_place lowering k (count - 1))
      by true = refl
      by false = prefix_plain k (count - 1)

  steps_plain : (k x : ℕ) (p : CellName) → Contains (step_places lowering k x) p → IsPlain p
  steps_plain k x p there = let j = from_map (Step k x) (lowering k x).bits p there in subst IsPlain j.2 refl

  second_plain : (bits : List Bit) (all : List CellName) → ((p : CellName) → Contains all p → IsPlain p) → (y : Bit × CellName) → Contains (zip bits all) y → IsPlain y.1
  second_plain bits all each y has = each y.1 (zip_parts bits all y has).1

  part_plain : (k : ℕ) (s : Scope) (c : Construct) (y : Bit × CellName) → Contains (given_at lowering (k, (s, c))) y → IsPlain y.1
  part_plain k s (Assignment left right) y at = second_plain (written_bits s left) _ (λ p low. steps_plain k 0 p (from_drop _ (step_places lowering k 0) p low)) y at
  part_plain k s (GateInstance gate outs ins) y at =
      let z = from_map {B = Bit × CellName} (λ b. (b, gate_place lowering gate k (length ins))) (flat_map (written_bits s) outs) y at in
      subst (λ (u : Bit × CellName). IsPlain u.1) z.2 (gate_plain k gate (length ins))
  part_plain k s (Register r) y at = absurd (none_in_nil y at)
  part_plain k s (SupplyNet high n) y at =
      let z = from_map {B = Bit × CellName} (λ b. (b, Constant high)) (bits_named s n) y at in
      subst (λ (u : Bit × CellName). IsPlain u.1) z.2 refl
  part_plain k s (InputConnection i pin e) y at = second_plain (pin_bits (path_to s.path i) pin) (step_places lowering k 0) (steps_plain k 0) y at
  part_plain k s (OutputConnection i pin e) y at =
      second_plain (written_bits s e) (map NetBit (pin_bits (path_to s.path i) pin)) (λ p there. let b = from_map NetBit (pin_bits (path_to s.path i) pin) p there in subst IsPlain b.2 refl) y at
  part_plain k s BoxContents y at = absurd (none_in_nil y at)

  abbrev inputs : List (Bit × CellName)
  inputs = map (λ x. (x.1, Input x.0)) (enumerate_from 0 (cut_bits d))

  abbrev pins : List (Bit × CellName)
  pins = flat_map given_by_box (enumerate_from 0 (boxes d))

  abbrev others : List (Bit × CellName)
  others = flat_map (given_at lowering) (enumerate_from 0 (parts d))

  other_plain : (y : Bit × CellName) → Contains others y → IsPlain y.1
  other_plain y has = let p = from_flat (given_at lowering) (enumerate_from 0 (parts d)) y has in part_plain p.0.0 p.0.1.0 p.0.1.1 y p.2

  -- a pin that gives a bit is among the inputs and pins, before what constructs drive
  pub found_first : (e : Bit) (b p : ℕ) → place_in (driving_places d lowering) e ≡ BoxPin b p → place_in (inputs ++ pins) e ≡ BoxPin b p
  found_first e b p is = by (find (λ (x : Bit × CellName). same_bit e x.0) (inputs ++ pins)) refl
    where
      after : (o : Option (Bit × CellName)) → find (λ (x : Bit × CellName). same_bit e x.0) others ≡ o → place_of o ≡ BoxPin b p → Constant false ≡ BoxPin b p
      after None same there = there
      after (Some y) same there = absurd (no_pin y.1 b p (other_plain y (from_find (λ (x : Bit × CellName). same_bit e x.0) others y same).0) there)

      by : (o : Option (Bit × CellName)) → find (λ (x : Bit × CellName). same_bit e x.0) (inputs ++ pins) ≡ o → place_of o ≡ BoxPin b p
      by (Some y) same = sym (ap place_of (find_prefix (λ (x : Bit × CellName). same_bit e x.0) (inputs ++ pins) others y same)) ∙ is
      by None same = after (find (λ (x : Bit × CellName). same_bit e x.0) others) refl (sym (ap place_of (find_back (λ (x : Bit × CellName). same_bit e x.0) (inputs ++ pins) others same)) ∙ is)

-- and so it gives the bit in every list that begins with them
pub first_found : (e : Bit) (b p : ℕ) (first rest : List (Bit × CellName)) → place_in first e ≡ BoxPin b p → place_in (first ++ rest) e ≡ BoxPin b p
first_found e b p first rest is = by (find (λ (x : Bit × CellName). same_bit e x.0) first) refl is
  where
    by : (o : Option (Bit × CellName)) → find (λ (x : Bit × CellName). same_bit e x.0) first ≡ o → place_of o ≡ BoxPin b p → place_in (first ++ rest) e ≡ BoxPin b p
    by (Some y) same there = ap place_of (find_prefix (λ (x : Bit × CellName). same_bit e x.0) first rest y same) ∙ there
    by None same there = absurd (no_pin (Constant false) b p refl there)
