-- Where bits are driven once, the data of a register bit have one place.
use Rattle.std.proofs.Common.{◌≡◌, ◌≢◌, ◌⊎◌, ℕ, suc, ◌+◌, Bool, true, false, if◌then◌else◌, List, [], ◌∷◌, ◌++◌, map, find, zip, length, AllPairs, Contains, Some, refl, sym, ap, ◌∙◌, subst, inl, inr, arith, length-append}
use Rattle.std.specs.List.{enumerate_from, flat_map}
use Rattle.std.specs.Option.{option_map_or}
use Rattle.std.proofs.lemmas.List.{get_or_append_left, map-append}
use Rattle.std.proofs.lemmas.List.Elements.{Contains-append_cases}
use Rattle.bb_design.specs.Constructs.{Construct, Assignment, GateInstance, Register, SupplyNet, InputConnection, OutputConnection, BoxContents, parts}
use Rattle.bb_bits.specs.Bits.{low_bits}
use Rattle.bb_design.specs.Drivers.{Free, Drive, driven, drives_at}
use Rattle.bb_design.specs.Hierarchy.{Design, Scope}
use Rattle.bb_design.specs.NetBits.{Bit, same_bit, top_inputs, written_bits}
use Rattle.bb_implements.specs.Places.{CellName, Constant, Lowering, step_places, data_at, place_in}
use Rattle.bb_design.specs.Refusals.{AreDrivenOnce}
use Rattle.bb_lemmas.proofs.Members.{from_flat, from_map, contains-map, into_flat, contains_here, contains_there, contains_cases, none_in_nil}
use Rattle.bb_lemmas.proofs.Zips.{zip_parts}
use Rattle.bb_lemmas.proofs.Apart.{apart_append, apart_right}
use Rattle.bb_lemmas.proofs.Numbered.{from_numbered}
use Rattle.bb_design.specs.Laws.DesignLaws.{DesignLaws}

module _ {A : Type 0} where
  apart_left : (xs ys : List A) → AllPairs ◌≢◌ (xs ++ ys) → AllPairs ◌≢◌ xs
  apart_left xs ys apart i j e less within same =
      apart i j e less (omega (arith, within, length-append xs ys)) (get_or_append_left xs ys e i (omega (arith, less, within)) ∙ same ∙ sym (get_or_append_left xs ys e j within))

  apart_tail : (x : A) (xs : List A) → AllPairs ◌≢◌ (x ∷ xs) → AllPairs ◌≢◌ xs
  apart_tail x xs apart = apart_right (x ∷ []) xs apart

  apart_head : (x : A) (xs : List A) → AllPairs ◌≢◌ (x ∷ xs) → (y : A) → Contains xs y → x ≡ y → ⊥
  apart_head x xs apart y has same = apart 0 (suc has.0) y (omega arith) (omega (arith, has.1)) (same ∙ sym has.2)

abbrev test : Bit → Bit × CellName → Bool
test b x = same_bit b x.0

module _ (of_designs : DesignLaws) where
  found_here : (b : Bit) (x : Bit × CellName) (rest : List (Bit × CellName)) → x.0 ≡ b → find (test b) (x ∷ rest) ≡ Some x
  found_here b x rest same = ap (λ t. if t then Some x else find (test b) rest) (ap (same_bit b) same ∙ ((of_designs.distinguished b b).1 refl))

  not_here : (b : Bit) (x : Bit × CellName) (rest : List (Bit × CellName)) → (x.0 ≡ b → ⊥) → find (test b) (x ∷ rest) ≡ find (test b) rest
  not_here b x rest other = ap (λ t. if t then Some x else find (test b) rest) (by (same_bit b x.0) refl)
    where
      by : (t : Bool) → same_bit b x.0 ≡ t → same_bit b x.0 ≡ false
      by true on = absurd (other (sym ((of_designs.distinguished b x.0).0 on)))
      by false off = off

  found_zip : (b : Bit) (p : CellName) (xs : List Bit) (ys : List CellName) (rest : List (Bit × CellName)) → AllPairs ◌≢◌ xs → Contains (zip xs ys) (b, p) → find (test b) (zip xs ys ++ rest) ≡ Some (b, p)
  found_zip b p [] ys rest apart has = absurd (none_in_nil {A = Bit × CellName} (b, p) has)
  found_zip b p (x ∷ xs) [] rest apart has = absurd (none_in_nil {A = Bit × CellName} (b, p) has)
  found_zip b p (x ∷ xs) (y ∷ ys) rest apart has = by (contains_cases {A = Bit × CellName} (x, y) (zip xs ys) (b, p) has) (found_zip b p xs ys rest (apart_tail x xs apart))
    where
      by : (◌≡◌ {A = Bit × CellName} (x, y) (b, p)) ⊎ Contains (zip xs ys) (b, p) → (Contains (zip xs ys) (b, p) → find (test b) (zip xs ys ++ rest) ≡ Some (b, p)) → find (test b) ((x, y) ∷ (zip xs ys ++ rest)) ≡ Some (b, p)
      by (inl same) more = found_here b (x, y) (zip xs ys ++ rest) (ap (λ (z : Bit × CellName). z.0) same) ∙ ap Some same
      by (inr h) more = not_here b (x, y) (zip xs ys ++ rest) (apart_head x xs apart b (zip_parts xs ys (b, p) h).0) ∙ more h

  skipped : (b : Bit) (xs rest : List (Bit × CellName)) → ((y : Bit × CellName) → Contains xs y → y.0 ≡ b → ⊥) → find (test b) (xs ++ rest) ≡ find (test b) rest
  skipped b [] rest none = refl
  skipped b (x ∷ xs) rest none = not_here b x (xs ++ rest) (none x (contains_here x xs)) ∙ skipped b xs rest (λ y has. none y (contains_there x xs y has))

module _ (of_designs : DesignLaws) (lowering : Lowering) where
  abbrev bits_of : List (Scope × Construct) → List Bit
  bits_of ps = map (λ (x : Drive). x.bit) (flat_map drives_at ps)

  -- the bits of data are driven
  data_driven : (k : ℕ) (q : Scope × Construct) (y : Bit × CellName) → Contains (data_at lowering (k, q)) y → Contains (map (λ (x : Drive). x.bit) (drives_at q)) y.0
  data_driven k (s, Register r) y has = contains-map (λ (x : Drive). x.bit) (map (driven Free) (written_bits s r.left)) (driven Free y.0) (contains-map (driven Free) (written_bits s r.left) y.0 (zip_parts (written_bits s r.left) _ y has).0)
  data_driven k (s, Assignment left right) y has = absurd (none_in_nil y has)
  data_driven k (s, GateInstance gate outs ins) y has = absurd (none_in_nil y has)
  data_driven k (s, SupplyNet high m) y has = absurd (none_in_nil y has)
  data_driven k (s, InputConnection i pin f) y has = absurd (none_in_nil y has)
  data_driven k (s, OutputConnection i pin f) y has = absurd (none_in_nil y has)
  data_driven k (s, BoxContents) y has = absurd (none_in_nil y has)

  same_bits : (xs : List Bit) → map (λ (x : Drive). x.bit) (map (driven Free) xs) ≡ xs
  same_bits [] = refl
  same_bits (x ∷ xs) = ap (λ l. x ∷ l) (same_bits xs)

  -- an entry of one construct
  here_found : (k : ℕ) (q : Scope × Construct) (rest : List (Bit × CellName)) (b : Bit) (p : CellName) → AllPairs ◌≢◌ (map (λ (x : Drive). x.bit) (drives_at q)) → Contains (data_at lowering (k, q)) (b, p) → find (test b) (data_at lowering (k, q) ++ rest) ≡ Some (b, p)
  here_found k (s, Register r) rest b p apart has = found_zip of_designs b p (written_bits s r.left) (low_bits (length (written_bits s r.left)) (step_places lowering k 0)) rest (subst (AllPairs ◌≢◌) (same_bits (written_bits s r.left)) apart) has
  here_found k (s, Assignment left right) rest b p apart has = absurd (none_in_nil {A = Bit × CellName} (b, p) has)
  here_found k (s, GateInstance gate outs ins) rest b p apart has = absurd (none_in_nil {A = Bit × CellName} (b, p) has)
  here_found k (s, SupplyNet high m) rest b p apart has = absurd (none_in_nil {A = Bit × CellName} (b, p) has)
  here_found k (s, InputConnection i pin f) rest b p apart has = absurd (none_in_nil {A = Bit × CellName} (b, p) has)
  here_found k (s, OutputConnection i pin f) rest b p apart has = absurd (none_in_nil {A = Bit × CellName} (b, p) has)
  here_found k (s, BoxContents) rest b p apart has = absurd (none_in_nil {A = Bit × CellName} (b, p) has)

  data_found : (k : ℕ) (ps : List (Scope × Construct)) (b : Bit) (p : CellName) → AllPairs ◌≢◌ (bits_of ps) → Contains (flat_map (data_at lowering) (enumerate_from k ps)) (b, p) → find (test b) (flat_map (data_at lowering) (enumerate_from k ps)) ≡ Some (b, p)
  data_found k [] b p apart has = absurd (none_in_nil {A = Bit × CellName} (b, p) has)
  data_found k (q ∷ ps) b p apart has = by (Contains-append_cases (data_at lowering (k, q)) rest (b, p) has) (data_found (k + 1) ps b p (apart_right first (bits_of ps) split))
    where
      rest : List (Bit × CellName)
      rest = flat_map (data_at lowering) (enumerate_from (k + 1) ps)

      first : List Bit
      first = map (λ (x : Drive). x.bit) (drives_at q)

      split : AllPairs ◌≢◌ (first ++ bits_of ps)
      split = subst (AllPairs ◌≢◌) (map-append (λ (x : Drive). x.bit) (drives_at q) (flat_map drives_at ps)) apart

      later : Contains rest (b, p) → Contains (bits_of ps) b
      later h =
          let z = from_flat (data_at lowering) (enumerate_from (k + 1) ps) (b, p) h in
          let x = from_map (λ (x : Drive). x.bit) (drives_at z.0.1) b (data_driven z.0.0 z.0.1 (b, p) z.2) in
          subst (Contains (bits_of ps)) x.2 (contains-map (λ (x : Drive). x.bit) (flat_map drives_at ps) x.0 (into_flat drives_at ps z.0.1 x.0 (from_numbered (k + 1) ps z.0 z.1) x.1))

      by : Contains (data_at lowering (k, q)) (b, p) ⊎ Contains rest (b, p) → (Contains rest (b, p) → find (test b) rest ≡ Some (b, p)) → find (test b) (data_at lowering (k, q) ++ rest) ≡ Some (b, p)
      by (inl h) more = here_found k q rest b p (apart_left first (bits_of ps) split) h
      by (inr h) more = skipped of_designs b (data_at lowering (k, q)) rest (λ y at same. apart_append first (bits_of ps) b split (subst (Contains first) same (data_driven k q y at)) (later h)) ∙ more h

  -- the place of the data of a bit is the one at which it is
  pub data_place : (d : Design) → AreDrivenOnce d → (b : Bit) (p : CellName) → Contains (flat_map (data_at lowering) (enumerate_from 0 (parts d))) (b, p) → place_in (flat_map (data_at lowering) (enumerate_from 0 (parts d))) b ≡ p
  data_place d once b p has =
      let apart = apart_right (map (λ (x : Drive). x.bit) (map (driven Free) (top_inputs d))) (bits_of (parts d)) (subst (AllPairs ◌≢◌) (map-append (λ (x : Drive). x.bit) (map (driven Free) (top_inputs d)) (flat_map drives_at (parts d))) once) in
      ap (λ o. option_map_or (λ (x : Bit × CellName). x.1) o (Constant false)) (data_found 0 (parts d) b p apart has)
