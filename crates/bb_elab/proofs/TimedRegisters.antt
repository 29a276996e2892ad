-- The clock of each register is that of a register bit: something is written at an edge, and to each bit by one item.
use Rattle.std.proofs.Common.{◌≡◌, ◌≢◌, ◌⊎◌, ℕ, ◌≤◌, Bool, true, false, if◌then◌else◌, List, [], ◌∷◌, ◌++◌, map, length, AllPairs, Contains, Some, sym, ap, ◌∙◌, subst, inl, inr, arith}
use Rattle.std.proofs.lemmas.List.{map-append}
use Rattle.std.proofs.lemmas.List.Elements.{All-contains, Contains-append_right}
use Rattle.std.specs.Prelude.{slice_get}
use Rattle.std.specs.List.{AllZip, find, flat_map, enumerate_from}
use Rattle.bb_ast.specs.Inside.Formed.{IsFormed}
use Rattle.bb_ast.specs.Syntax.{PlainAlways, PlainItem}
use Rattle.bb_names.specs.Inside.Checked.{AreFormedAndSmall}
use Rattle.bb_blast.specs.declared.stored.Stored.{Stored}
use Rattle.bb_design.specs.Constructs.{Construct, Assignment, GateInstance, Register, SupplyNet, InputConnection, OutputConnection, BoxContents, parts, body_constructs}
use Rattle.bb_design.specs.Drivers.{Drive, driven, Free, drives, drives_at, driven_bits}
use Rattle.bb_design.specs.Hierarchy.{Design, Scope, scopes, is_box}
use Rattle.bb_design.specs.Inside.Allowed.{IsBounded}
use Rattle.bb_design.specs.NetBits.{Bit, same_bit, net_order, top_inputs, written_bits}
use Rattle.bb_blast.specs.Inside.Placements.{IsStoredAt, AreStored}
use Rattle.bb_elab.specs.Inside.StoredNumbers.{AreTimed}
use Rattle.bb_design.specs.Refusals.{AreDrivenOnce}
use Rattle.bb_design.specs.Registers.{RegisterBit, stored, stored_at, registers}
use Rattle.bb_lemmas.proofs.Members.{each_of, from_flat, from_map, contains-map, into_flat, contains_here, contains_there, contains_cases, none_in_nil, from_find, from_filter_map}
use Rattle.bb_lemmas.proofs.Apart.{apart_right, apart_append}
use Rattle.bb_blast.specs.Laws.ModuleLaws.{LeftHasBits, ModuleLaws}
use Rattle.bb_lemmas.proofs.Numbered.{from_numbered, numbered_there}
use Rattle.bb_design.specs.Laws.DesignLaws.{DesignLaws}

-- what a part drives is driven in the design
part_drives : (d : Design) (part : Scope × Construct) → Contains (parts d) part → (z : Drive) → Contains (drives_at part) z → Contains (drives d) z
part_drives d part has z at = Contains-append_right (map (driven Free) (top_inputs d)) (flat_map drives_at (parts d)) z (into_flat drives_at (parts d) part z has at)

module _ (of_designs : DesignLaws) (of_modules : ModuleLaws) where
  -- two constructs that drive one bit are the same
  pub same_part : (ps : List (Scope × Construct)) → AllPairs ◌≢◌ (map (λ (x : Drive). x.bit) (flat_map drives_at ps)) → (p q : Scope × Construct) → Contains ps p → Contains ps q
      → (b : Bit) → Contains (map (λ (x : Drive). x.bit) (drives_at p)) b → Contains (map (λ (x : Drive). x.bit) (drives_at q)) b → p ≡ q
  same_part [] apart p q has_p has_q b in_p in_q = absurd (none_in_nil {A = Scope × Construct} p has_p)
  same_part (z ∷ ps) apart p q has_p has_q b in_p in_q = by (contains_cases {A = Scope × Construct} z ps p has_p) (contains_cases {A = Scope × Construct} z ps q has_q) (λ one two. same_part ps (apart_right first rest split) p q one two b in_p in_q)
    where
      first : List Bit
      first = map (λ (x : Drive). x.bit) (drives_at z)

      rest : List Bit
      rest = map (λ (x : Drive). x.bit) (flat_map drives_at ps)

      split : AllPairs ◌≢◌ (first ++ rest)
      split = subst (AllPairs ◌≢◌) (map-append (λ (x : Drive). x.bit) (drives_at z) (flat_map drives_at ps)) apart

      later : (r : Scope × Construct) → Contains ps r → Contains (map (λ (x : Drive). x.bit) (drives_at r)) b → Contains rest b
      later r has inside =
          let x = from_map (λ (x : Drive). x.bit) (drives_at r) b inside in
          subst (Contains rest) x.2 (contains-map (λ (x : Drive). x.bit) (flat_map drives_at ps) x.0 (into_flat drives_at ps r x.0 has x.1))

      here : (r : Scope × Construct) → z ≡ r → Contains (map (λ (x : Drive). x.bit) (drives_at r)) b → Contains first b
      here r same inside = subst (λ (u : Scope × Construct). Contains (map (λ (x : Drive). x.bit) (drives_at u)) b) (sym same) inside

      by : (z ≡ p) ⊎ Contains ps p → (z ≡ q) ⊎ Contains ps q → (Contains ps p → Contains ps q → p ≡ q) → p ≡ q
      by (inl one) (inl two) more = sym one ∙ two
      by (inl one) (inr two) more = absurd (apart_append first rest b split (here p one in_p) (later q two in_q))
      by (inr one) (inl two) more = absurd (apart_append first rest b split (here q two in_q) (later p one in_p))
      by (inr one) (inr two) more = more one two

-- a bit that is stored is driven there
stored_drives : (part : Scope × Construct) (r : RegisterBit) → Contains (stored_at part) r → Contains (map (λ (x : Drive). x.bit) (drives_at part)) r.bit
stored_drives (s, Register a) r has =
    let make : ℕ × Bit → RegisterBit = λ y. record { scope = s; item = a; place = y.0; bit = y.1 } in
    let z = from_map make (enumerate_from 0 (written_bits s a.left)) r has in
    let b = from_numbered 0 (written_bits s a.left) z.0 z.1 in
    subst (Contains (map (λ (x : Drive). x.bit) (map (driven Free) (written_bits s a.left)))) (ap (λ (q : RegisterBit). q.bit) z.2)
    (contains-map (λ (x : Drive). x.bit) (map (driven Free) (written_bits s a.left)) (driven Free z.0.1) (contains-map (driven Free) (written_bits s a.left) z.0.1 b))
stored_drives (s, Assignment left right) r has = absurd (none_in_nil r has)
stored_drives (s, GateInstance gate outs ins) r has = absurd (none_in_nil r has)
stored_drives (s, SupplyNet high n) r has = absurd (none_in_nil r has)
stored_drives (s, InputConnection i pin e) r has = absurd (none_in_nil r has)
stored_drives (s, OutputConnection i pin e) r has = absurd (none_in_nil r has)
stored_drives (s, BoxContents) r has = absurd (none_in_nil r has)

-- the clock of a register
abbrev clock_bits : Scope × Construct → List Bit
clock_bits (s, Register a) = written_bits s a.clock
clock_bits (s, c) = []

pub zip_back : {A B : Type 0} (R : A → B → Type 0) (xs : List A) (ys : List B) (y : B) → AllZip R xs ys → Contains ys y → (x : A) × Contains xs x × R x y
zip_back R xs [] y all has = absurd (none_in_nil y has)
zip_back R [] (z ∷ ys) y all has = absurd all
zip_back R (x ∷ xs) (z ∷ ys) y all has = by (contains_cases z ys y has) (zip_back R xs ys y all.1)
  where
    by : (z ≡ y) ⊎ Contains ys y → (Contains ys y → (w : _) × Contains xs w × R w y) → (w : _) × Contains (x ∷ xs) w × R w y
    by (inl same) rest = (x, contains_here x xs, subst (R x) same all.0)
    by (inr more) rest = let r = rest more in (r.0, contains_there x xs r.0 r.1, r.2)

some_there : (xs : List Bit) → 1 ≤ length xs → (b : Bit) × Contains xs b
some_there [] some = absurd (omega (arith, some))
some_there (x ∷ xs) some = (x, contains_here x xs)

only_one : (xs : List Bit) (b c : Bit) → xs ≡ c ∷ [] → Contains xs b → c ≡ b
only_one xs b c is has = by (contains_cases c [] b (subst (λ l. Contains l b) is has))
  where
    by : (c ≡ b) ⊎ Contains [] b → c ≡ b
    by (inl same) = same
    by (inr none) = absurd (none_in_nil b none)

module _ (of_designs : DesignLaws) (of_modules : ModuleLaws) (d : Design) (bounded : IsBounded d) (once : AreDrivenOnce d) where
  apart : AllPairs ◌≢◌ (map (λ (x : Drive). x.bit) (flat_map drives_at (parts d)))
  apart = apart_right (map (λ (x : Drive). x.bit) (map (driven Free) (top_inputs d))) (map (λ (x : Drive). x.bit) (flat_map drives_at (parts d)))
      (subst (AllPairs ◌≢◌) (map-append (λ (x : Drive). x.bit) (map (driven Free) (top_inputs d)) (flat_map drives_at (parts d))) once)

  -- a register has a bit
  has_left : AreFormedAndSmall d.text → (s : Scope) (a : PlainAlways) → Contains (parts d) (s, Register a) → 1 ≤ length (written_bits s a.left)
  has_left read s a has = let p = of_designs.part_of d s (Register a) has in by p.0 (is_box s) p.1
    where
      box_is_none : BoxContents ≡ Register a → ⊥
      box_is_none e = cc

      by : Contains (scopes d) s → (b : Bool) → Contains (if b then BoxContents ∷ [] else flat_map (λ (item : PlainItem). body_constructs d.text item.body) s.source.items) (Register a) → 1 ≤ length (written_bits s a.left)
      by there true h = absurd (either (contains_cases BoxContents [] (Register a) h))
        where
          either : (BoxContents ≡ Register a) ⊎ Contains [] (Register a) → ⊥
          either (inl e) = box_is_none e
          either (inr none) = none_in_nil (Register a) none
      by there false h =
          let item = from_flat (λ (item : PlainItem). body_constructs d.text item.body) s.source.items (Register a) h in
          let left = of_modules.left_sides s.source (each_of IsFormed d.text read.formed s.source (of_designs.of_text d s bounded.top there)) item.0 item.1 in
          subst LeftHasBits (of_designs.always_item d.text item.0.body a item.2) left s

  pub are_timed : AreFormedAndSmall d.text → (all : List Stored) → AreStored d all → AreTimed d (map (λ (x : Stored). x.clock) all)
  are_timed read all are s a has b clock =
      let first = some_there (written_bits s a.left) (has_left read s a has) in
      let c = first.0 in
      let i = numbered_there 0 (written_bits s a.left) c first.1 in
      let make : ℕ × Bit → RegisterBit = λ y. record { scope = s; item = a; place = y.0; bit = y.1 } in
      let here = contains-map make (enumerate_from 0 (written_bits s a.left)) (i.0, c) i.1 in
      let drive = part_drives d (s, Register a) has (driven Free c) (contains-map (driven Free) (written_bits s a.left) c first.1) in
      let net = All-contains (Contains (net_order d)) (driven_bits d) c (of_designs.bits_there d bounded).driven (contains-map (λ (x : Drive). x.bit) (drives d) (driven Free c) drive) in
      let q = of_designs.stored_register d (make (i.0, c)) (into_flat stored_at (parts d) (s, Register a) (make (i.0, c)) has here) net in
      let from = from_filter_map (λ b. find (λ r. same_bit b r.bit) (stored d)) (net_order d) q.0 q.1 in
      let found = from_find (λ r. same_bit from.0 r.bit) (stored d) q.0 from.2 in
      let part = from_flat stored_at (parts d) q.0 found.0 in
      let same = same_part of_designs of_modules (parts d) apart (s, Register a) part.0 has part.1 c (stored_drives (s, Register a) (make (i.0, c)) here) (subst (Contains (map (λ (x : Drive). x.bit) (drives_at part.0))) q.2 (stored_drives part.0 q.0 part.2)) in
      let is : written_bits s a.clock ≡ written_bits q.0.scope q.0.item.clock = ap clock_bits (same ∙ (of_designs.stores part.0).always q.0 part.2) in
      let x = zip_back (IsStoredAt d) all (registers d) q.0 are q.1 in
      let at = x.2.clock in
      let equal : at.0 ≡ b = only_one (written_bits s a.clock) b at.0 (is ∙ at.1) clock in
      (x.0.clock, subst (λ e. slice_get (net_order d) x.0.clock ≡ Some e) equal at.2, contains-map (λ (x : Stored). x.clock) all x.0 x.1)
