-- The bits of nets that are read, from the places that are read.
use Rattle.std.proofs.Common.{◌≡◌, ◌⊎◌, ℕ, zero, suc, ◌+◌, ◌<◌, ◌≤◌, Bool, true, false, List, [], ◌∷◌, ◌++◌, map, take, drop, length, get_or, Contains, Some, refl, sym, ap, ◌∙◌, subst, inl, inr, arith, true≢false}
use Rattle.std.specs.Prelude.{slice_get}
use Rattle.std.specs.List.{AllZip, flat_map}
use Rattle.std.proofs.lemmas.List.{get_or-take, get_or_past}
use Rattle.std.proofs.lemmas.List.Elements.{Contains-append_left, Contains-append_right}
use Rattle.bb_ast.specs.Syntax.{PlainAlways}
use Rattle.bb_net.specs.Loose.{LooseList}
use Rattle.bb_blast.specs.declared.stored.Stored.{Stored}
use Rattle.bb_design.specs.Constructs.{Register, parts}
use Rattle.bb_design.specs.Hierarchy.{Design, Scope}
use Rattle.bb_design.specs.Inside.Allowed.{IsBounded}
use Rattle.bb_design.specs.NetBits.{Bit, net_order, top_outputs, written_bits}
use Rattle.bb_blast.specs.Inside.Placements.{IsStoredAt, AreStored}
use Rattle.bb_implements.specs.Places.{NetBit, Lowering, IsLowering, IsListOf}
use Rattle.bb_design.specs.Reading.{IsReadBit, bit_itself, operand_terms, cells_at, read_at, read_beside, read_directly}
use Rattle.bb_implements.specs.Inside.ReadPlaces.{IsReadPlace}
use Rattle.bb_elab.specs.Inside.StoredNumbers.{AreTimed}
use Rattle.bb_design.specs.Refusals.{AreDrivenOnce}
use Rattle.bb_design.specs.Registers.{RegisterBit, registers, cut_bits, data_terms}
use Rattle.bb_lemmas.proofs.Places.{got}
use Rattle.bb_lemmas.proofs.Members.{from_map, contains-map, into_flat, contains_here, contains_there, contains_cases, none_in_nil}
use Rattle.bb_lemmas.proofs.Orders.{less_or_past}
use Rattle.bb_design.specs.Laws.DesignLaws.{DesignLaws}
use Rattle.bb_implements.specs.Laws.CellLaws.{CellLaws}

pub zip_there : {A B : Type 0} (R : A → B → Type 0) (xs : List A) (ys : List B) (x : A) → AllZip R xs ys → Contains xs x → (y : B) × Contains ys y × R x y
zip_there R [] ys x all has = absurd (none_in_nil x has)
zip_there R (z ∷ xs) [] x all has = absurd all
zip_there R (z ∷ xs) (y ∷ ys) x all has = by (contains_cases z xs x has) (zip_there R xs ys x all.1)
  where
    by : (z ≡ x) ⊎ Contains xs x → (Contains xs x → (w : _) × Contains ys w × R x w) → (w : _) × Contains (y ∷ ys) w × R x w
    by (inl same) rest = (y, contains_here y ys, subst (λ v. R v y) same all.0)
    by (inr more) rest = let r = rest more in (r.0, contains_there y ys r.0 r.1, r.2)

pub part_at : (marks : List Bool) (first count k : ℕ) → k < count → get_or (take count (drop first marks)) k false ≡ get_or marks (first + k) false
part_at marks first count k lt = get_or-take count (drop first marks) k false lt ∙ dropped marks first k
  where
    dropped : (marks : List Bool) (first k : ℕ) → get_or (drop first marks) k false ≡ get_or marks (first + k) false
    dropped marks zero k = let same : k ≡ 0 + k = omega arith in ap (λ i. get_or marks i false) same
    dropped [] (suc first) k = refl
    dropped (m ∷ marks) (suc first) k = let same : suc (first + k) ≡ suc first + k = omega arith in dropped marks first k ∙ ap (λ i. get_or (m ∷ marks) i false) same

module _ (of_designs : DesignLaws) (of_cells : CellLaws) where
  pub place_read : (d : Design) (lowering : Lowering) (l : LooseList) → IsBounded d → IsLowering d lowering → (list : IsListOf d lowering l) → (stored : List Stored) → AreStored d stored → (first : ℕ) → first ≡ 2 + length (cut_bits d)
      → (k : ℕ) (b : Bit) → slice_get (net_order d) k ≡ Some b → IsReadPlace l (map (λ x. first + x.clock) stored) (first + k) → IsReadBit d b
  place_read d lowering l bounded lowered list stored are first is k b at read =
      let g = got (net_order d) k b b at in
      let number : first + k ≡ list.number (NetBit b) = ap (λ n. n + k) is ∙ sym ((of_cells.net_places d lowering l list k b at).0) in
      of_cells.read_places d lowering l list lowered bounded (map (λ x. first + x.clock) stored) timed b (k, g.0, g.1) (subst (IsReadPlace l (map (λ x. first + x.clock) stored)) number read)
    where
      direct : (r : RegisterBit) → Contains (registers d) r → (c : Bit) → written_bits r.scope r.item.clock ≡ c ∷ [] → Contains (read_directly d) c
      direct r has c clock =
          Contains-append_right (top_outputs d) (flat_map read_at (parts d)) c (into_flat read_at (parts d) (r.scope, Register r.item) c (of_designs.register_part d r has)
          (Contains-append_right (flat_map (λ cell. flat_map (bit_itself r.scope.path) (operand_terms cell)) (cells_at (r.scope, Register r.item))) (read_beside (r.scope, Register r.item)) c
          (Contains-append_left (written_bits r.scope r.item.clock) (flat_map (bit_itself r.scope.path) (data_terms r.scope r.item)) c (subst (λ l. Contains l c) (sym clock) (contains_here c [])))))

      timed : (q : ℕ) → Contains (map (λ (x : Stored). first + x.clock) stored) q → (c : Bit) × (list.number (NetBit c) ≡ q) × Contains (read_directly d) c
      timed q has =
          let x = from_map (λ (x : Stored). first + x.clock) stored q has in
          let r = zip_there (IsStoredAt d) stored (registers d) x.0 are x.1 in
          let clock = r.2.clock in
          (clock.0, (of_cells.net_places d lowering l list x.0.clock clock.0 clock.2).0 ∙ ap (λ n. n + x.0.clock) (sym is) ∙ x.2, direct r.0 r.1 clock.0 clock.1)

pub read_part : (old marks now : List Bool) (n first count k : ℕ) → old ≡ [] → n ≡ count → now ≡ old ++ take n (drop first marks) → k < count → get_or now k false ≡ get_or marks (first + k) false
read_part old marks now n first count k none same is lt =
    ap (λ l. get_or l k false) (is ∙ ap (λ o. o ++ take n (drop first marks)) none ∙ ap (λ i. take i (drop first marks)) same) ∙ part_at marks first count k lt

pub read_within : (reads : List Bool) (count k : ℕ) → length reads ≡ count → get_or reads k false ≡ true → k < count
read_within reads count k long on = by (less_or_past k count)
  where
    by : (k < count) ⊎ (count ≤ k) → k < count
    by (inl h) = h
    by (inr past) = absurd (true≢false (sym on ∙ get_or_past reads k false (omega (arith, long, past))))

module _ (of_cells : CellLaws) where
  pub read_place : (d : Design) (lowering : Lowering) (l : LooseList) → IsBounded d → AreDrivenOnce d → IsLowering d lowering → (list : IsListOf d lowering l) → (stored : List Stored) → (first : ℕ) → first ≡ 2 + length (cut_bits d) → AreTimed d (map (λ (x : Stored). x.clock) stored)
      → (k : ℕ) (b : Bit) → slice_get (net_order d) k ≡ Some b → IsReadBit d b → IsReadPlace l (map (λ (x : Stored). first + x.clock) stored) (first + k)
  read_place d lowering l bounded once lowered list stored first is timed k b at read =
      subst (IsReadPlace l (map (λ (x : Stored). first + x.clock) stored)) ((of_cells.net_places d lowering l list k b at).0 ∙ ap (λ n. n + k) (sym is)) (of_cells.read_bits d lowering l list lowered bounded once (map (λ (x : Stored). first + x.clock) stored) there b read)
    where
      there : (s : Scope) (a : PlainAlways) → Contains (parts d) (s, Register a) → (c : Bit) → Contains (written_bits s a.clock) c → Contains (map (λ (x : Stored). first + x.clock) stored) (list.number (NetBit c))
      there s a has c clock =
          let x = timed s a has c clock in
          let e = from_map (λ (x : Stored). x.clock) stored x.0 x.2 in
          subst (Contains (map (λ (x : Stored). first + x.clock) stored)) (ap (λ n. first + n) e.2 ∙ ap (λ n. n + x.0) is ∙ sym ((of_cells.net_places d lowering l list x.0 c x.1).0)) (contains-map (λ (x : Stored). first + x.clock) stored e.0 e.1)
