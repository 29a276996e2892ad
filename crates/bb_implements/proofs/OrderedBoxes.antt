-- The boxes of a netlist that implements a sound design are in the order of their dependence.
use Rattle.std.proofs.Common.{◌≡◌, ◌≢◌, ℕ, zero, suc, ◌<◌, List, [], ◌∷◌, ◌++◌, map, length, get_or, take, drop, AllPairs, Contains, Some, refl, sym, ap, ◌∙◌, subst, arith}
use Rattle.std.specs.Prelude.{IsPermutation}
use Rattle.std.specs.List.{enumerate_from, range_with_len}
use Rattle.std.proofs.lemmas.List.{get_or-map, length-map, take-map}
use Rattle.std.proofs.lemmas.List.Sorted.{IsPermutation-map}
use Rattle.bb_bits.specs.Closures.{IsFirst}
use Rattle.bb_net.specs.Flats.{FlatNet}
use Rattle.bb_net.specs.Loose.{NeedsBox}
use Rattle.bb_net.specs.Orders.{IsReadyBox}
use Rattle.bb_design.specs.Inside.Allowed.{IsAllowed}
use Rattle.bb_design.specs.Laws.DesignLaws.{DesignLaws}
use Rattle.bb_design.specs.Hierarchy.{Design, Scope, root, boxes}
use Rattle.bb_design.specs.Refusals.{AreDrivenOnce, box_paths, TwoDrivers, BoxTexts as TwiceBoxes}
use Rattle.bb_implements.specs.BoxOrders.{DependsOnBox}
use Rattle.bb_implements.specs.Laws.BoxOrders.{MayBeTakenNext, IsBoxOrder, ImplementingNetsHaveBoxOrders}
use Rattle.bb_implements.specs.Places.{pins_of}
use Rattle.bb_implements.specs.Implements.{Implements, box_number, box_texts}
use Rattle.bb_lemmas.proofs.Firsts.{at_place, place_within}
use Rattle.bb_lemmas.proofs.Members.{contains-map, from_map}
use Rattle.bb_lemmas.proofs.Numbered.{numbered_there, numbered_at, from_numbered, length-enumerated}
use Rattle.bb_lemmas.proofs.Places.{split, some_at, got, taken}
use Rattle.bb_lemmas.proofs.Turns.{written_back}
use Rattle.bb_implements.proofs.NumberOrders.{numbers_ordered, each_place}
use Rattle.bb_implements.proofs.BoxOrders.{numbered, is_numbered, one_number, needs_depends, depends_needs}

module _ (of_designs : DesignLaws) (d : Design) (f : FlatNet) (allowed : IsAllowed d) (occurs : Implements d f) where
  once : AreDrivenOnce d
  once = allowed.sound TwoDrivers

  apart : AllPairs ◌≢◌ (box_paths d)
  apart = allowed.sound TwiceBoxes

  abbrev numbers : List ℕ
  numbers = occurs.numbers

  abbrev order : List Scope
  order = map (box_number d) numbers

  list_long : length occurs.cells.boxes ≡ length (boxes d)
  list_long = ap length occurs.listed.boxes ∙ length-map (enumerate_from 0 (boxes d)) (pins_of occurs.listed.number) ∙ length-enumerated 0 (boxes d)

  long : length numbers ≡ length (boxes d)
  long = occurs.ordered.number_count ∙ list_long

  -- the number at a place
  abbrev at : ℕ → ℕ
  at k = get_or numbers k 0

  at_below : (k : ℕ) → k < length (boxes d) → at k < length (boxes d)
  at_below k lt = omega (arith, (occurs.ordered.boxes k (omega (arith, lt, list_long))).0, list_long)

  each_below : (q : ℕ) → Contains numbers q → q < length (boxes d)
  each_below q (k, fits, is) =
      let same : at k ≡ q = same_there numbers k q fits is in
      omega (arith, at_below k (omega (arith, fits, long)), same)
    where
      same_there : (xs : List ℕ) (k q : ℕ) → k < length xs → get_or xs k q ≡ q → get_or xs k 0 ≡ q
      same_there [] k q fits is = absurd (omega (arith, fits))
      same_there (x ∷ xs) zero q fits is = is
      same_there (x ∷ xs) (suc k) q fits is = same_there xs k q (omega (arith, fits)) is

  named : (c : ℕ) → c < length (boxes d) → numbered d c (box_number d c)
  named c lt = numbered_at (boxes d) c (root d) lt

  needs_on : (c b : ℕ) (s t : Scope) → numbered d c s → numbered d b t → DependsOnBox d s t → NeedsBox occurs.cells c b
  needs_on = depends_needs of_designs d allowed.bounded once apart occurs.lowering occurs.cells occurs.lowered occurs.listed

  -- what precedes a place, and the box there
  module _ (before after : List Scope) (s : Scope) (occur : order ≡ before ++ s ∷ after) where
    abbrev k : ℕ
    k = length before

    in_order : k < length (boxes d)
    in_order = omega (arith, place_within order before after s occur, length-map numbers (box_number d), long)

    abbrev c : ℕ
    c = at k

    c_below : c < length (boxes d)
    c_below = at_below k in_order

    is_s : box_number d c ≡ s
    is_s = sym (get_or-map (box_number d) numbers k 0 s (omega (arith, in_order, long))) ∙ at_place order before after s s occur

    numbered_s : numbered d c s
    numbered_s = subst (numbered d c) is_s (named c c_below)

    prefix : before ≡ map (box_number d) (take k numbers)
    prefix = sym (written_back k before (s ∷ after) refl) ∙ ap (take k) (sym occur) ∙ take-map (box_number d) k numbers

    -- a box precedes where its number does
    from_before : (b : ℕ) (t : Scope) → numbered d b t → Contains before t → Contains (take k numbers) b
    from_before b t num has =
        let m = from_map (box_number d) (take k numbers) t (subst (λ l. Contains l t) prefix has) in
        let there = taken numbers k m.0 m.1 in
        let low = (got numbers there.0 m.0 0 there.2) in
        let below = at_below there.0 (omega (arith, low.0, long)) in
        let same : m.0 ≡ b = one_number d apart m.0 b t (subst (numbered d m.0) m.2 (named m.0 (omega (arith, below, low.1)))) num in
        subst (Contains (take k numbers)) same m.1

    into_before : (b : ℕ) (t : Scope) → numbered d b t → Contains (take k numbers) b → Contains before t
    into_before b t num has =
        subst (λ l. Contains l t) (sym prefix) (subst (Contains (map (box_number d) (take k numbers))) (is_numbered d b t num).1 (contains-map (box_number d) (take k numbers) b has))

    new : Contains before s → ⊥
    new has =
        let there = taken numbers k c (from_before c s numbered_s has) in
        let low = got numbers there.0 c 0 there.2 in
        occurs.ordered.numbers_apart there.0 k 0 there.1 (omega (arith, in_order, long)) low.1

    ready : (t : Scope) → Contains (boxes d) t → DependsOnBox d s t → Contains before t
    ready t has on =
        let b = numbered_there 0 (boxes d) t has in
        into_before b.0 t b.1 (occurs.ordered.ready k (omega (arith, in_order, list_long)) b.0 (needs_on c b.0 s t numbered_s b.1 on))

    -- what may follow too does not precede it among the boxes
    ready_list : (j : ℕ) (y : Scope) → numbered d j y → MayBeTakenNext d before y → IsReadyBox occurs.cells (take k numbers) j
    ready_list j y num may b need =
        let on = needs_depends of_designs d allowed.bounded once apart occurs.lowering occurs.cells occurs.lowered occurs.listed j b need in
        let same : on.0 ≡ y = sym (is_numbered d j on.0 on.2).1 ∙ (is_numbered d j y num).1 in
        from_before b on.1 on.3 (may.ready on.1 (from_numbered 0 (boxes d) (b, on.1) on.3) (subst (λ u. DependsOnBox d u on.1) same on.4))

    earlier : (y : Scope) → Contains (take c (boxes d)) y → MayBeTakenNext d before y → ⊥
    earlier y has may =
        let there = taken (boxes d) c y has in
        let j = there.0 in
        let at_j = got (boxes d) j y (root d) there.2 in
        let num : numbered d j y = subst (numbered d j) at_j.1 (named j at_j.0) in
        let least = occurs.ordered.first k j (omega (arith, in_order, list_long)) (omega (arith, at_j.0, list_long))
        (λ h. may.new (into_before j y num h)) (ready_list j y num may) in
        omega (arith, least, there.1)

    occurs_there : boxes d ≡ take c (boxes d) ++ s ∷ drop (suc c) (boxes d)
    occurs_there =
        let x = some_at (boxes d) c c_below in
        let same : x.0 ≡ s = sym (got (boxes d) c x.0 (root d) x.1).1 ∙ is_s in
        split (boxes d) c s (x.1 ∙ ap Some same)

    next : IsFirst (MayBeTakenNext d before) (boxes d) s
    next = record { before = take c (boxes d); after = drop (suc c) (boxes d); occurs = occurs_there; holds = record { new = new; ready = ready }; earlier = earlier }

  all : IsPermutation order (boxes d)
  all =
      let n = length (boxes d) in
      let same : map (box_number d) (range_with_len 0 n) ≡ boxes d = each_place (boxes d) 0 (box_number d) (root d) (λ i fits. ap (box_number d) (omega arith)) in
      subst (IsPermutation order) same (IsPermutation-map (box_number d) numbers (range_with_len 0 n) (numbers_ordered n numbers occurs.ordered.numbers_apart each_below long))

  pub box_orders : (order : List Scope) × IsBoxOrder d order × (f.boxes ≡ map (box_texts d) order)
  box_orders = (order, record { all = all; next = λ before s after occur. next before after s occur }, occurs.boxes ∙ twice numbers)
    where
      twice : (ns : List ℕ) → map (λ b. box_texts d (box_number d b)) ns ≡ map (box_texts d) (map (box_number d) ns)
      twice [] = refl
      twice (n ∷ ns) = ap (λ l. box_texts d (box_number d n) ∷ l) (twice ns)

module _ (of_designs : DesignLaws) where
  pub implementing_nets_have_box_orders : ImplementingNetsHaveBoxOrders
  implementing_nets_have_box_orders d f allowed occurs = box_orders of_designs d f allowed occurs
