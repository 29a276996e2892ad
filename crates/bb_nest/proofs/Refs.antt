-- Refs at pins and the cells there: pins with one Ref have the same cells, and pins with the same cells one Ref.
use Rattle.std.proofs.Common.{◌≡◌, ◌≢◌, ◌<◌, ◌≤◌, ℕ, zero, suc, ◌+◌, Bool, List, [], ◌∷◌, ◌++◌, length, map, take, drop, slice_index, All, AllPairs, refl, sym, ap, ◌∙◌, subst, subst₂, arith, length-append, length-take, length-drop, get_or-take, get_or-drop, take-append-drop}
use Rattle.std.specs.List.{AllZip}
use Rattle.std.proofs.lemmas.List.{get_or_append_left, get_or_default, get_or-map, length-map}
use Rattle.std.proofs.lemmas.List.Concat.{flat_map-append, get_or-flat_map}
use Rattle.std.proofs.lemmas.List.Elements.{All-from_get_or, Contains-get_or}
use Rattle.std.proofs.lemmas.List.Sums.{sum_by-cons}
use Rattle.bb_lemmas.proofs.Places.{got}
use Rattle.bb_lemmas.proofs.Zips.{zip_by}
use Rattle.bb_net.specs.Netlists.{Netlist, Pins, box_at}
use Rattle.bb_net.specs.Pairs.{pin_count}
use Rattle.bb_net.specs.Values.{bit_of}
use Rattle.bb_sym.specs.Inside.Made.{RepresentAll, ref_at}
use Rattle.bb_sym.specs.Laws.{FunctionLaws}
use Rattle.bb_sym.specs.Plain.{table, cell_bit}
use Rattle.bb_uniq.specs.declared.store.Ref.{Ref}
use Rattle.bb_uniq.specs.Inside.Meaning.{truth_of}
use Rattle.bb_uniq.specs.Inside.Nodes.{NodeStore, IsRef}
use Rattle.bb_input.specs.InputFunctions.{pins_and_inputs, boxes_first, pin_places}
use Rattle.bb_nest.specs.Nested.{AreSame, Sees, pin_cells, AreNested}
use Rattle.bb_nest.specs.Rows.{IsSeenFirst, SeesBit}
use Rattle.bb_nest.specs.Inside.Readers.{IsReader, HasReader, HasNoReader, AreReaders, AllSeeRefs, own_refs, refs_before}
use Rattle.bb_nest.proofs.Filling.{sees_places}
use Rattle.bb_nest.proofs.Loops.{all_left, all_right}
use Rattle.bb_nest.proofs.Points.{pins_of, tables_same, same_tables}
use Rattle.bb_nest.proofs.StageRows.{no_pins, pins_fit}

count_places : (boxes : List Pins) → length (pin_places boxes) ≡ pin_count boxes
count_places [] = refl
count_places (box ∷ boxes) = omega (arith, length-append (box.ins ++ box.outs) (pin_places boxes), length-append box.ins box.outs, count_places boxes, sum_by-cons pins_of box boxes)

-- what holds of the cells at all pins holds of those of each box
pub each_place : (P : ℕ → Type 0) (boxes : List Pins) → All P (pin_places boxes) → (a : ℕ) → a < length boxes → All P (pin_cells (box_at boxes a))
each_place P [] all a l = absurd (omega (arith, l))
each_place P (box ∷ boxes) all zero l = all_left P (box.ins ++ box.outs) (pin_places boxes) all
each_place P (box ∷ boxes) all (suc a) l = each_place P boxes (all_right P (box.ins ++ box.outs) (pin_places boxes) all) a (omega (arith, l))

module _ (functions : FunctionLaws) (imp : Netlist) (s : NodeStore) (refs : List Ref) (count : length refs ≡ pin_count imp.boxes)
    (occur : RepresentAll s (λ q. table (pins_and_inputs imp) (cell_bit (boxes_first imp) imp (slice_index (pin_places imp.boxes) q))) refs)
    (canonical : (r q : ℕ) → IsRef s r → IsRef s q → truth_of s r ≡ truth_of s q → r ≡ q) where
  abbrev cell : ℕ → ℕ
  cell q = slice_index (pin_places imp.boxes) q

  same_cells : (q r : ℕ) → q < length refs → r < length refs → ref_at refs q ≡ ref_at refs r → AreSame imp (cell q) (cell r)
  same_cells q r lq lr e = same_tables functions imp (cell q) (cell r) (sym (occur q lq).table ∙ (ap (λ (x : Ref). truth_of s x.0) e ∙ (occur r lr).table))

  same_refs : (q r : ℕ) → q < length refs → r < length refs → AreSame imp (cell q) (cell r) → ref_at refs q ≡ ref_at refs r
  same_refs q r lq lr same =
      let number = canonical (ref_at refs q).0 (ref_at refs r).0 (occur q lq).ref (occur r lr).ref ((occur q lq).table ∙ (tables_same functions imp (cell q) (cell r) same ∙ sym (occur r lr).table)) in
      ap (λ (n : ℕ). record { 0 = n }) number

  module _ (b : ℕ) (l : b < length imp.boxes) where
    abbrev before : List Pins
    before = take b imp.boxes

    abbrev box : Pins
    box = box_at imp.boxes b

    abbrev start : ℕ
    start = pin_count before

    abbrev own : List Ref
    own = own_refs imp.boxes b refs

    abbrev others : List Ref
    others = refs_before imp.boxes b refs

    fits : start + pins_of box ≤ length refs
    fits = let h = pins_fit imp.boxes b l in omega (arith, h, count)

    pub count_own : length own ≡ length box.ins
    count_own = omega (arith, length-take (length box.ins) (drop start refs), length-drop start refs, fits)

    pub count_others : length others ≡ start
    count_others = omega (arith, length-take start refs, fits)

    own_at : (p : ℕ) → p < length box.ins → ref_at own p ≡ ref_at refs (start + p)
    own_at p lp = get_or-take (length box.ins) (drop start refs) p (record { 0 = 0 }) lp ∙ get_or-drop start refs p (record { 0 = 0 })

    pub other_at : (q : ℕ) → q < start → ref_at others q ≡ ref_at refs q
    other_at q lq = get_or-take start refs q (record { 0 = 0 }) lq

    cell_own : (p : ℕ) → p < length box.ins → cell (start + p) ≡ slice_index box.ins p
    cell_own p lp =
        ap (λ j. cell (j + p)) (sym (count_places before))
        ∙ (get_or-flat_map (λ (pins : Pins). pins.ins ++ pins.outs) imp.boxes b p no_pins 0 l (omega (arith, lp, length-append box.ins box.outs)) ∙ get_or_append_left box.ins box.outs 0 p lp)

    cell_other : (q : ℕ) → q < start → cell q ≡ slice_index (pin_places before) q
    cell_other q lq =
        ap (λ (boxes : List Pins). slice_index (pin_places boxes) q) (sym (take-append-drop b imp.boxes))
        ∙ (ap (λ (cells : List ℕ). slice_index cells q) (flat_map-append (λ (pins : Pins). pins.ins ++ pins.outs) before (drop b imp.boxes))
        ∙ get_or_append_left (pin_places before) (pin_places (drop b imp.boxes)) 0 q (omega (arith, lq, count_places before)))

    to_cells : (q p : ℕ) → q < start → p < length box.ins → ref_at own p ≡ ref_at refs q → AreSame imp (slice_index box.ins p) (slice_index (pin_places before) q)
    to_cells q p lq lp e = subst₂ (AreSame imp) (cell_own p lp) (cell_other q lq) (same_cells (start + p) q (omega (arith, lp, fits)) (omega (arith, lq, fits)) (sym (own_at p lp) ∙ e))

    to_refs : (q p : ℕ) → q < start → p < length box.ins → AreSame imp (slice_index box.ins p) (slice_index (pin_places before) q) → ref_at own p ≡ ref_at refs q
    to_refs q p lq lp same =
        own_at p lp ∙ same_refs (start + p) q (omega (arith, lp, fits)) (omega (arith, lq, fits)) (subst₂ (AreSame imp) (sym (cell_own p lp)) (sym (cell_other q lq)) same)

    pub seen_at : (q p : ℕ) → q < start → IsReader own (ref_at others q) p → IsSeenFirst imp box (slice_index (pin_places before) q) p
    seen_at q p lq reader =
        let there : p < length box.ins = omega (arith, reader.there, count_own) in
        record {
          there = there;
          same = to_cells q p lq there (reader.same ∙ other_at q lq);
          first = λ j lj same. reader.first j lj (to_refs q j lq (omega (arith, lj, there)) same ∙ sym (other_at q lq));
        }

    pub unseen_at : (q : ℕ) → q < start → HasNoReader own (ref_at refs q) → Sees imp box (slice_index (pin_places before) q) → ⊥
    unseen_at q lq none sees =
        let j = sees.1.0 in
        let low : j < length box.ins = sees.1.1 in
        none j (omega (arith, low, count_own)) (to_refs q j lq low (subst (λ seen. AreSame imp seen (slice_index (pin_places before) q)) (sym (get_or_default box.ins j 0 sees.0 low ∙ sees.1.2)) sees.2))

    -- the bits of the readers are seen
    pub seen_zip : (readers : List ℕ) → AreReaders own others readers → (ins : List Bool) → AllZip (SeesBit imp box ins) (pin_places before) (map (bit_of ins) readers)
    seen_zip readers read ins =
        zip_by (SeesBit imp box ins) (pin_places before) (map (bit_of ins) readers) (omega (arith, count_places before, length-map readers (bit_of ins), read.count, count_others)) (λ q c bit e f.
        let at = got (pin_places before) q c 0 e in
        let low : q < start = omega (arith, at.0, count_places before) in
        let there : q < length others = omega (arith, low, count_others) in
        let same : bit_of ins (slice_index readers q) ≡ bit = sym (get_or-map (bit_of ins) readers q 0 bit (omega (arith, there, read.count))) ∙ (got (map (bit_of ins) readers) q bit bit f).1 in
        (slice_index readers q, subst (λ d. IsSeenFirst imp box d (slice_index readers q)) at.1 (seen_at q (slice_index readers q) low (read.each q there)), sym same))

  -- boxes whose pins all have readers are nested, and no others
  pub nested_by_refs : (kinds : List ℕ) → AllPairs ◌≢◌ kinds → AllSeeRefs imp.boxes refs → AreNested imp kinds
  nested_by_refs kinds apart seen = record {
    apart = apart;
    seen = λ a b less l.
        let before = take b imp.boxes in
        let box = box_at imp.boxes b in
        let places : All (Sees imp box) (pin_places before) = All-from_get_or (Sees imp box) (pin_places before) 0 (λ q lq.
        let low : q < pin_count before = omega (arith, lq, count_places before) in
        let reader = subst (HasReader (own_refs imp.boxes b refs)) (get_or_default (refs_before imp.boxes b refs) q (record { 0 = 0 }) (record { 0 = 0 }) (omega (arith, low, count_others b l))) (seen b l q (record { 0 = 0 }) (omega (arith, low, count_others b l))) in
        let first = seen_at b l q reader.0 low reader.1 in
        (slice_index box.ins reader.0, Contains-get_or box.ins reader.0 0 first.there, first.same)) in
        subst (λ (pins : Pins). All (Sees imp box) (pin_cells pins)) (get_or-take b imp.boxes a no_pins less) (each_place (Sees imp box) before places a (omega (arith, less, l, length-take b imp.boxes)));
  }

  pub not_nested : (kinds : List ℕ) (b : ℕ) → b < length imp.boxes → (q : ℕ) → q < pin_count (take b imp.boxes) → HasNoReader (own_refs imp.boxes b refs) (ref_at refs q) → AreNested imp kinds → ⊥
  not_nested kinds b l q lq none nested =
      unseen_at b l q lq none (sees_places imp kinds nested b l q 0 (omega (arith, lq, count_places (take b imp.boxes))))
