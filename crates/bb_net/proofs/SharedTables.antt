-- Tables of kinds, and the tables of all boxes that they are.
use Rattle.std.proofs.Common.{◌≡◌, ◌≢◌, ℕ, ◌<◌, ◌⊎◌, List, [], length, get_or, refl, sym, ap, subst, ◌∙◌, inl, inr, arith}
use Rattle.std.specs.Prelude.{AllPairs, slice_index}
use Rattle.std.specs.List.{range_with_len}
use Rattle.std.proofs.lemmas.Bool.{cases_lt, cases_order}
use Rattle.std.proofs.lemmas.List.{ext_get_or, get_or-map, get_or_past, length-map}
use Rattle.std.proofs.lemmas.List.Elements.{Contains-get_or}
use Rattle.std.proofs.lemmas.List.FromFn.{get_or-range_with_len, length-range_with_len}
use Rattle.bb_bits.specs.Tables.{TableBits, HasAllBits}
use Rattle.bb_net.specs.Netlists.{Netlist, Pins, box_at}
use Rattle.bb_net.specs.Values.{table_at, FitBoxes}
use Rattle.bb_net.specs.Equivalence.{TablesMakeEquivalent}
use Rattle.bb_net.specs.Conditions.{SomeTablesMakeEquivalent, NoTablesMakeEquivalent}
use Rattle.bb_net.specs.Kinds.{FitKinds, IsFirstOfKind, representatives, per_box, SomeSharedTablesMakeEquivalent, NoSharedTablesMakeEquivalent}
use Rattle.bb_net.proofs.KindNumbers.{nothing_added, kinds_apart, places_in_order, shown_counts, shown_occurs, shown_places, kind_has_first}
use Rattle.bb_net.proofs.Finite.{tables_or_none}
use Rattle.bb_net.proofs.TableLemmas.{box_of_pin}
use Rattle.bb_net.proofs.ConditionLaws.{agree_or_not}

abbrev no_table : TableBits
no_table = record { inputs = 0; outputs = 0; rows = [] }

no_pins : Pins
no_pins = record { ins = []; outs = [] }

-- where a kind is shown: at its number, with what belongs to its first box
record IsShown (kinds : List ℕ) (boxes : List Pins) (k : ℕ) : Type 0 where
  pub first : ℕ
  pub there : first < length boxes
  pub kind : get_or kinds first 0 ≡ k
  pub is_first : IsFirstOfKind kinds first
  pub pins : box_at (representatives kinds boxes) k ≡ box_at boxes first
  pub low : k < length (representatives kinds boxes)

kind_shown : (kinds : List ℕ) (boxes : List Pins) → FitKinds kinds boxes → (k : ℕ) → k < length (representatives kinds boxes) → IsShown kinds boxes k
kind_shown kinds boxes fit k h =
    let len = sym fit.count in
    let r = kind_has_first kinds k fit.ordered ((shown_counts kinds boxes fit.ordered len k).0 h) in
    record {
      first = r.0;
      there = omega (arith, r.1, len);
      kind = r.3;
      is_first = r.2;
      pins = ap (box_at (representatives kinds boxes)) (sym r.3) ∙ shown_occurs kinds boxes (record { ins = []; outs = [] }) fit.ordered len r.0 r.1 r.2;
      low = h;
    }

box_shown : (kinds : List ℕ) (boxes : List Pins) → FitKinds kinds boxes → (b : ℕ) → b < length boxes → IsShown kinds boxes (get_or kinds b 0)
box_shown kinds boxes fit b h =
    let len = sym fit.count in
    let hb : b < length kinds = omega (arith, h, len) in
    kind_shown kinds boxes fit (get_or kinds b 0) ((shown_counts kinds boxes fit.ordered len (get_or kinds b 0)).1 (Contains-get_or kinds b 0 hb))

-- a box has as many pins as the first one of its kind
pub pins_shown : (kinds : List ℕ) (boxes : List Pins) → FitKinds kinds boxes → (b : ℕ) → b < length boxes
    → (length (box_at (representatives kinds boxes) (slice_index kinds b)).ins ≡ length (box_at boxes b).ins) × (length (box_at (representatives kinds boxes) (slice_index kinds b)).outs ≡ length (box_at boxes b).outs)
pins_shown kinds boxes fit b h =
    let s = box_shown kinds boxes fit b h in (
      ap (λ (pins : Pins). length pins.ins) s.pins ∙ fit.inputs s.first b s.there h s.kind,
      ap (λ (pins : Pins). length pins.outs) s.pins ∙ fit.outputs s.first b s.there h s.kind,
    )

pub spread_at : (kinds : List ℕ) (tables : List TableBits) (b : ℕ) → b < length kinds → table_at (per_box kinds tables) b ≡ table_at tables (get_or kinds b 0)
spread_at kinds tables b h = get_or-map (table_at tables) kinds b 0 (record { inputs = 0; outputs = 0; rows = [] }) h

-- the kind of a box with an output pin names a table, and the box holds it
pub record HasTable (kinds : List ℕ) (tables : List TableBits) (b : ℕ) : Type 0 where
  pub kind : b < length kinds
  pub there : get_or kinds b 0 < length tables
  pub table : table_at (per_box kinds tables) b ≡ table_at tables (get_or kinds b 0)

pub box_has_table : (kinds : List ℕ) (tables : List TableBits) (boxes : List Pins) (b p : ℕ) → p < length (box_at boxes b).outs → FitBoxes (per_box kinds tables) boxes → HasTable kinds tables b
box_has_table kinds tables boxes b p pin fits =
    let below : b < length boxes = box_of_pin boxes b p pin in
    let kind : b < length kinds = omega (arith, below, fits.count, length-map kinds (table_at tables)) in
    let table = spread_at kinds tables b kind in
    record {
      kind = kind;
      there = elim (cases_lt (get_or kinds b 0) (length tables)) [
        | inl there ↦ there
        | inr past ↦
            let none : (table_at tables (get_or kinds b 0)).outputs ≡ 0 = ap (λ (t : TableBits). t.outputs) (get_or_past tables (get_or kinds b 0) no_table past) in
            absurd (omega (arith, pin, none, ap (λ (t : TableBits). t.outputs) table, fits.outputs b below))
      ];
      table = table;
    }

-- tables of kinds that fit are tables of boxes that fit
pub spread_fits : (kinds : List ℕ) (boxes : List Pins) (tables : List TableBits) → FitKinds kinds boxes → FitBoxes tables (representatives kinds boxes) → FitBoxes (per_box kinds tables) boxes
spread_fits kinds boxes tables fit fits =
    let at : (b : ℕ) → b < length boxes → table_at (per_box kinds tables) b ≡ table_at tables (get_or kinds b 0) = λ b h. spread_at kinds tables b (omega (arith, h, fit.count)) in
    record {
      count = length-map kinds (table_at tables) ∙ fit.count;
      inputs = λ b h. ap (λ (t : TableBits). t.inputs) (at b h) ∙ fits.inputs (get_or kinds b 0) (box_shown kinds boxes fit b h).low ∙ (pins_shown kinds boxes fit b h).0;
      outputs = λ b h. ap (λ (t : TableBits). t.outputs) (at b h) ∙ fits.outputs (get_or kinds b 0) (box_shown kinds boxes fit b h).low ∙ (pins_shown kinds boxes fit b h).1;
      whole = λ b h. subst HasAllBits (sym (at b h)) (fits.whole (get_or kinds b 0) (box_shown kinds boxes fit b h).low);
    }

same_length : (kinds : List ℕ) (boxes : List Pins) (tables : List TableBits) → FitKinds kinds boxes → length tables ≡ length boxes → length (representatives kinds tables) ≡ length (representatives kinds boxes)
same_length kinds boxes tables fit len =
    let lt = shown_counts kinds tables fit.ordered (len ∙ sym fit.count) in
    let lb = shown_counts kinds boxes fit.ordered (sym fit.count) in
    elim (cases_order (length (representatives kinds tables)) (length (representatives kinds boxes))) [
      | inl e ↦ e
      | inr other ↦ elim other [
        | inl low ↦ let p = (lt (length (representatives kinds tables))).1 ((lb (length (representatives kinds tables))).0 low) in absurd (omega (arith, p))
        | inr high ↦ let p = (lb (length (representatives kinds boxes))).1 ((lt (length (representatives kinds boxes))).0 high) in absurd (omega (arith, p))
      ]
    ]

-- a table of a kind is that of the first box of the kind
table_shown : (kinds : List ℕ) (boxes : List Pins) (tables : List TableBits) → FitKinds kinds boxes → length tables ≡ length boxes → (k : ℕ) → (s : IsShown kinds boxes k) → table_at (representatives kinds tables) k ≡ table_at tables s.first
table_shown kinds boxes tables fit len k s =
    ap (table_at (representatives kinds tables)) (sym s.kind)
    ∙ shown_occurs kinds tables (record { inputs = 0; outputs = 0; rows = [] }) fit.ordered (len ∙ sym fit.count) s.first (omega (arith, s.there, fit.count)) s.is_first

pub shown_fits : (kinds : List ℕ) (boxes : List Pins) (tables : List TableBits) → FitKinds kinds boxes → FitBoxes tables boxes → FitBoxes (representatives kinds tables) (representatives kinds boxes)
shown_fits kinds boxes tables fit fits =
    let len = same_length kinds boxes tables fit fits.count in
    let at : (k : ℕ) → k < length (representatives kinds boxes) → IsShown kinds boxes k = kind_shown kinds boxes fit in
    let is : (k : ℕ) → (s : IsShown kinds boxes k) → table_at (representatives kinds tables) k ≡ table_at tables s.first = table_shown kinds boxes tables fit fits.count in
    record {
      count = len;
      inputs = λ k h. let s = at k h in ap (λ (t : TableBits). t.inputs) (is k s) ∙ fits.inputs s.first s.there ∙ ap (λ (pins : Pins). length pins.ins) (sym s.pins);
      outputs = λ k h. let s = at k h in ap (λ (t : TableBits). t.outputs) (is k s) ∙ fits.outputs s.first s.there ∙ ap (λ (pins : Pins). length pins.outs) (sym s.pins);
      whole = λ k h. let s = at k h in subst HasAllBits (sym (is k s)) (fits.whole s.first s.there);
    }

-- tables that are the same at boxes of one kind are those of the kinds
pub spread_back : (kinds : List ℕ) (boxes : List Pins) (tables : List TableBits) → FitKinds kinds boxes → FitBoxes tables boxes
    → ((a b : ℕ) → a < length boxes → b < length boxes → slice_index kinds a ≡ slice_index kinds b → table_at tables a ≡ table_at tables b) → per_box kinds (representatives kinds tables) ≡ tables
spread_back kinds boxes tables fit fits same =
    ext_get_or (record { inputs = 0; outputs = 0; rows = [] }) (per_box kinds (representatives kinds tables)) tables (length-map kinds _ ∙ fit.count ∙ sym fits.count) (λ b h.
    let hk : b < length kinds = omega (arith, h, length-map kinds (table_at (representatives kinds tables))) in
    let hb : b < length boxes = omega (arith, hk, fit.count) in
    let s = box_shown kinds boxes fit b hb in
    spread_at kinds (representatives kinds tables) b hk ∙ table_shown kinds boxes tables fit fits.count (get_or kinds b 0) s ∙ same s.first b s.there hb s.kind)

-- and tables of kinds are those of the first boxes
pub spread_kept : (kinds : List ℕ) (boxes : List Pins) (tables : List TableBits) → FitKinds kinds boxes → length tables ≡ length (representatives kinds boxes) → representatives kinds (per_box kinds tables) ≡ tables
spread_kept kinds boxes tables fit len =
    let none : TableBits = record { inputs = 0; outputs = 0; rows = [] } in
    let whole : length (per_box kinds tables) ≡ length boxes = length-map kinds (table_at tables) ∙ fit.count in
    ext_get_or none (representatives kinds (per_box kinds tables)) tables (same_length kinds boxes (per_box kinds tables) fit whole ∙ sym len) (λ k h.
    let s = kind_shown kinds boxes fit k (omega (arith, h, same_length kinds boxes (per_box kinds tables) fit whole)) in
    table_shown kinds boxes (per_box kinds tables) fit whole k s ∙ spread_at kinds tables s.first (omega (arith, s.there, fit.count)) ∙ ap (table_at tables) s.kind)

-- where all kinds differ nothing is shared
pub apart_places : (kinds : List ℕ) (boxes : List Pins) → FitKinds kinds boxes → AllPairs ◌≢◌ kinds → kinds ≡ range_with_len 0 (length boxes)
apart_places kinds boxes fit apart = kinds_apart kinds fit.ordered apart ∙ ap (range_with_len 0) fit.count

pub places_fit : (boxes : List Pins) → FitKinds (range_with_len 0 (length boxes)) boxes
places_fit boxes =
    let n = length boxes in
    let at : (b : ℕ) → b < n → get_or (range_with_len 0 n) b 0 ≡ b = λ b h. get_or-range_with_len 0 n b 0 h ∙ nothing_added b in
    let one : (a b : ℕ) → a < n → b < n → get_or (range_with_len 0 n) a 0 ≡ get_or (range_with_len 0 n) b 0 → a ≡ b = λ a b ha hb e. sym (at a ha) ∙ e ∙ at b hb in
    record {
      count = length-range_with_len 0 n;
      ordered = places_in_order n;
      inputs = λ a b ha hb e. ap (λ c. length (box_at boxes c).ins) (one a b ha hb e);
      outputs = λ a b ha hb e. ap (λ c. length (box_at boxes c).outs) (one a b ha hb e);
    }

pub spread_places : (n : ℕ) (tables : List TableBits) → length tables ≡ n → per_box (range_with_len 0 n) tables ≡ tables
spread_places n tables len =
    let whole = length-range_with_len 0 n in
    ext_get_or (record { inputs = 0; outputs = 0; rows = [] }) (per_box (range_with_len 0 n) tables) tables (length-map (range_with_len 0 n) _ ∙ whole ∙ sym len) (λ b h.
    let hk : b < length (range_with_len 0 n) = omega (arith, h, length-map (range_with_len 0 n) (table_at tables)) in
    spread_at (range_with_len 0 n) tables b hk ∙ ap (table_at tables) (get_or-range_with_len 0 n b 0 (omega (arith, hk, whole)) ∙ nothing_added b))

-- tables that agree and are shared agree
pub shared_some : (spec imp : Netlist) (kinds : List ℕ) → FitKinds kinds imp.boxes → SomeSharedTablesMakeEquivalent spec imp kinds → SomeTablesMakeEquivalent spec imp
shared_some spec imp kinds fit some = (per_box kinds some.0, spread_fits kinds imp.boxes some.0 fit some.1, some.2)

pub shared_none : (spec imp : Netlist) (kinds : List ℕ) → FitKinds kinds imp.boxes → NoTablesMakeEquivalent spec imp → NoSharedTablesMakeEquivalent spec imp kinds
shared_none spec imp kinds fit none = λ tables fits agree. none (per_box kinds tables) (spread_fits kinds imp.boxes tables fit fits) agree

-- where all kinds differ all tables are shared
pub apart_shared : (spec imp : Netlist) (kinds : List ℕ) → FitKinds kinds imp.boxes → AllPairs ◌≢◌ kinds → (tables : List TableBits) → FitBoxes tables imp.boxes → TablesMakeEquivalent spec imp tables
    → FitBoxes tables (representatives kinds imp.boxes) × TablesMakeEquivalent spec imp (per_box kinds tables)
apart_shared spec imp kinds fit apart tables fits agree =
    let places = apart_places kinds imp.boxes fit apart in
    let boxes_same : representatives kinds imp.boxes ≡ imp.boxes = ap (λ ks. representatives ks imp.boxes) places ∙ shown_places (length imp.boxes) imp.boxes refl in
    let tables_same : per_box kinds tables ≡ tables = ap (λ ks. per_box ks tables) places ∙ spread_places (length imp.boxes) tables fits.count in
    (subst (FitBoxes tables) (sym boxes_same) fits, subst (TablesMakeEquivalent spec imp) (sym tables_same) agree)

pub apart_some : (spec imp : Netlist) (kinds : List ℕ) → FitKinds kinds imp.boxes → AllPairs ◌≢◌ kinds → SomeTablesMakeEquivalent spec imp → SomeSharedTablesMakeEquivalent spec imp kinds
apart_some spec imp kinds fit apart some = let r = apart_shared spec imp kinds fit apart some.0 some.1 some.2 in (some.0, r.0, r.1)

pub apart_none : (spec imp : Netlist) (kinds : List ℕ) → FitKinds kinds imp.boxes → AllPairs ◌≢◌ kinds → NoSharedTablesMakeEquivalent spec imp kinds → NoTablesMakeEquivalent spec imp
apart_none spec imp kinds fit apart none = λ tables fits agree. let r = apart_shared spec imp kinds fit apart tables fits agree in none tables r.0 r.1

pub shared_or_not : (spec imp : Netlist) (kinds : List ℕ) → NoSharedTablesMakeEquivalent spec imp kinds ⊎ SomeSharedTablesMakeEquivalent spec imp kinds
shared_or_not spec imp kinds = tables_or_none (representatives kinds imp.boxes) (λ tables. TablesMakeEquivalent spec imp (per_box kinds tables)) (λ tables. agree_or_not spec imp (per_box kinds tables))
