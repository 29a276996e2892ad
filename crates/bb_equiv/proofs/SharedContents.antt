-- Contents that may fill the boxes of a design are tables of kinds, and tables of kinds are such contents.
use Rattle.std.proofs.Common.{◌≡◌, ◌↔◌, ℕ, ◌<◌, Bool, true, false, List, [], map, length, get_or, Contains, Option, refl, sym, ap, subst, ◌∙◌, arith}
use Rattle.std.specs.Prelude.{slice_index}
use Rattle.std.proofs.lemmas.List.{get_or-map, length-map}
use Rattle.std.proofs.lemmas.List.Elements.{Contains-get_or}
use Rattle.std.proofs.lemmas.List.Sorted.{Contains-permutation, IsPermutation-sym}
use Rattle.std.proofs.lemmas.Slice.Zip.{AllZip-long}
use Rattle.bb_bits.specs.Contents.{Contents}
use Rattle.bb_bits.specs.Laws.RowLaws.{RowsFixTable}
use Rattle.bb_bits.specs.Tables.{TableBits, rows_of}
use Rattle.bb_net.specs.Flats.{FlatNet}
use Rattle.bb_net.specs.Kinds.{FitKinds, NoSharedTablesMakeEquivalent, representatives, per_box}
use Rattle.bb_net.specs.Netlists.{Pins}
use Rattle.bb_net.specs.Pairs.{NetPair, BoxTexts, NamesPins, box_key}
use Rattle.bb_net.specs.Values.{table_at, FitBoxes}
use Rattle.bb_implements.specs.Laws.BoxOrders.{IsBoxOrder, ImplementingNetsHaveBoxOrders}
use Rattle.bb_implements.specs.Laws.ContentTables.{AreTablesOf}
use Rattle.bb_implements.specs.Implements.{box_texts}
use Rattle.bb_design.specs.Hierarchy.{Design, Scope, root, boxes}
use Rattle.bb_design.specs.Inside.Allowed.{IsAllowed}
use Rattle.bb_design.specs.Refusals.{BoxTexts as BoxCause}
use Rattle.bb_design.specs.Worlds.{FitDesign}
use Rattle.bb_equiv.specs.DesignEquivalence.{AreShared, MayFill, NoContentsMakeEquivalent, IsPairFor}
use Rattle.bb_equiv.specs.Laws.DesignEquivalence.{NoTablesNoContents}
use Rattle.bb_equiv.proofs.DesignAgreements.{contents_to_tables, tables_to_contents}
use Rattle.bb_equiv.specs.Inside.LowerLaws.{LowerLaws}
use Rattle.bb_equiv.proofs.PairBoxes.{HasBoxesOf, box_count, from_pair, has_boxes, to_pair}
use Rattle.bb_equiv.proofs.SeenDesigns.{IsSeen, pair_seen}

-- the laws of lower crates on which this rests too
pub record SharedLaws : Type 0 where
  pub laws : LowerLaws
  pub orders : ImplementingNetsHaveBoxOrders
  pub fixed : RowsFixTable
  pub fit : (kinds : List ℕ) (all : List Pins) (tables : List TableBits) → FitKinds kinds all → FitBoxes tables (representatives kinds all) → FitBoxes (per_box kinds tables) all
  pub shown_fit : (kinds : List ℕ) (all : List Pins) (tables : List TableBits) → FitKinds kinds all → FitBoxes tables all → FitBoxes (representatives kinds tables) (representatives kinds all)
  pub back : (kinds : List ℕ) (all : List Pins) (tables : List TableBits) → FitKinds kinds all → FitBoxes tables all
      → ((a b : ℕ) → a < length all → b < length all → slice_index kinds a ≡ slice_index kinds b → table_at tables a ≡ table_at tables b) → per_box kinds (representatives kinds tables) ≡ tables
  pub at : (kinds : List ℕ) (tables : List TableBits) (b : ℕ) → b < length kinds → table_at (per_box kinds tables) b ≡ table_at tables (slice_index kinds b)

abbrev pub no_texts : BoxTexts
no_texts = record { path = []; «module» = []; ins = []; outs = [] }

-- boxes of one key have the same contents, where these may fill
contents_by_key : (shared : Bool) (d : Design) (contents : Contents) (s t : Scope) (x y : BoxTexts) → (shared ≡ true → AreShared d contents) → Contains (boxes d) s → Contains (boxes d) t → x ≡ box_texts d s → y ≡ box_texts d t
    → box_key shared x ≡ box_key shared y → contents x.path ≡ contents y.path
contents_by_key false d contents s t x y one in_s in_t is also key = ap contents key
contents_by_key true d contents s t x y one in_s in_t is also key =
    ap (λ (u : BoxTexts). contents u.path) is ∙ one refl s t in_s in_t (sym (ap (λ (u : BoxTexts). u.module) is) ∙ key ∙ ap (λ (u : BoxTexts). u.module) also) ∙ sym (ap (λ (u : BoxTexts). contents u.path) also)

-- where boxes of one module share their contents, boxes of one module have one key
key_of_module : (shared : Bool) (x y : BoxTexts) → shared ≡ true → x.module ≡ y.module → box_key shared x ≡ box_key shared y
key_of_module true x y e same = same
key_of_module false x y e same = cc e

module _ {care : Option (List ℕ)} {shared : Bool} (rules : SharedLaws) (spec imp : Design) (p : NetPair) (spec_allowed : IsAllowed spec) (imp_allowed : IsAllowed imp) (pair : IsPairFor care shared spec imp p) where
  abbrev laws : LowerLaws
  laws = rules.laws

  abbrev pub boxes_of : HasBoxesOf shared pair.imp_net p
  boxes_of = has_boxes care shared pair.spec_net pair.imp_net p pair.paired

  abbrev pub pair_is_seen : IsSeen care shared spec imp p
  pair_is_seen = pair_seen laws spec imp p spec_allowed imp_allowed pair

  abbrev g : FlatNet
  g = pair.imp_net

  abbrev box : ℕ → BoxTexts
  box b = get_or g.boxes b no_texts

  is : FitKinds p.kinds p.imp.boxes
  is = pair.kept.beside.kinds

  pub texts_count : length g.boxes ≡ length p.imp.boxes
  texts_count = ap length (sym boxes_of.names) ∙ sym (AllZip-long NamesPins p.boxes p.imp.boxes pair.kept.beside.boxes_named)

  order : (order : List Scope) × IsBoxOrder imp order × (g.boxes ≡ map (box_texts imp) order)
  order = rules.orders imp g imp_allowed pair.imp_implements

  order_count : length order.0 ≡ length p.imp.boxes
  order_count = sym (length-map order.0 (box_texts imp)) ∙ ap length (sym order.2) ∙ texts_count

  box_at : (b : ℕ) (s : Scope) → b < length p.imp.boxes → box b ≡ box_texts imp (get_or order.0 b s)
  box_at b s within = ap (λ l. get_or l b no_texts) order.2 ∙ get_or-map (box_texts imp) order.0 b s no_texts (omega (arith, within, order_count))

  -- each box is one of the design
  scope_at : (b : ℕ) → b < length p.imp.boxes → (s : Scope) × Contains (boxes imp) s × (box b ≡ box_texts imp s)
  scope_at b within =
      let s = get_or order.0 b (root imp) in
      (s, Contains-permutation order.0 (boxes imp) s order.1.all (Contains-get_or order.0 b (root imp) (omega (arith, within, order_count))), box_at b (root imp) within)

  -- and each of the design is one
  place_of : (s : Scope) → Contains (boxes imp) s → (b : ℕ) × (b < length p.imp.boxes) × (box b ≡ box_texts imp s)
  place_of s has =
      let at = Contains-permutation (boxes imp) order.0 s (IsPermutation-sym order.0 (boxes imp) order.1.all) has in
      let within : at.0 < length p.imp.boxes = omega (arith, at.1, order_count) in
      (at.0, within, box_at at.0 s within ∙ ap (box_texts imp) at.2)

  key_at : (b : ℕ) → b < length p.imp.boxes → get_or (map (box_key shared) g.boxes) b [] ≡ box_key shared (box b)
  key_at b within = get_or-map (box_key shared) g.boxes b no_texts [] (omega (arith, within, texts_count))

  keys_count : length (map (box_key shared) g.boxes) ≡ length p.imp.boxes
  keys_count = length-map g.boxes (box_key shared) ∙ texts_count

  -- two boxes are of one kind exactly where they have one key
  key_of_kind : (a b : ℕ) → a < length p.imp.boxes → b < length p.imp.boxes → (slice_index p.kinds a ≡ slice_index p.kinds b) ↔ (box_key shared (box a) ≡ box_key shared (box b))
  key_of_kind a b here there =
      let same = boxes_of.kinds.same a b (omega (arith, here, keys_count)) (omega (arith, there, keys_count)) in
      ((λ kind. sym (key_at a here) ∙ same.0 kind ∙ key_at b there), (λ key. same.1 (key_at a here ∙ key ∙ sym (key_at b there))))

  -- boxes of one kind have one table
  one_table : (contents : Contents) (tables : List TableBits) → MayFill shared imp contents → AreTablesOf g contents tables → (a b : ℕ) → a < length p.imp.boxes → b < length p.imp.boxes → slice_index p.kinds a ≡ slice_index p.kinds b
      → table_at tables a ≡ table_at tables b
  one_table contents tables fill are a b here there kind =
      let fit = to_pair boxes_of tables are.fit in
      let s = scope_at a here in
      let t = scope_at b there in
      let count = box_count boxes_of in
      rules.fixed (table_at tables a) (table_at tables b) (fit.whole a here) (fit.whole b there) (fit.inputs a here ∙ is.inputs a b here there kind ∙ sym (fit.inputs b there)) (fit.outputs a here ∙ is.outputs a b here there kind ∙ sym (fit.outputs b there))
      (sym (are.rows a (omega (arith, here, count))) ∙ contents_by_key shared imp contents s.0 t.0 (box a) (box b) fill.one s.1 t.1 s.2 t.2 ((key_of_kind a b here there).0 kind) ∙ are.rows b (omega (arith, there, count)))

  module _ (tables : List TableBits) where
    pub spread_fit : FitBoxes tables (representatives p.kinds p.imp.boxes) → FitBoxes (per_box p.kinds tables) p.imp.boxes
    spread_fit fit = rules.fit p.kinds p.imp.boxes tables is fit

    -- a box has the rows of the table of its kind
    pub rows_by_kind : (contents : Contents) → AreTablesOf g contents (per_box p.kinds tables) → (b : ℕ) → b < length p.imp.boxes → contents (box b).path ≡ rows_of (table_at tables (slice_index p.kinds b))
    rows_by_kind contents are b within = are.rows b (omega (arith, within, box_count boxes_of)) ∙ ap rows_of (rules.at p.kinds tables b (omega (arith, within, is.count)))

    -- contents whose tables are those of kinds may fill
    pub filled : (contents : Contents) → FitDesign imp contents → AreTablesOf g contents (per_box p.kinds tables) → MayFill shared imp contents
    filled contents fit are = record {
      fit = fit;
      one = λ e s t in_s in_t same.
          let a = place_of s in_s in
          let b = place_of t in_t in
          let key = key_of_module shared (box a.0) (box b.0) e (ap (λ (u : BoxTexts). u.module) a.2 ∙ same ∙ sym (ap (λ (u : BoxTexts). u.module) b.2)) in
          sym (ap (λ (u : BoxTexts). contents u.path) a.2) ∙ rows_by_kind contents are a.0 a.1 ∙ ap (λ k. rows_of (table_at tables k)) ((key_of_kind a.0 b.0 a.1 b.1).1 key) ∙ sym (rows_by_kind contents are b.0 b.1)
          ∙ ap (λ (u : BoxTexts). contents u.path) b.2;
    }

    -- and there are such contents
    pub found : FitBoxes tables (representatives p.kinds p.imp.boxes) → (contents : Contents) × MayFill shared imp contents × AreTablesOf g contents (per_box p.kinds tables)
    found fit =
        let c = laws.contents imp g (imp_allowed.sound BoxCause) pair.imp_implements (per_box p.kinds tables) (from_pair boxes_of (per_box p.kinds tables) (spread_fit fit)) in
        (c.0, filled c.0 c.1 c.2, c.2)

  -- contents that may fill have tables, one for each kind
  pub tables_of_kinds : (contents : Contents) → MayFill shared imp contents → (tables : List TableBits) × FitBoxes tables (representatives p.kinds p.imp.boxes) × AreTablesOf g contents (per_box p.kinds tables)
  tables_of_kinds contents fill =
      let t = laws.tables imp g pair.imp_implements contents fill.fit in
      let fit = to_pair boxes_of t.0 t.1.fit in
      let same = rules.back p.kinds p.imp.boxes t.0 is fit (one_table contents t.0 fill t.1) in
      (representatives p.kinds t.0, rules.shown_fit p.kinds p.imp.boxes t.0 is fit, subst (AreTablesOf g contents) (sym same) t.1)

  pub no_tables_no_contents : NoSharedTablesMakeEquivalent p.spec p.imp p.kinds ↔ NoContentsMakeEquivalent care shared spec imp
  no_tables_no_contents = (
    (λ none contents fill agree.
        let (tables, fit, are) = tables_of_kinds contents fill in
        none tables fit (contents_to_tables pair_is_seen contents (per_box p.kinds tables) fill.fit are agree)),
    (λ none tables fit agree.
        let c = found tables fit in
        none c.0 c.1 (tables_to_contents pair_is_seen c.0 (per_box p.kinds tables) c.1.fit c.2 agree)),
  )

pub no_tables_exactly : SharedLaws → NoTablesNoContents
no_tables_exactly rules care shared spec imp p spec_allowed imp_allowed pair = no_tables_no_contents rules spec imp p spec_allowed imp_allowed pair
