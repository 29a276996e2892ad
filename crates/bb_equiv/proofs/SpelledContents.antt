-- Tables of kinds of a pair that implements two designs spell contents, and these agree where the tables do.
use Rattle.std.proofs.Common.{◌≡◌, ℕ, ◌<◌, Bool, List, length, get_or, Option, sym, ap, subst, ◌∙◌, arith}
use Rattle.std.specs.Prelude.{slice_index}
use Rattle.std.proofs.lemmas.Option.{get_or_from_slice_get, slice_get-get_or, slice_get_within}
use Rattle.std.proofs.lemmas.Slice.Zip.{AllZip-long}
use Rattle.bb_bits.specs.Contents.{Contents}
use Rattle.bb_bits.specs.Tables.{TableBits, rows_of}
use Rattle.bb_lemmas.proofs.Zips.{zip_at, zip_by}
use Rattle.bb_net.specs.Equivalence.{TablesMakeEquivalent}
use Rattle.bb_net.specs.Kinds.{representatives, per_box}
use Rattle.bb_net.specs.Pairs.{NetPair, BoxTexts, NamesPins}
use Rattle.bb_net.specs.Values.{table_at, FitBoxes}
use Rattle.bb_implements.specs.Laws.ContentTables.{AreTablesOf}
use Rattle.bb_design.specs.Hierarchy.{Design}
use Rattle.bb_design.specs.Inside.Allowed.{IsAllowed}
use Rattle.bb_design.specs.Worlds.{FitDesign}
use Rattle.bb_equiv.specs.DesignEquivalence.{AreSpelled, ContentsMakeEquivalent, IsPairFor, MayFill}
use Rattle.bb_equiv.specs.Laws.DesignEquivalence.{SpelledContentsMakeEquivalent, SpelledContentsHaveTables, TablesSpellContents}
use Rattle.bb_equiv.proofs.DesignAgreements.{tables_to_contents}
use Rattle.bb_equiv.proofs.PairBoxes.{HasBoxesOf, box_count, from_pair}
use Rattle.bb_equiv.proofs.SharedContents.{SharedLaws, boxes_of, found, no_texts, pair_is_seen, rows_by_kind, spread_fit}

-- a box has the rows of the table of its kind
abbrev HasRows : List TableBits → Contents → BoxTexts → ℕ → Type 0
HasRows tables contents box kind = contents box.path ≡ rows_of (table_at tables kind)

-- contents are spelled exactly where each box has these rows

rows_each : (boxes : List BoxTexts) (kinds : List ℕ) (tables : List TableBits) (contents : Contents) → AreSpelled boxes kinds tables contents → (b : ℕ) → b < length boxes
    → HasRows tables contents (get_or boxes b no_texts) (slice_index kinds b)
rows_each boxes kinds tables contents spelled b within =
    zip_at (HasRows tables contents) boxes kinds b (get_or boxes b no_texts) (slice_index kinds b) spelled (slice_get-get_or boxes b no_texts within)
    (slice_get-get_or kinds b 0 (omega (arith, within, AllZip-long (HasRows tables contents) boxes kinds spelled)))

spelled_by : (boxes : List BoxTexts) (kinds : List ℕ) (tables : List TableBits) (contents : Contents) → length boxes ≡ length kinds → ((b : ℕ) → b < length boxes → HasRows tables contents (get_or boxes b no_texts) (slice_index kinds b))
    → AreSpelled boxes kinds tables contents
spelled_by boxes kinds tables contents count rows = zip_by (HasRows tables contents) boxes kinds count (λ b box kind at_box at_kind.
    ap (λ (x : BoxTexts). contents x.path) (sym (get_or_from_slice_get boxes b box no_texts at_box)) ∙ rows b (slice_get_within boxes b box at_box)
    ∙ ap (λ k. rows_of (table_at tables k)) (get_or_from_slice_get kinds b kind 0 at_kind))

module _ {care : Option (List ℕ)} {shared : Bool} (rules : SharedLaws) (spec imp : Design) (p : NetPair) (spec_allowed : IsAllowed spec) (imp_allowed : IsAllowed imp) (pair : IsPairFor care shared spec imp p) (tables : List TableBits) (fit : FitBoxes tables (representatives p.kinds p.imp.boxes)) where
  abbrev has : HasBoxesOf shared pair.imp_net p
  has = boxes_of rules spec imp p spec_allowed imp_allowed pair

  names_count : length p.boxes ≡ length p.imp.boxes
  names_count = sym (AllZip-long NamesPins p.boxes p.imp.boxes pair.kept.beside.boxes_named)

  kinds_count : length p.kinds ≡ length p.imp.boxes
  kinds_count = pair.kept.beside.kinds.count

  are_tables : (contents : Contents) → AreSpelled p.boxes p.kinds tables contents → AreTablesOf pair.imp_net contents (per_box p.kinds tables)
  are_tables contents spelled = record {
    fit = from_pair has (per_box p.kinds tables) (spread_fit rules spec imp p spec_allowed imp_allowed pair tables fit);
    rows = λ b within.
        let there : b < length p.imp.boxes = omega (arith, within, box_count has) in
        subst (λ (all : List BoxTexts). contents (get_or all b no_texts).path ≡ rows_of (table_at tables (slice_index p.kinds b))) has.names (rows_each p.boxes p.kinds tables contents spelled b (omega (arith, there, names_count)))
        ∙ ap rows_of (sym (rules.at p.kinds tables b (omega (arith, there, kinds_count))));
  }

  pub spell : (contents : Contents) × MayFill shared imp contents × AreSpelled p.boxes p.kinds tables contents
  spell =
      let c = found rules spec imp p spec_allowed imp_allowed pair tables fit in (
        c.0,
        c.1,
        spelled_by p.boxes p.kinds tables c.0 (names_count ∙ sym kinds_count)
            (λ b within. subst (λ (all : List BoxTexts). c.0 (get_or all b no_texts).path ≡ rows_of (table_at tables (slice_index p.kinds b))) (sym has.names)
            (rows_by_kind rules spec imp p spec_allowed imp_allowed pair tables c.0 c.2 b (omega (arith, within, names_count)))),
      )

  pub spelled_agree : TablesMakeEquivalent p.spec p.imp (per_box p.kinds tables) → (contents : Contents) → FitDesign imp contents → AreSpelled p.boxes p.kinds tables contents → ContentsMakeEquivalent care spec imp contents
  spelled_agree agree contents fits spelled = tables_to_contents (pair_is_seen rules spec imp p spec_allowed imp_allowed pair) contents (per_box p.kinds tables) fits (are_tables contents spelled) agree

pub spelled_contents_make_equivalent : SharedLaws → SpelledContentsMakeEquivalent
spelled_contents_make_equivalent rules care shared spec imp p spec_allowed imp_allowed pair tables fit agree contents fits spelled = spelled_agree rules spec imp p spec_allowed imp_allowed pair tables fit agree contents fits spelled

pub spelled_contents_have_tables : SharedLaws → SpelledContentsHaveTables
spelled_contents_have_tables rules care shared spec imp p spec_allowed imp_allowed pair tables fit contents spelled = are_tables rules spec imp p spec_allowed imp_allowed pair tables fit contents spelled

pub tables_spell_contents : SharedLaws → TablesSpellContents
tables_spell_contents rules care shared spec imp p spec_allowed imp_allowed pair tables fit = spell rules spec imp p spec_allowed imp_allowed pair tables fit
