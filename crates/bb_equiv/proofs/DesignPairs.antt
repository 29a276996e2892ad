-- A pair that implements two designs has the boxes of the implementation, and tables that fit the first of each kind are tables of these.
use Rattle.std.proofs.Common.{◌≡◌, ℕ, ◌<◌, suc, List, [], ◌∷◌, map, length, get_or, All, sym, subst, ◌∙◌, arith}
use Rattle.std.specs.List.{AllZip}
use Rattle.std.proofs.lemmas.List.Elements.{All-head, All-tail}
use Rattle.std.proofs.lemmas.Option.{slice_get-get_or}
use Rattle.std.proofs.lemmas.Slice.Zip.{AllZip-long}
use Rattle.bb_bits.specs.Tables.{TableBits}
use Rattle.bb_net.specs.Kinds.{AreNumberedInOrder, AreKinds, FitKinds, first_places, representatives}
use Rattle.bb_net.specs.Netlists.{Pins}
use Rattle.bb_net.specs.Pairs.{BoxTexts, NamesPins, box_key}
use Rattle.bb_net.specs.Values.{FitBoxes}
use Rattle.bb_implements.specs.Laws.BoxOrders.{ImplementingNetsHaveBoxOrders}
use Rattle.bb_lemmas.proofs.Zips.{zip_at}
use Rattle.bb_equiv.specs.DesignEquivalence.{IsTableOf}
use Rattle.bb_equiv.specs.Laws.DesignEquivalence.{FittingTablesAreOfBoxes, PairsHaveBoxOrders}
use Rattle.bb_equiv.proofs.PairBoxes.{has_boxes}

pub pairs_have_box_orders : ImplementingNetsHaveBoxOrders → PairsHaveBoxOrders
pairs_have_box_orders have_orders care shared spec imp p also pair =
    let o = have_orders imp pair.imp_net also pair.imp_implements in
    let has = has_boxes care shared pair.spec_net pair.imp_net p pair.paired in
    (o.0, o.1, has.names ∙ o.2, subst (λ boxes. AreKinds (map (box_key shared) boxes) p.kinds) (sym has.names) has.kinds)

-- tables beside the boxes that they fit
tables_beside : (texts : List BoxTexts) (boxes : List Pins) (tables : List TableBits) → AllZip NamesPins texts boxes → FitBoxes tables boxes → AllZip IsTableOf texts tables
tables_beside [] [] [] names fit = tt
tables_beside [] [] (t ∷ tables) names fit = let long : suc (length tables) ≡ 0 = fit.count in absurd (omega (arith, long))
tables_beside [] (b ∷ boxes) tables names fit = absurd names
tables_beside (x ∷ texts) [] tables names fit = absurd names
tables_beside (x ∷ texts) (b ∷ boxes) [] names fit = let long : 0 ≡ suc (length boxes) = fit.count in absurd (omega (arith, long))
tables_beside (x ∷ texts) (b ∷ boxes) (t ∷ tables) names fit =
    let count : suc (length tables) ≡ suc (length boxes) = fit.count in (
      record { inputs = fit.inputs 0 (omega arith) ∙ sym names.0.ins; outputs = fit.outputs 0 (omega arith) ∙ sym names.0.outs; whole = fit.whole 0 (omega arith) },
      tables_beside texts boxes tables names.1 (record {
        count = omega (arith, count);
        inputs = λ k lt. fit.inputs (suc k) (omega (arith, lt));
        outputs = λ k lt. fit.outputs (suc k) (omega (arith, lt));
        whole = λ k lt. fit.whole (suc k) (omega (arith, lt));
      }),
    )

-- what belongs to the first boxes of all kinds
abbrev Firsts : Type 0 → Type 0
Firsts A = (kinds : List ℕ) (xs : List A) (none : A) → AreNumberedInOrder kinds → length xs ≡ length kinds → representatives kinds xs ≡ map (λ b. get_or xs b none) (first_places kinds)

chosen_beside : (texts : List BoxTexts) (boxes : List Pins) (none : BoxTexts) (no_pins : Pins) (places : List ℕ) → AllZip NamesPins texts boxes → All (λ b. b < length boxes) places
    → AllZip NamesPins (map (λ b. get_or texts b none) places) (map (λ b. get_or boxes b no_pins) places)
chosen_beside texts boxes none no_pins [] names there = tt
chosen_beside texts boxes none no_pins (b ∷ places) names there =
    let within : b < length boxes = All-head (λ k. k < length boxes) b places there in (
      zip_at NamesPins texts boxes b (get_or texts b none) (get_or boxes b no_pins) names (slice_get-get_or texts b none (omega (arith, within, AllZip-long NamesPins texts boxes names))) (slice_get-get_or boxes b no_pins within),
      chosen_beside texts boxes none no_pins places names (All-tail (λ k. k < length boxes) b places there),
    )

pub fitting_tables_are_of_boxes : Firsts BoxTexts → Firsts Pins → ((kinds : List ℕ) → AreNumberedInOrder kinds → All (λ b. b < length kinds) (first_places kinds)) → FittingTablesAreOfBoxes
fitting_tables_are_of_boxes text_firsts pin_firsts there p tables kept fit = tables_beside (representatives p.kinds p.boxes) (representatives p.kinds p.imp.boxes) tables (subst (λ l. AllZip NamesPins l (representatives p.kinds p.imp.boxes)) (sym texts_are) (subst (AllZip NamesPins texts_there) (sym pins_are) beside)) fit
  where
    names : AllZip NamesPins p.boxes p.imp.boxes
    names = kept.beside.boxes_named

    is : FitKinds p.kinds p.imp.boxes
    is = kept.beside.kinds

    none : BoxTexts
    none = record { path = []; «module» = []; ins = []; outs = [] }

    no_pins : Pins
    no_pins = record { ins = []; outs = [] }

    texts_there : List BoxTexts
    texts_there = map (λ b. get_or p.boxes b none) (first_places p.kinds)

    texts_are : representatives p.kinds p.boxes ≡ texts_there
    texts_are = text_firsts p.kinds p.boxes none is.ordered (sym (AllZip-long NamesPins p.boxes p.imp.boxes names) ∙ sym is.count)

    pins_are : representatives p.kinds p.imp.boxes ≡ map (λ b. get_or p.imp.boxes b no_pins) (first_places p.kinds)
    pins_are = pin_firsts p.kinds p.imp.boxes no_pins is.ordered (sym is.count)

    beside : AllZip NamesPins texts_there (map (λ b. get_or p.imp.boxes b no_pins) (first_places p.kinds))
    beside = chosen_beside p.boxes p.imp.boxes none no_pins (first_places p.kinds) names (subst (λ n. All (λ b. b < n) (first_places p.kinds)) is.count (there p.kinds is.ordered))
