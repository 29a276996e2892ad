-- What a pair shows of its kinds: the texts name the pins of the first boxes; pairs with as many pins in each box show as many; and where
-- all kinds differ all of it is shown.
use Rattle.std.proofs.Common.{◌≡◌, ◌≢◌, ℕ, zero, suc, ◌<◌, List, [], ◌∷◌, length, map, All, AllPairs, sym, ap, subst, ◌∙◌, arith}
use Rattle.std.specs.List.{AllZip, range_with_len}
use Rattle.std.proofs.lemmas.List.Elements.{All-head, All-tail}
use Rattle.std.proofs.lemmas.Slice.Zip.{AllZip-long}
use Rattle.bb_bits.specs.Tables.{TableBits}
use Rattle.bb_net.specs.Equivalence.{TablesMakeEquivalent}
use Rattle.bb_net.specs.Completions.{AreCompletion}
use Rattle.bb_net.specs.Kinds.{AreSharedCompletion, FitKinds, first_places, representatives, per_box}
use Rattle.bb_net.specs.Netlists.{Netlist, Pins, box_at}
use Rattle.bb_net.specs.Pairs.{NetPair, IsPair, BoxTexts, NamesPins}
use Rattle.bb_net.specs.Values.{FitBoxes}
use Rattle.bb_checks.specs.Inside.KindLaws.{KindLaws}
use Rattle.bb_checks.specs.Rungs.{texts_at}
use Rattle.bb_checks.proofs.IsomorphicBoxes.{AreAsMany, pins_at_isomorphic}

-- each box has a text for each pin
pub names_each : (texts : List BoxTexts) (boxes : List Pins) → AllZip NamesPins texts boxes → (b : ℕ) → b < length texts → NamesPins (texts_at texts b) (box_at boxes b)
names_each [] boxes named b there = absurd (omega (arith, there))
names_each (t ∷ texts) [] named b there = absurd named
names_each (t ∷ texts) (q ∷ boxes) named zero there = named.0
names_each (t ∷ texts) (q ∷ boxes) named (suc b) there = names_each texts boxes named.1 b (omega (arith, there))

names_at : (texts : List BoxTexts) (boxes : List Pins) (n : ℕ) → AllZip NamesPins texts boxes → n ≡ length texts → (places : List ℕ) → All (λ b. b < n) places → AllZip NamesPins (map (texts_at texts) places) (map (box_at boxes) places)
names_at texts boxes n named len [] there = tt
names_at texts boxes n named len (b ∷ places) there =
    let here : b < n = All-head (λ q. q < n) b places there in
    (names_each texts boxes named b (omega (arith, here, len)), names_at texts boxes n named len places (All-tail (λ q. q < n) b places there))

many_at : (ps qs : List Pins) → AreAsMany ps qs → (places : List ℕ) → AreAsMany (map (box_at ps) places) (map (box_at qs) places)
many_at ps qs many [] = tt
many_at ps qs many (b ∷ places) = let here = pins_at_isomorphic ps qs many b in (here.0, here.1, many_at ps qs many places)

-- these are the places of the first boxes, and their texts are shown
pub record AreFirstTexts (p : NetPair) (boxes : List BoxTexts) (firsts : List ℕ) : Type 0 where
  pub there : All (λ b. b < length boxes) firsts
  pub shows : map (texts_at boxes) firsts ≡ representatives p.kinds p.boxes

module _ (laws : KindLaws) where
  pub named_shown : (p : NetPair) → IsPair p → AllZip NamesPins (representatives p.kinds p.boxes) (representatives p.kinds p.imp.boxes)
  named_shown p kept =
      let kinds = kept.beside.kinds in
      let long : length p.imp.boxes ≡ length p.boxes = AllZip-long NamesPins p.boxes p.imp.boxes kept.beside.boxes_named in
      let texts : representatives p.kinds p.boxes ≡ map (texts_at p.boxes) (first_places p.kinds) = laws.texts p.kinds p.boxes (record { path = []; «module» = []; ins = []; outs = [] }) kinds.ordered (omega (arith, long, kinds.count)) in
      let pins : representatives p.kinds p.imp.boxes ≡ map (box_at p.imp.boxes) (first_places p.kinds) = laws.pins p.kinds p.imp.boxes (record { ins = []; outs = [] }) kinds.ordered (sym kinds.count) in
      subst (λ ts. AllZip NamesPins ts (representatives p.kinds p.imp.boxes)) (sym texts) (subst (AllZip NamesPins (map (texts_at p.boxes) (first_places p.kinds))) (sym pins)
      (names_at p.boxes p.imp.boxes (length p.kinds) kept.beside.boxes_named (kinds.count ∙ long) (first_places p.kinds) (laws.there p.kinds kinds.ordered)))

  pub many_shown : (kinds : List ℕ) (ps qs : List Pins) → FitKinds kinds ps → FitKinds kinds qs → AreAsMany ps qs → AreAsMany (representatives kinds ps) (representatives kinds qs)
  many_shown kinds ps qs one other many =
      let first : representatives kinds ps ≡ map (box_at ps) (first_places kinds) = laws.pins kinds ps (record { ins = []; outs = [] }) one.ordered (sym one.count) in
      let second : representatives kinds qs ≡ map (box_at qs) (first_places kinds) = laws.pins kinds qs (record { ins = []; outs = [] }) other.ordered (sym other.count) in
      subst (λ xs. AreAsMany xs (representatives kinds qs)) (sym first) (subst (AreAsMany (map (box_at ps) (first_places kinds))) (sym second) (many_at ps qs many (first_places kinds)))

  -- where all kinds differ, tables of boxes are tables of kinds
  pub apart_shared : (spec imp : Netlist) (kinds : List ℕ) (tables : List TableBits) → FitKinds kinds imp.boxes → AllPairs ◌≢◌ kinds → AreCompletion spec imp tables → AreSharedCompletion spec imp kinds tables
  apart_shared spec imp kinds tables fit apart complete =
      let places = laws.places kinds imp.boxes fit apart in
      let boxes : representatives kinds imp.boxes ≡ imp.boxes = ap (λ ks. representatives ks imp.boxes) places ∙ laws.all imp.boxes in
      let same : per_box kinds tables ≡ tables = ap (λ ks. per_box ks tables) places ∙ ap (λ n. per_box (range_with_len 0 n) tables) (sym complete.fit.count) ∙ laws.own tables in
      record {
        fit = subst (FitBoxes tables) (sym boxes) complete.fit;
        agree = subst (TablesMakeEquivalent spec imp) (sym same) complete.agree;
      }

  -- the texts at the first places are those that are shown
  pub first_texts : (p : NetPair) → IsPair p → (boxes : List BoxTexts) (firsts : List ℕ) → boxes ≡ p.boxes → firsts ≡ first_places p.kinds → AreFirstTexts p boxes firsts
  first_texts p kept boxes firsts same are =
      let kinds = kept.beside.kinds in
      let long : length p.kinds ≡ length p.boxes = kinds.count ∙ AllZip-long NamesPins p.boxes p.imp.boxes kept.beside.boxes_named in
      record {
        there = subst (All (λ b. b < length boxes)) (sym are) (subst (λ n. All (λ b. b < n) (first_places p.kinds)) (long ∙ ap length (sym same)) (laws.there p.kinds kinds.ordered));
        shows = ap (λ ts. map (texts_at ts) firsts) same ∙ ap (map (texts_at p.boxes)) are
            ∙ sym (laws.texts p.kinds p.boxes (record { path = []; «module» = []; ins = []; outs = [] }) kinds.ordered (sym long));
      }
