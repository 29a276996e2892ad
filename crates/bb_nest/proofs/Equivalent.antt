-- Tables with nested rows agree where choices suit: box after box, what its inputs say of the boxes before it is what is there, so that its
-- row is one with which the boxes after it can still be filled.
use Rattle.std.proofs.Common.{◌≡◌, ◌<◌, ℕ, ◌+◌, ◌*◌, Bool, false, List, [], ◌∷◌, ◌++◌, length, map, take, drop, slice_index, refl, sym, ap, ap₂, ◌∙◌, subst, subst₂, arith, length-append, append-nil, append_assoc, get_or-take, get_or-drop}
use Rattle.std.specs.List.{AllZip}
use Rattle.std.proofs.lemmas.List.{length-map, get_or-map, length-replicate, ext_get_or, map-append, take_at, drop_at, get_or_at}
use Rattle.bb_bits.specs.Numbers.{number_of}
use Rattle.bb_bits.specs.Tables.{TableBits, row_of}
use Rattle.bb_lemmas.proofs.Maps.{map-twice}
use Rattle.bb_net.specs.Equivalence.{AllRight, IsVector, TablesMakeEquivalent}
use Rattle.bb_net.specs.Conditions.{PinBits, all_ins, ChoicesSuit, InputsHaveOutputs, SomeChoicesSuit}
use Rattle.bb_net.specs.Netlists.{Netlist, Pins, IsNetlist, box_at}
use Rattle.bb_net.specs.Values.{bit_of, flat, flat_with, tabled_bit, table_at, FitBoxes, ValueGoesByBoxes}
use Rattle.bb_nest.specs.Rows.{SeesBit, SeesBits, IsRow, IsLeast, AreZeros, IsNestedRow}
use Rattle.bb_nest.specs.Inside.LawsBelow.{ValueExists}
use Rattle.bb_nest.proofs.FlatBits.{bits_at, outs_of, count_outs, pin_bit, flat_bits}

-- the rows of tables
abbrev pub AreNestedRows : Netlist → Netlist → List TableBits → Type 0
AreNestedRows spec imp tables =
    (b : ℕ) → b < length imp.boxes → (ins : List Bool) → length ins ≡ length (box_at imp.boxes b).ins → IsNestedRow spec imp b ins (row_of (table_at tables b) (number_of ins))

-- where the bits at the inputs are those of cells, what a box sees is there
module _ (imp : Netlist) (x : List Bool) (vector : IsVector imp x) (bits : List Bool) (same : bits ≡ flat imp x (outs_of bits imp.boxes)) (box : Pins) where
  abbrev Sees : ℕ → Bool → Type 0
  Sees = SeesBit imp box (map (bit_of bits) box.ins)

  seen_bit : (cell : ℕ) (bit : Bool) → Sees cell bit → bit ≡ bit_of bits cell
  seen_bit cell bit sees =
      let p = sees.0 in
      let alike = sees.1.same x (outs_of bits imp.boxes) vector (count_outs bits imp.boxes) in
      sees.2 ∙ (get_or-map (bit_of bits) box.ins p 0 false sees.1.there ∙ subst (λ (v : List Bool). bit_of v (slice_index box.ins p) ≡ bit_of v cell) (sym same) alike)

  seen_bits : (cells : List ℕ) (seen : List Bool) → AllZip Sees cells seen → seen ≡ map (bit_of bits) cells
  seen_bits [] [] all = refl
  seen_bits [] (y ∷ ys) all = absurd all
  seen_bits (c ∷ cs) [] all = absurd all
  seen_bits (c ∷ cs) (y ∷ ys) all = ap₂ (λ (v : Bool) (vs : List Bool). v ∷ vs) (seen_bit c y all.0) (seen_bits cs ys all.1)

  pub seen_pins : (boxes : List Pins) (seen : List PinBits) → AllZip (SeesBits imp box (map (bit_of bits) box.ins)) boxes seen → seen ≡ map (bits_at bits) boxes
  seen_pins [] [] all = refl
  seen_pins [] (y ∷ ys) all = absurd all
  seen_pins (other ∷ boxes) [] all = absurd all
  seen_pins (other ∷ boxes) (y ∷ ys) all =
      ap₂ (λ (v : PinBits) (vs : List PinBits). v ∷ vs) (ap₂ (λ v w. record { ins = v; outs = w }) (seen_bits other.ins y.ins all.0.ins) (seen_bits other.outs y.outs all.0.outs)) (seen_pins boxes ys all.1)

pub row_count : (spec imp : Netlist) (b : ℕ) (earlier : List PinBits) (ins outs : List Bool) → IsRow spec imp b earlier ins outs → length outs ≡ length (box_at imp.boxes b).outs
row_count spec imp b earlier ins outs (IsLeast long suffice least) = long
row_count spec imp b earlier ins outs (AreZeros none zeros) = ap length zeros ∙ length-replicate (length (box_at imp.boxes b).outs) false

module _ (exists : ValueExists) (swap : ValueGoesByBoxes) (spec imp : Netlist) (kept : IsNetlist imp) (tables : List TableBits) (fit : FitBoxes tables imp.boxes) (rows : AreNestedRows spec imp tables) where
  module _ (x : List Bool) (vector : IsVector imp x) where
    abbrev bits : List Bool
    bits = flat_with imp x tables

    same : bits ≡ flat imp x (outs_of bits imp.boxes)
    same = flat_bits exists swap imp kept x (tabled_bit tables)

    abbrev ins_at : ℕ → List Bool
    ins_at b = map (bit_of bits) (box_at imp.boxes b).ins

    abbrev row_at : ℕ → List Bool
    row_at b = row_of (table_at tables b) (number_of (ins_at b))

    nested_row : (b : ℕ) → b < length imp.boxes → IsNestedRow spec imp b (ins_at b) (row_at b)
    nested_row b l = rows b l (ins_at b) (length-map (box_at imp.boxes b).ins (bit_of bits))

    -- the row of a box is at its output pins
    row_is : (b : ℕ) → b < length imp.boxes → row_at b ≡ map (bit_of bits) (box_at imp.boxes b).outs
    row_is b l =
        let outs = (box_at imp.boxes b).outs in
        let row = nested_row b l in
        let count = row_count spec imp b row.earlier (ins_at b) (row_at b) row.row in
        let table = table_at tables b in
        let start = number_of (ins_at b) * table.outputs in
        ext_get_or false (row_at b) (map (bit_of bits) outs) (count ∙ sym (length-map outs (bit_of bits))) (λ p lp.
        let low : p < length outs = omega (arith, lp, count) in
        get_or-take table.outputs (drop start table.rows) p false (let h = fit.outputs b l in omega (arith, h, low))
        ∙ (get_or-drop start table.rows p false ∙ (sym (pin_bit exists swap imp kept x (tabled_bit tables) b p low) ∙ sym (get_or-map (bit_of bits) outs p 0 false low))))

    follow : (rest done : List Pins) → imp.boxes ≡ done ++ rest → InputsHaveOutputs (ChoicesSuit spec imp) rest (map (bits_at bits) done) → ChoicesSuit spec imp (map (bits_at bits) imp.boxes)
    follow [] done split wins = subst (λ (boxes : List Pins). ChoicesSuit spec imp (map (bits_at bits) boxes)) (sym (split ∙ append-nil done)) wins
    follow (box ∷ rest) done split wins = follow rest (done ++ box ∷ []) (split ∙ sym (append_assoc done (box ∷ []) rest)) (subst (InputsHaveOutputs (ChoicesSuit spec imp) rest) (sym (map-append (bits_at bits) done (box ∷ []))) next)
      where
        b : ℕ
        b = length done

        l : b < length imp.boxes
        l = let e = ap length split in omega (arith, e, length-append done (box ∷ rest))

        here : box_at imp.boxes b ≡ box
        here = ap (λ (boxes : List Pins). box_at boxes b) split ∙ get_or_at done box rest (record { ins = []; outs = [] }) b refl

        before : take b imp.boxes ≡ done
        before = ap (take b) split ∙ take_at done (box ∷ rest) b refl

        after : drop (b + 1) imp.boxes ≡ rest
        after = ap (drop (b + 1)) (split ∙ sym (append_assoc done (box ∷ []) rest)) ∙ drop_at (done ++ box ∷ []) rest (b + 1) (omega (arith, length-append done (box ∷ [])))

        ins : List Bool
        ins = map (bit_of bits) box.ins

        next : InputsHaveOutputs (ChoicesSuit spec imp) rest (map (bits_at bits) done ++ bits_at bits box ∷ [])
        next =
            let row = nested_row b l in
            let seen = seen_pins imp x vector bits same (box_at imp.boxes b) (take b imp.boxes) row.earlier row.seen in
            by row.earlier (ins_at b) (row_at b) (seen ∙ ap (map (bits_at bits)) before) (ap (λ (pins : Pins). map (bit_of bits) pins.ins) here) (row_is b l ∙ ap (λ (pins : Pins). map (bit_of bits) pins.outs) here) row.row
          where
            by : (earlier : List PinBits) (i o : List Bool) → earlier ≡ map (bits_at bits) done → i ≡ ins → o ≡ map (bit_of bits) box.outs → IsRow spec imp b earlier i o → InputsHaveOutputs (ChoicesSuit spec imp) rest (map (bits_at bits) done ++ bits_at bits box ∷ [])
            by earlier i o e f g (IsLeast long suffice least) =
                subst₂ (λ (boxes : List Pins) (chosen : List PinBits). InputsHaveOutputs (ChoicesSuit spec imp) boxes chosen) after
                (ap₂ (λ (v : List PinBits) (c : PinBits). v ++ c ∷ []) e (ap₂ (λ v w. record { ins = v; outs = w }) f g)) suffice
            by earlier i o e f g (AreZeros none zeros) =
                let reply = wins ins (length-map box.ins (bit_of bits)) in
                absurd (none reply.0 (reply.1 ∙ ap (λ (pins : Pins). length pins.outs) (sym here))
                (subst₂ (λ (boxes : List Pins) (chosen : List PinBits). InputsHaveOutputs (ChoicesSuit spec imp) boxes chosen) (sym after) (ap₂ (λ (v : List PinBits) (w : List Bool). v ++ record { ins = w; outs = reply.0 } ∷ []) (sym e) (sym f)) reply.2))

    pub agrees_at : SomeChoicesSuit spec imp → AllRight spec imp x bits
    agrees_at choices =
        let suit = follow imp.boxes [] refl choices in
        let led : all_ins imp.boxes bits ≡ map (λ (c : PinBits). c.ins) (map (bits_at bits) imp.boxes) = sym (map-twice (bits_at bits) (λ (c : PinBits). c.ins) imp.boxes) in
        subst (AllRight spec imp x) (sym same) (suit x vector (ap (all_ins imp.boxes) (sym same) ∙ led))

  pub agrees : SomeChoicesSuit spec imp → TablesMakeEquivalent spec imp tables
  agrees choices x vector = agrees_at x vector choices
