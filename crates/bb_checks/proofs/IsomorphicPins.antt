-- Nets that are alike have the same bits at all pins of their boxes, so a box of the one sees there what it sees in the other.
use Rattle.std.proofs.Common.{◌≡◌, ℕ, zero, suc, ◌<◌, Bool, List, [], ◌∷◌, length, map, take, refl, ap, subst, sym, ◌∙◌, arith}
use Rattle.std.specs.Prelude.{All, Contains, slice_index}
use Rattle.std.specs.List.{AllZip}
use Rattle.std.proofs.lemmas.Grind.{get_or_default_zero}
use Rattle.std.proofs.lemmas.List.Elements.{All-nil, All-cons, All-head, All-tail}
use Rattle.bb_lemmas.proofs.Members.{all_from}
use Rattle.bb_lemmas.proofs.Zips.{zip_append}
use Rattle.bb_net.specs.declared.cell.Cell.{Cell}
use Rattle.bb_net.specs.Conditions.{PinBits}
use Rattle.bb_net.specs.Netlists.{Netlist, Pins, IsNetlist, box_at}
use Rattle.bb_net.specs.Values.{bit_of, flat, free_bit}
use Rattle.bb_iso.specs.Laws.Isomorphism.{AreIsomorphic}
use Rattle.bb_iso.specs.Laws.Formulas.{formula_at, pin_formulas}
use Rattle.bb_iso.specs.Laws.{IsomorphicCellsHaveOneBit}
use Rattle.bb_nest.specs.Nested.{AreNested, AreSame, Sees, pin_cells}
use Rattle.bb_nest.specs.Rows.{IsSeenFirst, SeesBit, SeesBits, SeesEarlier}
use Rattle.bb_checks.proofs.IsomorphicBits.{free_isomorphic}
use Rattle.bb_checks.proofs.IsomorphicBoxes.{AreAsMany, box_count_isomorphic, output_pins_isomorphic}

-- a cell of the one net has the bit of a cell of the other, at each vector and for all bits that boxes give
abbrev pub HaveOneBit : Netlist → Netlist → ℕ → ℕ → Type 0
HaveOneBit a b k m = (x z : List Bool) → bit_of (flat a x z) k ≡ bit_of (flat b x z) m

pub record ShareBox (a b : Netlist) (p q : Pins) : Type 0 where
  pub ins : AllZip (HaveOneBit a b) p.ins q.ins
  pub outs : AllZip (HaveOneBit a b) p.outs q.outs

abbrev pub SharePins : Netlist → Netlist → Type 0
SharePins a b = AllZip (ShareBox a b) a.boxes b.boxes

-- places with the same formulas, where places with one formula are related
module _ (P Q : ℕ → Type 0) (cells others : List Cell) (R : ℕ → ℕ → Type 0) (same : (k m : ℕ) → P k → Q m → formula_at cells k ≡ formula_at others m → R k m) where
  places_share : (xs ys : List ℕ) → All P xs → All Q ys → map (formula_at cells) xs ≡ map (formula_at others) ys → AllZip R xs ys
  places_share [] [] ps qs e = tt
  places_share [] (y ∷ ys) ps qs e = cc
  places_share (x ∷ xs) [] ps qs e = cc
  places_share (x ∷ xs) (y ∷ ys) ps qs e =
      let first : formula_at cells x ≡ formula_at others y = cc in
      let rest : map (formula_at cells) xs ≡ map (formula_at others) ys = cc in
      (same x y (All-head P x xs ps) (All-head Q y ys qs) first, places_share xs ys (All-tail P x xs ps) (All-tail Q y ys qs) rest)

module _ (a b : Netlist) (one : IsNetlist a) (other : IsNetlist b) (alike : AreIsomorphic a b) (bits : IsomorphicCellsHaveOneBit) where
  abbrev In : Netlist → ℕ → Type 0
  In net k = k < length net.cells

  share_cells : (k m : ℕ) → In a k → In b m → formula_at a.cells k ≡ formula_at b.cells m → HaveOneBit a b k m
  share_cells k m here there same = λ x z. bits a b one other alike x (free_bit a.boxes z) (free_bit b.boxes z) (free_isomorphic a b one other alike z) k m here there same

  outs_in : (net : Netlist) → IsNetlist net → (c : ℕ) → All (In net) (box_at net.boxes c).outs
  outs_in net kept c = all_from (In net) (box_at net.boxes c).outs (λ place (p, l, e).
      (kept.driven c p place (l, sym (get_or_default_zero (box_at net.boxes c).outs p place l) ∙ e)).0)

  boxes_share : (ps qs : List Pins) → ((c : ℕ) → All (In a) (box_at ps c).ins) → ((c : ℕ) → All (In b) (box_at qs c).ins)
      → ((c : ℕ) → All (In a) (box_at ps c).outs) → ((c : ℕ) → All (In b) (box_at qs c).outs)
      → map (pin_formulas a.cells) ps ≡ map (pin_formulas b.cells) qs → AllZip (ShareBox a b) ps qs
  boxes_share [] [] ai bi ao bo e = tt
  boxes_share [] (q ∷ qs) ai bi ao bo e = cc
  boxes_share (p ∷ ps) [] ai bi ao bo e = cc
  boxes_share (p ∷ ps) (q ∷ qs) ai bi ao bo e =
      let first : pin_formulas a.cells p ≡ pin_formulas b.cells q = cc in
      let rest : map (pin_formulas a.cells) ps ≡ map (pin_formulas b.cells) qs = cc in (
        record {
          ins = places_share (In a) (In b) a.cells b.cells (HaveOneBit a b) share_cells p.ins q.ins (ai 0) (bi 0) (ap (λ f. f.ins) first);
          outs = places_share (In a) (In b) a.cells b.cells (HaveOneBit a b) share_cells p.outs q.outs (ao 0) (bo 0) (ap (λ f. f.outs) first);
        },
        boxes_share ps qs (λ c. ai (suc c)) (λ c. bi (suc c)) (λ c. ao (suc c)) (λ c. bo (suc c)) rest,
      )

  pub share_pins : SharePins a b
  share_pins = boxes_share a.boxes b.boxes one.pins_there other.pins_there (outs_in a one) (outs_in b other) alike.boxes

-- elements that are related, one to one
module _ {X Y : Type 0} (R : X → Y → Type 0) where
  pub partner : (xs : List X) (ys : List Y) → AllZip R xs ys → (x : X) → Contains xs x → (y : Y) × Contains ys y × R x y
  partner [] ys zip x (k, l, e) = absurd (omega (arith, l))
  partner (x ∷ xs) [] zip u at = absurd zip
  partner (x ∷ xs) (y ∷ ys) zip u (zero, l, e) = (y, (0, omega arith, refl), subst (λ v. R v y) e zip.0)
  partner (x ∷ xs) (y ∷ ys) zip u (suc k, l, e) =
      let found = partner xs ys zip.1 u (k, omega (arith, l), e) in
      let at = found.1 in
      (found.0, (suc at.0, omega (arith, at.1), at.2), found.2)

  pub zip_take : (n : ℕ) (xs : List X) (ys : List Y) → AllZip R xs ys → AllZip R (take n xs) (take n ys)
  zip_take zero xs ys zip = tt
  zip_take (suc n) [] [] zip = tt
  zip_take (suc n) [] (y ∷ ys) zip = absurd zip
  zip_take (suc n) (x ∷ xs) [] zip = absurd zip
  zip_take (suc n) (x ∷ xs) (y ∷ ys) zip = (zip.0, zip_take n xs ys zip.1)

pub zip_numbers : (R : ℕ → ℕ → Type 0) (xs ys : List ℕ) → AllZip R xs ys → (p : ℕ) → p < length xs → R (slice_index xs p) (slice_index ys p)
zip_numbers R [] ys zip p l = absurd (omega (arith, l))
zip_numbers R (x ∷ xs) [] zip p l = absurd zip
zip_numbers R (x ∷ xs) (y ∷ ys) zip zero l = zip.0
zip_numbers R (x ∷ xs) (y ∷ ys) zip (suc p) l = zip_numbers R xs ys zip.1 p (omega (arith, l))

pub zip_back : (a b : Netlist) (xs ys : List ℕ) → AllZip (HaveOneBit a b) xs ys → AllZip (HaveOneBit b a) ys xs
zip_back a b [] [] zip = tt
zip_back a b [] (y ∷ ys) zip = absurd zip
zip_back a b (x ∷ xs) [] zip = absurd zip
zip_back a b (x ∷ xs) (y ∷ ys) zip = ((λ u z. sym (zip.0 u z)), zip_back a b xs ys zip.1)

pub share_at : (a b : Netlist) (ps qs : List Pins) → AllZip (ShareBox a b) ps qs → (c : ℕ) → ShareBox a b (box_at ps c) (box_at qs c)
share_at a b [] [] zip c = record { ins = tt; outs = tt }
share_at a b [] (q ∷ qs) zip c = absurd zip
share_at a b (p ∷ ps) [] zip c = absurd zip
share_at a b (p ∷ ps) (q ∷ qs) zip zero = zip.0
share_at a b (p ∷ ps) (q ∷ qs) zip (suc c) = share_at a b ps qs zip.1 c

-- what is the same in the one net is so in the other
module _ (a b : Netlist) (inputs : a.inputs ≡ b.inputs) (many : AreAsMany a.boxes b.boxes) (pins : SharePins a b) where
  same_isomorphic : (k l m n : ℕ) → HaveOneBit a b k m → HaveOneBit a b l n → AreSame a k l → AreSame b m n
  same_isomorphic k l m n one other same = λ x z long whole. sym (one x z) ∙ same x z (long ∙ sym inputs) (whole ∙ sym (output_pins_isomorphic a.boxes b.boxes many)) ∙ other x z

  same_back : (k l m n : ℕ) → HaveOneBit a b k m → HaveOneBit a b l n → AreSame b m n → AreSame a k l
  same_back k l m n one other same = λ x z long whole. one x z ∙ same x z (long ∙ inputs) (whole ∙ output_pins_isomorphic a.boxes b.boxes many) ∙ sym (other x z)

  sees_isomorphic : (p q : Pins) → ShareBox a b p q → (k m : ℕ) → HaveOneBit a b k m → Sees a p k → Sees b q m
  sees_isomorphic p q share k m one (seen, there, same) =
      let found = partner (HaveOneBit a b) p.ins q.ins share.ins seen there in
      (found.0, found.1, same_isomorphic seen k found.0 m found.2 one same)

  all_seen : (p q : Pins) → ShareBox a b p q → (ks ms : List ℕ) → AllZip (HaveOneBit a b) ks ms → All (Sees a p) ks → All (Sees b q) ms
  all_seen p q share [] [] zip all = All-nil _
  all_seen p q share [] (m ∷ ms) zip all = absurd zip
  all_seen p q share (k ∷ ks) [] zip all = absurd zip
  all_seen p q share (k ∷ ks) (m ∷ ms) zip all =
      All-cons (Sees b q) m ms (sees_isomorphic p q share k m zip.0 (All-head (Sees a p) k ks all)) (all_seen p q share ks ms zip.1 (All-tail (Sees a p) k ks all))

  pub nested_isomorphic : (kinds : List ℕ) → AreNested a kinds → AreNested b kinds
  nested_isomorphic kinds nested = record {
    apart = nested.apart;
    seen = λ c d before there.
        let here = share_at a b a.boxes b.boxes pins c in
        all_seen (box_at a.boxes d) (box_at b.boxes d) (share_at a b a.boxes b.boxes pins d) (pin_cells (box_at a.boxes c)) (pin_cells (box_at b.boxes c))
        (zip_append (HaveOneBit a b) (box_at a.boxes c).ins (box_at b.boxes c).ins (box_at a.boxes c).outs (box_at b.boxes c).outs here.ins here.outs)
        (nested.seen c d before (omega (arith, there, box_count_isomorphic a.boxes b.boxes many)));
  }

  -- the first input pin that is the same as a cell
  first_isomorphic : (p q : Pins) → length p.ins ≡ length q.ins → ShareBox a b p q → (k m : ℕ) → HaveOneBit a b k m → (i : ℕ) → IsSeenFirst a p k i → IsSeenFirst b q m i
  first_isomorphic p q long share k m one i h =
      let at = zip_numbers (HaveOneBit a b) p.ins q.ins share.ins in
      record {
        there = omega (arith, h.there, long);
        same = same_isomorphic (slice_index p.ins i) k (slice_index q.ins i) m (at i h.there) one h.same;
        first = λ j before same. h.first j before (same_back (slice_index p.ins j) k (slice_index q.ins j) m (at j (omega (arith, before, h.there))) one same);
      }

  bits_seen : (p q : Pins) → length p.ins ≡ length q.ins → ShareBox a b p q → (ins : List Bool) (ks ms : List ℕ) (bits : List Bool) → AllZip (HaveOneBit a b) ks ms
      → AllZip (SeesBit a p ins) ks bits → AllZip (SeesBit b q ins) ms bits
  bits_seen p q long share ins [] [] [] zip seen = tt
  bits_seen p q long share ins [] [] (bit ∷ bits) zip seen = absurd seen
  bits_seen p q long share ins [] (m ∷ ms) bits zip seen = absurd zip
  bits_seen p q long share ins (k ∷ ks) [] bits zip seen = absurd zip
  bits_seen p q long share ins (k ∷ ks) (m ∷ ms) [] zip seen = absurd seen
  bits_seen p q long share ins (k ∷ ks) (m ∷ ms) (bit ∷ bits) zip seen =
      let (i, first, is) = seen.0 in
      ((i, first_isomorphic p q long share k m zip.0 i first, is), bits_seen p q long share ins ks ms bits zip.1 seen.1)

  boxes_seen : (p q : Pins) → length p.ins ≡ length q.ins → ShareBox a b p q → (ins : List Bool) (ps qs : List Pins) (earlier : List PinBits) → AllZip (ShareBox a b) ps qs
      → AllZip (SeesBits a p ins) ps earlier → AllZip (SeesBits b q ins) qs earlier
  boxes_seen p q long share ins [] [] [] zip seen = tt
  boxes_seen p q long share ins [] [] (bits ∷ earlier) zip seen = absurd seen
  boxes_seen p q long share ins [] (v ∷ qs) earlier zip seen = absurd zip
  boxes_seen p q long share ins (u ∷ ps) [] earlier zip seen = absurd zip
  boxes_seen p q long share ins (u ∷ ps) (v ∷ qs) [] zip seen = absurd seen
  boxes_seen p q long share ins (u ∷ ps) (v ∷ qs) (bits ∷ earlier) zip seen = (
    record {
      ins = bits_seen p q long share ins u.ins v.ins bits.ins zip.0.ins seen.0.ins;
      outs = bits_seen p q long share ins u.outs v.outs bits.outs zip.0.outs seen.0.outs;
    },
    boxes_seen p q long share ins ps qs earlier zip.1 seen.1,
  )

  pub earlier_isomorphic : (c : ℕ) → length (box_at a.boxes c).ins ≡ length (box_at b.boxes c).ins → (ins : List Bool) (earlier : List PinBits) → SeesEarlier a c ins earlier → SeesEarlier b c ins earlier
  earlier_isomorphic c long ins earlier seen =
      boxes_seen (box_at a.boxes c) (box_at b.boxes c) long (share_at a b a.boxes b.boxes pins c) ins (take c a.boxes) (take c b.boxes) earlier
      (zip_take (ShareBox a b) c a.boxes b.boxes pins) seen
