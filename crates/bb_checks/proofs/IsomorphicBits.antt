-- Nets that are alike have the same bits at their outputs and at the input pins of their boxes, and each cell of the one has its
-- bits in the other.
use Rattle.std.proofs.Common.{◌≡◌, ℕ, suc, ◌+◌, ◌<◌, Bool, List, [], ◌∷◌, ◌++◌, length, map, take, get_or, refl, sym, ap, ap₂, ◌∙◌, arith}
use Rattle.std.specs.Prelude.{All, slice_index}
use Rattle.std.proofs.lemmas.List.{get_or-map, length-map, map-append}
use Rattle.std.proofs.lemmas.List.Elements.{All-append, All-head, All-nil, All-tail}
use Rattle.bb_bits.specs.Tables.{TableBits}
use Rattle.bb_net.specs.declared.cell.Cell.{Cell}
use Rattle.bb_net.specs.Equivalence.{out_bit}
use Rattle.bb_net.specs.Conditions.{all_ins}
use Rattle.bb_net.specs.Netlists.{Netlist, Pins, IsNetlist, box_at}
use Rattle.bb_net.specs.Ternary.{tern, tern_of}
use Rattle.bb_net.specs.Values.{bit_of, flat, flat_with, free_bit, tabled_bit, value_of}
use Rattle.bb_input.specs.InputFunctions.{in_places}
use Rattle.bb_iso.specs.Laws.Isomorphism.{AreIsomorphic}
use Rattle.bb_iso.specs.Laws.Formulas.{formula_at, pin_formulas}
use Rattle.bb_iso.specs.Laws.{IsomorphicCellsHaveOneBit, IsomorphicCellsAreKnownTheSame}
use Rattle.bb_checks.specs.Inside.IsomorphismLaws.{BitLaws}
use Rattle.bb_checks.proofs.IsomorphicBoxes.{AreAsMany, as_many, first_boxes_isomorphic, output_pins_isomorphic}

-- what nets that are alike share
pub record ShareBits (a b : Netlist) : Type 0 where
  pub inputs : a.inputs ≡ b.inputs
  pub boxes : AreAsMany a.boxes b.boxes
  pub outputs : length a.outs ≡ length b.outs
  pub out_bits : (x z : List Bool) (j : ℕ) → j < length a.outs → out_bit a (flat a x z) j ≡ out_bit b (flat b x z) j
  pub tabled_bits : (x : List Bool) (tables : List TableBits) (j : ℕ) → j < length a.outs → out_bit a (flat_with a x tables) j ≡ out_bit b (flat_with b x tables) j
  pub in_bits : (x z : List Bool) (i : ℕ) → i < length (in_places a.boxes)
      → bit_of (flat a x z) (slice_index (in_places a.boxes) i) ≡ bit_of (flat b x z) (slice_index (in_places b.boxes) i)
  pub box_bits : (x z : List Bool) → all_ins a.boxes (flat a x z) ≡ all_ins b.boxes (flat b x z)
  pub cells : (k : ℕ) → k < length a.cells → (m : ℕ) × (m < length b.cells) × ((x z : List Bool) → bit_of (flat a x z) k ≡ bit_of (flat b x z) m)

pub at_same : {F : Type 0} (f g : ℕ → F) (xs ys : List ℕ) → map f xs ≡ map g ys → (j : ℕ) → j < length xs → f (slice_index xs j) ≡ g (slice_index ys j)
at_same f g xs ys e j l =
    let other : j < length ys = omega (arith, l, ap length e, length-map xs f, length-map ys g) in
    sym (get_or-map f xs j 0 (f 0) l) ∙ ap (λ fs. get_or fs j (f 0)) e ∙ get_or-map g ys j 0 (f 0) other

-- where places with one formula have one value, places with the same formulas have the same values
map_isomorphic : {F X : Type 0} (P Q : ℕ → Type 0) (f g : ℕ → F) (u v : ℕ → X) → ((k m : ℕ) → P k → Q m → f k ≡ g m → u k ≡ v m)
    → (xs ys : List ℕ) → All P xs → All Q ys → map f xs ≡ map g ys → map u xs ≡ map v ys
map_isomorphic P Q f g u v same [] [] ps qs e = refl
map_isomorphic P Q f g u v same [] (y ∷ ys) ps qs e = cc
map_isomorphic P Q f g u v same (x ∷ xs) [] ps qs e = cc
map_isomorphic P Q f g u v same (x ∷ xs) (y ∷ ys) ps qs e =
    let first : f x ≡ g y = cc in
    let rest : map f xs ≡ map g ys = cc in
    ap₂ (λ t ts. t ∷ ts) (same x y (All-head P x xs ps) (All-head Q y ys qs) first)
    (map_isomorphic P Q f g u v same xs ys (All-tail P x xs ps) (All-tail Q y ys qs) rest)

-- the cells at the input pins of all boxes
places_there : (P : ℕ → Type 0) (boxes : List Pins) → ((b : ℕ) → All P (box_at boxes b).ins) → All P (in_places boxes)
places_there P [] there = All-nil P
places_there P (box ∷ boxes) there = All-append P box.ins (in_places boxes) (there 0) (places_there P boxes (λ b. there (suc b)))

module _ (cells others : List Cell) where
  place_formulas : (ps qs : List Pins) → map (pin_formulas cells) ps ≡ map (pin_formulas others) qs → map (formula_at cells) (in_places ps) ≡ map (formula_at others) (in_places qs)
  place_formulas [] [] e = refl
  place_formulas [] (q ∷ qs) e = cc
  place_formulas (p ∷ ps) [] e = cc
  place_formulas (p ∷ ps) (q ∷ qs) e =
      let first : pin_formulas cells p ≡ pin_formulas others q = cc in
      let rest : map (pin_formulas cells) ps ≡ map (pin_formulas others) qs = cc in
      map-append (formula_at cells) p.ins (in_places ps)
      ∙ ap₂ (λ fs gs. fs ++ gs) (ap (λ f. f.ins) first) (place_formulas ps qs rest)
      ∙ sym (map-append (formula_at others) q.ins (in_places qs))

  -- the bits at the input pins, box by box
  boxes_bits : (P Q : ℕ → Type 0) (u v : ℕ → Bool) → ((k m : ℕ) → P k → Q m → formula_at cells k ≡ formula_at others m → u k ≡ v m)
      → (ps qs : List Pins) → ((b : ℕ) → All P (box_at ps b).ins) → ((b : ℕ) → All Q (box_at qs b).ins)
      → map (pin_formulas cells) ps ≡ map (pin_formulas others) qs → map (λ (pins : Pins). map u pins.ins) ps ≡ map (λ (pins : Pins). map v pins.ins) qs
  boxes_bits P Q u v same [] [] there here e = refl
  boxes_bits P Q u v same [] (q ∷ qs) there here e = cc
  boxes_bits P Q u v same (p ∷ ps) [] there here e = cc
  boxes_bits P Q u v same (p ∷ ps) (q ∷ qs) there here e =
      let first : pin_formulas cells p ≡ pin_formulas others q = cc in
      let rest : map (pin_formulas cells) ps ≡ map (pin_formulas others) qs = cc in
      ap₂ (λ t ts. t ∷ ts) (map_isomorphic P Q (formula_at cells) (formula_at others) u v same p.ins q.ins (there 0) (here 0) (ap (λ f. f.ins) first))
      (boxes_bits P Q u v same ps qs (λ b. there (suc b)) (λ b. here (suc b)) rest)

module _ (a b : Netlist) (one : IsNetlist a) (other : IsNetlist b) (alike : AreIsomorphic a b) where
  pub boxes_as_many : AreAsMany a.boxes b.boxes
  boxes_as_many = as_many a.cells b.cells a.boxes b.boxes alike.boxes

  pub free_isomorphic : (z : List Bool) (c p : ℕ) (ins : List Bool) → free_bit a.boxes z c p ins ≡ free_bit b.boxes z c p ins
  free_isomorphic z c p ins = ap (λ n. bit_of z (n + p)) (output_pins_isomorphic (take c a.boxes) (take c b.boxes) (first_boxes_isomorphic a.boxes b.boxes boxes_as_many c))

  -- boxes that give the same
  module _ (bits : IsomorphicCellsHaveOneBit) (x : List Bool) (f g : ℕ → ℕ → List Bool → Bool) (gives : (c p : ℕ) (ins : List Bool) → f c p ins ≡ g c p ins) where
    one_bit : (k m : ℕ) → k < length a.cells → m < length b.cells → formula_at a.cells k ≡ formula_at b.cells m → bit_of (value_of a x f) k ≡ bit_of (value_of b x g) m
    one_bit k m here there same = bits a b one other alike x f g gives k m here there same

    outs_isomorphic : (j : ℕ) → j < length a.outs → out_bit a (value_of a x f) j ≡ out_bit b (value_of b x g) j
    outs_isomorphic j l = at_same (bit_of (value_of a x f)) (bit_of (value_of b x g)) a.outs b.outs
        (map_isomorphic (λ k. k < length a.cells) (λ k. k < length b.cells) (formula_at a.cells) (formula_at b.cells) (bit_of (value_of a x f)) (bit_of (value_of b x g)) one_bit
        a.outs b.outs one.outs_there other.outs_there alike.outs) j l

    ins_isomorphic : map (bit_of (value_of a x f)) (in_places a.boxes) ≡ map (bit_of (value_of b x g)) (in_places b.boxes)
    ins_isomorphic = map_isomorphic (λ k. k < length a.cells) (λ k. k < length b.cells) (formula_at a.cells) (formula_at b.cells) (bit_of (value_of a x f)) (bit_of (value_of b x g)) one_bit
        (in_places a.boxes) (in_places b.boxes)
        (places_there (λ k. k < length a.cells) a.boxes one.pins_there) (places_there (λ k. k < length b.cells) b.boxes other.pins_there)
        (place_formulas a.cells b.cells a.boxes b.boxes alike.boxes)

    box_bits_isomorphic : all_ins a.boxes (value_of a x f) ≡ all_ins b.boxes (value_of b x g)
    box_bits_isomorphic = boxes_bits a.cells b.cells (λ k. k < length a.cells) (λ k. k < length b.cells) (bit_of (value_of a x f)) (bit_of (value_of b x g)) one_bit
        a.boxes b.boxes one.pins_there other.pins_there alike.boxes

  pub share_bits : BitLaws → ShareBits a b
  share_bits laws = record {
    inputs = alike.inputs;
    boxes = boxes_as_many;
    outputs = sym (length-map a.outs (formula_at a.cells)) ∙ ap length alike.outs ∙ length-map b.outs (formula_at b.cells);
    out_bits = λ x z. outs_isomorphic laws.bits x (free_bit a.boxes z) (free_bit b.boxes z) (free_isomorphic z);
    tabled_bits = λ x tables. outs_isomorphic laws.bits x (tabled_bit tables) (tabled_bit tables) (λ c p ins. refl);
    in_bits = λ x z i l. at_same (bit_of (flat a x z)) (bit_of (flat b x z)) (in_places a.boxes) (in_places b.boxes) (ins_isomorphic laws.bits x (free_bit a.boxes z) (free_bit b.boxes z) (free_isomorphic z)) i l;
    box_bits = λ x z. box_bits_isomorphic laws.bits x (free_bit a.boxes z) (free_bit b.boxes z) (free_isomorphic z);
    cells = λ k l.
        let found = laws.cells a b one other alike k l in
        (found.0, found.1, λ x z. one_bit laws.bits x (free_bit a.boxes z) (free_bit b.boxes z) (free_isomorphic z) k found.0 l found.1 found.2);
  }

  -- an output has one value where boxes are unknown
  pub known_outputs : IsomorphicCellsAreKnownTheSame → (x : List Bool) (j : ℕ) → j < length a.outs → tern_of (tern a x) (slice_index a.outs j) ≡ tern_of (tern b x) (slice_index b.outs j)
  known_outputs known x j l = at_same (tern_of (tern a x)) (tern_of (tern b x)) a.outs b.outs
      (map_isomorphic (λ k. k < length a.cells) (λ k. k < length b.cells) (formula_at a.cells) (formula_at b.cells) (tern_of (tern a x)) (tern_of (tern b x))
      (λ k m here there same. known a b one other alike x k m here there same) a.outs b.outs one.outs_there other.outs_there alike.outs) j l
