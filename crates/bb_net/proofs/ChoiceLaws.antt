-- Laws of the choices of box outputs, box by box.
use Rattle.std.proofs.Common.{◌≡◌, ℕ, ◌+◌, ◌<◌, zero, suc, Bool, false, not, List, [], ◌∷◌, ◌++◌, length, map, take, refl, sym, ap, ap₂, subst, ◌∙◌, inl, inr, arith, length-append}
use Rattle.std.specs.Prelude.{Contains}
use Rattle.std.proofs.lemmas.Bool.{cases_lt}
use Rattle.std.proofs.lemmas.List.{append-nil, append_assoc, get_or_at, take_at, map-append, get_or_append_left, length-map}
use Rattle.std.proofs.lemmas.List.Concat.{flat_map-append}
use Rattle.std.proofs.lemmas.List.Sums.{sum_by-cons, sum_by_push}
use Rattle.std.proofs.lemmas.List.Elements.{All-contains}
use Rattle.bb_net.specs.declared.cell.Cell.{Cell}
use Rattle.bb_net.specs.declared.cell.Cell.TheVariants.{Const, Input, Not, And, Or, Xor, Mux, BoxOut}
use Rattle.bb_net.specs.Netlists.{Netlist, Pins, cell_at, box_at, reads_of, ReadsInSteps, DependsOn, IsNetlist}
use Rattle.bb_net.specs.Values.{bit_of, gate, flat, free_bit, output_pins}
use Rattle.bb_net.specs.Equivalence.{IsVector, AreBoxOutputs, AllRight}
use Rattle.bb_net.specs.Conditions.{SomeAlwaysWrong, AllRightTogether, PinBits, all_outs, all_ins, ChoicesSuit, InputsHaveOutputs, SomeChoicesSuit, NoChoicesSuit}
use Rattle.bb_net.proofs.BuildLemmas.{reads_before}
use Rattle.bb_net.proofs.ValueLaws.{value_exists_lem}

map_agree : (v w : ℕ → Bool) (xs : List ℕ) → ((k : ℕ) → Contains xs k → v k ≡ w k) → map v xs ≡ map w xs
map_agree v w [] same = refl
map_agree v w (x ∷ xs) same =
    let first = same x (0, omega arith, refl) in
    let rest = map_agree v w xs (λ k has. same k (suc has.0, omega (arith, has.1), has.2)) in
    cc

-- a cell's bit is a function of the bits of the places that it reads
gate_reads : (boxes : List Pins) (x : List Bool) (f g : ℕ → ℕ → List Bool → Bool) (v w : ℕ → Bool) (c : Cell) → ((k : ℕ) → Contains (reads_of boxes c) k → v k ≡ w k) → ((b p : ℕ) → c ≡ BoxOut b p → (ins : List Bool) → f b p ins ≡ g b p ins) → gate boxes x f v c ≡ gate boxes x g w c
gate_reads boxes x f g v w (Const b) same box = refl
gate_reads boxes x f g v w (Input i) same box = refl
gate_reads boxes x f g v w (Not a) same box = ap not (same a (0, omega arith, refl))
gate_reads boxes x f g v w (And a b) same box = let p = same a (0, omega arith, refl) in let q = same b (1, omega arith, refl) in cc
gate_reads boxes x f g v w (Or a b) same box = let p = same a (0, omega arith, refl) in let q = same b (1, omega arith, refl) in cc
gate_reads boxes x f g v w (Xor a b) same box = let p = same a (0, omega arith, refl) in let q = same b (1, omega arith, refl) in cc
gate_reads boxes x f g v w (Mux c t e) same box = let p = same c (0, omega arith, refl) in let q = same t (1, omega arith, refl) in let r = same e (2, omega arith, refl) in cc
gate_reads boxes x f g v w (BoxOut b p) same box = let ins = map_agree v w (box_at boxes b).ins same in ap (f b p) ins ∙ box b p refl (map w (box_at boxes b).ins)

-- one step more
ReadsInSteps-step : (n : ℕ) (cells : List Cell) (boxes : List Pins) (from to next : ℕ) → ReadsInSteps n cells boxes from to → Contains (reads_of boxes (cell_at cells to)) next → ReadsInSteps (suc n) cells boxes from next
ReadsInSteps-step zero cells boxes from to next e has = (next, subst (λ k. Contains (reads_of boxes (cell_at cells k)) next) (sym e) has, refl)
ReadsInSteps-step (suc n) cells boxes from to next h has = (h.0, h.1, ReadsInSteps-step n cells boxes h.0 to next h.2 has)

-- the output pins of a box precede those of a later one
pins_before : (boxes : List Pins) (c b p : ℕ) → c < b → p < length (box_at boxes c).outs → output_pins (take c boxes) + p < output_pins (take b boxes)
pins_before [] c b p h q = absurd (omega (arith, q))
pins_before (pins ∷ boxes) c zero p h q = absurd (omega arith)
pins_before (pins ∷ boxes) zero (suc b) p h q = omega (arith, sum_by-cons (λ (pins : Pins). length pins.outs) pins (take b boxes))
pins_before (pins ∷ boxes) (suc c) (suc b) p h q =
    let rest = pins_before boxes c b p (omega arith) q in
    omega (arith, rest, sum_by-cons (λ (pins : Pins). length pins.outs) pins (take c boxes), sum_by-cons (λ (pins : Pins). length pins.outs) pins (take b boxes))

-- the value at a place on which an input pin of box b depends is settled by the outputs of the boxes before b
settled : (net : Netlist) → IsNetlist net → (x z y : List Bool) (b pin : ℕ) → Contains (box_at net.boxes b).ins pin
    → ((k : ℕ) → k < output_pins (take b net.boxes) → bit_of z k ≡ bit_of y k)
    → (bound place : ℕ) → place < bound → place < length net.cells → DependsOn net.cells net.boxes pin place → bit_of (flat net x z) place ≡ bit_of (flat net x y) place
settled net kept x z y b pin has same zero place small there dep = absurd (omega arith)
settled net kept x z y b pin has same (suc bound) place small there dep =
    let one = value_exists_lem net x (free_bit net.boxes z) kept.ordered in
    let other = value_exists_lem net x (free_bit net.boxes y) kept.ordered in
    let c = cell_at net.cells place in
    let below = reads_before net.inputs net.boxes place c (kept.ordered place there) in
    let reads : (k : ℕ) → Contains (reads_of net.boxes c) k → bit_of (flat net x z) k ≡ bit_of (flat net x y) k = λ k read.
    let lower : k < place = All-contains (λ k. k < place) _ k below read in
    settled net kept x z y b pin has same bound k (omega arith) (omega arith) (suc dep.0, ReadsInSteps-step dep.0 net.cells net.boxes pin place k dep.1 read) in
    let pins : (d p : ℕ) → c ≡ BoxOut d p → (ins : List Bool) → free_bit net.boxes z d p ins ≡ free_bit net.boxes y d p ins = λ d p is ins.
    elim (cases_lt d b) [
      | inl earlier ↦ same (output_pins (take d net.boxes) + p) (pins_before net.boxes d b p earlier (kept.listed place d p there is).0)
      | inr later ↦ absurd (kept.boxes_ordered b d p pin place later has dep is)
    ] in
    one.each place there
    ∙ gate_reads net.boxes x (free_bit net.boxes z) (free_bit net.boxes y) (bit_of (flat net x z)) (bit_of (flat net x y)) c reads pins
    ∙ sym (other.each place there)

-- the bits at the input pins of box b are settled by the outputs of the boxes before it
ins_settled : (net : Netlist) → IsNetlist net → (x z y : List Bool) (b : ℕ) → ((k : ℕ) → k < output_pins (take b net.boxes) → bit_of z k ≡ bit_of y k)
    → map (bit_of (flat net x z)) (box_at net.boxes b).ins ≡ map (bit_of (flat net x y)) (box_at net.boxes b).ins
ins_settled net kept x z y b same = map_agree _ _ (box_at net.boxes b).ins (λ pin has.
    let there = All-contains (λ k. k < length net.cells) _ pin (kept.pins_there b) has in
    settled net kept x z y b pin has same (suc pin) pin (omega arith) there (0, refl))

-- at the vector x the chosen inputs of the first boxes are the bits at their pins, whatever the later boxes' outputs are
record IsPlayed (net : Netlist) (x : List Bool) (done : List Pins) (chosen : List PinBits) : Type 0 where
  pub widths : length (all_outs chosen) ≡ output_pins done
  pub leads : (more : List Bool) → all_ins done (flat net x (all_outs chosen ++ more)) ≡ map (λ (bits : PinBits). bits.ins) chosen

IsPlayed-more : (net : Netlist) → IsNetlist net → (x : List Bool) (done rest : List Pins) (box : Pins) (chosen : List PinBits) (outs : List Bool) → net.boxes ≡ done ++ box ∷ rest → length outs ≡ length box.outs → IsPlayed net x done chosen
    → IsPlayed net x (done ++ box ∷ []) (chosen ++ record { ins = map (bit_of (flat net x (all_outs chosen))) box.ins; outs = outs } ∷ [])
IsPlayed-more net kept x done rest box chosen outs split len played =
    let bits : PinBits = record { ins = map (bit_of (flat net x (all_outs chosen))) box.ins; outs = outs } in
    let here : box_at net.boxes (length done) ≡ box = ap (λ boxes. box_at boxes (length done)) split ∙ get_or_at done box rest _ (length done) refl in
    let prefix : take (length done) net.boxes ≡ done = ap (take (length done)) split ∙ take_at done (box ∷ rest) (length done) refl in
    let all : all_outs (chosen ++ bits ∷ []) ≡ all_outs chosen ++ outs =
    flat_map-append (λ (bits : PinBits). bits.outs) chosen (bits ∷ []) ∙ ap (λ zs. all_outs chosen ++ zs) (append-nil outs) in
    record {
      widths = omega (arith, ap length all, length-append (all_outs chosen) outs, sum_by_push (λ (pins : Pins). length pins.outs) done box, played.widths);
      leads = λ more.
          let longer : all_outs (chosen ++ bits ∷ []) ++ more ≡ all_outs chosen ++ (outs ++ more) = ap (λ zs. zs ++ more) all ∙ append_assoc (all_outs chosen) outs more in
          let z = all_outs chosen ++ (outs ++ more) in
          let same : (k : ℕ) → k < output_pins (take (length done) net.boxes) → bit_of z k ≡ bit_of (all_outs chosen) k = λ k h.
          get_or_append_left (all_outs chosen) (outs ++ more) false k (omega (arith, h, ap output_pins prefix, played.widths)) in
          let ins : map (bit_of (flat net x z)) box.ins ≡ bits.ins = subst (λ (pins : Pins). map (bit_of (flat net x z)) pins.ins ≡ map (bit_of (flat net x (all_outs chosen))) pins.ins) here (ins_settled net kept x z (all_outs chosen) (length done) same) in
          ap (λ zs. all_ins (done ++ box ∷ []) (flat net x zs)) longer
          ∙ map-append (λ (pins : Pins). map (bit_of (flat net x z)) pins.ins) done (box ∷ [])
          ∙ ap₂ ◌++◌ (played.leads (outs ++ more)) (ap (λ i. i ∷ []) ins)
          ∙ sym (map-append (λ (bits : PinBits). bits.ins) chosen (bits ∷ []));
    }

-- where choices suit, each vector has box outputs with which all outputs are right
play : (spec imp : Netlist) → IsNetlist imp → (x : List Bool) → IsVector imp x → (rest done : List Pins) (chosen : List PinBits) → imp.boxes ≡ done ++ rest → IsPlayed imp x done chosen → InputsHaveOutputs (ChoicesSuit spec imp) rest chosen
    → (z : List Bool) × AreBoxOutputs imp z × AllRight spec imp x (flat imp x z)
play spec imp kept x vector [] done chosen split played suits =
    let whole : imp.boxes ≡ done = split ∙ append-nil done in
    let leads = ap (λ boxes. all_ins boxes (flat imp x (all_outs chosen))) whole ∙ ap (λ zs. all_ins done (flat imp x zs)) (sym (append-nil (all_outs chosen))) ∙ played.leads [] in
    (all_outs chosen, played.widths ∙ ap output_pins (sym whole), suits x vector leads)
play spec imp kept x vector (box ∷ rest) done chosen split played wins =
    let ins = map (bit_of (flat imp x (all_outs chosen))) box.ins in
    let answer = wins ins (length-map box.ins _) in
    play spec imp kept x vector rest (done ++ box ∷ []) (chosen ++ record { ins = ins; outs = answer.0 } ∷ [])
    (split ∙ sym (append_assoc done (box ∷ []) rest)) (IsPlayed-more imp kept x done rest box chosen answer.0 split answer.1 played) answer.2

pub choices_serve : (spec imp : Netlist) → IsNetlist imp → SomeChoicesSuit spec imp → AllRightTogether spec imp
choices_serve spec imp kept wins = λ x vector. play spec imp kept x vector imp.boxes [] [] refl (record { widths = refl; leads = λ more. refl }) wins

pub some_is_lost : (spec imp : Netlist) → IsNetlist imp → SomeAlwaysWrong spec imp → NoChoicesSuit spec imp
some_is_lost spec imp kept lost = λ wins.
    let served = choices_serve spec imp kept wins lost.0 lost.1 in
    let wrong = lost.2 served.0 served.1 in
    wrong.2 (served.2 wrong.0 wrong.1)
