-- Two netlists that fit: they have as many inputs and outputs, and their pair has a text for each.
use Rattle.std.proofs.Common.{◌≡◌, ℕ, Bool, ◌+◌, ◌<◌, ◌≤◌, List, [], ◌∷◌, ◌++◌, map, length, All, take, refl, sym, ap, ap₂, subst, ◌∙◌, arith, length-append}
use Rattle.std.specs.Prelude.{slice_get, slice_index, None, Some}
use Rattle.std.specs.List.{AllZip, range_with_len}
use Rattle.std.proofs.lemmas.List.{length-map, map-append, length-take}
use Rattle.std.proofs.lemmas.List.FromFn.{length-range_with_len}
use Rattle.std.proofs.lemmas.List.Sums.{sum_by-cons}
use Rattle.std.proofs.lemmas.Slice.Zip.{AllZip-long}
use Rattle.bb_net.specs.declared.cell.Cell.TheVariants.{Input}
use Rattle.bb_net.specs.declared.pair.OutName.{OutName}
use Rattle.bb_net.specs.Netlists.{Netlist, Pins, first_cells, IsNetlist}
use Rattle.bb_net.specs.Orders.{moved_pins}
use Rattle.bb_net.specs.Kinds.{AreKinds}
use Rattle.bb_net.specs.Pairs.{NetPair, BoxTexts, NamesPins, box_key, pin_count, AreBeside, AreSmall}
use Rattle.bb_net.specs.Rearrangements.{IsRearranged, new_place}
use Rattle.bb_net.specs.declared.flat.Reg.{Reg}
use Rattle.bb_net.specs.Flats.{FlatNet, IsFlat}
use Rattle.bb_net.specs.CutPoints.{CutInput, TopInput, State, CutOutput, TopOutput, NextState, state_texts, cut_inputs, cut_outputs}
use Rattle.bb_match.specs.Refusals.{Box, SpecInput, SpecOutput, ImpInput, SpecRegister, ImpRegister, Fit, Pins as TooManyPins}
use Rattle.bb_match.specs.Inside.Places.{ArePlaces, text_place}
use Rattle.bb_match.specs.Pairing.{Picks, IsPlainPairOf, input_text, output_name}
use Rattle.bb_match.proofs.KindLemmas.{Fitting, kinds_fit}
use Rattle.bb_match.proofs.PlaceLemmas.{place_fits}
use Rattle.bb_match.proofs.PickLemmas.{placed, at_prefix, at_back, picks_both, picks_length, picks_within, one_length}

-- counts

pub input_count : (f : FlatNet) → IsFlat f → length (cut_inputs f) ≡ f.net.inputs
input_count f flat =
    let a : length (map TopInput f.ins) ≡ length f.ins = length-map f.ins TopInput in
    let b : length (map State (state_texts f)) ≡ length (state_texts f) = length-map (state_texts f) State in
    let c : length (state_texts f) ≡ length f.regs = length-map f.regs (λ r. r.text) in
    omega (arith, a, b, c, length-append (map TopInput f.ins) (map State (state_texts f)), flat.named.inputs)

pub output_count : (f : FlatNet) → IsFlat f → length (cut_outputs f) ≡ length f.net.outs
output_count f flat =
    let a : length (map TopOutput f.outs) ≡ length f.outs = length-map f.outs TopOutput in
    let b : length (map NextState (state_texts f)) ≡ length (state_texts f) = length-map (state_texts f) NextState in
    let c : length (state_texts f) ≡ length f.regs = length-map f.regs (λ r. r.text) in
    omega (arith, a, b, c, length-append (map TopOutput f.outs) (map NextState (state_texts f)), flat.named.outputs)

pub same_registers : (spec imp : FlatNet) → IsFlat spec → IsFlat imp → Fit None spec imp → length spec.regs ≡ length imp.regs
same_registers spec imp a b fit =
    let s : length (state_texts spec) ≡ length spec.regs = length-map spec.regs (λ r. r.text) in
    let i : length (state_texts imp) ≡ length imp.regs = length-map imp.regs (λ r. r.text) in
    omega (arith, s, i, one_length (state_texts spec) (state_texts imp) a.apart.regs b.apart.regs (fit SpecRegister) (fit ImpRegister))

pub same_inputs : (spec imp : FlatNet) → IsFlat spec → IsFlat imp → Fit None spec imp → spec.net.inputs ≡ imp.net.inputs
same_inputs spec imp a b fit =
    omega (arith, a.named.inputs, b.named.inputs, same_registers spec imp a b fit, one_length spec.ins imp.ins a.apart.ins b.apart.ins (fit SpecInput) (fit ImpInput))

-- counts are small

pub inputs_below : (net : Netlist) → IsNetlist net → net.inputs + 2 ≤ length net.cells
inputs_below net is =
    let cells : length (take (net.inputs + 2) net.cells) ≡ length (first_cells net.inputs) = ap length is.prefix in
    let inputs : length (first_cells net.inputs) ≡ net.inputs + 2 = first_length net.inputs in
    omega (arith, cells, inputs, length-take (net.inputs + 2) net.cells)
  where
    first_length : (n : ℕ) → length (first_cells n) ≡ n + 2
    first_length n =
        let prefix : length (map Input (range_with_len 0 n)) ≡ n = length-map (range_with_len 0 n) Input ∙ length-range_with_len 0 n in
        omega (arith, prefix)

pub ins_below : (f : FlatNet) (bound : ℕ) → IsFlat f → 2000000 < bound → length f.ins + length f.regs < bound
ins_below f bound flat h = omega (arith, h, flat.named.inputs, flat.small.cells, inputs_below f.net flat.net)

pub outs_below : (f : FlatNet) (bound : ℕ) → IsFlat f → 2000000 < bound → length f.outs + length f.regs < bound
outs_below f bound flat h = omega (arith, h, flat.named.outputs, flat.small.outs)

pub ins_fit : (f : FlatNet) (texts : List (List ℕ)) (bound : ℕ) → texts ≡ f.ins → IsFlat f → 2000000 < bound → length texts < bound
ins_fit f texts bound e flat h = omega (arith, ins_below f bound flat h, ap length e)

pub outs_fit : (f : FlatNet) (texts : List (List ℕ)) (bound : ℕ) → texts ≡ f.outs → IsFlat f → 2000000 < bound → length texts < bound
outs_fit f texts bound e flat h = omega (arith, outs_below f bound flat h, ap length e)

pub boxes_fit : (f : FlatNet) (texts : List BoxTexts) (bound : ℕ) → texts ≡ f.boxes → IsFlat f → 2000000 < bound → length texts < bound
boxes_fit f texts bound e flat h = omega (arith, h, ap length e, AllZip-long NamesPins f.boxes f.net.boxes flat.named.boxes, flat.small.boxes)

pub ins_places_fit : (f : FlatNet) (entries : List (List ℕ × ℕ)) (bound : ℕ) → ArePlaces f.ins entries → IsFlat f → 2000000 < bound → (n : List ℕ) → 0 + text_place entries n < bound
ins_places_fit f entries bound places flat h = place_fits f.ins entries 0 bound places (omega (arith, ins_below f bound flat h))

pub outs_places_fit : (f : FlatNet) (entries : List (List ℕ × ℕ)) (bound : ℕ) → ArePlaces f.outs entries → IsFlat f → 2000000 < bound → (n : List ℕ) → 0 + text_place entries n < bound
outs_places_fit f entries bound places flat h = place_fits f.outs entries 0 bound places (omega (arith, outs_below f bound flat h))

pub states_places_fit : (f : FlatNet) (texts : List (List ℕ)) (entries : List (List ℕ × ℕ)) (bound : ℕ) → texts ≡ f.ins → ArePlaces (state_texts f) entries → IsFlat f → 2000000 < bound → (n : List ℕ) → length texts + text_place entries n < bound
states_places_fit f texts entries bound e places flat h =
    let regs : length (state_texts f) ≡ length f.regs = length-map f.regs (λ r. r.text) in
    place_fits (state_texts f) entries (length texts) bound places (omega (arith, ins_below f bound flat h, regs, ap length e))

pub next_places_fit : (f : FlatNet) (texts : List (List ℕ)) (entries : List (List ℕ × ℕ)) (bound : ℕ) → texts ≡ f.outs → ArePlaces (state_texts f) entries → IsFlat f → 2000000 < bound → (n : List ℕ) → length texts + text_place entries n < bound
next_places_fit f texts entries bound e places flat h =
    let regs : length (state_texts f) ≡ length f.regs = length-map f.regs (λ r. r.text) in
    place_fits (state_texts f) entries (length texts) bound places (omega (arith, outs_below f bound flat h, regs, ap length e))

-- inputs of the implementation in the specification, and outputs of the specification in the implementation

pub numbers_picked : (spec imp : FlatNet) (ins regs : List (List ℕ × ℕ)) → ArePlaces spec.ins ins → ArePlaces (state_texts spec) regs → Fit None spec imp
    → Picks (cut_inputs spec) (map (λ text. 0 + text_place ins text) imp.ins ++ map (λ text. length spec.ins + text_place regs text) (state_texts imp)) (cut_inputs imp)
numbers_picked spec imp ins regs at_ins at_regs fit =
    let prefix : List CutInput = map TopInput spec.ins in
    let long : length prefix ≡ length spec.ins = length-map spec.ins TopInput in
    picks_both (cut_inputs spec) (map (λ text. 0 + text_place ins text) imp.ins) (map (λ text. length spec.ins + text_place regs text) (state_texts imp)) (map TopInput imp.ins) (map State (state_texts imp))
    (placed TopInput (cut_inputs spec) 0 spec.ins ins imp.ins at_ins (at_prefix TopInput spec.ins (map State (state_texts spec))) (fit ImpInput))
    (placed State (cut_inputs spec) (length spec.ins) (state_texts spec) regs (state_texts imp) at_regs
    (λ k n e. subst (λ b. slice_get (cut_inputs spec) (b + k) ≡ Some (State n)) long (at_back State prefix (state_texts spec) k n e)) (fit ImpRegister))

pub outputs_picked : (spec imp : FlatNet) (outs regs : List (List ℕ × ℕ)) → ArePlaces imp.outs outs → ArePlaces (state_texts imp) regs → Fit None spec imp
    → Picks (cut_outputs imp) (map (λ text. 0 + text_place outs text) spec.outs ++ map (λ text. length imp.outs + text_place regs text) (state_texts spec)) (cut_outputs spec)
outputs_picked spec imp outs regs at_outs at_regs fit =
    let prefix : List CutOutput = map TopOutput imp.outs in
    let long : length prefix ≡ length imp.outs = length-map imp.outs TopOutput in
    picks_both (cut_outputs imp) (map (λ text. 0 + text_place outs text) spec.outs) (map (λ text. length imp.outs + text_place regs text) (state_texts spec)) (map TopOutput spec.outs) (map NextState (state_texts spec))
    (placed TopOutput (cut_outputs imp) 0 imp.outs outs spec.outs at_outs (at_prefix TopOutput imp.outs (map NextState (state_texts imp))) (fit SpecOutput))
    (placed NextState (cut_outputs imp) (length imp.outs) (state_texts imp) regs (state_texts spec) at_regs
    (λ k n e. subst (λ b. slice_get (cut_outputs imp) (b + k) ≡ Some (NextState n)) long (at_back NextState prefix (state_texts imp) k n e)) (fit SpecRegister))

-- the places of texts in one list, and then of those in another after it
abbrev After : List (List ℕ × ℕ) → List (List ℕ × ℕ) → List (List ℕ) → List (List ℕ) → List (List ℕ) → List ℕ
After first second base these those = map (λ text. 0 + text_place first text) these ++ map (λ text. length base + text_place second text) those

same_after : (first second : List (List ℕ × ℕ)) (base base' these these' those those' : List (List ℕ)) → base ≡ base' → these ≡ these' → those ≡ those' → After first second base these those ≡ After first second base' these' those'
same_after first second base base' these these' those those' b t o =
    ap (λ l. After first second l these those) b ∙ ap (λ l. After first second base' l those) t ∙ ap (λ l. After first second base' these' l) o

pub numbers_made : (spec imp : FlatNet) (ins regs : List (List ℕ × ℕ)) (spec_ins imp_ins reg_texts : List (List ℕ)) (numbers : List ℕ) → ArePlaces spec.ins ins → ArePlaces (state_texts spec) regs → Fit None spec imp
    → spec_ins ≡ spec.ins → imp_ins ≡ imp.ins → reg_texts ≡ state_texts imp → numbers ≡ map (λ text. 0 + text_place ins text) imp_ins ++ map (λ text. length spec_ins + text_place regs text) reg_texts → Picks (cut_inputs spec) numbers (cut_inputs imp)
numbers_made spec imp ins regs spec_ins imp_ins reg_texts numbers at_ins at_regs fit s i r made =
    subst (λ l. Picks (cut_inputs spec) l (cut_inputs imp)) (sym (made ∙ same_after ins regs spec_ins spec.ins imp_ins imp.ins reg_texts (state_texts imp) s i r)) (numbers_picked spec imp ins regs at_ins at_regs fit)

pub picks_made : (spec imp : FlatNet) (outs regs : List (List ℕ × ℕ)) (spec_outs imp_outs reg_texts : List (List ℕ)) (picks : List ℕ) → ArePlaces imp.outs outs → ArePlaces (state_texts imp) regs → Fit None spec imp
    → spec_outs ≡ spec.outs → imp_outs ≡ imp.outs → reg_texts ≡ state_texts spec → picks ≡ map (λ text. 0 + text_place outs text) spec_outs ++ map (λ text. length imp_outs + text_place regs text) reg_texts → Picks (cut_outputs imp) picks (cut_outputs spec)
picks_made spec imp outs regs spec_outs imp_outs reg_texts picks at_outs at_regs fit s i r made =
    subst (λ l. Picks (cut_outputs imp) l (cut_outputs spec)) (sym (made ∙ same_after outs regs imp_outs imp.outs spec_outs spec.outs reg_texts (state_texts spec) i s r)) (outputs_picked spec imp outs regs at_outs at_regs fit)

-- what is asked of a rearrangement

pub numbers_count : (spec imp : FlatNet) (numbers : List ℕ) → IsFlat imp → Picks (cut_inputs spec) numbers (cut_inputs imp) → length numbers ≡ imp.net.inputs
numbers_count spec imp numbers flat picked = picks_length (cut_inputs spec) numbers (cut_inputs imp) picked ∙ input_count imp flat

pub numbers_there : (spec imp : FlatNet) (numbers : List ℕ) → IsFlat spec → IsFlat imp → Fit None spec imp → Picks (cut_inputs spec) numbers (cut_inputs imp) → All (λ n. n < imp.net.inputs) numbers
numbers_there spec imp numbers a b fit picked = subst (λ m. All (λ n. n < m) numbers) (input_count spec a ∙ same_inputs spec imp a b fit) (picks_within (cut_inputs spec) numbers (cut_inputs imp) picked)

pub picks_there : (spec imp : FlatNet) (picks : List ℕ) → IsFlat imp → Picks (cut_outputs imp) picks (cut_outputs spec) → All (λ j. j < length imp.net.outs) picks
picks_there spec imp picks flat picked = subst (λ m. All (λ j. j < m) picks) (output_count imp flat) (picks_within (cut_outputs imp) picks (cut_outputs spec) picked)

-- the texts of a pair

pub ins_texts : (spec : FlatNet) → spec.ins ++ state_texts spec ≡ map input_text (cut_inputs spec)
ins_texts spec = sym (map-append input_text (map TopInput spec.ins) (map State (state_texts spec)) ∙ ap₂ (λ l m. l ++ m) (tops spec.ins) (states (state_texts spec)))
  where
    tops : (xs : List (List ℕ)) → map input_text (map TopInput xs) ≡ xs
    tops [] = refl
    tops (x ∷ xs) = ap (λ l. x ∷ l) (tops xs)

    states : (xs : List (List ℕ)) → map input_text (map State xs) ≡ xs
    states [] = refl
    states (x ∷ xs) = ap (λ l. x ∷ l) (states xs)

pub outs_texts : (spec : FlatNet) → map (λ text. output_name (TopOutput text)) spec.outs ++ map (λ r. output_name (NextState r.text)) spec.regs ≡ map output_name (cut_outputs spec)
outs_texts spec = sym (map-append output_name (map TopOutput spec.outs) (map NextState (state_texts spec)) ∙ ap₂ (λ l m. l ++ m) (tops spec.outs) (states spec.regs))
  where
    tops : (xs : List (List ℕ)) → map output_name (map TopOutput xs) ≡ map (λ text. output_name (TopOutput text)) xs
    tops [] = refl
    tops (x ∷ xs) = ap (λ l. output_name (TopOutput x) ∷ l) (tops xs)

    states : (xs : List Reg) → map output_name (map NextState (map (λ r. r.text) xs)) ≡ map (λ r. output_name (NextState r.text)) xs
    states [] = refl
    states (x ∷ xs) = ap (λ l. output_name (NextState x.text) ∷ l) (states xs)

-- what is asked of a pair

abbrev pub mk_pair : Netlist → Netlist → List (List ℕ) → List OutName → List BoxTexts → List ℕ → NetPair
mk_pair s net ins outs boxes kinds = record { spec = s; imp = net; ins = ins; outs = outs; boxes = boxes; kinds = kinds }

-- the pair of these two with this netlist and these kinds
abbrev pub pair_with : FlatNet → FlatNet → Netlist → List ℕ → NetPair
pair_with spec imp net kinds = record { spec = spec.net; imp = net; ins = map input_text (cut_inputs spec); outs = map output_name (cut_outputs spec); boxes = imp.boxes; kinds = kinds }

no_boxes : (texts : List BoxTexts) (boxes : List Pins) → texts ≡ [] → AllZip NamesPins texts boxes → boxes ≡ []
no_boxes [] [] none all = refl
no_boxes [] (p ∷ ps) none all = absurd all
no_boxes (t ∷ ts) boxes none all = cc none

pub made_pair : (spec imp : FlatNet) (s net : Netlist) (ins : List (List ℕ)) (outs : List OutName) (boxes : List BoxTexts) (kinds : List ℕ) → s ≡ spec.net → ins ≡ map input_text (cut_inputs spec) → outs ≡ map output_name (cut_outputs spec)
    → boxes ≡ imp.boxes → mk_pair s net ins outs boxes kinds ≡ pair_with spec imp net kinds
made_pair spec imp s net ins outs boxes kinds a b c d =
    ap (λ x. mk_pair x net ins outs boxes kinds) a ∙ ap (λ x. mk_pair spec.net net x outs boxes kinds) b ∙ ap (λ x. mk_pair spec.net net (map input_text (cut_inputs spec)) x boxes kinds) c
    ∙ ap (λ x. mk_pair spec.net net (map input_text (cut_inputs spec)) (map output_name (cut_outputs spec)) x kinds) d

named_moved : (to : ℕ → ℕ) (texts : List BoxTexts) (boxes : List Pins) → AllZip NamesPins texts boxes → AllZip NamesPins texts (map (moved_pins to) boxes)
named_moved to [] [] all = all
named_moved to [] (p ∷ ps) all = all
named_moved to (t ∷ ts) [] all = all
named_moved to (t ∷ ts) (p ∷ ps) all = (record { ins = all.0.ins ∙ sym (length-map p.ins to); outs = all.0.outs ∙ sym (length-map p.outs to) }, named_moved to ts ps all.1)

count_moved : (to : ℕ → ℕ) (boxes : List Pins) → pin_count (map (moved_pins to) boxes) ≡ pin_count boxes
count_moved to [] = refl
count_moved to (p ∷ ps) =
    let ins : length (map to p.ins) ≡ length p.ins = length-map p.ins to in
    let outs : length (map to p.outs) ≡ length p.outs = length-map p.outs to in
    omega (arith, ins, outs, count_moved to ps, sum_by-cons (λ (q : Pins). length q.ins + length q.outs) (moved_pins to p) (map (moved_pins to) ps), sum_by-cons (λ (q : Pins). length q.ins + length q.outs) p ps)

pub new_outs : (spec imp : FlatNet) (numbers picks : List ℕ) (net : Netlist) → IsFlat spec → IsRearranged numbers picks imp.net net → Picks (cut_outputs imp) picks (cut_outputs spec) → length net.outs ≡ length spec.net.outs
new_outs spec imp numbers picks net flat rearranged picked = ap length rearranged.outs ∙ length-map picks (λ j. new_place numbers (slice_index imp.net.outs j)) ∙ picks_length (cut_outputs imp) picks (cut_outputs spec) picked ∙ output_count spec flat

moved_named : (imp : FlatNet) (numbers picks : List ℕ) (net : Netlist) → IsFlat imp → IsRearranged numbers picks imp.net net → AllZip NamesPins imp.boxes net.boxes
moved_named imp numbers picks net b rearranged = subst (AllZip NamesPins imp.boxes) (sym rearranged.boxes) (named_moved (new_place numbers) imp.boxes imp.net.boxes b.named.boxes)

pub beside : Fitting → (shared : Bool) (spec imp : FlatNet) (numbers picks : List ℕ) (net : Netlist) (kinds : List ℕ) → IsFlat spec → IsFlat imp → Fit None spec imp → IsRearranged numbers picks imp.net net → Picks (cut_outputs imp) picks (cut_outputs spec)
    → AreKinds (map (box_key shared) imp.boxes) kinds → AreBeside (pair_with spec imp net kinds)
beside fitting shared spec imp numbers picks net kinds a b fit rearranged picked are = record {
  inputs = same_inputs spec imp a b fit ∙ sym rearranged.inputs;
  outputs = sym (new_outs spec imp numbers picks net a rearranged picked);
  no_box = no_boxes spec.boxes spec.net.boxes (fit Box) a.named.boxes;
  ins_named = length-map (cut_inputs spec) input_text ∙ input_count spec a ∙ same_inputs spec imp a b fit ∙ sym rearranged.inputs;
  outs_named = length-map (cut_outputs spec) output_name ∙ output_count spec a ∙ sym (new_outs spec imp numbers picks net a rearranged picked);
  boxes_named = moved_named imp numbers picks net b rearranged;
  kinds = kinds_fit fitting shared imp.boxes net.boxes kinds b.apart.boxes b.modules (moved_named imp numbers picks net b rearranged) are;
}

pub small : (spec imp : FlatNet) (numbers picks : List ℕ) (net : Netlist) (kinds : List ℕ) → IsFlat spec → IsFlat imp → Fit None spec imp → IsRearranged numbers picks imp.net net → Picks (cut_outputs imp) picks (cut_outputs spec) → AreSmall (pair_with spec imp net kinds)
small spec imp numbers picks net kinds a b fit rearranged picked = record {
  spec_cells = omega (arith, a.small.cells);
  imp_cells = omega (arith, b.small.cells, rearranged.cell_count);
  outs = omega (arith, a.small.outs, new_outs spec imp numbers picks net a rearranged picked);
  boxes = omega (arith, b.small.boxes, ap length rearranged.boxes, length-map imp.net.boxes (moved_pins (new_place numbers)));
  pins = omega (arith, fit TooManyPins, rearranged.inputs, ap pin_count rearranged.boxes, count_moved (new_place numbers) imp.net.boxes);
}

pub pair_of : (shared : Bool) (spec imp : FlatNet) (numbers picks : List ℕ) (net : Netlist) (kinds : List ℕ) → Fit None spec imp → IsRearranged numbers picks imp.net net → Picks (cut_inputs spec) numbers (cut_inputs imp) → Picks (cut_outputs imp) picks (cut_outputs spec)
    → AreKinds (map (box_key shared) imp.boxes) kinds → IsPlainPairOf shared spec imp (pair_with spec imp net kinds)
pair_of shared spec imp numbers picks net kinds fit rearranged inputs outputs are = record {
  fit = fit;
  spec_stays = refl;
  numbers = numbers;
  picks = picks;
  rearranged = rearranged;
  inputs = inputs;
  outputs = outputs;
  ins = refl;
  outs = refl;
  boxes = refl;
  kinds = are;
}
