-- Two netlists have one pair where no care output is asked for: places in lists without repetition are fixed by what is there, and each place of the new
-- netlist is the new place of a cell.
use Rattle.std.proofs.Common.{◌≡◌, ◌≢◌, ℕ, zero, suc, ◌+◌, ◌<◌, ◌≤◌, false, List, [], ◌∷◌, ◌++◌, map, length, get_or, All, AllPairs, Contains, refl, sym, ap, subst, ◌∙◌, inl, inr, arith}
use Rattle.std.specs.Prelude.{slice_get, Bool, None, Some}
use Rattle.std.proofs.lemmas.Bool.{cases_lt}
use Rattle.std.proofs.lemmas.List.{get_or-map, get_or_default, get_or_past, length-map, same_lists}
use Rattle.std.proofs.lemmas.List.Elements.{All-append, All-head, All-map, All-tail, All-weaker, Contains-append_left, Contains-append_right}
use Rattle.std.proofs.lemmas.List.Kept.{AllPairs-cons}
use Rattle.std.proofs.lemmas.Option.{get_or_from_slice_get, slice_get-get_or, slice_get_within}
use Rattle.bb_net.specs.declared.cell.Cell.{Cell}
use Rattle.bb_net.specs.declared.cell.Cell.TheVariants.{Const}
use Rattle.bb_net.specs.Netlists.{Netlist, Pins, cell_at}
use Rattle.bb_net.specs.Laws.KindLaws.{KindsAreOne}
use Rattle.bb_net.specs.Pairs.{NetPair, box_key}
use Rattle.bb_net.specs.Rearrangements.{IsRearranged, new_place}
use Rattle.bb_net.specs.Flats.{FlatNet, IsFlat}
use Rattle.bb_net.specs.CutPoints.{TopInput, State, TopOutput, NextState, state_texts, cut_inputs, cut_outputs}
use Rattle.bb_match.specs.Refusals.{AreAmong, Fit, SpecInput, SpecRegister}
use Rattle.bb_match.specs.Pairing.{IsPlainPairOf, Picks}
use Rattle.bb_lemmas.proofs.Apart.{pairs_tail}
use Rattle.bb_lemmas.proofs.Picked.{one_place, picked_at, same_places}
use Rattle.bb_match.proofs.PairLemmas.{input_count, inputs_below, same_inputs, mk_pair}

-- lists without repetition

pub pairs_head : {A : Type 0} (R : A → A → Type 0) (x : A) (xs : List A) → AllPairs R (x ∷ xs) → All (R x) xs
pairs_head R x xs all k d lt = all 0 (suc k) d (omega arith) (omega (arith, lt))

apart_both : {A : Type 0} (xs ys : List A) → AllPairs ◌≢◌ xs → AllPairs ◌≢◌ ys → All (λ x. All (λ y. x ≢ y) ys) xs → AllPairs ◌≢◌ (xs ++ ys)
apart_both [] ys a b cross = b
apart_both (x ∷ xs) ys a b cross =
    AllPairs-cons ◌≢◌ x (xs ++ ys) (All-append (λ y. x ≢ y) xs ys (pairs_head ◌≢◌ x xs a) (All-head (λ z. All (λ y. z ≢ y) ys) x xs cross)) (apart_both xs ys (pairs_tail ◌≢◌ x xs a) b (All-tail (λ z. All (λ y. z ≢ y) ys) x xs cross))

apart_map : {A B : Type 0} (f : A → B) → ((a b : A) → f a ≡ f b → a ≡ b) → (xs : List A) → AllPairs ◌≢◌ xs → AllPairs ◌≢◌ (map f xs)
apart_map f one [] a = λ i j d lt within. absurd (omega (arith, within))
apart_map f one (x ∷ xs) a =
    AllPairs-cons ◌≢◌ (f x) (map f xs) (All-map (λ y. f x ≢ y) f xs (All-weaker (λ y. x ≢ y) (λ y. f x ≢ f y) (λ y off e. off (one x y e)) xs (pairs_head ◌≢◌ x xs a))) (apart_map f one xs (pairs_tail ◌≢◌ x xs a))

cross_map : {A B : Type 0} (f g : A → B) → ((a b : A) → f a ≢ g b) → (xs ys : List A) → All (λ x. All (λ y. x ≢ y) (map g ys)) (map f xs)
cross_map f g off xs ys = All-map (λ x. All (λ y. x ≢ y) (map g ys)) f xs (λ k d lt. All-map (λ y. f (get_or xs k d) ≢ y) g ys (λ j e within. off (get_or xs k d) (get_or ys j e)))

pub inputs_apart : (f : FlatNet) → IsFlat f → AllPairs ◌≢◌ (cut_inputs f)
inputs_apart f flat =
    apart_both (map TopInput f.ins) (map State (state_texts f)) (apart_map TopInput (λ a b e. cc e) f.ins flat.apart.ins) (apart_map State (λ a b e. cc e) (state_texts f) flat.apart.regs) (cross_map TopInput State (λ a b e. cc e) f.ins (state_texts f))

pub outputs_apart : (f : FlatNet) → IsFlat f → AllPairs ◌≢◌ (cut_outputs f)
outputs_apart f flat =
    apart_both (map TopOutput f.outs) (map NextState (state_texts f)) (apart_map TopOutput (λ a b e. cc e) f.outs flat.apart.outs) (apart_map NextState (λ a b e. cc e) (state_texts f) flat.apart.regs)
    (cross_map TopOutput NextState (λ a b e. cc e) f.outs (state_texts f))

-- inputs, or outputs, whose texts are among those of another netlist are among its

mapped : {A : Type 0} (f : List ℕ → A) (ns : List (List ℕ)) (n : List ℕ) → Contains ns n → Contains (map f ns) (f n)
mapped f ns n has = (has.0, omega (arith, has.1, length-map ns f), get_or-map f ns has.0 n (f n) has.1 ∙ ap f has.2)

among_both : {A : Type 0} (f g : List ℕ → A) (ns ms others more : List (List ℕ)) → AreAmong ns others → AreAmong ms more → All (Contains (map f others ++ map g more)) (map f ns ++ map g ms)
among_both f g ns ms others more a b =
    let all = map f others ++ map g more in
    All-append (Contains all) (map f ns) (map g ms) (All-map (Contains all) f ns (All-weaker (Contains others) (λ n. Contains all (f n)) (λ n has. Contains-append_left (map f others) (map g more) (f n) (mapped f others n has)) ns a))
    (All-map (Contains all) g ms (All-weaker (Contains more) (λ n. Contains all (g n)) (λ n has. Contains-append_right (map f others) (map g more) (g n) (mapped g more n has)) ms b))

pub inputs_among : (f g : FlatNet) → AreAmong f.ins g.ins → AreAmong (state_texts f) (state_texts g) → All (Contains (cut_inputs g)) (cut_inputs f)
inputs_among f g = among_both TopInput State f.ins (state_texts f) g.ins (state_texts g)

pub outputs_among : (f g : FlatNet) → AreAmong f.outs g.outs → AreAmong (state_texts f) (state_texts g) → All (Contains (cut_outputs g)) (cut_outputs f)
outputs_among f g = among_both TopOutput NextState f.outs (state_texts f) g.outs (state_texts g)

-- so each number is the number of an input
pub number_found : (spec imp : FlatNet) (numbers : List ℕ) (i : ℕ) → IsFlat spec → Fit None spec imp → Picks (cut_inputs spec) numbers (cut_inputs imp) → i < spec.net.inputs → (j : ℕ) × (slice_get numbers j ≡ Some i)
number_found spec imp numbers i flat fit picked lt =
    let within : i < length (cut_inputs spec) = omega (arith, lt, input_count spec flat) in
    let x = get_or (cut_inputs spec) i (TopInput []) in
    let here : slice_get (cut_inputs spec) i ≡ Some x = slice_get-get_or (cut_inputs spec) i (TopInput []) within in
    let has : Contains (cut_inputs imp) x = inputs_among spec imp (fit SpecInput) (fit SpecRegister) i (TopInput []) within in
    let got = picked_at (cut_inputs spec) numbers (cut_inputs imp) has.0 x picked (slice_get-get_or (cut_inputs imp) has.0 x has.1 ∙ ap Some has.2) in
    (has.0, got.1 ∙ ap Some (one_place (cut_inputs spec) got.0 i x (inputs_apart spec flat) got.2 here))

-- each place is the new place of a cell
pub place_found : (numbers : List ℕ) (inputs count m : ℕ) → length numbers ≡ inputs → inputs + 2 ≤ count → ((i : ℕ) → i < inputs → (j : ℕ) × (slice_get numbers j ≡ Some i)) → m < count → (k : ℕ) × (k < count) × (new_place numbers k ≡ m)
place_found numbers inputs count zero long room found lt = (0, lt, refl)
place_found numbers inputs count (suc zero) long room found lt = (1, lt, refl)
place_found numbers inputs count (suc (suc i)) long room found lt = elim (cases_lt i inputs) [
  | inl below ↦
      let got = found i below in
      let within = slice_get_within numbers got.0 i got.1 in
      let is : get_or numbers got.0 got.0 ≡ i = get_or_from_slice_get numbers got.0 i got.0 got.1 in
      (suc (suc got.0), omega (arith, within, long, room), omega (arith, is))
  | inr past ↦
      let is : get_or numbers i i ≡ i = get_or_past numbers i i (omega (arith, past, long)) in
      (suc (suc i), lt, omega (arith, is))
]

abbrev mk_net : ℕ → List Cell → List Pins → List ℕ → Netlist
mk_net inputs cells boxes outs = record { inputs = inputs; cells = cells; boxes = boxes; outs = outs }

-- a netlist is rearranged in one way
pub one_net : (numbers picks : List ℕ) (old a b : Netlist) → ((m : ℕ) → m < length old.cells → (k : ℕ) × (k < length old.cells) × (new_place numbers k ≡ m)) → IsRearranged numbers picks old a → IsRearranged numbers picks old b → a ≡ b
one_net numbers picks old a b found x y =
    let cells : a.cells ≡ b.cells = same_lists a.cells b.cells (x.cell_count ∙ sym y.cell_count) (λ m d lt.
    let got = found m (omega (arith, lt, x.cell_count)) in
    let at_m : cell_at a.cells m ≡ cell_at b.cells m = ap (cell_at a.cells) (sym got.2) ∙ x.cells got.0 got.1 ∙ sym (y.cells got.0 got.1) ∙ ap (cell_at b.cells) got.2 in
    get_or_default a.cells m d (Const false) lt ∙ at_m ∙ sym (get_or_default b.cells m d (Const false) (omega (arith, lt, x.cell_count, y.cell_count)))) in
    ap (λ n. mk_net n a.cells a.boxes a.outs) (x.inputs ∙ sym y.inputs) ∙ ap (λ l. mk_net b.inputs l a.boxes a.outs) cells ∙ ap (λ l. mk_net b.inputs b.cells l a.outs) (x.boxes ∙ sym y.boxes) ∙ ap (λ l. mk_net b.inputs b.cells b.boxes l) (x.outs ∙ sym y.outs)

pub plain_pairs_are_one : KindsAreOne → (shared : Bool) (spec imp : FlatNet) (p q : NetPair) → IsFlat spec → IsFlat imp → IsPlainPairOf shared spec imp p → IsPlainPairOf shared spec imp q → p ≡ q
plain_pairs_are_one one shared spec imp p q flat_spec flat_imp a b =
    let numbers : b.numbers ≡ a.numbers = same_places (cut_inputs spec) b.numbers a.numbers (cut_inputs imp) (inputs_apart spec flat_spec) b.inputs a.inputs in
    let picks : b.picks ≡ a.picks = same_places (cut_outputs imp) b.picks a.picks (cut_outputs spec) (outputs_apart imp flat_imp) b.outputs a.outputs in
    let same : IsRearranged a.numbers a.picks imp.net q.imp = subst (λ l. IsRearranged a.numbers l imp.net q.imp) picks (subst (λ l. IsRearranged l b.picks imp.net q.imp) numbers b.rearranged) in
    let inputs : spec.net.inputs ≡ imp.net.inputs = same_inputs spec imp flat_spec flat_imp a.fit in
    let net : p.imp ≡ q.imp = one_net a.numbers a.picks imp.net p.imp q.imp (λ m lt. place_found a.numbers imp.net.inputs (length imp.net.cells) m a.rearranged.numbered (inputs_below imp.net flat_imp.net)
    (λ i below. number_found spec imp a.numbers i flat_spec a.fit a.inputs (omega (arith, below, inputs))) lt) a.rearranged same in
    let kinds : p.kinds ≡ q.kinds = one (map (box_key shared) imp.boxes) p.kinds q.kinds a.kinds b.kinds in
    ap (λ x. mk_pair x p.imp p.ins p.outs p.boxes p.kinds) (a.spec_stays ∙ sym b.spec_stays) ∙ ap (λ x. mk_pair q.spec x p.ins p.outs p.boxes p.kinds) net ∙ ap (λ x. mk_pair q.spec q.imp x p.outs p.boxes p.kinds) (a.ins ∙ sym b.ins)
    ∙ ap (λ x. mk_pair q.spec q.imp q.ins x p.boxes p.kinds) (a.outs ∙ sym b.outs) ∙ ap (λ x. mk_pair q.spec q.imp q.ins q.outs x p.kinds) (a.boxes ∙ sym b.boxes) ∙ ap (mk_pair q.spec q.imp q.ins q.outs q.boxes) kinds
