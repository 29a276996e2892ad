-- Steps of the loops that put cells and given bits after others.
use Rattle.std.proofs.Common.{◌≡◌, ℕ, zero, suc, ◌+◌, ◌<◌, ◌≤◌, List, [], ◌∷◌, ◌++◌, map, take, length, get_or, sym, ap, ap₂, ◌∙◌, arith, append_assoc}
use Rattle.std.specs.Prelude.{min, Some}
use Rattle.std.specs.List.{fold, enumerate_from, range_with_len, zip}
use Rattle.std.proofs.lemmas.List.{take_more, take_all, length-take-le, map-append, length-map, get_or-map}
use Rattle.std.proofs.lemmas.List.FromFn.{map-range_with_len_more}
use Rattle.std.proofs.lemmas.List.Sums.{fold_more, fold_push}
use Rattle.std.proofs.lemmas.Slice.Zip.{get_or-zip, length-zip}
use Rattle.bb_net.specs.declared.loose.LooseCell.{LooseCell}
use Rattle.bb_net.specs.declared.loose.LooseCell.TheVariants as cell
use Rattle.bb_net.specs.Netlists.{Pins}
use Rattle.bb_blast.specs.declared.template.ModuleTemplate.{ModuleTemplate}
use Rattle.bb_blast.specs.Inside.Counting.{capped, after}
use Rattle.bb_blast.specs.Inside.Listing.{Sources, given_one, given_all, in_row, beside, Boxed, with_pins}
use Rattle.bb_blast.proofs.CappedNumbers.{after_first}

pub fold_next : {A B : Type 0} (f : B → A → B) (a : B) (xs : List A) (i : ℕ) (x : A) → i < length xs → x ≡ get_or xs i x → fold f a (take (i + 1) xs) ≡ f (fold f a (take i xs)) x
fold_next f a xs i x lt e = fold_more f a xs i x lt ∙ ap (f (fold f a (take i xs))) (sym e)

pub enumerate_push : {A : Type 0} (a : ℕ) (xs : List A) (x : A) → enumerate_from a (xs ++ x ∷ []) ≡ enumerate_from a xs ++ (a + length xs, x) ∷ []
enumerate_push {A} a [] x = ap (λ (n : ℕ). (n, x) ∷ []) (omega arith)
enumerate_push {A} a (y ∷ ys) x = ap (λ l. (a, y) ∷ l) (enumerate_push (a + 1) ys x ∙ ap (λ (n : ℕ). enumerate_from (a + 1) ys ++ (n, x) ∷ []) (omega arith))

pub row_next : (sources now : Sources) (first base bit place : ℕ) (bits : List ℕ) (i : ℕ) → i < length bits → bit ≡ after first (get_or bits i 0) → place ≡ after base i
    → now ≡ given_one (given_all sources (in_row first (take i bits) base)) (bit, place) → now ≡ given_all sources (in_row first (take (i + 1) bits) base)
row_next sources now first base bit place bits i lt at occurs is =
    let x = get_or bits i 0 in
    let long : length (take i bits) ≡ i = length-take-le i bits (omega (arith, lt)) in
    let h : ℕ × ℕ → ℕ × ℕ = λ y. (after first y.1, after base y.0) in
    let last : after base (0 + length (take i bits)) ≡ place = ap capped (omega (arith, long)) ∙ sym occurs in
    let grown : in_row first (take (i + 1) bits) base ≡ in_row first (take i bits) base ++ (bit, place) ∷ [] =
    ap (λ l. map h (enumerate_from 0 l)) (take_more bits i 0 lt)
    ∙ ap (map h) (enumerate_push 0 (take i bits) x) ∙ map-append h (enumerate_from 0 (take i bits)) ((0 + length (take i bits), x) ∷ [])
    ∙ ap₂ (λ (a b : ℕ). in_row first (take i bits) base ++ (a, b) ∷ []) (sym at) last in
    is ∙ sym (ap (fold given_one sources) grown ∙ fold_push given_one sources (in_row first (take i bits) base) (bit, place))

-- the place after one in a row
pub place_next : (base place i : ℕ) → place ≡ after base i → after place 1 ≡ after base (i + 1)
place_next base place i occurs = ap (λ n. after n 1) occurs ∙ after_first base i 1

pub beside_next : (sources now : Sources) (first bit place : ℕ) (bits places : List ℕ) (k : ℕ) → k < length bits → k < length places → bit ≡ after first (get_or bits k 0) → place ≡ get_or places k 0
    → now ≡ given_one (given_all sources (take k (beside first bits places))) (bit, place) → now ≡ given_all sources (take (k + 1) (beside first bits places))
beside_next sources now first bit place bits places k in_bits in_places at occurs is =
    let bs = map (after first) bits in
    let long_bits : length bs ≡ length bits = length-map bits (after first) in
    let here : get_or (zip bs places) k (0, 0) ≡ (get_or bs k 0, get_or places k 0) = get_or-zip bs places k (0, 0) (omega (arith, long_bits, in_bits)) in_places in
    let a : get_or bs k 0 ≡ bit = get_or-map (after first) bits k 0 0 in_bits ∙ sym at in
    let fits : k < length (zip bs places) = omega (arith, length-zip bs places, long_bits, in_bits, in_places) in
    is ∙ ap (given_one (given_all sources (take k (zip bs places)))) (sym (here ∙ ap₂ (λ (x y : ℕ). (x, y)) a (sym occurs))) ∙ sym (fold_more given_one sources (zip bs places) k (0, 0) fits)

pub beside_all : (first : ℕ) (bits places : List ℕ) (k : ℕ) → min (length bits) (length places) ≤ k → take k (beside first bits places) ≡ beside first bits places
beside_all first bits places k past =
    let bs = map (after first) bits in
    take_all k (zip bs places) (omega (arith, length-zip bs places, length-map bits (after first), past))

pub range_next : (a n : ℕ) → range_with_len a (n + 1) ≡ range_with_len a n ++ (a + n) ∷ []
range_next a zero = ap (λ (k : ℕ). k ∷ []) (omega arith)
range_next a (suc n) =
    let one : suc n + 1 ≡ suc (n + 1) = omega arith in
    ap (range_with_len a) one ∙ ap (λ l. a ∷ l) (range_next (a + 1) n ∙ ap (λ (k : ℕ). range_with_len (a + 1) n ++ k ∷ []) (omega arith))

-- a row of places, and what is made of one, grows at its end
pub ruleset rows_grow = (range_next, map-range_with_len_more)

pub cells_grow : {A : Type 0} (f : ℕ → A) (old now more : List A) (n k : ℕ) → k ≡ n → now ≡ old ++ map f (range_with_len 0 n) → more ≡ now ++ f k ∷ [] → more ≡ old ++ map f (range_with_len 0 (n + 1))
cells_grow f old now more n k same before afterwards =
    afterwards ∙ ap (λ l. l ++ f k ∷ []) before ∙ append_assoc old (map f (range_with_len 0 n)) (f k ∷ [])
    ∙ ap (λ l. old ++ l) (ap (λ (j : ℕ). map f (range_with_len 0 n) ++ f j ∷ []) same ∙ sym (map-range_with_len_more f 0 n n (omega arith)))

mk_boxed : List LooseCell → Sources → List Pins → Boxed
mk_boxed cells sources boxes = record { cells = cells; sources = sources; boxes = boxes }

-- a box after others
pub box_put : (nets start first : ℕ) (a : Boxed) (o : ModuleTemplate) (cells : List LooseCell) (sources : Sources) (boxes : List Pins) (base b count bits : ℕ)
    → base ≡ after start (length a.cells) → b ≡ capped (length a.boxes) → count ≡ capped (length o.outputs.items) → bits ≡ after nets first
    → cells ≡ a.cells ++ map (cell.BoxOut b) (range_with_len 0 count) → sources ≡ given_all a.sources (in_row first o.outputs.items base)
    → boxes ≡ a.boxes ++ record { ins = map (after bits) o.inputs.items; outs = map (after base) (range_with_len 0 (capped (length o.outputs.items))) } ∷ []
    → ◌≡◌ {A = Boxed} (record { cells = cells; sources = sources; boxes = boxes }) (with_pins nets start first a (Some o))
unfolding mk_boxed
box_put nets start first a o cells sources boxes base b count bits base_is b_is count_is bits_is listed given pinned =
    ap (λ c. mk_boxed c sources boxes) (listed ∙ ap₂ (λ (b n : ℕ). a.cells ++ map (cell.BoxOut b) (range_with_len 0 n)) b_is count_is)
    ∙ ap₂ (mk_boxed (a.cells ++ map (cell.BoxOut (capped (length a.boxes))) (range_with_len 0 (capped (length o.outputs.items))))) (given ∙ ap (λ n. given_all a.sources (in_row first o.outputs.items n)) base_is)
    (pinned ∙ ap₂ (λ (p q : ℕ). a.boxes ++ record { ins = map (after p) o.inputs.items; outs = map (after q) (range_with_len 0 (capped (length o.outputs.items))) } ∷ []) bits_is base_is)
