-- Loops over the lists of modules.
use Rattle.std.proofs.Common.{◌≡◌, ◌≢◌, ◌+◌, ◌<◌, ◌≤◌, ◌^◌, ◌||◌, ◌==◌, ℕ, Bool, List, [], ◌∷◌, ◌++◌, All, map, take, length, get_or, set, sym, ap, subst, ◌∙◌, inl, inr, arith, Vec, Global, if◌then◌else◌, get_or-set_same, get_or-set_other}
use Rattle.std.specs.List.{enumerate_from}
use Rattle.std.proofs.lemmas.Bool.{cases_eq}
use Rattle.std.proofs.lemmas.List.{get_or-map, length-map, length-set, length-take, map-set, take_more, map-append, ext_get_or}
use Rattle.bb_net.specs.Netlists.{Pins}
use Rattle.bb_net.specs.Values.{bit_of}
use Rattle.bb_hier.specs.Inside.Recursions.{ArePlacesThere, module_pins, kept_lists}
use Rattle.bb_hier.proofs.RecursionLemmas.{kept_at, kept_long}

pub pins_fit : (callees : List (Vec ℕ Global)) (place : ℕ) (list : Vec ℕ Global) (called : List ℕ) → ArePlacesThere (map (λ list. list.items) callees) → place < length callees → list ≡ get_or callees place list
    → called ≡ list.items → All (λ k. k + 2 < 2 ^ 32) called
pins_fit callees place list called there lt is same k d small =
    let lists = map (λ list. list.items) callees in
    let long : length lists ≡ length callees = length-map callees (λ list. list.items) in
    let at : get_or lists place [] ≡ called = get_or-map (λ list. list.items) callees place list [] lt ∙ ap (λ list. list.items) (sym is) ∙ sym same in
    let low = subst (All (λ k. k < length lists)) at (there.there place [] (omega (arith, lt, long))) k d small in
    omega (arith, low, there.few)

enumerate-more : {A : Type 0} (s : ℕ) (xs : List A) (x : A) → enumerate_from s (xs ++ x ∷ []) ≡ enumerate_from s xs ++ (s + length xs, x) ∷ []
enumerate-more s [] x = ap (λ k. (k, x) ∷ []) (omega arith)
enumerate-more s (y ∷ ys) x = ap (λ zs. (s, y) ∷ zs) (enumerate-more (s + 1) ys x ∙ ap (λ k. enumerate_from (s + 1) ys ++ (k, x) ∷ []) (omega arith))

pub boxes_more : (callees : List (Vec ℕ Global)) (place : ℕ) (list : Vec ℕ Global) (called : List ℕ) (pins : Pins) → place < length callees → list ≡ get_or callees place list → called ≡ list.items → pins ≡ module_pins (place, called)
    → map module_pins (enumerate_from 0 (map (λ list. list.items) (take place callees))) ++ pins ∷ [] ≡ map module_pins (enumerate_from 0 (map (λ list. list.items) (take (place + 1) callees)))
boxes_more callees place list called pins lt is same made =
    let before : List (List ℕ) = map (λ list. list.items) (take place callees) in
    let long : 0 + length before ≡ place = omega (arith, lt, length-map (take place callees) (λ list. list.items), length-take place callees) in
    let taken : map (λ list. list.items) (take (place + 1) callees) ≡ before ++ called ∷ [] =
    ap (map (λ list. list.items)) (take_more callees place list lt) ∙ map-append (λ list. list.items) (take place callees) (get_or callees place list ∷ []) ∙ ap (λ (x : Vec ℕ Global). before ++ x.items ∷ []) (sym is)
    ∙ ap (λ xs. before ++ xs ∷ []) (sym same) in
    ap (λ x. map module_pins (enumerate_from 0 before) ++ x ∷ []) (made ∙ ap (λ k. module_pins (k, called)) (sym long))
    ∙ sym (ap (λ xs. map module_pins (enumerate_from 0 xs)) taken ∙ ap (map module_pins) (enumerate-more 0 before called) ∙ map-append module_pins (enumerate_from 0 before) ((0 + length before, called) ∷ []))

-- lists that are kept or emptied, one after another

pub record AreKeptBefore (top : ℕ) (marks : List Bool) (old new : List (Vec ℕ Global)) (k : ℕ) : Type 0 where
  pub whole : length new ≡ length old
  pub emptied : (j : ℕ) → j < k → get_or (map (λ list. list.items) new) j [] ≡ get_or (kept_lists top marks (map (λ list. list.items) old)) j []
  pub still : (j : ℕ) → k ≤ j → get_or (map (λ list. list.items) new) j [] ≡ get_or (map (λ list. list.items) old) j []

pub kept_more : (top : ℕ) (marks : List Bool) (old new : List (Vec ℕ Global)) (k : ℕ) (list now : Vec ℕ Global) (keep : Bool) → AreKeptBefore top marks old new k → k < length new → list ≡ get_or new k list
    → now.items ≡ (if keep then list.items else []) → keep ≡ (k == top || bit_of marks (k + 2)) → AreKeptBefore top marks old (set new k now) (k + 1)
kept_more top marks old new k list now keep before lt is made kept = record {
  whole = length-set new k now ∙ before.whole;
  emptied = λ j small. elim (cases_eq j k) [ inl e ↦ subst (λ i. get_or (map (λ list. list.items) (set new k now)) i [] ≡ get_or (kept_lists top marks (map (λ list. list.items) old)) i []) (sym e) here | inr ne ↦ other j ne ∙ before.emptied j (omega (arith, small, ne)) ];
  still = λ j large. other j (λ e. omega (arith, large, e)) ∙ before.still j (omega (arith, large));
}
  where
    long : length (map (λ (list : Vec ℕ Global). list.items) new) ≡ length new
    long = length-map new (λ list. list.items)

    long_old : length (map (λ (list : Vec ℕ Global). list.items) old) ≡ length old
    long_old = length-map old (λ list. list.items)

    other : (j : ℕ) → j ≢ k → get_or (map (λ (list : Vec ℕ Global). list.items) (set new k now)) j [] ≡ get_or (map (λ (list : Vec ℕ Global). list.items) new) j []
    other j ne = ap (λ xs. get_or xs j []) (map-set (λ (list : Vec ℕ Global). list.items) new k now) ∙ get_or-set_other (map (λ (list : Vec ℕ Global). list.items) new) k j now.items [] ne

    was : get_or (map (λ (list : Vec ℕ Global). list.items) old) k [] ≡ list.items
    was = sym (before.still k (omega arith)) ∙ get_or-map (λ (list : Vec ℕ Global). list.items) new k list [] lt ∙ ap (λ (x : Vec ℕ Global). x.items) (sym is)

    here : get_or (map (λ (list : Vec ℕ Global). list.items) (set new k now)) k [] ≡ get_or (kept_lists top marks (map (λ list. list.items) old)) k []
    here = ap (λ xs. get_or xs k []) (map-set (λ (list : Vec ℕ Global). list.items) new k now) ∙ get_or-set_same (map (λ (list : Vec ℕ Global). list.items) new) k now.items [] (omega (arith, lt, long))
        ∙ made ∙ ap (λ b. if b then list.items else []) kept ∙ ap (λ (xs : List ℕ). if k == top || bit_of marks (k + 2) then xs else []) (sym was)
        ∙ sym (kept_at (map (λ list. list.items) old) top marks k [] (omega (arith, lt, before.whole, long_old)))

pub all_kept : (top : ℕ) (marks : List Bool) (old new : List (Vec ℕ Global)) (k : ℕ) → AreKeptBefore top marks old new k → length new ≤ k → map (λ list. list.items) new ≡ kept_lists top marks (map (λ list. list.items) old)
all_kept top marks old new k before past =
    let long = length-map new (λ list. list.items) in
    ext_get_or [] (map (λ list. list.items) new) (kept_lists top marks (map (λ list. list.items) old))
    (omega (arith, long, before.whole, length-map old (λ list. list.items), kept_long (map (λ list. list.items) old) top marks))
    (λ j lt. before.emptied j (omega (arith, lt, long, past)))
