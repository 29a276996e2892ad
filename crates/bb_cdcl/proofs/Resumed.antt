-- The state before a search: variables and clauses that came.
use Rattle.std.proofs.Common.{◌≡◌, ◌<◌, ◌≤◌, ℕ, zero, suc, ◌+◌, ◌-◌, Bool, false, ◌||◌, Option, Some, None, option_map, IfSome, List, [], ◌∷◌, ◌++◌, length, map, take, drop, set, get_or, slice_get, All, refl, sym, ◌∙◌, ap, subst, inl, inr, arith, length-append, length-drop}
use Rattle.std.proofs.lemmas.List.{length-map, take-append-drop}
use Rattle.std.proofs.lemmas.List.Sums.{sum_by-append}
use Rattle.std.proofs.lemmas.Option.{slice_get-get_or, slice_get_within}
use Rattle.std.specs.List.{sum_by}
use Rattle.bb_lemmas.proofs.Orders.{less_or_not}
use Rattle.bb_cnf.specs.declared.clauses.Lit.{Lit}
use Rattle.bb_cnf.specs.Clauses.{lists_of, same_literal}
use Rattle.bb_cnf.specs.Inside.PartialResolvent.{held, AreListed}
use Rattle.bb_cdcl.specs.declared.trail.Entry.{Entry}
use Rattle.bb_cdcl.specs.declared.state.State.{State}
use Rattle.bb_cdcl.specs.Laws.Numbers.{moved_number}
use Rattle.bb_cdcl.specs.Inside.Dates.{AreDerived}
use Rattle.bb_cdcl.specs.Inside.Trails.{opposite, falsified, value_at, is_bit, unassigned, moved_entry, IsNew, IsReason, AreNew, HaveReasons, AreValues, HasRoom}
use Rattle.bb_cdcl.specs.Inside.States.{all_clauses, IsDerived, IsReady}
use Rattle.bb_cdcl.proofs.Moved.{moved_below, moved_past, moved_get}
use Rattle.bb_cdcl.proofs.Dates.{derived_further}

-- a further variable has no value
none_more : (values : List (Option Bool)) (x : ℕ) → value_at (values ++ None ∷ []) x ≡ value_at values x
none_more [] zero = refl
none_more [] (suc x) = refl
none_more (v ∷ values) zero = refl
none_more (v ∷ values) (suc x) = none_more values x

pub values_more : (entries : List Entry) (values : List (Option Bool)) → AreValues entries values → AreValues entries (values ++ None ∷ [])
values_more entries values are m = ap (λ o. is_bit o m.neg) (none_more values m.var) ∙ are m

sum_more : (values : List (Option Bool)) → sum_by unassigned (values ++ None ∷ []) ≡ sum_by unassigned values + 1
sum_more values = sum_by-append unassigned values (None ∷ [])

pub room_more : (entries : List Entry) (values : List (Option Bool)) → HasRoom entries values → HasRoom entries (values ++ None ∷ [])
room_more entries values room =
    let longer : length (values ++ None ∷ []) ≡ length values + 1 = length-append values (None ∷ []) in
    let sum = sum_more values in
    omega (arith, longer, sum, room)

-- the front of a list is turned, and the rest is as it was
abbrev pub iterated : {A : Type 0} → (A → A) → ℕ → List A → List A
iterated f zero xs = xs
iterated f (suc i) [] = []
iterated f (suc i) (x ∷ xs) = f x ∷ iterated f i xs

pub iterated_at : {A : Type 0} (f : A → A) (i : ℕ) (xs : List A) (d : A) → get_or (iterated f i xs) i d ≡ get_or xs i d
iterated_at f zero xs d = refl
iterated_at f (suc i) [] d = refl
iterated_at f (suc i) (x ∷ xs) d = iterated_at f i xs d

pub iterated_more : {A : Type 0} (f : A → A) (i : ℕ) (xs : List A) (d : A) → i < length xs → set (iterated f i xs) i (f (get_or xs i d)) ≡ iterated f (suc i) xs
iterated_more f i [] d within = absurd (omega (arith, within))
iterated_more f zero (x ∷ xs) d within = refl
iterated_more f (suc i) (x ∷ xs) d within = ap (λ t. f x ∷ t) (iterated_more f i xs d (omega (arith, within)))

pub iterated_all : {A : Type 0} (f : A → A) (i : ℕ) (xs : List A) → length xs ≤ i → iterated f i xs ≡ map f xs
iterated_all f zero [] all = refl
iterated_all f (suc i) [] all = refl
iterated_all f zero (x ∷ xs) all = absurd (omega (arith, all))
iterated_all f (suc i) (x ∷ xs) all = ap (λ t. f x ∷ t) (iterated_all f i xs (omega (arith, all)))

pub length_iterated : {A : Type 0} (f : A → A) (i : ℕ) (xs : List A) → length (iterated f i xs) ≡ length xs
length_iterated f zero xs = refl
length_iterated f (suc i) [] = refl
length_iterated f (suc i) (x ∷ xs) = ap suc (length_iterated f i xs)

-- what is in a list that was mapped
unmapped : {A B : Type 0} (f : A → B) (xs : List A) (i : ℕ) (y : B) → slice_get (map f xs) i ≡ Some y → (x : A) × (slice_get xs i ≡ Some x) × (f x ≡ y)
unmapped f [] i y e = absurd (let g : None ≡ Some y = e in cc)
unmapped f (x ∷ xs) zero y e = (x, refl, (let s : Some (f x) ≡ Some y = e in cc))
unmapped f (x ∷ xs) (suc i) y e = unmapped f xs i y e

prefix_mapped : {A B : Type 0} (f : A → B) (i : ℕ) (xs : List A) → take i (map f xs) ≡ map f (take i xs)
prefix_mapped f zero [] = refl
prefix_mapped f zero (x ∷ xs) = refl
prefix_mapped f (suc i) [] = refl
prefix_mapped f (suc i) (x ∷ xs) = ap (λ t. f x ∷ t) (prefix_mapped f i xs)

-- entries with other reasons make the same literals false
falsified_moved : (g k : ℕ) (entries : List Entry) (m : Lit) → falsified (map (moved_entry g k) entries) m ≡ falsified entries m
falsified_moved g k [] m = refl
falsified_moved g k (e ∷ entries) m = ap (λ b. same_literal (opposite e.lit) m || b) (falsified_moved g k entries m)

prefix_moved : (g k i : ℕ) (entries : List Entry) (m : Lit) → falsified (take i (map (moved_entry g k) entries)) m ≡ falsified (take i entries) m
prefix_moved g k i entries m = ap (λ es. falsified es m) (prefix_mapped (moved_entry g k) i entries) ∙ falsified_moved g k (take i entries) m

pub new_moved : (g k : ℕ) (entries : List Entry) → AreNew entries → AreNew (map (moved_entry g k) entries)
new_moved g k entries new i e occurs =
    let old = unmapped (moved_entry g k) entries i e occurs in
    let before = new i old.0 old.1 in
    let same : old.0.lit ≡ e.lit = ap (λ (d : Entry). d.lit) old.2 in
    subst (λ (l : Lit). IsNew (take i (map (moved_entry g k) entries)) l) same (prefix_moved g k i entries old.0.lit ∙ before.0, prefix_moved g k i entries (opposite old.0.lit) ∙ before.1)

pub values_moved : (g k : ℕ) (entries : List Entry) (values : List (Option Bool)) → AreValues entries values → AreValues (map (moved_entry g k) entries) values
values_moved g k entries values are m = are m ∙ sym (falsified_moved g k entries m)

pub room_moved : (g k : ℕ) (entries : List Entry) (values : List (Option Bool)) → HasRoom entries values → HasRoom (map (moved_entry g k) entries) values
room_moved g k entries values room = let same = length-map entries (moved_entry g k) in omega (arith, same, room)

reason_moved : (given more learned : List (List Lit)) (i : ℕ) (entries : List Entry) (l : Lit) (o : Option ℕ) → IfSome o (IsReason (given ++ learned) (take i entries) l)
    → IfSome (option_map (moved_number (length given) (length more)) o) (IsReason ((given ++ more) ++ learned) (take i (map (moved_entry (length given) (length more)) entries)) l)
reason_moved given more learned i entries l None reason = tt
reason_moved given more learned i entries l (Some r) reason = record {
  clause = reason.clause;
  occurs = moved_get given more learned r reason.clause reason.occurs;
  own = reason.own;
  others = λ m member. ap (λ b. same_literal l m || b) (prefix_moved (length given) (length more) i entries m) ∙ reason.others m member;
}

pub reasons_moved : (given more learned : List (List Lit)) (entries : List Entry) → HaveReasons (given ++ learned) entries
    → HaveReasons ((given ++ more) ++ learned) (map (moved_entry (length given) (length more)) entries)
reasons_moved given more learned entries reasons i e occurs =
    let old = unmapped (moved_entry (length given) (length more)) entries i e occurs in
    subst (λ (d : Entry). IfSome d.reason (IsReason ((given ++ more) ++ learned) (take i (map (moved_entry (length given) (length more)) entries)) d.lit)) old.2
    (reason_moved given more learned i entries old.0.lit old.0.reason (reasons i old.0 old.1))

-- a number that was moved is one of as many clauses more
moved_less : (g k r n bound : ℕ) → r < n → n + k ≤ bound → moved_number g k r < bound
moved_less g k r n bound less most = elim (less_or_not r g) as (λ _. moved_number g k r < bound) [
  | inl below ↦ rw moved_below (omega (arith, less, most))
  | inr past ↦ rw moved_past (omega (arith, less, most))
]

short_moved : (clauses : List (List Lit)) (prefix : List Entry) (l : Lit) (g k bound : ℕ) (o : Option ℕ) → length clauses + k ≤ bound → IfSome o (IsReason clauses prefix l)
    → IfSome o (λ number. moved_number g k number < bound)
short_moved clauses prefix l g k bound None most reason = tt
short_moved clauses prefix l g k bound (Some r) most reason = moved_less g k r (length clauses) bound (slice_get_within clauses r reason.clause reason.occurs) most

pub reasons_short : (clauses : List (List Lit)) (entries : List Entry) (g k bound : ℕ) → length clauses + k ≤ bound → HaveReasons clauses entries
    → All (λ (e : Entry). IfSome e.reason (λ number. moved_number g k number < bound)) entries
reasons_short clauses entries g k bound most reasons i d within =
    short_moved clauses (take i entries) (get_or entries i d).lit g k bound (get_or entries i d).reason most (reasons i (get_or entries i d) (slice_get-get_or entries i d within))

pub length_prefix : {A : Type 0} (n : ℕ) (xs : List A) → n ≤ length xs → length (take n xs) ≡ n
length_prefix zero [] within = refl
length_prefix zero (x ∷ xs) within = refl
length_prefix (suc n) [] within = absurd (omega (arith, within))
length_prefix (suc n) (x ∷ xs) within = let rest = length_prefix n xs (omega (arith, within)) in omega (arith, rest)

-- the clauses that came are taken in
pub derived_taken_in : (given : List (List Lit)) (known : ℕ) (old new : State) → known ≤ length given → IsDerived (take known given) old → new.learned.items ≡ old.learned.items
    → new.steps.items ≡ old.steps.items → new.trail.entries.items ≡ map (moved_entry known (length given - known)) old.trail.entries.items → IsDerived given new
derived_taken_in given known old new within before learned steps entries =
    let prefix = take known given in
    let more = drop known given in
    let whole = take-append-drop known given in
    let few : length prefix ≡ known = length_prefix known given within in
    let rest : length more ≡ length given - known = length-drop known given in
    record {
      derives = subst (λ dated. AreDerived given dated (all_clauses given new)) (sym steps)
          (subst (λ ls. AreDerived given old.steps.items (given ++ lists_of ls)) (sym learned)
          (subst (λ gs. AreDerived gs old.steps.items (gs ++ lists_of old.learned.items)) whole
          (derived_further prefix more (lists_of old.learned.items) old.steps.items before.derives)));
      reasons = subst (λ es. HaveReasons (all_clauses given new) es) (sym entries)
          (subst (λ ls. HaveReasons (given ++ lists_of ls) (map (moved_entry known (length given - known)) old.trail.entries.items)) (sym learned)
          (subst (λ gs. HaveReasons (gs ++ lists_of old.learned.items) (map (moved_entry known (length given - known)) old.trail.entries.items)) whole
          (subst (λ n. HaveReasons ((prefix ++ more) ++ lists_of old.learned.items) (map (moved_entry n (length given - known)) old.trail.entries.items)) few
          (subst (λ n. HaveReasons ((prefix ++ more) ++ lists_of old.learned.items) (map (moved_entry (length prefix) n) old.trail.entries.items)) rest
          (reasons_moved prefix more (lists_of old.learned.items) old.trail.entries.items before.reasons)))));
    }

pub ready_taken_in : (old new : State) (g k : ℕ) → IsReady old → new.trail.entries.items ≡ map (moved_entry g k) old.trail.entries.items → new.trail.values ≡ old.trail.values
    → new.resolvent ≡ old.resolvent → IsReady new
ready_taken_in old new g k ready entries values resolvent =
    let moved = map (moved_entry g k) old.trail.entries.items in
    record {
      new = subst AreNew (sym entries) (new_moved g k old.trail.entries.items ready.new);
      values = subst (λ es. AreValues es new.trail.values.items) (sym entries)
          (subst (λ vs. AreValues moved vs.items) (sym values) (values_moved g k old.trail.entries.items old.trail.values.items ready.values));
      room = subst (λ es. HasRoom es new.trail.values.items) (sym entries)
          (subst (λ vs. HasRoom moved vs.items) (sym values) (room_moved g k old.trail.entries.items old.trail.values.items ready.room));
      empty = subst (λ r. (l : Lit) → held r l ≡ false) (sym resolvent) ready.empty;
      listed = subst AreListed (sym resolvent) ready.listed;
    }
