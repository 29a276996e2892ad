-- Steps of earlier days, among the given clauses of today.
use Rattle.std.proofs.Common.{◌≡◌, ◌<◌, ◌≤◌, ℕ, suc, ◌+◌, ◌-◌, Some, List, [], ◌∷◌, ◌++◌, length, map, slice_get, option_and_then, All, refl, sym, ◌∙◌, ap, ap₂, inl, inr, arith, length-append}
use Rattle.std.proofs.lemmas.List.{map-append, length-map}
use Rattle.std.proofs.lemmas.List.Elements.{All-push, All-append, All-nil}
use Rattle.std.proofs.lemmas.Option.{slice_get_within}
use Rattle.bb_lemmas.proofs.Turns.{all_mapped}
use Rattle.bb_lemmas.proofs.Orders.{less_or_not}
use Rattle.bb_cnf.specs.declared.clauses.Lit.{Lit}
use Rattle.bb_cnf.specs.declared.refutation.Step.{Step}
use Rattle.bb_cnf.specs.Clauses.{Literals, literals_of}
use Rattle.bb_cnf.specs.Chains.{chain, resolution, made_by}
use Rattle.bb_cnf.specs.Lines.{step_numbers}
use Rattle.bb_cdcl.specs.declared.numbers.DatedStep.{DatedStep}
use Rattle.bb_cdcl.specs.Laws.Numbers.{moved_number, moved_pair, moved_numbers}
use Rattle.bb_cdcl.specs.Inside.Dates.{made_with, derived_with, numbers_after, AreBelow, AreDerived}
use Rattle.bb_cdcl.proofs.Moved.{moved_below, moved_past, came_by, numbers_move}

-- a number that was moved moves on
number_further : (d g k n : ℕ) → d ≤ g → moved_number d (g + k - d) n ≡ moved_number g k (moved_number d (g - d) n)
number_further d g k n early = elim (less_or_not n d) as (λ _. moved_number d (g + k - d) n ≡ moved_number g k (moved_number d (g - d) n)) [
  | inl below ↦ moved_below d (g + k - d) n below ∙ sym (ap (moved_number g k) (moved_below d (g - d) n below) ∙ moved_below g k n (omega (arith, below, early)))
  | inr past ↦
      moved_past d (g + k - d) n past ∙ omega (arith, early)
      ∙ sym (ap (moved_number g k) (moved_past d (g - d) n past) ∙ moved_past g k (n + (g - d)) (omega (arith, past, early)))
]

pairs_further : (d g k : ℕ) (pairs : List (ℕ × ℕ)) → d ≤ g → map (moved_pair d (g + k - d)) pairs ≡ map (moved_pair g k) (map (moved_pair d (g - d)) pairs)
pairs_further d g k [] early = refl
pairs_further d g k (pair ∷ pairs) early = ap₂ (λ (n : ℕ) (ps : List (ℕ × ℕ)). (n, pair.1) ∷ ps) (number_further d g k pair.0 early) (pairs_further d g k pairs early)

step_further : (g k : ℕ) (d : DatedStep) → d.given ≤ g → numbers_after (g + k) d ≡ moved_numbers g k (numbers_after g d)
step_further g k d early = ap₂ (λ (n : ℕ) (ps : List (ℕ × ℕ)). (n, ps)) (number_further d.given g k d.step.first early) (pairs_further d.given g k d.step.rest.items early)

steps_further : (g k : ℕ) (dated : List DatedStep) → All (λ d. d.given ≤ g) dated → map (numbers_after (g + k)) dated ≡ map (moved_numbers g k) (map (numbers_after g) dated)
steps_further g k [] early = refl
steps_further g k (d ∷ dated) early =
    ap₂ (λ (s : ℕ × List (ℕ × ℕ)) (ss : List (ℕ × List (ℕ × ℕ))). s ∷ ss) (step_further g k d (early 0 d (omega arith)))
    (steps_further g k dated (λ j e l. early (suc j) e (omega (arith, l))))

-- more given clauses came
pub derived_further : (given more learned : List (List Lit)) (dated : List DatedStep) → AreDerived given dated (given ++ learned)
    → AreDerived (given ++ more) dated ((given ++ more) ++ learned)
derived_further given more learned dated before =
    let both = length-append given more in
    let prefix = length-map given literals_of in
    let after = length-map more literals_of in
    let steps : map (numbers_after (length (given ++ more))) dated ≡ map (moved_numbers (length (map literals_of given)) (length (map literals_of more))) (map (numbers_after (length given)) dated) =
    ap (λ n. map (numbers_after n) dated) both ∙ steps_further (length given) (length more) dated before.early
    ∙ ap₂ (λ n m. map (moved_numbers n m) (map (numbers_after (length given)) dated)) (sym prefix) (sym after) in
    record {
      early = λ k d l. let e = before.early k d l in omega (arith, e, both);
      derives = ap₂ derived_with (map-append literals_of given more) steps
          ∙ numbers_move (map literals_of given) (map literals_of more) (map literals_of learned) (map (numbers_after (length given)) dated)
          (before.derives ∙ ap Some (map-append literals_of given learned))
          ∙ ap Some (sym (map-append literals_of (given ++ more) learned ∙ ap (λ gs. gs ++ map literals_of learned) (map-append literals_of given more)));
    }

-- a step of today stays as it is
number_now : (g k n : ℕ) → k ≡ 0 → moved_number g k n ≡ n
number_now g k n none = elim (less_or_not n g) as (λ _. moved_number g k n ≡ n) [
  | inl below ↦ moved_below g k n below
  | inr past ↦ moved_past g k n past ∙ omega (arith, none)
]

pairs_now : (g k : ℕ) (pairs : List (ℕ × ℕ)) → k ≡ 0 → map (moved_pair g k) pairs ≡ pairs
pairs_now g k [] none = refl
pairs_now g k (pair ∷ pairs) none = ap₂ (λ (n : ℕ) (ps : List (ℕ × ℕ)). (n, pair.1) ∷ ps) (number_now g k pair.0 none) (pairs_now g k pairs none)

pub numbers_now : (given : ℕ) (d : DatedStep) → given - d.given ≡ 0 → numbers_after given d ≡ step_numbers d.step
numbers_now given d none = ap₂ (λ (n : ℕ) (ps : List (ℕ × ℕ)). (n, ps)) (number_now d.given (given - d.given) d.step.first none) (pairs_now d.given (given - d.given) d.step.rest.items none)

-- one step more
derived_push : (earlier all : List Literals) (steps : List (ℕ × List (ℕ × ℕ))) (step : ℕ × List (ℕ × ℕ)) (c : Literals) → derived_with earlier steps ≡ Some all → made_with all step ≡ Some c
    → derived_with earlier (steps ++ step ∷ []) ≡ Some (all ++ c ∷ [])
derived_push earlier all [] step c before made =
    let same : earlier ≡ all = (let s : Some earlier ≡ Some all = before in cc) in
    ap (λ e. derived_with e (step ∷ [])) same ∙ ap (option_and_then (λ d. Some (all ++ d ∷ []))) made
derived_push earlier all (first ∷ steps) step c before made =
    let one = came_by (λ d. derived_with (earlier ++ d ∷ []) steps) (made_with earlier first) all before in
    ap (option_and_then (λ d. derived_with (earlier ++ d ∷ []) (steps ++ step ∷ []))) one.1 ∙ derived_push (earlier ++ one.0 ∷ []) all steps step c one.2 made

-- a step of today, and the clause that it makes
pub derived_today : (given all : List (List Lit)) (dated : List DatedStep) (step : Step) (clause : List Lit) → AreDerived given dated all
    → made_by (map literals_of all) step ≡ Some (literals_of clause) → AreDerived given (dated ++ record { given = length given; step = step } ∷ []) (all ++ clause ∷ [])
derived_today given all dated step clause before made =
    let last : DatedStep = record { given = length given; step = step } in
    record {
      early = All-push (λ (d : DatedStep). d.given ≤ length given) dated last before.early (omega arith);
      derives = ap (derived_with (map literals_of given)) (map-append (numbers_after (length given)) dated (last ∷ []))
          ∙ derived_push (map literals_of given) (map literals_of all) (map (numbers_after (length given)) dated) (numbers_after (length given) last) (literals_of clause) before.derives
          (ap (made_with (map literals_of all)) (numbers_now (length given) last (omega arith)) ∙ made)
          ∙ ap Some (sym (map-append literals_of all (clause ∷ [])));
    }

-- each number of a step is one of a clause
below_of : {A : Type 0} (xs : List A) (n : ℕ) (x : A) → slice_get xs n ≡ Some x → n < length xs
below_of xs n x occurs = slice_get_within xs n x occurs

chain_below : (earlier : List Literals) (c d : Literals) (pairs : List (ℕ × ℕ)) → chain earlier c pairs ≡ Some d → All (λ pair. pair.0 < length earlier) pairs
chain_below earlier c d [] e = All-nil (λ (pair : ℕ × ℕ). pair.0 < length earlier)
chain_below earlier c d (pair ∷ pairs) e =
    let named = came_by (λ n. option_and_then (λ r. chain earlier r pairs) (resolution c n pair.1)) (slice_get earlier pair.0) d e in
    let step = came_by (λ r. chain earlier r pairs) (resolution c named.0 pair.1) d named.2 in
    All-append (λ (p : ℕ × ℕ). p.0 < length earlier) (pair ∷ []) pairs
    (All-push (λ (p : ℕ × ℕ). p.0 < length earlier) [] pair (All-nil (λ (p : ℕ × ℕ). p.0 < length earlier)) (below_of earlier pair.0 named.0 named.1))
    (chain_below earlier step.0 d pairs step.2)

derived_longer_than : (earlier all : List Literals) (steps : List (ℕ × List (ℕ × ℕ))) → derived_with earlier steps ≡ Some all → length all ≡ length earlier + length steps
derived_longer_than earlier all [] e = let same : earlier ≡ all = (let s : Some earlier ≡ Some all = e in cc) in rw (← same) (omega arith)
derived_longer_than earlier all (step ∷ steps) e =
    let first = came_by (λ c. derived_with (earlier ++ c ∷ []) steps) (made_with earlier step) all e in
    let rest = derived_longer_than (earlier ++ first.0 ∷ []) all steps first.2 in
    let longer = length-append earlier (first.0 ∷ []) in
    omega (arith, rest, longer)

pub numbers_below : (earlier all : List Literals) (steps : List (ℕ × List (ℕ × ℕ))) (bound : ℕ) → derived_with earlier steps ≡ Some all → length all ≤ bound → All (AreBelow bound) steps
numbers_below earlier all [] bound e most = All-nil (AreBelow bound)
numbers_below earlier all (step ∷ steps) bound e most =
    let first = came_by (λ c. derived_with (earlier ++ c ∷ []) steps) (made_with earlier step) all e in
    let start = came_by (λ c. chain earlier c step.1) (slice_get earlier step.0) first.0 first.1 in
    let whole = derived_longer_than earlier all (step ∷ steps) e in
    let own = below_of earlier step.0 start.0 start.1 in
    let pairs = chain_below earlier start.0 first.0 step.1 start.2 in
    All-append (AreBelow bound) (step ∷ []) steps
    (All-push (AreBelow bound) [] step (All-nil (AreBelow bound)) (omega (arith, own, whole, most), λ k d l. let b = pairs k d l in omega (arith, b, whole, most)))
    (numbers_below (earlier ++ first.0 ∷ []) all steps bound first.2 most)

-- so are those of dated steps
pub dated_below : (given all : List (List Lit)) (dated : List DatedStep) (bound : ℕ) → AreDerived given dated all → length all ≤ bound
    → All (λ d. AreBelow bound (numbers_after (length given) d)) dated
dated_below given all dated bound before most =
    all_mapped (AreBelow bound) (numbers_after (length given)) dated
    (numbers_below (map literals_of given) (map literals_of all) (map (numbers_after (length given)) dated) bound before.derives (let sets = length-map all literals_of in omega (arith, sets, most)))

pub as_many : (given all : List (List Lit)) (dated : List DatedStep) → AreDerived given dated all → length all ≡ length given + length dated
as_many given all dated before =
    let sets = length-map all literals_of in
    let prefix = length-map given literals_of in
    let steps = length-map dated (numbers_after (length given)) in
    let whole = derived_longer_than (map literals_of given) (map literals_of all) (map (numbers_after (length given)) dated) before.derives in
    omega (arith, sets, prefix, steps, whole)
