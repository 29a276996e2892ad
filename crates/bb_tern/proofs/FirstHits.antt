-- the first hit of all patterns, pass by pass
use Rattle.std.proofs.Common.{◌≡◌, ◌<◌, ◌≤◌, ◌+◌, ◌-◌, ℕ, zero, suc, Bool, List, [], ◌∷◌, ◌++◌, length, take, drop, get_or, refl, sym, ap, ◌∙◌, subst, inl, inr, arith, take-append-drop, drop-cons, get_or-take, get_or-drop, take_all, length-drop, map}
use Rattle.std.proofs.lemmas.Bool.{cases_lt}
use Rattle.std.proofs.lemmas.List.{length-take-le, get_or_default, length-map}
use Rattle.bb_net.specs.Netlists.{Netlist}
use Rattle.bb_net.specs.Equivalence.{IsOutput}
use Rattle.bb_net.specs.Conditions.{MayBeRight, IsKnownWrong, MayBeRightAmong, IsFirstHit}
use Rattle.bb_tern.specs.Inside.Lanes.{pattern_at, IsHitAt, NoneIsHit}

-- no pattern below a number is a hit
abbrev pub NoneBelow : Netlist → Netlist → List (List Bool) → ℕ → Type 0
NoneBelow spec imp rows n = (i : ℕ) → i < n → (o : ℕ) → IsOutput imp o → MayBeRight spec imp (pattern_at rows i) o

-- some of the patterns, one after another
pub record IsChunk (rows chunk : List (List Bool)) (start : ℕ) : Type 0 where
  pub same : (i : ℕ) → i < length chunk → pattern_at chunk i ≡ pattern_at rows (start + i)
  pub inside : start + length chunk ≤ length rows

pub among_first : (spec imp : Netlist) (rows : List (List Bool)) (n : ℕ) → n ≤ length rows → NoneBelow spec imp rows n → MayBeRightAmong spec imp (take n rows)
among_first spec imp rows n l none x occurs o output =
    let long = length-take-le n rows l in
    let i : ℕ = occurs.0 in
    let below : i < n = omega (arith, occurs.1, long) in
    let is : pattern_at rows i ≡ x = get_or_default rows i [] x (omega (arith, below, l)) ∙ (sym (get_or-take n rows i x below) ∙ occurs.2) in
    subst (λ p. MayBeRight spec imp p o) is (none i below o output)

pub none_in_chunk : (spec imp : Netlist) (rows chunk : List (List Bool)) (start : ℕ) → IsChunk rows chunk start → NoneBelow spec imp rows start → NoneIsHit spec imp chunk → NoneBelow spec imp rows (start + length chunk)
none_in_chunk spec imp rows chunk start c none more i below o output = elim (cases_lt i start) [
  | inl before ↦ none i before o output
  | inr afterwards ↦
      let k : ℕ = i - start in
      let at : start + k ≡ i = omega (arith, afterwards) in
      let inside : k < length chunk = omega (arith, below, afterwards) in
      subst (λ p. MayBeRight spec imp p o) (c.same k inside ∙ ap (pattern_at rows) at) (more k inside o output)
]

pub first_in_chunk : (spec imp : Netlist) (rows chunk : List (List Bool)) (start k j : ℕ) → IsChunk rows chunk start → NoneBelow spec imp rows start → IsHitAt spec imp chunk k j → IsHitAt spec imp rows (start + k) j
first_in_chunk spec imp rows chunk start k j c none hit =
    let row = c.same k hit.inside in
    record {
      inside = omega (arith, hit.inside, c.inside);
      earlier = λ i l o output. elim (cases_lt i start) [
        | inl before ↦ none i before o output
        | inr afterwards ↦
            let m : ℕ = i - start in
            let at : start + m ≡ i = omega (arith, afterwards) in
            subst (λ p. MayBeRight spec imp p o) (c.same m (omega (arith, l, afterwards, hit.inside)) ∙ ap (pattern_at rows) at) (hit.earlier m (omega (arith, l, afterwards)) o output)
      ];
      there = hit.there;
      wrong = subst (λ p. IsKnownWrong spec imp p j) row hit.wrong;
      first = λ o l. subst (λ p. MayBeRight spec imp p o) row (hit.first o l);
    }

-- a hit by its number is the first hit, with the patterns before and after it
pub first_hit_is : (spec imp : Netlist) (rows : List (List Bool)) (n j : ℕ) (pattern : List Bool) → IsHitAt spec imp rows n j → pattern ≡ pattern_at rows n → IsFirstHit spec imp rows pattern j
first_hit_is spec imp rows n j pattern hit is = record {
  before = take n rows;
  after = drop (suc n) rows;
  occurs = sym (take-append-drop n rows) ∙ ap (λ rest. take n rows ++ rest) (drop-cons rows n [] hit.inside ∙ ap (λ p. p ∷ drop (suc n) rows) (sym is));
  earlier = among_first spec imp rows n (omega (arith, hit.inside)) hit.earlier;
  there = hit.there;
  wrong = subst (λ p. IsKnownWrong spec imp p j) (sym is) hit.wrong;
  first = λ o l. subst (λ p. MayBeRight spec imp p o) (sym is) (hit.first o l);
}

pub none_is_hit : (spec imp : Netlist) (rows : List (List Bool)) → NoneIsHit spec imp rows → MayBeRightAmong spec imp rows
none_is_hit spec imp rows none = subst (MayBeRightAmong spec imp) (take_all (length rows) rows (omega arith)) (among_first spec imp rows (length rows) (omega arith) none)

pub get_or-map : {X : Type 0} (view : X → List Bool) (xs : List X) (i : ℕ) (d : X) → i < length xs → get_or (map view xs) i [] ≡ view (get_or xs i d)
get_or-map view [] i d l = absurd (omega (arith, l))
get_or-map view (x ∷ xs) zero d l = refl
get_or-map view (x ∷ xs) (suc i) d l = get_or-map view xs i d (omega (arith, l))

first_of : {X : Type 0} (xs : List X) → 0 < length xs → X
first_of [] l = absurd (omega (arith, l))
first_of (x ∷ xs) l = x

pub is_chunk : {X : Type 0} (view : X → List Bool) (xs : List X) (start n : ℕ) → start + n ≤ length xs → IsChunk (map view xs) (map view (take n (drop start xs))) start
is_chunk view xs start n l =
    let rest = length-drop start xs in
    let size : length (take n (drop start xs)) ≡ n = length-take-le n (drop start xs) (omega (arith, rest, l)) in
    let chunk = length-map (take n (drop start xs)) view in
    let rows = length-map xs view in
    record {
      same = λ i below.
          let inside : i < length (take n (drop start xs)) = omega (arith, below, chunk) in
          let d = first_of xs (omega (arith, inside, size, l)) in
          get_or-map view (take n (drop start xs)) i d inside
          ∙ (ap view (get_or-take n (drop start xs) i d (omega (arith, inside, size)) ∙ get_or-drop start xs i d) ∙ sym (get_or-map view xs (start + i) d (omega (arith, inside, size, l))));
      inside = omega (arith, chunk, size, rows, l);
    }
