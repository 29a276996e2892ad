-- When the steps that were followed make a refutation.
use Rattle.std.proofs.Common.{◌≡◌, ℕ, ◌+◌, ◌-◌, ◌<◌, suc, true, false, ◌||◌, Option, Some, None, IsSomeAnd, option_map, option_and_then, List, [], ◌∷◌, ◌++◌, length, map, drop, slice_get, slice_index_or, refl, sym, ◌∙◌, ap, subst, arith, length-append}
use Rattle.std.proofs.Math.Seq.{drop-cons}
use Rattle.std.proofs.lemmas.Simd.{map-map}
use Rattle.std.proofs.lemmas.List.{length-map}
use Rattle.std.proofs.lemmas.Option.{slice_get-map}
use Rattle.std.specs.List.{list_any}
use Rattle.bb_lemmas.proofs.Places.{got_right}
use Rattle.smallvec.specs.SmallVec.{SmallVec}
use Rattle.bb_cnf.specs.declared.clauses.Lit.{Lit}
use Rattle.bb_cnf.specs.declared.refutation.Step.{Step}
use Rattle.bb_cnf.specs.Clauses.{Literals, literals_of, lists_of, same_literal}
use Rattle.bb_cnf.specs.Chains.{made_by, derived, IsEmpty, EndsEmpty, IsRefutation}
use Rattle.bb_cnf.specs.Inside.PartialResolvent.{sets_of}
use Rattle.bb_cnf.proofs.Literals.{same_literal-itself}

pub sets_of-lists : (given : List (SmallVec Lit)) → map literals_of (lists_of given) ≡ sets_of given
sets_of-lists given = map-map literals_of (λ clause. clause.items) given

pub derived_none : (earlier : List Literals) (steps : List Step) (i : ℕ) (d : Step) → i < length steps
    → made_by earlier (slice_index_or steps i d) ≡ None → derived earlier (drop i steps) ≡ None
derived_none earlier steps i d within none =
    ap (derived earlier) (drop-cons steps i d within)
    ∙ ap (option_and_then (λ c. derived (earlier ++ c ∷ []) (drop (suc i) steps))) none

pub not_refutation : (given : List (SmallVec Lit)) (steps : List Step) → derived (sets_of given) steps ≡ None → IsRefutation (lists_of given) steps → ⊥
not_refutation given steps none refutation =
    subst (λ o. IsSomeAnd o EndsEmpty) (ap (λ sets. derived sets steps) (sets_of-lists given) ∙ none) refutation.1

pub last_of : (given made : List (SmallVec Lit)) → 0 < length made
    → slice_get (sets_of given ++ sets_of made) (length (sets_of given ++ sets_of made) - 1) ≡ option_map (λ clause. literals_of clause.items) (slice_get made (length made - 1))
last_of given made some =
    let place : length (sets_of given ++ sets_of made) - 1 ≡ length (sets_of given) + (length made - 1) =
    let whole : length (sets_of given ++ sets_of made) ≡ length (sets_of given) + length (sets_of made) = length-append (sets_of given) (sets_of made) in
    let part : length (sets_of made) ≡ length made = length-map made (λ clause. literals_of clause.items) in
    omega (arith, whole, part, some) in
    ap (slice_get (sets_of given ++ sets_of made)) place
    ∙ got_right (sets_of given) (sets_of made) (length made - 1)
    ∙ slice_get-map (λ clause. literals_of clause.items) made (length made - 1)

pub empty_is : (lits : List Lit) → IsEmpty (literals_of lits) → lits ≡ []
empty_is [] empty = refl
empty_is (l ∷ lits) empty =
    let clash : false ≡ true = sym (empty l) ∙ ap (λ b. b || list_any (λ m. same_literal m l) lits) (same_literal-itself l) in cc

pub is_empty : (lits : List Lit) → lits ≡ [] → IsEmpty (literals_of lits)
is_empty lits nothing l = ap (λ xs. literals_of xs l) nothing

pub IsSomeAnd-map : {A B : Type 0} (f : A → B) (P : A → Type 0) (Q : B → Type 0) (o : Option A) → ((a : A) → P a → Q (f a)) → IsSomeAnd o P → IsSomeAnd (option_map f o) Q
IsSomeAnd-map f P Q None step p = p
IsSomeAnd-map f P Q (Some a) step p = step a p

pub IsSomeAnd-unmap : {A B : Type 0} (f : A → B) (P : A → Type 0) (Q : B → Type 0) (o : Option A) → ((a : A) → Q (f a) → P a) → IsSomeAnd (option_map f o) Q → IsSomeAnd o P
IsSomeAnd-unmap f P Q None step p = p
IsSomeAnd-unmap f P Q (Some a) step p = step a p

-- the last of the stored clauses is empty
abbrev pub EndsInEmpty : List (SmallVec Lit) → Type 0
EndsInEmpty made = IsSomeAnd (slice_get made (length made - 1)) (λ clause. clause.items ≡ [])

pub some_made : (made : List (SmallVec Lit)) → EndsInEmpty made → 0 < length made
some_made [] ends = absurd ends
some_made (c ∷ made) ends = grind arith

pub refutation_made : (given made : List (SmallVec Lit)) (steps : List Step) → derived (sets_of given) steps ≡ Some (sets_of given ++ sets_of made)
    → length made ≡ length steps → EndsInEmpty made → IsRefutation (lists_of given) steps
refutation_made given made steps all count ends =
    let some : 0 < length made = some_made made ends in (
      omega (arith, some, count),
      subst (λ o. IsSomeAnd o EndsEmpty) (sym (ap (λ sets. derived sets steps) (sets_of-lists given) ∙ all))
          (subst (λ o. IsSomeAnd o IsEmpty) (sym (last_of given made some))
          (IsSomeAnd-map (λ clause. literals_of clause.items) (λ clause. clause.items ≡ []) IsEmpty (slice_get made (length made - 1)) (λ clause. is_empty clause.items) ends)),
    )

pub refutation_ends : (given made : List (SmallVec Lit)) (steps : List Step) → derived (sets_of given) steps ≡ Some (sets_of given ++ sets_of made)
    → length made ≡ length steps → IsRefutation (lists_of given) steps → EndsInEmpty made
refutation_ends given made steps all count refutation =
    let some : 0 < length made = omega (arith, refutation.0, count) in
    IsSomeAnd-unmap (λ clause. literals_of clause.items) (λ clause. clause.items ≡ []) IsEmpty (slice_get made (length made - 1)) (λ clause. empty_is clause.items)
    (subst (λ o. IsSomeAnd o IsEmpty) (last_of given made some)
    (subst (λ o. IsSomeAnd o EndsEmpty) (ap (λ sets. derived sets steps) (sets_of-lists given) ∙ all) refutation.1))
