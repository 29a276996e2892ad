-- Forced vectors among those that are held.
use Rattle.std.proofs.Common.{◌*◌, ◌≡◌, ℕ, ◌≤◌, refl, Bool, List, [], ◌∷◌, ◌++◌, length, get_or, All, sym, ap, ◌∙◌, subst, arith}
use Rattle.std.specs.Prelude.{Contains}
use Rattle.std.proofs.lemmas.List.{length-append}
use Rattle.std.proofs.lemmas.List.Elements.{All-append, All-cons, All-nil, All-contains, Contains-append_left, Contains-append_right, Contains-get_or}
use Rattle.std.proofs.lemmas.Nat.{mul-le}
use Rattle.bb_cnf.specs.Clauses.{Formula}
use Rattle.bb_subst.specs.Distinguishing.{AreDistinguishing}
use Rattle.bb_subst.specs.Laws.DistinguishingLaws.{DistinguishingVectorsAreDistinct}
use Rattle.bb_lemmas.proofs.Apart.{at_most_as_many}
use Rattle.bb_net.specs.Equivalence.{IsVector}
use Rattle.bb_net.specs.Netlists.{Netlist}
use Rattle.bb_expand.specs.ClauseCounts.{clauses_per_vector}
use Rattle.bb_expand.specs.declared.samples.SampleSet.{SampleSet}
use Rattle.bb_expand.specs.Expansions.{expansion}
use Rattle.bb_expand.specs.Inside.Failures.{AreDistinctWith}
use Rattle.bb_expand.specs.Inside.Sampling.{IsSampleSet, distinguishing_vectors, sample_vectors}
use Rattle.bb_expand.specs.Laws.{ClausesAreCounted}

-- what holds of each entry of a list holds of those that are in it
pub all_among : {A : Type 0} (P : A → Type 0) (xs ys : List A) → All P ys → All (Contains ys) xs → All P xs
all_among P xs ys all among k d lt = All-contains P ys (get_or xs k d) all (among k d lt)

pub all_in_itself : {A : Type 0} (xs : List A) → All (Contains xs) xs
all_in_itself xs k d lt = Contains-get_or xs k d lt

-- one more may follow both lists, or after the second alone
pub among_after : {A : Type 0} (xs ys : List A) (x : A) → All (Contains ys) xs → All (Contains (ys ++ x ∷ [])) xs
among_after xs ys x among k d lt = Contains-append_left ys (x ∷ []) (get_or xs k d) (among k d lt)

pub among_both : {A : Type 0} (xs ys : List A) (x : A) → All (Contains ys) xs → All (Contains (ys ++ x ∷ [])) (xs ++ x ∷ [])
among_both xs ys x among =
    All-append (Contains (ys ++ x ∷ [])) xs (x ∷ []) (among_after xs ys x among)
    (All-cons (Contains (ys ++ x ∷ [])) x [] (Contains-append_right ys (x ∷ []) x (0, omega arith, refl)) (All-nil (Contains (ys ++ x ∷ []))))

-- of the same samples others may be known to be distinguishing
pub with_distinguishing : (spec imp : Netlist) (kinds : List ℕ) (budget : ℕ) (old new : SampleSet) → IsSampleSet spec imp kinds budget old → sample_vectors new ≡ sample_vectors old → new.solver ≡ old.solver → AreDistinguishing spec imp kinds (distinguishing_vectors new)
    → All (Contains (sample_vectors old)) (distinguishing_vectors new) → IsSampleSet spec imp kinds budget new
with_distinguishing spec imp kinds budget old new is vectors cnf distinguishing among = record {
  each = subst (AreDistinctWith (IsVector imp)) (sym vectors) is.each;
  distinguishing = distinguishing;
  among = subst (λ xs. All (Contains xs) (distinguishing_vectors new)) (sym vectors) among;
  expands = cnf ∙ (is.expands ∙ ap (expansion spec imp kinds) (sym vectors));
  within = subst (λ (f : Formula). length f.clauses ≤ budget) (sym cnf) is.within;
}

-- the clauses over fewer vectors are fewer
clauses_of_fewer : ClausesAreCounted → (spec imp : Netlist) (kinds : List ℕ) (xs ys : List (List Bool)) → length xs ≤ length ys → length (expansion spec imp kinds xs).clauses ≤ length (expansion spec imp kinds ys).clauses
clauses_of_fewer counted spec imp kinds xs ys few =
    let product : length xs * clauses_per_vector imp ≤ length ys * clauses_per_vector imp = mul-le (length xs) (clauses_per_vector imp) (length ys) (clauses_per_vector imp) few (omega arith) in
    omega (arith, product, counted spec imp kinds xs, counted spec imp kinds ys)

pub clauses_of_prefix : ClausesAreCounted → (spec imp : Netlist) (kinds : List ℕ) (all xs ys : List (List Bool)) → all ≡ xs ++ ys → length (expansion spec imp kinds xs).clauses ≤ length (expansion spec imp kinds all).clauses
clauses_of_prefix counted spec imp kinds all xs ys is = clauses_of_fewer counted spec imp kinds xs all (let long = length-append xs ys in omega (arith, long, ap length is))

-- so those over the distinguishing ones fit where those over all held ones do
pub distinguishing_fit : ClausesAreCounted → DistinguishingVectorsAreDistinct → (spec imp : Netlist) (kinds : List ℕ) (budget : ℕ) (samples : SampleSet) → IsSampleSet spec imp kinds budget samples → length (expansion spec imp kinds (distinguishing_vectors samples)).clauses ≤ budget
distinguishing_fit counted apart spec imp kinds budget samples is =
    let few = at_most_as_many (distinguishing_vectors samples) (sample_vectors samples) (apart spec imp kinds (distinguishing_vectors samples) is.distinguishing)
    (λ x has. All-contains (Contains (sample_vectors samples)) (distinguishing_vectors samples) x is.among has) in
    omega (arith, clauses_of_fewer counted spec imp kinds (distinguishing_vectors samples) (sample_vectors samples) few, is.within, ap (λ (f : Formula). length f.clauses) is.expands)
