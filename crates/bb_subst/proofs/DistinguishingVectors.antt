-- Forced vectors differ, and vectors that differ are few.
use Rattle.std.proofs.Common.{◌≡◌, ◌+◌, ◌^◌, ◌<◌, ◌≤◌, Bool, List, ◌∷◌, ◌++◌, length, map, take, drop, get_or, sym, ap, ◌∙◌, subst, arith}
use Rattle.std.specs.Prelude.{Contains}
use Rattle.std.specs.List.{range_with_len}
use Rattle.std.proofs.lemmas.List.{get_or-take, take-append-drop, length-take-le}
use Rattle.std.proofs.lemmas.List.Elements.{All-contains, All-get_or}
use Rattle.std.proofs.lemmas.List.FromFn.{length-map-range_with_len, get_or-map-range_with_len}
use Rattle.std.proofs.lemmas.Option.{slice_get-get_or}
use Rattle.bb_bits.specs.Numbers.{number_of, bits_of}
use Rattle.bb_lemmas.proofs.Apart.{at_most_as_many}
use Rattle.bb_lemmas.proofs.Places.{drop_at}
use Rattle.bb_net.specs.Kinds.{per_box}
use Rattle.bb_subst.specs.Distinguishing.{AreEquivalentAt}
use Rattle.bb_subst.specs.Laws.DistinguishingLaws.{DistinguishingVectorsAreDistinct, VectorsAreFew}
use Rattle.bb_subst.proofs.ChoiceTrees.{NumbersAreBelow}

pub distinguishing_vectors_are_distinct : DistinguishingVectorsAreDistinct
distinguishing_vectors_are_distinct spec imp kinds vectors distinguishing i j d less within same =
    let x = get_or vectors j d in
    let split : vectors ≡ take j vectors ++ x ∷ drop (j + 1) vectors =
    sym (take-append-drop j vectors) ∙ ap (λ l. take j vectors ++ l) (drop_at vectors j x (slice_get-get_or vectors j d within)) in
    let found = distinguishing.each (take j vectors) (drop (j + 1) vectors) x split in
    let tables = per_box kinds found.0 in
    let earlier : AreEquivalentAt spec imp tables (get_or (take j vectors) i d) =
    All-get_or (AreEquivalentAt spec imp tables) (take j vectors) i d (omega (arith, less, within, length-take-le j vectors (omega (arith, within)))) found.2 in
    let there : AreEquivalentAt spec imp tables x = subst (AreEquivalentAt spec imp tables) (get_or-take j vectors i d less ∙ same) earlier in
    found.3.2 (there found.3.0 found.3.1)

-- bits are found again from the number that they spell
abbrev pub SpelledOnce : Type 0
SpelledOnce = (bits : List Bool) → bits_of (length bits) (number_of bits) ≡ bits

pub vectors_are_few : NumbersAreBelow → SpelledOnce → VectorsAreFew
vectors_are_few below once n vectors wide distinct =
    let all = map (bits_of n) (range_with_len 0 (2 ^ n)) in
    let long : length all ≡ 2 ^ n = length-map-range_with_len (bits_of n) 0 (2 ^ n) in
    let there : (x : List Bool) → Contains vectors x → Contains all x = λ x has.
    let is : length x ≡ n = All-contains (λ (x : List Bool). length x ≡ n) vectors x wide has in
    let low : number_of x < 2 ^ n = subst (λ m. number_of x < 2 ^ m) is (below x) in
    let spelled : bits_of n (number_of x) ≡ x = subst (λ m. bits_of m (number_of x) ≡ x) is (once x) in
    (number_of x, omega (arith, long, low), get_or-map-range_with_len (bits_of n) 0 (2 ^ n) (number_of x) (number_of x) x low (omega arith) ∙ spelled) in
    let less : length vectors ≤ length all = at_most_as_many vectors all distinct there in
    omega (arith, less, long)
