-- Each pattern has a bit for each input.
use Rattle.std.proofs.Common.{◌≡◌, ℕ, ◌*◌, Bool, true, false, List, [], ◌∷◌, ◌++◌, map, replicate, length, All, ◌∙◌}
use Rattle.std.specs.List.{range_with_len}
use Rattle.std.proofs.lemmas.List.{length-replicate, length-set}
use Rattle.std.proofs.lemmas.List.Elements.{All-nil, All-cons, All-append}
use Rattle.std.proofs.lemmas.List.FromFn.{length-map-range_with_len}
use Rattle.bb_tern.specs.Patterns.{one_against_all, drawn_bit, drawn_pattern, PatternsAreVectors}

each : (n : ℕ) (f : ℕ → List Bool) → ((k : ℕ) → length (f k) ≡ n) → (ks : List ℕ) → All (λ x. length x ≡ n) (map f ks)
each n f long [] = All-nil _
each n f long (k ∷ ks) = All-cons (λ x. length x ≡ n) (f k) (map f ks) (long k) (each n f long ks)

one_against_all-length : (inputs : ℕ) (bit rest : Bool) (i : ℕ) → length (one_against_all inputs bit rest i) ≡ inputs
one_against_all-length inputs bit rest i = length-set (replicate inputs rest) i bit ∙ length-replicate inputs rest

pub patterns_are_vectors : PatternsAreVectors
patterns_are_vectors inputs drawn seed =
    let P = λ (x : List Bool). length x ≡ inputs in
    let ones = map (one_against_all inputs true false) (range_with_len 0 inputs) in
    let zeros = map (one_against_all inputs false true) (range_with_len 0 inputs) in
    let random = map (drawn_pattern inputs seed) (range_with_len 0 drawn) in
    All-cons P (replicate inputs false) (replicate inputs true ∷ ones ++ (zeros ++ random)) (length-replicate inputs false)
    (All-cons P (replicate inputs true) (ones ++ (zeros ++ random)) (length-replicate inputs true)
    (All-append P ones (zeros ++ random) (each inputs (one_against_all inputs true false) (one_against_all-length inputs true false) (range_with_len 0 inputs))
    (All-append P zeros random (each inputs (one_against_all inputs false true) (one_against_all-length inputs false true) (range_with_len 0 inputs))
    (each inputs (drawn_pattern inputs seed) (λ k. length-map-range_with_len (drawn_bit seed) (k * inputs) inputs) (range_with_len 0 drawn)))))
