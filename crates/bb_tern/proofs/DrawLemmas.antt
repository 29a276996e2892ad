-- patterns, one after another
use Rattle.std.proofs.Common.{◌≡◌, ◌+◌, ◌^◌, ℕ, suc, Bool, nat_le, List, [], ◌∷◌, ◌++◌, map, refl, sym, ap, ap₂, ◌∙◌, append_assoc, arith}
use Rattle.std.specs.List.{range_with_len}
use Rattle.std.proofs.lemmas.List.FromFn.{map-range_with_len_more}
use Rattle.std.proofs.lemmas.List.{map-append}
use Rattle.bb_tern.specs.Patterns.{next_state, state_after, drawn_bit}

pub bits_more : (seed n i s : ℕ) (bits more : List Bool) → bits ≡ map (drawn_bit seed) (range_with_len n i) → s ≡ state_after seed (n + i) → more ≡ bits ++ nat_le (2 ^ 63) (next_state s) ∷ [] →
    more ≡ map (drawn_bit seed) (range_with_len n (i + 1))
bits_more seed n i s bits more e at pushed =
    pushed ∙ (ap₂ (λ xs t. xs ++ nat_le (2 ^ 63) (next_state t) ∷ []) e at ∙ sym (map-range_with_len_more (drawn_bit seed) n i (n + i) refl))

pub state_more : (seed n i s t : ℕ) → s ≡ state_after seed (n + i) → t ≡ next_state s → t ≡ state_after seed (n + (i + 1))
state_more seed n i s t at e =
    let next : suc (n + i) ≡ n + (i + 1) = omega arith in
    e ∙ (ap next_state at ∙ ap (state_after seed) next)

pub rows_more : {X : Type 0} (view : X → List Bool) (f : ℕ → List Bool) (old : List (List Bool)) (xs more : List X) (v : X) (i : ℕ) → map view xs ≡ old ++ map f (range_with_len 0 i) → more ≡ xs ++ v ∷ [] → view v ≡ f i →
    map view more ≡ old ++ map f (range_with_len 0 (i + 1))
rows_more view f old xs more v i e pushed is =
    ap (map view) pushed
    ∙ (map-append view xs (v ∷ [])
    ∙ (ap₂ (λ rows row. rows ++ row ∷ []) e is
    ∙ (append_assoc old (map f (range_with_len 0 i)) (f i ∷ []) ∙ ap (λ rows. old ++ rows) (sym (map-range_with_len_more f 0 i i (omega arith))))))
