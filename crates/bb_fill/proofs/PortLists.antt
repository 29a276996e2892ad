-- The names of ports, written one after another, are joined by commas.
use Rattle.std.proofs.Common.{◌≡◌, ◌∙◌, ℕ, ◌+◌, ◌<◌, Bool, true, false, if◌then◌else◌, List, [], ◌∷◌, ◌++◌, append_assoc, append-nil, codes, length, map, take, get_or, refl, sym, ap}
use Rattle.std.specs.List.{flat_map}
use Rattle.std.proofs.lemmas.List.{take_more}
use Rattle.bb_fill.specs.Words.{printed}
use Rattle.bb_fill.specs.Lines.{with_commas}
use Rattle.bb_fill.specs.Inside.Ports.{begun_after, port_texts}
use Rattle.bb_fill.specs.Inside.TextBuffers.{Writing, Adds}
use Rattle.bb_fill.proofs.TextBuffers.{same, both}

abbrev comma : Bool → List ℕ
comma begun = if begun then codes "," else []

ports-append : (begun : Bool) (xs ys : List (List ℕ)) → port_texts begun (xs ++ ys) ≡ port_texts begun xs ++ port_texts (begun_after begun xs) ys
ports-append begun [] ys = refl
ports-append begun (x ∷ xs) ys =
    ap (λ t. (comma begun ++ printed x) ++ t) (ports-append true xs ys ∙ ap (λ b. port_texts true xs ++ port_texts b ys) (after-true xs))
    ∙ sym (append_assoc (comma begun ++ printed x) (port_texts true xs) (port_texts true ys))
  where
    after-true : (zs : List (List ℕ)) → begun_after true zs ≡ true
    after-true [] = refl
    after-true (z ∷ zs) = refl

after-append : (begun : Bool) (xs : List (List ℕ)) (x : List ℕ) → begun_after begun (xs ++ x ∷ []) ≡ true
after-append begun [] x = refl
after-append begun (y ∷ xs) x = refl

-- one name more
pub port_more : {a b c : Writing} (begun : Bool) (xs : List (List ℕ)) (i : ℕ) (x : List ℕ) → i < length xs → x ≡ get_or xs i x → Adds a b (port_texts begun (take i xs))
    → Adds b c (comma (begun_after begun (take i xs)) ++ printed x) → Adds a c (port_texts begun (take (i + 1) xs))
port_more begun xs i x within at before next =
    let more : take (i + 1) xs ≡ take i xs ++ x ∷ [] = take_more xs i x within ∙ ap (λ y. take i xs ++ y ∷ []) (sym at) in
    same (sym (ap (port_texts begun) more ∙ ports-append begun (take i xs) (x ∷ []) ∙ ap (λ t. port_texts begun (take i xs) ++ t) (append-nil (comma (begun_after begun (take i xs)) ++ printed x)))) (both before next)

pub after_more : (begun : Bool) (xs : List (List ℕ)) (i : ℕ) (x : List ℕ) → i < length xs → x ≡ get_or xs i x → true ≡ begun_after begun (take (i + 1) xs)
after_more begun xs i x within at = sym (ap (begun_after begun) (take_more xs i x within) ∙ after-append begun (take i xs) (get_or xs i x))

-- all names

afterwards : (xs : List (List ℕ)) → port_texts true xs ≡ flat_map (λ other. codes "," ++ other) (map printed xs)
afterwards [] = refl
afterwards (x ∷ xs) = ap (λ t. (codes "," ++ printed x) ++ t) (afterwards xs)

all_joined : (xs : List (List ℕ)) → port_texts false xs ≡ with_commas (map printed xs)
all_joined [] = refl
all_joined (x ∷ xs) = ap (λ t. printed x ++ t) (afterwards xs)

pub ports_joined : (xs ys : List (List ℕ)) → port_texts false xs ++ port_texts (begun_after false xs) ys ≡ with_commas (map printed (xs ++ ys))
ports_joined xs ys = sym (ports-append false xs ys) ∙ all_joined (xs ++ ys)
