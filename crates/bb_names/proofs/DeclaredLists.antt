-- Declarations that are made one after another.
use Rattle.std.proofs.Common.{◌≡◌, ℕ, ◌+◌, ◌<◌, ◌≤◌, List, [], ◌∷◌, ◌++◌, length, take, map, get_or, sym, ap, ◌∙◌, subst, refl, append_assoc, append-nil}
use Rattle.std.proofs.lemmas.Grind.{flat_map-append}
use Rattle.std.proofs.lemmas.List.{take_more, take_all, map-append}
use Rattle.std.specs.List.{flat_map}
use Rattle.bb_names.specs.declared.summary.Summary.{Summary}
use Rattle.bb_names.specs.Declarations.{Declaration}
use Rattle.std.specs.Map.{lookup}
use Rattle.bb_bits.specs.Names.{same_name}
use Rattle.bb_names.specs.Inside.Summaries.{IsSummary, Describes}
use Rattle.bb_names.proofs.Noting.{seen-more, seen-all}

-- one declaration more
pub one-more : {X : Type 0} (entries : List (List ℕ × Summary)) (all : List Declaration) (g : X → Declaration) (xs : List X) (x : X)
    → Describes entries ((all ++ map g xs) ++ g x ∷ []) → Describes entries (all ++ map g (xs ++ x ∷ []))
one-more entries all g xs x h = subst (Describes entries) (append_assoc all (map g xs) (g x ∷ []) ∙ ap (λ z. all ++ z) (sym (map-append g xs (x ∷ [])))) h

pub turn-map : {X Y : Type 0} (entries : List (List ℕ × Summary)) (all : List Declaration) (g : Y → Declaration) (v : X → Y) (xs : List X) (i : ℕ) (x : X)
    → i < length xs → x ≡ get_or xs i x → Describes entries ((all ++ map g (map v (take i xs))) ++ g (v x) ∷ []) → Describes entries (all ++ map g (map v (take (i + 1) xs)))
turn-map entries all g v xs i x within at h =
    subst (λ z. Describes entries (all ++ map g z)) (sym (seen-more v xs i x within at)) (one-more entries all g (map v (take i xs)) (v x) h)

pub turn-names : (entries : List (List ℕ × Summary)) (all : List Declaration) (g : List ℕ → Declaration) (xs : List (List ℕ)) (i : ℕ) (x : List ℕ)
    → i < length xs → x ≡ get_or xs i x → Describes entries ((all ++ map g (take i xs)) ++ g x ∷ []) → Describes entries (all ++ map g (take (i + 1) xs))
turn-names entries all g xs i x within at h =
    subst (λ z. Describes entries (all ++ map g z)) (sym (take_more xs i x within ∙ ap (λ y. take i xs ++ y ∷ []) (sym at))) (one-more entries all g (take i xs) x h)

-- several declarations more
pub turn-flat : {X Y : Type 0} (entries : List (List ℕ × Summary)) (all : List Declaration) (g : Y → List Declaration) (v : X → Y) (xs : List X) (i : ℕ) (x : X)
    → i < length xs → x ≡ get_or xs i x → Describes entries ((all ++ flat_map g (map v (take i xs))) ++ g (v x)) → Describes entries (all ++ flat_map g (map v (take (i + 1) xs)))
turn-flat entries all g v xs i x within at h =
    subst (Describes entries)
    (append_assoc all (flat_map g (map v (take i xs))) (g (v x))
    ∙ ap (λ z. all ++ z) (sym (ap (flat_map g) (seen-more v xs i x within at) ∙ flat_map-append g (map v (take i xs)) (v x ∷ []) ∙ ap (λ z. flat_map g (map v (take i xs)) ++ z) (append-nil (g (v x)))))) h

pub end-map : {X Y : Type 0} (entries : List (List ℕ × Summary)) (all : List Declaration) (g : Y → Declaration) (v : X → Y) (xs : List X) (i : ℕ) → length xs ≤ i
    → Describes entries (all ++ map g (map v (take i xs))) → Describes entries (all ++ map g (map v xs))
end-map entries all g v xs i past h = subst (λ z. Describes entries (all ++ map g z)) (seen-all v xs i past) h

pub end-names : (entries : List (List ℕ × Summary)) (all : List Declaration) (g : List ℕ → Declaration) (xs : List (List ℕ)) (i : ℕ) → length xs ≤ i
    → Describes entries (all ++ map g (take i xs)) → Describes entries (all ++ map g xs)
end-names entries all g xs i past h = subst (λ z. Describes entries (all ++ map g z)) (take_all i xs past) h

pub end-flat : {X Y : Type 0} (entries : List (List ℕ × Summary)) (all : List Declaration) (g : Y → List Declaration) (v : X → Y) (xs : List X) (i : ℕ) → length xs ≤ i
    → Describes entries (all ++ flat_map g (map v (take i xs))) → Describes entries (all ++ flat_map g (map v xs))
end-flat entries all g v xs i past h = subst (λ z. Describes entries (all ++ flat_map g z)) (seen-all v xs i past) h

-- where nothing is declared
pub none_described : (entries : List (List ℕ × Summary)) → entries ≡ [] → Describes entries []
none_described entries empty n = subst (IsSummary n []) (sym (ap (lookup (same_name n)) empty)) (record {
  declared = refl;
  range = refl;
  instance = refl;
  dir = refl;
  kind = refl;
  instances = refl;
  ranges = λ range. refl;
})
