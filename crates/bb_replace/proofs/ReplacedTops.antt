-- The top stays with modules in place of empty ones: who instantiates whom is the same.
use Rattle.std.proofs.Common.{◌≡◌, ℕ, Bool, true, false, not, ◌||◌, List, [], ◌∷◌, map, filter, option_map, Contains, Some, None, refl, ap, ap₂, ◌∙◌, arith}
use Rattle.std.specs.List.{list_any}
use Rattle.bb_ast.specs.Syntax.{PlainModule}
use Rattle.bb_bits.specs.Names.{same_name}
use Rattle.bb_lemmas.proofs.Members.{contains_here, contains_there}
use Rattle.bb_design.specs.Hierarchy.{is_instantiated, roots, the_only}
use Rattle.bb_replace.specs.Laws.{ReplacedTopsStay}
use Rattle.bb_replace.specs.Laws.Replacement.{AllMayReplace, replaced}
use Rattle.bb_replace.proofs.ReplacedModules.{named, same_instances, same_named}

-- a text, and some of its modules
instantiated_same : (modules whole : List PlainModule) → AllMayReplace modules whole → (n : List ℕ) (text : List PlainModule) → ((m : PlainModule) → Contains text m → Contains whole m) → is_instantiated (map (replaced modules) text) n ≡ is_instantiated text n
instantiated_same modules whole may n [] there = refl
instantiated_same modules whole may n (m ∷ text) there =
    ap₂ (λ a b. a || b) (ap (list_any (λ i. same_name i.target n)) (same_instances modules whole may m (there m (contains_here m text))))
    (instantiated_same modules whole may n text (λ x has. there x (contains_there m text x has)))

only_mapped : {A B : Type 0} (f : A → B) (xs : List A) → the_only (map f xs) ≡ option_map f (the_only xs)
only_mapped f [] = refl
only_mapped f (x ∷ []) = refl
only_mapped f (x ∷ y ∷ xs) = refl

filter_mapped : {A B : Type 0} (f : A → B) (test : A → Bool) (more : B → Bool) → ((x : A) → more (f x) ≡ test x) → (xs : List A) → filter more (map f xs) ≡ map f (filter test xs)
filter_mapped f test more same [] = refl
filter_mapped f test more same (x ∷ xs) = by (test x) refl (filter_mapped f test more same xs)
  where
    by : (b : Bool) → test x ≡ b → filter more (map f xs) ≡ map f (filter test xs) → filter more (map f (x ∷ xs)) ≡ map f (filter test (x ∷ xs))
    by true e rest = grind (arith, e, same x, rest)
    by false e rest = grind (arith, e, same x, rest)

pub replaced_tops_stay : ReplacedTopsStay
replaced_tops_stay modules text (Some n) may = named modules text n
replaced_tops_stay modules text None may = ap the_only roots_same ∙ only_mapped (replaced modules) (roots text)
  where
    free : PlainModule → Bool
    free m = not (is_instantiated text m.name)

    free_new : PlainModule → Bool
    free_new m = not (is_instantiated (map (replaced modules) text) m.name)

    roots_same : roots (map (replaced modules) text) ≡ map (replaced modules) (roots text)
    roots_same = filter_mapped (replaced modules) free free_new (λ m. ap not (instantiated_same modules text may (replaced modules m).name text (λ x h. h) ∙ ap (is_instantiated text) (same_named modules m))) text
