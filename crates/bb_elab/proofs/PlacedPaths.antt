-- The paths of the scopes of a design by numbers, and their texts.
use Rattle.std.proofs.Common.{◌≡◌, ℕ, zero, suc, ◌<◌, ◌++◌, ◌∷◌, [], List, Option, Some, None, refl, sym, ap, ◌∙◌, subst, arith}
use Rattle.std.specs.Prelude.{IfSome, codes, slice_get}
use Rattle.std.proofs.lemmas.Option.{slice_get_within, same_Some}
use Rattle.bb_blast.specs.declared.placed.Instance as placed
use Rattle.bb_blast.specs.declared.placed.Placed.{Placed}
use Rattle.bb_design.specs.Hierarchy.{Path, Design, Scope, path_to, scopes}
use Rattle.bb_elab.specs.Inside.PlacedPaths.{IsPathAt, Top, Below, AreRooted}
use Rattle.bb_blast.specs.Inside.Placements.{IsScopeAt, IsInstanceAt, ArePlaced}
use Rattle.bb_design.specs.Texts.{path_prefix, path_text}
use Rattle.bb_lemmas.proofs.Places.{some_at}
use Rattle.bb_design.specs.Laws.DesignLaws.{DesignLaws}

module _ (of_designs : DesignLaws) where
  pub text-below : (above : Path) (n : List ℕ) → path_text (path_to above n) ≡ path_prefix above ++ n
  text-below [] n = refl
  text-below (a ∷ p) n = sym (of_designs.paths_grow a p n)

  pub prefix-below : (above : Path) (n : List ℕ) → path_prefix (path_to above n) ≡ (path_prefix above ++ n) ++ codes "."
  prefix-below [] n = refl
  prefix-below (a ∷ p) n = ap (λ l. l ++ codes ".") (sym (of_designs.paths_grow a p n))

module _ (d : Design) (all : List Placed) (are : ArePlaced d all) where
  scope_there : (k : ℕ) (p : Placed) → slice_get all k ≡ Some p → (s : Scope) × IsScopeAt d k s
  scope_there k p e = some_at (scopes d) k (omega (arith, slice_get_within all k p e, are.count))

  lower : (k : ℕ) (s : Scope) (o : Option placed.Instance) → IsInstanceAt d k s o → IfSome o (λ i. i.scope < k)
  lower k s None is = tt
  lower k s (Some i) is = is.0

  pub are_rooted : AreRooted all
  are_rooted k p e = let s = scope_there k p e in lower k s.0 p.instance (are.each k s.0 p s.1 e).instance

  path_below : (n k : ℕ) → k < n → (s : Scope) → IsScopeAt d k s → IsPathAt all k s.path
  path_below zero k lt s at = absurd (omega (arith, lt))
  path_below (suc n) k lt s at =
      let p = some_at all k (omega (arith, slice_get_within (scopes d) k s at, are.count)) in
      by p.0 p.1 p.0.instance refl (are.each k s p.0 at p.1).instance (path_below n)
    where
      by : (p : Placed) → slice_get all k ≡ Some p → (o : Option placed.Instance) → p.instance ≡ o → IsInstanceAt d k s o → ((j : ℕ) → j < n → (q : Scope) → IsScopeAt d j q → IsPathAt all j q.path) → IsPathAt all k s.path
      by p there None e is rest = Top p there e is.1
      by p there (Some i) e is rest = Below p i is.1.path there e is.3 (rest i.scope (omega (arith, is.0, lt)) is.1 is.2)

  pub path_there : (k : ℕ) (s : Scope) → IsScopeAt d k s → IsPathAt all k s.path
  path_there k s at = path_below (suc k) k (omega arith) s at

-- the path of a scope that is no instance, and of one that is
pub path_top : (all : List Placed) (k : ℕ) (path : Path) (p : Placed) → IsPathAt all k path → slice_get all k ≡ Some p → p.instance ≡ None → path ≡ []
path_top all k path p (Top q there none is) e n = is
path_top all k path p (Below q i above there some is up) e n = absurd (grind (arith, other))
  where
    other : Some i ≡ None
    other = sym some ∙ ap (λ (x : Placed). x.instance) (same_Some q p (sym there ∙ e)) ∙ n

pub path_instance : (all : List Placed) (k : ℕ) (path : Path) (p : Placed) (i : placed.Instance) → IsPathAt all k path → slice_get all k ≡ Some p → p.instance ≡ Some i → (above : Path) × (path ≡ path_to above i.name) × IsPathAt all i.scope above
path_instance all k path p i (Top q there none is) e some = absurd (grind (arith, other))
  where
    other : None ≡ Some i
    other = sym none ∙ ap (λ (x : Placed). x.instance) (same_Some q p (sym there ∙ e)) ∙ some
path_instance all k path p i (Below q j above there some is up) e at =
    let same : j ≡ i = same_Some j i (sym some ∙ ap (λ (x : Placed). x.instance) (same_Some q p (sym there ∙ e)) ∙ at) in
    (above, is ∙ ap (λ (x : placed.Instance). path_to above x.name) same, subst (λ (x : placed.Instance). IsPathAt all x.scope above) same up)

pub rooted_lower : (all : List Placed) → AreRooted all → (k : ℕ) (p : Placed) (i : placed.Instance) → slice_get all k ≡ Some p → p.instance ≡ Some i → i.scope < k
rooted_lower all rooted k p i there is = subst (λ o. IfSome o (λ (i : placed.Instance). i.scope < k)) is (rooted k p there)
