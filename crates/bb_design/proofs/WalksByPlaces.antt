-- Walks from module to module, by names and by places.
use Rattle.std.proofs.Common.{◌≡◌, ◌+◌, ℕ, zero, suc, Some, List, [], ◌∷◌, map, Contains, refl, sym, ap, ◌∙◌, subst, arith}
use Rattle.std.specs.Prelude.{slice_get}
use Rattle.std.specs.List.{enumerate_from}
use Rattle.std.proofs.lemmas.List.Elements.{All-contains}
use Rattle.bb_ast.specs.Syntax.{PlainModule}
use Rattle.bb_names.specs.Faults.{IsSound}
use Rattle.bb_design.specs.Inside.Callees.{place_named, callees, calls}
use Rattle.bb_bits.specs.Closures.{Leads, One, More}
use Rattle.bb_design.specs.Hierarchy.{Instance, instances_of, instantiations}
use Rattle.bb_design.specs.Laws.HierarchyLaws.{WalksAreByPlaces}
use Rattle.bb_design.proofs.CalleeLaw.{callees_are_instantiated}
use Rattle.bb_lemmas.proofs.Names.{place-holds}
use Rattle.bb_lemmas.proofs.Places.{mapped_at, there_at}
use Rattle.bb_lemmas.proofs.Members.{from_filter, from_flat, from_map, contains-map, into_flat}
use Rattle.bb_design.proofs.SoundModules.{sound_texts_have_targets}
use Rattle.bb_lemmas.proofs.Numbered.{at-place, placed-at}

-- a place below the length has a module
module-at : (text : List PlainModule) (k : ℕ) (n : List ℕ) → slice_get (map (λ m. m.name) text) k ≡ Some n → (m : PlainModule) × (slice_get text k ≡ Some m)
module-at [] k n e = cc
module-at (m ∷ ms) zero n e = (m, refl)
module-at (m ∷ ms) (suc k) n e = module-at ms k n e

module _ (text : List PlainModule) (sound : IsSound text) where
  -- a step by places is one by names, and leads to a place of the text
  step-to : (j k : ℕ) (m : PlainModule) → slice_get text j ≡ Some m → Contains (calls text) (j, k) → (n : PlainModule) × (slice_get text k ≡ Some n) × Contains (instantiations text) (m.name, n.name)
  step-to j k m at has =
      let x = from_flat (λ (x : ℕ × PlainModule). map (λ i. (x.0, i)) (callees text x.1)) (enumerate_from 0 text) (j, k) has in
      let d = placed-at 0 text x.0 x.1 in
      let c = from_map (λ i. (x.0.0, i)) (callees text x.0.1) (j, k) x.2 in
      let place : d.0 ≡ j = omega (arith, d.1, ap (λ z. z.0) c.2) in
      let same : Some x.0.1 ≡ Some m = sym d.2 ∙ ap (slice_get text) place ∙ at in
      let is : x.0.1 ≡ m = grind (arith, same) in
      let called : Contains (callees text m) k = subst (Contains (callees text m)) (ap (λ z. z.1) c.2) (subst (λ y. Contains (callees text y) c.0) is c.1) in
      let i = from_filter (λ (i : Instance). place_named text i.target) (instances_of m) k called in
      let p = place-holds (map (λ (y : PlainModule). y.name) text) 0 i.0.target k i.2 in
      let n = module-at text k i.0.target (ap (slice_get (map (λ (y : PlainModule). y.name) text)) (p.1 ∙ zero-plus p.0) ∙ p.2) in
      (n.0, n.1, (callees_are_instantiated text m n.0 k sound (there_at text j m at) n.1).0 called)
    where
      zero-plus : (d : ℕ) → 0 + d ≡ d
      zero-plus d = omega arith

  step-from : (j k : ℕ) (m n : PlainModule) → slice_get text j ≡ Some m → slice_get text k ≡ Some n → Contains (instantiations text) (m.name, n.name) → Contains (calls text) (j, k)
  step-from j k m n at end has =
      into_flat (λ (x : ℕ × PlainModule). map (λ i. (x.0, i)) (callees text x.1)) (enumerate_from 0 text) (0 + j, m) (j, k) (at-place 0 text j m at)
      (subst (λ i. Contains {X = ℕ × ℕ} (map (λ i. (0 + j, i)) (callees text m)) (i, k)) (zero-plus j)
      (contains-map (λ i. (0 + j, i)) (callees text m) k ((callees_are_instantiated text m n k sound (there_at text j m at) end).1 has)))
    where
      zero-plus : (d : ℕ) → 0 + d ≡ d
      zero-plus d = omega arith

  to-names : (j k : ℕ) (m n : PlainModule) → slice_get text j ≡ Some m → slice_get text k ≡ Some n → Leads (calls text) j k → Leads (instantiations text) m.name n.name
  to-names j k m n at end (One has) =
      let s = step-to j k m at has in
      let same : Some s.0 ≡ Some n = sym s.1 ∙ end in
      let is : s.0 ≡ n = grind (arith, same) in
      One (subst (λ (y : PlainModule). Contains (instantiations text) (m.name, y.name)) is s.2)
  to-names j k m n at end (More has rest) = let s = step-to j _ m at has in More s.2 (to-names _ k s.0 n s.1 end rest)

  to-places : (a b : List ℕ) → Leads (instantiations text) a b → (j k : ℕ) (m n : PlainModule) → slice_get text j ≡ Some m → slice_get text k ≡ Some n → m.name ≡ a → n.name ≡ b → Leads (calls text) j k
  to-places a b (One has) j k m n at end e f = One (step-from j k m n at end (subst (Contains (instantiations text)) (λ i. (sym e i, sym f i)) has))
  to-places a b (More {y = y} has rest) j k m n at end e f =
      let p = mapped_at (λ (z : PlainModule). z.name) text y (All-contains (λ x. Contains (map (λ (z : PlainModule). z.name) text) x.1) (instantiations text) (a, y) (sound_texts_have_targets text sound) has) in
      More (step-from j p.0 m p.1 at p.2 (subst (Contains (instantiations text)) (λ i. (sym e i, sym p.3 i)) has)) (to-places y b rest p.0 k p.1 n p.2 end p.3 f)

pub walks_are_by_places : WalksAreByPlaces
walks_are_by_places text m n j k sound at end = (to-names text sound j k m n at end, λ h. to-places text sound m.name n.name h j k m n at end refl refl)
