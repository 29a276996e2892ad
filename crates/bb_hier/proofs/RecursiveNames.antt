-- Recursive modules by their places are recursive by their names, in a text without faults.
use Rattle.std.proofs.Common.{◌≡◌, ◌⊎◌, ℕ, ◌+◌, ◌<◌, ◌≤◌, zero, suc, List, [], ◌∷◌, ◌++◌, map, length, take, drop, All, Contains, Some, refl, sym, ap, ◌∙◌, subst, inl, inr, arith}
use Rattle.std.specs.Prelude.{slice_get, sum_by}
use Rattle.std.specs.List.{enumerate_from, flat_map}
use Rattle.std.proofs.lemmas.Grind.{common_steps}
use Rattle.std.proofs.lemmas.List.{length-map}
use Rattle.std.proofs.lemmas.Option.{slice_get_within, slice_get-get_or}
use Rattle.bb_ast.specs.Inside.Sizes.{module_size, source_size}
use Rattle.bb_ast.specs.Syntax.{PlainModule}
use Rattle.bb_names.specs.Faults.{IsSound}
use Rattle.bb_design.specs.Inside.Callees.{callees, called, calls, place_named}
use Rattle.bb_bits.specs.Closures.{Leads}
use Rattle.bb_design.specs.Hierarchy.{Instance, instances_of}
use Rattle.bb_hier.specs.Inside.Recursions.{place_steps, ArePlacesThere, IsReachedAt, IsRecursiveAt, IsFirstRecursive}
use Rattle.bb_design.specs.Refusals.{IsReached, IsRecursive, Recursion, IsReportedOfDesign, IsAbsentInDesign, design_on}
use Rattle.bb_lemmas.proofs.Names.{place-holds}
use Rattle.bb_lemmas.proofs.Places.{got, got-map, some_at, split, taken, mapped_at}
use Rattle.bb_lemmas.proofs.Members.{from_filter, all_from, from_map}
use Rattle.bb_lemmas.proofs.Firsts.{first_there}
use Rattle.bb_design.specs.Laws.DesignLaws.{DesignLaws}

steps_from : (text ms : List PlainModule) (s : ℕ) → flat_map (λ (x : ℕ × List ℕ). map {A = ℕ} {B = ℕ × ℕ} (λ k. (x.0, k)) x.1) (enumerate_from s (map (callees text) ms))
    ≡ flat_map (λ (x : ℕ × PlainModule). map {A = ℕ} {B = ℕ × ℕ} (λ k. (x.0, k)) (callees text x.1)) (enumerate_from s ms)
steps_from text [] s = refl
steps_from text (m ∷ ms) s = ap (λ rest. map {A = ℕ} {B = ℕ × ℕ} (λ k. (s, k)) (callees text m) ++ rest) (steps_from text ms (s + 1))

steps_are_calls : (text : List PlainModule) → place_steps (called text) ≡ calls text
steps_are_calls text = steps_from text text 0

-- the lists of a text

length_below : {A : Type 0} (f : A → ℕ) (xs : List A) → length xs ≤ sum_by (λ x. 2 + f x) xs
length_below f [] = omega arith
length_below f (x ∷ xs) = let rest = length_below f xs in let split : sum_by (λ x. 2 + f x) (x ∷ xs) ≡ (2 + f x) + sum_by (λ x. 2 + f x) xs = grind (arith, common_steps) in omega (arith, rest, split)

called_there : (text : List PlainModule) (m : PlainModule) → All (λ k. k < length text) (callees text m)
called_there text m = all_from (λ k. k < length text) (callees text m) (λ k has.
    let i = from_filter (λ (i : Instance). place_named text i.target) (instances_of m) k has in
    let p = place-holds (map (λ (y : PlainModule). y.name) text) 0 i.0.target k i.2 in
    let within = slice_get_within (map (λ (y : PlainModule). y.name) text) p.0 i.0.target p.2 in
    omega (arith, p.1, within, length-map text (λ (y : PlainModule). y.name)))

pub all_there : (text : List PlainModule) → All (All (λ k. k < length text)) (called text)
all_there text = all_from (All (λ k. k < length text)) (called text) (λ list has. let m = from_map (callees text) text list has in subst (All (λ k. k < length text)) m.2 (called_there text m.0))

pub places_there : (text : List PlainModule) → source_size text ≤ 33554432 → ArePlacesThere (called text)
places_there text small = record {
  there = all_from (All (λ k. k < length (map (callees text) text))) (map (callees text) text) (λ list has.
      subst (λ n. All (λ k. k < n) list) (sym (length-map text (callees text))) (listed list has));
  few = omega (arith, length-map text (callees text), length_below module_size text, small);
}
  where
    listed : (list : List ℕ) → Contains (map (callees text) text) list → All (λ k. k < length text) list
    listed list has =
        let lt : has.0 < length text = omega (arith, has.1, length-map text (callees text)) in
        let at = slice_get-get_or (map (callees text) text) has.0 list has.1 in
        let m = some_at text has.0 lt in
        let same : Some list ≡ Some (callees text m.0) = sym (at ∙ ap Some has.2) ∙ got-map (callees text) text has.0 m.0 m.1 in
        let is : list ≡ callees text m.0 = grind (arith, same) in
        subst (All (λ k. k < length text)) (sym is) (called_there text m.0)

-- by names and by places

module _ (of_designs : DesignLaws) (text : List PlainModule) (sound : IsSound text) (top : ℕ) (t : PlainModule) (top_at : slice_get text top ≡ Some t) where
  names_apart : (j : ℕ) (m : PlainModule) → slice_get text j ≡ Some m → t.name ≡ m.name → top ≡ j
  names_apart j m at same = from (which top j)
    where
      names : List (List ℕ)
      names = map (λ (x : PlainModule). x.name) text

      which : (a b : ℕ) → (a < b) ⊎ ((b < a) ⊎ (a ≡ b))
      which zero zero = inr (inr refl)
      which zero (suc b) = inl (omega arith)
      which (suc a) zero = inr (inl (omega arith))
      which (suc a) (suc b) = elim (which a b) [ inl h ↦ inl (omega (arith, h)) | inr r ↦ elim r [ inl h ↦ inr (inl (omega (arith, h))) | inr e ↦ inr (inr (ap suc e)) ] ]

      from : (top < j) ⊎ ((j < top) ⊎ (top ≡ j)) → top ≡ j
      from (inl lt) = let a = got names top t.name t.name (got-map (λ (x : PlainModule). x.name) text top t top_at) in let b = got names j m.name t.name (got-map (λ (x : PlainModule). x.name) text j m at) in
          absurd (of_designs.modules_apart text sound top j t.name lt b.0 (a.1 ∙ same ∙ sym b.1))
      from (inr (inl lt)) = let a = got names top t.name t.name (got-map (λ (x : PlainModule). x.name) text top t top_at) in let b = got names j m.name t.name (got-map (λ (x : PlainModule). x.name) text j m at) in
          absurd (of_designs.modules_apart text sound j top t.name lt a.0 (b.1 ∙ sym same ∙ sym a.1))
      from (inr (inr e)) = e

  to_name : (j : ℕ) (m : PlainModule) → slice_get text j ≡ Some m → IsRecursiveAt (called text) top j → IsRecursive (design_on text t) m.name
  to_name j m at h = (reached h.0, (of_designs.walks text m m j j sound at at).0 (subst (λ s. Leads s j j) (steps_are_calls text) h.1))
    where
      reached : IsReachedAt (called text) top j → IsReached (design_on text t) m.name
      reached (inl e) = let same : Some t ≡ Some m = sym top_at ∙ ap (slice_get text) e ∙ at in let is : t ≡ m = grind (arith, same) in inl (ap (λ (x : PlainModule). x.name) is)
      reached (inr leads) = inr ((of_designs.walks text t m top j sound top_at at).0 (subst (λ s. Leads s top j) (steps_are_calls text) leads))

  to_place : (j : ℕ) (m : PlainModule) → slice_get text j ≡ Some m → IsRecursive (design_on text t) m.name → IsRecursiveAt (called text) top j
  to_place j m at h = (reached h.0, subst (λ s. Leads s j j) (sym (steps_are_calls text)) ((of_designs.walks text m m j j sound at at).1 h.1))
    where
      reached : IsReached (design_on text t) m.name → IsReachedAt (called text) top j
      reached (inl e) = inl (names_apart j m at e)
      reached (inr leads) = inr (subst (λ s. Leads s top j) (sym (steps_are_calls text)) ((of_designs.walks text t m top j sound top_at at).1 leads))

  pub absent_where_none : ((k : ℕ) → IsRecursiveAt (called text) top k → ⊥) → IsAbsentInDesign (design_on text t) Recursion
  absent_where_none none = from (of_designs.recursion (design_on text t))
    where
      from : IsAbsentInDesign (design_on text t) Recursion ⊎ ((n : List ℕ) × IsReportedOfDesign (design_on text t) Recursion n) → IsAbsentInDesign (design_on text t) Recursion
      from (inl absent) = absent
      from (inr r) =
          let p = mapped_at (λ (x : PlainModule). x.name) text r.0 (first_there (IsRecursive (design_on text t)) (map (λ (x : PlainModule). x.name) text) r.0 r.1) in
          absurd (none p.0 (to_place p.0 p.1 p.2 (subst (IsRecursive (design_on text t)) (sym p.3) r.1.holds)))

  pub reported_where_first : (k : ℕ) (m : PlainModule) → slice_get text k ≡ Some m → IsFirstRecursive (called text) top k → IsReportedOfDesign (design_on text t) Recursion m.name
  reported_where_first k m at first = record {
    before = take k names;
    after = drop (suc k) names;
    occurs = split names k m.name (got-map (λ (x : PlainModule). x.name) text k m at);
    holds = to_name k m at first.holds;
    earlier = λ y has h.
        let j = taken names k y has in
        let p = module_named_at text j.0 y j.2 in
        first.first j.0 j.1 (to_place j.0 p.0 p.1 (subst (IsRecursive (design_on text t)) (sym p.2) h));
  }
    where
      names : List (List ℕ)
      names = map (λ (x : PlainModule). x.name) text

      module_named_at : (ms : List PlainModule) (j : ℕ) (n : List ℕ) → slice_get (map (λ (x : PlainModule). x.name) ms) j ≡ Some n → (m : PlainModule) × (slice_get ms j ≡ Some m) × (m.name ≡ n)
      module_named_at [] j n e = cc
      module_named_at (m ∷ ms) zero n e = (m, refl, grind (arith, e))
      module_named_at (m ∷ ms) (suc j) n e = module_named_at ms j n e
