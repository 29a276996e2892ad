-- In a text without faults the callees of a module are the places of the modules of its instances, one for each.
use Rattle.std.proofs.Common.{◌≡◌, ◌⊎◌, ◌+◌, ℕ, suc, Bool, true, false, cond, List, [], ◌∷◌, map, Contains, Option, Some, refl, sym, ap, ◌∙◌, subst, inl, inr, arith, true≢false}
use Rattle.std.specs.Prelude.{slice_get, option_map}
use Rattle.std.specs.List.{filter_map, cons_option, slice_index_or}
use Rattle.std.specs.Map.{lookup}
use Rattle.std.proofs.lemmas.List.Elements.{All-contains}
use Rattle.std.proofs.lemmas.Option.{get_or_from_slice_get}
use Rattle.bb_bits.specs.Names.{same_name, placed}
use Rattle.bb_ast.specs.Syntax.{PlainModule}
use Rattle.bb_names.specs.Faults.{IsSound}
use Rattle.bb_names.specs.Sites.{module_named}
use Rattle.bb_design.specs.Inside.Callees.{place_named, callees, called, callee_place, source_of, child}
use Rattle.bb_design.specs.Hierarchy.{Instance, Scope, instances_of, instantiations, children, path_to}
use Rattle.bb_lemmas.proofs.Places.{got-map}
use Rattle.bb_lemmas.proofs.Members.{contains-map, into_flat, contains_here, contains_there, contains_cases, none_in_nil}
use Rattle.std.specs.Option.{unwrap_or}
use Rattle.bb_design.proofs.SoundModules.{sound_texts_have_targets}
use Rattle.bb_lemmas.proofs.Names.{same_self, same_turned}

abbrev names_of : List PlainModule → List (List ℕ)
names_of ms = map (λ m. m.name) ms

abbrev HasModule : List PlainModule → ℕ → List ℕ → Type 0
HasModule ms s n = (d : ℕ) × (t : PlainModule) × (lookup (same_name n) (placed s (names_of ms)) ≡ Some (s + d)) × (slice_get ms d ≡ Some t) × (module_named ms n ≡ Some t)

module_found : (ms : List PlainModule) (s : ℕ) (n : List ℕ) → Contains (names_of ms) n → HasModule ms s n
module_found [] s n has = absurd (none_in_nil n has)
module_found (m ∷ ms) s n has = by (same_name m.name n) refl (contains_cases m.name (names_of ms) n has) (module_found ms (s + 1) n)
  where
    plus-zero : (s : ℕ) → s ≡ s + 0
    plus-zero s = omega arith

    plus-suc : (s d : ℕ) → (s + 1) + d ≡ s + suc d
    plus-suc s d = omega arith

    by : (b : Bool) → same_name m.name n ≡ b → (m.name ≡ n) ⊎ Contains (names_of ms) n → (Contains (names_of ms) n → HasModule ms (s + 1) n) → HasModule (m ∷ ms) s n
    by true e has rest = (0, m, ap (λ b. cond b (Some s) (lookup (same_name n) (placed (s + 1) (names_of ms)))) (same_turned n m.name ∙ e) ∙ ap Some (plus-zero s), refl, ap (λ b. cond b (Some m) (module_named ms n)) e)
    by false e (inl same) rest = absurd (true≢false (sym (same_self n) ∙ ap (λ x. same_name x n) (sym same) ∙ e))
    by false e (inr more) rest = let r = rest more in (
      suc r.0,
      r.1,
      ap (λ b. cond b (Some s) (lookup (same_name n) (placed (s + 1) (names_of ms)))) (same_turned n m.name ∙ e) ∙ r.2 ∙ ap Some (plus-suc s r.0),
      r.3,
      ap (λ b. cond b (Some m) (module_named ms n)) e ∙ r.4,
    )

all_some : {A B : Type 0} (h : A → Option B) (g : A → B) (xs : List A) → ((x : A) → Contains xs x → h x ≡ Some (g x)) → filter_map h xs ≡ map g xs
all_some h g [] same = refl
all_some h g (x ∷ xs) same = ap (λ o. cons_option o (filter_map h xs)) (same x (contains_here x xs)) ∙ ap (λ l. g x ∷ l) (all_some h g xs (λ y has. same y (contains_there x xs y has)))

module _ (text : List PlainModule) (sound : IsSound text) (m : PlainModule) (here : Contains text m) where
  target_there : (i : Instance) → Contains (instances_of m) i → HasModule text 0 i.target
  target_there i has = module_found text 0 i.target
      (All-contains (λ (x : List ℕ × List ℕ). Contains (names_of text) x.1) (instantiations text) (m.name, i.target) (sound_texts_have_targets text sound)
      (into_flat (λ (x : PlainModule). map (λ (j : Instance). (x.name, j.target)) (instances_of x)) text m (m.name, i.target) here (contains-map (λ (j : Instance). (m.name, j.target)) (instances_of m) i has)))

  pub occurs : (i : Instance) → Contains (instances_of m) i → slice_get text (callee_place text i) ≡ Some (source_of text m i)
  occurs i has =
      let t = target_there i has in
      let place : callee_place text i ≡ 0 + t.0 = ap (λ o. unwrap_or o 0) t.2 in
      ap (slice_get text) (place ∙ zero_plus t.0) ∙ t.3 ∙ ap (λ o. Some (unwrap_or o m)) (sym t.4)
    where
      zero_plus : (k : ℕ) → 0 + k ≡ k
      zero_plus k = omega arith

  pub meant : (i : Instance) → Contains (instances_of m) i → module_named text i.target ≡ Some (source_of text m i)
  meant i has = let t = target_there i has in t.4 ∙ ap (λ o. Some (unwrap_or o m)) (sym t.4)

  pub callees_are : callees text m ≡ map (callee_place text) (instances_of m)
  callees_are = all_some (λ (i : Instance). place_named text i.target) (callee_place text) (instances_of m) (λ i has. let t = target_there i has in t.2 ∙ ap (λ o. Some (unwrap_or o 0)) (sym t.2))

  pub children_are : (s : Scope) → s.source ≡ m → children text s ≡ map (child text s) (instances_of s.source)
  children_are s is = all_some (λ (i : Instance). option_map (λ (t : PlainModule). record { path = path_to s.path i.name; source = t }) (module_named text i.target)) (child text s) (instances_of s.source)
      (λ i has. let t = target_there i (subst (λ (x : PlainModule). Contains (instances_of x) i) is has) in
      ap (option_map (λ (u : PlainModule). record { path = path_to s.path i.name; source = u })) t.4 ∙ ap (λ o. Some (record { path = path_to s.path i.name; source = unwrap_or o s.source })) (sym t.4))

  pub called_here : (k : ℕ) → slice_get text k ≡ Some m → slice_index_or (called text) k [] ≡ map (callee_place text) (instances_of m)
  called_here k at = get_or_from_slice_get (called text) k (callees text m) [] (got-map (callees text) text k m at) ∙ callees_are
