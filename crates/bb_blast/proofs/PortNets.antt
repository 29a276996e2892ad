-- The nets of a checked module by their names, and the ports among them.
use Rattle.std.proofs.Common.{◌≡◌, ◌⊎◌, ℕ, ◌+◌, Bool, true, false, cond, List, [], ◌∷◌, map, Contains, Option, Some, None, refl, sym, ap, ◌∙◌, subst, inl, inr, arith}
use Rattle.std.specs.Prelude.{slice_get}
use Rattle.std.specs.List.{find}
use Rattle.std.specs.Map.{lookup}
use Rattle.std.specs.Option.{option_and_then}
use Rattle.bb_bits.specs.Names.{same_name, placed}
use Rattle.bb_ast.specs.Syntax.{PlainHead, PlainModule}
use Rattle.bb_names.specs.declared.net.NetInfo.{NetInfo}
use Rattle.bb_names.specs.Inside.Checked.{ModuleFacts, syntax, HasNets}
use Rattle.bb_names.specs.Declarations.{direction_of, port_direction}
use Rattle.bb_names.specs.Nets.{net_names, net_of}
use Rattle.bb_expr.specs.Inside.Fit.{HasNet}
use Rattle.bb_lemmas.proofs.Names.{place-holds, same_equal, same_self}
use Rattle.bb_lemmas.proofs.Places.{got-map}
use Rattle.bb_lemmas.proofs.Members.{contains-map, contains_cases, none_in_nil, from_find}
use Rattle.bb_design.specs.Laws.DesignLaws.{DesignLaws}

names-named : (m : PlainModule) (names : List (List ℕ)) → map (λ (net : NetInfo). net.name) (map (net_of m) names) ≡ names
names-named m [] = refl
names-named m (n ∷ names) = ap (λ l. n ∷ l) (names-named m names)

looked : (names : List (List ℕ)) (s : ℕ) (n : List ℕ) → Contains names n → lookup (same_name n) (placed s names) ≡ None → ⊥
looked [] s n has none = none_in_nil n has
looked (m ∷ names) s n has none = by (same_name n m) refl none (contains_cases m names n has) (looked names (s + 1) n)
  where
    by : (b : Bool) → same_name n m ≡ b → cond b (Some s) (lookup (same_name n) (placed (s + 1) names)) ≡ None → (m ≡ n) ⊎ Contains names n → (Contains names n → lookup (same_name n) (placed (s + 1) names) ≡ None → ⊥) → ⊥
    by true same h has rest = grind (arith, h)
    by false other h (inl e) rest = grind (arith, other, same_self n, ap (same_name n) e)
    by false other h (inr more) rest = rest more h

module _ (of_designs : DesignLaws) (c : ModuleFacts) (nets : HasNets c) (n : List ℕ) where
  index-is : c.index ≡ placed 0 (net_names (syntax c))
  index-is = nets.index ∙ ap (λ l. placed 0 (map (λ (net : NetInfo). net.name) l)) nets.nets ∙ ap (placed 0) (names-named (syntax c) (net_names (syntax c)))

  -- what is found by its name
  pub net_found : (k : ℕ) → lookup (same_name n) c.index ≡ Some k → slice_get c.nets k ≡ Some (net_of (syntax c) n)
  net_found k e =
      let p = place-holds (net_names (syntax c)) 0 n k (ap (lookup (same_name n)) (sym index-is) ∙ e) in
      ap (slice_get c.nets) (p.1 ∙ zero-plus p.0) ∙ ap (λ l. slice_get l p.0) nets.nets ∙ got-map (net_of (syntax c)) (net_names (syntax c)) p.0 n p.2
    where
      zero-plus : (i : ℕ) → 0 + i ≡ i
      zero-plus i = omega arith

  pub net_has : (k : ℕ) → lookup (same_name n) c.index ≡ Some k → HasNet c n
  net_has k e = record { place = k; net = net_of (syntax c) n; kept = e; there = net_found k e; name = refl; range = refl }

  pub named_has : Contains (net_names (syntax c)) n → HasNet c n
  named_has has = by (lookup (same_name n) c.index) refl
    where
      by : (o : Option ℕ) → lookup (same_name n) c.index ≡ o → HasNet c n
      by None e = absurd (looked (net_names (syntax c)) 0 n has (ap (lookup (same_name n)) (sym index-is) ∙ e))
      by (Some k) e = net_has k e

  pub no_port : lookup (same_name n) c.index ≡ None → port_direction (syntax c) n ≡ None
  no_port e = by (find (λ (head : PlainHead). same_name head.name n) (syntax c).heads) refl
    where
      by : (o : Option PlainHead) → find (λ (head : PlainHead). same_name head.name n) (syntax c).heads ≡ o → option_and_then (λ (head : PlainHead). direction_of (syntax c) n) (find (λ (head : PlainHead). same_name head.name n) (syntax c).heads) ≡ None
      by None f = ap (option_and_then (λ (head : PlainHead). direction_of (syntax c) n)) f
      by (Some head) f =
          let found = from_find (λ (head : PlainHead). same_name head.name n) (syntax c).heads head f in
          let has = (of_designs.nets (syntax c)).header n (subst (Contains (map (λ (head : PlainHead). head.name) (syntax c).heads)) (same_equal head.name n found.1) (contains-map (λ (head : PlainHead). head.name) (syntax c).heads head found.0)) in
          absurd (looked (net_names (syntax c)) 0 n has (ap (lookup (same_name n)) (sym index-is) ∙ e))
