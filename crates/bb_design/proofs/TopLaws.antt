-- Without a name the top is the one module that none instantiates.
use Rattle.std.proofs.Common.{◌≡◌, ◌⊎◌, Bool, not, List, [], ◌∷◌, Contains, Some, None, sym, ap, subst, inl, inr, arith}
use Rattle.bb_ast.specs.Syntax.{PlainModule}
use Rattle.bb_design.specs.Hierarchy.{is_instantiated, roots, the_only, top_of}
use Rattle.bb_design.specs.Laws.{TopIsOnly}
use Rattle.bb_lemmas.proofs.Members.{contains_cases, contains_here, keeps, kept_from, none_in_nil}

module _ {A : Type 0} where
  pub the_only_is : (xs : List A) (x : A) → the_only xs ≡ Some x → xs ≡ x ∷ []
  the_only_is [] x e = grind (arith, e)
  the_only_is (y ∷ []) x e = let same : y ≡ x = grind (arith, e) in ap (λ z. z ∷ []) same
  the_only_is (y ∷ z ∷ rest) x e = grind (arith, e)

pub top_is_only : (text : List PlainModule) (top : PlainModule) → top_of text None ≡ Some top → TopIsOnly text top
top_is_only text top e =
    let one : roots text ≡ top ∷ [] = the_only_is (roots text) top e in
    let test : PlainModule → Bool = λ m. not (is_instantiated text m.name) in
    let kept = kept_from test text top (subst (λ l. Contains l top) (sym one) (contains_here top [])) in
    record {
      there = kept.0;
      free = grind (arith, kept.1);
      only = λ m has free.
          let there : Contains (top ∷ []) m = subst (λ l. Contains l m) one (keeps test text m has (ap not free)) in
          first m (contains_cases top [] m there);
    }
  where
    first : (m : PlainModule) → (top ≡ m) ⊎ Contains [] m → m ≡ top
    first m (inl same) = sym same
    first m (inr more) = absurd (none_in_nil m more)
