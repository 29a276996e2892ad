-- Literals that are marked and given out.
use Rattle.std.proofs.Common.{◌≡◌, ℕ, ◌+◌, ◌<◌, length, take, slice_index_or, Bool, true, false, not, ◌&&◌, ◌||◌, List, [], ◌∷◌, ◌++◌, refl, sym, ◌∙◌, ap, ap₂}
use Rattle.std.proofs.lemmas.List.Folds.{list_any-append, list_any_more}
use Rattle.bb_lemmas.proofs.Maps.{or-false}
use Rattle.bb_lemmas.proofs.Bits.{and_both}
use Rattle.bb_cnf.specs.declared.clauses.Lit.{Lit}
use Rattle.bb_cnf.specs.Clauses.{Literals, literals_of, same_literal, without_literal}
use Rattle.bb_cnf.proofs.Literals.{same_literal-is}

pub literals_of-push : (xs : List Lit) (l m : Lit) → literals_of (xs ++ l ∷ []) m ≡ (literals_of xs m || same_literal l m)
literals_of-push xs l m = list_any-append (λ k. same_literal k m) xs (l ∷ []) ∙ ap (λ b. literals_of xs m || b) (or-false (same_literal l m))

moved : (a h s : Bool) → (s ≡ true → h ≡ true) → ((a || s) || (h && not s)) ≡ (a || h)
moved true h s known = refl
moved false h true known = sym (known refl)
moved false true false known = refl
moved false false false known = refl

-- a literal that moves from the marks to the clause
pub drain_kept : (made pushed : List Lit) (h h' start : Literals) (lit : Lit) → ((m : Lit) → (literals_of made m || h m) ≡ start m)
    → h lit ≡ true → pushed ≡ made ++ lit ∷ [] → ((m : Lit) → h' m ≡ without_literal h lit m) → (m : Lit) → (literals_of pushed m || h' m) ≡ start m
drain_kept made pushed h h' start lit before marked pushed_is now m =
    ap₂ (λ a b. a || b) (ap (λ xs. literals_of xs m) pushed_is ∙ literals_of-push made lit m) (now m)
    ∙ moved (literals_of made m) (h m) (same_literal lit m) (λ same. ap h (sym (same_literal-is lit m same)) ∙ marked)
    ∙ before m

left : (a s : Bool) → (a || s) ≡ true → not s ≡ true → a ≡ true
left true s h n = refl
left false true h n = n
left false false h n = h

-- the other literals are still on the list
pub listed_kept : (h h' : Literals) (marked rest : List Lit) (lit : Lit) → ((m : Lit) → h m ≡ true → literals_of marked m ≡ true)
    → marked ≡ rest ++ lit ∷ [] → ((m : Lit) → h' m ≡ without_literal h lit m) → (m : Lit) → h' m ≡ true → literals_of rest m ≡ true
listed_kept h h' marked rest lit before marked_is now m held =
    let parts = and_both (h m) (not (same_literal lit m)) (sym (now m) ∙ held) in
    left (literals_of rest m) (same_literal lit m)
    (sym (literals_of-push rest lit m) ∙ ap (λ xs. literals_of xs m) (sym marked_is) ∙ before m parts.0) parts.1

spread : (b t x n : Bool) → ((b || (t && n)) || (x && n)) ≡ (b || ((t || x) && n))
spread true t x n = refl
spread false true true true = refl
spread false true true false = refl
spread false true false true = refl
spread false true false false = refl
spread false false x n = refl

-- one more literal of a clause, unless it is the one that is left out
pub others_more : (h h' base : Literals) (lits : List Lit) (i : ℕ) (d but : Lit) → i < length lits
    → ((m : Lit) → h m ≡ (base m || without_literal (literals_of (take i lits)) but m))
    → ((m : Lit) → h' m ≡ (h m || (same_literal (slice_index_or lits i d) m && not (same_literal but m))))
    → (m : Lit) → h' m ≡ (base m || without_literal (literals_of (take (i + 1) lits)) but m)
others_more h h' base lits i d but within before now m =
    now m ∙ ap (λ b. b || (same_literal (slice_index_or lits i d) m && not (same_literal but m))) (before m)
    ∙ spread (base m) (literals_of (take i lits) m) (same_literal (slice_index_or lits i d) m) (not (same_literal but m))
    ∙ ap (λ b. base m || (b && not (same_literal but m))) (sym (list_any_more (λ k. same_literal k m) lits i d within))
