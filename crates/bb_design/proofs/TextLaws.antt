-- Paths of equal texts are equal, where no name is empty or has a dot in it.
use Rattle.std.proofs.Common.{◌≡◌, ◌≢◌, ℕ, List, [], ◌∷◌, ◌++◌, drop, get_or, refl, sym, ap, ap₂, arith, codes, append_assoc, ◌∙◌}
use Rattle.std.proofs.lemmas.List.Elements.{All-head, All-tail}
use Rattle.bb_design.specs.Hierarchy.{Path, path_to}
use Rattle.bb_design.specs.Texts.{path_text}
use Rattle.bb_design.specs.Laws.{HasNoDot, PathsAreCalledApart}

-- names before a dot are equal, and so is what follows it
cut_same : (n m r s : List ℕ) → HasNoDot n → HasNoDot m → n ++ 46 ∷ r ≡ m ++ 46 ∷ s → (n ≡ m) × (r ≡ s)
cut_same [] [] r s a b e = (refl, ap (drop 1) e)
cut_same [] (y ∷ m) r s a b e = absurd (All-head (λ c. c ≢ 46) y m b (sym (ap (λ l. get_or l 0 0) e)))
cut_same (x ∷ n) [] r s a b e = absurd (All-head (λ c. c ≢ 46) x n a (ap (λ l. get_or l 0 0) e))
cut_same (x ∷ n) (y ∷ m) r s a b e =
    let rest = cut_same n m r s (All-tail (λ c. c ≢ 46) x n a) (All-tail (λ c. c ≢ 46) y m b) (ap (drop 1) e) in
    (ap₂ ◌∷◌ (ap (λ l. get_or l 0 0) e) rest.0, rest.1)

-- a name without a dot is no name with a dot after it
no_cut : (n m s : List ℕ) → HasNoDot n → n ≡ m ++ 46 ∷ s → ⊥
no_cut [] [] s a e = grind (arith, e)
no_cut [] (y ∷ m) s a e = grind (arith, e)
no_cut (x ∷ n) [] s a e = All-head (λ c. c ≢ 46) x n a (ap (λ l. get_or l 0 0) e)
no_cut (x ∷ n) (y ∷ m) s a e = no_cut n m s (All-tail (λ c. c ≢ 46) x n a) (ap (drop 1) e)

abbrev IsPlain : List ℕ → Type 0
IsPlain n = HasNoDot n × (n ≢ [])

-- the text of a path that is not empty is not empty
not_empty : (n : List ℕ) (p : Path) → n ≢ [] → path_text (n ∷ p) ≢ []
not_empty [] p some e = some refl
not_empty (x ∷ n) [] some e = grind (arith, e)
not_empty (x ∷ n) (m ∷ p) some e = grind (arith, e)

pub paths_are_called_apart : PathsAreCalledApart
paths_are_called_apart [] [] a b e = refl
paths_are_called_apart [] (m ∷ q) a b e = absurd (not_empty m q (All-head IsPlain m q b).1 (sym e))
paths_are_called_apart (n ∷ p) [] a b e = absurd (not_empty n p (All-head IsPlain n p a).1 e)
paths_are_called_apart (n ∷ []) (m ∷ []) a b e = ap (λ x. x ∷ []) e
paths_are_called_apart (n ∷ []) (m ∷ k ∷ q) a b e = absurd (no_cut n m (path_text (k ∷ q)) (All-head IsPlain n [] a).0 e)
paths_are_called_apart (n ∷ j ∷ p) (m ∷ []) a b e = absurd (no_cut m n (path_text (j ∷ p)) (All-head IsPlain m [] b).0 (sym e))
paths_are_called_apart (n ∷ j ∷ p) (m ∷ k ∷ q) a b e =
    let cut = cut_same n m (path_text (j ∷ p)) (path_text (k ∷ q)) (All-head IsPlain n (j ∷ p) a).0 (All-head IsPlain m (k ∷ q) b).0 e in
    ap₂ ◌∷◌ cut.0 (paths_are_called_apart (j ∷ p) (k ∷ q) (All-tail IsPlain n (j ∷ p) a) (All-tail IsPlain m (k ∷ q) b) cut.1)

-- the text of a path with a name more
pub dotted_more : (a : List ℕ) (p : Path) (n : List ℕ) → (path_text (a ∷ p) ++ codes ".") ++ n ≡ path_text (a ∷ path_to p n)
dotted_more a [] n = append_assoc a (codes ".") n
dotted_more a (b ∷ p) n = append_assoc (a ++ (codes "." ++ path_text (b ∷ p))) (codes ".") n ∙ append_assoc a (codes "." ++ path_text (b ∷ p)) (codes "." ++ n)
    ∙ ap (λ l. a ++ (codes "." ++ l)) (sym (append_assoc (path_text (b ∷ p)) (codes ".") n) ∙ dotted_more b p n)
