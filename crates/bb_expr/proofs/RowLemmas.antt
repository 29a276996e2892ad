-- Rows of steps that read earlier ones alone: which cells they are.
use Rattle.std.proofs.Common.{◌≡◌, ℕ, suc, ◌+◌, ◌<◌, ◌≤◌, List, [], ◌∷◌, ◌++◌, length, map, Option, Some, None, refl, sym, ap, ap₂, ◌∙◌, subst, arith, length-append, append_assoc, append-nil}
use Rattle.std.specs.Prelude.{◌*◌, All, if◌then◌else◌}
use Rattle.std.specs.List.{filter_map, cons_option, enumerate_from, range_with_len}
use Rattle.std.specs.List.Sorted.{IsPermutation}
use Rattle.std.proofs.lemmas.List.{map-append}
use Rattle.std.proofs.lemmas.List.Elements.{filter_map-append, All-head, All-tail, All-weaker, All-append, All-nil}
use Rattle.std.proofs.lemmas.List.Sorted.{IsPermutation-append_left, IsPermutation-append_right, IsPermutation-trans, length_permutation}
use Rattle.bb_names.specs.declared.net.NetInfo.{NetInfo}
use Rattle.bb_expr.specs.declared.step.BitStep.{BitStep}
use Rattle.bb_expr.specs.Terms.{Term}
use Rattle.bb_expr.specs.Cells.{MadeTerms}
use Rattle.bb_expr.specs.Lowered.{step_term, term_at, ReadsEarlier, is_operator, operators}
use Rattle.bb_expr.specs.Inside.Growing.{step_at, AreOrdered, AreSteps, Adds}
use Rattle.bb_expr.proofs.StepLemmas.{term-more, ordered-rows, row-term}

-- the cell that a step is, if it is an operator, where its operands are among these steps
abbrev pub row_cell : List NetInfo → List BitStep → BitStep → Option Term
row_cell nets all s = if is_operator s then Some (step_term nets s (term_at nets all)) else None

enumerate-append : (n : ℕ) (xs ys : List BitStep) → enumerate_from n (xs ++ ys) ≡ enumerate_from n xs ++ enumerate_from (n + length xs) ys
enumerate-append n [] ys = ap (λ k. enumerate_from k ys) (same n)
  where
    same : (n : ℕ) → n ≡ n + 0
    same n = omega arith
enumerate-append n (x ∷ xs) ys = ap (λ r. (n, x) ∷ r) (enumerate-append (n + 1) xs ys ∙ ap (λ k. enumerate_from (n + 1) xs ++ enumerate_from k ys) (same n (length xs)))
  where
    same : (n k : ℕ) → (n + 1) + k ≡ n + suc k
    same n k = omega arith

filter-agree : (f g : ℕ × BitStep → Option Term) (n : ℕ) (xs : List BitStep) → ((k : ℕ) (s : BitStep) → n ≤ k → k < n + length xs → f (k, s) ≡ g (k, s))
    → filter_map f (enumerate_from n xs) ≡ filter_map g (enumerate_from n xs)
filter-agree f g n [] same = refl
filter-agree f g n (x ∷ xs) same = ap₂ cons_option (same n x (omega arith) (omega arith)) (filter-agree f g (n + 1) xs (λ k s low high. same k s (omega arith) (omega arith)))

filter-rows : (f : ℕ × BitStep → Option Term) (g : BitStep → Option Term) (n : ℕ) (xs : List BitStep) → ((i : ℕ) → i < length xs → f (n + i, step_at xs i) ≡ g (step_at xs i))
    → filter_map f (enumerate_from n xs) ≡ filter_map g xs
filter-rows f g n [] same = refl
filter-rows f g n (x ∷ xs) same =
    ap₂ cons_option (subst (λ k. f (k, x) ≡ g x) (first n) (same 0 (omega arith)))
    (filter-rows f g (n + 1) xs (λ i lt. subst (λ k. f (k, step_at xs i) ≡ g (step_at xs i)) (next n i) (same (suc i) (omega (arith, lt)))))
  where
    first : (n : ℕ) → n + 0 ≡ n
    first n = omega arith

    next : (n i : ℕ) → n + suc i ≡ (n + 1) + i
    next n i = omega arith

map-rows : (v : ℕ → Term) (g : BitStep → Term) (n : ℕ) (xs : List BitStep) → ((i : ℕ) → i < length xs → v (n + i) ≡ g (step_at xs i)) → map v (range_with_len n (length xs)) ≡ map g xs
map-rows v g n [] same = refl
map-rows v g n (x ∷ xs) same =
    ap₂ (λ a r. a ∷ r) (subst (λ k. v k ≡ g x) (first n) (same 0 (omega arith)))
    (map-rows v g (n + 1) xs (λ i lt. subst (λ k. v k ≡ g (step_at xs i)) (next n i) (same (suc i) (omega (arith, lt)))))
  where
    first : (n : ℕ) → n + 0 ≡ n
    first n = omega arith

    next : (n i : ℕ) → n + suc i ≡ (n + 1) + i
    next n i = omega arith

module _ (nets : List NetInfo) where
  -- the same of a step with its place
  abbrev operator : List BitStep → ℕ × BitStep → Option Term
  operator all x = if is_operator x.1 then Some (term_at nets all x.0) else None

  pub operators-rows : (old rows : List BitStep) → AreOrdered nets old → All (ReadsEarlier nets (length old)) rows → operators nets (old ++ rows) ≡ operators nets old ++ filter_map (row_cell nets old) rows
  operators-rows old rows ordered reads =
      ap (filter_map (operator (old ++ rows))) (enumerate-append 0 old rows)
      ∙ filter_map-append (operator (old ++ rows)) (enumerate_from 0 old) (enumerate_from (0 + length old) rows)
      ∙ ap₂ (λ a b. a ++ b)
      (filter-agree (operator (old ++ rows)) (operator old) 0 old (λ k s low high. ap (λ t. if is_operator s then Some t else None) (term-more nets old rows ordered k (omega arith))))
      (filter-rows (operator (old ++ rows)) (row_cell nets old) (0 + length old) rows
      (λ i lt. ap (λ t. if is_operator (step_at rows i) then Some t else None) (ap (term_at nets (old ++ rows)) (same (length old) i) ∙ row-term nets old rows ordered reads i lt)))
    where
      same : (n i : ℕ) → (0 + n) + i ≡ n + i
      same n i = omega arith

  pub terms-of-rows : (old rows : List BitStep) → AreOrdered nets old → All (ReadsEarlier nets (length old)) rows
      → map (term_at nets (old ++ rows)) (range_with_len (length old) (length rows)) ≡ map (λ s. step_term nets s (term_at nets old)) rows
  terms-of-rows old rows ordered reads = map-rows (term_at nets (old ++ rows)) (λ s. step_term nets s (term_at nets old)) (length old) rows (row-term nets old rows ordered reads)

  pub terms-kept : (all more : List BitStep) → AreOrdered nets all → (ks : List ℕ) → All (λ k. k < length all) ks → map (term_at nets (all ++ more)) ks ≡ map (term_at nets all) ks
  terms-kept all more ordered [] h = refl
  terms-kept all more ordered (k ∷ ks) h =
      ap₂ (λ a r. a ∷ r) (term-more nets all more ordered k (All-head (λ k. k < length all) k ks h)) (terms-kept all more ordered ks (All-tail (λ k. k < length all) k ks h))

  pub steps-permuted : (all : List BitStep) (terms terms' : List Term) → IsPermutation terms' terms → AreSteps nets all terms → AreSteps nets all terms'
  steps-permuted all terms terms' moves h = record { earlier = h.earlier; made = IsPermutation-trans terms' terms (operators nets all) moves h.made }

  -- a row that reads earlier steps alone
  pub steps-rows : (old rows : List BitStep) (terms : List Term) → AreSteps nets old terms → All (ReadsEarlier nets (length old)) rows → AreSteps nets (old ++ rows) (terms ++ filter_map (row_cell nets old) rows)
  steps-rows old rows terms h reads = record {
    earlier = ordered-rows nets old rows h.earlier reads;
    made = subst (IsPermutation (terms ++ filter_map (row_cell nets old) rows)) (sym (operators-rows old rows h.earlier reads)) (IsPermutation-append_left (filter_map (row_cell nets old) rows) terms (operators nets old) h.made);
  }

  -- nothing is added
  pub adds-nothing : (old : List BitStep) → Adds nets (record { bits = []; cells = [] }) old old []
  adds-nothing old = record {
    more = [];
    grows = sym (append-nil old);
    within = All-nil (λ k. k < length old);
    long = refl;
    few = omega arith;
    makes = λ terms h. (subst (AreSteps nets old) (sym (append-nil terms)) h, refl);
  }

  -- a row of steps after others
  pub adds-rows : (m : MadeTerms) (old mid new rows : List BitStep) (bits out : List ℕ) (made cells : List Term) → Adds nets m old mid bits → new ≡ mid ++ rows → All (ReadsEarlier nets (length mid)) rows
      → All (λ k. k < length mid + length rows) out
      → length out ≡ length made → length bits + length rows ≤ length out + 3 * length cells
      → (AreOrdered nets mid → map (term_at nets mid) bits ≡ m.bits → (map (term_at nets (mid ++ rows)) out ≡ made) × (filter_map (row_cell nets mid) rows ≡ cells))
      → Adds nets (record { bits = made; cells = m.cells ++ cells }) old new out
  adds-rows m old mid new rows bits out made cells x is reads within long fits terms = record {
    more = x.more ++ rows;
    grows = is ∙ ap (λ l. l ++ rows) x.grows ∙ append_assoc old x.more rows;
    within = subst (λ n. All (λ k. k < n) out) (sym (length-append mid rows) ∙ ap length (sym is)) within;
    long = long;
    few = omega (arith, x.few, fits, ap length is, length-append mid rows, length-append m.cells cells);
    makes = λ before h.
        let p = x.makes before h in
        let t = terms p.0.earlier p.1 in
        let after = steps-rows mid rows (before ++ m.cells) p.0 reads in (
          subst (λ all. AreSteps nets all (before ++ (m.cells ++ cells))) (sym is) (subst (AreSteps nets (mid ++ rows)) (ap (λ c. (before ++ m.cells) ++ c) t.1 ∙ append_assoc before m.cells cells) after),
          ap (λ all. map (term_at nets all) out) is ∙ t.0,
        );
  }

  -- one expression's steps after another's
  pub adds-beside : (m n : MadeTerms) (old mid new : List BitStep) (a b : List ℕ) → Adds nets m old mid a → Adds nets n mid new b
      → Adds nets (record { bits = m.bits ++ n.bits; cells = m.cells ++ n.cells }) old new (a ++ b)
  adds-beside m n old mid new a b x y = record {
    more = x.more ++ y.more;
    grows = y.grows ∙ ap (λ l. l ++ y.more) x.grows ∙ append_assoc old x.more y.more;
    within = All-append (λ k. k < length new) a b
        (All-weaker (λ k. k < length mid) (λ k. k < length new) (λ k lt. omega (arith, lt, ap length y.grows, length-append mid y.more)) a x.within) y.within;
    long = length-append a b ∙ ap₂ (λ u v. u + v) x.long y.long ∙ sym (length-append m.bits n.bits);
    few = omega (arith, x.few, y.few, length-append a b, length-append m.cells n.cells);
    makes = λ terms h.
        let p = x.makes terms h in
        let q = y.makes (terms ++ m.cells) p.0 in (
          subst (AreSteps nets new) (append_assoc terms m.cells n.cells) q.0,
          map-append (term_at nets new) a b
              ∙ ap₂ (λ u v. u ++ v) (ap (λ all. map (term_at nets all) a) y.grows ∙ terms-kept mid y.more p.0.earlier a x.within ∙ p.1) q.1,
        );
  }

  -- the same cells in another order, and the same bits in other words
  pub adds-same : (m n : MadeTerms) (old new : List BitStep) (bits : List ℕ) → m.bits ≡ n.bits → IsPermutation n.cells m.cells → Adds nets m old new bits → Adds nets n old new bits
  adds-same m n old new bits same moves x = record {
    more = x.more;
    grows = x.grows;
    within = x.within;
    long = x.long ∙ ap length same;
    few = omega (arith, x.few, length_permutation n.cells m.cells moves);
    makes = λ terms h.
        let p = x.makes terms h in
        (steps-permuted new (terms ++ m.cells) (terms ++ n.cells) (IsPermutation-append_right terms n.cells m.cells moves) p.0, p.1 ∙ same);
  }
