-- What a chain of or, a choice between bits, an arm of a conditional, and copies make.
use Rattle.std.proofs.Common.{◌≡◌, ℕ, zero, suc, ◌+◌, ◌<◌, ◌≤◌, List, [], ◌∷◌, ◌++◌, length, map, refl, sym, ap, ap₂, ◌∙◌, subst, arith, length-append, append_assoc}
use Rattle.std.specs.Prelude.{◌*◌}
use Rattle.std.specs.List.{AllByRecursion}
use Rattle.std.specs.List.Sorted.{IsPermutation}
use Rattle.std.proofs.lemmas.List.{length-map, map-append}
use Rattle.std.proofs.lemmas.List.Elements.{All-from_recursion, recursion_from_All, All-cons}
use Rattle.std.proofs.lemmas.List.Sorted.{IsPermutation-append_left, IsPermutation-append_comm}
use Rattle.bb_names.specs.declared.net.NetInfo.{NetInfo}
use Rattle.bb_expr.specs.declared.step.BitStep.{BitStep}
use Rattle.bb_expr.specs.declared.step.BitStep.TheVariants as steps
use Rattle.bb_expr.specs.Lists.{copies, bitwise}
use Rattle.bb_expr.specs.Terms.{Term, Or, Mux}
use Rattle.bb_expr.specs.Cells.{MadeTerms, any_bit, selected, arm_made}
use Rattle.bb_expr.specs.Lowered.{term_at, ReadsEarlier}
use Rattle.bb_expr.specs.Inside.Growing.{Adds, AddsRow, paired}
use Rattle.bb_expr.proofs.ValueLemmas.{length-bitwise, length-copies}
use Rattle.bb_expr.proofs.RowLemmas.{terms-of-rows, terms-kept, adds-rows, adds-beside, adds-same}
use Rattle.bb_expr.proofs.AddLemmas.{adds-operators}
use Rattle.bb_expr.proofs.ListLemmas.{all-prefix, all-back, all-join}
use Rattle.bb_expr.proofs.GateLemmas.{both-halves, length-paired, selected-bitwise, pairs-read, pairs-are, pairs-terms}

three-equal : {X : Type 0} (p q x y : X) (ps xs : List X) → p ∷ q ∷ ps ≡ x ∷ y ∷ xs → (p ≡ x) × (q ≡ y) × (ps ≡ xs)
three-equal p q x y ps xs same =
    let a : p ≡ x = cc in
    let b : q ≡ y = cc in
    let c : ps ≡ xs = cc in
    (a, b, c)

map-copies : {X Y : Type 0} (f : X → Y) (k : ℕ) (xs : List X) → map f (copies k xs) ≡ copies k (map f xs)
map-copies f zero xs = refl
map-copies f (suc k) xs = map-append f xs (copies k xs) ∙ ap (λ r. map f xs ++ r) (map-copies f k xs)

all-copies : {X : Type 0} (P : X → Type 0) (k : ℕ) (xs : List X) → AllByRecursion P xs → AllByRecursion P (copies k xs)
all-copies P zero xs h = tt
all-copies P (suc k) xs h = all-join P xs (copies k xs) h (all-copies P k xs h)

pub copies-cover : (k n : ℕ) → 1 ≤ k → n ≤ k * n
copies-cover zero n some = absurd (omega (arith, some))
copies-cover (suc k) n some = grind arith

module _ (nets : List NetInfo) where
  -- one more bit in a chain of or
  pub adds-or : (old mid new : List BitStep) (a b : ℕ) (ks : List ℕ) (x y : Term) (zs cells : List Term) → Adds nets (record { bits = x ∷ y ∷ zs; cells = cells }) old mid (a ∷ b ∷ ks)
      → new ≡ mid ++ steps.Or a b ∷ [] → Adds nets (record { bits = Or x y ∷ zs; cells = cells ++ Or x y ∷ [] }) old new (length mid ∷ ks)
  adds-or old mid new a b ks x y zs cells h grows =
      let row = steps.Or a b ∷ [] in
      let below = recursion_from_All (λ k. k < length mid) (a ∷ b ∷ ks) h.within in
      let reads : AllByRecursion (ReadsEarlier nets (length mid)) row = ((below.0, below.1.0), tt) in
      let reading = All-from_recursion (ReadsEarlier nets (length mid)) row reads in
      adds-rows nets (record { bits = x ∷ y ∷ zs; cells = cells }) old mid new row (a ∷ b ∷ ks) (length mid ∷ ks) (Or x y ∷ zs) (Or x y ∷ []) h grows reading
      (All-cons (λ k. k < length mid + 1) (length mid) ks (omega arith) (All-from_recursion (λ k. k < length mid + 1) ks (weaker ks below.1.1)))
      (omega (arith, h.long)) (omega (arith, h.long))
      (λ ordered same.
      let parts = three-equal (term_at nets mid a) (term_at nets mid b) x y (map (term_at nets mid) ks) zs same in
      let cell : Or (term_at nets mid a) (term_at nets mid b) ≡ Or x y = ap₂ Or parts.0 parts.1 in
      let made : map (term_at nets (mid ++ row)) (length mid ∷ []) ≡ Or x y ∷ [] = terms-of-rows nets mid row ordered reading ∙ ap (λ t. t ∷ []) cell in
      (ap₂ (λ u v. u ++ v) made (terms-kept nets mid row ordered ks (All-from_recursion (λ k. k < length mid) ks below.1.1) ∙ parts.2), ap (λ t. t ∷ []) cell))
    where
      weaker : (ks : List ℕ) → AllByRecursion (λ k. k < length mid) ks → AllByRecursion (λ k. k < length mid + 1) ks
      weaker [] all = tt
      weaker (k ∷ ks) all = (omega (arith, all.0), weaker ks all.1)

  -- a choice between the bits of two expressions by a bit
  pub adds-selected : (me mt : MadeTerms) (x : Term) (cells : List Term) (old s1 s2 s3 new : List BitStep) (e t out : List ℕ) (c : ℕ) → Adds nets me old s1 e → Adds nets (record { bits = x ∷ []; cells = cells }) s1 s2 (c ∷ []) → Adds nets mt s2 s3 t
      → length t ≡ length e → 1 ≤ length t → AddsRow (paired (steps.Mux c) t e) s3 new out
      → Adds nets (record { bits = selected x mt.bits me.bits; cells = ((me.cells ++ cells) ++ mt.cells) ++ selected x mt.bits me.bits }) old new out
  adds-selected me mt x cells old s1 s2 s3 new e t out c he hc ht long some row =
      let two = adds-beside nets me (record { bits = x ∷ []; cells = cells }) old s1 s2 e (c ∷ []) he hc in
      let all = adds-beside nets (record { bits = me.bits ++ x ∷ []; cells = me.cells ++ cells }) mt old s2 s3 (e ++ c ∷ []) t two ht in
      let below = recursion_from_All (λ k. k < length s3) ((e ++ c ∷ []) ++ t) all.within in
      let prefix = all-prefix (λ k. k < length s3) (e ++ c ∷ []) t below in
      let first : c < length s3 = (all-back (λ k. k < length s3) e (c ∷ []) prefix).0 in
      let count : length (paired (steps.Mux c) t e) ≡ length t = length-paired (steps.Mux c) (length t) t e refl (sym long) in
      subst (λ bits. Adds nets (record { bits = bits; cells = ((me.cells ++ cells) ++ mt.cells) ++ bits }) old new out) (selected-bitwise x mt.bits me.bits)
      (adds-operators nets (record { bits = (me.bits ++ x ∷ []) ++ mt.bits; cells = (me.cells ++ cells) ++ mt.cells }) old s3 new (paired (steps.Mux c) t e) ((e ++ c ∷ []) ++ t) out (bitwise (Mux x) mt.bits me.bits) all row
      (pairs-read nets (steps.Mux c) (length s3) (λ u v lu lv. (first, lu, lv)) t e (all-back (λ k. k < length s3) (e ++ c ∷ []) t below) (all-prefix (λ k. k < length s3) e (c ∷ []) prefix))
      (pairs-are nets (steps.Mux c) (λ u v. refl) t e)
      (count ∙ sym (length-bitwise (Mux x) (length t) mt.bits me.bits (sym ht.long) (sym he.long ∙ sym long)))
      (omega (arith, count, long, some, length-append (e ++ c ∷ []) t, length-append e (c ∷ [])))
      (λ same.
      let v = term_at nets s3 in
      let halves = both-halves (map v (e ++ c ∷ [])) (map v t) (me.bits ++ x ∷ []) mt.bits (length-map (e ++ c ∷ []) v ∙ two.long) (sym (map-append v (e ++ c ∷ []) t) ∙ same) in
      let quarters = both-halves (map v e) (v c ∷ []) me.bits (x ∷ []) (length-map e v ∙ he.long) (sym (map-append v e (c ∷ [])) ∙ halves.0) in
      let bit : v c ≡ x = heads (v c) x quarters.1 in
      pairs-terms nets (steps.Mux c) v (Mux (v c)) (λ u w. refl) t e ∙ ap (λ y. bitwise (Mux y) (map v t) (map v e)) bit ∙ ap₂ (bitwise (Mux x)) halves.1 quarters.0))
    where
      heads : (u w : Term) → u ∷ [] ≡ w ∷ [] → u ≡ w
      heads u w same = cc

  -- an arm of a conditional
  pub adds-arm : (me mc mt : MadeTerms) (old s1 s2 s3 new : List BitStep) (e t out : List ℕ) (c : ℕ) → Adds nets me old s1 e → Adds nets (record { bits = (any_bit mc.bits).0 ∷ []; cells = mc.cells ++ (any_bit mc.bits).1 }) s1 s2 (c ∷ []) → Adds nets mt s2 s3 t
      → length t ≡ length e → 1 ≤ length t → AddsRow (paired (steps.Mux c) t e) s3 new out → Adds nets (arm_made mc mt me) old new out
  adds-arm me mc mt old s1 s2 s3 new e t out c he hc ht long some row =
      let any = any_bit mc.bits in
      let sel = selected any.0 mt.bits me.bits in
      let k = mc.cells ++ any.1 in
      adds-same nets (record { bits = sel; cells = ((me.cells ++ k) ++ mt.cells) ++ sel }) (arm_made mc mt me) old new out refl
      (IsPermutation-append_left sel ((k ++ mt.cells) ++ me.cells) ((me.cells ++ k) ++ mt.cells)
      (subst (IsPermutation ((k ++ mt.cells) ++ me.cells)) (sym (append_assoc me.cells k mt.cells)) (IsPermutation-append_comm (k ++ mt.cells) me.cells)))
      (adds-selected me mt any.0 k old s1 s2 s3 new e t out c he hc ht long some row)

  -- copies side by side
  pub adds-copied : (k : ℕ) → 1 ≤ k → (m : MadeTerms) (old new : List BitStep) (bits : List ℕ) → Adds nets m old new bits → Adds nets (record { bits = copies k m.bits; cells = m.cells }) old new (copies k bits)
  adds-copied k some m old new bits x = record {
    more = x.more;
    grows = x.grows;
    within = All-from_recursion (λ j. j < length new) (copies k bits) (all-copies (λ j. j < length new) k bits (recursion_from_All (λ j. j < length new) bits x.within));
    long = length-copies k bits ∙ ap (λ n. k * n) x.long ∙ sym (length-copies k m.bits);
    few = omega (arith, x.few, length-copies k bits, copies-cover k (length bits) some);
    makes = λ terms h. let p = x.makes terms h in (p.0, map-copies (term_at nets new) k bits ∙ ap (copies k) p.1);
  }
