-- Comparisons, cell by cell.
use Rattle.std.proofs.Common.{◌≡◌, ◌∙◌, ◌+◌, ◌*◌, ◌<◌, ◌≤◌, ℕ, List, [], ◌∷◌, ◌++◌, map, length, get_or, drop, reverse, refl, ap, subst, arith}
use Rattle.std.proofs.Math.Path.{ap₂}
use Rattle.std.proofs.lemmas.List.{length-append, drop_all}
use Rattle.std.proofs.lemmas.List.Elements.{All-nil, All-cons}
use Rattle.bb_lemmas.proofs.Maps.{reverse-map}
use Rattle.bb_net.specs.Netlists.{Netlist}
use Rattle.bb_word.specs.declared.joint.Joint.TheVariants as joints
use Rattle.bb_word.specs.Gates.{after}
use Rattle.bb_word.specs.Circuits.{equal_bits, equal, less, joined_all}
use Rattle.bb_word.specs.Laws.Formulas.{Formula, Xor, Not, Mux, formulas}
use Rattle.bb_word.specs.Inside.Adding.{with_cells, nothing, ahead, Adds, equality_cells, less_cells, HasConstants, joint_gate, joint_none}
use Rattle.bb_word.specs.Laws.MapLaws.{made_same}
use Rattle.bb_word.proofs.AddingLemmas.{Adds-start, Adds-step, Adds-end, Adds-chain}
use Rattle.bb_word.proofs.StepLemmas.{part_new, length_new, parts_more, part_zero, Adds-constants}

pub record AreEqual (left right : List ℕ) (old now : Netlist) (places : List ℕ) (i : ℕ) : Type 0 where
  pub made : Adds old now places (λ part. equal_bits formulas (map part left) (map part right)) (λ part. equal_bits formulas (map part (drop i left)) (map part (drop i right)))
  pub count : length now.cells ≡ length old.cells + 2 * i
  pub long : length places ≡ i

pub AreEqual-start : (left right : List ℕ) (old : Netlist) → AreEqual left right old old [] 0
AreEqual-start left right old = record { made = Adds-start old (λ part. equal_bits formulas (map part left) (map part right)); count = omega arith; long = refl }

equal_more : (a b n s : Formula) (xs ys : List Formula) → n ≡ Xor a b → s ≡ Not n → equal_bits formulas (a ∷ xs) (b ∷ ys) ≡ ahead (s ∷ []) (Xor a b ∷ Not n ∷ []) (equal_bits formulas xs ys)
equal_more a b n s xs ys e1 e2 = made_same _ _ (simp (e2, e1)) (simp (e2, e1))

pub AreEqual-step : (left right : List ℕ) (old now new : Netlist) (places : List ℕ) (i a b s : ℕ) → i < length left → i < length right → a ≡ get_or left i 0 → b ≡ get_or right i 0 → new ≡ with_cells now (equality_cells (length now.cells) a b) → s ≡ length now.cells + 1 → AreEqual left right old now places i → AreEqual left right old new (places ++ s ∷ []) (i + 1)
AreEqual-step left right old now new places i a b s in_left in_right is_a is_b grown at before =
    let n = length now.cells in
    let added = equality_cells n a b in
    let long : length new.cells ≡ length now.cells + 2 = length_new now new added grown in
    record {
      made = Adds-step old now new places (s ∷ []) added (λ part. equal_bits formulas (map part left) (map part right)) (λ part. equal_bits formulas (map part (drop i left)) (map part (drop i right))) (λ part. equal_bits formulas (map part (drop (i + 1) left)) (map part (drop (i + 1) right))) before.made grown
          (All-cons (λ p. p < length new.cells) s [] (omega (arith, long, at)) (All-nil (λ p. p < length new.cells)))
          (λ part meets.
          let e1 : part n ≡ Xor (part a) (part b) = part_new now new added part grown meets 0 n (omega arith) (omega arith) in
          let e2 : part s ≡ Not (part n) = part_new now new added part grown meets 1 s (omega arith) at in
          ap₂ (λ l r. equal_bits formulas l r) (parts_more part left i a in_left is_a) (parts_more part right i b in_right is_b)
          ∙ equal_more (part a) (part b) (part n) (part s) (map part (drop (i + 1) left)) (map part (drop (i + 1) right)) e1 e2);
      count = omega (arith, long, before.count);
      long = omega (arith, length-append places (s ∷ []), before.long);
    }

pub AreEqual-end : (left right : List ℕ) (old now : Netlist) (places : List ℕ) (i : ℕ) → length left ≤ i → AreEqual left right old now places i → Adds old now places (λ part. equal_bits formulas (map part left) (map part right)) nothing
AreEqual-end left right old now places i past done = subst (λ l. Adds old now places (λ part. equal_bits formulas (map part left) (map part right)) (λ part. equal_bits formulas (map part l) (map part (drop i right)))) (drop_all i left past) done.made

pub IsEqual : (old mid new : Netlist) (left right places reversed : List ℕ) (place : ℕ) → reversed ≡ reverse places
    → Adds old mid places (λ part. equal_bits formulas (map part left) (map part right)) nothing
    → Adds mid new (place ∷ []) (λ part. joined_all (joint_gate formulas joints.Both) (joint_none formulas joints.Both) (map part reversed)) nothing
    → Adds old new (place ∷ []) (λ part. equal formulas (map part left) (map part right)) nothing
IsEqual old mid new left right places reversed place turned first second =
    Adds-chain old mid new places (place ∷ []) (λ part. equal_bits formulas (map part left) (map part right)) (λ part. joined_all (joint_gate formulas joints.Both) (joint_none formulas joints.Both) (map part reversed)) (λ part. equal formulas (map part left) (map part right)) first second
    (λ part meets bits.
    let e = ap (map part) turned ∙ reverse-map part places ∙ ap reverse bits in
    ap (λ l. after (equal_bits formulas (map part left) (map part right)).cells (joined_all formulas.both formulas.one l)) e)

pub record IsLess (left right : List ℕ) (old now : Netlist) (so_far i : ℕ) : Type 0 where
  pub made : Adds old now [] (λ part. less formulas (part 0) (map part left) (map part right)) (λ part. less formulas (part so_far) (map part (drop i left)) (map part (drop i right)))
  pub there : so_far < length now.cells
  pub count : length now.cells ≡ length old.cells + 2 * i

pub IsLess-start : (left right : List ℕ) (old : Netlist) → HasConstants old.cells → IsLess left right old old 0 0
IsLess-start left right old has = record { made = Adds-start old (λ part. less formulas (part 0) (map part left) (map part right)); there = omega (arith, has.there); count = omega arith }

less_more : (a b l n s : Formula) (xs ys : List Formula) → n ≡ Xor a b → s ≡ Mux n b l → less formulas l (a ∷ xs) (b ∷ ys) ≡ ahead [] (Xor a b ∷ Mux n b l ∷ []) (less formulas s xs ys)
less_more a b l n s xs ys e1 e2 = made_same _ _ (simp (e2, e1)) (simp (e2, e1))

pub IsLess-step : (left right : List ℕ) (old now new : Netlist) (so_far i a b s : ℕ) → i < length left → i < length right → a ≡ get_or left i 0 → b ≡ get_or right i 0 → new ≡ with_cells now (less_cells (length now.cells) a b so_far) → s ≡ length now.cells + 1 → IsLess left right old now so_far i → IsLess left right old new s (i + 1)
IsLess-step left right old now new so_far i a b s in_left in_right is_a is_b grown at before =
    let n = length now.cells in
    let added = less_cells n a b so_far in
    let long : length new.cells ≡ length now.cells + 2 = length_new now new added grown in
    record {
      made = Adds-step old now new [] [] added (λ part. less formulas (part 0) (map part left) (map part right)) (λ part. less formulas (part so_far) (map part (drop i left)) (map part (drop i right))) (λ part. less formulas (part s) (map part (drop (i + 1) left)) (map part (drop (i + 1) right))) before.made grown
          (All-nil (λ p. p < length new.cells))
          (λ part meets.
          let e1 : part n ≡ Xor (part a) (part b) = part_new now new added part grown meets 0 n (omega arith) (omega arith) in
          let e2 : part s ≡ Mux (part n) (part b) (part so_far) = part_new now new added part grown meets 1 s (omega arith) at in
          ap₂ (λ l r. less formulas (part so_far) l r) (parts_more part left i a in_left is_a) (parts_more part right i b in_right is_b)
          ∙ less_more (part a) (part b) (part so_far) (part n) (part s) (map part (drop (i + 1) left)) (map part (drop (i + 1) right)) e1 e2);
      there = omega (arith, long, at);
      count = omega (arith, long, before.count);
    }

pub IsLess-end : (left right : List ℕ) (old now : Netlist) (so_far i : ℕ) → HasConstants old.cells → length left ≤ i → IsLess left right old now so_far i → Adds old now (so_far ∷ []) (λ part. less formulas formulas.zero (map part left) (map part right)) nothing
IsLess-end left right old now so_far i has past done =
    let whole = Adds-end old now [] (so_far ∷ []) (λ part. less formulas (part 0) (map part left) (map part right))
    (subst (λ l. Adds old now [] (λ part. less formulas (part 0) (map part left) (map part right)) (λ part. less formulas (part so_far) (map part l) (map part (drop i right)))) (drop_all i left past) done.made)
    (All-cons (λ p. p < length now.cells) so_far [] done.there (All-nil (λ p. p < length now.cells))) in
    record {
      more = whole.more;
      grown = whole.grown;
      there = whole.there;
      made = λ part meets. whole.made part meets ∙ ap (λ o. less formulas o (map part left) (map part right)) (part_zero now.cells part (Adds-constants old now (so_far ∷ []) (λ p. less formulas (p 0) (map p left) (map p right)) nothing has whole) meets);
    }
