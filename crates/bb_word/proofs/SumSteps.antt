-- Complements, sums and differences, cell by cell.
use Rattle.std.proofs.Common.{◌≡◌, ◌∙◌, ◌+◌, ◌*◌, ◌<◌, ◌≤◌, ℕ, List, [], ◌∷◌, ◌++◌, map, length, get_or, drop, refl, sym, ap, subst, arith}
use Rattle.std.proofs.Math.Path.{ap₂}
use Rattle.std.proofs.lemmas.List.{length-append, drop_all}
use Rattle.std.proofs.lemmas.List.Elements.{All-nil, All-cons}
use Rattle.bb_net.specs.declared.cell.Cell.TheVariants as cell
use Rattle.bb_net.specs.Netlists.{Netlist}
use Rattle.bb_word.specs.Gates.{Made, after}
use Rattle.bb_word.specs.Circuits.{complements, sum, difference}
use Rattle.bb_word.specs.Laws.Formulas.{Formula, Xor, And, Or, Not, formulas}
use Rattle.bb_word.specs.Inside.Adding.{with_cells, nothing, ahead, Adds, digit_cells, HasConstants}
use Rattle.bb_word.specs.Laws.MapLaws.{made_same}
use Rattle.bb_word.proofs.AddingLemmas.{Adds-start, Adds-step, Adds-chain}
use Rattle.bb_word.proofs.StepLemmas.{part_new, length_new, parts_more, part_one, Adds-constants}

abbrev pub both_complements : List Formula → Made Formula
both_complements xs = record { bits = complements formulas xs; cells = complements formulas xs }

pub record IsComplemented (bits : List ℕ) (old now : Netlist) (places : List ℕ) (i : ℕ) : Type 0 where
  pub made : Adds old now places (λ part. both_complements (map part bits)) (λ part. both_complements (map part (drop i bits)))
  pub count : length now.cells ≡ length old.cells + i
  pub long : length places ≡ i

pub IsComplemented-start : (bits : List ℕ) (old : Netlist) → IsComplemented bits old old [] 0
IsComplemented-start bits old = record { made = Adds-start old (λ part. both_complements (map part bits)); count = omega arith; long = refl }

pub IsComplemented-step : (bits : List ℕ) (old now new : Netlist) (places : List ℕ) (i bit place : ℕ) → i < length bits → bit ≡ get_or bits i 0 → new ≡ with_cells now (cell.Not bit ∷ []) → place ≡ length now.cells → IsComplemented bits old now places i → IsComplemented bits old new (places ++ place ∷ []) (i + 1)
IsComplemented-step bits old now new places i bit place below is grown at before =
    let added = cell.Not bit ∷ [] in
    let long = length_new now new added grown in
    record {
      made = Adds-step old now new places (place ∷ []) added (λ part. both_complements (map part bits)) (λ part. both_complements (map part (drop i bits))) (λ part. both_complements (map part (drop (i + 1) bits))) before.made grown
          (All-cons (λ p. p < length new.cells) place [] (omega (arith, long, at)) (All-nil (λ p. p < length new.cells)))
          (λ part meets.
          let f : part place ≡ Not (part bit) = part_new now new added part grown meets 0 place (omega arith) (omega (arith, at)) in
          ap both_complements (parts_more part bits i bit below is) ∙ made_same _ _ (ap (λ z. z ∷ complements formulas (map part (drop (i + 1) bits))) (sym f)) refl);
      count = omega (arith, long, before.count);
      long = omega (arith, length-append places (place ∷ []), before.long);
    }

pub IsComplemented-end : (bits : List ℕ) (old now : Netlist) (places : List ℕ) (i : ℕ) → length bits ≤ i → IsComplemented bits old now places i → Adds old now places (λ part. both_complements (map part bits)) nothing
IsComplemented-end bits old now places i past done = subst (λ l. Adds old now places (λ part. both_complements (map part bits)) (λ part. both_complements (map part l))) (drop_all i bits past) done.made

pub record IsSummed (carry : ℕ) (left right : List ℕ) (old now : Netlist) (places : List ℕ) (c i : ℕ) : Type 0 where
  pub made : Adds old now places (λ part. sum formulas (part carry) (map part left) (map part right)) (λ part. sum formulas (part c) (map part (drop i left)) (map part (drop i right)))
  pub there : c < length now.cells
  pub count : length now.cells ≡ length old.cells + 5 * i

pub IsSummed-start : (carry : ℕ) (left right : List ℕ) (old : Netlist) → carry < length old.cells → IsSummed carry left right old old [] carry 0
IsSummed-start carry left right old there = record { made = Adds-start old (λ part. sum formulas (part carry) (map part left) (map part right)); there = there; count = omega arith }

sum_more : (a b c n s x y next : Formula) (as' bs : List Formula) → n ≡ Xor a b → s ≡ Xor n c → x ≡ And a b → y ≡ And n c → next ≡ Or x y → sum formulas c (a ∷ as') (b ∷ bs) ≡ ahead (s ∷ []) (Xor a b ∷ Xor n c ∷ And a b ∷ And n c ∷ Or x y ∷ []) (sum formulas next as' bs)
sum_more a b c n s x y next as' bs e1 e2 e3 e4 e5 = made_same _ _ (simp (e5, e4, e3, e2, e1)) (simp (e5, e4, e3, e2, e1))

pub IsSummed-step : (carry : ℕ) (left right : List ℕ) (old now new : Netlist) (places : List ℕ) (c i a b s next : ℕ) → i < length left → i < length right → a ≡ get_or left i 0 → b ≡ get_or right i 0 → new ≡ with_cells now (digit_cells (length now.cells) a b c) → s ≡ length now.cells + 1 → next ≡ length now.cells + 4 → IsSummed carry left right old now places c i → IsSummed carry left right old new (places ++ s ∷ []) next (i + 1)
IsSummed-step carry left right old now new places c i a b s next in_left in_right is_a is_b grown at_s at_next before =
    let n = length now.cells in
    let added = digit_cells n a b c in
    let long : length new.cells ≡ length now.cells + 5 = length_new now new added grown in
    record {
      made = Adds-step old now new places (s ∷ []) added (λ part. sum formulas (part carry) (map part left) (map part right)) (λ part. sum formulas (part c) (map part (drop i left)) (map part (drop i right))) (λ part. sum formulas (part next) (map part (drop (i + 1) left)) (map part (drop (i + 1) right))) before.made grown
          (All-cons (λ p. p < length new.cells) s [] (omega (arith, long, at_s)) (All-nil (λ p. p < length new.cells)))
          (λ part meets.
          let e1 : part n ≡ Xor (part a) (part b) = part_new now new added part grown meets 0 n (omega arith) (omega arith) in
          let e2 : part s ≡ Xor (part n) (part c) = part_new now new added part grown meets 1 s (omega arith) at_s in
          let e3 : part (n + 2) ≡ And (part a) (part b) = part_new now new added part grown meets 2 (n + 2) (omega arith) refl in
          let e4 : part (n + 3) ≡ And (part n) (part c) = part_new now new added part grown meets 3 (n + 3) (omega arith) refl in
          let e5 : part next ≡ Or (part (n + 2)) (part (n + 3)) = part_new now new added part grown meets 4 next (omega arith) at_next in
          ap₂ (λ l r. sum formulas (part c) l r) (parts_more part left i a in_left is_a) (parts_more part right i b in_right is_b)
          ∙ sum_more (part a) (part b) (part c) (part n) (part s) (part (n + 2)) (part (n + 3)) (part next) (map part (drop (i + 1) left)) (map part (drop (i + 1) right)) e1 e2 e3 e4 e5);
      there = omega (arith, long, at_next);
      count = omega (arith, long, before.count);
    }

pub IsSummed-end : (carry : ℕ) (left right : List ℕ) (old now : Netlist) (places : List ℕ) (c i : ℕ) → length left ≤ i → IsSummed carry left right old now places c i → Adds old now places (λ part. sum formulas (part carry) (map part left) (map part right)) nothing
IsSummed-end carry left right old now places c i past done = subst (λ l. Adds old now places (λ part. sum formulas (part carry) (map part left) (map part right)) (λ part. sum formulas (part c) (map part l) (map part (drop i right)))) (drop_all i left past) done.made

-- a sum with the complements and a carry of 1
pub IsDifference : (old mid new : Netlist) (left right inverses slice places : List ℕ) → slice ≡ inverses → HasConstants old.cells
    → Adds old mid inverses (λ part. both_complements (map part right)) nothing
    → Adds mid new places (λ part. sum formulas (part 1) (map part left) (map part slice)) nothing
    → Adds old new places (λ part. difference formulas (map part left) (map part right)) nothing
IsDifference old mid new left right inverses slice places same has first second =
    Adds-chain old mid new inverses places (λ part. both_complements (map part right)) (λ part. sum formulas (part 1) (map part left) (map part slice)) (λ part. difference formulas (map part left) (map part right)) first second
    (λ part meets bits.
    let one = part_one new.cells part (Adds-constants mid new places (λ p. sum formulas (p 1) (map p left) (map p slice)) nothing (Adds-constants old mid inverses (λ p. both_complements (map p right)) nothing has first) second) meets in
    ap₂ (λ o l. after (complements formulas (map part right)) (sum formulas o (map part left) l)) one (ap (map part) same ∙ bits))
