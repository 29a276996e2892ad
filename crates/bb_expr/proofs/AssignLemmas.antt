-- What may be assigned has no cells, and at its own width bits of nets alone.
use Rattle.std.proofs.Common.{◌≡◌, ℕ, ◌+◌, ◌-◌, true, false, List, [], ◌∷◌, ◌++◌, length, map, refl, sym, ap, ap₂, ◌∙◌, subst, arith, length-append}
use Rattle.std.proofs.lemmas.Bool.{false≢true}
use Rattle.std.proofs.lemmas.List.{length-map}
use Rattle.std.proofs.lemmas.List.Elements.{All-from_recursion}
use Rattle.std.specs.Prelude.{replicate, sum}
use Rattle.std.specs.List.{AllByRecursion, list_all, range_with_len}
use Rattle.bb_lemmas.proofs.Ranges.{length-range}
use Rattle.bb_lemmas.proofs.Bits.{and_left, and_right}
use Rattle.bb_ast.specs.Syntax.{Expression, Net, Bit, Part, Sized, Plain, Not, Fold, Chain, Words, Cond, Concat, Repeat, Parts, no_part, part}
use Rattle.bb_ast.specs.Folds.{of_parts}
use Rattle.bb_ast.specs.Assignable.{assigning, is_assignable}
use Rattle.bb_names.specs.Ranges.{distance, range_width, place_of}
use Rattle.bb_names.specs.Widths.{Ranges, own_width, widths}
use Rattle.bb_expr.specs.Lists.{extended}
use Rattle.bb_expr.specs.Terms.{Const, Net as NetTerm}
use Rattle.bb_expr.specs.Cells.{made, makes, net_terms, part_bits, part_cells}
use Rattle.bb_expr.specs.Laws.FitLaws.{IsNetBit, AssignableIsNets}
use Rattle.bb_expr.proofs.ValueLemmas.{sum-step}
use Rattle.bb_expr.proofs.MadeValue.{made_seen}
use Rattle.bb_expr.proofs.CellCounts.{length-made}
use Rattle.bb_expr.proofs.ListLemmas.{all-join}

pub extended-own : {A : Type 0} (null : A) (w : ℕ) (bits : List A) → length bits ≡ w → extended null w bits ≡ bits
extended-own null w bits long = ap (λ n. replicate n null ++ bits) (none w (length bits) long)
  where
    none : (w n : ℕ) → n ≡ w → w - n ≡ 0
    none w n same = omega (arith, same)

pub length-net_terms : (n : List ℕ) (place count : ℕ) → length (net_terms n place count) ≡ count
length-net_terms n place count = length-map (range_with_len place count) (NetTerm n) ∙ length-range place count

-- parts side by side have as many bits as their widths say
pub length-part_bits : (ranges : Ranges) (all : Parts) → length (part_bits (of_parts (made_seen ranges) (makes ranges) all)) ≡ sum (of_parts (λ x a. a) (widths ranges) all)
length-part_bits ranges no_part = refl
length-part_bits ranges (part e rest) =
    length-append (made ranges e (own_width ranges e)).bits (part_bits (of_parts (made_seen ranges) (makes ranges) rest))
    ∙ sum-step _ _ _ (of_parts (λ x a. a) (widths ranges) rest) (length-made ranges e (own_width ranges e) (omega arith)) (length-part_bits ranges rest)

net-bits : (n : List ℕ) (places : List ℕ) → AllByRecursion IsNetBit (map (NetTerm n) places)
net-bits n [] = tt
net-bits n (i ∷ places) = (tt, net-bits n places)

net-whole : (n : List ℕ) (place count w : ℕ) → count ≡ w → AllByRecursion IsNetBit (extended (Const false) w (net_terms n place count))
net-whole n place count w same =
    subst (AllByRecursion IsNetBit) (sym (extended-own (Const false) w (net_terms n place count) (length-net_terms n place count ∙ same))) (net-bits n (range_with_len place count))

abbrev HasNetBits : Ranges → Expression → Type 0
HasNetBits ranges e = ((w : ℕ) → (made ranges e w).cells ≡ []) × AllByRecursion IsNetBit (made ranges e (own_width ranges e)).bits

mutual
  assigned : (ranges : Ranges) (e : Expression) → is_assignable e ≡ true → HasNetBits ranges e
  assigned ranges (Net n) h = (λ w. refl, net-whole n 0 (range_width (ranges n)) _ refl)
  assigned ranges (Bit n i) h = (λ w. refl, net-whole n (place_of (ranges n) i) 1 _ refl)
  assigned ranges (Part n i j) h = (λ w. refl, net-whole n (place_of (ranges n) i) (distance i j + 1) _ refl)
  assigned ranges (Sized bits) h = absurd (false≢true h)
  assigned ranges (Plain n) h = absurd (false≢true h)
  assigned ranges (Not k e) h = absurd (false≢true h)
  assigned ranges (Fold op e) h = absurd (false≢true h)
  assigned ranges (Chain e rest) h = absurd (false≢true h)
  assigned ranges (Words e rest) h = absurd (false≢true h)
  assigned ranges (Cond all last) h = absurd (false≢true h)
  assigned ranges (Concat all) h =
      let parts = parts-assigned ranges all h in
      (λ w. parts.0, subst (AllByRecursion IsNetBit) (sym (extended-own (Const false) _ (part_bits (of_parts (made_seen ranges) (makes ranges) all)) (length-part_bits ranges all))) parts.1)
  assigned ranges (Repeat k all) h = absurd (false≢true h)

  parts-assigned : (ranges : Ranges) (all : Parts) → list_all (λ e. e) (of_parts (λ e a. a) assigning all) ≡ true
      → (part_cells (of_parts (made_seen ranges) (makes ranges) all) ≡ []) × AllByRecursion IsNetBit (part_bits (of_parts (made_seen ranges) (makes ranges) all))
  parts-assigned ranges no_part h = (refl, tt)
  parts-assigned ranges (part e rest) h =
      let first = assigned ranges e (and_left (is_assignable e) _ h) in
      let others = parts-assigned ranges rest (and_right (is_assignable e) _ h) in
      (ap₂ (λ a b. a ++ b) (first.0 (own_width ranges e)) others.0, all-join IsNetBit (made ranges e (own_width ranges e)).bits _ first.1 others.1)

pub assignable_is_nets : AssignableIsNets
assignable_is_nets ranges e h = let all = assigned ranges e h in (all.0, All-from_recursion IsNetBit _ all.1)
