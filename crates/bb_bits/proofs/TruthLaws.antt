-- the laws of truth tables, by topic
use Rattle.std.proofs.Common.{◌≡◌, ◌↔◌, ◌⊎◌, ℕ, ◌+◌, Bool, true, false, ◌&&◌, ◌||◌, List, ◌++◌, length, refl, subst, inl, inr, arith}
use Rattle.bb_bits.specs.Truth.{Truth, IsTruthTable, truth_at, quantified_block, IsBeadOfAny}
use Rattle.std.specs.Prelude.{Contains}
use Rattle.std.proofs.lemmas.List.Elements.{All-contains}
use Rattle.bb_bits.specs.Laws.TruthLaws.{TableLaws, QuantifierLaws, BeadLaws, SizeLaws}
use Rattle.bb_bits.proofs.TruthBits.{length-truth_bits, table_of_bits, bits_fix_table}
use Rattle.bb_bits.proofs.TruthPoints.{points_fix_table, IsTruthTable-lifted, IsTruthTable-constant, IsTruthTable-variable, IsTruthTable-combined, constant_at_point, variable_at_point, combined_at_point, lifted-suc, lifted_at_point, lifted_same, combined-lifted, variable-lifted}
use Rattle.bb_bits.proofs.TruthQuantifiers.{IsTruthTable-quantified, quantified_at_point, quantified-earlier, quantified-here, quantified-lifted, block_every, block_some}
use Rattle.bb_bits.proofs.TruthBeads.{IsSubtableOf-self, beads_of_halves, beads_of_lifted, first_and_rest}
use Rattle.bb_bits.proofs.TruthBlocks.{beads_are_blocks, blocks_fix_bead}
use Rattle.bb_bits.proofs.TruthSizes.{length-le_from_entries, size_is_fixed, HasSize-one, more_than, at_most, not_both, more_in_larger}
use Rattle.bb_bits.proofs.TruthFinite.{beads_have_size}

pub table_laws : TableLaws
table_laws = record {
  length_is_power = length-truth_bits;
  bits_have_table = table_of_bits;
  bits_fix_table = bits_fix_table;
  points_fix_table = points_fix_table;
  lifted_size = IsTruthTable-lifted;
  constant_size = IsTruthTable-constant;
  variable_size = IsTruthTable-variable;
  combined_size = IsTruthTable-combined;
  quantified_size = IsTruthTable-quantified;
  constant_at_point = constant_at_point;
  variable_at_point = variable_at_point;
  combined_at_point = combined_at_point;
  lifted_once_more = lifted-suc;
  lifted_at_point = lifted_at_point;
  lifted_same = lifted_same;
  combined_lifted = combined-lifted;
  variable_lifted = variable-lifted;
}

pub bead_laws : BeadLaws
bead_laws = record {
  self = λ b h. (IsSubtableOf-self b, h);
  halves = beads_of_halves;
  lifted = beads_of_lifted;
  blocks = beads_are_blocks;
  bits_fix_bead = blocks_fix_bead;
  first_and_rest = first_and_rest;
}

pub size_laws : SizeLaws
size_laws = record {
  fewer_entries = λ ts us d all. length-le_from_entries ts us d (λ t c. All-contains (Contains us) ts t all c);
  one_length = size_is_fixed;
  have_size = beads_have_size;
  one_size = λ ts. HasSize-one (IsBeadOfAny ts);
  more_than = λ ts. more_than (IsBeadOfAny ts);
  at_most = λ ts. at_most (IsBeadOfAny ts);
  not_both = λ ts. not_both (IsBeadOfAny ts);
  more_in_longer = λ ts us k all. more_in_larger (IsBeadOfAny ts) (IsBeadOfAny us) k (λ b h. (h.0, All-contains (Contains us) ts h.0 all h.1, h.2));
}

-- the two operations on bits
and_true : (a b : Bool) → ((a && b) ≡ true) ↔ ((a ≡ true) × (b ≡ true))
and_true true b = (λ e. (refl, e), λ p. p.1)
and_true false b = (λ e. absurd (let f : false ≡ true = e in cc), λ p. p.0)

and_false : (a b : Bool) → ((a && b) ≡ false) ↔ ((a ≡ false) ⊎ (b ≡ false))
and_false true b = (λ e. inr e, λ p. elim p [ inl l ↦ absurd (let f : true ≡ false = l in cc) | inr r ↦ r ])
and_false false b = (λ e. inl refl, λ p. refl)

or_true : (a b : Bool) → ((a || b) ≡ true) ↔ ((a ≡ true) ⊎ (b ≡ true))
or_true true b = (λ e. inl refl, λ p. refl)
or_true false b = (λ e. inr e, λ p. elim p [ inl l ↦ absurd (let f : false ≡ true = l in cc) | inr r ↦ r ])

or_false : (a b : Bool) → ((a || b) ≡ false) ↔ ((a ≡ false) × (b ≡ false))
or_false true b = (λ e. absurd (let f : true ≡ false = e in cc), λ p. p.0)
or_false false b = (λ e. (refl, e), λ p. p.1)

-- the lengths of a block's parts, written into its sizes
every : (op : Bool → Bool → Bool) (bit : Bool) → ((a b : Bool) → (op a b ≡ bit) ↔ ((a ≡ bit) × (b ≡ bit))) → (v k : ℕ) (t : Truth) (x y z : List Bool) → length x ≡ v → length y ≡ k →
    IsTruthTable (v + (k + length z)) t → (truth_at (quantified_block op v k t) (x ++ (y ++ z)) ≡ bit) ↔ ((values : List Bool) → length values ≡ k → truth_at t (x ++ (values ++ z)) ≡ bit)
every op bit both v k t x y z ex ey h =
    subst (λ i. (truth_at (quantified_block op i k t) (x ++ (y ++ z)) ≡ bit) ↔ ((values : List Bool) → length values ≡ k → truth_at t (x ++ (values ++ z)) ≡ bit)) ex
    (subst (λ j. (truth_at (quantified_block op (length x) j t) (x ++ (y ++ z)) ≡ bit) ↔ ((values : List Bool) → length values ≡ j → truth_at t (x ++ (values ++ z)) ≡ bit)) ey
    (block_every op bit both (v + (k + length z)) t x y z (omega (arith, ex, ey)) h))

some : (op : Bool → Bool → Bool) (bit : Bool) → ((a b : Bool) → (op a b ≡ bit) ↔ ((a ≡ bit) ⊎ (b ≡ bit))) → (v k : ℕ) (t : Truth) (x y z : List Bool) → length x ≡ v → length y ≡ k →
    IsTruthTable (v + (k + length z)) t → (truth_at (quantified_block op v k t) (x ++ (y ++ z)) ≡ bit) ↔ ((values : List Bool) × (length values ≡ k) × (truth_at t (x ++ (values ++ z)) ≡ bit))
some op bit one v k t x y z ex ey h =
    subst (λ i. (truth_at (quantified_block op i k t) (x ++ (y ++ z)) ≡ bit) ↔ ((values : List Bool) × (length values ≡ k) × (truth_at t (x ++ (values ++ z)) ≡ bit))) ex
    (subst (λ j. (truth_at (quantified_block op (length x) j t) (x ++ (y ++ z)) ≡ bit) ↔ ((values : List Bool) × (length values ≡ j) × (truth_at t (x ++ (values ++ z)) ≡ bit))) ey
    (block_some op bit one (v + (k + length z)) t x y z (omega (arith, ex, ey)) h))

pub quantifier_laws : QuantifierLaws
quantifier_laws = record {
  at_point = quantified_at_point;
  earlier = quantified-earlier;
  here = quantified-here;
  later = quantified-lifted;
  all_true = every ◌&&◌ true and_true;
  all_false = some ◌&&◌ false and_false;
  some_true = some ◌||◌ true or_true;
  some_false = every ◌||◌ false or_false;
}
