-- a block of variables quantified, from the last one on
use Rattle.std.proofs.Common.{◌≡◌, ◌≤◌, ℕ, zero, suc, ◌+◌, ◌-◌, Bool, List, [], ◌∷◌, ◌++◌, map, sym, ap, ◌∙◌, subst, arith}
use Rattle.std.specs.List.{range_with_len}
use Rattle.bb_bits.specs.Truth.{Truth, quantified, quantified_block}
use Rattle.bb_uniq.specs.declared.store.Ref.{Ref}
use Rattle.bb_uniq.specs.Inside.Nodes.{NodeStore}
use Rattle.bb_uniq.specs.Inside.Meaning.{truth_of, Adds, IsTooMany}
use Rattle.bb_sym.specs.Plain.{block_functions}
use Rattle.bb_sym.specs.Inside.Made.{Makes, AreTooMany, Represents}
use Rattle.bb_sym.proofs.MadeLemmas.{AreWithin, Makes-one, Makes-then, Makes-same, refused, listed, within_none, within_one, within_append, within_append_left, within_append_right}

swapped : (x : Truth) (ts : List Truth) → AreWithin (ts ++ x ∷ []) (x ∷ ts)
swapped x ts = within_append ts (x ∷ []) (x ∷ ts) (within_append_right (x ∷ []) ts) (within_append_left (x ∷ []) ts)

module _ (op : Bool → Bool → Bool) (first count : ℕ) (t : Truth) where
  -- quantified from a variable on
  abbrev pub from_each : ℕ → Truth
  from_each k = quantified_block op (first + k) (count - k) t

  -- the tables from a variable on
  abbrev pub functions_from : ℕ → List Truth
  functions_from k = map from_each (range_with_len k (count - k))

  pub from_each-last : from_each count ≡ t
  from_each-last = ap (λ k. quantified_block op (first + count) k t) (let e : count - count ≡ 0 = omega arith in e)

  pub functions_from-last : functions_from count ≡ []
  functions_from-last = ap (λ k. map from_each (range_with_len count k)) (let e : count - count ≡ 0 = omega arith in e)

  from_each-earlier : (k : ℕ) → k + 1 ≤ count → from_each k ≡ quantified op (first + k) (from_each (k + 1))
  from_each-earlier k l =
      ap (λ n. quantified_block op (first + k) n t) (let e : count - k ≡ suc (count - (k + 1)) = omega (arith, l) in e)
      ∙ ap (λ v. quantified op (first + k) (quantified_block op v (count - (k + 1)) t)) (let e : suc (first + k) ≡ first + (k + 1) = omega arith in e)

  functions_from-earlier : (k : ℕ) → k + 1 ≤ count → functions_from k ≡ from_each k ∷ functions_from (k + 1)
  functions_from-earlier k l = ap (λ n. map from_each (range_with_len k n)) (let e : count - k ≡ suc (count - (k + 1)) = omega (arith, l) in e)

  -- each of the later tables is one of all
  later_within : (k i : ℕ) → k + i ≡ count → AreWithin (map from_each (range_with_len k i)) (block_functions op first count t)
  later_within k zero e = within_none (block_functions op first count t)
  later_within k (suc i) e =
      within_append (from_each k ∷ []) (map from_each (range_with_len (k + 1) i)) (block_functions op first count t)
      (within_one (from_each k) (block_functions op first count t) (listed from_each 0 count k k (omega (arith, e)) (omega arith)))
      (later_within (k + 1) i (omega (arith, e)))

  pub block_whole : (start now : NodeStore) (k : ℕ) → k ≡ 0 → Makes start now (functions_from k) → Makes start now (block_functions op first count t)
  block_whole start now k e h =
      subst (λ n. Makes start now (map from_each (range_with_len 0 n))) (let whole : count - 0 ≡ count = omega arith in whole) (subst (λ i. Makes start now (functions_from i)) e h)

  -- one more variable
  module _ (start old : NodeStore) (k : ℕ) (r : Ref) (l : k + 1 ≤ count) (occur : Represents old (from_each (k + 1)) r) (made : Makes start old (functions_from (k + 1))) where
    next_is : quantified op (first + k) (truth_of old r.0) ≡ from_each k
    next_is = ap (quantified op (first + k)) occur.table ∙ sym (from_each-earlier k l)

    pub refused_earlier : IsTooMany old (quantified op (first + k) (truth_of old r.0)) → AreTooMany start (block_functions op first count t)
    refused_earlier many =
        refused start old (functions_from (k + 1)) (block_functions op first count t) (from_each k) made (subst (IsTooMany old) next_is many)
        (later_within (k + 1) (count - (k + 1)) (omega (arith, l))) (listed from_each 0 count k k (omega (arith, l)) (omega arith))

    pub occurs_earlier : (new : NodeStore) (q : Ref) → Adds old new (quantified op (first + k) (truth_of old r.0)) q.0 → Represents new (from_each k) q
    occurs_earlier new q added = record { ref = added.ref; table = added.table ∙ next_is }

    pub makes_earlier : (new : NodeStore) (q : Ref) → Adds old new (quantified op (first + k) (truth_of old r.0)) q.0 → Makes start new (functions_from k)
    makes_earlier new q added =
        let x = from_each k in
        let ts = functions_from (k + 1) in
        subst (Makes start new) (sym (functions_from-earlier k l))
        (Makes-same start new (ts ++ x ∷ []) (x ∷ ts) (swapped x ts) (within_append (x ∷ []) ts (ts ++ x ∷ []) (within_append_right ts (x ∷ [])) (within_append_left ts (x ∷ [])))
        (Makes-then start old new ts (x ∷ []) made (Makes-one old new x q.0 (subst (λ u. Adds old new u q.0) next_is added))))
