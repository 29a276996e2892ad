-- an operation on three diagrams, by halves
use Rattle.std.proofs.Common.{◌≡◌, ◌<◌, ◌≤◌, ℕ, suc, ◌+◌, ◌-◌, Bool, true, false, List, length, min, refl, sym, ap, ap₂, ◌∙◌, subst, inl, inr, arith}
use Rattle.std.proofs.lemmas.Bool.{cases_lt}
use Rattle.bb_bits.specs.Truth.{Truth, Halves, IsTruthTable, lifted, combined, truth_at}
use Rattle.bb_uniq.specs.Inside.Nodes.{NodeStore, IsRef, IsBelow, IsStore, view_of}
use Rattle.bb_uniq.specs.Inside.Meaning.{Keeps, Adds, IsTooMany, truth_of}
use Rattle.bb_uniq.specs.Inside.Cofactors.{variable_seen, top_of, lo_seen, hi_seen, AreCofactors, IsReady}
use Rattle.bb_dd.specs.Inside.Results.{result_table}
use Rattle.bb_dd.specs.Inside.Terminals.{Settles, IsGiven}
use Rattle.bb_dd.proofs.Given.{Given}

-- what is given is of the store
pub given_ref : (s : NodeStore) (f g h r : ℕ) → IsRef s f → IsRef s g → IsRef s h → IsGiven f g h r → IsRef s r
given_ref s f g h r f_ref g_ref h_ref (inl leaf) = omega (arith, leaf)
given_ref s f g h r f_ref g_ref h_ref (inr (inl e)) = subst (IsRef s) (sym e) f_ref
given_ref s f g h r f_ref g_ref h_ref (inr (inr (inl e))) = subst (IsRef s) (sym e) g_ref
given_ref s f g h r f_ref g_ref h_ref (inr (inr (inr e))) = subst (IsRef s) (sym e) h_ref

-- operands keep the table of their result
pub result_kept : (old new : NodeStore) → Keeps old new → (op : Bool → Bool → Bool → Bool) (f g h : ℕ) → IsRef old f → IsRef old g → IsRef old h → result_table new op f g h ≡ result_table old op f g h
result_kept old new kept op f g h f_ref g_ref h_ref =
    let a = kept.tables f f_ref in
    let b = kept.tables g g_ref in
    let c = kept.tables h h_ref in
    ap (λ t. combined op t (truth_of new g) (truth_of new h)) a ∙ (ap (λ t. combined op (truth_of old f) t (truth_of new h)) b ∙ ap (λ t. combined op (truth_of old f) (truth_of old g) t) c)

top_kept : (old new : NodeStore) → Keeps old new → (r : ℕ) → IsRef old r → top_of new r ≡ top_of old r
top_kept old new kept r ref = ap₂ variable_seen kept.vars (kept.views r ref)

-- the tables of the halves of t at the variable v, with the operands that make them
pub record Halved (s : NodeStore) (op : Bool → Bool → Bool → Bool) (t : Truth) (v m f0 g0 h0 f1 g1 h1 : ℕ) : Type 0 where
  pub level : v + suc m ≡ s.vars
  pub first : Truth
  pub second : Truth
  pub first_size : IsTruthTable m first
  pub second_size : IsTruthTable m second
  pub whole : t ≡ lifted v (Halves first second)
  pub first_is : result_table s op f0 g0 h0 ≡ lifted (suc v) first
  pub second_is : result_table s op f1 g1 h1 ≡ lifted (suc v) second
  pub f0_below : IsBelow s v f0
  pub g0_below : IsBelow s v g0
  pub h0_below : IsBelow s v h0
  pub f1_below : IsBelow s v f1
  pub g1_below : IsBelow s v g1
  pub h1_below : IsBelow s v h1

module _ (given : Given) where
  result_size : (s : NodeStore) (op : Bool → Bool → Bool → Bool) (f g h : ℕ) → IsTruthTable s.vars (result_table s op f g h)
  result_size s op f g h = given.tables.combined_size s.vars op (truth_of s f) (truth_of s g) (truth_of s h) (given.stores.table_size s f) (given.stores.table_size s g) (given.stores.table_size s h)

  result_at : (s : NodeStore) (op : Bool → Bool → Bool → Bool) (f g h : ℕ) (point : List Bool) → length point ≡ s.vars →
      truth_at (result_table s op f g h) point ≡ op (truth_at (truth_of s f) point) (truth_at (truth_of s g) point) (truth_at (truth_of s h) point)
  result_at s op f g h point long = given.tables.combined_at_point s.vars op (truth_of s f) (truth_of s g) (truth_of s h) point (given.stores.table_size s f) (given.stores.table_size s g) (given.stores.table_size s h) long

  -- a result whose bit is right whatever the diagrams' bits are has the right table
  settled_table : (s : NodeStore) (op : Bool → Bool → Bool → Bool) (f g h r : ℕ) → Settles op f g h r → truth_of s r ≡ result_table s op f g h
  settled_table s op f g h r settles =
      given.tables.points_fix_table s.vars (truth_of s r) (result_table s op f g h) (given.stores.table_size s r) (result_size s op f g h) (λ point long.
      let zero_bit : truth_at (truth_of s 0) point ≡ false = ap (λ t. truth_at t point) (given.stores.leaf_table s 0 (omega arith)) ∙ given.tables.constant_at_point s.vars false point long in
      let one_bit : truth_at (truth_of s 1) point ≡ true = ap (λ t. truth_at t point) (given.stores.leaf_table s 1 (omega arith)) ∙ given.tables.constant_at_point s.vars true point long in
      settles (λ q. truth_at (truth_of s q) point) zero_bit one_bit ∙ sym (result_at s op f g h point long))

  pub adds_terminal : (s : NodeStore) → IsStore s → (op : Bool → Bool → Bool → Bool) (f g h r : ℕ) → IsRef s f → IsRef s g → IsRef s h → Settles op f g h r → IsGiven f g h r → Adds s s (result_table s op f g h) r
  adds_terminal s sound op f g h r f_ref g_ref h_ref settles reported =
      given.growth.adds_nothing s sound (result_table s op f g h) r (given_ref s f g h r f_ref g_ref h_ref reported) (settled_table s op f g h r settles)

  -- where no result shows at once, some operand has a variable
  first_within : (s : NodeStore) → IsStore s → (f g h v : ℕ) → IsRef s f → IsRef s g → (f < 2 → g < 2 → ⊥) → v ≡ min (min (top_of s f) (top_of s g)) (top_of s h) → v < s.vars
  first_within s sound f g h v f_ref g_ref inner e =
      elim (cases_lt f 2) [
        | inl leaf ↦ elim (cases_lt g 2) [
          | inl leaf_too ↦ absurd (inner leaf leaf_too)
          | inr node ↦ let l = given.stores.inner_top s sound g g_ref node in omega (arith, l, e)
        ]
        | inr node ↦ let l = given.stores.inner_top s sound f f_ref node in omega (arith, l, e)
      ]

  -- the cofactors of an operand, by what was read of it
  cofactors_read : (s : NodeStore) → IsStore s → (v m r lo hi : ℕ) → v + suc m ≡ s.vars → IsRef s r → v ≤ top_of s r → (lo ≡ lo_seen v r (view_of s r)) × (hi ≡ hi_seen v r (view_of s r)) → AreCofactors s v m r lo hi
  cofactors_read s sound v m r lo hi level ref l e =
      subst (λ q. AreCofactors s v m r q hi) (sym e.0) (subst (λ q. AreCofactors s v m r (lo_seen v r (view_of s r)) q) (sym e.1) (given.steps.cofactors s sound v m r level ref l))

  pub halved : (s : NodeStore) → IsStore s → (op : Bool → Bool → Bool → Bool) (v f g h f0 g0 h0 f1 g1 h1 : ℕ) → IsRef s f → IsRef s g → IsRef s h → (f < 2 → g < 2 → ⊥) →
      v ≡ min (min (top_of s f) (top_of s g)) (top_of s h) →
      (f0 ≡ lo_seen v f (view_of s f)) × (f1 ≡ hi_seen v f (view_of s f)) → (g0 ≡ lo_seen v g (view_of s g)) × (g1 ≡ hi_seen v g (view_of s g)) → (h0 ≡ lo_seen v h (view_of s h)) × (h1 ≡ hi_seen v h (view_of s h)) →
      Halved s op (result_table s op f g h) v (s.vars - v - 1) f0 g0 h0 f1 g1 h1
  halved s sound op v f g h f0 g0 h0 f1 g1 h1 f_ref g_ref h_ref inner least at_f at_g at_h =
      let inside = first_within s sound f g h v f_ref g_ref inner least in
      let m : ℕ = s.vars - v - 1 in
      let level : v + suc m ≡ s.vars = omega (arith, inside) in
      let x = cofactors_read s sound v m f f0 f1 level f_ref (omega (arith, least)) at_f in
      let y = cofactors_read s sound v m g g0 g1 level g_ref (omega (arith, least)) at_g in
      let z = cofactors_read s sound v m h h0 h1 level h_ref (omega (arith, least)) at_h in
      record {
        level = level;
        first = combined op x.first y.first z.first;
        second = combined op x.second y.second z.second;
        first_size = given.tables.combined_size m op x.first y.first z.first x.first_size y.first_size z.first_size;
        second_size = given.tables.combined_size m op x.second y.second z.second x.second_size y.second_size z.second_size;
        whole = three op x.whole y.whole z.whole ∙ given.tables.combined_lifted v op (Halves x.first x.second) (Halves y.first y.second) (Halves z.first z.second);
        first_is = three op x.lo_table y.lo_table z.lo_table ∙ given.tables.combined_lifted (suc v) op x.first y.first z.first;
        second_is = three op x.hi_table y.hi_table z.hi_table ∙ given.tables.combined_lifted (suc v) op x.second y.second z.second;
        f0_below = x.lo_below;
        g0_below = y.lo_below;
        h0_below = z.lo_below;
        f1_below = x.hi_below;
        g1_below = y.hi_below;
        h1_below = z.hi_below;
      }
    where
      three : (op : Bool → Bool → Bool → Bool) {a b c d e i : Truth} → a ≡ d → b ≡ e → c ≡ i → combined op a b c ≡ combined op d e i
      three op p q r = rw (p, q, r) refl

  -- the measure falls to operands below
  pub falls : (old new : NodeStore) → Keeps old new → (v n a b c : ℕ) → n ≤ v → v < old.vars → IsBelow old v a → IsBelow old v b → IsBelow old v c →
      new.vars - min (min (top_of new a) (top_of new b)) (top_of new c) < old.vars - n
  falls old new kept v n a b c e l a_below b_below c_below =
      let i = given.stores.top_below old v a l a_below in
      let j = given.stores.top_below old v b l b_below in
      let k = given.stores.top_below old v c l c_below in
      let p = top_kept old new kept a (given.stores.below_is_ref old v a a_below) in
      let q = top_kept old new kept b (given.stores.below_is_ref old v b b_below) in
      let r = top_kept old new kept c (given.stores.below_is_ref old v c c_below) in
      omega (arith, e, l, i, j, k, p, q, r, kept.vars)

  module _ (s : NodeStore) (op : Bool → Bool → Bool → Bool) (t : Truth) (v m f0 g0 h0 f1 g1 h1 : ℕ) (x : Halved s op t v m f0 g0 h0 f1 g1 h1) where
    -- the first half was refused
    pub refused_first : IsTooMany s (result_table s op f0 g0 h0) → IsTooMany s t
    refused_first = given.steps.first_refused s v x.first x.second t (result_table s op f0 g0 h0) x.whole x.first_is

    -- the second half, in the store after the first
    second_after : (mid : NodeStore) → Keeps s mid → result_table mid op f1 g1 h1 ≡ lifted (suc v) x.second
    second_after mid kept =
        result_kept s mid kept op f1 g1 h1 (given.stores.below_is_ref s v f1 x.f1_below) (given.stores.below_is_ref s v g1 x.g1_below) (given.stores.below_is_ref s v h1 x.h1_below) ∙ x.second_is

    pub refused_second : (mid : NodeStore) (r : ℕ) → Adds s mid (result_table s op f0 g0 h0) r → IsTooMany mid (result_table mid op f1 g1 h1) → IsTooMany s t
    refused_second mid r added =
        given.steps.second_refused s mid v x.first x.second t (result_table s op f0 g0 h0) (result_table mid op f1 g1 h1) r x.whole x.first_is (second_after mid added.kept) added

    -- both halves were made
    pub both : (mid last : NodeStore) → IsStore last → (r q : ℕ) → Adds s mid (result_table s op f0 g0 h0) r → Adds mid last (result_table mid op f1 g1 h1) q → IsReady s last v t r q
    both mid last sound r q added also =
        given.steps.ready s mid last sound v m x.first x.second t (result_table s op f0 g0 h0) (result_table mid op f1 g1 h1) r q x.level x.first_size x.second_size x.whole x.first_is (second_after mid added.kept) added also
