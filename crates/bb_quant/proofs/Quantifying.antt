-- a variable quantified in a diagram, by its cofactors
use Rattle.std.proofs.Common.{◌≡◌, ◌<◌, ℕ, suc, ◌+◌, ◌-◌, ◌*◌, Bool, true, false, ◌==◌, eqb, refl, sym, ap, ap₂, ◌∙◌, subst, inl, inr, arith}
use Rattle.std.proofs.lemmas.Bool.{cases_lt, eq-eqb, cond-true}
use Rattle.bb_bits.specs.Truth.{Truth, Bit, Halves, IsTruthTable, lifted, joined_tables, quantified}
use Rattle.bb_uniq.specs.declared.store.Ref.{Ref}
use Rattle.bb_uniq.specs.declared.store.View.TheVariants as seen
use Rattle.bb_uniq.specs.Inside.Nodes.{NodeStore, IsRef, IsStore, view_of}
use Rattle.bb_uniq.specs.Inside.Meaning.{Keeps, Adds, IsTooMany, truth_of, branch}
use Rattle.bb_uniq.specs.Inside.Cofactors.{variable_seen, top_of, lo_seen, hi_seen, AreCofactors, IsReady}
use Rattle.bb_dd.specs.Inside.Results.{quantifier}
use Rattle.bb_quant.proofs.Given.{Given}

-- a bit joined with itself is that bit
pub idempotent : (all b : Bool) → quantifier all b b ≡ b
idempotent true true = refl
idempotent true false = refl
idempotent false true = refl
idempotent false false = refl

pub top_kept : (old new : NodeStore) → Keeps old new → (r : ℕ) → IsRef old r → top_of new r ≡ top_of old r
top_kept old new kept r ref = ap₂ variable_seen kept.vars (kept.views r ref)

-- an earlier variable u: the table by its halves, of which those of the children are the tables over all variables
pub record Halved (s : NodeStore) (all : Bool) (v u f lo hi : ℕ) : Type 0 where
  pub level : u + suc (s.vars - u - 1) ≡ s.vars
  pub first : Truth
  pub second : Truth
  pub first_size : IsTruthTable (s.vars - u - 1) first
  pub second_size : IsTruthTable (s.vars - u - 1) second
  pub whole : quantified (quantifier all) v (truth_of s f) ≡ lifted u (Halves first second)
  pub first_is : quantified (quantifier all) v (truth_of s lo) ≡ lifted (suc u) first
  pub second_is : quantified (quantifier all) v (truth_of s hi) ≡ lifted (suc u) second

module _ (given : Given) where
  -- a table that depends on later variables alone stays as it is
  pub later_stays : (s : NodeStore) → IsStore s → (all : Bool) (f v : ℕ) → IsRef s f → v < s.vars → v < top_of s f → quantified (quantifier all) v (truth_of s f) ≡ truth_of s f
  later_stays s sound all f v ref inside later = elim (cases_lt f 2) [
    | inl leaf ↦
        let e = given.stores.leaf_table s f leaf in
        ap (quantified (quantifier all) v) e ∙ (given.quantifiers.earlier (quantifier all) (idempotent all) s.vars v (Bit (f == 1)) inside ∙ sym e)
    | inr node ↦
        let top = given.stores.inner_top s sound f ref node in
        let x = given.steps.cofactors s sound (top_of s f) (s.vars - top_of s f - 1) f (omega (arith, top)) ref (omega arith) in
        ap (quantified (quantifier all) v) x.whole ∙ (given.quantifiers.earlier (quantifier all) (idempotent all) (top_of s f) v (Halves x.first x.second) later ∙ sym x.whole)
  ]

  pub adds_later : (s : NodeStore) → IsStore s → (all : Bool) (f v : ℕ) → IsRef s f → v < s.vars → v < top_of s f → Adds s s (quantified (quantifier all) v (truth_of s f)) f
  adds_later s sound all f v ref inside later = given.growth.adds_nothing s sound (quantified (quantifier all) v (truth_of s f)) f ref (sym (later_stays s sound all f v ref inside later))

  -- the cofactors of a node are its children
  pub children : (s : NodeStore) → IsStore s → (f v : ℕ) (lo hi : Ref) → IsRef s f → v < s.vars → view_of s f ≡ seen.Node v lo hi → AreCofactors s v (s.vars - v - 1) f lo.0 hi.0
  children s sound f v lo hi ref inside e =
      let top : top_of s f ≡ v = ap (variable_seen s.vars) e in
      let x = given.steps.cofactors s sound v (s.vars - v - 1) f (omega (arith, inside)) ref (omega (arith, top)) in
      let own = eq-eqb v v refl in
      let first : lo_seen v f (view_of s f) ≡ lo.0 = ap (lo_seen v f) e ∙ cond-true (eqb v v) lo.0 f own in
      let second : hi_seen v f (view_of s f) ≡ hi.0 = ap (hi_seen v f) e ∙ cond-true (eqb v v) hi.0 f own in
      subst (λ r. AreCofactors s v (s.vars - v - 1) f r hi.0) first (subst (λ r. AreCofactors s v (s.vars - v - 1) f (lo_seen v f (view_of s f)) r) second x)

  -- the variable of a node: its children are joined
  pub joined_here : (s : NodeStore) (all : Bool) (v m f lo hi : ℕ) → AreCofactors s v m f lo hi → joined_tables (quantifier all) (truth_of s lo) (truth_of s hi) ≡ quantified (quantifier all) v (truth_of s f)
  joined_here s all v m f lo hi x =
      let op = quantifier all in
      ap₂ (joined_tables op) x.lo_table x.hi_table
      ∙ (given.tables.combined_lifted (suc v) (λ a b c. op a b) x.first x.second x.first
      ∙ (sym (given.quantifiers.here op v x.first x.second) ∙ sym (ap (quantified op v) x.whole)))

  pub halved : (s : NodeStore) (all : Bool) (v u f lo hi : ℕ) → u < v → u < s.vars → AreCofactors s u (s.vars - u - 1) f lo hi → Halved s all v u f lo hi
  halved s all v u f lo hi earlier inside x =
      let op = quantifier all in
      let i : ℕ = v - u - 1 in
      let m : ℕ = s.vars - u - 1 in
      let at : v ≡ u + suc i = omega (arith, earlier) in
      let after : v ≡ suc u + i = omega (arith, earlier) in
      record {
        level = omega (arith, inside);
        first = quantified op i x.first;
        second = quantified op i x.second;
        first_size = given.tables.quantified_size m i op x.first x.first_size;
        second_size = given.tables.quantified_size m i op x.second x.second_size;
        whole = ap (quantified op v) x.whole ∙ (ap (λ k. quantified op k (lifted u (Halves x.first x.second))) at ∙ given.quantifiers.later op u (suc i) (Halves x.first x.second));
        first_is = ap (quantified op v) x.lo_table ∙ (ap (λ k. quantified op k (lifted (suc u) x.first)) after ∙ given.quantifiers.later op (suc u) i x.first);
        second_is = ap (quantified op v) x.hi_table ∙ (ap (λ k. quantified op k (lifted (suc u) x.second)) after ∙ given.quantifiers.later op (suc u) i x.second);
      }

-- a node of a variable u before v, and its children
pub record Node : Type 0 where
  pub s : NodeStore
  pub sound : IsStore s
  pub all : Bool
  pub v : ℕ
  pub u : ℕ
  pub f : ℕ
  pub lo : Ref
  pub hi : Ref
  pub ref : IsRef s f
  pub inside : v < s.vars
  pub earlier : u < v
  pub node : view_of s f ≡ seen.Node u lo hi

-- the table that quantifying gives
abbrev pub quantified_in : Node → NodeStore → ℕ → Truth
quantified_in n s r = quantified (quantifier n.all) n.v (truth_of s r)

module _ (given : Given) (n : Node) where
  own : AreCofactors n.s n.u (n.s.vars - n.u - 1) n.f n.lo.0 n.hi.0
  own = children given n.s n.sound n.f n.u n.lo n.hi n.ref (omega (arith, n.inside, n.earlier)) n.node

  halves : Halved n.s n.all n.v n.u n.f n.lo.0 n.hi.0
  halves = halved given n.s n.all n.v n.u n.f n.lo.0 n.hi.0 n.earlier (omega (arith, n.inside, n.earlier)) own

  pub first_ref : IsRef n.s n.lo.0
  first_ref = given.stores.below_is_ref n.s n.u n.lo.0 own.lo_below

  pub second_ref : (mid : NodeStore) → Keeps n.s mid → IsRef mid n.hi.0
  second_ref mid kept = kept.refs n.hi.0 (given.stores.below_is_ref n.s n.u n.hi.0 own.hi_below)

  pub first_falls : 2 * (n.s.vars - top_of n.s n.lo.0) + 1 < 2 * (n.s.vars - n.u)
  first_falls = let later = given.stores.top_below n.s n.u n.lo.0 (omega (arith, n.inside, n.earlier)) own.lo_below in omega (arith, later, n.inside, n.earlier)

  pub second_falls : (mid : NodeStore) → Keeps n.s mid → 2 * (mid.vars - top_of mid n.hi.0) + 1 < 2 * (n.s.vars - n.u)
  second_falls mid kept =
      let later = given.stores.top_below n.s n.u n.hi.0 (omega (arith, n.inside, n.earlier)) own.hi_below in
      let same = top_kept n.s mid kept n.hi.0 (given.stores.below_is_ref n.s n.u n.hi.0 own.hi_below) in
      omega (arith, later, same, kept.vars, n.inside, n.earlier)

  pub first_refused : IsTooMany n.s (quantified_in n n.s n.lo.0) → IsTooMany n.s (quantified_in n n.s n.f)
  first_refused = given.steps.first_refused n.s n.u halves.first halves.second (quantified_in n n.s n.f) (quantified_in n n.s n.lo.0) halves.whole halves.first_is

  second_is : (mid : NodeStore) → Keeps n.s mid → quantified_in n mid n.hi.0 ≡ lifted (suc n.u) halves.second
  second_is mid kept = ap (quantified (quantifier n.all) n.v) (kept.tables n.hi.0 (given.stores.below_is_ref n.s n.u n.hi.0 own.hi_below)) ∙ halves.second_is

  pub second_refused : (mid : NodeStore) (r : ℕ) → Adds n.s mid (quantified_in n n.s n.lo.0) r → IsTooMany mid (quantified_in n mid n.hi.0) → IsTooMany n.s (quantified_in n n.s n.f)
  second_refused mid r added =
      given.steps.second_refused n.s mid n.u halves.first halves.second (quantified_in n n.s n.f) (quantified_in n n.s n.lo.0) (quantified_in n mid n.hi.0) r halves.whole halves.first_is (second_is mid added.kept) added

  pub ready : (mid last : NodeStore) → IsStore last → (r q : ℕ) → Adds n.s mid (quantified_in n n.s n.lo.0) r → Adds mid last (quantified_in n mid n.hi.0) q → IsReady n.s last n.u (quantified_in n n.s n.f) r q
  ready mid last sound r q added also =
      given.steps.ready n.s mid last sound n.u (n.s.vars - n.u - 1) halves.first halves.second (quantified_in n n.s n.f) (quantified_in n n.s n.lo.0) (quantified_in n mid n.hi.0) r q
      halves.level halves.first_size halves.second_size halves.whole halves.first_is (second_is mid added.kept) added also

  pub node_refused : (mid last : NodeStore) → IsStore last → (r q : ℕ) → Adds n.s mid (quantified_in n n.s n.lo.0) r → Adds mid last (quantified_in n mid n.hi.0) q →
      IsTooMany last (branch last n.u r q) → IsTooMany n.s (quantified_in n n.s n.f)
  node_refused mid last sound r q added also = given.steps.node_refused n.s last n.u (quantified_in n n.s n.f) r q (ready mid last sound r q added also)

  pub made : (mid last new : NodeStore) → IsStore last → IsStore new → (r q node : ℕ) → Adds n.s mid (quantified_in n n.s n.lo.0) r → Adds mid last (quantified_in n mid n.hi.0) q →
      Adds last new (branch last n.u r q) node → Adds n.s new (quantified_in n n.s n.f) node
  made mid last new sound new_sound r q node added also = given.steps.made n.s last new new_sound n.u (quantified_in n n.s n.f) r q node (ready mid last sound r q added also)
