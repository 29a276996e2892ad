-- what making a node gives: its table, and the beads held
use Rattle.std.proofs.Common.{◌==◌, ◌≡◌, ◌≢◌, ◌≤◌, ◌<◌, ℕ, zero, suc, ◌+◌, ◌-◌, Bool, true, false, List, [], ◌∷◌, ◌++◌, length, Option, Some, None, refl, sym, ap, ap₂, ◌∙◌, subst, inl, inr, arith, length-append, get_or, cond}
use Rattle.std.specs.Prelude.{All, Contains}
use Rattle.std.proofs.lemmas.List.{get_or_default}
use Rattle.std.proofs.lemmas.List.Elements.{All-push, All-weaker}
use Rattle.std.proofs.lemmas.List.Quantifiers.{all_pairs_push}
use Rattle.bb_bits.specs.Truth.{Truth, Bit, Halves, IsTruthTable, lifted, constant, variable, chosen, combined, IsBeadOf}
use Rattle.bb_uniq.proofs.Given.{Given}
use Rattle.bb_uniq.specs.declared.store.Node.{Node}
use Rattle.bb_uniq.specs.Inside.Nodes.{NodeStore, node_at, IsRef, IsBelow, IsStore, IsNew, Gives, Same, Found, Made, with_node, view_of, view_by}
use Rattle.bb_uniq.specs.declared.store.View.{View}
use Rattle.bb_uniq.specs.Inside.Places.{IsAbsent, IsNodeAt, Before, Last}
use Rattle.std.proofs.lemmas.Option.{slice_get_within}
use Rattle.bb_uniq.specs.Inside.Meaning.{truth_of, IsHeld, IsHeldWith, Keeps, Adds, IsTooMany, branch, ViewMeans, table_of}
use Rattle.bb_uniq.proofs.Tables.{table, table-here, table-none, table-zero, ref_node, table-lifted, within_from_ref, within_from_below, node_ref, canonical, IsTruthTable-table}
use Rattle.bb_uniq.proofs.Growth.{Keeps-grown, Keeps-same, IsStore-with_node, node_at_push, node_at-last, table-grown, below_ref}
use Rattle.bb_uniq.proofs.Held.{HeldAt, held_from_at, at_from_held, within_own, one_depth, size_of_held, bead_of_at}

pick_first : (op : Bool → Bool → Bool → Bool) (x : Bool) → ((y z : Bool) → op x y z ≡ y) → (m : ℕ) (b a : Truth) → IsTruthTable m b → IsTruthTable m a → combined op (constant m x) b a ≡ b
pick_first op x f zero (Bit y) (Bit z) h k = ap Bit (f y z)
pick_first op x f zero (Bit y) (Halves c d) h k = absurd k
pick_first op x f zero (Halves c d) a h k = absurd h
pick_first op x f (suc m) (Bit y) a h k = absurd h
pick_first op x f (suc m) (Halves c d) (Bit z) h k = absurd k
pick_first op x f (suc m) (Halves c d) (Halves p q) h k = ap₂ Halves (pick_first op x f m c p h.0 k.0) (pick_first op x f m d q h.1 k.1)

pick_second : (op : Bool → Bool → Bool → Bool) (x : Bool) → ((y z : Bool) → op x y z ≡ z) → (m : ℕ) (b a : Truth) → IsTruthTable m b → IsTruthTable m a → combined op (constant m x) b a ≡ a
pick_second op x f zero (Bit y) (Bit z) h k = ap Bit (f y z)
pick_second op x f zero (Bit y) (Halves c d) h k = absurd k
pick_second op x f zero (Halves c d) a h k = absurd h
pick_second op x f (suc m) (Bit y) a h k = absurd h
pick_second op x f (suc m) (Halves c d) (Bit z) h k = absurd k
pick_second op x f (suc m) (Halves c d) (Halves p q) h k = ap₂ Halves (pick_second op x f m c p h.0 k.0) (pick_second op x f m d q h.1 k.1)

-- the two halves of a new node, as a table that no node has
new_bead_differs : (s : NodeStore) → IsStore s → (v m lo hi : ℕ) → v + suc m ≡ s.vars → IsBelow s v lo → IsBelow s v hi → IsNew s v lo hi → HeldAt s (Halves (table s m lo) (table s m hi)) → ⊥
new_bead_differs s h v m lo hi level lo_below hi_below new k =
    let depth : k.m ≡ m =
    let d = one_depth (suc k.m) (suc m) (Halves (table s m lo) (table s m hi)) (subst (IsTruthTable (suc k.m)) k.own (IsTruthTable-table s (suc k.m) k.r)) (IsTruthTable-table s m lo, IsTruthTable-table s m hi) in omega (arith, d) in
    let level' : k.node.var + suc m ≡ s.vars = omega (arith, k.level, depth) in
    let own : table s (suc m) k.r ≡ Halves (table s m lo) (table s m hi) = ap (λ n. table s (suc n) k.r) (sym depth) ∙ k.own in
    let halves : Halves (table s m k.node.lo) (table s m k.node.hi) ≡ Halves (table s m lo) (table s m hi) = sym (table-here s m k.r k.node k.at level') ∙ own in
    let lo_tables : table s m k.node.lo ≡ table s m lo = cc in
    let hi_tables : table s m k.node.hi ≡ table s m hi = cc in
    let below = h.below k.r k.node k.at in
    let lo_same = canonical s h m k.node.lo lo (within_from_below s m k.node.var k.node.lo level' below.0) (within_from_below s m v lo level lo_below) lo_tables in
    let hi_same = canonical s h m k.node.hi hi (within_from_below s m k.node.var k.node.hi level' below.1) (within_from_below s m v hi level hi_below) hi_tables in
    let var_same : k.node.var ≡ v = omega (arith, level, level') in
    new.1 k.r (k.at ∙ ap Some (same_node k.node v lo hi var_same lo_same hi_same))
  where
    same_node : (a : Node) (v lo hi : ℕ) → a.var ≡ v → a.lo ≡ lo → a.hi ≡ hi → a ≡ record { var = v; lo = lo; hi = hi }
    same_node a v lo hi p q r = rw (← p, ← q, ← r) refl

-- a branch keeps its table where more nodes are
pub branch-kept : (old new : NodeStore) → Keeps old new → (v lo hi : ℕ) → IsRef old lo → IsRef old hi → branch new v lo hi ≡ branch old v lo hi
branch-kept old new kept v lo hi lo_ref hi_ref =
    ap (λ n. chosen (variable n v) (truth_of new hi) (truth_of new lo)) kept.vars
    ∙ ap₂ (λ x y. chosen (variable old.vars v) x y) (kept.tables hi hi_ref) (kept.tables lo lo_ref)

-- the nodes after a look-up, as a store
abbrev with_nodes : NodeStore → List Node → NodeStore
with_nodes s nodes = record s { nodes = nodes }

pub occurs_within : (s : NodeStore) → IsStore s → (new : List Node) (node : Node) (k : ℕ) → IsNodeAt s.nodes new s.limit node k → k < s.limit
occurs_within s h new node k (Before same at) = let l = slice_get_within s.nodes k node at in omega (arith, l, h.held)
occurs_within s h new node k (Last absent room pushed place) = omega (arith, place, room)

absent_node : (nodes : List Node) (node : Node) → IsAbsent nodes node → (r : ℕ) → node_at nodes r ≡ Some node → ⊥
absent_node nodes node absent zero e = absurd (let f : None ≡ Some node = e in cc)
absent_node nodes node absent (suc zero) e = absurd (let f : None ≡ Some node = e in cc)
absent_node nodes node absent (suc (suc k)) e = absent k e

pub is_new : (s : NodeStore) (v lo hi : ℕ) → lo ≢ hi → IsAbsent s.nodes (record { var = v; lo = lo; hi = hi }) → IsNew s v lo hi
is_new s v lo hi differ absent = (differ, absent_node s.nodes (record { var = v; lo = lo; hi = hi }) absent)

gives_at : (s : NodeStore) (new : List Node) (v lo hi k : ℕ) → lo ≢ hi → IsNodeAt s.nodes new s.limit (record { var = v; lo = lo; hi = hi }) k → Gives s (with_nodes s new) v lo hi (k + 2)
gives_at s new v lo hi k differ (Before same at) =
    let e : k + 2 ≡ suc (suc k) = omega arith in
    Found differ (ap (with_nodes s) same) (ap (node_at s.nodes) e ∙ at)
gives_at s new v lo hi k differ (Last absent room pushed place) = Made (is_new s v lo hi differ absent) room (ap (with_nodes s) pushed) (ap (λ i. i + 2) place)

-- what follows the look-up of a node in a store that is seen as `now`
pub gives : (s now : NodeStore) → s ≡ now → (new : List Node) (v lo hi k : ℕ) → lo ≢ hi → IsNodeAt s.nodes new s.limit (record { var = v; lo = lo; hi = hi }) k →
    Gives now (record { vars = s.vars; limit = s.limit; nodes = new }) v lo hi (k + 2)
gives s now e new v lo hi k differ occurs = subst (λ x. Gives x (with_nodes s new) v lo hi (k + 2)) e (gives_at s new v lo hi k differ occurs)

-- a store of no node
pub IsStore-empty : (vars limit : ℕ) → IsStore (record { vars = vars; limit = limit; nodes = [] })
IsStore-empty vars limit = record {
  vars = λ r node e. absurd (none r node e);
  below = λ r node e. absurd (none r node e);
  reduced = λ r node e. absurd (none r node e);
  unique = λ r q node e f. absurd (none r node e);
  held = omega arith;
}
  where
    none : (r : ℕ) (node : Node) → node_at [] r ≡ Some node → ⊥
    none zero node e = let f : None ≡ Some node = e in cc
    none (suc zero) node e = let f : None ≡ Some node = e in cc
    none (suc (suc k)) node e = let f : None ≡ Some node = e in cc

-- Refs with one table are one Ref
pub one_ref : (s : NodeStore) → IsStore s → (r q : ℕ) → IsRef s r → IsRef s q → truth_of s r ≡ truth_of s q → r ≡ q
one_ref s h r q r_ref q_ref e = canonical s h s.vars r q (within_from_ref s r r_ref) (within_from_ref s q q_ref) e

-- the table of a leaf
pub leaf_table : (s : NodeStore) (n r : ℕ) → r < 2 → table_of s.nodes s.vars n r ≡ constant n (r == 1)
leaf_table s zero r l = table-zero s r
leaf_table s (suc n) r l = table-none s n r (leaf r l) ∙ ap₂ Halves (leaf_table s n r l) (leaf_table s n r l)
  where
    leaf : (r : ℕ) → r < 2 → node_at s.nodes r ≡ None
    leaf zero l = refl
    leaf (suc zero) l = refl
    leaf (suc (suc k)) l = absurd (omega (arith, l))

module _ (given : Given) where
  -- the choice by a variable has the two tables as its halves at that variable
  pub chosen-variable : (v m : ℕ) (a b : Truth) → IsTruthTable m a → IsTruthTable m b → chosen (variable (v + suc m) v) (lifted (suc v) b) (lifted (suc v) a) ≡ lifted v (Halves a b)
  chosen-variable v m a b h k =
      let one = pick_first (λ x y z. cond x y z) true (λ y z. refl) m b a k h in
      let zero' = pick_second (λ x y z. cond x y z) false (λ y z. refl) m b a k h in
      let parts : chosen (variable (v + suc m) v) (lifted (suc v) b) (lifted (suc v) a) ≡ chosen (lifted v (Halves (constant m false) (constant m true))) (lifted v (Halves b b)) (lifted v (Halves a a)) =
      rw (given.tables.variable_lifted v m, given.tables.lifted_once_more v b, given.tables.lifted_once_more v a) refl in
      parts ∙ (given.tables.combined_lifted v (λ x y z. cond x y z) (Halves (constant m false) (constant m true)) (Halves b b) (Halves a a) ∙ ap (lifted v) (ap₂ Halves zero' one))

  -- what a call leaves, from the beads that it adds
  pub adds : (old new : NodeStore) (t : Truth) (r : ℕ) → IsStore new → Keeps old new → IsRef new r → truth_of new r ≡ t → ((b : Truth) → IsHeld new b → IsHeldWith old t b) → Adds old new t r
  adds old new t r h kept ref table only =
      let back : (b : Truth) → IsHeldWith old t b → IsHeld new b = λ b held.
      elim held [
        | inl before ↦ (before.0, kept.refs before.0 before.1, subst (IsBeadOf b) (sym (kept.tables before.0 before.1)) before.2)
        | inr bead ↦ (r, ref, subst (IsBeadOf b) (sym table) bead)
      ] in
      record {
        kept = kept;
        ref = ref;
        table = table;
        beads = λ b. (only b, back b);
        fits = λ ts d all.
            let size = size_of_held given new h in
            let l = given.sizes.fewer_entries ts size.0 d (All-weaker (IsHeldWith old t) (Contains size.0) (λ b held. (size.2 b).1 (back b held)) ts all) in
            omega (arith, l, size.3, h.held, kept.limit);
      }

  -- the table of a branch, from the children's own
  pub table-branch : (s : NodeStore) (v m lo hi : ℕ) → v + suc m ≡ s.vars → IsBelow s v lo → IsBelow s v hi → branch s v lo hi ≡ lifted v (Halves (table s m lo) (table s m hi))
  table-branch s v m lo hi level lo_below hi_below =
      let a = table-lifted s (suc v) m lo (within_from_below s m v lo level lo_below) in
      let b = table-lifted s (suc v) m hi (within_from_below s m v hi level hi_below) in
      let e : suc v + m ≡ s.vars = omega (arith, level) in
      let lo_table : truth_of s lo ≡ lifted (suc v) (table s m lo) = ap (λ n. table s n lo) (sym e) ∙ a in
      let hi_table : truth_of s hi ≡ lifted (suc v) (table s m hi) = ap (λ n. table s n hi) (sym e) ∙ b in
      ap (λ n. chosen (variable n v) (truth_of s hi) (truth_of s lo)) (sym level)
      ∙ (ap₂ (λ x y. chosen (variable (v + suc m) v) x y) hi_table lo_table
      ∙ chosen-variable v m (table s m lo) (table s m hi) (IsTruthTable-table s m lo) (IsTruthTable-table s m hi))

  -- the beads are too many where the node is new and there is no room
  pub too_many : (s : NodeStore) → IsStore s → (v lo hi : ℕ) → v < s.vars → IsBelow s v lo → IsBelow s v hi → IsNew s v lo hi → s.limit ≤ length s.nodes → IsTooMany s (branch s v lo hi)
  too_many s h v lo hi within lo_below hi_below new full =
      let m : ℕ = s.vars - v - 1 in
      let level : v + suc m ≡ s.vars = omega (arith, within) in
      let bead : Truth = Halves (table s m lo) (table s m hi) in
      let e = table-branch s v m lo hi level lo_below hi_below in
      let differs : table s m lo ≢ table s m hi = λ same. new.0 (canonical s h m lo hi (within_from_below s m v lo level lo_below) (within_from_below s m v hi level hi_below) same) in
      let of_branch : IsBeadOf bead (branch s v lo hi) = subst (IsBeadOf bead) (sym e) ((given.beads.lifted v bead bead).1 (given.beads.self bead differs)) in
      let size = size_of_held given s h in
      let held : All (IsHeld s) size.0 = λ k d l. (size.2 (get_or size.0 k d)).0 (k, l, get_or_default size.0 k (get_or size.0 k d) d l) in (
        size.0 ++ bead ∷ [],
        all_pairs_push (λ x y. x ≢ y) size.0 bead size.1 (λ k d l same. new_bead_differs s h v m lo hi level lo_below hi_below new (at_from_held given s h bead (subst (IsHeld s) same (held k d l)))),
        All-push (IsHeldWith s (branch s v lo hi)) size.0 bead (All-weaker (IsHeld s) (IsHeldWith s (branch s v lo hi)) (λ b x. inl x) size.0 held) (inr of_branch),
        omega (arith, length-append size.0 (bead ∷ []), size.3, full),
      )

  -- the table of a node, from those of its children
  pub truth-node : (s : NodeStore) → IsStore s → (r : ℕ) (node : Node) → node_at s.nodes r ≡ Some node → truth_of s r ≡ branch s node.var node.lo node.hi
  truth-node s h r node at =
      let inside = h.vars r node at in
      let m : ℕ = s.vars - node.var - 1 in
      let level : node.var + suc m ≡ s.vars = omega (arith, inside) in
      let below = h.below r node at in
      ap (λ n. table s n r) (sym level)
      ∙ (table-lifted s node.var (suc m) r (within_own s r m node at level)
      ∙ (ap (lifted node.var) (table-here s m r node at level) ∙ sym (table-branch s node.var m node.lo node.hi level below.0 below.1)))

  -- a branch with one child twice is the child
  pub truth-same : (s : NodeStore) (v c : ℕ) → v < s.vars → IsBelow s v c → truth_of s c ≡ branch s v c c
  truth-same s v c within below =
      let m : ℕ = s.vars - v - 1 in
      let level : v + suc m ≡ s.vars = omega (arith, within) in
      let e : suc v + m ≡ s.vars = omega (arith, level) in
      ap (λ n. table s n c) (sym e)
      ∙ (table-lifted s (suc v) m c (within_from_below s m v c level below)
      ∙ (given.tables.lifted_once_more v (table s m c) ∙ sym (table-branch s v m c c level below below)))

  -- what a node that is made gives
  pub adds_made : (s : NodeStore) → IsStore s → (v lo hi : ℕ) → v < s.vars → IsBelow s v lo → IsBelow s v hi → IsNew s v lo hi → length s.nodes < s.limit → Adds s (with_node s v lo hi) (branch s v lo hi) (length s.nodes + 2)
  adds_made s h v lo hi within lo_below hi_below new room =
      let x : Node = record { var = v; lo = lo; hi = hi } in
      let next : NodeStore = with_node s v lo hi in
      let h' : IsStore next = IsStore-with_node s h v lo hi within lo_below hi_below new room in
      let kept : Keeps s next = Keeps-grown s h (x ∷ []) in
      let at : node_at next.nodes (length s.nodes + 2) ≡ Some x = node_at-last s.nodes x in
      let tab : truth_of next (length s.nodes + 2) ≡ branch s v lo hi =
      truth-node next h' (length s.nodes + 2) x at ∙ branch-kept s next kept v lo hi (below_ref s v lo lo_below) (below_ref s v hi hi_below) in
      adds s next (branch s v lo hi) (length s.nodes + 2) h' kept (omega (arith, length-append s.nodes (x ∷ []))) tab (λ b held.
      let k = at_from_held given next h' b held in
      elim (node_at_push s.nodes x k.r k.node k.at) [
        | inl old ↦
            inl (held_from_at given s h b (record {
              r = k.r;
              m = k.m;
              node = k.node;
              at = old;
              level = k.level;
              own = sym (table-grown s h (x ∷ []) (suc k.m) k.r (within_own s k.r k.m k.node old k.level)) ∙ k.own;
            }))
        | inr last ↦
            inr (subst (IsBeadOf b) tab (own_at_last next h' b k (length s.nodes + 2) last.0))
      ])
    where
      own_at_last : (s : NodeStore) → IsStore s → (b : Truth) (k : HeldAt s b) (r : ℕ) → k.r ≡ r → IsBeadOf b (truth_of s r)
      own_at_last s h b k r e = subst (λ q. IsBeadOf b (truth_of s q)) e (bead_of_at given s h b k)

  -- what making a node gives in each case
  pub adds_by_case : (old new : NodeStore) → IsStore old → (v lo hi r : ℕ) → v < old.vars → IsBelow old v lo → IsBelow old v hi → Gives old new v lo hi r → IsStore new × Adds old new (branch old v lo hi) r
  adds_by_case old new h v lo hi r within lo_below hi_below (Same same unchanged place) =
      let tab : truth_of old r ≡ branch old v lo hi = ap (truth_of old) place ∙ (truth-same old v lo within lo_below ∙ ap (branch old v lo) same) in
      let ref : IsRef old r = subst (IsRef old) (sym place) (below_ref old v lo lo_below) in
      subst (λ n. IsStore n × Adds old n (branch old v lo hi) r) (sym unchanged) (h, adds old old (branch old v lo hi) r h (Keeps-same old) ref tab (λ b held. inl held))
  adds_by_case old new h v lo hi r within lo_below hi_below (Found differ unchanged place) =
      subst (λ n. IsStore n × Adds old n (branch old v lo hi) r) (sym unchanged)
      (h, adds old old (branch old v lo hi) r h (Keeps-same old) (node_ref old.nodes r (record { var = v; lo = lo; hi = hi }) place) (truth-node old h r (record { var = v; lo = lo; hi = hi }) place) (λ b held. inl held))
  adds_by_case old new h v lo hi r within lo_below hi_below (Made fresh room added place) =
      subst (λ n. IsStore n × Adds old n (branch old v lo hi) r) (sym added)
      (subst (λ q. IsStore (with_node old v lo hi) × Adds old (with_node old v lo hi) (branch old v lo hi) q) (sym place)
      (IsStore-with_node old h v lo hi within lo_below hi_below fresh room, adds_made old h v lo hi within lo_below hi_below fresh room))

  pub makes : (s now : NodeStore) → s ≡ now → IsStore s → (new : List Node) (v lo hi k : ℕ) → v < now.vars → IsBelow now v lo → IsBelow now v hi → lo ≢ hi →
      IsNodeAt s.nodes new s.limit (record { var = v; lo = lo; hi = hi }) k →
      IsStore (record { vars = s.vars; limit = s.limit; nodes = new }) × Adds now (record { vars = s.vars; limit = s.limit; nodes = new }) (branch now v lo hi) (k + 2)
  makes s now e h new v lo hi k within lo_below hi_below differ occurs =
      adds_by_case now (with_nodes s new) (subst IsStore e h) v lo hi (k + 2) within lo_below hi_below (gives s now e new v lo hi k differ occurs)

  -- the same where both children are one
  pub makes_same : (s now : NodeStore) → s ≡ now → IsStore s → (v lo hi : ℕ) → v < now.vars → IsBelow now v lo → IsBelow now v hi → lo ≡ hi → IsStore now × Adds now now (branch now v lo hi) lo
  makes_same s now e h v lo hi within lo_below hi_below same = adds_by_case now now (subst IsStore e h) v lo hi lo within lo_below hi_below (Same same refl refl)

  -- and where the node is new and there is no room
  pub makes_too_many : (s now : NodeStore) → s ≡ now → IsStore s → (v lo hi : ℕ) → v < now.vars → IsBelow now v lo → IsBelow now v hi → lo ≢ hi → s.limit ≤ length s.nodes →
      IsAbsent s.nodes (record { var = v; lo = lo; hi = hi }) → IsTooMany now (branch now v lo hi)
  makes_too_many s now e h v lo hi within lo_below hi_below differ full absent =
      too_many now (subst IsStore e h) v lo hi within lo_below hi_below (subst (λ x. IsNew x v lo hi) e (is_new s v lo hi differ absent)) (subst (λ x. x.limit ≤ length x.nodes) e full)

  pub view_means : (s : NodeStore) → IsStore s → (r : ℕ) → IsRef s r → ViewMeans s r (view_of s r)
  view_means s h r ref = means_by (node_at s.nodes r) refl
    where
      means_by : (o : Option Node) → node_at s.nodes r ≡ o → ViewMeans s r (view_by r o)
      means_by None e = leaf_table s s.vars r (ref_node s.nodes r ref e)
      means_by (Some node) e = (h.vars r node e, (h.below r node e).0, (h.below r node e).1, truth-node s h r node e)

  pub view_means_at : (s now : NodeStore) → s ≡ now → IsStore s → (r : ℕ) → IsRef now r → (v : View) → v ≡ view_of now r → ViewMeans now r v
  view_means_at s now e h r ref v seen = subst (ViewMeans now r) (sym seen) (view_means now (subst IsStore e h) r ref)
