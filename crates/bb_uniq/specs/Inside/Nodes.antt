-- A store of the nodes of reduced ordered decision diagrams (Bryant; Knuth, The Art of Computer Programming, volume 4A,
-- section 7.1.4). A Ref is a number: 0 is the leaf false, 1 the leaf true, and the nodes follow in the order in which
-- they were made. A node has a variable, the first one being 0, and two children: lo where the variable is 0, hi where
-- it is 1.
use Rattle.std.specs.Prelude.{◌≡◌, ◌≢◌, ◌<◌, ◌≤◌, ◌+◌, ℕ, zero, suc, List, [], ◌∷◌, ◌++◌, length, Option, Some, None, MatchOption, slice_get, ◌==◌}
use Rattle.bb_uniq.specs.declared.store.Node.{Node}
use Rattle.bb_uniq.specs.declared.store.View.{View}
use Rattle.bb_uniq.specs.declared.store.View.TheVariants as seen

-- what a store holds: the number of its variables, how many nodes it may hold, and the nodes
pub record NodeStore : Type 0 where
  pub vars : ℕ
  pub limit : ℕ
  pub nodes : List Node

-- the node of a number; the leaves have none
abbrev pub node_at : List Node → ℕ → Option Node
node_at nodes zero = None
node_at nodes (suc zero) = None
node_at nodes (suc (suc k)) = slice_get nodes k

-- a leaf or a node of the store
abbrev pub IsRef : NodeStore → ℕ → Type 0
IsRef s r = r < length s.nodes + 2

-- a leaf, or a node of a later variable than v
abbrev pub IsBelow : NodeStore → ℕ → ℕ → Type 0
IsBelow s v r = MatchOption (node_at s.nodes r) (r < 2) (λ node. v < node.var)

-- what is seen at a number: the leaf, or the node
abbrev pub view_by : ℕ → Option Node → View
view_by r None = seen.Leaf (r == 1)
view_by r (Some node) = seen.Node node.var (record { 0 = node.lo }) (record { 0 = node.hi })

abbrev pub view_of : NodeStore → ℕ → View
view_of s r = view_by r (node_at s.nodes r)

-- the store of no node
abbrev pub empty_store : ℕ → ℕ → NodeStore
empty_store vars limit = record { vars = vars; limit = limit; nodes = [] }

-- a child has a later variable than its node, the two children of a node differ, and so do any two nodes
pub record IsStore (s : NodeStore) : Type 0 where
  pub vars : (r : ℕ) (node : Node) → node_at s.nodes r ≡ Some node → node.var < s.vars
  pub below : (r : ℕ) (node : Node) → node_at s.nodes r ≡ Some node → IsBelow s node.var node.lo × IsBelow s node.var node.hi
  pub reduced : (r : ℕ) (node : Node) → node_at s.nodes r ≡ Some node → node.lo ≢ node.hi
  pub unique : (r q : ℕ) (node : Node) → node_at s.nodes r ≡ Some node → node_at s.nodes q ≡ Some node → r ≡ q
  pub held : length s.nodes ≤ s.limit

-- the store with one more node
abbrev pub with_node : NodeStore → ℕ → ℕ → ℕ → NodeStore
with_node s v lo hi = record s { nodes = s.nodes ++ record { var = v; lo = lo; hi = hi } ∷ [] }

-- the children differ, so a node is needed, and the store does not have it
abbrev pub IsNew : NodeStore → ℕ → ℕ → ℕ → Type 0
IsNew s v lo hi = (lo ≢ hi) × ((r : ℕ) → node_at s.nodes r ≢ Some (record { var = v; lo = lo; hi = hi }))

-- r is "hi where the variable v is 1, else lo": the child where both are the same; the node where the store has it;
-- else the node is new, comes last, and is the only one that is added
pub data Gives (old new : NodeStore) (v lo hi r : ℕ) : Type 0 where
  Same : lo ≡ hi → new ≡ old → r ≡ lo → Gives old new v lo hi r
  Found : lo ≢ hi → new ≡ old → node_at old.nodes r ≡ Some (record { var = v; lo = lo; hi = hi }) → Gives old new v lo hi r
  Made : IsNew old v lo hi → length old.nodes < old.limit → new ≡ with_node old v lo hi → r ≡ length old.nodes + 2 → Gives old new v lo hi r
