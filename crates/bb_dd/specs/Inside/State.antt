-- The state of the diagrams: a store of nodes, and a cache of results, the last used first.
use Rattle.std.specs.Prelude.{ℕ, List}
use Rattle.bb_uniq.specs.declared.store.Ref.{Ref}
use Rattle.bb_uniq.specs.Inside.Nodes.{NodeStore, IsStore}
use Rattle.bb_dd.specs.declared.key.Key.{Key}
use Rattle.bb_dd.specs.Inside.Results.{AreRight}

pub record DiagramState : Type 0 where
  pub store : NodeStore
  pub entries : List (Key × Ref)
  pub capacity : ℕ

-- the store is one of reduced ordered diagrams, and each cached result is what its key defines
pub record IsSound (d : DiagramState) : Type 0 where
  pub store : IsStore d.store
  pub entries : AreRight d.store d.entries
