-- What is between leaving a question open and its staying open: the result of the expansion may depend on which vectors
-- its search finds.
use Rattle.std.specs.Prelude.{Contains}
use Rattle.bb_expand.specs.GivenUp.{NeedsMoreClauses}
use Rattle.bb_net.specs.Completions.{HaveSmallTables}
use Rattle.bb_net.specs.Kinds.{representatives}
use Rattle.bb_net.specs.Pairs.{NetPair}
use Rattle.bb_options.specs.declared.options.Options.{Options}
use Rattle.bb_options.specs.declared.rung.Rung.TheVariants.{Expand}
use Rattle.bb_options.specs.Rungs.{requested_rungs}

-- the expansion is requested, its tables may be printed, and for some distinguishing vectors it would need more clauses
-- than its bound: others may decide
pub record MayDependOnSearch (p : NetPair) (o : Options) : Type 0 where
  pub requested : Contains (requested_rungs o) Expand
  pub small : HaveSmallTables (representatives p.kinds p.imp.boxes)
  pub needs : NeedsMoreClauses p.spec p.imp p.kinds o.clauses
