use Rattle.std.proofs.Common.{sym, arith}
use Rattle.std.proofs.lemmas.List.{length-map}
use Rattle.smallvec.specs.SmallVec.{SmallVec}
use Rattle.bb_cnf.specs.declared.clauses.Lit.{Lit}
use Rattle.bb_cdcl.proofs.HandedOut.{short, refutes}
use Rattle.bb_cdcl.proofs.handing_out.refutation.Goals as goal

pub steps_of-requires-clause-short : goal.steps_of-requires-clause-short
steps_of-requires-clause-short c =
    short _ c.args.s _ _ (sym (length-map c.args.given.now (λ (clause : SmallVec Lit). clause.items))) c.requires.derived (omega (arith, c.args.s.learned.ok.0, c.args.s.learned.small))

pub returns : goal.returns
returns c = refutes _ c.args.s _ _ (sym (length-map c.args.given.now (λ (clause : SmallVec Lit). clause.items))) c.requires c.in_ok-steps.ensures
