use Rattle.std.proofs.Common.{sym, arith}
use Rattle.std.proofs.lemmas.List.{length-map}
use Rattle.smallvec.specs.SmallVec.{SmallVec}
use Rattle.bb_cnf.specs.declared.clauses.Lit.{Lit}
use Rattle.bb_cdcl.proofs.HandedOut.{short, enough, derive}
use Rattle.bb_cdcl.proofs.handing_out.spent.Goals as goal

pub steps_of-requires-clause-short : goal.steps_of-requires-clause-short
steps_of-requires-clause-short c =
    short _ c.args.s _ _ (sym (length-map c.args.given.now (λ (clause : SmallVec Lit). clause.items))) c.requires (omega (arith, c.args.s.learned.ok.0, c.args.s.learned.small))

pub returns-clause-enough : goal.returns-clause-enough
returns-clause-enough c = enough _ c.args.s _ _ c.requires c.in_ok-steps.ensures

pub returns-clause-derive : goal.returns-clause-derive
returns-clause-derive c = derive _ c.args.s _ _ (sym (length-map c.args.given.now (λ (clause : SmallVec Lit). clause.items))) c.requires c.in_ok-steps.ensures
