use Rattle.std.proofs.Common.{true, ap, arith}
use Rattle.std.proofs.lemmas.List.{length-map}
use Rattle.bb_cnf.specs.Clauses.{lists_of}
use Rattle.bb_rup.specs.Inside.Ahead.{words_at}
use Rattle.bb_rup.proofs.SizeLaws.{read_within, read_few}
use Rattle.bb_rup.proofs.reading.additions.Goals as goal

pub returns-clause-within : goal.returns-clause-within
returns-clause-within c =
    read_within true c.args.vars (words_at c.start.result) (lists_of c.new-adds.result.items) (lists_of c.read_clauses.new.into.items)
    (ap lists_of c.new-adds.ensures.items) c.in_ok-read_clauses.ensures.ok

pub returns-clause-few : goal.returns-clause-few
returns-clause-few c =
    omega (
      arith,
      length-map c.read_clauses.new.into.items (λ clause. clause.items),
      read_few c.args.text.now c.args.vars (words_at c.start.result) (lists_of c.new-adds.result.items) (lists_of c.read_clauses.new.into.items)
          c.start.ensures.words (ap lists_of c.new-adds.ensures.items) c.in_ok-read_clauses.ensures.ok,
    )
