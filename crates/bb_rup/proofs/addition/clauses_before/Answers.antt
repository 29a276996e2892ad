use Rattle.std.proofs.Common.{◌++◌, ap, sym, ◌∙◌}
use Rattle.std.proofs.lemmas.List.{take-map}
use Rattle.bb_cnf.specs.Clauses.{lists_of}
use Rattle.bb_rup.proofs.addition.clauses_before.Goals as goal

pub returns : goal.returns
returns c = c.new.ensures ∙ ap (λ k. lists_of c.args.given.now ++ k) (sym (take-map (λ clause. clause.items) c.args.number c.args.adds.now))
