use Rattle.std.proofs.Common.{◌≡◌, ◌+◌, ◌++◌, length, map, refl, ap, ap₂, sym, subst, ◌∙◌, arith}
use Rattle.std.specs.Prelude.{vec_items}
use Rattle.bb_cdcl.specs.Inside.Outcomes.{formula}
use Rattle.bb_cnf.specs.Clauses.{Formula, HasVariablesWithin, lists_of}
use Rattle.bb_net.specs.Netlists.{Netlist}
use Rattle.bb_expand.specs.Expansions.{expansion, vector_clauses}
use Rattle.bb_expand.proofs.Pushed.{expansion_push, pushed_within}
use Rattle.bb_expand.proofs.samples.with_vector.Goals as goal

pub push_all-requires : goal.push_all-requires
push_all-requires c =
    let spec = c.args.pair.now.spec in
    let imp = c.args.pair.now.imp in
    let kinds = c.args.pair.now.kinds in
    let vectors = map vec_items c.args.samples.vectors.items in
    let vars = c.behind-solver.inside.vars + length c.cells-2.result.now in
    let was : formula c.behind-solver.inside.vars (lists_of c.behind-solver.inside.clauses.items) ≡ expansion spec imp kinds vectors = c.behind-solver.view_is ∙ (c.cnf.ensures ∙ c.requires.expands) in
    let base = ap (λ (f : Formula). f.vars) was in
    let cells = ap length (c.cells-2.ensures.cells ∙ ap (λ (n : Netlist). n.cells) c.imp.ensures.imp) in
    let pushed = c.in_ok-push_vector.ensures.pushed (length vectors) base ∙ ap (λ l. lists_of l ++ vector_clauses spec imp kinds (length vectors) c.args.x.now) c.new-clauses.ensures.items in
    record {
      within = subst (λ n. HasVariablesWithin n (lists_of c.push_vector.new.clauses.items)) (sym (ap (λ (f : Formula). f.vars) c.raise_vars.ensures))
          (subst (HasVariablesWithin vars) (sym pushed) (pushed_within spec imp kinds vectors c.args.x.now c.expansions_and_tables.ensures.within c.imp.ensures.kept.imp c.imp.ensures.kept.beside.kinds vars (omega (arith, base, cells))));
    }

pub returns-clause-cnf : goal.returns-clause-cnf
returns-clause-cnf c =
    let spec = c.args.pair.now.spec in
    let imp = c.args.pair.now.imp in
    let kinds = c.args.pair.now.kinds in
    let vectors = map vec_items c.args.samples.vectors.items in
    let vars = c.behind-solver.inside.vars + length c.cells-2.result.now in
    let was : formula c.behind-solver.inside.vars (lists_of c.behind-solver.inside.clauses.items) ≡ expansion spec imp kinds vectors = c.behind-solver.view_is ∙ (c.cnf.ensures ∙ c.requires.expands) in
    let base = ap (λ (f : Formula). f.vars) was in
    let cells = ap length (c.cells-2.ensures.cells ∙ ap (λ (n : Netlist). n.cells) c.imp.ensures.imp) in
    let pushed = c.in_ok-push_vector.ensures.pushed (length vectors) base ∙ ap (λ l. lists_of l ++ vector_clauses spec imp kinds (length vectors) c.args.x.now) c.new-clauses.ensures.items in
    let prefix = ap (λ (f : Formula). f.clauses) c.raise_vars.ensures ∙ ap (λ (f : Formula). f.clauses) c.requires.expands in
    c.in_ok-push_all.ensures.pushed
    ∙ (ap₂ formula (ap (λ (f : Formula). f.vars) c.raise_vars.ensures) (ap₂ (λ xs ys. xs ++ ys) prefix pushed)
    ∙ expansion_push spec imp kinds vectors c.args.x.now vars ((expansion spec imp kinds vectors).clauses ++ vector_clauses spec imp kinds (length vectors) c.args.x.now) (omega (arith, base, cells)) refl)
