use Rattle.std.proofs.Common.{◌≡◌, ap, sym, ◌∙◌, subst, map, take}
use Rattle.std.specs.Prelude.{Some, None, MatchResult}
use Rattle.bb_names.specs.Faults.{statement_faults}
use Rattle.bb_ast.specs.Inside.Views.{module_view}
use Rattle.bb_names.specs.Inside.Firsts.{noted, first_fault}
use Rattle.bb_names.specs.Sites.{header_sites}
use Rattle.bb_names.proofs.Answering.{statement-first, answers_of, ok_of}
use Rattle.bb_names.proofs.faults.statements.check_header.Goals as goal

pub returns-clause-answers : goal.returns-clause-answers
returns-clause-answers c =
    let text = map module_view c.args.source.now in
    let m = module_view c.args.of.now in
    let sites = header_sites (take c.args.place text) m in
    let found = c.look_at_header.new.found in
    let all = c.in_ok-look_at_header.ensures.noted ∙ ap (λ z. noted text m z sites) c.none-found.ensures in
    answers_of c.answer.result (statement_faults text m m.line sites) (first_fault m.line found) (statement-first text m m.line sites ∙ ap (first_fault m.line) (sym all))
    (subst (λ l. MatchResult c.answer.result (λ _. first_fault l found ≡ None) (λ fault. first_fault l found ≡ Some fault)) (ap (λ z. z.line) c.module.ensures) c.answer.ensures)

pub returns-clause-declared : goal.returns-clause-declared
returns-clause-declared c = ok_of c.answer.result c.in_ok-look_at_header.ensures.declared
