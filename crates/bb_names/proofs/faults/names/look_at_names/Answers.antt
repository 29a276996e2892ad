use Rattle.std.proofs.Common.{◌++◌, ◌∷◌, [], sym, subst, map, take, append-nil, ℕ, List}
use Rattle.bb_ast.specs.Inside.Views.{module_view}
use Rattle.bb_names.specs.Sites.{Declared as DeclaredSite}
use Rattle.bb_names.specs.Inside.Summaries.{named, Describes}
use Rattle.bb_names.proofs.DeclaredLists.{turn-names, end-names}
use Rattle.bb_names.proofs.Noting.{each-turn, each-all, noted-none}
use Rattle.bb_names.proofs.faults.names.look_at_names.Goals as goal

pub loop-name-init : goal.loop-name-init
loop-name-init c = record {
  noted = λ text before h. sym (noted-none text (module_view c.args.of.now) c.args.found.now);
  declared = λ before h. subst (Describes c.args.earlier.now.entries) (sym (append-nil before)) h;
}

pub loop-name-preserved : goal.loop-name-preserved
loop-name-preserved c =
    let m = module_view c.args.of.now in
    let i = c.loop-name.name-index in
    let names = c.args.names.now in
    let made = λ (n : List ℕ). named n c.args.d in
    record {
      noted = λ text before h. each-turn text m (λ b d. DeclaredSite (before ++ b) d ∷ []) made names i c.name-item.result c.args.found.now c.loop-name.found c.look_at_declared.new.found c.loop-name-test.true c.name-item.is
          (c.loop-name.invariant.noted text before h) (c.in_ok-look_at_declared.ensures.noted text (before ++ map made (take i names)) (c.loop-name.invariant.declared before h));
      declared = λ before h. turn-names c.look_at_declared.new.earlier.entries before made names i c.name-item.result c.loop-name-test.true c.name-item.is (c.in_ok-look_at_declared.ensures.declared (before ++ map made (take i names)) (c.loop-name.invariant.declared before h));
    }

pub returns-clause-noted : goal.returns-clause-noted
returns-clause-noted c = λ text before h. each-all text (module_view c.args.of.now) (λ b d. DeclaredSite (before ++ b) d ∷ []) (λ n. named n c.args.d) c.args.names.now c.loop-name.name-index c.args.found.now c.loop-name.found c.loop-name-test.false (c.loop-name.invariant.noted text before h)

pub returns-clause-declared : goal.returns-clause-declared
returns-clause-declared c = λ before h. end-names c.loop-name.earlier.entries before (λ n. named n c.args.d) c.args.names.now c.loop-name.name-index c.loop-name-test.false (c.loop-name.invariant.declared before h)
