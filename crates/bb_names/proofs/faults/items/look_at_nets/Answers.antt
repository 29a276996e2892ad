use Rattle.std.proofs.Common.{◌++◌, ◌∷◌, [], ap, sym, ◌∙◌, subst, map, take, append-nil}
use Rattle.bb_ast.specs.Inside.Views.{named_view, module_view}
use Rattle.bb_names.specs.declared.net.NetKind.TheVariants.{Wire}
use Rattle.bb_names.specs.Declarations.{net_declaration}
use Rattle.bb_names.specs.Inside.Firsts.{noted}
use Rattle.bb_names.specs.Sites.{Declared as DeclaredSite, initial_sites}
use Rattle.bb_names.specs.Inside.Summaries.{Describes}
use Rattle.bb_names.proofs.DeclaredLists.{turn-map, end-map}
use Rattle.bb_names.proofs.Noting.{each-turn, each-all, noted-none, noted-then}
use Rattle.bb_names.proofs.faults.items.look_at_nets.Goals as goal

pub loop-name-init : goal.loop-name-init
loop-name-init c = record {
  noted = λ text before h. sym (noted-none text (module_view c.args.of.now) c.args.found.now);
  declared = λ before h. subst (Describes c.args.earlier.now.entries) (sym (append-nil before)) h;
}

pub loop-name-preserved : goal.loop-name-preserved
loop-name-preserved c =
    let m = module_view c.args.of.now in
    let i = c.loop-name.name-index in
    let nets = c.args.nets.now in
    let x = c.loop-name-item.result in
    let made = map (λ y. net_declaration Wire c.args.range y.0) (map named_view (take i nets)) in
    record {
      noted = λ text before h. each-turn text m (λ b y. DeclaredSite (before ++ map (λ z. net_declaration Wire c.args.range z.0) b) (net_declaration Wire c.args.range y.0) ∷ initial_sites y) named_view nets i x c.args.found.now c.loop-name.found c.look_at_initial.new.found c.loop-name-test.true c.loop-name-item.is
          (c.loop-name.invariant.noted text before h)
          (noted-then text m c.loop-name.found c.look_at_declared.new.found c.look_at_initial.new.found (DeclaredSite (before ++ made) (net_declaration Wire c.args.range x.0) ∷ []) (initial_sites (named_view x))
          (c.in_ok-look_at_declared.ensures.noted text (before ++ made) (c.loop-name.invariant.declared before h) ∙ ap (λ d. noted text m c.loop-name.found (DeclaredSite (before ++ made) d ∷ [])) (c.net.ensures x.0)) (c.in_ok-look_at_initial.ensures.noted text));
      declared = λ before h. turn-map c.look_at_declared.new.earlier.entries before (λ y. net_declaration Wire c.args.range y.0) named_view nets i x c.loop-name-test.true c.loop-name-item.is
          (subst (λ d. Describes c.look_at_declared.new.earlier.entries ((before ++ made) ++ d ∷ [])) (c.net.ensures x.0) (c.in_ok-look_at_declared.ensures.declared (before ++ made) (c.loop-name.invariant.declared before h)));
    }

pub returns-clause-noted : goal.returns-clause-noted
returns-clause-noted c = λ text before h. each-all text (module_view c.args.of.now) (λ b y. DeclaredSite (before ++ map (λ z. net_declaration Wire c.args.range z.0) b) (net_declaration Wire c.args.range y.0) ∷ initial_sites y) named_view c.args.nets.now c.loop-name.name-index c.args.found.now c.loop-name.found c.loop-name-test.false (c.loop-name.invariant.noted text before h)

pub returns-clause-declared : goal.returns-clause-declared
returns-clause-declared c = λ before h. end-map c.loop-name.earlier.entries before (λ y. net_declaration Wire c.args.range y.0) named_view c.args.nets.now c.loop-name.name-index c.loop-name-test.false (c.loop-name.invariant.declared before h)
