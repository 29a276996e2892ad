use Rattle.std.proofs.Common.{◌≡◌, ◌++◌, ◌∷◌, [], ap, sym, ◌∙◌, subst, map, take, append-nil, arith, if◌then◌else◌}
use Rattle.std.specs.Prelude.{Some, None, is_none, option_map}
use Rattle.std.specs.Option.{option_or}
use Rattle.bb_ast.specs.Inside.Views.{call_view, module_view}
use Rattle.bb_names.specs.Declarations.{instance_declaration}
use Rattle.bb_names.specs.Inside.Firsts.{noted, call_sites}
use Rattle.bb_names.specs.Sites.{Target, module_named}
use Rattle.bb_names.specs.Inside.Summaries.{Describes}
use Rattle.bb_bits.specs.Earlier.{each_after}
use Rattle.bb_names.proofs.DeclaredLists.{turn-map, end-map}
use Rattle.bb_names.proofs.Noting.{each-turn, each-all, noted-none, noted-one, noted-then, reported-one, is_none-map}
use Rattle.bb_names.proofs.Searches.{option_or-none}
use Rattle.bb_names.proofs.faults.instances.look_at_calls.Goals as goal

pub loop-call-init : goal.loop-call-init
loop-call-init c = record {
  noted = λ text before h. sym (noted-none text (module_view c.args.of.now) _);
  declared = λ before h. subst (Describes c.args.earlier.now.entries) (sym (append-nil before)) h;
}

pub loop-call-preserved : goal.loop-call-preserved
loop-call-preserved c =
    let m = module_view c.args.of.now in
    let i = c.loop-call.call-index in
    let calls = c.args.calls.now in
    let x = c.call-item.result in
    let to = option_map (λ t. module_view t.now) c.named-to.result in
    record {
      noted = λ text before h. each-turn text m (λ b y. call_sites to (before ++ map (λ z. instance_declaration z.0) b) y) call_view calls i x _ c.loop-call.found c.look_at_call.new.found c.loop-call-test.true c.call-item.is (c.loop-call.invariant.noted text before h)
          (c.in_ok-look_at_call.ensures.noted text (before ++ map (λ z. instance_declaration z.0) (map call_view (take i calls))) (c.loop-call.invariant.declared before h));
      declared = λ before h. turn-map c.look_at_call.new.earlier.entries before (λ y. instance_declaration y.0) call_view calls i x c.loop-call-test.true c.call-item.is
          (c.in_ok-look_at_call.ensures.declared (before ++ map (λ z. instance_declaration z.0) (map call_view (take i calls))) (c.loop-call.invariant.declared before h));
    }

pub returns-clause-noted : goal.returns-clause-noted
returns-clause-noted c = λ before h.
    let text = map module_view c.args.source.now in
    let m = module_view c.args.of.now in
    let n = c.args.target.now in
    let f = c.args.found.now in
    let all = map call_view c.args.calls.now in
    let to = option_map (λ t. module_view t.now) c.named-to.result in
    let missing : c.is_none.result ≡ is_none c.named-to.result = grind (arith, c.is_none.ensures) in
    let nowhere = missing ∙ sym (is_none-map (λ t. module_view t.now) c.named-to.result) ∙ ap is_none c.named-to.ensures in
    noted-then text m f _ c.loop-call.found (Target n ∷ []) (each_after (λ b y. call_sites to (before ++ map (λ z. instance_declaration z.0) b) y) all)
    (noted-one text m f (Target n) _ _ _ _ _ (sym (option_or-none f.twice)) (c.in_ok-note.ensures ∙ ap (option_or f.unknown) (ap (λ b. if b then Some n else None) nowhere ∙ sym (reported-one (is_none (module_named text n)) n)))
    (sym (option_or-none f.select)) (sym (option_or-none f.width)) (sym (option_or-none f.role)))
    (each-all text m (λ b y. call_sites to (before ++ map (λ z. instance_declaration z.0) b) y) call_view c.args.calls.now c.loop-call.call-index _ c.loop-call.found c.loop-call-test.false (c.loop-call.invariant.noted text before h))
    ∙ ap (λ t. noted text m f (Target n ∷ each_after (λ b y. call_sites t (before ++ map (λ z. instance_declaration z.0) b) y) all)) c.named-to.ensures

pub returns-clause-declared : goal.returns-clause-declared
returns-clause-declared c = λ before h. end-map c.loop-call.earlier.entries before (λ y. instance_declaration y.0) call_view c.args.calls.now c.loop-call.call-index c.loop-call-test.false (c.loop-call.invariant.declared before h)
