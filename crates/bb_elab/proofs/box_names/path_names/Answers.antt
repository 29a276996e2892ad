use Rattle.std.proofs.Common.{map, ap, ◌∙◌, arith}
use Rattle.std.proofs.lemmas.List.{take_all}
use Rattle.std.proofs.lemmas.Option.{slice_get-get_or}
use Rattle.bb_design.specs.Hierarchy.{Scope, boxes}
use Rattle.bb_blast.specs.Inside.Placements.{IsScopeAt}
use Rattle.bb_design.specs.Texts.{path_text}
use Rattle.bb_lemmas.proofs.Zips.{zip_length}
use Rattle.bb_elab.proofs.NamedBits.{zipped_more}
use Rattle.bb_elab.proofs.box_names.path_names.Goals as goal

pub loop-scope-preserved : goal.loop-scope-preserved
loop-scope-preserved c = λ d are all.
    zipped_more (IsScopeAt d) (λ (s : Scope). path_text s.path) c.args.scopes.now (boxes d) all c.loop-scope.scope-index _ (slice_get-get_or c.args.scopes.now c.loop-scope.scope-index 0 c.loop-scope-test.true) c.in_ok-path_name.field-0
    (λ s at. c.in_ok-path_name.ensures.name d are s at) c.loop-scope.paths.items c.push.new.self.items (c.loop-scope.invariant d are all) c.in_ok-push.ensures.items

pub returns : goal.returns
returns c = record {
  paths = λ d are all. c.loop-scope.invariant d are all ∙ ap (map (λ (s : Scope). path_text s.path)) (take_all c.loop-scope.scope-index (boxes d) (omega (arith, zip_length (IsScopeAt d) c.args.scopes.now (boxes d) all, c.loop-scope-test.false)));
}
