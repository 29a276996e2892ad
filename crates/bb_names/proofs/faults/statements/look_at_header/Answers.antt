use Rattle.std.proofs.Common.{◌∷◌, [], ap, sym, ◌∙◌, map, take, if◌then◌else◌}
use Rattle.std.proofs.lemmas.Result.{on_ok_weaker}
use Rattle.std.specs.Prelude.{Some, None, nat_lt, false}
use Rattle.std.specs.Option.{option_or, option_map_or}
use Rattle.std.specs.List.{position_from}
use Rattle.bb_bits.specs.Names.{same_name}
use Rattle.bb_ast.specs.Inside.Views.{module_view}
use Rattle.bb_names.specs.Inside.Firsts.{head_sites}
use Rattle.bb_names.specs.Sites.{ModuleName}
use Rattle.bb_bits.specs.Earlier.{has_name, each_after}
use Rattle.bb_names.proofs.IndexLemmas.{before-first, plain-names}
use Rattle.bb_names.proofs.Noting.{noted-one, noted-then, reported-one}
use Rattle.bb_names.proofs.Searches.{option_or-none}
use Rattle.bb_names.proofs.faults.statements.look_at_header.Goals as goal

pub returns-clause-noted : goal.returns-clause-noted
returns-clause-noted c =
    let src = c.args.source.now in
    let text = map module_view src in
    let m = module_view c.args.of.now in
    let n = c.args.of.now.name in
    let k = c.args.place in
    let f = c.args.found.now in
    let name = ap (λ z. z.name) c.module.ensures in
    let again = c.is_before.ensures ∙ ap (λ o. option_map_or (λ p. nat_lt p k) o false) (c.place.ensures ∙ ap (λ z. position_from (same_name z) 0 (map (λ x. x.name) src)) name ∙ ap (position_from (same_name n) 0) (plain-names src)) ∙ before-first (λ x. x.name) n text k in
    let first = noted-one text m f (ModuleName (take k text) n) c.note.new.slot f.unknown f.select f.width f.role
    (c.in_ok-note.ensures ∙ ap (λ z. option_or f.twice (if c.is_before.result then Some z else None)) name
    ∙ ap (option_or f.twice) (ap (λ b. if b then Some n else None) again ∙ sym (reported-one (has_name n (map (λ x. x.name) (take k text))) n)))
    (sym (option_or-none f.unknown)) (sym (option_or-none f.select)) (sym (option_or-none f.width)) (sym (option_or-none f.role)) in
    on_ok_weaker c.look_at_heads.result (λ step. noted-then text m f _ c.look_at_heads.new.found (ModuleName (take k text) n ∷ []) (each_after head_sites m.heads) first step) (c.look_at_heads.ensures.noted text c.requires.none)

pub returns-clause-declared : goal.returns-clause-declared
returns-clause-declared c = c.look_at_heads.ensures.declared c.requires.none
