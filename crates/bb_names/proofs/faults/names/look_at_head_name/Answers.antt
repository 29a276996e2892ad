use Rattle.std.proofs.Common.{◌≡◌, ap, sym, ◌∙◌, map, take, arith, if◌then◌else◌}
use Rattle.std.proofs.lemmas.Result.{on_ok_weaker}
use Rattle.std.specs.Prelude.{Some, None, is_none, nat_lt, false}
use Rattle.std.specs.Option.{option_or, option_map_or}
use Rattle.bb_ast.specs.Inside.Views.{module_view}
use Rattle.bb_names.specs.Declarations.{direction_of}
use Rattle.bb_names.specs.Sites.{HeadName}
use Rattle.bb_bits.specs.Earlier.{has_name}
use Rattle.bb_names.proofs.IndexLemmas.{before-first}
use Rattle.bb_names.proofs.Noting.{noted-one, reported-one}
use Rattle.bb_names.proofs.Searches.{option_or-none}
use Rattle.bb_names.proofs.faults.names.look_at_head_name.Goals as goal

pub returns : goal.returns
returns c = λ text.
    let m = module_view c.args.of.now in
    let n = c.args.name.now in
    let f = c.args.found.now in
    let prefix = take c.args.place m.heads in
    let nowhere : c.is_none-nowhere.result ≡ is_none (direction_of m n) = grind (arith, c.is_none-nowhere.ensures, c.facts.ensures.dir) in
    let again = c.is_before.ensures ∙ ap (λ o. option_map_or (λ p. nat_lt p c.args.place) o false) c.port_place.ensures ∙ before-first (λ h. h.name) n m.heads c.args.place in
    on_ok_weaker c.note-2.result (λ step. noted-one text m f (HeadName prefix n) _ _ _ _ _
    (c.in_ok-note.ensures ∙ ap (option_or f.twice) (ap (λ b. if b then Some n else None) again ∙ sym (reported-one (has_name n (map (λ x. x.name) prefix)) n)))
    (step ∙ ap (option_or f.unknown) (ap (λ b. if b then Some n else None) nowhere ∙ sym (reported-one (is_none (direction_of m n)) n)))
    (sym (option_or-none f.select)) (sym (option_or-none f.width)) (sym (option_or-none f.role))) c.note-2.ensures
