use Rattle.std.proofs.Common.{◌++◌, length, refl, sym, ap, ◌∙◌, arith, append_assoc, append-nil}
use Rattle.std.specs.Prelude.{codes}
use Rattle.std.proofs.lemmas.Option.{slice_get_read}
use Rattle.bb_design.specs.Texts.{path_prefix}
use Rattle.bb_elab.proofs.PlacedPaths.{prefix-below, path_top, path_instance, rooted_lower}
use Rattle.bb_elab.proofs.texts.+prefix.Goals as goal

pub add_prefix-requires : goal.add_prefix-requires
add_prefix-requires t c =
    let all = c.args.placed.now in
    let at = slice_get_read all (length all) c.args.scope c.index-placed-scope.result refl c.requires.there c.index-placed-scope.is in
    let low = rooted_lower all c.requires.rooted c.args.scope c.index-placed-scope.result c.in-Some.instance at c.in-Some.is in
    (omega (arith, low, c.decreases), (c.requires.rooted, omega (arith, low, c.requires.there)))

pub returns-in_ok-push : goal.returns-in_ok-push
returns-in_ok-push t c = λ path is.
    let all = c.args.placed.now in
    let old = c.args.text.now.items in
    let name = c.in-Some.instance.name in
    let at = slice_get_read all (length all) c.args.scope c.index-placed-scope.result refl c.requires.there c.index-placed-scope.is in
    let up = path_instance all c.args.scope path c.index-placed-scope.result c.in-Some.instance is at c.in-Some.is in
    c.in_ok-push.ensures.items ∙ ap (λ l. l ++ codes ".") (c.in_ok-extend_from_slice.ensures.items ∙ ap (λ l. l ++ c.bytes.result.now) (c.in_ok-add_prefix.ensures up.0 up.2) ∙ ap (λ l. (old ++ path_prefix up.0) ++ l) c.bytes.ensures.bytes)
    ∙ ap (λ l. l ++ codes ".") (append_assoc old (path_prefix up.0) name) ∙ append_assoc old (path_prefix up.0 ++ name) (codes ".") ∙ ap (λ l. old ++ l) (sym (prefix-below c.laws_of_designs.ensures up.0 name)) ∙ ap (λ p. old ++ path_prefix p) (sym up.1)

pub returns-in_default : goal.returns-in_default
returns-in_default t c = λ path is.
    let all = c.args.placed.now in
    let at = slice_get_read all (length all) c.args.scope c.index-placed-scope.result refl c.requires.there c.index-placed-scope.is in
    let top = path_top all c.args.scope path c.index-placed-scope.result is at c.in_default.is in
    sym (append-nil c.args.text.now.items) ∙ ap (λ p. c.args.text.now.items ++ path_prefix p) (sym top)
