use Rattle.std.proofs.Common.{◌++◌, length, refl, sym, ap, ◌∙◌, arith, append_assoc, append-nil}
use Rattle.std.proofs.lemmas.Option.{slice_get_read}
use Rattle.bb_design.specs.Texts.{path_prefix, path_text}
use Rattle.bb_elab.proofs.PlacedPaths.{text-below, path_top, path_instance, rooted_lower}
use Rattle.bb_elab.proofs.texts.add_path.Goals as goal

pub add_prefix-requires-clause-there : goal.add_prefix-requires-clause-there
add_prefix-requires-clause-there c =
    let all = c.args.placed.now in
    let at = slice_get_read all (length all) c.args.scope c.index-placed-scope.result refl c.requires.there c.index-placed-scope.is in
    omega (arith, rooted_lower all c.requires.rooted c.args.scope c.index-placed-scope.result c.in-Some.instance at c.in-Some.is, c.requires.there)

pub returns-in_ok-extend_from_slice : goal.returns-in_ok-extend_from_slice
returns-in_ok-extend_from_slice c = record {
  path = λ path is.
      let all = c.args.placed.now in
      let old = c.args.text.now.items in
      let name = c.in-Some.instance.name in
      let at = slice_get_read all (length all) c.args.scope c.index-placed-scope.result refl c.requires.there c.index-placed-scope.is in
      let up = path_instance all c.args.scope path c.index-placed-scope.result c.in-Some.instance is at c.in-Some.is in
      c.in_ok-extend_from_slice.ensures.items ∙ ap (λ l. l ++ c.bytes.result.now) (c.in_ok-add_prefix.ensures up.0 up.2) ∙ ap (λ l. (old ++ path_prefix up.0) ++ l) c.bytes.ensures.bytes
      ∙ append_assoc old (path_prefix up.0) name ∙ ap (λ l. old ++ l) (sym (text-below c.laws_of_designs.ensures up.0 name)) ∙ ap (λ p. old ++ path_text p) (sym up.1);
}

pub returns-in_default : goal.returns-in_default
returns-in_default c = record {
  path = λ path is.
      let all = c.args.placed.now in
      let at = slice_get_read all (length all) c.args.scope c.index-placed-scope.result refl c.requires.there c.index-placed-scope.is in
      let top = path_top all c.args.scope path c.index-placed-scope.result is at c.in_default.is in
      sym (append-nil c.args.text.now.items) ∙ ap (λ p. c.args.text.now.items ++ path_text p) (sym top);
}
