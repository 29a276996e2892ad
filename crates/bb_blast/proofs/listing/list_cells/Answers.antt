use Rattle.std.proofs.Common.{◌≡◌, ◌<◌, length, Some, refl, arith}
use Rattle.std.specs.Prelude.{slice_get}
use Rattle.std.proofs.lemmas.Option.{slice_get_read, slice_get_within}
use Rattle.bb_design.specs.Hierarchy.{root}
use Rattle.bb_blast.proofs.ListedDesigns.{listed_is_list}
use Rattle.bb_blast.proofs.ScopesAmong.{scopes_among}
use Rattle.bb_blast.proofs.listing.list_cells.Goals as goal

pub template_of-top-requires : goal.template_of-top-requires
template_of-top-requires c =
    let some : 0 < length c.args.placed.now = omega (arith, c.requires.design.1.count) in
    let first : slice_get c.args.placed.now 0 ≡ Some c.index-placed-0.result = slice_get_read c.args.placed.now (length c.args.placed.now) 0 c.index-placed-0.result refl some c.index-placed-0.is in
    let o = c.requires.design.2 0 (root c.requires.design.0) c.index-placed-0.result refl first in
    record { there = slice_get_within c.args.templates.now c.index-placed-0.result.module o.0 o.1 }

pub listed-requires-clause-scopes : goal.listed-requires-clause-scopes
listed-requires-clause-scopes c = let given = c.requires.design in scopes_among given.0 c.args.placed.now given.1 c.args.templates.now given.2

pub listed-requires-clause-there : goal.listed-requires-clause-there
listed-requires-clause-there c = let given = c.requires.design in λ k p fits. (scopes_among given.0 c.args.placed.now given.1 c.args.templates.now given.2 k p fits).template

pub returns : goal.returns
returns c = record {
  list = λ d are templated store bounded once.
      let some : 0 < length c.args.placed.now = omega (arith, are.count) in
      listed_is_list c.laws_of_designs.ensures c.net_names_differ.ensures c.places_are_few.ensures d c.args.placed.now c.args.templates.now c.args.stored.now c.index-placed-0.result c.template_of-top.result.now c.in_ok-list.list c.in_ok-list.ensures.list
      (slice_get_read c.args.placed.now (length c.args.placed.now) 0 c.index-placed-0.result refl some c.index-placed-0.is)
      c.template_of-top.ensures.template are templated store bounded;
}
