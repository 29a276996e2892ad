use Rattle.std.proofs.Common.{sym, ◌∙◌, arith}
use Rattle.bb_names.specs.Inside.Checked.{module_facts}
use Rattle.bb_hier.proofs.MarkLemmas.{none_named, net_there, row_there, row_fits, one_marked}
use Rattle.bb_hier.proofs.register_bits.mark_named.Goals as goal

pub returns-in_default : goal.returns-in_default
returns-in_default c = record {
  marks = λ bits are. none_named (module_facts c.args.scope.now) c.requires.nets c.net_names_differ.ensures c.args.name.now c.args.part c.args.marks.now bits (sym c.place_of.ensures.place ∙ c.in_default.is) are;
}

pub bounds-marks-place : goal.bounds-marks-place
bounds-marks-place c =
    row_there (module_facts c.args.scope.now) c.requires.nets c.net_names_differ.ensures c.args.name.now c.args.part c.args.marks.now c.in-Some.place (sym c.place_of.ensures.place ∙ c.in-Some.is) c.requires.marks.0 c.requires.marks.1

pub index-requires : goal.index-requires
index-requires c =
    omega (arith, c.args.scope.now.nets.ok, net_there (module_facts c.args.scope.now) c.requires.nets c.net_names_differ.ensures c.args.name.now c.args.part c.args.marks.now c.in-Some.place (sym c.place_of.ensures.place ∙ c.in-Some.is))

pub mark_net-requires : goal.mark_net-requires
mark_net-requires c = record {
  whole = row_fits (module_facts c.args.scope.now) c.requires.nets c.net_names_differ.ensures c.args.name.now c.args.part c.args.marks.now c.in-Some.place (sym c.place_of.ensures.place ∙ c.in-Some.is) c.requires.marks.0 c.requires.marks.1
      c.index-marks-place.result c.index.result.now c.index.ensures;
}

pub returns : goal.returns
returns c = record {
  marks = λ bits are. one_marked (module_facts c.args.scope.now) c.requires.nets c.net_names_differ.ensures c.args.name.now c.args.part c.args.marks.now c.in-Some.place (sym c.place_of.ensures.place ∙ c.in-Some.is) bits are
      c.index-marks-place.result c.mark_net.new.marks c.index.result.now c.index.ensures c.in_ok-mark_net.ensures.whole c.in_ok-mark_net.ensures.marked;
}
