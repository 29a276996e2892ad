use Rattle.std.proofs.Common.{◌≡◌, length, subst, sym, ap, ◌∙◌}
use Rattle.std.specs.Prelude.{All}
use Rattle.bb_elab.specs.Inside.DrivenNumbers.{driven_numbers, MayCountInputs, MayBeCounted, AreCounts}
use Rattle.bb_design.specs.NetBits.{net_order}
use Rattle.bb_elab.proofs.DriverNumbers.{inputs_there, scopes_there, driven_at}
use Rattle.bb_elab.proofs.Tallies.{written_back, none_counted, counts_reported}
use Rattle.bb_elab.proofs.drivers.driver_counts.Goals as goal

pub count_drivers-requires-clause-inputs : goal.count_drivers-requires-clause-inputs
count_drivers-requires-clause-inputs c = λ p at.
    let d = c.requires.design in
    subst (λ n. MayCountInputs c.args.templates.now n p) (sym (c.deref_mut.ensures.len ∙ c.in_ok-counts.ensures.len ∙ c.bit_count.ensures.bits d.0 d.1 d.2))
    (inputs_there c.laws_of_designs.ensures d.0 c.args.placed.now c.args.templates.now d.1 d.2 p at)

pub count_drivers-requires-clause-scopes : goal.count_drivers-requires-clause-scopes
count_drivers-requires-clause-scopes c =
    let d = c.requires.design in
    subst (λ n. All (MayBeCounted c.args.placed.now c.args.templates.now n) c.args.placed.now) (sym (c.deref_mut.ensures.len ∙ c.in_ok-counts.ensures.len ∙ c.bit_count.ensures.bits d.0 d.1 d.2))
    (scopes_there c.laws_of_designs.ensures d.0 c.args.placed.now c.args.templates.now d.1 d.2)

pub returns : goal.returns
returns c = record {
  counts = λ d placed templated bounded.
      let counts = c.count_drivers.new.counts in
      let items = c.in_ok-counts.counts.items in
      let long : length counts ≡ length items = c.count_drivers.auto.counts ∙ ap length c.deref_mut.ensures.value in
      let whole : length items ≡ length (net_order d) = ap length (sym c.deref_mut.ensures.value) ∙ c.deref_mut.ensures.len ∙ c.in_ok-counts.ensures.len ∙ c.bit_count.ensures.bits d placed templated in
      subst (AreCounts d) (sym (written_back c.in_ok-counts.counts.len items counts long (sym (sym (ap length c.deref_mut.ensures.value) ∙ c.deref_mut.ensures.len))))
      (counts_reported c.laws_of_designs.ensures d counts (driven_numbers c.args.placed.now c.args.templates.now) (c.laws_of_designs.ensures.distinct d bounded.faultless bounded.top)
      (driven_at c.laws_of_designs.ensures d c.args.placed.now c.args.templates.now placed templated c.values_have_width.ensures c.made_has_value.ensures bounded) (long ∙ whole)
      (c.count_drivers.ensures.tally (none_counted c.deref_mut.result.now c.bit_count.result (c.deref_mut.ensures.value ∙ c.in_ok-counts.ensures.items_if_clones_equal (λ y same. same)))));
}
