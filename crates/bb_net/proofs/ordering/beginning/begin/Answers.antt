use Rattle.std.proofs.Common.{◌≡◌, ◌∙◌, [], replicate, false, ap, subst, arith, rules}
use Rattle.bb_net.specs.Netlists.{first_cells}
use Rattle.bb_net.specs.Inside.Placings.{IsLeastFirst}
use Rattle.bb_net.proofs.OrderedLists.{prefix_fits, IsPlacing-first}
use Rattle.bb_net.proofs.ordering.beginning.begin.Goals as goal

pub start-requires : goal.start-requires
start-requires c = omega (arith, prefix_fits c.args.loose.now c.requires.list, c.requires.list.cells_fit, c.input_count-inputs.ensures.count)

pub overflow_add-inputs : goal.overflow_add-inputs
overflow_add-inputs c = omega (arith, prefix_fits c.args.loose.now c.requires.list, c.requires.list.cells_fit, c.input_count-inputs.ensures.count)

pub first_places-requires : goal.first_places-requires
first_places-requires c = record { within = omega (arith, prefix_fits c.args.loose.now c.requires.list, c.cell_count.ensures.count, c.input_count-inputs.ensures.count) }

pub returns : goal.returns
returns c =
    let l = c.args.loose.now in
    let n = c.cell_count.ensures.count in
    let inputs : c.input_count-inputs.result ≡ l.inputs = c.input_count-inputs.ensures.count in
    let to = c.in_ok-first_places.field-0.items in
    let e = c.in_ok-first_places.ensures in
    record {
      ok = λ woken all. (
          let s = IsPlacing-first l to woken c.requires.list (e.whole ∙ n) (λ k h. e.first k (omega (arith, h, inputs))) (λ k h. e.open k (omega (arith, h, inputs))) (omega (arith, e.count, n, inputs))
          (subst IsLeastFirst c.new-3.ensures.items c.new-3.ensures.heap_order) all in
          let net = c.in_ok-start.ensures.ok ∙ ap (λ i. record { inputs = i; cells = first_cells i; boxes = []; outs = [] }) inputs in
          let flags : c.in_ok-vec.field-0.items ≡ replicate c.box_count.result false = search rules in
          let numbered = flags ∙ ap (λ m. replicate m false) c.box_count.ensures.count in
          let waiting = c.in_ok-nobody.ensures.ok ∙ ap (λ m. replicate m []) c.cell_count-2.ensures.count in
          rw (net, c.new.ensures.items, numbered, waiting, c.new-2.ensures.items, c.new-3.ensures.items) s);
    }
