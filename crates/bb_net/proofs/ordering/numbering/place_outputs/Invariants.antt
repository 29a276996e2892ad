use Rattle.std.proofs.Common.{◌≡◌, [], drop}
use Rattle.bb_net.specs.Netlists.{box_at}
use Rattle.bb_net.specs.Inside.Placings.{IsPlacing, IsComing}
use Rattle.bb_net.proofs.ordering.numbering.place_outputs.Given as goal

abbrev pub invariant-loop-p : goal.invariant-loop-p
invariant-loop-p l = record {
  placing : IsPlacing l.loose l.s [] (drop l.p (box_at l.loose.boxes l.b).outs);
  coming : IsComing l.loose l.s.net l.s.to.items l.s.numbers.items l.b l.number l.p;
  numbers : l.s.numbers.items ≡ l.initial.s.numbers.items;
}
