use Rattle.std.proofs.Common.{ℕ, map, take}
use Rattle.std.specs.List.{AllZip}
use Rattle.bb_uniq.specs.Inside.Meaning.{truth_of}
use Rattle.bb_strash.specs.Inside.Extensions.{Extends}
use Rattle.bb_mux.specs.Inside.Functions.{Computes}
use Rattle.bb_mux.specs.Inside.Walks.{AreWalked}
use Rattle.bb_mux.proofs.netlist.places_of.Given as goal

abbrev pub invariant-loop-r : goal.invariant-loop-r
invariant-loop-r l = record {
  extends : (most : ℕ) × Extends l.fn.net l.net most;
  walked : AreWalked l.fn.d.store (map (λ r. truth_of l.fn.d.store r.0) l.roots) l.net l.places;
  computed : AllZip (λ r. Computes l.fn.d.store l.net r.0) (take l.r-index l.roots) l.outs.items;
}
