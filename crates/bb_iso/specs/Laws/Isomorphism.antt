-- Isomorphic netlists: the same but for the order of their cells, and but for which of several equal cells another one
-- reads. They are compared by the formulas of their cells and not by a matching of cells: both of these are left open,
-- so no matching need keep what cells read. Formulas are what checks count, as their BDDs and clauses go by them; so
-- what a check decides or leaves open is the same for all pairs of two texts.
use Rattle.std.specs.Prelude.{◌≡◌, map}
use Rattle.std.specs.List.Sorted.{IsPermutation}
use Rattle.bb_net.specs.Netlists.{Netlist}
use Rattle.bb_net.specs.Pairs.{NetPair}
use Rattle.bb_iso.specs.Laws.Formulas.{formula_at, cell_formulas, pin_formulas}

pub record AreIsomorphic (a b : Netlist) : Type 0 where
  pub inputs : a.inputs ≡ b.inputs
  -- after the constants and the inputs both have cells of the same formulas, each as often
  pub cells : IsPermutation (cell_formulas a) (cell_formulas b)
  -- the pins of each box and the outputs have the same formulas
  pub boxes : map (pin_formulas a.cells) a.boxes ≡ map (pin_formulas b.cells) b.boxes
  pub outs : map (formula_at a.cells) a.outs ≡ map (formula_at b.cells) b.outs

-- the nets of two pairs are isomorphic, everything has the same name, and the same boxes are of one sharing class
pub record AreIsomorphicPairs (p q : NetPair) : Type 0 where
  pub spec : AreIsomorphic p.spec q.spec
  pub imp : AreIsomorphic p.imp q.imp
  pub ins : p.ins ≡ q.ins
  pub outs : p.outs ≡ q.outs
  pub boxes : p.boxes ≡ q.boxes
  pub kinds : p.kinds ≡ q.kinds
