-- A pair whose outputs count only where one cell of the specification, the care cell, is 1; at the vectors at which it
-- is 0 every output may have any bit (the don't-cares of a function that is not specified everywhere). On both sides
-- each output is an And of what it was and of the care cell, so that where this is 0 all outputs of both are 0; with an
-- And on one side alone they would differ there. The implementation gets a copy of the specification's cells, which
-- reads its own constants and inputs, and so has a care cell of its own, on which no box has a bearing.
use Rattle.std.specs.Prelude.{ℕ, ◌+◌, ◌-◌, if◌then◌else◌, nat_lt, List, ◌++◌, length, map, drop}
use Rattle.std.specs.List.{range_with_len}
use Rattle.bb_subst.specs.Embeddings.{renumbered}
use Rattle.bb_net.specs.declared.cell.Cell.{Cell}
use Rattle.bb_net.specs.declared.cell.Cell.TheVariants.{And}
use Rattle.bb_net.specs.Netlists.{Netlist}
use Rattle.bb_net.specs.Pairs.{NetPair}

-- the place of the copy of a specification cell: the two constants and the inputs with which both netlists begin are no
-- copies, and the copies of all others come in their order after the cells of the implementation
abbrev pub copy_place : Netlist → Netlist → ℕ → ℕ
copy_place spec imp k = if nat_lt k (spec.inputs + 2) then k else length imp.cells + (k - (spec.inputs + 2))

-- these copies
abbrev pub specification_copies : Netlist → Netlist → List Cell
specification_copies spec imp = map (renumbered (copy_place spec imp)) (drop (spec.inputs + 2) spec.cells)

-- the implementation with the copies after its cells
abbrev pub with_copies : Netlist → Netlist → Netlist
with_copies spec imp = record imp { cells = imp.cells ++ specification_copies spec imp }

-- a netlist with an And for each of these cells after its own, the cell first and the care cell second; they are its
-- outputs
abbrev pub guarded : ℕ → List ℕ → Netlist → Netlist
guarded care outs net = record net {
  cells = net.cells ++ map (λ out. And out care) outs;
  outs = range_with_len (length net.cells) (length outs);
}

-- the pair whose outputs count only where this cell of the specification is 1
abbrev pub constrained : ℕ → NetPair → NetPair
constrained care q = record q {
  spec = guarded care q.spec.outs q.spec;
  imp = guarded (copy_place q.spec q.imp care) q.imp.outs (with_copies q.spec q.imp);
}
