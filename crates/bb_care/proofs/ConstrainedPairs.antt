-- A pair whose outputs count only where a care cell is 1 is a pair.
use Rattle.std.proofs.Common.{◌≡◌, ℕ, ◌+◌, ◌-◌, ◌^◌, ◌<◌, ◌≤◌, List, [], ◌++◌, length, map, All, sym, ◌∙◌, subst, arith, length-append}
use Rattle.std.specs.List.{range_with_len}
use Rattle.std.proofs.lemmas.List.Elements.{All-weaker}
use Rattle.std.proofs.lemmas.List.FromFn.{get_or-range_with_len, length-range_with_len}
use Rattle.bb_net.specs.declared.cell.Cell.{Cell}
use Rattle.bb_net.specs.declared.cell.Cell.TheVariants.{And, BoxOut}
use Rattle.bb_net.specs.Netlists.{Netlist, IsNetlist, cell_at}
use Rattle.bb_net.specs.Pairs.{NetPair, IsPair}
use Rattle.bb_care.specs.Constrained.{constrained, specification_copies, copy_place, guarded, with_copies}
use Rattle.bb_care.specs.Laws.{ConstrainedPairsArePairs, HasRoom}
use Rattle.bb_care.proofs.ConstrainedCells.{copied_length, copy_after, copy_cell, copy_reads, copy_there, prefix_long, guarded_and, guarded_length, inputs_fit, moved_plain, no_pin}
use Rattle.bb_care.proofs.GrownNets.{AreGates, IsGate, grown_is_netlist}

abbrev pub ands : ℕ → List ℕ → List Cell
ands care outs = map (λ out. And out care) outs

-- the netlist with the Ands is one
pub guarded_is_netlist : (care : ℕ) (outs : List ℕ) (net : Netlist) → IsNetlist net → All (λ out. out < length net.cells) outs → care < length net.cells → length net.cells + length outs < 2 ^ 32 → IsNetlist (guarded care outs net)
guarded_is_netlist care outs net kept there low room =
    grown_is_netlist net kept (ands care outs) gates (range_with_len (length net.cells) (length outs)) last (omega (arith, room, guarded_length care outs net))
  where
    gates : AreGates net (ands care outs)
    gates k past lt =
        let j = k - length net.cells in
        let own : j < length outs = omega (arith, past, lt, guarded_length care outs net) in
        let same : length net.cells + j ≡ k = omega (arith, past) in
        subst (λ n. IsGate net n (cell_at (net.cells ++ ands care outs) n)) same
        (subst (IsGate net (length net.cells + j)) (sym (guarded_and care outs net j own)) ((omega (arith, there j 0 own), omega (arith, low)), λ b p e. grind (arith, e)))

    last : All (λ out. out < length (net.cells ++ ands care outs)) (range_with_len (length net.cells) (length outs))
    last i d lt =
        let own : i < length outs = omega (arith, lt, length-range_with_len (length net.cells) (length outs)) in
        omega (arith, own, get_or-range_with_len (length net.cells) (length outs) i d own, guarded_length care outs net)

module _ (spec imp : Netlist) (kept : IsNetlist spec) (also : IsNetlist imp) (none : spec.boxes ≡ []) (inputs : spec.inputs ≡ imp.inputs) where
  -- so is the netlist with the copies
  copied_is_netlist : length imp.cells + length spec.cells < 2 ^ 32 → IsNetlist (with_copies spec imp)
  copied_is_netlist room = grown_is_netlist imp also (specification_copies spec imp) gates imp.outs stay (omega (arith, room, copied_length spec imp))
    where
      gates : AreGates imp (specification_copies spec imp)
      gates k past lt =
          let j = spec.inputs + 2 + (k - length imp.cells) in
          let there : j < length spec.cells = omega (arith, past, lt, copied_length spec imp, prefix_long spec kept) in
          let same : copy_place spec imp j ≡ k = copy_after spec imp j (omega arith) ∙ omega (arith, past) in
          let plain : (b p : ℕ) → cell_at spec.cells j ≡ BoxOut b p → ⊥ = λ b p is. no_pin spec kept none j b p there is in
          subst (λ n. IsGate imp n (cell_at (imp.cells ++ specification_copies spec imp) n)) same
          (subst (IsGate imp (copy_place spec imp j)) (sym (copy_cell spec imp kept also inputs j there))
          (copy_reads spec imp inputs (inputs_fit spec imp also inputs) j (cell_at spec.cells j) plain (kept.ordered j there), moved_plain (copy_place spec imp) (cell_at spec.cells j) plain))

      stay : All (λ out. out < length (imp.cells ++ specification_copies spec imp)) imp.outs
      stay = All-weaker (λ out. out < length imp.cells) (λ out. out < length (imp.cells ++ specification_copies spec imp)) (λ out low. omega (arith, low, length-append imp.cells (specification_copies spec imp))) imp.outs also.outs_there

-- both netlists of a pair with a care cell are netlists

few_places : (cells outs : ℕ) → cells ≤ 8000000 → outs ≤ 2000000 → cells + outs < 2 ^ 32
few_places cells outs a b = omega (arith, a, b)

few_copies : (cells copied outs : ℕ) → cells ≤ 8000000 → copied ≤ 8000000 → outs ≤ 2000000 → (cells + copied < 2 ^ 32) × (cells + copied + outs < 2 ^ 32)
few_copies cells copied outs a b c = (omega (arith, a, b), omega (arith, a, b, c))

module _ (q : NetPair) (care : ℕ) (pair : IsPair q) (there : care < length q.spec.cells) where
  pub spec_is_netlist : IsNetlist (guarded care q.spec.outs q.spec)
  spec_is_netlist = guarded_is_netlist care q.spec.outs q.spec pair.spec pair.spec.outs_there there
      (few_places (length q.spec.cells) (length q.spec.outs) pair.small.spec_cells (omega (arith, pair.small.outs, pair.beside.outputs)))

  pub copy_is_netlist : IsNetlist (with_copies q.spec q.imp)
  copy_is_netlist = copied_is_netlist q.spec q.imp pair.spec pair.imp pair.beside.no_box pair.beside.inputs
      (few_copies (length q.imp.cells) (length q.spec.cells) (length q.imp.outs) pair.small.imp_cells pair.small.spec_cells pair.small.outs).0

  -- the care cell of the implementation is a cell
  pub care_there : copy_place q.spec q.imp care < length (with_copies q.spec q.imp).cells
  care_there = copy_there q.spec q.imp (inputs_fit q.spec q.imp pair.imp pair.beside.inputs) care there

  pub imp_is_netlist : IsNetlist (guarded (copy_place q.spec q.imp care) q.imp.outs (with_copies q.spec q.imp))
  imp_is_netlist = guarded_is_netlist (copy_place q.spec q.imp care) q.imp.outs (with_copies q.spec q.imp) copy_is_netlist copy_is_netlist.outs_there care_there
      (omega (arith, copied_length q.spec q.imp, (few_copies (length q.imp.cells) (length q.spec.cells) (length q.imp.outs) pair.small.imp_cells pair.small.spec_cells pair.small.outs).1))

  as_many : (n : ℕ) (outs : List ℕ) → length (range_with_len n (length outs)) ≡ length outs
  as_many n outs = length-range_with_len n (length outs)

  pub constrained_pair : HasRoom q → IsPair (constrained care q)
  constrained_pair room = record {
    spec = spec_is_netlist;
    imp = imp_is_netlist;
    beside = record {
      inputs = pair.beside.inputs;
      outputs = as_many (length q.spec.cells) q.spec.outs ∙ pair.beside.outputs ∙ sym imp_outs;
      no_box = pair.beside.no_box;
      ins_named = pair.beside.ins_named;
      outs_named = pair.beside.outs_named ∙ sym imp_outs;
      boxes_named = pair.beside.boxes_named;
      kinds = pair.beside.kinds;
    };
    small = record {
      spec_cells = omega (arith, guarded_length care q.spec.outs q.spec, room.spec, pair.beside.outputs);
      imp_cells = omega (arith, guarded_length (copy_place q.spec q.imp care) q.imp.outs (with_copies q.spec q.imp), copied_length q.spec q.imp, room.imp);
      outs = omega (arith, imp_outs, pair.small.outs);
      boxes = pair.small.boxes;
      pins = pair.small.pins;
    };
  }
    where
      imp_outs : length (range_with_len (length (with_copies q.spec q.imp).cells) (length q.imp.outs)) ≡ length q.imp.outs
      imp_outs = as_many (length (with_copies q.spec q.imp).cells) q.imp.outs

pub constrained_pairs_are_pairs : ConstrainedPairsArePairs
constrained_pairs_are_pairs q care pair room there = constrained_pair q care pair there room
