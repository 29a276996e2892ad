use Rattle.std.proofs.Common.{All, length, subst, sym}
use Rattle.bb_blast.specs.declared.template.Part.TheVariants as part
use Rattle.bb_blast.specs.Inside.Listing.{IsPartAmong}
use Rattle.bb_blast.specs.Inside.Logic.{IsLogicAmong}
use Rattle.bb_blast.proofs.part_cells.add_part.Goals as goal

pub put_gate-requires : goal.put_gate-requires
put_gate-requires c =
    let among = IsPartAmong (length c.args.starts.now) (length c.args.scope.now.children.items) in
    let here : among (part.Gate c.in-Gate.gate c.in-Gate.outs c.in-Gate.ins) = subst among c.in-Gate.is c.requires.part in
    record { ins = subst (All (IsLogicAmong (length c.args.starts.now))) (sym c.deref-in-Gate-2.ensures.value) here }
