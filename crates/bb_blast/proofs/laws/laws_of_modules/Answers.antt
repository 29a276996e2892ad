use Rattle.bb_blast.proofs.ModulePlaces.{has_nets, module-is}
use Rattle.bb_blast.proofs.NetNumbers.{net_bit_at}
use Rattle.bb_blast.proofs.TemplatedDesigns.{meant_at}
use Rattle.bb_blast.proofs.RegisterItems.{formed_left}
use Rattle.bb_blast.proofs.laws.laws_of_modules.Goals as goal

pub returns : goal.returns
returns c = record {
  net_bit_at = net_bit_at;
  modules = λ checked k f there. record { is = module-is checked k f there; nets = has_nets checked k f there };
  checked = meant_at;
  left_sides = formed_left;
}
