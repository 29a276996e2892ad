use Rattle.bb_implements.proofs.FlatInvariants.{is_flat}
use Rattle.bb_implements.proofs.list_laws.implementing_nets_are_flat.Goals as goal

pub returns : goal.returns
returns c d f allowed occurs printable = is_flat c.laws_of_designs.ensures d f allowed.bounded allowed.sound occurs printable
