use Rattle.bb_replace.proofs.ReplacedRegisters.{below}
use Rattle.bb_replace.proofs.ReplacedWorlds.{outputs_too, vector_too, world_too}
use Rattle.bb_replace.proofs.laws.replaced_worlds_are_worlds.Goals as goal

pub returns : goal.returns
returns c modules d contents w bounded may computed is =
    let laws = below c.laws_of_designs.ensures d bounded in
    record {
      world = world_too modules d laws may contents w computed bounded.shallow is;
      vector = λ x. vector_too modules d laws may x w;
      outputs = outputs_too modules d laws may w;
    }
