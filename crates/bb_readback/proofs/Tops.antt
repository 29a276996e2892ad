-- The filled module is the top of its text: it has no instance, so nothing instantiates it.
use Rattle.std.proofs.Common.{◌||◌, false, not, List, [], ◌∷◌, if◌then◌else◌, refl, ap}
use Rattle.std.specs.List.{list_any}
use Rattle.bb_bits.specs.Names.{same_name}
use Rattle.bb_readback.specs.Laws.Modules.{filled_module}
use Rattle.bb_design.specs.Hierarchy.{Instance, the_only}
use Rattle.bb_readback.specs.Laws.{FilledModulesAreTops}
use Rattle.bb_readback.proofs.Nets.{calls_none}

pub filled_modules_are_tops : FilledModulesAreTops
filled_modules_are_tops f tables =
    let here = filled_module f tables in
    let alone = λ (calls : List Instance). the_only (if not (list_any (λ (i : Instance). same_name i.target here.name) calls || false) then here ∷ [] else []) in
    record { alone = ap alone (calls_none f tables); named = refl }
