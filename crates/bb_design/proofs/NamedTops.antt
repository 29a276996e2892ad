-- A top that is found is meant: the one module that none instantiates, or one of the given name.
use Rattle.std.proofs.Common.{Some, None}
use lib.Pointwise.{bytes_decides}
use Rattle.bb_bits.specs.Names.{same_name}
use Rattle.bb_design.specs.Laws.{TopsAreMeant}
use Rattle.bb_design.proofs.TopLaws.{top_is_only}
use Rattle.bb_lemmas.proofs.Members.{from_find}

pub tops_are_meant : TopsAreMeant
tops_are_meant text None top e = top_is_only text top e
tops_are_meant text (Some n) top e =
    let found = from_find (λ m. same_name m.name n) text top e in
    record { there = found.0; named = (bytes_decides top.name n).0 found.1 }
