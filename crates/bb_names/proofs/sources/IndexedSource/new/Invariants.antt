use Rattle.std.proofs.Common.{◌≡◌, ◌++◌, length, map}
use Rattle.std.specs.Vec.{vec_len}
use Rattle.bb_names.specs.Inside.Indexed.{ArePlaces}
use Rattle.bb_names.proofs.sources.IndexedSource.new.Given as goal

abbrev pub invariant-loop-parsed : goal.invariant-loop-parsed
invariant-loop-parsed l = record {
  all : l.modules.items ++ l.parsed-iterator.rest.items ≡ l.fn.source.modules.items;
  len : vec_len l.modules ≡ length l.modules.items;
  places : ArePlaces l.places.entries (map (λ m. m.name) l.modules.items);
}
