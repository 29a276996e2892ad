use Rattle.std.proofs.Common.{◌+◌, ◌++◌, sym, subst, arith}
use Rattle.std.specs.List.{range_with_len, slice_index_or}
use Rattle.std.proofs.lemmas.Result.{on_ok_weaker}
use Rattle.bb_names.specs.Inside.Checked.{module_facts, syntax}
use Rattle.bb_design.specs.NetBits.{bits_from}
use Rattle.bb_blast.specs.Inside.ModuleTemplates.{AreBitsIn}
use Rattle.bb_blast.proofs.LeftBits.{start_fits, bits_at, bits_both}
use Rattle.bb_blast.proofs.left_bits.add_bits.Goals as goal

pub overflow_add-starts : goal.overflow_add-starts
overflow_add-starts c = omega (arith, start_fits (module_facts c.args.scope.now) c.args.starts.now c.requires.nets c.requires.starts c.args.name.now c.requires.has c.net_place-net.result c.net_place-net.ensures.place, c.requires.within)

pub add_run-requires : goal.add_run-requires
add_run-requires c = record { room = omega (arith, start_fits (module_facts c.args.scope.now) c.args.starts.now c.requires.nets c.requires.starts c.args.name.now c.requires.has c.net_place-net.result c.net_place-net.ensures.place, c.requires.within) }

pub returns : goal.returns
returns c =
    let m = syntax (module_facts c.args.scope.now) in
    let run = range_with_len (slice_index_or c.args.starts.now c.net_place-net.result 0 + c.args.place) c.args.count in
    record {
      bits = λ before are. on_ok_weaker c.add_run.result (λ e. subst (λ l. AreBitsIn m l (λ s. before s ++ bits_from s.path c.args.name.now c.args.place c.args.count)) (sym e)
          (bits_both m c.args.numbers.now.items run before (λ s. bits_from s.path c.args.name.now c.args.place c.args.count) are
          (bits_at (module_facts c.args.scope.now) c.args.starts.now c.requires.nets c.requires.starts c.args.name.now c.requires.has c.net_place-net.result c.net_place-net.ensures.place c.args.place c.args.count c.requires.within)))
          c.add_run.ensures.run;
    }
