use Rattle.std.proofs.Common.{◌≡◌, ◌++◌, ℕ, ◌∙◌, ap, subst, arith}
use Rattle.std.specs.Result.{OnOk}
use Rattle.bb_names.specs.Inside.Checked.{module_facts, syntax}
use Rattle.bb_names.specs.Ranges.{range_width}
use Rattle.bb_expr.specs.Inside.Fit.{ranges_in}
use Rattle.bb_design.specs.NetBits.{bits_from}
use Rattle.bb_blast.specs.Inside.ModuleTemplates.{AreBitsIn}
use Rattle.bb_blast.proofs.LeftBits.{start_fits}
use Rattle.bb_blast.proofs.left_bits.add_net.Goals as goal

pub range_width-count-requires : goal.range_width-count-requires
range_width-count-requires c =
    let fits = start_fits (module_facts c.args.scope.now) c.args.starts.now c.requires.nets c.requires.starts c.args.name.now c.requires.has c.requires.has.place c.requires.has.kept in
    record { few = omega (arith, fits, ap range_width c.net_range.ensures.range) }

pub returns : goal.returns
returns c =
    let m = syntax (module_facts c.args.scope.now) in
    let count : c.range_width-count.result ≡ range_width (ranges_in (module_facts c.args.scope.now) c.args.name.now) = c.range_width-count.ensures.width ∙ ap range_width c.net_range.ensures.range in
    record {
      bits = λ before are. subst (λ (n : ℕ). OnOk c.add_bits.result (AreBitsIn m c.add_bits.new.numbers.items (λ s. before s ++ bits_from s.path c.args.name.now 0 n))) count (c.add_bits.ensures.bits before are);
    }
