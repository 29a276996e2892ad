use Rattle.std.proofs.Common.{◌≡◌, ◌++◌, ◌+◌, ℕ, ◌∙◌, ap, subst}
use Rattle.std.specs.Result.{OnOk}
use Rattle.bb_names.specs.Inside.Checked.{module_facts, syntax}
use Rattle.bb_names.specs.Ranges.{place_of, distance}
use Rattle.bb_expr.specs.Inside.Fit.{ranges_in}
use Rattle.bb_design.specs.NetBits.{bits_from}
use Rattle.bb_blast.specs.Inside.ModuleTemplates.{AreBitsIn}
use Rattle.bb_blast.proofs.left_bits.add_selected.Goals as goal

pub returns : goal.returns
returns c =
    let m = syntax (module_facts c.args.scope.now) in
    let place : c.place_of-place.result ≡ place_of (ranges_in (module_facts c.args.scope.now) c.args.name.now) c.args.left = c.place_of-place.ensures.place ∙ ap (λ r. place_of r c.args.left) c.net_range.ensures.range in
    record {
      bits = λ before are. subst (λ (k : ℕ). OnOk c.add_bits.result (AreBitsIn m c.add_bits.new.numbers.items (λ s. before s ++ bits_from s.path c.args.name.now k (distance c.args.left c.args.right + 1)))) place (subst (λ (n : ℕ). OnOk c.add_bits.result (AreBitsIn m c.add_bits.new.numbers.items (λ s. before s ++ bits_from s.path c.args.name.now c.place_of-place.result (n + 1)))) c.abs_diff-count.ensures (c.add_bits.ensures.bits before are));
    }
