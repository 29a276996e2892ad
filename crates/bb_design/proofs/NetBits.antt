-- Nets have as many bits as they are wide.
use Rattle.std.proofs.Common.{◌≡◌, ◌∙◌, ◌+◌, ◌∷◌, List, [], length, refl, sym, ap₂}
use Rattle.std.specs.Prelude.{flat_map, sum_by}
use Rattle.std.specs.List.{range_with_len}
use Rattle.std.proofs.lemmas.List.{length-map}
use Rattle.std.proofs.lemmas.List.Sums.{sum_by-cons}
use Rattle.bb_names.specs.declared.net.NetInfo.{NetInfo}
use Rattle.bb_names.specs.Ranges.{range_width}
use Rattle.bb_design.specs.Hierarchy.{Path}
use Rattle.bb_design.specs.NetBits.{bits_of_net}
use Rattle.std.proofs.lemmas.List.FromFn.{length-range_with_len}
use Rattle.std.proofs.lemmas.List.Concat.{length-flat_map}

pub bits_long : (path : Path) (nets : List NetInfo) → length (flat_map (bits_of_net path) nets) ≡ sum_by (λ net. range_width net.range) nets
bits_long path nets = length-flat_map (bits_of_net path) nets ∙ same nets
  where
    one : (net : NetInfo) → length (bits_of_net path net) ≡ range_width net.range
    one net = length-map (range_with_len 0 (range_width net.range)) _ ∙ length-range_with_len 0 (range_width net.range)

    same : (all : List NetInfo) → sum_by (λ net. length (bits_of_net path net)) all ≡ sum_by (λ net. range_width net.range) all
    same [] = refl
    same (net ∷ all) = sum_by-cons (λ net. length (bits_of_net path net)) net all ∙ ap₂ ◌+◌ (one net) (same all) ∙ sym (sum_by-cons (λ net. range_width net.range) net all)
