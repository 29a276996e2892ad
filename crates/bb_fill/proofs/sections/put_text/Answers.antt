use Rattle.std.proofs.Common.{◌∙◌, ℕ, List, ap, replicate}
use Rattle.std.specs.List.{flat_map}
use Rattle.bb_bits.specs.Tables.{TableBits}
use Rattle.bb_net.specs.Kinds.{per_box}
use Rattle.bb_fill.specs.Lines.{line_text}
use Rattle.bb_fill.specs.Filled.{filled_lines}
use Rattle.bb_fill.proofs.TextBuffers.{both, same}
use Rattle.bb_fill.proofs.TextLists.{sections_text}
use Rattle.bb_fill.proofs.sections.put_text.Goals as goal

pub returns : goal.returns
returns c =
    let f = c.args.flat.now in
    let stem : List ℕ = replicate c.args.stem 95 in
    let tables : List TableBits = per_box c.args.kinds.now c.args.tables.now in
    record {
      adds = same (sections_text stem f tables ∙ ap (λ u. flat_map (line_text u) (filled_lines f tables)) c.requires.stem)
          (both (both (both (both (both (c.put_header.ensures.adds stem) (c.put_all_declarations.ensures.adds stem)) c.put_cells.ensures.adds) c.put_outputs.ensures.adds) c.put_states.ensures.adds) c.put.ensures.adds);
    }
