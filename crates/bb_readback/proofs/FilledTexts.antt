-- The filled text reads as the module that its lines say.
use Rattle.std.proofs.Common.{◌++◌, map}
use Rattle.bb_lex.specs.Laws.{ReadPiecesAreLongest}
use Rattle.bb_fill.specs.Words.{maximum, leading, stem_of, texts_of}
use Rattle.bb_readback.specs.Laws.{FilledTextsAreRead}
use Rattle.bb_readback.proofs.FilledLines.{inner_lines, filled_inner, ports_good}
use Rattle.bb_readback.proofs.Reading.{lines_read}
use Rattle.bb_readback.proofs.Stems.{is_stem}

pub filled_texts_are_read : ReadPiecesAreLongest → FilledTextsAreRead
filled_texts_are_read law f tables ready clocks =
    lines_read law (stem_of f) (is_stem (maximum (map leading (texts_of f)))) (f.ins ++ f.outs) (inner_lines f tables)
    (ports_good f tables ready.flat ready.fit) (filled_inner f tables ready.flat ready.fit clocks)
