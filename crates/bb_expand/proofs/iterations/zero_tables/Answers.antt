use Rattle.std.proofs.Common.{subst, sym, arith}
use Rattle.bb_net.specs.Kinds.{representatives}
use Rattle.bb_net.specs.Values.{FitBoxes}
use Rattle.bb_expand.proofs.TableBits.{read_fit}
use Rattle.bb_expand.proofs.iterations.zero_tables.Goals as goal

pub returns : goal.returns
returns c =
    let pair = c.args.pair.now in
    let boxes = representatives pair.kinds pair.imp.boxes in
    let fit : FitBoxes c.in_ok-tables.tables.items boxes =
    subst (λ tables. FitBoxes tables boxes) (sym c.in_ok-tables.ensures.tables) (read_fit boxes c.deref.result.now (omega (arith, c.deref.ensures.len, c.in_ok-zeros.ensures.len, c.requires.bits))) in
    record {
      fit = fit;
      spread = c.laws_below.ensures.sharing.fit pair.kinds pair.imp.boxes c.in_ok-tables.tables.items c.imp.ensures.kept.beside.kinds fit;
    }
