use Rattle.std.proofs.Common.{◌∙◌, ◌+◌, ap, map, max, replicate}
use Rattle.bb_net.specs.declared.flat.Reg.{Reg}
use Rattle.bb_fill.specs.Words.{maximum, leading}
use Rattle.bb_fill.proofs.StemLemmas.{stem_is}
use Rattle.bb_fill.proofs.stems.stem_length.Goals as goal

pub returns : goal.returns
returns c =
    let f = c.args.flat.now in
    record {
      stem = ap (λ n. replicate (n + 1) 95)
          (stem_is f.ins f.outs f.regs c.most_of-most.result c.most_of_registers-most.result c.most_of.result
          (c.most_of-most.ensures.most ∙ ap (λ l. max 0 (maximum (map leading l))) c.ins.ensures.ins)
          (c.most_of_registers-most.ensures.most ∙ ap (λ l. max c.most_of-most.result (maximum (map (λ (r : Reg). leading r.text) l))) c.regs.ensures.regs)
          (c.most_of.ensures.most ∙ ap (λ l. max c.most_of_registers-most.result (maximum (map leading l))) c.outs.ensures.outs));
    }
