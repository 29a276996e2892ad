use Rattle.std.proofs.Common.{rules, ◌≡◌, ℕ, List, [], length, map, vec_items, sym, ap, ◌∙◌, subst, subst₂, arith}
use Rattle.bb_net.specs.declared.cell.Cell.{Cell}
use Rattle.bb_net.specs.Values.{free_bit, flat, bit_of}
use Rattle.bb_tern.specs.Inside.Lanes.{AreWords, HasBits, pattern_at}
use Rattle.bb_tern.proofs.Compared.{overwritten}
use Rattle.bb_tern.proofs.Hits.{bits_of_cells}
use Rattle.bb_tern.proofs.comparing.words.Goals as goal

pub returns-clause-bits : goal.returns-clause-bits
returns-clause-bits c = λ k inside.
    let net = c.args.net.now in
    let x = pattern_at (map vec_items c.args.patterns.now) k in
    let all_ins : c.in_ok-ins.ins.len ≡ length c.in_ok-ins.ins.items = search rules in
    let all_out : c.in_ok-out.out.len ≡ length c.in_ok-out.out.items = search rules in
    let ins : c.deref.result.now ≡ c.pack.new.ins = c.deref.ensures.value ∙ overwritten c.pack.new.ins c.in_ok-ins.ins.items c.in_ok-ins.ins.len (c.pack.ensures.len ∙ ap length c.deref_mut.ensures.value) all_ins in
    let words : AreWords net.cells c.pack.new.ins c.write_words.new.out (length net.cells) = subst₂ (λ (cells : List Cell) (ws : List ℕ). AreWords cells ws c.write_words.new.out (length cells)) c.cells-cells.ensures.cells ins c.write_words.ensures.written in
    subst (λ (ws : List ℕ). HasBits ws (length net.cells) k (bit_of (flat net x []))) (sym (overwritten c.write_words.new.out c.in_ok-out.out.items c.in_ok-out.out.len (c.write_words.ensures.len ∙ ap length c.deref_mut-2.ensures.value) all_out))
    (words k x (bit_of (flat net x [])) (omega (arith, inside, c.requires.count)) (c.pack.ensures.packed k inside) (bits_of_cells net x (c.value_exists.ensures net x (free_bit net.boxes []) c.cells-cells.ensures.kept.ordered)))
