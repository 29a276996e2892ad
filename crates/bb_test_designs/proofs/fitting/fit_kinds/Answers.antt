use Rattle.std.proofs.Common.{◌≡◌, ◌<◌, ℕ, [], length, get_or, sym, ap, subst, ◌∙◌, arith}
use Rattle.std.proofs.lemmas.List.{get_or-map, length-map}
use Rattle.bb_bits.specs.Tables.{TableBits, HasAllBits}
use Rattle.bb_net.specs.Kinds.{per_box}
use Rattle.bb_net.specs.Values.{table_at}
use Rattle.bb_test_designs.proofs.fitting.fit_kinds.Goals as goal

pub returns : goal.returns
returns c = λ yes.
    let kinds = c.args.kinds.now in
    let tables = c.args.tables.now in
    let boxes = c.args.boxes.now in
    let no_table : TableBits = record { inputs = 0; outputs = 0; rows = [] } in
    let at : (b : ℕ) → b < length boxes → table_at (per_box kinds tables) b ≡ table_at tables (get_or kinds b 0) = λ b h. get_or-map (table_at tables) kinds b 0 no_table (omega (arith, h, c.if-kinds-boxes.false)) in
    let looked : (b : ℕ) → b < length boxes → b < c.loop-b.b = λ b h. omega (arith, h, c.loop-b-test.false, c.if-kinds-boxes.false) in
    record {
      count = length-map kinds (table_at tables) ∙ c.if-kinds-boxes.false;
      inputs = λ b h. ap (λ (t : TableBits). t.inputs) (at b h) ∙ (c.loop-b.invariant b (looked b h)).1;
      outputs = λ b h. ap (λ (t : TableBits). t.outputs) (at b h) ∙ (c.loop-b.invariant b (looked b h)).2;
      whole = λ b h. subst HasAllBits (sym (at b h)) (c.tables_have_all_bits.ensures (get_or kinds b 0) no_table (c.loop-b.invariant b (looked b h)).0).whole;
    }
