use Rattle.std.proofs.Common.{◌≡◌, subst, ap, ◌∙◌, IfOk}
use Rattle.bb_bits.specs.Bits.{xor}
use Rattle.bb_bits.specs.Truth.{Truth, joined_tables}
use Rattle.bb_net.specs.Netlists.{Netlist}
use Rattle.bb_uniq.specs.Inside.Meaning.{truth_of, Adds, IsTooMany}
use Rattle.bb_sym.specs.Functions.{inputs_first, is_wrong}
use Rattle.bb_sym.specs.Plain.{table}
use Rattle.bb_sym.proofs.WrongTables.{wrong_table}
use Rattle.bb_sym.proofs.differences.wrong_output.Goals as goal

table_is : (c : goal.After-xor) → joined_tables xor (truth_of c.args.d.now.store c.index.result.now.0) (truth_of c.args.d.now.store c.index-2.result.now.0) ≡ table c.args.d.now.store.vars (is_wrong c.args.pair.now.spec c.args.pair.now.imp c.args.j)
table_is c =
    wrong_table c.args.d.now.store (inputs_first c.args.pair.now.imp) c.args.pair.now c.spec.ensures.kept c.args.made.now.spec.items c.args.made.now.imp.items c.requires.made c.args.j c.requires.j c.outs.result.now c.outs-2.result.now
    (c.outs.ensures.outs ∙ ap (λ (net : Netlist). net.outs) c.spec.ensures.spec) (c.outs-2.ensures.outs ∙ ap (λ (net : Netlist). net.outs) c.imp.ensures.imp) c.index.result.now c.index-2.result.now c.index.ensures c.index-2.ensures

pub returns-clause-ok : goal.returns-clause-ok
returns-clause-ok c = subst (λ (t : Truth). IfOk c.xor.result (λ r. Adds c.args.d.now.store c.xor.new.self.store t r.0)) (table_is c) c.xor.ensures.ok

pub returns-clause-full : goal.returns-clause-full
returns-clause-full c = λ full. subst (IsTooMany c.args.d.now.store) (table_is c) (c.xor.ensures.full full)
