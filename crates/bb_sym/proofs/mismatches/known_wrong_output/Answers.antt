use Rattle.std.proofs.Common.{◌≡◌, List, slice_index, ap, subst, ◌∙◌, IfOk, OnOk}
use Rattle.bb_bits.specs.Truth.{Truth}
use Rattle.bb_net.specs.Netlists.{Netlist}
use Rattle.bb_uniq.specs.Inside.Meaning.{truth_of}
use Rattle.bb_sym.specs.Functions.{wanted}
use Rattle.bb_sym.specs.Inside.Made.{Makes, AreTooMany, Represents}
use Rattle.bb_sym.specs.Inside.Rails.{rails_of, known_rails}
use Rattle.bb_sym.proofs.MismatchTables.{wanted_is, known_is, mismatch_is, mismatches_are}
use Rattle.bb_sym.proofs.mismatches.known_wrong_output.Goals as goal

wanted_at : (c : goal.After-wrong_where_known) → truth_of c.args.d.now.store c.index-wanted.result.now.0 ≡ wanted c.args.pair.now.spec c.args.pair.now.imp c.args.j
wanted_at c =
    wanted_is c.args.d.now.store c.args.pair.now c.spec.ensures.kept c.args.made.now.spec.items c.args.made.now.imp.items c.requires.made c.args.j c.requires.j c.outs.result.now c.outs-2.result.now
    (c.outs.ensures.outs ∙ ap (λ (net : Netlist). net.outs) c.spec.ensures.spec) (c.outs-2.ensures.outs ∙ ap (λ (net : Netlist). net.outs) c.imp.ensures.imp) c.index-wanted.result.now c.index-wanted.ensures

known_at : (c : goal.After-wrong_where_known) → rails_of c.args.d.now.store c.index-known.result.now ≡ known_rails c.args.pair.now.imp (slice_index c.args.pair.now.imp.outs c.args.j)
known_at c =
    known_is c.args.d.now.store c.args.pair.now c.spec.ensures.kept c.args.made.now.spec.items c.args.made.now.imp.items c.requires.made c.args.j c.requires.j c.outs.result.now c.outs-2.result.now
    (c.outs.ensures.outs ∙ ap (λ (net : Netlist). net.outs) c.spec.ensures.spec) (c.outs-2.ensures.outs ∙ ap (λ (net : Netlist). net.outs) c.imp.ensures.imp) c.index-known.result.now c.index-known.ensures

pub returns-clause-result : goal.returns-clause-result
returns-clause-result c =
    subst (λ (t : Truth). IfOk c.wrong_where_known.result (Represents c.wrong_where_known.new.d.store t)) (mismatch_is c.args.pair.now.spec c.args.pair.now.imp c.args.j (known_at c) (wanted_at c)) c.wrong_where_known.ensures.result

pub returns-clause-makes : goal.returns-clause-makes
returns-clause-makes c =
    subst (λ (ts : List Truth). OnOk c.wrong_where_known.result (Makes c.args.d.now.store c.wrong_where_known.new.d.store ts)) (mismatches_are c.args.pair.now.spec c.args.pair.now.imp c.args.j (known_at c) (wanted_at c)) c.wrong_where_known.ensures.makes

pub returns-clause-nodes : goal.returns-clause-nodes
returns-clause-nodes c = λ full. subst (AreTooMany c.args.d.now.store) (mismatches_are c.args.pair.now.spec c.args.pair.now.imp c.args.j (known_at c) (wanted_at c)) (c.wrong_where_known.ensures.nodes full)
