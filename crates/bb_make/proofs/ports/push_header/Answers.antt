use Rattle.std.proofs.Common.{◌∙◌, ◌++◌, ap, codes}
use Rattle.bb_make.specs.Adders.{inputs, adder_outputs}
use Rattle.bb_make.specs.Commas.{comma_separated}
use Rattle.bb_make.proofs.Joined.{header_by_pieces}
use Rattle.bb_make.proofs.ports.push_header.Goals as goal

pub returns : goal.returns
returns c =
    let opened = c.in_ok-extend_from_slice.ensures.items in
    let ins = c.in_ok-push_inputs.ensures.text ∙ ap (λ t. t ++ comma_separated (inputs c.args.n)) opened in
    let comma = c.in_ok-extend_from_slice-2.ensures.items ∙ ap (λ t. t ++ codes ",") ins in
    let outs = c.in_ok-push_outputs.ensures.text ∙ ap (λ t. t ++ comma_separated (adder_outputs c.args.n)) comma in
    let closed = c.in_ok-extend_from_slice-3.ensures.items ∙ ap (λ t. t ++ codes ");\ninput ") outs in
    let ins_again = c.in_ok-push_inputs-2.ensures.text ∙ ap (λ t. t ++ comma_separated (inputs c.args.n)) closed in
    let between = c.in_ok-extend_from_slice-4.ensures.items ∙ ap (λ t. t ++ codes ";\noutput ") ins_again in
    let outs_again = c.in_ok-push_outputs-2.ensures.text ∙ ap (λ t. t ++ comma_separated (adder_outputs c.args.n)) between in
    let end = c.in_ok-extend_from_slice-5.ensures.items ∙ ap (λ t. t ++ codes ";\n") outs_again in
    record { text = end ∙ header_by_pieces c.args.n c.args.text.now.items }
