use Rattle.std.proofs.Common.{rules, IsErrOf, ◌≡◌, ◌+◌, ◌-◌, ◌&&◌, ◌||◌, length, ap, subst, arith}
use Rattle.bb_bits.specs.Truth.{quantified_block}
use Rattle.bb_uniq.specs.Inside.Meaning.{truth_of}
use Rattle.bb_sym.specs.declared.fault.RungFault.TheVariants.{Nodes}
use Rattle.bb_sym.specs.Inside.Made.{Makes, AreTooMany, Represents}
use Rattle.bb_sym.specs.Plain.{block_functions}
use Rattle.bb_input.proofs.ChoiceSteps.{box_refused_first, box_refused_later, box_made, box_occurs}
use Rattle.bb_input.proofs.choosing.quantify_box.Goals as goal

pub returns-in_err-r-clause-nodes : goal.returns-in_err-r-clause-nodes
returns-in_err-r-clause-nodes c =
    let old = c.args.d.now.store in
    let box = c.args.pins.now in
    let t = truth_of old c.args.f.0 in
    let from : c.args.start ≡ (c.args.start - length box.ins) + length box.ins = omega (arith, c.requires.before) in
    let reported : IsErrOf c.from_residual.result Nodes → AreTooMany old (block_functions ◌&&◌ c.args.start (length c.outs.result.now) t) = search rules in
    λ full. box_refused_first c.making.ensures c.args.start (c.args.start - length box.ins) box from old t
    (subst (λ n. AreTooMany old (block_functions ◌&&◌ c.args.start n t)) (ap length c.outs.ensures.outs) (reported full))

pub returns-in_err-r-2-clause-nodes : goal.returns-in_err-r-2-clause-nodes
returns-in_err-r-2-clause-nodes c =
    let old = c.args.d.now.store in
    let mid = c.quantify_block.new.d.store in
    let box = c.args.pins.now in
    let t = truth_of old c.args.f.0 in
    let first = c.args.start - length box.ins in
    let from : c.args.start ≡ first + length box.ins = omega (arith, c.requires.before) in
    let ins = ap length c.ins.ensures.ins in
    let outs = ap length c.outs.ensures.outs in
    let made = subst (λ n. Makes old mid (block_functions ◌&&◌ c.args.start n t)) outs c.in_ok-r.ensures.makes in
    let occur = subst (λ n. Represents mid (quantified_block ◌&&◌ c.args.start n t) c.in_ok-r.r) outs c.in_ok-r.ensures.result in
    let reported : IsErrOf c.from_residual-in_err-r-2.result Nodes → AreTooMany mid (block_functions ◌||◌ (c.args.start - length c.ins.result.now) (length c.ins.result.now) (truth_of mid c.in_ok-r.r.0)) = search rules in
    λ full. box_refused_later c.making.ensures c.args.start first box from old mid t c.in_ok-r.r made occur
    (subst (λ n. AreTooMany mid (block_functions ◌||◌ (c.args.start - n) n (truth_of mid c.in_ok-r.r.0))) ins (reported full))

pub returns-clause-result : goal.returns-clause-result
returns-clause-result c =
    let old = c.args.d.now.store in
    let mid = c.quantify_block.new.d.store in
    let box = c.args.pins.now in
    let t = truth_of old c.args.f.0 in
    let first = c.args.start - length box.ins in
    let from : c.args.start ≡ first + length box.ins = omega (arith, c.requires.before) in
    let ins = ap length c.ins.ensures.ins in
    let outs = ap length c.outs.ensures.outs in
    let made = subst (λ n. Makes old mid (block_functions ◌&&◌ c.args.start n t)) outs c.in_ok-r.ensures.makes in
    let occur = subst (λ n. Represents mid (quantified_block ◌&&◌ c.args.start n t) c.in_ok-r.r) outs c.in_ok-r.ensures.result in
    let new = c.quantify_block-2.new.d.store in
    box_occurs c.making.ensures c.args.start first box from old mid t c.in_ok-r.r made occur new c.in_ok-r-2.r
    (subst (λ n. Represents new (quantified_block ◌||◌ (c.args.start - n) n (truth_of mid c.in_ok-r.r.0)) c.in_ok-r-2.r) ins c.in_ok-r-2.ensures.result)

pub returns-clause-makes : goal.returns-clause-makes
returns-clause-makes c =
    let old = c.args.d.now.store in
    let mid = c.quantify_block.new.d.store in
    let box = c.args.pins.now in
    let t = truth_of old c.args.f.0 in
    let first = c.args.start - length box.ins in
    let from : c.args.start ≡ first + length box.ins = omega (arith, c.requires.before) in
    let ins = ap length c.ins.ensures.ins in
    let outs = ap length c.outs.ensures.outs in
    let made = subst (λ n. Makes old mid (block_functions ◌&&◌ c.args.start n t)) outs c.in_ok-r.ensures.makes in
    let occur = subst (λ n. Represents mid (quantified_block ◌&&◌ c.args.start n t) c.in_ok-r.r) outs c.in_ok-r.ensures.result in
    let new = c.quantify_block-2.new.d.store in
    box_made c.making.ensures c.args.start first box from old mid t c.in_ok-r.r made occur new
    (subst (λ n. Makes mid new (block_functions ◌||◌ (c.args.start - n) n (truth_of mid c.in_ok-r.r.0))) ins c.in_ok-r-2.ensures.makes)
