use Rattle.std.proofs.Common.{rules, IsErrOf, ℕ, ◌++◌, List, length, map, slice_index, subst}
use Rattle.std.specs.List.{range_with_len}
use Rattle.bb_bits.specs.Truth.{Truth}
use Rattle.bb_sym.specs.declared.fault.RungFault.TheVariants.{Nodes}
use Rattle.bb_sym.specs.Plain.{Function, cell_bit, without_pins, is_wrong_at, one_of, first_of, table, tables}
use Rattle.bb_sym.specs.Inside.Made.{Makes, AreTooMany, Represents}
use Rattle.bb_sym.proofs.PickedRefs.{picks_are, wanted_refs, given_refs, wanted_count, given_count, wanted_occur, given_occur}
use Rattle.bb_sym.proofs.differences.some_wrong.Goals as goal

pub some_differ-requires-clause-fs : goal.some_differ-requires-clause-fs
some_differ-requires-clause-fs c =
    let wanted = picks_are _ _ _ _ _ _ c.deref-3.ensures.value c.in_ok-wanted.ensures c.deref.ensures.value c.outs.ensures.outs in
    let given = picks_are _ _ _ _ _ _ c.deref-4.ensures.value c.in_ok-given.ensures c.deref-2.ensures.value c.outs-2.ensures.outs in
    wanted_refs _ _ _ c.outs.ensures.kept c.outs-2.ensures.kept c.requires.outputs _ _ c.requires.made _ _ wanted given

pub some_differ-requires-clause-gs : goal.some_differ-requires-clause-gs
some_differ-requires-clause-gs c =
    let wanted = picks_are _ _ _ _ _ _ c.deref-3.ensures.value c.in_ok-wanted.ensures c.deref.ensures.value c.outs.ensures.outs in
    let given = picks_are _ _ _ _ _ _ c.deref-4.ensures.value c.in_ok-given.ensures c.deref-2.ensures.value c.outs-2.ensures.outs in
    given_refs _ _ _ c.outs.ensures.kept c.outs-2.ensures.kept c.requires.outputs _ _ c.requires.made _ _ wanted given

pub some_differ-requires-clause-count : goal.some_differ-requires-clause-count
some_differ-requires-clause-count c =
    let wanted = picks_are _ _ _ _ _ _ c.deref-3.ensures.value c.in_ok-wanted.ensures c.deref.ensures.value c.outs.ensures.outs in
    let given = picks_are _ _ _ _ _ _ c.deref-4.ensures.value c.in_ok-given.ensures c.deref-2.ensures.value c.outs-2.ensures.outs in
    given_count _ _ _ c.outs.ensures.kept c.outs-2.ensures.kept c.requires.outputs _ _ c.requires.made _ _ wanted given

-- where so many functions are 1, and where one of the first is
abbrev all : ℕ → (ℕ → Function) → ℕ → List Truth
all n f count = tables n (map f (range_with_len 0 count)) ++ tables n (map (first_of f) (range_with_len 0 count))

pub returns-in_err-any-clause-nodes : goal.returns-in_err-any-clause-nodes
returns-in_err-any-clause-nodes c = λ r have.
    let wanted = picks_are _ _ _ _ _ _ c.deref-3.ensures.value c.in_ok-wanted.ensures c.deref.ensures.value c.outs.ensures.outs in
    let given = picks_are _ _ _ _ _ _ c.deref-4.ensures.value c.in_ok-given.ensures c.deref-2.ensures.value c.outs-2.ensures.outs in
    let s = c.args.d.now.store in
    let f = is_wrong_at r c.args.spec.now c.args.imp.now in
    let more = c.in_err-any.ensures.nodes (λ j. cell_bit (without_pins r) c.args.spec.now (slice_index c.args.spec.now.outs j)) (λ j. cell_bit r c.args.imp.now (slice_index c.args.imp.now.outs j))
    (wanted_occur _ _ _ c.outs.ensures.kept c.outs-2.ensures.kept c.requires.outputs _ _ c.requires.made _ _ wanted given r have) (given_occur _ _ _ c.outs.ensures.kept c.outs-2.ensures.kept c.requires.outputs _ _ c.requires.made _ _ wanted given r have) in
    let reported : IsErrOf c.from_residual-in_err-any.result Nodes → AreTooMany s (all s.vars f (length c.deref-3.result.now)) = search (rules, more) in
    λ full. subst (λ count. AreTooMany s (all s.vars f count)) (wanted_count _ _ _ c.outs.ensures.kept c.outs-2.ensures.kept c.requires.outputs _ _ c.requires.made _ _ wanted given) (reported full)

pub returns-clause-result : goal.returns-clause-result
returns-clause-result c = λ r have.
    let wanted = picks_are _ _ _ _ _ _ c.deref-3.ensures.value c.in_ok-wanted.ensures c.deref.ensures.value c.outs.ensures.outs in
    let given = picks_are _ _ _ _ _ _ c.deref-4.ensures.value c.in_ok-given.ensures c.deref-2.ensures.value c.outs-2.ensures.outs in
    let s = c.args.d.now.store in
    let f = is_wrong_at r c.args.spec.now c.args.imp.now in
    subst (λ count. Represents c.some_differ.new.d.store (table s.vars (one_of f count)) c.in_ok-any.any) (wanted_count _ _ _ c.outs.ensures.kept c.outs-2.ensures.kept c.requires.outputs _ _ c.requires.made _ _ wanted given)
    (c.in_ok-any.ensures.result (λ j. cell_bit (without_pins r) c.args.spec.now (slice_index c.args.spec.now.outs j)) (λ j. cell_bit r c.args.imp.now (slice_index c.args.imp.now.outs j))
    (wanted_occur _ _ _ c.outs.ensures.kept c.outs-2.ensures.kept c.requires.outputs _ _ c.requires.made _ _ wanted given r have) (given_occur _ _ _ c.outs.ensures.kept c.outs-2.ensures.kept c.requires.outputs _ _ c.requires.made _ _ wanted given r have))

pub returns-clause-makes : goal.returns-clause-makes
returns-clause-makes c = λ r have.
    let wanted = picks_are _ _ _ _ _ _ c.deref-3.ensures.value c.in_ok-wanted.ensures c.deref.ensures.value c.outs.ensures.outs in
    let given = picks_are _ _ _ _ _ _ c.deref-4.ensures.value c.in_ok-given.ensures c.deref-2.ensures.value c.outs-2.ensures.outs in
    let s = c.args.d.now.store in
    let f = is_wrong_at r c.args.spec.now c.args.imp.now in
    subst (λ count. Makes s c.some_differ.new.d.store (all s.vars f count)) (wanted_count _ _ _ c.outs.ensures.kept c.outs-2.ensures.kept c.requires.outputs _ _ c.requires.made _ _ wanted given)
    (c.in_ok-any.ensures.makes (λ j. cell_bit (without_pins r) c.args.spec.now (slice_index c.args.spec.now.outs j)) (λ j. cell_bit r c.args.imp.now (slice_index c.args.imp.now.outs j))
    (wanted_occur _ _ _ c.outs.ensures.kept c.outs-2.ensures.kept c.requires.outputs _ _ c.requires.made _ _ wanted given r have) (given_occur _ _ _ c.outs.ensures.kept c.outs-2.ensures.kept c.requires.outputs _ _ c.requires.made _ _ wanted given r have))
