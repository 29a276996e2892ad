use Rattle.std.proofs.Common.{rules, IsErrOf, ◌≡◌, ◌<◌, ◌++◌, ℕ, List, length, map, sym, ap, ◌∙◌, subst₂}
use Rattle.std.specs.Prelude.{All}
use Rattle.std.specs.List.{range_with_len}
use Rattle.bb_bits.specs.Truth.{Truth}
use Rattle.bb_net.specs.Netlists.{Netlist}
use Rattle.bb_uniq.specs.declared.store.Ref.{Ref}
use Rattle.bb_sym.specs.declared.fault.RungFault.TheVariants.{Nodes}
use Rattle.bb_sym.specs.Inside.Made.{Makes, AreTooMany, Represents, ref_at}
use Rattle.bb_sym.specs.Plain.{Function, table, tables, one_of, first_of}
use Rattle.bb_input.specs.InputFunctions.{in_places, is_missed}
use Rattle.bb_input.specs.Inside.Order.{in_variables}
use Rattle.bb_input.proofs.MissedParts.{bits, cells, variables_there, places_there, given_occur, there_occur, given_refs, there_refs, pin_count_is, same_count, picks_are}
use Rattle.bb_input.proofs.missing.some_missed.Goals as goal

pub picked-requires : goal.picked-requires
picked-requires c =
    let imp = c.args.pair.now.imp in
    let variables = c.deref-2.ensures.value ∙ (c.in_ok-variables.ensures ∙ ap (in_variables 0) (c.boxes.ensures.boxes ∙ ap (λ (net : Netlist). net.boxes) c.imp-imp_net.ensures.imp)) in
    subst₂ (λ (refs : List Ref) (places : List ℕ). All (λ place. place < length refs) places) (sym c.deref.ensures.value) (sym variables) (variables_there c.functions.ensures c.making.ensures c.args.d.now.store c.args.pair.now c.imp-imp_net.ensures.kept c.requires.vars c.args.made.now.variables.items c.args.made.now.spec.items c.args.made.now.imp.items c.requires.count c.requires.variables c.requires.cells)

pub picked-requires-2 : goal.picked-requires-2
picked-requires-2 c =
    let imp = c.args.pair.now.imp in
    let places = c.deref-4.ensures.value ∙ (c.in_ok-places.ensures ∙ ap in_places (c.boxes-2.ensures.boxes ∙ ap (λ (net : Netlist). net.boxes) c.imp-imp_net.ensures.imp)) in
    subst₂ (λ (refs : List Ref) (places : List ℕ). All (λ place. place < length refs) places) (sym c.deref-3.ensures.value) (sym places) (places_there c.functions.ensures c.making.ensures c.args.d.now.store c.args.pair.now c.imp-imp_net.ensures.kept c.requires.vars c.args.made.now.variables.items c.args.made.now.spec.items c.args.made.now.imp.items c.requires.count c.requires.variables c.requires.cells)

pub some_differ-requires-clause-fs : goal.some_differ-requires-clause-fs
some_differ-requires-clause-fs c =
    let imp = c.args.pair.now.imp in
    let variables : c.in_ok-variables.variables.items ≡ in_variables 0 imp.boxes = c.in_ok-variables.ensures ∙ ap (in_variables 0) (c.boxes.ensures.boxes ∙ ap (λ (net : Netlist). net.boxes) c.imp-imp_net.ensures.imp) in
    let places : c.in_ok-places.places.items ≡ in_places imp.boxes = c.in_ok-places.ensures ∙ ap in_places (c.boxes-2.ensures.boxes ∙ ap (λ (net : Netlist). net.boxes) c.imp-imp_net.ensures.imp) in
    let fs = c.deref-5.result.now in
    let gs = c.deref-6.result.now in
    let given : fs ≡ map (ref_at c.args.made.now.variables.items) (in_variables 0 imp.boxes) =
    picks_are c.args.made.now.variables.items c.deref.result.now c.in_ok-given.given.items fs (in_variables 0 imp.boxes) c.deref-2.result.now c.in_ok-variables.variables.items c.deref-5.ensures.value c.in_ok-given.ensures c.deref.ensures.value c.deref-2.ensures.value variables in
    let there : gs ≡ map (ref_at c.args.made.now.imp.items) (in_places imp.boxes) =
    picks_are c.args.made.now.imp.items c.deref-3.result.now c.in_ok-there.there.items gs (in_places imp.boxes) c.deref-4.result.now c.in_ok-places.places.items c.deref-6.ensures.value c.in_ok-there.ensures c.deref-3.ensures.value c.deref-4.ensures.value places in
    given_refs c.functions.ensures c.making.ensures c.args.d.now.store c.args.pair.now c.imp-imp_net.ensures.kept c.requires.vars c.args.made.now.variables.items c.args.made.now.spec.items c.args.made.now.imp.items c.requires.count c.requires.variables c.requires.cells fs gs given there

pub some_differ-requires-clause-gs : goal.some_differ-requires-clause-gs
some_differ-requires-clause-gs c =
    let imp = c.args.pair.now.imp in
    let variables : c.in_ok-variables.variables.items ≡ in_variables 0 imp.boxes = c.in_ok-variables.ensures ∙ ap (in_variables 0) (c.boxes.ensures.boxes ∙ ap (λ (net : Netlist). net.boxes) c.imp-imp_net.ensures.imp) in
    let places : c.in_ok-places.places.items ≡ in_places imp.boxes = c.in_ok-places.ensures ∙ ap in_places (c.boxes-2.ensures.boxes ∙ ap (λ (net : Netlist). net.boxes) c.imp-imp_net.ensures.imp) in
    let fs = c.deref-5.result.now in
    let gs = c.deref-6.result.now in
    let given : fs ≡ map (ref_at c.args.made.now.variables.items) (in_variables 0 imp.boxes) =
    picks_are c.args.made.now.variables.items c.deref.result.now c.in_ok-given.given.items fs (in_variables 0 imp.boxes) c.deref-2.result.now c.in_ok-variables.variables.items c.deref-5.ensures.value c.in_ok-given.ensures c.deref.ensures.value c.deref-2.ensures.value variables in
    let there : gs ≡ map (ref_at c.args.made.now.imp.items) (in_places imp.boxes) =
    picks_are c.args.made.now.imp.items c.deref-3.result.now c.in_ok-there.there.items gs (in_places imp.boxes) c.deref-4.result.now c.in_ok-places.places.items c.deref-6.ensures.value c.in_ok-there.ensures c.deref-3.ensures.value c.deref-4.ensures.value places in
    there_refs c.functions.ensures c.making.ensures c.args.d.now.store c.args.pair.now c.imp-imp_net.ensures.kept c.requires.vars c.args.made.now.variables.items c.args.made.now.spec.items c.args.made.now.imp.items c.requires.count c.requires.variables c.requires.cells fs gs given there

pub some_differ-requires-clause-count : goal.some_differ-requires-clause-count
some_differ-requires-clause-count c =
    let imp = c.args.pair.now.imp in
    let variables : c.in_ok-variables.variables.items ≡ in_variables 0 imp.boxes = c.in_ok-variables.ensures ∙ ap (in_variables 0) (c.boxes.ensures.boxes ∙ ap (λ (net : Netlist). net.boxes) c.imp-imp_net.ensures.imp) in
    let places : c.in_ok-places.places.items ≡ in_places imp.boxes = c.in_ok-places.ensures ∙ ap in_places (c.boxes-2.ensures.boxes ∙ ap (λ (net : Netlist). net.boxes) c.imp-imp_net.ensures.imp) in
    let fs = c.deref-5.result.now in
    let gs = c.deref-6.result.now in
    let given : fs ≡ map (ref_at c.args.made.now.variables.items) (in_variables 0 imp.boxes) =
    picks_are c.args.made.now.variables.items c.deref.result.now c.in_ok-given.given.items fs (in_variables 0 imp.boxes) c.deref-2.result.now c.in_ok-variables.variables.items c.deref-5.ensures.value c.in_ok-given.ensures c.deref.ensures.value c.deref-2.ensures.value variables in
    let there : gs ≡ map (ref_at c.args.made.now.imp.items) (in_places imp.boxes) =
    picks_are c.args.made.now.imp.items c.deref-3.result.now c.in_ok-there.there.items gs (in_places imp.boxes) c.deref-4.result.now c.in_ok-places.places.items c.deref-6.ensures.value c.in_ok-there.ensures c.deref-3.ensures.value c.deref-4.ensures.value places in
    same_count c.functions.ensures c.making.ensures c.args.d.now.store c.args.pair.now c.imp-imp_net.ensures.kept c.requires.vars c.args.made.now.variables.items c.args.made.now.spec.items c.args.made.now.imp.items c.requires.count c.requires.variables c.requires.cells fs gs given there

-- over so many variables, so many functions and the folds of them
abbrev all : ℕ → (ℕ → Function) → ℕ → List Truth
all n f count = tables n (map f (range_with_len 0 count)) ++ tables n (map (first_of f) (range_with_len 0 count))

pub returns-in_err-any-clause-nodes : goal.returns-in_err-any-clause-nodes
returns-in_err-any-clause-nodes c =
    let imp = c.args.pair.now.imp in
    let variables : c.in_ok-variables.variables.items ≡ in_variables 0 imp.boxes = c.in_ok-variables.ensures ∙ ap (in_variables 0) (c.boxes.ensures.boxes ∙ ap (λ (net : Netlist). net.boxes) c.imp-imp_net.ensures.imp) in
    let places : c.in_ok-places.places.items ≡ in_places imp.boxes = c.in_ok-places.ensures ∙ ap in_places (c.boxes-2.ensures.boxes ∙ ap (λ (net : Netlist). net.boxes) c.imp-imp_net.ensures.imp) in
    let fs = c.deref-5.result.now in
    let gs = c.deref-6.result.now in
    let given : fs ≡ map (ref_at c.args.made.now.variables.items) (in_variables 0 imp.boxes) =
    picks_are c.args.made.now.variables.items c.deref.result.now c.in_ok-given.given.items fs (in_variables 0 imp.boxes) c.deref-2.result.now c.in_ok-variables.variables.items c.deref-5.ensures.value c.in_ok-given.ensures c.deref.ensures.value c.deref-2.ensures.value variables in
    let there : gs ≡ map (ref_at c.args.made.now.imp.items) (in_places imp.boxes) =
    picks_are c.args.made.now.imp.items c.deref-3.result.now c.in_ok-there.there.items gs (in_places imp.boxes) c.deref-4.result.now c.in_ok-places.places.items c.deref-6.ensures.value c.in_ok-there.ensures c.deref-3.ensures.value c.deref-4.ensures.value places in
    let s = c.args.d.now.store in
    let more = c.in_err-any.ensures.nodes (bits c.functions.ensures c.making.ensures c.args.d.now.store c.args.pair.now c.imp-imp_net.ensures.kept c.requires.vars c.args.made.now.variables.items c.args.made.now.spec.items c.args.made.now.imp.items c.requires.count c.requires.variables c.requires.cells) (cells c.functions.ensures c.making.ensures c.args.d.now.store c.args.pair.now c.imp-imp_net.ensures.kept c.requires.vars c.args.made.now.variables.items c.args.made.now.spec.items c.args.made.now.imp.items c.requires.count c.requires.variables c.requires.cells) (given_occur c.functions.ensures c.making.ensures c.args.d.now.store c.args.pair.now c.imp-imp_net.ensures.kept c.requires.vars c.args.made.now.variables.items c.args.made.now.spec.items c.args.made.now.imp.items c.requires.count c.requires.variables c.requires.cells fs gs given there) (there_occur c.functions.ensures c.making.ensures c.args.d.now.store c.args.pair.now c.imp-imp_net.ensures.kept c.requires.vars c.args.made.now.variables.items c.args.made.now.spec.items c.args.made.now.imp.items c.requires.count c.requires.variables c.requires.cells fs gs given there) in
    let reported : IsErrOf c.from_residual-in_err-any.result Nodes → AreTooMany s (all s.vars (is_missed imp) (length fs)) = search (rules, more) in
    λ full. subst₂ (λ n count. AreTooMany s (all n (is_missed imp) count)) (sym c.requires.vars) (pin_count_is c.functions.ensures c.making.ensures c.args.d.now.store c.args.pair.now c.imp-imp_net.ensures.kept c.requires.vars c.args.made.now.variables.items c.args.made.now.spec.items c.args.made.now.imp.items c.requires.count c.requires.variables c.requires.cells fs gs given there) (reported full)

pub returns-clause-result : goal.returns-clause-result
returns-clause-result c =
    let imp = c.args.pair.now.imp in
    let variables : c.in_ok-variables.variables.items ≡ in_variables 0 imp.boxes = c.in_ok-variables.ensures ∙ ap (in_variables 0) (c.boxes.ensures.boxes ∙ ap (λ (net : Netlist). net.boxes) c.imp-imp_net.ensures.imp) in
    let places : c.in_ok-places.places.items ≡ in_places imp.boxes = c.in_ok-places.ensures ∙ ap in_places (c.boxes-2.ensures.boxes ∙ ap (λ (net : Netlist). net.boxes) c.imp-imp_net.ensures.imp) in
    let fs = c.deref-5.result.now in
    let gs = c.deref-6.result.now in
    let given : fs ≡ map (ref_at c.args.made.now.variables.items) (in_variables 0 imp.boxes) =
    picks_are c.args.made.now.variables.items c.deref.result.now c.in_ok-given.given.items fs (in_variables 0 imp.boxes) c.deref-2.result.now c.in_ok-variables.variables.items c.deref-5.ensures.value c.in_ok-given.ensures c.deref.ensures.value c.deref-2.ensures.value variables in
    let there : gs ≡ map (ref_at c.args.made.now.imp.items) (in_places imp.boxes) =
    picks_are c.args.made.now.imp.items c.deref-3.result.now c.in_ok-there.there.items gs (in_places imp.boxes) c.deref-4.result.now c.in_ok-places.places.items c.deref-6.ensures.value c.in_ok-there.ensures c.deref-3.ensures.value c.deref-4.ensures.value places in
    let new = c.some_differ.new.d.store in
    subst₂ (λ n count. Represents new (table n (one_of (is_missed imp) count)) c.in_ok-any.any) (sym c.requires.vars) (pin_count_is c.functions.ensures c.making.ensures c.args.d.now.store c.args.pair.now c.imp-imp_net.ensures.kept c.requires.vars c.args.made.now.variables.items c.args.made.now.spec.items c.args.made.now.imp.items c.requires.count c.requires.variables c.requires.cells fs gs given there)
    (c.in_ok-any.ensures.result (bits c.functions.ensures c.making.ensures c.args.d.now.store c.args.pair.now c.imp-imp_net.ensures.kept c.requires.vars c.args.made.now.variables.items c.args.made.now.spec.items c.args.made.now.imp.items c.requires.count c.requires.variables c.requires.cells) (cells c.functions.ensures c.making.ensures c.args.d.now.store c.args.pair.now c.imp-imp_net.ensures.kept c.requires.vars c.args.made.now.variables.items c.args.made.now.spec.items c.args.made.now.imp.items c.requires.count c.requires.variables c.requires.cells) (given_occur c.functions.ensures c.making.ensures c.args.d.now.store c.args.pair.now c.imp-imp_net.ensures.kept c.requires.vars c.args.made.now.variables.items c.args.made.now.spec.items c.args.made.now.imp.items c.requires.count c.requires.variables c.requires.cells fs gs given there) (there_occur c.functions.ensures c.making.ensures c.args.d.now.store c.args.pair.now c.imp-imp_net.ensures.kept c.requires.vars c.args.made.now.variables.items c.args.made.now.spec.items c.args.made.now.imp.items c.requires.count c.requires.variables c.requires.cells fs gs given there))

pub returns-clause-makes : goal.returns-clause-makes
returns-clause-makes c =
    let imp = c.args.pair.now.imp in
    let variables : c.in_ok-variables.variables.items ≡ in_variables 0 imp.boxes = c.in_ok-variables.ensures ∙ ap (in_variables 0) (c.boxes.ensures.boxes ∙ ap (λ (net : Netlist). net.boxes) c.imp-imp_net.ensures.imp) in
    let places : c.in_ok-places.places.items ≡ in_places imp.boxes = c.in_ok-places.ensures ∙ ap in_places (c.boxes-2.ensures.boxes ∙ ap (λ (net : Netlist). net.boxes) c.imp-imp_net.ensures.imp) in
    let fs = c.deref-5.result.now in
    let gs = c.deref-6.result.now in
    let given : fs ≡ map (ref_at c.args.made.now.variables.items) (in_variables 0 imp.boxes) =
    picks_are c.args.made.now.variables.items c.deref.result.now c.in_ok-given.given.items fs (in_variables 0 imp.boxes) c.deref-2.result.now c.in_ok-variables.variables.items c.deref-5.ensures.value c.in_ok-given.ensures c.deref.ensures.value c.deref-2.ensures.value variables in
    let there : gs ≡ map (ref_at c.args.made.now.imp.items) (in_places imp.boxes) =
    picks_are c.args.made.now.imp.items c.deref-3.result.now c.in_ok-there.there.items gs (in_places imp.boxes) c.deref-4.result.now c.in_ok-places.places.items c.deref-6.ensures.value c.in_ok-there.ensures c.deref-3.ensures.value c.deref-4.ensures.value places in
    let s = c.args.d.now.store in
    subst₂ (λ n count. Makes s c.some_differ.new.d.store (all n (is_missed imp) count)) (sym c.requires.vars) (pin_count_is c.functions.ensures c.making.ensures c.args.d.now.store c.args.pair.now c.imp-imp_net.ensures.kept c.requires.vars c.args.made.now.variables.items c.args.made.now.spec.items c.args.made.now.imp.items c.requires.count c.requires.variables c.requires.cells fs gs given there)
    (c.in_ok-any.ensures.makes (bits c.functions.ensures c.making.ensures c.args.d.now.store c.args.pair.now c.imp-imp_net.ensures.kept c.requires.vars c.args.made.now.variables.items c.args.made.now.spec.items c.args.made.now.imp.items c.requires.count c.requires.variables c.requires.cells) (cells c.functions.ensures c.making.ensures c.args.d.now.store c.args.pair.now c.imp-imp_net.ensures.kept c.requires.vars c.args.made.now.variables.items c.args.made.now.spec.items c.args.made.now.imp.items c.requires.count c.requires.variables c.requires.cells) (given_occur c.functions.ensures c.making.ensures c.args.d.now.store c.args.pair.now c.imp-imp_net.ensures.kept c.requires.vars c.args.made.now.variables.items c.args.made.now.spec.items c.args.made.now.imp.items c.requires.count c.requires.variables c.requires.cells fs gs given there) (there_occur c.functions.ensures c.making.ensures c.args.d.now.store c.args.pair.now c.imp-imp_net.ensures.kept c.requires.vars c.args.made.now.variables.items c.args.made.now.spec.items c.args.made.now.imp.items c.requires.count c.requires.variables c.requires.cells fs gs given there))
