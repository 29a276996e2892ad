use Rattle.std.proofs.Common.{◌≡◌, ◌++◌, ◌∙◌, sym, ap, map, length, arith, append-nil}
use Rattle.std.specs.Prelude.{replicate}
use Rattle.std.specs.List.{filter_map}
use Rattle.std.specs.Map.{lookup}
use Rattle.std.specs.Vec.{vec_len}
use Rattle.std.proofs.lemmas.List.{length-map}
use Rattle.bb_bits.specs.Names.{same_name}
use Rattle.bb_ast.specs.Inside.Views.{body_view, call_view}
use Rattle.bb_design.specs.Hierarchy.{Instance, instances_in}
use Rattle.bb_hier.proofs.CalleeLemmas.{called-some, called-none}
use Rattle.bb_hier.proofs.callees.add_callees.Goals as goal

pub returns-in_ok-repeat : goal.returns-in_ok-repeat
returns-in_ok-repeat c =
    let q = λ (i : Instance). lookup (same_name i.target) c.args.places.now.entries in
    let many : vec_len c.in-Calls.calls ≡ length (map call_view c.in-Calls.calls.items) = omega (arith, c.in-Calls.calls.ok, length-map c.in-Calls.calls.items call_view) in
    record {
      ok = c.in_ok-repeat.ensures.ok ∙ ap (λ l. c.args.list.now.items ++ l)
          (ap (λ j. replicate j c.in-Some.place) (c.len.ensures ∙ many)
          ∙ sym (called-some c.args.places.now.entries c.in-Calls.target c.in-Some.place (map call_view c.in-Calls.calls.items) (sym c.place_of.ensures ∙ c.in-Some.is))
          ∙ ap (λ b. filter_map q (instances_in (body_view b))) (sym c.in-Calls.is));
    }

pub returns-in_default-place_of : goal.returns-in_default-place_of
returns-in_default-place_of c =
    let q = λ (i : Instance). lookup (same_name i.target) c.args.places.now.entries in
    record {
      ok = sym (append-nil c.args.list.now.items) ∙ ap (λ l. c.args.list.now.items ++ l)
          (sym (called-none c.args.places.now.entries c.in-Calls.target (map call_view c.in-Calls.calls.items) (sym c.place_of.ensures ∙ c.in_default-place_of.is))
          ∙ ap (λ b. filter_map q (instances_in (body_view b))) (sym c.in-Calls.is));
    }
