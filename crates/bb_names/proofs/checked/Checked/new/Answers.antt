use Rattle.std.proofs.Common.{◌≡◌, ◌++◌, ◌∷◌, [], ap, sym, ◌∙◌, subst, map, All, append_assoc, append-nil, rules, arith}
use Rattle.std.proofs.lemmas.Grind.{common_steps}
use Rattle.std.proofs.lemmas.List.{map-append}
use Rattle.std.proofs.lemmas.List.Elements.{All-push}
use Rattle.bb_ast.specs.Inside.Views.{module_view}
use Rattle.bb_names.specs.Inside.Checked.{module_facts, syntax, AreFormedAndSmall, HasNets}
use Rattle.bb_names.specs.Faults.{IsSound}
use Rattle.bb_names.proofs.NetCounts.{few_nets}
use Rattle.bb_names.proofs.checked.Checked.new.Goals as goal

pub checked_module-requires : goal.checked_module-requires
checked_module-requires c =
    let m = module_view c.in-Some.of in
    let prefix = map syntax (map module_facts c.loop-of.modules.items) in
    let back = map module_view c.next.new.self.rest.items in
    let split : c.loop-of.of-iterator.rest.items ≡ c.in-Some.of ∷ c.next.new.self.rest.items = search rules in
    let all : prefix ++ m ∷ back ≡ map module_view c.args.source = ap (λ ms. prefix ++ map module_view ms) (sym split) ∙ c.loop-of.invariant.all in
    let read = subst AreFormedAndSmall (sym all) c.requires.read in
    record { few = few_nets m prefix back read.small }

pub loop-of-preserved : goal.loop-of-preserved
loop-of-preserved c =
    let old = c.loop-of.modules.items in
    let x = c.in_ok-checked_module.field-0 in
    let rest = map module_view c.next.new.self.rest.items in
    let split : c.loop-of.of-iterator.rest.items ≡ c.in-Some.of ∷ c.next.new.self.rest.items = search rules in
    let facts = ap (map module_facts) c.in_ok-push.ensures.items ∙ map-append module_facts old (x ∷ []) in
    record {
      all = ap (λ ms. map syntax ms ++ rest) facts ∙ ap (λ ms. ms ++ rest) (map-append syntax (map module_facts old) (module_facts x ∷ []))
          ∙ append_assoc (map syntax (map module_facts old)) (syntax (module_facts x) ∷ []) rest ∙ ap (λ m. map syntax (map module_facts old) ++ module_view m ∷ rest) c.in_ok-checked_module.ensures.source
          ∙ ap (λ ms. map syntax (map module_facts old) ++ map module_view ms) (sym split) ∙ c.loop-of.invariant.all;
      each = subst (All HasNets) (sym facts) (All-push HasNets (map module_facts old) (module_facts x) c.loop-of.invariant.each c.in_ok-checked_module.ensures.nets);
    }

pub invariant_of-result : goal.invariant_of-result
invariant_of-result c =
    let prefix = map syntax (map module_facts c.loop-of.modules.items) in
    let none : c.loop-of.of-iterator.rest.items ≡ [] = grind (arith, common_steps, c.in-None.ensures.steps.0) in
    let all = sym (append-nil prefix) ∙ ap (λ ms. prefix ++ map module_view ms) (sym none) ∙ c.loop-of.invariant.all in
    record { read = subst AreFormedAndSmall (sym all) c.requires.read; sound = subst IsSound (sym all) c.requires.sound; each = c.loop-of.invariant.each }
