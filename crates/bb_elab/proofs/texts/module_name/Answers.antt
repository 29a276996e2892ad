use Rattle.std.proofs.Common.{◌≡◌, ℕ, List, Some, length, map, refl, sym, ap, ◌∙◌, arith}
use Rattle.std.specs.Prelude.{slice_get}
use Rattle.std.proofs.lemmas.Option.{slice_get_read}
use Rattle.std.proofs.lemmas.Result.{IfOk-weaker}
use Rattle.bb_ast.specs.Syntax.{PlainModule}
use Rattle.bb_names.specs.Inside.Checked.{ModuleFacts, module_facts, syntax}
use Rattle.bb_blast.specs.declared.placed.Placed.{Placed}
use Rattle.bb_blast.specs.Inside.Placements.{IsScopeAt, ArePlaced}
use Rattle.bb_blast.specs.Laws.ModuleLaws.{ModuleLaws}
use Rattle.bb_design.specs.Hierarchy.{Design, Scope, scopes}
use Rattle.bb_lemmas.proofs.Places.{some_at}
use Rattle.bb_elab.proofs.texts.module_name.Goals as goal

-- the module of a scope by its place in the text
source_at : ModuleLaws → (checked : List ModuleFacts) (all : List Placed) (d : Design) → d.text ≡ map syntax checked → ArePlaced d all → (k : ℕ) (s : Scope) → IsScopeAt d k s → (p : Placed) → slice_get all k ≡ Some p
    → slice_get (map syntax checked) p.module ≡ Some s.source
source_at of_modules checked all d text are k s at p there = ap (λ l. slice_get l p.module) (sym text) ∙ (are.each k s p at there).source

named : ModuleLaws → (checked : List ModuleFacts) (all : List Placed) (k : ℕ) (p : Placed) → slice_get all k ≡ Some p → (f : ModuleFacts) → slice_get checked p.module ≡ Some f
    → (d : Design) → d.text ≡ map syntax checked → ArePlaced d all → (s : Scope) → IsScopeAt d k s → (syntax f).name ≡ s.source.name
named of_modules checked all k p there f here d text are s at =
    ap (λ (m : PlainModule). m.name) (sym (of_modules.modules checked p.module f here).is ∙ (of_modules.checked checked p.module s.source (source_at of_modules checked all d text are k s at p there)).1)

pub scope_of_module-module-requires : goal.scope_of_module-module-requires
scope_of_module-module-requires c =
    let d = c.requires.design in
    let all = c.args.placed.now in
    let k = c.args.scope in
    let p = c.index-placed-scope.result in
    let there = slice_get_read all (length all) k p refl c.requires.there c.index-placed-scope.is in
    let s = some_at (scopes d.0) k (omega (arith, c.requires.there, d.2.count)) in
    record { there = (c.laws_of_modules.ensures.checked c.args.checked.now p.module s.0.source (source_at c.laws_of_modules.ensures c.args.checked.now all d.0 d.1 d.2 k s.0 s.1 p there)).0 }

pub returns : goal.returns
returns c = record {
  name =
      let all = c.args.placed.now in
      let k = c.args.scope in
      let p = c.index-placed-scope.result in
      let there = slice_get_read all (length all) k p refl c.requires.there c.index-placed-scope.is in
      let f = module_facts c.scope_of_module-module.result.now in
      IfOk-weaker c.of.result (λ n. n ≡ c.bytes.result.now)
      (λ n. (d : Design) → d.text ≡ map syntax c.args.checked.now → ArePlaced d all → (s : Scope) → IsScopeAt d k s → n ≡ s.source.name)
      (λ n is d text are s at. is ∙ c.bytes.ensures.bytes ∙ named c.laws_of_modules.ensures c.args.checked.now all k p there f c.scope_of_module-module.ensures.there d text are s at) c.of.ensures.ok;
}
