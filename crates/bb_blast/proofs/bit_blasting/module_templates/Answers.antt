use Rattle.std.proofs.Common.{◌≡◌, ◌<◌, ◌++◌, ◌∷◌, [], ℕ, List, Some, true, map, length, refl, sym, ap, ◌∙◌, subst, inl, inr, arith, length-append, Vec, Global}
use Rattle.std.specs.Prelude.{slice_get}
use Rattle.std.specs.List.{slice_index_or}
use Rattle.std.proofs.lemmas.List.{length-map}
use Rattle.std.proofs.lemmas.Option.{slice_get_within, slice_get_read, get_or_from_slice_get}
use Rattle.bb_names.specs.declared.checked.CheckedModule.{CheckedModule}
use Rattle.bb_names.specs.Inside.Checked.{ModuleFacts, module_facts, syntax}
use Rattle.bb_design.specs.Inside.Callees.{callees}
use Rattle.bb_blast.specs.Inside.ModuleTemplates.{IsModuleTemplate}
use Rattle.bb_blast.specs.Inside.BitBlasting.{module_in, IsOutlinable, IsStarted}
use Rattle.bb_lemmas.proofs.Orders.{less_or_same}
use Rattle.bb_lemmas.proofs.Places.{got-map, got_left, got_right}
use Rattle.bb_blast.proofs.TemplatedDesigns.{modules_there, outlinable, source_meant, used_bits}
use Rattle.bb_blast.proofs.bit_blasting.module_templates.Goals as goal

pub used_modules-requires : goal.used_modules-requires
used_modules-requires c =
    let d = c.requires.design in
    let long : length c.modules-modules.result.now ≡ length c.args.checked.now = sym (length-map c.modules-modules.result.now module_facts) ∙ ap length c.modules-modules.ensures.modules in
    record { there = λ k e lt. omega (arith, long, modules_there c.args.checked.now c.modules-modules.ensures.checked c.args.placed.now d.0 d.1 d.2 k e lt) }

pub all_starts-requires-clause-modest : goal.all_starts-requires-clause-modest
all_starts-requires-clause-modest c =
    let d = c.requires.design in
    λ m e. used_bits c.args.checked.now c.modules-modules.ensures.checked c.args.placed.now d.0 d.1 d.2 d.3 c.in_ok-used.used.items c.in_ok-used.ensures.used m (ap (λ l. slice_get l m) (sym c.deref.ensures.value) ∙ e)

-- each module has its list of callees
list_there : (checked : List ModuleFacts) (called : List (Vec ℕ Global)) (modules : List CheckedModule) (k n : ℕ) → map module_facts modules ≡ checked
    → map (λ list. list.items) called ≡ map (callees (map syntax checked)) (map syntax checked) → n ≡ length modules → k < n → k < length called
list_there checked called modules k n are lists long lt = omega (
  arith,
  lt,
  long,
  length-map modules module_facts,
  ap length are,
  ap length lists,
  length-map called (λ (list : Vec ℕ Global). list.items),
  length-map (map syntax checked) (callees (map syntax checked)),
  length-map checked syntax,
)

pub bounds-called-k : goal.bounds-called-k
bounds-called-k c =
    let within : c.loop-k.k < length c.in_ok-used.used.items = omega (arith, c.loop-k-test.true, c.len-k-end.ensures, c.in_ok-used.used.ok) in
    list_there c.args.checked.now c.args.called.now c.modules-modules.result.now c.loop-k.k (length c.in_ok-used.used.items) c.modules-modules.ensures.modules c.requires.called c.in_ok-used.ensures.long within

pub template_at-requires : goal.template_at-requires
template_at-requires c =
    let d = c.requires.design in
    let checked = c.args.checked.now in
    let text = map syntax checked in
    let used = c.in_ok-used.used.items in
    let k = c.loop-k.k in
    let list = c.index-called-k.result in
    let within : k < length used = omega (arith, c.loop-k-test.true, c.len-k-end.ensures, c.in_ok-used.used.ok) in
    let lt = list_there checked c.args.called.now c.modules-modules.result.now k (length used) c.modules-modules.ensures.modules c.requires.called c.in_ok-used.ensures.long within in
    let kept : slice_index_or (map (callees text) text) k [] ≡ list.items =
    ap (λ l. slice_index_or l k []) (sym c.requires.called)
    ∙ get_or_from_slice_get (map (λ (list : Vec ℕ Global). list.items) c.args.called.now) k list.items []
    (got-map (λ (list : Vec ℕ Global). list.items) c.args.called.now k list (slice_get_read c.args.called.now (length c.args.called.now) k list refl lt c.index-called-k.is)) in
    record {
      outlinable = λ e.
          let at : slice_get used k ≡ Some true = slice_get_read used (length used) k c.index.result.now refl within c.index.ensures ∙ ap Some e in
          let p = c.in_ok-used.ensures.used.only k at in
          let starts = map (λ (list : Vec ℕ Global). list.items) c.in_ok-starts.starts.items in
          let made = outlinable checked c.modules-modules.ensures.checked c.args.placed.now d.0 d.1 d.2 c.laws_of_designs.ensures d.3 used c.in_ok-used.ensures.used starts
          (λ m has. c.in_ok-starts.ensures.started m (ap (λ l. slice_get l m) c.deref.ensures.value ∙ has)) p.0 p.1 p.2 in
          subst (λ (l : List (Vec ℕ Global)). IsOutlinable checked (map (λ (list : Vec ℕ Global). list.items) l) k c.deref-in-loop-k-2.result.now) (sym c.deref-in-loop-k.ensures.value)
          (subst (IsOutlinable checked starts k) (kept ∙ sym c.deref-in-loop-k-2.ensures.value) (subst (λ n. IsOutlinable checked starts n (slice_index_or (map (callees text) text) n [])) p.3 made));
    }

pub loop-k-preserved : goal.loop-k-preserved
loop-k-preserved c =
    let checked = c.args.checked.now in
    let used = c.in_ok-used.used.items in
    let k = c.loop-k.k in
    let old = c.loop-k.templates.items in
    let v = c.in_ok-template.template in
    record {
      long = ap length c.in_ok-push.ensures.items ∙ omega (arith, length-append old (v ∷ []), c.loop-k.invariant.long);
      made = λ m lt e. elim (less_or_same m k) [
        | inl h ↦ let r = c.loop-k.invariant.made m h e in (r.0, ap (λ l. slice_get l m) c.in_ok-push.ensures.items ∙ got_left old (v ∷ []) m r.0 r.1, r.2)
        | inr (inl h) ↦ absurd (omega (arith, h, lt))
        | inr (inr same) ↦ (
          v,
          ap (λ l. slice_get l m) c.in_ok-push.ensures.items ∙ ap (slice_get (old ++ v ∷ [])) (omega (arith, same, c.loop-k.invariant.long)) ∙ got_right old (v ∷ []) 0,
          subst (λ i. IsModuleTemplate (map syntax checked) (module_in checked i) v) (sym same)
              (c.in_ok-template.ensures.template (c.index.ensures ∙ get_or_from_slice_get used k true c.index.result.now (subst (λ i. slice_get used i ≡ Some true) same e))),
        )
      ];
    }

pub returns : goal.returns
returns c = record {
  templated = λ d text are small k s p at e.
      let checked = c.args.checked.now in
      let used = c.in_ok-used.used.items in
      let has = c.in_ok-used.ensures.used.each k p e in
      let meant = source_meant checked c.modules-modules.ensures.checked c.args.placed.now d text are k s p at e in
      let o = c.loop-k.invariant.made p.module (omega (arith, slice_get_within used p.module true has, c.loop-k-test.false, c.len-k-end.ensures, c.in_ok-used.used.ok)) has in
      (o.0, o.1, subst (λ m. IsModuleTemplate d.text m o.0) meant.1 (subst (λ t. IsModuleTemplate t (module_in checked p.module) o.0) (sym text) o.2));
}
