use Rattle.std.proofs.Common.{◌≡◌, ◌<◌, ◌≤◌, ◌++◌, ◌∷◌, ℕ, [], List, Some, true, false, length, get_or, map, refl, sym, ap, ◌∙◌, subst, inl, inr, arith, length-append, Vec, Global}
use Rattle.std.specs.Prelude.{slice_get}
use Rattle.std.proofs.lemmas.List.{length-map}
use Rattle.std.proofs.lemmas.Option.{slice_get_read, slice_get_within, slice_get-get_or, get_or_from_slice_get}
use Rattle.bb_names.specs.declared.checked.CheckedModule.{CheckedModule}
use Rattle.bb_names.specs.Inside.Checked.{ModuleFacts, module_facts, IsChecked}
use Rattle.bb_names.specs.Nets.{nets_of}
use Rattle.bb_blast.specs.Inside.BitBlasting.{AreStarts, bit_count, module_in}
use Rattle.bb_lemmas.proofs.Places.{got-map, got_left, got_right}
use Rattle.bb_lemmas.proofs.Orders.{less_or_same}
use Rattle.bb_blast.proofs.ModulePlaces.{has_nets, module-is}
use Rattle.bb_blast.proofs.TemplatedDesigns.{text_small}
use Rattle.bb_blast.proofs.bit_blasting.all_starts.Goals as goal

-- the module at a place as the code and as the definitions see it
nets-at : (checked : List ModuleFacts) → IsChecked checked → (k : ℕ) (f : ModuleFacts) → slice_get checked k ≡ Some f → f.nets ≡ nets_of (module_in checked k)
nets-at checked ok k f there = (has_nets checked k f there ok).nets ∙ ap nets_of (sym (module-is checked k f there))

here : (checked : List ModuleFacts) (modules : List CheckedModule) → map module_facts modules ≡ checked → (k : ℕ) (x : CheckedModule) → k < length modules → x ≡ get_or modules k x → slice_get checked k ≡ Some (module_facts x)
here checked modules same k x lt is = ap (λ l. slice_get l k) (sym same) ∙ got-map module_facts modules k x (slice_get_read modules (length modules) k x refl lt is)

pub starts_where-requires : goal.starts_where-requires
starts_where-requires c =
    let checked = c.args.checked.now in
    let k = c.loop-k.k in
    let there = here checked c.modules-modules.result.now c.modules-modules.ensures.modules k c.index-modules-k.result c.loop-k-test.true c.index-modules-k.is in
    let within : k < length c.args.used.now = omega (arith, c.requires.long, c.loop-k-test.true, ap length c.modules-modules.ensures.modules, length-map c.modules-modules.result.now module_facts) in
    record {
      modest = λ e. subst (λ l. bit_count l ≤ 1000000) (sym (nets-at checked c.modules-modules.ensures.checked k (module_facts c.index-modules-k.result) there))
          (c.requires.modest k (slice_get-get_or c.args.used.now k false within ∙ ap Some e));
    }

pub loop-k-preserved : goal.loop-k-preserved
loop-k-preserved c =
    let checked = c.args.checked.now in
    let k = c.loop-k.k in
    let v = c.in_ok-starts_where.field-0 in
    let old = c.loop-k.starts.items in
    let there = here checked c.modules-modules.result.now c.modules-modules.ensures.modules k c.index-modules-k.result c.loop-k-test.true c.index-modules-k.is in
    record {
      long = ap length c.in_ok-push.ensures.items ∙ omega (arith, length-append old (v ∷ []), c.loop-k.invariant.long);
      started = λ m lt e. elim (less_or_same m k) [
        | inl h ↦ let r = c.loop-k.invariant.started m h e in (r.0, ap (λ l. slice_get l m) c.in_ok-push.ensures.items ∙ got_left old (v ∷ []) m r.0 r.1, r.2)
        | inr (inl h) ↦ absurd (omega (arith, h, lt))
        | inr (inr same) ↦ (
          v,
          ap (λ l. slice_get l m) c.in_ok-push.ensures.items ∙ ap (slice_get (old ++ v ∷ [])) (omega (arith, same, c.loop-k.invariant.long)) ∙ got_right old (v ∷ []) 0,
          subst (λ i. AreStarts (nets_of (module_in checked i)) v.items) (sym same) (subst (λ l. AreStarts l v.items) (nets-at checked c.modules-modules.ensures.checked k (module_facts c.index-modules-k.result) there)
              (c.in_ok-starts_where.ensures.starts (get_or_from_slice_get c.args.used.now k true false (subst (λ i. slice_get c.args.used.now i ≡ Some true) same e)))),
        )
      ];
    }

pub returns : goal.returns
returns c = record {
  started = λ m e.
      let found = c.loop-k.invariant.started m (omega (arith, slice_get_within c.args.used.now m true e, c.requires.long, c.loop-k-test.false, ap length c.modules-modules.ensures.modules, length-map c.modules-modules.result.now module_facts)) e in
      record {
        there = omega (arith, c.requires.long, slice_get_within c.args.used.now m true e);
        small = omega (arith, c.requires.long, slice_get_within c.args.used.now m true e, text_small c.args.checked.now c.modules-modules.ensures.checked);
        kept = omega (arith, length-map c.loop-k.starts.items (λ (list : Vec ℕ Global). list.items), slice_get_within c.loop-k.starts.items m found.0 found.1);
        each = subst (AreStarts (nets_of (module_in c.args.checked.now m))) (sym (get_or_from_slice_get (map (λ (list : Vec ℕ Global). list.items) c.loop-k.starts.items) m found.0.items [] (got-map (λ (list : Vec ℕ Global). list.items) c.loop-k.starts.items m found.0 found.1))) found.2;
      };
}
