-- Steps from nothing on that make an expression's bits and cells are the expression lowered, and have its value.
use Rattle.std.proofs.Common.{◌≡◌, ℕ, ◌+◌, ◌<◌, ◌≤◌, false, List, [], length, map, get_or, sym, ap, ◌∙◌, subst, arith}
use Rattle.std.specs.Prelude.{All}
use Rattle.std.specs.List.{enumerate_from}
use Rattle.std.proofs.lemmas.List.{get_or_default}
use Rattle.std.proofs.lemmas.List.FromFn.{length-enumerate_from, get_or-enumerate_from}
use Rattle.std.proofs.lemmas.Simd.{map-map}
use Rattle.std.proofs.lemmas.List.Sorted.{IsPermutation-refl}
use Rattle.bb_ast.specs.Syntax.{Expression}
use Rattle.bb_names.specs.declared.net.NetInfo.{NetInfo}
use Rattle.bb_names.specs.Widths.{Ranges, own_width}
use Rattle.bb_expr.specs.declared.step.BitStep.{BitStep}
use Rattle.bb_expr.specs.declared.step.BitStep.TheVariants as steps
use Rattle.bb_expr.specs.Terms.{term_bit}
use Rattle.bb_expr.specs.Cells.{made}
use Rattle.bb_expr.specs.Lowered.{ReadsEarlier, term_at, IsLowered, HasValue}
use Rattle.bb_expr.specs.Laws.{MadeHasValue}
use Rattle.bb_expr.specs.Inside.Growing.{AreOrdered, AreSteps, Adds}
use Rattle.bb_expr.proofs.CellCounts.{length-made}

nothing-occurs : (nets : List NetInfo) → AreSteps nets [] []
nothing-occurs nets = record {
  earlier = λ k lt. absurd (omega (arith, lt));
  made = IsPermutation-refl [];
}

ordered-each : (nets : List NetInfo) (all : List BitStep) → AreOrdered nets all → All (λ x. ReadsEarlier nets x.0 x.1) (enumerate_from 0 all)
ordered-each nets all ordered k d lt =
    let within : k < length all = omega (arith, lt, length-enumerate_from 0 all) in
    subst (λ (x : ℕ × BitStep). ReadsEarlier nets x.0 x.1) (sym (get_or-enumerate_from 0 all k d within ∙ ap (λ n. (n, get_or all k d.1)) (zero-plus k)))
    (subst (ReadsEarlier nets k) (get_or_default all k (steps.Const false) d.1 within) (ordered k within))
  where
    zero-plus : (k : ℕ) → 0 + k ≡ k
    zero-plus k = omega arith

module _ (nets : List NetInfo) (ranges : Ranges) (e : Expression) (w : ℕ) (all : List BitStep) (bits : List ℕ) (own : own_width ranges e ≤ w) (adds : Adds nets (made ranges e w) [] all bits) where
  pub is-lowered : IsLowered nets ranges e w all bits
  is-lowered =
      let p = adds.makes [] (nothing-occurs nets) in
      record {
        earlier = ordered-each nets all p.0.earlier;
        places = adds.within;
        width = adds.long ∙ length-made ranges e w own;
        terms = p.1;
        cells = p.0.made;
      }

  pub has-value : MadeHasValue → HasValue nets ranges e w all bits
  has-value law env = sym (map-map (term_bit env) (term_at nets all) bits) ∙ ap (map (term_bit env)) (adds.makes [] (nothing-occurs nets)).1 ∙ law ranges env e w own
