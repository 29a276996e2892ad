-- What the inputs of a gate are made of, by the steps into which they are lowered.
use Rattle.std.proofs.Common.{◌≡◌, ℕ, suc, ◌+◌, ◌<◌, ◌≤◌, List, [], ◌∷◌, ◌++◌, map, length, get_or, All, Contains, refl, sym, ap, ap₂, ◌∙◌, subst, arith}
use Rattle.std.specs.List.{enumerate_from, range_with_len}
use Rattle.bb_ast.specs.declared.module.Gate.{Gate}
use Rattle.bb_ast.specs.Syntax.{Expression}
use Rattle.bb_names.specs.Nets.{nets_of}
use Rattle.bb_expr.specs.Lowered.{term_at}
use Rattle.bb_expr.specs.Terms.{Term}
use Rattle.bb_design.specs.Hierarchy.{Design, Scope}
use Rattle.bb_design.specs.Contexts.{width_of, made_in}
use Rattle.bb_design.specs.Constructs.{GateInstance, parts}
use Rattle.bb_design.specs.Drivers.{terminal_terms}
use Rattle.bb_implements.specs.Places.{Lowering, IsLowering}
use Rattle.bb_lemmas.proofs.Numbered.{from_numbered}
use Rattle.bb_implements.proofs.ListedPlaces.{lowered_at}
use Rattle.bb_implements.proofs.ListedSources.{terminal_there}
use Rattle.bb_design.specs.Laws.Wired.{IsWired}
use Rattle.bb_lemmas.proofs.Places.{only_one}

module _ (d : Design) (lowering : Lowering) (lowered : IsLowering d lowering) (wired : IsWired d)
    (k : ℕ) (s : Scope) (gate : Gate) (outs ins : List Expression) (has : Contains (enumerate_from 0 (parts d)) (k, (s, GateInstance gate outs ins))) where
  abbrev shape : (1 ≤ length ins) × All (λ e. width_of s e ≡ 1) ins
  shape = wired.gates s gate outs ins (from_numbered 0 (parts d) (k, (s, GateInstance gate outs ins)) has)

  -- what an input is made of
  abbrev pub input_term : ℕ → Term
  input_term n = term_at (nets_of s.source) (lowering k n).all (get_or (lowering k n).bits 0 0)

  abbrev IsInput : ℕ → Expression → Type 0
  IsInput n e = (made_in s e (width_of s e)).bits ≡ input_term n ∷ []

  one_input : (n : ℕ) → n < length ins → (e : Expression) × (get_or ins n e ≡ e) × IsInput n e
  one_input n fits =
      let e = terminal_there s ins n fits shape.1 in
      let lower = lowered_at d lowering lowered k s (GateInstance gate outs ins) has n e.0 1 e.1 in
      let width : width_of s e.0 ≡ 1 = subst (λ u. width_of s u ≡ 1) e.2 (shape.1 n e.0 fits) in
      (e.0, e.2, ap (λ w. (made_in s e.0 w).bits) width ∙ sym lower.terms ∙ ap (λ js. map (term_at (nets_of s.source) (lowering k n).all) js) (only_one (lowering k n).bits 0 lower.width))

  inputs_from : (a : ℕ) (es : List Expression) → ((i : ℕ) → i < length es → (e : Expression) × (get_or es i e ≡ e) × IsInput (a + i) e) → terminal_terms s es ≡ map input_term (range_with_len a (length es))
  inputs_from a [] each = refl
  inputs_from a (e ∷ es) each =
      let first = each 0 (omega arith) in
      ap₂ ◌++◌ (ap (λ u. (made_in s u (width_of s u)).bits) first.1 ∙ first.2 ∙ ap (λ n. input_term n ∷ []) (omega arith))
      (inputs_from (a + 1) es (λ i fits. let y = each (suc i) (omega (arith, fits)) in (y.0, y.1, y.2 ∙ ap (λ n. input_term n ∷ []) (omega arith))))

  pub terminals_are : terminal_terms s ins ≡ map input_term (range_with_len 0 (length ins))
  terminals_are = inputs_from 0 ins (λ i fits. let y = one_input i fits in (y.0, y.1, y.2 ∙ ap (λ n. input_term n ∷ []) (omega arith)))
