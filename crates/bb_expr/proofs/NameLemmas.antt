-- The names in an expression that is fit are names of nets.
use Rattle.std.proofs.Common.{◌∷◌, ◌++◌}
use Rattle.std.specs.Prelude.{slice_get, All}
use Rattle.std.specs.List.{AllByRecursion, flat_map}
use Rattle.std.proofs.lemmas.List.Elements.{All-from_recursion, recursion_from_All}
use Rattle.bb_ast.specs.Syntax.{Expression, Net, Bit, Part, Sized, Plain, Not, Fold, Chain, Words, Cond, Concat, Repeat, Operands, no_operand, operand, WordOperands, no_word, word, Arms, no_arm, arm, Parts, no_part, part}
use Rattle.bb_ast.specs.Folds.{of_operands, of_words, of_arms, of_parts}
use Rattle.bb_ast.specs.Names.{naming, names_in}
use Rattle.bb_names.specs.Inside.Checked.{ModuleFacts}
use Rattle.bb_expr.specs.Inside.Occurrences.{gathering, expressions_in}
use Rattle.bb_expr.specs.Inside.Fit.{HasNet, IsFit, AreFit}
use Rattle.bb_expr.specs.Laws.FitLaws.{NamesAreNets}
use Rattle.bb_expr.proofs.ListLemmas.{all-prefix, all-back, all-join}
use Rattle.bb_expr.proofs.OccurringLemmas.{some-and, occurrences_are_fit}

module _ (m : ModuleFacts) where
  mutual
    names-named : (e : Expression) → AllByRecursion (IsFit m) (expressions_in e) → AllByRecursion (HasNet m) (names_in e)
    names-named (Net n) fit = (fit.0.right, tt)
    names-named (Bit n i) fit = (fit.0.right.0, tt)
    names-named (Part n i j) fit = (fit.0.right.0, tt)
    names-named (Sized bits) fit = tt
    names-named (Plain n) fit = tt
    names-named (Not k e) fit = names-named e fit.1
    names-named (Fold op e) fit = names-named e fit.1
    names-named (Chain e rest) fit =
        all-join (HasNet m) (names_in e) _ (names-named e (all-prefix (IsFit m) (expressions_in e) _ fit.1)) (operands-named rest (all-back (IsFit m) (expressions_in e) _ fit.1))
    names-named (Words e rest) fit =
        all-join (HasNet m) (names_in e) _ (names-named e (all-prefix (IsFit m) (expressions_in e) _ fit.1)) (words-named rest (all-back (IsFit m) (expressions_in e) _ fit.1))
    names-named (Cond all last) fit =
        all-join (HasNet m) _ (names_in last) (arms-named all (all-prefix (IsFit m) (flat_map (λ x. x.0 ++ x.1) (of_arms (λ x all. x ∷ all) gathering all)) (expressions_in last) fit.1))
        (names-named last (all-back (IsFit m) (flat_map (λ x. x.0 ++ x.1) (of_arms (λ x all. x ∷ all) gathering all)) (expressions_in last) fit.1))
    names-named (Concat all) fit = parts-named all fit.1
    names-named (Repeat k all) fit = parts-named all fit.1

    operands-named : (rest : Operands) → AllByRecursion (IsFit m) (flat_map (λ x. x.1) (of_operands (λ x all. x ∷ all) gathering rest)) → AllByRecursion (HasNet m) (flat_map (λ x. x.1) (of_operands (λ x a. a) naming rest))
    operands-named no_operand fit = tt
    operands-named (operand op e rest) fit =
        all-join (HasNet m) (names_in e) _ (names-named e (all-prefix (IsFit m) (expressions_in e) _ fit)) (operands-named rest (all-back (IsFit m) (expressions_in e) _ fit))

    words-named : (rest : WordOperands) → AllByRecursion (IsFit m) (flat_map (λ x. x.1) (of_words (λ x all. x ∷ all) gathering rest)) → AllByRecursion (HasNet m) (flat_map (λ x. x.1) (of_words (λ x a. a) naming rest))
    words-named no_word fit = tt
    words-named (word op e rest) fit =
        all-join (HasNet m) (names_in e) _ (names-named e (all-prefix (IsFit m) (expressions_in e) _ fit)) (words-named rest (all-back (IsFit m) (expressions_in e) _ fit))

    arms-named : (rest : Arms) → AllByRecursion (IsFit m) (flat_map (λ x. x.0 ++ x.1) (of_arms (λ x all. x ∷ all) gathering rest)) → AllByRecursion (HasNet m) (flat_map (λ x. x.0 ++ x.1) (of_arms (λ x a. a) naming rest))
    arms-named no_arm fit = tt
    arms-named (arm c e rest) fit =
        let first = all-prefix (IsFit m) (expressions_in c ++ expressions_in e) _ fit in
        all-join (HasNet m) (names_in c ++ names_in e) _
        (all-join (HasNet m) (names_in c) (names_in e) (names-named c (all-prefix (IsFit m) (expressions_in c) (expressions_in e) first)) (names-named e (all-back (IsFit m) (expressions_in c) (expressions_in e) first)))
        (arms-named rest (all-back (IsFit m) (expressions_in c ++ expressions_in e) _ fit))

    parts-named : (rest : Parts) → AllByRecursion (IsFit m) (flat_map (λ e. e) (of_parts (λ x all. x ∷ all) gathering rest)) → AllByRecursion (HasNet m) (flat_map (λ e. e) (of_parts (λ x a. a) naming rest))
    parts-named no_part fit = tt
    parts-named (part e rest) fit =
        all-join (HasNet m) (names_in e) _ (names-named e (all-prefix (IsFit m) (expressions_in e) _ fit)) (parts-named rest (all-back (IsFit m) (expressions_in e) _ fit))

  names-fit : (e : Expression) → AreFit m e → All (HasNet m) (names_in e)
  names-fit e fit = All-from_recursion (HasNet m) (names_in e) (names-named e (recursion_from_All (IsFit m) (expressions_in e) fit.each))

pub names_are_nets : NamesAreNets
names_are_nets checked k e ok occurs =
    some-and (λ m. AreFit m e) (λ m. All (HasNet m) (names_in e)) (λ m fit. names-fit m e fit) (slice_get checked k) (occurrences_are_fit checked k e ok occurs)
