-- Each check has something to say of a pair, and so there are lines of the checks that are asked for.
use Rattle.std.proofs.Common.{◌≡◌, ◌⊎◌, ◌+◌, ◌<◌, ◌^◌, ℕ, Bool, true, false, List, [], ◌∷◌, length, Contains, Some, refl, sym, ap, subst, inl, inr, arith}
use Rattle.std.proofs.lemmas.Bool.{cases_lt}
use Rattle.std.proofs.lemmas.List.{length-take}
use Rattle.std.proofs.lemmas.List.Elements.{All-contains, Contains-append_right}
use Rattle.bb_bits.specs.Truth.{Truth}
use Rattle.bb_bits.specs.Laws.TruthLaws.{SizeLaws}
use Rattle.bb_expand.specs.Laws.{AnswersExist}
use Rattle.bb_input.specs.InputFunctions.{input_functions}
use Rattle.bb_nest.specs.Laws as choices
use Rattle.bb_lemmas.proofs.Members.{contains_here}
use Rattle.bb_lemmas.proofs.Ranges.{length-run}
use Rattle.bb_lemmas.proofs.Vectors.{vec_of}
use Rattle.bb_net.specs.declared.cell.Cell.TheVariants as cell
use Rattle.bb_net.specs.Completions.{table_bits}
use Rattle.bb_net.specs.Conditions.{IsFirstHit, MayBeRightAmong}
use Rattle.bb_net.specs.Kinds.{representatives}
use Rattle.bb_net.specs.Netlists.{Netlist, IsNetlist}
use Rattle.bb_net.specs.Pairs.{NetPair, IsPair}
use Rattle.bb_options.specs.declared.options.Options.{Options}
use Rattle.bb_options.specs.declared.rung.Rung.{Rung}
use Rattle.bb_options.specs.declared.rung.Rung.TheVariants.{Ternary, Symbolic, Local, Output, Input, Expand}
use Rattle.bb_options.specs.Rungs.{AreBounds, requested_rungs}
use Rattle.bb_sym.specs.declared.found.Found.{Found}
use Rattle.bb_sym.specs.Finds.{FindingsExist}
use Rattle.bb_sym.specs.Functions.{symbolic_functions, local_functions, output_functions}
use Rattle.bb_tern.specs.Patterns.{PatternsAreVectors}
use Rattle.bb_checks.specs.declared.line.Evidence.TheVariants.{Vector}
use Rattle.bb_checks.specs.declared.line.Line.{Line}
use Rattle.bb_checks.specs.declared.line.CheckResult.{CheckResult}
use Rattle.bb_checks.specs.declared.line.CheckResult.TheVariants.{Error, Nothing, Nodes, Clauses, Wide}
use Rattle.bb_checks.specs.Rungs.{reported_answer, reported_expanded, AreTooMany, MayFind, TooMany, Finding, Without, tried, Hit, NoHit, ChoicesTooMany, Answered, TooWide, ClausesTooMany, Decided, MayReport, ends, Climbs, Top, End, Step}
use Rattle.bb_checks.specs.Laws.SomeClimbs.{IsProvable, ClimbsExist}

-- the laws of crates below on which this rests
pub record LawsBelow : Type 0 where
  pub sizes : SizeLaws
  pub vectors : PatternsAreVectors
  pub hits : (spec imp : Netlist) (patterns : List (List Bool)) → ((x : List Bool) × (j : ℕ) × IsFirstHit spec imp patterns x j) ⊎ MayBeRightAmong spec imp patterns
  pub findings : (spec imp : Netlist) → IsNetlist imp → FindingsExist spec imp
  pub inputs : choices.AnswersExist
  pub expansions : AnswersExist

abbrev Claims : NetPair → Options → Rung → Type 0
Claims p o r = (check_result : CheckResult) × MayReport p o r check_result

module _ (laws : LawsBelow) (p : NetPair) (o : Options) (pair : IsPair p) (bounds : AreBounds o) (provable : IsProvable p o) where
  -- whether functions have too many beads
  many_or_not : (functions : List Truth) → AreTooMany o functions ⊎ (AreTooMany o functions → ⊥)
  many_or_not functions =
      let size = laws.sizes.have_size functions in
      let more = laws.sizes.more_than functions size.0 o.nodes size.1 in
      elim (cases_lt o.nodes size.0) [ inl less ↦ inl (more.1 less) | inr most ↦ inr (λ many. (let less = more.0 many in omega (arith, less, most))) ]

  found_or_none : (functions : List Truth) (Finds : Found → Type 0) (none : Type 0) → ((found : Found) × Finds found) ⊎ none → (check_result : CheckResult) × MayFind o functions Finds none check_result
  found_or_none functions Finds none cases = elim (many_or_not functions) [
    | inl many ↦ (Nodes, TooMany many refl)
    | inr few ↦ elim cases [ inl one ↦ (Error (Vector one.0), Finding few one.0 one.1 refl) | inr all ↦ (Nothing, Without few all refl) ]
  ]

  few_inputs : p.imp.inputs < 2 ^ 63
  few_inputs =
      let long = ap length pair.imp.prefix in
      omega (arith, pair.imp.cells_fit, length-take (p.imp.inputs + 2) p.imp.cells, long, length-run cell.Input 0 p.imp.inputs)

  hit_or_not : Claims p o Ternary
  hit_or_not = elim (laws.hits p.spec p.imp (tried p o)) [
    | inr none ↦ (Nothing, NoHit none refl)
    | inl hit ↦
        let x = hit.0 in
        let h = hit.2 in
        let there : Contains (tried p o) x = subst (λ xs. Contains xs x) (sym h.occurs) (Contains-append_right h.before (x ∷ h.after) x (contains_here x h.after)) in
        let long : length x ≡ p.imp.inputs = All-contains (λ y. length y ≡ p.imp.inputs) (tried p o) x (laws.vectors p.imp.inputs o.patterns o.seed) there in
        let found : Found = record { output = Some hit.1; input = vec_of x (omega (arith, long, few_inputs)) } in
        (Error (Vector found), Hit found hit.1 refl h refl)
  ]

  chosen_or_not : Claims p o Input
  chosen_or_not = elim (many_or_not (input_functions p.spec p.imp)) [
    | inl many ↦ (Nodes, ChoicesTooMany many refl)
    | inr few ↦ let a = laws.inputs p.spec p.imp p.kinds pair.imp in (reported_answer a.0, Answered few a.0 a.1 refl)
  ]

  expanded_or_not : Claims p o Expand
  expanded_or_not = elim (cases_lt (2 ^ 24) (table_bits (representatives p.kinds p.imp.boxes))) [
    | inl wide ↦ (Wide, TooWide wide refl)
    | inr small ↦ elim (laws.expansions p.spec p.imp p.kinds o.clauses pair.imp pair.beside.kinds (omega (arith, bounds.clauses)) (provable small)) [
      | inl a ↦ (reported_expanded a.0, Decided small a.0 a.1 refl)
      | inr needs ↦ (Clauses, ClausesTooMany small needs refl)
    ]
  ]

  reports : (r : Rung) → Claims p o r
  reports Ternary = hit_or_not
  reports Symbolic = found_or_none (symbolic_functions p.spec p.imp) _ _ (laws.findings p.spec p.imp pair.imp).known
  reports Local = found_or_none (local_functions p.spec p.imp) _ _ (laws.findings p.spec p.imp pair.imp).always
  reports Output = found_or_none (output_functions p.spec p.imp) _ _ (laws.findings p.spec p.imp pair.imp).all
  reports Input = chosen_or_not
  reports Expand = expanded_or_not

  -- a line before what is said of the other checks, if it is not the last
  before_others : (r : Rung) (rest : List Rung) (line : Line) → line.rung ≡ r → MayReport p o r line.check_result → (b : Bool) → ends o line ≡ b → (lines : List Line) × Climbs p o rest lines → (lines : List Line) × Climbs p o (r ∷ rest) lines
  before_others r rest line of_it may true last more = (line ∷ [], End of_it may last)
  before_others r rest line of_it may false goes more = (line ∷ more.0, Step of_it may goes more.1)

  climbs : (rungs : List Rung) → (lines : List Line) × Climbs p o rungs lines
  climbs [] = ([], Top)
  climbs (r ∷ rest) = let line : Line = record { rung = r; check_result = (reports r).0 } in before_others r rest line refl (reports r).1 (ends o line) refl (climbs rest)

pub climbs_exist : LawsBelow → ClimbsExist
climbs_exist laws p o pair bounds provable = climbs laws p o pair bounds provable (requested_rungs o)
