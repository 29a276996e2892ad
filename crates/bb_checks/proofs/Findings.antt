-- What the checks say, from what they answer.
use Rattle.std.proofs.Common.{◌≡◌, ℕ, ◌<◌, ◌≤◌, ◌^◌, Bool, List, map, length, get_or, All, true, false, [], ◌∷◌, ◌++◌, ◌+◌, append_assoc, Option, None, Some, Vec, Global, refl, sym, ap, subst, ◌∙◌, arith, inl, inr}
use Rattle.std.proofs.lemmas.List.{get_or-map, length-map, drop_more}
use Rattle.std.specs.Prelude.{drop, vec_items, Result, Ok, Err, IfOk, IfSome, IfNone, OnOk, IsErrOf}
use Rattle.bb_bits.specs.Truth.{Truth}
use Rattle.bb_net.specs.Conditions.{IsFirstHit}
use Rattle.std.proofs.lemmas.Bool.{cases_lt}
use Rattle.bb_lemmas.proofs.Places.{some_same}
use Rattle.bb_expand.specs.declared.expanded.Expanded.{Expanded}
use Rattle.bb_expand.specs.declared.expanded.ExpandFault.{ExpandFault}
use Rattle.bb_expand.specs.declared.expanded.ExpandFault.TheVariants as expand
use Rattle.bb_expand.specs.Expanded.{IsExpanded}
use Rattle.bb_net.specs.Completions.{HaveSmallTables, table_bits}
use Rattle.bb_net.specs.Kinds.{representatives}
use Rattle.bb_net.specs.Pairs.{NetPair}
use Rattle.bb_sym.specs.declared.fault.RungFault.{RungFault}
use Rattle.bb_sym.specs.declared.fault.RungFault.TheVariants as faults
use Rattle.bb_sym.specs.declared.found.Found.{Found}
use Rattle.bb_checks.specs.declared.line.Line.{Line}
use Rattle.bb_checks.specs.declared.line.CheckResult.{CheckResult}
use Rattle.bb_checks.specs.declared.line.Evidence.TheVariants.{Vector}
use Rattle.bb_checks.specs.declared.line.CheckResult.TheVariants.{Error}
use Rattle.bb_options.specs.declared.options.Options.{Options}
use Rattle.bb_options.specs.declared.rung.Rung.{Rung}
use Rattle.bb_checks.specs.Rungs.{AreTooMany, MayFind, Finding, TooMany, Without, MayHit, MayExpand, Decided, MayReport, Hit, Climbs, End, Step, ends, tried, reported, reported_expanded}

pub finds : {E : Type 0} (o : Options) (functions : List Truth) (Finds : Found → Type 0) (none : Type 0) (answer : Result (Option Found) RungFault) (result : Result CheckResult E)
    → IfOk answer (λ a. IfSome a Finds) → IfOk answer (λ a. IfNone a none) → (IsErrOf answer faults.Nodes → AreTooMany o functions) → (AreTooMany o functions → OnOk answer ⊥)
    → IfOk result (λ check_result. reported answer ≡ Some check_result) → IfOk result (MayFind o functions Finds none)
finds o functions Finds none (Ok (Some f)) (Ok check_result) found missing nodes within e = Finding within f found (sym (some_same _ check_result e))
finds o functions Finds none (Ok None) (Ok check_result) found missing nodes within e = Without within missing (sym (some_same _ check_result e))
finds o functions Finds none (Err faults.Nodes) (Ok check_result) found missing nodes within e = TooMany (nodes refl) (sym (some_same _ check_result e))
finds o functions Finds none (Err faults.NoMemory) (Ok check_result) found missing nodes within e = cc e
finds o functions Finds none (Ok a) (Err x) found missing nodes within e = tt
finds o functions Finds none (Err f) (Err x) found missing nodes within e = tt

-- what the expansion answers, where its tables are not too wide
pub decides : (p : NetPair) (o : Options) (answer : Expanded) → IsExpanded p.spec p.imp p.kinds o.clauses answer → (2 ^ 24 < table_bits (representatives p.kinds p.imp.boxes) → IsErrOf (Ok answer) expand.Wide)
    → MayExpand p o (reported_expanded answer)
decides p o answer is narrow =
    let small : HaveSmallTables (representatives p.kinds p.imp.boxes) = not_below (2 ^ 24) (table_bits (representatives p.kinds p.imp.boxes)) (λ wide. not_err answer expand.Wide (narrow wide)) in
    Decided small answer is refl
  where
    not_err : (answer : Expanded) (fault : ExpandFault) → IsErrOf (Ok answer) fault → ⊥
    not_err answer fault e = cc e

    not_below : (n m : ℕ) → (n < m → ⊥) → m ≤ n
    not_below n m h = elim (cases_lt n m) [ inl below ↦ absurd (h below) | inr above ↦ above ]

-- lists of bits with a bit for each input
pub each_long : (n : ℕ) (tried : List (Vec Bool Global)) (all : List (List Bool)) → map vec_items tried ≡ all → All (λ x. length x ≡ n) all → (k : ℕ) (d : Vec Bool Global) → k < length tried → length (get_or tried k d).items ≡ n
each_long n tried all same long k d fits =
    let at : get_or all k d.items ≡ (get_or tried k d).items = ap (λ l. get_or l k d.items) (sym same) ∙ get_or-map vec_items tried k d d.items fits in
    ap length (sym at) ∙ long k d.items (omega (arith, fits, ap length same, length-map tried vec_items))

pub some_holds : {A : Type 0} (o : Option A) (P : A → Type 0) → IfSome o P → (h : A) → o ≡ Some h → P h
some_holds None P all h is = cc is
some_holds (Some x) P all h is = subst P (some_same x h is) all

pub hits : (p : NetPair) (o : Options) (patterns : List (List Bool)) → patterns ≡ tried p o → (found : Found) (j : ℕ) → found.output ≡ Some j → IsFirstHit p.spec p.imp patterns found.input.items j → MayHit p o (Error (Vector found))
hits p o patterns same found j is hit = Hit found j is (subst (λ all. IsFirstHit p.spec p.imp all found.input.items j) same hit) refl

-- the checks so far, and those after them
abbrev pub Goes : NetPair → Options → List Rung → ℕ → List Line → Type 0
Goes p o rungs k lines = (more : List Line) → Climbs p o (drop k rungs) more → Climbs p o rungs (lines ++ more)

module _ (p : NetPair) (o : Options) (rungs : List Rung) (k : ℕ) (r : Rung) (fits : k < length rungs) (at : r ≡ get_or rungs k r) (lines : List Line) (check_result : CheckResult) (goes : Goes p o rungs k lines) (reports : MayReport p o r check_result) where
  abbrev line : Line
  line = record { rung = r; check_result = check_result }

  next : drop k rungs ≡ r ∷ drop (k + 1) rungs
  next = drop_more rungs k r fits ∙ ap (λ z. z ∷ drop (k + 1) rungs) (sym at)

  pub climb_ends : ends o line ≡ true → Climbs p o rungs (lines ++ line ∷ [])
  climb_ends last = goes (line ∷ []) (subst (λ rs. Climbs p o rs (line ∷ [])) (sym next) (End refl reports last))

  pub climb_goes : ends o line ≡ false → Goes p o rungs (k + 1) (lines ++ line ∷ [])
  climb_goes on more rest = subst (Climbs p o rungs) (sym (append_assoc lines (line ∷ []) more)) (goes (line ∷ more) (subst (λ rs. Climbs p o rs (line ∷ more)) (sym next) (Step refl reports on rest)))
