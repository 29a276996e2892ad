-- Where no check says that there is an error, and none gives tables, each leaves the question open, and so none of them decides; where
-- the question stays open with each, that is the verdict; and only what may depend on the search lies between the two.
use Rattle.std.proofs.Common.{◌≡◌, ◌&&◌, ◌||◌, Bool, true, false, not, if◌then◌else◌, List, [], ◌∷◌, All, Contains, true≢false, refl, sym, ap, ap₂, subst, ◌∙◌, inl, inr, arith, ◌<◌, ◌≤◌, ◌^◌, ℕ}
use Rattle.std.specs.List.{list_any}
use Rattle.std.proofs.lemmas.Bool.{cases_lt}
use Rattle.std.proofs.lemmas.List.Elements.{All-nil, All-cons, All-contains, All-head, All-tail}
use Rattle.bb_lemmas.proofs.Bits.{neither}
use Rattle.bb_net.specs.Completions.{table_bits}
use Rattle.bb_net.specs.Kinds.{representatives}
use Rattle.bb_net.specs.Pairs.{NetPair}
use Rattle.bb_expand.specs.ClauseCounts.{clause_total}
use Rattle.bb_expand.specs.declared.expanded.Expanded.TheVariants as expanded
use Rattle.bb_lemmas.proofs.Members.{all_from}
use Rattle.bb_input.specs.declared.InputAnswer.TheVariants as choices
use Rattle.bb_checks.specs.declared.line.Line.{Line}
use Rattle.bb_checks.specs.declared.line.CheckResult.{CheckResult}
use Rattle.bb_options.specs.declared.options.Options.{Options}
use Rattle.bb_options.specs.declared.rung.Rung.{Rung}
use Rattle.bb_options.specs.declared.rung.Rung.TheVariants.{Ternary, Symbolic, Local, Output, Input, Expand}
use Rattle.bb_checks.specs.declared.verdict.Verdict.TheVariants as verdicts
use Rattle.bb_checks.specs.Laws.{ClimbsLeaveOpen, StayingOpenIsReported, StayingOpenIsLeftOpen, LeftOpenStaysOpen, DecidersDecide}
use Rattle.bb_checks.specs.LeftOpen.{Decides, MayLeaveOpen, MustLeaveOpen}
use Rattle.bb_checks.specs.Laws.Searches.{MayDependOnSearch}
use Rattle.bb_options.specs.Rungs.{requested_rungs}
use Rattle.bb_checks.specs.Rungs.{MayReport, Hit, NoHit, TooMany, Finding, Without, ChoicesTooMany, Answered, TooWide, ClausesTooMany, Decided, Climbs, Top, End, Step, reports_error, reports_repair, is_error, is_repair}
use Rattle.bb_checks.proofs.ErrorLaw.{contained}
use Rattle.bb_checks.proofs.StayLaw.{known_not_right}

no_end : (r a b : Bool) → (r || (a && b)) ≡ true → r ≡ false → a ≡ false → ⊥
no_end false true b e none off = true≢false off
no_end false false b e none off = true≢false (sym e)
no_end true a b e none off = true≢false none

-- the verdict that the question is open: no check says that there is an error, and none gives tables
both_none : (a b : Bool) → (if a then verdicts.Error else (if b then verdicts.Repairable else verdicts.Open)) ≡ verdicts.Open → (a ≡ false) × (b ≡ false)
both_none false false e = (refl, refl)
both_none true b e = cc e
both_none false true e = cc e

above : (n m : ℕ) → n < m → m ≤ n → ⊥
above n m less more = omega (arith, less, more)

module _ (p : NetPair) (o : Options) where
  no_error : {T : Type 0} (check_result other : CheckResult) → check_result ≡ other → reports_error other ≡ true → reports_error check_result ≡ false → T
  no_error check_result other same on off = absurd (true≢false (sym on ∙ ap reports_error (sym same) ∙ off))

  no_repair : {T : Type 0} (check_result other : CheckResult) → check_result ≡ other → reports_repair other ≡ true → reports_repair check_result ≡ false → T
  no_repair check_result other same on off = absurd (true≢false (sym on ∙ ap reports_repair (sym same) ∙ off))

  said_open : (r : Rung) (check_result : CheckResult) → MayReport p o r check_result → reports_error check_result ≡ false → reports_repair check_result ≡ false → MayLeaveOpen p o r
  said_open Ternary check_result (Hit found j is hit same) off none = no_error check_result _ same refl off
  said_open Ternary check_result (NoHit right same) off none = right
  said_open Symbolic check_result (TooMany many same) off none = inl many
  said_open Symbolic check_result (Finding few found is same) off none = no_error check_result _ same refl off
  said_open Symbolic check_result (Without few right same) off none = inr right
  said_open Local check_result (TooMany many same) off none = inl many
  said_open Local check_result (Finding few found is same) off none = no_error check_result _ same refl off
  said_open Local check_result (Without few right same) off none = inr right
  said_open Output check_result (TooMany many same) off none = inl many
  said_open Output check_result (Finding few found is same) off none = no_error check_result _ same refl off
  said_open Output check_result (Without few right same) off none = inr right
  said_open Input check_result (ChoicesTooMany many same) off none = inl many
  said_open Input check_result (Answered few choices.Error is same) off none = no_error check_result _ same refl off
  said_open Input check_result (Answered few choices.Clear is same) off none = inr is
  said_open Input check_result (Answered few (choices.Repair tables) is same) off none = no_repair check_result _ same refl none
  said_open Expand check_result (TooWide wide same) off none = inl wide
  said_open Expand check_result (ClausesTooMany small needs same) off none = inr needs
  said_open Expand check_result (Decided small (expanded.Error vectors cnf refutation) is same) off none = no_error check_result _ same refl off
  said_open Expand check_result (Decided small (expanded.Repair tables) is same) off none = no_repair check_result _ same refl none

  climb_open : (rungs : List Rung) (lines : List Line) → Climbs p o rungs lines → list_any is_error lines ≡ false → list_any is_repair lines ≡ false → All (MayLeaveOpen p o) rungs
  climb_open [] [] Top off none = All-nil _
  climb_open [] (line ∷ more) climb off none = elim climb [ ]
  climb_open (r ∷ rest) [] climb off none = elim climb [ ]
  climb_open (r ∷ rest) (line ∷ []) (End is reports last) off none = absurd (no_end (is_repair line) (is_error line) (not o.all) last (neither (is_repair line) false none).0 (neither (is_error line) false off).0)
  climb_open (r ∷ rest) (line ∷ more) (Step is reports on afterwards) off none =
      let no_error = neither (is_error line) (list_any is_error more) off in
      let no_tables = neither (is_repair line) (list_any is_repair more) none in
      All-cons (MayLeaveOpen p o) r rest (said_open r line.check_result reports no_error.0 no_tables.0) (climb_open rest more afterwards no_error.1 no_tables.1)

  -- what is said where the question stays open with a check
  abbrev IsOpen : CheckResult → Type 0
  IsOpen check_result = (reports_error check_result ≡ false) × (reports_repair check_result ≡ false)

  as_reported : (check_result reported : CheckResult) → check_result ≡ reported → IsOpen reported → IsOpen check_result
  as_reported check_result reported same h = subst IsOpen (sym same) h

  open_said : (r : Rung) (check_result : CheckResult) → MayReport p o r check_result → MustLeaveOpen p o r → IsOpen check_result
  open_said Ternary check_result (Hit found j is hit same) right =
      absurd (known_not_right p.spec p.imp found.input.items j hit.wrong (right found.input.items (subst (λ all. Contains all found.input.items) (sym hit.occurs) (contained hit.before found.input.items hit.after)) j hit.there))
  open_said Ternary check_result (NoHit right same) left = as_reported check_result _ same (refl, refl)
  open_said Symbolic check_result (TooMany many same) left = as_reported check_result _ same (refl, refl)
  open_said Symbolic check_result (Finding few found is same) (inl many) = absurd (few many)
  open_said Symbolic check_result (Finding few found (j, is, first) same) (inr right) =
      absurd (known_not_right p.spec p.imp found.input.items j first.at.holds (right found.input.items first.at.vector j first.there))
  open_said Symbolic check_result (Without few right same) left = as_reported check_result _ same (refl, refl)
  open_said Local check_result (TooMany many same) left = as_reported check_result _ same (refl, refl)
  open_said Local check_result (Finding few found is same) (inl many) = absurd (few many)
  open_said Local check_result (Finding few found (j, is, first) same) (inr right) =
      let z = right found.input.items first.at.vector j first.there in absurd (first.at.holds z.0 z.1 z.2)
  open_said Local check_result (Without few right same) left = as_reported check_result _ same (refl, refl)
  open_said Output check_result (TooMany many same) left = as_reported check_result _ same (refl, refl)
  open_said Output check_result (Finding few found is same) (inl many) = absurd (few many)
  open_said Output check_result (Finding few found (is, least) same) (inr right) =
      let z = right found.input.items least.vector in
      let wrong = least.holds z.0 z.1 in
      absurd (wrong.2 (z.2 wrong.0 wrong.1))
  open_said Output check_result (Without few right same) left = as_reported check_result _ same (refl, refl)
  open_said Input check_result (ChoicesTooMany many same) left = as_reported check_result _ same (refl, refl)
  open_said Input check_result (Answered few answer is same) (inl many) = absurd (few many)
  open_said Input check_result (Answered few choices.Error is same) (inr suit) = absurd (is suit.0)
  open_said Input check_result (Answered few choices.Clear is same) (inr suit) = as_reported check_result _ same (refl, refl)
  open_said Input check_result (Answered few (choices.Repair tables) is same) (inr suit) = absurd (suit.1 is.0)
  open_said Expand check_result (TooWide wide same) left = as_reported check_result _ same (refl, refl)
  open_said Expand check_result (ClausesTooMany small many same) left = as_reported check_result _ same (refl, refl)
  open_said Expand check_result (Decided small answer is same) wide = absurd (above _ _ wide small)

  -- no line says an error, and none says of tables
  record AreOpen (lines : List Line) : Type 0 where
    error : list_any is_error lines ≡ false
    repair : list_any is_repair lines ≡ false

  one_more : (line : Line) (more : List Line) → IsOpen line.check_result → AreOpen more → AreOpen (line ∷ more)
  one_more line more first h = record { error = ap₂ ◌||◌ first.0 h.error; repair = ap₂ ◌||◌ first.1 h.repair }

  open_climb : (rungs : List Rung) (lines : List Line) → Climbs p o rungs lines → All (MustLeaveOpen p o) rungs → AreOpen lines
  open_climb [] [] Top left = record { error = refl; repair = refl }
  open_climb [] (line ∷ more) climb left = elim climb [ ]
  open_climb (r ∷ rest) [] climb left = elim climb [ ]
  open_climb (r ∷ rest) (line ∷ []) (End is reports last) left = one_more line [] (open_said r line.check_result reports (All-head (MustLeaveOpen p o) r rest left)) (record { error = refl; repair = refl })
  open_climb (r ∷ rest) (line ∷ more) (Step is reports on afterwards) left =
      one_more line more (open_said r line.check_result reports (All-head (MustLeaveOpen p o) r rest left)) (open_climb rest more afterwards (All-tail (MustLeaveOpen p o) r rest left))

-- the verdict where no line says an error, and none says of tables
open_verdict : (a b : Bool) → a ≡ false → b ≡ false → (if a then verdicts.Error else (if b then verdicts.Repairable else verdicts.Open)) ≡ verdicts.Open
open_verdict a b off none = rw off (rw none refl)

pub staying_open_is_reported : StayingOpenIsReported
staying_open_is_reported p o lines climb left =
    let none = open_climb p o _ lines climb left in
    open_verdict (list_any is_error lines) (list_any is_repair lines) none.error none.repair

pub climbs_leave_open : ClimbsLeaveOpen
climbs_leave_open p o lines climb verdict =
    let none = both_none (list_any is_error lines) (list_any is_repair lines) verdict in
    climb_open p o _ lines climb none.0 none.1

-- what stays open is left open
pub staying_open_is_left_open : StayingOpenIsLeftOpen
staying_open_is_left_open p o Ternary stays = stays
staying_open_is_left_open p o Symbolic stays = stays
staying_open_is_left_open p o Local stays = stays
staying_open_is_left_open p o Output stays = stays
staying_open_is_left_open p o Input stays = stays
staying_open_is_left_open p o Expand wide = inl wide

-- and what is left open stays open, or the tables of the expansion may be written down and it may need more clauses
stays_or_depends : (p : NetPair) (o : Options) (r : Rung) → (MayDependOnSearch p o → ⊥) → Contains (requested_rungs o) r → MayLeaveOpen p o r → MustLeaveOpen p o r
stays_or_depends p o Ternary fixed requested left = left
stays_or_depends p o Symbolic fixed requested left = left
stays_or_depends p o Local fixed requested left = left
stays_or_depends p o Output fixed requested left = left
stays_or_depends p o Input fixed requested left = left
stays_or_depends p o Expand fixed requested (inl wide) = wide
stays_or_depends p o Expand fixed requested (inr needs) = elim (cases_lt (2 ^ 24) (table_bits (representatives p.kinds p.imp.boxes))) [
  | inl wide ↦ wide
  | inr small ↦ absurd (fixed (record { requested = requested; small = small; needs = needs }))
]

pub left_open_stays_open : LeftOpenStaysOpen
left_open_stays_open p o fixed left = all_from (MustLeaveOpen p o) (requested_rungs o)
    (λ r requested. stays_or_depends p o r fixed requested (All-contains (MayLeaveOpen p o) (requested_rungs o) r left requested))

-- a check that decides does not leave the question open
not_both : (p : NetPair) (o : Options) (r : Rung) → MayLeaveOpen p o r → Decides p o r → ⊥
not_both p o Ternary leaves decides = decides
not_both p o Symbolic leaves decides = decides
not_both p o Local leaves decides = decides
not_both p o Output leaves decides = decides
not_both p o Input (inl many) decides = decides.1 many
not_both p o Input (inr none) decides = none.1 decides.0
not_both p o Expand (inl wide) decides = above (2 ^ 24) (table_bits (representatives p.kinds p.imp.boxes)) wide decides.0
not_both p o Expand (inr needs) decides = above o.clauses (clause_total p.imp) needs.many decides.1

pub deciders_decide : DecidersDecide
deciders_decide p o lines climb (r, requested, decides) verdict = not_both p o r (All-contains (MayLeaveOpen p o) (requested_rungs o) r (climbs_leave_open p o lines climb verdict) requested) decides
