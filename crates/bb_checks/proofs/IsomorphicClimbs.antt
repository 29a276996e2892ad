-- Reports of pairs that are alike are the same, but for what follows the line of the expansion, and but for this line where it may
-- depend on the search; so all climbs of them, and all of one pair, have the same lines. And no two of them contradict each other.
use Rattle.std.proofs.Common.{◌≡◌, ◌⊎◌, ◌<◌, ◌^◌, ◌&&◌, ◌||◌, Bool, true, false, not, if◌then◌else◌, List, [], ◌∷◌, ◌++◌, ℕ, map, AllPairs, Contains, true≢false, inl, inr, refl, sym, ap₂, subst, ◌∙◌, arith}
use Rattle.std.specs.Prelude.{codes}
use Rattle.std.specs.List.{AllZip, list_any}
use Rattle.std.proofs.lemmas.List.Elements.{All-head}
use Rattle.bb_lemmas.proofs.Apart.{pairs_tail}
use Rattle.bb_lemmas.proofs.Members.{contains_here, contains_there}
use Rattle.bb_net.specs.Kinds.{representatives}
use Rattle.bb_net.specs.Pairs.{NetPair, IsPair}
use Rattle.bb_iso.specs.Laws.Isomorphism.{AreIsomorphicPairs}
use Rattle.bb_expand.specs.declared.expanded.Expanded.TheVariants as expanded
use Rattle.bb_checks.specs.declared.line.Evidence.TheVariants.{Vector, NoChoices, Refutation}
use Rattle.bb_checks.specs.declared.line.Line.{Line}
use Rattle.bb_checks.specs.declared.line.CheckResult.{CheckResult}
use Rattle.bb_checks.specs.declared.line.CheckResult.TheVariants.{Error, Nothing, Repair, Nodes, Clauses, Wide}
use Rattle.bb_options.specs.declared.options.Options.{Options}
use Rattle.bb_options.specs.declared.rung.Rung.{Rung}
use Rattle.bb_options.specs.declared.rung.Rung.TheVariants.{Ternary, Symbolic, Local, Output, Input, Expand}
use Rattle.bb_checks.specs.Laws.IsomorphicPairs.{AreReportedTheSame, AreReportedTheSameBefore, IsomorphicPairsHaveOneReport, IsomorphicPairsHaveOneBeginning, IsomorphicClimbsReportTheSame, IsomorphicPairsNeverClash}
use Rattle.bb_checks.specs.Laws.{ClimbsReportTheSame, ErrorsExcludeTables, RepairsMakeEquivalent}
use Rattle.bb_checks.specs.Laws.Searches.{MayDependOnSearch}
use Rattle.bb_checks.specs.declared.verdict.Verdict.TheVariants as verdicts
use Rattle.bb_checks.specs.Reports.{details, input_line, rung_line, reported_output}
use Rattle.bb_options.specs.Rungs.{requested_rungs, rank, rung_name}
use Rattle.bb_checks.specs.Rungs.{MayReport, TooWide, ClausesTooMany, Decided, Climbs, IsClimb, Top, End, Step, ends, is_error, is_repair}
use Rattle.bb_checks.specs.TableLines.{table_lines}
use Rattle.bb_checks.specs.Inside.IsomorphismLaws.{PairLaws}
use Rattle.bb_checks.proofs.IsomorphicShared.{Share, isomorphic_itself, bits_isomorphic, share, share_back, shared_completion_isomorphic}
use Rattle.bb_checks.proofs.IsomorphicReported.{IsRefuted, reported_or_refuted}
use Rattle.bb_checks.proofs.StayLaw.{requested_rise, first_rises}
use Rattle.bb_checks.proofs.IsomorphicChecks.{depends_isomorphic}
use Rattle.bb_checks.proofs.OneWord.{IsFixed, OneLaws, SayIsomorphic, above, by_reported, said_isomorphic, say_isomorphic}

is_expand : (r : Rung) → (r ≡ Expand) ⊎ (r ≡ Expand → ⊥)
is_expand Ternary = inr (λ e. cc e)
is_expand Symbolic = inr (λ e. cc e)
is_expand Local = inr (λ e. cc e)
is_expand Output = inr (λ e. cc e)
is_expand Input = inr (λ e. cc e)
is_expand Expand = inl refl

last_of_all : (s : Rung) → rank Expand < rank s → ⊥
last_of_all Ternary l = omega (arith, l)
last_of_all Symbolic l = omega (arith, l)
last_of_all Local l = omega (arith, l)
last_of_all Output l = omega (arith, l)
last_of_all Input l = omega (arith, l)
last_of_all Expand l = omega (arith, l)

-- the expansion is the last check
none_after : (p : NetPair) (o : Options) (r : Rung) (rest : List Rung) → AllPairs (λ r s. rank r < rank s) (r ∷ rest) → r ≡ Expand → (ms : List Line) → Climbs p o rest ms → ms ≡ []
none_after p o r [] rise e [] Top = refl
none_after p o r [] rise e (m ∷ ms) climb = elim climb [ ]
none_after p o r (s ∷ rest) rise e ms climb =
    absurd (last_of_all s (subst (λ z. rank z < rank s) e (All-head (λ x. rank r < rank x) s rest (first_rises (λ r s. rank r < rank s) r (s ∷ rest) rise))))

module _ (laws : OneLaws) (p q : NetPair) (to : Share p q) (from : Share q p) (alike : AreIsomorphicPairs p q) (o : Options) (kept : IsPair q) where
  -- where the clauses of the one are refuted, those of the other are
  refuted_isomorphic : (r : Rung) (s t : CheckResult) → (r ≡ Expand → IsFixed q o) → IsRefuted p o r s → MayReport q o Expand t → SayIsomorphic q o r s t
  refuted_isomorphic r s t fixed h (TooWide wide same) = absurd (above _ _ (subst (λ n. 2 ^ 24 < n) (sym (bits_isomorphic p q to)) wide) h.small)
  refuted_isomorphic r s t fixed h (ClausesTooMany small many same) = absurd (fixed h.at small many)
  refuted_isomorphic r s t fixed h (Decided small (expanded.Error vectors cnf refutation) is same) = by_reported q o r s t _ _ h.same same (say_isomorphic q o r _ _ refl refl refl (λ plain. absurd (plain h.at)))
  refuted_isomorphic r s t fixed h (Decided small (expanded.Repair tables) is same) =
      let own = shared_completion_isomorphic q p from tables.items is in absurd (h.none tables.items own.fit own.agree)

  pairs_isomorphic : (r : Rung) (s t : CheckResult) → (r ≡ Expand → IsFixed q o) → MayReport p o r s → MayReport q o r t → SayIsomorphic q o r s t
  pairs_isomorphic r s t fixed one other = elim (reported_or_refuted p q to from o r s one) [
    | inl reported ↦ said_isomorphic laws q o kept r s t fixed reported other
    | inr refuted ↦ refuted_isomorphic r s t fixed refuted (subst (λ rung. MayReport q o rung t) refuted.at other)
  ]

  -- everything is called the same
  same_details : (s : CheckResult) → details p o s ≡ details q o s
  same_details (Error (Vector found)) = ap₂ (λ outs ins. reported_output outs found.output ++ input_line ins found.input.items) alike.outs alike.ins
  same_details (Error NoChoices) = refl
  same_details (Error (Refutation proof)) = refl
  same_details Nothing = refl
  same_details (Repair tables) = ap₂ (λ ks boxes. table_lines o.shared (representatives ks boxes) tables.items) alike.kinds alike.boxes
  same_details Nodes = refl
  same_details Clauses = refl
  same_details Wide = refl

  same_line : (r : Rung) (l m : Line) → l.rung ≡ r → m.rung ≡ r → SayIsomorphic q o r l.check_result m.check_result → rung_line l ≡ rung_line m
  same_line r l m at also h = ap₂ named (at ∙ sym also) h.word
    where
      named : Rung → List ℕ → List ℕ
      named rung word = codes "rung " ++ rung_name rung ++ codes " " ++ word ++ codes "\n"

  -- two lines of one check: the same, but for what may depend on the search
  record AreLines (l m : Line) : Type 0 where
    before : AreReportedTheSameBefore p q o l m
    line : (MayDependOnSearch p o → ⊥) → rung_line l ≡ rung_line m

  lines_isomorphic : (r : Rung) (l m : Line) → Contains (requested_rungs o) r → l.rung ≡ r → m.rung ≡ r → MayReport p o r l.check_result → MayReport q o r m.check_result → AreLines l m
  lines_isomorphic r l m requested at also reports reportable = record {
    before = record {
      rung = at ∙ sym also;
      text = λ plain.
          let same = pairs_isomorphic r l.check_result m.check_result (λ e. absurd (plain (at ∙ e))) reports reportable in
          ap₂ ◌++◌ (same_line r l m at also same) (same_details l.check_result ∙ same.text (λ e. plain (at ∙ e)));
    };
    line = λ none.
        let fixed : r ≡ Expand → IsFixed q o = λ e small needs. none (depends_isomorphic q p from to o (record { requested = subst (Contains (requested_rungs o)) e requested; small = small; needs = needs })) in
        same_line r l m at also (pairs_isomorphic r l.check_result m.check_result fixed reports reportable);
  }

  same_ends : (r : Rung) (l m : Line) → SayIsomorphic q o r l.check_result m.check_result → ends o l ≡ ends o m
  same_ends r l m h = ap₂ (λ repair error. repair || (error && not o.all)) h.repair h.error

  -- before the expansion both end or both go on
  not_ends : {T : Type 0} (r : Rung) (l m : Line) → (r ≡ Expand → ⊥) → MayReport p o r l.check_result → MayReport q o r m.check_result → (b : Bool) → ends o l ≡ b → ends o m ≡ not b → T
  not_ends r l m plain reports reportable b one other = absurd (never b (sym one ∙ same_ends r l m (pairs_isomorphic r l.check_result m.check_result (λ e. absurd (plain e)) reports reportable) ∙ other))
    where
      never : (b : Bool) → b ≡ not b → ⊥
      never true e = true≢false e
      never false e = true≢false (sym e)

  climbs_isomorphic : (rungs : List Rung) → ((r : Rung) → Contains rungs r → Contains (requested_rungs o) r) → AllPairs (λ r s. rank r < rank s) rungs → (ls ms : List Line) → Climbs p o rungs ls → Climbs q o rungs ms → AllZip AreLines ls ms
  climbs_isomorphic [] requested rise [] [] Top Top = record {}
  climbs_isomorphic [] requested rise [] (m ∷ ms) Top climb = elim climb [ ]
  climbs_isomorphic [] requested rise (l ∷ ls) ms climb other = elim climb [ ]
  climbs_isomorphic (r ∷ rest) requested rise [] ms climb other = elim climb [ ]
  climbs_isomorphic (r ∷ rest) requested rise (l ∷ ls) [] climb other = elim other [ ]
  climbs_isomorphic (r ∷ rest) requested rise (l ∷ []) (m ∷ []) (End at reports last) (End also reportable done) = (lines_isomorphic r l m (requested r (contains_here r rest)) at also reports reportable, record {})
  climbs_isomorphic (r ∷ rest) requested rise (l ∷ []) (m ∷ ms) (End at reports last) (Step also reportable on after) = elim (is_expand r) [
    | inl e ↦ subst (λ more. AllZip AreLines (l ∷ []) (m ∷ more)) (sym (none_after q o r rest rise e ms after)) (lines_isomorphic r l m (requested r (contains_here r rest)) at also reports reportable, record {})
    | inr plain ↦ not_ends r l m plain reports reportable true last on
  ]
  climbs_isomorphic (r ∷ rest) requested rise (l ∷ ls) (m ∷ []) (Step at reports on after) (End also reportable done) = elim (is_expand r) [
    | inl e ↦ subst (λ more. AllZip AreLines (l ∷ more) (m ∷ [])) (sym (none_after p o r rest rise e ls after)) (lines_isomorphic r l m (requested r (contains_here r rest)) at also reports reportable, record {})
    | inr plain ↦ not_ends r l m plain reports reportable false on done
  ]
  climbs_isomorphic (r ∷ rest) requested rise (l ∷ ls) (m ∷ ms) (Step at reports on after) (Step also reportable off more) = (
    lines_isomorphic r l m (requested r (contains_here r rest)) at also reports reportable,
    climbs_isomorphic rest (λ s has. requested s (contains_there r rest s has)) (pairs_tail (λ r s. rank r < rank s) r rest rise) ls ms after more,
  )

  all_isomorphic : (lines others : List Line) → IsClimb p o lines → IsClimb q o others → AllZip AreLines lines others
  all_isomorphic = climbs_isomorphic (requested_rungs o) (λ r has. has) (requested_rise o)

-- what holds place by place
each : {R S : Line → Line → Type 0} → ((l m : Line) → R l m → S l m) → (ls ms : List Line) → AllZip R ls ms → AllZip S ls ms
each by [] [] h = h
each by [] (m ∷ ms) h = h
each by (l ∷ ls) [] h = h
each by (l ∷ ls) (m ∷ ms) h = (by l m h.0, each by ls ms h.1)

pub isomorphic_pairs_have_one_report : PairLaws → OneLaws → IsomorphicPairsHaveOneReport
isomorphic_pairs_have_one_report laws one p q o lines others kept other alike climb climbs fixed =
    each (λ l m h. record { before = h.before; line = h.line fixed }) lines others (all_isomorphic one p q (share laws p q kept other alike) (share_back laws p q kept other alike) alike o other lines others climb climbs)

pub isomorphic_reports_begin_as_one : PairLaws → OneLaws → IsomorphicPairsHaveOneBeginning
isomorphic_reports_begin_as_one laws one p q o lines others kept other alike climb climbs =
    each (λ l m h. h.before) lines others (all_isomorphic one p q (share laws p q kept other alike) (share_back laws p q kept other alike) alike o other lines others climb climbs)

same_lines : (p q : NetPair) (o : Options) (ls ms : List Line) → AllZip (AreReportedTheSame p q o) ls ms → map rung_line ls ≡ map rung_line ms
same_lines p q o [] [] h = refl
same_lines p q o [] (m ∷ ms) h = absurd h
same_lines p q o (l ∷ ls) [] h = absurd h
same_lines p q o (l ∷ ls) (m ∷ ms) h = ap₂ (λ t ts. t ∷ ts) h.0.line (same_lines p q o ls ms h.1)

pub isomorphic_climbs_report_the_same : IsomorphicPairsHaveOneReport → IsomorphicClimbsReportTheSame
isomorphic_climbs_report_the_same line_reports p q o lines others kept other alike climb climbs fixed = same_lines p q o lines others (line_reports p q o lines others kept other alike climb climbs fixed)

-- a pair is alike to itself
pub climbs_report_the_same : IsomorphicClimbsReportTheSame → ClimbsReportTheSame
climbs_report_the_same pairs p o lines others kept climb climbs fixed = pairs p p o lines others kept kept (isomorphic_itself p) climb climbs fixed

-- tables that agree for the one agree for the other
reports_error : (a b : Bool) → (if a then verdicts.Error else (if b then verdicts.Repairable else verdicts.Open)) ≡ verdicts.Error → a ≡ true
reports_error true b e = refl
reports_error false true e = cc e
reports_error false false e = cc e

pub isomorphic_pairs_never_clash : PairLaws → ErrorsExcludeTables → RepairsMakeEquivalent → IsomorphicPairsNeverClash
isomorphic_pairs_never_clash laws excludes repairs p q o lines others kept other alike climb climbs error repair =
    let (tables, given, complete, ends) = repairs q o others other climbs repair in
    let own = shared_completion_isomorphic q p (share_back laws p q kept other alike) tables complete in
    excludes p o lines kept climb (reports_error (list_any is_error lines) (list_any is_repair lines) error) tables own.fit own.agree
