-- Tables that a check gives agree. Where the verdict is that the design can be finished, the last check gives some, and the report ends with them.
use Rattle.std.proofs.Common.{◌≡◌, ◌&&◌, ◌||◌, Bool, true, false, not, if◌then◌else◌, List, [], ◌∷◌, ◌++◌, append_assoc, true≢false, refl, sym, ap, subst, ◌∙◌, ◌⊎◌, inl, inr, Contains}
use Rattle.std.specs.List.{list_any, flat_map}
use Rattle.std.specs.Prelude.{Vec}
use Rattle.std.specs.declared.alloc.Global.{Global}
use Rattle.std.proofs.lemmas.List.{append-nil}
use Rattle.std.proofs.lemmas.List.Elements.{All-contains}
use Rattle.bb_lemmas.proofs.Bits.{neither, neither_left}
use Rattle.bb_bits.specs.Tables.{TableBits}
use Rattle.bb_net.specs.Kinds.{AreSharedCompletion, representatives}
use Rattle.bb_net.specs.Pairs.{NetPair, IsPair}
use Rattle.bb_expand.specs.declared.expanded.Expanded.TheVariants as expanded
use Rattle.bb_input.specs.declared.InputAnswer.TheVariants as choices
use Rattle.bb_checks.specs.declared.line.Line.{Line}
use Rattle.bb_checks.specs.declared.line.CheckResult.{CheckResult}
use Rattle.bb_checks.specs.declared.line.CheckResult.TheVariants.{Error, Nothing, Repair, Nodes, Clauses, Wide}
use Rattle.bb_options.specs.declared.options.Options.{Options}
use Rattle.bb_options.specs.declared.rung.Rung.{Rung}
use Rattle.bb_options.specs.declared.rung.Rung.TheVariants.{Ternary, Symbolic, Local, Output, Input, Expand}
use Rattle.bb_checks.specs.declared.verdict.Verdict.TheVariants as verdicts
use Rattle.bb_checks.specs.Inside.KindLaws.{KindLaws}
use Rattle.bb_checks.specs.Laws.{GivenTablesMakeEquivalent, RepairsMakeEquivalent, TablesAreGivenOnce}
use Rattle.bb_checks.specs.Reports.{GivesTables, details, check_line_text, rung_line, verdict_line}
use Rattle.bb_checks.specs.Rungs.{MayReport, Hit, NoHit, TooMany, Finding, Without, ChoicesTooMany, Answered, TooWide, ClausesTooMany, Decided, Climbs, Top, End, Step, reports_error, reports_repair, is_error, is_repair}
use Rattle.bb_checks.specs.TableLines.{table_lines}
use Rattle.bb_checks.proofs.ShownBoxes.{apart_shared}
use Rattle.bb_lemmas.proofs.Members.{contains_cases, contains_here, contains_there, none_in_nil}
use Rattle.bb_checks.proofs.ReportedLaw.{climb_each}

-- the verdict that the design can be finished: no check says that there is an error, and one gives tables
repairs_alone : (a b : Bool) → (if a then verdicts.Error else (if b then verdicts.Repairable else verdicts.Open)) ≡ verdicts.Repairable → (a ≡ false) × (b ≡ true)
repairs_alone false true e = (refl, refl)
repairs_alone true b e = cc e
repairs_alone false false e = cc e

in_rest : (a b : Bool) → (a || b) ≡ true → a ≡ false → b ≡ true
in_rest true b h off = absurd (true≢false off)
in_rest false b h off = h

only : (b : Bool) → (b || false) ≡ true → b ≡ true
only true e = refl
only false e = e

same_tables : (a b : Vec TableBits Global) → Repair a ≡ Repair b → a ≡ b
same_tables a b e = cc

-- nothing follows a line that says neither
quiet : (p : NetPair) (o : Options) (check_result : CheckResult) → reports_error check_result ≡ false → reports_repair check_result ≡ false → details p o check_result ≡ []
quiet p o (Error evidence) off none = absurd (true≢false off)
quiet p o Nothing off none = refl
quiet p o (Repair tables) off none = absurd (true≢false none)
quiet p o Nodes off none = refl
quiet p o Clauses off none = refl
quiet p o Wide off none = refl

-- lines that end with tables that agree
record EndsSo (p : NetPair) (o : Options) (lines : List Line) : Type 0 where
  pub tables : List TableBits
  pub given : GivesTables lines tables
  pub complete : AreSharedCompletion p.spec p.imp p.kinds tables
  pub text : flat_map (check_line_text p o) lines ≡ flat_map rung_line lines ++ table_lines o.shared (representatives p.kinds p.boxes) tables

module _ (kinds : KindLaws) (p : NetPair) (o : Options) (kept : IsPair p) where
  not_given : {T : Type 0} (check_result other : CheckResult) (given : Vec TableBits Global) → check_result ≡ other → reports_repair other ≡ false → check_result ≡ Repair given → T
  not_given check_result other given same off gave = absurd (true≢false (sym (ap reports_repair gave) ∙ ap reports_repair same ∙ off))

  -- what is given agrees
  abbrev Agrees : CheckResult → Type 0
  Agrees check_result = (given : Vec TableBits Global) → check_result ≡ Repair given → AreSharedCompletion p.spec p.imp p.kinds given.items

  is_given : (check_result : CheckResult) (tables : Vec TableBits Global) → check_result ≡ Repair tables → AreSharedCompletion p.spec p.imp p.kinds tables.items → Agrees check_result
  is_given check_result tables same complete given gave = subst (λ (z : Vec TableBits Global). AreSharedCompletion p.spec p.imp p.kinds z.items) (same_tables tables given (sym same ∙ gave)) complete

  agrees : (r : Rung) (check_result : CheckResult) → MayReport p o r check_result → Agrees check_result
  agrees Ternary check_result (Hit found j is hit same) given gave = not_given check_result _ given same refl gave
  agrees Ternary check_result (NoHit right same) given gave = not_given check_result _ given same refl gave
  agrees Symbolic check_result (TooMany many same) given gave = not_given check_result _ given same refl gave
  agrees Symbolic check_result (Finding few found is same) given gave = not_given check_result _ given same refl gave
  agrees Symbolic check_result (Without few right same) given gave = not_given check_result _ given same refl gave
  agrees Local check_result (TooMany many same) given gave = not_given check_result _ given same refl gave
  agrees Local check_result (Finding few found is same) given gave = not_given check_result _ given same refl gave
  agrees Local check_result (Without few right same) given gave = not_given check_result _ given same refl gave
  agrees Output check_result (TooMany many same) given gave = not_given check_result _ given same refl gave
  agrees Output check_result (Finding few found is same) given gave = not_given check_result _ given same refl gave
  agrees Output check_result (Without few right same) given gave = not_given check_result _ given same refl gave
  agrees Input check_result (ChoicesTooMany many same) given gave = not_given check_result _ given same refl gave
  agrees Input check_result (Answered few choices.Error is same) given gave = not_given check_result _ given same refl gave
  agrees Input check_result (Answered few choices.Clear is same) given gave = not_given check_result _ given same refl gave
  agrees Input check_result (Answered few (choices.Repair tables) is same) given gave =
      is_given check_result tables same (apart_shared kinds p.spec p.imp p.kinds tables.items kept.beside.kinds is.0.nested.apart is.1.completion) given gave
  agrees Expand check_result (TooWide wide same) given gave = not_given check_result _ given same refl gave
  agrees Expand check_result (ClausesTooMany small many same) given gave = not_given check_result _ given same refl gave
  agrees Expand check_result (Decided small (expanded.Error vectors cnf refutation) is same) given gave = not_given check_result _ given same refl gave
  agrees Expand check_result (Decided small (expanded.Repair tables) is same) given gave = is_given check_result tables same is given gave

  -- and follows the line
  abbrev Gives : CheckResult → Type 0
  Gives check_result = (given : Vec TableBits Global) × AreSharedCompletion p.spec p.imp p.kinds given.items × (check_result ≡ Repair given)

  gives : (check_result : CheckResult) → Agrees check_result → reports_repair check_result ≡ true → Gives check_result
  gives (Error evidence) agree on = absurd (true≢false (sym on))
  gives Nothing agree on = absurd (true≢false (sym on))
  gives (Repair tables) agree on = (tables, agree tables refl, refl)
  gives Nodes agree on = absurd (true≢false (sym on))
  gives Clauses agree on = absurd (true≢false (sym on))
  gives Wide agree on = absurd (true≢false (sym on))

  last_line : (line : Line) → Gives line.check_result → EndsSo p o (line ∷ [])
  last_line line given = record {
    tables = given.0.items;
    given = (line, given.0, contains_here line [], given.2, refl);
    complete = given.1;
    text =
        append-nil (check_line_text p o line)
        ∙ ap (λ check_result. rung_line line ++ details p o check_result) given.2
        ∙ ap (λ t. t ++ table_lines o.shared (representatives p.kinds p.boxes) given.0.items) (sym (append-nil (rung_line line)));
  }

  one_more : (line : Line) (more : List Line) → details p o line.check_result ≡ [] → EndsSo p o more → EndsSo p o (line ∷ more)
  one_more line more none rest = record {
    tables = rest.tables;
    given = let (last, given, has, gave, same) = rest.given in (last, given, contains_there line more last has, gave, same);
    complete = rest.complete;
    text =
        ap (λ t. (rung_line line ++ t) ++ flat_map (check_line_text p o) more) none
        ∙ ap (λ t. t ++ flat_map (check_line_text p o) more) (append-nil (rung_line line))
        ∙ ap (λ t. rung_line line ++ t) rest.text
        ∙ sym (append_assoc (rung_line line) (flat_map rung_line more) (table_lines o.shared (representatives p.kinds p.boxes) rest.tables));
  }

  climb_gives : (rungs : List Rung) (lines : List Line) → Climbs p o rungs lines → list_any is_error lines ≡ false → list_any is_repair lines ≡ true → EndsSo p o lines
  climb_gives [] [] Top off any = absurd (true≢false (sym any))
  climb_gives [] (line ∷ more) climb off any = elim climb [ ]
  climb_gives (r ∷ rest) [] climb off any = elim climb [ ]
  climb_gives (r ∷ rest) (line ∷ []) (End is reports last) off any = last_line line (gives line.check_result (agrees r line.check_result reports) (only (is_repair line) any))
  climb_gives (r ∷ rest) (line ∷ more) (Step is reports on after) off any =
      let error_off = neither (is_error line) (list_any is_error more) off in
      let repair_off = neither_left (is_repair line) (is_error line && not o.all) on in
      one_more line more (quiet p o line.check_result error_off.0 repair_off) (climb_gives rest more after error_off.1 (in_rest (is_repair line) (list_any is_repair more) any repair_off))

pub repairs_make_equivalent : KindLaws → RepairsMakeEquivalent
repairs_make_equivalent kinds p o lines kept climb verdict =
    let alone = repairs_alone (list_any is_error lines) (list_any is_repair lines) verdict in
    let ends = climb_gives kinds p o kept _ lines climb alone.0 alone.1 in (
      ends.tables,
      ends.given,
      ends.complete,
      record {
        lines = lines;
        quiet = alone.0;
        whole = ap (λ v. flat_map (check_line_text p o) lines ++ verdict_line v) verdict ∙ ap (λ t. t ++ verdict_line verdicts.Repairable) ends.text;
      },
    )

-- a line after which checks go on gives none
only_later : (line : Line) (more : List Line) (tables : List TableBits) → is_repair line ≡ false → GivesTables (line ∷ more) tables → GivesTables more tables
only_later line more tables off (from, given, has, gave, same) = by (contains_cases line more from has)
  where
    by : (line ≡ from) ⊎ Contains more from → GivesTables more tables
    by (inl here) = absurd (true≢false (sym (ap reports_repair gave) ∙ sym (ap is_repair here) ∙ off))
    by (inr there) = (from, given, there, gave, same)

last_gives : (line : Line) (tables : List TableBits) → GivesTables (line ∷ []) tables → (given : Vec TableBits Global) × (line.check_result ≡ Repair given) × (given.items ≡ tables)
last_gives line tables (from, given, has, gave, same) = by (contains_cases line [] from has)
  where
    by : (line ≡ from) ⊎ Contains [] from → (given : Vec TableBits Global) × (line.check_result ≡ Repair given) × (given.items ≡ tables)
    by (inl here) = (given, ap (λ (z : Line). z.check_result) here ∙ gave, same)
    by (inr there) = absurd (none_in_nil from there)

given_once : (p : NetPair) (o : Options) (rungs : List Rung) (lines : List Line) (tables others : List TableBits) → Climbs p o rungs lines → GivesTables lines tables → GivesTables lines others → tables ≡ others
given_once p o [] [] tables others Top (line, given, has, gave, same) also = absurd (none_in_nil line has)
given_once p o [] (line ∷ more) tables others climb gives also = elim climb [ ]
given_once p o (r ∷ rest) [] tables others climb gives also = elim climb [ ]
given_once p o (r ∷ rest) (line ∷ []) tables others (End is reports last) gives also =
    let one = last_gives line tables gives in
    let other = last_gives line others also in
    sym one.2 ∙ ap (λ (z : Vec TableBits Global). z.items) (same_tables one.0 other.0 (sym one.1 ∙ other.1)) ∙ other.2
given_once p o (r ∷ rest) (line ∷ more) tables others (Step is reports on after) gives also =
    let off = neither_left (is_repair line) (is_error line && not o.all) on in
    given_once p o rest more tables others after (only_later line more tables off gives) (only_later line more others off also)

pub tables_are_given_once : TablesAreGivenOnce
tables_are_given_once p o lines tables others climb gives also = given_once p o _ lines tables others climb gives also

pub given_tables_make_equivalent : KindLaws → GivenTablesMakeEquivalent
given_tables_make_equivalent kinds p o lines tables kept climb (line, given, has, gave, same) =
    let each = climb_each p o (Agrees kinds p o kept) (agrees kinds p o kept) _ lines climb in
    subst (AreSharedCompletion p.spec p.imp p.kinds) same (All-contains (λ (line : Line). Agrees kinds p o kept line.check_result) lines line each has given gave)
