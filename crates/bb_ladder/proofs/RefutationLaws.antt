-- The answer to a formula and clause additions is one, and says what it is meant to say.
use Rattle.std.proofs.Common.{◌≡◌, ◌⊎◌, ℕ, List, arith, codes, inl, inr, refl, sym, ◌∙◌, ap, subst}
use Rattle.std.specs.Prelude.{Result, Ok, Err, IfOk}
use Rattle.bb_cnf.specs.declared.clauses.Lit.{Lit}
use Rattle.bb_cnf.specs.Clauses.{Formula}
use Rattle.bb_rup.specs.Additions.{IsFirstWithout}
use Rattle.bb_rup.specs.Dimacs.{additions_of, dimacs_of}
use Rattle.bb_rup.specs.Laws.{AdditionsLaws}
use Rattle.bb_rup.specs.declared.fault.RupFault.{RupFault}
use Rattle.bb_rup.specs.declared.fault.RupFault.TheVariants.{NoMemory}
use Rattle.bb_frontend.specs.Refusals.{refusal}
use Rattle.bb_verdict.specs.declared.answer.Answer.{Answer}
use Rattle.bb_ladder.specs.Refutations.{rup_words, no_line, AreRead, IsCheckRefusal, OfFormula, OfAdditions, IsRefutationReport, Yes, No, Checks, Faulty, Checked, Refutes, FailsAt, ReportsWhether, CheckLaws}

-- a text is read once
ok_same : {A : Type 0} (a b : A) (r : Result A RupFault) → r ≡ Ok a → r ≡ Ok b → a ≡ b
ok_same a b r x y = cc

err_same : {A : Type 0} (a b : RupFault) (r : Result A RupFault) → r ≡ Err a → r ≡ Err b → a ≡ b
err_same a b r x y = cc

ok_err : {A : Type 0} (a : A) (b : RupFault) (r : Result A RupFault) → r ≡ Ok a → r ≡ Err b → ⊥
ok_err a b r x y = no (sym x ∙ y)
  where
    no : Ok a ≡ Err b → ⊥
    no e = cc e

-- texts that are read are not refused
read_unrefused : (first second line : List ℕ) (formula : Formula) (adds : List (List Lit)) → AreRead first second formula adds → IsCheckRefusal first second line → ⊥
read_unrefused first second line formula adds read (OfFormula fault reports t) = ok_err formula fault (dimacs_of first) read.reads_formula reports
read_unrefused first second line formula adds read (OfAdditions other fault reports wrong t) =
    let same : other ≡ formula = ok_same other formula (dimacs_of first) reports read.reads_formula in
    ok_err adds fault (additions_of second formula.vars) read.reads_additions (subst (λ (z : Formula). additions_of second z.vars ≡ Err fault) same wrong)

-- they have one refusal
one_refusal : (first second line other : List ℕ) → IsCheckRefusal first second line → IsCheckRefusal first second other → line ≡ other
one_refusal first second line other (OfFormula a x t) (OfFormula b y u) = t ∙ ap (λ f. refusal (codes "cnf") (rup_words f)) (err_same a b (dimacs_of first) x y) ∙ sym u
one_refusal first second line other (OfFormula a x t) (OfAdditions g b y v u) = absurd (ok_err g a (dimacs_of first) y x)
one_refusal first second line other (OfAdditions f a x w t) (OfFormula b y u) = absurd (ok_err f b (dimacs_of first) x y)
one_refusal first second line other (OfAdditions f a x w t) (OfAdditions g b y v u) =
    let same : g ≡ f = ok_same g f (dimacs_of first) y x in
    let also = subst (λ (z : Formula). additions_of second z.vars ≡ Err b) same v in
    t ∙ ap (λ z. refusal (codes "rup") (rup_words z)) (err_same a b (additions_of second f.vars) w also) ∙ sym u

-- and are read once
same_formula : (first second : List ℕ) (f g : Formula) (a b : List (List Lit)) → AreRead first second f a → AreRead first second g b → f ≡ g
same_formula first second f g a b x y = ok_same f g (dimacs_of first) x.reads_formula y.reads_formula

same_adds : (first second : List ℕ) (f g : Formula) (a b : List (List Lit)) → AreRead first second f a → AreRead first second g b → a ≡ b
same_adds first second f g a b x y =
    ok_same a b (additions_of second f.vars) x.reads_additions (subst (λ (z : Formula). additions_of second z.vars ≡ Ok b) (sym (same_formula first second f g a b x y)) y.reads_additions)

module _ (laws : AdditionsLaws) where
  -- what is reported of additions is one
  reports_one : (clauses adds : List (List Lit)) (status other : ℕ) (text reported : List ℕ) → IsRefutationReport clauses adds status text → IsRefutationReport clauses adds other reported → (status ≡ other) × (text ≡ reported)
  reports_one clauses adds status other text reported (Yes x s t) (Yes y u v) = (s ∙ sym u, t ∙ sym v)
  reports_one clauses adds status other text reported (Yes x s t) (No n y u v) = absurd (laws.not_both clauses adds n x y)
  reports_one clauses adds status other text reported (No n x s t) (Yes y u v) = absurd (laws.not_both clauses adds n y x)
  reports_one clauses adds status other text reported (No n x s t) (No m y u v) = (s ∙ sym u, t ∙ ap no_line (laws.one_number clauses adds n m x y) ∙ sym v)

  moved : (first second : List ℕ) (f g : Formula) (a b : List (List Lit)) (status : ℕ) (text : List ℕ) → AreRead first second f a → AreRead first second g b → IsRefutationReport g.clauses b status text → IsRefutationReport f.clauses a status text
  moved first second f g a b status text x y is_report =
      subst (λ (z : Formula). IsRefutationReport z.clauses a status text) (sym (same_formula first second f g a b x y)) (subst (λ z. IsRefutationReport g.clauses z status text) (sym (same_adds first second f g a b x y)) is_report)

  one : (first second : List ℕ) (status other : ℕ) (text reported : List ℕ) → Checks first second status text → Checks first second other reported → (status ≡ other) × (text ≡ reported)
  one first second status other text reported (Faulty r s) (Faulty q u) = (s ∙ sym u, one_refusal first second text reported r q)
  one first second status other text reported (Faulty r s) (Checked g b y v) = absurd (read_unrefused first second text g b y r)
  one first second status other text reported (Checked f a x t) (Faulty q u) = absurd (read_unrefused first second reported f a x q)
  one first second status other text reported (Checked f a x t) (Checked g b y v) =
      reports_one f.clauses a status other text reported t (moved first second f g a b other reported x y v)

  reports_some : (clauses adds : List (List Lit)) → (status : ℕ) × (text : List ℕ) × IsRefutationReport clauses adds status text
  reports_some clauses adds = elim (laws.either clauses adds) [
    | inl good ↦ (0, codes "rup yes\n", Yes good refl refl)
    | inr bad ↦ (1, no_line bad.0, No bad.0 bad.1 refl refl)
  ]

  some : (first second : List ℕ) → (status : ℕ) × (text : List ℕ) × Checks first second status text
  some first second = by (dimacs_of first) refl
    where
      with_formula : (formula : Formula) → dimacs_of first ≡ Ok formula → (r : Result (List (List Lit)) RupFault) → additions_of second formula.vars ≡ r → (status : ℕ) × (text : List ℕ) × Checks first second status text
      with_formula formula e (Err fault) g = (2, refusal (codes "rup") (rup_words fault), Faulty (OfAdditions formula fault e g refl) refl)
      with_formula formula e (Ok adds) g =
          let t = reports_some formula.clauses adds in (t.0, t.1, Checked formula adds (record { reads_formula = e; reads_additions = g }) t.2)

      by : (r : Result Formula RupFault) → dimacs_of first ≡ r → (status : ℕ) × (text : List ℕ) × Checks first second status text
      by (Err fault) e = (2, refusal (codes "cnf") (rup_words fault), Faulty (OfFormula fault e refl) refl)
      by (Ok formula) e = with_formula formula e (additions_of second formula.vars) refl

  yes : (first second : List ℕ) (status : ℕ) (text : List ℕ) → Checks first second status text → status ≡ 0 → (text ≡ codes "rup yes\n") × Refutes first second
  yes first second status text (Faulty r s) zero = absurd (omega (arith, s, zero))
  yes first second status text (Checked f a x (Yes y s t)) zero = (t, (f, a, x, y, laws.no_model f.clauses a y))
  yes first second status text (Checked f a x (No n y s t)) zero = absurd (omega (arith, s, zero))

  no : (first second : List ℕ) (status : ℕ) (text : List ℕ) → Checks first second status text → status ≡ 1 → (n : ℕ) × (text ≡ no_line n) × FailsAt first second n
  no first second status text (Faulty r s) one = absurd (omega (arith, s, one))
  no first second status text (Checked f a x (Yes y s t)) one = absurd (omega (arith, s, one))
  no first second status text (Checked f a x (No n y s t)) one = (n, t, (f, a, x, y))

  refused : (first second : List ℕ) (status : ℕ) (text : List ℕ) → Checks first second status text → status ≡ 2 → IsCheckRefusal first second text
  refused first second status text (Faulty r s) two = r
  refused first second status text (Checked f a x (Yes y s t)) two = absurd (omega (arith, s, two))
  refused first second status text (Checked f a x (No n y s t)) two = absurd (omega (arith, s, two))

  stays_refused : (first second : List ℕ) (status : ℕ) (text line : List ℕ) → Checks first second status text → IsCheckRefusal first second line → (status ≡ 2) × (text ≡ line)
  stays_refused first second status text line (Faulty r s) is = (s, one_refusal first second text line r is)
  stays_refused first second status text line (Checked f a x t) is = absurd (read_unrefused first second line f a x is)

  decided : (first second : List ℕ) (formula : Formula) (adds : List (List Lit)) (status : ℕ) (text : List ℕ) → AreRead first second formula adds → Checks first second status text → ReportsWhether formula adds status
  decided first second formula adds status text read (Faulty r s) = absurd (read_unrefused first second text formula adds read r)
  decided first second formula adds status text read (Checked f a x t) = by (moved first second formula f adds a status text read x t)
    where
      by : IsRefutationReport formula.clauses adds status text → ReportsWhether formula adds status
      by (Yes y s u) = inl (s, y)
      by (No n y s u) = inr (s, (λ succeed. laws.not_both formula.clauses adds n succeed y))

  small : (first second : List ℕ) (status : ℕ) (text : List ℕ) → Checks first second status text → (status ≡ 3 → ⊥) × (status ≡ 4 → ⊥)
  small first second status text (Faulty r s) = ((λ e. omega (arith, s, e)), (λ e. omega (arith, s, e)))
  small first second status text (Checked f a x (Yes y s t)) = ((λ e. omega (arith, s, e)), (λ e. omega (arith, s, e)))
  small first second status text (Checked f a x (No n y s t)) = ((λ e. omega (arith, s, e)), (λ e. omega (arith, s, e)))

  pub check_laws : CheckLaws
  check_laws = record { one = one; some = some; yes = yes; no = no; refused = refused; stays_refused = stays_refused; decided = decided; small = small }

-- what the code says of a fault, unless memory ran out, is a refusal of the texts

pub formula_refused : {E : Type 0} (first second : List ℕ) (fault : RupFault) → (fault ≡ NoMemory) ⊎ (dimacs_of first ≡ Err fault) → (result : Result Answer E)
    → IfOk result (λ a. a.status ≡ 2) → IfOk result (λ a. a.report.items ≡ refusal (codes "cnf") (rup_words fault)) → IfOk result (λ a. fault ≡ NoMemory → ⊥) → IfOk result (λ a. Checks first second a.status a.report.items)
formula_refused first second fault (inl none) (Ok a) s t never = absurd (never none)
formula_refused first second fault (inr is) (Ok a) s t never = Faulty (OfFormula fault is t) s
formula_refused first second fault may (Err e) s t never = s

pub additions_refused : {E : Type 0} (formula : Formula) (second : List ℕ) (fault : RupFault) → (fault ≡ NoMemory) ⊎ (additions_of second formula.vars ≡ Err fault) → (result : Result Answer E)
    → IfOk result (λ a. a.status ≡ 2) → IfOk result (λ a. a.report.items ≡ refusal (codes "rup") (rup_words fault)) → IfOk result (λ a. fault ≡ NoMemory → ⊥)
    → IfOk result (λ a. (first : List ℕ) → dimacs_of first ≡ Ok formula → Checks first second a.status a.report.items)
additions_refused formula second fault (inl none) (Ok a) s t never = absurd (never none)
additions_refused formula second fault (inr is) (Ok a) s t never = λ first reports. Faulty (OfAdditions formula fault reports is t) s
additions_refused formula second fault may (Err e) s t never = s

pub checked : {E : Type 0} (formula : Formula) (second : List ℕ) (adds : List (List Lit)) → additions_of second formula.vars ≡ Ok adds → (result : Result Answer E)
    → IfOk result (λ a. IsRefutationReport formula.clauses adds a.status a.report.items) → IfOk result (λ a. (first : List ℕ) → dimacs_of first ≡ Ok formula → Checks first second a.status a.report.items)
checked formula second adds read (Ok a) is_report = λ first reports. Checked formula adds (record { reads_formula = reports; reads_additions = read }) is_report
checked formula second adds read (Err e) h = h

pub no_reported : {E : Type 0} (clauses adds : List (List Lit)) (n : ℕ) (result : Result Answer E) → IsFirstWithout clauses adds n
    → IfOk result (λ a. (a.status ≡ 1) × (a.report.items ≡ no_line n)) → IfOk result (λ a. IsRefutationReport clauses adds a.status a.report.items)
no_reported clauses adds n (Ok a) is reported = No n is reported.0 reported.1
no_reported clauses adds n (Err e) is reported = reported
