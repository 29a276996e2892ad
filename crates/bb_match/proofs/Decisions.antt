-- Of each cause it can be reported whether it holds; so two netlists fit or have a first refusal.
use Rattle.std.proofs.Common.{◌≡◌, ◌≢◌, ◌⊎◌, ℕ, ◌+◌, ◌<◌, Bool, true, false, true≢false, List, [], ◌∷◌, All, Contains, Option, Some, None, refl, sym, ap, subst, ◌∙◌, inl, inr, arith}
use Rattle.std.specs.Prelude.{IfSome, IsSome}
use Rattle.std.proofs.lemmas.Bool.{cases_lt}
use Rattle.std.proofs.lemmas.List.Elements.{All-contains, All-cons, All-nil, All-weaker}
use Rattle.std.proofs.lemmas.Slice.Eq.{bytes_eq-Decides}
use Rattle.bb_lemmas.proofs.Bits.{same_or_not}
use Rattle.bb_bits.specs.Names.{same_name}
use Rattle.bb_net.specs.Pairs.{BoxTexts}
use Rattle.bb_net.specs.declared.flat.Reg.{Reg}
use Rattle.bb_bits.specs.Closures.{IsFirst}
use Rattle.bb_net.specs.Flats.{FlatNet, HaveClocks}
use Rattle.bb_match.specs.declared.fault.MatchFault.{MatchFault}
use Rattle.bb_net.specs.CutPoints.{state_texts, clock_text}
use Rattle.bb_match.specs.Refusals.{IsMissing, IsFirstMissing, AreAmong, compared, HasNoClock, IsFirstWithoutClock, IsClockedApart, IsFirstClockedApart, HasSameClock, HaveSameClocks, most_pins, input_and_pin_count, PairCause, Box, Care, SpecInput, SpecOutput, ImpInput, ImpOutput, SpecRegister, ImpRegister, SpecClock, ImpClock, Clocks, Pins, pair_cause_rank, match_fault_of, IsReported, IsAbsent, Fit, IsFirstPairRefusal}
use Rattle.bb_match.specs.Laws.{FitOrRefused}
use Rattle.bb_lemmas.proofs.Orders.{less_or_same}
use Rattle.bb_lemmas.proofs.Firsts.{first_there}
use Rattle.bb_lemmas.proofs.Members.{contains_here, contains_there, contains_cases, none_in_nil}
use Rattle.bb_match.proofs.RefusalLaws.{none_is_not_some, cause_at, at_rank, below_twelve}

-- equality of texts

pub decide_text : (a b : List ℕ) → (a ≡ b) ⊎ (a ≢ b)
decide_text a b = by (same_name a b) refl
  where
    by : (t : Bool) → same_name a b ≡ t → (a ≡ b) ⊎ (a ≢ b)
    by true e = inl ((bytes_eq-Decides a b).0 e)
    by false e = inr (λ same. true≢false (sym ((bytes_eq-Decides a b).1 same) ∙ e))

some_one : {A : Type 0} (d a b : A) → Some a ≡ Some b → a ≡ b
some_one d a b e = cc e

pub decide_optional : (a b : Option (List ℕ)) → (a ≡ b) ⊎ (a ≢ b)
decide_optional None None = inl refl
decide_optional None (Some y) = inr (λ e. cc e)
decide_optional (Some x) None = inr (λ e. cc e)
decide_optional (Some x) (Some y) = elim (decide_text x y) [ inl e ↦ inl (ap Some e) | inr n ↦ inr (λ e. n (some_one x x y e)) ]

decide_among : (texts : List (List ℕ)) (n : List ℕ) → IsMissing texts n ⊎ Contains texts n
decide_among [] n = inl (none_in_nil n)
decide_among (x ∷ xs) n = by (decide_text x n) (decide_among xs n)
  where
    by : (x ≡ n) ⊎ (x ≢ n) → IsMissing xs n ⊎ Contains xs n → IsMissing (x ∷ xs) n ⊎ Contains (x ∷ xs) n
    by (inl e) rest = inr (subst (Contains (x ∷ xs)) e (contains_here x xs))
    by (inr off) (inr has) = inr (contains_there x xs n has)
    by (inr off) (inl lacks) = inl (λ has. elim (contains_cases x xs n has) [ inl e ↦ off e | inr more ↦ lacks more ])

-- the first of a list of which something holds, or the opposite holds of all
pub first_or_all : {A : Type 0} (P Q : A → Type 0) → ((x : A) → P x → Q x → ⊥) → ((x : A) → P x ⊎ Q x) → (xs : List A) → ((x : A) × IsFirst P xs x) ⊎ All Q xs
first_or_all P Q clash decide [] = inr (All-nil Q)
first_or_all P Q clash decide (x ∷ xs) = by (decide x) (first_or_all P Q clash decide xs)
  where
    by : P x ⊎ Q x → ((y : _) × IsFirst P xs y) ⊎ All Q xs → ((y : _) × IsFirst P (x ∷ xs) y) ⊎ All Q (x ∷ xs)
    by (inl p) rest = inl (x, record { before = []; after = xs; occurs = refl; holds = p; earlier = λ y has q. none_in_nil y has })
    by (inr q) (inr all) = inr (All-cons Q x xs q all)
    by (inr q) (inl f) = inl (
      f.0,
      record {
        before = x ∷ f.1.before;
        after = f.1.after;
        occurs = ap (λ l. x ∷ l) f.1.occurs;
        holds = f.1.holds;
        earlier = λ y has p. elim (contains_cases x f.1.before y has) [ inl e ↦ clash x (subst P (sym e) p) q | inr more ↦ f.1.earlier y more p ];
      },
    )

missing : (texts others : List (List ℕ)) → ((n : List ℕ) × IsFirstMissing texts others n) ⊎ AreAmong texts others
missing texts others = first_or_all (IsMissing others) (Contains others) (λ n lacks has. lacks has) (decide_among others) texts

decide_clock : (r : Reg) → HasNoClock r ⊎ IsSome r.clock
decide_clock r = by r.clock refl
  where
    by : (o : Option ℕ) → r.clock ≡ o → HasNoClock r ⊎ IsSome r.clock
    by None e = inl e
    by (Some k) e = inr (subst IsSome (sym e) refl)

without_clock : (f : FlatNet) → ((n : List ℕ) × IsFirstWithoutClock f n) ⊎ HaveClocks f
without_clock f = elim (first_or_all HasNoClock (λ r. IsSome r.clock) (λ r none some. none_is_not_some r.clock none some) decide_clock f.regs) [ inl x ↦ inl (x.0.text, (x.0, x.1, refl)) | inr all ↦ inr all ]

-- the registers of one text have one clock

IsOther : FlatNet → FlatNet → Reg → Reg → Type 0
IsOther f g r q = (q.text ≡ r.text) × ((q.falling ≢ r.falling) ⊎ (clock_text g q ≢ clock_text f r))

IsIsomorphic : FlatNet → FlatNet → Reg → Reg → Type 0
IsIsomorphic f g r q = q.text ≡ r.text → (q.falling ≡ r.falling) × (clock_text g q ≡ clock_text f r)

other_not_isomorphic : (f g : FlatNet) (r q : Reg) → IsOther f g r q → IsIsomorphic f g r q → ⊥
unfolding IsOther IsIsomorphic
other_not_isomorphic f g r q other alike = elim other.1 [ inl edge ↦ edge (alike other.0).0 | inr clock ↦ clock (alike other.0).1 ]

other_or_isomorphic : (f g : FlatNet) (r q : Reg) → IsOther f g r q ⊎ IsIsomorphic f g r q
unfolding IsOther IsIsomorphic
other_or_isomorphic f g r q = by (decide_text q.text r.text) (same_or_not q.falling r.falling) (decide_optional (clock_text g q) (clock_text f r))
  where
    by : (q.text ≡ r.text) ⊎ (q.text ≢ r.text) → (q.falling ≡ r.falling) ⊎ (q.falling ≢ r.falling) → (clock_text g q ≡ clock_text f r) ⊎ (clock_text g q ≢ clock_text f r)
        → ((q.text ≡ r.text) × ((q.falling ≢ r.falling) ⊎ (clock_text g q ≢ clock_text f r))) ⊎ (q.text ≡ r.text → (q.falling ≡ r.falling) × (clock_text g q ≡ clock_text f r))
    by (inr off) edge clock = inr (λ e. absurd (off e))
    by (inl e) (inr edge) clock = inl (e, inl edge)
    by (inl e) (inl edge) (inr clock) = inl (e, inr clock)
    by (inl e) (inl edge) (inl clock) = inr (λ same. (edge, clock))

AreIsomorphic : FlatNet → FlatNet → Reg → Type 0
AreIsomorphic f g r = All (IsIsomorphic f g r) g.regs

apart_not_isomorphic : (f g : FlatNet) (r : Reg) → IsClockedApart f g r → AreIsomorphic f g r → ⊥
unfolding AreIsomorphic IsOther
apart_not_isomorphic f g r apart alike = other_not_isomorphic f g r apart.0 (apart.2, apart.3) (All-contains (IsIsomorphic f g r) g.regs apart.0 alike apart.1)

apart_or_isomorphic : (f g : FlatNet) (r : Reg) → IsClockedApart f g r ⊎ AreIsomorphic f g r
unfolding AreIsomorphic IsOther
apart_or_isomorphic f g r = elim (first_or_all (IsOther f g r) (IsIsomorphic f g r) (other_not_isomorphic f g r) (other_or_isomorphic f g r) g.regs) [
  | inl x ↦ inl (x.0, first_there (IsOther f g r) g.regs x.0 x.1, x.1.holds.0, x.1.holds.1)
  | inr all ↦ inr all
]

clocked_apart : (f g : FlatNet) → ((n : List ℕ) × IsFirstClockedApart f g n) ⊎ HaveSameClocks f g
unfolding AreIsomorphic IsIsomorphic
clocked_apart f g = elim (first_or_all (IsClockedApart f g) (AreIsomorphic f g) (apart_not_isomorphic f g) (apart_or_isomorphic f g) f.regs) [
  | inl x ↦ inl (x.0.text, (x.0, x.1, refl))
  | inr all ↦ inr (All-weaker (AreIsomorphic f g) (HasSameClock f g) (λ r alike q there. All-contains (IsIsomorphic f g r) g.regs q alike there) f.regs all)
]

first_box : (boxes : List BoxTexts) → ((box : BoxTexts) × (rest : List BoxTexts) × (boxes ≡ box ∷ rest)) ⊎ (boxes ≡ [])
first_box [] = inr refl
first_box (b ∷ rest) = inl (b, rest, refl)

care_or_none : (care : Option (List ℕ)) (outs : List (List ℕ)) → ((n : List ℕ) × (care ≡ Some n) × IsMissing outs n) ⊎ IfSome care (Contains outs)
care_or_none None outs = inr tt
care_or_none (Some n) outs = elim (decide_among outs n) [ inl lacks ↦ inl (n, refl, lacks) | inr has ↦ inr has ]

pub reported_or_absent : (care : Option (List ℕ)) (spec imp : FlatNet) (cause : PairCause) → ((n : List ℕ) × IsReported care spec imp cause n) ⊎ IsAbsent care spec imp cause
reported_or_absent care spec imp Box = elim (first_box spec.boxes) [ inl x ↦ inl (x.0.path, (x.0, x.1, x.2, refl)) | inr none ↦ inr none ]
reported_or_absent care spec imp Care = elim (care_or_none care spec.outs) [ inl x ↦ inl (x.0, (x.1, x.2)) | inr has ↦ inr has ]
reported_or_absent care spec imp SpecInput = missing spec.ins imp.ins
reported_or_absent care spec imp SpecOutput = missing (compared care spec.outs) imp.outs
reported_or_absent care spec imp ImpInput = missing imp.ins spec.ins
reported_or_absent care spec imp ImpOutput = missing imp.outs (compared care spec.outs)
reported_or_absent care spec imp SpecRegister = missing (state_texts spec) (state_texts imp)
reported_or_absent care spec imp ImpRegister = missing (state_texts imp) (state_texts spec)
reported_or_absent care spec imp SpecClock = without_clock spec
reported_or_absent care spec imp ImpClock = without_clock imp
reported_or_absent care spec imp Clocks = clocked_apart spec imp
reported_or_absent care spec imp Pins = elim (cases_lt most_pins (input_and_pin_count imp)) [ inl many ↦ inl ([], many) | inr few ↦ inr few ]

-- cause after cause

-- no cause before this rank holds
pub NoneBefore : Option (List ℕ) → FlatNet → FlatNet → ℕ → Type 0
NoneBefore care spec imp n = (other : PairCause) → pair_cause_rank other < n → IsAbsent care spec imp other

pub none_at_first : (care : Option (List ℕ)) (spec imp : FlatNet) → NoneBefore care spec imp 0
unfolding NoneBefore
none_at_first care spec imp other lt = absurd (omega (arith, lt))

pub none_more : (care : Option (List ℕ)) (spec imp : FlatNet) (cause : PairCause) → NoneBefore care spec imp (pair_cause_rank cause) → IsAbsent care spec imp cause → NoneBefore care spec imp (pair_cause_rank cause + 1)
unfolding NoneBefore
none_more care spec imp cause before absent other lt = elim (less_or_same (pair_cause_rank other) (pair_cause_rank cause)) [
  | inl h ↦ before other h
  | inr more ↦ elim more [
    | inl h ↦ absurd (omega (arith, h, lt))
    | inr e ↦ let same : other ≡ cause = sym (at_rank other) ∙ ap cause_at e ∙ at_rank cause in subst (IsAbsent care spec imp) (sym same) absent
  ]
]

pub refused : (care : Option (List ℕ)) (spec imp : FlatNet) (cause : PairCause) (n : List ℕ) → NoneBefore care spec imp (pair_cause_rank cause) → IsReported care spec imp cause n → IsFirstPairRefusal care spec imp (match_fault_of cause n)
unfolding NoneBefore
refused care spec imp cause n before reported = record { cause = cause; name = n; is = refl; reported = reported; earlier = before }

pub fit_from : (care : Option (List ℕ)) (spec imp : FlatNet) → NoneBefore care spec imp 12 → Fit care spec imp
unfolding NoneBefore
fit_from care spec imp before cause = before cause (below_twelve cause)

pub fit_or_refused : FitOrRefused
fit_or_refused care spec imp = step Box (none_at_first care spec imp) (λ b0. step Care b0 (λ b1. step SpecInput b1 (λ b2. step SpecOutput b2 (λ b3. step ImpInput b3 (λ b4. step ImpOutput b4 (λ b5. step SpecRegister b5 (λ b6. step ImpRegister b6 (λ b7. step SpecClock b7 (λ b8. step ImpClock b8 (λ b9. step Clocks b9 (λ b10. step Pins b10 (λ b. inl (fit_from care spec imp b)))))))))))))
  where
    Answer : Type 0
    Answer = Fit care spec imp ⊎ ((fault : MatchFault) × IsFirstPairRefusal care spec imp fault)

    step : (cause : PairCause) → NoneBefore care spec imp (pair_cause_rank cause) → (NoneBefore care spec imp (pair_cause_rank cause + 1) → Answer) → Answer
    step cause before next = elim (reported_or_absent care spec imp cause) [
      | inl reported ↦ inr (match_fault_of cause reported.0, refused care spec imp cause reported.0 before reported.1)
      | inr absent ↦ next (none_more care spec imp cause before absent)
    ]
