-- No text is sound and refused, and there is one first refusal at most.
use Rattle.std.proofs.Common.{◌≡◌, ◌⊎◌, ℕ, zero, suc, ◌<◌, List, map, length, All, Contains, Option, Some, None, refl, sym, ap, ◌∙◌, subst, inl, inr, arith}
use Rattle.std.proofs.lemmas.List.Elements.{All-contains}
use Rattle.bb_design.specs.declared.fault.ElabFault.{ElabFault}
use Rattle.bb_design.specs.declared.fault.ElabFault.TheVariants as faults
use Rattle.bb_bits.specs.Closures.{Leads, One, More}
use Rattle.bb_design.specs.Hierarchy.{Design, instances, instantiations, top_of, too_low}
use Rattle.bb_design.specs.NetBits.{Bit, net_order}
use Rattle.bb_design.specs.Dependence.{dependences}
use Rattle.bb_design.specs.Texts.{bit_text, path_text}
use Rattle.bb_design.specs.Refusals.{IsReached, IsTooLow, box_paths, register_texts, input_texts, output_texts, DesignCause, Recursion, Depth, Size, TwoDrivers, NoDriver, Cycle, BoxTexts, RegisterTexts, PortTexts, cause_rank, elab_fault_of, IsFirstBit, IsReportedOfDesign, IsAbsentInDesign, IsRefusalOf, design_on}
use Rattle.bb_design.specs.Laws.{NotSoundAndRefused, FirstRefusalsAreOne}
use Rattle.bb_lemmas.proofs.Orders.{less_or_same}
use Rattle.bb_lemmas.proofs.Firsts.{first_there, first_one, repeat_one, repeat_not_apart}
use Rattle.bb_lemmas.proofs.Walks.{more_after, levels_fall}

pub reached_next : (d : Design) (x y : List ℕ) → IsReached d x → Contains (instantiations d.text) (x, y) → IsReached d y
reached_next d x y (inl e) has = inr (One (subst (λ z. Contains (instantiations d.text) (z, y)) (sym e) has))
reached_next d x y (inr leads) has = inr (more_after (instantiations d.text) leads has)

reached_falls : (d : Design) (level : List ℕ → ℕ) → All (λ x. IsReached d x.0 → level x.1 < level x.0) (instantiations d.text) → {x y : List ℕ} → IsReached d x → Leads (instantiations d.text) x y → level y < level x
reached_falls d level down reached (One has) = All-contains (λ x. IsReached d x.0 → level x.1 < level x.0) (instantiations d.text) _ down has reached
reached_falls d level down reached (More has rest) =
    let here = All-contains (λ x. IsReached d x.0 → level x.1 < level x.0) (instantiations d.text) _ down has reached in
    let there = reached_falls d level down (reached_next d _ _ reached has) rest in
    omega (arith, here, there)

-- a cause does not hold where it is absent
reported_not_absent : (d : Design) (cause : DesignCause) (n : List ℕ) → IsReportedOfDesign d cause n → IsAbsentInDesign d cause → ⊥
reported_not_absent d Recursion n reported absent = let falls = reached_falls d absent.0 absent.1 reported.holds.0 reported.holds.1 in omega (arith, falls)
reported_not_absent d Depth n reported absent =
    let there = first_there IsTooLow (instances d) reported.0 reported.1 in
    let above = All-contains (λ s. length s.path < too_low) (instances d) reported.0 absent there in
    let low = reported.1.holds in omega (arith, above, low)
reported_not_absent d Size n (inl many) absent = let few = absent.0 in omega (arith, many, few)
reported_not_absent d Size n (inr many) absent = let few = absent.1 in omega (arith, many, few)
reported_not_absent d TwoDrivers n reported absent = let t = reported.1.holds in absent t.0 t.1 reported.0 t.2 t.3 (t.4 ∙ sym t.5)
reported_not_absent d NoDriver n reported absent = reported.1.holds.1 (absent reported.0 reported.1.holds.0)
reported_not_absent d Cycle n reported absent = let falls = levels_fall (dependences d) absent.0 absent.1 reported.1.holds in omega (arith, falls)
reported_not_absent d BoxTexts n reported absent = repeat_not_apart (box_paths d) n reported absent
reported_not_absent d RegisterTexts n reported absent = repeat_not_apart (register_texts d) n reported absent
reported_not_absent d PortTexts n (inl reported) absent = repeat_not_apart (input_texts d) n reported absent.0
reported_not_absent d PortTexts n (inr reported) absent = repeat_not_apart (output_texts d) n reported.1 absent.1

first_bit_one : (d : Design) (P : Bit → Type 0) (n m : List ℕ) → IsFirstBit d P n → IsFirstBit d P m → n ≡ m
first_bit_one d P n m a b = a.2 ∙ ap (bit_text d) (first_one P (net_order d) a.0 b.0 a.1 b.1) ∙ sym b.2

-- for one cause one name is reported
reported_one : (d : Design) (cause : DesignCause) (n m : List ℕ) → IsReportedOfDesign d cause n → IsReportedOfDesign d cause m → elab_fault_of cause n ≡ elab_fault_of cause m
reported_one d Recursion n m a b = ap faults.Recursive (first_one _ (map (λ x. x.name) d.text) n m a b)
reported_one d Depth n m a b = ap faults.TooDeep (a.2 ∙ ap (λ s. path_text s.path) (first_one IsTooLow (instances d) a.0 b.0 a.1 b.1) ∙ sym b.2)
reported_one d Size n m a b = refl
reported_one d TwoDrivers n m a b = ap faults.DrivenTwice (first_bit_one d _ n m a b)
reported_one d NoDriver n m a b = ap faults.Undriven (first_bit_one d _ n m a b)
reported_one d Cycle n m a b = ap faults.Loop (first_bit_one d _ n m a b)
reported_one d BoxTexts n m a b = ap faults.BoxTwice (repeat_one (box_paths d) n m a b)
reported_one d RegisterTexts n m a b = ap faults.RegTwice (repeat_one (register_texts d) n m a b)
reported_one d PortTexts n m (inl a) (inl b) = ap faults.PortTwice (repeat_one (input_texts d) n m a b)
reported_one d PortTexts n m (inl a) (inr b) = absurd (repeat_not_apart (input_texts d) n a b.0)
reported_one d PortTexts n m (inr a) (inl b) = absurd (repeat_not_apart (input_texts d) m b a.0)
reported_one d PortTexts n m (inr a) (inr b) = ap faults.PortTwice (repeat_one (output_texts d) n m a.1 b.1)

-- the cause of a rank
unfoldable pub cause_at : ℕ → DesignCause
cause_at zero = Recursion
cause_at (suc zero) = Depth
cause_at (suc (suc zero)) = Size
cause_at (suc (suc (suc zero))) = TwoDrivers
cause_at (suc (suc (suc (suc zero)))) = NoDriver
cause_at (suc (suc (suc (suc (suc zero))))) = Cycle
cause_at (suc (suc (suc (suc (suc (suc zero)))))) = BoxTexts
cause_at (suc (suc (suc (suc (suc (suc (suc zero))))))) = RegisterTexts
cause_at (suc (suc (suc (suc (suc (suc (suc (suc n)))))))) = PortTexts

pub at_rank : (c : DesignCause) → cause_at (cause_rank c) ≡ c
unfolding cause_at
at_rank Recursion = refl
at_rank Depth = refl
at_rank Size = refl
at_rank TwoDrivers = refl
at_rank NoDriver = refl
at_rank Cycle = refl
at_rank BoxTexts = refl
at_rank RegisterTexts = refl
at_rank PortTexts = refl

refusal_one : (d : Design) (e f : ElabFault) → IsRefusalOf d e → IsRefusalOf d f → e ≡ f
refusal_one d e f a b = from (less_or_same (cause_rank a.cause) (cause_rank b.cause))
  where
    from : (cause_rank a.cause < cause_rank b.cause) ⊎ ((cause_rank b.cause < cause_rank a.cause) ⊎ (cause_rank a.cause ≡ cause_rank b.cause)) → e ≡ f
    from (inl h) = absurd (reported_not_absent d a.cause a.name a.reported (b.earlier a.cause h))
    from (inr (inl h)) = absurd (reported_not_absent d b.cause b.name b.reported (a.earlier b.cause h))
    from (inr (inr h)) =
        let one : a.cause ≡ b.cause = sym (at_rank a.cause) ∙ ap cause_at h ∙ at_rank b.cause in
        let reported : IsReportedOfDesign d b.cause a.name = subst (λ c. IsReportedOfDesign d c a.name) one a.reported in
        a.is ∙ ap (λ c. elab_fault_of c a.name) one ∙ reported_one d b.cause a.name b.name reported b.reported ∙ sym b.is

-- a value that is there is the one value
same_top : {A : Type 0} (o : Option A) (x y : A) → o ≡ Some x → o ≡ Some y → x ≡ y
same_top o x y p q = grind (arith, p, q)

none_and_some : {A : Type 0} (o : Option A) (x : A) → o ≡ None → o ≡ Some x → ⊥
none_and_some o x p q = grind (arith, p, q)

pub not_sound_and_refused : NotSoundAndRefused
not_sound_and_refused text name fault sound (inl refused) = none_and_some (top_of text name) sound.0 refused.0 sound.1
not_sound_and_refused text name fault sound (inr refused) =
    let one : refused.0 ≡ sound.0 = same_top (top_of text name) refused.0 sound.0 refused.1 sound.1 in
    let r : IsRefusalOf (design_on text sound.0) fault = subst (λ top. IsRefusalOf (design_on text top) fault) one refused.2 in
    reported_not_absent (design_on text sound.0) r.cause r.name r.reported (sound.2 r.cause)

pub first_refusals_are_one : FirstRefusalsAreOne
first_refusals_are_one text name e f (inl a) (inl b) = a.1 ∙ sym b.1
first_refusals_are_one text name e f (inl a) (inr b) = absurd (none_and_some (top_of text name) b.0 a.0 b.1)
first_refusals_are_one text name e f (inr a) (inl b) = absurd (none_and_some (top_of text name) a.0 b.0 a.1)
first_refusals_are_one text name e f (inr a) (inr b) =
    let one : a.0 ≡ b.0 = same_top (top_of text name) a.0 b.0 a.1 b.1 in
    refusal_one (design_on text b.0) e f (subst (λ top. IsRefusalOf (design_on text top) e) one a.2) b.2
