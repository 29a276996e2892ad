-- What may still be right of one pair may be right of another that is alike: the conditions that checks leave open.
use Rattle.std.proofs.Common.{◌≡◌, ℕ, ◌<◌, Bool, List, [], ◌∷◌, ◌++◌, length, sym, subst, ◌∙◌, arith}
use Rattle.std.specs.Prelude.{IfSome, slice_index}
use Rattle.bb_net.specs.Equivalence.{wanted_bit, IsVector, IsOutput}
use Rattle.bb_net.specs.Conditions.{MayBeRight, MayBeRightAmong, MayBeRightEverywhere, EachSometimesRight, AllRightTogether, PinBits, all_outs, ChoicesSuit, InputsHaveOutputs, SomeChoicesSuit}
use Rattle.bb_net.specs.Netlists.{Netlist, Pins}
use Rattle.bb_net.specs.Ternary.{tern, tern_of}
use Rattle.bb_checks.proofs.IsomorphicBoxes.{AreAsMany, output_pins_isomorphic}
use Rattle.bb_checks.proofs.IsomorphicFunctions.{ShareAll}

-- outputs have one value where boxes are unknown
abbrev pub AreKnownIsomorphic : Netlist → Netlist → Type 0
AreKnownIsomorphic a b = (x : List Bool) (j : ℕ) → j < length a.outs → tern_of (tern a x) (slice_index a.outs j) ≡ tern_of (tern b x) (slice_index b.outs j)

pub wins_isomorphic : (P Q : List PinBits → Type 0) → ((chosen : List PinBits) → P chosen → Q chosen) → (ps qs : List Pins) → AreAsMany ps qs → (chosen : List PinBits) → InputsHaveOutputs P ps chosen → InputsHaveOutputs Q qs chosen
wins_isomorphic P Q to [] [] h chosen w = to chosen w
wins_isomorphic P Q to [] (q ∷ qs) h chosen w = absurd h
wins_isomorphic P Q to (p ∷ ps) [] h chosen w = absurd h
wins_isomorphic P Q to (p ∷ ps) (q ∷ qs) h chosen w = λ ins long.
    let found = w ins (long ∙ sym h.0) in
    (found.0, found.1 ∙ h.1, wins_isomorphic P Q to ps qs h.2 (chosen ++ record { ins = ins; outs = found.0 } ∷ []) found.2)

module _ (spec imp other_spec other_imp : Netlist) (share : ShareAll spec imp other_spec other_imp) where
  pub there : (j : ℕ) → IsOutput other_imp j → IsOutput imp j
  there j l = omega (arith, l, share.imp.outputs)

  pub vector : (x : List Bool) → IsVector other_imp x → IsVector imp x
  vector x long = long ∙ sym share.imp.inputs

  pub wanted_isomorphic : (x : List Bool) (j : ℕ) → IsOutput imp j → wanted_bit spec x j ≡ wanted_bit other_spec x j
  wanted_isomorphic x j l = share.spec.out_bits x [] j (omega (arith, l, share.outputs))

  module _ (known : AreKnownIsomorphic imp other_imp) where
    pub may_be_right : (x : List Bool) (j : ℕ) → IsOutput imp j → MayBeRight spec imp x j → MayBeRight other_spec other_imp x j
    may_be_right x j l right =
        subst (λ v. IfSome v (λ bit. wanted_bit other_spec x j ≡ bit)) (known x j l)
        (subst (λ w. IfSome (tern_of (tern imp x) (slice_index imp.outs j)) (λ bit. w ≡ bit)) (wanted_isomorphic x j l) right)

    pub right_among_isomorphic : (patterns : List (List Bool)) → MayBeRightAmong spec imp patterns → MayBeRightAmong other_spec other_imp patterns
    right_among_isomorphic patterns right x has j l = may_be_right x j (there j l) (right x has j (there j l))

    pub right_everywhere_isomorphic : MayBeRightEverywhere spec imp → MayBeRightEverywhere other_spec other_imp
    right_everywhere_isomorphic right x long j l = may_be_right x j (there j l) (right x (vector x long) j (there j l))

  pub each_right_isomorphic : EachSometimesRight spec imp → EachSometimesRight other_spec other_imp
  each_right_isomorphic right x long j l =
      let found = right x (vector x long) j (there j l) in
      let z = found.0 in
      (z, found.1 ∙ output_pins_isomorphic imp.boxes other_imp.boxes share.imp.boxes, sym (share.imp.out_bits x z j (there j l)) ∙ found.2 ∙ wanted_isomorphic x j (there j l))

  pub all_right_isomorphic : AllRightTogether spec imp → AllRightTogether other_spec other_imp
  all_right_isomorphic right x long =
      let found = right x (vector x long) in
      let z = found.0 in (
        z,
        found.1 ∙ output_pins_isomorphic imp.boxes other_imp.boxes share.imp.boxes,
        λ j l. sym (share.imp.out_bits x z j (there j l)) ∙ found.2 j (there j l) ∙ wanted_isomorphic x j (there j l),
      )

  pub suit_isomorphic : (chosen : List PinBits) → ChoicesSuit spec imp chosen → ChoicesSuit other_spec other_imp chosen
  suit_isomorphic chosen suit x long leads j l =
      let z = all_outs chosen in
      sym (share.imp.out_bits x z j (there j l)) ∙ suit x (vector x long) (share.imp.box_bits x z ∙ leads) j (there j l) ∙ wanted_isomorphic x j (there j l)

  pub choices_isomorphic : SomeChoicesSuit spec imp → SomeChoicesSuit other_spec other_imp
  choices_isomorphic suits = wins_isomorphic (ChoicesSuit spec imp) (ChoicesSuit other_spec other_imp) suit_isomorphic imp.boxes other_imp.boxes share.imp.boxes [] suits
