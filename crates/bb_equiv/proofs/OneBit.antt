-- Where a vector shows a mistake, no contents agree: in a world each output has one bit.
use Rattle.std.proofs.Common.{◌≡◌, ◌⊎◌, ℕ, Bool, true, false, not, List, map, Contains, Option, Some, None, sym, ap, ◌∙◌, inl, inr}
use Rattle.std.proofs.lemmas.List.Elements.{Contains-append_cases}
use Rattle.bb_bits.specs.Contents.{Contents}
use Rattle.bb_lemmas.proofs.Apart.{one_by}
use Rattle.bb_lemmas.proofs.Members.{from_map}
use Rattle.bb_net.specs.CutPoints.{CutOutput, TopOutput, NextState}
use Rattle.bb_design.specs.Hierarchy.{Design}
use Rattle.bb_design.specs.NetBits.{Bit, top_outputs}
use Rattle.bb_design.specs.Refusals.{IsSoundDesign, RegisterTexts, PortTexts}
use Rattle.bb_design.specs.Registers.{RegisterBit, registers}
use Rattle.bb_design.specs.Texts.{bit_text}
use Rattle.bb_design.specs.Inside.Allowed.{IsAllowed}
use Rattle.bb_design.specs.Worlds.{World, Vector, bit_in, next_bit, outputs_in}
use Rattle.bb_equiv.specs.DesignEquivalence.{ContentsMakeEquivalent}
use Rattle.bb_equiv.specs.Laws.Mistakes.{CounterexamplesRefute, MistakesAmongRefute, MistakesRefute}
use Rattle.bb_equiv.specs.Mistakes.{DifferAt, DifferAtReported, DifferWith}

pub called : {a b : CutOutput × Bool} → a ≡ b → a.0 ≡ b.0
called same = ap (λ (u : CutOutput × Bool). u.0) same

pub valued : {a b : CutOutput × Bool} → a ≡ b → a.1 ≡ b.1
valued same = ap (λ (u : CutOutput × Bool). u.1) same

pub one_top : (a b : List ℕ) → TopOutput a ≡ TopOutput b → a ≡ b
one_top a b e = cc e

pub one_next : (a b : List ℕ) → NextState a ≡ NextState b → a ≡ b
one_next a b e = cc e

pub apart : (a b : List ℕ) → TopOutput a ≡ NextState b → ⊥
apart a b e = cc e

-- where no text is twice, an output has one bit in a world
module _ (d : Design) (sound : IsSoundDesign d) (w : World) (o : CutOutput) where
  abbrev pub of_top : Bit → CutOutput × Bool
  of_top b = (TopOutput (bit_text d b), bit_in w b)

  abbrev pub of_register : RegisterBit → CutOutput × Bool
  of_register r = (NextState (bit_text d r.bit), next_bit w r)

  abbrev pub Place : Bool → Type 0
  Place b = ((t : Bit) × Contains (top_outputs d) t × (of_top t ≡ (o, b))) ⊎ ((r : RegisterBit) × Contains (registers d) r × (of_register r ≡ (o, b)))

  pub place : (b : Bool) → Contains (outputs_in d w) (o, b) → Place b
  place b has = elim (Contains-append_cases (map of_top (top_outputs d)) (map of_register (registers d)) (o, b) has) [
    | inl top ↦ inl (from_map of_top (top_outputs d) (o, b) top)
    | inr register ↦ inr (from_map of_register (registers d) (o, b) register)
  ]

  pub one_bit : (b c : Bool) → Place b → Place c → b ≡ c
  one_bit b c (inl (s, in_s, is)) (inl (t, in_t, also)) =
      let text = one_top (bit_text d s) (bit_text d t) (called is ∙ sym (called also)) in
      let same : s ≡ t = one_by (bit_text d) (top_outputs d) (sound PortTexts).1 s t in_s in_t text in
      sym (valued is) ∙ ap (bit_in w) same ∙ valued also
  one_bit b c (inl (s, in_s, is)) (inr (t, in_t, also)) = absurd (apart (bit_text d s) (bit_text d t.bit) (called is ∙ sym (called also)))
  one_bit b c (inr (s, in_s, is)) (inl (t, in_t, also)) = absurd (apart (bit_text d t) (bit_text d s.bit) (called also ∙ sym (called is)))
  one_bit b c (inr (s, in_s, is)) (inr (t, in_t, also)) =
      let text = one_next (bit_text d s.bit) (bit_text d t.bit) (called is ∙ sym (called also)) in
      let same : s ≡ t = one_by (λ (r : RegisterBit). bit_text d r.bit) (registers d) (sound RegisterTexts) s t in_s in_t text in
      sym (valued is) ∙ ap (next_bit w) same ∙ valued also

pub turned : (b : Bool) → b ≡ not b → ⊥
turned true e = cc e
turned false e = cc e

reported_somewhere : (care : Option (List ℕ)) (spec imp : Design) (w v : World) (reported : Option CutOutput) → DifferAtReported care spec imp w v reported → (o : CutOutput) × DifferAt care spec imp w v o
reported_somewhere care spec imp w v (Some o) differ = (o, differ)
reported_somewhere care spec imp w v None differ = differ

-- contents with which a vector shows a mistake do not agree
shown_differ : (care : Option (List ℕ)) (spec imp : Design) (contents : Contents) (x : Vector) (reported : Option CutOutput) → IsAllowed imp → DifferWith care spec imp contents x reported → ContentsMakeEquivalent care spec imp contents → ⊥
shown_differ care spec imp contents x reported allowed with agree =
    let (spec_world, imp_world) = with.worlds in
    let (w, is_w, has_w) = spec_world in
    let (v, is_v, has_v) = imp_world in
    let (o, differ) = reported_somewhere care spec imp w v reported (with.differ w v is_w has_w is_v has_v) in
    let also = (agree x w v is_w has_w is_v has_v (with.required w is_w has_w) o differ.bit differ.is_compared).0 differ.spec_has in
    turned differ.bit (one_bit imp allowed.sound v o differ.bit (not differ.bit) (place imp allowed.sound v o differ.bit also) (place imp allowed.sound v o (not differ.bit) differ.imp_has))

pub mistakes_refute : MistakesRefute
mistakes_refute care shared spec imp x reported allowed mistake contents fill = shown_differ care spec imp contents x reported allowed (mistake.each contents fill.fit)

pub mistakes_among_refute : MistakesAmongRefute
mistakes_among_refute care shared spec imp vectors allowed among contents fill =
    let (x, there, with) = among contents fill in
    shown_differ care spec imp contents x None allowed with

pub counterexamples_refute : CounterexamplesRefute
counterexamples_refute care shared spec imp allowed all contents fill =
    let (x, o, with) = all contents fill in
    shown_differ care spec imp contents x (Some o) allowed with
