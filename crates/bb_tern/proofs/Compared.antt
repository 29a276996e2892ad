-- two nets at many patterns
use Rattle.std.proofs.Common.{◌≡◌, ◌≢◌, ◌<◌, ℕ, Bool, true, false, List, [], ◌++◌, length, take, drop, slice_index, Some, refl, sym, ap, ap₂, ◌∙◌, subst, true≢false, append-nil, drop_of_length-le, take_all, arith}
use Rattle.std.specs.Prelude.{MatchBool}
use Rattle.bb_net.specs.Netlists.{Netlist, IsNetlist}
use Rattle.bb_net.specs.Values.{xor, bit_of, flat}
use Rattle.bb_net.specs.Equivalence.{out_bit, wanted_bit, SomeWrong, AllRight}
use Rattle.bb_tern.specs.Inside.Lanes.{lane, bits_in, HasBits, wrong_at, ReportsWrong}

-- what is left of a vector that was overwritten
pub overwritten : (new old : List ℕ) (len : ℕ) → length new ≡ length old → len ≡ length old → take len (new ++ drop (length new) old) ≡ new
overwritten new old len same all =
    ap (take len) (ap (λ rest. new ++ rest) (drop_of_length-le old (omega (arith, same))) ∙ append-nil new) ∙ take_all len new (omega (arith, same, all))

differ : (wanted given : Bool) → xor wanted given ≡ true → given ≢ wanted
differ true true e = absurd (true≢false (sym e))
differ false false e = absurd (true≢false (sym e))
differ true false e = λ h. true≢false (sym h)
differ false true e = λ h. true≢false h

agree : (wanted given : Bool) → xor wanted given ≡ false → given ≡ wanted
agree true true e = refl
agree false false e = refl
agree true false e = absurd (true≢false e)
agree false true e = absurd (true≢false e)

-- in a lane that has the bits of both nets for a vector
module _ (spec imp : Netlist) (kept : IsNetlist spec) (also : IsNetlist imp) (same : length spec.outs ≡ length imp.outs) (x : List Bool) (k : ℕ) (wanted given : List ℕ)
    (of_spec : HasBits wanted (length spec.cells) k (bit_of (flat spec x []))) (of_imp : HasBits given (length imp.cells) k (bit_of (flat imp x []))) where
  at_output : (j : ℕ) → j < length imp.outs → wrong_at (bits_in wanted k) (λ place. Some (bits_in given k place)) spec.outs imp.outs j ≡ xor (wanted_bit spec x j) (out_bit imp (flat imp x []) j)
  at_output j l = ap₂ xor (of_spec (slice_index spec.outs j) (kept.outs_there j 0 (omega (arith, l, same)))) (of_imp (slice_index imp.outs j) (also.outs_there j 0 l))

  abbrev Some-wrong : Type 0
  Some-wrong = (j : ℕ) × (j < length imp.outs) × (wrong_at (bits_in wanted k) (λ place. Some (bits_in given k place)) spec.outs imp.outs j ≡ true)

  abbrev None-wrong : Type 0
  None-wrong = (j : ℕ) → j < length imp.outs → wrong_at (bits_in wanted k) (λ place. Some (bits_in given k place)) spec.outs imp.outs j ≡ false

  by_mark : (mark : Bool) → MatchBool mark Some-wrong None-wrong → MatchBool mark (SomeWrong spec imp x (flat imp x [])) (AllRight spec imp x (flat imp x []))
  by_mark true some = (some.0, some.1, differ (wanted_bit spec x some.0) (out_bit imp (flat imp x []) some.0) (sym (at_output some.0 some.1) ∙ some.2))
  by_mark false none = λ j l. agree (wanted_bit spec x j) (out_bit imp (flat imp x []) j) (sym (at_output j l) ∙ none j l)

  pub lane_reports : (word : ℕ) (mark : Bool) → mark ≡ lane word k → ReportsWrong (bits_in wanted k) (λ place. Some (bits_in given k place)) spec.outs imp.outs (length imp.outs) word k →
      MatchBool mark (SomeWrong spec imp x (flat imp x [])) (AllRight spec imp x (flat imp x []))
  lane_reports word mark e reports = by_mark mark (subst (λ b. MatchBool b Some-wrong None-wrong) (sym e) reports)
