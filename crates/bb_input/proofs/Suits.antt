-- where a function of the check is 0, bits at the pins suit
use Rattle.std.proofs.Common.{◌≡◌, ◌<◌, ℕ, ◌+◌, Bool, true, false, not, ◌&&◌, List, [], ◌++◌, length, map, drop, slice_index, refl, sym, ap, ap₂, ◌∙◌, subst, arith, length-append, append-nil}
use Rattle.std.specs.List.{flat_map}
use Rattle.std.proofs.lemmas.List.{ext_get_or, length-map, get_or-map}
use Rattle.std.proofs.Math.Seq.{drop-append_seam}
use Rattle.bb_bits.specs.Bits.{xor}
use Rattle.bb_bits.specs.Truth.{IsTruthTable, truth_at}
use Rattle.bb_bits.specs.Laws.TruthLaws.{QuantifierLaws}
use Rattle.bb_net.specs.Equivalence.{AllRight, out_bit, wanted_bit}
use Rattle.bb_net.specs.Conditions.{PinBits, all_outs, all_ins, ChoicesSuit}
use Rattle.bb_net.specs.Netlists.{Netlist}
use Rattle.bb_net.specs.Pairs.{pin_count}
use Rattle.bb_net.specs.Values.{bit_of, flat}
use Rattle.bb_sym.specs.Laws.{FunctionLaws}
use Rattle.bb_sym.specs.Plain.{table, one_of}
use Rattle.bb_input.specs.InputFunctions.{pins_and_inputs, point_pins, given_ins, in_places, is_missed, is_wrong_output, has_wrong, refutes, refuted}
use Rattle.bb_input.proofs.Points.{bits_prefix, ins_joined, ins_split, ins_count}

xor_same : (a b : Bool) → xor a b ≡ false → a ≡ b
xor_same true true e = refl
xor_same false false e = refl
xor_same true false e = absurd (let h : true ≡ false = e in cc)
xor_same false true e = absurd (let h : true ≡ false = e in cc)

same_xor : (a b : Bool) → a ≡ b → xor a b ≡ false
same_xor true true e = refl
same_xor false false e = refl
same_xor true false e = absurd (let h : true ≡ false = e in cc)
same_xor false true e = absurd (let h : false ≡ true = e in cc)

-- "wrong and not missed" is 0
refuted_not : (wrong missed : Bool) → wrong && not missed ≡ false → missed ≡ false → wrong ≡ false
refuted_not true false e f = e
refuted_not true true e f = absurd (let h : true ≡ false = f in cc)
refuted_not false missed e f = refl

not_refuted : (wrong missed : Bool) → (missed ≡ false → wrong ≡ false) → wrong && not missed ≡ false
not_refuted true true h = refl
not_refuted true false h = h refl
not_refuted false missed h = refl

module _ (functions : FunctionLaws) (spec imp : Netlist) (pre x : List Bool) (e : length pre ≡ pin_count imp.boxes) where
  abbrev p : List Bool
  p = pre ++ x

  abbrev bits : List Bool
  bits = flat imp x (all_outs (point_pins imp.boxes pre))

  inputs_is : drop (pin_count imp.boxes) p ≡ x
  inputs_is = ap (λ k. drop k p) (sym e) ∙ drop-append_seam pre x

  pins_is : point_pins imp.boxes p ≡ point_pins imp.boxes pre
  pins_is = bits_prefix imp.boxes pre x (omega (arith, e))

  value_is : flat imp (drop (pin_count imp.boxes) p) (all_outs (point_pins imp.boxes p)) ≡ bits
  value_is = ap₂ (λ (v : List Bool) (cs : List PinBits). flat imp v (all_outs cs)) inputs_is pins_is

  wrong_is : (j : ℕ) → is_wrong_output spec imp j p ≡ xor (wanted_bit spec x j) (out_bit imp bits j)
  wrong_is j = ap₂ xor (ap (λ (v : List Bool). bit_of (flat spec v []) (slice_index spec.outs j)) inputs_is) (ap (λ (v : List Bool). bit_of v (slice_index imp.outs j)) value_is)

  missed_is : (q : ℕ) → is_missed imp q p ≡ xor (bit_of (given_ins imp pre) q) (bit_of bits (slice_index (in_places imp.boxes) q))
  missed_is q = ap₂ xor (ap (λ (cs : List PinBits). bit_of (flat_map (λ (c : PinBits). c.ins) cs) q) pins_is) (ap (λ (v : List Bool). bit_of v (slice_index (in_places imp.boxes) q)) value_is)

  count_is : length (flat_map (λ (c : PinBits). c.ins) (point_pins imp.boxes pre)) ≡ length (in_places imp.boxes)
  count_is = ins_count imp.boxes pre (omega (arith, e))

  place_bit : (q : ℕ) → q < length (in_places imp.boxes) → bit_of (map (bit_of bits) (in_places imp.boxes)) q ≡ bit_of bits (slice_index (in_places imp.boxes) q)
  place_bit q l = get_or-map (bit_of bits) (in_places imp.boxes) q 0 false l

  -- the inputs lead to the bits exactly where none is missed
  led_missed : all_ins imp.boxes bits ≡ map (λ (c : PinBits). c.ins) (point_pins imp.boxes pre) → one_of (is_missed imp) (length (in_places imp.boxes)) p ≡ false
  led_missed led =
      (functions.one_false (is_missed imp) (length (in_places imp.boxes)) p).1 (λ q l.
      missed_is q ∙ same_xor (bit_of (given_ins imp pre) q) (bit_of bits (slice_index (in_places imp.boxes) q))
      (ap (λ (v : List Bool). bit_of v q) (ins_joined imp.boxes bits pre (omega (arith, e)) led) ∙ place_bit q l))

  missed_led : one_of (is_missed imp) (length (in_places imp.boxes)) p ≡ false → all_ins imp.boxes bits ≡ map (λ (c : PinBits). c.ins) (point_pins imp.boxes pre)
  missed_led none =
      let each = (functions.one_false (is_missed imp) (length (in_places imp.boxes)) p).0 none in
      let long = length-map (in_places imp.boxes) (bit_of bits) in
      ins_split imp.boxes bits pre (omega (arith, e))
      (ext_get_or false (flat_map (λ (c : PinBits). c.ins) (point_pins imp.boxes pre)) (map (bit_of bits) (in_places imp.boxes)) (count_is ∙ sym long) (λ q l.
      let here : q < length (in_places imp.boxes) = omega (arith, l, count_is) in
      xor_same (bit_of (given_ins imp pre) q) (bit_of bits (slice_index (in_places imp.boxes) q)) (sym (missed_is q) ∙ each q here) ∙ sym (place_bit q here)))

  all_right : has_wrong spec imp p ≡ false → AllRight spec imp x bits
  all_right none j l = sym (xor_same (wanted_bit spec x j) (out_bit imp bits j) (sym (wrong_is j) ∙ (functions.one_false (is_wrong_output spec imp) (length imp.outs) p).0 none j l))

  right_none : AllRight spec imp x bits → has_wrong spec imp p ≡ false
  right_none right = (functions.one_false (is_wrong_output spec imp) (length imp.outs) p).1 (λ j l. wrong_is j ∙ same_xor (wanted_bit spec x j) (out_bit imp bits j) (sym (right j l)))

  pub suits_at : refutes spec imp p ≡ false → all_ins imp.boxes bits ≡ map (λ (c : PinBits). c.ins) (point_pins imp.boxes pre) → AllRight spec imp x bits
  suits_at none led = all_right (refuted_not (has_wrong spec imp p) (one_of (is_missed imp) (length (in_places imp.boxes)) p) none (led_missed led))

  pub at_suits : (all_ins imp.boxes bits ≡ map (λ (c : PinBits). c.ins) (point_pins imp.boxes pre) → AllRight spec imp x bits) → refutes spec imp p ≡ false
  at_suits right = not_refuted (has_wrong spec imp p) (one_of (is_missed imp) (length (in_places imp.boxes)) p) (λ none. right_none (right (missed_led none)))

module _ (quantifiers : QuantifierLaws) (functions : FunctionLaws) (spec imp : Netlist) (pre w : List Bool) (e : length pre ≡ pin_count imp.boxes) (l : length w ≡ imp.inputs) where
  sized : IsTruthTable (pin_count imp.boxes + (imp.inputs + 0)) (table (pins_and_inputs imp) (refutes spec imp))
  sized = subst (λ n. IsTruthTable n (table (pins_and_inputs imp) (refutes spec imp))) (omega arith) (functions.size (pins_and_inputs imp) (refutes spec imp))

  point_is : (x : List Bool) → length x ≡ imp.inputs → truth_at (table (pins_and_inputs imp) (refutes spec imp)) (pre ++ (x ++ [])) ≡ refutes spec imp (pre ++ x)
  point_is x long =
      functions.at_point (pins_and_inputs imp) (refutes spec imp) (pre ++ (x ++ [])) (omega (arith, length-append pre (x ++ []), length-append x [], e, long))
      ∙ ap (λ (v : List Bool). refutes spec imp (pre ++ v)) (append-nil x)

  whole : truth_at (refuted spec imp) (pre ++ w) ≡ truth_at (refuted spec imp) (pre ++ (w ++ []))
  whole = ap (λ (v : List Bool). truth_at (refuted spec imp) (pre ++ v)) (sym (append-nil w))

  pub suits_of_false : truth_at (refuted spec imp) (pre ++ w) ≡ false → ChoicesSuit spec imp (point_pins imp.boxes pre)
  suits_of_false none x vector led =
      let each = (quantifiers.some_false (pin_count imp.boxes) imp.inputs (table (pins_and_inputs imp) (refutes spec imp)) pre w [] e l sized).0 (sym whole ∙ none) x vector in
      suits_at functions spec imp pre x e (sym (point_is x vector) ∙ each) led

  pub false_of_suits : ChoicesSuit spec imp (point_pins imp.boxes pre) → truth_at (refuted spec imp) (pre ++ w) ≡ false
  false_of_suits suit =
      whole ∙ (quantifiers.some_false (pin_count imp.boxes) imp.inputs (table (pins_and_inputs imp) (refutes spec imp)) pre w [] e l sized).1 (λ x vector. point_is x vector ∙ at_suits functions spec imp pre x e (suit x vector))
