-- Where no contents agree, there is a counterexample to all of them. A vector is as long as the list of inputs; at each of them two
-- worlds are there, whose outputs are lists that are compared bit by bit.
use Rattle.std.proofs.Common.{◌≡◌, ◌⊎◌, ◌∷◌, ◌++◌, ◌∙◌, ℕ, zero, suc, Bool, true, false, not, List, [], map, length, Contains, Option, Some, None, refl, sym, ap, ap₂, subst, inl, inr, arith}
use Rattle.std.proofs.lemmas.List.{length-map, map-append}
use Rattle.std.proofs.lemmas.List.Elements.{All-contains, Contains-append_cases, Contains-append_left, Contains-append_right}
use Rattle.std.proofs.lemmas.Simd.{map-map}
use Rattle.bb_bits.specs.Contents.{Contents}
use Rattle.bb_bits.specs.Names.{same_name}
use Rattle.bb_lemmas.proofs.Deciding.{Decision, Decides, decide_both, decide_contains, decide_same}
use Rattle.bb_lemmas.proofs.Members.{all_from, contains-map, contains_cases, from_map, keeps, kept_from, none_in_nil}
use Rattle.bb_lemmas.proofs.Names.{same_equal}
use Rattle.bb_design.specs.Hierarchy.{Design}
use Rattle.bb_design.specs.NetBits.{Bit, top_inputs, top_outputs}
use Rattle.bb_design.specs.Refusals.{input_texts, output_texts, register_texts}
use Rattle.bb_design.specs.Registers.{RegisterBit, registers}
use Rattle.bb_design.specs.Texts.{bit_text}
use Rattle.bb_design.specs.Worlds.{World, Vector, HasVector, IsWorld, FitDesign, bit_in, next_bit, outputs_in}
use Rattle.bb_match.specs.Refusals.{compared}
use Rattle.bb_net.specs.CutPoints.{CutInput, TopInput, State, CutOutput, TopOutput, NextState}
use Rattle.bb_equiv.specs.Comparable.{AreComparable}
use Rattle.bb_equiv.specs.DesignEquivalence.{HaveSameBits, IsRequired, IsCompared}
use Rattle.bb_equiv.specs.Laws.Mistakes.{CounterexamplesExist, HaveCounterexample}
use Rattle.bb_equiv.specs.Mistakes.{DifferAt, inputs_of}
use Rattle.bb_equiv.proofs.BitDecisions.{decide_bool, decide_name, decide_not, decide_some}
use Rattle.bb_equiv.proofs.Mistakes.{other_bit}
use Rattle.bb_equiv.proofs.OneBit.{apart, called, one_next, one_top, valued}

-- what can be reported of each list of so many bits is so of all, or what else there is is found
report_all : (n : ℕ) (P : List Bool → Type 0) (Q : Type 0) → ((xs : List Bool) → length xs ≡ n → P xs ⊎ Q) → ((xs : List Bool) → length xs ≡ n → P xs) ⊎ Q
report_all zero P Q report = from (report [] refl)
  where
    only : P [] → (xs : List Bool) → length xs ≡ zero → P xs
    only p [] e = p
    only p (b ∷ xs) e = absurd (omega (arith, e))

    from : P [] ⊎ Q → ((xs : List Bool) → length xs ≡ zero → P xs) ⊎ Q
    from (inl p) = inl (only p)
    from (inr found) = inr found
report_all (suc n) P Q report = from (report_all n (λ xs. P (true ∷ xs) × P (false ∷ xs)) Q (λ xs e. both xs (report (true ∷ xs) (omega (arith, e))) (report (false ∷ xs) (omega (arith, e)))))
  where
    both : (xs : List Bool) → P (true ∷ xs) ⊎ Q → P (false ∷ xs) ⊎ Q → (P (true ∷ xs) × P (false ∷ xs)) ⊎ Q
    both xs (inl p) (inl q) = inl (p, q)
    both xs (inl p) (inr found) = inr found
    both xs (inr found) other = inr found

    each : ((xs : List Bool) → length xs ≡ n → P (true ∷ xs) × P (false ∷ xs)) → (xs : List Bool) → length xs ≡ suc n → P xs
    each all [] e = absurd (omega (arith, e))
    each all (true ∷ xs) e = (all xs (omega (arith, e))).0
    each all (false ∷ xs) e = (all xs (omega (arith, e))).1

    from : ((xs : List Bool) → length xs ≡ n → P (true ∷ xs) × P (false ∷ xs)) ⊎ Q → ((xs : List Bool) → length xs ≡ suc n → P xs) ⊎ Q
    from (inl all) = inl (each all)
    from (inr found) = inr found

-- what is not false is so, where it can be reported
so : {P : Type 0} → Decision P → ((P → ⊥) → ⊥) → P
so (inl p) not_off = p
so (inr off) not_off = absurd (not_off off)

-- inputs and outputs can be reported from each other

top_is : (a b : List ℕ) → TopInput a ≡ TopInput b → a ≡ b
top_is a b e = cc e

state_is : (a b : List ℕ) → State a ≡ State b → a ≡ b
state_is a b e = cc e

input_or_state : (a b : List ℕ) → TopInput a ≡ State b → ⊥
input_or_state a b e = cc e

decide_input : Decides CutInput
decide_input (TopInput a) (TopInput b) = decide_same {P = a ≡ b} (λ e. ap TopInput e, top_is a b) (decide_name a b)
decide_input (TopInput a) (State b) = inr (input_or_state a b)
decide_input (State a) (TopInput b) = inr (λ e. input_or_state b a (sym e))
decide_input (State a) (State b) = decide_same {P = a ≡ b} (λ e. ap State e, state_is a b) (decide_name a b)

decide_output : Decides CutOutput
decide_output (TopOutput a) (TopOutput b) = decide_same {P = a ≡ b} (λ e. ap TopOutput e, one_top a b) (decide_name a b)
decide_output (TopOutput a) (NextState b) = inr (apart a b)
decide_output (NextState a) (TopOutput b) = inr (λ e. apart b a (sym e))
decide_output (NextState a) (NextState b) = decide_same {P = a ≡ b} (λ e. ap NextState e, one_next a b) (decide_name a b)

decide_bit_of : Decides (CutOutput × Bool)
decide_bit_of a b = decide_same {P = (a.0 ≡ b.0) × (a.1 ≡ b.1)} (λ h. ap₂ (λ o v. (o, v)) h.0 h.1, λ e. (called e, valued e)) (decide_both (decide_output a.0 b.0) (decide_bool a.1 b.1))

decide_compared : (care : Option (List ℕ)) (o : CutOutput) → Decision (IsCompared care o)
decide_compared None o = inl tt
decide_compared (Some c) o = decide_not (decide_output o (TopOutput c))

decide_requested : (care : Option (List ℕ)) (os : List (CutOutput × Bool)) → Decision (IsRequired care os)
decide_requested None os = inl tt
decide_requested (Some c) os = decide_contains decide_bit_of os (TopOutput c, true)

-- the vector that gives these bits to these inputs, and 0 to every other

abbrev pick : {P : Type 0} → Decision P → Bool → Bool → Bool
pick (inl is) b c = b
pick (inr off) b c = c

abbrev vector_of : List CutInput → List Bool → CutInput → Bool
vector_of [] xs u = false
vector_of (v ∷ vs) [] u = false
vector_of (v ∷ vs) (b ∷ xs) u = pick (decide_input v u) b (vector_of vs xs u)

-- by the bits of a vector it is that vector there
same_there : (x : Vector) (us : List CutInput) (u : CutInput) → Contains us u → vector_of us (map x us) u ≡ x u
same_there x [] u has = absurd (none_in_nil u has)
same_there x (v ∷ vs) u has = by (decide_input v u) (contains_cases v vs u has) (same_there x vs u)
  where
    by : (d : Decision (v ≡ u)) → (v ≡ u) ⊎ Contains vs u → (Contains vs u → vector_of vs (map x vs) u ≡ x u) → pick d (x v) (vector_of vs (map x vs) u) ≡ x u
    by (inl same) place rest = ap x same
    by (inr off) (inl same) rest = absurd (off same)
    by (inr off) (inr there) rest = rest there

-- a world has each vector that is the same at the inputs of the design
moved : (d : Design) (x y : Vector) (w : World) → ((n : List ℕ) → Contains (input_texts d) n → x (TopInput n) ≡ y (TopInput n)) → ((n : List ℕ) → Contains (register_texts d) n → x (State n) ≡ y (State n)) → HasVector d x w → HasVector d y w
moved d x y w on_inputs on_states has = record {
  inputs = all_from (λ (b : Bit). bit_in w b ≡ y (TopInput (bit_text d b))) (top_inputs d) (λ b in_b.
      All-contains (λ (b : Bit). bit_in w b ≡ x (TopInput (bit_text d b))) (top_inputs d) b has.inputs in_b ∙ on_inputs (bit_text d b) (contains-map (bit_text d) (top_inputs d) b in_b));
  states = all_from (λ (r : RegisterBit). bit_in w r.bit ≡ y (State (bit_text d r.bit))) (registers d) (λ r in_r.
      All-contains (λ (r : RegisterBit). bit_in w r.bit ≡ x (State (bit_text d r.bit))) (registers d) r has.states in_r
      ∙ on_states (bit_text d r.bit) (contains-map (λ (r : RegisterBit). bit_text d r.bit) (registers d) r in_r));
}

-- outputs and their bits

abbrev of_top : Design → World → Bit → CutOutput × Bool
of_top d u t = (TopOutput (bit_text d t), bit_in u t)

abbrev of_register : Design → World → RegisterBit → CutOutput × Bool
of_register d u r = (NextState (bit_text d r.bit), next_bit u r)

pairs_same : {A B : Type 0} (xs ys : List (A × B)) → map (λ (o : A × B). o.0) xs ≡ map (λ (o : A × B). o.0) ys → map (λ (o : A × B). o.1) xs ≡ map (λ (o : A × B). o.1) ys → xs ≡ ys
pairs_same [] [] e f = refl
pairs_same [] (y ∷ ys) e f = cc e
pairs_same (x ∷ xs) [] e f = cc e
pairs_same (x ∷ xs) (y ∷ ys) e f =
    let name : x.0 ≡ y.0 = cc e in
    let bit : x.1 ≡ y.1 = cc f in
    let names : map (λ o. o.0) xs ≡ map (λ o. o.0) ys = cc e in
    let bits : map (λ o. o.1) xs ≡ map (λ o. o.1) ys = cc f in
    ap₂ ◌∷◌ (ap₂ (λ a b. (a, b)) name bit) (pairs_same xs ys names bits)

names_are : (d : Design) (u : World) → map (λ (o : CutOutput × Bool). o.0) (outputs_in d u) ≡ map (λ b. TopOutput (bit_text d b)) (top_outputs d) ++ map (λ (r : RegisterBit). NextState (bit_text d r.bit)) (registers d)
names_are d u = map-append (λ (o : CutOutput × Bool). o.0) (map (of_top d u) (top_outputs d)) (map (of_register d u) (registers d))
    ∙ ap₂ ◌++◌ (map-map (λ (o : CutOutput × Bool). o.0) (of_top d u) (top_outputs d)) (map-map (λ (o : CutOutput × Bool). o.0) (of_register d u) (registers d))

-- worlds with the same bits at the outputs have the same outputs
same_outputs : (d : Design) (w u : World) → map (λ (o : CutOutput × Bool). o.1) (outputs_in d w) ≡ map (λ (o : CutOutput × Bool). o.1) (outputs_in d u) → outputs_in d w ≡ outputs_in d u
same_outputs d w u bits = pairs_same (outputs_in d w) (outputs_in d u) (names_are d w ∙ sym (names_are d u)) bits

top_there : (d : Design) (u : World) (n : List ℕ) → Contains (output_texts d) n → (b : Bool) × Contains (outputs_in d u) (TopOutput n, b)
top_there d u n has =
    let (t, in_t, is) = from_map (bit_text d) (top_outputs d) n has in
    (bit_in u t, subst (λ m. Contains (outputs_in d u) (TopOutput m, bit_in u t)) is (Contains-append_left (map (of_top d u) (top_outputs d)) (map (of_register d u) (registers d)) (of_top d u t) (contains-map (of_top d u) (top_outputs d) t in_t)))

next_there : (d : Design) (u : World) (n : List ℕ) → Contains (register_texts d) n → (b : Bool) × Contains (outputs_in d u) (NextState n, b)
next_there d u n has =
    let (r, in_r, is) = from_map (λ (r : RegisterBit). bit_text d r.bit) (registers d) n has in
    (next_bit u r, subst (λ m. Contains (outputs_in d u) (NextState m, next_bit u r)) is (Contains-append_right (map (of_top d u) (top_outputs d)) (map (of_register d u) (registers d)) (of_register d u r) (contains-map (of_register d u) (registers d) r in_r)))

-- an output is one of the top or a next state
abbrev Kind : Design → CutOutput → Type 0
Kind d o = ((n : List ℕ) × Contains (output_texts d) n × (TopOutput n ≡ o)) ⊎ ((n : List ℕ) × Contains (register_texts d) n × (NextState n ≡ o))

kind_of : (d : Design) (u : World) (o : CutOutput) (b : Bool) → Contains (outputs_in d u) (o, b) → Kind d o
kind_of d u o b has = from (Contains-append_cases (map (of_top d u) (top_outputs d)) (map (of_register d u) (registers d)) (o, b) has)
  where
    from : Contains (map (of_top d u) (top_outputs d)) (o, b) ⊎ Contains (map (of_register d u) (registers d)) (o, b) → Kind d o
    from (inl top) = let (t, in_t, is) = from_map (of_top d u) (top_outputs d) (o, b) top in inl (bit_text d t, contains-map (bit_text d) (top_outputs d) t in_t, called is)
    from (inr next) = let (r, in_r, is) = from_map (of_register d u) (registers d) (o, b) next in inr (bit_text d r.bit, contains-map (λ (r : RegisterBit). bit_text d r.bit) (registers d) r in_r, called is)

-- a text that is compared is one of those that are

among : (care : Option (List ℕ)) (texts : List (List ℕ)) (n : List ℕ) → Contains texts n → IsCompared care (TopOutput n) → Contains (compared care texts) n
among None texts n has counts = has
among (Some c) texts n has counts = keeps (λ text. not (same_name c text)) texts n has (passes (same_name c n) refl)
  where
    passes : (b : Bool) → same_name c n ≡ b → not (same_name c n) ≡ true
    passes false e = ap not e
    passes true e = absurd (counts (ap TopOutput (sym (same_equal c n e))))

among_all : (care : Option (List ℕ)) (texts : List (List ℕ)) (n : List ℕ) → Contains (compared care texts) n → Contains texts n
among_all None texts n has = has
among_all (Some c) texts n has = (kept_from (λ text. not (same_name c text)) texts n has).0

-- in two worlds of designs that can be compared the same bits are there, or the two differ at some output
module _ (care : Option (List ℕ)) (spec imp : Design) (can : AreComparable care spec imp) (w v : World) where
  in_imp : (o : CutOutput) (b : Bool) → IsCompared care o → Contains (outputs_in spec w) (o, b) → (c : Bool) × Contains (outputs_in imp v) (o, c)
  in_imp o b counts has = from (kind_of spec w o b has)
    where
      from : Kind spec o → (c : Bool) × Contains (outputs_in imp v) (o, c)
      from (inl (n, in_n, is)) =
          let there = among care (output_texts spec) n in_n (subst (IsCompared care) (sym is) counts) in
          subst (λ z. (c : Bool) × Contains (outputs_in imp v) (z, c)) is (top_there imp v n (All-contains (Contains (output_texts imp)) (compared care (output_texts spec)) n can.same_outputs.0 there))
      from (inr (n, in_n, is)) =
          subst (λ z. (c : Bool) × Contains (outputs_in imp v) (z, c)) is (next_there imp v n (All-contains (Contains (register_texts imp)) (register_texts spec) n can.same_registers.0 in_n))

  in_spec : (o : CutOutput) (b : Bool) → Contains (outputs_in imp v) (o, b) → (c : Bool) × Contains (outputs_in spec w) (o, c)
  in_spec o b has = from (kind_of imp v o b has)
    where
      from : Kind imp o → (c : Bool) × Contains (outputs_in spec w) (o, c)
      from (inl (n, in_n, is)) =
          let there = All-contains (Contains (compared care (output_texts spec))) (output_texts imp) n can.same_outputs.1 in_n in
          subst (λ z. (c : Bool) × Contains (outputs_in spec w) (z, c)) is (top_there spec w n (among_all care (output_texts spec) n there))
      from (inr (n, in_n, is)) =
          subst (λ z. (c : Bool) × Contains (outputs_in spec w) (z, c)) is (next_there spec w n (All-contains (Contains (register_texts spec)) (register_texts imp) n can.same_registers.1 in_n))

  -- it is compared, and the other has it not
  abbrev Off : List (CutOutput × Bool) → CutOutput × Bool → Type 0
  Off others p = IsCompared care p.0 × (Contains others p → ⊥)

  decide_off : (others : List (CutOutput × Bool)) (p : CutOutput × Bool) → Decision (Off others p)
  decide_off others p = decide_both (decide_compared care p.0) (decide_not (decide_contains decide_bit_of others p))

  abbrev Found : Type 0
  Found = (o : CutOutput) × DifferAt care spec imp w v o

  lost : (o : CutOutput) (b : Bool) → Contains (outputs_in spec w) (o, b) → Off (outputs_in imp v) (o, b) → Found
  lost o b has off =
      let (c, there) = in_imp o b off.0 has in
      let other : c ≡ not b = other_bit c b (λ same. off.1 (subst (λ z. Contains (outputs_in imp v) (o, z)) same there)) in
      (o, record { is_compared = off.0; bit = b; spec_has = has; imp_has = subst (λ z. Contains (outputs_in imp v) (o, z)) other there })

  gained : (o : CutOutput) (b : Bool) → Contains (outputs_in imp v) (o, b) → Off (outputs_in spec w) (o, b) → Found
  gained o b has off =
      let (c, there) = in_spec o b has in
      let other : b ≡ not c = other_bit b c (λ same. off.1 (subst (λ z. Contains (outputs_in spec w) (o, z)) (sym same) there)) in
      (o, record { is_compared = off.0; bit = c; spec_has = there; imp_has = subst (λ z. Contains (outputs_in imp v) (o, z)) other has })

  pub same_or_differ : HaveSameBits care (outputs_in spec w) (outputs_in imp v) ⊎ Found
  same_or_differ = from (decide_some (Off (outputs_in imp v)) (decide_off (outputs_in imp v)) (outputs_in spec w)) (decide_some (Off (outputs_in spec w)) (decide_off (outputs_in spec w)) (outputs_in imp v))
    where
      from : Decision ((p : CutOutput × Bool) × Contains (outputs_in spec w) p × Off (outputs_in imp v) p) → Decision ((p : CutOutput × Bool) × Contains (outputs_in imp v) p × Off (outputs_in spec w) p)
          → HaveSameBits care (outputs_in spec w) (outputs_in imp v) ⊎ Found
      from (inl (p, has, off)) other = inr (lost p.0 p.1 has off)
      from (inr none) (inl (p, has, off)) = inr (gained p.0 p.1 has off)
      from (inr none) (inr neither) = inl (λ o b counts. (
        (λ has. so (decide_contains decide_bit_of (outputs_in imp v) (o, b)) (λ off. none ((o, b), has, (counts, off)))),
        (λ has. so (decide_contains decide_bit_of (outputs_in spec w) (o, b)) (λ off. neither ((o, b), has, (counts, off)))),
      ))

module _ (care : Option (List ℕ)) (spec imp : Design) (contents : Contents) (can : AreComparable care spec imp) (fit : FitDesign imp contents) where
  abbrev AreEquivalentAt : Vector → Type 0
  AreEquivalentAt x = (w v : World) → IsWorld spec contents w → HasVector spec x w → IsWorld imp contents v → HasVector imp x v → IsRequired care (outputs_in spec w) → HaveSameBits care (outputs_in spec w) (outputs_in imp v)

  module _ (x : Vector) where
    spec_one : (w u : World) → IsWorld spec contents w → HasVector spec x w → IsWorld spec contents u → HasVector spec x u → outputs_in spec w ≡ outputs_in spec u
    spec_one w u is_w has_w is_u has_u = same_outputs spec w u ((can.settled contents fit).0.one x w u is_w has_w is_u has_u)

    imp_one : (w u : World) → IsWorld imp contents w → HasVector imp x w → IsWorld imp contents u → HasVector imp x u → outputs_in imp w ≡ outputs_in imp u
    imp_one w u is_w has_w is_u has_u = same_outputs imp w u ((can.settled contents fit).1.one x w u is_w has_w is_u has_u)

    module _ (w v : World) (is_w : IsWorld spec contents w) (has_w : HasVector spec x w) (is_v : IsWorld imp contents v) (has_v : HasVector imp x v) where
      agree_at : HaveSameBits care (outputs_in spec w) (outputs_in imp v) → AreEquivalentAt x
      agree_at same u t is_u has_u is_t has_t requested =
          subst (λ os. HaveSameBits care os (outputs_in imp t)) (spec_one w u is_w has_w is_u has_u)
          (subst (λ ps. HaveSameBits care (outputs_in spec w) ps) (imp_one v t is_v has_v is_t has_t) same)

      differ_at : IsRequired care (outputs_in spec w) → (o : CutOutput) → DifferAt care spec imp w v o → HaveCounterexample care spec imp contents
      differ_at requested o differ = (
        x,
        o,
        record {
          worlds = ((w, is_w, has_w), (v, is_v, has_v));
          required = λ u is_u has_u. subst (IsRequired care) (spec_one w u is_w has_w is_u has_u) requested;
          differ = λ u t is_u has_u is_t has_t. record {
            is_compared = differ.is_compared;
            bit = differ.bit;
            spec_has = subst (λ os. Contains os (o, differ.bit)) (spec_one w u is_w has_w is_u has_u) differ.spec_has;
            imp_has = subst (λ ps. Contains ps (o, not differ.bit)) (imp_one v t is_v has_v is_t has_t) differ.imp_has;
          };
        },
      )

      by_worlds : AreEquivalentAt x ⊎ HaveCounterexample care spec imp contents
      by_worlds = from (decide_requested care (outputs_in spec w)) (same_or_differ care spec imp can w v)
        where
          from : Decision (IsRequired care (outputs_in spec w)) → HaveSameBits care (outputs_in spec w) (outputs_in imp v) ⊎ ((o : CutOutput) × DifferAt care spec imp w v o) → AreEquivalentAt x ⊎ HaveCounterexample care spec imp contents
          from (inr off) found = inl (λ u t is_u has_u is_t has_t requested. absurd (off (subst (IsRequired care) (spec_one u w is_u has_u is_w has_w) requested)))
          from (inl requested) (inl same) = inl (agree_at same)
          from (inl requested) (inr (o, differ)) = inr (differ_at requested o differ)

    -- at a vector the two agree, or it is a counterexample
    pub at_vector : AreEquivalentAt x ⊎ HaveCounterexample care spec imp contents
    at_vector =
        let (w, is_w, has_w) = (can.settled contents fit).0.some x in
        let (v, is_v, has_v) = (can.settled contents fit).1.some x in
        by_worlds w v is_w has_w is_v has_v

  abbrev listed : Vector → Vector
  listed x = vector_of (inputs_of spec) (map x (inputs_of spec))

  input_same : (x : Vector) (n : List ℕ) → Contains (input_texts spec) n → x (TopInput n) ≡ listed x (TopInput n)
  input_same x n in_n = sym (same_there x (inputs_of spec) (TopInput n) (Contains-append_left (map TopInput (input_texts spec)) (map State (register_texts spec)) (TopInput n) (contains-map TopInput (input_texts spec) n in_n)))

  state_same : (x : Vector) (n : List ℕ) → Contains (register_texts spec) n → x (State n) ≡ listed x (State n)
  state_same x n in_n = sym (same_there x (inputs_of spec) (State n) (Contains-append_right (map TopInput (input_texts spec)) (map State (register_texts spec)) (State n) (contains-map State (register_texts spec) n in_n)))

  -- where the two agree at the vectors by lists of bits, they do at all
  agree_at_all : ((xs : List Bool) → length xs ≡ length (inputs_of spec) → AreEquivalentAt (vector_of (inputs_of spec) xs)) → (x : Vector) → AreEquivalentAt x
  agree_at_all all x w v is_w has_w is_v has_v requested =
      all (map x (inputs_of spec)) (length-map (inputs_of spec) x) w v is_w (moved spec x (listed x) w (input_same x) (state_same x) has_w) is_v
      (moved imp x (listed x) v
      (λ n in_n. input_same x n (All-contains (Contains (input_texts spec)) (input_texts imp) n can.same_inputs.1 in_n))
      (λ n in_n. state_same x n (All-contains (Contains (register_texts spec)) (register_texts imp) n can.same_registers.1 in_n)) has_v) requested

  pub agree_or_differ : ((x : Vector) → AreEquivalentAt x) ⊎ HaveCounterexample care spec imp contents
  agree_or_differ = from (report_all (length (inputs_of spec)) (λ xs. AreEquivalentAt (vector_of (inputs_of spec) xs)) (HaveCounterexample care spec imp contents) (λ xs long. at_vector (vector_of (inputs_of spec) xs)))
    where
      from : ((xs : List Bool) → length xs ≡ length (inputs_of spec) → AreEquivalentAt (vector_of (inputs_of spec) xs)) ⊎ HaveCounterexample care spec imp contents → ((x : Vector) → AreEquivalentAt x) ⊎ HaveCounterexample care spec imp contents
      from (inl all) = inl (agree_at_all all)
      from (inr found) = inr found

pub counterexamples_exist : CounterexamplesExist
counterexamples_exist care shared spec imp can none contents fill = from (agree_or_differ care spec imp contents can fill.fit)
  where
    from : ((x : Vector) → AreEquivalentAt care spec imp contents can fill.fit x) ⊎ HaveCounterexample care spec imp contents → HaveCounterexample care spec imp contents
    from (inl agree) = absurd (none contents fill agree)
    from (inr found) = found
