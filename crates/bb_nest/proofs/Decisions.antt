-- What can be reported of a netlist: whether two cells are the same, whether boxes are nested, and whether boxes can be filled one after another.
use Rattle.std.proofs.Common.{◌≡◌, ◌≢◌, ◌⊎◌, ◌<◌, ℕ, zero, suc, Bool, true, false, List, [], ◌∷◌, ◌++◌, length, slice_index, AllPairs, All, refl, sym, ◌∙◌, subst, inl, inr, arith}
use Rattle.std.proofs.lemmas.List.{get_or_default}
use Rattle.std.proofs.lemmas.List.Elements.{All-nil, All-cons, All-head, All-tail}
use Rattle.bb_bits.specs.Closures.{IsFirstRepeat}
use Rattle.bb_lemmas.proofs.Deciding.{Decision, decide_number, repeat_or_apart}
use Rattle.bb_lemmas.proofs.Firsts.{repeat_not_apart}
use Rattle.bb_lemmas.proofs.LeastBits.{Below, least_or_none}
use Rattle.bb_lemmas.proofs.Orders.{less_or_same}
use Rattle.bb_net.specs.Equivalence.{AreBoxOutputs}
use Rattle.bb_net.specs.Conditions.{PinBits, ChoicesSuit, InputsHaveOutputs}
use Rattle.bb_net.specs.Netlists.{Netlist, Pins, box_at}
use Rattle.bb_net.specs.Values.{bit_of, flat, output_pins}
use Rattle.bb_nest.specs.Nested.{AreSame, Sees, pin_cells, AreNested}
use Rattle.bb_nest.specs.Rows.{IsSeenFirst}

decide_bit : (a b : Bool) → (a ≢ b) ⊎ (a ≡ b)
decide_bit false false = inr refl
decide_bit true true = inr refl
decide_bit false true = inl (λ e. let h : true ≡ false = sym e in cc)
decide_bit true false = inl (λ e. let h : true ≡ false = e in cc)

-- the first number of which something holds
pub first_below : (P : ℕ → Type 0) → ((q : ℕ) → Decision (P q)) → (n : ℕ) → ((p : ℕ) × (p < n) × P p × ((q : ℕ) → q < p → P q → ⊥)) ⊎ ((q : ℕ) → q < n → P q → ⊥)
first_below P decide zero = inr (λ q l h. omega (arith, l))
first_below P decide (suc n) = from (first_below P decide n) (decide n)
  where
    from : ((p : ℕ) × (p < n) × P p × ((q : ℕ) → q < p → P q → ⊥)) ⊎ ((q : ℕ) → q < n → P q → ⊥) → Decision (P n) → ((p : ℕ) × (p < suc n) × P p × ((q : ℕ) → q < p → P q → ⊥)) ⊎ ((q : ℕ) → q < suc n → P q → ⊥)
    from (inl found) here = inl (found.0, omega (arith, found.1), found.2, found.3)
    from (inr none) (inl holds) = inl (n, omega arith, holds, none)
    from (inr none) (inr not) = inr (λ q l h. by q l h (less_or_same q n))
      where
        by : (q : ℕ) → q < suc n → P q → (q < n) ⊎ ((n < q) ⊎ (q ≡ n)) → ⊥
        by q l h (inl low) = none q low h
        by q l h (inr (inl high)) = omega (arith, l, high)
        by q l h (inr (inr e)) = not (subst P e h)

-- each element, or not each
pub decide_all : {A : Type 0} (P : A → Type 0) → ((x : A) → Decision (P x)) → (xs : List A) → Decision (All P xs)
decide_all P decide [] = inl (All-nil P)
decide_all P decide (x ∷ xs) = from (decide x) (decide_all P decide xs)
  where
    from : Decision (P x) → Decision (All P xs) → Decision (All P (x ∷ xs))
    from (inl h) (inl rest) = inl (All-cons P x xs h rest)
    from (inl h) (inr not) = inr (λ all. not (All-tail P x xs all))
    from (inr not) rest = inr (λ all. not (All-head P x xs all))

module _ (below : Below) where
  -- cells
  module _ (net : Netlist) (a b : ℕ) where
    abbrev at : List Bool → List Bool → ℕ → Bool
    at x z cell = bit_of (flat net x z) cell

    abbrev Apart : List Bool → Type 0
    Apart x = (z : List Bool) × AreBoxOutputs net z × (at x z a ≢ at x z b)

    abbrev Equal : List Bool → Type 0
    Equal x = (z : List Bool) → AreBoxOutputs net z → at x z a ≡ at x z b

    at_vector : (x : List Bool) → Apart x ⊎ Equal x
    at_vector x = elim (least_or_none below (λ z. at x z a ≢ at x z b) (λ z. at x z a ≡ at x z b) (λ z n e. n e) (output_pins net.boxes) (λ z len. decide_bit (at x z a) (at x z b))) [
      | inl found ↦ inl (found.0, found.1.long, found.1.holds)
      | inr all ↦ inr all
    ]

    pub decide_same : Decision (AreSame net a b)
    decide_same = elim (least_or_none below Apart Equal (λ x one all. one.2 (all one.0 one.1)) net.inputs (λ x len. at_vector x)) [
      | inl found ↦ inr (λ same. found.1.holds.2 (same found.0 found.1.holds.0 found.1.long found.1.holds.1))
      | inr all ↦ inl (λ x z vector outs. all x vector z outs)
    ]

  -- a box that sees a cell sees it first somewhere
  pub seen_first : (net : Netlist) (box : Pins) (cell : ℕ) → Decision ((p : ℕ) × IsSeenFirst net box cell p)
  seen_first net box cell = elim (first_below (λ p. AreSame net (slice_index box.ins p) cell) (λ p. decide_same net (slice_index box.ins p) cell) (length box.ins)) [
    | inl found ↦ inl (found.0, record { there = found.1; same = found.2; first = found.3 })
    | inr none ↦ inr (λ seen. none seen.0 seen.1.there seen.1.same)
  ]

  pub first_of_sees : (net : Netlist) (box : Pins) (cell : ℕ) → Sees net box cell → (p : ℕ) × IsSeenFirst net box cell p
  first_of_sees net box cell sees = elim (seen_first net box cell) [
    | inl found ↦ found
    | inr none ↦ absurd (elim (first_below (λ p. AreSame net (slice_index box.ins p) cell) (λ p. decide_same net (slice_index box.ins p) cell) (length box.ins)) [
      | inl found ↦ none (found.0, record { there = found.1; same = found.2; first = found.3 })
      | inr nowhere ↦ nowhere sees.1.0 sees.1.1 (subst (λ seen. AreSame net seen cell) (sym (get_or_default box.ins sees.1.0 0 sees.0 sees.1.1 ∙ sees.1.2)) sees.2)
    ])
  ]

  decide_sees : (net : Netlist) (box : Pins) (cell : ℕ) → Decision (Sees net box cell)
  decide_sees net box cell = elim (seen_first net box cell) [
    | inl found ↦ inl (slice_index box.ins found.0, (found.0, found.1.there, get_or_default box.ins found.0 (slice_index box.ins found.0) 0 found.1.there), found.1.same)
    | inr none ↦ inr (λ sees. none (first_of_sees net box cell sees))
  ]

  -- boxes
  decide_numbers : (P : ℕ → Type 0) → ((q : ℕ) → Decision (P q)) → (n : ℕ) → Decision ((q : ℕ) → q < n → P q)
  decide_numbers P decide n = elim (first_below (λ q. P q → ⊥) (λ q. opposite (decide q)) n) [
    | inl found ↦ inr (λ all. found.2 (all found.0 found.1))
    | inr none ↦ inl (λ q l. sure (decide q) (none q l))
  ]
    where
      opposite : {Q : Type 0} → Decision Q → Decision (Q → ⊥)
      opposite (inl h) = inr (λ not. not h)
      opposite (inr not) = inl not

      sure : {Q : Type 0} → Decision Q → ((Q → ⊥) → ⊥) → Q
      sure (inl h) twice = h
      sure (inr not) twice = absurd (twice not)

  pub decide_nested : (net : Netlist) (kinds : List ℕ) → Decision (AreNested net kinds)
  decide_nested net kinds = from (repeat_or_apart decide_number kinds) (decide_numbers Before decide_before (length net.boxes))
    where
      Before : ℕ → Type 0
      Before b = (a : ℕ) → a < b → All (Sees net (box_at net.boxes b)) (pin_cells (box_at net.boxes a))

      decide_before : (b : ℕ) → Decision (Before b)
      decide_before b = decide_numbers (λ a. All (Sees net (box_at net.boxes b)) (pin_cells (box_at net.boxes a)))
          (λ a. decide_all (Sees net (box_at net.boxes b)) (decide_sees net (box_at net.boxes b)) (pin_cells (box_at net.boxes a))) b

      from : AllPairs ◌≢◌ kinds ⊎ ((x : ℕ) × IsFirstRepeat kinds x) → Decision ((b : ℕ) → b < length net.boxes → Before b) → Decision (AreNested net kinds)
      from (inr found) seen = inr (λ nested. repeat_not_apart kinds found.0 found.1 nested.apart)
      from (inl apart) (inl all) = inl (record { apart = apart; seen = λ a b less there. all b there a less })
      from (inl apart) (inr not) = inr (λ nested. not (λ b there a less. nested.seen a b less there))

  -- choices
  module _ (spec imp : Netlist) (suit : (chosen : List PinBits) → Decision (ChoicesSuit spec imp chosen)) where
    abbrev After : List Pins → List PinBits → List Bool → List Bool → Type 0
    After boxes chosen ins outs = InputsHaveOutputs (ChoicesSuit spec imp) boxes (chosen ++ record { ins = ins; outs = outs } ∷ [])

    -- no outputs for some inputs, or some
    replied : (m : ℕ) (P : List Bool → Type 0) → ((outs : List Bool) → Decision (P outs)) → ((outs : List Bool) → length outs ≡ m → P outs → ⊥) ⊎ ((outs : List Bool) × (length outs ≡ m) × P outs)
    replied m P decide = elim (least_or_none below P (λ outs. P outs → ⊥) (λ outs yes not. not yes) m (λ outs len. decide outs)) [
      | inl found ↦ inr (found.0, found.1.long, found.1.holds)
      | inr none ↦ inl none
    ]

    pub decide_wins : (boxes : List Pins) (chosen : List PinBits) → Decision (InputsHaveOutputs (ChoicesSuit spec imp) boxes chosen)
    decide_wins [] chosen = suit chosen
    decide_wins (box ∷ boxes) chosen =
        let m = length box.outs in
        let here = After boxes chosen in
        let each : (ins : List Bool) → length ins ≡ length box.ins → ((outs : List Bool) → length outs ≡ m → here ins outs → ⊥) ⊎ ((outs : List Bool) × (length outs ≡ m) × here ins outs) = λ ins len. replied m (here ins) (λ outs. decide_wins boxes (chosen ++ record { ins = ins; outs = outs } ∷ [])) in
        let all = least_or_none below (λ ins. (outs : List Bool) → length outs ≡ m → here ins outs → ⊥) (λ ins. (outs : List Bool) × (length outs ≡ m) × here ins outs) (λ ins lost won. lost won.0 won.1 won.2) (length box.ins) each in
        elim all [
          | inl found ↦ inr (λ wins. let reply = wins found.0 found.1.long in found.1.holds reply.0 reply.1 reply.2)
          | inr won ↦ inl won
        ]
