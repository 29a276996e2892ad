-- points of the inputs and the output pins: what "for all pins" says of the inputs, and the least such inputs
use Rattle.std.proofs.Common.{◌≡◌, ◌<◌, ◌≤◌, ℕ, zero, suc, ◌+◌, ◌*◌, ◌^◌, Bool, true, false, ◌&&◌, List, [], ◌∷◌, ◌++◌, length, take, drop, replicate, refl, sym, ap, ap₂, ◌∙◌, subst, subst₂, arith, append-nil, length-append, length-take, length-drop, take-append-drop, drop_of_length-le, take_all, pow-add, pow-suc, zero-mul}
use Rattle.std.proofs.lemmas.List.{length-replicate}
use Rattle.bb_lemmas.proofs.Bits.{not_true}
use Rattle.bb_bits.specs.Numbers.{number_of}
use Rattle.bb_bits.specs.Truth.{Truth, IsTruthTable, truth_at, quantified_block}
use Rattle.bb_bits.specs.Laws.TruthLaws.{QuantifierLaws}
use Rattle.bb_net.specs.Netlists.{Netlist}
use Rattle.bb_quant.specs.Inside.LeastPoints.{IsLeastPoint}
use Rattle.bb_sym.specs.Plain.{Function, table}
use Rattle.bb_sym.specs.Finds.{IsLeastVector}
use Rattle.bb_sym.proofs.FunctionTables.{truth_at-table, table_size}

-- bits after others: the first ones count more
pub number_of-append : (x w : List Bool) → number_of (x ++ w) ≡ number_of x * 2 ^ length w + number_of w
number_of-append [] w = omega (arith, zero-mul (2 ^ length w))
number_of-append (false ∷ x) w = number_of-append x w
number_of-append (true ∷ x) w =
    let rest = number_of-append x w in
    let power : 2 ^ length (x ++ w) ≡ 2 ^ length x * 2 ^ length w = ap (λ k. 2 ^ k) (length-append x w) ∙ pow-add 2 (length x) (length w) in
    rw (rest, power) grind (arith)

pub number_of-zeros : (k : ℕ) → number_of (replicate k false) ≡ 0
number_of-zeros zero = refl
number_of-zeros (suc k) = number_of-zeros k

-- with zeros after the other, the first bits of a smaller number are no greater
pub first_is_least : (x w y : List Bool) (k : ℕ) → length w ≡ k → number_of (x ++ w) ≤ number_of (y ++ replicate k false) → number_of x ≤ number_of y
first_is_least x w y k e l =
    let first = number_of-append x w in
    let second = number_of-append y (replicate k false) in
    let zeros = number_of-zeros k in
    let wide : 2 ^ length w ≡ 2 ^ k = ap (λ n. 2 ^ n) e in
    let long : 2 ^ length (replicate k false) ≡ 2 ^ k = ap (λ n. 2 ^ n) (length-replicate k false) in
    by_powers (number_of x) (number_of y) (2 ^ k) (number_of w) (two_pow k)
    (let a : number_of (x ++ w) ≡ number_of x * 2 ^ k + number_of w = first ∙ ap (λ n. number_of x * n + number_of w) wide in
    let b : number_of (y ++ replicate k false) ≡ number_of y * 2 ^ k = second ∙ (ap₂ (λ n m. number_of y * n + m) long zeros ∙ omega arith) in
    omega (arith, a, b, l))
  where
    two_pow : (k : ℕ) → 0 < 2 ^ k
    two_pow zero = omega arith
    two_pow (suc k) = let rest = two_pow k in let e : 2 ^ suc k ≡ 2 ^ k * 2 = pow-suc 2 k in omega (arith, rest, e)

    by_powers : (a b p w : ℕ) → 0 < p → a * p + w ≤ b * p → a ≤ b
    by_powers a b p w pos l = grind (arith)

module _ (laws : QuantifierLaws) (inputs pins : ℕ) (f : Function) where
  -- the function for all values of the variables after the inputs
  abbrev pub block : Truth
  block = quantified_block ◌&&◌ inputs pins (table (inputs + pins) f)

  sized : IsTruthTable (inputs + (pins + 0)) (table (inputs + pins) f)
  sized = subst (λ n. IsTruthTable n (table (inputs + pins) f)) (omega arith) (table_size (inputs + pins) f)

  at : (x z : List Bool) → length x ≡ inputs → length z ≡ pins → truth_at (table (inputs + pins) f) (x ++ (z ++ [])) ≡ f (x ++ (z ++ []))
  at x z e h = truth_at-table (inputs + pins) f (x ++ (z ++ [])) (omega (arith, length-append x (z ++ []), length-append z [], e, h))

  pub all_of_true : (x y : List Bool) → length x ≡ inputs → length y ≡ pins → truth_at block (x ++ (y ++ [])) ≡ true → (z : List Bool) → length z ≡ pins → f (x ++ (z ++ [])) ≡ true
  all_of_true x y e h is z l = sym (at x z e l) ∙ (laws.all_true inputs pins (table (inputs + pins) f) x y [] e h sized).0 is z l

  pub true_of_all : (x y : List Bool) → length x ≡ inputs → length y ≡ pins → ((z : List Bool) → length z ≡ pins → f (x ++ (z ++ [])) ≡ true) → truth_at block (x ++ (y ++ [])) ≡ true
  true_of_all x y e h all = (laws.all_true inputs pins (table (inputs + pins) f) x y [] e h sized).1 (λ z l. at x z e l ∙ all z l)

  -- where it is nowhere 1, each inputs have pins for which the function is 0
  pub one_of_none : ((point : List Bool) → length point ≡ inputs + pins → truth_at block point ≡ true → ⊥) → (x : List Bool) → length x ≡ inputs → (z : List Bool) × (length z ≡ pins) × (f (x ++ (z ++ [])) ≡ false)
  one_of_none none x e =
      let y = replicate pins false in
      let h : length y ≡ pins = length-replicate pins false in
      let zero : truth_at block (x ++ (y ++ [])) ≡ false = not_true (truth_at block (x ++ (y ++ []))) (none (x ++ (y ++ [])) (omega (arith, length-append x (y ++ []), length-append y [], e, h))) in
      let found = (laws.all_false inputs pins (table (inputs + pins) f) x y [] e h sized).0 zero in
      (found.0, found.1, sym (at x found.0 e found.1) ∙ found.2)

  -- the first bits of the least point at which it is 1 are the least inputs of which P holds, where P is "for all pins"
  pub least_inputs : (imp : Netlist) → imp.inputs ≡ inputs → (P : List Bool → Type 0) →
      ((x : List Bool) → length x ≡ inputs → ((z : List Bool) → length z ≡ pins → f (x ++ (z ++ [])) ≡ true) → P x) →
      ((x : List Bool) → length x ≡ inputs → P x → (z : List Bool) → length z ≡ pins → f (x ++ (z ++ [])) ≡ true) →
      (old p : List Bool) → length old ≡ inputs + pins → IsLeastPoint block true 0 old p → IsLeastVector imp P (take inputs p)
  least_inputs imp same P there back old p long least =
      let whole : length p ≡ inputs + pins = least.begins.0 ∙ long in
      let x = take inputs p in
      let w = drop inputs p in
      let prefix : length x ≡ inputs = omega (arith, length-take inputs p, whole) in
      let after : length w ≡ pins = omega (arith, length-drop inputs p, whole) in
      let parts : p ≡ x ++ (w ++ []) = sym (take-append-drop inputs p) ∙ ap (λ (v : List Bool). x ++ v) (sym (append-nil w)) in
      record {
        vector = prefix ∙ sym same;
        holds = there x prefix (all_of_true x w prefix after (subst (λ q. truth_at block q ≡ true) parts least.bit));
        least = λ y vector holds.
            let e : length y ≡ inputs = vector ∙ same in
            let zeros = replicate pins false in
            let h : length zeros ≡ pins = length-replicate pins false in
            let q = y ++ (zeros ++ []) in
            let l : length q ≡ length old = omega (arith, length-append y (zeros ++ []), length-append zeros [], e, h, long) in
            let le : number_of p ≤ number_of q = least.least q (l, refl) (true_of_all y zeros e h (back y e holds)) in
            first_is_least x w y pins after (subst₂ (λ a b. number_of a ≤ number_of b) (sym (take-append-drop inputs p)) (ap (λ (v : List Bool). y ++ v) (append-nil zeros)) le);
      }

-- what is left of a vector that was overwritten and cut
pub cut_written : (p q : List Bool) (n len : ℕ) → length p ≡ length q → len ≡ length q → take n (take len (p ++ drop (length p) q)) ≡ take n p
cut_written p q n len e h =
    ap (take n) (ap (take len) (ap (λ (r : List Bool). p ++ r) (drop_of_length-le q (omega (arith, e))) ∙ append-nil p) ∙ take_all len p (omega (arith, e, h)))
