-- A closed walk in the list of cells passes the place of a bit, and the least place on one is the place of the first bit on a loop.
use Rattle.std.proofs.Common.{◌≡◌, ◌⊎◌, ℕ, zero, suc, ◌+◌, ◌-◌, ◌<◌, false, List, [], ◌∷◌, length, Contains, refl, sym, ap, get_or, ◌∙◌, subst, inl, inr, arith}
use Rattle.std.specs.List.{enumerate_from}
use Rattle.std.specs.Prelude.{IfSome}
use Rattle.std.proofs.lemmas.List.Elements.{All-contains, Contains-get_or}
use Rattle.bb_ast.specs.declared.module.Gate.{Gate}
use Rattle.bb_ast.specs.declared.module.Gate.TheVariants as gates
use Rattle.bb_ast.specs.Syntax.{Expression}
use Rattle.bb_names.specs.Nets.{nets_of}
use Rattle.bb_expr.specs.declared.step.BitStep.{BitStep}
use Rattle.bb_expr.specs.declared.step.BitStep.TheVariants as steps
use Rattle.bb_expr.specs.Lowered.{ReadsEarlier}
use Rattle.bb_net.specs.declared.loose.LooseCell.{LooseCell}
use Rattle.bb_net.specs.declared.loose.LooseCell.TheVariants as cell
use Rattle.bb_net.specs.Loose.{LooseList, operand_places, Reaches, IsOnClosedWalk}
use Rattle.bb_net.specs.Netlists.{Pins}
use Rattle.bb_design.specs.Hierarchy.{Design, Scope, boxes, scopes, is_box}
use Rattle.bb_design.specs.NetBits.{Bit, net_order, input_bits, scope_bits}
use Rattle.bb_design.specs.Constructs.{Construct, GateInstance, parts}
use Rattle.bb_implements.specs.Places.{CellName, Constant, Input, NetBit, Step, Joined, Inverted, BoxPin, lowered_in, Lowering, IsLowering, terminal_place, joined_place, step_cell, join_cell, IsListOf}
use Rattle.bb_lemmas.proofs.Members.{from_map, contains_cases, none_in_nil, kept_from, into_flat}
use Rattle.bb_implements.proofs.ListedEntries.{Entry, Part, Cases, each_entry}
use Rattle.bb_lemmas.proofs.Numbered.{enumerated_from, from_numbered}
use Rattle.bb_implements.proofs.ListedPlaces.{IsListed, lowered_at, reads_there, listed_cell, listed_at, listed_below, box_is, constant_listed, net_listed, joined_listed}
use Rattle.bb_implements.proofs.ListedSources.{step_source, terminal_there}
use Rattle.bb_design.specs.Laws.Wired.{IsWired}
use Rattle.bb_implements.proofs.ListNumbers.{one_place_listed}
use Rattle.bb_design.specs.Laws.DesignLaws.{DesignLaws}

-- places that are no bit's, by their kinds: an operator of a gate is higher than the steps of its inputs, and a pin of a box, which
-- only bits read, is the highest
abbrev class : CellName → ℕ
class (NetBit b) = 0
class (Constant b) = 0
class (Input i) = 0
class (Step k x j) = 1
class (Joined k x) = 2
class (Inverted k) = 3
class (BoxPin b p) = 4

-- and among places of one kind
abbrev index : CellName → ℕ
index (NetBit b) = 0
index (Constant b) = 0
index (Input i) = 0
index (Step k x j) = j
index (Joined k x) = x
index (Inverted k) = 0
index (BoxPin b p) = 0

abbrev pub Lower : CellName → CellName → Type 0
Lower q p = (class q < class p) ⊎ ((class q ≡ class p) × (index q < index p))

lower_on : (r q p : CellName) → Lower r q → Lower q p → Lower r p
lower_on r q p (inl a) (inl b) = inl (omega (arith, a, b))
lower_on r q p (inl a) (inr b) = inl (omega (arith, a, b.0))
lower_on r q p (inr a) (inl b) = inl (omega (arith, a.0, b))
lower_on r q p (inr a) (inr b) = inr (a.0 ∙ b.0, omega (arith, a.1, b.1))

-- nothing that is no bit's leads to a pin of a box
pub pin_not_lower : (b p : ℕ) (q : CellName) → Lower (BoxPin b p) q → ⊥
pin_not_lower b p (NetBit c) (inl h) = omega (arith, h)
pin_not_lower b p (NetBit c) (inr h) = omega (arith, h.0)
pin_not_lower b p (Constant c) (inl h) = omega (arith, h)
pin_not_lower b p (Constant c) (inr h) = omega (arith, h.0)
pin_not_lower b p (Input i) (inl h) = omega (arith, h)
pin_not_lower b p (Input i) (inr h) = omega (arith, h.0)
pin_not_lower b p (Step k x j) (inl h) = omega (arith, h)
pin_not_lower b p (Step k x j) (inr h) = omega (arith, h.0)
pin_not_lower b p (Joined k x) (inl h) = omega (arith, h)
pin_not_lower b p (Joined k x) (inr h) = omega (arith, h.0)
pin_not_lower b p (Inverted k) (inl h) = omega (arith, h)
pin_not_lower b p (Inverted k) (inr h) = omega (arith, h.0)
pin_not_lower b p (BoxPin c q) (inl h) = omega (arith, h)
pin_not_lower b p (BoxPin c q) (inr h) = omega (arith, h.1)

not_lower : (p : CellName) → Lower p p → ⊥
not_lower p (inl a) = omega (arith, a)
not_lower p (inr a) = omega (arith, a.1)

module _ (of_designs : DesignLaws) (d : Design) (lowering : Lowering) (l : LooseList) (list : IsListOf d lowering l) (lowered : IsLowering d lowering) (wired : IsWired d) where
  abbrev IsNet : CellName → Type 0
  IsNet p = (b : Bit) × Contains (net_order d) b × (p ≡ NetBit b)

  abbrev Listed : CellName → Type 0
  Listed p = (u : LooseCell) × IsListed d lowering l list p u

  -- a place by number: that of a bit, or one that is lower
  abbrev Down : CellName → ℕ → Type 0
  Down p k = (q : CellName) × Listed q × (list.number q ≡ k) × (IsNet q ⊎ Lower q p)

  abbrev Falls : Entry → Type 0
  Falls x = IsNet x.0 ⊎ ((k : ℕ) → Contains (operand_places l.boxes x.1) k → Down x.0 k)

  abbrev Each : CellName → List ℕ → Type 0
  Each p ks = (k : ℕ) → Contains ks k → Down p k

  none : (p : CellName) → Each p []
  none p k has = absurd (none_in_nil k has)

  and : (p : CellName) (a : ℕ) (ks : List ℕ) → Down p a → Each p ks → Each p (a ∷ ks)
  and p a ks here rest k has = by (contains_cases a ks k has)
    where
      by : (a ≡ k) ⊎ Contains ks k → Down p k
      by (inl e) = subst (Down p) e here
      by (inr h) = rest k h

  to_lower : (p q : CellName) → Listed q → Lower q p → Down p (list.number q)
  to_lower p q listed low = (q, listed, refl, inr low)

  to_net : (p : CellName) (b : Bit) → Contains (net_order d) b → Down p (list.number (NetBit b))
  to_net p b has = (NetBit b, (_, net_listed d lowering l list b has), refl, inl (b, has, refl))

  -- a step, or what is where it does
  step_down : (p : CellName) (k : ℕ) (s : Scope) (c : Construct) → Part d lowering l list k s c → (x : ℕ) → x < length (lowered_in (s, c)) → (j : ℕ) → j < length (lowering k x).all → Lower (Step k x j) p → Down p (list.number (Step k x j))
  step_down p k s c has x fits j there low = step_source d lowering l list lowered k s c has x fits j there
      (λ b same. subst (Down p) (sym same) (to_lower p (Constant b) (_, constant_listed d lowering l list b) (lower_on (Constant b) (Step k x j) p (inl (omega arith)) low)))
      (λ b known same. subst (Down p) (sym same) (to_net p b known))
      (λ u listed. to_lower p (Step k x j) (u, listed) low)

  module _ (k : ℕ) (s : Scope) (c : Construct) (has : Part d lowering l list k s c) (x : ℕ) (fits : x < length (lowered_in (s, c))) (j : ℕ) (there : j < length (lowering k x).all) where
    -- an earlier step of the expression
    earlier : (a : ℕ) → a < j → Down (Step k x j) (list.number (Step k x a))
    earlier a lt = step_down (Step k x j) k s c has x fits a (omega (arith, lt, there)) (inr (refl, lt))

    step_falls : (step : BitStep) → ReadsEarlier (nets_of s.source) j step → IfSome (step_cell (λ a. list.number (Step k x a)) step) (λ u. Falls (Step k x j, u))
    step_falls (steps.Const b) reads = tt
    step_falls (steps.Net n i) reads = tt
    step_falls (steps.Not a) reads = inr (and (Step k x j) _ [] (earlier a reads) (none (Step k x j)))
    step_falls (steps.And a b) reads = inr (and (Step k x j) _ (list.number (Step k x b) ∷ []) (earlier a reads.0) (and (Step k x j) _ [] (earlier b reads.1) (none (Step k x j))))
    step_falls (steps.Or a b) reads = inr (and (Step k x j) _ (list.number (Step k x b) ∷ []) (earlier a reads.0) (and (Step k x j) _ [] (earlier b reads.1) (none (Step k x j))))
    step_falls (steps.Xor a b) reads = inr (and (Step k x j) _ (list.number (Step k x b) ∷ []) (earlier a reads.0) (and (Step k x j) _ [] (earlier b reads.1) (none (Step k x j))))
    step_falls (steps.Mux i t e) reads = inr (and (Step k x j) _ (list.number (Step k x t) ∷ list.number (Step k x e) ∷ []) (earlier i reads.0)
        (and (Step k x j) _ (list.number (Step k x e) ∷ []) (earlier t reads.1) (and (Step k x j) _ [] (earlier e reads.2) (none (Step k x j)))))

  module _ (k : ℕ) (s : Scope) (gate : Gate) (outs ins : List Expression) (has : Part d lowering l list k s (GateInstance gate outs ins)) where
    terminal_down : (p : CellName) → 1 < class p → (x : ℕ) → x < length ins → Down p (list.number (terminal_place lowering k x))
    terminal_down p high x fits =
        let e = terminal_there s ins x fits (wired.gates s gate outs ins (from_numbered 0 (parts d) (k, (s, GateInstance gate outs ins)) has)).1 in
        let low = lowered_at d lowering lowered k s (GateInstance gate outs ins) has x e.0 1 e.1 in
        let n = enumerated_from 0 (lowered_in (s, GateInstance gate outs ins)) x (e.0, 1) e.1 in
        let j = get_or (lowering k x).bits 0 0 in
        step_down p k s (GateInstance gate outs ins) has x (omega (arith, n.1, n.2)) j (All-contains (λ j. j < length (lowering k x).all) (lowering k x).bits j low.places (Contains-get_or (lowering k x).bits 0 0 (omega (arith, low.width)))) (inl high)

    -- the inputs up to one of them, joined
    prefix_down : (x : ℕ) → x < length ins → Down (Joined k (suc x)) (list.number (joined_place lowering k x))
    prefix_down zero fits = terminal_down (Joined k 1) (omega arith) 0 fits
    prefix_down (suc x) fits = to_lower (Joined k (suc (suc x))) (Joined k (suc x)) (_, joined_listed d lowering l list k s gate outs ins has x (omega (arith, fits))) (inr (refl, omega arith))

    inverse_down : (x : ℕ) → x < length ins → Down (Inverted k) (list.number (joined_place lowering k x))
    inverse_down zero fits = terminal_down (Inverted k) (omega arith) 0 fits
    inverse_down (suc x) fits = to_lower (Inverted k) (Joined k (suc x)) (_, joined_listed d lowering l list k s gate outs ins has x (omega (arith, fits))) (inl (omega arith))

  join_falls : (p : CellName) (a b : ℕ) → Down p a → Down p b → (g : Gate) → Each p (operand_places l.boxes (join_cell g a b))
  join_falls p a b u v gates.And = and p a (b ∷ []) u (and p b [] v (none p))
  join_falls p a b u v gates.Nand = and p a (b ∷ []) u (and p b [] v (none p))
  join_falls p a b u v gates.Or = and p a (b ∷ []) u (and p b [] v (none p))
  join_falls p a b u v gates.Nor = and p a (b ∷ []) u (and p b [] v (none p))
  join_falls p a b u v gates.Xor = and p a (b ∷ []) u (and p b [] v (none p))
  join_falls p a b u v gates.Xnor = and p a (b ∷ []) u (and p b [] v (none p))
  join_falls p a b u v gates.Buf = and p a [] u (none p)
  join_falls p a b u v gates.Not = and p a [] u (none p)

  pins_fall : (b : ℕ) (s : Scope) → Contains (enumerate_from 0 (boxes d)) (b, s) → (p : ℕ) → Each (BoxPin b p) (operand_places l.boxes (cell.BoxOut b p))
  pins_fall b s has p k at =
      let u = from_map (λ x. list.number (NetBit x)) (input_bits s) k (subst (λ (q : Pins). Contains q.ins k) (box_is d lowering l list b s has) at) in
      let scope = (kept_from is_box (scopes d) s (from_numbered 0 (boxes d) (b, s) has)).0 in
      subst (Down (BoxPin b p)) u.2 (to_net (BoxPin b p) u.0 (into_flat scope_bits (scopes d) s u.0 scope (of_designs.of_scope s _ u.0 u.1)))

  fall_cases : Cases d lowering l list Falls
  fall_cases = record {
    constants = λ b. inr (none (Constant b));
    inputs = λ i fits. inr (none (Input i));
    nets = λ b has. inl (b, has, refl);
    steps = λ k s c has x fits j there. step_falls k s c has x fits j there (get_or (lowering k x).all j (steps.Const false)) (reads_there d lowering lowered k s c has x fits j there);
    joins = λ k s gate outs ins has x fits. inr (join_falls (Joined k (suc x)) _ _ (prefix_down k s gate outs ins has x (omega (arith, fits))) (terminal_down k s gate outs ins has (Joined k (suc x)) (omega arith) (suc x) (omega (arith, fits))) gate);
    inverters = λ k s gate outs ins has on. let one = (wired.gates s gate outs ins (from_numbered 0 (parts d) (k, (s, GateInstance gate outs ins)) has)).0 in
        inr (and (Inverted k) _ [] (inverse_down k s gate outs ins has (length ins - 1) (omega (arith, one))) (none (Inverted k)));
    pins = λ b s has p y at. inr (pins_fall b s has p);
  }

  -- a walk of so many steps passes the place of a bit
  abbrev pub Passes : ℕ → ℕ → ℕ → Type 0
  Passes n from to = (b : Bit) × (i : ℕ) × (j : ℕ) × (i + j ≡ n) × Contains (net_order d) b × Reaches i l from (list.number (NetBit b)) × Reaches j l (list.number (NetBit b)) to

  -- one that does not has no step or ends at a lower place
  pub walk_falls : (n : ℕ) (p : CellName) (u : LooseCell) → IsListed d lowering l list p u → (q : CellName) (v : LooseCell) → IsListed d lowering l list q v → Reaches n l (list.number p) (list.number q)
      → Passes n (list.number p) (list.number q) ⊎ (((n ≡ 0) × (p ≡ q)) ⊎ Lower q p)
  walk_falls zero p u at q v end walk = inr (inl (refl, one_place_listed d lowering l list p q u v at end walk))
  walk_falls (suc n) p u at q v end walk = by (each_entry d lowering l list Falls fall_cases (p, u) at) (λ r w listed rest. walk_falls n r w listed q v end rest)
    where
      goal : Type 0
      goal = Passes (suc n) (list.number p) (list.number q) ⊎ (((suc n ≡ 0) × (p ≡ q)) ⊎ Lower q p)

      Rest : Type 0
      Rest = (r : CellName) (w : LooseCell) → IsListed d lowering l list r w → Reaches n l (list.number r) (list.number q) → Passes n (list.number r) (list.number q) ⊎ (((n ≡ 0) × (r ≡ q)) ⊎ Lower q r)

      more : (r : CellName) → Lower r p → list.number r ≡ walk.0 → Passes n (list.number r) (list.number q) ⊎ (((n ≡ 0) × (r ≡ q)) ⊎ Lower q r) → goal
      more r low same (inl (b, i, j, sum, has, there, on)) = inl (b, suc i, j, omega (arith, sum), has, (walk.0, walk.1, subst (λ k. Reaches i l k (list.number (NetBit b))) same there), on)
      more r low same (inr (inl h)) = inr (inr (subst (λ z. Lower z p) h.1 low))
      more r low same (inr (inr h)) = inr (inr (lower_on q r p h low))

      next : Rest → Down p walk.0 → goal
      next rest (r, listed, same, inl (b, has, is)) = inl (b, 1, n, omega arith, has, (walk.0, walk.1, sym same ∙ ap list.number is), subst (λ k. Reaches n l k (list.number q)) (sym same ∙ ap list.number is) walk.2)
      next rest (r, listed, same, inr low) = more r low same (rest r listed.0 listed.1 (subst (λ k. Reaches n l k (list.number q)) (sym same) walk.2))

      by : Falls (p, u) → Rest → goal
      by (inl (b, has, is)) rest = inl (b, 0, suc n, omega arith, has, ap list.number is, subst (λ k. Reaches (suc n) l k (list.number q)) (ap list.number is) walk)
      by (inr falls) rest = next rest (falls walk.0 (subst (λ x. Contains (operand_places l.boxes x) walk.0) (listed_cell d lowering l list p u at) walk.1))

  pub walk_joined : (i j n a b c : ℕ) → i + j ≡ n → Reaches i l a b → Reaches j l b c → Reaches n l a c
  walk_joined zero j n a b c sum same walk = let is : j ≡ n = omega (arith, sum) in subst (λ m. Reaches m l a c) is (subst (λ k. Reaches j l k c) (sym same) walk)
  walk_joined (suc i) j zero a b c sum walk rest = absurd (omega (arith, sum))
  walk_joined (suc i) j (suc n) a b c sum (k, has, on) rest = (k, has, walk_joined i j n k b c (omega (arith, sum)) on rest)

  -- a closed walk passes the place of a bit
  pub closed_walk_passes : (k : ℕ) → IsOnClosedWalk l k → (b : Bit) × Contains (net_order d) b × IsOnClosedWalk l (list.number (NetBit b))
  closed_walk_passes k (fits, n, walk) =
      let p = listed_at d lowering l list k fits in
      by p.0 (walk_falls (suc n) p.0 p.1 p.2 p.0 p.1 p.2 (subst (λ z. Reaches (suc n) l z z) (sym p.3) walk))
    where
      by : (p : CellName) → Passes (suc n) (list.number p) (list.number p) ⊎ (((suc n ≡ 0) × (p ≡ p)) ⊎ Lower p p) → (b : Bit) × Contains (net_order d) b × IsOnClosedWalk l (list.number (NetBit b))
      by p (inl (b, i, j, sum, has, there, back)) =
          (b, has, (listed_below d lowering l list (NetBit b) _ (net_listed d lowering l list b has), n, walk_joined j i (suc n) (list.number (NetBit b)) (list.number p) (list.number (NetBit b)) (omega (arith, sum)) back there))
      by p (inr (inl h)) = absurd (omega (arith, h.0))
      by p (inr (inr h)) = absurd (not_lower p h)
