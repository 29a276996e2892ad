-- Flat netlists that implement one design call everything alike: the order of boxes is one, since each is the first of those that are
-- ready, and a clock comes from one input, since no bit is a copy of two.
use Rattle.std.proofs.Common.{◌≡◌, ◌≢◌, ◌⊎◌, ℕ, zero, suc, ◌+◌, ◌<◌, ◌≤◌, List, [], ◌∷◌, ◌++◌, map, flat_map, length, take, get_or, AllPairs, Contains, Option, Some, None, refl, sym, ap, ◌∙◌, subst, inl, inr, arith, length-append}
use Rattle.std.specs.Prelude.{slice_get}
use Rattle.std.specs.List.{AllZip}
use Rattle.std.proofs.lemmas.List.{get_or_default, get_or-map, get_or-take, length-map, length-take, take_all, take_more, get_or_append_left}
use Rattle.bb_expr.specs.Terms.{Term, Const, Net, Not, And, Or, Xor, Mux}
use Rattle.bb_net.specs.Orders.{IsReadyBox}
use Rattle.bb_net.specs.declared.flat.Reg.{Reg}
use Rattle.bb_bits.specs.Closures.{Leads, One, More}
use Rattle.bb_design.specs.Constructs.{parts}
use Rattle.bb_design.specs.Drivers.{DrivingSource, Free, MadeOf, Box, Drive, driven, drives_at, drives, driven_bits}
use Rattle.bb_net.specs.Flats.{FlatNet}
use Rattle.bb_design.specs.Hierarchy.{Path, Design}
use Rattle.bb_design.specs.Inside.Allowed.{IsAllowed}
use Rattle.bb_implements.specs.Laws.NamingLaws.{FollowedInputsAreOne, ImplementingNetsAreNamed, ImplementingNetsAreNamedTheSame}
use Rattle.bb_design.specs.NetBits.{Bit, top_inputs}
use Rattle.bb_design.specs.Reading.{bit_itself, copied, copied_bits}
use Rattle.bb_design.specs.Refusals.{TwoDrivers, AreDrivenOnce}
use Rattle.bb_design.specs.Registers.{RegisterBit, registers}
use Rattle.bb_implements.specs.Implements.{IsCopyOf, IsClockInput, IsRegister, box_texts, box_number, Implements}
use Rattle.bb_implements.proofs.BoxNeeds.{box_needs}
use Rattle.bb_lemmas.proofs.Places.{got}
use Rattle.bb_lemmas.proofs.Members.{from_flat, from_map, contains_cases, none_in_nil}
use Rattle.bb_implements.proofs.ContentTables.{one_place, list_count}
use Rattle.bb_implements.proofs.FlatInvariants.{are_named}
use Rattle.bb_implements.proofs.GivenDrives.{top_driven}
use Rattle.bb_lemmas.proofs.Apart.{one_by}
use Rattle.bb_design.specs.Laws.DesignLaws.{DesignLaws}

-- clocks

-- a bit is a copy of one at most
itself_one : (path : Path) (t : Term) (b c : Bit) → Contains (bit_itself path t) b → Contains (bit_itself path t) c → b ≡ c
itself_one path (Const v) b c p q = absurd (none_in_nil b p)
itself_one path (Net n i) b c p q = by (contains_cases _ [] b p) (contains_cases _ [] c q)
  where
    by : (record { path = path; net = n; place = i } ≡ b) ⊎ Contains [] b → (record { path = path; net = n; place = i } ≡ c) ⊎ Contains [] c → b ≡ c
    by (inl e) (inl f) = sym e ∙ f
    by (inl e) (inr none) = absurd (none_in_nil c none)
    by (inr none) f = absurd (none_in_nil b none)
itself_one path (Not t) b c p q = absurd (none_in_nil b p)
itself_one path (And t u) b c p q = absurd (none_in_nil b p)
itself_one path (Or t u) b c p q = absurd (none_in_nil b p)
itself_one path (Xor t u) b c p q = absurd (none_in_nil b p)
itself_one path (Mux i t u) b c p q = absurd (none_in_nil b p)

copied_one : (s : DrivingSource) (b c : Bit) → Contains (copied s) b → Contains (copied s) c → b ≡ c
copied_one Free b c p q = absurd (none_in_nil b p)
copied_one (MadeOf path t) b c p q = itself_one path t b c p q
copied_one (Box s pin) b c p q = absurd (none_in_nil b p)

module _ (of_designs : DesignLaws) (d : Design) (once : AreDrivenOnce d) where
  -- a copy has a drive
  copy_drive : (b c : Bit) → Contains (copied_bits d) (b, c) → (x : Drive) × Contains (drives d) x × (x.bit ≡ b) × Contains (copied x.source) c
  copy_drive b c has =
      let x = from_flat (λ (x : Drive). map (λ c. (x.bit, c)) (copied x.source)) (drives d) (b, c) has in
      let e = from_map {B = Bit × Bit} (λ c. (x.0.bit, c)) (copied x.0.source) (b, c) x.2 in
      (x.0, x.1, ap (λ (z : Bit × Bit). z.0) e.2, subst (Contains (copied x.0.source)) (ap (λ (z : Bit × Bit). z.1) e.2) e.1)

  copy_one : (b c e : Bit) → Contains (copied_bits d) (b, c) → Contains (copied_bits d) (b, e) → c ≡ e
  copy_one b c e p q =
      let x = copy_drive b c p in
      let y = copy_drive b e q in
      let same : x.0 ≡ y.0 = one_by (λ (u : Drive). u.bit) (drives d) once x.0 y.0 x.1 y.1 (x.2 ∙ sym y.2) in
      copied_one y.0.source c e (subst (λ (z : Drive). Contains (copied z.source) c) same x.3) y.3

  -- an input of the top is no copy
  top_ends : (b c : Bit) → Contains (top_inputs d) b → Contains (copied_bits d) (b, c) → ⊥
  top_ends b c top p =
      let x = copy_drive b c p in
      let same : x.0 ≡ driven Free b = one_by (λ (u : Drive). u.bit) (drives d) once x.0 (driven Free b) x.1 (top_driven of_designs d b top) x.2 in
      none_in_nil c (subst (λ (z : Drive). Contains (copied z.source) c) same x.3)

  top_stays : (b c : Bit) → Contains (top_inputs d) b → Leads (copied_bits d) b c → ⊥
  top_stays b c top (One step) = top_ends b c top step
  top_stays b c top (More {y = y} step rest) = top_ends b y top step

  leads_one : (b c e : Bit) → Contains (top_inputs d) c → Contains (top_inputs d) e → Leads (copied_bits d) b c → Leads (copied_bits d) b e → c ≡ e
  leads_one b c e top also (One p) (One q) = copy_one b c e p q
  leads_one b c e top also (One p) (More {y = y} q rest) = absurd (top_stays y e (subst (Contains (top_inputs d)) (copy_one b c y p q) top) rest)
  leads_one b c e top also (More {y = y} p rest) (One q) = absurd (top_stays y c (subst (Contains (top_inputs d)) (copy_one b e y q p) also) rest)
  leads_one b c e top also (More {y = y} p rest) (More {y = z} q more) = leads_one z c e top also (subst (λ u. Leads (copied_bits d) u c) (copy_one b y z p q) rest) more

  follows_one : (b c e : Bit) → Contains (top_inputs d) c → Contains (top_inputs d) e → IsCopyOf d b c → IsCopyOf d b e → c ≡ e
  follows_one b c e top also (inl p) (inl q) = sym p ∙ q
  follows_one b c e top also (inl p) (inr q) = absurd (top_stays b e (subst (Contains (top_inputs d)) (sym p) top) q)
  follows_one b c e top also (inr p) (inl q) = absurd (top_stays b c (subst (Contains (top_inputs d)) (sym q) also) p)
  follows_one b c e top also (inr p) (inr q) = leads_one b c e top also p q

  at_there : (k : ℕ) (c : Bit) → slice_get (top_inputs d) k ≡ Some c → Contains (top_inputs d) c
  at_there k c at = let g = got (top_inputs d) k c c at in (k, g.0, g.1)

  -- the bits of the top's input ports are different: they are first among the driven bits
  tops_apart : AllPairs ◌≢◌ (top_inputs d)
  tops_apart i j e lt fits same = once i j e lt (omega (arith, fits, few, count)) (at i (omega (arith, lt, fits)) ∙ same ∙ sym (at j fits))
    where
      few : length (top_inputs d) ≤ length (drives d)
      few = let long = length-append (map (driven Free) (top_inputs d)) (flat_map drives_at (parts d)) in let same = length-map (top_inputs d) (driven Free) in omega (arith, long, same)

      count : length (driven_bits d) ≡ length (drives d)
      count = length-map (drives d) (λ x. x.bit)

      at : (k : ℕ) → k < length (top_inputs d) → get_or (driven_bits d) k e ≡ get_or (top_inputs d) k e
      at k lt =
          let same = length-map (top_inputs d) (driven Free) in
          get_or-map (λ (x : Drive). x.bit) (drives d) k (driven Free e) e (omega (arith, lt, few))
          ∙ ap (λ (x : Drive). x.bit) (get_or_append_left (map (driven Free) (top_inputs d)) (flat_map drives_at (parts d)) (driven Free e) k (omega (arith, lt, same))
          ∙ get_or-map (driven Free) (top_inputs d) k e (driven Free e) lt)

  clock_one : (b : Bit) (o q : Option ℕ) → IsClockInput d b o → IsClockInput d b q → o ≡ q
  clock_one b None None is also = refl
  clock_one b None (Some k) is (c, at, follows) = absurd (is c (at_there k c at) follows)
  clock_one b (Some k) None (c, at, follows) also = absurd (also c (at_there k c at) follows)
  clock_one b (Some k) (Some j) (c, at, follows) (e, there, more) =
      let same : c ≡ e = follows_one b c e (at_there k c at) (at_there j e there) follows more in
      let g = got (top_inputs d) k c c at in
      let h = got (top_inputs d) j e c there in
      ap Some (one_place (top_inputs d) tops_apart k j c g.0 h.0 (g.1 ∙ same ∙ sym h.1))

  -- a register bit has one register
  register_one : (r : RegisterBit) (a b : Reg) → IsRegister d r a → IsRegister d r b → a ≡ b
  register_one r a b is also =
      let x = is.clock in
      let y = also.clock in
      let bits : x.0 ∷ [] ≡ y.0 ∷ [] = sym x.1 ∙ y.1 in
      let bit : x.0 ≡ y.0 = grind (arith, bits) in
      let clock : a.clock ≡ b.clock = clock_one y.0 a.clock b.clock (subst (λ c. IsClockInput d c a.clock) bit x.2) y.2 in
      let text : a.text ≡ b.text = is.text ∙ sym also.text in
      let falling : a.falling ≡ b.falling = is.falling ∙ sym also.falling in
      λ k. record { text = text k; falling = falling k; clock = clock k }

  registers_one : (rs : List RegisterBit) (us bs : List Reg) → AllZip (IsRegister d) rs us → AllZip (IsRegister d) rs bs → us ≡ bs
  registers_one [] [] [] p q = refl
  registers_one [] [] (b ∷ bs) p q = absurd q
  registers_one [] (a ∷ us) bs p q = absurd p
  registers_one (r ∷ rs) [] bs p q = absurd p
  registers_one (r ∷ rs) (a ∷ us) [] p q = absurd q
  registers_one (r ∷ rs) (a ∷ us) (b ∷ bs) p q =
      let head = register_one r a b p.0 q.0 in
      let tail = registers_one rs us bs p.1 q.1 in
      λ k. head k ∷ tail k

-- boxes

-- lists are one where each element is determined by those before it
same_lists : (xs ys : List ℕ) → length xs ≡ length ys → ((b : ℕ) → b < length xs → take b xs ≡ take b ys → get_or xs b 0 ≡ get_or ys b 0) → xs ≡ ys
same_lists xs ys long each =
    let all = prefixes (length xs) (omega arith) in
    sym (take_all (length xs) xs (omega arith)) ∙ all ∙ take_all (length xs) ys (omega (arith, long))
  where
    prefixes : (n : ℕ) → n ≤ length xs → take n xs ≡ take n ys
    prefixes zero le = refl
    prefixes (suc n) le =
        let before = prefixes n (omega (arith, le)) in
        let next = each n (omega (arith, le)) before in
        let plus : suc n ≡ n + 1 = omega arith in
        ap (λ k. take k xs) plus ∙ take_more xs n 0 (omega (arith, le)) ∙ both n before next ∙ sym (take_more ys n 0 (omega (arith, le, long))) ∙ ap (λ k. take k ys) (sym plus)
      where
        both : (n : ℕ) → take n xs ≡ take n ys → get_or xs n 0 ≡ get_or ys n 0 → take n xs ++ get_or xs n 0 ∷ [] ≡ take n ys ++ get_or ys n 0 ∷ []
        both n before next = λ k. before k ++ next k ∷ []

module _ (of_designs : DesignLaws) (d : Design) (f g : FlatNet) (allowed : IsAllowed d) (s : Implements d f) (t : Implements d g) where
  once : AreDrivenOnce d
  once = allowed.sound TwoDrivers

  -- what is ready in the one list is ready in the other
  ready_across : (e : ℕ) (placed : List ℕ) → IsReadyBox s.cells placed e → IsReadyBox t.cells placed e
  ready_across e placed ready b need = ready b (box_needs of_designs d allowed.bounded once t.lowering s.lowering t.cells s.cells t.lowered t.listed s.lowered s.listed e b need)

-- no element is among those before it
not_before : (xs : List ℕ) (b : ℕ) → AllPairs ◌≢◌ xs → b < length xs → Contains (take b xs) (get_or xs b 0) → ⊥
not_before xs b apart lt (i, fits, is) =
    let short = length-take b xs in
    let low : i < b = omega (arith, fits, short, lt) in
    apart i b 0 low lt (get_or_default xs i 0 (get_or xs b 0) (omega (arith, low, lt)) ∙ sym (get_or-take b xs i (get_or xs b 0) low) ∙ is)

module _ (of_designs : DesignLaws) where
  -- the next box of the one netlist does not follow that of the other
  next_low : (d : Design) (f g : FlatNet) (allowed : IsAllowed d) (s : Implements d f) (t : Implements d g) (b : ℕ) → b < length s.numbers → length s.numbers ≡ length t.numbers → take b s.numbers ≡ take b t.numbers
      → get_or t.numbers b 0 ≤ get_or s.numbers b 0
  next_low d f g allowed s t b lt long same =
      let m = get_or s.numbers b 0 in
      let in_s : b < length s.cells.boxes = omega (arith, lt, s.ordered.number_count) in
      let in_t : b < length t.cells.boxes = omega (arith, lt, long, t.ordered.number_count) in
      let there : m < length s.cells.boxes = (s.ordered.boxes b in_s).0 in
      let across = ready_across of_designs d f g allowed s t m (take b s.numbers) (s.ordered.ready b in_s) in
      t.ordered.first b m in_t (omega (arith, there, list_count d f s, list_count d g t))
      (λ has. not_before s.numbers b s.ordered.numbers_apart lt (subst (λ l. Contains l m) (sym same) has))
      (subst (λ l. IsReadyBox t.cells l m) same across)

  pub box_order : (d : Design) (f g : FlatNet) → IsAllowed d → (s : Implements d f) (t : Implements d g) → s.numbers ≡ t.numbers
  box_order d f g allowed s t = same_lists s.numbers t.numbers long (λ b lt same.
      let low = next_low d f g allowed s t b lt long same in
      let high = next_low d g f allowed t s b (omega (arith, lt, long)) (sym long) (sym same) in
      omega (arith, low, high))
    where
      long : length s.numbers ≡ length t.numbers
      long = s.ordered.number_count ∙ list_count d f s ∙ sym (list_count d g t) ∙ sym t.ordered.number_count

  pub followed_inputs_are_one : FollowedInputsAreOne
  followed_inputs_are_one d once b c e top also first second = follows_one of_designs d once b c e top also first second

  pub implementing_nets_are_named : ImplementingNetsAreNamed
  implementing_nets_are_named d f allowed occurs = are_named of_designs d f allowed.bounded allowed.sound occurs

  pub implementing_nets_are_named_the_same : ImplementingNetsAreNamedTheSame
  implementing_nets_are_named_the_same d f g allowed s t = record {
    inputs = s.ordered.inputs ∙ s.listed.inputs ∙ sym t.listed.inputs ∙ sym t.ordered.inputs;
    ins = s.ins ∙ sym t.ins;
    regs = registers_one of_designs d (allowed.sound TwoDrivers) (registers d) f.regs g.regs s.regs t.regs;
    outs = s.outs ∙ sym t.outs;
    boxes = s.boxes ∙ ap (map (λ b. box_texts d (box_number d b))) (box_order d f g allowed s t) ∙ sym t.boxes;
  }
