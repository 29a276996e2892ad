-- Of each cause it can be reported whether it holds; so a text is sound or has a first refusal, where the bits of its design are there.
use Rattle.std.proofs.Common.{◌≡◌, ◌⊎◌, ℕ, zero, suc, ◌<◌, ◌≤◌, List, [], map, length, get_or, Contains, Option, Some, None, refl, sym, ap, ◌∙◌, subst, inl, inr, arith}
use Rattle.std.proofs.lemmas.List.{get_or_default}
use Rattle.std.proofs.lemmas.List.Elements.{All-contains}
use Rattle.bb_ast.specs.Syntax.{PlainModule}
use Rattle.bb_design.specs.declared.fault.ElabFault.{ElabFault}
use Rattle.bb_design.specs.declared.fault.ElabFault.TheVariants as faults
use Rattle.bb_bits.specs.Closures.{Leads, One, More, IsFirst, IsFirstRepeat}
use Rattle.bb_design.specs.Hierarchy.{Design, Scope, instances, instances_of, instantiations, top_of, too_low}
use Rattle.bb_design.specs.NetBits.{Bit, net_order}
use Rattle.bb_design.specs.Drivers.{drives, driven_bits}
use Rattle.bb_design.specs.Reading.{read_directly, copied_bits, IsReadBit}
use Rattle.bb_design.specs.Dependence.{needed, dependences, IsOnLoop}
use Rattle.bb_design.specs.Sizes.{cells_in, bits_and_instances}
use Rattle.bb_design.specs.Texts.{path_text, bit_text}
use Rattle.bb_design.specs.Refusals.{IsReached, IsRecursive, IsTooLow, IsShallow, IsDrivenTwice, IsUndriven, most_bits, most_cells, AreDistinctTexts, box_paths, register_texts, input_texts, output_texts, DesignCause, Recursion, Depth, Size, TwoDrivers, NoDriver, Cycle, BoxTexts, RegisterTexts, PortTexts, cause_rank, elab_fault_of, IsFirstBit, IsReportedOfDesign, IsAbsentInDesign, IsRefusalOf, design_on, IsSoundText, IsFirstDesignRefusal}
use Rattle.bb_design.specs.Laws.{BitsAreThere}
use Rattle.bb_lemmas.proofs.Deciding.{Decision, Decides, decide_number, decide_list, decide_both, decide_either, decide_same, decide_contains, decide_leads, decide_twice, first_or_none, repeat_or_apart}
use Rattle.bb_lemmas.proofs.Orders.{less_or_same, less_or_not}
use Rattle.bb_lemmas.proofs.Firsts.{first_there}
use Rattle.bb_design.proofs.Levels.{level, level_falls}
use Rattle.bb_lemmas.proofs.Members.{contains-map, all_from, from_flat, from_map}
use Rattle.bb_design.proofs.RefusalLaws.{reached_next, cause_at, at_rank}

-- names and bits

decide_name : Decides (List ℕ)
decide_name = decide_list decide_number

pub decide_bit : Decides Bit
decide_bit b c = decide_same (equal, parts) (decide_both (decide_list decide_name b.path c.path) (decide_both (decide_name b.net c.net) (decide_number b.place c.place)))
  where
    equal : (b.path ≡ c.path) × ((b.net ≡ c.net) × (b.place ≡ c.place)) → b ≡ c
    equal h = λ k. record { path = h.0 k; net = h.1.0 k; place = h.1.1 k }

    parts : b ≡ c → (b.path ≡ c.path) × ((b.net ≡ c.net) × (b.place ≡ c.place))
    parts e = (ap (λ (x : Bit). x.path) e, (ap (λ (x : Bit). x.net) e, ap (λ (x : Bit). x.place) e))

-- the beginning of a walk begins a step
begins : {A : Type 0} (steps : List (A × A)) {x y : A} → Leads steps x y → (z : A) × Contains steps (x, z)
begins steps (One has) = (_, has)
begins steps (More has rest) = (_, has)

-- what instantiates is a module of the text
instantiates_named : (text : List PlainModule) (x y : List ℕ) → Contains (instantiations text) (x, y) → Contains (map (λ m. m.name) text) x
instantiates_named text x y has =
    let m = from_flat _ text (x, y) has in
    let i = from_map _ (instances_of m.0) (x, y) m.2 in
    subst (Contains (map (λ m. m.name) text)) (ap (λ z. z.0) i.2) (contains-map (λ m. m.name) text m.0 m.1)

decide_recursive : (d : Design) (n : List ℕ) → Decision (IsRecursive d n)
decide_recursive d n = decide_both (decide_either (decide_name d.top.name n) (decide_leads decide_name (instantiations d.text) d.top.name n)) (decide_leads decide_name (instantiations d.text) n n)

-- one of a list of which it holds
decide_some : {A : Type 0} (Q : A → Type 0) → ((x : A) → Decision (Q x)) → (xs : List A) → Decision ((x : A) × Contains xs x × Q x)
decide_some Q decide xs = from (first_or_none Q decide xs)
  where
    from : ((x : _) → Contains xs x → Q x → ⊥) ⊎ ((x : _) × IsFirst Q xs x) → Decision ((x : _) × Contains xs x × Q x)
    from (inl none) = inr (λ h. none h.0 h.1 h.2)
    from (inr r) = inl (r.0, first_there Q xs r.0 r.1, r.1.holds)

decide_read : (d : Design) (b : Bit) → Decision (IsReadBit d b)
decide_read d b = decide_either (decide_contains decide_bit (read_directly d) b) (decide_some (λ c. Leads (copied_bits d) c b) (λ c. decide_leads decide_bit (copied_bits d) c b) (read_directly d))

decide_not : {P : Type 0} → Decision P → Decision (P → ⊥)
decide_not (inl p) = inr (λ n. n p)
decide_not (inr n) = inl n

decide_undriven : (d : Design) (b : Bit) → Decision (IsUndriven d b)
decide_undriven d b = decide_both (decide_read d b) (decide_not (decide_contains decide_bit (driven_bits d) b))

decide_le : (m n : ℕ) → Decision (m ≤ n)
decide_le m n = from (less_or_not n m)
  where
    from : (n < m) ⊎ (m ≤ n) → Decision (m ≤ n)
    from (inl h) = inr (λ le. omega (arith, h, le))
    from (inr h) = inl h

not_le : (m n : ℕ) → (m ≤ n → ⊥) → n < m
not_le m n none = from (less_or_not n m)
  where
    from : (n < m) ⊎ (m ≤ n) → n < m
    from (inl h) = h
    from (inr h) = absurd (none h)

-- cause by cause

pub recursion : (d : Design) → IsAbsentInDesign d Recursion ⊎ ((n : List ℕ) × IsReportedOfDesign d Recursion n)
recursion d = from (first_or_none (IsRecursive d) (decide_recursive d) (map (λ m. m.name) d.text))
  where
    falls : ((n : List ℕ) → Contains (map (λ m. m.name) d.text) n → IsRecursive d n → ⊥) → (x : List ℕ × List ℕ) → Contains (instantiations d.text) x
        → IsReached d x.0 → level decide_name (instantiations d.text) x.1 < level decide_name (instantiations d.text) x.0
    falls none x has reached = level_falls decide_name (instantiations d.text) x.0 x.1 has (λ loop.
        let s = begins (instantiations d.text) loop in
        none x.1 (instantiates_named d.text x.1 s.0 s.1) (reached_next d x.0 x.1 reached has, loop))

    from : ((n : List ℕ) → Contains (map (λ m. m.name) d.text) n → IsRecursive d n → ⊥) ⊎ ((n : List ℕ) × IsFirst (IsRecursive d) (map (λ m. m.name) d.text) n)
        → IsAbsentInDesign d Recursion ⊎ ((n : List ℕ) × IsReportedOfDesign d Recursion n)
    from (inl none) = inl (level decide_name (instantiations d.text), all_from (λ x. IsReached d x.0 → level decide_name (instantiations d.text) x.1 < level decide_name (instantiations d.text) x.0) (instantiations d.text) (falls none))
    from (inr r) = inr r

depth : (d : Design) → IsAbsentInDesign d Depth ⊎ ((n : List ℕ) × IsReportedOfDesign d Depth n)
depth d = from (first_or_none IsTooLow (λ s. decide_le too_low (length s.path)) (instances d))
  where
    from : ((s : Scope) → Contains (instances d) s → IsTooLow s → ⊥) ⊎ ((s : Scope) × IsFirst IsTooLow (instances d) s) → IsAbsentInDesign d Depth ⊎ ((n : List ℕ) × IsReportedOfDesign d Depth n)
    from (inl none) = inl (all_from (λ s. length s.path < too_low) (instances d) (λ s has. not_le too_low (length s.path) (none s has)))
    from (inr r) = inr (path_text r.0.path, (r.0, r.1, refl))

size : (d : Design) → IsAbsentInDesign d Size ⊎ ((n : List ℕ) × IsReportedOfDesign d Size n)
size d = from (less_or_not most_bits (bits_and_instances d)) (less_or_not most_cells (cells_in d))
  where
    from : (most_bits < bits_and_instances d) ⊎ (bits_and_instances d ≤ most_bits) → (most_cells < cells_in d) ⊎ (cells_in d ≤ most_cells) → IsAbsentInDesign d Size ⊎ ((n : List ℕ) × IsReportedOfDesign d Size n)
    from (inl many) cells = inr ([], inl many)
    from (inr few) (inl many) = inr ([], inr many)
    from (inr few) (inr less) = inl (few, less)

-- the first bit in net order
reported_bit : (d : Design) (P : Bit → Type 0) → (b : Bit) × IsFirst P (net_order d) b → (n : List ℕ) × IsFirstBit d P n
reported_bit d P r = (bit_text d r.0, (r.0, r.1, refl))

two_drivers : (d : Design) → BitsAreThere d → IsAbsentInDesign d TwoDrivers ⊎ ((n : List ℕ) × IsReportedOfDesign d TwoDrivers n)
two_drivers d there = from (first_or_none (IsDrivenTwice d) (decide_twice decide_bit (driven_bits d)) (net_order d))
  where
    from : ((b : Bit) → Contains (net_order d) b → IsDrivenTwice d b → ⊥) ⊎ ((b : Bit) × IsFirst (IsDrivenTwice d) (net_order d) b) → IsAbsentInDesign d TwoDrivers ⊎ ((n : List ℕ) × IsReportedOfDesign d TwoDrivers n)
    from (inl none) = inl (λ i j e less within same.
        let b = get_or (driven_bits d) i e in
        none b (there.driven i e (omega (arith, less, within)))
        (i, j, less, within, get_or_default (driven_bits d) i b e (omega (arith, less, within)), get_or_default (driven_bits d) j b e within ∙ sym same))
    from (inr r) = inr (reported_bit d (IsDrivenTwice d) r)

no_driver : (d : Design) → BitsAreThere d → IsAbsentInDesign d NoDriver ⊎ ((n : List ℕ) × IsReportedOfDesign d NoDriver n)
no_driver d there = from (first_or_none (IsUndriven d) (decide_undriven d) (net_order d))
  where
    driven : ((b : Bit) → Contains (net_order d) b → IsUndriven d b → ⊥) → (b : Bit) → IsReadBit d b → Decision (Contains (driven_bits d) b) → Contains (driven_bits d) b
    driven none b read (inl has) = has
    driven none b read (inr n) = absurd (none b (there.read b read) (read, n))

    from : ((b : Bit) → Contains (net_order d) b → IsUndriven d b → ⊥) ⊎ ((b : Bit) × IsFirst (IsUndriven d) (net_order d) b) → IsAbsentInDesign d NoDriver ⊎ ((n : List ℕ) × IsReportedOfDesign d NoDriver n)
    from (inl none) = inl (λ b read. driven none b read (decide_contains decide_bit (driven_bits d) b))
    from (inr r) = inr (reported_bit d (IsUndriven d) r)

-- what depends on something is driven
pub depends_driven : (d : Design) (b c : Bit) → Contains (dependences d) (b, c) → Contains (driven_bits d) b
depends_driven d b c has =
    let x = from_flat _ (drives d) (b, c) has in
    let y = from_map _ (needed x.0.source) (b, c) x.2 in
    subst (Contains (driven_bits d)) (ap (λ z. z.0) y.2) (contains-map (λ x. x.bit) (drives d) x.0 x.1)

pub cycle : (d : Design) → BitsAreThere d → IsAbsentInDesign d Cycle ⊎ ((n : List ℕ) × IsReportedOfDesign d Cycle n)
cycle d there = from (first_or_none (IsOnLoop d) (λ b. decide_leads decide_bit (dependences d) b b) (net_order d))
  where
    falls : ((b : Bit) → Contains (net_order d) b → IsOnLoop d b → ⊥) → (x : Bit × Bit) → Contains (dependences d) x → level decide_bit (dependences d) x.1 < level decide_bit (dependences d) x.0
    falls none x has = level_falls decide_bit (dependences d) x.0 x.1 has (λ loop.
        let s = begins (dependences d) loop in
        none x.1 (All-contains (Contains (net_order d)) (driven_bits d) x.1 there.driven (depends_driven d x.1 s.0 s.1)) loop)

    from : ((b : Bit) → Contains (net_order d) b → IsOnLoop d b → ⊥) ⊎ ((b : Bit) × IsFirst (IsOnLoop d) (net_order d) b) → IsAbsentInDesign d Cycle ⊎ ((n : List ℕ) × IsReportedOfDesign d Cycle n)
    from (inl none) = inl (level decide_bit (dependences d), all_from (λ x. level decide_bit (dependences d) x.1 < level decide_bit (dependences d) x.0) (dependences d) (falls none))
    from (inr r) = inr (reported_bit d (IsOnLoop d) r)

ports : (d : Design) → IsAbsentInDesign d PortTexts ⊎ ((n : List ℕ) × IsReportedOfDesign d PortTexts n)
ports d = from (repeat_or_apart decide_name (input_texts d)) (repeat_or_apart decide_name (output_texts d))
  where
    from : AreDistinctTexts (input_texts d) ⊎ ((n : List ℕ) × IsFirstRepeat (input_texts d) n) → AreDistinctTexts (output_texts d) ⊎ ((n : List ℕ) × IsFirstRepeat (output_texts d) n) → IsAbsentInDesign d PortTexts ⊎ ((n : List ℕ) × IsReportedOfDesign d PortTexts n)
    from (inr r) outs = inr (r.0, inl r.1)
    from (inl ins) (inr r) = inr (r.0, inr (ins, r.1))
    from (inl ins) (inl outs) = inl (ins, outs)

-- the causes after depth speak of bits
decided : (d : Design) → (IsShallow d → BitsAreThere d) → (c : DesignCause) → ((other : DesignCause) → cause_rank other < cause_rank c → IsAbsentInDesign d other) → IsAbsentInDesign d c ⊎ ((n : List ℕ) × IsReportedOfDesign d c n)
decided d there Recursion before = recursion d
decided d there Depth before = depth d
decided d there Size before = size d
decided d there TwoDrivers before = two_drivers d (there (before Depth (omega arith)))
decided d there NoDriver before = no_driver d (there (before Depth (omega arith)))
decided d there Cycle before = cycle d (there (before Depth (omega arith)))
decided d there BoxTexts before = repeat_or_apart decide_name (box_paths d)
decided d there RegisterTexts before = repeat_or_apart decide_name (register_texts d)
decided d there PortTexts before = ports d

rank_at : (k : ℕ) → cause_rank (cause_at k) ≤ k
unfolding cause_at
rank_at zero = omega arith
rank_at (suc zero) = omega arith
rank_at (suc (suc zero)) = omega arith
rank_at (suc (suc (suc zero))) = omega arith
rank_at (suc (suc (suc (suc zero)))) = omega arith
rank_at (suc (suc (suc (suc (suc zero))))) = omega arith
rank_at (suc (suc (suc (suc (suc (suc zero)))))) = omega arith
rank_at (suc (suc (suc (suc (suc (suc (suc zero))))))) = omega arith
rank_at (suc (suc (suc (suc (suc (suc (suc (suc n)))))))) = omega arith

rank_small : (c : DesignCause) → cause_rank c < 9
rank_small Recursion = omega arith
rank_small Depth = omega arith
rank_small Size = omega arith
rank_small TwoDrivers = omega arith
rank_small NoDriver = omega arith
rank_small Cycle = omega arith
rank_small BoxTexts = omega arith
rank_small RegisterTexts = omega arith
rank_small PortTexts = omega arith

-- the causes up to a rank are absent, or one of them is reported
up_to : (d : Design) → (IsShallow d → BitsAreThere d) → (k : ℕ) → ((c : DesignCause) → cause_rank c < k → IsAbsentInDesign d c) ⊎ ((fault : ElabFault) × IsRefusalOf d fault)
up_to d there zero = inl (λ c lt. absurd (omega (arith, lt)))
up_to d there (suc k) = from (up_to d there k)
  where
    next : ((c : DesignCause) → cause_rank c < k → IsAbsentInDesign d c) → IsAbsentInDesign d (cause_at k) → (c : DesignCause) → cause_rank c < suc k → (cause_rank c < k) ⊎ ((k < cause_rank c) ⊎ (cause_rank c ≡ k)) → IsAbsentInDesign d c
    next before absent c lt (inl h) = before c h
    next before absent c lt (inr (inl h)) = absurd (omega (arith, lt, h))
    next before absent c lt (inr (inr h)) = subst (IsAbsentInDesign d) (sym (ap cause_at h) ∙ at_rank c) absent

    here : ((c : DesignCause) → cause_rank c < k → IsAbsentInDesign d c) → IsAbsentInDesign d (cause_at k) ⊎ ((n : List ℕ) × IsReportedOfDesign d (cause_at k) n)
        → ((c : DesignCause) → cause_rank c < suc k → IsAbsentInDesign d c) ⊎ ((fault : ElabFault) × IsRefusalOf d fault)
    here before (inl absent) = inl (λ c lt. next before absent c lt (less_or_same (cause_rank c) k))
    here before (inr reported) = inr (
      elab_fault_of (cause_at k) reported.0,
      record {
        cause = cause_at k;
        name = reported.0;
        is = refl;
        reported = reported.1;
        earlier = λ c lt. before c (omega (arith, lt, rank_at k));
      },
    )

    from : ((c : DesignCause) → cause_rank c < k → IsAbsentInDesign d c) ⊎ ((fault : ElabFault) × IsRefusalOf d fault) → ((c : DesignCause) → cause_rank c < suc k → IsAbsentInDesign d c) ⊎ ((fault : ElabFault) × IsRefusalOf d fault)
    from (inr refused) = inr refused
    from (inl before) = here before (decided d there (cause_at k) (λ c lt. before c (omega (arith, lt, rank_at k))))

-- a text is sound or has a first refusal, where the bits of its design are there unless it is too deep
pub sound_or_reported : (text : List PlainModule) (name : Option (List ℕ)) → ((top : PlainModule) → top_of text name ≡ Some top → IsShallow (design_on text top) → BitsAreThere (design_on text top))
    → IsSoundText text name ⊎ ((fault : ElabFault) × IsFirstDesignRefusal text name fault)
sound_or_reported text name there = from (top_of text name) refl
  where
    on : (top : PlainModule) → top_of text name ≡ Some top → ((c : DesignCause) → cause_rank c < 9 → IsAbsentInDesign (design_on text top) c) ⊎ ((fault : ElabFault) × IsRefusalOf (design_on text top) fault)
        → IsSoundText text name ⊎ ((fault : ElabFault) × IsFirstDesignRefusal text name fault)
    on top e (inl absent) = inl (top, e, λ c. absent c (rank_small c))
    on top e (inr r) = inr (r.0, inr (top, e, r.1))

    from : (o : Option PlainModule) → top_of text name ≡ o → IsSoundText text name ⊎ ((fault : ElabFault) × IsFirstDesignRefusal text name fault)
    from None e = inr (faults.NoTop, inl (e, refl))
    from (Some top) e = on top e (up_to (design_on text top) (there top e) 9)
