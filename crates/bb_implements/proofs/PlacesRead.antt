-- Where a bit is read, its place in the list of cells is read.
use Rattle.std.proofs.Common.{◌≡◌, ◌⊎◌, ℕ, zero, suc, ◌+◌, ◌-◌, ◌<◌, ◌≤◌, Bool, true, false, if◌then◌else◌, List, [], ◌∷◌, ◌++◌, map, fold, zip, length, get_or, All, Contains, Some, None, refl, sym, ap, ◌∙◌, subst, inl, inr, arith}
use Rattle.std.specs.List.{enumerate_from, flat_map, range_with_len}
use Rattle.std.proofs.lemmas.List.{get_or_default, length-drop}
use Rattle.std.proofs.lemmas.List.Elements.{All-contains, Contains-append_cases, Contains-append_left, Contains-append_right, Contains-get_or}
use Rattle.std.proofs.lemmas.List.Sorted.{Contains-permutation}
use Rattle.bb_ast.specs.declared.module.Gate.{Gate}
use Rattle.bb_ast.specs.declared.module.Gate.TheVariants as gates
use Rattle.bb_ast.specs.Syntax.{Expression, PlainAlways}
use Rattle.bb_names.specs.Nets.{nets_of}
use Rattle.bb_expr.specs.declared.step.BitStep.{BitStep}
use Rattle.bb_expr.specs.declared.step.BitStep.TheVariants as steps
use Rattle.bb_expr.specs.Lowered.{ReadsEarlier, step_term, term_within, term_at, is_operator, operators}
use Rattle.bb_expr.specs.Terms.{Term}
use Rattle.bb_expr.specs.Terms as term
use Rattle.bb_net.specs.declared.loose.LooseCell.{LooseCell}
use Rattle.bb_net.specs.declared.loose.LooseCell.TheVariants as cell
use Rattle.bb_net.specs.Loose.{LooseList}
use Rattle.bb_net.specs.Netlists.{Pins}
use Rattle.bb_design.specs.Constructs.{Construct, Assignment, GateInstance, Register, SupplyNet, InputConnection, OutputConnection, BoxContents, parts}
use Rattle.bb_design.specs.Contexts.{width_of, context_width, made_in}
use Rattle.bb_bits.specs.Bits.{low_bits}
use Rattle.bb_design.specs.Drivers.{Free, Drive, driven, drives, driven_bits, terminal_terms}
use Rattle.bb_design.specs.GateFunctions.{on_terms, joins, joined, joined_after, joining_cells, gate_cells, inverts, gate_gives}
use Rattle.bb_design.specs.Hierarchy.{Design, Scope, boxes}
use Rattle.bb_design.specs.NetBits.{Bit, net_order, input_bits, top_outputs, written_bits}
use Rattle.bb_implements.specs.Places.{CellName, NetBit, Step, Joined, Inverted, lowered_in, Lowering, IsLowering, terminal_place, joined_place, join_cell, pins_of, step_places, data_at, place_in, data_places, IsListOf}
use Rattle.bb_design.specs.Reading.{bit_itself, cells_at, operand_terms, read_at, read_beside, read_directly}
use Rattle.bb_design.specs.Registers.{RegisterBit, stored_at, registers, data_terms}
use Rattle.bb_design.specs.Laws.{BitsAreThere}
use Rattle.bb_design.specs.Refusals.{AreDrivenOnce}
use Rattle.bb_implements.proofs.DataPlaces.{data_place}
use Rattle.bb_implements.proofs.GivenDrives.{term_of, low_terms, part_driven}
use Rattle.bb_lemmas.proofs.Zips.{zip_parts}
use Rattle.bb_implements.specs.Inside.ReadPlaces.{read_by, FollowsAt, IsReadPlace}
use Rattle.bb_lemmas.proofs.Members.{from_filter, from_flat, from_map, from_drop, into_flat, contains-map, contains_here, contains_there, contains_cases, none_in_nil}
use Rattle.bb_implements.proofs.CopyWalks.{To, copy_on, no_bit, within_copies, steps_copies, input_copies}
use Rattle.bb_lemmas.proofs.Numbered.{enumerated_from, numbered_there, from_numbered}
use Rattle.bb_implements.proofs.ListedPlaces.{IsListed, Occurs, lowered_at, reads_there, listed_cell, listed_below, step_occurs, joined_listed, inverted_listed}
use Rattle.bb_implements.proofs.ListedSources.{terminal_there}
use Rattle.bb_design.specs.Laws.Wired.{IsWired}
use Rattle.bb_implements.proofs.GateTerms.{input_term, terminals_are}
use Rattle.bb_design.specs.Laws.DesignLaws.{DesignLaws}

module _ {A T : Type 0} where
  only_one : (a q : A) → Contains (a ∷ []) q → (a ≡ q → T) → T
  only_one a q has f = by (contains_cases a [] q has)
    where
      by : (a ≡ q) ⊎ Contains [] q → T
      by (inl same) = f same
      by (inr none) = absurd (none_in_nil q none)

  one_of_two : (a b q : A) → Contains (a ∷ b ∷ []) q → (a ≡ q → T) → (b ≡ q → T) → T
  one_of_two a b q has f g = by (contains_cases a (b ∷ []) q has)
    where
      by : (a ≡ q) ⊎ Contains (b ∷ []) q → T
      by (inl same) = f same
      by (inr more) = only_one b q more g

  one_of_three : (a b c q : A) → Contains (a ∷ b ∷ c ∷ []) q → (a ≡ q → T) → (b ≡ q → T) → (c ≡ q → T) → T
  one_of_three a b c q has f g h = by (contains_cases a (b ∷ c ∷ []) q has)
    where
      by : (a ≡ q) ⊎ Contains (b ∷ c ∷ []) q → T
      by (inl same) = f same
      by (inr more) = one_of_two b c q more g h

some_if : {A : Type 0} (b : Bool) (x y : A) → (if b then Some x else None) ≡ Some y → x ≡ y
some_if true x y e = grind (arith, e)
some_if false x y e = cc

module _ (of_designs : DesignLaws) (d : Design) (lowering : Lowering) (l : LooseList) (list : IsListOf d lowering l) (lowered : IsLowering d lowering) (wired : IsWired d) (clocks : List ℕ) where
  -- the place of the bit is read
  abbrev pub IsReadAt : Bit → Type 0
  IsReadAt b = IsReadPlace l clocks (list.number (NetBit b))

  abbrev Follows : ℕ → Bit → Type 0
  Follows q b = FollowsAt l.cells q (list.number (NetBit b))

  -- a listed cell reads a place from which copies lead to the bit
  pub from_cell : (p : CellName) (u : LooseCell) → IsListed d lowering l list p u → (q : ℕ) → Contains (read_by u) q → (b : Bit) → Follows q b → IsReadAt b
  from_cell p u listed q reads b follows =
      let lt = listed_below d lowering l list p u listed in
      let at : get_or l.cells (list.number p) u ≡ u = get_or_default l.cells (list.number p) u (cell.Const false) lt ∙ listed_cell d lowering l list p u listed in
      (q, Contains-append_left (flat_map read_by l.cells) (flat_map (λ (b : Pins). b.ins) l.boxes ++ (l.outs ++ clocks)) q (into_flat read_by l.cells u q (list.number p, lt, at) reads), follows)

  module _ (k : ℕ) (s : Scope) (c : Construct) (has : Contains (enumerate_from 0 (parts d)) (k, (s, c))) (x : ℕ) (fits : x < length (lowered_in (s, c))) where
    abbrev all : List BitStep
    all = (lowering k x).all

    -- what an operator reads
    step_reads : (term : ℕ → Term) (j : ℕ) (b : Bit) → ((a : ℕ) → a < j → Contains (bit_itself s.path (term a)) b → To of_designs d lowering l list lowered wired (Step k x a) b) → (step : BitStep) → ReadsEarlier (nets_of s.source) j step
        → Occurs d lowering l list k s x j step → (t : Term) → Contains (operand_terms (step_term (nets_of s.source) step term)) t → Contains (bit_itself s.path t) b → IsReadAt b
    step_reads term j b earlier (steps.Const v) reads occurs t at bit = absurd (none_in_nil t at)
    step_reads term j b earlier (steps.Net m i) reads occurs t at bit = absurd (none_in_nil t at)
    step_reads term j b earlier (steps.Not a) reads occurs t at bit = only_one (term a) t at (λ same. from_cell (Step k x j) _ occurs.1 (list.number (Step k x a)) (0, omega arith, refl) b (earlier a reads (subst (λ u. Contains (bit_itself s.path u) b) (sym same) bit)))
    step_reads term j b earlier (steps.And y z) reads occurs t at bit = one_of_two (term y) (term z) t at
        (λ same. from_cell (Step k x j) _ occurs.1 (list.number (Step k x y)) (0, omega arith, refl) b (earlier y reads.0 (subst (λ u. Contains (bit_itself s.path u) b) (sym same) bit)))
        (λ same. from_cell (Step k x j) _ occurs.1 (list.number (Step k x z)) (1, omega arith, refl) b (earlier z reads.1 (subst (λ u. Contains (bit_itself s.path u) b) (sym same) bit)))
    step_reads term j b earlier (steps.Or y z) reads occurs t at bit = one_of_two (term y) (term z) t at
        (λ same. from_cell (Step k x j) _ occurs.1 (list.number (Step k x y)) (0, omega arith, refl) b (earlier y reads.0 (subst (λ u. Contains (bit_itself s.path u) b) (sym same) bit)))
        (λ same. from_cell (Step k x j) _ occurs.1 (list.number (Step k x z)) (1, omega arith, refl) b (earlier z reads.1 (subst (λ u. Contains (bit_itself s.path u) b) (sym same) bit)))
    step_reads term j b earlier (steps.Xor y z) reads occurs t at bit = one_of_two (term y) (term z) t at
        (λ same. from_cell (Step k x j) _ occurs.1 (list.number (Step k x y)) (0, omega arith, refl) b (earlier y reads.0 (subst (λ u. Contains (bit_itself s.path u) b) (sym same) bit)))
        (λ same. from_cell (Step k x j) _ occurs.1 (list.number (Step k x z)) (1, omega arith, refl) b (earlier z reads.1 (subst (λ u. Contains (bit_itself s.path u) b) (sym same) bit)))
    step_reads term j b earlier (steps.Mux i y z) reads occurs t at bit = one_of_three (term i) (term y) (term z) t at
        (λ same. from_cell (Step k x j) _ occurs.1 (list.number (Step k x i)) (0, omega arith, refl) b (earlier i reads.0 (subst (λ u. Contains (bit_itself s.path u) b) (sym same) bit)))
        (λ same. from_cell (Step k x j) _ occurs.1 (list.number (Step k x y)) (1, omega arith, refl) b (earlier y reads.1 (subst (λ u. Contains (bit_itself s.path u) b) (sym same) bit)))
        (λ same. from_cell (Step k x j) _ occurs.1 (list.number (Step k x z)) (2, omega arith, refl) b (earlier z reads.2 (subst (λ u. Contains (bit_itself s.path u) b) (sym same) bit)))

    -- what an operator among the steps of an expression reads
    pub step_place : (j : ℕ) → j < length all → (t : Term) → Contains (operand_terms (term_at (nets_of s.source) all j)) t → (b : Bit) → Contains (bit_itself s.path t) b → IsReadAt b
    unfolding term_within
    step_place j there t at b bit =
        let one : j + 1 ≡ suc j = omega arith in
        step_reads (term_within (nets_of s.source) all j) j b (λ a lt h. within_copies of_designs d lowering l list lowered wired k s c has x fits j a lt (omega (arith, lt, there)) b h) (get_or all j (steps.Const false))
        (reads_there d lowering lowered k s c has x fits j there) (step_occurs d lowering l list k s c has x fits j there) t (subst (λ m. Contains (operand_terms (term_within (nets_of s.source) all m j)) t) one at) bit

  -- what a cell of an expression reads
  pub made_place : (k : ℕ) (s : Scope) (c : Construct) (has : Contains (enumerate_from 0 (parts d)) (k, (s, c))) (x : ℕ) (e : Expression) (w : ℕ) → Contains (enumerate_from 0 (lowered_in (s, c))) (x, (e, w)) → (u : Term) → Contains (made_in s e w).cells u
      → (t : Term) → Contains (operand_terms u) t → (b : Bit) → Contains (bit_itself s.path t) b → IsReadAt b
  made_place k s c has x e w entry u made t at b bit =
      let lower = lowered_at d lowering lowered k s c has x e w entry in
      let nets = nets_of s.source in
      let all_x = (lowering k x).all in
      let z = from_filter (λ (z : ℕ × BitStep). if is_operator z.1 then Some (term_at nets all_x z.0) else None) (enumerate_from 0 all_x) u (Contains-permutation (made_in s e w).cells (operators nets all_x) u lower.cells made) in
      let i = enumerated_from 0 (lowered_in (s, c)) x (e, w) entry in
      let j = enumerated_from 0 all_x z.0.0 z.0.1 z.1 in
      let same = some_if (is_operator z.0.1) (term_at nets all_x z.0.0) u z.2 in
      step_place k s c has x (omega (arith, i.1, i.2)) z.0.0 (omega (arith, j.1, j.2)) t (subst (λ v. Contains (operand_terms v) t) (sym same) at) b bit

  module _ (k : ℕ) (s : Scope) (gate : Gate) (outs ins : List Expression) (has : Contains (enumerate_from 0 (parts d)) (k, (s, GateInstance gate outs ins))) where
    abbrev tin : ℕ → Term
    tin x = input_term d lowering lowered wired k s gate outs ins has x

    abbrev pre : ℕ → Term
    pre zero = tin 0
    pre (suc x) = joins on_terms gate (pre x) (tin (suc x))

    shape : (1 ≤ length ins) × All (λ e. width_of s e ≡ 1) ins
    shape = wired.gates s gate outs ins (from_numbered 0 (parts d) (k, (s, GateInstance gate outs ins)) has)

    tin_operand : (x : ℕ) → x < length ins → (t : Term) → Contains (operand_terms (tin x)) t → (b : Bit) → Contains (bit_itself s.path t) b → IsReadAt b
    tin_operand x fits t at b bit =
        let e = terminal_there s ins x fits shape.1 in
        let lower = lowered_at d lowering lowered k s (GateInstance gate outs ins) has x e.0 1 e.1 in
        let there = All-contains (λ j. j < length (lowering k x).all) (lowering k x).bits (get_or (lowering k x).bits 0 0) lower.places (Contains-get_or (lowering k x).bits 0 0 (omega (arith, lower.width))) in
        let y = enumerated_from 0 (lowered_in (s, GateInstance gate outs ins)) x (e.0, 1) e.1 in
        step_place k s (GateInstance gate outs ins) has x (omega (arith, y.1, y.2)) (get_or (lowering k x).bits 0 0) there t at b bit

    pre_copies : (x : ℕ) → x < length ins → (b : Bit) → Contains (bit_itself s.path (pre x)) b → To of_designs d lowering l list lowered wired (joined_place lowering k x) b
    pre_copies zero fits b bit = input_copies of_designs d lowering l list lowered wired k s gate outs ins has 0 fits b bit
    pre_copies (suc x) fits b bit =
        let n = no_bit s.path gate (pre x) (tin (suc x)) b bit in
        copy_on of_designs d lowering l list lowered wired (Joined k (suc x)) (joined_place lowering k x)
        (subst (IsListed d lowering l list (Joined k (suc x))) (n.2 (list.number (joined_place lowering k x)) (list.number (terminal_place lowering k (suc x)))) (joined_listed d lowering l list k s gate outs ins has x (omega (arith, fits)))) b
        (pre_copies x (omega (arith, fits)) b n.0)

    abbrev Joining : Gate → ℕ → ℕ → Term → Term → Term → Type 0
    Joining g p r t u v = Contains (operand_terms t) v ⊎ ((q : ℕ) × Contains (read_by (join_cell g p r)) q × (((t ≡ v) × (p ≡ q)) ⊎ ((u ≡ v) × (r ≡ q))))

    both_read : (g : Gate) (p r : ℕ) (t u v : Term) → read_by (join_cell g p r) ≡ p ∷ r ∷ [] → Contains (t ∷ u ∷ []) v → Joining g p r t u v
    both_read g p r t u v reads at = one_of_two t u v at
        (λ same. inr (p, subst (λ l. Contains l p) (sym reads) (0, omega arith, refl), inl (same, refl)))
        (λ same. inr (r, subst (λ l. Contains l r) (sym reads) (1, omega arith, refl), inr (same, refl)))

    join_operand : (g : Gate) (p r : ℕ) (t u v : Term) → Contains (operand_terms (joins on_terms g t u)) v → Joining g p r t u v
    join_operand gates.And p r t u v at = both_read gates.And p r t u v refl at
    join_operand gates.Nand p r t u v at = both_read gates.Nand p r t u v refl at
    join_operand gates.Or p r t u v at = both_read gates.Or p r t u v refl at
    join_operand gates.Nor p r t u v at = both_read gates.Nor p r t u v refl at
    join_operand gates.Xor p r t u v at = both_read gates.Xor p r t u v refl at
    join_operand gates.Xnor p r t u v at = both_read gates.Xnor p r t u v refl at
    join_operand gates.Buf p r t u v at = inl at
    join_operand gates.Not p r t u v at = inl at

    pre_operand : (x : ℕ) → x < length ins → (v : Term) → Contains (operand_terms (pre x)) v → (b : Bit) → Contains (bit_itself s.path v) b → IsReadAt b
    pre_operand zero fits v at b bit = tin_operand 0 fits v at b bit
    pre_operand (suc x) fits v at b bit = by (join_operand gate (list.number (joined_place lowering k x)) (list.number (terminal_place lowering k (suc x))) (pre x) (tin (suc x)) v at) (λ h. pre_operand x (omega (arith, fits)) v h b bit)
      where
        listed : IsListed d lowering l list (Joined k (suc x)) (join_cell gate (list.number (joined_place lowering k x)) (list.number (terminal_place lowering k (suc x))))
        listed = joined_listed d lowering l list k s gate outs ins has x (omega (arith, fits))

        moved : (t : Term) → t ≡ v → Contains (bit_itself s.path t) b
        moved t same = subst (λ u. Contains (bit_itself s.path u) b) (sym same) bit

        by : Joining gate (list.number (joined_place lowering k x)) (list.number (terminal_place lowering k (suc x))) (pre x) (tin (suc x)) v → (Contains (operand_terms (pre x)) v → IsReadAt b) → IsReadAt b
        by (inl h) rest = rest h
        by (inr (q, reads, inl e)) rest = from_cell (Joined k (suc x)) _ listed q reads b (subst (λ i. Follows i b) e.1 (pre_copies x (omega (arith, fits)) b (moved (pre x) e.0)))
        by (inr (q, reads, inr e)) rest = from_cell (Joined k (suc x)) _ listed q reads b (subst (λ i. Follows i b) e.1 (input_copies of_designs d lowering l list lowered wired k s gate outs ins has (suc x) fits b (moved (tin (suc x)) e.0)))

    next_is : (a : ℕ) → joins on_terms gate (pre a) (tin (a + 1)) ≡ pre (suc a)
    next_is a = let one : a + 1 ≡ suc a = omega arith in ap (λ z. joins on_terms gate (pre a) (tin z)) one

    after_from : (m a : ℕ) (u : Term) → Contains (joined_after (joins on_terms gate) (pre a) (map tin (range_with_len (a + 1) m))) u → (i : ℕ) × (i < m) × (pre (suc (a + i)) ≡ u)
    after_from zero a u at = absurd (none_in_nil u at)
    after_from (suc m) a u at = by (contains_cases _ _ u at) (after_from m (suc a) u)
      where
        here : suc (a + 0) ≡ suc a
        here = omega arith

        one : a + 1 ≡ suc a
        one = omega arith

        next : (i : ℕ) → suc (a + suc i) ≡ suc (suc a + i)
        next i = omega arith

        by : (joins on_terms gate (pre a) (tin (a + 1)) ≡ u) ⊎ Contains (joined_after (joins on_terms gate) (joins on_terms gate (pre a) (tin (a + 1))) (map tin (range_with_len (a + 1 + 1) m))) u
            → (Contains (joined_after (joins on_terms gate) (pre (suc a)) (map tin (range_with_len (suc a + 1) m))) u → (i : ℕ) × (i < m) × (pre (suc (suc a + i)) ≡ u)) → (i : ℕ) × (i < suc m) × (pre (suc (a + i)) ≡ u)
        by (inl same) rest = (0, omega arith, ap pre here ∙ sym (next_is a) ∙ same)
        by (inr more) rest =
            let r = rest (subst (λ z. Contains (joined_after (joins on_terms gate) (pre (suc a)) (map tin (range_with_len (z + 1) m))) u) one (subst (λ t. Contains (joined_after (joins on_terms gate) t (map tin (range_with_len (a + 1 + 1) m))) u) (next_is a) more)) in
            (suc r.0, omega (arith, r.1), ap pre (next r.0) ∙ r.2)

    prefix_is : (m a : ℕ) → fold (joins on_terms gate) (pre a) (map tin (range_with_len (a + 1) m)) ≡ pre (a + m)
    prefix_is zero a = let same : a ≡ a + 0 = omega arith in ap pre same
    prefix_is (suc m) a =
        let one : a + 1 ≡ suc a = omega arith in
        let further : suc a + m ≡ a + suc m = omega arith in
        ap (λ t. fold (joins on_terms gate) t (map tin (range_with_len (a + 1 + 1) m))) (next_is a) ∙ ap (λ z. fold (joins on_terms gate) (pre (suc a)) (map tin (range_with_len (z + 1) m))) one ∙ prefix_is m (suc a) ∙ ap pre further

    whole_is : (n : ℕ) → n ≡ length ins → 1 ≤ n → pre (n - 1) ≡ joined on_terms gate (map tin (range_with_len 0 n))
    whole_is zero same one = absurd (omega (arith, one))
    whole_is (suc m) same one = let place : suc m - 1 ≡ 0 + m = omega arith in ap pre place ∙ sym (prefix_is m 0)

    joining_operand : (n : ℕ) → n ≡ length ins → (u : Term) → Contains (joining_cells gate (map tin (range_with_len 0 n))) u → (t : Term) → Contains (operand_terms u) t → (b : Bit) → Contains (bit_itself s.path t) b → IsReadAt b
    joining_operand zero same u at t operand b bit = absurd (none_in_nil u at)
    joining_operand (suc m) same u at t operand b bit =
        let r = after_from m 0 u at in
        pre_operand (suc (0 + r.0)) (omega (arith, r.1, same)) t (subst (λ v. Contains (operand_terms v) t) (sym r.2) operand) b bit

    gate_operand : (u : Term) → Contains (gate_cells gate (map tin (range_with_len 0 (length ins)))) u → (t : Term) → Contains (operand_terms u) t → (b : Bit) → Contains (bit_itself s.path t) b → IsReadAt b
    gate_operand u at t operand b bit = by (Contains-append_cases (joining_cells gate (map tin (range_with_len 0 (length ins)))) (if inverts gate then gate_gives on_terms gate (map tin (range_with_len 0 (length ins))) ∷ [] else []) u at)
      where
        inside : Term
        inside = joined on_terms gate (map tin (range_with_len 0 (length ins)))

        inverted : (o : Bool) → inverts gate ≡ o → Contains (if o then (if o then term.Not inside else inside) ∷ [] else []) u → IsReadAt b
        inverted false off h = absurd (none_in_nil u h)
        inverted true on h = only_one (term.Not inside) u h (λ same. only_one inside t (subst (λ v. Contains (operand_terms v) t) (sym same) operand) (λ is.
            from_cell (Inverted k) _ (inverted_listed d lowering l list k s gate outs ins has on) (list.number (joined_place lowering k (length ins - 1))) (0, omega arith, refl) b
            (pre_copies (length ins - 1) (omega (arith, shape.0)) b (subst (λ v. Contains (bit_itself s.path v) b) (sym is ∙ sym (whole_is (length ins) refl shape.0)) bit))))

        by : Contains (joining_cells gate (map tin (range_with_len 0 (length ins)))) u ⊎ Contains (if inverts gate then gate_gives on_terms gate (map tin (range_with_len 0 (length ins))) ∷ [] else []) u → IsReadAt b
        by (inl h) = joining_operand (length ins) refl u h t operand b bit
        by (inr h) = inverted (inverts gate) refl h

    pub gate_place_read : (u : Term) → Contains (gate_cells gate (terminal_terms s ins)) u → (t : Term) → Contains (operand_terms u) t → (b : Bit) → Contains (bit_itself s.path t) b → IsReadAt b
    gate_place_read u at = gate_operand u (subst (λ ts. Contains (gate_cells gate ts) u) (terminals_are d lowering lowered wired k s gate outs ins has) at)

  -- what the cells of a construct read
  pub part_cells : (k : ℕ) (s : Scope) (c : Construct) → Contains (enumerate_from 0 (parts d)) (k, (s, c)) → (u : Term) → Contains (cells_at (s, c)) u → (t : Term) → Contains (operand_terms u) t → (b : Bit) → Contains (bit_itself s.path t) b → IsReadAt b
  part_cells k s (Assignment left right) has u at t operand b bit = made_place k s (Assignment left right) has 0 right (context_width s left right) (contains_here (0, (right, context_width s left right)) []) u at t operand b bit
  part_cells k s (Register r) has u at t operand b bit = made_place k s (Register r) has 0 r.right (context_width s r.left r.right) (contains_here (0, (r.right, context_width s r.left r.right)) []) u at t operand b bit
  part_cells k s (InputConnection i pin f) has u at t operand b bit = made_place k s (InputConnection i pin f) has 0 f (width_of s f) (contains_here (0, (f, width_of s f)) []) u at t operand b bit
  part_cells k s (SupplyNet high m) has u at t operand b bit = absurd (none_in_nil u at)
  part_cells k s (OutputConnection i pin f) has u at t operand b bit = absurd (none_in_nil u at)
  part_cells k s BoxContents has u at t operand b bit = absurd (none_in_nil u at)
  part_cells k s (GateInstance gate outs ins) has u at t operand b bit = by (Contains-append_cases (flat_map (λ e. (made_in s e (width_of s e)).cells) ins) (gate_cells gate (terminal_terms s ins)) u at)
    where
      by : Contains (flat_map (λ e. (made_in s e (width_of s e)).cells) ins) u ⊎ Contains (gate_cells gate (terminal_terms s ins)) u → IsReadAt b
      by (inr h) = gate_place_read k s gate outs ins has u h t operand b bit
      by (inl h) =
          let e = from_flat (λ e. (made_in s e (width_of s e)).cells) ins u h in
          let entry = numbered_there 0 (map {B = Expression × ℕ} (λ e. (e, width_of s e)) ins) (e.0, width_of s e.0) (contains-map {B = Expression × ℕ} (λ e. (e, width_of s e)) ins e.0 e.1) in
          made_place k s (GateInstance gate outs ins) has entry.0 e.0 (width_of s e.0) entry.1 u e.2 t operand b bit

  -- where the clocks and the data of registers are read, all that is read as it is has a place that is read
  module _ (timed : (s : Scope) (a : PlainAlways) → Contains (parts d) (s, Register a) → (b : Bit) → Contains (written_bits s a.clock) b → Contains clocks (list.number (NetBit b)))
      (dated : (k : ℕ) (s : Scope) (a : PlainAlways) → Contains (enumerate_from 0 (parts d)) (k, (s, Register a)) → (t : Term) → Contains (data_terms s a) t → (b : Bit) → Contains (bit_itself s.path t) b → IsReadAt b) where
    beside : (k : ℕ) (s : Scope) (c : Construct) → Contains (enumerate_from 0 (parts d)) (k, (s, c)) → (b : Bit) → Contains (read_beside (s, c)) b → IsReadAt b
    beside k s (Assignment left right) has b at = absurd (none_in_nil b at)
    beside k s (GateInstance gate outs ins) has b at = absurd (none_in_nil b at)
    beside k s (SupplyNet high m) has b at = absurd (none_in_nil b at)
    beside k s (InputConnection i pin f) has b at = absurd (none_in_nil b at)
    beside k s (OutputConnection i pin f) has b at = absurd (none_in_nil b at)
    beside k s (Register a) has b at = by (Contains-append_cases (written_bits s a.clock) (flat_map (bit_itself s.path) (data_terms s a)) b at)
      where
        by : Contains (written_bits s a.clock) b ⊎ Contains (flat_map (bit_itself s.path) (data_terms s a)) b → IsReadAt b
        by (inl h) = (
          list.number (NetBit b),
          Contains-append_right (flat_map read_by l.cells) (flat_map (λ (b : Pins). b.ins) l.boxes ++ (l.outs ++ clocks)) _ (Contains-append_right (flat_map (λ (b : Pins). b.ins) l.boxes) (l.outs ++ clocks) _
              (Contains-append_right l.outs clocks _ (timed s a (from_numbered 0 (parts d) (k, (s, Register a)) has) b h))),
          inl refl,
        )
        by (inr h) = let t = from_flat (bit_itself s.path) (data_terms s a) b h in dated k s a has t.0 t.1 b t.2
    beside k s BoxContents has b at =
        let box = box_scope s (from_numbered 0 (parts d) (k, (s, BoxContents)) has) in
        let i = numbered_there 0 (boxes d) s box in
        let pins = contains-map (pins_of list.number) (enumerate_from 0 (boxes d)) (i.0, s) i.1 in (
          list.number (NetBit b),
          Contains-append_right (flat_map read_by l.cells) (flat_map (λ (b : Pins). b.ins) l.boxes ++ (l.outs ++ clocks)) _ (Contains-append_left (flat_map (λ (b : Pins). b.ins) l.boxes) (l.outs ++ clocks) _
              (into_flat (λ (b : Pins). b.ins) l.boxes (pins_of list.number (i.0, s)) _ (subst (λ all. Contains all (pins_of list.number (i.0, s))) (sym list.boxes) pins) (contains-map (λ x. list.number (NetBit x)) (input_bits s) b at))),
          inl refl,
        )
      where
        box_scope : (s : Scope) → Contains (parts d) (s, BoxContents) → Contains (boxes d) s
        box_scope s here = wired.boxed s here

    pub direct_place : (b : Bit) → Contains (read_directly d) b → IsReadAt b
    direct_place b at = by (Contains-append_cases (top_outputs d) (flat_map read_at (parts d)) b at)
      where
        part : (s : Scope) (c : Construct) (k : ℕ) → Contains (enumerate_from 0 (parts d)) (k, (s, c)) → Contains (read_at (s, c)) b → IsReadAt b
        part s c k has h = from (Contains-append_cases (flat_map (λ cell. flat_map (bit_itself s.path) (operand_terms cell)) (cells_at (s, c))) (read_beside (s, c)) b h)
          where
            from : Contains (flat_map (λ cell. flat_map (bit_itself s.path) (operand_terms cell)) (cells_at (s, c))) b ⊎ Contains (read_beside (s, c)) b → IsReadAt b
            from (inl g) =
                let u = from_flat (λ cell. flat_map (bit_itself s.path) (operand_terms cell)) (cells_at (s, c)) b g in
                let t = from_flat (bit_itself s.path) (operand_terms u.0) b u.2 in
                part_cells k s c has u.0 u.1 t.0 t.1 b t.2
            from (inr g) = beside k s c has b g

        by : Contains (top_outputs d) b ⊎ Contains (flat_map read_at (parts d)) b → IsReadAt b
        by (inl h) = (
          list.number (NetBit b),
          Contains-append_right (flat_map read_by l.cells) (flat_map (λ (b : Pins). b.ins) l.boxes ++ (l.outs ++ clocks)) _ (Contains-append_right (flat_map (λ (b : Pins). b.ins) l.boxes) (l.outs ++ clocks) _
              (Contains-append_left l.outs clocks _ (subst (λ all. Contains all (list.number (NetBit b))) (sym list.outs) (Contains-append_left (map (λ b. list.number (NetBit b)) (top_outputs d)) (map list.number (data_places d lowering)) _ (contains-map (λ b. list.number (NetBit b)) (top_outputs d) b h))))),
          inl refl,
        )
        by (inr h) = let x = from_flat read_at (parts d) b h in let k = numbered_there 0 (parts d) x.0 x.1 in part x.0.0 x.0.1 k.0 k.1 x.2

  zip_second : {A B : Type 0} (xs : List A) (ys : List B) (y : B) → Contains ys y → length ys ≤ length xs → (x : A) × Contains (zip xs ys) (x, y)
  zip_second xs [] y has short = absurd (none_in_nil y has)
  zip_second [] (z ∷ ys) y has short = absurd (omega (arith, short))
  zip_second {A = A} {B = B} (x ∷ xs) (z ∷ ys) y has short = by (contains_cases z ys y has) (λ more. zip_second xs ys y more (omega (arith, short)))
    where
      by : (z ≡ y) ⊎ Contains ys y → (Contains ys y → (x : A) × Contains (zip xs ys) (x, y)) → (w : A) × Contains (zip (x ∷ xs) (z ∷ ys)) (w, y)
      by (inl same) rest = (x, subst (λ v. Contains {X = A × B} ((x, z) ∷ zip xs ys) (x, v)) same (contains_here (x, z) (zip xs ys)))
      by (inr more) rest = let r = rest more in (r.0, contains_there (x, z) (zip xs ys) (r.0, y) r.1)

  short_low : {A : Type 0} (n : ℕ) (xs : List A) → length (low_bits n xs) ≤ n
  short_low n xs = omega (arith, length-drop (length xs - n) xs)

  -- where bits are driven once, the data of registers are read
  pub data_read : BitsAreThere d → AreDrivenOnce d → (k : ℕ) (s : Scope) (a : PlainAlways) → Contains (enumerate_from 0 (parts d)) (k, (s, Register a)) → (t : Term) → Contains (data_terms s a) t → (b : Bit) → Contains (bit_itself s.path t) b → IsReadAt b
  data_read inside once k s a has t at b bit =
      let m = length (written_bits s a.left) in
      let w = context_width s a.left a.right in
      let entry = contains_here {A = ℕ × (Expression × ℕ)} (0, (a.right, w)) [] in
      let here = from_numbered 0 (parts d) (k, (s, Register a)) has in
      let low = low_bits m (step_places lowering k 0) in
      let p = from_map (term_of lowering s) low t (subst (λ ts. Contains ts t) (sym (low_terms of_designs d lowering lowered k s (Register a) has m 0 a.right w entry)) at) in
      let z = zip_second (written_bits s a.left) low p.0 p.1 (short_low m (step_places lowering k 0)) in
      let all_data = flat_map (data_at lowering) (enumerate_from 0 (parts d)) in
      let place = data_place of_designs lowering d once z.0 p.0 (into_flat (data_at lowering) (enumerate_from 0 (parts d)) (k, (s, Register a)) (z.0, p.0) has z.1) in
      let written = (zip_parts (written_bits s a.left) low (z.0, p.0) z.1).0 in
      let drive = part_driven of_designs d (s, Register a) here (driven Free z.0) (contains-map (driven Free) (written_bits s a.left) z.0 written) in
      let net = All-contains (Contains (net_order d)) (driven_bits d) z.0 inside.driven (contains-map (λ (x : Drive). x.bit) (drives d) (driven Free z.0) drive) in
      let i = numbered_there 0 (written_bits s a.left) z.0 written in
      let make : ℕ × Bit → RegisterBit = λ y. record { scope = s; item = a; place = y.0; bit = y.1 } in
      let r = of_designs.stored_register d (make (i.0, z.0)) (into_flat stored_at (parts d) (s, Register a) (make (i.0, z.0)) here (contains-map make (enumerate_from 0 (written_bits s a.left)) (i.0, z.0) i.1)) net in
      let listed : Contains (data_places d lowering) p.0 = subst (Contains (data_places d lowering)) (ap (place_in all_data) r.2 ∙ place) (contains-map (λ (r : RegisterBit). place_in all_data r.bit) (registers d) r.0 r.1) in
      let j = from_map (Step k 0) (lowering k 0).bits p.0 (from_drop _ (step_places lowering k 0) p.0 p.1) in
      let lower = lowered_at d lowering lowered k s (Register a) has 0 a.right w entry in
      let fits = All-contains (λ j. j < length (lowering k 0).all) (lowering k 0).bits j.0 lower.places j.1 in
      let step_bit : Contains (bit_itself s.path (term_of lowering s (Step k 0 j.0))) b = subst (λ v. Contains (bit_itself s.path v) b) (sym (ap (term_of lowering s) j.2 ∙ p.2)) bit in
      let to = steps_copies of_designs d lowering l list lowered wired k s (Register a) has 0 (omega arith) j.0 fits b step_bit in (
        list.number p.0,
        Contains-append_right (flat_map read_by l.cells) (flat_map (λ (b : Pins). b.ins) l.boxes ++ (l.outs ++ clocks)) _ (Contains-append_right (flat_map (λ (b : Pins). b.ins) l.boxes) (l.outs ++ clocks) _
            (Contains-append_left l.outs clocks _ (subst (λ all. Contains all (list.number p.0)) (sym list.outs) (Contains-append_right (map (λ b. list.number (NetBit b)) (top_outputs d)) (map list.number (data_places d lowering)) _ (contains-map list.number (data_places d lowering) p.0 listed))))),
        subst (λ q. Follows (list.number q) b) j.2 to,
      )
