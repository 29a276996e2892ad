-- Each vector and all contents have a world. The bit of a bit is computed from its source, whose bits have lower levels.
use Rattle.std.proofs.Common.{◌≡◌, ◌≢◌, ◌⊎◌, ℕ, zero, suc, ◌<◌, Bool, true, false, ◌||◌, if◌then◌else◌, List, [], ◌∷◌, ◌++◌, map, flat_map, find, AllPairs, Contains, Option, Some, None, refl, sym, ap, ◌∙◌, subst, inl, inr, arith, true≢false}
use Rattle.std.specs.List.{enumerate_from, list_any}
use Rattle.std.proofs.lemmas.List.{map-append}
use Rattle.std.proofs.lemmas.List.Elements.{All-contains, Contains-append_left, Contains-append_right}
use Rattle.bb_bits.specs.Contents.{Contents, output_bit}
use Rattle.bb_expr.specs.Terms.{term_bit}
use Rattle.bb_design.specs.Hierarchy.{Design, Scope}
use Rattle.bb_design.specs.NetBits.{Bit, same_bit, net_order, input_bits, top_inputs, written_bits}
use Rattle.bb_design.specs.Constructs.{Construct, Assignment, GateInstance, Register, SupplyNet, InputConnection, OutputConnection, BoxContents, parts}
use Rattle.bb_design.specs.Registers.{RegisterBit, stored_at, stored, registers}
use Rattle.bb_design.specs.Drivers.{DrivingSource, Free, MadeOf, Box, Drive, driven, drives_at, drives, driven_bits}
use Rattle.bb_design.specs.Dependence.{needed, dependences}
use Rattle.bb_design.specs.Texts.{path_text, bit_text}
use Rattle.bb_design.specs.Worlds.{World, Vector, HasVector, bits_in}
use Rattle.bb_net.specs.CutPoints.{TopInput, State}
use Rattle.bb_design.specs.Refusals.{AreDrivenOnce, IsAcyclic}
use Rattle.bb_design.specs.Laws.DrivenWorlds.{Gives, IsGiven, IsDrivenWorld, VectorsHaveWorlds}
use Rattle.bb_lemmas.proofs.Members.{from_flat, from_map, all_from, contains-map, into_flat, contains_here, contains_there, contains_cases, none_in_nil, find_there, from_filter_map, from_find}
use Rattle.bb_design.proofs.WorldLaws.{same_bit_is, same_bit_self, same_terms, same_bits}
use Rattle.bb_lemmas.proofs.Apart.{apart_append, one_by}
use Rattle.bb_lemmas.proofs.Numbered.{from_numbered}

-- the world with these bits
abbrev world_of : (Bit → Bool) → World
world_of bit path n k = bit (record { path = path; net = n; place = k })

pub any_there : (b : Bit) (bits : List Bit) → Contains bits b → list_any (same_bit b) bits ≡ true
any_there b [] has = absurd (none_in_nil b has)
any_there b (c ∷ bits) has = by (same_bit b c) refl (contains_cases c bits b has) (any_there b bits)
  where
    by : (t : Bool) → same_bit b c ≡ t → (c ≡ b) ⊎ Contains bits b → (Contains bits b → list_any (same_bit b) bits ≡ true) → (t || list_any (same_bit b) bits) ≡ true
    by true e at rest = refl
    by false e (inl same) rest = absurd (true≢false (sym (same_bit_self b) ∙ ap (same_bit b) (sym same) ∙ e))
    by false e (inr more) rest = rest more

pub any_from : (b : Bit) (bits : List Bit) → list_any (same_bit b) bits ≡ true → Contains bits b
any_from b [] e = absurd (true≢false (sym e))
any_from b (c ∷ bits) e = by (same_bit b c) refl e (any_from b bits)
  where
    by : (t : Bool) → same_bit b c ≡ t → (t || list_any (same_bit b) bits) ≡ true → (list_any (same_bit b) bits ≡ true → Contains bits b) → Contains (c ∷ bits) b
    by true on h rest = subst (Contains (c ∷ bits)) (sym (same_bit_is b c on)) (contains_here c bits)
    by false off h rest = contains_there c bits b (rest h)

-- what is stored is driven without source
pub stored_drives : (part : Scope × Construct) (r : RegisterBit) → Contains (stored_at part) r → Contains (drives_at part) (driven Free r.bit)
stored_drives (s, Assignment left right) r has = absurd (none_in_nil r has)
stored_drives (s, GateInstance gate outs ins) r has = absurd (none_in_nil r has)
stored_drives (s, Register a) r has =
    let make : ℕ × Bit → RegisterBit = λ y. record { scope = s; item = a; place = y.0; bit = y.1 } in
    let z = from_map make (enumerate_from 0 (written_bits s a.left)) r has in
    subst (λ b. Contains (map (driven Free) (written_bits s a.left)) (driven Free b)) (ap (λ (q : RegisterBit). q.bit) z.2) (contains-map (driven Free) (written_bits s a.left) z.0.1 (from_numbered 0 (written_bits s a.left) z.0 z.1))
stored_drives (s, SupplyNet high n) r has = absurd (none_in_nil r has)
stored_drives (s, InputConnection i pin e) r has = absurd (none_in_nil r has)
stored_drives (s, OutputConnection i pin e) r has = absurd (none_in_nil r has)
stored_drives (s, BoxContents) r has = absurd (none_in_nil r has)

-- the inputs of the top are driven first
pub tops_are_first : (d : Design) → driven_bits d ≡ top_inputs d ++ map (λ u. u.bit) (flat_map drives_at (parts d))
tops_are_first d = map-append (λ (u : Drive). u.bit) (map (driven Free) (top_inputs d)) (flat_map drives_at (parts d)) ∙ ap (λ l. l ++ map (λ (u : Drive). u.bit) (flat_map drives_at (parts d))) (back (top_inputs d))
  where
    back : (bits : List Bit) → map (λ (u : Drive). u.bit) (map (driven Free) bits) ≡ bits
    back [] = refl
    back (b ∷ bits) = ap (λ l. b ∷ l) (back bits)

module _ (d : Design) (contents : Contents) (x : Vector) where
  -- what a source gives, where the bits that it needs are known
  value_by : (Bit → Bool) → DrivingSource → Bit → Bool
  value_by bit Free b = if list_any (same_bit b) (top_inputs d) then x (TopInput (bit_text d b)) else x (State (bit_text d b))
  value_by bit (MadeOf path t) b = term_bit (world_of bit path) t
  value_by bit (Box s pin) b = output_bit (contents (path_text s.path)) (bits_in (world_of bit) (input_bits s)) pin

  value_same : (f g : Bit → Bool) (s : DrivingSource) (b : Bit) → ((c : Bit) → Contains (needed s) c → f c ≡ g c) → value_by f s b ≡ value_by g s b
  unfolding value_by
  value_same f g Free b same = refl
  value_same f g (MadeOf path t) b same = same_terms path (world_of f) (world_of g) t same
  value_same f g (Box s pin) b same = ap (λ ins. output_bit (contents (path_text s.path)) ins pin) (same_bits (world_of f) (world_of g) (input_bits s) same)

  value_at : (Bit → Bool) → Option Drive → Bit → Bool
  value_at bit None b = false
  value_at bit (Some y) b = value_by bit y.source b

  source_of : Bit → Option Drive
  source_of b = find (λ y. same_bit b y.bit) (drives d)

  -- by at most so many steps
  within : ℕ → Bit → Bool
  within zero b = false
  within (suc n) b = value_at (within n) (source_of b) b

  module _ (once : AreDrivenOnce d) (acyclic : IsAcyclic d) where
    falls : (y : Drive) → Contains (drives d) y → (c : Bit) → Contains (needed y.source) c → acyclic.0 c < acyclic.0 y.bit
    falls y has c need = All-contains (λ z. acyclic.0 z.1 < acyclic.0 z.0) (dependences d) (y.bit, c) acyclic.1
        (into_flat (λ u. map (λ e. (u.bit, e)) (needed u.source)) (drives d) y (y.bit, c) has (contains-map {B = Bit × Bit} (λ e. (y.bit, e)) (needed y.source) c need))

    -- more steps change nothing
    steady : (n m : ℕ) (b : Bit) → acyclic.0 b < n → acyclic.0 b < m → within n b ≡ within m b
    unfolding within value_at source_of
    steady zero m b p q = absurd (omega (arith, p))
    steady (suc n) zero b p q = absurd (omega (arith, q))
    steady (suc n) (suc m) b p q = by (find (λ y. same_bit b y.bit) (drives d)) refl (λ c lt. steady n m c (omega (arith, lt, p)) (omega (arith, lt, q)))
      where
        by : (o : Option Drive) → find (λ y. same_bit b y.bit) (drives d) ≡ o → ((c : Bit) → acyclic.0 c < acyclic.0 b → within n c ≡ within m c) → value_at (within n) o b ≡ value_at (within m) o b
        by None e rest = refl
        by (Some y) e rest =
            let f = from_find (λ u. same_bit b u.bit) (drives d) y e in
            let bit : b ≡ y.bit = same_bit_is b y.bit f.1 in
            value_same (within n) (within m) y.source b (λ c need. rest c (subst (λ z. acyclic.0 c < acyclic.0 z) (sym bit) (falls y f.0 c need)))

    final : Bit → Bool
    final b = within (suc (acyclic.0 b)) b

    -- the source of a driven bit is its one drive
    source_found : (y : Drive) → Contains (drives d) y → source_of y.bit ≡ Some y
    unfolding source_of
    source_found y has =
        let f = find_there (λ u. same_bit y.bit u.bit) (drives d) y has (same_bit_self y.bit) in
        f.1 ∙ ap Some (one_by (λ (u : Drive). u.bit) (drives d) once f.0 y f.3 has (sym (same_bit_is y.bit f.0.bit f.2)))

    -- a driven bit has the value of its source
    final_is : (y : Drive) → Contains (drives d) y → final y.bit ≡ value_by final y.source y.bit
    unfolding final within value_at
    final_is y has = ap (λ o. value_at (within (acyclic.0 y.bit)) o y.bit) (source_found y has)
        ∙ value_same (within (acyclic.0 y.bit)) final y.source y.bit (λ c need. steady (acyclic.0 y.bit) (suc (acyclic.0 c)) c (falls y has c need) (omega arith))

    given : (y : Drive) (s : DrivingSource) → final y.bit ≡ value_by final s y.bit → Gives contents (world_of final) s (final y.bit)
    unfolding value_by
    given y Free e = tt
    given y (MadeOf path t) e = e
    given y (Box s pin) e = e

    tops_first : driven_bits d ≡ top_inputs d ++ map (λ u. u.bit) (flat_map drives_at (parts d))
    tops_first = tops_are_first d

    world : (w : World) × IsDrivenWorld d contents w × HasVector d x w
    unfolding value_by
    world = (world_of final, all_from (IsGiven contents (world_of final)) (drives d) (λ y has. given y y.source (final_is y has)), record { inputs = all_from _ (top_inputs d) input; states = all_from _ (registers d) state })
      where
        input : (b : Bit) → Contains (top_inputs d) b → final b ≡ x (TopInput (bit_text d b))
        input b has = final_is (driven Free b) (Contains-append_left (map (driven Free) (top_inputs d)) (flat_map drives_at (parts d)) (driven Free b) (contains-map (driven Free) (top_inputs d) b has))
            ∙ ap (λ t. if t then x (TopInput (bit_text d b)) else x (State (bit_text d b))) (any_there b (top_inputs d) has)

        off : (b : Bit) → Contains (flat_map drives_at (parts d)) (driven Free b) → (t : Bool) → list_any (same_bit b) (top_inputs d) ≡ t → t ≡ false
        off b has false e = refl
        off b has true e = absurd (apart_append (top_inputs d) (map (λ (u : Drive). u.bit) (flat_map drives_at (parts d))) b (subst (AllPairs ◌≢◌) tops_first once) (any_from b (top_inputs d) e)
            (contains-map (λ (u : Drive). u.bit) (flat_map drives_at (parts d)) (driven Free b) has))

        state : (r : RegisterBit) → Contains (registers d) r → final r.bit ≡ x (State (bit_text d r.bit))
        state r has =
            let b = from_filter_map (λ b. find (λ q. same_bit b q.bit) (stored d)) (net_order d) r has in
            let there = from_find (λ q. same_bit b.0 q.bit) (stored d) r b.2 in
            let part = from_flat stored_at (parts d) r there.0 in
            let drive = into_flat drives_at (parts d) part.0 (driven Free r.bit) part.1 (stored_drives part.0 r part.2) in
            final_is (driven Free r.bit) (Contains-append_right (map (driven Free) (top_inputs d)) (flat_map drives_at (parts d)) (driven Free r.bit) drive)
            ∙ ap (λ t. if t then x (TopInput (bit_text d r.bit)) else x (State (bit_text d r.bit))) (off r.bit drive (list_any (same_bit r.bit) (top_inputs d)) refl)

pub vectors_have_worlds : VectorsHaveWorlds
vectors_have_worlds d contents x once acyclic = world d contents x once acyclic
