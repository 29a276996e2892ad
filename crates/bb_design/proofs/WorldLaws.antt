-- Two worlds of one vector have the same bits wherever a bit is read.
use Rattle.std.proofs.Common.{◌≡◌, ◌⊎◌, ℕ, zero, suc, ◌<◌, ◌==◌, Bool, true, false, not, ◌&&◌, ◌||◌, if◌then◌else◌, List, [], ◌∷◌, ◌++◌, map, flat_map, find, Contains, refl, sym, ap, ap₂, ◌∙◌, subst, inl, inr, arith}
use Rattle.std.specs.List.{enumerate_from}
use Rattle.std.proofs.lemmas.List.Elements.{All-contains, Contains-append_cases, Contains-append_left, Contains-append_right}
use Rattle.bb_lemmas.proofs.Bits.{and_both}
use lib.Pointwise.{pointwise, pointwise_decides, bytes_decides}
use Rattle.bb_bits.specs.Names.{same_name}
use Rattle.bb_bits.specs.Contents.{Contents, output_bit}
use Rattle.bb_expr.specs.Terms.{Term, Const, Net, Not, And, Or, Xor, Mux, term_bit}
use Rattle.bb_design.specs.Hierarchy.{Path, Design, Scope, path_to}
use Rattle.bb_design.specs.NetBits.{Bit, same_bit, net_order, input_bits, top_inputs, written_bits}
use Rattle.bb_design.specs.Constructs.{Construct, Assignment, GateInstance, Register, SupplyNet, InputConnection, OutputConnection, BoxContents, parts}
use Rattle.bb_design.specs.Registers.{RegisterBit, stored_at, stored, registers}
use Rattle.bb_design.specs.Drivers.{DrivingSource, Free, MadeOf, Box, Drive, driven, drives_at, drives, driven_bits}
use Rattle.bb_design.specs.Dependence.{bits_below, needed, dependences}
use Rattle.bb_design.specs.Reading.{IsReadBit}
use Rattle.bb_design.specs.Texts.{path_text, bit_text}
use Rattle.bb_design.specs.Worlds.{World, Vector, HasVector, bit_in, bits_in}
use Rattle.bb_net.specs.CutPoints.{TopInput, State}
use Rattle.bb_design.specs.Refusals.{AreDriven, IsAcyclic}
use Rattle.bb_design.specs.Laws.{BitsAreThere, ReadNeedsRead}
use Rattle.bb_design.specs.Laws.DrivenWorlds.{Gives, IsGiven, IsDrivenWorld, WorldsAgreeWhereRead}
use Rattle.bb_lemmas.proofs.Members.{from_flat, from_map, contains-map, into_flat, contains_here, contains_there, find_there, into_filter}
use Rattle.bb_lemmas.proofs.Numbered.{numbered_there}

-- the test on bits is equality
pub same_bit_is : (b c : Bit) → same_bit b c ≡ true → b ≡ c
same_bit_is b c e =
    let outer = and_both (pointwise same_name b.path c.path && same_name b.net c.net) (b.place == c.place) e in
    let inner = and_both (pointwise same_name b.path c.path) (same_name b.net c.net) outer.0 in
    let path : b.path ≡ c.path = (pointwise_decides {E = same_name} bytes_decides b.path c.path).0 inner.0 in
    let net : b.net ≡ c.net = (bytes_decides b.net c.net).0 inner.1 in
    let place : b.place ≡ c.place = grind (arith, outer.1) in
    λ k. record { path = path k; net = net k; place = place k }

pub same_bit_self : (b : Bit) → same_bit b b ≡ true
same_bit_self b =
    let path = (pointwise_decides {E = same_name} bytes_decides b.path b.path).1 refl in
    let net = (bytes_decides b.net b.net).1 refl in
    let place : (b.place == b.place) ≡ true = grind arith in
    grind (arith, path, net, place)

-- a drive without source

is_free : DrivingSource → Bool
is_free Free = true
is_free (MadeOf path t) = false
is_free (Box s pin) = false

not_free : (source : DrivingSource) (x : Drive) (b : Bit) → is_free source ≡ false → driven source b ≡ x → x.source ≡ Free → ⊥
unfolding is_free
not_free source x b off e free = grind (arith, sym off ∙ ap (λ (y : Drive). is_free y.source) e ∙ ap is_free free)

pub free_stored : (part : Scope × Construct) (x : Drive) → Contains (drives_at part) x → x.source ≡ Free → (r : RegisterBit) × Contains (stored_at part) r × (r.bit ≡ x.bit)
unfolding is_free
free_stored (s, Assignment left right) x has free = let z = from_map (λ y. driven (MadeOf s.path y.1) y.0) _ x has in absurd (not_free (MadeOf s.path z.0.1) x z.0.0 refl z.2 free)
free_stored (s, GateInstance gate outs ins) x has free = let z = from_map (driven _) (flat_map (written_bits s) outs) x has in absurd (not_free _ x z.0 refl z.2 free)
free_stored (s, Register r) x has free =
    let z = from_map (driven Free) (written_bits s r.left) x has in
    let k = numbered_there 0 (written_bits s r.left) z.0 z.1 in
    let make : ℕ × Bit → RegisterBit = λ y. record { scope = s; item = r; place = y.0; bit = y.1 } in
    (make (k.0, z.0), contains-map make (enumerate_from 0 (written_bits s r.left)) (k.0, z.0) k.1, ap (λ (y : Drive). y.bit) z.2)
free_stored (s, SupplyNet high n) x has free = let z = from_map (driven (MadeOf s.path (Const high))) _ x has in absurd (not_free (MadeOf s.path (Const high)) x z.0 refl z.2 free)
free_stored (s, InputConnection i pin e) x has free = let z = from_map (λ y. driven (MadeOf s.path y.1) y.0) _ x has in absurd (not_free (MadeOf s.path z.0.1) x z.0.0 refl z.2 free)
free_stored (s, OutputConnection i pin e) x has free = let z = from_map (λ y. driven (MadeOf (path_to s.path i) y.1) y.0) _ x has in absurd (not_free (MadeOf (path_to s.path i) z.0.1) x z.0.0 refl z.2 free)
free_stored (s, BoxContents) x has free = let z = from_map (λ y. driven (Box s y.0) y.1) _ x has in absurd (not_free (Box s z.0.0) x z.0.1 refl z.2 free)

-- a stored bit of the design is a register
pub stored_register : (d : Design) (r : RegisterBit) → Contains (stored d) r → Contains (net_order d) r.bit → (q : RegisterBit) × Contains (registers d) q × (q.bit ≡ r.bit)
stored_register d r has there =
    let f = find_there (λ q. same_bit r.bit q.bit) (stored d) r has (same_bit_self r.bit) in
    (f.0, into_filter (λ b. find (λ q. same_bit b q.bit) (stored d)) (net_order d) r.bit f.0 there f.1, sym (same_bit_is r.bit f.0.bit f.2))

-- it has the bit of the vector
free_bit : (d : Design) (x : Vector) (w v : World) → BitsAreThere d → HasVector d x w → HasVector d x v → (y : Drive) → Contains (drives d) y → y.source ≡ Free → bit_in w y.bit ≡ bit_in v y.bit
free_bit d x w v there one two y has free = by (Contains-append_cases (map (driven Free) (top_inputs d)) (flat_map drives_at (parts d)) y has)
  where
    top : Contains (map (driven Free) (top_inputs d)) y → bit_in w y.bit ≡ bit_in v y.bit
    top here =
        let z = from_map (driven Free) (top_inputs d) y here in
        let same : bit_in w z.0 ≡ bit_in v z.0 = All-contains (λ b. bit_in w b ≡ x (TopInput (bit_text d b))) (top_inputs d) z.0 one.inputs z.1 ∙ sym (All-contains (λ b. bit_in v b ≡ x (TopInput (bit_text d b))) (top_inputs d) z.0 two.inputs z.1) in
        subst (λ b. bit_in w b ≡ bit_in v b) (ap (λ (u : Drive). u.bit) z.2) same

    state : (part : Scope × Construct) → Contains (parts d) part → Contains (drives_at part) y → bit_in w y.bit ≡ bit_in v y.bit
    state part in_parts here =
        let r = free_stored part y here free in
        let inside : Contains (net_order d) r.0.bit = subst (Contains (net_order d)) (sym r.2) (All-contains (Contains (net_order d)) (driven_bits d) y.bit there.driven (contains-map (λ u. u.bit) (drives d) y has)) in
        let q = stored_register d r.0 (into_flat stored_at (parts d) part r.0 in_parts r.1) inside in
        let same : bit_in w q.0.bit ≡ bit_in v q.0.bit = All-contains (λ u. bit_in w u.bit ≡ x (State (bit_text d u.bit))) (registers d) q.0 one.states q.1 ∙ sym (All-contains (λ u. bit_in v u.bit ≡ x (State (bit_text d u.bit))) (registers d) q.0 two.states q.1) in
        subst (λ b. bit_in w b ≡ bit_in v b) (q.2 ∙ r.2) same

    by : Contains (map (driven Free) (top_inputs d)) y ⊎ Contains (flat_map drives_at (parts d)) y → bit_in w y.bit ≡ bit_in v y.bit
    by (inl here) = top here
    by (inr more) = let p = from_flat drives_at (parts d) y more in state p.0 p.1 p.2

-- terms of the same bits have the same bit
pub same_terms : (path : Path) (w v : World) (t : Term) → ((c : Bit) → Contains (bits_below path t) c → bit_in w c ≡ bit_in v c) → term_bit (w path) t ≡ term_bit (v path) t
same_terms path w v (Const b) same = refl
same_terms path w v (Net n i) same = same (record { path = path; net = n; place = i }) (contains_here _ [])
same_terms path w v (Not a) same = ap not (same_terms path w v a same)
same_terms path w v (And a b) same = ap₂ ◌&&◌ (same_terms path w v a (λ c has. same c (Contains-append_left (bits_below path a) (bits_below path b) c has))) (same_terms path w v b (λ c has. same c (Contains-append_right (bits_below path a) (bits_below path b) c has)))
same_terms path w v (Or a b) same = ap₂ ◌||◌ (same_terms path w v a (λ c has. same c (Contains-append_left (bits_below path a) (bits_below path b) c has))) (same_terms path w v b (λ c has. same c (Contains-append_right (bits_below path a) (bits_below path b) c has)))
same_terms path w v (Xor a b) same = ap₂ (λ x y. if x then not y else y) (same_terms path w v a (λ c has. same c (Contains-append_left (bits_below path a) (bits_below path b) c has))) (same_terms path w v b (λ c has. same c (Contains-append_right (bits_below path a) (bits_below path b) c has)))
same_terms path w v (Mux i t e) same =
    let two = bits_below path i ++ bits_below path t in
    let first = same_terms path w v i (λ c has. same c (Contains-append_left two (bits_below path e) c (Contains-append_left (bits_below path i) (bits_below path t) c has))) in
    let second = same_terms path w v t (λ c has. same c (Contains-append_left two (bits_below path e) c (Contains-append_right (bits_below path i) (bits_below path t) c has))) in
    let third = same_terms path w v e (λ c has. same c (Contains-append_right two (bits_below path e) c has)) in
    λ k. if first k then second k else third k

pub same_bits : (w v : World) (bits : List Bit) → ((c : Bit) → Contains bits c → bit_in w c ≡ bit_in v c) → bits_in w bits ≡ bits_in v bits
same_bits w v [] same = refl
same_bits w v (b ∷ bits) same = ap₂ ◌∷◌ (same b (contains_here b bits)) (same_bits w v bits (λ c has. same c (contains_there b bits c has)))

module _ (read_law : ReadNeedsRead) (d : Design) (contents : Contents) (x : Vector) (w v : World) (there : BitsAreThere d) (driven_all : AreDriven d) (acyclic : IsAcyclic d)
    (first : IsDrivenWorld d contents w) (second : IsDrivenWorld d contents v) (one : HasVector d x w) (two : HasVector d x v) where
  -- a source gives the same bit where what it needs has the same bits
  same_source : (y : Drive) → Contains (drives d) y → (s : DrivingSource) → y.source ≡ s → Gives contents w s (bit_in w y.bit) → Gives contents v s (bit_in v y.bit) → ((c : Bit) → Contains (needed s) c → bit_in w c ≡ bit_in v c) → bit_in w y.bit ≡ bit_in v y.bit
  same_source y has Free e a b same = free_bit d x w v there one two y has e
  same_source y has (MadeOf path t) e a b same = a ∙ same_terms path w v t same ∙ sym b
  same_source y has (Box s pin) e a b same = a ∙ ap (λ ins. output_bit (contents (path_text s.path)) ins pin) (same_bits w v (input_bits s) same) ∙ sym b

  agree : (n : ℕ) (b : Bit) → acyclic.0 b < n → IsReadBit d b → bit_in w b ≡ bit_in v b
  agree zero b lt read = absurd (omega (arith, lt))
  agree (suc n) b lt read =
      let y = from_map (λ u. u.bit) (drives d) b (driven_all b read) in
      let below : (c : Bit) → Contains (needed y.0.source) c → bit_in w c ≡ bit_in v c = λ c need.
      let step : Contains (dependences d) (b, c) = subst (λ z. Contains (dependences d) (z, c)) y.2 (into_flat (λ u. map (λ e. (u.bit, e)) (needed u.source)) (drives d) y.0 (y.0.bit, c) y.1 (contains-map {B = Bit × Bit} (λ e. (y.0.bit, e)) (needed y.0.source) c need)) in
      let falls = All-contains (λ z. acyclic.0 z.1 < acyclic.0 z.0) (dependences d) (b, c) acyclic.1 step in
      agree n c (omega (arith, falls, lt)) (read_law d b c read step) in
      subst (λ z. bit_in w z ≡ bit_in v z) y.2 (same_source y.0 y.1 y.0.source refl (All-contains (IsGiven contents w) (drives d) y.0 first y.1) (All-contains (IsGiven contents v) (drives d) y.0 second y.1) below)

pub worlds_agree_where_read : ReadNeedsRead → WorldsAgreeWhereRead
worlds_agree_where_read law d contents x w v there driven_all acyclic first second one two b read = agree law d contents x w v there driven_all acyclic first second one two (suc (acyclic.0 b)) b (omega arith) read
