-- In a text without faults the constructs of a module are legal.
use Rattle.std.proofs.Common.{◌≡◌, ◌≢◌, ◌⊎◌, ℕ, ◌==◌, Bool, true, false, not, ◌&&◌, if◌then◌else◌, List, [], ◌∷◌, ◌++◌, map, take, drop, length, flat_map, All, Contains, Option, Some, None, refl, sym, ap, ◌∙◌, subst, inl, inr, arith, true≢false}
use Rattle.std.specs.List.{enumerate_from}
use Rattle.std.specs.Option.{option_and_then}
use Rattle.std.proofs.lemmas.List.Elements.{Contains-append_left, Contains-append_right}
use Rattle.bb_lemmas.proofs.Bits.{not_false}
use Rattle.bb_ast.specs.Assignable.{is_assignable}
use Rattle.bb_ast.specs.declared.module.Gate.{Gate}
use Rattle.bb_ast.specs.Gates.{gate_bytes, output_count}
use Rattle.bb_ast.specs.Names.{names_in}
use Rattle.bb_ast.specs.Syntax.{Expression, Net, PlainConns, Order, Named, PlainBody, Ports, Nets, Regs, Supply, Assign, Gates, Calls, Always, PlainItem, PlainModule}
use Rattle.bb_bits.specs.Contents.{Contents}
use Rattle.bb_names.specs.declared.fault.NameFault.{NameFault}
use Rattle.bb_names.specs.declared.fault.NameFault.TheVariants as name_faults
use Rattle.bb_names.specs.Declarations.{Declaration, declared_by_head, declared_by, instance_declaration}
use Rattle.bb_names.specs.Faults.{reported_if, is_input, Rows, wrong_width, wrong_role, width_in, kinds, statement_faults, module_faults, IsSound}
use Rattle.bb_names.specs.Sites.{Read, Driven, Stored, Pin, Site, Declared, Placed, Target, Joined, PortName, Terminal, Clock, gate_sites, header_sites, item_sites, conns_sites, joined_sites, sites_in, use_at, module_named, pin_named, pin_at, place_count}
use Rattle.bb_design.specs.Hierarchy.{Scope, is_box}
use Rattle.bb_design.specs.Contexts.{width_of}
use Rattle.bb_design.specs.Constructs.{Construct, Assignment, Register, SupplyNet, InputConnection, OutputConnection, BoxContents, initial_construct, gate_construct, connection, connections, body_constructs}
use Rattle.bb_design.specs.Laws.DrivenWorlds.{MayBeDriven, IsLegal, SoundConstructsAreLegal}
use Rattle.bb_lemmas.proofs.Members.{from_flat, from_map, all_from, into_flat, contains_here, contains_there, contains_cases, none_in_nil, flat_nil, map_nil, right_nil}
use Rattle.bb_design.specs.Laws.SoundSites.{IsSoundSite}
use Rattle.bb_lemmas.proofs.Earlier.{each_nil, into_each}

-- lists of nothing

pub not_reported : (b : Bool) (n : List ℕ) → reported_if b n ≡ [] → b ≡ false
not_reported true n e = grind (arith, e)
not_reported false n e = refl

-- no site of an item of a sound text is at fault
pub site_sound : (text : List PlainModule) → IsSound text → (m : PlainModule) → Contains text m → (item : PlainItem) → Contains m.items item → (earlier : List Declaration)
    × ((site : Site) → Contains (item_sites text earlier item.body) site → (kind : (ℕ → List ℕ → NameFault) × Rows) → Contains kinds kind → kind.1 text m site ≡ [])
site_sound text sound m has item there =
    let in_module = each_nil (module_faults text) [] text sound m has in
    let in_items = right_nil (statement_faults text m m.line (header_sites in_module.0 m)) _ in_module.1 in
    let in_item = each_nil (λ before x. statement_faults text m x.line (item_sites text (flat_map declared_by_head m.heads ++ flat_map (λ y. declared_by y.body) before) x.body)) [] m.items in_items item there in
    let earlier = flat_map declared_by_head m.heads ++ flat_map (λ y. declared_by y.body) in_item.0 in (
      earlier,
      λ site at kind k. flat_nil (kind.1 text m) (item_sites text earlier item.body)
          (map_nil (kind.0 item.line) (flat_map (kind.1 text m) (item_sites text earlier item.body))
          (flat_nil (λ (x : (ℕ → List ℕ → NameFault) × Rows). map (x.0 item.line) (flat_map (x.1 text m) (item_sites text earlier item.body))) kinds in_item.1 kind k)) site at,
    )

-- what is joined to a port is as wide as it, and may be assigned where the port is an output
abbrev Fits : Scope → Pin → Expression → Type 0
Fits s pin e = (width_of s e ≡ pin.width) × ((not (is_input pin.dir) && not (is_assignable e)) ≡ false)

joined_fits : (text : List PlainModule) (s : Scope) (pin : Pin) (e : Expression) → IsSoundSite text s (Joined pin e) → Fits s pin e
joined_fits text s pin e sound =
    let width = not_false (width_in s.source e == pin.width) (not_reported (not (width_in s.source e == pin.width)) pin.name (sound (name_faults.Width, wrong_width) (3, omega arith, refl))) in
    (grind (arith, width), not_reported (not (is_input pin.dir) && not (is_assignable e)) pin.name (sound (name_faults.Role, wrong_role) (4, omega arith, refl)))

-- a terminal has one bit, and may be assigned where it is an output
abbrev IsTerminal : Scope → Bool → Expression → Type 0
IsTerminal s output e = (width_of s e ≡ 1) × ((output && not (is_assignable e)) ≡ false)

terminal_right : (text : List PlainModule) (s : Scope) (gate : Gate) (output : Bool) (e : Expression) → IsSoundSite text s (Terminal gate output e) → IsTerminal s output e
terminal_right text s gate output e sound =
    let width = not_false (width_in s.source e == 1) (not_reported (not (width_in s.source e == 1)) (gate_bytes gate) (sound (name_faults.Width, wrong_width) (3, omega arith, refl))) in
    (grind (arith, width), not_reported (output && not (is_assignable e)) (gate_bytes gate) (sound (name_faults.Role, wrong_role) (4, omega arith, refl)))

pub clock_right : (text : List PlainModule) (s : Scope) (e : Expression) → IsSoundSite text s (Clock e) → names_in e ≢ [] → width_of s e ≡ 1
clock_right text s e sound named = let one = by (width_in s.source e == 1) (sound (name_faults.Width, wrong_width) (3, omega arith, refl)) in grind (arith, one)
  where
    by : (b : Bool) → (if b then [] else names_in e) ≡ [] → b ≡ true
    by true reported = refl
    by false reported = absurd (named reported)

module _ (contents : Contents) (s : Scope) where
  one_connection : (i : List ℕ) (pin : Option Pin) (e : Option Expression) → ((p : Pin) (x : Expression) → pin ≡ Some p → e ≡ Some x → Fits s p x) → (c : Construct) → Contains (connection i pin e) c → IsLegal contents s c
  one_connection i None e fits c has = absurd (none_in_nil c has)
  one_connection i (Some pin) None fits c has = absurd (none_in_nil c has)
  one_connection i (Some pin) (Some e) fits c has = by (contains_cases (if is_input pin.dir then InputConnection i pin e else OutputConnection i pin e) [] c has)
    where
      side : (b : Bool) → is_input pin.dir ≡ b → (width_of s e ≡ pin.width) × ((not (is_input pin.dir) && not (is_assignable e)) ≡ false) → IsLegal contents s (if b then InputConnection i pin e else OutputConnection i pin e)
      side true at f = f.0
      side false at f = record { assignable = not_false (is_assignable e) (ap (λ b. not b && not (is_assignable e)) (sym at) ∙ f.1); width = f.0 }

      by : ((if is_input pin.dir then InputConnection i pin e else OutputConnection i pin e) ≡ c) ⊎ Contains [] c → IsLegal contents s c
      by (inl same) = subst (IsLegal contents s) same (side (is_input pin.dir) refl (fits pin e refl refl))
      by (inr none) = absurd (none_in_nil c none)

  -- where each joined site fits, so does each connection
  joined_there : (pin : Option Pin) (e : Option Expression) (p : Pin) (x : Expression) → pin ≡ Some p → e ≡ Some x → Contains (joined_sites pin e) (Joined p x)
  joined_there None e p x a b = absurd (grind (arith, a))
  joined_there (Some q) None p x a b = absurd (grind (arith, b))
  joined_there (Some q) (Some y) p x a b =
      let pin : q ≡ p = grind (arith, a) in
      let e : y ≡ x = grind (arith, b) in
      subst (λ z. Contains (joined_sites (Some z) (Some y)) (Joined p x)) (sym pin) (subst (λ z. Contains (joined_sites (Some p) (Some z)) (Joined p x)) (sym e) (contains_here (Joined p x) (sites_in (use_at p.dir) x)))

  conns_fit : (target : Option PlainModule) (x : List ℕ × PlainConns) → ((p : Pin) (e : Expression) → Contains (conns_sites target x.1) (Joined p e) → Fits s p e) → (c : Construct) → Contains (connections target x) c → IsLegal contents s c
  conns_fit target (i, Order places) fits c has =
      let y = from_flat (λ y. connection i (option_and_then (λ m. pin_at m y.0) target) y.1) (enumerate_from 0 places) c has in
      one_connection i (option_and_then (λ m. pin_at m y.0.0) target) y.0.1 (λ p e a b. fits p e
      (into_flat (λ y. joined_sites (option_and_then (λ m. pin_at m y.0) target) y.1) (enumerate_from 0 places) y.0 (Joined p e) y.1 (joined_there (option_and_then (λ m. pin_at m y.0.0) target) y.0.1 p e a b))) c y.2
  conns_fit target (i, Named all) fits c has =
      let y = from_flat (λ y. connection i (option_and_then (λ m. pin_named m y.0) target) y.1) all c has in
      one_connection i (option_and_then (λ m. pin_named m y.0.0) target) y.0.1 (λ p e a b. fits p e
      (into_each (λ before y. PortName target (map (λ z. z.0) before) y.0 ∷ joined_sites (option_and_then (λ m. pin_named m y.0) target) y.1) [] all y.0 (Joined p e) y.1
      (λ earlier. contains_there _ (joined_sites (option_and_then (λ m. pin_named m y.0.0) target) y.0.1) (Joined p e) (joined_there (option_and_then (λ m. pin_named m y.0.0) target) y.0.1 p e a b)))) c y.2

  initial_fits : (x : List ℕ × Option Expression) (c : Construct) → Contains (initial_construct x) c → IsLegal contents s c
  initial_fits (n, None) c has = absurd (none_in_nil c has)
  initial_fits (n, Some e) c has = by (contains_cases _ [] c has)
    where
      by : (Assignment (Net n) e ≡ c) ⊎ Contains [] c → IsLegal contents s c
      by (inl same) = subst (IsLegal contents s) same tt
      by (inr none) = absurd (none_in_nil c none)

  gate_legal : (gate : Gate) (terms : List Expression) → ((output : Bool) (e : Expression) → Contains (gate_sites gate terms) (Terminal gate output e) → IsTerminal s output e) → IsLegal contents s (gate_construct gate terms)
  gate_legal gate terms right =
      let n = output_count gate (length terms) in
      let outs = flat_map (λ e. Terminal gate true e ∷ sites_in Driven e) (take n terms) in
      let ins = flat_map (λ e. Terminal gate false e ∷ sites_in Read e) (drop n terms) in (
        all_from (MayBeDriven s 1) (take n terms) (λ e has. written e (right true e (Contains-append_left outs ins (Terminal gate true e)
            (into_flat (λ e. Terminal gate true e ∷ sites_in Driven e) (take n terms) e (Terminal gate true e) has (contains_here (Terminal gate true e) (sites_in Driven e)))))),
        all_from (λ e. width_of s e ≡ 1) (drop n terms) (λ e has. (right false e (Contains-append_right outs ins (Terminal gate false e)
            (into_flat (λ e. Terminal gate false e ∷ sites_in Read e) (drop n terms) e (Terminal gate false e) has (contains_here (Terminal gate false e) (sites_in Read e))))).0),
      )
    where
      written : (e : Expression) → IsTerminal s true e → MayBeDriven s 1 e
      written e h = record { assignable = not_false (is_assignable e) h.1; width = h.0 }

  pub body_legal : (text : List PlainModule) (earlier : List Declaration) (body : PlainBody) → ((site : Site) → Contains (item_sites text earlier body) site → IsSoundSite text s site)
      → (c : Construct) → Contains (body_constructs text body) c → IsLegal contents s c
  body_legal text earlier (Ports port names) sound c has = absurd (none_in_nil c has)
  body_legal text earlier (Nets range nets) sound c has = let y = from_flat initial_construct nets c has in initial_fits y.0 c y.2
  body_legal text earlier (Regs range names) sound c has = absurd (none_in_nil c has)
  body_legal text earlier (Supply high range names) sound c has = let y = from_map (SupplyNet high) names c has in subst (IsLegal contents s) y.2 tt
  body_legal text earlier (Assign all) sound c has = let y = from_map (λ x. Assignment x.0 x.1) all c has in subst (IsLegal contents s) y.2 tt
  body_legal text earlier (Gates gate all) sound c has =
      let y = from_map (λ x. gate_construct gate x.1) all c has in
      subst (IsLegal contents s) y.2 (gate_legal gate y.0.1 (λ output e at. terminal_right text s gate output e (sound (Terminal gate output e)
      (into_flat (λ x. gate_sites gate x.1) all y.0 (Terminal gate output e) y.1 at))))
  body_legal text earlier (Calls target calls) sound c has =
      let y = from_flat (connections (module_named text target)) calls c has in
      conns_fit (module_named text target) y.0 (λ p e at. joined_fits text s p e (sound (Joined p e) (contains_there (Target target) _ (Joined p e)
      (into_each (λ before x. Declared (earlier ++ map (λ z. instance_declaration z.0) before) (instance_declaration x.0) ∷ Placed (module_named text target) x.0 (place_count x.1) ∷ conns_sites (module_named text target) x.1) [] calls y.0 (Joined p e) y.1
      (λ before. contains_there _ (Placed (module_named text target) y.0.0 (place_count y.0.1) ∷ conns_sites (module_named text target) y.0.1) (Joined p e) (contains_there _ (conns_sites (module_named text target) y.0.1) (Joined p e) at)))))) c y.2
  body_legal text earlier (Always r) sound c has = by (contains_cases (Register r) [] c has)
    where
      by : (Register r ≡ c) ⊎ Contains [] c → IsLegal contents s c
      by (inl same) = subst (IsLegal contents s) same (clock_right text s r.clock (sound (Clock r.clock) (contains_here (Clock r.clock) (sites_in Read r.clock ++ sites_in Stored r.left ++ sites_in Read r.right))))
      by (inr none) = absurd (none_in_nil c none)

pub sound_constructs_are_legal : SoundConstructsAreLegal
sound_constructs_are_legal text contents s sound there no_box = subst (All (IsLegal contents s)) (sym (chosen (is_box s) no_box)) (all_from (IsLegal contents s) (flat_map (λ item. body_constructs text item.body) s.source.items) (λ c has.
    let item = from_flat (λ item. body_constructs text item.body) s.source.items c has in
    let sites = site_sound text sound s.source there item.0 item.1 in
    body_legal contents s text sites.0 item.0.body sites.1 c item.2))
  where
    chosen : (b : Bool) → b ≡ false → (if b then BoxContents ∷ [] else flat_map (λ item. body_constructs text item.body) s.source.items) ≡ flat_map (λ item. body_constructs text item.body) s.source.items
    chosen true e = absurd (true≢false e)
    chosen false e = refl
