-- In a text without faults the driven and the read bits of a design that is not too deep are bits of it.
use Rattle.std.proofs.Common.{◌≡◌, ◌⊎◌, ℕ, Bool, true, false, if◌then◌else◌, List, [], ◌∷◌, ◌++◌, map, flat_map, take, drop, length, Contains, Option, Some, None, refl, sym, ap, subst, inl, inr, arith}
use Rattle.std.specs.Prelude.{option_map}
use Rattle.std.specs.List.{enumerate_from, find}
use Rattle.std.specs.Option.{option_and_then}
use Rattle.std.proofs.lemmas.List.Elements.{Contains-append_left, Contains-append_right, Contains-append_cases}
use lib.Pointwise.{bytes_decides}
use Rattle.bb_bits.specs.Names.{same_name}
use Rattle.bb_ast.specs.declared.module.Gate.{Gate}
use Rattle.bb_ast.specs.Gates.{output_count}
use Rattle.bb_ast.specs.Syntax.{Expression, Net, PlainConns, Order, Named, PlainBody, Ports, Nets, Regs, Supply, Assign, Gates, Calls, Always, PlainItem, PlainModule}
use Rattle.bb_names.specs.declared.net.NetKind.TheVariants.{Wire}
use Rattle.bb_names.specs.Declarations.{Declaration, declarations, declared_by, declared_by_head, net_declaration, supply_kind, instance_declaration, range_of, direction_of, port_direction}
use Rattle.bb_names.specs.Faults.{is_input, IsSound}
use Rattle.bb_names.specs.Ranges.{range_width}
use Rattle.bb_names.specs.Sites.{Use, Read, Driven, Stored, Pin, Site, Declared, Placed, Target, Joined, PortName, Terminal, Clock, Whole, Used, gate_sites, initial_sites, item_sites, conns_sites, joined_sites, sites_in, use_at, module_named, pin_named, pin_at, place_count}
use Rattle.bb_bits.specs.Earlier.{each_from}
use Rattle.bb_bits.specs.Closures.{Leads, One, More}
use Rattle.bb_design.specs.Hierarchy.{Instance, instance_of, instances_in, instances_of, Design, Scope, root, path_to, is_box, scopes}
use Rattle.bb_design.specs.NetBits.{Bit, scope_bits, pin_bits, net_order, top_inputs, top_outputs}
use Rattle.bb_design.specs.Constructs.{Construct, Assignment, Register, SupplyNet, InputConnection, OutputConnection, BoxContents, initial_construct, gate_construct, connection, connections, body_constructs, constructs_at, parts}
use Rattle.bb_design.specs.Drivers.{Free, Drive, driven, drives_at, drives}
use Rattle.bb_design.specs.Reading.{read_at, copied, copied_bits, IsReadBit}
use Rattle.bb_design.specs.Refusals.{IsShallow, design_on}
use Rattle.bb_design.specs.Laws.{BitsAreThere, SoundBitsAreThere}
use Rattle.bb_lemmas.proofs.Members.{from_flat, from_map, all_from, contains-map, into_flat, mapped_there, contains_here, contains_there, contains_cases, none_in_nil, from_find, into_filter}
use Rattle.bb_design.proofs.KnownNets.{header_net, declared_net, bits_there, filtered_there}
use Rattle.bb_design.proofs.PartBits.{IsUsedWell, HasNets, IsThere, PartThere, part_there}
use Rattle.bb_design.proofs.ScopeLaws.{both_there}
use Rattle.bb_design.proofs.SoundConstructs.{site_sound}
use Rattle.bb_lemmas.proofs.Earlier.{into_each}
use Rattle.bb_design.specs.Laws.SoundSites.{IsSoundSite}
use Rattle.bb_design.proofs.SoundSites.{has_used, child_there, source_there}
use Rattle.bb_design.proofs.TermNets.{HasUsed}

-- the pin is a port of a module
abbrev IsPinOf : PlainModule → Pin → Type 0
IsPinOf m p = (n : List ℕ) × (pin_named m n ≡ Some p)

pin_at_port : (m : PlainModule) (k : ℕ) (p : Pin) → pin_at m k ≡ Some p → IsPinOf m p
pin_at_port m k p e = let head = both_there _ (λ head. pin_named m head.name) p e in (head.0.name, head.2)

-- the bits of a port are bits of the scope of its module
pin_there : (c : Scope) (p : Pin) → IsPinOf c.source p → (b : Bit) → Contains (pin_bits c.path p) b → Contains (scope_bits c) b
pin_there c p is b has =
    let dir = mapped_there (λ dir. record { name = is.0; dir = dir; width = range_width (range_of c.source is.0) }) (port_direction c.source is.0) p is.1 in
    let head = both_there (find (λ head. same_name head.name is.0) c.source.heads) (λ head. direction_of c.source is.0) dir.0 dir.1 in
    let found = from_find (λ head. same_name head.name is.0) c.source.heads head.0 head.1 in
    let name : head.0.name ≡ is.0 = (bytes_decides head.0.name is.0).0 found.1 in
    let net = header_net c.source is.0 (subst (Contains (map (λ head. head.name) c.source.heads)) name (contains-map (λ head. head.name) c.source.heads head.0 found.0)) in
    bits_there c is.0 0 (range_width (range_of c.source is.0)) net (omega arith) b (subst (λ q. Contains (pin_bits c.path q) b) (sym dir.2) has)

module _ (d : Design) (s : Scope) where
  abbrev IsBit : Bit → Type 0
  IsBit b = Contains (net_order d) b

  abbrev AreSound : List Site → Type 0
  AreSound sites = (z : Site) → Contains sites z → IsSoundSite d.text s z

  used_well : (how : Use) (e : Expression) → AreSound (sites_in how e) → IsUsedWell s e
  used_well how e sound = (how, λ z has. has_used d.text s z (sound z has))

  net_used_well : (n : List ℕ) → IsSoundSite d.text s (Used Driven n None) → IsUsedWell s (Net n)
  net_used_well n sound = (Driven, λ z has. whole z (contains_cases (Whole (Net n)) (Used Driven n None ∷ []) z has))
    where
      only : (z : Site) → (Used Driven n None ≡ z) ⊎ Contains [] z → HasUsed s z
      only z (inl e) = subst (HasUsed s) e (has_used d.text s (Used Driven n None) sound)
      only z (inr none) = absurd (none_in_nil z none)

      whole : (z : Site) → (Whole (Net n) ≡ z) ⊎ Contains (Used Driven n None ∷ []) z → HasUsed s z
      whole z (inl e) = subst (HasUsed s) e tt
      whole z (inr more) = only z (contains_cases (Used Driven n None) [] z more)

  -- the bits of pins of an instance are there
  abbrev HasPins : List ℕ → Option PlainModule → Type 0
  HasPins i target = (m : PlainModule) (p : Pin) → target ≡ Some m → IsPinOf m p → (b : Bit) → Contains (pin_bits (path_to s.path i) p) b → IsBit b

  initial_nets : (x : List ℕ × Option Expression) → AreSound (initial_sites x) → (c : Construct) → Contains (initial_construct x) c → HasNets IsBit s c
  initial_nets (n, None) sound c has = absurd (none_in_nil c has)
  initial_nets (n, Some e) sound c has = by (contains_cases (Assignment (Net n) e) [] c has)
    where
      by : (Assignment (Net n) e ≡ c) ⊎ Contains [] c → HasNets IsBit s c
      by (inl same) = subst (HasNets IsBit s) same (net_used_well n (sound (Used Driven n None) (contains_here (Used Driven n None) (sites_in Read e))), used_well Read e (λ z h. sound z (contains_there (Used Driven n None) (sites_in Read e) z h)))
      by (inr none) = absurd (none_in_nil c none)

  gate_nets : (gate : Gate) (terms : List Expression) → AreSound (gate_sites gate terms) → HasNets IsBit s (gate_construct gate terms)
  gate_nets gate terms sound =
      let n = output_count gate (length terms) in
      let outs = flat_map (λ e. Terminal gate true e ∷ sites_in Driven e) (take n terms) in
      let ins = flat_map (λ e. Terminal gate false e ∷ sites_in Read e) (drop n terms) in (
        λ e has. used_well Driven e (λ z h. sound z (Contains-append_left outs ins z (into_flat (λ e. Terminal gate true e ∷ sites_in Driven e) (take n terms) e z has (contains_there (Terminal gate true e) (sites_in Driven e) z h)))),
        λ e has. used_well Read e (λ z h. sound z (Contains-append_right outs ins z (into_flat (λ e. Terminal gate false e ∷ sites_in Read e) (drop n terms) e z has (contains_there (Terminal gate false e) (sites_in Read e) z h)))),
      )

  connection_nets : (i : List ℕ) (pin : Option Pin) (e : Option Expression) → AreSound (joined_sites pin e) → ((p : Pin) → pin ≡ Some p → (b : Bit) → Contains (pin_bits (path_to s.path i) p) b → IsBit b)
      → (c : Construct) → Contains (connection i pin e) c → HasNets IsBit s c
  connection_nets i None e sound pins c has = absurd (none_in_nil c has)
  connection_nets i (Some pin) None sound pins c has = absurd (none_in_nil c has)
  connection_nets i (Some pin) (Some e) sound pins c has = by (contains_cases (if is_input pin.dir then InputConnection i pin e else OutputConnection i pin e) [] c has)
    where
      used : IsUsedWell s e
      used = used_well (use_at pin.dir) e (λ z h. sound z (contains_there (Joined pin e) (sites_in (use_at pin.dir) e) z h))

      side : (b : Bool) → HasNets IsBit s (if b then InputConnection i pin e else OutputConnection i pin e)
      side true = (used, pins pin refl)
      side false = (used, pins pin refl)

      by : ((if is_input pin.dir then InputConnection i pin e else OutputConnection i pin e) ≡ c) ⊎ Contains [] c → HasNets IsBit s c
      by (inl same) = subst (HasNets IsBit s) same (side (is_input pin.dir))
      by (inr none) = absurd (none_in_nil c none)

  conns_nets : (target : Option PlainModule) (x : List ℕ × PlainConns) → AreSound (conns_sites target x.1) → HasPins x.0 target → (c : Construct) → Contains (connections target x) c → HasNets IsBit s c
  conns_nets target (i, Order places) sound pins c has =
      let y = from_flat (λ y. connection i (option_and_then (λ m. pin_at m y.0) target) y.1) (enumerate_from 0 places) c has in
      connection_nets i (option_and_then (λ m. pin_at m y.0.0) target) y.0.1
      (λ z h. sound z (into_flat (λ y. joined_sites (option_and_then (λ m. pin_at m y.0) target) y.1) (enumerate_from 0 places) y.0 z y.1 h))
      (λ p e. let m = both_there target (λ m. pin_at m y.0.0) p e in pins m.0 p m.1 (pin_at_port m.0 y.0.0 p m.2)) c y.2
  conns_nets target (i, Named all) sound pins c has =
      let y = from_flat (λ y. connection i (option_and_then (λ m. pin_named m y.0) target) y.1) all c has in
      connection_nets i (option_and_then (λ m. pin_named m y.0.0) target) y.0.1
      (λ z h. sound z (into_each (λ before y. PortName target (map (λ z. z.0) before) y.0 ∷ joined_sites (option_and_then (λ m. pin_named m y.0) target) y.1) [] all y.0 z y.1
      (λ earlier. contains_there (PortName target (map (λ z. z.0) earlier) y.0.0) (joined_sites (option_and_then (λ m. pin_named m y.0.0) target) y.0.1) z h)))
      (λ p e. let m = both_there target (λ m. pin_named m y.0.0) p e in pins m.0 p m.1 (y.0.0, m.2)) c y.2

  abbrev call_sites : List Declaration → List ℕ → List (List ℕ × PlainConns) → List ℕ × PlainConns → List Site
  call_sites earlier target before x = Declared (earlier ++ map (λ z. instance_declaration z.0) before) (instance_declaration x.0) ∷ Placed (module_named d.text target) x.0 (place_count x.1) ∷ conns_sites (module_named d.text target) x.1

  body_nets : (earlier : List Declaration) (body : PlainBody) → AreSound (item_sites d.text earlier body) → ((x : Declaration) → Contains (declared_by body) x → Contains (declarations s.source) x)
      → ((i : Instance) → Contains (instances_in body) i → HasPins i.name (module_named d.text i.target)) → (c : Construct) → Contains (body_constructs d.text body) c → HasNets IsBit s c
  body_nets earlier (Ports port names) sound declares pins c has = absurd (none_in_nil c has)
  body_nets earlier (Nets range nets) sound declares pins c has =
      let y = from_flat initial_construct nets c has in
      initial_nets y.0 (λ z h. sound z (into_each (λ before x. Declared (earlier ++ map (λ y. net_declaration Wire range y.0) before) (net_declaration Wire range x.0) ∷ initial_sites x) [] nets y.0 z y.1
      (λ before. contains_there (Declared (earlier ++ map (λ y. net_declaration Wire range y.0) before) (net_declaration Wire range y.0.0)) (initial_sites y.0) z h))) c y.2
  body_nets earlier (Regs range names) sound declares pins c has = absurd (none_in_nil c has)
  body_nets earlier (Supply high range names) sound declares pins c has =
      let y = from_map (SupplyNet high) names c has in
      let x = net_declaration (supply_kind high) range y.0 in
      subst (HasNets IsBit s) y.2 (declared_net s.source x (declares x (contains-map (net_declaration (supply_kind high) range) names y.0 y.1)) refl)
  body_nets earlier (Assign all) sound declares pins c has =
      let y = from_map (λ x. Assignment x.0 x.1) all c has in
      let sites : AreSound (sites_in Driven y.0.0 ++ sites_in Read y.0.1) = λ z h. sound z (into_flat (λ x. sites_in Driven x.0 ++ sites_in Read x.1) all y.0 z y.1 h) in
      subst (HasNets IsBit s) y.2 (used_well Driven y.0.0 (λ z h. sites z (Contains-append_left (sites_in Driven y.0.0) (sites_in Read y.0.1) z h)), used_well Read y.0.1 (λ z h. sites z (Contains-append_right (sites_in Driven y.0.0) (sites_in Read y.0.1) z h)))
  body_nets earlier (Gates gate all) sound declares pins c has =
      let y = from_map (λ x. gate_construct gate x.1) all c has in
      subst (HasNets IsBit s) y.2 (gate_nets gate y.0.1 (λ z h. sound z (into_flat (λ x. gate_sites gate x.1) all y.0 z y.1 h)))
  body_nets earlier (Calls target calls) sound declares pins c has =
      let y = from_flat (connections (module_named d.text target)) calls c has in
      conns_nets (module_named d.text target) y.0 (λ z h. sound z (contains_there (Target target) (each_from (call_sites earlier target) [] calls) z (into_each (call_sites earlier target) [] calls y.0 z y.1
      (λ before. contains_there (Declared (earlier ++ map (λ z. instance_declaration z.0) before) (instance_declaration y.0.0)) (Placed (module_named d.text target) y.0.0 (place_count y.0.1) ∷ conns_sites (module_named d.text target) y.0.1) z
      (contains_there (Placed (module_named d.text target) y.0.0 (place_count y.0.1)) (conns_sites (module_named d.text target) y.0.1) z h)))))
      (pins (instance_of target y.0) (contains-map (instance_of target) calls y.0 y.1)) c y.2
  body_nets earlier (Always r) sound declares pins c has = by (contains_cases (Register r) [] c has)
    where
      rest : AreSound (sites_in Read r.clock ++ sites_in Stored r.left ++ sites_in Read r.right)
      rest z h = sound z (contains_there (Clock r.clock) (sites_in Read r.clock ++ sites_in Stored r.left ++ sites_in Read r.right) z h)

      first : AreSound (sites_in Read r.clock ++ sites_in Stored r.left)
      first z h = rest z (Contains-append_left (sites_in Read r.clock ++ sites_in Stored r.left) (sites_in Read r.right) z h)

      nets : HasNets IsBit s (Register r)
      nets = (
        used_well Read r.clock (λ z h. first z (Contains-append_left (sites_in Read r.clock) (sites_in Stored r.left) z h)),
        used_well Stored r.left (λ z h. first z (Contains-append_right (sites_in Read r.clock) (sites_in Stored r.left) z h)),
        used_well Read r.right (λ z h. rest z (Contains-append_right (sites_in Read r.clock ++ sites_in Stored r.left) (sites_in Read r.right) z h)),
      )

      by : (Register r ≡ c) ⊎ Contains [] c → HasNets IsBit s c
      by (inl same) = subst (HasNets IsBit s) same nets
      by (inr none) = absurd (none_in_nil c none)

module _ (text : List PlainModule) (top : PlainModule) (sound : IsSound text) (in_text : Contains text top) (shallow : IsShallow (design_on text top)) where
  abbrev d : Design
  d = design_on text top

  pins_there : (s : Scope) → Contains (scopes d) s → (i : Instance) → Contains (instances_of s.source) i → HasPins d s i.name (module_named text i.target)
  pins_there s has i in_source m p found is b at =
      let c : Scope = record { path = path_to s.path i.name; source = m } in
      let child = into_filter (λ j. option_map (λ m. record { path = path_to s.path j.name; source = m }) (module_named text j.target)) (instances_of s.source) i c in_source (ap (option_map (λ m. record { path = path_to s.path i.name; source = m })) found) in
      into_flat scope_bits (scopes d) c b (child_there d s c shallow has child) (pin_there c p is b at)

  pub nets_there : (s : Scope) → Contains (scopes d) s → (c : Construct) → Contains (constructs_at text s) c → HasNets (IsBit d s) s c
  nets_there s has c at = by (is_box s) at
    where
      in_item : Contains (flat_map (λ item. body_constructs text item.body) s.source.items) c → HasNets (IsBit d s) s c
      in_item h =
          let item = from_flat (λ item. body_constructs text item.body) s.source.items c h in
          let sites = site_sound text sound s.source (source_there d s in_text has) item.0 item.1 in
          body_nets d s sites.0 item.0.body sites.1
          (λ x k. Contains-append_right (flat_map declared_by_head s.source.heads) (flat_map (λ item. declared_by item.body) s.source.items) x (into_flat (λ (item : PlainItem). declared_by item.body) s.source.items item.0 x item.1 k))
          (λ i k. pins_there s has i (into_flat (λ (item : PlainItem). instances_in item.body) s.source.items item.0 i item.1 k)) c item.2

      box : (BoxContents ≡ c) ⊎ Contains [] c → HasNets (IsBit d s) s c
      box (inl same) = subst (HasNets (IsBit d s) s) same tt
      box (inr none) = absurd (none_in_nil c none)

      by : (b : Bool) → Contains (if b then BoxContents ∷ [] else flat_map (λ item. body_constructs text item.body) s.source.items) c → HasNets (IsBit d s) s c
      by true h = box (contains_cases BoxContents [] c h)
      by false h = in_item h

  abbrev IsIn : Bit → Type 0
  IsIn b = Contains (net_order d) b

  each_part : (part : Scope × Construct) → Contains (parts d) part → PartThere IsIn part
  each_part part has =
      let s = from_flat (λ s. map (λ c. (s, c)) (constructs_at text s)) (scopes d) part has in
      let c = from_map (λ c. (s.0, c)) (constructs_at text s.0) part s.2 in
      subst (PartThere IsIn) c.2 (part_there IsIn s.0 (λ b h. into_flat scope_bits (scopes d) s.0 b s.1 h) c.0 (nets_there s.0 s.1 c.0 c.1))

  root_there : Contains (scopes d) (root d)
  root_there = contains_here (root d) _

  each_drive : (x : Drive) → Contains (drives d) x → IsThere IsIn x
  each_drive x has = by (Contains-append_cases (map (driven Free) (top_inputs d)) (flat_map drives_at (parts d)) x has)
    where
      by : Contains (map (driven Free) (top_inputs d)) x ⊎ Contains (flat_map drives_at (parts d)) x → IsThere IsIn x
      by (inl h) = let z = from_map (driven Free) (top_inputs d) x h in subst (IsThere IsIn) z.2 (into_flat scope_bits (scopes d) (root d) z.0 root_there (filtered_there (root d) _ z.0 z.1), λ c at. absurd (none_in_nil c at))
      by (inr h) = let part = from_flat drives_at (parts d) x h in (each_part part.0 part.1).driven x part.2

  each_copy : (b c : Bit) → Contains (copied_bits d) (b, c) → IsIn c
  each_copy b c has =
      let x = from_flat (λ x. map (λ c. (x.bit, c)) (copied x.source)) (drives d) (b, c) has in
      let k = from_map (λ c. (x.0.bit, c)) (copied x.0.source) (b, c) x.2 in
      subst IsIn (ap (λ (z : Bit × Bit). z.1) k.2) ((each_drive x.0 x.1).1 k.0 k.1)

  ends : (b c : Bit) → Leads (copied_bits d) b c → IsIn c
  ends b c (One has) = each_copy b c has
  ends b c (More has rest) = ends _ c rest

  directly : (b : Bit) → Contains (top_outputs d) b ⊎ Contains (flat_map read_at (parts d)) b → IsIn b
  directly b (inl h) = into_flat scope_bits (scopes d) (root d) b root_there (filtered_there (root d) _ b h)
  directly b (inr h) = let part = from_flat read_at (parts d) b h in (each_part part.0 part.1).read b part.2

  each_read : (b : Bit) → IsReadBit d b → IsIn b
  each_read b (inl h) = directly b (Contains-append_cases (top_outputs d) (flat_map read_at (parts d)) b h)
  each_read b (inr h) = ends h.0 b h.2

  pub bits_there_in : BitsAreThere d
  bits_there_in = record {
    driven = all_from IsIn (map (λ x. x.bit) (drives d)) (λ b has. let x = from_map (λ (x : Drive). x.bit) (drives d) b has in subst IsIn x.2 (each_drive x.0 x.1).0);
    read = each_read;
  }

pub sound_bits_are_there : SoundBitsAreThere
sound_bits_are_there text top sound in_text shallow = bits_there_in text top sound in_text shallow
