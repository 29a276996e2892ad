-- A bit that is read with modules in place of boxes is read in the design with boxes, or in a module alone; so it is
-- driven.
use Rattle.std.proofs.Common.{◌≡◌, ◌⊎◌, ℕ, true, false, not, List, [], ◌∷◌, ◌++◌, map, filter, Contains, Some, inl, inr, refl, sym, ap, ap₂, ◌∙◌, subst, arith, append-nil, true≢false}
use Rattle.std.specs.Prelude.{option_to_list}
use Rattle.std.specs.List.{enumerate_from, flat_map, list_any}
use Rattle.std.proofs.lemmas.List.Elements.{All-contains, Contains-append_cases, Contains-append_left, Contains-append_right}
use Rattle.bb_ast.specs.Syntax.{PlainModule}
use Rattle.bb_bits.specs.Closures.{IsDistinct, Leads, One, More}
use Rattle.bb_names.specs.Faults.{is_input}
use Rattle.bb_names.specs.Nets.{is_empty, nets_of}
use Rattle.bb_names.specs.Sites.{module_named}
use Rattle.bb_lemmas.proofs.Members.{contains-map, contains_here, from_flat, from_map, into_flat, none_in_nil}
use Rattle.bb_lemmas.proofs.Numbered.{from_numbered}
use Rattle.bb_lemmas.proofs.Walks.{more_after}
use Rattle.bb_design.specs.Constructs.{BoxContents, Construct, constructs_at, parts}
use Rattle.bb_design.specs.Drivers.{Box, Drive, Free, driven, driven_bits, drives, drives_at}
use Rattle.bb_design.specs.Hierarchy.{Design, Path, Scope, is_box, module_at, scopes}
use Rattle.bb_design.specs.Laws.BitLaws.{BitsAreFound}
use Rattle.bb_design.specs.Laws.{BitsAreThere}
use Rattle.bb_design.specs.NetBits.{Bit, input_bits, net_order, output_bits, scope_bits, top_inputs, top_outputs}
use Rattle.bb_design.specs.Reading.{IsReadBit, copied, copied_bits, read_at, read_directly}
use Rattle.bb_design.specs.Refusals.{AreDriven, AreDrivenOnce}
use Rattle.bb_replace.specs.Laws.Replacement.{AllMayReplace, MayReplace, alone, scope_of, replaced, replaced_design}
use Rattle.bb_replace.proofs.DrivenOnce.{HavePortsAlone, IsAlone, apart_alone, inner_path, is_boxed, net_at, outputs_driven, unmoved}
use Rattle.bb_replace.proofs.DrivenReads.{copies_at, distinct_same, in_or_out, reads_at}
use Rattle.bb_replace.proofs.MovedDrives.{at, drive_at, source_at}
use Rattle.bb_replace.proofs.ReplacedConstructs.{free_constructs, same_constructs}
use Rattle.bb_replace.proofs.ReplacedDrivers.{alone_bits, bits_driven, bits_moved, distinct_across, distinct_right, driven_flat, drives_flat, drives_in, drives_moved, one_scope, plain_there, to_distinct}
use Rattle.bb_replace.proofs.ReplacedModules.{Place, Stays, Goes, combinational_has_none, place_for}
use Rattle.bb_replace.proofs.ReplacedPorts.{same_inputs, same_outputs}
use Rattle.bb_replace.proofs.ReplacedRegisters.{Below, input_path, scope_path, source_there}
use Rattle.bb_replace.proofs.ReplacedScopes.{changed, scopes_same}
use Rattle.bb_replace.proofs.ReplacedWorlds.{inputs_stay, outputs_stay}

-- a bit that a buffer of a read bit has is read
read_further : (d : Design) (c b : Bit) → IsReadBit d c → Contains {X = Bit × Bit} (copied_bits d) (c, b) → IsReadBit d b
read_further d c b (inl here) step = inr (c, here, One step)
read_further d c b (inr walk) step = inr (walk.0, walk.1, more_after (copied_bits d) walk.2 step)

copied_there : (d : Design) (x : Drive) (b : Bit) → Contains (drives d) x → Contains (copied x.source) b → Contains {X = Bit × Bit} (copied_bits d) (x.bit, b)
copied_there d x b has here = into_flat (λ (x : Drive). map (λ (c : Bit). (x.bit, c)) (copied x.source)) (drives d) x (x.bit, b) has (contains-map (λ (c : Bit). (x.bit, c)) (copied x.source) b here)

pub drives_there : (d : Design) (s : Scope) (x : Drive) → Contains (scopes d) s → Contains (drives_in d.text s) x → Contains (drives d) x
drives_there d s x has here = subst (λ l. Contains l x) (sym (drives_flat d)) (Contains-append_right (map (driven Free) (top_inputs d)) (flat_map (drives_in d.text) (scopes d)) x (into_flat (drives_in d.text) (scopes d) s x has here))

pub part_there : (d : Design) (s : Scope) (c : Construct) → Contains (scopes d) s → Contains (constructs_at d.text s) c → Contains {X = Scope × Construct} (parts d) (s, c)
part_there d s c has here = into_flat (λ (s : Scope). map (λ (c : Construct). (s, c)) (constructs_at d.text s)) (scopes d) s (s, c) has (contains-map (λ (c : Construct). (s, c)) (constructs_at d.text s) c here)

read_there : (d : Design) (s : Scope) (c : Construct) (b : Bit) → Contains (scopes d) s → Contains (constructs_at d.text s) c → Contains (read_at (s, c)) b → IsReadBit d b
read_there d s c b has here read = inl (Contains-append_right (top_outputs d) (flat_map read_at (parts d)) b (into_flat read_at (parts d) (s, c) b (part_there d s c has here) read))

-- what is known besides of a module alone
pub record IsWhole (m : PlainModule) : Type 0 where
  pub is : IsAlone m
  pub reads : AreDriven (alone m)

module _ (modules : List PlainModule) (d : Design) (laws : Below d) (may : AllMayReplace modules d.text) (found : BitsAreFound) (bits : BitsAreThere d) (ports : HavePortsAlone d) (stands : is_empty d.top ≡ false) (once : AreDrivenOnce d) (reads : AreDriven d) (whole : (s : Scope) → Contains (scopes d) s → is_empty s.source ≡ true → (m : PlainModule) → module_named modules s.source.name ≡ Some m → IsWhole m) where
  abbrev new : Design
  new = replaced_design modules d

  pub alone_of : (s : Scope) → Contains (scopes d) s → is_empty s.source ≡ true → (m : PlainModule) → module_named modules s.source.name ≡ Some m → IsAlone m
  alone_of s has empty m e = (whole s has empty m e).is

  pub fits : (s : Scope) (m : PlainModule) → Contains (scopes d) s → is_empty s.source ≡ true → module_named modules s.source.name ≡ Some m → MayReplace s.source m
  fits s m has empty named = may s.source m (source_there d laws s has) empty named

  -- a bit of a box as one of the module alone
  pub record IsInside (b : Bit) : Type 0 where
    pub s : Scope
    pub m : PlainModule
    pub c : Bit
    pub has : Contains (scopes d) s
    pub empty : is_empty s.source ≡ true
    pub named : module_named modules s.source.name ≡ Some m
    pub goes : replaced modules s.source ≡ m
    pub is : at s.path c ≡ b
    pub read : IsReadBit (alone m) c

  abbrev IsReadSomewhere : Bit → Type 0
  IsReadSomewhere b = IsReadBit d b ⊎ IsInside b

  -- a read bit of the module alone is at the root
  read_path : (m : PlainModule) → IsWhole m → (c : Bit) → IsReadBit (alone m) c → c.path ≡ []
  read_path m is c read =
      let listed : net_order (alone m) ≡ scope_bits (scope_of [] m) = ap (flat_map scope_bits) (one_scope m is.is.instances) ∙ append-nil (scope_bits (scope_of [] m)) in
      scope_path (scope_of [] m) c (subst (λ l. Contains l c) listed (is.is.there.read c read))

  -- the scope of a box is known by its path
  pub one_box : (s t : Scope) → Contains (scopes d) s → Contains (scopes d) t → s.path ≡ t.path → s ≡ t
  one_box s t hs ht path =
      let same : Some s.source ≡ Some t.source = sym (laws.ends.reached s hs) ∙ ap (module_at d) path ∙ laws.ends.reached t ht in
      let source : s.source ≡ t.source = grind (arith, same) in
      ap₂ scope_of path source

  -- a driven bit of the design at the path of a box is one of its ports
  pub port_of : (s : Scope) → Contains (scopes d) s → is_empty s.source ≡ true → (b : Bit) → b.path ≡ s.path → Contains (driven_bits d) b → Contains (input_bits s) b ⊎ Contains (output_bits s) b
  port_of s has empty b path is =
      let t = from_flat scope_bits (scopes d) b (All-contains (Contains (net_order d)) (driven_bits d) b bits.driven is) in
      let same : t.0 ≡ s = one_box t.0 s t.1 has (sym (scope_path t.0 b t.2) ∙ path) in
      ports s has empty b (subst (λ z. Contains (scope_bits z) b) same t.2)

  -- a box reads its inputs
  input_read : (s : Scope) → Contains (scopes d) s → is_empty s.source ≡ true → (b : Bit) → Contains (input_bits s) b → IsReadBit d b
  input_read s has empty b here =
      let box = is_boxed modules d laws may found bits ports stands alone_of s has empty in
      let constructs : constructs_at d.text s ≡ BoxContents ∷ [] = grind (arith, box) in
      read_there d s BoxContents b has (subst (λ l. Contains l BoxContents) (sym constructs) (contains_here BoxContents [])) here

  -- outputs of a box are outputs of the module alone

  pub outputs_at : (s : Scope) (m : PlainModule) → MayReplace s.source m → output_bits s ≡ map (at s.path) (top_outputs (alone m))
  outputs_at s m may_be = sym (same_outputs s.path s.source m may_be) ∙ net_at s.path (filter (λ net. list_any (λ dir. not (is_input dir)) (option_to_list net.port)) (nets_of m))

  pub inputs_at : (s : Scope) (m : PlainModule) → MayReplace s.source m → input_bits s ≡ map (at s.path) (top_inputs (alone m))
  inputs_at s m may_be = sym (same_inputs s.path s.source m may_be) ∙ net_at s.path (filter (λ net. list_any is_input (option_to_list net.port)) (nets_of m))

  output_inside : (s : Scope) (m : PlainModule) → Contains (scopes d) s → is_empty s.source ≡ true → module_named modules s.source.name ≡ Some m → replaced modules s.source ≡ m → (b : Bit) → Contains (output_bits s) b → IsInside b
  output_inside s m has empty named goes b out =
      let c = from_map (at s.path) (top_outputs (alone m)) b (subst (λ l. Contains l b) (outputs_at s m (fits s m has empty named)) out) in
      record { s = s; m = m; c = c.0; has = has; empty = empty; named = named; goes = goes; is = c.2; read = inl (Contains-append_left (top_outputs (alone m)) (flat_map read_at (parts (alone m))) c.0 c.1) }

  -- what is read directly

  scope_reads : (s : Scope) → Contains (scopes d) s → (c : Construct) → Contains (constructs_at new.text (changed modules s)) c → (b : Bit) → Contains (read_at (changed modules s, c)) b → IsReadSomewhere b
  scope_reads s has c here b read = by (place_for modules s.source)
    where
      by : Place modules s.source → IsReadSomewhere b
      by (Stays e) = inl (read_there d s c b has (subst (λ l. Contains l c) (ap (λ z. constructs_at new.text (scope_of s.path z)) e ∙ same_constructs modules d.text may s) here) (subst (λ z. Contains (read_at (scope_of s.path z, c)) b) e read))
      by (Goes m empty named e) =
          let may_be = fits s m has empty named in
          let there : Contains (constructs_at (m ∷ []) (scope_of s.path m)) c = subst (λ l. Contains l c) (ap (λ z. constructs_at new.text (scope_of s.path z)) e ∙ free_constructs new.text (m ∷ []) (scope_of s.path m) (combinational_has_none m.items may_be.combinational)) here in
          let plain = plain_there (m ∷ []) s.path m may_be.not_empty may_be.combinational c there in
          let moved : Contains (map (at s.path) (read_at (scope_of [] m, c))) b = subst (λ l. Contains l b) (ap (λ z. read_at (scope_of s.path z, c)) e ∙ reads_at s.path m c plain) read in
          let k = from_map (at s.path) (read_at (scope_of [] m, c)) b moved in
          let root : Contains (constructs_at (alone m).text (scope_of [] m)) c = subst (λ l. Contains l c) (rooted s.path m may_be.not_empty) there in
          inr (record { s = s; m = m; c = k.0; has = has; empty = empty; named = named; goes = e; is = k.2; read = read_there (alone m) (scope_of [] m) c k.0 (contains_here (scope_of [] m) _) root k.1 })
        where
          rooted : (path : Path) (m : PlainModule) → is_empty m ≡ false → constructs_at (m ∷ []) (scope_of path m) ≡ constructs_at (m ∷ []) (scope_of [] m)
          rooted [] m e = refl
          rooted (n ∷ path) m e = grind (arith, e)

  directly : (b : Bit) → Contains (read_directly new) b → IsReadSomewhere b
  directly b has = by (Contains-append_cases (top_outputs new) (flat_map read_at (parts new)) b has)
    where
      by : Contains (top_outputs new) b ⊎ Contains (flat_map read_at (parts new)) b → IsReadSomewhere b
      by (inl h) = inl (inl (Contains-append_left (top_outputs d) (flat_map read_at (parts d)) b (subst (λ l. Contains l b) (outputs_stay modules d laws may) h)))
      by (inr h) =
          let p = from_flat read_at (parts new) b h in
          let t = from_flat (λ (s : Scope). map (λ (c : Construct). (s, c)) (constructs_at new.text s)) (scopes new) p.0 p.1 in
          let c = from_map (λ (c : Construct). (t.0, c)) (constructs_at new.text t.0) p.0 t.2 in
          let s = from_map (changed modules) (scopes d) t.0 (subst (λ l. Contains l t.0) (scopes_same modules d may laws.top) t.1) in
          scope_reads s.0 s.1 c.0 (subst (λ z. Contains (constructs_at new.text z) c.0) (sym s.2) c.1) b (subst (λ z. Contains (read_at (z, c.0)) b) (sym s.2) (subst (λ z. Contains (read_at z) b) (sym c.2) p.2))

  -- what is read of a buffer is read of the other

  driven_here : (s : Scope) (x : Drive) → Contains (scopes d) s → Contains (drives_in d.text s) x → Contains (driven_bits d) x.bit
  driven_here s x has here = contains-map (λ (x : Drive). x.bit) (drives d) x (drives_there d s x has here)

  staying_step : (s : Scope) → Contains (scopes d) s → replaced modules s.source ≡ s.source → (x : Drive) → Contains (drives_in d.text s) x → (b : Bit) → Contains (copied x.source) b → IsReadSomewhere x.bit → IsReadSomewhere b
  staying_step s has stays x here b copy_of (inl read) = inl (read_further d x.bit b read (copied_there d x b (drives_there d s x has here) copy_of))
  staying_step s has stays x here b copy_of (inr i) = by (port_of i.s i.has i.empty x.bit (sym (ap (λ (z : Bit). z.path) i.is)) (driven_here s x has here))
    where
      by : Contains (input_bits i.s) x.bit ⊎ Contains (output_bits i.s) x.bit → IsReadSomewhere b
      by (inl h) = inl (read_further d x.bit b (input_read i.s i.has i.empty x.bit h) (copied_there d x b (drives_there d s x has here) copy_of))
      by (inr h) =
          let box = is_boxed modules d laws may found bits ports stands alone_of i.s i.has i.empty in
          let olds = distinct_right (top_inputs d) (flat_map (bits_driven d.text) (scopes d)) (subst IsDistinct (driven_flat d) (to_distinct (driven_bits d) once)) in
          let same : s ≡ i.s = distinct_same (bits_driven d.text) (scopes d) s i.s x.bit olds has i.has (contains-map (λ (x : Drive). x.bit) (drives_in d.text s) x here) (outputs_driven modules d laws may found bits ports stands alone_of i.s box x.bit h) in
          let kept : replaced modules i.s.source ≡ i.s.source = subst (λ (z : Scope). replaced modules z.source ≡ z.source) same stays in
          absurd (true≢false (sym i.empty ∙ ap is_empty (sym kept ∙ i.goes) ∙ (fits i.s i.m i.has i.empty i.named).not_empty))

  going_step : (s : Scope) (m : PlainModule) → Contains (scopes d) s → is_empty s.source ≡ true → module_named modules s.source.name ≡ Some m → replaced modules s.source ≡ m → (x : Drive) → Contains (drives_in (m ∷ []) (scope_of [] m)) x → (b : Bit) → Contains (copied (source_at s.path x.source)) b → IsReadSomewhere (at s.path x.bit) → IsReadSomewhere b
  going_step s m has empty named goes x here b copy_of read = inside (read_alone read)
    where
      is : IsWhole m
      is = whole s has empty m named

      there : Contains (drives (alone m)) x
      there = drives_there (alone m) (scope_of [] m) x (contains_here (scope_of [] m) _) here

      inner : Contains (bits_driven (m ∷ []) (scope_of [] m)) x.bit
      inner = contains-map (λ (x : Drive). x.bit) (drives_in (m ∷ []) (scope_of [] m)) x here

      same_bit_of : (c : Bit) → c.path ≡ [] → at s.path c ≡ at s.path x.bit → c ≡ x.bit
      same_bit_of c path e = unmoved s.path c x.bit path (inner_path m is.is x.bit inner) e

      read_alone : IsReadSomewhere (at s.path x.bit) → IsReadBit (alone m) x.bit
      read_alone (inl read) = by (port_of s has empty (at s.path x.bit) refl (reads (at s.path x.bit) read))
        where
          by : Contains (input_bits s) (at s.path x.bit) ⊎ Contains (output_bits s) (at s.path x.bit) → IsReadBit (alone m) x.bit
          by (inl h) =
              let i = from_map (at s.path) (top_inputs (alone m)) (at s.path x.bit) (subst (λ l. Contains l (at s.path x.bit)) (inputs_at s m (fits s m has empty named)) h) in
              let one : i.0 ≡ x.bit = same_bit_of i.0 (input_path (scope_of [] m) i.0 i.1) i.2 in
              absurd (distinct_across (top_inputs (alone m)) (bits_driven (m ∷ []) (scope_of [] m)) x.bit (apart_alone m is.is) (subst (Contains (top_inputs (alone m))) one i.1) inner)
          by (inr h) =
              let o = from_map (at s.path) (top_outputs (alone m)) (at s.path x.bit) (subst (λ l. Contains l (at s.path x.bit)) (outputs_at s m (fits s m has empty named)) h) in
              let read : IsReadBit (alone m) o.0 = inl (Contains-append_left (top_outputs (alone m)) (flat_map read_at (parts (alone m))) o.0 o.1) in
              subst (IsReadBit (alone m)) (same_bit_of o.0 (read_path m is o.0 read) o.2) read
      read_alone (inr i) = by i.s i.m i.c i.has i.named i.is i.read
        where
          by : (t : Scope) (n : PlainModule) (c : Bit) → Contains (scopes d) t → module_named modules t.source.name ≡ Some n → at t.path c ≡ at s.path x.bit → IsReadBit (alone n) c → IsReadBit (alone m) x.bit
          by t n c ht found e read =
              let same : t ≡ s = one_box t s ht has (ap (λ (z : Bit). z.path) e) in
              let both : Some n ≡ Some m = sym found ∙ ap (λ (z : Scope). module_named modules z.source.name) same ∙ named in
              let one : n ≡ m = grind (arith, both) in
              let reading : IsReadBit (alone m) c = subst (λ z. IsReadBit (alone z) c) one read in
              let moved : at s.path c ≡ at s.path x.bit = ap (λ (z : Scope). at z.path c) (sym same) ∙ e in
              subst (IsReadBit (alone m)) (same_bit_of c (read_path m is c reading) moved) reading

      inside : IsReadBit (alone m) x.bit → IsReadSomewhere b
      inside read =
          let c = copies_at s.path x.source b copy_of in
          inr (record { s = s; m = m; c = c.0; has = has; empty = empty; named = named; goes = goes; is = c.2; read = read_further (alone m) x.bit c.0 read (copied_there (alone m) x c.0 there c.1) })

  step : (c b : Bit) → Contains {X = Bit × Bit} (copied_bits new) (c, b) → IsReadSomewhere c → IsReadSomewhere b
  step c b has read =
      let x = from_flat (λ (x : Drive). map (λ (c : Bit). (x.bit, c)) (copied x.source)) (drives new) (c, b) has in
      let k = from_map (λ (k : Bit). (x.0.bit, k)) (copied x.0.source) (c, b) x.2 in
      let first : x.0.bit ≡ c = ap (λ (z : Bit × Bit). z.0) k.2 in
      let second : k.0 ≡ b = ap (λ (z : Bit × Bit). z.1) k.2 in
      by x.0 (subst (Contains (copied x.0.source)) second k.1) (subst IsReadSomewhere (sym first) read) (Contains-append_cases (map (driven Free) (top_inputs new)) (flat_map (drives_in new.text) (scopes new)) x.0 (subst (λ l. Contains l x.0) (drives_flat new) x.1))
    where
      by : (x : Drive) → Contains (copied x.source) b → IsReadSomewhere x.bit → Contains (map (driven Free) (top_inputs new)) x ⊎ Contains (flat_map (drives_in new.text) (scopes new)) x → IsReadSomewhere b
      by x copy_of read (inl h) =
          let t = from_map (driven Free) (top_inputs new) x h in
          absurd (none_in_nil b (subst (λ (z : Drive). Contains (copied z.source) b) (sym t.2) copy_of))
      by x copy_of read (inr h) =
          let t = from_flat (drives_in new.text) (scopes new) x h in
          let s = from_map (changed modules) (scopes d) t.0 (subst (λ l. Contains l t.0) (scopes_same modules d may laws.top) t.1) in
          in_scope s.0 s.1 (subst (λ z. Contains (drives_in new.text z) x) (sym s.2) t.2) (place_for modules s.0.source)
        where
          in_scope : (s : Scope) → Contains (scopes d) s → Contains (drives_in new.text (changed modules s)) x → Place modules s.source → IsReadSomewhere b
          in_scope s has here (Stays e) = staying_step s has e x (subst (λ l. Contains l x) (ap (λ z. drives_in new.text (scope_of s.path z)) e ∙ ap (λ l. flat_map drives_at (map (λ c. (s, c)) l)) (same_constructs modules d.text may s)) here) b copy_of read
          in_scope s has here (Goes m empty named e) =
              let may_be = fits s m has empty named in
              let y = from_map (drive_at s.path) (drives_in (m ∷ []) (scope_of [] m)) x (subst (λ l. Contains l x) (ap (λ z. drives_in new.text (scope_of s.path z)) e ∙ drives_moved new.text s.path m may_be.not_empty may_be.combinational) here) in
              going_step s m has empty named e y.0 y.1 b (subst (λ (z : Drive). Contains (copied z.source) b) (sym y.2) copy_of) (subst (λ (z : Drive). IsReadSomewhere z.bit) (sym y.2) read)

  walk : {c b : Bit} → Leads (copied_bits new) c b → IsReadSomewhere c → IsReadSomewhere b
  walk (One has) read = step _ _ has read
  walk (More has rest) read = walk rest (step _ _ has read)

  somewhere : (b : Bit) → IsReadBit new b → IsReadSomewhere b
  somewhere b (inl here) = directly b here
  somewhere b (inr w) = walk w.2 (directly w.0 w.1)

  -- so it is driven

  driven_in : (s : Scope) (b : Bit) → Contains (scopes d) s → Contains (bits_driven new.text (changed modules s)) b → Contains (driven_bits new) b
  driven_in s b has here =
      let there : Contains (scopes new) (changed modules s) = subst (λ l. Contains l (changed modules s)) (sym (scopes_same modules d may laws.top)) (contains-map (changed modules) (scopes d) s has) in
      subst (λ l. Contains l b) (sym (driven_flat new)) (Contains-append_right (top_inputs new) (flat_map (bits_driven new.text) (scopes new)) b (into_flat (bits_driven new.text) (scopes new) (changed modules s) b there here))

  inside_driven : (b : Bit) → (i : IsInside b) → Contains (driven_bits new) b ⊎ Contains (input_bits i.s) b
  inside_driven b i = by (Contains-append_cases (top_inputs (alone i.m)) (bits_driven (i.m ∷ []) (scope_of [] i.m)) i.c (subst (λ l. Contains l i.c) (alone_bits i.m is.is.instances) (is.reads i.c i.read)))
    where
      is : IsWhole i.m
      is = whole i.s i.has i.empty i.m i.named

      may_be : MayReplace i.s.source i.m
      may_be = fits i.s i.m i.has i.empty i.named

      by : Contains (top_inputs (alone i.m)) i.c ⊎ Contains (bits_driven (i.m ∷ []) (scope_of [] i.m)) i.c → Contains (driven_bits new) b ⊎ Contains (input_bits i.s) b
      by (inl h) = inr (subst (λ l. Contains l b) (sym (inputs_at i.s i.m may_be)) (subst (Contains (map (at i.s.path) (top_inputs (alone i.m)))) i.is (contains-map (at i.s.path) (top_inputs (alone i.m)) i.c h)))
      by (inr h) =
          let moved : bits_driven new.text (changed modules i.s) ≡ map (at i.s.path) (bits_driven (i.m ∷ []) (scope_of [] i.m)) = ap (λ z. bits_driven new.text (scope_of i.s.path z)) i.goes ∙ bits_moved new.text i.s.path i.m may_be.not_empty may_be.combinational in
          inl (driven_in i.s b i.has (subst (λ l. Contains l b) (sym moved) (subst (Contains (map (at i.s.path) (bits_driven (i.m ∷ []) (scope_of [] i.m)))) i.is (contains-map (at i.s.path) (bits_driven (i.m ∷ []) (scope_of [] i.m)) i.c h))))

  -- a box drives nothing but its outputs
  box_drives : (s : Scope) → is_box s ≡ true → (b : Bit) → Contains (bits_driven d.text s) b → Contains (output_bits s) b
  box_drives s box b has =
      let constructs : constructs_at d.text s ≡ BoxContents ∷ [] = grind (arith, box) in
      let listed : bits_driven d.text s ≡ map (λ (x : Drive). x.bit) (drives_at (s, BoxContents) ++ []) = ap (λ l. map (λ (x : Drive). x.bit) (flat_map drives_at (map (λ c. (s, c)) l))) {x = constructs_at d.text s} constructs in
      let x = from_map (λ (x : Drive). x.bit) (drives_at (s, BoxContents) ++ []) b (subst (λ l. Contains l b) listed has) in
      let y = from_map (λ (y : ℕ × Bit). driven (Box s y.0) y.1) (enumerate_from 0 (output_bits s)) x.0 (subst (λ l. Contains l x.0) (append-nil (drives_at (s, BoxContents))) x.1) in
      subst (Contains (output_bits s)) (ap (λ (z : Drive). z.bit) y.2 ∙ x.2) (from_numbered 0 (output_bits s) y.0 y.1)

  design_driven : (b : Bit) → IsReadBit d b → Contains (driven_bits new) b
  unfolding output_inside
  design_driven b read = by (Contains-append_cases (top_inputs d) (flat_map (bits_driven d.text) (scopes d)) b (subst (λ l. Contains l b) (driven_flat d) (reads b read)))
    where
      by : Contains (top_inputs d) b ⊎ Contains (flat_map (bits_driven d.text) (scopes d)) b → Contains (driven_bits new) b
      by (inl h) = subst (λ l. Contains l b) (sym (driven_flat new)) (Contains-append_left (top_inputs new) (flat_map (bits_driven new.text) (scopes new)) b (subst (λ l. Contains l b) (sym (inputs_stay modules d laws may)) h))
      by (inr h) = let s = from_flat (bits_driven d.text) (scopes d) b h in in_scope s.0 s.1 s.2 (place_for modules s.0.source)
        where
          in_scope : (s : Scope) → Contains (scopes d) s → Contains (bits_driven d.text s) b → Place modules s.source → Contains (driven_bits new) b
          in_scope s has here (Stays e) = driven_in s b has (subst (λ l. Contains l b) (sym (ap (λ z. bits_driven new.text (scope_of s.path z)) e ∙ ap (λ l. map (λ (x : Drive). x.bit) (flat_map drives_at (map (λ c. (s, c)) l))) (same_constructs modules d.text may s))) here)
          in_scope s has here (Goes m empty named e) = box (output_inside s m has empty named e b out) (inside_driven b (output_inside s m has empty named e b out)) refl
            where
              out : Contains (output_bits s) b
              out = box_drives s (is_boxed modules d laws may found bits ports stands alone_of s has empty) b here

              box : (i : IsInside b) → Contains (driven_bits new) b ⊎ Contains (input_bits i.s) b → i.s ≡ s → Contains (driven_bits new) b
              box i (inl h) same = h
              box i (inr h) same = absurd (in_or_out s.path s.source b (subst (λ z. Contains (input_bits z) b) same h) out)

  pub driven_reads : AreDriven new
  driven_reads b read = by (somewhere b read)
    where
      by : IsReadSomewhere b → Contains (driven_bits new) b
      by (inl h) = design_driven b h
      by (inr i) = box (inside_driven b i)
        where
          box : Contains (driven_bits new) b ⊎ Contains (input_bits i.s) b → Contains (driven_bits new) b
          box (inl h) = h
          box (inr h) = design_driven b (input_read i.s i.has i.empty b h)
