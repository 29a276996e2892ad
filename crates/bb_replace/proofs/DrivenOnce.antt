-- No bit is driven twice with modules in place of boxes, where none is in a module alone: outside its ports a copy of a
-- module drives bits that the design with boxes does not have.
use Rattle.std.proofs.Common.{◌≡◌, ◌⊎◌, ℕ, Bool, true, false, List, [], ◌∷◌, ◌++◌, map, filter, Contains, Some, inl, inr, refl, sym, ap, ap₂, ◌∙◌, subst, arith, append-nil, true≢false}
use Rattle.bb_lemmas.proofs.Maps.{map-twice}
use Rattle.std.specs.Prelude.{option_to_list}
use Rattle.std.specs.List.{enumerate_from, flat_map, list_any, range_with_len}
use Rattle.std.proofs.lemmas.List.Elements.{All-contains, Contains-append_left, Contains-append_right}
use Rattle.bb_ast.specs.Syntax.{PlainModule}
use Rattle.bb_bits.specs.Closures.{IsDistinct}
use Rattle.bb_names.specs.declared.net.NetInfo.{NetInfo}
use Rattle.bb_names.specs.Faults.{is_input}
use Rattle.bb_names.specs.Nets.{is_empty, nets_of}
use Rattle.bb_names.specs.Ranges.{range_width}
use Rattle.bb_names.specs.Sites.{module_named}
use Rattle.bb_lemmas.proofs.Members.{contains-map, contains_here, from_flat, from_map, into_flat}
use Rattle.bb_lemmas.proofs.Numbered.{numbered_there}
use Rattle.bb_design.specs.Constructs.{BoxContents, Construct, constructs_at}
use Rattle.bb_design.specs.Drivers.{Box, Drive, driven, driven_bits, drives_at}
use Rattle.bb_design.specs.Hierarchy.{Design, Path, Scope, instances_of, is_box, is_top, module_at, scopes}
use Rattle.bb_design.specs.Laws.BitLaws.{BitsAreFound}
use Rattle.bb_design.specs.Laws.{BitsAreThere}
use Rattle.bb_design.specs.NetBits.{Bit, bits_of_net, input_bits, net_order, output_bits, same_bit, scope_bits, top_inputs}
use Rattle.bb_design.specs.Refusals.{AreDrivenOnce}
use Rattle.bb_replace.specs.Laws.Replacement.{AllMayReplace, MayReplace, alone, scope_of, replaced, replaced_design}
use Rattle.bb_replace.proofs.MovedDrives.{at, flat_map_mapped}
use Rattle.bb_replace.proofs.ReplacedConstructs.{same_constructs}
use Rattle.bb_replace.proofs.ReplacedDrivers.{Exchanges, alone_bits, bits_driven, bits_moved, distinct_across, distinct_joined, distinct_left, distinct_map, distinct_one, distinct_right, driven_flat, exchanged, from_distinct, one_scope, to_distinct}
use Rattle.bb_replace.proofs.ReplacedModules.{Place, Stays, Goes, place_for}
use Rattle.bb_replace.proofs.ReplacedPorts.{same_inputs}
use Rattle.bb_replace.proofs.ReplacedRegisters.{Below, flat_same_within, input_path, scope_path, source_there}
use Rattle.bb_replace.proofs.ReplacedScopes.{changed, scopes_same}
use Rattle.bb_replace.proofs.ReplacedWorlds.{inputs_stay}

-- bits of nets are those of the module alone, moved

pub net_at : (path : Path) (nets : List NetInfo) → flat_map (bits_of_net path) nets ≡ map (at path) (flat_map (bits_of_net []) nets)
net_at path nets = by nets ∙ sym (flat_map_mapped (bits_of_net []) (at path) nets)
  where
    one : (net : NetInfo) → bits_of_net path net ≡ map (at path) (bits_of_net [] net)
    one net = sym (map-twice (λ (k : ℕ). record { path = []; net = net.name; place = k }) (at path) (range_with_len 0 (range_width net.range)))

    by : (nets : List NetInfo) → flat_map (bits_of_net path) nets ≡ flat_map (λ net. map (at path) (bits_of_net [] net)) nets
    by [] = refl
    by (net ∷ nets) = ap₂ (λ a b. a ++ b) (one net) (by nets)

-- a bit at the root is known by what is moved
pub unmoved : (path : Path) (b c : Bit) → b.path ≡ [] → c.path ≡ [] → at path b ≡ at path c → b ≡ c
unmoved path b c e f same = made (e ∙ sym f) (ap (λ (z : Bit). z.net) same) (ap (λ (z : Bit). z.place) same)
  where
    made : b.path ≡ c.path → b.net ≡ c.net → b.place ≡ c.place → b ≡ c
    made p n k = grind (arith, p, n, k)

-- what is known of a module alone that comes in the place of a box
pub record IsAlone (m : PlainModule) : Type 0 where
  pub instances : instances_of m ≡ []
  pub there : BitsAreThere (alone m)
  pub once : AreDrivenOnce (alone m)

module _ (m : PlainModule) (is : IsAlone m) where
  pub inner_there : (b : Bit) → Contains (bits_driven (m ∷ []) (scope_of [] m)) b → Contains (scope_bits (scope_of [] m)) b
  inner_there b has =
      let listed : net_order (alone m) ≡ scope_bits (scope_of [] m) = ap (flat_map scope_bits) (one_scope m is.instances) ∙ append-nil (scope_bits (scope_of [] m)) in
      let driven : Contains (driven_bits (alone m)) b = subst (λ l. Contains l b) (sym (alone_bits m is.instances)) (Contains-append_right (top_inputs (alone m)) (bits_driven (m ∷ []) (scope_of [] m)) b has) in
      subst (λ l. Contains l b) listed (All-contains (Contains (net_order (alone m))) (driven_bits (alone m)) b is.there.driven driven)

  pub inner_path : (b : Bit) → Contains (bits_driven (m ∷ []) (scope_of [] m)) b → b.path ≡ []
  inner_path b has = scope_path (scope_of [] m) b (inner_there b has)

  pub apart_alone : IsDistinct (top_inputs (alone m) ++ bits_driven (m ∷ []) (scope_of [] m))
  apart_alone = subst IsDistinct (alone_bits m is.instances) (to_distinct (driven_bits (alone m)) is.once)

-- an empty module has nothing but ports
abbrev pub HavePortsAlone : Design → Type 0
HavePortsAlone d = (s : Scope) → Contains (scopes d) s → is_empty s.source ≡ true → (b : Bit) → Contains (scope_bits s) b → Contains (input_bits s) b ⊎ Contains (output_bits s) b

module _ (modules : List PlainModule) (d : Design) (laws : Below d) (may : AllMayReplace modules d.text) (found : BitsAreFound) (bits : BitsAreThere d) (ports : HavePortsAlone d) (stands : is_empty d.top ≡ false) (alone_of : (s : Scope) → Contains (scopes d) s → is_empty s.source ≡ true → (m : PlainModule) → module_named modules s.source.name ≡ Some m → IsAlone m) where
  abbrev text : List PlainModule
  text = map (replaced modules) d.text

  old : Scope → List Bit
  old s = bits_driven d.text s

  -- a scope with an empty module is a box
  pub is_boxed : (s : Scope) → Contains (scopes d) s → is_empty s.source ≡ true → is_box s ≡ true
  is_boxed s has empty = by (is_top s.path) refl
    where
      by : (b : Bool) → is_top s.path ≡ b → is_box s ≡ true
      by false e = grind (arith, e, empty)
      by true e =
          let at_top : s.path ≡ [] = rooted s.path e in
          let same : Some d.top ≡ Some s.source = sym (ap (module_at d) at_top) ∙ laws.ends.reached s has in
          let source : d.top ≡ s.source = grind (arith, same) in
          absurd (true≢false (sym empty ∙ sym (ap is_empty source) ∙ stands))
        where
          rooted : (p : Path) → is_top p ≡ true → p ≡ []
          rooted [] e = refl
          rooted (n ∷ p) e = grind (arith, e)

  -- a box drives its outputs
  pub outputs_driven : (s : Scope) → is_box s ≡ true → (b : Bit) → Contains (output_bits s) b → Contains (bits_driven d.text s) b
  outputs_driven s box b has =
      let k = numbered_there 0 (output_bits s) b has in
      let here : Contains (drives_at (s, BoxContents)) (driven (Box s k.0) b) = contains-map (λ (x : ℕ × Bit). driven (Box s x.0) x.1) (enumerate_from 0 (output_bits s)) (k.0, b) k.1 in
      let constructs : constructs_at d.text s ≡ BoxContents ∷ [] = grind (arith, box) in
      let there : Contains {X = Scope × Construct} (map (λ c. (s, c)) (constructs_at d.text s)) (s, BoxContents) = subst (λ l. Contains {X = Scope × Construct} (map (λ c. (s, c)) l) (s, BoxContents)) (sym constructs) (contains_here {A = Scope × Construct} (s, BoxContents) []) in
      contains-map (λ (x : Drive). x.bit) _ (driven (Box s k.0) b) (into_flat drives_at (map (λ c. (s, c)) (constructs_at d.text s)) (s, BoxContents) (driven (Box s k.0) b) there here)

  -- what a copy of a module drives, but for its outputs, nothing drives in the design with boxes
  pub fresh : (s : Scope) (m : PlainModule) → Contains (scopes d) s → is_empty s.source ≡ true → MayReplace s.source m → IsAlone m → (c : Bit) → Contains (bits_driven (m ∷ []) (scope_of [] m)) c → (Contains (output_bits s) (at s.path c) → ⊥) → Contains (driven_bits d) (at s.path c) → ⊥
  fresh s m has empty fits is c there outside driven =
      let t = from_flat scope_bits (scopes d) (at s.path c) (All-contains (Contains (net_order d)) (driven_bits d) (at s.path c) bits.driven driven) in
      let path : t.0.path ≡ s.path = sym (scope_path t.0 (at s.path c) t.2) in
      let same : Some t.0.source ≡ Some s.source = sym (laws.ends.reached t.0 t.1) ∙ ap (module_at d) path ∙ laws.ends.reached s has in
      let source : t.0.source ≡ s.source = grind (arith, same) in
      let here : Contains (scope_bits s) (at s.path c) = subst (λ z. Contains (scope_bits z) (at s.path c)) (ap₂ scope_of path source) t.2 in
      by (ports s has empty (at s.path c) here)
    where
      by : Contains (input_bits s) (at s.path c) ⊎ Contains (output_bits s) (at s.path c) → ⊥
      by (inr h) = outside h
      by (inl h) =
          let moved : input_bits s ≡ map (at s.path) (top_inputs (alone m)) = sym (same_inputs s.path s.source m fits) ∙ net_at s.path (filter (λ net. list_any is_input (option_to_list net.port)) (nets_of m)) in
          let i = from_map (at s.path) (top_inputs (alone m)) (at s.path c) (subst (λ l. Contains l (at s.path c)) moved h) in
          let one : i.0 ≡ c = unmoved s.path i.0 c (input_path (scope_of [] m) i.0 i.1) (inner_path m is c there) i.2 in
          distinct_across (top_inputs (alone m)) (bits_driven (m ∷ []) (scope_of [] m)) c (apart_alone m is) (subst (Contains (top_inputs (alone m))) one i.1) there

  exchanges : IsDistinct (driven_bits d) → Exchanges (bits_driven d.text) (λ s. bits_driven text (changed modules s)) (λ s. scope_bits (changed modules s)) (driven_bits d) (scopes d)
  exchanges once = record { each = each; within = within; split = split }
    where
      stays : (s : Scope) → replaced modules s.source ≡ s.source → bits_driven text (changed modules s) ≡ bits_driven d.text s
      stays s e = ap (λ z. bits_driven text (scope_of s.path z)) e ∙ ap (λ l. map (λ (x : Drive). x.bit) (flat_map drives_at (map (λ c. (s, c)) l))) (same_constructs modules d.text may s)

      goes : (s : Scope) (m : PlainModule) → MayReplace s.source m → replaced modules s.source ≡ m → bits_driven text (changed modules s) ≡ map (at s.path) (bits_driven (m ∷ []) (scope_of [] m))
      goes s m fits e = ap (λ z. bits_driven text (scope_of s.path z)) e ∙ bits_moved text s.path m fits.not_empty fits.combinational

      each : (s : Scope) → Contains (scopes d) s → IsDistinct (bits_driven text (changed modules s))
      each s has = by (place_for modules s.source)
        where
          by : Place modules s.source → IsDistinct (bits_driven text (changed modules s))
          by (Stays e) = subst IsDistinct (sym (stays s e)) (distinct_one (bits_driven d.text) (scopes d) s has (distinct_right (top_inputs d) (flat_map (bits_driven d.text) (scopes d)) (subst IsDistinct (driven_flat d) once)))
          by (Goes m empty named e) =
              let is = alone_of s has empty m named in
              subst IsDistinct (sym (goes s m (may s.source m (source_there d laws s has) empty named) e))
              (distinct_map (at s.path) (bits_driven (m ∷ []) (scope_of [] m)) (λ b c x y. unmoved s.path b c (inner_path m is b x) (inner_path m is c y)) (distinct_right (top_inputs (alone m)) (bits_driven (m ∷ []) (scope_of [] m)) (apart_alone m is)))

      within : (s : Scope) (b : Bit) → Contains (scopes d) s → Contains (bits_driven d.text s) b → Contains (driven_bits d) b
      within s b has here = subst (λ l. Contains l b) (sym (driven_flat d)) (Contains-append_right (top_inputs d) (flat_map (bits_driven d.text) (scopes d)) b (into_flat (bits_driven d.text) (scopes d) s b has here))

      split : (s : Scope) (b : Bit) → Contains (scopes d) s → Contains (bits_driven text (changed modules s)) b → Contains (bits_driven d.text s) b ⊎ ((Contains (driven_bits d) b → ⊥) × Contains (scope_bits (changed modules s)) b)
      split s b has here = by (place_for modules s.source)
        where
          by : Place modules s.source → Contains (bits_driven d.text s) b ⊎ ((Contains (driven_bits d) b → ⊥) × Contains (scope_bits (changed modules s)) b)
          by (Stays e) = inl (subst (λ l. Contains l b) (stays s e) here)
          by (Goes m empty named e) =
              let fits = may s.source m (source_there d laws s has) empty named in
              let c = from_map (at s.path) (bits_driven (m ∷ []) (scope_of [] m)) b (subst (λ l. Contains l b) (goes s m fits e) here) in
              test fits (alone_of s has empty m named) c.0 c.1 c.2 (list_any (same_bit b) (output_bits s)) refl
            where
              test : MayReplace s.source m → IsAlone m → (c : Bit) → Contains (bits_driven (m ∷ []) (scope_of [] m)) c → at s.path c ≡ b → (t : Bool) → list_any (same_bit b) (output_bits s) ≡ t → Contains (bits_driven d.text s) b ⊎ ((Contains (driven_bits d) b → ⊥) × Contains (scope_bits (changed modules s)) b)
              test fits is c there same true f = inl (outputs_driven s (is_boxed s has empty) b ((found b (output_bits s)).0 f))
              test fits is c there same false f = inr (none, placed)
                where
                  outside : Contains (output_bits s) b → ⊥
                  outside h = true≢false (sym ((found b (output_bits s)).1 h) ∙ f)

                  none : Contains (driven_bits d) b → ⊥
                  none h = fresh s m has empty fits is c there (λ k. outside (subst (Contains (output_bits s)) same k)) (subst (Contains (driven_bits d)) (sym same) h)

                  placed : Contains (scope_bits (changed modules s)) b
                  placed = subst (λ z. Contains (scope_bits (scope_of s.path z)) b) (sym e) (subst (λ l. Contains l b) (sym (net_at s.path (nets_of m))) (subst (Contains (map (at s.path) (scope_bits (scope_of [] m)))) same (contains-map (at s.path) (scope_bits (scope_of [] m)) c (inner_there m is c there))))

  pub driven_once : IsDistinct (net_order (replaced_design modules d)) → AreDrivenOnce d → AreDrivenOnce (replaced_design modules d)
  driven_once nets once = from_distinct (driven_bits (replaced_design modules d)) (subst IsDistinct (sym listed) (distinct_joined (top_inputs d) (flat_map new (scopes d)) (distinct_left (top_inputs d) (flat_map (bits_driven d.text) (scopes d)) olds) news apart))
    where
      new : Scope → List Bit
      new s = bits_driven text (changed modules s)

      net : Scope → List Bit
      net s = scope_bits (changed modules s)

      listed : driven_bits (replaced_design modules d) ≡ top_inputs d ++ flat_map new (scopes d)
      listed = driven_flat (replaced_design modules d) ∙ ap₂ (λ a b. a ++ b) (inputs_stay modules d laws may) (ap (flat_map (bits_driven text)) (scopes_same modules d may laws.top) ∙ flat_same_within new (changed modules) (bits_driven text) (scopes d) (λ s has. refl))

      distinct : IsDistinct (driven_bits d)
      distinct = to_distinct (driven_bits d) once

      olds : IsDistinct (top_inputs d ++ flat_map (bits_driven d.text) (scopes d))
      olds = subst IsDistinct (driven_flat d) distinct

      placed : IsDistinct (flat_map net (scopes d))
      placed = subst IsDistinct (ap (flat_map scope_bits) (scopes_same modules d may laws.top) ∙ flat_same_within net (changed modules) scope_bits (scopes d) (λ s has. refl)) nets

      news : IsDistinct (flat_map new (scopes d))
      news = exchanged (bits_driven d.text) new net (driven_bits d) (scopes d) (exchanges distinct) (distinct_right (top_inputs d) (flat_map (bits_driven d.text) (scopes d)) olds) placed

      apart : (b : Bit) → Contains (top_inputs d) b → Contains (flat_map new (scopes d)) b → ⊥
      apart b top has = let s = from_flat new (scopes d) b has in by s.0 s.1 ((exchanges distinct).split s.0 b s.1 s.2)
        where
          by : (s : Scope) → Contains (scopes d) s → Contains (bits_driven d.text s) b ⊎ ((Contains (driven_bits d) b → ⊥) × Contains (scope_bits (changed modules s)) b) → ⊥
          by s here (inl h) = distinct_across (top_inputs d) (flat_map (bits_driven d.text) (scopes d)) b olds top (into_flat (bits_driven d.text) (scopes d) s b here h)
          by s here (inr h) = h.0 (subst (λ l. Contains l b) (sym (driven_flat d)) (Contains-append_left (top_inputs d) (flat_map (bits_driven d.text) (scopes d)) b top))
