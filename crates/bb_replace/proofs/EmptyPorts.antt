-- In a text without faults an empty module has no nets but its ports, and each port has a direction.
use Rattle.std.proofs.Common.{◌≡◌, ◌⊎◌, ℕ, Bool, true, false, not, ◌&&◌, List, [], ◌∷◌, ◌++◌, map, find, filter, Contains, Option, Some, None, inl, inr, refl, sym, ap, ◌∙◌, subst, arith}
use Rattle.std.specs.Prelude.{is_none, option_to_list}
use Rattle.std.specs.List.{flat_map, list_any}
use Rattle.std.specs.Option.{option_and_then}
use Rattle.std.proofs.lemmas.List.Elements.{Contains-append_cases}
use lib.Pointwise.{bytes_decides}
use Rattle.bb_ast.specs.declared.module.Dir.{Dir}
use Rattle.bb_ast.specs.declared.module.Port.{Port}
use Rattle.bb_ast.specs.Syntax.{Expression, PlainBody, Ports, Nets, Regs, Supply, Assign, Gates, Calls, Always, PlainHead, PlainItem, PlainModule}
use Rattle.bb_bits.specs.Earlier.{each_after, each_from, once}
use Rattle.bb_bits.specs.Names.{same_name}
use Rattle.bb_names.specs.declared.fault.NameFault.{NameFault}
use Rattle.bb_names.specs.declared.fault.NameFault.TheVariants as faults
use Rattle.bb_names.specs.declared.net.NetInfo.{NetInfo}
use Rattle.bb_names.specs.declared.net.NetKind.TheVariants.{Reg, Wire}
use Rattle.bb_names.specs.Declarations.{Declaration, declarations, declared_by, declared_by_head, direction_of, implicit_names, implicit_places, is_port, net_declaration, port_declaration, port_direction}
use Rattle.bb_names.specs.Faults.{IsSound, Rows, is_input, kinds, module_faults, statement_faults, twice, unknown, wrong_role}
use Rattle.bb_names.specs.Nets.{is_empty, is_of_empty, net_names, net_of, nets_of}
use Rattle.bb_names.specs.Sites.{Declared, HeadName, ModuleName, Site, declared_sites, header_sites, item_sites}
use Rattle.bb_lemmas.proofs.Earlier.{each_nil, each_there}
use Rattle.bb_lemmas.proofs.Members.{any_there, contains-map, contains_cases, contains_here, contains_there, find_there, flat_nil, from_flat, from_map, into_flat, keeps, kept_from, left_nil, map_nil, none_in_nil, right_nil}
use Rattle.bb_design.specs.Hierarchy.{Path}
use Rattle.bb_design.specs.Laws.SoundSites.{SoundTextsHaveSoundSites}
use Rattle.bb_design.specs.NetBits.{Bit, bits_of_net, input_bits, output_bits, scope_bits}
use Rattle.bb_replace.proofs.ReplacedRegisters.{all_there}

once_there : (names : List (List ℕ)) (n : List ℕ) → Contains (once names) n → Contains names n
once_there [] n has = absurd (none_in_nil n has)
once_there (m ∷ names) n has = by (contains_cases m (filter (λ k. not (same_name m k)) (once names)) n has) (once_there names n)
  where
    by : (m ≡ n) ⊎ Contains (filter (λ k. not (same_name m k)) (once names)) n → (Contains (once names) n → Contains names n) → Contains (m ∷ names) n
    by (inl same) more = subst (Contains (m ∷ names)) same (contains_here m names)
    by (inr h) more = contains_there m names n (more (kept_from (λ k. not (same_name m k)) (once names) n h).0)

module _ (text : List PlainModule) (sound : IsSound text) (sites : SoundTextsHaveSoundSites) (e : PlainModule) (there : Contains text e) (empty : is_empty e ≡ true) where
  -- names of the header have a direction

  head_directed : (h : PlainHead) → Contains e.heads h → is_none (direction_of e h.name) ≡ false
  head_directed h has = by (is_none (direction_of e h.name)) refl
    where
      at : (earlier : List PlainModule) × (module_faults text earlier e ≡ [])
      at = each_nil (module_faults text) [] text sound e there

      header : statement_faults text e e.line (header_sites at.0 e) ≡ []
      header = left_nil (statement_faults text e e.line (header_sites at.0 e)) _ at.1

      rest : map (faults.Unknown e.line) (flat_map (unknown text e) (header_sites at.0 e)) ≡ []
      rest = left_nil (map (faults.Unknown e.line) (flat_map (unknown text e) (header_sites at.0 e))) _ (right_nil (map (faults.Twice e.line) (flat_map (twice text e) (header_sites at.0 e))) _ header)

      heads : List PlainHead → PlainHead → List Site
      heads before head = HeadName before head.name ∷ declared_sites (flat_map declared_by_head before) (declared_by_head head)

      site : (earlier : List PlainHead) × ((z : Site) → Contains (heads earlier h) z → Contains (each_from heads [] e.heads) z)
      site = each_there heads [] e.heads h has

      quiet : unknown text e (HeadName site.0 h.name) ≡ []
      quiet = flat_nil (unknown text e) (header_sites at.0 e) (map_nil (faults.Unknown e.line) (flat_map (unknown text e) (header_sites at.0 e)) rest) (HeadName site.0 h.name)
          (contains_there (ModuleName at.0 e.name) (each_after heads e.heads) (HeadName site.0 h.name) (site.1 (HeadName site.0 h.name) (contains_here (HeadName site.0 h.name) _)))

      by : (b : Bool) → is_none (direction_of e h.name) ≡ b → is_none (direction_of e h.name) ≡ false
      by false f = f
      by true f = absurd (grind (arith, f, quiet))

  port_directed : (n : List ℕ) → Contains (map (λ (head : PlainHead). head.name) e.heads) n → (dir : Dir) × (port_direction e n ≡ Some dir)
  port_directed n has =
      let h = from_map (λ (head : PlainHead). head.name) e.heads n has in
      let f = find_there (λ (head : PlainHead). same_name head.name n) e.heads h.0 h.1 ((bytes_decides h.0.name n).1 h.2) in
      by (direction_of e n) refl (ap is_none (ap (direction_of e) (sym h.2)) ∙ head_directed h.0 h.1) f.0 f.1
    where
      by : (o : Option Dir) → direction_of e n ≡ o → is_none (direction_of e n) ≡ false → (h : PlainHead) → find (λ (head : PlainHead). same_name head.name n) e.heads ≡ Some h → (dir : Dir) × (port_direction e n ≡ Some dir)
      by None f some h g = absurd (grind (arith, f, some))
      by (Some dir) f some h g = (dir, ap (option_and_then (λ (head : PlainHead). direction_of e n)) g ∙ f)

  is_head : (n : List ℕ) → is_port e n ≡ true → Contains (map (λ (head : PlainHead). head.name) e.heads) n
  is_head n port =
      let h = any_there (λ (head : PlainHead). same_name head.name n) e.heads port in
      subst (Contains (map (λ (head : PlainHead). head.name) e.heads)) ((bytes_decides h.0.name n).0 h.2) (contains-map (λ (head : PlainHead). head.name) e.heads h.0 h.1)

  -- what an item of an empty module declares is a port

  declared_port : (i : PlainItem) → Contains e.items i → (body : PlainBody) → i.body ≡ body → is_of_empty e body ≡ true → (d : Declaration) → Contains (declared_by body) d → is_port e d.name ≡ true
  declared_port i has (Ports port names) same ok d there_d =
      let site = sites text sound e there i has in
      let k = from_map (port_declaration port) names d there_d in
      let at = each_there (λ before x. Declared (site.0 ++ before) x ∷ []) [] (declared_by (Ports port names)) d there_d in
      let quiet : wrong_role text e (Declared (site.0 ++ at.0) d) ≡ [] = site.1 (Declared (site.0 ++ at.0) d) (subst (λ b. Contains (item_sites text site.0 b) (Declared (site.0 ++ at.0) d)) (sym same) (at.1 (Declared (site.0 ++ at.0) d) (contains_here (Declared (site.0 ++ at.0) d) []))) (faults.Role, wrong_role) role in
      by d (sym k.2) site.0 at.0 quiet (is_port e d.name) refl
    where
      role : Contains {X = (ℕ → List ℕ → NameFault) × Rows} kinds (faults.Role, wrong_role)
      role = (4, omega arith, refl)

      by : (d : Declaration) → {k : List ℕ} → d ≡ port_declaration port k → (a b : List Declaration) → wrong_role text e (Declared (a ++ b) d) ≡ [] → (t : Bool) → is_port e d.name ≡ t → is_port e d.name ≡ true
      by d is a b quiet true f = f
      by d is a b quiet false f = absurd (grind (arith, quiet, f, ap (λ (z : Declaration). z.dir) is))
  declared_port i has (Nets range nets) same ok d there_d =
      let x = from_map (λ (x : List ℕ × Option Expression). net_declaration Wire range x.0) nets d there_d in
      let port = all_there (λ (x : List ℕ × Option Expression). is_none x.1 && is_port e x.0) nets ok x.0 x.1 in
      subst (λ (z : Declaration). is_port e z.name ≡ true) x.2 (second (is_none x.0.1) (is_port e x.0.0) port)
    where
      second : (a b : Bool) → (a && b) ≡ true → b ≡ true
      second true b e = e
      second false b e = grind (arith, e)
  declared_port i has (Regs range names) same ok d there_d =
      let n = from_map (net_declaration Reg range) names d there_d in
      subst (λ (z : Declaration). is_port e z.name ≡ true) n.2 (all_there (is_port e) names ok n.0 n.1)
  declared_port i has (Supply high range names) same ok d there_d = grind (arith, ok)
  declared_port i has (Assign all) same ok d there_d = grind (arith, ok)
  declared_port i has (Gates gate all) same ok d there_d = grind (arith, ok)
  declared_port i has (Calls target all) same ok d there_d = grind (arith, ok)
  declared_port i has (Always a) same ok d there_d = grind (arith, ok)

  nothing_implicit : (body : PlainBody) → is_of_empty e body ≡ true → implicit_places body ≡ []
  nothing_implicit (Ports port names) ok = refl
  nothing_implicit (Nets range nets) ok = refl
  nothing_implicit (Regs range names) ok = refl
  nothing_implicit (Supply high range names) ok = grind (arith, ok)
  nothing_implicit (Assign all) ok = grind (arith, ok)
  nothing_implicit (Gates gate all) ok = grind (arith, ok)
  nothing_implicit (Calls target all) ok = grind (arith, ok)
  nothing_implicit (Always a) ok = grind (arith, ok)

  item_ok : (i : PlainItem) → Contains e.items i → is_of_empty e i.body ≡ true
  item_ok i has = all_there (λ (item : PlainItem). is_of_empty e item.body) e.items empty i has

  head_declares : (h : PlainHead) (d : Declaration) → Contains (declared_by_head h) d → d.name ≡ h.name
  head_declares h d has = by h.decl refl
    where
      by : (o : Option Port) → h.decl ≡ o → d.name ≡ h.name
      by None f = absurd (none_in_nil d (subst (λ l. Contains l d) {y = []} (grind (arith, f)) has))
      by (Some port) f = one (contains_cases (port_declaration port h.name) [] d (subst (λ l. Contains l d) {y = port_declaration port h.name ∷ []} (grind (arith, f)) has))
        where
          one : (port_declaration port h.name ≡ d) ⊎ Contains {X = Declaration} [] d → d.name ≡ h.name
          one (inl same) = sym (ap (λ (z : Declaration). z.name) same)
          one (inr h) = absurd (none_in_nil d h)

  net_is_head : (n : List ℕ) → Contains (net_names e) n → Contains (map (λ (head : PlainHead). head.name) e.heads) n
  net_is_head n has = first (Contains-append_cases (map (λ (head : PlainHead). head.name) e.heads ++ map (λ (d : Declaration). d.name) (filter (λ (d : Declaration). not d.instance) (declarations e))) (implicit_names e) n (once_there _ n has))
    where
      from_declared : (d : Declaration) → Contains (declarations e) d → Contains (map (λ (head : PlainHead). head.name) e.heads) d.name
      from_declared d h = by (Contains-append_cases (flat_map declared_by_head e.heads) (flat_map (λ (item : PlainItem). declared_by item.body) e.items) d h)
        where
          by : Contains (flat_map declared_by_head e.heads) d ⊎ Contains (flat_map (λ (item : PlainItem). declared_by item.body) e.items) d → Contains (map (λ (head : PlainHead). head.name) e.heads) d.name
          by (inl k) = let x = from_flat declared_by_head e.heads d k in subst (Contains (map (λ (head : PlainHead). head.name) e.heads)) (sym (head_declares x.0 d x.2)) (contains-map (λ (head : PlainHead). head.name) e.heads x.0 x.1)
          by (inr k) = let i = from_flat (λ (item : PlainItem). declared_by item.body) e.items d k in is_head d.name (declared_port i.0 i.1 i.0.body refl (item_ok i.0 i.1) d i.2)

      first : Contains (map (λ (head : PlainHead). head.name) e.heads ++ map (λ (d : Declaration). d.name) (filter (λ (d : Declaration). not d.instance) (declarations e))) n ⊎ Contains (implicit_names e) n → Contains (map (λ (head : PlainHead). head.name) e.heads) n
      first (inl h) = second (Contains-append_cases (map (λ (head : PlainHead). head.name) e.heads) (map (λ (d : Declaration). d.name) (filter (λ (d : Declaration). not d.instance) (declarations e))) n h)
        where
          second : Contains (map (λ (head : PlainHead). head.name) e.heads) n ⊎ Contains (map (λ (d : Declaration). d.name) (filter (λ (d : Declaration). not d.instance) (declarations e))) n → Contains (map (λ (head : PlainHead). head.name) e.heads) n
          second (inl k) = k
          second (inr k) =
              let d = from_map (λ (d : Declaration). d.name) (filter (λ (d : Declaration). not d.instance) (declarations e)) n k in
              subst (Contains (map (λ (head : PlainHead). head.name) e.heads)) d.2 (from_declared d.0 (kept_from (λ (d : Declaration). not d.instance) (declarations e) d.0 d.1).0)
      first (inr h) =
          let k = (kept_from _ (flat_map (λ (item : PlainItem). implicit_places item.body) e.items) n h).0 in
          let i = from_flat (λ (item : PlainItem). implicit_places item.body) e.items n k in
          absurd (none_in_nil n (subst (λ l. Contains l n) (nothing_implicit i.0.body (item_ok i.0 i.1)) i.2))

  pub ports_alone : (path : Path) (b : Bit) → Contains (scope_bits (record { path = path; source = e })) b → Contains (input_bits (record { path = path; source = e })) b ⊎ Contains (output_bits (record { path = path; source = e })) b
  ports_alone path b has =
      let net = from_flat (bits_of_net path) (nets_of e) b has in
      let n = from_map (net_of e) (net_names e) net.0 net.1 in
      let dir = port_directed n.0 (net_is_head n.0 n.1) in
      by net.0 net.1 net.2 dir.0 (sym (ap (λ (z : NetInfo). z.port) n.2) ∙ dir.1) (is_input dir.0) refl
    where
      by : (net : NetInfo) → Contains (nets_of e) net → Contains (bits_of_net path net) b → (dir : Dir) → net.port ≡ Some dir → (t : Bool) → is_input dir ≡ t → Contains (input_bits (record { path = path; source = e })) b ⊎ Contains (output_bits (record { path = path; source = e })) b
      by net has here dir port true f = inl (into_flat (bits_of_net path) (filter (λ net. list_any is_input (option_to_list net.port)) (nets_of e)) net b (keeps (λ net. list_any is_input (option_to_list net.port)) (nets_of e) net has (grind (arith, port, f))) here)
      by net has here dir port false f = inr (into_flat (bits_of_net path) (filter (λ net. list_any (λ dir. not (is_input dir)) (option_to_list net.port)) (nets_of e)) net b (keeps (λ net. list_any (λ dir. not (is_input dir)) (option_to_list net.port)) (nets_of e) net has (grind (arith, port, f))) here)
