-- Parts can be made for the constructs of a module of a checked text, where they make few cells.
use Rattle.std.proofs.Common.{◌≡◌, ◌⊎◌, ℕ, ◌≤◌, Bool, true, false, if◌then◌else◌, List, [], ◌∷◌, ◌++◌, map, take, get_or, length, Contains, Option, Some, None, refl, sym, ◌∙◌, subst, inl, inr, arith}
use Rattle.std.specs.Prelude.{All, IsSomeAnd, nat_lt, slice_get, option_to_list}
use Rattle.std.specs.List.{enumerate_from, flat_map}
use Rattle.std.specs.Option.{option_and_then}
use Rattle.std.proofs.lemmas.Bool.Decides.{nat_tests}
use Rattle.std.proofs.lemmas.List.Elements.{All-contains, All-take, All-drop, Contains-append_left, Contains-append_right}
use Rattle.bb_ast.specs.declared.module.Range.{Range}
use Rattle.bb_ast.specs.Inside.Formed.{IsFormed, IsNetOrBit}
use Rattle.bb_ast.specs.Gates.{output_count}
use Rattle.bb_ast.specs.Syntax.{Expression, Net, Bit, Part, Sized, Plain, Not, Fold, Chain, Words, Cond, Concat, Repeat, PlainConns, Order, Named, PlainAlways, PlainBody, Ports, Nets, Regs, Supply, Assign, Gates, Calls, Always, PlainItem, PlainModule}
use Rattle.bb_names.specs.declared.net.NetKind.TheVariants.{Wire}
use Rattle.bb_names.specs.declared.fault.NameFault.TheVariants as name_faults
use Rattle.bb_names.specs.Inside.Checked.{ModuleFacts, syntax, IsChecked}
use Rattle.bb_names.specs.Declarations.{Declaration, declarations, declared_by, declared_by_head, net_declaration, supply_kind, range_of}
use Rattle.bb_names.specs.Faults.{is_input, wrong_width, widest}
use Rattle.bb_names.specs.Ranges.{range_width}
use Rattle.bb_names.specs.Sites.{Pin, Site, Declared, Clock, Read, Stored, declared_sites, item_sites, initial_sites, sites_in, module_named, pin_named, pin_at}
use Rattle.bb_bits.specs.Earlier.{each_from}
use Rattle.bb_expr.specs.Inside.Fit.{AreFit, IsFit}
use Rattle.bb_expr.specs.Laws.FitLaws.{OccurrencesAreFit}
use Rattle.bb_expr.specs.Inside.Occurrences.{item_expressions, conns_expressions, OccursAt}
use Rattle.bb_design.specs.Constructs.{Construct, Assignment, Register, SupplyNet, InputConnection, OutputConnection, initial_construct, gate_construct, connection, connections, body_constructs}
use Rattle.bb_design.specs.NetBits.{written_bits, Bit as NetBit}
use Rattle.bb_blast.specs.Inside.BitBlasting.{module_in, scope_of, module_constructs, FitsAt, IsClockAt, Fits, IsMakeable, IsModest}
use Rattle.bb_lemmas.proofs.Places.{there_at, got-map}
use Rattle.bb_lemmas.proofs.Members.{all_from, each_of, from_flat, from_map, contains-map, into_flat, contains_here, contains_there, contains_cases, none_in_nil, none_if}
use Rattle.bb_blast.proofs.ModuleItems.{item_occurs}
use Rattle.bb_blast.proofs.ModulePlaces.{module-is, has_nets}
use Rattle.bb_blast.proofs.RegisterItems.{HasClock, formed_clock}
use Rattle.bb_blast.proofs.PortNets.{named_has}
use Rattle.bb_design.specs.Laws.SoundSites.{IsSoundSite}
use Rattle.bb_lemmas.proofs.Numbered.{from_numbered}
use Rattle.bb_lemmas.proofs.Ranges.{length-run}
use Rattle.bb_design.specs.Laws.DesignLaws.{DesignLaws}

at_most : (a b : ℕ) → nat_lt a b ≡ false → b ≤ a
at_most a b h = grind (arith, nat_tests, h)

-- what one gives after those before it
at_each : {A B : Type 0} (gives : List A → A → List B) (before xs : List A) (x : A) → Contains xs x → (earlier : List A) × ((z : B) → Contains (gives earlier x) z → Contains (each_from gives before xs) z)
at_each gives before [] x has = absurd (none_in_nil x has)
at_each gives before (y ∷ ys) x has = by (contains_cases y ys x has) (at_each gives (before ++ y ∷ []) ys x)
  where
    by : (y ≡ x) ⊎ Contains ys x → (Contains ys x → (earlier : List _) × ((z : _) → Contains (gives earlier x) z → Contains (each_from gives (before ++ y ∷ []) ys) z))
        → (earlier : List _) × ((z : _) → Contains (gives earlier x) z → Contains (each_from gives before (y ∷ ys)) z)
    by (inl same) rest = (before, λ z h. Contains-append_left (gives before y) (each_from gives (before ++ y ∷ []) ys) z (subst (λ w. Contains (gives before w) z) (sym same) h))
    by (inr more) rest = let r = rest more in (r.0, λ z h. Contains-append_right (gives before y) (each_from gives (before ++ y ∷ []) ys) z (r.1 z h))

some_width : (r : Option Range) → 1 ≤ range_width r
some_width None = omega arith
some_width (Some r) = omega arith

module _ (of_designs : DesignLaws) (checked : List ModuleFacts) (ok : IsChecked checked) (law : OccurrencesAreFit) (k : ℕ) (f : ModuleFacts) (there : slice_get checked k ≡ Some f) where
  abbrev text : List PlainModule
  text = map syntax checked

  -- the module itself
  abbrev m : PlainModule
  m = syntax f

  in_text : Contains text m
  in_text = there_at text k m (got-map syntax checked k f there)

  fits_occurring : (e : Expression) → OccursAt checked k e → FitsAt checked k e
  fits_occurring e occurs = law checked k e ok occurs

  -- a declared net of the module may be on a left side
  fits_declared : (d : Declaration) → Contains (declarations m) d → d.instance ≡ false → ((before : List Declaration) × (wrong_width text m (Declared before d) ≡ [])) → FitsAt checked k (Net d.name)
  fits_declared d has plain spot =
      let bounded : range_width (range_of m d.name) ≤ widest = at_most widest (range_width (range_of m d.name)) (none_if _ d.name spot.1) in
      let fit : IsFit f (Net d.name) = record { right = named_has of_designs f (has_nets checked k f there ok) d.name ((of_designs.nets m).declared d has plain); some = some_width (range_of m d.name); bounded = bounded } in
      subst (λ o. IsSomeAnd o (λ m. AreFit m (Net d.name))) (sym there) (record { each = all_from (IsFit f) (Net d.name ∷ []) (λ e in_one. only fit e (contains_cases (Net d.name) [] e in_one)) })
    where
      only : IsFit f (Net d.name) → (e : Expression) → (Net d.name ≡ e) ⊎ Contains [] e → IsFit f e
      only fit e (inl same) = subst (IsFit f) same fit
      only fit e (inr none) = absurd (none_in_nil e none)

  -- what is connected
  connection_fits : (i : List ℕ) (pin : Option Pin) (e : Option Expression) → ((x : Expression) → e ≡ Some x → OccursAt checked k x) → (c : Construct) → Contains (connection i pin e) c → Fits checked k c
  connection_fits i None e occurs c has = absurd (none_in_nil c has)
  connection_fits i (Some pin) None occurs c has = absurd (none_in_nil c has)
  connection_fits i (Some pin) (Some e) occurs c has = by (contains_cases (if is_input pin.dir then InputConnection i pin e else OutputConnection i pin e) [] c has)
    where
      side : (b : Bool) → Fits checked k (if b then InputConnection i pin e else OutputConnection i pin e)
      side true = occurs e refl
      side false = fits_occurring e (occurs e refl)

      by : ((if is_input pin.dir then InputConnection i pin e else OutputConnection i pin e) ≡ c) ⊎ Contains [] c → Fits checked k c
      by (inl same) = subst (Fits checked k) same (side (is_input pin.dir))
      by (inr none) = absurd (none_in_nil c none)

  conns_fits : (target : Option PlainModule) (x : List ℕ × PlainConns) → ((e : Expression) → Contains (conns_expressions x.1) e → OccursAt checked k e) → (c : Construct) → Contains (connections target x) c → Fits checked k c
  conns_fits target (i, Order places) occurs c has =
      let y = from_flat (λ y. connection i (option_and_then (λ m. pin_at m y.0) target) y.1) (enumerate_from 0 places) c has in
      connection_fits i (option_and_then (λ m. pin_at m y.0.0) target) y.0.1 (λ x e. occurs x (into_flat option_to_list places y.0.1 x (from_numbered 0 places y.0 y.1) (subst (λ o. Contains (option_to_list o) x) (sym e) (contains_here x [])))) c y.2
  conns_fits target (i, Named all) occurs c has =
      let y = from_flat (λ y. connection i (option_and_then (λ m. pin_named m y.0) target) y.1) all c has in
      connection_fits i (option_and_then (λ m. pin_named m y.0.0) target) y.0.1 (λ x e. occurs x (into_flat (λ z. option_to_list z.1) all y.0 x y.1 (subst (λ o. Contains (option_to_list o) x) (sym e) (contains_here x [])))) c y.2

  clock_fits : (r : PlainAlways) → OccursAt checked k r.clock → IsSoundSite text (scope_of m) (Clock r.clock) → IsNetOrBit r.clock → IsClockAt checked k r.clock
  clock_fits r occurs sound one = record { fits = fits_occurring r.clock occurs; one = subst (λ (x : PlainModule). length (written_bits (scope_of x) r.clock) ≡ 1) (sym (module-is checked k f there)) (by r.clock sound one) }
    where
      by : (e : Expression) → IsSoundSite text (scope_of m) (Clock e) → IsNetOrBit e → length (written_bits (scope_of m) e) ≡ 1
      by (Net n) sound one = length-run {A = NetBit} (λ k. record { path = (scope_of m).path; net = n; place = k }) 0 (range_width (range_of m n)) ∙ of_designs.clock_width text (scope_of m) (Net n) sound (λ e. none_cons n [] e)
        where
          none_cons : (x : List ℕ) (xs : List (List ℕ)) → x ∷ xs ≡ [] → ⊥
          none_cons x xs e = grind (arith, e)
      by (Bit n i) sound one = refl
      by (Part n i j) sound one = absurd one
      by (Sized bits) sound one = absurd one
      by (Plain n) sound one = absurd one
      by (Not k e) sound one = absurd one
      by (Fold op e) sound one = absurd one
      by (Chain e rest) sound one = absurd one
      by (Words e rest) sound one = absurd one
      by (Cond all last) sound one = absurd one
      by (Concat all) sound one = absurd one
      by (Repeat k all) sound one = absurd one

  abbrev AreSound : List Site → Type 0
  AreSound sites = (z : Site) → Contains sites z → IsSoundSite text (scope_of m) z

  wide : (before : List Declaration) (d : Declaration) → IsSoundSite text (scope_of m) (Declared before d) → wrong_width text m (Declared before d) ≡ []
  wide before d sound = sound (name_faults.Width, wrong_width) (3, omega arith, refl)

  declared_site : (earlier : List Declaration) (range : Option Range) (nets : List (List ℕ × Option Expression)) (x : List ℕ × Option Expression) → Contains nets x → AreSound (item_sites text earlier (Nets range nets))
      → (before : List Declaration) × (wrong_width text m (Declared before (net_declaration Wire range x.0)) ≡ [])
  declared_site earlier range nets x has sound =
      let at = at_each (λ before x. Declared (earlier ++ map (λ y. net_declaration Wire range y.0) before) (net_declaration Wire range x.0) ∷ initial_sites x) [] nets x has in
      let before = earlier ++ map (λ (y : List ℕ × Option Expression). net_declaration Wire range y.0) at.0 in
      (before, wide before (net_declaration Wire range x.0) (sound (Declared before (net_declaration Wire range x.0)) (at.1 _ (contains_here (Declared before (net_declaration Wire range x.0)) (initial_sites x)))))

  supply_site : (earlier all : List Declaration) (d : Declaration) → Contains all d → AreSound (declared_sites earlier all) → (before : List Declaration) × (wrong_width text m (Declared before d) ≡ [])
  supply_site earlier all d has sound =
      let at = at_each (λ before d. Declared (earlier ++ before) d ∷ []) [] all d has in
      (earlier ++ at.0, wide (earlier ++ at.0) d (sound (Declared (earlier ++ at.0) d) (at.1 _ (contains_here (Declared (earlier ++ at.0) d) []))))

  initial_fits : (range : Option Range) (x : List ℕ × Option Expression) → ((e : Expression) → x.1 ≡ Some e → OccursAt checked k e) → FitsAt checked k (Net x.0) → (c : Construct) → Contains (initial_construct x) c → Fits checked k c
  initial_fits range (n, None) occurs net c has = absurd (none_in_nil c has)
  initial_fits range (n, Some e) occurs net c has = by (contains_cases (Assignment (Net n) e) [] c has)
    where
      by : (Assignment (Net n) e ≡ c) ⊎ Contains [] c → Fits checked k c
      by (inl same) = subst (Fits checked k) same (net, occurs e refl)
      by (inr none) = absurd (none_in_nil c none)

  body_fits : (earlier : List Declaration) (body : PlainBody) → AreSound (item_sites text earlier body) → ((x : Declaration) → Contains (declared_by body) x → Contains (declarations m) x)
      → All (OccursAt checked k) (item_expressions body) → HasClock body → (c : Construct) → Contains (body_constructs text body) c → Fits checked k c
  body_fits earlier (Ports port names) sound declares occurs clock c has = absurd (none_in_nil c has)
  body_fits earlier (Nets range nets) sound declares occurs clock c has =
      let x = from_flat initial_construct nets c has in
      let d = net_declaration Wire range x.0.0 in
      initial_fits range x.0 (λ e is. All-contains (OccursAt checked k) (item_expressions (Nets range nets)) e occurs (into_flat (λ y. option_to_list y.1) nets x.0 e x.1 (subst (λ o. Contains (option_to_list o) e) (sym is) (contains_here e []))))
      (fits_declared d (declares d (contains-map (λ y. net_declaration Wire range y.0) nets x.0 x.1)) refl (declared_site earlier range nets x.0 x.1 sound)) c x.2
  body_fits earlier (Regs range names) sound declares occurs clock c has = absurd (none_in_nil c has)
  body_fits earlier (Supply high range names) sound declares occurs clock c has =
      let n = from_map (SupplyNet high) names c has in
      let d = net_declaration (supply_kind high) range n.0 in
      let all = declared_by (Supply high range names) in
      let in_all = contains-map (net_declaration (supply_kind high) range) names n.0 n.1 in
      subst (Fits checked k) n.2 (fits_declared d (declares d in_all) refl (supply_site earlier all d in_all sound))
  body_fits earlier (Assign all) sound declares occurs clock c has =
      let x = from_map (λ x. Assignment x.0 x.1) all c has in
      let both : (e : Expression) → Contains (x.0.0 ∷ x.0.1 ∷ []) e → OccursAt checked k e = λ e in_both. All-contains (OccursAt checked k) (item_expressions (Assign all)) e occurs (into_flat (λ y. y.0 ∷ y.1 ∷ []) all x.0 e x.1 in_both) in
      subst (Fits checked k) x.2 (fits_occurring x.0.0 (both x.0.0 (contains_here x.0.0 (x.0.1 ∷ []))), both x.0.1 (contains_there x.0.0 (x.0.1 ∷ []) x.0.1 (contains_here x.0.1 [])))
  body_fits earlier (Gates gate all) sound declares occurs clock c has =
      let x = from_map (λ x. gate_construct gate x.1) all c has in
      let terms : All (OccursAt checked k) x.0.1 = all_from (OccursAt checked k) x.0.1 (λ e in_terms. All-contains (OccursAt checked k) (item_expressions (Gates gate all)) e occurs (into_flat (λ y. y.1) all x.0 e x.1 in_terms)) in
      let n = output_count gate (length x.0.1) in
      subst (Fits checked k) x.2 ((λ i e lt. fits_occurring (get_or (take n x.0.1) i e) (All-take (OccursAt checked k) n x.0.1 terms i e lt)), All-drop (OccursAt checked k) n x.0.1 terms)
  body_fits earlier (Calls target calls) sound declares occurs clock c has =
      let x = from_flat (connections (module_named text target)) calls c has in
      conns_fits (module_named text target) x.0 (λ e in_conns. All-contains (OccursAt checked k) (item_expressions (Calls target calls)) e occurs (into_flat (λ y. conns_expressions y.1) calls x.0 e x.1 in_conns)) c x.2
  body_fits earlier (Always r) sound declares occurs clock c has = by (contains_cases (Register r) [] c has)
    where
      in_item : (e : Expression) → Contains (r.clock ∷ r.left ∷ r.right ∷ []) e → OccursAt checked k e
      in_item e has = All-contains (OccursAt checked k) (item_expressions (Always r)) e occurs has

      fits : Fits checked k (Register r)
      fits = (
        in_item r.left (contains_there r.clock (r.left ∷ r.right ∷ []) r.left (contains_here r.left (r.right ∷ []))),
        in_item r.right (contains_there r.clock (r.left ∷ r.right ∷ []) r.right (contains_there r.left (r.right ∷ []) r.right (contains_here r.right []))),
        clock_fits r (in_item r.clock (contains_here r.clock (r.left ∷ r.right ∷ []))) (sound (Clock r.clock) (contains_here (Clock r.clock) (sites_in Read r.clock ++ sites_in Stored r.left ++ sites_in Read r.right))) clock,
      )

      by : (Register r ≡ c) ⊎ Contains [] c → Fits checked k c
      by (inl same) = subst (Fits checked k) same fits
      by (inr none) = absurd (none_in_nil c none)

  -- parts can be made for all of its constructs
  pub all_makeable : IsModest text (module_in checked k) → All (IsMakeable checked k) (module_constructs text (module_in checked k))
  all_makeable modest = all_from (IsMakeable checked k) (module_constructs text (module_in checked k)) (λ c has.
      let item = from_flat (λ item. body_constructs text item.body) (module_in checked k).items c has in
      let in_module : Contains m.items item.0 = subst (λ (x : PlainModule). Contains x.items item.0) (module-is checked k f there) item.1 in
      let sites = of_designs.sound_sites text ok.sound m in_text item.0 in_module in
      record {
        fits = body_fits sites.0 item.0.body sites.1 (λ x in_body. Contains-append_right (flat_map declared_by_head m.heads) (flat_map (λ (i : PlainItem). declared_by i.body) m.items) x (into_flat (λ (i : PlainItem). declared_by i.body) m.items item.0 x in_module in_body))
            (item_occurs checked k f there item.0 item.1) (formed_clock m (each_of IsFormed text ok.read.formed m in_text) item.0 in_module) c item.2;
        few = modest.cells c has;
      })
