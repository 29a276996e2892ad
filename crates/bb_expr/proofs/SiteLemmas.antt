-- In a sound text no site of an item is at fault, and the sites of an item are those of its expressions and others.
use Rattle.std.proofs.Common.{◌≡◌, ℕ, ◌+◌, true, false, List, [], ◌∷◌, ◌++◌, map, length, take, drop, Option, Some, None, refl, ap, subst}
use Rattle.std.specs.Prelude.{option_to_list}
use Rattle.std.specs.List.{AllByRecursion, flat_map, enumerate_from}
use Rattle.std.specs.Option.{option_and_then}
use Rattle.std.proofs.lemmas.List.{take-append-drop}
use Rattle.bb_lemmas.proofs.Members.{left_nil, right_nil, map_nil}
use Rattle.bb_ast.specs.Syntax.{Expression, PlainConns, Order, Named, PlainBody, Ports, Nets, Regs, Supply, Assign, Gates, Calls, Always, PlainItem, PlainModule}
use Rattle.bb_ast.specs.declared.module.Gate.{Gate}
use Rattle.bb_ast.specs.declared.module.Range.{Range}
use Rattle.bb_ast.specs.Gates.{output_count}
use Rattle.bb_bits.specs.Earlier.{each_from}
use Rattle.bb_names.specs.declared.fault.NameFault.{NameFault}
use Rattle.bb_names.specs.declared.net.NetKind.TheVariants.{Wire}
use Rattle.bb_names.specs.Declarations.{Declaration, declared_by_head, declared_by, net_declaration, instance_declaration}
use Rattle.bb_names.specs.Sites.{Use, Read, Driven, Stored, Site, Pin, Terminal, PortName, Declared, Placed, module_named, pin_named, pin_at, place_count, sites_in, gate_sites, joined_sites, conns_sites, initial_sites, header_sites, item_sites, use_at}
use Rattle.bb_names.specs.Faults.{twice, unknown, wrong_select, wrong_width, wrong_role, statement_faults, module_faults, IsSound}
use Rattle.bb_expr.specs.Inside.Occurrences.{conns_expressions, item_expressions}
use Rattle.bb_expr.proofs.ListLemmas.{all-prefix, all-back, all-join, all-mapped, flat-nil}

-- nothing is at fault at a site
pub record IsClean (text : List PlainModule) (m : PlainModule) (s : Site) : Type 0 where
  pub twice : twice text m s ≡ []
  pub unknown : unknown text m s ≡ []
  pub select : wrong_select text m s ≡ []
  pub width : wrong_width text m s ≡ []
  pub role : wrong_role text m s ≡ []

abbrev pub AreClean : List PlainModule → PlainModule → List Site → Type 0
AreClean text m sites = AllByRecursion (IsClean text m) sites

-- an expression whose sites are clean, whatever happens to the names in it
abbrev pub HasCleanSites : List PlainModule → PlainModule → Expression → Type 0
HasCleanSites text m e = (how : Use) × AreClean text m (sites_in how e)

-- what a walk gives of each element, if it gives nothing
each-nil : {X Y : Type 0} (gives : List X → X → List Y) (before xs : List X) → each_from gives before xs ≡ [] → AllByRecursion (λ x. (earlier : List X) × (gives earlier x ≡ [])) xs
each-nil gives before [] h = tt
each-nil gives before (x ∷ xs) h =
    ((before, left_nil (gives before x) (each_from gives (before ++ x ∷ []) xs) h), each-nil gives (before ++ x ∷ []) xs (right_nil (gives before x) _ h))

clean-from : (text : List PlainModule) (m : PlainModule) (sites : List Site) → AllByRecursion (λ s. twice text m s ≡ []) sites → AllByRecursion (λ s. unknown text m s ≡ []) sites
    → AllByRecursion (λ s. wrong_select text m s ≡ []) sites → AllByRecursion (λ s. wrong_width text m s ≡ []) sites → AllByRecursion (λ s. wrong_role text m s ≡ []) sites → AreClean text m sites
clean-from text m [] a b c d e = tt
clean-from text m (s ∷ sites) a b c d e = (record { twice = a.0; unknown = b.0; select = c.0; width = d.0; role = e.0 }, clean-from text m sites a.1 b.1 c.1 d.1 e.1)

-- a statement without faults
statement-clean : (text : List PlainModule) (m : PlainModule) (line : ℕ) (sites : List Site) → statement_faults text m line sites ≡ [] → AreClean text m sites
statement-clean text m line sites none =
    let a = left_nil (map _ (flat_map (twice text m) sites)) _ none in
    let none1 = right_nil (map _ (flat_map (twice text m) sites)) _ none in
    let b = left_nil (map _ (flat_map (unknown text m) sites)) _ none1 in
    let none2 = right_nil (map _ (flat_map (unknown text m) sites)) _ none1 in
    let c = left_nil (map _ (flat_map (wrong_select text m) sites)) _ none2 in
    let none3 = right_nil (map _ (flat_map (wrong_select text m) sites)) _ none2 in
    let d = left_nil (map _ (flat_map (wrong_width text m) sites)) _ none3 in
    let none4 = right_nil (map _ (flat_map (wrong_width text m) sites)) _ none3 in
    let e = left_nil (map _ (flat_map (wrong_role text m) sites)) _ none4 in
    clean-from text m sites
    (flat-nil (twice text m) sites (map_nil _ _ a)) (flat-nil (unknown text m) sites (map_nil _ _ b)) (flat-nil (wrong_select text m) sites (map_nil _ _ c))
    (flat-nil (wrong_width text m) sites (map_nil _ _ d)) (flat-nil (wrong_role text m) sites (map_nil _ _ e))

-- the item's sites are clean, after some earlier declarations
abbrev pub IsCleanItem : List PlainModule → PlainModule → PlainItem → Type 0
IsCleanItem text m item = (earlier : List Declaration) × AreClean text m (item_sites text earlier item.body)

abbrev pub IsCleanModule : List PlainModule → PlainModule → Type 0
IsCleanModule text m = AllByRecursion (IsCleanItem text m) m.items

-- the declarations before an item: those of the header, and of the items before it
abbrev earlier_of : PlainModule → List PlainItem → List Declaration
earlier_of m before = flat_map declared_by_head m.heads ++ flat_map (λ x. declared_by x.body) before

abbrev item_faults : List PlainModule → PlainModule → List PlainItem → PlainItem → List NameFault
item_faults text m before item = statement_faults text m item.line (item_sites text (earlier_of m before) item.body)

abbrev Faultless : List PlainModule → PlainModule → PlainItem → Type 0
Faultless text m item = (before : List PlainItem) × (item_faults text m before item ≡ [])

module-clean : (text earlier : List PlainModule) (m : PlainModule) → module_faults text earlier m ≡ [] → IsCleanModule text m
module-clean text earlier m none =
    all-mapped (Faultless text m) (IsCleanItem text m) (λ item h. (earlier_of m h.0, statement-clean text m item.line (item_sites text (earlier_of m h.0) item.body) h.1)) m.items
    (each-nil (item_faults text m) [] m.items (right_nil (statement_faults text m m.line (header_sites earlier m)) _ none))

pub sound-clean : (text : List PlainModule) → IsSound text → AllByRecursion (IsCleanModule text) text
sound-clean text sound =
    all-mapped (λ m. (earlier : List PlainModule) × (module_faults text earlier m ≡ [])) (IsCleanModule text) (λ m h. module-clean text h.0 m h.1) text (each-nil (module_faults text) [] text sound)

-- the sites of a named connection, of a net with its declaration, and of an instance
abbrev named_sites : Option PlainModule → List (List ℕ × Option Expression) → List ℕ × Option Expression → List Site
named_sites target before x = PortName target (map (λ y. y.0) before) x.0 ∷ joined_sites (option_and_then (λ m. pin_named m x.0) target) x.1

abbrev net_sites : List Declaration → Option Range → List (List ℕ × Option Expression) → List ℕ × Option Expression → List Site
net_sites earlier range before x = Declared (earlier ++ map (λ y. net_declaration Wire range y.0) before) (net_declaration Wire range x.0) ∷ initial_sites x

abbrev call_sites : List PlainModule → List ℕ → List Declaration → List (List ℕ × PlainConns) → List ℕ × PlainConns → List Site
call_sites text target earlier before x = Declared (earlier ++ map (λ y. instance_declaration y.0) before) (instance_declaration x.0)
    ∷ Placed (module_named text target) x.0 (place_count x.1) ∷ conns_sites (module_named text target) x.1

-- the expressions of what a list gives have clean sites, if the sites of each element show it
module _ (text : List PlainModule) (m : PlainModule) where
  flat-clean : {X : Type 0} (sites : X → List Site) (expressions : X → List Expression) → ((x : X) → AreClean text m (sites x) → AllByRecursion (HasCleanSites text m) (expressions x))
      → (xs : List X) → AreClean text m (flat_map sites xs) → AllByRecursion (HasCleanSites text m) (flat_map expressions xs)
  flat-clean sites expressions each [] h = tt
  flat-clean sites expressions each (x ∷ xs) h =
      all-join (HasCleanSites text m) (expressions x) (flat_map expressions xs) (each x (all-prefix (IsClean text m) (sites x) (flat_map sites xs) h))
      (flat-clean sites expressions each xs (all-back (IsClean text m) (sites x) (flat_map sites xs) h))

  each-clean : {X : Type 0} (sites : List X → X → List Site) (expressions : X → List Expression) → ((before : List X) (x : X) → AreClean text m (sites before x) → AllByRecursion (HasCleanSites text m) (expressions x))
      → (before xs : List X) → AreClean text m (each_from sites before xs) → AllByRecursion (HasCleanSites text m) (flat_map expressions xs)
  each-clean sites expressions each before [] h = tt
  each-clean sites expressions each before (x ∷ xs) h =
      all-join (HasCleanSites text m) (expressions x) (flat_map expressions xs) (each before x (all-prefix (IsClean text m) (sites before x) (each_from sites (before ++ x ∷ []) xs) h))
      (each-clean sites expressions each (before ++ x ∷ []) xs (all-back (IsClean text m) (sites before x) (each_from sites (before ++ x ∷ []) xs) h))

  single-clean : {X : Type 0} (sites : X → List Site) (expression : X → Expression) → ((x : X) → AreClean text m (sites x) → HasCleanSites text m (expression x))
      → (xs : List X) → AreClean text m (flat_map sites xs) → AllByRecursion (HasCleanSites text m) (map expression xs)
  single-clean sites expression each [] h = tt
  single-clean sites expression each (x ∷ xs) h =
      (each x (all-prefix (IsClean text m) (sites x) (flat_map sites xs) h), single-clean sites expression each xs (all-back (IsClean text m) (sites x) (flat_map sites xs) h))

  initial-clean : (x : List ℕ × Option Expression) → AreClean text m (initial_sites x) → AllByRecursion (HasCleanSites text m) (option_to_list x.1)
  initial-clean (n, None) h = tt
  initial-clean (n, Some e) h = ((Read, h.1), tt)

  joined-clean : (pin : Option Pin) (place : Option Expression) → AreClean text m (joined_sites pin place) → AllByRecursion (HasCleanSites text m) (option_to_list place)
  joined-clean pin None h = tt
  joined-clean None (Some e) h = ((Read, h), tt)
  joined-clean (Some pin) (Some e) h = ((use_at pin.dir, h.1), tt)

  terms-clean : (gate : Gate) (terms : List Expression) → AreClean text m (gate_sites gate terms) → AllByRecursion (HasCleanSites text m) terms
  terms-clean gate terms h =
      let n = output_count gate (length terms) in
      let outs = single-clean (λ e. Terminal gate true e ∷ sites_in Driven e) (λ e. e) (λ e clean. (Driven, clean.1)) (take n terms) (all-prefix (IsClean text m) _ _ h) in
      let ins = single-clean (λ e. Terminal gate false e ∷ sites_in Read e) (λ e. e) (λ e clean. (Read, clean.1)) (drop n terms)
      (all-back (IsClean text m) (flat_map (λ e. Terminal gate true e ∷ sites_in Driven e) (take n terms)) _ h) in
      subst (AllByRecursion (HasCleanSites text m)) (take-append-drop n terms)
      (all-join (HasCleanSites text m) (take n terms) (drop n terms) (subst (AllByRecursion (HasCleanSites text m)) (same (take n terms)) outs) (subst (AllByRecursion (HasCleanSites text m)) (same (drop n terms)) ins))
    where
      same : (es : List Expression) → map (λ e. e) es ≡ es
      same [] = refl
      same (e ∷ es) = ap (λ r. e ∷ r) (same es)

  order-clean : (pin : ℕ → Option Pin) (n : ℕ) (places : List (Option Expression)) → AreClean text m (flat_map (λ x. joined_sites (pin x.0) x.1) (enumerate_from n places))
      → AllByRecursion (HasCleanSites text m) (flat_map option_to_list places)
  order-clean pin n [] h = tt
  order-clean pin n (place ∷ places) h =
      all-join (HasCleanSites text m) (option_to_list place) (flat_map option_to_list places) (joined-clean (pin n) place (all-prefix (IsClean text m) (joined_sites (pin n) place) _ h))
      (order-clean pin (n + 1) places (all-back (IsClean text m) (joined_sites (pin n) place) _ h))

  conns-clean : (target : Option PlainModule) (conns : PlainConns) → AreClean text m (conns_sites target conns) → AllByRecursion (HasCleanSites text m) (conns_expressions conns)
  conns-clean target (Order places) h = order-clean (λ k. option_and_then (λ t. pin_at t k) target) 0 places h
  conns-clean target (Named all) h = each-clean (named_sites target) (λ (x : List ℕ × Option Expression). option_to_list x.1) (λ before x clean. joined-clean _ x.1 clean.1) [] all h

  pub item-clean : (earlier : List Declaration) (body : PlainBody) → AreClean text m (item_sites text earlier body) → AllByRecursion (HasCleanSites text m) (item_expressions body)
  item-clean earlier (Ports port names) h = tt
  item-clean earlier (Nets range nets) h = each-clean (net_sites earlier range) (λ (x : List ℕ × Option Expression). option_to_list x.1) (λ before x clean. initial-clean x clean.1) [] nets h
  item-clean earlier (Regs range names) h = tt
  item-clean earlier (Supply high range names) h = tt
  item-clean earlier (Assign all) h =
      flat-clean (λ (x : Expression × Expression). sites_in Driven x.0 ++ sites_in Read x.1) (λ x. x.0 ∷ x.1 ∷ []) (λ x clean. ((Driven, all-prefix (IsClean text m) (sites_in Driven x.0) _ clean), ((Read, all-back (IsClean text m) (sites_in Driven x.0) _ clean), tt))) all h
  item-clean earlier (Gates gate all) h = flat-clean (λ (x : Option (List ℕ) × List Expression). gate_sites gate x.1) (λ x. x.1) (λ x clean. terms-clean gate x.1 clean) all h
  item-clean earlier (Calls target all) h = each-clean (call_sites text target earlier) (λ (x : List ℕ × PlainConns). conns_expressions x.1) (λ before x clean. conns-clean (module_named text target) x.1 clean.1.1) [] all h.1
  item-clean earlier (Always r) h =
      let rest = h.1 in
      let two = all-prefix (IsClean text m) (sites_in Read r.clock ++ sites_in Stored r.left) (sites_in Read r.right) rest in (
        (Read, all-prefix (IsClean text m) (sites_in Read r.clock) (sites_in Stored r.left) two),
        (
          (Stored, all-back (IsClean text m) (sites_in Read r.clock) (sites_in Stored r.left) two),
          ((Read, all-back (IsClean text m) (sites_in Read r.clock ++ sites_in Stored r.left) (sites_in Read r.right) rest), tt),
        ),
      )
