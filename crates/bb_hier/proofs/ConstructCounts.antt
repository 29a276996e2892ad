-- How many cells the constructs of an item make in a text without faults.
use Rattle.std.proofs.Common.{◌≡◌, ℕ, suc, ◌+◌, ◌-◌, ◌<◌, ◌≤◌, Bool, true, false, List, [], ◌∷◌, ◌++◌, map, length, Contains, Option, Some, None, refl, sym, ap, ◌∙◌, subst, arith, true≢false, length-append}
use Rattle.std.specs.Prelude.{if◌then◌else◌, nat_lt, max, sum_by, option_to_list, option_map, is_none}
use Rattle.std.specs.List.{enumerate_from, flat_map}
use Rattle.std.specs.Option.{option_and_then}
use Rattle.std.proofs.lemmas.Bool.Decides.{nat_tests}
use Rattle.std.proofs.lemmas.List.{length-map}
use Rattle.std.proofs.lemmas.List.Elements.{All-contains}
use Rattle.std.proofs.lemmas.List.Sums.{sum_by-cons}
use Rattle.bb_bits.specs.Contents.{Contents}
use Rattle.bb_bits.specs.Names.{same_name}
use Rattle.bb_ast.specs.declared.module.Gate.{Gate}
use Rattle.bb_ast.specs.Syntax.{Expression, Net, PlainConns, Order, Named, PlainBody, Ports, Nets, Regs, Supply, Assign, Gates, Calls, Always, PlainHead, PlainItem, PlainModule}
use Rattle.bb_names.specs.declared.fault.NameFault.{NameFault}
use Rattle.bb_names.specs.declared.fault.NameFault.TheVariants as name_faults
use Rattle.bb_names.specs.Declarations.{Declaration, declared_by_head, instance_declaration, range_of, direction_of, port_direction}
use Rattle.bb_names.specs.Faults.{IsSound, Rows, is_input, unknown, wrong_role, kinds, statement_faults, module_faults}
use Rattle.bb_names.specs.Sites.{Pin, Site, HeadName, Target, Placed, PortName, Declared, header_sites, declared_sites, item_sites, conns_sites, joined_sites, module_named, pin_named, pin_at, place_count}
use Rattle.bb_names.specs.Widths.{Ranges, own_width}
use Rattle.bb_expr.specs.Cells.{cell_count}
use Rattle.bb_expr.specs.Laws.FitLaws.{AssignableIsNets}
use Rattle.bb_expr.specs.Laws.{CellsAreCounted, MadeHasValue, ValuesHaveWidth}
use Rattle.bb_expr.specs.Inside.Shares.{own_cells}
use Rattle.bb_expr.specs.Inside.Occurrences.{conns_expressions}
use Rattle.bb_expr.specs.Terms.{Term, term_bit}
use Rattle.bb_expr.specs.Values.{Bits}
use Rattle.bb_design.specs.Constructs.{Construct, Assignment, Register, SupplyNet, InputConnection, OutputConnection, initial_construct, gate_construct, connection, connections, body_constructs}
use Rattle.bb_design.specs.Contexts.{width_of, made_in}
use Rattle.bb_design.specs.Drivers.{terminal_terms}
use Rattle.bb_design.specs.Laws.DrivenWorlds.{IsLegal}
use Rattle.bb_design.specs.GateFunctions.{inverts, on_terms, gate_gives, joined_after, joining_cells, gate_cells}
use Rattle.bb_design.specs.Hierarchy.{Scope}
use Rattle.bb_design.specs.Sizes.{cell_count_at}
use Rattle.bb_hier.specs.Inside.Weights.{assigned_cells, initial_cells, assignment_cells, inputs_of, inversions, gate_weight, item_cells}
use Rattle.bb_lemmas.proofs.Places.{got, some_at}
use Rattle.bb_hier.proofs.CellSums.{sum_flat}
use Rattle.bb_lemmas.proofs.Numbered.{enumerated_from}
use Rattle.bb_hier.proofs.HierarchySums.{sum_map, sum_same, sum_ones, length_flat}
use Rattle.bb_lemmas.proofs.Members.{contains-map, into_flat, flat_nil, left_nil, map_nil, contains_here, contains_there, from_find, find_there, none_if}
use Rattle.bb_lemmas.proofs.Earlier.{each_there, each_nil}
use Rattle.bb_design.specs.Laws.SoundSites.{IsSoundSite}
use Rattle.bb_lemmas.proofs.Names.{same_self}
use Rattle.bb_design.specs.Laws.DesignLaws.{DesignLaws}

some_where : {A : Type 0} (o : Option A) → is_none o ≡ false → (x : A) × (o ≡ Some x)
some_where None e = absurd (true≢false e)
some_where (Some x) e = (x, refl)

sum_one : {X : Type 0} (f : X → ℕ) (x : X) → sum_by f (x ∷ []) ≡ f x
sum_one f x = omega arith

sum_enumerated : {X : Type 0} (f : X → ℕ) (a : ℕ) (xs : List X) → sum_by (λ x. f x.1) (enumerate_from a xs) ≡ sum_by f xs
sum_enumerated f a [] = refl
sum_enumerated f a (x ∷ xs) = sum_by-cons (λ (y : ℕ × _). f y.1) (a, x) (enumerate_from (a + 1) xs) ∙ ap (λ n. f x + n) (sum_enumerated f (a + 1) xs) ∙ sym (sum_by-cons f x xs)

sum_zeros : {X : Type 0} (f : X → ℕ) (xs : List X) → ((x : X) → f x ≡ 0) → sum_by f xs ≡ 0
sum_zeros f [] zeros = refl
sum_zeros f (x ∷ xs) zeros = omega (arith, sum_by-cons f x xs, zeros x, sum_zeros f xs zeros)

abbrev no_contents : Contents
no_contents path = []

-- gates

long_joined : (op : Term → Term → Term) (a : Term) (rest : List Term) → length (joined_after op a rest) ≡ length rest
long_joined op a [] = refl
long_joined op a (b ∷ rest) = ap suc (long_joined op (op a b) rest)

long_gate : (gate : Gate) (terms : List Term) → length (gate_cells gate terms) ≡ (length terms - 1) + inversions gate
long_gate gate terms = length-append (joining_cells gate terms) (if inverts gate then gate_gives on_terms gate terms ∷ [] else []) ∙ omega (arith, joins terms, one (inverts gate))
  where
    joins : (terms : List Term) → length (joining_cells gate terms) ≡ length terms - 1
    joins [] = refl
    joins (a ∷ rest) = long_joined _ a rest ∙ omega arith

    one : (b : Bool) → length (if b then gate_gives on_terms gate terms ∷ [] else []) ≡ (if b then 1 else 0)
    one true = refl
    one false = refl

-- ports

module _ (text : List PlainModule) (sound : IsSound text) where
  -- a name of a header has a direction
  head_has_direction : (m : PlainModule) → Contains text m → (head : PlainHead) → Contains m.heads head → (dir : _) × (direction_of m head.name ≡ Some dir)
  head_has_direction m has head there =
      let in_module = each_nil (module_faults text) [] text sound m has in
      let sites = flat_nil (λ (x : (ℕ → List ℕ → NameFault) × Rows). map (x.0 m.line) (flat_map (x.1 text m) (header_sites in_module.0 m))) kinds (left_nil (statement_faults text m m.line (header_sites in_module.0 m)) _ in_module.1) (name_faults.Unknown, unknown) (1, omega arith, refl) in
      let w = each_there (λ before h. HeadName before h.name ∷ declared_sites (flat_map declared_by_head before) (declared_by_head h)) [] m.heads head there in
      let site = HeadName w.0 head.name in
      let none = flat_nil (unknown text m) (header_sites in_module.0 m) (map_nil (name_faults.Unknown m.line) (flat_map (unknown text m) (header_sites in_module.0 m)) sites) site
      (contains_there _ _ site (w.1 site (contains_here site _))) in
      some_where (direction_of m head.name) (none_if (is_none (direction_of m head.name)) head.name none)

  pub head_is_port : (m : PlainModule) → Contains text m → (head : PlainHead) → Contains m.heads head → (pin : Pin) × (pin_named m head.name ≡ Some pin)
  head_is_port m has head there =
      let dir = head_has_direction m has head there in
      let found = find_there (λ (h : PlainHead). same_name h.name head.name) m.heads head there (same_self head.name) in
      let port : port_direction m head.name ≡ Some dir.0 = ap (option_and_then (λ h. direction_of m head.name)) found.1 ∙ dir.1 in
      (_, ap (option_map (λ dir. record { name = head.name; dir = dir; width = _ })) port)

  -- each place of a list by order that is not too long belongs to a port
  place_is_port : (m : PlainModule) → Contains text m → (k : ℕ) → k < length m.heads → (pin : Pin) × (pin_at m k ≡ Some pin)
  place_is_port m has k lt =
      let head = some_at m.heads k lt in
      let g = got m.heads k head.0 head.0 head.1 in
      let port = head_is_port m has head.0 (k, g.0, g.1) in
      (port.0, ap (option_and_then (λ h. pin_named m h.name)) head.1 ∙ port.1)

module _ (of_designs : DesignLaws) (counted : CellsAreCounted) (made_value : MadeHasValue) (long_value : ValuesHaveWidth) (assignable : AssignableIsNets) (text : List PlainModule) (sound : IsSound text) (s : Scope) where
  abbrev ranges : Ranges
  ranges = range_of s.source

  abbrev count : Construct → ℕ
  count c = cell_count_at (s, c)

  at_width : (e : Expression) (w : ℕ) → own_width (range_of s.source) e ≤ w → length (made_in s e w).cells ≡ cell_count (range_of s.source) e w
  at_width e w le = counted (range_of s.source) e w le

  own_made : (e : Expression) → length (made_in s e (width_of s e)).cells ≡ own_cells (range_of s.source) e
  own_made e = at_width e (width_of s e) (omega arith)

  assigned_made : (left : ℕ) (right : Expression) → length (made_in s right (max left (width_of s right))).cells ≡ assigned_cells (range_of s.source) left right
  assigned_made left right = at_width right (max left (width_of s right)) (omega arith)

  long_bits : (e : Expression) → length (made_in s e (width_of s e)).bits ≡ width_of s e
  long_bits e = sym (length-map (made_in s e (width_of s e)).bits (term_bit none)) ∙ ap length (made_value (range_of s.source) none e (width_of s e) (omega arith)) ∙ long_value (range_of s.source) none e (width_of s e) (omega arith)
    where
      none : Bits
      none n k = false

  sum_initial : (x : List ℕ × Option Expression) → sum_by count (initial_construct x) ≡ initial_cells (range_of s.source) x
  sum_initial (n, None) = refl
  sum_initial (n, Some e) = sum_one count (Assignment (Net n) e) ∙ assigned_made (width_of s (Net n)) e

  sum_gate : (gate : Gate) (terms : List Expression) → IsLegal no_contents s (gate_construct gate terms) → count (gate_construct gate terms) ≡ gate_weight (range_of s.source) gate terms
  sum_gate gate terms legal =
      let ins = inputs_of gate terms in
      let cells : length (flat_map (λ e. (made_in s e (width_of s e)).cells) ins) ≡ sum_by (own_cells (range_of s.source)) ins =
      length_flat (λ e. (made_in s e (width_of s e)).cells) ins ∙ sum_same (λ e. length (made_in s e (width_of s e)).cells) (own_cells (range_of s.source)) ins (λ e has. own_made e) in
      let bits : length (terminal_terms s ins) ≡ length ins =
      length_flat (λ e. (made_in s e (width_of s e)).bits) ins ∙ sum_same (λ e. length (made_in s e (width_of s e)).bits) (λ e. 1) ins (λ e has. long_bits e ∙ All-contains (λ e. width_of s e ≡ 1) ins e legal.1 has) ∙ sym (sum_ones ins) in
      length-append (flat_map (λ e. (made_in s e (width_of s e)).cells) ins) (gate_cells gate (terminal_terms s ins))
      ∙ ap (λ n. n + length (gate_cells gate (terminal_terms s ins))) cells ∙ ap (λ n. sum_by (own_cells (range_of s.source)) ins + n) (long_gate gate (terminal_terms s ins) ∙ ap (λ n. (n - 1) + inversions gate) bits)
      ∙ regroup (sum_by (own_cells (range_of s.source)) ins) (length ins - 1) (inversions gate)
    where
      regroup : (a b c : ℕ) → a + (b + c) ≡ a + b + c
      regroup a b c = omega arith

  sum_connection : (i : List ℕ) (pin : Option Pin) (e : Option Expression) → ((x : Expression) → e ≡ Some x → (p : Pin) × (pin ≡ Some p)) → ((c : Construct) → Contains (connection i pin e) c → IsLegal no_contents s c)
      → sum_by count (connection i pin e) ≡ sum_by (own_cells (range_of s.source)) (option_to_list e)
  sum_connection i None None port legal = refl
  sum_connection i None (Some e) port legal = let no = (port e refl).1 in cc
  sum_connection i (Some pin) None port legal = refl
  sum_connection i (Some pin) (Some e) port legal =
      sum_one count (if is_input pin.dir then InputConnection i pin e else OutputConnection i pin e) ∙ by (is_input pin.dir) (legal _ (contains_here _ [])) ∙ sym (sum_one (own_cells (range_of s.source)) e)
    where
      by : (b : Bool) → IsLegal no_contents s (if b then InputConnection i pin e else OutputConnection i pin e) → count (if b then InputConnection i pin e else OutputConnection i pin e) ≡ own_cells (range_of s.source) e
      by true l = own_made e
      by false l = sym (sym (own_made e) ∙ ap length ((assignable (range_of s.source) e l.assignable).0 (width_of s e)))

  -- connections of an instance of a module of the text
  module _ (target : PlainModule) (there : Contains text target) where
    sum_connections : (x : List ℕ × PlainConns) → place_count x.1 ≤ length target.heads → ((n : List ℕ) (e : Expression) (all : List (List ℕ × Option Expression)) → x.1 ≡ Named all → Contains all (n, Some e) → (p : Pin) × (pin_named target n ≡ Some p))
        → ((c : Construct) → Contains (connections (Some target) x) c → IsLegal no_contents s c)
        → sum_by count (connections (Some target) x) ≡ sum_by (own_cells (range_of s.source)) (conns_expressions x.1)
    sum_connections (i, Order places) few named legal =
        let g = λ (x : ℕ × Option Expression). connection i (pin_at target x.0) x.1 in
        sum_flat count g (enumerate_from 0 places)
        ∙ sum_same (λ x. sum_by count (g x)) (λ (x : ℕ × Option Expression). sum_by (own_cells (range_of s.source)) (option_to_list x.1)) (enumerate_from 0 places)
        (λ x has. sum_connection i (pin_at target x.0) x.1 (λ e some. port x.0 x.1 has) (λ c h. legal c (into_flat g (enumerate_from 0 places) x c has h)))
        ∙ sum_enumerated (λ (o : Option Expression). sum_by (own_cells (range_of s.source)) (option_to_list o)) 0 places
        ∙ sym (sum_flat (own_cells (range_of s.source)) option_to_list places)
      where
        port : (k : ℕ) (e : Option Expression) → Contains (enumerate_from 0 places) (k, e) → (p : Pin) × (pin_at target k ≡ Some p)
        port k e has = let j = enumerated_from 0 places k e has in place_is_port text sound target there k (omega (arith, few, j.1, j.2))
    sum_connections (i, Named all) few named legal =
        let g = λ (x : List ℕ × Option Expression). connection i (pin_named target x.0) x.1 in
        sum_flat count g all
        ∙ sum_same (λ x. sum_by count (g x)) (λ (x : List ℕ × Option Expression). sum_by (own_cells (range_of s.source)) (option_to_list x.1)) all
        (λ x has. sum_connection i (pin_named target x.0) x.1 (λ e some. named x.0 e all refl (subst (λ o. Contains all (x.0, o)) some has)) (λ c h. legal c (into_flat g all x c has h)))
        ∙ sym (sum_flat (own_cells (range_of s.source)) (λ (x : List ℕ × Option Expression). option_to_list x.1) all)

  module _ (here : Contains text s.source) where
    -- no site of calls is at fault
    module _ (earlier : List Declaration) (name : List ℕ) (calls : List (List ℕ × PlainConns)) (fine : (site : Site) → Contains (item_sites text earlier (Calls name calls)) site → IsSoundSite text s site) where
      target_is : (m : PlainModule) × (module_named text name ≡ Some m)
      target_is = some_where (module_named text name) (none_if (is_none (module_named text name)) name (fine (Target name) (contains_here (Target name) _) (name_faults.Unknown, unknown) (1, omega arith, refl)))

      module _ (x : List ℕ × PlainConns) (has : Contains calls x) where
        call_site : (site : Site) → Contains (Placed (module_named text name) x.0 (place_count x.1) ∷ conns_sites (module_named text name) x.1) site → IsSoundSite text s site
        call_site site at =
            let w = each_there (λ before y. Declared (earlier ++ map (λ (z : List ℕ × PlainConns). instance_declaration z.0) before) (instance_declaration y.0) ∷ Placed (module_named text name) y.0 (place_count y.1) ∷ conns_sites (module_named text name) y.1) [] calls x has in
            fine site (contains_there (Target name) _ site (w.1 site (contains_there _ (Placed (module_named text name) x.0 (place_count x.1) ∷ conns_sites (module_named text name) x.1) site at)))

        few_places : (m : PlainModule) → module_named text name ≡ Some m → place_count x.1 ≤ length m.heads
        few_places m is = not_more (length m.heads) (place_count x.1) (none_if (nat_lt (length m.heads) (place_count x.1)) x.0
            (subst (λ o. wrong_role text s.source (Placed o x.0 (place_count x.1)) ≡ []) is (call_site (Placed (module_named text name) x.0 (place_count x.1)) (contains_here _ _) (name_faults.Role, wrong_role) (4, omega arith, refl))))
          where
            not_more : (a b : ℕ) → nat_lt a b ≡ false → b ≤ a
            not_more a b h = grind (arith, nat_tests, h)

        named_port : (m : PlainModule) → module_named text name ≡ Some m → (n : List ℕ) (e : Expression) (all : List (List ℕ × Option Expression)) → x.1 ≡ Named all → Contains all (n, Some e) → (p : Pin) × (pin_named m n ≡ Some p)
        named_port m is n e all form there =
            let w = each_there (λ before y. PortName (module_named text name) (map (λ z. z.0) before) y.0 ∷ joined_sites (option_and_then (λ m. pin_named m y.0) (module_named text name)) y.1) [] all (n, Some e) there in
            let site = PortName (module_named text name) (map (λ (z : List ℕ × Option Expression). z.0) w.0) n in
            let sound_site = call_site site (contains_there _ (conns_sites (module_named text name) x.1) site (subst (λ conns. Contains (conns_sites (module_named text name) conns) site) (sym form) (w.1 site (contains_here site _)))) in
            let dir = some_where (port_direction m n) (none_if (is_none (port_direction m n)) n
            (subst (λ o. unknown text s.source (PortName o (map (λ (z : List ℕ × Option Expression). z.0) w.0) n) ≡ []) is (sound_site (name_faults.Unknown, unknown) (1, omega arith, refl)))) in
            (_, ap (option_map (λ dir. record { name = n; dir = dir; width = _ })) dir.1)

    sum_body : (earlier : List Declaration) (body : PlainBody) → ((site : Site) → Contains (item_sites text earlier body) site → IsSoundSite text s site) → sum_by count (body_constructs text body) ≡ item_cells (range_of s.source) body
    sum_body earlier (Ports port names) fine = refl
    sum_body earlier (Regs range names) fine = refl
    sum_body earlier (Nets range nets) fine = sum_flat count initial_construct nets ∙ sum_same (λ x. sum_by count (initial_construct x)) (initial_cells (range_of s.source)) nets (λ x has. sum_initial x)
    sum_body earlier (Supply high range names) fine = sum_map count (SupplyNet high) names ∙ sum_zeros (λ n. count (SupplyNet high n)) names (λ n. refl)
    sum_body earlier (Assign all) fine = sum_map count (λ x. Assignment x.0 x.1) all ∙ sum_same (λ x. count (Assignment x.0 x.1)) (assignment_cells (range_of s.source)) all (λ x has. assigned_made (width_of s x.0) x.1)
    sum_body earlier (Gates gate all) fine =
        sum_map count (λ x. gate_construct gate x.1) all
        ∙ sum_same (λ (x : Option (List ℕ) × List Expression). count (gate_construct gate x.1)) (λ x. gate_weight (range_of s.source) gate x.1) all
        (λ x has. sum_gate gate x.1 (of_designs.items_legal no_contents s text earlier (Gates gate all) fine (gate_construct gate x.1) (contains-map (λ (x : Option (List ℕ) × List Expression). gate_construct gate x.1) all x has)))
    sum_body earlier (Calls name calls) fine =
        let m = target_is earlier name calls fine in
        let there = (from_find (λ x. same_name x.name name) text m.0 m.1).0 in
        ap (λ o. sum_by count (flat_map (connections o) calls)) m.1 ∙ sum_flat count (connections (Some m.0)) calls
        ∙ sum_same (λ x. sum_by count (connections (Some m.0) x)) (λ x. sum_by (own_cells (range_of s.source)) (conns_expressions x.1)) calls
        (λ x has. sum_connections m.0 there x (few_places earlier name calls fine x has m.0 m.1) (named_port earlier name calls fine x has m.0 m.1)
        (λ c h. of_designs.items_legal no_contents s text earlier (Calls name calls) fine c (subst (λ o. Contains (flat_map (connections o) calls) c) (sym m.1) (into_flat (connections (Some m.0)) calls x c has h))))
    sum_body earlier (Always r) fine = sum_one count (Register r) ∙ assigned_made (width_of s r.left) r.right

    -- the constructs of all items
    pub sum_items : sum_by count (flat_map (λ item. body_constructs text item.body) s.source.items) ≡ sum_by (λ item. item_cells (range_of s.source) item.body) s.source.items
    sum_items = sum_flat count (λ (item : PlainItem). body_constructs text item.body) s.source.items
        ∙ sum_same (λ (item : PlainItem). sum_by count (body_constructs text item.body)) (λ item. item_cells (range_of s.source) item.body) s.source.items
        (λ item has. let sites = of_designs.sound_sites text sound s.source here item has in sum_body sites.0 item.body sites.1)
