-- A text without faults stays so with modules in place of empty ones, where the modules have no faults by themselves: a
-- statement asks of other modules for their ports alone.
use Rattle.std.proofs.Common.{◌≡◌, ◌⊎◌, ℕ, Bool, true, false, List, [], ◌∷◌, ◌++◌, map, length, option_map, Contains, Option, Some, None, inl, inr, refl, sym, ap, ap₂, ◌∙◌, subst, arith}
use Rattle.std.proofs.lemmas.List.{map-append}
use Rattle.std.specs.Prelude.{is_none}
use Rattle.std.specs.List.{enumerate_from, flat_map, list_any}
use Rattle.std.proofs.lemmas.List.{length-map}
use Rattle.std.proofs.lemmas.List.Elements.{All-contains}
use lib.Pointwise.{bytes_decides}
use Rattle.bb_bits.specs.Earlier.{each_after, each_from, has_name}
use Rattle.bb_bits.specs.Names.{same_name}
use Rattle.bb_ast.specs.Syntax.{Expression, PlainConns, Order, Named, PlainBody, Ports, Nets, Regs, Supply, Assign, Gates, Calls, Always, PlainHead, PlainItem, PlainModule}
use Rattle.bb_names.specs.declared.fault.NameFault.{NameFault}
use Rattle.bb_names.specs.declared.fault.NameFault.TheVariants as faults
use Rattle.bb_names.specs.Declarations.{Declaration, declared_by, declared_by_head, instance_declaration, is_port}
use Rattle.bb_names.specs.Faults.{IsSound, module_faults, statement_faults, twice, unknown, wrong_role, wrong_select, wrong_width}
use Rattle.bb_names.specs.Sites.{Site, Read, Driven, Stored, ModuleName, HeadName, Declared, Target, Placed, PortName, Joined, Terminal, Clock, Number, Whole, Used, conns_sites, declared_sites, header_sites, item_sites, joined_sites, module_named, pin_at, pin_named, place_count}
use Rattle.bb_lemmas.proofs.Maps.{any-map}
use Rattle.bb_lemmas.proofs.Members.{contains_cases, contains_here, contains_there, find_there, from_find, left_nil, map_nil, none_in_nil, right_nil}
use Rattle.bb_replace.specs.Laws.Replacement.{AllMayReplace, IsCombinational, MayReplace, replaced}
use Rattle.bb_replace.proofs.ReplacedModules.{Place, Stays, Goes, named, place_for, same_named}
use Rattle.bb_replace.proofs.ReplacedPorts.{flat_same, same_pin, same_pin_at}

-- nothing follows from two lists of nothing but nothing
both_nil : {A : Type 0} (xs ys : List A) → xs ≡ [] → ys ≡ [] → xs ++ ys ≡ []
both_nil xs ys a b = ap₂ (λ x y. x ++ y) a b

-- where nothing comes of one list element by element, nothing comes of another
each_quiet : {A B C : Type 0} (f : A → C) (g : List A → A → List B) (h : List C → C → List B) (before xs : List A) → ((earlier : List A) (x : A) → Contains xs x → g earlier x ≡ [] → h (map f earlier) (f x) ≡ []) → each_from g before xs ≡ [] → each_from h (map f before) (map f xs) ≡ []
each_quiet f g h before [] quiet e = refl
each_quiet f g h before (x ∷ xs) quiet e =
    both_nil (h (map f before) (f x)) (each_from h (map f before ++ f x ∷ []) (map f xs)) (quiet before x (contains_here x xs) (left_nil (g before x) (each_from g (before ++ x ∷ []) xs) e))
    (subst (λ l. each_from h l (map f xs) ≡ []) (map-append f before (x ∷ [])) (each_quiet f g h (before ++ x ∷ []) xs (λ earlier y has. quiet earlier y (contains_there x xs y has)) (right_nil (g before x) (each_from g (before ++ x ∷ []) xs) e)))

each_quiet_same : {A B : Type 0} (g h : List A → A → List B) (before xs : List A) → ((earlier : List A) (x : A) → Contains xs x → g earlier x ≡ [] → h earlier x ≡ []) → each_from g before xs ≡ [] → each_from h before xs ≡ []
each_quiet_same g h before [] quiet e = refl
each_quiet_same g h before (x ∷ xs) quiet e =
    both_nil (h before x) (each_from h (before ++ x ∷ []) xs) (quiet before x (contains_here x xs) (left_nil (g before x) (each_from g (before ++ x ∷ []) xs) e))
    (each_quiet_same g h (before ++ x ∷ []) xs (λ earlier y has. quiet earlier y (contains_there x xs y has)) (right_nil (g before x) (each_from g (before ++ x ∷ []) xs) e))

module _ (new old : List PlainModule) (m : PlainModule) where
  -- where nothing is at fault at the one site in the one text, nothing is at fault at the other in the other
  abbrev IsQuieter : Site → Site → Type 0
  IsQuieter s t = (twice old m t ≡ [] → twice new m s ≡ []) × (unknown old m t ≡ [] → unknown new m s ≡ []) × (wrong_select old m t ≡ [] → wrong_select new m s ≡ []) × (wrong_width old m t ≡ [] → wrong_width new m s ≡ []) × (wrong_role old m t ≡ [] → wrong_role new m s ≡ [])

  abbrev AreQuieter : List Site → List Site → Type 0
  AreQuieter [] [] = Unit {0}
  AreQuieter (s ∷ ss) (t ∷ ts) = IsQuieter s t × AreQuieter ss ts
  AreQuieter ss ts = ⊥

  joined_quieter : (ss ts us vs : List Site) → AreQuieter ss ts → AreQuieter us vs → AreQuieter (ss ++ us) (ts ++ vs)
  joined_quieter [] [] us vs a b = b
  joined_quieter (s ∷ ss) (t ∷ ts) us vs a b = (a.0, joined_quieter ss ts us vs a.1 b)
  joined_quieter [] (t ∷ ts) us vs a b = absurd a
  joined_quieter (s ∷ ss) [] us vs a b = absurd a

  each_quieter : {A : Type 0} (g h : List A → A → List Site) (before xs : List A) → ((earlier : List A) (x : A) → AreQuieter (g earlier x) (h earlier x)) → AreQuieter (each_from g before xs) (each_from h before xs)
  each_quieter g h before [] quiet = tt
  each_quieter g h before (x ∷ xs) quiet = joined_quieter (g before x) (h before x) (each_from g (before ++ x ∷ []) xs) (each_from h (before ++ x ∷ []) xs) (quiet before x) (each_quieter g h (before ++ x ∷ []) xs quiet)

  -- by one row
  row_quiet : (K L : Site → List (List ℕ)) → (ss ts : List Site) → AreQuieter ss ts → ((s t : Site) → IsQuieter s t → L t ≡ [] → K s ≡ []) → flat_map L ts ≡ [] → flat_map K ss ≡ []
  row_quiet K L [] [] all by e = refl
  row_quiet K L (s ∷ ss) (t ∷ ts) all by e = both_nil (K s) (flat_map K ss) (by s t all.0 (left_nil (L t) (flat_map L ts) e)) (row_quiet K L ss ts all.1 by (right_nil (L t) (flat_map L ts) e))
  row_quiet K L [] (t ∷ ts) all by e = absurd all
  row_quiet K L (s ∷ ss) [] all by e = absurd all

  statement_quiet : (line : ℕ) (ss ts : List Site) → AreQuieter ss ts → statement_faults old m line ts ≡ [] → statement_faults new m line ss ≡ []
  statement_quiet line ss ts all e =
      let one = map (faults.Twice line) (flat_map (twice old m) ts) in
      let two = map (faults.Unknown line) (flat_map (unknown old m) ts) in
      let three = map (faults.Select line) (flat_map (wrong_select old m) ts) in
      let four = map (faults.Width line) (flat_map (wrong_width old m) ts) in
      let five = map (faults.Role line) (flat_map (wrong_role old m) ts) in
      let after_one = right_nil one (two ++ (three ++ (four ++ (five ++ [])))) e in
      let after_two = right_nil two (three ++ (four ++ (five ++ []))) after_one in
      let after_three = right_nil three (four ++ (five ++ [])) after_two in
      let after_four = right_nil four (five ++ []) after_three in
      let first = row_quiet (twice new m) (twice old m) ss ts all (λ s t q. q.0) (map_nil (faults.Twice line) (flat_map (twice old m) ts) (left_nil one (two ++ (three ++ (four ++ (five ++ [])))) e)) in
      let second = row_quiet (unknown new m) (unknown old m) ss ts all (λ s t q. q.1) (map_nil (faults.Unknown line) (flat_map (unknown old m) ts) (left_nil two (three ++ (four ++ (five ++ []))) after_one)) in
      let third = row_quiet (wrong_select new m) (wrong_select old m) ss ts all (λ s t q. q.2) (map_nil (faults.Select line) (flat_map (wrong_select old m) ts) (left_nil three (four ++ (five ++ [])) after_two)) in
      let fourth = row_quiet (wrong_width new m) (wrong_width old m) ss ts all (λ s t q. q.3) (map_nil (faults.Width line) (flat_map (wrong_width old m) ts) (left_nil four (five ++ []) after_three)) in
      let fifth = row_quiet (wrong_role new m) (wrong_role old m) ss ts all (λ s t q. q.4) (map_nil (faults.Role line) (flat_map (wrong_role old m) ts) (left_nil five [] after_four)) in
      ap₂ (λ x y. x ++ y) (ap (map (faults.Twice line)) first) (ap₂ (λ x y. x ++ y) (ap (map (faults.Unknown line)) second) (ap₂ (λ x y. x ++ y) (ap (map (faults.Select line)) third) (ap₂ (λ x y. x ++ y) (ap (map (faults.Width line)) fourth) (ap (λ l. map (faults.Role line) l ++ []) fifth))))

  module _ (known : (t : List ℕ) → is_none (module_named old t) ≡ false → is_none (module_named new t) ≡ false) where
    found : (t : List ℕ) (b c : Bool) → is_none (module_named old t) ≡ b → is_none (module_named new t) ≡ c → unknown old m (Target t) ≡ [] → unknown new m (Target t) ≡ []
    found t false c e f quiet = grind (arith, known t e)
    found t true c e f quiet = grind (arith, e, quiet)

    same_quiet : (s : Site) → IsQuieter s s
    same_quiet (ModuleName before n) = ((λ e. e), (λ e. e), (λ e. e), (λ e. e), (λ e. e))
    same_quiet (HeadName before n) = ((λ e. e), (λ e. e), (λ e. e), (λ e. e), (λ e. e))
    same_quiet (Declared before d) = ((λ e. e), (λ e. e), (λ e. e), (λ e. e), (λ e. e))
    same_quiet (Target n) = ((λ e. e), found n (is_none (module_named old n)) (is_none (module_named new n)) refl refl, (λ e. e), (λ e. e), (λ e. e))
    same_quiet (Placed None n count) = ((λ e. e), (λ e. e), (λ e. e), (λ e. e), (λ e. e))
    same_quiet (Placed (Some t) n count) = ((λ e. e), (λ e. e), (λ e. e), (λ e. e), (λ e. e))
    same_quiet (PortName None before n) = ((λ e. e), (λ e. e), (λ e. e), (λ e. e), (λ e. e))
    same_quiet (PortName (Some t) before n) = ((λ e. e), (λ e. e), (λ e. e), (λ e. e), (λ e. e))
    same_quiet (Joined pin e) = ((λ e. e), (λ e. e), (λ e. e), (λ e. e), (λ e. e))
    same_quiet (Terminal gate output e) = ((λ e. e), (λ e. e), (λ e. e), (λ e. e), (λ e. e))
    same_quiet (Clock e) = ((λ e. e), (λ e. e), (λ e. e), (λ e. e), (λ e. e))
    same_quiet Number = ((λ e. e), (λ e. e), (λ e. e), (λ e. e), (λ e. e))
    same_quiet (Whole e) = ((λ e. e), (λ e. e), (λ e. e), (λ e. e), (λ e. e))
    same_quiet (Used Read n None) = ((λ e. e), (λ e. e), (λ e. e), (λ e. e), (λ e. e))
    same_quiet (Used Read n (Some bits)) = ((λ e. e), (λ e. e), (λ e. e), (λ e. e), (λ e. e))
    same_quiet (Used Driven n None) = ((λ e. e), (λ e. e), (λ e. e), (λ e. e), (λ e. e))
    same_quiet (Used Driven n (Some bits)) = ((λ e. e), (λ e. e), (λ e. e), (λ e. e), (λ e. e))
    same_quiet (Used Stored n None) = ((λ e. e), (λ e. e), (λ e. e), (λ e. e), (λ e. e))
    same_quiet (Used Stored n (Some bits)) = ((λ e. e), (λ e. e), (λ e. e), (λ e. e), (λ e. e))

    same_quieter : (ss : List Site) → AreQuieter ss ss
    same_quieter [] = tt
    same_quieter (s ∷ ss) = (same_quiet s, same_quieter ss)

-- a text with modules in place of empty ones

names_same : (modules xs : List PlainModule) → map (λ x. x.name) (map (replaced modules) xs) ≡ map (λ x. x.name) xs
names_same modules [] = refl
names_same modules (x ∷ xs) = ap₂ (λ a b. a ∷ b) (same_named modules x) (names_same modules xs)

port_same : (e m : PlainModule) → MayReplace e m → (n : List ℕ) → is_port m n ≡ is_port e n
port_same e m may n = sym (any-map (λ z. same_name z n) (λ (head : PlainHead). head.name) m.heads) ∙ ap (list_any (λ z. same_name z n)) may.heads ∙ any-map (λ z. same_name z n) (λ (head : PlainHead). head.name) e.heads

heads_same : (e m : PlainModule) → MayReplace e m → length m.heads ≡ length e.heads
heads_same e m may = sym (length-map m.heads (λ (head : PlainHead). head.name)) ∙ ap length may.heads ∙ length-map e.heads (λ (head : PlainHead). head.name)

none_same : {A B : Type 0} (f : A → B) (o : Option A) → is_none (option_map f o) ≡ is_none o
none_same f None = refl
none_same f (Some x) = refl

module _ (modules text : List PlainModule) (may : AllMayReplace modules text) where
  abbrev new : List PlainModule
  new = map (replaced modules) text

  known_new : (t : List ℕ) → is_none (module_named text t) ≡ false → is_none (module_named new t) ≡ false
  known_new t e = ap is_none (named modules text t) ∙ none_same (replaced modules) (module_named text t) ∙ e

  -- a statement of a module that stays, and instances in it

  module _ (m : PlainModule) where
    placed_quiet : (o : Option PlainModule) → ((t : PlainModule) → o ≡ Some t → Contains text t) → (n : List ℕ) (count : ℕ) → IsQuieter new text m (Placed (option_map (replaced modules) o) n count) (Placed o n count)
    placed_quiet None there n count = same_quiet new text m known_new (Placed None n count)
    placed_quiet (Some t) there n count = by (place_for modules t)
      where
        by : Place modules t → IsQuieter new text m (Placed (Some (replaced modules t)) n count) (Placed (Some t) n count)
        by (Stays f) = subst (λ z. IsQuieter new text m (Placed (Some z) n count) (Placed (Some t) n count)) (sym f) (same_quiet new text m known_new (Placed (Some t) n count))
        by (Goes r empty f g) = subst (λ z. IsQuieter new text m (Placed (Some z) n count) (Placed (Some t) n count)) (sym g) ((λ e. e), (λ e. e), (λ e. e), (λ e. e), role)
          where
            role : wrong_role text m (Placed (Some t) n count) ≡ [] → wrong_role new m (Placed (Some r) n count) ≡ []
            role e = grind (arith, e, heads_same t r (may t r (there t refl) empty f))

    port_quiet : (t r : PlainModule) → MayReplace t r → (before : List (List ℕ)) (n : List ℕ) → IsQuieter new text m (PortName (Some r) before n) (PortName (Some t) before n)
    port_quiet t r fits before n = (again, undeclared, (λ e. e), (λ e. e), (λ e. e))
      where
        again : twice text m (PortName (Some t) before n) ≡ [] → twice new m (PortName (Some r) before n) ≡ []
        again e = grind (arith, e, port_same t r fits n)

        undeclared : unknown text m (PortName (Some t) before n) ≡ [] → unknown new m (PortName (Some r) before n) ≡ []
        undeclared e = grind (arith, e, fits.directions n)

    conns_quiet : (t r : PlainModule) → MayReplace t r → (conns : PlainConns) → AreQuieter new text m (conns_sites (Some r) conns) (conns_sites (Some t) conns)
    conns_quiet t r fits (Order places) =
        subst (λ l. AreQuieter new text m l (conns_sites (Some t) (Order places))) (sym (flat_same (λ x. joined_sites (pin_at r x.0) x.1) (λ x. joined_sites (pin_at t x.0) x.1) (λ x. ap (λ pin. joined_sites pin x.1) (same_pin_at t r fits x.0)) (enumerate_from 0 places)))
        (same_quieter new text m known_new (conns_sites (Some t) (Order places)))
    conns_quiet t r fits (Named all) =
        each_quieter new text m (λ before x. PortName (Some r) (map (λ y. y.0) before) x.0 ∷ joined_sites (pin_named r x.0) x.1) (λ before x. PortName (Some t) (map (λ y. y.0) before) x.0 ∷ joined_sites (pin_named t x.0) x.1) [] all each
      where
        each : (before : List (List ℕ × Option Expression)) (x : List ℕ × Option Expression) → AreQuieter new text m (PortName (Some r) (map (λ y. y.0) before) x.0 ∷ joined_sites (pin_named r x.0) x.1) (PortName (Some t) (map (λ y. y.0) before) x.0 ∷ joined_sites (pin_named t x.0) x.1)
        each before x = (port_quiet t r fits (map (λ y. y.0) before) x.0, subst (λ pin. AreQuieter new text m (joined_sites pin x.1) (joined_sites (pin_named t x.0) x.1)) (sym (same_pin t r fits x.0)) (same_quieter new text m known_new (joined_sites (pin_named t x.0) x.1)))

    conns_of : (o : Option PlainModule) → ((t : PlainModule) → o ≡ Some t → Contains text t) → (conns : PlainConns) → AreQuieter new text m (conns_sites (option_map (replaced modules) o) conns) (conns_sites o conns)
    conns_of None there conns = same_quieter new text m known_new (conns_sites None conns)
    conns_of (Some t) there conns = by (place_for modules t)
      where
        by : Place modules t → AreQuieter new text m (conns_sites (Some (replaced modules t)) conns) (conns_sites (Some t) conns)
        by (Stays f) = subst (λ z. AreQuieter new text m (conns_sites (Some z) conns) (conns_sites (Some t) conns)) (sym f) (same_quieter new text m known_new (conns_sites (Some t) conns))
        by (Goes r empty f g) = subst (λ z. AreQuieter new text m (conns_sites (Some z) conns) (conns_sites (Some t) conns)) (sym g) (conns_quiet t r (may t r (there t refl) empty f) conns)

    item_quiet : (body : PlainBody) (earlier : List Declaration) → AreQuieter new text m (item_sites new earlier body) (item_sites text earlier body)
    item_quiet (Ports port names) earlier = same_quieter new text m known_new (item_sites text earlier (Ports port names))
    item_quiet (Nets range nets) earlier = same_quieter new text m known_new (item_sites text earlier (Nets range nets))
    item_quiet (Regs range names) earlier = same_quieter new text m known_new (item_sites text earlier (Regs range names))
    item_quiet (Supply high range names) earlier = same_quieter new text m known_new (item_sites text earlier (Supply high range names))
    item_quiet (Assign all) earlier = same_quieter new text m known_new (item_sites text earlier (Assign all))
    item_quiet (Gates gate all) earlier = same_quieter new text m known_new (item_sites text earlier (Gates gate all))
    item_quiet (Always a) earlier = same_quieter new text m known_new (item_sites text earlier (Always a))
    item_quiet (Calls target all) earlier =
        subst (λ o. AreQuieter new text m (Target target ∷ each_after (calls o) all) (item_sites text earlier (Calls target all))) (sym (named modules text target))
        (same_quiet new text m known_new (Target target), each_quieter new text m (calls (option_map (replaced modules) (module_named text target))) (calls (module_named text target)) [] all each)
      where
        calls : Option PlainModule → List (List ℕ × PlainConns) → List ℕ × PlainConns → List Site
        calls o before x = Declared (earlier ++ map (λ y. instance_declaration y.0) before) (instance_declaration x.0) ∷ Placed o x.0 (place_count x.1) ∷ conns_sites o x.1

        there : (t : PlainModule) → module_named text target ≡ Some t → Contains text t
        there t e = (from_find (λ z. same_name z.name target) text t e).0

        each : (before : List (List ℕ × PlainConns)) (x : List ℕ × PlainConns) → AreQuieter new text m (calls (option_map (replaced modules) (module_named text target)) before x) (calls (module_named text target) before x)
        each before x = (same_quiet new text m known_new (Declared (earlier ++ map (λ y. instance_declaration y.0) before) (instance_declaration x.0)), (placed_quiet (module_named text target) there x.0 (place_count x.1), conns_of (module_named text target) there x.1))

    -- a header asks of other modules for their names alone
    header_quiet : (old : List PlainModule) (known : (t : List ℕ) → is_none (module_named old t) ≡ false → is_none (module_named new t) ≡ false) (before others : List PlainModule) → has_name m.name (map (λ x. x.name) before) ≡ false → AreQuieter new old m (header_sites before m) (header_sites others m)
    header_quiet old known before others free = (((λ e. grind (arith, free)), (λ e. e), (λ e. e), (λ e. e), (λ e. e)), same_quieter new old m known (each_after (λ before head. HeadName before head.name ∷ declared_sites (flat_map declared_by_head before) (declared_by_head head)) m.heads))

  free_name : (old : List PlainModule) (before : List PlainModule) (m : PlainModule) → module_faults old before m ≡ [] → has_name m.name (map (λ x. x.name) before) ≡ false
  free_name old before m e = by (has_name m.name (map (λ x. x.name) before)) refl
    where
      by : (b : Bool) → has_name m.name (map (λ x. x.name) before) ≡ b → has_name m.name (map (λ x. x.name) before) ≡ false
      by false f = f
      by true f = absurd (grind (arith, f, e))

  stays_quiet : (before : List PlainModule) (m : PlainModule) → module_faults text before m ≡ [] → module_faults new (map (replaced modules) before) m ≡ []
  stays_quiet before m e = both_nil (statement_faults new m m.line (header_sites (map (replaced modules) before) m)) (each_after items_new m.items)
      (statement_quiet new text m m.line (header_sites (map (replaced modules) before) m) (header_sites before m) (header_quiet m text known_new (map (replaced modules) before) before (ap (has_name m.name) (names_same modules before) ∙ free_name text before m e)) (left_nil header (each_after items_old m.items) e))
      (each_quiet_same items_old items_new [] m.items (λ earlier item has. statement_quiet new text m item.line (item_sites new (declared earlier) item.body) (item_sites text (declared earlier) item.body) (item_quiet m item.body (declared earlier))) (right_nil header (each_after items_old m.items) e))
    where
      declared : List PlainItem → List Declaration
      declared earlier = flat_map declared_by_head m.heads ++ flat_map (λ x. declared_by x.body) earlier

      items_old : List PlainItem → PlainItem → List NameFault
      items_old earlier item = statement_faults text m item.line (item_sites text (declared earlier) item.body)

      items_new : List PlainItem → PlainItem → List NameFault
      items_new earlier item = statement_faults new m item.line (item_sites new (declared earlier) item.body)

      header : List NameFault
      header = statement_faults text m m.line (header_sites before m)

  module _ (sound : (m : PlainModule) (n : List ℕ) → module_named modules n ≡ Some m → IsSound (m ∷ [])) where
    -- a module alone names itself at most, and the text has a module of its name
    known_too : (e m : PlainModule) → Contains text e → m.name ≡ e.name → (t : List ℕ) → is_none (module_named (m ∷ []) t) ≡ false → is_none (module_named new t) ≡ false
    known_too e m there same t some = by (module_named (m ∷ []) t) refl
      where
        by : (o : Option PlainModule) → module_named (m ∷ []) t ≡ o → is_none (module_named new t) ≡ false
        by None f = grind (arith, some, f)
        by (Some u) f = one (from_find (λ z. same_name z.name t) (m ∷ []) u f)
          where
            one : Contains (m ∷ []) u × (same_name u.name t ≡ true) → is_none (module_named new t) ≡ false
            one x =
                let it : u ≡ m = only (contains_cases m [] u x.0) in
                let name : e.name ≡ t = sym same ∙ sym (ap (λ (z : PlainModule). z.name) it) ∙ (bytes_decides u.name t).0 x.1 in
                let y = find_there (λ (z : PlainModule). same_name z.name t) text e there ((bytes_decides e.name t).1 name) in
                known_new t (ap is_none y.1)
              where
                only : (m ≡ u) ⊎ Contains {X = PlainModule} [] u → u ≡ m
                only (inl h) = sym h
                only (inr h) = absurd (none_in_nil u h)

    free_item : (m : PlainModule) → ((t : List ℕ) → is_none (module_named (m ∷ []) t) ≡ false → is_none (module_named new t) ≡ false) → (body : PlainBody) (earlier : List Declaration) → IsCombinational body → AreQuieter new (m ∷ []) m (item_sites new earlier body) (item_sites (m ∷ []) earlier body)
    free_item m known (Ports port names) earlier free = same_quieter new (m ∷ []) m known (item_sites (m ∷ []) earlier (Ports port names))
    free_item m known (Nets range nets) earlier free = same_quieter new (m ∷ []) m known (item_sites (m ∷ []) earlier (Nets range nets))
    free_item m known (Regs range names) earlier free = same_quieter new (m ∷ []) m known (item_sites (m ∷ []) earlier (Regs range names))
    free_item m known (Supply high range names) earlier free = same_quieter new (m ∷ []) m known (item_sites (m ∷ []) earlier (Supply high range names))
    free_item m known (Assign all) earlier free = same_quieter new (m ∷ []) m known (item_sites (m ∷ []) earlier (Assign all))
    free_item m known (Gates gate all) earlier free = same_quieter new (m ∷ []) m known (item_sites (m ∷ []) earlier (Gates gate all))
    free_item m known (Calls target all) earlier free = absurd free
    free_item m known (Always a) earlier free = absurd free

    goes_quiet : (before : List PlainModule) (e m : PlainModule) → Contains text e → MayReplace e m → module_named modules e.name ≡ Some m → module_faults text before e ≡ [] → module_faults new (map (replaced modules) before) m ≡ []
    goes_quiet before e m there fits found quiet = both_nil (statement_faults new m m.line (header_sites (map (replaced modules) before) m)) (each_after items_new m.items)
        (statement_quiet new (m ∷ []) m m.line (header_sites (map (replaced modules) before) m) (header_sites [] m) (header_quiet m (m ∷ []) known (map (replaced modules) before) [] free) (left_nil header (each_after items_old m.items) alone))
        (each_quiet_same items_old items_new [] m.items (λ earlier item has. statement_quiet new (m ∷ []) m item.line (item_sites new (declared earlier) item.body) (item_sites (m ∷ []) (declared earlier) item.body) (free_item m known item.body (declared earlier) (All-contains (λ (x : PlainItem). IsCombinational x.body) m.items item fits.combinational has))) (right_nil header (each_after items_old m.items) alone))
      where
        has : Contains modules m × (same_name m.name e.name ≡ true)
        has = from_find (λ z. same_name z.name e.name) modules m found

        known : (t : List ℕ) → is_none (module_named (m ∷ []) t) ≡ false → is_none (module_named new t) ≡ false
        known = known_too e m there ((bytes_decides m.name e.name).0 has.1)

        alone : module_faults (m ∷ []) [] m ≡ []
        alone = left_nil (module_faults (m ∷ []) [] m) [] (sound m e.name found)

        free : has_name m.name (map (λ x. x.name) (map (replaced modules) before)) ≡ false
        free = ap (has_name m.name) (names_same modules before) ∙ ap (λ n. has_name n (map (λ (x : PlainModule). x.name) before)) ((bytes_decides m.name e.name).0 has.1) ∙ free_name text before e quiet

        declared : List PlainItem → List Declaration
        declared earlier = flat_map declared_by_head m.heads ++ flat_map (λ x. declared_by x.body) earlier

        items_old : List PlainItem → PlainItem → List NameFault
        items_old earlier item = statement_faults (m ∷ []) m item.line (item_sites (m ∷ []) (declared earlier) item.body)

        items_new : List PlainItem → PlainItem → List NameFault
        items_new earlier item = statement_faults new m item.line (item_sites new (declared earlier) item.body)

        header : List NameFault
        header = statement_faults (m ∷ []) m m.line (header_sites [] m)

    pub replaced_sound : IsSound text → IsSound new
    replaced_sound quiet = each_quiet (replaced modules) (module_faults text) (module_faults new) [] text each quiet
      where
        each : (before : List PlainModule) (m : PlainModule) → Contains text m → module_faults text before m ≡ [] → module_faults new (map (replaced modules) before) (replaced modules m) ≡ []
        each before m has quiet = by (place_for modules m)
          where
            by : Place modules m → module_faults new (map (replaced modules) before) (replaced modules m) ≡ []
            by (Stays f) = subst (λ z. module_faults new (map (replaced modules) before) z ≡ []) (sym f) (stays_quiet before m quiet)
            by (Goes r empty f g) = subst (λ z. module_faults new (map (replaced modules) before) z ≡ []) (sym g) (goes_quiet before m r has (may m r has empty f) f quiet)
