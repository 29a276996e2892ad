-- The expressions of a construct that make cells are in the module of its scope.
use Rattle.std.proofs.Common.{◌≡◌, ◌⊎◌, ℕ, Bool, true, false, if◌then◌else◌, List, [], ◌∷◌, drop, length, Contains, Option, Some, None, refl, sym, ap, subst, inl, inr, arith}
use Rattle.std.specs.Prelude.{option_to_list}
use Rattle.std.specs.List.{enumerate_from, flat_map}
use Rattle.std.specs.Option.{option_and_then}
use Rattle.bb_ast.specs.Gates.{output_count}
use Rattle.bb_ast.specs.Syntax.{Expression, Net, PlainConns, Order, Named, PlainBody, Ports, Nets, Regs, Supply, Assign, Gates, Calls, Always, PlainItem, PlainModule}
use Rattle.bb_names.specs.Faults.{is_input}
use Rattle.bb_names.specs.Sites.{Pin, module_named, pin_named, pin_at}
use Rattle.bb_expr.specs.Inside.Occurrences.{expressions_in, conns_expressions, item_expressions, OccursIn}
use Rattle.bb_design.specs.Constructs.{Construct, Assignment, Register, SupplyNet, InputConnection, OutputConnection, BoxContents, initial_construct, gate_construct, connection, connections, body_constructs, constructs_at}
use Rattle.bb_design.specs.Contexts.{width_of}
use Rattle.bb_design.specs.Hierarchy.{Scope, is_box}
use Rattle.bb_implements.specs.Places.{lowered_in}
use Rattle.bb_lemmas.proofs.Members.{from_flat, from_map, into_flat, contains_here, contains_there, contains_cases, none_in_nil, from_drop}
use Rattle.bb_lemmas.proofs.Numbered.{from_numbered}

module _ (s : Scope) where
  -- the expression is one of these
  abbrev Lowers : Construct → List Expression → Type 0
  Lowers c all = (x : Expression × ℕ) → Contains (lowered_in (s, c)) x → Contains all x.0

  one : (e : Expression) (w : ℕ) (all : List Expression) → Contains all e → (x : Expression × ℕ) → Contains ((e, w) ∷ []) x → Contains all x.0
  one e w all has x in_one = by (contains_cases {A = Expression × ℕ} (e, w) [] x in_one)
    where
      by : ◌≡◌ {A = Expression × ℕ} (e, w) x ⊎ Contains [] x → Contains all x.0
      by (inl same) = subst (Contains all) (ap (λ (y : Expression × ℕ). y.0) same) has
      by (inr none) = absurd (none_in_nil x none)

  listed : (all : List Expression) (o : Option Expression) (e : Expression) → ((x : Expression) → Contains (option_to_list o) x → Contains all x) → o ≡ Some e → Contains all e
  listed all o e h is = h e (subst (λ p. Contains (option_to_list p) e) (sym is) (contains_here e []))

  initial-lowers : (x : List ℕ × Option Expression) (all : List Expression) → ((e : Expression) → Contains (option_to_list x.1) e → Contains all e) → (c : Construct) → Contains (initial_construct x) c → Lowers c all
  initial-lowers (n, None) all h c has = absurd (none_in_nil c has)
  initial-lowers (n, Some e) all h c has = by (contains_cases (Assignment (Net n) e) [] c has)
    where
      by : (Assignment (Net n) e ≡ c) ⊎ Contains [] c → Lowers c all
      by (inl same) = subst (λ z. Lowers z all) same (one e _ all (h e (contains_here e [])))
      by (inr none) = absurd (none_in_nil c none)

  connection-lowers : (i : List ℕ) (pin : Option Pin) (o : Option Expression) (all : List Expression) → ((e : Expression) → Contains (option_to_list o) e → Contains all e) → (c : Construct) → Contains (connection i pin o) c → Lowers c all
  connection-lowers i None o all h c has = absurd (none_in_nil c has)
  connection-lowers i (Some pin) None all h c has = absurd (none_in_nil c has)
  connection-lowers i (Some pin) (Some e) all h c has = by (contains_cases (if is_input pin.dir then InputConnection i pin e else OutputConnection i pin e) [] c has)
    where
      side : (b : Bool) → Lowers (if b then InputConnection i pin e else OutputConnection i pin e) all
      side true = one e (width_of s e) all (h e (contains_here e []))
      side false = λ x none. absurd (none_in_nil x none)

      by : ((if is_input pin.dir then InputConnection i pin e else OutputConnection i pin e) ≡ c) ⊎ Contains [] c → Lowers c all
      by (inl same) = subst (λ z. Lowers z all) same (side (is_input pin.dir))
      by (inr none) = absurd (none_in_nil c none)

  conns-lowers : (target : Option PlainModule) (x : List ℕ × PlainConns) (all : List Expression) → ((e : Expression) → Contains (conns_expressions x.1) e → Contains all e) → (c : Construct) → Contains (connections target x) c → Lowers c all
  conns-lowers target (i, Order places) all h c has =
      let y = from_flat (λ y. connection i (option_and_then (λ m. pin_at m y.0) target) y.1) (enumerate_from 0 places) c has in
      connection-lowers i (option_and_then (λ m. pin_at m y.0.0) target) y.0.1 all (λ e at. h e (into_flat option_to_list places y.0.1 e (from_numbered 0 places y.0 y.1) at)) c y.2
  conns-lowers target (i, Named names) all h c has =
      let y = from_flat (λ y. connection i (option_and_then (λ m. pin_named m y.0) target) y.1) names c has in
      connection-lowers i (option_and_then (λ m. pin_named m y.0.0) target) y.0.1 all (λ e at. h e (into_flat (λ z. option_to_list z.1) names y.0 e y.1 at)) c y.2

  body-lowers : (text : List PlainModule) (body : PlainBody) (c : Construct) → Contains (body_constructs text body) c → Lowers c (item_expressions body)
  body-lowers text (Ports port names) c has = absurd (none_in_nil c has)
  body-lowers text (Nets range nets) c has =
      let x = from_flat initial_construct nets c has in
      initial-lowers x.0 (item_expressions (Nets range nets)) (λ e at. into_flat (λ z. option_to_list z.1) nets x.0 e x.1 at) c x.2
  body-lowers text (Regs range names) c has = absurd (none_in_nil c has)
  body-lowers text (Supply high range names) c has = let x = from_map (SupplyNet high) names c has in subst (λ z. Lowers z []) x.2 (λ y none. absurd (none_in_nil y none))
  body-lowers text (Assign all) c has =
      let x = from_map (λ (x : Expression × Expression). Assignment x.0 x.1) all c has in
      subst (λ z. Lowers z (item_expressions (Assign all))) x.2
      (one x.0.1 _ (item_expressions (Assign all)) (into_flat (λ (z : Expression × Expression). z.0 ∷ z.1 ∷ []) all x.0 x.0.1 x.1 (contains_there x.0.0 (x.0.1 ∷ []) x.0.1 (contains_here x.0.1 []))))
  body-lowers text (Gates gate all) c has =
      let x = from_map (λ (x : Option (List ℕ) × List Expression). gate_construct gate x.1) all c has in
      let n : ℕ = output_count gate (length x.0.1) in
      subst (λ z. Lowers z (item_expressions (Gates gate all))) x.2 (λ y at.
      let e = from_map (λ e. (e, width_of s e)) (drop n x.0.1) y at in
      let same : e.0 ≡ y.0 = ap (λ (z : Expression × ℕ). z.0) e.2 in
      into_flat (λ (z : Option (List ℕ) × List Expression). z.1) all x.0 y.0 x.1 (from_drop n x.0.1 y.0 (subst (Contains (drop n x.0.1)) same e.1)))
  body-lowers text (Calls target all) c has =
      let x = from_flat (connections (module_named text target)) all c has in
      conns-lowers (module_named text target) x.0 (item_expressions (Calls target all)) (λ e at. into_flat (λ (z : List ℕ × PlainConns). conns_expressions z.1) all x.0 e x.1 at) c x.2
  body-lowers text (Always r) c has = by (contains_cases (Register r) [] c has)
    where
      by : (Register r ≡ c) ⊎ Contains [] c → Lowers c (item_expressions (Always r))
      by (inl same) = subst (λ z. Lowers z (item_expressions (Always r))) same (one r.right _ (item_expressions (Always r)) (2, omega arith, refl))
      by (inr none) = absurd (none_in_nil c none)

  -- what a construct lowers is in the module
  pub lowered-occurs : (text : List PlainModule) (c : Construct) → Contains (constructs_at text s) c → (x : Expression × ℕ) → Contains (lowered_in (s, c)) x → OccursIn s.source x.0
  lowered-occurs text c has x at = by (is_box s) refl
    where
      by : (b : Bool) → is_box s ≡ b → OccursIn s.source x.0
      by true is = boxed (contains_cases BoxContents [] c (subst (λ b. Contains (if b then BoxContents ∷ [] else flat_map (λ (item : PlainItem). body_constructs text item.body) s.source.items) c) is has))
        where
          boxed : (BoxContents ≡ c) ⊎ Contains [] c → OccursIn s.source x.0
          boxed (inl same) = absurd (none_in_nil x (subst (λ z. Contains (lowered_in (s, z)) x) (sym same) at))
          boxed (inr none) = absurd (none_in_nil c none)
      by false is =
          let in_items = subst (λ b. Contains (if b then BoxContents ∷ [] else flat_map (λ (item : PlainItem). body_constructs text item.body) s.source.items) c) is has in
          let item = from_flat (λ (item : PlainItem). body_constructs text item.body) s.source.items c in_items in
          let e = body-lowers text item.0.body c item.2 x at in
          into_flat (λ (item : PlainItem). flat_map expressions_in (item_expressions item.body)) s.source.items item.0 x.0 item.1
          (into_flat expressions_in (item_expressions item.0.body) x.0 x.0 e (contains_here x.0 _))
