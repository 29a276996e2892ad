-- Only an always item makes registers.
use Rattle.std.proofs.Common.{◌≡◌, ◌⊎◌, ℕ, Bool, true, false, List, [], ◌∷◌, Contains, Option, Some, None, inl, inr}
use Rattle.std.specs.Prelude.{if◌then◌else◌}
use Rattle.std.specs.List.{enumerate_from}
use Rattle.std.specs.Option.{option_and_then}
use Rattle.bb_ast.specs.Syntax.{Expression, Net, PlainAlways, PlainConns, Order, Named, PlainBody, Ports, Nets, Regs, Supply, Assign, Gates, Calls, Always, PlainModule}
use Rattle.bb_names.specs.Faults.{is_input}
use Rattle.bb_names.specs.Sites.{Pin, module_named, pin_named, pin_at}
use Rattle.bb_design.specs.Constructs.{Assignment, Register, SupplyNet, InputConnection, OutputConnection, initial_construct, gate_construct, connection, connections, body_constructs}
use Rattle.bb_lemmas.proofs.Members.{from_flat, from_map, contains_cases, none_in_nil}

module _ (text : List PlainModule) where
  initial_stores : (x : List ℕ × Option Expression) (a : PlainAlways) → Contains (initial_construct x) (Register a) → ⊥
  initial_stores (n, None) a has = none_in_nil (Register a) has
  initial_stores (n, Some e) a has = by (contains_cases (Assignment (Net n) e) [] (Register a) has)
    where
      by : (Assignment (Net n) e ≡ Register a) ⊎ Contains [] (Register a) → ⊥
      by (inl same) = cc
      by (inr none) = none_in_nil (Register a) none

  connection_stores : (i : List ℕ) (pin : Option Pin) (e : Option Expression) (a : PlainAlways) → Contains (connection i pin e) (Register a) → ⊥
  connection_stores i None e a has = none_in_nil (Register a) has
  connection_stores i (Some pin) None a has = none_in_nil (Register a) has
  connection_stores i (Some pin) (Some e) a has = by (is_input pin.dir) has
    where
      by : (b : Bool) → Contains ((if b then InputConnection i pin e else OutputConnection i pin e) ∷ []) (Register a) → ⊥
      by true h = either (contains_cases (InputConnection i pin e) [] (Register a) h)
        where
          either : (InputConnection i pin e ≡ Register a) ⊎ Contains [] (Register a) → ⊥
          either (inl same) = cc
          either (inr none) = none_in_nil (Register a) none
      by false h = either (contains_cases (OutputConnection i pin e) [] (Register a) h)
        where
          either : (OutputConnection i pin e ≡ Register a) ⊎ Contains [] (Register a) → ⊥
          either (inl same) = cc
          either (inr none) = none_in_nil (Register a) none

  call_stores : (target : Option PlainModule) (x : List ℕ × PlainConns) (a : PlainAlways) → Contains (connections target x) (Register a) → ⊥
  call_stores target (i, Order places) a has =
      let y = from_flat (λ y. connection i (option_and_then (λ m. pin_at m y.0) target) y.1) (enumerate_from 0 places) (Register a) has in
      connection_stores i (option_and_then (λ m. pin_at m y.0.0) target) y.0.1 a y.2
  call_stores target (i, Named all) a has =
      let y = from_flat (λ y. connection i (option_and_then (λ m. pin_named m y.0) target) y.1) all (Register a) has in
      connection_stores i (option_and_then (λ m. pin_named m y.0.0) target) y.0.1 a y.2

  pub always_item : (body : PlainBody) (a : PlainAlways) → Contains (body_constructs text body) (Register a) → body ≡ Always a
  always_item (Ports port names) a has = absurd (none_in_nil (Register a) has)
  always_item (Regs range names) a has = absurd (none_in_nil (Register a) has)
  always_item (Nets range nets) a has = let y = from_flat initial_construct nets (Register a) has in absurd (initial_stores y.0 a y.2)
  always_item (Supply high range names) a has = let y = from_map (SupplyNet high) names (Register a) has in let no = y.2 in cc
  always_item (Assign all) a has = let y = from_map (λ x. Assignment x.0 x.1) all (Register a) has in let no = y.2 in cc
  always_item (Gates gate all) a has = let y = from_map (λ x. gate_construct gate x.1) all (Register a) has in let no = y.2 in cc
  always_item (Calls name calls) a has = let y = from_flat (connections (module_named text name)) calls (Register a) has in absurd (call_stores (module_named text name) y.0 a y.2)
  always_item (Always r) a has = by (contains_cases (Register r) [] (Register a) has)
    where
      by : (Register r ≡ Register a) ⊎ Contains [] (Register a) → Always r ≡ Always a
      by (inl same) = cc
      by (inr none) = absurd (none_in_nil (Register a) none)
