-- Outlines can be made of the modules of which scopes of a small design are copies.
use Rattle.std.proofs.Common.{◌≡◌, ◌⊎◌, ℕ, ◌+◌, ◌<◌, ◌≤◌, Bool, true, false, not, ◌&&◌, if◌then◌else◌, List, [], ◌∷◌, map, length, Contains, Option, Some, None, refl, sym, ap, ◌∙◌, subst, inl, inr, arith, true≢false, length-append}
use Rattle.std.specs.Prelude.{All, is_none, slice_get, sum_by}
use Rattle.std.specs.List.{AllByRecursion, AllZip, flat_map, list_all, slice_index_or}
use Rattle.std.proofs.lemmas.List.{length-map}
use Rattle.std.proofs.lemmas.List.Folds.{length-flat_map-take}
use Rattle.std.proofs.lemmas.List.Sums.{get_or-le-sum_by, sum_by-cons}
use Rattle.std.proofs.lemmas.Option.{slice_get_within, get_or_from_slice_get, same_Some}
use Rattle.std.proofs.lemmas.List.Elements.{All-from_recursion}
use Rattle.bb_ast.specs.Inside.Sizes.{call_size, item_size, module_size, source_size}
use Rattle.bb_ast.specs.Syntax.{Expression, PlainConns, PlainBody, Ports, Nets, Regs, Supply, Assign, Gates, Calls, Always, PlainItem, PlainModule}
use Rattle.bb_names.specs.Inside.Checked.{ModuleFacts, syntax, IsChecked}
use Rattle.bb_names.specs.Declarations.{is_port}
use Rattle.bb_names.specs.Nets.{nets_of, is_of_empty, is_empty}
use Rattle.bb_names.specs.Sites.{module_named}
use Rattle.bb_blast.specs.declared.placed.Placed.{Placed}
use Rattle.bb_design.specs.Constructs.{Construct, Assignment, GateInstance, Register, SupplyNet, InputConnection, OutputConnection, BoxContents, initial_construct, body_constructs, constructs_at, parts}
use Rattle.bb_design.specs.Hierarchy.{Design, Scope, Instance, instance_of, instances_in, instances_of, scopes, path_to, is_top, is_box}
use Rattle.bb_design.specs.NetBits.{scope_bits}
use Rattle.bb_blast.specs.Inside.BitBlasting.{module_in, scope_of, module_constructs, bit_count, AreUsed, IsCallAt, IsOutlinable, IsStarted}
use Rattle.bb_blast.specs.Inside.Placements.{IsScopeAt, IsPlacedAt, IsChildAt, ArePlaced}
use Rattle.bb_design.specs.Reading.{cells_at}
use Rattle.bb_design.specs.Refusals.{IsSmallDesign}
use Rattle.bb_design.specs.Sizes.{cell_count_at, cells_in, bits_and_instances}
use Rattle.bb_lemmas.proofs.Places.{there_at, got-map, some_at}
use Rattle.bb_design.specs.Inside.Callees.{callees, callee_place, source_of}
use Rattle.bb_design.specs.Laws.DesignLaws.{DesignLaws}
use Rattle.bb_design.specs.Laws.HierarchyLaws.{HasItsInstances}
use Rattle.bb_lemmas.proofs.Members.{from_flat, contains-map, into_flat, none_in_nil, contains_cases, contains_here, contains_there}
use Rattle.bb_lemmas.proofs.Picked.{one_place}
use Rattle.bb_blast.proofs.ModulePlaces.{module-is}
use Rattle.bb_blast.proofs.NetNumbers.{bits-long}

-- the module at a place of the text
pub meant_at : (checked : List ModuleFacts) (k : ℕ) (m : PlainModule) → slice_get (map syntax checked) k ≡ Some m → (k < length checked) × (module_in checked k ≡ m)
meant_at checked k m there =
    let lt : k < length checked = omega (arith, slice_get_within (map syntax checked) k m there, length-map checked syntax) in
    let f = some_at checked k lt in
    (lt, module-is checked k f.0 f.1 ∙ same_Some (syntax f.0) m (sym (got-map syntax checked k f.0 f.1) ∙ there))

-- no construct is in an empty module
all_true : {A : Type 0} (test : A → Bool) (xs : List A) → list_all test xs ≡ true → (x : A) → Contains xs x → test x ≡ true
all_true test [] e x has = absurd (none_in_nil x has)
all_true test (y ∷ ys) e x has = by (test y) refl e (contains_cases y ys x has) (all_true test ys)
  where
    by : (b : Bool) → test y ≡ b → (b && list_all test ys) ≡ true → (y ≡ x) ⊎ Contains ys x → (list_all test ys ≡ true → (z : _) → Contains ys z → test z ≡ true) → test x ≡ true
    by true on h (inl same) rest = ap test (sym same) ∙ on
    by true on h (inr more) rest = rest h x more
    by false off h at rest = absurd (true≢false (sym h))

and_first : (a b : Bool) → (a && b) ≡ true → a ≡ true
and_first true b e = refl
and_first false b e = absurd (true≢false (sym e))

and_second : (a b : Bool) → (a && b) ≡ true → b ≡ true
and_second true b e = e
and_second false b e = absurd (true≢false (sym e))

open_initial : (x : List ℕ × Option Expression) (port : Bool) → (is_none x.1 && port) ≡ true → (c : Construct) → Contains (initial_construct x) c → ⊥
open_initial (n, None) port e c has = none_in_nil c has
open_initial (n, Some y) port e c has = true≢false (sym e)

open_body : (text : List PlainModule) (m : PlainModule) (body : PlainBody) → is_of_empty m body ≡ true → (c : Construct) → Contains (body_constructs text body) c → ⊥
open_body text m (Ports port names) e c has = none_in_nil c has
open_body text m (Nets range nets) e c has =
    let x = from_flat initial_construct nets c has in
    open_initial x.0 (is_port m x.0.0) (all_true (λ x. is_none x.1 && is_port m x.0) nets e x.0 x.1) c x.2
open_body text m (Regs range names) e c has = none_in_nil c has
open_body text m (Supply high range names) e c has = true≢false (sym e)
open_body text m (Assign all) e c has = true≢false (sym e)
open_body text m (Gates gate all) e c has = true≢false (sym e)
open_body text m (Calls target calls) e c has = true≢false (sym e)
open_body text m (Always r) e c has = true≢false (sym e)

empty_none : (text : List PlainModule) (m : PlainModule) → is_empty m ≡ true → (c : Construct) → Contains (module_constructs text m) c → ⊥
empty_none text m e c has =
    let item = from_flat (λ item. body_constructs text item.body) m.items c has in
    open_body text m item.0.body (all_true (λ (item : PlainItem). is_of_empty m item.body) m.items e item.0 item.1) c item.2

-- how many cells a construct makes does not depend on the scope
same_cells : (s : Scope) (c : Construct) → length (cells_at (scope_of s.source, c)) ≤ cell_count_at (s, c)
same_cells s (Assignment left right) = omega arith
same_cells s (GateInstance gate outs ins) = omega arith
same_cells s (Register r) = omega arith
same_cells s (SupplyNet high n) = omega arith
same_cells s (InputConnection i pin e) = omega arith
same_cells s (OutputConnection i pin e) = omega arith
same_cells s BoxContents = omega arith

le_sum : {A : Type 0} (f : A → ℕ) (xs : List A) (x : A) → Contains xs x → f x ≤ sum_by f xs
le_sum f xs x has = subst (λ y. f y ≤ sum_by f xs) has.2 (get_or-le-sum_by f xs has.0 x has.1)

module _ (d : Design) (k : ℕ) (s : Scope) (at : IsScopeAt d k s) where
  bits_few : (limit : ℕ) → bits_and_instances d ≤ limit → bit_count (nets_of s.source) ≤ limit
  bits_few limit small =
      omega (arith, small, bits-long s.path (nets_of s.source), length-flat_map-take scope_bits (scopes d) k s (slice_get_within (scopes d) k s at), ap (λ (x : Scope). length (scope_bits x)) (get_or_from_slice_get (scopes d) k s s at))

  cells_few : (limit : ℕ) → cells_in d ≤ limit → (c : Construct) → Contains (module_constructs d.text s.source) c → length (cells_at (scope_of s.source, c)) ≤ limit
  cells_few limit small c has = by (is_box s) refl
    where
      by : (b : Bool) → is_box s ≡ b → length (cells_at (scope_of s.source, c)) ≤ limit
      by true box = absurd (empty_none d.text s.source (and_second (not (is_top s.path)) (is_empty s.source) box) c has)
      by false plain =
          let here : constructs_at d.text s ≡ module_constructs d.text s.source = ap (λ b. if b then BoxContents ∷ [] else module_constructs d.text s.source) plain in
          let part : Contains (parts d) (s, c) = into_flat (λ s. map (λ c. (s, c)) (constructs_at d.text s)) (scopes d) s (s, c) (there_at (scopes d) k s at) (contains-map (λ c. (s, c)) (constructs_at d.text s) c (subst (λ l. Contains l c) (sym here) has)) in
          omega (arith, small, same_cells s c, le_sum cell_count_at (parts d) (s, c) part)

-- a source has no more instances than its size
calls_few : (target : List ℕ) (calls : List (List ℕ × PlainConns)) → length (map (instance_of target) calls) ≤ sum_by call_size calls
calls_few target [] = omega arith
calls_few target (x ∷ xs) = omega (arith, calls_few target xs, sum_by-cons call_size x xs)

body_few : (body : PlainBody) → length (instances_in body) ≤ item_size body
body_few (Ports port names) = omega arith
body_few (Nets range nets) = omega arith
body_few (Regs range names) = omega arith
body_few (Supply high range names) = omega arith
body_few (Assign all) = omega arith
body_few (Gates gate all) = omega arith
body_few (Calls target calls) = calls_few target calls
body_few (Always r) = omega arith

items_few : (items : List PlainItem) → length (flat_map (λ item. instances_in item.body) items) ≤ sum_by (λ item. item_size item.body) items
items_few [] = omega arith
items_few (x ∷ xs) = omega (arith, length-append (instances_in x.body) (flat_map (λ (item : PlainItem). instances_in item.body) xs), body_few x.body, items_few xs, sum_by-cons (λ (item : PlainItem). item_size item.body) x xs)

modules_few : (text : List PlainModule) → length text ≤ source_size text
modules_few [] = omega arith
modules_few (m ∷ ms) = omega (arith, modules_few ms, sum_by-cons (λ (m : PlainModule). 2 + module_size m) m ms)

module _ (checked : List ModuleFacts) (ok : IsChecked checked) where
  pub text_small : length checked ≤ 33554432
  text_small = omega (arith, ok.read.small, modules_few (map syntax checked), length-map checked syntax)

  instances_small : (m : PlainModule) → Contains (map syntax checked) m → length (instances_of m) ≤ 33554432
  instances_small m has = omega (arith, ok.read.small, le_sum (λ (m : PlainModule). 2 + module_size m) (map syntax checked) m has, items_few m.items)

  module _ (all : List Placed) (d : Design) (text : d.text ≡ map syntax checked) (are : ArePlaced d all) where
    pub scope_there : (k : ℕ) (p : Placed) → slice_get all k ≡ Some p → (s : Scope) × IsScopeAt d k s × IsPlacedAt d k s p
    scope_there k p e =
        let s = some_at (scopes d) k (omega (arith, slice_get_within all k p e, are.count)) in
        (s.0, s.1, are.each k s.0 p s.1 e)

    pub source_meant : (k : ℕ) (s : Scope) (p : Placed) → IsScopeAt d k s → slice_get all k ≡ Some p → (p.module < length checked) × (module_in checked p.module ≡ s.source)
    source_meant k s p at e = meant_at checked p.module s.source (ap (λ l. slice_get l p.module) (sym text) ∙ (are.each k s p at e).source)

    -- what a module has whose scope it is
    bits_in : IsSmallDesign d → (k : ℕ) (s : Scope) (p : Placed) → IsScopeAt d k s → slice_get all k ≡ Some p → bit_count (nets_of (module_in checked p.module)) ≤ 1000000
    bits_in small k s p at e = subst (λ m. bit_count (nets_of m) ≤ 1000000) (sym (source_meant k s p at e).1) (bits_few d k s at 1000000 small.0)

    pub used_bits : IsSmallDesign d → (used : List Bool) → AreUsed all used → (m : ℕ) → slice_get used m ≡ Some true → bit_count (nets_of (module_in checked m)) ≤ 1000000
    used_bits small used are_used m e =
        let p = are_used.only m e in
        let s = scope_there p.0 p.1 p.2 in
        subst (λ n. bit_count (nets_of (module_in checked n)) ≤ 1000000) p.3 (bits_in small p.0 s.0 p.1 s.1 p.2)

    pub modules_there : All (λ p. p.module < length checked) all
    modules_there k e lt =
        let p = some_at all k lt in
        let s = scope_there k p.0 p.1 in
        subst (λ q. q.module < length checked) (sym (get_or_from_slice_get all k p.0 e p.1)) (source_meant k s.0 p.0 s.1 p.1).0

    -- a module of which a scope is a copy, with the modules of its instances
    module _ (of_designs : DesignLaws) (small : IsSmallDesign d) (used : List Bool) (are_used : AreUsed all used) (starts : List (List ℕ)) (started : (m : ℕ) → slice_get used m ≡ Some true → IsStarted checked starts m)
        (k : ℕ) (p : Placed) (here : slice_get all k ≡ Some p) where
      abbrev text_of : List PlainModule
      text_of = map syntax checked

      s : (s : Scope) × IsScopeAt d k s × IsPlacedAt d k s p
      s = scope_there k p here

      meant : (p.module < length checked) × (module_in checked p.module ≡ s.0.source)
      meant = source_meant k s.0 p s.1 here

      source_at : slice_get text_of p.module ≡ Some s.0.source
      source_at = ap (λ l. slice_get l p.module) (sym text) ∙ s.2.source

      in_text : Contains text_of s.0.source
      in_text = there_at text_of p.module s.0.source source_at

      law : HasItsInstances text_of s.0.source
      law = of_designs.instances text_of ok.sound s.0.source in_text

      -- the module of an instance is one of which a scope is a copy
      target_used : (n : ℕ) (i : Instance) → Contains (instances_of s.0.source) i → IsChildAt d s.0 n i → slice_get used (callee_place text_of i) ≡ Some true
      target_used n i has child =
          let q = some_at all n (omega (arith, slice_get_within (scopes d) n _ child.2, are.count)) in
          let at : slice_get text_of q.0.module ≡ Some child.0 = ap (λ l. slice_get l q.0.module) (sym text) ∙ (are.each n (record { path = path_to s.0.path i.name; source = child.0 }) q.0 child.2 q.1).source in
          let own : source_of text_of s.0.source i ≡ child.0 = same_Some (source_of text_of s.0.source i) child.0 (sym (law.meant i has) ∙ ap (λ l. module_named l i.target) (sym text) ∙ child.1) in
          let to : slice_get text_of (callee_place text_of i) ≡ Some child.0 = law.occurs i has ∙ ap Some own in
          let same : q.0.module ≡ callee_place text_of i =
          one_place (map (λ m. m.name) text_of) q.0.module (callee_place text_of i) child.0.name (of_designs.modules_apart text_of ok.sound)
          (got-map (λ (m : PlainModule). m.name) text_of q.0.module child.0 at) (got-map (λ (m : PlainModule). m.name) text_of (callee_place text_of i) child.0 to) in
          ap (slice_get used) (sym same) ∙ are_used.each n q.0 q.1

      targets_used : (ns : List ℕ) (is : List Instance) → ((i : Instance) → Contains is i → Contains (instances_of s.0.source) i) → AllZip (IsChildAt d s.0) ns is → AllByRecursion (IsStarted checked starts) (map (callee_place text_of) is)
      targets_used [] [] of zip = tt
      targets_used [] (i ∷ is) of zip = absurd zip
      targets_used (n ∷ ns) [] of zip = absurd zip
      targets_used (n ∷ ns) (i ∷ is) of zip =
          (started (callee_place text_of i) (target_used n i (of i (contains_here i is)) zip.0), targets_used ns is (λ j has. of j (contains_there i is j has)) zip.1)

      calls_at : (j : ℕ) (called : Instance) → slice_get (instances_of (module_in checked p.module)) j ≡ Some called
          → IsCallAt checked p.module (0 + j) (slice_index_or (map (callee_place text_of) (instances_of s.0.source)) (0 + j) 0) called
      calls_at j called e =
          let zero : 0 + j ≡ j = omega arith in
          let there : slice_get (instances_of s.0.source) j ≡ Some called = ap (λ m. slice_get (instances_of m) j) (sym meant.1) ∙ e in
          let has = there_at (instances_of s.0.source) j called there in
          let target : slice_index_or (map (callee_place text_of) (instances_of s.0.source)) (0 + j) 0 ≡ callee_place text_of called =
          ap (λ i. slice_index_or (map (callee_place text_of) (instances_of s.0.source)) i 0) zero
          ∙ get_or_from_slice_get (map (callee_place text_of) (instances_of s.0.source)) j (callee_place text_of called) 0 (got-map (callee_place text_of) (instances_of s.0.source) j called there) in
          record {
            there = ap (slice_get (instances_of (module_in checked p.module))) zero ∙ e;
            meant = law.meant called has ∙ sym (ap Some (ap (module_in checked) target ∙ (meant_at checked (callee_place text_of called) (source_of text_of s.0.source called) (law.occurs called has)).1));
          }

      pub outlinable : IsOutlinable checked starts p.module (slice_index_or (map (callees text_of) text_of) p.module [])
      outlinable = subst (IsOutlinable checked starts p.module) (sym (law.called p.module source_at)) (record {
        started = started p.module (are_used.each k p here);
        targets = All-from_recursion (IsStarted checked starts) (map (callee_place text_of) (instances_of s.0.source)) (targets_used p.children.items (instances_of s.0.source) (λ i has. has) s.2.children);
        few = omega (arith, length-map (instances_of s.0.source) (callee_place text_of), instances_small s.0.source in_text);
        calls = record {
          room = omega (arith, length-map (instances_of s.0.source) (callee_place text_of), ap (λ m. length (instances_of m)) meant.1);
          each = calls_at;
        };
        modest = record {
          bits = bits_in small k s.0 p s.1 here;
          cells = λ c has. subst (λ m. length (cells_at (scope_of m, c)) ≤ 2000000) (sym meant.1) (cells_few d k s.0 s.1 2000000 small.1 c
              (subst (λ t. Contains (module_constructs t s.0.source) c) (sym text) (subst (λ m. Contains (module_constructs text_of m) c) meant.1 has)));
        };
      })
