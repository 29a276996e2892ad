-- The registers of a design with modules in place of boxes are its registers: boxes have none, nor have the modules.
use Rattle.std.proofs.Common.{◌≡◌, ◌⊎◌, ℕ, ◌+◌, Bool, true, false, not, List, [], ◌∷◌, ◌++◌, map, filter, find, Contains, Option, Some, None, inl, inr, refl, sym, ap, ap₂, ◌∙◌, subst, arith}
use Rattle.std.proofs.lemmas.List.Concat.{flat_map-append}
use Rattle.std.specs.Prelude.{option_to_list}
use Rattle.std.specs.List.{cons_option, enumerate_from, filter_map, flat_map, list_all, list_any, range_with_len}
use Rattle.std.proofs.lemmas.List.Elements.{All-contains, Contains-append_cases, filter_map-append}
use Rattle.bb_ast.specs.Folds.{of_parts}
use Rattle.bb_ast.specs.Syntax.{Expression, Net as NetOf, Bit as BitOf, Part, Sized, Plain, Not as NotOf, Fold, Chain, Words, Cond, Concat, Repeat, Parts, no_part, part, Always, PlainAlways, PlainItem, PlainModule}
use Rattle.bb_names.specs.Declarations.{range_of}
use Rattle.bb_names.specs.declared.net.NetInfo.{NetInfo}
use Rattle.bb_names.specs.Faults.{is_input}
use Rattle.bb_names.specs.Nets.{is_empty, is_of_empty, nets_of}
use Rattle.bb_names.specs.Ranges.{distance, place_of, range_width}
use Rattle.bb_lemmas.proofs.Members.{contains_here, contains_there, contains_cases, from_find, from_flat, from_map, none_in_nil}
use Rattle.bb_lemmas.proofs.Numbered.{from_numbered}
use Rattle.bb_design.specs.Constructs.{Construct, Assignment, GateInstance, Register, SupplyNet, InputConnection, OutputConnection, BoxContents, body_constructs, constructs_at, parts}
use Rattle.bb_design.specs.Hierarchy.{Design, Path, Scope, is_box, is_top, module_at, scopes}
use Rattle.bb_design.specs.Inside.Allowed.{IsBounded}
use Rattle.bb_design.specs.Laws.BitLaws.{BitsAreDistinguished, PartsAreConstructs}
use Rattle.bb_design.specs.Laws.DesignLaws.{DesignLaws}
use Rattle.bb_design.specs.Laws.DriveLaws.{RegistersAreAlwaysItems, StoredBitsAreDriven}
use Rattle.bb_design.specs.Laws.{ScopesAreEnds}
use Rattle.bb_design.specs.NetBits.{Bit, assigned, bits_of_net, input_bits, net_order, output_bits, same_bit, scope_bits, written_bits}
use Rattle.bb_design.specs.Registers.{RegisterBit, registers, stored, stored_at}
use Rattle.bb_replace.specs.Laws.Replacement.{AllMayReplace, IsCombinational, MayReplace, scope_of, replaced, replaced_design}
use Rattle.bb_replace.proofs.ReplacedConstructs.{same_constructs}
use Rattle.bb_replace.proofs.ReplacedModules.{Place, Stays, Goes, place_for, under_there}
use Rattle.bb_replace.proofs.ReplacedScopes.{changed, scopes_same}

-- what is written is of the scope

ranged : (path : Path) (n : List ℕ) (places : List ℕ) (b : Bit) → Contains (map (λ k. record { path = path; net = n; place = k }) places) b → b.path ≡ path
ranged path n places b has = let k = from_map (λ (k : ℕ). record { path = path; net = n; place = k }) places b has in sym (ap (λ (z : Bit). z.path) k.2)

mutual
  pub written_path : (s : Scope) (e : Expression) (b : Bit) → Contains (written_bits s e) b → b.path ≡ s.path
  written_path s (NetOf n) b has = ranged s.path n (range_with_len 0 (range_width (range_of s.source n))) b has
  written_path s (BitOf n i) b has = ranged s.path n (range_with_len (place_of (range_of s.source n) i) 1) b has
  written_path s (Part n i j) b has = ranged s.path n (range_with_len (place_of (range_of s.source n) i) (distance i j + 1)) b has
  written_path s (Sized bits) b has = absurd (none_in_nil b has)
  written_path s (Plain n) b has = absurd (none_in_nil b has)
  written_path s (NotOf k e) b has = absurd (none_in_nil b has)
  written_path s (Fold op e) b has = absurd (none_in_nil b has)
  written_path s (Chain e rest) b has = absurd (none_in_nil b has)
  written_path s (Words e rest) b has = absurd (none_in_nil b has)
  written_path s (Cond arms last) b has = absurd (none_in_nil b has)
  written_path s (Repeat k parts) b has = absurd (none_in_nil b has)
  written_path s (Concat parts) b has = parts_path s parts b has

  parts_path : (s : Scope) (parts : Parts) (b : Bit) → Contains (flat_map (λ bits. bits) (of_parts (λ e a. a) (assigned s) parts)) b → b.path ≡ s.path
  parts_path s no_part b has = absurd (none_in_nil b has)
  parts_path s (part e rest) b has = by (Contains-append_cases (written_bits s e) (flat_map (λ bits. bits) (of_parts (λ e a. a) (assigned s) rest)) b has) (written_path s e b) (parts_path s rest b)
    where
      by : Contains (written_bits s e) b ⊎ Contains (flat_map (λ bits. bits) (of_parts (λ e a. a) (assigned s) rest)) b → (Contains (written_bits s e) b → b.path ≡ s.path) → (Contains (flat_map (λ bits. bits) (of_parts (λ e a. a) (assigned s) rest)) b → b.path ≡ s.path) → b.path ≡ s.path
      by (inl h) here there = here h
      by (inr h) here there = there h

-- lists of nothing

none_made : {A B : Type 0} (f : A → List B) (xs : List A) → ((x : A) → Contains xs x → f x ≡ []) → flat_map f xs ≡ []
none_made f [] none = refl
none_made f (x ∷ xs) none = ap₂ (λ a b. a ++ b) (none x (contains_here x xs)) (none_made f xs (λ y has. none y (contains_there x xs y has)))

none_kept : {A B : Type 0} (f : A → Option B) (xs : List A) → ((x : A) → Contains xs x → f x ≡ None) → filter_map f xs ≡ []
none_kept f [] none = refl
none_kept f (x ∷ xs) none = ap₂ cons_option (none x (contains_here x xs)) (none_kept f xs (λ y has. none y (contains_there x xs y has)))

pub flat_same_within : {A B C : Type 0} (f : A → List C) (h : A → B) (g : B → List C) (xs : List A) → ((x : A) → Contains xs x → g (h x) ≡ f x) → flat_map g (map h xs) ≡ flat_map f xs
flat_same_within f h g [] same = refl
flat_same_within f h g (x ∷ xs) same = ap₂ (λ a b. a ++ b) (same x (contains_here x xs)) (flat_same_within f h g xs (λ y has. same y (contains_there x xs y has)))

pub flat_flat : {A B C : Type 0} (f : A → List B) (g : B → List C) (xs : List A) → flat_map g (flat_map f xs) ≡ flat_map (λ x. flat_map g (f x)) xs
flat_flat f g [] = refl
flat_flat f g (x ∷ xs) = flat_map-append g (f x) (flat_map f xs) ∙ ap (λ l. flat_map g (f x) ++ l) (flat_flat f g xs)

filter_flat : {A B C : Type 0} (f : A → List B) (h : B → Option C) (xs : List A) → filter_map h (flat_map f xs) ≡ flat_map (λ x. filter_map h (f x)) xs
filter_flat f h [] = refl
filter_flat f h (x ∷ xs) = filter_map-append h (f x) (flat_map f xs) ∙ ap (λ l. filter_map h (f x) ++ l) (filter_flat f h xs)

-- no register is in an empty module, nor in one that may replace it

pub all_there : {A : Type 0} (test : A → Bool) (xs : List A) → list_all test xs ≡ true → (x : A) → Contains xs x → test x ≡ true
all_there test [] e x has = absurd (none_in_nil x has)
all_there test (y ∷ xs) e x has = by (test y) (list_all test xs) refl refl (contains_cases y xs x has) (λ f. all_there test xs f x)
  where
    by : (b c : Bool) → test y ≡ b → list_all test xs ≡ c → (y ≡ x) ⊎ Contains xs x → (list_all test xs ≡ true → Contains xs x → test x ≡ true) → test x ≡ true
    by true true f g (inl same) more = subst (λ z. test z ≡ true) same f
    by true true f g (inr h) more = more g h
    by true false f g either more = grind (arith, e, f, g)
    by false c f g either more = grind (arith, e, f, g)

pub empty_stores : RegistersAreAlwaysItems → (text : List PlainModule) (s : Scope) → is_empty s.source ≡ true → (a : PlainAlways) → Contains (constructs_at text s) (Register a) → ⊥
empty_stores always text s empty a has = by (is_box s) refl
  where
    by : (b : Bool) → is_box s ≡ b → ⊥
    by true e = box (contains_cases BoxContents [] (Register a) (subst (λ l. Contains l (Register a)) {y = BoxContents ∷ []} (grind (arith, e)) has))
      where
        box : (BoxContents ≡ Register a) ⊎ Contains {X = Construct} [] (Register a) → ⊥
        box (inl same) = grind (arith, same)
        box (inr h) = none_in_nil (Register a) h
    by false e =
        let listed : constructs_at text s ≡ flat_map (λ (item : PlainItem). body_constructs text item.body) s.source.items = grind (arith, e) in
        let i = from_flat (λ (item : PlainItem). body_constructs text item.body) s.source.items (Register a) (subst (λ l. Contains l (Register a)) listed has) in
        let body : i.0.body ≡ Always a = always text i.0.body a i.2 in
        let ok : is_of_empty s.source i.0.body ≡ true = all_there (λ (item : PlainItem). is_of_empty s.source item.body) s.source.items empty i.0 i.1 in
        grind (arith, ok, body)

module_stores : RegistersAreAlwaysItems → (e m : PlainModule) → MayReplace e m → (text : List PlainModule) (path : Path) (a : PlainAlways) → Contains (constructs_at text (scope_of path m)) (Register a) → ⊥
module_stores always e m may text path a has = by (is_top path) refl
  where
    by : (b : Bool) → is_top path ≡ b → ⊥
    by b f =
        let listed : constructs_at text (scope_of path m) ≡ flat_map (λ (item : PlainItem). body_constructs text item.body) m.items = no_box b f in
        let i = from_flat (λ (item : PlainItem). body_constructs text item.body) m.items (Register a) (subst (λ l. Contains l (Register a)) listed has) in
        subst IsCombinational (always text i.0.body a i.2) (All-contains (λ (item : PlainItem). IsCombinational item.body) m.items i.0 may.combinational i.1)
      where
        no_box : (b : Bool) → is_top path ≡ b → constructs_at text (scope_of path m) ≡ flat_map (λ (item : PlainItem). body_constructs text item.body) m.items
        no_box true f = grind (arith, f, may.not_empty)
        no_box false f = grind (arith, f, may.not_empty)

stored_none : (s : Scope) (c : Construct) → ((a : PlainAlways) → c ≡ Register a → ⊥) → stored_at (s, c) ≡ []
stored_none s (Assignment left right) free = refl
stored_none s (GateInstance gate outs ins) free = refl
stored_none s (Register a) free = absurd (free a refl)
stored_none s (SupplyNet high n) free = refl
stored_none s (InputConnection i pin e) free = refl
stored_none s (OutputConnection i pin e) free = refl
stored_none s BoxContents free = refl

-- what is stored in a scope
abbrev stores : List PlainModule → Scope → List RegisterBit
stores text s = flat_map stored_at (map (λ c. (s, c)) (constructs_at text s))

no_stores : (text : List PlainModule) (s : Scope) → ((a : PlainAlways) → Contains (constructs_at text s) (Register a) → ⊥) → stores text s ≡ []
no_stores text s none = none_made stored_at (map (λ c. (s, c)) (constructs_at text s)) each
  where
    each : (x : Scope × Construct) → Contains (map (λ c. (s, c)) (constructs_at text s)) x → stored_at x ≡ []
    each x has =
        let c = from_map (λ (c : Construct). (s, c)) (constructs_at text s) x has in
        subst (λ z. stored_at z ≡ []) c.2 (stored_none s c.0 (λ a e. none a (subst (Contains (constructs_at text s)) e c.1)))

stored_flat : (d : Design) → stored d ≡ flat_map (stores d.text) (scopes d)
stored_flat d = flat_flat (λ (s : Scope). map (λ (c : Construct). (s, c)) (constructs_at d.text s)) stored_at (scopes d)

-- what holds of a register: it is an always item of a scope, and its bit is of this scope
pub record IsStored (d : Design) (r : RegisterBit) : Type 0 where
  pub scope : Contains (scopes d) r.scope
  pub item : Contains (constructs_at d.text r.scope) (Register r.item)
  pub path : r.bit.path ≡ r.scope.path

pub stored_there : StoredBitsAreDriven → PartsAreConstructs → (d : Design) (r : RegisterBit) → Contains (stored d) r → IsStored d r
stored_there stored_law parts_law d r has =
    let p = from_flat stored_at (parts d) r has in
    let is : p.0 ≡ (r.scope, Register r.item) = (stored_law p.0).always r p.2 in
    let there = parts_law d r.scope (Register r.item) (subst (Contains (parts d)) is p.1) in
    let x = from_map (λ (x : ℕ × Bit). record { scope = r.scope; item = r.item; place = x.0; bit = x.1 }) (enumerate_from 0 (written_bits r.scope r.item.left)) r (subst (λ z. Contains (stored_at z) r) is p.2) in
    let bit : x.0.1 ≡ r.bit = ap (λ (z : RegisterBit). z.bit) x.2 in
    record {
      scope = there.0;
      item = there.1;
      path = sym (ap (λ (z : Bit). z.path) bit) ∙ written_path r.scope r.item.left x.0.1 (from_numbered 0 (written_bits r.scope r.item.left) x.0 x.1);
    }

-- laws of designs on which this rests
pub record Below (d : Design) : Type 0 where
  pub always : RegistersAreAlwaysItems
  pub stored_law : StoredBitsAreDriven
  pub parts_law : PartsAreConstructs
  pub distinguished : BitsAreDistinguished
  pub ends : ScopesAreEnds d
  pub top : Contains d.text d.top

pub below : DesignLaws → (d : Design) → IsBounded d → Below d
below laws d bounded = record {
  always = laws.always_item;
  stored_law = laws.stores;
  parts_law = laws.part_of;
  distinguished = laws.distinguished;
  ends = laws.ends d bounded;
  top = bounded.top;
}

pub source_there : (d : Design) → Below d → (s : Scope) → Contains (scopes d) s → Contains d.text s.source
source_there d laws s has = under_there d.text d.top laws.top s.path s.source (laws.ends.reached s has)

stored_same : (modules : List PlainModule) (d : Design) → Below d → AllMayReplace modules d.text → stored (replaced_design modules d) ≡ stored d
stored_same modules d laws may =
    stored_flat (replaced_design modules d) ∙ ap (flat_map (stores (map (replaced modules) d.text))) (scopes_same modules d may laws.top)
    ∙ flat_same_within (stores d.text) (changed modules) (stores (map (replaced modules) d.text)) (scopes d) each ∙ sym (stored_flat d)
  where
    each : (s : Scope) → Contains (scopes d) s → stores (map (replaced modules) d.text) (changed modules s) ≡ stores d.text s
    each s has = by (place_for modules s.source)
      where
        by : Place modules s.source → stores (map (replaced modules) d.text) (changed modules s) ≡ stores d.text s
        by (Stays e) = ap (λ z. stores (map (replaced modules) d.text) (scope_of s.path z)) e ∙ ap (λ l. flat_map stored_at (map (λ c. (s, c)) l)) (same_constructs modules d.text may s)
        by (Goes m e f g) =
            ap (λ z. stores (map (replaced modules) d.text) (scope_of s.path z)) g
            ∙ no_stores (map (replaced modules) d.text) (scope_of s.path m) (module_stores laws.always s.source m (may s.source m (source_there d laws s has) e f) (map (replaced modules) d.text) s.path)
            ∙ sym (no_stores d.text s (empty_stores laws.always d.text s e))

-- no bit of a copy of an empty module is stored to

pub net_path : (path : Path) (nets : List NetInfo) (b : Bit) → Contains (flat_map (bits_of_net path) nets) b → b.path ≡ path
net_path path nets b has =
    let net = from_flat (bits_of_net path) nets b has in
    ranged path net.0.name (range_with_len 0 (range_width net.0.range)) b net.2

pub scope_path : (s : Scope) (b : Bit) → Contains (scope_bits s) b → b.path ≡ s.path
scope_path s b has = net_path s.path (nets_of s.source) b has

pub input_path : (s : Scope) (b : Bit) → Contains (input_bits s) b → b.path ≡ s.path
input_path s b has = net_path s.path (filter (λ net. list_any is_input (option_to_list net.port)) (nets_of s.source)) b has

pub output_path : (s : Scope) (b : Bit) → Contains (output_bits s) b → b.path ≡ s.path
output_path s b has = net_path s.path (filter (λ net. list_any (λ dir. not (is_input dir)) (option_to_list net.port)) (nets_of s.source)) b has

pub not_stored : (d : Design) → Below d → (s : Scope) → Contains (scopes d) s → is_empty s.source ≡ true → (b : Bit) → b.path ≡ s.path → find (λ (r : RegisterBit). same_bit b r.bit) (stored d) ≡ None
not_stored d laws s has empty b at = by (find (λ (r : RegisterBit). same_bit b r.bit) (stored d)) refl
  where
    by : (o : Option RegisterBit) → find (λ (r : RegisterBit). same_bit b r.bit) (stored d) ≡ o → find (λ (r : RegisterBit). same_bit b r.bit) (stored d) ≡ None
    by None e = e
    by (Some r) e =
        let f = from_find (λ (r : RegisterBit). same_bit b r.bit) (stored d) r e in
        let is = stored_there laws.stored_law laws.parts_law d r f.0 in
        let path : r.scope.path ≡ s.path = sym is.path ∙ sym (ap (λ (z : Bit). z.path) ((laws.distinguished b r.bit).0 f.1)) ∙ at in
        let same : Some r.scope.source ≡ Some s.source = sym (laws.ends.reached r.scope is.scope) ∙ ap (module_at d) path ∙ laws.ends.reached s has in
        let source : r.scope.source ≡ s.source = grind (arith, same) in
        absurd (empty_stores laws.always d.text r.scope (ap is_empty source ∙ empty) r.item is.item)

pub registers_same : (modules : List PlainModule) (d : Design) → Below d → AllMayReplace modules d.text → registers (replaced_design modules d) ≡ registers d
registers_same modules d laws may =
    ap (λ l. filter_map (λ b. find (λ r. same_bit b r.bit) l) (net_order (replaced_design modules d))) (stored_same modules d laws may)
    ∙ filter_flat scope_bits kept (scopes (replaced_design modules d)) ∙ ap (flat_map (λ s. filter_map kept (scope_bits s))) (scopes_same modules d may laws.top)
    ∙ flat_same_within (λ s. filter_map kept (scope_bits s)) (changed modules) (λ s. filter_map kept (scope_bits s)) (scopes d) each ∙ sym (filter_flat scope_bits kept (scopes d))
  where
    kept : Bit → Option RegisterBit
    kept b = find (λ r. same_bit b r.bit) (stored d)

    each : (s : Scope) → Contains (scopes d) s → filter_map kept (scope_bits (changed modules s)) ≡ filter_map kept (scope_bits s)
    each s has = by (place_for modules s.source)
      where
        by : Place modules s.source → filter_map kept (scope_bits (changed modules s)) ≡ filter_map kept (scope_bits s)
        by (Stays e) = ap (λ z. filter_map kept (scope_bits (scope_of s.path z))) e
        by (Goes m e f g) =
            none_kept kept (scope_bits (changed modules s)) (λ b h. not_stored d laws s has e b (scope_path (changed modules s) b h))
            ∙ sym (none_kept kept (scope_bits s) (λ b h. not_stored d laws s has e b (scope_path s b h)))
