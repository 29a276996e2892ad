-- The register bits of a design are those of its scopes, and each scope of a module has as many.
use Rattle.std.proofs.Common.{◌≡◌, ◌⊎◌, ℕ, suc, ◌+◌, Bool, true, false, ◌||◌, List, [], ◌∷◌, ◌++◌, map, filter, find, filter_map, length, All, Contains, Option, Some, None, is_some, refl, sym, ap, ap₂, ◌∙◌, subst, inl, inr, arith, true≢false}
use Rattle.std.specs.Prelude.{if◌then◌else◌, sum_by}
use Rattle.std.specs.List.{cons_option, enumerate_from, flat_map, list_any, range_with_len}
use Rattle.std.proofs.lemmas.List.{map-append, length-append}
use Rattle.std.proofs.lemmas.Simd.{map-map}
use Rattle.std.proofs.lemmas.List.Elements.{filter-append}
use Rattle.std.proofs.lemmas.List.Sums.{sum_by-cons}
use Rattle.bb_ast.specs.Folds.{of_parts}
use Rattle.bb_ast.specs.Syntax.{Expression, Net, Bit as BitOf, Part, Sized, Plain, Not, Fold, Chain, Words, Cond, Concat, Repeat, Parts, no_part, part, PlainAlways, PlainBody, Ports, Nets, Regs, Supply, Assign, Gates, Calls, Always, PlainItem, PlainModule}
use Rattle.bb_names.specs.Declarations.{range_of}
use Rattle.bb_names.specs.Nets.{nets_of}
use Rattle.bb_names.specs.Ranges.{distance, range_width, place_of}
use Rattle.bb_design.specs.Constructs.{Construct, Assignment, GateInstance, Register, SupplyNet, InputConnection, OutputConnection, BoxContents, body_constructs, constructs_at, parts}
use Rattle.bb_design.specs.Hierarchy.{Path, Design, Scope, is_box, module_at, scopes}
use Rattle.bb_design.specs.Laws.{HasNamesApart}
use Rattle.bb_design.specs.NetBits.{Bit, same_bit, bits_from, bits_of_net, scope_bits, net_order, assigned, written_bits}
use Rattle.bb_design.specs.Registers.{RegisterBit, stored_at, stored, registers}
use Rattle.bb_hier.specs.Inside.Weights.{any_scope, stored_by, stored_bits, register_count}
use Rattle.bb_lemmas.proofs.Maps.{any-map, both}
use Rattle.bb_lemmas.proofs.Members.{from_flat, from_map, contains-map, into_flat, contains_here, contains_there, contains_cases, none_in_nil}
use Rattle.bb_lemmas.proofs.Numbered.{from_numbered, numbered_there}
use Rattle.bb_design.specs.Laws.DesignLaws.{DesignLaws}

-- filters

pub filter_same : {A : Type 0} (q r : A → Bool) (xs : List A) → ((x : A) → Contains xs x → q x ≡ r x) → length (filter q xs) ≡ length (filter r xs)
filter_same q r [] same = refl
filter_same q r (x ∷ xs) same = by (q x) (r x) (same x (contains_here x xs)) (filter_same q r xs (λ y has. same y (contains_there x xs y has)))
  where
    by : (a b : Bool) → a ≡ b → length (filter q xs) ≡ length (filter r xs) → length (if a then x ∷ filter q xs else filter q xs) ≡ length (if b then x ∷ filter r xs else filter r xs)
    by true true e rest = ap suc rest
    by false false e rest = rest
    by true false e rest = absurd (true≢false e)
    by false true e rest = absurd (true≢false (sym e))

filter_moved : {A B : Type 0} (q : B → Bool) (f : A → B) (xs : List A) → length (filter q (map f xs)) ≡ length (filter (λ x. q (f x)) xs)
filter_moved q f [] = refl
filter_moved q f (x ∷ xs) = by (q (f x)) (filter_moved q f xs)
  where
    by : (b : Bool) → length (filter q (map f xs)) ≡ length (filter (λ x. q (f x)) xs) → length (if b then f x ∷ filter q (map f xs) else filter q (map f xs)) ≡ length (if b then x ∷ filter (λ x. q (f x)) xs else filter (λ x. q (f x)) xs)
    by true rest = ap suc rest
    by false rest = rest

filter_none : {A : Type 0} (q : A → Bool) (xs : List A) → ((x : A) → Contains xs x → q x ≡ false) → length (filter q xs) ≡ 0
filter_none q [] none = refl
filter_none q (x ∷ xs) none = ap (λ b. length (if b then x ∷ filter q xs else filter q xs)) (none x (contains_here x xs)) ∙ filter_none q xs (λ y has. none y (contains_there x xs y has))

filter_flat : {A B : Type 0} (q : B → Bool) (f : A → List B) (xs : List A) → length (filter q (flat_map f xs)) ≡ sum_by (λ x. length (filter q (f x))) xs
filter_flat q f [] = refl
filter_flat q f (x ∷ xs) = ap length (filter-append q (f x) (flat_map f xs)) ∙ length-append (filter q (f x)) (filter q (flat_map f xs)) ∙ ap (λ n. length (filter q (f x)) + n) (filter_flat q f xs) ∙ sym (sum_by-cons (λ x. length (filter q (f x))) x xs)

long_filter_map : {A B : Type 0} (h : A → Option B) (xs : List A) → length (filter_map h xs) ≡ length (filter (λ x. is_some (h x)) xs)
long_filter_map h [] = refl
long_filter_map h (x ∷ xs) = by (h x) (long_filter_map h xs)
  where
    by : (o : Option _) → length (filter_map h xs) ≡ length (filter (λ x. is_some (h x)) xs) → length (cons_option o (filter_map h xs)) ≡ length (if is_some o then x ∷ filter (λ x. is_some (h x)) xs else filter (λ x. is_some (h x)) xs)
    by None rest = rest
    by (Some y) rest = ap suc rest

found_any : {A : Type 0} (p : A → Bool) (xs : List A) → is_some (find p xs) ≡ list_any p xs
found_any p [] = refl
found_any p (x ∷ xs) = by (p x) (found_any p xs)
  where
    by : (b : Bool) → is_some (find p xs) ≡ list_any p xs → is_some (if b then Some x else find p xs) ≡ (b || list_any p xs)
    by true rest = refl
    by false rest = rest

-- bits of a module in another scope of it

abbrev moved : Path → Bit → Bit
moved p b = record { path = p; net = b.net; place = b.place }

abbrev at_path : PlainModule → Path → Scope
at_path m p = record { path = p; source = m }

bits_moved : (p : Path) (n : List ℕ) (a c : ℕ) → bits_from p n a c ≡ map (moved p) (bits_from [] n a c)
bits_moved p n a c = sym (map-map (moved p) (λ k. record { path = []; net = n; place = k }) (range_with_len a c))

module _ (m : PlainModule) (p : Path) where
  mutual
    written_moved : (e : Expression) → written_bits (at_path m p) e ≡ map (moved p) (written_bits (any_scope m) e)
    written_moved (Net n) = bits_moved p n 0 (range_width (range_of m n))
    written_moved (BitOf n i) = bits_moved p n (place_of (range_of m n) i) 1
    written_moved (Part n i j) = bits_moved p n (place_of (range_of m n) i) (distance i j + 1)
    written_moved (Sized bits) = refl
    written_moved (Plain n) = refl
    written_moved (Not k e) = refl
    written_moved (Fold op e) = refl
    written_moved (Chain e rest) = refl
    written_moved (Words e rest) = refl
    written_moved (Cond all last) = refl
    written_moved (Concat all) = parts_moved all
    written_moved (Repeat k all) = refl

    parts_moved : (all : Parts) → flat_map (λ bits. bits) (of_parts (λ e a. a) (assigned (at_path m p)) all) ≡ map (moved p) (flat_map (λ bits. bits) (of_parts (λ e a. a) (assigned (any_scope m)) all))
    parts_moved no_part = refl
    parts_moved (part e rest) = ap₂ ◌++◌ (written_moved e) (parts_moved rest) ∙ sym (map-append (moved p) (written_bits (any_scope m) e) (flat_map (λ bits. bits) (of_parts (λ e a. a) (assigned (any_scope m)) rest)))

  stored_moved : (body : PlainBody) → stored_by (at_path m p) body ≡ map (moved p) (stored_by (any_scope m) body)
  stored_moved (Ports port names) = refl
  stored_moved (Nets range nets) = refl
  stored_moved (Regs range names) = refl
  stored_moved (Supply high range names) = refl
  stored_moved (Assign all) = refl
  stored_moved (Gates gate all) = refl
  stored_moved (Calls target calls) = refl
  stored_moved (Always r) = written_moved r.left

flat_moved : {A : Type 0} (p : Path) (f g : A → List Bit) (xs : List A) → ((x : A) → f x ≡ map (moved p) (g x)) → flat_map f xs ≡ map (moved p) (flat_map g xs)
flat_moved p f g [] each = refl
flat_moved p f g (x ∷ xs) each = ap₂ ◌++◌ (each x) (flat_moved p f g xs each) ∙ sym (map-append (moved p) (g x) (flat_map g xs))

-- what is stored in a scope
abbrev stored_in : Scope → List Bit
stored_in s = flat_map (λ item. stored_by s item.body) s.source.items

stored_in_moved : (m : PlainModule) (p : Path) → stored_in (at_path m p) ≡ map (moved p) (stored_bits m)
stored_in_moved m p = flat_moved p (λ (item : PlainItem). stored_by (at_path m p) item.body) (λ item. stored_by (any_scope m) item.body) m.items (λ item. stored_moved m p item.body)

scope_moved : (m : PlainModule) (p : Path) → scope_bits (at_path m p) ≡ map (moved p) (scope_bits (any_scope m))
scope_moved m p = flat_moved p (bits_of_net p) (bits_of_net []) (nets_of m) (λ net. bits_moved p net.name 0 (range_width net.range))

path_moved : (p : Path) (xs : List Bit) (b : Bit) → Contains (map (moved p) xs) b → b.path ≡ p
path_moved p xs b has = let c = from_map (moved p) xs b has in sym (ap (λ (z : Bit). z.path) c.2)

bit_same : (b c : Bit) → b.path ≡ c.path → b.net ≡ c.net → b.place ≡ c.place → b ≡ c
bit_same b c x y z = subst (λ p. b ≡ record { path = p; net = c.net; place = c.place }) x (subst (λ n. b ≡ record { path = b.path; net = n; place = c.place }) y (subst (λ k. b ≡ record { path = b.path; net = b.net; place = k }) z refl))

moved_back : (p : Path) (xs : List Bit) → xs ≡ map (moved []) xs → (c : Bit) → c.path ≡ [] → Contains (map (moved p) xs) (moved p c) → Contains xs c
moved_back p xs same c top has =
    let b = from_map (moved p) xs (moved p c) has in
    subst (Contains xs) (bit_same b.0 c (path_moved [] xs b.0 (subst (λ l. Contains l b.0) same b.1) ∙ sym top) (ap (λ (z : Bit). z.net) b.2) (ap (λ (z : Bit). z.place) b.2)) b.1

module _ (of_designs : DesignLaws) where
  -- as many bits of a scope are stored to as of any scope of its module
  pub stored_count : (s : Scope) → length (filter (λ b. list_any (same_bit b) (stored_in s)) (scope_bits s)) ≡ register_count s.source
  stored_count s =
      let m = s.source in
      let p = s.path in
      ap (λ bits. length (filter (λ b. list_any (same_bit b) (stored_in s)) bits)) (scope_moved m p) ∙ filter_moved (λ b. list_any (same_bit b) (stored_in s)) (moved p) (scope_bits (any_scope m))
      ∙ filter_same (λ c. list_any (same_bit (moved p c)) (stored_in s)) (λ c. list_any (same_bit c) (stored_bits m)) (scope_bits (any_scope m)) (λ c has.
      both _ _
      (λ on. (of_designs.found c (stored_bits m)).1 (moved_back p (stored_bits m) (stored_in_moved m []) c (path_moved [] (scope_bits (any_scope m)) c (subst (λ l. Contains l c) (scope_moved m []) has))
      (subst (λ l. Contains l (moved p c)) (stored_in_moved m p) ((of_designs.found (moved p c) (stored_in s)).0 on))))
      (λ on. (of_designs.found (moved p c) (stored_in s)).1 (subst (λ l. Contains l (moved p c)) (sym (stored_in_moved m p)) (contains-map (moved p) (stored_bits m) c ((of_designs.found c (stored_bits m)).0 on)))))

-- the whole design

module _ (of_designs : DesignLaws) (text : List PlainModule) (s : Scope) where
  register_item : (body : PlainBody) (a : PlainAlways) → Contains (body_constructs text body) (Register a) → stored_by s body ≡ written_bits s a.left
  register_item body a has = ap (stored_by s) (of_designs.always_item text body a has)

  -- what a construct stores
  stored_from : (c : Construct) (r : RegisterBit) → Contains (stored_at (s, c)) r → (a : PlainAlways) × (c ≡ Register a) × Contains (written_bits s a.left) r.bit
  stored_from (Assignment left right) r has = absurd (none_in_nil r has)
  stored_from (GateInstance gate outs ins) r has = absurd (none_in_nil r has)
  stored_from (Register a) r has =
      let make : ℕ × Bit → RegisterBit = λ y. record { scope = s; item = a; place = y.0; bit = y.1 } in
      let z = from_map make (enumerate_from 0 (written_bits s a.left)) r has in
      (a, refl, subst (Contains (written_bits s a.left)) (ap (λ (q : RegisterBit). q.bit) z.2) (from_numbered 0 (written_bits s a.left) z.0 z.1))
  stored_from (SupplyNet high n) r has = absurd (none_in_nil r has)
  stored_from (InputConnection i pin e) r has = absurd (none_in_nil r has)
  stored_from (OutputConnection i pin e) r has = absurd (none_in_nil r has)
  stored_from BoxContents r has = absurd (none_in_nil r has)

module _ (of_designs : DesignLaws) (d : Design) (top : Contains d.text d.top) (apart : All HasNamesApart d.text) where
  ends : (s : Scope) → Contains (scopes d) s → module_at d s.path ≡ Some s.source
  ends = (of_designs.scopes_reached d top apart).reached

  one_scope : (s t : Scope) → Contains (scopes d) s → Contains (scopes d) t → s.path ≡ t.path → s ≡ t
  one_scope s t x y same =
      let source : Some s.source ≡ Some t.source = sym (ends s x) ∙ ap (module_at d) same ∙ ends t y in
      ap₂ (λ p m. record { path = p; source = m }) same (grind (arith, source))

  abbrev all_stored : List Bit
  all_stored = map (λ r. r.bit) (stored d)

  -- the constructs of a scope that is no box
  inside_of : (s : Scope) → is_box s ≡ false → constructs_at d.text s ≡ flat_map (λ item. body_constructs d.text item.body) s.source.items
  inside_of s no_box = ap (λ b. if b then BoxContents ∷ [] else flat_map (λ (item : PlainItem). body_constructs d.text item.body) s.source.items) no_box

  box_of : (s : Scope) → is_box s ≡ true → constructs_at d.text s ≡ BoxContents ∷ []
  box_of s box = ap (λ b. if b then BoxContents ∷ [] else flat_map (λ (item : PlainItem). body_constructs d.text item.body) s.source.items) box

  stored_here : (b : Bit) → Contains all_stored b → (s : Scope) × Contains (scopes d) s × (a : PlainAlways) × Contains (constructs_at d.text s) (Register a) × Contains (written_bits s a.left) b
  stored_here b has =
      let r = from_map (λ (r : RegisterBit). r.bit) (stored d) b has in
      let x = from_flat stored_at (parts d) r.0 r.1 in
      let s = from_flat (λ s. map (λ c. (s, c)) (constructs_at d.text s)) (scopes d) x.0 x.1 in
      let c = from_map (λ c. (s.0, c)) (constructs_at d.text s.0) x.0 s.2 in
      let f = stored_from of_designs d.text s.0 c.0 r.0 (subst (λ y. Contains (stored_at y) r.0) (sym c.2) x.2) in
      (s.0, s.1, f.0, subst (Contains (constructs_at d.text s.0)) f.1 c.1, subst (Contains (written_bits s.0 f.0.left)) r.2 f.2)

  written_path : (s : Scope) (e : Expression) (b : Bit) → Contains (written_bits s e) b → b.path ≡ s.path
  written_path s e b has = path_moved s.path (written_bits (any_scope s.source) e) b (subst (λ l. Contains l b) (written_moved s.source s.path e) has)

  -- a bit of a scope is stored to where one of its own items stores to it
  module _ (s : Scope) (has : Contains (scopes d) s) (b : Bit) (here : b.path ≡ s.path) where
    stored_to : Contains all_stored b → (is_box s ≡ false) × Contains (stored_in s) b
    stored_to all =
        let r = stored_here b all in
        let same = one_scope r.0 s r.1 has (sym (written_path r.0 r.2.left b r.4) ∙ here) in
        let there = subst (λ z. Contains (constructs_at d.text z) (Register r.2)) same r.3 in
        let bits = subst (λ z. Contains (written_bits z r.2.left) b) same r.4 in
        by (is_box s) refl r.2 there bits
      where
        by : (x : Bool) → is_box s ≡ x → (a : PlainAlways) → Contains (constructs_at d.text s) (Register a) → Contains (written_bits s a.left) b → (is_box s ≡ false) × Contains (stored_in s) b
        by true box a there bits = absurd (no (contains_cases BoxContents [] (Register a) (subst (λ l. Contains l (Register a)) (box_of s box) there)))
          where
            no : (BoxContents ≡ Register a) ⊎ Contains [] (Register a) → ⊥
            no (inl same) = cc
            no (inr none) = none_in_nil (Register a) none
        by false no_box a there bits =
            let i = from_flat (λ (item : PlainItem). body_constructs d.text item.body) s.source.items (Register a) (subst (λ l. Contains l (Register a)) (inside_of s no_box) there) in
            (no_box, into_flat (λ (item : PlainItem). stored_by s item.body) s.source.items i.0 b i.1 (subst (λ l. Contains l b) (sym (register_item of_designs d.text s i.0.body a i.2)) bits))

    always_stores : (body : PlainBody) → Contains (stored_by s body) b → (a : PlainAlways) × Contains (body_constructs d.text body) (Register a) × Contains (written_bits s a.left) b
    always_stores (Ports port names) h = absurd (none_in_nil b h)
    always_stores (Nets range nets) h = absurd (none_in_nil b h)
    always_stores (Regs range names) h = absurd (none_in_nil b h)
    always_stores (Supply high range names) h = absurd (none_in_nil b h)
    always_stores (Assign all) h = absurd (none_in_nil b h)
    always_stores (Gates gate all) h = absurd (none_in_nil b h)
    always_stores (Calls target calls) h = absurd (none_in_nil b h)
    always_stores (Always r) h = (r, contains_here (Register r) [], h)

    stored_back : is_box s ≡ false → Contains (stored_in s) b → Contains all_stored b
    stored_back no_box h =
        let i = from_flat (λ (item : PlainItem). stored_by s item.body) s.source.items b h in
        let a = always_stores i.0.body i.2 in
        let make : ℕ × Bit → RegisterBit = λ y. record { scope = s; item = a.0; place = y.0; bit = y.1 } in
        let k = numbered_there 0 (written_bits s a.0.left) b a.2 in
        let c = subst (λ l. Contains l (Register a.0)) (sym (inside_of s no_box)) (into_flat (λ (item : PlainItem). body_constructs d.text item.body) s.source.items i.0 (Register a.0) i.1 a.1) in
        contains-map (λ (r : RegisterBit). r.bit) (stored d) (make (k.0, b))
        (into_flat stored_at (parts d) (s, Register a.0) (make (k.0, b))
        (into_flat (λ s. map (λ c. (s, c)) (constructs_at d.text s)) (scopes d) s (s, Register a.0) has (contains-map (λ c. (s, c)) (constructs_at d.text s) (Register a.0) c))
        (contains-map make (enumerate_from 0 (written_bits s a.0.left)) (k.0, b) k.1))

  abbrev is_stored : Bit → Bool
  is_stored b = list_any (same_bit b) all_stored

  scope_path : (s : Scope) (b : Bit) → Contains (scope_bits s) b → b.path ≡ s.path
  scope_path s b has = path_moved s.path (scope_bits (any_scope s.source)) b (subst (λ l. Contains l b) (scope_moved s.source s.path) has)

  -- register bits of a scope
  pub registers_of : Scope → ℕ
  registers_of s = length (filter is_stored (scope_bits s))

  pub registers_inside : (s : Scope) → Contains (scopes d) s → is_box s ≡ false → registers_of s ≡ register_count s.source
  unfolding registers_of
  registers_inside s has no_box = filter_same is_stored (λ b. list_any (same_bit b) (stored_in s)) (scope_bits s) (λ b there.
      both _ _
      (λ on. (of_designs.found b (stored_in s)).1 (stored_to s has b (scope_path s b there) ((of_designs.found b all_stored).0 on)).1)
      (λ on. (of_designs.found b all_stored).1 (stored_back s has b (scope_path s b there) no_box ((of_designs.found b (stored_in s)).0 on)))) ∙ stored_count of_designs s

  pub registers_in_box : (s : Scope) → Contains (scopes d) s → is_box s ≡ true → registers_of s ≡ 0
  unfolding registers_of
  registers_in_box s has box = filter_none is_stored (scope_bits s) (λ b there. by b there (is_stored b) refl)
    where
      by : (b : Bit) → Contains (scope_bits s) b → (x : Bool) → is_stored b ≡ x → is_stored b ≡ false
      by b there true on = absurd (true≢false (sym box ∙ (stored_to s has b (scope_path s b there) ((of_designs.found b all_stored).0 on)).0))
      by b there false off = off

  pub registers_counted : length (registers d) ≡ sum_by registers_of (scopes d)
  unfolding registers_of
  registers_counted =
      long_filter_map (λ b. find (λ (r : RegisterBit). same_bit b r.bit) (stored d)) (net_order d)
      ∙ filter_same (λ b. is_some (find (λ (r : RegisterBit). same_bit b r.bit) (stored d))) is_stored (net_order d) (λ b has. found_any (λ (r : RegisterBit). same_bit b r.bit) (stored d) ∙ sym (any-map (same_bit b) (λ (r : RegisterBit). r.bit) (stored d)))
      ∙ filter_flat is_stored scope_bits (scopes d)
