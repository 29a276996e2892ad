-- In a text without faults the instances of a module have different names.
use Rattle.std.proofs.Common.{◌≡◌, ◌≢◌, ◌⊎◌, ℕ, Bool, true, false, not, ◌&&◌, ◌||◌, is_some, None, Option, List, [], ◌∷◌, ◌++◌, map, flat_map, AllPairs, Contains, refl, sym, ap, ◌∙◌, subst, inl, inr, arith, true≢false, append_assoc, append-nil}
use Rattle.std.specs.List.{list_any}
use Rattle.std.proofs.lemmas.List.{map-append}
use Rattle.std.proofs.lemmas.List.Elements.{Contains-append_left, Contains-append_right, Contains-append_cases}
use lib.Pointwise.{bytes_decides}
use Rattle.bb_bits.specs.Names.{same_name}
use Rattle.bb_ast.specs.Syntax.{PlainConns, PlainBody, Ports, Nets, Regs, Supply, Assign, Gates, Calls, Always, PlainItem, PlainModule}
use Rattle.bb_names.specs.declared.fault.NameFault.{NameFault}
use Rattle.bb_names.specs.declared.fault.NameFault.TheVariants as name_faults
use Rattle.bb_names.specs.Declarations.{Declaration, declared_by_head, declared_by, instance_declaration, is_port}
use Rattle.bb_names.specs.Faults.{clashes, declares_supply, same_range, Rows, twice, kinds, statement_faults, module_faults}
use Rattle.bb_names.specs.Sites.{Site, Declared, Target, Placed, header_sites, item_sites, conns_sites, module_named, place_count}
use Rattle.bb_bits.specs.Earlier.{each_from}
use Rattle.bb_design.specs.Hierarchy.{Instance, instance_of, instances_in}
use Rattle.bb_design.specs.Laws.{HasNamesApart, SoundTextsHaveNamesApart}
use Rattle.bb_lemmas.proofs.Members.{from_flat, from_map, all_from, contains-map, into_flat, left_nil, right_nil, flat_nil, map_nil, contains_here, contains_there, none_in_nil, none_of}
use Rattle.bb_design.proofs.SoundConstructs.{not_reported}
use Rattle.bb_lemmas.proofs.Earlier.{each_nil}
use Rattle.bb_lemmas.proofs.Apart.{push_name}

-- an instance clashes with every earlier declaration of its name
clash_names : (a b c i r : Bool) → (a && (b || c || i || true || r)) ≡ false → a ≡ false
clash_names false b c i r e = refl
clash_names true true c i r e = e
clash_names true false true i r e = e
clash_names true false false true r e = e
clash_names true false false false r e = e

other_name : (m : PlainModule) (d : Declaration) (n : List ℕ) → clashes m d (instance_declaration n) ≡ false → d.name ≢ n
other_name m d n e same =
    let off = clash_names (same_name d.name n) (is_some d.dir && false) (is_some d.kind && false) d.instance (is_port m d.name && not (declares_supply d) && true && not (same_range d.range None)) e in
    true≢false (sym ((bytes_decides d.name n).1 same) ∙ off)

-- the names of declarations
abbrev names_of : List Declaration → List (List ℕ)
names_of all = map (λ d. d.name) all

abbrev item_names : List PlainItem → List (List ℕ)
item_names items = map (λ i. i.name) (flat_map (λ item. instances_in item.body) items)

flat-append : {A B : Type 0} (f : A → List B) (xs ys : List A) → flat_map f (xs ++ ys) ≡ flat_map f xs ++ flat_map f ys
flat-append f [] ys = refl
flat-append f (x ∷ xs) ys = ap (λ l. f x ++ l) (flat-append f xs ys) ∙ sym (append_assoc (f x) (flat_map f xs) (flat_map f ys))

names-append : (xs ys : List PlainItem) → item_names (xs ++ ys) ≡ item_names xs ++ item_names ys
names-append xs ys = ap (map (λ i. i.name)) (flat-append (λ (item : PlainItem). instances_in item.body) xs ys) ∙ map-append (λ (i : Instance). i.name) (flat_map (λ (item : PlainItem). instances_in item.body) xs) (flat_map (λ (item : PlainItem). instances_in item.body) ys)

abbrev call_declarations : List (List ℕ × PlainConns) → List Declaration
call_declarations calls = map (λ x. instance_declaration x.0) calls

call-names : (calls : List (List ℕ × PlainConns)) → names_of (call_declarations calls) ≡ map (λ x. x.0) calls
call-names [] = refl
call-names (x ∷ xs) = ap (λ l. x.0 ∷ l) (call-names xs)

module _ (text : List PlainModule) (m : PlainModule) where
  -- what is in a list of instances
  abbrev call_sites : List Declaration → Option PlainModule → List (List ℕ × PlainConns) → List ℕ × PlainConns → List Site
  call_sites earlier target before x = Declared (earlier ++ map (λ y. instance_declaration y.0) before) (instance_declaration x.0) ∷ Placed target x.0 (place_count x.1) ∷ conns_sites target x.1

  calls_apart : (earlier : List Declaration) (target : Option PlainModule) (prior : List (List ℕ)) → ((n : List ℕ) → Contains prior n → Contains (names_of earlier) n) → (before calls : List (List ℕ × PlainConns))
      → ((z : Site) → Contains (each_from (call_sites earlier target) before calls) z → twice text m z ≡ []) → AllPairs ◌≢◌ (prior ++ map (λ x. x.0) before) → AllPairs ◌≢◌ (prior ++ map (λ x. x.0) (before ++ calls))
  calls_apart earlier target prior sub before [] sound apart = subst (λ l. AllPairs ◌≢◌ (prior ++ map (λ x. x.0) l)) (sym (append-nil before)) apart
  calls_apart earlier target prior sub before (x ∷ calls) sound apart =
      let here = call_sites earlier target before x in
      let more = each_from (call_sites earlier target) (before ++ x ∷ []) calls in
      let off = not_reported _ x.0 (sound (Declared (earlier ++ call_declarations before) (instance_declaration x.0)) (Contains-append_left here more _ (contains_here _ (Placed target x.0 (place_count x.1) ∷ conns_sites target x.1)))) in
      let other : (k : List ℕ) → Contains (prior ++ map (λ y. y.0) before) k → k ≢ x.0 = λ k has. differs off k (Contains-append_cases prior (map (λ y. y.0) before) k has) in
      let next : AllPairs ◌≢◌ (prior ++ map (λ y. y.0) (before ++ x ∷ [])) = subst (AllPairs ◌≢◌) (append_assoc prior (map (λ y. y.0) before) (x.0 ∷ []) ∙ ap (λ l. prior ++ l) (sym (map-append (λ (y : List ℕ × PlainConns). y.0) before (x ∷ [])))) (push_name (prior ++ map (λ y. y.0) before) x.0 apart other) in
      subst (λ l. AllPairs ◌≢◌ (prior ++ map (λ y. y.0) l)) (append_assoc before (x ∷ []) calls)
      (calls_apart earlier target prior sub (before ++ x ∷ []) calls (λ z has. sound z (Contains-append_right here more z has)) next)
    where
      declared : (k : List ℕ) → Contains prior k ⊎ Contains (map (λ y. y.0) before) k → Contains (names_of (earlier ++ call_declarations before)) k
      declared k (inl has) = subst (λ l. Contains l k) (sym (map-append (λ (d : Declaration). d.name) earlier (call_declarations before))) (Contains-append_left (names_of earlier) (names_of (call_declarations before)) k (sub k has))
      declared k (inr has) = subst (λ l. Contains l k) (sym (map-append (λ (d : Declaration). d.name) earlier (call_declarations before)))
          (Contains-append_right (names_of earlier) (names_of (call_declarations before)) k (subst (λ l. Contains l k) (sym (call-names before)) has))

      differs : list_any (λ d. clashes m d (instance_declaration x.0)) (earlier ++ call_declarations before) ≡ false → (k : List ℕ) → Contains prior k ⊎ Contains (map (λ y. y.0) before) k → k ≢ x.0
      differs off k has same =
          let d = from_map (λ (d : Declaration). d.name) (earlier ++ call_declarations before) k (declared k has) in
          other_name m d.0 x.0 (none_of (λ d. clashes m d (instance_declaration x.0)) (earlier ++ call_declarations before) off d.0 d.1) (d.2 ∙ same)

instance-names : (target : List ℕ) (calls : List (List ℕ × PlainConns)) → map (λ (i : Instance). i.name) (map (instance_of target) calls) ≡ map (λ x. x.0) calls
instance-names target [] = refl
instance-names target (x ∷ xs) = ap (λ l. x.0 ∷ l) (instance-names target xs)

-- an instance is declared by its item
body_declares : (body : PlainBody) (n : List ℕ) → Contains (map (λ (i : Instance). i.name) (instances_in body)) n → Contains (names_of (declared_by body)) n
body_declares (Ports port names) n has = absurd (none_in_nil n has)
body_declares (Nets range nets) n has = absurd (none_in_nil n has)
body_declares (Regs range names) n has = absurd (none_in_nil n has)
body_declares (Supply high range names) n has = absurd (none_in_nil n has)
body_declares (Assign all) n has = absurd (none_in_nil n has)
body_declares (Gates gate all) n has = absurd (none_in_nil n has)
body_declares (Calls target calls) n has = subst (λ l. Contains l n) (instance-names target calls ∙ sym (call-names calls)) has
body_declares (Always r) n has = absurd (none_in_nil n has)

module _ (text : List PlainModule) (m : PlainModule) where
  abbrev earlier_than : List PlainItem → List Declaration
  earlier_than before = flat_map declared_by_head m.heads ++ flat_map (λ x. declared_by x.body) before

  items_declare : (before : List PlainItem) (n : List ℕ) → Contains (item_names before) n → Contains (names_of (earlier_than before)) n
  items_declare before n has =
      let i = from_map (λ (i : Instance). i.name) (flat_map (λ (item : PlainItem). instances_in item.body) before) n has in
      let item = from_flat (λ (item : PlainItem). instances_in item.body) before i.0 i.1 in
      let d = from_map (λ (d : Declaration). d.name) (declared_by item.0.body) n (body_declares item.0.body n (subst (Contains (map (λ (i : Instance). i.name) (instances_in item.0.body))) i.2 (contains-map (λ (i : Instance). i.name) (instances_in item.0.body) i.0 item.2))) in
      subst (Contains (names_of (earlier_than before))) d.2 (contains-map (λ (d : Declaration). d.name) (earlier_than before) d.0
      (Contains-append_right (flat_map declared_by_head m.heads) (flat_map (λ x. declared_by x.body) before) d.0 (into_flat (λ (x : PlainItem). declared_by x.body) before item.0 d.0 item.1 d.1)))

  body_apart : (before : List PlainItem) (body : PlainBody) → ((z : Site) → Contains (item_sites text (earlier_than before) body) z → twice text m z ≡ []) → AllPairs ◌≢◌ (item_names before) → AllPairs ◌≢◌ (item_names before ++ map (λ (i : Instance). i.name) (instances_in body))
  body_apart before (Ports port names) sound apart = subst (AllPairs ◌≢◌) (sym (append-nil (item_names before))) apart
  body_apart before (Nets range nets) sound apart = subst (AllPairs ◌≢◌) (sym (append-nil (item_names before))) apart
  body_apart before (Regs range names) sound apart = subst (AllPairs ◌≢◌) (sym (append-nil (item_names before))) apart
  body_apart before (Supply high range names) sound apart = subst (AllPairs ◌≢◌) (sym (append-nil (item_names before))) apart
  body_apart before (Assign all) sound apart = subst (AllPairs ◌≢◌) (sym (append-nil (item_names before))) apart
  body_apart before (Gates gate all) sound apart = subst (AllPairs ◌≢◌) (sym (append-nil (item_names before))) apart
  body_apart before (Calls target calls) sound apart = subst (λ l. AllPairs ◌≢◌ (item_names before ++ l)) (sym (instance-names target calls))
      (calls_apart text m (earlier_than before) (module_named text target) (item_names before) (items_declare before) [] calls
      (λ z has. sound z (contains_there (Target target) (each_from (call_sites text m (earlier_than before) (module_named text target)) [] calls) z has)) (subst (AllPairs ◌≢◌) (sym (append-nil (item_names before))) apart))
  body_apart before (Always r) sound apart = subst (AllPairs ◌≢◌) (sym (append-nil (item_names before))) apart

  items_apart : (before items : List PlainItem) → each_from (λ before item. statement_faults text m item.line (item_sites text (earlier_than before) item.body)) before items ≡ [] → AllPairs ◌≢◌ (item_names before) → AllPairs ◌≢◌ (item_names (before ++ items))
  items_apart before [] e apart = subst (λ l. AllPairs ◌≢◌ (item_names l)) (sym (append-nil before)) apart
  items_apart before (item ∷ items) e apart =
      let sites = item_sites text (earlier_than before) item.body in
      let here = left_nil (statement_faults text m item.line sites) _ e in
      let sound : (z : Site) → Contains sites z → twice text m z ≡ [] = λ z has. flat_nil (twice text m) sites (map_nil (name_faults.Twice item.line) (flat_map (twice text m) sites)
      (flat_nil (λ (x : (ℕ → List ℕ → NameFault) × Rows). map (x.0 item.line) (flat_map (x.1 text m) sites)) kinds here (name_faults.Twice, twice) (0, omega arith, refl))) z has in
      let one : item_names (item ∷ []) ≡ map (λ (i : Instance). i.name) (instances_in item.body) = ap (map (λ (i : Instance). i.name)) (append-nil (instances_in item.body)) in
      let next : AllPairs ◌≢◌ (item_names (before ++ item ∷ [])) = subst (AllPairs ◌≢◌) (ap (λ l. item_names before ++ l) (sym one) ∙ sym (names-append before (item ∷ []))) (body_apart before item.body sound apart) in
      subst (λ l. AllPairs ◌≢◌ (item_names l)) (append_assoc before (item ∷ []) items) (items_apart (before ++ item ∷ []) items (right_nil (statement_faults text m item.line sites) _ e) next)

pub sound_texts_have_names_apart : SoundTextsHaveNamesApart
sound_texts_have_names_apart text sound = all_from HasNamesApart text (λ m has.
    let in_module = each_nil (module_faults text) [] text sound m has in
    items_apart text m [] m.items (right_nil (statement_faults text m m.line (header_sites in_module.0 m)) _ in_module.1) (λ i j d less within. absurd (omega (arith, within))))
