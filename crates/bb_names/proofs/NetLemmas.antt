-- The names of nets in net order, and the place of each.
use Rattle.std.proofs.Common.{◌≡◌, ℕ, zero, suc, ◌+◌, ◌-◌, ◌^◌, ◌<◌, ◌≤◌, min, Bool, true, false, cond, not, ◌||◌, ◌&&◌, List, [], ◌∷◌, ◌++◌, length, map, filter, get_or, take, Option, None, Some, refl, sym, ap, ap₂, ◌∙◌, subst, arith, append_assoc, length-append, if◌then◌else◌}
use Rattle.std.proofs.Math.Nat.{min-eq_left}
use Rattle.std.specs.Prelude.{is_some}
use Rattle.std.specs.Map.{lookup}
use Rattle.std.proofs.lemmas.Grind.{fold-append}
use Rattle.std.proofs.lemmas.List.{map-append}
use Rattle.std.proofs.lemmas.List.Elements.{filter-append}
use Rattle.std.specs.List.{flat_map, list_all, IsDistinct, AllByRecursion}
use Rattle.indexmap.specs.IndexMap.{insert_entry}
use Rattle.bb_bits.specs.Names.{same_name, placed}
use Rattle.bb_ast.specs.declared.module.Port.{Port}
use Rattle.bb_ast.specs.Syntax.{PlainHead, PlainItem, PlainModule}
use Rattle.bb_names.specs.Declarations.{Declaration, declared_by, declared_by_head, implicit_names}
use Rattle.bb_names.specs.Inside.Implicit.{all_added}
use Rattle.bb_names.specs.Inside.Indexed.{head_names}
use Rattle.bb_names.specs.Inside.NetLists.{with_place, all_placed, nets_declared_by}
use Rattle.bb_names.specs.Nets.{net_of, net_names}
use Rattle.bb_bits.specs.Earlier.{has_name, once}
use Rattle.bb_names.proofs.IndexLemmas.{has-once}
use Rattle.bb_names.proofs.Noting.{seen-more, seen-all}
use Rattle.bb_names.proofs.OnceLemmas.{all_added-append, all_added-once, all_added-new, others}
use Rattle.bb_names.proofs.SummaryLemmas.{same_self}

-- the names of declarations that are no instances
abbrev pub names_of_nets : List Declaration → List (List ℕ)
names_of_nets all = map (λ d. d.name) (filter (λ d. not d.instance) all)

pub declared-names : {X : Type 0} (g : X → Declaration) (name : X → List ℕ) → ((x : X) → (g x).name ≡ name x) → ((x : X) → (g x).instance ≡ false) → (xs : List X) → names_of_nets (map g xs) ≡ map name xs
declared-names g name named net [] = refl
declared-names g name named net (x ∷ xs) = ap (λ b. map (λ d. d.name) (cond (not b) (g x ∷ filter (λ d. not d.instance) (map g xs)) (filter (λ d. not d.instance) (map g xs)))) (net x)
    ∙ ap₂ (λ n ns. n ∷ ns) (named x) (declared-names g name named net xs)

pub no_nets : {X : Type 0} (g : X → Declaration) → ((x : X) → (g x).instance ≡ true) → (xs : List X) → names_of_nets (map g xs) ≡ []
no_nets g instance [] = refl
no_nets g instance (x ∷ xs) = ap (λ b. map (λ d. d.name) (cond (not b) (g x ∷ filter (λ d. not d.instance) (map g xs)) (filter (λ d. not d.instance) (map g xs)))) (instance x) ∙ no_nets g instance xs

pub nets-append : (xs ys : List Declaration) → names_of_nets (xs ++ ys) ≡ names_of_nets xs ++ names_of_nets ys
nets-append xs ys = ap (map (λ d. d.name)) (filter-append (λ d. not d.instance) xs ys) ∙ map-append (λ d. d.name) (filter (λ d. not d.instance) xs) (filter (λ d. not d.instance) ys)

pub nets-flat : (items : List PlainItem) → names_of_nets (flat_map (λ item. declared_by item.body) items) ≡ flat_map (λ item. nets_declared_by item.body) items
nets-flat [] = refl
nets-flat (item ∷ items) = nets-append (declared_by item.body) (flat_map (λ x. declared_by x.body) items) ∙ ap (λ z. nets_declared_by item.body ++ z) (nets-flat items)

-- a list of distinct names is the list of each where it is first
kept : (x : List ℕ) (xs : List (List ℕ)) → AllByRecursion (λ y. same_name x y ≡ false) xs → filter (λ y. not (same_name x y)) xs ≡ xs
kept x [] apart = refl
kept x (y ∷ ys) apart = ap (λ b. cond (not b) (y ∷ filter (λ z. not (same_name x z)) ys) (filter (λ z. not (same_name x z)) ys)) apart.0 ∙ ap (λ zs. y ∷ zs) (kept x ys apart.1)

pub once-distinct : (xs : List (List ℕ)) → IsDistinct same_name xs → once xs ≡ xs
unfolding IsDistinct
once-distinct [] d = refl
once-distinct (x ∷ xs) d = ap (λ z. x ∷ z) (ap (filter (λ y. not (same_name x y))) (once-distinct xs d.1) ∙ kept x xs d.0)

-- names that are there already
heads-added : (ks : List (List ℕ)) (heads : List PlainHead) → ((n : List ℕ) → has_name n (map (λ head. head.name) heads) ≡ true → has_name n ks ≡ true) → all_added ks (names_of_nets (flat_map declared_by_head heads)) ≡ ks
heads-added ks [] there = refl
heads-added ks (h ∷ hs) there = by h.decl refl (heads-added ks hs (λ n e. there n (ap (λ b. same_name n h.name || b) e ∙ or-true (same_name n h.name))))
  where
    or-true : (b : Bool) → (b || true) ≡ true
    or-true true = refl
    or-true false = refl

    here : has_name h.name ks ≡ true
    here = there h.name (ap (λ b. b || has_name h.name (map (λ head. head.name) hs)) (same_self h.name))

    by : (o : Option Port) → h.decl ≡ o → all_added ks (names_of_nets (flat_map declared_by_head hs)) ≡ ks → all_added ks (names_of_nets (declared_by_head h ++ flat_map declared_by_head hs)) ≡ ks
    by None e rest = rw e rest
    by (Some port) e rest = rw e (ap (λ b. all_added (if b then ks else ks ++ h.name ∷ []) (names_of_nets (flat_map declared_by_head hs))) here ∙ rest)

-- the names of the header, then those of items, then the implicit wires
pub names_in_order : (m : PlainModule) (none heads items all : List (List ℕ)) (implicit : List (List ℕ)) → none ≡ [] → heads ≡ all_added none (head_names m) → items ≡ all_added heads (flat_map (λ item. nets_declared_by item.body) m.items)
    → all ≡ all_added items implicit → implicit ≡ once (implicit_names m) → IsDistinct same_name implicit → all ≡ net_names m
names_in_order m none heads items all implicit empty first second third is distinct =
    third ∙ all_added-once items implicit ∙ ap (λ z. items ++ others items z) (once-distinct implicit distinct ∙ is) ∙ sym (all_added-once items (implicit_names m))
    ∙ ap (λ z. all_added z (implicit_names m)) (second ∙ ap (λ z. all_added z (flat_map (λ item. nets_declared_by item.body) m.items)) (start ∙ sym (heads-added (all_added [] (head_names m)) m.heads among))
    ∙ all_added-append (all_added [] (head_names m)) (names_of_nets (flat_map declared_by_head m.heads)) (flat_map (λ item. nets_declared_by item.body) m.items)
    ∙ ap (all_added (all_added [] (head_names m))) (ap (λ z. names_of_nets (flat_map declared_by_head m.heads) ++ z) (sym (nets-flat m.items)) ∙ sym (nets-append (flat_map declared_by_head m.heads) (flat_map (λ item. declared_by item.body) m.items))))
    ∙ all_added-append (all_added [] (head_names m)) (names_of_nets (flat_map declared_by_head m.heads ++ flat_map (λ item. declared_by item.body) m.items)) (implicit_names m)
    ∙ all_added-append [] (head_names m) (names_of_nets (flat_map declared_by_head m.heads ++ flat_map (λ item. declared_by item.body) m.items) ++ implicit_names m)
    ∙ all_added-new (head_names m ++ (names_of_nets (flat_map declared_by_head m.heads ++ flat_map (λ item. declared_by item.body) m.items) ++ implicit_names m))
    ∙ ap once (sym (append_assoc (head_names m) (names_of_nets (flat_map declared_by_head m.heads ++ flat_map (λ item. declared_by item.body) m.items)) (implicit_names m)))
  where
    start : heads ≡ all_added [] (head_names m)
    start = first ∙ ap (λ z. all_added z (head_names m)) empty

    among : (n : List ℕ) → has_name n (head_names m) ≡ true → has_name n (all_added [] (head_names m)) ≡ true
    among n e = ap (has_name n) (all_added-new (head_names m)) ∙ has-once n (head_names m) ∙ e

-- names, each placed after those before it

pub placed-names : (k : ℕ) (names : List (List ℕ)) → map (λ e. e.0) (placed k names) ≡ names
placed-names k [] = refl
placed-names k (n ∷ ns) = ap (λ z. n ∷ z) (placed-names (k + 1) ns)

placed-has : (k : ℕ) (names : List (List ℕ)) (n : List ℕ) → is_some (lookup (same_name n) (placed k names)) ≡ has_name n names
placed-has k [] n = refl
placed-has k (x ∷ xs) n = by (same_name n x) (placed-has (k + 1) xs n)
  where
    by : (b : Bool) → is_some (lookup (same_name n) (placed (k + 1) xs)) ≡ has_name n xs → is_some (if b then Some k else lookup (same_name n) (placed (k + 1) xs)) ≡ (b || has_name n xs)
    by true rest = refl
    by false rest = rest

placed-length : (k : ℕ) (names : List (List ℕ)) → length (placed k names) ≡ length names
placed-length k [] = refl
placed-length k (n ∷ ns) = ap suc (placed-length (k + 1) ns)

placed-more : (k : ℕ) (names : List (List ℕ)) (n : List ℕ) → placed k (names ++ n ∷ []) ≡ placed k names ++ (n, k + length names) ∷ []
placed-more k [] n = ap (λ p. (n, p) ∷ []) (omega arith)
placed-more k (x ∷ xs) n = ap (λ z. (x, k) ∷ z) (placed-more (k + 1) xs n ∙ ap (λ p. placed (k + 1) xs ++ (n, p) ∷ []) (omega arith))

added-longer : (ks xs : List (List ℕ)) → length ks ≤ length (all_added ks xs)
added-longer ks [] = omega arith
added-longer ks (x ∷ xs) = by (has_name x ks) (added-longer ks xs) (added-longer (ks ++ x ∷ []) xs)
  where
    by : (b : Bool) → length ks ≤ length (all_added ks xs) → length (ks ++ x ∷ []) ≤ length (all_added (ks ++ x ∷ []) xs) → length ks ≤ length (all_added (if b then ks else ks ++ x ∷ []) xs)
    by true old new = old
    by false old new = omega (arith, new, length-append ks (x ∷ []))

least-place : (ks xs : List (List ℕ)) (x : List ℕ) → length (all_added (ks ++ x ∷ []) xs) < 2 ^ 32 → min (length (placed 0 ks)) (2 ^ 32 - 1) ≡ 0 + length ks
least-place ks xs x few = min-eq_left (omega (arith, placed-length 0 ks, length-append ks (x ∷ []), added-longer (ks ++ x ∷ []) xs, few)) ∙ placed-length 0 ks ∙ omega arith

-- a name that is new, or not
placed-step : (b : Bool) (ks xs : List (List ℕ)) (x : List ℕ) → has_name x ks ≡ b → (length (all_added ks xs) < 2 ^ 32 → all_placed (placed 0 ks) xs ≡ placed 0 (all_added ks xs))
    → (length (all_added (ks ++ x ∷ []) xs) < 2 ^ 32 → all_placed (placed 0 (ks ++ x ∷ [])) xs ≡ placed 0 (all_added (ks ++ x ∷ []) xs))
    → length (all_added (if b then ks else ks ++ x ∷ []) xs) < 2 ^ 32
    → all_placed (if b then placed 0 ks else placed 0 ks ++ (x, min (length (placed 0 ks)) (2 ^ 32 - 1)) ∷ []) xs ≡ placed 0 (all_added (if b then ks else ks ++ x ∷ []) xs)
placed-step true ks xs x e old new few = old few
placed-step false ks xs x e old new few =
    ap (λ z. all_placed z xs) (ap (λ p. placed 0 ks ++ (x, p) ∷ []) (least-place ks xs x few) ∙ sym (placed-more 0 ks x)) ∙ new few

all-placed : (ks xs : List (List ℕ)) → length (all_added ks xs) < 2 ^ 32 → all_placed (placed 0 ks) xs ≡ placed 0 (all_added ks xs)
all-placed ks [] few = refl
all-placed ks (x ∷ xs) few =
    ap (λ b. all_placed (if b then placed 0 ks else placed 0 ks ++ (x, min (length (placed 0 ks)) (2 ^ 32 - 1)) ∷ []) xs) (placed-has 0 ks x)
    ∙ placed-step (has_name x ks) ks xs x refl (all-placed ks xs) (all-placed (ks ++ x ∷ []) xs) few

-- names that are placed in two steps
pub placed-then : (old mid new : List (List ℕ × ℕ)) (xs ys : List (List ℕ)) → mid ≡ all_placed old xs → new ≡ all_placed mid ys → new ≡ all_placed old (xs ++ ys)
placed-then old mid new xs ys first second = second ∙ ap (λ z. all_placed z ys) first ∙ sym (fold-append with_place old xs ys)

pub placed-turn : {X Y : Type 0} (name : Y → List ℕ) (v : X → Y) (xs : List X) (i : ℕ) (x : X) (old mid new : List (List ℕ × ℕ)) → i < length xs → x ≡ get_or xs i x
    → mid ≡ all_placed old (map name (map v (take i xs))) → new ≡ all_placed mid (name (v x) ∷ []) → new ≡ all_placed old (map name (map v (take (i + 1) xs)))
placed-turn name v xs i x old mid new within at before step =
    placed-then old mid new (map name (map v (take i xs))) (name (v x) ∷ []) before step
    ∙ ap (all_placed old) (sym (ap (map name) (seen-more v xs i x within at) ∙ map-append name (map v (take i xs)) (v x ∷ [])))

pub placed-all : {X Y : Type 0} (name : Y → List ℕ) (v : X → Y) (xs : List X) (i : ℕ) (old new : List (List ℕ × ℕ)) → length xs ≤ i → new ≡ all_placed old (map name (map v (take i xs))) → new ≡ all_placed old (map name (map v xs))
placed-all name v xs i old new past here = here ∙ ap (λ z. all_placed old (map name z)) (seen-all v xs i past)

-- a new name goes after the others
pub inserted-after : (entries : List (List ℕ × ℕ)) (n : List ℕ) (p : ℕ) → is_some (lookup (same_name n) entries) ≡ false → insert_entry same_name entries n p ≡ entries ++ (n, p) ∷ []
inserted-after [] n p new = refl
inserted-after (e ∷ es) n p new = by (same_name n e.0) new (inserted-after es n p)
  where
    by : (b : Bool) → is_some (if b then Some e.1 else lookup (same_name n) es) ≡ false → (is_some (lookup (same_name n) es) ≡ false → insert_entry same_name es n p ≡ es ++ (n, p) ∷ [])
        → (if b then (e.0, p) ∷ es else e ∷ insert_entry same_name es n p) ≡ e ∷ es ++ (n, p) ∷ []
    by true clash rest = absurd (grind (arith, clash))
    by false still rest = ap (λ z. e ∷ z) (rest still)

-- the same names, each with its place
pub placed_in_order : (m : PlainModule) (none heads items all : List (List ℕ × ℕ)) (implicit : List (List ℕ)) → none ≡ [] → heads ≡ all_placed none (head_names m) → items ≡ all_placed heads (flat_map (λ item. nets_declared_by item.body) m.items)
    → all ≡ all_placed items implicit → implicit ≡ once (implicit_names m) → IsDistinct same_name implicit → length (net_names m) < 2 ^ 32 → all ≡ placed 0 (net_names m)
placed_in_order m none heads items all implicit empty first second third is distinct few =
    third ∙ ap (λ z. all_placed z implicit) second-placed ∙ all-placed seconds implicit third-few ∙ ap (placed 0) order
  where
    firsts : List (List ℕ)
    firsts = all_added [] (head_names m)

    seconds : List (List ℕ)
    seconds = all_added firsts (flat_map (λ item. nets_declared_by item.body) m.items)

    order : all_added seconds implicit ≡ net_names m
    order = names_in_order m [] firsts seconds (all_added seconds implicit) implicit refl refl refl refl is distinct

    third-few : length (all_added seconds implicit) < 2 ^ 32
    third-few = subst (λ z. length z < 2 ^ 32) (sym order) few

    second-few : length seconds < 2 ^ 32
    second-few = omega (arith, third-few, added-longer seconds implicit)

    first-few : length firsts < 2 ^ 32
    first-few = omega (arith, second-few, added-longer firsts (flat_map (λ item. nets_declared_by item.body) m.items))

    first-placed : heads ≡ placed 0 firsts
    first-placed = first ∙ ap (λ z. all_placed z (head_names m)) empty ∙ all-placed [] (head_names m) first-few

    second-placed : items ≡ placed 0 seconds
    second-placed = second ∙ ap (λ z. all_placed z (flat_map (λ item. nets_declared_by item.body) m.items)) first-placed ∙ all-placed firsts (flat_map (λ item. nets_declared_by item.body) m.items) second-few

pub names-of : (m : PlainModule) (names : List (List ℕ)) → map (λ net. net.name) (map (net_of m) names) ≡ names
names-of m [] = refl
names-of m (n ∷ ns) = ap (λ z. n ∷ z) (names-of m ns)

-- a test of all elements, which are seen through a function
all-push : {A : Type 0} (p : A → Bool) (xs : List A) (x : A) → list_all p xs ≡ true → p x ≡ true → list_all p (xs ++ x ∷ []) ≡ true
all-push p [] x before here = ap (λ b. b && true) here
all-push p (y ∷ ys) x before here = by (p y) before (λ rest. all-push p ys x rest here)
  where
    by : (b : Bool) → (b && list_all p ys) ≡ true → (list_all p ys ≡ true → list_all p (ys ++ x ∷ []) ≡ true) → (b && list_all p (ys ++ x ∷ [])) ≡ true
    by true e more = more e
    by false e more = e

pub all-more : {X Y : Type 0} (p : Y → Bool) (v : X → Y) (xs : List X) (i : ℕ) (x : X) → i < length xs → x ≡ get_or xs i x → list_all p (map v (take i xs)) ≡ true → p (v x) ≡ true → list_all p (map v (take (i + 1) xs)) ≡ true
all-more p v xs i x within at before here = ap (list_all p) (seen-more v xs i x within at) ∙ all-push p (map v (take i xs)) (v x) before here

pub all-hold : {X Y : Type 0} (p : Y → Bool) (v : X → Y) (xs : List X) (i : ℕ) → length xs ≤ i → list_all p (map v (take i xs)) ≡ true → list_all p (map v xs) ≡ true
all-hold p v xs i past here = ap (list_all p) (sym (seen-all v xs i past)) ∙ here

pub all-fails : {X Y : Type 0} (p : Y → Bool) (v : X → Y) (xs : List X) (i : ℕ) (x : X) → i < length xs → x ≡ get_or xs i x → p (v x) ≡ false → list_all p (map v xs) ≡ false
all-fails p v [] i x within at fails = absurd (omega (arith, within))
all-fails p v (y ∷ ys) zero x within at fails = ap (λ b. b && list_all p (map v ys)) (ap (λ z. p (v z)) (sym at) ∙ fails)
all-fails p v (y ∷ ys) (suc i) x within at fails = ap (λ b. p (v y) && b) (all-fails p v ys i x (omega (arith, within)) at fails) ∙ and-false (p (v y))
  where
    and-false : (b : Bool) → (b && false) ≡ false
    and-false true = refl
    and-false false = refl
