-- What an index of names says is what the module says.
use Rattle.std.proofs.Common.{◌≡◌, ℕ, ◌+◌, Bool, true, false, cond, not, ◌||◌, ◌&&◌, List, [], ◌∷◌, ◌++◌, Option, None, Some, is_some, refl, sym, ap, ap₂, ◌∙◌, arith, map, filter, length, if◌then◌else◌}
use Rattle.std.proofs.lemmas.Grind.{common_steps}
use Rattle.std.proofs.lemmas.List.{map-append}
use Rattle.std.proofs.Common.{zero, suc, subst, take, ◌-◌, ◌<◌, ◌≤◌, get_or, slice_get}
use Rattle.std.proofs.lemmas.Cmp.{nat_list_eq_equiv}
use Rattle.std.proofs.lemmas.Option.{same_Some, slice_get_past, slice_get-get_or}
use Rattle.std.specs.Prelude.{option_to_list, option_map, nat_lt, MatchOption, IfSome}
use Rattle.std.specs.Option.{option_map_or}
use Rattle.bb_ast.specs.declared.module.Dir.{Dir}
use Rattle.bb_ast.specs.declared.module.Module.{Module}
use Rattle.bb_ast.specs.Inside.Views.{module_view}
use Rattle.bb_names.specs.Faults.{is_input}
use Rattle.bb_names.specs.Sites.{module_named}
use Rattle.std.specs.List.{find, list_any, position_from, take-map}
use Rattle.std.specs.Option.{option_and_then, option_or}
use Rattle.bb_bits.specs.Names.{same_name}
use Rattle.bb_ast.specs.Syntax.{PlainModule, PlainHead}
use Rattle.bb_names.specs.Declarations.{is_port, port_direction, direction_of}
use Rattle.std.specs.Map.{lookup}
use Rattle.bb_names.specs.Inside.Indexed.{head_names, ArePlaces}
use Rattle.bb_names.proofs.Searches.{option_or-none, found-any, position-push}
use Rattle.bb_bits.specs.Earlier.{has_name, once}
use Rattle.bb_names.proofs.Noting.{seen-more, seen-all}
use Rattle.bb_names.proofs.SummaryLemmas.{same_equal}

pub position-any : {A : Type 0} (p : A → Bool) (k : ℕ) (xs : List A) → is_some (position_from p k xs) ≡ list_any p xs
position-any p k [] = refl
position-any p k (x ∷ xs) = by (p x) (position-any p (k + 1) xs)
  where
    by : (b : Bool) → is_some (position_from p (k + 1) xs) ≡ list_any p xs → is_some (cond b (Some k) (position_from p (k + 1) xs)) ≡ (b || list_any p xs)
    by true rest = refl
    by false rest = rest

any-names : (n : List ℕ) (heads : List PlainHead) → list_any (same_name n) (map (λ head. head.name) heads) ≡ list_any (λ head. same_name head.name n) heads
any-names n [] = refl
any-names n (h ∷ hs) = ap₂ (λ a b. a || b) (nat_list_eq_equiv.symm n h.name) (any-names n hs)

pub port-any : (m : PlainModule) (n : List ℕ) → is_some (position_from (same_name n) 0 (head_names m)) ≡ is_port m n
port-any m n = position-any (same_name n) 0 (head_names m) ∙ any-names n m.heads

any-filter : {A : Type 0} (t p : A → Bool) (xs : List A) → ((x : A) → t x ≡ true → p x ≡ true) → list_any t (filter p xs) ≡ list_any t xs
any-filter t p [] keeps = refl
any-filter t p (x ∷ xs) keeps = by (p x) refl (t x) refl (any-filter t p xs keeps)
  where
    by : (b : Bool) → p x ≡ b → (c : Bool) → t x ≡ c → list_any t (filter p xs) ≡ list_any t xs → list_any t (cond b (x ∷ filter p xs) (filter p xs)) ≡ (t x || list_any t xs)
    by true e c f rest = ap (λ z. t x || z) rest
    by false e true f rest = absurd (grind (arith, e, f, keeps x f))
    by false e false f rest = rest ∙ sym (ap (λ c. c || list_any t xs) f)

apart : (n x : List ℕ) → same_name n x ≡ false → (y : List ℕ) → same_name n y ≡ true → not (same_name x y) ≡ true
apart n x e y h = ap not (ap (same_name x) (sym (same_equal n y h)) ∙ nat_list_eq_equiv.symm x n ∙ e)

pub has-once : (n : List ℕ) (xs : List (List ℕ)) → has_name n (once xs) ≡ has_name n xs
has-once n [] = refl
has-once n (x ∷ xs) = by (same_name n x) refl (has-once n xs)
  where
    by : (b : Bool) → same_name n x ≡ b → has_name n (once xs) ≡ has_name n xs → (same_name n x || has_name n (filter (λ y. not (same_name x y)) (once xs))) ≡ (same_name n x || has_name n xs)
    by true e rest = rw e refl
    by false e rest = ap (λ z. same_name n x || z) (any-filter (same_name n) (λ y. not (same_name x y)) (once xs) (apart n x e) ∙ rest)

-- a port's direction, where it is a name of the header
pub direction-at : (m : PlainModule) (n : List ℕ) → port_direction m n ≡ cond (is_port m n) (direction_of m n) None
direction-at m n = by (find (λ head. same_name head.name n) m.heads) (found-any (λ head. same_name head.name n) m.heads)
  where
    by : (o : Option PlainHead) → is_some o ≡ is_port m n → option_and_then (λ head. direction_of m n) o ≡ cond (is_port m n) (direction_of m n) None
    by None e = ap (λ b. cond b (direction_of m n) None) e
    by (Some h) e = ap (λ b. cond b (direction_of m n) None) e

-- places with one name more, which was there
pub place_kept : (entries : List (List ℕ × ℕ)) (names : List (List ℕ)) (x : List ℕ) → is_some (lookup (same_name x) entries) ≡ true → ArePlaces entries names → ArePlaces entries (names ++ x ∷ [])
place_kept entries names x there before n = before n ∙ sym (position-push (same_name n) 0 names x ∙ by (same_name n x) refl (position_from (same_name n) 0 names) (before n))
  where
    by : (b : Bool) → same_name n x ≡ b → (o : Option ℕ) → lookup (same_name n) entries ≡ o → option_or o (if same_name n x then Some (0 + length names) else None) ≡ o
    by b e (Some k) f = refl
    by true e None f = absurd (grind (arith, there, f, ap (λ z. lookup (same_name z) entries) (same_equal n x e)))
    by false e None f = rw e refl

-- and one that was not
pub place_added : (old new : List (List ℕ × ℕ)) (names : List (List ℕ)) (x : List ℕ) (i : ℕ) → is_some (lookup (same_name x) old) ≡ false → i ≡ length names
    → ((q : List ℕ) → lookup (same_name q) new ≡ cond (same_name x q) (Some i) (lookup (same_name q) old)) → ArePlaces old names → ArePlaces new (names ++ x ∷ [])
place_added old new names x i absent long put before n =
    put n ∙ sym (position-push (same_name n) 0 names x ∙ ap (λ o. option_or o (if same_name n x then Some (0 + length names) else None)) (sym (before n))
    ∙ ap (λ b. option_or (lookup (same_name n) old) (if b then Some (0 + length names) else None)) (nat_list_eq_equiv.symm n x) ∙ by (same_name x n) refl (lookup (same_name n) old) refl)
  where
    by : (b : Bool) → same_name x n ≡ b → (o : Option ℕ) → lookup (same_name n) old ≡ o → option_or o (if b then Some (0 + length names) else None) ≡ cond b (Some i) o
    by true e None f = ap Some (omega (arith, long))
    by true e (Some k) f = absurd (grind (arith, absent, f, ap (λ z. lookup (same_name z) old) (same_equal x n e)))
    by false e o f = option_or-none o

-- places in a loop over a list that is seen through a function
pub places-none : (entries : List (List ℕ × ℕ)) → entries ≡ [] → ArePlaces entries []
places-none entries none n = ap (lookup (same_name n)) none

pub places-turn : {X Y : Type 0} (name : Y → List ℕ) (v : X → Y) (xs : List X) (i : ℕ) (x : X) (old new : List (List ℕ × ℕ)) → i < length xs → x ≡ get_or xs i x → ArePlaces old (map name (map v (take i xs)))
    → ((names : List (List ℕ)) → ArePlaces old names → i ≡ length names → ArePlaces new (names ++ name (v x) ∷ [])) → ArePlaces new (map name (map v (take (i + 1) xs)))
places-turn name v xs i x old new within at before step =
    subst (ArePlaces new) (sym (ap (map name) (seen-more v xs i x within at) ∙ map-append name (map v (take i xs)) (v x ∷ []))) (step (map name (map v (take i xs))) before here)
  where
    here : i ≡ length (map name (map v (take i xs)))
    here = grind (arith, common_steps, within)

pub places-all : {X Y : Type 0} (name : Y → List ℕ) (v : X → Y) (xs : List X) (i : ℕ) (entries : List (List ℕ × ℕ)) → length xs ≤ i → ArePlaces entries (map name (map v (take i xs))) → ArePlaces entries (map name (map v xs))
places-all name v xs i entries past here = subst (λ z. ArePlaces entries (map name z)) (seen-all v xs i past) here

-- the first module of a name, by its place
pub module_at : (n : List ℕ) (j : ℕ) (ms : List Module) (k : ℕ) → position_from (same_name n) j (map (λ m. m.name) ms) ≡ Some k → (j ≤ k) × (module_named (map module_view ms) n ≡ option_map module_view (slice_get ms (k - j)))
module_at n j [] k at = absurd (grind (arith, at))
module_at n j (m ∷ ms) k at = by (same_name n m.name) refl at (module_at n (j + 1) ms k)
  where
    by : (b : Bool) → same_name n m.name ≡ b → cond b (Some j) (position_from (same_name n) (j + 1) (map (λ x. x.name) ms)) ≡ Some k
        → (position_from (same_name n) (j + 1) (map (λ x. x.name) ms) ≡ Some k → (j + 1 ≤ k) × (module_named (map module_view ms) n ≡ option_map module_view (slice_get ms (k - (j + 1)))))
        → (j ≤ k) × (module_named (map module_view (m ∷ ms)) n ≡ option_map module_view (slice_get (m ∷ ms) (k - j)))
    by true e f rest =
        let here : j ≡ k = same_Some j k f in
        let none : k - j ≡ 0 = omega (arith, here) in
        (omega (arith, here), ap (λ b. cond b (Some (module_view m)) (module_named (map module_view ms) n)) (nat_list_eq_equiv.symm m.name n ∙ e) ∙ ap (λ z. option_map module_view (slice_get (m ∷ ms) z)) (sym none))
    by false e f rest =
        let more = rest f in
        let later : k - j ≡ suc (k - (j + 1)) = omega (arith, more.0) in
        (omega (arith, more.0), ap (λ b. cond b (Some (module_view m)) (module_named (map module_view ms) n)) (nat_list_eq_equiv.symm m.name n ∙ e) ∙ more.1 ∙ ap (λ z. option_map module_view (slice_get (m ∷ ms) z)) (sym later))

pub module_nowhere : (n : List ℕ) (j : ℕ) (ms : List Module) → position_from (same_name n) j (map (λ m. m.name) ms) ≡ None → module_named (map module_view ms) n ≡ None
module_nowhere n j [] at = refl
module_nowhere n j (m ∷ ms) at = by (same_name n m.name) refl at (module_nowhere n (j + 1) ms)
  where
    by : (b : Bool) → same_name n m.name ≡ b → cond b (Some j) (position_from (same_name n) (j + 1) (map (λ x. x.name) ms)) ≡ None
        → (position_from (same_name n) (j + 1) (map (λ x. x.name) ms) ≡ None → module_named (map module_view ms) n ≡ None) → module_named (map module_view (m ∷ ms)) n ≡ None
    by true e f rest = absurd (grind (arith, f))
    by false e f rest = ap (λ b. cond b (Some (module_view m)) (module_named (map module_view ms) n)) (nat_list_eq_equiv.symm m.name n ∙ e) ∙ rest f

-- what was got at a place
pub got_at : {A B : Type 0} (now : B → A) (Q : B → Type 0) (o : Option B) (xs : List A) (k : ℕ) → MatchOption o (length xs ≤ k) Q → ((x : B) → Q x → k < length xs) → IfSome o (λ x. now x ≡ get_or xs k (now x)) → option_map now o ≡ slice_get xs k
got_at now Q None xs k past within at = sym (slice_get_past xs k past)
got_at now Q (Some x) xs k here within at = ap Some at ∙ sym (slice_get-get_or xs k (now x) (within x here))

pub option_map-map : {A B C : Type 0} (f : B → C) (g : A → B) (o : Option A) → option_map f (option_map g o) ≡ option_map (λ x. f (g x)) o
option_map-map f g None = refl
option_map-map f g (Some x) = refl

at-least : (n : List ℕ) (j : ℕ) (names : List (List ℕ)) (p : ℕ) → position_from (same_name n) j names ≡ Some p → j ≤ p
at-least n j [] p at = absurd (grind (arith, at))
at-least n j (x ∷ xs) p at = by (same_name n x) at (at-least n (j + 1) xs p)
  where
    by : (b : Bool) → cond b (Some j) (position_from (same_name n) (j + 1) xs) ≡ Some p → (position_from (same_name n) (j + 1) xs ≡ Some p → j + 1 ≤ p) → j ≤ p
    by true e rest = omega (arith, same_Some j p e)
    by false e rest = omega (arith, rest e)

-- a name is among the first of a list where its first place is before the end of these
lt-yes : (a b : ℕ) → a < b → nat_lt a b ≡ true
lt-yes a b h = grind (arith, h)

lt-not : (a b : ℕ) → b ≤ a → nat_lt a b ≡ false
lt-not a b h = grind (arith, h)

pub before-place : (n : List ℕ) (names : List (List ℕ)) (j k : ℕ) → option_map_or (λ p. nat_lt p (j + k)) (position_from (same_name n) j names) false ≡ has_name n (take k names)
before-place n [] j zero = refl
before-place n [] j (suc k) = refl
before-place n (x ∷ xs) j zero = late (position_from (same_name n) j (x ∷ xs)) (λ p at. at-least n j (x ∷ xs) p at)
  where
    late : (o : Option ℕ) → ((p : ℕ) → o ≡ Some p → j ≤ p) → option_map_or (λ p. nat_lt p (j + 0)) o false ≡ false
    late None h = refl
    late (Some p) h = lt-not p (j + 0) (omega (arith, h p refl))
before-place n (x ∷ xs) j (suc k) = by (same_name n x) refl (before-place n xs (j + 1) k)
  where
    by : (b : Bool) → same_name n x ≡ b → option_map_or (λ p. nat_lt p ((j + 1) + k)) (position_from (same_name n) (j + 1) xs) false ≡ has_name n (take k xs)
        → option_map_or (λ p. nat_lt p (j + suc k)) (cond b (Some j) (position_from (same_name n) (j + 1) xs)) false ≡ (b || has_name n (take k xs))
    by true e rest = lt-yes j (j + suc k) (omega arith)
    by false e rest = ap (λ z. option_map_or (λ p. nat_lt p z) (position_from (same_name n) (j + 1) xs) false) {x = j + suc k} {y = (j + 1) + k} (omega arith) ∙ rest

pub before-first : {X : Type 0} (name : X → List ℕ) (n : List ℕ) (xs : List X) (k : ℕ) → option_map_or (λ p. nat_lt p k) (position_from (same_name n) 0 (map name xs)) false ≡ has_name n (map name (take k xs))
before-first name n xs k =
    ap (λ z. option_map_or (λ p. nat_lt p z) (position_from (same_name n) 0 (map name xs)) false) {x = k} {y = 0 + k} (omega arith) ∙ before-place n (map name xs) 0 k ∙ ap (has_name n) (take-map name k xs)

pub plain-names : (ms : List Module) → map (λ m. m.name) ms ≡ map (λ m. m.name) (map module_view ms)
plain-names [] = refl
plain-names (m ∷ ms) = ap (λ z. m.name ∷ z) (plain-names ms)

-- what is found in a header is an input, where its name is one
pub found_input : {A : Type 0} (test : A → Bool) (xs : List A) (dir : Option Dir) → (list_any is_input (option_to_list dir) && list_any test xs) ≡ list_any is_input (option_to_list (option_and_then (λ x. dir) (find test xs)))
found_input test [] dir = and-false (list_any is_input (option_to_list dir))
  where
    and-false : (b : Bool) → (b && false) ≡ false
    and-false true = refl
    and-false false = refl
found_input test (x ∷ xs) dir = by (test x) (found_input test xs dir)
  where
    and-true : (b : Bool) → (b && true) ≡ b
    and-true true = refl
    and-true false = refl

    by : (b : Bool) → (list_any is_input (option_to_list dir) && list_any test xs) ≡ list_any is_input (option_to_list (option_and_then (λ y. dir) (find test xs)))
        → (list_any is_input (option_to_list dir) && (b || list_any test xs)) ≡ list_any is_input (option_to_list (option_and_then (λ y. dir) (if b then Some x else find test xs)))
    by true rest = and-true (list_any is_input (option_to_list dir))
    by false rest = rest
