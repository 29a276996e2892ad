-- What is found among sites that are looked at one after another.
use Rattle.std.proofs.Common.{zero, suc, drop, ap₂, ◌||◌, ◌≡◌, ℕ, ◌+◌, ◌<◌, ◌≤◌, Bool, true, false, not, List, [], ◌∷◌, ◌++◌, length, take, map, get_or, Option, None, Some, refl, sym, ap, ◌∙◌, arith, append_assoc, append-nil, if◌then◌else◌}
use Rattle.std.proofs.lemmas.Grind.{flat_map-append, common_steps}
use Rattle.std.proofs.lemmas.List.Folds.{list_any-append}
use Rattle.std.proofs.lemmas.List.{take_more, take_all, map-append, length-map}
use Rattle.std.specs.List.{flat_map, enumerate_from, take-map}
use Rattle.bb_ast.specs.declared.expr.Expr.{Expr}
use Rattle.bb_ast.specs.declared.module.Gate.{Gate}
use Rattle.bb_ast.specs.Gates.{output_count}
use Rattle.bb_ast.specs.Inside.Views.{expression}
use Rattle.indexmap.specs.IndexSet.{insert_key}
use Rattle.bb_bits.specs.Names.{same_name}
use Rattle.bb_names.proofs.SummaryLemmas.{same_equal}
use Rattle.std.specs.Option.{option_or, option_map_or}
use Rattle.bb_ast.specs.Syntax.{PlainModule}
use Rattle.bb_names.specs.declared.faults.found.Found.{Found}
use Rattle.std.specs.Prelude.{◌==◌, is_none, codes, nat_lt, option_map, min}
use Rattle.bb_ast.specs.Syntax.{Expression}
use Rattle.bb_ast.specs.Names.{names_in}
use Rattle.bb_names.specs.Faults.{Rows, reported_if, width_in, twice, unknown, wrong_select, wrong_width, wrong_role}
use Rattle.bb_names.specs.Inside.Firsts.{AreSame, terminal_sites, first_of, first_reported, noted, noted_width, sites_of_part}
use Rattle.bb_names.specs.Sites.{gate_sites, Site, Use, Clock, Whole, Number, Placed, Declared as DeclaredSite, is_plain, sites_in, declared_sites}
use Rattle.bb_names.specs.Declarations.{Declaration}
use Rattle.bb_bits.specs.Earlier.{each_from, has_name}
use Rattle.bb_names.proofs.Searches.{option_or-none, option_or-assoc}

abbrev pub found_of : Option (List ℕ) → Option (List ℕ) → Option (List ℕ) → Option (List ℕ) → Option (List ℕ) → Found
found_of t u s w r = record { twice = t; unknown = u; select = s; width = w; role = r }

pub found-same : {t u s w r t' u' s' w' r' : Option (List ℕ)} → t ≡ t' → u ≡ u' → s ≡ s' → w ≡ w' → r ≡ r' → found_of t u s w r ≡ found_of t' u' s' w' r'
found-same a b c d e = rw (a, b, c, d, e) refl

pub first_of-append : {A : Type 0} (xs ys : List A) → first_of (xs ++ ys) ≡ option_or (first_of xs) (first_of ys)
first_of-append [] ys = refl
first_of-append (x ∷ xs) ys = refl

pub first_reported-append : (rows : Rows) (text : List PlainModule) (m : PlainModule) (a b : List Site) → first_reported rows text m (a ++ b) ≡ option_or (first_reported rows text m a) (first_reported rows text m b)
first_reported-append rows text m a b = ap first_of (flat_map-append (rows text m) a b) ∙ first_of-append (flat_map (rows text m) a) (flat_map (rows text m) b)

slot : (rows : Rows) (text : List PlainModule) (m : PlainModule) (x : Option (List ℕ)) (a b : List Site)
    → option_or (option_or x (first_reported rows text m a)) (first_reported rows text m b) ≡ option_or x (first_reported rows text m (a ++ b))
slot rows text m x a b = option_or-assoc x (first_reported rows text m a) (first_reported rows text m b) ∙ ap (option_or x) (sym (first_reported-append rows text m a b))

pub noted-append : (text : List PlainModule) (m : PlainModule) (f : Found) (a b : List Site) → noted text m (noted text m f a) b ≡ noted text m f (a ++ b)
noted-append text m f a b = found-same (slot twice text m f.twice a b) (slot unknown text m f.unknown a b) (slot wrong_select text m f.select a b) (slot wrong_width text m f.width a b) (slot wrong_role text m f.role a b)

pub noted-none : (text : List PlainModule) (m : PlainModule) (f : Found) → noted text m f [] ≡ f
noted-none text m f = found-same (option_or-none f.twice) (option_or-none f.unknown) (option_or-none f.select) (option_or-none f.width) (option_or-none f.role)

-- two steps in turn
pub noted-then : (text : List PlainModule) (m : PlainModule) (f mid new : Found) (a b : List Site) → mid ≡ noted text m f a → new ≡ noted text m mid b → new ≡ noted text m f (a ++ b)
noted-then text m f mid new a b first second = second ∙ ap (λ z. noted text m z b) first ∙ noted-append text m f a b

-- a loop over a list that is seen through a function
pub seen-more : {X Y : Type 0} (v : X → Y) (xs : List X) (i : ℕ) (x : X) → i < length xs → x ≡ get_or xs i x → map v (take (i + 1) xs) ≡ map v (take i xs) ++ v x ∷ []
seen-more v xs i x within at = ap (map v) (take_more xs i x within ∙ ap (λ y. take i xs ++ y ∷ []) (sym at)) ∙ map-append v (take i xs) (x ∷ [])

pub seen-all : {X Y : Type 0} (v : X → Y) (xs : List X) (i : ℕ) → length xs ≤ i → map v (take i xs) ≡ map v xs
seen-all v xs i past = ap (map v) (take_all i xs past)

pub flat_map-push : {X Y : Type 0} (g : X → List Y) (xs : List X) (x : X) → flat_map g (xs ++ x ∷ []) ≡ flat_map g xs ++ g x
flat_map-push g xs x = flat_map-append g xs (x ∷ []) ∙ ap (λ z. flat_map g xs ++ z) (append-nil (g x))

pub noted-turn : {X Y : Type 0} (text : List PlainModule) (m : PlainModule) (g : Y → List Site) (v : X → Y) (xs : List X) (i : ℕ) (x : X) (f mid new : Found)
    → i < length xs → x ≡ get_or xs i x → mid ≡ noted text m f (flat_map g (map v (take i xs))) → new ≡ noted text m mid (g (v x)) → new ≡ noted text m f (flat_map g (map v (take (i + 1) xs)))
noted-turn text m g v xs i x f mid new within at before step =
    noted-then text m f mid new (flat_map g (map v (take i xs))) (g (v x)) before step
    ∙ ap (noted text m f) (sym (ap (flat_map g) (seen-more v xs i x within at) ∙ flat_map-push g (map v (take i xs)) (v x)))

pub noted-all : {X Y : Type 0} (text : List PlainModule) (m : PlainModule) (g : Y → List Site) (v : X → Y) (xs : List X) (i : ℕ) (f new : Found)
    → length xs ≤ i → new ≡ noted text m f (flat_map g (map v (take i xs))) → new ≡ noted text m f (flat_map g (map v xs))
noted-all text m g v xs i f new past here = here ∙ ap (λ z. noted text m f (flat_map g z)) (seen-all v xs i past)

-- what each element and those before it give, with one element more
pub each_from-append : {A B : Type 0} (gives : List A → A → List B) (before xs ys : List A) → each_from gives before (xs ++ ys) ≡ each_from gives before xs ++ each_from gives (before ++ xs) ys
each_from-append gives before [] ys = ap (λ z. each_from gives z ys) (sym (append-nil before))
each_from-append gives before (x ∷ xs) ys =
    ap (λ z. gives before x ++ z) (each_from-append gives (before ++ x ∷ []) xs ys ∙ ap (λ z. each_from gives (before ++ x ∷ []) xs ++ each_from gives z ys) (append_assoc before (x ∷ []) xs))
    ∙ sym (append_assoc (gives before x) (each_from gives (before ++ x ∷ []) xs) (each_from gives (before ++ x ∷ xs) ys))

pub each_from-push : {A B : Type 0} (gives : List A → A → List B) (before xs : List A) (x : A) → each_from gives before (xs ++ x ∷ []) ≡ each_from gives before xs ++ gives (before ++ xs) x
each_from-push gives before xs x = each_from-append gives before xs (x ∷ []) ∙ ap (λ z. each_from gives before xs ++ z) (append-nil (gives (before ++ xs) x))

-- one name or word that is reported or not
pub reported-one : (b : Bool) (n : List ℕ) → first_of (reported_if b n ++ []) ≡ (if b then Some n else None)
reported-one true n = refl
reported-one false n = refl

-- a site of which names are reported: its rows one by one
pub noted-one : (text : List PlainModule) (m : PlainModule) (f : Found) (site : Site) (t u s w r : Option (List ℕ))
    → t ≡ option_or f.twice (first_of (twice text m site ++ [])) → u ≡ option_or f.unknown (first_of (unknown text m site ++ [])) → s ≡ option_or f.select (first_of (wrong_select text m site ++ []))
    → w ≡ option_or f.width (first_of (wrong_width text m site ++ [])) → r ≡ option_or f.role (first_of (wrong_role text m site ++ [])) → found_of t u s w r ≡ noted text m f (site ∷ [])
noted-one text m f site t u s w r a b c d e = found-same a b c d e

-- nothing is reported of an expression as a whole but its width
pub noted-whole : (text : List PlainModule) (m : PlainModule) (f mid : Found) (e : Expression) (inner : List Site) (w : Option (List ℕ)) → mid ≡ noted text m f inner
    → w ≡ option_or f.width (option_or (first_of (wrong_width text m (Whole e))) (first_reported wrong_width text m inner)) → found_of mid.twice mid.unknown mid.select w mid.role ≡ noted text m f (Whole e ∷ inner)
noted-whole text m f mid e inner w before width =
    found-same (ap (λ z. z.twice) before) (ap (λ z. z.unknown) before) (ap (λ z. z.select) before)
    (width ∙ ap (option_or f.width) (sym (first_of-append (wrong_width text m (Whole e)) (flat_map (wrong_width text m) inner)))) (ap (λ z. z.role) before)

-- a word that is to the left
pub put-left : (o word inner mid new : Option (List ℕ)) → mid ≡ option_or o inner → is_none o ≡ true → new ≡ option_or word mid → new ≡ option_or o (option_or word inner)
put-left None word inner mid new before none put = put ∙ ap (option_or word) before
put-left (Some x) word inner mid new before none put = absurd (grind (arith, none))

pub kept-left : (o word inner mid : Option (List ℕ)) → mid ≡ option_or o inner → is_none o ≡ false → mid ≡ option_or o (option_or word inner)
kept-left None word inner mid before none = absurd (grind (arith, none))
kept-left (Some x) word inner mid before none = before

-- a part: a plain number first
pub noted-part : (text : List PlainModule) (m : PlainModule) (f : Found) (how : Use) (e : Expression) (b : Bool) (w : Option (List ℕ)) (new : Found) → is_plain e ≡ b
    → w ≡ option_or f.width (if b then Some (codes "decimal") else None) → new ≡ noted text m (record f { width = w }) (sites_in how e) → new ≡ noted text m f (sites_of_part how e)
noted-part text m f how e true w new is put step =
    step ∙ ap (λ z. noted text m z (sites_in how e)) (found-same (sym (option_or-none f.twice)) (sym (option_or-none f.unknown)) (sym (option_or-none f.select)) put (sym (option_or-none f.role)))
    ∙ noted-append text m f (Number ∷ []) (sites_in how e) ∙ ap (λ c. noted text m f (if c then Number ∷ sites_in how e else sites_in how e)) (sym is)
noted-part text m f how e false w new is put step =
    step ∙ ap (λ z. noted text m z (sites_in how e)) (found-same refl refl refl (put ∙ option_or-none f.width) refl) ∙ ap (λ c. noted text m f (if c then Number ∷ sites_in how e else sites_in how e)) (sym is)

-- a word about a width before all that is in an expression
pub noted-wide : (text : List PlainModule) (m : PlainModule) (f mid : Found) (width wanted : ℕ) (word : List ℕ) (sites : List Site) (w : Option (List ℕ)) → mid ≡ noted text m f sites
    → w ≡ option_or f.width (option_or (first_of (reported_if (not (width == wanted)) word)) (first_reported wrong_width text m sites)) → found_of mid.twice mid.unknown mid.select w mid.role ≡ noted_width text m f width wanted word sites
noted-wide text m f mid width wanted word sites w before put =
    found-same (ap (λ z. z.twice) before) (ap (λ z. z.unknown) before) (ap (λ z. z.select) before)
    (put ∙ sym (option_or-assoc f.width (first_of (reported_if (not (width == wanted)) word)) (first_reported wrong_width text m sites))) (ap (λ z. z.role) before)

-- a loop in which each element is looked at after the earlier ones
pub each-turn : {X Y : Type 0} (text : List PlainModule) (m : PlainModule) (gives : List Y → Y → List Site) (v : X → Y) (xs : List X) (i : ℕ) (x : X) (f mid new : Found)
    → i < length xs → x ≡ get_or xs i x → mid ≡ noted text m f (each_from gives [] (map v (take i xs))) → new ≡ noted text m mid (gives (map v (take i xs)) (v x)) → new ≡ noted text m f (each_from gives [] (map v (take (i + 1) xs)))
each-turn text m gives v xs i x f mid new within at before step =
    noted-then text m f mid new (each_from gives [] (map v (take i xs))) (gives (map v (take i xs)) (v x)) before step
    ∙ ap (noted text m f) (sym (ap (each_from gives []) (seen-more v xs i x within at) ∙ each_from-push gives [] (map v (take i xs)) (v x)))

pub each-all : {X Y : Type 0} (text : List PlainModule) (m : PlainModule) (gives : List Y → Y → List Site) (v : X → Y) (xs : List X) (i : ℕ) (f new : Found)
    → length xs ≤ i → new ≡ noted text m f (each_from gives [] (map v (take i xs))) → new ≡ noted text m f (each_from gives [] (map v xs))
each-all text m gives v xs i f new past here = here ∙ ap (λ z. noted text m f (each_from gives [] z)) (seen-all v xs i past)

-- one declaration alone
pub sites-alone : (before : List Declaration) (d : Declaration) → declared_sites before (d ∷ []) ≡ DeclaredSite before d ∷ []
sites-alone before d = ap (λ b. DeclaredSite b d ∷ []) (append-nil before)

first-nil : {A : Type 0} (xs : List A) → first_of (xs ++ []) ≡ first_of xs
first-nil xs = ap first_of (append-nil xs)

-- a site of which a width and a role are reported, before all that is in an expression
pub noted-widely : (text : List PlainModule) (m : PlainModule) (f : Found) (site : Site) (r : Option (List ℕ)) (width wanted : ℕ) (word : List ℕ) (sites : List Site) (new : Found)
    → twice text m site ≡ [] → unknown text m site ≡ [] → wrong_select text m site ≡ [] → first_of (reported_if (not (width == wanted)) word) ≡ first_of (wrong_width text m site)
    → r ≡ option_or f.role (first_of (wrong_role text m site)) → new ≡ noted_width text m (record f { role = r }) width wanted word sites → new ≡ noted text m f (site ∷ sites)
noted-widely text m f site r width wanted word sites new none-twice none-unknown none-select reported role step =
    step ∙ ap (λ z. noted text m z sites) (noted-one text m f site _ _ _ _ _
    (sym (ap (λ z. option_or f.twice (first_of (z ++ []))) none-twice ∙ option_or-none f.twice))
    (sym (ap (λ z. option_or f.unknown (first_of (z ++ []))) none-unknown ∙ option_or-none f.unknown))
    (sym (ap (λ z. option_or f.select (first_of (z ++ []))) none-select ∙ option_or-none f.select))
    (ap (option_or f.width) (reported ∙ sym (first-nil (wrong_width text m site))))
    (role ∙ ap (option_or f.role) (sym (first-nil (wrong_role text m site)))))
    ∙ noted-append text m f (site ∷ []) sites

-- a loop over a list with its places
enumerate-push : {A : Type 0} (j : ℕ) (xs : List A) (x : A) → enumerate_from j (xs ++ x ∷ []) ≡ enumerate_from j xs ++ (j + length xs, x) ∷ []
enumerate-push j [] x = ap (λ k. (k, x) ∷ []) {x = j} {y = j + 0} (omega arith)
enumerate-push j (y ∷ ys) x = ap (λ z. (j, y) ∷ z) (enumerate-push (j + 1) ys x ∙ ap (λ k. enumerate_from (j + 1) ys ++ (k, x) ∷ []) {x = (j + 1) + length ys} {y = j + length (y ∷ ys)} (omega arith))

pub place-turn : {X Y : Type 0} (text : List PlainModule) (m : PlainModule) (g : ℕ × Y → List Site) (v : X → Y) (xs : List X) (i : ℕ) (x : X) (f mid new : Found)
    → i < length xs → x ≡ get_or xs i x → mid ≡ noted text m f (flat_map g (enumerate_from 0 (map v (take i xs)))) → new ≡ noted text m mid (g (i, v x)) → new ≡ noted text m f (flat_map g (enumerate_from 0 (map v (take (i + 1) xs))))
place-turn text m g v xs i x f mid new within at before step =
    noted-then text m f mid new (flat_map g (enumerate_from 0 (map v (take i xs)))) (g (i, v x)) before step
    ∙ ap (noted text m f) (sym (ap (λ z. flat_map g (enumerate_from 0 z)) (seen-more v xs i x within at) ∙ ap (flat_map g) (enumerate-push 0 (map v (take i xs)) (v x) ∙ ap (λ k. enumerate_from 0 (map v (take i xs)) ++ (k, v x) ∷ []) here)
    ∙ flat_map-push g (enumerate_from 0 (map v (take i xs))) (i, v x)))
  where
    here : 0 + length (map v (take i xs)) ≡ i
    here = grind (arith, common_steps, within)

-- the same names, with one more
pub same-more : (keys names new : List (List ℕ)) (n : List ℕ) → AreSame keys names → new ≡ insert_key same_name keys n → AreSame new (names ++ n ∷ [])
same-more keys names new n same put q = ap (has_name q) put ∙ by (has_name n keys) refl ∙ sym (list_any-append (same_name q) names (n ∷ []))
  where
    or-false : (b : Bool) → b ≡ (b || false)
    or-false true = refl
    or-false false = refl

    there : has_name n keys ≡ true → (c : Bool) → same_name q n ≡ c → has_name q keys ≡ (has_name q names || (c || false))
    there e true f = ap (λ z. has_name z keys) (same_equal q n f) ∙ e ∙ sym (ap (λ b. b || true) (sym (same q)) ∙ ap (λ b. b || true) (ap (λ z. has_name z keys) (same_equal q n f) ∙ e))
    there e false f = same q ∙ or-false (has_name q names)

    by : (b : Bool) → has_name n keys ≡ b → has_name q (if has_name n keys then keys else keys ++ n ∷ []) ≡ (has_name q names || (same_name q n || false))
    by true e = ap (λ b. has_name q (if b then keys else keys ++ n ∷ [])) e ∙ there e (same_name q n) refl
    by false e = ap (λ b. has_name q (if b then keys else keys ++ n ∷ [])) e ∙ list_any-append (same_name q) keys (n ∷ []) ∙ ap (λ b. b || (same_name q n || false)) (same q)

pub reported-alone : (b : Bool) (n : List ℕ) → first_of (reported_if b n) ≡ (if b then Some n else None)
reported-alone true n = refl
reported-alone false n = refl

pub place-all : {X Y : Type 0} (text : List PlainModule) (m : PlainModule) (g : ℕ × Y → List Site) (v : X → Y) (xs : List X) (i : ℕ) (f new : Found)
    → length xs ≤ i → new ≡ noted text m f (flat_map g (enumerate_from 0 (map v (take i xs)))) → new ≡ noted text m f (flat_map g (enumerate_from 0 (map v xs)))
place-all text m g v xs i f new past here = here ∙ ap (λ z. noted text m f (flat_map g (enumerate_from 0 z))) (seen-all v xs i past)

-- more places by order than ports
pub placed-row : (text : List PlainModule) (m : PlainModule) (to : Option PlainModule) (n : List ℕ) (count : ℕ)
    → first_of (wrong_role text m (Placed to n count) ++ []) ≡ (if option_map_or (λ t. nat_lt (length t.heads) count) to false then Some n else None)
placed-row text m None n count = refl
placed-row text m (Some t) n count = reported-one (nat_lt (length t.heads) count) n

pub is_none-map : {A B : Type 0} (f : A → B) (o : Option A) → is_none (option_map f o) ≡ is_none o
is_none-map f None = refl
is_none-map f (Some x) = refl

-- the first of what elements give, one after another
none-left : {A : Type 0} (a b : Option A) → option_or a b ≡ None → a ≡ None
none-left None b h = refl
none-left (Some x) b h = h

none-right : {A : Type 0} (a b : Option A) → option_or a b ≡ None → b ≡ None
none-right None b h = h
none-right (Some x) b h = absurd (grind (arith, h))

pub first-more : {X Y A : Type 0} (g : Y → List A) (v : X → Y) (xs : List X) (i : ℕ) (x : X) → i < length xs → x ≡ get_or xs i x → first_of (flat_map g (map v (take i xs))) ≡ None → first_of (g (v x)) ≡ None → first_of (flat_map g (map v (take (i + 1) xs))) ≡ None
first-more g v xs i x within at before here =
    ap first_of (ap (flat_map g) (seen-more v xs i x within at) ∙ flat_map-push g (map v (take i xs)) (v x)) ∙ first_of-append (flat_map g (map v (take i xs))) (g (v x)) ∙ ap (λ o. option_or o (first_of (g (v x)))) before ∙ here

pub first-found : {X Y A : Type 0} (g : Y → List A) (v : X → Y) (xs : List X) (i : ℕ) (x : X) (a : A) → i < length xs → x ≡ get_or xs i x → first_of (flat_map g (map v (take i xs))) ≡ None → first_of (g (v x)) ≡ Some a → first_of (flat_map g (map v xs)) ≡ Some a
first-found g v [] i x a within at before here = absurd (omega (arith, within))
first-found g v (y ∷ ys) zero x a within at before here = first_of-append (g (v y)) (flat_map g (map v ys)) ∙ ap (λ o. option_or o (first_of (flat_map g (map v ys)))) (ap (λ z. first_of (g (v z))) (sym at) ∙ here)
first-found g v (y ∷ ys) (suc i) x a within at before here =
    let split = sym (first_of-append (g (v y)) (flat_map g (map v (take i ys)))) ∙ before in
    first_of-append (g (v y)) (flat_map g (map v ys)) ∙ ap (λ o. option_or o (first_of (flat_map g (map v ys)))) (none-left (first_of (g (v y))) (first_of (flat_map g (map v (take i ys)))) split)
    ∙ first-found g v ys i x a (omega (arith, within)) at (none-right (first_of (g (v y))) (first_of (flat_map g (map v (take i ys)))) split) here

-- the terminals of a gate: the outputs, then the inputs
split-least : {A : Type 0} (n : ℕ) (xs : List A) → (take (min n (length xs)) xs ≡ take n xs) × (drop (min n (length xs)) xs ≡ drop n xs)
split-least zero [] = (refl, refl)
split-least (suc n) [] = (grind arith, grind arith)
split-least zero (x ∷ xs) = (ap (λ k. take k (x ∷ xs)) none, ap (λ k. drop k (x ∷ xs)) none)
  where
    none : min 0 (length (x ∷ xs)) ≡ 0
    none = omega arith
split-least (suc n) (x ∷ xs) = (ap (λ k. take k (x ∷ xs)) least ∙ ap (λ z. x ∷ z) (split-least n xs).0, ap (λ k. drop k (x ∷ xs)) least ∙ (split-least n xs).1)
  where
    least : min (suc n) (length (x ∷ xs)) ≡ suc (min n (length xs))
    least = omega arith

drop-map : {X Y : Type 0} (f : X → Y) (n : ℕ) (xs : List X) → drop n (map f xs) ≡ map f (drop n xs)
drop-map f zero xs = refl
drop-map f (suc n) [] = refl
drop-map f (suc n) (x ∷ xs) = drop-map f n xs

pub gate-split : (gate : Gate) (xs : List Expr) (k : ℕ) → k ≡ min (output_count gate (length xs)) (length xs)
    → flat_map (terminal_sites gate true) (map expression (take k xs)) ++ flat_map (terminal_sites gate false) (map expression (drop k xs)) ≡ gate_sites gate (map expression xs)
gate-split gate xs k least =
    let n = output_count gate (length xs) in
    ap₂ (λ a b. flat_map (terminal_sites gate true) (map expression a) ++ flat_map (terminal_sites gate false) (map expression b)) (ap (λ z. take z xs) least ∙ (split-least n xs).0) (ap (λ z. drop z xs) least ∙ (split-least n xs).1)
    ∙ ap₂ (λ a b. flat_map (terminal_sites gate true) a ++ flat_map (terminal_sites gate false) b) (sym (take-map expression n xs)) (sym (drop-map expression n xs))
    ∙ ap (λ z. flat_map (terminal_sites gate true) (take (output_count gate z) (map expression xs)) ++ flat_map (terminal_sites gate false) (drop (output_count gate z) (map expression xs))) (sym (length-map xs expression))

-- a site of which nothing is reported
pub noted-silent : (text : List PlainModule) (m : PlainModule) (f : Found) (site : Site) (sites : List Site) → twice text m site ≡ [] → unknown text m site ≡ [] → wrong_select text m site ≡ [] → wrong_width text m site ≡ [] → wrong_role text m site ≡ []
    → noted text m f sites ≡ noted text m f (site ∷ sites)
noted-silent text m f site sites a b c d e = found-same
    (ap (λ z. option_or f.twice (first_of (z ++ flat_map (twice text m) sites))) (sym a)) (ap (λ z. option_or f.unknown (first_of (z ++ flat_map (unknown text m) sites))) (sym b))
    (ap (λ z. option_or f.select (first_of (z ++ flat_map (wrong_select text m) sites))) (sym c)) (ap (λ z. option_or f.width (first_of (z ++ flat_map (wrong_width text m) sites))) (sym d))
    (ap (λ z. option_or f.role (first_of (z ++ flat_map (wrong_role text m) sites))) (sym e))

-- a clock, whose first name is reported
clock-row : {A : Type 0} (b : Bool) (xs : List A) → first_of xs ≡ None → (if b then [] else xs) ≡ []
clock-row true xs h = refl
clock-row false [] h = refl
clock-row false (x ∷ xs) h = absurd (grind (arith, h))

pub clock-silent : (text : List PlainModule) (m : PlainModule) (e : Expression) → first_of (names_in e) ≡ None → wrong_width text m (Clock e) ≡ []
clock-silent text m e h = clock-row (width_in m e == 1) (names_in e) h

pub clock-reported : (b : Bool) (n : List ℕ) (names : List (List ℕ)) → first_of names ≡ Some n → first_of (reported_if (not b) n) ≡ first_of (if b then [] else names)
clock-reported true n names h = refl
clock-reported false n names h = sym h
