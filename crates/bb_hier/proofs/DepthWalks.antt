-- The way from the top down to the first instance that is too low.
use Rattle.std.proofs.Common.{◌≡◌, ◌⊎◌, ◌+◌, ◌<◌, ◌≤◌, ◌++◌, ◌||◌, ℕ, Vec, Global, zero, suc, Bool, true, false, List, [], ◌∷◌, map, length, take, drop, get_or, Contains, Option, Some, refl, sym, ap, ◌∙◌, subst, inl, inr, arith, true≢false, append_assoc, length-append}
use Rattle.std.specs.Prelude.{slice_get, ◌-◌, ◌==◌, codes, if◌then◌else◌, IfSome, nat_le}
use Rattle.std.specs.List.{flat_map, list_any, slice_index_or}
use Rattle.std.proofs.lemmas.Grind.{flat_map-append}
use Rattle.std.proofs.lemmas.List.{map-append, get_or-map, get_or_default, length-map}
use Rattle.std.proofs.lemmas.List.Elements.{Contains-append_cases}
use Rattle.std.proofs.lemmas.List.Folds.{list_any_at}
use Rattle.bb_ast.specs.Syntax.{PlainModule}
use Rattle.bb_names.specs.Faults.{IsSound}
use Rattle.bb_bits.specs.Closures.{IsFirst}
use Rattle.bb_hier.specs.Inside.Depths.{is_tall}
use Rattle.bb_design.specs.Hierarchy.{Instance, Path, Scope, instances_of, children, path_to, below, root, instances}
use Rattle.bb_design.specs.Refusals.{Depth, IsTooLow, IsReportedOfDesign, IsAbsentInDesign, design_on}
use Rattle.bb_design.specs.Texts.{path_text}
use Rattle.bb_design.specs.Inside.Callees.{callee_place, child, called}
use Rattle.bb_lemmas.proofs.Places.{there_at, got, some_at, split, taken, list_here}
use Rattle.bb_lemmas.proofs.Members.{all_from, from_flat, from_map, contains_there, contains_cases, none_in_nil}
use Rattle.bb_lemmas.proofs.Orders.{less_or_past}
use Rattle.bb_lemmas.proofs.Maps.{any-map}
use Rattle.bb_design.specs.Laws.DesignLaws.{DesignLaws}

module _ (of_designs : DesignLaws) (text : List PlainModule) (sound : IsSound text) where
  -- what is in a scope that is too low has as many instances above it
  low_is_tall : (n : ℕ) (s : Scope) (k : ℕ) → slice_get text k ≡ Some s.source → length s.path + n ≡ 64 → (y : Scope) → Contains (s ∷ below n text s) y → 64 ≤ length y.path → is_tall (called text) n k ≡ true
  unfolding below
  low_is_tall zero s k at long y has low = refl
  low_is_tall (suc n) s k at long y has low =
      by (contains_cases s (below (suc n) text s) y has)
      (λ i there c. low_is_tall n (child text s i) (callee_place text i) ((of_designs.instances text sound s.source (there_at text k s.source at)).occurs i there) (omega (arith, long, length-append s.path (i.name ∷ []))) y c low)
    where
      by : (s ≡ y) ⊎ Contains (below (suc n) text s) y → ((i : Instance) → Contains (instances_of s.source) i → Contains (child text s i ∷ below n text (child text s i)) y → is_tall (called text) n (callee_place text i) ≡ true)
          → is_tall (called text) (suc n) k ≡ true
      by (inl same) rest = absurd (omega (arith, long, low, ap (λ (z : Scope). length z.path) same))
      by (inr more) rest =
          let c = from_flat (λ c. c ∷ below n text c) (children text s) y more in
          let i = from_map (child text s) (instances_of s.source) c.0 (subst (λ l. Contains l c.0) ((of_designs.instances text sound s.source (there_at text k s.source at)).children s refl) c.1) in
          ap (list_any (is_tall (called text) n)) ((of_designs.instances text sound s.source (there_at text k s.source at)).called k at) ∙ any-map (is_tall (called text) n) (callee_place text) (instances_of s.source)
          ∙ list_any_at (λ (j : Instance). is_tall (called text) n (callee_place text j)) (instances_of s.source) i.1.0 i.0 i.1.1
          (ap (λ (j : Instance). is_tall (called text) n (callee_place text j)) i.1.2 ∙ rest i.0 i.1 (subst (λ (z : Scope). Contains (z ∷ below n text z) y) (sym i.2) c.2))

  -- the first instance that is tall enough leads on
  module _ (n : ℕ) (s : Scope) (k : ℕ) (at : slice_get text k ≡ Some s.source) (long : length s.path + suc n ≡ 64) (j : ℕ) (x : Instance) (chosen : slice_get (instances_of s.source) j ≡ Some x)
      (first : (i : ℕ) → i < j → is_tall (called text) n (slice_index_or (slice_index_or (called text) k []) i 0) ≡ false) where
    abbrev each : Scope → List Scope
    each c = c ∷ below n text c

    abbrev prefix : List Instance
    prefix = take j (instances_of s.source)

    abbrev back : List Instance
    back = drop (suc j) (instances_of s.source)

    abbrev before : List Scope
    before = flat_map each (map (child text s) prefix)

    abbrev after : List Scope
    after = flat_map each (map (child text s) back)

    parts : below (suc n) text s ≡ before ++ (each (child text s x) ++ after)
    unfolding below
    parts = ap (flat_map each) ((of_designs.instances text sound s.source (there_at text k s.source at)).children s refl ∙ ap (map (child text s)) (split (instances_of s.source) j x chosen) ∙ map-append (child text s) prefix (x ∷ back))
        ∙ flat_map-append each (map (child text s) prefix) (child text s x ∷ map (child text s) back)

    none_before : (y : Scope) → Contains before y → 64 ≤ length y.path → ⊥
    none_before y has low =
        let c = from_flat each (map (child text s) prefix) y has in
        let i = from_map (child text s) prefix c.0 c.1 in
        let t = taken (instances_of s.source) j i.0 i.1 in
        let g = got (instances_of s.source) t.0 i.0 i.0 t.2 in
        let place : slice_index_or (slice_index_or (called text) k []) t.0 0 ≡ callee_place text i.0 =
        ap (λ l. slice_index_or l t.0 0) ((of_designs.instances text sound s.source (there_at text k s.source at)).called k at) ∙ get_or-map (callee_place text) (instances_of s.source) t.0 i.0 0 g.0 ∙ ap (callee_place text) g.1 in
        let tall = low_is_tall n (child text s i.0) (callee_place text i.0) ((of_designs.instances text sound s.source (there_at text k s.source at)).occurs i.0 (there_at (instances_of s.source) t.0 i.0 t.2))
        (omega (arith, long, length-append s.path (i.0.name ∷ []))) y (subst (λ (z : Scope). Contains (z ∷ below n text z) y) (sym i.2) c.2) low in
        true≢false (sym tall ∙ sym (ap (is_tall (called text) n) place) ∙ first t.0 t.1)

    pub leads_on : (r : Scope) → IsFirst IsTooLow (child text s x ∷ below n text (child text s x)) r → IsFirst IsTooLow (s ∷ below (suc n) text s) r
    leads_on r is = record {
      before = s ∷ (before ++ is.before);
      after = is.after ++ after;
      occurs = ap (λ l. s ∷ l) (parts ∙ ap (λ l. before ++ (l ++ after)) is.occurs ∙ ap (λ l. before ++ l) (append_assoc is.before (r ∷ is.after) after) ∙ sym (append_assoc before is.before (r ∷ (is.after ++ after))));
      holds = is.holds;
      earlier = λ y has low. by y low (contains_cases s (before ++ is.before) y has);
    }
      where
        in_parts : (y : Scope) → 64 ≤ length y.path → Contains before y ⊎ Contains is.before y → ⊥
        in_parts y low (inl h) = none_before y h low
        in_parts y low (inr h) = is.earlier y h low

        by : (y : Scope) → 64 ≤ length y.path → (s ≡ y) ⊎ Contains (before ++ is.before) y → ⊥
        by y low (inl same) = omega (arith, long, low, ap (λ (z : Scope). length z.path) same)
        by y low (inr more) = in_parts y low (Contains-append_cases before is.before y more)

  pub shallow_where_low : (top : ℕ) (t : PlainModule) → slice_get text top ≡ Some t → is_tall (called text) 64 top ≡ false → IsAbsentInDesign (design_on text t) Depth
  shallow_where_low top t at low = all_from (λ s. length s.path < 64) (instances (design_on text t)) (λ y has. from y has (less_or_past (length y.path) 64))
    where
      from : (y : Scope) → Contains (instances (design_on text t)) y → (length y.path < 64) ⊎ (64 ≤ length y.path) → length y.path < 64
      from y has (inl h) = h
      from y has (inr h) =
          absurd (true≢false (sym (low_is_tall 64 (root (design_on text t)) top at (omega arith) y (contains_there (root (design_on text t)) (instances (design_on text t)) y has) h) ∙ low))

-- the way down to a level: a scope there whose first too low instance is the first of all
pub record IsOnWay (text : List PlainModule) (top level place : ℕ) (name : List ℕ) : Type 0 where
  pub head : PlainModule
  pub from : slice_get text top ≡ Some head
  pub scope : Scope
  pub left : ℕ
  pub whole : level + left ≡ 64
  pub at : slice_get text place ≡ Some scope.source
  pub long : length scope.path ≡ level
  pub tall : is_tall (called text) left place ≡ true
  pub named : name ≡ path_text scope.path
  pub first : (r : Scope) → IsFirst IsTooLow (scope ∷ below left text scope) r → IsFirst IsTooLow (root (design_on text head) ∷ instances (design_on text head)) r

pub way_starts : (text : List PlainModule) (top : ℕ) → top < length text → is_tall (called text) 64 top ≡ true → (name : List ℕ) → name ≡ [] → IsOnWay text top 0 top name
way_starts text top lt tall name empty = let t = some_at text top lt in record {
  head = t.0;
  from = t.1;
  scope = root (design_on text t.0);
  left = 64;
  whole = omega arith;
  at = t.1;
  long = refl;
  tall = tall;
  named = empty;
  first = λ r is. is;
}

module _ (of_designs : DesignLaws) where
  text_more : (p : Path) (level : ℕ) (n : List ℕ) → length p ≡ level → (path_text p ++ (if level == 0 then [] else codes ".")) ++ n ≡ path_text (path_to p n)
  text_more [] level n long = ap (λ k. ([] ++ (if k == 0 then [] else codes ".")) ++ n) (sym long)
  text_more (a ∷ p) level n long = ap (λ (b : Bool). (path_text (a ∷ p) ++ (if b then [] else codes ".")) ++ n) other ∙ of_designs.paths_grow a p n
    where
      other : (level == 0) ≡ false
      other = grind (arith, long)

some_is : {A : Type 0} (o : Option A) (x : A) (P : A → Type 0) → o ≡ Some x → IfSome o P → P x
some_is o x P e h = subst (λ q. IfSome q P) e h

module _ (of_designs : DesignLaws) where
  pub way_goes : (text : List PlainModule) → IsSound text → (top level place : ℕ) (name : List ℕ) → IsOnWay text top level place name → (m : PlainModule) → slice_get text place ≡ Some m → level < 64
      → (next : ℕ) → next < length (slice_index_or (called text) place []) → is_tall (called text) (63 - level) (slice_index_or (slice_index_or (called text) place []) next 0) ≡ true
      → ((i : ℕ) → i < next → is_tall (called text) (63 - level) (slice_index_or (slice_index_or (called text) place []) i 0) ≡ false)
      → (dotted now : List ℕ) → dotted ≡ name ++ (if level == 0 then [] else codes ".") → IfSome (slice_get (instances_of m) next) (λ (i : Instance). now ≡ dotted ++ i.name)
      → IsOnWay text top (level + 1) (slice_index_or (slice_index_or (called text) place []) next 0) now
  way_goes text sound top level place name way m here small next within tall before dotted now dot more =
      let s = way.scope in
      let n : ℕ = 63 - level in
      let left : way.left ≡ suc n = omega (arith, way.whole, small) in
      let long : length s.path + suc n ≡ 64 = omega (arith, way.long, small) in
      let there = there_at text place s.source way.at in
      let list = (of_designs.instances text sound s.source there).called place way.at in
      let lt : next < length (instances_of s.source) = omega (arith, within, ap length list, length-map (instances_of s.source) (callee_place text)) in
      let x = some_at (instances_of s.source) next lt in
      let same : Some m ≡ Some s.source = sym here ∙ way.at in
      let is : m ≡ s.source = grind (arith, same) in
      let g = got (instances_of s.source) next x.0 x.0 x.1 in
      let to : slice_index_or (slice_index_or (called text) place []) next 0 ≡ callee_place text x.0 = ap (λ l. slice_index_or l next 0) list ∙ get_or-map (callee_place text) (instances_of s.source) next x.0 0 g.0 ∙ ap (callee_place text) g.1 in
      record {
        head = way.head;
        from = way.from;
        scope = child text s x.0;
        left = n;
        whole = omega (arith, small);
        at = ap (slice_get text) to ∙ (of_designs.instances text sound s.source there).occurs x.0 (there_at (instances_of s.source) next x.0 x.1);
        long = omega (arith, way.long, length-append s.path (x.0.name ∷ []));
        tall = tall;
        named = some_is (slice_get (instances_of m) next) x.0 (λ (i : Instance). now ≡ dotted ++ i.name) (ap (λ (y : PlainModule). slice_get (instances_of y) next) is ∙ x.1) more
            ∙ ap (λ l. l ++ x.0.name) (dot ∙ ap (λ l. l ++ (if level == 0 then [] else codes ".")) way.named) ∙ text_more of_designs s.path level x.0.name way.long;
        first = λ r f. way.first r (subst (λ k. IsFirst IsTooLow (s ∷ below k text s) r) (sym left) (leads_on of_designs text sound n s place way.at long next x.0 x.1 before r f));
      }

  -- one step of the way, by the heights
  pub way_steps : (text : List PlainModule) → IsSound text → (heights : List ℕ) → ((k n : ℕ) → n ≤ 64 → nat_le n (slice_index_or heights k 0) ≡ is_tall (called text) n k)
      → (top level place : ℕ) (name : List ℕ) → IsOnWay text top level place name → (m : PlainModule) → slice_get text place ≡ Some m → level < 64
      → (list : List ℕ) → slice_index_or (called text) place [] ≡ list → (next : ℕ) → next < length list → nat_le (63 - level) (slice_index_or heights (slice_index_or list next 0) 0) ≡ true
      → ((i : ℕ) → i < next → nat_le (63 - level) (slice_index_or heights (slice_index_or list i 0) 0) ≡ false)
      → (dotted now : List ℕ) → dotted ≡ name ++ (if level == 0 then [] else codes ".") → IfSome (slice_get (instances_of m) next) (λ (i : Instance). now ≡ dotted ++ i.name)
      → (to : ℕ) → to ≡ slice_index_or list next 0 → IsOnWay text top (level + 1) to now
  way_steps text sound heights tall top level place name way m here small list same next within enough before dotted now dot more to is =
      let few : 63 - level ≤ 64 = omega arith in
      let at : (i : ℕ) → nat_le (63 - level) (slice_index_or heights (slice_index_or list i 0) 0) ≡ is_tall (called text) (63 - level) (slice_index_or (slice_index_or (called text) place []) i 0) =
      λ i. tall (slice_index_or list i 0) (63 - level) few ∙ ap (λ l. is_tall (called text) (63 - level) (slice_index_or l i 0)) (sym same) in
      subst (λ p. IsOnWay text top (level + 1) p now) (ap (λ l. slice_index_or l next 0) same ∙ sym is)
      (way_goes text sound top level place name way m here small next (subst (λ l. next < length l) (sym same) within) (sym (at next) ∙ enough) (λ i lt. sym (at i) ∙ before i lt) dotted now dot more)

any_same : (p q : ℕ → Bool) → ((k : ℕ) → p k ≡ q k) → (xs : List ℕ) → list_any p xs ≡ list_any q xs
any_same p q same [] = refl
any_same p q same (x ∷ xs) = ap (λ b. b || list_any p xs) (same x) ∙ ap (λ b. q x || b) (any_same p q same xs)

pub some_goes_on : (text : List PlainModule) (heights : List ℕ) → ((k n : ℕ) → n ≤ 64 → nat_le n (slice_index_or heights k 0) ≡ is_tall (called text) n k)
    → (top level place : ℕ) (name : List ℕ) → IsOnWay text top level place name → level < 64 → (list : List ℕ) → slice_index_or (called text) place [] ≡ list → list_any (λ k. nat_le (63 - level) (slice_index_or heights k 0)) list ≡ true
some_goes_on text heights tall top level place name way small list same =
    let left : way.left ≡ suc (63 - level) = omega (arith, way.whole, small) in
    any_same (λ k. nat_le (63 - level) (slice_index_or heights k 0)) (is_tall (called text) (63 - level)) (λ k. tall k (63 - level) (omega arith)) list
    ∙ ap (list_any (is_tall (called text) (63 - level))) (sym same) ∙ sym (ap (λ n. is_tall (called text) n place) left) ∙ way.tall

pub occurs_in : (callees : List (Vec ℕ Global)) (place : ℕ) (list : Vec ℕ Global) (items : List ℕ) (lists : List (List ℕ)) → map (λ list. list.items) callees ≡ lists → place < length callees → list ≡ get_or callees place list → slice_index_or lists place [] ≡ items
    → (next to : ℕ) → next < length items → to ≡ get_or list.items next to → to ≡ slice_index_or items next 0
occurs_in callees place list items lists same lt is here next to within at =
    let one : list.items ≡ items = sym (list_here callees place list list.items lists same lt is refl) ∙ here in
    at ∙ ap (λ l. get_or l next to) one ∙ get_or_default items next to 0 within

pub way_there : (text : List PlainModule) (top level place : ℕ) (name : List ℕ) → IsOnWay text top level place name → place < length text
way_there text top level place name way = (got text place way.scope.source way.scope.source way.at).0

module _ (of_designs : DesignLaws) where
  first_after : {A : Type 0} (P : A → Type 0) (x : A) (xs : List A) (r : A) → IsFirst P (x ∷ xs) r → (P x → ⊥) → IsFirst P xs r
  first_after P x xs r is not = by is.before is.after is.occurs is.earlier
    where
      by : (ys zs : List _) → x ∷ xs ≡ ys ++ r ∷ zs → ((y : _) → Contains ys y → P y → ⊥) → IsFirst P xs r
      by [] zs e earlier = absurd (not (subst P (sym (ap (λ l. get_or l 0 r) e)) is.holds))
      by (y ∷ ys) zs e earlier = record { before = ys; after = zs; occurs = ap (drop 1) e; holds = is.holds; earlier = λ z has. earlier z (contains_there y ys z has) }

  pub way_ends : (text : List PlainModule) (top level place : ℕ) (path name : List ℕ) → IsOnWay text top level place path → level ≡ 64 → name ≡ path → (t : PlainModule) → slice_get text top ≡ Some t → IsReportedOfDesign (design_on text t) Depth name
  way_ends text top level place path name way end copy t at =
      let same : Some way.head ≡ Some t = sym way.from ∙ at in
      let is : way.head ≡ t = grind (arith, same) in
      let low : 64 ≤ length way.scope.path = omega (arith, way.long, end) in
      let here : IsFirst IsTooLow (way.scope ∷ below way.left text way.scope) way.scope = record { before = []; after = below way.left text way.scope; occurs = refl; holds = low; earlier = λ y has p. none_in_nil y has } in
      subst (λ (m : PlainModule). IsReportedOfDesign (design_on text m) Depth name) is
      (way.scope, first_after IsTooLow (root (design_on text way.head)) (instances (design_on text way.head)) way.scope (way.first way.scope here) (λ (p : 64 ≤ 0). omega (arith, p)), copy ∙ way.named)
