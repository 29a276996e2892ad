-- Scopes placed one after another in elaboration order, each with its children.
use Rattle.std.proofs.Common.{◌≡◌, ◌⊎◌, ◌+◌, ◌-◌, ◌^◌, ◌<◌, ◌≤◌, ◌++◌, ◌&&◌, ℕ, Vec, Global, zero, suc, Bool, false, not, List, [], ◌∷◌, map, length, take, drop, get_or, Contains, Option, Some, None, refl, sym, ap, ap₂, ◌∙◌, subst, inl, inr, arith, append_assoc, append-nil, length-append}
use Rattle.std.specs.Prelude.{slice_get, slice_set, is_some, min, sum_by}
use Rattle.std.specs.List.{AllZip, flat_map}
use Rattle.std.proofs.lemmas.List.{length-map, drop_all, take_all}
use Rattle.std.proofs.lemmas.List.Elements.{All-contains}
use Rattle.std.proofs.lemmas.Option.{slice_get_read}
use Rattle.bb_ast.specs.Syntax.{PlainModule}
use Rattle.bb_names.specs.Nets.{nets_of, is_empty}
use Rattle.bb_names.specs.Ranges.{range_width}
use Rattle.bb_blast.specs.declared.placed.Placed.{Placed}
use Rattle.bb_elab.specs.declared.scopes.Placing.{Placing}
use Rattle.bb_hier.specs.declared.summary.ModuleSummary.{ModuleSummary}
use Rattle.bb_design.specs.Inside.Callees.{callees, callee_place, source_of, child, called as called_lists}
use Rattle.bb_design.specs.Hierarchy.{Design, Instance, Path, Scope, root, path_to, instances_of, children, below, instances, scopes, is_top, is_box}
use Rattle.bb_design.specs.NetBits.{scope_bits}
use Rattle.bb_elab.specs.Inside.Placings.{bits_before, IsAdded, with_children, AreSummarized, MayBePlaced, IsNext, IsPlacedNext}
use Rattle.bb_blast.specs.Inside.Placements.{IsScopeAt, IsInstanceAt, IsChildAt, IsPlacedAt, ArePlaced}
use Rattle.bb_design.specs.Refusals.{design_on}
use Rattle.bb_hier.specs.Inside.ModuleSummaries.{IsModuleSummary}
use Rattle.bb_lemmas.proofs.Places.{there_at, got, list_here, some_at, drop_first, drop_at, take_at, get_after, set_after, get_set_other, some_same, map_at, in_prefix}
use Rattle.bb_lemmas.proofs.Zips.{zip_append, zip_at}
use Rattle.bb_lemmas.proofs.Members.{contains_cases}
use Rattle.bb_lemmas.proofs.Orders.{same_or_less, less_or_not}
use Rattle.std.proofs.lemmas.Slice.Zip.{AllZip-long}
use Rattle.bb_blast.specs.declared.placed.Instance as placed
use Rattle.bb_lemmas.proofs.FlatPlaces.{flat_longer, flat_fits}
use Rattle.bb_design.specs.Laws.DesignLaws.{DesignLaws}

cut_off : (a b : ℕ) → a ≤ b → min a b ≡ a
cut_off a b le = omega arith

-- what is next, and what there is room for
module _ (of_designs : DesignLaws) (d : Design) (called : List (List ℕ)) (module_summaries : List ModuleSummary) (start : Placing) (place : ℕ) (instance : Option placed.Instance) (levels : ℕ) (s : Scope) (rest : List Scope)
    (next : IsNext d called module_summaries start place instance levels s rest) where
  abbrev n : ℕ
  n = length start.scopes.items

  first : (n < length (scopes d)) × (slice_get (scopes d) n ≡ Some s) × (drop (n + 1) (scopes d) ≡ below levels d.text s ++ rest)
  first = drop_first (scopes d) n s (below levels d.text s ++ rest) next.after

  pub here : IsScopeAt d n s
  here = first.1

  in_text : Contains d.text s.source
  in_text = there_at d.text place s.source next.source

  pub some_levels : 1 ≤ levels
  some_levels = by (contains_cases (root d) (instances d) s (there_at (scopes d) n s here))
    where
      by : (root d ≡ s) ⊎ Contains (instances d) s → 1 ≤ levels
      by (inl same) = omega (arith, next.long, ap (λ (z : Scope). length z.path) same)
      by (inr has) = let low = All-contains (λ (z : Scope). length z.path < 64) (instances d) s next.may.shallow has in omega (arith, next.long, low)

  pub place_there : place < length module_summaries
  place_there = let g = got d.text place s.source s.source next.source in omega (arith, g.0, AllZip-long IsModuleSummary d.text module_summaries next.summarized.each)

  pub list_there : place < length called
  list_there = let g = got d.text place s.source s.source next.source in omega (arith, g.0, ap length next.summarized.lists, length-map d.text (callees d.text))

  pub summarized_here : (summary : ModuleSummary) → summary ≡ get_or module_summaries place summary → IsModuleSummary s.source summary
  summarized_here summary is = zip_at IsModuleSummary d.text module_summaries place s.source summary next.summarized.each next.source (slice_get_read module_summaries (length module_summaries) place summary refl place_there is)

  pub fits : (summary : ModuleSummary) → IsModuleSummary s.source summary → (summary.bits ≡ length (scope_bits s)) × (start.bits + summary.bits < 2 ^ 32)
  fits summary is =
      let room = flat_fits scope_bits (scopes d) n s here in
      let long = of_designs.net_bits s.path (nets_of s.source) in
      let small = next.may.small.0 in
      let same : summary.bits ≡ length (scope_bits s) = is.bits ∙ cut_off (sum_by (λ net. range_width net.range) (nets_of s.source)) (2 ^ 64 - 1) (omega (arith, room, long, small)) ∙ sym long in
      (same, omega (arith, same, room, small, next.bits))

-- the scopes of the first so many instances in a scope are placed, with all below them
pub record IsPlacing (d : Design) (start now : Placing) (place : ℕ) (instance : Option placed.Instance) (levels : ℕ) (s : Scope) (rest : List Scope) (inside : List ℕ) (k : ℕ) : Type 0 where
  pub own : Placed
  pub more : List Placed
  pub grows : now.scopes.items ≡ start.scopes.items ++ own ∷ more
  pub source : own.module ≡ place
  pub is : own.instance ≡ instance
  pub boxed : own.boxed ≡ is_box s
  pub begins : own.first ≡ start.bits
  pub within : length now.scopes.items ≤ length (scopes d)
  pub after : drop (length now.scopes.items) (scopes d) ≡ flat_map (λ c. c ∷ below (levels - 1) d.text c) (map (child d.text s) (drop k (instances_of s.source))) ++ rest
  pub bits : now.bits ≡ bits_before d (length now.scopes.items)
  pub children : AllZip (IsChildAt d s) inside (take k (instances_of s.source))
  pub each : (j : ℕ) (r : Scope) (q : Placed) → length start.scopes.items < j → IsScopeAt d j r → slice_get now.scopes.items j ≡ Some q → IsPlacedAt d j r q

path_down : (p : Path) (n : List ℕ) → is_top (path_to p n) ≡ false
path_down [] n = refl
path_down (m ∷ p) n = refl

box_reported : (d : Design) (k : ℕ) (s : Scope) (instance : Option placed.Instance) (empty : Bool) → IsInstanceAt d k s instance → empty ≡ is_empty s.source → (is_some instance && empty) ≡ is_box s
box_reported d k s None empty at is = ap (λ p. not (is_top p) && is_empty s.source) (sym at.1)
box_reported d k s (Some i) empty at is = is ∙ ap (λ b. not b && is_empty s.source) (sym (ap is_top at.3 ∙ path_down at.1.path i.name))

module _ (of_designs : DesignLaws) (d : Design) (called : List (List ℕ)) (module_summaries : List ModuleSummary) (start : Placing) (place : ℕ) (instance : Option placed.Instance) (levels : ℕ) (s : Scope) (rest : List Scope)
    (next : IsNext d called module_summaries start place instance levels s rest) where
  abbrev m : ℕ
  m = length start.scopes.items

  abbrev each_below : Scope → List Scope
  each_below c = c ∷ below (levels - 1) d.text c

  abbrev left_from : ℕ → List Scope
  left_from k = flat_map each_below (map (child d.text s) (drop k (instances_of s.source))) ++ rest

  source_here : Contains d.text s.source
  source_here = there_at d.text place s.source next.source

  one_level : (l : ℕ) → 1 ≤ l → below l d.text s ≡ flat_map (λ c. c ∷ below (l - 1) d.text c) (children d.text s)
  unfolding below
  one_level zero some = absurd (omega (arith, some))
  one_level (suc l) some = ap (λ j. flat_map (λ c. c ∷ below j d.text c) (children d.text s)) (omega arith)

  below_here : below levels d.text s ≡ flat_map each_below (map (child d.text s) (instances_of s.source))
  below_here = one_level levels (some_levels of_designs d called module_summaries start place instance levels s rest next) ∙ ap (flat_map each_below) ((of_designs.instances d.text next.may.faultless s.source source_here).children s refl)

  one_longer : (xs : List Placed) (p : Placed) → length (xs ++ p ∷ []) ≡ length xs + 1
  one_longer xs p = length-append xs (p ∷ [])

  pub placing_starts : (now : Placing) (summary : ModuleSummary) (p : Placed) → IsModuleSummary s.source summary → now.scopes.items ≡ start.scopes.items ++ p ∷ [] → now.bits ≡ start.bits + summary.bits → IsAdded summary start.bits place instance p
      → (inside : List ℕ) → inside ≡ [] → IsPlacing d start now place instance levels s rest inside 0
  placing_starts now summary p is grows bits added inside none =
      let f = first of_designs d called module_summaries start place instance levels s rest next in
      let long : length now.scopes.items ≡ m + 1 = ap length grows ∙ one_longer start.scopes.items p in
      let at = here of_designs d called module_summaries start place instance levels s rest next in
      let width = (fits of_designs d called module_summaries start place instance levels s rest next summary is).0 in
      record {
        own = p;
        more = [];
        grows = grows;
        source = added.source;
        is = added.is;
        boxed = added.boxed ∙ box_reported d m s instance summary.empty next.is is.empty;
        begins = added.first;
        within = omega (arith, long, f.0);
        after = ap (λ k. drop k (scopes d)) long ∙ f.2 ∙ ap (λ l. l ++ rest) below_here;
        bits = bits ∙ ap₂ ◌+◌ next.bits width ∙ sym (flat_longer scope_bits (scopes d) m s at) ∙ ap (bits_before d) (sym long);
        children = subst (λ l. AllZip (IsChildAt d s) l []) (sym none) tt;
        each = λ j r q lt scope got_q. absurd (omega (arith, lt, long, (got now.scopes.items j q q got_q).0));
      }

  module _ (now : Placing) (inside : List ℕ) (k : ℕ) (placing : IsPlacing d start now place instance levels s rest inside k) (i : Instance) (at : slice_get (instances_of s.source) k ≡ Some i) where
    longer : length now.scopes.items ≡ m + suc (length placing.more)
    longer = ap length placing.grows ∙ length-append start.scopes.items (placing.own ∷ placing.more)

    in_scope : Contains (instances_of s.source) i
    in_scope = there_at (instances_of s.source) k i at

    after_now : drop (length now.scopes.items) (scopes d) ≡ each_below (child d.text s i) ++ left_from (k + 1)
    after_now = placing.after ∙ ap (λ l. flat_map each_below (map (child d.text s) l) ++ rest) (drop_at (instances_of s.source) k i at)
        ∙ append_assoc (each_below (child d.text s i)) (flat_map each_below (map (child d.text s) (drop (k + 1) (instances_of s.source)))) rest

    child_here : IsScopeAt d (length now.scopes.items) (child d.text s i)
    child_here = (drop_first (scopes d) (length now.scopes.items) (child d.text s i) (below (levels - 1) d.text (child d.text s i) ++ left_from (k + 1)) after_now).1

    pub next_child : (number target : ℕ) (name : List ℕ) → number ≡ m → target ≡ callee_place d.text i → name ≡ i.name
        → IsNext d called module_summaries now target (Some (record { scope = number; name = name })) (levels - 1) (child d.text s i) (left_from (k + 1))
    next_child number target name is to named = record {
      may = next.may;
      summarized = next.summarized;
      after = after_now;
      bits = placing.bits;
      source = ap (slice_get d.text) to ∙ (of_designs.instances d.text next.may.faultless s.source source_here).occurs i in_scope;
      is = (omega (arith, is, longer), s, ap (slice_get (scopes d)) is ∙ here of_designs d called module_summaries start place instance levels s rest next, ap (path_to s.path) (sym named));
      long = omega (arith, next.long, length-append s.path (i.name ∷ []), some_levels of_designs d called module_summaries start place instance levels s rest next);
    }

    is_child : (number : ℕ) → number ≡ length now.scopes.items → IsChildAt d s number i
    is_child number is = (source_of d.text s.source i, (of_designs.instances d.text next.may.faultless s.source source_here).meant i in_scope, ap (slice_get (scopes d)) is ∙ child_here)

    pub placing_goes : (new : Placing) (number : ℕ) (more : List ℕ) → IsPlacedNext d now new number (left_from (k + 1)) → more ≡ inside ++ number ∷ [] → IsPlacing d start new place instance levels s rest more (k + 1)
    placing_goes new number more done pushed = record {
      own = placing.own;
      more = placing.more ++ done.more;
      grows = done.grows ∙ ap (λ l. l ++ done.more) placing.grows ∙ append_assoc start.scopes.items (placing.own ∷ placing.more) done.more;
      source = placing.source;
      is = placing.is;
      boxed = placing.boxed;
      begins = placing.begins;
      within = done.within;
      after = done.after;
      bits = done.bits;
      children = subst (λ l. AllZip (IsChildAt d s) more l) (sym (take_at (instances_of s.source) k i at))
          (subst (λ l. AllZip (IsChildAt d s) l (take k (instances_of s.source) ++ i ∷ [])) (sym pushed) (zip_append (IsChildAt d s) inside (take k (instances_of s.source)) (number ∷ []) (i ∷ []) placing.children (is_child number done.is, tt)));
      each = λ j r q lt scope got_q. by j r q lt scope got_q (less_or_not j (length now.scopes.items));
    }
      where
        by : (j : ℕ) (r : Scope) (q : Placed) → m < j → IsScopeAt d j r → slice_get new.scopes.items j ≡ Some q → (j < length now.scopes.items) ⊎ (length now.scopes.items ≤ j) → IsPlacedAt d j r q
        by j r q lt scope got_q (inl before) = placing.each j r q lt scope (sym (ap (λ l. slice_get l j) done.grows ∙ in_prefix now.scopes.items done.more j before) ∙ got_q)
        by j r q lt scope got_q (inr after) = done.each j r q after scope got_q

  pub placing_ends : (now new : Placing) (inside : Vec ℕ Global) (k : ℕ) → IsPlacing d start now place instance levels s rest inside.items k → k ≡ length (instances_of s.source)
      → ((p : Placed) → slice_get now.scopes.items m ≡ Some p → new.scopes.items ≡ slice_set now.scopes.items m (with_children inside p)) → new.bits ≡ now.bits → (number : ℕ) → number ≡ m → IsPlacedNext d start new number rest
  placing_ends now new inside k placing whole set bits number is = record {
    is = is;
    more = own ∷ placing.more;
    grows = grows;
    some = omega arith;
    within = omega (arith, placing.within, long);
    after = ap (λ j. drop j (scopes d)) long ∙ placing.after ∙ ap (λ l. flat_map each_below (map (child d.text s) l) ++ rest) (drop_all k (instances_of s.source) (omega (arith, whole)));
    bits = bits ∙ placing.bits ∙ ap (bits_before d) (sym long);
    each = λ j r q le scope got_q. by j r q scope got_q (same_or_less m j le);
  }
    where
      own : Placed
      own = with_children inside placing.own

      grows : new.scopes.items ≡ start.scopes.items ++ own ∷ placing.more
      grows = set placing.own (ap (λ l. slice_get l m) placing.grows ∙ get_after start.scopes.items placing.own placing.more)
          ∙ ap (λ l. slice_set l m own) placing.grows ∙ set_after start.scopes.items placing.own own placing.more

      long : length new.scopes.items ≡ length now.scopes.items
      long = ap length grows ∙ length-append start.scopes.items (own ∷ placing.more) ∙ sym (ap length placing.grows ∙ length-append start.scopes.items (placing.own ∷ placing.more))

      at_own : (r : Scope) → s ≡ r → IsPlacedAt d m r own
      at_own r same = subst (λ z. IsPlacedAt d m z own) same (record {
        source = ap (slice_get d.text) placing.source ∙ next.source;
        instance = subst (IsInstanceAt d m s) (sym placing.is) next.is;
        boxed = placing.boxed;
        first = placing.begins ∙ next.bits;
        children = subst (AllZip (IsChildAt d s) inside.items) (take_all k (instances_of s.source) (omega (arith, whole))) placing.children;
      })

      by : (j : ℕ) (r : Scope) (q : Placed) → IsScopeAt d j r → slice_get new.scopes.items j ≡ Some q → (j ≡ m) ⊎ (m < j) → IsPlacedAt d j r q
      by j r q scope got_q (inl same) =
          let is_own : own ≡ q = some_same own q (sym (get_after start.scopes.items own placing.more) ∙ ap (λ l. slice_get l m) (sym grows) ∙ ap (slice_get new.scopes.items) (sym same) ∙ got_q) in
          let is_s : s ≡ r = some_same s r (sym (here of_designs d called module_summaries start place instance levels s rest next) ∙ ap (slice_get (scopes d)) (sym same) ∙ scope) in
          subst (λ z. IsPlacedAt d z r q) (sym same) (subst (IsPlacedAt d m r) is_own (at_own r is_s))
      by j r q scope got_q (inr after) =
          placing.each j r q after scope (ap (λ l. slice_get l j) placing.grows ∙ get_set_other start.scopes.items placing.own own placing.more j (λ e. omega (arith, e, after)) ∙ ap (λ l. slice_get l j) (sym grows) ∙ got_q)

-- the instances of a scope with their modules, as they are in the lists
module _ (of_designs : DesignLaws) (d : Design) (lists : List (Vec ℕ Global)) (module_summaries : List ModuleSummary) (start : Placing) (place : ℕ) (instance : Option placed.Instance) (levels : ℕ) (s : Scope) (rest : List Scope)
    (next : IsNext d (map (λ list. list.items) lists) module_summaries start place instance levels s rest) (list : Vec ℕ Global) (is : list ≡ get_or lists place list) where
  pub targets_here : list.items ≡ map (callee_place d.text) (instances_of s.source)
  targets_here =
      let there = there_at d.text place s.source next.source in
      let lt : place < length lists = omega (arith, list_there of_designs d (map (λ list. list.items) lists) module_summaries start place instance levels s rest next, length-map lists (λ list. list.items)) in
      sym (list_here lists place list list.items (called_lists d.text) next.summarized.lists lt is refl) ∙ (of_designs.instances d.text next.may.faultless s.source there).called place next.source

  pub as_many : length list.items ≡ length (instances_of s.source)
  as_many = ap length targets_here ∙ length-map (instances_of s.source) (callee_place d.text)

  pub chosen : (summary : ModuleSummary) → IsModuleSummary s.source summary → (k : ℕ) → k < length list.items → (target : ℕ) → target ≡ get_or list.items k target → (name copy : List ℕ) → name ≡ get_or summary.names.items k name → copy ≡ name
      → (i : Instance) × (slice_get (instances_of s.source) k ≡ Some i) × (target ≡ callee_place d.text i) × (copy ≡ i.name)
  chosen summary summarized k lt target at name copy named copied =
      let i = some_at (instances_of s.source) k (omega (arith, lt, as_many)) in
      (i.0, i.1, map_at (callee_place d.text) (instances_of s.source) list.items k i.0 target i.1 targets_here at, copied ∙ map_at (λ (j : Instance). j.name) (instances_of s.source) summary.names.items k i.0 name i.1 summarized.names named)

  pub named_there : (summary : ModuleSummary) → IsModuleSummary s.source summary → (k : ℕ) → k < length list.items → k < length summary.names.items
  named_there summary summarized k lt = omega (arith, lt, as_many, ap length summarized.names, length-map (instances_of s.source) (λ (j : Instance). j.name))

-- the top and all below it

pub top_next : (text : List PlainModule) (called : List (List ℕ)) (module_summaries : List ModuleSummary) (top : ℕ) (t : PlainModule) (placing : Placing) → slice_get text top ≡ Some t → MayBePlaced (design_on text t) → AreSummarized text called module_summaries
    → placing.scopes.items ≡ [] → placing.bits ≡ 0 → IsNext (design_on text t) called module_summaries placing top None 64 (root (design_on text t)) []
top_next text called module_summaries top t placing at may summarized empty bits = record {
  may = may;
  summarized = summarized;
  after = ap (λ l. drop (length l) (scopes (design_on text t))) empty ∙ sym (append-nil (scopes (design_on text t)));
  bits = bits ∙ sym (ap (λ l. bits_before (design_on text t) (length l)) empty);
  source = at;
  is = (ap length empty, refl);
  long = omega arith;
}

pub all_placed : (d : Design) (old new : Placing) (number : ℕ) → old.scopes.items ≡ [] → IsPlacedNext d old new number [] → ArePlaced d new.scopes.items
all_placed d old new number empty done = record {
  count = at_end (scopes d) (length new.scopes.items) done.within done.after;
  each = λ k s p scope at. done.each k s p (omega (arith, ap length empty)) scope at;
}
  where
    at_end : {A : Type 0} (xs : List A) (k : ℕ) → k ≤ length xs → drop k xs ≡ [] → k ≡ length xs
    at_end [] zero le e = refl
    at_end [] (suc k) le e = absurd (omega (arith, le))
    at_end (x ∷ xs) zero le e = cc
    at_end (x ∷ xs) (suc k) le e = ap suc (at_end xs k (omega (arith, le)) e)
