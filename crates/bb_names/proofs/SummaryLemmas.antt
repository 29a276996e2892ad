-- What declarations of a name say together, with one declaration more.
use Rattle.std.proofs.Common.{◌≡◌, ℕ, Bool, true, false, true≢false, cond, not, ◌||◌, ◌&&◌, List, [], ◌∷◌, ◌++◌, Option, None, Some, is_some, refl, sym, ap, ◌∙◌, subst, arith, if◌then◌else◌, map, filter, append-nil}
use Rattle.std.proofs.lemmas.List.Elements.{filter-append}
use Rattle.std.proofs.lemmas.List.{map-append}
use Rattle.std.proofs.lemmas.Slice.Eq.{bytes_eq-Decides}
use Rattle.std.specs.List.{find, list_any}
use Rattle.std.specs.Map.{lookup}
use Rattle.std.specs.Option.{option_or, option_and_then, option_map_or}
use Rattle.bb_bits.specs.Names.{same_name}
use Rattle.bb_names.specs.declared.summary.DeclaredAs.{DeclaredAs}
use Rattle.bb_names.specs.declared.summary.Ranges.{Ranges}
use Rattle.bb_names.specs.declared.summary.Ranges.TheVariants.{NoRange}
use Rattle.bb_names.specs.declared.summary.Summary.{Summary}
use Rattle.bb_names.specs.Declarations.{Declaration}
use Rattle.bb_names.specs.Faults.{declares_supply}
use Rattle.bb_names.specs.Inside.Summaries.{named, Reports, plain_ranges, IsSummary, Describes}
use Rattle.bb_names.proofs.Searches.{find-other, find-this, any-push, any-other, any-this, found-any, first_said-push}

pub same_equal : (a b : List ℕ) → same_name a b ≡ true → a ≡ b
same_equal a b = (bytes_eq-Decides a b).0

pub same_self : (a : List ℕ) → same_name a a ≡ true
same_self a = (bytes_eq-Decides a a).1 refl

and-false : (a b : Bool) → a ≡ false → (a && b) ≡ false
and-false a b e = ap (λ c. c && b) e

-- a declaration of another name says nothing of this one
plain-other : (n : List ℕ) (all : List Declaration) (d : Declaration) → same_name d.name n ≡ false → plain_ranges n (all ++ d ∷ []) ≡ plain_ranges n all
plain-other n all d miss = ap (map (λ x. x.range)) (filter-append (λ x. same_name x.name n && not (declares_supply x)) all (d ∷ []) ∙ rest)
  where
    rest : filter (λ x. same_name x.name n && not (declares_supply x)) all ++ filter (λ x. same_name x.name n && not (declares_supply x)) (d ∷ []) ≡ filter (λ x. same_name x.name n && not (declares_supply x)) all
    rest = ap (λ b. filter (λ x. same_name x.name n && not (declares_supply x)) all ++ cond (b && not (declares_supply d)) (d ∷ []) []) miss ∙ append-nil (filter (λ x. same_name x.name n && not (declares_supply x)) all)

pub summary-other : (n : List ℕ) (all : List Declaration) (s : Option Summary) (d : Declaration) → same_name d.name n ≡ false → IsSummary n all s → IsSummary n (all ++ d ∷ []) s
summary-other n all s d miss h = record {
  declared = h.declared ∙ sym (any-other (λ x. same_name x.name n) all d miss);
  range = h.range ∙ sym (ap (option_and_then (λ x. x.range)) (find-other (λ x. same_name x.name n) all d miss));
  instance = h.instance ∙ sym (ap (λ o. option_map_or (λ x. x.instance) o false) (find-other (λ x. same_name x.name n) all d miss));
  dir = h.dir ∙ sym (ap (option_and_then (λ x. x.dir)) (find-other (λ x. same_name x.name n && is_some x.dir) all d (and-false _ (is_some d.dir) miss)));
  kind = h.kind ∙ sym (ap (option_and_then (λ x. x.kind)) (find-other (λ x. same_name x.name n && is_some x.kind) all d (and-false _ (is_some d.kind) miss)));
  instances = h.instances ∙ sym (any-other (λ x. same_name x.name n && x.instance) all d (and-false _ d.instance miss));
  ranges = subst (Reports (option_map_or (λ x. x.ranges) s NoRange)) (sym (plain-other n all d miss)) h.ranges;
}

-- a declaration of this name
first-range : (n : List ℕ) (all : List Declaration) (d : Declaration) (o : Option Declaration) → find (λ x. same_name x.name n) all ≡ o → same_name d.name n ≡ true
    → find (λ x. same_name x.name n) (all ++ d ∷ []) ≡ option_or o (Some d)
first-range n all d o e hit = find-this (λ x. same_name x.name n) all d hit ∙ ap (λ z. option_or z (Some d)) e

plain-this : (n : List ℕ) (all : List Declaration) (d : Declaration) → same_name d.name n ≡ true
    → plain_ranges n (all ++ d ∷ []) ≡ plain_ranges n all ++ (if declares_supply d then [] else d.range ∷ [])
plain-this n all d hit =
    ap (map (λ x. x.range)) (filter-append (λ x. same_name x.name n && not (declares_supply x)) all (d ∷ []))
    ∙ map-append (λ x. x.range) (filter (λ x. same_name x.name n && not (declares_supply x)) all) (filter (λ x. same_name x.name n && not (declares_supply x)) (d ∷ []))
    ∙ ap (λ zs. plain_ranges n all ++ zs) (ap (λ b. map (λ x. x.range) (cond (b && not (declares_supply d)) (d ∷ []) [])) hit ∙ by (declares_supply d))
  where
    by : (b : Bool) → map (λ x. x.range) (cond (not b) (d ∷ []) []) ≡ (if b then [] else d.range ∷ [])
    by true = refl
    by false = refl

pub first_none : (n : List ℕ) (all : List Declaration) → false ≡ list_any (λ x. same_name x.name n) all → find (λ x. same_name x.name n) all ≡ None
first_none n all miss = by (find (λ x. same_name x.name n) all) refl
  where
    by : (o : Option Declaration) → find (λ x. same_name x.name n) all ≡ o → find (λ x. same_name x.name n) all ≡ None
    by None e = e
    by (Some x) e = grind (arith, miss, found-any (λ x. same_name x.name n) all, e)

pub joined_first : (n : List ℕ) (all : List Declaration) (d : DeclaredAs) (ranges : Ranges) → Reports ranges (plain_ranges n all ++ (if declares_supply (named n d) then [] else d.range ∷ []))
    → IsSummary n all None → IsSummary n (all ++ named n d ∷ []) (Some (record { range = d.range; instance = d.instance; dir = d.dir; kind = d.kind; instances = d.instance; ranges = ranges }))
joined_first n all d ranges reports h =
    let hit = same_self n in
    let first = first-range n all (named n d) None (first_none n all h.declared) hit in
    record {
      declared = sym (any-this (λ x. same_name x.name n) all (named n d) hit);
      range = sym (ap (option_and_then (λ x. x.range)) first);
      instance = sym (ap (λ o. option_map_or (λ x. x.instance) o false) first);
      dir = sym (first_said-push (λ x. same_name x.name n) (λ x. x.dir) all (named n d) ∙ ap (λ o. option_or o (if same_name n n then d.dir else None)) (sym h.dir) ∙ ap (λ b. if b then d.dir else None) hit);
      kind = sym (first_said-push (λ x. same_name x.name n) (λ x. x.kind) all (named n d) ∙ ap (λ o. option_or o (if same_name n n then d.kind else None)) (sym h.kind) ∙ ap (λ b. if b then d.kind else None) hit);
      instances = sym (any-push (λ x. same_name x.name n && x.instance) all (named n d) ∙ ap (λ b. b || (same_name n n && d.instance)) (sym h.instances) ∙ ap (λ b. b && d.instance) hit);
      ranges = subst (Reports ranges) (sym (plain-this n all (named n d) hit)) reports;
    }

pub first_some : (n : List ℕ) (all : List Declaration) → true ≡ list_any (λ x. same_name x.name n) all → (x : Declaration) × (find (λ x. same_name x.name n) all ≡ Some x)
first_some n all there = by (find (λ x. same_name x.name n) all) refl
  where
    by : (o : Option Declaration) → find (λ x. same_name x.name n) all ≡ o → (x : Declaration) × (find (λ x. same_name x.name n) all ≡ Some x)
    by None e = absurd (grind (arith, there, found-any (λ x. same_name x.name n) all, e))
    by (Some x) e = (x, e)

pub joined_more : (n : List ℕ) (all : List Declaration) (s : Summary) (d : DeclaredAs) (ranges : Ranges) → Reports ranges (plain_ranges n all ++ (if declares_supply (named n d) then [] else d.range ∷ []))
    → IsSummary n all (Some s) → IsSummary n (all ++ named n d ∷ []) (Some (record { range = s.range; instance = s.instance; dir = option_or s.dir d.dir; kind = option_or s.kind d.kind; instances = s.instances || d.instance; ranges = ranges }))
joined_more n all s d ranges reports h =
    let hit = same_self n in
    let some = first_some n all h.declared in
    let first = first-range n all (named n d) (Some some.0) some.1 hit in
    record {
      declared = sym (any-this (λ x. same_name x.name n) all (named n d) hit);
      range = h.range ∙ ap (option_and_then (λ x. x.range)) some.1 ∙ sym (ap (option_and_then (λ x. x.range)) first);
      instance = h.instance ∙ ap (λ o. option_map_or (λ x. x.instance) o false) some.1 ∙ sym (ap (λ o. option_map_or (λ x. x.instance) o false) first);
      dir = sym (first_said-push (λ x. same_name x.name n) (λ x. x.dir) all (named n d) ∙ ap (λ o. option_or o (if same_name n n then d.dir else None)) (sym h.dir) ∙ ap (λ b. option_or s.dir (if b then d.dir else None)) hit);
      kind = sym (first_said-push (λ x. same_name x.name n) (λ x. x.kind) all (named n d) ∙ ap (λ o. option_or o (if same_name n n then d.kind else None)) (sym h.kind) ∙ ap (λ b. option_or s.kind (if b then d.kind else None)) hit);
      instances = sym (any-push (λ x. same_name x.name n && x.instance) all (named n d) ∙ ap (λ b. b || (same_name n n && d.instance)) (sym h.instances) ∙ ap (λ b. s.instances || (b && d.instance)) hit);
      ranges = subst (Reports ranges) (sym (plain-this n all (named n d) hit)) reports;
    }

-- the entries with what is said of one name more
pub declared_more : (old new : List (List ℕ × Summary)) (n : List ℕ) (all : List Declaration) (d : DeclaredAs) (s : Summary)
    → ((q : List ℕ) → lookup (same_name q) new ≡ cond (same_name n q) (Some s) (lookup (same_name q) old))
    → IsSummary n (all ++ named n d ∷ []) (Some s) → Describes old all → Describes new (all ++ named n d ∷ [])
declared_more old new n all d s put here before q = by (same_name n q) refl
  where
    by : (b : Bool) → same_name n q ≡ b → IsSummary q (all ++ named n d ∷ []) (lookup (same_name q) new)
    by true e = subst (λ z. IsSummary q (all ++ named n d ∷ []) z) (sym (put q ∙ ap (λ b. cond b (Some s) (lookup (same_name q) old)) e))
        (subst (λ z. IsSummary z (all ++ named n d ∷ []) (Some s)) (same_equal n q e) here)
    by false e = subst (λ z. IsSummary q (all ++ named n d ∷ []) z) (sym (put q ∙ ap (λ b. cond b (Some s) (lookup (same_name q) old)) e))
        (summary-other q all (lookup (same_name q) old) (named n d) e (before q))

pub none_there : {A : Type 0} (o : Option A) → is_some o ≡ false → o ≡ None
none_there None e = refl
none_there (Some x) e = absurd (true≢false e)

-- of two values that are put at one key the later one counts
pub put_again : {A : Type 0} (b : Bool) (first later old : A) → cond b later (cond b first old) ≡ cond b later old
put_again true first later old = refl
put_again false first later old = refl
