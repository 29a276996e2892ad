-- The drivers of a design, scope by scope; those of a copy of a module are those of the module alone, moved there.
use Rattle.std.proofs.Common.{◌≡◌, ◌≢◌, ◌⊎◌, ℕ, zero, suc, Bool, true, false, List, [], ◌∷◌, ◌++◌, map, All, AllPairs, Contains, Option, Some, None, inl, inr, refl, sym, ap, ap₂, ◌∙◌, subst, arith, append-nil}
use Rattle.std.proofs.lemmas.List.{map-append}
use Rattle.bb_lemmas.proofs.Maps.{map-twice}
use Rattle.std.specs.List.{filter_map, flat_map}
use Rattle.std.proofs.lemmas.List.{get_or_default}
use Rattle.std.proofs.lemmas.List.Elements.{All-contains, Contains-append_cases, Contains-append_left, Contains-append_right}
use Rattle.bb_ast.specs.Syntax.{Expression, Net, PlainBody, Ports, Nets, Regs, Supply, Assign, Gates, Calls, Always, PlainItem, PlainModule}
use Rattle.bb_bits.specs.Closures.{IsDistinct}
use Rattle.bb_names.specs.Nets.{is_empty}
use Rattle.bb_lemmas.proofs.Apart.{pairs_tail}
use Rattle.bb_lemmas.proofs.Members.{contains_cases, contains_here, contains_there, from_flat, from_map, into_flat, none_in_nil}
use Rattle.bb_design.specs.Constructs.{Construct, Assignment, body_constructs, constructs_at, gate_construct, initial_construct, SupplyNet}
use Rattle.bb_design.specs.Drivers.{Drive, Free, driven, driven_bits, drives, drives_at}
use Rattle.bb_design.specs.Hierarchy.{Design, Path, Scope, below, children, instances_of, is_top, scopes, too_low}
use Rattle.bb_design.specs.NetBits.{Bit, top_inputs}
use Rattle.bb_replace.specs.Laws.Replacement.{IsCombinational, alone, scope_of}
use Rattle.bb_replace.proofs.MovedDrives.{IsPlain, at, construct_at, drive_at, flat_map_mapped}
use Rattle.bb_replace.proofs.ReplacedConstructs.{free_constructs}
use Rattle.bb_replace.proofs.ReplacedModules.{combinational_has_none}
use Rattle.bb_replace.proofs.ReplacedRegisters.{flat_flat}

-- what is driven in a scope
abbrev pub drives_in : List PlainModule → Scope → List Drive
drives_in text s = flat_map drives_at (map (λ c. (s, c)) (constructs_at text s))

abbrev pub bits_driven : List PlainModule → Scope → List Bit
bits_driven text s = map (λ x. x.bit) (drives_in text s)

pub drives_flat : (d : Design) → drives d ≡ map (driven Free) (top_inputs d) ++ flat_map (drives_in d.text) (scopes d)
drives_flat d = ap (λ l. map (driven Free) (top_inputs d) ++ l) (flat_flat (λ (s : Scope). map (λ (c : Construct). (s, c)) (constructs_at d.text s)) drives_at (scopes d))

free_bits : (bits : List Bit) → map (λ (x : Drive). x.bit) (map (driven Free) bits) ≡ bits
free_bits [] = refl
free_bits (b ∷ bits) = ap (λ l. b ∷ l) (free_bits bits)

pub driven_flat : (d : Design) → driven_bits d ≡ top_inputs d ++ flat_map (bits_driven d.text) (scopes d)
driven_flat d =
    ap (map (λ (x : Drive). x.bit)) (drives_flat d) ∙ map-append (λ (x : Drive). x.bit) (map (driven Free) (top_inputs d)) (flat_map (drives_in d.text) (scopes d))
    ∙ ap₂ (λ a b. a ++ b) (free_bits (top_inputs d)) (flat_map_mapped (drives_in d.text) (λ (x : Drive). x.bit) (scopes d))

-- a module alone has one scope

childless : (m : PlainModule) → instances_of m ≡ [] → (s : Scope) → s.source ≡ m → children (m ∷ []) s ≡ []
childless m none s e = ap (filter_map _) (ap instances_of e ∙ none)

nothing_below : (n : ℕ) (m : PlainModule) → instances_of m ≡ [] → below n (m ∷ []) (scope_of [] m) ≡ []
unfolding below
nothing_below zero m none = refl
nothing_below (suc n) m none = ap (flat_map (λ c. c ∷ below n (m ∷ []) c)) (childless m none (scope_of [] m) refl)

pub one_scope : (m : PlainModule) → instances_of m ≡ [] → scopes (alone m) ≡ scope_of [] m ∷ []
one_scope m none = ap (λ l. scope_of [] m ∷ l) (nothing_below too_low m none)

pub alone_bits : (m : PlainModule) → instances_of m ≡ [] → driven_bits (alone m) ≡ top_inputs (alone m) ++ bits_driven (m ∷ []) (scope_of [] m)
alone_bits m none =
    driven_flat (alone m) ∙ ap (λ l. top_inputs (alone m) ++ flat_map (bits_driven (m ∷ [])) l) (one_scope m none)
    ∙ ap (λ l. top_inputs (alone m) ++ l) (append-nil (bits_driven (m ∷ []) (scope_of [] m)))

-- a combinational module has assignments, gates and supply nets

plain_initial : (x : List ℕ × Option Expression) (c : Construct) → Contains (initial_construct x) c → IsPlain c
plain_initial (n, None) c has = absurd (none_in_nil c has)
plain_initial (n, Some e) c has = by (contains_cases (initial n e) [] c has)
  where
    initial : List ℕ → Expression → Construct
    initial n e = Assignment (Net n) e

    by : (initial n e ≡ c) ⊎ Contains {X = Construct} [] c → IsPlain c
    by (inl same) = subst IsPlain same tt
    by (inr h) = absurd (none_in_nil c h)

plain_body : (text : List PlainModule) (body : PlainBody) → IsCombinational body → (c : Construct) → Contains (body_constructs text body) c → IsPlain c
plain_body text (Ports port names) free c has = absurd (none_in_nil c has)
plain_body text (Nets range nets) free c has = let x = from_flat initial_construct nets c has in plain_initial x.0 c x.2
plain_body text (Regs range names) free c has = absurd (none_in_nil c has)
plain_body text (Supply high range names) free c has = let n = from_map (SupplyNet high) names c has in subst IsPlain n.2 tt
plain_body text (Assign all) free c has = let x = from_map (λ (x : Expression × Expression). Assignment x.0 x.1) all c has in subst IsPlain x.2 tt
plain_body text (Gates gate all) free c has = let x = from_map (λ (x : Option (List ℕ) × List Expression). gate_construct gate x.1) all c has in subst IsPlain x.2 tt
plain_body text (Calls target all) free c has = absurd free
plain_body text (Always a) free c has = absurd free

listed_constructs : (text : List PlainModule) (path : Path) (m : PlainModule) → is_empty m ≡ false → constructs_at text (scope_of path m) ≡ flat_map (λ (item : PlainItem). body_constructs text item.body) m.items
listed_constructs text path m contents = by (is_top path) refl
  where
    by : (b : Bool) → is_top path ≡ b → constructs_at text (scope_of path m) ≡ flat_map (λ (item : PlainItem). body_constructs text item.body) m.items
    by true e = grind (arith, e, contents)
    by false e = grind (arith, e, contents)

pub plain_there : (text : List PlainModule) (path : Path) (m : PlainModule) → is_empty m ≡ false → All (λ item. IsCombinational item.body) m.items → (c : Construct) → Contains (constructs_at text (scope_of path m)) c → IsPlain c
plain_there text path m contents items c has =
    let i = from_flat (λ (item : PlainItem). body_constructs text item.body) m.items c (subst (λ l. Contains l c) (listed_constructs text path m contents) has) in
    plain_body text i.0.body (All-contains (λ (item : PlainItem). IsCombinational item.body) m.items i.0 items i.1) c i.2

moved_list : (path : Path) (m : PlainModule) (cs : List Construct) → ((c : Construct) → Contains cs c → IsPlain c) → flat_map drives_at (map (λ c. (scope_of path m, c)) cs) ≡ map (drive_at path) (flat_map drives_at (map (λ c. (scope_of [] m, c)) cs))
moved_list path m [] plain = refl
moved_list path m (c ∷ cs) plain =
    ap₂ (λ a b. a ++ b) (construct_at path m c (plain c (contains_here c cs))) (moved_list path m cs (λ x has. plain x (contains_there c cs x has)))
    ∙ sym (map-append (drive_at path) (drives_at (scope_of [] m, c)) (flat_map drives_at (map (λ c. (scope_of [] m, c)) cs)))

pub drives_moved : (text : List PlainModule) (path : Path) (m : PlainModule) → is_empty m ≡ false → All (λ item. IsCombinational item.body) m.items → drives_in text (scope_of path m) ≡ map (drive_at path) (drives_in (m ∷ []) (scope_of [] m))
drives_moved text path m contents items =
    ap (λ l. flat_map drives_at (map (λ c. (scope_of path m, c)) l)) same
    ∙ moved_list path m (constructs_at (m ∷ []) (scope_of [] m)) (plain_there (m ∷ []) [] m contents items)
  where
    same : constructs_at text (scope_of path m) ≡ constructs_at (m ∷ []) (scope_of [] m)
    same = free_constructs text (m ∷ []) (scope_of path m) (combinational_has_none m.items items) ∙ listed_constructs (m ∷ []) path m contents ∙ sym (listed_constructs (m ∷ []) [] m contents)

pub bits_moved : (text : List PlainModule) (path : Path) (m : PlainModule) → is_empty m ≡ false → All (λ item. IsCombinational item.body) m.items → bits_driven text (scope_of path m) ≡ map (at path) (bits_driven (m ∷ []) (scope_of [] m))
bits_moved text path m contents items =
    ap (map (λ (x : Drive). x.bit)) (drives_moved text path m contents items) ∙ map-twice (drive_at path) (λ (x : Drive). x.bit) (drives_in (m ∷ []) (scope_of [] m))
    ∙ sym (map-twice (λ (x : Drive). x.bit) (at path) (drives_in (m ∷ []) (scope_of [] m)))

-- lists without repetition, both ways to say it

pub to_distinct : {A : Type 0} (xs : List A) → AllPairs ◌≢◌ xs → IsDistinct xs
to_distinct [] apart = tt
to_distinct (x ∷ xs) apart = (fresh, to_distinct xs (pairs_tail ◌≢◌ x xs apart))
  where
    fresh : Contains xs x → ⊥
    fresh has = apart 0 (suc has.0) x (omega arith) (omega (arith, has.1)) (sym has.2)

pub from_distinct : {A : Type 0} (xs : List A) → IsDistinct xs → AllPairs ◌≢◌ xs
from_distinct [] distinct i j d less within same = omega (arith, less, within)
from_distinct (x ∷ xs) distinct i zero d less within same = omega (arith, less)
from_distinct (x ∷ xs) distinct zero (suc j) d less within same = distinct.0 (j, omega (arith, within), get_or_default xs j x d (omega (arith, within)) ∙ sym same)
from_distinct (x ∷ xs) distinct (suc i) (suc j) d less within same = from_distinct xs distinct.1 i j d (omega (arith, less)) (omega (arith, within)) same

module _ {A : Type 0} where
  pub distinct_left : (xs ys : List A) → IsDistinct (xs ++ ys) → IsDistinct xs
  distinct_left [] ys distinct = tt
  distinct_left (x ∷ xs) ys distinct = (λ has. distinct.0 (Contains-append_left xs ys x has), distinct_left xs ys distinct.1)

  pub distinct_right : (xs ys : List A) → IsDistinct (xs ++ ys) → IsDistinct ys
  distinct_right [] ys distinct = distinct
  distinct_right (x ∷ xs) ys distinct = distinct_right xs ys distinct.1

  pub distinct_across : (xs ys : List A) (z : A) → IsDistinct (xs ++ ys) → Contains xs z → Contains ys z → ⊥
  distinct_across [] ys z distinct a b = none_in_nil z a
  distinct_across (x ∷ xs) ys z distinct a b = by (contains_cases x xs z a) (λ h. distinct_across xs ys z distinct.1 h b)
    where
      by : (x ≡ z) ⊎ Contains xs z → (Contains xs z → ⊥) → ⊥
      by (inl same) more = distinct.0 (subst (Contains (xs ++ ys)) (sym same) (Contains-append_right xs ys z b))
      by (inr h) more = more h

  pub distinct_joined : (xs ys : List A) → IsDistinct xs → IsDistinct ys → ((z : A) → Contains xs z → Contains ys z → ⊥) → IsDistinct (xs ++ ys)
  distinct_joined [] ys a b apart = b
  distinct_joined (x ∷ xs) ys a b apart = (λ has. by (Contains-append_cases xs ys x has), distinct_joined xs ys a.1 b (λ z h k. apart z (contains_there x xs z h) k))
    where
      by : Contains xs x ⊎ Contains ys x → ⊥
      by (inl h) = a.0 h
      by (inr h) = apart x (contains_here x xs) h

-- lists without repetition, of which some are taken for others: what is new in one of them is in none of the old ones,
-- and is in one of the lists of a third kind, which have no repetition either
module _ {A B : Type 0} (old new net : A → List B) (whole : List B) where
  pub record Exchanges (xs : List A) : Type 0 where
    pub each : (x : A) → Contains xs x → IsDistinct (new x)
    pub within : (x : A) (b : B) → Contains xs x → Contains (old x) b → Contains whole b
    pub split : (x : A) (b : B) → Contains xs x → Contains (new x) b → Contains (old x) b ⊎ ((Contains whole b → ⊥) × Contains (net x) b)

  pub exchanged : (xs : List A) → Exchanges xs → IsDistinct (flat_map old xs) → IsDistinct (flat_map net xs) → IsDistinct (flat_map new xs)
  exchanged [] by olds nets = tt
  exchanged (x ∷ xs) by olds nets =
      distinct_joined (new x) (flat_map new xs) (by.each x (contains_here x xs)) (exchanged xs later (distinct_right (old x) (flat_map old xs) olds) (distinct_right (net x) (flat_map net xs) nets)) apart
    where
      later : Exchanges xs
      later = record {
        each = λ y has. by.each y (contains_there x xs y has);
        within = λ y b has. by.within y b (contains_there x xs y has);
        split = λ y b has. by.split y b (contains_there x xs y has);
      }

      apart : (b : B) → Contains (new x) b → Contains (flat_map new xs) b → ⊥
      apart b here rest =
          let y = from_flat new xs b rest in
          one y.0 y.1 (by.split x b (contains_here x xs) here) (by.split y.0 b (contains_there x xs y.0 y.1) y.2)
        where
          one : (y : A) → Contains xs y → Contains (old x) b ⊎ ((Contains whole b → ⊥) × Contains (net x) b) → Contains (old y) b ⊎ ((Contains whole b → ⊥) × Contains (net y) b) → ⊥
          one y has (inl a) (inl c) = distinct_across (old x) (flat_map old xs) b olds a (into_flat old xs y b has c)
          one y has (inl a) (inr c) = c.0 (by.within x b (contains_here x xs) a)
          one y has (inr a) (inl c) = a.0 (by.within y b (contains_there x xs y has) c)
          one y has (inr a) (inr c) = distinct_across (net x) (flat_map net xs) b nets a.1 (into_flat net xs y b has c.1)

pub distinct_one : {A B : Type 0} (f : A → List B) (xs : List A) (x : A) → Contains xs x → IsDistinct (flat_map f xs) → IsDistinct (f x)
distinct_one f [] x has distinct = absurd (none_in_nil x has)
distinct_one f (y ∷ xs) x has distinct = by (contains_cases y xs x has) (λ h. distinct_one f xs x h (distinct_right (f y) (flat_map f xs) distinct))
  where
    by : (y ≡ x) ⊎ Contains xs x → (Contains xs x → IsDistinct (f x)) → IsDistinct (f x)
    by (inl same) more = subst (λ z. IsDistinct (f z)) same (distinct_left (f y) (flat_map f xs) distinct)
    by (inr h) more = more h

pub distinct_map : {A B : Type 0} (f : A → B) (xs : List A) → ((x y : A) → Contains xs x → Contains xs y → f x ≡ f y → x ≡ y) → IsDistinct xs → IsDistinct (map f xs)
distinct_map f [] one distinct = tt
distinct_map f (x ∷ xs) one distinct = (fresh, distinct_map f xs (λ y z a b. one y z (contains_there x xs y a) (contains_there x xs z b)) distinct.1)
  where
    fresh : Contains (map f xs) (f x) → ⊥
    fresh has =
        let y = from_map f xs (f x) has in
        distinct.0 (subst (Contains xs) (one y.0 x (contains_there x xs y.0 y.1) (contains_here x xs) y.2) y.1)
