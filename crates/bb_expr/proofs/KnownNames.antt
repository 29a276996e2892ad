-- A name that is known and is no instance's is the name of a net, with its place; and the names of nets differ.
use Rattle.std.proofs.Common.{◌≡◌, ◌≢◌, ℕ, zero, suc, ◌+◌, Bool, true, false, not, ◌||◌, cond, List, [], ◌∷◌, ◌++◌, length, map, get_or, ◌<◌, Some, refl, sym, ap, ◌∙◌, subst, arith, inl, inr}
use Rattle.std.specs.Prelude.{slice_get, All, Contains}
use Rattle.std.specs.List.{find, filter, list_any, AllByRecursion, AllPairs}
use Rattle.std.specs.Map.{lookup}
use Rattle.std.specs.Option.{option_map_or}
use Rattle.std.proofs.lemmas.Bool.{false≢true}
use Rattle.std.proofs.lemmas.List.{map-id}
use Rattle.std.proofs.lemmas.List.Elements.{All-from_recursion}
use Rattle.std.proofs.lemmas.List.Folds.{list_any-append}
use Rattle.bb_lemmas.proofs.Places.{there_at, got-map}
use Rattle.bb_lemmas.proofs.Names.{same_equal, same_self}
use Rattle.bb_lemmas.proofs.Members.{either}
use Rattle.bb_bits.specs.Names.{same_name, placed}
use Rattle.bb_ast.specs.Syntax.{PlainModule}
use Rattle.bb_bits.specs.Earlier.{once, has_name}
use Rattle.bb_names.specs.Declarations.{Declaration, declarations, is_declared, is_instance, implicit_names, is_known}
use Rattle.bb_names.specs.Nets.{net_names, net_of, nets_of}
use Rattle.bb_names.specs.Inside.Checked.{ModuleFacts, syntax, HasNets}
use Rattle.bb_expr.specs.Inside.Fit.{HasNet}
use Rattle.bb_expr.specs.Laws.FitLaws.{NetNamesDiffer}
use Rattle.bb_expr.proofs.Booleans.{or-true}

any-left : {X : Type 0} (p : X → Bool) (xs ys : List X) → list_any p xs ≡ true → list_any p (xs ++ ys) ≡ true
any-left p xs ys h = list_any-append p xs ys ∙ ap (λ b. b || list_any p ys) h

any-right : {X : Type 0} (p : X → Bool) (xs ys : List X) → list_any p ys ≡ true → list_any p (xs ++ ys) ≡ true
any-right p xs ys h = list_any-append p xs ys ∙ ap (λ b. list_any p xs || b) h ∙ or-true (list_any p xs)

-- whether or not one more precedes
any-kept : {X Y : Type 0} (p : Y → Bool) (f : X → Y) (b : Bool) (x : X) (xs : List X) → list_any p (map f xs) ≡ true → list_any p (map f (cond b (x ∷ xs) xs)) ≡ true
any-kept p f true x xs h = ap (λ b. p (f x) || b) h ∙ or-true (p (f x))
any-kept p f false x xs h = h

-- another name stays where one is taken out
others-stay : (n m : List ℕ) → same_name n m ≡ false → (names : List (List ℕ)) → list_any (same_name n) names ≡ true → list_any (same_name n) (filter (λ x. not (same_name m x)) names) ≡ true
others-stay n m differ [] h = h
others-stay n m differ (x ∷ names) h = elim (either (same_name n x)) [
  | inl e ↦ elim (either (same_name m x)) [
    | inl f ↦ absurd (false≢true (sym differ ∙ subst (λ y. same_name n y ≡ true) (same_equal n x e ∙ sym (same_equal m x f)) (same_self n)))
    | inr f ↦ ap (λ b. list_any (same_name n) (cond (not b) (x ∷ filter (λ y. not (same_name m y)) names) (filter (λ y. not (same_name m y)) names))) f
        ∙ ap (λ b. b || list_any (same_name n) (filter (λ y. not (same_name m y)) names)) e
  ]
  | inr e ↦
      let rest = others-stay n m differ names (sym (ap (λ b. b || list_any (same_name n) names) e) ∙ h) in
      ap (list_any (same_name n)) (sym (map-id (filter (λ y. not (same_name m y)) (x ∷ names))))
      ∙ any-kept (same_name n) (λ y. y) (not (same_name m x)) x (filter (λ y. not (same_name m y)) names) (ap (list_any (same_name n)) (map-id _) ∙ rest)
]

pub once-listed : (n : List ℕ) (names : List (List ℕ)) → list_any (same_name n) names ≡ true → list_any (same_name n) (once names) ≡ true
once-listed n [] h = h
once-listed n (m ∷ names) h = elim (either (same_name n m)) [
  | inl e ↦ ap (λ b. b || list_any (same_name n) (filter (λ x. not (same_name m x)) (once names))) e
  | inr e ↦ ap (λ b. b || list_any (same_name n) (filter (λ x. not (same_name m x)) (once names))) e
      ∙ others-stay n m e (once names) (once-listed n names (sym (ap (λ b. b || list_any (same_name n) names) e) ∙ h))
]

-- a declared name whose first declaration is no instance's
declared-listed : (n : List ℕ) (ds : List Declaration) → list_any (λ d. same_name d.name n) ds ≡ true → option_map_or (λ d. d.instance) (find (λ d. same_name d.name n) ds) false ≡ false
    → list_any (same_name n) (map (λ d. d.name) (filter (λ d. not d.instance) ds)) ≡ true
declared-listed n [] h plain = h
declared-listed n (d ∷ ds) h plain = elim (either (same_name d.name n)) [
  | inl e ↦
      let net : d.instance ≡ false = sym (ap (λ b. option_map_or (λ (x : Declaration). x.instance) (cond b (Some d) (find (λ x. same_name x.name n) ds)) false) e) ∙ plain in
      let same : same_name n d.name ≡ true = subst (λ y. same_name y d.name ≡ true) (same_equal d.name n e) (same_self d.name) in
      ap (λ b. list_any (same_name n) (map (λ (x : Declaration). x.name) (cond (not b) (d ∷ filter (λ x. not x.instance) ds) (filter (λ x. not x.instance) ds)))) net
      ∙ ap (λ b. b || list_any (same_name n) (map (λ (x : Declaration). x.name) (filter (λ x. not x.instance) ds))) same
  | inr e ↦
      any-kept (same_name n) (λ (x : Declaration). x.name) (not d.instance) d (filter (λ x. not x.instance) ds)
      (declared-listed n ds (sym (ap (λ b. b || list_any (λ (x : Declaration). same_name x.name n) ds) e) ∙ h)
      (sym (ap (λ b. option_map_or (λ (x : Declaration). x.instance) (cond b (Some d) (find (λ x. same_name x.name n) ds)) false) e) ∙ plain))
]

abbrev header_names : PlainModule → List (List ℕ)
header_names m = map (λ head. head.name) m.heads

abbrev declared_names : PlainModule → List (List ℕ)
declared_names m = map (λ d. d.name) (filter (λ d. not d.instance) (declarations m))

known-listed : (m : PlainModule) (n : List ℕ) → is_known m n ≡ true → is_instance m n ≡ false → list_any (same_name n) (net_names m) ≡ true
known-listed m n known plain = once-listed n (header_names m ++ declared_names m ++ implicit_names m) (elim (either (is_declared m n)) [
  | inl e ↦ any-left (same_name n) (header_names m ++ declared_names m) (implicit_names m) (any-right (same_name n) (header_names m) (declared_names m) (declared-listed n (declarations m) e plain))
  | inr e ↦ any-right (same_name n) (header_names m ++ declared_names m) (implicit_names m) (sym (ap (λ b. b || has_name n (implicit_names m)) e) ∙ known)
])

-- a listed name is found at a place, where it is
placed-found : (n : List ℕ) (names : List (List ℕ)) (j : ℕ) → list_any (same_name n) names ≡ true → (k : ℕ) × (lookup (same_name n) (placed j names) ≡ Some (j + k)) × (slice_get names k ≡ Some n)
placed-found n [] j h = absurd (false≢true h)
placed-found n (m ∷ names) j h = elim (either (same_name n m)) [
  | inl e ↦ (0, ap (λ b. cond b (Some j) (lookup (same_name n) (placed (j + 1) names))) e ∙ ap Some (plus-zero j), ap Some (sym (same_equal n m e)))
  | inr e ↦
      let rest = placed-found n names (j + 1) (sym (ap (λ b. b || list_any (same_name n) names) e) ∙ h) in
      (suc rest.0, ap (λ b. cond b (Some j) (lookup (same_name n) (placed (j + 1) names))) e ∙ rest.1 ∙ ap Some (plus-suc j rest.0), rest.2)
]
  where
    plus-zero : (j : ℕ) → j ≡ j + 0
    plus-zero j = omega arith

    plus-suc : (j k : ℕ) → (j + 1) + k ≡ j + suc k
    plus-suc j k = omega arith

names-of-nets : (m : PlainModule) (names : List (List ℕ)) → map (λ net. net.name) (map (net_of m) names) ≡ names
names-of-nets m [] = refl
names-of-nets m (n ∷ names) = ap (λ r. n ∷ r) (names-of-nets m names)

-- a name that is known and no instance's is that of a net
pub known-there : (m : PlainModule) (n : List ℕ) → is_known m n ≡ true → is_instance m n ≡ false → Contains (net_names m) n
known-there m n known plain = let at = placed-found n (net_names m) 0 (known-listed m n known plain) in there_at (net_names m) at.0 n at.2

there-listed : (n : List ℕ) (names : List (List ℕ)) (k : ℕ) → k < length names → get_or names k n ≡ n → list_any (same_name n) names ≡ true
there-listed n [] k lt is = absurd (omega (arith, lt))
there-listed n (m ∷ names) zero lt is = ap (λ b. b || list_any (same_name n) names) (subst (λ x. same_name n x ≡ true) (sym is) (same_self n))
there-listed n (m ∷ names) (suc k) lt is = ap (λ b. same_name n m || b) (there-listed n names k (omega (arith, lt)) is) ∙ or-true (same_name n m)

-- the net of a name is at a place of the nets, which the index keeps for it
pub net-at : (m : PlainModule) (n : List ℕ) → Contains (net_names m) n → (k : ℕ) × (lookup (same_name n) (placed 0 (net_names m)) ≡ Some k) × (slice_get (nets_of m) k ≡ Some (net_of m n))
net-at m n has =
    let at = placed-found n (net_names m) 0 (there-listed n (net_names m) has.0 has.1 has.2) in
    (at.0, at.1 ∙ ap Some (zero-plus at.0), got-map (net_of m) (net_names m) at.0 n at.2)
  where
    zero-plus : (k : ℕ) → 0 + k ≡ k
    zero-plus k = omega arith

pub has-net : (m : ModuleFacts) → HasNets m → (n : List ℕ) → Contains (net_names (syntax m)) n → HasNet m n
has-net m nets n there =
    let at = net-at (syntax m) n there in
    record {
      place = at.0;
      net = net_of (syntax m) n;
      kept = ap (lookup (same_name n)) (nets.index ∙ ap (λ l. placed 0 (map (λ net. net.name) l)) nets.nets ∙ ap (placed 0) (names-of-nets (syntax m) (net_names (syntax m)))) ∙ at.1;
      there = ap (λ l. slice_get l at.0) nets.nets ∙ at.2;
      name = refl;
      range = refl;
    }

-- no name is twice
abbrev AreApart : List (List ℕ) → Type 0
AreApart [] = Unit {0}
AreApart (n ∷ names) = AllByRecursion (λ m. n ≢ m) names × AreApart names

all-filtered : {X : Type 0} (P : X → Type 0) (p : X → Bool) (xs : List X) → AllByRecursion P xs → AllByRecursion P (filter p xs)
all-filtered P p [] h = tt
all-filtered P p (x ∷ xs) h = kept (p x) (all-filtered P p xs h.1)
  where
    kept : (b : Bool) → AllByRecursion P (filter p xs) → AllByRecursion P (cond b (x ∷ filter p xs) (filter p xs))
    kept true rest = (h.0, rest)
    kept false rest = rest

apart-filtered : (p : List ℕ → Bool) (names : List (List ℕ)) → AreApart names → AreApart (filter p names)
apart-filtered p [] h = tt
apart-filtered p (n ∷ names) h = kept (p n) (apart-filtered p names h.1)
  where
    kept : (b : Bool) → AreApart (filter p names) → AreApart (cond b (n ∷ filter p names) (filter p names))
    kept true rest = (all-filtered (λ m. n ≢ m) p names h.0, rest)
    kept false rest = rest

taken-out : (n : List ℕ) (names : List (List ℕ)) → AllByRecursion (λ m. n ≢ m) (filter (λ m. not (same_name n m)) names)
taken-out n [] = tt
taken-out n (m ∷ names) = kept (same_name n m) refl (taken-out n names)
  where
    kept : (b : Bool) → same_name n m ≡ b → AllByRecursion (λ x. n ≢ x) (filter (λ x. not (same_name n x)) names) → AllByRecursion (λ x. n ≢ x) (cond (not b) (m ∷ filter (λ x. not (same_name n x)) names) (filter (λ x. not (same_name n x)) names))
    kept true e rest = rest
    kept false e rest = (λ same. false≢true (sym e ∙ subst (λ x. same_name n x ≡ true) same (same_self n)), rest)

once-apart : (names : List (List ℕ)) → AreApart (once names)
once-apart [] = tt
once-apart (n ∷ names) = (taken-out n (once names), apart-filtered (λ m. not (same_name n m)) (once names) (once-apart names))

pairs-cons : {X : Type 0} (R : X → X → Type 0) (x : X) (xs : List X) → All (R x) xs → AllPairs R xs → AllPairs R (x ∷ xs)
pairs-cons R x xs first rest zero zero d lt h = absurd (omega (arith, lt))
pairs-cons R x xs first rest zero (suc j) d lt h = first j d (omega (arith, h))
pairs-cons R x xs first rest (suc i) zero d lt h = absurd (omega (arith, lt))
pairs-cons R x xs first rest (suc i) (suc j) d lt h = rest i j d (omega (arith, lt)) (omega (arith, h))

pairs-apart : (names : List (List ℕ)) → AreApart names → AllPairs ◌≢◌ names
pairs-apart [] h = λ i j d lt short. absurd (omega (arith, short))
pairs-apart (n ∷ names) h = pairs-cons ◌≢◌ n names (All-from_recursion (λ m. n ≢ m) names h.0) (pairs-apart names h.1)

pub net_names_differ : NetNamesDiffer
net_names_differ m = subst (AllPairs ◌≢◌) (sym (names-of-nets m (net_names m))) (pairs-apart (net_names m) (once-apart _))
