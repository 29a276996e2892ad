-- Modules by their places: look-ups by name, and the places of the modules of instances.
use Rattle.std.proofs.Common.{◌≡◌, ◌<◌, ◌+◌, ◌++◌, ℕ, zero, suc, Bool, true, false, cond, List, [], ◌∷◌, map, length, take, get_or, Option, Some, None, refl, sym, ap, ◌∙◌, arith, is_some, append-nil}
use Rattle.std.specs.Prelude.{replicate}
use Rattle.std.specs.List.{cons_option, filter_map, flat_map}
use Rattle.std.specs.Map.{lookup}
use Rattle.std.proofs.lemmas.List.{map-append, take_more}
use Rattle.std.proofs.lemmas.Grind.{flat_map-append}
use Rattle.std.proofs.lemmas.List.Elements.{filter_map-append}
use Rattle.bb_bits.specs.Names.{same_name, placed}
use Rattle.bb_ast.specs.Syntax.{PlainModule, PlainConns}
use Rattle.bb_design.specs.Hierarchy.{Instance, instance_of, instances_of}
use Rattle.bb_design.specs.Inside.Callees.{place_named, callees}
use Rattle.bb_lemmas.proofs.Names.{same_equal}

abbrev first_or : {X : Type 0} → Option X → Option X → Option X
first_or (Some x) o = Some x
first_or None o = o

lookup-push : {X : Type 0} (t : List ℕ → Bool) (es : List (List ℕ × X)) (a : List ℕ) (b : X) → lookup t (es ++ (a, b) ∷ []) ≡ first_or (lookup t es) (cond (t a) (Some b) None)
lookup-push t [] a b = refl
lookup-push t (e ∷ es) a b = by (t e.0) (lookup-push t es a b)
  where
    by : (c : Bool) → lookup t (es ++ (a, b) ∷ []) ≡ first_or (lookup t es) (cond (t a) (Some b) None)
        → cond c (Some e.1) (lookup t (es ++ (a, b) ∷ [])) ≡ first_or (cond c (Some e.1) (lookup t es)) (cond (t a) (Some b) None)
    by true rest = refl
    by false rest = rest

placed-push : (j : ℕ) (ns : List (List ℕ)) (n : List ℕ) → placed j (ns ++ n ∷ []) ≡ placed j ns ++ (n, j + length ns) ∷ []
placed-push j [] n = ap (λ k. (n, k) ∷ []) (plus-zero j)
  where
    plus-zero : (j : ℕ) → j ≡ j + 0
    plus-zero j = omega arith
placed-push j (m ∷ ns) n = ap (λ l. (m, j) ∷ l) (placed-push (j + 1) ns n ∙ ap (λ k. placed (j + 1) ns ++ (n, k) ∷ []) (plus-suc j (length ns)))
  where
    plus-suc : (j k : ℕ) → (j + 1) + k ≡ j + suc k
    plus-suc j k = omega arith

module _ {A B : Type 0} (f : A → B) (g : B → PlainModule) (xs : List A) (k : ℕ) (x : A) (lt : k < length xs) (at : x ≡ get_or xs k x) where
  prefix-more : map g (map f (take (k + 1) xs)) ≡ map g (map f (take k xs)) ++ g (f x) ∷ []
  prefix-more = ap (λ l. map g (map f l)) (take_more xs k x lt ∙ ap (λ y. take k xs ++ y ∷ []) (sym at)) ∙ ap (map g) (map-append f (take k xs) (x ∷ [])) ∙ map-append g (map f (take k xs)) (f x ∷ [])

  names-more : map (λ (m : PlainModule). m.name) (map g (map f (take (k + 1) xs))) ≡ map (λ (m : PlainModule). m.name) (map g (map f (take k xs))) ++ (g (f x)).name ∷ []
  names-more = ap (map (λ (m : PlainModule). m.name)) prefix-more ∙ map-append (λ (m : PlainModule). m.name) (map g (map f (take k xs))) (g (f x) ∷ [])

  -- one module more
  next-place : (n : List ℕ) → place_named (map g (map f (take (k + 1) xs))) n ≡ first_or (place_named (map g (map f (take k xs))) n) (cond (same_name n (g (f x)).name) (Some k) None)
  next-place n =
      ap (λ l. lookup (same_name n) (placed 0 l)) names-more ∙ ap (lookup (same_name n)) (placed-push 0 (map (λ (m : PlainModule). m.name) (map g (map f (take k xs)))) (g (f x)).name)
      ∙ lookup-push (same_name n) (placed 0 (map (λ (m : PlainModule). m.name) (map g (map f (take k xs))))) (g (f x)).name (0 + length (map (λ (m : PlainModule). m.name) (map g (map f (take k xs)))))
      ∙ ap (λ j. first_or (place_named (map g (map f (take k xs))) n) (cond (same_name n (g (f x)).name) (Some j) None)) (prefix-length xs k lt)
    where
      prefix-length : (ys : List A) (j : ℕ) → j < length ys → 0 + length (map (λ (m : PlainModule). m.name) (map g (map f (take j ys)))) ≡ j
      prefix-length [] j lt = absurd (omega (arith, lt))
      prefix-length (y ∷ ys) zero lt = omega arith
      prefix-length (y ∷ ys) (suc j) lt = omega (arith, prefix-length ys j (omega (arith, lt)))

  -- its name was new
  pub new-name : (n copy : List ℕ) (entries now : List (List ℕ × ℕ)) → copy ≡ (g (f x)).name → now ≡ entries ++ (copy, k) ∷ [] → ((m : List ℕ) → lookup (same_name m) entries ≡ place_named (map g (map f (take k xs))) m)
      → lookup (same_name n) now ≡ place_named (map g (map f (take (k + 1) xs))) n
  new-name n copy entries now same e before =
      ap (lookup (same_name n)) e ∙ lookup-push (same_name n) entries copy k ∙ ap (λ m. first_or (lookup (same_name n) entries) (cond (same_name n m) (Some k) None)) same
      ∙ ap (λ o. first_or o (cond (same_name n (g (f x)).name) (Some k) None)) (before n) ∙ sym (next-place n)

  -- its name was there
  pub old-name : (n : List ℕ) (entries now : List (List ℕ × ℕ)) → now ≡ entries → is_some (lookup (same_name (g (f x)).name) entries) ≡ true → ((m : List ℕ) → lookup (same_name m) entries ≡ place_named (map g (map f (take k xs))) m)
      → lookup (same_name n) now ≡ place_named (map g (map f (take (k + 1) xs))) n
  old-name n entries now e there before =
      ap (lookup (same_name n)) e ∙ kept (same_name n (g (f x)).name) refl ∙ ap (λ o. first_or o (cond (same_name n (g (f x)).name) (Some k) None)) (before n) ∙ sym (next-place n)
    where
      some : (o p : Option ℕ) → is_some o ≡ true → o ≡ first_or o p
      some None p h = cc
      some (Some i) p h = refl

      none : (o : Option ℕ) → o ≡ first_or o None
      none None = refl
      none (Some i) = refl

      kept : (b : Bool) → same_name n (g (f x)).name ≡ b → lookup (same_name n) entries ≡ first_or (lookup (same_name n) entries) (cond (same_name n (g (f x)).name) (Some k) None)
      kept true h = some (lookup (same_name n) entries) (cond (same_name n (g (f x)).name) (Some k) None) (ap (λ m. is_some (lookup (same_name m) entries)) (same_equal n (g (f x)).name h) ∙ there)
      kept false h = none (lookup (same_name n) entries) ∙ ap (λ b. first_or (lookup (same_name n) entries) (cond b (Some k) None)) (sym h)

-- instances of one module
pub called-some : (entries : List (List ℕ × ℕ)) (target : List ℕ) (place : ℕ) (calls : List (List ℕ × PlainConns)) → lookup (same_name target) entries ≡ Some place
    → filter_map (λ (i : Instance). lookup (same_name i.target) entries) (map (instance_of target) calls) ≡ replicate (length calls) place
called-some entries target place [] e = refl
called-some entries target place (x ∷ calls) e =
    ap (λ o. cons_option o (filter_map (λ (i : Instance). lookup (same_name i.target) entries) (map (instance_of target) calls))) e ∙ ap (λ l. place ∷ l) (called-some entries target place calls e)

pub called-none : (entries : List (List ℕ × ℕ)) (target : List ℕ) (calls : List (List ℕ × PlainConns)) → lookup (same_name target) entries ≡ None
    → filter_map (λ (i : Instance). lookup (same_name i.target) entries) (map (instance_of target) calls) ≡ []
called-none entries target [] e = refl
called-none entries target (x ∷ calls) e =
    ap (λ o. cons_option o (filter_map (λ (i : Instance). lookup (same_name i.target) entries) (map (instance_of target) calls))) e ∙ called-none entries target calls e

-- look-ups that give the places of modules
pub callees-are : (entries : List (List ℕ × ℕ)) (text modules : List PlainModule) → ((n : List ℕ) → lookup (same_name n) entries ≡ place_named text n)
    → map (λ m. filter_map (λ (i : Instance). lookup (same_name i.target) entries) (instances_of m)) modules ≡ map (callees text) modules
callees-are entries text modules same = ap (λ (h : List ℕ → Option ℕ). map (λ m. filter_map (λ (i : Instance). h i.target) (instances_of m)) modules) (λ k n. same n k)

pub none_of : {X : Type 0} (o : Option X) → is_some o ≡ false → o ≡ None
none_of None h = refl
none_of (Some x) h = cc

-- an item more
pub more-called : {A B : Type 0} (q : Instance → Option ℕ) (f : A → B) (inst : B → List Instance) (items : List A) (k : ℕ) (x : A) (old now : List ℕ) → k < length items → x ≡ get_or items k x
    → old ≡ filter_map q (flat_map inst (map f (take k items))) → now ≡ old ++ filter_map q (inst (f x)) → now ≡ filter_map q (flat_map inst (map f (take (k + 1) items)))
more-called q f inst items k x old now lt at before here =
    here ∙ ap (λ l. l ++ filter_map q (inst (f x))) before ∙ sym (filter_map-append q (flat_map inst (map f (take k items))) (inst (f x)))
    ∙ ap (λ l. filter_map q (flat_map inst (map f (take k items)) ++ l)) (sym (append-nil (inst (f x))))
    ∙ ap (filter_map q) (sym (flat_map-append inst (map f (take k items)) (f x ∷ [])) ∙ ap (flat_map inst) (sym (map-append f (take k items) (x ∷ []))) ∙ ap (λ l. flat_map inst (map f l)) (sym (take_more items k x lt ∙ ap (λ y. take k items ++ y ∷ []) (sym at))))
