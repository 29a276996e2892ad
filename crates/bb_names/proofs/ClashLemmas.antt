-- Whether an earlier declaration leaves no room for one more, by what the earlier ones say together.
use Rattle.std.proofs.Common.{◌≡◌, ℕ, Bool, true, false, cond, not, ◌||◌, ◌&&◌, List, [], ◌∷◌, None, Some, is_some, refl, sym, ap, ap₂, ◌∙◌, arith, map, filter}
use Rattle.std.specs.List.{list_any}
use Rattle.bb_bits.specs.Names.{same_name}
use Rattle.bb_ast.specs.Syntax.{PlainModule}
use Rattle.bb_names.specs.declared.summary.DeclaredAs.{DeclaredAs}
use Rattle.bb_names.specs.declared.summary.Summary.{Summary}
use Rattle.bb_names.specs.Declarations.{Declaration, is_port}
use Rattle.bb_names.specs.Faults.{clashes, declares_supply, same_range}
use Rattle.bb_names.specs.Inside.Summaries.{named, has_other, leaves_no_room, IsSummary}
use Rattle.bb_names.proofs.Searches.{said-any}
use Rattle.bb_names.proofs.SummaryLemmas.{same_equal}

swap : (a b c d : Bool) → ((a || b) || (c || d)) ≡ ((a || c) || (b || d))
swap true b c d = refl
swap false true true d = refl
swap false true false d = refl
swap false false true d = refl
swap false false false d = refl

five : (a b c d e a' b' c' d' e' : Bool)
    → ((a || (b || (c || (d || e)))) || (a' || (b' || (c' || (d' || e'))))) ≡ ((a || a') || ((b || b') || ((c || c') || ((d || d') || (e || e')))))
five a b c d e a' b' c' d' e' =
    swap a _ a' _ ∙ ap (λ z. (a || a') || z) (swap b _ b' _ ∙ ap (λ z. (b || b') || z) (swap c _ c' _ ∙ ap (λ z. (c || c') || z) (swap d e d' e')))

both : (a b c : Bool) → ((a && c) || (b && c)) ≡ ((a || b) && c)
both true true true = refl
both true true false = refl
both true false true = refl
both true false false = refl
both false b c = refl

-- the last row, at one declaration and at the others
rows : (p s r t u : Bool) → ((p && (s && (t && r))) || (p && (t && u))) ≡ (p && (t && ((s && r) || u)))
rows true true true true u = refl
rows true true false true u = refl
rows true false r true u = refl
rows true true r false u = refl
rows true false r false u = refl
rows false s r t u = refl

absorbed : (t i : Bool) → (i || (t && i)) ≡ i
absorbed true true = refl
absorbed true false = refl
absorbed false true = refl
absorbed false false = refl

left-five : (a b c d e : Bool) → ((((a || b) || c) || d) || e) ≡ (a || (b || (c || (d || e))))
left-five true b c d e = refl
left-five false true c d e = refl
left-five false false true d e = refl
left-five false false false true e = refl
left-five false false false false e = refl

left-four : (p s t r : Bool) → (((p && s) && t) && r) ≡ (p && (s && (t && r)))
left-four true true t r = refl
left-four true false t r = refl
left-four false s t r = refl

same-five : {a b c d e a' b' c' d' e' : Bool} → a ≡ a' → b ≡ b' → c ≡ c' → d ≡ d' → e ≡ e' → (a || (b || (c || (d || e)))) ≡ (a' || (b' || (c' || (d' || e'))))
same-five f g h i j = rw (f, g, h, i, j) refl

-- one declaration and what the others say
clash-step : (A a K k I i P s t r D L J T R : Bool) → ((((((A && a) || (K && k)) || I) || i) || (((P && s) && t) && r)) || ((D && a) || ((L && k) || (J || ((T && i) || (P && (t && R)))))))
    ≡ (((A || D) && a) || (((K || L) && k) || ((I || J) || (i || (P && (t && ((s && r) || R)))))))
clash-step A a K k I i P s t r D L J T R =
    ap (λ z. z || ((D && a) || ((L && k) || (J || ((T && i) || (P && (t && R))))))) (left-five (A && a) (K && k) I i (((P && s) && t) && r) ∙ ap (λ z. (A && a) || ((K && k) || (I || (i || z)))) (left-four P s t r))
    ∙ five (A && a) (K && k) I i (P && (s && (t && r))) (D && a) (L && k) J (T && i) (P && (t && R))
    ∙ same-five (both A D a) (both K L k) refl (absorbed T i) (rows P s r t R)

-- what declarations say of a name, against one more
abbrev pub reported_clash : PlainModule → List ℕ → DeclaredAs → List Declaration → Bool
reported_clash m n d all =
    (list_any (λ x. same_name x.name n && is_some x.dir) all && is_some d.dir)
    || ((list_any (λ x. same_name x.name n && is_some x.kind) all && is_some d.kind)
    || (list_any (λ x. same_name x.name n && x.instance) all
    || ((list_any (λ x. same_name x.name n) all && d.instance)
    || (is_port m n && (not (declares_supply (named n d)) && list_any (λ x. (same_name x.name n && not (declares_supply x)) && not (same_range x.range d.range)) all)))))

pub clash-any : (m : PlainModule) (n : List ℕ) (d : DeclaredAs) (all : List Declaration) → list_any (λ x. clashes m x (named n d)) all ≡ reported_clash m n d all
clash-any m n d [] = grind arith
clash-any m n d (x ∷ xs) = by (same_name x.name n) refl (clash-any m n d xs)
  where
    by : (b : Bool) → same_name x.name n ≡ b → list_any (λ y. clashes m y (named n d)) xs ≡ reported_clash m n d xs → (clashes m x (named n d) || list_any (λ y. clashes m y (named n d)) xs) ≡ reported_clash m n d (x ∷ xs)
    by false e rest = rw e rest
    by true e rest = rw e (
        ap₂ (λ p z. (((((is_some x.dir && is_some d.dir) || (is_some x.kind && is_some d.kind)) || x.instance) || d.instance) || (((p && not (declares_supply x)) && not (declares_supply (named n d))) && not (same_range x.range d.range))) || z)
        (ap (is_port m) (same_equal x.name n e)) rest
        ∙ clash-step (is_some x.dir) (is_some d.dir) (is_some x.kind) (is_some d.kind) x.instance d.instance (is_port m n) (not (declares_supply x)) (not (declares_supply (named n d))) (not (same_range x.range d.range))
        (list_any (λ y. same_name y.name n && is_some y.dir) xs) (list_any (λ y. same_name y.name n && is_some y.kind) xs) (list_any (λ y. same_name y.name n && y.instance) xs) (list_any (λ y. same_name y.name n) xs)
        (list_any (λ y. (same_name y.name n && not (declares_supply y)) && not (same_range y.range d.range)) xs))

any-plain : {A B : Type 0} (q : B → Bool) (f : A → B) (g : A → Bool) (xs : List A) → list_any q (map f (filter g xs)) ≡ list_any (λ x. g x && q (f x)) xs
any-plain q f g [] = refl
any-plain q f g (x ∷ xs) = by (g x) (any-plain q f g xs)
  where
    by : (b : Bool) → list_any q (map f (filter g xs)) ≡ list_any (λ y. g y && q (f y)) xs → list_any q (map f (cond b (x ∷ filter g xs) (filter g xs))) ≡ ((b && q (f x)) || list_any (λ y. g y && q (f y)) xs)
    by true rest = ap (λ z. q (f x) || z) rest
    by false rest = rest

-- by what is said of the name
pub clash_some : (m : PlainModule) (n : List ℕ) (d : DeclaredAs) (all : List Declaration) (s : Summary) → IsSummary n all (Some s)
    → list_any (λ x. clashes m x (named n d)) all ≡ leaves_no_room (is_port m n) (named n d) s
clash_some m n d all s h =
    let dir : list_any (λ x. same_name x.name n && is_some x.dir) all ≡ is_some s.dir = sym (said-any (λ x. same_name x.name n) (λ x. x.dir) all) ∙ ap is_some (sym h.dir) in
    let kind : list_any (λ x. same_name x.name n && is_some x.kind) all ≡ is_some s.kind = sym (said-any (λ x. same_name x.name n) (λ x. x.kind) all) ∙ ap is_some (sym h.kind) in
    let ranges : list_any (λ x. (same_name x.name n && not (declares_supply x)) && not (same_range x.range d.range)) all ≡ has_other s.ranges d.range =
    sym (any-plain (λ r. not (same_range r d.range)) (λ x. x.range) (λ x. same_name x.name n && not (declares_supply x)) all) ∙ sym (h.ranges d.range) in
    clash-any m n d all ∙ rw (dir, kind, sym h.instances, sym h.declared, ranges) refl

clash-nowhere : (m : PlainModule) (n : List ℕ) (d : DeclaredAs) (xs : List Declaration) → false ≡ list_any (λ x. same_name x.name n) xs → list_any (λ x. clashes m x (named n d)) xs ≡ false
clash-nowhere m n d [] e = refl
clash-nowhere m n d (x ∷ xs) e = by (same_name x.name n) refl e (clash-nowhere m n d xs)
  where
    by : (b : Bool) → same_name x.name n ≡ b → false ≡ (b || list_any (λ y. same_name y.name n) xs) → (false ≡ list_any (λ y. same_name y.name n) xs → list_any (λ y. clashes m y (named n d)) xs ≡ false)
        → (clashes m x (named n d) || list_any (λ y. clashes m y (named n d)) xs) ≡ false
    by true f g rest = absurd (grind (arith, g))
    by false f g rest = rw f (rest g)

pub clash_none : (m : PlainModule) (n : List ℕ) (d : DeclaredAs) (all : List Declaration) → IsSummary n all None → list_any (λ x. clashes m x (named n d)) all ≡ false
clash_none m n d all h = clash-nowhere m n d all h.declared
