-- The texts of bits and of paths are printable, since names in a well-formed text are.
use Rattle.std.proofs.Common.{◌≡◌, ◌⊎◌, ℕ, zero, suc, ◌+◌, ◌/◌, ◌%◌, ◌<◌, ◌≤◌, Bool, true, false, not, ◌&&◌, if◌then◌else◌, List, [], ◌∷◌, ◌++◌, map, filter, flat_map, Contains, Option, Some, None, IfSome, refl, sym, subst, inl, inr, arith, length-append, true≢false}
use Rattle.std.specs.Prelude.{codes, decimal, option_map, option_to_list, nat_lt, ◌==◌}
use Rattle.std.proofs.lemmas.Option.{same_Some}
use Rattle.std.specs.List.{AllByRecursion}
use Rattle.std.specs.Fmt.{digits, digits_onto, digit_glyph}
use Rattle.bb_bits.specs.Names.{same_name, IsPrintable}
use Rattle.bb_ast.specs.declared.expr.Op.{Op}
use Rattle.bb_ast.specs.declared.operators.WordOp.{WordOp}
use Rattle.bb_ast.specs.declared.module.Port.{Port}
use Rattle.bb_ast.specs.declared.module.Range.{Range}
use Rattle.bb_ast.specs.Folds.{of_operands, of_words, of_arms, of_parts}
use Rattle.bb_ast.specs.Inside.Formed.{IsFormedExpression, AreFormedOperands, AreFormedWords, AreFormedArms, AreFormedParts, IsFormedPair, IsFormedAssignment, IsFormedGate, IsFormedConns, IsFormedCall, IsFormedBody, IsFormedHead, IsFormed}
use Rattle.bb_ast.specs.Levels.{level_of}
use Rattle.bb_ast.specs.Names.{naming, names_in}
use Rattle.bb_ast.specs.Syntax.{Expression, Net, Bit as BitOf, Part, Sized, Plain, Not, Fold, Chain, Words, Cond, Concat, Repeat, Operands, no_operand, operand, WordOperands, no_word, word, Arms, no_arm, arm, Parts, no_part, part, PlainConns, Order, Named, PlainBody, Ports, Nets, Regs, Supply, Assign, Gates, Calls, Always, PlainItem, PlainHead, PlainModule}
use Rattle.bb_names.specs.declared.net.NetInfo.{NetInfo}
use Rattle.bb_names.specs.Declarations.{Declaration, port_declaration, declared_by_head, declared_by, declarations, is_declared, names_in_optional, names_in_conns, implicit_places, implicit_names}
use Rattle.bb_names.specs.Nets.{net_names, net_of, nets_of, is_empty}
use Rattle.bb_names.specs.Sites.{module_named}
use Rattle.bb_bits.specs.Earlier.{once}
use Rattle.bb_design.specs.Hierarchy.{Path, Design, Scope, Instance, instance_of, instances_in, instances_of, root, children, below, instances, scopes, boxes, is_box, is_top, path_to, too_low}
use Rattle.bb_design.specs.Inside.Allowed.{IsBounded}
use Rattle.bb_design.specs.NetBits.{Bit, bits_of_net, scope_bits, net_order}
use Rattle.bb_design.specs.Texts.{path_text, path_prefix, index_at, index_text, net_bit_text, range_at, bit_text}
use Rattle.bb_lemmas.proofs.Members.{each_of, from_flat, from_map, contains_cases, kept_from, none_in_nil, from_find, from_filter_map}
use Rattle.bb_design.specs.Laws.DesignLaws.{DesignLaws}

-- what holds of each element

all_append : {A : Type 0} (P : A → Type 0) (xs ys : List A) → AllByRecursion P xs → AllByRecursion P ys → AllByRecursion P (xs ++ ys)
all_append P [] ys p q = q
all_append P (x ∷ xs) ys p q = (p.0, all_append P xs ys p.1 q)

all_map : {A B : Type 0} (Q : A → Type 0) (P : B → Type 0) (f : A → B) → ((x : A) → Q x → P (f x)) → (xs : List A) → AllByRecursion Q xs → AllByRecursion P (map f xs)
all_map Q P f each [] all = tt
all_map Q P f each (x ∷ xs) all = (each x all.0, all_map Q P f each xs all.1)

all_flat : {A B : Type 0} (Q : A → Type 0) (P : B → Type 0) (f : A → List B) → ((x : A) → Q x → AllByRecursion P (f x)) → (xs : List A) → AllByRecursion Q xs → AllByRecursion P (flat_map f xs)
all_flat Q P f each [] all = tt
all_flat Q P f each (x ∷ xs) all = all_append P (f x) (flat_map f xs) (each x all.0) (all_flat Q P f each xs all.1)

all_filter : {A : Type 0} (P : A → Type 0) (p : A → Bool) (xs : List A) → AllByRecursion P xs → AllByRecursion P (filter p xs)
all_filter P p [] all = tt
all_filter P p (x ∷ xs) all = by (p x) (all_filter P p xs all.1)
  where
    by : (b : Bool) → AllByRecursion P (filter p xs) → AllByRecursion P (if b then x ∷ filter p xs else filter p xs)
    by true rest = (all.0, rest)
    by false rest = rest

-- names

mutual
  names_formed : (e : Expression) → IsFormedExpression e → AllByRecursion IsPrintable (names_in e)
  names_formed (Net n) formed = (formed, tt)
  names_formed (BitOf n i) formed = (formed.0, tt)
  names_formed (Part n i j) formed = (formed.0, tt)
  names_formed (Sized bits) formed = tt
  names_formed (Plain n) formed = tt
  names_formed (Not k e) formed = names_formed e formed.1
  names_formed (Fold op e) formed = names_formed e formed
  names_formed (Chain e no_operand) formed = absurd formed
  names_formed (Chain e (operand op x rest)) formed =
      all_append IsPrintable (names_in e) _ (names_formed e formed.0) (all_append IsPrintable (names_in x) _ (names_formed x formed.1) (operands_formed rest formed.2))
  names_formed (Words e no_word) formed = absurd formed
  names_formed (Words e (word op x rest)) formed =
      all_append IsPrintable (names_in e) _ (names_formed e formed.0) (all_append IsPrintable (names_in x) _ (names_formed x formed.1) (words_formed (level_of op) rest formed.2))
  names_formed (Cond no_arm last) formed = absurd formed
  names_formed (Cond (arm c v rest) last) formed =
      all_append IsPrintable ((names_in c ++ names_in v) ++ flat_map (λ (x : List (List ℕ) × List (List ℕ)). x.0 ++ x.1) (of_arms (λ e a. a) naming rest)) (names_in last)
      (all_append IsPrintable (names_in c ++ names_in v) _ (all_append IsPrintable (names_in c) (names_in v) (names_formed c formed.0) (names_formed v formed.1)) (arms_formed rest formed.2)) (names_formed last formed.3)
  names_formed (Concat no_part) formed = absurd formed
  names_formed (Concat (part e rest)) formed = all_append IsPrintable (names_in e) _ (names_formed e formed.0) (parts_formed rest formed.1)
  names_formed (Repeat k no_part) formed = absurd formed
  names_formed (Repeat k (part e rest)) formed = all_append IsPrintable (names_in e) _ (names_formed e formed.1) (parts_formed rest formed.2)

  operands_formed : (rest : Operands) → AreFormedOperands rest → AllByRecursion IsPrintable (flat_map (λ (x : Op × List (List ℕ)). x.1) (of_operands (λ e a. a) naming rest))
  operands_formed no_operand formed = tt
  operands_formed (operand op e rest) formed = all_append IsPrintable (names_in e) _ (names_formed e formed.0) (operands_formed rest formed.1)

  words_formed : (level : ℕ) (rest : WordOperands) → AreFormedWords level rest → AllByRecursion IsPrintable (flat_map (λ (x : WordOp × List (List ℕ)). x.1) (of_words (λ e a. a) naming rest))
  words_formed level no_word formed = tt
  words_formed level (word op e rest) formed = all_append IsPrintable (names_in e) _ (names_formed e formed.1) (words_formed level rest formed.2)

  arms_formed : (rest : Arms) → AreFormedArms rest → AllByRecursion IsPrintable (flat_map (λ (x : List (List ℕ) × List (List ℕ)). x.0 ++ x.1) (of_arms (λ e a. a) naming rest))
  arms_formed no_arm formed = tt
  arms_formed (arm c v rest) formed =
      all_append IsPrintable (names_in c ++ names_in v) _ (all_append IsPrintable (names_in c) (names_in v) (names_formed c formed.0) (names_formed v formed.1)) (arms_formed rest formed.2)

  parts_formed : (rest : Parts) → AreFormedParts rest → AllByRecursion IsPrintable (flat_map (λ e. e) (of_parts (λ e a. a) naming rest))
  parts_formed no_part formed = tt
  parts_formed (part e rest) formed = all_append IsPrintable (names_in e) _ (names_formed e formed.0) (parts_formed rest formed.1)

optional_formed : (e : Option Expression) → IfSome e IsFormedExpression → AllByRecursion IsPrintable (names_in_optional e)
optional_formed None formed = tt
optional_formed (Some e) formed = names_formed e formed

conns_formed : (conns : PlainConns) → IsFormedConns conns → AllByRecursion IsPrintable (names_in_conns conns)
conns_formed (Order []) formed = tt
conns_formed (Order (None ∷ [])) formed = absurd formed
conns_formed (Order (None ∷ y ∷ ys)) formed = all_flat (λ place. IfSome place IsFormedExpression) IsPrintable names_in_optional optional_formed (None ∷ y ∷ ys) formed
conns_formed (Order (Some e ∷ ys)) formed = all_flat (λ place. IfSome place IsFormedExpression) IsPrintable names_in_optional optional_formed (Some e ∷ ys) formed
conns_formed (Named all) formed = all_flat IsFormedPair IsPrintable (λ x. names_in_optional x.1) (λ x p. optional_formed x.1 p.1) all formed.1

places_formed : (body : PlainBody) → IsFormedBody body → AllByRecursion IsPrintable (implicit_places body)
places_formed (Ports port names) formed = tt
places_formed (Nets range nets) formed = tt
places_formed (Regs range names) formed = tt
places_formed (Supply high range names) formed = tt
places_formed (Assign all) formed = all_flat IsFormedAssignment IsPrintable (λ x. names_in x.0) (λ x p. names_formed x.0 p.0) all formed.1
places_formed (Gates gate all) formed = all_flat IsFormedGate IsPrintable (λ x. flat_map names_in x.1) (λ x p. all_flat IsFormedExpression IsPrintable names_in names_formed x.1 p.2) all formed.1
places_formed (Calls target calls) formed = all_flat IsFormedCall IsPrintable (λ x. names_in_conns x.1) (λ x p. conns_formed x.1 p.1) calls formed.1.1
places_formed (Always r) formed = tt

abbrev IsNamed : Declaration → Type 0
IsNamed x = IsPrintable x.name

declared_formed : (body : PlainBody) → IsFormedBody body → AllByRecursion IsNamed (declared_by body)
declared_formed (Ports port names) formed = all_map IsPrintable IsNamed (port_declaration port) (λ n p. p) names formed.1.1
declared_formed (Nets range nets) formed = all_map IsFormedPair IsNamed _ (λ x p. p.0) nets formed.1.1
declared_formed (Regs range names) formed = all_map IsPrintable IsNamed _ (λ n p. p) names formed.1.1
declared_formed (Supply high range names) formed = all_map IsPrintable IsNamed _ (λ n p. p) names formed.1.1
declared_formed (Calls target calls) formed = all_map IsFormedCall IsNamed _ (λ x p. p.0) calls formed.1.1
declared_formed (Assign all) formed = tt
declared_formed (Gates gate all) formed = tt
declared_formed (Always r) formed = tt

head_formed : (head : PlainHead) → IsFormedHead head → AllByRecursion IsNamed (declared_by_head head)
head_formed head formed = by head.decl
  where
    by : (decl : Option Port) → AllByRecursion IsNamed (option_to_list (option_map (λ port. port_declaration port head.name) decl))
    by None = tt
    by (Some port) = (formed.0, tt)

once_formed : (ns : List (List ℕ)) → AllByRecursion IsPrintable ns → AllByRecursion IsPrintable (once ns)
once_formed [] all = tt
once_formed (n ∷ ns) all = (all.0, all_filter IsPrintable (λ m. not (same_name n m)) (once ns) (once_formed ns all.1))

net_names_formed : (m : PlainModule) → IsFormed m → AllByRecursion IsPrintable (net_names m)
net_names_formed m formed =
    let heads = all_map IsFormedHead IsPrintable (λ (head : PlainHead). head.name) (λ head p. p.0) m.heads formed.1 in
    let declared = all_append IsNamed (flat_map declared_by_head m.heads) (flat_map (λ (item : PlainItem). declared_by item.body) m.items)
    (all_flat IsFormedHead IsNamed declared_by_head head_formed m.heads formed.1)
    (all_flat (λ (item : PlainItem). IsFormedBody item.body) IsNamed (λ (item : PlainItem). declared_by item.body) (λ item p. declared_formed item.body p) m.items formed.2) in
    let nets = all_map IsNamed IsPrintable (λ (x : Declaration). x.name) (λ x p. p) (filter (λ x. not x.instance) (declarations m)) (all_filter IsNamed (λ x. not x.instance) (declarations m) declared) in
    let implicit = all_filter IsPrintable (λ n. not (is_declared m n)) (flat_map (λ (item : PlainItem). implicit_places item.body) m.items)
    (all_flat (λ (item : PlainItem). IsFormedBody item.body) IsPrintable (λ (item : PlainItem). implicit_places item.body) (λ item p. places_formed item.body p) m.items formed.2) in
    once_formed (map (λ (head : PlainHead). head.name) m.heads ++ map (λ (x : Declaration). x.name) (filter (λ x. not x.instance) (declarations m)) ++ implicit_names m)
    (all_append IsPrintable (map (λ (head : PlainHead). head.name) m.heads ++ map (λ (x : Declaration). x.name) (filter (λ x. not x.instance) (declarations m))) (implicit_names m)
    (all_append IsPrintable (map (λ (head : PlainHead). head.name) m.heads) (map (λ (x : Declaration). x.name) (filter (λ x. not x.instance) (declarations m))) heads nets) implicit)

net_formed : (m : PlainModule) → IsFormed m → (net : NetInfo) → Contains (nets_of m) net → IsPrintable net.name
net_formed m formed net has =
    let n = from_map (net_of m) (net_names m) net has in
    subst (λ (x : NetInfo). IsPrintable x.name) n.2 (each_of IsPrintable (net_names m) (net_names_formed m formed) n.0 n.1)

instances_formed : (body : PlainBody) → IsFormedBody body → (i : Instance) → Contains (instances_in body) i → IsPrintable i.name
instances_formed (Calls target calls) formed i has =
    let x = from_map (instance_of target) calls i has in
    subst (λ (j : Instance). IsPrintable j.name) x.2 (each_of IsFormedCall calls formed.1.1 x.0 x.1).0
instances_formed (Ports port names) formed i has = absurd (none_in_nil i has)
instances_formed (Nets range nets) formed i has = absurd (none_in_nil i has)
instances_formed (Regs range names) formed i has = absurd (none_in_nil i has)
instances_formed (Supply high range names) formed i has = absurd (none_in_nil i has)
instances_formed (Assign all) formed i has = absurd (none_in_nil i has)
instances_formed (Gates gate all) formed i has = absurd (none_in_nil i has)
instances_formed (Always r) formed i has = absurd (none_in_nil i has)

instance_formed : (m : PlainModule) → IsFormed m → (i : Instance) → Contains (instances_of m) i → IsPrintable i.name
instance_formed m formed i has =
    let item = from_flat (λ (item : PlainItem). instances_in item.body) m.items i has in
    instances_formed item.0.body (each_of (λ (item : PlainItem). IsFormedBody item.body) m.items formed.2 item.0 item.1) i item.2

-- texts

abbrev IsByte : ℕ → Type 0
IsByte b = (33 ≤ b) × (b ≤ 126)

joined : (a b : List ℕ) → IsPrintable a → AllByRecursion IsByte b → IsPrintable (a ++ b)
joined a b first second = let some = first.0 in (omega (arith, some, length-append a b), all_append IsByte a b first.1 second)

ahead : (a b : List ℕ) → AllByRecursion IsByte a → IsPrintable b → IsPrintable (a ++ b)
ahead a b first second = let some = second.0 in (omega (arith, some, length-append a b), all_append IsByte a b first second.1)

dot : AllByRecursion IsByte (codes ".")
dot = ((omega arith, omega arith), tt)

path_formed : (n : List ℕ) (path : Path) → AllByRecursion IsPrintable (n ∷ path) → IsPrintable (path_text (n ∷ path))
path_formed n [] all = all.0
path_formed n (m ∷ path) all =
    joined n (codes "." ++ path_text (m ∷ path)) all.0 (all_append IsByte (codes ".") (path_text (m ∷ path)) dot (path_formed m path all.1).1)

prefix_formed : (path : Path) → AllByRecursion IsPrintable path → AllByRecursion IsByte (path_prefix path)
prefix_formed [] all = tt
prefix_formed (n ∷ path) all = all_append IsByte (path_text (n ∷ path)) (codes ".") (path_formed n path all).1 dot

glyph_formed : (d : ℕ) → d < 10 → IsByte (digit_glyph false d)
glyph_formed d low = by (nat_lt d 10) refl
  where
    by : (b : Bool) → nat_lt d 10 ≡ b → IsByte (if b then 48 + d else (if false then 55 + d else 87 + d))
    by true is = (omega (arith, low), omega (arith, low))
    by false is = absurd (grind (arith, is, low))

digits_formed : (k n : ℕ) (acc : List ℕ) → AllByRecursion IsByte acc → AllByRecursion IsByte (digits_onto k 10 false n acc)
digits_formed zero n acc all = all
digits_formed (suc k) n acc all = by (n / 10 == 0) (glyph_formed (n % 10) (omega arith), all) (digits_formed k (n / 10) (digit_glyph false (n % 10) ∷ acc))
  where
    More : Type 0
    More = AllByRecursion IsByte (digit_glyph false (n % 10) ∷ acc)

    by : (b : Bool) → More → (More → AllByRecursion IsByte (digits_onto k 10 false (n / 10) (digit_glyph false (n % 10) ∷ acc)))
        → AllByRecursion IsByte (if b then digit_glyph false (n % 10) ∷ acc else digits_onto k 10 false (n / 10) (digit_glyph false (n % 10) ∷ acc))
    by true more rest = more
    by false more rest = rest more

decimal_formed : (n : ℕ) → AllByRecursion IsByte (decimal n)
unfolding digits
decimal_formed n = digits_formed 64 n [] tt

index_formed : (range : Option Range) (place : ℕ) → AllByRecursion IsByte (index_text range place)
index_formed None place = tt
index_formed (Some r) place =
    all_append IsByte (codes "[") (decimal (index_at r place) ++ codes "]") ((omega arith, omega arith), tt)
    (all_append IsByte (decimal (index_at r place)) (codes "]") (decimal_formed (index_at r place)) ((omega arith, omega arith), tt))

-- the names of the instances that lead to a scope

child_formed : (text : List PlainModule) → AllByRecursion IsFormed text → (s : Scope) → Contains text s.source → AllByRecursion IsPrintable s.path → (c : Scope) → Contains (children text s) c → AllByRecursion IsPrintable c.path × Contains text c.source
child_formed text formed s there all c has =
    let i = from_filter_map (λ (i : Instance). option_map (λ m. record { path = path_to s.path i.name; source = m }) (module_named text i.target)) (instances_of s.source) c has in
    by i.0 (instance_formed s.source (each_of IsFormed text formed s.source there) i.0 i.1) (module_named text i.0.target) refl i.2
  where
    by : (i : Instance) → IsPrintable i.name → (o : Option PlainModule) → module_named text i.target ≡ o → option_map (λ m. record { path = path_to s.path i.name; source = m }) o ≡ Some c → AllByRecursion IsPrintable c.path × Contains text c.source
    by i printable None named is = absurd (grind (arith, is))
    by i printable (Some m) named is =
        subst (λ (x : Scope). AllByRecursion IsPrintable x.path × Contains text x.source) (same_Some (record { path = path_to s.path i.name; source = m }) c is)
        (all_append IsPrintable s.path (i.name ∷ []) all (printable, tt), (from_find (λ (x : PlainModule). same_name x.name i.target) text m named).0)

below_formed : (n : ℕ) (text : List PlainModule) → AllByRecursion IsFormed text → (s : Scope) → Contains text s.source → AllByRecursion IsPrintable s.path → (c : Scope) → Contains (below n text s) c → AllByRecursion IsPrintable c.path
unfolding below
below_formed zero text formed s there all c has = absurd (none_in_nil c has)
below_formed (suc n) text formed s there all c has =
    let x = from_flat (λ c. c ∷ below n text c) (children text s) c has in
    let is = child_formed text formed s there all x.0 x.1 in
    by x.0 is.0 (below_formed n text formed x.0 is.1 is.0 c) (contains_cases x.0 (below n text x.0) c x.2)
  where
    by : (x : Scope) → AllByRecursion IsPrintable x.path → (Contains (below n text x) c → AllByRecursion IsPrintable c.path) → (x ≡ c) ⊎ Contains (below n text x) c → AllByRecursion IsPrintable c.path
    by x here rest (inl same) = subst (λ (y : Scope). AllByRecursion IsPrintable y.path) same here
    by x here rest (inr more) = rest more

module _ (of_designs : DesignLaws) (d : Design) (bounded : IsBounded d) where
  scope_formed : (s : Scope) → Contains (scopes d) s → AllByRecursion IsPrintable s.path
  scope_formed s has = by (contains_cases (root d) (instances d) s has)
    where
      by : (root d ≡ s) ⊎ Contains (instances d) s → AllByRecursion IsPrintable s.path
      by (inl same) = subst (λ (y : Scope). AllByRecursion IsPrintable y.path) same tt
      by (inr more) = below_formed too_low d.text bounded.formed (root d) bounded.top tt s more

  pub bit_printable : (b : Bit) → Contains (net_order d) b → IsPrintable (bit_text d b)
  bit_printable b has =
      let s = from_flat scope_bits (scopes d) b has in
      let net = from_flat (bits_of_net s.0.path) (nets_of s.0.source) b s.2 in
      let place = from_map (λ i. record { path = s.0.path; net = net.0.name; place = i }) _ b net.2 in
      let name = net_formed s.0.source (each_of IsFormed d.text bounded.formed s.0.source (of_designs.of_text d s.0 bounded.top s.1)) net.0 net.1 in
      let path = scope_formed s.0 s.1 in
      subst (λ (c : Bit). IsPrintable (bit_text d c)) place.2
      (ahead (path_prefix s.0.path) (net_bit_text net.0.name (range_at d (record { path = s.0.path; net = net.0.name; place = place.0 })) place.0) (prefix_formed s.0.path path)
      (joined net.0.name (index_text (range_at d (record { path = s.0.path; net = net.0.name; place = place.0 })) place.0) name (index_formed _ place.0)))

  pub box_printable : (s : Scope) → Contains (boxes d) s → IsPrintable (path_text s.path)
  box_printable s has = let x = kept_from is_box (scopes d) s has in by s.path (scope_formed s x.0) x.1
    where
      by : (path : Path) → AllByRecursion IsPrintable path → (not (is_top path) && is_empty s.source) ≡ true → IsPrintable (path_text path)
      by [] all boxed = absurd (true≢false (sym boxed))
      by (n ∷ path) all boxed = path_formed n path all
