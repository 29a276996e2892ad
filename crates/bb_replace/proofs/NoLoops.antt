-- No loop comes with modules in place of boxes that have none by themselves. Each bit has a rank of two numbers: outside
-- the boxes, and at their inputs, twice its level in the design with boxes; inside a box a number between those of its
-- inputs and those of its outputs, and then its level in the module alone. Along each dependence ranks fall.
use Rattle.std.proofs.Common.{◌≡◌, ◌⊎◌, ℕ, ◌+◌, ◌*◌, ◌<◌, ◌≤◌, Bool, true, false, List, [], ◌∷◌, ◌++◌, map, max, All, Contains, Option, Some, None, inl, inr, refl, sym, ap, ap₂, ◌∙◌, subst, arith, true≢false}
use Rattle.std.proofs.lemmas.List.{map-append}
use Rattle.std.specs.List.{enumerate_from, flat_map, list_any, zip}
use Rattle.std.proofs.lemmas.List.Elements.{All-contains, Contains-append_cases}
use Rattle.bb_ast.specs.Syntax.{Expression, PlainModule}
use Rattle.bb_bits.specs.Closures.{IsDistinct, IsFirst, Leads, One, More}
use Rattle.bb_expr.specs.Terms.{Const, Net, Not, And, Or, Xor, Mux, Term}
use Rattle.bb_names.specs.Nets.{is_empty}
use Rattle.bb_names.specs.Sites.{Pin, module_named}
use Rattle.bb_lemmas.proofs.Members.{contains-map, contains_cases, contains_here, contains_there, from_flat, from_map, into_flat, none_in_nil}
use Rattle.bb_lemmas.proofs.Numbered.{numbered_there}
use Rattle.bb_design.specs.Constructs.{Assignment, BoxContents, Construct, GateInstance, InputConnection, OutputConnection, Register, SupplyNet, constructs_at, parts}
use Rattle.bb_design.specs.Contexts.{assigned_terms, made_in, width_of}
use Rattle.bb_design.specs.Dependence.{IsOnLoop, bits_below, dependences, needed}
use Rattle.bb_design.specs.Drivers.{Box, Drive, DrivingSource, Free, MadeOf, driven, driven_bits, driven_by, drives, drives_at, terminal_terms}
use Rattle.bb_design.specs.GateFunctions.{gate_gives, on_terms}
use Rattle.bb_design.specs.Hierarchy.{Design, Path, Scope, path_to, scopes}
use Rattle.bb_design.specs.Laws.BitLaws.{BitsAreFound}
use Rattle.bb_design.specs.Laws.CauseLaws.{CyclesAreReported}
use Rattle.bb_design.specs.Laws.Wired.{IsWired}
use Rattle.bb_design.specs.Laws.{BitsAreThere}
use Rattle.bb_design.specs.NetBits.{Bit, input_bits, net_order, output_bits, pin_bits, same_bit, scope_bits, top_inputs, top_outputs, written_bits}
use Rattle.bb_design.specs.Refusals.{AreDriven, AreDrivenOnce, IsAcyclic}
use Rattle.bb_design.specs.Texts.{bit_text}
use Rattle.bb_replace.specs.Laws.Replacement.{AllMayReplace, MayReplace, alone, scope_of, replaced, replaced_design}
use Rattle.bb_replace.proofs.DrivenOnce.{HavePortsAlone, apart_alone, inner_path, is_boxed, outputs_driven, unmoved}
use Rattle.bb_replace.proofs.DrivenReads.{distinct_same, in_or_out}
use Rattle.bb_replace.proofs.MovedDrives.{IsPlain, at, drive_at, source_at}
use Rattle.bb_replace.proofs.ReadBits.{IsWhole, alone_of, drives_there, inputs_at, one_box, outputs_at, port_of}
use Rattle.bb_replace.proofs.ReplacedConstructs.{same_constructs}
use Rattle.bb_replace.proofs.ReplacedDrivers.{bits_driven, distinct_across, distinct_right, driven_flat, drives_flat, drives_in, drives_moved, plain_there, to_distinct}
use Rattle.bb_replace.proofs.ReplacedModules.{Place, Stays, Goes, place_for}
use Rattle.bb_replace.proofs.ReplacedRegisters.{Below, input_path, output_path, scope_path, source_there}
use Rattle.bb_replace.proofs.ReplacedScopes.{changed, scopes_same}

-- the greatest of the levels of some bits, 0 where there are none
pub greatest : (Bit → ℕ) → List Bit → ℕ
greatest level [] = 0
greatest level (b ∷ bs) = max (level b) (greatest level bs)

at_most : (level : Bit → ℕ) (bs : List Bit) (b : Bit) → Contains bs b → level b ≤ greatest level bs
unfolding greatest
at_most level [] b has = absurd (none_in_nil b has)
at_most level (c ∷ bs) b has = by (contains_cases c bs b has) (at_most level bs b)
  where
    by : (c ≡ b) ⊎ Contains bs b → (Contains bs b → level b ≤ greatest level bs) → level b ≤ max (level c) (greatest level bs)
    by (inl same) more = let here : level c ≡ level b = ap level same in grind (arith, here)
    by (inr h) more = let there = more h in grind (arith, there)

all_below : (level : Bit → ℕ) (bs : List Bit) (n : ℕ) → ((b : Bit) → Contains bs b → level b < n) → greatest level bs ≤ n
unfolding greatest
all_below level [] n below = omega arith
all_below level (c ∷ bs) n below =
    let here = below c (contains_here c bs) in
    let there = all_below level bs n (λ b has. below b (contains_there c bs b has)) in
    grind (arith, here, there)

-- bits of which a term of a scope is made

in_two : (path : Path) (xs ys : List Bit) (b : Bit) → (Contains xs b → b.path ≡ path) → (Contains ys b → b.path ≡ path) → Contains (xs ++ ys) b → b.path ≡ path
in_two path xs ys b f g has = by (Contains-append_cases xs ys b has)
  where
    by : Contains xs b ⊎ Contains ys b → b.path ≡ path
    by (inl h) = f h
    by (inr h) = g h

below_path : (path : Path) (t : Term) (b : Bit) → Contains (bits_below path t) b → b.path ≡ path
below_path path (Const x) b has = absurd (none_in_nil b has)
below_path path (Net n i) b has = by (contains_cases (record { path = path; net = n; place = i }) [] b has)
  where
    by : (record { path = path; net = n; place = i } ≡ b) ⊎ Contains {X = Bit} [] b → b.path ≡ path
    by (inl same) = sym (ap (λ (z : Bit). z.path) same)
    by (inr h) = absurd (none_in_nil b h)
below_path path (Not x) b has = below_path path x b has
below_path path (And x y) b has = in_two path (bits_below path x) (bits_below path y) b (below_path path x b) (below_path path y b) has
below_path path (Or x y) b has = in_two path (bits_below path x) (bits_below path y) b (below_path path x b) (below_path path y b) has
below_path path (Xor x y) b has = in_two path (bits_below path x) (bits_below path y) b (below_path path x b) (below_path path y b) has
below_path path (Mux x y z) b has =
    in_two path (bits_below path x ++ bits_below path y) (bits_below path z) b (in_two path (bits_below path x) (bits_below path y) b (below_path path x b) (below_path path y b)) (below_path path z b) has

below_at : (path : Path) (t : Term) → bits_below path t ≡ map (at path) (bits_below [] t)
below_at path (Const x) = refl
below_at path (Net n i) = refl
below_at path (Not x) = below_at path x
below_at path (And x y) = ap₂ (λ a b. a ++ b) (below_at path x) (below_at path y) ∙ sym (map-append (at path) (bits_below [] x) (bits_below [] y))
below_at path (Or x y) = ap₂ (λ a b. a ++ b) (below_at path x) (below_at path y) ∙ sym (map-append (at path) (bits_below [] x) (bits_below [] y))
below_at path (Xor x y) = ap₂ (λ a b. a ++ b) (below_at path x) (below_at path y) ∙ sym (map-append (at path) (bits_below [] x) (bits_below [] y))
below_at path (Mux x y z) =
    ap₂ (λ a b. a ++ b) (ap₂ (λ a b. a ++ b) (below_at path x) (below_at path y) ∙ sym (map-append (at path) (bits_below [] x) (bits_below [] y))) (below_at path z)
    ∙ sym (map-append (at path) (bits_below [] x ++ bits_below [] y) (bits_below [] z))

driven_terms : (path : Path) (bits : List Bit) (terms : List Term) (x : Drive) (b : Bit) → Contains (driven_by path bits terms) x → Contains (needed x.source) b → (t : Term) × Contains terms t × Contains (bits_below path t) b
driven_terms path bits terms x b has need =
    let z = from_map (λ (z : Bit × Term). driven (MadeOf path z.1) z.0) (zip bits terms) x has in
    (z.0.1, zip_right bits terms z.0 z.1, subst (λ (y : Drive). Contains (needed y.source) b) (sym z.2) need)
  where
    zip_right : (xs : List Bit) (ys : List Term) (z : Bit × Term) → Contains (zip xs ys) z → Contains ys z.1
    zip_right [] ys z has = absurd (none_in_nil z has)
    zip_right (x ∷ xs) [] z has = absurd (none_in_nil z has)
    zip_right (x ∷ xs) (y ∷ ys) z has = by (contains_cases (x, y) (zip xs ys) z has) (zip_right xs ys z)
      where
        by : ((x, y) ≡ z) ⊎ Contains (zip xs ys) z → (Contains (zip xs ys) z → Contains ys z.1) → Contains (y ∷ ys) z.1
        by (inl same) more = subst (Contains (y ∷ ys)) (ap (λ (u : Bit × Term). u.1) same) (contains_here y ys)
        by (inr h) more = contains_there y ys z.1 (more h)

-- a drive of a construct depends on bits of its scope, or on pins of its instances
need_of : (s : Scope) (c : Construct) (x : Drive) (b : Bit) → Contains (drives_at (s, c)) x → Contains (needed x.source) b → (b.path ≡ s.path) ⊎ ((i : List ℕ) × (pin : Pin) × (e : Expression) × (c ≡ OutputConnection i pin e) × Contains (pin_bits (path_to s.path i) pin) b)
need_of s (Assignment left right) x b has need = let t = driven_terms s.path (written_bits s left) (assigned_terms s left right) x b has need in inl (below_path s.path t.0 b t.2)
need_of s (GateInstance gate outs ins) x b has need =
    let t = gate_gives on_terms gate (terminal_terms s ins) in
    let z = from_map (driven (MadeOf s.path t)) (flat_map (written_bits s) outs) x has in
    inl (below_path s.path t b (subst (λ (y : Drive). Contains (needed y.source) b) (sym z.2) need))
need_of s (Register r) x b has need = let z = from_map (driven Free) (written_bits s r.left) x has in absurd (none_in_nil b (subst (λ (y : Drive). Contains (needed y.source) b) (sym z.2) need))
need_of s (SupplyNet high n) x b has need = let z = from_map (driven (MadeOf s.path (Const high))) _ x has in absurd (none_in_nil b (subst (λ (y : Drive). Contains (needed y.source) b) (sym z.2) need))
need_of s (InputConnection i pin e) x b has need = let t = driven_terms s.path (pin_bits (path_to s.path i) pin) (made_in s e (width_of s e)).bits x b has need in inl (below_path s.path t.0 b t.2)
need_of s (OutputConnection i pin e) x b has need =
    let t = driven_terms (path_to s.path i) (written_bits s e) (map (λ (b : Bit). Net b.net b.place) (pin_bits (path_to s.path i) pin)) x b has need in
    let k = from_map (λ (b : Bit). Net b.net b.place) (pin_bits (path_to s.path i) pin) t.0 t.1 in
    inr (i, pin, e, refl, pinned k.0 k.1 (subst (λ z. Contains (bits_below (path_to s.path i) z) b) (sym k.2) t.2))
  where
    pinned : (k : Bit) → Contains (pin_bits (path_to s.path i) pin) k → Contains (bits_below (path_to s.path i) (Net k.net k.place)) b → Contains (pin_bits (path_to s.path i) pin) b
    pinned k there h = by (contains_cases (record { path = path_to s.path i; net = k.net; place = k.place }) [] b h)
      where
        path : path_to s.path i ≡ k.path
        path = let z = from_map (λ (j : ℕ). record { path = path_to s.path i; net = pin.name; place = j }) _ k there in ap (λ (y : Bit). y.path) z.2

        by : (record { path = path_to s.path i; net = k.net; place = k.place } ≡ b) ⊎ Contains {X = Bit} [] b → Contains (pin_bits (path_to s.path i) pin) b
        by (inl same) = subst (Contains (pin_bits (path_to s.path i) pin)) (ap (λ p. record { path = p; net = k.net; place = k.place }) (sym path) ∙ same) there
        by (inr h) = absurd (none_in_nil b h)
need_of s BoxContents x b has need =
    let z = from_map (λ (y : ℕ × Bit). driven (Box s y.0) y.1) (enumerate_from 0 (output_bits s)) x has in
    let there : Contains (input_bits s) b = subst (λ (y : Drive). Contains (needed y.source) b) (sym z.2) need in
    inl (input_path s b there)

module _ (modules : List PlainModule) (d : Design) (laws : Below d) (may : AllMayReplace modules d.text) (found : BitsAreFound) (bits : BitsAreThere d) (ports : HavePortsAlone d) (stands : is_empty d.top ≡ false) (once : AreDrivenOnce d) (reads : AreDriven d) (whole : (s : Scope) → Contains (scopes d) s → is_empty s.source ≡ true → (m : PlainModule) → module_named modules s.source.name ≡ Some m → IsWhole m)
    (wired : IsWired d) (levels : IsAcyclic d) (alone_levels : (m : PlainModule) (n : List ℕ) → module_named modules n ≡ Some m → IsAcyclic (alone m)) where
  abbrev new : Design
  new = replaced_design modules d

  abbrev level : Bit → ℕ
  level = levels.0

  -- a box that a module finishes
  pub record IsFinished (s : Scope) : Type 0 where
    pub m : PlainModule
    pub has : Contains (scopes d) s
    pub empty : is_empty s.source ≡ true
    pub named : module_named modules s.source.name ≡ Some m
    pub goes : replaced modules s.source ≡ m

  fitting : (s : Scope) (f : IsFinished s) → MayReplace s.source f.m
  fitting s f = may s.source f.m (source_there d laws s f.has) f.empty f.named

  abbrev pub between : Scope → ℕ
  between s = 2 * greatest level (input_bits s) + 1

  level_for : (n : List ℕ) (o : Option PlainModule) → module_named modules n ≡ o → Bit → ℕ
  level_for n None e b = 0
  level_for n (Some m) e b = (alone_levels m n e).0 b

  -- the level in the module alone
  pub inner_level : Scope → Bit → ℕ
  inner_level s = level_for s.source.name (module_named modules s.source.name) refl

  inner_falls : (s : Scope) (m : PlainModule) → module_named modules s.source.name ≡ Some m → All (λ x. inner_level s x.1 < inner_level s x.0) (dependences (alone m))
  unfolding inner_level level_for
  inner_falls s m named = by (module_named modules s.source.name) refl named
    where
      by : (o : Option PlainModule) (e : module_named modules s.source.name ≡ o) → o ≡ Some m → All (λ x. level_for s.source.name o e x.1 < level_for s.source.name o e x.0) (dependences (alone m))
      by None e f = grind (arith, f)
      by (Some n) e f = let same : n ≡ m = grind (arith, f) in subst (λ z. All (λ x. (alone_levels n s.source.name e).0 x.1 < (alone_levels n s.source.name e).0 x.0) (dependences (alone z))) same (alone_levels n s.source.name e).1

  pub data Rank (b : Bit) (n k : ℕ) : Type 0 where
    Outer : ((s : Scope) → IsFinished s → b.path ≡ s.path → Contains (input_bits s) b) → n ≡ 2 * level b → k ≡ 0 → Rank b n k
    Inner : (s : Scope) → IsFinished s → (c : Bit) → c.path ≡ [] → at s.path c ≡ b → (Contains (input_bits s) b → ⊥) → n ≡ between s → k ≡ inner_level s c → Rank b n k

  abbrev IsLess : ℕ → ℕ → ℕ → ℕ → Type 0
  IsLess n k p q = (n < p) ⊎ ((n ≡ p) × (k < q))

  same_box : (s t : Scope) → IsFinished s → IsFinished t → s.path ≡ t.path → s ≡ t
  same_box s t f h path = one_box modules d laws may found bits ports stands once reads whole s t f.has h.has path

  -- a bit has one rank
  one_rank : (b : Bit) (n k p q : ℕ) → Rank b n k → Rank b p q → (n ≡ p) × (k ≡ q)
  one_rank b n k p q (Outer o e g) (Outer o2 e2 g2) = (e ∙ sym e2, g ∙ sym g2)
  one_rank b n k p q (Outer o e g) (Inner s f c root is out e2 g2) = absurd (out (o s f (sym (ap (λ (z : Bit). z.path) is))))
  one_rank b n k p q (Inner s f c root is out e g) (Outer o e2 g2) = absurd (out (o s f (sym (ap (λ (z : Bit). z.path) is))))
  one_rank b n k p q (Inner s f c root is out e g) (Inner t h i root2 is2 out2 e2 g2) =
      let path : s.path ≡ t.path = ap (λ (z : Bit). z.path) (is ∙ sym is2) in
      let same : s ≡ t = same_box s t f h path in
      let bit : c ≡ i = unmoved s.path c i root root2 (is ∙ sym is2 ∙ ap (λ z. at z i) (sym path)) in
      (e ∙ ap between same ∙ sym e2, g ∙ ap₂ inner_level same bit ∙ sym g2)

  -- ranks fall along a dependence
  pub record Falls (b c : Bit) : Type 0 where
    pub n : ℕ
    pub k : ℕ
    pub p : ℕ
    pub q : ℕ
    pub of : Rank b n k
    pub to : Rank c p q
    pub less : IsLess p q n k

  twice_falls : (b c : Bit) → Falls b c → (e : Bit) → Falls c e → Falls b e
  twice_falls b c f e g =
      let same = one_rank c f.p f.q g.n g.k f.to g.of in
      record { n = f.n; k = f.k; p = g.p; q = g.q; of = f.of; to = g.to; less = by f.less g.less same.0 same.1 }
    where
      by : IsLess f.p f.q f.n f.k → IsLess g.p g.q g.n g.k → f.p ≡ g.n → f.q ≡ g.k → IsLess g.p g.q f.n f.k
      by (inl a) (inl b) x y = inl (omega (arith, a, b, x))
      by (inl a) (inr b) x y = inl (omega (arith, a, b.0, x))
      by (inr a) (inl b) x y = inl (omega (arith, a.0, b, x))
      by (inr a) (inr b) x y = inr (omega (arith, a.0, b.0, x), omega (arith, a.1, b.1, y))

  never : (b : Bit) → Falls b b → ⊥
  never b f = let same = one_rank b f.n f.k f.p f.q f.of f.to in by f.less same.0 same.1
    where
      by : IsLess f.p f.q f.n f.k → f.n ≡ f.p → f.k ≡ f.q → ⊥
      by (inl a) x y = omega (arith, a, x)
      by (inr a) x y = omega (arith, a.1, y)

  -- in the design with boxes levels fall

  design_falls : (x : Drive) (c : Bit) → Contains (drives d) x → Contains (needed x.source) c → level c < level x.bit
  design_falls x c has need = All-contains (λ y. level y.1 < level y.0) (dependences d) (x.bit, c) levels.1
      (into_flat (λ (x : Drive). map (λ (c : Bit). (x.bit, c)) (needed x.source)) (drives d) x (x.bit, c) has (contains-map (λ (c : Bit). (x.bit, c)) (needed x.source) c need))

  -- a box's inputs are below its outputs
  box_levels : (s : Scope) → IsFinished s → (o : Bit) → Contains (output_bits s) o → greatest level (input_bits s) ≤ level o
  box_levels s f o out =
      let box = is_boxed modules d laws may found bits ports stands (alone_of modules d laws may found bits ports stands once reads whole) s f.has f.empty in
      let k = numbered_there 0 (output_bits s) o out in
      let listed : constructs_at d.text s ≡ BoxContents ∷ [] = grind (arith, box) in
      let here : Contains (drives_at (s, BoxContents)) (driven (Box s k.0) o) = contains-map (λ (y : ℕ × Bit). driven (Box s y.0) y.1) (enumerate_from 0 (output_bits s)) (k.0, o) k.1 in
      let part : Contains {X = Scope × Construct} (map (λ c. (s, c)) (constructs_at d.text s)) (s, BoxContents) = subst (λ l. Contains {X = Scope × Construct} (map (λ c. (s, c)) l) (s, BoxContents)) (sym listed) (contains_here {A = Scope × Construct} (s, BoxContents) []) in
      let there = drives_there d s (driven (Box s k.0) o) f.has (into_flat drives_at (map (λ c. (s, c)) (constructs_at d.text s)) (s, BoxContents) (driven (Box s k.0) o) part here) in
      all_below level (input_bits s) (level o) (λ i h. design_falls (driven (Box s k.0) o) i there h)

  -- a bit of the design that no module finishes, or an input of one

  outer_of : (b : Bit) → ((s : Scope) → IsFinished s → b.path ≡ s.path → Contains (input_bits s) b) → Rank b (2 * level b) 0
  outer_of b out = Outer out refl refl

  -- what a scope that stays drives is no inner bit of a box
  staying_bit : (s : Scope) → Contains (scopes d) s → replaced modules s.source ≡ s.source → (x : Drive) → Contains (drives_in d.text s) x → (t : Scope) → IsFinished t → x.bit.path ≡ t.path → Contains (input_bits t) x.bit
  staying_bit s has stays x here t f path = by (port_of modules d laws may found bits ports stands once reads whole t f.has f.empty x.bit path driven_x)
    where
      driven_x : Contains (driven_bits d) x.bit
      driven_x = contains-map (λ (x : Drive). x.bit) (drives d) x (drives_there d s x has here)

      by : Contains (input_bits t) x.bit ⊎ Contains (output_bits t) x.bit → Contains (input_bits t) x.bit
      by (inl h) = h
      by (inr h) =
          let box = is_boxed modules d laws may found bits ports stands (alone_of modules d laws may found bits ports stands once reads whole) t f.has f.empty in
          let olds = distinct_right (top_inputs d) (flat_map (bits_driven d.text) (scopes d)) (subst IsDistinct (driven_flat d) (to_distinct (driven_bits d) once)) in
          let same : s ≡ t = distinct_same (bits_driven d.text) (scopes d) s t x.bit olds has f.has (contains-map (λ (x : Drive). x.bit) (drives_in d.text s) x here) (outputs_driven modules d laws may found bits ports stands (alone_of modules d laws may found bits ports stands once reads whole) t box x.bit h) in
          let kept : replaced modules t.source ≡ t.source = subst (λ (z : Scope). replaced modules z.source ≡ z.source) same stays in
          absurd (true≢false (sym f.empty ∙ ap is_empty (sym kept ∙ f.goes) ∙ (fitting t f).not_empty))

  -- what it depends on is outside, or a port
  staying_falls : (s : Scope) → Contains (scopes d) s → replaced modules s.source ≡ s.source → (x : Drive) → Contains (drives_in d.text s) x → (c : Bit) → Contains (needed x.source) c → Falls x.bit c
  staying_falls s has stays x here c need = by (construct x here)
    where
      lower : level c < level x.bit
      lower = design_falls x c (drives_there d s x has here) need

      mine : Rank x.bit (2 * level x.bit) 0
      mine = outer_of x.bit (staying_bit s has stays x here)

      outside : ((t : Scope) → IsFinished t → c.path ≡ t.path → Contains (input_bits t) c) → Falls x.bit c
      outside out = record { n = 2 * level x.bit; k = 0; p = 2 * level c; q = 0; of = mine; to = outer_of c out; less = inl (omega (arith, lower)) }

      construct : (x : Drive) → Contains (drives_in d.text s) x → (k : Construct) × Contains (constructs_at d.text s) k × Contains (drives_at (s, k)) x
      construct x here =
          let part = from_flat drives_at (map (λ c. (s, c)) (constructs_at d.text s)) x here in
          let k = from_map (λ (c : Construct). (s, c)) (constructs_at d.text s) part.0 part.1 in
          (k.0, k.1, subst (λ z. Contains (drives_at z) x) (sym k.2) part.2)

      -- a bit of the scope of a box
      port_falls : (t : Scope) → IsFinished t → Contains (scope_bits t) c → Falls x.bit c
      port_falls t f there = by (ports t f.has f.empty c there)
        where
          path : c.path ≡ t.path
          path = scope_path t c there

          by : Contains (input_bits t) c ⊎ Contains (output_bits t) c → Falls x.bit c
          by (inl h) = outside (λ u g at_u. subst (λ z. Contains (input_bits z) c) (same_box t u f g (sym path ∙ at_u)) h)
          by (inr h) =
              let o = from_map (at t.path) (top_outputs (alone f.m)) c (subst (λ l. Contains l c) (outputs_at modules d laws may found bits ports stands once reads whole t f.m (fitting t f)) h) in
              let root : o.0.path ≡ [] = output_path (scope_of [] f.m) o.0 o.1 in
              record { n = 2 * level x.bit; k = 0; p = between t; q = inner_level t o.0; of = mine; to = Inner t f o.0 root o.2 (λ inside. in_or_out t.path t.source c inside h) refl refl; less = inl (under (box_levels t f c h)) }
            where
              under : greatest level (input_bits t) ≤ level c → between t < 2 * level x.bit
              under least = omega (arith, least, lower)

      by : (k : Construct) × Contains (constructs_at d.text s) k × Contains (drives_at (s, k)) x → Falls x.bit c
      by k = case (need_of s k.0 x c k.2 need)
        where
          case : (c.path ≡ s.path) ⊎ ((i : List ℕ) × (pin : Pin) × (e : Expression) × (k.0 ≡ OutputConnection i pin e) × Contains (pin_bits (path_to s.path i) pin) c) → Falls x.bit c
          case (inl path) = outside (λ t f at_t. absurd (other t f (one_box modules d laws may found bits ports stands once reads whole s t has f.has (sym path ∙ at_t))))
            where
              other : (t : Scope) → (f : IsFinished t) → s ≡ t → ⊥
              other t f same =
                  let kept : replaced modules t.source ≡ t.source = subst (λ (z : Scope). replaced modules z.source ≡ z.source) same stays in
                  true≢false (sym f.empty ∙ ap is_empty (sym kept ∙ f.goes) ∙ (fitting t f).not_empty)
          case (inr h) =
              let part : Contains {X = Scope × Construct} (parts d) (s, OutputConnection h.0 h.1 h.2) = subst (λ z. Contains {X = Scope × Construct} (parts d) (s, z)) h.3 (into_flat {B = Scope × Construct} (λ (s : Scope). map (λ (c : Construct). (s, c)) (constructs_at d.text s)) (scopes d) s (s, k.0) has (contains-map (λ (c : Construct). (s, c)) (constructs_at d.text s) k.0 k.1)) in
              let there = wired.pins s h.0 h.1 h.2 part c h.4 in
              let t = from_flat scope_bits (scopes d) c there in
              place t.0 t.1 t.2 (place_for modules t.0.source)
            where
              place : (t : Scope) → Contains (scopes d) t → Contains (scope_bits t) c → Place modules t.source → Falls x.bit c
              place t ht there (Goes m empty named goes) = port_falls t (record { m = m; has = ht; empty = empty; named = named; goes = goes }) there
              place t ht there (Stays e) = outside (λ u f at_u. absurd (other u f (one_box modules d laws may found bits ports stands once reads whole t u ht f.has (sym (scope_path t c there) ∙ at_u))))
                where
                  other : (u : Scope) → (f : IsFinished u) → t ≡ u → ⊥
                  other u f same =
                      let kept : replaced modules u.source ≡ u.source = subst (λ (z : Scope). replaced modules z.source ≡ z.source) same e in
                      true≢false (sym f.empty ∙ ap is_empty (sym kept ∙ f.goes) ∙ (fitting u f).not_empty)

  -- a dependence inside a box

  needed_at : (path : Path) (source : DrivingSource) (b : Bit) → ((s : Scope) (pin : ℕ) → source ≡ Box s pin → ⊥) → Contains (needed (source_at path source)) b → ((other : Path) (t : Term) → source ≡ MadeOf other t → other ≡ []) → (c : Bit) × Contains (needed source) c × (at path c ≡ b) × (c.path ≡ [])
  needed_at path Free b unboxed has root = absurd (none_in_nil b has)
  needed_at path (Box s pin) b unboxed has root = absurd (unboxed s pin refl)
  needed_at path (MadeOf other t) b unboxed has root =
      let c = from_map (at path) (bits_below [] t) b (subst (λ l. Contains l b) (below_at path t) has) in
      (c.0, subst (λ p. Contains (bits_below p t) c.0) (sym (root other t refl)) c.1, c.2, below_path [] t c.0 c.1)

  -- the drives of a combinational module alone are made of terms at the root
  rooted_source : (m : PlainModule) (c : Construct) → IsPlain c → (x : Drive) → Contains (drives_at (scope_of [] m, c)) x → ((s : Scope) (pin : ℕ) → x.source ≡ Box s pin → ⊥) × ((other : Path) (t : Term) → x.source ≡ MadeOf other t → other ≡ [])
  rooted_source m (Assignment left right) plain x has =
      let z = from_map (λ (z : Bit × Term). driven (MadeOf [] z.1) z.0) (zip (written_bits (scope_of [] m) left) (assigned_terms (scope_of [] m) left right)) x has in
      made z.0.1 x (ap (λ (y : Drive). y.source) z.2)
    where
      made : (u : Term) (x : Drive) → MadeOf [] u ≡ x.source → ((s : Scope) (pin : ℕ) → x.source ≡ Box s pin → ⊥) × ((other : Path) (t : Term) → x.source ≡ MadeOf other t → other ≡ [])
      made u x e = ((λ s pin f. grind (arith, e, f)), (λ other t f. path_of [] other u t (e ∙ f)))
        where
          path_of : (p q : Path) (u t : Term) → MadeOf p u ≡ MadeOf q t → q ≡ p
          path_of p q u t e = grind (arith, e)
  rooted_source m (GateInstance gate outs ins) plain x has =
      let t = gate_gives on_terms gate (terminal_terms (scope_of [] m) ins) in
      let z = from_map (driven (MadeOf [] t)) (flat_map (written_bits (scope_of [] m)) outs) x has in
      made t x (ap (λ (y : Drive). y.source) z.2)
    where
      made : (u : Term) (x : Drive) → MadeOf [] u ≡ x.source → ((s : Scope) (pin : ℕ) → x.source ≡ Box s pin → ⊥) × ((other : Path) (t : Term) → x.source ≡ MadeOf other t → other ≡ [])
      made u x e = ((λ s pin f. grind (arith, e, f)), (λ other t f. path_of [] other u t (e ∙ f)))
        where
          path_of : (p q : Path) (u t : Term) → MadeOf p u ≡ MadeOf q t → q ≡ p
          path_of p q u t e = grind (arith, e)
  rooted_source m (SupplyNet high n) plain x has =
      let z = from_map (driven (MadeOf [] (Const high))) _ x has in
      made (Const high) x (ap (λ (y : Drive). y.source) z.2)
    where
      made : (u : Term) (x : Drive) → MadeOf [] u ≡ x.source → ((s : Scope) (pin : ℕ) → x.source ≡ Box s pin → ⊥) × ((other : Path) (t : Term) → x.source ≡ MadeOf other t → other ≡ [])
      made u x e = ((λ s pin f. grind (arith, e, f)), (λ other t f. path_of [] other u t (e ∙ f)))
        where
          path_of : (p q : Path) (u t : Term) → MadeOf p u ≡ MadeOf q t → q ≡ p
          path_of p q u t e = grind (arith, e)
  rooted_source m (Register a) plain x has = absurd plain
  rooted_source m (InputConnection i pin e) plain x has = absurd plain
  rooted_source m (OutputConnection i pin e) plain x has = absurd plain
  rooted_source m BoxContents plain x has = absurd plain

  going_falls : (s : Scope) (f : IsFinished s) (x : Drive) → Contains (drives_in (f.m ∷ []) (scope_of [] f.m)) x → (c : Bit) → Contains (needed (source_at s.path x.source)) c → Falls (at s.path x.bit) c
  going_falls s f x here c need = place (list_any (same_bit c) (input_bits s)) refl
    where
      may_be : MayReplace s.source f.m
      may_be = fitting s f

      is : IsWhole f.m
      is = whole s f.has f.empty f.m f.named

      inner : Contains (bits_driven (f.m ∷ []) (scope_of [] f.m)) x.bit
      inner = contains-map (λ (x : Drive). x.bit) (drives_in (f.m ∷ []) (scope_of [] f.m)) x here

      root : x.bit.path ≡ []
      root = inner_path f.m is.is x.bit inner

      outside : Contains (input_bits s) (at s.path x.bit) → ⊥
      outside h =
          let i = from_map (at s.path) (top_inputs (alone f.m)) (at s.path x.bit) (subst (λ l. Contains l (at s.path x.bit)) (inputs_at modules d laws may found bits ports stands once reads whole s f.m may_be) h) in
          let one : i.0 ≡ x.bit = unmoved s.path i.0 x.bit (input_path (scope_of [] f.m) i.0 i.1) root i.2 in
          distinct_across (top_inputs (alone f.m)) (bits_driven (f.m ∷ []) (scope_of [] f.m)) x.bit (apart_alone f.m is.is) (subst (Contains (top_inputs (alone f.m))) one i.1) inner

      mine : Rank (at s.path x.bit) (between s) (inner_level s x.bit)
      mine = Inner s f x.bit root refl outside refl refl

      source : ((t : Scope) (pin : ℕ) → x.source ≡ Box t pin → ⊥) × ((other : Path) (t : Term) → x.source ≡ MadeOf other t → other ≡ [])
      source =
          let part = from_flat drives_at (map (λ c. (scope_of [] f.m, c)) (constructs_at (f.m ∷ []) (scope_of [] f.m))) x here in
          let k = from_map (λ (c : Construct). (scope_of [] f.m, c)) (constructs_at (f.m ∷ []) (scope_of [] f.m)) part.0 part.1 in
          rooted_source f.m k.0 (plain_there (f.m ∷ []) [] f.m may_be.not_empty may_be.combinational k.0 k.1) x (subst (λ z. Contains (drives_at z) x) (sym k.2) part.2)

      place : (t : Bool) → list_any (same_bit c) (input_bits s) ≡ t → Falls (at s.path x.bit) c
      place true e =
          let h = (found c (input_bits s)).0 e in
          let low = at_most level (input_bits s) c h in
          record { n = between s; k = inner_level s x.bit; p = 2 * level c; q = 0; of = mine; to = outer_of c (λ u g at_u. subst (λ z. Contains (input_bits z) c) (same_box s u f g (sym (input_path s c h) ∙ at_u)) h); less = inl (under low) }
        where
          under : level c ≤ greatest level (input_bits s) → 2 * level c < between s
          under low = omega (arith, low)
      place false e =
          let z = needed_at s.path x.source c source.0 need source.1 in
          let there = drives_there (alone f.m) (scope_of [] f.m) x (contains_here (scope_of [] f.m) _) here in
          let falls = All-contains (λ y. inner_level s y.1 < inner_level s y.0) (dependences (alone f.m)) (x.bit, z.0) (inner_falls s f.m f.named)
          (into_flat (λ (x : Drive). map (λ (c : Bit). (x.bit, c)) (needed x.source)) (drives (alone f.m)) x (x.bit, z.0) there (contains-map (λ (c : Bit). (x.bit, c)) (needed x.source) z.0 z.1)) in
          record { n = between s; k = inner_level s x.bit; p = between s; q = inner_level s z.0; of = mine; to = Inner s f z.0 z.3 z.2 (λ h. true≢false (sym ((found c (input_bits s)).1 h) ∙ e)) refl refl; less = inr (refl, falls) }

  step_falls : (b c : Bit) → Contains {X = Bit × Bit} (dependences new) (b, c) → Falls b c
  step_falls b c has =
      let x = from_flat (λ (x : Drive). map (λ (c : Bit). (x.bit, c)) (needed x.source)) (drives new) (b, c) has in
      let k = from_map (λ (k : Bit). (x.0.bit, k)) (needed x.0.source) (b, c) x.2 in
      let first : x.0.bit ≡ b = ap (λ (z : Bit × Bit). z.0) k.2 in
      let second : k.0 ≡ c = ap (λ (z : Bit × Bit). z.1) k.2 in
      subst (λ z. Falls z c) first (by x.0 (subst (Contains (needed x.0.source)) second k.1) (Contains-append_cases (map (driven Free) (top_inputs new)) (flat_map (drives_in new.text) (scopes new)) x.0 (subst (λ l. Contains l x.0) (drives_flat new) x.1)))
    where
      by : (x : Drive) → Contains (needed x.source) c → Contains (map (driven Free) (top_inputs new)) x ⊎ Contains (flat_map (drives_in new.text) (scopes new)) x → Falls x.bit c
      by x need (inl h) =
          let t = from_map (driven Free) (top_inputs new) x h in
          absurd (none_in_nil c (subst (λ (z : Drive). Contains (needed z.source) c) (sym t.2) need))
      by x need (inr h) =
          let t = from_flat (drives_in new.text) (scopes new) x h in
          let s = from_map (changed modules) (scopes d) t.0 (subst (λ l. Contains l t.0) (scopes_same modules d may laws.top) t.1) in
          in_scope s.0 s.1 (subst (λ z. Contains (drives_in new.text z) x) (sym s.2) t.2) (place_for modules s.0.source)
        where
          in_scope : (s : Scope) → Contains (scopes d) s → Contains (drives_in new.text (changed modules s)) x → Place modules s.source → Falls x.bit c
          in_scope s has here (Stays e) = staying_falls s has e x (subst (λ l. Contains l x) (ap (λ z. drives_in new.text (scope_of s.path z)) e ∙ ap (λ l. flat_map drives_at (map (λ c. (s, c)) l)) (same_constructs modules d.text may s)) here) c need
          in_scope s has here (Goes m empty named e) =
              let f : IsFinished s = record { m = m; has = has; empty = empty; named = named; goes = e } in
              let may_be = may s.source m (source_there d laws s has) empty named in
              let y = from_map (drive_at s.path) (drives_in (m ∷ []) (scope_of [] m)) x (subst (λ l. Contains l x) (ap (λ z. drives_in new.text (scope_of s.path z)) e ∙ drives_moved new.text s.path m may_be.not_empty may_be.combinational) here) in
              subst (λ (z : Drive). Falls z.bit c) y.2 (going_falls s f y.0 y.1 c (subst (λ (z : Drive). Contains (needed z.source) c) (sym y.2) need))

  walk_falls : {b c : Bit} → Leads (dependences new) b c → Falls b c
  walk_falls (One has) = step_falls _ _ has
  walk_falls (More has rest) = twice_falls _ _ (step_falls _ _ has) _ (walk_falls rest)

  pub no_loops : CyclesAreReported → BitsAreThere new → IsAcyclic new
  no_loops decide there = by (decide new there)
    where
      by : IsAcyclic new ⊎ ((n : List ℕ) × ((b : Bit) × IsFirst (IsOnLoop new) (net_order new) b × (n ≡ bit_text new b))) → IsAcyclic new
      by (inl acyclic) = acyclic
      by (inr h) = absurd (never h.1.0 (walk_falls (on_loop h.1.0 h.1.1)))
        where
          on_loop : (b : Bit) → IsFirst (IsOnLoop new) (net_order new) b → IsOnLoop new b
          on_loop b first = first.holds
