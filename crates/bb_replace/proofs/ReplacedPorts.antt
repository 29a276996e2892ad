-- A module has the ports of an empty one that it may replace: the same pins, and the same bits at its inputs and
-- outputs, whatever other nets it has.
use Rattle.std.proofs.Common.{◌≡◌, ℕ, Bool, true, false, not, List, [], ◌∷◌, ◌++◌, map, find, option_map, Option, Some, None, if◌then◌else◌, refl, sym, ap, ap₂, ◌∙◌, arith, append_assoc}
use Rattle.std.specs.Prelude.{option_to_list, slice_get}
use Rattle.std.specs.List.{filter, flat_map, list_any}
use Rattle.std.specs.Option.{option_and_then}
use Rattle.std.proofs.lemmas.Option.{slice_get-map}
use lib.Pointwise.{bytes_decides}
use Rattle.bb_bits.specs.Earlier.{has_name, once}
use Rattle.bb_bits.specs.Names.{same_name}
use Rattle.bb_ast.specs.declared.module.Dir.{Dir}
use Rattle.bb_ast.specs.Syntax.{PlainHead, PlainModule}
use Rattle.bb_names.specs.Declarations.{Declaration, declarations, direction_of, implicit_names, is_port, port_direction, range_of}
use Rattle.bb_names.specs.Faults.{is_input}
use Rattle.bb_names.specs.Nets.{net_names, net_of, nets_of}
use Rattle.bb_names.specs.Ranges.{range_width}
use Rattle.bb_names.specs.Sites.{pin_at, pin_named}
use Rattle.bb_lemmas.proofs.Maps.{any-map}
use Rattle.bb_lemmas.proofs.Members.{from_find, none_of}
use Rattle.bb_design.specs.Hierarchy.{Path}
use Rattle.bb_design.specs.NetBits.{Bit, bits_from, bits_of_net, input_bits, output_bits}
use Rattle.bb_replace.specs.Laws.Replacement.{MayReplace, scope_of}
use Rattle.bb_replace.proofs.ReplacedModules.{both_there}

-- what is found is there
any_found : {A : Type 0} (test : A → Bool) (xs : List A) (x : A) → find test xs ≡ Some x → list_any test xs ≡ true
any_found test [] x e = grind (arith, e)
any_found test (y ∷ xs) x e = by (test y) refl (any_found test xs x)
  where
    by : (b : Bool) → test y ≡ b → (find test xs ≡ Some x → list_any test xs ≡ true) → list_any test (y ∷ xs) ≡ true
    by true f rest = grind (arith, f)
    by false f rest = grind (arith, f, rest (grind (arith, e, f)))

pub flat_same : {A B : Type 0} (f g : A → List B) → ((x : A) → f x ≡ g x) → (xs : List A) → flat_map f xs ≡ flat_map g xs
flat_same f g same [] = refl
flat_same f g same (x ∷ xs) = ap₂ (λ a b. a ++ b) (same x) (flat_same f g same xs)

flat_none : {A B : Type 0} (f : A → List B) → ((x : A) → f x ≡ []) → (xs : List A) → flat_map f xs ≡ []
flat_none f none [] = refl
flat_none f none (x ∷ xs) = ap₂ (λ a b. a ++ b) (none x) (flat_none f none xs)

flat_filter : {A B : Type 0} (test : A → Bool) (f : A → List B) (xs : List A) → flat_map f (filter test xs) ≡ flat_map (λ x. if test x then f x else []) xs
flat_filter test f [] = refl
flat_filter test f (x ∷ xs) = by (test x) refl (flat_filter test f xs)
  where
    by : (b : Bool) → test x ≡ b → flat_map f (filter test xs) ≡ flat_map (λ x. if test x then f x else []) xs → flat_map f (filter test (x ∷ xs)) ≡ flat_map (λ x. if test x then f x else []) (x ∷ xs)
    by true e rest = grind (arith, e, rest)
    by false e rest = grind (arith, e, rest)

flat_mapped : {A B C : Type 0} (h : A → B) (f : B → List C) (xs : List A) → flat_map f (map h xs) ≡ flat_map (λ x. f (h x)) xs
flat_mapped h f [] = refl
flat_mapped h f (x ∷ xs) = ap (λ l. f (h x) ++ l) (flat_mapped h f xs)

-- a port with a direction is a name of the header
pub directed_is_port : (m : PlainModule) (n : List ℕ) (dir : Dir) → port_direction m n ≡ Some dir → is_port m n ≡ true
directed_is_port m n dir e =
    let h = both_there (find (λ head. same_name head.name n) m.heads) (λ head. direction_of m n) dir e in
    any_found (λ head. same_name head.name n) m.heads h.0 h.1

-- no name but those of the header has a direction
undirected : (m : PlainModule) (n : List ℕ) → has_name n (map (λ head. head.name) m.heads) ≡ false → port_direction m n ≡ None
undirected m n e = by (port_direction m n) refl
  where
    by : (o : Option Dir) → port_direction m n ≡ o → port_direction m n ≡ None
    by None f = f
    by (Some dir) f =
        let h = both_there (find (λ head. same_name head.name n) m.heads) (λ head. direction_of m n) dir f in
        let there = from_find (λ head. same_name head.name n) m.heads h.0 h.1 in
        let name : h.0.name ≡ n = (bytes_decides h.0.name n).0 there.1 in
        let other : same_name n h.0.name ≡ true = (bytes_decides n h.0.name).1 (sym name) in
        let none : same_name n h.0.name ≡ false = none_of (λ (head : PlainHead). same_name n head.name) m.heads (sym (any-map (same_name n) (λ (head : PlainHead). head.name) m.heads) ∙ e) h.0 there.0 in
        absurd (grind (arith, other, none))

-- the pins of the two

pub same_pin : (e m : PlainModule) → MayReplace e m → (n : List ℕ) → pin_named m n ≡ pin_named e n
same_pin e m may n = by (port_direction e n) refl
  where
    by : (o : Option Dir) → port_direction e n ≡ o → pin_named m n ≡ pin_named e n
    by None f = grind (arith, f, may.directions n)
    by (Some dir) f = grind (arith, f, may.directions n, may.ranges n (directed_is_port e n dir f))

named_at : (m : PlainModule) (k : ℕ) → pin_at m k ≡ option_and_then (pin_named m) (slice_get (map (λ head. head.name) m.heads) k)
named_at m k = by (slice_get m.heads k) refl
  where
    by : (o : Option PlainHead) → slice_get m.heads k ≡ o → pin_at m k ≡ option_and_then (pin_named m) (slice_get (map (λ head. head.name) m.heads) k)
    by None f = ap (option_and_then (λ head. pin_named m head.name)) f ∙ sym (ap (option_and_then (pin_named m)) (slice_get-map (λ (head : PlainHead). head.name) m.heads k ∙ ap (option_map (λ (head : PlainHead). head.name)) f))
    by (Some h) f = ap (option_and_then (λ head. pin_named m head.name)) f ∙ sym (ap (option_and_then (pin_named m)) (slice_get-map (λ (head : PlainHead). head.name) m.heads k ∙ ap (option_map (λ (head : PlainHead). head.name)) f))

then_same : {A B : Type 0} (f g : A → Option B) → ((x : A) → f x ≡ g x) → (o : Option A) → option_and_then f o ≡ option_and_then g o
then_same f g same None = refl
then_same f g same (Some x) = same x

pub same_pin_at : (e m : PlainModule) → MayReplace e m → (k : ℕ) → pin_at m k ≡ pin_at e k
same_pin_at e m may k =
    named_at m k ∙ ap (λ l. option_and_then (pin_named m) (slice_get l k)) may.heads
    ∙ then_same (pin_named m) (pin_named e) (same_pin e m may) (slice_get (map (λ head. head.name) e.heads) k) ∙ sym (named_at e k)

-- the bits of ports

-- the bits of a net of a module, where a test of its direction is met
abbrev tested : Path → (Option Dir → Bool) → PlainModule → List ℕ → List Bit
tested path test m n = if test (port_direction m n) then bits_from path n 0 (range_width (range_of m n)) else []

-- of names that are listed once those count that something is made of
once_flat : {B : Type 0} (heads more : List (List ℕ)) (f : List ℕ → List B) → ((n : List ℕ) → has_name n heads ≡ false → f n ≡ []) → flat_map f (once (heads ++ more)) ≡ flat_map f (once heads)
once_flat [] more f none = flat_none f (λ n. none n refl) (once more)
once_flat (h ∷ heads) more f none =
    ap (λ l. f h ++ l) (flat_filter (λ m. not (same_name h m)) f (once (heads ++ more)) ∙ once_flat heads more (λ m. if not (same_name h m) then f m else []) (λ n e. others n e (same_name h n) refl) ∙ sym (flat_filter (λ m. not (same_name h m)) f (once heads)))
  where
    others : (n : List ℕ) → has_name n heads ≡ false → (b : Bool) → same_name h n ≡ b → (if not (same_name h n) then f n else []) ≡ []
    others n e true g = grind (arith, g)
    others n e false g = grind (arith, g, none n (grind (arith, e, other)))
      where
        other : same_name n h ≡ false
        other = by (same_name n h) refl
          where
            by : (b : Bool) → same_name n h ≡ b → same_name n h ≡ false
            by false k = k
            by true k = absurd (grind (arith, g, (bytes_decides h n).1 (sym ((bytes_decides n h).0 k))))

listed_bits : (path : Path) (test : Option Dir → Bool) (m : PlainModule) → test None ≡ false → flat_map (bits_of_net path) (filter (λ net. test net.port) (nets_of m)) ≡ flat_map (tested path test m) (once (map (λ head. head.name) m.heads))
listed_bits path test m none =
    flat_filter (λ net. test net.port) (bits_of_net path) (nets_of m)
    ∙ flat_mapped (net_of m) (λ net. if test net.port then bits_of_net path net else []) (net_names m)
    ∙ flat_same (λ n. if test (net_of m n).port then bits_of_net path (net_of m n) else []) (tested path test m) (λ n. refl) (net_names m)
    ∙ ap (flat_map (tested path test m)) names ∙ once_flat (map (λ head. head.name) m.heads) more (tested path test m) (λ n e. unlisted n (undirected m n e))
  where
    more : List (List ℕ)
    more = map (λ (d : Declaration). d.name) (filter (λ (d : Declaration). not d.instance) (declarations m)) ++ implicit_names m

    names : net_names m ≡ once (map (λ (head : PlainHead). head.name) m.heads ++ more)
    names = ap once (append_assoc (map (λ (head : PlainHead). head.name) m.heads) (map (λ (d : Declaration). d.name) (filter (λ (d : Declaration). not d.instance) (declarations m))) (implicit_names m))

    unlisted : (n : List ℕ) → port_direction m n ≡ None → tested path test m n ≡ []
    unlisted n e = grind (arith, e, none)

pub same_port_bits : (path : Path) (test : Option Dir → Bool) → test None ≡ false → (e m : PlainModule) → MayReplace e m → flat_map (bits_of_net path) (filter (λ net. test net.port) (nets_of m)) ≡ flat_map (bits_of_net path) (filter (λ net. test net.port) (nets_of e))
same_port_bits path test none e m may =
    listed_bits path test m none ∙ ap (λ l. flat_map (tested path test m) (once l)) may.heads
    ∙ flat_same (tested path test m) (tested path test e) same (once (map (λ head. head.name) e.heads)) ∙ sym (listed_bits path test e none)
  where
    same : (n : List ℕ) → tested path test m n ≡ tested path test e n
    same n = by (port_direction e n) refl
      where
        by : (o : Option Dir) → port_direction e n ≡ o → tested path test m n ≡ tested path test e n
        by None f = grind (arith, f, may.directions n, none)
        by (Some dir) f = grind (arith, f, may.directions n, may.ranges n (directed_is_port e n dir f))

pub same_inputs : (path : Path) (e m : PlainModule) → MayReplace e m → input_bits (scope_of path m) ≡ input_bits (scope_of path e)
same_inputs path e m may = same_port_bits path (λ o. list_any is_input (option_to_list o)) refl e m may

pub same_outputs : (path : Path) (e m : PlainModule) → MayReplace e m → output_bits (scope_of path m) ≡ output_bits (scope_of path e)
same_outputs path e m may = same_port_bits path (λ o. list_any (λ dir. not (is_input dir)) (option_to_list o)) refl e m may
