-- What is read is driven, with modules in place of boxes too: a bit that is read there is read in the design with boxes,
-- or in the module alone.
use Rattle.std.proofs.Common.{◌≡◌, ◌⊎◌, ℕ, Bool, true, false, not, List, [], ◌∷◌, ◌++◌, map, filter, Contains, Option, Some, None, inl, inr, refl, sym, ap, ap₂, ◌∙◌, subst, arith}
use Rattle.std.proofs.lemmas.List.{map-append}
use Rattle.std.specs.Prelude.{option_to_list}
use Rattle.std.specs.List.{flat_map, list_any}
use Rattle.bb_ast.specs.declared.module.Dir.{Dir}
use Rattle.bb_ast.specs.Syntax.{PlainModule}
use Rattle.bb_bits.specs.Closures.{IsDistinct}
use Rattle.bb_expr.specs.Terms.{Const, Net, Not, And, Or, Xor, Mux, Term}
use Rattle.bb_names.specs.declared.net.NetInfo.{NetInfo}
use Rattle.bb_names.specs.Faults.{is_input}
use Rattle.bb_names.specs.Nets.{nets_of, net_names, net_of}
use Rattle.bb_lemmas.proofs.Members.{contains_cases, contains_here, from_flat, from_map, into_flat, kept_from, none_in_nil}
use Rattle.bb_design.specs.Constructs.{Assignment, BoxContents, Construct, GateInstance, InputConnection, OutputConnection, Register, SupplyNet}
use Rattle.bb_design.specs.Drivers.{Box, DrivingSource, Free, MadeOf}
use Rattle.bb_design.specs.Hierarchy.{Path}
use Rattle.bb_design.specs.NetBits.{Bit, bits_of_net, input_bits, output_bits}
use Rattle.bb_design.specs.Reading.{bit_itself, cells_at, copied, operand_terms, read_at}
use Rattle.bb_replace.specs.Laws.Replacement.{scope_of}
use Rattle.bb_replace.proofs.MovedDrives.{IsPlain, at, flat_map_mapped, source_at}
use Rattle.bb_replace.proofs.ReplacedDrivers.{distinct_across, distinct_right}
use Rattle.bb_replace.proofs.ReplacedPorts.{flat_same}

-- what is read by a plain construct is read wherever a copy of the module is

itself_at : (path : Path) (t : Term) → bit_itself path t ≡ map (at path) (bit_itself [] t)
itself_at path (Const b) = refl
itself_at path (Net n i) = refl
itself_at path (Not a) = refl
itself_at path (And a b) = refl
itself_at path (Or a b) = refl
itself_at path (Xor a b) = refl
itself_at path (Mux c t e) = refl

flat_at : {A : Type 0} (path : Path) (f g : A → List Bit) → ((x : A) → f x ≡ map (at path) (g x)) → (xs : List A) → flat_map f xs ≡ map (at path) (flat_map g xs)
flat_at path f g same xs = flat_same f (λ x. map (at path) (g x)) same xs ∙ sym (flat_map_mapped g (at path) xs)

cells_at_path : (path : Path) (cells : List Term) → flat_map (λ cell. flat_map (bit_itself path) (operand_terms cell)) cells ≡ map (at path) (flat_map (λ cell. flat_map (bit_itself []) (operand_terms cell)) cells)
cells_at_path path cells = flat_at path (λ cell. flat_map (bit_itself path) (operand_terms cell)) (λ cell. flat_map (bit_itself []) (operand_terms cell)) (λ cell. flat_at path (bit_itself path) (bit_itself []) (itself_at path) (operand_terms cell)) cells

pub reads_at : (path : Path) (m : PlainModule) (c : Construct) → IsPlain c → read_at (scope_of path m, c) ≡ map (at path) (read_at (scope_of [] m, c))
reads_at path m (Assignment left right) plain = ap₂ (λ a b. a ++ b) (cells_at_path path (cells_at (scope_of [] m, Assignment left right))) refl ∙ sym (map-append (at path) (flat_map (λ cell. flat_map (bit_itself []) (operand_terms cell)) (cells_at (scope_of [] m, Assignment left right))) [])
reads_at path m (GateInstance gate outs ins) plain = ap₂ (λ a b. a ++ b) (cells_at_path path (cells_at (scope_of [] m, GateInstance gate outs ins))) refl ∙ sym (map-append (at path) (flat_map (λ cell. flat_map (bit_itself []) (operand_terms cell)) (cells_at (scope_of [] m, GateInstance gate outs ins))) [])
reads_at path m (SupplyNet high n) plain = refl
reads_at path m (Register a) plain = absurd plain
reads_at path m (InputConnection i pin e) plain = absurd plain
reads_at path m (OutputConnection i pin e) plain = absurd plain
reads_at path m BoxContents plain = absurd plain

-- of what a bit that is driven there is a buffer
pub copies_at : (path : Path) (source : DrivingSource) (b : Bit) → Contains (copied (source_at path source)) b → (c : Bit) × Contains (copied source) c × (at path c ≡ b)
copies_at path Free b has = absurd (none_in_nil b has)
copies_at path (Box s pin) b has = absurd (none_in_nil b has)
copies_at path (MadeOf other t) b has = by t has
  where
    by : (t : Term) → Contains (bit_itself path t) b → (c : Bit) × Contains (bit_itself other t) c × (at path c ≡ b)
    by (Net n i) h = one (contains_cases (record { path = path; net = n; place = i }) [] b h)
      where
        one : (record { path = path; net = n; place = i } ≡ b) ⊎ Contains {X = Bit} [] b → (c : Bit) × Contains (bit_itself other (Net n i)) c × (at path c ≡ b)
        one (inl same) = (record { path = other; net = n; place = i }, contains_here (record { path = other; net = n; place = i }) [], same)
        one (inr k) = absurd (none_in_nil b k)
    by (Const x) h = absurd (none_in_nil b h)
    by (Not x) h = absurd (none_in_nil b h)
    by (And x y) h = absurd (none_in_nil b h)
    by (Or x y) h = absurd (none_in_nil b h)
    by (Xor x y) h = absurd (none_in_nil b h)
    by (Mux x y z) h = absurd (none_in_nil b h)

-- no bit is of an input and of an output
pub in_or_out : (path : Path) (m : PlainModule) (b : Bit) → Contains (input_bits (scope_of path m)) b → Contains (output_bits (scope_of path m)) b → ⊥
in_or_out path m b inside outside =
    let i = from_flat (bits_of_net path) (filter (λ net. list_any is_input (option_to_list net.port)) (nets_of m)) b inside in
    let o = from_flat (bits_of_net path) (filter (λ net. list_any (λ dir. not (is_input dir)) (option_to_list net.port)) (nets_of m)) b outside in
    let ki = kept_from (λ (net : NetInfo). list_any is_input (option_to_list net.port)) (nets_of m) i.0 i.1 in
    let ko = kept_from (λ (net : NetInfo). list_any (λ dir. not (is_input dir)) (option_to_list net.port)) (nets_of m) o.0 o.1 in
    let ni = from_map (net_of m) (net_names m) i.0 ki.0 in
    let no = from_map (net_of m) (net_names m) o.0 ko.0 in
    let bi = from_map (λ (k : ℕ). record { path = path; net = i.0.name; place = k }) _ b i.2 in
    let bo = from_map (λ (k : ℕ). record { path = path; net = o.0.name; place = k }) _ b o.2 in
    let name : i.0.name ≡ o.0.name = ap (λ (z : Bit). z.net) bi.2 ∙ sym (ap (λ (z : Bit). z.net) bo.2) in
    let key : ni.0 ≡ no.0 = ap (λ (z : NetInfo). z.name) ni.2 ∙ name ∙ sym (ap (λ (z : NetInfo). z.name) no.2) in
    let port : i.0.port ≡ o.0.port = ap (λ (z : NetInfo). z.port) (sym ni.2 ∙ ap (net_of m) key ∙ no.2) in
    clash o.0.port (subst (λ p. list_any is_input (option_to_list p) ≡ true) port ki.1) ko.1
  where
    clash : (p : Option Dir) → list_any is_input (option_to_list p) ≡ true → list_any (λ dir. not (is_input dir)) (option_to_list p) ≡ true → ⊥
    clash None a b = grind (arith, a)
    clash (Some dir) a b = by (is_input dir) refl
      where
        by : (t : Bool) → is_input dir ≡ t → ⊥
        by true e = grind (arith, b, e)
        by false e = grind (arith, a, e)

-- of lists one after another without repetition an element is in one
pub distinct_same : {A B : Type 0} (f : A → List B) (xs : List A) (x y : A) (b : B) → IsDistinct (flat_map f xs) → Contains xs x → Contains xs y → Contains (f x) b → Contains (f y) b → x ≡ y
distinct_same f [] x y b distinct hx hy fx fy = absurd (none_in_nil x hx)
distinct_same f (z ∷ xs) x y b distinct hx hy fx fy = by (contains_cases z xs x hx) (contains_cases z xs y hy) (λ h k. distinct_same f xs x y b (distinct_right (f z) (flat_map f xs) distinct) h k fx fy)
  where
    by : (z ≡ x) ⊎ Contains xs x → (z ≡ y) ⊎ Contains xs y → (Contains xs x → Contains xs y → x ≡ y) → x ≡ y
    by (inl p) (inl q) more = sym p ∙ q
    by (inl p) (inr h) more = absurd (distinct_across (f z) (flat_map f xs) b distinct (subst (λ u. Contains (f u) b) (sym p) fx) (into_flat f xs y b h fy))
    by (inr h) (inl q) more = absurd (distinct_across (f z) (flat_map f xs) b distinct (subst (λ u. Contains (f u) b) (sym q) fy) (into_flat f xs x b h fx))
    by (inr h) (inr k) more = more h k
