-- A name that is known and is no instance's is that of a net, and so are names of the header; the bits of nets are bits of the
-- scope, and those of scopes are bits of the design.
use Rattle.std.proofs.Common.{◌≡◌, ◌⊎◌, ℕ, ◌+◌, ◌<◌, ◌≤◌, Bool, true, false, not, ◌||◌, List, [], ◌∷◌, ◌++◌, map, filter, Contains, sym, ap, ◌∙◌, subst, inl, inr, arith}
use Rattle.std.specs.List.{flat_map, range_with_len}
use Rattle.std.specs.Option.{option_map_or}
use Rattle.std.proofs.lemmas.List.Elements.{Contains-append_left, Contains-append_right}
use lib.Pointwise.{bytes_decides}
use Rattle.bb_bits.specs.Names.{same_name}
use Rattle.bb_ast.specs.Syntax.{PlainModule}
use Rattle.bb_names.specs.declared.net.NetInfo.{NetInfo}
use Rattle.bb_bits.specs.Earlier.{once, has_name}
use Rattle.bb_names.specs.Declarations.{Declaration, declarations, range_of, is_declared, is_instance, implicit_names, is_known}
use Rattle.bb_names.specs.Nets.{net_names, net_of, nets_of}
use Rattle.bb_names.specs.Ranges.{range_width}
use Rattle.bb_design.specs.Hierarchy.{Scope}
use Rattle.bb_design.specs.NetBits.{Bit, bits_from, bits_of_net, scope_bits}
use Rattle.bb_lemmas.proofs.Members.{from_flat, from_map, contains-map, into_flat, contains_here, contains_there, contains_cases, none_in_nil, kept_from, keeps, find_there, any_there, either}
use Rattle.bb_lemmas.proofs.Ranges.{from_range, range_there}

-- each name is among those without repetition
pub once_there : (names : List (List ℕ)) (n : List ℕ) → Contains names n → Contains (once names) n
once_there [] n has = absurd (none_in_nil n has)
once_there (m ∷ names) n has = by (contains_cases m names n has) (either (same_name m n)) (once_there names n)
  where
    here : m ≡ n → Contains (once (m ∷ names)) n
    here e = subst (Contains (once (m ∷ names))) e (contains_here m (filter (λ x. not (same_name m x)) (once names)))

    by : (m ≡ n) ⊎ Contains names n → (same_name m n ≡ true) ⊎ (same_name m n ≡ false) → (Contains names n → Contains (once names) n) → Contains (once (m ∷ names)) n
    by (inl e) same rest = here e
    by (inr more) (inl t) rest = here ((bytes_decides m n).0 t)
    by (inr more) (inr f) rest = contains_there m (filter (λ x. not (same_name m x)) (once names)) n (keeps (λ x. not (same_name m x)) (once names) n (rest more) (ap not f))

module _ (m : PlainModule) where
  abbrev header_names : List (List ℕ)
  header_names = map (λ head. head.name) m.heads

  abbrev declared_names : List (List ℕ)
  declared_names = map (λ d. d.name) (filter (λ d. not d.instance) (declarations m))

  pub header_net : (n : List ℕ) → Contains header_names n → Contains (net_names m) n
  header_net n has = once_there (header_names ++ declared_names ++ implicit_names m) n
      (Contains-append_left (header_names ++ declared_names) (implicit_names m) n (Contains-append_left header_names declared_names n has))

  pub declared_net : (d : Declaration) → Contains (declarations m) d → d.instance ≡ false → Contains (net_names m) d.name
  declared_net d has plain = once_there (header_names ++ declared_names ++ implicit_names m) d.name
      (Contains-append_left (header_names ++ declared_names) (implicit_names m) d.name (Contains-append_right header_names declared_names d.name
      (contains-map (λ (x : Declaration). x.name) (filter (λ x. not x.instance) (declarations m)) d (keeps (λ x. not x.instance) (declarations m) d has (ap not plain)))))

  pub known_net : (n : List ℕ) → is_known m n ≡ true → is_instance m n ≡ false → Contains (net_names m) n
  known_net n known plain = by (either (is_declared m n))
    where
      by : (is_declared m n ≡ true) ⊎ (is_declared m n ≡ false) → Contains (net_names m) n
      by (inl e) =
          let x = any_there (λ d. same_name d.name n) (declarations m) e in
          let f = find_there (λ (d : Declaration). same_name d.name n) (declarations m) x.0 x.1 x.2 in
          let name : f.0.name ≡ n = (bytes_decides f.0.name n).0 f.2 in
          subst (Contains (net_names m)) name (declared_net f.0 f.3 (sym (ap (λ o. option_map_or (λ (d : Declaration). d.instance) o false) f.1) ∙ plain))
      by (inr e) =
          let x = any_there (same_name n) (implicit_names m) (sym (ap (λ b. b || has_name n (implicit_names m)) e) ∙ known) in
          let name : n ≡ x.0 = (bytes_decides n x.0).0 x.2 in
          once_there (header_names ++ declared_names ++ implicit_names m) n (Contains-append_right (header_names ++ declared_names) (implicit_names m) n (subst (Contains (implicit_names m)) (sym name) x.1))

-- bits of a net are bits of its scope
pub net_bit_there : (s : Scope) (n : List ℕ) (k : ℕ) → Contains (net_names s.source) n → k < range_width (range_of s.source n) → Contains (scope_bits s) (record { path = s.path; net = n; place = k })
net_bit_there s n k has fits = into_flat (bits_of_net s.path) (nets_of s.source) (net_of s.source n) (record { path = s.path; net = n; place = k }) (contains-map (net_of s.source) (net_names s.source) n has)
    (contains-map (λ i. record { path = s.path; net = n; place = i }) (range_with_len 0 (range_width (range_of s.source n))) k (range_there 0 (range_width (range_of s.source n)) k (omega arith) (omega (arith, fits))))

pub bits_there : (s : Scope) (n : List ℕ) (place count : ℕ) → Contains (net_names s.source) n → place + count ≤ range_width (range_of s.source n) → (b : Bit) → Contains (bits_from s.path n place count) b → Contains (scope_bits s) b
bits_there s n place count has fits b in_bits =
    let k = from_map (λ i. record { path = s.path; net = n; place = i }) (range_with_len place count) b in_bits in
    let r = from_range place count k.0 k.1 in
    subst (Contains (scope_bits s)) k.2 (net_bit_there s n k.0 has (omega (arith, r.1, fits)))

-- bits of some nets of a scope
pub filtered_there : (s : Scope) (test : NetInfo → Bool) (b : Bit) → Contains (flat_map (bits_of_net s.path) (filter test (nets_of s.source))) b → Contains (scope_bits s) b
filtered_there s test b has =
    let net = from_flat (bits_of_net s.path) (filter test (nets_of s.source)) b has in
    into_flat (bits_of_net s.path) (nets_of s.source) net.0 b (kept_from test (nets_of s.source) net.0 net.1).0 net.2
