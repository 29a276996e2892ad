-- The header and the declarations of a filled module: no fault is reported of them.
use Rattle.std.proofs.Common.{◌≡◌, ◌≢◌, ◌∙◌, ℕ, false, not, ◌||◌, nat_lt, List, [], ◌∷◌, ◌++◌, map, flat_map, AllPairs, Contains, refl, sym, ap, ap₂, subst}
use Rattle.std.proofs.lemmas.List.{map-append}
use Rattle.std.proofs.lemmas.List.Elements.{All-cons, All-nil, Contains-append_left, Contains-append_right}
use Rattle.bb_bits.specs.Names.{same_name}
use Rattle.bb_ast.specs.Syntax.{PlainHead, PlainModule}
use Rattle.bb_names.specs.Declarations.{Declaration, declarations, declared_by_head}
use Rattle.bb_names.specs.Faults.{clashes, reported_if, widest, wrong_role}
use Rattle.bb_names.specs.Ranges.{range_width}
use Rattle.bb_names.specs.Sites.{Site, Declared, HeadName, ModuleName, declared_sites, header_sites}
use Rattle.bb_net.specs.Flats.{FlatNet}
use Rattle.bb_readback.specs.Laws.Modules.{plain_head}
use Rattle.bb_lemmas.proofs.Members.{contains_here, from_map}
use Rattle.bb_readback.proofs.Clashes.{AreOthers, NoClash, names_differ, no_output, no_register}
use Rattle.bb_readback.proofs.Lists.{any_none, each_all, pairs_before, pairs_both}
use Rattle.bb_readback.proofs.Meant.{Declares, each_said}
use Rattle.bb_readback.proofs.MeantNames.{no_range, no_supply, other_is_no_input, port_has_direction, port_is_port}
use Rattle.bb_readback.proofs.Silent.{AreSilent, IsSilent}

abbrev names_of : List PlainHead → List (List ℕ)
names_of heads = map (λ head. head.name) heads

pub head_names : (names : List (List ℕ)) → names_of (map plain_head names) ≡ names
head_names [] = refl
head_names (n ∷ ns) = ap (λ l. n ∷ l) (head_names ns)

module _ (text : List PlainModule) (m : PlainModule) (f : FlatNet) (declares : Declares m f) (others : AreOthers f) where
  -- a declaration that clashes with none before it

  role_none : (before : List Declaration) (d : Declaration) → Contains (declarations m) d → wrong_role text m (Declared before d) ≡ []
  role_none before = each_said m f declares (λ d. wrong_role text m (Declared before d) ≡ []) (record {
    input = λ n has. ap (λ b. reported_if (not b) n) (port_is_port m f declares n (Contains-append_left f.ins f.outs n has));
    output = λ n has. ap (λ b. reported_if (not b) n) (port_is_port m f declares n (Contains-append_right f.ins f.outs n has));
    register = λ n has. ap₂ (λ a b. reported_if (a || b || false || false) n)
        (other_is_no_input m f declares n (λ input. no_register f others n input has)) (no_supply m f declares n);
  })

  pub declared_silent : (before : List Declaration) (d : Declaration) → Contains (declarations m) d
      → ((e : Declaration) → Contains before e → NoClash m e d)
      → IsSilent text m (Declared before d)
  declared_silent before d has none = record {
    once = ap (λ b. reported_if b d.name) (any_none (λ e. clashes m e d) before none);
    known = refl;
    selected = refl;
    wide = ap (λ r. reported_if (nat_lt widest (range_width r)) d.name) (no_range m f declares d.name);
    placed = role_none before d has;
  }

  -- the names of the header

  pub ports_differ : AllPairs ◌≢◌ (f.ins ++ f.outs)
  ports_differ =
      pairs_both ◌≢◌ f.ins f.outs others.apart.ins others.apart.outs
      (λ a b input output same. no_output f others b (subst (Contains f.ins) same input) output)

  heads_differ : (prefix : List PlainHead) (head : PlainHead) (back : List PlainHead) → m.heads ≡ prefix ++ head ∷ back
      → (k : List ℕ) → Contains (names_of prefix) k → k ≢ head.name
  heads_differ prefix head back e = pairs_before ◌≢◌ (names_of prefix) head.name (names_of back) (subst (AllPairs ◌≢◌) (sym named) ports_differ)
    where
      named : names_of prefix ++ head.name ∷ names_of back ≡ f.ins ++ f.outs
      named = sym (map-append (λ (h : PlainHead). h.name) prefix (head ∷ back)) ∙ ap names_of (sym e ∙ declares.heads) ∙ head_names (f.ins ++ f.outs)

  head_silent : (prefix : List PlainHead) (n : List ℕ) → Contains (f.ins ++ f.outs) n → ((k : List ℕ) → Contains (names_of prefix) k → k ≢ n)
      → IsSilent text m (HeadName prefix n)
  head_silent prefix n port differ = record {
    once = ap (λ b. reported_if b n) (any_none (same_name n) (names_of prefix) (λ k has. names_differ n k (λ same. differ k has (sym same))));
    known = ap (λ b. reported_if b n) (port_has_direction m f declares n port);
    selected = refl;
    wide = refl;
    placed = refl;
  }

  abbrev sites_of_head : List PlainHead → PlainHead → List Site
  sites_of_head before head = HeadName before head.name ∷ declared_sites (flat_map declared_by_head before) (declared_by_head head)

  heads_silent : (prefix : List PlainHead) (head : PlainHead) (back : List PlainHead) → m.heads ≡ prefix ++ head ∷ back
      → AreSilent text m (sites_of_head prefix head)
  heads_silent prefix head back e =
      let there = Contains-append_right prefix (head ∷ back) head (contains_here head back) in
      let n = from_map plain_head (f.ins ++ f.outs) head (subst (λ l. Contains l head) (sym e ∙ declares.heads) there) in
      subst (λ h. ((k : List ℕ) → Contains (names_of prefix) k → k ≢ h.name) → AreSilent text m (sites_of_head prefix h)) n.2
      (λ differ. All-cons (IsSilent text m) (HeadName prefix n.0) [] (head_silent prefix n.0 n.1 differ) (All-nil (IsSilent text m)))
      (heads_differ prefix head back e)

  -- where the module is the first of its text
  pub header_silent : AreSilent text m (header_sites [] m)
  header_silent =
      All-cons (IsSilent text m) (ModuleName [] m.name) _ (record { once = refl; known = refl; selected = refl; wide = refl; placed = refl })
      (each_all (IsSilent text m) sites_of_head [] m.heads heads_silent)
