-- What is in a checked module, and that the nets to which a wire's declaration assigns are there and narrow.
use Rattle.std.proofs.Common.{◌≡◌, ℕ, ◌+◌, ◌≤◌, false, List, [], ◌∷◌, ◌++◌, map, All, Contains, Option, Some, None, refl, sym, ap, ◌∙◌, subst, arith}
use Rattle.std.specs.Prelude.{nat_lt, slice_get, IsSomeAnd, IfSome}
use Rattle.std.specs.List.{flat_map}
use Rattle.std.specs.Map.{lookup}
use Rattle.std.proofs.lemmas.Bool.Decides.{nat_tests}
use Rattle.std.proofs.lemmas.Option.{slice_get-get_or}
use Rattle.bb_bits.specs.Names.{same_name, placed}
use Rattle.bb_ast.specs.Syntax.{Expression, PlainBody, Ports, Nets, Regs, Supply, Assign, Gates, Calls, Always, PlainItem, PlainModule}
use Rattle.bb_names.specs.declared.net.NetInfo.{NetInfo}
use Rattle.bb_names.specs.declared.net.NetKind.TheVariants.{Wire}
use Rattle.bb_names.specs.declared.fault.NameFault.TheVariants as name_faults
use Rattle.bb_names.specs.Inside.Checked.{ModuleFacts, syntax, HasNets}
use Rattle.bb_names.specs.Declarations.{net_declaration, range_of}
use Rattle.bb_names.specs.Faults.{IsSound, widest, wrong_width}
use Rattle.bb_names.specs.Nets.{net_names, net_of, nets_of}
use Rattle.bb_names.specs.Ranges.{range_width}
use Rattle.bb_names.specs.Sites.{Read, Driven, Site, Declared, Used, initial_sites, sites_in, item_sites}
use Rattle.bb_expr.specs.Inside.Fit.{HasNet, ranges_in}
use Rattle.bb_expr.specs.Laws.FitLaws.{NetNamesDiffer}
use Rattle.bb_expr.specs.Inside.Occurrences.{expressions_in, item_expressions, OccursIn, OccursAt}
use Rattle.bb_hier.specs.Inside.Weights.{any_scope, IsNarrowNet, AreNarrowNets}
use Rattle.bb_lemmas.proofs.Names.{holds-place}
use Rattle.bb_lemmas.proofs.Places.{got-map}
use Rattle.bb_lemmas.proofs.Members.{all_from, from_flat, into_flat, contains_here, contains_there, none_if}
use Rattle.bb_hier.proofs.MarkLemmas.{names_are}
use Rattle.bb_lemmas.proofs.Earlier.{each_there}
use Rattle.bb_design.specs.Laws.DesignLaws.{DesignLaws}

not_less : (a b : ℕ) → nat_lt a b ≡ false → b ≤ a
not_less a b h = grind (arith, nat_tests, h)

module _ (facts : ModuleFacts) (has : HasNets facts) (differ : NetNamesDiffer) (n : List ℕ) where
  abbrev m : PlainModule
  m = syntax facts

  pub has_net : Contains (net_names (syntax facts)) n → HasNet facts n
  has_net c =
      let at : slice_get (net_names m) c.0 ≡ Some n = slice_get-get_or (net_names m) c.0 n c.1 ∙ ap Some c.2 in
      record {
        place = c.0;
        net = net_of m n;
        kept = ap (lookup (same_name n)) (has.index ∙ ap (λ (nets : List NetInfo). placed 0 (map (λ net. net.name) nets)) has.nets)
            ∙ holds-place (map (λ (net : NetInfo). net.name) (nets_of m)) 0 n c.0 (differ m) (ap (λ l. slice_get l c.0) (names_are m differ n) ∙ at) ∙ ap Some (plus c.0);
        there = ap (λ nets. slice_get nets c.0) has.nets ∙ got-map (net_of m) (net_names m) c.0 n at;
        name = refl;
        range = refl;
      }
    where
      plus : (k : ℕ) → 0 + k ≡ k
      plus k = omega arith

module _ (of_designs : DesignLaws) (text : List PlainModule) (sound : IsSound text) (facts : ModuleFacts) (there : Contains text (syntax facts)) (has : HasNets facts) (differ : NetNamesDiffer) where
  narrow_wire : (item : PlainItem) → Contains (syntax facts).items item → (range : _) (nets : List (List ℕ × Option Expression)) → item.body ≡ Nets range nets
      → (x : List ℕ × Option Expression) → Contains nets x → (e : Expression) → x.1 ≡ Some e → HasNet facts x.0 × (range_width (ranges_in facts x.0) ≤ widest)
  narrow_wire item at range nets is x c e some =
      let sites = of_designs.sound_sites text sound (syntax facts) there item at in
      let w = each_there (λ before y. Declared (sites.0 ++ map (λ (z : List ℕ × Option Expression). net_declaration Wire range z.0) before) (net_declaration Wire range y.0) ∷ initial_sites y) [] nets x c in
      let in_item = λ (z : Site) (h : _). subst (λ b. Contains (item_sites text sites.0 b) z) (sym is) (w.1 z h) in
      let declared = Declared (sites.0 ++ map (λ (z : List ℕ × Option Expression). net_declaration Wire range z.0) w.0) (net_declaration Wire range x.0) in
      let used = in_item (Used Driven x.0 None) (contains_there declared (initial_sites x) (Used Driven x.0 None)
      (subst (λ (y : List ℕ × Option Expression). Contains (initial_sites y) (Used Driven x.0 None)) (ap (λ o. (x.0, o)) (sym some)) (contains_here (Used Driven x.0 None) (sites_in Read e)))) in
      let width = none_if (nat_lt widest (range_width (range_of (syntax facts) x.0))) x.0 (sites.1 declared (in_item declared (contains_here declared (initial_sites x))) (name_faults.Width, wrong_width) (3, omega arith, refl)) in
      (has_net facts has differ x.0 (of_designs.used_net text (any_scope (syntax facts)) Driven x.0 None (sites.1 (Used Driven x.0 None) used)), not_less widest (range_width (range_of (syntax facts) x.0)) width)

  module _ (checked : List ModuleFacts) (k : ℕ) (at : slice_get checked k ≡ Some facts) where
    narrow : (n : List ℕ) → HasNet facts n × (range_width (ranges_in facts n) ≤ widest) → IsNarrowNet checked k n
    narrow n h = subst (λ o. IsSomeAnd o (λ m. HasNet m n × (range_width (ranges_in m n) ≤ widest))) (sym at) h

    narrow_body : (item : PlainItem) → Contains (syntax facts).items item → (b : PlainBody) → item.body ≡ b → AreNarrowNets checked k b
    narrow_body item c (Nets range nets) is = all_from (λ (x : List ℕ × Option Expression). IfSome x.1 (λ e. IsNarrowNet checked k x.0)) nets (λ x h. by x.0 x.1 (λ e some. narrow x.0 (narrow_wire item c range nets is x h e some)))
      where
        by : (n : List ℕ) (o : Option Expression) → ((e : Expression) → o ≡ Some e → IsNarrowNet checked k n) → IfSome o (λ e. IsNarrowNet checked k n)
        by n None rest = tt
        by n (Some e) rest = rest e refl
    narrow_body item c (Ports port names) is = tt
    narrow_body item c (Regs range names) is = tt
    narrow_body item c (Supply high range names) is = tt
    narrow_body item c (Assign all) is = tt
    narrow_body item c (Gates gate all) is = tt
    narrow_body item c (Calls target calls) is = tt
    narrow_body item c (Always r) is = tt

    pub all_narrow : All (λ (item : PlainItem). AreNarrowNets checked k item.body) (syntax facts).items
    all_narrow = all_from (λ (item : PlainItem). AreNarrowNets checked k item.body) (syntax facts).items (λ item c. narrow_body item c item.body refl)

pub all_occur : (checked : List ModuleFacts) (k : ℕ) (facts : ModuleFacts) → slice_get checked k ≡ Some facts → All (OccursAt checked k) (flat_map (λ (item : PlainItem). item_expressions item.body) (syntax facts).items)
all_occur checked k facts at = all_from (OccursAt checked k) (flat_map (λ (item : PlainItem). item_expressions item.body) (syntax facts).items) occurs
  where
    occurs : (e : Expression) → Contains (flat_map (λ (item : PlainItem). item_expressions item.body) (syntax facts).items) e → OccursAt checked k e
    occurs e has =
        let i = from_flat (λ (item : PlainItem). item_expressions item.body) (syntax facts).items e has in
        subst (λ o. IsSomeAnd o (λ m. OccursIn (syntax m) e)) (sym at)
        (into_flat (λ (item : PlainItem). flat_map expressions_in (item_expressions item.body)) (syntax facts).items i.0 e i.1
        (into_flat expressions_in (item_expressions i.0.body) e e i.2 (contains_here e _)))
