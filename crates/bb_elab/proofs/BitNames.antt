-- The text of a bit by its number.
use Rattle.std.proofs.Common.{◌≡◌, ℕ, ◌+◌, ◌<◌, [], List, map, length, Contains, Some, refl, sym, ap, ◌∙◌, subst, arith}
use Rattle.std.specs.Prelude.{All, slice_get}
use Rattle.std.specs.List.{range_with_len}
use Rattle.std.specs.Option.{option_and_then}
use Rattle.std.proofs.lemmas.Option.{slice_get_within, same_Some}
use Rattle.bb_ast.specs.Syntax.{PlainModule}
use Rattle.bb_names.specs.declared.net.NetInfo.{NetInfo}
use Rattle.bb_names.specs.Inside.Checked.{ModuleFacts, syntax, IsChecked}
use Rattle.bb_names.specs.Declarations.{range_of}
use Rattle.bb_names.specs.Nets.{net_names, net_of, nets_of}
use Rattle.bb_names.specs.Ranges.{range_width}
use Rattle.bb_blast.specs.declared.template.ModuleTemplate.{ModuleTemplate}
use Rattle.bb_blast.specs.declared.placed.Placed.{Placed}
use Rattle.bb_design.specs.Laws.{HasNamesApart}
use Rattle.bb_design.specs.Hierarchy.{Design, Scope, scopes, module_at}
use Rattle.bb_design.specs.NetBits.{bits_of_net, Bit, scope_bits}
use Rattle.bb_blast.specs.Inside.ModuleTemplates.{net_start}
use Rattle.bb_blast.specs.Inside.BitBlasting.{bit_count}
use Rattle.bb_blast.specs.Inside.Placements.{IsScopeAt, ArePlaced, AreTemplated}
use Rattle.bb_design.specs.Texts.{net_bit_text, pin_text, range_at}
use Rattle.bb_lemmas.proofs.Places.{there_at, some_at}
use Rattle.bb_lemmas.proofs.Members.{from_flat, from_map}
use Rattle.bb_design.specs.Laws.DesignLaws.{DesignLaws}
use Rattle.bb_blast.specs.Laws.ModuleLaws.{ModuleLaws}

-- a net has the range of its name
own_range : (m : PlainModule) (k : ℕ) (net : NetInfo) → slice_get (nets_of m) k ≡ Some net → net.range ≡ range_of m net.name
own_range m k net e =
    let n = from_map (net_of m) (net_names m) net (there_at (nets_of m) k net e) in
    subst (λ (x : NetInfo). x.range ≡ range_of m x.name) n.2 refl

-- a bit of a scope has its path
pub own_path : (s : Scope) (k : ℕ) (b : Bit) → slice_get (scope_bits s) k ≡ Some b → b.path ≡ s.path
own_path s k b e =
    let net = from_flat (bits_of_net s.path) (nets_of s.source) b (there_at (scope_bits s) k b e) in
    let place = from_map (λ i. record { path = s.path; net = net.0.name; place = i }) (range_with_len 0 (range_width net.0.range)) b net.2 in
    ap (λ (c : Bit). c.path) (sym place.2)

module _ (of_designs : DesignLaws) (of_modules : ModuleLaws) (checked : List ModuleFacts) (ok : IsChecked checked) (all : List Placed) (templates : List ModuleTemplate) (d : Design) (text : d.text ≡ map syntax checked) (are : ArePlaced d all) where
  pub scope_at : (k : ℕ) → k < length all → (s : Scope) × IsScopeAt d k s
  scope_at k lt = some_at (scopes d) k (omega (arith, lt, are.count))

  top_there : Contains d.text d.top
  top_there =
      let p = some_at all 0 (omega (arith, are.count)) in
      there_at d.text p.0.module d.top (are.each 0 (record { path = []; source = d.top }) p.0 refl p.1).source

  -- the module at a path
  source_at : (k : ℕ) (s : Scope) → IsScopeAt d k s → module_at d s.path ≡ Some s.source
  source_at k s at = (of_designs.scopes_reached d top_there (subst (λ t. All HasNamesApart t) (sym text) (of_designs.names_apart (map syntax checked) ok.sound))).reached s (there_at (scopes d) k s at)

  module _ (k : ℕ) (s : Scope) (at : IsScopeAt d k s) (p : Placed) (there : slice_get all k ≡ Some p) where
    pub module_there : p.module < length checked
    module_there = (of_modules.checked checked p.module s.source (ap (λ l. slice_get l p.module) (sym text) ∙ (are.each k s p at there).source)).0

    pub own_nets : (f : ModuleFacts) → slice_get checked p.module ≡ Some f → f.nets ≡ nets_of s.source
    own_nets f e = ((of_modules.modules checked p.module f e).nets ok).nets ∙ ap nets_of (sym ((of_modules.modules checked p.module f e).is) ∙ (of_modules.checked checked p.module s.source (ap (λ l. slice_get l p.module) (sym text) ∙ (are.each k s p at there).source)).1)

    -- the text without path of the bit at a place of a net of the scope
    pub pin_named : (nets : List NetInfo) → nets ≡ nets_of s.source → (j : ℕ) (net : NetInfo) → slice_get nets j ≡ Some net → (local place : ℕ) → local ≡ net_start nets j + place → place < range_width net.range → (b : Bit) → slice_get (scope_bits s) local ≡ Some b
        → net_bit_text net.name net.range place ≡ pin_text d b
    pin_named nets same j net e local place is lt b here =
        let own = subst (λ l. slice_get l j ≡ Some net) same e in
        let made : Bit = record { path = s.path; net = net.name; place = place } in
        let bit : made ≡ b = same_Some made b (sym (of_modules.net_bit_at s.path (nets_of s.source) j net place own lt) ∙ ap (slice_get (scope_bits s)) (ap (λ l. net_start l j + place) (sym same) ∙ sym is) ∙ here) in
        let range : range_at d made ≡ net.range = ap (option_and_then (λ m. range_of m net.name)) (source_at k s at) ∙ sym (own_range s.source j net own) in
        ap (λ r. net_bit_text net.name r place) (sym range) ∙ ap (pin_text d) bit

    module _ (templated : AreTemplated d all templates) (y : ModuleTemplate) (kept : slice_get templates p.module ≡ Some y) (nets : List NetInfo) (starts : List ℕ) (own : nets ≡ nets_of s.source) (same : starts ≡ y.starts.items) where
      pub starts_each : (j : ℕ) → j < length nets → slice_get starts j ≡ Some (net_start nets j)
      starts_each j lt =
          let o = templated k s p at there in
          let is : o.0 ≡ y = same_Some o.0 y (sym o.1 ∙ kept) in
          ap (λ l. slice_get l j) (same ∙ ap (λ (x : ModuleTemplate). x.starts.items) (sym is)) ∙ o.2.starts j (subst (λ l. j < length l) own lt) ∙ ap (λ l. Some (net_start l j)) (sym own)

      pub local_there : (local : ℕ) (b : Bit) → slice_get (scope_bits s) local ≡ Some b → local < bit_count nets
      local_there local b is = omega (arith, slice_get_within (scope_bits s) local b is, of_designs.net_bits s.path (nets_of s.source), ap bit_count own)
