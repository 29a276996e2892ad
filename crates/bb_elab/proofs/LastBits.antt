-- The last scope by its number: after its bits there are none.
use Rattle.std.proofs.Common.{◌≡◌, ◌+◌, ◌-◌, ◌<◌, ◌≤◌, ◌++◌, ℕ, zero, suc, List, [], ◌∷◌, length, take, drop, get_or, Some, refl, sym, ap, ap₂, ◌∙◌, arith, append-nil, length-append}
use Rattle.std.specs.Prelude.{slice_get}
use Rattle.std.specs.List.{flat_map}
use Rattle.std.proofs.lemmas.Option.{slice_get_read}
use Rattle.bb_names.specs.Nets.{nets_of}
use Rattle.bb_blast.specs.declared.placed.Placed.{Placed}
use Rattle.bb_design.specs.Hierarchy.{Design, Scope, scopes}
use Rattle.bb_design.specs.NetBits.{scope_bits, net_order}
use Rattle.bb_blast.specs.Inside.Placements.{IsScopeAt, ArePlaced, AreTemplated}
use Rattle.bb_lemmas.proofs.Places.{got, some_at}
use Rattle.bb_blast.specs.declared.template.ModuleTemplate.{ModuleTemplate}
use Rattle.bb_blast.specs.Inside.ModuleTemplates.{IsModuleTemplate}
use Rattle.bb_lemmas.proofs.FlatPlaces.{flat_around}
use Rattle.bb_design.specs.Laws.DesignLaws.{DesignLaws}

-- the last scope
module _ (of_designs : DesignLaws) (d : Design) (all : List Placed) (templates : List ModuleTemplate) (placed : ArePlaced d all) (templated : AreTemplated d all templates) where
  abbrev last : ℕ
  last = length all - 1

  there : last < length all
  there = omega (arith, placed.count)

  scope_last : (s : Scope) × IsScopeAt d last s
  scope_last = some_at (scopes d) last (omega (arith, placed.count))

  module _ (p : Placed) (is_last : p ≡ get_or all last p) where
    here : slice_get all last ≡ Some p
    here = slice_get_read all (length all) last p refl there is_last

    template_last : (o : ModuleTemplate) × (slice_get templates p.module ≡ Some o) × IsModuleTemplate d.text scope_last.0.source o
    template_last = templated last scope_last.0 p scope_last.1 here

    pub last_templated : p.module < length templates
    last_templated = let o = template_last in (got templates p.module o.0 o.0 o.1).0

    pub last_bits : (bits : ℕ) → ((o : ModuleTemplate) → slice_get templates p.module ≡ Some o → bits ≡ p.first + o.bits) → bits ≡ length (net_order d)
    last_bits bits counted =
        let s = scope_last.0 in
        let is = placed.each last s p scope_last.1 here in
        let o = template_last in
        let width : o.0.bits ≡ length (scope_bits s) = o.2.bits ∙ sym (of_designs.net_bits s.path (nets_of s.source)) in
        let none : drop (suc last) (scopes d) ≡ [] = drop_past (scopes d) (suc last) (omega (arith, placed.count)) in
        let prefix = flat_map scope_bits (take last (scopes d)) in
        let after : length (scope_bits s ++ flat_map scope_bits (drop (suc last) (scopes d))) ≡ length (scope_bits s) = ap (λ l. length (scope_bits s ++ flat_map scope_bits l)) none ∙ ap length (append-nil (scope_bits s)) in
        counted o.0 o.1 ∙ ap₂ ◌+◌ is.first width ∙ sym (ap length (flat_around scope_bits (scopes d) last s scope_last.1) ∙ length-append prefix (scope_bits s ++ flat_map scope_bits (drop (suc last) (scopes d))) ∙ ap (λ n. length prefix + n) after)
      where
        drop_past : (xs : List Scope) (n : ℕ) → length xs ≤ n → drop n xs ≡ []
        drop_past [] zero le = refl
        drop_past [] (suc n) le = refl
        drop_past (x ∷ xs) zero le = absurd (omega (arith, le))
        drop_past (x ∷ xs) (suc n) le = drop_past xs n (omega (arith, le))
