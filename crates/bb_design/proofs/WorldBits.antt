-- A world is one in which every driven bit is what its source gives.
use Rattle.std.proofs.Common.{◌⊎◌, ◌↔◌, map, flat_map, All, Contains, sym, subst, inl, inr}
use Rattle.std.proofs.lemmas.List.Elements.{All-contains, Contains-append_cases, Contains-append_right}
use Rattle.bb_bits.specs.Contents.{Contents}
use Rattle.bb_design.specs.Hierarchy.{Design, Scope, scopes}
use Rattle.bb_design.specs.NetBits.{top_inputs}
use Rattle.bb_design.specs.Constructs.{Construct, constructs_at, parts}
use Rattle.bb_design.specs.Drivers.{Drive, Free, driven, drives_at, drives}
use Rattle.bb_design.specs.Laws.DrivenWorlds.{IsGiven, IsLegal, ConstructsHoldBitByBit, IsDrivenWorld, WorldsAreDriven}
use Rattle.bb_design.specs.Laws.{ScopesAreEnds}
use Rattle.bb_design.specs.Refusals.{IsShallow}
use Rattle.bb_design.specs.Worlds.{World, Holds, IsWorld}
use Rattle.bb_lemmas.proofs.Members.{from_flat, from_map, all_from, contains-map, into_flat}

module _ (law : ConstructsHoldBitByBit) (d : Design) (contents : Contents) (w : World) (ends : ScopesAreEnds d) (shallow : IsShallow d) (widths : All (λ x. IsLegal contents x.0 x.1) (parts d)) where
  part_there : (s : Scope) (c : Construct) → Contains (scopes d) s → Contains (constructs_at d.text s) c → Contains (parts d) (s, c)
  part_there s c has construct = into_flat (λ s. map (λ c. (s, c)) (constructs_at d.text s)) (scopes d) s (s, c) has (contains-map {B = Scope × Construct} (λ c. (s, c)) (constructs_at d.text s) c construct)

  bitwise : (s : Scope) (c : Construct) → Contains (parts d) (s, c) → Holds contents w s c ↔ All (IsGiven contents w) (drives_at (s, c))
  bitwise s c has = law contents w s c (All-contains (λ (x : Scope × Construct). IsLegal contents x.0 x.1) (parts d) (s, c) widths has)

  given : IsWorld d contents w → (y : Drive) → Contains (drives d) y → IsGiven contents w y
  given world y has = by (Contains-append_cases (map (driven Free) (top_inputs d)) (flat_map drives_at (parts d)) y has)
    where
      by : Contains (map (driven Free) (top_inputs d)) y ⊎ Contains (flat_map drives_at (parts d)) y → IsGiven contents w y
      by (inl here) = let z = from_map (driven Free) (top_inputs d) y here in subst (IsGiven contents w) z.2 tt
      by (inr there) =
          let p = from_flat drives_at (parts d) y there in
          let s = from_flat (λ s. map (λ c. (s, c)) (constructs_at d.text s)) (scopes d) p.0 p.1 in
          let c = from_map {B = Scope × Construct} (λ c. (s.0, c)) (constructs_at d.text s.0) p.0 s.2 in
          let holds = All-contains (Holds contents w s.0) (constructs_at d.text s.0) c.0 (world s.0.path s.0.source (ends.reached s.0 s.1)) c.1 in
          let all = (bitwise s.0 c.0 (part_there s.0 c.0 s.1 c.1)).0 holds in
          All-contains (IsGiven contents w) (drives_at (s.0, c.0)) y all (subst (λ x. Contains (drives_at x) y) (sym c.2) p.2)

  holds : IsDrivenWorld d contents w → IsWorld d contents w
  holds driven_world path m leads = all_from (Holds contents w s) (constructs_at d.text s) (λ c construct.
      let there = part_there s c (ends.listed shallow path m leads) construct in
      (bitwise s c there).1 (all_from (IsGiven contents w) (drives_at (s, c)) (λ y has.
      All-contains (IsGiven contents w) (drives d) y driven_world (Contains-append_right (map (driven Free) (top_inputs d)) (flat_map drives_at (parts d)) y (into_flat drives_at (parts d) (s, c) y there has)))))
    where
      s : Scope
      s = record { path = path; source = m }

pub worlds_are_driven : ConstructsHoldBitByBit → WorldsAreDriven
worlds_are_driven law d contents w ends shallow widths =
    (λ world. all_from (IsGiven contents w) (drives d) (given law d contents w ends shallow widths world), holds law d contents w ends shallow widths)
