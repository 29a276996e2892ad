-- The scopes of a design by their numbers, one after another: the blocks are its constructs, and its boxes have their pins.
use Rattle.std.proofs.Common.{◌≡◌, ℕ, suc, ◌+◌, Bool, true, false, if◌then◌else◌, List, [], ◌∷◌, map, flat_map, length, Contains, Some, None, refl, sym, ap, ◌∙◌, subst, arith, length-append}
use Rattle.std.specs.Prelude.{slice_get}
use Rattle.std.specs.List.{AllZip, fold}
use Rattle.std.specs.Option.{option_map_or}
use Rattle.bb_names.specs.Nets.{nets_of}
use Rattle.bb_expr.specs.Laws.FitLaws.{NetNamesDiffer}
use Rattle.bb_blast.specs.declared.template.ModuleTemplate.{ModuleTemplate}
use Rattle.bb_blast.specs.declared.placed.Placed.{Placed}
use Rattle.bb_design.specs.Hierarchy.{Design, Scope, scopes}
use Rattle.bb_design.specs.NetBits.{Bit, scope_bits, net_order}
use Rattle.bb_design.specs.Constructs.{Construct, GateInstance, BoxContents, body_constructs, constructs_at, parts}
use Rattle.bb_blast.specs.Inside.Counting.{after}
use Rattle.bb_blast.specs.Inside.Listing.{bit_count, site_of}
use Rattle.bb_design.specs.Inside.Allowed.{IsBounded}
use Rattle.bb_blast.specs.Inside.ModuleTemplates.{IsModuleTemplate, IsPartOf}
use Rattle.bb_blast.specs.Inside.Placements.{ArePlaced, AreTemplated, IsScopeAt}
use Rattle.bb_implements.specs.Places.{NetBit, Numbering, Lowering}
use Rattle.bb_blast.proofs.BitNumbers.{bit_number, held_bits, site_is}
use Rattle.bb_blast.proofs.ListedBlocks.{nowhere, blocks_in, blocks_of, IsBlockOf}
use Rattle.bb_blast.proofs.ListedBoxes.{IsBoxedSo}
use Rattle.bb_blast.proofs.WholeParts.{HasInputs}
use Rattle.bb_lemmas.proofs.Zips.{zip_append}
use Rattle.bb_design.specs.Laws.DesignLaws.{DesignLaws}

zip_flat : {A B C D : Type 0} (R : C → D → Type 0) (f : A → List C) (g : B → List D) (xs : List A) (ys : List B) → length xs ≡ length ys → ((i : ℕ) (x : A) (y : B) → slice_get xs i ≡ Some x → slice_get ys i ≡ Some y → AllZip R (f x) (g y))
    → AllZip R (flat_map f xs) (flat_map g ys)
zip_flat R f g [] [] long each = tt
zip_flat R f g [] (y ∷ ys) long each = absurd (omega (arith, long))
zip_flat R f g (x ∷ xs) [] long each = absurd (omega (arith, long))
zip_flat R f g (x ∷ xs) (y ∷ ys) long each =
    zip_append R (f x) (g y) (flat_map f xs) (flat_map g ys) (each 0 x y refl refl) (zip_flat R f g xs ys (omega (arith, long)) (λ i u v p q. each (suc i) u v p q))

zip_maps : {A B C D : Type 0} (Q : A → B → Type 0) (R : C → D → Type 0) (f : A → C) (g : B → D) (xs : List A) (ys : List B) → AllZip Q xs ys → ((x : A) (y : B) → Q x y → R (f x) (g y)) → AllZip R (map f xs) (map g ys)
zip_maps Q R f g [] [] all step = tt
zip_maps Q R f g [] (y ∷ ys) all step = absurd all
zip_maps Q R f g (x ∷ xs) [] all step = absurd all
zip_maps Q R f g (x ∷ xs) (y ∷ ys) all step = (step x y all.0, zip_maps Q R f g xs ys all.1 step)

module _ (of_designs : DesignLaws) where
  -- the gates of a design have inputs, of one bit each
  pub has_inputs : (d : Design) → IsBounded d → (s : Scope) (c : Construct) → Contains (parts d) (s, c) → HasInputs s.source c
  has_inputs d bounded s (GateInstance gate outs ins) has = let wired = (of_designs.wired d bounded).gates s gate outs ins has in (wired.0, wired.1)
  has_inputs d bounded s c has = tt

module _ (of_designs : DesignLaws) (names : NetNamesDiffer) (d : Design) (bounded : IsBounded d) (placed : List Placed) (are : ArePlaced d placed) (templates : List ModuleTemplate) (templated : AreTemplated d placed templates) where
  scope_blocks : (k : ℕ) (s : Scope) (p : Placed) → slice_get placed k ≡ Some p → IsScopeAt d k s → AllZip (IsBlockOf d) (blocks_of placed templates p) (map (λ c. (s, c)) (constructs_at d.text s))
  scope_blocks k s p has at =
      subst (λ b. AllZip (IsBlockOf d) (blocks_of placed templates p) (map {B = Scope × Construct} (λ c. (s, c)) (if b then BoxContents ∷ [] else flat_map (λ item. body_constructs d.text item.body) s.source.items))) (are.each k s p at has).boxed (by p.boxed)
    where
      o : (o : ModuleTemplate) × (slice_get templates p.module ≡ Some o) × IsModuleTemplate d.text s.source o
      o = templated k s p at has

      by : (b : Bool) → AllZip (IsBlockOf d) (if b then record { site = nowhere; item = None } ∷ [] else blocks_in placed p (slice_get templates p.module))
          (map {B = Scope × Construct} (λ c. (s, c)) (if b then BoxContents ∷ [] else flat_map (λ item. body_constructs d.text item.body) s.source.items))
      by true = (refl, tt)
      by false =
          subst (λ z. AllZip (IsBlockOf d) (blocks_in placed p z) (map {B = Scope × Construct} (λ c. (s, c)) (flat_map (λ item. body_constructs d.text item.body) s.source.items))) (sym o.1)
          (zip_maps {D = Scope × Construct} (IsPartOf d.text s.source) (IsBlockOf d) (λ q. record { site = site_of placed p o.0; item = Some q }) (λ c. (s, c)) o.0.parts.items (flat_map (λ item. body_constructs d.text item.body) s.source.items) o.2.parts
          (λ q c is. (site_is of_designs names d bounded placed are k s p o.0 at has o.2, is)))

  pub blocks_are : AllZip (IsBlockOf d) (flat_map (blocks_of placed templates) placed) (parts d)
  blocks_are = zip_flat {D = Scope × Construct} (IsBlockOf d) (blocks_of placed templates) (λ s. map (λ c. (s, c)) (constructs_at d.text s)) placed (scopes d) are.count (λ k p s has at. scope_blocks k s p has at)

  pub boxes_are : (lowering : Lowering) (number : Numbering) (nets start : ℕ) (net_places : (b : Bit) → number (NetBit b) ≡ after nets (bit_number d b)) (all : List Scope) (pins_occur : _) (few : _) (few_pins : _)
      (k : ℕ) (s : Scope) (p : Placed) → IsScopeAt d k s → slice_get placed k ≡ Some p → IsBoxedSo d lowering number nets start net_places templates all pins_occur few few_pins s p
  boxes_are lowering number nets start net_places all pins_occur few few_pins k s p at has =
      let o = templated k s p at has in
      record {
        boxed = (are.each k s p at has).boxed;
        template = o.0;
        found = o.1;
        pins = record { own = held_bits of_designs names d bounded placed are k s p at has; inputs = o.2.inputs s.path; outputs = o.2.outputs s.path };
      }

  counts_from : (ss : List Scope) (ps : List Placed) (n : ℕ) → length ps ≡ length ss → ((i : ℕ) (s : Scope) (p : Placed) → slice_get ss i ≡ Some s → slice_get ps i ≡ Some p → option_map_or (λ o. o.bits) (slice_get templates p.module) 0 ≡ length (scope_bits s))
      → fold (λ n p. n + option_map_or (λ o. o.bits) (slice_get templates p.module) 0) n ps ≡ n + length (flat_map scope_bits ss)
  counts_from [] [] n long each = omega arith
  counts_from [] (p ∷ ps) n long each = absurd (omega (arith, long))
  counts_from (s ∷ ss) [] n long each = absurd (omega (arith, long))
  counts_from (s ∷ ss) (p ∷ ps) n long each =
      counts_from ss ps (n + option_map_or (λ (o : ModuleTemplate). o.bits) (slice_get templates p.module) 0) (omega (arith, long)) (λ i t q e f. each (suc i) t q e f)
      ∙ omega (arith, each 0 s p refl refl, length-append (scope_bits s) (flat_map scope_bits ss))

  -- all bits of the design are counted
  pub counted : bit_count placed templates ≡ length (net_order d)
  counted =
      counts_from (scopes d) placed 0 are.count (λ k s p at has. let o = templated k s p at has in
      ap (λ z. option_map_or (λ (o : ModuleTemplate). o.bits) z 0) o.1 ∙ o.2.bits ∙ sym (of_designs.net_bits s.path (nets_of s.source)))
      ∙ omega arith
