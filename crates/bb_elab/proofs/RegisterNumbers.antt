-- The numbers of the register bits of a design are those of its register bits.
use Rattle.std.proofs.Common.{if◌then◌else◌, ◌≡◌, ◌+◌, ◌++◌, ℕ, Bool, true, false, List, [], ◌∷◌, map, length, drop, All, Option, Some, None, refl, sym, ap, ap₂, ◌∙◌, subst, true≢false}
use Rattle.std.specs.Prelude.{◌==◌, slice_get}
use Rattle.std.specs.Option.{option_map_or}
use Rattle.std.specs.List.{AllZip, cons_option, enumerate_from, filter_map, find, flat_map}
use Rattle.std.proofs.lemmas.Grind.{flat_map-append}
use Rattle.bb_ast.specs.Syntax.{PlainAlways}
use Rattle.bb_blast.specs.declared.template.Part.{Part}
use Rattle.bb_blast.specs.declared.template.ModuleTemplate.{ModuleTemplate}
use Rattle.bb_blast.specs.declared.placed.Placed.{Placed}
use Rattle.bb_blast.specs.declared.stored.Stored.{Stored}
use Rattle.bb_design.specs.Hierarchy.{Design, Scope, scopes, is_box}
use Rattle.bb_design.specs.NetBits.{Bit, same_bit, net_order, written_bits, scope_bits}
use Rattle.bb_design.specs.Constructs.{Construct, Assignment, GateInstance, Register, SupplyNet, InputConnection, OutputConnection, BoxContents, body_constructs, constructs_at}
use Rattle.bb_bits.specs.Inside.Places.{numbers_from, AreAt}
use Rattle.bb_blast.specs.Inside.ModuleTemplates.{AreBitsIn, IsPartOf, IsModuleTemplate}
use Rattle.bb_blast.specs.Inside.Placements.{IsScopeAt, IsPlacedAt, ArePlaced, AreTemplated, IsStoredAt, AreStored}
use Rattle.bb_design.specs.Registers.{RegisterBit, stored_at, stored}
use Rattle.bb_elab.specs.Inside.StoredNumbers.{stored_from, part_stored, scope_stored, IsStorable, MayBeNoted, AreNotes}
use Rattle.bb_lemmas.proofs.Places.{got, head_same}
use Rattle.bb_bits.specs.Closures.{IsDistinct}
use Rattle.bb_elab.proofs.Tallies.{test_same}
use Rattle.bb_lemmas.proofs.Zips.{zip_all, zip_by, AreNumbered, zip_numbered, zip_flat_zip}
use Rattle.bb_blast.specs.declared.template.Part.TheVariants as part
use Rattle.bb_lemmas.proofs.FlatPlaces.{at_flat}
use Rattle.bb_design.specs.Laws.DesignLaws.{DesignLaws}

flat_flat : {A B C : Type 0} (f : B → List C) (g : A → List B) (xs : List A) → flat_map f (flat_map g xs) ≡ flat_map (λ x. flat_map f (g x)) xs
flat_flat f g [] = refl
flat_flat f g (x ∷ xs) = flat_map-append f (g x) (flat_map g xs) ∙ ap (λ l. flat_map f (g x) ++ l) (flat_flat f g xs)

flat_pairs : {A B C : Type 0} (f : A × B → List C) (a : A) (bs : List B) → flat_map f (map (λ b. (a, b)) bs) ≡ flat_map (λ b. f (a, b)) bs
flat_pairs f a [] = refl
flat_pairs f a (b ∷ bs) = ap (λ l. f (a, b) ++ l) (flat_pairs f a bs)

-- the one bit of a clock
one_bit : {A : Type 0} (o : Option A) (bits : List A) → o ∷ [] ≡ map Some bits → (b : A) × (bits ≡ b ∷ []) × (o ≡ Some b)
one_bit o [] e = cc
one_bit o (b ∷ []) e = (b, refl, head_same o (Some b) [] [] e)
one_bit o (b ∷ c ∷ bits) e = cc

module _ (d : Design) (s : Scope) (r : PlainAlways) (first clock : ℕ) (b : Bit) (is : written_bits s r.clock ≡ b ∷ []) (there : slice_get (net_order d) (first + clock) ≡ Some b) (falling : Bool) (edge : falling ≡ r.falling) where
  registers_from : (a : ℕ) (left : List ℕ) (bits : List Bit) → AreAt (net_order d) (numbers_from first left) bits
      → AllZip (IsStoredAt d) (stored_from first left clock falling) (map (λ x. record { scope = s; item = r; place = x.0; bit = x.1 }) (enumerate_from a bits))
  registers_from a [] [] at = tt
  registers_from a [] (c ∷ bits) at = cc
  registers_from a (x ∷ left) [] at = cc
  registers_from a (x ∷ left) (c ∷ bits) at = (
    record { bit = head_same (slice_get (net_order d) (first + x)) (Some c) _ _ at; clock = (b, is, there); falling = edge },
    registers_from (a + 1) left bits (ap (drop 1) at),
  )

module _ (d : Design) (k : ℕ) (s : Scope) (p : Placed) (here : IsScopeAt d k s) (is : IsPlacedAt d k s p) where
  registers_at : (r : PlainAlways) (left : List ℕ) (clock : ℕ) (falling : Bool) → AreBitsIn s.source left (λ z. written_bits z r.left) → AreBitsIn s.source (clock ∷ []) (λ z. written_bits z r.clock) → falling ≡ r.falling
      → AllZip (IsStoredAt d) (stored_from p.first left clock falling) (stored_at (s, Register r))
  registers_at r left clock falling bits clocks edge =
      let c = one_bit (slice_get (net_order d) (p.first + clock)) (written_bits s r.clock) (at_flat scope_bits (scopes d) k s here p.first is.first (clock ∷ []) (written_bits s r.clock) (clocks s.path)) in
      registers_from d s r p.first clock c.0 c.1 c.2 falling edge 0 left (written_bits s r.left) (at_flat scope_bits (scopes d) k s here p.first is.first left (written_bits s r.left) (bits s.path))

  part_zip : (part : Part) (c : Construct) → IsPartOf d.text s.source part c → AllZip (IsStoredAt d) (part_stored p part) (stored_at (s, c))
  part_zip (part.Assignment left right) (Assignment l r) at = tt
  part_zip (part.Assignment left right) (GateInstance g os is) at = absurd at
  part_zip (part.Assignment left right) (Register r) at = absurd at
  part_zip (part.Assignment left right) (SupplyNet h n) at = absurd at
  part_zip (part.Assignment left right) (InputConnection i port e) at = absurd at
  part_zip (part.Assignment left right) (OutputConnection i port e) at = absurd at
  part_zip (part.Assignment left right) BoxContents at = absurd at
  part_zip (part.Gate gate outs ins) (Assignment l r) at = absurd at
  part_zip (part.Gate gate outs ins) (GateInstance g os is) at = tt
  part_zip (part.Gate gate outs ins) (Register r) at = absurd at
  part_zip (part.Gate gate outs ins) (SupplyNet h n) at = absurd at
  part_zip (part.Gate gate outs ins) (InputConnection i port e) at = absurd at
  part_zip (part.Gate gate outs ins) (OutputConnection i port e) at = absurd at
  part_zip (part.Gate gate outs ins) BoxContents at = absurd at
  part_zip (part.Register left right clock falling) (Assignment l r) at = absurd at
  part_zip (part.Register left right clock falling) (GateInstance g os is) at = absurd at
  part_zip (part.Register left right clock falling) (Register r) at = registers_at r left.items clock falling at.0 at.2 at.3
  part_zip (part.Register left right clock falling) (SupplyNet h n) at = absurd at
  part_zip (part.Register left right clock falling) (InputConnection i port e) at = absurd at
  part_zip (part.Register left right clock falling) (OutputConnection i port e) at = absurd at
  part_zip (part.Register left right clock falling) BoxContents at = absurd at
  part_zip (part.Supply high bits) (Assignment l r) at = absurd at
  part_zip (part.Supply high bits) (GateInstance g os is) at = absurd at
  part_zip (part.Supply high bits) (Register r) at = absurd at
  part_zip (part.Supply high bits) (SupplyNet h n) at = tt
  part_zip (part.Supply high bits) (InputConnection i port e) at = absurd at
  part_zip (part.Supply high bits) (OutputConnection i port e) at = absurd at
  part_zip (part.Supply high bits) BoxContents at = absurd at
  part_zip (part.Input instance pin value) (Assignment l r) at = absurd at
  part_zip (part.Input instance pin value) (GateInstance g os is) at = absurd at
  part_zip (part.Input instance pin value) (Register r) at = absurd at
  part_zip (part.Input instance pin value) (SupplyNet h n) at = absurd at
  part_zip (part.Input instance pin value) (InputConnection i port e) at = tt
  part_zip (part.Input instance pin value) (OutputConnection i port e) at = absurd at
  part_zip (part.Input instance pin value) BoxContents at = absurd at
  part_zip (part.Output instance pin left) (Assignment l r) at = absurd at
  part_zip (part.Output instance pin left) (GateInstance g os is) at = absurd at
  part_zip (part.Output instance pin left) (Register r) at = absurd at
  part_zip (part.Output instance pin left) (SupplyNet h n) at = absurd at
  part_zip (part.Output instance pin left) (InputConnection i port e) at = absurd at
  part_zip (part.Output instance pin left) (OutputConnection i port e) at = tt
  part_zip (part.Output instance pin left) BoxContents at = absurd at

  scope_zip : (templates : List ModuleTemplate) (o : ModuleTemplate) → slice_get templates p.module ≡ Some o → IsModuleTemplate d.text s.source o → AllZip (IsStoredAt d) (scope_stored templates p) (flat_map (λ c. stored_at (s, c)) (constructs_at d.text s))
  scope_zip templates o found templated =
      subst (λ z. AllZip (IsStoredAt d) (option_map_or (λ (q : ModuleTemplate). if p.boxed then [] else flat_map (part_stored p) q.parts.items) z []) (flat_map (λ c. stored_at (s, c)) (constructs_at d.text s))) (sym found)
      (subst (λ b. AllZip (IsStoredAt d) (if b then [] else flat_map (part_stored p) o.parts.items) (flat_map (λ c. stored_at (s, c)) (constructs_at d.text s))) (sym is.boxed) (by (is_box s)))
    where
      constructs : List Construct
      constructs = flat_map (λ item. body_constructs d.text item.body) s.source.items

      by : (b : Bool) → AllZip (IsStoredAt d) (if b then [] else flat_map (part_stored p) o.parts.items) (flat_map (λ c. stored_at (s, c)) (if b then BoxContents ∷ [] else constructs))
      by true = tt
      by false = zip_flat_zip (IsPartOf d.text s.source) (IsStoredAt d) (part_stored p) (λ c. stored_at (s, c)) part_zip o.parts.items constructs templated.parts

storable : (d : Design) (x : Stored) (r : RegisterBit) → IsStoredAt d x r → IsStorable (length (net_order d)) x
storable d x r at = ((got (net_order d) x.bit r.bit r.bit at.bit).0, (got (net_order d) x.clock at.clock.0 at.clock.0 at.clock.2).0)

module _ (of_designs : DesignLaws) (d : Design) (all : List Placed) (templates : List ModuleTemplate) (placed : ArePlaced d all) (templated : AreTemplated d all templates) where
  each_zip : (p : Placed) (s : Scope) → AreNumbered all (scopes d) p s → AllZip (IsStoredAt d) (scope_stored templates p) (flat_map (λ c. stored_at (s, c)) (constructs_at d.text s))
  each_zip p s z = let o = templated z.0 s p z.2 z.1 in scope_zip d z.0 s p z.2 (placed.each z.0 s p z.2 z.1) templates o.0 o.1 o.2

  stored_are : stored d ≡ flat_map (λ s. flat_map (λ c. stored_at (s, c)) (constructs_at d.text s)) (scopes d)
  stored_are = flat_flat stored_at (λ s. map (λ c. (s, c)) (constructs_at d.text s)) (scopes d) ∙ same (scopes d)
    where
      same : (ss : List Scope) → flat_map (λ s. flat_map stored_at (map (λ c. (s, c)) (constructs_at d.text s))) ss ≡ flat_map (λ s. flat_map (λ c. stored_at (s, c)) (constructs_at d.text s)) ss
      same [] = refl
      same (s ∷ ss) = ap₂ ◌++◌ (flat_pairs stored_at s (constructs_at d.text s)) (same ss)

  all_zip : AllZip (IsStoredAt d) (flat_map (scope_stored templates) all) (stored d)
  all_zip = subst (AllZip (IsStoredAt d) (flat_map (scope_stored templates) all)) (sym stored_are)
      (zip_flat_zip (AreNumbered all (scopes d)) (IsStoredAt d) (scope_stored templates) (λ s. flat_map (λ c. stored_at (s, c)) (constructs_at d.text s)) each_zip all (scopes d) (zip_numbered all (scopes d) placed.count))

  pub notes_there : All (MayBeNoted templates (length (net_order d))) all
  notes_there = zip_all (AreNumbered all (scopes d)) (MayBeNoted templates (length (net_order d))) one all (scopes d) (zip_numbered all (scopes d) placed.count)
    where
      one : (p : Placed) (s : Scope) → AreNumbered all (scopes d) p s → MayBeNoted templates (length (net_order d)) p
      one p s z = let o = templated z.0 s p z.2 z.1 in record {
        templated = (got templates p.module o.0 o.0 o.1).0;
        there = zip_all (IsStoredAt d) (IsStorable (length (net_order d))) (storable d) (scope_stored templates p) (flat_map (λ c. stored_at (s, c)) (constructs_at d.text s)) (each_zip p s z);
      }

  -- both or neither is there
  abbrev AreBoth : Option Stored → Option RegisterBit → Type 0
  AreBoth None None = Unit {0}
  AreBoth (Some x) (Some r) = IsStoredAt d x r
  AreBoth o q = ⊥

  module _ (distinct : IsDistinct (net_order d)) where
    both_found : (k : ℕ) (b : Bit) → slice_get (net_order d) k ≡ Some b → (xs : List Stored) (rs : List RegisterBit) → AllZip (IsStoredAt d) xs rs → AreBoth (find (λ x. x.bit == k) xs) (find (λ r. same_bit b r.bit) rs)
    both_found k b at [] [] zipped = tt
    both_found k b at [] (r ∷ rs) zipped = absurd zipped
    both_found k b at (x ∷ xs) [] zipped = absurd zipped
    both_found k b at (x ∷ xs) (r ∷ rs) zipped = by (x.bit == k) (same_bit b r.bit) (test_same of_designs (net_order d) distinct k x.bit b r.bit at zipped.0.bit) (both_found k b at xs rs zipped.1)
      where
        by : (t u : Bool) → t ≡ u → AreBoth (find (λ y. y.bit == k) xs) (find (λ q. same_bit b q.bit) rs) → AreBoth (if t then Some x else find (λ y. y.bit == k) xs) (if u then Some r else find (λ q. same_bit b q.bit) rs)
        by true true e rest = zipped.0
        by false false e rest = rest
        by true false e rest = absurd (true≢false e)
        by false true e rest = absurd (true≢false (sym e))

    both_kept : (f : Bit → Option RegisterBit) (notes : List (Option Stored)) (bits : List Bit) → AllZip (λ o b. AreBoth o (f b)) notes bits → AllZip (IsStoredAt d) (filter_map (λ o. o) notes) (filter_map f bits)
    both_kept f [] [] zipped = tt
    both_kept f [] (b ∷ bits) zipped = absurd zipped
    both_kept f (o ∷ notes) [] zipped = absurd zipped
    both_kept f (o ∷ notes) (b ∷ bits) zipped = by o (f b) zipped.0 (both_kept f notes bits zipped.1)
      where
        by : (o : Option Stored) (q : Option RegisterBit) → AreBoth o q → AllZip (IsStoredAt d) (filter_map (λ z. z) notes) (filter_map f bits) → AllZip (IsStoredAt d) (cons_option o (filter_map (λ z. z) notes)) (cons_option q (filter_map f bits))
        by None None both rest = rest
        by (Some x) (Some r) both rest = (both, rest)
        by None (Some r) both rest = absurd both
        by (Some x) None both rest = absurd both

    pub stored_reported : (notes : List (Option Stored)) → length notes ≡ length (net_order d) → AreNotes (flat_map (scope_stored templates) all) notes → AreStored d (filter_map (λ o. o) notes)
    stored_reported notes long noted = both_kept (λ b. find (λ r. same_bit b r.bit) (stored d)) notes (net_order d) (zip_by _ notes (net_order d) long each)
      where
        each : (k : ℕ) (o : Option Stored) (b : Bit) → slice_get notes k ≡ Some o → slice_get (net_order d) k ≡ Some b → AreBoth o (find (λ r. same_bit b r.bit) (stored d))
        each k o b at there =
            let g = got notes k o None at in
            subst (λ z. AreBoth z (find (λ r. same_bit b r.bit) (stored d))) (sym (noted k g.0) ∙ g.1) (both_found k b there (flat_map (scope_stored templates) all) (stored d) all_zip)
