-- Registers with their texts: the place of a clock is one of the list of cells.
use Rattle.std.proofs.Common.{◌≡◌, ℕ, ◌+◌, ◌<◌, ◌^◌, [], ◌∷◌, ◌++◌, List, map, take, length, Some, refl, sym, ap, ap₂, ◌∙◌, subst, arith, length-append, append_assoc, append-nil}
use Rattle.std.specs.Prelude.{All, slice_get}
use Rattle.std.specs.List.{AllZip}
use Rattle.std.proofs.lemmas.List.{length-map, take_all}
use Rattle.std.proofs.lemmas.Option.{same_Some}
use Rattle.bb_net.specs.Loose.{LooseList}
use Rattle.bb_net.specs.Netlists.{Netlist}
use Rattle.bb_net.specs.Orders.{IsCopySource}
use Rattle.bb_net.specs.declared.flat.Reg.{Reg}
use Rattle.bb_blast.specs.declared.stored.Stored.{Stored}
use Rattle.bb_design.specs.Hierarchy.{Design}
use Rattle.bb_design.specs.NetBits.{Bit, net_order}
use Rattle.bb_bits.specs.Inside.Places.{AreAt}
use Rattle.bb_blast.specs.Inside.Placements.{IsStoredAt, AreStored}
use Rattle.bb_design.specs.Refusals.{register_texts}
use Rattle.bb_design.specs.Registers.{RegisterBit, registers, cut_bits}
use Rattle.bb_elab.specs.Inside.Stages.{AreLevelized}
use Rattle.bb_implements.specs.Implements.{IsRegister}
use Rattle.bb_design.specs.Texts.{bit_text}
use Rattle.bb_lemmas.proofs.Places.{got-map}
use Rattle.bb_lemmas.proofs.Members.{all_from}
use Rattle.bb_elab.proofs.NamedBits.{taken-push, zip_at}
use Rattle.bb_lemmas.proofs.AtPlaces.{at_below}
use Rattle.bb_lemmas.proofs.Maps.{map-twice}
use Rattle.bb_elab.proofs.ReadBits.{zip_there}
use Rattle.bb_lemmas.proofs.Turns.{zip_both}
use Rattle.bb_implements.specs.Laws.CellLaws.{CellLaws}
use Rattle.bb_implements.specs.Laws.ListLaws.{ListsAreLoose}
use Rattle.bb_design.specs.Inside.Allowed.{IsBounded}

module _ (of_cells : CellLaws) (d : Design) (list : LooseList) (net : Netlist) (numbers : List ℕ) (are : AreLevelized d list net numbers) where
  -- copies end after it
  pub clock_source : (first : ℕ) → first ≡ 2 + length (cut_bits d) → (k : ℕ) (b : Bit) → slice_get (net_order d) k ≡ Some b → (n source : ℕ) × IsCopySource n list (first + k) source
  clock_source first is k b at = are.ordered.sources (first + k) (omega (arith, is, (of_cells.net_places d are.lowering list are.listed k b at).1))

  -- and numbers of 32 bits say it
  module _ (law : ListsAreLoose) (bounded : IsBounded d) where
    pub cells_few : length list.cells < 2 ^ 32
    cells_few = (law d are.lowering list bounded are.lowered are.listed).cells_fit

    pub inputs_few : 2 + list.inputs < 2 ^ 32
    inputs_few = let low = of_cells.nets_fit d are.lowering list are.listed in let few = cells_few in omega (arith, low, few, are.listed.inputs)

    clock_fits : (first : ℕ) → first ≡ 2 + length (cut_bits d) → (x : Stored) (r : RegisterBit) → IsStoredAt d x r → first + x.clock < 2 ^ 32
    clock_fits first is x r stored = let low = (of_cells.net_places d are.lowering list are.listed x.clock stored.clock.0 stored.clock.2).1 in let few = cells_few in omega (arith, is, low, few)

    pub clocks_fit : (first : ℕ) → first ≡ 2 + length (cut_bits d) → (stored : List Stored) → AreStored d stored → All (λ x. first + x.clock < 2 ^ 32) stored
    clocks_fit first is stored all = all_from (λ x. first + x.clock < 2 ^ 32) stored (λ x has. let r = zip_there (IsStoredAt d) stored (registers d) x all has in clock_fits first is x r.0 r.2)

-- one more register
pub registers_more : (d : Design) (stored : List Stored) (i : ℕ) (x : Stored) → slice_get stored i ≡ Some x → AreStored d stored → (texts : List (List ℕ)) (n : List ℕ) → slice_get texts i ≡ Some n → texts ≡ register_texts d
    → (old now : List Reg) (reg : Reg) → AllZip (IsRegister d) (take i (registers d)) old → ((r : RegisterBit) → IsStoredAt d x r → n ≡ bit_text d r.bit → IsRegister d r reg) → now ≡ old ++ reg ∷ []
    → AllZip (IsRegister d) (take (i + 1) (registers d)) now
registers_more d stored i x at all texts n text same old now reg before is more =
    let r = zip_at (IsStoredAt d) stored (registers d) all i x at in
    let own : Some n ≡ Some (bit_text d r.0.bit) = sym text ∙ ap (λ l. slice_get l i) same ∙ got-map (λ (q : RegisterBit). bit_text d q.bit) (registers d) i r.0 r.1 in
    subst (AllZip (IsRegister d) (take (i + 1) (registers d))) (sym more)
    (subst (λ l. AllZip (IsRegister d) l (old ++ reg ∷ [])) (sym (taken-push (registers d) i r.0 r.1)) (zip_both (IsRegister d) (take i (registers d)) old (r.0 ∷ []) (reg ∷ []) before (is r.0 r.2 (same_Some n (bit_text d r.0.bit) own), tt)))

at_middle : {A : Type 0} (xs : List A) (x : A) (ys : List A) → slice_get (xs ++ x ∷ ys) (length xs) ≡ Some x
at_middle [] x ys = refl
at_middle (z ∷ xs) x ys = at_middle xs x ys

-- the next register, for the next text
pub registers_turn : (d : Design) (stored : List Stored) (seen : List (List ℕ)) (n : List ℕ) (rest texts : List (List ℕ)) → (seen ++ n ∷ []) ++ rest ≡ texts → (place : ℕ) → place ≡ length seen → (x : Stored) → slice_get stored place ≡ Some x
    → AreStored d stored → texts ≡ register_texts d → (old now : List Reg) (reg : Reg) → AllZip (IsRegister d) (take (length seen) (registers d)) old → ((r : RegisterBit) → IsStoredAt d x r → n ≡ bit_text d r.bit → IsRegister d r reg)
    → now ≡ old ++ reg ∷ [] → AllZip (IsRegister d) (take (length (seen ++ n ∷ [])) (registers d)) now
registers_turn d stored seen n rest texts split place is x at all same old now reg before makes more =
    let here : slice_get texts (length seen) ≡ Some n = ap (λ l. slice_get l (length seen)) (sym split ∙ append_assoc seen (n ∷ []) rest) ∙ at_middle seen n rest in
    let long : length seen + 1 ≡ length (seen ++ n ∷ []) = sym (length-append seen (n ∷ [])) in
    subst (λ i. AllZip (IsRegister d) (take i (registers d)) now) long
    (registers_more d stored (length seen) x (ap (slice_get stored) (sym is) ∙ at) all texts n here same old now reg before makes more)

pub registers_end : (d : Design) (seen rest texts : List (List ℕ)) → seen ++ rest ≡ texts → rest ≡ [] → texts ≡ register_texts d → (regs : List Reg) → AllZip (IsRegister d) (take (length seen) (registers d)) regs → AllZip (IsRegister d) (registers d) regs
registers_end d seen rest texts split none same regs all =
    let whole : length seen ≡ length (registers d) = ap length (sym (append-nil seen) ∙ ap (λ l. seen ++ l) (sym none) ∙ split ∙ same) ∙ length-map (registers d) (λ (r : RegisterBit). bit_text d r.bit) in
    subst (λ l. AllZip (IsRegister d) l regs) (take_all (length seen) (registers d) (omega (arith, whole))) all

-- the bits of registers, by their numbers
stored_at : (d : Design) (stored : List Stored) (rs : List RegisterBit) → AllZip (IsStoredAt d) stored rs → AreAt (net_order d) (map (λ (x : Stored). x.bit) stored) (map (λ (r : RegisterBit). r.bit) rs)
stored_at d [] [] all = refl
stored_at d [] (r ∷ rs) all = absurd all
stored_at d (x ∷ stored) [] all = absurd all
stored_at d (x ∷ stored) (r ∷ rs) all = ap₂ ◌∷◌ all.0.bit (stored_at d stored rs all.1)

module _ (d : Design) (stored : List Stored) (all : AreStored d stored) (numbers : List ℕ) (are : numbers ≡ map (λ (x : Stored). x.bit) stored) where
  numbers_at : AreAt (net_order d) numbers (map (λ (r : RegisterBit). r.bit) (registers d))
  numbers_at = subst (λ l. AreAt (net_order d) l (map (λ (r : RegisterBit). r.bit) (registers d))) (sym are) (stored_at d stored (registers d) all)

  pub numbers_below : All (λ n. n < length (net_order d)) numbers
  numbers_below = at_below (net_order d) numbers (map (λ (r : RegisterBit). r.bit) (registers d)) numbers_at

  -- the texts of bits with these numbers are those of registers
  pub texts_are : (texts : List (List ℕ)) → ((bits : List Bit) → AreAt (net_order d) numbers bits → texts ≡ map (bit_text d) bits) → texts ≡ register_texts d
  texts_are texts named = named (map (λ (r : RegisterBit). r.bit) (registers d)) numbers_at ∙ map-twice (λ (r : RegisterBit). r.bit) (bit_text d) (registers d)
