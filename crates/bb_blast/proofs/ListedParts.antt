-- What a construct puts after others: its places, with their cells in a row, and what it drives.
use Rattle.std.proofs.Common.{◌≡◌, ℕ, suc, ◌+◌, ◌-◌, Bool, List, [], ◌∷◌, ◌++◌, map, zip, take, drop, length, get_or, All, Some, None, refl, sym, ap, ap₂, ◌∙◌, subst, arith, append-nil}
use Rattle.std.specs.Prelude.{slice_get, slice_index}
use Rattle.std.specs.List.{enumerate_from}
use Rattle.std.proofs.lemmas.List.{length-map}
use Rattle.std.proofs.lemmas.List.Elements.{All-nil, All-cons}
use Rattle.bb_ast.specs.Syntax.{Expression}
use Rattle.bb_names.specs.Declarations.{range_of}
use Rattle.bb_names.specs.Nets.{nets_of}
use Rattle.bb_names.specs.Sites.{Pin}
use Rattle.bb_expr.specs.declared.step.BitStep.TheVariants as steps
use Rattle.bb_expr.specs.declared.step.Lowered.{Lowered}
use Rattle.bb_expr.specs.Lowered.{ReadsEarlier, IsLowered}
use Rattle.bb_net.specs.declared.loose.LooseCell.{LooseCell}
use Rattle.bb_design.specs.Hierarchy.{Design, Scope, path_to}
use Rattle.bb_design.specs.NetBits.{Bit, scope_bits, pin_bits}
use Rattle.bb_bits.specs.Bits.{low_bits}
use Rattle.bb_design.specs.Constructs.{Construct}
use Rattle.bb_blast.specs.Inside.Counting.{capped, after}
use Rattle.bb_blast.specs.Inside.Listing.{Site, CellList, given_all, beside, all_given_by}
use Rattle.bb_blast.specs.Inside.Logic.{constant_place, net_bit_place}
use Rattle.bb_blast.proofs.LogicSteps.{with_steps, step_place, bit_places}
use Rattle.bb_blast.specs.Inside.ModuleTemplates.{AreBitsIn, IsPinIn}
use Rattle.bb_bits.specs.Inside.Places.{AreAt}
use Rattle.bb_implements.specs.Places.{CellName, Constant, NetBit, Step, Joined, Inverted, Numbering, Lowering, Steps, IsLoweringOf, IsStepAt, AreSteps, step_places, step_cells, net_place, given_at, data_at, places_at}
use Rattle.bb_lemmas.proofs.LowBits.{low-map}
use Rattle.bb_blast.proofs.BitNumbers.{bit_number, IsSiteOf}
use Rattle.bb_blast.proofs.CappedNumbers.{after_first}
use Rattle.bb_blast.proofs.ListedSteps.{IsLoweredAt, StepsFit, expression_fits}
use Rattle.bb_blast.proofs.PlacesInRow.{AreInRow, cells_in, map-same}
use Rattle.bb_lemmas.proofs.Maps.{map-twice}
use Rattle.bb_blast.proofs.WholeParts.{Whole, Assigned, Clocked, Gated, Connected, Other, step_terminals}

-- the expressions of a part
abbrev pub lowereds : Whole → List Lowered
lowereds (Assigned left right) = right ∷ []
lowereds (Clocked left right) = right ∷ []
lowereds (Gated gate outs ins) = ins
lowereds (Connected instance pin value) = value ∷ []
lowereds (Other q) = []

map-zip : {A B C D : Type 0} (f : A → C) (g : B → D) (xs : List A) (ys : List B) → map (λ (y : A × B). (f y.0, g y.1)) (zip xs ys) ≡ zip (map f xs) (map g ys)
map-zip f g [] ys = refl
map-zip f g (x ∷ xs) [] = refl
map-zip {A} {B} {C} {D} f g (x ∷ xs) (y ∷ ys) = ap (λ (l : List (C × D)). (f x, g y) ∷ l) (map-zip f g xs ys)

pub are_long : (all : List Bit) (numbers : List ℕ) (bits : List Bit) → AreAt all numbers bits → length numbers ≡ length bits
are_long all numbers bits are = sym (length-map numbers (slice_get all)) ∙ ap length are ∙ length-map bits Some

-- numbers of bits that are counted from a number on
pub numbers_are : (f : Bit → ℕ) (all : List Bit) (first : ℕ) → ((i : ℕ) (b : Bit) → slice_get all i ≡ Some b → f b ≡ after first i) → (numbers : List ℕ) (bits : List Bit) → AreAt all numbers bits
    → map f bits ≡ map (after first) numbers
numbers_are f all first own [] [] are = refl
numbers_are f all first own [] (b ∷ bits) are = absurd (grind (arith, are))
numbers_are f all first own (n ∷ numbers) [] are = absurd (grind (arith, are))
numbers_are f all first own (n ∷ numbers) (b ∷ bits) are =
    ap₂ ◌∷◌ (own n b (ap (λ l. get_or l 0 None) are)) (numbers_are f all first own numbers bits (ap (drop 1) are))

module _ (d : Design) (lowering : Lowering) (number : Numbering) (nets start : ℕ) where
  abbrev pub pair : Bit × CellName → ℕ × ℕ
  pair y = (bit_number d y.0, number y.1)

  -- a construct leads from one cell list to the next
  pub record Puts (x : ℕ × (Scope × Construct)) (a b : CellList) : Type 0 where
    pub cells : b.cells ≡ a.cells ++ cells_in (places_at lowering number x)
    pub row : AreInRow number (start + length a.cells) (places_at lowering number x)
    pub sources : b.sources ≡ given_all a.sources (map pair (given_at lowering x))
    pub next : b.next ≡ given_all a.next (map pair (data_at lowering x))
    pub lowered : IsLoweringOf lowering x
    pub steps : AreSteps lowering number x

  pub beside_is : (bits : List Bit) (places : List CellName) (first : ℕ) (numbers : List ℕ) (given : List ℕ) → map (bit_number d) bits ≡ map (after first) numbers → map number places ≡ given
      → map pair (zip bits places) ≡ beside first numbers given
  beside_is bits places first numbers given p q = map-zip (bit_number d) number bits places ∙ ap₂ zip p q

  pub all_is : (bits : List Bit) (place : CellName) (first : ℕ) (numbers : List ℕ) (at : ℕ) → map (bit_number d) bits ≡ map (after first) numbers → at ≡ number place
      → map pair (map (λ b. (b, place)) bits) ≡ all_given_by first numbers at
  all_is bits place first numbers at p q =
      map-twice {B = Bit × CellName} (λ b. (b, place)) pair bits ∙ sym (map-twice {C = ℕ × ℕ} (bit_number d) (λ n. (n, number place)) bits)
      ∙ ap (map {B = ℕ × ℕ} (λ n. (n, number place))) p ∙ map-twice {C = ℕ × ℕ} (after first) (λ n. (n, number place)) numbers
      ∙ ap (λ (m : ℕ). map {B = ℕ × ℕ} (λ i. (after first i, m)) numbers) (sym q)

  module _ (constants : (b : Bool) → number (Constant b) ≡ constant_place b) (net_places : (b : Bit) → number (NetBit b) ≡ after nets (bit_number d b))
      (k : ℕ) (s : Scope) (site : Site) (is_site : IsSiteOf d s site) (a : CellList) where
    pub net_place_is : (n i : ℕ) → ReadsEarlier (nets_of s.source) 0 (steps.Net n i) → number (net_place s n i) ≡ net_bit_place (after nets site.first) site.starts n i
    net_place_is n i reads =
        net_places _ ∙ ap (after nets) (is_site.nets n i reads) ∙ ap capped (omega arith)
        ∙ sym (ap (λ m. after m i) (after_first nets site.first (slice_index site.starts n)) ∙ after_first nets (site.first + slice_index site.starts n) i)

    -- the cells of so many expressions after those before
    abbrev pub cells_after : List Lowered → List LooseCell
    cells_after ls = (step_terminals start (after nets site.first) site.starts a.cells ls).cells

    -- what the places of these expressions and of what joins them are numbered
    pub record AreLoweredAt (ls : List Lowered) : Type 0 where
      pub is : (x : ℕ) (l : Lowered) → slice_get ls x ≡ Some l → lowering k x ≡ record { all = l.steps.items; bits = l.bits.items }
      pub occurs : (x : ℕ) (l : Lowered) → slice_get ls x ≡ Some l → (j : ℕ) → number (Step k x j) ≡ step_place start (after nets site.first) site.starts (cells_after (take x ls)) l j
      pub joins : (i : ℕ) → number (Joined k (suc i)) ≡ capped (start + length (cells_after ls) + i)
      pub inverts : number (Inverted k) ≡ capped (start + length (cells_after ls) + (length ls - 1))

    -- bits on a left side
    pub own_bits : (numbers : List ℕ) (bits : Scope → List Bit) → AreBitsIn s.source numbers bits → map (bit_number d) (bits s) ≡ map (after site.first) numbers
    own_bits numbers bits are = numbers_are (bit_number d) (scope_bits s) site.first is_site.own numbers (bits s) (are s.path)

    -- bits of a port of an instance
    pub inner_bits : (instance : ℕ) (numbers : List ℕ) (i : List ℕ) (pin : Pin) → IsPinIn d.text s.source instance numbers i pin → map (bit_number d) (pin_bits (path_to s.path i) pin) ≡ map (after (site.inner instance)) numbers
    inner_bits instance numbers i pin is =
        ap (λ (n : List ℕ). map (bit_number d) (pin_bits (path_to s.path n) pin)) (sym is.named)
        ∙ numbers_are (bit_number d) (scope_bits (record { path = path_to s.path is.called.name; source = is.target })) (site.inner instance) (is_site.inner instance is.called is.target is.there is.meant) numbers
        (pin_bits (path_to s.path is.called.name) pin) (is.bits (path_to s.path is.called.name))

    -- a construct with one expression
    module _ (l : Lowered) (at : AreLoweredAt (l ∷ [])) (e : Expression) (w : ℕ) (made : IsLowered (nets_of s.source) (range_of s.source) e w l.steps.items l.bits.items) where
      one_at : IsLoweredAt lowering number k s start (after nets site.first) site.starts constants net_place_is 0 a.cells l
      one_at = record { is = at.is 0 l refl; occurs = at.occurs 0 l refl; earlier = made.earlier }

      one_fits : StepsFit lowering number k s start (after nets site.first) site.starts constants net_place_is 0 0 a.cells (with_steps start (after nets site.first) site.starts a.cells l) (lowering k 0).all
      one_fits = expression_fits lowering number k s start (after nets site.first) site.starts constants net_place_is 0 a.cells l one_at

      pub one_lowered : All (λ (x : ℕ × (Expression × ℕ)). IsLowered (nets_of s.source) (range_of s.source) x.1.0 x.1.1 (lowering k x.0).all (lowering k x.0).bits) ((0, (e, w)) ∷ [])
      one_lowered = All-cons (λ (x : ℕ × (Expression × ℕ)). IsLowered (nets_of s.source) (range_of s.source) x.1.0 x.1.1 (lowering k x.0).all (lowering k x.0).bits) (0, (e, w)) [] (subst (λ (z : Steps). IsLowered (nets_of s.source) (range_of s.source) e w z.all z.bits) (sym (at.is 0 l refl)) made) (All-nil _)

      alone : (step_cells lowering number k 0 ++ []) ++ [] ≡ step_cells lowering number k 0
      alone = append-nil (step_cells lowering number k 0 ++ []) ∙ append-nil (step_cells lowering number k 0)

      pub one_cells : with_steps start (after nets site.first) site.starts a.cells l ≡ a.cells ++ cells_in ((step_cells lowering number k 0 ++ []) ++ [])
      one_cells = one_fits.cells ∙ ap (λ l. a.cells ++ cells_in l) (sym alone)

      pub one_row : AreInRow number (start + length a.cells) ((step_cells lowering number k 0 ++ []) ++ [])
      one_row = subst (AreInRow number (start + length a.cells)) (sym alone) one_fits.row

      pub one_steps : All (λ x. All (λ y. IsStepAt number s y.1 (number (Step k x y.0))) (enumerate_from 0 (lowering k x).all)) (0 ∷ [])
      one_steps = All-cons (λ x. All (λ y. IsStepAt number s y.1 (number (Step k x y.0))) (enumerate_from 0 (lowering k x).all)) 0 [] one_fits.steps (All-nil _)

      pub one_places : map number (step_places lowering k 0) ≡ bit_places start (after nets site.first) site.starts a.cells l
      one_places =
          ap (λ (z : Steps). map number (map (Step k 0) z.bits)) (at.is 0 l refl) ∙ map-twice (Step k 0) number l.bits.items
          ∙ map-same (λ j. number (Step k 0 j)) (step_place start (after nets site.first) site.starts a.cells l) one_at.occurs l.bits.items

      pub low_places : (n m : ℕ) → n ≡ m → map number (low_bits n (step_places lowering k 0)) ≡ low_bits m (bit_places start (after nets site.first) site.starts a.cells l)
      low_places n m same = low-map number n (step_places lowering k 0) ∙ ap₂ (λ (i : ℕ) (p : List ℕ). low_bits i p) same one_places
