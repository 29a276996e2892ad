-- A part of a netlist is copied cell by cell.
use Rattle.std.proofs.Common.{◌≡◌, ◌⊎◌, ℕ, zero, suc, ◌+◌, ◌<◌, ◌≤◌, Bool, not, ◌&&◌, ◌||◌, List, [], ◌∷◌, ◌++◌, length, map, refl, sym, ap, ap₂, ◌∙◌, subst, inl, inr, arith}
use Rattle.std.specs.Prelude.{slice_index, if◌then◌else◌}
use Rattle.std.specs.List.{range_with_len}
use Rattle.std.proofs.lemmas.List.{get_or_append_left, get_or_push, length-append}
use Rattle.std.proofs.lemmas.List.FromFn.{get_or-range_with_len, length-range_with_len}
use Rattle.bb_lemmas.proofs.Orders.{same_or_less}
use Rattle.bb_net.specs.declared.cell.Cell.{Cell}
use Rattle.bb_net.specs.declared.cell.Cell.TheVariants.{Const, Input, Not, And, Or, Xor, Mux, BoxOut}
use Rattle.bb_net.specs.Netlists.{Netlist, IsNetlist, cell_at, ReadsBefore}
use Rattle.bb_net.specs.Values.{xor, bit_of}
use Rattle.bb_strash.specs.Inside.Extensions.{bit, gate_bit, Extends, Gives}
use Rattle.bb_strash.specs.Inside.Parts.{AreCut, IsMoved, IsMovedGate}
use Rattle.bb_strash.specs.Laws.{BitsAreGates, BitsStay}
use Rattle.bb_strash.specs.Inside.Windows.{IsWindow}
use Rattle.bb_strash.proofs.BitLaws.{longer}
use Rattle.bb_strash.proofs.GateBits.{zero_bit, one_bit, input_bit, begins}

module _ (known places : List ℕ) (y x : List Bool) (value old : ℕ → Bool) (same : (a p : ℕ) → IsMoved known places a p → value p ≡ old a) where
  -- a gate over the new places has the bit of the old one
  gate_cut : (c d : Cell) → IsMovedGate known places c d → gate_bit y value d ≡ gate_bit x old c
  gate_cut (Const b) d is = ap (gate_bit y value) is
  gate_cut (Input i) d is = absurd is
  gate_cut (Not a) d (p, one, is) = ap (gate_bit y value) is ∙ ap not (same a p one)
  gate_cut (And a b) d (p, q, one, two, is) = ap (gate_bit y value) is ∙ ap₂ ◌&&◌ (same a p one) (same b q two)
  gate_cut (Or a b) d (p, q, one, two, is) = ap (gate_bit y value) is ∙ ap₂ ◌||◌ (same a p one) (same b q two)
  gate_cut (Xor a b) d (p, q, one, two, is) = ap (gate_bit y value) is ∙ ap₂ xor (same a p one) (same b q two)
  gate_cut (Mux c t e) d (p, q, r, one, two, three, is) =
      ap (gate_bit y value) is ∙ ap₂ (λ (s u : Bool). if value p then s else u) (same t q two) (same e r three) ∙ ap (λ (s : Bool). if s then old t else old e) (same c p one)
  gate_cut (BoxOut b p) d is = absurd is

module _ (known places : List ℕ) (long : ℕ) (there : (a p : ℕ) → IsMoved known places a p → p < long) where
  pub cut_reads : (n : ℕ) (c d : Cell) → IsMovedGate known places c d → ReadsBefore n [] long d
  cut_reads n (Const b) d is = subst (ReadsBefore n [] long) (sym is) tt
  cut_reads n (Input i) d is = absurd is
  cut_reads n (Not a) d (p, one, is) = subst (ReadsBefore n [] long) (sym is) (there a p one)
  cut_reads n (And a b) d (p, q, one, two, is) = subst (ReadsBefore n [] long) (sym is) (there a p one, there b q two)
  cut_reads n (Or a b) d (p, q, one, two, is) = subst (ReadsBefore n [] long) (sym is) (there a p one, there b q two)
  cut_reads n (Xor a b) d (p, q, one, two, is) = subst (ReadsBefore n [] long) (sym is) (there a p one, there b q two)
  cut_reads n (Mux c t e) d (p, q, r, one, two, three, is) = subst (ReadsBefore n [] long) (sym is) (there c p one, there t q two, there e r three)
  cut_reads n (BoxOut b p) d is = absurd is

pub cut_pin : (known places : List ℕ) (c d : Cell) → IsMovedGate known places c d → (b p : ℕ) → d ≡ BoxOut b p → ⊥
cut_pin known places (Const b) d is e q eq = absurd (cc (sym is ∙ eq))
cut_pin known places (Input i) d is e q eq = absurd is
cut_pin known places (Not a) d (p, one, is) e q eq = absurd (cc (sym is ∙ eq))
cut_pin known places (And a b) d (p, r, one, two, is) e q eq = absurd (cc (sym is ∙ eq))
cut_pin known places (Or a b) d (p, r, one, two, is) e q eq = absurd (cc (sym is ∙ eq))
cut_pin known places (Xor a b) d (p, r, one, two, is) e q eq = absurd (cc (sym is ∙ eq))
cut_pin known places (Mux c t f) d (p, r, s, one, two, three, is) e q eq = absurd (cc (sym is ∙ eq))
cut_pin known places (BoxOut b p) d is e q eq = absurd is

module _ (gates : BitsAreGates) (stay : BitsStay) (net : Netlist) (kept : IsNetlist net) (none : net.boxes ≡ []) (leaves known : List ℕ) where
  pub moved_there : (part : Netlist) (places : List ℕ) → AreCut net leaves known part places → (a p : ℕ) → IsMoved known places a p → p < length part.cells
  moved_there part places so a p (i, h, g, is, at) = subst (λ n. n < length part.cells) at (so.there i g)

  moved_same : (part : Netlist) (places : List ℕ) → AreCut net leaves known part places → (x : List Bool) (a p : ℕ) → IsMoved known places a p → bit part (map (bit net x) leaves) p ≡ bit net x a
  moved_same part places so x a p (i, h, g, is, at) = ap (bit part (map (bit net x) leaves)) (sym at) ∙ so.same x i g h ∙ ap (bit net x) is

  -- one gate more
  pub cut_next : (old new : Netlist) (most k place : ℕ) (places : List ℕ) (d : Cell) → k ≡ length places → Extends old new most → AreCut net leaves known old places
      → (slice_index known k < length net.cells) × IsMovedGate known places (cell_at net.cells (slice_index known k)) d
      → Gives new place (λ y. gate_bit y (bit old y) d) → AreCut net leaves known new (places ++ place ∷ [])
  cut_next old new most k place places d at e so moved gives = record {
    there = λ j h. there j (same_or_less j (length places) (omega (arith, h, length-append places (place ∷ []))));
    same = λ x j h g. by x j (same_or_less j (length places) (omega (arith, h, length-append places (place ∷ [])))) g;
  }
    where
      last : slice_index (places ++ place ∷ []) (length places) ≡ place
      last = get_or_push places place 0 (length places) refl

      prefix : (j : ℕ) → j < length places → slice_index (places ++ place ∷ []) j ≡ slice_index places j
      prefix j h = get_or_append_left places (place ∷ []) 0 j h

      there : (j : ℕ) → (length places ≡ j) ⊎ (j < length places) → slice_index (places ++ place ∷ []) j < length new.cells
      there j (inl is) = subst (λ n. slice_index (places ++ place ∷ []) n < length new.cells) is (subst (λ n. n < length new.cells) (sym last) gives.there)
      there j (inr h) = subst (λ n. n < length new.cells) (sym (prefix j h)) (longer old new most e (slice_index places j) (so.there j h))

      here : (x : List Bool) → bit new (map (bit net x) leaves) place ≡ bit net x (slice_index known k)
      here x =
          gives.same (map (bit net x) leaves)
          ∙ gate_cut known places (map (bit net x) leaves) x (bit old (map (bit net x) leaves)) (bit net x) (moved_same old places so x) (cell_at net.cells (slice_index known k)) d moved.1
          ∙ sym (gates net kept none x (slice_index known k) moved.0)

      by : (x : List Bool) (j : ℕ) → (length places ≡ j) ⊎ (j < length places) → j < length known
          → bit new (map (bit net x) leaves) (slice_index (places ++ place ∷ []) j) ≡ bit net x (slice_index known j)
      by x j (inl is) g =
          subst (λ n. bit new (map (bit net x) leaves) (slice_index (places ++ place ∷ []) n) ≡ bit net x (slice_index known n)) is
          (ap (bit new (map (bit net x) leaves)) last ∙ here x ∙ ap (λ n. bit net x (slice_index known n)) at)
      by x j (inr h) g = ap (bit new (map (bit net x) leaves)) (prefix j h) ∙ stay old new most e (map (bit net x) leaves) (slice_index places j) (so.there j h) ∙ so.same x j h g

  -- the part with the cell as its output is a window
  pub window_is : (part whole : Netlist) (place root : ℕ) (places : List ℕ) → AreCut net leaves known part places → IsMoved known places place root → part.inputs ≡ length leaves → part.boxes ≡ []
      → whole ≡ record part { outs = root ∷ [] } → IsWindow net place whole leaves
  window_is part whole place root places so moved inputs boxes is =
      subst (λ (n : Netlist). IsWindow net place n leaves) (sym is) (record {
        inputs = inputs;
        boxes = boxes;
        count = refl;
        same = λ x. moved_same part places so x place root moved;
      })

  -- the constants and the leaves
  pub cut_begun : (part : Netlist) (count : ℕ) (places more : List ℕ) → IsNetlist part → part.boxes ≡ [] → part.inputs ≡ length leaves → count ≡ length leaves + 2 → known ≡ 0 ∷ 1 ∷ leaves ++ more
      → places ≡ range_with_len 0 count → AreCut net leaves known part places
  cut_begun part count places more own plain inputs counted is begun = record {
    there = λ i h. subst (λ n. n < length part.cells) (sym (at i (omega (arith, h, long)))) (omega (arith, h, long, counted, inputs, begins part own));
    same = λ x i h g.
        ap (bit part (map (bit net x) leaves)) (at i (omega (arith, h, long)))
        ∙ by x i (omega (arith, h, long, counted)) ∙ ap (λ l. bit net x (slice_index l i)) (sym is);
  }
    where
      long : length places ≡ count
      long = ap length begun ∙ length-range_with_len 0 count

      at : (i : ℕ) → i < count → slice_index places i ≡ i
      at i h = let plain : 0 + i ≡ i = omega arith in ap (λ l. slice_index l i) begun ∙ get_or-range_with_len 0 count i 0 h ∙ plain

      leaf : (x : List Bool) (l : List ℕ) (i : ℕ) → i < length l → bit_of (map (bit net x) l) i ≡ bit net x (slice_index (l ++ more) i)
      leaf x [] i h = absurd (omega (arith, h))
      leaf x (a ∷ l) zero h = refl
      leaf x (a ∷ l) (suc i) h = leaf x l i (omega (arith, h))

      by : (x : List Bool) (i : ℕ) → i < length leaves + 2 → bit part (map (bit net x) leaves) i ≡ bit net x (slice_index (0 ∷ 1 ∷ leaves ++ more) i)
      by x zero h = zero_bit gates part own plain (map (bit net x) leaves) ∙ sym (zero_bit gates net kept none x)
      by x (suc zero) h = one_bit gates part own plain (map (bit net x) leaves) ∙ sym (one_bit gates net kept none x)
      by x (suc (suc i)) h =
          let two : suc (suc i) ≡ i + 2 = omega arith in
          ap (bit part (map (bit net x) leaves)) two
          ∙ input_bit gates part own plain (map (bit net x) leaves) i (omega (arith, h, inputs)) ∙ leaf x leaves i (omega (arith, h))

-- a window knows its constants and leaves
pub cut_long : (known leaves more : List ℕ) → known ≡ 0 ∷ 1 ∷ leaves ++ more → length leaves + 2 ≤ length known
cut_long known leaves more is = omega (arith, ap length is, length-append leaves more)
