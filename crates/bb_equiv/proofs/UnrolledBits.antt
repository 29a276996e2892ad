-- The outputs of a design without boxes are those of a flat netlist that implements it, at the inputs of a vector; and the bits of a
-- netlist hang on its inputs alone.
use Rattle.std.proofs.Common.{◌≡◌, ℕ, ◌<◌, ◌∙◌, Bool, List, [], map, length, get_or, Contains, Some, sym, ap, subst, refl, arith}
use Rattle.std.specs.Prelude.{slice_get}
use Rattle.std.specs.List.{enumerate_from}
use Rattle.std.proofs.lemmas.List.{length-map}
use Rattle.std.proofs.lemmas.List.FromFn.{length-enumerate_from}
use Rattle.bb_bits.specs.Contents.{Contents}
use Rattle.bb_lemmas.proofs.Picked.{one_place}
use Rattle.bb_net.specs.declared.cell.Cell.{Cell}
use Rattle.bb_net.specs.declared.cell.Cell.TheVariants.{Const, Input, Not, And, Or, Xor, Mux, BoxOut}
use Rattle.bb_net.specs.CutPoints.{CutOutput, cut_inputs, cut_outputs}
use Rattle.bb_net.specs.Flats.{FlatNet, IsFlat}
use Rattle.bb_net.specs.Netlists.{Netlist, Pins, IsOrdered, ReadsBefore, cell_at}
use Rattle.bb_net.specs.Values.{bit_of, flat, flat_with, free_bit, gate, tabled_bit, value_of, IsValue}
use Rattle.bb_design.specs.Hierarchy.{Design, boxes}
use Rattle.bb_design.specs.Inside.Allowed.{IsAllowed}
use Rattle.bb_design.specs.Worlds.{World, Vector, HasVector, IsWorld, FitDesign, outputs_in}
use Rattle.bb_implements.specs.Implements.{Implements}
use Rattle.bb_implements.specs.Laws.ContentTables.{AreTablesOf}
use Rattle.bb_equiv.specs.Inside.LowerLaws.{LowerLaws}
use Rattle.bb_equiv.proofs.WorldOutputs.{IsFilled, bit_out, output_at, output_there}

-- a gate has one bit where the inputs that it may read have the same bits
same_gate : (boxes : List Pins) (x y : List Bool) (box : ℕ → ℕ → List Bool → Bool) (value : ℕ → Bool) (inputs place : ℕ) (cell : Cell)
    → ((i : ℕ) → i < inputs → bit_of x i ≡ bit_of y i) → ReadsBefore inputs boxes place cell → gate boxes x box value cell ≡ gate boxes y box value cell
same_gate boxes x y box value inputs place (Const b) same reads = refl
same_gate boxes x y box value inputs place (Input i) same reads = same i reads
same_gate boxes x y box value inputs place (Not a) same reads = refl
same_gate boxes x y box value inputs place (And a b) same reads = refl
same_gate boxes x y box value inputs place (Or a b) same reads = refl
same_gate boxes x y box value inputs place (Xor a b) same reads = refl
same_gate boxes x y box value inputs place (Mux c t e) same reads = refl
same_gate boxes x y box value inputs place (BoxOut b p) same reads = refl

-- that each netlist has a value, and no other
pub record ValueLaws : Type 0 where
  pub exists : (net : Netlist) (x : List Bool) (box : ℕ → ℕ → List Bool → Bool) → IsOrdered net → IsValue net x box (value_of net x box)
  pub unique : (net : Netlist) (x : List Bool) (box : ℕ → ℕ → List Bool → Bool) (bits : List Bool) → IsOrdered net → IsValue net x box bits → bits ≡ value_of net x box

pub same_flat : ValueLaws → (net : Netlist) → IsOrdered net → (x y : List Bool) → ((i : ℕ) → i < net.inputs → bit_of x i ≡ bit_of y i) → flat net x [] ≡ flat net y []
same_flat values net ordered x y same =
    let value = values.exists net x (free_bit net.boxes []) ordered in
    values.unique net y (free_bit net.boxes []) (flat net x []) ordered (record {
      whole = value.whole;
      each = λ place lt. value.each place lt ∙ same_gate net.boxes x y (free_bit net.boxes []) (bit_of (flat net x [])) net.inputs place (cell_at net.cells place) same (ordered place lt);
    })

-- a netlist without boxes that implements a sound design
pub record IsBoxless (d : Design) (f : FlatNet) : Type 0 where
  pub allowed : IsAllowed d
  pub implements : Implements d f
  pub flat_net : IsFlat f
  pub none : f.net.boxes ≡ []

module _ (laws : LowerLaws) {d : Design} {f : FlatNet} (is : IsBoxless d f) where
  none_counted : length f.net.boxes ≡ 0
  none_counted = ap length is.none

  no_boxes : length (boxes d) ≡ 0
  no_boxes = sym (ap length is.implements.listed.boxes ∙ length-map (enumerate_from 0 (boxes d)) _ ∙ length-enumerate_from 0 (boxes d)) ∙ sym is.implements.ordered.box_count ∙ none_counted

  -- whatever the contents are, they fit, and no table is theirs
  pub all_fit : (contents : Contents) → FitDesign d contents
  all_fit contents k scope lt = absurd (omega (arith, lt, no_boxes))

  no_tables : (contents : Contents) → AreTablesOf f contents []
  no_tables contents = record {
    fit = record {
      count = sym none_counted;
      inputs = λ b fits. absurd (omega (arith, fits, none_counted));
      outputs = λ b fits. absurd (omega (arith, fits, none_counted));
      whole = λ b fits. absurd (omega (arith, fits, none_counted));
    };
    rows = λ b fits. absurd (omega (arith, fits, none_counted));
  }

  pub filled : (contents : Contents) → IsFilled d f contents []
  filled contents = record { allowed = is.allowed; occurs = is.implements; flat_net = is.flat_net; fit = all_fit contents; are = no_tables contents }

  without_boxes : (xs : List Bool) → flat f.net xs [] ≡ flat_with f.net xs []
  without_boxes xs = laws.by_boxes f.net is.implements.netlist xs (free_bit f.net.boxes []) (tabled_bit []) (λ b q fits pin. absurd (omega (arith, fits, none_counted)))

  -- the bit of an output, counted from 0, at the inputs that a vector gives
  abbrev pub bit_at : Vector → ℕ → Bool
  bit_at v j = bit_of (flat f.net (map v (cut_inputs f)) []) (get_or f.net.outs j 0)

  bit_is_out : (v : Vector) (j : ℕ) → bit_at v j ≡ bit_out f [] v j
  unfolding bit_out
  bit_is_out v j = ap (λ bits. bit_of bits (get_or f.net.outs j 0)) (without_boxes (map v (cut_inputs f)))

  module _ (contents : Contents) (v : Vector) (w : World) (world : IsWorld d contents w) (has : HasVector d v w) (j : ℕ) (o : CutOutput) (at : slice_get (cut_outputs f) j ≡ Some o) where
    pub bit_has : (b : Bool) → Contains (outputs_in d w) (o, b) → bit_at v j ≡ b
    bit_has b on =
        let place = output_at laws (filled contents) v w world has o b on in
        let same : place.0 ≡ j = one_place (cut_outputs f) place.0 j o (laws.apart f is.flat_net).outputs place.1 at in
        bit_is_out v j ∙ ap (bit_out f [] v) (sym same) ∙ place.3

    pub has_bit : (b : Bool) → bit_at v j ≡ b → Contains (outputs_in d w) (o, b)
    has_bit b same = subst (λ c. Contains (outputs_in d w) (o, c)) (sym (bit_is_out v j) ∙ same) (output_there laws (filled contents) v w world has j o at)
