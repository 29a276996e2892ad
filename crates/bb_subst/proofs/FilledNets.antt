-- A filled netlist has the bits that the tables give.
use Rattle.std.proofs.Common.{◌≡◌, ℕ, zero, suc, ◌+◌, ◌^◌, ◌<◌, ◌≤◌, Bool, false, List, [], ◌∷◌, length, map, sym, ap, ◌∙◌, subst, arith}
use Rattle.std.specs.Prelude.{slice_index}
use Rattle.std.specs.List.{AllZip, slice_index_or}
use Rattle.std.proofs.lemmas.List.{length-map, get_or-map}
use Rattle.std.proofs.lemmas.List.Elements.{All-get_or}
use Rattle.std.proofs.lemmas.List.FromFn.{get_or-map-range_with_len}
use Rattle.bb_bits.specs.Numbers.{number_of}
use Rattle.bb_bits.specs.Tables.{TableBits, table_bit, column}
use Rattle.bb_lemmas.proofs.Maps.{map-twice}
use Rattle.bb_net.specs.Equivalence.{out_bit}
use Rattle.bb_net.specs.Netlists.{Netlist, IsNetlist, Pins, box_at}
use Rattle.bb_net.specs.Completions.{table_bits}
use Rattle.bb_net.specs.Pairs.{NamesPins, pin_count}
use Rattle.bb_net.specs.Values.{bit_of, flat, flat_with, free_bit, tabled_bit, table_at, FitBoxes}
use Rattle.bb_subst.specs.Filled.{IsFilled}
use Rattle.bb_subst.specs.Laws.EmbeddingLaws.{OccurrencesKeepBits, TreesChoose}
use Rattle.bb_net.specs.Kinds.{FitKinds}
use Rattle.bb_net.specs.Laws.KindLaws.{PlacesFit}
use Rattle.bb_subst.specs.Laws.FilledLaws.{FilledHaveBits, FilledAreRight, FilledAreWrong, FilledArePairs}
use Rattle.bb_subst.proofs.ChoiceTrees.{NumbersAreBelow}

-- a box with a pin is there
pub box_there : (boxes : List Pins) (b p : ℕ) → p < length (box_at boxes b).outs → b < length boxes
box_there [] b p lt = absurd (omega (arith, lt))
box_there (q ∷ boxes) zero p lt = omega arith
box_there (q ∷ boxes) (suc b) p lt = let fits = box_there boxes b p lt in omega (arith, fits)

column_bit : (t : TableBits) (pin k : ℕ) → k < 2 ^ t.inputs → slice_index_or (column t pin) k false ≡ table_bit t k pin
column_bit t pin k lt = get_or-map-range_with_len (λ row. table_bit t row pin) 0 (2 ^ t.inputs) k k false lt (omega arith)

module _ (keep : OccurrencesKeepBits) (choose : TreesChoose) (below : NumbersAreBelow) where
  pub filled_have_bits : FilledHaveBits
  filled_have_bits old new tables at kept_old kept_new fit filled x k lt =
      keep old new at kept_old kept_new filled.occurs x (tabled_bit tables) (free_bit new.boxes []) (λ j b p h e.
      let pins = (box_at old.boxes b).ins in
      let there = box_there old.boxes b p (kept_old.listed j b p h e).0 in
      let wide : (table_at tables b).inputs ≡ length pins = fit.inputs b there in
      let bits = map v (map at pins) in
      let low : number_of bits < 2 ^ (table_at tables b).inputs =
      subst (λ n. number_of bits < 2 ^ n) (length-map (map at pins) v ∙ length-map pins at ∙ sym wide) (below bits) in
      choose new kept_new x (free_bit new.boxes []) (map at pins) (column (table_at tables b) p) (at j) (filled.trees j b p h e)
      ∙ column_bit (table_at tables b) p (number_of bits) low ∙ ap (λ l. table_bit (table_at tables b) (number_of l) p) (map-twice at v pins)) k lt
    where
      v : ℕ → Bool
      v = bit_of (flat new x [])

  -- an output has the bit that it had
  out_kept : (old new : Netlist) (tables : List TableBits) (at : ℕ → ℕ) → IsNetlist old → IsNetlist new → FitBoxes tables old.boxes → IsFilled old tables new at
      → (x : List Bool) (j : ℕ) → j < length old.outs → out_bit new (flat new x []) j ≡ out_bit old (flat_with old x tables) j
  out_kept old new tables at kept_old kept_new fit filled x j lt =
      let place : slice_index new.outs j ≡ at (slice_index old.outs j) = ap (λ l. slice_index l j) filled.outs ∙ get_or-map at old.outs j 0 0 lt in
      ap (bit_of (flat new x [])) place
      ∙ filled_have_bits old new tables at kept_old kept_new fit filled x (slice_index old.outs j) (All-get_or (λ place. place < length old.cells) old.outs j 0 lt kept_old.outs_there)

  as_many : (old new : Netlist) (tables : List TableBits) (at : ℕ → ℕ) → IsFilled old tables new at → length new.outs ≡ length old.outs
  as_many old new tables at filled = ap length filled.outs ∙ length-map old.outs at

  pub filled_are_right : FilledAreRight
  filled_are_right spec old new tables at kept_old kept_new fit filled x = (
    λ right j lt. sym (out_kept old new tables at kept_old kept_new fit filled x j lt) ∙ right j (omega (arith, lt, as_many old new tables at filled)),
    λ right j lt.
        let h : j < length old.outs = omega (arith, lt, as_many old new tables at filled) in
        out_kept old new tables at kept_old kept_new fit filled x j h ∙ right j h,
  )

  pub filled_are_wrong : FilledAreWrong
  filled_are_wrong spec old new tables at kept_old kept_new fit filled x = (
    λ wrong.
        let h : wrong.0 < length old.outs = omega (arith, wrong.1, as_many old new tables at filled) in
        (wrong.0, h, λ same. wrong.2 (out_kept old new tables at kept_old kept_new fit filled x wrong.0 h ∙ same)),
    λ wrong.
        (wrong.0, omega (arith, wrong.1, as_many old new tables at filled), λ same. wrong.2 (sym (out_kept old new tables at kept_old kept_new fit filled x wrong.0 wrong.1) ∙ same)),
  )

-- room for the cells of the trees
few : (n m t : ℕ) → n ≤ m + t → m ≤ 6000000 → t ≤ 2 ^ 20 → n ≤ 8000000
few n m t a b c = omega (arith, a, b, c)

pub filled_are_pairs : PlacesFit → FilledArePairs
filled_are_pairs places p new tables at kept kept_new filled cells bits = record {
  spec = kept.spec;
  imp = kept_new;
  beside = record {
    inputs = kept.beside.inputs ∙ sym filled.occurs.inputs;
    outputs = kept.beside.outputs ∙ sym (ap length filled.outs ∙ length-map p.imp.outs at);
    no_box = kept.beside.no_box;
    ins_named = kept.beside.ins_named ∙ sym filled.occurs.inputs;
    outs_named = kept.beside.outs_named ∙ sym (ap length filled.outs ∙ length-map p.imp.outs at);
    boxes_named = subst (λ (b : List Pins). AllZip NamesPins [] b) (sym filled.boxes) tt;
    kinds = subst (FitKinds []) (sym filled.boxes) (places []);
  };
  small = record {
    spec_cells = kept.small.spec_cells;
    imp_cells = few (length new.cells) (length p.imp.cells) (table_bits p.imp.boxes) filled.few cells bits;
    outs = subst (λ n. n ≤ 2000000) (sym (ap length filled.outs ∙ length-map p.imp.outs at)) kept.small.outs;
    boxes = subst (λ (b : List Pins). length b ≤ 1000000) (sym filled.boxes) (omega arith);
    pins = subst (λ (b : List Pins). new.inputs + pin_count b ≤ 2048) (sym filled.boxes) (omega (arith, kept.small.pins, filled.occurs.inputs));
  };
}
