-- Refs picked at places
use Rattle.std.proofs.Common.{◌≡◌, ◌<◌, ℕ, List, length, map, slice_index, sym, ap, ap₂, ◌∙◌, subst, arith}
use Rattle.std.specs.Prelude.{All}
use Rattle.std.proofs.lemmas.List.{get_or-map, length-map}
use Rattle.bb_bits.specs.Truth.{Truth}
use Rattle.bb_net.specs.Netlists.{Netlist, IsNetlist}
use Rattle.bb_uniq.specs.declared.store.Ref.{Ref}
use Rattle.bb_uniq.specs.Inside.Nodes.{NodeStore, IsRef}
use Rattle.bb_sym.specs.Plain.{Reading, cell_bit, without_pins, table}
use Rattle.bb_sym.specs.Inside.Made.{AreRefs, Represents, RepresentAll, AreCells, HaveCells, ref_at}

picked_at : (refs : List Ref) (places : List ℕ) (j : ℕ) → j < length places → ref_at (map (ref_at refs) places) j ≡ ref_at refs (slice_index places j)
picked_at refs places j l = get_or-map (ref_at refs) places j 0 (record { 0 = 0 }) l

pub picked_refs : (s : NodeStore) (refs : List Ref) (places : List ℕ) → AreRefs s refs → All (λ place. place < length refs) places → AreRefs s (map (ref_at refs) places)
picked_refs s refs places are there j l =
    let here : j < length places = omega (arith, l, length-map places (ref_at refs)) in
    subst (λ (r : Ref). IsRef s r.0) (sym (picked_at refs places j here)) (are (slice_index places j) (there j 0 here))

pub picked_occur : (s : NodeStore) (t : ℕ → Truth) (refs : List Ref) (places : List ℕ) → RepresentAll s t refs → All (λ place. place < length refs) places → RepresentAll s (λ j. t (slice_index places j)) (map (ref_at refs) places)
picked_occur s t refs places occur there j l =
    let here : j < length places = omega (arith, l, length-map places (ref_at refs)) in
    subst (Represents s (t (slice_index places j))) (sym (picked_at refs places j here)) (occur (slice_index places j) (there j 0 here))

pub outs_within : (net : Netlist) → IsNetlist net → (refs : List Ref) → length refs ≡ length net.cells → All (λ place. place < length refs) net.outs
outs_within net kept refs e k d l = let there = kept.outs_there k d l in omega (arith, there, e)

pub picks_are : (refs rs items xs : List Ref) (places ps : List ℕ) → xs ≡ items → items ≡ map (ref_at rs) ps → rs ≡ refs → ps ≡ places → xs ≡ map (ref_at refs) places
picks_are refs rs items xs places ps e made f g = e ∙ (made ∙ ap₂ (λ (ks : List Ref) (js : List ℕ). map (ref_at ks) js) f g)

-- the Refs of the outputs of both nets
module _ (s : NodeStore) (spec imp : Netlist) (kept : IsNetlist spec) (also : IsNetlist imp) (same : length spec.outs ≡ length imp.outs) (of_spec of_imp : List Ref) (cells : AreCells s spec imp of_spec of_imp) (fs gs : List Ref) (wanted : fs ≡ map (ref_at of_spec) spec.outs) (given : gs ≡ map (ref_at of_imp) imp.outs) where
  pub wanted_refs : AreRefs s fs
  wanted_refs = subst (AreRefs s) (sym wanted) (picked_refs s of_spec spec.outs cells.spec_refs (outs_within spec kept of_spec cells.spec_whole))

  pub given_refs : AreRefs s gs
  given_refs = subst (AreRefs s) (sym given) (picked_refs s of_imp imp.outs cells.imp_refs (outs_within imp also of_imp cells.imp_whole))

  pub wanted_count : length fs ≡ length imp.outs
  wanted_count = ap length wanted ∙ (length-map spec.outs (ref_at of_spec) ∙ same)

  pub given_count : length fs ≡ length gs
  given_count = wanted_count ∙ sym (ap length given ∙ length-map imp.outs (ref_at of_imp))

  module _ (r : Reading) (have : HaveCells s r spec imp of_spec of_imp) where
    pub wanted_occur : RepresentAll s (λ j. table s.vars (cell_bit (without_pins r) spec (slice_index spec.outs j))) fs
    wanted_occur =
        subst (RepresentAll s (λ j. table s.vars (cell_bit (without_pins r) spec (slice_index spec.outs j)))) (sym wanted)
        (picked_occur s (λ place. table s.vars (cell_bit (without_pins r) spec place)) of_spec spec.outs have.spec_cells (outs_within spec kept of_spec cells.spec_whole))

    pub given_occur : RepresentAll s (λ j. table s.vars (cell_bit r imp (slice_index imp.outs j))) gs
    given_occur =
        subst (RepresentAll s (λ j. table s.vars (cell_bit r imp (slice_index imp.outs j)))) (sym given)
        (picked_occur s (λ place. table s.vars (cell_bit r imp place)) of_imp imp.outs have.imp_cells (outs_within imp also of_imp cells.imp_whole))
