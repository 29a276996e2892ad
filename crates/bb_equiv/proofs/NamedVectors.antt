-- Vectors by names and by places: a list with a bit for each input is that of a vector, where no two inputs have one name; and
-- the outputs of a design are called as those of a flat netlist that implements it.
use Rattle.std.proofs.Common.{◌≡◌, ◌≢◌, ℕ, zero, suc, ◌+◌, ◌-◌, ◌⊎◌, ◌<◌, ◌≤◌, Bool, true, false, if◌then◌else◌, List, [], ◌∷◌, ◌++◌, map, length, get_or, AllPairs, Some, refl, sym, ap, ap₂, ◌∙◌, inl, inr, arith, length-append}
use Rattle.std.specs.Prelude.{slice_get}
use Rattle.std.specs.List.{AllZip}
use Rattle.std.proofs.lemmas.List.{get_or-map, get_or_default, get_or_append_left, get_or-append-add, length-map, same_lists, map-append}
use Rattle.std.proofs.lemmas.Simd.{map-map}
use Rattle.std.proofs.lemmas.Bool.{cases_lt}
use Rattle.std.proofs.lemmas.Option.{get_or_from_slice_get, slice_get-get_or, slice_get_within}
use Rattle.std.proofs.lemmas.Slice.Eq.{bytes_eq-Decides}
use Rattle.bb_bits.specs.Names.{same_name}
use Rattle.bb_net.specs.Values.{bit_of}
use Rattle.bb_net.specs.declared.flat.Reg.{Reg}
use Rattle.bb_net.specs.Flats.{FlatNet, IsFlat}
use Rattle.bb_design.specs.Hierarchy.{Design}
use Rattle.bb_implements.specs.Laws.ListLaws.{vector_bits}
use Rattle.bb_design.specs.NetBits.{top_inputs, top_outputs}
use Rattle.bb_design.specs.Registers.{RegisterBit, registers}
use Rattle.bb_implements.specs.Implements.{IsRegister, Implements}
use Rattle.bb_design.specs.Texts.{bit_text}
use Rattle.bb_design.specs.Worlds.{World, Vector, bit_in, next_bit, outputs_in}
use Rattle.bb_net.specs.CutPoints.{CutInput, TopInput, State, CutOutput, TopOutput, NextState, state_texts, cut_inputs, cut_outputs}
use Rattle.bb_lemmas.proofs.Apart.{pairs_tail}

-- the place of a text in a list
pub place : List (List ℕ) → List ℕ → ℕ
place [] t = 0
place (n ∷ ns) t = if same_name n t then 0 else suc (place ns t)

pub place-at : (ns : List (List ℕ)) (k : ℕ) (t : List ℕ) → AllPairs ◌≢◌ ns → slice_get ns k ≡ Some t → place ns t ≡ k
unfolding place
place-at [] k t apart at = cc at
place-at (n ∷ ns) zero t apart at = let same : n ≡ t = cc at in ap (λ b. if b then 0 else suc (place ns t)) ((bytes_eq-Decides n t).1 same)
place-at (n ∷ ns) (suc k) t apart at =
    let fits : k < length ns = slice_get_within ns k t at in
    let off : n ≢ t = λ e. apart 0 (suc k) n (omega arith) (omega (arith, fits)) (e ∙ sym (get_or_from_slice_get ns k t n at)) in
    ap (λ b. if b then 0 else suc (place ns t)) (off_name n t off) ∙ ap suc (place-at ns k t (pairs_tail ◌≢◌ n ns apart) at)
  where
    off_name : (a b : List ℕ) → a ≢ b → same_name a b ≡ false
    off_name a b off = by (same_name a b) refl
      where
        by : (r : Bool) → same_name a b ≡ r → same_name a b ≡ false
        by true e = absurd (off ((bytes_eq-Decides a b).0 e))
        by false e = e

module _ (f : FlatNet) (flat : IsFlat f) (xs : List Bool) (long : length xs ≡ length (cut_inputs f)) where
  -- the vector that gives the bits of the list
  unfoldable pub vector_of : Vector
  vector_of (TopInput t) = bit_of xs (place f.ins t)
  vector_of (State t) = bit_of xs (length f.ins + place (state_texts f) t)

  counted : length (cut_inputs f) ≡ length f.ins + length (state_texts f)
  counted = length-append (map TopInput f.ins) (map State (state_texts f)) ∙ ap₂ ◌+◌ (length-map f.ins TopInput) (length-map (state_texts f) State)

  bit_is : (k : ℕ) (e : CutInput) → k < length (cut_inputs f) → vector_of (get_or (cut_inputs f) k e) ≡ bit_of xs k
  unfolding vector_of
  bit_is k e fits = by (cases_lt k (length f.ins))
    where
      by : (k < length f.ins) ⊎ (length f.ins ≤ k) → vector_of (get_or (cut_inputs f) k e) ≡ bit_of xs k
      by (inl h) =
          let at = slice_get-get_or f.ins k [] h in
          let is : get_or (cut_inputs f) k e ≡ TopInput (get_or f.ins k []) = get_or_append_left (map TopInput f.ins) (map State (state_texts f)) e k (omega (arith, h, length-map f.ins TopInput)) ∙ get_or-map TopInput f.ins k [] e h in
          ap vector_of is ∙ ap (bit_of xs) (place-at f.ins k (get_or f.ins k []) flat.apart.ins at)
      by (inr h) =
          let n = k - length f.ins in
          let sum : length f.ins + n ≡ k = omega (arith, h) in
          let inside : n < length (state_texts f) = omega (arith, sum, fits, counted) in
          let at = slice_get-get_or (state_texts f) n [] inside in
          let is : get_or (cut_inputs f) k e ≡ State (get_or (state_texts f) n []) = ap (λ m. get_or (cut_inputs f) m e) (omega (arith, sum, length-map f.ins TopInput))
          ∙ get_or-append-add (map TopInput f.ins) (map State (state_texts f)) n e ∙ get_or-map State (state_texts f) n [] e inside in
          ap vector_of is ∙ ap (λ m. bit_of xs (length f.ins + m)) (place-at (state_texts f) n (get_or (state_texts f) n []) flat.apart.regs at) ∙ ap (bit_of xs) sum

  pub vector_is : map vector_of (cut_inputs f) ≡ xs
  vector_is = same_lists (map vector_of (cut_inputs f)) xs (length-map (cut_inputs f) vector_of ∙ sym long) (λ k d fits.
      let inside : k < length (cut_inputs f) = omega (arith, fits, length-map (cut_inputs f) vector_of) in
      get_or-map vector_of (cut_inputs f) k (TopInput []) d inside ∙ bit_is k (TopInput []) inside ∙ get_or_default xs k false d (omega (arith, inside, long)))

-- by texts
zip_texts : (d : Design) (rs : List RegisterBit) (regs : List Reg) → AllZip (IsRegister d) rs regs → map (λ r. r.text) regs ≡ map (λ r. bit_text d r.bit) rs
zip_texts d [] [] all = refl
zip_texts d [] (y ∷ ys) all = absurd all
zip_texts d (x ∷ xs) [] all = absurd all
zip_texts d (x ∷ xs) (y ∷ ys) all = ap₂ ◌∷◌ all.0.text (zip_texts d xs ys all.1)

module _ (d : Design) (f : FlatNet) (occurs : Implements d f) where
  pub registers_are : state_texts f ≡ map (λ r. bit_text d r.bit) (registers d)
  registers_are = zip_texts d (registers d) f.regs occurs.regs

  pub vector_bits_are : (x : Vector) → vector_bits d x ≡ map x (cut_inputs f)
  vector_bits_are x = sym (map-append x (map TopInput f.ins) (map State (state_texts f))
      ∙ ap₂ ◌++◌ (map-map x TopInput f.ins ∙ ap (map (λ t. x (TopInput t))) occurs.ins ∙ map-map (λ t. x (TopInput t)) (bit_text d) (top_inputs d))
      (map-map x State (state_texts f) ∙ ap (map (λ t. x (State t))) registers_are ∙ map-map (λ t. x (State t)) (λ (r : RegisterBit). bit_text d r.bit) (registers d)))

  pub outputs_are : (w : World) → map (λ o. o.0) (outputs_in d w) ≡ cut_outputs f
  outputs_are w = map-append (λ (o : CutOutput × Bool). o.0) (map (λ b. (TopOutput (bit_text d b), bit_in w b)) (top_outputs d)) (map (λ r. (NextState (bit_text d r.bit), next_bit w r)) (registers d))
      ∙ ap₂ ◌++◌ (map-map (λ (o : CutOutput × Bool). o.0) (λ b. (TopOutput (bit_text d b), bit_in w b)) (top_outputs d) ∙ sym (map-map TopOutput (bit_text d) (top_outputs d)) ∙ ap (map TopOutput) (sym occurs.outs))
      (map-map (λ (o : CutOutput × Bool). o.0) (λ r. (NextState (bit_text d r.bit), next_bit w r)) (registers d) ∙ sym (map-map NextState (λ (r : RegisterBit). bit_text d r.bit) (registers d)) ∙ ap (map NextState) (sym registers_are))
