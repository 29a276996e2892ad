-- What a box sees at the pins of the boxes before it, as one list of bits, and box by box.
use Rattle.std.proofs.Common.{ℕ, ◌+◌, Bool, List, [], ◌∷◌, ◌++◌, length, take, drop, All, refl, subst, append_assoc}
use Rattle.std.specs.List.{AllZip}
use Rattle.std.proofs.lemmas.List.{drop-drop}
use Rattle.std.proofs.lemmas.List.Elements.{All-head, All-tail}
use Rattle.bb_net.specs.Netlists.{Netlist, Pins}
use Rattle.bb_net.specs.Values.{bit_of}
use Rattle.bb_input.specs.InputFunctions.{point_pins, pin_places}
use Rattle.bb_nest.specs.Nested.{Sees}
use Rattle.bb_nest.specs.Rows.{IsSeenFirst, SeesBit, SeesBits}

-- the parts of two lists that are laid side by side
module _ {A B : Type 0} (R : A → B → Type 0) where
  pub zip_prefix : (xs us : List A) (ys : List B) → AllZip R (xs ++ us) ys → AllZip R xs (take (length xs) ys)
  zip_prefix [] us ys all = tt
  zip_prefix (x ∷ xs) us [] all = absurd all
  zip_prefix (x ∷ xs) us (y ∷ ys) all = (all.0, zip_prefix xs us ys all.1)

  pub zip_after : (xs us : List A) (ys : List B) → AllZip R (xs ++ us) ys → AllZip R us (drop (length xs) ys)
  zip_after [] us ys all = all
  zip_after (x ∷ xs) us [] all = absurd all
  zip_after (x ∷ xs) us (y ∷ ys) all = zip_after xs us ys all.1

module _ (net : Netlist) (box : Pins) (ins : List Bool) where
  abbrev SeesHere : ℕ → Bool → Type 0
  SeesHere = SeesBit net box ins

  pub seen_boxes : (boxes : List Pins) (seen : List Bool) → AllZip SeesHere (pin_places boxes) seen → AllZip (SeesBits net box ins) boxes (point_pins boxes seen)
  seen_boxes [] seen all = tt
  seen_boxes (other ∷ boxes) seen all =
      let rest = pin_places boxes in
      let k = length other.ins in
      let m = length other.outs in
      let whole : AllZip SeesHere (other.ins ++ (other.outs ++ rest)) seen = subst (λ (cells : List ℕ). AllZip SeesHere cells seen) (append_assoc other.ins other.outs rest) all in
      let after = zip_after SeesHere other.ins (other.outs ++ rest) seen whole in (
        record { ins = zip_prefix SeesHere other.ins (other.outs ++ rest) seen whole; outs = zip_prefix SeesHere other.outs rest (drop k seen) after },
        seen_boxes boxes (drop (k + m) seen) (subst (AllZip SeesHere rest) (drop-drop m k seen) (zip_after SeesHere other.outs rest (drop k seen) after)),
      )

  -- where it sees all cells, some bits are seen
  pub seen_cells : ((cell : ℕ) → Sees net box cell → (p : ℕ) × IsSeenFirst net box cell p) → (cells : List ℕ) → All (Sees net box) cells → (seen : List Bool) × AllZip SeesHere cells seen
  seen_cells first [] all = ([], tt)
  seen_cells first (cell ∷ cells) all =
      let here = first cell (All-head (Sees net box) cell cells all) in
      let rest = seen_cells first cells (All-tail (Sees net box) cell cells all) in
      (bit_of ins here.0 ∷ rest.0, ((here.0, here.1, refl), rest.1))
