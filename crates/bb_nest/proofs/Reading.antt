-- Readers of Refs, one after another.
use Rattle.std.proofs.Common.{◌≡◌, ◌<◌, ◌≤◌, ℕ, ◌+◌, ◌-◌, List, [], ◌∷◌, ◌++◌, length, take, drop, slice_index, inl, inr, sym, ap, ◌∙◌, subst, arith, length-append, length-take, get_or-take}
use Rattle.std.proofs.lemmas.Bool.{cases_lt}
use Rattle.std.proofs.lemmas.List.{take_more}
use Rattle.bb_sym.specs.Inside.Made.{ref_at}
use Rattle.bb_uniq.specs.declared.store.Ref.{Ref}
use Rattle.bb_net.specs.Netlists.{Pins, box_at}
use Rattle.bb_net.specs.Pairs.{pin_count}
use Rattle.bb_nest.specs.Inside.Readers.{IsReader, HasReader, HasNoReader, AreReaders, own_refs, refs_before}
use Rattle.bb_nest.proofs.Loops.{each_push}
use Rattle.bb_nest.proofs.Points.{pins_of}
use Rattle.bb_nest.proofs.StageRows.{no_pins, count_push}

pub readers_more : (ins refs : List Ref) (readers : List ℕ) (i p : ℕ) → i < length refs → AreReaders ins (take i refs) readers → IsReader ins (ref_at refs i) p → AreReaders ins (take (i + 1) refs) (readers ++ p ∷ [])
readers_more ins refs readers i p l so_far here =
    let count : length readers ≡ i = so_far.count ∙ (let h : length (take i refs) ≡ i = omega (arith, length-take i refs, l) in h) in
    let more : length (take (i + 1) refs) ≡ i + 1 = omega (arith, length-take (i + 1) refs, l) in
    let each = each_push (λ q r. IsReader ins (ref_at refs q) r) readers p 0 i count
    (λ q lq. subst (λ (r : Ref). IsReader ins r (slice_index readers q)) (get_or-take i refs q (record { 0 = 0 }) lq) (so_far.each q (omega (arith, lq, length-take i refs, l)))) here in
    record {
      count = omega (arith, length-append readers (p ∷ []), count, more);
      each = λ q lq.
          let low : q < i + 1 = omega (arith, lq, more) in
          subst (λ (r : Ref). IsReader ins r (slice_index (readers ++ p ∷ []) q)) (sym (get_or-take (i + 1) refs q (record { 0 = 0 }) low)) (each q low);
    }

-- what has a reader is read below the end
pub reads_below : (ins : List Ref) (r : Ref) (p : ℕ) → HasReader ins r → (length ins ≤ p → HasNoReader ins r) → p < length ins
reads_below ins r p has none = elim (cases_lt p (length ins)) [
  | inl low ↦ low
  | inr high ↦ absurd (none high has.0 has.1.there has.1.same)
]

-- the pins of one more box
pub count_next : (boxes : List Pins) (i : ℕ) → i < length boxes → pin_count (take (i + 1) boxes) ≡ pin_count (take i boxes) + pins_of (box_at boxes i)
count_next boxes i l = ap pin_count (take_more boxes i no_pins l) ∙ count_push (take i boxes) (box_at boxes i)

-- the slices of the Refs
module _ (boxes : List Pins) (refs : List Ref) (b start k : ℕ) (e : start ≡ pin_count (take b boxes)) (f : k ≡ length (box_at boxes b).ins) where
  pub own_slice : take ((start + k) - start) (drop start refs) ≡ own_refs boxes b refs
  own_slice = ap (λ n. take n (drop start refs)) (let h : (start + k) - start ≡ length (box_at boxes b).ins = omega (arith, f) in h) ∙ ap (λ n. take (length (box_at boxes b).ins) (drop n refs)) e

  pub before_slice : take start refs ≡ refs_before boxes b refs
  before_slice = ap (λ n. take n refs) e
