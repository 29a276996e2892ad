-- A netlist is copied cell by cell.
use Rattle.std.proofs.Common.{◌≡◌, ◌⊎◌, ℕ, zero, suc, map, All, ◌+◌, ◌<◌, Bool, not, ◌&&◌, ◌||◌, List, [], ◌∷◌, ◌++◌, length, refl, sym, ap, ap₂, ◌∙◌, subst, inl, inr, arith}
use Rattle.std.specs.Prelude.{slice_index, if◌then◌else◌}
use Rattle.std.proofs.lemmas.List.{get_or_append_left, get_or_push, length-append, length-map}
use Rattle.std.proofs.lemmas.List.Elements.{All-nil, All-cons, All-head, All-tail, All-get_or}
use Rattle.bb_lemmas.proofs.Orders.{same_or_less}
use Rattle.bb_net.specs.declared.cell.Cell.{Cell}
use Rattle.bb_net.specs.declared.cell.Cell.TheVariants.{Const, Input, Not, And, Or, Xor, Mux, BoxOut}
use Rattle.bb_net.specs.Netlists.{Netlist, IsNetlist, Pins, cell_at, ReadsBefore}
use Rattle.bb_net.specs.Values.{xor}
use Rattle.bb_subst.specs.Embeddings.{renumbered}
use Rattle.bb_strash.specs.Inside.Copies.{AreCopied}
use Rattle.bb_strash.specs.Inside.Extensions.{bit, gate_bit, Extends, Gives}
use Rattle.bb_strash.specs.Laws.{BitsAreGates, BitsStay}
use Rattle.bb_strash.specs.Inside.Miters.{IsMiter, HasOutputsOf}
use Rattle.bb_strash.proofs.BitLaws.{longer, no_pin}

-- a cell that reads the new places of what it read
gate_moved : (x : List Bool) (value old : ℕ → Bool) (at : ℕ → ℕ) (n m : ℕ) (boxes : List Pins) (c : Cell) → ReadsBefore n boxes m c → ((b p : ℕ) → c ≡ BoxOut b p → ⊥) → ((k : ℕ) → k < m → value (at k) ≡ old k)
    → gate_bit x value (renumbered at c) ≡ gate_bit x old c
gate_moved x value old at n m boxes (Const b) reads none same = refl
gate_moved x value old at n m boxes (Input i) reads none same = refl
gate_moved x value old at n m boxes (Not a) reads none same = ap not (same a reads)
gate_moved x value old at n m boxes (And a b) reads none same = ap₂ ◌&&◌ (same a reads.0) (same b reads.1)
gate_moved x value old at n m boxes (Or a b) reads none same = ap₂ ◌||◌ (same a reads.0) (same b reads.1)
gate_moved x value old at n m boxes (Xor a b) reads none same = ap₂ xor (same a reads.0) (same b reads.1)
gate_moved x value old at n m boxes (Mux c t e) reads none same =
    ap₂ (λ (y z : Bool). if value (at c) then y else z) (same t reads.1) (same e reads.2) ∙ ap (λ (y : Bool). if y then old t else old e) (same c reads.0)
gate_moved x value old at n m boxes (BoxOut b p) reads none same = absurd (none b p refl)

-- it reads what is there
pub moved_reads : (at : ℕ → ℕ) (n more m long : ℕ) (boxes : List Pins) (c : Cell) → n ≡ more → ReadsBefore n boxes m c → ((b p : ℕ) → c ≡ BoxOut b p → ⊥) → ((k : ℕ) → k < m → at k < long) → ReadsBefore more [] long (renumbered at c)
moved_reads at n more m long boxes (Const b) is reads none there = tt
moved_reads at n more m long boxes (Input i) is reads none there = omega (arith, reads, is)
moved_reads at n more m long boxes (Not a) is reads none there = there a reads
moved_reads at n more m long boxes (And a b) is reads none there = (there a reads.0, there b reads.1)
moved_reads at n more m long boxes (Or a b) is reads none there = (there a reads.0, there b reads.1)
moved_reads at n more m long boxes (Xor a b) is reads none there = (there a reads.0, there b reads.1)
moved_reads at n more m long boxes (Mux c t e) is reads none there = (there c reads.0, there t reads.1, there e reads.2)
moved_reads at n more m long boxes (BoxOut b p) is reads none there = absurd (none b p refl)

pub moved_pin : (at : ℕ → ℕ) (c : Cell) → ((b p : ℕ) → c ≡ BoxOut b p → ⊥) → (b p : ℕ) → renumbered at c ≡ BoxOut b p → ⊥
moved_pin at (Const b) none d p is = absurd (cc is)
moved_pin at (Input i) none d p is = absurd (cc is)
moved_pin at (Not a) none d p is = absurd (cc is)
moved_pin at (And a b) none d p is = absurd (cc is)
moved_pin at (Or a b) none d p is = absurd (cc is)
moved_pin at (Xor a b) none d p is = absurd (cc is)
moved_pin at (Mux c t e) none d p is = absurd (cc is)
moved_pin at (BoxOut b q) none d p is = absurd (none b q refl)

module _ (gates : BitsAreGates) (stay : BitsStay) (source : Netlist) (kept : IsNetlist source) (none : source.boxes ≡ []) where
  -- no cell is copied yet
  pub copied_none : (net : Netlist) → AreCopied source 0 net []
  copied_none net = record { long = refl; there = λ k h. absurd (omega (arith, h)); same = λ x k h. absurd (omega (arith, h)) }

  -- copies stay
  pub copied_on : (old new : Netlist) (most k : ℕ) (places : List ℕ) → Extends old new most → AreCopied source k old places → AreCopied source k new places
  copied_on old new most k places e so = record {
    long = so.long;
    there = λ j h. longer old new most e (slice_index places j) (so.there j h);
    same = λ x j h. stay old new most e x (slice_index places j) (so.there j h) ∙ so.same x j h;
  }

  -- one cell more is copied
  pub copied_next : (old new : Netlist) (most k place : ℕ) (places : List ℕ) → k < length source.cells → Extends old new most → AreCopied source k old places
      → Gives new place (λ x. gate_bit x (bit old x) (renumbered (slice_index places) (cell_at source.cells k))) → AreCopied source (k + 1) new (places ++ place ∷ [])
  copied_next old new most k place places lt e so gives = record {
    long = length-append places (place ∷ []) ∙ ap (λ n. n + 1) so.long;
    there = λ j h. there j (same_or_less j k (omega (arith, h)));
    same = λ x j h. by x j (same_or_less j k (omega (arith, h)));
  }
    where
      last : slice_index (places ++ place ∷ []) k ≡ place
      last = get_or_push places place 0 k so.long

      prefix : (j : ℕ) → j < k → slice_index (places ++ place ∷ []) j ≡ slice_index places j
      prefix j h = get_or_append_left places (place ∷ []) 0 j (omega (arith, h, so.long))

      there : (j : ℕ) → (k ≡ j) ⊎ (j < k) → slice_index (places ++ place ∷ []) j < length new.cells
      there j (inl is) = subst (λ n. slice_index (places ++ place ∷ []) n < length new.cells) is (subst (λ n. n < length new.cells) (sym last) gives.there)
      there j (inr h) = subst (λ n. n < length new.cells) (sym (prefix j h)) (longer old new most e (slice_index places j) (so.there j h))

      here : (x : List Bool) → bit new x place ≡ bit source x k
      here x =
          gives.same x
          ∙ gate_moved x (bit old x) (bit source x) (slice_index places) source.inputs k source.boxes (cell_at source.cells k) (kept.ordered k lt) (λ b p is. no_pin source kept none k b p lt is) (so.same x)
          ∙ sym (gates source kept none x k lt)

      by : (x : List Bool) (j : ℕ) → (k ≡ j) ⊎ (j < k) → bit new x (slice_index (places ++ place ∷ []) j) ≡ bit source x j
      by x j (inl is) = subst (λ n. bit new x (slice_index (places ++ place ∷ []) n) ≡ bit source x n) is (ap (bit new x) last ∙ here x)
      by x j (inr h) = ap (bit new x) (prefix j h) ∙ stay old new most e x (slice_index places j) (so.there j h) ∙ so.same x j h

-- exclusive ors of pairs, one more
pub difference_next : BitsStay → (start old new : Netlist) (n m : ℕ) (f g : ℕ → ℕ) (j : ℕ) (all : List ℕ) (place p q : ℕ) → Extends start old n → Extends old new m → p ≡ f j → q ≡ g j
    → f j < length start.cells → g j < length start.cells → length all ≡ j → ((i : ℕ) → i < j → Gives old (slice_index all i) (λ x. xor (bit start x (f i)) (bit start x (g i))))
    → Gives new place (λ x. xor (bit old x p) (bit old x q)) → (i : ℕ) → i < j + 1 → Gives new (slice_index (all ++ place ∷ []) i) (λ x. xor (bit start x (f i)) (bit start x (g i)))
difference_next stay start old new n m f g j all place p q one two is_p is_q at_f at_g long so gives i h = by (same_or_less i j (omega (arith, h)))
  where
    here : Gives new place (λ x. xor (bit start x (f j)) (bit start x (g j)))
    here = record {
      there = gives.there;
      same = λ x.
          gives.same x
          ∙ ap₂ xor (ap (bit old x) is_p ∙ stay start old n one x (f j) at_f) (ap (bit old x) is_q ∙ stay start old n one x (g j) at_g);
    }

    by : (j ≡ i) ⊎ (i < j) → Gives new (slice_index (all ++ place ∷ []) i) (λ x. xor (bit start x (f i)) (bit start x (g i)))
    by (inl e) =
        subst (λ k. Gives new (slice_index (all ++ place ∷ []) k) (λ x. xor (bit start x (f k)) (bit start x (g k)))) e
        (subst (λ k. Gives new k (λ x. xor (bit start x (f j)) (bit start x (g j)))) (sym (get_or_push all place 0 j long)) here)
    by (inr lt) =
        let g' = so i lt in
        subst (λ k. Gives new k (λ x. xor (bit start x (f i)) (bit start x (g i)))) (sym (get_or_append_left all (place ∷ []) 0 i (omega (arith, lt, long))))
        (record { there = longer old new m two (slice_index all i) g'.there; same = λ x. stay old new m two x (slice_index all i) g'.there ∙ g'.same x })

-- outputs are cells
pub out_there : (net : Netlist) → IsNetlist net → (j : ℕ) → j < length net.outs → slice_index net.outs j < length net.cells
out_there net kept j h = All-get_or (λ k. k < length net.cells) net.outs j 0 h kept.outs_there

pub miter_is : BitsStay → (spec imp one two three net : Netlist) (n m : ℕ) (own wanted outs : List ℕ) → IsNetlist spec → IsNetlist imp → length spec.outs ≡ length imp.outs
    → AreCopied imp (length imp.cells) one own → Extends one two n → AreCopied spec (length spec.cells) two wanted → Extends two three m → one.inputs ≡ imp.inputs → length outs ≡ length imp.outs
    → ((j : ℕ) → j < length imp.outs → Gives three (slice_index outs j) (λ x. xor (bit two x (slice_index own (slice_index imp.outs j))) (bit two x (slice_index wanted (slice_index spec.outs j)))))
    → net ≡ record three { outs = outs } → IsMiter spec imp net
miter_is stay spec imp one two three net n m own wanted outs spec_kept imp_kept counts first more second last inputs count gives is =
    subst (IsMiter spec imp) (sym is) (record {
      inputs = last.inputs ∙ more.inputs ∙ inputs;
      boxes = last.boxes;
      count = count;
      outs = λ x j h.
          let a = out_there imp imp_kept j h in
          let b = out_there spec spec_kept j (omega (arith, h, counts)) in
          (gives j h).same x
          ∙ ap₂ xor (stay one two n more x (slice_index own (slice_index imp.outs j)) (first.there (slice_index imp.outs j) a) ∙ first.same x (slice_index imp.outs j) a) (second.same x (slice_index spec.outs j) b);
    })

pub swept_is : (old new net : Netlist) (places outs : List ℕ) → IsNetlist old → AreCopied old (length old.cells) new places → new.inputs ≡ old.inputs → new.boxes ≡ [] → outs ≡ map (slice_index places) old.outs
    → net ≡ record new { outs = outs } → HasOutputsOf old net
swept_is old new net places outs kept so inputs boxes outs_are is =
    subst (HasOutputsOf old) (sym is) (record {
      inputs = inputs;
      boxes = boxes;
      count = ap length outs_are ∙ length-map old.outs (slice_index places);
      outs = λ x j h.
          ap (bit new x) (ap (λ l. slice_index l j) outs_are ∙ get_or-map (slice_index places) old.outs j h)
          ∙ so.same x (slice_index old.outs j) (out_there old kept j h);
    })
  where
    get_or-map : (f : ℕ → ℕ) (l : List ℕ) (k : ℕ) → k < length l → slice_index (map f l) k ≡ f (slice_index l k)
    get_or-map f [] k h = absurd (omega (arith, h))
    get_or-map f (a ∷ l) zero h = refl
    get_or-map f (a ∷ l) (suc k) h = get_or-map f l k (omega (arith, h))

-- the new places of cells are there
pub mapped_there : (n : ℕ) (f : ℕ → ℕ) (l : List ℕ) (m : ℕ) → All (λ k. k < m) l → ((k : ℕ) → k < m → f k < n) → All (λ k. k < n) (map f l)
mapped_there n f [] m all h = All-nil (λ k. k < n)
mapped_there n f (a ∷ l) m all h = All-cons (λ k. k < n) (f a) (map f l) (h a (All-head (λ k. k < m) a l all)) (mapped_there n f l m (All-tail (λ k. k < m) a l all) h)
