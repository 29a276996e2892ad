-- The bits of a scope by numbers: those of a net are side by side after those of the nets before it.
use Rattle.std.proofs.Common.{◌≡◌, ◌⊎◌, ℕ, zero, suc, ◌+◌, ◌<◌, ◌≤◌, Bool, true, false, cond, List, [], ◌∷◌, ◌++◌, map, length, take, get_or, Some, refl, sym, ap, ◌∙◌, subst, inl, inr, arith, length-append, append-nil}
use Rattle.std.specs.Prelude.{slice_get, filter}
use Rattle.std.specs.List.{flat_map, range_with_len, slice_index_or}
use Rattle.std.proofs.lemmas.Grind.{flat_map-append}
use Rattle.std.proofs.lemmas.List.{map-append}
use Rattle.std.proofs.lemmas.List.Elements.{filter_more}
use Rattle.std.proofs.lemmas.List.FromFn.{length-map-range_with_len}
use Rattle.std.proofs.lemmas.List.Sums.{sum_by_more_le, sum_by-cons}
use Rattle.std.proofs.lemmas.Option.{slice_get_within, slice_get_read, get_or_from_slice_get}
use Rattle.bb_names.specs.declared.net.NetInfo.{NetInfo}
use Rattle.bb_names.specs.Ranges.{range_width}
use Rattle.bb_design.specs.Hierarchy.{Path}
use Rattle.bb_design.specs.NetBits.{Bit, bits_from, bits_of_net}
use Rattle.bb_blast.specs.Inside.ModuleTemplates.{net_start}
use Rattle.bb_bits.specs.Inside.Places.{AreAt}
use Rattle.bb_blast.specs.Inside.BitBlasting.{AreStarts, bit_count}
use Rattle.bb_lemmas.proofs.Orders.{less_or_same}
use Rattle.bb_lemmas.proofs.Places.{got_flat, got_left, got_right}

pub got_run : {A : Type 0} (f : ℕ → A) (a n k : ℕ) → k < n → slice_get (map f (range_with_len a n)) k ≡ Some (f (a + k))
got_run f a zero k lt = absurd (omega (arith, lt))
got_run f a (suc n) zero lt = ap (λ j. Some (f j)) (omega arith)
got_run f a (suc n) (suc k) lt = got_run f (a + 1) n k (omega (arith, lt)) ∙ ap (λ j. Some (f j)) (omega arith)

pub bits-long : (path : Path) (nets : List NetInfo) → length (flat_map (bits_of_net path) nets) ≡ bit_count nets
bits-long path [] = refl
bits-long path (net ∷ nets) =
    length-append (bits_of_net path net) (flat_map (bits_of_net path) nets)
    ∙ omega (arith, length-map-range_with_len {X = Bit} (λ k. record { path = path; net = net.name; place = k }) 0 (range_width net.range), bits-long path nets, sum_by-cons (λ (x : NetInfo). range_width x.range) net nets)

-- numbers of two lists side by side
pub at_both : {A : Type 0} (all : List A) (a b : List ℕ) (xs ys : List A) → AreAt all a xs → AreAt all b ys → AreAt all (a ++ b) (xs ++ ys)
at_both all a b xs ys p q = map-append (slice_get all) a b ∙ ap (λ l. l ++ map (slice_get all) b) p ∙ ap (λ l. map Some xs ++ l) q ∙ sym (map-append Some xs ys)

-- a bit of a net by its number
pub net_bit_at : (path : Path) (nets : List NetInfo) (k : ℕ) (net : NetInfo) (place : ℕ) → slice_get nets k ≡ Some net → place < range_width net.range
    → slice_get (flat_map (bits_of_net path) nets) (net_start nets k + place) ≡ Some (record { path = path; net = net.name; place = place })
net_bit_at path nets k net place e lt =
    ap (λ n. slice_get (flat_map (bits_of_net path) nets) (n + place)) (sym (bits-long path (take k nets)))
    ∙ got_flat (bits_of_net path) nets k net place (record { path = path; net = net.name; place = place }) e
    (got_run (λ i. record { path = path; net = net.name; place = i }) 0 (range_width net.range) place lt ∙ ap (λ i. Some (record { path = path; net = net.name; place = i })) (omega arith))

-- bits of a net side by side, by their numbers
pub run_at : (path : Path) (nets : List NetInfo) (k : ℕ) (net : NetInfo) (from place count : ℕ) → slice_get nets k ≡ Some net → from ≡ net_start nets k + place → place + count ≤ range_width net.range
    → AreAt (flat_map (bits_of_net path) nets) (range_with_len from count) (bits_from path net.name place count)
run_at path nets k net from place zero e is lt = refl
run_at path nets k net from place (suc count) e is lt =
    let first = ap (slice_get (flat_map (bits_of_net path) nets)) is ∙ net_bit_at path nets k net place e (omega (arith, lt)) in
    let rest = run_at path nets k net (from + 1) (place + 1) count e (omega (arith, is)) (omega (arith, lt)) in
    ap (λ o. o ∷ map (slice_get (flat_map (bits_of_net path) nets)) (range_with_len (from + 1) count)) first
    ∙ ap (λ l. Some (record { path = path; net = net.name; place = place }) ∷ l) rest

-- a net's bits are among those of all nets
pub net_fits : (nets : List NetInfo) (k : ℕ) (net : NetInfo) → slice_get nets k ≡ Some net → net_start nets k + range_width net.range ≤ bit_count nets
net_fits nets k net e =
    let within = slice_get_within nets k net e in
    subst (λ (x : NetInfo). net_start nets k + range_width x.range ≤ bit_count nets) (get_or_from_slice_get nets k net net e) (sum_by_more_le (λ (x : NetInfo). range_width x.range) nets k net within)

pub run-more : (a n : ℕ) → range_with_len a (n + 1) ≡ range_with_len a n ++ (a + n) ∷ []
run-more a zero = ap (λ i. i ∷ []) (omega arith)
run-more a (suc n) = ap (range_with_len a) (next n) ∙ ap (λ l. a ∷ l) (run-more (a + 1) n ∙ ap (λ i. range_with_len (a + 1) n ++ i ∷ []) (omega arith))
  where
    next : (i : ℕ) → suc i + 1 ≡ suc (i + 1)
    next i = omega arith

-- the bits of one more net that is chosen, and those after one that is not
pub chosen_more : (path : Path) (test : NetInfo → Bool) (nets : List NetInfo) (starts : List ℕ) → AreStarts nets starts → (k : ℕ) (net : NetInfo) (old now : List ℕ) (from count : ℕ) → k < length nets → net ≡ get_or nets k net
    → AreAt (flat_map (bits_of_net path) nets) old (flat_map (bits_of_net path) (filter test (take k nets))) → test net ≡ true → from ≡ slice_index_or starts k 0 → count ≡ range_width net.range
    → now ≡ old ++ range_with_len from count → AreAt (flat_map (bits_of_net path) nets) now (flat_map (bits_of_net path) (filter test (take (k + 1) nets)))
chosen_more path test nets starts are k net old now from count lt is before on start many more =
    let there = slice_get_read nets (length nets) k net refl lt is in
    let first : from ≡ net_start nets k + 0 = start ∙ get_or_from_slice_get starts k (net_start nets k) 0 (are.each k lt) ∙ omega arith in
    let bits : AreAt (flat_map (bits_of_net path) nets) (range_with_len from count) (bits_of_net path net) = subst (λ n. AreAt (flat_map (bits_of_net path) nets) (range_with_len from n) (bits_of_net path net)) (sym many) (run_at path nets k net from 0 (range_width net.range) there first (omega arith)) in
    let chosen : filter test (take (k + 1) nets) ≡ filter test (take k nets) ++ net ∷ [] = filter_more test nets k net lt ∙ ap (λ (x : NetInfo). filter test (take k nets) ++ cond (test x) (x ∷ []) []) (sym is) ∙ ap (λ b. filter test (take k nets) ++ cond b (net ∷ []) []) on in
    let all : flat_map (bits_of_net path) (filter test (take (k + 1) nets)) ≡ flat_map (bits_of_net path) (filter test (take k nets)) ++ bits_of_net path net =
    ap (flat_map (bits_of_net path)) chosen ∙ flat_map-append (bits_of_net path) (filter test (take k nets)) (net ∷ []) ∙ ap (λ l. flat_map (bits_of_net path) (filter test (take k nets)) ++ l) (append-nil (bits_of_net path net)) in
    subst (AreAt (flat_map (bits_of_net path) nets) now) (sym all) (subst (λ l. AreAt (flat_map (bits_of_net path) nets) l (flat_map (bits_of_net path) (filter test (take k nets)) ++ bits_of_net path net)) (sym more)
    (at_both (flat_map (bits_of_net path) nets) old (range_with_len from count) (flat_map (bits_of_net path) (filter test (take k nets))) (bits_of_net path net) before bits))

pub passed_over : (test : NetInfo → Bool) (nets : List NetInfo) (k : ℕ) (net : NetInfo) → k < length nets → net ≡ get_or nets k net → test net ≡ false → filter test (take (k + 1) nets) ≡ filter test (take k nets)
passed_over test nets k net lt is off =
    filter_more test nets k net lt ∙ ap (λ (x : NetInfo). filter test (take k nets) ++ cond (test x) (x ∷ []) []) (sym is) ∙ ap (λ b. filter test (take k nets) ++ cond b (net ∷ []) []) off ∙ append-nil (filter test (take k nets))

-- the first bits of the nets so far and of one more
pub starts_more : (nets : List NetInfo) (starts now : List ℕ) (i next : ℕ) → next ≡ bit_count (take i nets) → length starts ≡ i → ((k : ℕ) → k < i → slice_get starts k ≡ Some (net_start nets k)) → now ≡ starts ++ next ∷ []
    → (k : ℕ) → k < i + 1 → slice_get now k ≡ Some (net_start nets k)
starts_more nets starts now i next is long each more k lt = by (less_or_same k i)
  where
    by : (k < i) ⊎ ((i < k) ⊎ (k ≡ i)) → slice_get now k ≡ Some (net_start nets k)
    by (inl h) = ap (λ l. slice_get l k) more ∙ got_left starts (next ∷ []) k (net_start nets k) (each k h)
    by (inr (inl h)) = absurd (omega (arith, h, lt))
    by (inr (inr e)) = ap (λ l. slice_get l k) more ∙ ap (slice_get (starts ++ next ∷ [])) (omega (arith, e, long)) ∙ got_right starts (next ∷ []) 0 ∙ ap Some (is ∙ ap (net_start nets) (sym e))
