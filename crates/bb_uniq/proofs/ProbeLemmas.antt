-- what a probe finds, and what a new mark leaves
use Rattle.std.proofs.Common.{◌≡◌, ◌≢◌, ◌≤◌, ◌<◌, ℕ, zero, suc, ◌+◌, ◌-◌, ◌*◌, ◌/◌, ◌%◌, ◌^◌, ◌⊎◌, List, [], ◌∷◌, ◌++◌, length, Some, None, refl, sym, ap, ap₂, ◌∙◌, subst, inl, inr, arith, length-append, take, min}
use Rattle.std.specs.Prelude.{slice_get, slice_set, replicate}
use Rattle.std.specs.Int.{IsPowerOfTwo}
use Rattle.std.proofs.Math.Nat.{mod-add-mod, add-mod-mod, add-mod_right, mod-eq_of_lt, mod-lt, pow-suc, pow-le-pow_right}
use Rattle.std.proofs.lemmas.Bool.{cases_lt, cases_eq}
use Rattle.std.proofs.lemmas.Nat.{pow_pos, div-mul-add, mod-mul-add}
use Rattle.std.proofs.lemmas.List.{get_or-set_same, get_or-set_other, length-replicate, length-set}
use Rattle.bb_uniq.specs.declared.store.Node.{Node}
use Rattle.bb_uniq.specs.Inside.Places.{IsAbsent}
use Rattle.bb_uniq.specs.Inside.Probes.{hash_of, place_after, mark_of, at_place, taken, IsMet, ArePlaces}

-- a sum in the word, whose parts were cut to the word before
pub sum_in_word : (a b c m : ℕ) → ((a % m + b % m) % m + c % m) % m ≡ (a + b + c) % m
sum_in_word a b c m =
    add-mod-mod ((a % m + b % m) % m) c m
    ∙ mod-add-mod (a % m + b % m) m c
    ∙ sym (mod-add-mod (a % m + b % m) m c)
    ∙ ap (λ x. (x + c) % m) (add-mod-mod (a % m) b m ∙ mod-add-mod a m b)
    ∙ mod-add-mod (a + b) m c

pub power_pos : (n : ℕ) → IsPowerOfTwo n → 0 < n
power_pos n p = let q = pow_pos p.0 in omega (arith, q, p.1)

-- a power of two is at most half of a larger one
pub may_double : (n whole : ℕ) → IsPowerOfTwo n → IsPowerOfTwo whole → n < whole → 2 * n ≤ whole
may_double n whole p q less =
    elim (cases_lt p.0 q.0) [
      | inl below ↦
          let at_least : 2 ^ suc p.0 ≤ 2 ^ q.0 = pow-le-pow_right (omega arith) (omega (arith, below)) in
          omega (arith, at_least, pow-suc 2 p.0, p.1, q.1)
      | inr above ↦ let at_most : 2 ^ q.0 ≤ 2 ^ p.0 = pow-le-pow_right (omega arith) above in absurd (omega (arith, at_most, p.1, q.1, less))
    ]

-- a mark is taken apart into the bits of the hash and the number
pub mark_parts : (node : Node) (k mark : ℕ) → k < 50000000 → mark ≡ mark_of node k → (mark / 67108864 ≡ hash_of node / 2 ^ 58) × (mark % 67108864 ≡ k + 1)
mark_parts node k mark small e = (
  ap (λ m. m / 67108864) e ∙ div-mul-add (hash_of node / 2 ^ 58) 67108864 (k + 1) (omega (arith, small)),
  ap (λ m. m % 67108864) e ∙ mod-mul-add (hash_of node / 2 ^ 58) 67108864 (k + 1) (omega (arith, small)),
)

-- a taken place that does not have the mark of this node
abbrev pub IsOther : List ℕ → List Node → Node → ℕ → Type 0
IsOther places nodes node place = (at_place places place ≢ 0) × ((k : ℕ) → slice_get nodes k ≡ Some node → at_place places place ≢ mark_of node k)

-- where a probe went over such places alone, the node does not precede its end
pub occurs_after : (places : List ℕ) (nodes : List Node) (node : Node) (steps : ℕ) → ArePlaces places nodes → ((i : ℕ) → i < steps → IsOther places nodes node (place_after (length places) node i)) →
    (k : ℕ) (at : slice_get nodes k ≡ Some node) → (met : IsMet places node k) → steps ≤ met.steps
occurs_after places nodes node steps sound others k at met =
    elim (cases_lt met.steps steps) [ inl before ↦ absurd ((others met.steps before).1 k at met.here) | inr after ↦ after ]

pub absent_at_free : (places : List ℕ) (nodes : List Node) (node : Node) (steps : ℕ) → ArePlaces places nodes → ((i : ℕ) → i < steps → IsOther places nodes node (place_after (length places) node i)) →
    at_place places (place_after (length places) node steps) ≡ 0 → IsAbsent nodes node
absent_at_free places nodes node steps sound others free k at =
    let met = sound.met k node at in
    let after = occurs_after places nodes node steps sound others k at met in
    elim (cases_eq steps met.steps) [
      | inl same ↦
          let here : at_place places (place_after (length places) node steps) ≡ mark_of node k = ap (λ i. at_place places (place_after (length places) node i)) same ∙ met.here in
          omega (arith, here, free)
      | inr other ↦ met.before steps (omega (arith, after, other)) free
    ]

pub absent_past_all : (places : List ℕ) (nodes : List Node) (node : Node) (steps : ℕ) → ArePlaces places nodes → ((i : ℕ) → i < steps → IsOther places nodes node (place_after (length places) node i)) →
    length places ≤ steps → IsAbsent nodes node
absent_past_all places nodes node steps sound others all k at =
    let met = sound.met k node at in
    let after = occurs_after places nodes node steps sound others k at met in
    omega (arith, after, met.within, all)

-- a probe comes to each place
pub comes_to : (node : Node) (count place : ℕ) → place < count → (steps : ℕ) × (steps < count) × (place_after count node steps ≡ place)
comes_to node count place within =
    let h = hash_of node / 2 ^ 32 in
    let home = h % count in
    let small : home < count = mod-lt h (omega (arith, within)) in
    elim (cases_lt place home) [
      | inl before ↦
          let steps : ℕ = place + count - home in
          (steps, omega (arith, before, small), sym (mod-add-mod h count steps) ∙ (ap (λ n. n % count) (omega (arith, before, small)) ∙ (add-mod_right place count ∙ mod-eq_of_lt within)))
      | inr after ↦
          let steps : ℕ = place - home in
          (steps, omega (arith, within), sym (mod-add-mod h count steps) ∙ (ap (λ n. n % count) (omega (arith, after)) ∙ mod-eq_of_lt within))
    ]

free_place : (places : List ℕ) → taken places < length places → (place : ℕ) × (place < length places) × (at_place places place ≡ 0)
unfolding taken
free_place [] less = absurd (omega (arith, less))
free_place (zero ∷ places) less = (0, omega arith, refl)
free_place (suc mark ∷ places) less = let rest = free_place places (omega (arith, less)) in (suc rest.0, omega (arith, rest.1), rest.2)

-- so it comes to a free place
pub ends_at_free : (places : List ℕ) (nodes : List Node) (node : Node) → ArePlaces places nodes → ((i : ℕ) → i < length places → at_place places (place_after (length places) node i) ≢ 0) → ⊥
ends_at_free places nodes node sound all =
    let pos = power_pos (length places) sound.count in
    let free = free_place places (omega (arith, pos, sound.once, sound.half)) in
    let reached = comes_to node (length places) free.0 free.1 in
    all reached.0 reached.1 (ap (at_place places) reached.2 ∙ free.2)

taken-set : (places : List ℕ) (place mark : ℕ) → place < length places → at_place places place ≡ 0 → taken (slice_set places place (suc mark)) ≡ suc (taken places)
unfolding taken
taken-set [] place mark within free = absurd (omega (arith, within))
taken-set (zero ∷ places) zero mark within free = refl
taken-set (suc m ∷ places) zero mark within free = absurd (omega (arith, free))
taken-set (zero ∷ places) (suc place) mark within free = taken-set places place mark (omega (arith, within)) free
taken-set (suc m ∷ places) (suc place) mark within free = ap suc (taken-set places place mark (omega (arith, within)) free)

-- a node of the longer list is one from before, or the new one
got_push : (nodes : List Node) (x : Node) (k : ℕ) (node : Node) → slice_get (nodes ++ x ∷ []) k ≡ Some node → (slice_get nodes k ≡ Some node) ⊎ ((k ≡ length nodes) × (x ≡ node))
got_push [] x zero node e = inr (refl, let f : Some x ≡ Some node = e in cc)
got_push [] x (suc k) node e = absurd (let f : None ≡ Some node = e in cc)
got_push (y ∷ nodes) x zero node e = inl e
got_push (y ∷ nodes) x (suc k) node e = elim (got_push nodes x k node e) [ inl before ↦ inl before | inr last ↦ inr (ap suc last.0, last.1) ]

got_before : (nodes : List Node) (x : Node) (k : ℕ) (node : Node) → slice_get nodes k ≡ Some node → slice_get (nodes ++ x ∷ []) k ≡ Some node
got_before [] x k node e = absurd (let f : None ≡ Some node = e in cc)
got_before (y ∷ nodes) x zero node e = e
got_before (y ∷ nodes) x (suc k) node e = got_before nodes x k node e

got_last : (nodes : List Node) (x : Node) → slice_get (nodes ++ x ∷ []) (length nodes) ≡ Some x
got_last [] x = refl
got_last (y ∷ nodes) x = got_last nodes x

-- a mark at a free place
module _ (places : List ℕ) (p m : ℕ) (within : p < length places) (free : at_place places p ≡ 0) where
  kept_at : (q : ℕ) → at_place places q ≢ 0 → at_place (slice_set places p m) q ≡ at_place places q
  kept_at q full = get_or-set_other places p q m 0 (λ e. full (ap (at_place places) e ∙ free))

  still_taken : (q : ℕ) → at_place places q ≢ 0 → at_place (slice_set places p m) q ≢ 0
  still_taken q full e = full (sym (kept_at q full) ∙ e)

  -- how many places there are stays, and so does each probe
  still_after : (node : Node) (i : ℕ) → place_after (length (slice_set places p m)) node i ≡ place_after (length places) node i
  still_after node i = ap (λ count. place_after count node i) (length-set places p m)

  taken_after : (node : Node) (i : ℕ) → at_place places (place_after (length places) node i) ≢ 0 → at_place (slice_set places p m) (place_after (length (slice_set places p m)) node i) ≢ 0
  taken_after node i full = subst (λ q. at_place (slice_set places p m) q ≢ 0) (sym (still_after node i)) (still_taken (place_after (length places) node i) full)

  still_met : (node : Node) (k : ℕ) → IsMet places node k → IsMet (slice_set places p m) node k
  still_met node k met =
      let full : at_place places (place_after (length places) node met.steps) ≢ 0 = λ e. let h = met.here in omega (arith, e, h) in
      record {
        steps = met.steps;
        within = omega (arith, met.within, length-set places p m);
        here = ap (at_place (slice_set places p m)) (still_after node met.steps) ∙ (kept_at (place_after (length places) node met.steps) full ∙ met.here);
        before = λ i l. taken_after node i (met.before i l);
      }

-- a new node whose mark is at the first free place of its probe
pub ArePlaces-put : (places : List ℕ) (nodes : List Node) (node : Node) (steps : ℕ) → ArePlaces places nodes → steps < length places → 2 * (length nodes + 1) ≤ length places →
    ((i : ℕ) → i < steps → at_place places (place_after (length places) node i) ≢ 0) → at_place places (place_after (length places) node steps) ≡ 0 →
    ArePlaces (slice_set places (place_after (length places) node steps) (mark_of node (length nodes))) (nodes ++ node ∷ [])
ArePlaces-put places nodes node steps sound within room others free =
    let p : ℕ = place_after (length places) node steps in
    let m : ℕ = mark_of node (length nodes) in
    let pos = power_pos (length places) sound.count in
    let inside : p < length places = mod-lt (hash_of node / 2 ^ 32 + steps) pos in
    let same_count = length-set places p m in
    record {
      count = (sound.count.0, same_count ∙ sound.count.1);
      met = λ k x e.
          elim (got_push nodes node k x e) [
            | inl before ↦ still_met places p m inside free x k (sound.met k x before)
            | inr last ↦ subst (λ y. IsMet (slice_set places p m) y k) last.1 (subst (IsMet (slice_set places p m) node) (sym last.0) (record {
              steps = steps;
              within = omega (arith, within, same_count);
              here = ap (at_place (slice_set places p m)) (still_after places p m inside free node steps) ∙ get_or-set_same places p m 0 inside;
              before = λ i l. taken_after places p m inside free node i (others i l);
            }))
          ];
      marks = λ q full.
          elim (cases_eq q p) [
            | inl here ↦ (length nodes, node, got_last nodes node, ap (at_place (slice_set places p m)) here ∙ get_or-set_same places p m 0 inside)
            | inr other ↦
                let old : at_place (slice_set places p m) q ≡ at_place places q = get_or-set_other places p q m 0 other in
                let found = sound.marks q (λ e. full (old ∙ e)) in
                (found.0, found.1, got_before nodes node found.0 found.1 found.2, old ∙ found.3)
          ];
      once =
          ap (λ x. taken (slice_set places p x)) (omega arith)
          ∙ (taken-set places p (hash_of node / 2 ^ 58 * 2 ^ 26 + length nodes) inside free ∙ (ap suc sound.once ∙ omega (arith, length-append nodes (node ∷ []))));
      half = omega (arith, room, same_count, length-append nodes (node ∷ []));
    }

free_everywhere : (n place : ℕ) → at_place (replicate n 0) place ≡ 0
free_everywhere zero place = refl
free_everywhere (suc n) zero = refl
free_everywhere (suc n) (suc place) = free_everywhere n place

taken-free : (n : ℕ) → taken (replicate n 0) ≡ 0
unfolding taken
taken-free zero = refl
taken-free (suc n) = taken-free n

-- free places are those of no node
pub ArePlaces-free : (n : ℕ) → IsPowerOfTwo n → ArePlaces (replicate n 0) []
ArePlaces-free n p = record {
  count = (p.0, length-replicate n 0 ∙ p.1);
  met = λ k node e. absurd (let f : None ≡ Some node = e in cc);
  marks = λ place full. absurd (full (free_everywhere n place));
  once = taken-free n;
  half = omega arith;
}

-- what is filled up from none
pub free_from_none : (n len : ℕ) (old new : List ℕ) → old ≡ [] → len ≡ 0 → new ≡ take n old ++ replicate (n - len) 0 → new ≡ replicate n 0
free_from_none n len old new none zero_len e =
    let cut : take n old ≡ [] = ap (take n) none ∙ take_none n in
    let rest : n - len ≡ n = omega (arith, zero_len) in
    e ∙ ap₂ (λ (xs : List ℕ) k. xs ++ replicate k 0) cut rest
  where
    take_none : (n : ℕ) → take {A = ℕ} n [] ≡ []
    take_none zero = refl
    take_none (suc n) = refl

pub power_of_least : (n whole : ℕ) → n ≡ min whole 1024 → IsPowerOfTwo whole → IsPowerOfTwo n
power_of_least n whole e p =
    elim (cases_lt whole 1024) [
      | inl less ↦ (p.0, let same : n ≡ whole = omega (arith, e, less) in same ∙ p.1)
      | inr most ↦ (10, omega (arith, e, most))
    ]
