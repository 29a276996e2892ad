-- A register of the one, and the register of the same text of the other.
use Rattle.std.proofs.Common.{◌≡◌, ◌≢◌, ◌⊎◌, ◌↔◌, ℕ, ◌<◌, ◌≤◌, Bool, true, false, true≢false, not, List, map, length, get_or, AllPairs, Contains, refl, sym, ap, ap₂, subst, ◌∙◌, inl, inr, arith}
use Rattle.std.specs.Prelude.{IsTrue, MatchBool}
use Rattle.std.proofs.lemmas.List.{length-map, get_or-map, get_or_default}
use Rattle.std.proofs.lemmas.Option.{slice_get_within, get_or_from_slice_get}
use Rattle.std.proofs.lemmas.Slice.Eq.{bytes_eq-Decides}
use Rattle.bb_lemmas.proofs.Bits.{same_or_not}
use Rattle.bb_bits.specs.Names.{same_name}
use Rattle.bb_net.specs.declared.flat.Reg.{Reg}
use Rattle.bb_net.specs.Flats.{FlatNet}
use Rattle.bb_net.specs.CutPoints.{state_texts, clock_text}
use Rattle.bb_match.specs.Inside.Places.{ArePlaces, text_place}
use Rattle.bb_match.specs.Refusals.{IsClockedApart, HasSameClock}
use Rattle.bb_lemmas.proofs.Orders.{less_or_same}
use Rattle.bb_match.proofs.Decisions.{decide_optional}
use Rattle.bb_match.proofs.PlaceLemmas.{place_right}

pub apart_not_isomorphic : (f g : FlatNet) (r : Reg) → IsClockedApart f g r → HasSameClock f g r → ⊥
apart_not_isomorphic f g r apart alike =
    let same = alike apart.0 apart.1 apart.2 in
    elim apart.3 [ inl edge ↦ edge same.0 | inr clock ↦ clock same.1 ]

-- one place for each text
one_place : (regs : List Reg) (j k : ℕ) (q : Reg) → AllPairs ◌≢◌ (map (λ r. r.text) regs) → j < length regs → k < length regs → (get_or regs j q).text ≡ (get_or regs k q).text → j ≡ k
one_place regs j k q apart lj lk same = elim (less_or_same j k) [
  | inl h ↦ absurd (apart j k q.text h (omega (arith, lk, long)) (at j lj ∙ same ∙ sym (at k lk)))
  | inr more ↦ elim more [ inl h ↦ absurd (apart k j q.text h (omega (arith, lj, long)) (at k lk ∙ sym same ∙ sym (at j lj))) | inr e ↦ e ]
]
  where
    at : (i : ℕ) → i < length regs → get_or (map (λ r. r.text) regs) i q.text ≡ (get_or regs i q).text
    at i lt = get_or-map (λ r. r.text) regs i q q.text lt

    long : length (map (λ r. r.text) regs) ≡ length regs
    long = length-map regs (λ r. r.text)

-- the register that is at the place of a text
place_there : (g : FlatNet) (entries : List (List ℕ × ℕ)) (q : Reg) → ArePlaces (state_texts g) entries → Contains g.regs q
    → (text_place entries q.text < length g.regs) × ((get_or g.regs (text_place entries q.text) q).text ≡ q.text)
place_there g entries q places has =
    let texts = map (λ r. r.text) g.regs in
    let long : length texts ≡ length g.regs = length-map g.regs (λ r. r.text) in
    let in_texts : Contains texts q.text = (has.0, omega (arith, has.1, long), get_or-map (λ r. r.text) g.regs has.0 q q.text has.1 ∙ ap (λ r. r.text) has.2) in
    let got = place_right texts entries q.text places in_texts in
    let within : text_place entries q.text < length g.regs = omega (arith, slice_get_within texts (text_place entries q.text) q.text got, long) in
    (within, sym (get_or-map (λ r. r.text) g.regs (text_place entries q.text) q q.text within) ∙ get_or_from_slice_get texts (text_place entries q.text) q.text q.text got)

-- no register is there
pub isomorphic_past : (f g : FlatNet) (r : Reg) (entries : List (List ℕ × ℕ)) (regs : List Reg) (k : ℕ) → ArePlaces (state_texts g) entries → regs ≡ g.regs → k ≡ text_place entries r.text → length regs ≤ k → HasSameClock f g r
isomorphic_past f g r entries regs k places all at past q has same =
    let there = place_there g entries q places has in
    absurd (omega (arith, past, ap length all, at, subst (λ t. text_place entries t < length g.regs) same there.0))

-- one of another text is there
pub isomorphic_other : (f g : FlatNet) (r p : Reg) (entries : List (List ℕ × ℕ)) (regs : List Reg) (k : ℕ) → ArePlaces (state_texts g) entries → regs ≡ g.regs → k ≡ text_place entries r.text → p ≡ get_or regs k p → same_name p.text r.text ≡ false
    → HasSameClock f g r
isomorphic_other f g r p entries regs k places all place at off q has same =
    let there = place_there g entries q places has in
    let within : text_place entries r.text < length g.regs = subst (λ t. text_place entries t < length g.regs) same there.0 in
    let p_at : p ≡ get_or g.regs (text_place entries r.text) p = at ∙ ap₂ (λ l j. get_or l j p) all place in
    let is : p.text ≡ r.text = ap (λ x. x.text) (p_at ∙ get_or_default g.regs (text_place entries r.text) p q within) ∙ ap (λ t. (get_or g.regs (text_place entries t) q).text) (sym same) ∙ there.1 ∙ same in
    absurd (true≢false (sym ((bytes_eq-Decides p.text r.text).1 is) ∙ off))

-- the one of that text is there
isomorphic_there : (f g : FlatNet) (r p : Reg) (k : ℕ) → AllPairs ◌≢◌ (state_texts g) → p ≡ get_or g.regs k p → k < length g.regs → p.text ≡ r.text → (p.falling ≡ r.falling) × (clock_text g p ≡ clock_text f r) → HasSameClock f g r
isomorphic_there f g r p k apart at within is alike q has same =
    let p_at : p ≡ get_or g.regs k q = at ∙ get_or_default g.regs k p q within in
    let one : has.0 ≡ k = one_place g.regs has.0 k q apart has.1 within (ap (λ x. x.text) has.2 ∙ same ∙ sym is ∙ ap (λ x. x.text) p_at) in
    let same_reg : p ≡ q = p_at ∙ ap (λ i. get_or g.regs i q) (sym one) ∙ has.2 in
    subst (λ x. (x.falling ≡ r.falling) × (clock_text g x ≡ clock_text f r)) same_reg alike

apart_there : (f g : FlatNet) (r p : Reg) (k : ℕ) → p ≡ get_or g.regs k p → k < length g.regs → p.text ≡ r.text → ((p.falling ≡ r.falling) × (clock_text g p ≡ clock_text f r) → ⊥) → IsClockedApart f g r
apart_there f g r p k at within is off = (p, (k, within, sym at), is, by (same_or_not p.falling r.falling) (decide_optional (clock_text g p) (clock_text f r)))
  where
    by : (p.falling ≡ r.falling) ⊎ (p.falling ≢ r.falling) → (clock_text g p ≡ clock_text f r) ⊎ (clock_text g p ≢ clock_text f r) → (p.falling ≢ r.falling) ⊎ (clock_text g p ≢ clock_text f r)
    by (inr edge) clock = inl edge
    by (inl edge) (inr clock) = inr clock
    by (inl edge) (inl clock) = absurd (off (edge, clock))

pub reported_there : (f g : FlatNet) (r p : Reg) (entries : List (List ℕ × ℕ)) (regs : List Reg) (k : ℕ) (b : Bool) → AllPairs ◌≢◌ (state_texts g) → regs ≡ g.regs → p ≡ get_or regs k p → k < length regs → same_name p.text r.text ≡ true
    → (IsTrue b ↔ ((p.falling ≡ r.falling) × (clock_text g p ≡ clock_text f r))) → MatchBool (not b) (IsClockedApart f g r) (HasSameClock f g r)
reported_there f g r p entries regs k b apart all at within same reported =
    let p_at : p ≡ get_or g.regs k p = at ∙ ap (λ l. get_or l k p) all in
    let there : k < length g.regs = subst (λ l. k < length l) all within in
    by b reported p_at there ((bytes_eq-Decides p.text r.text).0 same)
  where
    by : (b : Bool) → (IsTrue b ↔ ((p.falling ≡ r.falling) × (clock_text g p ≡ clock_text f r))) → p ≡ get_or g.regs k p → k < length g.regs → p.text ≡ r.text → MatchBool (not b) (IsClockedApart f g r) (HasSameClock f g r)
    by true h p_at there is = isomorphic_there f g r p k apart p_at there is (h.0 refl)
    by false h p_at there is = apart_there f g r p k p_at there is (λ alike. true≢false (sym (h.1 alike)))
