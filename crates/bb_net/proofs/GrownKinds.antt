-- Kinds of one key more, the keys that kinds show, and what is shown of the first boxes.
use Rattle.std.proofs.Common.{◌≡◌, ◌≢◌, ℕ, ◌<◌, ◌≤◌, ◌↔◌, zero, suc, List, [], ◌∷◌, ◌++◌, length, take, map, get_or, refl, sym, ap, subst, ◌∙◌, inl, inr, arith}
use Rattle.std.specs.Prelude.{AllPairs, Contains}
use Rattle.std.specs.List.{AllZip}
use Rattle.std.proofs.lemmas.Bool.{cases_lt}
use Rattle.std.proofs.lemmas.Grind.{get_or_default_zero}
use Rattle.std.proofs.lemmas.List.{get_or_append_left, get_or_at, get_or-map, length-map, length_push}
use Rattle.std.proofs.lemmas.List.Elements.{Contains-get_or}
use Rattle.bb_net.specs.Flats.{PinsGoByModules}
use Rattle.bb_net.specs.Kinds.{AreNumberedInOrder, AreKinds, FitKinds, representatives}
use Rattle.bb_net.specs.Netlists.{Pins, box_at}
use Rattle.bb_net.specs.Pairs.{BoxTexts, NamesPins}
use Rattle.bb_net.proofs.KindNumbers.{into_taken, kind_has_first, shown_counts, shown_occurs}

any_default : {A : Type 0} (xs : List A) (k : ℕ) (d e : A) → k < length xs → get_or xs k d ≡ get_or xs k e
any_default [] k d e h = absurd (omega (arith, h))
any_default (x ∷ xs) zero d e h = refl
any_default (x ∷ xs) (suc k) d e h = any_default xs k d e (omega (arith, h))

-- each kind shows the key of its boxes
pub shows_key : (keys : List (List ℕ)) (kinds : List ℕ) → AreKinds keys kinds → (b : ℕ) → b < length keys → get_or (representatives kinds keys) (get_or kinds b 0) [] ≡ get_or keys b []
shows_key keys kinds are b h =
    let hb : b < length kinds = omega (arith, h, are.count) in
    let r = kind_has_first kinds (get_or kinds b 0) are.ordered (Contains-get_or kinds b 0 hb) in
    ap (λ k. get_or (representatives kinds keys) k []) (sym r.3)
    ∙ shown_occurs kinds keys [] are.ordered (sym are.count) r.0 r.1 r.2
    ∙ (are.same r.0 b (omega (arith, r.1, are.count)) h).0 r.3

-- a kind that is shown is that of some box
pub shown_box : (keys : List (List ℕ)) (kinds : List ℕ) → AreKinds keys kinds → (k : ℕ) → k < length (representatives kinds keys) → (b : ℕ) × (b < length keys) × (get_or kinds b 0 ≡ k)
shown_box keys kinds are k h =
    let has = (shown_counts kinds keys are.ordered (sym are.count) k).0 h in
    (has.0, omega (arith, has.1, are.count), sym (get_or_default_zero kinds has.0 k has.1) ∙ has.2)

pub kind_below : (keys : List (List ℕ)) (kinds : List ℕ) → AreKinds keys kinds → (b : ℕ) → b < length keys → get_or kinds b 0 < length (representatives kinds keys)
kind_below keys kinds are b h = (shown_counts kinds keys are.ordered (sym are.count) (get_or kinds b 0)).1 (Contains-get_or kinds b 0 (omega (arith, h, are.count)))

-- no two kinds show one key
pub shown_differ : (keys : List (List ℕ)) (kinds : List ℕ) → AreKinds keys kinds → AllPairs ◌≢◌ (representatives kinds keys)
shown_differ keys kinds are = λ i j d low h e.
    let one = shown_box keys kinds are i (omega (arith, low, h)) in
    let two = shown_box keys kinds are j h in
    let at : (k : ℕ) → k < length (representatives kinds keys) → (r : (b : ℕ) × (b < length keys) × (get_or kinds b 0 ≡ k)) → get_or (representatives kinds keys) k d ≡ get_or keys r.0 [] = λ k hk r.
    any_default (representatives kinds keys) k d [] hk ∙ ap (λ q. get_or (representatives kinds keys) q []) (sym r.2) ∙ shows_key keys kinds are r.0 r.1 in
    let same = (are.same one.0 two.0 one.1 two.1).1 (sym (at i (omega (arith, low, h)) one) ∙ e ∙ at j h two) in
    omega (arith, low, same, one.2, two.2)

take_old : (xs : List ℕ) (y b : ℕ) → b ≤ length xs → take b (xs ++ y ∷ []) ≡ take b xs
take_old xs y zero h = refl
take_old [] y (suc b) h = absurd (omega (arith, h))
take_old (x ∷ xs) y (suc b) h = ap (λ zs. x ∷ zs) (take_old xs y b (omega (arith, h)))

-- numbers in order stay so with one that precedes, or the next one
order_more : (kinds : List ℕ) (kind : ℕ) → AreNumberedInOrder kinds → ((k : ℕ) → k < kind → Contains kinds k) → AreNumberedInOrder (kinds ++ kind ∷ [])
order_more kinds kind ordered all = λ b k h low.
    let fits : b ≤ length kinds = omega (arith, h, length_push kinds kind) in
    subst (λ zs. Contains zs k) (sym (take_old kinds kind b fits)) (elim (cases_lt b (length kinds)) [
      | inl there ↦ ordered b k there (omega (arith, low, get_or_append_left kinds (kind ∷ []) 0 b there))
      | inr high ↦
          let e : b ≡ length kinds = omega (arith, fits, high) in
          let has = all k (omega (arith, low, get_or_at kinds kind [] 0 b (sym e))) in
          into_taken kinds has.0 b k (omega (arith, has.1, e)) fits (sym (get_or_default_zero kinds has.0 k has.1) ∙ has.2)
    ])

-- what keys and kinds have at a place, where one more follows both
data OccursAt (keys : List (List ℕ)) (kinds : List ℕ) (key : List ℕ) (kind a : ℕ) : Type 0 where
  Before : a < length keys → get_or (keys ++ key ∷ []) a [] ≡ get_or keys a [] → get_or (kinds ++ kind ∷ []) a 0 ≡ get_or kinds a 0 → OccursAt keys kinds key kind a
  After : get_or (keys ++ key ∷ []) a [] ≡ key → get_or (kinds ++ kind ∷ []) a 0 ≡ kind → OccursAt keys kinds key kind a

occurs_at : (keys : List (List ℕ)) (kinds : List ℕ) (key : List ℕ) (kind a : ℕ) → length kinds ≡ length keys → a < length (keys ++ key ∷ []) → OccursAt keys kinds key kind a
occurs_at keys kinds key kind a len h = elim (cases_lt a (length keys)) [
  | inl low ↦ Before low (get_or_append_left keys (key ∷ []) [] a low) (get_or_append_left kinds (kind ∷ []) 0 a (omega (arith, low, len)))
  | inr high ↦
      let e : a ≡ length keys = omega (arith, h, high, length_push keys key) in
      After (get_or_at keys key [] [] a (sym e)) (get_or_at kinds kind [] 0 a (len ∙ sym e))
]

-- one key more has a kind that goes with those of the others
same_more : (keys : List (List ℕ)) (kinds : List ℕ) (key : List ℕ) (kind : ℕ) → AreKinds keys kinds
    → ((b : ℕ) → b < length keys → (get_or kinds b 0 ≡ kind) ↔ (get_or keys b [] ≡ key))
    → (a b : ℕ) → OccursAt keys kinds key kind a → OccursAt keys kinds key kind b
    → (get_or (kinds ++ kind ∷ []) a 0 ≡ get_or (kinds ++ kind ∷ []) b 0) ↔ (get_or (keys ++ key ∷ []) a [] ≡ get_or (keys ++ key ∷ []) b [])
same_more keys kinds key kind are goes a b (Before la ka qa) (Before lb kb qb) =
    (λ e. ka ∙ (are.same a b la lb).0 (sym qa ∙ e ∙ qb) ∙ sym kb, λ e. qa ∙ (are.same a b la lb).1 (sym ka ∙ e ∙ kb) ∙ sym qb)
same_more keys kinds key kind are goes a b (Before la ka qa) (After kb qb) =
    (λ e. ka ∙ (goes a la).0 (sym qa ∙ e ∙ qb) ∙ sym kb, λ e. qa ∙ (goes a la).1 (sym ka ∙ e ∙ kb) ∙ sym qb)
same_more keys kinds key kind are goes a b (After ka qa) (Before lb kb qb) =
    (λ e. ka ∙ sym ((goes b lb).0 (sym qb ∙ sym e ∙ qa)) ∙ sym kb, λ e. qa ∙ sym ((goes b lb).1 (sym kb ∙ sym e ∙ ka)) ∙ sym qb)
same_more keys kinds key kind are goes a b (After ka qa) (After kb qb) = (λ e. ka ∙ sym kb, λ e. qa ∙ sym qb)

kinds_more : (keys : List (List ℕ)) (kinds : List ℕ) (key : List ℕ) (kind : ℕ) → AreKinds keys kinds → kind ≤ length (representatives kinds keys)
    → ((b : ℕ) → b < length keys → (get_or kinds b 0 ≡ kind) ↔ (get_or keys b [] ≡ key)) → AreKinds (keys ++ key ∷ []) (kinds ++ kind ∷ [])
kinds_more keys kinds key kind are low goes = record {
  count = omega (arith, length_push keys key, length_push kinds kind, are.count);
  same = λ a b ha hb. same_more keys kinds key kind are goes a b (occurs_at keys kinds key kind a are.count ha) (occurs_at keys kinds key kind b are.count hb);
  ordered = order_more kinds kind are.ordered (λ k less. (shown_counts kinds keys are.ordered (sym are.count) k).0 (omega (arith, less, low)));
}

-- a key that a kind shows is of this kind
pub kinds_again : (keys : List (List ℕ)) (kinds : List ℕ) (key : List ℕ) (kind : ℕ) → AreKinds keys kinds → kind < length (representatives kinds keys) → get_or (representatives kinds keys) kind [] ≡ key
    → AreKinds (keys ++ key ∷ []) (kinds ++ kind ∷ [])
kinds_again keys kinds key kind are there shows =
    let r = shown_box keys kinds are kind there in
    let is : get_or keys r.0 [] ≡ key = sym (shows_key keys kinds are r.0 r.1) ∙ ap (λ q. get_or (representatives kinds keys) q []) r.2 ∙ shows in
    kinds_more keys kinds key kind are (omega (arith, there)) (λ b h. (
      λ e. (are.same b r.0 h r.1).0 (e ∙ sym r.2) ∙ is,
      λ e. (are.same b r.0 h r.1).1 (e ∙ sym is) ∙ r.2,
    ))

-- a key that none shows is of the next
pub kinds_next : (keys : List (List ℕ)) (kinds : List ℕ) (key : List ℕ) → AreKinds keys kinds → (Contains (representatives kinds keys) key → ⊥) → AreKinds (keys ++ key ∷ []) (kinds ++ length (representatives kinds keys) ∷ [])
kinds_next keys kinds key are none =
    kinds_more keys kinds key (length (representatives kinds keys)) are (omega arith) (λ b h. (
      λ e. let p = kind_below keys kinds are b h in absurd (omega (arith, p, e)),
      λ e. absurd (none (get_or kinds b 0, kind_below keys kinds are b h, any_default (representatives kinds keys) (get_or kinds b 0) key [] (kind_below keys kinds are b h) ∙ shows_key keys kinds are b h ∙ e)),
    ))

zip_length : {A B : Type 0} (R : A → B → Type 0) (xs : List A) (ys : List B) → AllZip R xs ys → length xs ≡ length ys
zip_length R [] [] all = refl
zip_length R [] (y ∷ ys) all = absurd all
zip_length R (x ∷ xs) [] all = absurd all
zip_length R (x ∷ xs) (y ∷ ys) all = ap suc (zip_length R xs ys all.1)

zip_at : {A B : Type 0} (R : A → B → Type 0) (xs : List A) (ys : List B) (b : ℕ) (d : A) (e : B) → AllZip R xs ys → b < length ys → R (get_or xs b d) (get_or ys b e)
zip_at R [] [] b d e all h = absurd (omega (arith, h))
zip_at R [] (y ∷ ys) b d e all h = absurd all
zip_at R (x ∷ xs) [] b d e all h = absurd all
zip_at R (x ∷ xs) (y ∷ ys) zero d e all h = all.0
zip_at R (x ∷ xs) (y ∷ ys) (suc b) d e all h = zip_at R xs ys b d e all.1 (omega (arith, h))

-- boxes of one module have as many pins, so the kinds of modules fit
pub modules_fit : (texts : List BoxTexts) (boxes : List Pins) (kinds : List ℕ) → PinsGoByModules texts → AllZip NamesPins texts boxes → AreKinds (map (λ t. t.module) texts) kinds → FitKinds kinds boxes
modules_fit texts boxes kinds go named are =
    let none : BoxTexts = record { path = []; «module» = []; ins = []; outs = [] } in
    let len : length texts ≡ length boxes = zip_length NamesPins texts boxes named in
    let keys : length (map (λ (t : BoxTexts). t.module) texts) ≡ length texts = length-map texts (λ (t : BoxTexts). t.module) in
    let at : (b : ℕ) → b < length boxes → NamesPins (get_or texts b none) (box_at boxes b) = λ b h. zip_at NamesPins texts boxes b none (record { ins = []; outs = [] }) named h in
    let same : (a b : ℕ) → a < length boxes → b < length boxes → get_or kinds a 0 ≡ get_or kinds b 0 → (get_or texts a none).module ≡ (get_or texts b none).module = λ a b ha hb e.
    sym (get_or-map (λ (t : BoxTexts). t.module) texts a none [] (omega (arith, ha, len)))
    ∙ (are.same a b (omega (arith, ha, len, keys)) (omega (arith, hb, len, keys))).0 e
    ∙ get_or-map (λ (t : BoxTexts). t.module) texts b none [] (omega (arith, hb, len)) in
    let pins : (a b : ℕ) → a < length boxes → b < length boxes → get_or kinds a 0 ≡ get_or kinds b 0 → ((get_or texts a none).ins ≡ (get_or texts b none).ins) × ((get_or texts a none).outs ≡ (get_or texts b none).outs) = λ a b ha hb e.
    go (get_or texts a none) (get_or texts b none) (Contains-get_or texts a none (omega (arith, ha, len))) (Contains-get_or texts b none (omega (arith, hb, len))) (same a b ha hb e) in
    record {
      count = are.count ∙ keys ∙ len;
      ordered = are.ordered;
      inputs = λ a b ha hb e. sym (at a ha).ins ∙ ap length (pins a b ha hb e).0 ∙ (at b hb).ins;
      outputs = λ a b ha hb e. sym (at a ha).outs ∙ ap length (pins a b ha hb e).1 ∙ (at b hb).outs;
    }
