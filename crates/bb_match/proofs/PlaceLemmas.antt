-- The places of texts: how an index grows by one, and what it says of a text.
use Rattle.std.proofs.Common.{◌≡◌, ℕ, ◌+◌, ◌<◌, Bool, true, false, cond, List, [], take, length, get_or, All, Contains, Option, Some, None, is_some, true≢false, unwrap_or, refl, sym, ap, subst, ◌∙◌, arith}
use Rattle.std.specs.Prelude.{IsSome, slice_get}
use Rattle.std.specs.Map.{lookup}
use Rattle.std.proofs.lemmas.List.Elements.{All-contains, All-weaker}
use Rattle.std.proofs.lemmas.Option.{same_Some, slice_get-get_or, slice_get_within, get_or_from_slice_get}
use Rattle.std.proofs.lemmas.Slice.Eq.{bytes_eq-Decides}
use Rattle.bb_bits.specs.Names.{same_name}
use Rattle.bb_match.specs.Inside.Places.{ArePlaces, text_place}
use Rattle.bb_match.specs.Refusals.{IsMissing}
use Rattle.bb_match.proofs.Loops.{all_more}
use Rattle.bb_match.proofs.RefusalLaws.{none_is_not_some}

-- the places of the first texts of a list
pub record ArePlacesSo (texts : List (List ℕ)) (n : ℕ) (entries : List (List ℕ × ℕ)) : Type 0 where
  pub right : (text : List ℕ) (place : ℕ) → lookup (same_name text) entries ≡ Some place → slice_get texts place ≡ Some text
  pub whole : All (λ text. IsSome (lookup (same_name text) entries)) (take n texts)

-- one text has this place in the new index; of the others it says what the old one said
abbrev pub Puts : List (List ℕ × ℕ) → List (List ℕ × ℕ) → List ℕ → ℕ → Type 0
Puts old new x i = (q : List ℕ) → lookup (same_name q) new ≡ cond (same_name x q) (Some i) (lookup (same_name q) old)

right_more : (texts : List (List ℕ)) (old new : List (List ℕ × ℕ)) (x : List ℕ) (i : ℕ) → i < length texts → x ≡ get_or texts i x → Puts old new x i
    → ((text : List ℕ) (place : ℕ) → lookup (same_name text) old ≡ Some place → slice_get texts place ≡ Some text)
    → (text : List ℕ) (place : ℕ) → lookup (same_name text) new ≡ Some place → slice_get texts place ≡ Some text
right_more texts old new x i within at put right text place found = by (same_name x text) refl (sym (put text) ∙ found)
  where
    by : (b : Bool) → same_name x text ≡ b → cond b (Some i) (lookup (same_name text) old) ≡ Some place → slice_get texts place ≡ Some text
    by true e h = ap (slice_get texts) (sym (same_Some i place h)) ∙ slice_get-get_or texts i x within ∙ ap Some (sym at ∙ (bytes_eq-Decides x text).0 e)
    by false e h = right text place h

found_more : (old new : List (List ℕ × ℕ)) (x : List ℕ) (i : ℕ) → Puts old new x i → (q : List ℕ) → IsSome (lookup (same_name q) old) → IsSome (lookup (same_name q) new)
found_more old new x i put q some = ap is_some (put q) ∙ by (same_name x q)
  where
    by : (b : Bool) → is_some (cond b (Some i) (lookup (same_name q) old)) ≡ true
    by true = refl
    by false = some

found_here : (old new : List (List ℕ × ℕ)) (x : List ℕ) (i : ℕ) → Puts old new x i → IsSome (lookup (same_name x) new)
found_here old new x i put = ap is_some (put x) ∙ ap (λ b. is_some (cond b (Some i) (lookup (same_name x) old))) ((bytes_eq-Decides x x).1 refl)

pub places_more : (texts : List (List ℕ)) (old new : List (List ℕ × ℕ)) (x : List ℕ) (i : ℕ) → i < length texts → x ≡ get_or texts i x → Puts old new x i → ArePlacesSo texts i old → ArePlacesSo texts (i + 1) new
places_more texts old new x i within at put so = record {
  right = right_more texts old new x i within at put so.right;
  whole = all_more (λ text. IsSome (lookup (same_name text) new)) texts i x within at
      (All-weaker (λ text. IsSome (lookup (same_name text) old)) (λ text. IsSome (lookup (same_name text) new)) (found_more old new x i put) (take i texts) so.whole) (found_here old new x i put);
}

pub places_begin : (texts : List (List ℕ)) (entries : List (List ℕ × ℕ)) → entries ≡ [] → ArePlacesSo texts 0 entries
places_begin texts entries e = record {
  right = λ text place found. absurd (never (lookup (same_name text) []) place refl (sym (ap (lookup (same_name text)) e) ∙ found));
  whole = λ k d lt. absurd (omega (arith, lt));
}
  where
    never : (o : Option ℕ) (place : ℕ) → o ≡ None → o ≡ Some place → ⊥
    never o place e h = none_is_not_some o e (ap is_some h)

pub places_end : (texts : List (List ℕ)) (n : ℕ) (entries : List (List ℕ × ℕ)) → take n texts ≡ texts → ArePlacesSo texts n entries → ArePlaces texts entries
places_end texts n entries e so = record { right = so.right; whole = subst (All (λ text. IsSome (lookup (same_name text) entries))) e so.whole }

-- what an index says of a text

pub occurs_at : {A : Type 0} (xs : List A) (x : A) (k : ℕ) → slice_get xs k ≡ Some x → Contains xs x
occurs_at xs x k e = (k, slice_get_within xs k x e, get_or_from_slice_get xs k x x e)

pub missing_where_none : (others : List (List ℕ)) (entries : List (List ℕ × ℕ)) (n : List ℕ) → ArePlaces others entries → is_some (lookup (same_name n) entries) ≡ false → IsMissing others n
missing_where_none others entries n places none has = true≢false (sym (All-contains (λ text. IsSome (lookup (same_name text) entries)) others n places.whole has) ∙ none)

pub there_where_some : (others : List (List ℕ)) (entries : List (List ℕ × ℕ)) (n : List ℕ) → ArePlaces others entries → IsSome (lookup (same_name n) entries) → Contains others n
there_where_some others entries n places some = by (lookup (same_name n) entries) refl some
  where
    by : (o : Option ℕ) → lookup (same_name n) entries ≡ o → IsSome o → Contains others n
    by (Some k) e h = occurs_at others n k (places.right n k e)
    by None e h = absurd (true≢false (sym h))

pub place_right : (others : List (List ℕ)) (entries : List (List ℕ × ℕ)) (n : List ℕ) → ArePlaces others entries → Contains others n → slice_get others (text_place entries n) ≡ Some n
place_right others entries n places has = by (lookup (same_name n) entries) refl (All-contains (λ text. IsSome (lookup (same_name text) entries)) others n places.whole has)
  where
    by : (o : Option ℕ) → lookup (same_name n) entries ≡ o → IsSome o → slice_get others (unwrap_or o 0) ≡ Some n
    by (Some k) e h = places.right n k e
    by None e h = absurd (true≢false (sym h))

-- places are counted in as many bits as the length of the list
pub place_fits : (others : List (List ℕ)) (entries : List (List ℕ × ℕ)) (base bound : ℕ) → ArePlaces others entries → base + length others < bound → (n : List ℕ) → base + text_place entries n < bound
place_fits others entries base bound places fits n = by (lookup (same_name n) entries) refl
  where
    by : (o : Option ℕ) → lookup (same_name n) entries ≡ o → base + unwrap_or o 0 < bound
    by (Some k) e = omega (arith, fits, slice_get_within others k n (places.right n k e))
    by None e = omega (arith, fits)
