-- Words that are called alike are one word.
use Rattle.std.proofs.Common.{◌≡◌, ◌∙◌, ◌⊎◌, inl, inr, ℕ, zero, suc, ◌+◌, ◌^◌, ◌<◌, ◌≤◌, ◌%◌, max, List, [], ◌∷◌, ◌++◌, length, map, drop, get_or, replicate, Contains, Some, is_some, true≢false, codes, sym, ap, arith}
use Rattle.std.specs.Prelude.{decimal}
use Rattle.std.proofs.lemmas.Fmt.{decimal_by_steps, decimal_injective}
use Rattle.std.proofs.lemmas.List.{append_assoc, get_or_append_left, length-append}
use Rattle.std.proofs.lemmas.Option.{same_Some}
use Rattle.bb_lemmas.proofs.Members.{contains_cases}
use Rattle.bb_net.specs.Flats.{FlatNet}
use Rattle.bb_fill.specs.Words.{NetWord, Bit, Named, CellNet, ChoiceNet, maximum, leading, stem_of, texts_of}
use Rattle.bb_fill.specs.Laws.{IsWordOf, WordsAreApart, identifier}

leading_run : (n : ℕ) (rest : List ℕ) → n ≤ leading (replicate n 95 ++ rest)
leading_run zero rest = omega arith
leading_run (suc n) rest = let more = leading_run n rest in omega (arith, more)

greatest_of : (texts : List (List ℕ)) (text : List ℕ) → Contains texts text → leading text ≤ maximum (map leading texts)
greatest_of [] text has = absurd (omega (arith, has.1))
greatest_of (t ∷ texts) text has = by (contains_cases t texts text has) (greatest_of texts text)
  where
    by : (t ≡ text) ⊎ Contains texts text → (Contains texts text → leading text ≤ maximum (map leading texts)) → leading text ≤ max (leading t) (maximum (map leading texts))
    by (inl is) rest = let same : leading t ≡ leading text = ap leading is in omega (arith, same)
    by (inr more) rest = let below = rest more in omega (arith, below)

-- no text begins as nets do
not_net : (f : FlatNet) (text rest : List ℕ) → Contains (texts_of f) text → text ≡ stem_of f ++ rest → ⊥
not_net f text rest has is =
    let n = maximum (map leading (texts_of f)) in
    let long : leading text ≡ leading (replicate (n + 1) 95 ++ rest) = ap leading is in
    omega (arith, greatest_of (texts_of f) text has, leading_run (n + 1) rest, long)

cancel : (xs ys zs : List ℕ) → xs ++ ys ≡ xs ++ zs → ys ≡ zs
cancel [] ys zs e = e
cancel (x ∷ xs) ys zs e = cancel xs ys zs (ap (drop 1) e)

-- a number begins with a digit
abbrev BeginsLow : ℕ → List ℕ → Type 0
BeginsLow n ds = (0 < length ds) × (get_or ds 0 0 ≤ 57)

digit_first : (n : ℕ) → n < 2 ^ 64 → BeginsLow n (decimal n)
digit_first n small = decimal_by_steps BeginsLow (λ n lt. (omega arith, omega (arith, lt))) (λ n ds le rest. (omega (arith, rest.0, length-append ds ((48 + n % 10) ∷ [])), omega (arith, rest.1, get_or_append_left ds ((48 + n % 10) ∷ []) 0 0 rest.0))) n small

not_choice : (stem : List ℕ) (m n : ℕ) → m < 2 ^ 64 → stem ++ decimal m ≡ stem ++ codes "t" ++ decimal n → ⊥
not_choice stem m n small e =
    let same : decimal m ≡ codes "t" ++ decimal n = cancel stem (decimal m) (codes "t" ++ decimal n) (e ∙ append_assoc stem (codes "t") (decimal n)) in
    let first : get_or (decimal m) 0 0 ≡ 116 = ap (λ l. get_or l 0 0) same in
    omega (arith, first, (digit_first m small).1)

apart : (f : FlatNet) (one other : NetWord) (name : List ℕ) → IsWordOf f one → IsWordOf f other → identifier (stem_of f) one ≡ Some name → identifier (stem_of f) other ≡ Some name → one ≡ other
apart f (Bit b) other name p q e h = absurd (true≢false (sym (ap is_some e)))
apart f one (Bit b) name p q e h = absurd (true≢false (sym (ap is_some h)))
apart f (Named a) (Named b) name p q e h = ap Named (same_Some a name e ∙ sym (same_Some b name h))
apart f (Named a) (CellNet n) name p q e h = absurd (not_net f a (decimal n) p (same_Some a name e ∙ sym (same_Some (stem_of f ++ decimal n) name h)))
apart f (Named a) (ChoiceNet n) name p q e h =
    absurd (not_net f a (codes "t" ++ decimal n) p (same_Some a name e ∙ sym (same_Some (stem_of f ++ codes "t" ++ decimal n) name h) ∙ append_assoc (stem_of f) (codes "t") (decimal n)))
apart f (CellNet n) (Named a) name p q e h = absurd (not_net f a (decimal n) q (same_Some a name h ∙ sym (same_Some (stem_of f ++ decimal n) name e)))
apart f (ChoiceNet n) (Named a) name p q e h =
    absurd (not_net f a (codes "t" ++ decimal n) q (same_Some a name h ∙ sym (same_Some (stem_of f ++ codes "t" ++ decimal n) name e) ∙ append_assoc (stem_of f) (codes "t") (decimal n)))
apart f (CellNet m) (CellNet n) name p q e h =
    ap CellNet (decimal_injective m n p q (cancel (stem_of f) (decimal m) (decimal n) (same_Some (stem_of f ++ decimal m) name e ∙ sym (same_Some (stem_of f ++ decimal n) name h))))
apart f (ChoiceNet m) (ChoiceNet n) name p q e h =
    ap ChoiceNet (decimal_injective m n p q (cancel (stem_of f ++ codes "t") (decimal m) (decimal n) (same_Some (stem_of f ++ codes "t" ++ decimal m) name e ∙ sym (same_Some (stem_of f ++ codes "t" ++ decimal n) name h))))
apart f (CellNet m) (ChoiceNet n) name p q e h = absurd (not_choice (stem_of f) m n p (same_Some (stem_of f ++ decimal m) name e ∙ sym (same_Some (stem_of f ++ codes "t" ++ decimal n) name h)))
apart f (ChoiceNet m) (CellNet n) name p q e h = absurd (not_choice (stem_of f) n m q (same_Some (stem_of f ++ decimal n) name h ∙ sym (same_Some (stem_of f ++ codes "t" ++ decimal m) name e)))

pub words_are_apart : WordsAreApart
words_are_apart f one other name p q e h = apart f one other name p q e h
