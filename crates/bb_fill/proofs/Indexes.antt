-- How an index of texts grows, text by text.
use Rattle.std.proofs.Common.{◌≡◌, ◌∙◌, ◌⊎◌, inl, inr, ℕ, ◌+◌, ◌<◌, ◌≤◌, Bool, true, false, true≢false, cond, List, [], length, Contains, Option, Some, None, is_some, refl, sym, ap, subst, arith}
use Rattle.std.specs.Prelude.{IsSome, IfSome, IfNone, MatchBool}
use Rattle.std.specs.Map.{lookup}
use Rattle.std.proofs.lemmas.Option.{same_Some}
use Rattle.std.proofs.lemmas.List.{get_or_default, length-map}
use Rattle.std.proofs.lemmas.List.Folds.{list_any_at}
use Rattle.bb_bits.specs.Earlier.{has_name}
use Rattle.bb_bits.specs.Names.{same_name}
use Rattle.bb_lemmas.proofs.Members.{any_there}
use Rattle.bb_lemmas.proofs.Names.{same_equal, same_self}
use Rattle.bb_lemmas.proofs.Orders.{less_or_not}
use Rattle.bb_net.specs.Flats.{FlatNet, HasDistinctNames}
use Rattle.bb_net.specs.CutPoints.{state_texts}
use Rattle.bb_fill.specs.Clashes.{register_text}
use Rattle.bb_fill.specs.Filled.{output_text}
use Rattle.bb_fill.specs.Inside.Indexes.{IsFound, IsIndexUpTo}

-- one text has this number in the new index; of the others it says what the old one said
abbrev pub Puts : List (List ℕ × ℕ) → List (List ℕ × ℕ) → List ℕ → ℕ → Type 0
Puts old new x i = (q : List ℕ) → lookup (same_name q) new ≡ cond (same_name x q) (Some i) (lookup (same_name q) old)

found_more : (old new : List (List ℕ × ℕ)) (x : List ℕ) (i : ℕ) → Puts old new x i → (q : List ℕ) → IsSome (lookup (same_name q) old) → IsSome (lookup (same_name q) new)
found_more old new x i put q some = ap is_some (put q) ∙ by (same_name x q)
  where
    by : (b : Bool) → is_some (cond b (Some i) (lookup (same_name q) old)) ≡ true
    by true = refl
    by false = some

found_here : (old new : List (List ℕ × ℕ)) (x : List ℕ) (i : ℕ) → Puts old new x i → lookup (same_name x) new ≡ Some i
found_here old new x i put = put x ∙ ap (λ b. cond b (Some i) (lookup (same_name x) old)) (same_self x)

none_found : {P : Type 0} (text : List ℕ) (k : ℕ) (entries : List (List ℕ × ℕ)) → entries ≡ [] → lookup (same_name text) entries ≡ Some k → P
none_found text k entries empty found = absurd (true≢false (sym (sym (ap is_some (ap (lookup (same_name text)) empty)) ∙ ap is_some found)))

-- so many outputs are in the index
pub record HasOutputs (f : FlatNet) (count : ℕ) (entries : List (List ℕ × ℕ)) : Type 0 where
  pub outputs : (o : ℕ) → o < count → IsSome (lookup (same_name (output_text f o)) entries)
  pub right : (text : List ℕ) (k : ℕ) → lookup (same_name text) entries ≡ Some k → (k ≡ length f.regs) × Contains f.outs text

pub no_outputs : (f : FlatNet) (entries : List (List ℕ × ℕ)) → entries ≡ [] → HasOutputs f 0 entries
no_outputs f entries empty = record { outputs = λ o lt. absurd (omega (arith, lt)); right = λ text k found. none_found text k entries empty found }

pub output_more : (f : FlatNet) (old new : List (List ℕ × ℕ)) (o n : ℕ) → o < length f.outs → n ≡ length f.regs → Puts old new (output_text f o) n → HasOutputs f o old → HasOutputs f (o + 1) new
output_more f old new o n within is put has = record { outputs = outputs; right = right }
  where
    outputs : (k : ℕ) → k < o + 1 → IsSome (lookup (same_name (output_text f k)) new)
    outputs k lt = by (less_or_not k o)
      where
        by : (k < o) ⊎ (o ≤ k) → IsSome (lookup (same_name (output_text f k)) new)
        by (inl below) = found_more old new (output_text f o) n put (output_text f k) (has.outputs k below)
        by (inr past) = let same : o ≡ k = omega (arith, past, lt) in subst (λ j. IsSome (lookup (same_name (output_text f j)) new)) same (ap is_some (found_here old new (output_text f o) n put))

    right : (text : List ℕ) (k : ℕ) → lookup (same_name text) new ≡ Some k → (k ≡ length f.regs) × Contains f.outs text
    right text k found = by (same_name (output_text f o) text) refl (sym (put text) ∙ found)
      where
        by : (b : Bool) → same_name (output_text f o) text ≡ b → cond b (Some n) (lookup (same_name text) old) ≡ Some k → (k ≡ length f.regs) × Contains f.outs text
        by true e h = (sym (same_Some n k h) ∙ is, (o, within, get_or_default f.outs o text [] within ∙ same_equal (output_text f o) text e))
        by false e h = has.right text k h

pub all_outputs : (f : FlatNet) (o : ℕ) (entries : List (List ℕ × ℕ)) → o ≡ length f.outs → HasOutputs f o entries → IsIndexUpTo f 0 entries
all_outputs f o entries all has = record {
  registers = λ r lt. absurd (omega (arith, lt));
  outputs = λ text has_text. subst (λ t. IsSome (lookup (same_name t) entries)) (get_or_default f.outs has_text.0 [] text has_text.1 ∙ has_text.2) (has.outputs has_text.0 (omega (arith, has_text.1, all)));
  right = λ text k found. inr (has.right text k found);
}

-- one register more
pub register_more : (f : FlatNet) (old new : List (List ℕ × ℕ)) (r : ℕ) → HasDistinctNames f → r < length f.regs → Puts old new (register_text f r) r → IsIndexUpTo f r old → IsIndexUpTo f (r + 1) new
register_more f old new r apart within put index = record { registers = registers; outputs = λ text has. found_more old new (register_text f r) r put text (index.outputs text has); right = right }
  where
    registers : (k : ℕ) → k < r + 1 → lookup (same_name (register_text f k)) new ≡ Some k
    registers k lt = by (less_or_not k r)
      where
        other : k < r → (b : Bool) → same_name (register_text f r) (register_text f k) ≡ b → cond b (Some r) (lookup (same_name (register_text f k)) old) ≡ Some k
        other below true e = absurd (apart.regs k r [] below (omega (arith, within, length-map f.regs (λ q. q.text))) (sym (same_equal (register_text f r) (register_text f k) e)))
        other below false e = index.registers k below

        by : (k < r) ⊎ (r ≤ k) → lookup (same_name (register_text f k)) new ≡ Some k
        by (inl below) = put (register_text f k) ∙ other below (same_name (register_text f r) (register_text f k)) refl
        by (inr past) = let same : r ≡ k = omega (arith, past, lt) in subst (λ j. lookup (same_name (register_text f j)) new ≡ Some j) same (found_here old new (register_text f r) r put)

    right : (text : List ℕ) (k : ℕ) → lookup (same_name text) new ≡ Some k → IsFound f (r + 1) text k
    right text k found = by (same_name (register_text f r) text) refl (sym (put text) ∙ found)
      where
        more : IsFound f r text k → IsFound f (r + 1) text k
        more (inl h) = inl (omega (arith, h.0), h.1)
        more (inr h) = inr h

        by : (b : Bool) → same_name (register_text f r) text ≡ b → cond b (Some r) (lookup (same_name text) old) ≡ Some k → IsFound f (r + 1) text k
        by true e h = let is = same_Some r k h in inl (omega (arith, is), sym (same_equal (register_text f r) text e) ∙ ap (register_text f) is)
        by false e h = more (index.right text k h)

-- what the index says of a text

not_here : (o : Option ℕ) (k : ℕ) → is_some o ≡ false → o ≡ Some k → ⊥
not_here o k none e = true≢false (sym (ap is_some e) ∙ none)

pub taken : (f : FlatNet) (entries : List (List ℕ × ℕ)) (text : List ℕ) (b : Bool) → IsIndexUpTo f (length f.regs) entries → b ≡ is_some (lookup (same_name text) entries)
    → MatchBool b (Contains (state_texts f) text ⊎ Contains f.outs text) ((Contains (state_texts f) text → ⊥) × (Contains f.outs text → ⊥))
taken f entries text b index is = subst (λ b. MatchBool b (Contains (state_texts f) text ⊎ Contains f.outs text) ((Contains (state_texts f) text → ⊥) × (Contains f.outs text → ⊥))) (sym is) (by (lookup (same_name text) entries) refl)
  where
    here : (k : ℕ) → IsFound f (length f.regs) text k → Contains (state_texts f) text ⊎ Contains f.outs text
    here k (inl h) = let within : k < length (state_texts f) = omega (arith, h.0, length-map f.regs (λ q. q.text)) in inl (k, within, get_or_default (state_texts f) k text [] within ∙ sym h.1)
    here k (inr h) = inr h.1

    by : (o : Option ℕ) → lookup (same_name text) entries ≡ o → MatchBool (is_some o) (Contains (state_texts f) text ⊎ Contains f.outs text) ((Contains (state_texts f) text → ⊥) × (Contains f.outs text → ⊥))
    by (Some k) e = here k (index.right text k e)
    by None e = (
      λ has.
          let at : register_text f has.0 ≡ text = get_or_default (state_texts f) has.0 [] text has.1 ∙ has.2 in
          not_here (lookup (same_name text) entries) has.0 (ap is_some e) (subst (λ t. lookup (same_name t) entries ≡ Some has.0) at (index.registers has.0 (omega (arith, has.1, length-map f.regs (λ q. q.text))))),
      λ has. true≢false (sym (index.outputs text has) ∙ ap is_some e),
    )

pub register_named : (f : FlatNet) (text : List ℕ) (o : Option ℕ) → IfSome o (λ r. (r < length f.regs) × (text ≡ register_text f r)) → IfNone o ((r : ℕ) → r < length f.regs → text ≡ register_text f r → ⊥)
    → is_some o ≡ has_name text (state_texts f)
register_named f text (Some r) some none =
    sym (list_any_at (same_name text) (state_texts f) r [] (omega (arith, some.0, length-map f.regs (λ q. q.text))) (subst (λ t. same_name text t ≡ true) some.1 (same_self text)))
register_named f text None some none = by (has_name text (state_texts f)) refl
  where
    by : (b : Bool) → has_name text (state_texts f) ≡ b → false ≡ b
    by false e = refl
    by true e =
        let there = any_there (same_name text) (state_texts f) e in
        let has = there.1 in
        absurd (none has.0 (omega (arith, has.1, length-map f.regs (λ q. q.text))) (same_equal text there.0 there.2 ∙ sym (get_or_default (state_texts f) has.0 [] there.0 has.1 ∙ has.2)))
