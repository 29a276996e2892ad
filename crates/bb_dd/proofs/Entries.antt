-- what a put keeps of the entries of the cache
use Rattle.std.proofs.Common.{◌≡◌, ◌≤◌, ◌<◌, ℕ, ◌+◌, ◌-◌, Bool, true, false, List, [], ◌∷◌, length, take, Option, Some, None, Result, Ok, Err, refl, sym, ◌∙◌, subst, inl, inr, arith, cond}
use Rattle.std.specs.Prelude.{Contains, OnOk, OnErr}
use Rattle.std.specs.Map.{lookup_entry, remove_entry}
use Rattle.std.specs.Option.{option_map_or}
use Rattle.std.proofs.lemmas.List.{length-take}
use Rattle.lru.specs.LruCache.{LruCache, lru_cache, put_entries}
use Rattle.lru.proofs.CallerLemmas.{Contains-put_entries}
use Rattle.bb_uniq.specs.declared.store.Ref.{Ref}
use Rattle.bb_dd.specs.declared.key.Key.{Key}
use Rattle.bb_dd.specs.declared.key.Operation.{Operation}
use Rattle.bb_dd.specs.declared.key.Key.TheVariants.{Apply, Quantify}
use Rattle.bb_dd.specs.Inside.Results.{KeepsEntries}

-- where an entry is found, one less is left without it
length-remove : (test : Key → Bool) (es : List (Key × Ref)) (e : Key × Ref) → lookup_entry test es ≡ Some e → length (remove_entry test es) + 1 ≡ length es
length-remove test [] e found = absurd (let f : None ≡ Some e = found in cc)
length-remove test (x ∷ es) e found = by_test (test x.0) found (length-remove test es e)
  where
    by_test : (b : Bool) → cond b (Some x) (lookup_entry test es) ≡ Some e → (lookup_entry test es ≡ Some e → length (remove_entry test es) + 1 ≡ length es) → length (cond b es (x ∷ remove_entry test es)) + 1 ≡ length (x ∷ es)
    by_test true f again = omega arith
    by_test false f again = let l = again f in omega (arith, l)

-- a cache within its capacity has no fewer entries after a put
pub length_put : (eq : Key → Key → Bool) (cache : LruCache Key Ref) (key : Key) (r : Ref) → length cache.entries ≤ cache.cap → 0 < cache.cap → length cache.entries ≤ length (put_entries eq cache key r)
length_put eq cache key r small positive = by_entry (lookup_entry (eq key) cache.entries) refl
  where
    by_entry : (o : Option (Key × Ref)) → lookup_entry (eq key) cache.entries ≡ o →
        length cache.entries ≤ length (option_map_or (λ e. (e.0, r) ∷ remove_entry (eq key) cache.entries) o ((key, r) ∷ take (cache.cap - 1) cache.entries))
    by_entry None e = let l = length-take (cache.cap - 1) cache.entries in omega (arith, l, small, positive)
    by_entry (Some x) e = let l = length-remove (eq key) cache.entries x e in omega (arith, l)

-- an operation's entry is none of a quantifier
pub quantified_put : (eq : Key → Key → Bool) → ((a b : Key) → eq a b ≡ true → a ≡ b) → (cache : LruCache Key Ref) (key : Key) (op : Operation) (i j k : Ref) → key ≡ Apply op i j k → (r : Ref) (all : Bool) (f : Ref) (v : ℕ) (q : Ref) →
    Contains (put_entries eq cache key r) (Quantify all f v, q) → Contains cache.entries (Quantify all f v, q)
quantified_put eq same cache key op i j k is r all f v q c =
    elim (Contains-put_entries eq cache key r (Quantify all f v, q) c) [
      | inl before ↦ before
      | inr put ↦
          absurd (elim put.1 [
            | inl e ↦ other (sym is ∙ sym e)
            | inr e ↦ other (sym is ∙ same key (Quantify all f v) e.2)
          ])
    ]
  where
    other : Apply op i j k ≡ Quantify all f v → ⊥
    other e = cc

pub keeps_self : (es : List (Key × Ref)) → KeepsEntries es es
keeps_self es = record { no_fewer = omega arith; quantified = λ all f v r c. c }

pub keeps_then : (a b c : List (Key × Ref)) → KeepsEntries a b → KeepsEntries b c → KeepsEntries a c
keeps_then a b c h k = record { no_fewer = omega (arith, h.no_fewer, k.no_fewer); quantified = λ all f v r e. h.quantified all f v r (k.quantified all f v r e) }

-- the same, whether the put found memory or not
pub no_fewer_after : {T E : Type 0} (eq : Key → Key → Bool) (old new : LruCache Key Ref) (key : Key) (r : Ref) (o : Result T E) → length old.entries ≤ old.cap → 0 < old.cap →
    OnOk o (new ≡ lru_cache (put_entries eq old key r) old.cap) → OnErr o (new ≡ old) → length old.entries ≤ length new.entries
no_fewer_after eq old new key r (Ok x) small positive put kept =
    subst (λ (k : LruCache Key Ref). length old.entries ≤ length k.entries) (sym put) (length_put eq old key r small positive)
no_fewer_after eq old new key r (Err x) small positive put kept = subst (λ (k : LruCache Key Ref). length old.entries ≤ length k.entries) (sym kept) (omega arith)
