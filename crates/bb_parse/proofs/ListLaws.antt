-- What is read is in the grammar, and what is in the grammar is read: for lists, from the same of their members.
use Rattle.std.proofs.Common.{◌≡◌, ℕ, zero, suc, ◌<◌, ◌≤◌, List, [], ◌∷◌, Some, refl, ap, arith, length, IfSome}
use Rattle.bb_lex.specs.declared.mark.Mark.TheVariants.{Comma}
use Rattle.bb_parse.specs.Symbols.{Symbol}
use Rattle.bb_parse.specs.Lists.{Rule, IsMore, IsList}
use Rattle.bb_parse.specs.Inside.Symbols.{is_next, after}
use Rattle.bb_parse.specs.Inside.Steps.{Read, read_more, read_list}
use Rattle.bb_parse.proofs.Marks.{next_is, rank_next, no_comma}
use Rattle.bb_parse.proofs.Parts.{and_then, and_so, either_way, after_prefix}

-- what is read is of the rule
abbrev pub Sound : {A : Type 0} → Rule A → (List Symbol → Read A) → Type 0
Sound is read = (ts : List Symbol) → IfSome (read ts) (λ x. is ts x.0 x.1)

-- what is of the rule is read and takes a symbol, where what comes next does not go on with it
abbrev pub Complete : {A : Type 0} → ℕ → Rule A → (List Symbol → Read A) → Type 0
Complete {A} k is read = (ts : List Symbol) (x : A) (rest : List Symbol) → is ts x rest → k < rank_next rest → (read ts ≡ Some (x, rest)) × (length rest < length ts)

module _ {A : Type 0} (is : Rule A) (read : List Symbol → Read A) where
  pub more_sound : Sound is read → (n : ℕ) → Sound (IsMore is) (read_more read n)
  more_sound s zero ts = refl
  more_sound s (suc n) ts =
      let P : List A × List Symbol → Type 0 = λ xs. IsMore is ts xs.0 xs.1 in
      either_way (is_next Comma ts) _ _ P
      (λ h. and_then (read (after ts)) _ (λ x. is (after ts) x.0 x.1) P (s (after ts))
      (λ x p. after_prefix x.0 (read_more read n x.1) P (and_so (read_more read n x.1) (λ xs. IsMore is x.1 xs.0 xs.1) (λ xs. IsMore is ts (x.0 ∷ xs.0) xs.1) (more_sound s n x.1)
      (λ xs q. (after ts, x.1, next_is Comma ts h, p, q)))))
      (λ h. refl)

  pub list_sound : Sound is read → Sound (IsList is) (read_list read)
  list_sound s ts =
      let P : List A × List Symbol → Type 0 = λ xs. IsList is ts xs.0 xs.1 in
      and_then (read ts) _ (λ x. is ts x.0 x.1) P (s ts)
      (λ x p. after_prefix x.0 (read_more read (length x.1) x.1) P (and_so (read_more read (length x.1) x.1) (λ xs. IsMore is x.1 xs.0 xs.1) (λ xs. IsList is ts (x.0 ∷ xs.0) xs.1) (more_sound s (length x.1) x.1)
      (λ xs q. (x.1, p, q))))

  -- a comma or the end of the list comes after a member
  pub more_stops : (ts : List Symbol) (xs : List A) (rest : List Symbol) → IsMore is ts xs rest → 12 < rank_next rest → 11 < rank_next ts
  more_stops ts [] rest p h = rw p (omega arith)
  more_stops ts (x ∷ xs) rest p h = rw p.2 (omega arith)

  pub more_complete : Complete 11 is read → (ts : List Symbol) (xs : List A) (rest : List Symbol) (n : ℕ) → IsMore is ts xs rest → 12 < rank_next rest → length ts ≤ n
      → (read_more read n ts ≡ Some (xs, rest)) × (length rest ≤ length ts)
  more_complete c ts [] rest zero p h le = (ap (λ z. Some ([], z)) p, omega (arith, ap length p))
  more_complete c ts [] rest (suc n) p h le = (rw (p, no_comma rest h) refl, omega (arith, ap length p))
  more_complete c ts (x ∷ xs) rest zero p h le = absurd (omega (arith, ap length p.2))
  more_complete c ts (x ∷ xs) rest (suc n) p h le =
      let one = c p.0 x p.1 p.3 (more_stops p.1 xs rest p.4 h) in
      let le' : length p.1 ≤ n = omega (arith, ap length p.2, one.1) in
      let others = more_complete c p.1 xs rest n p.4 h le' in
      (rw (p.2, one.0, others.0) refl, omega (arith, ap length p.2, one.1, others.1))

  pub list_complete : Complete 11 is read → Complete 12 (IsList is) (read_list read)
  list_complete c ts [] rest p h = elim p [ ]
  list_complete c ts (x ∷ xs) rest p h =
      let one = c ts x p.0 p.1 (more_stops p.0 xs rest p.2 h) in
      let others = more_complete c p.0 xs rest (length p.0) p.2 h (omega arith) in
      (rw (one.0, others.0) refl, omega (arith, one.1, others.1))
