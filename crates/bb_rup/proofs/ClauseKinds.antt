-- What a clause is where some literals are false: false, a unit clause, or one with two literals that are not false.
use Rattle.std.proofs.Common.{ℕ, ◌<◌, ◌∙◌, ap, sym, length, get_or, take, drop, ◌≡◌, true, false, ◌||◌, List, [], ◌∷◌, All, Any, refl, subst, ◌⊎◌, inl, inr}
use Rattle.std.proofs.lemmas.List.{take-append-drop}
use Rattle.std.proofs.lemmas.List.Elements.{All-nil, All-cons}
use Rattle.std.proofs.lemmas.List.Folds.{list_any-append, list_any_at}
use Rattle.bb_lemmas.proofs.Bits.{or_right, or_left}
use Rattle.bb_lemmas.proofs.Members.{either}
use Rattle.bb_cnf.specs.declared.clauses.Lit.{Lit}
use Rattle.bb_cnf.specs.Clauses.{Literals, literals_of, same_literal}
use Rattle.bb_rup.specs.Propagation.{complement, IsFalseClause, IsUnitClause, HasTwo, IsOpen}
use Rattle.bb_rup.proofs.Literals.{clash, same_literal-itself, not_same, in_cons, in_here, in_there}
use Rattle.bb_rup.proofs.Splits.{any_here, any_later}

abbrev pub Kind : Literals → List Lit → Type 0
Kind f clause = IsFalseClause f clause ⊎ (((l : Lit) × IsUnitClause f clause l) ⊎ HasTwo f clause)

-- with one more literal
module _ (f : Literals) (x : Lit) (xs : List Lit) where
  false_cons : f x ≡ true → IsFalseClause f xs → IsFalseClause f (x ∷ xs)
  false_cons off all m own = by (in_cons x xs m own)
    where
      by : (x ≡ m) ⊎ (literals_of xs m ≡ true) → f m ≡ true
      by (inl is) = subst (λ k. f k ≡ true) is off
      by (inr rest) = all m rest

  unit_first : f x ≡ false → IsFalseClause f xs → IsUnitClause f (x ∷ xs) x
  unit_first free all = record { own = in_here x xs; free = free; others = λ m own. by m (in_cons x xs m own) }
    where
      by : (m : Lit) → (x ≡ m) ⊎ (literals_of xs m ≡ true) → (same_literal x m || f m) ≡ true
      by m (inl is) = or_left (same_literal x m) (f m) (subst (λ k. same_literal x k ≡ true) is (same_literal-itself x))
      by m (inr rest) = or_right (same_literal x m) (f m) (all m rest)

  unit_cons : (l : Lit) → (same_literal l x || f x) ≡ true → IsUnitClause f xs l → IsUnitClause f (x ∷ xs) l
  unit_cons l here unit = record { own = in_there x xs l unit.own; free = unit.free; others = λ m own. by m (in_cons x xs m own) }
    where
      by : (m : Lit) → (x ≡ m) ⊎ (literals_of xs m ≡ true) → (same_literal l m || f m) ≡ true
      by m (inl is) = subst (λ k. (same_literal l k || f k) ≡ true) is here
      by m (inr rest) = unit.others m rest

  two_first : (l : Lit) → same_literal l x ≡ false → f x ≡ false → IsUnitClause f xs l → HasTwo f (x ∷ xs)
  two_first l other free unit = record {
    first = l;
    second = x;
    differ = not_same l x other;
    first_own = in_there x xs l unit.own;
    second_own = in_here x xs;
    first_free = unit.free;
    second_free = free;
  }

  two_cons : HasTwo f xs → HasTwo f (x ∷ xs)
  two_cons two = record {
    first = two.first;
    second = two.second;
    differ = two.differ;
    first_own = in_there x xs two.first two.first_own;
    second_own = in_there x xs two.second two.second_own;
    first_free = two.first_free;
    second_free = two.second_free;
  }

  by_same : (l : Lit) → (same_literal l x ≡ true) ⊎ (same_literal l x ≡ false) → f x ≡ false → IsUnitClause f xs l → Kind f (x ∷ xs)
  by_same l (inl same) free unit = inr (inl (l, unit_cons l (or_left (same_literal l x) (f x) same) unit))
  by_same l (inr other) free unit = inr (inr (two_first l other free unit))

  kind_cons : (f x ≡ true) ⊎ (f x ≡ false) → Kind f xs → Kind f (x ∷ xs)
  kind_cons (inl off) (inl all) = inl (false_cons off all)
  kind_cons (inr free) (inl all) = inr (inl (x, unit_first free all))
  kind_cons (inl off) (inr (inl u)) = inr (inl (u.0, unit_cons u.0 (or_right (same_literal u.0 x) (f x) off) u.1))
  kind_cons (inr free) (inr (inl u)) = by_same u.0 (either (same_literal u.0 x)) free u.1
  kind_cons b (inr (inr two)) = inr (inr (two_cons two))

pub kind : (f : Literals) (clause : List Lit) → Kind f clause
kind f [] = inl (λ m own. clash false own refl)
kind f (x ∷ xs) = kind_cons f x xs (either (f x)) (kind f xs)

-- Of all clauses: one is false, one finds something new, or all are open.
abbrev pub Finds : Literals → List (List Lit) → Lit → Type 0
Finds f clauses l = Any (λ clause. IsUnitClause f clause l) clauses × (f (complement l) ≡ false)

abbrev pub Look : Literals → List (List Lit) → Type 0
Look f clauses = Any (IsFalseClause f) clauses ⊎ (((l : Lit) × Finds f clauses l) ⊎ All (IsOpen f) clauses)

module _ (f : Literals) (c : List Lit) (cs : List (List Lit)) where
  by_unit : (l : Lit) → IsUnitClause f c l → (f (complement l) ≡ true) ⊎ (f (complement l) ≡ false) → All (IsOpen f) cs → Look f (c ∷ cs)
  by_unit l unit (inl known) all =
      inr (inr (All-cons (IsOpen f) c cs (inl (record { literal = l; own = unit.own; free = unit.free; negation = known })) all))
  by_unit l unit (inr new) all = inr (inl (l, (any_here (λ clause. IsUnitClause f clause l) c cs unit, new)))

  look_cons : Kind f c → Look f cs → Look f (c ∷ cs)
  look_cons k (inl any) = inl (any_later (IsFalseClause f) c cs any)
  look_cons k (inr (inl u)) = inr (inl (u.0, (any_later (λ clause. IsUnitClause f clause u.0) c cs u.1.0, u.1.1)))
  look_cons (inl all) (inr (inr rest)) = inl (any_here (IsFalseClause f) c cs all)
  look_cons (inr (inl u)) (inr (inr rest)) = by_unit u.0 u.1 (either (f (complement u.0))) rest
  look_cons (inr (inr two)) (inr (inr rest)) = inr (inr (All-cons (IsOpen f) c cs (inr two) rest))

pub look : (f : Literals) (clauses : List (List Lit)) → Look f clauses
look f [] = inr (inr (All-nil (IsOpen f)))
look f (c ∷ cs) = look_cons f c cs (kind f c) (look f cs)

-- Two literals of a clause that are not false, the first among those of a front, the other after it.
module _ (f : Literals) (clause : List Lit) (k : ℕ) (d : Lit) where
  in_prefix : (l : Lit) → literals_of (take k clause) l ≡ true → literals_of clause l ≡ true
  in_prefix l own =
      ap (λ xs. literals_of xs l) (sym (take-append-drop k clause)) ∙ list_any-append (λ m. same_literal m l) (take k clause) (drop k clause)
      ∙ or_left (literals_of (take k clause) l) (literals_of (drop k clause) l) own

  pub two_at : (l : Lit) → k < length clause → IsUnitClause f (take k clause) l → same_literal l (get_or clause k d) ≡ false → f (get_or clause k d) ≡ false
      → HasTwo f clause
  two_at l within unit other free = record {
    first = l;
    second = get_or clause k d;
    differ = not_same l (get_or clause k d) other;
    first_own = in_prefix l unit.own;
    second_own = list_any_at (λ m. same_literal m (get_or clause k d)) clause k d within (same_literal-itself (get_or clause k d));
    first_free = unit.free;
    second_free = free;
  }
