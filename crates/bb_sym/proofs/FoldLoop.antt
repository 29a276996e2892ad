-- the disjunction of functions, one after another
use Rattle.std.proofs.Common.{◌≡◌, ◌<◌, ℕ, ◌+◌, Bool, true, false, ◌||◌, List, [], ◌∷◌, length, map, refl, sym, ap, ap₂, ◌∙◌, subst, arith}
use Rattle.std.specs.List.{list_any, range_with_len}
use Rattle.std.proofs.lemmas.List.Folds.{list_any-append}
use Rattle.std.proofs.lemmas.Simd.{map-map}
use Rattle.bb_lemmas.proofs.Ranges.{range_last_from_zero}
use Rattle.bb_bits.specs.Truth.{joined_tables}
use Rattle.bb_uniq.specs.declared.store.Ref.{Ref}
use Rattle.bb_uniq.specs.Laws.{StoreLaws}
use Rattle.bb_uniq.specs.Inside.Nodes.{NodeStore}
use Rattle.bb_uniq.specs.Inside.Meaning.{truth_of, Adds, IsTooMany}
use Rattle.bb_sym.specs.Plain.{Function, table, tables, one_of, first_of}
use Rattle.bb_sym.specs.Inside.Made.{Makes, AreTooMany, Represents, RepresentAll, ref_at}
use Rattle.bb_sym.proofs.FunctionTables.{table_same, combined-table, constant-table}
use Rattle.bb_sym.proofs.MadeLemmas.{Makes-none, Makes-more, refused_more}

or-false : (b : Bool) → b || false ≡ b
or-false true = refl
or-false false = refl

one_more : (f : ℕ → Function) (i : ℕ) (p : List Bool) → one_of f (i + 1) p ≡ one_of f i p || f i p
one_more f i p =
    ap (list_any (λ j. f j p)) (range_last_from_zero i)
    ∙ (list_any-append (λ j. f j p) (range_with_len 0 i) (i ∷ []) ∙ ap (λ b. one_of f i p || b) (or-false (f i p)))

-- the Ref is the disjunction of the first functions, and each on the way was made
abbrev pub IsFold : NodeStore → NodeStore → (ℕ → Function) → Ref → ℕ → Type 0
IsFold first now f any i = Represents now (table first.vars (one_of f i)) any × Makes first now (map (λ j. table first.vars (first_of f j)) (range_with_len 0 i))

pub none_yet : StoreLaws → (s : NodeStore) (f : ℕ → Function) → IsFold s s f (record { 0 = 0 }) 0
none_yet stores s f = (
  record { ref = omega arith; table = stores.leaf_table s 0 (omega arith) ∙ (constant-table s.vars false ∙ table_same s.vars (λ x. false) (one_of f 0) (λ p e. refl)) },
  Makes-none s,
)

pub fold_tables : (n count : ℕ) (f : ℕ → Function) → map (λ j. table n (first_of f j)) (range_with_len 0 count) ≡ tables n (map (first_of f) (range_with_len 0 count))
fold_tables n count f = sym (map-map (table n) (first_of f) (range_with_len 0 count))

module _ (first now : NodeStore) (f : ℕ → Function) (fs : List Ref) (any : Ref) (i : ℕ) (there : i < length fs) (occur : RepresentAll first (λ j. table first.vars (f j)) fs) (so_far : IsFold first now f any i) where
  next_is : joined_tables ◌||◌ (truth_of now any.0) (truth_of now (ref_at fs i).0) ≡ table first.vars (first_of f i)
  next_is =
      let one = occur i there in
      ap₂ (joined_tables ◌||◌) so_far.0.table (so_far.1.kept.tables (ref_at fs i).0 one.ref ∙ one.table)
      ∙ (combined-table first.vars (λ a b c. a || b) (one_of f i) (f i) (one_of f i)
      ∙ table_same first.vars (λ p. one_of f i p || f i p) (first_of f i) (λ p e. sym (one_more f i p)))

  pub fold_refused : IsTooMany now (joined_tables ◌||◌ (truth_of now any.0) (truth_of now (ref_at fs i).0)) → AreTooMany first (tables first.vars (map (first_of f) (range_with_len 0 (length fs))))
  fold_refused many =
      subst (AreTooMany first) (fold_tables first.vars (length fs) f) (refused_more first now (λ j. table first.vars (first_of f j)) i (length fs) so_far.1 there (subst (IsTooMany now) next_is many))

  pub fold_made : (new : NodeStore) (r : Ref) → Adds now new (joined_tables ◌||◌ (truth_of now any.0) (truth_of now (ref_at fs i).0)) r.0 → IsFold first new f r (i + 1)
  fold_made new r added = (
    record { ref = added.ref; table = added.table ∙ next_is },
    Makes-more first now new (λ j. table first.vars (first_of f j)) i r.0 so_far.1 (subst (λ t. Adds now new t r.0) next_is added),
  )
