-- where functions differ, one pair after another
use Rattle.std.proofs.Common.{◌≡◌, ◌<◌, ℕ, ◌+◌, List, [], ◌∷◌, ◌++◌, length, map, sym, ap₂, ◌∙◌, subst, arith}
use Rattle.std.specs.List.{range_with_len}
use Rattle.std.proofs.lemmas.Simd.{map-map}
use Rattle.bb_bits.specs.Bits.{xor}
use Rattle.bb_bits.specs.Truth.{joined_tables}
use Rattle.bb_uniq.specs.declared.store.Ref.{Ref}
use Rattle.bb_uniq.specs.Inside.Nodes.{NodeStore}
use Rattle.bb_uniq.specs.Inside.Meaning.{truth_of, Adds, IsTooMany}
use Rattle.bb_sym.specs.Plain.{Function, differ, table, tables}
use Rattle.bb_sym.specs.Inside.Made.{Makes, AreTooMany, RepresentAll, ref_at}
use Rattle.bb_sym.proofs.FunctionTables.{combined-table}
use Rattle.bb_sym.proofs.MadeLemmas.{Makes-more, refused_more, RepresentAll-push, Represents-added}

-- the first pairs are made since the store was `s`
abbrev pub AreDifferent : NodeStore → NodeStore → (ℕ → Function) → (ℕ → Function) → List Ref → ℕ → Type 0
AreDifferent s now f g refs i = RepresentAll now (λ j. table s.vars (differ (f j) (g j))) refs × Makes s now (map (λ j. table s.vars (differ (f j) (g j))) (range_with_len 0 i))

pub different_tables : (n count : ℕ) (f g : ℕ → Function) → map (λ j. table n (differ (f j) (g j))) (range_with_len 0 count) ≡ tables n (map (λ j. differ (f j) (g j)) (range_with_len 0 count))
different_tables n count f g = sym (map-map (table n) (λ j. differ (f j) (g j)) (range_with_len 0 count))

module _ (s now : NodeStore) (f g : ℕ → Function) (fs gs refs : List Ref) (i : ℕ) (there : i < length fs) (same : length fs ≡ length gs) (count : length refs ≡ i) (left : RepresentAll s (λ j. table s.vars (f j)) fs) (right : RepresentAll s (λ j. table s.vars (g j)) gs)
    (so_far : AreDifferent s now f g refs i) where
  next_is : joined_tables xor (truth_of now (ref_at fs i).0) (truth_of now (ref_at gs i).0) ≡ table s.vars (differ (f i) (g i))
  next_is =
      let one = left i there in
      let other = right i (omega (arith, there, same)) in
      ap₂ (joined_tables xor) (so_far.1.kept.tables (ref_at fs i).0 one.ref ∙ one.table) (so_far.1.kept.tables (ref_at gs i).0 other.ref ∙ other.table)
      ∙ combined-table s.vars (λ a b c. xor a b) (f i) (g i) (f i)

  pub different_refused : IsTooMany now (joined_tables xor (truth_of now (ref_at fs i).0) (truth_of now (ref_at gs i).0)) → AreTooMany s (tables s.vars (map (λ j. differ (f j) (g j)) (range_with_len 0 (length fs))))
  different_refused many =
      subst (AreTooMany s) (different_tables s.vars (length fs) f g) (refused_more s now (λ j. table s.vars (differ (f j) (g j))) i (length fs) so_far.1 there (subst (IsTooMany now) next_is many))

  pub different_made : (new : NodeStore) (r : Ref) → Adds now new (joined_tables xor (truth_of now (ref_at fs i).0) (truth_of now (ref_at gs i).0)) r.0 → AreDifferent s new f g (refs ++ r ∷ []) (i + 1)
  different_made new r added =
      let here = subst (λ t. Adds now new t r.0) next_is added in (
        RepresentAll-push now new (λ j. table s.vars (differ (f j) (g j))) refs r i count here.kept so_far.0 (Represents-added now new (table s.vars (differ (f i) (g i))) r here),
        Makes-more s now new (λ j. table s.vars (differ (f j) (g j))) i r.0 so_far.1 here,
      )
