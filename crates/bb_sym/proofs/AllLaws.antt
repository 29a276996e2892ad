-- the laws, each from its lemma
use Rattle.std.proofs.Common.{◌≡◌, ◌<◌, ℕ, Bool, true, List, inl, inr, arith}
use Rattle.bb_lemmas.proofs.Bits.{not_true, never_both}
use Rattle.bb_bits.specs.Laws.TruthLaws.{SizeLaws}
use Rattle.bb_uniq.specs.Laws.{SequenceLaws}
use Rattle.bb_sym.specs.Laws.{FunctionLaws, MakingLaws, PointLaws}
use Rattle.bb_sym.specs.Plain.{Function, one_of}
use Rattle.bb_sym.proofs.Budget.{all_refused, all_fit}
use Rattle.bb_sym.proofs.FunctionTables.{truth_at-table, table_size, table_same, combined-table, constant-table, variable-table}
use Rattle.bb_sym.proofs.LeastVectors.{number_of-append, number_of-zeros, first_is_least}
use Rattle.bb_sym.proofs.MadeLemmas.{Makes-none, Makes-one, Makes-then, Makes-same, too_many_one, too_many_then, too_many_within, any_cases, within_append_left, within_append_right, Represents-kept, RepresentAll-kept}
use Rattle.bb_sym.proofs.PickedRefs.{picked_refs, picked_occur}
use Rattle.bb_sym.proofs.WrongTables.{HaveCells-kept}
use Rattle.bb_sym.proofs.SomeWrong.{any_there, any_of, none_of}

one_there : (f : ℕ → Function) (count : ℕ) (p : List Bool) → one_of f count p ≡ true → (j : ℕ) × (j < count) × (f j p ≡ true)
one_there f count p e = let found = any_there (λ j. f j p) 0 count e in (found.0, omega (arith, found.1), found.2)

pub function_laws : FunctionLaws
function_laws = record {
  size = table_size;
  at_point = truth_at-table;
  same = table_same;
  combined_tables = combined-table;
  constant_table = constant-table;
  variable_table = variable-table;
  one_true = λ f count p. (one_there f count p, λ h. any_of (λ j. f j p) count h.0 h.1 h.2);
  one_false = λ f count p. (
    λ e j l. none_of (λ j. f j p) count j l e,
    λ h. not_true (one_of f count p) (λ e. let found = one_there f count p e in never_both (f found.0 p) found.2 (h found.0 found.1)),
  );
}

pub making_laws : SequenceLaws → SizeLaws → MakingLaws
making_laws sequences sizes = record {
  none = Makes-none;
  one = Makes-one;
  then = Makes-then;
  both = λ ts us b. (any_cases ts us b, λ h. elim h [ inl x ↦ within_append_left ts us b x | inr x ↦ within_append_right ts us b x ]);
  same = λ a b ts us e. Makes-same a b ts us (λ x. (e x).0) (λ x. (e x).1);
  refused_one = too_many_one;
  refused_then = too_many_then;
  refused_more = too_many_within;
  start_refused = λ s ts e. all_refused sequences s e ts;
  start_fits = λ s now ts e sound. all_fit sequences sizes s now e sound ts;
  occurs_still = Represents-kept;
  all_still = RepresentAll-kept;
  cells_still = HaveCells-kept;
  picked_refs = picked_refs;
  picked_occur = picked_occur;
}

pub point_laws : PointLaws
point_laws = record { append = number_of-append; zeros = number_of-zeros; first_bits = first_is_least }
