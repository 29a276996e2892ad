-- Models from values.
use Rattle.std.proofs.Common.{◌≡◌, ◌≤◌, ℕ, zero, suc, ◌-◌, Bool, true, false, not, if◌then◌else◌, Option, Some, None, unwrap_or, List, [], ◌∷◌, length, map, drop, get_or, All, refl, ◌∙◌, ap, subst, arith}
use Rattle.bb_cnf.specs.declared.clauses.Lit.{Lit}
use Rattle.bb_cnf.specs.Clauses.{HasVariablesWithin}
use Rattle.bb_cnf.specs.Truth.{literal_bit, assignment_of, Satisfies}
use Rattle.bb_cdcl.specs.Inside.Trails.{opposite, value_at, is_bit, is_false}
use Rattle.bb_cdcl.specs.Inside.Events.{IsSatisfied}
use Rattle.bb_cdcl.proofs.Literals.{no_clash}

bits_of_values : (values : List (Option Bool)) (k : ℕ) → get_or (map (λ o. unwrap_or o false) values) k false ≡ unwrap_or (get_or values k None) false
bits_of_values [] k = refl
bits_of_values (v ∷ values) zero = refl
bits_of_values (v ∷ values) (suc k) = bits_of_values values k

bit_of_value : (values : List (Option Bool)) (x : ℕ) → 1 ≤ x → assignment_of (map (λ o. unwrap_or o false) (drop 1 values)) x ≡ unwrap_or (value_at values x) false
bit_of_value values zero some = absurd (omega (arith, some))
bit_of_value [] (suc k) some = refl
bit_of_value (v ∷ values) (suc k) some = bits_of_values values k

true_value : (o : Option Bool) (s : Bool) → is_bit o (not s) ≡ true → (if s then not (unwrap_or o false) else unwrap_or o false) ≡ true
true_value None s is = no_clash is
true_value (Some true) true is = no_clash is
true_value (Some true) false is = refl
true_value (Some false) true is = refl
true_value (Some false) false is = no_clash is

literal_true : (values : List (Option Bool)) (l : Lit) → 1 ≤ l.var → is_false values (opposite l) ≡ true → literal_bit (assignment_of (map (λ o. unwrap_or o false) (drop 1 values))) l ≡ true
literal_true values l some is =
    ap (λ b. if l.neg then not b else b) (bit_of_value values l.var some) ∙ true_value (value_at values l.var) l.neg is

-- the bits of the values make true what the values make true
pub model_satisfies : (values : List (Option Bool)) (clauses : List (List Lit)) → HasVariablesWithin (length values - 1) clauses → All (IsSatisfied values) clauses
    → Satisfies (assignment_of (map (λ o. unwrap_or o false) (drop 1 values))) clauses
model_satisfies values clauses within all k d l =
    let t = all k d l in
    let inside = subst (λ (m : Lit). (1 ≤ m.var) × (m.var ≤ length values - 1)) t.3 (within k d l t.0 t.1 t.2) in
    (t.0, t.1, t.2, t.3, literal_true values t.1 inside.0 t.4)
