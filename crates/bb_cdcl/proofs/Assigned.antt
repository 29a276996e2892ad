-- Values while the trail shrinks.
use Rattle.std.proofs.Common.{◌≡◌, ◌≢◌, ◌<◌, ◌≤◌, ℕ, zero, suc, ◌+◌, Bool, true, false, not, ◌||◌, ◌==◌, Option, Some, None, List, [], ◌∷◌, ◌++◌, length, get_or, set, slice_get, refl, sym, ◌∙◌, ap, subst, arith, inl, inr, length-append}
use Rattle.std.proofs.Math.Seq.{take-append_seam, get_or-append_seam}
use Rattle.std.proofs.lemmas.List.{get_or-set_same, get_or-set_other, length-set}
use Rattle.std.proofs.lemmas.List.Sums.{sum_by-set}
use Rattle.std.proofs.lemmas.Option.{slice_get-get_or}
use Rattle.bb_lemmas.proofs.Tests.{number_equal}
use Rattle.bb_lemmas.proofs.Bits.{or_right}
use Rattle.bb_lemmas.proofs.Maps.{or-false}
use Rattle.bb_lemmas.proofs.Orders.{less_or_not}
use Rattle.bb_cnf.specs.declared.clauses.Lit.{Lit}
use Rattle.bb_cdcl.specs.declared.trail.Entry.{Entry}
use Rattle.bb_cdcl.specs.Inside.Trails.{opposite, falsified, is_bit, is_false, unassigned, IsNew, AreNew, AreValues, HasRoom}
use Rattle.bb_cdcl.proofs.Literals.{no_clash, same_literal-itself, of_variable, other_variable, falsified-push}

pub get_or_past : {A : Type 0} (xs : List A) (k : ℕ) (d : A) → length xs ≤ k → get_or xs k d ≡ d
get_or_past [] k d past = refl
get_or_past (x ∷ xs) zero d past = absurd (omega (arith, past))
get_or_past (x ∷ xs) (suc k) d past = get_or_past xs k d (omega (arith, past))

-- a literal that is false has a variable in range
pub false_in_range : (values : List (Option Bool)) (m : Lit) → is_false values m ≡ true → m.var < length values
false_in_range values m is = elim (less_or_not m.var (length values)) as (λ _. m.var < length values) [
  | inl below ↦ below
  | inr past ↦ no_clash (sym (ap (λ o. is_bit o m.neg) (get_or_past values m.var None past)) ∙ is)
]

pub last_is_false : (rest : List Entry) (e : Entry) (values : List (Option Bool)) → AreValues (rest ++ e ∷ []) values → is_false values (opposite e.lit) ≡ true
last_is_false rest e values are =
    are (opposite e.lit) ∙ falsified-push rest e (opposite e.lit) ∙ or_right (falsified rest (opposite e.lit)) _ (same_literal-itself (opposite e.lit))

pub last_in_range : (rest : List Entry) (e : Entry) (values : List (Option Bool)) → AreValues (rest ++ e ∷ []) values → e.lit.var < length values
last_in_range rest e values are = false_in_range values (opposite e.lit) (last_is_false rest e values are)

pub last_is_new : (rest : List Entry) (e : Entry) → AreNew (rest ++ e ∷ []) → IsNew rest e.lit
last_is_new rest e new =
    let longer : length (rest ++ e ∷ []) ≡ length rest + 1 = length-append rest (e ∷ []) in
    let occurs : slice_get (rest ++ e ∷ []) (length rest) ≡ Some e = slice_get-get_or (rest ++ e ∷ []) (length rest) e (omega (arith, longer)) ∙ ap Some (get_or-append_seam rest e [] e) in
    subst (λ (es : List Entry). IsNew es e.lit) (take-append_seam rest (e ∷ [])) (new (length rest) e occurs)

pub pop_values : (rest : List Entry) (e : Entry) (values : List (Option Bool)) → AreValues (rest ++ e ∷ []) values → IsNew rest e.lit
    → AreValues rest (set values e.lit.var None)
pop_values rest e values are new m =
    elim (m.var == e.lit.var) as (λ b. (m.var == e.lit.var) ≡ b → is_false (set values e.lit.var None) m ≡ falsified rest m) [
      | true ↦ λ same.
          let at : m.var ≡ e.lit.var = number_equal m.var e.lit.var same in
          ap (λ x. is_bit (get_or (set values e.lit.var None) x None) m.neg) at
          ∙ ap (λ o. is_bit o m.neg) (get_or-set_same values e.lit.var None None (last_in_range rest e values are))
          ∙ elim (of_variable e.lit m at) as (λ _. false ≡ falsified rest m) [
            | inl l ↦ sym new.0 ∙ ap (falsified rest) l
            | inr l ↦ sym new.1 ∙ ap (falsified rest) l
          ]
      | false ↦ λ other.
          let apart : m.var ≢ e.lit.var = grind (arith, other) in
          ap (λ o. is_bit o m.neg) (get_or-set_other values e.lit.var m.var None None apart)
          ∙ are m ∙ falsified-push rest e m
          ∙ ap (λ b. falsified rest m || b) (other_variable (opposite e.lit) m other) ∙ or-false (falsified rest m)
    ] refl

assigned_count : (o : Option Bool) (b : Bool) → is_bit o b ≡ true → unassigned o ≡ 0
assigned_count None b is = no_clash is
assigned_count (Some a) b is = refl

pub pop_room : (rest : List Entry) (e : Entry) (values : List (Option Bool)) → AreValues (rest ++ e ∷ []) values → HasRoom (rest ++ e ∷ []) values
    → HasRoom rest (set values e.lit.var None)
pop_room rest e values are room =
    let longer : length (rest ++ e ∷ []) ≡ length rest + 1 = length-append rest (e ∷ []) in
    let same : length (set values e.lit.var None) ≡ length values = length-set values e.lit.var None in
    let was : unassigned (get_or values e.lit.var None) ≡ 0 = assigned_count _ (not e.lit.neg) (last_is_false rest e values are) in
    let sums = sum_by-set unassigned values e.lit.var None None (last_in_range rest e values are) in
    omega (arith, longer, same, was, sums, room)
