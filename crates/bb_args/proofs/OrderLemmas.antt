-- Two neighbours among arguments, of which one is no file, may be exchanged.
use Rattle.std.proofs.Common.{◌≡◌, ◌∙◌, ◌⊎◌, inl, inr, ℕ, Bool, true, false, List, [], ◌∷◌, ◌++◌, Option, None, Some, ap, ap₂, refl, sym}
use Rattle.std.specs.Prelude.{◌&&◌, ◌||◌, if◌then◌else◌, length, nat_le, not, slice_get}
use Rattle.std.specs.List.{list_any}
use Rattle.std.specs.Str.{bytes_eq}
use lib.Pointwise.{bytes_decides}
use Rattle.bb_args.specs.CommandLines.{Argument, File, Flag, Text, Valued, are_once, are_taken, comes_again, file_in, files_in, has_option_name, is_flag, option_value}
use Rattle.bb_args.specs.Laws.{OrderIsFree}
use Rattle.bb_args.proofs.ClapRows.{again-alike, again-cons, both, is_false, same_eq}

either_first : (p q r : Bool) → (p || (q || r)) ≡ (q || (p || r))
either_first true true r = refl
either_first true false r = refl
either_first false true r = refl
either_first false false r = refl

any_exchanged : (test : Argument → Bool) (a b : Argument) (after before : List Argument) → list_any test (before ++ a ∷ b ∷ after) ≡ list_any test (before ++ b ∷ a ∷ after)
any_exchanged test a b after [] = either_first (test a) (test b) (list_any test after)
any_exchanged test a b after (x ∷ before) = ap (λ t. test x || t) (any_exchanged test a b after before)

again_exchanged : (x a b : Argument) (after before : List Argument) → comes_again x (before ++ a ∷ b ∷ after) ≡ comes_again x (before ++ b ∷ a ∷ after)
again_exchanged (File text) a b after before = refl
again_exchanged (Flag name) a b after before = any_exchanged (has_option_name name) a b after before
again_exchanged (Valued name value) a b after before = any_exchanged (has_option_name name) a b after before

regroup : (s p q o : Bool) → (not (s || p) && (not q && o)) ≡ (not (s || q) && (not p && o))
regroup true p q o = refl
regroup false true true o = refl
regroup false true false o = refl
regroup false false true o = refl
regroup false false false o = refl

once_exchanged : (a b : Argument) (after before : List Argument) → are_once (before ++ a ∷ b ∷ after) ≡ are_once (before ++ b ∷ a ∷ after)
once_exchanged a b after [] =
    ap (λ t. not t && (not (comes_again b after) && are_once after)) (again-cons a b after)
    ∙ regroup (comes_again a (b ∷ [])) (comes_again a after) (comes_again b after) (are_once after)
    ∙ ap (λ t. not t && (not (comes_again a after) && are_once after)) (ap (λ t. t || comes_again b after) (again-alike a b) ∙ sym (again-cons b a after))
once_exchanged a b after (x ∷ before) = ap₂ (λ t o. not t && o) (again_exchanged x a b after before) (once_exchanged a b after before)

files_exchanged : (a b : Argument) (after before : List Argument) → file_in a ≡ None → files_in (before ++ a ∷ b ∷ after) ≡ files_in (before ++ b ∷ a ∷ after)
files_exchanged (File text) b after before none = cc none
files_exchanged (Flag name) (File text) after [] none = refl
files_exchanged (Flag name) (Flag other) after [] none = refl
files_exchanged (Flag name) (Valued other value) after [] none = refl
files_exchanged (Valued name value) (File text) after [] none = refl
files_exchanged (Valued name value) (Flag other) after [] none = refl
files_exchanged (Valued name value) (Valued other more) after [] none = refl
files_exchanged (Flag name) b after (File text ∷ before) none = ap (λ l. text ∷ l) (files_exchanged (Flag name) b after before none)
files_exchanged (Flag name) b after (Flag x ∷ before) none = files_exchanged (Flag name) b after before none
files_exchanged (Flag name) b after (Valued x v ∷ before) none = files_exchanged (Flag name) b after before none
files_exchanged (Valued name value) b after (File text ∷ before) none = ap (λ l. text ∷ l) (files_exchanged (Valued name value) b after before none)
files_exchanged (Valued name value) b after (Flag x ∷ before) none = files_exchanged (Valued name value) b after before none
files_exchanged (Valued name value) b after (Valued x v ∷ before) none = files_exchanged (Valued name value) b after before none

-- no two of one name have a value
values_apart : (name one two : Text) (v w : Text) (rest : Option Text) → bytes_eq two one ≡ false
    → (if bytes_eq one name then Some v else (if bytes_eq two name then Some w else rest)) ≡ (if bytes_eq two name then Some w else (if bytes_eq one name then Some v else rest))
values_apart name one two v w rest differ = by (bytes_eq one name) refl (bytes_eq two name) refl
  where
    by : (p : Bool) → bytes_eq one name ≡ p → (q : Bool) → bytes_eq two name ≡ q → (if p then Some v else (if q then Some w else rest)) ≡ (if q then Some w else (if p then Some v else rest))
    by true e false f = refl
    by false e true f = refl
    by false e false f = refl
    by true e true f = let same : two ≡ one = (bytes_decides two name).0 f ∙ sym ((bytes_decides one name).0 e) in cc ((bytes_decides two one).1 same, differ)

value_exchanged : (name : Text) (a b : Argument) (after : List Argument) → comes_again a (b ∷ []) ≡ false → (before : List Argument) → option_value name (before ++ a ∷ b ∷ after) ≡ option_value name (before ++ b ∷ a ∷ after)
value_exchanged name (File text) (File other) after apart [] = refl
value_exchanged name (File text) (Flag other) after apart [] = refl
value_exchanged name (File text) (Valued other w) after apart [] = refl
value_exchanged name (Flag one) (File other) after apart [] = refl
value_exchanged name (Flag one) (Flag other) after apart [] = refl
value_exchanged name (Flag one) (Valued other w) after apart [] = refl
value_exchanged name (Valued one v) (File other) after apart [] = refl
value_exchanged name (Valued one v) (Flag other) after apart [] = refl
value_exchanged name (Valued one v) (Valued two w) after apart [] = values_apart name one two v w (option_value name after) (no_or (bytes_eq two one) apart)
  where
    no_or : (p : Bool) → (p || false) ≡ false → p ≡ false
    no_or true e = cc e
    no_or false e = refl
value_exchanged name a b after apart (File text ∷ before) = value_exchanged name a b after apart before
value_exchanged name a b after apart (Flag other ∷ before) = value_exchanged name a b after apart before
value_exchanged name a b after apart (Valued other w ∷ before) = ap (λ o. if bytes_eq other name then Some w else o) (value_exchanged name a b after apart before)

-- arguments that are taken have neighbours of different names
neighbours_apart : (a b : Argument) (after before : List Argument) → are_once (before ++ a ∷ b ∷ after) ≡ true → comes_again a (b ∷ []) ≡ false
neighbours_apart a b after [] once =
    let none = is_false (comes_again a (b ∷ after)) (both (not (comes_again a (b ∷ after))) (are_once (b ∷ after)) once).0 in
    neither (comes_again a (b ∷ [])) (comes_again a after) (sym (again-cons a b after) ∙ none)
  where
    neither : (p q : Bool) → (p || q) ≡ false → p ≡ false
    neither true q e = cc e
    neither false q e = refl
neighbours_apart a b after (x ∷ before) once = neighbours_apart a b after before (both (not (comes_again x (before ++ a ∷ b ∷ after))) (are_once (before ++ a ∷ b ∷ after)) once).1

either_exchanged : (a b : Argument) (after before : List Argument) → (file_in a ≡ None) ⊎ (file_in b ≡ None) → files_in (before ++ a ∷ b ∷ after) ≡ files_in (before ++ b ∷ a ∷ after)
either_exchanged a b after before (inl none) = files_exchanged a b after before none
either_exchanged a b after before (inr none) = sym (files_exchanged b a after before none)

pub order_is_free : OrderIsFree
order_is_free before after a b none taken =
    let files = either_exchanged a b after before none in
    let once = (both (nat_le (length (files_in (before ++ a ∷ b ∷ after))) 2) (are_once (before ++ a ∷ b ∷ after)) taken).1 in
    record {
      taken = ap₂ (λ l o. nat_le (length l) 2 && o) files (once_exchanged a b after before);
      spec = ap (λ l. slice_get l 0) files;
      imp = ap (λ l. slice_get l 1) files;
      has_flag = λ name. any_exchanged (is_flag name) a b after before;
      value = λ name. value_exchanged name a b after (neighbours_apart a b after before once) before;
    }
