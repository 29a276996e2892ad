-- Of what is read, part by part.
use Rattle.std.proofs.Common.{◌≡◌, List, [], ◌∷◌, Some, None, Bool, true, false, refl, if◌then◌else◌, IfSome, MatchBool}
use Rattle.bb_lex.specs.declared.mark.Mark.{Mark}
use Rattle.bb_parse.specs.Symbols.{Symbol, Identifier, Reserved, SizedNumber, PlainNumber, Sign}
use Rattle.bb_parse.specs.Inside.Symbols.{is_next}
use Rattle.bb_parse.specs.Inside.Steps.{Read, ◌>>=◌, with_prefix, read_mark, read_name, read_sized, read_plain}
use Rattle.bb_parse.proofs.Marks.{next_is}

-- one part, and then the rest
pub and_then : {A B : Type 0} (read : Read A) (f : A × List Symbol → Read B) (Q : A × List Symbol → Type 0) (P : B × List Symbol → Type 0)
    → IfSome read Q → ((x : A × List Symbol) → Q x → IfSome (f x) P) → IfSome (read >>= f) P
and_then None f Q P h k = tt
and_then (Some x) f Q P h k = k x h

-- a choice
pub either_way : {A : Type 0} (b : Bool) (x y : Read A) (P : A × List Symbol → Type 0) → (b ≡ true → IfSome x P) → (b ≡ false → IfSome y P) → IfSome (if b then x else y) P
either_way true x y P h k = h refl
either_way false x y P h k = k refl

pub after_prefix : {A : Type 0} (x : A) (read : Read (List A)) (P : List A × List Symbol → Type 0) → IfSome read (λ xs. P (x ∷ xs.0, xs.1)) → IfSome (with_prefix (x ∷ []) read) P
after_prefix x None P h = tt
after_prefix x (Some xs) P h = h

pub mark_sound : (m : Mark) (ts : List Symbol) → IfSome (read_mark m ts) (λ x. ts ≡ Sign m ∷ x.1)
mark_sound m ts = either_way (is_next m ts) _ _ _ (λ h. next_is m ts h) (λ h. tt)

pub name_sound : (ts : List Symbol) → IfSome (read_name ts) (λ x. ts ≡ Identifier x.0 ∷ x.1)
name_sound [] = tt
name_sound (Identifier n ∷ ts) = refl
name_sound (Reserved w ∷ ts) = tt
name_sound (SizedNumber b ∷ ts) = tt
name_sound (PlainNumber n ∷ ts) = tt
name_sound (Sign m ∷ ts) = tt

pub sized_sound : (ts : List Symbol) → IfSome (read_sized ts) (λ x. ts ≡ SizedNumber x.0 ∷ x.1)
sized_sound [] = tt
sized_sound (Identifier n ∷ ts) = tt
sized_sound (Reserved w ∷ ts) = tt
sized_sound (SizedNumber b ∷ ts) = refl
sized_sound (PlainNumber n ∷ ts) = tt
sized_sound (Sign m ∷ ts) = tt

pub plain_sound : (ts : List Symbol) → IfSome (read_plain ts) (λ x. ts ≡ PlainNumber x.0 ∷ x.1)
plain_sound [] = tt
plain_sound (Identifier n ∷ ts) = tt
plain_sound (Reserved w ∷ ts) = tt
plain_sound (SizedNumber b ∷ ts) = tt
plain_sound (PlainNumber n ∷ ts) = refl
plain_sound (Sign m ∷ ts) = tt

pub and_so : {A : Type 0} (read : Read A) (Q P : A × List Symbol → Type 0) → IfSome read Q → ((x : A × List Symbol) → Q x → P x) → IfSome read P
and_so None Q P h k = tt
and_so (Some x) Q P h k = k x h

-- a choice between two rules
pub by_either : (b : Bool) (A B C : Type 0) → (A → C) → (B → C) → MatchBool b A B → C
by_either true A B C f g p = f p
by_either false A B C f g p = g p

pub to_either : (b : Bool) (A B A' B' C : Type 0) → (A → A' × C) → (B → B' × C) → MatchBool b A B → MatchBool b A' B' × C
to_either true A B A' B' C f g p = f p
to_either false A B A' B' C f g p = g p

-- what is read by a choice is of the choice
pub either_sound : {A : Type 0} (b : Bool) (x y : Read A) (P Q : A × List Symbol → Type 0) → IfSome x P → IfSome y Q → IfSome (if b then x else y) (λ z. MatchBool b (P z) (Q z))
either_sound true x y P Q h k = h
either_sound false x y P Q h k = k

pub either_complete : {A : Type 0} (b : Bool) (P Q L : Type 0) (read : Read A) (f g : A × List Symbol → Read A) (y : A × List Symbol)
    → (P → (read >>= f ≡ Some y) × L) → (Q → (read >>= g ≡ Some y) × L) → MatchBool b P Q → (read >>= (λ x. if b then f x else g x) ≡ Some y) × L
either_complete true P Q L read f g y h k p = h p
either_complete false P Q L read f g y h k p = k p
