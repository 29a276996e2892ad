-- Reading from the left, on lists: what is read and what is left, or none.
use Rattle.std.specs.Prelude.{ℕ, zero, suc, Bool, List, [], ◌∷◌, ◌++◌, Option, Some, None, Result, Ok, Err, ◌≡◌, length, if◌then◌else◌}
use Rattle.bb_lex.specs.declared.mark.Mark.{Mark}
use Rattle.bb_lex.specs.declared.mark.Mark.TheVariants.{Comma}
use Rattle.bb_parse.specs.declared.stop.Stop.{Stop}
use Rattle.bb_parse.specs.declared.stop.Stop.TheVariants.{Amiss, NoMemory}
use Rattle.bb_parse.specs.Symbols.{Symbol, Identifier, Reserved, SizedNumber, PlainNumber, Sign}
use Rattle.bb_parse.specs.Inside.Symbols.{is_next, after}

-- what is read, and what is left
abbrev pub Read : Type 0 → Type 0
Read A = Option (A × List Symbol)

-- What a function returned and left is what reading gives, unless memory ran out.
abbrev pub Gives : {X Y : Type 0} → (X → Y) → Result X Stop → List Symbol → Read Y → Type 0
Gives view (Ok x) rest read = read ≡ Some (view x, rest)
Gives view (Err Amiss) rest read = read ≡ None
Gives view (Err NoMemory) rest read = Unit {0}

-- What a function made of values is this, unless memory ran out.
abbrev pub Makes : {X Y : Type 0} → (X → Y) → Result X Stop → Y → Type 0
Makes view (Ok x) y = view x ≡ y
Makes view (Err Amiss) y = ⊥
Makes view (Err NoMemory) y = Unit {0}

infixl 10 ◌>>=◌
abbrev pub ◌>>=◌ : {A B : Type 0} → Read A → (A × List Symbol → Read B) → Read B
None >>= f = None
(Some x) >>= f = f x

-- with these before a list that was read
abbrev pub with_prefix : {A : Type 0} → List A → Read (List A) → Read (List A)
with_prefix prefix None = None
with_prefix prefix (Some x) = Some (prefix ++ x.0, x.1)

-- the mark, which has no value
abbrev pub read_mark : Mark → List Symbol → Read (Unit {0})
read_mark mark ts = if is_next mark ts then Some (tt, after ts) else None

abbrev pub read_name : List Symbol → Read (List ℕ)
read_name [] = None
read_name (Identifier n ∷ ts) = Some (n, ts)
read_name (Reserved w ∷ ts) = None
read_name (SizedNumber b ∷ ts) = None
read_name (PlainNumber n ∷ ts) = None
read_name (Sign m ∷ ts) = None

abbrev pub read_sized : List Symbol → Read (List Bool)
read_sized [] = None
read_sized (Identifier n ∷ ts) = None
read_sized (Reserved w ∷ ts) = None
read_sized (SizedNumber bits ∷ ts) = Some (bits, ts)
read_sized (PlainNumber n ∷ ts) = None
read_sized (Sign m ∷ ts) = None

abbrev pub read_plain : List Symbol → Read ℕ
read_plain [] = None
read_plain (Identifier n ∷ ts) = None
read_plain (Reserved w ∷ ts) = None
read_plain (SizedNumber b ∷ ts) = None
read_plain (PlainNumber n ∷ ts) = Some (n, ts)
read_plain (Sign m ∷ ts) = None

-- at most n commas, each with an element after it
abbrev pub read_more : {A : Type 0} → (List Symbol → Read A) → ℕ → List Symbol → Read (List A)
read_more read zero ts = Some ([], ts)
read_more read (suc n) ts = if is_next Comma ts then read (after ts) >>= (λ x. with_prefix (x.0 ∷ []) (read_more read n x.1)) else Some ([], ts)

abbrev pub read_list : {A : Type 0} → (List Symbol → Read A) → List Symbol → Read (List A)
read_list read ts = read ts >>= (λ x. with_prefix (x.0 ∷ []) (read_more read (length x.1) x.1))
