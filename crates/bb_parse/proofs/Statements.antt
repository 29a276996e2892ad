-- Loops over the tokens of a statement.
use Rattle.std.proofs.Common.{◌≡◌, ℕ, ◌+◌, ◌<◌, ◌≤◌, List, [], ◌∷◌, ◌++◌, Option, Some, None, Result, Ok, Err, true, false, refl, arith, length, take, drop, max, append_assoc, slice_index_or, add-one, nat_lt}
use Rattle.std.proofs.Math.Nat.{le-max_left}
use Rattle.std.proofs.Math.Seq.{drop-cons}
use Rattle.std.proofs.lemmas.Bool.Decides.{nat_tests}
use Rattle.std.proofs.lemmas.List.{take_more}
use Rattle.bb_lex.specs.declared.token.Token.{Token}
use Rattle.bb_parse.specs.declared.fault.ParseFault.{ParseFault}
use Rattle.bb_parse.specs.declared.fault.ParseFault.TheVariants.{Statement}
use Rattle.bb_parse.specs.declared.stop.Stop.{Stop}
use Rattle.bb_parse.specs.declared.stop.Stop.TheVariants.{Amiss, NoMemory}
use Rattle.bb_parse.specs.Symbols.{Symbol, Identifier, Reserved, SizedNumber, PlainNumber, Sign}
use Rattle.bb_parse.specs.Nesting.{mark_count, mark_square, count_after, square_after, greatest_from}
use Rattle.bb_parse.specs.Sources.{ends_statement}
use Rattle.bb_parse.specs.Inside.Symbols.{next_kind, after}
use Rattle.bb_parse.specs.Inside.Steps.{Read, Gives}
use Rattle.bb_parse.specs.Inside.Sources.{Answers, with_token, first_statement, whole, or_fault, judged, count_at, square_at}

-- with these tokens before a statement
abbrev pub with_tokens : List Token → Option (List Token × List Token) → Option (List Token × List Token)
with_tokens prefix None = None
with_tokens prefix (Some x) = Some (prefix ++ x.0, x.1)

pub with_tokens-nil : (o : Option (List Token × List Token)) → with_tokens [] o ≡ o
with_tokens-nil None = refl
with_tokens-nil (Some x) = refl

with_tokens-with_token : (prefix : List Token) (t : Token) (o : Option (List Token × List Token)) → with_tokens prefix (with_token t o) ≡ with_tokens (prefix ++ t ∷ []) o
with_tokens-with_token prefix t None = refl
with_tokens-with_token prefix t (Some x) = rw append_assoc refl

split_at_index : (tokens : List Token) (i : ℕ) (d : Token) → i < length tokens → (drop i tokens ≡ slice_index_or tokens i d ∷ drop (i + 1) tokens) × (take (i + 1) tokens ≡ take i tokens ++ slice_index_or tokens i d ∷ [])
split_at_index tokens i d h = (rw (add-one, drop-cons tokens i d h) refl, take_more tokens i d h)

pub first_here : (tokens : List Token) (i : ℕ) (d : Token) → i < length tokens → ends_statement (slice_index_or tokens i d).kind ≡ true
    → with_tokens (take i tokens) (first_statement (drop i tokens)) ≡ Some (take (i + 1) tokens, drop (i + 1) tokens)
first_here tokens i d h e = let s = split_at_index tokens i d h in rw (s.0, e, s.1) refl

pub first_later : (tokens : List Token) (i : ℕ) (d : Token) → i < length tokens → ends_statement (slice_index_or tokens i d).kind ≡ false
    → with_tokens (take i tokens) (first_statement (drop i tokens)) ≡ with_tokens (take (i + 1) tokens) (first_statement (drop (i + 1) tokens))
first_later tokens i d h e = let s = split_at_index tokens i d h in rw (s.0, e, s.1) (with_tokens-with_token (take i tokens) (slice_index_or tokens i d) (first_statement (drop (i + 1) tokens)))

pub ruleset first_looping = (with_tokens-nil, first_here, first_later)

three_max : (g c d a : ℕ) → c ≤ g → d ≤ a → max g (max c a) ≡ max (max g d) a
three_max g c d a h k = omega arith

pub greatest_least : (square count : ℕ) (ts : List Symbol) → count ≤ greatest_from square count ts
greatest_least square count [] = omega arith
greatest_least square count (t ∷ ts) = le-max_left count (greatest_from (square_after t square) (count_after t square count) ts)

pub nesting_next : (square count greatest : ℕ) (ts : List Symbol) → count ≤ greatest → 0 < length ts
    → max greatest (greatest_from square count ts)
    ≡ max (max greatest (count_at (next_kind ts) square count)) (greatest_from (square_at (next_kind ts) square) (count_at (next_kind ts) square count) (after ts))
nesting_next square count greatest [] h l = absurd (omega arith)
nesting_next square count greatest (Identifier n ∷ ts) h l = three_max greatest count count (greatest_from square count ts) h (greatest_least square count ts)
nesting_next square count greatest (Reserved w ∷ ts) h l = three_max greatest count count (greatest_from square count ts) h (greatest_least square count ts)
nesting_next square count greatest (SizedNumber b ∷ ts) h l = three_max greatest count count (greatest_from square count ts) h (greatest_least square count ts)
nesting_next square count greatest (PlainNumber n ∷ ts) h l = three_max greatest count count (greatest_from square count ts) h (greatest_least square count ts)
nesting_next square count greatest (Sign m ∷ ts) h l =
    three_max greatest count (mark_count m square count) (greatest_from (mark_square m square) (mark_count m square count) ts) h
    (greatest_least (mark_square m square) (mark_count m square count) ts)

pub nesting_done : (square count greatest : ℕ) (ts : List Symbol) → count ≤ greatest → length ts ≡ 0 → max greatest (greatest_from square count ts) ≡ greatest
nesting_done square count greatest [] h l = omega arith
nesting_done square count greatest (t ∷ ts) h l = absurd (omega arith)

pub after_length : (ts : List Symbol) → 0 < length ts → length (after ts) + 1 ≡ length ts
after_length [] h = absurd (omega arith)
after_length (t ∷ ts) h = omega arith

pub ruleset nesting_looping = (nesting_next, nesting_done, after_length)

pub judged_answers : {X Y : Type 0} (view : X → Y) (read : Result X Stop) (rest : List Symbol) (left line : ℕ) (r : Read Y) (a : Result X ParseFault)
    → Gives view read rest r → left ≡ length rest → a ≡ judged read left line → Answers view a (or_fault (Statement line) (whole r))
judged_answers view (Ok x) [] left line r a g n e = rw (e, n, g) refl
judged_answers view (Ok x) (t ∷ ts) left line r a g n e =
    let some : nat_lt 0 left ≡ true = grind (arith, nat_tests, n) in
    rw (e, some, g) refl
judged_answers view (Err Amiss) rest left line r a g n e = rw (e, g) refl
judged_answers view (Err NoMemory) rest left line r a g n e = rw e tt

pub ruleset judging = (judged_answers)
