-- The rest after comments, attributes, directives, escaped names.
use Rattle.std.specs.Prelude.{ℕ, zero, suc, Bool, Option, Some, None, List, [], ◌∷◌, length, ◌&&◌, ◌||◌, ◌==◌, if◌then◌else◌, codes, bytes_eq}
use Rattle.bb_lex.specs.Bytes.{is_white, is_in_line, is_identifier_byte, is_graphic, past}
use Rattle.bb_lex.specs.Inside.Runs.{run_of}

-- after the first place where y follows x
abbrev pub after_pair : ℕ → ℕ → List ℕ → Option (List ℕ)
after_pair x y [] = None
after_pair x y (b ∷ []) = None
after_pair x y (b ∷ c ∷ bytes) = if b == x && c == y then Some bytes else after_pair x y (c ∷ bytes)

-- after the quote that ends a string
abbrev pub after_quote : List ℕ → Option (List ℕ)
after_quote [] = None
after_quote (b ∷ []) = if b == 34 then Some [] else None
after_quote (b ∷ c ∷ bytes) = if b == 34 then Some (c ∷ bytes) else (if b == 92 then after_quote bytes else after_quote (c ∷ bytes))

-- after a part of an attribute that begins with a slash
abbrev pub after_slash : List ℕ → Option (List ℕ)
after_slash [] = Some []
after_slash (b ∷ bytes) = if b == 47 then Some (past is_in_line bytes) else (if b == 42 then after_pair 42 47 bytes else Some (b ∷ bytes))

-- after a part of an attribute
abbrev pub after_part : List ℕ → Option (List ℕ)
after_part [] = None
after_part (b ∷ bytes) = if b == 34 then after_quote bytes else (if b == 47 then after_slash bytes else Some bytes)

-- after *) at the start
abbrev pub after_close : List ℕ → Option (List ℕ)
after_close [] = None
after_close (b ∷ []) = None
after_close (b ∷ c ∷ bytes) = if b == 42 && c == 41 then Some bytes else None

-- after the end of an attribute: by a close or a part at the start, and then by what reads on
abbrev pub after_next : Option (List ℕ) → Option (List ℕ) → (List ℕ → Option (List ℕ)) → Option (List ℕ)
after_next (Some after) part more = Some after
after_next None None more = None
after_next None (Some after) more = more after

-- after the end of an attribute, by at most n parts
abbrev pub after_parts : ℕ → List ℕ → Option (List ℕ)
after_parts zero bytes = None
after_parts (suc n) bytes = after_next (after_close bytes) (after_part bytes) (after_parts n)

-- after an attribute whose first two bytes are read
abbrev pub after_attribute : List ℕ → Option (List ℕ)
after_attribute [] = None
after_attribute (b ∷ bytes) = if b == 41 then None else after_parts (length (b ∷ bytes)) (b ∷ bytes)

-- after a comment whose first slash is read
abbrev pub after_comment : List ℕ → Option (List ℕ)
after_comment [] = None
after_comment (b ∷ bytes) = if b == 47 then Some (past is_in_line bytes) else (if b == 42 then after_pair 42 47 bytes else None)

abbrev pub is_directive : List ℕ → Bool
is_directive word = bytes_eq word (codes "timescale") || bytes_eq word (codes "celldefine") || bytes_eq word (codes "endcelldefine")

-- after a directive whose back quote is read
abbrev pub after_directive : List ℕ → Option (List ℕ)
after_directive bytes = if is_directive (run_of is_identifier_byte bytes) then Some (past is_in_line (past is_identifier_byte bytes)) else None

-- all of it, if it is at its end or goes on with white space
abbrev pub at_white : List ℕ → Option (List ℕ)
at_white [] = Some []
at_white (b ∷ bytes) = if is_white b then Some (b ∷ bytes) else None

-- after an escaped identifier whose backslash is read
abbrev pub after_escaped : List ℕ → Option (List ℕ)
after_escaped [] = None
after_escaped (b ∷ bytes) = if is_graphic b then at_white (past is_graphic bytes) else None
