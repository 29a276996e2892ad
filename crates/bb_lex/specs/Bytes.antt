-- The classes of bytes by which a text is cut into pieces, after IEEE 1364-2005, 3.2 to 3.7. A byte is its ASCII code.
-- Carriage return counts as white space, which the standard leaves out.
use Rattle.std.specs.Prelude.{◌≡◌, ℕ, Bool, true, false, not, ◌||◌, ◌==◌, List, [], ◌∷◌, if◌then◌else◌}
use Rattle.std.specs.List.{AllByRecursion}
use Rattle.std.specs.Char.{is_ascii_alphabetic, is_ascii_digit, is_ascii_graphic}

-- the bytes that the rules name
abbrev pub tab : ℕ
tab = 9

abbrev pub newline : ℕ
newline = 10

abbrev pub form_feed : ℕ
form_feed = 12

abbrev pub carriage_return : ℕ
carriage_return = 13

abbrev pub space : ℕ
space = 32

abbrev pub quote : ℕ
quote = 34

abbrev pub dollar : ℕ
dollar = 36

abbrev pub apostrophe : ℕ
apostrophe = 39

-- )
abbrev pub right_round : ℕ
right_round = 41

abbrev pub star : ℕ
star = 42

abbrev pub slash : ℕ
slash = 47

abbrev pub question_mark : ℕ
question_mark = 63

abbrev pub backslash : ℕ
backslash = 92

abbrev pub underscore : ℕ
underscore = 95

abbrev pub back_quote : ℕ
back_quote = 96

abbrev pub is_white : ℕ → Bool
is_white b = b == space || b == tab || b == newline || b == form_feed || b == carriage_return

-- what a simple identifier begins with: a letter or _
abbrev pub begins_identifier : ℕ → Bool
begins_identifier b = is_ascii_alphabetic b || b == underscore

-- what it goes on with: letters, digits, _ and $
abbrev pub is_identifier_byte : ℕ → Bool
is_identifier_byte b = is_ascii_alphabetic b || is_ascii_digit b || b == underscore || b == dollar

-- the bytes of a run of digits with a base, right or wrong: letters, digits, _, $ and ?
abbrev pub is_word_byte : ℕ → Bool
is_word_byte b = is_identifier_byte b || b == question_mark

-- what a decimal number goes on with: digits and _
abbrev pub is_decimal_byte : ℕ → Bool
is_decimal_byte b = is_ascii_digit b || b == underscore

-- what an escaped identifier is made of: the bytes 33 to 126
abbrev pub is_graphic : ℕ → Bool
is_graphic b = is_ascii_graphic b

-- the bytes of one line: every byte but the newline
abbrev pub is_in_line : ℕ → Bool
is_in_line b = not (b == newline)

abbrev pub is_apostrophe : ℕ → Bool
is_apostrophe b = b == apostrophe

-- each byte is of the class
abbrev pub Each : (ℕ → Bool) → List ℕ → Type 0
Each is bytes = AllByRecursion (λ b. is b ≡ true) bytes

-- no byte of the class comes first: the list is at its end, or another byte comes
abbrev pub BeginsNot : (ℕ → Bool) → List ℕ → Type 0
BeginsNot is [] = Unit {0}
BeginsNot is (b ∷ bytes) = is b ≡ false

-- the list is at its end, or a byte of the class comes first
abbrev pub EndsBefore : (ℕ → Bool) → List ℕ → Type 0
EndsBefore is [] = Unit {0}
EndsBefore is (b ∷ bytes) = is b ≡ true

-- the rest after the longest run of the class at the start
abbrev pub past : (ℕ → Bool) → List ℕ → List ℕ
past is [] = []
past is (b ∷ bytes) = if is b then past is bytes else (b ∷ bytes)
