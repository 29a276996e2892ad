-- The lines of a text by their bytes: whether one begins with `t`, and bytes after which a text goes on.
use Rattle.std.proofs.Common.{◌≡◌, ◌≤◌, ◌∙◌, ℕ, zero, suc, ◌+◌, ◌/◌, ◌%◌, Bool, true, false, not, ◌&&◌, if◌then◌else◌, List, [], ◌∷◌, ◌++◌, replicate, append_assoc, refl, sym, ap, subst, inl, inr, arith, true≢false}
use Rattle.std.specs.Prelude.{◌==◌, codes, decimal, nat_lt}
use Rattle.std.specs.Fmt.{digits, digits_onto, digit_glyph}
use Rattle.std.specs.List.{AllByRecursion}
use Rattle.std.proofs.lemmas.List.{append-nil}
use Rattle.bb_lemmas.proofs.Bits.{and_right}
use Rattle.bb_bits.specs.Names.{IsPrintable}
use Rattle.bb_verdict.specs.FilledTexts.{HasNoLine}

-- no line begins with `t`, where the first byte begins a line or not
abbrev pub begin_apart : Bool → List ℕ → Bool
begin_apart begins [] = true
begin_apart begins (byte ∷ bytes) = not (begins && (byte == 116)) && begin_apart (byte == 10) bytes

-- whether a line begins after the bytes
abbrev pub begins_after : Bool → List ℕ → Bool
begins_after begins [] = begins
begins_after begins (byte ∷ bytes) = begins_after (byte == 10) bytes

-- after the bytes a text goes on, at the beginning of a line or not
pub record Goes (from : Bool) (text : List ℕ) (to : Bool) : Type 0 where
  pub on : (rest : List ℕ) → begin_apart to rest ≡ true → begin_apart from (text ++ rest) ≡ true

pub chain : {a b c : Bool} {xs ys : List ℕ} → Goes a xs b → Goes b ys c → Goes a (xs ++ ys) c
chain {a} {b} {c} {xs} {ys} first second = record { on = λ rest is. subst (λ z. begin_apart a z ≡ true) (sym (append_assoc xs ys rest)) (first.on (ys ++ rest) (second.on rest is)) }

pub whole_text : (a b : Bool) (text : List ℕ) → Goes a text b → begin_apart a text ≡ true
whole_text a b text goes = subst (λ z. begin_apart a z ≡ true) (append-nil text) (goes.on [] nothing_more)
  where
    nothing_more : begin_apart b [] ≡ true
    nothing_more = refl

-- bytes within a line, at its beginning and at its end
abbrev pub Quiet : List ℕ → Type 0
Quiet text = Goes false text false

pub within : (text : List ℕ) → ((rest : List ℕ) → begin_apart false rest ≡ true → begin_apart false (text ++ rest) ≡ true) → Quiet text
within text goes = record { on = goes }

pub starts : (text : List ℕ) → ((rest : List ℕ) → begin_apart false rest ≡ true → begin_apart true (text ++ rest) ≡ true) → Goes true text false
starts text goes = record { on = goes }

pub closes : (text : List ℕ) → ((rest : List ℕ) → begin_apart true rest ≡ true → begin_apart false (text ++ rest) ≡ true) → Goes false text true
closes text goes = record { on = goes }

pub nothing_quiet : Quiet []
nothing_quiet = record { on = λ rest is. is }

no_feed : (byte : ℕ) → 33 ≤ byte → (byte == 10) ≡ false
no_feed byte high = by (byte == 10) refl
  where
    far : byte ≡ 10 → ⊥
    far e = omega (arith, high, e)

    by : (b : Bool) → (byte == 10) ≡ b → b ≡ false
    by false is = refl
    by true is = absurd (far (grind (arith, is)))

pub quiet_byte : (byte : ℕ) (bytes : List ℕ) → 33 ≤ byte → Quiet bytes → Quiet (byte ∷ bytes)
quiet_byte byte bytes high quiet = record { on = λ rest is. subst (λ b. begin_apart b (bytes ++ rest) ≡ true) (sym (no_feed byte high)) (quiet.on rest is) }

printable_bytes : (name : List ℕ) → AllByRecursion (λ b. (33 ≤ b) × (b ≤ 126)) name → Quiet name
printable_bytes [] all = nothing_quiet
printable_bytes (byte ∷ bytes) all = quiet_byte byte bytes all.0.0 (printable_bytes bytes all.1)

pub quiet_printable : (name : List ℕ) → IsPrintable name → Quiet name
quiet_printable name printable = printable_bytes name printable.1

pub run_quiet : (n : ℕ) → Quiet (replicate n 95)
run_quiet zero = nothing_quiet
run_quiet (suc n) = quiet_byte 95 (replicate n 95) (omega arith) (run_quiet n)

-- numbers

high_digit : (d : ℕ) → 33 ≤ digit_glyph false d
high_digit d = by (nat_lt d 10)
  where
    by : (b : Bool) → 33 ≤ (if b then 48 + d else (if false then 55 + d else 87 + d))
    by true = omega arith
    by false = omega arith

digits_quiet : (k n : ℕ) (after : List ℕ) → Quiet after → Quiet (digits_onto k 10 false n after)
digits_quiet zero n after quiet = quiet
digits_quiet (suc k) n after quiet =
    let more = quiet_byte (digit_glyph false (n % 10)) after (high_digit (n % 10)) quiet in
    by (n / 10 == 0) more (digits_quiet k (n / 10) (digit_glyph false (n % 10) ∷ after) more)
  where
    by : (b : Bool) → Quiet (digit_glyph false (n % 10) ∷ after) → Quiet (digits_onto k 10 false (n / 10) (digit_glyph false (n % 10) ∷ after))
        → Quiet (if b then digit_glyph false (n % 10) ∷ after else digits_onto k 10 false (n / 10) (digit_glyph false (n % 10) ∷ after))
    by true more rest = more
    by false more rest = rest

pub decimal_quiet : (n : ℕ) → Quiet (decimal n)
unfolding digits
decimal_quiet n = digits_quiet 64 n [] nothing_quiet

-- a text in which no line begins so has none that begins as that of a table

found : (begins : Bool) (before after : List ℕ) → begins_after begins before ≡ true → begin_apart begins (before ++ codes "table" ++ after) ≡ true → ⊥
found true [] after at is = true≢false (sym is)
found false [] after at is = true≢false (sym at)
found begins (byte ∷ before) after at is = found (byte == 10) before after at (and_right (not (begins && (byte == 116))) _ is)

after_feed : (begins : Bool) (prefix : List ℕ) → begins_after begins (prefix ++ codes "\n") ≡ true
after_feed begins [] = refl
after_feed begins (byte ∷ prefix) = after_feed (byte == 10) prefix

pub no_table_line : (text : List ℕ) → begin_apart true text ≡ true → HasNoLine (codes "table") text
no_table_line text is before after e (inl none) = found true before after (ap (begins_after true) none) (subst (λ z. begin_apart true z ≡ true) e is)
no_table_line text is before after e (inr (prefix, same)) = found true before after (ap (begins_after true) same ∙ after_feed true prefix) (subst (λ z. begin_apart true z ≡ true) e is)
