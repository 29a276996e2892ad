-- Lists of bits, the most significant first, whatever a bit is.
use Rattle.std.specs.Prelude.{ℕ, zero, suc, ◌-◌, List, [], ◌∷◌, ◌++◌, length, replicate}

-- filled with zeros on the left
abbrev pub extended : {A : Type 0} → A → ℕ → List A → List A
extended null w bits = replicate (w - length bits) null ++ bits

-- copies side by side, for a replication
abbrev pub copies : {A : Type 0} → ℕ → List A → List A
copies zero bits = []
copies (suc k) bits = bits ++ copies k bits

-- bit by bit
abbrev pub bitwise : {A : Type 0} → (A → A → A) → List A → List A → List A
bitwise op [] cs = []
bitwise op (b ∷ bs) [] = []
bitwise op (b ∷ bs) (c ∷ cs) = op b c ∷ bitwise op bs cs
