-- Lane k of a word is its bit of the weight 2^k; a pass has a pattern in each lane. A value in three values is two
-- words: the lanes where it is known to be 1, and those where it is known to be 0.
use Rattle.std.specs.Prelude.{◌≡◌, ℕ, ◌<◌, Bool, true, false, ◌==◌, MatchBool, List, Option, Some, None, slice_index_or, slice_index, length, []}
use Rattle.std.specs.Int.{bit_at}
use Rattle.bb_net.specs.declared.cell.Cell.{Cell}
use Rattle.bb_bits.specs.Bits.{xor}
use Rattle.bb_net.specs.Netlists.{Netlist, ReadsBefore, cell_at}
use Rattle.bb_net.specs.Values.{bit_of, gate, flat}
use Rattle.bb_net.specs.Ternary.{tern_of, gate3, tern}
use Rattle.bb_net.specs.Equivalence.{IsOutput}
use Rattle.bb_net.specs.Pairs.{NetPair}
use Rattle.bb_net.specs.Conditions.{MayBeRight, IsKnownWrong}
use Rattle.bb_tern.specs.declared.lanes.Known.{Known}

abbrev pub lane : ℕ → ℕ → Bool
lane word k = bit_at word k == 1

abbrev pub is_one : Option Bool → Bool
is_one None = false
is_one (Some b) = b

abbrev pub is_zero : Option Bool → Bool
is_zero None = false
is_zero (Some true) = false
is_zero (Some false) = true

-- in lane k it is this value
abbrev pub Holds : Known → ℕ → Option Bool → Type 0
Holds x k value = (lane x.one k ≡ is_one value) × (lane x.zero k ≡ is_zero value)

-- the word at a place
abbrev pub word_at : List ℕ → ℕ → ℕ
word_at words place = slice_index_or words place 0

abbrev pub known_at : List Known → ℕ → Known
known_at values place = slice_index_or values place (record { one = 0; zero = 0 })

-- the bits that words have in lane k, by their places
abbrev pub bits_in : List ℕ → ℕ → ℕ → Bool
bits_in words k place = lane (word_at words place) k

-- lane k of the words has the bits of a pattern
abbrev pub HasPattern : List ℕ → ℕ → List Bool → Type 0
HasPattern words k x = (i : ℕ) → lane (word_at words i) k ≡ bit_of x i

-- lane k of the words below a bound has these bits, or these values
abbrev pub HasBits : List ℕ → ℕ → ℕ → (ℕ → Bool) → Type 0
HasBits words bound k bit = (place : ℕ) → place < bound → lane (word_at words place) k ≡ bit place

abbrev pub HasValues : List Known → ℕ → ℕ → (ℕ → Option Bool) → Type 0
HasValues values bound k value = (place : ℕ) → place < bound → Holds (known_at values place) k (value place)

-- what a cell gives in each lane, whatever the pattern and the operands before a bound are there
abbrev pub GivesWord : List ℕ → List ℕ → Cell → ℕ → Type 0
GivesWord ins out cell result = (bound k : ℕ) (x : List Bool) (bit : ℕ → Bool) → ReadsBefore (length ins) [] bound cell → k < 64
    → HasPattern ins k x → HasBits out bound k bit → lane result k ≡ gate [] x (λ b p ins. false) bit cell

abbrev pub GivesKnown : List ℕ → List Known → Cell → Known → Type 0
GivesKnown ins out cell result = (bound k : ℕ) (x : List Bool) (value : ℕ → Option Bool) → ReadsBefore (length ins) [] bound cell → k < 64
    → HasPattern ins k x → HasValues out bound k value → Holds result k (gate3 x value cell)

-- the pattern with a number
abbrev pub pattern_at : List (List Bool) → ℕ → List Bool
pattern_at patterns k = slice_index_or patterns k []

-- a value is known and is not the bit that is wanted
abbrev pub is_known_wrong : Bool → Option Bool → Bool
is_known_wrong wanted None = false
is_known_wrong wanted (Some b) = xor wanted b

-- so at an output, by the bits of the specification's cells and the values of the implementation's
abbrev pub wrong_at : (ℕ → Bool) → (ℕ → Option Bool) → List ℕ → List ℕ → ℕ → Bool
wrong_at bit value spec_outs imp_outs j = is_known_wrong (bit (slice_index spec_outs j)) (value (slice_index imp_outs j))

-- pattern k is the first at which some output is known and wrong, and j the first such output there
pub record IsHitAt (spec imp : Netlist) (patterns : List (List Bool)) (k j : ℕ) : Type 0 where
  pub inside : k < length patterns
  pub earlier : (i : ℕ) → i < k → (o : ℕ) → IsOutput imp o → MayBeRight spec imp (pattern_at patterns i) o
  pub there : IsOutput imp j
  pub wrong : IsKnownWrong spec imp (pattern_at patterns k) j
  pub first : (o : ℕ) → o < j → MayBeRight spec imp (pattern_at patterns k) o

-- at no pattern
abbrev pub NoneIsHit : Netlist → Netlist → List (List Bool) → Type 0
NoneIsHit spec imp patterns = (i : ℕ) → i < length patterns → (o : ℕ) → IsOutput imp o → MayBeRight spec imp (pattern_at patterns i) o

-- the bits are those of the cells for a pattern, and the values their values
abbrev pub AreBitsOf : List Cell → List Bool → (ℕ → Bool) → Type 0
AreBitsOf cells x bit = (place : ℕ) → place < length cells → bit place ≡ gate [] x (λ b p ins. false) bit (cell_at cells place)

abbrev pub AreValuesOf : List Cell → List Bool → (ℕ → Option Bool) → Type 0
AreValuesOf cells x value = (place : ℕ) → place < length cells → value place ≡ gate3 x value (cell_at cells place)

-- in each lane the words below a bound have the bits of the cells for its pattern, and the values their values
abbrev pub AreWords : List Cell → List ℕ → List ℕ → ℕ → Type 0
AreWords cells ins out bound = (k : ℕ) (x : List Bool) (bit : ℕ → Bool) → k < 64 → HasPattern ins k x → AreBitsOf cells x bit → HasBits out bound k bit

abbrev pub AreKnowns : List Cell → List ℕ → List Known → ℕ → Type 0
AreKnowns cells ins out bound = (k : ℕ) (x : List Bool) (value : ℕ → Option Bool) → k < 64 → HasPattern ins k x → AreValuesOf cells x value → HasValues out bound k value

-- lane k of a word is 1 where one of the first outputs is wrong
abbrev pub ReportsWrong : (ℕ → Bool) → (ℕ → Option Bool) → List ℕ → List ℕ → ℕ → ℕ → ℕ → Type 0
ReportsWrong bit value spec_outs imp_outs count word k = MatchBool (lane word k)
    ((j : ℕ) × (j < count) × (wrong_at bit value spec_outs imp_outs j ≡ true))
    ((j : ℕ) → j < count → wrong_at bit value spec_outs imp_outs j ≡ false)

-- in all lanes, by the words of the cells
abbrev pub ReportsAll : List ℕ → List ℕ → List ℕ → List Known → ℕ → Type 0
ReportsAll spec_outs imp_outs wanted known word = (k : ℕ) (bit : ℕ → Bool) (value : ℕ → Option Bool) → k < 64
    → HasBits wanted (length wanted) k bit → HasValues known (length known) k value → ReportsWrong bit value spec_outs imp_outs (length imp_outs) word k

-- the first output that is wrong in lane k, if one is
abbrev pub IsFirstWrong : (ℕ → Bool) → (ℕ → Option Bool) → List ℕ → List ℕ → Option ℕ → Type 0
IsFirstWrong bit value spec_outs imp_outs None = (j : ℕ) → j < length imp_outs → wrong_at bit value spec_outs imp_outs j ≡ false
IsFirstWrong bit value spec_outs imp_outs (Some j) =
    (j < length imp_outs) × (wrong_at bit value spec_outs imp_outs j ≡ true) × ((i : ℕ) → i < j → wrong_at bit value spec_outs imp_outs i ≡ false)

abbrev pub FindsFirst : List ℕ → List ℕ → List ℕ → List Known → ℕ → Option ℕ → Type 0
FindsFirst spec_outs imp_outs wanted known k found = (bit : ℕ → Bool) (value : ℕ → Option Bool)
    → HasBits wanted (length wanted) k bit → HasValues known (length known) k value → IsFirstWrong bit value spec_outs imp_outs found

-- the lane of each pattern has the bits of the specification's cells, and the values of the implementation's
abbrev pub AreFilled : Netlist → Netlist → List (List Bool) → List ℕ → List Known → Type 0
AreFilled spec imp patterns wanted known = (k : ℕ) → k < length patterns →
    HasBits wanted (length wanted) k (bit_of (flat spec (pattern_at patterns k) []))
    × HasValues known (length known) k (tern_of (tern imp (pattern_at patterns k)))

-- there is a word for each input and each cell
pub record HasRoom (pair : NetPair) (ins wanted : List ℕ) (known : List Known) : Type 0 where
  pub for_inputs : length ins ≡ pair.imp.inputs
  pub for_spec : length wanted ≡ length pair.spec.cells
  pub for_imp : length known ≡ length pair.imp.cells
