-- Laws of sharing classes (kinds): keys have one list of classes; boxes that share nothing may each have a class of its
-- own, and boxes of one module one.
use Rattle.std.specs.Prelude.{◌≡◌, ◌≢◌, ℕ, ◌<◌, List, [], ◌∷◌, ◌++◌, length, map, AllPairs, Contains, slice_index}
use Rattle.std.specs.List.{AllZip, range_with_len, slice_index_or}
use Rattle.bb_net.specs.Flats.{PinsGoByModules}
use Rattle.bb_net.specs.Kinds.{AreKinds, FitKinds, representatives}
use Rattle.bb_net.specs.Netlists.{Pins}
use Rattle.bb_net.specs.Pairs.{BoxTexts, NamesPins}

-- there is one list of classes at most
abbrev pub KindsAreOne : Type 0
KindsAreOne = (keys : List (List ℕ)) (kinds others : List ℕ) → AreKinds keys kinds → AreKinds keys others → kinds ≡ others

-- the classes of keys that all differ are their places
abbrev pub PlacesAreKinds : Type 0
PlacesAreKinds = (keys : List (List ℕ)) → AllPairs ◌≢◌ keys → AreKinds keys (range_with_len 0 (length keys))

-- the places of boxes are classes that fit
abbrev pub PlacesFit : Type 0
PlacesFit = (boxes : List Pins) → FitKinds (range_with_len 0 (length boxes)) boxes

-- where boxes of one module have pins of the same texts, the classes by modules fit
abbrev pub ModulesFit : Type 0
ModulesFit = (texts : List BoxTexts) (boxes : List Pins) (kinds : List ℕ) → PinsGoByModules texts → AllZip NamesPins texts boxes → AreKinds (map (λ t. t.module) texts) kinds → FitKinds kinds boxes

-- a key that is among the keys already has their class, at whose number it is shown
abbrev pub KindsGrowAgain : Type 0
KindsGrowAgain = (keys : List (List ℕ)) (kinds : List ℕ) (key : List ℕ) (kind : ℕ) → AreKinds keys kinds → kind < length (representatives kinds keys) → slice_index_or (representatives kinds keys) kind [] ≡ key
    → AreKinds (keys ++ key ∷ []) (kinds ++ kind ∷ [])

-- and a new key has the next number
abbrev pub KindsGrowNew : Type 0
KindsGrowNew = (keys : List (List ℕ)) (kinds : List ℕ) (key : List ℕ) → AreKinds keys kinds → (Contains (representatives kinds keys) key → ⊥) → AreKinds (keys ++ key ∷ []) (kinds ++ length (representatives kinds keys) ∷ [])

-- at the number of a class is the key of its boxes
abbrev pub KindsShowKeys : Type 0
KindsShowKeys = (keys : List (List ℕ)) (kinds : List ℕ) (b : ℕ) → AreKinds keys kinds → b < length keys → slice_index_or (representatives kinds keys) (slice_index kinds b) [] ≡ slice_index_or keys b []

-- and no two classes have one key
abbrev pub ShownKeysDiffer : Type 0
ShownKeysDiffer = (keys : List (List ℕ)) (kinds : List ℕ) → AreKinds keys kinds → AllPairs ◌≢◌ (representatives kinds keys)
