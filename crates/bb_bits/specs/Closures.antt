-- Walks along steps, each from one thing to another; first things in a list, and lists without repetition.
use Rattle.std.specs.Prelude.{◌≡◌, ◌≢◌, List, [], ◌∷◌, ◌++◌, AllPairs, Contains}

-- one step or more lead from one thing to another: the least transitive relation that holds for each step of the list
pub data Leads {A : Type 0} (steps : List (A × A)) : A → A → Type 0 where
  One : {x y : A} → Contains steps (x, y) → Leads steps x y
  More : {x y z : A} → Contains steps (x, y) → Leads steps y z → Leads steps x z

-- x is the first in the list of which P holds
pub record IsFirst {A : Type 0} (P : A → Type 0) (xs : List A) (x : A) : Type 0 where
  pub before : List A
  pub after : List A
  pub occurs : xs ≡ before ++ x ∷ after
  pub holds : P x
  pub earlier : (y : A) → Contains before y → P y → ⊥

-- x is the first in the list that is in it already
pub record IsFirstRepeat {A : Type 0} (xs : List A) (x : A) : Type 0 where
  pub before : List A
  pub after : List A
  pub occurs : xs ≡ before ++ x ∷ after
  pub again : Contains before x
  pub earlier : AllPairs ◌≢◌ before

-- without repetition: no element is among those after it
abbrev pub IsDistinct : {A : Type 0} → List A → Type 0
IsDistinct [] = Unit {0}
IsDistinct (x ∷ xs) = (Contains xs x → ⊥) × IsDistinct xs
