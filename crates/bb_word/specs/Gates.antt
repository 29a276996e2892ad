-- Gates on any set of values: on bits a gate is its function (IEEE 1364-2005, 7.2 for gates and 5.1.13 for the conditional, both
-- without x and z), and on formulas it is one more operator.
use Rattle.std.specs.Prelude.{◌≡◌, Bool, true, false, not, ◌&&◌, ◌||◌, if◌then◌else◌, List, ◌∷◌, ◌++◌, map}
use Rattle.bb_bits.specs.Bits.{xor}

pub record Gates (A : Type 0) : Type 0 where
  pub zero : A
  pub one : A
  pub inverse : A → A
  pub both : A → A → A
  pub either : A → A → A
  pub differ : A → A → A
  -- the second where the first is 1, else the third
  pub choice : A → A → A → A

abbrev pub bits : Gates Bool
bits = record {
  zero = false;
  one = true;
  inverse = not;
  both = ◌&&◌;
  either = ◌||◌;
  differ = xor;
  choice = λ c t e. if c then t else e;
}

-- what a circuit makes: the bits that it gives, the least significant first, and all the cells on the way, in their order
pub record Made (A : Type 0) : Type 0 where
  pub bits : List A
  pub cells : List A

-- with more cells made before
abbrev pub after : {A : Type 0} → List A → Made A → Made A
after cells made = record { bits = made.bits; cells = cells ++ made.cells }

-- with a further bit below and the cells made for it
abbrev pub above : {A : Type 0} → A → List A → Made A → Made A
above bit cells made = record { bits = bit ∷ made.bits; cells = cells ++ made.cells }

-- f takes the gates of one set to those of another
pub record IsMap {A B : Type 0} (g : Gates A) (h : Gates B) (f : A → B) : Type 0 where
  pub zero : f g.zero ≡ h.zero
  pub one : f g.one ≡ h.one
  pub inverse : (a : A) → f (g.inverse a) ≡ h.inverse (f a)
  pub both : (a b : A) → f (g.both a b) ≡ h.both (f a) (f b)
  pub either : (a b : A) → f (g.either a b) ≡ h.either (f a) (f b)
  pub differ : (a b : A) → f (g.differ a b) ≡ h.differ (f a) (f b)
  pub choice : (c t e : A) → f (g.choice c t e) ≡ h.choice (f c) (f t) (f e)

-- all that a circuit makes, each through f
abbrev pub mapped : {A B : Type 0} → (A → B) → Made A → Made B
mapped f made = record { bits = map f made.bits; cells = map f made.cells }
