-- quantified variables, one of them and a block
use Rattle.std.proofs.Common.{zero-add, suc-add, add-zero, ◌≡◌, ◌<◌, ◌↔◌, ◌⊎◌, ℕ, zero, suc, ◌+◌, Bool, true, false, List, [], ◌∷◌, ◌++◌, length, set, refl, sym, ap, ap₂, ◌∙◌, subst, inl, inr, arith}
use Rattle.bb_bits.specs.Truth.{Truth, Bit, Halves, IsTruthTable, truth_at, lifted, joined_tables, quantified, quantified_block}
use Rattle.bb_bits.proofs.TruthPoints.{IsTruthTable-combined, combined_at_point, lifted-suc}

pub IsTruthTable-quantified : (n v : ℕ) (op : Bool → Bool → Bool) (t : Truth) → IsTruthTable n t → IsTruthTable n (quantified op v t)
IsTruthTable-quantified zero v op (Bit x) h = tt
IsTruthTable-quantified zero v op (Halves lo hi) h = absurd h
IsTruthTable-quantified (suc n) v op (Bit x) h = absurd h
IsTruthTable-quantified (suc n) zero op (Halves lo hi) h =
    let both = IsTruthTable-combined n (λ a b c. op a b) lo hi lo h.0 h.1 h.0 in
    (both, both)
IsTruthTable-quantified (suc n) (suc v) op (Halves lo hi) h = (IsTruthTable-quantified n v op lo h.0, IsTruthTable-quantified n v op hi h.1)

pub quantified_at_point : (n v : ℕ) (op : Bool → Bool → Bool) (t : Truth) (point : List Bool) → v < n → IsTruthTable n t → length point ≡ n →
    truth_at (quantified op v t) point ≡ op (truth_at t (set point v false)) (truth_at t (set point v true))
quantified_at_point zero v op t point h k e = absurd (omega (arith, h))
quantified_at_point (suc n) v op (Bit x) point h k e = absurd k
quantified_at_point (suc n) v op (Halves lo hi) [] h k e = absurd (omega (arith, e))
quantified_at_point (suc n) zero op (Halves lo hi) (false ∷ point) h k e =
    combined_at_point n (λ a b c. op a b) lo hi lo point k.0 k.1 k.0 (omega (arith, e))
quantified_at_point (suc n) zero op (Halves lo hi) (true ∷ point) h k e =
    combined_at_point n (λ a b c. op a b) lo hi lo point k.0 k.1 k.0 (omega (arith, e))
quantified_at_point (suc n) (suc v) op (Halves lo hi) (false ∷ point) h k e =
    quantified_at_point n v op lo point (omega (arith, h)) k.0 (omega (arith, e))
quantified_at_point (suc n) (suc v) op (Halves lo hi) (true ∷ point) h k e =
    quantified_at_point n v op hi point (omega (arith, h)) k.1 (omega (arith, e))

-- the join of a table with itself
joined_tables-self : (op : Bool → Bool → Bool) → ((b : Bool) → op b b ≡ b) → (t : Truth) → joined_tables op t t ≡ t
joined_tables-self op same (Bit b) = ap Bit (same b)
joined_tables-self op same (Halves lo hi) = ap₂ Halves (joined_tables-self op same lo) (joined_tables-self op same hi)

-- a variable before the first on which the table depends
pub quantified-earlier : (op : Bool → Bool → Bool) → ((b : Bool) → op b b ≡ b) → (k v : ℕ) (t : Truth) → v < k → quantified op v (lifted k t) ≡ lifted k t
quantified-earlier op same zero v t h = absurd (omega (arith, h))
quantified-earlier op same (suc k) zero t h = let e = joined_tables-self op same (lifted k t) in ap₂ Halves e e
quantified-earlier op same (suc k) (suc v) t h = let e = quantified-earlier op same k v t (omega (arith, h)) in ap₂ Halves e e

pub quantified-lifted : (op : Bool → Bool → Bool) (k v : ℕ) (t : Truth) → quantified op (k + v) (lifted k t) ≡ lifted k (quantified op v t)
quantified-lifted op zero v t = rw zero-add
quantified-lifted op (suc k) v t = rw suc-add (rw (quantified-lifted op k v t))

pub quantified-here : (op : Bool → Bool → Bool) (v : ℕ) (a b : Truth) → quantified op v (lifted v (Halves a b)) ≡ lifted (suc v) (joined_tables op a b)
quantified-here op v a b =
    ap (λ i. quantified op i (lifted v (Halves a b))) (sym (add-zero v)) ∙ (quantified-lifted op v zero (Halves a b) ∙ sym (lifted-suc v (joined_tables op a b)))

-- a block that begins after the first variable
block-halves : (op : Bool → Bool → Bool) (v k : ℕ) (lo hi : Truth) → quantified_block op (suc v) k (Halves lo hi) ≡ Halves (quantified_block op v k lo) (quantified_block op v k hi)
block-halves op v zero lo hi = refl
block-halves op v (suc k) lo hi = ap (quantified op (suc v)) (block-halves op (suc v) k lo hi)

IsTruthTable-block : (op : Bool → Bool → Bool) (n v k : ℕ) (t : Truth) → IsTruthTable n t → IsTruthTable n (quantified_block op v k t)
IsTruthTable-block op n v zero t h = h
IsTruthTable-block op n v (suc k) t h = IsTruthTable-quantified n v op (quantified_block op (suc v) k t) (IsTruthTable-block op n (suc v) k t h)

-- a block that begins with the first variable
block-first : (op : Bool → Bool → Bool) (n k : ℕ) (lo hi : Truth) (b : Bool) (rest : List Bool) → IsTruthTable n lo → IsTruthTable n hi → length rest ≡ n →
    truth_at (quantified_block op zero (suc k) (Halves lo hi)) (b ∷ rest) ≡ op (truth_at (quantified_block op zero k lo) rest) (truth_at (quantified_block op zero k hi) rest)
block-first op n k lo hi b rest lo_size hi_size long =
    ap (λ t. truth_at (quantified op zero t) (b ∷ rest)) (block-halves op zero k lo hi) ∙ (either b ∙ at_rest)
  where
    first : Truth
    first = quantified_block op zero k lo

    second : Truth
    second = quantified_block op zero k hi

    either : (b : Bool) → truth_at (Halves (joined_tables op first second) (joined_tables op first second)) (b ∷ rest) ≡ truth_at (joined_tables op first second) rest
    either false = refl
    either true = refl

    at_rest : truth_at (joined_tables op first second) rest ≡ op (truth_at first rest) (truth_at second rest)
    at_rest = let lo_table = IsTruthTable-block op n zero k lo lo_size in
        combined_at_point n (λ a b c. op a b) first second first rest lo_table (IsTruthTable-block op n zero k hi hi_size) lo_table long

length-two : (y z : List Bool) → length (y ++ z) ≡ length y + length z
length-two [] z = omega arith
length-two (b ∷ y) z = let e = length-two y z in omega (arith, e)

-- where the join has the bit exactly where both parts have it, the block has it exactly where every list of values does
module _ (op : Bool → Bool → Bool) (bit : Bool) (both : (a b : Bool) → (op a b ≡ bit) ↔ ((a ≡ bit) × (b ≡ bit))) where
  pub block_every : (n : ℕ) (t : Truth) (x y z : List Bool) → n ≡ length x + (length y + length z) → IsTruthTable n t →
      (truth_at (quantified_block op (length x) (length y) t) (x ++ (y ++ z)) ≡ bit) ↔ ((values : List Bool) → length values ≡ length y → truth_at t (x ++ (values ++ z)) ≡ bit)
  block_every n t [] [] z e h = (λ f values l. no_values values l f, λ f. f [] refl)
    where
      no_values : (values : List Bool) → length values ≡ 0 → truth_at t z ≡ bit → truth_at t (values ++ z) ≡ bit
      no_values [] l f = f
      no_values (b ∷ values) l f = absurd (omega (arith, l))
  block_every zero t [] (b ∷ y) z e h = absurd (omega (arith, e))
  block_every (suc n) (Bit a) [] (b ∷ y) z e h = absurd h
  block_every (suc n) (Halves lo hi) [] (b ∷ y) z e h =
      let first = block-first op n (length y) lo hi b (y ++ z) h.0 h.1 (length-two y z ∙ omega (arith, e)) in
      let in_lo = block_every n lo [] y z (omega (arith, e)) h.0 in
      let in_hi = block_every n hi [] y z (omega (arith, e)) h.1 in (
        λ f values l. at_values in_lo.0 in_hi.0 ((both (truth_at (quantified_block op zero (length y) lo) (y ++ z)) (truth_at (quantified_block op zero (length y) hi) (y ++ z))).0 (sym first ∙ f)) values l,
        λ f. first ∙ (both (truth_at (quantified_block op zero (length y) lo) (y ++ z)) (truth_at (quantified_block op zero (length y) hi) (y ++ z))).1
            (in_lo.1 (λ values l. f (false ∷ values) (ap suc l)), in_hi.1 (λ values l. f (true ∷ values) (ap suc l))),
      )
    where
      at_values : {P Q : Type 0} → (P → (values : List Bool) → length values ≡ length y → truth_at lo (values ++ z) ≡ bit) → (Q → (values : List Bool) → length values ≡ length y → truth_at hi (values ++ z) ≡ bit) →
          P × Q → (values : List Bool) → length values ≡ suc (length y) → truth_at (Halves lo hi) (values ++ z) ≡ bit
      at_values f g p [] l = absurd (omega (arith, l))
      at_values f g p (false ∷ values) l = f p.0 values (omega (arith, l))
      at_values f g p (true ∷ values) l = g p.1 values (omega (arith, l))
  block_every zero t (b ∷ x) y z e h = absurd (omega (arith, e))
  block_every (suc n) (Bit a) (b ∷ x) y z e h = absurd h
  block_every (suc n) (Halves lo hi) (false ∷ x) y z e h =
      subst (λ u. (truth_at u (false ∷ (x ++ (y ++ z))) ≡ bit) ↔ ((values : List Bool) → length values ≡ length y → truth_at lo (x ++ (values ++ z)) ≡ bit)) (sym (block-halves op (length x) (length y) lo hi))
      (block_every n lo x y z (omega (arith, e)) h.0)
  block_every (suc n) (Halves lo hi) (true ∷ x) y z e h =
      subst (λ u. (truth_at u (true ∷ (x ++ (y ++ z))) ≡ bit) ↔ ((values : List Bool) → length values ≡ length y → truth_at hi (x ++ (values ++ z)) ≡ bit)) (sym (block-halves op (length x) (length y) lo hi))
      (block_every n hi x y z (omega (arith, e)) h.1)

-- where the join has the bit exactly where one of the parts has it, the block has it exactly where some list of values does
module _ (op : Bool → Bool → Bool) (bit : Bool) (one : (a b : Bool) → (op a b ≡ bit) ↔ ((a ≡ bit) ⊎ (b ≡ bit))) where
  pub block_some : (n : ℕ) (t : Truth) (x y z : List Bool) → n ≡ length x + (length y + length z) → IsTruthTable n t →
      (truth_at (quantified_block op (length x) (length y) t) (x ++ (y ++ z)) ≡ bit) ↔ ((values : List Bool) × (length values ≡ length y) × (truth_at t (x ++ (values ++ z)) ≡ bit))
  block_some n t [] [] z e h = (λ f. ([], refl, f), λ f. no_values f.0 f.1 f.2)
    where
      no_values : (values : List Bool) → length values ≡ 0 → truth_at t (values ++ z) ≡ bit → truth_at t z ≡ bit
      no_values [] l f = f
      no_values (b ∷ values) l f = absurd (omega (arith, l))
  block_some zero t [] (b ∷ y) z e h = absurd (omega (arith, e))
  block_some (suc n) (Bit a) [] (b ∷ y) z e h = absurd h
  block_some (suc n) (Halves lo hi) [] (b ∷ y) z e h =
      let first = block-first op n (length y) lo hi b (y ++ z) h.0 h.1 (length-two y z ∙ omega (arith, e)) in
      let in_lo = block_some n lo [] y z (omega (arith, e)) h.0 in
      let in_hi = block_some n hi [] y z (omega (arith, e)) h.1 in (
        λ f. elim ((one (truth_at (quantified_block op zero (length y) lo) (y ++ z)) (truth_at (quantified_block op zero (length y) hi) (y ++ z))).0 (sym first ∙ f)) [
          | inl l ↦ let found = in_lo.0 l in (false ∷ found.0, ap suc found.1, found.2)
          | inr r ↦ let found = in_hi.0 r in (true ∷ found.0, ap suc found.1, found.2)
        ],
        λ f. first ∙ (one (truth_at (quantified_block op zero (length y) lo) (y ++ z)) (truth_at (quantified_block op zero (length y) hi) (y ++ z))).1 (from_values in_lo.1 in_hi.1 f.0 f.1 f.2),
      )
    where
      from_values : {P Q : Type 0} → (((values : List Bool) × (length values ≡ length y) × (truth_at lo (values ++ z) ≡ bit)) → P) → (((values : List Bool) × (length values ≡ length y) × (truth_at hi (values ++ z) ≡ bit)) → Q) →
          (values : List Bool) → length values ≡ suc (length y) → truth_at (Halves lo hi) (values ++ z) ≡ bit → P ⊎ Q
      from_values f g [] l k = absurd (omega (arith, l))
      from_values f g (false ∷ values) l k = inl (f (values, omega (arith, l), k))
      from_values f g (true ∷ values) l k = inr (g (values, omega (arith, l), k))
  block_some zero t (b ∷ x) y z e h = absurd (omega (arith, e))
  block_some (suc n) (Bit a) (b ∷ x) y z e h = absurd h
  block_some (suc n) (Halves lo hi) (false ∷ x) y z e h =
      subst (λ u. (truth_at u (false ∷ (x ++ (y ++ z))) ≡ bit) ↔ ((values : List Bool) × (length values ≡ length y) × (truth_at lo (x ++ (values ++ z)) ≡ bit))) (sym (block-halves op (length x) (length y) lo hi))
      (block_some n lo x y z (omega (arith, e)) h.0)
  block_some (suc n) (Halves lo hi) (true ∷ x) y z e h =
      subst (λ u. (truth_at u (true ∷ (x ++ (y ++ z))) ≡ bit) ↔ ((values : List Bool) × (length values ≡ length y) × (truth_at hi (x ++ (values ++ z)) ≡ bit))) (sym (block-halves op (length x) (length y) lo hi))
      (block_some n hi x y z (omega (arith, e)) h.1)
