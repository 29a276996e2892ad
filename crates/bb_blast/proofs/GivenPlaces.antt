-- The place that gives each bit, noted as bits are given, is that of the first that gives it.
use Rattle.std.proofs.Common.{◌≡◌, ℕ, zero, suc, ◌<◌, ◌==◌, Bool, true, false, if◌then◌else◌, List, [], ◌∷◌, map, find, length, replicate, Some, None, refl, sym, ap, ◌∙◌, arith}
use Rattle.std.specs.Prelude.{slice_get, slice_set}
use Rattle.std.specs.Option.{option_map_or}
use Rattle.std.proofs.lemmas.List.{length-set}
use Rattle.bb_expr.specs.Laws.FitLaws.{NetNamesDiffer}
use Rattle.bb_design.specs.Hierarchy.{Design}
use Rattle.bb_design.specs.NetBits.{Bit, same_bit, net_order}
use Rattle.bb_blast.specs.Inside.Listing.{Sources, is_open, given_one, given_all, place_or_zero}
use Rattle.bb_design.specs.Inside.Allowed.{IsBounded}
use Rattle.bb_implements.specs.Places.{CellName, Constant, Numbering, Lowering, place_in}
use Rattle.bb_blast.proofs.BitNumbers.{bit_number, distinguished}
use Rattle.bb_blast.proofs.ListedParts.{pair}
use Rattle.bb_design.specs.Laws.DesignLaws.{DesignLaws}

got-set : {A : Type 0} (xs : List A) (i : ℕ) (v : A) (x : A) → slice_get xs i ≡ Some x → slice_get (slice_set xs i v) i ≡ Some v
got-set [] i v x e = absurd (grind (arith, e))
got-set (y ∷ ys) zero v x e = refl
got-set (y ∷ ys) (suc i) v x e = got-set ys i v x e

got-set_other : {A : Type 0} (xs : List A) (i k : ℕ) (v : A) → (k ≡ i → ⊥) → slice_get (slice_set xs i v) k ≡ slice_get xs k
got-set_other [] i k v ne = refl
got-set_other (y ∷ ys) zero zero v ne = absurd (ne refl)
got-set_other (y ∷ ys) zero (suc k) v ne = refl
got-set_other (y ∷ ys) (suc i) zero v ne = refl
got-set_other (y ∷ ys) (suc i) (suc k) v ne = got-set_other ys i k v (λ e. ne (ap suc e))

-- one bit
one_kept : (s : Sources) (w : ℕ × ℕ) (k p : ℕ) → slice_get s k ≡ Some (Some p) → slice_get (given_one s w) k ≡ Some (Some p)
one_kept s w k p e = by (is_open (slice_get s w.0)) refl
  where
    by : (b : Bool) → is_open (slice_get s w.0) ≡ b → slice_get (if b then slice_set s w.0 (Some w.1) else s) k ≡ Some (Some p)
    by true h = got-set_other s w.0 k (Some w.1) (λ same. let clash : false ≡ true = sym (ap is_open (ap (slice_get s) (sym same) ∙ e)) ∙ h in grind (arith, clash)) ∙ e
    by false h = e

one_other : (s : Sources) (w : ℕ × ℕ) (k : ℕ) → (k ≡ w.0 → ⊥) → slice_get (given_one s w) k ≡ slice_get s k
one_other s w k ne = by (is_open (slice_get s w.0))
  where
    by : (b : Bool) → slice_get (if b then slice_set s w.0 (Some w.1) else s) k ≡ slice_get s k
    by true = got-set_other s w.0 k (Some w.1) ne
    by false = refl

one_given : (s : Sources) (w : ℕ × ℕ) (k : ℕ) → k ≡ w.0 → slice_get s k ≡ Some None → slice_get (given_one s w) k ≡ Some (Some w.1)
one_given s w k same e =
    let here : slice_get s w.0 ≡ Some None = ap (slice_get s) (sym same) ∙ e in
    ap (slice_get (given_one s w)) same ∙ ap (λ (b : Bool). slice_get (if b then slice_set s w.0 (Some w.1) else s) w.0) (ap is_open here) ∙ got-set s w.0 (Some w.1) None here

all_kept : (ws : List (ℕ × ℕ)) (s : Sources) (k p : ℕ) → slice_get s k ≡ Some (Some p) → slice_get (given_all s ws) k ≡ Some (Some p)
all_kept [] s k p e = e
all_kept (w ∷ ws) s k p e = all_kept ws (given_one s w) k p (one_kept s w k p e)

pub given_long : (ws : List (ℕ × ℕ)) (s : Sources) → length (given_all s ws) ≡ length s
given_long [] s = refl
given_long (w ∷ ws) s = given_long ws (given_one s w) ∙ by (is_open (slice_get s w.0))
  where
    by : (b : Bool) → length (if b then slice_set s w.0 (Some w.1) else s) ≡ length s
    by true = length-set s w.0 (Some w.1)
    by false = refl

-- the first that gives a bit counts
pub first_counts : (ws : List (ℕ × ℕ)) (s : Sources) (k : ℕ) → slice_get s k ≡ Some None → place_or_zero (slice_get (given_all s ws) k) ≡ option_map_or (λ w. w.1) (find (λ w. k == w.0) ws) 0
first_counts [] s k e = ap place_or_zero e
first_counts (w ∷ ws) s k e = by (k == w.0) refl (first_counts ws (given_one s w) k)
  where
    by : (b : Bool) → (k == w.0) ≡ b
        → (slice_get (given_one s w) k ≡ Some None → place_or_zero (slice_get (given_all (given_one s w) ws) k) ≡ option_map_or (λ (z : ℕ × ℕ). z.1) (find (λ (z : ℕ × ℕ). k == z.0) ws) 0)
        → place_or_zero (slice_get (given_all (given_one s w) ws) k) ≡ option_map_or (λ (z : ℕ × ℕ). z.1) (if b then Some w else find (λ (z : ℕ × ℕ). k == z.0) ws) 0
    by true h rest = let same : k ≡ w.0 = grind (arith, h) in ap place_or_zero (all_kept ws (given_one s w) k w.1 (one_given s w k same e))
    by false h rest = rest (one_other s w k (λ same. grind (arith, h, same)) ∙ e)

got_replicate : {A : Type 0} (n k : ℕ) (x : A) → k < n → slice_get (replicate n x) k ≡ Some x
got_replicate zero k x lt = absurd (omega (arith, lt))
got_replicate (suc n) zero x lt = refl
got_replicate (suc n) (suc k) x lt = got_replicate n k x (omega (arith, lt))

module _ (of_designs : DesignLaws) (names : NetNamesDiffer) (d : Design) (bounded : IsBounded d) (lowering : Lowering) (number : Numbering) (nets start : ℕ) (zero_is : number (Constant false) ≡ 0) where
  found_same : (k : ℕ) (b : Bit) → slice_get (net_order d) k ≡ Some b → (all : List (Bit × CellName))
      → option_map_or (λ w. w.1) (find (λ w. k == w.0) (map (pair d lowering number nets start) all)) 0 ≡ number (place_in all b)
  found_same k b e [] = sym zero_is
  found_same k b e (y ∷ all) = by (same_bit b y.0) (k == bit_number d y.0) (distinguished of_designs names d bounded k b y.0 e) (found_same k b e all)
    where
      by : (s t : Bool) → s ≡ t → option_map_or (λ (w : ℕ × ℕ). w.1) (find (λ (w : ℕ × ℕ). k == w.0) (map (pair d lowering number nets start) all)) 0 ≡ number (place_in all b)
          → option_map_or (λ (w : ℕ × ℕ). w.1) (if t then Some (pair d lowering number nets start y) else find (λ (w : ℕ × ℕ). k == w.0) (map (pair d lowering number nets start) all)) 0
          ≡ number (option_map_or (λ (x : Bit × CellName). x.1) (if s then Some y else find (λ (x : Bit × CellName). same_bit b x.0) all) (Constant false))
      by true true same rest = refl
      by false false same rest = rest
      by true false same rest = absurd (grind (arith, same))
      by false true same rest = absurd (grind (arith, same))

  -- what is noted for a bit
  pub noted : (total k : ℕ) (b : Bit) → k < total → slice_get (net_order d) k ≡ Some b → (all : List (Bit × CellName))
      → place_or_zero (slice_get (given_all (replicate total None) (map (pair d lowering number nets start) all)) k) ≡ number (place_in all b)
  noted total k b fits e all = first_counts (map (pair d lowering number nets start) all) (replicate total None) k (got_replicate total k None fits) ∙ found_same k b e all
