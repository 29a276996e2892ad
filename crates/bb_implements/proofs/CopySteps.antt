-- Steps along copies in a list of cells.
use Rattle.std.proofs.Common.{◌≡◌, ◌⊎◌, ℕ, ◌<◌, List, [], map, length, get_or, Contains, sym, ap, ◌∙◌, subst, inl, inr, arith}
use Rattle.std.specs.List.{enumerate_from}
use Rattle.bb_net.specs.declared.loose.LooseCell.{LooseCell}
use Rattle.bb_net.specs.declared.loose.LooseCell.TheVariants.{Const, Input, Not, And, Or, Xor, Mux, BoxOut, Copy}
use Rattle.bb_implements.specs.Inside.ReadPlaces.{copied_by, copy_steps}
use Rattle.bb_lemmas.proofs.Members.{from_flat, from_map, contains-map, into_flat, contains_here, contains_cases, none_in_nil}
use Rattle.bb_lemmas.proofs.Numbered.{enumerated_from, numbered_at}

copied_is : (c : LooseCell) (k : ℕ) → Contains (copied_by c) k → c ≡ Copy k
copied_is (Const b) k has = absurd (none_in_nil k has)
copied_is (Input i) k has = absurd (none_in_nil k has)
copied_is (Not a) k has = absurd (none_in_nil k has)
copied_is (And a b) k has = absurd (none_in_nil k has)
copied_is (Or a b) k has = absurd (none_in_nil k has)
copied_is (Xor a b) k has = absurd (none_in_nil k has)
copied_is (Mux c t e) k has = absurd (none_in_nil k has)
copied_is (BoxOut b p) k has = absurd (none_in_nil k has)
copied_is (Copy p) k has = by (contains_cases p [] k has)
  where
    by : (p ≡ k) ⊎ Contains [] k → Copy p ≡ Copy k
    by (inl same) = ap Copy same
    by (inr none) = absurd (none_in_nil k none)

-- the steps of copies
pub copy_to : (cells : List LooseCell) (j k : ℕ) (c : LooseCell) → j < length cells → get_or cells j c ≡ Copy k → Contains (copy_steps cells) (j, k)
copy_to cells j k c lt is =
    into_flat (λ (x : ℕ × LooseCell). map (λ k. (x.0, k)) (copied_by x.1)) (enumerate_from 0 cells) (j, get_or cells j c) (j, k) (numbered_at cells j c lt)
    (contains-map (λ k. (j, k)) (copied_by (get_or cells j c)) k (subst (λ u. Contains (copied_by u) k) (sym is) (contains_here k [])))

pub copy_from : (cells : List LooseCell) (j k : ℕ) (c : LooseCell) → Contains (copy_steps cells) (j, k) → (j < length cells) × (get_or cells j c ≡ Copy k)
copy_from cells j k c has =
    let x = from_flat (λ (x : ℕ × LooseCell). map (λ k. (x.0, k)) (copied_by x.1)) (enumerate_from 0 cells) (j, k) has in
    let y = from_map (λ k. (x.0.0, k)) (copied_by x.0.1) (j, k) x.2 in
    let e = enumerated_from 0 cells x.0.0 x.0.1 x.1 in
    let place : e.0 ≡ j = omega (arith, e.1, ap (λ (z : ℕ × ℕ). z.0) y.2) in
    (omega (arith, place, e.2), ap (λ i. get_or cells i c) (sym place) ∙ e.3 c ∙ copied_is x.0.1 k (subst (Contains (copied_by x.0.1)) (ap (λ (z : ℕ × ℕ). z.1) y.2) y.1))

pub copies_one : (a b : ℕ) → Copy a ≡ Copy b → a ≡ b
copies_one a b e = grind (arith, e)
