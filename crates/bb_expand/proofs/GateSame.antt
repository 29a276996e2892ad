-- A gate's bit goes by the bits that it reads and by what its box gives.
use Rattle.std.proofs.Common.{◌≡◌, ℕ, ◌<◌, Bool, not, List, [], ◌∷◌, map, All, refl, ap, ◌∙◌}
use Rattle.std.proofs.lemmas.List.Elements.{All-head, All-tail}
use Rattle.bb_net.specs.declared.cell.Cell.{Cell}
use Rattle.bb_net.specs.declared.cell.Cell.TheVariants.{Const, Input, Not, And, Or, Xor, Mux, BoxOut}
use Rattle.bb_net.specs.Netlists.{Pins, box_at, ReadsBefore}
use Rattle.bb_net.specs.Values.{gate}

map_same : (f g : ℕ → Bool) (place : ℕ) → ((k : ℕ) → k < place → f k ≡ g k) → (xs : List ℕ) → All (λ k. k < place) xs → map f xs ≡ map g xs
map_same f g place same [] h = refl
map_same f g place same (x ∷ xs) h =
    let first = same x (All-head (λ k. k < place) x xs h) in
    let rest = map_same f g place same xs (All-tail (λ k. k < place) x xs h) in
    cc

pub gate_same : (inputs : ℕ) (boxes : List Pins) (x : List Bool) (one other : ℕ → ℕ → List Bool → Bool) (f g : ℕ → Bool) (place : ℕ) (cell : Cell) → ReadsBefore inputs boxes place cell
    → ((k : ℕ) → k < place → f k ≡ g k) → ((b p : ℕ) → cell ≡ BoxOut b p → one b p (map g (box_at boxes b).ins) ≡ other b p (map g (box_at boxes b).ins))
    → gate boxes x one f cell ≡ gate boxes x other g cell
gate_same inputs boxes x one other f g place (Const b) h same box = refl
gate_same inputs boxes x one other f g place (Input i) h same box = refl
gate_same inputs boxes x one other f g place (Not a) h same box = ap not (same a h)
gate_same inputs boxes x one other f g place (And a b) h same box = let p = same a h.0 in let q = same b h.1 in cc
gate_same inputs boxes x one other f g place (Or a b) h same box = let p = same a h.0 in let q = same b h.1 in cc
gate_same inputs boxes x one other f g place (Xor a b) h same box = let p = same a h.0 in let q = same b h.1 in cc
gate_same inputs boxes x one other f g place (Mux a b c) h same box = let p = same a h.0 in let q = same b h.1 in let r = same c h.2 in cc
gate_same inputs boxes x one other f g place (BoxOut b p) h same box = ap (one b p) (map_same f g place same (box_at boxes b).ins h) ∙ box b p refl
