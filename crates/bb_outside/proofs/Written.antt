-- A piece that is written front by front.
use Rattle.std.proofs.Common.{◌≡◌, ◌≤◌, ℕ, ◌+◌, ◌-◌, Option, List, length, take, drop, refl, ap, sym, ◌∙◌, subst, arith}
use Rattle.std.proofs.KnownBytes.{Appends-nil, Appends-trans}
use Rattle.std.proofs.Math.Seq.{take-add}
use Rattle.std.proofs.lemmas.List.{drop-drop, take_rest, length-drop}
use Rattle.std.specs.Io.KnownBytes.{Appends}

-- so many bytes of the piece are written, and the rest is still to come
pub record IsWritten (before now : Option (List ℕ)) (first last : ℕ) (piece rest : List ℕ) : Type 0 where
  pub at : ℕ
  pub within : at ≤ length piece
  pub rest_is : rest ≡ drop at piece
  pub prefix : Appends before now (take at piece)
  pub later : last ≡ first

pub IsWritten-none : (before : Option (List ℕ)) (first : ℕ) (piece : List ℕ) → IsWritten before before first first piece piece
IsWritten-none before first piece = record { at = 0; within = omega arith; rest_is = refl; prefix = Appends-nil before; later = refl }

pub IsWritten-more : (before mid now : Option (List ℕ)) (first middle last : ℕ) (piece rest : List ℕ) (n : ℕ)
    → IsWritten before mid first middle piece rest → n ≤ length rest → Appends mid now (take n rest) → last ≡ middle
    → IsWritten before now first last piece (take (length rest - n) (drop n rest))
IsWritten-more before mid now first middle last piece rest n w within prefix later =
    let length_rest : length rest ≡ length piece - w.at = ap length w.rest_is ∙ length-drop w.at piece in
    record {
      at = w.at + n;
      within = omega (arith, within, length_rest, w.within);
      rest_is = take_rest rest n ∙ ap (drop n) w.rest_is ∙ drop-drop n w.at piece;
      prefix = subst (Appends before now) (sym (take-add w.at n piece))
          (Appends-trans before mid now (take w.at piece) (take n (drop w.at piece)) w.prefix (subst (λ r. Appends mid now (take n r)) w.rest_is prefix));
      later = later ∙ w.later;
    }
