-- What was before stays at the beginning.
use Rattle.std.proofs.Common.{◌≡◌, ◌≤◌, ℕ, ◌+◌, List, ◌++◌, length, take, Result, Ok, Err, OnErr, sym, ◌∙◌, ap, arith, length-append}
use Rattle.std.proofs.Math.Seq.{take-append_seam}
use Rattle.std.proofs.lemmas.List.{take-take}
use Rattle.bb_cnf.specs.Inside.Printed.{IsKept}

pub kept_after : (old mid new text : List ℕ) → mid ≡ old ++ text → IsKept mid new → IsKept old new
kept_after old mid new text grown kept =
    let longer : length mid ≡ length old + length text = ap length grown ∙ length-append old text in
    let shorter : length old ≤ length mid = omega (arith, longer) in
    sym (take-take (length old) (length mid) new shorter)
    ∙ ap (take (length old)) (kept ∙ grown)
    ∙ take-append_seam old text

pub kept_on_err : {T E : Type 0} (r : Result T E) (old mid new text : List ℕ) → mid ≡ old ++ text → IsKept mid new → OnErr r (IsKept old new)
kept_on_err (Ok x) old mid new text grown kept = tt
kept_on_err (Err e) old mid new text grown kept = kept_after old mid new text grown kept
