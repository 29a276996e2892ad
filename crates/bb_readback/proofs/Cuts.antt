-- A text that is written piece by piece is cut into these pieces, and its tokens have their symbols.
use Rattle.std.proofs.Common.{◌≡◌, ℕ, ◌+◌, ◌-◌, List, [], ◌∷◌, ◌++◌, length, take, drop, map, refl, ap, sym, ◌∙◌, subst, arith, append_assoc, length-append}
use Rattle.std.proofs.Math.Seq.{drop-append_seam, take-append_seam}
use Rattle.bb_lex.specs.Cut.{IsLongest, IsCutUpTo}
use Rattle.bb_lex.specs.Laws.{ReadPiecesAreLongest}
use Rattle.bb_readback.specs.Inside.Written.{Written, spelled, spelling, kind_of, piece_of, Fits, AreFit}
use Rattle.bb_readback.proofs.Prefixes.{prefix_read}

-- bytes before the same rest are the same
same_prefix : (xs ys rest : List ℕ) → xs ++ rest ≡ ys ++ rest → xs ≡ ys
same_prefix xs ys rest e =
    let long : length xs ≡ length ys = omega (arith, ap length e, length-append xs rest, length-append ys rest) in
    sym (take-append_seam xs rest) ∙ ap (take (length xs)) e ∙ ap (λ n. take n (ys ++ rest)) long ∙ take-append_seam ys rest

longest : ReadPiecesAreLongest → (w : Written) (after : List ℕ) → Fits w after → IsLongest (piece_of w) after
longest law w after fits =
    let found = law (spelled w ++ after) after (kind_of w) (prefix_read w after fits) in
    let same : found.0 ≡ spelled w = sym (same_prefix (spelled w) found.0 after found.1) in
    subst (λ (bytes : List ℕ). IsLongest (record { kind = kind_of w; bytes = bytes }) after) same found.2

pub written_cut : ReadPiecesAreLongest → (ws : List Written) (after : List ℕ) → AreFit ws after
    → IsCutUpTo (spelling ws ++ after) (map piece_of ws) after
written_cut law [] after fits = refl
written_cut law (w ∷ ws) after fits = (
  spelling ws ++ after,
  append_assoc (spelled w) (spelling ws) after,
  longest law w (spelling ws ++ after) fits.0,
  written_cut law ws after fits.1,
)

-- what is cut from a text between two others
pub between : (prefix bytes after : List ℕ)
    → (take (length prefix + length bytes - length prefix) (drop (length prefix) (prefix ++ (bytes ++ after))) ≡ bytes)
    × (drop (length prefix + length bytes) (prefix ++ (bytes ++ after)) ≡ after)
between prefix bytes after =
    let n : length prefix + length bytes - length prefix ≡ length bytes = omega arith in
    let long : length prefix + length bytes ≡ length (prefix ++ bytes) = sym (length-append prefix bytes) in (
      ap (λ k. take k (drop (length prefix) (prefix ++ (bytes ++ after)))) n
          ∙ ap (take (length bytes)) (drop-append_seam prefix (bytes ++ after)) ∙ take-append_seam bytes after,
      ap (λ k. drop k (prefix ++ (bytes ++ after))) long
          ∙ ap (drop (length (prefix ++ bytes))) (sym (append_assoc prefix bytes after)) ∙ drop-append_seam (prefix ++ bytes) after,
    )
