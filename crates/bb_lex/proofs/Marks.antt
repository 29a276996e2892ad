-- The reading of marks: which mark it is, and that no longer one begins there.
use Rattle.std.proofs.Common.{◌≡◌, ◌≢◌, ℕ, Bool, true, Option, Some, None, List, [], ◌∷◌, ◌++◌, sym, refl, ap, ◌∙◌, ⊎_elim, eqb-true}
use Rattle.std.specs.Prelude.{◌&&◌, ◌==◌, bytes_eq}
use Rattle.std.specs.List.{list_all}
use Rattle.std.proofs.lemmas.Slice.Eq.{bytes_eq-Decides}
use Rattle.bb_lex.specs.declared.token.Kind.{Kind}
use Rattle.bb_lex.specs.declared.token.Kind.TheVariants.{Mark as MarkKind}
use Rattle.bb_lex.specs.declared.mark.Mark.{Mark}
use Rattle.bb_lex.specs.declared.mark.Mark.TheVariants.{LeftRound}
use Rattle.bb_lex.specs.Pieces.{written}
use Rattle.bb_lex.specs.Inside.Marks.{short_marks, long_marks, short_among, long_among, short_mark, long_mark, mark_before, longer_mark, mark_at}
use Rattle.bb_lex.proofs.Choices.{chosen, left_true, right_true, some_pair}

-- these bytes write the mark
abbrev writes : List ℕ → Mark → Bool
writes bytes mark = bytes_eq bytes (written mark)

same_bytes : (bytes : List ℕ) (mark : Mark) → writes bytes mark ≡ true → bytes ≡ written mark
same_bytes bytes mark h = (bytes_eq-Decides bytes (written mark)).0 h

short_found : (marks : List (ℕ × Mark)) (b : ℕ) (mark : Mark) → list_all (λ x. writes (x.0 ∷ []) x.1) marks ≡ true → short_among marks b ≡ Some mark → b ∷ [] ≡ written mark
short_found [] b mark all h = absurd (cc)
short_found ((x, this) ∷ marks) b mark all h =
    ⊎_elim
    (λ yes.
    let same : this ≡ mark = cc in
    ap (λ n. n ∷ []) (eqb-true b x yes.0) ∙ same_bytes (x ∷ []) this (left_true (writes (x ∷ []) this) _ all) ∙ ap written same)
    (λ miss. short_found marks b mark (right_true (writes (x ∷ []) this) _ all) miss.1)
    (chosen (b == x) (Some this) (short_among marks b) (Some mark) h)

long_found : (marks : List (ℕ × ℕ × Mark)) (b c : ℕ) (mark : Mark) → list_all (λ x. writes (x.0 ∷ x.1 ∷ []) x.2) marks ≡ true → long_among marks b c ≡ Some mark
    → b ∷ c ∷ [] ≡ written mark
long_found [] b c mark all h = absurd (cc)
long_found ((x, y, this) ∷ marks) b c mark all h =
    ⊎_elim
    (λ yes.
    let same : this ≡ mark = cc in
    let first : b ≡ x = eqb-true b x (left_true (b == x) (c == y) yes.0) in
    let second : c ≡ y = eqb-true c y (right_true (b == x) (c == y) yes.0) in
    ap (λ n. n ∷ c ∷ []) first ∙ ap (λ n. x ∷ n ∷ []) second ∙ same_bytes (x ∷ y ∷ []) this (left_true (writes (x ∷ y ∷ []) this) _ all) ∙ ap written same)
    (λ miss. long_found marks b c mark (right_true (writes (x ∷ y ∷ []) this) _ all) miss.1)
    (chosen (b == x && c == y) (Some this) (long_among marks b c) (Some mark) h)

short_sound : (b : ℕ) (mark : Mark) → short_mark b ≡ Some mark → b ∷ [] ≡ written mark
short_sound b mark h = short_found short_marks b mark refl h

long_sound : (b c : ℕ) (mark : Mark) → long_mark b c ≡ Some mark → b ∷ c ∷ [] ≡ written mark
long_sound b c mark h = long_found long_marks b c mark refl h

-- ( is none of them
short_other : (b : ℕ) (mark : Mark) → short_mark b ≡ Some mark → mark ≢ LeftRound
short_other b mark h e =
    let is : b ∷ [] ≡ 40 ∷ [] = short_sound b mark h ∙ ap written e in
    let same : b ≡ 40 = cc in
    let none : short_mark b ≡ None = ap short_mark same in
    cc

-- a mark that is no left round bracket, at the beginning
pub record IsMarkAt (text : List ℕ) (kind : Option Kind) (r : List ℕ) : Type 0 where
  pub mark : Mark
  pub kind_is : kind ≡ Some (MarkKind mark)
  pub splits : text ≡ written mark ++ r
  pub some : mark ≢ LeftRound

long_other : (b c : ℕ) (mark : Mark) → b ∷ c ∷ [] ≡ written mark → mark ≢ LeftRound
long_other b c mark is e = let no : b ∷ c ∷ [] ≡ 40 ∷ [] = is ∙ ap written e in cc

before_sound : (b : ℕ) (o : Option Mark) (rest r : List ℕ) (kind : Option Kind) → short_mark b ≡ o → mark_before o rest ≡ Some (kind, r) → IsMarkAt (b ∷ rest) kind r
before_sound b None rest r kind is h = absurd (cc)
before_sound b (Some mark) rest r kind is h =
    let both = some_pair (Some (MarkKind mark)) kind rest r h in
    record { mark = mark; kind_is = sym both.0; splits = ap (λ l. l ++ rest) (short_sound b mark is) ∙ ap (λ l. written mark ++ l) both.1; some = short_other b mark is }

longer_sound : (b c : ℕ) (o : Option Mark) (t r : List ℕ) (kind : Option Kind) → long_mark b c ≡ o → longer_mark o t (short_mark b) (c ∷ t) ≡ Some (kind, r) → IsMarkAt (b ∷ c ∷ t) kind r
longer_sound b c None t r kind is h = before_sound b (short_mark b) (c ∷ t) r kind refl h
longer_sound b c (Some mark) t r kind is h =
    let both = some_pair (Some (MarkKind mark)) kind t r h in
    let long = long_sound b c mark is in
    record { mark = mark; kind_is = sym both.0; splits = ap (λ l. l ++ t) long ∙ ap (λ l. written mark ++ l) both.1; some = long_other b c mark long }

pub mark_sound : (b : ℕ) (t r : List ℕ) (kind : Option Kind) → mark_at b t ≡ Some (kind, r) → IsMarkAt (b ∷ t) kind r
mark_sound b [] r kind h = before_sound b (short_mark b) [] r kind refl h
mark_sound b (c ∷ t) r kind h = longer_sound b c (long_mark b c) t r kind refl h
