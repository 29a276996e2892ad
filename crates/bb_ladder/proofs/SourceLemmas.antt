-- What the reads of a call gave is what the files hold, up to the limit, or what is reported of the reads.
use Rattle.std.proofs.Common.{◌≡◌, ◌<◌, ◌≤◌, ℕ, List, [], ◌∷◌, ◌++◌, length, take, Option, Some, None, option_map, arith, refl, sym, ◌∙◌, ap, subst, append_assoc}
use Rattle.std.proofs.lemmas.List.{append_cancel_left, length-take, take_all}
use Rattle.bb_outside.specs.Counts.{FileRead, IsRead, Reads}
use Rattle.bb_frontend.specs.declared.limit.TheConstants.{READ_LIMIT}
use Rattle.bb_ladder.specs.Answers.{AreHeldBytes}
use Rattle.bb_ladder.specs.Sources.{AreBytes, Given, Held, IsFirstFile, MayHaveFailed, TextSource, WereRead, read_of}

-- a front that is shorter than the limit is the whole
whole_prefix : (n : ℕ) (text prefix : List ℕ) → prefix ≡ take n text → length prefix < n → prefix ≡ text
whole_prefix n text prefix e short =
    let l = length-take n text in let m = ap length e in e ∙ take_all n text (omega arith)

-- what is read of a text as long as the limit or longer
long_prefix : (n : ℕ) (text prefix : List ℕ) → prefix ≡ take n text → length prefix ≡ n → n ≤ length text
long_prefix n text prefix e full = omega (arith, length-take n text, ap length e, full)

-- what a read gave of a file of these bytes
abbrev pub IsGiven : TextSource → List ℕ → List ℕ → Type 0
IsGiven Held bytes text = bytes ≡ take READ_LIMIT text
IsGiven Given bytes text = bytes ≡ text

pub given_whole : (from : TextSource) (bytes text : List ℕ) → IsGiven from bytes text → length bytes < READ_LIMIT → bytes ≡ text
given_whole Held bytes text g short = whole_prefix READ_LIMIT text bytes g short
given_whole Given bytes text g short = g

pub given_long : (from : TextSource) (bytes text : List ℕ) → IsGiven from bytes text → length bytes ≡ READ_LIMIT → READ_LIMIT ≤ length text
given_long Held bytes text g full = long_prefix READ_LIMIT text bytes g full
given_long Given bytes text g full = at_least READ_LIMIT bytes text g full
  where
    at_least : (n : ℕ) (bytes text : List ℕ) → bytes ≡ text → length bytes ≡ n → n ≤ length text
    at_least n bytes text e full = omega (arith, ap length e, full)

never_both : (m n : ℕ) → n ≤ m → m < n → ⊥
never_both m n long short = omega (arith, long, short)

pub given_never_long : (from : TextSource) (bytes text : List ℕ) → IsGiven from bytes text → length bytes ≡ READ_LIMIT → length text < READ_LIMIT → ⊥
given_never_long from bytes text g full short = never_both (length text) READ_LIMIT (given_long from bytes text g full) short

pub given_never_short : (from : TextSource) (bytes text : List ℕ) → IsGiven from bytes text → length bytes < READ_LIMIT → READ_LIMIT ≤ length text → ⊥
given_never_short from bytes text g short long = never_both (length text) READ_LIMIT long (subst (λ z. length z < READ_LIMIT) (given_whole from bytes text g short) short)

-- what is reported after one read and after two

pub reported_after_one : (before after : Reads) (first : List ℕ) (gave : Option (List ℕ)) (earlier : List FileRead) → IsRead before after first READ_LIMIT (Some gave) → before.reported ≡ Some earlier
    → after.reported ≡ Some (earlier ++ record { name = first; limit = READ_LIMIT; gave = gave } ∷ [])
reported_after_one before after first gave earlier read e = read.reported ∙ ap (option_map (λ reported. reported ++ record { name = first; limit = READ_LIMIT; gave = gave } ∷ [])) e

pub reported_after_two : (before between after : Reads) (first second : List ℕ) (gave other : Option (List ℕ)) (earlier : List FileRead) → IsRead before between first READ_LIMIT (Some gave) → IsRead between after second READ_LIMIT (Some other) → before.reported ≡ Some earlier
    → after.reported ≡ Some (earlier ++ record { name = first; limit = READ_LIMIT; gave = gave } ∷ record { name = second; limit = READ_LIMIT; gave = other } ∷ [])
reported_after_two before between after first second gave other earlier read more e =
    reported_after_one between after second other (earlier ++ record { name = first; limit = READ_LIMIT; gave = gave } ∷ []) more (reported_after_one before between first gave earlier read e)
    ∙ ap (λ z. Some z) (append_assoc earlier (record { name = first; limit = READ_LIMIT; gave = gave } ∷ []) (record { name = second; limit = READ_LIMIT; gave = other } ∷ []))

-- the reads of a call are one list
one_list : (before after : Reads) (earlier reads : List FileRead) → before.reported ≡ Some earlier → after.reported ≡ Some (earlier ++ reads) → (others : List FileRead) → WereRead before after others → reads ≡ others
one_list before after earlier reads e f others (known, g, h) = append_cancel_left earlier reads others (both earlier known reads others before.reported after.reported e f g h)
  where
    both : (a b xs ys : List FileRead) (p q : Option (List FileRead)) → p ≡ Some a → q ≡ Some (a ++ xs) → p ≡ Some b → q ≡ Some (b ++ ys) → a ++ xs ≡ a ++ ys
    both a b xs ys p q e f g h = let same : b ≡ a = cc in cc

pub were_one : (before after : Reads) (reads others : List FileRead) → WereRead before after reads → WereRead before after others → reads ≡ others
were_one before after reads others (earlier, e, f) were = one_list before after earlier reads e f others were

-- two lists of reads with the same bytes at their places
same_head : (r q : FileRead) (rs qs : List FileRead) → r ∷ rs ≡ q ∷ qs → r ≡ q
same_head r q rs qs e = cc e

same_tail : (r q : FileRead) (rs qs : List FileRead) → r ∷ rs ≡ q ∷ qs → rs ≡ qs
same_tail r q rs qs e = cc e

first_gave : (first a : List ℕ) (gave : Option (List ℕ)) (rs qs : List FileRead) → record { name = first; limit = READ_LIMIT; gave = gave } ∷ rs ≡ read_of first a ∷ qs → gave ≡ Some a
first_gave first a gave rs qs e = ap (λ (r : FileRead). r.gave) (same_head (record { name = first; limit = READ_LIMIT; gave = gave }) (read_of first a) rs qs e)

second_gave : (first second a b : List ℕ) (gave other : Option (List ℕ)) → record { name = first; limit = READ_LIMIT; gave = gave } ∷ record { name = second; limit = READ_LIMIT; gave = other } ∷ [] ≡ read_of first a ∷ read_of second b ∷ [] → other ≡ Some b
second_gave first second a b gave other e = first_gave second b other [] [] (same_tail (record { name = first; limit = READ_LIMIT; gave = gave }) (read_of first a) _ _ e)

gave_same : (bytes text : List ℕ) → Some bytes ≡ Some text → bytes ≡ text
gave_same bytes text e = cc

gave_none : (text : List ℕ) → None ≡ Some text → ⊥
gave_none text e = cc e

-- the reads of a call against the bytes of its files

module _ (holds : List ℕ → Option (List ℕ)) (first second : List ℕ) where
  -- who knows both knows the first
  pub first_of_both : (from : TextSource) (before after : Reads) (a b : List ℕ) → AreBytes from holds before after first second a b → IsFirstFile from holds before after first a
  first_of_both Held before after a b bytes = bytes.0
  first_of_both Given before after a b were = (read_of second b ∷ [], were)

  -- after the first read
  pub given_alone : (from : TextSource) (before after : Reads) (a bytes : List ℕ) → IsFirstFile from holds before after first a → AreHeldBytes (holds first) bytes → IsRead before after first READ_LIMIT (Some (Some bytes)) → IsGiven from bytes a
  given_alone Held before after a bytes held gives read = rw held at gives
  given_alone Given before after a bytes (later, (earlier, e, f)) gives read =
      gave_same bytes a (first_gave first a (Some bytes) [] later (one_list before after earlier _ e (reported_after_one before after first (Some bytes) earlier read e) _ (earlier, e, f)))

  -- after both
  pub given_first : (from : TextSource) (before between after : Reads) (a bytes : List ℕ) (other : Option (List ℕ)) → IsFirstFile from holds before after first a → AreHeldBytes (holds first) bytes
      → IsRead before between first READ_LIMIT (Some (Some bytes)) → IsRead between after second READ_LIMIT (Some other) → IsGiven from bytes a
  given_first Held before between after a bytes other held gives read more = rw held at gives
  given_first Given before between after a bytes other (later, (earlier, e, f)) gives read more =
      gave_same bytes a (first_gave first a (Some bytes) (record { name = second; limit = READ_LIMIT; gave = other } ∷ []) later (one_list before after earlier _ e (reported_after_two before between after first second (Some bytes) other earlier read more e) _ (earlier, e, f)))

  pub given_second : (from : TextSource) (before between after : Reads) (a b bytes : List ℕ) (gave : Option (List ℕ)) → AreBytes from holds before after first second a b → AreHeldBytes (holds second) bytes
      → IsRead before between first READ_LIMIT (Some gave) → IsRead between after second READ_LIMIT (Some (Some bytes)) → IsGiven from bytes b
  given_second Held before between after a b bytes gave held gives read more = rw held.1 at gives
  given_second Given before between after a b bytes gave (earlier, e, f) gives read more =
      gave_same bytes b (second_gave first second a b gave (Some bytes) (one_list before after earlier _ e (reported_after_two before between after first second gave (Some bytes) earlier read more e) _ (earlier, e, f)))

  -- two reads that are shorter than the limit gave both texts whole
  pub both_whole : (from : TextSource) (before between after : Reads) (a b bytes more : List ℕ) → AreBytes from holds before after first second a b → AreHeldBytes (holds first) bytes → length bytes < READ_LIMIT → IsRead before between first READ_LIMIT (Some (Some bytes))
      → AreHeldBytes (holds second) more → length more < READ_LIMIT → IsRead between after second READ_LIMIT (Some (Some more)) → (bytes ≡ a) × (more ≡ b)
  both_whole from before between after a b bytes more both gives short read also less next = (
    given_whole from bytes a (given_first from before between after a bytes (Some more) (first_of_both from before after a b both) gives read next) short,
    given_whole from more b (given_second from before between after a b more (Some bytes) both also read next) less,
  )

  -- a read that failed
  pub failed_alone : (from : TextSource) (before after : Reads) (a : List ℕ) → IsFirstFile from holds before after first a → IsRead before after first READ_LIMIT (Some None) → MayHaveFailed from before after
  failed_alone Held before after a held read = omega (arith, read.failed.0 refl)
  failed_alone Given before after a (later, (earlier, e, f)) read =
      gave_none a (first_gave first a None [] later (one_list before after earlier _ e (reported_after_one before after first None earlier read e) _ (earlier, e, f)))

  pub failed_second : (from : TextSource) (before between after : Reads) (a b : List ℕ) (gave : Option (List ℕ)) → AreBytes from holds before after first second a b → IsRead before between first READ_LIMIT (Some gave)
      → IsRead between after second READ_LIMIT (Some None) → MayHaveFailed from before after
  failed_second Held before between after a b gave held read more = omega (arith, read.later, more.failed.0 refl)
  failed_second Given before between after a b gave (earlier, e, f) read more =
      gave_none b (second_gave first second a b gave None (one_list before after earlier _ e (reported_after_two before between after first second gave None earlier read more e) _ (earlier, e, f)))

  -- the bytes of a call are one
  pub first_once : (from : TextSource) (before after : Reads) (a b : List ℕ) → IsFirstFile from holds before after first a → IsFirstFile from holds before after first b → a ≡ b
  first_once Held before after a b x y = gave_same a b (sym x ∙ y)
  first_once Given before after a b (later, were) (rest, also) = gave_same a b (first_gave first b (Some a) later rest (were_one before after _ _ were also))

  pub second_once : (from : TextSource) (before after : Reads) (a b c d : List ℕ) → AreBytes from holds before after first second a b → AreBytes from holds before after first second c d → b ≡ d
  second_once Held before after a b c d x y = gave_same b d (sym x.1 ∙ y.1)
  second_once Given before after a b c d were also = gave_same b d (second_gave first second c d (Some a) (Some b) (were_one before after _ _ were also))
