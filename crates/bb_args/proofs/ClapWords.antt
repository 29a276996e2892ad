-- The walk of clap over a whole command line, word by word.
use Rattle.std.proofs.Common.{◌≡◌, ◌∙◌, ◌≤◌, ◌+◌, ℕ, Bool, true, false, List, [], ◌∷◌, ◌++◌, Option, None, Some, suc, zero, ap, map, refl, sym, arith, subst, take}
use Rattle.std.specs.Prelude.{◌||◌, nat_lt, not}
use Rattle.std.specs.List.{before_first, after_first, list_any, prefix_len}
use Rattle.std.specs.Str.{IsUtf8, bytes_eq}
use lib.Pointwise.{bytes_decides}
use Rattle.clap.specs.Faults.{settle_fault, walk_fault}
use Rattle.clap.specs.Lexer.{long_of, name_and_value}
use Rattle.clap.specs.Walk.{Held, Walk, idle, option, pending_count, most_values, pushed, settled}
use Rattle.bb_args.specs.CommandLines.{Argument, File, Flag, Text, Valued, are_taken, arguments_of, flags, is_among, is_equals, long, options, preceded}
use Rattle.bb_args.proofs.ClapEnds.{end_is, total, total-more}
use Rattle.bb_args.proofs.ClapLooks.{Look, ends, lettered, letters, look, named, plain}
use Rattle.bb_args.proofs.ClapRows.{after, after-last}
use Rattle.bb_args.proofs.ClapRules.{first_by_index, imp_rule, none_by_index, none_by_short, option_by_id, option_rule, second_by_index, shape, spec_rule}
use Rattle.bb_args.proofs.ClapStates.{Ends, Holds, fails, goes_on, stays, value_holds, with_value}
use Rattle.bb_args.proofs.ClapTurns.{dashes, dashes_turn, dashes_walked, idle_at, last_file_turn, last_stray_turn, no_kind, no_value_dashes_turn, no_value_dashes_walked, no_value_long, no_value_short, short_turn, trailing_at, value_turn, value_walked, waits_at}
use Rattle.bb_args.proofs.ClapWalk.{Reads, a_file, a_flag, all_files, an_option, joined, no_more, place, refused}

one_more : (b : ℕ) (bs : List ℕ) (n : ℕ) → take (1 + n) (b ∷ bs) ≡ b ∷ take n bs
one_more b bs n = let next : 1 + n ≡ suc n = omega arith in ap (λ k. take k (b ∷ bs)) next

before-all : (text : Text) → list_any is_equals text ≡ false → before_first is_equals text ≡ text
before-all [] none = refl
before-all (b ∷ bs) none = by (is_equals b) refl none (before-all bs)
  where
    by : (e : Bool) → is_equals b ≡ e → (e || list_any is_equals bs) ≡ false → (list_any is_equals bs ≡ false → before_first is_equals bs ≡ bs) → before_first is_equals (b ∷ bs) ≡ b ∷ bs
    by true is both more = cc both
    by false is both more = rw is (one_more b bs (prefix_len (λ x. not (is_equals x)) bs) ∙ ap (λ l. b ∷ l) (more both))

as_said : (xs : List Argument) (said other : Option (List Argument)) (w : Walk) (words : List Text) → said ≡ other → Ends xs other w words → Ends xs said w words
as_said xs said other w words same is = subst (λ s. Ends xs s w words) (sym same) is

module _ (word : Text) (words : List Text) (more : Reads words) (xs : List Argument) (h : Held) (holds : Holds xs h) where
  abbrev others : Option Text → Option (List Argument)
  others waiting = arguments_of waiting words

  -- after two minus signs
  module _ (text : Text) (no_dashes : bytes_eq word dashes ≡ false) (is_long : long_of word ≡ Some (name_and_value text)) where
    abbrev here : Walk
    here = idle_at h (place xs)

    with_equals : list_any is_equals text ≡ true → (o : Bool) → is_among options (before_first is_equals text) ≡ o → Ends xs (long text others) here (word ∷ words)
    with_equals has true e =
        let name = before_first is_equals text in
        let value = after_first is_equals text in
        as_said xs (long text others) (preceded (Valued name value) (others None)) here (word ∷ words) (rw (has, e) refl)
        (joined word words more xs h holds no_dashes name value (is_long ∙ rw has refl) e (are_taken (xs ++ Valued name value ∷ [])) refl)
    with_equals has false e =
        let name = before_first is_equals text in
        let value = after_first is_equals text in
        as_said xs (long text others) None here (word ∷ words) (rw (has, e) refl)
        (refused word words more xs h holds no_dashes name (Some value) (is_long ∙ rw has refl) e (is_among flags name) refl (λ none. cc none))

    without_equals : list_any is_equals text ≡ false → (f : Bool) → is_among flags text ≡ f → (o : Bool) → is_among options text ≡ o → Ends xs (long text others) here (word ∷ words)
    without_equals none true f o e =
        as_said xs (long text others) (preceded (Flag text) (others None)) here (word ∷ words) (rw (none, f) refl)
        (a_flag word words more xs h holds no_dashes text (is_long ∙ rw (none, before-all text none) refl) f (are_taken (xs ++ Flag text ∷ [])) refl)
    without_equals none false f true e =
        as_said xs (long text others) (others (Some text)) here (word ∷ words) (rw (none, f, e) refl)
        (an_option word words more xs h holds no_dashes text (is_long ∙ rw (none, before-all text none) refl) e (are_taken xs) refl)
    without_equals none false f false e =
        as_said xs (long text others) None here (word ∷ words) (rw (none, f, e) refl)
        (refused word words more xs h holds no_dashes text None (is_long ∙ rw (none, before-all text none) refl) e false f (λ none. refl))

    by_name : (b : Bool) → list_any is_equals text ≡ b → Ends xs (long text others) here (word ∷ words)
    by_name true has = with_equals has (is_among options (before_first is_equals text)) refl
    by_name false none = without_equals none (is_among flags text) refl (is_among options text) refl

  pub next_word : IsUtf8 word → Look word → Ends xs (arguments_of None (word ∷ words)) (idle_at h (place xs)) (word ∷ words)
  next_word utf8 (plain no_dashes no_name no_letter prefix dashed) =
      as_said xs (arguments_of None (word ∷ words)) (preceded (File word) (others None)) (idle_at h (place xs)) (word ∷ words) (rw (prefix, dashed) refl)
      (a_file word words more xs h holds no_dashes no_name no_letter (after 0 xs) refl holds.few (are_taken xs) refl)
  next_word utf8 (ends is prefix dashed) =
      as_said xs (arguments_of None (word ∷ words)) (Some (map File words)) (idle_at h (place xs)) (word ∷ words) (rw prefix refl)
      (stays xs (Some (map File words)) (idle_at h (place xs)) (trailing_at h idle (place xs)) word words (ap no_kind (dashes_turn shape h (place xs) word is)) (dashes_walked shape h (place xs) word is)
      (all_files words xs h idle holds))
  next_word utf8 (named d ds no_dashes is_long prefix dashed) =
      as_said xs (arguments_of None (word ∷ words)) (long (d ∷ ds) others) (idle_at h (place xs)) (word ∷ words) (rw prefix refl) (by_name (d ∷ ds) no_dashes is_long (list_any is_equals (d ∷ ds)) refl)
  next_word utf8 (lettered c cs no_dashes no_name short prefix dashed is) =
      let found = letters c cs (subst IsUtf8 is utf8) in
      as_said xs (arguments_of None (word ∷ words)) None (idle_at h (place xs)) (word ∷ words) (rw (prefix, dashed) refl)
      (fails xs None (idle_at h (place xs)) word words (short_turn shape h (place xs) word c cs no_dashes no_name short found.0 found.1 holds.skip found.2 (none_by_short found.0)) refl)

-- an option waits for its value
module _ (name : Text) (xs : List Argument) (h : Held) (is : is_among options name ≡ true) (holds : Holds xs h) (taken : are_taken xs ≡ true) where
  abbrev held : Held
  held = record (settled shape.rules h) { pending = Some (name, []) }

  abbrev waits : Walk
  waits = waits_at held name (place xs)

  lost : no_kind (settle_fault shape.rules false held) ≡ false
  lost = rw (option_by_id name is) refl

  -- and gets none
  lost_after : (words : List Text) (j : ℕ) → j ≤ 2 → no_kind (total (trailing_at held (option name) (suc j)) words) ≡ false
  unfolding walk_fault
  lost_after [] j few = end_is (trailing_at held (option name) (suc j)) refl ∙ lost
  lost_after (word ∷ words) zero few =
      total-more (trailing_at held (option name) 1) word words ∙ rw (ap no_kind (last_file_turn shape held (option name) 1 word spec_rule first_by_index refl) ∙ lost) refl
  lost_after (word ∷ words) (suc zero) few =
      total-more (trailing_at held (option name) 2) word words ∙ rw (ap no_kind (last_file_turn shape held (option name) 2 word imp_rule second_by_index refl) ∙ lost) refl
  lost_after (word ∷ words) (suc (suc zero)) few =
      total-more (trailing_at held (option name) 3) word words ∙ rw (last_stray_turn shape held (option name) 3 word none_by_index refl) refl
  lost_after (word ∷ words) (suc (suc (suc j))) few = absurd (omega (arith, few))

  pub no_word : Ends xs None waits []
  unfolding walk_fault
  no_word = record { passes = end_is waits refl ∙ lost; rows = λ more none taken. cc none }

  module _ (word : Text) (words : List Text) (more : Reads words) where
    pub its_value : IsUtf8 word → Look word → Ends xs (arguments_of (Some name) (word ∷ words)) waits (word ∷ words)
    its_value utf8 (plain no_dashes no_name no_letter prefix dashed) =
        let full : nat_lt (pending_count (option_rule name) (pushed name word held).pending) (most_values (option_rule name)) ≡ false = rw ((bytes_decides name name).1 refl) refl in
        as_said xs (arguments_of (Some name) (word ∷ words)) (preceded (Valued name word) (arguments_of None words)) waits (word ∷ words) (rw dashed refl)
        (goes_on xs (Valued name word) (arguments_of None words) waits (idle_at (with_value xs h holds name word is) (place xs)) word words
        (ap no_kind (value_turn shape held (place xs) word no_dashes no_name no_letter name))
        (value_walked shape held (place xs) word no_dashes no_name no_letter name (option_rule name) (option_by_id name is) full)
        (subst (λ n. Ends (xs ++ Valued name word ∷ []) (arguments_of None words) (idle_at (with_value xs h holds name word is) (suc n)) words) (after-last 0 xs (Valued name word))
        (more.next (xs ++ Valued name word ∷ []) (with_value xs h holds name word is) (value_holds xs h holds name word is taken))))
    its_value utf8 (ends all prefix dashed) =
        as_said xs (arguments_of (Some name) (word ∷ words)) None waits (word ∷ words) (rw dashed refl)
        (record {
          passes = total-more waits word words ∙ rw (no_value_dashes_turn shape held name (place xs) word lost all, no_value_dashes_walked shape held name (place xs) word lost all) (lost_after words (after 0 xs) holds.few);
          rows = λ rest none taken. cc none;
        })
    its_value utf8 (named d ds no_dashes is_long prefix dashed) =
        as_said xs (arguments_of (Some name) (word ∷ words)) None waits (word ∷ words) (rw dashed refl)
        (fails xs None waits word words (no_value_long shape held name (place xs) word lost (name_and_value (d ∷ ds)).0 (name_and_value (d ∷ ds)).1 no_dashes is_long) refl)
    its_value utf8 (lettered c cs no_dashes no_name short prefix dashed same) =
        let found = letters c cs (subst IsUtf8 same utf8) in
        as_said xs (arguments_of (Some name) (word ∷ words)) None waits (word ∷ words) (rw dashed refl)
        (fails xs None waits word words (no_value_short shape held name (place xs) word lost c cs found.0 found.1 no_dashes no_name short holds.skip found.2 (none_by_short found.0)) refl)

-- words that are texts
abbrev pub AreTexts : List Text → Type 0
AreTexts [] = Unit {0}
AreTexts (word ∷ words) = IsUtf8 word × AreTexts words

pub reads : (words : List Text) → AreTexts words → Reads words
reads [] texts = record {
  next = λ xs h holds. no_more xs h (idle_at h (place xs)) holds refl refl;
  value = λ name xs h is holds taken. no_word name xs h is holds taken;
}
reads (word ∷ words) (text, texts) =
    let more = reads words texts in
    record {
      next = λ xs h holds. next_word word words more xs h holds text (look word);
      value = λ name xs h is holds taken. its_value name xs h is holds taken word words more text (look word);
    }
