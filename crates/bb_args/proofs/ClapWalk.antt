-- Over all words clap finds what the definition of a command line says, and finds no fault exactly where it is one.
use Rattle.std.proofs.Common.{◌≡◌, ◌∙◌, ◌≤◌, ℕ, Bool, true, false, List, [], ◌∷◌, ◌++◌, Option, None, Some, suc, zero, ap, codes, map, refl, sym, arith, append-nil, subst}
use Rattle.std.specs.Str.{bytes_eq}
use Rattle.clap.specs.Faults.{settle_fault, walk_fault}
use Rattle.clap.specs.Lexer.{long_of, short_of}
use Rattle.clap.specs.Walk.{Held, Waiting, Walk, idle, pushed, reacted, settled}
use Rattle.bb_args.specs.CommandLines.{Argument, File, Flag, Text, Valued, are_taken, arguments_of, flags, is_among, long, options, preceded}
use Rattle.bb_args.proofs.ClapEnds.{end_is}
use Rattle.bb_args.proofs.ClapRows.{after, after-last, rows_from}
use Rattle.bb_args.proofs.ClapRules.{first_by_index, flag_by_long, flag_rule, imp_rule, none_by_index, none_by_long, option_by_long, option_no_flag, option_rule, second_by_index, shape, spec_rule}
use Rattle.bb_args.proofs.ClapStates.{Ends, Holds, all-preceded, fails, file-full, flag_holds, flag_passes, goes_on, imp_holds, joined_holds, option_passes, spec_holds, stays, untaken-said}
use Rattle.bb_args.proofs.ClapTurns.{dashes, file_turn, file_walked, flag_turn, flag_value_turn, flag_walked, idle_at, joined_turn, joined_walked, last_file_turn, last_file_walked, last_stray_turn, no_kind, option_turn, option_walked, stray_turn, trailing_at, unknown_turn, waits_at}

abbrev pub place : List Argument → ℕ
place xs = suc (after 0 xs)

-- after the last word
pub no_more : (xs : List Argument) (h : Held) (w : Walk) → Holds xs h → w.stopped ≡ None → w.held ≡ h → Ends xs (Some []) w []
unfolding walk_fault
no_more xs h w holds going held = record {
  passes = end_is w going ∙ ap (λ k. no_kind (settle_fault shape.rules false k)) held ∙ holds.passes ∙ ap are_taken (sym (append-nil xs));
  rows = λ more is taken.
      let none : [] ≡ more = cc is in
      let same : xs ≡ xs ++ more = sym (append-nil xs) ∙ ap (λ l. xs ++ l) none in
      ap (λ k. (settled shape.rules k).rows) held ∙ holds.rows (ap are_taken same ∙ taken) ∙ ap (rows_from 0) same;
}

-- after `--`
trailing_file : (xs : List Argument) (text : Text) (words : List Text) → ((ys : List Argument) (k : Held) (waiting : Waiting) → Holds ys k → Ends ys (Some (map File words)) (trailing_at k waiting (place ys)) words)
    → (h : Held) (waiting : Waiting) → Holds xs h → (j : ℕ) → after 0 xs ≡ j → j ≤ 2 → (t : Bool) → are_taken xs ≡ t → Ends xs (Some (File text ∷ map File words)) (trailing_at h waiting (suc j)) (text ∷ words)
trailing_file xs text words more h waiting holds zero is few true e =
    goes_on xs (File text) (Some (map File words)) (trailing_at h waiting 1) (trailing_at (pushed (codes "SPEC") text (settled shape.rules h)) idle 2) text words
    (ap no_kind (last_file_turn shape h waiting 1 text spec_rule first_by_index refl) ∙ holds.passes ∙ e)
    (last_file_walked shape h waiting 1 text spec_rule first_by_index refl refl)
    (subst (λ n. Ends (xs ++ File text ∷ []) (Some (map File words)) (trailing_at (pushed (codes "SPEC") text (settled shape.rules h)) idle (suc n)) words) (after-last 0 xs (File text) ∙ ap suc is)
    (more (xs ++ File text ∷ []) (pushed (codes "SPEC") text (settled shape.rules h)) idle (spec_holds xs h holds text e is)))
trailing_file xs text words more h waiting holds (suc zero) is few true e =
    goes_on xs (File text) (Some (map File words)) (trailing_at h waiting 2) (trailing_at (pushed (codes "IMPL") text (settled shape.rules h)) idle 3) text words
    (ap no_kind (last_file_turn shape h waiting 2 text imp_rule second_by_index refl) ∙ holds.passes ∙ e)
    (last_file_walked shape h waiting 2 text imp_rule second_by_index refl refl)
    (subst (λ n. Ends (xs ++ File text ∷ []) (Some (map File words)) (trailing_at (pushed (codes "IMPL") text (settled shape.rules h)) idle (suc n)) words) (after-last 0 xs (File text) ∙ ap suc is)
    (more (xs ++ File text ∷ []) (pushed (codes "IMPL") text (settled shape.rules h)) idle (imp_holds xs h holds text e is)))
trailing_file xs text words more h waiting holds zero is few false e =
    fails xs (Some (File text ∷ map File words)) (trailing_at h waiting 1) text words (ap no_kind (last_file_turn shape h waiting 1 text spec_rule first_by_index refl) ∙ holds.passes ∙ e)
    (untaken-said xs (Some (File text ∷ map File words)) e)
trailing_file xs text words more h waiting holds (suc zero) is few false e =
    fails xs (Some (File text ∷ map File words)) (trailing_at h waiting 2) text words (ap no_kind (last_file_turn shape h waiting 2 text imp_rule second_by_index refl) ∙ holds.passes ∙ e)
    (untaken-said xs (Some (File text ∷ map File words)) e)
trailing_file xs text words more h waiting holds (suc (suc zero)) is few t e =
    fails xs (Some (File text ∷ map File words)) (trailing_at h waiting 3) text words (last_stray_turn shape h waiting 3 text none_by_index refl)
    (all-preceded xs (File text) (Some (map File words)) ∙ untaken-said (xs ++ File text ∷ []) (Some (map File words)) (file-full xs text is))
trailing_file xs text words more h waiting holds (suc (suc (suc j))) is few t e = absurd (omega (arith, few))

pub all_files : (words : List Text) (xs : List Argument) (h : Held) (waiting : Waiting) → Holds xs h → Ends xs (Some (map File words)) (trailing_at h waiting (place xs)) words
all_files [] xs h waiting holds = no_more xs h (trailing_at h waiting (place xs)) holds refl refl
all_files (text ∷ words) xs h waiting holds = trailing_file xs text words (all_files words) h waiting holds (after 0 xs) refl holds.few (are_taken xs) refl

-- before it
pub record Reads (words : List Text) : Type 0 where
  pub next : (xs : List Argument) (h : Held) → Holds xs h → Ends xs (arguments_of None words) (idle_at h (place xs)) words
  pub value : (name : Text) (xs : List Argument) (h : Held) → is_among options name ≡ true → Holds xs h → are_taken xs ≡ true
      → Ends xs (arguments_of (Some name) words) (waits_at (record (settled shape.rules h) { pending = Some (name, []) }) name (place xs)) words

module _ (word : Text) (words : List Text) (more : Reads words) (xs : List Argument) (h : Held) (holds : Holds xs h) where
  abbrev others : Option Text → Option (List Argument)
  others waiting = arguments_of waiting words

  abbrev here : Walk
  here = idle_at h (place xs)

  -- after one more argument that is no file
  same_place : (a : Argument) (k : Held) → after 0 (xs ++ a ∷ []) ≡ after 0 xs → Holds (xs ++ a ∷ []) k → Ends (xs ++ a ∷ []) (others None) (idle_at k (place xs)) words
  same_place a k stays_there held = subst (λ n. Ends (xs ++ a ∷ []) (others None) (idle_at k (suc n)) words) stays_there (more.next (xs ++ a ∷ []) k held)

  pub a_file : bytes_eq word dashes ≡ false → long_of word ≡ None → short_of word ≡ None → (j : ℕ) → after 0 xs ≡ j → j ≤ 2 → (t : Bool) → are_taken xs ≡ t → Ends xs (preceded (File word) (others None)) (idle_at h (suc j)) (word ∷ words)
  a_file no_dashes no_name no_letter zero is few true e =
      goes_on xs (File word) (others None) (idle_at h 1) (idle_at (pushed (codes "SPEC") word (settled shape.rules h)) 2) word words
      (ap no_kind (file_turn shape h 1 word no_dashes no_name no_letter spec_rule first_by_index refl) ∙ holds.passes ∙ e)
      (file_walked shape h 1 word no_dashes no_name no_letter spec_rule first_by_index refl refl refl)
      (subst (λ n. Ends (xs ++ File word ∷ []) (others None) (idle_at (pushed (codes "SPEC") word (settled shape.rules h)) (suc n)) words) (after-last 0 xs (File word) ∙ ap suc is)
      (more.next (xs ++ File word ∷ []) (pushed (codes "SPEC") word (settled shape.rules h)) (spec_holds xs h holds word e is)))
  a_file no_dashes no_name no_letter (suc zero) is few true e =
      goes_on xs (File word) (others None) (idle_at h 2) (idle_at (pushed (codes "IMPL") word (settled shape.rules h)) 3) word words
      (ap no_kind (file_turn shape h 2 word no_dashes no_name no_letter imp_rule second_by_index refl) ∙ holds.passes ∙ e)
      (file_walked shape h 2 word no_dashes no_name no_letter imp_rule second_by_index refl refl refl)
      (subst (λ n. Ends (xs ++ File word ∷ []) (others None) (idle_at (pushed (codes "IMPL") word (settled shape.rules h)) (suc n)) words) (after-last 0 xs (File word) ∙ ap suc is)
      (more.next (xs ++ File word ∷ []) (pushed (codes "IMPL") word (settled shape.rules h)) (imp_holds xs h holds word e is)))
  a_file no_dashes no_name no_letter zero is few false e =
      fails xs (preceded (File word) (others None)) (idle_at h 1) word words (ap no_kind (file_turn shape h 1 word no_dashes no_name no_letter spec_rule first_by_index refl) ∙ holds.passes ∙ e)
      (untaken-said xs (preceded (File word) (others None)) e)
  a_file no_dashes no_name no_letter (suc zero) is few false e =
      fails xs (preceded (File word) (others None)) (idle_at h 2) word words (ap no_kind (file_turn shape h 2 word no_dashes no_name no_letter imp_rule second_by_index refl) ∙ holds.passes ∙ e)
      (untaken-said xs (preceded (File word) (others None)) e)
  a_file no_dashes no_name no_letter (suc (suc zero)) is few t e =
      fails xs (preceded (File word) (others None)) (idle_at h 3) word words (stray_turn shape h 3 word no_dashes no_name no_letter none_by_index refl)
      (all-preceded xs (File word) (others None) ∙ untaken-said (xs ++ File word ∷ []) (others None) (file-full xs word is))
  a_file no_dashes no_name no_letter (suc (suc (suc j))) is few t e = absurd (omega (arith, few))

  module _ (no_dashes : bytes_eq word dashes ≡ false) where
    pub a_flag : (name : Text) → long_of word ≡ Some (name, None) → is_among flags name ≡ true → (t : Bool) → are_taken (xs ++ Flag name ∷ []) ≡ t → Ends xs (preceded (Flag name) (others None)) here (word ∷ words)
    a_flag name long is true e =
        goes_on xs (Flag name) (others None) here (idle_at (reacted shape.rules (flag_rule name) [] h) (place xs)) word words
        (ap no_kind (flag_turn shape h (place xs) word name (flag_rule name) no_dashes long (flag_by_long name is) refl) ∙ flag_passes xs h holds name is ∙ e)
        (flag_walked shape h (place xs) word name (flag_rule name) no_dashes long (flag_by_long name is) refl)
        (same_place (Flag name) (reacted shape.rules (flag_rule name) [] h) (after-last 0 xs (Flag name)) (flag_holds xs h holds name is e))
    a_flag name long is false e =
        fails xs (preceded (Flag name) (others None)) here word words
        (ap no_kind (flag_turn shape h (place xs) word name (flag_rule name) no_dashes long (flag_by_long name is) refl) ∙ flag_passes xs h holds name is ∙ e)
        (all-preceded xs (Flag name) (others None) ∙ untaken-said (xs ++ Flag name ∷ []) (others None) e)

    pub an_option : (name : Text) → long_of word ≡ Some (name, None) → is_among options name ≡ true → (t : Bool) → are_taken xs ≡ t → Ends xs (others (Some name)) here (word ∷ words)
    an_option name long is true e =
        stays xs (others (Some name)) here (waits_at (record (settled shape.rules h) { pending = Some (name, []) }) name (place xs)) word words
        (ap no_kind (option_turn shape h (place xs) word name (option_rule name) no_dashes long (option_by_long name (option_no_flag name is) is) refl) ∙ holds.passes ∙ e)
        (option_walked shape h (place xs) word name (option_rule name) no_dashes long (option_by_long name (option_no_flag name is) is) refl)
        (more.value name xs h is holds e)
    an_option name long is false e =
        fails xs (others (Some name)) here word words
        (ap no_kind (option_turn shape h (place xs) word name (option_rule name) no_dashes long (option_by_long name (option_no_flag name is) is) refl) ∙ holds.passes ∙ e)
        (untaken-said xs (others (Some name)) e)

    pub joined : (name value : Text) → long_of word ≡ Some (name, Some value) → is_among options name ≡ true → (t : Bool) → are_taken (xs ++ Valued name value ∷ []) ≡ t
        → Ends xs (preceded (Valued name value) (others None)) here (word ∷ words)
    joined name value long is true e =
        goes_on xs (Valued name value) (others None) here (idle_at (reacted shape.rules (option_rule name) (value ∷ []) h) (place xs)) word words
        (ap no_kind (joined_turn shape h (place xs) word name value (option_rule name) no_dashes long (option_by_long name (option_no_flag name is) is) refl) ∙ option_passes xs h holds name value is ∙ e)
        (joined_walked shape h (place xs) word name value (option_rule name) no_dashes long (option_by_long name (option_no_flag name is) is) refl)
        (same_place (Valued name value) (reacted shape.rules (option_rule name) (value ∷ []) h) (after-last 0 xs (Valued name value)) (joined_holds xs h holds name value is e))
    joined name value long is false e =
        fails xs (preceded (Valued name value) (others None)) here word words
        (ap no_kind (joined_turn shape h (place xs) word name value (option_rule name) no_dashes long (option_by_long name (option_no_flag name is) is) refl) ∙ option_passes xs h holds name value is ∙ e)
        (all-preceded xs (Valued name value) (others None) ∙ untaken-said (xs ++ Valued name value ∷ []) (others None) e)

    -- a flag with a value, and a name that none has
    pub refused : (name : Text) (value : Option Text) → long_of word ≡ Some (name, value) → is_among options name ≡ false → (f : Bool) → is_among flags name ≡ f → (value ≡ None → f ≡ false) → Ends xs None here (word ∷ words)
    refused name value long no_option false e without = fails xs None here word words (unknown_turn shape h (place xs) word name value no_dashes long (none_by_long name e no_option)) refl
    refused name (Some value) long no_option true e without =
        fails xs None here word words (flag_value_turn shape h (place xs) word name value (flag_rule name) no_dashes long (flag_by_long name e) refl) refl
    refused name None long no_option true e without = let absent = without refl in cc absent
