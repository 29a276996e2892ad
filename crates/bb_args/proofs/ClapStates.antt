-- What clap holds after arguments: those that came before are in the rows, but for the last, which may still wait to be put there.
use Rattle.std.proofs.Common.{◌≡◌, ◌∙◌, ◌≤◌, ◌<◌, Bool, true, false, List, [], ◌∷◌, ◌++◌, Option, None, Some, ap, ap₂, codes, refl, sym, arith, append_assoc, subst}
use Rattle.std.specs.Prelude.{◌&&◌, length, nat_le, not}
use Rattle.std.specs.List.{list_all, list_any}
use Rattle.clap.specs.Faults.{react_fault, settle_fault, turn_fault, use_fault}
use Rattle.clap.specs.Walk.{Held, Walk, has_row, pushed, reacted, settled, used, walked}
use Rattle.bb_args.specs.CommandLines.{Argument, File, Flag, Text, Valued, are_once, are_taken, comes_again, files_in, flags, has_option_name, is_among, options, preceded}
use Rattle.bb_args.proofs.ClapEnds.{total, total-more, walk_over}
use Rattle.bb_args.proofs.ClapRows.{after, after-files, after-last, both, file-free, file_fault, file_used, files-more, flag_fault, flag_used, is_false, is_known, named-more, once-more, option_fault, option_used, other_flag, other_option, row-named, row_at, rows-last, rows_from, untaken-prefix}
use Rattle.bb_args.proofs.ClapRules.{flag_rule, names, option_by_id, option_rule, shape}
use Rattle.bb_args.proofs.ClapTurns.{no_kind, no_kind-or_else}

pub record Holds (xs : List Argument) (h : Held) : Type 0 where
  pub skip : h.skip ≡ 0
  pub few : after 0 xs ≤ 2
  pub known : list_all is_known xs ≡ true
  pub passes : no_kind (settle_fault shape.rules false h) ≡ are_taken xs
  pub rows : are_taken xs ≡ true → (settled shape.rules h).rows ≡ rows_from 0 xs

abbrev pub are_all_taken : List Argument → Option (List Argument) → Bool
are_all_taken xs None = false
are_all_taken xs (Some more) = are_taken (xs ++ more)

-- where words say these arguments, clap finds no fault in them exactly where they are taken, and ends with their rows
pub record Ends (xs : List Argument) (said : Option (List Argument)) (w : Walk) (words : List Text) : Type 0 where
  pub passes : no_kind (total w words) ≡ are_all_taken xs said
  pub rows : (more : List Argument) → said ≡ Some more → are_taken (xs ++ more) ≡ true → (settled shape.rules (walk_over w words).held).rows ≡ rows_from 0 (xs ++ more)

pub untaken-said : (xs : List Argument) (said : Option (List Argument)) → are_taken xs ≡ false → are_all_taken xs said ≡ false
untaken-said xs None untaken = refl
untaken-said xs (Some more) untaken = untaken-prefix xs more untaken

pub all-preceded : (xs : List Argument) (a : Argument) (said : Option (List Argument)) → are_all_taken xs (preceded a said) ≡ are_all_taken (xs ++ a ∷ []) said
all-preceded xs a None = refl
all-preceded xs a (Some more) = ap are_taken (sym (append_assoc xs (a ∷ []) more))

pub fails : (xs : List Argument) (said : Option (List Argument)) (w : Walk) (word : Text) (words : List Text) → no_kind (turn_fault shape names w word) ≡ false → are_all_taken xs said ≡ false → Ends xs said w (word ∷ words)
fails xs said w word words fault untaken = record {
  passes = total-more w word words ∙ rw fault (sym untaken);
  rows = λ more is taken. absurd (contradicts more is taken);
}
  where
    contradicts : (more : List Argument) → said ≡ Some more → are_taken (xs ++ more) ≡ true → ⊥
    contradicts more is taken = cc (sym taken ∙ sym (ap (are_all_taken xs) is) ∙ untaken)

pub stays : (xs : List Argument) (said : Option (List Argument)) (w then_at : Walk) (word : Text) (words : List Text) → no_kind (turn_fault shape names w word) ≡ true → walked shape.rules names w word ≡ then_at
    → Ends xs said then_at words → Ends xs said w (word ∷ words)
stays xs said w then_at word words good step ends = record {
  passes = total-more w word words ∙ rw (good, step) ends.passes;
  rows = λ more is taken. ap (λ v. (settled shape.rules (walk_over v words).held).rows) step ∙ ends.rows more is taken;
}

pub goes_on : (xs : List Argument) (a : Argument) (said : Option (List Argument)) (w then_at : Walk) (word : Text) (words : List Text) → no_kind (turn_fault shape names w word) ≡ true → walked shape.rules names w word ≡ then_at
    → Ends (xs ++ a ∷ []) said then_at words → Ends xs (preceded a said) w (word ∷ words)
goes_on xs a said w then_at word words good step ends = record {
  passes = total-more w word words ∙ rw (good, step) (ends.passes ∙ sym (all-preceded xs a said));
  rows = λ more is taken. ap (λ v. (settled shape.rules (walk_over v words).held).rows) step ∙ by said more is taken ends.rows;
}
  where
    by : (said : Option (List Argument)) (more : List Argument) → preceded a said ≡ Some more → are_taken (xs ++ more) ≡ true
        → ((m : List Argument) → said ≡ Some m → are_taken ((xs ++ a ∷ []) ++ m) ≡ true → (settled shape.rules (walk_over then_at words).held).rows ≡ rows_from 0 ((xs ++ a ∷ []) ++ m))
        → (settled shape.rules (walk_over then_at words).held).rows ≡ rows_from 0 (xs ++ more)
    by None more is taken rest = cc is
    by (Some m) more is taken rest =
        let same : a ∷ m ≡ more = cc is in
        let shift = append_assoc xs (a ∷ []) m ∙ ap (λ l. xs ++ l) same in
        rest m refl (ap are_taken shift ∙ taken) ∙ ap (rows_from 0) shift

-- one more flag
module _ (xs : List Argument) (h : Held) (holds : Holds xs h) where
  others-known : (a : Argument) → is_known a ≡ true → list_all is_known (xs ++ a ∷ []) ≡ true
  others-known a is = each xs holds.known
    where
      each : (ys : List Argument) → list_all is_known ys ≡ true → list_all is_known (ys ++ a ∷ []) ≡ true
      each [] known = rw is refl
      each (y ∷ ys) known = let parts = both (is_known y) (list_all is_known ys) known in rw parts.0 (each ys parts.1)

  -- a use of a name of which there is no row yet
  first_use : (a : Argument) (name : Text) (fault : Bool) → files_in (a ∷ []) ≡ [] → comes_again a xs ≡ list_any (has_option_name name) xs → has_row name (rows_from 0 xs) ≡ list_any (has_option_name name) xs
      → fault ≡ not (has_row name (settled shape.rules h).rows) → (are_taken xs && fault) ≡ are_taken (xs ++ a ∷ [])
  first_use a name fault no_file again row judged = by (are_taken xs) refl
    where
      by : (t : Bool) → are_taken xs ≡ t → (t && fault) ≡ are_taken (xs ++ a ∷ [])
      by true e = judged ∙ ap (λ rs. not (has_row name rs)) (holds.rows e) ∙ ap not (row ∙ sym again) ∙ sym (rw e at (named-more xs a no_file))
      by false e = sym (untaken-prefix xs (a ∷ []) e)

  module _ (name : Text) (is : is_among flags name ≡ true) where
    pub flag_passes : no_kind (react_fault shape.rules false (flag_rule name) [] h) ≡ are_taken (xs ++ Flag name ∷ [])
    flag_passes =
        no_kind-or_else (settle_fault shape.rules false h) (use_fault false (flag_rule name) [] (settled shape.rules h).rows)
        ∙ ap (λ b. b && no_kind (use_fault false (flag_rule name) [] (settled shape.rules h).rows)) holds.passes
        ∙ first_use (Flag name) name _ refl refl (row-named name (other_flag name is) 0 xs) (flag_fault (settled shape.rules h).rows name)

    pub flag_holds : are_taken (xs ++ Flag name ∷ []) ≡ true → Holds (xs ++ Flag name ∷ []) (reacted shape.rules (flag_rule name) [] h)
    flag_holds taken =
        let before = both (are_taken xs) (not (list_any (has_option_name name) xs)) (sym (named-more xs (Flag name) refl) ∙ taken) in
        let none : has_row name (rows_from 0 xs) ≡ false = row-named name (other_flag name is) 0 xs ∙ is_false (list_any (has_option_name name) xs) before.1 in
        record {
          skip = holds.skip;
          few = subst (λ n. n ≤ 2) (sym (after-last 0 xs (Flag name))) holds.few;
          known = others-known (Flag name) is;
          passes = sym taken;
          rows = λ _. ap (used (flag_rule name) []) (holds.rows before.0) ∙ flag_used (rows_from 0 xs) name none ∙ sym (rows-last 0 xs (Flag name));
        }

  module _ (name value : Text) (is : is_among options name ≡ true) where
    pub option_passes : no_kind (react_fault shape.rules false (option_rule name) (value ∷ []) h) ≡ are_taken (xs ++ Valued name value ∷ [])
    option_passes =
        no_kind-or_else (settle_fault shape.rules false h) (use_fault false (option_rule name) (value ∷ []) (settled shape.rules h).rows)
        ∙ ap (λ b. b && no_kind (use_fault false (option_rule name) (value ∷ []) (settled shape.rules h).rows)) holds.passes
        ∙ first_use (Valued name value) name _ refl refl (row-named name (other_option name is) 0 xs) (option_fault (settled shape.rules h).rows name value)

    option_rows : are_taken xs ≡ true → are_taken (xs ++ Valued name value ∷ []) ≡ true → used (option_rule name) (value ∷ []) (settled shape.rules h).rows ≡ rows_from 0 (xs ++ Valued name value ∷ [])
    option_rows before taken =
        let alone = both (are_taken xs) (not (list_any (has_option_name name) xs)) (sym (named-more xs (Valued name value) refl) ∙ taken) in
        let none : has_row name (rows_from 0 xs) ≡ false = row-named name (other_option name is) 0 xs ∙ is_false (list_any (has_option_name name) xs) alone.1 in
        ap (used (option_rule name) (value ∷ [])) (holds.rows before) ∙ option_used (rows_from 0 xs) name value none ∙ sym (rows-last 0 xs (Valued name value))

    pub joined_holds : are_taken (xs ++ Valued name value ∷ []) ≡ true → Holds (xs ++ Valued name value ∷ []) (reacted shape.rules (option_rule name) (value ∷ []) h)
    joined_holds taken =
        let before = both (are_taken xs) (not (list_any (has_option_name name) xs)) (sym (named-more xs (Valued name value) refl) ∙ taken) in
        record {
          skip = holds.skip;
          few = subst (λ n. n ≤ 2) (sym (after-last 0 xs (Valued name value))) holds.few;
          known = others-known (Valued name value) is;
          passes = sym taken;
          rows = λ _. option_rows before.0 taken;
        }

    -- the value came as a word of its own
    abbrev pub with_value : Held
    with_value = record (settled shape.rules h) { pending = Some (name, value ∷ []) }

    pub value_holds : are_taken xs ≡ true → Holds (xs ++ Valued name value ∷ []) with_value
    value_holds before = record {
      skip = holds.skip;
      few = subst (λ n. n ≤ 2) (sym (after-last 0 xs (Valued name value))) holds.few;
      known = others-known (Valued name value) is;
      passes = rw (option_by_id name is) (rw before at (first_use (Valued name value) name _ refl refl (row-named name (other_option name is) 0 xs) (option_fault (settled shape.rules h).rows name value)));
      rows = λ taken. rw (option_by_id name is) (option_rows before taken);
    }

-- one more file
pub file-taken : (xs : List Argument) (text : Text) → are_taken xs ≡ true → after 0 xs < 2 → are_taken (xs ++ File text ∷ []) ≡ true
file-taken xs text taken less =
    let parts = both (nat_le (length (files_in xs)) 2) (are_once xs) taken in
    let room : nat_le (length (files_in (xs ++ File text ∷ []))) 2 ≡ true = grind (arith, after-files 0 xs, files-more xs (File text), less) in
    rw (room, once-more xs (File text), parts.1) refl

pub file-full : (xs : List Argument) (text : Text) → after 0 xs ≡ 2 → are_taken (xs ++ File text ∷ []) ≡ false
file-full xs text full =
    let none : nat_le (length (files_in (xs ++ File text ∷ []))) 2 ≡ false = grind (arith, after-files 0 xs, files-more xs (File text), full) in
    rw none refl

module _ (xs : List Argument) (h : Held) (holds : Holds xs h) (text : Text) (taken : are_taken xs ≡ true) where
  pub spec_holds : after 0 xs ≡ 0 → Holds (xs ++ File text ∷ []) (pushed (codes "SPEC") text (settled shape.rules h))
  spec_holds none =
      let free : has_row (codes "SPEC") (settled shape.rules h).rows ≡ false = ap (has_row (codes "SPEC")) (holds.rows taken) ∙ file-free 0 0 xs none (omega arith) holds.known in
      record {
        skip = holds.skip;
        few = omega (arith, after-last 0 xs (File text), none);
        known = others-known xs h holds (File text) refl;
        passes = (file_fault (settled shape.rules h).rows 1 (codes "SPEC") text ∙ ap not free ∙ sym (file-taken xs text taken (omega (arith, none))));
        rows = λ _. (file_used (settled shape.rules h).rows 1 (codes "SPEC") text free
            ∙ ap₂ (λ rs k. rs ++ row_at k (File text) ∷ []) (holds.rows taken) (sym none) ∙ sym (rows-last 0 xs (File text)));
      }

  pub imp_holds : after 0 xs ≡ 1 → Holds (xs ++ File text ∷ []) (pushed (codes "IMPL") text (settled shape.rules h))
  imp_holds one =
      let free : has_row (codes "IMPL") (settled shape.rules h).rows ≡ false = ap (has_row (codes "IMPL")) (holds.rows taken) ∙ file-free 1 0 xs one (omega arith) holds.known in
      record {
        skip = holds.skip;
        few = omega (arith, after-last 0 xs (File text), one);
        known = others-known xs h holds (File text) refl;
        passes = (file_fault (settled shape.rules h).rows 2 (codes "IMPL") text ∙ ap not free ∙ sym (file-taken xs text taken (omega (arith, one))));
        rows = λ _. (file_used (settled shape.rules h).rows 2 (codes "IMPL") text free
            ∙ ap₂ (λ rs k. rs ++ row_at k (File text) ∷ []) (holds.rows taken) (sym one) ∙ sym (rows-last 0 xs (File text)));
      }
