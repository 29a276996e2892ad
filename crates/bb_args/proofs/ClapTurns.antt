-- What clap makes of one word, by what the word looks like: for a command without subcommands, from a state in which nothing waits for
-- a value, or an option does.
use Rattle.std.proofs.Common.{◌≡◌, ℕ, Bool, true, false, List, [], ◌∷◌, Option, None, Some, refl, arith}
use Rattle.std.specs.Prelude.{◌&&◌, nat_lt}
use Rattle.std.specs.Str.{bytes_eq, chars}
use Rattle.clap.specs.Faults.{flags_fault, long_fault, react_fault, settle_fault, step_fault, stray_fault, turn_fault}
use Rattle.clap.specs.Kinds.{Kinds, or_else}
use Rattle.clap.specs.Lexer.{long_of, short_of}
use Rattle.clap.specs.Simple.{Shape}
use Rattle.clap.specs.Walk.{Held, Rule, Text, Walk, Waiting, action_of, after_flag, arg_by_id, arg_by_index, arg_by_long, arg_by_short, idle, is_append, is_empty, is_pending, long_met, most_values, next_position, option, pending_count, pushed, reacted, settled, takes_several, takes_values, walked}

-- nothing waits for a value, before and after `--`
abbrev pub idle_at : Held → ℕ → Walk
idle_at h position = record { held = h; waiting = idle; position = position; is_trailing = false; stopped = None }

abbrev pub trailing_at : Held → Waiting → ℕ → Walk
trailing_at h waiting position = record { held = h; waiting = waiting; position = position; is_trailing = true; stopped = None }

-- an option waits for its value
abbrev pub waits_at : Held → Text → ℕ → Walk
waits_at h id position = record { held = h; waiting = option id; position = position; is_trailing = false; stopped = None }

abbrev pub dashes : Text
dashes = 45 ∷ 45 ∷ []

-- no fault
abbrev pub no_kind : Kinds → Bool
no_kind [] = true
no_kind (k ∷ ks) = false

pub no_kind-empty : (kinds : Kinds) → is_empty kinds ≡ no_kind kinds
no_kind-empty [] = refl
no_kind-empty (k ∷ ks) = grind arith

pub no_kind-or_else : (a b : Kinds) → no_kind (or_else a b) ≡ (no_kind a && no_kind b)
no_kind-or_else [] b = refl
no_kind-or_else (k ∷ ks) b = refl

or_else-nil : (a : Kinds) → or_else a [] ≡ a
or_else-nil [] = refl
or_else-nil (k ∷ ks) = refl

pub never : (a b : Kinds) → no_kind a ≡ false → no_kind (or_else a b) ≡ false
never [] b e = cc
never (k ∷ ks) b e = refl

pub both-false : (b : Bool) → (b && false) ≡ false
both-false true = refl
both-false false = refl

module _ (s : Shape) (h : Held) (position : ℕ) (word : Text) where
  abbrev again : Bool
  again = s.args_override_self

  pub dashes_turn : bytes_eq word dashes ≡ true → turn_fault s [] (idle_at h position) word ≡ []
  dashes_turn is = rw is refl

  pub dashes_walked : bytes_eq word dashes ≡ true → walked s.rules [] (idle_at h position) word ≡ trailing_at h idle position
  unfolding walked
  dashes_walked is = rw is refl

  -- a word that begins with two minus signs, and has a name after them
  module _ (name : Text) (value : Option Text) (no_dashes : bytes_eq word dashes ≡ false) (long : long_of word ≡ Some (name, value)) where
    pub unknown_turn : arg_by_long s.rules name ≡ None → no_kind (turn_fault s [] (idle_at h position) word) ≡ false
    unknown_turn none = rw (no_dashes, long, none) refl

  module _ (name : Text) (a : Rule) (no_dashes : bytes_eq word dashes ≡ false) (long : long_of word ≡ Some (name, None)) (by_long : arg_by_long s.rules name ≡ Some a) where
    pub flag_turn : takes_values a ≡ false → turn_fault s [] (idle_at h position) word ≡ react_fault s.rules again a [] h
    flag_turn none = rw (no_dashes, long, by_long, none) (or_else-nil (react_fault s.rules again a [] h))

    pub flag_walked : takes_values a ≡ false → walked s.rules [] (idle_at h position) word ≡ idle_at (reacted s.rules a [] h) position
    unfolding walked
    flag_walked none = rw (no_dashes, long, by_long, none) refl

    pub option_turn : takes_values a ≡ true → turn_fault s [] (idle_at h position) word ≡ settle_fault s.rules again h
    option_turn some = rw (no_dashes, long, by_long, some) (or_else-nil (settle_fault s.rules again h))

    pub option_walked : takes_values a ≡ true → walked s.rules [] (idle_at h position) word ≡ waits_at (record (settled s.rules h) { pending = Some (a.id, []) }) a.id position
    unfolding walked
    option_walked some = rw (no_dashes, long, by_long, some) refl

  module _ (name value : Text) (a : Rule) (no_dashes : bytes_eq word dashes ≡ false) (long : long_of word ≡ Some (name, Some value)) (by_long : arg_by_long s.rules name ≡ Some a) where
    pub flag_value_turn : takes_values a ≡ false → no_kind (turn_fault s [] (idle_at h position) word) ≡ false
    flag_value_turn none = rw (no_dashes, long, by_long, none) refl

    pub joined_turn : takes_values a ≡ true → turn_fault s [] (idle_at h position) word ≡ react_fault s.rules again a (value ∷ []) h
    joined_turn some = rw (no_dashes, long, by_long, some) (or_else-nil (react_fault s.rules again a (value ∷ []) h))

    pub joined_walked : takes_values a ≡ true → walked s.rules [] (idle_at h position) word ≡ idle_at (reacted s.rules a (value ∷ []) h) position
    unfolding walked
    joined_walked some = rw (no_dashes, long, by_long, some) refl

  -- a word that begins with one minus sign, and has a letter after it
  module _ (flag : ℕ) (flags : Text) (no_dashes : bytes_eq word dashes ≡ false) (no_name : long_of word ≡ None) (short : short_of word ≡ Some (flag ∷ flags)) where
    pub short_turn : (x : ℕ) (xs : List ℕ) → h.skip ≡ 0 → chars (flag ∷ flags) ≡ x ∷ xs → arg_by_short s.rules x ≡ None
        → no_kind (turn_fault s [] (idle_at h position) word) ≡ false
    unfolding flags_fault
    short_turn x xs skip letters none = rw (no_dashes, no_name, short, skip, letters, none) refl

  -- a word that is a file, or the value of the option that waits
  module _ (no_dashes : bytes_eq word dashes ≡ false) (no_name : long_of word ≡ None) (no_letter : short_of word ≡ None) where
    pub stray_turn : arg_by_index s.rules position ≡ None → no_kind (stray_fault s) ≡ false → no_kind (turn_fault s [] (idle_at h position) word) ≡ false
    stray_turn none stray = rw (no_dashes, no_name, no_letter, none) stray

    pub file_turn : (a : Rule) → arg_by_index s.rules position ≡ Some a → takes_several a ≡ false → turn_fault s [] (idle_at h position) word ≡ settle_fault s.rules again h
    file_turn a by_index one = rw (no_dashes, no_name, no_letter, by_index, one, both-false (is_pending a h.pending)) refl

    pub file_walked : (a : Rule) → arg_by_index s.rules position ≡ Some a → takes_several a ≡ false → is_append (action_of a) ≡ false → a.trailing_var_arg ≡ false
        → walked s.rules [] (idle_at h position) word ≡ idle_at (pushed a.id word (settled s.rules h)) (next_position a position)
    unfolding walked
    file_walked a by_index one single not_last = rw (no_dashes, no_name, no_letter, by_index, one, both-false (is_pending a h.pending), single, not_last) refl

    pub value_turn : (id : Text) → turn_fault s [] (waits_at h id position) word ≡ []
    value_turn id = rw (no_dashes, no_name, no_letter) refl

    pub value_walked : (id : Text) (a : Rule) → arg_by_id s.rules id ≡ Some a → nat_lt (pending_count a (pushed id word h).pending) (most_values a) ≡ false
        → walked s.rules [] (waits_at h id position) word ≡ idle_at (pushed id word h) position
    unfolding walked
    value_walked id a by_id full = rw (no_dashes, no_name, no_letter, by_id, full) refl

-- after `--` each word is a file
module _ (s : Shape) (h : Held) (waiting : Waiting) (position : ℕ) (word : Text) where
  pub last_stray_turn : arg_by_index s.rules position ≡ None → no_kind (stray_fault s) ≡ false → no_kind (turn_fault s [] (trailing_at h waiting position) word) ≡ false
  last_stray_turn none stray = rw none stray

  pub last_file_turn : (a : Rule) → arg_by_index s.rules position ≡ Some a → takes_several a ≡ false → turn_fault s [] (trailing_at h waiting position) word ≡ settle_fault s.rules s.args_override_self h
  last_file_turn a by_index one = rw (by_index, one, both-false (is_pending a h.pending)) refl

  pub last_file_walked : (a : Rule) → arg_by_index s.rules position ≡ Some a → takes_several a ≡ false → is_append (action_of a) ≡ false
      → walked s.rules [] (trailing_at h waiting position) word ≡ trailing_at (pushed a.id word (settled s.rules h)) idle (next_position a position)
  unfolding walked
  last_file_walked a by_index one single = rw (by_index, one, both-false (is_pending a h.pending), single) refl

-- an option that waits for its value, and gets none: a word that begins with a minus sign is at fault, or is `--`
module _ (s : Shape) (h : Held) (id : Text) (position : ℕ) (word : Text) (lost : no_kind (settle_fault s.rules s.args_override_self h) ≡ false) where
  pub no_value_dashes_turn : bytes_eq word dashes ≡ true → turn_fault s [] (waits_at h id position) word ≡ []
  no_value_dashes_turn is = rw is refl

  pub no_value_dashes_walked : bytes_eq word dashes ≡ true → walked s.rules [] (waits_at h id position) word ≡ trailing_at h (option id) position
  unfolding walked
  no_value_dashes_walked is = rw is refl

  pub no_value_short : (flag : ℕ) (flags : Text) (x : ℕ) (xs : List ℕ) → bytes_eq word dashes ≡ false → long_of word ≡ None → short_of word ≡ Some (flag ∷ flags) → h.skip ≡ 0 → chars (flag ∷ flags) ≡ x ∷ xs
      → arg_by_short s.rules x ≡ None → no_kind (turn_fault s [] (waits_at h id position) word) ≡ false
  unfolding flags_fault
  no_value_short flag flags x xs no_dashes no_name short skip letters none = rw (no_dashes, no_name, short, skip, letters, none) refl

  pub no_value_long : (name : Text) (value : Option Text) → bytes_eq word dashes ≡ false → long_of word ≡ Some (name, value) → no_kind (turn_fault s [] (waits_at h id position) word) ≡ false
  no_value_long name value no_dashes long = rw (no_dashes, long) (by (arg_by_long s.rules name) value)
    where
      by : (a : Option Rule) (v : Option Text) → no_kind (or_else (long_fault s.rules s.args_override_self a v h) (step_fault s position (after_flag s.rules (option id) word (long_met s.rules a v h).0 (long_met s.rules a v h).1).0 (after_flag s.rules (option id) word (long_met s.rules a v h).0 (long_met s.rules a v h).1).1)) ≡ false
      by None v = refl
      by (Some a) v = takes (takes_values a) refl v
        where
          takes : (t : Bool) → takes_values a ≡ t → (v : Option Text) → no_kind (or_else (long_fault s.rules s.args_override_self (Some a) v h) (step_fault s position (after_flag s.rules (option id) word (long_met s.rules (Some a) v h).0 (long_met s.rules (Some a) v h).1).0 (after_flag s.rules (option id) word (long_met s.rules (Some a) v h).0 (long_met s.rules (Some a) v h).1).1)) ≡ false
          takes true e None = rw e (never _ _ lost)
          takes true e (Some value) = rw e (never _ _ (never _ _ lost))
          takes false e None = rw e (never _ _ (never _ _ lost))
          takes false e (Some value) = rw e refl
