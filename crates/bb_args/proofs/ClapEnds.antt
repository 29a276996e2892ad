-- What clap finds at fault in words, one word after another, and after the last of them.
use Rattle.std.proofs.Common.{◌≡◌, ◌∙◌, Bool, true, false, List, [], ◌∷◌, ◌++◌, None, ap, ap₂, drop, map, refl}
use Rattle.std.specs.Prelude.{◌&&◌, fold, is_some}
use Rattle.clap.proofs.OnLiterals.{clap_on_literals}
use Rattle.clap.specs.Faults.{check_fault, default_fault, defaults_fault, entered_fault, fault_of, settle_fault, turn_fault, walk_fault}
use Rattle.clap.specs.Kinds.{Kinds, or_else}
use Rattle.clap.specs.Simple.{built, entered}
use Rattle.clap.specs.Walk.{Row, Rule, Walk, finished, has_row, nothing_held, settled, walk_from, walked, with_default}
use Rattle.bb_args.specs.CommandLines.{Text, flags, options}
use Rattle.bb_args.specs.Inside.Commands.{command}
use Rattle.bb_args.proofs.ClapRules.{flag_rule, imp_rule, names, option_rule, rules_are, shape, spec_rule}
use Rattle.bb_args.proofs.ClapTurns.{no_kind, no_kind-or_else}

abbrev pub end_fault : Walk → Kinds
end_fault end =
    or_else (entered_fault (built command) end.stopped)
    (or_else (settle_fault shape.rules shape.args_override_self end.held)
    (or_else (defaults_fault (settled shape.rules end.held).rows shape.rules)
    (check_fault shape (finished shape.rules end.held) (is_some (entered (built command) end.stopped)))))

abbrev pub walk_over : Walk → List Text → Walk
walk_over w words = fold (walked shape.rules names) w words

abbrev pub total : Walk → List Text → Kinds
total w words = or_else (walk_fault shape names w words) (end_fault (walk_over w words))

pub all_of_them : (words : List Text) → fault_of command words ≡ total (walk_from nothing_held) (drop 1 words)
all_of_them words = refl

or_else-assoc : (a b c : Kinds) → or_else (or_else a b) c ≡ or_else a (or_else b c)
or_else-assoc [] b c = refl
or_else-assoc (k ∷ ks) b c = refl

pub total-more : (w : Walk) (word : Text) (words : List Text) → no_kind (total w (word ∷ words)) ≡ (no_kind (turn_fault shape names w word) && no_kind (total (walked shape.rules names w word) words))
unfolding walk_fault
total-more w word words =
    let next = walked shape.rules names w word in
    ap no_kind (or_else-assoc (turn_fault shape names w word) (walk_fault shape names next words) (end_fault (walk_over next words)))
    ∙ no_kind-or_else (turn_fault shape names w word) (total next words)

-- no argument is at fault where it is not given
abbrev NoDefault : Rule → Type 0
NoDefault a = (rows : List Row) → default_fault rows a ≡ []

no_default_flag : (name : Text) → NoDefault (flag_rule name)
no_default_flag name rows = by (has_row name rows) refl
  where
    by : (b : Bool) → has_row name rows ≡ b → default_fault rows (flag_rule name) ≡ []
    by true e = rw e refl
    by false e = rw e refl

no_default_option : (name : Text) → NoDefault (option_rule name)
no_default_option name rows = by (has_row name rows) refl
  where
    by : (b : Bool) → has_row name rows ≡ b → default_fault rows (option_rule name) ≡ []
    by true e = rw e refl
    by false e = rw e refl

no_default_file : (a : Rule) → a.defaults ≡ [] → NoDefault a
no_default_file a none rows = by (has_row a.id rows) refl
  where
    by : (b : Bool) → has_row a.id rows ≡ b → default_fault rows a ≡ []
    by true e = rw e refl
    by false e = rw (e, none) refl

one_more : (a : Rule) (rest : List Rule) → NoDefault a → ((rows : List Row) → defaults_fault rows rest ≡ []) → (rows : List Row) → defaults_fault rows (a ∷ rest) ≡ []
unfolding defaults_fault
one_more a rest one more rows = rw (one rows) (more (with_default rows a))

named_more : (f : Text → Rule) → ((name : Text) → NoDefault (f name)) → (ns : List Text) (rest : List Rule) → ((rows : List Row) → defaults_fault rows rest ≡ []) → (rows : List Row) → defaults_fault rows (map f ns ++ rest) ≡ []
named_more f each [] rest more = more
named_more f each (n ∷ ns) rest more = one_more (f n) (map f ns ++ rest) (each n) (named_more f each ns rest more)

none_at_all : (rows : List Row) → defaults_fault rows [] ≡ []
unfolding defaults_fault
none_at_all rows = refl

no_defaults : (rows : List Row) → defaults_fault rows shape.rules ≡ []
no_defaults rows =
    ap (defaults_fault rows) rules_are
    ∙ one_more spec_rule _ (no_default_file spec_rule refl)
    (one_more imp_rule _ (no_default_file imp_rule refl)
    (named_more flag_rule no_default_flag flags _ (named_more option_rule no_default_option options [] none_at_all))) rows

no_check : (rows : List Row) → check_fault shape rows false ≡ []
unfolding clap_on_literals
no_check rows = refl

with_nothing : (a b c : Kinds) → b ≡ [] → c ≡ [] → no_kind (or_else a (or_else b c)) ≡ no_kind a
with_nothing [] b c e f = ap₂ (λ x y. no_kind (or_else x y)) e f
with_nothing (k ∷ ks) b c e f = refl

pub end_is : (w : Walk) → w.stopped ≡ None → no_kind (end_fault w) ≡ no_kind (settle_fault shape.rules shape.args_override_self w.held)
end_is w going = rw going (with_nothing _ _ _ (no_defaults (settled shape.rules w.held).rows) (no_check (finished shape.rules w.held)))
