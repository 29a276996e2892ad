-- The arguments of the command as clap builds them: which rule a name has, and what a use of it puts among the rows.
use Rattle.std.proofs.Common.{◌≡◌, ◌∙◌, ℕ, Bool, true, false, List, [], ◌∷◌, ◌++◌, None, Some, ap, codes, if◌then◌else◌, map, refl}
use Rattle.std.specs.Prelude.{◌&&◌, ◌||◌, find, is_some, not}
use Rattle.std.specs.List.{list_all}
use Rattle.std.specs.Str.{bytes_eq}
use lib.Pointwise.{bytes_decides}
use Rattle.clap.proofs.OnLiterals.{clap_on_literals}
use Rattle.clap.specs.Simple.{Shape, built, filled, names_of, with_index}
use Rattle.clap.specs.Walk.{Names, Rule, arg_by_id, arg_by_index, arg_by_long, arg_by_short, has_long}
use Rattle.bb_args.specs.CommandLines.{Text, flags, is_among, options}
use Rattle.bb_args.specs.Inside.Commands.{command, flag, positional, valued}

abbrev pub shape : Shape
shape = (built command).top

abbrev pub names : Names
names = names_of (built command)

-- the rules of the two files, of a flag and of an option
abbrev pub file_rule : ℕ → Text → Rule
file_rule place name = with_index place (filled (positional name))

abbrev pub flag_rule : Text → Rule
flag_rule name = filled (flag name)

abbrev pub option_rule : Text → Rule
option_rule name = filled (valued name)

abbrev pub spec_rule : Rule
spec_rule = file_rule 1 (codes "SPEC")

abbrev pub imp_rule : Rule
imp_rule = file_rule 2 (codes "IMPL")

abbrev pub rules : List Rule
rules = spec_rule ∷ imp_rule ∷ (map flag_rule flags ++ (map option_rule options ++ []))

pub rules_are : shape.rules ≡ rules
unfolding clap_on_literals
rules_are = refl

same_text : (a b : Text) → bytes_eq a b ≡ true → a ≡ b
same_text a b = (bytes_decides a b).0

-- where a test of rules is one of names
find_named : (f : Text → Rule) (test : Rule → Bool) (name : Text) → ((n : Text) → test (f n) ≡ bytes_eq n name) → (ns : List Text) (rest : List Rule)
    → find test (map f ns ++ rest) ≡ (if is_among ns name then Some (f name) else find test rest)
find_named f test name is [] rest = refl
find_named f test name is (n ∷ ns) rest = by (bytes_eq n name) refl (find_named f test name is ns rest)
  where
    by : (b : Bool) → bytes_eq n name ≡ b → find test (map f ns ++ rest) ≡ (if is_among ns name then Some (f name) else find test rest)
        → find test (map f (n ∷ ns) ++ rest) ≡ (if is_among (n ∷ ns) name then Some (f name) else find test rest)
    by true e more = rw (is n, e) (ap (λ m. Some (f m)) (same_text n name e))
    by false e more = rw (is n, e) more

or-false : (b : Bool) → (b || false) ≡ b
or-false true = refl
or-false false = refl

-- by what follows two minus signs
abbrev by_long : Text → Rule → Bool
by_long name a = not (is_some a.index) && has_long a name

long_of_flag : (name n : Text) → by_long name (flag_rule n) ≡ bytes_eq n name
long_of_flag name n = or-false (bytes_eq n name)

long_of_option : (name n : Text) → by_long name (option_rule n) ≡ bytes_eq n name
long_of_option name n = or-false (bytes_eq n name)

long_is : (name : Text) → arg_by_long shape.rules name ≡ (if is_among flags name then Some (flag_rule name) else (if is_among options name then Some (option_rule name) else None))
long_is name =
    ap (λ rs. arg_by_long rs name) rules_are ∙ find_named flag_rule (by_long name) name (long_of_flag name) flags (map option_rule options ++ [])
    ∙ ap (λ o. if is_among flags name then Some (flag_rule name) else o) (find_named option_rule (by_long name) name (long_of_option name) options [])

pub flag_by_long : (name : Text) → is_among flags name ≡ true → arg_by_long shape.rules name ≡ Some (flag_rule name)
flag_by_long name is = long_is name ∙ rw is refl

pub option_by_long : (name : Text) → is_among flags name ≡ false → is_among options name ≡ true → arg_by_long shape.rules name ≡ Some (option_rule name)
option_by_long name none is = long_is name ∙ rw (none, is) refl

pub none_by_long : (name : Text) → is_among flags name ≡ false → is_among options name ≡ false → arg_by_long shape.rules name ≡ None
none_by_long name none neither = long_is name ∙ rw (none, neither) refl

pub none_by_short : (x : ℕ) → arg_by_short shape.rules x ≡ None
unfolding clap_on_literals
none_by_short x = refl

-- names that differ from each of a list differ from what is among it
pub apart : (name : Text) (ns : List Text) → list_all (λ n. not (bytes_eq name n)) ns ≡ true → (other : Text) → is_among ns other ≡ true → bytes_eq name other ≡ false
apart name [] all other is = cc
apart name (n ∷ ns) all other is = by (bytes_eq n other) refl (bytes_eq name n) refl all is (apart name ns)
  where
    by : (b : Bool) → bytes_eq n other ≡ b → (d : Bool) → bytes_eq name n ≡ d → (not d && list_all (λ m. not (bytes_eq name m)) ns) ≡ true → (b || is_among ns other) ≡ true
        → (list_all (λ m. not (bytes_eq name m)) ns ≡ true → (o : Text) → is_among ns o ≡ true → bytes_eq name o ≡ false) → bytes_eq name other ≡ false
    by b e true d both among more = cc both
    by true e false d both among more = rw (← same_text n other e) d
    by false e false d both among more = more both other among

-- a flag is no option
apart_each : (ns : List Text) → list_all (λ n. list_all (λ o. not (bytes_eq n o)) options) ns ≡ true → (name other : Text) → is_among ns name ≡ true → is_among options other ≡ true → bytes_eq name other ≡ false
apart_each [] all name other is also = cc
apart_each (n ∷ ns) all name other is also = by (bytes_eq n name) refl (list_all (λ o. not (bytes_eq n o)) options) refl all is (apart_each ns)
  where
    by : (b : Bool) → bytes_eq n name ≡ b → (d : Bool) → list_all (λ o. not (bytes_eq n o)) options ≡ d → (d && list_all (λ m. list_all (λ o. not (bytes_eq m o)) options) ns) ≡ true → (b || is_among ns name) ≡ true
        → (list_all (λ m. list_all (λ o. not (bytes_eq m o)) options) ns ≡ true → (x y : Text) → is_among ns x ≡ true → is_among options y ≡ true → bytes_eq x y ≡ false) → bytes_eq name other ≡ false
    by b e false d both among more = cc both
    by true e true d both among more = rw (← same_text n name e) (apart n options d other also)
    by false e true d both among more = more both name other among also

pub flags_no_options : (name other : Text) → is_among flags name ≡ true → is_among options other ≡ true → bytes_eq name other ≡ false
flags_no_options = apart_each flags refl

pub option_no_flag : (name : Text) → is_among options name ≡ true → is_among flags name ≡ false
option_no_flag name is = by (is_among flags name) refl
  where
    by : (b : Bool) → is_among flags name ≡ b → b ≡ false
    by true e = cc ((bytes_decides name name).1 refl, flags_no_options name name e is)
    by false e = refl

pub option_by_id : (name : Text) → is_among options name ≡ true → arg_by_id shape.rules name ≡ Some (option_rule name)
option_by_id name is =
    ap (λ rs. arg_by_id rs name) rules_are
    ∙ rw (apart (codes "SPEC") options refl name is, apart (codes "IMPL") options refl name is)
    (find_named flag_rule (λ a. bytes_eq a.id name) name (λ n. refl) flags (map option_rule options ++ [])
    ∙ rw (option_no_flag name is) (find_named option_rule (λ a. bytes_eq a.id name) name (λ n. refl) options [] ∙ rw is refl))

pub spec_by_id : arg_by_id shape.rules (codes "SPEC") ≡ Some spec_rule
unfolding clap_on_literals
spec_by_id = refl

pub imp_by_id : arg_by_id shape.rules (codes "IMPL") ≡ Some imp_rule
unfolding clap_on_literals
imp_by_id = refl

pub first_by_index : arg_by_index shape.rules 1 ≡ Some spec_rule
unfolding clap_on_literals
first_by_index = refl

pub second_by_index : arg_by_index shape.rules 2 ≡ Some imp_rule
unfolding clap_on_literals
second_by_index = refl

pub none_by_index : arg_by_index shape.rules 3 ≡ None
unfolding clap_on_literals
none_by_index = refl
