use Rattle.std.proofs.Common.{◌≡◌, ◌⊎◌, ◌∙◌, ap, drop, map, refl, subst, sym, inl, inr, arith, true, false, is_some, List, [], ◌∷◌, None, Option, Some, Result, Ok, Err, String, string_bytes}
use Rattle.std.specs.Prelude.{IfErr, IfOk}
use Rattle.std.proofs.lemmas.Str.{IsUtf8-string_bytes}
use Rattle.clap.specs.Words.{App, FailsBy, HasMatchesOf, IsAmong, Kinds, fault_of, found_of, is_simple, is_simple_and_free, kind_of, rows_of}
use Rattle.clap.specs.Walk.{Text, is_empty}
use Rattle.clap.specs.declared.error.Error.{Error}
use Rattle.clap.specs.declared.error.kind.ErrorKind.{ErrorKind}
use Rattle.clap.specs.declared.error.kind.ErrorKind.TheVariants as kind
use Rattle.clap.specs.declared.parser.matches.ArgMatches.{ArgMatches}
use Rattle.clap.proofs.OnLiterals.{clap_on_literals}
use Rattle.bb_args.specs.CommandLines.{found_in}
use Rattle.bb_args.specs.Inside.Commands.{AreSame, FindsIn, by_rows, command, rows_in}
use Rattle.bb_args.proofs.ClapFound.{Agrees, clap_agrees}
use Rattle.bb_args.proofs.ClapWords.{AreTexts}
use Rattle.bb_args.proofs.command.parse.Goals as goal

is_read : is_simple command ≡ true
unfolding clap_on_literals
is_read = refl

is_judged : is_simple_and_free command ≡ true
unfolding clap_on_literals
is_judged = refl

is_one : (k : ErrorKind) (kinds : Kinds) → IsAmong k kinds → is_empty kinds ≡ false
is_one k [] none = absurd none
is_one k (x ∷ xs) among = grind arith

matched : (app : App) (words : List Text) (r : Result ArgMatches Error) → app ≡ command → IfOk r (HasMatchesOf app words) → IfOk r (λ m. rows_of (found_of m) ≡ rows_in words)
matched app words (Ok m) same has =
    let own = subst (λ (a : App). HasMatchesOf a words m) same has in
    (own is_read).0
matched app words (Err e) same has = tt

judged : {T : Type 0} (app : App) (words : List Text) (r : Result T Error) → app ≡ command → (is_simple_and_free app ≡ true → FailsBy (fault_of app words) r) → FailsBy (fault_of command words) r
judged app words r same fails = subst (λ (a : App). is_simple_and_free a ≡ true → FailsBy (fault_of a words) r) same fails is_judged

-- the words are texts
texts : {Z : Type 0} (words : List (String Z)) → AreTexts (map string_bytes words)
texts [] = tt
texts (word ∷ words) = (IsUtf8-string_bytes word, texts words)

texts_after : {Z : Type 0} (words : List (String Z)) → AreTexts (drop 1 (map string_bytes words))
texts_after [] = tt
texts_after (word ∷ words) = texts words

some-is : {X : Type 0} (o : Option X) → true ≡ is_some o → (x : X) × (o ≡ Some x)
some-is None e = cc e
some-is (Some x) e = (x, refl)

none-is : {X : Type 0} (o : Option X) → false ≡ is_some o → o ≡ None
none-is None e = refl
none-is (Some x) e = cc e

found_by : (words : List Text) (r : Result ArgMatches Error) → Agrees words → IfOk r (λ m. rows_of (found_of m) ≡ rows_in words) → FailsBy (fault_of command words) r → IfOk r (FindsIn words)
found_by words (Ok m) agrees rows fails =
    let found = some-is (found_in words) (sym (ap is_empty fails) ∙ agrees.taken) in
    (found.0, found.1, subst (λ rs. AreSame (by_rows rs) found.0) (sym rows) (agrees.found found.0 found.1))
found_by words (Err e) agrees rows fails = tt

refused_by : (words : List Text) (r : Result ArgMatches Error) → Agrees words → FailsBy (fault_of command words) r → IfErr r (λ e. (kind_of e ≡ kind.OutOfMemory) ⊎ (found_in words ≡ None))
refused_by words (Ok m) agrees fails = tt
refused_by words (Err e) agrees (inl memory) = inl memory
refused_by words (Err e) agrees (inr among) = inr (none-is (found_in words) (sym (is_one (kind_of e) (fault_of command words) among) ∙ agrees.taken))

pub returns-clause-found : goal.returns-clause-found
returns-clause-found c =
    let words = map string_bytes c.args.words.now in
    let result = c.try_get_matches_from.result in
    found_by words result (clap_agrees words (texts_after c.args.words.now)) (matched _ words result c.in_ok-command.ensures.app c.try_get_matches_from.ensures.matches)
    (judged _ words result c.in_ok-command.ensures.app c.try_get_matches_from.ensures.kinds)

pub returns-clause-refused : goal.returns-clause-refused
returns-clause-refused c =
    let words = map string_bytes c.args.words.now in
    let result = c.try_get_matches_from.result in
    refused_by words result (clap_agrees words (texts_after c.args.words.now)) (judged _ words result c.in_ok-command.ensures.app c.try_get_matches_from.ensures.kinds)
