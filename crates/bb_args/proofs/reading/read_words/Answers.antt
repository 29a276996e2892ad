use Rattle.std.proofs.Common.{◌≡◌, List, None, Option, Some, map, string_bytes, subst, sym}
use Rattle.std.specs.Prelude.{IfOk, IfSome, Result}
use Rattle.std.specs.Option.{ok_or}
use Rattle.clap.specs.declared.parser.matches.ArgMatches.{ArgMatches}
use Rattle.bb_args.specs.Requests.{AreRequestFor, IsWantedBy}
use Rattle.bb_args.specs.CommandLines.{Text}
use Rattle.bb_args.specs.Inside.Commands.{FindsIn, by_matches}
use Rattle.bb_args.specs.declared.requested.Wanted.{Wanted}
use Rattle.bb_args.specs.declared.requested.WordsFault.{WordsFault}
use Rattle.bb_args.specs.declared.requested.WordsFault.TheVariants.{Usage}
use Rattle.bb_args.proofs.WithinLemmas.{requests_found, handed_within}
use Rattle.bb_args.proofs.reading.read_words.Goals as goal

requests_some : (words : List Text) (m : ArgMatches) → FindsIn words m → (o : Option Wanted) → IfSome o (IsWantedBy (by_matches m)) → IfOk (ok_or o Usage) (AreRequestFor words)
requests_some words m finds None some = tt
requests_some words m finds (Some w) some = requests_found words m finds w some

handed : (words : List Text) (m : ArgMatches) → FindsIn words m → (o : Option Wanted) → IfSome o (IsWantedBy (by_matches m)) → (r : Result Wanted WordsFault) → r ≡ ok_or o Usage → IfOk r (AreRequestFor words)
handed words m finds o some r is = subst (λ z. IfOk z (AreRequestFor words)) (sym is) (requests_some words m finds o some)

pub returns-in-Ok-clause-ok : goal.returns-in-Ok-clause-ok
returns-in-Ok-clause-ok c = handed (map string_bytes c.args.words.now) c.in-Ok.matches c.in-Ok.ensures.found c.wanted.result c.wanted.ensures.some c.ok_or.result c.ok_or.ensures.value

pub returns-in-Ok-clause-bounds : goal.returns-in-Ok-clause-bounds
returns-in-Ok-clause-bounds c =
    handed_within (map string_bytes c.args.words.now) c.ok_or.result
    (handed (map string_bytes c.args.words.now) c.in-Ok.matches c.in-Ok.ensures.found c.wanted.result c.wanted.ensures.some c.ok_or.result c.ok_or.ensures.value)
