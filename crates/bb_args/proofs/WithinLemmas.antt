-- Whatever words ask for is within the table of the options.
use Rattle.std.proofs.Common.{◌≡◌, ◌≢◌, ℕ, ◌≤◌, ◌⊎◌, Bool, true, false, List, [], ◌∷◌, Option, None, Some, if◌then◌else◌, arith, codes, refl, subst, sym, ◌∙◌, inl, inr}
use Rattle.std.specs.Prelude.{All, IfOk, IfSome, Result, Ok, Err, nat_le, not, option_and_then, option_map, ◌&&◌, ◌||◌}
use Rattle.std.specs.Char.{is_ascii_graphic}
use Rattle.std.specs.List.{list_all}
use Rattle.std.proofs.lemmas.List.Elements.{All-cons, All-nil}
use Rattle.bb_options.specs.declared.options.Options.{Options}
use Rattle.bb_options.specs.declared.rung.Rung.TheVariants.{Ternary, Expand}
use Rattle.bb_options.specs.Rungs.{AreBounds, rank}
use Rattle.bb_args.specs.Requests.{AreRequestFor, RequestNothing, HasBounds, IsWantedBy, MadePair, Request, comparison_by, made_pair_by, options_by, refutation_by, request_by, care, file, if_given, has_no_files, is_making, is_refuting, name, request_of, rung_named, one_at_most, top, value_or}
use Rattle.bb_args.specs.CommandLines.{Found, found_in}
use Rattle.clap.specs.declared.parser.matches.ArgMatches.{ArgMatches}
use Rattle.bb_args.specs.Inside.Commands.{AreSame, FindsIn, by_matches}
use Rattle.bb_args.specs.declared.requested.Wanted.{Wanted}
use Rattle.bb_args.specs.declared.requested.Wanted.TheVariants as wanted
use Rattle.bb_args.specs.declared.requested.WordsFault.{WordsFault}
use Rattle.bb_args.specs.Laws.{IsMadeWithin, IsWithin, MadePairsAreWithin, RequestsAreWithin}
use Rattle.bb_args.specs.Numbers.{number_within}

-- what follows from a value that is there
pub given-some : {X Y : Type 0} (o : Option X) (f : X → Option Y) (y : Y) → if_given o f ≡ Some y → (x : X) × (o ≡ Some x) × (f x ≡ Some y)
given-some None f y e = cc
given-some (Some x) f y e = (x, refl, e)

pub if-some : {X : Type 0} (b : Bool) (x y : X) → (if b then Some x else None) ≡ Some y → (b ≡ true) × (x ≡ y)
if-some true x y e = (refl, cc)
if-some false x y e = cc

pub some-same : {X : Type 0} (x y : X) → Some x ≡ Some y → x ≡ y
some-same x y e = cc

pub both : (a b : Bool) → (a && b) ≡ true → (a ≡ true) × (b ≡ true)
both true b e = (refl, e)
both false b e = cc

le-true : (a b : ℕ) → nat_le a b ≡ true → a ≤ b
le-true a b e = grind (arith, e)

number_within-some : (least most : ℕ) (text : List ℕ) (n : ℕ) → number_within least most text ≡ Some n → (least ≤ n) × (n ≤ most)
number_within-some least most text n e =
    let t = if-some _ _ _ e in (grind (arith, t.0, t.1), grind (arith, t.0, t.1))

bounded : (default least most : ℕ) (value : Option (List ℕ)) (n : ℕ) → least ≤ default → default ≤ most
    → value_or default (number_within least most) value ≡ Some n → (least ≤ n) × (n ≤ most)
bounded default least most None n low high e = let same = some-same _ _ e in (omega (arith, same, low), omega (arith, same, high))
bounded default least most (Some text) n low high e = number_within-some least most text n e

name-some : (text if_given : List ℕ) → name text ≡ Some if_given → if_given ≢ []
name-some [] if_given e = cc
name-some (b ∷ bs) if_given e = λ empty. cc

pub file-some : (value : Option (List ℕ)) (if_given : List ℕ) → file value ≡ Some if_given → if_given ≢ []
file-some None if_given e = cc
file-some (Some text) if_given e = name-some text if_given e

graphic : (text : List ℕ) → list_all is_ascii_graphic text ≡ true → All (λ b. (33 ≤ b) × (b ≤ 126)) text
graphic [] e = All-nil (λ b. (33 ≤ b) × (b ≤ 126))
graphic (b ∷ bs) e =
    let parts = both (is_ascii_graphic b) (list_all is_ascii_graphic bs) e in
    All-cons (λ b. (33 ≤ b) × (b ≤ 126)) b bs (grind (arith, parts.0), grind (arith, parts.0)) (graphic bs parts.1)

care-within : (value if_given : Option (List ℕ)) → care value ≡ Some if_given → IfSome if_given (λ text. (text ≢ []) × All (λ b. (33 ≤ b) × (b ≤ 126)) text)
care-within None if_given e = subst (λ o. IfSome o (λ text. (text ≢ []) × All (λ b. (33 ≤ b) × (b ≤ 126)) text)) (some-same None if_given e) tt
care-within (Some text) if_given e = from (list_all is_ascii_graphic text) refl e
  where
    from : (g : Bool) → list_all is_ascii_graphic text ≡ g → option_map (λ found. Some found) (if g then name text else None) ≡ Some if_given → IfSome if_given (λ text. (text ≢ []) × All (λ b. (33 ≤ b) × (b ≤ 126)) text)
    from false is e = cc
    from true is e = named text is e
      where
        named : (text : List ℕ) → list_all is_ascii_graphic text ≡ true → option_map (λ found. Some found) (name text) ≡ Some if_given → IfSome if_given (λ text. (text ≢ []) × All (λ b. (33 ≤ b) × (b ≤ 126)) text)
        named [] is e = cc
        named (b ∷ bs) is e = subst (λ o. IfSome o (λ text. (text ≢ []) × All (λ b. (33 ≤ b) × (b ≤ 126)) text)) (some-same (Some (b ∷ bs)) if_given e) ((λ empty. cc), graphic (b ∷ bs) is)

options-within : (found : Found) (o : Options) → options_by found ≡ Some o → AreBounds o
options-within found o e =
    let from = given-some (value_or Ternary rung_named (found.value (codes "from"))) _ o e in
    let to = given-some (value_or Expand rung_named (found.value (codes "to"))) _ o from.2 in
    let patterns = given-some (value_or 32 (number_within 0 4096) (found.value (codes "patterns"))) _ o to.2 in
    let seed = given-some (value_or 1 (number_within 1 18446744073709551615) (found.value (codes "seed"))) _ o patterns.2 in
    let nodes = given-some (value_or 1000000 (number_within 0 50000000) (found.value (codes "nodes"))) _ o seed.2 in
    let cache = given-some (value_or 65536 (number_within 1 1048576) (found.value (codes "cache"))) _ o nodes.2 in
    let clauses = given-some (value_or 2000000 (number_within 0 8000000) (found.value (codes "clauses"))) _ o cache.2 in
    let end = if-some (nat_le (rank from.0) (rank to.0)) _ o clauses.2 in
    let p = bounded 32 0 4096 (found.value (codes "patterns")) patterns.0 (omega arith) (omega arith) patterns.1 in
    let s = bounded 1 1 18446744073709551615 (found.value (codes "seed")) seed.0 (omega arith) (omega arith) seed.1 in
    let n = bounded 1000000 0 50000000 (found.value (codes "nodes")) nodes.0 (omega arith) (omega arith) nodes.1 in
    let c = bounded 65536 1 1048576 (found.value (codes "cache")) cache.0 (omega arith) (omega arith) cache.1 in
    let l = bounded 2000000 0 8000000 (found.value (codes "clauses")) clauses.0 (omega arith) (omega arith) clauses.1 in
    subst AreBounds end.1 (record { order = le-true (rank from.0) (rank to.0) end.0; seed = s.0; patterns = p.1; nodes = n.1; cache_least = c.0; cache_most = c.1; clauses = l.1 })

one-at-most : (care invariant : Option (List ℕ)) → one_at_most care invariant ≡ true → (care ≡ None) ⊎ (invariant ≡ None)
one-at-most None invariant e = inl refl
one-at-most (Some text) None e = inr refl
one-at-most (Some text) (Some other) e = cc

request-within : (found : Found) (r : Request) → request_by found ≡ Some r → IsWithin r
request-within found r e =
    let spec = given-some (file found.spec) _ r e in
    let imp = given-some (file found.imp) _ r spec.2 in
    let top_spec = given-some (top (found.value (codes "top-spec"))) _ r imp.2 in
    let top_imp = given-some (top (found.value (codes "top-impl"))) _ r top_spec.2 in
    let care_output = given-some (care (found.value (codes "care"))) _ r top_imp.2 in
    let invariant = given-some (care (found.value (codes "invariant"))) _ r care_output.2 in
    let options = given-some (options_by found) _ r invariant.2 in
    let end = if-some (one_at_most care_output.0 invariant.0) _ r options.2 in
    subst IsWithin end.1 (record {
      spec = file-some found.spec spec.0 spec.1;
      imp = file-some found.imp imp.0 imp.1;
      care = care-within (found.value (codes "care")) care_output.0 care_output.1;
      invariant = care-within (found.value (codes "invariant")) invariant.0 invariant.1;
      one = one-at-most care_output.0 invariant.0 end.0;
      bounds = options-within found options.0 options.1;
    })

comparison-some : (found : Found) (r : Request) → comparison_by found ≡ Some r → request_by found ≡ Some r
comparison-some found r = by (is_refuting found || is_making found)
  where
    by : (b : Bool) → (if b then None else request_by found) ≡ Some r → request_by found ≡ Some r
    by true e = cc
    by false e = e

pub requests_within : RequestsAreWithin
requests_within words r e =
    let found = given-some (found_in words) comparison_by r e in request-within found.0 r (comparison-some found.0 r found.2)

-- of three that hold together the second is a denial
denied : (a b c : Bool) → (a && (not b && c)) ≡ true → b ≡ false
denied true false c e = refl
denied true true c e = cc
denied false b c e = cc

made-within : (found : Found) (m : MadePair) → made_pair_by found ≡ Some m → IsMadeWithin m
made-within found m e =
    let width = given-some (option_and_then (number_within 1 256) (found.value (codes "make"))) _ m e in
    let text = given-some (found.value (codes "make")) (number_within 1 256) width.0 width.1 in
    let options = given-some (options_by found) _ m width.2 in
    let bounds = number_within-some 1 256 text.0 width.0 text.2 in
    let end = if-some (not (is_refuting found) && (not options.0.shared && has_no_files found)) _ m options.2 in
    subst IsMadeWithin end.1 (record {
      least = bounds.0;
      most = bounds.1;
      bounds = options-within found options.0 options.1;
      apart = denied (not (is_refuting found)) options.0.shared (has_no_files found) end.0;
    })

pub made_within : MadePairsAreWithin
made_within words m e = let found = given-some (found_in words) made_pair_by m e in made-within found.0 m found.2

-- so what the code hands over is within the bounds of the checks
pub handed_within : (words : List (List ℕ)) (r : Result Wanted WordsFault) → IfOk r (AreRequestFor words) → IfOk r HasBounds
handed_within words (Ok (wanted.Comparison a)) requests = (requests_within words (request_of a) requests).bounds
handed_within words (Ok (wanted.MadePair n fill options)) requests = let m = made_within words (record { n = n; fill = fill; options = options }) requests in (m.least, m.most, m.bounds)
handed_within words (Ok (wanted.Refutation cnf adds)) requests = tt
handed_within words (Err fault) requests = tt

-- what is found by two ways that agree at each name is asked for alike
module _ (f g : Found) (same : AreSame f g) where
  same_options : options_by f ≡ options_by g
  same_options = rw (
    same.value (codes "from") refl,
    same.value (codes "to") refl,
    same.value (codes "patterns") refl,
    same.value (codes "seed") refl,
    same.value (codes "nodes") refl,
    same.value (codes "cache") refl,
    same.value (codes "clauses") refl,
    same.has_flag (codes "all") refl,
    same.has_flag (codes "proof") refl,
    same.has_flag (codes "shared") refl,
  ) refl

  same_comparison : comparison_by f ≡ comparison_by g
  same_comparison = rw (
    same.has_flag (codes "rup") refl,
    same.value (codes "make") refl,
    same.spec,
    same.imp,
    same.value (codes "top-spec") refl,
    same.value (codes "top-impl") refl,
    same.value (codes "care") refl,
    same.value (codes "invariant") refl,
    same.has_flag (codes "fill") refl,
    same_options,
  ) refl

  same_made : made_pair_by f ≡ made_pair_by g
  same_made = rw (
    same.value (codes "make") refl,
    same_options,
    same.has_flag (codes "rup") refl,
    same.spec,
    same.imp,
    same.value (codes "top-spec") refl,
    same.value (codes "top-impl") refl,
    same.value (codes "care") refl,
    same.value (codes "invariant") refl,
    same.has_flag (codes "fill") refl,
  ) refl

  same_refutation : refutation_by f ≡ refutation_by g
  same_refutation = rw (
    same.spec,
    same.imp,
    same.has_flag (codes "rup") refl,
    same.has_flag (codes "all") refl,
    same.has_flag (codes "proof") refl,
    same.has_flag (codes "shared") refl,
    same.has_flag (codes "fill") refl,
    same.value (codes "top-spec") refl,
    same.value (codes "top-impl") refl,
    same.value (codes "from") refl,
    same.value (codes "to") refl,
    same.value (codes "patterns") refl,
    same.value (codes "seed") refl,
    same.value (codes "nodes") refl,
    same.value (codes "clauses") refl,
    same.value (codes "cache") refl,
    same.value (codes "care") refl,
    same.value (codes "invariant") refl,
    same.value (codes "make") refl,
  ) refl

-- so what clap finds is asked for by the words
module _ (words : List (List ℕ)) (m : ArgMatches) (finds : FindsIn words m) where
  pub requests_found : (w : Wanted) → IsWantedBy (by_matches m) w → AreRequestFor words w
  requests_found (wanted.Comparison a) is = rw finds.1 (sym (same_comparison (by_matches m) finds.0 finds.2) ∙ is)
  requests_found (wanted.MadePair n fill options) is = rw finds.1 (sym (same_made (by_matches m) finds.0 finds.2) ∙ is)
  requests_found (wanted.Refutation cnf adds) is = rw finds.1 (sym (same_refutation (by_matches m) finds.0 finds.2) ∙ is)

  pub nothing_found : comparison_by (by_matches m) ≡ None → made_pair_by (by_matches m) ≡ None → refutation_by (by_matches m) ≡ None → RequestNothing words
  nothing_found none no_pair neither = record {
    comparison = rw finds.1 (sym (same_comparison (by_matches m) finds.0 finds.2) ∙ none);
    made = rw finds.1 (sym (same_made (by_matches m) finds.0 finds.2) ∙ no_pair);
    refutation = rw finds.1 (sym (same_refutation (by_matches m) finds.0 finds.2) ∙ neither);
  }

pub nothing_taken : (words : List (List ℕ)) → found_in words ≡ None → RequestNothing words
nothing_taken words none = record { comparison = rw none refl; made = rw none refl; refutation = rw none refl }
