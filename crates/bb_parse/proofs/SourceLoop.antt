-- The loop over statements reads what the function on lists reads.
use Rattle.std.proofs.Common.{◌≡◌, ℕ, ◌+◌, ◌-◌, ◌<◌, ◌≤◌, List, [], ◌∷◌, ◌++◌, Option, Some, None, Result, Ok, Err, Bool, true, false, refl, ap, sym, ◌∙◌, arith, length, append_assoc, MatchOption, subst, length-append, if◌then◌else◌}
use Rattle.std.specs.List.{AllByRecursion}
use Rattle.bb_ast.specs.Syntax.{PlainModule}
use Rattle.bb_lex.specs.declared.token.Token.{Token}
use Rattle.bb_parse.specs.declared.fault.ParseFault.{ParseFault}
use Rattle.bb_lex.specs.Cut.{IsTokenOf}
use Rattle.bb_parse.specs.Sources.{ends_statement, IsFirstStatement, HaveNoEnd}
use Rattle.bb_parse.specs.Inside.Sources.{with_token, first_statement, with_modules, at_end, read_step, read_from}
use Rattle.bb_parse.proofs.Loops.{next_distance}

pub with_modules-nil : (r : Result (List PlainModule) ParseFault) → with_modules [] r ≡ r
with_modules-nil (Ok ms) = refl
with_modules-nil (Err e) = refl

pub with_modules-with_modules : (xs ys : List PlainModule) (r : Result (List PlainModule) ParseFault) → with_modules xs (with_modules ys r) ≡ with_modules (xs ++ ys) r
with_modules-with_modules xs ys (Ok ms) = rw append_assoc refl
with_modules-with_modules xs ys (Err e) = refl

module _ (text : List ℕ) (m k : ℕ) (open_module : Option PlainModule) (tokens : List Token) (here : k < m) (prefix : List PlainModule) where
  pub source_done : first_statement tokens ≡ None → with_modules prefix (read_from text (m - k) open_module tokens) ≡ with_modules prefix (at_end open_module tokens)
  source_done h = rw (next_distance m k here) (rw h refl)

  module _ (s rest : List Token) (first : first_statement tokens ≡ Some (s, rest)) where
    pub source_fault : (e : ParseFault) → read_step text open_module s ≡ Err e → with_modules prefix (read_from text (m - k) open_module tokens) ≡ Err e
    source_fault e h = rw (next_distance m k here) (rw (first, h) refl)

    pub source_next : (closed : List PlainModule) (next : Option PlainModule) → read_step text open_module s ≡ Ok (closed, next)
        → with_modules prefix (read_from text (m - k) open_module tokens) ≡ with_modules (prefix ++ closed) (read_from text (m - (k + 1)) next rest)
    source_next closed next h = rw (next_distance m k here) (rw (first, h) (with_modules-with_modules prefix closed (read_from text (m - (k + 1)) next rest)))

pub source_ended : (text : List ℕ) (m k : ℕ) (open_module : Option PlainModule) (tokens : List Token) (prefix : List PlainModule) → m ≤ k
    → with_modules prefix (read_from text (m - k) open_module tokens) ≡ with_modules prefix (at_end open_module tokens)
source_ended text m k open_module tokens prefix h = let z : m - k ≡ 0 = omega arith in rw z refl

pub source_begun : (text : List ℕ) (n : ℕ) (tokens : List Token) → with_modules [] (read_from text (n - 0) None tokens) ≡ read_from text n None tokens
source_begun text n tokens = let z : n - 0 ≡ n = omega arith in rw z (with_modules-nil (read_from text n None tokens))

found_later : (t : Token) (ts : List Token) → ends_statement t.kind ≡ false → (o : Option (List Token × List Token)) → MatchOption o (HaveNoEnd ts) (λ x. IsFirstStatement ts x.0 x.1)
    → MatchOption (with_token t o) (HaveNoEnd (t ∷ ts)) (λ x. IsFirstStatement (t ∷ ts) x.0 x.1)
found_later t ts e None h = (e, h)
found_later t ts e (Some ([], rest)) h = elim h.1 [ ]
found_later t ts e (Some (u ∷ us, rest)) h = (ap (λ z. t ∷ z) h.0, (e, h.1))

found_by : (t : Token) (ts : List Token) (b : Bool) → ends_statement t.kind ≡ b → MatchOption (first_statement ts) (HaveNoEnd ts) (λ x. IsFirstStatement ts x.0 x.1)
    → MatchOption (if b then Some (t ∷ [], ts) else with_token t (first_statement ts)) (HaveNoEnd (t ∷ ts)) (λ x. IsFirstStatement (t ∷ ts) x.0 x.1)
found_by t ts true e h = (refl, e)
found_by t ts false e h = found_later t ts e (first_statement ts) h

-- the first statement is found, or none ends
pub first_found : (tokens : List Token) → MatchOption (first_statement tokens) (HaveNoEnd tokens) (λ x. IsFirstStatement tokens x.0 x.1)
first_found [] = tt
first_found (t ∷ ts) = found_by t ts (ends_statement t.kind) refl (first_found ts)

pub first_is : (tokens s rest : List Token) → first_statement tokens ≡ Some (s, rest) → IsFirstStatement tokens s rest
first_is tokens s rest h = subst (λ (o : Option (List Token × List Token)). MatchOption o (HaveNoEnd tokens) (λ x. IsFirstStatement tokens x.0 x.1)) h (first_found tokens)

pub none_is : (tokens : List Token) → first_statement tokens ≡ None → HaveNoEnd tokens
none_is tokens h = subst (λ (o : Option (List Token × List Token)). MatchOption o (HaveNoEnd tokens) (λ x. IsFirstStatement tokens x.0 x.1)) h (first_found tokens)

pub all_parts : (P : Token → Type 0) (s rest : List Token) → AllByRecursion P (s ++ rest) → AllByRecursion P s × AllByRecursion P rest
all_parts P [] rest h = (tt, h)
all_parts P (t ∷ s) rest h = let others = all_parts P s rest h.1 in ((h.0, others.0), others.1)

module _ (text : List ℕ) (tokens s rest : List Token) (first : first_statement tokens ≡ Some (s, rest)) where
  pub statement_of_text : AllByRecursion (λ t. IsTokenOf t text) tokens → AllByRecursion (λ t. IsTokenOf t text) s
  statement_of_text all = (all_parts (λ t. IsTokenOf t text) s rest (subst (λ (z : List Token). AllByRecursion (λ t. IsTokenOf t text) z) (first_is tokens s rest first).0 all)).0

  pub rest_of_text : AllByRecursion (λ t. IsTokenOf t text) tokens → AllByRecursion (λ t. IsTokenOf t text) rest
  rest_of_text all = (all_parts (λ t. IsTokenOf t text) s rest (subst (λ (z : List Token). AllByRecursion (λ t. IsTokenOf t text) z) (first_is tokens s rest first).0 all)).1

pub first_lengths : (tokens s rest : List Token) → first_statement tokens ≡ Some (s, rest) → length s + length rest ≡ length tokens
first_lengths tokens s rest h = sym (ap length (first_is tokens s rest h).0 ∙ length-append s rest)

pub ruleset source_looping = (source_done, source_fault, source_next, source_ended, source_begun, statement_of_text, rest_of_text, first_lengths)
