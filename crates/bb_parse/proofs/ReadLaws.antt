-- Laws of sources, from what reading finds; and what the public call says, from what it reads.
use Rattle.std.proofs.Common.{◌≡◌, ◌⊎◌, inl, inr, ℕ, suc, List, [], ◌∷◌, Result, Ok, Err, refl, subst, arith, MatchResult, IfOk, IfErr, All}
use Rattle.std.specs.List.{AllByRecursion}
use Rattle.bb_ast.specs.declared.module.Source.{Source}
use Rattle.bb_ast.specs.Syntax.{PlainModule}
use Rattle.bb_ast.specs.Inside.Views.{source_view}
use Rattle.bb_lex.specs.declared.token.Token.{Token}
use Rattle.bb_lex.specs.Cut.{AreTokens, IsTokenOf}
use Rattle.bb_lex.specs.Laws.{TokensAreInText, TokensAreOne, ReadBitsAreMeant}
use Rattle.bb_parse.specs.declared.fault.ParseFault.{ParseFault}
use Rattle.bb_parse.specs.declared.fault.ParseFault.TheVariants.{Statement, Unended, Deep, NoMemory}
use Rattle.bb_parse.specs.Sources.{IsSource, IsParseFault}
use Rattle.bb_parse.specs.Laws.{SourcesAreOne, FaultsAreOne, SourceOrFault, NotSourceAndFault, TextsReadOnce, SourcesAreRead, FaultsAreRead}
use Rattle.bb_parse.specs.Inside.Sources.{Answers, read_source}
use Rattle.bb_parse.proofs.SourceLaws.{source_sound, source_complete, fault_complete}

ok_same : {A : Type 0} (x y : A) (r : Result A ParseFault) → r ≡ Ok x → r ≡ Ok y → x ≡ y
ok_same x y r p q = cc

err_same : {A : Type 0} (e f : ParseFault) (r : Result A ParseFault) → r ≡ Err e → r ≡ Err f → e ≡ f
err_same e f r p q = cc

ok_not_err : {A : Type 0} (x : A) (e : ParseFault) (r : Result A ParseFault) → r ≡ Ok x → r ≡ Err e → ⊥
ok_not_err x e r p q = cc

either : (text : List ℕ) (tokens : List Token) (r : Result (List PlainModule) ParseFault) → MatchResult r (IsSource text tokens) (IsParseFault text tokens)
    → ((ms : List PlainModule) × IsSource text tokens ms) ⊎ ((e : ParseFault) × IsParseFault text tokens e)
either text tokens (Ok ms) h = inl (ms, h)
either text tokens (Err e) h = inr (e, h)

found : (text : List ℕ) (tokens : List Token) (r : Result (List PlainModule) ParseFault) → MatchResult (read_source text tokens) (IsSource text tokens) (IsParseFault text tokens) → read_source text tokens ≡ r
    → MatchResult r (IsSource text tokens) (IsParseFault text tokens)
found text tokens r sound h = subst (λ (z : Result (List PlainModule) ParseFault). MatchResult z (IsSource text tokens) (IsParseFault text tokens)) h sound

by_recursion : (P : Token → Type 0) (ts : List Token) → All P ts → AllByRecursion P ts
by_recursion P [] h = tt
by_recursion P (t ∷ ts) h = (h 0 t (omega arith), by_recursion P ts (λ k d less. h (suc k) d (omega arith)))

-- each token of a text is one where it is
pub all_of_text : TokensAreInText → (text : List ℕ) (tokens : List Token) → AreTokens text tokens → AllByRecursion (λ t. IsTokenOf t text) tokens
all_of_text occur text tokens h = by_recursion (λ t. IsTokenOf t text) tokens (occur text tokens h)

-- what is read from the bytes of a sized number is what it says
module _ (said : ReadBitsAreMeant) where
  pub sources_are_one : SourcesAreOne
  sources_are_one text tokens ms ns p q = ok_same ms ns (read_source text tokens) (source_complete said text tokens ms p) (source_complete said text tokens ns q)

  pub faults_are_one : FaultsAreOne
  faults_are_one text tokens e f p q = err_same e f (read_source text tokens) (fault_complete said text tokens e p) (fault_complete said text tokens f q)

  pub not_source_and_fault : NotSourceAndFault
  not_source_and_fault text tokens ms e p q = ok_not_err ms e (read_source text tokens) (source_complete said text tokens ms p) (fault_complete said text tokens e q)

  pub texts_read_once : TokensAreOne → TextsReadOnce
  texts_read_once one text ms ns p q =
      let same : q.0 ≡ p.0 = one text q.0 p.0 q.1 p.1 in
      sources_are_one text p.0 ms ns p.2 (subst (λ (z : List Token). IsSource text z ns) same q.2)

  module _ (occur : TokensAreInText) where
    pub source_or_fault : SourceOrFault
    source_or_fault text tokens h = either text tokens (read_source text tokens) (source_sound said text tokens (all_of_text occur text tokens h))

    pub sources_are_read : SourcesAreRead
    sources_are_read text tokens ms h = (found text tokens (Ok ms) (source_sound said text tokens (all_of_text occur text tokens h)), source_complete said text tokens ms)

    pub faults_are_read : FaultsAreRead
    faults_are_read text tokens e h = (found text tokens (Err e) (source_sound said text tokens (all_of_text occur text tokens h)), fault_complete said text tokens e)

-- what the public call says

module _ (said : ReadBitsAreMeant) (text : List ℕ) (tokens : List Token) where
  pub answer_ok : MatchResult (read_source text tokens) (IsSource text tokens) (IsParseFault text tokens) → (r : Result Source ParseFault) → Answers source_view r (read_source text tokens)
      → IfOk r (λ s. IsSource text tokens (source_view s))
  answer_ok sound (Ok s) h = found text tokens (Ok (source_view s)) sound h
  answer_ok sound (Err e) h = tt

  pub answer_fault : MatchResult (read_source text tokens) (IsSource text tokens) (IsParseFault text tokens) → (r : Result Source ParseFault) → Answers source_view r (read_source text tokens)
      → IfErr r (λ e. (e ≡ NoMemory) ⊎ IsParseFault text tokens e)
  answer_fault sound (Ok s) h = tt
  answer_fault sound (Err (Statement l)) h = inr (found text tokens (Err (Statement l)) sound h)
  answer_fault sound (Err Unended) h = inr (found text tokens (Err Unended) sound h)
  answer_fault sound (Err (Deep l)) h = inr (found text tokens (Err (Deep l)) sound h)
  answer_fault sound (Err NoMemory) h = inl refl

  pub answer_only_ok : (r : Result Source ParseFault) → Answers source_view r (read_source text tokens) → (ms : List PlainModule) → IsSource text tokens ms
      → MatchResult r (λ s. source_view s ≡ ms) (λ e. e ≡ NoMemory)
  answer_only_ok (Ok s) h ms p = ok_same (source_view s) ms (read_source text tokens) h (source_complete said text tokens ms p)
  answer_only_ok (Err (Statement l)) h ms p = absurd (ok_not_err ms (Statement l) (read_source text tokens) (source_complete said text tokens ms p) h)
  answer_only_ok (Err Unended) h ms p = absurd (ok_not_err ms Unended (read_source text tokens) (source_complete said text tokens ms p) h)
  answer_only_ok (Err (Deep l)) h ms p = absurd (ok_not_err ms (Deep l) (read_source text tokens) (source_complete said text tokens ms p) h)
  answer_only_ok (Err NoMemory) h ms p = refl

  pub answer_only_fault : (r : Result Source ParseFault) → Answers source_view r (read_source text tokens) → (f : ParseFault) → IsParseFault text tokens f
      → MatchResult r (λ s. ⊥) (λ e. (e ≡ f) ⊎ (e ≡ NoMemory))
  answer_only_fault (Ok s) h f p = ok_not_err (source_view s) f (read_source text tokens) h (fault_complete said text tokens f p)
  answer_only_fault (Err (Statement l)) h f p = inl (err_same (Statement l) f (read_source text tokens) h (fault_complete said text tokens f p))
  answer_only_fault (Err Unended) h f p = inl (err_same Unended f (read_source text tokens) h (fault_complete said text tokens f p))
  answer_only_fault (Err (Deep l)) h f p = inl (err_same (Deep l) f (read_source text tokens) h (fault_complete said text tokens f p))
  answer_only_fault (Err NoMemory) h f p = inr refl
