-- The symbols that tokens stand for are those that are read from their bytes.
use Rattle.std.proofs.Common.{◌≡◌, ℕ, suc, List, [], ◌∷◌, refl, ap, sym, ◌∙◌, length}
use Rattle.std.specs.List.{AllByRecursion}
use Rattle.bb_lex.specs.declared.token.Kind.{Kind}
use Rattle.bb_lex.specs.declared.token.Kind.TheVariants as kinds
use Rattle.bb_lex.specs.declared.token.Token.{Token}
use Rattle.bb_lex.specs.Cut.{IsTokenOf}
use Rattle.bb_lex.specs.Laws.{ReadBitsAreMeant}
use Rattle.bb_parse.specs.Symbols.{Symbol, Identifier, Reserved, SizedNumber, PlainNumber, Sign, IsSymbol, AreSymbols}
use Rattle.bb_parse.specs.Inside.Symbols.{symbol_by, symbol, symbols}

pub length-symbols : (text : List ℕ) (tokens : List Token) (ts : List Symbol) → AreSymbols text tokens ts → length ts ≡ length tokens
length-symbols text [] [] p = refl
length-symbols text [] (s ∷ ss) p = elim p [ ]
length-symbols text (t ∷ tokens) [] p = elim p [ ]
length-symbols text (t ∷ tokens) (s ∷ ss) p = ap suc (length-symbols text tokens ss p.1)

module _ (said : ReadBitsAreMeant) (text : List ℕ) where
  is_symbol : (t : Token) (k : Kind) → t.kind ≡ k → IsTokenOf t text → IsSymbol text t (symbol_by text t k)
  is_symbol t kinds.Name e is = (e, refl)
  is_symbol t (kinds.Word w) e is = e
  is_symbol t kinds.Sized e is = (e, (said t text).0 is e)
  is_symbol t kinds.Plain e is = (e, refl)
  is_symbol t (kinds.Mark m) e is = e

  pub symbols_of_text : (tokens : List Token) → AllByRecursion (λ t. IsTokenOf t text) tokens → AreSymbols text tokens (symbols text tokens)
  symbols_of_text [] all = tt
  symbols_of_text (t ∷ tokens) all = (is_symbol t t.kind refl all.0, symbols_of_text tokens all.1)

  one_symbol : (t : Token) (s : Symbol) → IsSymbol text t s → s ≡ symbol text t
  one_symbol t (Identifier n) p = ap Identifier p.1 ∙ sym (ap (symbol_by text t) p.0)
  one_symbol t (Reserved w) p = sym (ap (symbol_by text t) p)
  one_symbol t (SizedNumber bits) p = ap SizedNumber ((said t text).1 bits p.1) ∙ sym (ap (symbol_by text t) p.0)
  one_symbol t (PlainNumber n) p = ap PlainNumber p.1 ∙ sym (ap (symbol_by text t) p.0)
  one_symbol t (Sign m) p = sym (ap (symbol_by text t) p)

  pub symbols_are_one : (tokens : List Token) (ts : List Symbol) → AreSymbols text tokens ts → ts ≡ symbols text tokens
  symbols_are_one [] [] p = refl
  symbols_are_one [] (s ∷ ss) p = elim p [ ]
  symbols_are_one (t ∷ tokens) [] p = elim p [ ]
  symbols_are_one (t ∷ tokens) (s ∷ ss) p = ap (λ z. z ∷ ss) (one_symbol t s p.0) ∙ ap (λ z. symbol text t ∷ z) (symbols_are_one tokens ss p.1)
