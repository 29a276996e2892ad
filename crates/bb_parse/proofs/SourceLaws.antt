-- What is read as a source is one, and a fault that is found is the first.
use Rattle.std.proofs.Common.{◌≡◌, ◌≢◌, ◌⊎◌, inl, inr, ℕ, zero, suc, ◌<◌, ◌≤◌, List, [], ◌∷◌, ◌++◌, Option, Some, None, Result, Ok, Err, Bool, true, false, refl, ap, sym, ◌∙◌, subst, arith, length, length-append, append_assoc, IfSome, MatchResult, nat_lt, if◌then◌else◌}
use Rattle.std.specs.List.{AllByRecursion}
use Rattle.std.proofs.lemmas.Bool.{ltb-true, ltb-false, le-ltb}
use Rattle.std.proofs.lemmas.List.{append-nil}
use Rattle.bb_ast.specs.Syntax.{PlainBody, PlainItem, PlainHead, PlainModule}
use Rattle.bb_lex.specs.declared.keyword.Keyword.TheVariants as words
use Rattle.bb_lex.specs.declared.token.Kind.{Kind}
use Rattle.bb_lex.specs.declared.token.Kind.TheVariants as kinds
use Rattle.bb_lex.specs.declared.token.Token.{Token}
use Rattle.bb_lex.specs.Cut.{IsTokenOf}
use Rattle.bb_lex.specs.Laws.{ReadBitsAreMeant}
use Rattle.bb_parse.specs.declared.fault.ParseFault.{ParseFault}
use Rattle.bb_parse.specs.declared.fault.ParseFault.TheVariants.{Statement, Unended, Deep, NoMemory}
use Rattle.bb_parse.specs.Symbols.{Symbol, Identifier, Reserved, SizedNumber, PlainNumber, Sign, AreSymbols}
use Rattle.bb_parse.specs.Declarations.{IsHeader}
use Rattle.bb_parse.specs.Items.{IsItem}
use Rattle.bb_parse.specs.Nesting.{nesting}
use Rattle.bb_parse.specs.Sources.{ends_statement, IsStatement, IsFirstStatement, HaveNoEnd, line_of, IsHeaderOf, IsItemOf, IsEnd, AreItems, IsSource, SourcePlace, Outside, Inside, IsGood, AreGood, IsStatementFault, IsFaultFrom, IsParseFault}
use Rattle.bb_parse.specs.Inside.Symbols.{symbol_by, symbols, next_kind}
use Rattle.bb_parse.specs.Inside.Steps.{Read}
use Rattle.bb_parse.specs.Inside.Declarations.{header_at}
use Rattle.bb_parse.specs.Inside.Items.{read_body}
use Rattle.bb_parse.specs.Inside.Sources.{levels, first_statement, whole, or_fault, read_header_of, read_item_of, is_endmodule, with_item, with_modules, at_end, then_read, item_added, read_step, read_first, read_from, read_source}
use Rattle.bb_parse.proofs.DeclarationLaws.{header_sound, header_complete}
use Rattle.bb_parse.proofs.ItemLaws.{item_sound}
use Rattle.bb_parse.proofs.ItemReads.{item_complete}
use Rattle.bb_parse.proofs.Depth.{item_narrows}
use Rattle.bb_parse.proofs.Parts.{and_so}
use Rattle.bb_parse.proofs.SourceLoop.{first_is, none_is, with_modules-nil, statement_of_text, rest_of_text}
use Rattle.bb_parse.proofs.SymbolLaws.{symbols_of_text, symbols_are_one}

-- one statement

abbrev pub Judged : {X : Type 0} → List Symbol → ℕ → (X → Type 0) → Result X ParseFault → Type 0
Judged ts line is (Ok x) = (nesting ts ≤ 200) × is x
Judged {X} ts line is (Err (Statement l)) = (nesting ts ≤ 200) × ((x : X) → is x → ⊥) × (l ≡ line)
Judged ts line is (Err Unended) = ⊥
Judged ts line is (Err (Deep l)) = (200 < nesting ts) × (l ≡ line)
Judged ts line is (Err NoMemory) = ⊥

none_some : {A : Type 0} (x : A) → None ≡ Some x → ⊥
none_some x h = cc

some_same : {B : Type 0} (u v : B) → Some u ≡ Some v → u ≡ v
some_same u v h = cc

cons_not_nil : {A : Type 0} (t : A) (ts : List A) → t ∷ ts ≡ [] → ⊥
cons_not_nil t ts h = cc

cons_nil : {A X : Type 0} (u v : X × List A) (t : A) (ts : List A) → u.1 ≡ t ∷ ts → v.1 ≡ [] → Some u ≡ Some v → ⊥
cons_nil {A} {X} u v t ts p q h = cons_not_nil t ts (sym p ∙ ap (λ (z : X × List A). z.1) (some_same u v h) ∙ q)

module _ {X : Type 0} (is : X → Type 0) (ts : List Symbol) (line : ℕ) where
  judged_whole : (read : Read X) → IfSome read (λ x. x.1 ≡ [] → is x.0) → (nesting ts ≤ 200 → (x : X) → is x → read ≡ Some (x, [])) → nesting ts ≤ 200
      → Judged ts line is (or_fault (Statement line) (whole read))
  judged_whole None s c h = (h, (λ x p. none_some (x, []) (c h x p)), refl)
  judged_whole (Some (x, [])) s c h = (h, s refl)
  judged_whole (Some (x, t ∷ rest)) s c h = (h, (λ y p. cons_nil (x, t ∷ rest) (y, []) t rest refl refl (c h y p)), refl)

  judged_by : (b : Bool) → nat_lt 200 (nesting ts) ≡ b → (read : Read X) → IfSome read (λ x. x.1 ≡ [] → is x.0) → (nesting ts ≤ 200 → (x : X) → is x → read ≡ Some (x, []))
      → Judged ts line is (if b then Err (Deep line) else or_fault (Statement line) (whole read))
  judged_by true e read s c = (ltb-true 200 (nesting ts) e, refl)
  judged_by false e read s c = judged_whole read s c (ltb-false 200 (nesting ts) e)

-- a header, with nothing after it
abbrev IsWholeHeader : List Symbol → List ℕ × List PlainHead → Type 0
IsWholeHeader ts x = IsHeader ts x []

-- an item at some depth, with nothing after it
abbrev IsWholeItem : List Symbol → PlainBody → Type 0
IsWholeItem ts body = (depth : ℕ) × IsItem depth ts body []

header_judged : (text : List ℕ) (s : List Token) → Judged (symbols text s) (line_of s) (IsWholeHeader (symbols text s)) (read_header_of text s)
unfolding read_header_of
header_judged text s =
    let ts : List Symbol = symbols text s in
    judged_by (IsWholeHeader ts) ts (line_of s) (nat_lt 200 (nesting ts)) refl (header_at (next_kind ts) ts)
    (and_so (header_at (next_kind ts) ts) (λ x. IsHeader ts x.0 x.1) (λ x. x.1 ≡ [] → IsWholeHeader ts x.0) (header_sound ts) (λ x p e. subst (λ (z : List Symbol). IsHeader ts x.0 z) e p))
    (λ h x p. header_complete ts x [] p)

item_read : (ts : List Symbol) → nesting ts ≤ 200 → (x : PlainBody) → IsWholeItem ts x → read_body levels ts ≡ Some (x, [])
item_read ts h x p = item_complete levels ts x [] (item_narrows p.0 ts x [] p.1 h)

item_judged : (text : List ℕ) (s : List Token) → Judged (symbols text s) (line_of s) (IsWholeItem (symbols text s)) (read_item_of text s)
unfolding read_item_of
item_judged text s =
    let ts : List Symbol = symbols text s in
    judged_by (IsWholeItem ts) ts (line_of s) (nat_lt 200 (nesting ts)) refl (read_body levels ts)
    (and_so (read_body levels ts) (λ x. IsItem levels ts x.0 x.1) (λ x. x.1 ≡ [] → IsWholeItem ts x.0) (item_sound levels ts) (λ x p e. (levels, subst (λ (z : List Symbol). IsItem levels ts x.0 z) e p)))
    (item_read ts)

-- endmodule is a statement of its own
kind_of_symbol : (text : List ℕ) (t : Token) (k : Kind) (ts : List Symbol) → next_kind (symbol_by text t k ∷ ts) ≡ Some k
kind_of_symbol text t kinds.Name ts = refl
kind_of_symbol text t (kinds.Word w) ts = refl
kind_of_symbol text t kinds.Sized ts = refl
kind_of_symbol text t kinds.Plain ts = refl
kind_of_symbol text t (kinds.Mark m) ts = refl

endmodule_kind : (k : Kind) → is_endmodule (Some k) ≡ true → k ≡ kinds.Word words.Endmodule
endmodule_kind kinds.Name h = cc
endmodule_kind (kinds.Word words.Endmodule) h = refl
endmodule_kind (kinds.Word w) h = cc
endmodule_kind kinds.Sized h = cc
endmodule_kind kinds.Plain h = cc
endmodule_kind (kinds.Mark m) h = cc

true_false : true ≡ false → ⊥
true_false h = cc

end_is : (text : List ℕ) (s : List Token) → IsStatement s → is_endmodule (next_kind (symbols text s)) ≡ true → IsEnd text s
end_is text [] p h = elim p [ ]
end_is text (t ∷ []) p h =
    let k : t.kind ≡ kinds.Word words.Endmodule = endmodule_kind t.kind (ap is_endmodule (sym (kind_of_symbol text t t.kind [])) ∙ h) in
    (k, tt)
end_is text (t ∷ u ∷ us) p h =
    let k : t.kind ≡ kinds.Word words.Endmodule = endmodule_kind t.kind (ap is_endmodule (sym (kind_of_symbol text t t.kind (symbols text (u ∷ us)))) ∙ h) in
    absurd (true_false (sym (ap ends_statement k) ∙ p.0))

-- the symbols of an end
end_symbols : (text : List ℕ) (s : List Token) → IsEnd text s → symbols text s ≡ Reserved words.Endmodule ∷ []
end_symbols text [] h = elim h [ ]
end_symbols text (t ∷ []) h = ap (λ z. symbol_by text t z ∷ []) h.0
end_symbols text (t ∷ u ∷ us) h = elim h.1 [ ]

is_end : (text : List ℕ) (s : List Token) → IsEnd text s → is_endmodule (next_kind (symbols text s)) ≡ true
is_end text s h = ap (λ z. is_endmodule (next_kind z)) (end_symbols text s h)

not_true : (b : Bool) → (b ≡ true → ⊥) → b ≡ false
not_true true h = absurd (h refl)
not_true false h = refl

end_shallow : (text : List ℕ) (s : List Token) → IsEnd text s → 200 < nesting (symbols text s) → ⊥
end_shallow text s h less = omega (arith, ap nesting (end_symbols text s h))

-- statements

place_of : Option PlainModule → SourcePlace
place_of None = Outside
place_of (Some m) = Inside

-- a module with more items
plus : PlainModule → List PlainItem → PlainModule
plus m items = record m { items = m.items ++ items }

-- a module that a header opens
opened : List Token → List ℕ × List PlainHead → PlainModule
opened s x = record { name = x.0; line = line_of s; heads = x.1; items = [] }

abbrev opening : List Token → List ℕ × List PlainHead → Result (List PlainModule × Option PlainModule) ParseFault
opening s x = Ok ([], Some (opened s x))

abbrev ending : PlainModule → Result (List PlainModule × Option PlainModule) ParseFault
ending m = Ok (m ∷ [], None)

abbrev going_on : PlainModule → Result (List PlainModule × Option PlainModule) ParseFault
going_on m = Ok ([], Some m)

-- what reading from a place finds
Outcome : List ℕ → Option PlainModule → List Token → Result (List PlainModule) ParseFault → Type 0
Outcome text None tokens (Ok ms) = IsSource text tokens ms
Outcome text (Some m) tokens (Ok ms) = (items : List PlainItem) × (b : List Token) × (rest : List PlainModule) × (ms ≡ plus m items ∷ rest) × AreItems text tokens items b × IsSource text b rest
Outcome text None tokens (Err fault) = IsFaultFrom text Outside tokens fault
Outcome text (Some m) tokens (Err fault) = IsFaultFrom text Inside tokens fault

not_nothing : (t : Token) (ts : List Token) → t ∷ ts ≡ [] → ⊥
not_nothing t ts h = cc

outcome_at_end : (text : List ℕ) (open_module : Option PlainModule) (tokens : List Token) → HaveNoEnd tokens → Outcome text open_module tokens (at_end open_module tokens)
unfolding Outcome
outcome_at_end text None [] h = refl
outcome_at_end text None (t ∷ ts) h = ([], Outside, t ∷ ts, (refl, refl), (h, inl (not_nothing t ts)))
outcome_at_end text (Some m) tokens h = ([], Inside, tokens, (refl, refl), (h, inr refl))

-- a fault after a good statement
fault_after : (text : List ℕ) (place next : SourcePlace) (tokens s a : List Token) (fault : ParseFault) → IsFirstStatement tokens s a → IsGood text place s next → IsFaultFrom text next a fault
    → IsFaultFrom text place tokens fault
fault_after text place next tokens s a fault first good h = (s ∷ h.0, h.1, h.2, (next, a, first, good, h.3), h.4)

first_shorter : (tokens s a : List Token) → IsFirstStatement tokens s a → length a < length tokens
first_shorter tokens [] a p = elim p.1 [ ]
first_shorter tokens (t ∷ ts) a p = omega (arith, ap length p.0 ∙ length-append (t ∷ ts) a)

first_complete : (tokens s a : List Token) → IsFirstStatement tokens s a → first_statement tokens ≡ Some (s, a)
first_complete tokens [] a p = elim p.1 [ ]
first_complete tokens (t ∷ []) a p = rw (p.0, p.1) refl
first_complete tokens (t ∷ u ∷ us) a p = rw (p.0, p.1.0, first_complete (u ∷ us ++ a) (u ∷ us) a (refl, p.1.1)) refl

opened_outcome : (text : List ℕ) (tokens s a : List Token) (x : List ℕ × List PlainHead) → IsFirstStatement tokens s a → IsHeaderOf text s x → (r : Result (List PlainModule) ParseFault)
    → Outcome text (Some (opened s x)) a r → Outcome text None tokens (with_modules [] r)
unfolding Outcome opened plus
opened_outcome text tokens s a x first j (Ok ms) o = subst (λ (z : List PlainModule). IsSource text tokens z) (sym o.3) (s, a, o.1, first, j, refl, o.4, o.5)
opened_outcome text tokens s a x first j (Err e) o = fault_after text Outside Inside tokens s a e first (x, j) o

-- what a statement is, by the symbols that are read from it
IsReadHeader : List ℕ → List Token → List ℕ × List PlainHead → Type 0
IsReadHeader text s x = (nesting (symbols text s) ≤ 200) × IsWholeHeader (symbols text s) x

IsReadItem : List ℕ → List Token → PlainBody → Type 0
IsReadItem text s x = (nesting (symbols text s) ≤ 200) × IsWholeItem (symbols text s) x

header_read : ReadBitsAreMeant → (text : List ℕ) (s : List Token) (x : List ℕ × List PlainHead) → IsHeaderOf text s x → IsReadHeader text s x
unfolding IsReadHeader
header_read said text s x p = subst (λ (ts : List Symbol). (nesting ts ≤ 200) × IsWholeHeader ts x) (symbols_are_one said text s p.0 p.1) (p.2, p.3)

body_read : ReadBitsAreMeant → (text : List ℕ) (s : List Token) (x : PlainBody) → IsItemOf text s x → IsReadItem text s x
unfolding IsReadItem
body_read said text s x p = subst (λ (ts : List Symbol). (nesting ts ≤ 200) × IsWholeItem ts x) (symbols_are_one said text s p.0 p.1) (p.2, (p.3, p.4))

no_header : (said : ReadBitsAreMeant) (text : List ℕ) (s : List Token) → ((x : List ℕ × List PlainHead) → IsHeader (symbols text s) x [] → ⊥) → (next : SourcePlace) → IsGood text Outside s next → ⊥
unfolding IsReadHeader
no_header said text s h Outside g = g
no_header said text s h Inside g = h g.0 (header_read said text s g.0 g.1).1

header_outcome : (said : ReadBitsAreMeant) (text : List ℕ) (tokens s a : List Token) → IsFirstStatement tokens s a → AreSymbols text s (symbols text s) → (go : Option PlainModule → Result (List PlainModule) ParseFault)
    → ((next : Option PlainModule) → Outcome text next a (go next)) → (r : Result (List ℕ × List PlainHead) ParseFault) → Judged (symbols text s) (line_of s) (IsWholeHeader (symbols text s)) r
    → Outcome text None tokens (then_read (then_read r (opening s)) (λ y. with_modules y.0 (go y.1)))
unfolding Outcome
header_outcome said text tokens s a first are go ih (Ok x) j = opened_outcome text tokens s a x first (symbols text s, are, j.0, j.1) (go (Some (opened s x))) (ih (Some (opened s x)))
header_outcome said text tokens s a first are go ih (Err (Statement l)) j = ([], Outside, tokens, (refl, refl), (s, a, symbols text s, first, are, j.0, no_header said text s j.1, j.2))
header_outcome said text tokens s a first are go ih (Err Unended) j = elim j [ ]
header_outcome said text tokens s a first are go ih (Err (Deep l)) j = ([], Outside, tokens, (refl, refl), (s, a, symbols text s, first, are, j.0, j.1))
header_outcome said text tokens s a first are go ih (Err NoMemory) j = elim j [ ]

closed_outcome : (text : List ℕ) (m : PlainModule) (tokens s a : List Token) → IsFirstStatement tokens s a → IsEnd text s → (r : Result (List PlainModule) ParseFault) → Outcome text None a r
    → Outcome text (Some m) tokens (with_modules (m ∷ []) r)
unfolding Outcome plus
closed_outcome text m tokens s a first e (Ok ms) o = ([], a, ms, ap (λ z. record m { items = z } ∷ ms) (sym (append-nil m.items)), (s, first, e), o)
closed_outcome text m tokens s a first e (Err fault) o = fault_after text Inside Outside tokens s a fault first e o

more_outcome : (text : List ℕ) (m : PlainModule) (tokens s a : List Token) (body : PlainBody) → IsFirstStatement tokens s a → IsItemOf text s body → (r : Result (List PlainModule) ParseFault)
    → Outcome text (Some (with_item m (record { line = line_of s; body = body }))) a r → Outcome text (Some m) tokens (with_modules [] r)
unfolding Outcome plus
more_outcome text m tokens s a body first j (Ok ms) o =
    (record { line = line_of s; body = body } ∷ o.0, o.1, o.2, o.3 ∙ ap (λ z. record m { items = z } ∷ o.2) (append_assoc m.items (record { line = line_of s; body = body } ∷ []) o.0), (s, a, first, j, refl, o.4), o.5)
more_outcome text m tokens s a body first j (Err e) o = fault_after text Inside Inside tokens s a e first (body, j) o

no_item : (said : ReadBitsAreMeant) (text : List ℕ) (s : List Token) → is_endmodule (next_kind (symbols text s)) ≡ false → ((x : PlainBody) → IsWholeItem (symbols text s) x → ⊥) → (next : SourcePlace) → IsGood text Inside s next → ⊥
unfolding IsReadItem
no_item said text s e h Outside g = true_false (sym (is_end text s g) ∙ e)
no_item said text s e h Inside g = h g.0 (body_read said text s g.0 g.1).1

item_outcome : (said : ReadBitsAreMeant) (text : List ℕ) (m : PlainModule) (tokens s a : List Token) → IsFirstStatement tokens s a → AreSymbols text s (symbols text s) → (go : Option PlainModule → Result (List PlainModule) ParseFault)
    → ((next : Option PlainModule) → Outcome text next a (go next)) → (b : Bool) → is_endmodule (next_kind (symbols text s)) ≡ b
    → (r : Result PlainBody ParseFault) → Judged (symbols text s) (line_of s) (IsWholeItem (symbols text s)) r
    → Outcome text (Some m) tokens (then_read (if b then ending m else then_read (then_read r (item_added m (line_of s))) going_on) (λ y. with_modules y.0 (go y.1)))
unfolding Outcome
item_outcome said text m tokens s a first are go ih true e r j = closed_outcome text m tokens s a first (end_is text s first.1 e) (go None) (ih None)
item_outcome said text m tokens s a first are go ih false e (Ok body) j =
    let n : PlainModule = with_item m (record { line = line_of s; body = body }) in
    more_outcome text m tokens s a body first (symbols text s, are, j.0, j.1.0, j.1.1) (go (Some n)) (ih (Some n))
item_outcome said text m tokens s a first are go ih false e (Err (Statement l)) j = ([], Inside, tokens, (refl, refl), (s, a, symbols text s, first, are, j.0, no_item said text s e j.1, j.2))
item_outcome said text m tokens s a first are go ih false e (Err Unended) j = elim j [ ]
item_outcome said text m tokens s a first are go ih false e (Err (Deep l)) j = ([], Inside, tokens, (refl, refl), (s, a, symbols text s, first, are, j.0, j.1))
item_outcome said text m tokens s a first are go ih false e (Err NoMemory) j = elim j [ ]

outcome_first : (said : ReadBitsAreMeant) (text : List ℕ) (go : Option PlainModule → List Token → Result (List PlainModule) ParseFault) (open_module : Option PlainModule) (tokens : List Token)
    → AllByRecursion (λ t. IsTokenOf t text) tokens
    → ((next : Option PlainModule) (a : List Token) → length a < length tokens → AllByRecursion (λ t. IsTokenOf t text) a → Outcome text next a (go next a))
    → (o : Option (List Token × List Token)) → first_statement tokens ≡ o → Outcome text open_module tokens (read_first text open_module tokens o go)
unfolding read_step opened
outcome_first said text go open_module tokens all ih None e = outcome_at_end text open_module tokens (none_is tokens e)
outcome_first said text go None tokens all ih (Some (s, a)) e =
    let first = first_is tokens s a e in
    let are = symbols_of_text said text s (statement_of_text text tokens s a e all) in
    header_outcome said text tokens s a first are (λ next. go next a) (λ next. ih next a (first_shorter tokens s a first) (rest_of_text text tokens s a e all)) (read_header_of text s) (header_judged text s)
outcome_first said text go (Some m) tokens all ih (Some (s, a)) e =
    let first = first_is tokens s a e in
    let are = symbols_of_text said text s (statement_of_text text tokens s a e all) in
    item_outcome said text m tokens s a first are (λ next. go next a) (λ next. ih next a (first_shorter tokens s a first) (rest_of_text text tokens s a e all)) (is_endmodule (next_kind (symbols text s))) refl
    (read_item_of text s) (item_judged text s)

outcome_from : (said : ReadBitsAreMeant) (text : List ℕ) (n : ℕ) (open_module : Option PlainModule) (tokens : List Token) → length tokens ≤ n → AllByRecursion (λ t. IsTokenOf t text) tokens
    → Outcome text open_module tokens (read_from text n open_module tokens)
outcome_from said text zero open_module [] le all = outcome_at_end text open_module [] tt
outcome_from said text zero open_module (t ∷ ts) le all = absurd (omega arith)
outcome_from said text (suc n) open_module tokens le all =
    outcome_first said text (read_from text n) open_module tokens all (λ next a less later. outcome_from said text n next a (omega arith) later) (first_statement tokens) refl

outcome_is : (text : List ℕ) (tokens : List Token) (r : Result (List PlainModule) ParseFault) → Outcome text None tokens r → MatchResult r (IsSource text tokens) (IsParseFault text tokens)
unfolding Outcome
outcome_is text tokens (Ok ms) o = o
outcome_is text tokens (Err e) o = o

pub source_sound : ReadBitsAreMeant → (text : List ℕ) (tokens : List Token) → AllByRecursion (λ t. IsTokenOf t text) tokens → MatchResult (read_source text tokens) (IsSource text tokens) (IsParseFault text tokens)
unfolding read_source
source_sound said text tokens all = outcome_is text tokens (read_from text (length tokens) None tokens) (outcome_from said text (length tokens) None tokens (omega arith) all)

-- what is a source or a fault is read as it

header_done : (text : List ℕ) (s : List Token) (x : List ℕ × List PlainHead) → IsReadHeader text s x → read_header_of text s ≡ Ok x
unfolding read_header_of IsReadHeader
header_done text s x p = rw (le-ltb 200 (nesting (symbols text s)) p.0, header_complete (symbols text s) x [] p.1) refl

item_done : (text : List ℕ) (s : List Token) (x : PlainBody) → IsReadItem text s x → read_item_of text s ≡ Ok x
unfolding read_item_of IsReadItem
item_done text s x p = rw (le-ltb 200 (nesting (symbols text s)) p.0, item_read (symbols text s) p.0 x p.1) refl

body_no_end : (ts : List Symbol) (x : PlainBody × List Symbol) → read_body levels ts ≡ Some x → is_endmodule (next_kind ts) ≡ false
unfolding read_body
body_no_end [] x h = refl
body_no_end (Identifier n ∷ ts) x h = refl
body_no_end (Reserved words.Endmodule ∷ ts) x h = absurd (none_some x h)
body_no_end (Reserved w ∷ ts) x h = refl
body_no_end (SizedNumber b ∷ ts) x h = refl
body_no_end (PlainNumber n ∷ ts) x h = refl
body_no_end (Sign m ∷ ts) x h = refl

item_no_end : (text : List ℕ) (s : List Token) (x : PlainBody) → IsReadItem text s x → is_endmodule (next_kind (symbols text s)) ≡ false
unfolding IsReadItem
item_no_end text s x p = body_no_end (symbols text s) (x, []) (item_read (symbols text s) p.0 x p.1)

-- one good statement

step_header : (text : List ℕ) (s : List Token) (x : List ℕ × List PlainHead) → IsReadHeader text s x → read_step text None s ≡ Ok ([], Some (opened s x))
unfolding read_step opened
step_header text s x p = rw (header_done text s x p) refl

step_item : (text : List ℕ) (m : PlainModule) (s : List Token) (body : PlainBody) → IsReadItem text s body
    → read_step text (Some m) s ≡ Ok ([], Some (with_item m (record { line = line_of s; body = body })))
unfolding read_step
step_item text m s body p = rw (item_no_end text s body p, item_done text s body p) refl

step_end : (text : List ℕ) (m : PlainModule) (s : List Token) → IsEnd text s → read_step text (Some m) s ≡ Ok (m ∷ [], None)
unfolding read_step
step_end text m s p = rw (is_end text s p) refl

next_read : (text : List ℕ) (n : ℕ) (open_module : Option PlainModule) (tokens s a : List Token) (closed : List PlainModule) (next : Option PlainModule) → IsFirstStatement tokens s a
    → read_step text open_module s ≡ Ok (closed, next) → read_from text (suc n) open_module tokens ≡ with_modules closed (read_from text n next a)
next_read text n open_module tokens s a closed next first h = rw (first_complete tokens s a first, h) refl

abbrev Complete : List ℕ → ℕ → Type 0
Complete text n =
    ((tokens : List Token) (ms : List PlainModule) → length tokens ≤ n → IsSource text tokens ms → read_from text n None tokens ≡ Ok ms)
    × ((m : PlainModule) (tokens : List Token) (items : List PlainItem) (b : List Token) (rest : List PlainModule) → length tokens ≤ n → AreItems text tokens items b → IsSource text b rest
    → read_from text n (Some m) tokens ≡ Ok (plus m items ∷ rest))

source_none : (text : List ℕ) (tokens : List Token) (ms : List PlainModule) → length tokens ≤ 0 → IsSource text tokens ms → read_from text 0 None tokens ≡ Ok ms
source_none text tokens [] le p = rw p refl
source_none text tokens (m ∷ ms) le p = absurd (omega (arith, first_shorter tokens p.0 p.1 p.3))

items_none : (text : List ℕ) (tokens : List Token) (items : List PlainItem) (b : List Token) → length tokens ≤ 0 → AreItems text tokens items b → ⊥
items_none text tokens [] b le p = omega (arith, first_shorter tokens p.0 b p.1)
items_none text tokens (i ∷ items) b le p = omega (arith, first_shorter tokens p.0 p.1 p.2)

source_more : (said : ReadBitsAreMeant) (text : List ℕ) (n : ℕ) → Complete text n → (tokens : List Token) (ms : List PlainModule) → length tokens ≤ suc n → IsSource text tokens ms → read_from text (suc n) None tokens ≡ Ok ms
unfolding plus opened
source_more said text n ih tokens [] le p = rw p refl
source_more said text n ih tokens (m ∷ ms) le p =
    let le' : length p.1 ≤ n = omega (arith, first_shorter tokens p.0 p.1 p.3) in
    next_read text n None tokens p.0 p.1 [] (Some (opened p.0 (m.name, m.heads))) p.3 (step_header text p.0 (m.name, m.heads) (header_read said text p.0 (m.name, m.heads) p.4))
    ∙ with_modules-nil (read_from text n (Some (opened p.0 (m.name, m.heads))) p.1)
    ∙ ih.1 (opened p.0 (m.name, m.heads)) p.1 m.items p.2 ms le' p.6 p.7
    ∙ ap (λ z. Ok (record m { line = z } ∷ ms)) (sym p.5)

items_more : (said : ReadBitsAreMeant) (text : List ℕ) (n : ℕ) → Complete text n → (m : PlainModule) (tokens : List Token) (items : List PlainItem) (b : List Token) (rest : List PlainModule) → length tokens ≤ suc n
    → AreItems text tokens items b → IsSource text b rest → read_from text (suc n) (Some m) tokens ≡ Ok (plus m items ∷ rest)
unfolding plus
items_more said text n ih m tokens [] b rest le p q =
    let le' : length b ≤ n = omega (arith, first_shorter tokens p.0 b p.1) in
    next_read text n (Some m) tokens p.0 b (m ∷ []) None p.1 (step_end text m p.0 p.2)
    ∙ ap (with_modules (m ∷ [])) (ih.0 b rest le' q)
    ∙ ap (λ z. Ok (record m { items = z } ∷ rest)) (sym (append-nil m.items))
items_more said text n ih m tokens (i ∷ items) b rest le p q =
    let le' : length p.1 ≤ n = omega (arith, first_shorter tokens p.0 p.1 p.2) in
    let j : PlainItem = record { line = line_of p.0; body = i.body } in
    next_read text n (Some m) tokens p.0 p.1 [] (Some (with_item m j)) p.2 (step_item text m p.0 i.body (body_read said text p.0 i.body p.3))
    ∙ with_modules-nil (read_from text n (Some (with_item m j)) p.1)
    ∙ ih.1 (with_item m j) p.1 items b rest le' p.5 q
    ∙ ap (λ z. Ok (record m { items = z } ∷ rest)) (append_assoc m.items (j ∷ []) items)
    ∙ ap (λ z. Ok (record m { items = m.items ++ record { line = z; body = i.body } ∷ items } ∷ rest)) (sym p.4)

complete : (said : ReadBitsAreMeant) (text : List ℕ) (n : ℕ) → Complete text n
complete said text zero = (source_none text, λ m tokens items b rest le p q. absurd (items_none text tokens items b le p))
complete said text (suc n) = (source_more said text n (complete said text n), items_more said text n (complete said text n))

pub source_complete : (said : ReadBitsAreMeant) (text : List ℕ) (tokens : List Token) (ms : List PlainModule) → IsSource text tokens ms → read_source text tokens ≡ Ok ms
unfolding read_source
source_complete said text tokens ms p = (complete said text (length tokens)).0 tokens ms (omega arith) p

-- faults

no_first : (tokens : List Token) → HaveNoEnd tokens → first_statement tokens ≡ None
no_first [] h = refl
no_first (t ∷ ts) h = rw (h.0, no_first ts h.1) refl

-- a statement at fault in its place
abbrev IsAtFault : List ℕ → SourcePlace → List Token → ParseFault → Type 0
IsAtFault text place s (Statement line) = AreSymbols text s (symbols text s) × (nesting (symbols text s) ≤ 200) × ((next : SourcePlace) → IsGood text place s next → ⊥) × (line ≡ line_of s)
IsAtFault text place s (Deep line) = (200 < nesting (symbols text s)) × (line ≡ line_of s)
IsAtFault text place s Unended = ⊥
IsAtFault text place s NoMemory = ⊥

fault_of : {X : Type 0} (ts : List Symbol) (line : ℕ) (is : X → Type 0) (r : Result X ParseFault) → Judged ts line is r → (l : ℕ) → l ≡ line
    → ((nesting ts ≤ 200) → ((x : X) → is x → ⊥) → r ≡ Err (Statement l)) × (200 < nesting ts → r ≡ Err (Deep l))
fault_of ts line is (Ok x) j l e = ((λ le no. absurd (no x j.1)), (λ less. absurd (omega (arith, j.0))))
fault_of ts line is (Err (Statement k)) j l e = ((λ le no. ap (λ z. Err (Statement z)) (j.2 ∙ sym e)), (λ less. absurd (omega (arith, j.0))))
fault_of ts line is (Err Unended) j l e = elim j [ ]
fault_of ts line is (Err (Deep k)) j l e = ((λ le no. absurd (omega (arith, j.0))), (λ less. ap (λ z. Err (Deep z)) (j.1 ∙ sym e)))
fault_of ts line is (Err NoMemory) j l e = elim j [ ]

step_fault : (text : List ℕ) (open_module : Option PlainModule) (s : List Token) (e : ParseFault) → IsStatement s → IsAtFault text (place_of open_module) s e → read_step text open_module s ≡ Err e
unfolding read_step place_of
step_fault text None s (Statement l) st p =
    rw ((fault_of (symbols text s) (line_of s) (IsWholeHeader (symbols text s)) (read_header_of text s) (header_judged text s) l p.3).0 p.1 (λ x h. p.2 Inside (x, (symbols text s, p.0, p.1, h)))) refl
step_fault text None s (Deep l) st p =
    rw ((fault_of (symbols text s) (line_of s) (IsWholeHeader (symbols text s)) (read_header_of text s) (header_judged text s) l p.1).1 p.0) refl
step_fault text None s Unended st p = elim p [ ]
step_fault text None s NoMemory st p = elim p [ ]
step_fault text (Some m) s (Statement l) st p =
    rw (
      not_true (is_endmodule (next_kind (symbols text s))) (λ h. p.2 Outside (end_is text s st h)),
      (fault_of (symbols text s) (line_of s) (IsWholeItem (symbols text s)) (read_item_of text s) (item_judged text s) l p.3).0 p.1 (λ x h. p.2 Inside (x, (symbols text s, p.0, p.1, h.0, h.1))),
    ) refl
step_fault text (Some m) s (Deep l) st p =
    rw (
      not_true (is_endmodule (next_kind (symbols text s))) (λ h. end_shallow text s (end_is text s st h) p.0),
      (fault_of (symbols text s) (line_of s) (IsWholeItem (symbols text s)) (read_item_of text s) (item_judged text s) l p.1).1 p.0,
    ) refl
step_fault text (Some m) s Unended st p = elim p [ ]
step_fault text (Some m) s NoMemory st p = elim p [ ]

first_fault : (text : List ℕ) (n : ℕ) (open_module : Option PlainModule) (tokens s a : List Token) (e : ParseFault) → length tokens ≤ n → IsFirstStatement tokens s a → IsAtFault text (place_of open_module) s e
    → read_from text n open_module tokens ≡ Err e
first_fault text zero open_module tokens s a e le first p = absurd (omega (arith, first_shorter tokens s a first))
first_fault text (suc n) open_module tokens s a e le first p = rw (first_complete tokens s a first, step_fault text open_module s e first.1 p) refl

ended_read : (text : List ℕ) (n : ℕ) (open_module : Option PlainModule) (tokens : List Token) → HaveNoEnd tokens → read_from text n open_module tokens ≡ at_end open_module tokens
ended_read text zero open_module tokens h = refl
ended_read text (suc n) open_module tokens h = rw (no_first tokens h) refl

outside_inside : Outside ≡ Inside → ⊥
outside_inside h = cc

at_end_fault : (open_module : Option PlainModule) (tokens : List Token) → (tokens ≢ []) ⊎ (place_of open_module ≡ Inside) → at_end open_module tokens ≡ Err Unended
unfolding place_of
at_end_fault None [] (inl h) = absurd (h refl)
at_end_fault None [] (inr h) = absurd (outside_inside h)
at_end_fault None (t ∷ ts) h = refl
at_end_fault (Some m) tokens h = refl

wrong_fault : (said : ReadBitsAreMeant) (text : List ℕ) (n : ℕ) (open_module : Option PlainModule) (tokens : List Token) (e : ParseFault) → length tokens ≤ n → IsStatementFault text (place_of open_module) tokens e
    → read_from text n open_module tokens ≡ Err e
wrong_fault said text n open_module tokens (Statement l) le p =
    let same : p.2 ≡ symbols text p.0 = symbols_are_one said text p.0 p.2 p.4 in
    let at : AreSymbols text p.0 (symbols text p.0) × (nesting (symbols text p.0) ≤ 200) = subst (λ (ts : List Symbol). AreSymbols text p.0 ts × (nesting ts ≤ 200)) same (p.4, p.5) in
    first_fault text n open_module tokens p.0 p.1 (Statement l) le p.3 (at.0, at.1, p.6, p.7)
wrong_fault said text n open_module tokens (Deep l) le p =
    let deep : 200 < nesting (symbols text p.0) = subst (λ (ts : List Symbol). 200 < nesting ts) (symbols_are_one said text p.0 p.2 p.4) p.5 in
    first_fault text n open_module tokens p.0 p.1 (Deep l) le p.3 (deep, p.6)
wrong_fault said text n open_module tokens Unended le p = ended_read text n open_module tokens p.0 ∙ at_end_fault open_module tokens p.1
wrong_fault said text n open_module tokens NoMemory le p = elim p [ ]

good_step : (said : ReadBitsAreMeant) (text : List ℕ) (open_module : Option PlainModule) (s : List Token) (next : SourcePlace) → IsGood text (place_of open_module) s next
    → (closed : List PlainModule) × (after : Option PlainModule) × (read_step text open_module s ≡ Ok (closed, after)) × (place_of after ≡ next)
unfolding place_of
good_step said text None s Outside g = elim g [ ]
good_step said text None s Inside g = ([], Some (opened s g.0), step_header text s g.0 (header_read said text s g.0 g.1), refl)
good_step said text (Some m) s Outside g = (m ∷ [], None, step_end text m s g, refl)
good_step said text (Some m) s Inside g = ([], Some (with_item m (record { line = line_of s; body = g.0 })), step_item text m s g.0 (body_read said text s g.0 g.1), refl)

fault_from : (said : ReadBitsAreMeant) (text : List ℕ) (n : ℕ) (prefix : List (List Token)) (open_module : Option PlainModule) (tokens : List Token) (afterwards : SourcePlace) (a : List Token) (e : ParseFault) → length tokens ≤ n
    → AreGood text (place_of open_module) tokens prefix afterwards a → IsStatementFault text afterwards a e → read_from text n open_module tokens ≡ Err e
fault_from said text n [] open_module tokens afterwards a e le p w =
    let w' : IsStatementFault text (place_of open_module) tokens e = subst (λ (z : SourcePlace × List Token). IsStatementFault text z.0 z.1 e) (sym (λ i. (p.0 i, p.1 i))) w in
    wrong_fault said text n open_module tokens e le w'
fault_from said text zero (s ∷ ss) open_module tokens afterwards a e le p w = absurd (omega (arith, first_shorter tokens s p.1 p.2))
fault_from said text (suc n) (s ∷ ss) open_module tokens afterwards a e le p w =
    let le' : length p.1 ≤ n = omega (arith, first_shorter tokens s p.1 p.2) in
    let step = good_step said text open_module s p.0 p.3 in
    let q : AreGood text (place_of step.1) p.1 ss afterwards a = subst (λ (z : SourcePlace). AreGood text z p.1 ss afterwards a) (sym step.3) p.4 in
    next_read text n open_module tokens s p.1 step.0 step.1 p.2 step.2 ∙ ap (with_modules step.0) (fault_from said text n ss step.1 p.1 afterwards a e le' q w)

pub fault_complete : (said : ReadBitsAreMeant) (text : List ℕ) (tokens : List Token) (e : ParseFault) → IsParseFault text tokens e → read_source text tokens ≡ Err e
unfolding read_source place_of
fault_complete said text tokens e p = fault_from said text (length tokens) p.0 None tokens p.1 p.2 e (omega arith) p.3 p.4
