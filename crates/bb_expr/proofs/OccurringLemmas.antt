-- What is in a checked module is fit, and what is in an expression of a module is in the module.
use Rattle.std.proofs.Common.{ℕ, zero, suc, List, [], ◌∷◌, ◌++◌, map, get_or, Option, Some, None, sym, subst, inl, inr, arith}
use Rattle.std.specs.Prelude.{Contains, IfSome, IsSomeAnd, slice_get, option_to_list}
use Rattle.std.specs.List.{AllByRecursion, flat_map}
use Rattle.std.proofs.lemmas.List.Elements.{All-weaker, All-from_recursion, recursion_from_All, All-contains, Contains-get_or, Contains-append_left, Contains-append_right, Contains-append_cases}
use Rattle.bb_ast.specs.Syntax.{Expression, Net, Bit, Part, Sized, Plain, Not, Fold, Chain, Words, Cond, Concat, Repeat, Operands, no_operand, operand, WordOperands, no_word, word, Arms, no_arm, arm, Parts, no_part, part}
use Rattle.bb_ast.specs.Syntax.{PlainConns, Order, Named, PlainBody, Ports, Nets, Regs, Supply, Assign, Gates, Calls, Always, PlainItem, PlainModule}
use Rattle.bb_ast.specs.Folds.{fold_by, of_operands, of_words, of_arms, of_parts}
use Rattle.bb_ast.specs.Inside.Formed.{IsFormedExpression, IsFormedConns, IsFormedBody, IsFormed}
use Rattle.bb_names.specs.Inside.Checked.{ModuleFacts, syntax, HasNets}
use Rattle.bb_expr.specs.Inside.Occurrences.{gathering, expressions_in, conns_expressions, item_expressions, OccursIn, OccursAt}
use Rattle.bb_expr.specs.Inside.Fit.{IsRight, IsRightIn, IsFit, IsFitIn, AreFit, AreFitIn}
use Rattle.bb_expr.specs.Laws.FitLaws.{OccurrencesAreFit, OccurrencesAreFitIn, PartsOccur}
use Rattle.bb_expr.proofs.ListLemmas.{all-join, single}
use Rattle.bb_expr.proofs.SiteLemmas.{HasCleanSites, IsCleanItem, IsCleanModule, sound-clean, item-clean}
use Rattle.bb_expr.proofs.FitLemmas.{fits}
use Rattle.bb_expr.proofs.KnownNames.{has-net}

-- with each expression a list has those in it
abbrev pub IsClosed : List Expression → Type 0
IsClosed all = (x y : Expression) → Contains all x → Contains (expressions_in x) y → Contains all y

-- the expressions in one, without itself
abbrev pub others_in : Expression → List Expression
others_in = fold_by (λ x all. x ∷ all) gathering

nil-closed : IsClosed []
nil-closed x y h inner = absurd (omega (arith, h.1))

join-closed : (xs ys : List Expression) → IsClosed xs → IsClosed ys → IsClosed (xs ++ ys)
join-closed xs ys prefix back x y h inner = elim (Contains-append_cases xs ys x h) [
  | inl here ↦ Contains-append_left xs ys y (prefix x y here inner)
  | inr there ↦ Contains-append_right xs ys y (back x y there inner)
]

whole-closed : (e : Expression) → IsClosed (others_in e) → IsClosed (expressions_in e)
whole-closed e closed x y h inner = elim (Contains-append_cases (e ∷ []) (others_in e) x h) [
  | inl here ↦ subst (λ z. Contains (expressions_in z) y) (sym (single e x here)) inner
  | inr there ↦ Contains-append_right (e ∷ []) (others_in e) y (closed x y there inner)
]

mutual
  closed : (e : Expression) → IsClosed (others_in e)
  closed (Net n) = nil-closed
  closed (Bit n i) = nil-closed
  closed (Part n i j) = nil-closed
  closed (Sized bits) = nil-closed
  closed (Plain n) = nil-closed
  closed (Not k e) = whole-closed e (closed e)
  closed (Fold op e) = whole-closed e (closed e)
  closed (Chain e rest) = join-closed (expressions_in e) _ (whole-closed e (closed e)) (operands-closed rest)
  closed (Words e rest) = join-closed (expressions_in e) _ (whole-closed e (closed e)) (words-closed rest)
  closed (Cond all last) = join-closed _ (expressions_in last) (arms-closed all) (whole-closed last (closed last))
  closed (Concat all) = parts-closed all
  closed (Repeat k all) = parts-closed all

  operands-closed : (rest : Operands) → IsClosed (flat_map (λ x. x.1) (of_operands (λ x all. x ∷ all) gathering rest))
  operands-closed no_operand = nil-closed
  operands-closed (operand op e rest) = join-closed (expressions_in e) _ (whole-closed e (closed e)) (operands-closed rest)

  words-closed : (rest : WordOperands) → IsClosed (flat_map (λ x. x.1) (of_words (λ x all. x ∷ all) gathering rest))
  words-closed no_word = nil-closed
  words-closed (word op e rest) = join-closed (expressions_in e) _ (whole-closed e (closed e)) (words-closed rest)

  arms-closed : (rest : Arms) → IsClosed (flat_map (λ x. x.0 ++ x.1) (of_arms (λ x all. x ∷ all) gathering rest))
  arms-closed no_arm = nil-closed
  arms-closed (arm c e rest) =
      join-closed (expressions_in c ++ expressions_in e) _ (join-closed (expressions_in c) (expressions_in e) (whole-closed c (closed c)) (whole-closed e (closed e))) (arms-closed rest)

  parts-closed : (rest : Parts) → IsClosed (flat_map (λ e. e) (of_parts (λ x all. x ∷ all) gathering rest))
  parts-closed no_part = nil-closed
  parts-closed (part e rest) = join-closed (expressions_in e) _ (whole-closed e (closed e)) (parts-closed rest)

flat-closed : {X : Type 0} (f : X → List Expression) → ((x : X) → IsClosed (f x)) → (xs : List X) → IsClosed (flat_map f xs)
flat-closed f each [] = nil-closed
flat-closed f each (x ∷ xs) = join-closed (f x) (flat_map f xs) (each x) (flat-closed f each xs)

-- the expressions that are in a module
abbrev pub occurring : PlainModule → List Expression
occurring m = flat_map (λ item. flat_map expressions_in (item_expressions item.body)) m.items

occurring-closed : (m : PlainModule) → IsClosed (occurring m)
occurring-closed m = flat-closed _ (λ item. flat-closed expressions_in (λ e. whole-closed e (closed e)) (item_expressions item.body)) m.items

pub some-and : {X : Type 0} (P Q : X → Type 0) → ((x : X) → P x → Q x) → (o : Option X) → IsSomeAnd o P → IsSomeAnd o Q
some-and P Q f None h = h
some-and P Q f (Some x) h = f x h

pub parts_occur : PartsOccur
parts_occur checked k e x occurs inner =
    some-and (λ m. OccursIn (syntax m) e) (λ m. OccursIn (syntax m) x) (λ m h. occurring-closed (syntax m) e x h inner) (slice_get checked k) occurs

-- the expressions of a well-formed item are well formed
flat-formed : {X : Type 0} (P : X → Type 0) (f : X → List Expression) → ((x : X) → P x → AllByRecursion IsFormedExpression (f x)) → (xs : List X) → AllByRecursion P xs → AllByRecursion IsFormedExpression (flat_map f xs)
flat-formed P f each [] h = tt
flat-formed P f each (x ∷ xs) h = all-join IsFormedExpression (f x) (flat_map f xs) (each x h.0) (flat-formed P f each xs h.1)

option-formed : (o : Option Expression) → IfSome o IsFormedExpression → AllByRecursion IsFormedExpression (option_to_list o)
option-formed None h = tt
option-formed (Some e) h = (h, tt)

conns-formed : (conns : PlainConns) → IsFormedConns conns → AllByRecursion IsFormedExpression (conns_expressions conns)
conns-formed (Order []) h = tt
conns-formed (Order (None ∷ [])) h = absurd h
conns-formed (Order (None ∷ (place ∷ places))) h = flat-formed _ option_to_list option-formed (None ∷ (place ∷ places)) h
conns-formed (Order (Some e ∷ places)) h = flat-formed _ option_to_list option-formed (Some e ∷ places) h
conns-formed (Named all) h = flat-formed _ (λ x. option_to_list x.1) (λ x pair. option-formed x.1 pair.1) all h.1

body-formed : (body : PlainBody) → IsFormedBody body → AllByRecursion IsFormedExpression (item_expressions body)
body-formed (Ports port names) h = tt
body-formed (Nets range nets) h = flat-formed _ (λ x. option_to_list x.1) (λ x pair. option-formed x.1 pair.1) nets h.1.1
body-formed (Regs range names) h = tt
body-formed (Supply high range names) h = tt
body-formed (Assign all) h = flat-formed _ (λ x. x.0 ∷ x.1 ∷ []) (λ x both. (both.0, (both.1, tt))) all h.1
body-formed (Gates gate all) h = flat-formed _ (λ x. x.1) (λ x terms. terms.2) all h.1
body-formed (Calls target all) h = flat-formed _ (λ x. conns_expressions x.1) (λ x call. conns-formed x.1 call.1) all h.1.1
body-formed (Always r) h = (h.0, (h.1, (h.2, tt)))

module _ (text : List PlainModule) (m : PlainModule) where
  expressions-fit : (es : List Expression) → AllByRecursion IsFormedExpression es → AllByRecursion (HasCleanSites text m) es → AllByRecursion (IsFitIn m) (flat_map expressions_in es)
  expressions-fit [] formed clean = tt
  expressions-fit (e ∷ es) formed clean =
      all-join (IsFitIn m) (expressions_in e) (flat_map expressions_in es) (fits text m clean.0.0 e formed.0 clean.0.1) (expressions-fit es formed.1 clean.1)

  items-fit : (items : List PlainItem) → AllByRecursion (λ item. IsFormedBody item.body) items → AllByRecursion (IsCleanItem text m) items
      → AllByRecursion (IsFitIn m) (flat_map (λ item. flat_map expressions_in (item_expressions item.body)) items)
  items-fit [] formed clean = tt
  items-fit (item ∷ items) formed clean =
      all-join (IsFitIn m) (flat_map expressions_in (item_expressions item.body)) _
      (expressions-fit (item_expressions item.body) (body-formed item.body formed.0) (item-clean text m clean.0.0 item.body clean.0.1)) (items-fit items formed.1 clean.1)

  pub module-fit : IsFormed m → IsCleanModule text m → (e : Expression) → OccursIn m e → AreFitIn m e
  module-fit formed clean e occurs =
      let all = All-from_recursion (IsFitIn m) (occurring m) (items-fit m.items formed.2 clean) in
      λ k d lt. All-contains (IsFitIn m) (occurring m) (get_or (expressions_in e) k d) all
      (occurring-closed m e (get_or (expressions_in e) k d) occurs (Contains-get_or (expressions_in e) k d lt))

pub occurrences_are_fit_in : OccurrencesAreFitIn
occurrences_are_fit_in text m e formed sound has occurs =
    module-fit text m (All-contains IsFormed text m (All-from_recursion IsFormed text formed) has) (All-contains (IsCleanModule text) text m (All-from_recursion (IsCleanModule text) text (sound-clean text sound)) has) e occurs

-- what is fit in a module is fit by what is kept about it
right-kept : (m : ModuleFacts) → HasNets m → (e : Expression) → IsRightIn (syntax m) e → IsRight m e
right-kept m nets (Net n) h = has-net m nets n h
right-kept m nets (Bit n i) h = (has-net m nets n h.0, h.1)
right-kept m nets (Part n i j) h = (has-net m nets n h.0, h.1)
right-kept m nets (Sized bits) h = tt
right-kept m nets (Plain n) h = tt
right-kept m nets (Not k e) h = tt
right-kept m nets (Fold op e) h = tt
right-kept m nets (Chain e rest) h = tt
right-kept m nets (Words e rest) h = h
right-kept m nets (Cond all last) h = tt
right-kept m nets (Concat all) h = tt
right-kept m nets (Repeat k all) h = h

fit-kept : (m : ModuleFacts) → HasNets m → (e : Expression) → AreFitIn (syntax m) e → AreFit m e
fit-kept m nets e fit = record { each = All-weaker (IsFitIn (syntax m)) (IsFit m) (λ x h. record { right = right-kept m nets x h.right; some = h.some; bounded = h.bounded }) (expressions_in e) fit }

modules-fit : (text : List PlainModule) (e : Expression) (ms : List ModuleFacts) → AllByRecursion IsFormed (map syntax ms) → AllByRecursion (IsCleanModule text) (map syntax ms) → AllByRecursion HasNets ms
    → (k : ℕ) → OccursAt ms k e → IsSomeAnd (slice_get ms k) (λ m. AreFit m e)
modules-fit text e [] formed clean nets k occurs = occurs
modules-fit text e (m ∷ ms) formed clean nets zero occurs = fit-kept m nets.0 e (module-fit text (syntax m) formed.0 clean.0 e occurs)
modules-fit text e (m ∷ ms) formed clean nets (suc k) occurs = modules-fit text e ms formed.1 clean.1 nets.1 k occurs

pub occurrences_are_fit : OccurrencesAreFit
occurrences_are_fit checked k e ok occurs =
    modules-fit (map syntax checked) e checked ok.read.formed (sound-clean (map syntax checked) ok.sound) (recursion_from_All HasNets checked ok.each) k occurs
