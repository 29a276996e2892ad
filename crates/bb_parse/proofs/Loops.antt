-- A loop over a comma and what follows it, over operators and operands, over conditions and over signs reads what the
-- functions on lists read.
use Rattle.std.proofs.Common.{◌≡◌, ℕ, zero, suc, ◌+◌, ◌-◌, ◌<◌, ◌≤◌, List, [], ◌∷◌, ◌++◌, Option, Some, None, Result, Ok, Err, true, false, refl, ap, sym, ◌∙◌, subst, arith, append_assoc, length, map}
use Rattle.std.specs.Result.{IsErr, IsErrAnd}
use Rattle.std.proofs.lemmas.List.{append-nil, map-append}
use Rattle.bb_ast.specs.declared.expr.Expr.{Expr}
use Rattle.bb_ast.specs.declared.module.Head.{Head}
use Rattle.bb_ast.specs.declared.module.Port.{Port}
use Rattle.bb_ast.specs.Syntax.{Expression, PlainHead}
use Rattle.bb_ast.specs.Inside.Views.{expression, operand_view, arm_view, head_view}
use Rattle.bb_lex.specs.declared.mark.Mark.TheVariants.{Comma, Tilde, Query}
use Rattle.bb_lex.specs.declared.mark.Mark.{Mark}
use Rattle.bb_parse.specs.declared.stop.Stop.{Stop}
use Rattle.bb_parse.specs.declared.stop.Stop.TheVariants.{Amiss, NoMemory}
use Rattle.bb_parse.specs.Symbols.{Symbol}
use Rattle.bb_parse.specs.Expressions.{conditional}
use Rattle.bb_parse.specs.Inside.Symbols.{is_next, after}
use Rattle.bb_parse.specs.Inside.Steps.{Read, ◌>>=◌, Gives, Makes, with_prefix, read_mark, read_name, read_more, read_list}
use Rattle.bb_parse.specs.Inside.Declarations.{read_port, declared, read_ansi, read_ansi_more, read_ansi_heads}
use Rattle.bb_parse.specs.Inside.Expressions.{next_operator, read_operands, read_level, read_arm, read_arms, with_arms, conditional_from, read_conditional, read_signs, plus_signs, read_expr}
use Rattle.bb_parse.specs.Inside.Items.{read_two_terms, read_terms}

pub with_prefix-nil : {A : Type 0} (r : Read (List A)) → with_prefix [] r ≡ r
with_prefix-nil None = refl
with_prefix-nil (Some x) = refl

pub with_prefix-with_prefix : {A : Type 0} (xs ys : List A) (r : Read (List A)) → with_prefix xs (with_prefix ys r) ≡ with_prefix (xs ++ ys) r
with_prefix-with_prefix xs ys None = refl
with_prefix-with_prefix xs ys (Some x) = rw append_assoc refl

-- where one number is less than another, their distance is one more than at the next
pub next_distance : (m k : ℕ) → k < m → m - k ≡ suc (m - (k + 1))
next_distance m k h = omega arith

pub more_done : {A : Type 0} (read : List Symbol → Read A) (n : ℕ) (ts : List Symbol) → is_next Comma ts ≡ false → read_more read n ts ≡ Some ([], ts)
more_done read zero ts h = refl
more_done read (suc n) ts h = rw h refl

pub list_done : {A : Type 0} (read : List Symbol → Read A) (n : ℕ) (ts : List Symbol) (xs : List A) → is_next Comma ts ≡ false → with_prefix xs (read_more read n ts) ≡ Some (xs, ts)
list_done read n ts xs h = ap (with_prefix xs) (more_done read n ts h) ∙ ap (λ zs. Some (zs, ts)) (append-nil xs)

module _ {A : Type 0} (read : List Symbol → Read A) (m k : ℕ) (ts : List Symbol) (here : k < m) (comma : is_next Comma ts ≡ true) where
  more_none : read (after ts) ≡ None → read_more read (m - k) ts ≡ None
  more_none h = rw (next_distance m k here) (rw (comma, h) refl)

  more_next : (x : A) (rest : List Symbol) → read (after ts) ≡ Some (x, rest) → read_more read (m - k) ts ≡ with_prefix (x ∷ []) (read_more read (m - (k + 1)) rest)
  more_next x rest h = rw (next_distance m k here) (rw (comma, h) refl)

  pub list_next : (xs : List A) (x : A) (rest : List Symbol) → read (after ts) ≡ Some (x, rest)
      → with_prefix xs (read_more read (m - k) ts) ≡ with_prefix (xs ++ x ∷ []) (read_more read (m - (k + 1)) rest)
  list_next xs x rest h = ap (with_prefix xs) (more_next x rest h) ∙ with_prefix-with_prefix xs (x ∷ []) _

  pub list_none : (xs : List A) → read (after ts) ≡ None → with_prefix xs (read_more read (m - k) ts) ≡ None
  list_none xs h = ap (with_prefix xs) (more_none h)

some_same : {B : Type 0} (u v : B) → Some u ≡ Some v → u ≡ v
some_same u v h = cc

-- what was made of what was read
pub makes_gives : {X Y : Type 0} (view : X → Y) (r : Result X Stop) (y : Y) (rest : List Symbol) (whole : Read Y) → Makes view r y → whole ≡ Some (y, rest)
    → Gives view r rest whole
makes_gives view (Ok x) y rest whole m h = h ∙ ap (λ z. Some (z, rest)) (sym m)
makes_gives view (Err Amiss) y rest whole m h = elim m [ ]
makes_gives view (Err NoMemory) y rest whole m h = tt

-- what fails since a part of it fails
pub fails_gives : {X Y X' Y' : Type 0} (view : X → Y) (view' : X' → Y') (e : Stop) (r : Result X' Stop) (rest rest' : List Symbol) (read : Read Y) (whole : Read Y')
    → IsErr r × IsErrAnd r (λ z. z ≡ e) → Gives view (Err e) rest read → (read ≡ None → whole ≡ None) → Gives view' r rest' whole
fails_gives view view' e (Ok x) rest rest' read whole h g k = let q = h.0 in cc
fails_gives view view' e (Err Amiss) rest rest' read whole h g k = k (subst (λ (z : Stop). Gives view (Err z) rest read) (sym h.1) g)
fails_gives view view' e (Err NoMemory) rest rest' read whole h g k = tt

-- The turns of a loop over a list: what is read in all is what precedes it, and more after what was read last.
module _ {A : Type 0} (read : List Symbol → Read A) where
  pub loop_begins : (all ts : List Symbol) (x : A) (prefix : List A) (m : ℕ) → read all ≡ Some (x, ts) → prefix ≡ x ∷ [] → m ≡ length ts
      → read_list read all ≡ with_prefix prefix (read_more read (m - 0) ts)
  loop_begins all ts x prefix m h f n = let z : m - 0 ≡ length ts = omega (arith, n) in rw (h, f, z) refl

  module _ (whole : Read (List A)) (prefix : List A) (m k : ℕ) (ts : List Symbol) (so : whole ≡ with_prefix prefix (read_more read (m - k) ts)) where
    pub loop_stops : (left : List Symbol) → false ≡ is_next Comma ts → left ≡ ts → whole ≡ Some (prefix, left)
    loop_stops left h l = so ∙ list_done read (m - k) ts prefix (sym h) ∙ ap (λ z. Some (prefix, z)) (sym l)

    pub loop_ends : m ≤ k → whole ≡ Some (prefix, ts)
    loop_ends h =
        let z : m - k ≡ 0 = omega (arith, h) in
        so ∙ ap (λ n. with_prefix prefix (read_more read n ts)) z ∙ ap (λ zs. Some (zs, ts)) (append-nil prefix)

    pub loop_fails : (left : List Symbol) → k < m → true ≡ is_next Comma ts → left ≡ after ts → read left ≡ None → whole ≡ None
    loop_fails left here h l r = so ∙ list_none read m k ts here (sym h) prefix (ap read (sym l) ∙ r)

    pub loop_goes_on : (left : List Symbol) (x : A) (rest : List Symbol) (longer : List A) → k < m → true ≡ is_next Comma ts → left ≡ after ts → read left ≡ Some (x, rest)
        → longer ≡ prefix ++ x ∷ [] → whole ≡ with_prefix longer (read_more read (m - (k + 1)) rest)
    loop_goes_on left x rest longer here h l r e =
        so ∙ list_next read m k ts here (sym h) prefix x rest (ap read (sym l) ∙ r) ∙ ap (λ zs. with_prefix zs (read_more read (m - (k + 1)) rest)) (sym e)

pub one_more : {X A : Type 0} (view : X → A) (xs ys : List X) (x : X) → ys ≡ xs ++ x ∷ [] → map view ys ≡ map view xs ++ view x ∷ []
one_more view xs ys x e = ap (map view) e ∙ map-append view xs (x ∷ [])

-- The turns of a loop over operators with their operands.
module _ {O : Type 0} (operator : Mark → Option O) (operand : List Symbol → Read Expression) where
  pub operands_begin : (ts : List Symbol) (m : ℕ) → m ≡ length ts → read_operands operator operand (length ts) ts ≡ with_prefix [] (read_operands operator operand (m - 0) ts)
  operands_begin ts m n = let z : m - 0 ≡ length ts = omega (arith, n) in rw z (sym (with_prefix-nil (read_operands operator operand (length ts) ts)))

  operands_done : (n : ℕ) (ts : List Symbol) (xs : List (O × Expression)) → next_operator operator ts ≡ None → with_prefix xs (read_operands operator operand n ts) ≡ Some (xs, ts)
  operands_done zero ts xs h = ap (λ zs. Some (zs, ts)) (append-nil xs)
  operands_done (suc n) ts xs h = rw h (ap (λ zs. Some (zs, ts)) (append-nil xs))

  module _ (whole : Read (List (O × Expression))) (xs : List (O × Expr)) (m k : ℕ) (ts : List Symbol)
      (so : whole ≡ with_prefix (map operand_view xs) (read_operands operator operand (m - k) ts)) where
    pub operands_stop : None ≡ next_operator operator ts → whole ≡ Some (map operand_view xs, ts)
    operands_stop h = so ∙ operands_done (m - k) ts (map operand_view xs) (sym h)

    pub operands_end : m ≤ k → whole ≡ Some (map operand_view xs, ts)
    operands_end h =
        let z : m - k ≡ 0 = omega (arith, h) in
        so ∙ ap (λ n. with_prefix (map operand_view xs) (read_operands operator operand n ts)) z ∙ ap (λ zs. Some (zs, ts)) (append-nil (map operand_view xs))

    module _ (here : k < m) (op : O) (comes : Some op ≡ next_operator operator ts) where
      pub operands_fail : operand (after ts) ≡ None → whole ≡ None
      operands_fail h = so ∙ rw (next_distance m k here) (rw (sym comes, h) refl)

      pub operands_go_on : (x : Expr) (rest : List Symbol) (longer : List (O × Expr)) → operand (after ts) ≡ Some (expression x, rest) → longer ≡ xs ++ (op, x) ∷ []
          → whole ≡ with_prefix (map operand_view longer) (read_operands operator operand (m - (k + 1)) rest)
      operands_go_on x rest longer h e =
          so ∙ rw (next_distance m k here) (rw (sym comes, h) (with_prefix-with_prefix (map operand_view xs) ((op, expression x) ∷ []) _))
          ∙ ap (λ zs. with_prefix zs (read_operands operator operand (m - (k + 1)) rest)) (sym (one_more operand_view xs longer (op, x) e))

pub with_arms-nil : (r : Read (List (Expression × Expression) × Expression)) → with_arms [] r ≡ r
with_arms-nil None = refl
with_arms-nil (Some x) = refl

pub with_arms-with_arms : (xs ys : List (Expression × Expression)) (r : Read (List (Expression × Expression) × Expression)) → with_arms xs (with_arms ys r) ≡ with_arms (xs ++ ys) r
with_arms-with_arms xs ys None = refl
with_arms-with_arms xs ys (Some x) = rw append_assoc refl

-- The turns of a loop over conditions with their values, and the last branch after them.
pub arms_begin : (inner : List Symbol → Read Expression) (ts : List Symbol) (m : ℕ) → m ≡ length ts
    → read_conditional inner ts ≡ conditional_from (with_arms [] (read_arms inner (m - 0) ts))
unfolding read_conditional
arms_begin inner ts m n = let z : m - 0 ≡ length ts = omega (arith, n) in rw z (ap conditional_from (sym (with_arms-nil (read_arms inner (length ts) ts))))

module _ (inner : List Symbol → Read Expression) (whole : Read Expression) (xs : List (Expr × Expr)) (m k : ℕ) (ts : List Symbol)
    (so : whole ≡ conditional_from (with_arms (map arm_view xs) (read_arms inner (m - k) ts))) where
  pub arms_end : m ≤ k → whole ≡ None
  arms_end h = let z : m - k ≡ 0 = omega (arith, h) in so ∙ ap (λ n. conditional_from (with_arms (map arm_view xs) (read_arms inner n ts))) z

  module _ (here : k < m) where
    pub arms_none : read_level 9 inner ts ≡ None → whole ≡ None
    arms_none h = so ∙ rw (next_distance m k here) (rw h refl)

    module _ (x : Expression) (rest left : List Symbol) (value : read_level 9 inner ts ≡ Some (x, rest)) where
      pub arms_stop : false ≡ is_next Query rest → left ≡ rest → whole ≡ Some (conditional (map arm_view xs) x, left)
      arms_stop h l = so ∙ rw (next_distance m k here) (rw (value, sym h, l) (ap (λ zs. Some (conditional zs x, rest)) (append-nil (map arm_view xs))))

      module _ (query : true ≡ is_next Query rest) (l : left ≡ after rest) where
        pub arm_none : read_arm x inner left ≡ None → whole ≡ None
        arm_none h = let h' : read_arm x inner (after rest) ≡ None = rw l at h in so ∙ rw (next_distance m k here) (rw (value, sym query, h') refl)

        pub arms_go_on : (arm : Expr × Expr) (afterwards : List Symbol) (longer : List (Expr × Expr)) → read_arm x inner left ≡ Some (arm_view arm, afterwards) → longer ≡ xs ++ arm ∷ []
            → whole ≡ conditional_from (with_arms (map arm_view longer) (read_arms inner (m - (k + 1)) afterwards))
        arms_go_on arm afterwards longer h e =
            let h' : read_arm x inner (after rest) ≡ Some (arm_view arm, afterwards) = rw l at h in
            so ∙ rw (next_distance m k here) (rw (value, sym query, h') (ap conditional_from (with_arms-with_arms (map arm_view xs) (arm_view arm ∷ []) _)))
            ∙ ap (λ zs. conditional_from (with_arms zs (read_arms inner (m - (k + 1)) afterwards))) (sym (one_more arm_view xs longer arm e))

pub signs_done : (n s : ℕ) (ts : List Symbol) → is_next Tilde ts ≡ false → plus_signs s (read_signs n ts) ≡ (s, ts)
unfolding plus_signs
signs_done zero s ts h = ap (λ m. (m, ts)) (omega arith)
signs_done (suc n) s ts h = rw h (ap (λ m. (m, ts)) (omega arith))

pub signs_next : (m k s : ℕ) (ts : List Symbol) → k < m → is_next Tilde ts ≡ true
    → plus_signs s (read_signs (m - k) ts) ≡ plus_signs (s + 1) (read_signs (m - (k + 1)) (after ts))
unfolding plus_signs
signs_next m k s ts here h = rw (next_distance m k here) (rw h (ap (λ n. (n, (read_signs (m - (k + 1)) (after ts)).1)) (omega arith)))

pub signs_ended : (m k s : ℕ) (ts : List Symbol) → m ≤ k → plus_signs s (read_signs (m - k) ts) ≡ (s, ts)
unfolding plus_signs
signs_ended m k s ts h = let z : m - k ≡ 0 = omega arith in rw z (ap (λ n. (n, ts)) (omega arith))

pub signs_begun : (n : ℕ) (ts : List Symbol) → plus_signs 0 (read_signs (n - 0) ts) ≡ read_signs n ts
unfolding plus_signs
signs_begun n ts = let z : n - 0 ≡ n = omega arith in rw z (ap (λ m. (m, (read_signs n ts).1)) (omega arith))

pub ruleset signs_looping = (signs_done, signs_next, signs_ended, signs_begun)

-- The turns of a loop over names with their declarations.
pub ansi_begins : (all rest left : List Symbol) (port : Port) (name : List ℕ) (prefix : List PlainHead) (m : ℕ) → read_port all ≡ Some (port, rest) → read_name rest ≡ Some (name, left)
    → prefix ≡ declared (port, name) ∷ [] → m ≡ length left → read_ansi_heads all ≡ with_prefix prefix (read_ansi_more port (m - 0) left)
unfolding read_ansi_heads
ansi_begins all rest left port name prefix m p q f n = let z : m - 0 ≡ length left = omega (arith, n) in rw (p, q, f, z) refl

ansi_done : (port : Port) (n : ℕ) (ts : List Symbol) (xs : List PlainHead) → is_next Comma ts ≡ false → with_prefix xs (read_ansi_more port n ts) ≡ Some (xs, ts)
ansi_done port zero ts xs h = ap (λ zs. Some (zs, ts)) (append-nil xs)
ansi_done port (suc n) ts xs h = rw h (ap (λ zs. Some (zs, ts)) (append-nil xs))

module _ (whole : Read (List PlainHead)) (xs : List Head) (port : Port) (m k : ℕ) (ts : List Symbol)
    (so : whole ≡ with_prefix (map head_view xs) (read_ansi_more port (m - k) ts)) where
  pub ansi_stops : (left : List Symbol) → false ≡ is_next Comma ts → left ≡ ts → whole ≡ Some (map head_view xs, left)
  ansi_stops left h l = so ∙ ansi_done port (m - k) ts (map head_view xs) (sym h) ∙ ap (λ z. Some (map head_view xs, z)) (sym l)

  pub ansi_ends : m ≤ k → whole ≡ Some (map head_view xs, ts)
  ansi_ends h =
      let z : m - k ≡ 0 = omega (arith, h) in
      so ∙ ap (λ n. with_prefix (map head_view xs) (read_ansi_more port n ts)) z ∙ ap (λ zs. Some (zs, ts)) (append-nil (map head_view xs))

  module _ (left : List Symbol) (here : k < m) (comma : true ≡ is_next Comma ts) (l : left ≡ after ts) where
    pub ansi_fails : read_ansi port left ≡ None → whole ≡ None
    ansi_fails h = let h' : read_ansi port (after ts) ≡ None = rw l at h in so ∙ rw (next_distance m k here) (rw (sym comma, h') refl)

    pub ansi_goes_on : (next : Port) (name : List ℕ) (rest : List Symbol) (longer : List Head) → read_ansi port left ≡ Some ((next, name), rest)
        → longer ≡ xs ++ record { name = name; decl = Some next } ∷ [] → whole ≡ with_prefix (map head_view longer) (read_ansi_more next (m - (k + 1)) rest)
    ansi_goes_on next name rest longer h e =
        let h' : read_ansi port (after ts) ≡ Some ((next, name), rest) = rw l at h in
        let head : Head = record { name = name; decl = Some next } in
        so ∙ rw (next_distance m k here) (rw (sym comma, h') (with_prefix-with_prefix (map head_view xs) (head_view head ∷ []) _))
        ∙ ap (λ zs. with_prefix zs (read_ansi_more next (m - (k + 1)) rest)) (sym (one_more head_view xs longer head e))

-- The first two terminals of a gate, and more after them.
terms_second : (read : List Symbol → Read Expression) (x : Expression) (y : Read Expression) (xs : List Expression) (ts : List Symbol)
    → y >>= (λ z. Some (x ∷ z.0 ∷ [], z.1)) ≡ Some (xs, ts)
    → with_prefix (x ∷ []) (y >>= (λ z. with_prefix (z.0 ∷ []) (read_more read (length z.1) z.1))) ≡ with_prefix xs (read_more read (length ts) ts)
terms_second read x None xs ts h = cc
terms_second read x (Some z) xs ts h =
    with_prefix-with_prefix (x ∷ []) (z.0 ∷ []) (read_more read (length z.1) z.1)
    ∙ ap (λ (r : List Expression × List Symbol). with_prefix r.0 (read_more read (length r.1) r.1)) (some_same (x ∷ z.0 ∷ [], z.1) (xs, ts) h)

terms_comma : (read : List Symbol → Read Expression) (x : Expression) (u : Read (Unit {0})) (xs : List Expression) (ts : List Symbol)
    → u >>= (λ a. read a.1 >>= (λ z. Some (x ∷ z.0 ∷ [], z.1))) ≡ Some (xs, ts) → u >>= (λ a. with_prefix (x ∷ []) (read_list read a.1)) ≡ with_prefix xs (read_more read (length ts) ts)
terms_comma read x None xs ts h = cc
terms_comma read x (Some a) xs ts h = terms_second read x (read a.1) xs ts h

terms_first : (read : List Symbol → Read Expression) (x : Read Expression) (xs : List Expression) (ts : List Symbol)
    → x >>= (λ e. read_mark Comma e.1 >>= (λ a. read a.1 >>= (λ z. Some (e.0 ∷ z.0 ∷ [], z.1)))) ≡ Some (xs, ts)
    → x >>= (λ e. read_mark Comma e.1 >>= (λ a. with_prefix (e.0 ∷ []) (read_list read a.1))) ≡ with_prefix xs (read_more read (length ts) ts)
terms_first read None xs ts h = cc
terms_first read (Some e) xs ts h = terms_comma read e.0 (read_mark Comma e.1) xs ts h

pub terms_begin : (depth : ℕ) (all ts : List Symbol) (xs : List Expression) (m : ℕ) → read_two_terms depth all ≡ Some (xs, ts) → m ≡ length ts
    → read_terms depth all ≡ with_prefix xs (read_more (read_expr depth) (m - 0) ts)
unfolding read_two_terms read_terms
terms_begin depth all ts xs m h n =
    let z : m - 0 ≡ length ts = omega (arith, n) in
    terms_first (read_expr depth) (read_expr depth all) xs ts h ∙ ap (λ k. with_prefix xs (read_more (read_expr depth) k ts)) (sym z)

second_none : (read : List Symbol → Read Expression) (x : Expression) (y : Read Expression) → y >>= (λ z. Some (x ∷ z.0 ∷ [], z.1)) ≡ None
    → with_prefix (x ∷ []) (y >>= (λ z. with_prefix (z.0 ∷ []) (read_more read (length z.1) z.1))) ≡ None
second_none read x None h = refl
second_none read x (Some z) h = cc

comma_none : (read : List Symbol → Read Expression) (x : Expression) (u : Read (Unit {0})) → u >>= (λ a. read a.1 >>= (λ z. Some (x ∷ z.0 ∷ [], z.1))) ≡ None
    → u >>= (λ a. with_prefix (x ∷ []) (read_list read a.1)) ≡ None
comma_none read x None h = refl
comma_none read x (Some a) h = second_none read x (read a.1) h

-- nothing is read where nothing is read of the first two
two_terms_none : (read : List Symbol → Read Expression) (x : Read Expression) → x >>= (λ e. read_mark Comma e.1 >>= (λ a. read a.1 >>= (λ z. Some (e.0 ∷ z.0 ∷ [], z.1)))) ≡ None
    → x >>= (λ e. read_mark Comma e.1 >>= (λ a. with_prefix (e.0 ∷ []) (read_list read a.1))) ≡ None
two_terms_none read None h = refl
two_terms_none read (Some e) h = comma_none read e.0 (read_mark Comma e.1) h

pub terms_none : (depth : ℕ) (all : List Symbol) → read_two_terms depth all ≡ None → read_terms depth all ≡ None
unfolding read_two_terms read_terms
terms_none depth all h = two_terms_none (read_expr depth) (read_expr depth all) h

pub ruleset terms_looping = (terms_none)
