-- An expression of the code, seen as plain syntax, form by form.
use Rattle.std.proofs.Common.{◌≡◌, ℕ, ◌*◌, Bool, ◌&&◌, List, [], ◌∷◌, ◌++◌, map, refl, ap, ◌∙◌}
use Rattle.std.specs.Prelude.{max, sum}
use Rattle.std.specs.List.{flat_map, list_all}
use Rattle.bb_ast.specs.Assignable.{assigning, is_assignable}
use Rattle.bb_names.specs.Inside.Firsts.{inner_sites, sites_of_part, words_width}
use Rattle.bb_names.specs.Sites.{Use, inside, with_inside, part_sites, sites_in}
use Rattle.bb_names.specs.Widths.{Ranges, greatest, widths, own_width}
use Rattle.bb_ast.specs.declared.expr.Expr.{Expr, out-Expr}
use Rattle.bb_ast.specs.declared.expr.Op.{Op}
use Rattle.bb_ast.specs.declared.operators.WordOp.{WordOp}
use Rattle.bb_ast.specs.declared.expr.Expr.TheOpen.{Expr-F}
use Rattle.bb_ast.specs.declared.expr.Expr.TheFolds.{fold_out-Expr, map-Expr}
use Rattle.bb_ast.specs.Laws.FoldLaws.{sees_operands, sees_words, sees_arms, sees_parts}
use Rattle.bb_ast.specs.Names.{naming, names_in}
use Rattle.bb_ast.specs.Syntax.{Expression, Chain, Words, Cond, Concat, Repeat, operands, word_operands, arms, listed_parts}
use Rattle.bb_ast.specs.Inside.Views.{layer, expression}

pub view-of : (e : Expr) (o : Expr-F Expr) → out-Expr e ≡ o → expression e ≡ layer (map-Expr Expr Expression expression o)
view-of e o is = fold_out-Expr Expression layer e ∙ ap (λ z. layer (map-Expr Expr Expression expression z)) is

pub flat_map-map : {X Y A : Type 0} (g : Y → List A) (v : X → Y) (xs : List X) → flat_map g (map v xs) ≡ flat_map (λ x. g (v x)) xs
flat_map-map g v [] = refl
flat_map-map g v (x ∷ xs) = ap (λ z. g (v x) ++ z) (flat_map-map g v xs)

-- the names of an expression by its form
pub names-chain : (e : Expression) (rest : List (Op × Expression)) → names_in (Chain e (operands rest)) ≡ names_in e ++ flat_map (λ x. names_in x.1) rest
names-chain e rest = ap (λ z. names_in e ++ flat_map (λ x. x.1) z) (sees_operands (λ x a. a) naming rest) ∙ ap (λ z. names_in e ++ z) (flat_map-map (λ x. x.1) (λ x. (x.0, names_in x.1)) rest)

pub names-words : (e : Expression) (rest : List (WordOp × Expression)) → names_in (Words e (word_operands rest)) ≡ names_in e ++ flat_map (λ x. names_in x.1) rest
names-words e rest = ap (λ z. names_in e ++ flat_map (λ x. x.1) z) (sees_words (λ x a. a) naming rest) ∙ ap (λ z. names_in e ++ z) (flat_map-map (λ x. x.1) (λ x. (x.0, names_in x.1)) rest)

pub names-cond : (all : List (Expression × Expression)) (last : Expression) → names_in (Cond (arms all) last) ≡ flat_map (λ x. names_in x.0 ++ names_in x.1) all ++ names_in last
names-cond all last = ap (λ z. flat_map (λ x. x.0 ++ x.1) z ++ names_in last) (sees_arms (λ x a. a) naming all) ∙ ap (λ z. z ++ names_in last) (flat_map-map (λ x. x.0 ++ x.1) (λ x. (names_in x.0, names_in x.1)) all)

pub names-concat : (all : List Expression) → names_in (Concat (listed_parts all)) ≡ flat_map names_in all
names-concat all = ap (flat_map (λ e. e)) (sees_parts (λ x a. a) naming all) ∙ flat_map-map (λ e. e) names_in all

pub names-repeat : (k : ℕ) (all : List Expression) → names_in (Repeat k (listed_parts all)) ≡ flat_map names_in all
names-repeat k all = ap (flat_map (λ e. e)) (sees_parts (λ x a. a) naming all) ∙ flat_map-map (λ e. e) names_in all

all-map : {X Y : Type 0} (p : Y → Bool) (v : X → Y) (xs : List X) → list_all p (map v xs) ≡ list_all (λ x. p (v x)) xs
all-map p v [] = refl
all-map p v (x ∷ xs) = ap (λ b. p (v x) && b) (all-map p v xs)

pub assignable-concat : (all : List Expression) → is_assignable (Concat (listed_parts all)) ≡ list_all is_assignable all
assignable-concat all = ap (list_all (λ e. e)) (sees_parts (λ x a. a) assigning all) ∙ all-map (λ e. e) is_assignable all

-- what is in an expression by its form
pub sites-chain : (how : Use) (e : Expression) (rest : List (Op × Expression)) → inner_sites how (Chain e (operands rest)) ≡ sites_in how e ++ flat_map (λ x. sites_in how x.1) rest
sites-chain how e rest =
    ap (λ z. sites_in how e ++ flat_map (λ x. with_inside x.1) z) (sees_operands (λ x sites. (x, sites)) (inside how) rest)
    ∙ ap (λ z. sites_in how e ++ z) (flat_map-map (λ x. with_inside x.1) (λ x. (x.0, (x.1, inner_sites how x.1))) rest)

pub sites-words : (how : Use) (e : Expression) (rest : List (WordOp × Expression)) → inner_sites how (Words e (word_operands rest)) ≡ sites_in how e ++ flat_map (λ x. sites_in how x.1) rest
sites-words how e rest =
    ap (λ z. sites_in how e ++ flat_map (λ x. with_inside x.1) z) (sees_words (λ x sites. (x, sites)) (inside how) rest)
    ∙ ap (λ z. sites_in how e ++ z) (flat_map-map (λ x. with_inside x.1) (λ x. (x.0, (x.1, inner_sites how x.1))) rest)

pub sites-cond : (how : Use) (all : List (Expression × Expression)) (last : Expression) → inner_sites how (Cond (arms all) last) ≡ flat_map (λ x. sites_in how x.0 ++ sites_in how x.1) all ++ sites_in how last
sites-cond how all last =
    ap (λ z. flat_map (λ x. with_inside x.0 ++ with_inside x.1) z ++ sites_in how last) (sees_arms (λ x sites. (x, sites)) (inside how) all)
    ∙ ap (λ z. z ++ sites_in how last) (flat_map-map (λ x. with_inside x.0 ++ with_inside x.1) (λ x. ((x.0, inner_sites how x.0), (x.1, inner_sites how x.1))) all)

pub sites-concat : (how : Use) (all : List Expression) → inner_sites how (Concat (listed_parts all)) ≡ flat_map (sites_of_part how) all
sites-concat how all = ap (flat_map part_sites) (sees_parts (λ x sites. (x, sites)) (inside how) all) ∙ flat_map-map part_sites (λ x. (x, inner_sites how x)) all

pub sites-repeat : (how : Use) (k : ℕ) (all : List Expression) → inner_sites how (Repeat k (listed_parts all)) ≡ flat_map (sites_of_part how) all
sites-repeat how k all = ap (flat_map part_sites) (sees_parts (λ x sites. (x, sites)) (inside how) all) ∙ flat_map-map part_sites (λ x. (x, inner_sites how x)) all

-- the own width by the form
map-map : {X Y Z : Type 0} (g : Y → Z) (v : X → Y) (xs : List X) → map g (map v xs) ≡ map (λ x. g (v x)) xs
map-map g v [] = refl
map-map g v (x ∷ xs) = ap (λ z. g (v x) ∷ z) (map-map g v xs)

pub width-chain : (ranges : Ranges) (e : Expression) (rest : List (Op × Expression)) → own_width ranges (Chain e (operands rest)) ≡ max (own_width ranges e) (greatest (map (λ x. own_width ranges x.1) rest))
width-chain ranges e rest = ap (λ z. max (own_width ranges e) (greatest z)) (ap (map (λ x. x.1)) (sees_operands (λ x a. a) (widths ranges) rest) ∙ map-map (λ x. x.1) (λ x. (x.0, own_width ranges x.1)) rest)

pub width-words : (ranges : Ranges) (e : Expression) (rest : List (WordOp × Expression)) → own_width ranges (Words e (word_operands rest)) ≡ words_width (own_width ranges e) (map (λ x. (x.0, own_width ranges x.1)) rest)
width-words ranges e rest = ap (words_width (own_width ranges e)) (sees_words (λ x a. a) (widths ranges) rest)

pub width-cond : (ranges : Ranges) (all : List (Expression × Expression)) (last : Expression) → own_width ranges (Cond (arms all) last) ≡ max (greatest (map (λ x. own_width ranges x.1) all)) (own_width ranges last)
width-cond ranges all last = ap (λ z. max (greatest z) (own_width ranges last)) (ap (map (λ x. x.1)) (sees_arms (λ x a. a) (widths ranges) all) ∙ map-map (λ x. x.1) (λ x. (own_width ranges x.0, own_width ranges x.1)) all)

pub width-concat : (ranges : Ranges) (all : List Expression) → own_width ranges (Concat (listed_parts all)) ≡ sum (map (own_width ranges) all)
width-concat ranges all = ap sum (sees_parts (λ x a. a) (widths ranges) all)

pub width-repeat : (ranges : Ranges) (k : ℕ) (all : List Expression) → own_width ranges (Repeat k (listed_parts all)) ≡ k * sum (map (own_width ranges) all)
width-repeat ranges k all = ap (λ z. k * sum z) (sees_parts (λ x a. a) (widths ranges) all)
