-- The expressions of a module: those of its items, and each expression in one of these.
use Rattle.std.specs.Prelude.{ℕ, List, [], ◌∷◌, ◌++◌, Contains, option_to_list, IsSomeAnd, slice_get}
use Rattle.std.specs.List.{flat_map}
use Rattle.std.specs.Option.{option_and_then, option_map_or}
use Rattle.bb_ast.specs.Syntax.{Expression, PlainConns, Order, Named, PlainBody, Nets, Assign, Gates, Calls, Always, PlainModule}
use Rattle.bb_ast.specs.Folds.{Cases, fold_by}
use Rattle.bb_names.specs.declared.net.NetInfo.{NetInfo}
use Rattle.bb_names.specs.Widths.{Ranges}
use Rattle.bb_names.specs.Declarations.{range_of}
use Rattle.bb_names.specs.Inside.Checked.{ModuleFacts, syntax}

abbrev pub gathering : Cases (List Expression) (List Expression)
gathering = record {
  net = λ n. [];
  bit = λ n i. [];
  part = λ n i j. [];
  sized = λ bits. [];
  plain = λ n. [];
  not = λ k e. e;
  reduce = λ op e. e;
  chain = λ e rest. e ++ flat_map (λ x. x.1) rest;
  words = λ e rest. e ++ flat_map (λ x. x.1) rest;
  cond = λ all last. flat_map (λ x. x.0 ++ x.1) all ++ last;
  concat = λ all. flat_map (λ e. e) all;
  repeat = λ k all. flat_map (λ e. e) all;
}

-- an expression and those in it
abbrev pub expressions_in : Expression → List Expression
expressions_in e = e ∷ fold_by (λ x all. x ∷ all) gathering e

abbrev pub conns_expressions : PlainConns → List Expression
conns_expressions (Order places) = flat_map option_to_list places
conns_expressions (Named all) = flat_map (λ x. option_to_list x.1) all

-- the expressions of an item, in text order
abbrev pub item_expressions : PlainBody → List Expression
item_expressions (Nets range nets) = flat_map (λ x. option_to_list x.1) nets
item_expressions (Assign all) = flat_map (λ x. x.0 ∷ x.1 ∷ []) all
item_expressions (Gates gate all) = flat_map (λ x. x.1) all
item_expressions (Calls target all) = flat_map (λ x. conns_expressions x.1) all
item_expressions (Always r) = r.clock ∷ r.left ∷ r.right ∷ []
item_expressions body = []

abbrev pub OccursIn : PlainModule → Expression → Type 0
OccursIn m e = Contains (flat_map (λ item. flat_map expressions_in (item_expressions item.body)) m.items) e

-- an expression of the module at a place
abbrev pub OccursAt : List ModuleFacts → ℕ → Expression → Type 0
OccursAt checked k e = IsSomeAnd (slice_get checked k) (λ m. OccursIn (syntax m) e)

-- the nets of the module at a place
abbrev pub nets_at : List ModuleFacts → ℕ → List NetInfo
nets_at checked k = option_map_or (λ m. m.nets) (slice_get checked k) []

-- the ranges of these nets by their names
abbrev pub ranges_at : List ModuleFacts → ℕ → Ranges
ranges_at checked k n = option_and_then (λ m. range_of (syntax m) n) (slice_get checked k)
