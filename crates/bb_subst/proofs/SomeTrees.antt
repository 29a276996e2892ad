-- After cells without boxes there may be a tree over any column that is as long as its pins ask.
use Rattle.std.proofs.Common.{◌≡◌, ℕ, suc, ◌+◌, ◌-◌, ◌^◌, ◌<◌, ◌≤◌, Bool, false, List, [], ◌∷◌, length, take, drop, get_or, All, refl, sym, ◌∙◌, subst, arith, append-nil}
use Rattle.std.specs.Prelude.{if◌then◌else◌}
use Rattle.std.proofs.lemmas.List.{take-append-drop, length-take, length-drop}
use Rattle.std.proofs.lemmas.List.Elements.{All-head, All-tail, All-weaker}
use Rattle.bb_net.specs.declared.cell.Cell.TheVariants.{Mux}
use Rattle.bb_net.specs.Netlists.{Netlist}
use Rattle.bb_subst.specs.Inside.Filling.{GrowsBy, HasConstants}
use Rattle.bb_subst.specs.Trees.{IsTree, IsInTree}
use Rattle.bb_subst.proofs.FilledTrees.{choice_only, choice_tree, constant_tree, grow_by_one, grow_constants, grow_less, grow_long, grow_on, grow_tree, in_tree_stays, room_for_both, tree_there, two_positive}
use Rattle.bb_subst.proofs.GateCells.{IsPlain, one_more, plain_more}

-- the cells with such a tree after them
pub record HasTree (net : Netlist) (pins : List ℕ) (column : List Bool) : Type 0 where
  pub new : Netlist
  pub root : ℕ
  pub grows : GrowsBy net new (2 ^ length pins - 1)
  pub plain : IsPlain new
  pub tree : IsTree new.cells pins column root
  pub only : (place : ℕ) → length net.cells ≤ place → place < length new.cells → IsInTree new.cells pins root place

no_more : (net : Netlist) (n : ℕ) → GrowsBy net net n
no_more net n = record { inputs = refl; boxes = refl; outs = refl; more = []; cells = sym (append-nil net.cells); few = omega arith }

-- there may be a tree over any column
abbrev pub Grows : List ℕ → Type 0
Grows pins = (column : List Bool) (net : Netlist) → IsPlain net → HasConstants net.cells → All (λ k. k < length net.cells) pins → length column ≡ 2 ^ length pins → HasTree net pins column

-- two trees and a choice between them, where there may be a tree over any column that is half as long
two_trees : (pin : ℕ) (pins : List ℕ) → Grows pins → Grows (pin ∷ pins)
two_trees pin pins grow column net plain constants there long =
    record {
      new = one_more high.new (Mux pin high.root low.root);
      root = length high.new.cells;
      grows = grow_less net (one_more high.new (Mux pin high.root low.root)) ((n + n) + 1) (2 ^ suc (length pins) - 1) (omega (arith, both, two_positive (length pins)))
          (grow_on net high.new (one_more high.new (Mux pin high.root low.root)) (n + n) 1 (grow_on net low.new high.new n n low.grows high.grows) (grow_by_one high.new (one_more high.new (Mux pin high.root low.root)) pin high.root low.root refl));
      plain = plain_more high.new (Mux pin high.root low.root) high.plain (omega (arith, first, first_long.0, last_long.0), tree_there high.new.cells pins upper high.root high.tree, tree_there high.new.cells pins lower low.root down);
      tree = choice_tree high.new.cells pin pins column lower upper low.root high.root (sym (take-append-drop half column)) (low_long ∙ sym up_long) down high.tree;
      only = choice_only high.new.cells pin pins lower upper low.root high.root (length net.cells) (length low.new.cells) down high.tree
          (λ place past lt. subst (λ l. IsInTree l pins low.root place) (sym high.grows.cells) (in_tree_stays low.new.cells high.grows.more pins lower low.root place low.tree (low.only place past lt)))
          high.only;
    }
  where
    n : ℕ
    n = 2 ^ length pins - 1

    half : ℕ
    half = 2 ^ length pins

    both : 2 ^ suc (length pins) ≡ 2 ^ length pins + 2 ^ length pins
    both = room_for_both (length pins) (suc (length pins)) (omega arith)

    lower : List Bool
    lower = take half column

    upper : List Bool
    upper = drop half column

    low_long : length lower ≡ 2 ^ length pins
    low_long = omega (arith, length-take half column, long, both)

    up_long : length upper ≡ 2 ^ length pins
    up_long = omega (arith, length-drop half column, long, both)

    first : pin < length net.cells
    first = All-head (λ k. k < length net.cells) pin pins there

    low : HasTree net pins lower
    low = grow lower net plain constants (All-tail (λ k. k < length net.cells) pin pins there) low_long

    first_long : (length net.cells ≤ length low.new.cells) × (length low.new.cells ≤ length net.cells + n)
    first_long = grow_long net low.new n low.grows

    high : HasTree low.new pins upper
    high = grow upper low.new low.plain (grow_constants net low.new n low.grows constants)
        (All-weaker (λ k. k < length net.cells) (λ k. k < length low.new.cells) (λ k lt. omega (arith, lt, first_long.0)) pins (All-tail (λ k. k < length net.cells) pin pins there)) up_long

    last_long : (length low.new.cells ≤ length high.new.cells) × (length high.new.cells ≤ length low.new.cells + n)
    last_long = grow_long low.new high.new n high.grows

    down : IsTree high.new.cells pins lower low.root
    down = grow_tree low.new high.new n pins lower low.root high.grows low.tree

pub some_tree : (pins : List ℕ) → Grows pins
some_tree [] column net plain constants there long = record {
  new = net;
  root = if get_or column 0 false then 1 else 0;
  grows = no_more net 0;
  plain = plain;
  tree = constant_tree net.cells column (get_or column 0 false) false constants long refl;
  only = λ place past lt. absurd (omega (arith, past, lt));
}
some_tree (pin ∷ pins) column net plain constants there long = two_trees pin pins (some_tree pins) column net plain constants there long
