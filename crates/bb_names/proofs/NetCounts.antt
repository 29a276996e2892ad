-- A module has at most two nets for each thing that its size counts.
use Rattle.std.proofs.Common.{◌≡◌, ℕ, ◌+◌, ◌*◌, ◌≤◌, ◌<◌, ◌^◌, Bool, true, false, cond, not, List, [], ◌∷◌, ◌++◌, length, map, filter, Option, None, Some, refl, ap, ◌∙◌, arith, length-append, map-id}
use Rattle.std.proofs.lemmas.List.{length-map}
use Rattle.std.proofs.lemmas.List.Sums.{sum_by-cons}
use Rattle.std.specs.Prelude.{sum_by}
use Rattle.std.specs.List.{flat_map}
use Rattle.bb_ast.specs.declared.module.Port.{Port}
use Rattle.bb_ast.specs.Names.{names_in, naming}
use Rattle.bb_ast.specs.Folds.{of_operands, of_words, of_arms, of_parts}
use Rattle.bb_ast.specs.Syntax.{Expression, Net, Bit, Part, Sized, Plain, Not, Fold, Chain, Words, Cond, Concat, Repeat, Operands, no_operand, operand, WordOperands, no_word, word, Arms, no_arm, arm, Parts, no_part, part}
use Rattle.bb_ast.specs.Syntax.{PlainConns, Order, Named, PlainBody, Ports, Nets, Regs, Supply, Assign, Gates, Calls, Always, PlainHead, PlainItem, PlainModule}
use Rattle.bb_ast.specs.Inside.Sizes.{source_size, expression_size, operands_size, words_size, arms_size, parts_size, optional_size, pair_size, conns_size, gate_size, call_size, item_size, module_size}
use Rattle.bb_names.specs.declared.net.NetKind.TheVariants.{Wire, Reg}
use Rattle.bb_names.specs.Declarations.{declared_by, declared_by_head, port_declaration, net_declaration, supply_kind, instance_declaration, names_in_optional, names_in_conns, implicit_places, implicit_names, is_declared}
use Rattle.bb_names.specs.Inside.NetLists.{nets_declared_by}
use Rattle.bb_names.specs.Nets.{net_names}
use Rattle.bb_bits.specs.Earlier.{once}
use Rattle.bb_names.proofs.NetLemmas.{names_of_nets, declared-names, no_nets, nets-append, nets-flat}
use Rattle.bb_bits.specs.Names.{same_name}

mutual
  pub names-count : (e : Expression) → length (names_in e) ≤ expression_size e
  names-count (Net n) = omega arith
  names-count (Bit n i) = omega arith
  names-count (Part n i j) = omega arith
  names-count (Sized bits) = omega arith
  names-count (Plain n) = omega arith
  names-count (Not k e) = omega (arith, names-count e)
  names-count (Fold op e) = omega (arith, names-count e)
  names-count (Chain e rest) = rw (length-append) (omega (arith, names-count e, operands-count rest))
  names-count (Words e rest) = rw (length-append) (omega (arith, names-count e, words-count rest))
  names-count (Cond all last) = rw (length-append) (omega (arith, names-count last, arms-count all))
  names-count (Concat all) = omega (arith, parts-count all)
  names-count (Repeat k all) = omega (arith, parts-count all)

  operands-count : (rest : Operands) → length (flat_map (λ x. x.1) (of_operands (λ x a. a) naming rest)) ≤ operands_size rest
  operands-count no_operand = omega arith
  operands-count (operand op e rest) = rw (length-append) (omega (arith, names-count e, operands-count rest))

  words-count : (rest : WordOperands) → length (flat_map (λ x. x.1) (of_words (λ x a. a) naming rest)) ≤ words_size rest
  words-count no_word = omega arith
  words-count (word op e rest) = rw (length-append) (omega (arith, names-count e, words-count rest))

  arms-count : (all : Arms) → length (flat_map (λ x. x.0 ++ x.1) (of_arms (λ x a. a) naming all)) ≤ arms_size all
  arms-count no_arm = omega arith
  arms-count (arm d e rest) = rw (length-append, length-append) (omega (arith, names-count d, names-count e, arms-count rest))

  parts-count : (all : Parts) → length (flat_map (λ e. e) (of_parts (λ x a. a) naming all)) ≤ parts_size all
  parts-count no_part = omega arith
  parts-count (part e rest) = rw (length-append) (omega (arith, names-count e, parts-count rest))

flat-count : {X A : Type 0} (g : X → List A) (s : X → ℕ) (xs : List X) → ((x : X) → length (g x) ≤ s x) → length (flat_map g xs) ≤ sum_by s xs
flat-count g s [] each = omega arith
flat-count g s (x ∷ xs) each = rw (length-append, sum_by-cons s x xs) (omega (arith, each x, flat-count g s xs each))

optional-count : (o : Option Expression) → length (names_in_optional o) ≤ optional_size o
optional-count None = omega arith
optional-count (Some e) = names-count e

at-least-one : {X : Type 0} (s : X → ℕ) (xs : List X) → ((x : X) → 1 ≤ s x) → length xs ≤ sum_by s xs
at-least-one s [] each = omega arith
at-least-one s (x ∷ xs) each = rw (sum_by-cons s x xs) (omega (arith, each x, at-least-one s xs each))

conns-count : (conns : PlainConns) → length (names_in_conns conns) ≤ conns_size conns
conns-count (Order places) = flat-count names_in_optional (λ place. 1 + optional_size place) places (λ o. omega (arith, optional-count o))
conns-count (Named all) = flat-count (λ x. names_in_optional x.1) pair_size all (λ x. omega (arith, optional-count x.1))

body-count : (b : PlainBody) → length (nets_declared_by b) + length (implicit_places b) ≤ item_size b
body-count (Ports port names) = omega (arith, ap length (declared-names (port_declaration port) (λ n. n) (λ n. refl) (λ n. refl) names ∙ map-id names))
body-count (Nets range nets) = omega (arith, ap length (declared-names (λ x. net_declaration Wire range x.0) (λ x. x.0) (λ n. refl) (λ n. refl) nets), length-map nets (λ x. x.0), at-least-one pair_size nets (λ x. omega arith))
body-count (Regs range names) = omega (arith, ap length (declared-names (net_declaration Reg range) (λ n. n) (λ n. refl) (λ n. refl) names ∙ map-id names))
body-count (Supply high range names) = omega (arith, ap length (declared-names (net_declaration (supply_kind high) range) (λ n. n) (λ n. refl) (λ n. refl) names ∙ map-id names))
body-count (Assign all) = omega (arith, flat-count (λ x. names_in x.0) (λ x. expression_size x.0 + expression_size x.1) all (λ x. omega (arith, names-count x.0)))
body-count (Gates gate all) = omega (arith, flat-count (λ x. flat_map names_in x.1) gate_size all (λ x. omega (arith, flat-count names_in (λ e. 1 + expression_size e) x.1 (λ e. omega (arith, names-count e)))))
body-count (Calls name all) = omega (arith, ap length (no_nets (λ x. instance_declaration x.0) (λ x. refl) all), flat-count (λ x. names_in_conns x.1) call_size all (λ x. omega (arith, conns-count x.1)))
body-count (Always r) = omega arith

items-count : (items : List PlainItem) → length (flat_map (λ item. nets_declared_by item.body) items) + length (flat_map (λ item. implicit_places item.body) items) ≤ sum_by (λ item. item_size item.body) items
items-count [] = omega arith
items-count (item ∷ items) = rw (length-append, length-append, sum_by-cons (λ x. item_size x.body) item items) (omega (arith, body-count item.body, items-count items))

filter-count : {A : Type 0} (p : A → Bool) (xs : List A) → length (filter p xs) ≤ length xs
filter-count p [] = omega arith
filter-count p (x ∷ xs) = by (p x) (filter-count p xs)
  where
    by : (b : Bool) → length (filter p xs) ≤ length xs → length (cond b (x ∷ filter p xs) (filter p xs)) ≤ length (x ∷ xs)
    by true rest = omega (arith, rest)
    by false rest = omega (arith, rest)

once-count : (xs : List (List ℕ)) → length (once xs) ≤ length xs
once-count [] = omega arith
once-count (x ∷ xs) = omega (arith, filter-count (λ y. not (same_name x y)) (once xs), once-count xs)

heads-count : (heads : List PlainHead) → length (names_of_nets (flat_map declared_by_head heads)) ≤ length heads
heads-count [] = omega arith
heads-count (h ∷ hs) = by h.decl refl (heads-count hs)
  where
    by : (o : Option Port) → h.decl ≡ o → length (names_of_nets (flat_map declared_by_head hs)) ≤ length hs → length (names_of_nets (declared_by_head h ++ flat_map declared_by_head hs)) ≤ length (h ∷ hs)
    by None e rest = rw e (omega (arith, rest))
    by (Some port) e rest = rw e (omega (arith, rest))

pub nets-count : (m : PlainModule) → length (net_names m) ≤ 2 * module_size m
nets-count m =
    let heads = map (λ head. head.name) m.heads in
    let ports = flat_map declared_by_head m.heads in
    let items = flat_map (λ item. declared_by item.body) m.items in
    omega (
      arith,
      once-count (heads ++ names_of_nets (ports ++ items) ++ implicit_names m),
      length-append (heads ++ names_of_nets (ports ++ items)) (implicit_names m),
      length-append heads (names_of_nets (ports ++ items)),
      length-map m.heads (λ head. head.name),
      ap length (nets-append ports items),
      length-append (names_of_nets ports) (names_of_nets items),
      ap length (nets-flat m.items),
      heads-count m.heads,
      filter-count (λ n. not (is_declared m n)) (flat_map (λ item. implicit_places item.body) m.items),
      items-count m.items,
    )

-- in a source, by its size
pub member-size : (size : PlainModule → ℕ) (prefix back : List PlainModule) (m : PlainModule) → size m ≤ sum_by size (prefix ++ m ∷ back)
member-size size [] back m = rw (sum_by-cons size m back) (omega arith)
member-size size (x ∷ prefix) back m = rw (sum_by-cons size x (prefix ++ m ∷ back)) (omega (arith, member-size size prefix back m))

pub few_nets : (m : PlainModule) (prefix back : List PlainModule) → source_size (prefix ++ m ∷ back) ≤ 33554432 → length (net_names m) < 2 ^ 32
few_nets m prefix back small = omega (arith, nets-count m, member-size (λ x. 2 + module_size x) prefix back m, small)
