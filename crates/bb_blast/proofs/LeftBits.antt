-- The bits of left sides by their numbers.
use Rattle.std.proofs.Common.{◌≡◌, ℕ, ◌+◌, ◌<◌, ◌≤◌, List, [], ◌∷◌, ◌++◌, map, length, Some, refl, sym, ap, ◌∙◌, subst, arith, Vec, Global}
use Rattle.std.specs.Prelude.{All, slice_get}
use Rattle.std.specs.List.{AllByRecursion, flat_map, range_with_len, slice_index_or}
use Rattle.std.specs.Map.{lookup}
use Rattle.std.proofs.lemmas.List.{length-map}
use Rattle.std.proofs.lemmas.List.Elements.{All-from_recursion, recursion_from_All}
use Rattle.std.proofs.lemmas.Option.{slice_get_within, get_or_from_slice_get, same_Some}
use Rattle.bb_bits.specs.Names.{same_name}
use Rattle.bb_ast.specs.declared.expr.Expr.{Expr}
use Rattle.bb_ast.specs.declared.expr.Expr as of
use Rattle.bb_ast.specs.declared.expr.Expr.TheFolds.{fold_out-Expr}
use Rattle.bb_ast.specs.declared.expr.Expr.TheVariants.{outs-Net, outs-Bit, outs-Part, outs-Concat}
use Rattle.bb_ast.specs.Laws.FoldLaws.{sees_parts}
use Rattle.bb_ast.specs.Folds.{of_parts}
use Rattle.bb_ast.specs.Syntax.{Expression, Net, Bit, Part, Concat, listed_parts, PlainModule}
use Rattle.bb_ast.specs.Inside.Views.{layer, expression}
use Rattle.bb_names.specs.Inside.Checked.{ModuleFacts, syntax, HasNets}
use Rattle.bb_names.specs.Nets.{nets_of}
use Rattle.bb_names.specs.Ranges.{range_width}
use Rattle.bb_expr.specs.Inside.Fit.{HasNet, IsFit, AreFit, ranges_in}
use Rattle.bb_expr.specs.Inside.Occurrences.{gathering, expressions_in}
use Rattle.bb_design.specs.Hierarchy.{Scope}
use Rattle.bb_design.specs.NetBits.{Bit as NetBit, bits_from, bits_of_net, assigned, written_bits}
use Rattle.bb_blast.specs.Inside.ModuleTemplates.{AreBitsIn, net_start}
use Rattle.bb_bits.specs.Inside.Places.{AreAt}
use Rattle.bb_blast.specs.Inside.BitBlasting.{AreStarts}
use Rattle.bb_blast.proofs.NetNumbers.{at_both, run_at, net_fits}

module _ (m : ModuleFacts) (starts : List ℕ) (nets : HasNets m) (are : AreStarts m.nets starts) (n : List ℕ) (has : HasNet m n) (k : ℕ) (kept : lookup (same_name n) m.index ≡ Some k) where
  net_there : slice_get m.nets k ≡ Some has.net
  net_there = ap (slice_get m.nets) (same_Some k has.place (sym kept ∙ has.kept)) ∙ has.there

  start-is : slice_index_or starts k 0 ≡ net_start m.nets k
  start-is = get_or_from_slice_get starts k (net_start m.nets k) 0 (are.each k (slice_get_within m.nets k has.net net_there))

  width-is : range_width has.net.range ≡ range_width (ranges_in m n)
  width-is = ap range_width has.range

  pub start_there : k < length starts
  start_there = slice_get_within starts k (net_start m.nets k) (are.each k (slice_get_within m.nets k has.net net_there))

  pub start_fits : slice_index_or starts k 0 + range_width (ranges_in m n) ≤ 1000000
  start_fits = omega (arith, start-is, width-is, net_fits m.nets k has.net net_there, are.few)

  pub bits_at : (place count : ℕ) → place + count ≤ range_width (ranges_in m n) → AreBitsIn (syntax m) (range_with_len (slice_index_or starts k 0 + place) count) (λ s. bits_from s.path n place count)
  bits_at place count within path =
      let here = run_at path m.nets k has.net (slice_index_or starts k 0 + place) place count net_there (ap (λ i. i + place) start-is) (omega (arith, width-is, within)) in
      let named = subst (λ (x : List ℕ). AreAt (flat_map (bits_of_net path) m.nets) (range_with_len (slice_index_or starts k 0 + place) count) (bits_from path x place count)) has.name here in
      subst (λ l. AreAt (flat_map (bits_of_net path) l) (range_with_len (slice_index_or starts k 0 + place) count) (bits_from path n place count)) nets.nets named

-- numbers side by side
pub bits_both : (m : PlainModule) (a b : List ℕ) (f g : Scope → List NetBit) → AreBitsIn m a f → AreBitsIn m b g → AreBitsIn m (a ++ b) (λ s. f s ++ g s)
bits_both m a b f g p q path = at_both (flat_map (bits_of_net path) (nets_of m)) a b (f (record { path = path; source = m })) (g (record { path = path; source = m })) (p path) (q path)

-- what an expression of the code says
pub expression-net : (e : Expr) (n : List ℕ) → e ≡ of.Net n → expression e ≡ Net n
expression-net e n is = rw (fold_out-Expr Expression layer e, is, outs-Net n) refl

pub expression-bit : (e : Expr) (n : List ℕ) (i : ℕ) → e ≡ of.Bit n i → expression e ≡ Bit n i
expression-bit e n i is = rw (fold_out-Expr Expression layer e, is, outs-Bit n i) refl

pub expression-part : (e : Expr) (n : List ℕ) (i j : ℕ) → e ≡ of.Part n i j → expression e ≡ Part n i j
expression-part e n i j is = rw (fold_out-Expr Expression layer e, is, outs-Part n i j) refl

pub expression-concat : (e : Expr) (all : Vec Expr Global) → e ≡ of.Concat all → expression e ≡ Concat (listed_parts (map expression all.items))
expression-concat e all is = rw (fold_out-Expr Expression layer e, is, outs-Concat all) refl

flat-mapped : {A B C : Type 0} (g : B → List C) (v : A → B) (xs : List A) → flat_map g (map v xs) ≡ flat_map (λ x. g (v x)) xs
flat-mapped g v [] = refl
flat-mapped g v (x ∷ xs) = ap (λ l. g (v x) ++ l) (flat-mapped g v xs)

pub written-concat : (s : Scope) (all : List Expression) → written_bits s (Concat (listed_parts all)) ≡ flat_map (written_bits s) all
written-concat s all = ap (flat_map (λ bits. bits)) (sees_parts (λ x a. a) (assigned s) all) ∙ flat-mapped (λ bits. bits) (written_bits s) all

-- what is in a concatenation is fit
module _ (m : ModuleFacts) where
  prefix : (xs ys : List Expression) → AllByRecursion (IsFit m) (xs ++ ys) → AllByRecursion (IsFit m) xs
  prefix [] ys h = tt
  prefix (x ∷ xs) ys h = (h.0, prefix xs ys h.1)

  back : (xs ys : List Expression) → AllByRecursion (IsFit m) (xs ++ ys) → AllByRecursion (IsFit m) ys
  back [] ys h = h
  back (x ∷ xs) ys h = back xs ys h.1

  pub fit_here : (e : Expression) → AreFit m e → IsFit m e
  fit_here e fit = (recursion_from_All (IsFit m) (expressions_in e) fit.each).0

  parts_each : (xs : List Expression) → AllByRecursion (IsFit m) (flat_map (λ e. e) (of_parts (λ x all. x ∷ all) gathering (listed_parts xs))) → AllByRecursion (AreFit m) xs
  parts_each [] h = tt
  parts_each (x ∷ xs) h = (record { each = All-from_recursion (IsFit m) (expressions_in x) (prefix (expressions_in x) _ h) }, parts_each xs (back (expressions_in x) _ h))

  pub fit_parts : (xs : List Expression) → AreFit m (Concat (listed_parts xs)) → All (AreFit m) xs
  fit_parts xs fit = All-from_recursion (AreFit m) xs (parts_each xs (recursion_from_All (IsFit m) (expressions_in (Concat (listed_parts xs))) fit.each).1)

pub bits_same : (m : PlainModule) (numbers : List ℕ) (f g : Scope → List NetBit) → ((s : Scope) → f s ≡ g s) → AreBitsIn m numbers f → AreBitsIn m numbers g
bits_same m numbers f g same are path = are path ∙ ap (map Some) (same (record { path = path; source = m }))

-- there are as many numbers as bits
pub bits_long : (m : PlainModule) (numbers : List ℕ) (f : Scope → List NetBit) → AreBitsIn m numbers f → length numbers ≡ length (f (record { path = []; source = m }))
bits_long m numbers f are =
    let bits = f (record { path = []; source = m }) in
    sym (length-map numbers (slice_get (flat_map (bits_of_net []) (nets_of m)))) ∙ ap length (are []) ∙ length-map bits Some

pub bits_none : (m : PlainModule) (numbers : List ℕ) → numbers ≡ [] → AreBitsIn m numbers (λ s. [])
bits_none m numbers none path = ap (map (slice_get (flat_map (bits_of_net path) (nets_of m)))) none
