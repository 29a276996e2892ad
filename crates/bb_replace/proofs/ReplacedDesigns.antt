-- What else stays with modules in place of boxes: well-formed text, hierarchy, depth, and the texts of ports and
-- registers; the boxes that are left are those for which there is no module.
use Rattle.std.proofs.Common.{◌≡◌, ℕ, ◌<◌, Bool, true, false, List, [], ◌∷◌, ◌++◌, map, length, filter, All, Contains, Option, Some, None, inl, inr, refl, sym, ap, ap₂, ◌∙◌, subst, arith}
use Rattle.std.specs.List.{AllByRecursion}
use Rattle.std.proofs.lemmas.List.Elements.{All-contains}
use Rattle.bb_ast.specs.Inside.Formed.{IsFormed}
use Rattle.bb_ast.specs.Syntax.{PlainModule}
use Rattle.bb_bits.specs.Closures.{Leads}
use Rattle.bb_names.specs.Faults.{IsSound}
use Rattle.bb_names.specs.Nets.{is_empty}
use Rattle.bb_names.specs.Sites.{module_named}
use Rattle.bb_lemmas.proofs.Members.{all_from, contains-map, contains_here, contains_there, each_of, from_find, from_map}
use Rattle.bb_design.specs.Hierarchy.{Design, Instance, Scope, instances, instantiations, is_box, is_top, root, scopes, too_low}
use Rattle.bb_design.specs.Inside.Allowed.{IsBounded}
use Rattle.bb_design.specs.Refusals.{IsHierarchy, IsReached, IsShallow, IsSmallDesign}
use Rattle.bb_design.specs.Registers.{registers}
use Rattle.bb_design.specs.Texts.{bit_text}
use Rattle.bb_design.specs.NetBits.{top_inputs, top_outputs}
use Rattle.bb_replace.specs.Laws.{KeepsInterface}
use Rattle.bb_replace.specs.Laws.Replacement.{AllMayReplace, StandsAlone, is_unfinished, replaced, replaced_design}
use Rattle.bb_replace.proofs.ReplacedFaults.{replaced_sound}
use Rattle.bb_replace.proofs.ReplacedModules.{Place, Stays, Goes, place_for, same_instances, same_named}
use Rattle.bb_replace.proofs.ReplacedRegisters.{Below, registers_same, source_there}
use Rattle.bb_replace.proofs.ReplacedScopes.{below_same, changed, scopes_same}
use Rattle.bb_replace.proofs.ReplacedWorlds.{input_text, inputs_stay, map_within, output_text, outputs_stay, register_text}

-- by recursion, of a list that is made from another

listed : {A : Type 0} (P : A → Type 0) (xs : List A) → ((x : A) → Contains xs x → P x) → AllByRecursion P xs
listed P [] all = tt
listed P (x ∷ xs) all = (all x (contains_here x xs), listed P xs (λ y has. all y (contains_there x xs y has)))

formed_with : (modules text : List PlainModule) → ((m : PlainModule) (n : List ℕ) → module_named modules n ≡ Some m → IsFormed m) → AllByRecursion IsFormed text → AllByRecursion IsFormed (map (replaced modules) text)
formed_with modules text new old = listed IsFormed (map (replaced modules) text) each
  where
    each : (x : PlainModule) → Contains (map (replaced modules) text) x → IsFormed x
    each x has = let m = from_map (replaced modules) text x has in subst IsFormed m.2 (by m.0 m.1 (place_for modules m.0))
      where
        by : (m : PlainModule) → Contains text m → Place modules m → IsFormed (replaced modules m)
        by m there (Stays e) = subst IsFormed (sym e) (each_of IsFormed text old m there)
        by m there (Goes n e f g) = subst IsFormed (sym g) (new n m.name f)

instances_same : (modules : List PlainModule) (d : Design) → AllMayReplace modules d.text → Contains d.text d.top → instances (replaced_design modules d) ≡ map (changed modules) (instances d)
instances_same modules d may top = below_same too_low modules d.text may (root d) top

shallow_with : (modules : List PlainModule) (d : Design) → AllMayReplace modules d.text → Contains d.text d.top → IsShallow d → IsShallow (replaced_design modules d)
shallow_with modules d may top shallow = subst (All (λ s. length s.path < too_low)) (sym (instances_same modules d may top)) (all_from (λ s. length s.path < too_low) (map (changed modules) (instances d)) each)
  where
    each : (s : Scope) → Contains (map (changed modules) (instances d)) s → length s.path < too_low
    each s has =
        let t = from_map (changed modules) (instances d) s has in
        subst (λ (z : Scope). length z.path < too_low) t.2 (All-contains (λ (z : Scope). length z.path < too_low) (instances d) t.0 shallow t.1)

-- what comes in the place of a module stands alone
pub standing : (modules : List PlainModule) → All StandsAlone modules → (m : PlainModule) (n : List ℕ) → module_named modules n ≡ Some m → StandsAlone m
standing modules all m n named = All-contains StandsAlone modules m all (from_find _ modules m named).0

pub texts_sound : (modules text : List PlainModule) → AllMayReplace modules text → All StandsAlone modules → IsSound text → IsSound (map (replaced modules) text)
texts_sound modules text may all quiet = replaced_sound modules text may (λ m n named. (standing modules all m n named).bounded.faultless) quiet

pub bounded_with : (modules : List PlainModule) (d : Design) → AllMayReplace modules d.text → All StandsAlone modules → IsBounded d → IsSmallDesign (replaced_design modules d) → IsBounded (replaced_design modules d)
bounded_with modules d may all bounded small = record {
  formed = formed_with modules d.text (λ m n named. (standing modules all m n named).bounded.formed.0) bounded.formed;
  faultless = texts_sound modules d.text may all bounded.faultless;
  top = contains-map (replaced modules) d.text d.top bounded.top;
  shallow = shallow_with modules d may bounded.top bounded.shallow;
  small = small;
}

-- which module instantiates which

calls_same : (modules text whole : List PlainModule) → AllMayReplace modules whole → ((m : PlainModule) → Contains text m → Contains whole m) → instantiations (map (replaced modules) text) ≡ instantiations text
calls_same modules [] whole may there = refl
calls_same modules (m ∷ text) whole may there =
    ap₂ (λ a b. a ++ b)
    (ap₂ (λ n l. map (λ (i : Instance). (n, i.target)) l) (same_named modules m) (same_instances modules whole may m (there m (contains_here m text))))
    (calls_same modules text whole may (λ x has. there x (contains_there m text x has)))

hierarchy_with : (modules : List PlainModule) (d : Design) → AllMayReplace modules d.text → IsHierarchy d → IsHierarchy (replaced_design modules d)
hierarchy_with modules d may has =
    (has.0, subst (All (λ x. IsReached (replaced_design modules d) x.0 → has.0 x.1 < has.0 x.0)) (sym same) (all_from (λ x. IsReached (replaced_design modules d) x.0 → has.0 x.1 < has.0 x.0) (instantiations d.text) (λ x h reached. All-contains (λ x. IsReached d x.0 → has.0 x.1 < has.0 x.0) (instantiations d.text) x has.1 h (back x.0 reached))))
  where
    same : instantiations (map (replaced modules) d.text) ≡ instantiations d.text
    same = calls_same modules d.text d.text may (λ m h. h)

    back : (n : List ℕ) → IsReached (replaced_design modules d) n → IsReached d n
    back n (inl e) = inl (sym (same_named modules d.top) ∙ e)
    back n (inr walk) = inr (subst (λ l. Leads l d.top.name n) same (subst (λ z. Leads (instantiations (map (replaced modules) d.text)) z n) (same_named modules d.top) walk))

-- the boxes that are left

boxes_left : (modules text : List PlainModule) → AllMayReplace modules text → (ss : List Scope) → ((s : Scope) → Contains ss s → Contains text s.source) → filter is_box (map (changed modules) ss) ≡ filter (is_unfinished modules) (filter is_box ss)
boxes_left modules text may [] there = refl
boxes_left modules text may (s ∷ ss) there = by (is_empty s.source) (module_named modules s.source.name) refl refl (boxes_left modules text may ss (λ t has. there t (contains_there s ss t has)))
  where
    by : (b : Bool) (o : Option PlainModule) → is_empty s.source ≡ b → module_named modules s.source.name ≡ o → filter is_box (map (changed modules) ss) ≡ filter (is_unfinished modules) (filter is_box ss)
        → filter is_box (map (changed modules) (s ∷ ss)) ≡ filter (is_unfinished modules) (filter is_box (s ∷ ss))
    by false o e f rest = grind (arith, e, f, rest)
    by true None e f rest = top (is_top s.path) refl
      where
        top : (b : Bool) → is_top s.path ≡ b → filter is_box (map (changed modules) (s ∷ ss)) ≡ filter (is_unfinished modules) (filter is_box (s ∷ ss))
        top true g = grind (arith, e, f, g, rest)
        top false g = grind (arith, e, f, g, rest)
    by true (Some n) e f rest = top (is_top s.path) refl
      where
        contents : is_empty n ≡ false
        contents = (may s.source n (there s (contains_here s ss)) e f).not_empty

        top : (b : Bool) → is_top s.path ≡ b → filter is_box (map (changed modules) (s ∷ ss)) ≡ filter (is_unfinished modules) (filter is_box (s ∷ ss))
        top true g = grind (arith, e, f, g, rest, contents)
        top false g = grind (arith, e, f, g, rest, contents)

pub keeps_interface : (modules : List PlainModule) (d : Design) → Below d → AllMayReplace modules d.text → KeepsInterface modules d
keeps_interface modules d laws may = record {
  inputs = inputs_stay modules d laws may;
  outputs = outputs_stay modules d laws may;
  registers = registers_same modules d laws may;
  input_names = ap (map (bit_text (replaced_design modules d))) (inputs_stay modules d laws may) ∙ map_within (bit_text (replaced_design modules d)) (bit_text d) (top_inputs d) (input_text modules d laws may);
  output_names = ap (map (bit_text (replaced_design modules d))) (outputs_stay modules d laws may) ∙ map_within (bit_text (replaced_design modules d)) (bit_text d) (top_outputs d) (output_text modules d laws may);
  register_names = ap (map (λ r. bit_text (replaced_design modules d) r.bit)) (registers_same modules d laws may) ∙ map_within (λ r. bit_text (replaced_design modules d) r.bit) (λ r. bit_text d r.bit) (registers d) (register_text modules d laws may);
  boxes = ap (filter is_box) (scopes_same modules d may laws.top) ∙ boxes_left modules d.text may (scopes d) (source_there d laws);
  hierarchy = hierarchy_with modules d may;
}
