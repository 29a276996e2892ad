-- In a text without faults modules have different names, and what is instantiated is a module of the text.
use Rattle.std.proofs.Common.{◌≡◌, ◌≢◌, ℕ, Bool, true, false, cond, is_none, Some, List, [], ◌∷◌, ◌++◌, map, flat_map, AllPairs, Contains, refl, sym, ap, ◌∙◌, subst, arith, true≢false, append_assoc, append-nil}
use Rattle.std.proofs.lemmas.List.{map-append}
use lib.Pointwise.{bytes_decides}
use Rattle.bb_bits.specs.Names.{same_name}
use Rattle.bb_ast.specs.Syntax.{PlainBody, Ports, Nets, Regs, Supply, Assign, Gates, Calls, Always, PlainItem, PlainModule}
use Rattle.bb_names.specs.declared.fault.NameFault.{NameFault}
use Rattle.bb_names.specs.declared.fault.NameFault.TheVariants as name_faults
use Rattle.bb_names.specs.Faults.{Rows, twice, unknown, kinds, statement_faults, module_faults}
use Rattle.bb_names.specs.Sites.{Site, ModuleName, Target, header_sites, item_sites, module_named}
use Rattle.bb_bits.specs.Earlier.{each_from}
use Rattle.bb_design.specs.Hierarchy.{Instance, instance_of, instances_in, instances_of, instantiations}
use Rattle.bb_design.specs.Laws.HierarchyLaws.{SoundTextsHaveModulesApart, SoundTextsHaveTargets}
use Rattle.bb_lemmas.proofs.Members.{from_flat, from_map, all_from, none_of, left_nil, right_nil, flat_nil, map_nil, contains_here, contains_there, none_in_nil}
use Rattle.bb_lemmas.proofs.Apart.{push_name}
use Rattle.bb_design.proofs.SoundConstructs.{not_reported, site_sound}

abbrev module_names : List PlainModule → List (List ℕ)
module_names ms = map (λ m. m.name) ms

modules_apart : (text before ms : List PlainModule) → each_from (module_faults text) before ms ≡ [] → AllPairs ◌≢◌ (module_names before) → AllPairs ◌≢◌ (module_names (before ++ ms))
modules_apart text before [] e apart = subst (λ l. AllPairs ◌≢◌ (module_names l)) (sym (append-nil before)) apart
modules_apart text before (m ∷ ms) e apart =
    let here = left_nil (module_faults text before m) _ e in
    let header = left_nil (statement_faults text m m.line (header_sites before m)) _ here in
    let rows = map_nil (name_faults.Twice m.line) (flat_map (twice text m) (header_sites before m)) (flat_nil (λ (x : (ℕ → List ℕ → NameFault) × Rows). map (x.0 m.line) (flat_map (x.1 text m) (header_sites before m))) kinds header (name_faults.Twice, twice) (0, omega arith, refl)) in
    let new = not_reported _ m.name (flat_nil (twice text m) (header_sites before m) rows (ModuleName before m.name) (0, omega arith, refl)) in
    let next : AllPairs ◌≢◌ (module_names (before ++ m ∷ [])) = subst (AllPairs ◌≢◌) (sym (map-append (λ (x : PlainModule). x.name) before (m ∷ [])))
    (push_name (module_names before) m.name apart (λ k has same. true≢false (sym ((bytes_decides m.name k).1 (sym same)) ∙ none_of (same_name m.name) (module_names before) new k has))) in
    subst (λ l. AllPairs ◌≢◌ (module_names l)) (append_assoc before (m ∷ []) ms) (modules_apart text (before ++ m ∷ []) ms (right_nil (module_faults text before m) _ e) next)

pub sound_texts_have_modules_apart : SoundTextsHaveModulesApart
sound_texts_have_modules_apart text sound = modules_apart text [] text sound (λ i j d less within. absurd (omega (arith, within)))

-- a name by which a module is found is the name of one
found_name : (ms : List PlainModule) (n : List ℕ) → is_none (module_named ms n) ≡ false → Contains (module_names ms) n
found_name [] n e = absurd (true≢false e)
found_name (m ∷ ms) n e = by (same_name m.name n) refl e (found_name ms n)
  where
    by : (b : Bool) → same_name m.name n ≡ b → is_none (cond b (Some m) (module_named ms n)) ≡ false → (is_none (module_named ms n) ≡ false → Contains (module_names ms) n) → Contains (module_names (m ∷ ms)) n
    by true same h rest = subst (Contains (module_names (m ∷ ms))) ((bytes_decides m.name n).0 same) (contains_here m.name (module_names ms))
    by false other h rest = contains_there m.name (module_names ms) n (rest h)

-- what an item without faults instantiates is a module
body_target : (text : List PlainModule) (m : PlainModule) (earlier : List _) (body : PlainBody) → ((z : Site) → Contains (item_sites text earlier body) z → unknown text m z ≡ [])
    → (i : Instance) → Contains (instances_in body) i → Contains (module_names text) i.target
body_target text m earlier (Ports port names) sound i has = absurd (none_in_nil i has)
body_target text m earlier (Nets range nets) sound i has = absurd (none_in_nil i has)
body_target text m earlier (Regs range names) sound i has = absurd (none_in_nil i has)
body_target text m earlier (Supply high range names) sound i has = absurd (none_in_nil i has)
body_target text m earlier (Assign all) sound i has = absurd (none_in_nil i has)
body_target text m earlier (Gates gate all) sound i has = absurd (none_in_nil i has)
body_target text m earlier (Calls target calls) sound i has =
    let x = from_map (instance_of target) calls i has in
    subst (Contains (module_names text)) (ap (λ (j : Instance). j.target) x.2) (found_name text target (not_reported _ target (sound (Target target) (0, omega arith, refl))))
body_target text m earlier (Always r) sound i has = absurd (none_in_nil i has)

pub sound_texts_have_targets : SoundTextsHaveTargets
sound_texts_have_targets text sound = all_from (λ x. Contains (module_names text) x.1) (instantiations text) (λ x has.
    let m = from_flat _ text x has in
    let i = from_map _ (instances_of m.0) x m.2 in
    let item = from_flat (λ (item : PlainItem). instances_in item.body) m.0.items i.0 i.1 in
    let sound_item = site_sound text sound m.0 m.1 item.0 item.1 in
    subst (Contains (module_names text)) (ap (λ z. z.1) i.2)
    (body_target text m.0 sound_item.0 item.0.body (λ z at. sound_item.1 z at (name_faults.Unknown, unknown) (1, omega arith, refl)) i.0 item.2))
