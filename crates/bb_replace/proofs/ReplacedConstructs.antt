-- Constructs of a module are the same where modules are replaced: they ask of other modules for their pins alone.
use Rattle.std.proofs.Common.{◌≡◌, ℕ, Bool, true, false, List, [], ◌∷◌, ◌++◌, map, option_map, Option, Some, None, refl, sym, ap, ap₂, ◌∙◌, arith}
use Rattle.std.specs.List.{enumerate_from, flat_map}
use Rattle.bb_ast.specs.Syntax.{PlainConns, Order, Named, PlainBody, Ports, Nets, Regs, Supply, Assign, Gates, Calls, Always, PlainItem, PlainModule}
use Rattle.bb_names.specs.Sites.{module_named, pin_at, pin_named}
use Rattle.bb_lemmas.proofs.Members.{from_find, left_nil, map_nil, right_nil}
use Rattle.bb_design.specs.Constructs.{body_constructs, connection, connections, constructs_at}
use Rattle.bb_design.specs.Hierarchy.{Scope, instance_of, instances_in, instances_of, is_box}
use Rattle.bb_replace.specs.Laws.Replacement.{AllMayReplace, MayReplace, replaced}
use Rattle.bb_replace.proofs.ReplacedModules.{Place, Stays, Goes, place_for, named}
use Rattle.bb_replace.proofs.ReplacedPorts.{flat_same, same_pin, same_pin_at}

same_conns : (e m : PlainModule) → MayReplace e m → (call : List ℕ × PlainConns) → connections (Some m) call ≡ connections (Some e) call
same_conns e m may (i, Order places) = flat_same (λ x. connection i (pin_at m x.0) x.1) (λ x. connection i (pin_at e x.0) x.1) (λ x. ap (λ pin. connection i pin x.1) (same_pin_at e m may x.0)) (enumerate_from 0 places)
same_conns e m may (i, Named all) = flat_same (λ x. connection i (pin_named m x.0) x.1) (λ x. connection i (pin_named e x.0) x.1) (λ x. ap (λ pin. connection i pin x.1) (same_pin e m may x.0)) all

same_connections : (modules text : List PlainModule) → AllMayReplace modules text → (target : List ℕ) (call : List ℕ × PlainConns) → connections (module_named (map (replaced modules) text) target) call ≡ connections (module_named text target) call
same_connections modules text may target call = ap (λ o. connections o call) (named modules text target) ∙ by (module_named text target) refl
  where
    by : (o : Option PlainModule) → module_named text target ≡ o → connections (option_map (replaced modules) o) call ≡ connections o call
    by None e = refl
    by (Some t) e = which (place_for modules t)
      where
        which : Place modules t → connections (Some (replaced modules t)) call ≡ connections (Some t) call
        which (Stays f) = ap (λ m. connections (Some m) call) f
        which (Goes n empty f g) = ap (λ m. connections (Some m) call) g ∙ same_conns t n (may t n (from_find _ text t e).0 empty f) call

pub same_body : (modules text : List PlainModule) → AllMayReplace modules text → (body : PlainBody) → body_constructs (map (replaced modules) text) body ≡ body_constructs text body
same_body modules text may (Ports port names) = refl
same_body modules text may (Nets range nets) = refl
same_body modules text may (Regs range names) = refl
same_body modules text may (Supply high range names) = refl
same_body modules text may (Assign all) = refl
same_body modules text may (Gates gate all) = refl
same_body modules text may (Calls target all) = flat_same (connections (module_named (map (replaced modules) text) target)) (connections (module_named text target)) (same_connections modules text may target) all
same_body modules text may (Always a) = refl

-- a module that stays has its constructs
pub same_constructs : (modules text : List PlainModule) → AllMayReplace modules text → (s : Scope) → constructs_at (map (replaced modules) text) s ≡ constructs_at text s
same_constructs modules text may s = by (is_box s) refl
  where
    by : (b : Bool) → is_box s ≡ b → constructs_at (map (replaced modules) text) s ≡ constructs_at text s
    by true e = grind (arith, e)
    by false e = grind (arith, e, flat_same (λ (item : PlainItem). body_constructs (map (replaced modules) text) item.body) (λ item. body_constructs text item.body) (λ item. same_body modules text may item.body) s.source.items)

-- one without instances has the same constructs in each text

free_body : (text other : List PlainModule) (body : PlainBody) → instances_in body ≡ [] → body_constructs text body ≡ body_constructs other body
free_body text other (Ports port names) e = refl
free_body text other (Nets range nets) e = refl
free_body text other (Regs range names) e = refl
free_body text other (Supply high range names) e = refl
free_body text other (Assign all) e = refl
free_body text other (Gates gate all) e = refl
free_body text other (Calls target all) e =
    let none = map_nil (instance_of target) all e in
    ap (flat_map (connections (module_named text target))) none ∙ sym (ap (flat_map (connections (module_named other target))) none)
free_body text other (Always a) e = refl

free_items : (text other : List PlainModule) (items : List PlainItem) → flat_map (λ item. instances_in item.body) items ≡ [] → flat_map (λ item. body_constructs text item.body) items ≡ flat_map (λ item. body_constructs other item.body) items
free_items text other [] e = refl
free_items text other (i ∷ items) e =
    ap₂ (λ a b. a ++ b) (free_body text other i.body (left_nil (instances_in i.body) (flat_map (λ item. instances_in item.body) items) e))
    (free_items text other items (right_nil (instances_in i.body) (flat_map (λ item. instances_in item.body) items) e))

pub free_constructs : (text other : List PlainModule) (s : Scope) → instances_of s.source ≡ [] → constructs_at text s ≡ constructs_at other s
free_constructs text other s none = by (is_box s) refl
  where
    by : (b : Bool) → is_box s ≡ b → constructs_at text s ≡ constructs_at other s
    by true e = grind (arith, e)
    by false e = grind (arith, e, free_items text other s.source.items none)
