-- A design with modules that stand alone in place of boxes is refused for nothing but its size: cause by cause.
use Rattle.std.proofs.Common.{◌≡◌, ℕ, Bool, true, false, List, [], ◌∷◌, map, filter, All, Contains, Some, refl, sym, subst, arith}
use Rattle.bb_ast.specs.Syntax.{PlainModule}
use Rattle.bb_bits.specs.Closures.{IsDistinct}
use Rattle.bb_names.specs.Nets.{is_empty}
use Rattle.bb_names.specs.Sites.{module_named}
use Rattle.bb_lemmas.proofs.Members.{contains-map, from_map, kept_from}
use Rattle.bb_design.specs.Hierarchy.{Design, Scope, boxes, scopes}
use Rattle.bb_design.specs.Inside.Allowed.{IsAllowed, IsBounded}
use Rattle.bb_design.specs.Laws.DesignLaws.{DesignLaws}
use Rattle.bb_design.specs.Laws.{BitsAreThere}
use Rattle.bb_design.specs.Refusals.{AreDistinctTexts, AreDriven, AreDrivenOnce, IsAcyclic, BoxTexts, Cycle, Depth, IsSmallDesign, IsSoundDesign, NoDriver, PortTexts, Recursion, RegisterTexts, Size, TwoDrivers, box_paths}
use Rattle.bb_design.specs.Texts.{path_text}
use Rattle.bb_replace.specs.Laws.Replacement.{AllMayReplace, StandsAlone, alone, is_unfinished, replaced_design}
use Rattle.bb_replace.proofs.DrivenOnce.{HavePortsAlone, driven_once}
use Rattle.bb_replace.proofs.EmptyPorts.{ports_alone}
use Rattle.bb_replace.proofs.NoLoops.{no_loops}
use Rattle.bb_replace.proofs.ReadBits.{IsWhole, driven_reads}
use Rattle.bb_replace.proofs.ReplacedDesigns.{bounded_with, keeps_interface, standing}
use Rattle.bb_replace.proofs.ReplacedDrivers.{from_distinct, to_distinct}
use Rattle.bb_replace.proofs.ReplacedModules.{combinational_has_none}
use Rattle.bb_replace.proofs.ReplacedRegisters.{Below, below, source_there}

-- some of a list without repetition
filtered_apart : {A : Type 0} (f : A → List ℕ) (test : A → Bool) (xs : List A) → IsDistinct (map f xs) → IsDistinct (map f (filter test xs))
filtered_apart f test [] distinct = tt
filtered_apart f test (x ∷ xs) distinct = by (test x) refl (filtered_apart f test xs distinct.1)
  where
    by : (b : Bool) → test x ≡ b → IsDistinct (map f (filter test xs)) → IsDistinct (map f (filter test (x ∷ xs)))
    by false e rest = subst (λ l. IsDistinct (map f l)) {x = filter test xs} (grind (arith, e)) rest
    by true e rest = subst (λ l. IsDistinct (map f l)) {x = x ∷ filter test xs} (grind (arith, e)) (fresh, rest)
      where
        fresh : Contains (map f (filter test xs)) (f x) → ⊥
        fresh has =
            let y = from_map f (filter test xs) (f x) has in
            distinct.0 (subst (Contains (map f xs)) y.2 (contains-map f xs y.0 (kept_from test xs y.0 y.1).0))

module _ (laws : DesignLaws) (modules : List PlainModule) (d : Design) (may : AllMayReplace modules d.text) (all : All StandsAlone modules) (stands : is_empty d.top ≡ false) (allowed : IsAllowed d) (small : IsSmallDesign (replaced_design modules d)) where
  abbrev new : Design
  new = replaced_design modules d

  mine : Below d
  mine = below laws d allowed.bounded

  bounded : IsBounded new
  bounded = bounded_with modules d may all allowed.bounded small

  ports : HavePortsAlone d
  ports s has empty b here = ports_alone d.text allowed.bounded.faultless laws.sound_sites s.source (source_there d mine s has) empty s.path b here

  whole : (s : Scope) → Contains (scopes d) s → is_empty s.source ≡ true → (m : PlainModule) → module_named modules s.source.name ≡ Some m → IsWhole m
  whole s has empty m named =
      let is = standing modules all m s.source.name named in
      let fits = may s.source m (source_there d mine s has) empty named in
      record {
        is = record { instances = combinational_has_none m.items fits.combinational; there = laws.bits_there (alone m) is.bounded; once = is.once };
        reads = is.driven;
      }

  bits : BitsAreThere d
  bits = laws.bits_there d allowed.bounded

  once : AreDrivenOnce new
  once = driven_once modules d mine may laws.found bits ports stands (λ s has empty m named. (whole s has empty m named).is) (laws.distinct new bounded.faultless bounded.top) (allowed.sound TwoDrivers)

  reads : AreDriven new
  reads = driven_reads modules d mine may laws.found bits ports stands (allowed.sound TwoDrivers) (allowed.sound NoDriver) whole

  acyclic : IsAcyclic new
  acyclic = no_loops modules d mine may laws.found bits ports stands (allowed.sound TwoDrivers) (allowed.sound NoDriver) whole (laws.wired d allowed.bounded) (allowed.sound Cycle) (λ m n named. (standing modules all m n named).acyclic) laws.cycle (laws.bits_there new bounded)

  -- the boxes that are left are some of the boxes
  boxes_apart : AreDistinctTexts (box_paths new)
  boxes_apart = subst (λ l. AreDistinctTexts (map (λ (s : Scope). path_text s.path) l)) (sym (keeps_interface modules d mine may).boxes)
      (from_distinct (map (λ (s : Scope). path_text s.path) (filter (is_unfinished modules) (boxes d))) (filtered_apart (λ (s : Scope). path_text s.path) (is_unfinished modules) (boxes d) (to_distinct (box_paths d) (allowed.sound BoxTexts))))

  sound : IsSoundDesign new
  sound Recursion = (keeps_interface modules d mine may).hierarchy (allowed.sound Recursion)
  sound Depth = bounded.shallow
  sound Size = small
  sound TwoDrivers = once
  sound NoDriver = reads
  sound Cycle = acyclic
  sound BoxTexts = boxes_apart
  sound RegisterTexts = subst AreDistinctTexts (sym (keeps_interface modules d mine may).register_names) (allowed.sound RegisterTexts)
  sound PortTexts = (subst AreDistinctTexts (sym (keeps_interface modules d mine may).input_names) (allowed.sound PortTexts).0, subst AreDistinctTexts (sym (keeps_interface modules d mine may).output_names) (allowed.sound PortTexts).1)

  pub replaced_allowed : IsAllowed new
  replaced_allowed = record { bounded = bounded; sound = sound }
