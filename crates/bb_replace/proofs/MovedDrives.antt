-- A combinational module drives the same bits by the same terms wherever a copy of it is: its drives at a path are those
-- of the module alone, moved there.
use Rattle.std.proofs.Common.{◌≡◌, ℕ, ◌+◌, List, [], ◌∷◌, ◌++◌, map, length, refl, sym, ap, ap₂, ◌∙◌}
use Rattle.std.proofs.lemmas.List.{map-append}
use Rattle.bb_lemmas.proofs.Maps.{map-twice}
use Rattle.std.specs.List.{flat_map, range_with_len}
use Rattle.std.proofs.lemmas.List.{length-map}
use Rattle.bb_ast.specs.Folds.{of_parts}
use Rattle.bb_ast.specs.Syntax.{Expression, Net as NetOf, Bit as BitOf, Part, Sized, Plain, Not as NotOf, Fold, Chain, Words, Cond, Concat, Repeat, Parts, no_part, part, PlainModule}
use Rattle.bb_bits.specs.Bits.{low_bits}
use Rattle.bb_expr.specs.Terms.{Term}
use Rattle.bb_expr.specs.Terms as term
use Rattle.bb_names.specs.Declarations.{range_of}
use Rattle.bb_names.specs.Ranges.{distance, place_of as bit_place, range_width}
use Rattle.bb_design.specs.Constructs.{Construct, Assignment, GateInstance, Register, SupplyNet, InputConnection, OutputConnection, BoxContents, parts}
use Rattle.bb_design.specs.Contexts.{assigned_terms, context_width, made_in}
use Rattle.bb_design.specs.Drivers.{Box, Drive, DrivingSource, Free, MadeOf, driven, driven_by, drives_at, terminal_terms}
use Rattle.bb_design.specs.GateFunctions.{gate_gives, on_terms}
use Rattle.bb_design.specs.Hierarchy.{Path}
use Rattle.bb_design.specs.NetBits.{Bit, assigned, bits_from, bits_named, written_bits}
use Rattle.bb_replace.specs.Laws.Replacement.{scope_of}

-- the bit of the same net and place at a path
abbrev pub at : Path → Bit → Bit
at path b = record { path = path; net = b.net; place = b.place }

abbrev pub source_at : Path → DrivingSource → DrivingSource
source_at path Free = Free
source_at path (MadeOf other t) = MadeOf path t
source_at path (Box s pin) = Box s pin

abbrev pub drive_at : Path → Drive → Drive
drive_at path x = driven (source_at path x.source) (at path x.bit)

pub flat_map_mapped : {A B C : Type 0} (f : A → List B) (g : B → C) (xs : List A) → map g (flat_map f xs) ≡ flat_map (λ x. map g (f x)) xs
flat_map_mapped f g [] = refl
flat_map_mapped f g (x ∷ xs) = map-append g (f x) (flat_map f xs) ∙ ap (λ l. map g (f x) ++ l) (flat_map_mapped f g xs)

-- bits

from_at : (path : Path) (n : List ℕ) (place count : ℕ) → bits_from path n place count ≡ map (at path) (bits_from [] n place count)
from_at path n place count = sym (map-twice (λ (k : ℕ). record { path = []; net = n; place = k }) (at path) (range_with_len place count))

mutual
  pub written_at : (path : Path) (m : PlainModule) (e : Expression) → written_bits (scope_of path m) e ≡ map (at path) (written_bits (scope_of [] m) e)
  written_at path m (NetOf n) = from_at path n 0 (range_width (range_of m n))
  written_at path m (BitOf n i) = from_at path n (bit_place (range_of m n) i) 1
  written_at path m (Part n i j) = from_at path n (bit_place (range_of m n) i) (distance i j + 1)
  written_at path m (Sized bits) = refl
  written_at path m (Plain n) = refl
  written_at path m (NotOf k e) = refl
  written_at path m (Fold op e) = refl
  written_at path m (Chain e rest) = refl
  written_at path m (Words e rest) = refl
  written_at path m (Cond arms last) = refl
  written_at path m (Repeat k parts) = refl
  written_at path m (Concat parts) = parts_at path m parts

  parts_at : (path : Path) (m : PlainModule) (parts : Parts) → flat_map (λ bits. bits) (of_parts (λ e a. a) (assigned (scope_of path m)) parts) ≡ map (at path) (flat_map (λ bits. bits) (of_parts (λ e a. a) (assigned (scope_of [] m)) parts))
  parts_at path m no_part = refl
  parts_at path m (part e rest) =
      ap₂ (λ a b. a ++ b) (written_at path m e) (parts_at path m rest)
      ∙ sym (map-append (at path) (written_bits (scope_of [] m) e) (flat_map (λ bits. bits) (of_parts (λ e a. a) (assigned (scope_of [] m)) rest)))

flat_written : (path : Path) (m : PlainModule) (outs : List Expression) → flat_map (written_bits (scope_of path m)) outs ≡ map (at path) (flat_map (written_bits (scope_of [] m)) outs)
flat_written path m [] = refl
flat_written path m (e ∷ outs) = ap₂ (λ a b. a ++ b) (written_at path m e) (flat_written path m outs) ∙ sym (map-append (at path) (written_bits (scope_of [] m) e) (flat_map (written_bits (scope_of [] m)) outs))

-- drives

zipped_at : (path : Path) (bits : List Bit) (terms : List Term) → driven_by path (map (at path) bits) terms ≡ map (drive_at path) (driven_by [] bits terms)
zipped_at path [] terms = refl
zipped_at path (b ∷ bits) [] = refl
zipped_at path (b ∷ bits) (t ∷ terms) = ap (λ l. driven (MadeOf path t) (at path b) ∷ l) (zipped_at path bits terms)

-- a construct that a combinational module may have
abbrev pub IsPlain : Construct → Type 0
IsPlain (Assignment left right) = Unit {0}
IsPlain (GateInstance gate outs ins) = Unit {0}
IsPlain (SupplyNet high n) = Unit {0}
IsPlain c = ⊥

pub construct_at : (path : Path) (m : PlainModule) (c : Construct) → IsPlain c → drives_at (scope_of path m, c) ≡ map (drive_at path) (drives_at (scope_of [] m, c))
construct_at path m (Assignment left right) plain =
    ap₂ (driven_by path) (written_at path m left) (ap (λ n. low_bits n (made_in (scope_of [] m) right (context_width (scope_of [] m) left right)).bits) (ap length (written_at path m left) ∙ length-map (written_bits (scope_of [] m) left) (at path)))
    ∙ zipped_at path (written_bits (scope_of [] m) left) (assigned_terms (scope_of [] m) left right)
construct_at path m (GateInstance gate outs ins) plain =
    ap (map (driven (MadeOf path t))) (flat_written path m outs) ∙ map-twice (at path) (driven (MadeOf path t)) (flat_map (written_bits (scope_of [] m)) outs)
    ∙ sym (map-twice (driven (MadeOf [] t)) (drive_at path) (flat_map (written_bits (scope_of [] m)) outs))
  where
    t : Term
    t = gate_gives on_terms gate (terminal_terms (scope_of [] m) ins)
construct_at path m (SupplyNet high n) plain =
    ap (map (driven (MadeOf path (term.Const high)))) (from_at path n 0 (range_width (range_of m n))) ∙ map-twice (at path) (driven (MadeOf path (term.Const high))) (bits_named (scope_of [] m) n)
    ∙ sym (map-twice (driven (MadeOf [] (term.Const high))) (drive_at path) (bits_named (scope_of [] m) n))
construct_at path m (Register a) plain = absurd plain
construct_at path m (InputConnection i pin e) plain = absurd plain
construct_at path m (OutputConnection i pin e) plain = absurd plain
construct_at path m BoxContents plain = absurd plain
