-- What a well-formed module says of a register: its clock is a net or one bit of a net, and its left side has a bit.
use Rattle.std.proofs.Common.{◌≡◌, ◌+◌, ◌≤◌, Bool, true, false, ◌&&◌, Contains, Option, None, Some, refl, sym, arith, true≢false, length-append}
use Rattle.std.specs.List.{flat_map, list_all}
use Rattle.bb_ast.specs.declared.module.Range.{Range}
use Rattle.bb_ast.specs.Assignable.{assigning, is_assignable}
use Rattle.bb_ast.specs.Folds.{of_parts}
use Rattle.bb_ast.specs.Inside.Formed.{IsFormedExpression, IsFormedBody, IsFormed, IsNetOrBit}
use Rattle.bb_ast.specs.Syntax.{Expression, Net, Bit, Part, Sized, Plain, Not, Fold, Chain, Words, Cond, Concat, Repeat, no_part, part, PlainBody, Ports, Nets, Regs, Supply, Assign, Gates, Calls, Always, PlainItem, PlainModule}
use Rattle.bb_names.specs.Declarations.{range_of}
use Rattle.bb_names.specs.Ranges.{distance, range_width, place_of}
use Rattle.bb_design.specs.NetBits.{assigned, written_bits, Bit as NetBit}
use Rattle.bb_lemmas.proofs.Members.{each_of}
use Rattle.bb_lemmas.proofs.Ranges.{length-run}
use Rattle.bb_blast.specs.Laws.ModuleLaws.{LeftHasBits, HasBits}

abbrev pub HasClock : PlainBody → Type 0
HasClock (Always r) = IsNetOrBit r.clock
HasClock body = Unit {0}

body_clock : (body : PlainBody) → IsFormedBody body → HasClock body
body_clock (Ports port names) formed = tt
body_clock (Nets range nets) formed = tt
body_clock (Regs range names) formed = tt
body_clock (Supply high range names) formed = tt
body_clock (Assign all) formed = tt
body_clock (Gates gate all) formed = tt
body_clock (Calls target calls) formed = tt
body_clock (Always r) formed = formed.3

pub formed_clock : (m : PlainModule) → IsFormed m → (item : PlainItem) → Contains m.items item → HasClock item.body
formed_clock m formed item has = body_clock item.body (each_of (λ (i : PlainItem). IsFormedBody i.body) m.items formed.2 item has)

some_bits : (range : Option Range) → 1 ≤ range_width range
some_bits None = omega arith
some_bits (Some r) = omega arith

first_true : (a b : Bool) → (a && b) ≡ true → a ≡ true
first_true true b e = refl
first_true false b e = absurd (true≢false (sym e))

left_written : (e : Expression) → IsFormedExpression e → is_assignable e ≡ true → HasBits e
left_written (Net n) formed may s = let some = some_bits (range_of s.source n) in omega (arith, some, length-run {A = NetBit} (λ k. record { path = s.path; net = n; place = k }) 0 (range_width (range_of s.source n)))
left_written (Bit n i) formed may s = omega (arith, length-run {A = NetBit} (λ k. record { path = s.path; net = n; place = k }) (place_of (range_of s.source n) i) 1)
left_written (Part n i j) formed may s = omega (arith, length-run {A = NetBit} (λ k. record { path = s.path; net = n; place = k }) (place_of (range_of s.source n) i) (distance i j + 1))
left_written (Sized bits) formed may s = absurd (true≢false (sym may))
left_written (Plain n) formed may s = absurd (true≢false (sym may))
left_written (Not k e) formed may s = absurd (true≢false (sym may))
left_written (Fold op e) formed may s = absurd (true≢false (sym may))
left_written (Chain e more) formed may s = absurd (true≢false (sym may))
left_written (Words e more) formed may s = absurd (true≢false (sym may))
left_written (Cond all last) formed may s = absurd (true≢false (sym may))
left_written (Concat no_part) formed may s = absurd formed
left_written (Concat (part x rest)) formed may s =
    let first = left_written x formed.0 (first_true (is_assignable x) (list_all (λ b. b) (of_parts (λ e a. a) assigning rest)) may) s in
    omega (arith, first, length-append (written_bits s x) (flat_map (λ bits. bits) (of_parts (λ e a. a) (assigned s) rest)))
left_written (Repeat k all) formed may s = absurd (true≢false (sym may))

body_left : (body : PlainBody) → IsFormedBody body → LeftHasBits body
body_left (Ports port names) formed = tt
body_left (Nets range nets) formed = tt
body_left (Regs range names) formed = tt
body_left (Supply high range names) formed = tt
body_left (Assign all) formed = tt
body_left (Gates gate all) formed = tt
body_left (Calls target calls) formed = tt
body_left (Always r) formed = left_written r.left formed.1 formed.4

pub formed_left : (m : PlainModule) → IsFormed m → (item : PlainItem) → Contains m.items item → LeftHasBits item.body
formed_left m formed item has = body_left item.body (each_of (λ (i : PlainItem). IsFormedBody i.body) m.items formed.2 item has)
