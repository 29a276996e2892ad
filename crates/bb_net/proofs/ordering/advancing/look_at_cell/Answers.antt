use Rattle.std.proofs.Common.{ℕ, ◌<◌, List, [], length, refl, sym, ap, subst, ◌∙◌, arith}
use Rattle.std.specs.Prelude.{Contains}
use Rattle.std.proofs.lemmas.List.{length_push}
use Rattle.bb_net.specs.Loose.{loose_at, operand_places}
use Rattle.bb_net.specs.Inside.Placings.{IsOpen, open_count}
use Rattle.bb_net.specs.declared.ordering.placing.Moved.TheVariants as what
use Rattle.std.proofs.lemmas.List.Elements.{All-contains}
use Rattle.bb_net.proofs.PlaceLists.{reads_there}
use Rattle.bb_net.proofs.PlacedCells.{at_open, open_count-set}
use Rattle.bb_net.proofs.BuiltCells.{room_for}
use Rattle.bb_net.proofs.LookedAt.{on_ok1, on_ok2, on_ok3, open_read, placed_read, reads_any, operand_whole, resolved_at, woken_cell, follows_at, IsPlacing-skip, IsPlacing-new, IsPlacing-same, IsPlacing-cell_waits}
use Rattle.bb_net.proofs.ordering.advancing.look_at_cell.Goals as goal

pub returns-then-is_some : goal.returns-then-is_some
returns-then-is_some c =
    let s = c.args.s.now in
    record {
      ok = record {
        placing = λ woken p. (let lt = woken_cell c.args.loose.now s.net s.to.items s.numbers.items s.numbered.items s.waiting.items s.fresh.items _ c.args.k woken [] p in
            let at = placed_read s.to.items c.args.k c.index.result.now (omega (arith, lt, p.begun.whole)) c.index.ensures (sym c.if-is_some.ensures) in
            IsPlacing-skip c.args.loose.now s.net s.to.items s.numbers.items s.numbered.items s.waiting.items s.fresh.items _ c.args.k woken [] p (λ o. at_open s.to.items c.args.k at.0 at.1 o));
        less = omega arith;
        numbers = refl {A = List ℕ};
      };
    }

pub resolve-requires : goal.resolve-requires
resolve-requires c =
    let p = c.requires.placing.1 in
    let l = c.args.loose.now in
    let s = c.args.s.now in
    let lt = woken_cell l s.net s.to.items s.numbers.items s.numbered.items s.waiting.items s.fresh.items _ c.args.k c.requires.placing.0 [] p in
    record { there = reads_any (length c.deref.result.now) l.boxes c.cell.result (reads_there l c.args.k (length c.deref.result.now) c.cell.result p.list lt (sym (ap length c.deref.ensures.value ∙ p.begun.whole)) c.cell.ensures.cell) }

pub put-requires-clause-room : goal.put-requires-clause-room
put-requires-clause-room c =
    let p = c.requires.placing.1 in
    let l = c.args.loose.now in
    let s = c.args.s.now in
    let lt = woken_cell l s.net s.to.items s.numbers.items s.numbered.items s.waiting.items s.fresh.items _ c.args.k c.requires.placing.0 [] p in
    let within : c.args.k < length s.to.items = omega (arith, lt, p.begun.whole) in
    room_for l s.net s.to.items s.numbers.items c.args.k p.list p.built within (open_read s.to.items c.args.k c.index.result.now within c.index.ensures (sym c.if-is_some.ensures))

pub put-requires-clause-follows : goal.put-requires-clause-follows
put-requires-clause-follows c =
    let l = c.args.loose.now in
    let s = c.args.s.now in
    let is = resolved_at l s.to.items c.deref.result.now c.args.k c.cell.result (what.New c.in-Ok-New.cell) c.in-Ok-New.field-0 c.deref.ensures.value c.cell.ensures.cell c.in-Ok-New.field-0-is c.in-Ok-New.ensures.ok in
    follows_at l s.net s.to.items s.numbers.items s.numbered.items s.waiting.items s.fresh.items _ c.args.k c.requires.placing.0 c.in-Ok-New.cell c.requires.placing.1 is

pub wait-requires : goal.wait-requires
wait-requires c =
    let p = c.requires.placing.1 in
    let l = c.args.loose.now in
    let s = c.args.s.now in
    let lt = woken_cell l s.net s.to.items s.numbers.items s.numbered.items s.waiting.items s.fresh.items _ c.args.k c.requires.placing.0 [] p in
    let reads = subst (λ d. Contains (operand_places [] d) c.in-Err.a) c.cell.ensures.cell c.in-Err.ensures.err.1 in
    let below = All-contains (λ j. j < length l.cells) _ c.in-Err.a (p.list.there c.args.k lt) (operand_whole l.boxes (loose_at l c.args.k) c.in-Err.a reads) in
    record { there = omega (arith, below, p.queue.width, s.waiting.ok.0) }

pub returns-in-Ok-New : goal.returns-in-Ok-New
returns-in-Ok-New c =
    let l = c.args.loose.now in
    let s = c.args.s.now in
    let k = c.args.k in
    let is = resolved_at l s.to.items c.deref.result.now k c.cell.result (what.New c.in-Ok-New.cell) c.in-Ok-New.field-0 c.deref.ensures.value c.cell.ensures.cell c.in-Ok-New.field-0-is c.in-Ok-New.ensures.ok in
    record {
      ok = on_ok3 c.put.result _ _ _ _ c.put.ensures.net c.put.ensures.to c.put.ensures.fresh (λ e f g. record {
        placing = λ woken p. (let lt = woken_cell l s.net s.to.items s.numbers.items s.numbered.items s.waiting.items s.fresh.items _ k woken [] p in
            let within : k < length s.to.items = omega (arith, lt, p.begun.whole) in
            let free = open_read s.to.items k c.index.result.now within c.index.ensures (sym c.if-is_some.ensures) in
            rw (e, f, g) (IsPlacing-new l s.net s.to.items s.numbers.items s.numbered.items s.waiting.items s.fresh.items _ k woken c.in-Ok-New.cell p free is));
        less = (let p = c.requires.placing.1 in
            let lt = woken_cell l s.net s.to.items s.numbers.items s.numbered.items s.waiting.items s.fresh.items _ k c.requires.placing.0 [] p in
            let within : k < length s.to.items = omega (arith, lt, p.begun.whole) in
            let free = open_read s.to.items k c.index.result.now within c.index.ensures (sym c.if-is_some.ensures) in
            omega (arith, ap open_count f, ap length g, open_count-set s.to.items k (length s.net.cells) within free, length_push s.fresh.items k));
        numbers = refl {A = List ℕ};
      });
    }

pub returns-in-Ok-Same : goal.returns-in-Ok-Same
returns-in-Ok-Same c =
    let l = c.args.loose.now in
    let s = c.args.s.now in
    let k = c.args.k in
    let q = c.in-Ok-Same.place in
    let is = resolved_at l s.to.items c.deref.result.now k c.cell.result (what.Same q) c.in-Ok-Same.field-0 c.deref.ensures.value c.cell.ensures.cell c.in-Ok-Same.field-0-is c.in-Ok-Same.ensures.ok in
    record {
      ok = on_ok2 c.put_at.result _ _ _ c.put_at.ensures.to c.put_at.ensures.fresh (λ f g. record {
        placing = λ woken p. (let lt = woken_cell l s.net s.to.items s.numbers.items s.numbered.items s.waiting.items s.fresh.items _ k woken [] p in
            let within : k < length s.to.items = omega (arith, lt, p.begun.whole) in
            let free = open_read s.to.items k c.index.result.now within c.index.ensures (sym c.if-is_some.ensures) in
            rw (f, g) (IsPlacing-same l s.net s.to.items s.numbers.items s.numbered.items s.waiting.items s.fresh.items _ k woken q p free is));
        less = (let p = c.requires.placing.1 in
            let lt = woken_cell l s.net s.to.items s.numbers.items s.numbered.items s.waiting.items s.fresh.items _ k c.requires.placing.0 [] p in
            let within : k < length s.to.items = omega (arith, lt, p.begun.whole) in
            let free = open_read s.to.items k c.index.result.now within c.index.ensures (sym c.if-is_some.ensures) in
            omega (arith, ap open_count f, ap length g, open_count-set s.to.items k q within free, length_push s.fresh.items k));
        numbers = refl {A = List ℕ};
      });
    }

pub returns-in-Ok-WithBox : goal.returns-in-Ok-WithBox
returns-in-Ok-WithBox c =
    let l = c.args.loose.now in
    let s = c.args.s.now in
    let is = resolved_at l s.to.items c.deref.result.now c.args.k c.cell.result what.WithBox c.in-Ok-WithBox.field-0 c.deref.ensures.value c.cell.ensures.cell c.in-Ok-WithBox.field-0-is c.in-Ok-WithBox.ensures.ok in
    record {
      ok = record {
        placing = λ woken p. IsPlacing-skip l s.net s.to.items s.numbers.items s.numbered.items s.waiting.items s.fresh.items _ c.args.k woken [] p (λ o. is);
        less = omega arith;
        numbers = refl {A = List ℕ};
      };
    }

pub returns-in-Err : goal.returns-in-Err
returns-in-Err c =
    let l = c.args.loose.now in
    let s = c.args.s.now in
    let k = c.args.k in
    let a = c.in-Err.a in
    let reads = subst (λ d. Contains (operand_places [] d) a) c.cell.ensures.cell c.in-Err.ensures.err.1 in
    let free = subst (λ xs. IsOpen xs a) c.deref.ensures.value c.in-Err.ensures.err.0 in
    record {
      ok = on_ok1 c.wait.result _ _ c.wait.ensures.ok (λ e. record {
        placing = λ woken p. (let lt = woken_cell l s.net s.to.items s.numbers.items s.numbered.items s.waiting.items s.fresh.items _ k woken [] p in
            let below = All-contains (λ j. j < length l.cells) _ a (p.list.there k lt) (operand_whole l.boxes (loose_at l k) a reads) in
            rw e (IsPlacing-cell_waits l s.net s.to.items s.numbers.items s.numbered.items s.waiting.items s.fresh.items _ k woken a p (omega (arith, below, p.queue.width)) free reads));
        less = omega arith;
        numbers = refl {A = List ℕ};
      });
    }

pub index-requires : goal.index-requires
index-requires c =
    let l = c.args.loose.now in
    let s = c.args.s.now in
    let lt = woken_cell l s.net s.to.items s.numbers.items s.numbered.items s.waiting.items s.fresh.items _ c.args.k c.requires.placing.0 [] c.requires.placing.1 in
    omega (arith, lt, c.requires.placing.1.begun.whole, s.to.ok.0)

pub cell-requires : goal.cell-requires
cell-requires c =
    let l = c.args.loose.now in
    let s = c.args.s.now in
    let lt = woken_cell l s.net s.to.items s.numbers.items s.numbered.items s.waiting.items s.fresh.items _ c.args.k c.requires.placing.0 [] c.requires.placing.1 in
    record { there = lt }

pub put-requires-clause-there : goal.put-requires-clause-there
put-requires-clause-there c =
    let l = c.args.loose.now in
    let s = c.args.s.now in
    let lt = woken_cell l s.net s.to.items s.numbers.items s.numbered.items s.waiting.items s.fresh.items _ c.args.k c.requires.placing.0 [] c.requires.placing.1 in
    omega (arith, lt, c.requires.placing.1.begun.whole, s.to.ok.0)

pub put_at-requires : goal.put_at-requires
put_at-requires c =
    let l = c.args.loose.now in
    let s = c.args.s.now in
    let lt = woken_cell l s.net s.to.items s.numbers.items s.numbered.items s.waiting.items s.fresh.items _ c.args.k c.requires.placing.0 [] c.requires.placing.1 in
    record { there = omega (arith, lt, c.requires.placing.1.begun.whole, s.to.ok.0) }
