use Rattle.std.proofs.Common.{◌≡◌, ℕ, ◌<◌, ◌≤◌, List, [], length, refl, sym, ap, subst, ◌∙◌, arith}
use Rattle.std.specs.Prelude.{slice_index}
use Rattle.std.proofs.lemmas.List.Elements.{All-get_or}
use Rattle.bb_net.specs.Netlists.{Pins, box_at}
use Rattle.bb_net.specs.Inside.Placings.{IsPlaced, IsOpen}
use Rattle.bb_net.proofs.LookedAt.{on_ok1, woken_box, IsPlacing-box_waits, IsPlacing-box_ready}
use Rattle.bb_net.proofs.ordering.advancing.look_at_box.Goals as goal

pub first_open-pin-requires-clause-before : goal.first_open-pin-requires-clause-before
first_open-pin-requires-clause-before c =
    let l = c.args.loose.now in
    let s = c.args.s.now in
    let head = woken_box l s.net s.to.items s.numbers.items s.numbered.items s.waiting.items s.fresh.items _ c.args.b c.args.from c.requires.placing.0 [] c.requires.placing.1 in
    let ins : c.ins-ins.result.now ≡ (box_at l.boxes c.args.b).ins = c.ins-ins.ensures.ins ∙ ap (λ (q : Pins). q.ins) c.pins.ensures.pins in
    λ p h. subst (λ xs. IsPlaced xs (slice_index c.ins-ins.result.now p)) (sym c.deref.ensures.value) (subst (λ xs. IsPlaced s.to.items (slice_index xs p)) (sym ins) (head.2 p h))

pub returns-then-pin-ins : goal.returns-then-pin-ins
returns-then-pin-ins c =
    let l = c.args.loose.now in
    let s = c.args.s.now in
    let b = c.args.b in
    let pin = c.first_open-pin.result in
    let pins : List ℕ = (box_at l.boxes b).ins in
    let ins : c.ins-ins.result.now ≡ (box_at l.boxes b).ins = c.ins-ins.ensures.ins ∙ ap (λ (q : Pins). q.ins) c.pins.ensures.pins in
    let lt : pin < length pins = subst (λ xs. pin < length xs) ins c.if-pin-ins.true in
    let before : (p : ℕ) → p < pin → IsPlaced s.to.items (slice_index pins p) =
    λ p h. subst (λ xs. IsPlaced xs (slice_index pins p)) c.deref.ensures.value (subst (λ xs. IsPlaced c.deref.result.now (slice_index xs p)) ins (c.first_open-pin.ensures.before p h)) in
    let free : IsOpen s.to.items (slice_index pins pin) = subst (λ xs. IsOpen xs (slice_index pins pin)) c.deref.ensures.value (subst (λ xs. IsOpen c.deref.result.now (slice_index xs pin)) ins (c.first_open-pin.ensures.open c.if-pin-ins.true)) in
    record {
      ok = on_ok1 c.wait.result _ _ c.wait.ensures.ok (λ e. record {
        placing = λ woken p. (let below = All-get_or (λ j. j < length l.cells) pins pin 0 lt (p.list.pins_there b) in
            rw (e, ins) (IsPlacing-box_waits l s.net s.to.items s.numbers.items s.numbered.items s.waiting.items s.fresh.items _ b c.args.from woken pin p lt before (omega (arith, below, p.queue.width)) free));
        less = omega arith;
        numbers = refl {A = List ℕ};
      });
    }

pub returns : goal.returns
returns c =
    let l = c.args.loose.now in
    let s = c.args.s.now in
    let b = c.args.b in
    let pin = c.first_open-pin.result in
    let pins : List ℕ = (box_at l.boxes b).ins in
    let ins : c.ins-ins.result.now ≡ (box_at l.boxes b).ins = c.ins-ins.ensures.ins ∙ ap (λ (q : Pins). q.ins) c.pins.ensures.pins in
    let whole : length pins ≤ pin = subst (λ xs. length xs ≤ pin) ins c.if-pin-ins.false in
    let all : (p : ℕ) → p < length pins → IsPlaced s.to.items (slice_index pins p) =
    λ p h. subst (λ xs. IsPlaced xs (slice_index pins p)) c.deref.ensures.value (subst (λ xs. IsPlaced c.deref.result.now (slice_index xs p)) ins (c.first_open-pin.ensures.before p (omega (arith, h, whole)))) in
    record {
      ok = record {
        placing = λ woken p. IsPlacing-box_ready l s.net s.to.items s.numbers.items s.numbered.items s.waiting.items s.fresh.items _ _ b c.args.from woken _ refl c.in_ok-push.ensures.permutation (c.in_ok-push.ensures.heap_order p.heap) p all;
        less = omega arith;
        numbers = refl {A = List ℕ};
      };
    }
