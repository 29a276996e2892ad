use Rattle.std.proofs.Common.{◌≡◌, ◌≢◌, ◌<◌, ◌+◌, ◌||◌, ◌∷◌, [], ℕ, suc, Bool, true, false, List, Contains, take, drop, length, get_or, refl, sym, ap, ◌∙◌, subst, true≢false, Some}
use Rattle.std.specs.Prelude.{slice_get}
use Rattle.std.specs.List.{AllPairs, list_any}
use Rattle.std.proofs.lemmas.List.{take_all}
use Rattle.std.proofs.lemmas.List.Folds.{list_any-append}
use Rattle.std.proofs.lemmas.Option.{slice_get_read}
use Rattle.bb_bits.specs.Names.{same_name}
use Rattle.bb_bits.specs.Closures.{IsFirstRepeat}
use Rattle.bb_lemmas.proofs.Members.{any_there, none_of}
use Rattle.bb_elab.proofs.NamedBits.{taken-push}
use Rattle.bb_lemmas.proofs.Places.{split}
use Rattle.bb_lemmas.proofs.Apart.{push_name}
use Rattle.bb_lemmas.proofs.Names.{same_equal, same_self, any-inserted}
use Rattle.bb_elab.proofs.repeats.first_repeat.Goals as goal

-- the name is there already
repeat_here : (names : List (List ℕ)) (k : ℕ) (x : List ℕ) → slice_get names k ≡ Some x → AllPairs ◌≢◌ (take k names) → list_any (same_name x) (take k names) ≡ true → IsFirstRepeat names x
repeat_here names k x there apart again =
    let y = any_there (same_name x) (take k names) again in
    record { before = take k names; after = drop (suc k) names; occurs = split names k x there; again = subst (Contains (take k names)) (sym (same_equal x y.0 y.2)) y.1; earlier = apart }

-- it does not
still_apart : (names : List (List ℕ)) (k : ℕ) (x : List ℕ) → k < length names → x ≡ get_or names k x → AllPairs ◌≢◌ (take k names) → list_any (same_name x) (take k names) ≡ false → AllPairs ◌≢◌ (take (k + 1) names)
still_apart names k x lt is apart none =
    subst (AllPairs ◌≢◌) (sym (taken-push names k x (slice_get_read names (length names) k x refl lt is))) (push_name (take k names) x apart
    (λ y has same. true≢false (sym (subst (λ z. same_name x z ≡ true) (sym same) (same_self x)) ∙ none_of (same_name x) (take k names) none y has)))

or-false : (b : Bool) → (b || false) ≡ b
or-false true = refl
or-false false = refl

pub returns-then-contains : goal.returns-then-contains
returns-then-contains c =
    let x = c.name-item.result in
    let k = c.loop-name.name-index in
    let there = slice_get_read c.args.names.now (length c.args.names.now) k x refl c.loop-name-test.true c.name-item.is in
    record {
      some = subst (IsFirstRepeat c.args.names.now) (sym c.in_ok-clone.ensures.cases) (repeat_here c.args.names.now k x there c.loop-name.invariant.apart (sym (c.loop-name.invariant.seen x) ∙ sym c.contains.ensures ∙ c.if-contains.true));
      none = tt;
    }

pub loop-name-preserved : goal.loop-name-preserved
loop-name-preserved c =
    let names = c.args.names.now in
    let k = c.loop-name.name-index in
    let x = c.name-item.result in
    record {
      apart = still_apart names k x c.loop-name-test.true c.name-item.is c.loop-name.invariant.apart (sym (c.loop-name.invariant.seen x) ∙ sym c.contains.ensures ∙ c.if-contains.false);
      seen = λ n. ap (list_any (same_name n)) c.in_ok-insert.ensures.keys ∙ any-inserted n c.loop-name.seen.keys c.in_ok-clone-2.field-0
          ∙ ap (λ b. b || same_name n c.in_ok-clone-2.field-0) (c.loop-name.invariant.seen n) ∙ ap (λ y. list_any (same_name n) (take k names) || same_name n y) c.in_ok-clone-2.ensures.cases
          ∙ ap (λ b. list_any (same_name n) (take k names) || b) (sym (or-false (same_name n x))) ∙ sym (list_any-append (same_name n) (take k names) (x ∷ []))
          ∙ ap (list_any (same_name n)) (sym (taken-push names k x (slice_get_read names (length names) k x refl c.loop-name-test.true c.name-item.is)));
    }

pub returns : goal.returns
returns c = record { some = tt; none = subst (AllPairs ◌≢◌) (take_all c.loop-name.name-index c.args.names.now c.loop-name-test.false) c.loop-name.invariant.apart }
