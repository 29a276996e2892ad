-- The trail grows and shrinks.
use Rattle.std.proofs.Common.{◌≡◌, ◌<◌, Bool, true, false, not, ◌&&◌, ◌||◌, List, [], ◌∷◌, ◌++◌, length, set, refl, sym, ◌∙◌, ap, subst, ◌⊎◌, inl, inr, append_assoc, append-nil}
use Rattle.std.proofs.lemmas.List.{length-set}
use Rattle.bb_lemmas.proofs.Bits.{or_right, or_assoc}
use Rattle.bb_lemmas.proofs.Maps.{or-false}
use Rattle.bb_lemmas.proofs.Members.{either}
use Rattle.bb_cnf.specs.declared.clauses.Lit.{Lit}
use Rattle.bb_cnf.specs.Clauses.{Literals, literals_of, same_literal}
use Rattle.bb_rup.specs.Inside.Trails.{mark_place, marked, marked_by, AreOnce, IsTrail, Makes}
use Rattle.bb_rup.specs.declared.trail.Trail.{Trail}
use Rattle.bb_rup.proofs.Literals.{clash, same_literal-is, literals_of-push}
use Rattle.bb_rup.proofs.Splits.{split_push}
use Rattle.bb_rup.proofs.Places.{marked-set}

once_push : (lits : List Lit) (l : Lit) → AreOnce lits → literals_of lits l ≡ false → AreOnce (lits ++ l ∷ [])
once_push lits l once new prefix m back e = by (split_push lits l prefix m back e)
  where
    by : ((lits ≡ prefix) × (l ≡ m)) ⊎ ((rest : List Lit) × (lits ≡ prefix ++ m ∷ rest)) → literals_of prefix m ≡ false
    by (inl p) = subst (λ f. literals_of f m ≡ false) p.0 (subst (λ k. literals_of lits k ≡ false) p.1 new)
    by (inr p) = once prefix m p.0 p.1

pub once_prefix : (rest : List Lit) (last : Lit) → AreOnce (rest ++ last ∷ []) → AreOnce rest
once_prefix rest last once prefix l back e = once prefix l (back ++ last ∷ []) (ap (λ k. k ++ last ∷ []) e ∙ append_assoc prefix (l ∷ back) (last ∷ []))

-- one more literal is false
module _ (old new : Trail) (l : Lit) (is : IsTrail old) (within : mark_place l < length old.marks.items) (free : marked_by old l ≡ false)
    (lits : new.lits.items ≡ old.lits.items ++ l ∷ []) (marks : new.marks.items ≡ set old.marks.items (mark_place l) true) where
  marked_push : (m : Lit) → marked_by new m ≡ (marked_by old m || same_literal l m)
  marked_push m = ap (λ k. marked k m) marks ∙ marked-set old.marks.items l within m

  pub trail_push : IsTrail new
  trail_push = record {
    same = λ m. marked_push m ∙ ap (λ b. b || same_literal l m) (is.same m) ∙ sym (literals_of-push old.lits.items l m) ∙ ap (λ k. literals_of k m) (sym lits);
    once = subst AreOnce (sym lits) (once_push old.lits.items l is.once (sym (is.same l) ∙ free));
  }

  pub makes_one : Makes old new (same_literal l)
  makes_one = record {
    trail = trail_push;
    more = l ∷ [];
    grows = lits;
    room = ap length marks ∙ length-set old.marks.items (mark_place l) true;
    marks = marked_push;
  }

-- where it was false already, nothing changes
pub makes_old : (t : Trail) (l : Lit) → IsTrail t → marked_by t l ≡ true → Makes t t (same_literal l)
makes_old t l is old = record {
  trail = is;
  more = [];
  grows = sym (append-nil t.lits.items);
  room = refl;
  marks = λ m. by m (either (same_literal l m));
}
  where
    by : (m : Lit) → (same_literal l m ≡ true) ⊎ (same_literal l m ≡ false) → marked_by t m ≡ (marked_by t m || same_literal l m)
    by m (inl same) = subst (λ k. marked_by t k ≡ true) (same_literal-is l m same) old ∙ sym (or_right (marked_by t m) (same_literal l m) same)
    by m (inr other) = sym (ap (λ b. marked_by t m || b) other ∙ or-false (marked_by t m))

pub makes_none : (t : Trail) → IsTrail t → Makes t t (literals_of [])
makes_none t is = record { trail = is; more = []; grows = sym (append-nil t.lits.items); room = refl; marks = λ m. sym (or-false (marked_by t m)) }

pub makes_both : (a b c : Trail) (first second both : Literals) → ((m : Lit) → both m ≡ (first m || second m)) → Makes a b first → Makes b c second → Makes a c both
makes_both a b c first second both is one two = record {
  trail = two.trail;
  more = one.more ++ two.more;
  grows = two.grows ∙ ap (λ k. k ++ two.more) one.grows ∙ append_assoc a.lits.items one.more two.more;
  room = two.room ∙ one.room;
  marks = λ m. two.marks m ∙ ap (λ k. k || second m) (one.marks m) ∙ or_assoc (marked_by a m) (first m) (second m) ∙ ap (λ k. marked_by a m || k) (sym (is m));
}

-- the last is taken back
pub trail_pop : (old new : Trail) (rest : List Lit) (last : Lit) → IsTrail old → old.lits.items ≡ rest ++ last ∷ [] → new.lits.items ≡ rest
    → ((m : Lit) → marked_by new m ≡ (marked_by old m && not (same_literal last m))) → IsTrail new
trail_pop old new rest last is lits left marks = record {
  same = λ m. marks m ∙ ap (λ b. b && not (same_literal last m)) (is.same m ∙ ap (λ k. literals_of k m) lits ∙ literals_of-push rest last m)
      ∙ drop_last (literals_of rest m) (same_literal last m) (λ same. subst (λ k. literals_of rest k ≡ false) (same_literal-is last m same) new_last) ∙ ap (λ k. literals_of k m) (sym left);
  once = subst AreOnce (sym left) (once_prefix rest last (subst AreOnce lits is.once));
}
  where
    new_last : literals_of rest last ≡ false
    new_last = is.once rest last [] lits

    drop_last : (a s : Bool) → (s ≡ true → a ≡ false) → ((a || s) && not s) ≡ a
    drop_last a true off = last_off a (off refl)
      where
        last_off : (b : Bool) → b ≡ false → ((b || true) && not true) ≡ b
        last_off true is_false = clash true refl is_false
        last_off false is_false = refl
    drop_last true false off = refl
    drop_last false false off = refl
