-- The flag for a refutation and the width of a made pair part the words that ask for one of these from one another and from those that compare files.
use Rattle.std.proofs.Common.{◌≡◌, ◌≢◌, ◌∙◌, ℕ, Bool, true, false, List, [], ◌∷◌, ◌++◌, Option, None, Some, if◌then◌else◌, codes, refl, subst, sym, ap}
use Rattle.std.specs.Prelude.{◌&&◌, ◌||◌, is_some, not, option_and_then}
use Rattle.std.specs.List.{list_all}
use Rattle.bb_args.specs.Requests.{MadePair, Refutation, Request, comparison_by, made_pair_by, options_by, refutation_by, request_by, file, has_no_files, is_absent, is_alone, is_making, is_refuting}
use Rattle.bb_args.specs.CommandLines.{Found, found_in, options}
use Rattle.bb_args.specs.Laws.{WordsRequestAtMostOne}
use Rattle.bb_args.specs.Numbers.{number_within}
use Rattle.bb_args.proofs.WithinLemmas.{both, file-some, given-some, if-some, some-same}

not_true : true ≡ false → ⊥
not_true e = cc e

-- what is asked for only where a mark is set is not asked for without it
unset : {X : Type 0} (o : Option X) (mark wanted : Bool) → ((x : X) → o ≡ Some x → mark ≡ wanted) → (mark ≡ wanted → ⊥) → o ≡ None
unset None mark wanted only other = refl
unset (Some x) mark wanted only other = absurd (other (only x refl))

-- what is so of all is so of the last
last_of : (p : List ℕ → Bool) (before : List (List ℕ)) (x : List ℕ) → list_all p (before ++ x ∷ []) ≡ true → p x ≡ true
last_of p [] x all = (both (p x) true all).0
last_of p (y ∷ before) x all = last_of p before x (both (p y) (list_all p (before ++ x ∷ [])) all).1

abbrev other_options : List (List ℕ)
other_options = codes "top-spec" ∷ codes "top-impl" ∷ codes "from" ∷ codes "to" ∷ codes "patterns" ∷ codes "seed" ∷ codes "nodes" ∷ codes "clauses" ∷ codes "cache" ∷ codes "care" ∷ codes "invariant" ∷ []

-- what is found where a refutation is asked for
pub record FoundRefutation (found : Found) (f : Refutation) : Type 0 where
  pub flag : is_refuting found ≡ true
  pub no_width : is_making found ≡ false
  pub cnf : f.cnf ≢ []
  pub adds : f.adds ≢ []

found_refutation : (found : Found) (f : Refutation) → refutation_by found ≡ Some f → FoundRefutation found f
found_refutation found f e =
    let cnf = given-some (file found.spec) _ f e in
    let adds = given-some (file found.imp) _ f cnf.2 in
    let end = if-some (is_refuting found && is_alone found) _ f adds.2 in
    let marks = both (is_refuting found) (is_alone found) end.0 in
    let names = subst (λ (z : Refutation). (z.cnf ≢ []) × (z.adds ≢ [])) end.1
    (file-some found.spec cnf.0 cnf.1, file-some found.imp adds.0 adds.1) in
    record { flag = marks.0; no_width = ap not (no_option marks.1); cnf = names.0; adds = names.1 }
  where
    no_option : is_alone found ≡ true → is_absent found (codes "make") ≡ true
    no_option alone =
        last_of (is_absent found) other_options (codes "make")
        (both (not (found.has_flag (codes "all")) && not (found.has_flag (codes "proof")) && not (found.has_flag (codes "shared")) && not (found.has_flag (codes "fill"))) (list_all (is_absent found) options) alone).1

-- what is found where a made pair is asked for
pub record FoundPair (found : Found) : Type 0 where
  pub flag : is_refuting found ≡ false
  pub width : is_making found ≡ true

found_pair : (found : Found) (m : MadePair) → made_pair_by found ≡ Some m → FoundPair found
found_pair found m e =
    let width = given-some (option_and_then (number_within 1 256) (found.value (codes "make"))) _ m e in
    let text = given-some (found.value (codes "make")) (number_within 1 256) width.0 width.1 in
    let options = given-some (options_by found) _ m width.2 in
    let end = if-some (not (is_refuting found) && (not options.0.shared && has_no_files found)) _ m options.2 in
    record {
      flag = was_false (is_refuting found) (both (not (is_refuting found)) (not options.0.shared && has_no_files found) end.0).0;
      width = ap (λ o. not (not (is_some o))) text.1;
    }
  where
    was_false : (b : Bool) → not b ≡ true → b ≡ false
    was_false false e = refl
    was_false true e = cc

-- and so none is where the flag is given
pub no_pair_beside : (found : Found) → is_refuting found ≡ true → made_pair_by found ≡ None
no_pair_beside found flag = unset (made_pair_by found) (is_refuting found) false (λ m e. (found_pair found m e).flag) (λ e. not_true (sym flag ∙ e))

-- and where files are compared
pub record FoundFiles (found : Found) : Type 0 where
  pub flag : is_refuting found ≡ false
  pub width : is_making found ≡ false

found_files : (found : Found) (r : Request) → comparison_by found ≡ Some r → FoundFiles found
found_files found r = by (is_refuting found) (is_making found) refl refl
  where
    by : (a b : Bool) → is_refuting found ≡ a → is_making found ≡ b → (if a || b then None else request_by found) ≡ Some r → FoundFiles found
    by true b flag width e = cc
    by false true flag width e = cc
    by false false flag width e = record { flag = flag; width = width }

-- two things asked for by the same words are found in the same
module _ {X Y : Type 0} (f : Found → Option X) (g : Found → Option Y) (o : Option Found) (mark : Found → Bool)
    (by_f : (found : Found) (x : X) → f found ≡ Some x → mark found ≡ false) (by_g : (found : Found) (y : Y) → g found ≡ Some y → mark found ≡ true) where
  never_two : (x : X) (y : Y) → option_and_then f o ≡ Some x → option_and_then g o ≡ Some y → ⊥
  never_two x y first second =
      let a = given-some o f x first in
      let b = given-some o g y second in
      not_true (sym (by_g b.0 y b.2) ∙ ap mark (some-same b.0 a.0 (sym b.1 ∙ a.1)) ∙ by_f a.0 x a.2)

pub words_once : WordsRequestAtMostOne
words_once = record {
  not_both = λ words r f. never_two comparison_by refutation_by (found_in words) is_refuting (λ found x e. (found_files found x e).flag) (λ found y e. (found_refutation found y e).flag) r f;
  not_files_and_made = λ words r m. never_two comparison_by made_pair_by (found_in words) is_making (λ found x e. (found_files found x e).width) (λ found y e. (found_pair found y e).width) r m;
  not_made_and_refuted = λ words m f. never_two made_pair_by refutation_by (found_in words) is_refuting (λ found x e. (found_pair found x e).flag) (λ found y e. (found_refutation found y e).flag) m f;
  without = λ words found there none. rw there (unset (refutation_by found) (is_refuting found) true (λ f e. (found_refutation found f e).flag) (λ e. not_true (sym e ∙ none)));
  with = λ words found there flag. (
    rw there (unset (comparison_by found) (is_refuting found) false (λ r e. (found_files found r e).flag) (λ e. not_true (sym flag ∙ e))),
    rw there (unset (made_pair_by found) (is_refuting found) false (λ m e. (found_pair found m e).flag) (λ e. not_true (sym flag ∙ e))),
  );
  without_width = λ words found there none. rw there (unset (made_pair_by found) (is_making found) true (λ m e. (found_pair found m e).width) (λ e. not_true (sym e ∙ none)));
  with_width = λ words found there width. (
    rw there (unset (comparison_by found) (is_making found) false (λ r e. (found_files found r e).width) (λ e. not_true (sym width ∙ e))),
    rw there (unset (refutation_by found) (is_making found) false (λ f e. (found_refutation found f e).no_width) (λ e. not_true (sym width ∙ e))),
  );
  names = λ words f e.
      let a = given-some (found_in words) refutation_by f e in
      let names = found_refutation a.0 f a.2 in (names.cnf, names.adds);
}
