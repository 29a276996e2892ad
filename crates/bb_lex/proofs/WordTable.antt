-- A reserved word is found among those that begin with its first byte.
use Rattle.std.proofs.Common.{◌≡◌, ℕ, ◌<◌, ◌≤◌, Bool, true, false, cond, Some, None, List, [], ◌∷◌, ◌++◌, length, get_or, sym, refl, ap, ◌∙◌, subst, arith, ⊎_elim, eqb-true}
use Rattle.std.specs.Prelude.{◌&&◌, ◌==◌, not, bytes_eq}
use Rattle.bb_lex.specs.declared.keyword.Keyword.{Keyword}
use Rattle.bb_lex.specs.Words.{entry_of, reserved, keyword_of, words_a, words_b, words_c, words_d, words_e, words_f, words_g, words_h, words_i, words_j, words_l, words_m, words_n, words_o, words_p, words_r, words_s, words_t, words_u, words_v, words_w, words_x}
use Rattle.bb_lex.specs.Inside.Words.{words_by}
use Rattle.bb_lex.proofs.Choices.{cases_of, cond_true, cond_false, left_true, right_true, false_and}
use Rattle.std.proofs.lemmas.Bool.Decides.{nat_tests}

abbrev begins_with : ℕ → List ℕ → Bool
begins_with c [] = false
begins_with c (b ∷ bytes) = c == b

abbrev all_begin : ℕ → List (List ℕ × Keyword) → Bool
all_begin c [] = true
all_begin c (entry ∷ entries) = begins_with c entry.0 && all_begin c entries

abbrev none_begins : ℕ → List (List ℕ × Keyword) → Bool
none_begins c [] = true
none_begins c ((word, keyword) ∷ entries) = not (begins_with c word) && none_begins c entries

-- a word does not begin as another one does
word_differs : (c b : ℕ) (word bytes : List ℕ) → begins_with c word ≡ true → (b == c) ≡ false → bytes_eq word (b ∷ bytes) ≡ false
word_differs c b [] bytes begins unlike = absurd (cc)
word_differs c b (d ∷ word) bytes begins unlike = false_and (d == b) (bytes_eq word bytes) (grind (arith, nat_tests))

word_misses : (b : ℕ) (word bytes : List ℕ) → not (begins_with b word) ≡ true → bytes_eq word (b ∷ bytes) ≡ false
word_misses b [] bytes unlike = refl
word_misses b (d ∷ word) bytes unlike = false_and (d == b) (bytes_eq word bytes) (grind (arith, nat_tests))

-- entries that begin otherwise are passed
entry_of-others : (c b : ℕ) (bytes : List ℕ) (xs ys : List (List ℕ × Keyword)) → all_begin c xs ≡ true → (b == c) ≡ false → entry_of (xs ++ ys) (b ∷ bytes) ≡ entry_of ys (b ∷ bytes)
entry_of-others c b bytes [] ys all unlike = refl
entry_of-others c b bytes (x ∷ xs) ys all unlike =
    cond_false (bytes_eq x.0 (b ∷ bytes)) (Some x.1) (entry_of (xs ++ ys) (b ∷ bytes)) (word_differs c b x.0 bytes (left_true _ _ all) unlike)
    ∙ entry_of-others c b bytes xs ys (right_true (begins_with c x.0) _ all) unlike

-- where none begins so, none is found
entry_of-none : (b : ℕ) (bytes : List ℕ) (ys : List (List ℕ × Keyword)) → none_begins b ys ≡ true → entry_of ys (b ∷ bytes) ≡ None
entry_of-none b bytes [] none = refl
entry_of-none b bytes (y ∷ ys) none =
    cond_false (bytes_eq y.0 (b ∷ bytes)) (Some y.1) (entry_of ys (b ∷ bytes)) (word_misses b y.0 bytes (left_true _ _ none))
    ∙ entry_of-none b bytes ys (right_true (not (begins_with b y.0)) _ none)

-- what follows entries is not reached where nothing is found there
entry_of-append : (w : List ℕ) (xs ys : List (List ℕ × Keyword)) → entry_of ys w ≡ None → entry_of (xs ++ ys) w ≡ entry_of xs w
entry_of-append w [] ys none = none
entry_of-append w (x ∷ xs) ys none = ap (λ o. cond (bytes_eq x.0 w) (Some x.1) o) (entry_of-append w xs ys none)

-- groups of entries by their first byte, joined; and the group of a byte
abbrev all_of : List (ℕ × List (List ℕ × Keyword)) → List (List ℕ × Keyword)
all_of [] = []
all_of (group ∷ groups) = group.1 ++ all_of groups

abbrev group_of : List (ℕ × List (List ℕ × Keyword)) → ℕ → List (List ℕ × Keyword)
group_of [] b = []
group_of (group ∷ groups) b = cond (b == group.0) group.1 (group_of groups b)

abbrev are_apart : List (ℕ × List (List ℕ × Keyword)) → Bool
are_apart [] = true
are_apart (group ∷ groups) = (all_begin group.0 group.1 && none_begins group.0 (all_of groups)) && are_apart groups

entry_of-groups : (groups : List (ℕ × List (List ℕ × Keyword))) (b : ℕ) (bytes : List ℕ) → are_apart groups ≡ true → entry_of (all_of groups) (b ∷ bytes) ≡ entry_of (group_of groups b) (b ∷ bytes)
entry_of-groups [] b bytes apart = refl
entry_of-groups (group ∷ groups) b bytes apart =
    let here : (all_begin group.0 group.1 && none_begins group.0 (all_of groups)) ≡ true = left_true _ _ apart in
    ⊎_elim
    (λ yes.
    let is : group.0 ≡ b = sym (eqb-true b group.0 yes) in
    entry_of-append (b ∷ bytes) group.1 (all_of groups) (entry_of-none b bytes (all_of groups) (subst (λ n. none_begins n (all_of groups) ≡ true) is (right_true (all_begin group.0 group.1) _ here)))
    ∙ ap (λ xs. entry_of xs (b ∷ bytes)) (sym (cond_true (b == group.0) group.1 (group_of groups b) yes)))
    (λ no.
    entry_of-others group.0 b bytes group.1 (all_of groups) (left_true _ _ here) no
    ∙ entry_of-groups groups b bytes (right_true (all_begin group.0 group.1 && none_begins group.0 (all_of groups)) _ apart)
    ∙ ap (λ xs. entry_of xs (b ∷ bytes)) (sym (cond_false (b == group.0) group.1 (group_of groups b) no)))
    (cases_of (b == group.0))

abbrev letters : List (ℕ × List (List ℕ × Keyword))
letters = (97, words_a) ∷ (98, words_b) ∷ (99, words_c) ∷ (100, words_d) ∷ (101, words_e) ∷ (102, words_f) ∷ (103, words_g) ∷ (104, words_h) ∷ (105, words_i) ∷ (106, words_j) ∷ (108, words_l) ∷ (109, words_m) ∷ (110, words_n) ∷ (111, words_o) ∷ (112, words_p) ∷ (114, words_r) ∷ (115, words_s) ∷ (116, words_t) ∷ (117, words_u) ∷ (118, words_v) ∷ (119, words_w) ∷ (120, words_x) ∷ []

letters_apart : are_apart letters ≡ true
letters_apart = refl

letters_all : all_of letters ≡ reserved
unfolding reserved
letters_all = refl

group_of-letters : (b : ℕ) → group_of letters b ≡ words_by b
unfolding words_by
group_of-letters b = refl

-- the keyword of bytes is found in the group of the first
pub keyword_of-first : (b : ℕ) (bytes : List ℕ) → entry_of (words_by b) (b ∷ bytes) ≡ keyword_of (b ∷ bytes)
unfolding keyword_of
keyword_of-first b bytes =
    ap (λ xs. entry_of xs (b ∷ bytes)) (sym (group_of-letters b)) ∙ sym (entry_of-groups letters b bytes letters_apart) ∙ ap (λ xs. entry_of xs (b ∷ bytes)) letters_all

pub keyword_of-by_first : (word : List ℕ) → 1 ≤ length word → entry_of (words_by (get_or word 0 0)) word ≡ keyword_of word
keyword_of-by_first [] some = absurd (omega arith)
keyword_of-by_first (b ∷ bytes) some = keyword_of-first b bytes

pub keyword_of-short : (word : List ℕ) → length word < 1 → keyword_of word ≡ None
unfolding keyword_of reserved
keyword_of-short [] short = refl
keyword_of-short (b ∷ bytes) short = absurd (omega arith)

pub ruleset keyword_steps = (keyword_of-by_first, keyword_of-short)
