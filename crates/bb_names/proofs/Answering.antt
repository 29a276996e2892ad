-- The first fault of a statement, of a module and of a source.
use Rattle.std.proofs.Common.{◌≡◌, ℕ, ◌+◌, ◌<◌, suc, List, [], ◌∷◌, ◌++◌, length, take, drop, map, get_or, Option, None, Some, refl, sym, ap, subst, ◌∙◌, arith, append-nil, inl, inr}
use Rattle.std.proofs.Math.Seq.{split_at}
use Rattle.std.proofs.lemmas.List.{map-append}
use Rattle.std.specs.Prelude.{◌⊎◌, Result, Ok, Err, MatchResult, IsErrAnd, IfErr, OnOk, option_map}
use Rattle.std.proofs.lemmas.Option.{same_Some}
use Rattle.std.specs.List.{flat_map}
use Rattle.std.specs.Option.{option_or}
use Rattle.bb_ast.specs.Syntax.{PlainModule}
use Rattle.bb_names.specs.declared.fault.NameFault.{NameFault}
use Rattle.bb_names.specs.declared.fault.NameFault.TheVariants as faults
use Rattle.bb_names.specs.Faults.{IsFirstFault, faults_of, statement_faults, twice, unknown, wrong_select, wrong_width, wrong_role}
use Rattle.bb_names.specs.Inside.Firsts.{first_of, noted, nothing, first_fault, Answers}
use Rattle.bb_names.specs.Sites.{Site}
use Rattle.bb_bits.specs.Earlier.{each_from}
use Rattle.bb_names.proofs.Noting.{first_of-append, each_from-append, each_from-push, seen-more}

first_of-map : {A B : Type 0} (f : A → B) (xs : List A) → first_of (map f xs) ≡ option_map f (first_of xs)
first_of-map f [] = refl
first_of-map f (x ∷ xs) = refl

first-then : {A B : Type 0} (f : A → B) (xs : List A) (rest : List B) (o : Option B) → first_of rest ≡ o → first_of (map f xs ++ rest) ≡ option_or (option_map f (first_of xs)) o
first-then f xs rest o e = first_of-append (map f xs) rest ∙ ap (λ z. option_or z (first_of rest)) (first_of-map f xs) ∙ ap (option_or (option_map f (first_of xs))) e

-- the first fault of a statement is the leftmost of the first kind that was found
pub statement-first : (text : List PlainModule) (m : PlainModule) (line : ℕ) (sites : List Site) → first_of (statement_faults text m line sites) ≡ first_fault line (noted text m nothing sites)
statement-first text m line sites =
    first-then (faults.Twice line) (flat_map (twice text m) sites) _ _
    (first-then (faults.Unknown line) (flat_map (unknown text m) sites) _ _
    (first-then (faults.Select line) (flat_map (wrong_select text m) sites) _ _
    (first-then (faults.Width line) (flat_map (wrong_width text m) sites) _ _
    (ap first_of (append-nil (map (faults.Role line) (flat_map (wrong_role text m) sites))) ∙ first_of-map (faults.Role line) (flat_map (wrong_role text m) sites)))))

pub first-empty : {A : Type 0} (xs : List A) → first_of xs ≡ None → xs ≡ []
first-empty [] h = refl
first-empty (x ∷ xs) h = absurd (grind (arith, h))

pub answers_of : {A : Type 0} (result : Result A NameFault) (all : List NameFault) (o : Option NameFault) → first_of all ≡ o → MatchResult result (λ x. o ≡ None) (λ fault. o ≡ Some fault) → Answers result all
answers_of (Ok x) all o e none = first-empty all (e ∙ none)
answers_of (Err fault) all o e some = inr (e ∙ some)

pub ok_of : {A E P : Type 0} (r : Result A E) → P → OnOk r P
ok_of (Ok x) p = p
ok_of (Err e) p = tt

-- elements of which each gives something after the earlier ones
pub each-none : {X Y A : Type 0} (gives : List Y → Y → List A) (v : X → Y) (xs : List X) (i : ℕ) (x : X) → i < length xs → x ≡ get_or xs i x → each_from gives [] (map v (take i xs)) ≡ [] → gives (map v (take i xs)) (v x) ≡ []
    → each_from gives [] (map v (take (i + 1) xs)) ≡ []
each-none gives v xs i x within at before here =
    ap (each_from gives []) (seen-more v xs i x within at) ∙ each_from-push gives [] (map v (take i xs)) (v x) ∙ ap (λ z. z ++ gives (map v (take i xs)) (v x)) before ∙ here

pub each-found : {X Y A : Type 0} (gives : List Y → Y → List A) (v : X → Y) (xs : List X) (i : ℕ) (x : X) (a : A) → i < length xs → x ≡ get_or xs i x → each_from gives [] (map v (take i xs)) ≡ [] → first_of (gives (map v (take i xs)) (v x)) ≡ Some a
    → first_of (each_from gives [] (map v xs)) ≡ Some a
each-found gives v xs i x a within at before here =
    ap (λ z. first_of (each_from gives [] z)) (ap (map v) (split_at xs i x within ∙ ap (λ y. take i xs ++ y ∷ drop (suc i) xs) (sym at)) ∙ map-append v (take i xs) (x ∷ drop (suc i) xs))
    ∙ ap first_of (each_from-append gives [] (map v (take i xs)) (v x ∷ map v (drop (suc i) xs)) ∙ ap (λ z. z ++ each_from gives (map v (take i xs)) (v x ∷ map v (drop (suc i) xs))) before)
    ∙ first_of-append (gives (map v (take i xs)) (v x)) (each_from gives (map v (take i xs) ++ v x ∷ []) (map v (drop (suc i) xs)))
    ∙ ap (λ o. option_or o (first_of (each_from gives (map v (take i xs) ++ v x ∷ []) (map v (drop (suc i) xs))))) here

-- an answer about what follows nothing
pub answers-after : {A : Type 0} (r : Result A NameFault) (prefix back all : List NameFault) → prefix ≡ [] → all ≡ prefix ++ back → Answers r back → Answers r all
answers-after r prefix back all none is h = subst (Answers r) (sym (is ∙ ap (λ z. z ++ back) none)) h

-- an error that is handed on
pub err_answers : {A : Type 0} (r : Result A NameFault) (fault : NameFault) (all : List NameFault) → IsErrAnd r (λ e. e ≡ fault) → (fault ≡ faults.NoMemory) ⊎ (first_of all ≡ Some fault) → Answers r all
err_answers (Ok x) fault all same h = absurd same
err_answers (Err e) fault all same (inl no_memory) = inl (same ∙ no_memory)
err_answers (Err e) fault all same (inr first) = inr (first ∙ ap Some (sym same))

-- the first of the front is the first of all
pub prefix_answers : (prefix back : List NameFault) (fault : NameFault) → (fault ≡ faults.NoMemory) ⊎ (first_of prefix ≡ Some fault) → (fault ≡ faults.NoMemory) ⊎ (first_of (prefix ++ back) ≡ Some fault)
prefix_answers prefix back fault (inl no_memory) = inl no_memory
prefix_answers prefix back fault (inr first) = inr (first_of-append prefix back ∙ ap (λ o. option_or o (first_of back)) first)

-- an item's first fault is the module's, where nothing before it has one
pub item_answers : {X Y : Type 0} (gives : List Y → Y → List NameFault) (v : X → Y) (xs : List X) (i : ℕ) (x : X) (prefix : List NameFault) (fault : NameFault) → i < length xs → x ≡ get_or xs i x → prefix ≡ [] → each_from gives [] (map v (take i xs)) ≡ []
    → (fault ≡ faults.NoMemory) ⊎ (first_of (gives (map v (take i xs)) (v x)) ≡ Some fault) → (fault ≡ faults.NoMemory) ⊎ (first_of (prefix ++ each_from gives [] (map v xs)) ≡ Some fault)
item_answers gives v xs i x prefix fault within at none before (inl no_memory) = inl no_memory
item_answers gives v xs i x prefix fault within at none before (inr first) = inr (ap (λ z. first_of (z ++ each_from gives [] (map v xs))) none ∙ each-found gives v xs i x fault within at before first)

pub first-head : {A : Type 0} (xs : List A) (x : A) → first_of xs ≡ Some x → (rest : List A) × (xs ≡ x ∷ rest)
first-head [] x h = absurd (grind (arith, h))
first-head (y ∷ ys) x h = (ys, ap (λ z. z ∷ ys) (same_Some y x h))

pub if_err : {A E : Type 0} (r : Result A E) (P : E → Type 0) (e : E) → IsErrAnd r (λ x. x ≡ e) → P e → IfErr r P
if_err (Ok x) P e same p = tt
if_err (Err x) P e same p = subst P (sym same) p

pub first_fault_of : (all modules : List PlainModule) (fault : NameFault) → all ≡ modules → (fault ≡ faults.NoMemory) ⊎ (first_of (faults_of all) ≡ Some fault) → (fault ≡ faults.NoMemory) ⊎ IsFirstFault modules fault
first_fault_of all modules fault same (inl no_memory) = inl no_memory
first_fault_of all modules fault same (inr first) = inr (first-head (faults_of modules) fault (ap (λ z. first_of (faults_of z)) (sym same) ∙ first))
