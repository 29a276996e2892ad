-- Lists of texts: of bits by their numbers, of scopes, and of boxes.
use Rattle.std.proofs.Common.{◌≡◌, ℕ, zero, suc, ◌+◌, ◌<◌, ◌≤◌, true, false, if◌then◌else◌, List, [], ◌∷◌, ◌++◌, map, filter, take, drop, length, get_or, Option, Some, None, refl, sym, ap, ap₂, ◌∙◌, subst, arith, append-nil}
use Rattle.std.specs.Prelude.{◌≢◌, All, AllPairs, IfNone, IfSome, slice_get}
use Rattle.std.specs.List.{AllZip}
use Rattle.std.proofs.Math.Seq.{take-suc}
use Rattle.std.proofs.lemmas.List.{length-map, map-append, take_all}
use Rattle.std.proofs.lemmas.List.Elements.{filter-append}
use Rattle.std.proofs.lemmas.Option.{slice_get-get_or, slice_get_within, get_or_from_slice_get}
use Rattle.bb_ast.specs.Syntax.{PlainModule}
use Rattle.bb_net.specs.Pairs.{BoxTexts}
use Rattle.bb_elab.specs.declared.elaboration.Elaborated.{Elaborated}
use Rattle.bb_blast.specs.declared.template.ModuleTemplate.{ModuleTemplate}
use Rattle.bb_blast.specs.declared.placed.Placed.{Placed}
use Rattle.bb_bits.specs.Closures.{IsFirstRepeat}
use Rattle.bb_design.specs.Hierarchy.{Design, Scope, root, scopes, boxes, is_box}
use Rattle.bb_bits.specs.Inside.Places.{AreAt}
use Rattle.bb_design.specs.NetBits.{Bit, net_order}
use Rattle.bb_blast.specs.Inside.Placements.{IsScopeAt, ArePlaced, AreTemplated}
use Rattle.bb_elab.specs.Inside.Stages.{IsElaborated}
use Rattle.bb_implements.specs.Implements.{box_number, box_texts}
use Rattle.bb_lemmas.proofs.Members.{all_from}
use Rattle.bb_lemmas.proofs.Places.{head_same, some_at}
use Rattle.bb_elab.proofs.ReadBits.{zip_there}
use Rattle.bb_lemmas.proofs.Turns.{zip_both}

pub taken-push : {A : Type 0} (xs : List A) (i : ℕ) (x : A) → slice_get xs i ≡ Some x → take (i + 1) xs ≡ take i xs ++ x ∷ []
taken-push xs i x at =
    let next : i + 1 ≡ suc i = omega arith in
    ap (λ n. take n xs) next ∙ take-suc xs i x (slice_get_within xs i x at) ∙ ap (λ y. take i xs ++ y ∷ []) (get_or_from_slice_get xs i x x at)

-- what is at the place of a number
pub at_each : {A : Type 0} (all : List A) (ks : List ℕ) (xs : List A) → AreAt all ks xs → (i k : ℕ) → slice_get ks i ≡ Some k → (x : A) × (slice_get xs i ≡ Some x) × (slice_get all k ≡ Some x)
at_each all [] xs at i k is = absurd (grind (arith, is))
at_each all (l ∷ ks) [] at i k is = cc
at_each all (l ∷ ks) (x ∷ xs) at zero k is = (x, refl, ap (slice_get all) (same is) ∙ head_same (slice_get all l) (Some x) (map (slice_get all) ks) (map Some xs) at)
  where
    same : Some l ≡ Some k → k ≡ l
    same e = grind (arith, e)
at_each all (l ∷ ks) (x ∷ xs) at (suc i) k is = at_each all ks xs (ap (drop 1) at) i k is

pub at_long : {A : Type 0} (all : List A) (ks : List ℕ) (xs : List A) → AreAt all ks xs → length ks ≡ length xs
at_long all ks xs at = sym (length-map ks (slice_get all)) ∙ ap length at ∙ length-map xs Some

-- one more text
pub named_more : {A : Type 0} (all : List A) (text : A → List ℕ) (ks : List ℕ) (i k : ℕ) → i < length ks → k ≡ get_or ks i 0 → (n : List ℕ) → ((x : A) → slice_get all k ≡ Some x → n ≡ text x)
    → (old now : List (List ℕ)) (xs : List A) → AreAt all ks xs → old ≡ map text (take i xs) → now ≡ old ++ n ∷ [] → now ≡ map text (take (i + 1) xs)
named_more all text ks i k lt is n named old now xs at before more =
    let x = at_each all ks xs at i k (slice_get-get_or ks i 0 lt ∙ ap Some (sym is)) in
    more ∙ ap₂ (λ l m. l ++ m ∷ []) before (named x.0 x.2) ∙ sym (map-append text (take i xs) (x.0 ∷ [])) ∙ ap (map text) (sym (taken-push xs i x.0 x.1))

-- all of them
pub named_all : {A : Type 0} (all : List A) (text : A → List ℕ) (ks : List ℕ) (i : ℕ) → length ks ≤ i → (xs : List A) → AreAt all ks xs → map text (take i xs) ≡ map text xs
named_all all text ks i past xs at = ap (map text) (take_all i xs (omega (arith, past, at_long all ks xs at)))

-- scopes that are boxes

-- the scope with the next number is kept where it is a box
pub boxes_more : (d : Design) (i : ℕ) (s : Scope) → IsScopeAt d i s → filter is_box (take (i + 1) (scopes d)) ≡ filter is_box (take i (scopes d)) ++ (if is_box s then s ∷ [] else [])
boxes_more d i s at = ap (filter is_box) (taken-push (scopes d) i s at) ∙ filter-append is_box (take i (scopes d)) (s ∷ [])

module _ (d : Design) (all : List Placed) (are : ArePlaced d all) (i : ℕ) (p : Placed) (at : slice_get all i ≡ Some p) (old : List ℕ) (before : AllZip (IsScopeAt d) old (filter is_box (take i (scopes d)))) where
  abbrev here : (s : Scope) × (slice_get (scopes d) i ≡ Some s)
  here = some_at (scopes d) i (omega (arith, slice_get_within all i p at, are.count))

  pub boxed_kept : p.boxed ≡ true → (now : List ℕ) → now ≡ old ++ i ∷ [] → AllZip (IsScopeAt d) now (filter is_box (take (i + 1) (scopes d)))
  boxed_kept boxed now is =
      let s = here in
      let is_one = sym (are.each i s.0 p s.1 at).boxed ∙ boxed in
      subst (λ l. AllZip (IsScopeAt d) l (filter is_box (take (i + 1) (scopes d)))) (sym is)
      (subst (AllZip (IsScopeAt d) (old ++ i ∷ [])) (sym (boxes_more d i s.0 s.1 ∙ ap (λ b. filter is_box (take i (scopes d)) ++ (if b then s.0 ∷ [] else [])) is_one))
      (zip_both (IsScopeAt d) old (filter is_box (take i (scopes d))) (i ∷ []) (s.0 ∷ []) before (s.1, tt)))

  pub boxed_left : p.boxed ≡ false → AllZip (IsScopeAt d) old (filter is_box (take (i + 1) (scopes d)))
  boxed_left plain =
      let s = here in
      let is_none = sym (are.each i s.0 p s.1 at).boxed ∙ plain in
      subst (AllZip (IsScopeAt d) old) (sym (boxes_more d i s.0 s.1 ∙ ap (λ b. filter is_box (take i (scopes d)) ++ (if b then s.0 ∷ [] else [])) is_none ∙ append-nil (filter is_box (take i (scopes d))))) before

-- elements that go together, by their number
pub zip_at : {A B : Type 0} (R : A → B → Type 0) (xs : List A) (ys : List B) → AllZip R xs ys → (i : ℕ) (x : A) → slice_get xs i ≡ Some x → (y : B) × (slice_get ys i ≡ Some y) × R x y
zip_at R [] ys all i x is = absurd (grind (arith, is))
zip_at R (u ∷ xs) [] all i x is = absurd all
zip_at R (u ∷ xs) (y ∷ ys) all zero x is = (y, refl, subst (λ z. R z y) (grind (arith, is)) all.0)
zip_at R (u ∷ xs) (y ∷ ys) all (suc i) x is = zip_at R xs ys all.1 i x is

-- the text of a bit, where the scopes and the templates of a design are seen
pub text_seen : (text : List PlainModule) (g : Elaborated) (placed : List Placed) (templates : List ModuleTemplate) → placed ≡ g.placed.items → templates ≡ g.templates.items → (of : Design → Bit → List ℕ) (n : List ℕ) (k : ℕ)
    → ((d : Design) → d.text ≡ text → ArePlaced d placed → AreTemplated d placed templates → (b : Bit) → slice_get (net_order d) k ≡ Some b → n ≡ of d b)
    → (d : Design) → IsElaborated text d g → (b : Bit) → slice_get (net_order d) k ≡ Some b → n ≡ of d b
text_seen text g placed templates scopes made of n k named d has = named d has.of_text (subst (ArePlaced d) (sym scopes) has.elaborated.scopes)
    (subst (λ p. AreTemplated d p templates) (sym scopes) (subst (AreTemplated d g.placed.items) (sym made) has.elaborated.templated))

-- one more text of things that go together with others
pub zipped_more : {A B C : Type 0} (R : A → B → Type 0) (text : B → C) (ks : List A) (xs : List B) → AllZip R ks xs → (i : ℕ) (k : A) → slice_get ks i ≡ Some k → (n : C) → ((x : B) → R k x → n ≡ text x)
    → (old now : List C) → old ≡ map text (take i xs) → now ≡ old ++ n ∷ [] → now ≡ map text (take (i + 1) xs)
zipped_more R text ks xs all i k is n named old now before more =
    let x = zip_at R ks xs all i k is in
    more ∙ ap₂ (λ l m. l ++ m ∷ []) before (named x.0 x.2) ∙ sym (map-append text (take i xs) (x.0 ∷ [])) ∙ ap (map text) (sym (taken-push xs i x.0 x.1))

-- texts in which one is found again, or none
pub reported_again : (o : Option (List ℕ)) (n : List ℕ) → o ≡ Some n → (seen texts : List (List ℕ)) → seen ≡ texts → IfSome o (IsFirstRepeat seen) → IsFirstRepeat texts n
reported_again o n some seen texts same is = subst (λ l. IsFirstRepeat l n) same (subst (λ p. IfSome p (IsFirstRepeat seen)) some is)

pub never_again : (o : Option (List ℕ)) → o ≡ None → (seen texts : List (List ℕ)) → seen ≡ texts → IfNone o (AllPairs ◌≢◌ seen) → AllPairs ◌≢◌ texts
never_again o none seen texts same is = subst (AllPairs ◌≢◌) same (subst (λ p. IfNone p (AllPairs ◌≢◌ seen)) none is)

pub scopes_within : (d : Design) (all : List Placed) → ArePlaced d all → (numbers : List ℕ) (some : List Scope) → AllZip (IsScopeAt d) numbers some → All (λ k. k < length all) numbers
scopes_within d all are numbers some zip = all_from (λ k. k < length all) numbers (λ k has.
    let s = zip_there (IsScopeAt d) numbers some k zip has in
    let inside = slice_get_within (scopes d) k s.0 s.2 in
    omega (arith, inside, are.count))

-- the name of one more box, by its number
pub boxes_turn : (d : Design) (boxed numbers : List ℕ) → AllZip (IsScopeAt d) boxed (boxes d) → (i : ℕ) → i < length numbers → get_or numbers i 0 < length boxed
    → (n : BoxTexts) → ((s : Scope) → IsScopeAt d (get_or boxed (get_or numbers i 0) 0) s → n ≡ box_texts d s)
    → (old now : List BoxTexts) → old ≡ map (λ b. box_texts d (box_number d b)) (take i numbers) → now ≡ old ++ n ∷ [] → now ≡ map (λ b. box_texts d (box_number d b)) (take (i + 1) numbers)
boxes_turn d boxed numbers all i lt within n named old now before more =
    let b = get_or numbers i 0 in
    let s = zip_at (IsScopeAt d) boxed (boxes d) all b (get_or boxed b 0) (slice_get-get_or boxed b 0 within) in
    let here : n ≡ box_texts d (box_number d b) = named s.0 s.2 ∙ ap (box_texts d) (sym (get_or_from_slice_get (boxes d) b s.0 (root d) s.1)) in
    more ∙ ap₂ (λ l m. l ++ m ∷ []) before here ∙ sym (map-append (λ b. box_texts d (box_number d b)) (take i numbers) (b ∷ [])) ∙ ap (map (λ b. box_texts d (box_number d b))) (sym (taken-push numbers i b (slice_get-get_or numbers i 0 lt)))
