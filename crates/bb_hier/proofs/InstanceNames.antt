-- The name of the instance at a place among those that are in some items, looked for item by item.
use Rattle.std.proofs.Common.{◌≡◌, ◌+◌, ◌-◌, ◌<◌, ◌≤◌, ◌++◌, ℕ, zero, suc, List, [], ◌∷◌, map, length, drop, get_or, refl, sym, ap, ◌∙◌, subst, arith}
use Rattle.std.specs.Prelude.{slice_get, IfSome}
use Rattle.std.specs.List.{flat_map}
use Rattle.std.proofs.lemmas.List.{get_or-map, length-map}
use Rattle.bb_ast.specs.declared.module.Call.{Call}
use Rattle.bb_ast.specs.declared.module.Item.{Item}
use Rattle.bb_ast.specs.Inside.Views.{call_view, item_view}
use Rattle.bb_design.specs.Hierarchy.{Instance, instance_of, instances_in}
use Rattle.bb_lemmas.proofs.Places.{got, some_at, in_prefix}

pub names_called : (target : List ℕ) (calls : List Call) → map (λ (i : Instance). i.name) (map (instance_of target) (map call_view calls)) ≡ map (λ (c : Call). c.name) calls
names_called target [] = refl
names_called target (c ∷ calls) = ap (λ l. c.name ∷ l) (names_called target calls)

abbrev pub instances_among : List Item → List Instance
instances_among items = flat_map (λ item. instances_in item.body) (map item_view items)

drop-suc : {A : Type 0} (xs : List A) (k : ℕ) (x : A) → k < length xs → x ≡ get_or xs k x → drop k xs ≡ x ∷ drop (suc k) xs
drop-suc [] k x lt at = absurd (omega (arith, lt))
drop-suc (y ∷ ys) zero x lt at = ap (λ z. z ∷ ys) (sym at)
drop-suc (y ∷ ys) (suc k) x lt at = drop-suc ys k x (omega (arith, lt)) at

one_more : (k : ℕ) → suc k ≡ k + 1
one_more k = omega arith

drop-here : {A : Type 0} (xs : List A) (k : ℕ) (x : A) → k < length xs → x ≡ get_or xs k x → drop k xs ≡ x ∷ drop (k + 1) xs
drop-here xs k x lt at = drop-suc xs k x lt at ∙ ap (λ j. x ∷ drop j xs) (one_more k)

after : {A : Type 0} (xs ys : List A) (k j : ℕ) → k ≡ length xs + j → slice_get (xs ++ ys) k ≡ slice_get ys j
after [] ys k j e = ap (slice_get ys) (omega (arith, e))
after (x ∷ xs) ys zero j e = absurd (omega (arith, e))
after (x ∷ xs) ys (suc k) j e = after xs ys k j (omega (arith, e))

module _ (items : List Item) (place k left : ℕ) (item : Item) (calls : List Call) (lt : k < length items) (at : item ≡ get_or items k item)
    (names : map (λ (i : Instance). i.name) (instances_in (item_view item).body) ≡ map (λ (c : Call). c.name) calls)
    (so_far : slice_get (instances_among items) place ≡ slice_get (instances_among (drop k items)) left) where
  abbrev here : List Instance
  here = instances_in (item_view item).body

  long : length here ≡ length calls
  long = sym (length-map here (λ (i : Instance). i.name)) ∙ ap length names ∙ length-map calls (λ (c : Call). c.name)

  parts : instances_among (drop k items) ≡ here ++ instances_among (drop (k + 1) items)
  parts = ap instances_among (drop-here items k item lt at)

  pub name_found : (c : Call) → left < length calls → c ≡ get_or calls left c → (path now : List ℕ) → now ≡ path ++ c.name → IfSome (slice_get (instances_among items) place) (λ (i : Instance). now ≡ path ++ i.name)
  name_found c within is path now made =
      let x = some_at here left (omega (arith, within, long)) in
      let g = got here left x.0 x.0 x.1 in
      let name : x.0.name ≡ c.name = ap (λ (i : Instance). i.name) (sym g.1) ∙ sym (get_or-map (λ (i : Instance). i.name) here left x.0 [] g.0) ∙ ap (λ l. get_or l left []) names ∙ get_or-map (λ (z : Call). z.name) calls left c [] within ∙ ap (λ (z : Call). z.name) (sym is) in
      subst (λ o. IfSome o (λ (i : Instance). now ≡ path ++ i.name)) (sym (so_far ∙ ap (λ l. slice_get l left) parts ∙ in_prefix here (instances_among (drop (k + 1) items)) left g.0 ∙ x.1)) (made ∙ ap (λ l. path ++ l) (sym name))

  pub name_later : length calls ≤ left → slice_get (instances_among items) place ≡ slice_get (instances_among (drop (k + 1) items)) (left - length calls)
  name_later past = so_far ∙ ap (λ l. slice_get l left) parts ∙ after here (instances_among (drop (k + 1) items)) left (left - length calls) (omega (arith, past, long))

pub none_named : (items : List Item) (place left : ℕ) (k : ℕ) → length items ≤ k → slice_get (instances_among items) place ≡ slice_get (instances_among (drop k items)) left → (P : Instance → Type 0) → IfSome (slice_get (instances_among items) place) P
none_named items place left k past e P = subst (λ o. IfSome o P) (sym (e ∙ ap (λ l. slice_get (instances_among l) left) (none items k past))) tt
  where
    none : {A : Type 0} (xs : List A) (j : ℕ) → length xs ≤ j → drop j xs ≡ []
    none [] zero past = refl
    none [] (suc j) past = refl
    none (x ∷ xs) zero past = absurd (omega (arith, past))
    none (x ∷ xs) (suc j) past = none xs j (omega (arith, past))
