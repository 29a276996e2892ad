-- The kinds of boxes by their keys: how they grow by one, and that they fit the boxes.
use Rattle.std.proofs.Common.{◌≡◌, ◌≢◌, ℕ, ◌+◌, ◌<◌, ◌≤◌, ◌↔◌, Bool, true, false, true≢false, List, [], ◌∷◌, ◌++◌, map, length, take, get_or, AllPairs, Contains, Some, refl, sym, ap, subst, ◌∙◌, inl, inr, arith, length-append}
use Rattle.std.specs.Prelude.{slice_get, if◌then◌else◌}
use Rattle.std.specs.List.{AllZip, list_any, range_with_len}
use Rattle.std.proofs.lemmas.Bool.{cases_lt}
use Rattle.std.proofs.lemmas.List.{get_or_append_left, length-map, map-append, take_more}
use Rattle.std.proofs.lemmas.Option.{get_or_from_slice_get, slice_get_within}
use Rattle.std.proofs.lemmas.Slice.Eq.{bytes_eq-Decides}
use Rattle.std.proofs.lemmas.Slice.Zip.{AllZip-long}
use Rattle.indexmap.specs.IndexSet.{insert_key}
use Rattle.bb_bits.specs.Names.{same_name}
use Rattle.bb_net.specs.Flats.{PinsGoByModules}
use Rattle.bb_net.specs.Kinds.{AreNumberedInOrder, AreKinds, FitKinds, representatives}
use Rattle.bb_net.specs.Laws.KindLaws.{KindsAreOne, KindsGrowAgain, KindsGrowNew, ModulesFit, PlacesAreKinds, PlacesFit}
use Rattle.bb_net.specs.Netlists.{Pins}
use Rattle.bb_net.specs.Pairs.{BoxTexts, NamesPins, box_key}
use Rattle.bb_lemmas.proofs.Members.{none_of}

-- the kinds of keys, and the keys that they show
pub record AreKindsSo (keys : List (List ℕ)) (kinds : List ℕ) (seen : List (List ℕ)) : Type 0 where
  pub are : AreKinds keys kinds
  pub shows : seen ≡ representatives kinds keys
  pub few : length seen ≤ length keys

-- laws of kinds with one key more
pub record Growth : Type 0 where
  pub again : KindsGrowAgain
  pub new : KindsGrowNew
  pub shown_again : (kinds : List ℕ) (keys : List (List ℕ)) (kind : ℕ) (key : List ℕ) → length keys ≡ length kinds → Contains kinds kind → representatives (kinds ++ kind ∷ []) (keys ++ key ∷ []) ≡ representatives kinds keys
  pub shown_new : (kinds : List ℕ) (keys : List (List ℕ)) (kind : ℕ) (key : List ℕ) → length keys ≡ length kinds → (Contains kinds kind → ⊥) → representatives (kinds ++ kind ∷ []) (keys ++ key ∷ []) ≡ representatives kinds keys ++ key ∷ []
  pub counts : (kinds : List ℕ) (keys : List (List ℕ)) (kind : ℕ) → AreNumberedInOrder kinds → length keys ≡ length kinds → (kind < length (representatives kinds keys)) ↔ Contains kinds kind

pub kinds_begin : (keys : List (List ℕ)) (kinds : List ℕ) (seen : List (List ℕ)) → keys ≡ [] → kinds ≡ [] → seen ≡ [] → AreKindsSo keys kinds seen
kinds_begin [] [] [] a b c = record {
  are = record { count = refl; same = λ a b lt also. absurd (omega (arith, lt)); ordered = λ b k lt less. absurd (omega (arith, lt)) };
  shows = refl;
  few = omega arith;
}
kinds_begin (x ∷ xs) kinds seen a b c = cc a
kinds_begin [] (x ∷ xs) seen a b c = cc b
kinds_begin [] [] (x ∷ xs) a b c = cc c

module _ (growth : Growth) (keys : List (List ℕ)) (kinds : List ℕ) (seen now : List (List ℕ)) (key : List ℕ) (kind : ℕ) (so : AreKindsSo keys kinds seen) (occurs : slice_get now kind ≡ Some key) where
  long : length keys ≡ length kinds
  long = sym so.are.count

  grow_again : now ≡ seen → AreKindsSo (keys ++ key ∷ []) (kinds ++ kind ∷ []) now
  grow_again stays = record {
    are = growth.again keys kinds key kind so.are there (get_or_from_slice_get (representatives kinds keys) kind key [] at);
    shows = stays ∙ so.shows ∙ sym (growth.shown_again kinds keys kind key long ((growth.counts kinds keys kind so.are.ordered long).0 there));
    few = omega (arith, so.few, ap length stays, length-append keys (key ∷ []));
  }
    where
      at : slice_get (representatives kinds keys) kind ≡ Some key
      at = ap (λ l. slice_get l kind) (sym (stays ∙ so.shows)) ∙ occurs

      there : kind < length (representatives kinds keys)
      there = slice_get_within (representatives kinds keys) kind key at

  grow_new : now ≡ seen ++ key ∷ [] → (Contains seen key → ⊥) → AreKindsSo (keys ++ key ∷ []) (kinds ++ kind ∷ []) now
  grow_new more none = record {
    are = subst (λ k. AreKinds (keys ++ key ∷ []) (kinds ++ k ∷ [])) (sym last) (growth.new keys kinds key so.are (λ has. none (subst (λ l. Contains l key) (sym so.shows) has)));
    shows = more ∙ ap (λ l. l ++ key ∷ []) so.shows ∙ sym (growth.shown_new kinds keys kind key long (λ has. omega (arith, (growth.counts kinds keys kind so.are.ordered long).1 has, last)));
    few = omega (arith, so.few, ap length more, length-append seen (key ∷ []), length-append keys (key ∷ []));
  }
    where
      at : get_or (seen ++ key ∷ []) kind [] ≡ key
      at = get_or_from_slice_get (seen ++ key ∷ []) kind key [] (ap (λ l. slice_get l kind) (sym more) ∙ occurs)

      within : kind < length (seen ++ key ∷ [])
      within = slice_get_within (seen ++ key ∷ []) kind key (ap (λ l. slice_get l kind) (sym more) ∙ occurs)

      -- the new key follows those that were seen
      place : kind ≡ length seen
      place = elim (cases_lt kind (length seen)) [
        | inl below ↦ absurd (none (kind, below, sym (get_or_append_left seen (key ∷ []) key kind below) ∙ get_or_from_slice_get (seen ++ key ∷ []) kind key key (ap (λ l. slice_get l kind) (sym more) ∙ occurs)))
        | inr past ↦ omega (arith, past, within, length-append seen (key ∷ []))
      ]

      last : kind ≡ length (representatives kinds keys)
      last = place ∙ ap length so.shows

pub grow : (growth : Growth) (keys : List (List ℕ)) (kinds : List ℕ) (seen now : List (List ℕ)) (key : List ℕ) (kind : ℕ) → AreKindsSo keys kinds seen → now ≡ insert_key same_name seen key
    → (k : List ℕ) × (slice_get now kind ≡ Some k) × (same_name key k ≡ true) → AreKindsSo (keys ++ key ∷ []) (kinds ++ kind ∷ []) now
grow growth keys kinds seen now key kind so put stored = by (list_any (same_name key) seen) refl
  where
    occurs : slice_get now kind ≡ Some key
    occurs = stored.1 ∙ ap Some (sym ((bytes_eq-Decides key stored.0).0 stored.2))

    by : (b : Bool) → list_any (same_name key) seen ≡ b → AreKindsSo (keys ++ key ∷ []) (kinds ++ kind ∷ []) now
    by true e = grow_again growth keys kinds seen now key kind so occurs (put ∙ ap (λ b. if b then seen else seen ++ key ∷ []) e)
    by false e = grow_new growth keys kinds seen now key kind so occurs (put ∙ ap (λ b. if b then seen else seen ++ key ∷ []) e)
        (λ has. true≢false (sym ((bytes_eq-Decides key key).1 refl) ∙ none_of (same_name key) seen e key has))

-- the modules of the first boxes, and of one more
pub modules_more : (texts : List BoxTexts) (i : ℕ) (text : BoxTexts) → i < length texts → text ≡ get_or texts i text → map (λ (t : BoxTexts). t.module) (take (i + 1) texts) ≡ map (λ (t : BoxTexts). t.module) (take i texts) ++ text.module ∷ []
modules_more texts i text within at =
    ap (map (λ (t : BoxTexts). t.module)) (take_more texts i text within ∙ ap (λ t. take i texts ++ t ∷ []) (sym at)) ∙ map-append (λ (t : BoxTexts). t.module) (take i texts) (text ∷ [])

-- laws by which the kinds of boxes fit these
pub record Fitting : Type 0 where
  pub one : KindsAreOne
  pub own : PlacesAreKinds
  pub places : PlacesFit
  pub modules : ModulesFit

pub kinds_fit : Fitting → (shared : Bool) (texts : List BoxTexts) (pins : List Pins) (kinds : List ℕ) → AllPairs ◌≢◌ (map (λ (t : BoxTexts). t.path) texts) → PinsGoByModules texts → AllZip NamesPins texts pins
    → AreKinds (map (box_key shared) texts) kinds → FitKinds kinds pins
kinds_fit fitting true texts pins kinds apart by named are = fitting.modules texts pins kinds by named are
kinds_fit fitting false texts pins kinds apart by named are =
    let paths : List (List ℕ) = map (λ (t : BoxTexts). t.path) texts in
    let long : length paths ≡ length pins = length-map texts (λ (t : BoxTexts). t.path) ∙ sym (AllZip-long NamesPins texts pins named) in
    subst (λ l. FitKinds l pins) (sym (fitting.one paths kinds (range_with_len 0 (length paths)) are (fitting.own paths apart) ∙ ap (range_with_len 0) long)) (fitting.places pins)
