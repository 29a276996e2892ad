-- The constructs of a design one after another: their places are in a row, and their cells are those that the parts of the
-- modules put there, scope by scope.
use Rattle.std.proofs.Common.{◌≡◌, ℕ, zero, suc, ◌+◌, ◌-◌, Bool, true, false, if◌then◌else◌, List, [], ◌∷◌, ◌++◌, map, flat_map, take, length, All, Contains, Option, Some, None, refl, sym, ap, ap₂, ◌∙◌, subst, arith, length-append, append_assoc, append-nil}
use Rattle.std.specs.Prelude.{slice_get, slice_index}
use Rattle.std.specs.List.{AllZip, fold, enumerate_from}
use Rattle.std.specs.Option.{option_map_or}
use Rattle.std.proofs.lemmas.List.{length-map, map-append}
use Rattle.std.proofs.lemmas.List.Elements.{All-nil, All-cons}
use Rattle.std.proofs.lemmas.List.Sums.{fold-append}
use Rattle.bb_expr.specs.declared.step.Lowered.{Lowered}
use Rattle.bb_net.specs.declared.loose.LooseCell.{LooseCell}
use Rattle.bb_blast.specs.declared.template.ModuleTemplate.{ModuleTemplate}
use Rattle.bb_blast.specs.declared.template.Part.{Part}
use Rattle.bb_blast.specs.declared.placed.Placed.{Placed}
use Rattle.bb_design.specs.Hierarchy.{Design, Scope}
use Rattle.bb_design.specs.NetBits.{Bit}
use Rattle.bb_design.specs.Constructs.{Construct, BoxContents}
use Rattle.bb_blast.specs.Inside.Counting.{capped, after}
use Rattle.bb_blast.specs.Inside.Listing.{Sources, Site, CellList, Terminals, given_one, given_all, site_of, with_part, with_parts, with_scope}
use Rattle.bb_blast.specs.Inside.Logic.{constant_place}
use Rattle.bb_blast.proofs.LogicSteps.{step_place}
use Rattle.bb_blast.specs.Inside.ModuleTemplates.{IsPartOf}
use Rattle.bb_implements.specs.Places.{CellName, Constant, Input, NetBit, Step, Joined, Inverted, BoxPin, Numbering, Lowering, Steps, IsLoweringOf, AreSteps, given_at, data_at, places_at}
use Rattle.bb_blast.proofs.BitNumbers.{bit_number, IsSiteOf}
use Rattle.bb_blast.proofs.ListedConstructs.{part_puts}
use Rattle.bb_blast.proofs.ListedParts.{lowereds, Puts, pair}
use Rattle.bb_blast.proofs.PlacesInRow.{Entry, AreInRow, both_rows, no_row, cells_in}
use Rattle.bb_lemmas.proofs.Members.{contains_here, contains_there}
use Rattle.bb_blast.proofs.WholeParts.{Whole, with_whole, step_terminals, HasInputs, IsWholeOf, whole_of}

-- a part where it is; a box has none
pub record Block : Type 0 where
  pub site : Site
  pub item : Option Part

abbrev pub nowhere : Site
nowhere = record { first = 0; starts = []; inner = λ j. 0 }

abbrev pub blocks_in : List Placed → Placed → Option ModuleTemplate → List Block
blocks_in placed p None = []
blocks_in placed p (Some o) = map (λ q. record { site = site_of placed p o; item = Some q }) o.parts.items

abbrev pub blocks_of : List Placed → List ModuleTemplate → Placed → List Block
blocks_of placed templates p = if p.boxed then record { site = nowhere; item = None } ∷ [] else blocks_in placed p (slice_get templates p.module)

abbrev pub with_item : ℕ → ℕ → Site → CellList → Option Part → CellList
with_item nets start site cell_list None = cell_list
with_item nets start site cell_list (Some q) = with_part nets start site cell_list q

abbrev pub with_block : ℕ → ℕ → CellList → Block → CellList
with_block nets start cell_list b = with_item nets start b.site cell_list b.item

fold_at : {A B : Type 0} (f : B → A → B) (a : B) (xs : List A) (k : ℕ) (x : A) → slice_get xs k ≡ Some x → fold f a (take (suc k) xs) ≡ f (fold f a (take k xs)) x
fold_at f a [] k x e = absurd (grind (arith, e))
fold_at f a (y ∷ ys) zero x e = let same : y ≡ x = grind (arith, e) in ap (f a) same
fold_at f a (y ∷ ys) (suc k) x e = fold_at f (f a y) ys k x e

module _ (nets start : ℕ) (placed : List Placed) (templates : List ModuleTemplate) where
  parts_fold : (site : Site) (cell_list : CellList) (qs : List Part) → fold (with_part nets start site) cell_list qs ≡ fold (with_block nets start) cell_list (map (λ q. record { site = site; item = Some q }) qs)
  parts_fold site cell_list [] = refl
  parts_fold site cell_list (q ∷ qs) = parts_fold site (with_part nets start site cell_list q) qs

  scope_fold : (cell_list : CellList) (p : Placed) → with_scope nets start placed templates cell_list p ≡ fold (with_block nets start) cell_list (blocks_of placed templates p)
  scope_fold cell_list p = by p.boxed (slice_get templates p.module)
    where
      by : (b : Bool) (o : Option ModuleTemplate) → (if b then cell_list else with_parts nets start placed p cell_list o) ≡ fold (with_block nets start) cell_list (if b then record { site = nowhere; item = None } ∷ [] else blocks_in placed p o)
      by true o = refl
      by false None = refl
      by false (Some o) = parts_fold (site_of placed p o) cell_list o.parts.items

  pub scopes_fold : (cell_list : CellList) (ps : List Placed) → fold (with_scope nets start placed templates) cell_list ps ≡ fold (with_block nets start) cell_list (flat_map (blocks_of placed templates) ps)
  scopes_fold cell_list [] = refl
  scopes_fold cell_list (p ∷ ps) =
      scopes_fold (with_scope nets start placed templates cell_list p) ps ∙ ap (λ z. fold (with_block nets start) z (flat_map (blocks_of placed templates) ps)) (scope_fold cell_list p)
      ∙ sym (fold-append (with_block nets start) cell_list (blocks_of placed templates p) (flat_map (blocks_of placed templates) ps))

-- what a block implements
abbrev pub IsItemOf : Design → Site → Option Part → Scope × Construct → Type 0
IsItemOf d site None (s, c) = c ≡ BoxContents
IsItemOf d site (Some q) (s, c) = IsSiteOf d s site × IsPartOf d.text s.source q c

abbrev pub IsBlockOf : Design → Block → Scope × Construct → Type 0
IsBlockOf d b x = IsItemOf d b.site b.item x

-- the same with all steps of expressions
pub record WholeBlock : Type 0 where
  pub site : Site
  pub item : Option Whole

abbrev pub with_whole_item : ℕ → ℕ → Site → CellList → Option Whole → CellList
with_whole_item nets start site cell_list None = cell_list
with_whole_item nets start site cell_list (Some q) = with_whole nets start site cell_list q

abbrev pub with_whole_block : ℕ → ℕ → CellList → WholeBlock → CellList
with_whole_block nets start cell_list b = with_whole_item nets start b.site cell_list b.item

abbrev pub IsWholeItemOf : Design → Site → Option Whole → Scope × Construct → Type 0
IsWholeItemOf d site None (s, c) = c ≡ BoxContents
IsWholeItemOf d site (Some q) (s, c) = IsSiteOf d s site × IsWholeOf d.text s.source q c

abbrev pub IsWholeBlockOf : Design → WholeBlock → Scope × Construct → Type 0
IsWholeBlockOf d b x = IsWholeItemOf d b.site b.item x

-- blocks put there what all steps of their expressions would put there
pub record AreWhole (d : Design) (bs : List Block) (xs : List (Scope × Construct)) : Type 0 where
  pub wholes : List WholeBlock
  pub occur : AllZip (IsWholeBlockOf d) wholes xs
  pub put : (nets start : ℕ) (cell_list : CellList) → fold (with_block nets start) cell_list bs ≡ fold (with_whole_block nets start) cell_list wholes

pub wholes_of : (d : Design) (bs : List Block) (xs : List (Scope × Construct)) → AllZip (IsBlockOf d) bs xs → ((x : Scope × Construct) → Contains xs x → HasInputs x.0.source x.1) → AreWhole d bs xs
wholes_of d [] [] all some = record { wholes = []; occur = tt; put = λ nets start cell_list. refl }
wholes_of d [] (x ∷ xs) all some = absurd all
wholes_of d (b ∷ bs) [] all some = absurd all
wholes_of d (b ∷ bs) ((s, c) ∷ xs) all some = by b.item refl all.0 (wholes_of d bs xs all.1 (λ x has. some x (contains_there (s, c) xs x has)))
  where
    by : (o : Option Part) → b.item ≡ o → IsItemOf d b.site o (s, c) → AreWhole d bs xs → AreWhole d (b ∷ bs) ((s, c) ∷ xs)
    by None e same rest = record {
      wholes = record { site = b.site; item = None } ∷ rest.wholes;
      occur = (same, rest.occur);
      put = λ nets start cell_list. ap (λ (o : Option Part). fold (with_block nets start) (with_item nets start b.site cell_list o) bs) e ∙ rest.put nets start cell_list;
    }
    by (Some q) e occurs rest =
        let w = whole_of d.text s.source q c occurs.1 (some (s, c) (contains_here (s, c) xs)) in
        record {
          wholes = record { site = b.site; item = Some w.whole } ∷ rest.wholes;
          occur = ((occurs.0, w.occurs), rest.occur);
          put = λ nets start cell_list. ap (λ (o : Option Part). fold (with_block nets start) (with_item nets start b.site cell_list o) bs) e
              ∙ rest.put nets start (with_part nets start b.site cell_list q) ∙ ap (λ (z : CellList). fold (with_whole_block nets start) z rest.wholes) (w.puts nets start b.site cell_list);
        }

-- how the expressions of blocks are lowered
abbrev pub block_lowereds : Option Whole → List Lowered
block_lowereds None = []
block_lowereds (Some q) = lowereds q

abbrev pub steps_of : Option Lowered → Steps
steps_of None = record { all = []; bits = [] }
steps_of (Some l) = record { all = l.steps.items; bits = l.bits.items }

abbrev pub lowereds_at : List WholeBlock → ℕ → List Lowered
lowereds_at bs k = option_map_or (λ b. block_lowereds b.item) (slice_get bs k) []

unfoldable pub lowering_of : List WholeBlock → Lowering
lowering_of bs k x = steps_of (slice_get (lowereds_at bs k) x)

-- what a row of constructs puts between two cell lists
module _ (d : Design) (lowering : Lowering) (number : Numbering) (nets start : ℕ) (cell_list_at : ℕ → CellList) where
  pub record PutAll (k : ℕ) (xs : List (Scope × Construct)) (last : CellList) : Type 0 where
    pub cells : last.cells ≡ (cell_list_at k).cells ++ cells_in (flat_map (places_at lowering number) (enumerate_from k xs))
    pub row : AreInRow number (start + length (cell_list_at k).cells) (flat_map (places_at lowering number) (enumerate_from k xs))
    pub sources : last.sources ≡ given_all (cell_list_at k).sources (map (pair d lowering number nets start) (flat_map (given_at lowering) (enumerate_from k xs)))
    pub next : last.next ≡ given_all (cell_list_at k).next (map (pair d lowering number nets start) (flat_map (data_at lowering) (enumerate_from k xs)))
    pub lowered : All (IsLoweringOf lowering) (enumerate_from k xs)
    pub steps : All (AreSteps lowering number) (enumerate_from k xs)

  joined : (a b c : Sources) (xs ys : List (Bit × CellName)) → b ≡ given_all a (map (pair d lowering number nets start) xs) → c ≡ given_all b (map (pair d lowering number nets start) ys)
      → c ≡ given_all a (map (pair d lowering number nets start) (xs ++ ys))
  joined a b c xs ys p q =
      q ∙ ap (λ z. given_all z (map (pair d lowering number nets start) ys)) p ∙ sym (fold-append given_one a (map (pair d lowering number nets start) xs) (map (pair d lowering number nets start) ys))
      ∙ ap (given_all a) (sym (map-append (pair d lowering number nets start) xs ys))

  pub put_all : (k : ℕ) (xs : List (Scope × Construct)) → ((i : ℕ) (x : Scope × Construct) → slice_get xs i ≡ Some x → Puts d lowering number nets start (k + i, x) (cell_list_at (k + i)) (cell_list_at (suc (k + i))))
      → PutAll k xs (cell_list_at (k + length xs))
  put_all k [] puts =
      let same : k + 0 ≡ k = omega arith in
      record {
        cells = ap (λ n. (cell_list_at n).cells) same ∙ sym (append-nil (cell_list_at k).cells);
        row = no_row number (start + length (cell_list_at k).cells);
        sources = ap (λ n. (cell_list_at n).sources) same;
        next = ap (λ n. (cell_list_at n).next) same;
        lowered = All-nil _;
        steps = All-nil _;
      }
  put_all k (x ∷ xs) puts =
      build (put_all (k + 1) xs (λ i y e. subst (λ n. Puts d lowering number nets start (n, y) (cell_list_at n) (cell_list_at (suc n))) (omega arith) (puts (suc i) y e)))
    where
      here : Puts d lowering number nets start (k, x) (cell_list_at k) (cell_list_at (k + 1))
      here =
          let one : suc k ≡ k + 1 = omega arith in
          let none : k + 0 ≡ k = omega arith in
          subst (λ n. Puts d lowering number nets start (k, x) (cell_list_at k) (cell_list_at n)) one
          (subst (λ n. Puts d lowering number nets start (n, x) (cell_list_at n) (cell_list_at (suc n))) none (puts 0 x refl))

      build : PutAll (k + 1) xs (cell_list_at (k + 1 + length xs)) → PutAll k (x ∷ xs) (cell_list_at (k + suc (length xs)))
      build rest =
          let first = places_at lowering number (k, x) in
          let others = flat_map (places_at lowering number) (enumerate_from (k + 1) xs) in
          let long : length (cell_list_at (k + 1)).cells ≡ length (cell_list_at k).cells + length first =
          ap length here.cells ∙ length-append (cell_list_at k).cells (cells_in first) ∙ ap (λ n. length (cell_list_at k).cells + n) (length-map {B = LooseCell} first (λ (e : Entry). e.1)) in
          subst (λ n. PutAll k (x ∷ xs) (cell_list_at n)) (omega arith) (record {
            cells = rest.cells ∙ ap (λ c. c ++ cells_in others) here.cells ∙ append_assoc (cell_list_at k).cells (cells_in first) (cells_in others) ∙ ap (λ c. (cell_list_at k).cells ++ c) (sym (map-append (λ (e : Entry). e.1) first others));
            row = both_rows number (start + length (cell_list_at k).cells) first others here.row (subst (λ n. AreInRow number n others) (omega (arith, long)) rest.row);
            sources = joined (cell_list_at k).sources (cell_list_at (k + 1)).sources (cell_list_at (k + 1 + length xs)).sources (given_at lowering (k, x)) (flat_map (given_at lowering) (enumerate_from (k + 1) xs)) here.sources rest.sources;
            next = joined (cell_list_at k).next (cell_list_at (k + 1)).next (cell_list_at (k + 1 + length xs)).next (data_at lowering (k, x)) (flat_map (data_at lowering) (enumerate_from (k + 1) xs)) here.next rest.next;
            lowered = All-cons (IsLoweringOf lowering) (k, x) (enumerate_from (k + 1) xs) here.lowered rest.lowered;
            steps = All-cons (AreSteps lowering number) (k, x) (enumerate_from (k + 1) xs) here.steps rest.steps;
          })

-- the blocks of a design
module _ (d : Design) (bs : List WholeBlock) (nets start : ℕ) (first : CellList) (pins_before : ℕ → ℕ) where
  abbrev pub cell_list_at : ℕ → CellList
  cell_list_at k = fold (with_whole_block nets start) first (take k bs)

  abbrev terminals_at : Site → List Lowered → ℕ → Terminals
  terminals_at site ls k = step_terminals start (after nets site.first) site.starts (cell_list_at k).cells ls

  -- the place of a step of an expression of a block
  abbrev number_at : Site → List Lowered → ℕ → ℕ → ℕ → ℕ
  number_at site ls k x j = option_map_or (λ l. step_place start (after nets site.first) site.starts (terminals_at site (take x ls) k).cells l j) (slice_get ls x) 0

  abbrev site_at : ℕ → Site
  site_at k = option_map_or (λ b. b.site) (slice_get bs k) nowhere

  unfoldable pub number_of : Numbering
  number_of (Constant b) = constant_place b
  number_of (Input i) = after 2 i
  number_of (NetBit b) = after nets (bit_number d b)
  number_of (Step k x j) = number_at (site_at k) (lowereds_at bs k) k x j
  number_of (Joined k zero) = 0
  number_of (Joined k (suc x)) = capped (start + length (terminals_at (site_at k) (lowereds_at bs k) k).cells + x)
  number_of (Inverted k) = capped (start + length (terminals_at (site_at k) (lowereds_at bs k) k).cells + (length (lowereds_at bs k) - 1))
  number_of (BoxPin b p) = after (start + pins_before b) p

  pub block_puts : (k : ℕ) (b : WholeBlock) (s : Scope) (c : Construct) → slice_get bs k ≡ Some b → IsWholeBlockOf d b (s, c) → HasInputs s.source c
      → Puts d (lowering_of bs) number_of nets start (k, (s, c)) (cell_list_at k) (cell_list_at (suc k))
  unfolding number_of lowering_of
  block_puts k b s c at is some = subst (Puts d (lowering_of bs) number_of nets start (k, (s, c)) (cell_list_at k)) (sym (fold_at (with_whole_block nets start) first bs k b at)) (by b.item refl is)
    where
      by : (o : Option Whole) → b.item ≡ o → IsWholeItemOf d b.site o (s, c) → Puts d (lowering_of bs) number_of nets start (k, (s, c)) (cell_list_at k) (with_whole_item nets start b.site (cell_list_at k) o)
      by None e same = subst (λ z. Puts d (lowering_of bs) number_of nets start (k, (s, z)) (cell_list_at k) (cell_list_at k)) (sym same) (record {
        cells = sym (append-nil (cell_list_at k).cells);
        row = no_row number_of (start + length (cell_list_at k).cells);
        sources = refl;
        next = refl;
        lowered = All-nil _;
        steps = All-nil _;
      })
      by (Some q) e occurs =
          let ls : lowereds_at bs k ≡ lowereds q = ap (λ (o : Option WholeBlock). option_map_or (λ (b : WholeBlock). block_lowereds b.item) o []) at ∙ ap block_lowereds e in
          let site : site_at k ≡ b.site = ap (λ (o : Option WholeBlock). option_map_or (λ (b : WholeBlock). b.site) o nowhere) at in
          part_puts d (lowering_of bs) number_of nets start (λ b. refl) (λ b. refl) k s b.site occurs.0 (cell_list_at k) q c occurs.1 (record {
            is = λ x l there. ap (λ z. steps_of (slice_get z x)) ls ∙ ap steps_of there;
            occurs = λ x l there j. ap₂ (λ z y. number_at z y k x j) site ls
                ∙ ap (λ (o : Option Lowered). option_map_or (λ (l : Lowered). step_place start (after nets b.site.first) b.site.starts (terminals_at b.site (take x (lowereds q)) k).cells l j) o 0) there;
            joins = λ i. ap₂ (λ z y. capped (start + length (terminals_at z y k).cells + i)) site ls;
            inverts = ap₂ (λ z y. capped (start + length (terminals_at z y k).cells + (length y - 1))) site ls;
          }) some
