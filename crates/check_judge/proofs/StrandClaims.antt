-- Strands: the claims of each chain at some slots.
use Rattle.check_judge.proofs.{inl, inr, ℕ, List, [], ◌∷◌, sym, subst, AllByRecursion, Contains, accesses_of, accesses_of_chain, contains_head}
use Rattle.check_judge.proofs.{contains_tail, Access, ChainAccess, IsAllocationInRange, of_chain, own_first, contains_cases, contains_none, ◌≡◌, ◌⊎◌}
use Rattle.check_judge.proofs.{zero, suc, ◌+◌, ◌≤◌, Bool, true, false, ◌++◌, length, filter, cond, refl, ap, ◌∙◌, arith, slice_get, Some}
use Rattle.check_judge.proofs.{if◌then◌else◌, Vec, AllZip, append-nil, Closed, by_equality, AreClaims, Fits, touched, AreStrands, seen, slot_claimed}
use Rattle.check_judge.proofs.{strand_for, Cell, Claim, Strand, ⊎_elim, nil_from_length, AllZip-long, ◌<◌, map, drop, All, slice_index, slice_set}
use Rattle.check_judge.proofs.{Option, option_to_list, length-map, length-set, All-contains, Contains-append_right, slice_get_within, Table, Permits}
use Rattle.check_judge.proofs.{PermitsAll, table_with, table_after, file_removed_by, files_removed_in, Standing, HasNoOrder, table_of_slots, eq-eqb}
use Rattle.check_judge.proofs.{IsEndOfClaims, Ends, cells_after, is_staying, may_stay, next, IsCell, ShowsFile, has_slot, Resident, All-weaker}
use Rattle.check_judge.proofs.{true≢false, length-drop, drop_more, drop_all, cases_Bool, list_all-from_AllPass, same_Some, slice_get_cases}
use Rattle.check_judge.proofs.{slice_get_past, not_own, Slots, each_set, Completed, next_member, first_member, severs, Asked, Place, AreDone}
use Rattle.check_judge.proofs.{AreMembersDone, Possibly, IsRequestDone, take, both_parts, parts_of, allowed, cells_follow, at_after, moved}
use Rattle.check_judge.proofs.{some_or_none, untouched}
use Rattle.check_judge.proofs.Words.{keeps}
use Rattle.check_search.proofs.Uneven.{slots_after}
use Rattle.check_search.specs.Machine.{HasNoEnd}
use Rattle.check_search.specs.Starts.{starting}
use Rattle.std.proofs.lemmas.List.Folds.{list_any_at}
use Rattle.check_judge.specs.declared.answered.ClaimSetting.{ClaimSetting}

-- a property of an order's accesses holds of its chains' accesses
pub possible_of_chain : (size : ℕ) (range : ℕ × ℕ) (chain : ℕ) (order : List ChainAccess) → AllByRecursion (IsAllocationInRange size range) (accesses_of order)
    → AllByRecursion (IsAllocationInRange size range) (accesses_of_chain chain order)
possible_of_chain size range chain [] all = tt
possible_of_chain size range chain (x ∷ order) all = grind (arith, possible_of_chain size range chain order all.1, of_chain)

-- an access of an order is one of its chain's
pub of_its_chain : (order : List ChainAccess) {x : ChainAccess} → Contains order x → Contains (accesses_of_chain x.chain order) x.access
of_its_chain [] {x} has = absurd (contains_none x has)
of_its_chain (y ∷ order) {x} has = elim (contains_cases y order x has) [
  | inl here ↦ subst (λ (z : ChainAccess). Contains (accesses_of_chain z.chain (y ∷ order)) z.access) (sym here)
      (subst (λ (l : List Access). Contains l y.access) (sym (own_first y order)) (contains_head y.access (accesses_of_chain y.chain order)))
  | inr later ↦ let rest = of_its_chain order later in elim (of_chain y order x.chain) [
    | inl same ↦ subst (λ (l : List Access). Contains l x.access) (sym same.1) (contains_tail y.access (accesses_of_chain x.chain order) x.access rest)
    | inr other ↦ subst (λ (l : List Access). Contains l x.access) (sym other.1) rest
  ]
]

-- The strands of chains, one chain after another.

-- a claim is of the slot of its access
same_slot : (closes : List Closed) (claim : Claim) (a : Access) → Fits closes claim a → touched a ≡ slot_claimed claim
same_slot closes claim a fits = grind arith

-- the claims of these slots are those of the accesses there
pub zip_kept : (closes : List Closed) (cells : List Cell) (claims : List Claim) (accesses : List Access) → AllZip (Fits closes) claims accesses
    → AllZip (Fits closes) (filter (keeps cells) claims) (seen cells accesses)
zip_kept closes cells [] [] all = tt
zip_kept closes cells (x ∷ claims) (a ∷ rest) all =
    rw (same_slot closes x a all.0) (both (keeps cells x) (zip_kept closes cells claims rest all.1))
  where
    both : (b : Bool) → AllZip (Fits closes) (filter (keeps cells) claims) (seen cells rest)
        → AllZip (Fits closes) (cond b (x ∷ filter (keeps cells) claims) (filter (keeps cells) claims))
        (cond b (a ∷ seen cells rest) (seen cells rest))
    both true more = (all.0, more)
    both false more = more
zip_kept closes cells claims accesses all = absurd all

get_old : {X : Type 0} (xs ys : List X) (k : ℕ) {x : X} → slice_get xs k ≡ Some x → slice_get (xs ++ ys) k ≡ Some x
get_old [] ys k is = absurd (cc)
get_old (z ∷ xs) ys zero is = is
get_old (z ∷ xs) ys (suc k) {x} is = get_old xs ys k is

get_last : {X : Type 0} (xs : List X) (x : X) → slice_get (xs ++ x ∷ []) (length xs) ≡ Some x
get_last [] x = refl
get_last (z ∷ xs) x = get_last xs x

pub get_push : {X : Type 0} (xs : List X) {y : X} (k : ℕ) {x : X} → slice_get (xs ++ y ∷ []) k ≡ Some x
    → (slice_get xs k ≡ Some x) ⊎ ((k ≡ length xs) × (y ≡ x))
get_push [] zero is = inr (refl, cc)
get_push [] (suc k) is = absurd (cc)
get_push (z ∷ xs) zero is = inl is
get_push (z ∷ xs) {y} (suc k) {x} is = ⊎_elim (λ old. inl old) (λ new. inr (ap suc new.0, new.1)) (get_push xs k is)

-- the strands of the first chains
pub record SoFar (cells : List Cell) (chains : List (Vec Claim)) (i : ℕ) (strands : List Strand) : Type 0 where
  pub low : (k : ℕ) (strand : Strand) → slice_get strands k ≡ Some strand → strand.chain ≤ i
  pub are : (closes : List Closed) (order : List ChainAccess) → AreClaims closes chains order → AreStrands closes cells i order strands

module _ (cells : List Cell) (chains : List (Vec Claim)) (i : ℕ) (strands : List Strand) (claims own : Vec Claim)
    (is : slice_get chains i ≡ Some claims) (kept : own.items ≡ filter (keeps cells) claims.items) (so : SoFar cells chains i strands) where
  mine : (closes : List Closed) (order : List ChainAccess) → AreClaims closes chains order
      → AllZip (Fits closes) own.items (seen cells (accesses_of_chain (i + 1) order))
  mine closes order recorded = rw kept (zip_kept closes cells claims.items (accesses_of_chain (i + 1) order) (recorded i claims is))

  last_or_before : {chain : ℕ} → chain ≤ i + 1 → (chain ≤ i) ⊎ (chain ≡ i + 1)
  last_or_before {chain} high = grind arith

  without : length own.items ≡ 0 → SoFar cells chains (i + 1) strands
  without none = record {
    low = λ k strand at. let old = so.low k strand at in omega arith;
    are = λ closes order recorded. let before = so.are closes order recorded in record {
      fits = before.fits;
      each = λ chain low high. elim (last_or_before high) [
        | inl old ↦ before.each chain low old
        | inr new ↦
            let seen_now = seen cells (accesses_of_chain (i + 1) order) in
            inr (rw new (nil_from_length seen_now (AllZip-long (Fits closes) own.items seen_now (mine closes order recorded) ∙ none)))
      ];
      once = before.once;
    };
  }

  abbrev added : Strand
  added = record { chain = i + 1; claims = own }

  with_own : SoFar cells chains (i + 1) (strands ++ added ∷ [])
  with_own = record {
    low = λ k strand at. elim (get_push strands k at) [
      | inl old ↦ let before = so.low k strand old in omega arith
      | inr new ↦ rw (sym new.1) (omega arith)
    ];
    are = λ closes order recorded. let before = so.are closes order recorded in record {
      fits = λ k strand at. elim (get_push strands k at) [
        | inl old ↦ before.fits k strand old
        | inr new ↦ rw (sym new.1) (mine closes order recorded)
      ];
      each = λ chain low high. elim (last_or_before high) [
        | inl old ↦ elim (before.each chain low old) [
          | inl there ↦ inl (there.0, there.1, get_old strands (added ∷ []) there.0 there.2, there.3)
          | inr none ↦ inr none
        ]
        | inr new ↦ inl (length strands, added, get_last strands added, sym new)
      ];
      once = λ k j one other at too same. elim (get_push strands k at) [
        | inl old ↦ elim (get_push strands j too) [
          | inl older ↦ before.once k j one other old older same
          | inr new ↦ absurd (omega (arith, so.low k one old, ap (λ (s : Strand). s.chain) new.1))
        ]
        | inr last ↦ elim (get_push strands j too) [
          | inl older ↦ absurd (omega (arith, so.low j other older, ap (λ (s : Strand). s.chain) last.1))
          | inr new ↦ last.0 ∙ sym new.0
        ]
      ];
    };
  }

  pub one_more : (next : List Strand) → next ≡ strands ++ strand_for (i + 1) own → SoFar cells chains (i + 1) next
  one_more next grown = rw grown (by_equality (length own.items) 0 (λ b. SoFar cells chains (i + 1) (strands ++ (if b then [] else added ∷ [])))
      (λ none. rw append-nil (without none)) (λ _. with_own))

-- An order whose accesses fit the claims is, at some slots alone, an order of the claims of these
-- slots.

-- the first one of the claims that are left
first_left : {closes : List Closed} (claims : List Claim) (n : ℕ) {a : Access} (rest : List Access) → AllZip (Fits closes) (drop n claims) (a ∷ rest)
    → (claim : Claim) × (slice_get claims n ≡ Some claim) × Fits closes claim a × AllZip (Fits closes) (drop (n + 1) claims) rest
first_left claims n rest all = elim (slice_get_cases claims n).1 [
  | inl here ↦ let left = rw (drop_more claims n here.0 here.1, here.3) at all in (here.0, here.2, left.0, left.1)
  | inr past ↦ absurd (rw (drop_all n claims past.0) at all)
]

-- the strand of a chain, and its position
abbrev IsAmong : List Strand → ℕ → Type 0
IsAmong strands chain = (i : ℕ) × (strand : Strand) × (slice_get strands i ≡ Some strand) × (strand.chain ≡ chain)

module _ (closes : List Closed) (strands : List Strand) (first : List Cell)
    (once : (i j : ℕ) (one other : Strand) → slice_get strands i ≡ Some one → slice_get strands j ≡ Some other → one.chain ≡ other.chain → i ≡ j) where
  -- the claims that are left are those of the accesses that are left, at these slots
  record Left (table : Table) (at : Standing) (order : List ChainAccess) : Type 0 where
    fits : (i : ℕ) (strand : Strand) → slice_get strands i ≡ Some strand
        → AllZip (Fits closes) (drop (slice_index at.places i) strand.claims.items) (seen first (accesses_of_chain strand.chain order))
    each : (x : ChainAccess) → Contains order x → IsAmong strands x.chain ⊎ (has_slot first (touched x.access) ≡ false)
    long : length at.places ≡ length strands
    slots : (o : Option ℕ) → has_slot at.cells o ≡ has_slot first o
    cells : All (IsCell table closes) at.cells

  -- an access of another slot
  passed : {table : Table} (at : Standing) (x : ChainAccess) (order : List ChainAccess) → has_slot first (touched x.access) ≡ false
      → All (IsCell (table_with table x.access) closes) at.cells → Left table at (x ∷ order) → Left (table_with table x.access) at order
  passed at x order out cells left = grind (arith, of_chain, contains_tail)

  -- an access of one of these slots is the next claim of its chain
  stepped : (table : Table) (at : Standing) (x : ChainAccess) (order : List ChainAccess) → has_slot first (touched x.access) ≡ true
      → Permits table x.access → ((f : Closed) → file_removed_by x.access ≡ Some f → Contains closes f) → Left table at (x ∷ order)
      → (i : ℕ) (strand : Strand) → slice_get strands i ≡ Some strand → strand.chain ≡ x.chain
      → (mid : Standing) × (next strands at i ≡ Some mid) × Left (table_with table x.access) mid order
  stepped table at x order inside may closed left i strand is own =
      let n = slice_index at.places i in
      let recorded = first_left strand.claims.items n (seen first (accesses_of_chain strand.chain order))
      (rw (eq-eqb x.chain strand.chain (sym own), inside) at (left.fits i strand is)) in
      let here = left.slots (touched x.access) ∙ inside in
      let within : i < length at.places = let among = slice_get_within strands i strand is in let long = left.long in omega arith in (
        record { places = slice_set at.places i (n + 1); cells = cells_after at.cells recorded.0 },
        rw (is, recorded.1, allowed closes table at.cells x.access left.cells may here closed recorded.0 recorded.2),
        record {
          fits = λ j. each_set (λ (k m : ℕ). (other : Strand) → slice_get strands k ≡ Some other
              → AllZip (Fits closes) (drop m other.claims.items) (seen first (accesses_of_chain other.chain order))) at.places i (n + 1) 0 within
              (λ other at_i. rw (sym (same_Some strand other (sym is ∙ at_i))) recorded.3) j
              (λ apart other at_j. rw (not_own x order other.chain (λ same. apart (once j i other strand at_j is (same ∙ sym own))))
              at (left.fits j other at_j));
          each = λ y has. left.each y (contains_tail x order y has);
          long = length-set at.places i (n + 1) ∙ left.long;
          slots = λ o. rw (slots_after at.cells recorded.0 o) (left.slots o);
          cells = cells_follow closes table at.cells x.access left.cells may here closed recorded.0 recorded.2;
        },
      )

  -- cells of other slots than an access's
  cells_passed : {table : Table} (a : Access) (cells : List Cell) → Permits table a → has_slot cells (touched a) ≡ false
      → All (IsCell table closes) cells → All (IsCell (table_with table a) closes) cells
  cells_passed a cells may out all = grind (arith, some_or_none, at_after, list_any_at, untouched, moved)

  -- a cell whose file the closes don't have
  stays : (found : Option Closed) (shown : Option Resident) → ShowsFile closes found shown
      → ((file : Closed) → found ≡ Some file → Contains closes file → ⊥) → may_stay shown ≡ true
  stays found shown shows stay = grind arith

  -- no claim is left where no access is, and no file that the closes have
  ended : {table : Table} (at : Standing) → Left table at [] → ((slot : ℕ) (file : Closed) → table.at slot ≡ Some file → Contains closes file → ⊥)
      → IsEndOfClaims strands at
  ended {table} at left stay = record {
    stay = list_all-from_AllPass is_staying at.cells (All-weaker (IsCell table closes) (λ cell. is_staying cell ≡ true)
        (λ cell is. stays (table.at cell.slot) cell.file is.shows (stay cell.slot)) at.cells left.cells);
    over = λ c. elim (some_or_none (slice_get strands c)) [
      | inl there ↦
          let n = slice_index at.places c in
          let claims = there.0.claims.items in
          let none = AllZip-long (Fits closes) (drop n claims) [] (left.fits c there.0 there.1) in
          rw there.1 (slice_get_past claims n (omega (arith, length-drop n claims)))
      | inr none ↦ rw none
    ];
  }

  -- along the order
  along : (order : List ChainAccess) {table : Table} (at : Standing) → Left table at order → PermitsAll table (accesses_of order)
      → ((file : Closed) → Contains (files_removed_in (accesses_of order)) file → Contains closes file)
      → ((slot : ℕ) (file : Closed) → (table_after table (accesses_of order)).at slot ≡ Some file → Contains closes file → ⊥)
      → (path : List ℕ) × Ends strands at path
  along [] {table} at left may removed stay = ([], ended at left stay)
  along (x ∷ order) {table} at left may removed stay =
      let closed : (f : Closed) → file_removed_by x.access ≡ Some f → Contains closes f =
      λ f is. removed f (rw is (contains_head f (files_removed_in (accesses_of order)))) in
      let later : (f : Closed) → Contains (files_removed_in (accesses_of order)) f → Contains closes f =
      λ f has. removed f (Contains-append_right (option_to_list (file_removed_by x.access)) (files_removed_in (accesses_of order)) f has) in
      elim (cases_Bool (has_slot first (touched x.access))) [
        | inl inside ↦ elim (left.each x (contains_head x order)) [
          | inl there ↦
              let step = stepped table at x order inside may.0 closed left there.0 there.1 there.2 there.3 in
              let rest = along order step.0 step.2 may.1 later stay in
              (there.0 ∷ rest.0, (step.0, step.1, rest.1))
          | inr out ↦ absurd (true≢false (sym inside ∙ out))
        ]
        | inr out ↦
            along order at
            (passed at x order out (cells_passed x.access at.cells may.0 (left.slots (touched x.access) ∙ out) left.cells) left) may.1 later stay
      ]

all_zero : (l : List Strand) (k : ℕ) → slice_index (map (λ (strand : Strand). 0) l) k ≡ 0
all_zero [] k = refl
all_zero (x ∷ l) zero = refl
all_zero (x ∷ l) (suc k) = all_zero l k

-- where nothing is seen of accesses, each is of another slot
unseen : (cells : List Cell) (accesses : List Access) {a : Access} → Contains accesses a → seen cells accesses ≡ [] → has_slot cells (touched a) ≡ false
unseen cells [] {a} has none = absurd (contains_none a has)
unseen cells (b ∷ accesses) {a} has none = elim (cases_Bool (has_slot cells (touched b))) [
  | inl inside ↦ let bad = rw inside at none in absurd (cc)
  | inr out ↦ elim (contains_cases b accesses a has) [
    | inl same ↦ rw same out
    | inr later ↦ unseen cells accesses later (rw out at none)
  ]
]

-- if no order of some slots' claims leads to an end, no order fits the claims of the chains that
-- have these strands
pub no_order : (slots : Slots) (closes : List Closed) (chains : List (Vec Claim)) (cells : List Cell) (strands same : List Strand)
    → All (IsCell (table_of_slots slots) closes) cells
    → ((closes : List Closed) (order : List ChainAccess) → AreClaims closes chains order → AreStrands closes cells (length chains) order strands)
    → same ≡ strands → HasNoEnd same (starting same cells) → HasNoOrder (table_of_slots slots) closes chains
unfolding HasNoEnd
no_order slots closes chains cells strands same all strands_are is none order played recorded =
    let are = strands_are closes order recorded in
    let begins : Left closes strands cells are.once (table_of_slots slots) (starting strands cells) order = record {
      fits = λ i strand at. rw (all_zero strands i) (are.fits i strand at);
      each = λ x has.
          let within = All-contains (λ y. (1 ≤ y.chain) × (y.chain ≤ length chains)) order x played.within has in
          elim (are.each x.chain within.0 within.1) [
            | inl there ↦ inl there
            | inr none_seen ↦ inr (unseen cells (accesses_of_chain x.chain order) (of_its_chain order has) none_seen)
          ];
      long = length-map strands (λ strand. 0);
      slots = λ o. refl;
      cells = all;
    } in
    let path = along closes strands cells are.once order (starting strands cells) begins played.permitted played.removed played.stay in
    (rw is at none) path.0 path.1

module _ (setting : ClaimSetting) where
  -- the accesses of a member that wasn't canceled, and those of the later ones
  pub member_parts : (place : Place) (request : Asked) (requests : List Asked) (c : Completed) (cs : List Completed) (accesses : List Access)
      → Possibly setting.size setting.range (AreMembersDone setting false place (request ∷ requests) (c ∷ cs)) accesses
      → (own : List Access) × (others : List Access) × (accesses ≡ own ++ others)
      × Possibly setting.size setting.range (λ l. IsRequestDone setting.catalogue.now setting.size place request.operation l c) own
      × Possibly setting.size setting.range (AreMembersDone setting (severs request c) (next_member place) requests cs) others
  member_parts place request requests c cs accesses done =
      let (own, others, d, ds, whole, is, made, behind) = done.1 in
      let parts = both_parts (IsAllocationInRange setting.size setting.range) own others (rw whole at done.0) in
      let head : d ≡ c = cc in
      let tail : ds ≡ cs = cc in
      (own, others, whole, (parts.0, rw head at made), (parts.1, rw (head, tail) at behind))

  -- the accesses and completions of a chain, and those of the later ones
  pub chain_parts : (submission chain : ℕ) (run : List Asked) (runs : List (List Asked)) (cs own others : List Completed)
      → own ≡ take (length run) cs → others ≡ drop (length run) cs → (order : List ChainAccess)
      → AreDone setting.catalogue.now setting.size setting.range submission chain (run ∷ runs) cs order
      → Possibly setting.size setting.range (AreMembersDone setting false (first_member submission chain) run own) (accesses_of_chain chain order)
      × AreDone setting.catalogue.now setting.size setting.range submission (chain + 1) runs others order
  chain_parts submission chain run runs cs own others front back order done =
      let p = parts_of setting.catalogue.now setting.size submission chain run runs order cs done.done in
      ((possible_of_chain setting.size setting.range chain order done.possible, rw front p.0), record { possible = done.possible; done = rw back p.1 })

-- the claims of one chain more
pub claims_more : (closes : List Closed) (lists : List (Vec Claim)) (own : Vec Claim) (order : List ChainAccess) → AreClaims closes lists order
    → AllZip (Fits closes) own.items (accesses_of_chain (length lists + 1) order) → AreClaims closes (lists ++ own ∷ []) order
claims_more closes lists own order so fits = grind (arith, get_push)
