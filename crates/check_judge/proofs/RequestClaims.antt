-- The claims of requests, by what they intend, and the accesses that fit them.
use Rattle.check_judge.proofs.Words.{FileEntry, bytes_at, Closed, Completed, completed_of, Opens, Operation, operation_of, Place, AreAppended}
use Rattle.check_judge.proofs.Words.{Concludes, Fits, IsAllocationInRange, IsAnsweredBy, LeavesSo, Possibly, Expected, found_by, left_by, touched}
use Rattle.check_judge.proofs.Words.{cells_after, IsCell, ShowsFile, Cell, Claim, At, Full, Leaves, Empty, Same, Resident, Condition, Permits, Table}
use Rattle.check_judge.proofs.Words.{file_removed_by, table_with, FindsFull, Looks, Takes, Access, by_equality, unchanged, changed_at, has_slot, All}
use Rattle.check_judge.proofs.Words.{Contains, List, None, Option, Result, Some, [], ap, append_assoc, arith, false, if◌then◌else◌, inl, inr, int_lt}
use Rattle.check_judge.proofs.Words.{length, map, negsuc, pos, refl, slice_get, subst, suc, sym, take, true, zero, ℕ, ℤ, ◌++◌, ◌+◌, ◌<◌, ◌||◌, ◌∙◌}
use Rattle.check_judge.proofs.Words.{◌∷◌, ◌≡◌, ◌⊎◌, true≢false, and_from, take_more, All-head, All-map, All-tail, All-weaker, slice_get_within}
use Rattle.check_judge.proofs.Words.{same_Some, get_or_from_slice_get, AllByRecursion, AllZip, same_size, list_all-from_AllPass, IsDecided, IsMade}
use Rattle.check_judge.proofs.Words.{answer, IsOpened, Closes, Reads, Updates, nat_tests, all_zipped_more, answer_at_table, bytes_read, intents_of}
use Rattle.check_judge.proofs.Words.{list_intents, single, FoundAt}
use Rattle.check_judge.specs.declared.answered.AnsweredRequest.{AnsweredRequest}
use Rattle.check_judge.specs.declared.judgement.Stop.{Stop}
use Rattle.check_search.specs.Machine.{allows, cell_at, cell_with, is_same, is_taken, may_leave, suits}
use Rattle.check_search.specs.declared.claim.Condition.TheVariants.{Nothing, Something}
use Rattle.fx_base.proofs.Entries.{entry_named}
use Rattle.fx_chain.specs.declared.intent.Finding.{Finding}
use Rattle.fx_chain.specs.declared.intent.Intent.{Intent}
use Rattle.fx_chain.specs.declared.intent.Intent.TheVariants.{Look, Take}
use Rattle.fx_chain.specs.declared.request.Target.TheVariants.{Any, Slot}
use Rattle.fx_order.specs.Access.{IsOf}

-- what was decided of all b is decided of all a, if each a has its b
pub decides_by : (A B X : Type 0) (P : A → Type 0) (Q : B → Type 0) (IsRight : X → A → Type 0) (WasRight : X → B → Type 0) (r : Result X Stop)
    → ((a : A) → P a → (b : B) × Q b × ((x : X) → WasRight x b → IsRight x a)) → Concludes B X Q WasRight r → Concludes A X P IsRight r
decides_by A B X P Q IsRight WasRight r so holds = grind arith

-- The claims of a request's accesses, one after another.

module _ (R : Intent → Access → Type 0) where
  -- the access of an intent
  pub made_at : (xs : List Intent) (i : ℕ) {x : Intent} (accesses : List Access) → slice_get xs i ≡ Some x → AllZip R xs accesses → (a : Access) × R x a
  made_at [] i accesses got all = absurd (cc)
  made_at (y ∷ xs) i [] got all = absurd all
  made_at (y ∷ xs) zero (a ∷ accesses) got all = (a, subst (λ (z : Intent). R z a) (same_Some y _ got) all.0)
  made_at (y ∷ xs) (suc i) (a ∷ accesses) got all = made_at xs i accesses got all.1

  -- the accesses of one intent more
  last_made : (xs : List Intent) (x : Intent) (accesses : List Access) → AllZip R (xs ++ x ∷ []) accesses
      → (own : List Access) × (a : Access) × (accesses ≡ own ++ a ∷ []) × AllZip R xs own × R x a
  last_made [] x [] all = absurd all
  last_made [] x (a ∷ []) all = ([], a, refl, tt, all.0)
  last_made [] x (a ∷ b ∷ accesses) all = absurd all.1
  last_made (y ∷ xs) x [] all = absurd all
  last_made (y ∷ xs) x (a ∷ accesses) all =
      let rest = last_made xs x accesses all.1 in (a ∷ rest.0, rest.1, ap (λ (l : List Access). a ∷ l) rest.2, (all.0, rest.3), rest.4)

  pub one_more : (closes : List Closed) (old new : List Claim) (xs : List Intent) (made : ℕ) {x : Intent} (claim : Claim) → slice_get xs made ≡ Some x
      → ((accesses : List Access) → AllZip R (take made xs) accesses → AreAppended closes old new accesses)
      → ((a : Access) → R x a → Fits closes claim a)
      → (accesses : List Access) → AllZip R (take (made + 1) xs) accesses → AreAppended closes old (new ++ claim ∷ []) accesses
  one_more closes old new xs made {x} claim got so fits accesses all before first =
      let next = take_more xs made x (slice_get_within xs made x got) ∙ ap (λ (y : Intent). take made xs ++ y ∷ []) (get_or_from_slice_get xs made x x got) in
      let p = last_made (take made xs) x accesses (rw next at all) in
      rw (p.2, sym (append_assoc before p.0 (p.1 ∷ []))) (all_zipped_more (Fits closes) new (before ++ p.0) claim p.1 (so p.0 p.3 before first) (fits p.1 p.4))

-- A claim of an access may be made where the access may, and leaves the same files.

-- the file that a permitted access found is at its slot
pub found_at : (table : Table) (a : Access) {slot : ℕ} → touched a ≡ Some slot → Permits table a → found_by a ≡ table.at slot
found_at table a is may = grind arith

pub some_or_none : {X : Type 0} (x : Option X) → ((y : X) × (x ≡ Some y)) ⊎ (x ≡ None)
some_or_none None = inr refl
some_or_none (Some y) = inl (y, refl)

-- the files after an access
pub at_after : (table : Table) (a : Access) {slot : ℕ} → touched a ≡ Some slot → Permits table a
    → (table_with table a).at ≡ changed_at table.at slot (left_by a)
at_after table a is may = grind (arith, unchanged, found_at)

-- an access that is of no slot leaves them
pub untouched : (table : Table) (a : Access) → touched a ≡ None → (table_with table a).at ≡ table.at
untouched table a is = grind arith

pub same_range : (table : Table) (a : Access) → (table_with table a).range ≡ table.range
same_range table a = grind arith

-- a cell after an access, with the file at its slot then
pub moved : (table : Table) (closes : List Closed) (a : Access) (cell : Cell) (file : Option Resident) → IsCell table closes cell
    → ShowsFile closes ((table_with table a).at cell.slot) file → IsCell (table_with table a) closes (record cell { file = file })
moved table closes a cell file now shows = grind (arith, same_size, same_range)

module _ (closes : List Closed) where
  -- a slot that is among the cells shows the file that is there
  cell_shows : {table : Table} (cells : List Cell) (slot : ℕ) → All (IsCell table closes) cells → has_slot cells (Some slot) ≡ true
      → ShowsFile closes (table.at slot) (cell_at cells slot)
  cell_shows [] slot all has = absurd (cc)
  cell_shows {table} (cell ∷ cells) slot all has =
      by_equality cell.slot slot
      (λ b. (b || has_slot cells (Some slot)) ≡ true → ShowsFile closes (table.at slot) (if b then cell.file else cell_at cells slot))
      (λ same _. rw (sym same) (All-head (IsCell table closes) cell cells all).shows)
      (λ _ later. cell_shows cells slot (All-tail (IsCell table closes) cell cells all) later) has

  suited : (condition : Condition) (found : Option Closed) (shown : Option Resident) → ShowsFile closes found shown → Expected condition found
      → suits condition shown ≡ true
  suited condition found shown shows expected = grind arith

  leaving : (found : Option Closed) (shown : Option Resident) → ShowsFile closes found shown → ((f : Closed) → found ≡ Some f → Contains closes f)
      → may_leave shown ≡ true
  leaving found shown shows closed = grind arith

  taken : (table : Table) (cell : Cell) → IsCell table closes cell → Permits table FindsFull → is_taken cell ≡ true
  taken table cell is may = grind arith

  module _ (table : Table) (cells : List Cell) (a : Access) (all : All (IsCell table closes) cells) (may : Permits table a)
      (seen : has_slot cells (touched a) ≡ true) (closed : (f : Closed) → file_removed_by a ≡ Some f → Contains closes f) where
    shown_here : {slot : ℕ} → touched a ≡ Some slot → ShowsFile closes (found_by a) (cell_at cells slot)
    shown_here {slot} is = rw (found_at table a is may) (cell_shows cells slot all (rw is at seen))

    may_go : (leaves : Leaves) {slot : ℕ} → touched a ≡ Some slot → LeavesSo closes leaves a
        → (is_same leaves || may_leave (cell_at cells slot)) ≡ true
    may_go Same is left = refl
    may_go leaves {slot} is left = leaving (found_by a) (cell_at cells slot) (shown_here is) (λ f there. closed f (left.0 ∙ there))

    pub allowed : (claim : Claim) → Fits closes claim a → allows cells claim ≡ true
    allowed (At slot condition leaves) fits =
        and_from _ _ (suited condition (found_by a) (cell_at cells slot) (shown_here fits.0) fits.1) (may_go leaves fits.0 fits.2)
    allowed Full fits = list_all-from_AllPass is_taken cells (All-weaker (IsCell table closes) (λ cell. is_taken cell ≡ true)
        (λ cell is. taken table cell is (rw fits at may)) cells all)

    kept_cell : {slot : ℕ} (file : Option Resident) {cell : Cell} → touched a ≡ Some slot → ShowsFile closes (left_by a) file
        → IsCell table closes cell → IsCell (table_with table a) closes (cell_with slot file cell)
    kept_cell file is shows now = grind (arith, by_equality, moved, at_after)

    all_kept : {slot : ℕ} (file : Option Resident) → touched a ≡ Some slot → ShowsFile closes (left_by a) file
        → All (IsCell (table_with table a) closes) (map (cell_with slot file) cells)
    all_kept {slot} file is shows = grind (arith, All-weaker, kept_cell, All-map (IsCell (table_with table a) closes) (cell_with slot file) cells)

    pub cells_follow : (claim : Claim) → Fits closes claim a → All (IsCell (table_with table a) closes) (cells_after cells claim)
    cells_follow claim fits = grind (arith, at_after, unchanged, found_at, All-weaker, moved, all_kept)

-- The claims of requests, by what they intend.

-- how the answer of a request depends on what its accesses find
module _ (catalogue : List FileEntry) (place : Place) (entry : ℕ) where
  abbrev by : Operation → Option Finding → Completed
  by operation = answer_at_table catalogue place operation

  -- an intent, if there is one
  abbrev IsDecidedAt : (Option Finding → Completed) → Option Intent → Type 0
  IsDecidedAt by None = Unit {0}
  IsDecidedAt by (Some x) = IsDecided place by x

  list_decided : (same_by : Option Finding → Completed) → ((found : Option Finding) → same_by found ≡ same_by None) → (in_list slot : ℕ) (list : List ℤ) (made : ℕ)
      → IsDecidedAt same_by (slice_get (list_intents place in_list slot list) made)
  list_decided same_by same in_list slot [] made = tt
  list_decided same_by same in_list slot (pos n ∷ list) zero = same
  list_decided same_by same in_list slot (pos n ∷ list) (suc made) = list_decided same_by same (in_list + 1) (slot + 1) list made
  list_decided same_by same in_list slot (negsuc zero ∷ list) zero = same
  list_decided same_by same in_list slot (negsuc zero ∷ list) (suc made) = list_decided same_by same (in_list + 1) (slot + 1) list made
  list_decided same_by same in_list slot (negsuc (suc n) ∷ list) made = list_decided same_by same (in_list + 1) (slot + 1) list made

  all_decided : (operation : Operation) (made : ℕ) → IsDecidedAt (by operation) (slice_get (intents_of place entry operation) made)
  all_decided (Opens name (Slot slot)) zero = λ _. refl
  all_decided (Opens name Any) zero = (refl, refl, λ _. refl)
  all_decided (Reads slot off len) zero = (refl, λ file. (bytes_at catalogue file.entry off len, refl))
  all_decided (Closes slot) zero = (refl, λ _. refl)
  all_decided (Updates off list) made = list_decided (by (Updates off list)) (λ _. refl) 0 off list made
  all_decided operation (suc made) = tt

  pub decided : (operation : Operation) (made : ℕ) {x : Intent} → slice_get (intents_of place entry operation) made ≡ Some x
      → IsDecided place (by operation) x
  decided operation made got = subst (IsDecidedAt (by operation)) got (all_decided operation made)

-- so the completion is the answer by what each access found
module _ (it : AnsweredRequest) where
  abbrev pub intents : List Intent
  intents = intents_of it.place it.entry (operation_of it.request.now.op)

  same_made : ((found : Option Finding) → completed_of it.c.now ≡ answer it found) → (xs : List Intent) (own : List Access)
      → AllByRecursion (IsAllocationInRange it.setting.size it.setting.range) own → AllZip IsOf xs own → AllZip (IsMade it) xs own
  same_made said [] [] inside fits = tt
  same_made said (x ∷ xs) (a ∷ own) inside fits = grind (arith, same_made said xs own inside.1 fits.1)
  same_made said [] (a ∷ own) inside fits = absurd fits
  same_made said (x ∷ xs) [] inside fits = absurd fits

  pub all_made : (own : List Access) → Possibly it.setting.size it.setting.range (IsAnsweredBy it) own → AllZip (IsMade it) intents own
  all_made own done = grind (arith, single, answer, same_made)

-- the bytes of the answer by a file that is found
pub got_by_entry : (catalogue : List FileEntry) (place : Place) (operation : Operation) (file : Closed)
    → (answer_at_table catalogue place operation (Some (FoundAt (Some file)))).got ≡ bytes_read catalogue operation file.entry
got_by_entry catalogue place operation file = grind arith

not_negative : (n : ℕ) → int_lt (pos n) (pos 0) ≡ false
not_negative n = grind (arith, nat_tests)

module _ (it : AnsweredRequest) {slot : ℕ} where
  -- a request that looks a slot up and fails
  pub look_failed : IsDecided it.place (answer it) (Look slot) → int_lt (completed_of it.c.now).res (pos 0) ≡ true
      → (a : Access) → IsMade it (Look slot) a
      → Fits it.setting.closes.now (At slot Nothing Same) a × (completed_of it.c.now ≡ answer it (Some (FoundAt None)))
  look_failed d low a made = failed made.0.0 made.0.1 (rw made.0.1 at made.2)
    where
      failed : (found : Option Closed) → a ≡ Looks slot found → completed_of it.c.now ≡ answer it (Some (FoundAt found))
          → Fits it.setting.closes.now (At slot Nothing Same) a × (completed_of it.c.now ≡ answer it (Some (FoundAt None)))
      failed None is said = (rw is (refl, refl, refl), said)
      failed (Some file) is said =
          let given = d.1 file in
          absurd (true≢false (sym low ∙ (ap (λ (e : Completed). int_lt e.res (pos 0)) (said ∙ given.1) ∙ not_negative (length given.0))))

  -- a request that takes a file and doesn't fail
  pub take_recorded : IsDecided it.place (answer it) (Take slot) → int_lt (completed_of it.c.now).res (pos 0) ≡ false
      → (other : Closed) (a : Access) → IsMade it (Take slot) a
      → Fits it.setting.closes.now (At slot Something Empty) a × (completed_of it.c.now ≡ answer it (Some (FoundAt (Some other))))
  take_recorded d high other a made = taken made.0.0 made.0.1 (rw made.0.1 at made.2)
    where
      taken : (found : Option Closed) → a ≡ Takes slot found → completed_of it.c.now ≡ answer it (Some (FoundAt found))
          → Fits it.setting.closes.now (At slot Something Empty) a × (completed_of it.c.now ≡ answer it (Some (FoundAt (Some other))))
      taken None is said =
          absurd (true≢false (sym d.0 ∙ (ap (λ (e : Completed). int_lt e.res (pos 0)) (sym said) ∙ high)))
      taken (Some file) is said = (rw is (refl, (file, refl), (refl, refl)), said ∙ (d.1 file ∙ sym (d.1 other)))

-- an entry of the catalogue alone has the name of a request
pub only_so : (catalogue : List FileEntry) (operation : Operation) (entry : ℕ) → IsOpened catalogue operation entry
    → ((k : ℕ) → k < length catalogue → IsOpened catalogue operation k → k ≡ entry) → (other : ℕ) → IsOpened catalogue operation other → other ≡ entry
only_so catalogue operation entry is each other holds = grind (arith, entry_named)
