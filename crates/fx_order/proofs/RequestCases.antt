-- A request's accesses and completion, by its operation and its entries. A new kind of request adds
-- its cases here.
use Rattle.fx_order.proofs.{◌≡◌, ℕ, zero, suc, ◌+◌, ◌<◌, ◌≤◌, ℤ, pos, negsuc, false, if◌then◌else◌, List, [], ◌∷◌, ◌++◌, length, refl, sym, ap, ◌∙◌}
use Rattle.fx_order.proofs.{arith, inl, inr, Option, Some, slice_get, slice_get_within, leb-false, list_any, or_parts, zero-add, add-zero, int_eq}
use Rattle.fx_order.proofs.{Submitted, Closed, Place, installed, is_bad_entry, list_installs, list_installs-cons, Access, FileEntry, IsCatalogue}
use Rattle.fx_order.proofs.{name_at, Errno, EBADF, ENFILE, ENOMEM, refusal_of, Operation, Opens, Updates, Target, Completed, completed, refusal, Any}
use Rattle.fx_order.proofs.{Slot, Allocates, completion_of_read, IsDoneAtTable, IsRequestDone, InstallsAt, installs_of, is_long_update}
use Rattle.fx_order.proofs.{LONGEST_UPDATE, positions_of, applied, None, either_option, IsOf, IsOpened, answer_at_table, close_answer, count_of}
use Rattle.fx_order.proofs.{intents_of, list_intents, read_answer, Intent, AllZip, Own, own_both, own_none, own_one, own_weaker, both_options, At}
use Rattle.fx_order.proofs.Words.{last_finding}
use Rattle.fx_order.proofs.Intents.{as_many, by_intents, same_opened}
use Rattle.fx_order.proofs.Placed.{placed}
use Rattle.fx_base.proofs.Entries.{entry_named}
use Rattle.fx_chain.specs.declared.intent.Finding.{Finding}
use Rattle.fx_chain.specs.declared.intent.Intent.TheVariants.{Allocate, Put}

-- a file of the catalogue without a tag, of a position in a request's list
pub record IsMarked (entries : ℕ) (place : Place) (in_list : ℕ) (f : Closed) : Type 0 where
  pub mark : f.mark ≡ Submitted place.submission place.chain place.member in_list
  pub inside : f.entry < entries
  pub untagged : f.tag ≡ 0

-- of an entry of this part of a list, which begins at a position of the whole list
pub record IsListed (entries : ℕ) (place : Place) (low : ℕ) (list : List ℤ) (f : Closed) : Type 0 where
  pub at : ℕ
  pub file : ℕ
  pub number : slice_get list at ≡ Some (pos file)
  pub is : IsMarked entries place (low + at) f

-- the files that intents place, with their slots, for a request that completes with this number
abbrev planned_by : Intent → ℤ → List (ℕ × Closed)
planned_by (Put slot file) res = (slot, file) ∷ []
planned_by (Allocate file) (pos slot) = (slot, file) ∷ []
planned_by intent res = []

abbrev planned : List Intent → ℤ → List (ℕ × Closed)
planned [] res = []
planned (x ∷ xs) res = planned_by x res ++ planned xs res

module _ (place : Place) where
  list_placed : (res : ℤ) (in_list slot : ℕ) (list : List ℤ) (own : List Access) → AllZip IsOf (list_intents place in_list slot list) own
      → placed own ≡ planned (list_intents place in_list slot list) res
  list_placed res in_list slot [] [] x = refl
  list_placed res in_list slot [] (a ∷ own) x = absurd x
  list_placed res in_list slot (negsuc (suc n) ∷ list) own x = list_placed res (in_list + 1) (slot + 1) list own x
  list_placed res in_list slot (z ∷ list) [] x = absurd x
  list_placed res in_list slot (z ∷ list) (a ∷ own) x = rw (x.0.1, list_placed res (in_list + 1) (slot + 1) list own x.1) refl

  list_few : (res : ℤ) (in_list slot : ℕ) (list : List ℤ) → length (planned (list_intents place in_list slot list) res) ≡ list_installs list
  list_few res in_list slot [] = refl
  list_few res in_list slot (negsuc zero ∷ list) = grind (arith, list_few res (in_list + 1) (slot + 1) list, list_installs-cons)
  list_few res in_list slot (z ∷ list) = grind (arith, list_few res (in_list + 1) (slot + 1) list, list_installs-cons)

  module _ (entries : ℕ) where
    later : (low : ℕ) (z : ℤ) (list : List ℤ) (f : Closed) → IsListed entries place (low + 1) list f → IsListed entries place low (z ∷ list) f
    later low z list f l = record {
      at = suc l.at;
      file = l.file;
      number = l.number;
      is = let e : low + suc l.at ≡ low + 1 + l.at = omega arith in rw e l.is;
    }

    -- each entry places a file of its own
    list_own : (res : ℤ) (low slot : ℕ) (list : List ℤ) → list_any (is_bad_entry entries) list ≡ false
        → Own (IsListed entries place low list) (planned (list_intents place low slot list) res)
    list_own res low slot [] good = own_none
    list_own res low slot (pos n ∷ list) good =
        own_both {P = IsMarked entries place low} ((slot, installed place low n) ∷ []) (planned (list_intents place (low + 1) (slot + 1) list) res)
        (λ f is. record { at = 0; file = n; number = refl; is = rw add-zero is }) (later low (pos n) list)
        (λ f g is l same. let at : low ≡ low + 1 + l.at = cc (sym is.mark ∙ (same ∙ l.is.mark)) in omega arith)
        (own_one (record { mark = refl; inside = leb-false entries n (or_parts _ _ good).0; untagged = refl }))
        (list_own res (low + 1) (slot + 1) list (or_parts _ _ good).1)
    list_own res low slot (negsuc zero ∷ list) good =
        own_weaker _ (later low (negsuc 0) list) (list_own res (low + 1) (slot + 1) list (or_parts (is_bad_entry entries (negsuc 0)) _ good).1)
    list_own res low slot (z ∷ list) good =
        own_weaker _ (later low z list) (list_own res (low + 1) (slot + 1) list (or_parts (is_bad_entry entries z) _ good).1)

-- a request by its operation, or by its error
pub unless_refused : (place : Place) (P : List Access → Completed → Type 0) (own : List Access) (c : Completed) (catalogue : List FileEntry) (size : ℕ)
    (operation : Operation) → ((errno : Errno) → P [] (refusal place errno))
    → (refusal_of catalogue size operation ≡ None → IsDoneAtTable catalogue place operation own c → P own c)
    → IsRequestDone catalogue size place operation own c → P own c
unless_refused place P own c catalogue size operation refused done given = grind (arith, either_option)

-- The answer is an error, the bytes of a file, or a number.

module _ (catalogue : List FileEntry) (place : Place) (Q : Completed → Type 0) where
  read_so : (off len : ℕ) (found : Option Finding) → Q (refusal place EBADF) → ((file : Closed) → Q (completion_of_read catalogue place file off len))
      → Q (read_answer catalogue place off len found)
  read_so off len found missed given = grind arith

  close_so : (found : Option Finding) → Q (refusal place EBADF) → Q (completed place (pos 0) []) → Q (close_answer place found)
  close_so found missed taken = grind arith

module _ (catalogue : List FileEntry) (place : Place) where
  -- the accesses of a request are all of its operation's, but none if it lacks memory
  are_made : (operation : Operation) (own : List Access) (c : Completed) → IsDoneAtTable catalogue place operation own c
      → length own ≡ (if int_eq c.res (negsuc 11) then 0 else length (positions_of operation))
  are_made operation own c h4 = grind (arith, as_many)

  -- as many as are counted, unless it lacks memory
  pub counted : (size : ℕ) (operation : Operation) (own : List Access) (c : Completed) → IsRequestDone catalogue size place operation own c
      → length own ≡ (if int_eq c.res (negsuc 11) then 0 else count_of catalogue size operation)
  counted size operation own c = grind (arith, are_made)

  pub few_made : (size : ℕ) (operation : Operation) (own : List Access) (c : Completed) → IsRequestDone catalogue size place operation own c
      → length own ≤ length (positions_of operation)
  few_made size operation own c = grind (arith, unless_refused, as_many)

  module _ (size : ℕ) (Q : Completed → Type 0) (own : List Access) (c : Completed) (failed : (errno : Errno) → Q (refusal place errno))
      (given : (file : Closed) (off len : ℕ) → Q (completion_of_read catalogue place file off len))
      (number : (n : ℕ) → n ≤ size → Q (completed place (pos n) []))
      (free : (slot : ℕ) (file : Closed) → own ≡ Allocates slot file ∷ [] → Q (completed place (pos slot) [])) where
    at_table_so : (operation : Operation) → refusal_of catalogue size operation ≡ None → IsDoneAtTable catalogue place operation own c → Q c
    at_table_so operation accepted (inl x) = rw x.1.1 (failed ENOMEM)
    at_table_so operation accepted (inr x) = rw x.1 (by_intents catalogue place
        (λ o l. refusal_of catalogue size o ≡ None → own ≡ l → Q (answer_at_table catalogue place o (last_finding l)))
        (λ name slot entry removed named _ is. number 0 (omega arith))
        (λ name slot entry named _ is. free slot (installed place 0 entry) is) (λ name entry named _ is. failed ENFILE)
        (λ slot off len found _ is. read_so catalogue place Q off len (Some (At found)) (failed EBADF) (λ file. given file off len))
        (λ slot found _ is. close_so catalogue place Q (Some (At found)) (failed EBADF) (number 0 (omega arith)))
        (λ off list l fits good is. let long = (applied (length catalogue) size off list good).fits in number (length list) (omega arith))
        operation own x.0 accepted refl)

    -- the completion is an error, the bytes of a file, or a number
    pub completion_so : (operation : Operation) → IsRequestDone catalogue size place operation own c → Q c
    completion_so operation = unless_refused place (λ _. Q) own c catalogue size operation failed (at_table_so operation)

  -- the completion has the request's place
  pub request_place : (size : ℕ) (operation : Operation) (own : List Access) (c : Completed) → IsRequestDone catalogue size place operation own c
      → c.place ≡ place
  request_place size operation own c = grind (arith, completion_so)

module _ (catalogue : List FileEntry) (size : ℕ) (place : Place) where
  -- the files that a request places are those of its intents, by the entry that it opens
  abbrev ArePlanned : Operation → List Access → Completed → Type 0
  ArePlanned operation own c =
      (entry : ℕ) × IsOpened catalogue operation entry × (placed own ≡ planned (intents_of place entry operation) c.res)

  are_planned : (operation : Operation) (own : List Access) (c : Completed) → IsDoneAtTable catalogue place operation own c → ArePlanned operation own c
  are_planned operation own c h4 = grind (arith, placed, by_intents, list_placed)

  -- by the completion alone, if no name is twice in the catalogue
  pub placed_same : IsCatalogue catalogue → (operation : Operation) (one other : List Access) (c : Completed)
      → IsRequestDone catalogue size place operation one c → IsRequestDone catalogue size place operation other c → placed one ≡ placed other
  placed_same is operation one other c x y = both_options {R = placed one ≡ placed other} (refusal_of catalogue size operation)
      (λ done too.
      let p = are_planned operation one c done in
      let q = are_planned operation other c too in
      p.2 ∙ (ap (λ (entry : ℕ). planned (intents_of place entry operation) c.res) (same_opened is operation p.0 q.0 p.1 q.1) ∙ sym q.2))
      (λ errno done too. ap placed (done.0 ∙ sym too.0)) x y

  -- no more than the request's need of numbers
  few_of : (entry : ℕ) (operation : Operation) (res : ℤ) → length (planned (intents_of place entry operation) res) ≤ installs_of operation
  few_of entry operation res = grind (arith, list_few)

  pub few_placed : (operation : Operation) (own : List Access) (c : Completed) → IsRequestDone catalogue size place operation own c
      → length (placed own) ≤ installs_of operation
  few_placed operation own c = unless_refused place (λ l _. length (placed l) ≤ installs_of operation) own c catalogue size operation
      (λ _. omega arith) (λ _ x. let p = are_planned operation own c x in rw p.2 (few_of p.0 operation c.res))

  -- the file is one that the request installed, which completed so
  pub record IsInstalled (operation : Operation) (c : Completed) (f : Closed) : Type 0 where
    pub at : ℕ
    pub listed : InstallsAt operation at
    pub is : IsMarked (length catalogue) place at f
    pub here : c.place ≡ place
    pub res : ℕ
    pub accepted : c.res ≡ pos res

  open_own : (name : List ℕ) (target : Target) (entry slot n : ℕ) → name_at catalogue entry ≡ Some name
      → Own (IsInstalled (Opens name target) (completed place (pos n) [])) ((slot, installed place 0 entry) ∷ [])
  open_own name target entry slot n named = grind (arith, own_one, entry_named)

  each_at_table : (operation : Operation) (own : List Access) (c : Completed) → refusal_of catalogue size operation ≡ None
      → IsDoneAtTable catalogue place operation own c → Own (IsInstalled operation c) (placed own)
  each_at_table operation own c accepted (inl x) = rw x.1.0 own_none
  each_at_table operation own c accepted (inr x) = rw x.1 (by_intents catalogue place
      (λ o l. refusal_of catalogue size o ≡ None → Own (IsInstalled o (answer_at_table catalogue place o (last_finding l))) (placed l))
      (λ name slot entry removed named _. open_own name (Slot slot) entry slot 0 named)
      (λ name slot entry named _. open_own name Any entry slot slot named)
      (λ name entry named _. own_none) (λ slot off len found _. own_none) (λ slot found _. own_none)
      (λ off list l fits good. rw (list_placed place (pos (length list)) 0 off list l fits)
      (own_weaker (planned (list_intents place 0 off list) (pos (length list)))
      (λ f e. record { at = e.at; listed = (e.file, e.number); is = rw zero-add at e.is; here = refl; res = length list; accepted = refl })
      (list_own place (length catalogue) (pos (length list)) 0 off list (applied (length catalogue) size off list good).good)))
      operation own x.0 accepted)

  -- each file that a request places is one of its own
  pub each_placed : (operation : Operation) (own : List Access) (c : Completed) → IsRequestDone catalogue size place operation own c
      → Own (IsInstalled operation c) (placed own)
  each_placed operation own c = unless_refused place (λ l d. Own (IsInstalled operation d) (placed l)) own c catalogue size operation
      (λ _. own_none) (each_at_table operation own c)

-- a list of the greatest length has no later position
pub listed_short : (operation : Operation) (at : ℕ) → is_long_update operation ≡ false → InstallsAt operation at → at < LONGEST_UPDATE
listed_short (Opens name target) at short is = omega arith
listed_short (Updates off list) at short is = grind (arith, slice_get_within)
listed_short operation at short is = absurd is
