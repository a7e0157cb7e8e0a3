-- Claims: what completions imply for the accesses that were made, one claim for each access, and
-- the claims of all chains of a submission.
use Rattle.std.specs.Prelude.{◌≡◌, ◌+◌, ◌<◌, ◌≤◌, ◌++◌, ℕ, pos, int_lt, true, List, [], length}
use Rattle.std.specs.Prelude.{slice_get, slice_index_or, Option, Some, None, Result, Ok, Err, Bool}
use Rattle.check_judge.specs.Words.{Vec, AllZip, AllByRecursion, Identity, Closed, Completed}
use Rattle.check_judge.specs.Words.{completed, completed_of, answer_at_table, intents_of}
use Rattle.check_judge.specs.Words.{operation_of, Asked, Place, IsOf, file_removed_by}
use Rattle.check_judge.specs.Words.{accesses_of_chain, finding_of, last_finding, accesses_of}
use Rattle.check_judge.specs.Words.{Access, ChainAccess, IsResident, Same, Empty, File, Claim}
use Rattle.check_judge.specs.Words.{MatchBool, FileEntry, canceled, AreChainsDone, IsChainDone}
use Rattle.fx_chain.specs.declared.intent.Finding.{Finding}
use Rattle.fx_chain.specs.declared.intent.Finding.TheVariants.{At as FoundAt, Free}
use Rattle.fx_chain.specs.declared.intent.Finding.TheVariants.{Full as FoundFull}
use Rattle.fx_chain.specs.declared.intent.Intent.{Intent}
use Rattle.fx_chain.specs.declared.intent.Intent.TheVariants.{Allocate, Look, Take}
use Rattle.fx_order.specs.declared.access.Access.TheVariants.{Looks, Puts, Clears, Takes, Allocates}
use Rattle.fx_order.specs.declared.access.Access.TheVariants.{FindsFull}
use Rattle.check_search.specs.declared.claim.Condition.{Condition}
use Rattle.check_search.specs.declared.claim.Condition.TheVariants.{Anything, Nothing}
use Rattle.check_search.specs.declared.claim.Condition.TheVariants.{NothingToTake, Something, Bytes}
use Rattle.check_search.specs.declared.claim.Leaves.{Leaves}
use Rattle.check_search.specs.declared.claim.Claim.TheVariants.{At, Full}
use Rattle.check_judge.specs.declared.judgement.Stop.{Stop}
use Rattle.check_judge.specs.declared.judgement.Stop.TheVariants.{Refuted}
use Rattle.check_judge.specs.declared.answered.AnsweredRequest.{AnsweredRequest}
use Rattle.check_judge.specs.declared.answered.ClaimSetting.{ClaimSetting}

-- the slot of an access
abbrev pub touched : Access → Option ℕ
touched (Looks slot found) = Some slot
touched (Puts slot file removed) = Some slot
touched (Clears slot removed) = Some slot
touched (Takes slot removed) = Some slot
touched (Allocates slot file) = Some slot
touched FindsFull = None

-- the file that it found there
abbrev pub found_by : Access → Option Identity
found_by (Looks slot found) = found
found_by (Puts slot file removed) = removed
found_by (Clears slot removed) = removed
found_by (Takes slot removed) = removed
found_by (Allocates slot file) = None
found_by FindsFull = None

-- the file that is there then
abbrev pub left_by : Access → Option Identity
left_by (Looks slot found) = found
left_by (Puts slot file removed) = Some file
left_by (Clears slot removed) = None
left_by (Takes slot removed) = None
left_by (Allocates slot file) = Some file
left_by FindsFull = None

-- the file that was found is one that the claim speaks of
abbrev pub Expected : Condition → Option Identity → Type 0
Expected Anything found = Unit {0}
Expected Nothing found = found ≡ None
Expected NothingToTake found = found ≡ None
Expected Something found = (file : Identity) × (found ≡ Some file)
Expected (Bytes fits) found =
    (file : Identity) × (found ≡ Some file) × (slice_index_or fits file.entry true ≡ true)

-- the access removed what it found, if it found a file
abbrev pub RemovesFound : Access → Type 0
RemovesFound access = file_removed_by access ≡ found_by access

-- the claim describes the slot after the access
abbrev pub LeavesSo : List Closed → Leaves → Access → Type 0
LeavesSo closes Same access = left_by access ≡ found_by access
LeavesSo closes Empty access = RemovesFound access × (left_by access ≡ None)
LeavesSo closes (File resident) access =
    RemovesFound access
    × ((file : Identity) × (left_by access ≡ Some file) × IsResident closes file resident)

-- the access is one that the claim speaks of
abbrev pub Fits : List Closed → Claim → Access → Type 0
Fits closes (At slot condition leaves) access =
    (touched access ≡ Some slot) × Expected condition (found_by access)
    × LeavesSo closes leaves access
Fits closes Full access = access ≡ FindsFull

-- the stop says that nothing was done so
abbrev pub Refutes : Stop → Type 0
Refutes (Refuted reason) = Unit {0}
Refutes _ = ⊥

-- the value is right of all that was done so, or nothing was
abbrev pub Concludes : (A X : Type 0) → (A → Type 0) → (X → A → Type 0) → Result X Stop → Type 0
Concludes A X IsDone IsRight (Ok x) = (a : A) → IsDone a → IsRight x a
Concludes A X IsDone IsRight (Err stop) = Refutes stop → (a : A) → IsDone a → ⊥

-- an allocation is at a slot of the table and of its allocation range
abbrev pub IsAllocationInRange : ℕ → ℕ × ℕ → Access → Type 0
IsAllocationInRange size range (Allocates slot file) =
    (slot < size) × (range.0 ≤ slot) × (slot < range.0 + range.1)
IsAllocationInRange size range _ = Unit {0}

-- done so, by accesses that this table may permit
abbrev pub Possibly : ℕ → ℕ × ℕ → (List Access → Type 0) → List Access → Type 0
Possibly size range IsDone accesses =
    AllByRecursion (IsAllocationInRange size range) accesses × IsDone accesses

-- one claim of each of the accesses is appended
abbrev pub AreAppended : List Closed → List Claim → List Claim → List Access → Type 0
AreAppended closes old new accesses = (before : List Access) → AllZip (Fits closes) old before
    → AllZip (Fits closes) new (before ++ accesses)

-- the claims of all that was possibly done so are appended, or nothing was
abbrev pub Appends : ClaimSetting → (List Access → Type 0) → List Claim → List Claim
    → Result (Unit {0}) Stop → Type 0
Appends setting IsDone old new result =
    Concludes (List Access) (Unit {0}) (Possibly setting.size setting.range IsDone)
    (λ _. AreAppended setting.closes.now old new) result

-- the answer of the request, by what the last one of its accesses found
abbrev pub answer : AnsweredRequest → Option Finding → Completed
answer it = answer_at_table it.setting.catalogue.now it.place (operation_of it.request.now.op)

-- the accesses are those that the request intends, and its completion is the answer by what they
-- found
abbrev pub IsAnsweredBy : AnsweredRequest → List Access → Type 0
IsAnsweredBy it accesses =
    AllZip IsOf (intents_of it.place it.entry (operation_of it.request.now.op)) accesses
    × (completed_of it.c.now ≡ answer it (last_finding accesses))

-- the access was intended, this table may permit it, and the completion is the answer by what it
-- found
abbrev pub IsMade : AnsweredRequest → Intent → Access → Type 0
IsMade it intent access =
    IsOf intent access × IsAllocationInRange it.setting.size it.setting.range access
    × (completed_of it.c.now ≡ answer it (Some (finding_of access)))

-- how the answer depends on what an access found: a request fails that found no file or no empty
-- slot, a look-up returns as many bytes as its result, and a change answers the same
abbrev pub IsDecided : Place → (Option Finding → Completed) → Intent → Type 0
IsDecided place answer (Look slot) =
    (int_lt (answer (Some (FoundAt None))).res (pos 0) ≡ true)
    × ((file : Identity) → (got : List ℕ)
    × (answer (Some (FoundAt (Some file))) ≡ completed place (pos (length got)) got))
IsDecided place answer (Take slot) =
    (int_lt (answer (Some (FoundAt None))).res (pos 0) ≡ true)
    × ((file : Identity) → answer (Some (FoundAt (Some file))) ≡ completed place (pos 0) [])
IsDecided place answer (Allocate file) =
    (int_lt (answer (Some FoundFull)).res (pos 0) ≡ true)
    × (answer (Some FoundFull) ≡ answer (Some (FoundAt None)))
    × ((slot : ℕ) → answer (Some (Free slot)) ≡ completed place (pos slot) [])
IsDecided place answer intent = (found : Option Finding) → answer found ≡ answer None

-- the claims of each chain, the first one's first, are those of its accesses of an order
abbrev pub AreClaims : List Closed → List (Vec Claim) → List ChainAccess → Type 0
AreClaims closes chains order = (k : ℕ) (claims : Vec Claim) → slice_get chains k ≡ Some claims
    → AllZip (Fits closes) claims.items (accesses_of_chain (k + 1) order)

-- the chains from this one on have these completions by an order whose accesses this table may
-- permit
pub record AreDone (catalogue : List FileEntry) (size : ℕ) (range : ℕ × ℕ) (submission chain : ℕ)
    (runs : List (List Asked)) (completions : List Completed) (order : List ChainAccess)
    : Type 0 where
  pub possible : AllByRecursion (IsAllocationInRange size range) (accesses_of order)
  pub done : AreChainsDone catalogue size submission chain runs order completions

-- the members of a chain from this place on were canceled if it was cut, else they made these
-- accesses
abbrev pub AreMembersDone :
    ClaimSetting → Bool → Place → List Asked → List Completed → List Access → Type 0
AreMembersDone setting cut place requests completions accesses =
    MatchBool cut ((accesses ≡ []) × (completions ≡ canceled place requests))
    (IsChainDone setting.catalogue.now setting.size place requests accesses completions)
