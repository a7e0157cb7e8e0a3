-- The numbers that the functions return for C, and what they write.
use Rattle.std.specs.Ordering.{int_eq}
use Rattle.std.specs.Prelude.{◌≡◌, ◌⊎◌, ℕ, ℤ, false, List, length, Option, Some, None, Result, Ok}
use Rattle.std.specs.Prelude.{Err, MatchResult, MatchOption, Bool, ◌==◌, if◌then◌else◌}
use Rattle.fx_direct.specs.Keys.{FitsBits, bits_of}
use Rattle.fx_direct.specs.Living.{IsFirstFrom}
use Rattle.fx_direct.specs.Phases.{AllUnused, phase_at, requests_in, users_in}
use Rattle.fx_direct.specs.declared.chain.Member.{Member}
use Rattle.fx_direct.specs.declared.chain.Member.TheVariants.{Open, Request, Close as CloseOfChain}
use Rattle.fx_direct.specs.declared.phase.Phase.TheVariants.{Free, Opening, Live, Ending, Closing}
use Rattle.fx_direct.specs.declared.phase.Phase.TheVariants.{Chained}
use Rattle.fx_direct.specs.Refusals.{RefusesAdopt, RefusesEnd, RefusesReserve, RefusesTransition}
use Rattle.fx_direct.specs.Refusals.{RefusesUnchained}
use Rattle.fx_direct.specs.Transitions.{DirectMachine, HasLife, Advances, AdvancesAndAsks}
use Rattle.fx_direct.specs.Transitions.{AdoptsFile, EndsLife, completion, key_concerned}
use Rattle.fx_direct.specs.declared.transition.Transition.TheVariants.{Reserves}
use Rattle.fx_direct.specs.declared.key.LifeKey.{LifeKey}
use Rattle.fx_direct.specs.declared.phase.Phase.{Phase}
use Rattle.fx_direct.specs.declared.phase.PhaseName.{PhaseName}
use Rattle.fx_direct.specs.declared.phase.PhaseName.TheVariants.{Opening as OpeningName}
use Rattle.fx_direct.specs.declared.phase.PhaseName.TheVariants.{Live as LiveName}
use Rattle.fx_direct.specs.declared.phase.PhaseName.TheVariants.{Ending as EndingName}
use Rattle.fx_direct.specs.declared.phase.PhaseName.TheVariants.{Closing as ClosingName}
use Rattle.fx_direct.specs.declared.phase.PhaseName.TheVariants.{Chained as ChainedName}
use Rattle.fx_direct.specs.declared.phase.Slot.{Slot}
use Rattle.fx_direct.specs.declared.refusal.AdoptRefusal.{AdoptRefusal}
use Rattle.fx_direct.specs.declared.refusal.AdoptRefusal.TheVariants.{OutOfRange, NotFree}
use Rattle.fx_direct.specs.declared.refusal.AdoptRefusal.TheVariants.{NoMoreLives}
use Rattle.fx_direct.specs.declared.refusal.LifeRefusal.{LifeRefusal}
use Rattle.fx_direct.specs.declared.refusal.LifeRefusal.TheVariants.{Stale, Is, TooManyRequests}
use Rattle.fx_direct.specs.declared.refusal.LifeRefusal.TheVariants.{TooManyUsers}
use Rattle.fx_direct.specs.declared.refusal.ReserveRefusal.{ReserveRefusal}
use Rattle.fx_direct.specs.declared.refusal.ReserveRefusal.TheVariants.{Full, Stopped}
use Rattle.fx_direct.specs.declared.slot_order.SlotRange.{SlotRange}
use Rattle.fx_direct.specs.declared.transition.Transition.{Transition}
use Rattle.fx_direct_c.specs.declared.codes.TheConstants.{DONE, CLOSE, FULL, STALE, IS_OPENING}
use Rattle.fx_direct_c.specs.declared.codes.TheConstants.{IS_LIVE, IS_ENDING, IS_CLOSING, OPENING}
use Rattle.fx_direct_c.specs.declared.codes.TheConstants.{TOO_MANY_REQUESTS, TOO_MANY_USERS, LIVE}
use Rattle.fx_direct_c.specs.declared.codes.TheConstants.{ENDING, CLOSING, CHAINED, IS_CHAINED}
use Rattle.fx_direct_c.specs.declared.codes.TheConstants.{OPEN_OF_CHAIN, REQUEST_OF_CHAIN}
use Rattle.fx_direct_c.specs.declared.codes.TheConstants.{CLOSE_OF_CHAIN, BAD_ARGUMENT, STOPPED}
use Rattle.fx_direct_c.specs.declared.codes.TheConstants.{NOT_FREE}

-- the number of a phase. No life that is under way is free
abbrev pub phase_code : Phase → ℤ
phase_code Free = STALE
phase_code Opening = OPENING
phase_code (Live requests users) = LIVE
phase_code (Ending requests users) = ENDING
phase_code Closing = CLOSING
phase_code (Chained c) = CHAINED

-- the member of a chain that has this number
abbrev pub member_numbered : ℕ → Option Member
member_numbered number =
    if number == OPEN_OF_CHAIN then Some Open
    else if number == REQUEST_OF_CHAIN then Some Request
    else if number == CLOSE_OF_CHAIN then Some CloseOfChain
    else None

-- the name of the phase that has this number
abbrev pub name_numbered : ℤ → Option PhaseName
name_numbered number =
    if int_eq number OPENING then Some OpeningName
    else if int_eq number LIVE then Some LiveName
    else if int_eq number ENDING then Some EndingName
    else if int_eq number CLOSING then Some ClosingName
    else if int_eq number CHAINED then Some ChainedName
    else None

abbrev pub code_of_adopt : AdoptRefusal → ℤ
code_of_adopt OutOfRange = BAD_ARGUMENT
code_of_adopt NotFree = NOT_FREE
code_of_adopt NoMoreLives = FULL

abbrev pub code_of_reserve : ReserveRefusal → ℤ
code_of_reserve Full = FULL
code_of_reserve Stopped = STOPPED

-- the number of a refusal
abbrev pub code_of_refusal : LifeRefusal → ℤ
code_of_refusal Stale = STALE
code_of_refusal (Is Free) = STALE
code_of_refusal (Is Opening) = IS_OPENING
code_of_refusal (Is (Live requests users)) = IS_LIVE
code_of_refusal (Is (Ending requests users)) = IS_ENDING
code_of_refusal (Is Closing) = IS_CLOSING
code_of_refusal (Is (Chained c)) = IS_CHAINED
code_of_refusal TooManyRequests = TOO_MANY_REQUESTS
code_of_refusal TooManyUsers = TOO_MANY_USERS

-- the number, and the slot that is written, of a call that may ask for a close
abbrev pub close_code : Result (Option ℕ) LifeRefusal → ℤ
close_code (Ok None) = DONE
close_code (Ok (Some slot)) = CLOSE
close_code (Err why) = code_of_refusal why

abbrev pub close_slot : Result (Option ℕ) LifeRefusal → ℕ → ℕ
close_slot (Ok (Some slot)) old = slot
close_slot answer old = old

-- a machine was opened with this number of unused slots, and is in its place
pub record OpensMachine (slots : ℕ) (range : SlotRange) (place : Option DirectMachine)
    : Type 0 where
  pub machine : DirectMachine
  pub placed : place ≡ Some machine
  pub size : length machine.list ≡ slots
  pub unused : AllUnused machine.list
  pub ranged : machine.range ≡ range
  pub runs : machine.stopped ≡ false

-- the call was refused, for a reason of this number
pub record RefusesBy (refuses : LifeRefusal → Type 0) (old : DirectMachine) (code : ℤ)
    (new : DirectMachine) : Type 0 where
  pub why : LifeRefusal
  pub its_code : code ≡ code_of_refusal why
  pub refused : refuses why
  pub same : new ≡ old

-- the transition was made, or refused
abbrev pub MakesAs : DirectMachine → Transition → ℤ → DirectMachine → Type 0
MakesAs old t code new =
    ((code ≡ DONE) × Advances old t new) ⊎ RefusesBy (RefusesTransition old.list t) old code new

-- the completion was that of no chain's member, and left no close that is due; or it was refused
abbrev pub CompletesAs : DirectMachine → Transition → ℤ → DirectMachine → Type 0
CompletesAs old t code new =
    ((code ≡ DONE) × AdvancesAndAsks old t None new)
    ⊎ RefusesBy (RefusesUnchained old.list t) old code new

-- the calls of a transition were counted, and the slot was written; or it was refused
abbrev pub StartsAs : DirectMachine → Transition → ℤ → (old_slot new_slot : ℕ) → DirectMachine
    → Type 0
StartsAs old t code old_slot new_slot new =
    ((code ≡ DONE) × (new_slot ≡ (key_concerned t).slot) × Advances old t new)
    ⊎ ((new_slot ≡ old_slot) × RefusesBy (RefusesTransition old.list t) old code new)

-- the call was done, and the close that is due was asked for; or it was refused
pub record ClosesBy (asks : Option ℕ → Type 0) (refuses : LifeRefusal → Type 0)
    (old : DirectMachine) (code : ℤ) (old_slot new_slot : ℕ) (new : DirectMachine)
    : Type 0 where
  pub answer : Result (Option ℕ) LifeRefusal
  pub its_code : code ≡ close_code answer
  pub its_slot : new_slot ≡ close_slot answer old_slot
  pub made : MatchResult answer asks (λ why. (new ≡ old) × refuses why)

abbrev pub ClosesAs : DirectMachine → Transition → ℤ → (old_slot new_slot : ℕ) → DirectMachine
    → Type 0
ClosesAs old t code old_slot new_slot new =
    ClosesBy (λ ask. AdvancesAndAsks old t ask new) (RefusesTransition old.list t) old code
    old_slot new_slot new

-- the same of a call that isn't for chains
abbrev pub FinishesAs : DirectMachine → Transition → ℤ → (old_slot new_slot : ℕ) → DirectMachine
    → Type 0
FinishesAs old t code old_slot new_slot new =
    ClosesBy (λ ask. AdvancesAndAsks old t ask new) (RefusesUnchained old.list t) old code
    old_slot new_slot new

-- the life was ended, or the call was refused
abbrev pub EndsAs : DirectMachine → LifeKey → ℤ → (old_slot new_slot : ℕ) → DirectMachine → Type 0
EndsAs old k code old_slot new_slot new =
    ClosesBy (λ ask. EndsLife old k ask new) (RefusesEnd old.list k) old code old_slot new_slot new

-- the completion of a chain's member was seen; or it was refused, or no member has this number
abbrev pub ChainedAs : DirectMachine → LifeKey → (member : ℕ) → (succeeded : Bool) → ℤ
    → (old_slot new_slot : ℕ) → DirectMachine → Type 0
ChainedAs old k number succeeded code old_slot new_slot new =
    MatchOption (member_numbered number)
    ((code ≡ BAD_ARGUMENT) × (new_slot ≡ old_slot) × (new ≡ old))
    (λ member. ClosesAs old (completion k member succeeded) code old_slot new_slot new)

-- a life began under this key, or none could
abbrev pub ReservesAs : DirectMachine → ℤ → (old_key new_key old_slot new_slot : ℕ)
    → DirectMachine → Type 0
ReservesAs old code old_key new_key old_slot new_slot new =
    ((code ≡ DONE) × (k : LifeKey) × (new_key ≡ bits_of k 0) × (new_slot ≡ k.slot)
    × (old.stopped ≡ false) × Advances old (Reserves k) new × FitsBits k)
    ⊎ ((new_key ≡ old_key) × (new_slot ≡ old_slot) × (new ≡ old)
    × (why : ReserveRefusal) × (code ≡ code_of_reserve why) × RefusesReserve old why)

-- the file at the slot was adopted under the key that was written, and its close was asked for or
-- not; or it wasn't adopted
abbrev pub AdoptsAs : DirectMachine → (slot : ℕ) → ℤ → (old_key new_key : ℕ) → DirectMachine
    → Type 0
AdoptsAs old slot code old_key new_key new =
    ((k : LifeKey) × (ask : Option ℕ) × (code ≡ close_code (Ok ask)) × (new_key ≡ bits_of k 0)
    × (k.slot ≡ slot) × AdoptsFile old k ask new × FitsBits k)
    ⊎ ((new_key ≡ old_key) × (new ≡ old)
    × (why : AdoptRefusal) × (code ≡ code_of_adopt why) × RefusesAdopt old slot why)

-- the phase of the life under a key was returned, or that no life is under way
abbrev pub ShowsPhase : List Slot → LifeKey → ℤ
    → (old_requests new_requests old_users new_users : ℕ) → Type 0
ShowsPhase slots k code old_requests new_requests old_users new_users =
    (HasLife slots k × (code ≡ phase_code (phase_at slots k.slot))
    × (new_requests ≡ requests_in (phase_at slots k.slot))
    × (new_users ≡ users_in (phase_at slots k.slot)))
    ⊎ ((code ≡ STALE) × (new_requests ≡ old_requests) × (new_users ≡ old_users)
    × (HasLife slots k → ⊥))

-- the key of the life under way at a slot was written, or none is under way there
abbrev pub ShowsKey : List Slot → ℕ → ℤ → (old_key new_key : ℕ) → Type 0
ShowsKey slots slot code old_key new_key =
    ((code ≡ DONE) × (k : LifeKey) × (new_key ≡ bits_of k 0) × (k.slot ≡ slot) × HasLife slots k)
    ⊎ ((code ≡ STALE) × (new_key ≡ old_key)
    × ((k : LifeKey) → k.slot ≡ slot → HasLife slots k → ⊥))

-- the key of the first life in a phase of this number, from a slot on, was written; or there is
-- none, or no phase has this number
abbrev pub ShowsFirst : List Slot → ℤ → (from : ℕ) → ℤ → (old_key new_key : ℕ) → Type 0
ShowsFirst slots number from code old_key new_key =
    MatchOption (name_numbered number) ((code ≡ BAD_ARGUMENT) × (new_key ≡ old_key))
    (λ name. ((code ≡ DONE) × (k : LifeKey) × (new_key ≡ bits_of k 0)
    × IsFirstFrom slots name from (Some k))
    ⊎ ((code ≡ STALE) × (new_key ≡ old_key) × IsFirstFrom slots name from None))
