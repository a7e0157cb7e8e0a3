-- The effects of each transition on the calls that its slot's phase counts, and on the slot's file.
use Rattle.fx_direct.proofs.Words.{arith, ◌≡◌, ℕ, ◌+◌, Bool, true, false, Phase, Member, Opening, Chained}
use Rattle.fx_direct.proofs.Words.{chain_of, is_chained, DirectCall, CallStage, OpenAt, UseOf, CloseOf}
use Rattle.fx_direct.proofs.Words.{key_of_call, Waits, Made, Quit, Transition, FitsPhase, phase_after, key_concerned, Reserves, Adopts, Chains, Opens}
use Rattle.fx_direct.proofs.Words.{Starts, Holds, Releases, Ends, Asks, Closes, FailsToClose, stage_by}
use Rattle.fx_direct.proofs.Calls.{is_reserved, count_in, is_member, count_chain, Fate, Expected, not_gone, fits, suits}

-- a transition begins a life or a chain, begins a call, ends a call, or does neither
pub data Turn : Type 0 where
  Fresh : Turn
  OneMore : Turn
  OneLess : Turn
  Calm : Turn

abbrev pub turn_of : Transition → Turn
turn_of (Reserves k) = Fresh
turn_of (Adopts k) = Fresh
turn_of (Chains k requests closes) = Fresh
turn_of (Starts k) = OneMore
turn_of (Asks k) = OneMore
turn_of (Holds k) = Calm
turn_of (Releases k) = Calm
turn_of (Ends k) = Calm
turn_of d = OneLess

abbrev pub is_later : Turn → Bool
is_later Fresh = false
is_later turn = true

-- the call that begins, or is over
abbrev pub call_of : Transition → DirectCall
call_of (Opens k installed) = OpenAt k
call_of (Asks k) = CloseOf k
call_of (Closes k) = CloseOf k
call_of (FailsToClose k) = CloseOf k
call_of d = UseOf (key_concerned d)

abbrev pub stage_of : Transition → CallStage
stage_of (Opens k installed) = stage_by installed
stage_of (Closes k) = Made
stage_of d = Quit

pub call_key : (d : Transition) → key_of_call (call_of d) ≡ key_concerned d
call_key d = grind arith

module _ (m : Member) where
  pub calm_keeps : (d : Transition) (p : Phase) → FitsPhase d p → turn_of d ≡ Calm → count_in m (phase_after d p) ≡ count_in m p
  calm_keeps d p may calm = grind arith

  pub one_more : (d : Transition) (p : Phase) → FitsPhase d p → turn_of d ≡ OneMore → count_in m (phase_after d p) ≡ is_member m (call_of d) + count_in m p
  one_more d p may more = grind arith

  pub one_less : (d : Transition) (p : Phase) → FitsPhase d p → turn_of d ≡ OneLess → count_in m p ≡ is_member m (call_of d) + count_in m (phase_after d p)
  one_less d p may less = grind (arith, count_chain)

-- the file of the slot

pub chains_suits : (fate : Fate) (n : ℕ) (closes : Bool) → suits fate Opening ≡ true → suits fate (Chained (chain_of n closes)) ≡ true
chains_suits fate n closes suit = grind arith

pub later_suits : (fate : Fate) (d : Transition) (p : Phase) → FitsPhase d p → is_later (turn_of d) ≡ true → suits fate p ≡ true
    → (turn_of d ≡ OneLess → fits (call_of d) (stage_of d) fate ≡ true) → suits fate (phase_after d p) ≡ true
later_suits fate d p may later suit fit = grind arith

-- a call that begins has its file, and isn't a chain's
pub more_fits : (fate : Fate) (d : Transition) (p : Phase) → FitsPhase d p → turn_of d ≡ OneMore → suits fate p ≡ true
    → (is_chained p ≡ false) × (fits (call_of d) Waits fate ≡ true)
more_fits fate d p may more suit = grind arith

-- the open of the slot is done, by its access or without one
pub done_suits : (fate : Fate) (p : Phase) → suits Expected p ≡ true → not_gone fate ≡ true → suits fate p ≡ true
done_suits fate p suit left = grind arith

-- a life that was reserved stays so until its open or its chain is over. Only its beginning makes
-- a chain
pub later_reserved : (d : Transition) (p : Phase) → FitsPhase d p → is_later (turn_of d) ≡ true → is_reserved (phase_after d p) ≡ true → is_reserved p ≡ true
later_reserved d p may later is = grind arith

pub later_chained : (d : Transition) (p : Phase) → FitsPhase d p → is_later (turn_of d) ≡ true → is_chained (phase_after d p) ≡ true → is_chained p ≡ true
later_chained d p may later is = grind arith
