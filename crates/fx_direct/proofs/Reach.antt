-- Every flight keeps the invariant, and an access finds its own file.
use Rattle.fx_direct.proofs.Words.{Action, Look, Put, Take, LifeKey, Member, Request, CloseMember, length, bit, requests_in, is_closing, is_chained, has_chain, slot_numbered}
use Rattle.fx_direct.proofs.Words.{life_at, phase_at, DirectCall, OpenAt, UseOf, CloseOf, Waits, Pending, pending, World, DirectMoment, Does, Accesses, Quits, Others, Makes}
use Rattle.fx_direct.proofs.Words.{arith, ◌≡◌, ◌≢◌, ◌<◌, ◌+◌, ℕ, List, [], ◌∷◌, ◌⊎◌, inl, inr, refl, sym, ap, ◌∙◌, subst, true, Option, File, Phase}
use Rattle.fx_direct.proofs.Words.{Comes, IsDirectFlight, files_under, IsEmptyStart, IsFileOf, IsMissed, FindsItsOwn, ◌▷◌, ◌▷▷◌, Chooses}
use Rattle.fx_direct.specs.Laws.{EachAccessFindsItsOwn, NothingIsLeft}
use Rattle.fx_direct.proofs.Calls.{not_true, place_of, at_same, tally-mid, count_in, each-out, Has, Fate, Expected, Missing, suits, not_gone, is_member}
use Rattle.fx_direct.proofs.Moves.{Sound, Fitting}
use Rattle.fx_direct.proofs.Turns.{does, none_here, empty_at, none_free}
use Rattle.fx_direct.proofs.Accessing.{accesses, chooses, quits, others_act, after_open, waits_expected}

abbrev pub SoundWorld : World → List DirectMoment → Type 0
SoundWorld w h = (fate : ℕ → Fate) × Sound fate w.slots w.table w.calls h

at_start : (w : World) → IsEmptyStart w → SoundWorld w []
at_start w start = (
  λ s. Missing,
  grind (arith, none_free),
)

one_moment : (w : World) (m : DirectMoment) (v : World) (h : List DirectMoment) → SoundWorld w h → Comes w m v → SoundWorld v (m ∷ h)
one_moment w (Does d) v h sound comes =
    subst (λ (x : World). SoundWorld x (Does d ∷ h)) (sym comes.2) (does sound.1 d v.calls comes.0.0 comes.0.1 comes.1)
one_moment w (Accesses c a) v h sound comes =
    subst (λ (x : World). SoundWorld x (Accesses c a ∷ h)) (sym comes.2) (accesses sound.1 c a v.calls comes.0 comes.1)
one_moment w (Quits c) v h sound comes =
    subst (λ (x : World). SoundWorld x (Quits c ∷ h)) (sym comes.1) (quits sound.1 c v.calls comes.0)
one_moment w (Chooses k f) v h sound comes =
    subst (λ (x : World). SoundWorld x (Chooses k f ∷ h)) (sym comes.3) (chooses sound.1 k f comes.0 comes.1 comes.2)
one_moment w (Others a) v h sound comes =
    subst (λ (x : World). SoundWorld x (Others a ∷ h)) (sym comes.2) (sound.0, others_act sound.1 a comes.1)

pub always : (start : World) (h : List DirectMoment) (end : World) → IsEmptyStart start → IsDirectFlight start h end → SoundWorld end h
always start [] end begins flight = subst (λ (x : World). SoundWorld x []) (sym flight) (at_start start begins)
always start (m ∷ h) end begins flight =
    one_moment flight.0 m end h (always start h flight.0 begins flight.1) flight.2

-- the worlds before and after a moment of a flight
between : (start end : World) (earlier later : List DirectMoment) (m : DirectMoment) → IsDirectFlight start (earlier ▷ m ▷▷ later) end
    → (w : World) × (v : World) × IsDirectFlight start earlier w × Comes w m v
between start end earlier [] m flight = (flight.0, end, flight.1, flight.2)
between start end earlier (x ∷ later) m flight = between start flight.0 earlier later m flight.1

-- a file that isn't gone and whose open is done: it is there, or it is missed by a chain
finds_one : (h : List DirectMoment) (k : LifeKey) (f : Fate) (p : Phase) (at : Option File) → not_gone f ≡ true → f ≢ Expected → Has f at (files_under k h)
    → suits f p ≡ true → 0 < requests_in p + bit (is_closing p) → (is_chained p ≡ true → has_chain k h ≡ true) → IsFileOf h k at ⊎ IsMissed h k at
finds_one h k f p at left due has suit busy linked = grind arith

-- a call in flight is counted
busy : {fate : ℕ → Fate} (w : World) (h : List DirectMoment) (c : DirectCall) (a : Action) (calls' : List Pending) (m : Member) → Sound fate w.slots w.table w.calls h
    → (makes : Makes c a w.calls calls') → is_member m c ≡ 1 → 0 < count_in m (phase_at w.slots (place_of (pending c makes.linked Waits)))
busy w h c a calls' m sound makes own = grind (arith, tally-mid, at_same)

module _ (w v : World) (h : List DirectMoment) (sound : SoundWorld w h) where
  -- the call that makes an access fits
  own : (c : DirectCall) (a : Action) (calls' : List Pending) → (makes : Makes c a w.calls calls') → Fitting w.slots sound.0 (pending c makes.linked Waits)
  own c a calls' makes = grind (arith, each-out)

  -- a request or a close, in its turn
  finds_file : (k : LifeKey) (slot : ℕ) (found : Option File) → k.slot < length w.slots → (slot_numbered w.slots k.slot).number ≡ k.number
      → not_gone (sound.0 k.slot) ≡ true → sound.0 k.slot ≢ Expected → slot ≡ k.slot → found ≡ w.table.at slot
      → 0 < requests_in (phase_at w.slots k.slot) + bit (is_closing (phase_at w.slots k.slot)) → IsFileOf h k found ⊎ IsMissed h k found
  finds_file k slot found inside num left due same is used =
      let life : (X : LifeKey → Type 0) → X (life_at w.slots k.slot) → X k = λ X x. subst (λ (n : ℕ). X (record { slot = k.slot; number = n })) num x in
      subst (λ (at : Option File). IsFileOf h k at ⊎ IsMissed h k at) (sym (is ∙ ap w.table.at same))
      (finds_one h k (sound.0 k.slot) (phase_at w.slots k.slot) (w.table.at k.slot) left due
      (life (λ j. Has (sound.0 k.slot) (w.table.at k.slot) (files_under j h)) (sound.1.has k.slot inside))
      (sound.1.suit k.slot) used (λ c. life (λ j. has_chain j h ≡ true) (sound.1.linked k.slot c)))

  finds : (c : DirectCall) (a : Action) → Comes w (Accesses c a) v → FindsItsOwn h c a
  finds (OpenAt k) (Put slot f replaced) comes =
      let fit = own (OpenAt k) (Put slot f replaced) v.calls comes.1 in grind (arith, waits_expected, Expected)
  finds (UseOf k) (Look slot found) comes =
      let fit = own (UseOf k) (Look slot found) v.calls comes.1 in
      let b = busy w h (UseOf k) (Look slot found) v.calls Request sound.1 comes.1 refl in
      finds_file k slot found fit.0 fit.1 fit.2 (after_open sound.1 k (UseOf k) comes.1.linked (λ other stage e. inl e) fit.1 fit.3 (omega (arith, b)) comes.1.turn) comes.1.may comes.0.1 (omega (arith, b))
  finds (CloseOf k) (Take slot found) comes =
      let fit = own (CloseOf k) (Take slot found) v.calls comes.1 in
      let b = busy w h (CloseOf k) (Take slot found) v.calls CloseMember sound.1 comes.1 refl in
      finds_file k slot found fit.0 fit.1 fit.2 (after_open sound.1 k (CloseOf k) comes.1.linked (λ other stage e. inr e) fit.1 fit.3 (omega (arith, b)) comes.1.turn) comes.1.may comes.0.1 (omega (arith, b))
  finds _ _ comes = tt

pub each_access_finds_its_own : EachAccessFindsItsOwn
each_access_finds_its_own start end earlier later call a begins flight =
    let b = between start end earlier later (Accesses call a) flight in
    finds b.0 b.1 earlier (always start earlier b.0 begins b.2) call a b.3

pub nothing_is_left : NothingIsLeft
nothing_is_left start w h k begins flight = grind (arith, always, none_here, none_free, empty_at, not_true)
