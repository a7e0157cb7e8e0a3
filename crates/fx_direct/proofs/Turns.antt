-- Each transition of the machine keeps what is sound.
use Rattle.fx_direct.proofs.Words.{Pending, pending, DirectMoment, Does, Loses, Transition, Reserves, Chains, Opens, Starts, Finishes, Holds, Releases, Ends, Asks, Closes}
use Rattle.fx_direct.proofs.Words.{phase_at, key_concerned, phase_after, NamesLastLife, IsEnabled, slots_with, TurnsCalls, files_under, has_chain, life_at, changed_at}
use Rattle.fx_direct.proofs.Words.{arith, ◌≡◌, ◌≢◌, ℕ, ◌+◌, ◌<◌, Bool, true, false, List, [], ◌∷◌, ◌++◌, length, refl, sym, ap, AllByRecursion, ◌∙◌}
use Rattle.fx_direct.proofs.Words.{subst, LifeKey, Phase, State, Member, Request, CloseMember, FailsToClose, is_chained, DirectCall, OpenAt, Waits}
use Rattle.fx_direct.proofs.Words.{with_uses, with_close, Free, Opening, ne_eqb, eq-eqb, Slot, Option, None, File, Adopts, Live, IsInRange, FitsRange}
use Rattle.fx_direct.proofs.Words.{FitsPhase}
use Rattle.fx_direct.proofs.Calls.{place_of, is_member, at_slot, tally, at_same, tally-mid, tally-uses, uses_else, close_else, count_in, each-out, each-map, each-both, none_at, each-use, each-close}
use Rattle.fx_direct.proofs.Calls.{There, Foreign, is_reserved, NextHas, is_foreign, not_true, next_none, next_same, adopted_foreign, Fate, Expected}
use Rattle.fx_direct.proofs.Calls.{fits, fits_same, Has, suits, same_keys, has_same, not_gone, member_of, own_member, is_bound}
use Rattle.fx_direct.proofs.Moves.{Sound, Fitting, Binds, linked_more, turned, still, more, less, after-here, after-else, after-length}
use Rattle.fx_direct.proofs.Effects.{Calm, OneMore, OneLess, turn_of, is_later, call_of, stage_of, call_key, calm_keeps, one_more, one_less}
use Rattle.fx_direct.proofs.Effects.{chains_suits, later_suits, more_fits, later_reserved, later_chained}

pub within : (slots : List Slot) (d : Transition) → IsEnabled slots d → (key_concerned d).slot < length slots
within slots d can = grind arith

has_begun : (k : LifeKey) (n : ℕ) (closes : Bool) (h : List DirectMoment) → has_chain k (Does (Chains k n closes) ∷ h) ≡ true
has_begun k n closes h = rw (same_keys k k refl refl) refl

module _ {fate : ℕ → Fate} {slots : List Slot} {table : State} {calls : List Pending} {h : List DirectMoment} (sound : Sound fate slots table calls h)
    (d : Transition) (names : NamesLastLife slots (key_concerned d)) (may : FitsPhase d (phase_at slots (key_concerned d).slot)) (later : is_later (turn_of d) ≡ true) where
  abbrev k : LifeKey
  k = key_concerned d

  abbrev p : Phase
  p = phase_at slots k.slot

  -- a life that was chained is a chain's
  linked : is_chained (phase_after d p) ≡ true → has_chain k (Does d ∷ h) ≡ true
  linked chained = grind (arith, linked_more, later_chained)

  -- a call that was linked is
  bound : (x : Pending) → Fitting slots fate x → Binds sound d names.0 x
  bound x fit e c = fit.3 (subst (λ (s : ℕ). is_chained (phase_at slots s) ≡ true) (sym e) (later_chained d p may later c))

  -- no call begins or is over
  kept : turn_of d ≡ Calm → Sound fate (slots_with slots d) table calls (Does d ∷ h)
  kept calm =
      still sound d names.0 calls names.1 (λ m. sound.counted m k.slot ∙ sym (calm_keeps m d p may calm)) (λ m s ne. refl)
      (later_suits (fate k.slot) d p may later (sound.suit k.slot) (λ e. absurd (cc (sym calm ∙ e)))) linked sound.fits
      (each-map (Fitting slots fate) (Binds sound d names.0) calls bound sound.fits) (later_reserved d p may later)

  -- a call that isn't linked begins
  begun : turn_of d ≡ OneMore → Sound fate (slots_with slots d) table (pending (call_of d) false Waits ∷ calls) (Does d ∷ h)
  begun begins =
      let x = pending (call_of d) false Waits in let place : place_of x ≡ k.slot = ap (λ (j : LifeKey). j.slot) (call_key d) in
      let free = more_fits (fate k.slot) d p may begins (sound.suit k.slot) in
      still sound d names.0 (x ∷ calls) names.1
      (λ m. let a = at_same m k.slot x place in let b = sound.counted m k.slot in let c = one_more m d p may begins in omega arith)
      (more sound d names.0 x place) (later_suits (fate k.slot) d p may later (sound.suit k.slot) (λ e. absurd (cc (sym begins ∙ e)))) linked (
        grind (arith, fits, call_key),
        sound.fits,
      )
      (λ e c. absurd (cc (sym free.0 ∙ later_chained d p may later c)), each-map (Fitting slots fate) (Binds sound d names.0) calls bound sound.fits) (later_reserved d p may later)

  -- a call is over
  lost : (calls' : List Pending) → turn_of d ≡ OneLess → Loses (call_of d) (stage_of d) calls calls' → Sound fate (slots_with slots d) table calls' (Does d ∷ h)
  lost calls' over turns =
      let x = pending (call_of d) turns.linked (stage_of d) in let place : place_of x ≡ k.slot = ap (λ (j : LifeKey). j.slot) (call_key d) in
      let all = each-out (Fitting slots fate) turns.front turns.rest x (subst (AllByRecursion (Fitting slots fate)) turns.was sound.fits) in
      rw turns.is (still sound d names.0 (turns.front ++ turns.rest) names.1
      (λ m. let a = at_same m k.slot x place in let b = sound.counted m k.slot in grind (arith, tally-mid m k.slot turns.front turns.rest x, one_less m d p may over))
      (less sound d names.0 x turns.front turns.rest place turns.was)
      (later_suits (fate k.slot) d p may later (sound.suit k.slot) (λ e. subst (λ (s : ℕ). fits (call_of d) (stage_of d) (fate s) ≡ true) place all.0.2)) linked all.1
      (each-map (Fitting slots fate) (Binds sound d names.0) (turns.front ++ turns.rest) bound all.1) (later_reserved d p may later))

-- a free slot is empty, and no call is in flight at it

pub empty_at : (f : Fate) (p : Phase) (at : Option File) (files : List File) → suits f p ≡ true → p ≡ Free → is_foreign f ≡ false → Has f at files → at ≡ None
empty_at f p at files suit free plain has = grind arith

pub none_free : (m : Member) → count_in m Free ≡ 0
none_free m = grind arith

none_live : (m : Member) → count_in m (Live 0 0) ≡ 0
none_live m = grind arith

not_here : (s : ℕ) (y : Pending) → ((m : Member) → at_slot m s y ≡ 0) → place_of y ≢ s
not_here s y none e = let a = at_same (member_of y.call) s y e in let b = none (member_of y.call) in let c = own_member y.call in omega arith

pub none_here : (s : ℕ) (ps : List Pending) → ((m : Member) → tally m s ps ≡ 0) → AllByRecursion (λ y. place_of y ≢ s) ps
none_here s [] none = tt
none_here s (y ∷ ps) none =
    (not_here s y (λ m. let e = none m in omega arith), none_here s ps (λ m. let e = none m in omega arith))

-- a call that is neither a request nor a close is an open
open_bound : (call : DirectCall) (linked : Bool) → is_member Request call ≡ 0 → is_member CloseMember call ≡ 0 → is_bound call linked ≡ true
open_bound call linked request close = grind arith

-- a request and a close may wait at an opening slot
opening_fits : (f : Fate) → suits f Opening ≡ true → not_gone f ≡ true
opening_fits f suit = grind arith

module _ {fate : ℕ → Fate} {slots : List Slot} {table : State} {calls : List Pending} {h : List DirectMoment} (sound : Sound fate slots table calls h) where
  -- a life begins: no call is in flight at its slot
  reserved : (k : LifeKey) → IsEnabled slots (Reserves k) → (IsInRange table k.slot → ⊥)
      → Sound (changed_at fate k.slot Expected) (slots_with slots (Reserves k)) table (pending (OpenAt k) false Waits ∷ calls) (Does (Reserves k) ∷ h)
  reserved k can out =
      let d = Reserves k in let x = pending (OpenAt k) false Waits in let fate' = changed_at fate k.slot Expected in
      let here : fate' k.slot ≡ Expected = rw (eq-eqb k.slot k.slot refl) refl in
      let away : (s : ℕ) → s ≢ k.slot → fate' s ≡ fate s = λ s ne. rw (ne_eqb s k.slot ne) refl in
      let plain = not_true (is_foreign (fate k.slot)) (λ f. out ((sound.ranged k.slot).0 f)) in
      let empty = empty_at (fate k.slot) (phase_at slots k.slot) (table.at k.slot) (files_under (life_at slots k.slot) h) (sound.suit k.slot) can.2 plain (sound.has k.slot can.0) in
      let new : files_under k h ≡ [] = grind (arith, next_none) in
      let one : (m : Member) → tally m k.slot calls ≡ 0 = λ m. sound.counted m k.slot ∙ ap (count_in m) can.2 ∙ none_free m in
      turned sound d can.0 fate' (x ∷ calls) away (grind (arith, at_same, none_free))
      (more sound d can.0 x refl) (ap (λ (f : Fate). suits f Opening) here)
      (has_same {fate = Expected} here refl refl (empty, new)) (λ chained. absurd (cc chained)) (
        grind (arith, after-length slots d, after-here slots d can.0, fits (OpenAt k) Waits),
        each-both (Fitting slots fate) (λ y. place_of y ≢ k.slot) (Fitting (slots_with slots d) fate') calls
            (λ y fit ne. fits_same y (after-length slots d) (after-else slots d (place_of y) ne) (away (place_of y) ne) fit)
            sound.fits (none_here k.slot calls one),
      )
      (omega (arith, can.1))
      (next_same here refl refl (sound.unborn (record { slot = k.slot; number = k.number + 1 }) (omega (arith, can.1)) (λ inside. omega (arith, can.1))))
      (λ f. absurd (let e = ap is_foreign here in cc), λ r. out)

  -- a life begins with a file that the kernel has put at its slot: no call is in flight there
  adopted : (k : LifeKey) → IsEnabled slots (Adopts k) → FitsRange table (Adopts k)
      → Sound (changed_at fate k.slot There) (slots_with slots (Adopts k)) table calls (Does (Adopts k) ∷ h)
  adopted k can chosen =
      let d = Adopts k in let fate' = changed_at fate k.slot There in
      let here : fate' k.slot ≡ There = rw (eq-eqb k.slot k.slot refl) refl in
      let away : (s : ℕ) → s ≢ k.slot → fate' s ≡ fate s = λ s ne. rw (ne_eqb s k.slot ne) refl in
      let was = adopted_foreign (fate k.slot) (phase_at slots k.slot) (table.at k.slot) (files_under (life_at slots k.slot) h) chosen.1 (sound.suit k.slot) can.2 chosen.2 (sound.has k.slot can.0) in
      let put : NextHas Foreign (table.at k.slot) (files_under k h) =
      next_same (sym was) refl (ap (λ (n : ℕ). files_under (record { slot = k.slot; number = n }) h) can.1) (sound.next k.slot can.0) in
      let one : (m : Member) → tally m k.slot calls ≡ 0 = λ m. sound.counted m k.slot ∙ ap (count_in m) can.2 ∙ none_free m in
      turned sound d can.0 fate' calls away
      (λ m. one m ∙ sym (none_live m)) (λ m s ne. refl) (ap (λ (f : Fate). suits f (Live 0 0)) here)
      (has_same {fate = There} here refl refl put) (λ chained. absurd (cc chained))
      (each-both (Fitting slots fate) (λ y. place_of y ≢ k.slot) (Fitting (slots_with slots d) fate') calls
      (λ y fit ne. fits_same y (after-length slots d) (after-else slots d (place_of y) ne) (away (place_of y) ne) fit)
      sound.fits (none_here k.slot calls one))
      (omega (arith, can.1))
      (next_same here refl refl (sound.unborn (record { slot = k.slot; number = k.number + 1 }) (omega (arith, can.1)) (λ inside. omega (arith, can.1))))
      (λ f. absurd (let e = ap is_foreign here in cc), λ r. absurd (cc r))

  -- the members of a chain begin
  chained : (k : LifeKey) (n : ℕ) (closes : Bool) → IsEnabled slots (Chains k n closes)
      → Sound fate (slots_with slots (Chains k n closes)) table (with_close k closes (with_uses k n calls)) (Does (Chains k n closes) ∷ h)
  chained k n closes can =
      let d = Chains k n closes in
      let suit : suits (fate k.slot) Opening ≡ true = sym (ap (suits (fate k.slot)) can.1) ∙ sound.suit k.slot in
      let fit = opening_fits (fate k.slot) suit in
      still sound d can.0.0 (with_close k closes (with_uses k n calls)) can.0.1 (grind (arith, tally-uses))
      (λ m s ne. close_else m k closes s (with_uses k n calls) ne ∙ uses_else m k n s calls ne)
      (chains_suits (fate k.slot) n closes suit) (λ c. has_begun k n closes h)
      (grind (arith, each-close, each-use))
      (each-close (Binds sound d can.0.0) k closes (with_uses k n calls) (λ e c. refl)
      (
      grind (arith, each-use, each-both, at_slot, open_bound, at_same, none_at Request k.slot calls (sound.counted Request k.slot ∙ ap (count_in Request) can.1), none_at CloseMember k.slot calls (sound.counted CloseMember k.slot ∙ ap (count_in CloseMember) can.1))))
      (λ r. ap is_reserved can.1)

  pub does : (d : Transition) (calls' : List Pending) → IsEnabled slots d → FitsRange table d → TurnsCalls d calls calls'
      → (fate' : ℕ → Fate) × Sound fate' (slots_with slots d) table calls' (Does d ∷ h)
  does (Reserves k) calls' can fits turns = (changed_at fate k.slot Expected, rw turns (reserved k can fits))
  does (Adopts k) calls' can fits turns = (changed_at fate k.slot There, rw turns (adopted k can fits))
  does (Chains k n closes) calls' can fits turns = (fate, rw turns (chained k n closes can))
  does (Opens k installed) calls' can fits turns = (fate, lost sound (Opens k installed) can.0 can.1 refl calls' refl turns)
  does (Starts k) calls' can fits turns = (fate, rw turns (begun sound (Starts k) can.0 can.1 refl refl))
  does (Finishes k) calls' can fits turns = (fate, lost sound (Finishes k) can.0 can.1 refl calls' refl turns)
  does (Holds k) calls' can fits turns = (fate, rw turns (kept sound (Holds k) can.0 can.1 refl refl))
  does (Releases k) calls' can fits turns = (fate, rw turns (kept sound (Releases k) can.0 can.1 refl refl))
  does (Ends k) calls' can fits turns = (fate, rw turns (kept sound (Ends k) can.0 can.1 refl refl))
  does (Asks k) calls' can fits turns = (fate, rw turns (begun sound (Asks k) can.0 can.1 refl refl))
  does (Closes k) calls' can fits turns = (fate, lost sound (Closes k) can.0 can.1 refl calls' refl turns)
  does (FailsToClose k) calls' can fits turns = (fate, lost sound (FailsToClose k) can.0 can.1 refl calls' refl turns)
