-- Each access, and the end of a call's accesses, keeps what is sound.
use Rattle.fx_direct.proofs.Words.{arith, ◌≡◌, ◌≢◌, ℕ, ◌+◌, ◌<◌, ◌≤◌, Bool, true, false, List, [], ◌∷◌, ◌++◌, length, refl, sym, ap, inl, inr, ◌⊎◌, if◌then◌else◌}
use Rattle.fx_direct.proofs.Words.{AllByRecursion, ◌∙◌, subst, Option, Some, None, cases_eq, append-nil, ne_eqb, eq-eqb, File, LifeKey, Phase, Slot, State, Member, Open, Request, CloseMember, bit, requests_in, is_chained}
use Rattle.fx_direct.proofs.Words.{slot_numbered, phase_at, life_at, is_closing, is_opening, DirectCall, OpenAt, UseOf, CloseOf, CallStage, Waits, Made, Quit, Pending, pending, DirectMoment, Accesses, Quits, Others}
use Rattle.fx_direct.proofs.Words.{Action, Look, Put, Release, Take, Allows, changed_at, table_after, Makes, Stops, IsElsewhere, HasItsTurn, waits_for, files_under, has_chain, same_key}
use Rattle.fx_direct.proofs.Calls.{place_of, is_member, at_slot, tally, at_same, at_other, tally-mid, count_in, each-out, each-in, each-map, each-both, none_at, same_keys}
use Rattle.fx_direct.proofs.Calls.{Fate, Expected, Missing, There, Gone, not_gone, Has, fits, suits, fits_same, has_same, closed_fits, expected_opens, unchained_due}
use Rattle.fx_direct.proofs.Words.{Allocate, Chooses}
use Rattle.fx_direct.proofs.Calls.{Foreign, is_foreign, is_reserved, left_plain, next_none, none_next, next_same, ranged_same, none_if, not_true}
use Rattle.fx_direct.proofs.Calls.{chosen_plain, chosen_gone, chosen_counts}
use Rattle.fx_direct.proofs.Moves.{by_slot, next_at, Sound, Fitting}
use Rattle.fx_direct.proofs.Effects.{done_suits}

-- One call and its file.

pub waits_expected : (k : LifeKey) (f : Fate) → fits (OpenAt k) Waits f ≡ true → f ≡ Expected
waits_expected k f fit = grind arith

found_there : (f : Fate) (at : Option File) (files : List File) → not_gone f ≡ true → f ≢ Expected → at ≢ None → Has f at files → f ≡ There
found_there f at files left due full has = grind arith

bit_small : (b : Bool) → bit b ≤ 1
bit_small b = grind arith

bit_one : (b : Bool) → 1 ≤ bit b → b ≡ true
bit_one b one = grind arith

-- a close that isn't a chain's has no request beside it
closing_none : (p : Phase) → is_closing p ≡ true → (is_chained p ≡ true → ⊥) → requests_in p ≡ 0
closing_none p closing unchained = grind arith

-- two keys of which one has another slot or number
pub apart : (j k : LifeKey) (f : File) → (k.slot ≡ j.slot → k.number ≡ j.number → ⊥) → (if same_key j k then f ∷ [] else []) ≡ []
apart j k f ne = grind arith

-- no open is at the slot
none_open : (s : ℕ) (ps : List Pending) → AllByRecursion (λ z. at_slot Open s z ≡ 0) ps → tally Open s ps ≡ 0
none_open s [] all = refl
none_open s (z ∷ ps) all = let e = none_open s ps all.1 in omega (arith, all.0)

module _ {fate : ℕ → Fate} {slots : List Slot} {table : State} {calls : List Pending} {h : List DirectMoment} (sound : Sound fate slots table calls h) where
  at_changed : {X : Type 0} (g : ℕ → X) (s0 : ℕ) (x : X) (s : ℕ) → s ≢ s0 → changed_at g s0 x s ≡ g s
  at_changed g s0 x s ne = rw (ne_eqb s s0 ne) refl

  at_written : {X : Type 0} (g : ℕ → X) (s0 : ℕ) (x : X) → changed_at g s0 x s0 ≡ x
  at_written g s0 x = rw (eq-eqb s0 s0 refl) refl

  -- a moment that changes no slot and no file
  quiet : (table' : State) (calls' : List Pending) (m : DirectMoment) → table'.size ≡ table.size → table'.range ≡ table.range
      → ((s : ℕ) → s < length slots → table'.at s ≡ table.at s)
      → ((k : LifeKey) → files_under k (m ∷ h) ≡ files_under k h)
      → ((k : LifeKey) → has_chain k (m ∷ h) ≡ has_chain k h)
      → ((x : Member) (s : ℕ) → tally x s calls' ≡ tally x s calls)
      → AllByRecursion (Fitting slots fate) calls'
      → Sound fate slots table' calls' (m ∷ h)
  quiet table' calls' m size range h6 files linked count fits = grind (arith, has_same, next_same, ranged_same)

  -- the call that makes the access, at its slot
  module _ (x y : Pending) (front rest : List Pending) (was : calls ≡ front ++ x ∷ rest) (same : y.call ≡ x.call) (bound : y.linked ≡ x.linked) where
    abbrev s0 : ℕ
    s0 = place_of x

    abbrev others : List Pending
    others = front ++ rest

    all : Fitting slots fate x × AllByRecursion (Fitting slots fate) others
    all = each-out (Fitting slots fate) front rest x (subst (AllByRecursion (Fitting slots fate)) was sound.fits)

    counts : (m : Member) (s : ℕ) → tally m s (front ++ y ∷ rest) ≡ tally m s calls
    counts m s = grind (arith, tally-mid, at_slot)

    -- the others of its kind at its slot
    alone : (m : Member) → is_member m x.call ≡ 1 → count_in m (phase_at slots s0) ≤ 1 → (count_in m (phase_at slots s0) ≡ 1) × (tally m s0 others ≡ 0)
    alone m own few = grind (arith, tally-mid, at_same)

    -- the call after its access
    refits : (fate' : ℕ → Fate) → fits x.call y.stage (fate' s0) ≡ true → Fitting slots fate' y
    refits fate' fit = grind (arith, fits, all)

    -- the access changes nothing but the call
    pub only : (table' : State) (m : DirectMoment) → table'.size ≡ table.size → table'.range ≡ table.range → ((s : ℕ) → s < length slots → table'.at s ≡ table.at s)
        → ((k : LifeKey) → files_under k (m ∷ h) ≡ files_under k h) → ((k : LifeKey) → has_chain k (m ∷ h) ≡ has_chain k h)
        → (fits x.call x.stage (fate s0) ≡ true → fits x.call y.stage (fate s0) ≡ true) → Sound fate slots table' (front ++ y ∷ rest) (m ∷ h)
    only table' m size range at files linked fit =
        grind (arith, counts, all, quiet table' (front ++ y ∷ rest) m size range, each-in (Fitting slots fate) front rest y, refits fate (fit all.0.2))

    -- the file of the slot has another fate
    pub moved : (f : Fate) (table' : State) (m : DirectMoment) → table'.size ≡ table.size → table'.range ≡ table.range
        → is_foreign (fate s0) ≡ false → is_foreign f ≡ false
        → ((s : ℕ) → s ≢ s0 → table'.at s ≡ table.at s)
        → ((k : LifeKey) → (k.slot ≡ s0 → k.number ≡ (slot_numbered slots k.slot).number → ⊥) → files_under k (m ∷ h) ≡ files_under k h)
        → ((k : LifeKey) → has_chain k (m ∷ h) ≡ has_chain k h)
        → suits f (phase_at slots s0) ≡ true
        → Has f (table'.at s0) (files_under (life_at slots s0) (m ∷ h))
        → fits x.call y.stage f ≡ true
        → AllByRecursion (λ z. place_of z ≡ s0 → Fitting slots fate z → fits z.call z.stage f ≡ true) others
        → Sound (changed_at fate s0 f) slots table' (front ++ y ∷ rest) (m ∷ h)
    moved f table' m size range plain plainly at files linked suit has fit refit =
        let fate' = changed_at fate s0 f in let here = at_written fate s0 f in record {
          inside = rw size sound.inside;
          counted = λ mb s. counts mb s ∙ sound.counted mb s;
          suit = by_slot _ s0 (rw here suit) (λ s ne. rw (at_changed fate s0 f s ne) (sound.suit s));
          has = by_slot _ s0 (λ lt. rw here has)
              (λ s ne lt. rw (at_changed fate s0 f s ne, at s ne, files (life_at slots s) (λ e n. ne e)) (sound.has s lt));
          linked = λ s c. linked (life_at slots s) ∙ sound.linked s c;
          fits = each-in (Fitting slots fate') front rest y
              (refits fate' (ap (fits x.call y.stage) here ∙ fit))
              (each-both (Fitting slots fate) (λ z. place_of z ≡ s0 → Fitting slots fate z → fits z.call z.stage f ≡ true) (Fitting slots fate') others
              (λ z fz re. elim (cases_eq (place_of z) s0) [
                | inl e ↦ (fz.0, fz.1, subst (λ (q : ℕ). fits z.call z.stage (fate' q) ≡ true) (sym e) (ap (fits z.call z.stage) here ∙ re e fz), fz.3)
                | inr ne ↦ fits_same z refl refl (at_changed fate s0 f (place_of z) ne) fz
              ]) all.1 refit);
          next = by_slot _ s0
              (grind (arith, here, none_next, next_none))
              (λ s ne lt. rw (at_changed fate s0 f s ne, at s ne, files (next_at slots s) (λ e n. ne e)) (sound.next s lt));
          ranged = grind (arith, here, by_slot, at_changed);
          unborn = λ k later far. files k (λ e n. omega arith) ∙ sound.unborn k later far;
        }

  -- the open of a key is done: it has put its file, or makes no access any more
  opened : (k : LifeKey) (linked : Bool) (stage : CallStage) (f : Fate) (front rest : List Pending) (table' : State) (m : DirectMoment)
      → calls ≡ front ++ pending (OpenAt k) linked Waits ∷ rest → not_gone f ≡ true → fits (OpenAt k) stage f ≡ true → table'.size ≡ table.size → table'.range ≡ table.range
      → ((s : ℕ) → s ≢ k.slot → table'.at s ≡ table.at s)
      → ((j : LifeKey) → (j.slot ≡ k.slot → j.number ≡ (slot_numbered slots j.slot).number → ⊥) → files_under j (m ∷ h) ≡ files_under j h)
      → ((j : LifeKey) → has_chain j (m ∷ h) ≡ has_chain j h)
      → (table.at k.slot ≡ None → files_under k h ≡ [] → Has f (table'.at k.slot) (files_under k (m ∷ h)))
      → Sound (changed_at fate k.slot f) slots table' (front ++ pending (OpenAt k) linked stage ∷ rest) (m ∷ h)
  opened k linked stage f front rest table' m was left fit size range at files same has =
      let x = pending (OpenAt k) linked Waits in let y = pending (OpenAt k) linked stage in let own = (all x y front rest was refl refl).0 in
      let due : fate k.slot ≡ Expected = waits_expected k (fate k.slot) own.2 in
      let suit : suits Expected (phase_at slots k.slot) ≡ true = ap (λ (g : Fate). suits g (phase_at slots k.slot)) (sym due) ∙ sound.suit k.slot in
      let empty : Has Expected (table.at k.slot) (files_under (life_at slots k.slot) h) = has_same {fate = fate k.slot} (sym due) refl refl (sound.has k.slot own.0) in
      let one = alone x y front rest was refl refl Open refl (bit_small (is_opening (phase_at slots k.slot))) in
      moved x y front rest was refl refl f table' m size range (ap is_foreign due) (left_plain f left) at files same (done_suits f (phase_at slots k.slot) suit left)
      (grind arith)
      fit
      (grind (arith, each-map, at_slot, fits, at_same, k.slot, none_at Open k.slot (front ++ rest) one.1))

  puts : (k : LifeKey) (linked : Bool) (f : File) (replaced : Option File) (front rest : List Pending) → calls ≡ front ++ pending (OpenAt k) linked Waits ∷ rest
      → Sound (changed_at fate k.slot There) slots (table_after table (Put k.slot f replaced)) (front ++ pending (OpenAt k) linked Made ∷ rest)
      (Accesses (OpenAt k) (Put k.slot f replaced) ∷ h)
  puts k linked f replaced front rest was =
      let own = (all (pending (OpenAt k) linked Waits) (pending (OpenAt k) linked Made) front rest was refl refl).0 in let m = Accesses (OpenAt k) (Put k.slot f replaced) in
      opened k linked Made There front rest (table_after table (Put k.slot f replaced)) m was refl refl refl refl
      (λ s ne. at_changed table.at k.slot (Some f) s ne)
      (λ j ne. ap (λ (fs : List File). files_under j h ++ fs) (apart k j f (λ e n. ne e (n ∙ sym own.1 ∙ ap (λ (s : ℕ). (slot_numbered slots s).number) (sym e)))) ∙ append-nil (files_under j h))
      (λ j. refl)
      (λ empty new. (f, at_written table.at k.slot (Some f), rw (new, same_keys k k refl refl) refl))

  -- a request or a close makes its access only after the open
  pub after_open : (k : LifeKey) (call : DirectCall) (linked : Bool) → ((other : DirectCall) (stage : CallStage) → waits_for call other stage ≡ false
      → (waits_for (UseOf k) other stage ≡ false) ⊎ (waits_for (CloseOf k) other stage ≡ false))
      → (slot_numbered slots k.slot).number ≡ k.number → (is_chained (phase_at slots k.slot) ≡ true → linked ≡ true)
      → 0 < requests_in (phase_at slots k.slot) + bit (is_closing (phase_at slots k.slot))
      → HasItsTurn call linked calls → fate k.slot ≢ Expected
  after_open k call linked either num bound busy turn due =
      let suit : suits Expected (phase_at slots k.slot) ≡ true = ap (λ (g : Fate). suits g (phase_at slots k.slot)) (sym due) ∙ sound.suit k.slot in
      let one = expected_opens (phase_at slots k.slot) suit in let count = sound.counted Open k.slot in
      let turns : HasItsTurn call true calls = subst (λ (b : Bool). HasItsTurn call b calls) (bound (unchained_due (phase_at slots k.slot) suit busy)) turn in
      let none = none_open k.slot calls (each-both (Fitting slots fate) (λ z. waits_for call z.call z.stage ≡ false) (λ z. at_slot Open k.slot z ≡ 0) calls
      (grind (arith, at_same, fits, same_keys, at_other)) sound.fits turns) in
      omega arith

  -- the requests of a slot whose close has its turn make no access any more, or there is none
  requests_done : (k : LifeKey) (linked : Bool) → (is_chained (phase_at slots k.slot) ≡ true → linked ≡ true) → is_closing (phase_at slots k.slot) ≡ true
      → HasItsTurn (CloseOf k) linked calls → AllByRecursion (λ z. (waits_for (CloseOf k) z.call z.stage ≡ false) ⊎ (at_slot Request k.slot z ≡ 0)) calls
  requests_done k true bound closing turn = grind (arith, each-map, at_slot)
  requests_done k false bound closing turn =
      each-map (λ z. at_slot Request k.slot z ≡ 0) (λ z. (waits_for (CloseOf k) z.call z.stage ≡ false) ⊎ (at_slot Request k.slot z ≡ 0)) calls (λ z e. inr e)
      (none_at Request k.slot calls (sound.counted Request k.slot ∙ closing_none (phase_at slots k.slot) closing (λ c. cc (bound c))))

  -- a close takes the file of its key
  takes : (k : LifeKey) (linked : Bool) (f : File) (front rest : List Pending) → calls ≡ front ++ pending (CloseOf k) linked Waits ∷ rest
      → Some f ≡ table.at k.slot → HasItsTurn (CloseOf k) linked calls
      → Sound (changed_at fate k.slot Gone) slots (table_after table (Take k.slot (Some f))) (front ++ pending (CloseOf k) linked Made ∷ rest)
      (Accesses (CloseOf k) (Take k.slot (Some f)) ∷ h)
  takes k linked f front rest was found turn =
      let x = pending (CloseOf k) linked Waits in let y = pending (CloseOf k) linked Made in let own = (all x y front rest was refl refl).0 in
      let one = alone x y front rest was refl refl CloseMember refl (bit_small (is_closing (phase_at slots k.slot))) in
      let closing = bit_one (is_closing (phase_at slots k.slot)) (omega (arith, one.0)) in
      let due = after_open k (CloseOf k) linked (λ other stage e. inr e) own.1 own.3 (omega (arith, one.0)) turn in
      let there = found_there (fate k.slot) (table.at k.slot) (files_under (life_at slots k.slot) h) own.2 due (λ e. cc (found ∙ e)) (sound.has k.slot own.0) in
      let suit : suits There (phase_at slots k.slot) ≡ true = ap (λ (g : Fate). suits g (phase_at slots k.slot)) (sym there) ∙ sound.suit k.slot in
      let P = λ (z : Pending). (waits_for (CloseOf k) z.call z.stage ≡ false) ⊎ (at_slot Request k.slot z ≡ 0) in
      moved x y front rest was refl refl Gone (table_after table (Take k.slot (Some f))) (Accesses (CloseOf k) (Take k.slot (Some f))) refl refl (ap is_foreign there) refl
      (λ s ne. at_changed table.at k.slot None s ne) (λ j ne. append-nil (files_under j h)) (λ j. refl) (grind arith)
      (at_written table.at k.slot None) refl
      (
      grind (arith, each-both, at_slot, fits, Gone, closed_fits, at_same, same_keys, requests_done, k.slot, own.1, none_at CloseMember k.slot (front ++ rest) one.1, each-out P front rest x (subst (AllByRecursion P) was (requests_done k linked own.3 closing turn))))

  -- a close finds no file
  finds_none : (k : LifeKey) (linked : Bool) (front rest : List Pending) → calls ≡ front ++ pending (CloseOf k) linked Waits ∷ rest → None ≡ table.at k.slot
      → Sound fate slots (table_after table (Take k.slot None)) (front ++ pending (CloseOf k) linked Quit ∷ rest) (Accesses (CloseOf k) (Take k.slot None) ∷ h)
  finds_none k linked front rest was found =
      only (pending (CloseOf k) linked Waits) (pending (CloseOf k) linked Quit) front rest was refl refl (table_after table (Take k.slot None)) (Accesses (CloseOf k) (Take k.slot None)) refl refl
      (grind (arith, at_written, at_changed)) (λ j. append-nil (files_under j h)) (λ j. refl) (λ fit. fit)

  abbrev Goes : State → List Pending → DirectMoment → Type 0
  Goes table' calls' m = (fate' : ℕ → Fate) × Sound fate' slots table' calls' (m ∷ h)

  pub accesses : (c : DirectCall) (a : Action) (calls' : List Pending) → Allows table a → Makes c a calls calls' → Goes (table_after table a) calls' (Accesses c a)
  accesses (OpenAt k) (Put slot f replaced) calls' allowed makes =
      (changed_at fate k.slot There, rw (makes.is, makes.may) (puts k makes.linked f replaced makes.front makes.rest makes.was))
  accesses (CloseOf k) (Take slot (Some f)) calls' allowed makes = (grind (arith, Gone, takes))
  accesses (CloseOf k) (Take slot None) calls' allowed makes =
      (fate, rw (makes.is, makes.may) (finds_none k makes.linked makes.front makes.rest makes.was (allowed.1 ∙ ap table.at makes.may)))
  accesses (UseOf k) (Look slot None) calls' allowed makes = grind (arith, only)
  accesses (UseOf k) (Look slot (Some f)) calls' allowed makes = grind (arith, only)
  accesses (UseOf k) (Release f) calls' allowed makes = grind (arith, only)
  accesses _ _ calls' allowed makes = absurd makes.may

  -- a call makes no access any more
  pub quits : (c : DirectCall) (calls' : List Pending) → Stops c calls calls' → Goes table calls' (Quits c)
  quits (OpenAt k) calls' stops = (
    changed_at fate k.slot Missing,
    rw stops.is (opened k stops.linked Quit Missing stops.front stops.rest table (Quits (OpenAt k)) stops.was refl refl refl refl
        (λ s ne. refl) (λ j ne. refl) (λ j. refl) (λ empty new. (empty, new))),
  )
  quits (UseOf k) calls' stops = (
    fate,
    rw stops.is (only (pending (UseOf k) stops.linked Waits) (pending (UseOf k) stops.linked Quit) stops.front stops.rest stops.was refl refl table (Quits (UseOf k)) refl refl
        (λ s lt. refl) (λ j. refl) (λ j. refl) (λ fit. refl)),
  )
  quits (CloseOf k) calls' stops = (
    fate,
    rw stops.is (only (pending (CloseOf k) stops.linked Waits) (pending (CloseOf k) stops.linked Quit) stops.front stops.rest stops.was refl refl table (Quits (CloseOf k)) refl refl
        (λ s lt. refl) (λ j. refl) (λ j. refl) (λ fit. fit)),
  )

  -- the kernel puts a file at a slot that it chooses
  pub chooses : (k : LifeKey) (f : File) → Allows table (Allocate k.slot f) → k.slot < length slots → k.number ≡ (slot_numbered slots k.slot).number + 1
      → Goes (table_after table (Allocate k.slot f)) calls (Chooses k f)
  chooses k f allowed inside number =
      let g = fate k.slot in let p = phase_at slots k.slot in let fate' = changed_at fate k.slot Foreign in let here = at_written fate k.slot Foreign in
      let free = not_true (is_reserved p) (λ r. (sound.ranged k.slot).1 r allowed.1) in
      let plain = chosen_plain g (table.at k.slot) (files_under (next_at slots k.slot) h) (sound.next k.slot inside) allowed.2 in
      let gone = chosen_gone g p (table.at k.slot) (files_under (life_at slots k.slot) h) (sound.suit k.slot) free plain allowed.2 (sound.has k.slot inside) in
      let none = chosen_counts g p (sound.suit k.slot) free gone in
      let new : files_under k h ≡ [] = grind (arith, g, plain, next_none) in
      let others : (j : LifeKey) → (k.slot ≡ j.slot → k.number ≡ j.number → ⊥) → files_under j (Chooses k f ∷ h) ≡ files_under j h =
      λ j ne. ap (λ (fs : List File). files_under j h ++ fs) (apart k j f (λ e n. ne (sym e) (sym n))) ∙ append-nil (files_under j h) in (
        fate',
        record {
          inside = sound.inside;
          counted = sound.counted;
          suit = grind (arith, at_changed, Foreign);
          has = grind (arith, has_same, Foreign, at_changed);
          linked = sound.linked;
          fits = each-both (Fitting slots fate) (λ z. (at_slot Open k.slot z ≡ 0) × (at_slot Request k.slot z ≡ 0) × (g ≡ Missing → at_slot CloseMember k.slot z ≡ 0)) (Fitting slots fate') calls
              (grind (arith, fits, at_same, fits_same, at_changed, Foreign)) sound.fits
              (each-both (λ z. at_slot Open k.slot z ≡ 0) (λ z. (at_slot Request k.slot z ≡ 0) × (g ≡ Missing → at_slot CloseMember k.slot z ≡ 0)) _ calls (λ z a b. (a, b.0, b.1))
              (none_at Open k.slot calls (sound.counted Open k.slot ∙ none.0))
              (each-both (λ z. at_slot Request k.slot z ≡ 0) (λ z. g ≡ Missing → at_slot CloseMember k.slot z ≡ 0) _ calls (λ z a b. (a, b))
              (none_at Request k.slot calls (sound.counted Request k.slot ∙ none.1))
              (none_if CloseMember k.slot calls (λ m. sound.counted CloseMember k.slot ∙ none.2 m))));
          next = grind (arith, next_same, Foreign, at_written, same_keys, at_changed);
          ranged = grind (arith, at_changed, Foreign, allowed.1, sound.ranged k.slot);
          unborn = λ j later far. others j (λ e n. let m = ap (λ (s : ℕ). (slot_numbered slots s).number) e in let i = far (subst (λ (s : ℕ). s < length slots) e inside) in omega arith) ∙ sound.unborn j later far;
        },
      )

  -- an action of others
  other_slot : (slot s : ℕ) (x : Option File) → length slots ≤ slot → s < length slots → changed_at table.at slot x s ≡ table.at s
  other_slot slot s x le lt = at_changed table.at slot x s (λ (e : s ≡ slot). omega arith)

  elsewhere : (a : Action) (table' : State) → table'.size ≡ table.size → table'.range ≡ table.range → ((s : ℕ) → s < length slots → table'.at s ≡ table.at s)
      → Sound fate slots table' calls (Others a ∷ h)
  elsewhere a table' size range at = quiet table' calls (Others a) size range at (λ j. refl) (λ j. refl) (λ m s. refl) sound.fits

  pub others_act : (a : Action) → IsElsewhere (length slots) a → Sound fate slots (table_after table a) calls (Others a ∷ h)
  others_act a le = grind (arith, elsewhere, other_slot)
