-- Calls that were overtaken: each has a change of another pass for itself.
use Rattle.fx_lasting.proofs.Words.{◌≡◌, ℕ, zero, suc, ◌+◌, ◌<◌, ◌≤◌, List, [], ◌∷◌, refl, ap, ◌∙◌, subst, arith, cond, true, ⊎_elim, inl, inr}
use Rattle.fx_lasting.proofs.Words.{Option, ◌==◌, ◌&&◌, not, sum_by, IsInRange, LeftAlone, Key}
use Rattle.std.specs.Prelude.{◌≢◌}
use Rattle.std.proofs.lemmas.Bool.{eq-eqb}
use Rattle.std.proofs.lemmas.List.Sums.{sum_by-append, sum_by-cons}
use Rattle.fx_base.specs.Identity.{Identity}
use Rattle.fx_plain.specs.History.{IsSeenBy, ◌▷◌, part_of_pass}
use Rattle.fx_plain.specs.declared.event.Action.{Action}
use Rattle.fx_plain.specs.declared.event.Event.{Event}
use Rattle.fx_table.proofs.Calls.{seen_further}
use Rattle.fx_table.specs.Calls.{Adds, no_use}
use Rattle.fx_lasting.specs.Passes.{range_at_start}
use Rattle.fx_lasting.specs.Tables.{opening_of, view_of, changes_at, meetings, MeetsMore}
use Rattle.fx_lasting.specs.slots.AtEmpty.{SawEmptying}
use Rattle.fx_lasting.proofs.slot_lemmas.Overtaking.{emptied_by}
use Rattle.fx_table.specs.declared.values.Doing.TheVariants.{Idle as DoesNothing}
use mathlib.Core.Logic.{dite}
use native.Mathlib.Decide.{ℕ_discrete}
use Rattle.fx_lasting.specs.slots.Watches.{ReplacesAt, HasReplaced}
use Rattle.fx_lasting.specs.declared.key_answers.KeyFault.TheVariants.{Again}
use Rattle.fx_lasting.specs.declared.pass.LastingPass.{LastingPass}
use Rattle.fx_lasting.specs.declared.view.Start.{Start}
use Rattle.fx_lasting.specs.Retries.{changes_among, changes_in_range, GoesOnInRange, IsOvertakenSearch, EachSearchHasItsChange, InstallationsAreOvertaken, SearchesAreOvertaken, replaces_at, replaced_at, changes_known, Try, IsOvertakenTry, EachHasItsChange, LostCallsAreOvertaken, RemovalsAreOvertaken, ReplacementsAreOvertaken}

does_replace : (slot : ℕ) (a : Action) → ReplacesAt slot a → replaces_at slot a ≡ true
does_replace slot _ at = first_of (grind arith, search eq-eqb)

module _ (slot number : ℕ) where
  abbrev counts : Event → ℕ
  counts e = cond (not (e.pass == number) && replaces_at slot e.action) 1 0

  counts_another : (e : Event) → e.pass ≢ number → ReplacesAt slot e.action → counts e ≡ 1
  counts_another e another h3 = grind (arith, replaces_at, does_replace)

  -- a longer history has no fewer such events
  seen_has_more : (h more : List Event) → IsSeenBy h more → replaced_at slot number h ≤ replaced_at slot number more
  seen_has_more h more seen = let sum = ap (sum_by counts) seen.1 ∙ sum_by-append counts seen.0 h in omega (arith, sum)

  -- and one more once another pass filled the slot or emptied it
  replaced_has_more : (h more : List Event) → HasReplaced slot number h more → replaced_at slot number h + 1 ≤ replaced_at slot number more
  replaced_has_more h more did =
      let one = sum_by-cons counts did.event did.history ∙ ap (λ (n : ℕ). n + replaced_at slot number did.history) (counts_another did.event did.another did.there) in
      omega (arith, seen_has_more h did.history did.later, one, seen_has_more (did.history ▷ did.event) more did.seen)

  -- a call that was overtaken knows of one change more
  knows_more : (try : Try) → IsOvertakenTry slot number try → changes_known slot number try.before + 1 ≤ changes_known slot number try.after
  knows_more try is = let more = seen_has_more (view_of try.before).front (view_of try.after).front is.goes_on.0 in ⊎_elim
      (λ (did : HasReplaced slot number (view_of try.before).front (view_of try.after).front).
      let one = replaced_has_more (view_of try.before).front (view_of try.after).front did in omega (arith, one, is.goes_on.1))
      (λ (found : changes_at slot try.before < changes_at slot try.after). omega (arith, more, found)) is.overtaken

pub each_has_its_change : EachHasItsChange
each_has_its_change slot number first [] last goes = let more = seen_has_more slot number (view_of first).front (view_of last).front goes.0 in omega (arith, more, goes.1)
each_has_its_change slot number first (try ∷ tries) last all =
    let then = each_has_its_change slot number try.after tries last all.2 in
    omega (arith, seen_has_more slot number (view_of first).front (view_of try.before).front all.0.0, all.0.1, then, knows_more slot number try all.1)

pub lost_is_overtaken : LostCallsAreOvertaken
lost_is_overtaken k p p' slot file back put = grind arith

-- a call by key that left the file of the key at its slot
left_is_overtaken : (k : Start) (p p' : LastingPass) (key : Key) (freed released : Option Identity) → LeftAlone k p key Again freed released p'
    → IsOvertakenTry key.slot (view_of p).number (record { before = p; after = p' })
left_is_overtaken k p p' key freed released left =
    let changed = left.tries.changed in record {
      its_number = refl;
      goes_on = (
        seen_further (view_of p).front left.holder.between.front (view_of p').front (grind arith) (grind arith),
        omega (arith, changed),
      );
      overtaken = inr changed;
    }

pub removal_is_overtaken : RemovalsAreOvertaken
removal_is_overtaken k p p' key freed released taken = ⊎_elim (λ bad. absurd bad) (left_is_overtaken k p p' key freed released) taken

pub replacement_is_overtaken : ReplacementsAreOvertaken
replacement_is_overtaken k p p' key file back freed released put = ⊎_elim (λ bad. absurd bad) (left_is_overtaken k p p' key freed released) put.1

-- Searches of the range
module _ (k : Start) (number : ℕ) where
  among_more : (n : ℕ) (p p' : LastingPass) → GoesOnInRange p p' → changes_among k number n p ≤ changes_among k number n p'
  among_more zero p p' goes = omega arith
  among_more (suc n) p p' goes = let slot = (range_at_start k).0 + n in let rest = among_more n p p' goes in
      let seen = seen_has_more slot number (view_of p).front (view_of p').front goes.0 in let found = goes.1.1 slot in omega (arith, rest, seen, found)

  range_more : (p p' : LastingPass) → GoesOnInRange p p' → changes_in_range k number p ≤ changes_in_range k number p'
  range_more p p' goes = let some = among_more (range_at_start k).1 p p' goes in omega (arith, some, goes.1.0)

  -- one more at one of the slots
  among_one : (n : ℕ) (try : Try) (slot : ℕ) → (range_at_start k).0 ≤ slot → slot < (range_at_start k).0 + n → GoesOnInRange try.before try.after → IsOvertakenTry slot number try
      → changes_among k number n try.before + 1 ≤ changes_among k number n try.after
  among_one zero try slot low high goes is = absurd (omega (arith, low, high))
  among_one (suc n) try slot low high goes is = let last = (range_at_start k).0 + n in dite (ℕ_discrete slot last)
      (λ same. let rest = among_more n try.before try.after goes in let one = knows_more last number try (subst (λ (s : ℕ). IsOvertakenTry s number try) same is) in omega (arith, rest, one))
      (λ other. let rest = among_one n try slot low (omega (arith, high, other)) goes is in
      let seen = seen_has_more last number (view_of try.before).front (view_of try.after).front goes.0 in let found = goes.1.1 last in omega (arith, rest, seen, found))

  search_knows_more : (try : Try) → IsOvertakenSearch k number try → changes_in_range k number try.before + 1 ≤ changes_in_range k number try.after
  search_knows_more try is = ⊎_elim
      (λ (at : (slot : ℕ) × IsInRange k slot × IsOvertakenTry slot number try). let one = among_one (range_at_start k).1 try at.0 at.1.0 at.1.1 is.goes_on at.2 in omega (arith, one, is.goes_on.1.0))
      (λ (met : meetings try.before < meetings try.after). let some = among_more (range_at_start k).1 try.before try.after is.goes_on in omega (arith, some, met)) is.overtaken

pub each_search_has_its_change : EachSearchHasItsChange
each_search_has_its_change k number first [] last goes = let more = range_more k number first last goes in omega (arith, more)
each_search_has_its_change k number first (try ∷ tries) last all =
    let one = search_knows_more k number try all.1 in
    omega (arith, range_more k number first try.before all.0, each_search_has_its_change k number try.after tries last all.2, one)

-- a pass that did nothing, and saw a slot emptied or met another pass
emptying_overtakes : (k : Start) (p p' : LastingPass) → Adds (opening_of k) (view_of p) [] DoesNothing no_use (view_of p') → MeetsMore p p' → SawEmptying k p p'
    → IsOvertakenSearch k (view_of p).number (record { before = p; after = p' })
emptying_overtakes k p p' adds more saw = record {
  its_number = refl;
  goes_on = (adds.seen, more);
  overtaken = ⊎_elim
      (λ at. inl (at.0, at.1, record { its_number = refl; goes_on = (adds.seen, more.1 at.0); overtaken = inl (emptied_by k at.0 (view_of p).number (own_same k p p' adds) at.2.full at.2.empty) }))
      (λ met. inr met.0) saw;
}
  where
    own_same : (k : Start) (p p' : LastingPass) → Adds (opening_of k) (view_of p) [] DoesNothing no_use (view_of p')
        → part_of_pass (view_of p).number (view_of p').front ≡ part_of_pass (view_of p).number (view_of p).front
    own_same k p p' adds = subst (λ (n : ℕ). part_of_pass n (view_of p').front ≡ (view_of p').own) adds.number adds.front.mine ∙ adds.own

pub searches_are_overtaken : SearchesAreOvertaken
searches_are_overtaken k p p' searched more = emptying_overtakes k p p' searched.0 more searched.1

pub installations_are_overtaken : InstallationsAreOvertaken
installations_are_overtaken k p p' file back tried gives more = ⊎_elim (λ saw. emptying_overtakes k p p' tried.1 more saw)
    (λ lost. record {
      its_number = refl;
      goes_on = (tried.1.seen, more);
      overtaken = inl (lost.0, lost.1, record { its_number = refl; goes_on = (tried.1.seen, more.1 lost.0); overtaken = inr lost.3.0 });
    }) gives
