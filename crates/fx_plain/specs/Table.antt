-- The results of a table's calls.
use Rattle.std.specs.Prelude.{◌≡◌, ℕ, ◌+◌, ◌<◌, ◌^◌, ◌==◌, not, ◌&&◌, Bool, true, if◌then◌else◌}
use Rattle.std.specs.Prelude.{List, [], map, Option, Some, None, option_map, IfSome}
use Rattle.std.specs.List.{range_with_len}
use Rattle.fx_base.specs.Identity.{Identity}
use Rattle.fx_plain.specs.State.{State}
use Rattle.fx_plain.specs.Step.{Steps, changed_at}
use Rattle.fx_plain.specs.History.{Leads, close_of, ◌▷◌, ◌▷▷◌}
use Rattle.fx_plain.specs.Contents.{Contents, IsTable, state_of, leaving, numbers_of}
use Rattle.fx_plain.specs.declared.event.File.{File}
use Rattle.fx_plain.specs.declared.event.Action.{Action}
use Rattle.fx_plain.specs.declared.event.Action.TheVariants.{Release}

abbrev pub identity_of : Option File → Option Identity
identity_of found = option_map (λ f. f.identity) found

-- the first `n` slots in order, each with its file's identity or `None`
abbrev pub slots_in_order : (ℕ → Option File) → ℕ → List (Option Identity)
slots_in_order at n = map (λ slot. identity_of (at slot)) (range_with_len 0 n)

abbrev pub number_of : Option File → Option ℕ
number_of found = option_map (λ f. f.number) found

-- a file under a number
abbrev pub numbered : ℕ → Identity → File
numbered number file = record { number = number; identity = file }

-- the file that a release closes: the file is retired and this was its last hold
abbrev pub closed_by_release : Contents → ℕ → Option File
closed_by_release c number =
    if (state_of c).holds number == 1 && not (leaving c number) then (state_of c).removed number
    else None

-- the file that a retirement closes: it has no holds
abbrev pub closed_by_retirement : Contents → ℕ → Option File
closed_by_retirement c number =
    if (state_of c).holds number == 0 then (state_of c).removed number else None

-- one more hold of the file at a slot fits 32 bits
abbrev pub HasRoomForHold : State → ℕ → Type 0
HasRoomForHold st slot = IfSome (st.at slot) (λ f. st.holds f.number + 1 < 2 ^ 32)

-- by number, whether a file is leaving, after one more removal
abbrev pub more_leaving : (ℕ → Bool) → Option File → ℕ → Bool
more_leaving leaving None = leaving
more_leaving leaving (Some f) = changed_at leaving f.number true

-- the action leads from the old table to the new one; the file that it found at its slot is leaving
-- from now on, and its number is the result
pub record LetsLeave (old new : Contents) (action : Action) (found : Option File)
    (removed : Option ℕ) : Type 0 where
  pub answer : removed ≡ number_of found
  pub step : Steps (state_of old) action (state_of new)
  pub numbers : numbers_of new ≡ numbers_of old
  pub sound : IsTable new
  pub leaving : leaving new ≡ more_leaving (leaving old) found

-- a hold of the file is released; the file is closed and returned if it is retired and this was its
-- last hold
pub record EndsHold (old new : Contents) (number : ℕ) (out : Option Identity) : Type 0 where
  pub answer : out ≡ identity_of (closed_by_release old number)
  pub steps : (f : File) → f.number ≡ number
      → Leads (state_of old) ([] ▷ Release f ▷▷ close_of (closed_by_release old number))
      (state_of new)
  pub numbers : numbers_of new ≡ numbers_of old
  pub sound : IsTable new
  pub leaving : leaving new ≡ leaving old

-- the table has this allocation range; all else is as before
pub record SetsRange (old new : Contents) (off len : ℕ) : Type 0 where
  pub state : state_of new ≡ record (state_of old) { range = (off, len) }
  pub same_leaving : leaving new ≡ leaving old
  pub same_numbers : numbers_of new ≡ numbers_of old
