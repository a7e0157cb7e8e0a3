-- The files of a history: installed, removed and closed.
use Rattle.fx_plain.proofs.Words.{◌≡◌, ◌⊎◌, ℕ, ◌<◌, List, [], ◌∷◌, map, refl, sym, ap, subst, ◌∙◌, Option, Some, None, if◌then◌else◌, inl, inr}
use Rattle.fx_plain.proofs.Words.{Closed, State, Allows, after, changed_at, with_removed, state_after, AllowsAll, action_of, closes_in, closed_by}
use Rattle.fx_plain.proofs.Words.{File, Event, Action, Take, Close, All, IsLegal, ◌+◌, ◌≤◌, true, false, ◌++◌, length}
use Rattle.fx_plain.proofs.Words.{arith, IsSettled, nil_from_length, IsAtSlot, IsInstalled, installed_by, IsClosed, IsStart, closed_of, closes_of}
use Rattle.fx_plain.proofs.Words.{IsStillThere, IsClosedOnce, All-append, All-cons, All-nil}
use Rattle.fx_plain.proofs.Cells.{by_equality, named, named_same, term_found}
use Rattle.fx_plain.proofs.LawHolds.{bit, present, placed, placed_one, tally, tally_after, tally_all, tally_start}

-- properties of each file at a slot, and of each removed file by its number
module _ (P : File → Type 0) (Q : ℕ → File → Type 0) (both : (f : File) → P f → Q f.number f) where
  pub record HoldsOfFiles (st : State) : Type 0 where
    pub at_slots : (slot : ℕ) → slot < st.size → (f : File) → st.at slot ≡ Some f → P f
    pub removed : (number : ℕ) (f : File) → st.removed number ≡ Some f → Q number f

  module _ {st : State} (all : HoldsOfFiles st) where
    at_changed : (slot : ℕ) {x : Option File} → ((f : File) → x ≡ Some f → P f) → (s : ℕ) → s < st.size → (f : File)
        → changed_at st.at slot x s ≡ Some f → P f
    at_changed slot {x} new s lt f = by_equality s slot (λ b. (if b then x else st.at s) ≡ Some f → P f) (λ _. new f) (λ _. all.at_slots s lt f)

    more_removed : {slot : ℕ} (found : Option File) → slot < st.size → found ≡ st.at slot → (n : ℕ) (f : File)
        → with_removed st.removed found n ≡ Some f → Q n f
    more_removed found lt is n f = grind arith

    emptied : {slot : ℕ} {found : Option File} → slot < st.size → found ≡ st.at slot → HoldsOfFiles (after st (Take slot found))
    emptied {slot} {found} lt is = record { at_slots = at_changed slot {x = None} (λ f is. cc); removed = more_removed found lt is }

    pub holds_after : (a : Action) → Allows st a → ((f : File) → installed_by a ≡ Some f → P f) → HoldsOfFiles (after st a)
    holds_after a may new = grind (arith, at_changed, more_removed, emptied)

module _ (P : File → Type 0) where
  abbrev pub HoldsOfAll : State → Type 0
  HoldsOfAll st = HoldsOfFiles P (λ _. P) (λ _ p. p) st

  -- a property of each file at the start, and of each that was installed, holds for each file at
  -- the end
  pub holds_at_end : (start : State) (h : List Event) → HoldsOfAll start → AllowsAll start (map action_of h) → ((f : File) → IsInstalled h f → P f)
      → HoldsOfAll (state_after start (map action_of h))
  holds_at_end start [] all may new = all
  holds_at_end start (e ∷ h) all may new = grind (arith, holds_after, holds_at_end start h all may.0 (λ f is. new f (inl is)))

  -- and for each file that was closed
  pub holds_of_closes : (start : State) (h : List Event) → HoldsOfAll start → AllowsAll start (map action_of h) → ((f : File) → IsInstalled h f → P f)
      → (f : File) → IsClosed h f → P f
  holds_of_closes start [] all may new f is = absurd is
  holds_of_closes start (e ∷ h) all may new f (inl before) = holds_of_closes start h all may.0 (λ g is. new g (inl is)) f before
  holds_of_closes start (e ∷ h) all may new f (inr now) =
      (holds_at_end start h all may.0 (λ g is. new g (inl is))).removed f.number f (rw now at may.1).0

pub every_file_was_there_or_installed : (start end : State) (h : List Event) (f : File) → ((number : ℕ) → start.removed number ≡ None)
    → IsLegal start h end → IsAtSlot end f ⊎ IsClosed h f → IsAtSlot start f ⊎ IsInstalled h f
every_file_was_there_or_installed start end h f none legal is =
    let P : File → Type 0 = λ g. IsAtSlot start g ⊎ IsInstalled h g in let all : HoldsOfAll P start =
    record { at_slots = λ slot lt g at. inl (slot, lt, at); removed = λ n g at. let e : None ≡ Some g = sym (none n) ∙ at in cc } in
    let end_all : HoldsOfAll P end = subst (HoldsOfAll P) (sym legal.leads.1) (holds_at_end P start h all legal.leads.0 (λ g new. inr new)) in
    grind (arith, holds_of_closes)

closed_now : (P : Closed → Type 0) (a : Action) → ((f : File) → a ≡ Close f → P f.identity) → All P (closed_by a)
closed_now P a all = grind (arith, All-cons, All-nil)

-- a property of each file that was closed holds for the list of closes
pub all_closes_in : (P : Closed → Type 0) (h : List Event) → ((f : File) → IsClosed h f → P f.identity) → All P (closes_in (map action_of h))
all_closes_in P [] all = All-nil P
all_closes_in P (e ∷ h) all =
    All-append P (closes_in (map action_of h)) (closed_by e.action) (all_closes_in P h (λ f is. all f (inl is)))
    (closed_now P e.action (λ f is. all f (inr is)))

-- A file from its slot to its close.

-- no other file has the file's number
abbrev Same : File → File → Type 0
Same f g = g.number ≡ f.number → g ≡ f

abbrev SameAt : File → ℕ → File → Type 0
SameAt f n g = n ≡ f.number → g ≡ f

abbrev IsOnly : File → State → Type 0
IsOnly f st = HoldsOfFiles (Same f) (SameAt f) (λ _ p. p) st

-- a file that is installed has a fresh number, which is then used, and closes nothing
pub installed_now : {f : File} (st : State) (a : Action) → Allows st a → installed_by a ≡ Some f
    → (st.fresh f.number ≡ true) × ((after st a).fresh f.number ≡ false) × (closed_of f.number a ≡ [])
installed_now st a may is = grind arith

pub used_after : (st : State) (a : Action) (n : ℕ) → st.fresh n ≡ false → (after st a).fresh n ≡ false
used_after st a n used = grind arith

-- the file is in the table and no file of its number was closed, or it isn't and was closed
abbrev IsOneOf : File → ℕ → List File → Type 0
IsOneOf f there closed = ((there ≡ 1) × (closed ≡ [])) ⊎ ((there ≡ 0) × (closed ≡ f ∷ []))

-- a file that was at a slot, and all closes of its number
record IsFollowed (f : File) (st : State) (closed : List File) : Type 0 where
  used : st.fresh f.number ≡ false
  only : IsOnly f st
  one_of : IsOneOf f (tally f.number st) closed

followed_after : {f : File} {st : State} {closed : List File} (a : Action) → IsFollowed f st closed → Allows st a
    → IsFollowed f (after st a) (closed ++ closed_of f.number a)
followed_after {f} {st} a before may = grind (arith, tally_after)

followed_from_start : (f : File) {st : State} → IsStart st → IsAtSlot st f → IsFollowed f st []
followed_from_start f {st} start (slot, lt, is) =
    grind (arith, tally_start st f.number start, placed_one f.number st.at slot st.size lt, named f.number, named_same f f.number refl, start.used slot f lt is)

-- a file that is installed is the only one of its number
followed_from_new : {f : File} (st : State) (closed : List File) → tally f.number st + length closed ≤ 1 → (a : Action) → Allows st a
    → installed_by a ≡ Some f → IsFollowed f (after st a) (closed ++ closed_of f.number a)
followed_from_new {f} st closed few a may is =
    let (fresh, used, none_closed) = installed_now st a may is in let one : bit (st.fresh f.number) ≡ 1 = ap bit fresh in
    let only : IsOnly f st = record {
      at_slots = λ slot lt g is same. let there : named f.number (st.at slot) ≡ 1 = ap (named f.number) is ∙ named_same g f.number same in
          let at_least = placed_one f.number st.at slot st.size lt in absurd (omega arith);
      removed = λ n g is same. let there : present (st.removed f.number) ≡ 1 = ap present (ap st.removed (sym same) ∙ is) in absurd (omega arith);
    } in grind (arith, tally_after, holds_after, nil_from_length)

followed : {start : State} (h : List Event) (f : File) → IsStart start → AllowsAll start (map action_of h) → IsAtSlot start f ⊎ IsInstalled h f
    → IsFollowed f (state_after start (map action_of h)) (closes_of f.number h)
followed [] f begins may (inl at_start) = followed_from_start f begins at_start
followed [] f begins may (inr never) = absurd never
followed (e ∷ h) f begins may (inl at_start) = followed_after e.action (followed h f begins may.0 (inl at_start)) may.1
followed (e ∷ h) f begins may (inr (inl before)) = followed_after e.action (followed h f begins may.0 (inr before)) may.1
followed {start} (e ∷ h) f begins may (inr (inr now)) =
    let few = tally_start start f.number begins in let same = tally_all start h f.number few may.0 in
    followed_from_new (state_after start (map action_of h)) (closes_of f.number h) (omega arith) e.action may.1 now

module _ {f : File} {end : State} {closed : List File} (settled : IsSettled end) (end_of : IsFollowed f end closed) where
  all_placed : tally f.number end ≡ placed f.number end.at end.size
  all_placed = grind arith

  still_there : tally f.number end ≡ 1 → IsAtSlot end f
  still_there one = grind (arith, term_found)

  no_more_there : tally f.number end ≡ 0 → IsAtSlot end f → ⊥
  no_more_there no_slot (slot, lt, is) =
      grind (arith, all_placed, end.at slot, named f.number, named_same f f.number refl, placed_one f.number end.at slot end.size lt)

pub every_removed_file_is_closed : (start end : State) (h : List Event) (f : File) → IsStart start → AllowsAll start (map action_of h)
    → end ≡ state_after start (map action_of h)
    → IsSettled end → IsAtSlot start f ⊎ IsInstalled h f → IsStillThere h end f ⊎ IsClosedOnce h end f
every_removed_file_is_closed start end h f begins may is settled was_there =
    let closed = closes_of f.number h in
    let end_of = subst (λ (st : State). IsFollowed f st closed) (sym is) (followed h f begins may was_there) in
    elim end_of.one_of [
      | inl open_still ↦ inl (still_there settled end_of open_still.0, open_still.1)
      | inr gone ↦ inr (no_more_there settled end_of gone.0, gone.1)
    ]
