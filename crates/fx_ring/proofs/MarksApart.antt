-- Tables and histories whose files have different marks.
use Rattle.fx_ring.proofs.Words.{◌≡◌, ◌≢◌, ◌⊎◌, List, [], ◌∷◌, sym, subst, ⊎_elim, inl, inr, Option, Some, None, ◌▷◌, ◌▷▷◌, installed_by, File, Close}
use Rattle.fx_ring.proofs.Words.{Action, MayClose, ℕ, refl, ◌∙◌, State, after, changed_at, state_after, Look, Put, Clear, Take, Allocate, suc, ◌==◌}
use Rattle.fx_ring.proofs.Words.{Bool, true, false, cond, map, Contains, ap, arith, eq-eqb, Submitted, part_of_chain, action_of, IsInstalled, Event}

-- one of the steps installs the file
abbrev pub IsPut : List Action → File → Type 0
IsPut [] f = ⊥
IsPut (action ∷ h) f = IsPut h f ⊎ (installed_by action ≡ Some f)

-- no step installs a mark that one before it installed
abbrev pub HasNewMarks : List Action → Type 0
HasNewMarks [] = Unit {0}
HasNewMarks (action ∷ h) = HasNewMarks h × ((f g : File) → installed_by action ≡ Some f → IsPut h g → f.identity.mark ≢ g.identity.mark)

-- the steps install such files alone, and no mark twice
abbrev pub Puts : (File → Type 0) → List Action → Type 0
Puts P h = ((f : File) → IsPut h f → P f) × HasNewMarks h

pub put_either : (h more : List Action) (f : File) → IsPut (h ▷▷ more) f → IsPut h f ⊎ IsPut more f
put_either h [] f is = inl is
put_either h (action ∷ more) f (inl before) = ⊎_elim (λ first. inl first) (λ behind. inr (inl behind)) (put_either h more f before)
put_either h (action ∷ more) f (inr now) = inr (inr now)

new_then : (h more : List Action) → HasNewMarks h → HasNewMarks more
    → ((f g : File) → IsPut more f → IsPut h g → f.identity.mark ≢ g.identity.mark) → HasNewMarks (h ▷▷ more)
new_then h [] first behind apart = first
new_then h (action ∷ more) first behind apart = (
  new_then h more first behind.0 (λ f g is. apart f g (inl is)),
  λ f g now is. ⊎_elim (λ before. apart f g (inr now) before) (λ since. behind.1 f g now since) (put_either h more g is),
)

-- steps after others whose marks are other ones
pub puts_then : (P Q R : File → Type 0) (h more : List Action) → ((f : File) → P f → R f) → ((f : File) → Q f → R f)
    → ((f g : File) → Q f → P g → f.identity.mark ≢ g.identity.mark) → Puts P h → Puts Q more → Puts R (h ▷▷ more)
puts_then P Q R h more left right apart first behind = grind (arith, put_either, new_then)

pub puts_so : (P Q : File → Type 0) (h : List Action) → ((f : File) → P f → Q f) → Puts P h → Puts Q h
puts_so P Q h so puts = (λ f is. so f (puts.0 f is), puts.1)

none_new : (h : List Action) → ((f : File) → IsPut h f → ⊥) → HasNewMarks h
none_new [] none = tt
none_new (action ∷ h) none = (none_new h (λ f is. none f (inl is)), λ f g now is. absurd (none f (inr now)))

-- steps that install nothing
pub puts_none : (P : File → Type 0) (h : List Action) → ((f : File) → IsPut h f → ⊥) → Puts P h
puts_none P h none = (λ f is. absurd (none f is), none_new h none)

-- one step that installs a file, or none
pub puts_one : (P : File → Type 0) (action : Action) → ((f : File) → installed_by action ≡ Some f → P f) → Puts P ([] ▷ action)
puts_one P action one = (λ f is. ⊎_elim (λ before. absurd before) (λ now. one f now) is, (tt, λ f g now before. absurd before))

puts_and_closes : (P : File → Type 0) (steps : List Action) (removed : File) → Puts P steps → Puts P (steps ▷ Close removed)
puts_and_closes P steps removed puts = grind arith

-- a close after them installs nothing
pub puts_may_close : (P : File → Type 0) (steps : List Action) (removed : Option File) (events : List Action) → MayClose steps removed events
    → Puts P steps → Puts P events
puts_may_close P steps removed events h5 puts = grind (arith, puts_and_closes)

-- A table whose files have marks apart keeps them apart, as long as each mark that is installed is
-- a new one.

-- a step leaves all slots, or changes one to what it installs
slots_after : (st : State) (a : Action) → ((after st a).at ≡ st.at) ⊎ ((slot : ℕ) × ((after st a).at ≡ changed_at st.at slot (installed_by a)))
slots_after st (Put slot f replaced) = inr (slot, refl)
slots_after st (Clear slot found) = inr (slot, refl)
slots_after st (Take slot found) = inr (slot, refl)
slots_after st (Allocate slot f) = inr (slot, refl)
slots_after st (Look slot None) = inl refl
slots_after st _ = inl refl

module _ (P : File → Type 0) where
  -- each file at a slot is one of which P holds, or was installed; and no two have one mark
  pub record IsApart (h : List Action) (at : ℕ → Option File) : Type 0 where
    pub from : (slot : ℕ) (f : File) → at slot ≡ Some f → P f ⊎ IsPut h f
    pub distinct : (slot other : ℕ) (f g : File) → at slot ≡ Some f → at other ≡ Some g → f.identity.mark ≡ g.identity.mark → slot ≡ other

  -- no mark that was installed is one of a file of which P holds
  abbrev pub IsUnlike : List Action → Type 0
  IsUnlike h = (f g : File) → IsPut h f → P g → f.identity.mark ≢ g.identity.mark

  kept_apart : {h : List Action} (a : Action) (at : ℕ → Option File) → IsApart h at → IsApart (a ∷ h) at
  kept_apart a at apart = grind arith

  module _ (h : List Action) (a : Action) (at : ℕ → Option File) (place : ℕ) (fresh : HasNewMarks (a ∷ h)) (unlike : IsUnlike (a ∷ h))
      (apart : IsApart h at) where
    -- the file that the step installs has a mark that no slot's file has
    no_other : {slot : ℕ} {f g : File} → installed_by a ≡ Some f → at slot ≡ Some g → f.identity.mark ≢ g.identity.mark
    no_other {slot} {f} {g} now is = ⊎_elim (λ was. unlike f g (inr now) was) (λ put. fresh.1 f g now put) (apart.from slot g is)

    -- a file is where the step put it, or was there
    cases : {slot : ℕ} {f : File} → changed_at at place (installed_by a) slot ≡ Some f
        → ((slot ≡ place) × (installed_by a ≡ Some f)) ⊎ (at slot ≡ Some f)
    cases {slot} {f} = grind arith

    changed_apart : IsApart (a ∷ h) (changed_at at place (installed_by a))
    changed_apart = grind (arith, cases, no_other)

  pub apart_after : (start : State) (h : List Action) → IsApart [] start.at → HasNewMarks h → IsUnlike h → IsApart h (state_after start h).at
  apart_after start [] begins fresh unlike = begins
  apart_after start (a ∷ h) begins fresh unlike =
      let before = apart_after start h begins fresh.0 (λ f g put was. unlike f g (inl put) was) in
      grind (arith, state_after start h, kept_apart, changed_apart, slots_after)

-- Where each chain's part of a history installs no mark twice, and marks of that chain alone, the
-- history doesn't either.

-- the file was installed by a chain of a submission
abbrev pub IsOfChain : ℕ → ℕ → File → Type 0
IsOfChain submission chain f = (m : ℕ) × (j : ℕ) × (f.identity.mark ≡ Submitted submission chain m j)

abbrev pub part_actions : ℕ → List Event → List Action
part_actions chain h = map action_of (part_of_chain chain h)

-- what a step of the whole installed, a step of its chain's part installed
pub put_in_part : (h : List Event) (f : File) → IsPut (map action_of h) f → (e : Event) × Contains h e × IsPut (part_actions e.chain h) f
put_in_part [] f is = absurd is
put_in_part (e ∷ h) f (inl before) =
    let (d, at, is) = put_in_part h f before in
    (d, (suc at.0, let lt = at.1 in omega arith, at.2), more (e.chain == d.chain) (part_of_chain d.chain h) is)
  where
    more : (b : Bool) (xs : List Event) → IsPut (map action_of xs) f → IsPut (map action_of (cond b (e ∷ xs) xs)) f
    more true xs is = inl is
    more false xs is = is
put_in_part (e ∷ h) f (inr now) = (
  e,
  (grind arith),
  subst (λ b. IsPut (map action_of (cond b (e ∷ part_of_chain e.chain h) (part_of_chain e.chain h))) f)
      (sym (eq-eqb e.chain e.chain refl)) (inr now),
)

pub installed_put : (h : List Event) (f : File) → IsInstalled h f → IsPut (map action_of h) f
installed_put [] f is = is
installed_put (e ∷ h) f (inl before) = inl (installed_put h f before)
installed_put (e ∷ h) f (inr now) = inr now

module _ (submission : ℕ) where
  -- the parts of the chains of all events
  abbrev PartsPut : List Event → Type 0
  PartsPut h = (e : Event) → Contains h e → HasNewMarks (part_actions e.chain h)
      × ((f : File) → IsPut (part_actions e.chain h) f → IsOfChain submission e.chain f)

  earlier : (b : Bool) (chain : ℕ) (e : Event) (xs : List Event)
      → HasNewMarks (map action_of (cond b (e ∷ xs) xs)) × ((f : File) → IsPut (map action_of (cond b (e ∷ xs) xs)) f → IsOfChain submission chain f)
      → HasNewMarks (map action_of xs) × ((f : File) → IsPut (map action_of xs) f → IsOfChain submission chain f)
  earlier b chain e xs puts = grind arith

  parts_before : {e : Event} (h : List Event) → PartsPut (e ∷ h) → PartsPut h
  parts_before {e} h parts d at = earlier (e.chain == d.chain) d.chain e (part_of_chain d.chain h)
      (parts d (suc at.0, let lt = at.1 in omega arith, at.2))

  pub whole_new : (h : List Event) → PartsPut h → HasNewMarks (map action_of h)
  whole_new [] parts = tt
  whole_new (e ∷ h) parts =
      let own : part_of_chain e.chain (e ∷ h) ≡ e ∷ part_of_chain e.chain h =
      ap (λ b. cond b (e ∷ part_of_chain e.chain h) (part_of_chain e.chain h)) (eq-eqb e.chain e.chain refl) in
      let here = parts e (0, omega arith, refl) in
      let fresh : HasNewMarks (e.action ∷ part_actions e.chain h) = subst (λ l. HasNewMarks (map action_of l)) own here.0 in (
        whole_new h (parts_before h parts),
        λ f g now before same.
            let (d, at, there) = put_in_part h g before in
            let mine = here.1 f (subst (λ l. IsPut (map action_of l) f) (sym own) (inr now)) in
            let theirs = (parts_before h parts d at).1 g there in
            let marks : Submitted submission e.chain mine.0 mine.1 ≡ Submitted submission d.chain theirs.0 theirs.1 =
            sym mine.2 ∙ (same ∙ theirs.2) in
            let chain : d.chain ≡ e.chain = cc in
            fresh.1 f g now (subst (λ c. IsPut (part_actions c h) g) chain there) same,
      )
