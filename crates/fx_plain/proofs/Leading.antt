-- Histories that go on from one another.
use Rattle.fx_plain.proofs.Words.{◌≡◌, ℕ, List, [], ◌∷◌, ◌++◌, map, refl, ap, ◌∙◌, None, State, after, state_after, AllowsAll, action_of, Event, sym}
use Rattle.fx_plain.proofs.Words.{append_assoc, Action, ◌▷▷◌, Leads, closes_in, append-nil}
use Rattle.fx_plain.specs.History.{held_by, AllReleaseTheirOwn}
use Rattle.fx_plain.specs.Reopening.{LegalAfter}
use Rattle.std.proofs.Common.{arith}

-- the state after two histories
state_behind : (start : State) (h more : List Event)
    → state_after start (map action_of (more ++ h)) ≡ state_after (state_after start (map action_of h)) (map action_of more)
state_behind start h [] = refl
state_behind start h (e ∷ more) = ap (λ (z : State). after z e.action) (state_behind start h more)

allowed_behind : (start : State) (h more : List Event) → AllowsAll start (map action_of (more ++ h))
    → AllowsAll (state_after start (map action_of h)) (map action_of more)
allowed_behind start h [] all = tt
allowed_behind start h (e ∷ more) all = (allowed_behind start h more all.0, rw (state_behind start h more) at all.1)

held_behind : (h more : List Event) (p : ℕ) → held_by h p ≡ None → held_by (more ++ h) p ≡ held_by more p
held_behind h [] p none = none
held_behind h (e ∷ more) p none = rw (held_behind h more p none) refl

released_behind : (h more : List Event) → ((p : ℕ) → held_by h p ≡ None) → AllReleaseTheirOwn (more ++ h) → AllReleaseTheirOwn more
released_behind h [] none all = tt
released_behind h (e ∷ more) none all = (released_behind h more none all.0, rw (held_behind h more e.pass (none e.pass)) at all.1)

pub legal_behind : LegalAfter
legal_behind start end h more none legal = grind (arith, allowed_behind, state_behind, released_behind)

-- Histories that go on from one another.

-- one history goes on where another ended
pub leads_then : (first mid last : State) (h more : List Action) → Leads first h mid → Leads mid more last → Leads first (h ▷▷ more) last
leads_then first mid last h [] lead next = (lead.0, next.1 ∙ lead.1)
leads_then first mid last h (action ∷ more) lead next = grind (arith, leads_then first mid (state_after mid more) h more lead (next.0.0, refl))

pub closes_in-then : (h more : List Action) → closes_in (h ▷▷ more) ≡ closes_in h ++ closes_in more
closes_in-then h [] = sym (append-nil (closes_in h))
closes_in-then h (action ∷ more) = grind (arith, append_assoc, closes_in-then h more)

shape_after : (st : State) (action : Action) → ((after st action).size ≡ st.size) × ((after st action).range ≡ st.range)
shape_after st action = grind arith

-- no history changes the size of a table, or its range
pub same_shape : (st : State) (h : List Action) → ((state_after st h).size ≡ st.size) × ((state_after st h).range ≡ st.range)
same_shape st [] = (refl, refl)
same_shape st (action ∷ h) = let a = shape_after (state_after st h) action in let b = same_shape st h in (a.0 ∙ b.0, a.1 ∙ b.1)

pub same_size : (first last : State) (h : List Action) → Leads first h last → last.size ≡ first.size
same_size first last h lead = ap (λ (st : State). st.size) lead.1 ∙ (same_shape first h).0
