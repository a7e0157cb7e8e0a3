-- Legal histories of a table.
use Rattle.fx_lasting.proofs.Words.{◌≡◌, List, [], ◌∷◌, ◌++◌, refl, held_by, Event, state_at_start, range_at_start, slots_of, state_after_all, Start}
use Rattle.fx_lasting.proofs.Words.{ReleasesItsOwn, map, action_of, IsHistory}
pub use Rattle.fx_table.proofs.Growing.{Grows, each_changed, grows_more, grows_none, grows_one, held_mine, part_mine}
use Rattle.fx_plain.specs.Step.{Allows}
use Rattle.fx_plain.proofs.Leading.{same_shape as shape_of_state}

pub legal_more : (k : Start) {h : List Event} {e : Event} → IsHistory k h → Allows (state_after_all k h) e.action
    → ReleasesItsOwn (held_by h e.pass) e.action → IsHistory k (e ∷ h)
legal_more k legal may own = record { leads = ((legal.leads.0, may), refl); releases = (legal.releases, own) }

-- the beginning of a legal history is legal
pub legal_before : (k : Start) (h since : List Event) → IsHistory k (since ++ h) → IsHistory k h
legal_before k h [] legal = legal
legal_before k h (e ∷ since) legal = legal_before k h since record { leads = (legal.leads.0.0, refl); releases = legal.releases.0 }

-- no history changes the size or the range
pub same_shape : (k : Start) (h : List Event) → ((state_after_all k h).size ≡ slots_of k) × ((state_after_all k h).range ≡ range_at_start k)
same_shape k h = shape_of_state (state_at_start k) (map action_of h)
