-- Orders that are supposed, and those that follow where they are refuted.
use Rattle.check_certificate.proofs.Words.{◌≡◌, ℕ, ◌+◌, ◌<◌, ◌≤◌, List, [], ◌∷◌, ◌++◌, All, Bool, true, false, not, None, Option, Some, arith, refl}
use Rattle.check_certificate.proofs.Words.{⊎_elim, cases_lt, replicate, take, IsContradicted, IsForced, IsKeptByNone, LogBeginning, PointOrder, TimedFlight}
use Rattle.check_certificate.proofs.Words.{gap_of, opposite, ring_of_beginning, under}
use Rattle.check_certificate.proofs.Existing.{times_of_flight}
use Rattle.std.proofs.lemmas.List.Elements.{All-append, All-push, All-replicate, All-take}

-- no flight keeps orders, if none is supposed
pub refuted : (b : LogBeginning) → IsKeptByNone (under b None) → IsContradicted b
refuted b none submissions registrations sound legal =
    let times = times_of_flight (ring_of_beginning b submissions registrations) legal.answers legal.flight legal.is in none (record {
      submissions = submissions;
      registrations = registrations;
      sound = record { catalogue = sound.catalogue; faultless = sound.faultless; marks = sound.marks };
      legal = legal;
      at = times.0;
      times = times.1;
      kept = tt;
    })

-- a flight that keeps an order is a flight
pub less : (b : LogBeginning) (supposed : Option PointOrder) → TimedFlight (under b supposed) → TimedFlight (under b None)
less b supposed f = record {
  submissions = f.submissions;
  registrations = f.registrations;
  sound = record { catalogue = f.sound.catalogue; faultless = f.sound.faultless; marks = f.sound.marks };
  legal = f.legal;
  at = f.at;
  times = f.times;
  kept = tt;
}

-- an order is supposed, beside the known ones
pub supposed : (b : LogBeginning) (order : PointOrder) (orders : List PointOrder) → All (IsForced (under b None)) orders
    → All (IsForced (under b (Some order))) (orders ++ order ∷ [])
unfolding less
supposed b order orders known = All-push (IsForced (under b (Some order))) orders order (λ k d low f. known k d low (less b (Some order) f)) (λ f. f.kept)

-- and refuted
pub opposed : (b : LogBeginning) (order : PointOrder) → IsKeptByNone (under b (Some order)) → IsForced (under b None) (opposite order)
opposed b order none f = ⊎_elim
    (λ low. by_gap order.strict refl low)
    (λ kept. absurd (none (record {
      submissions = f.submissions;
      registrations = f.registrations;
      sound = record { catalogue = f.sound.catalogue; faultless = f.sound.faultless; marks = f.sound.marks };
      legal = f.legal;
      at = f.at;
      times = f.times;
      kept = kept;
    })))
    (cases_lt (f.at order.to) (f.at order.from + gap_of order.strict))
  where
    by_gap : (strict : Bool) → order.strict ≡ strict → f.at order.to < f.at order.from + gap_of order.strict
        → f.at order.to + gap_of (not order.strict) ≤ f.at order.from
    by_gap true is low = rw is (let before : f.at order.to < f.at order.from + 1 = rw is at low in omega arith)
    by_gap false is low = rw is (let before : f.at order.to < f.at order.from + 0 = rw is at low in omega arith)

pub opposed_all : (b : LogBeginning) (order : PointOrder) (before : List PointOrder) (n m : ℕ) → All (IsForced (under b None)) before
    → IsKeptByNone (under b (Some order)) → All (IsForced (under b None)) (take n before ++ replicate m (opposite order))
opposed_all b order before n m known none =
    let forced = IsForced (under b None) in
    All-append forced (take n before) (replicate m (opposite order)) (All-take forced n before known)
    (All-replicate forced m (opposite order) (opposed b order none))
