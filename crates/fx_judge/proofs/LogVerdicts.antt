-- The number of a verdict, as a statement of a log.
use Rattle.fx_judge.proofs.{◌≡◌, ◌↔◌, ℕ, ◌+◌, List, [], take, ap, sym, refl, subst, ◌∙◌, arith, Option, Some, None, take-map, Table, ring_of_slots}
use Rattle.fx_judge.proofs.{table_of_slots, Slots, RingState, new_ring, Happening, all_happenings, happening_of, HasNoFlight, HasNoFlightBy}
use Rattle.fx_judge.proofs.{IsNumberOf, IsReadAs, PassedLog, Bool, FileEntry, ◌<◌, IsLogVerdict, IsUnreadNumber, reading_in, reading_passed, steps_in}
use Rattle.fx_judge.proofs.{MeansRefusal, Ok}
use Rattle.check_flight.specs.Reasons.{IsReasonOf}
use Rattle.check_reason.specs.declared.reason.LogReason.{LogReason}
use Rattle.fx_judge.specs.declared.logs.ReadLog.{ReadLog}
use Rattle.fx_flight.specs.Whole.{IsLegalBy}
use Rattle.check_flight.specs.declared.verdict.FlightVerdict.{FlightVerdict}
use Rattle.check_flight.specs.declared.verdict.FlightVerdict.TheVariants.{Faulty, Legal, NotLegal}
use Rattle.fx_flight.specs.Faults.{IsFaultless, fault_of_log}
use Rattle.fx_flight.specs.Flight.{IsLegalLog}
use Rattle.fx_flight.specs.declared.fault.LogFault.{LogFault}
use Rattle.fx_judge.specs.declared.flights.YachtJudgement.{YachtJudgement}
use Rattle.fx_judge.specs.declared.unread.Unread.{Unread}
use Rattle.fx_ring.specs.Registration.{registered_sparse}

-- the ring of empty slots is the one after `sparse`

abbrev ring_with : List FileEntry → Table → RingState
ring_with catalogue t = record { catalogue = catalogue; size = t.size; range = t.range; at = t.at; submissions = 0; registrations = 0 }

pub sparse_ring : (catalogue : List FileEntry) (slots : Slots) {n : ℕ} → table_of_slots slots ≡ record { size = n; range = (0, n); at = λ _. None }
    → ring_of_slots catalogue slots 0 0 ≡ registered_sparse (new_ring catalogue) n
sparse_ring catalogue slots = ap (ring_with catalogue)

-- a log whose verdict isn't a fault has none

no_fault : (log : List Happening) (fault : Option LogFault) → fault_of_log 0 [] log ≡ fault
    → ((f : LogFault) → fault_of_log 0 [] log ≡ Some f → ⊥) → IsFaultless log
no_fault log None same none = same
no_fault log (Some f) same none = absurd (none f same)

-- a log that isn't read has no verdict
pub not_read : {whole : Bool} {p : PassedLog} {why : Unread} {code : ℕ} {details : YachtJudgement}
    → MeansRefusal why (reading_passed p) → IsUnreadNumber why code details → IsLogVerdict whole p code details
not_read {p = p} expected told = record {
  refused = record {
    known = told.known;
    bad_file = λ so. rw (told.bad_file so) at expected;
    malformed = λ so. rw (told.malformed so) at expected;
    too_many = λ so. rw (told.too_many so) at expected;
  };
  legal = λ so. absurd (omega (arith, told.unjudged, so));
  not_legal = λ so. absurd (omega (arith, told.unjudged, so));
  reason = λ so. absurd (omega (arith, told.unjudged, so));
  judged = λ few. absurd (omega (arith, told.unjudged, few));
  faulty = λ so. absurd (told.no_fault so);
}

module _ (whole : Bool) (p : PassedLog) (read : ReadLog) (is : reading_passed p ≡ Ok (reading_in read))
    (empty : table_of_slots read.slots ≡ record { size = p.slots; range = (0, p.slots); at = λ _. None }) where
  abbrev log : List Happening
  log = all_happenings read.events.items

  -- what is true of the log is true of what is read
  so_read : {says : RingState → List Happening → Type 0} → says (ring_of_slots read.catalogue read.slots 0 0) log → IsReadAs says p
  so_read {says} true_of = record {
    reading = reading_in read;
    read = is;
    so = subst (λ (r : RingState). says r log) (sparse_ring read.catalogue read.slots empty) true_of;
  }

  front_is : (count : ℕ) → all_happenings (take count read.events.items) ≡ take count log
  front_is count = sym (take-map happening_of count read.events.items)

  -- a verdict with steps has a reason
  no_flight : (reason : Option LogReason) (at : ℕ)
      → ((why : LogReason) → reason ≡ Some why → IsReasonOf read.catalogue read.slots read.events.items (at + 1) why)
      → 0 < steps_in reason → IsReadAs (λ ring log. HasNoFlight ring (take (at + 1) log)) p
  no_flight None at reasoned some = absurd (omega (arith, some))
  no_flight (Some why) at reasoned some = so_read (λ legal memory. (reasoned why refl).refuted 0 0
      (subst (λ (l : List Happening). IsLegalLog (ring_of_slots read.catalogue read.slots 0 0) l) (sym (front_is (at + 1))) legal))

  -- the number of a verdict says of the log what the verdict says
  pub judged : (verdict : FlightVerdict) {code : ℕ} {details : YachtJudgement} → IsNumberOf verdict code details
      → ((fault : LogFault) → (verdict ≡ Faulty fault) ↔ (fault_of_log 0 [] log ≡ Some fault))
      → (verdict ≡ Legal → (submissions registrations : ℕ) → IsLegalBy whole (ring_of_slots read.catalogue read.slots submissions registrations) log)
      → ((at : ℕ) (reason : Option LogReason) → verdict ≡ NotLegal at reason → (submissions registrations : ℕ)
      → HasNoFlightBy whole (ring_of_slots read.catalogue read.slots submissions registrations) (all_happenings (take (at + 1) read.events.items)))
      → ((at : ℕ) (reason : LogReason) → verdict ≡ NotLegal at (Some reason) → IsReasonOf read.catalogue read.slots read.events.items (at + 1) reason)
      → IsLogVerdict whole p code details
  judged verdict {code} {details} told fault legal none reasoned = record {
    refused = record {
      known = omega (arith, told.known);
      bad_file = λ so. absurd (omega (arith, told.known, so));
      malformed = λ so. absurd (omega (arith, told.known, so));
      too_many = λ so. absurd (omega (arith, told.known, so));
    };
    legal = λ so. so_read (legal (told.legal so) 0 0);
    not_legal = λ so. let it = told.not_legal so in so_read
        (subst (λ (l : List Happening). HasNoFlightBy whole (ring_of_slots read.catalogue read.slots 0 0) l) (front_is (details.at + 1)) (none details.at it.0 it.1 0 0));
    reason = λ so some. let it = told.not_legal so in
        no_flight it.0 details.at (λ why is. reasoned details.at why (it.1 ∙ ap (NotLegal details.at) is)) (rw (it.2) at some);
    judged = λ few. so_read (no_fault log (fault_of_log 0 [] log) refl (λ f is. told.judged few f ((fault f).1 is)));
    faulty = λ so. let it = told.faulty so in so_read (it.0.fault, rw (it.2) ((fault it.0).0 it.1), it.3);
  }
