-- The walk over all accesses that calls intend: its steps.
use Rattle.check_certificate.proofs.Words.{◌≡◌, ℕ, ◌+◌, ◌<◌, ◌≤◌, List, length, sym, ap, ◌∙◌, arith, Some, Option, ⊎_elim, cases_lt, subst, slice_get}
use Rattle.check_certificate.proofs.Words.{slice_index_or, Asked, Place, Called, Happening, FileEntry, either_option, Bool, true, false, suc, zero}
use Rattle.check_certificate.proofs.Words.{refl, None, ◌-◌, first_answer, is_answered_at, Given, AreAllRuledOut, AreRuledOut, AreRuledOutTo, end_of}
use Rattle.check_certificate.proofs.Words.{IsCallRuledOut, IsRuledOut, member_of, all_below, IsEventAt, slot_count, log_of_beginning, LogBeginning}
use Rattle.check_certificate.proofs.Words.{WalkAim, IsCatalogue, IsIntent, intents_of, positions_of, Operation, all_asked, asked_of, refusal_of, ◌&&◌}
use Rattle.check_certificate.proofs.Words.{Intent, Request, happening_of, LogEvent, as_many_intents, slice_get_within, length-map, slice_get-map, not}
use Rattle.check_certificate.proofs.Words.{slice_get_read, ◌||◌, option_map}
use Rattle.check_certificate.proofs.Forcing.{event_is, request_is}
use Rattle.check_certificate.proofs.Intended.{intent_once}

-- a test of each number below a number, one more, and one that fails
pub all_more : (test : ℕ → Bool) (n : ℕ) → test n ≡ true → all_below n test ≡ true → all_below (n + 1) test ≡ true
all_more test n here before = grind arith

pub not_all : (test : ℕ → Bool) (n k : ℕ) → k < n → test k ≡ false → all_below n test ≡ false
not_all test zero k low here = absurd (omega arith)
not_all test (suc n) k low here = ⊎_elim
    (λ early. ap (λ (b : Bool). test n && b) (not_all test n k early here) ∙ and_false (test n))
    (λ late. let same : k ≡ n = omega arith in
    ap (λ (b : Bool). b && all_below n test) (subst (λ (i : ℕ). test i ≡ false) same here)) (cases_lt k n)
  where
    and_false : (b : Bool) → (b && false) ≡ false
    and_false true = refl
    and_false false = refl

pub or_false : (a b : Bool) → a ≡ true → b ≡ false → (not a || b) ≡ false
or_false true b early is = is
or_false false b early is = absurd (cc early)

-- a request of a chain by its number
pub asked_at : (chain : List Request) (n : ℕ) (r : Request) → n < length chain → r ≡ slice_index_or chain n r
    → slice_get (all_asked chain) n ≡ Some (asked_of r)
asked_at chain n r low is = slice_get-map asked_of chain n ∙ ap (option_map asked_of) (slice_get_read chain (length chain) n r refl low is)

-- the search for the answer of a member: at an event, past it, and at the end
module _ (g : Given) (place : Place) (at : ℕ) where
  pub answer_here : at < length g.events → is_answered_at g at place ≡ true → first_answer g place (length g.events - at) at ≡ Some at
  answer_here low here = grind arith

  pub answer_later : at < length g.events → is_answered_at g at place ≡ false
      → first_answer g place (length g.events - at) at ≡ first_answer g place (length g.events - (at + 1)) (at + 1)
  answer_later low here = grind arith

  pub answer_none : length g.events ≤ at → first_answer g place (length g.events - at) at ≡ None
  answer_none past = let left : length g.events - at ≡ 0 = omega arith in rw left refl

-- a request intends no access past its last one
below : (catalogue : List FileEntry) (size : ℕ) (place : Place) (operation : Operation) (k : ℕ) (intent : Intent)
    → IsIntent catalogue size place operation k (Some intent) → k < length (positions_of operation)
below catalogue size place operation k intent is = either_option {R = k < length (positions_of operation)} (refusal_of catalogue size operation)
    (λ _ p. let inside = slice_get_within (intents_of place p.0 operation) k intent (sym p.2) in
    let many = as_many_intents place p.0 operation in omega arith)
    (λ errno p. absurd (cc p)) is

module _ (b : LogBeginning) (aim : WalkAim) where
  pub next_intent : (place : Place) (operation : Operation) (access : ℕ) (found : Option Intent) → IsCatalogue b.catalogue.now
      → IsIntent b.catalogue.now (slot_count b) place operation access found
      → ((own : Intent) → found ≡ Some own → IsRuledOut b aim place operation access own)
      → AreRuledOutTo b aim place operation access → AreRuledOutTo b aim place operation (access + 1)
  next_intent place operation access found is intended out before k intent low of = grind (arith, intent_once)

  pub all_intents : (place : Place) (operation : Operation) (end : ℕ) → length (positions_of operation) ≤ end
      → AreRuledOutTo b aim place operation end → AreRuledOut b aim place operation
  all_intents place operation end few before k intent of =
      let low = below b.catalogue.now (slot_count b) place operation k intent of in before k intent (omega arith) of

  pub next_member : (id n : ℕ) (chain : List Request) (r : Request) → n < length chain → r ≡ slice_index_or chain n r
      → AreRuledOut b aim (member_of id n) (asked_of r).operation
      → ((k : ℕ) (request : Asked) → k < n → slice_get (all_asked chain) k ≡ Some request → AreRuledOut b aim (member_of id k) request.operation)
      → (k : ℕ) (request : Asked) → k < n + 1 → slice_get (all_asked chain) k ≡ Some request → AreRuledOut b aim (member_of id k) request.operation
  next_member id n chain r inside is out before k request low asked =
      ⊎_elim (λ early. before k request early asked)
      (λ late. let same : n ≡ k = omega arith in grind (arith, request_is chain n k r request same inside is asked))
      (cases_lt k n)

  pub next_call : (at : ℕ) (event : LogEvent) → at < length b.events.now → event ≡ slice_index_or b.events.now at event
      → (at < end_of aim → IsCallRuledOut b aim (happening_of event))
      → ((p id : ℕ) (requests : List Asked) → p < at → p < end_of aim → IsEventAt b p (Called id requests) → AreAllRuledOut b aim id requests)
      → (p id : ℕ) (requests : List Asked) → p < at + 1 → p < end_of aim → IsEventAt b p (Called id requests) → AreAllRuledOut b aim id requests
  next_call at event inside is out before p id requests low sooner there = grind (arith, event_is)

  -- an event at a position is one of the log
  pub event_inside : (p : ℕ) (event : Happening) → IsEventAt b p event → p < length b.events.now
  event_inside p event there =
      let inside = slice_get_within (log_of_beginning b) p event there in
      let long = length-map b.events.now happening_of in omega arith
