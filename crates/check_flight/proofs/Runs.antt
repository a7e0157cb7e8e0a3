-- The places of a chain's completions, its accesses one after another, and how few members are left
-- after them.
use Rattle.check_flight.proofs.Words.{CallPlan, subst, IsCallDone, JudgedLog, Request, Completion, AreChainsDone, ChainAccess, Chain}
use Rattle.check_flight.proofs.Words.{accesses_of_chain, append-nil, first_of_call, members_of, map, take_all, take-map, all_asked, all_completed}
use Rattle.check_flight.proofs.Words.{answers_of_plan, asked_of, completed_of, ◌-◌, slice_index_or, length, ◌≡◌, ℕ, ◌+◌, ◌≤◌, List, [], ◌∷◌, ◌++◌}
use Rattle.check_flight.proofs.Words.{take, refl, sym, ap, arith, suc, zero, Access, Asked, AllByRecursion, Completed, FileEntry, HasMemory}
use Rattle.check_flight.proofs.Words.{IsChainDone, MatchBool, Place, Rest, Rules, AreRight, behind, canceled, either_way, last_of, ne_eqb, eq-eqb}
use Rattle.check_flight.proofs.Words.{cases_Bool, ⊎_elim, next_member, over, rest_at, settled_at, severs, step, step_of, Some, None, ◌==◌}
use Rattle.check_flight.proofs.Words.{length-take, rest_after, ◌<◌, ◌∙◌, Contains, moved}
use Rattle.fx_chain.proofs.ChainGoesOn.{canceled_count}
use Rattle.fx_order.proofs.RequestCases.{request_place}

-- each completion is at the place after the one before
abbrev pub AreAt : Place → List Completed → Type 0
AreAt place [] = Unit {0}
AreAt place (c ∷ cs) = (c.place ≡ place) × AreAt (next_member place) cs

canceled_at : (place : Place) (requests : List Asked) → AreAt place (canceled place requests)
canceled_at place [] = tt
canceled_at place (request ∷ requests) = (refl, canceled_at (next_member place) requests)

module _ (catalogue : List FileEntry) (size : ℕ) where
  pub chain_at : (place : Place) (requests : List Asked) (accesses : List Access) (cs : List Completed)
      → IsChainDone catalogue size place requests accesses cs → AreAt place cs
  chain_at place [] accesses cs x = rw x.1 tt
  chain_at place (request ∷ requests) accesses cs x =
      let (own, others, c, later, are, whole, done, on) = x in
      rw whole (
        request_place catalogue place size request.operation own c done,
        either_way (severs request c) (λ _ y. rw y.1 (canceled_at (next_member place) requests))
            (λ _. chain_at (next_member place) requests others later) on,
      )

-- the member of the completion at a position
pub member_at : (place : Place) (cs : List Completed) → AreAt place cs → (k : ℕ) (d : Completed) → k < length cs
    → (slice_index_or cs k d).place ≡ moved place k
member_at place [] at k d few = absurd (omega arith)
member_at place (c ∷ cs) at zero d few = at.0 ∙ (let n : place.member ≡ place.member + 0 = omega arith in λ i. record place { member = n i })
member_at place (c ∷ cs) at (suc k) d few =
    let n : place.member + 1 + k ≡ place.member + suc k = omega arith in
    member_at (next_member place) cs at.1 k d (omega arith) ∙ (λ i. record place { member = n i })

-- two completions at one place are one
pub same_place : (place : Place) (cs : List Completed) → AreAt place cs → (c d : Completed) → Contains cs c → Contains cs d → c.place ≡ d.place
    → c ≡ d
same_place place cs at c d (k, low, is) (j, few, are) same =
    let p = member_at place cs at k c low in
    let q = member_at place cs at j d few in
    let m : place.member + k ≡ place.member + j =
    ap (λ (x : Place). x.member) (sym p ∙ ap (λ (x : Completed). x.place) is ∙ same ∙ sym (ap (λ (x : Completed). x.place) are) ∙ q) in
    let n : k ≡ j = omega arith in
    sym is ∙ rw n (at_any cs j c d few) ∙ are
  where
    at_any : (cs : List Completed) (j : ℕ) (c d : Completed) → j < length cs → slice_index_or cs j c ≡ slice_index_or cs j d
    at_any [] j c d few = absurd (omega arith)
    at_any (x ∷ cs) zero c d few = refl
    at_any (x ∷ cs) (suc j) c d few = at_any cs j c d (omega arith)

module _ (rules : Rules) where
  pub after_both : (rest : Rest) (front later : List Access)
      → rest_after rules rest (front ++ later) ≡ rest_after rules (rest_after rules rest front) later
  after_both rest [] later = refl
  after_both rest (a ∷ front) later = after_both (step rules rest a).1 front later

  -- a chain that is over stays so
  pub over_stays : (accesses : List Access) → rest_after rules over accesses ≡ over
  over_stays [] = refl
  over_stays (a ∷ accesses) = over_stays accesses

  behind_fewer : (place : Place) (request : Asked) (requests : List Asked) (c : Completed)
      → length (settled_at rules (next_member place) requests).1.requests ≤ length requests
      → length (behind rules place request requests c).1.requests ≤ length requests
  behind_fewer place request requests c rest =
      ⊎_elim (λ cut. rw cut (omega arith)) (λ on. rw on rest) (cases_Bool (severs request c))

  pub settled_fewer : (place : Place) (requests : List Asked) → length (settled_at rules place requests).1.requests ≤ length requests
  settled_fewer place [] = omega arith
  settled_fewer place (request ∷ requests) =
      let few = behind_fewer place request requests (rules.answer place request None) (settled_fewer (next_member place) requests) in
      ⊎_elim (λ none. rw none (omega (arith, few))) (λ some. rw some (omega arith)) (cases_Bool (rules.count request == 0))

  behind_made : (place : Place) (request : Asked) (requests : List Asked) (c : Completed)
      → (settled_at rules (next_member place) requests).1.made ≡ 0 → (behind rules place request requests c).1.made ≡ 0
  behind_made place request requests c rest = ⊎_elim (λ cut. rw cut refl) (λ on. rw on rest) (cases_Bool (severs request c))

  -- the next request that reaches the table has made no access
  pub settled_made : (place : Place) (requests : List Asked) → (settled_at rules place requests).1.made ≡ 0
  settled_made place [] = refl
  settled_made place (request ∷ requests) =
      let rest = behind_made place request requests (rules.answer place request None) (settled_made (next_member place) requests) in
      ⊎_elim (λ none. rw none rest) (λ some. rw some refl) (cases_Bool (rules.count request == 0))

  step_fewer : (place : Place) (requests : List Asked) (made : ℕ) (a : Access)
      → length (step_of rules place requests made a).1.requests ≤ length requests
  step_fewer place [] made a = omega arith
  step_fewer place (request ∷ requests) made a =
      let few = behind_fewer place request requests (rules.answer place request (Some a)) (settled_fewer (next_member place) requests) in
      ⊎_elim (λ last. rw last (omega (arith, few))) (λ more. rw more (omega arith)) (cases_Bool (rules.count request == made + 1))

  pub after_fewer : (rest : Rest) (accesses : List Access) → length (rest_after rules rest accesses).requests ≤ length rest.requests
  after_fewer rest [] = omega arith
  after_fewer rest (a ∷ accesses) =
      omega (arith, after_fewer (step rules rest a).1 accesses, step_fewer rest.place rest.requests rest.made a)

  -- the accesses of a request that are left lead to those after it
  own_after : (place : Place) (request : Asked) (requests : List Asked) (made : ℕ) (a : Access) (own : List Access)
      → made + length (a ∷ own) ≡ rules.count request
      → rest_after rules (rest_at place (request ∷ requests) made) (a ∷ own)
      ≡ (behind rules place request requests (rules.answer place request (last_of (a ∷ own)))).1
  own_after place request requests made a [] all =
      let last : (step_of rules place (request ∷ requests) made a).1 ≡ (behind rules place request requests (rules.answer place request (Some a))).1 =
      rw (eq-eqb (rules.count request) (made + 1) (omega arith)) in last
  own_after place request requests made a (b ∷ own) all =
      let more : (step_of rules place (request ∷ requests) made a).1 ≡ rest_at place (request ∷ requests) (made + 1) =
      rw (ne_eqb (rules.count request) (made + 1) (λ (e : rules.count request ≡ made + 1). omega arith)) in
      ap (λ (r : Rest). rest_after rules r (b ∷ own)) more ∙ own_after place request requests (made + 1) b own (omega arith)

  module _ (catalogue : List FileEntry) (size : ℕ) (right : AreRight catalogue size rules) where
    -- no more are left than that, and the next one has made no access
    abbrev Few : Rest → List Access → ℕ → List Asked → Type 0
    Few rest accesses done requests =
        (length (rest_after rules rest accesses).requests + done ≤ length requests) × ((rest_after rules rest accesses).made ≡ 0)

    few_canceled : (place : Place) (requests : List Asked) (m : ℕ) (cs : List Completed) → cs ≡ canceled place (take m requests)
        → length cs ≤ length requests
    few_canceled place requests m cs is = omega (arith, ap length is, canceled_count place (take m requests), length-take m requests)

    few_behind : (place : Place) (request : Asked) (requests : List Asked) (m : ℕ) (c : Completed) (others : List Access) (cs : List Completed)
        → (IsChainDone catalogue size (next_member place) (take m requests) others cs
        → Few (settled_at rules (next_member place) requests).1 others (length cs) requests)
        → MatchBool (severs request c) ((others ≡ []) × (cs ≡ canceled (next_member place) (take m requests)))
        (IsChainDone catalogue size (next_member place) (take m requests) others cs)
        → Few (behind rules place request requests c).1 others (suc (length cs)) (request ∷ requests)
    few_behind place request requests m c others cs goes = either_way (severs request c)
        (λ cut x. rw (cut, over_stays others) (omega (arith, few_canceled (next_member place) requests m cs x.1), refl))
        (λ on x. let it = goes x in rw on (omega (arith, it.0), it.1))

    -- after the accesses of the first request, or at once if it makes none
    first_own : (place : Place) (request : Asked) (requests : List Asked) (mine others : List Access) (c : Completed) (done : ℕ)
        → length mine ≡ rules.count request → c ≡ rules.answer place request (last_of mine)
        → Few (behind rules place request requests c).1 others done (request ∷ requests)
        → Few (rest_after rules (settled_at rules place (request ∷ requests)).1 mine) others done (request ∷ requests)
    first_own place request requests [] others c done long is goes =
        let none : (settled_at rules place (request ∷ requests)).1 ≡ (behind rules place request requests (rules.answer place request None)).1 =
        rw (eq-eqb (rules.count request) 0 (sym long)) in
        subst (λ (r : Rest). Few r others done (request ∷ requests)) (sym none) (rw is at goes)
    first_own place request requests (a ∷ mine) others c done long is goes =
        let some : (settled_at rules place (request ∷ requests)).1 ≡ rest_at place (request ∷ requests) 0 =
        rw (ne_eqb (rules.count request) 0 (λ (e : rules.count request ≡ 0). omega arith)) in
        subst (λ (r : Rest). Few r others done (request ∷ requests))
        (sym (ap (λ (r : Rest). rest_after rules r (a ∷ mine)) some ∙ own_after place request requests 0 a mine (omega arith))) (rw is at goes)

    -- the first members are done, so no more are left than those after them, and none has begun
    pub done_members : (place : Place) (requests : List Asked) (m : ℕ) (own : List Access) (cs : List Completed) → AllByRecursion HasMemory cs
        → IsChainDone catalogue size place (take m requests) own cs
        → Few (settled_at rules place requests).1 own (length cs) requests
    done_members place requests zero own cs memory x =
        rw (x.0, x.1) (omega (arith, settled_fewer place requests), settled_made place requests)
    done_members place [] (suc m) own cs memory x = rw (x.0, x.1) (omega arith, refl)
    done_members place (request ∷ requests) (suc m) own cs memory x =
        let (mine, others, c, later, are, whole, done, on) = x in
        let mem = rw whole at memory in
        let so = right place request mine c done mem.0 in
        let goes = few_behind place request requests m c others later (done_members (next_member place) requests m others later mem.1) on in
        rw (whole, are, after_both) (first_own place request requests mine others c (suc (length later)) so.0 so.1 goes)

-- The accesses of a call, as those of chain 1.

-- one chain is done
pub one_done : (catalogue : List FileEntry) (size id : ℕ) (run : List Asked) (order : List ChainAccess) (answers : List Completed)
    → AreChainsDone catalogue size id 1 (run ∷ []) order answers
    → IsChainDone catalogue size (first_of_call id) run (accesses_of_chain 1 order) answers
one_done catalogue size id run order answers (own, others, whole, done, none) = rw (whole, none, append-nil) done

-- the requests are one chain
pub one_chain : (requests : List Asked) (chains : List Chain) (d : Chain) → length chains ≡ 1 → (slice_index_or chains 0 d).first ≡ 0
    → (slice_index_or chains 0 d).len ≡ length requests → map (members_of requests) chains ≡ requests ∷ []
one_chain requests [] d many first len = absurd (omega arith)
one_chain requests (x ∷ []) d many first len =
    rw (first, len) (ap (λ (l : List Asked). l ∷ []) (take_all (length requests) requests (omega arith)))
one_chain requests (x ∷ y ∷ chains) d many first len = absurd (omega arith)

-- the first members of a call are done
pub first_done : (log : JudgedLog) (plan : CallPlan) (requests : List Request) (id m own : ℕ) (accesses : List Access) (answers : List Completion)
    → accesses ≡ plan.accesses.items → answers ≡ plan.answers.items
    → IsCallDone log id (all_asked (take m requests)) (take own accesses) (all_completed (take m answers))
    → IsCallDone log id (take m (all_asked requests)) (take own plan.accesses.items) (take m (answers_of_plan plan))
first_done log plan requests id m own accesses answers those these done =
    rw (take-map asked_of m requests, take-map completed_of m plan.answers.items, ← those, ← these) done

-- up to one of them
pub member_done : (log : JudgedLog) (plan : CallPlan) (requests : List Request) (id m own : ℕ) (accesses : List Access) (answers : List Completion) → 1 ≤ m
    → accesses ≡ plan.accesses.items → answers ≡ plan.answers.items
    → IsCallDone log id (all_asked (take m requests)) (take own accesses) (all_completed (take m answers))
    → IsCallDone log id (take (m - 1 + 1) (all_asked requests)) (take own plan.accesses.items) (take (m - 1 + 1) (answers_of_plan plan))
member_done log plan requests id m own accesses answers some those these done =
    let n : m - 1 + 1 ≡ m = omega arith in
    rw n (first_done log plan requests id m own accesses answers those these done)
