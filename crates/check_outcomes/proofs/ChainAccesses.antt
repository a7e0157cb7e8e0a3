-- A chain's next access, and the rest of the chain after it.
use Rattle.check_outcomes.proofs.Words.{◌≡◌, ℕ, ◌+◌, ◌<◌, ◌≤◌, List, [], ◌∷◌, ◌++◌, length, refl, sym, ap, ◌∙◌, arith, append_assoc, nil_from_length}
use Rattle.check_outcomes.proofs.Words.{Option, Some, None, if◌then◌else◌, MatchBool, FileEntry, length-append, append-nil, by_equality, either_way}
use Rattle.check_outcomes.proofs.Words.{AllByRecursion, Completed, next_member, canceled, severs, Asked, Place, IsChainDone, IsRequestDone, ⊎_elim}
use Rattle.check_outcomes.proofs.Words.{inl, inr, Contains, Closed, Table, Permits, contains_head, Access, HasMemory, IsNextOf, Rest, Rules, over}
use Rattle.check_outcomes.proofs.Words.{rest_at, settled_at, behind, step_of, Allocates, FindsFull, cases_eq, Contains-append_left, Contains-push}
use Rattle.check_outcomes.proofs.Words.{HasEachOf, Allocate}

abbrev pub last_of : List Access → Option Access
last_of [] = None
last_of (a ∷ []) = Some a
last_of (a ∷ b ∷ l) = last_of (b ∷ l)

last_of-end : (front : List Access) (a : Access) → last_of (front ++ a ∷ []) ≡ Some a
last_of-end [] a = refl
last_of-end (x ∷ []) a = refl
last_of-end (x ∷ y ∷ front) a = last_of-end (y ∷ front) a

-- a shorter front
longer : (front : List Access) {accesses : List Access} (own : List Access) {others : List Access} → front ++ accesses ≡ own ++ others
    → length front ≤ length own → (mid : List Access) × (own ≡ front ++ mid) × (accesses ≡ mid ++ others)
longer [] own is few = (own, refl, is)
longer (x ∷ front) [] is few = absurd (omega arith)
longer (x ∷ front) {accesses} (y ∷ own) {others} is few =
    let head : y ≡ x = cc in
    let tail : front ++ accesses ≡ own ++ others = cc in
    let (mid, own_is, rest) = longer front own tail (omega arith) in
    (mid, (λ i. head i ∷ own_is i), rest)

-- the rules have the right number of accesses of each request that finds memory, and the right
-- answer
abbrev pub AreRight : List FileEntry → ℕ → Rules → Type 0
AreRight catalogue size rules = (place : Place) (request : Asked) (own : List Access) (c : Completed)
    → IsRequestDone catalogue size place request.operation own c → HasMemory c
    → (length own ≡ rules.count request) × (c ≡ rules.answer place request (last_of own))

module _ (catalogue : List FileEntry) (size : ℕ) (rules : Rules) (right : AreRight catalogue size rules) where
  -- the accesses that are left of a chain, and what it still answers
  pub record IsRest (rest : Rest) (accesses : List Access) (cs : List Completed) : Type 0 where
    pub front : List Access
    pub made : length front ≡ rest.made
    pub done : IsChainDone catalogue size rest.place rest.requests (front ++ accesses) cs

  -- the first request that is left has accesses left
  abbrev pub IsReady : Place → List Asked → ℕ → Type 0
  IsReady place [] made = made ≡ 0
  IsReady place (request ∷ requests) made = made < rules.count request

  -- these were answered up to now, and the chain goes on from this place by these accesses, to what
  -- it answers in the end
  pub record Goes (now : List Completed × Rest) (accesses : List Access) (final : List Completed) : Type 0 where
    pub later : List Completed
    pub whole : final ≡ now.0 ++ later
    pub memory : AllByRecursion HasMemory later
    pub ready : IsReady now.1.place now.1.requests now.1.made
    pub rest_is : IsRest now.1 accesses later

  pub recorded_first : (recorded : List Completed) {now : List Completed × Rest} {accesses : List Access} {cs final : List Completed} → final ≡ recorded ++ cs
      → Goes now accesses cs → Goes (recorded ++ now.0, now.1) accesses final
  recorded_first recorded {now} whole goes = record {
    later = goes.later;
    whole = whole ∙ (λ i. recorded ++ goes.whole i) ∙ sym (append_assoc recorded now.0 goes.later);
    memory = goes.memory;
    ready = goes.ready;
    rest_is = goes.rest_is;
  }

  nothing_yet : (rest : Rest) {accesses : List Access} {cs : List Completed} → AllByRecursion HasMemory cs
      → IsReady rest.place rest.requests rest.made → IsRest rest accesses cs → Goes ([], rest) accesses cs
  nothing_yet rest {cs = cs} memory ready is = record { later = cs; whole = refl; memory = memory; ready = ready; rest_is = is }

  over_now : {recorded cs : List Completed} {accesses : List Access} → accesses ≡ [] → cs ≡ recorded → Goes (recorded, over) accesses cs
  over_now {recorded} none is = record {
    later = [];
    whole = is ∙ sym (append-nil recorded);
    memory = tt;
    ready = refl;
    rest_is = record { front = []; made = refl; done = (none, refl) };
  }

  abbrev Behind : Place → Asked → List Asked → Completed → List Access → List Completed → Type 0
  Behind place request requests c others cs = MatchBool (severs request c) ((others ≡ []) × (cs ≡ canceled (next_member place) requests))
      (IsChainDone catalogue size (next_member place) requests others cs)

  goes_behind : (place : Place) (request : Asked) (requests : List Asked) {c : Completed} {others : List Access} {cs : List Completed}
      → (IsChainDone catalogue size (next_member place) requests others cs → Goes (settled_at rules (next_member place) requests) others cs)
      → Behind place request requests c others cs → Goes (behind rules place request requests c) others (c ∷ cs)
  goes_behind place request requests {c} goes = either_way (severs request c) (λ cut x. rw cut (over_now x.0 (λ i. c ∷ x.1 i)))
      (λ on x. rw on (recorded_first (c ∷ []) refl (goes x)))

  pub settles : (place : Place) (requests : List Asked) {accesses : List Access} {cs : List Completed} → AllByRecursion HasMemory cs
      → IsChainDone catalogue size place requests accesses cs → Goes (settled_at rules place requests) accesses cs
  settles place [] memory x = over_now x.0 x.1
  settles place (request ∷ requests) {accesses} {cs} memory x =
      let (own, others, c, later, are, whole, done, on) = x in
      let mem = rw whole at memory in
      by_equality (rules.count request) 0
      (λ b. Goes (if b then behind rules place request requests (rules.answer place request None) else ([], rest_at place (request ∷ requests) 0))
      accesses cs)
      (λ zero.
      let so = right place request own c done mem.0 in
      let none : own ≡ [] = nil_from_length own (so.0 ∙ zero) in
      let answer = rw none at so.1 in
      rw (whole, are, none, ← answer) (goes_behind place request requests (settles (next_member place) requests mem.1) on))
      (λ some. nothing_yet (rest_at place (request ∷ requests) 0) memory (omega arith) (record { front = []; made = refl; done = x }))

  -- no access is left: the chain is over, and all of it is recorded
  pub ends : {place : Place} (requests : List Asked) {made : ℕ} {cs : List Completed} → AllByRecursion HasMemory cs → IsReady place requests made
      → IsRest (rest_at place requests made) [] cs → (requests ≡ []) × (cs ≡ [])
  ends [] memory ready is = (refl, is.done.1)
  ends {place} (request ∷ requests) memory ready is =
      let (own, others, c, rest, are, whole, done, on) = is.done in
      let mem = rw whole at memory in
      let many = (right place request own c done mem.0).0 in
      let long = simp length-append at (ap length are) in
      absurd (omega arith)

  -- an access is made: it is the next one of the first request that is left, and the chain goes on
  pub steps : {place : Place} (requests : List Asked) {made : ℕ} {a : Access} {accesses : List Access} {cs : List Completed}
      → AllByRecursion HasMemory cs → IsReady place requests made → IsRest (rest_at place requests made) (a ∷ accesses) cs
      → IsNextOf catalogue size place requests made a × Goes (step_of rules place requests made a) accesses cs
  steps [] memory ready is = let none = simp length-append at (ap length is.done.0) in absurd (omega arith)
  steps {place} (request ∷ requests) {made} {a} {accesses} {cs} memory ready is =
      let front : List Access = is.front ++ a ∷ [] in
      let long : length front ≡ made + 1 = omega (arith, length-append is.front (a ∷ [])) in
      let (own, others, c, rest, are, whole, done, on) = is.done in
      let mem = rw whole at memory in
      let so = right place request own c done mem.0 in
      let (mid, own_is, accesses_are) = longer front own (append_assoc is.front (a ∷ []) accesses ∙ are) (omega arith) in (
        (is.front, mid, c, is.made, rw (own_is, append_assoc is.front (a ∷ []) mid) at done),
        by_equality (rules.count request) (made + 1)
            (λ b. Goes (if b then behind rules place request requests (rules.answer place request (Some a))
            else ([], rest_at place (request ∷ requests) (made + 1))) accesses cs)
            (λ last.
            let none : mid ≡ [] = nil_from_length mid (omega (arith, ap length own_is, length-append front mid)) in
            let answer = rw (own_is, none, append-nil, last_of-end) at so.1 in
            rw (whole, accesses_are, none, ← answer) (goes_behind place request requests (settles (next_member place) requests mem.1) on))
            (λ more. nothing_yet (rest_at place (request ∷ requests) (made + 1)) memory (omega arith)
            (record { front = front; made = long; done = rw append_assoc is.done })),
      )

-- The accesses by which a request may do what it is to do at a table.

-- the only access is the one that the table permits
pub the_one : (table : Table) (make : Option Closed → Access) {choices : List Access} {now at found : Option Closed} {a : Access}
    → choices ≡ make now ∷ [] → now ≡ at → a ≡ make found → (Permits table (make found) → found ≡ at) → Permits table a → Contains choices a
the_one table make {now = now} are is own permits may = rw (are, own, permits (rw own at may), ← is) (contains_head (make now) [])

pub each_allocation : (table : Table) (choices : List Access) {file : Closed} → Contains choices FindsFull
    → ((slot : ℕ) → slot < table.size → Contains choices (Allocates slot file)) → HasEachOf table (Allocate file) choices
each_allocation table choices full each a (inl x) may = rw x.1 (each x.0 (rw x.1 at may).0.0)
each_allocation table choices full each a (inr is) may = rw is full

-- one more slot in the list
pub one_slot_more : (choices : List Access) {n : ℕ} {file : Closed} → Contains choices FindsFull
    → ((k : ℕ) → k < n → Contains choices (Allocates k file))
    → Contains (choices ++ Allocates n file ∷ []) FindsFull × ((k : ℕ) → k < n + 1 → Contains (choices ++ Allocates n file ∷ []) (Allocates k file))
one_slot_more choices {n} {file} full each = (
  Contains-append_left choices _ FindsFull full,
  λ k low. ⊎_elim (λ same. rw same (Contains-push choices (Allocates n file)))
      (λ other. Contains-append_left choices _ (Allocates k file) (each k (omega arith))) (cases_eq k n),
)
