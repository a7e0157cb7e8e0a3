-- An order goes from state to state of a closed list, up to one where no chain has an access left.
use Rattle.check_outcomes.proofs.{◌≡◌, arith, ◌⊎◌, Bool, inl, inr, ℕ, ◌≤◌, List, [], ◌∷◌, ◌++◌, refl, sym, ap, ◌∙◌, FileEntry, append-nil, All}
use Rattle.check_outcomes.proofs.{All-tail, true, false, false≢true, Completed, Table, table_after, AllByRecursion, Contains, ⊎_elim, table_with}
use Rattle.check_outcomes.proofs.{accesses_of, accesses_of_chain, Access, ChainAccess, cases_Bool, IsNext, Rest, rules_of, Parts, AreClosed, IsOver}
use Rattle.check_outcomes.proofs.{StateView, AreIdle, are_reads, IsLook, reads_done, are_right, Goes, ends, steps, recorded_first}
use Rattle.check_outcomes.proofs.Words.{step}
use Rattle.check_outcomes.proofs.InTurn.{IsInTurn, OrderGoesOn, first_within, its_first, past_first, has_turn}

pub both_said : {X : Type 0} (P : X → Type 0) (xs ys : List X) → AllByRecursion P xs → AllByRecursion P ys → AllByRecursion P (xs ++ ys)
both_said P [] ys one other = other
both_said P (x ∷ xs) ys one other = (one.0, both_said P xs ys one.1 other)

module _ (catalogue : List FileEntry) (size : ℕ) where
  -- a chain goes on from its place, where it answered this, by these accesses, to its answers in
  -- the end
  abbrev pub OfChain : Rest → List Completed → List Completed → List Access → Type 0
  OfChain rest recorded final accesses = Goes catalogue size (rules_of catalogue size) (are_right catalogue size) (recorded, rest) accesses final

  -- its first access is one that it may make next, and leads to what is left of it
  pub steps_on : (rest : Rest) (recorded final : List Completed) (a : Access) (accesses : List Access) → OfChain rest recorded final (a ∷ accesses)
      → IsNext catalogue size rest a
      × OfChain (step (rules_of catalogue size) rest a).1 (recorded ++ (step (rules_of catalogue size) rest a).0) final accesses
  steps_on rest recorded final a accesses of =
      let (next, goes) = steps catalogue size (rules_of catalogue size) (are_right catalogue size) rest.requests of.memory of.ready of.rest_is in
      (next, recorded_first catalogue size (rules_of catalogue size) (are_right catalogue size) recorded of.whole goes)

  -- without an access that is left it is over
  pub recorded_whole : (rest : Rest) (recorded final : List Completed) → OfChain rest recorded final [] → (rest.requests ≡ []) × (final ≡ recorded)
  recorded_whole rest recorded final of =
      let (none, nothing) = ends catalogue size (rules_of catalogue size) (are_right catalogue size) rest.requests of.memory of.ready of.rest_is in
      (none, of.whole ∙ (rw nothing (append-nil recorded)))

  -- where nothing but reads is left of it, each of its accesses looks at a slot
  pub as_reader : {rest : Rest} {recorded final : List Completed} {accesses : List Access} → are_reads rest.requests ≡ true
      → OfChain rest recorded final accesses → All IsLook accesses
  as_reader {rest} {accesses = accesses} are of =
      let all = (reads_done catalogue size (λ _. Unit {0}) {made = 0} rest.place rest.requests (of.rest_is.front ++ accesses) of.later (λ _ _. tt) are
      of.rest_is.done).0 in
      behind of.rest_is.front accesses all
    where
      behind : (front l : List Access) → All IsLook (front ++ l) → All IsLook l
      behind [] l all = all
      behind (x ∷ front) l all = behind front l (All-tail IsLook x (front ++ l) all)

-- an idle chain is left alone: what it answered and may answer is said, and its accesses look at
-- slots
pub record OfIdle (says : Completed → Type 0) (idle : Rest → Bool) (rest : Rest) (final : List Completed) (accesses : List Access) : Type 0 where
  pub is_idle : idle rest ≡ true
  pub looks : All IsLook accesses
  pub said : AllByRecursion says final

module _ (catalogue : List FileEntry) (size : ℕ) (says : Completed → Type 0) (idle : Rest → Bool) (idling : AreIdle says idle) where
  -- what it answered is said
  abbrev pub IsSaid : Rest → List Completed → List Access → Type 0
  IsSaid rest final accesses = (recorded : List Completed) × AllByRecursion says recorded × OfChain catalogue size rest recorded final accesses

  abbrev pub Plays : Rest → List Completed → List Access → Type 0
  Plays rest final accesses = OfIdle says idle rest final accesses ⊎ IsSaid rest final accesses

  -- a chain that is idle from here on
  as_idle : {rest : Rest} {final : List Completed} {accesses : List Access} → idle rest ≡ true → Plays rest final accesses
      → OfIdle says idle rest final accesses
  as_idle is (inl of) = of
  as_idle {rest} {final} {accesses} is (inr (recorded, said, of)) =
      let later = (reads_done catalogue size says rest.place rest.requests (of.rest_is.front ++ accesses) of.later
      (λ c. idling.said rest c is) (idling.reads rest is) of.rest_is.done).1 in
      record {
        is_idle = is;
        looks = as_reader catalogue size (idling.reads rest is) of;
        said = rw of.whole (both_said says recorded of.later said later);
      }

  -- and a rest that is not idle
  as_chain : {rest : Rest} {final : List Completed} {accesses : List Access} → idle rest ≡ false → Plays rest final accesses
      → IsSaid rest final accesses
  as_chain isnt (inl of) = absurd (false≢true (sym isnt ∙ of.is_idle))
  as_chain isnt (inr of) = of

  -- where nothing but reads is left of it, each of its accesses looks at a slot
  reading : {rest : Rest} {final : List Completed} {accesses : List Access} → are_reads rest.requests ≡ true → Plays rest final accesses
      → All IsLook accesses
  reading are (inl of) = of.looks
  reading are (inr (recorded, said, of)) = as_reader catalogue size are of

  -- without an access that is left it is idle, and has given all its answers
  ended : {rest : Rest} {final : List Completed} → Plays rest final [] → (idle rest ≡ true) × AllByRecursion says final
  ended (inl of) = (of.is_idle, of.said)
  ended {rest} {final} (inr (recorded, said, of)) =
      let (none, whole) = recorded_whole catalogue size rest recorded final of in (idling.over rest none, rw whole said)

  module _ (chains : ℕ) (finals : ℕ → List Completed) where
    abbrev Each : StateView → ℕ → List Access → Type 0
    Each state chain accesses = Plays (state.rests chain) (finals chain) accesses

    -- an order goes on from a state
    abbrev pub Comes : StateView → List ChainAccess → Type 0
    Comes state order = OrderGoesOn chains state.table (Each state) order

    -- its first access is one that its chain may make next, unless the chain is idle
    next_one : {state : StateView} {x : ChainAccess} {order : List ChainAccess} → idle (state.rests x.chain) ≡ false → Comes state (x ∷ order)
        → IsNext catalogue size (state.rests x.chain) x.access
        × (AllByRecursion says (step (rules_of catalogue size) (state.rests x.chain) x.access).0
        → IsSaid (step (rules_of catalogue size) (state.rests x.chain) x.access).1 (finals x.chain) (accesses_of_chain x.chain order))
    next_one {state} {x} awake comes =
        let (recorded, said, of) = as_chain awake (its_first chains comes) in
        let (next, on) = steps_on catalogue size _ recorded _ x.access _ of in
        let now = (step (rules_of catalogue size) (state.rests x.chain) x.access).0 in
        (next, λ saying. (recorded ++ now, both_said says recorded now said saying, on))

    -- the access of an idle chain looks at a slot, and the order goes on without it
    goes_by : {state : StateView} {x : ChainAccess} {order : List ChainAccess} → idle (state.rests x.chain) ≡ true → Comes state (x ∷ order)
        → (table_with state.table x.access ≡ state.table) × Comes state order
    goes_by {state} {x} {order} asleep comes =
        let of = as_idle asleep (its_first chains comes) in
        let same = ap (table_with state.table) (of.looks 0 x.access (omega arith)).2 in
        let others = All-tail IsLook x.access (accesses_of_chain x.chain order) of.looks in
        (same, past_first chains comes (Each state) (sym same) (inl (record { is_idle = asleep; looks = others; said = of.said })) (λ _ _ _ on. on))

    -- where the order is over
    pub record Ended (table : Table) (state : StateView) : Type 0 where
      pub over : IsOver idle chains state
      pub said : (chain : ℕ) → 1 ≤ chain → chain ≤ chains → AllByRecursion says (finals chain)
      pub table_is : state.table ≡ table

    pub runs_on : {states : List StateView} (parts : Parts) → AreClosed catalogue size idle parts says chains states → (order : List ChainAccess)
        → IsInTurn parts.of_chain order → {state : StateView} → Contains states state → Comes state order
        → (end : StateView) × Contains states end × Ended (table_after state.table (accesses_of order)) end
    runs_on parts closed [] by {state} there comes = (
      state,
      there,
      record {
        over = λ chain low high. (ended (comes.each chain low high)).0;
        said = λ chain low high. (ended (comes.each chain low high)).1;
        table_is = refl;
      },
    )
    runs_on parts closed (x ∷ order) by {state} there comes = ⊎_elim
        (λ asleep.
        let (same, on) = goes_by asleep comes in
        rw (same, table_after) (runs_on parts closed order by.1 there on))
        (λ awake.
        let (next, on) = next_one awake comes in
        let (low, high) = first_within chains comes in
        let turn = has_turn idle parts state x order comes.within (λ chain low high none. (ended (rw none at (comes.each chain low high))).0)
        (λ chain low high are. reading are (comes.each chain low high)) by in
        let to = closed state there x.chain low high turn awake x.access next comes.permitted.0 in
        let goes = past_first chains comes (Each to.next) to.leads.table (rw to.leads.own (inr (on to.said)))
        (λ chain low apart still. rw (to.leads.others chain low apart) still) in
        rw (← to.leads.table, table_after) (runs_on parts closed order by.1 to.inside goes))
        (cases_Bool (idle (state.rests x.chain)))
